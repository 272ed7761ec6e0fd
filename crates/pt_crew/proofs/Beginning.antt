-- A crew begins anew: each of its processes is marked, one after the other.
use Rattle.std.proofs.Common.{◌≡◌, ℕ, zero, suc, ◌+◌, true, false, ◌||◌, List, [], ◌∷◌, length, drop, slice_get, ◌≤◌, Result, Ok, Err, OnOk, Option, Some, None, refl, sym, ap, subst, ◌∙◌, append-nil, arith}
use Rattle.std.specs.Prelude.{is_some}
use Rattle.std.specs.List.{list_any}
use Rattle.std.specs.Map.{lookup, keys_of}
use Rattle.std.specs.Option.{option_map}
use Rattle.std.proofs.lemmas.Map.Made.{is_some-lookup}
use Rattle.indexmap.specs.Layout.{set_value_at}
use Rattle.pt_signal.specs.declared.pid.Pid.{Pid}
use Rattle.pt_signal.specs.Values.{same_pid}
use Rattle.pt_shard.specs.ShardState.{ShardState}
use Rattle.pt_crew.specs.declared.crew.Member.{Member}
use Rattle.pt_crew.specs.declared.crew.Crew.{Crew}
use Rattle.pt_crew.specs.Visiting.{AreSame}
use Rattle.pt_crew.specs.Crews.{Attends, AreBorn, HasRoom, HasTimers, members, role, roles}
use Rattle.pt_crew.specs.Parts.{MarkedBut, QueueHolds, Wakes, WakesAt}
use Rattle.pt_signal.proofs.Same.{same_pid_is}
use Rattle.pt_crew.proofs.Places.{same_pid_sym}
use Rattle.pt_behaviour.proofs.Cases.{by_cases, some_none}

module _ {X : Type 0} where
  -- writing at a place leaves the keys
  pub keys_set : (es : List (Pid × X)) (i : ℕ) (w : X) → keys_of (set_value_at es i w) ≡ keys_of es
  keys_set [] i w = refl
  keys_set (e ∷ es) zero w = refl
  keys_set (e ∷ es) (suc i) w = ap (λ ks. e.0 ∷ ks) (keys_set es i w)

  pub rest_of : (es : List (Pid × X)) (i : ℕ) (e : Pid × X) → slice_get es i ≡ Some e → drop i (keys_of es) ≡ e.0 ∷ drop (suc i) (keys_of es)
  rest_of [] i e at = absurd (cc)
  rest_of (x ∷ es) zero e at = let same : x ≡ e = cc in ap (λ (y : Pid × X). y.0 ∷ keys_of es) same
  rest_of (x ∷ es) (suc i) e at = rest_of es i e at

  pub dropped : (es : List (Pid × X)) (n : ℕ) → length es ≤ n → drop n (keys_of es) ≡ []
  dropped [] zero h = refl
  dropped [] (suc n) h = refl
  dropped (e ∷ es) zero h = absurd (omega (arith, h))
  dropped (e ∷ es) (suc n) h = dropped es n (omega (arith, h))

  pub not_held : (p : Pid) (es : List (Pid × X)) → list_any (same_pid p) (keys_of es) ≡ false → lookup (same_pid p) es ≡ None
  not_held p es none = go (lookup (same_pid p) es) (is_some-lookup (same_pid p) es ∙ none)
    where
      go : (o : Option X) → is_some o ≡ false → o ≡ None
      go None h = refl
      go (Some x) h = absurd (cc)

pub marked_first : {B : Type 0} (c : Crew B) → MarkedBut (keys_of c.members.entries) c
marked_first c p m none is = some_none (members c p) m (not_held p c.members.entries none) is

pub marked_next : {B : Type 0} (old new : Crew B) (p : Pid) (rest : List Pid) → Wakes p old new → MarkedBut (p ∷ rest) old → MarkedBut rest new
marked_next old new p rest w before q m none is =
    by_cases (same_pid p q)
    (λ same. w.marked m (at_p same))
    (λ other. before q m (λ n. (same_pid_sym q p ∙ other) n || none n) (sym (w.others q other) ∙ is))
  where
    at_p : same_pid p q ≡ true → members new p ≡ Some m
    at_p same = subst (λ (x : Pid). members new x ≡ Some m) (sym (same_pid_is p q same)) is

next_is : (i : ℕ) → suc i ≡ i + 1
next_is i = omega arith

pub woken_at : {B : Type 0} (i : ℕ) (old new : Crew B) (e : Pid × Member B) → slice_get old.members.entries i ≡ Some e → keys_of new.members.entries ≡ keys_of old.members.entries
    → Wakes e.0 old new → WakesAt i old new
woken_at i old new e at keys w = record {
  keys = keys;
  marked = λ before. subst (λ n. MarkedBut (drop n (keys_of old.members.entries)) new) (next_is i)
      (marked_next old new e.0 (drop (suc i) (keys_of old.members.entries)) w (subst (λ (ps : List Pid). MarkedBut ps old) (rest_of old.members.entries i e at) before));
  roles = w.roles;
  queued = w.queued;
  longer = w.longer;
  timers = w.timers;
  rest = w.rest;
}

count_keys : {X : Type 0} (es : List (Pid × X)) → length (keys_of es) ≡ length es
count_keys [] = refl
count_keys (e ∷ es) = ap suc (count_keys es)

same_length : {X : Type 0} (es fs : List (Pid × X)) → keys_of es ≡ keys_of fs → length es ≡ length fs
same_length es fs e = sym (count_keys es) ∙ ap length e ∙ count_keys fs

-- the loop has come behind the last
pub all_marked : {B : Type 0} (old new : Crew B) (place : ℕ) → length old.members.entries ≤ place → keys_of new.members.entries ≡ keys_of old.members.entries
    → MarkedBut (drop place (keys_of new.members.entries)) new → MarkedBut [] new
all_marked old new place past keys marked = subst (λ (ps : List Pid). MarkedBut ps new) (dropped new.members.entries place (let l = same_length new.members.entries old.members.entries keys in omega (arith, l, past))) marked

-- all are marked, and nothing of the journal was read
pub begun_again : {B : Type 0} (old new : Crew B) (d e : ShardState) → new.read ≡ 0 → MarkedBut [] new → AreSame (roles old) (roles new) → (QueueHolds old → QueueHolds new)
    → (HasRoom old → HasRoom new) → (HasTimers old → HasTimers new) → Attends old d → AreBorn (roles old) e → Attends new e
begun_again {B} old new d e unread marked same queued room timers a born = record {
  knows = record {
    more = e.journal;
    seen = [];
    journal = sym (append-nil e.journal);
    counted = sym unread;
    queued = queued a.knows.queued;
    born = λ p m is. born p (role m) (sym (same p) ∙ ap (option_map role) is);
    awake = λ p m is work none. marked p m refl is;
  };
  room = room a.room;
  timers = timers a.timers;
}

pub on_ok_then : {A E P Q : Type 0} (r : Result A E) → OnOk r P → (P → Q) → OnOk r Q
on_ok_then (Ok a) h f = f h
on_ok_then (Err e) h f = tt
