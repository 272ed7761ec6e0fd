-- The changes of an event, applied to the state before it, give the state after it.
use Rattle.std.proofs.Common.{◌≡◌, ℕ, suc, ◌+◌, ◌≤◌, Bool, true, false, not, cond, ◌||◌, Option, Some, None, is_some, List, [], ◌∷◌, ◌++◌, map, length, nat_lt, ltb-false, refl, ap, ap₂, sym, ◌∙◌, subst, arith, append-nil, append_assoc}
use Rattle.std.specs.Prelude.{position, remove, slice_get}
use Rattle.std.specs.List.{flat_map, position_or_len, list_any}
use Rattle.std.specs.Map.{lookup}
use Rattle.std.proofs.lemmas.List.Concat.{flat_map-append}
use Rattle.pt_signal.specs.declared.pid.Pid.{Pid}
use Rattle.pt_signal.specs.declared.ids.Ref.{Ref}
use Rattle.pt_signal.specs.declared.ids.LinkId.{LinkId}
use Rattle.pt_signal.specs.declared.ids.Ids.{Ids}
use Rattle.pt_signal.specs.declared.item.Pick.{Pick}
use Rattle.pt_signal.specs.declared.item.Item.{Item}
use Rattle.pt_signal.specs.declared.reason.Reason.{Reason}
use Rattle.pt_signal.specs.declared.signal.Signal.{Signal}
use Rattle.pt_signal.specs.declared.signal.Signal.TheVariants.{Message, Link, Unlink, LinkExit, Monitor, Demonitor, AliveAsk, AliveSay}
use Rattle.pt_signal.specs.Values.{same_pid, same_ref, fits, without_first}
use Rattle.pt_signal.specs.Process.{ProcessState, fresh, held, one_id, add_id, enter_at, enter, cut_at, cut, leave_at, without_ids, holds_any, same_watch}
use Rattle.pt_signal.specs.Process.{Verdict, drops, queues, ends, verdict, obey, Handled, handle, link_exit, down, say, Sent, sent}
use Rattle.pt_signal.proofs.Same.{same_pid_is, same_pid_refl}
use Rattle.pt_events.specs.declared.event.Event.{Event}
use Rattle.pt_events.specs.declared.event.Event.TheVariants.{Born, Said, Came, Took, Flag, Left, Refused}
use Rattle.pt_events.specs.History.{Phase, Start, unborn, living, ended, is_living, is_unborn, state_of, reason_of, end_sends, is_the, is_between, linked, newborn, while_living, live_or_end, gets, leaves, change, after, landed}
use Rattle.pt_judge.specs.declared.cause.Cause.{Cause}
use Rattle.pt_judge.specs.declared.cause.Cause.TheVariants.{BornTwice, NotAlive}
use Rattle.pt_judge.specs.Judging.{JudgeState, now_is, known_state, cause, lived, answered, judge_sends, IsStep}
use Rattle.pt_judge.specs.Places.{first_place}
use Rattle.pt_judge.proofs.FirstPlaces.{removed, none_removed}
use Rattle.pt_auditor.specs.declared.change.Change.{Change}
use Rattle.pt_auditor.specs.declared.change.Did.{Did}
use Rattle.pt_auditor.specs.Changes.{did, dids, ids_entered, left_linked, cut_changes, obeyed, say_changes, receipt_changes, birth_changes, taken_change, take_changes, held_changes, sends_besides, did_send, event_changes}
use Rattle.pt_auditor.specs.Changes.{links_with, apply, apply_all, sends_of_change, said_by, next_reader, IsReaderOf, KeepsState, reader_after, StepsTellState}
use Rattle.pt_auditor.proofs.Carried.{front_gone}

-- the signals that are added -----------------------------------------------------------------

pub sends_more : (now : List Did) (a b : Pid) (x : Signal) (rest rest' : List Sent) → Some (sent a b x) ≡ slice_get rest 0 → rest' ≡ without_first (is_between a b) rest
    → (rest ≡ sent a b x ∷ rest') × ((now ++ did_send (sent a b x) ∷ []) ++ map did_send rest' ≡ now ++ map did_send rest)
sends_more now a b x rest rest' h w =
    let own : is_between a b (sent a b x) ≡ true = rw (same_pid_refl a, same_pid_refl b) refl in
    let gone : rest ≡ sent a b x ∷ rest' = front_gone a b rest (sent a b x) h own ∙ ap (λ z. sent a b x ∷ z) (sym w) in
    (gone, append_assoc now (did_send (sent a b x) ∷ []) (map did_send rest') ∙ ap (λ z. now ++ map did_send z) (sym gone))

pub sends_over : (now all : List Did) (rest : List Sent) → now ++ map did_send rest ≡ all → None ≡ slice_get rest 0 → now ≡ all
sends_over now all [] h none = sym (append-nil now) ∙ h
sends_over now all (x ∷ rest) h none = absurd (cc)

module _ (old new : JudgeState) where
  -- what the judge says that an event sends
  pub sends_told : (e : Event) → IsStep old e new → said_by e ++ sends_besides (now_is old) e ≡ judge_sends new.lives (lived old.lives e) e
  sends_told (Came a b x) t =
      ap (λ g. cond (is_living (now_is old b)) (answered b a x ++ end_sends b (reason_of g) (state_of g)) (Rattle.pt_signal.specs.Process.bounce b a x)) (sym (t.lives b))
  sends_told (Left p r) t = ap (λ g. cond (is_living (now_is old p)) (end_sends p (reason_of g) (state_of g)) []) (sym (t.lives p))
  sends_told (Born p parent link) t = refl
  sends_told (Said a b x) t = refl
  sends_told (Took p k i) t = refl
  sends_told (Flag p on) t = refl
  sends_told (Refused a b) t = refl

-- one process ----------------------------------------------------------------------------------

-- changes of one process, one after the other
abbrev through : List Change → Phase → Phase
through [] f = f
through (c ∷ cs) f = through cs (apply c f)

enters : (o : Option Ids) (q : Pid) (i : LinkId) (links : List (Pid × Ids)) → links_with o q (ids_entered o i) links ≡ enter_at o q i links
enters None q i links = refl
enters (Some ids) q i links = refl

abbrev links_now : ProcessState → List (Pid × Ids) → Phase
links_now s links = living (record s { links = links })

cut_through : (s : ProcessState) (q : Pid) (ids : Ids) (o : Option Ids) → held s.links q ≡ o → through (cut_changes o q ids) (living s) ≡ links_now s (cut_at o q ids s.links)
cut_through s q ids None h = refl
cut_through s q ids (Some had) h = go (without_ids ids had)
  where
    go : (left : Option Ids) → through (left_linked left q) (living s) ≡ links_now s (leave_at left q s.links)
    go None = refl
    go (Some left) = ap (λ o. links_now s (links_with o q left s.links)) h

obeyed_through : (v : Verdict) (s : ProcessState) → through (obeyed v) (living s) ≡ live_or_end (obey v s).ending (obey v s).state
obeyed_through drops s = refl
obeyed_through (queues item) s = refl
obeyed_through (ends r) s = refl

exit_through : (b : Bool) (me : Pid) (s : ProcessState) (from : Pid) (r : Reason)
    → through (cond b (Change.Unlink from ∷ obeyed (verdict true s.traps (same_pid from me) from r)) []) (living s) ≡ live_or_end (link_exit b me s from r).ending (link_exit b me s from r).state
exit_through true me s from r = obeyed_through (verdict true s.traps (same_pid from me) from r) (record s { links = Rattle.std.specs.Map.remove_entry (same_pid from) s.links })
exit_through false me s from r = refl

down_through : (o : Option Pid) (s : ProcessState) (from : Pid) (m : Ref) (r : Reason)
    → through (cond (is_some o) (Change.Unwatch m from ∷ Change.Queue (Item.Down m from r) ∷ []) []) (living s) ≡ live_or_end (down o s from m r).ending (down o s from m r).state
down_through None s from m r = refl
down_through (Some target) s from m r = refl

-- where no watch is kept under the reference, none goes
not_kept : (m : Ref) (w : Pid) (kept : List (Ref × Pid)) → is_some (lookup (same_ref m) kept) ≡ false → without_first (same_watch m w) kept ≡ kept
not_kept m w [] h = refl
not_kept m w (k ∷ kept) h = go (same_ref m k.0) refl h (not_kept m w kept)
  where
    go : (b : Bool) → same_ref m k.0 ≡ b → is_some (lookup (same_ref m) (k ∷ kept)) ≡ false → (is_some (lookup (same_ref m) kept) ≡ false → without_first (same_watch m w) kept ≡ kept) → without_first (same_watch m w) (k ∷ kept) ≡ k ∷ kept
    go true e f ih = let g : true ≡ false = rw e at f in absurd (cc)
    go false e f ih = let g : is_some (lookup (same_ref m) kept) ≡ false = rw e at f in rw e (ap (λ z. k ∷ z) (ih g))

unkept_through : (s : ProcessState) (m : Ref) (w : Pid) (b : Bool) → is_some (lookup (same_ref m) s.kept) ≡ b → through (cond b (Change.Unwatched m w ∷ []) []) (living s) ≡ living (record s { kept = without_first (same_watch m w) s.kept })
unkept_through s m w true h = refl
unkept_through s m w false h = ap (λ z. living (record s { kept = z })) (sym (not_kept m w s.kept h))

receipt_through : (me : Pid) (s : ProcessState) (from : Pid) (x : Signal) → through (receipt_changes me (living s) from x) (living s) ≡ gets me from x (living s)
receipt_through me s from (Message body) = refl
receipt_through me s from (Link i) = ap (links_now s) (enters (held s.links from) from i s.links)
receipt_through me s from (Unlink ids) = cut_through s from ids (held s.links from) refl
receipt_through me s from (Signal.Exit r) = obeyed_through (verdict false s.traps (same_pid from me) from r) s
receipt_through me s from (LinkExit ids r) = exit_through (holds_any (held s.links from) ids) me s from r
receipt_through me s from (Monitor m) = refl
receipt_through me s from (Demonitor m) = unkept_through s m from (is_some (lookup (same_ref m) s.kept)) refl
receipt_through me s from (Signal.Down m r) = down_through (lookup (same_ref m) s.watching) s from m r
receipt_through me s from (AliveAsk m) = refl
receipt_through me s from (AliveSay m x) = refl

say_through : (s : ProcessState) (to : Pid) (x : Signal) → through (say_changes s to x) (living s) ≡ living (say s to x)
say_through s to (Message body) = refl
say_through s to (Link i) = ap (links_now s) (enters (held s.links to) to i s.links)
say_through s to (Unlink ids) = cut_through s to ids (held s.links to) refl
say_through s to (Signal.Exit r) = refl
say_through s to (LinkExit ids r) = refl
say_through s to (Monitor m) = refl
say_through s to (Demonitor m) = refl
say_through s to (Signal.Down m r) = refl
say_through s to (AliveAsk m) = refl
say_through s to (AliveSay m x) = refl

place_is : {X : Type 0} (test : X → Bool) (xs : List X) → position_or_len test xs ≡ first_place test xs
place_is test [] = refl
place_is test (x ∷ xs) = go (test x) (place_is test xs)
  where
    go : (b : Bool) → position_or_len test xs ≡ first_place test xs → cond (not b) (1 + position_or_len test xs) 0 ≡ cond b 0 (suc (first_place test xs))
    go true ih = refl
    go false ih = omega (arith, ih)

take_through : (k : Pick) (s : ProcessState) → through (taken_change (position (fits k) s.waiting)) (living s) ≡ living (record s { waiting = without_first (fits k) s.waiting })
take_through k s = go (nat_lt (position_or_len (fits k) s.waiting) (length s.waiting)) refl
  where
    at : position_or_len (fits k) s.waiting ≡ first_place (fits k) s.waiting
    at = place_is (fits k) s.waiting

    go : (b : Bool) → nat_lt (position_or_len (fits k) s.waiting) (length s.waiting) ≡ b
        → through (taken_change (cond b (Some (position_or_len (fits k) s.waiting)) None)) (living s) ≡ living (record s { waiting = without_first (fits k) s.waiting })
    go true e = ap (λ w. living (record s { waiting = w })) (ap (remove s.waiting) at ∙ removed (fits k) s.waiting)
    go false e = ap (λ w. living (record s { waiting = w })) (none_removed (fits k) s.waiting (subst (λ n. length s.waiting ≤ n) at (ltb-false _ _ e)))

-- what the event changes of its process, whether that lives or not
said_through : (a b : Pid) (x : Signal) (f : Phase) → through (cond (is_living f) (say_changes (state_of f) b x) []) f ≡ change a (Said a b x) f
said_through a b x unborn = refl
said_through a b x (ended r s) = refl
said_through a b x (living s) = say_through s b x

came_through : (a b : Pid) (x : Signal) (f : Phase) → through (cond (is_living f) (receipt_changes b f a x) []) f ≡ change b (Came a b x) f
came_through a b x unborn = refl
came_through a b x (ended r s) = refl
came_through a b x (living s) = receipt_through b s a x

took_through : (p : Pid) (k : Pick) (i : Item) (f : Phase) → through (take_changes f k) f ≡ change p (Took p k i) f
took_through p k i unborn = refl
took_through p k i (ended r s) = refl
took_through p k i (living s) = take_through k s

flag_through : (p : Pid) (on : Bool) (f : Phase) → apply (Change.Trap on) f ≡ change p (Flag p on) f
flag_through p on unborn = refl
flag_through p on (ended r s) = refl
flag_through p on (living s) = refl

left_through : (p : Pid) (r : Reason) (f : Phase) → apply (Change.End r) f ≡ change p (Left p r) f
left_through p r unborn = refl
left_through p r (ended why s) = refl
left_through p r (living s) = refl

-- all processes --------------------------------------------------------------------------------

own_all : (q : Pid) (cs : List Change) (f : Phase) → apply_all q (dids q cs) f ≡ through cs f
own_all q [] f = refl
own_all q (c ∷ cs) f = ap (λ b. apply_all q (dids q cs) (cond b (apply c f) f)) (same_pid_refl q) ∙ own_all q cs (apply c f)

other_all : (p q : Pid) → same_pid p q ≡ false → (cs : List Change) (f : Phase) → apply_all p (dids q cs) f ≡ f
other_all p q h [] f = refl
other_all p q h (c ∷ cs) f = ap (λ b. apply_all p (dids q cs) (cond b (apply c f) f)) h ∙ other_all p q h cs f

unsent : (to : Pid) (x : Signal) (b : Bool) (f : Phase) → cond b (apply (Change.Send to x) f) f ≡ f
unsent to x false f = refl
unsent to x true unborn = refl
unsent to x true (ended r s) = refl
unsent to x true (living s) = refl

-- what is sent changes no process
sends_all : (p : Pid) (xs : List Sent) (f : Phase) → apply_all p (map did_send xs) f ≡ f
sends_all p [] f = refl
sends_all p (x ∷ xs) f = ap (apply_all p (map did_send xs)) (unsent x.to x.signal (same_pid p x.from) f) ∙ sends_all p xs f

without_sends : (p : Pid) (ds : List Did) (xs : List Sent) (f : Phase) → apply_all p (ds ++ map did_send xs) f ≡ apply_all p ds f
without_sends p [] xs f = sends_all p xs f
without_sends p (d ∷ ds) xs f = without_sends p ds xs (cond (same_pid p d.of) (apply d.change f) f)

module _ (is : Pid → Phase) (p : Pid) where
  of_one : (q : Pid) (e : Event) (cs : List Change) → through cs (is q) ≡ change q e (is q) → apply_all p (dids q cs) (is p) ≡ cond (same_pid p q) (change p e (is p)) (is p)
  of_one q e cs h = go (same_pid p q) refl
    where
      go : (b : Bool) → same_pid p q ≡ b → apply_all p (dids q cs) (is p) ≡ cond b (change p e (is p)) (is p)
      go true w = subst (λ z. apply_all z (dids q cs) (is z) ≡ change z e (is z)) (sym (same_pid_is p q w)) (own_all q cs (is q) ∙ h)
      go false w = other_all p q w cs (is p)

  -- a birth without a link
  born_alone : (q : Pid) (parent : Option Pid) (link : Option LinkId) → is q ≡ unborn → newborn parent link unborn ≡ living fresh
      → (is_the p parent ≡ true → while_living (linked (Some q) link) (is p) ≡ is p) → apply_all p (did q Change.Born ∷ []) (is p) ≡ after p (Born q parent link) (is p)
  born_alone q parent link u n same = go (same_pid p q) refl
    where
      other : (b : Bool) → is_the p parent ≡ b → is p ≡ cond b (while_living (linked (Some q) link) (is p)) (is p)
      other true w = sym (same w)
      other false w = refl

      go : (b : Bool) → same_pid p q ≡ b → cond b (apply Change.Born (is p)) (is p)
          ≡ cond (b || is_the p parent) (cond b (newborn parent link (is p)) (while_living (linked (Some q) link) (is p))) (is p)
      go true w = let f : is p ≡ unborn = ap is (same_pid_is p q w) ∙ u in rw f (sym n)
      go false w = other (is_the p parent) refl

  unlinked : (q : Pid) (f : Phase) → while_living (linked (Some q) None) f ≡ f
  unlinked q unborn = refl
  unlinked q (ended r s) = refl
  unlinked q (living s) = refl

  linked_parent : (q : Pid) (i : LinkId) (f : Phase) → apply (Change.Link q (ids_entered (held (state_of f).links q) i)) f ≡ while_living (linked (Some q) (Some i)) f
  linked_parent q i unborn = refl
  linked_parent q i (ended r s) = refl
  linked_parent q i (living s) = ap (links_now s) (enters (held s.links q) q i s.links)

  born_linked : (q r : Pid) (i : LinkId) → is q ≡ unborn → is_living (is r) ≡ true → apply_all p (birth_changes is q (Some r) (Some i)) (is p) ≡ after p (Born q (Some r) (Some i)) (is p)
  born_linked q r i u l = go (same_pid p q) (same_pid p r) refl refl
    where
      ids : Ids
      ids = ids_entered (held (state_of (is r)).links q) i

      go : (b c : Bool) → same_pid p q ≡ b → same_pid p r ≡ c
          → cond c (apply (Change.Link q ids) (cond b (apply (Change.Link r (one_id i)) (cond b (apply Change.Born (is p)) (is p))) (cond b (apply Change.Born (is p)) (is p)))) (cond b (apply (Change.Link r (one_id i)) (cond b (apply Change.Born (is p)) (is p))) (cond b (apply Change.Born (is p)) (is p)))
          ≡ cond (b || c) (cond b (newborn (Some r) (Some i) (is p)) (while_living (linked (Some q) (Some i)) (is p))) (is p)
      go true true v w = let f : is_living unborn ≡ true = ap is_living (sym u ∙ ap is (sym (same_pid_is p q v) ∙ same_pid_is p r w)) ∙ l in absurd (cc)
      go true false v w = let f : is p ≡ unborn = ap is (same_pid_is p q v) ∙ u in rw f refl
      go false true v w =
          let same : p ≡ r = same_pid_is p r w in
          ap (λ z. apply (Change.Link q (ids_entered (held (state_of (is z)).links q) i)) (is p)) (sym same) ∙ linked_parent q i (is p)
      go false false v w = refl

  -- a birth is of a pid that is unborn, by a parent that lives
  abbrev MayBear : Event → Type 0
  MayBear (Born q None link) = is q ≡ unborn
  MayBear (Born q (Some r) link) = (is q ≡ unborn) × (is_living (is r) ≡ true)
  MayBear _ = Unit {0}

  -- what the event event_changes is what becomes of the process
  held_is : (e : Event) → MayBear e → apply_all p (held_changes is e) (is p) ≡ after p e (is p)
  held_is (Born q None link) h = born_alone q None link h refl (λ w. absurd (cc))
  held_is (Born q (Some r) None) h = born_alone q (Some r) None h.0 refl (λ w. unlinked q (is p))
  held_is (Born q (Some r) (Some i)) h = born_linked q r i h.0 h.1
  held_is (Said a b x) h = of_one a (Said a b x) (cond (is_living (is a)) (say_changes (state_of (is a)) b x) []) (said_through a b x (is a))
  held_is (Came a b x) h = of_one b (Came a b x) (cond (is_living (is b)) (receipt_changes b (is b) a x) []) (came_through a b x (is b))
  held_is (Took q k i) h = of_one q (Took q k i) (take_changes (is q) k) (took_through q k i (is q))
  held_is (Flag q on) h = of_one q (Flag q on) (Change.Trap on ∷ []) (flag_through q on (is q))
  held_is (Left q r) h = of_one q (Left q r) (Change.End r ∷ []) (left_through q r (is q))
  held_is (Refused a b) h = refl

-- what is sent -----------------------------------------------------------------------------------

abbrev sends_in : Pid → List Change → List Sent
sends_in p cs = flat_map (sends_of_change p) cs

sends_of_dids : (p : Pid) (cs : List Change) → flat_map (λ d. sends_of_change d.of d.change) (dids p cs) ≡ sends_in p cs
sends_of_dids p [] = refl
sends_of_dids p (c ∷ cs) = ap (λ z. sends_of_change p c ++ z) (sends_of_dids p cs)

sends_of_sends : (xs : List Sent) → flat_map (λ d. sends_of_change d.of d.change) (map did_send xs) ≡ xs
sends_of_sends [] = refl
sends_of_sends (x ∷ xs) = ap (λ z. x ∷ z) (sends_of_sends xs)

cut_quiet : (p : Pid) (o : Option Ids) (q : Pid) (ids : Ids) → sends_in p (cut_changes o q ids) ≡ []
cut_quiet p None q ids = refl
cut_quiet p (Some had) q ids = go (without_ids ids had)
  where
    go : (left : Option Ids) → sends_in p (left_linked left q) ≡ []
    go None = refl
    go (Some left) = refl

obeyed_quiet : (p : Pid) (v : Verdict) → sends_in p (obeyed v) ≡ []
obeyed_quiet p drops = refl
obeyed_quiet p (queues item) = refl
obeyed_quiet p (ends r) = refl

cond_quiet : (p : Pid) (b : Bool) (cs : List Change) → sends_in p cs ≡ [] → sends_in p (cond b cs []) ≡ []
cond_quiet p true cs h = h
cond_quiet p false cs h = refl

receipt_quiet : (p me : Pid) (f : Phase) (from : Pid) (x : Signal) → sends_in p (receipt_changes me f from x) ≡ []
receipt_quiet p me f from (Unlink ids) = cut_quiet p (held (state_of f).links from) from ids
receipt_quiet p me f from (Signal.Exit r) = obeyed_quiet p (verdict false (state_of f).traps (same_pid from me) from r)
receipt_quiet p me f from (LinkExit ids r) =
    cond_quiet p (holds_any (held (state_of f).links from) ids) (Change.Unlink from ∷ obeyed (verdict true (state_of f).traps (same_pid from me) from r))
    (obeyed_quiet p (verdict true (state_of f).traps (same_pid from me) from r))
receipt_quiet p me f from (Demonitor m) = cond_quiet p (is_some (lookup (same_ref m) (state_of f).kept)) (Change.Unwatched m from ∷ []) refl
receipt_quiet p me f from (Signal.Down m r) = cond_quiet p (is_some (lookup (same_ref m) (Rattle.pt_events.specs.History.open_monitors f))) (Change.Unwatch m from ∷ Change.Queue (Item.Down m from r) ∷ []) refl
receipt_quiet p me f from (Message body) = refl
receipt_quiet p me f from (Link i) = refl
receipt_quiet p me f from (Monitor m) = refl
receipt_quiet p me f from (AliveAsk m) = refl
receipt_quiet p me f from (AliveSay m x) = refl

say_quiet : (p : Pid) (s : ProcessState) (to : Pid) (x : Signal) → sends_in p (say_changes s to x) ≡ []
say_quiet p s to (Unlink ids) = cut_quiet p (held s.links to) to ids
say_quiet p s to (Message body) = refl
say_quiet p s to (Link i) = refl
say_quiet p s to (Signal.Exit r) = refl
say_quiet p s to (LinkExit ids r) = refl
say_quiet p s to (Monitor m) = refl
say_quiet p s to (Demonitor m) = refl
say_quiet p s to (Signal.Down m r) = refl
say_quiet p s to (AliveAsk m) = refl
say_quiet p s to (AliveSay m x) = refl

take_quiet : (p : Pid) (f : Phase) (k : Pick) → sends_in p (take_changes f k) ≡ []
take_quiet p f k = cond_quiet p (is_living f) (taken_change (position (fits k) (state_of f).waiting)) (go (position (fits k) (state_of f).waiting))
  where
    go : (o : Option ℕ) → sends_in p (taken_change o) ≡ []
    go None = refl
    go (Some n) = refl

held_quiet : (is : Pid → Phase) (e : Event) → flat_map (λ d. sends_of_change d.of d.change) (held_changes is e) ≡ []
held_quiet is (Born q None link) = refl
held_quiet is (Born q (Some r) None) = refl
held_quiet is (Born q (Some r) (Some i)) = refl
held_quiet is (Said a b x) =
    sends_of_dids a (cond (is_living (is a)) (say_changes (state_of (is a)) b x) [])
    ∙ cond_quiet a (is_living (is a)) (say_changes (state_of (is a)) b x) (say_quiet a (state_of (is a)) b x)
held_quiet is (Came a b x) =
    sends_of_dids b (cond (is_living (is b)) (receipt_changes b (is b) a x) [])
    ∙ cond_quiet b (is_living (is b)) (receipt_changes b (is b) a x) (receipt_quiet b b (is b) a x)
held_quiet is (Took q k i) = sends_of_dids q (take_changes (is q) k) ∙ take_quiet q (is q) k
held_quiet is (Flag q on) = refl
held_quiet is (Left q r) = refl
held_quiet is (Refused a b) = refl

sends_of_event : (is : Pid → Phase) (e : Event) → flat_map (λ d. sends_of_change d.of d.change) (event_changes is e) ≡ sends_besides is e
sends_of_event is e =
    flat_map-append (λ d. sends_of_change d.of d.change) (held_changes is e) (map did_send (sends_besides is e))
    ∙ ap₂ (λ y z. y ++ z) (held_quiet is e) (sends_of_sends (sends_besides is e))

-- an event that may come -------------------------------------------------------------------------

both_hold : (b : Bool) (o : Option Cause) (c : Cause) → cond b o (Some c) ≡ None → (b ≡ true) × (o ≡ None)
both_hold true o c h = (refl, h)
both_hold false o c h = absurd (cc)

neither_holds : (b : Bool) (o : Option Cause) (c : Cause) → cond b (Some c) o ≡ None → b ≡ false
neither_holds true o c h = absurd (cc)
neither_holds false o c h = refl

not_false : (b : Bool) → not b ≡ false → b ≡ true
not_false true h = refl
not_false false h = absurd (cc)

unborn_is : (f : Phase) → is_unborn f ≡ true → f ≡ unborn
unborn_is unborn h = refl
unborn_is (living s) h = absurd (cc)
unborn_is (ended r s) h = absurd (cc)

may_bear : (s : JudgeState) (p : Pid) (e : Event) → cause (known_state s) e ≡ None → MayBear (now_is s) p e
may_bear s p (Born q None link) h = unborn_is (now_is s q) (both_hold (is_unborn (now_is s q)) _ BornTwice h).0
may_bear s p (Born q (Some r) link) h =
    let parts = both_hold (is_unborn (now_is s q)) _ BornTwice h in
    (unborn_is (now_is s q) parts.0, not_false (is_living (now_is s r)) (neither_holds (not (is_living (now_is s r))) _ NotAlive parts.1))
may_bear s p (Said a b x) h = tt
may_bear s p (Came a b x) h = tt
may_bear s p (Took q k i) h = tt
may_bear s p (Flag q on) h = tt
may_bear s p (Left q r) h = tt
may_bear s p (Refused a b) h = tt

pub keeps_state : KeepsState
keeps_state old new e v may t k = record {
  alike = λ p.
      ap (apply_all p (event_changes (now_is old) e)) (k.alike p)
      ∙ without_sends p (held_changes (now_is old) e) (sends_besides (now_is old) e) (now_is old p)
      ∙ held_is (now_is old) p e (may_bear old p e may)
      ∙ sym (t.lives p);
  flies =
      ap (λ z. landed e v.flights ++ (said_by e ++ z)) (sends_of_event (now_is old) e)
      ∙ ap₂ (λ y z. landed e y ++ z) k.flies (sends_told old new e t)
      ∙ sym t.flights;
}

pub steps_tell_state : StepsTellState
steps_tell_state start s [] v leads k = subst (λ z. IsReaderOf z v) (sym leads) k
steps_tell_state start s (step ∷ past) v leads k =
    let old = leads.0 in
    let told = leads.2 in
    subst (λ ds. IsReaderOf s (next_reader step.0 ds (reader_after v past))) (sym told.told)
    (keeps_state old s step.0 (reader_after v past) told.may told.next (steps_tell_state start old past v leads.1 k))
