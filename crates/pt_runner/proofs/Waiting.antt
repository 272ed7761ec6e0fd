-- What a runner knows of those that wait stays true, and who sleeps finds nothing.
use Rattle.std.proofs.Common.{◌≡◌, ◌≢◌, ◌⊎◌, inl, inr, ℕ, zero, suc, ◌+◌, ◌-◌, ◌<◌, ◌≤◌, Bool, true, false, cond, ◌||◌, ◌&&◌, ◌==◌, leb-true, List, [], ◌∷◌, ◌++◌, length, length-append, reverse, take, map, get_or, set, slice_get, Option, Some, None, Ok, refl, sym, ap, subst, ◌∙◌, append_assoc, append-nil, add-one, arith}
use Rattle.std.specs.Prelude.{not}
use Rattle.std.specs.List.{All, find, filter, list_all, list_any}
use Rattle.std.specs.Option.{option_map}
use Rattle.std.proofs.lemmas.Bool.{cases_lt, eqb-true}
use Rattle.std.proofs.lemmas.List.{get_or_default, length-reverse, take_all}
use Rattle.std.proofs.lemmas.List.Elements.{All-nil, All-cons, All-head, All-tail, All-set, All-push, All-weaker}
use Rattle.std.proofs.lemmas.List.Folds.{list_any-append}
use Rattle.pt_signal.specs.declared.ids.Ref.{Ref}
use Rattle.pt_signal.specs.declared.item.Item.{Item}
use Rattle.pt_signal.specs.declared.item.Pick.{Pick}
use Rattle.pt_signal.specs.declared.pid.Pid.{Pid}
use Rattle.pt_signal.specs.Values.{same_pid, fits}
use Rattle.pt_signal.proofs.Same.{same_pid_is}
use Rattle.pt_events.specs.declared.event.Event.{Event}
use Rattle.pt_events.specs.declared.event.Event.TheVariants.{Born, Said, Came, Took, Flag, Left, Refused}
use Rattle.pt_events.specs.declared.event.Stamped.{Stamped}
use Rattle.pt_shard.specs.ShardState.{ShardState, lives, state_in}
use Rattle.pt_shard.specs.Calls.{Calls, CanWriteIf, after_if, first_match, take_event}
use Rattle.pt_shard.specs.Extends.{Extends}
use Rattle.pt_workers.specs.Waking.{came_in, came_to}
use Rattle.pt_workers.proofs.Unread.{Oldest, oldest}
use Rattle.pt_workers.proofs.Waiting.{neither}
use Rattle.pt_runner.proofs.NothingFound.{finds_nothing_later}
use Rattle.pt_script.specs.Plans.{Plan}
use Rattle.pt_script.specs.declared.values.Operation.{Operation}
use Rattle.pt_script.specs.declared.values.Operation.TheVariants.{Receive}
use Rattle.pt_script.specs.declared.values.Pattern.{Pattern}
use Rattle.pt_script.specs.declared.values.Pattern.TheVariants.{Any, Kind, From, ExitOf, DownOf, AliveOf}
use Rattle.pt_runner.specs.declared.calls.Progress.TheVariants.{Waits}
use Rattle.pt_runner.specs.declared.runner.Actor.{Actor}
use Rattle.pt_runner.specs.declared.runner.Runner.{Runner}
use Rattle.pt_runner.specs.Acting.{Acting, ActsAt, DoesOperation, Plays, acting, next_of, pick_meant, set_acting}
use Rattle.pt_runner.specs.Waiting.{RunnerAttends, FindsNothing, IsFresh, IsNoted, IsTrueOf, IsUnmarked, RunnerKnows, KnowsOf, WaitsSince, is_before, marked, sleeps, rests, idle_runner, none_fits, takes_none, is_out_of_work, ActorRests, AllRest}
use Rattle.pt_events.specs.Since.{after_oldest}
use Rattle.pt_runner.proofs.Acting.{table_of, acting_at, acting_within, set_actor, take_at}

-- whom nothing came to ------------------------------------------------------------------------

finds_later : (plans : List Plan) (pids : List (Option Pid)) (a : Acting) (old new : ShardState) (e : Extends old new) → came_in a.pid e.more ≡ false → FindsNothing plans pids a old → FindsNothing plans pids a new
finds_later plans pids a old new e none f =
    let now = finds_nothing_later old new e f.pick a.pid none f.alive f.nothing in
    record { pattern = f.pattern; pick = f.pick; next = f.next; picks = f.picks; alive = now.0; nothing = now.1 }

-- the journal grows -----------------------------------------------------------------------------

since_later : (w : ℕ) (more old : List Stamped) → w ≤ length old → after_oldest w (more ++ old) ≡ more ++ after_oldest w old
since_later w [] old h = refl
since_later w (s ∷ more) old h =
    let l = length-append more old in
    let one : length (s ∷ (more ++ old)) - w ≡ suc (length (more ++ old) - w) = omega (arith, l, h) in
    ap (λ n. take n (s ∷ (more ++ old))) one ∙ ap (λ (xs : List Stamped). s ∷ xs) (since_later w more old h)

waits_later : (plans : List Plan) (pids : List (Option Pid)) (a : Acting) (w : ℕ) (old new : ShardState) → Extends old new → WaitsSince plans pids a w old → WaitsSince plans pids a w new
waits_later plans pids a w old new e h = record {
  within = let l = length-append e.more old.journal in let j = ap length e.journal in let i = h.within in omega (arith, l, j, i);
  finds = λ none.
      let split : came_in a.pid (after_oldest w new.journal) ≡ (came_in a.pid e.more || came_in a.pid (after_oldest w old.journal)) =
      ap (λ (j : List Stamped). came_in a.pid (after_oldest w j)) e.journal ∙ ap (came_in a.pid) (since_later w e.more old.journal h.within)
      ∙ list_any-append (λ (s : Stamped). came_to a.pid s.event) e.more (after_oldest w old.journal) in
      let two = neither (came_in a.pid e.more) (came_in a.pid (after_oldest w old.journal)) (sym split ∙ none) in
      finds_later plans pids a old new e two.0 (h.finds two.1);
}

module _ (plans : List Plan) (pids : List (Option Pid)) where
  pub knows_later : (actors : List Actor) (came : List ℕ) (read : ℕ) (old new : ShardState) → Extends old new → KnowsOf plans pids actors came read old → KnowsOf plans pids actors came read new
  knows_later actors came read old new e k = record {
    more = e.more ++ k.more;
    seen = k.seen;
    journal = e.journal ∙ ap (λ (j : List Stamped). e.more ++ j) k.journal ∙ sym (append_assoc e.more k.more k.seen);
    counted = k.counted;
    noted = k.noted;
    waits = All-weaker (IsTrueOf plans pids old) (IsTrueOf plans pids new) (λ a h. λ w is. waits_later plans pids (acting a) w old new e (h w is)) actors k.waits;
  }

  pub with_waits : (actors others : List Actor) (more : List (Option Pid)) (came : List ℕ) (read : ℕ) (d : ShardState) → KnowsOf plans pids actors came read d → All (IsTrueOf plans more d) others → KnowsOf plans more others came read d
  with_waits actors others more came read d k h = record { more = k.more; seen = k.seen; journal = k.journal; counted = k.counted; noted = k.noted; waits = h }

  pub unmarked_true : (d : ShardState) (a : Actor) → IsUnmarked a → IsTrueOf plans pids d a
  unmarked_true d a none w is = absurd (let e : None ≡ Some w = sym none ∙ is in cc)

  pub all_unmarked : (d : ShardState) (actors : List Actor) → All IsUnmarked actors → All (IsTrueOf plans pids d) actors
  all_unmarked d actors h = All-weaker IsUnmarked (IsTrueOf plans pids d) (unmarked_true d) actors h

  pub knows_set : (actors : List Actor) (came : List ℕ) (read : ℕ) (d : ShardState) (i : ℕ) (b : Actor) → KnowsOf plans pids actors came read d → IsTrueOf plans pids d b → KnowsOf plans pids (set actors i b) came read d
  knows_set actors came read d i b k h = with_waits actors (set actors i b) pids came read d k (All-set (IsTrueOf plans pids d) actors i b h k.waits)

-- a number gets its first pid ----------------------------------------------------------------------

put_kept : (xs : List (Option Pid)) (i q : ℕ) (p : Pid) → get_or xs i None ≡ None → (get_or (set xs i (Some p)) q None ≡ get_or xs q None) ⊎ (get_or xs q None ≡ None)
put_kept [] i q p h = inl refl
put_kept (x ∷ xs) zero zero p h = inr h
put_kept (x ∷ xs) zero (suc q) p h = inl refl
put_kept (x ∷ xs) (suc i) zero p h = inl refl
put_kept (x ∷ xs) (suc i) (suc q) p h = put_kept xs i q p h

picked : (f : Pid → Pick) (xs : List (Option Pid)) (i q : ℕ) (p : Pid) (k : Pick) → get_or xs i None ≡ None → option_map f (get_or xs q None) ≡ Some k → option_map f (get_or (set xs i (Some p)) q None) ≡ Some k
picked f xs i q p k free h =
    elim (put_kept xs i q p free) [
      | inl same ↦ ap (option_map f) same ∙ h
      | inr none ↦ absurd (let e : None ≡ Some k = sym (ap (option_map f) none) ∙ h in cc)
    ]

pick_kept : (xs : List (Option Pid)) (i : ℕ) (p : Pid) → get_or xs i None ≡ None → (references : List (Option Ref)) (pattern : Pattern) (k : Pick) → pick_meant xs references pattern ≡ Some k → pick_meant (set xs i (Some p)) references pattern ≡ Some k
pick_kept xs i p free references Any k h = h
pick_kept xs i p free references (Kind kind) k h = h
pick_kept xs i p free references (From q) k h = picked Pick.From xs i q p k free h
pick_kept xs i p free references (ExitOf q) k h = picked Pick.ExitOf xs i q p k free h
pick_kept xs i p free references (DownOf tag) k h = h
pick_kept xs i p free references (AliveOf tag) k h = h

pub true_with_pid : (plans : List Plan) (pids : List (Option Pid)) (i : ℕ) (p : Pid) (d : ShardState) → get_or pids i None ≡ None → (a : Actor) → IsTrueOf plans pids d a → IsTrueOf plans (set pids i (Some p)) d a
true_with_pid plans pids i p d free a h = λ w is. record {
  within = (h w is).within;
  finds = λ none.
      let f = (h w is).finds none in
      record { pattern = f.pattern; pick = f.pick; next = f.next; picks = pick_kept pids i p free a.references.items f.pattern f.pick f.picks; alive = f.alive; nothing = f.nothing };
}

-- an event is read --------------------------------------------------------------------------------

got_set : (xs : List ℕ) (i j v n : ℕ) → slice_get (set xs i v) j ≡ Some n → (n ≡ v) ⊎ ((slice_get xs j ≡ Some n) × (i ≢ j))
got_set [] i j v n h = absurd (cc)
got_set (x ∷ xs) zero zero v n h = inl (let e : Some v ≡ Some n = h in cc)
got_set (x ∷ xs) zero (suc j) v n h = inr (h, λ e. absurd (cc))
got_set (x ∷ xs) (suc i) zero v n h = inr (h, λ e. absurd (cc))
got_set (x ∷ xs) (suc i) (suc j) v n h =
    elim (got_set xs i j v n h) [
      | inl is ↦ inl is
      | inr other ↦ inr (other.0, λ e. other.1 (omega (arith, e)))
    ]

others : (p b : Pid) → b.slot ≢ p.slot → same_pid p b ≡ false
others p b other = go (same_pid p b) refl
  where
    go : (t : Bool) → same_pid p b ≡ t → same_pid p b ≡ false
    go false is = is
    go true is = absurd (other (ap (λ (x : Pid). x.slot) (sym (same_pid_is p b is))))

-- an event that was read is noted for whom it woke
set_quiet : (came : List ℕ) (p b : Pid) (n w m : ℕ) → w ≤ m → slice_get (set came b.slot (m + 1)) p.slot ≡ Some n → n ≤ w → (same_pid p b ≡ false) × (slice_get came p.slot ≡ Some n)
set_quiet came p b n w m within at le =
    elim (got_set came b.slot p.slot (m + 1) n at) [
      | inl is ↦ absurd (omega (arith, is, le, within))
      | inr other ↦ (others p b other.1, other.0)
    ]

event_quiet : (e : Event) (came : List ℕ) (p : Pid) (n w m : ℕ) → w ≤ m → slice_get (marked e (m + 1) came) p.slot ≡ Some n → n ≤ w → (came_to p e ≡ false) × (slice_get came p.slot ≡ Some n)
event_quiet (Born q parent link) came p n w m within at le = (refl, at)
event_quiet (Said a b x) came p n w m within at le = (refl, at)
event_quiet (Came a b x) came p n w m within at le = set_quiet came p b n w m within at le
event_quiet (Took q k item) came p n w m within at le = (refl, at)
event_quiet (Flag q on) came p n w m within at le = (refl, at)
event_quiet (Left q r) came p n w m within at le = set_quiet came p q n w m within at le
event_quiet (Refused a b) came p n w m within at le = (refl, at)

noted_more : (came : List ℕ) (seen : List Stamped) (x : Stamped) → IsNoted came seen → IsNoted (marked x.event (length seen + 1) came) (x ∷ seen)
noted_more came seen x h p n w at le =
    elim (cases_lt (length seen) w) [
      | inl beyond ↦ let none : length (x ∷ seen) - w ≡ 0 = omega (arith, beyond) in ap (λ k. came_in p (take k (x ∷ seen))) none
      | inr within ↦
          let quiet = event_quiet x.event came p n w (length seen) within at le in
          let rest : came_in p (after_oldest w seen) ≡ false = h p n w quiet.1 le in
          ap (came_in p) (since_later w (x ∷ []) seen within) ∙ (λ i. quiet.0 i || rest i)
    ]

pub knows_next : (plans : List Plan) (pids : List (Option Pid)) (actors : List Actor) (came : List ℕ) (read : ℕ) (d : ShardState) (x : Stamped) → read < length d.journal → x ≡ get_or (reverse d.journal) read x → KnowsOf plans pids actors came read d
    → KnowsOf plans pids actors (marked x.event (read + 1) came) (read + 1) d
knows_next plans pids actors came read d x within at k =
    let l : length d.journal ≡ length (k.more ++ k.seen) = ap length k.journal in
    let c = k.counted in
    let inside : length k.seen < length (k.more ++ k.seen) = omega (arith, l, c, within) in
    let there : x ≡ get_or (reverse (k.more ++ k.seen)) (length k.seen) x = at ∙ ap (λ (j : List Stamped). get_or (reverse j) read x) k.journal ∙ ap (λ n. get_or (reverse (k.more ++ k.seen)) n x) (sym c) in
    let o : Oldest k.more k.seen x = oldest k.more k.seen x inside there in
    record {
      more = o.front;
      seen = x ∷ k.seen;
      journal = k.journal ∙ ap (λ (j : List Stamped). j ++ k.seen) o.is ∙ append_assoc o.front (x ∷ []) k.seen;
      counted = omega (arith, c);
      noted = subst (λ n. IsNoted (marked x.event (n + 1) came) (x ∷ k.seen)) c (noted_more came k.seen x k.noted);
      waits = k.waits;
    }

-- all was read: who sleeps finds nothing -------------------------------------------------------------

before : (o u : Option ℕ) → is_before o u ≡ true → (n : ℕ) × (w : ℕ) × (o ≡ Some n) × (u ≡ Some w) × (n ≤ w)
before (Some n) (Some w) h = (n, w, refl, refl, leb-true n w h)
before (Some n) None h = absurd (cc)
before None (Some w) h = absurd (cc)
before None None h = absurd (cc)

no_more : {X : Type 0} (more : List X) → length more ≡ 0 → more ≡ []
no_more [] h = refl
no_more (x ∷ more) h = absurd (omega (arith, h))

pub asleep : (plans : List Plan) (pids : List (Option Pid)) (actors : List Actor) (came : List ℕ) (read : ℕ) (d : ShardState) (a : Actor) → KnowsOf plans pids actors came read d → read ≡ length d.journal → IsTrueOf plans pids d a → sleeps came a ≡ true → FindsNothing plans pids (acting a) d
asleep plans pids actors came read d a k all h so =
    let b = before (slice_get came a.pid.slot) a.waits so in
    let l = ap length k.journal in
    let c = k.counted in
    let s = length-append k.more k.seen in
    let none : length k.more ≡ 0 = omega (arith, l, c, s, all) in
    let is : d.journal ≡ k.seen = k.journal ∙ ap (λ (m : List Stamped). m ++ k.seen) (no_more k.more none) in
    (h b.1 b.3).finds (ap (λ (j : List Stamped). came_in a.pid (after_oldest b.1 j)) is ∙ k.noted a.pid b.0 b.1 b.2 b.4)

-- a receive that finds nothing does nothing -----------------------------------------------------------

set_back : {X : Type 0} (xs : List X) (i : ℕ) (a : X) → get_or xs i a ≡ a → set xs i a ≡ xs
set_back [] i a h = refl
set_back {X} (x ∷ xs) zero a h = ap (λ (y : X). y ∷ xs) (sym h)
set_back {X} (x ∷ xs) (suc i) a h = ap (λ (ys : List X). x ∷ ys) (set_back xs i a h)

nothing_taken : (p : Pid) (k : Pick) (d : ShardState) → lives d p ≡ true → first_match d p k ≡ None → Calls p (take_event d p k) (first_match d p k) d (Ok None) d
nothing_taken p k d alive none =
    subst (λ (m : Option Item). (lives d p ≡ true) × CanWriteIf (option_map (Took p k) m) d × (None ≡ m) × (d ≡ after_if (option_map (Took p k) m) d)) (sym none) (alive, tt, refl, refl)

pub skipped : (plans : List Plan) (pids : List (Option Pid)) (actors : List Actor) (i : ℕ) (a : Actor) (d : ShardState) → i < length actors → a ≡ get_or actors i a → FindsNothing plans pids (acting a) d → ActsAt i (table_of plans pids actors) d (table_of plans pids actors) d
skipped plans pids actors i a d lt is f =
    let t = table_of plans pids actors in
    let at : get_or (map acting actors) i (acting a) ≡ acting a = acting_at actors i a lt is in
    let plays : Plays plans pids (Receive f.pattern) (acting a) d (acting a) d = record {
      progress = Waits;
      references = (acting a).references;
      between = d;
      performs = (take_at (pick_meant pids a.references.items f.pattern) f.pick a.pid Waits d d (Ok None) Waits f.picks (nothing_taken a.pid f.pick d f.alive f.nothing) refl, refl);
      behind = (refl, refl);
    } in
    let same : t ≡ set_acting i (acting a) t = sym (ap (λ (xs : List Acting). record { plans = plans; pids = pids; actors = xs }) (set_back (map acting actors) i (acting a) at)) in
    record {
      within = acting_within actors i lt;
      a = acting a;
      is = at;
      acts = subst (λ (o : Operation). DoesOperation o i (acting a) t d t d) (sym f.next) (acting a, plays, same);
    }

-- nobody has anything to do -------------------------------------------------------------------------------

both_of : (a b : Bool) → (a && b) ≡ true → (a ≡ true) × (b ≡ true)
both_of true b h = (refl, h)
both_of false b h = absurd (cc)

rests_alive : (plans : List Plan) (pids : List (Option Pid)) (d : ShardState) (a : Actor) (s l : Bool) → (s ≡ true → FindsNothing plans pids (acting a) d) → (s || not l) ≡ true → l ≡ true → FindsNothing plans pids (acting a) d
rests_alive plans pids d a true l finds h alive = finds refl
rests_alive plans pids d a false true finds h alive = absurd (cc)
rests_alive plans pids d a false false finds h alive = absurd (cc)

each_rests : (plans : List Plan) (pids : List (Option Pid)) (came : List ℕ) (d : ShardState) (actors : List Actor) → All (λ a. sleeps came a ≡ true → FindsNothing plans pids (acting a) d) actors → list_all (rests came d) actors ≡ true → All (ActorRests plans pids d) actors
each_rests plans pids came d [] finds h = All-nil (ActorRests plans pids d)
each_rests plans pids came d (a ∷ actors) finds h =
    let two = both_of (rests came d a) (list_all (rests came d) actors) h in
    All-cons (ActorRests plans pids d) a actors
    (λ alive. rests_alive plans pids d a (sleeps came a) (lives d a.pid) (All-head (λ x. sleeps came x ≡ true → FindsNothing plans pids (acting x) d) a actors finds) two.0 alive)
    (each_rests plans pids came d actors (All-tail (λ x. sleeps came x ≡ true → FindsNothing plans pids (acting x) d) a actors finds) two.1)

pub read_rests : (r : Runner) (d : ShardState) → r.read ≡ length d.journal → list_all (rests r.came.items d) r.actors.items ≡ true → RunnerKnows r d → AllRest r d
read_rests r d read all k =
    let plans = r.script.now.processes in
    each_rests plans r.pids.items r.came.items d r.actors.items
    (All-weaker (IsTrueOf plans r.pids.items d) (λ a. sleeps r.came.items a ≡ true → FindsNothing plans r.pids.items (acting a) d)
    (λ a t. λ so. asleep plans r.pids.items r.actors.items r.came.items r.read d a k read t so) r.actors.items k.waits)
    all

pub idle_rests : (r : Runner) (d : ShardState) → idle_runner r d ≡ true → RunnerKnows r d → AllRest r d
idle_rests r d h k =
    let two = both_of (r.read == length d.journal) (list_all (rests r.came.items d) r.actors.items) h in
    read_rests r d (eqb-true r.read (length d.journal) two.0) two.1 k

-- nothing in a mailbox fits, by a look at all of it
none_found : {X : Type 0} (test : X → Bool) (xs : List X) → list_any test xs ≡ false → find test xs ≡ None
none_found test [] h = refl
none_found test (x ∷ xs) h = go (test x) refl h (none_found test xs)
  where
    go : (b : Bool) → test x ≡ b → (b || list_any test xs) ≡ false → (list_any test xs ≡ false → find test xs ≡ None) → find test (x ∷ xs) ≡ None
    go true e bad rest = absurd (cc)
    go false e none rest = rw e (rest none)

denied : (b : Bool) → not b ≡ true → b ≡ false
denied true h = absurd (cc)
denied false h = refl

none_fits_of : (plans : List Plan) (pids : List (Option Pid)) (d : ShardState) (a : Acting) (pattern : Pattern) (k : Option Pick) → next_of plans a ≡ Receive pattern → lives d a.pid ≡ true → pick_meant pids a.references pattern ≡ k → none_fits (state_in d a.pid).waiting k ≡ true → FindsNothing plans pids a d
none_fits_of plans pids d a pattern None next alive picks h = absurd (cc)
none_fits_of plans pids d a pattern (Some k) next alive picks h = record {
  pattern = pattern;
  pick = k;
  next = next;
  picks = picks;
  alive = alive;
  nothing = none_found (fits k) (state_in d a.pid).waiting (denied (list_any (fits k) (state_in d a.pid).waiting) h);
}

takes_none_of : (plans : List Plan) (pids : List (Option Pid)) (d : ShardState) (a : Acting) (o : Operation) → next_of plans a ≡ o → lives d a.pid ≡ true → takes_none pids (state_in d a.pid).waiting a o ≡ true → FindsNothing plans pids a d
takes_none_of plans pids d a (Receive pattern) next alive h = none_fits_of plans pids d a pattern (pick_meant pids a.references pattern) next alive refl h
takes_none_of plans pids d a _ next alive h = absurd (cc)

out_alive : (plans : List Plan) (pids : List (Option Pid)) (d : ShardState) (a : Acting) (l : Bool) → cond l (takes_none pids (state_in d a.pid).waiting a (next_of plans a)) true ≡ true → lives d a.pid ≡ l → l ≡ true → FindsNothing plans pids a d
out_alive plans pids d a true h is alive = takes_none_of plans pids d a (next_of plans a) refl is h
out_alive plans pids d a false h is alive = absurd (cc)

each_out : (plans : List Plan) (pids : List (Option Pid)) (d : ShardState) (actors : List Actor) → list_all (is_out_of_work plans pids d) actors ≡ true → All (ActorRests plans pids d) actors
each_out plans pids d [] h = All-nil (ActorRests plans pids d)
each_out plans pids d (a ∷ actors) h =
    let two = both_of (is_out_of_work plans pids d a) (list_all (is_out_of_work plans pids d) actors) h in
    All-cons (ActorRests plans pids d) a actors
    (λ alive. out_alive plans pids d (acting a) (lives d a.pid) two.0 refl alive)
    (each_out plans pids d actors two.1)

pub all_out_of_work : (r : Runner) (d : ShardState) (b : Bool) → b ≡ list_all (is_out_of_work r.script.now.processes r.pids.items d) r.actors.items → b ≡ true → AllRest r d
all_out_of_work r d b is h = each_out r.script.now.processes r.pids.items d r.actors.items (sym is ∙ h)

-- who ended is taken out --------------------------------------------------------------------------------

same_test : (a b : Bool) → (a ≡ true → b ≡ true) → (a || b) ≡ b
same_test true b h = sym (h refl)
same_test false b h = refl

pub buried : (p q : Actor → Bool) (xs : List Actor) → All (λ a. p a ≡ true → q a ≡ true) xs → filter (λ a. p a || q a) xs ≡ filter q xs
buried p q [] h = refl
buried p q (x ∷ xs) h =
    let e = same_test (p x) (q x) (All-head (λ a. p a ≡ true → q a ≡ true) x xs h) in
    let r = buried p q xs (All-tail (λ a. p a ≡ true → q a ≡ true) x xs h) in
    (λ i. cond (e i) (x ∷ r i) (r i))

-- a child is listed, or no one ---------------------------------------------------------------------------

pub knows_listed : (plans : List Plan) (pids : List (Option Pid)) (actors : List Actor) (came : List ℕ) (read : ℕ) (d : ShardState) (i : ℕ) (p : Pid) (a : Actor) → KnowsOf plans pids actors came read d → IsUnmarked a → get_or pids i None ≡ None
    → KnowsOf plans (set pids i (Some p)) (actors ++ a ∷ []) came read d
knows_listed plans pids actors came read d i p a k bare free =
    let kept = All-weaker (IsTrueOf plans pids d) (IsTrueOf plans (set pids i (Some p)) d) (true_with_pid plans pids i p d free) actors k.waits in
    with_waits plans pids actors (actors ++ a ∷ []) (set pids i (Some p)) came read d k
    (All-push (IsTrueOf plans (set pids i (Some p)) d) actors a kept (unmarked_true plans (set pids i (Some p)) d a bare))

pub knows_by : (plans plans2 : List Plan) (pids pids2 : List (Option Pid)) (actors actors2 : List Actor) (came came2 : List ℕ) (read read2 : ℕ) (d : ShardState) → plans2 ≡ plans → pids2 ≡ pids → actors2 ≡ actors → came2 ≡ came → read2 ≡ read
    → KnowsOf plans pids actors came read d → KnowsOf plans2 pids2 actors2 came2 read2 d
knows_by plans plans2 pids pids2 actors actors2 came came2 read read2 d a b c e f k =
    subst (λ (x : List Plan). KnowsOf x pids2 actors2 came2 read2 d) (sym a)
    (subst (λ (x : List (Option Pid)). KnowsOf plans x actors2 came2 read2 d) (sym b)
    (subst (λ (x : List Actor). KnowsOf plans pids x came2 read2 d) (sym c)
    (subst (λ (x : List ℕ). KnowsOf plans pids actors x read2 d) (sym e)
    (subst (λ n. KnowsOf plans pids actors came n d) (sym f) k))))

-- nothing was read ---------------------------------------------------------------------------------------

pub knows_nothing : (plans : List Plan) (pids : List (Option Pid)) (actors : List Actor) (came : List ℕ) (d : ShardState) → All IsUnmarked actors → KnowsOf plans pids actors came 0 d
knows_nothing plans pids actors came d none = record {
  more = d.journal;
  seen = [];
  journal = sym (append-nil d.journal);
  counted = refl;
  noted = λ p n w at le. ap (came_in p) (take_all (0 - w) [] (omega arith));
  waits = all_unmarked plans pids d actors none;
}

-- so a runner that knows nothing of any desk
pub fresh_knows : (r : Runner) (d : ShardState) → IsFresh r → RunnerKnows r d
fresh_knows r d fresh = subst (λ n. KnowsOf r.script.now.processes r.pids.items r.actors.items r.came.items n d) (sym fresh.unread) (knows_nothing r.script.now.processes r.pids.items r.actors.items r.came.items d fresh.unmarked)

-- and so it stays however the desk goes on
pub runner_knows_later : (r : Runner) (old new : ShardState) → Extends old new → RunnerKnows r old → RunnerKnows r new
runner_knows_later r old new e k = knows_later r.script.now.processes r.pids.items r.actors.items r.came.items r.read old new e k

-- what a runner that attends a desk knows of it, where it has read no more than there is
pub attends_knows : (r : Runner) (d : ShardState) → r.read ≤ length d.journal → RunnerAttends r d → RunnerKnows r d
attends_knows r d within (inl fresh) = fresh_knows r d fresh
attends_knows r d within (inr (inl shorter)) = absurd (omega (arith, within, shorter))
attends_knows r d within (inr (inr knows)) = knows

-- the event at the place is read
pub knows_looked : (plans : List Plan) (pids : List (Option Pid)) (actors : List Actor) (came : List ℕ) (read : ℕ) (d : ShardState) (listed : List Stamped) (x : Stamped) → listed ≡ reverse d.journal → read < length listed → KnowsOf plans pids actors came read d
    → KnowsOf plans pids actors (marked (get_or listed read x).event (read + 1) came) (read + 1) d
knows_looked plans pids actors came read d listed x is lt k =
    let e = get_or listed read x in
    let at : e ≡ get_or listed read e = get_or_default listed read x e lt in
    let l = ap length is in
    let r = length-reverse d.journal in
    knows_next plans pids actors came read d e (omega (arith, l, r, lt)) (at ∙ ap (λ (xs : List Stamped). get_or xs read e) is) k

-- all are unmarked, one after the other ------------------------------------------------------------------

unmarked_to : (xs : List Actor) (i : ℕ) (b : Actor) → IsUnmarked b → All IsUnmarked (take i xs) → All IsUnmarked (take (suc i) (set xs i b))
unmarked_to [] i b p h = All-nil IsUnmarked
unmarked_to (x ∷ xs) zero b p h = All-cons IsUnmarked b [] p (All-nil IsUnmarked)
unmarked_to (x ∷ xs) (suc i) b p h = All-cons IsUnmarked x (take (suc i) (set xs i b)) (All-head IsUnmarked x (take i xs) h) (unmarked_to xs i b p (All-tail IsUnmarked x (take i xs) h))

pub unmarked_more : (xs : List Actor) (i : ℕ) (b : Actor) → IsUnmarked b → All IsUnmarked (take i xs) → All IsUnmarked (take (i + 1) (set xs i b))
unmarked_more xs i b p h = subst (λ n. All IsUnmarked (take n (set xs i b))) (sym (add-one i)) (unmarked_to xs i b p h)

-- one that is not marked any more does the same next
pub same_table : (plans : List Plan) (pids : List (Option Pid)) (actors : List Actor) (i : ℕ) (a b : Actor) → i < length actors → a ≡ get_or actors i a → acting b ≡ acting a → table_of plans pids (set actors i b) ≡ table_of plans pids actors
same_table plans pids actors i a b lt is same =
    set_actor plans pids actors i b
    ∙ ap (λ (x : Acting). set_acting i x (table_of plans pids actors)) same
    ∙ ap (λ (xs : List Acting). record { plans = plans; pids = pids; actors = xs }) (set_back (map acting actors) i (acting a) (acting_at actors i a lt is))
