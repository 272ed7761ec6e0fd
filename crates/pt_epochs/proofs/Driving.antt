-- What a drive does with crews, from what a run of workers does.
use Rattle.std.proofs.Common.{◌≡◌, ℕ, zero, suc, ◌<◌, ◌≤◌, ◌⊎◌, inl, inr, Bool, true, false, cond, List, [], ◌∷◌, length, map, get_or, Result, Ok, Err, refl, sym, ap, ◌∙◌, subst, arith}
use Rattle.std.specs.Prelude.{MatchBool}
use Rattle.std.proofs.lemmas.List.{get_or-map, length-map}
use Rattle.pt_desk.specs.DeskState.{DeskState, GoesOn}
use Rattle.pt_workers.specs.NodeRunning.{ArePaired, RunsNode}
use Rattle.pt_workers.specs.Running.{AllGoOn, AllWork, BeginsAs, TakesTurn, TakesTurns, HearRelation, StepRelation, WorkRelation, Works, begins_by}
use Rattle.pt_workers.specs.declared.run_fault.RunFault.{RunFault}
use Rattle.pt_workers.specs.declared.run_fault.RunFault.TheVariants as fault
use Rattle.pt_workers.specs.declared.work.Standing.TheVariants.{Going, Done}
use Rattle.pt_epochs.specs.Driving.{AllWorkLet, TakesLet, WorksLet, lets_each, lets_short}
use Rattle.pt_epochs.specs.Watching.{Watching, WatchedDoes, WatchedHears, watch, watched_standing}

-- a run that does the one thing does the other --------------------------------------

run_does : {W : Type 0} (Runs Does : List (DeskState × W) → List (DeskState × W) → Type 0) → ((old new : List (DeskState × W)) → Runs old new → Does old new)
    → (old : List DeskState) (works : List W) (result : Result (Unit {0}) RunFault) (new : List DeskState) (later : List W) → RunsNode Runs old works result new later → RunsNode Does old works result new later
run_does Runs Does into old works (Ok u) new later h = record { before = h.before; after = h.after; begun = h.begun; ended = h.ended; each = h.each; runs = into h.before h.after h.runs }
run_does Runs Does into old works (Err fault.Works) new later h = h
run_does Runs Does into old works (Err fault.Memory) new later h = h

-- each turn begins ------------------------------------------------------------------

module _ {W : Type 0} (does : WorkRelation W) (lets : ℕ → ℕ → Bool → Type 0) (opens : (desk turn : ℕ) (b : Bool) → lets desk turn b → b ≡ true) where
  takes_each : (desk budget count : ℕ) (old new : DeskState × W) → TakesTurns (begins_by (λ _. Going) lets desk) does budget count old new → TakesLet lets_each does budget count old new
  takes_each desk budget zero old new h = h
  takes_each desk budget (suc count) old new (last, before, begins, turn) = (last, takes_each desk budget count old last before, refl, turn)

  works_each : (desk turns budget : ℕ) (old new : DeskState × W) → Works (begins_by (λ _. Going) lets desk) does turns budget old new → WorksLet lets_each does turns budget old new
  works_each desk turns budget old new w = record { count = w.count; took = takes_each desk budget w.count old new w.took; ends = ends w.ends }
    where
      ends : (w.count ≡ turns) ⊎ ((w.count < turns) × lets desk w.count false) → (w.count ≡ turns) ⊎ ((w.count < turns) × (false ≡ true))
      ends (inl all) = inl all
      ends (inr h) = inr (h.0, opens desk w.count false h.1)

  pub all_each : (turns budget : ℕ) (old new : List (DeskState × W)) → AllWork (begins_by (λ _. Going) lets) does turns budget old new → AllWorkLet lets_each does turns budget old new
  all_each turns budget old new h d x l = works_each (get_or old d x).0.shard.number turns budget (get_or old d x) (get_or new d x) (h d x l)

  pub rounds_drive : (Rounds : List (DeskState × W) → List (DeskState × W) → Type 0) (turns budget : ℕ) (old : List DeskState) (works : List W) (result : Result (Unit {0}) RunFault) (new : List DeskState) (later : List W)
      → RunsNode (λ a b. AllWork (begins_by (λ _. Going) lets) does turns budget a b × Rounds a b) old works result new later → RunsNode (AllWorkLet lets_each does turns budget) old works result new later
  rounds_drive Rounds turns budget = run_does (λ a b. AllWork (begins_by (λ _. Going) lets) does turns budget a b × Rounds a b) (AllWorkLet lets_each does turns budget) (λ a b h. all_each turns budget a b h.0)

-- none behind the first begins where the journal is too long -------------------------

map_map : {X Y Z : Type 0} (f : X → Y) (g : Y → Z) (xs : List X) → map g (map f xs) ≡ map (λ x. g (f x)) xs
map_map f g [] = refl
map_map f g (x ∷ xs) = ap (λ ys. g (f x) ∷ ys) (map_map f g xs)

map_same : {X : Type 0} (xs : List X) → map (λ (x : X). x) xs ≡ xs
map_same [] = refl
map_same (x ∷ xs) = ap (λ ys. x ∷ ys) (map_same xs)

module _ {W : Type 0} (does : StepRelation W) (hears : HearRelation W) (gate : ℕ → ℕ → Bool → Type 0) where
  abbrev lets : ℕ → Watching W → ℕ → Bool → Type 0
  lets = begins_by watched_standing gate

  abbrev watched_do : WorkRelation (Watching W)
  watched_do = (WatchedDoes does, WatchedHears hears)

  abbrev within_of : DeskState × Watching W → DeskState × W
  within_of x = (x.0, x.1.inner)

  abbrev inner_of : Watching W → W
  inner_of w = w.inner

  not_done : (long : Bool) (may : Bool → Type 0) → BeginsAs (cond long Done Going) may true → long ≡ false
  not_done true may h = absurd (cc)
  not_done false may h = refl

  short_of : (long : Bool) (events n : ℕ) → MatchBool long (events < n) (n ≤ events) → long ≡ false → n ≤ events
  short_of true events n h is = absurd (cc)
  short_of false events n h is = h

  turn_of : (budget : ℕ) (old new : DeskState × Watching W) → TakesTurn watched_do budget old new → TakesTurn (does, hears) budget (within_of old) (within_of new)
  turn_of budget old new t = record { stepped = t.stepped; worked = t.worked.inner; step = t.step.0; goes_on = t.goes_on; turned = t.turned; turn = t.turn; hears = t.hears.0 }

  same_events : (desk budget count : ℕ) (old new : DeskState × Watching W) → TakesTurns (lets desk) watched_do budget count old new → new.1.events ≡ old.1.events
  same_events desk budget zero old new h = ap (λ (x : DeskState × Watching W). x.1.events) h
  same_events desk budget (suc count) old new (last, before, begins, turn) = turn.hears.1 ∙ turn.step.1 ∙ same_events desk budget count old last before

  -- behind a turn the journal is not too long where the work is not done
  first_or_short : (desk budget count : ℕ) (old new : DeskState × Watching W) → TakesTurns (lets desk) watched_do budget count old new → new.1.long ≡ false → (count ≡ 0) ⊎ (length new.0.shard.journal ≤ new.1.events)
  first_or_short desk budget zero old new h is = inl refl
  first_or_short desk budget (suc count) old new (last, before, begins, turn) is =
      inr (subst (λ (n : ℕ). length new.0.shard.journal ≤ n) (sym turn.hears.1) (short_of new.1.long turn.worked.events (length new.0.shard.journal) turn.hears.2 is))

  takes_short : (desk budget count : ℕ) (old new : DeskState × Watching W) → TakesTurns (lets desk) watched_do budget count old new → TakesLet (lets_short old.1.events) (does, hears) budget count (within_of old) (within_of new)
  takes_short desk budget zero old new h = ap within_of h
  takes_short desk budget (suc count) old new (last, before, begins, turn) = (within_of last, takes_short desk budget count old last before, λ _. short, turn_of budget last new turn)
    where
      short : (count ≡ 0) ⊎ (length last.0.shard.journal ≤ old.1.events)
      short = subst (λ (n : ℕ). (count ≡ 0) ⊎ (length last.0.shard.journal ≤ n)) (same_events desk budget count old last before) (first_or_short desk budget count old last before (not_done last.1.long (gate desk count) begins))

  works_short : (desk turns budget : ℕ) (old new : DeskState × Watching W) → Works (lets desk) watched_do turns budget old new → WorksLet (lets_short old.1.events) (does, hears) turns budget (within_of old) (within_of new)
  works_short desk turns budget old new w = record { count = w.count; took = takes_short desk budget w.count old new w.took; ends = ends w.ends }
    where
      ends : (w.count ≡ turns) ⊎ ((w.count < turns) × lets desk new.1 w.count false) → (w.count ≡ turns) ⊎ ((w.count < turns) × lets_short old.1.events (within_of new) w.count false)
      ends (inl all) = inl all
      ends (inr h) = inr (h.0, λ (no : false ≡ true). absurd (cc))

  module _ (turns budget events : ℕ) where
    all_short : (old new : List (DeskState × Watching W)) → length new ≡ length old → ((d : ℕ) (x : DeskState × Watching W) → d < length old → (get_or old d x).1.events ≡ events)
        → AllWork (begins_by watched_standing gate) watched_do turns budget old new → AllWorkLet (lets_short events) (does, hears) turns budget (map within_of old) (map within_of new)
    all_short old new count fresh h d x l =
        let y : DeskState × Watching W = (x.0, watch events x.1) in
        let in_old : d < length old = omega (arith, l, length-map old within_of) in
        let in_new : d < length new = omega (arith, in_old, count) in
        let worked = subst (λ (n : ℕ). WorksLet (lets_short n) (does, hears) turns budget (within_of (get_or old d y)) (within_of (get_or new d y))) (fresh d y in_old)
        (works_short (get_or old d y).0.shard.number turns budget (get_or old d y) (get_or new d y) (h d y in_old)) in
        subst (λ (p : DeskState × W). WorksLet (lets_short events) (does, hears) turns budget p (get_or (map within_of new) d x)) (sym (get_or-map within_of old d y x in_old))
        (subst (λ (p : DeskState × W). WorksLet (lets_short events) (does, hears) turns budget (within_of (get_or old d y)) p) (sym (get_or-map within_of new d y x in_new)) worked)

    go_on : (old new : List (DeskState × Watching W)) → AllGoOn old new → AllGoOn (map within_of old) (map within_of new)
    go_on old new on = record {
      count = length-map new within_of ∙ on.count ∙ sym (length-map old within_of);
      each = λ d x l.
          let y : DeskState × Watching W = (x.0, watch events x.1) in
          let in_old : d < length old = omega (arith, l, length-map old within_of) in
          let in_new : d < length new = omega (arith, in_old, on.count) in
          subst (λ (p : DeskState × W). GoesOn p.0 (get_or (map within_of new) d x).0) (sym (get_or-map within_of old d y x in_old))
          (subst (λ (p : DeskState × W). GoesOn (get_or old d y).0 p.0) (sym (get_or-map within_of new d y x in_new)) (on.each d y in_old));
    }

    paired : (desks : List DeskState) (works : List (Watching W)) (pairs : List (DeskState × Watching W)) → ArePaired desks works pairs → ArePaired desks (map inner_of works) (map within_of pairs)
    paired desks works pairs p = record {
      firsts = map_map within_of (λ (x : DeskState × W). x.0) pairs ∙ p.firsts;
      seconds = map_map within_of (λ (x : DeskState × W). x.1) pairs ∙ sym (map_map (λ (x : DeskState × Watching W). x.1) inner_of pairs) ∙ ap (map inner_of) p.seconds;
    }

    watched_inner : (works : List W) → map inner_of (map (watch events) works) ≡ works
    watched_inner works = map_map (watch events) inner_of works ∙ map_same works

    some_work : (works : List W) (d : ℕ) → d < length works → W
    some_work [] d l = absurd (omega (arith, l))
    some_work (w ∷ works) d l = w

    fresh : (desks : List DeskState) (works : List W) (pairs : List (DeskState × Watching W)) → ArePaired desks (map (watch events) works) pairs
        → (d : ℕ) (x : DeskState × Watching W) → d < length pairs → (get_or pairs d x).1.events ≡ events
    fresh desks works pairs p d x l =
        let second : DeskState × Watching W → Watching W = λ y. y.1 in
        let counts : length works ≡ length pairs = sym (length-map works (watch events)) ∙ ap length (sym p.seconds) ∙ length-map pairs second in
        let within : d < length works = omega (arith, l, counts) in
        let is : (get_or pairs d x).1 ≡ watch events (get_or works d (some_work works d within)) =
        sym (get_or-map second pairs d x x.1 l) ∙ ap (λ (ws : List (Watching W)). get_or ws d x.1) p.seconds ∙ get_or-map (watch events) works d (some_work works d within) x.1 within in
        ap (λ (w : Watching W). w.events) is

    -- works that were watched are as they were run
    pub works_run : (old : List DeskState) (works : List W) (result : Result (Unit {0}) RunFault) (new : List DeskState) (later : List (Watching W))
        → RunsNode (AllWork (begins_by watched_standing gate) watched_do turns budget) old (map (watch events) works) result new later → RunsNode (AllWorkLet (lets_short events) (does, hears) turns budget) old works result new (map inner_of later)
    works_run old works (Ok u) new later r = record {
      before = map within_of r.before;
      after = map within_of r.after;
      begun = subst (λ (ws : List W). ArePaired old ws (map within_of r.before)) (watched_inner works) (paired old (map (watch events) works) r.before r.begun);
      ended = paired new later r.after r.ended;
      each = go_on r.before r.after r.each;
      runs = all_short r.before r.after r.each.count (fresh old works r.before r.begun) r.runs;
    }
    works_run old works (Err fault.Works) new later r = ((λ count. r.0 (length-map works (watch events) ∙ count)), r.1, ap (map inner_of) r.2 ∙ watched_inner works)
    works_run old works (Err fault.Memory) new later r = (sym (length-map works (watch events)) ∙ r.0, r.1, ap (map inner_of) r.2 ∙ watched_inner works)

    -- as many come back
    pub run_counts : (old : List DeskState) (works : List (Watching W)) (result : Result (Unit {0}) RunFault) (new : List DeskState) (later : List (Watching W))
        → RunsNode (AllWork (begins_by watched_standing gate) watched_do turns budget) old works result new later → length later ≡ length works
    run_counts old works (Ok u) new later r =
        let second : DeskState × Watching W → Watching W = λ y. y.1 in
        sym (ap length r.ended.seconds) ∙ length-map r.after second ∙ r.each.count ∙ sym (length-map r.before second) ∙ ap length r.begun.seconds
    run_counts old works (Err fault.Works) new later r = ap length r.2
    run_counts old works (Err fault.Memory) new later r = ap length r.2
