-- Runners that attend their desks do what their processes are to do next, in every turn.
use Rattle.std.proofs.Common.{◌≡◌, inl, inr, ℕ, zero, suc, ◌+◌, ◌<◌, ◌≤◌, Bool, true, false, List, [], ◌∷◌, length, get_or, set, get_or-set_other, get_or-set_same, ◌≢◌, refl, sym, ap, subst, ◌∙◌, arith}
use Rattle.std.specs.Prelude.{MatchBool}
use Rattle.std.proofs.lemmas.Bool.{cases_lt}
use Rattle.std.proofs.lemmas.List.{get_or-map, get_or_default, length-map, length-set}
use Rattle.pt_events.specs.declared.event.Stamped.{Stamped}
use Rattle.pt_desk.specs.DeskState.{DeskState}
use Rattle.pt_desk.proofs.Turning.{turn_goes_on}
use Rattle.pt_workers.specs.NodeRunning.{ArePaired}
use Rattle.pt_workers.specs.Stillness.{AllDesksGoOn, AreStill}
use Rattle.pt_workers.specs.Running.{AllWork, BeginRelation, InRounds, Round, Rounds, TakesOrEnds, TakesTurn, TakesTurns, Workers, Works, step_alone}
use Rattle.pt_script.specs.Plans.{Whole}
use Rattle.pt_render.specs.declared.choices.Options.{Options}
use Rattle.pt_runner.specs.declared.runner.Runner.{Runner}
use Rattle.pt_runner.specs.Acting.{RunnerDoes, table}
use Rattle.pt_runner.specs.Waiting.{RunnersIdle, IsFresh, RunnerKnows, RunnerSteps}
use Rattle.pt_runner.proofs.Waiting.{fresh_knows, idle_rests, runner_knows_later}
use Rattle.pt_report.specs.Epochs.{CanBegin, NothingCanHappen, PassEpochs, Staffed}
use Rattle.pt_report.specs.Reports.{RunIsBegun}

abbrev Pair : Type 0
Pair = DeskState × Runner

abbrev IsAttended : Pair → Type 0
IsAttended p = RunnerKnows p.1 p.0.shard

abbrev pub AllAttended : List Pair → Type 0
AllAttended pairs = (d : ℕ) (x : Pair) → d < length pairs → IsAttended (get_or pairs d x)

-- a turn ------------------------------------------------------------------------------------

turn_does : (budget : ℕ) (old new : Pair) → IsAttended old → TakesTurn (step_alone RunnerSteps) budget old new → TakesTurn (step_alone RunnerDoes) budget old new × IsAttended new
turn_does budget old new attended h =
    let so = h.step (inr (inr attended)) in
    let t = h.turn in
    let on = turn_goes_on h.stepped t.posted_desk t.last new.0 t.letters h.turned.stopped h.turned.handled budget t.posts t.handles t.ends in
    let r = h.worked in (
      record { stepped = h.stepped; worked = r; step = so.0; goes_on = h.goes_on; turned = h.turned; turn = t; hears = h.hears },
      subst (λ (x : Runner). RunnerKnows x new.0.shard) (sym {A = Runner} h.hears)
          (runner_knows_later r h.stepped.shard new.0.shard on.shard so.1),
    )

turns_do : (lets : Runner → ℕ → Bool → Type 0) (budget count : ℕ) (old new : Pair) → IsAttended old → TakesTurns lets (step_alone RunnerSteps) budget count old new → TakesTurns lets (step_alone RunnerDoes) budget count old new × IsAttended new
turns_do lets budget zero old new attended same = (same, subst IsAttended (sym {A = Pair} same) attended)
turns_do lets budget (suc count) old new attended (last, took, begins, turn) =
    let before = turns_do lets budget count old last attended took in
    let next = turn_does budget last new before.1 turn in
    ((last, before.0, begins, next.0), next.1)

works_do : (lets : Runner → ℕ → Bool → Type 0) (turns budget : ℕ) (old new : Pair) → IsAttended old → Works lets (step_alone RunnerSteps) turns budget old new → Works lets (step_alone RunnerDoes) turns budget old new × IsAttended new
works_do lets turns budget old new attended h =
    let so = turns_do lets budget h.count old new attended h.took in
    (record { count = h.count; took = so.0; ends = h.ends }, so.1)

module _ (lets : BeginRelation Runner) where
  pub all_do : (turns budget : ℕ) (old new : List Pair) → AllAttended old → AllWork lets (step_alone RunnerSteps) turns budget old new → AllWork lets (step_alone RunnerDoes) turns budget old new
  all_do turns budget old new attended h = λ d x lt. (works_do (lets (get_or old d x).0.shard.number) turns budget (get_or old d x) (get_or new d x) (attended d x lt) (h d x lt)).0

  -- and so they stand behind it
  pub all_know : (turns budget : ℕ) (old new : List Pair) → AllAttended old → length new ≡ length old → AllWork lets (step_alone RunnerSteps) turns budget old new → AllAttended new
  all_know turns budget old new attended same h = λ d x lt.
      let within : d < length old = omega (arith, lt, same) in
      (works_do (lets (get_or old d x).0.shard.number) turns budget (get_or old d x) (get_or new d x) (attended d x within) (h d x within)).1

  -- rounds ------------------------------------------------------------------------------------

  -- all are attended still, and as many
  abbrev Stays : ℕ → Workers Runner → Type 0
  Stays n w = AllAttended w.0 × (length w.0 ≡ n)

  set_attended : (pairs : List Pair) (d : ℕ) (p : Pair) → AllAttended pairs → IsAttended p → AllAttended (set pairs d p)
  set_attended [] d p all one = all
  set_attended (q ∷ pairs) zero p all one = λ e x lt. first e x lt
    where
      first : (e : ℕ) (x : Pair) → e < length (p ∷ pairs) → IsAttended (get_or (p ∷ pairs) e x)
      first zero x lt = one
      first (suc e) x lt = all (suc e) x lt
  set_attended (q ∷ pairs) (suc d) p all one = λ e x lt. rest (set_attended pairs d p (λ f y l. all (suc f) y (omega (arith, l))) one) e x lt
    where
      rest : AllAttended (set pairs d p) → (e : ℕ) (x : Pair) → e < length (q ∷ set pairs d p) → IsAttended (get_or (q ∷ set pairs d p) e x)
      rest later zero x lt = all zero x (omega arith)
      rest later (suc e) x lt = later e x (omega (arith, lt))

  taken : (budget : ℕ) (begins : Bool) (old new : Pair) → IsAttended old → MatchBool begins (TakesTurn (step_alone RunnerSteps) budget old new) (new ≡ old) → MatchBool begins (TakesTurn (step_alone RunnerDoes) budget old new) (new ≡ old) × IsAttended new
  taken budget true old new attended h = turn_does budget old new attended h
  taken budget false old new attended h = (h, subst IsAttended (sym {A = Pair} h) attended)

  takes_or_ends : (n budget turn d : ℕ) (old new : Workers Runner) → d < n → Stays n old → TakesOrEnds lets (step_alone RunnerSteps) budget turn d old new → TakesOrEnds lets (step_alone RunnerDoes) budget turn d old new × Stays n new
  takes_or_ends n budget turn d old new lt stays h =
      let at = get_or old.0 d h.pair in
      let so = taken budget h.begins at h.pair (stays.0 d h.pair (omega (arith, lt, stays.1))) h.takes in (
        record { pair = h.pair; begins = h.begins; gate = h.gate; takes = so.0; desks = h.desks; ended = h.ended },
        (subst AllAttended (sym {A = List Pair} h.desks) (set_attended old.0 d h.pair stays.0 so.1), ap length h.desks ∙ length-set old.0 d h.pair ∙ stays.1),
      )

  has_turn : (n budget turn d : ℕ) (old new : Workers Runner) (ended : Bool) → d < n → Stays n old → MatchBool ended (new ≡ old) (TakesOrEnds lets (step_alone RunnerSteps) budget turn d old new)
      → MatchBool ended (new ≡ old) (TakesOrEnds lets (step_alone RunnerDoes) budget turn d old new) × Stays n new
  has_turn n budget turn d old new true lt stays h = (h, subst (Stays n) (sym {A = Workers Runner} h) stays)
  has_turn n budget turn d old new false lt stays h = takes_or_ends n budget turn d old new lt stays h

  round : (n budget turn d : ℕ) (old new : Workers Runner) → d ≤ n → Stays n old → Round lets (step_alone RunnerSteps) budget turn d old new → Round lets (step_alone RunnerDoes) budget turn d old new × Stays n new
  round n budget turn zero old new le stays same = (same, subst (Stays n) (sym {A = Workers Runner} same) stays)
  round n budget turn (suc d) old new le stays (mid, before, last) =
      let first = round n budget turn d old mid (omega (arith, le)) stays before in
      let next = has_turn n budget turn d mid new (get_or mid.1 d false) (omega (arith, le)) first.1 last in
      ((mid, first.0, next.0), next.1)

  rounds : (n budget turn : ℕ) (old new : Workers Runner) → Stays n old → Rounds lets (step_alone RunnerSteps) budget n turn old new → Rounds lets (step_alone RunnerDoes) budget n turn old new × Stays n new
  rounds n budget zero old new stays same = (same, subst (Stays n) (sym {A = Workers Runner} same) stays)
  rounds n budget (suc turn) old new stays (mid, before, last) =
      let first = rounds n budget turn old mid stays before in
      let next = round n budget turn n mid new (omega arith) first.1 last in
      ((mid, first.0, next.0), next.1)

  pub in_rounds : (turns budget : ℕ) (old new : List Pair) → AllAttended old → InRounds lets (step_alone RunnerSteps) turns budget old new → InRounds lets (step_alone RunnerDoes) turns budget old new
  in_rounds turns budget old new attended (ended, h) = (ended, (rounds (length old) budget turns _ (new, ended) (attended, refl) h).0)

-- a run begins ------------------------------------------------------------------------------

module _ (desks : List DeskState) (runners : List Runner) (pairs : List Pair) (paired : ArePaired desks runners pairs) where
  pub same_count : length runners ≡ length desks
  same_count = omega (arith, length-map pairs (λ (p : Pair). p.1), length-map pairs (λ (p : Pair). p.0), ap length paired.seconds, ap length paired.firsts)

  pairs_count : length pairs ≡ length runners
  pairs_count = omega (arith, length-map pairs (λ (p : Pair). p.1), ap length paired.seconds)

  runner_at : (d : ℕ) (x : Pair) (r : Runner) → d < length pairs → get_or runners d r ≡ (get_or pairs d x).1
  runner_at d x r lt = ap (λ (rs : List Runner). get_or rs d r) (sym paired.seconds) ∙ get_or-map (λ (p : Pair). p.1) pairs d x r lt

  desk_at : (d : ℕ) (x : Pair) (y : DeskState) → d < length pairs → get_or desks d y ≡ (get_or pairs d x).0
  desk_at d x y lt = ap (λ (ds : List DeskState). get_or ds d y) (sym paired.firsts) ∙ get_or-map (λ (p : Pair). p.0) pairs d x y lt

  pub attended : CanBegin desks runners → AllAttended pairs
  attended begins = λ d x lt.
      let within : d < length runners = omega (arith, lt, pairs_count) in
      subst (λ (y : DeskState). RunnerKnows (get_or pairs d x).1 y.shard) (desk_at d x x.0 lt)
      (subst (λ (r : Runner). RunnerKnows r (get_or desks d x.0).shard) (runner_at d x x.1 lt) (begins d x.1 x.0 within))

  pub can_begin : AllAttended pairs → CanBegin desks runners
  can_begin all = λ d r y lt.
      let x : Pair = (y, r) in
      let within : d < length pairs = omega (arith, lt, pairs_count) in
      subst (λ (q : Runner). RunnerKnows q (get_or desks d y).shard) (sym {A = Runner} (runner_at d x r within))
      (subst (λ (z : DeskState). RunnerKnows (get_or pairs d x).1 z.shard) (sym {A = DeskState} (desk_at d x y within)) (all d x within))

-- turns without steps change nothing of it
pub rested_begins : (ran : Staffed) (desks : List DeskState) → length ran.1 ≡ length ran.0 → CanBegin ran.0 ran.1 → AllDesksGoOn ran.0 desks → CanBegin desks ran.1
rested_begins ran desks same begins on = λ d r x lt.
    let within : d < length ran.0 = omega (arith, lt, same) in
    runner_knows_later (get_or ran.1 d r) (get_or ran.0 d x).shard (get_or desks d x).shard (on.each d x within).shard (begins d r x lt)

-- where every runner is idle then, and no letter is on its way, nothing more can happen
pub quiet : (s : Staffed) → CanBegin s.0 s.1 → AreStill s.0 → RunnersIdle s.1 s.0 → NothingCanHappen s
quiet s begins still idle = record {
  still = still;
  rests = λ d r x lt. idle_rests (get_or s.1 d r) (get_or s.0 d x).shard (idle.each d r x (omega (arith, lt, idle.count))) (begins d r x lt);
}

-- the node that the script begins with
pub begun_begins : (script : Whole) (first : Staffed) → RunIsBegun script first → CanBegin first.0 first.1
begun_begins script first begun = λ d r x lt. fresh_knows (get_or first.1 d r) (get_or first.0 d x).shard (begun.runners.each d r (omega (arith, lt, begun.runners.counted))).fresh

-- so a next epoch can begin
pub epoch_begins : (options : Options) (budget n : ℕ) (first : Staffed) (histories : List Stamped) (now : Staffed) → CanBegin first.0 first.1 → PassEpochs options budget n first histories now → CanBegin now.0 now.1
epoch_begins options budget zero first histories now begins passed = subst (λ (s : Staffed). CanBegin s.0 s.1) (sym {A = Staffed} passed.0) begins
epoch_begins options budget (suc n) first histories now begins (mid, before, last, passed, epoch, joined) = λ d r x lt.
    fresh_knows (get_or now.1 d r) (get_or now.0 d x).shard (epoch.again.each d r (omega (arith, lt, epoch.again.count))).0

-- runners begin again, one after the other ------------------------------------------------------

-- so the first did
pub record BeganAgain (old now : List Runner) (i : ℕ) : Type 0 where
  pub count : length now ≡ length old
  pub each : (d : ℕ) (r : Runner) → d < i → IsFresh (get_or now d r) × (table (get_or now d r) ≡ table (get_or old d r))
  pub others : (d : ℕ) (r : Runner) → i ≤ d → get_or now d r ≡ get_or old d r

pub none_began : (old : List Runner) → BeganAgain old old 0
none_began old = record { count = refl; each = λ d r lt. absurd (omega (arith, lt)); others = λ d r le. refl }

pub one_began : (old now : List Runner) (i : ℕ) (a b : Runner) → i < length now → a ≡ get_or now i a → IsFresh b → table b ≡ table a → BeganAgain old now i → BeganAgain old (set now i b) (i + 1)
one_began old now i a b lt at fresh same h = record {
  count = length-set now i b ∙ h.count;
  each = λ d r le. elim (cases_lt d i) [
    | inl before ↦
        let apart : d ≢ i = λ e. absurd (omega (arith, e, before)) in
        let kept : get_or (set now i b) d r ≡ get_or now d r = get_or-set_other now i d b r apart in
        subst (λ (q : Runner). IsFresh q × (table q ≡ table (get_or old d r))) (sym {A = Runner} kept) (h.each d r before)
    | inr not_before ↦
        let is : d ≡ i = omega (arith, le, not_before) in
        let put : get_or (set now i b) i r ≡ b = get_or-set_same now i b r lt in
        let was : a ≡ get_or old i r = at ∙ get_or_default now i a r lt ∙ h.others i r (omega arith) in
        subst (λ n. IsFresh (get_or (set now i b) n r) × (table (get_or (set now i b) n r) ≡ table (get_or old n r))) (sym is)
        (subst (λ (q : Runner). IsFresh q × (table q ≡ table (get_or old i r))) (sym {A = Runner} put) (fresh, same ∙ ap table was))
  ];
  others = λ d r le.
      let apart : d ≢ i = λ e. absurd (omega (arith, e, le)) in
      get_or-set_other now i d b r apart ∙ h.others d r (omega (arith, le));
}
