-- What behaviours uphold stays so through a run of their crews, and while a node is turned until it is still.
use Rattle.std.proofs.Common.{◌≡◌, ◌≢◌, ⊎_elim, ℕ, zero, suc, ◌<◌, Bool, true, List, [], ◌∷◌, ◌++◌, length, map, get_or, set, Option, Some, None, Result, Ok, Err, refl, sym, ap, subst, ◌∙◌, length-append, arith}
use Rattle.std.specs.Prelude.{◌==◌}
use Rattle.std.proofs.Math.ListN.{get_or-append}
use Rattle.std.proofs.lemmas.Bool.{and_parts, cases_eq, eqb-true}
use Rattle.std.proofs.lemmas.List.{get_or-set_other, get_or-set_same, get_or_push, nil_from_length}
use Rattle.pt_shard.specs.ShardState.{ShardState}
use Rattle.pt_desk.specs.DeskState.{DeskState}
use Rattle.pt_desk.specs.Turns.{Turns}
use Rattle.pt_desk.specs.declared.turned.Turned.{Turned}
use Rattle.pt_desk.proofs.Turning.{turn_goes_on}
use Rattle.pt_workers.specs.Desks.{desk_kept}
use Rattle.pt_workers.specs.Running.{AllWork, BeginRelation, InRounds, TakesTurn, TakesTurns}
use Rattle.pt_workers.specs.NodeRunning.{RunsNode, RunsPaired}
use Rattle.pt_workers.specs.Stillness.{LooksAgain, Rounds, RunsRounds, TurnEach}
use Rattle.pt_workers.specs.declared.run_fault.RunFault.{RunFault}
use Rattle.pt_workers.specs.declared.run_fault.RunFault.TheVariants.{Works, Memory}
use Rattle.pt_workers.specs.declared.stillness.Rested.{Rested}
use Rattle.pt_workers.specs.declared.stillness.Stopped.{Stopped}
use Rattle.pt_workers.proofs.Meeting.{kept_count, kept_shard}
use Rattle.pt_workers.proofs.TurnsOf.{turn_of, turns_go_on}
use Rattle.pt_crew.specs.declared.crew.Crew.{Crew}
use Rattle.pt_behaviour.specs.Behaving.{Answers}
use Rattle.pt_crew.specs.Waking.{IsAwake}
use Rattle.pt_crew.specs.Crews.{Attends, CrewDoes, members, queue, roles}
use Rattle.pt_behaviour.specs.Upholding.{Relation, IsUpheld}
use Rattle.pt_crew.specs.Running.{is_idle, CrewsDo, UpholdsOn, AllUphold, RunUpholds, RoundsUphold, RestUpholds}
use Rattle.pt_crew.proofs.Upholding.{step_upholds, turn_upholds}
use Rattle.pt_crew.proofs.Paired.{paired_on, same_on}
use Rattle.pt_crew.proofs.Reading.{awake_all}
use Rattle.pt_crew.proofs.Waking.{knows_later}

-- a crew that is idle has read everything, and nobody stands in its queue
pub idle_awake : {B : Type 0} (c : Crew B) (d : ShardState) → is_idle c d ≡ true → Attends c d → (queue c ≡ []) × IsAwake (members c) (queue c) d
idle_awake c d idle a =
    let both = and_parts (length (queue c) == 0) (c.read == length d.journal) idle in
    let read = eqb-true c.read (length d.journal) both.1 in (
      nil_from_length (queue c) (eqb-true (length (queue c)) 0 both.0),
      awake_all c d (omega (arith, read)) a.knows,
    )

-- a look more after the rounds, where a turn was stopped
looked_again : (stop : Option Stopped) (last new : List DeskState) → LooksAgain stop last new → map desk_kept new ≡ map desk_kept last
looked_again None last new h = ap (map desk_kept) h
looked_again (Some s) last new h = h

module _ {B : Type 0} (stands : Relation B) where
  -- the first desks have crews, which uphold that
  abbrev pub FirstUphold : List (Crew B) → List DeskState → Type 0
  FirstUphold crews desks = (d : ℕ) (c : Crew B) (x : DeskState) → d < length crews → UpholdsOn stands (get_or crews d c) (get_or desks d x).shard

  -- one more has
  pub one_more : (crews : List (Crew B)) (desks : List DeskState) (crew : Crew B) (desk : DeskState) → length crews < length desks
      → FirstUphold crews desks → UpholdsOn stands crew desk.shard → FirstUphold (crews ++ crew ∷ []) (set desks (length crews) desk)
  one_more crews desks crew desk within first own d c x l = ⊎_elim
      (λ (here : d ≡ k). subst (λ j. UpholdsOn stands (get_or (crews ++ crew ∷ []) j c) (get_or (set desks k desk) j x).shard) (sym here)
      (same_on (UpholdsOn stands) crew (get_or (crews ++ crew ∷ []) k c) desk (get_or (set desks k desk) k x) (sym (get_or_push crews crew c k refl)) (sym (get_or-set_same desks k desk x within)) own))
      (λ (apart : d ≢ k).
      let count = length-append crews (crew ∷ []) in
      let before : d < k = omega (arith, l, apart, count) in
      same_on (UpholdsOn stands) (get_or crews d c) (get_or (crews ++ crew ∷ []) d c) (get_or desks d x) (get_or (set desks k desk) d x)
      (sym (get_or-append crews (crew ∷ []) c d before)) (sym (get_or-set_other desks k d desk x apart)) (first d c x before))
      (cases_eq d k)
    where
      k : ℕ
      k = length crews

module _ {B : Type 0} (answers : Answers B) (stands : Relation B) (k : IsUpheld answers stands) where
  step_on : (old new : Crew B) (d e : ShardState) → CrewDoes answers old d new e → UpholdsOn stands old d → UpholdsOn stands new e
  step_on old new d e h a = record { attends = h.attends a.attends; upholds = step_upholds answers stands k old new d e h a.upholds }

  turn_on : (c : Crew B) (budget : ℕ) (old : DeskState) (turned : Turned) (new : DeskState) → Turns budget old turned new → UpholdsOn stands c old.shard → UpholdsOn stands c new.shard
  turn_on c budget old turned new h a = record {
    attends = record {
      knows = knows_later (members c) (queue c) c.read old.shard new.shard
          (turn_goes_on old h.posted_desk h.last new h.letters turned.stopped turned.handled budget h.posts h.handles h.ends).shard a.attends.knows;
      room = a.attends.room;
      timers = a.attends.timers;
    };
    upholds = record { members = turn_upholds answers stands k (roles c) budget old turned new h a.upholds.members; waiting = a.upholds.waiting };
  }

  -- a worker's turn, and so many of them
  worker_on : (budget : ℕ) (old new : DeskState × Crew B) → TakesTurn (CrewsDo answers) budget old new → UpholdsOn stands old.1 old.0.shard → UpholdsOn stands new.1 new.0.shard
  worker_on budget old new h a =
      subst (λ (c : Crew B). UpholdsOn stands c new.0.shard) (sym h.hears)
      (turn_on h.worked budget h.stepped h.turned new.0 h.turn (step_on old.1 h.worked old.0.shard h.stepped.shard h.step a))

  workers_on : (lets : Crew B → ℕ → Bool → Type 0) (budget count : ℕ) (old new : DeskState × Crew B) → TakesTurns lets (CrewsDo answers) budget count old new → UpholdsOn stands old.1 old.0.shard → UpholdsOn stands new.1 new.0.shard
  workers_on lets budget zero old new h a = subst (λ (x : DeskState × Crew B). UpholdsOn stands x.1 x.0.shard) (sym h) a
  workers_on lets budget (suc count) old new (last, before, begins, turn) a = worker_on budget last new turn (workers_on lets budget count old last before a)

  module _ (lets : BeginRelation (Crew B)) (turns budget : ℕ) where
    all_uphold : (old : List DeskState) (crews : List (Crew B)) (new : List DeskState) (later : List (Crew B))
        → RunsPaired (AllWork lets (CrewsDo answers) turns budget) old crews new later → AllUphold stands crews old → AllUphold stands later new
    all_uphold old crews new later r a =
        let each = paired_on (UpholdsOn stands) (AllWork lets (CrewsDo answers) turns budget) old crews new later r
        (λ d p within. workers_on (lets (get_or r.before d p).0.shard.number) budget (r.runs d p within).count (get_or r.before d p) (get_or r.after d p) (r.runs d p within).took)
        (record { count = a.count; each = a.each }) in
        record { count = each.count; each = each.each }

    run_on : (Runs : List (DeskState × Crew B) → List (DeskState × Crew B) → Type 0) → ((xs ys : List (DeskState × Crew B)) → Runs xs ys → AllWork lets (CrewsDo answers) turns budget xs ys)
        → (old : List DeskState) (crews : List (Crew B)) (result : Result (Unit {0}) RunFault) (new : List DeskState) (later : List (Crew B))
        → RunsNode Runs old crews result new later → AllUphold stands crews old → AllUphold stands later new
    run_on Runs all old crews (Ok done) new later r a =
        all_uphold old crews new later (record { before = r.before; after = r.after; begun = r.begun; ended = r.ended; each = r.each; runs = all r.before r.after r.runs }) a
    run_on Runs all old crews (Err Works) new later r a = subst (λ (x : List DeskState). AllUphold stands later x) (sym r.1) (subst (λ (x : List (Crew B)). AllUphold stands x old) (sym r.2) a)
    run_on Runs all old crews (Err Memory) new later r a = subst (λ (x : List DeskState). AllUphold stands later x) (sym r.1) (subst (λ (x : List (Crew B)). AllUphold stands x old) (sym r.2) a)

  pub run_upholds : (lets : BeginRelation (Crew B)) → RunUpholds answers stands lets
  run_upholds lets turns budget old new crews later result r a =
      run_on lets turns budget (AllWork lets (CrewsDo answers) turns budget) (λ xs ys h. h) old crews result new later r a

  pub rounds_uphold : (lets : BeginRelation (Crew B)) → RoundsUphold answers stands lets
  rounds_uphold lets turns budget old new crews later result r a = run_on lets turns budget
      (λ (xs ys : List (DeskState × Crew B)). AllWork lets (CrewsDo answers) turns budget xs ys × InRounds lets (CrewsDo answers) turns budget xs ys)
      (λ xs ys h. h.0) old crews result new later r a

  module _ (crews : List (Crew B)) (budget : ℕ) where
    -- a turn of each desk
    turned_on : (old : List DeskState) (did : Rested) (new : List DeskState) → TurnEach budget (length old) old did new → AllUphold stands crews old → AllUphold stands crews new
    turned_on old did new h a = record {
      count = a.count ∙ sym same;
      each = λ d c x l.
          let within : d < length old = omega (arith, l, same) in
          let t = turn_of budget (length old) old did new h d within in
          turn_on (get_or crews d c) budget (get_or old d x) t.turned (get_or new d x) (t.turns x) (a.each d c x within);
    }
      where
        same : length new ≡ length old
        same = (turns_go_on budget (length old) old did new h).count

    -- a look at the lanes
    looked_on : (old new : List DeskState) → map desk_kept new ≡ map desk_kept old → AllUphold stands crews old → AllUphold stands crews new
    looked_on old new kept a = record {
      count = a.count ∙ sym same;
      each = λ d c x l.
          let within : d < length old = omega (arith, l, same) in
          subst (λ (s : ShardState). UpholdsOn stands (get_or crews d c) s) (sym (kept_shard new old kept d x within)) (a.each d c x within);
    }
      where
        same : length new ≡ length old
        same = kept_count new old kept

    rounds_on : (n : ℕ) (old : List DeskState) (did : Rested) (new : List DeskState) → Rounds budget n old did new → AllUphold stands crews old → AllUphold stands crews new
    rounds_on zero old did new h a = subst (λ (x : List DeskState). AllUphold stands crews x) (sym h.1) a
    rounds_on (suc n) old did new (mid, met, before, round, earlier, on, kept, turns, both) a =
        turned_on met round new turns (looked_on mid met kept (rounds_on n old before mid earlier a))

    still_on : (old : List DeskState) (did : Rested) (new : List DeskState) → RunsRounds budget old did new → AllUphold stands crews old → AllUphold stands crews new
    still_on old did new r a = looked_on r.last new (looked_again did.stopped r.last new r.looks) (rounds_on r.count old did r.last r.rounds a)

  pub rest_upholds : RestUpholds stands
  rest_upholds budget old new crews did r a = still_on crews budget old did new r a
