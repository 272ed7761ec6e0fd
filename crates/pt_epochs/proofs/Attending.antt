-- Crews attend their desks through legs, and over those of the node that was resumed.
use Rattle.std.proofs.Common.{◌≡◌, ℕ, zero, suc, ◌<◌, List, [], ◌∷◌, length, max, get_or, Option, Some, None, refl, sym, ap, ◌∙◌, subst, arith}
use Rattle.std.specs.Option.{option_map}
use Rattle.std.proofs.lemmas.List.{get_or-map, length-map}
use Rattle.pt_events.specs.History.{Phase, unborn, living, ended, is_unborn}
use Rattle.pt_events.specs.Leaving.{outcome}
use Rattle.pt_events.proofs.Leaving.{leaves_each}
use Rattle.pt_shard.specs.Extends.{Extends}
use Rattle.pt_shard.specs.Restart.{restarted}
use Rattle.pt_shard.specs.ShardState.{ShardState, past, phase_of}
use Rattle.pt_desk.specs.DeskState.{DeskState}
use Rattle.pt_desk.specs.Turns.{Turns}
use Rattle.pt_desk.specs.declared.turned.Turned.{Turned}
use Rattle.pt_desk.proofs.Turning.{turn_goes_on}
use Rattle.pt_gathered.specs.Gathered.{GatheredState}
use Rattle.pt_gathered.specs.Quiet.{latest_stamp}
use Rattle.pt_workers.specs.Desks.{all_shards}
use Rattle.pt_workers.specs.NodeRunning.{RunsPaired}
use Rattle.pt_workers.specs.Running.{TakesTurn}
use Rattle.pt_workers.specs.Stillness.{AllDesksGoOn}
use Rattle.pt_workers.specs.declared.stillness.Rested.{Rested}
use Rattle.pt_node.proofs.RoundByRound.{all_rounds_go_on}
use Rattle.pt_behaviour.specs.declared.behaviour.Next.{Next}
use Rattle.pt_crew.specs.declared.crew.Crew.{Crew}
use Rattle.pt_crew.specs.declared.crew.Member.{Member}
use Rattle.pt_behaviour.specs.Behaving.{Answers}
use Rattle.pt_crew.specs.Crews.{Attends, AreBorn, members, queue, role, roles}
use Rattle.pt_crew.specs.Running.{CrewsDo}
use Rattle.pt_crew.proofs.Paired.{EachHolds, paired_on}
use Rattle.pt_crew.proofs.Waking.{knows_later}
use Rattle.pt_epochs.specs.Driving.{AllWorkLet, LetsBegin, TakesLet}
use Rattle.pt_epochs.specs.Idle.{InTurns, Leg, Legs, Worked}
use Rattle.pt_epochs.specs.Epochs.{AllAttend, ResumesCrews}

-- whatever goes on with the desk, the crew attends it
later : {B : Type 0} (c : Crew B) (old new : ShardState) → Extends old new → Attends c old → Attends c new
later c old new e a = record { knows = knows_later (members c) (queue c) c.read old new e a.knows; room = a.room; timers = a.timers }

abbrev shard_of : DeskState → ShardState
shard_of d = d.shard

-- each crew attends the desk at its place
abbrev Attend : {B : Type 0} → List (Crew B) → List DeskState → Type 0
Attend crews desks = EachHolds Attends crews desks

of_desks : {B : Type 0} (crews : List (Crew B)) (desks : List DeskState) → Attend crews desks → AllAttend crews (all_shards desks)
of_desks crews desks a = record {
  count = a.count ∙ sym (length-map desks shard_of);
  each = λ d c s l.
      let within : d < length desks = omega (arith, l, length-map desks shard_of) in
      let x = some_desk desks d within in
      subst (Attends (get_or crews d c)) (sym (get_or-map shard_of desks d x s within)) (a.each d c x within);
}
  where
    some_desk : (xs : List DeskState) (d : ℕ) → d < length xs → DeskState
    some_desk [] d h = absurd (omega (arith, h))
    some_desk (x ∷ xs) d h = x

to_desks : {B : Type 0} (crews : List (Crew B)) (desks : List DeskState) → AllAttend crews (all_shards desks) → Attend crews desks
to_desks crews desks a = record {
  count = a.count ∙ length-map desks shard_of;
  each = λ d c x l.
      subst (Attends (get_or crews d c)) (get_or-map shard_of desks d x x.shard l) (a.each d c x.shard (omega (arith, l, length-map desks shard_of)));
}

module _ {B : Type 0} (answers : Answers B) where
  turn_on : (c : Crew B) (budget : ℕ) (old : DeskState) (turned : Turned) (new : DeskState) → Turns budget old turned new → Attends c old.shard → Attends c new.shard
  turn_on c budget old turned new h a =
      later c old.shard new.shard (turn_goes_on old h.posted_desk h.last new h.letters turned.stopped turned.handled budget h.posts h.handles h.ends).shard a

  -- a worker's turn, and so many of them
  worker_on : (budget : ℕ) (old new : DeskState × Crew B) → TakesTurn (CrewsDo answers) budget old new → Attends old.1 old.0.shard → Attends new.1 new.0.shard
  worker_on budget old new h a =
      subst (λ (c : Crew B). Attends c new.0.shard) (sym h.hears) (turn_on h.worked budget h.stepped h.turned new.0 h.turn (h.step.attends a))

  workers_on : (lets : LetsBegin (Crew B)) (budget count : ℕ) (old new : DeskState × Crew B) → TakesLet lets (CrewsDo answers) budget count old new → Attends old.1 old.0.shard → Attends new.1 new.0.shard
  workers_on lets budget zero old new h a = subst (λ (x : DeskState × Crew B). Attends x.1 x.0.shard) (sym h) a
  workers_on lets budget (suc count) old new (last, before, begins, turn) a = worker_on budget last new turn (workers_on lets budget count old last before a)

  all_attend : (lets : LetsBegin (Crew B)) (turns budget : ℕ) (old : List DeskState) (crews : List (Crew B)) (new : List DeskState) (after : List (Crew B))
      → RunsPaired (AllWorkLet lets (CrewsDo answers) turns budget) old crews new after → Attend crews old → Attend after new
  all_attend lets turns budget old crews new after r =
      paired_on Attends (AllWorkLet lets (CrewsDo answers) turns budget) old crews new after r
      (λ d p within. workers_on lets budget (r.runs d p within).count (get_or r.before d p) (get_or r.after d p) (r.runs d p within).took)

  go_on_on : (crews : List (Crew B)) (old new : List DeskState) → AllDesksGoOn old new → Attend crews old → Attend crews new
  go_on_on crews old new on a = record {
    count = a.count ∙ sym on.count;
    each = λ d c x l.
        let within : d < length old = omega (arith, l, on.count) in
        later (get_or crews d c) (get_or old d x).shard (get_or new d x).shard (on.each d x within).shard (a.each d c x within);
  }

  module _ (lets : LetsBegin (Crew B)) (budget : ℕ) where
    leg_on : (turns : ℕ) (old : Worked (Crew B)) (did : Rested) (new : Worked (Crew B)) → Leg (InTurns answers lets budget) budget turns old did new → Attend old.works old.desks → Attend new.works new.desks
    leg_on turns old did new leg a =
        go_on_on new.works leg.ran new.desks (all_rounds_go_on (max budget 1) leg.ran did new.desks leg.rests)
        (all_attend lets turns budget old.desks old.works leg.ran new.works leg.runs a)

    legs_on : (Goes : Worked (Crew B) → Type 0) (legs : List ℕ) (old new : Worked (Crew B)) → Legs (InTurns answers lets budget) budget Goes legs old new → Attend old.works old.desks → Attend new.works new.desks
    legs_on Goes [] old new h a = subst (λ (w : Worked (Crew B)). Attend w.works w.desks) (sym h) a
    legs_on Goes (turns ∷ legs) old new (mid, did, before, leg, on, goes) a = leg_on turns mid did new leg (legs_on Goes legs old mid before a)

    pub leg_attends : (turns : ℕ) (old : Worked (Crew B)) (did : Rested) (new : Worked (Crew B)) → Leg (InTurns answers lets budget) budget turns old did new → AllAttend old.works (all_shards old.desks) → AllAttend new.works (all_shards new.desks)
    leg_attends turns old did new leg a = of_desks new.works new.desks (leg_on turns old did new leg (to_desks old.works old.desks a))

    pub legs_attend : (Goes : Worked (Crew B) → Type 0) (legs : List ℕ) (old new : Worked (Crew B)) → Legs (InTurns answers lets budget) budget Goes legs old new → AllAttend old.works (all_shards old.desks) → AllAttend new.works (all_shards new.desks)
    legs_attend Goes legs old new h a = of_desks new.works new.desks (legs_on Goes legs old new h (to_desks old.works old.desks a))

-- a node that is resumed: whoever was born is there
still_born : (f : Phase) → is_unborn (outcome f) ≡ is_unborn f
still_born unborn = refl
still_born (living s) = refl
still_born (ended r s) = refl

member_of : {B : Type 0} (o : Option (Member B)) (r : B × Next) → option_map role o ≡ Some r → (m : Member B) × (o ≡ Some m)
member_of None r is = absurd (cc)
member_of (Some m) r is = (m, refl)

born_again : {B : Type 0} (c : Crew B) (s : ShardState) (n : ℕ) → Attends c s → AreBorn (roles c) (restarted n s)
born_again c s n a p r is =
    let m = member_of (members c p) r is in
    ap is_unborn (leaves_each s.start (past s) p) ∙ still_born (phase_of s p) ∙ a.knows.born p m.0 m.1

pub resumed_attends : {B : Type 0} (g : GatheredState) (crews : List (Crew B)) (desks : List DeskState) (after : List (Crew B)) → ResumesCrews g crews desks after → AllAttend crews g.shards → AllAttend after (all_shards desks)
resumed_attends {B} g crews desks after r a =
    subst (AllAttend after) (sym r.resumes.shards) (record {
      count = r.begins.count ∙ a.count ∙ sym (length-map g.shards (restarted n));
      each = λ d c s l.
          let within : d < length g.shards = omega (arith, l, length-map g.shards (restarted n)) in
          let was = a.each d c s within in
          subst (Attends (get_or after d c)) (sym (get_or-map (restarted n) g.shards d s s within))
          ((r.begins.each d c (omega (arith, within, a.count))).attends (get_or g.shards d s) (restarted n (get_or g.shards d s)) was (born_again (get_or crews d c) (get_or g.shards d s) n was));
    })
  where
    n : ℕ
    n = latest_stamp g
