-- Why an event may not come.
use Rattle.std.specs.Prelude.{◌≡◌, ℕ, ◌<◌, true, false, Option, Some, None, Ok, Err, List, ◌∷◌, ◌++◌, length, reverse}
use Rattle.std.specs.Prelude.{take, slice_get}
use Rattle.std.specs.declared.result.Result.{Result}
use Rattle.std.specs.List.{find}
use Rattle.pt_signal.specs.declared.pid.Pid.{Pid}
use Rattle.pt_signal.specs.declared.ids.LinkId.{LinkId}
use Rattle.pt_judge.specs.declared.cause.Cause.{Cause}
use Rattle.pt_judge.specs.declared.cause.Cause.TheVariants.{BornTwice, NotAlive, NotFront, NotFirstMatch, Unlawful}
use Rattle.pt_judge.specs.declared.cause.Cause.TheVariants.{Memory}
use Rattle.pt_events.specs.declared.event.Event.{Event}
use Rattle.pt_events.specs.declared.event.Event.TheVariants.{Born, Said, Came, Took, Flag, Left, Refused}
use Rattle.pt_signal.specs.Values.{fits}
use Rattle.pt_signal.specs.Process.{sent}
use Rattle.pt_judge.specs.Judging.{JudgeState, now_is, ListsLinks, ListsRefs}
use Rattle.pt_events.specs.History.{Past, Start, unborn, is_ended, life, alive, state, flying, is_between, made_link}
use Rattle.pt_events.specs.History.{MaySay, May, IsLegal}

abbrev pub cause_number : Cause → ℕ
cause_number BornTwice = 1
cause_number NotAlive = 2
cause_number NotFront = 3
cause_number NotFirstMatch = 4
cause_number Unlawful = 5
cause_number Memory = 6

module _ (start : Start) where
  abbrev pub DeadParent : Past → Option Pid → Type 0
  DeadParent past None = ⊥
  DeadParent past (Some q) = alive start past q ≡ false

  abbrev pub BadLink : Past → Option Pid → Option LinkId → Type 0
  BadLink past parent None = ⊥
  BadLink past None (Some i) = Unit {0}
  BadLink past (Some q) (Some i) = made_link past i ≡ true

  -- the cause fits the event after the history
  abbrev pub Refuses : Past → Event → Cause → Type 0
  Refuses past (Born p parent link) BornTwice = ¬ (life start past p ≡ unborn)
  Refuses past (Born p parent link) NotAlive = DeadParent past parent
  Refuses past (Born p parent link) Unlawful = BadLink past parent link
  Refuses past (Said a b x) NotAlive = alive start past a ≡ false
  Refuses past (Said a b x) Unlawful = ¬ MaySay start past (state start past a) a b x
  Refuses past (Came a b x) NotFront = ¬ (find (is_between a b) (flying start past) ≡ Some (sent a b x))
  Refuses past (Took p k i) NotAlive = alive start past p ≡ false
  Refuses past (Took p k i) NotFirstMatch = ¬ (find (fits k) (state start past p).waiting ≡ Some i)
  Refuses past (Flag p on) NotAlive = alive start past p ≡ false
  Refuses past (Left p r) NotAlive = alive start past p ≡ false
  Refuses past (Refused a b) NotAlive = alive start past a ≡ false
  Refuses past (Refused a b) Unlawful = is_ended (life start past b) ≡ false
  Refuses past e c = ⊥

  -- the cause that is given: the lowest that fits
  abbrev pub IsCause : Past → Event → Cause → Type 0
  IsCause past e c = Refuses past e c × ((lower : Cause) → cause_number lower < cause_number c → ¬ Refuses past e lower)

  -- the event may come next, or the cause is the one that is given
  abbrev pub IsJudged : Past → Event → Option Cause → Type 0
  IsJudged past e None = May start past e
  IsJudged past e (Some c) = IsCause past e c

  -- what the judge knows is what the history leads to
  pub record IsAfter (past : Past) (s : JudgeState) : Type 0 where
    pub links_made : ListsLinks s.links past
    pub refs_made : ListsRefs s.refs past
    pub alike : (p : Pid) → now_is s p ≡ life start past p
    pub flies : s.flights ≡ flying start past

  -- the judgement of one event more; memory may be wanting for an event that may come
  abbrev pub Judges : Past → Event → Result JudgeState Cause → Type 0
  Judges past e (Ok s) = May start past e × IsAfter (e ∷ past) s
  Judges past e (Err Memory) = May start past e
  Judges past e (Err c) = IsCause past e c

  -- the event at the place may not come, for that cause; or it may, and memory was wanting
  abbrev pub FailsAt : Past → Event → Cause → Type 0
  FailsAt past e Memory = May start past e
  FailsAt past e c = ¬ May start past e × IsCause past e c

  abbrev pub Fails : List Event → ℕ → Cause → Type 0
  Fails h n c = (e : Event) × (slice_get h n ≡ Some e) × FailsAt (reverse (take n h)) e c

  -- the judgement of a history, oldest event first: the state is what the whole legal history leads to; or the
  -- events before the place are legal, and the one at the place fails
  abbrev pub Replays : List Event → Result JudgeState (ℕ × Cause) → Type 0
  Replays h (Ok s) = IsAfter (reverse h) s × IsLegal start (reverse h)
  Replays h (Err stop) = (stop.0 < length h) × IsLegal start (reverse (take stop.0 h)) × Fails h stop.0 stop.1

  -- the same of events that come after a legal past
  abbrev pub FailsAfter : Past → List Event → ℕ → Cause → Type 0
  FailsAfter past h n c = (e : Event) × (slice_get h n ≡ Some e) × FailsAt (reverse (take n h) ++ past) e c

  abbrev pub ReplaysAfter : Past → List Event → Result JudgeState (ℕ × Cause) → Type 0
  ReplaysAfter past h (Ok s) = IsAfter (reverse h ++ past) s × IsLegal start (reverse h ++ past)
  ReplaysAfter past h (Err stop) =
      (stop.0 < length h) × IsLegal start (reverse (take stop.0 h) ++ past) × FailsAfter past h stop.0 stop.1
