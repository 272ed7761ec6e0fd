-- How a process joins and leaves groups with a monitor, and what is sent to all of a group.
use Rattle.std.specs.Prelude.{◌≡◌, ◌+◌, Bool, true, false, List, [], ◌∷◌, Option, Some, None, Result, Ok, Err, MatchOption}
use Rattle.pt_signal.specs.declared.pid.Pid.{Pid}
use Rattle.pt_signal.specs.declared.ids.Ref.{Ref}
use Rattle.pt_signal.specs.declared.item.Body.{Body}
use Rattle.pt_signal.specs.declared.item.Item.{Item}
use Rattle.pt_signal.specs.declared.item.Item.TheVariants.{Down}
use Rattle.pt_shard.specs.declared.fault.Fault.{Fault}
use Rattle.pt_shard.specs.declared.fault.Fault.TheVariants.{NoProc}
use Rattle.pt_desk.specs.DeskState.{DeskState}
use Rattle.pt_behaviour.specs.declared.call_fault.CallFault.{CallFault}
use Rattle.pt_behaviour.specs.declared.call_fault.CallFault.TheVariants as call
use Rattle.pt_behaviour.specs.Telling.{SendsTo, Watches, Unwatches}
use Rattle.pt_names.specs.declared.group.Group.{Group}
use Rattle.pt_names.specs.declared.group.JoinError.{JoinError}
use Rattle.pt_names.specs.declared.group.Left.{Left}
use Rattle.pt_names.specs.declared.group.Left.TheVariants.{NotThere, Stays, Last}
use Rattle.pt_names.specs.declared.group_registry.GroupRegistry.{GroupRegistry}
use Rattle.pt_names.specs.declared.group_registry.GroupError.{GroupError}
use Rattle.pt_names.specs.declared.group_registry.GroupError.TheVariants.{Refused, Unwatched, LeftOpen}
use Rattle.pt_names.specs.declared.group_registry.Sent.{Sent}
use Rattle.pt_names.specs.Groups.{monitor_kept}
use Rattle.pt_names.specs.Grouping.{JoinsGroup, Leaving, LeavesGroup, LeavesAll}

-- nothing has changed
abbrev pub IsAsBefore : GroupRegistry → DeskState → GroupRegistry → DeskState → Type 0
IsAsBefore old d new e = (new ≡ old) × (e ≡ d)

-- what the caller is told where the groups refuse a process: the monitor that is still open, if it could not be cancelled
abbrev pub not_joined_as : JoinError → Ref → Result Bool Fault → GroupError
not_joined_as f m (Ok was_open) = Refused f
not_joined_as f m (Err why) = LeftOpen f m

-- the groups refuse the process, and its monitor is cancelled, or the caller is told that it is not
pub record IsNotJoined (g : Group) (p : Pid) (m : Ref) (old : GroupRegistry) (d : DeskState) (told : GroupError)
    (new : GroupRegistry) (e : DeskState) : Type 0 where
  pub why : JoinError
  pub refused : JoinsGroup g p m old.groups (Err why) new.groups
  pub same : new ≡ old
  pub cancelled : Result Bool Fault
  pub cancels : Unwatches old.me m d cancelled e
  pub tells : told ≡ not_joined_as why m cancelled

-- a process that is monitored joins, or is refused
abbrev pub KeepsPlace : Group → Pid → Ref → GroupRegistry → DeskState → Result (Unit {0}) GroupError → GroupRegistry → DeskState
    → Type 0
KeepsPlace g p m old d (Ok done) new e =
    (kept : Ref) × JoinsGroup g p m old.groups (Ok kept) new.groups × (new.me ≡ old.me) × (e ≡ d)
KeepsPlace g p m old d (Err f) new e = IsNotJoined g p m old d f new e

-- a process that has a monitor joins, or is refused
abbrev pub JoinsAgain : Group → Pid → Ref → GroupRegistry → Result (Unit {0}) GroupError → GroupRegistry → Type 0
JoinsAgain g p m old (Ok done) new =
    (kept : Ref) × JoinsGroup g p m old.groups (Ok kept) new.groups × (new.me ≡ old.me)
JoinsAgain g p m old (Err (Refused f)) new = JoinsGroup g p m old.groups (Err f) new.groups × (new ≡ old)
JoinsAgain g p m old (Err f) new = ⊥

-- the monitor is made, and then the process joins
abbrev pub JoinsFirst : Group → Pid → GroupRegistry → DeskState → Result (Unit {0}) GroupError → GroupRegistry → DeskState → Type 0
JoinsFirst g p old d (Err (Unwatched f)) new e = (new ≡ old) × Watches old.me p d (Err f) e
JoinsFirst g p old d result new e =
    (m : Ref) × (watching : DeskState) × Watches old.me p d (Ok m) watching × KeepsPlace g p m old watching result new e

-- the one monitor of a process is made as it joins its first group
abbrev pub JoinsWatched : Group → Pid → GroupRegistry → DeskState → Result (Unit {0}) GroupError → GroupRegistry → DeskState
    → Type 0
JoinsWatched g p old d result new e =
    MatchOption (monitor_kept old.groups p) (JoinsFirst g p old d result new e)
    (λ m. JoinsAgain g p m old result new × (e ≡ d))

abbrev pub Cancels : Pid → Left → DeskState → DeskState → Type 0
Cancels me NotThere d e = ⊥
Cancels me Stays d e = e ≡ d
Cancels me (Last m) d e = (was_open : Bool) × Unwatches me m d (Ok was_open) e

-- with the last place of a process its monitor is cancelled; if that fails, nothing has changed
abbrev pub LeavesWatched : Group → Pid → GroupRegistry → DeskState → Result Bool Fault → GroupRegistry → DeskState → Type 0
LeavesWatched g p old d (Ok false) new e = Leaving g p old.groups NotThere × IsAsBefore old d new e
LeavesWatched g p old d (Ok true) new e =
    (left : Left) × LeavesGroup g p old.groups left new.groups × (new.me ≡ old.me) × Cancels old.me left d e
LeavesWatched g p old d (Err f) new e =
    (m : Ref) × Leaving g p old.groups (Last m) × Unwatches old.me m d (Err f) e × (new ≡ old)

-- a process with this monitor leaves all its groups
abbrev pub ForgetsWatched : Pid → Ref → GroupRegistry → Option Pid → GroupRegistry → Type 0
ForgetsWatched p m old (Some q) new = (q ≡ p) × LeavesAll p old.groups (Some m) new.groups × (new.me ≡ old.me)
ForgetsWatched p m old None new = (monitor_kept old.groups p ≡ Some m → ⊥) × (new ≡ old)

-- the DOWN of its monitor takes a process out of all its groups, and no other item does anything
abbrev pub HearsGroups : Item → GroupRegistry → Option Pid → GroupRegistry → Type 0
HearsGroups (Down m p reason) old heard new = ForgetsWatched p m old heard new
HearsGroups i old heard new = (heard ≡ None) × (new ≡ old)

-- what sending to all of a list has done: the count of those that it was sent to, of those that have exited, and what stopped
abbrev pub one_sent : Sent → Sent
one_sent s = record s { sent = s.sent + 1 }

abbrev pub one_exited : Sent → Sent
one_exited s = record s { exited = s.exited + 1 }

abbrev pub none_sent : Option CallFault → Sent
none_sent why = record { sent = 0; exited = 0; stopped = why }

-- what follows a send: who has exited is skipped, and any other failure stops
abbrev pub GoesOnSending : (DeskState → Sent → DeskState → Type 0) → Result (Unit {0}) CallFault → DeskState → Sent → DeskState
    → Type 0
GoesOnSending Rest (Ok done) d s e = (rest : Sent) × Rest d rest e × (s ≡ one_sent rest)
GoesOnSending Rest (Err (call.Refused NoProc)) d s e = (rest : Sent) × Rest d rest e × (s ≡ one_exited rest)
GoesOnSending Rest (Err f) d s e = (s ≡ none_sent (Some f)) × (e ≡ d)

-- how a send is counted, and whether it stops
abbrev pub CountsSend : Result (Unit {0}) CallFault → Sent → Bool → Sent → Type 0
CountsSend (Ok done) old stops new = (stops ≡ false) × (new ≡ one_sent old)
CountsSend (Err (call.Refused NoProc)) old stops new = (stops ≡ false) × (new ≡ one_exited old)
CountsSend (Err f) old stops new = (stops ≡ true) × (new ≡ record old { stopped = Some f })

-- each gets the message, in turn
abbrev pub SendsAll : Pid → Body → List Pid → DeskState → Sent → DeskState → Type 0
SendsAll me body [] d s e = (s ≡ none_sent None) × (e ≡ d)
SendsAll me body (p ∷ ps) d s e =
    (r : Result (Unit {0}) CallFault) × (mid : DeskState) × SendsTo me p body d r mid
    × GoesOnSending (SendsAll me body ps) r mid s e
