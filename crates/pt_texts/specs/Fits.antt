-- The numbers of values are of their types.
use Rattle.std.specs.Prelude.{◌<◌, ◌^◌, ℤ, Option, Some, None}
use lib.Signed.{mag}
use Rattle.pt_signal.specs.declared.pid.Pid.{Pid}
use Rattle.pt_signal.specs.declared.ids.Ref.{Ref}
use Rattle.pt_signal.specs.declared.ids.LinkId.{LinkId}
use Rattle.pt_signal.specs.declared.ids.Ids.{Ids}
use Rattle.pt_signal.specs.declared.item.Body.{Body}
use Rattle.pt_signal.specs.declared.reason.Reason.{Reason}
use Rattle.pt_signal.specs.declared.reason.Reason.TheVariants.{Other}
use Rattle.pt_signal.specs.declared.item.Pick.{Pick}
use Rattle.pt_signal.specs.declared.item.Item.{Item}
use Rattle.pt_signal.specs.declared.item.Item.TheVariants.{User}
use Rattle.pt_signal.specs.declared.signal.Signal.{Signal}
use Rattle.pt_signal.specs.declared.signal.Signal.TheVariants.{Message, Link, Unlink, LinkExit, Monitor, Demonitor}
use Rattle.pt_signal.specs.declared.signal.Signal.TheVariants.{AliveAsk, AliveSay}
use Rattle.pt_signal.specs.declared.letter.Letter.{Letter}
use Rattle.pt_events.specs.declared.event.Event.{Event}
use Rattle.pt_events.specs.declared.event.Event.TheVariants.{Born, Said, Came, Took, Flag, Left, Refused}
use Rattle.pt_events.specs.declared.event.Stamped.{Stamped}
use Rattle.pt_signal.specs.declared.letter.LeftOver.{LeftOver}
use Rattle.pt_texts.specs.declared.records.Record.{Record}
use Rattle.pt_texts.specs.declared.records.Record.TheVariants.{Head, Last, Clock, Seen, Lives, Waits, Linked, Watches}
use Rattle.pt_texts.specs.declared.records.Record.TheVariants.{Watched, Ended, End}

abbrev pub FitsIfAny : {A : Type 0} → (A → Type 0) → Option A → Type 0
FitsIfAny Fits None = Unit {0}
FitsIfAny Fits (Some x) = Fits x

abbrev pub FitsPid : Pid → Type 0
FitsPid p = (p.shard < 2 ^ 8) × (p.slot < 2 ^ 32) × (p.version < 2 ^ 32)

abbrev pub FitsRef : Ref → Type 0
FitsRef m = (m.desk < 2 ^ 8) × (m.number < 2 ^ 64)

abbrev pub FitsLinkId : LinkId → Type 0
FitsLinkId i = (i.desk < 2 ^ 8) × (i.number < 2 ^ 64)

abbrev pub FitsIds : Ids → Type 0
FitsIds ids = FitsLinkId ids.one × FitsIfAny FitsLinkId ids.two

-- mag is n for n and for minus n + 1
abbrev pub FitsNumber : ℤ → Type 0
FitsNumber z = mag z < 2 ^ 63

abbrev pub FitsBody : Body → Type 0
FitsBody b = (b.kind < 2 ^ 32) × FitsNumber b.num × FitsIfAny FitsPid b.who

abbrev pub FitsReason : Reason → Type 0
FitsReason (Other n) = n < 2 ^ 32
FitsReason r = Unit {0}

abbrev pub FitsItem : Item → Type 0
FitsItem (User p b) = FitsPid p × FitsBody b
FitsItem (Item.Exit p r) = FitsPid p × FitsReason r
FitsItem (Item.Down m p r) = FitsRef m × FitsPid p × FitsReason r
FitsItem (Item.Alive m p x) = FitsRef m × FitsPid p

abbrev pub FitsPick : Pick → Type 0
FitsPick Pick.Any = Unit {0}
FitsPick (Pick.Kind n) = n < 2 ^ 32
FitsPick (Pick.From p) = FitsPid p
FitsPick (Pick.ExitOf p) = FitsPid p
FitsPick (Pick.DownOf m) = FitsRef m
FitsPick (Pick.AliveOf m) = FitsRef m

abbrev pub FitsSignal : Signal → Type 0
FitsSignal (Message b) = FitsBody b
FitsSignal (Link i) = FitsLinkId i
FitsSignal (Unlink ids) = FitsIds ids
FitsSignal (Signal.Exit r) = FitsReason r
FitsSignal (LinkExit ids r) = FitsIds ids × FitsReason r
FitsSignal (Monitor m) = FitsRef m
FitsSignal (Demonitor m) = FitsRef m
FitsSignal (Signal.Down m r) = FitsRef m × FitsReason r
FitsSignal (AliveAsk m) = FitsRef m
FitsSignal (AliveSay m x) = FitsRef m

abbrev pub FitsLetter : Letter → Type 0
FitsLetter l = (FitsPid l.from × FitsPid l.to) × FitsSignal l.signal × (l.stamp < 2 ^ 64)

abbrev pub FitsEvent : Event → Type 0
FitsEvent (Born p parent link) = FitsPid p × FitsIfAny FitsPid parent × FitsIfAny FitsLinkId link
FitsEvent (Said a b x) = (FitsPid a × FitsPid b) × FitsSignal x
FitsEvent (Came a b x) = (FitsPid a × FitsPid b) × FitsSignal x
FitsEvent (Took p k i) = FitsPid p × FitsPick k × FitsItem i
FitsEvent (Flag p on) = FitsPid p
FitsEvent (Left p r) = FitsPid p × FitsReason r
FitsEvent (Refused a b) = FitsPid a × FitsPid b

abbrev pub FitsStamped : Stamped → Type 0
FitsStamped s = (s.stamp < 2 ^ 64) × (s.desk < 2 ^ 8) × FitsEvent s.event

abbrev pub FitsLeftOver : LeftOver → Type 0
FitsLeftOver l = (l.from_desk < 2 ^ 8) × (l.to_desk < 2 ^ 8) × FitsLetter l.letter

abbrev pub FitsRecord : Record → Type 0
FitsRecord (Head events desks begun) = (events < 2 ^ 64) × (desks < 2 ^ 16)
FitsRecord (Last s) = FitsStamped s
FitsRecord (Clock desk stamp) = (desk < 2 ^ 8) × (stamp < 2 ^ 64)
FitsRecord (Seen desk p) = (desk < 2 ^ 8) × FitsPid p
FitsRecord (Lives p traps) = FitsPid p
FitsRecord (Waits i) = FitsItem i
FitsRecord (Linked p ids) = FitsPid p × FitsIds ids
FitsRecord (Watches m p) = FitsRef m × FitsPid p
FitsRecord (Watched m p) = FitsRef m × FitsPid p
FitsRecord (Ended p last r) = FitsPid p × (last < 2 ^ 32) × FitsReason r
FitsRecord (End sum) = sum < 2 ^ 64
