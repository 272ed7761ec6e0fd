-- An event that may come is refused by no cause.
use Rattle.std.proofs.Common.{Option, Some, None}
use Rattle.std.proofs.lemmas.Bool.{both_ways}
use Rattle.pt_signal.specs.declared.pid.Pid.{Pid}
use Rattle.pt_signal.specs.declared.ids.LinkId.{LinkId}
use Rattle.pt_judge.specs.declared.cause.Cause.{Cause}
use Rattle.pt_judge.specs.declared.cause.Cause.TheVariants.{BornTwice, NotAlive, NotFront, NotFirstMatch, Unlawful}
use Rattle.pt_events.specs.declared.event.Event.{Event}
use Rattle.pt_events.specs.declared.event.Event.TheVariants.{Born, Said, Came, Took, Flag, Left, Refused}
use Rattle.pt_events.specs.History.{Past, Start, May, MayBear}
use Rattle.pt_judge.specs.Judge.{Refuses, DeadParent, BadLink}

live_parent : (start : Start) (past : Past) (parent : Option Pid) (link : Option LinkId) → MayBear start past parent link → ¬ DeadParent start past parent
live_parent start past None link h k = k
live_parent start past (Some q) None h k = both_ways _ k h
live_parent start past (Some q) (Some i) h k = both_ways _ k h.0

good_link : (start : Start) (past : Past) (parent : Option Pid) (link : Option LinkId) → MayBear start past parent link → ¬ BadLink start past parent link
good_link start past parent None h k = k
good_link start past None (Some i) h k = h
good_link start past (Some q) (Some i) h k = both_ways _ h.1 k

pub no_cause : (start : Start) (past : Past) (e : Event) (c : Cause) → May start past e → ¬ Refuses start past e c
no_cause start past (Born p parent link) BornTwice h k = k h.0
no_cause start past (Born p parent link) NotAlive h k = live_parent start past parent link h.1 k
no_cause start past (Born p parent link) Unlawful h k = good_link start past parent link h.1 k
no_cause start past (Said a b x) NotAlive h k = both_ways _ k h.0
no_cause start past (Said a b x) Unlawful h k = k h.1
no_cause start past (Came a b x) NotFront h k = k h
no_cause start past (Took p j i) NotAlive h k = both_ways _ k h.0
no_cause start past (Took p j i) NotFirstMatch h k = k h.1
no_cause start past (Flag p on) NotAlive h k = both_ways _ k h
no_cause start past (Left p r) NotAlive h k = both_ways _ k h
no_cause start past (Refused a b) NotAlive h k = both_ways _ k h.0
no_cause start past (Refused a b) Unlawful h k = both_ways _ k h.1
no_cause start past e c h k = k
