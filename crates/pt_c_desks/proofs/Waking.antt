-- Nobody but who is named gets an item by an event, or ends by it.
use Rattle.std.proofs.Common.{◌≡◌, Bool, true, false, cond, ◌||◌, Option, Some, [], refl, ap}
use Rattle.pt_signal.specs.declared.pid.Pid.{Pid}
use Rattle.pt_signal.specs.declared.ids.LinkId.{LinkId}
use Rattle.pt_signal.specs.Values.{same_pid, fits, without_first}
use Rattle.pt_signal.specs.Process.{ProcessState, say}
use Rattle.pt_events.specs.declared.event.Event.{Event}
use Rattle.pt_events.specs.declared.event.Event.TheVariants.{Born, Said, Came, Took, Flag, Left, Refused}
use Rattle.pt_events.specs.History.{Past, Start, Phase, unborn, living, ended, life, after, is_the}
use Rattle.pt_events.specs.History.{newborn, linked, while_living, gets, leaves, arrives, items_of, reason_of}
use Rattle.pt_events.proofs.Phases.{each_branch}
use Rattle.pt_workers.specs.Waking.{woken_by}
use Rattle.pt_c_desks.specs.Waking.{NobodyIsMissed}

-- whether or not the event is p's
same_reason : (t : Bool) (f g : Phase) → reason_of g ≡ reason_of f → reason_of (cond t g f) ≡ reason_of f
same_reason t f g h = each_branch (λ x. reason_of x ≡ reason_of f) t g f h refl

while_reason : (step : ProcessState → ProcessState) (f : Phase) → reason_of (while_living step f) ≡ reason_of f
while_reason step unborn = refl
while_reason step (living s) = refl
while_reason step (ended r s) = refl

newborn_reason : (parent : Option Pid) (link : Option LinkId) (f : Phase) → reason_of (newborn parent link f) ≡ reason_of f
newborn_reason parent link unborn = refl
newborn_reason parent link (living s) = refl
newborn_reason parent link (ended r s) = refl

not_its : {X : Type 0} (t : Bool) (x y : X) → t ≡ false → cond t x y ≡ y
not_its true x y h = absurd (cc)
not_its false x y h = refl

no_items : (start : Start) (past : Past) (p : Pid) (e : Event) → is_the p (woken_by e) ≡ false → arrives start past p e ≡ []
no_items start past p (Born q parent link) h = refl
no_items start past p (Said a b x) h = refl
no_items start past p (Came a b x) h = not_its (same_pid p b) (items_of (life start past p) p a x) [] h
no_items start past p (Took q k i) h = refl
no_items start past p (Flag q on) h = refl
no_items start past p (Left q r) h = refl
no_items start past p (Refused a b) h = refl

no_end : (p : Pid) (e : Event) (f : Phase) → is_the p (woken_by e) ≡ false → reason_of (after p e f) ≡ reason_of f
no_end p (Born q parent link) f h =
    same_reason (same_pid p q || is_the p parent) f _
    (each_branch (λ x. reason_of x ≡ reason_of f) (same_pid p q) (newborn parent link f) (while_living (linked (Some q) link) f)
    (newborn_reason parent link f) (while_reason (linked (Some q) link) f))
no_end p (Said a b x) f h = same_reason (same_pid p a) f _ (while_reason (λ s. say s b x) f)
no_end p (Came a b x) f h = ap reason_of (not_its (same_pid p b) (gets p a x f) f h)
no_end p (Took q k i) f h =
    same_reason (same_pid p q) f _ (while_reason (λ s. record s { waiting = without_first (fits k) s.waiting }) f)
no_end p (Flag q on) f h = same_reason (same_pid p q) f _ (while_reason (λ s. record s { traps = on }) f)
no_end p (Left q r) f h = ap reason_of (not_its (same_pid p q) (leaves r f) f h)
no_end p (Refused a b) f h = refl

pub nobody_is_missed : NobodyIsMissed
nobody_is_missed e = record {
  items = λ start past p h. no_items start past p e h;
  ends = λ start past p h. no_end p e (life start past p) h;
}
