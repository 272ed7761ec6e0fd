-- `Desk::link`: its clause `goes_on`, and the invariant of `self`.
use Rattle.std.proofs.Common.{◌≡◌, Bool, true, false, is_some, cond, ◌&&◌, Option, Some, None, Result, Ok, Err, refl, subst}
use Rattle.pt_signal.specs.declared.pid.Pid.{Pid}
use Rattle.pt_events.specs.declared.event.Event.{Event}
use Rattle.pt_shard.specs.declared.fault.Fault.{Fault}
use Rattle.pt_shard.specs.declared.fault.Fault.TheVariants.{Gone}
use Rattle.pt_shard.specs.ShardState.{ShardState, lives}
use Rattle.pt_desk.specs.DeskState.{DeskState}
use Rattle.pt_desk.specs.Reaching.{Reaches}
use Rattle.std.specs.Arc.{arc_value}
use Rattle.pt_shard.specs.Calls.{Calls, link_event}
use Rattle.pt_desk.specs.DeskState.{GoesOn}
use Rattle.pt_desk.proofs.Posted.{of_parts}
use Rattle.pt_desk.proofs.Turning.{goes_on_then, shard_goes_on}
use Rattle.pt_desk.proofs.Calling.{step_whole, calls_step, own_link}
use Rattle.pt_desk.proofs.Seating.{sight_of}
use Rattle.pt_desk.proofs.desk.Desk.link.Goals as goal

abbrev made : Bool → Result Bool Fault
made b = Ok b

parted : (alive : Bool) (event : Option Event) (b : Bool) → made b ≡ cond alive (made (is_some event)) (Err Gone) → b ≡ false → (alive ≡ true) × (event ≡ None)
parted true None b made_is nothing = (refl, refl)
parted true (Some e) b made_is nothing = cc
parted false event b made_is nothing = cc

-- a call without an event to write changes nothing
silent : (event : Option Event) (d : ShardState) (p : Pid) → event ≡ None → lives d p ≡ true → Calls p event (tt {0}) d (Ok (tt {0})) d
silent None d p nothing alive = (alive, tt {0}, refl, refl)
silent (Some e) d p nothing alive = cc

-- there is nothing to reach for, and the call is made
unreached : {A : Type 0} (alive : Bool) (event : Option Event) (p t : Pid) (call : Type 0) (old : DeskState) (r : Result A Fault) → event ≡ None → call → Reaches (alive && is_some event) p t call old r old
unreached true None p t call old r nothing does = (does, refl)
unreached false None p t call old r nothing does = (does, refl)
unreached alive (Some e) p t call old r nothing does = cc

pub invariant_of-self : goal.invariant_of-self
invariant_of-self c =
    let i = c.self-2.inside in
    let s = i.shard in
    step_whole s c.make_link.new.self i.outs i.ins (sight_of (arc_value i.directory) i.seat i.before) i.seat
    (calls_step c.args.p (link_event s c.args.p c.args.to) tt s c.make_link.result c.make_link.new.self (own_link s c.args.p c.args.to) c.make_link.ensures.does) c.self-2.invariant c.make_link.ensures.fit

pub returns-clause-goes_on : goal.returns-clause-goes_on
returns-clause-goes_on c =
    let i = c.self-2.inside in
    let new = of_parts c.make_link.new.self i.outs i.ins (sight_of (arc_value i.directory) i.seat i.before) in
    goes_on_then c.args.self.now c.look.new.self new c.in_ok-look.ensures.goes_on
    (subst (λ d. GoesOn d new) c.self-2.view_is (shard_goes_on i.shard c.make_link.new.self i.outs i.ins (sight_of (arc_value i.directory) i.seat i.before) c.make_link.ensures.extends))

pub returns-then-not-branch-clause-does : goal.returns-then-not-branch-clause-does
returns-then-not-branch-clause-does c =
    let d = c.args.self.now.shard in
    let event = link_event d c.args.p c.args.to in
    let both : (lives d c.args.p ≡ true) × (event ≡ None) =
    parted (lives d c.args.p) event c.in_ok-has_link_to_make.field-0
    (subst (λ x. made c.in_ok-has_link_to_make.field-0 ≡ cond (lives x.shard c.args.p) (made (is_some (link_event x.shard c.args.p c.args.to))) (Err Gone)) c.self.view_is c.in_ok-has_link_to_make.ensures)
    c.if-not-branch.true in
    unreached (lives d c.args.p) event c.args.p c.args.to (Calls c.args.p event (tt {0}) d (Ok (tt {0})) d) c.args.self.now (Ok (tt {0})) both.1 (silent event d c.args.p both.1 both.0)
