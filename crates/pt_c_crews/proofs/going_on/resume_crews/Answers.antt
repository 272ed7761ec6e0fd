-- `resume_crews`: its contract.
use Rattle.std.proofs.Common.{map}
use Rattle.pt_c_crews.proofs.NodeGoingOn.{has_resumed, not_resumed, not_told}
use Rattle.pt_c_crews.proofs.going_on.resume_crews.Goals as goal

pub returns-then-read-ne-DONE : goal.returns-then-read-ne-DONE
returns-then-read-ne-DONE c =
    not_told c.quiet_history-read.result c.none-told.result.state c.quiet_history-read.new.out.state c.args.settled.now.state c.quiet_history-read.new.q.state c.none-told.ensures c.quiet_history-read.ensures.tells c.quiet_history-read.ensures.same
    (map (λ h. h.state) c.args.crews.now) (map (λ h. h.state) c.args.desks.now) c.args.history.now.state c.if-read-ne-DONE.true

pub returns-then-resumed-ne-DONE : goal.returns-then-resumed-ne-DONE
returns-then-resumed-ne-DONE c =
    not_resumed c.quiet_history-read.result c.none-told.result.state c.quiet_history-read.new.out.state c.args.settled.now.state c.quiet_history-read.new.q.state c.none-told.ensures c.quiet_history-read.ensures.tells c.quiet_history-read.ensures.same
    (map (λ h. h.state) c.args.crews.now) (map (λ h. h.state) c.args.desks.now) c.args.history.now.state
    c.resume_desks-resumed.result c.resume_desks-resumed.new.q.state (map (λ h. h.state) c.resume_desks-resumed.new.desks) c.if-read-ne-DONE.false c.resume_desks-resumed.ensures c.if-resumed-ne-DONE.true

pub returns : goal.returns
returns c =
    has_resumed c.quiet_history-read.result c.none-told.result.state c.quiet_history-read.new.out.state c.args.settled.now.state c.quiet_history-read.new.q.state c.none-told.ensures c.quiet_history-read.ensures.tells c.quiet_history-read.ensures.same
    (map (λ h. h.state) c.args.crews.now) (map (λ h. h.state) c.args.desks.now) c.args.history.now.state
    c.resume_desks-resumed.result c.resume_desks-resumed.new.q.state (map (λ h. h.state) c.resume_desks-resumed.new.desks) c.if-read-ne-DONE.false c.resume_desks-resumed.ensures c.if-resumed-ne-DONE.false
    (map (λ h. h.state) c.go_on_with.new.crews) c.go_on_with.new.told.state c.go_on_with.ensures.crews c.go_on_with.ensures.same
