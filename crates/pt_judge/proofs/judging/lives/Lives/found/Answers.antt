-- `Lives::found`: its contract.
use Rattle.std.proofs.Common.{◌∙◌, sym, ap, arith}
use Rattle.std.specs.Map.{lookup}
use Rattle.pt_signal.specs.declared.pid.Pid.{Pid}
use Rattle.pt_signal.specs.Values.{same_pid}
use Rattle.pt_events.specs.History.{Phase}
use Rattle.pt_judge.specs.Places.{first_place}
use Rattle.pt_judge.proofs.Lives.{found_at, missing_at}
use Rattle.pt_judge.proofs.judging.lives.Lives.found.Goals as goal

pub returns-then-place-len : goal.returns-then-place-len
returns-then-place-len c =
    let xs = c.self.inside.list.items in
    found_at c.args.pid xs c.place_of-place.result c.index.result.now
    (c.place_of-place.ensures ∙ ap (first_place (λ (life : Pid × Phase). same_pid c.args.pid life.0)) (sym c.self.view_is))
    (omega (arith, c.if-place-len.true, c.len.ensures)) c.index.ensures
    ∙ ap (lookup (same_pid c.args.pid)) c.self.view_is

pub returns-else-place-len : goal.returns-else-place-len
returns-else-place-len c =
    let xs = c.self.inside.list.items in
    missing_at c.args.pid xs c.place_of-place.result
    (c.place_of-place.ensures ∙ ap (first_place (λ (life : Pid × Phase). same_pid c.args.pid life.0)) (sym c.self.view_is))
    (omega (arith, c.if-place-len.false, c.len.ensures))
    ∙ ap (lookup (same_pid c.args.pid)) c.self.view_is
