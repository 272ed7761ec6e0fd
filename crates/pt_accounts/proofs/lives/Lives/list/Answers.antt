-- `Lives::list`: its clause `told`.
use Rattle.std.proofs.Common.{List, ◌++◌, ap, ◌∙◌}
use Rattle.pt_signal.specs.declared.pid.Pid.{Pid}
use Rattle.pt_accounts.specs.LivesState.{all_pids}
use Rattle.pt_accounts.proofs.NodePids.{all_listed}
use Rattle.pt_accounts.proofs.lives.Lives.list.Goals as goal

pub returns-clause-told : goal.returns-clause-told
returns-clause-told c =
    let lives = c.args.self.now in
    all_listed lives c.list_all.new.pids.items
    (c.in_ok-list_all.ensures ∙ ap (λ (z : List Pid). z ++ all_pids c.as_slice.result.now) c.new-pids.ensures.items ∙ ap all_pids (c.as_slice.ensures.value ∙ c.self.view_is))
    c.journals_tell_their_pids.ensures.journals
