-- `run`: what holds in its loop over `number`.
use Rattle.pt_signal.specs.declared.config.TheConstants.Config.{DEFAULT}
use Rattle.pt_shell.specs.Running.{HasRun, fresh_session}
use Rattle.pt_shell.specs.Sessions.{seen_session}
use Rattle.pt_shell.proofs.running.run.Given as goal

abbrev pub invariant-loop-number : goal.invariant-loop-number
invariant-loop-number g l =
    HasRun l.is_person DEFAULT (g.R.Read.remaining l.fn.from) (g.R.Read.remaining l.from) fresh_session (g.W.Write.contents l.fn.out) (g.W.Write.contents l.out) (seen_session l.session)
