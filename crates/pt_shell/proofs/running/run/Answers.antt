-- Each step hears one line more, or ends the run.
use Rattle.std.proofs.Common.{subst, Bool}
use Rattle.pt_signal.specs.declared.config.TheConstants.Config.{DEFAULT}
use Rattle.pt_shell.specs.Running.{SessionSteps, fresh_session}
use Rattle.pt_shell.specs.Sessions.{seen_session}
use Rattle.pt_shell.proofs.LineByLine.{more, ended}
use Rattle.pt_shell.proofs.running.run.Goals as goal

pub loop-number-preserved : goal.loop-number-preserved
loop-number-preserved g c =
    more c.args.is_person DEFAULT (g.R.Read.remaining c.args.from.now) (g.R.Read.remaining c.loop-number.from) (g.R.Read.remaining c.step.new.from) fresh_session (seen_session c.loop-number.session) (seen_session c.step.new.session) (g.W.Write.contents c.args.out.now) (g.W.Write.contents c.loop-number.out) (g.W.Write.contents c.step.new.out)
    c.loop-number.invariant
    (subst (λ (b : Bool). SessionSteps c.args.is_person DEFAULT b (g.R.Read.remaining c.loop-number.from) (g.R.Read.remaining c.step.new.from) (seen_session c.loop-number.session) (g.W.Write.contents c.loop-number.out) (g.W.Write.contents c.step.new.out) (seen_session c.step.new.session)) c.if-more.true c.in_ok-more.ensures)

pub returns-in-loop-number : goal.returns-in-loop-number
returns-in-loop-number g c =
    ended c.args.is_person DEFAULT (g.R.Read.remaining c.args.from.now) (g.R.Read.remaining c.loop-number.from) (g.R.Read.remaining c.step.new.from) fresh_session (seen_session c.loop-number.session) (seen_session c.step.new.session) (g.W.Write.contents c.args.out.now) (g.W.Write.contents c.loop-number.out) (g.W.Write.contents c.step.new.out)
    c.loop-number.invariant
    (subst (λ (b : Bool). SessionSteps c.args.is_person DEFAULT b (g.R.Read.remaining c.loop-number.from) (g.R.Read.remaining c.step.new.from) (seen_session c.loop-number.session) (g.W.Write.contents c.loop-number.out) (g.W.Write.contents c.step.new.out) (seen_session c.step.new.session)) c.if-more.false c.in_ok-more.ensures)
