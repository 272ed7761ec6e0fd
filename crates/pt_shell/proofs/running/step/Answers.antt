-- A line that was read is heard, and what is written of it stands behind the prompt.
use Rattle.std.proofs.Common.{ap, ◌∙◌, subst, Bool}
use Rattle.std.specs.Io.BufRead.{strip_last}
use Rattle.pt_signal.specs.declared.config.TheConstants.Config.{DEFAULT}
use Rattle.pt_shell.specs.Running.{ReadsLine}
use Rattle.pt_shell.specs.Sessions.{seen_session}
use Rattle.pt_shell.proofs.LineByLine.{passed}
use Rattle.pt_shell.proofs.running.step.Goals as goal

pub returns-then-more : goal.returns-then-more
returns-then-more g c =
    passed c.args.is_person DEFAULT (g.R.Read.remaining c.args.from.now) (g.R.Read.remaining c.read_line.new.from) c.read_line.new.line.items c.bare-line.result.now (seen_session c.args.session.now) (seen_session c.pass.new.session) (g.W.Write.contents c.args.out.now) (g.W.Write.contents c.prompt.new.out) (g.W.Write.contents c.pass.new.out)
    (subst (λ (b : Bool). ReadsLine b (g.R.Read.remaining c.args.from.now) (g.R.Read.remaining c.read_line.new.from) c.read_line.new.line.items) c.if-more.true c.in_ok-more.ensures)
    (c.bare-line.ensures ∙ ap (strip_last 10) c.as_slice.ensures.value) c.in_ok-prompt.ensures c.in_ok-pass.ensures
