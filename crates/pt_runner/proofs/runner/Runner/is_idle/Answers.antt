-- `Runner::is_idle`: its clause `rests`.
use Rattle.std.proofs.Common.{length, reverse, ap, sym, ◌∙◌, arith}
use Rattle.std.proofs.lemmas.List.{length-reverse}
use Rattle.pt_runner.proofs.Waiting.{read_rests}
use Rattle.pt_runner.proofs.runner.Runner.is_idle.Goals as goal

pub returns-then-self-events-clause-rests : goal.returns-then-self-events-clause-rests
returns-then-self-events-clause-rests c = λ all k.
    let d = c.args.desk.now.shard in
    let l = ap length (c.events.ensures.events ∙ ap reverse c.journal.ensures.past) in
    let r = length-reverse d.journal in
    read_rests c.args.self.now d (omega (arith, c.if-self-events.true, l, r)) (sym c.all_rest.ensures ∙ all) k
