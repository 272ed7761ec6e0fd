-- `Process::take`: its clause `rest`.
use Rattle.std.proofs.Common.{ap, sym}
use Rattle.pt_signal.specs.Values.{fits}
use Rattle.pt_signal.specs.Process.{ProcessState}
use Rattle.pt_process.proofs.PlaceLemmas.{without_first-none}
use Rattle.pt_process.proofs.StateLemmas.{waiting_same}
use Rattle.pt_process.proofs.process.Process.take.Goals as goal

pub returns-in-None-clause-rest : goal.returns-in-None-clause-rest
returns-in-None-clause-rest c =
    let p = c.args.self.now in
    sym (ap (λ (s : ProcessState). record p { state = s }) (waiting_same p.state _ (without_first-none (fits c.args.pick) p.state.waiting c.in-None.ensures)))
