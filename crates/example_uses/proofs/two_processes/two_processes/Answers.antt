-- `two_processes::two_processes`: its clause `exchanged`.
use Rattle.std.proofs.Common.{◌≡◌, length, refl, arith}
use Rattle.example_uses.proofs.Exchanged.{has_exchanged}
use Rattle.example_uses.proofs.two_processes.two_processes.Goals as goal

pub returns-clause-exchanged : goal.returns-clause-exchanged
returns-clause-exchanged c =
    let first = c.in_ok-desks.desks in
    let then = c.play-played.new.desks in
    let count : length then.items ≡ length first.items = omega (arith, c.in_ok-played.ensures.count, first.ok.0, then.ok.0) in
    has_exchanged _ first.items then.items c.in_ok-gathered.gathered c.in_ok-desks.ensures.1 refl count c.in_ok-played.ensures.does c.in_ok-gathered.ensures.journals
