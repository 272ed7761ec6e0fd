-- `Shard::lives_in`: its clause `only`.
use Rattle.std.proofs.Common.{◌≡◌, true, Some, sym, ap, ◌∙◌, subst}
use Rattle.pt_signal.specs.declared.pid.Pid.{Pid}
use Rattle.pt_shard.specs.ShardState.{lives}
use Rattle.pt_shard.specs.Whole.{parts_of}
use Rattle.pt_shard.proofs.Living.{same_slot}
use Rattle.pt_shard.proofs.shard.Shard.lives_in.Goals as goal

pub returns-then-alive_here-clause-only : goal.returns-then-alive_here-clause-only
returns-then-alive_here-clause-only c p h slot =
    let i = c.self.inside in
    let q : Pid = record { shard = c.desk.result; slot = c.args.slot; version = c.issued.result } in
    ap (λ x. Some x) (same_slot (parts_of i.config i.ledger.book i.processes) c.self.invariant q p c.desk.ensures c.issued.ensures (subst (λ d. lives d p ≡ true) (sym c.self.view_is) h) slot)

pub returns-else-alive_here-clause-only : goal.returns-else-alive_here-clause-only
returns-else-alive_here-clause-only c p h slot =
    let i = c.self.inside in
    let q : Pid = record { shard = c.desk.result; slot = c.args.slot; version = c.issued.result } in
    let same = same_slot (parts_of i.config i.ledger.book i.processes) c.self.invariant q p c.desk.ensures c.issued.ensures (subst (λ d. lives d p ≡ true) (sym c.self.view_is) h) slot in
    let here = c.alive_here.ensures ∙ ap (lives c.args.self.now) same ∙ h in
    absurd (cc (here, c.if-alive_here.false))
