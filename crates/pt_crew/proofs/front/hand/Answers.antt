-- `hand`: its clauses `bears` and `answers`.
use Rattle.std.proofs.Common.{List, ℕ, subst}
use Rattle.pt_behaviour.specs.declared.births.Role.{Role}
use Rattle.pt_behaviour.specs.Births.{bore, born, time_told}
use Rattle.pt_behaviour.proofs.Bearing.{grown}
use Rattle.pt_crew.proofs.front.hand.Goals as goal

pub returns-clause-bears : goal.returns-clause-bears
returns-clause-bears g c = grown c.args.births.now c.begin.new.self c.handle-member.new.births c.begin.ensures.all c.handle-member.ensures.kept

pub returns-clause-answers : goal.returns-clause-answers
returns-clause-answers g c =
    let m = c.args.member.now in
    subst (λ (time : ℕ). g.B.Behaviour.answers time m.behaviour c.args.desk.now.shard c.args.p c.args.item c.handle-member.result c.handle-member.new.self c.handle-member.new.desk.shard (bore (born c.args.births.now) (born c.handle-member.new.births)))
    c.begin.ensures.told
    (subst (λ (waited : List (Role g.row.B.Denot)). g.B.Behaviour.answers (time_told c.begin.new.self) m.behaviour c.args.desk.now.shard c.args.p c.args.item c.handle-member.result c.handle-member.new.self c.handle-member.new.desk.shard (bore waited (born c.handle-member.new.births)))
    c.begin.ensures.same c.handle-member.ensures.answers)
