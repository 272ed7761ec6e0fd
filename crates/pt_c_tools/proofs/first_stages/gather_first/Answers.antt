-- `gather_first`: its clause `gathers`.
use Rattle.std.proofs.Common.{map, sym, ◌∙◌}
use Rattle.pt_c_tools.proofs.FirstStages.{gathers_now, was_gathered, was_settled}
use Rattle.pt_c_tools.proofs.first_stages.gather_first.Goals as goal

pub returns-then-is_gathered-clause-gathers : goal.returns-then-is_gathered-clause-gathers
returns-then-is_gathered-clause-gathers c =
    was_gathered c.passed_over.result (map (λ h. h.state) c.args.desks.now) (map (λ h. h.state) c.passed_over.new.desks) c.args.gathered.now.state c.is_full-is_gathered.new.h.state c.args.settled.now.state
    (sym c.is_full-is_gathered.ensures.full ∙ c.if-is_gathered.true) c.passed_over.ensures.same c.is_full-is_gathered.ensures.same c.passed_over.ensures.code

pub returns-then-is_settled-clause-gathers : goal.returns-then-is_settled-clause-gathers
returns-then-is_settled-clause-gathers c =
    was_settled c.passed_over-then-is_settled.result (map (λ h. h.state) c.args.desks.now) (map (λ h. h.state) c.passed_over-then-is_settled.new.desks) c.args.gathered.now.state c.is_full-is_gathered.new.h.state c.args.settled.now.state
    (sym c.is_full-is_gathered.ensures.full ∙ c.if-is_gathered.false) (sym c.is_full-is_settled.ensures.full ∙ c.if-is_settled.true) c.passed_over-then-is_settled.ensures.same c.is_full-is_gathered.ensures.same c.passed_over-then-is_settled.ensures.code

pub returns-clause-gathers : goal.returns-clause-gathers
returns-clause-gathers c =
    gathers_now c.gather_desks.result (map (λ h. h.state) c.args.desks.now) (map (λ h. h.state) c.gather_desks.new.desks) c.args.gathered.now.state c.gather_desks.new.out.state c.args.settled.now.state
    (sym c.is_full-is_gathered.ensures.full ∙ c.if-is_gathered.false) (sym c.is_full-is_settled.ensures.full ∙ c.if-is_settled.false) c.is_full-is_gathered.new.h.state c.is_full-is_gathered.ensures.same c.gather_desks.ensures
