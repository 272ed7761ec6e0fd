-- `settle_first`: its contract.
use Rattle.std.proofs.Common.{sym, ◌∙◌}
use Rattle.pt_c_tools.proofs.FirstStages.{both_full, settled_before, settles_now}
use Rattle.pt_c_tools.proofs.first_stages.settle_first.Goals as goal

pub returns-then-not-is_settled : goal.returns-then-not-is_settled
returns-then-not-is_settled c =
    settles_now c.settle_unlisted.result c.args.gathered.now.state c.settle_unlisted.new.g.state c.args.settled.now.state c.settle_unlisted.new.out.state
    (sym c.is_full-is_settled.ensures.full ∙ c.if-not-is_settled.true) c.is_full-is_settled.new.h.state c.is_full-is_settled.ensures.same c.settle_unlisted.ensures

pub returns-then-is_gathered : goal.returns-then-is_gathered
returns-then-is_gathered c =
    both_full c.args.gathered.now.state c.is_full-is_gathered.new.h.state c.args.settled.now.state c.is_full-is_settled.new.h.state
    (sym c.is_full-is_settled.ensures.full ∙ c.if-not-is_settled.false) (sym c.is_full-is_gathered.ensures.full ∙ c.if-is_gathered.true) c.is_full-is_gathered.ensures.same c.is_full-is_settled.ensures.same

pub returns : goal.returns
returns c =
    settled_before c.args.gathered.now.state c.is_full-is_gathered.new.h.state c.args.settled.now.state c.is_full-is_settled.new.h.state
    (sym c.is_full-is_settled.ensures.full ∙ c.if-not-is_settled.false) (sym c.is_full-is_gathered.ensures.full ∙ c.if-is_gathered.false) c.is_full-is_gathered.ensures.same c.is_full-is_settled.ensures.same
