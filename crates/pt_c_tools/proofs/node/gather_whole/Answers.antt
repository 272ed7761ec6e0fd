-- `gather_whole`: its contract, and what its call of `gather_all` asks.
use Rattle.std.proofs.Common.{map, refl, sym, ◌∙◌}
use Rattle.pt_c_tools.proofs.Joining.{joined, no_memory, was_full}
use Rattle.pt_c_tools.proofs.node.gather_whole.Goals as goal

pub returns-then-is_full : goal.returns-then-is_full
returns-then-is_full c =
    was_full (map (λ h. h.state) c.args.desks.now) (map (λ h. h.state) c.args.desks.now) c.args.out.now.state c.is_full.new.h.state refl c.is_full.ensures.same (sym c.is_full.ensures.full ∙ c.if-is_full.true)

pub returns-in_default : goal.returns-in_default
returns-in_default c =
    no_memory (map (λ h. h.state) c.args.desks.now) (map (λ h. h.state) c.args.desks.now) c.args.out.now.state c.is_full.new.h.state c.requires.full refl c.is_full.ensures.same (sym c.is_full.ensures.full ∙ c.if-is_full.false)

pub returns-in_default-with_capacity : goal.returns-in_default-with_capacity
returns-in_default-with_capacity c =
    no_memory (map (λ h. h.state) c.args.desks.now) (map (λ h. h.state) c.args.desks.now) c.args.out.now.state c.is_full.new.h.state c.requires.full refl c.is_full.ensures.same (sym c.is_full.ensures.full ∙ c.if-is_full.false)

pub returns-in_default-with_capacity-2 : goal.returns-in_default-with_capacity-2
returns-in_default-with_capacity-2 c =
    no_memory (map (λ h. h.state) c.args.desks.now) (map (λ h. h.state) c.args.desks.now) c.args.out.now.state c.is_full.new.h.state c.requires.full refl c.is_full.ensures.same (sym c.is_full.ensures.full ∙ c.if-is_full.false)

pub returns : goal.returns
returns c =
    joined c.gather_all.result (map (λ h. h.state) c.args.desks.now) (map (λ h. h.state) c.gather_all.new.desks) c.args.out.now.state c.is_full.new.h.state c.gather_all.new.out.state (sym c.is_full.ensures.full ∙ c.if-is_full.false) c.is_full.ensures.same c.gather_all.ensures
