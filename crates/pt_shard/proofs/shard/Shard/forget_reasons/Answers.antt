-- `Shard::forget_reasons`: its clauses `forgets`, `processes`, `known` and `fit`, and the invariant of `self`.
use Rattle.std.proofs.Common.{◌≡◌, [], ap, ◌∙◌, sym, subst}
use Rattle.pt_shard.specs.ShardState.{ShardState, phase_of}
use Rattle.pt_shard.specs.Known.{knows}
use Rattle.pt_shard.specs.Whole.{Parts, parts_of, shard_of, IsWhole}
use Rattle.pt_shard.specs.Restart.{forgetful}
use Rattle.pt_shard.proofs.Forgetful.{forgetful_whole, forgetful_phases, forgetful_known}
use Rattle.pt_shard.proofs.shard.Shard.forget_reasons.Goals as goal

abbrev before : goal.After-forget_reasons → Parts
before c = parts_of c.self.inside.config c.self.inside.ledger.book c.self.inside.processes

empty : (c : goal.After-forget_reasons) → (before c).book.journal ≡ []
empty c = subst (λ (d : ShardState). d.journal ≡ []) (sym c.self.view_is) c.requires.fresh

whole : (c : goal.After-forget_reasons) → IsWhole (parts_of c.self.inside.config c.forget_reasons.new.self.book c.self.inside.processes)
whole c = forgetful_whole (before c) c.self.invariant (empty c) c.forget_reasons.new.self.book c.forget_reasons.ensures

now : (c : goal.After-forget_reasons) → shard_of (parts_of c.self.inside.config c.forget_reasons.new.self.book c.self.inside.processes) ≡ forgetful c.args.self.now
now c = ap (λ b. shard_of (parts_of c.self.inside.config b c.self.inside.processes)) c.forget_reasons.ensures ∙ ap forgetful c.self.view_is

pub invariant_of-self : goal.invariant_of-self
invariant_of-self c = whole c

pub returns-clause-forgets : goal.returns-clause-forgets
returns-clause-forgets c = now c

pub returns-clause-processes : goal.returns-clause-processes
returns-clause-processes c p = ap (λ d. phase_of d p) (now c) ∙ forgetful_phases c.args.self.now c.requires.fresh p

pub returns-clause-known : goal.returns-clause-known
returns-clause-known c p = ap (λ d. knows d p) (now c) ∙ forgetful_known c.args.self.now c.requires.fresh p

pub returns-clause-fit : goal.returns-clause-fit
returns-clause-fit c = (whole c).sound.fit
