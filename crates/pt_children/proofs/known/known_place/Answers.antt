-- `known_place`: its clause `place`.
use Rattle.std.proofs.Common.{rules, sym, ◌∙◌}
use Rattle.indexmap.specs.IndexMap.{get}
use Rattle.pt_signal.specs.Values.{same_pid}
use Rattle.pt_children.proofs.Knowing.{known_at, known_not, not_at, not_known}
use Rattle.pt_children.proofs.known.known_place.Goals as goal

pub returns-in-Some-clause-place : goal.returns-in-Some-clause-place
returns-in-Some-clause-place c =
    sym (known_at (get same_pid c.args.places.now) c.args.children.now c.args.pid c.requires c.in-Some.place.now (sym c.in-Some.ensures.value) (sym c.is_at.ensures.is ∙ c.if-is_at.true))

pub returns-in_default-clause-place : goal.returns-in_default-clause-place
returns-in_default-clause-place c =
    sym (known_not (get same_pid c.args.places.now) c.args.children.now c.args.pid c.requires
    (not_at (get same_pid c.args.places.now) c.args.children.now c.args.pid c.in-Some.place.now (sym c.in-Some.ensures.value) (sym c.is_at.ensures.is ∙ c.if-is_at.false)))

pub returns-in_default-2-clause-place : goal.returns-in_default-2-clause-place
returns-in_default-2-clause-place c =
    sym (known_not (get same_pid c.args.places.now) c.args.children.now c.args.pid c.requires (not_known (get same_pid c.args.places.now) c.args.children.now c.args.pid (search rules)))
