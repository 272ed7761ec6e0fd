-- `clear_gap`: its clauses `entries` and `absent`.
use Rattle.std.proofs.Common.{◌≤◌, ◌∙◌, ap, arith, length}
use Rattle.pt_entries.specs.Gaps.{present}
use Rattle.pt_entries.proofs.GapLemmas.{present-cleared, lookup-closed, lookup-present}
use Rattle.pt_entries.proofs.many.clear_gap.Goals as goal

pub returns-then-len-count-clause-entries : goal.returns-then-len-count-clause-entries
returns-then-len-count-clause-entries g c =
    ap present c.shift_remove.ensures.entries ∙ present-cleared (g.K.PartialEq.eq c.args.key.now) c.args.places.now.entries c.requires.gone

pub returns-else-len-count-clause-absent : goal.returns-else-len-count-clause-absent
returns-else-len-count-clause-absent g c =
    let places = c.args.places.now.entries in
    let closed : length places ≤ length (present places) = omega (arith, c.if-len-count.false, c.len.ensures.len, c.requires.counted) in
    lookup-closed (g.K.PartialEq.eq c.args.key.now) places closed (lookup-present g.met.K.Eq.laws c.args.key.now places c.len.ensures.unique ∙ c.requires.gone)
