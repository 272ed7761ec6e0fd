-- `Many::at`: its contract, and what its call of `unwrap` asks, and its checked operations.
use Rattle.std.proofs.Common.{◌<◌, ◌≤◌, length, slice_get, sym, ap, ◌∙◌, arith, is_some}
use Rattle.std.specs.Map.Iter.{deref_pair}
use Rattle.std.specs.Option.{option_map}
use Rattle.pt_entries.specs.Gaps.{present, standing}
use Rattle.pt_entries.proofs.GapLemmas.{row_at, length-present, standing_some, some_at}
use Rattle.pt_entries.proofs.many.Many.at.Goals as goal

pub unwrap-requires : goal.unwrap-requires
unwrap-requires g c =
    let places = c.self.inside.places.entries in
    c.get_index.ensures.found.1 (omega (arith, c.requires.within, ap (λ m. length m.entries) c.self.view_is, length-present places))

pub unwrap-requires-2 : goal.unwrap-requires-2
unwrap-requires-2 g c =
    let places = c.self.inside.places.entries in
    let closed : length places ≤ length (present places) = omega (arith, c.requires.closed, ap (λ m. m.gaps) c.self.view_is, c.self.invariant.counted) in
    let within : c.args.i < length (present places) = omega (arith, c.requires.within, ap (λ m. length m.entries) c.self.view_is) in
    let at = sym c.get_index.ensures.entry ∙ ap (option_map deref_pair) c.unwrap.ensures in
    sym (standing_some _) ∙ ap is_some (row_at places c.args.i _ closed at) ∙ some_at (present places) c.args.i within

pub returns : goal.returns
returns g c =
    let places = c.self.inside.places.entries in
    let closed : length places ≤ length (present places) = omega (arith, c.requires.closed, ap (λ m. m.gaps) c.self.view_is, c.self.invariant.counted) in
    let at = sym c.get_index.ensures.entry ∙ ap (option_map deref_pair) c.unwrap.ensures in
    sym (ap (λ m. slice_get m.entries c.args.i) c.self.view_is)
    ∙ sym (row_at places c.args.i _ closed at)
    ∙ ap (λ v. standing (c.unwrap.result.0.now, v)) c.unwrap-2.ensures
