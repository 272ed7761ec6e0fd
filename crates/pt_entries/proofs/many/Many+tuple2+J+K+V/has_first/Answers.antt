-- `Many+tuple2+J+K+V::has_first`: its contract.
use Rattle.std.proofs.Common.{◌∙◌, ap}
use Rattle.std.specs.List.{list_any}
use Rattle.std.specs.Map.{keys_of}
use Rattle.pt_entries.proofs.GapLemmas.{any-present}
use Rattle.pt_entries.proofs.many.Many+tuple2+J+K+V.has_first.Goals as goal

pub returns : goal.returns
returns g c =
    let test = λ (k : g.row.J.Denot × g.row.K.Denot). g.J.PartialEq.eq c.args.first k.0 in
    c.any_first.ensures ∙ any-present test c.self.inside.places.entries ∙ ap (λ m. list_any test (keys_of m.entries)) c.self.view_is
