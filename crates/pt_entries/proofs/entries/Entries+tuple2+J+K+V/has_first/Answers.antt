-- `Entries+tuple2+J+K+V::has_first`: its contract.
use Rattle.std.proofs.Common.{◌∙◌, ap, sym}
use Rattle.std.specs.List.{list_any}
use Rattle.std.specs.Map.{keys_of}
use Rattle.pt_entries.specs.Held.{held_entries}
use Rattle.pt_entries.proofs.MapLemmas.{any-entries}
use Rattle.pt_entries.proofs.entries.Entries+tuple2+J+K+V.has_first.Goals as goal

pub returns-in-Few : goal.returns-in-Few
returns-in-Few g c =
    let test = λ (k : g.row.J.Denot × g.row.K.Denot). g.J.PartialEq.eq c.args.first k.0 in
    let seen = rw c.deref.ensures.value at c.any_first.ensures in
    seen ∙ any-entries test c.in-Few.few.items ∙ ap (λ p. list_any test (keys_of (held_entries p))) (sym c.in-Few.is) ∙ ap (λ l. list_any test (keys_of l.entries)) c.self.view_is
