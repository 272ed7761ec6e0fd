-- `take_value`: its clause `entries`.
use Rattle.std.proofs.Common.{◌∙◌, ap, sym}
use Rattle.pt_entries.proofs.MapLemmas.{set_value-absent}
use Rattle.pt_entries.proofs.many.take_value.Goals as goal

pub returns-in-None-clause-entries : goal.returns-in-None-clause-entries
returns-in-None-clause-entries g c =
    ap (λ m. m.entries) c.get_mut.follows.holds-at-none ∙ sym (set_value-absent _ _ _ (sym c.in-None.ensures.value))
