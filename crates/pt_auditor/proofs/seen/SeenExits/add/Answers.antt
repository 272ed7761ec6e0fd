-- `add`: its contract.
use Rattle.std.proofs.Common.{◌≡◌, ℕ, true, Option, Some, None, ◌∷◌, ◌++◌, [], refl, ap, ◌∙◌}
use Rattle.std.specs.Prelude.{is_none}
use Rattle.std.specs.Map.{lookup}
use Rattle.indexmap.proofs.CallerLemmas.{insert_entry-new}
use Rattle.pt_auditor.specs.Seen.{is_slot_of}
use Rattle.pt_auditor.proofs.seen.SeenExits.add.Goals as goal

absent : (o : Option ℕ) → is_none o ≡ true → o ≡ None
absent None h = refl
absent (Some n) h = absurd (cc)

pub returns : goal.returns
returns c =
    let d = c.args.desk in
    let p = c.args.pid in
    let none = absent (lookup (is_slot_of d p) c.args.self.now) c.requires in
    c.in_ok-insert.ensures.entries
    ∙ insert_entry-new _ c.self.inside.tops (d, p.shard, p.slot) p.version (ap (lookup (is_slot_of d p)) c.self.view_is ∙ none)
    ∙ ap (λ z. z ++ ((d, p.shard, p.slot), p.version) ∷ []) c.self.view_is
