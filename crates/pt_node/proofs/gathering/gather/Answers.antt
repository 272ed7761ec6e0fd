-- `gather`: its clauses `one`, `tables`, `gathered`, `kept`, `accounted`, `seated`, `journals`, `reads`, `past`, `outline` and `back`, and what its calls of `reunite`, `audit_all`, `of` and `make_whole` ask.
use Rattle.std.proofs.Common.{◌≡◌, List, length, map, get_or, sym, ap, ◌∙◌, subst}
use Rattle.std.specs.Arc.{arc_value}
use Rattle.std.proofs.lemmas.Simd.{map-map}
use Rattle.pt_carrier.specs.Node.{places, kept, IsNode, AreLeft, lists}
use Rattle.pt_gathered.specs.Gathered.{GatheredState}
use Rattle.pt_gathered.specs.Tables.{AreTables}
use Rattle.pt_desk.specs.DeskState.{DeskState}
use Rattle.pt_workers.specs.Desks.{AreDesksOf, AreAccounted, AreWhole, all_ends, all_shards}
use Rattle.pt_node.specs.Gathering.{ReadsAreTrue}
use Rattle.pt_node.specs.Pasts.{GathersPast, GathersOutline}
use Rattle.pt_node.specs.Seating.{Seated, AreSeated, AreOf, AreAudited, all_seats, together}
use Rattle.pt_node.proofs.Pasts.{gathers_past, gathers_outline}
use Rattle.pt_node.proofs.SeatsOf.{whole_seated, of_one}
use Rattle.pt_node.proofs.Tables.{are_tables}
use Rattle.pt_node.proofs.Together.{gathered_whole, reads_true, kept_of, same_journals}
use Rattle.pt_node.proofs.Wholes.{whole_accounted, accounted_kept, desks_kept}
use Rattle.pt_node.proofs.gathering.gather.Goals as goal

pub reunite-requires : goal.reunite-requires
reunite-requires c =
    let desks = c.args.desks.items in
    subst IsNode (sym (ap (map places) c.take_apart.ensures.pairs ∙ map-map places (λ (d : DeskState). (d.outs, d.ins)) desks)) c.requires.1.node

pub audit_all-kept-requires-clause-one : goal.audit_all-kept-requires-clause-one
audit_all-kept-requires-clause-one c =
    let desks = c.args.desks.items in
    let node = c.requires.1 in
    (node.directory.name, subst (AreOf node.directory.name) (sym c.take_apart.ensures.seats) (of_one node.directory.name desks (λ d x h. ap (λ z. z.name) (node.directories d x h))))

pub of-gathered-requires-clause-tables : goal.of-gathered-requires-clause-tables
of-gathered-requires-clause-tables c =
    let desks = c.args.desks.items in
    subst (λ s. AreTables s c.take_apart.new.tables.items) (sym c.take_apart.ensures.shards)
    (subst (AreTables (all_shards desks)) (sym c.take_apart.ensures.tables) (are_tables desks (subst AreWhole c.as_slice.ensures.value c.look.ensures)))

pub of-gathered-requires-clause-gathered : goal.of-gathered-requires-clause-gathered
of-gathered-requires-clause-gathered c =
    let desks = c.args.desks.items in
    let node = c.requires.1 in
    let r = c.index.result.now in
    let config_is : c.config-config.result ≡ c.requires.0 = c.config-config.ensures ∙ ap (λ (d : DeskState). d.shard.config) c.index.ensures ∙ node.configs 0 r node.some in
    let left : AreLeft (all_ends desks) c.fill.new.lanes.items
    = subst (AreLeft (all_ends desks)) (sym c.fill.ensures) (subst (λ p. AreLeft p (lists c.in-Ok-reunite.left.lanes.items)) c.take_apart.ensures.pairs c.in-Ok-reunite.ensures.ok) in
    gathered_whole desks (record { config = c.config-config.result; shards = c.take_apart.new.shards.items; lanes = c.fill.new.lanes.items })
    (subst AreWhole c.as_slice.ensures.value c.look.ensures)
    (record { node = subst (λ k. AreDesksOf k desks) (sym config_is) node; shards = c.take_apart.ensures.shards; left = left })
    (subst AreAudited c.take_apart.ensures.seats c.audit_all-kept.ensures.audited)

pub of-gathered-requires-clause-kept : goal.of-gathered-requires-clause-kept
of-gathered-requires-clause-kept c =
    let desks = c.args.desks.items in
    let node = c.requires.1 in
    let r = c.index.result.now in
    let config_is : c.config-config.result ≡ c.requires.0 = c.config-config.ensures ∙ ap (λ (d : DeskState). d.shard.config) c.index.ensures ∙ node.configs 0 r node.some in
    let left : AreLeft (all_ends desks) c.fill.new.lanes.items
    = subst (AreLeft (all_ends desks)) (sym c.fill.ensures) (subst (λ p. AreLeft p (lists c.in-Ok-reunite.left.lanes.items)) c.take_apart.ensures.pairs c.in-Ok-reunite.ensures.ok) in
    let k = c.audit_all-kept.result in
    kept_of desks (record { config = c.config-config.result; shards = c.take_apart.new.shards.items; lanes = c.fill.new.lanes.items })
    (subst AreWhole c.as_slice.ensures.value c.look.ensures)
    (record { node = subst (λ k. AreDesksOf k desks) (sym config_is) node; shards = c.take_apart.ensures.shards; left = left })
    (subst AreAudited c.take_apart.ensures.seats c.audit_all-kept.ensures.audited)
    k (subst (λ (l : List Seated). (p : Seated) → (get_or l 0 p).0 ≡ k.directory) c.take_apart.ensures.seats c.audit_all-kept.ensures.directory)
    (c.audit_all-kept.ensures.seat ∙ ap (together k.directory.name) c.take_apart.ensures.seats)
    (c.audit_all-kept.ensures.written ∙ c.in-Ok.ensures.written ∙ ap (map (λ (d : DeskState). length d.shard.journal)) c.as_slice-2.ensures.value)

pub make_whole-requires-clause-accounted : goal.make_whole-requires-clause-accounted
make_whole-requires-clause-accounted c =
    let desks = c.args.desks.items in
    let back : map kept c.into_ends.result.items ≡ map kept (all_ends desks)
    = ap (map kept) c.into_ends.ensures ∙ c.in-Err.ensures.back ∙ ap (map kept) c.take_apart.ensures.pairs in
    accounted_kept c.take_apart.new.shards.items (all_ends desks) c.into_ends.result.items back
    (subst (λ s. AreAccounted s (all_ends desks)) (sym c.take_apart.ensures.shards) (whole_accounted desks (subst AreWhole c.as_slice.ensures.value c.look.ensures)))

pub make_whole-requires-clause-seated : goal.make_whole-requires-clause-seated
make_whole-requires-clause-seated c =
    let desks = c.args.desks.items in
    subst (λ s. AreSeated s (map (λ p. (arc_value p.0, p.1)) c.take_apart.new.seats.items) c.take_apart.new.tables.items) (sym c.take_apart.ensures.shards)
    (subst (λ z. AreSeated (all_shards desks) z c.take_apart.new.tables.items) (sym c.take_apart.ensures.seats)
    (subst (AreSeated (all_shards desks) (all_seats desks)) (sym c.take_apart.ensures.tables) (whole_seated desks (subst AreWhole c.as_slice.ensures.value c.look.ensures))))

pub returns-in-Ok-reunite-clause-journals : goal.returns-in-Ok-reunite-clause-journals
returns-in-Ok-reunite-clause-journals c =
    same_journals c.args.desks.items c.of-gathered.result (ap (λ (g : GatheredState). g.shards) c.of-gathered.ensures ∙ c.take_apart.ensures.shards)

pub returns-in-Ok-reunite-clause-reads : goal.returns-in-Ok-reunite-clause-reads
returns-in-Ok-reunite-clause-reads c =
    let desks = c.args.desks.items in
    let node = c.requires.1 in
    let r = c.index.result.now in
    let config_is : c.config-config.result ≡ c.requires.0 = c.config-config.ensures ∙ ap (λ (d : DeskState). d.shard.config) c.index.ensures ∙ node.configs 0 r node.some in
    let left : AreLeft (all_ends desks) c.fill.new.lanes.items
    = subst (AreLeft (all_ends desks)) (sym c.fill.ensures) (subst (λ p. AreLeft p (lists c.in-Ok-reunite.left.lanes.items)) c.take_apart.ensures.pairs c.in-Ok-reunite.ensures.ok) in
    subst (ReadsAreTrue desks) (sym c.of-gathered.ensures)
    (reads_true desks (record { config = c.config-config.result; shards = c.take_apart.new.shards.items; lanes = c.fill.new.lanes.items })
    (subst AreWhole c.as_slice.ensures.value c.look.ensures)
    (record { node = subst (λ k. AreDesksOf k desks) (sym config_is) node; shards = c.take_apart.ensures.shards; left = left })
    (subst AreAudited c.take_apart.ensures.seats c.audit_all-kept.ensures.audited))

pub returns-in-Ok-reunite-clause-past : goal.returns-in-Ok-reunite-clause-past
returns-in-Ok-reunite-clause-past c =
    let desks = c.args.desks.items in
    let node = c.requires.1 in
    let r = c.index.result.now in
    let config_is : c.config-config.result ≡ c.requires.0 = c.config-config.ensures ∙ ap (λ (d : DeskState). d.shard.config) c.index.ensures ∙ node.configs 0 r node.some in
    let left : AreLeft (all_ends desks) c.fill.new.lanes.items
    = subst (AreLeft (all_ends desks)) (sym c.fill.ensures) (subst (λ p. AreLeft p (lists c.in-Ok-reunite.left.lanes.items)) c.take_apart.ensures.pairs c.in-Ok-reunite.ensures.ok) in
    subst (GathersPast desks) (sym c.of-gathered.ensures)
    (gathers_past desks (record { config = c.config-config.result; shards = c.take_apart.new.shards.items; lanes = c.fill.new.lanes.items })
    (record { node = subst (λ k. AreDesksOf k desks) (sym config_is) node; shards = c.take_apart.ensures.shards; left = left }))

pub returns-in-Ok-reunite-clause-outline : goal.returns-in-Ok-reunite-clause-outline
returns-in-Ok-reunite-clause-outline c =
    let desks = c.args.desks.items in
    let node = c.requires.1 in
    let r = c.index.result.now in
    let config_is : c.config-config.result ≡ c.requires.0 = c.config-config.ensures ∙ ap (λ (d : DeskState). d.shard.config) c.index.ensures ∙ node.configs 0 r node.some in
    let left : AreLeft (all_ends desks) c.fill.new.lanes.items
    = subst (AreLeft (all_ends desks)) (sym c.fill.ensures) (subst (λ p. AreLeft p (lists c.in-Ok-reunite.left.lanes.items)) c.take_apart.ensures.pairs c.in-Ok-reunite.ensures.ok) in
    subst (GathersOutline desks) (sym c.of-gathered.ensures)
    (gathers_outline desks (record { config = c.config-config.result; shards = c.take_apart.new.shards.items; lanes = c.fill.new.lanes.items })
    (record { node = subst (λ k. AreDesksOf k desks) (sym config_is) node; shards = c.take_apart.ensures.shards; left = left }))

pub returns-in-Err-clause-back : goal.returns-in-Err-clause-back
returns-in-Err-clause-back c =
    let desks = c.args.desks.items in
    desks_kept c.make_whole.new.desks.items desks (c.make_whole.ensures.shards ∙ c.take_apart.ensures.shards) (c.make_whole.ensures.seats ∙ c.take_apart.ensures.seats) (c.make_whole.ensures.tables ∙ c.take_apart.ensures.tables)
    (ap (map kept) (c.make_whole.ensures.pairs ∙ c.into_ends.ensures) ∙ c.in-Err.ensures.back ∙ ap (map kept) c.take_apart.ensures.pairs)
