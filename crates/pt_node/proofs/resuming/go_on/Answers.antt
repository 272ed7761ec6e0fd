-- `go_on`: its clauses `accounted` and `seated`, and what its call of `make_whole` asks.
use Rattle.std.proofs.Common.{◌≡◌, ℕ, ◌≤◌, List, length, map, sym, ap, ◌∙◌, subst, arith}
use Rattle.std.proofs.lemmas.List.{length-map}
use Rattle.std.specs.Arc.{arc_value}
use Rattle.pt_events.specs.Journal.{clock}
use Rattle.pt_accounts.specs.DeskLives.{all_forgotten}
use Rattle.pt_shard.specs.Restart.{restarted}
use Rattle.pt_gathered.specs.Gathered.{journals}
use Rattle.pt_workers.specs.Desks.{AreAccounted}
use Rattle.pt_node.specs.Seating.{AreSeated, Seated}
use Rattle.pt_workers.proofs.GoingOn.{written}
use Rattle.pt_node.proofs.Resumed.{resumed_accounted, resumed_desks}
use Rattle.pt_node.proofs.resuming.go_on.Goals as goal

pub make_whole-requires-clause-accounted : goal.make_whole-requires-clause-accounted
make_whole-requires-clause-accounted c =
    let g = c.args.settled.gathered in
    let pairs = c.requires.pairs in
    let are : c.restart_all.new.shards.items ≡ map (restarted c.args.start) g.shards = c.restart_all.ensures ∙ ap (map (restarted c.args.start)) c.into_parts-old.ensures.shards in
    subst (λ s. AreAccounted s c.args.room.pairs.items) (sym are)
    (resumed_accounted g c.versions.ensures.gathered c.args.start c.laws.ensures.nothing_left c.args.room.pairs.items pairs.count pairs.node pairs.new)

pub make_whole-requires-clause-seated : goal.make_whole-requires-clause-seated
make_whole-requires-clause-seated c =
    let g = c.args.settled.gathered in
    let n = c.args.start in
    let lives = c.args.settled.lives in
    let seats : List Seated = map (λ p. (arc_value p.0, p.1)) c.args.room.seats.items in
    let are : c.restart_all.new.shards.items ≡ map (restarted n) g.shards = c.restart_all.ensures ∙ ap (map (restarted n)) c.into_parts-old.ensures.shards in
    let old = c.into_parts-old.result.2.items in
    let forgot : c.forget_all.new.tables ≡ map all_forgotten lives = c.forget_all.ensures ∙ ap (map all_forgotten) (c.as_mut_slice.ensures.value ∙ c.into_parts-old.ensures.lives) in
    let long : length c.forget_all.new.tables ≡ length old = ap length (c.forget_all.ensures ∙ ap (map all_forgotten) c.as_mut_slice.ensures.value) ∙ length-map old all_forgotten in
    let whole = written old c.forget_all.new.tables c.into_parts-old.result.2.len long (omega (arith, c.into_parts-old.result.2.ok.0)) ∙ forgot in
    subst (λ ts. AreSeated c.restart_all.new.shards.items seats ts) (sym whole)
    (subst (λ s. AreSeated s seats (map all_forgotten lives)) (sym are) c.requires.seats.seated)

pub returns : goal.returns
returns c =
    let g = c.args.settled.gathered in
    let n = c.args.start in
    let lives = c.args.settled.lives in
    let told = c.versions.ensures in
    let seats : List Seated = map (λ p. (arc_value p.0, p.1)) c.args.room.seats.items in
    let are : c.restart_all.new.shards.items ≡ map (restarted n) g.shards = c.restart_all.ensures ∙ ap (map (restarted n)) c.into_parts-old.ensures.shards in
    let pairs = c.requires.pairs in
    let above = subst (λ k. (d : ℕ) → clock g.config.start (journals g d) ≤ k) (c.clock-clock.ensures.latest ∙ sym c.requires.latest) c.clock-clock.ensures.journals in
    resumed_desks g told.gathered n (map all_forgotten lives) seats c.requires.seats
    told.gathered.some (c.laws.ensures.again n above) (λ past merged from m. c.laws.ensures.after past merged n from m above) (λ past merged from m. c.laws.ensures.outline_after past merged n from m above) c.args.room.pairs.items pairs.count pairs.node pairs.new
    c.make_whole.new.desks.items c.make_whole.ensures.pairs (c.make_whole.ensures.shards ∙ are) c.make_whole.ensures.seats
