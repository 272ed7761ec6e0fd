-- `prepare_kept`: its clauses `range`, `seat`, `desks` and `ended`, what its calls of `kept_seats` and `take_rest` ask, and its clause `seats`.
use Rattle.std.proofs.Common.{◌≡◌, ◌≤◌, List, map, sym, ap, subst, ◌∙◌}
use Rattle.std.specs.Arc.{arc_value}
use Rattle.pt_directory.specs.Seats.{AreLate, late_seat}
use Rattle.pt_directory.specs.Views.{up_from}
use Rattle.pt_accounts.specs.DeskLives.{all_forgotten}
use Rattle.pt_events.specs.Journal.{clock}
use Rattle.pt_shard.specs.Restart.{restarted}
use Rattle.pt_signal.specs.declared.config.Config.{Config}
use Rattle.pt_signal.specs.Settings.{IsInRange}
use Rattle.pt_gathered.specs.Gathered.{journals}
use Rattle.pt_gathered.specs.Late.{AreEndsSince}
use Rattle.pt_node.specs.Seating.{Seated}
use Rattle.pt_node.proofs.Prepared.{range}
use Rattle.pt_node.proofs.Keeping.{desks_are, homes_are, are_late, kept_ready, if_kept}
use Rattle.pt_node.proofs.resuming.prepare_kept.Goals as goal

pub kept_seats-requires-clause-seat : goal.kept_seats-requires-clause-seat
kept_seats-requires-clause-seat c =
    let q = c.args.settled.now in
    let told = c.versions.ensures in
    let k = c.args.kept in (
      c.requires.kept.kept.name,
      homes_are q.gathered told.gathered c.args.start q.lives told.count told.told told.turns
          (λ d. subst (λ m. clock q.gathered.config.start (journals q.gathered d) ≤ m) (c.clock-clock.ensures.latest ∙ sym c.requires.latest) (c.clock-clock.ensures.journals d))
          k c.requires.kept c.in_ok-late.late.items (subst (λ w. AreEndsSince q.gathered w c.args.start c.in_ok-late.late.items) c.written.ensures c.in_ok-late.ensures.since),
    )

pub kept_seats-requires-clause-desks : goal.kept_seats-requires-clause-desks
kept_seats-requires-clause-desks c =
    let q = c.args.settled.now in
    let told = c.versions.ensures in
    c.desks.ensures.count ∙ told.gathered.desks
    ∙ sym (desks_are q.gathered told.gathered c.args.start q.lives told.count told.told told.turns
    (λ d. subst (λ m. clock q.gathered.config.start (journals q.gathered d) ≤ m) (c.clock-clock.ensures.latest ∙ sym c.requires.latest) (c.clock-clock.ensures.journals d))
    c.args.kept c.requires.kept c.in_ok-late.late.items (subst (λ w. AreEndsSince q.gathered w c.args.start c.in_ok-late.late.items) c.written.ensures c.in_ok-late.ensures.since))

pub kept_seats-requires-clause-ended : goal.kept_seats-requires-clause-ended
kept_seats-requires-clause-ended c =
    let q = c.args.settled.now in
    let told = c.versions.ensures in
    subst (AreLate c.args.kept.directory c.args.kept.seat.deaths) (sym c.as_slice.ensures.value)
    (are_late q.gathered told.gathered c.args.start q.lives told.count told.told told.turns
    (λ d. subst (λ m. clock q.gathered.config.start (journals q.gathered d) ≤ m) (c.clock-clock.ensures.latest ∙ sym c.requires.latest) (c.clock-clock.ensures.journals d))
    c.args.kept c.requires.kept c.in_ok-late.late.items (subst (λ w. AreEndsSince q.gathered w c.args.start c.in_ok-late.late.items) c.written.ensures c.in_ok-late.ensures.since))

pub take_rest-requires : goal.take_rest-requires
take_rest-requires c = record {
  range = subst (λ (k : Config). IsInRange (record k { start = c.args.start })) (sym c.config.ensures) (range c.args.settled.now.gathered c.versions.ensures.gathered c.args.start c.requires.within);
}

pub returns-clause-seats : goal.returns-clause-seats
returns-clause-seats c =
    let q = c.args.settled.now in
    let told = c.versions.ensures in
    let n = c.args.start in
    let seats : List Seated = map (λ p. (arc_value p.0, p.1)) c.in_ok-seats.seats.items in
    let are : seats ≡ map (λ m. (c.args.kept.directory, late_seat c.args.kept.directory.name c.args.kept.seat.deaths c.in_ok-late.late.items m)) (up_from 0 c.desks.result)
    = c.in_ok-seats.ensures ∙ ap (λ e. map (λ m. (c.args.kept.directory, late_seat c.args.kept.directory.name c.args.kept.seat.deaths e m)) (up_from 0 c.desks.result)) c.as_slice.ensures.value in
    if_kept (map (restarted n) q.gathered.shards) (map all_forgotten q.lives) seats
    (kept_ready q.gathered told.gathered n q.lives told.count told.told told.turns
    (λ d. subst (λ m. clock q.gathered.config.start (journals q.gathered d) ≤ m) (c.clock-clock.ensures.latest ∙ sym c.requires.latest) (c.clock-clock.ensures.journals d))
    c.args.kept c.requires.kept c.in_ok-late.late.items (subst (λ w. AreEndsSince q.gathered w n c.in_ok-late.late.items) c.written.ensures c.in_ok-late.ensures.since) c.desks.result seats (c.desks.ensures.count ∙ told.gathered.desks) are)
    c.take_rest.result c.take_rest.ensures.seats
