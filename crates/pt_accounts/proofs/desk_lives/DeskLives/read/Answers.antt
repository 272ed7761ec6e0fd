-- `DeskLives::read`: its clauses `next` and `on`, and its loop over `place`, and what its call of `step` asks.
use Rattle.std.proofs.Common.{◌≡◌, ◌∙◌, None, refl, arith, length, slice_index_or}
use Rattle.std.proofs.lemmas.List.{length-reverse}
use Rattle.pt_events.specs.declared.event.Stamped.{Stamped}
use Rattle.pt_events.specs.declared.event.Event.TheVariants.{Born}
use Rattle.pt_accounts.proofs.Walking.{goes_on, reads_one, reads_alike}
use Rattle.pt_accounts.proofs.desk_lives.DeskLives.read.Goals as goal

abbrev nothing : Stamped
nothing = record { stamp = 0; desk = 0; event = Born (record { shard = 0; slot = 0; version = 0 }) None None }

pub step-requires-clause-next : goal.step-requires-clause-next
step-requires-clause-next c =
    let r = c.requires in
    let i = c.loop-place.invariant in
    let evs = c.events-events.result.now in
    goes_on r.0 c.args.journal.now.past evs c.events-events.ensures.events c.loop-place.place nothing (slice_index_or evs c.loop-place.place nothing) (omega arith) refl
    c.args.self.now.desk r.1 c.loop-place.self i.on.desk i.read (i.on.over r.0 r.1 r.2)

pub returns-in_err-step-clause-on : goal.returns-in_err-step-clause-on
returns-in_err-step-clause-on c =
    let i = c.loop-place.invariant in
    let m = i.on.more in
    let k = c.in_err-step.ensures in
    let t = c.loop-place.self in
    let u = c.step.new.self in
    let d = k.desk in
    let n = k.unread in
    record {
      desk = d ∙ i.on.desk;
      more = omega arith;
      over = λ start over up. reads_alike start c.args.journal.now.past t u d n k.refused (i.on.over start over up);
    }

pub loop-place-preserved : goal.loop-place-preserved
loop-place-preserved c =
    let i = c.loop-place.invariant in
    let m = i.on.more in
    let k = c.in_ok-step.ensures in
    let t = c.loop-place.self in
    let u = c.step.new.self in
    let d = k.desk in
    let n = k.read in
    let r = i.read in
    let evs = c.events-events.result.now in
    let few : length evs ≡ length c.args.journal.now.past = Rattle.std.proofs.Common.ap length c.events-events.ensures.events ∙ length-reverse c.args.journal.now.past in
    record {
      read = omega arith;
      on = record {
        desk = d ∙ i.on.desk;
        more = omega arith;
        over =
            λ start over up.
            reads_one start c.args.journal.now.past evs c.events-events.ensures.events c.loop-place.place nothing (slice_index_or evs c.loop-place.place nothing) (omega arith) refl
            c.args.self.now.desk over t u i.on.desk d r n k.observes (omega arith) (i.on.over start over up);
      };
    }
