-- `Desk::exit`: the invariant of `self`, and what its call of `tell_end` asks.
use Rattle.std.proofs.Common.{◌≡◌, ◌+◌, Some, refl, sym, ap, ◌∙◌, subst, arith}
use Rattle.std.specs.Arc.{arc_value}
use Rattle.pt_events.specs.declared.event.Event.TheVariants.{Left}
use Rattle.pt_events.specs.Journal.{IsLocal}
use Rattle.pt_directory.specs.Seats.{add_death, death_of}
use Rattle.pt_shard.specs.ShardState.{ShardState, written}
use Rattle.pt_desk.specs.InPlace.{CanTell}
use Rattle.pt_desk.specs.DeskState.{IsAccounted}
use Rattle.pt_desk.proofs.Calling.{written_accounted}
use Rattle.pt_desk.proofs.Seating.{same_journal}
use Rattle.pt_desk.proofs.Telling.{may_tell, sits}
use Rattle.pt_desk.proofs.desk.Desk.exit.Goals as goal

pub tell_end-requires : goal.tell_end-requires
tell_end-requires c =
    let i = c.self.inside in
    let told = c.in_ok-exit.ensures in
    let local = subst (λ (z : ShardState). IsLocal z.start z.config.start z.config.top_version z.number z.journal) told.does.3 told.fit.local in
    let now = ap (λ (z : ShardState). z.clock) told.does.3 in
    subst (λ directory. CanTell directory i.seat c.exit.new.self.clock c.args.p) (sym c.deref.ensures)
    (may_tell i.shard i.outs i.ins (arc_value i.directory) i.seat i.before c.self.invariant c.args.p told.does.0 local.0.home c.exit.new.self.clock (omega (arith, now)))

pub invariant_of-self-2 : goal.invariant_of-self-2
invariant_of-self-2 c =
    let i = c.self.inside in
    let s = i.shard in
    let told = c.in_ok-exit.ensures in
    let left = Left c.args.p c.args.reason in
    let n = s.clock + 1 in
    let is = told.does.3 in
    let stamp : c.exit.new.self.clock ≡ n = ap (λ (z : ShardState). z.clock) is in
    let seats = sits s i.outs i.ins (arc_value i.directory) i.seat i.before c.self.invariant n left c.exit.new.self
    (same_journal _ _ _ refl refl refl refl is)
    tt tt (Some c.args.p) c.tell_end.new.seat refl (c.tell_end.ensures ∙ ap (λ m. add_death (death_of c.args.p m) i.seat) stamp) in (
      record {
        fit = told.fit;
        accounts = subst (λ z. IsAccounted z i.outs i.ins) (sym is) (written_accounted s i.outs i.ins n left (written n left s).vacant (λ d m. refl) c.self.invariant.0.fit.boxes c.self.invariant.0.accounts);
        seated = seats.0;
      },
      seats.1,
    )
