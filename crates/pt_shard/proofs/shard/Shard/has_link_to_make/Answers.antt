-- `Shard::has_link_to_make`: its contract.
use Rattle.std.proofs.Common.{◌≡◌, Bool, true, false, not, ◌||◌, cond, is_some, Some, None, Result, Ok, Err, refl, sym, ap, ◌∙◌}
use Rattle.pt_signal.specs.declared.pid.Pid.{Pid}
use Rattle.pt_signal.specs.declared.signal.Signal.TheVariants.{Link}
use Rattle.pt_signal.specs.Values.{same_pid}
use Rattle.pt_signal.specs.Process.{held}
use Rattle.pt_events.specs.declared.event.Event.{Event}
use Rattle.pt_events.specs.declared.event.Event.TheVariants.{Said}
use Rattle.pt_events.specs.History.{state_of}
use Rattle.pt_shard.specs.declared.fault.Fault.{Fault}
use Rattle.pt_shard.specs.declared.fault.Fault.TheVariants.{Gone}
use Rattle.pt_shard.specs.ShardState.{lives}
use Rattle.pt_shard.specs.Calls.{link_event, new_link}
use Rattle.pt_shard.specs.Whole.{Parts, parts_of, shard_of, IsWhole}
use Rattle.pt_shard.proofs.Acting.{Found, alive, lives_here}
use Rattle.pt_shard.proofs.shard.Shard.has_link_to_make.Goals as goal

some_unless : (b : Bool) (e : Event) → is_some (cond b None (Some e)) ≡ not b
some_unless true e = refl
some_unless false e = refl

itself : (x y : Bool) → x ≡ true → false ≡ not (x || y)
itself true y h = refl
itself false y h = cc

other : (x y b : Bool) → x ≡ false → y ≡ not b → b ≡ not (x || y)
other true y b h k = cc
other false true true h k = cc
other false true false h k = refl
other false false true h k = refl
other false false false h k = cc

-- what is answered, by what the process holds
abbrev answer : Bool → Result Bool Fault
answer b = Ok b

answered : (a : Parts) (whole : IsWhole a) (p to : Pid) (f : Found a p) (b : Bool) → b ≡ not (same_pid p to || is_some (held f.s.links to)) → Ok b ≡ cond (lives (shard_of a) p) (answer (is_some (link_event (shard_of a) p to))) (Err Gone)
answered a whole p to f b is =
    rw (alive a whole p f)
    (ap answer (is ∙ sym (some_unless (same_pid p to || is_some (held f.s.links to)) (Said p to (Link (new_link (shard_of a)))))
    ∙ sym (ap (λ g. is_some (cond (same_pid p to || is_some (held (state_of g).links to)) None (Some (Said p to (Link (new_link (shard_of a))))))) (lives_here a whole p f))))

pub returns-then-eq : goal.returns-then-eq
returns-then-eq c =
    rw (← c.self.view_is)
    (answered (parts_of c.self.inside.config c.self.inside.ledger.book c.self.inside.processes) c.self.invariant c.args.p c.args.to (record { me = c.in-Some.process.now.me; s = c.in-Some.process.now.state; there = c.in-Some.ensures }) false
    (itself _ _ (sym c.eq.ensures ∙ c.if-eq.true)))

pub returns : goal.returns
returns c =
    rw (← c.self.view_is)
    (answered (parts_of c.self.inside.config c.self.inside.ledger.book c.self.inside.processes) c.self.invariant c.args.p c.args.to (record { me = c.in-Some.process.now.me; s = c.in-Some.process.now.state; there = c.in-Some.ensures }) c.is_none.result
    (other _ _ c.is_none.result (sym c.eq.ensures ∙ c.if-eq.false) (sym (ap is_some c.linked.ensures) ∙ c.is_none.ensures)))
