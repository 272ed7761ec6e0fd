-- `mark`: its contract.
use Rattle.std.proofs.Common.{◌≡◌, ℕ, false, ◌&&◌, ◌||◌, nat_le, sym, subst, ap, ◌∙◌}
use Rattle.pt_signal.specs.declared.pid.Pid.{Pid}
use Rattle.pt_auditor.specs.Seen.{SeenSlots, is_noted, is_slot_of}
use Rattle.pt_auditor.proofs.Sighted.{noted_before, noted_now}
use Rattle.pt_auditor.proofs.seen.SeenExits.mark.Goals as goal

pub returns-then-has : goal.returns-then-has
returns-then-has c = noted_before c.args.self.now c.args.desk c.args.pid (sym c.has.ensures ∙ c.if-has.true)

pub returns : goal.returns
returns c =
    let e = c.args.desk in
    let q = c.args.pid in
    let new = c.insert.new.self.entries in
    let not_yet : is_noted c.args.self.now e q ≡ false = sym c.has.ensures ∙ c.if-has.false in
    subst (λ (z : SeenSlots). (d : ℕ) (p : Pid) → is_noted new d p ≡ (is_slot_of d p (e, q.shard, q.slot) && nat_le p.version q.version || is_noted z d p)) c.self.view_is
    (noted_now c.self.inside.tops.entries new e q c.in_ok-insert.ensures.updates.0 (ap (λ z. is_noted z e q) c.self.view_is ∙ not_yet))
