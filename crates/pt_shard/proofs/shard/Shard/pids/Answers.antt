-- `Shard::pids`: its loop over `slot`.
use Rattle.std.proofs.Common.{◌++◌, ap, sym, ◌∙◌}
use Rattle.std.specs.Prelude.{option_to_list}
use Rattle.pt_shard.specs.Living.{living_in}
use Rattle.pt_shard.proofs.Listed.{listed_more}
use Rattle.pt_shard.proofs.shard.Shard.pids.Goals as goal

pub loop-slot-preserved : goal.loop-slot-preserved
loop-slot-preserved c =
    c.in_ok-list_slot.ensures
    ∙ ap (λ l. l ++ option_to_list (living_in c.args.self.now c.loop-slot.slot)) c.loop-slot.invariant
    ∙ sym (listed_more (living_in c.args.self.now) c.loop-slot.slot)
