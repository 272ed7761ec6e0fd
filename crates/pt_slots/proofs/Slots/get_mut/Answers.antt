-- `Slots::get_mut`: its contract.
use Rattle.std.proofs.Common.{refl, sym}
use Rattle.pt_slots.proofs.Steps.{written}
use Rattle.pt_slots.proofs.Slots.get_mut.Goals as goal

pub returns-then-contains : goal.returns-then-contains
returns-then-contains g c = (
  refl,
  record {
    writes_back = tt;
    value = sym c.value_mut.ensures.value;
    written = written _ c.args.key _ c.value_mut.ensures.value;
  },
)
