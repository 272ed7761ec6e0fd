-- A refusal to write an event, as a call's answer.
use Rattle.pt_shard.specs.declared.stop.Stop.{Stop}
use Rattle.pt_shard.specs.declared.stop.Stop.TheVariants.{Memory as StopMemory, Worn as StopWorn}
use Rattle.pt_shard.specs.declared.fault.Fault.{Fault}
use Rattle.pt_shard.specs.declared.fault.Fault.TheVariants.{Memory, Worn}

abbrev pub fault_of : Stop → Fault
fault_of StopMemory = Memory
fault_of StopWorn = Worn
