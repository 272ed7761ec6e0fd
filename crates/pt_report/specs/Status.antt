-- What a fault is told as, and the status that the program ends with.
use Rattle.std.specs.Prelude.{ℕ, ⊤}
use Rattle.pt_script.specs.declared.fault.ScriptError.TheVariants.{Refused}
use Rattle.pt_shard.specs.declared.fault.Fault.{Fault}
use Rattle.pt_shard.specs.declared.fault.Fault.TheVariants.{Full, Memory as DeskMemory, Worn as DeskWorn, Gone, Myself}
use Rattle.pt_shard.specs.declared.fault.Fault.TheVariants.{NoProc}
use Rattle.pt_shard.specs.declared.stop.Stop.{Stop}
use Rattle.pt_shard.specs.declared.stop.Stop.TheVariants.{Memory as StopMemory, Worn as StopWorn}
use Rattle.pt_report.specs.declared.fault.ReportFault.{ReportFault}
use Rattle.pt_report.specs.declared.fault.ReportFault.TheVariants.{Script, Memory, Desk, File}

-- 1 where the bytes are no script, else 3
abbrev pub status_of : ReportFault → ℕ
status_of (Script (Refused fault place)) = 1
status_of _ = 3

-- what a desk's refusal is told as
abbrev pub told_fault : Fault → ReportFault
told_fault DeskMemory = Memory
told_fault fault = Desk fault

-- what is told where settling stops
abbrev pub stopped_fault : Stop → ReportFault
stopped_fault StopMemory = Memory
stopped_fault StopWorn = Desk DeskWorn

-- a fault of printing what stands in a node: of memory, or of the writer
abbrev pub IsOfPrint : ReportFault → Type 0
IsOfPrint Memory = ⊤
IsOfPrint File = ⊤
IsOfPrint _ = ⊥

-- the number that a desk's refusal is printed with
abbrev pub fault_number : Fault → ℕ
fault_number Full = 1
fault_number DeskMemory = 2
fault_number DeskWorn = 3
fault_number Gone = 4
fault_number Myself = 5
fault_number NoProc = 6
