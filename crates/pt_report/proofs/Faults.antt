-- Which faults are told where.
use Rattle.std.specs.Prelude.{◌≡◌, ℕ, ◌-◌, List, length, Ok}
use Rattle.std.proofs.Common.{inr, refl}
use Rattle.pt_events.specs.declared.event.Stamped.{Stamped}
use Rattle.pt_script.specs.Plans.{Whole}
use Rattle.pt_script.specs.Scripts.{reading}
use Rattle.pt_shard.specs.declared.fault.Fault.{Fault}
use Rattle.pt_shard.specs.declared.fault.Fault.TheVariants.{Full, Memory as DeskMemory, Worn, Gone, Myself, NoProc}
use Rattle.pt_shard.specs.declared.stop.Stop.{Stop}
use Rattle.pt_shard.specs.declared.stop.Stop.TheVariants.{Memory as StopMemory, Worn as StopWorn}
use Rattle.pt_gathered.specs.Gathered.{GatheredState}
use Rattle.pt_gathered.specs.Order.{SettlingStops}
use Rattle.pt_render.specs.declared.choices.Options.{Options}
use Rattle.pt_render.specs.declared.choices.Show.TheVariants.{Summary}
use Rattle.pt_report.specs.declared.fault.ReportFault.{ReportFault}
use Rattle.pt_report.specs.declared.fault.ReportFault.TheVariants.{Script, Memory, Desk, File}
use Rattle.pt_report.specs.Status.{told_fault, stopped_fault, IsOfPrint}
use Rattle.pt_report.specs.Reports.{BirthRefused, IsNodeOf, IsOfRun, IsOfStart, IsOfSummary, IsRefusedAs}

pub told_of_start : (script : Whole) (fault : Fault) → BirthRefused script fault → IsOfStart script (told_fault fault)
told_of_start script DeskMemory b = tt
told_of_start script Full b = b
told_of_start script Worn b = b
told_of_start script Gone b = absurd b.2.3
told_of_start script Myself b = absurd b.2.3
told_of_start script NoProc b = absurd b.2.3

pub stopped_of_summary : (g last : GatheredState) (stop : Stop) → SettlingStops (length g.shards) stop g last → IsOfSummary g (stopped_fault stop)
stopped_of_summary g last StopMemory s = tt
stopped_of_summary g last StopWorn s = (last, s)

-- where the bytes are a script, a refusal of its run is told
pub of_run : (bytes : List ℕ) (options : Options) (script : Whole) (fault : ReportFault) → reading bytes ≡ Ok script → IsOfRun options script fault → IsRefusedAs bytes options fault
of_run bytes options script Memory read n = (script, read)
of_run bytes options script File read n = (script, read)
of_run bytes options script (Desk fault) read n = (script, read, n)
of_run bytes options script (Script error) read n = absurd n

-- and so is one of printing
pub of_print : (bytes : List ℕ) (options : Options) (script : Whole) (fault : ReportFault) → reading bytes ≡ Ok script → IsOfPrint fault → IsRefusedAs bytes options fault
of_print bytes options script (Script error) read n = absurd n
of_print bytes options script Memory read n = (script, read)
of_print bytes options script (Desk fault) read n = absurd n
of_print bytes options script File read n = (script, read)

pub of_summary : (bytes : List ℕ) (options : Options) (script : Whole) (histories : List Stamped) (g : GatheredState) (fault : ReportFault) → reading bytes ≡ Ok script → options.print ≡ Summary → IsNodeOf (options.epochs - 1) options script histories g → IsOfSummary g fault → IsRefusedAs bytes options fault
of_summary bytes options script histories g Memory read asked node n = (script, read)
of_summary bytes options script histories g File read asked node n = (script, read)
of_summary bytes options script histories g (Desk Worn) read asked node n = (script, read, inr (record { epochs = options.epochs - 1; asked = inr (refl, asked); histories = histories; node = g; is_node = node; last = n.0; stops = n.1 }))
of_summary bytes options script histories g (Desk Full) read asked node n = absurd n
of_summary bytes options script histories g (Desk DeskMemory) read asked node n = absurd n
of_summary bytes options script histories g (Desk Gone) read asked node n = absurd n
of_summary bytes options script histories g (Desk Myself) read asked node n = absurd n
of_summary bytes options script histories g (Desk NoProc) read asked node n = absurd n
of_summary bytes options script histories g (Script error) read asked node n = absurd n
