-- What a report prints, and when it is refused.
use Rattle.std.specs.Prelude.{◌≡◌, ◌⊎◌, ℕ, ◌+◌, ◌-◌, ◌<◌, Bool, List, [], ◌++◌, length, Option, Ok, reverse}
use Rattle.std.specs.Prelude.{⊤}
use Rattle.std.specs.Io.KnownBytes.{Appends}
use Rattle.pt_events.specs.declared.event.Stamped.{Stamped}
use Rattle.pt_events.specs.Journal.{IsMerge}
use Rattle.pt_gathered.specs.Gathered.{GatheredState, journals}
use Rattle.pt_gathered.specs.LeftOvers.{all_left}
use Rattle.pt_gathered.specs.Order.{SettlingStops}
use Rattle.pt_signal.specs.declared.pid.Pid.{Pid}
use Rattle.pt_shard.specs.declared.fault.Fault.{Fault}
use Rattle.pt_shard.specs.declared.fault.Fault.TheVariants.{Full, Worn}
use Rattle.pt_shard.specs.declared.stop.Stop.TheVariants.{Worn as StopWorn}
use Rattle.pt_desk.specs.DeskState.{DeskState}
use Rattle.pt_workers.specs.Desks.{AreDesksOf}
use Rattle.pt_node.specs.Gathering.{Gathers}
use Rattle.pt_script.specs.Called.{names_in}
use Rattle.pt_script.specs.Plans.{Whole}
use Rattle.pt_script.specs.Scripts.{reading}
use Rattle.pt_script.specs.Lists.{ScriptRefuses}
use Rattle.pt_render.specs.Pages.{page_text, steps_after, steps_text}
use Rattle.pt_render.specs.declared.choices.Options.{Options}
use Rattle.pt_render.specs.declared.choices.Show.{Show}
use Rattle.pt_render.specs.declared.choices.Show.TheVariants.{Summary, History, Chart, Mermaid, Json, Steps, Page}
use Rattle.pt_script.specs.Nodes.{config_of}
use Rattle.pt_runner.specs.declared.runner.Runner.{Runner}
use Rattle.pt_runner.specs.Starting.{StartBegins, AreRunners, BornUntil}
use Rattle.pt_chart.specs.Drawing.{IsChart}
use Rattle.pt_report.specs.Called.{called_by}
use Rattle.pt_report.specs.Epochs.{Staffed, RunsEpoch, PassEpochs, HasWritten, IsLeft}
use Rattle.pt_report.specs.Lines.{history_text}
use Rattle.pt_report.specs.declared.form.Form.{Form}
use Rattle.pt_report.specs.declared.form.Form.TheVariants.{Lines, Diagram, Objects}
use Rattle.pt_report.specs.Summaries.{SummarizesAs}
use Rattle.pt_report.specs.declared.fault.ReportFault.{ReportFault}
use Rattle.pt_report.specs.declared.fault.ReportFault.TheVariants.{Script, Memory, Desk, File}

-- the node that a script is run on: desks with its settings, on which its processes were born in order, and nothing
-- else had happened, each with its runner
pub record RunIsBegun (script : Whole) (first : Staffed) : Type 0 where
  pub node : AreDesksOf (config_of script.settings) first.0
  pub born : List Pid
  pub begins : StartBegins script.tops (length script.tops) born first.0
  pub runners : AreRunners script born (length first.0) first.1

-- The node is one that the script was run on: so many epochs had passed, with these histories; then its desks were run
-- once more, and gathered.
pub record IsNodeOf (epochs : ℕ) (options : Options) (script : Whole) (histories : List Stamped)
    (g : GatheredState) : Type 0 where
  -- it has the script's settings, and its clocks began where the epoch did
  pub config : record g.config { start = 0 } ≡ config_of script.settings
  pub first : Staffed
  pub begun : RunIsBegun script first
  pub last : Staffed
  pub passed : PassEpochs options script.settings.budget epochs first histories last
  pub ran : Staffed
  pub runs : RunsEpoch options script.settings.budget last ran
  pub gathers : Gathers ran.0 g

-- so it was, and these are its runners behind that
abbrev pub IsRun : ℕ → Options → Whole → List Stamped → GatheredState → List Runner → Type 0
IsRun epochs options script histories g runners =
    (node : IsNodeOf epochs options script histories g) × (node.ran.1 ≡ runners)

-- the histories of epochs and that of the node were written in this form, and then the letters left over
abbrev pub ReportTells : Form → List Stamped → GatheredState → Option (List ℕ) → Option (List ℕ) → Type 0
ReportTells form histories g old new =
    (h : List Stamped) × IsMerge (journals g) (reverse h)
    × Appends old new (history_text form (histories ++ h) (all_left g))

-- What stands in the writer now, beyond what stood there before, is what is asked for of the node, and of the histories
-- of the epochs before its own; in a chart and in a page processes are called so, and a summary is explained where that
-- is asked for.
abbrev pub ReportShows : Bool → Show → List Stamped → List (Pid × List ℕ) → GatheredState → Option (List ℕ)
    → Option (List ℕ) → Type 0
ReportShows explain Summary histories called g old new = SummarizesAs explain g old new
ReportShows explain History histories called g old new = ReportTells Lines histories g old new
ReportShows explain Mermaid histories called g old new = ReportTells Diagram histories g old new
ReportShows explain Json histories called g old new = ReportTells Objects histories g old new
ReportShows explain Chart histories called g old new =
    (h : List Stamped) × IsMerge (journals g) (reverse h) × (text : List ℕ) × IsChart (histories ++ h) called text
    × Appends old new text
ReportShows explain Steps histories called g old new =
    (h : List Stamped) × IsMerge (journals g) (reverse h)
    × Appends old new (steps_text (steps_after [] (histories ++ h)) (all_left g))
ReportShows explain Page histories called g old new =
    (h : List Stamped) × IsMerge (journals g) (reverse h)
    × Appends old new (page_text (steps_after [] (histories ++ h)) (all_left g) called)

-- the bytes are a script, and what was printed is what is asked for of a node that it was run on, for as many epochs as
-- were asked for; its processes are called as in the bytes
pub record Reports (bytes : List ℕ) (options : Options) (old new : Option (List ℕ)) : Type 0 where
  pub script : Whole
  pub read : reading bytes ≡ Ok script
  pub histories : List Stamped
  pub node : GatheredState
  pub is_node : IsNodeOf (options.epochs - 1) options script histories node
  pub shows : ReportShows options.explain options.print histories (called_by (names_in bytes) is_node.ran.1) node old new

-- it was printed, and so many processes of that node have operations left as its last epoch ends
pub record ReportsLeft (left : ℕ) (bytes : List ℕ) (options : Options) (old new : Option (List ℕ)) : Type 0 where
  pub reports : Reports bytes options old new
  pub is_left : IsLeft reports.is_node.ran reports.node left

-- refusals ------------------------------------------------------------------------------

-- on desks with the script's settings, the births of its processes stop for this fault
abbrev pub BirthRefused : Whole → Fault → Type 0
BirthRefused script fault =
    (desks : List DeskState) × AreDesksOf (config_of script.settings) desks × BornUntil script.tops desks fault

-- a node that the script was run on is settled, between two epochs or for its summary, and that stops at a worn clock
pub record SettlesWorn (options : Options) (script : Whole) : Type 0 where
  pub epochs : ℕ
  pub asked : (epochs + 1 < options.epochs) ⊎ ((epochs ≡ options.epochs - 1) × (options.print ≡ Summary))
  pub histories : List Stamped
  pub node : GatheredState
  pub is_node : IsNodeOf epochs options script histories node
  pub last : GatheredState
  pub stops : SettlingStops (length node.shards) StopWorn node last

-- the refusals of a desk that are told, and where
abbrev pub IsRefusedBy : Options → Whole → Fault → Type 0
IsRefusedBy options script Full = BirthRefused script Full
IsRefusedBy options script Worn = BirthRefused script Worn ⊎ SettlesWorn options script
IsRefusedBy options script _ = ⊥

-- the bytes are refused with this error; any other fault comes only where they are a script
abbrev pub IsRefusedAs : List ℕ → Options → ReportFault → Type 0
IsRefusedAs bytes options (Script error) = ScriptRefuses error (reading bytes)
IsRefusedAs bytes options (Desk fault) =
    (script : Whole) × (reading bytes ≡ Ok script) × IsRefusedBy options script fault
IsRefusedAs bytes options _ = (script : Whole) × (reading bytes ≡ Ok script)

-- the bytes are a script, and the histories of one epoch and more of a node that it was run on are written
abbrev pub HasWrittenOf : List ℕ → Options → Option (List ℕ) → Option (List ℕ) → Type 0
HasWrittenOf bytes options old new =
    (script : Whole) × (reading bytes ≡ Ok script) × (first : Staffed) × RunIsBegun script first
    × HasWritten options script.settings.budget first old new

-- a fault of a script that is run: also of writing the histories of epochs
abbrev pub IsOfRun : Options → Whole → ReportFault → Type 0
IsOfRun options script Memory = ⊤
IsOfRun options script File = ⊤
IsOfRun options script (Desk fault) = IsRefusedBy options script fault
IsOfRun options script _ = ⊥

-- a fault before the node is run: memory, or a refused birth
abbrev pub IsOfStart : Whole → ReportFault → Type 0
IsOfStart script Memory = ⊤
IsOfStart script (Desk Full) = BirthRefused script Full
IsOfStart script (Desk Worn) = BirthRefused script Worn
IsOfStart script _ = ⊥

-- a fault of settling, and of printing what is settled
abbrev pub IsOfSummary : GatheredState → ReportFault → Type 0
IsOfSummary g Memory = ⊤
IsOfSummary g File = ⊤
IsOfSummary g (Desk Worn) = (last : GatheredState) × SettlingStops (length g.shards) StopWorn g last
IsOfSummary g _ = ⊥
