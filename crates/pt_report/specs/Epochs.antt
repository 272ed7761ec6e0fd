-- The epochs of a run: what each is, what goes on from it, and where its history goes.
use Rattle.std.specs.Prelude.{◌≡◌, ◌⊎◌, ℕ, zero, suc, ◌+◌, ◌-◌, ◌/◌, ◌^◌, ◌<◌, ◌≤◌, List, [], ◌++◌, count_by, length}
use Rattle.std.specs.Prelude.{max, min, sum_by, Option, reverse, slice_index_or, ⊤}
use Rattle.std.specs.List.{zip}
use Rattle.std.specs.Io.KnownBytes.{Appends}
use Rattle.pt_events.specs.declared.event.Stamped.{Stamped}
use Rattle.pt_events.specs.History.{IsLegal}
use Rattle.pt_events.specs.Journal.{IsMerge, events}
use Rattle.pt_gathered.specs.Gathered.{GatheredState, begins, journals}
use Rattle.pt_gathered.specs.LeftOvers.{all_left}
use Rattle.pt_gathered.specs.Order.{SettlingStops}
use Rattle.pt_gathered.specs.Settling.{Settles, NothingLeft}
use Rattle.pt_shard.specs.ShardState.{lives}
use Rattle.pt_shard.specs.declared.fault.Fault.TheVariants.{Worn}
use Rattle.pt_shard.specs.declared.stop.Stop.TheVariants.{Worn as StopWorn}
use Rattle.pt_desk.specs.DeskState.{DeskState}
use Rattle.pt_node.specs.Gathering.{Gathers}
use Rattle.pt_workers.specs.NodeRunning.{RunsPaired}
use Rattle.pt_node.specs.Resuming.{Resumes}
use Rattle.pt_workers.specs.Stillness.{AllDesksGoOn, AreStill, RunsRounds}
use Rattle.pt_workers.specs.declared.stillness.Rested.{Rested}
use Rattle.pt_workers.specs.Running.{AllWork, InRounds, always, step_alone}
use Rattle.pt_render.specs.declared.choices.Mode.TheVariants.{Single}
use Rattle.pt_render.specs.declared.choices.Options.{Options}
use Rattle.pt_render.specs.declared.choices.TheConstants.{MOST_TURNS}
use Rattle.pt_render.specs.declared.choices.Until.{Until}
use Rattle.pt_render.specs.declared.choices.Until.TheVariants.{Turns, Quiet}
use Rattle.pt_render.specs.declared.choices.Show.{Show}
use Rattle.pt_render.specs.declared.choices.Show.TheVariants.{Summary, History, Chart, Mermaid, Json, Steps, Page}
use Rattle.pt_runner.specs.declared.runner.Runner.{Runner}
use Rattle.pt_runner.specs.Acting.{RunnerDoes, table}
use Rattle.pt_runner.specs.Stepping.{processes_here}
use Rattle.pt_runner.specs.Waiting.{AllRest, IsFresh, RunnerKnows, RunnersIdle}
use Rattle.pt_report.specs.Lines.{lines}
use Rattle.pt_report.specs.declared.form.Form.{Form}
use Rattle.pt_report.specs.declared.form.Form.TheVariants.{Lines, Objects}
use Rattle.pt_report.specs.declared.fault.ReportFault.{ReportFault}
use Rattle.pt_report.specs.declared.fault.ReportFault.TheVariants.{Memory, Desk, File}

-- the desks of a node, and the runners of these
abbrev pub Staffed : Type 0
Staffed = List DeskState × List Runner

-- Desks were run as the options say: each took all its turns, in each of which the processes of its runner did their
-- next operations, and then the desk its turn with this budget; on a single thread these came in rounds.
pub record RunsAs (options : Options) (budget : ℕ) (old new : List (DeskState × Runner)) : Type 0 where
  pub turns : AllWork (λ desk _. always desk) (step_alone RunnerDoes) options.turns budget old new
  pub rounds : options.threads ≡ Single
      → InRounds (λ desk _. always desk) (step_alone RunnerDoes) options.turns budget old new

-- so were these, each with the runner at its place
abbrev pub RunsOn : Options → ℕ → Staffed → Staffed → Type 0
RunsOn options budget old new = RunsPaired (RunsAs options budget) old.0 old.1 new.0 new.1

-- What a run begins with: what each runner knows of the desk at its place is true.
abbrev pub CanBegin : List DeskState → List Runner → Type 0
CanBegin desks runners =
    (d : ℕ) (r : Runner) (x : DeskState) → d < length runners
    → RunnerKnows (slice_index_or runners d r) (slice_index_or desks d x).shard

-- Desks were run so once, and then turned until no letter was on its way, or a turn was stopped.
pub record RunsAndRests (options : Options) (budget : ℕ) (old new : Staffed) : Type 0 where
  pub ran : Staffed
  pub runs : RunsOn options budget old ran
  pub rested : Rested
  pub rests : RunsRounds (max budget 1) ran.0 rested new.0
  pub goes_on : AllDesksGoOn ran.0 new.0
  pub same : new.1 ≡ ran.1

-- so they were, so many times
abbrev pub RunsAgain : Options → ℕ → ℕ → Staffed → Staffed → Type 0
RunsAgain options budget zero old new = new ≡ old
RunsAgain options budget (suc n) old new =
    (mid : Staffed) × RunsAgain options budget n old mid × RunsAndRests options budget mid new

-- Nothing more can happen: no letter is on its way, and each process has ended, or waits for an item that has not come.
pub record NothingCanHappen (s : Staffed) : Type 0 where
  pub still : AreStill s.0
  pub rests : (d : ℕ) (r : Runner) (x : DeskState) → d < length s.1
      → AllRest (slice_index_or s.1 d r) (slice_index_or s.0 d x).shard

-- the same options, with one turn if they ask for none: nothing comes to rest without a turn
abbrev pub with_a_turn : Options → Options
with_a_turn options = record options { turns = max options.turns 1 }

-- how often desks are run at most: no desk takes more turns than can be asked for, unless once is more already
abbrev pub most_runs : Options → ℕ
most_runs options = max (MOST_TURNS / max options.turns 1) 1

-- once at least and so often at most, until nothing more can happen
pub record RunsUntilQuiet (options : Options) (budget : ℕ) (old new : Staffed) : Type 0 where
  pub count : ℕ
  pub some : 0 < count
  pub few : count ≤ most_runs options
  pub runs : RunsAgain (with_a_turn options) budget count old new
  pub ends : NothingCanHappen new ⊎ (count ≡ most_runs options)

-- an epoch's run, which ends as the options say
abbrev pub RunsTo : Until → Options → ℕ → Staffed → Staffed → Type 0
RunsTo Turns options budget old new = RunsOn options budget old new
RunsTo Quiet options budget old new = RunsUntilQuiet options budget old new

abbrev pub RunsEpoch : Options → ℕ → Staffed → Staffed → Type 0
RunsEpoch options budget old new = RunsTo options.until options budget old new

-- how many processes have operations left ------------------------------------------------

-- how many of a runner's processes are alive on its desk
abbrev pub alive_on : DeskState × Runner → ℕ
alive_on p = count_by (lives p.0.shard) (processes_here p.1)

-- those of all, in a number of 64 bits, which stays at the greatest
abbrev pub alive_in : Staffed → ℕ
alive_in s = min (sum_by alive_on (zip s.0 s.1)) (2 ^ 64 - 1)

-- A run came to rest: its runners have read all that happened, each of its processes has ended, or waits for an item
-- that has not come, and no letter is on its way.
pub record CameToRest (s : Staffed) (g : GatheredState) : Type 0 where
  pub idle : RunnersIdle s.1 s.0
  pub rests : (d : ℕ) (r : Runner) (x : DeskState) → d < length s.1
      → AllRest (slice_index_or s.1 d r) (slice_index_or s.0 d x).shard
  pub none_left : all_left g ≡ []

-- so many processes have operations left: none where the run came to rest, else all that are alive
abbrev pub IsLeft : Staffed → GatheredState → ℕ → Type 0
IsLeft s g left = (CameToRest s g × (left ≡ 0)) ⊎ ((CameToRest s g → ⊥) × (left ≡ alive_in s))

-- each runner begins again over a desk that was resumed: it knows nothing, and each of its processes goes on where it was
pub record BeginAgain (old new : List Runner) : Type 0 where
  pub count : length new ≡ length old
  pub each : (d : ℕ) (r : Runner) → d < length old
      → IsFresh (slice_index_or new d r) × (table (slice_index_or new d r) ≡ table (slice_index_or old d r))

-- desks were gathered and settled, this is the history of all that, which is legal over what was before it, and the
-- desks go on over what it leaves behind
pub record EndsEpoch (ran : List DeskState) (history : List Stamped) (next : List DeskState) : Type 0 where
  pub gathered : GatheredState
  pub gathers : Gathers ran gathered
  pub settled : GatheredState
  pub settles : Settles gathered settled
  pub nothing_left : NothingLeft settled
  pub merge : IsMerge (journals settled) (reverse history)
  pub legal : IsLegal (begins settled) (events (reverse history))
  pub goes_on : Resumes settled next

-- an epoch: the desks were run, and go on from it with the runners, which begin again
pub record PassesEpoch (options : Options) (budget : ℕ) (old : Staffed) (history : List Stamped)
    (new : Staffed) : Type 0 where
  pub ran : Staffed
  pub runs : RunsEpoch options budget old ran
  pub ends : EndsEpoch ran.0 history new.0
  pub again : BeginAgain ran.1 new.1

-- so many epochs, one after the other, and their histories in this order
abbrev pub PassEpochs : Options → ℕ → ℕ → Staffed → List Stamped → Staffed → Type 0
PassEpochs options budget zero old histories new = (new ≡ old) × (histories ≡ [])
PassEpochs options budget (suc n) old histories new =
    (mid : Staffed) × (before : List Stamped) × (last : List Stamped) × PassEpochs options budget n old before mid
    × PassesEpoch options budget mid last new × (histories ≡ before ++ last)

-- what is written as each epoch ends, and in which form
abbrev pub IsWrittenAs : Show → Form → Type 0
IsWrittenAs History Lines = ⊤
IsWrittenAs Json Objects = ⊤
IsWrittenAs _ _ = ⊥

-- where the histories of epochs are: written, one line an event; kept for what is printed of all; or nowhere
abbrev pub AreAt : {W : Type 0} → (W → Option (List ℕ)) → Show → List Stamped → W → List Stamped → W → Type 0
AreAt contents History histories old kept new =
    Appends (contents old) (contents new) (lines Lines histories) × (kept ≡ [])
AreAt contents Json histories old kept new =
    Appends (contents old) (contents new) (lines Objects histories) × (kept ≡ [])
AreAt contents Chart histories old kept new = (new ≡ old) × (kept ≡ histories)
AreAt contents Mermaid histories old kept new = (new ≡ old) × (kept ≡ histories)
AreAt contents Steps histories old kept new = (new ≡ old) × (kept ≡ histories)
AreAt contents Page histories old kept new = (new ≡ old) × (kept ≡ histories)
AreAt contents Summary histories old kept new = (new ≡ old) × (kept ≡ [])

-- the histories of one epoch and more are written, and an epoch is still to end
abbrev pub HasWritten : Options → ℕ → Staffed → Option (List ℕ) → Option (List ℕ) → Type 0
HasWritten options budget first old new =
    (form : Form) × IsWrittenAs options.print form × (epochs : ℕ) × (0 < epochs) × (epochs < options.epochs)
    × (histories : List Stamped) × (now : Staffed) × PassEpochs options budget epochs first histories now
    × Appends old new (lines form histories)

-- refusals ------------------------------------------------------------------------------

-- the desks were gathered, and settling them stops at a worn clock
abbrev pub StopsWorn : List DeskState → Type 0
StopsWorn ran =
    (g : GatheredState) × Gathers ran g × (last : GatheredState) × SettlingStops (length g.shards) StopWorn g last

-- a fault of ending an epoch
abbrev pub IsOfEnd : List DeskState → ReportFault → Type 0
IsOfEnd ran Memory = ⊤
IsOfEnd ran (Desk Worn) = StopsWorn ran
IsOfEnd ran _ = ⊥

-- a fault of an epoch
abbrev pub IsOfEpoch : Options → ℕ → Staffed → ReportFault → Type 0
IsOfEpoch options budget old Memory = ⊤
IsOfEpoch options budget old (Desk Worn) = (ran : Staffed) × RunsEpoch options budget old ran × StopsWorn ran.0
IsOfEpoch options budget old _ = ⊥

-- a fault of one of the epochs before the last, or of writing their histories
abbrev pub IsOfEpochs : Options → ℕ → Staffed → ReportFault → Type 0
IsOfEpochs options budget first Memory = ⊤
IsOfEpochs options budget first File = ⊤
IsOfEpochs options budget first (Desk Worn) =
    (epochs : ℕ) × (epochs + 1 < options.epochs) × (histories : List Stamped) × (now : Staffed)
    × PassEpochs options budget epochs first histories now
    × IsOfEpoch options budget now (Desk Worn)
IsOfEpochs options budget first _ = ⊥
