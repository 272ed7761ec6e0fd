-- How the work of a script begins.
use Rattle.std.specs.Prelude.{◌≡◌, ℕ, ◌<◌, ◌≤◌, ◌==◌, Bool, List, length, map, fold, reverse, replicate, take}
use Rattle.std.specs.Prelude.{slice_index_or, slice_set, Option, Some, None, IsSome, Result, Ok, Err, Vec}
use Rattle.std.specs.List.{filter, zip}
use Rattle.pt_signal.specs.declared.pid.Pid.{Pid}
use Rattle.pt_events.specs.declared.event.Event.{Event}
use Rattle.pt_events.specs.declared.event.Event.TheVariants.{Born}
use Rattle.pt_shard.specs.declared.fault.Fault.{Fault}
use Rattle.pt_shard.specs.declared.fault.Fault.TheVariants.{Full, Memory, Worn, Gone, Myself, NoProc}
use Rattle.pt_shard.specs.Calls.{CanWrite, IsWorn}
use Rattle.pt_shard.specs.ShardState.{past}
use Rattle.pt_signal.specs.declared.config.Config.{Config}
use Rattle.pt_shard.specs.Opening.{fresh_shard}
use Rattle.pt_desk.specs.DeskState.{DeskState, IsDesk}
use Rattle.pt_workers.specs.Desks.{AreDesksOf}
use Rattle.pt_script.specs.Plans.{Plan, Whole}
use Rattle.pt_script.specs.declared.values.Top.{Top}
use Rattle.pt_runner.specs.declared.runner.Runner.{Runner}
use Rattle.pt_runner.specs.Acting.{Acting, table, newborn_actor}
use Rattle.pt_runner.specs.Waiting.{IsFresh}

-- the desks of one node on which nothing has happened, and nothing had happened before
pub record AreUnused (config : Config) (desks : List DeskState) : Type 0 where
  pub node : AreDesksOf config desks
  pub shards : (d : ℕ) (x : DeskState) → d < length desks → (slice_index_or desks d x).shard ≡ fresh_shard config d

-- those of the processes that are of desk d
abbrev pub on : ℕ → List Pid → List Pid
on d ps = filter (λ (p : Pid). p.shard == d) ps

abbrev pub birth : Pid → Event
birth p = Born p None None

-- The first count of the processes of a script's list are born, each on its desk and in this order, and that is all
-- that happened on the desks.
pub record StartBegins (tops : List Top) (count : ℕ) (born : List Pid) (desks : List DeskState) : Type 0 where
  pub counted : length born ≡ count
  pub within : count ≤ length tops
  pub placed : map (λ (p : Pid). p.shard) born ≡ map (λ (t : Top). t.desk) (take count tops)
  pub pasts : (d : ℕ) (x : DeskState) → d < length desks
      → past (slice_index_or desks d x).shard ≡ reverse (map birth (on d born))

-- the processes of the script's list, each with its pid
abbrev pub named_tops : Whole → List Pid → List (Top × Pid)
named_tops w born = zip w.tops born

-- the pids by the numbers of their processes: those of the list have one, and no other process has
abbrev pub put_pid : List (Option Pid) → Top × Pid → List (Option Pid)
put_pid pids one = slice_set pids one.0.process (Some one.1)

abbrev pub numbered_pids : Whole → List Pid → List (Option Pid)
numbered_pids w born = fold put_pid (replicate (length w.processes) None) (named_tops w born)

-- those of desk d, in order of birth: each is at its first operation and has no reference
abbrev pub starter : List Plan → Top × Pid → Acting
starter plans one = newborn_actor plans one.0.process one.1

abbrev pub is_on : ℕ → Top × Pid → Bool
is_on d one = one.1.shard == d

abbrev pub starters : List Plan → ℕ → List (Top × Pid) → List Acting
starters plans d ones = map (starter plans) (filter (is_on d) ones)

-- the runner of desk d, when these are born
pub record IsRunnerOf (w : Whole) (born : List Pid) (d : ℕ) (r : Runner) : Type 0 where
  pub script : r.script.now ≡ w
  pub table : table r ≡ record {
    plans = w.processes;
    pids = numbered_pids w born;
    actors = starters w.processes d (named_tops w born);
  }
  -- it has read nothing of its desk's journal, and nobody waits
  pub fresh : IsFresh r

-- one runner a desk, in their order
pub record AreRunners (w : Whole) (born : List Pid) (desks : ℕ) (runners : List Runner) : Type 0 where
  pub counted : length runners ≡ desks
  pub each : (d : ℕ) (r : Runner) → d < desks → IsRunnerOf w born d (slice_index_or runners d r)

-- this holds of the desk that the next process of the list is to be born on, behind the first count
abbrev pub AtNext : List Top → ℕ → List DeskState → (DeskState → Type 0) → Type 0
AtNext tops count desks Holds =
    (t : Top) (x : DeskState) → Holds (slice_index_or desks (slice_index_or tops count t).desk x)

-- Why no more of the list are born, behind the first count: the next one's desk, one that keeps its accounts, has no
-- vacant slot, or is worn. Where memory was wanting neither is so; it may also be wanting behind the last one.
abbrev pub BirthsStop : List Top → ℕ → List DeskState → Fault → Type 0
BirthsStop tops count desks Full =
    (count < length tops) × AtNext tops count desks (λ d. IsDesk d × CanWrite d.shard × (d.shard.vacant ≡ None))
BirthsStop tops count desks Worn = (count < length tops) × AtNext tops count desks (λ d. IsDesk d × IsWorn d.shard)
BirthsStop tops count desks Memory =
    count < length tops → AtNext tops count desks (λ d. CanWrite d.shard × IsSome d.shard.vacant)
BirthsStop tops count desks Gone = ⊥
BirthsStop tops count desks Myself = ⊥
BirthsStop tops count desks NoProc = ⊥

-- the first of the list are born, and for this reason no more
abbrev pub BornUntil : List Top → List DeskState → Fault → Type 0
BornUntil tops desks fault =
    (count : ℕ) × (born : List Pid) × StartBegins tops count born desks × BirthsStop tops count desks fault

-- all of them are born, and each desk has its runner; or those before a refusal are born
abbrev pub Starts : {A : Type 0} → Whole → List DeskState → Result (Vec Runner A) Fault → Type 0
Starts w desks (Ok runners) =
    (born : List Pid) × StartBegins w.tops (length w.tops) born desks × AreRunners w born (length desks) runners.items
Starts w desks (Err fault) = BornUntil w.tops desks fault

-- the births alone
abbrev pub BearsList : {A : Type 0} → List Top → List DeskState → Result (Vec Pid A) Fault → Type 0
BearsList tops desks (Ok born) = StartBegins tops (length tops) born.items desks
BearsList tops desks (Err fault) = BornUntil tops desks fault
