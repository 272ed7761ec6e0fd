-- What holds of every script that is accepted: its numbers name something, and its limits hold.
use Rattle.std.specs.Prelude.{◌≡◌, ◌≤◌, ◌<◌, ℕ, ◌+◌, List, [], ◌∷◌, length, Option, Some, None, sum_by}
use Rattle.std.specs.List.{All}
use Rattle.pt_script.specs.declared.values.Settings.{Settings}
use Rattle.pt_script.specs.declared.values.Top.{Top}
use Rattle.pt_script.specs.declared.values.Pattern.{Pattern}
use Rattle.pt_script.specs.declared.values.Pattern.TheVariants.{From, ExitOf, DownOf, AliveOf}
use Rattle.pt_script.specs.declared.values.Operation.{Operation}
use Rattle.pt_script.specs.declared.values.Operation.TheVariants.{Send, Receive, Check, Link, Unlink, Monitor}
use Rattle.pt_script.specs.declared.values.Operation.TheVariants.{Demonitor, Alive, Signal, Spawn, ReceiveAfter, If}
use Rattle.pt_script.specs.Plans.{Plan, Whole}
use Rattle.pt_script.specs.declared.limits.TheConstants.{MAX_BUDGET, MAX_DESKS, MAX_FORMAT, MAX_LANE, MAX_OPERATIONS}
use Rattle.pt_script.specs.declared.limits.TheConstants.{MAX_PROCESSES, MAX_SLOTS}

abbrev pub IsBelow : ℕ → Option ℕ → Type 0
IsBelow n None = Unit {0}
IsBelow n (Some k) = k < n

-- among n processes, and behind operations that made so many tags
abbrev pub PatternFits : ℕ → ℕ → Pattern → Type 0
PatternFits n made (From p) = p < n
PatternFits n made (ExitOf p) = p < n
PatternFits n made (DownOf tag) = tag < made
PatternFits n made (AliveOf tag) = tag < made
PatternFits n made _ = Unit {0}

-- the processes that it names are processes of the script, the tags that it uses were made before, and one that it
-- makes has the next number
abbrev pub Fits : ℕ → ℕ → Operation → Type 0
Fits n made (Send to kind num who) = (to < n) × IsBelow n who
Fits n made (Receive p) = PatternFits n made p
Fits n made (Check p) = PatternFits n made p
Fits n made (ReceiveAfter p tries) = PatternFits n made p
Fits n made (If p) = PatternFits n made p
Fits n made (Link to) = to < n
Fits n made (Unlink to) = to < n
Fits n made (Monitor to tag) = (to < n) × (tag ≡ made)
Fits n made (Demonitor tag flush) = tag < made
Fits n made (Alive to tag) = (to < n) × (tag ≡ made)
Fits n made (Signal to reason) = to < n
Fits n made (Spawn process linked) = process < n
Fits n made _ = Unit {0}

-- how many tags it makes
abbrev pub tags_made : Operation → ℕ
tags_made (Monitor to tag) = 1
tags_made (Alive to tag) = 1
tags_made _ = 0

abbrev pub ListFits : ℕ → ℕ → List Operation → Type 0
ListFits n made [] = Unit {0}
ListFits n made (o ∷ os) = Fits n made o × ListFits n (made + tags_made o) os

abbrev pub PlansFit : ℕ → List Plan → Type 0
PlansFit n plans = All (λ p. ListFits n 0 p.operations) plans

abbrev pub TopFits : ℕ → ℕ → Top → Type 0
TopFits n desks t = (t.process < n) × (t.desk < desks)

pub record InRange (s : Settings) : Type 0 where
  pub format : (1 ≤ s.format) × (s.format ≤ MAX_FORMAT)
  pub desks : (1 ≤ s.desks) × (s.desks ≤ MAX_DESKS)
  pub slots : (1 ≤ s.slots) × (s.slots ≤ MAX_SLOTS)
  pub top_version : (1 ≤ s.top_version) × (s.top_version ≤ 4294967295)
  pub lane : (1 ≤ s.lane) × (s.lane ≤ MAX_LANE)
  pub budget : (1 ≤ s.budget) × (s.budget ≤ MAX_BUDGET)

abbrev pub operations_of : List Plan → ℕ
operations_of plans = sum_by (λ p. length p.operations) plans

pub record IsSoundScript (w : Whole) : Type 0 where
  pub settings : InRange w.settings
  pub tops : All (TopFits (length w.processes) w.settings.desks) w.tops
  pub lists : PlansFit (length w.processes) w.processes
  pub processes : length w.processes ≤ MAX_PROCESSES
  pub operations : operations_of w.processes ≤ MAX_OPERATIONS
