-- Starts of children that fail, and which of them are tried again.
use Rattle.std.specs.Prelude.{ℕ, zero, suc, ◌&&◌, ◌||◌, not, nat_le, cond, Bool, true, false, is_some, List, Option, Some, None}
use Rattle.std.specs.Prelude.{slice_get}
use Rattle.pt_signal.specs.declared.pid.Pid.{Pid}
use Rattle.pt_shard.specs.declared.fault.Fault.{Fault}
use Rattle.pt_shard.specs.declared.fault.Fault.TheVariants.{Memory, Worn}
use Rattle.pt_children.specs.declared.children.Child.{Child}
use Rattle.pt_children.specs.declared.home.Home.TheVariants.{Elsewhere}
use Rattle.pt_children.specs.declared.restart.Strategy.{Strategy}
use Rattle.pt_children.specs.declared.restart.Strategy.TheVariants.{OneForOne}
use Rattle.pt_children.specs.declared.trial.Trial.{Trial}
use Rattle.pt_children.specs.declared.trial.Trial.TheVariants.{First, Again, Failed, Over}
use Rattle.pt_children.specs.Children.{is_by_call, is_missing}

-- A start that fails for want of memory or of stamps is an accident: nothing has failed, and it is tried again.
abbrev pub is_accident : Fault → Bool
is_accident Memory = true
is_accident Worn = true
is_accident _ = false

abbrev pub has_failed_first : Trial → Bool
has_failed_first Over = true
has_failed_first _ = false

-- the desk's clock as the start failed that is to be tried again
abbrev pub failed_at : Trial → Option ℕ
failed_at (Failed at) = Some at
failed_at _ = None

-- A first start that fails is over. One after an exit is tried again.
abbrev pub failed_trial : ℕ → Trial → Trial
failed_trial clock First = Over
failed_trial clock Again = Failed clock
failed_trial clock t = t

-- one that a call asked for is not wanted any more
abbrev pub failed_child : ℕ → Child → Child
failed_child clock c = record c { wanted = c.wanted && not (is_by_call c.trial); trial = failed_trial clock c.trial }

abbrev pub unstarted_child : ℕ → Fault → Child → Child
unstarted_child clock f c = cond (is_accident f) c (failed_child clock c)

abbrev pub started_child : Pid → Child → Child
started_child p c = record c { pid = Some p; trial = Again }

-- the program has not started it on another desk; after an accident it is asked again
abbrev pub refused_child : ℕ → Fault → Child → Child
refused_child clock f c = unstarted_child clock f (record c { home = Elsewhere })

-- the program has started it, and its supervisor was not linked with it; after an accident that is tried again
abbrev pub missed_child : ℕ → Fault → Child → Child
missed_child clock f c = cond (is_accident f) c (refused_child clock f c)

-- its supervisor is linked with it, which the program has started on another desk as p
abbrev pub joined_child : Pid → Child → Child
joined_child p c = record (started_child p c) { home = Elsewhere }

-- a start of it failed: it is tried again in its turn, or its supervisor gives up
abbrev pub has_failed : Trial → Bool
has_failed t = is_some (failed_at t) || has_failed_first t

-- it is to be started now: it is missing, and none whose start failed
abbrev pub is_startable : Child → Bool
is_startable c = is_missing c && not (has_failed c.trial)

-- when its start failed, if it is to be tried again
abbrev pub tried_at : Child → Option ℕ
tried_at c = cond (is_missing c) (failed_at c.trial) None

abbrev pub is_alone : Strategy → Bool
is_alone OneForOne = true
is_alone _ = false

-- Those behind a child are started: it is not missing, or it is tried again and no other is to wait for it.
abbrev pub goes_past : Strategy → Option Child → Bool
goes_past strategy None = false
goes_past strategy (Some c) = not (is_missing c) || (is_some (failed_at c.trial) && is_alone strategy)

-- of two that failed the one that did so first, and when
abbrev pub earlier_than : Option (ℕ × ℕ) → ℕ → ℕ → Option (ℕ × ℕ)
earlier_than None place at = Some (place, at)
earlier_than (Some (p, first)) place at = cond (nat_le first at) (Some (p, first)) (Some (place, at))

abbrev pub earlier : Option (ℕ × ℕ) → ℕ → Option ℕ → Option (ℕ × ℕ)
earlier before place None = before
earlier before place (Some at) = earlier_than before place at

abbrev pub tried_in : Option Child → Option ℕ
tried_in None = None
tried_in (Some c) = tried_at c

-- among the first n children the place of the one whose start failed first, and when that was
abbrev pub first_failed : List Child → ℕ → Option (ℕ × ℕ)
first_failed children zero = None
first_failed children (suc n) = earlier (first_failed children n) n (tried_in (slice_get children n))
