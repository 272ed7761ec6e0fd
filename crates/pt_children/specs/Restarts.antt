-- Which children are started again, and which others with them.
use Rattle.std.specs.Prelude.{ℕ, Bool, true, false}
use Rattle.pt_signal.specs.declared.reason.Reason.{Reason}
use Rattle.pt_signal.specs.declared.reason.Reason.TheVariants.{Normal, Shutdown}
use Rattle.pt_children.specs.declared.restart.Restart.{Restart}
use Rattle.pt_children.specs.declared.restart.Restart.TheVariants.{Permanent, Transient, Temporary}
use Rattle.pt_children.specs.declared.restart.Strategy.{Strategy}
use Rattle.pt_children.specs.declared.restart.Strategy.TheVariants.{OneForOne, OneForAll, RestForOne}

-- a child that ended by itself, with this reason, is started again
abbrev pub starts_again : Restart → Reason → Bool
starts_again Permanent r = true
starts_again Temporary r = false
starts_again Transient Normal = false
starts_again Transient Shutdown = false
starts_again Transient _ = true

-- of so many children those from this place on are ended, where the child at a place has ended
abbrev pub ends_from : Strategy → ℕ → ℕ → ℕ
ends_from OneForOne place count = count
ends_from OneForAll place count = 0
ends_from RestForOne place count = place
