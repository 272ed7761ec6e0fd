-- Whose processes they are: those of one desk, once a call was made with it.
use Rattle.std.specs.Prelude.{ℕ, Option, Some, Result, Ok, Err}
use Rattle.pt_scheduler.specs.declared.scheduler.Scheduler.{Scheduler}

-- the number of its desk
abbrev pub desk_of : Scheduler → Option ℕ
desk_of t = t.desk

-- a call that succeeded makes it the scheduler of the desk with which it was made
abbrev pub desk_after : {A E : Type 0} → Result A E → ℕ → Option ℕ → Option ℕ
desk_after (Ok a) number before = Some number
desk_after (Err e) number before = before
