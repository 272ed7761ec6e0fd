-- A worker that ends once its desk has been quiet.
use Rattle.std.specs.Prelude.{◌≡◌, ℕ, zero, suc, ◌+◌, ◌-◌, ◌^◌, ◌==◌, ◌&&◌, ◌⊎◌, Bool, true, leb, min, is_none}
use Rattle.std.specs.Prelude.{if◌then◌else◌}
use Rattle.pt_desk.specs.DeskState.{DeskState}
use Rattle.pt_desk.specs.declared.turned.Turned.{Turned}
use Rattle.pt_workers.specs.Running.{HearRelation, StepRelation, TakesTurn, TakesTurns, WorkRelation, Works, always}
use Rattle.pt_workers.specs.Running.{begins_by}
use Rattle.pt_workers.specs.declared.work.Standing.{Standing}
use Rattle.pt_workers.specs.declared.work.Standing.TheVariants.{Going, Done}
use Rattle.example_uses.specs.declared.until_quiet.UntilQuiet.{UntilQuiet}

-- the turn posted and handled nothing, and no letter stopped it
abbrev pub did_nothing : Turned → Bool
did_nothing turned = (turned.posted == 0) && (turned.handled == 0) && is_none turned.stopped

-- how many turns in a row did nothing, where it was so many before this one
abbrev pub quiet_with : Turned → ℕ → ℕ
quiet_with turned before = (if did_nothing turned then min (before + 1) (2 ^ 64 - 1) else 0)

-- its step is that of the work within
abbrev pub StepsWithin : {W : Type 0} → StepRelation W → StepRelation (UntilQuiet W)
StepsWithin does old d new e = does old.work d new.work e × (new.quiet ≡ old.quiet) × (new.enough ≡ old.enough)

-- it hands on what it is told, and counts
abbrev pub HearsWithin : {W : Type 0} → HearRelation W → HearRelation (UntilQuiet W)
HearsWithin hears old d turned new =
    hears old.work d turned new.work × (new.quiet ≡ quiet_with turned old.quiet) × (new.enough ≡ old.enough)

abbrev pub within : {W : Type 0} → WorkRelation W → WorkRelation (UntilQuiet W)
within {W} work = (StepsWithin {W = W} work.0, HearsWithin {W = W} work.1)

-- it is done once they are enough
abbrev pub quiet_standing : {W : Type 0} → UntilQuiet W → Standing
quiet_standing task = (if leb task.enough task.quiet then Done else Going)

-- so many turns, each of which did nothing
abbrev pub QuietTurns : {W : Type 0} → WorkRelation W → ℕ → ℕ → DeskState × W → DeskState × W → Type 0
QuietTurns work budget zero old new = new ≡ old
QuietTurns {W} work budget (suc n) old new =
    (last : DeskState × W) × QuietTurns work budget n old last
    × (turn : TakesTurn work budget last new) × (did_nothing turn.turned ≡ true)

-- Such a worker took all its turns, or just before it ended as many turns in a row as were enough did nothing.
abbrev pub EndsQuietly : {W : Type 0} → WorkRelation W → Type 0
EndsQuietly {W} work =
    (number turns budget : ℕ) (old new : DeskState × UntilQuiet W)
    → (run : Works (begins_by quiet_standing always number) (within work) turns budget old new) → old.1.quiet ≡ 0
    → (run.count ≡ turns) ⊎ ((before : ℕ) × (mid : DeskState × UntilQuiet W) × (before + old.1.enough ≡ run.count)
    × TakesTurns (begins_by quiet_standing always number) (within work) budget before old mid
    × QuietTurns (within work) budget old.1.enough mid new)
