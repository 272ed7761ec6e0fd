-- What is estimated of a work of which a part was done.
use Rattle.std.specs.Prelude.{ℕ, ◌*◌, ◌-◌, ◌/◌, ◌==◌, ◌||◌, cond, ltb, Option, Some, None}
use Rattle.pt_render.specs.declared.progress.Part.{Part}
use Rattle.pt_render.specs.declared.progress.Estimate.{Estimate}

-- The percent that were done, and the seconds that the rest takes if it goes on as before.
abbrev pub estimate : Part → Option Estimate
estimate part =
    cond (part.done == 0 || ltb part.total part.done) None
    (Some (record { percent = part.done * 100 / part.total; seconds = part.seconds * (part.total - part.done) / part.done }))
