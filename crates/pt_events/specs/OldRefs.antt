-- The references of monitors at the start of a history.
use Rattle.std.specs.Prelude.{◌≡◌, ℕ, ◌≤◌, ◌<◌, []}
use Rattle.pt_signal.specs.declared.pid.Pid.{Pid}
use Rattle.pt_signal.specs.declared.ids.Ref.{Ref}
use Rattle.pt_signal.specs.Values.{same_ref}
use Rattle.pt_events.specs.History.{Start, state}
use Rattle.pt_events.specs.Counting.{count}

-- at the start no process has a reference open twice, nor one that is numbered above low
abbrev pub HasOldRefs : ℕ → Start → Type 0
HasOldRefs low start =
    (w : Pid) (m : Ref)
    → (count (λ e. same_ref m e.0) (state start [] w).watching ≤ 1)
    × (low < m.number → count (λ e. same_ref m e.0) (state start [] w).watching ≡ 0)
