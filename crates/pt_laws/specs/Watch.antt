-- One monitor: where its reference is open, kept, said, and on its way.
use Rattle.std.specs.Prelude.{ℕ, ◌+◌, Bool, false, ◌&&◌, [], ◌∷◌}
use Rattle.pt_signal.specs.declared.pid.Pid.{Pid}
use Rattle.pt_signal.specs.declared.ids.Ref.{Ref}
use Rattle.pt_signal.specs.declared.item.Item.{Item}
use Rattle.pt_signal.specs.declared.signal.Signal.{Signal}
use Rattle.pt_signal.specs.declared.signal.Signal.TheVariants.{Monitor, Demonitor}
use Rattle.pt_events.specs.declared.event.Event.{Event}
use Rattle.pt_events.specs.declared.event.Event.TheVariants.{Said}
use Rattle.pt_signal.specs.Values.{same_pid, same_ref}
use Rattle.pt_signal.specs.Process.{ProcessState, same_watch}
use Rattle.pt_events.specs.History.{Past, Phase, living}
use Rattle.pt_events.specs.Counting.{one_if, count}

abbrev pub is_monitor : Ref → Signal → Bool
is_monitor m (Monitor n) = same_ref m n
is_monitor m _ = false

abbrev pub is_demonitor : Ref → Signal → Bool
is_demonitor m (Demonitor n) = same_ref m n
is_demonitor m _ = false

abbrev pub is_down_item : Ref → Item → Bool
is_down_item m (Item.Down n from r) = same_ref m n
is_down_item m _ = false

abbrev pub says : Pid → (Signal → Bool) → Event → ℕ
says w test (Said a b x) = one_if (same_pid w a && test x)
says w test _ = 0

-- how often w said a signal that passes
abbrev pub said_times : Pid → (Signal → Bool) → Past → ℕ
said_times w test [] = 0
said_times w test (e ∷ past) = said_times w test past + says w test e

abbrev pub says_to : Pid → Pid → (Signal → Bool) → Event → ℕ
says_to w t test (Said a b x) = one_if ((same_pid w a && same_pid t b) && test x)
says_to w t test _ = 0

abbrev pub said_to : Pid → Pid → (Signal → Bool) → Past → ℕ
said_to w t test [] = 0
said_to w t test (e ∷ past) = said_to w t test past + says_to w t test e

-- the entry is of the reference and the target
abbrev pub is_open : Ref → Pid → Ref × Pid → Bool
is_open m t e = same_pid t e.1 && same_ref m e.0

abbrev pub opens_to : Ref → Pid → ProcessState → ℕ
opens_to m t s = count (is_open m t) s.watching

abbrev pub keeps : Ref → Pid → ProcessState → ℕ
keeps m w s = count (same_watch m w) s.kept

module _ (w t : Pid) (m : Ref) where
  -- how often m is open for t in a live w
  abbrev pub open_in : Phase → ℕ
  open_in (living s) = opens_to m t s
  open_in _ = 0

  -- how often w's m is kept in a live t
  abbrev pub kept_in : Phase → ℕ
  kept_in (living s) = keeps m w s
  kept_in _ = 0
