-- What a signal that comes makes a live process do, as others see it. No public clause cites this module.
use Rattle.std.specs.Prelude.{◌≡◌, [], ◌∷◌, Some, None}
use Rattle.pt_signal.specs.declared.pid.Pid.{Pid}
use Rattle.pt_signal.specs.Process.{Handled, sent}
use Rattle.pt_chart.specs.declared.follower.Reply.{Reply}
use Rattle.pt_chart.specs.declared.follower.Reply.TheVariants.{Silence, Answer, End}

abbrev pub Replies : Pid → Pid → Handled → Reply → Type 0
Replies me from h Silence = (h.answer ≡ []) × (h.ending ≡ None)
Replies me from h (Answer x) = (h.answer ≡ sent me from x ∷ []) × (h.ending ≡ None)
Replies me from h (End r) = (h.answer ≡ []) × (h.ending ≡ Some r)
