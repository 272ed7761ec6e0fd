-- Signals that may be said at any time, and change nothing in their sender. No public clause cites this module.
use Rattle.std.specs.Prelude.{⊤}
use Rattle.pt_signal.specs.declared.signal.Signal.{Signal}
use Rattle.pt_signal.specs.declared.signal.Signal.TheVariants.{Message}

abbrev pub IsPlainSignal : Signal → Type 0
IsPlainSignal (Message body) = ⊤
IsPlainSignal (Signal.Exit reason) = ⊤
IsPlainSignal _ = ⊥
