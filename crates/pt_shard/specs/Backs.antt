-- What goes back from a live process. No public clause cites this module.
use Rattle.std.specs.Prelude.{true, Option, Some, None}
use Rattle.pt_signal.specs.declared.signal.Signal.{Signal}
use Rattle.pt_signal.specs.declared.signal.Signal.TheVariants.{AliveAsk, AliveSay}

-- to the question whether it is alive, yes
abbrev pub living_back : Signal → Option Signal
living_back (AliveAsk m) = Some (AliveSay m true)
living_back _ = None
