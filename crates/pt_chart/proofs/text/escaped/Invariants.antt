-- `escaped`: what holds in its loop over `byte`.
use Rattle.std.proofs.Common.{◌≡◌, take}
use Rattle.std.specs.String.{string_bytes}
use Rattle.pt_chart.specs.Text.{escape}
use Rattle.pt_chart.proofs.text.escaped.Given as goal

abbrev pub invariant-loop-byte : goal.invariant-loop-byte
invariant-loop-byte l = string_bytes l.text ≡ escape (take l.byte-index l.bytes)
