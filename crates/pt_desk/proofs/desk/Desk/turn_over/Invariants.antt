-- `Desk::turn_over`: what holds in its loop over `letter`.
use Rattle.std.proofs.Common.{◌≡◌, List, length}
use Rattle.pt_signal.specs.declared.letter.Letter.{Letter}
use Rattle.pt_desk.specs.Turns.{HandlesAll}
use Rattle.pt_desk.proofs.desk.Desk.turn_over.Given as goal

abbrev pub invariant-loop-letter : goal.invariant-loop-letter
invariant-loop-letter l = (letters : List Letter) × (l.handled ≡ length letters) × (l.handled ≡ l._letter) × HandlesAll letters l.initial.self l.self
