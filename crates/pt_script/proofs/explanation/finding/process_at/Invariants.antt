-- `process_at`: what holds in its loop over `top`.
use Rattle.std.proofs.Common.{◌≡◌, ◌-◌, ◌≤◌, length, map, take}
use Rattle.serde_json.specs.View.{view}
use Rattle.pt_script.specs.Standing.{processes_of}
use Rattle.pt_script.proofs.explanation.finding.process_at.Given as goal

abbrev pub invariant-loop-top : goal.invariant-loop-top
invariant-loop-top l =
    (length (processes_of (take l.top-index (map view l.tops))) ≤ l.number)
    × (l.left ≡ l.number - length (processes_of (take l.top-index (map view l.tops))))
