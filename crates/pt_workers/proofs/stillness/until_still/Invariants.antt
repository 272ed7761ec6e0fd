-- `until_still`: what holds in its loop over `quiet`.
use Rattle.std.proofs.Common.{◌≡◌, ℕ, ◌+◌, ◌-◌, ◌*◌, ◌<◌, ◌≤◌, None}
use Rattle.pt_workers.specs.Desks.{AreDesks}
use Rattle.pt_workers.specs.Stillness.{AreStill, Rounds}
use Rattle.pt_workers.proofs.Burning.{room}
use Rattle.pt_workers.proofs.AtRest.{WasQuiet}
use Rattle.pt_workers.proofs.Laned.{Looked}
use Rattle.pt_workers.proofs.stillness.until_still.Given as goal

abbrev pub invariant-loop-quiet : goal.invariant-loop-quiet
invariant-loop-quiet l = record {
  node : AreDesks l.desks.items;
  rounds : (count : ℕ) × Rounds l.budget count l.initial.desks.items l.did l.desks.items;
  on : l.did.stopped ≡ None;
  few : l.quiet ≤ 2;
  lanes : Looked l.initial.desks.items l.desks.items l.quiet;
  once : 0 < l.quiet → WasQuiet l.budget l.desks.items;
  twice : l.quiet ≡ 2 → AreStill l.desks.items;
}

abbrev pub decreases-loop-quiet : goal.decreases-loop-quiet
decreases-loop-quiet l = 3 * room l.desks.items + (2 - l.quiet)
