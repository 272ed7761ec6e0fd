-- `Branching::next_place`: what holds in its loop, and that it ends.
use Rattle.std.proofs.Common.{◌≡◌, ◌+◌, ◌-◌, drop, length}
use Rattle.pt_runner.specs.Acting.{fits_if_taken, next_place, passed_from}
use Rattle.pt_runner.proofs.reading.Branching.next_place.Given as goal

abbrev pub invariant-loop-next : goal.invariant-loop-next
invariant-loop-next l = l.next + passed_from (fits_if_taken l.self.pids.now l.self.references.now.items l.self.taken) l.reading (drop l.next l.operations)
    ≡ next_place (fits_if_taken l.self.pids.now l.self.references.now.items l.self.taken) l.operations l.place

abbrev pub decreases-loop-next : goal.decreases-loop-next
decreases-loop-next l = length l.operations - l.next
