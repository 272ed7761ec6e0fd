-- `Many::with_room`: its clauses `entries` and `room`, and the invariant of `result`.
use Rattle.std.proofs.Common.{sym, ap, arith, length}
use Rattle.pt_entries.specs.Gaps.{present}
use Rattle.pt_entries.proofs.many.Many.with_room.Goals as goal

pub invariant_of-result : goal.invariant_of-result
invariant_of-result g c = record {
  distinct = c.in_ok-places.ensures.unique;
  counted = sym (ap (λ es. length (present es)) c.in_ok-places.ensures.empty);
  bounded = omega (arith, ap length c.in_ok-places.ensures.empty);
  limited = omega arith;
}

pub returns-clause-entries : goal.returns-clause-entries
returns-clause-entries g c = ap present c.in_ok-places.ensures.empty

pub returns-clause-room : goal.returns-clause-room
returns-clause-room g c = omega (arith, c.in_ok-places.ensures.spare, c.requires)
