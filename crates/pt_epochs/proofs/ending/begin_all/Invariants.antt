-- `begin_all`: what holds in its loop over `place`.
use Rattle.std.proofs.Common.{◌≡◌, ℕ, ◌<◌, ◌≤◌, length, get_or}
use Rattle.pt_crew.specs.declared.crew.Crew.{Crew}
use Rattle.pt_epochs.specs.Epochs.{CrewBegins}
use Rattle.pt_epochs.proofs.ending.begin_all.Given as goal

abbrev pub invariant-loop-place : goal.invariant-loop-place
invariant-loop-place g l = record {
  count : length l.crews.items ≡ length l.initial.crews.items;
  begun : (d : ℕ) (c : Crew g.row.B.Denot) → d < l.place → CrewBegins (get_or l.initial.crews.items d c) (get_or l.crews.items d c);
  rest : (d : ℕ) (c : Crew g.row.B.Denot) → l.place ≤ d → get_or l.crews.items d c ≡ get_or l.initial.crews.items d c;
}
