-- `Hints::place_of`: its clause `found`.
use Rattle.std.proofs.Common.{is_some, ap, sym, ◌∙◌}
use Rattle.indexmap.proofs.MapLemmas.{some_index}
use Rattle.pt_signal.specs.Values.{same_pid}
use Rattle.pt_crew.proofs.hints.Hints.place_of.Goals as goal

pub returns-in-Some-clause-found : goal.returns-in-Some-clause-found
returns-in-Some-clause-found g c = ap is_some (sym c.in-Some.ensures) ∙ some_index (same_pid c.args.p.now) c.args.members.now.entries
