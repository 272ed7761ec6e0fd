-- `Crew::is_idle`: its clause `awake`.
use Rattle.std.proofs.Common.{rules, ◌≡◌, ◌&&◌, true, length, ap, sym, ◌∙◌}
use Rattle.std.specs.Prelude.{◌==◌}
use Rattle.std.proofs.lemmas.List.{length-reverse}
use Rattle.pt_crew.specs.Crews.{queue}
use Rattle.pt_crew.proofs.Runs.{idle_awake}
use Rattle.pt_crew.proofs.crew.Crew.is_idle.Goals as goal

pub returns-then-is_empty-clause-awake : goal.returns-then-is_empty-clause-awake
returns-then-is_empty-clause-awake g c =
    let crew = c.args.self.now in
    let journal = c.args.desk.now.shard.journal in
    let count : length c.events.result.now ≡ length journal =
    ap length c.events.ensures.events ∙ length-reverse c.journal.result.now.past ∙ ap length c.journal.ensures.past in
    let empty : (length (queue crew) == 0) ≡ true = search rules in
    λ yes a.
    let read : (crew.read == length journal) ≡ true = sym (ap (λ n. crew.read == n) count) ∙ yes in
    idle_awake crew c.args.desk.now.shard (λ j. empty j && read j) a
