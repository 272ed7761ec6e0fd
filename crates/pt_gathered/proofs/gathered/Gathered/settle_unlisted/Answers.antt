-- `Gathered::settle_unlisted`: its clauses `refused_again` and `again`, and what its calls of `with`, `read_journals` and `Settled::of` ask.
use Rattle.std.proofs.Common.{length, refl, sym, ap, ◌∙◌, subst, le_refl}
use Rattle.std.specs.Prelude.{IfSome}
use Rattle.pt_gathered.specs.Gathered.{GatheredState}
use Rattle.pt_gathered.specs.Keeping.{IsKeptFor}
use Rattle.pt_gathered.specs.Settling.{NothingLeft, Runs}
use Rattle.pt_gathered.specs.Order.{PassesStop}
use Rattle.pt_gathered.specs.Quiet.{QuietState}
use Rattle.pt_gathered.specs.Tables.{AreTables}
use Rattle.pt_gathered.proofs.Again.{passes_go_on, nothing_new}
use Rattle.pt_gathered.proofs.Keeping.{still_kept}
use Rattle.pt_gathered.proofs.Told.{are_lives, tables_after}
use Rattle.pt_gathered.proofs.gathered.Gathered.settle_unlisted.Goals as goal

pub with-gathered-requires-clause-tables : goal.with-gathered-requires-clause-tables
with-gathered-requires-clause-tables c =
    let old = c.of-settling.result.0.node in
    let tables = c.of-settling.result.1.items in
    let are : AreTables old.shards tables = subst (λ (g : GatheredState). AreTables g.shards tables) (sym c.of-settling.ensures.node) c.of-settling.ensures.tables in
    tables_after old c.run_passes.new.self.node c.desks-before.ensures.gathered c.desks-after.ensures.gathered c.run_passes.ensures.runs.settles tables are

pub with-gathered-requires-clause-kept : goal.with-gathered-requires-clause-kept
with-gathered-requires-clause-kept c =
    let old = c.of-settling.result.0.node in
    let new = c.run_passes.new.self.node in
    still_kept old new c.of-settling.result.2 c.run_passes.ensures.runs.settles
    (subst (λ (g : GatheredState). IfSome c.of-settling.result.2 (λ k. IsKeptFor g k)) (sym c.of-settling.ensures.node) c.of-settling.ensures.kept)

pub with-gathered-requires-in-Err-read_journals-clause-kept : goal.with-gathered-requires-in-Err-read_journals-clause-kept
with-gathered-requires-in-Err-read_journals-clause-kept c =
    let old = c.of-settling.result.0.node in
    let new = c.run_passes.new.self.node in
    still_kept old new c.of-settling.result.2 c.run_passes.ensures.runs.settles
    (subst (λ (g : GatheredState). IfSome c.of-settling.result.2 (λ k. IsKeptFor g k)) (sym c.of-settling.ensures.node) c.of-settling.ensures.kept)

pub read_journals-requires : goal.read_journals-requires
read_journals-requires c =
    let old = c.of-settling.result.0.node in
    let tables = c.of-settling.result.1.items in
    let are : AreTables old.shards tables = subst (λ (g : GatheredState). AreTables g.shards tables) (sym c.of-settling.ensures.node) c.of-settling.ensures.tables in
    tables_after old c.run_passes.new.self.node c.desks-before.ensures.gathered c.desks-after-2.ensures.gathered c.run_passes.ensures.runs.settles tables are

pub of-settled-requires-clause-settled : goal.of-settled-requires-clause-settled
of-settled-requires-clause-settled c =
    let g = c.run_passes.new.self.node in
    let tables = c.read_journals.new.lives.items in
    let count = c.read_journals.ensures.tables.count in
    record {
      nothing_left = c.in-Ok.ensures.nothing_left;
      count = count;
      tables = c.read_journals.ensures.tables;
      lives_are = are_lives g c.desks-after-2.ensures.gathered tables count c.in-Ok-read_journals.ensures.told;
    }

pub of-settled-requires-clause-kept : goal.of-settled-requires-clause-kept
of-settled-requires-clause-kept c =
    let old = c.of-settling.result.0.node in
    let new = c.run_passes.new.self.node in
    still_kept old new c.of-settling.result.2 c.run_passes.ensures.runs.settles
    (subst (λ (g : GatheredState). IfSome c.of-settling.result.2 (λ k. IsKeptFor g k)) (sym c.of-settling.ensures.node) c.of-settling.ensures.kept)

pub returns-in-Err-clause-refused_again : goal.returns-in-Err-clause-refused_again
returns-in-Err-clause-refused_again c none =
    let a = c.args.self in
    let stops : PassesStop (length a.shards) c.in-Err.fault a c.run_passes.new.self.node
    = subst (λ (g : GatheredState). PassesStop (length g.shards) c.in-Err.fault g c.run_passes.new.self.node) c.of-settling.ensures.node c.in-Err.ensures.stops in
    absurd (passes_go_on (length a.shards) a (le_refl (length a.shards)) none c.in-Err.fault c.run_passes.new.self.node stops)

pub returns-in-Ok-read_journals-clause-again : goal.returns-in-Ok-read_journals-clause-again
returns-in-Ok-read_journals-clause-again c none =
    let old = c.of-settling.result.0.node in
    let new = c.run_passes.new.self in
    let runs = subst (λ n. Runs old n new.node new.handled) c.of-settling.ensures.handled c.run_passes.ensures.runs in
    let same = nothing_new old new.node new.handled (subst NothingLeft (sym c.of-settling.ensures.node) none) c.in-Ok.ensures.order runs in
    (ap (λ (q : QuietState). q.gathered) c.of-settled.ensures ∙ same.0 ∙ c.of-settling.ensures.node, ap (λ (q : QuietState). q.handled) c.of-settled.ensures ∙ same.1)

pub returns-in-Err-read_journals-clause-refused_again : goal.returns-in-Err-read_journals-clause-refused_again
returns-in-Err-read_journals-clause-refused_again c none =
    let old = c.of-settling.result.0.node in
    let new = c.run_passes.new.self in
    let runs = subst (λ n. Runs old n new.node new.handled) c.of-settling.ensures.handled c.run_passes.ensures.runs in
    let same = nothing_new old new.node new.handled (subst NothingLeft (sym c.of-settling.ensures.node) none) c.in-Ok.ensures.order runs in
    (c.with-gathered-in-Err-read_journals.ensures ∙ same.0 ∙ c.of-settling.ensures.node, refl)
