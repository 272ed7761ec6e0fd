-- `Runner::step_one`: its clauses `does` and `steps`.
use Rattle.std.proofs.Common.{◌≡◌, Some, None, refl, sym, ◌∙◌}
use Rattle.std.specs.List.{position}
use Rattle.pt_signal.specs.Values.{same_pid}
use Rattle.pt_runner.specs.Acting.{Acting, OneDoesNext, acting, living, table}
use Rattle.pt_runner.proofs.Acting.{none_of, one_acts_at}
use Rattle.pt_runner.proofs.Finding.{position_mapped}
use Rattle.pt_runner.proofs.Stepping.{one_steps}
use Rattle.pt_runner.proofs.runner.Runner.step_one.Goals as goal

pub returns-in-Some-clause-does : goal.returns-in-Some-clause-does
returns-in-Some-clause-does c = λ attends.
    let d = c.args.desk.now.shard in
    let s = c.attend.new.self in
    let abreast = c.attend.ensures.abreast attends in
    let at : position (λ (a : Acting). same_pid a.pid c.args.p) (table s).actors ≡ Some c.in-Some.place = position_mapped acting (λ (a : Acting). same_pid a.pid c.args.p) s.actors.items ∙ sym c.index_of.ensures ∙ c.in-Some.is in
    (one_acts_at c.args.p (living d (table c.args.self.now)) (table s) (table c.act.new.self) d c.act.new.desk.shard (Some c.in-Some.place) (c.attend.ensures.table attends) at (c.act.ensures.acts abreast), c.act.ensures.ends, (c.act.ensures.abreast abreast).0)

pub returns-in-Some-clause-steps : goal.returns-in-Some-clause-steps
returns-in-Some-clause-steps c = λ attends.
    let d = c.args.desk.now.shard in
    let s = c.attend.new.self in
    let at : position (λ (a : Acting). same_pid a.pid c.args.p) (table s).actors ≡ Some c.in-Some.place = position_mapped acting (λ (a : Acting). same_pid a.pid c.args.p) s.actors.items ∙ sym c.index_of.ensures ∙ c.in-Some.is in
    let does : OneDoesNext c.args.p (table c.args.self.now) d (table c.act.new.self) c.act.new.desk.shard = one_acts_at c.args.p (living d (table c.args.self.now)) (table s) (table c.act.new.self) d c.act.new.desk.shard (Some c.in-Some.place) (c.attend.ensures.table attends) at (c.act.ensures.acts (c.attend.ensures.abreast attends)) in
    one_steps c.args.p c.args.self.now c.act.new.self d c.act.new.desk.shard does

pub returns-in_default-clause-does : goal.returns-in_default-clause-does
returns-in_default-clause-does c = λ attends.
    let d = c.args.desk.now.shard in
    let s = c.attend.new.self in
    let at : position (λ (a : Acting). same_pid a.pid c.args.p) (table s).actors ≡ None = position_mapped acting (λ (a : Acting). same_pid a.pid c.args.p) s.actors.items ∙ sym c.index_of.ensures ∙ none_of c.index_of.result c.in_default.not-Some in
    (one_acts_at c.args.p (living d (table c.args.self.now)) (table s) (table s) d d None (c.attend.ensures.table attends) at (refl, refl), (refl, refl), (c.attend.ensures.abreast attends).0)

pub returns-in_default-clause-steps : goal.returns-in_default-clause-steps
returns-in_default-clause-steps c = λ attends.
    let d = c.args.desk.now.shard in
    let s = c.attend.new.self in
    let at : position (λ (a : Acting). same_pid a.pid c.args.p) (table s).actors ≡ None = position_mapped acting (λ (a : Acting). same_pid a.pid c.args.p) s.actors.items ∙ sym c.index_of.ensures ∙ none_of c.index_of.result c.in_default.not-Some in
    let does : OneDoesNext c.args.p (table c.args.self.now) d (table s) d = one_acts_at c.args.p (living d (table c.args.self.now)) (table s) (table s) d d None (c.attend.ensures.table attends) at (refl, refl) in
    one_steps c.args.p c.args.self.now s d d does
