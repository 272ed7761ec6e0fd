-- `Scheduler::pull`: its clauses `does`, `attends` and `upholds`.
use Rattle.std.proofs.Common.{Some, refl, sym, subst}
use Rattle.pt_crew.specs.Crews.{queue, roles}
use Rattle.pt_crew.specs.Outside.{next_in_front}
use Rattle.pt_scheduler.specs.Scheduling.{Pulls}
use Rattle.pt_scheduler.proofs.Pulls.{attends_exit, attends_none_told, attends_told, pulls_exit, pulls_none, pulls_none_told, pulls_told, visited}
use Rattle.pt_scheduler.proofs.Upheld.{pulled_upholds}
use Rattle.pt_scheduler.proofs.scheduler.Scheduler.pull.Goals as goal

pub returns-in_err-p-clause-does : goal.returns-in_err-p-clause-does
returns-in_err-p-clause-does c = λ a. pulls_none c.args.self.now c.args.self.now c.args.desk.now.shard _ c.in_err-p.ensures c.from_residual.ensures refl

pub returns-in-Some-clause-does : goal.returns-in-Some-clause-does
returns-in-Some-clause-does c = λ a.
    let h = (record c.note.new.self { crew = c.serve_first.new.self }) in
    let s = c.serve_first.ensures in
    let w = (visited c.serve_first.result c.args.self.now c.drop_left.new.self c.note.new.self c.args.desk.now.shard c.serve_first.new.desk.shard c.serve_first.new.self c.in_ok-p.p a c.drop_left.ensures c.note.ensures.noted c.in_ok-p.ensures s.serves s.goes_on.shard s.knows s.room s.timers s.told) in
    pulls_told c.serve_first.result c.args.self.now c.note.new.self c.args.desk.now.shard c.serve_first.new.desk.shard c.serve_first.new.self c.in_ok-p.p w c.in-Some.job c.in-Some.is h refl

pub returns-in-Some-clause-attends : goal.returns-in-Some-clause-attends
returns-in-Some-clause-attends c = λ a.
    let h = (record c.note.new.self { crew = c.serve_first.new.self }) in
    let s = c.serve_first.ensures in
    let w = (visited c.serve_first.result c.args.self.now c.drop_left.new.self c.note.new.self c.args.desk.now.shard c.serve_first.new.desk.shard c.serve_first.new.self c.in_ok-p.p a c.drop_left.ensures c.note.ensures.noted c.in_ok-p.ensures s.serves s.goes_on.shard s.knows s.room s.timers s.told) in
    attends_told c.serve_first.result c.args.self.now c.note.new.self c.args.desk.now.shard c.serve_first.new.desk.shard c.serve_first.new.self c.in_ok-p.p w c.in-Some.job c.in-Some.is h refl refl

pub returns-in-Some-clause-upholds : goal.returns-in-Some-clause-upholds
returns-in-Some-clause-upholds c = λ past a u.
    pulled_upholds past (next_in_front (queue c.note.new.self.crew) (roles c.note.new.self.crew)) c.serve_first.result c.args.self.now c.drop_left.new.self c.note.new.self (record c.note.new.self { crew = c.serve_first.new.self }) c.serve_first.new.self c.args.desk.now.shard c.serve_first.new.desk.shard a c.drop_left.ensures c.note.ensures.noted c.serve_first.ensures.serves
    (λ q. refl) refl u

pub returns-in-Some-take_left-clause-does : goal.returns-in-Some-take_left-clause-does
returns-in-Some-take_left-clause-does c = λ a.
    let h = (record c.note.new.self { crew = c.take_left.new.self }) in
    let s = c.serve_first.ensures in
    let w = (visited c.serve_first.result c.args.self.now c.drop_left.new.self c.note.new.self c.args.desk.now.shard c.serve_first.new.desk.shard c.serve_first.new.self c.in_ok-p.p a c.drop_left.ensures c.note.ensures.noted c.in_ok-p.ensures s.serves s.goes_on.shard s.knows s.room s.timers s.told) in
    subst (λ o. Pulls c.args.self.now c.args.desk.now.shard (Some o) h c.serve_first.new.desk.shard) (sym c.job_of_exit.ensures)
    (pulls_exit c.serve_first.result c.args.self.now c.note.new.self c.args.desk.now.shard c.serve_first.new.desk.shard c.serve_first.new.self c.in_ok-p.p w c.in-Some-take_left.left h c.in-Some-take_left.ensures.left c.take_left.ensures.roles c.take_left.ensures.queue c.take_left.ensures.rest.1 c.take_left.ensures.rest.2
    c.alive_here-alive.result c.alive_here-alive.ensures)

pub returns-in-Some-take_left-clause-attends : goal.returns-in-Some-take_left-clause-attends
returns-in-Some-take_left-clause-attends c = λ a.
    let h = (record c.note.new.self { crew = c.take_left.new.self }) in
    let s = c.serve_first.ensures in
    let w = (visited c.serve_first.result c.args.self.now c.drop_left.new.self c.note.new.self c.args.desk.now.shard c.serve_first.new.desk.shard c.serve_first.new.self c.in_ok-p.p a c.drop_left.ensures c.note.ensures.noted c.in_ok-p.ensures s.serves s.goes_on.shard s.knows s.room s.timers s.told) in
    attends_exit c.serve_first.result c.args.self.now c.note.new.self c.args.desk.now.shard c.serve_first.new.desk.shard c.serve_first.new.self c.in_ok-p.p w c.in-Some-take_left.left h c.in-Some-take_left.ensures.left c.take_left.ensures.roles c.take_left.ensures.queue c.take_left.ensures.rest.1 c.take_left.ensures.rest.2
    (c.take_left.ensures.attends c.serve_first.new.desk.shard w.aboard) refl

pub returns-in-Some-take_left-clause-upholds : goal.returns-in-Some-take_left-clause-upholds
returns-in-Some-take_left-clause-upholds c = λ past a u.
    pulled_upholds past (next_in_front (queue c.note.new.self.crew) (roles c.note.new.self.crew)) c.serve_first.result c.args.self.now c.drop_left.new.self c.note.new.self (record c.note.new.self { crew = c.take_left.new.self }) c.serve_first.new.self c.args.desk.now.shard c.serve_first.new.desk.shard a c.drop_left.ensures c.note.ensures.noted c.serve_first.ensures.serves
    c.take_left.ensures.roles c.take_left.ensures.rest.2 u

pub returns-in-None-clause-does : goal.returns-in-None-clause-does
returns-in-None-clause-does c = λ a.
    let h = (record c.note.new.self { crew = c.take_left.new.self }) in
    let s = c.serve_first.ensures in
    let w = (visited c.serve_first.result c.args.self.now c.drop_left.new.self c.note.new.self c.args.desk.now.shard c.serve_first.new.desk.shard c.serve_first.new.self c.in_ok-p.p a c.drop_left.ensures c.note.ensures.noted c.in_ok-p.ensures s.serves s.goes_on.shard s.knows s.room s.timers s.told) in
    pulls_none_told c.serve_first.result c.args.self.now c.note.new.self c.args.desk.now.shard c.serve_first.new.desk.shard c.serve_first.new.self c.in_ok-p.p w h c.in_default.is (c.in-None.ensures.none refl) c.take_left.ensures.roles c.take_left.ensures.queue c.take_left.ensures.rest.1 c.take_left.ensures.rest.2

pub returns-in-None-clause-attends : goal.returns-in-None-clause-attends
returns-in-None-clause-attends c = λ a.
    let h = (record c.note.new.self { crew = c.take_left.new.self }) in
    let s = c.serve_first.ensures in
    let w = (visited c.serve_first.result c.args.self.now c.drop_left.new.self c.note.new.self c.args.desk.now.shard c.serve_first.new.desk.shard c.serve_first.new.self c.in_ok-p.p a c.drop_left.ensures c.note.ensures.noted c.in_ok-p.ensures s.serves s.goes_on.shard s.knows s.room s.timers s.told) in
    attends_none_told c.serve_first.result c.args.self.now c.note.new.self c.args.desk.now.shard c.serve_first.new.desk.shard c.serve_first.new.self c.in_ok-p.p w h c.in_default.is (c.in-None.ensures.none refl) c.take_left.ensures.roles c.take_left.ensures.queue c.take_left.ensures.rest.1 c.take_left.ensures.rest.2
    (c.take_left.ensures.attends c.serve_first.new.desk.shard w.aboard) refl

pub returns-in-None-clause-upholds : goal.returns-in-None-clause-upholds
returns-in-None-clause-upholds c = λ past a u.
    pulled_upholds past (next_in_front (queue c.note.new.self.crew) (roles c.note.new.self.crew)) c.serve_first.result c.args.self.now c.drop_left.new.self c.note.new.self (record c.note.new.self { crew = c.take_left.new.self }) c.serve_first.new.self c.args.desk.now.shard c.serve_first.new.desk.shard a c.drop_left.ensures c.note.ensures.noted c.serve_first.ensures.serves
    c.take_left.ensures.roles c.take_left.ensures.rest.2 u
