-- `exchange`: its clause `does`.
use Rattle.std.proofs.Common.{◌≡◌, inl, inr, Err, refl, rules}
use Rattle.example_uses.proofs.two_processes.exchange.Goals as goal

pub returns-in_err-tell-clause-does : goal.returns-in_err-tell-clause-does
returns-in_err-tell-clause-does c =
    let e : c.from_residual-in_err-tell.result ≡ Err c.in_err-tell.field-0.0 = search rules in
    rw e
    (inr (c.in_ok-ping.ping, c.spawn.new.self, (c.in_ok-ping.ensures.does, c.in_ok-ping.ensures.ends), inr (c.in_ok-pong.pong, c.spawn-2.new.self, (c.in_ok-pong.ensures.does, c.in_ok-pong.ensures.ends), inl (c.in_err-tell.field-0.0, inl (c.in_err-tell.field-0.0, (c.in_err-tell.ensures.does, c.in_err-tell.ensures.ends), refl), refl))))

pub returns-in_err-_question-clause-does : goal.returns-in_err-_question-clause-does
returns-in_err-_question-clause-does c =
    let e : c.from_residual-in_err-_question.result ≡ Err c.in_err-_question.field-0.0 = search rules in
    rw e
    (inr (c.in_ok-ping.ping, c.spawn.new.self, (c.in_ok-ping.ensures.does, c.in_ok-ping.ensures.ends), inr (c.in_ok-pong.pong, c.spawn-2.new.self, (c.in_ok-pong.ensures.does, c.in_ok-pong.ensures.ends), inl (c.in_err-_question.field-0.0, inr (tt {0}, c.tell.new.desk, (c.in_ok-tell.ensures.does, c.in_ok-tell.ensures.ends), (c.turn.new.self, c.turn.result, c.turn.ensures.turns, (c.in_err-_question.ensures.does, c.in_err-_question.ensures.ends))), refl))))

pub returns-in_err-tell-2-clause-does : goal.returns-in_err-tell-2-clause-does
returns-in_err-tell-2-clause-does c =
    let e : c.from_residual-in_err-tell-2.result ≡ Err c.in_err-tell-2.field-0.0 = search rules in
    rw e
    (inr (c.in_ok-ping.ping, c.spawn.new.self, (c.in_ok-ping.ensures.does, c.in_ok-ping.ensures.ends), inr (c.in_ok-pong.pong, c.spawn-2.new.self, (c.in_ok-pong.ensures.does, c.in_ok-pong.ensures.ends), inr (c.in_ok-_question._question, c.receive.new.self, inr (tt {0}, c.tell.new.desk, (c.in_ok-tell.ensures.does, c.in_ok-tell.ensures.ends), (c.turn.new.self, c.turn.result, c.turn.ensures.turns, (c.in_ok-_question.ensures.does, c.in_ok-_question.ensures.ends))), inl (c.in_err-tell-2.field-0.0, inl (c.in_err-tell-2.field-0.0, (c.in_err-tell-2.ensures.does, c.in_err-tell-2.ensures.ends), refl), refl)))))

pub returns-in_err-_answer-clause-does : goal.returns-in_err-_answer-clause-does
returns-in_err-_answer-clause-does c =
    let e : c.from_residual-in_err-_answer.result ≡ Err c.in_err-_answer.field-0.0 = search rules in
    rw e
    (inr (c.in_ok-ping.ping, c.spawn.new.self, (c.in_ok-ping.ensures.does, c.in_ok-ping.ensures.ends), inr (c.in_ok-pong.pong, c.spawn-2.new.self, (c.in_ok-pong.ensures.does, c.in_ok-pong.ensures.ends), inr (c.in_ok-_question._question, c.receive.new.self, inr (tt {0}, c.tell.new.desk, (c.in_ok-tell.ensures.does, c.in_ok-tell.ensures.ends), (c.turn.new.self, c.turn.result, c.turn.ensures.turns, (c.in_ok-_question.ensures.does, c.in_ok-_question.ensures.ends))), inl (c.in_err-_answer.field-0.0, inr (tt {0}, c.tell-2.new.desk, (c.in_ok-tell-2.ensures.does, c.in_ok-tell-2.ensures.ends), (c.turn-2.new.self, c.turn-2.result, c.turn-2.ensures.turns, (c.in_err-_answer.ensures.does, c.in_err-_answer.ensures.ends))), refl)))))

pub returns-clause-does : goal.returns-clause-does
returns-clause-does c =
    inr (c.in_ok-ping.ping, c.spawn.new.self, (c.in_ok-ping.ensures.does, c.in_ok-ping.ensures.ends), inr (c.in_ok-pong.pong, c.spawn-2.new.self, (c.in_ok-pong.ensures.does, c.in_ok-pong.ensures.ends), inr (c.in_ok-_question._question, c.receive.new.self, inr (tt {0}, c.tell.new.desk, (c.in_ok-tell.ensures.does, c.in_ok-tell.ensures.ends), (c.turn.new.self, c.turn.result, c.turn.ensures.turns, (c.in_ok-_question.ensures.does, c.in_ok-_question.ensures.ends))), inr (c.in_ok-_answer._answer, c.receive-2.new.self, inr (tt {0}, c.tell-2.new.desk, (c.in_ok-tell-2.ensures.does, c.in_ok-tell-2.ensures.ends), (c.turn-2.new.self, c.turn-2.result, c.turn-2.ensures.turns, (c.in_ok-_answer.ensures.does, c.in_ok-_answer.ensures.ends))), (refl, refl)))))
