-- `State::with`: the invariant of `result`.
use Rattle.std.proofs.Common.{◌≡◌, true, sym, subst}
use Rattle.pt_events.specs.History.{at_start, is_unborn}
use Rattle.pt_judge.specs.Judging.{JudgeState, ListsBorn, now_is}
use Rattle.pt_judge.proofs.Starting.{lists_more}
use Rattle.pt_judge.proofs.judging.state.State.with.Goals as goal

pub invariant_of-result : goal.invariant_of-result
invariant_of-result c =
    let lives = c.self.inside.lives in
    let life = c.args.life in
    let new : is_unborn (at_start lives life.0) ≡ true = subst (λ (s : JudgeState). is_unborn (now_is s life.0) ≡ true) (sym c.self.view_is) c.requires.new in
    subst ListsBorn (sym c.in_ok-lives.ensures) (lists_more lives life.0 life.1 c.self.invariant new c.requires.born)
