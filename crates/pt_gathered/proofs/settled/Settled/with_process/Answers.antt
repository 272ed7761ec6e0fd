-- `Settled::with_process`: its contract, and what its call of `unreachable` asks, and its checked operations.
use Rattle.std.proofs.Common.{◌≡◌, ◌∷◌, ◌++◌, [], true, Some, None, get_or, sym, ap, ◌∙◌}
use Rattle.std.proofs.lemmas.Result.{IfOk-weaker}
use Rattle.pt_signal.specs.Process.{ProcessState}
use Rattle.pt_events.specs.History.{living, life, is_living}
use Rattle.pt_events.specs.Journal.{events}
use Rattle.pt_events.specs.Leaving.{outcome}
use Rattle.pt_accounts.specs.declared.account.Account.{Account}
use Rattle.pt_accounts.specs.LivesState.{InEveryMerge}
use Rattle.pt_judge.specs.Judging.{JudgeState}
use Rattle.pt_shard.specs.ShardState.{phase_of, lives, state_in}
use Rattle.pt_gathered.specs.Gathered.{GatheredState, begins, journals}
use Rattle.pt_gathered.proofs.StartStates.{some_merge, said_here, lives_on, living_is, read_none, read_some, same_parts}
use Rattle.pt_gathered.proofs.settled.Settled.with_process.Goals as goal
use Rattle.pt_gathered.proofs.settled.Settled.with_process.Goals.{in-Some+in_default-ended, in_default}

pub unreachable-requires : goal.unreachable-requires
unreachable-requires c =
    let g = c.args.self.now.gathered in
    let say = c.journals_tell_their_pids.ensures.journals in
    let there = c.journals_have_one_merge.ensures.there in
    let whole = c.desks-desks.ensures.gathered in
    let p = c.args.pid in
    let s = c.index-shards-from.result in
    let m = some_merge g whole say there in
    let at : s ≡ get_or g.shards p.shard s = c.index-shards-from.is ∙ ap (λ z. get_or z c.from.result s) (c.shards-shards.ensures ∙ ap (λ (n : GatheredState). n.shards) c.node-2.ensures) ∙ ap (λ k. get_or g.shards k s) c.from.ensures in
    let none : (a : Account) → c.account-told.result ≡ Some a → a.ended ≡ None = elim c.match-told.branch [
      | in-Some+in_default-ended w ↦ λ a e. let k : a ≡ w.in-Some.account = cc in ap (λ (a : Account). a.ended) k ∙ w.in_default-ended.is
      | in_default w ↦ λ a e. absurd (w.in_default.not-Some a e)
    ] in
    let now = lives_on g whole say there p c.account-told.result (c.requires.born m.0 m.1) c.account-told.ensures none in
    let here : is_living (phase_of s p) ≡ true = ap is_living (sym (said_here g whole say there m.0 m.1 p s c.requires.desk at)) ∙ now in
    read_none (lives s p) (p, state_in s p) c.in-None.ensures here

pub returns : goal.returns
returns c =
    let g = c.args.self.now.gathered in
    let say = c.journals_tell_their_pids.ensures.journals in
    let there = c.journals_have_one_merge.ensures.there in
    let whole = c.desks-desks.ensures.gathered in
    let p = c.args.pid in
    let old = c.args.state in
    let s = c.index-shards-from.result in
    let m = some_merge g whole say there in
    let at : s ≡ get_or g.shards p.shard s = c.index-shards-from.is ∙ ap (λ z. get_or z c.from.result s) (c.shards-shards.ensures ∙ ap (λ (n : GatheredState). n.shards) c.node-2.ensures) ∙ ap (λ k. get_or g.shards k s) c.from.ensures in
    let none : (a : Account) → c.account-told.result ≡ Some a → a.ended ≡ None = elim c.match-told.branch [
      | in-Some+in_default-ended w ↦ λ a e. let k : a ≡ w.in-Some.account = cc in ap (λ (a : Account). a.ended) k ∙ w.in_default-ended.is
      | in_default w ↦ λ a e. absurd (w.in_default.not-Some a e)
    ] in
    let now = lives_on g whole say there p c.account-told.result (c.requires.born m.0 m.1) c.account-told.ensures none in
    let here : is_living (phase_of s p) ≡ true = ap is_living (sym (said_here g whole say there m.0 m.1 p s c.requires.desk at)) ∙ now in
    let process = c.in-Some-process.process.now in
    let held = c.in_ok-holding_of-in-Some-process.field-0 in
    let is = c.in_ok-holding_of-in-Some-process.ensures in
    let parts : ProcessState = record { waiting = held.waiting.items; links = held.links.items; watching = held.watching.items; kept = held.kept.items; traps = held.traps } in
    let whole_state : parts ≡ process.state = same_parts process.state held.waiting.items held.links.items held.watching.items held.kept.items held.traps is.waiting is.links is.watching is.kept is.traps in
    let state_is : process.state ≡ state_in s p = read_some (lives s p) (process.me, process.state) (p, state_in s p) c.in-Some-process.ensures here in
    IfOk-weaker c.with_living.result (λ (new : JudgeState). new ≡ record old { lives = old.lives ++ (p, living parts) ∷ [] })
    (λ new. InEveryMerge (journals g) (λ before. new ≡ record old { lives = old.lives ++ (p, outcome (life (begins g) before p)) ∷ [] }))
    (λ new e merged n.
    let f : life (begins g) (events merged) p ≡ phase_of s p = said_here g whole say there merged n p s c.requires.desk at in
    let phase : living parts ≡ outcome (life (begins g) (events merged) p) = ap living (whole_state ∙ state_is) ∙ living_is (phase_of s p) here ∙ ap outcome (sym f) in
    e ∙ ap (λ z. record old { lives = old.lives ++ (p, z) ∷ [] }) phase)
    c.with_living.ensures
