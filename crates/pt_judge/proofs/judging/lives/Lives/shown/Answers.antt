-- `Lives::shown`: its contract, and the invariant of `result`.
use Rattle.std.proofs.Common.{◌≡◌, ◌∙◌, sym, ap, subst, arith}
use Rattle.std.specs.Map.{keys_of}
use Rattle.pt_signal.specs.declared.pid.Pid.{Pid}
use Rattle.pt_signal.specs.Values.{same_pid}
use Rattle.pt_events.specs.History.{Start, Phase}
use Rattle.pt_judge.specs.Judging.{ShownTo}
use Rattle.pt_judge.specs.Places.{first_place}
use Rattle.pt_judge.proofs.Lives.{keys_shown, shown_at, nobody_shown}
use Rattle.pt_judge.proofs.judging.lives.Lives.shown.Goals as goal
use Rattle.pt_judge.proofs.judging.lives.Lives.shown.Goals.{then-place-len+in_ok-live_through, else-place-len}

pub invariant_of-result : goal.invariant_of-result
invariant_of-result c =
    let es = c.self.inside.list.items in
    let n = c.place_of-place.result in
    let h : n ≡ first_place (λ (life : Pid × Phase). same_pid c.args.pid life.0) es =
    c.place_of-place.ensures ∙ ap (first_place (λ (life : Pid × Phase). same_pid c.args.pid life.0)) (sym c.self.view_is)
    in
    elim c.if-place-len.branch [
      | then-place-len+in_ok-live_through w ↦
          c.self.invariant
          ∙ keys_shown c.args.pid c.args.event es n h w.index_mut.result.now w.live_through.new.self (omega (arith, w.if-place-len.true, c.len.ensures)) w.index_mut.ensures.value w.in_ok-live_through.ensures
          ∙ ap (λ v. keys_of v.items) (sym w.list-is)
      | else-place-len w ↦ c.self.invariant ∙ ap (λ v. keys_of v.items) (sym w.list-is)
    ]

pub returns : goal.returns
returns c =
    let es = c.self.inside.list.items in
    let n = c.place_of-place.result in
    let h : n ≡ first_place (λ (life : Pid × Phase). same_pid c.args.pid life.0) es =
    c.place_of-place.ensures ∙ ap (first_place (λ (life : Pid × Phase). same_pid c.args.pid life.0)) (sym c.self.view_is)
    in
    elim c.if-place-len.branch [
      | then-place-len+in_ok-live_through w ↦
          subst (λ (z : Start). ShownTo c.args.pid c.args.event z c.if-place-len.list.items) c.self.view_is
          (
          subst (λ v. ShownTo c.args.pid c.args.event es v.items) (sym w.list-is)
          (shown_at c.args.pid c.args.event es n h w.index_mut.result.now w.live_through.new.self (omega (arith, w.if-place-len.true, c.len.ensures)) w.index_mut.ensures.value w.in_ok-live_through.ensures)
          )
      | else-place-len w ↦
          subst (λ (z : Start). ShownTo c.args.pid c.args.event z c.if-place-len.list.items) c.self.view_is
          (
          subst (λ v. ShownTo c.args.pid c.args.event es v.items) (sym w.list-is)
          (nobody_shown c.args.pid c.args.event es n h (omega (arith, w.if-place-len.false, c.len.ensures)))
          )
    ]
