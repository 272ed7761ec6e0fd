-- `Flights::with_estate`: its contract.
use Rattle.std.proofs.Common.{◌≡◌, ◌++◌, ◌∙◌, map, List, ap, append_assoc}
use Rattle.pt_signal.specs.declared.pid.Pid.{Pid}
use Rattle.pt_signal.specs.declared.ids.Ids.{Ids}
use Rattle.pt_signal.specs.declared.ids.Ref.{Ref}
use Rattle.pt_signal.specs.declared.signal.Signal.{Signal}
use Rattle.pt_signal.specs.declared.signal.Signal.TheVariants.{LinkExit, Demonitor}
use Rattle.pt_signal.specs.Process.{sent}
use Rattle.pt_judge.proofs.judging.flights.Flights.with_estate.Goals as goal

pub returns : goal.returns
returns c =
    let me = c.args.me in
    let r = c.args.reason in
    let exits = λ (links : List (Pid × Ids)). map (λ e. sent me e.0 (LinkExit e.1 r)) links in
    let downs = λ (kept : List (Ref × Pid)). map (λ k. sent me k.1 (Signal.Down k.0 r)) kept in
    let demonitors = λ (watching : List (Ref × Pid)). map (λ m. sent me m.1 (Demonitor m.0)) watching in
    let s = c.args.held.now in
    let old = c.args.self in
    let a : c.in_ok-flights.flights ≡ old ++ exits s.links = c.in_ok-flights.ensures ∙ ap (λ z. old ++ exits z) c.links.ensures in
    let b : c.in_ok-flights-2.flights ≡ (old ++ exits s.links) ++ downs s.kept = c.in_ok-flights-2.ensures ∙ ap (λ z. z ++ downs c.kept.result.now) a ∙ ap (λ z. (old ++ exits s.links) ++ downs z) c.kept.ensures in
    let d : c.in_ok-with_demonitors.field-0 ≡ ((old ++ exits s.links) ++ downs s.kept) ++ demonitors s.watching =
    c.in_ok-with_demonitors.ensures ∙ ap (λ z. z ++ demonitors c.watching.result.now) b ∙ ap (λ z. ((old ++ exits s.links) ++ downs s.kept) ++ demonitors z) c.watching.ensures
    in
    d ∙ ap (λ z. z ++ demonitors s.watching) (append_assoc old (exits s.links) (downs s.kept)) ∙ append_assoc old (exits s.links ++ downs s.kept) (demonitors s.watching)
