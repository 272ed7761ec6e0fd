-- `Lives::with`: the invariant of `result`.
use Rattle.std.proofs.Common.{◌≡◌, ◌∙◌, sym, ap, subst, is_some, false}
use Rattle.std.specs.Map.{lookup, keys_of}
use Rattle.indexmap.specs.IndexSet.{insert_key}
use Rattle.pt_signal.specs.declared.pid.Pid.{Pid}
use Rattle.pt_signal.specs.Values.{same_pid}
use Rattle.pt_events.specs.History.{Start, Phase}
use Rattle.pt_judge.proofs.Lives.{one_listed}
use Rattle.pt_judge.proofs.judging.lives.Lives.with.Goals as goal

pub invariant_of-result : goal.invariant_of-result
invariant_of-result c =
    let keys = c.self.inside.pids.keys in
    let es = c.self.inside.list.items in
    let absent : is_some (lookup (same_pid c.args.life.0) es) ≡ false = subst (λ (z : Start). is_some (lookup (same_pid c.args.life.0) z) ≡ false) (sym c.self.view_is) c.requires in
    c.in_ok-insert.ensures.keys
    ∙ ap (λ (l : Pid × Phase). insert_key same_pid keys l.0) c.life.view_is
    ∙ one_listed keys es c.args.life c.self.invariant absent
    ∙ ap keys_of (sym c.in_ok-push.ensures.items)
