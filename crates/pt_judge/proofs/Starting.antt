-- One process more in the table.
use Rattle.std.proofs.Common.{◌≡◌, Bool, true, false, cond, Some, is_some, [], ◌∷◌, ◌++◌, sym, ap, ◌∙◌, subst}
use Rattle.std.specs.Prelude.{not}
use Rattle.std.specs.Map.{lookup}
use Rattle.pt_signal.specs.declared.pid.Pid.{Pid}
use Rattle.pt_signal.specs.Values.{same_pid}
use Rattle.pt_events.specs.History.{Start, Phase, at_start, phase_or_unborn, is_unborn}
use Rattle.pt_judge.specs.Judging.{ListsBorn}
use Rattle.pt_judge.proofs.Lives.{lookup_push}

-- who was not born is not listed
pub not_listed : (lives : Start) (p : Pid) → ListsBorn lives → is_unborn (at_start lives p) ≡ true → is_some (lookup (same_pid p) lives) ≡ false
not_listed lives p lists h = lists p ∙ ap not h

-- one that was born is listed besides
pub lists_more : (lives : Start) (q : Pid) (f : Phase) → ListsBorn lives → is_unborn (at_start lives q) ≡ true → is_unborn f ≡ false → ListsBorn (lives ++ (q, f) ∷ [])
lists_more lives q f lists new born p = subst (λ o. is_some o ≡ not (is_unborn (phase_or_unborn o))) (sym (lookup_push lives p q f (not_listed lives q lists new))) (go (same_pid p q))
  where
    go : (b : Bool) → is_some (cond b (Some f) (lookup (same_pid p) lives)) ≡ not (is_unborn (phase_or_unborn (cond b (Some f) (lookup (same_pid p) lives))))
    go true = sym (ap not born)
    go false = lists p
