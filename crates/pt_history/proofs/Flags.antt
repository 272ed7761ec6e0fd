-- The trap flag is the last one that was set.
use Rattle.std.proofs.Common.{◌≡◌, Bool, true, false, cond, [], ◌∷◌, Option, Some, None, refl, ap, ◌∙◌}
use Rattle.std.specs.Option.{option_or}
use Rattle.std.specs.Map.{lookup}
use Rattle.std.proofs.lemmas.Bool.{false≢true}
use Rattle.pt_signal.specs.declared.pid.Pid.{Pid}
use Rattle.pt_signal.specs.declared.signal.Signal.{Signal}
use Rattle.pt_signal.specs.declared.signal.Signal.TheVariants.{LinkExit}
use Rattle.pt_events.specs.declared.event.Event.{Event}
use Rattle.pt_events.specs.declared.event.Event.TheVariants.{Born, Said, Came, Took, Flag, Left}
use Rattle.pt_signal.specs.Values.{same_pid, same_ref}
use Rattle.pt_signal.specs.Process.{ProcessState, verdict, held, holds_any, handle, say, or_else}
use Rattle.pt_events.specs.History.{Past, Start, Phase, unborn, living, ended, life, state, is_living, state_of, while_living}
use Rattle.pt_events.specs.Journal.{MayHere}
use Rattle.pt_laws.specs.Acts.{ActsMayCome}
use Rattle.pt_history.specs.Words.{flag_of, last_flag}
use Rattle.pt_signal.proofs.Same.{same_pid_is}
use Rattle.pt_events.proofs.Phases.{each_branch}
use Rattle.pt_events.proofs.Fields.{while_keeps, leaves_keeps, gets_keeps, obey_keeps, link_exit_keeps, down_keeps, born_keeps, say_keeps}

handle_traps : (p : Pid) (s : ProcessState) (a : Pid) (x : Signal) → (handle p s a x).state.traps ≡ s.traps
handle_traps p s a (Signal.Exit r) = obey_keeps (λ s. s.traps) (λ w s. refl) (verdict false s.traps (same_pid a p) a r) s
handle_traps p s a (LinkExit ids r) = link_exit_keeps (λ s. s.traps) (λ w s. refl) (λ l s. refl) (holds_any (held s.links a) ids) p s a r
handle_traps p s a (Signal.Down m r) = down_keeps (λ s. s.traps) (λ w s. refl) (λ l s. refl) (lookup (same_ref m) s.watching) s a m r
handle_traps p s a _ = refl

flagged : (b on : Bool) (f : Phase) → (b ≡ true → is_living f ≡ true)
    → (state_of (cond b (while_living (λ s. record s { traps = on }) f) f)).traps ≡ or_else (cond b (Some on) None) (state_of f).traps
flagged true on unborn h = absurd (false≢true (h refl))
flagged true on (living s) h = refl
flagged true on (ended r s) h = absurd (false≢true (h refl))
flagged false on f h = refl

module _ (start : Start) (p : Pid) where
  flag_step : (past : Past) (e : Event) → MayHere start past e → (state start (e ∷ past) p).traps ≡ or_else (flag_of p e) (state start past p).traps
  flag_step past (Born c parent link) h = born_keeps (λ s. s.traps) (λ l s. refl) p c parent link (life start past p)
  flag_step past (Said a b x) h = each_branch (λ g. (state_of g).traps ≡ (state start past p).traps) (same_pid p a) _ _ (while_keeps (λ s. s.traps) (λ s. say s b x) (say_keeps (λ s. s.traps) (λ l s. refl) (λ l s. refl) b x) (life start past p)) refl
  flag_step past (Came a b x) h = each_branch (λ g. (state_of g).traps ≡ (state start past p).traps) (same_pid p b) _ _ (gets_keeps (λ s. s.traps) p a x (λ s. handle_traps p s a x) (life start past p)) refl
  flag_step past (Took q k i) h = each_branch (λ g. (state_of g).traps ≡ (state start past p).traps) (same_pid p q) _ _ (while_keeps (λ s. s.traps) _ (λ s. refl) (life start past p)) refl
  flag_step past (Flag q on) h = flagged (same_pid p q) on (life start past p) (λ e. rw (same_pid_is p q e) h)
  flag_step past (Left q r) h = each_branch (λ g. (state_of g).traps ≡ (state start past p).traps) (same_pid p q) _ _ (leaves_keeps (λ s. s.traps) r (life start past p)) refl
  flag_step past _ h = refl

  or_else-or : (o n : Option Bool) (t : Bool) → or_else o (or_else n t) ≡ or_else (option_or o n) t
  or_else-or None n t = refl
  or_else-or (Some b) n t = refl

  pub trap_is_last_flag : (past : Past) → ActsMayCome start past → (state start past p).traps ≡ or_else (last_flag past p) (state start [] p).traps
  trap_is_last_flag [] h = refl
  trap_is_last_flag (e ∷ past) h = flag_step past e h.0 ∙ ap (or_else (flag_of p e)) (trap_is_last_flag past h.1) ∙ or_else-or (flag_of p e) (last_flag past p) _
