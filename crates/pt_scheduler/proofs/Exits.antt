-- The exits of a lawful journal: who is not born has none, and who has one has exited.
use Rattle.std.proofs.Common.{◌≡◌, ℕ, Bool, true, false, cond, List, [], ◌∷◌, ◌++◌, Option, Some, None, Ok, refl, sym, ap, subst, ◌∙◌}
use Rattle.pt_signal.specs.declared.pid.Pid.{Pid}
use Rattle.pt_signal.specs.declared.ids.LinkId.{LinkId}
use Rattle.pt_signal.specs.declared.reason.Reason.{Reason}
use Rattle.pt_signal.specs.Values.{same_pid}
use Rattle.pt_signal.proofs.Same.{same_pid_refl, same_pid_is}
use Rattle.pt_events.specs.declared.event.Event.{Event}
use Rattle.pt_events.specs.declared.event.Event.TheVariants.{Born, Said, Came, Took, Flag, Left, Refused}
use Rattle.pt_events.specs.declared.event.Stamped.{Stamped}
use Rattle.pt_events.specs.History.{Start, Phase, unborn, living, ended, after, is_ended, is_living, is_unborn, leaves, life}
use Rattle.pt_events.specs.Journal.{IsLocal, MayHere, events}
use Rattle.pt_events.proofs.Phases.{after_ended, was_unborn}
use Rattle.pt_shard.specs.ShardState.{ShardState, shard_after}
use Rattle.pt_shard.specs.Calls.{Bears}
use Rattle.pt_behaviour.proofs.Cases.{by_cases}
use Rattle.pt_scheduler.specs.Exits.{exit_by, exit_in}

-- a process that is not born has no exit in a lawful journal ------------------------------------

left_none : (q p : Pid) (before : Option Reason) (r : Reason) → same_pid q p ≡ false → before ≡ None → cond (same_pid q p) (Some r) before ≡ None
left_none q p before r other none = ap (λ b. cond b (Some r) before) other ∙ none

not_living : (f : Phase) → is_unborn f ≡ true → is_living f ≡ true → ⊥
not_living unborn a b = cc
not_living (living x) a b = cc
not_living (ended r x) a b = cc

module _ (start : Start) (low top number : ℕ) (p : Pid) where
  none_then : (s : Stamped) (journal : List Stamped) → MayHere start (events journal) s.event → is_unborn (life start (events journal) p) ≡ true → exit_in p journal ≡ None → (e : Event) → s.event ≡ e → exit_by p s.event (exit_in p journal) ≡ None
  none_then s journal may before none (Born q parent link) is = ap (λ (x : Event). exit_by p x (exit_in p journal)) is ∙ none
  none_then s journal may before none (Said a b x) is = ap (λ (y : Event). exit_by p y (exit_in p journal)) is ∙ none
  none_then s journal may before none (Came a b x) is = ap (λ (y : Event). exit_by p y (exit_in p journal)) is ∙ none
  none_then s journal may before none (Took q k i) is = ap (λ (y : Event). exit_by p y (exit_in p journal)) is ∙ none
  none_then s journal may before none (Flag q on) is = ap (λ (y : Event). exit_by p y (exit_in p journal)) is ∙ none
  none_then s journal may before none (Refused a b) is = ap (λ (y : Event). exit_by p y (exit_in p journal)) is ∙ none
  none_then s journal may before none (Left q r) is = ap (λ (y : Event). exit_by p y (exit_in p journal)) is ∙ by_cases (same_pid q p)
      (λ same.
      let here : MayHere start (events journal) (Left q r) = subst (λ (y : Event). MayHere start (events journal) y) is may in
      let lives : is_living (life start (events journal) p) ≡ true = ap (λ (x : Pid). is_living (life start (events journal) x)) (sym (same_pid_is q p same)) ∙ here in
      absurd (not_living (life start (events journal) p) before lives))
      (λ other. left_none q p (exit_in p journal) r other none)

  pub no_exit : (journal : List Stamped) → IsLocal start low top number journal → is_unborn (life start (events journal) p) ≡ true → exit_in p journal ≡ None
  no_exit [] local un = refl
  no_exit (s ∷ journal) local un =
      let before = was_unborn p s.event (life start (events journal) p) un in
      none_then s journal local.0.may before (no_exit journal local.1 before) s.event refl

-- nor had it one earlier
pub exit_before : (p : Pid) (e : Event) (before : Option Reason) → exit_by p e before ≡ None → before ≡ None
exit_before p (Born q parent link) before h = h
exit_before p (Said a b x) before h = h
exit_before p (Came a b x) before h = h
exit_before p (Took q k i) before h = h
exit_before p (Flag q on) before h = h
exit_before p (Refused a b) before h = h
exit_before p (Left q r) before h = go (same_pid q p) h
  where
    go : (b : Bool) → cond b (Some r) before ≡ None → before ≡ None
    go true h = absurd (cc)
    go false h = h

pub none_before : (p : Pid) (more seen : List Stamped) → exit_in p (more ++ seen) ≡ None → exit_in p seen ≡ None
none_before p [] seen h = h
none_before p (s ∷ more) seen h = none_before p more seen (exit_before p s.event (exit_in p (more ++ seen)) h)

-- whoever is born has no exit in the journal before
pub no_exit_born : (parent : Option Pid) (link : Option LinkId) (p : Pid) (d e : ShardState) → Bears parent link d (Ok p) e
    → IsLocal e.start e.config.start e.config.top_version e.number e.journal → exit_in p d.journal ≡ None
no_exit_born parent link p d e bears local = no_exit g.start g.config.start g.config.top_version g.number p d.journal lawful.1 (ap is_unborn lawful.0.may.0)
  where
    g : ShardState
    g = record (shard_after (Born p parent link) d) { vacant = e.vacant }

    lawful : IsLocal g.start g.config.start g.config.top_version g.number g.journal
    lawful = subst (λ (x : ShardState). IsLocal x.start x.config.start x.config.top_version x.number x.journal) bears.2 local

-- who has an exit in a lawful journal has exited ------------------------------------------------

still_ended : (p : Pid) (e : Event) (f : Phase) → is_ended f ≡ true → is_ended (after p e f) ≡ true
still_ended p e unborn h = absurd (cc)
still_ended p e (living s) h = absurd (cc)
still_ended p e (ended r s) h = ap is_ended (after_ended p e r s)

leaves_ended : (r : Reason) (f : Phase) → is_living f ≡ true → is_ended (leaves r f) ≡ true
leaves_ended r unborn h = absurd (cc)
leaves_ended r (living s) h = refl
leaves_ended r (ended q s) h = absurd (cc)

module _ (start : Start) (low top number : ℕ) (p : Pid) where
  ended_then : (journal : List Stamped) (e : Event) (r : Reason) → MayHere start (events journal) e
      → ((q : Reason) → exit_in p journal ≡ Some q → is_ended (life start (events journal) p) ≡ true)
      → exit_by p e (exit_in p journal) ≡ Some r → is_ended (after p e (life start (events journal) p)) ≡ true
  ended_then journal (Born q parent link) r may before h = still_ended p (Born q parent link) (life start (events journal) p) (before r h)
  ended_then journal (Said a b x) r may before h = still_ended p (Said a b x) (life start (events journal) p) (before r h)
  ended_then journal (Came a b x) r may before h = still_ended p (Came a b x) (life start (events journal) p) (before r h)
  ended_then journal (Took q k i) r may before h = still_ended p (Took q k i) (life start (events journal) p) (before r h)
  ended_then journal (Flag q on) r may before h = still_ended p (Flag q on) (life start (events journal) p) (before r h)
  ended_then journal (Refused a b) r may before h = still_ended p (Refused a b) (life start (events journal) p) (before r h)
  ended_then journal (Left q why) r may before h = by_cases (same_pid q p)
      (λ same.
      let is : q ≡ p = same_pid_is q p same in
      let touched : same_pid p q ≡ true = ap (λ (x : Pid). same_pid p x) is ∙ same_pid_refl p in
      let lives : is_living (life start (events journal) p) ≡ true = ap (λ (x : Pid). is_living (life start (events journal) x)) (sym is) ∙ may in
      ap (λ b. is_ended (cond b (leaves why (life start (events journal) p)) (life start (events journal) p))) touched
      ∙ leaves_ended why (life start (events journal) p) lives)
      (λ other. still_ended p (Left q why) (life start (events journal) p) (before r (sym (ap (λ b. cond b (Some why) (exit_in p journal)) other) ∙ h)))

  pub exit_ended : (journal : List Stamped) (r : Reason) → IsLocal start low top number journal → exit_in p journal ≡ Some r → is_ended (life start (events journal) p) ≡ true
  exit_ended [] r local h = absurd (cc)
  exit_ended (s ∷ journal) r local h = ended_then journal s.event r local.0.may (λ q k. exit_ended journal q local.1 k) h
