-- The laws of timers.
use Rattle.std.proofs.Common.{◌≡◌, ℕ, ◌<◌, ◌≤◌, cond, Bool, true, false, List, [], ◌∷◌, ◌++◌, Option, Some}
use Rattle.std.proofs.Common.{None, IsSome, refl, sym, ◌∙◌, ap, subst, arith}
use Rattle.std.specs.Ordering.{is_gt}
use Rattle.pt_timers.specs.declared.Timer.{Timer}
use Rattle.pt_timers.specs.declared.Fired.{Fired}
use Rattle.pt_timers.specs.Order.{timer_order, same_timer}
use Rattle.pt_timers.specs.State.{TimersState, body_of, IsPending}
use Rattle.pt_timers.specs.Laws.{Deed, start, cancel, fire, Fate, unknown, pending, fired, cancelled, fate_by, fate_of, Does}
use Rattle.pt_timers.specs.Laws.{Leads, body_as, StaysSo}

-- two names that are the same are one
pub same-is : (t u : Timer) → same_timer t u ≡ true → t ≡ u
same-is t u h =
    let timed : ℕ → Timer = λ x. record { at = x; number = t.number } in
    let numbered : ℕ → Timer = λ x. record { at = u.at; number = x } in
    let a : t.at ≡ u.at = grind arith in
    let n : t.number ≡ u.number = grind arith in
    ap timed a ∙ ap numbered n

unless : (b : Bool) → (b ≡ true → ⊥) → b ≡ false
unless true h = absurd (h refl)
unless false h = refl

module _ {T : Type 0} where
  body_as-cond : (b : Bool) (f g : Fate T) → body_as (cond b f g) ≡ cond b (body_as f) (body_as g)
  body_as-cond true f g = refl
  body_as-cond false f g = refl

  -- a deed changes what is pending as it changes the fates
  step : (deed : Deed T) (old new : TimersState T) (u : Timer) (f : Fate T) → Does deed old new
      → body_of old u ≡ body_as f → body_of new u ≡ body_as (fate_by u deed f)
  step (start t body) old new u f d e =
      d.pending u ∙ ap (cond (same_timer t u) (Some body)) e ∙ sym (body_as-cond (same_timer t u) (pending body) f)
  step (cancel t) old new u f d e =
      d.pending u ∙ ap (cond (same_timer t u) None) e ∙ sym (body_as-cond (same_timer t u) cancelled f)
  step (fire now x) old new u f d e =
      d.pending u ∙ ap (cond (same_timer x.timer u) None) e ∙ sym (body_as-cond (same_timer x.timer u) fired f)

  pub are_pending : (past : List (Deed T)) (s : TimersState T) → Leads past s
      → (t : Timer) → body_of s t ≡ body_as (fate_of t past)
  are_pending [] s none t = none.pending t
  are_pending (deed ∷ past) s (before, leads, does) t =
      step deed before s t (fate_of t past) does (are_pending past before leads t)

  is_known : Fate T → Bool
  is_known unknown = false
  is_known (pending body) = true
  is_known fired = true
  is_known cancelled = true

  unknown-from : (f : Fate T) → is_known f ≡ false → f ≡ unknown
  unfolding is_known
  unknown-from unknown h = refl
  unknown-from (pending body) h = cc
  unknown-from fired h = cc
  unknown-from cancelled h = cc

  -- the body of one that is pending, so it is known
  known-from : (f : Fate T) → IsSome (body_as f) → is_known f ≡ true
  unfolding is_known
  known-from (pending body) h = refl
  known-from unknown h = cc
  known-from fired h = cc
  known-from cancelled h = cc

  -- whichever fate it is of two
  by-cond : (P : Fate T → Type 0) (b : Bool) (f g : Fate T) → (b ≡ true → P f) → (b ≡ false → P g) → P (cond b f g)
  by-cond P true f g h k = h refl
  by-cond P false f g h k = k refl

  pending_known : (past : List (Deed T)) (s : TimersState T) → Leads past s → (t : Timer) → IsPending s t
      → is_known (fate_of t past) ≡ true
  pending_known past s leads t h = known-from (fate_of t past) (subst (λ o. IsSome o) (are_pending past s leads t) h)

  some-from : (o : Option T) (body : T) → o ≡ Some body → IsSome o
  some-from o body e = subst (λ x. IsSome x) (sym e) refl

  -- what is some body is not none
  apart : (o : Option T) → o ≡ None → IsSome o → ⊥
  apart o e h = cc

  -- whichever timer is known has a number below the next one
  known_below : (past : List (Deed T)) (s : TimersState T) → Leads past s
      → (u : Timer) → is_known (fate_of u past) ≡ true → u.number < s.started
  unfolding is_known
  known_below [] s leads u h = cc
  known_below (start t body ∷ past) s (before, leads, does) u h =
      by-cond (λ f. is_known f ≡ true → u.number < s.started) (same_timer t u) (pending body) (fate_of u past)
      (λ same k. let e : t ≡ u = same-is t u same in omega (arith, ap (λ x. x.number) e, ap (λ x. x.number) does.timer))
      (λ other k. let b : u.number < before.started = known_below past before leads u k in omega arith) h
  known_below (cancel t ∷ past) s (before, leads, does) u h =
      by-cond (λ f. is_known f ≡ true → u.number < s.started) (same_timer t u) cancelled (fate_of u past)
      (λ same k.
      let b : t.number < before.started = known_below past before leads t (pending_known past before leads t does.was) in
      omega (arith, ap (λ x. x.number) (same-is t u same)))
      (λ other k. let b : u.number < before.started = known_below past before leads u k in omega arith) h
  known_below (fire now x ∷ past) s (before, leads, does) u h =
      by-cond (λ f. is_known f ≡ true → u.number < s.started) (same_timer x.timer u) fired (fate_of u past)
      (λ same k.
      let p : IsPending before x.timer = some-from _ _ does.first.pending in
      let b : x.timer.number < before.started = known_below past before leads x.timer (pending_known past before leads x.timer p) in
      omega (arith, ap (λ x. x.number) (same-is x.timer u same)))
      (λ other k. let b : u.number < before.started = known_below past before leads u k in omega arith) h

  -- a deed leaves a timer that has fired or was cancelled as it is
  ended : (deed : Deed T) (old new : TimersState T) (u : Timer) (f : Fate T) → Does deed old new → body_of old u ≡ None
      → u.number < old.started → fate_by u deed f ≡ f
  ended (start t body) old new u f does none below =
      by-cond (λ x. x ≡ f) (same_timer t u) (pending body) f
      (λ same. absurd (omega (arith, ap (λ x. x.number) (same-is t u same), ap (λ x. x.number) does.timer)))
      (λ other. refl)
  ended (cancel t) old new u f does none below =
      by-cond (λ x. x ≡ f) (same_timer t u) cancelled f
      (λ same. absurd (apart (body_of old t) (ap (body_of old) (same-is t u same) ∙ none) does.was)) (λ other. refl)
  ended (fire now x) old new u f does none below =
      by-cond (λ x. x ≡ f) (same_timer x.timer u) fired f
      (λ same. absurd (apart (body_of old x.timer) (ap (body_of old) (same-is x.timer u same) ∙ none) (some-from _ _ does.first.pending)))
      (λ other. refl)

  stays : (f : Fate T) → StaysSo f f
  stays unknown = tt
  stays (pending body) = tt
  stays fired = refl
  stays cancelled = refl

  stays_by : (f g h : Fate T) → StaysSo f g → (g ≡ fired → h ≡ g) → (g ≡ cancelled → h ≡ g) → StaysSo f h
  stays_by unknown g h so fires cancels = tt
  stays_by (pending body) g h so fires cancels = tt
  stays_by fired g h so fires cancels = fires so ∙ so
  stays_by cancelled g h so fires cancels = cancels so ∙ so

  pub once : (past later : List (Deed T)) (s : TimersState T) → Leads (later ++ past) s
      → (t : Timer) → StaysSo (fate_of t past) (fate_of t (later ++ past))
  unfolding is_known
  once past [] s leads t = stays (fate_of t past)
  once past (deed ∷ later) s (before, leads, does) t =
      let g = fate_of t (later ++ past) in
      let is = are_pending (later ++ past) before leads t in
      let below = known_below (later ++ past) before leads t in
      stays_by (fate_of t past) g (fate_by t deed g) (once past later before leads t)
      (λ e. ended deed before s t g does (is ∙ ap body_as e) (below (ap is_known e)))
      (λ e. ended deed before s t g does (is ∙ ap body_as e) (below (ap is_known e)))

  pub is_new : (past : List (Deed T)) (s : TimersState T) (t : Timer) (body : T) → Leads (start t body ∷ past) s
      → fate_of t past ≡ unknown
  is_new past s t body (before, leads, does) =
      unknown-from (fate_of t past) (unless (is_known (fate_of t past))
      (λ known. let b : t.number < before.started = known_below past before leads t known in
      omega (arith, ap (λ x. x.number) does.timer)))

  pending-from : (f : Fate T) (body : T) → body_as f ≡ Some body → f ≡ pending body
  pending-from (pending x) body e = let same : x ≡ body = cc in ap pending same
  pending-from unknown body e = cc
  pending-from fired body e = cc
  pending-from cancelled body e = cc

  pub not_early : (past : List (Deed T)) (s : TimersState T) (now : ℕ) (f : Fired T) → Leads (fire now f ∷ past) s
      → (f.timer.at ≤ now) × (fate_of f.timer past ≡ pending f.body)
  not_early past s now f (before, leads, does) =
      (does.first.due, pending-from (fate_of f.timer past) f.body (sym (are_pending past before leads f.timer) ∙ does.first.pending))

  pub in_order : (past : List (Deed T)) (s : TimersState T) (now : ℕ) (f : Fired T) → Leads (fire now f ∷ past) s
      → (u : Timer) (body : T) → fate_of u past ≡ pending body → is_gt (timer_order f.timer u) ≡ false
  in_order past s now f (before, leads, does) u body e =
      does.first.first u (some-from _ body (are_pending past before leads u ∙ ap body_as e))
