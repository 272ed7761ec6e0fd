-- What one event does to a monitor: its letters, its kept watch, its open reference.
use Rattle.std.proofs.Common.{◌≡◌, ℕ, ◌+◌, ◌-◌, ◌≤◌, Bool, true, false, cond, ◌&&◌, List, ◌++◌, Option, Some, None, map, refl, sym, ap, ◌∙◌, subst, arith}
use Rattle.std.proofs.lemmas.Bool.{false≢true, and_right}
use Rattle.pt_signal.specs.declared.pid.Pid.{Pid}
use Rattle.pt_signal.specs.declared.ids.Ref.{Ref}
use Rattle.pt_signal.specs.declared.ids.Ids.{Ids}
use Rattle.pt_signal.specs.declared.reason.Reason.{Reason}
use Rattle.pt_signal.specs.declared.signal.Signal.{Signal}
use Rattle.pt_signal.specs.declared.signal.Signal.TheVariants.{Link, LinkExit, Monitor, Demonitor, AliveAsk, AliveSay}
use Rattle.pt_signal.specs.Values.{same_pid, same_ref}
use Rattle.pt_signal.specs.Process.{ProcessState, handle, same_watch, Sent, sent, estate, bounce}
use Rattle.pt_events.specs.History.{Phase, unborn, living, ended, gets, live_or_end, got_sends, end_sends, state_of}
use Rattle.pt_events.specs.Counting.{one_if, count}
use Rattle.pt_laws.specs.Watch.{is_monitor, is_demonitor, is_open, keeps, opens_to, open_in, kept_in}
use Rattle.pt_signal.proofs.Same.{same_pid_is, same_pid_refl}
use Rattle.pt_events.proofs.Handling.{living_answer, handle_answer}
use Rattle.pt_laws.proofs.monitoring.Counts.{carries, is_down, count-append, count-map, count-none, count_agree}
use Rattle.pt_laws.proofs.monitoring.Downs.{opens}
use Rattle.pt_laws.proofs.monitoring.Keeping.{kept_step, open_step}

-- letters of an end ------------------------------------------------------------------------------

module _ (a b : Pid) (test : Signal → Bool) where
  pub map_none : {X : Type 0} (f : X → Sent) → ((x : X) → test (f x).signal ≡ false) → (xs : List X) → count (carries a b test) (map f xs) ≡ 0
  map_none f h xs = count-map (carries a b test) f xs ∙ count-none (λ x. carries a b test (f x)) (λ x. and_right (same_pid a (f x).from && same_pid b (f x).to) (test (f x).signal) (h x)) xs

  pub estate_parts : (p : Pid) (s : ProcessState) (r : Reason) →
      count (carries a b test) (estate p s r)
      ≡ count (carries a b test) (map (λ (e : Pid × Ids). sent p e.0 (LinkExit e.1 r)) s.links)
      + count (carries a b test) (map (λ (k : Ref × Pid). sent p k.1 (Signal.Down k.0 r)) s.kept)
      + count (carries a b test) (map (λ (m : Ref × Pid). sent p m.1 (Demonitor m.0)) s.watching)
  estate_parts p s r =
      let x = count-append (carries a b test) (map (λ (e : Pid × Ids). sent p e.0 (LinkExit e.1 r)) s.links ++ map (λ (k : Ref × Pid). sent p k.1 (Signal.Down k.0 r)) s.kept) (map (λ (m : Ref × Pid). sent p m.1 (Demonitor m.0)) s.watching) in
      let y = count-append (carries a b test) (map (λ (e : Pid × Ids). sent p e.0 (LinkExit e.1 r)) s.links) (map (λ (k : Ref × Pid). sent p k.1 (Signal.Down k.0 r)) s.kept) in
      omega arith

-- what a live process answers does not carry
module _ (a b : Pid) (test : Signal → Bool) (not_said : (n : Ref) → test (AliveSay n true) ≡ false) where
  answer_none : (me c : Pid) (x : Signal) → count (carries a b test) (living_answer me c x) ≡ 0
  answer_none me c (AliveAsk n) = let z = and_right (same_pid a me && same_pid b c) (test (AliveSay n true)) (not_said n) in rw z refl
  answer_none me c _ = refl

  pub got_living : (s : ProcessState) (me c : Pid) (x : Signal)
      → count (carries a b test) (got_sends (living s) me c x) ≡ count (carries a b test) (end_sends me (handle me s c x).ending (handle me s c x).state)
  got_living s me c x =
      let h = count-append (carries a b test) (handle me s c x).answer (end_sends me (handle me s c x).ending (handle me s c x).state) in
      let k = ap (count (carries a b test)) (handle_answer me s c x) in
      let n = answer_none me c x in
      omega arith

and_cond : {X : Type 0} (b : Bool) (T : X → Bool) (xs : List X) → count (λ x. b && T x) xs ≡ cond b (count T xs) 0
and_cond true T xs = refl
and_cond false T xs = count-none (λ x. false) (λ x. refl) xs

and_assoc : (x y z : Bool) → ((x && y) && z) ≡ (x && (y && z))
and_assoc true y z = refl
and_assoc false y z = refl

pub and_comm : (x y : Bool) → (x && y) ≡ (y && x)
and_comm true true = refl
and_comm true false = refl
and_comm false true = refl
and_comm false false = refl

module _ (w t : Pid) (m : Ref) where
  pub estate_mon : (p : Pid) (s : ProcessState) (r : Reason) → count (carries w t (is_monitor m)) (estate p s r) ≡ 0
  estate_mon p s r =
      let e = estate_parts w t (is_monitor m) p s r in
      let x = map_none w t (is_monitor m) (λ (e : Pid × Ids). sent p e.0 (LinkExit e.1 r)) (λ x. refl) s.links in
      let y = map_none w t (is_monitor m) (λ (k : Ref × Pid). sent p k.1 (Signal.Down k.0 r)) (λ x. refl) s.kept in
      let z = map_none w t (is_monitor m) (λ (m : Ref × Pid). sent p m.1 (Demonitor m.0)) (λ x. refl) s.watching in
      omega arith

  pub estate_dem : (p : Pid) (s : ProcessState) (r : Reason) → count (carries w t (is_demonitor m)) (estate p s r) ≡ cond (same_pid w p) (opens_to m t s) 0
  estate_dem p s r =
      let e = estate_parts w t (is_demonitor m) p s r in
      let x = map_none w t (is_demonitor m) (λ (e : Pid × Ids). sent p e.0 (LinkExit e.1 r)) (λ x. refl) s.links in
      let y = map_none w t (is_demonitor m) (λ (k : Ref × Pid). sent p k.1 (Signal.Down k.0 r)) (λ x. refl) s.kept in
      let z = count-map (carries w t (is_demonitor m)) (λ (m : Ref × Pid). sent p m.1 (Demonitor m.0)) s.watching in
      let v = count_agree (λ (k : Ref × Pid). (same_pid w p && same_pid t k.1) && same_ref m k.0) (λ k. same_pid w p && is_open m t k) (λ k. and_assoc (same_pid w p) (same_pid t k.1) (same_ref m k.0)) s.watching in
      let u = and_cond (same_pid w p) (is_open m t) s.watching in
      omega arith

  pub estate_down : (p : Pid) (s : ProcessState) (r : Reason) → count (carries t w (is_down m)) (estate p s r) ≡ cond (same_pid t p) (keeps m w s) 0
  estate_down p s r =
      let e = estate_parts t w (is_down m) p s r in
      let x = map_none t w (is_down m) (λ (e : Pid × Ids). sent p e.0 (LinkExit e.1 r)) (λ x. refl) s.links in
      let y = count-map (carries t w (is_down m)) (λ (k : Ref × Pid). sent p k.1 (Signal.Down k.0 r)) s.kept in
      let z = map_none t w (is_down m) (λ (m : Ref × Pid). sent p m.1 (Demonitor m.0)) (λ x. refl) s.watching in
      let v = count_agree (λ (k : Ref × Pid). (same_pid t p && same_pid w k.1) && same_ref m k.0) (λ k. same_pid t p && same_watch m w k)
      (λ k. and_assoc (same_pid t p) (same_pid w k.1) (same_ref m k.0) ∙ ap (λ z. same_pid t p && z) (and_comm (same_pid w k.1) (same_ref m k.0))) s.kept in
      let u = and_cond (same_pid t p) (same_watch m w) s.kept in
      omega arith

  -- letters that go back -----------------------------------------------------------------------------

  bounce_mon : (b a : Pid) (x : Signal) → count (carries w t (is_monitor m)) (bounce b a x) ≡ 0
  bounce_mon b a (Link i) = let z = and_right (same_pid w b && same_pid t a) false refl in rw z refl
  bounce_mon b a (Monitor n) = let z = and_right (same_pid w b && same_pid t a) false refl in rw z refl
  bounce_mon b a (AliveAsk n) = let z = and_right (same_pid w b && same_pid t a) false refl in rw z refl
  bounce_mon b a _ = refl

  bounce_dem : (b a : Pid) (x : Signal) → count (carries w t (is_demonitor m)) (bounce b a x) ≡ 0
  bounce_dem b a (Link i) = let z = and_right (same_pid w b && same_pid t a) false refl in rw z refl
  bounce_dem b a (Monitor n) = let z = and_right (same_pid w b && same_pid t a) false refl in rw z refl
  bounce_dem b a (AliveAsk n) = let z = and_right (same_pid w b && same_pid t a) false refl in rw z refl
  bounce_dem b a _ = refl

  no_count : (b : Bool) → 0 ≡ one_if (b && false)
  no_count true = refl
  no_count false = refl

  bounce_down : (b a : Pid) (x : Signal) → count (carries t w (is_down m)) (bounce b a x) ≡ one_if ((same_pid w a && same_pid t b) && is_monitor m x)
  bounce_down b a (Link i) = let z = and_right (same_pid t b && same_pid w a) false refl in rw z (no_count _)
  bounce_down b a (Monitor n) = let z = and_comm (same_pid t b) (same_pid w a) in rw z (omega arith)
  bounce_down b a (AliveAsk n) = let z = and_right (same_pid t b && same_pid w a) false refl in rw z (no_count _)
  bounce_down b a _ = no_count _

  -- an open reference and a kept watch of a live process -----------------------------------------------

  ended_mon : (b : Pid) (o : Option Reason) (s : ProcessState) → count (carries w t (is_monitor m)) (end_sends b o s) ≡ 0
  ended_mon b None s = refl
  ended_mon b (Some r) s = estate_mon b s r

  pub got_mon : (f : Phase) (b a : Pid) (x : Signal) → count (carries w t (is_monitor m)) (got_sends f b a x) ≡ 0
  got_mon unborn b a x = bounce_mon b a x
  got_mon (living s) b a x = got_living w t (is_monitor m) (λ n. refl) s b a x ∙ ended_mon b (handle b s a x).ending (handle b s a x).state
  got_mon (ended r s) b a x = bounce_mon b a x

  -- the end of w, or its staying
  open_end : (b : Pid) (o : Option Reason) (s : ProcessState) → same_pid w b ≡ true → open_in w t m (live_or_end o s) + count (carries w t (is_demonitor m)) (end_sends b o s) ≡ opens_to m t s
  open_end b None s e = omega arith
  open_end b (Some r) s e = let h = estate_dem b s r in let k : cond (same_pid w b) (opens_to m t s) 0 ≡ opens_to m t s = rw e refl in omega arith

  open_not : (b : Pid) (o : Option Reason) (s : ProcessState) → same_pid w b ≡ false → count (carries w t (is_demonitor m)) (end_sends b o s) ≡ 0
  open_not b None s e = refl
  open_not b (Some r) s e = estate_dem b s r ∙ rw e refl

  kept_end : (b : Pid) (o : Option Reason) (s : ProcessState) → same_pid t b ≡ true → kept_in w t m (live_or_end o s) + count (carries t w (is_down m)) (end_sends b o s) ≡ keeps m w s
  kept_end b None s e = omega arith
  kept_end b (Some r) s e = let h = estate_down b s r in let k : cond (same_pid t b) (keeps m w s) 0 ≡ keeps m w s = rw e refl in omega arith

  kept_not : (b : Pid) (o : Option Reason) (s : ProcessState) → same_pid t b ≡ false → count (carries t w (is_down m)) (end_sends b o s) ≡ 0
  kept_not b None s e = refl
  kept_not b (Some r) s e = estate_down b s r ∙ rw e refl

  -- a receipt at the one who keeps ------------------------------------------------------------------------

  pub record TSide (k k2 d2 π κ : ℕ) : Type 0 where
    pub up : k2 + d2 ≤ k + π
    pub stay : (π ≡ 1 → k ≡ 0) → k + π ≤ k2 + d2 + κ
    pub off : κ ≡ 1 → k2 + d2 ≤ k - 1

  t_none : (k k2 d2 π κ : ℕ) → k2 ≡ k → d2 ≡ 0 → π ≡ 0 → κ ≡ 0 → TSide k k2 d2 π κ
  t_none k k2 d2 π κ e1 e2 e3 e4 = record { up = omega arith; stay = λ z. omega arith; off = λ z. omega arith }

  pair_true : (c d y : Bool) → d ≡ true → one_if ((c && d) && y) ≡ one_if (c && y)
  pair_true true d y e = rw e refl
  pair_true false d y e = refl

  pair_false : (c d y : Bool) → d ≡ false → one_if ((c && d) && y) ≡ 0
  pair_false true d y e = rw e refl
  pair_false false d y e = refl

  -- no Demonitor of the pair, where a Monitor or nothing goes back
  not_both : (c : Bool) (x : Signal) → one_if (c && is_monitor m x) + one_if (c && is_demonitor m x) ≤ 1
  not_both false x = omega arith
  not_both true (Monitor n) = go (same_ref m n)
    where
      go : (b : Bool) → one_if b + 0 ≤ 1
      go true = omega arith
      go false = omega arith
  not_both true (Demonitor n) = go (same_ref m n)
    where
      go : (b : Bool) → 0 + one_if b ≤ 1
      go true = omega arith
      go false = omega arith
  not_both true _ = omega arith

  got_down_off : (f : Phase) (b a : Pid) (x : Signal) → same_pid t b ≡ false → count (carries t w (is_down m)) (got_sends f b a x) ≡ 0
  got_down_off unborn b a x e = bounce_down b a x ∙ pair_false (same_pid w a) (same_pid t b) (is_monitor m x) e
  got_down_off (living s) b a x e = got_living t w (is_down m) (λ n. refl) s b a x ∙ kept_not b (handle b s a x).ending (handle b s a x).state e
  got_down_off (ended r s) b a x e = bounce_down b a x ∙ pair_false (same_pid w a) (same_pid t b) (is_monitor m x) e

  t_same : (a : Pid) (x : Signal) (f : Phase)
      → TSide (kept_in w t m f) (kept_in w t m (gets t a x f)) (count (carries t w (is_down m)) (got_sends f t a x)) (one_if ((same_pid w a && same_pid t t) && is_monitor m x)) (one_if ((same_pid w a && same_pid t t) && is_demonitor m x))
  t_same a x unborn =
      let d = bounce_down t a x in let n = not_both (same_pid w a && same_pid t t) x in
      record { up = omega arith; stay = λ z. omega arith; off = λ z. omega arith }
  t_same a x (ended r s) =
      let d = bounce_down t a x in let n = not_both (same_pid w a && same_pid t t) x in
      record { up = omega arith; stay = λ z. omega arith; off = λ z. omega arith }
  t_same a x (living s) =
      let h = kept_step m w t s a x in
      let g = got_living t w (is_down m) (λ n. refl) s t a x in
      let e = kept_end t (handle t s a x).ending (handle t s a x).state (same_pid_refl t) in
      let p = pair_true (same_pid w a) (same_pid t t) (is_monitor m x) (same_pid_refl t) in
      let q = pair_true (same_pid w a) (same_pid t t) (is_demonitor m x) (same_pid_refl t) in
      let u = h.up in
      record { up = omega arith; stay = λ z. let v = h.stay (λ y. z (p ∙ y)) in omega arith; off = λ z. let v = h.off (sym q ∙ z) in omega arith }

  pub t_side : (a b : Pid) (x : Signal) (life : Pid → Phase)
      → TSide (kept_in w t m (life t)) (kept_in w t m (cond (same_pid t b) (gets t a x (life t)) (life t))) (count (carries t w (is_down m)) (got_sends (life b) b a x))
      (one_if ((same_pid w a && same_pid t b) && is_monitor m x)) (one_if ((same_pid w a && same_pid t b) && is_demonitor m x))
  t_side a b x life = go (same_pid t b) refl
    where
      G : Pid → Bool → Type 0
      G b c = TSide (kept_in w t m (life t)) (kept_in w t m (cond c (gets t a x (life t)) (life t))) (count (carries t w (is_down m)) (got_sends (life b) b a x))
          (one_if ((same_pid w a && same_pid t b) && is_monitor m x)) (one_if ((same_pid w a && same_pid t b) && is_demonitor m x))

      go : (c : Bool) → same_pid t b ≡ c → G b (same_pid t b)
      go true e = subst (λ c. G b c) (sym e) (subst (λ b. G b true) (same_pid_is t b e) (t_same a x (life t)))
      go false e = subst (λ c. G b c) (sym e) (t_none _ _ _ _ _ refl (got_down_off (life b) b a x e) (pair_false (same_pid w a) (same_pid t b) (is_monitor m x) e) (pair_false (same_pid w a) (same_pid t b) (is_demonitor m x) e))

  -- a receipt at the one who watches ---------------------------------------------------------------------------

  pub record WSide (o o2 q2 total : ℕ) (isdown : Bool) : Type 0 where
    pub less : o2 + q2 ≤ o
    pub same : isdown ≡ false → o2 + q2 ≡ o
    pub closed : isdown ≡ true → total ≤ 1 → o2 + q2 ≡ 0

  got_dem_off : (f : Phase) (b a : Pid) (x : Signal) → same_pid w b ≡ false → count (carries w t (is_demonitor m)) (got_sends f b a x) ≡ 0
  got_dem_off unborn b a x e = bounce_dem b a x
  got_dem_off (living s) b a x e = got_living w t (is_demonitor m) (λ n. refl) s b a x ∙ open_not b (handle b s a x).ending (handle b s a x).state e
  got_dem_off (ended r s) b a x e = bounce_dem b a x

  w_same : (a : Pid) (x : Signal) (f : Phase)
      → WSide (open_in w t m f) (open_in w t m (gets w a x f)) (count (carries w t (is_demonitor m)) (got_sends f w a x)) (opens m (state_of f).watching) (is_down m x)
  w_same a x unborn = let d = bounce_dem w a x in record { less = omega arith; same = λ z. omega arith; closed = λ z k. omega arith }
  w_same a x (ended r s) = let d = bounce_dem w a x in record { less = omega arith; same = λ z. omega arith; closed = λ z k. omega arith }
  w_same a x (living s) =
      let h = open_step m t w s a x in
      let g = got_living w t (is_demonitor m) (λ n. refl) s w a x in
      let e = open_end w (handle w s a x).ending (handle w s a x).state (same_pid_refl w) in
      let u = h.less in
      record { less = omega arith; same = λ z. let v = h.same z in omega arith; closed = λ z k. let v = h.closed z k in omega arith }

  pub w_side : (a b : Pid) (x : Signal) (life : Pid → Phase)
      → WSide (open_in w t m (life w)) (open_in w t m (cond (same_pid w b) (gets w a x (life w)) (life w))) (count (carries w t (is_demonitor m)) (got_sends (life b) b a x))
      (opens m (state_of (life w)).watching) (same_pid w b && is_down m x)
  w_side a b x life = go (same_pid w b) refl
    where
      G : Pid → Bool → Type 0
      G b c = WSide (open_in w t m (life w)) (open_in w t m (cond c (gets w a x (life w)) (life w))) (count (carries w t (is_demonitor m)) (got_sends (life b) b a x))
          (opens m (state_of (life w)).watching) (c && is_down m x)

      go : (c : Bool) → same_pid w b ≡ c → G b (same_pid w b)
      go true e = subst (λ c. G b c) (sym e) (subst (λ b. G b true) (same_pid_is w b e) (w_same a x (life w)))
      go false e = subst (λ c. G b c) (sym e) (let d = got_dem_off (life b) b a x e in record { less = omega arith; same = λ z. omega arith; closed = λ z k. absurd (false≢true z) })
