-- The invariant of monitors over legal histories, and what it says of quiet ones.
use Rattle.std.proofs.Common.{◌≡◌, ℕ, zero, suc, ◌+◌, ◌-◌, ◌≤◌, Bool, true, false, cond, ◌&&◌, ◌⊎◌, inl, inr, List, [], ◌∷◌, ◌++◌, Option, Some, refl, sym, ap, ◌∙◌, subst, subst₂, append-nil, arith}
use Rattle.std.specs.Prelude.{⊤}
use Rattle.std.proofs.lemmas.Bool.{false≢true, both_ways, and_parts, and_right, or_parts}
use Rattle.std.specs.List.{find}
use Rattle.pt_signal.specs.declared.pid.Pid.{Pid}
use Rattle.pt_signal.specs.declared.ids.Ref.{Ref}
use Rattle.pt_signal.specs.declared.ids.LinkId.{LinkId}
use Rattle.pt_signal.specs.declared.reason.Reason.{Reason}
use Rattle.pt_signal.specs.declared.signal.Signal.{Signal}
use Rattle.pt_signal.specs.declared.signal.Signal.TheVariants.{Monitor, Demonitor}
use Rattle.pt_events.specs.declared.event.Event.{Event}
use Rattle.pt_events.specs.declared.event.Event.TheVariants.{Born, Said, Came, Took, Flag, Left}
use Rattle.pt_signal.specs.Values.{same_pid, same_ref, without_first}
use Rattle.pt_signal.specs.Process.{ProcessState, say, Sent, sent}
use Rattle.pt_events.specs.History.{Past, Start, Phase, unborn, living, ended, life, state, state_of, is_living, is_between, flying, landed, got_sends, left_sends, linked, newborn, while_living, leaves, touches, made_ref, makes_ref, MaySay, IsLegal}
use Rattle.pt_laws.specs.Acts.{ActsMayCome}
use Rattle.pt_events.specs.Counting.{one_if, count}
use Rattle.pt_laws.specs.Watch.{is_monitor, is_demonitor, says, said_times, says_to, said_to, keeps, opens_to, open_in, kept_in}
use Rattle.pt_signal.proofs.Same.{same_pid_is, same_pid_refl, same_ref_is}
use Rattle.pt_events.proofs.Phases.{each_branch}
use Rattle.pt_events.proofs.Fields.{linked_keeps, say_keeps}
use Rattle.pt_laws.proofs.monitoring.Counts.{carries, is_down, count-append, count-landed, count_less}
use Rattle.pt_laws.proofs.monitoring.Downs.{opens, count_law}
use Rattle.pt_laws.proofs.living.Acts.{legal_acts}
use Rattle.pt_laws.proofs.monitoring.Keeping.{say_step}
use Rattle.pt_laws.proofs.monitoring.Watching.{got_mon, t_side, w_side, estate_mon, estate_dem, estate_down}

-- a reference is said at most once ---------------------------------------------------------------

module _ (m : Ref) (w : Pid) where
  unsaid : (past : Past) → made_ref past m ≡ false → said_times w (is_monitor m) past ≡ 0
  unsaid [] h = refl
  unsaid (e ∷ past) h = let q = or_parts (makes_ref m e) (made_ref past m) h in let ih = unsaid past q.1 in let k = none e q.0 in omega arith
    where
      none : (e : Event) → makes_ref m e ≡ false → says w (is_monitor m) e ≡ 0
      none (Said a b (Monitor n)) h = rw (and_right (same_pid w a) (same_ref m n) h) refl
      none (Said a b _) h = rw (and_right (same_pid w a) false refl) refl
      none _ h = refl

  pub said_once : (start : Start) (past : Past) → ActsMayCome start past → said_times w (is_monitor m) past ≤ 1
  said_once start [] h = omega arith
  said_once start (Said a b x ∷ past) h = go (same_pid w a && is_monitor m x) refl (said_once start past h.1)
    where
      zero_before : (x : Signal) → is_monitor m x ≡ true → MaySay start past (state start past a) a b x → said_times w (is_monitor m) past ≡ 0
      zero_before (Monitor n) e k = unsaid past (rw (same_ref_is m n e) k.0)
      zero_before _ e k = absurd (false≢true e)

      go : (c : Bool) → (same_pid w a && is_monitor m x) ≡ c → said_times w (is_monitor m) past ≤ 1 → said_times w (is_monitor m) past + one_if (same_pid w a && is_monitor m x) ≤ 1
      go true e ih = let z = zero_before x (and_parts (same_pid w a) (is_monitor m x) e).1 h.0.1 in rw e (omega arith)
      go false e ih = rw e (omega arith)
  said_once start (_ ∷ past) h = let ih = said_once start past h.1 in omega arith

  says_one : (t : Pid) (e : Event) → says_to w t (is_monitor m) e ≤ says w (is_monitor m) e
  says_one t (Said a b x) = go (same_pid w a) (same_pid t b) (is_monitor m x)
    where
      go : (c d y : Bool) → one_if ((c && d) && y) ≤ one_if (c && y)
      go true true y = omega arith
      go true false y = omega arith
      go false d y = omega arith
  says_one t _ = omega arith

  pub said_to_one : (t : Pid) (past : Past) → said_to w t (is_monitor m) past ≤ said_times w (is_monitor m) past
  said_to_one t [] = omega arith
  said_to_one t (e ∷ past) = let a = said_to_one t past in let b = says_one t e in omega arith

  says_two : (t c : Pid) → same_pid t c ≡ false → (e : Event) → says_to w t (is_monitor m) e + says_to w c (is_monitor m) e ≤ says w (is_monitor m) e
  says_two t c n (Said a b x) = go (same_pid w a) (same_pid t b) refl (same_pid c b) refl (is_monitor m x)
    where
      go : (f d : Bool) → same_pid t b ≡ d → (g : Bool) → same_pid c b ≡ g → (y : Bool) → one_if ((f && d) && y) + one_if ((f && g) && y) ≤ one_if (f && y)
      go false d p g q y = omega arith
      go true true p true q y =
          let z : t ≡ c = same_pid_is t b p ∙ sym (same_pid_is c b q) in
          let v : same_pid t c ≡ true = rw z (same_pid_refl c) in absurd (both_ways _ n v)
      go true true p false q y = omega arith
      go true false p g q y = one g y
        where
          one : (g y : Bool) → 0 + one_if (g && y) ≤ one_if y
          one true y = omega arith
          one false y = omega arith
  says_two t c n _ = omega arith

  pub said_to_two : (t c : Pid) → same_pid t c ≡ false → (past : Past) → said_to w t (is_monitor m) past + said_to w c (is_monitor m) past ≤ said_times w (is_monitor m) past
  said_to_two t c n [] = omega arith
  said_to_two t c n (e ∷ past) = let a = said_to_two t c n past in let b = says_two t c n e in omega arith

-- the order of a Monitor and its Demonitor ---------------------------------------------------------

module _ (w t : Pid) (m : Ref) where
  abbrev pub mon : Sent → Bool
  mon = carries w t (is_monitor m)

  abbrev pub dem : Sent → Bool
  dem = carries w t (is_demonitor m)

  abbrev pub dwn : Sent → Bool
  dwn = carries t w (is_down m)

  -- behind a Demonitor stands no Monitor
  abbrev pub Ordered : List Sent → Type 0
  Ordered [] = ⊤
  Ordered (l ∷ ls) = (dem l ≡ true → count mon ls ≡ 0) × Ordered ls

  ordered_none : (ls : List Sent) → count mon ls ≡ 0 → Ordered ls
  ordered_none [] h = tt
  ordered_none (l ∷ ls) h = let k : count mon ls ≡ 0 = omega arith in (λ e. k, ordered_none ls k)

  ordered_drop : (P : Sent → Bool) (ls : List Sent) → Ordered ls → Ordered (without_first P ls)
  ordered_drop P [] h = tt
  ordered_drop P (l ∷ ls) h = go (P l) (ordered_drop P ls h.1)
    where
      go : (b : Bool) → Ordered (without_first P ls) → Ordered (cond b ls (l ∷ without_first P ls))
      go true ih = h.1
      go false ih = (λ e. let k = h.0 e in let c = count_less mon P ls in omega arith, ih)

  -- letters without a Monitor join
  ordered_quiet : (xs ys : List Sent) → Ordered xs → count mon ys ≡ 0 → Ordered (xs ++ ys)
  ordered_quiet [] ys h k = ordered_none ys k
  ordered_quiet (x ∷ xs) ys h k = (λ e. let a = h.0 e in let c = count-append mon xs ys in omega arith, ordered_quiet xs ys h.1 k)

  -- a letter joins where no Demonitor is
  ordered_new : (xs : List Sent) (l : Sent) → count dem xs ≡ 0 → Ordered xs → Ordered (xs ++ l ∷ [])
  ordered_new [] l k h = (λ e. refl, tt)
  ordered_new (x ∷ xs) l k h = go (dem x) refl k (ordered_new xs l)
    where
      go : (b : Bool) → dem x ≡ b → one_if (dem x) + count dem xs ≡ 0 → (count dem xs ≡ 0 → Ordered xs → Ordered (xs ++ l ∷ [])) → Ordered (x ∷ xs ++ l ∷ [])
      go true e k ih = let z : 1 + count dem xs ≡ 0 = rw e at k in absurd (omega arith)
      go false e k ih = let z : 0 + count dem xs ≡ 0 = rw e at k in (λ f. absurd (both_ways _ e f), ih (omega arith) h.1)

  not_monitor : (x : Signal) → is_demonitor m x ≡ true → is_monitor m x ≡ false
  not_monitor (Demonitor n) h = refl
  not_monitor (Monitor n) h = absurd (false≢true h)
  not_monitor _ h = refl

  -- where the oldest of the pair is the Demonitor, no Monitor is there
  ordered_first : (x : Signal) → is_demonitor m x ≡ true → (ls : List Sent) → Ordered ls → find (is_between w t) ls ≡ Some (sent w t x) → count mon ls ≡ 0
  ordered_first x d [] h f = refl
  ordered_first x d (l ∷ ls) h f = go (is_between w t l) refl f (ordered_first x d ls h.1)
    where
      go : (b : Bool) → is_between w t l ≡ b → find (is_between w t) (l ∷ ls) ≡ Some (sent w t x) → (find (is_between w t) ls ≡ Some (sent w t x) → count mon ls ≡ 0) → count mon (l ∷ ls) ≡ 0
      go true e f ih =
          let k : Some l ≡ Some (sent w t x) = rw e at f in
          let k2 : l ≡ sent w t x = cc in
          let k3 : l.signal ≡ x = ap (λ z. z.signal) k2 in
          let a : dem l ≡ true = rw (e, k3) d in
          let c = h.0 a in
          let v : mon l ≡ false = rw (e, k3) (not_monitor x d) in
          rw v (omega arith)
      go false e f ih =
          let k : find (is_between w t) ls ≡ Some (sent w t x) = rw e at f in
          let c = ih k in
          let v : mon l ≡ false = rw e refl in
          rw v (omega arith)

  -- the invariant -------------------------------------------------------------------------------------

  -- P Monitors, D Downs, Q Demonitors in flight; K times kept, O times open; M times said
  pub record Inv (P K D O Q M : ℕ) : Type 0 where
    pub tokens : P + K + D ≤ M
    pub opened : O ≤ P + K + D
    pub maker : O + Q ≤ M
    pub justified : P + K ≤ O + Q

  abbrev pub P_of : Past → ℕ
  P_of past = count mon (flying [] past)

  abbrev pub Q_of : Past → ℕ
  Q_of past = count dem (flying [] past)

  abbrev pub D_of : Past → ℕ
  D_of past = count dwn (flying [] past)

  abbrev pub K_of : Past → ℕ
  K_of past = kept_in w t m (life [] past t)

  abbrev pub O_of : Past → ℕ
  O_of past = open_in w t m (life [] past w)

  abbrev pub M_of : Past → ℕ
  M_of past = said_to w t (is_monitor m) past

  pub record Monitored (past : Past) : Type 0 where
    pub counts : Inv (P_of past) (K_of past) (D_of past) (O_of past) (Q_of past) (M_of past)
    pub ordered : Ordered (flying [] past)

  -- where nothing changes but letters that join
  same_inv : (P K D O Q M P2 K2 D2 O2 Q2 M2 : ℕ) → Inv P K D O Q M → P2 ≡ P → K2 ≡ K → D2 ≡ D → O2 ≡ O → Q2 ≡ Q → M2 ≡ M → Inv P2 K2 D2 O2 Q2 M2
  same_inv P K D O Q M P2 K2 D2 O2 Q2 M2 h e1 e2 e3 e4 e5 e6 =
      let a = h.tokens in let b = h.opened in let c = h.maker in let d = h.justified in
      record { tokens = omega arith; opened = omega arith; maker = omega arith; justified = omega arith }

  -- an event that sends nothing, and neither opens nor ends a monitor of theirs
  silent : (past after : Past) → flying [] after ≡ flying [] past ++ [] → M_of after ≡ M_of past → K_of after ≡ K_of past → O_of after ≡ O_of past → Monitored past → Monitored after
  silent past after none said k o h =
      let same : flying [] after ≡ flying [] past = none ∙ append-nil (flying [] past) in
      record {
        counts = same_inv _ _ _ _ _ _ _ _ _ _ _ _ h.counts (ap (count mon) same) k (ap (count dwn) same) o (ap (count dem) same) said;
        ordered = subst Ordered (sym same) h.ordered;
      }

  -- a Said
  said_inv : (P K D O Q M O2 μ δ : ℕ) → Inv P K D O Q M → O2 + δ ≡ O + μ → Inv (P + μ) K D O2 (Q + δ) (M + μ)
  said_inv P K D O Q M O2 μ δ h e =
      let a = h.tokens in let b = h.opened in let c = h.maker in let d = h.justified in
      record { tokens = omega arith; opened = omega arith; maker = omega arith; justified = omega arith }

  -- an end
  end_inv : (P K D O Q M K2 O2 d q : ℕ) → Inv P K D O Q M → K2 + d ≡ K → O2 + q ≡ O → Inv P K2 (D + d) O2 (Q + q) M
  end_inv P K D O Q M K2 O2 d q h e f =
      let a = h.tokens in let b = h.opened in let c = h.maker in let z = h.justified in
      record { tokens = omega arith; opened = omega arith; maker = omega arith; justified = omega arith }

  -- a receipt; π, κ and γ say whether it is the Monitor, the Demonitor or the Down of the pair
  came_inv : (P K D O Q M P1 D1 Q1 K2 O2 d q π κ γ : ℕ) → Inv P K D O Q M → M ≤ 1 → P1 + π ≡ P → Q1 + κ ≡ Q → D1 + γ ≡ D
      → K2 + d ≤ K + π → ((π ≡ 1 → K ≡ 0) → K + π ≤ K2 + d + κ) → (κ ≡ 1 → K2 + d ≤ K - 1) → (κ ≡ 1 → P ≡ 0) → κ ≤ 1
      → ((O2 + q ≡ O) × (γ ≡ 0)) ⊎ ((O2 + q ≡ 0) × (P + K ≡ 0))
      → Inv P1 K2 (D1 + d) O2 (Q1 + q) M
  came_inv P K D O Q M P1 D1 Q1 K2 O2 d q π κ γ h one p1 q1 d1 up stay off first_off k1 (inl (same, none)) =
      let a = h.tokens in let b = h.opened in let c = h.maker in let z = h.justified in
      let st : K + π ≤ K2 + d + κ = stay (λ e. omega arith) in
      by_kappa h st κ refl
    where
      by_kappa : Inv P K D O Q M → K + π ≤ K2 + d + κ → (k : ℕ) → κ ≡ k → Inv P1 K2 (D1 + d) O2 (Q1 + q) M
      by_kappa h st zero e = let a = h.tokens in let b = h.opened in let c = h.maker in let z = h.justified in record { tokens = omega arith; opened = omega arith; maker = omega arith; justified = omega arith }
      by_kappa h st (suc k) e =
          let a = h.tokens in let b = h.opened in let c = h.maker in let z = h.justified in
          let u : κ ≡ 1 = omega arith in let v = off u in let y = first_off u in
          record { tokens = omega arith; opened = omega arith; maker = omega arith; justified = omega arith }
  came_inv P K D O Q M P1 D1 Q1 K2 O2 d q π κ γ h one p1 q1 d1 up stay off first_off k1 (inr (gone, none)) =
      let a = h.tokens in let b = h.opened in let c = h.maker in let z = h.justified in
      record { tokens = omega arith; opened = omega arith; maker = omega arith; justified = omega arith }

-- phases where nothing of a monitor changes -------------------------------------------------------------

not_down : (start : Start) (past : Past) (s : ProcessState) (a b : Pid) (m : Ref) (x : Signal) → MaySay start past s a b x → is_down m x ≡ false
not_down start past s a b m (Signal.Down n r) h = absurd h
not_down start past s a b m _ h = refl

module _ (m : Ref) (w t : Pid) where
  kept_while : (step : ProcessState → ProcessState) → ((s : ProcessState) → (step s).kept ≡ s.kept) → (f : Phase) → kept_in w t m (while_living step f) ≡ kept_in w t m f
  kept_while step h unborn = refl
  kept_while step h (living s) = ap (count _) (h s)
  kept_while step h (ended r s) = refl

  open_while : (step : ProcessState → ProcessState) → ((s : ProcessState) → (step s).watching ≡ s.watching) → (f : Phase) → open_in w t m (while_living step f) ≡ open_in w t m f
  open_while step h unborn = refl
  open_while step h (living s) = ap (count _) (h s)
  open_while step h (ended r s) = refl

  kept_born : (q : Option Pid) (i : Option LinkId) (f : Phase) → kept_in w t m (newborn q i f) ≡ kept_in w t m f
  kept_born q i unborn = ap (count _) (linked_keeps (λ s. s.kept) (λ l s. refl) q i _)
  kept_born q i (living s) = refl
  kept_born q i (ended r s) = refl

  open_born : (q : Option Pid) (i : Option LinkId) (f : Phase) → open_in w t m (newborn q i f) ≡ open_in w t m f
  open_born q i unborn = ap (count _) (linked_keeps (λ s. s.watching) (λ l s. refl) q i _)
  open_born q i (living s) = refl
  open_born q i (ended r s) = refl

  -- the sayer
  open_said : (past : Past) (b : Pid) (x : Signal) (f : Phase) (c : Bool) → (c ≡ true → is_living f ≡ true) → (c ≡ true → MaySay [] past (state_of f) w b x)
      → open_in w t m (cond c (while_living (λ s. say s b x) f) f) + one_if ((c && same_pid t b) && is_demonitor m x) ≡ open_in w t m f + one_if ((c && same_pid t b) && is_monitor m x)
  open_said past b x f false l h = refl
  open_said past b x unborn true l h = absurd (false≢true (l refl))
  open_said past b x (living s) true l h = say_step m t [] past s w b x (h refl)
  open_said past b x (ended r s) true l h = absurd (false≢true (l refl))

  -- the one who leaves
  left_mon : (f : Phase) (p : Pid) (r : Reason) → count (mon w t m) (left_sends f p r) ≡ 0
  left_mon unborn p r = refl
  left_mon (living s) p r = estate_mon w t m p s r
  left_mon (ended e s) p r = refl

  left_open : (at : Pid → Phase) (p : Pid) (r : Reason) (c : Bool) → same_pid w p ≡ c → open_in w t m (cond c (leaves r (at w)) (at w)) + count (dem w t m) (left_sends (at p) p r) ≡ open_in w t m (at w)
  left_open at p r true e = subst (λ p. same_pid w p ≡ true → open_in w t m (leaves r (at w)) + count (dem w t m) (left_sends (at p) p r) ≡ open_in w t m (at w)) (same_pid_is w p e) (λ e. same (at w) e) e
    where
      same : (f : Phase) → same_pid w w ≡ true → open_in w t m (leaves r f) + count (dem w t m) (left_sends f w r) ≡ open_in w t m f
      same unborn e = refl
      same (living s) e = let h = estate_dem w t m w s r in let k : cond (same_pid w w) (opens_to m t s) 0 ≡ opens_to m t s = rw e refl in omega arith
      same (ended v s) e = refl
  left_open at p r false e = off (at p)
    where
      off : (f : Phase) → open_in w t m (at w) + count (dem w t m) (left_sends f p r) ≡ open_in w t m (at w)
      off unborn = omega arith
      off (living s) = let h = estate_dem w t m p s r in let k : cond (same_pid w p) (opens_to m t s) 0 ≡ 0 = rw e refl in omega arith
      off (ended v s) = omega arith

  left_kept : (at : Pid → Phase) (p : Pid) (r : Reason) (c : Bool) → same_pid t p ≡ c → kept_in w t m (cond c (leaves r (at t)) (at t)) + count (dwn w t m) (left_sends (at p) p r) ≡ kept_in w t m (at t)
  left_kept at p r true e = subst (λ p. same_pid t p ≡ true → kept_in w t m (leaves r (at t)) + count (dwn w t m) (left_sends (at p) p r) ≡ kept_in w t m (at t)) (same_pid_is t p e) (λ e. same (at t) e) e
    where
      same : (f : Phase) → same_pid t t ≡ true → kept_in w t m (leaves r f) + count (dwn w t m) (left_sends f t r) ≡ kept_in w t m f
      same unborn e = refl
      same (living s) e = let h = estate_down w t m t s r in let k : cond (same_pid t t) (keeps m w s) 0 ≡ keeps m w s = rw e refl in omega arith
      same (ended v s) e = refl
  left_kept at p r false e = off (at p)
    where
      off : (f : Phase) → kept_in w t m (at t) + count (dwn w t m) (left_sends f p r) ≡ kept_in w t m (at t)
      off unborn = omega arith
      off (living s) = let h = estate_down w t m p s r in let k : cond (same_pid t p) (keeps m w s) 0 ≡ 0 = rw e refl in omega arith
      off (ended v s) = omega arith

-- the invariant holds ------------------------------------------------------------------------------------------

one_true : (b : Bool) → one_if b ≡ 1 → b ≡ true
one_true true h = refl
one_true false h = absurd (omega arith)

one_le : (b : Bool) → one_if b ≤ 1
one_le true = omega arith
one_le false = omega arith

module _ (m : Ref) where
  fresh_said : (past : Past) (s : ProcessState) (a b : Pid) (x : Signal) → MaySay [] past s a b x → is_monitor m x ≡ true → made_ref past m ≡ false
  fresh_said past s a b (Monitor n) k e = rw (same_ref_is m n e) k.0
  fresh_said past s a b _ k e = absurd (false≢true e)

  -- a receipt
  came_step : (past : Past) (a b : Pid) (x : Signal) → find (is_between a b) (flying [] past) ≡ Some (sent a b x) → IsLegal [] past
      → ((w t : Pid) → Monitored w t m past) → (w t : Pid) → Monitored w t m (Came a b x ∷ past)
  came_step past a b x f legal ih w t = record {
    counts = same_inv w t m _ _ _ _ _ _ _ _ _ _ _ _ joined joined_p refl joined_d refl joined_q (omega arith);
    ordered = ordered_quiet w t m (landed (Came a b x) (flying [] past)) new (ordered_drop w t m (is_between a b) (flying [] past) here.ordered) (got_mon w t m (life [] past b) b a x);
  }
    where
      here : Monitored w t m past
      here = ih w t

      new : List Sent
      new = got_sends (life [] past b) b a x

      rest : List Sent
      rest = landed (Came a b x) (flying [] past)

      said : said_times w (is_monitor m) past ≤ 1
      said = said_once m w [] past (legal_acts [] past legal)

      once : M_of w t m past ≤ 1
      once = let u = said_to_one m w t past in let v = said in omega arith

      few : opens m (state_of (life [] past w)).watching ≤ 1
      few = let c = count_law [] m w past (legal_acts [] past legal) in let v = said in omega arith

      p1 : count (mon w t m) rest + one_if ((same_pid w a && same_pid t b) && is_monitor m x) ≡ P_of w t m past
      p1 = count-landed (mon w t m) (is_between a b) (flying [] past) (sent a b x) f

      q1 : count (dem w t m) rest + one_if ((same_pid w a && same_pid t b) && is_demonitor m x) ≡ Q_of w t m past
      q1 = count-landed (dem w t m) (is_between a b) (flying [] past) (sent a b x) f

      d1 : count (dwn w t m) rest + one_if ((same_pid t a && same_pid w b) && is_down m x) ≡ D_of w t m past
      d1 = count-landed (dwn w t m) (is_between a b) (flying [] past) (sent a b x) f

      first_off : one_if ((same_pid w a && same_pid t b) && is_demonitor m x) ≡ 1 → P_of w t m past ≡ 0
      first_off e =
          let z = and_parts (same_pid w a && same_pid t b) (is_demonitor m x) (one_true _ e) in
          let y = and_parts (same_pid w a) (same_pid t b) z.0 in
          let g : find (is_between w t) (flying [] past) ≡ Some (sent w t x) = subst₂ (λ a b. find (is_between a b) (flying [] past) ≡ Some (sent a b x)) (sym (same_pid_is w a y.0)) (sym (same_pid_is t b y.1)) f in
          ordered_first w t m x z.1 (flying [] past) here.ordered g

      no_tokens : (same_pid w b && is_down m x) ≡ true → (c : Bool) → same_pid t a ≡ c → P_of w t m past + K_of w t m past ≡ 0
      no_tokens e true g =
          let z = and_parts (same_pid w b) (is_down m x) e in
          let u : one_if ((same_pid t a && same_pid w b) && is_down m x) ≡ 1 = rw (g, z.0, z.1) refl in
          let v = d1 in let y = here.counts.tokens in let o = once in omega arith
      no_tokens e false g =
          let z = and_parts (same_pid w b) (is_down m x) e in
          let there = ih w a in
          let u : one_if ((same_pid a a && same_pid w b) && is_down m x) ≡ 1 = rw (same_pid_refl a, z.0, z.1) refl in
          let v = count-landed (dwn w a m) (is_between a b) (flying [] past) (sent a b x) f in
          let y = there.counts.tokens in
          let k = said_to_two m w t a g past in let o = said in let i = here.counts.tokens in omega arith

      no_down : (same_pid w b && is_down m x) ≡ false → (c : Bool) → same_pid t a ≡ c → one_if ((same_pid t a && same_pid w b) && is_down m x) ≡ 0
      no_down e true g = rw (g, e) refl
      no_down e false g = rw g refl

      Side : Type 0
      Side = ((open_in w t m (life [] (Came a b x ∷ past) w) + count (dem w t m) new ≡ O_of w t m past) × (one_if ((same_pid t a && same_pid w b) && is_down m x) ≡ 0))
          ⊎ ((open_in w t m (life [] (Came a b x ∷ past) w) + count (dem w t m) new ≡ 0) × (P_of w t m past + K_of w t m past ≡ 0))

      side : (c : Bool) → (same_pid w b && is_down m x) ≡ c → Side
      side true e = inr ((w_side w t m a b x (life [] past)).closed e few, no_tokens e (same_pid t a) refl)
      side false e = inl ((w_side w t m a b x (life [] past)).same e, no_down e (same_pid t a) refl)

      joined : Inv w t m (count (mon w t m) rest) (kept_in w t m (life [] (Came a b x ∷ past) t)) (count (dwn w t m) rest + count (dwn w t m) new)
          (open_in w t m (life [] (Came a b x ∷ past) w)) (count (dem w t m) rest + count (dem w t m) new) (M_of w t m past)
      joined =
          let ts = t_side w t m a b x (life [] past) in
          came_inv w t m _ _ _ _ _ _ _ _ _ _ _ _ _ _ _ _ here.counts once p1 q1 d1 ts.up ts.stay ts.off first_off (one_le _) (side (same_pid w b && is_down m x) refl)

      joined_p : count (mon w t m) (rest ++ new) ≡ count (mon w t m) rest
      joined_p = let c = count-append (mon w t m) rest new in let d = got_mon w t m (life [] past b) b a x in omega arith

      joined_d : count (dwn w t m) (rest ++ new) ≡ count (dwn w t m) rest + count (dwn w t m) new
      joined_d = count-append (dwn w t m) rest new

      joined_q : count (dem w t m) (rest ++ new) ≡ count (dem w t m) rest + count (dem w t m) new
      joined_q = count-append (dem w t m) rest new

  pub monitored : (past : Past) → IsLegal [] past → (w t : Pid) → Monitored w t m past
  monitored [] h w t = record { counts = record { tokens = omega arith; opened = omega arith; maker = omega arith; justified = omega arith }; ordered = tt }
  monitored (Said a b x ∷ past) h w t =
      let ih = monitored past h.1 w t in
      let may = λ (e : same_pid w a ≡ true). subst (λ a. MaySay [] past (state [] past a) a b x) (sym (same_pid_is w a e)) h.0.1 in
      let o = open_said m w t past b x (life [] past w) (same_pid w a) (λ e. rw (same_pid_is w a e) h.0.0) may in
      let k = each_branch (λ f. kept_in w t m f ≡ K_of w t m past) (same_pid t a) _ _ (kept_while m w t (λ s. say s b x) (say_keeps (λ s. s.kept) (λ l s. refl) (λ l s. refl) b x) (life [] past t)) refl in
      let p = count-append (mon w t m) (flying [] past) (sent a b x ∷ []) in
      let q = count-append (dem w t m) (flying [] past) (sent a b x ∷ []) in
      let d = count-append (dwn w t m) (flying [] past) (sent a b x ∷ []) in
      let nd : one_if (dwn w t m (sent a b x)) ≡ 0 = ap one_if (and_right (same_pid t a && same_pid w b) (is_down m x) (not_down [] past (state [] past a) a b m x h.0.1)) in
      let base = said_inv w t m _ _ _ _ _ _ _ _ _ ih.counts o in
      record {
        counts = same_inv w t m _ _ _ _ _ _ _ _ _ _ _ _ base (omega arith) k (omega arith) refl (omega arith) refl;
        ordered = new_letter (mon w t m (sent a b x)) refl ih;
      }
    where
      fresh_m : mon w t m (sent a b x) ≡ true → M_of w t m past ≡ 0
      fresh_m e =
          let u = unsaid m w past (fresh_said past (state [] past a) a b x h.0.1 (and_parts (same_pid w a && same_pid t b) (is_monitor m x) e).1) in
          let v = said_to_one m w t past in omega arith

      new_letter : (c : Bool) → mon w t m (sent a b x) ≡ c → Monitored w t m past → Ordered w t m (flying [] past ++ sent a b x ∷ [])
      new_letter true e ih = let z = fresh_m e in let y = ih.counts.maker in ordered_new w t m (flying [] past) (sent a b x) (omega arith) ih.ordered
      new_letter false e ih = ordered_quiet w t m (flying [] past) (sent a b x ∷ []) ih.ordered (rw e refl)
  monitored (Came a b x ∷ past) h w t = came_step past a b x h.0 h.1 (monitored past h.1) w t
  monitored (Left r y ∷ past) h w t =
      let ih = monitored past h.1 w t in
      let o = left_open m w t (life [] past) r y (same_pid w r) refl in
      let k = left_kept m w t (life [] past) r y (same_pid t r) refl in
      let new = left_sends (life [] past r) r y in
      let p = count-append (mon w t m) (flying [] past) new in
      let q = count-append (dem w t m) (flying [] past) new in
      let d = count-append (dwn w t m) (flying [] past) new in
      let n = left_mon m w t (life [] past r) r y in
      record {
        counts = same_inv w t m _ _ _ _ _ _ _ _ _ _ _ _ (end_inv w t m _ _ _ _ _ _ _ _ _ _ ih.counts k o) (omega arith) refl d refl q (omega arith);
        ordered = ordered_quiet w t m (flying [] past) new ih.ordered n;
      }
  monitored (Born c parent link ∷ past) h w t =
      let ih = monitored past h.1 w t in
      let o = each_branch (λ f. open_in w t m f ≡ O_of w t m past) (touches w (Born c parent link)) _ _
      (each_branch (λ f. open_in w t m f ≡ O_of w t m past) (same_pid w c) _ _ (open_born m w t parent link (life [] past w)) (open_while m w t (linked (Some c) link) (linked_keeps (λ s. s.watching) (λ l s. refl) (Some c) link) (life [] past w))) refl in
      let k = each_branch (λ f. kept_in w t m f ≡ K_of w t m past) (touches t (Born c parent link)) _ _
      (each_branch (λ f. kept_in w t m f ≡ K_of w t m past) (same_pid t c) _ _ (kept_born m w t parent link (life [] past t)) (kept_while m w t (linked (Some c) link) (linked_keeps (λ s. s.kept) (λ l s. refl) (Some c) link) (life [] past t))) refl in
      silent w t m past _ refl (omega arith) k o ih
  monitored (Took c j i ∷ past) h w t =
      let ih = monitored past h.1 w t in
      let o = each_branch (λ f. open_in w t m f ≡ O_of w t m past) (same_pid w c) _ _ (open_while m w t _ (λ s. refl) (life [] past w)) refl in
      let k = each_branch (λ f. kept_in w t m f ≡ K_of w t m past) (same_pid t c) _ _ (kept_while m w t _ (λ s. refl) (life [] past t)) refl in
      silent w t m past _ refl (omega arith) k o ih
  monitored (Flag c on ∷ past) h w t =
      let ih = monitored past h.1 w t in
      let o = each_branch (λ f. open_in w t m f ≡ O_of w t m past) (same_pid w c) _ _ (open_while m w t _ (λ s. refl) (life [] past w)) refl in
      let k = each_branch (λ f. kept_in w t m f ≡ K_of w t m past) (same_pid t c) _ _ (kept_while m w t _ (λ s. refl) (life [] past t)) refl in
      silent w t m past _ refl (omega arith) k o ih
  monitored (e ∷ past) h w t =
      let ih = monitored past h.1 w t in
      let o : open_in w t m (life [] (e ∷ past) w) ≡ O_of w t m past = refl in
      let k : kept_in w t m (life [] (e ∷ past) t) ≡ K_of w t m past = refl in
      silent w t m past _ refl (omega arith) k o ih
