-- Letters that stand by number: one more, the oldest of two processes, and without it.
use Rattle.std.proofs.Common.{◌≡◌, ℕ, ◌+◌, ◌<◌, ◌≤◌, nat_le, Bool, true, false, cond, ◌&&◌, ◌⊎◌, inl, inr, Some, None, List, [], ◌∷◌, ◌++◌, append-nil, drop, slice_get, refl, ap, ap₂, sym, ◌∙◌, subst, arith}
use Rattle.std.specs.Map.{lookup, values_of, remove_entry}
use Rattle.std.specs.List.{find}
use Rattle.std.specs.BTreeMap.{insert_entry, is_at}
use Rattle.std.specs.Ordering.{nat_cmp, is_eq}
use Rattle.std.specs.declared.cmp.Ordering.TheVariants.{Equal, Greater}
use Rattle.std.specs.Cmp.{nat_cmp_is}
use Rattle.std.proofs.lemmas.Bool.{both_ways, and_parts, leb-true, le-leb}
use Rattle.std.proofs.lemmas.List.{map-append}
use Rattle.pt_signal.specs.declared.pid.Pid.{Pid}
use Rattle.pt_signal.specs.Values.{same_pid, without_first}
use Rattle.pt_signal.specs.declared.signal.Signal.{Signal}
use Rattle.pt_signal.specs.Process.{Sent, sent}
use Rattle.pt_signal.proofs.Same.{same_pid_is, same_pid_refl}
use Rattle.pt_events.specs.History.{is_between}
use Rattle.pt_judge.specs.Filing.{Queued, is_pair, queue_of, IsQueued, numbers_of, is_rising, AreFiled}

-- one letter more ---------------------------------------------------------------------------

low_next : (es : List (ℕ × Sent)) (low next : ℕ) → is_rising low es next ≡ true → low ≤ next
low_next [] low next h = leb-true low next h
low_next (e ∷ es) low next h =
    let p = and_parts (nat_le low e.0) (is_rising (e.0 + 1) es next) h in
    omega (arith, leb-true low e.0 p.0, low_next es (e.0 + 1) next p.1)

pub pushed_last : (es : List (ℕ × Sent)) (low next : ℕ) (s : Sent) → is_rising low es next ≡ true → insert_entry nat_cmp es next s ≡ es ++ (next, s) ∷ []
pushed_last [] low next s h = refl
pushed_last (e ∷ es) low next s h =
    let p = and_parts (nat_le low e.0) (is_rising (e.0 + 1) es next) h in
    let below : e.0 < next = omega (arith, low_next es (e.0 + 1) next p.1) in
    let g : nat_cmp next e.0 ≡ Greater = sym (nat_cmp_is next e.0 Greater below) in
    rw g (ap (λ z. e ∷ z) (pushed_last es (e.0 + 1) next s p.1))

pub rising_pushed : (es : List (ℕ × Sent)) (low next : ℕ) (s : Sent) → is_rising low es next ≡ true → is_rising low (es ++ (next, s) ∷ []) (next + 1) ≡ true
rising_pushed [] low next s h = rw (h, le-leb (next + 1) (next + 1) (omega arith)) refl
rising_pushed (e ∷ es) low next s h =
    let p = and_parts (nat_le low e.0) (is_rising (e.0 + 1) es next) h in
    rw (p.0, rising_pushed es (e.0 + 1) next s p.1) refl

pub numbers_pushed : (a b : Pid) (es : List (ℕ × Sent)) (n : ℕ) (s : Sent) → numbers_of a b (es ++ (n, s) ∷ []) ≡ numbers_of a b es ++ cond (is_between a b s) (n ∷ []) []
numbers_pushed a b [] n s = refl
numbers_pushed a b (e ∷ es) n s = go (is_between a b e.1) refl (numbers_pushed a b es n s)
  where
    go : (c : Bool) → is_between a b e.1 ≡ c → numbers_of a b (es ++ (n, s) ∷ []) ≡ numbers_of a b es ++ cond (is_between a b s) (n ∷ []) []
        → numbers_of a b (e ∷ es ++ (n, s) ∷ []) ≡ numbers_of a b (e ∷ es) ++ cond (is_between a b s) (n ∷ []) []
    go true h ih = rw h (ap (λ z. e.0 ∷ z) ih)
    go false h ih = rw h ih

pub values_pushed : (es : List (ℕ × Sent)) (n : ℕ) (s : Sent) → values_of (es ++ (n, s) ∷ []) ≡ values_of es ++ s ∷ []
values_pushed es n s = map-append (λ (e : ℕ × Sent). e.1) es ((n, s) ∷ [])

-- none of the two ---------------------------------------------------------------------------

module _ (a b : Pid) where
  pub none_between : (es : List (ℕ × Sent)) → numbers_of a b es ≡ [] → (None ≡ find (is_between a b) (values_of es)) × (values_of es ≡ without_first (is_between a b) (values_of es))
  none_between [] h = (refl, refl)
  none_between (e ∷ es) h = go (is_between a b e.1) refl h (none_between es)
    where
      go : (c : Bool) → is_between a b e.1 ≡ c → numbers_of a b (e ∷ es) ≡ []
          → (numbers_of a b es ≡ [] → (None ≡ find (is_between a b) (values_of es)) × (values_of es ≡ without_first (is_between a b) (values_of es)))
          → (None ≡ find (is_between a b) (values_of (e ∷ es))) × (values_of (e ∷ es) ≡ without_first (is_between a b) (values_of (e ∷ es)))
      go true f k ih = let l : e.0 ∷ numbers_of a b es ≡ [] = rw f at k in absurd (cc)
      go false f k ih =
          let l : numbers_of a b es ≡ [] = rw f at k in
          let p = ih l in
          (rw f p.0, rw f (ap (λ z. e.1 ∷ z) p.1))

  -- the oldest of the two -------------------------------------------------------------------

  low_first : (es : List (ℕ × Sent)) (low next n : ℕ) (ns : List ℕ) → is_rising low es next ≡ true → numbers_of a b es ≡ n ∷ ns → low ≤ n
  low_first [] low next n ns h k = absurd (cc)
  low_first (e ∷ es) low next n ns h k = go (is_between a b e.1) refl k (and_parts (nat_le low e.0) (is_rising (e.0 + 1) es next) h) (low_first es (e.0 + 1) next n ns)
    where
      go : (c : Bool) → is_between a b e.1 ≡ c → numbers_of a b (e ∷ es) ≡ n ∷ ns → (nat_le low e.0 ≡ true) × (is_rising (e.0 + 1) es next ≡ true)
          → (is_rising (e.0 + 1) es next ≡ true → numbers_of a b es ≡ n ∷ ns → e.0 + 1 ≤ n) → low ≤ n
      go true f l p ih =
          let m : e.0 ∷ numbers_of a b es ≡ n ∷ ns = rw f at l in
          let o : e.0 ≡ n = cc in
          omega (arith, leb-true low e.0 p.0, o)
      go false f l p ih =
          let m : numbers_of a b es ≡ n ∷ ns = rw f at l in
          omega (arith, leb-true low e.0 p.0, ih p.1 m)

  -- the first letter is the oldest of the two, or it is not and stands before it
  abbrev Splits : ℕ × Sent → List (ℕ × Sent) → ℕ → List ℕ → Type 0
  Splits e es n ns =
      ((is_between a b e.1 ≡ true) × (is_at (nat_cmp n) e.0 ≡ true) × (numbers_of a b es ≡ ns))
      ⊎ ((is_between a b e.1 ≡ false) × (is_at (nat_cmp n) e.0 ≡ false) × (numbers_of a b es ≡ n ∷ ns))

  splits : (e : ℕ × Sent) (es : List (ℕ × Sent)) (next n : ℕ) (ns : List ℕ) → is_rising (e.0 + 1) es next ≡ true → numbers_of a b (e ∷ es) ≡ n ∷ ns → Splits e es n ns
  splits e es next n ns h k = go (is_between a b e.1) refl k
    where
      go : (c : Bool) → is_between a b e.1 ≡ c → numbers_of a b (e ∷ es) ≡ n ∷ ns → Splits e es n ns
      go true f l =
          let m : e.0 ∷ numbers_of a b es ≡ n ∷ ns = rw f at l in
          let o : n ≡ e.0 = cc in
          let rest : numbers_of a b es ≡ ns = cc in
          inl (f, ap is_eq (sym (nat_cmp_is n e.0 Equal o)), rest)
      go false f l =
          let m : numbers_of a b es ≡ n ∷ ns = rw f at l in
          inr (f, ap is_eq (sym (nat_cmp_is n e.0 Greater (omega (arith, low_first es (e.0 + 1) next n ns h m)))), m)

  pub found_first : (es : List (ℕ × Sent)) (low next n : ℕ) (ns : List ℕ) → is_rising low es next ≡ true → numbers_of a b es ≡ n ∷ ns
      → lookup (is_at (nat_cmp n)) es ≡ find (is_between a b) (values_of es)
  found_first [] low next n ns h k = absurd (cc)
  found_first (e ∷ es) low next n ns h k =
      let p = and_parts (nat_le low e.0) (is_rising (e.0 + 1) es next) h in
      elim (splits e es next n ns p.1 k) [
        | inl s ↦ rw (s.0, s.1) refl
        | inr s ↦ rw (s.0, s.1) (found_first es (e.0 + 1) next n ns p.1 s.2)
      ]

  pub taken_first : (es : List (ℕ × Sent)) (low next n : ℕ) (ns : List ℕ) → is_rising low es next ≡ true → numbers_of a b es ≡ n ∷ ns
      → values_of (remove_entry (is_at (nat_cmp n)) es) ≡ without_first (is_between a b) (values_of es)
  taken_first [] low next n ns h k = absurd (cc)
  taken_first (e ∷ es) low next n ns h k =
      let p = and_parts (nat_le low e.0) (is_rising (e.0 + 1) es next) h in
      elim (splits e es next n ns p.1 k) [
        | inl s ↦ rw (s.0, s.1) refl
        | inr s ↦ rw (s.0, s.1) (ap (λ z. e.1 ∷ z) (taken_first es (e.0 + 1) next n ns p.1 s.2))
      ]

  -- the numbers of any two, without the oldest of these
  abbrev Taken : Pid → Pid → List (ℕ × Sent) → ℕ → List ℕ → Type 0
  Taken p q es n ns = numbers_of p q (remove_entry (is_at (nat_cmp n)) es) ≡ cond (is_pair a b (p, q)) ns (numbers_of p q es)

  -- a letter is between one pair alone
  one_pair : (p q : Pid) (s : Sent) → is_between a b s ≡ true → is_pair a b (p, q) ≡ false → is_between p q s ≡ false
  one_pair p q s h k = go (is_between p q s) refl
    where
      go : (c : Bool) → is_between p q s ≡ c → is_between p q s ≡ false
      go false e = e
      go true e =
          let x = and_parts (same_pid a s.from) (same_pid b s.to) h in
          let y = and_parts (same_pid p s.from) (same_pid q s.to) e in
          let first : a ≡ p = same_pid_is a s.from x.0 ∙ sym (same_pid_is p s.from y.0) in
          let second : b ≡ q = same_pid_is b s.to x.1 ∙ sym (same_pid_is q s.to y.1) in
          let one : same_pid a p ≡ true = subst (λ z. same_pid a z ≡ true) first (same_pid_refl a) in
          let two : same_pid b q ≡ true = subst (λ z. same_pid b z ≡ true) second (same_pid_refl b) in
          let both : is_pair a b (p, q) ≡ true = rw (one, two) refl in
          absurd (both_ways (is_pair a b (p, q)) k both)

  same_between : (p q : Pid) (s : Sent) → is_pair a b (p, q) ≡ true → is_between p q s ≡ is_between a b s
  same_between p q s h =
      let x = and_parts (same_pid a p) (same_pid b q) h in
      sym (ap (λ z. is_between z b s) (same_pid_is a p x.0) ∙ ap (λ z. is_between p z s) (same_pid_is b q x.1))

  pub taken_numbers : (p q : Pid) (es : List (ℕ × Sent)) (low next n : ℕ) (ns : List ℕ) → is_rising low es next ≡ true → numbers_of a b es ≡ n ∷ ns → Taken p q es n ns
  taken_numbers p q [] low next n ns h k = absurd (cc)
  taken_numbers p q (e ∷ es) low next n ns h k =
      let r = and_parts (nat_le low e.0) (is_rising (e.0 + 1) es next) h in
      go r.1 (splits e es next n ns r.1 k) (is_pair a b (p, q)) refl (taken_numbers p q es (e.0 + 1) next n ns)
    where
      go : is_rising (e.0 + 1) es next ≡ true → Splits e es n ns → (c : Bool) → is_pair a b (p, q) ≡ c
          → (is_rising (e.0 + 1) es next ≡ true → numbers_of a b es ≡ n ∷ ns → Taken p q es n ns) → Taken p q (e ∷ es) n ns
      go r (inl s) true f ih =
          let x = and_parts (same_pid a p) (same_pid b q) f in
          let own : numbers_of p q es ≡ ns = sym (ap (λ z. numbers_of z b es) (same_pid_is a p x.0) ∙ ap (λ z. numbers_of p z es) (same_pid_is b q x.1)) ∙ s.2 in
          rw (s.1, f) own
      go r (inl s) false f ih = rw (s.1, f, one_pair p q e.1 s.0 f) refl
      go r (inr s) true f ih =
          let rest : numbers_of p q (remove_entry (is_at (nat_cmp n)) es) ≡ ns = ih r s.2 ∙ ap (λ c. cond c ns (numbers_of p q es)) f in
          rw (s.1, f, same_between p q e.1 f ∙ s.0) rest
      go r (inr s) false f ih =
          let rest : numbers_of p q (remove_entry (is_at (nat_cmp n)) es) ≡ numbers_of p q es = ih r s.2 ∙ ap (λ c. cond c ns (numbers_of p q es)) f in
          rw (s.1, f) (ap (λ z. cond (is_between p q e.1) (e.0 ∷ z) z) rest)

rising_lower : (es : List (ℕ × Sent)) (low high next : ℕ) → low ≤ high → is_rising high es next ≡ true → is_rising low es next ≡ true
rising_lower [] low high next l h = le-leb low next (omega (arith, l, leb-true high next h))
rising_lower (e ∷ es) low high next l h =
    let p = and_parts (nat_le high e.0) (is_rising (e.0 + 1) es next) h in
    rw (le-leb low e.0 (omega (arith, l, leb-true high e.0 p.0)), p.1) refl

pub rising_removed : (test : ℕ → Bool) (es : List (ℕ × Sent)) (low next : ℕ) → is_rising low es next ≡ true → is_rising low (remove_entry test es) next ≡ true
rising_removed test [] low next h = h
rising_removed test (e ∷ es) low next h = go (test e.0) refl (and_parts (nat_le low e.0) (is_rising (e.0 + 1) es next) h) (rising_removed test es (e.0 + 1) next)
  where
    go : (c : Bool) → test e.0 ≡ c → (nat_le low e.0 ≡ true) × (is_rising (e.0 + 1) es next ≡ true)
        → (is_rising (e.0 + 1) es next ≡ true → is_rising (e.0 + 1) (remove_entry test es) next ≡ true) → is_rising low (remove_entry test (e ∷ es)) next ≡ true
    go true f p ih = rw f (rising_lower es low (e.0 + 1) next (omega (arith, leb-true low e.0 p.0)) p.1)
    go false f p ih = rw (f, p.0, ih p.1) refl

-- what is kept --------------------------------------------------------------------------------

first_number : (xs : List ℕ) (n : ℕ) → Some n ≡ slice_get xs 0 → xs ≡ n ∷ drop 1 xs
first_number [] n h = absurd (cc)
first_number (x ∷ xs) n h = let e : n ≡ x = cc in rw e refl

no_number : (xs : List ℕ) → None ≡ slice_get xs 0 → xs ≡ []
no_number [] h = refl
no_number (x ∷ xs) h = absurd (cc)

pub first_value : (es : List (ℕ × Sent)) (n : ℕ) (s : Sent) → slice_get es 0 ≡ Some (n, s) → Some s ≡ slice_get (values_of es) 0
first_value [] n s h = absurd (cc)
first_value (e ∷ es) n s h = let k : e ≡ (n, s) = cc in ap (λ (z : ℕ × Sent). Some z.1) (sym k)

same_pid_turned : (p q : Pid) → same_pid p q ≡ same_pid q p
same_pid_turned p q = go (same_pid p q) refl (same_pid q p) refl
  where
    go : (c : Bool) → same_pid p q ≡ c → (d : Bool) → same_pid q p ≡ d → same_pid p q ≡ same_pid q p
    go true e true f = e ∙ sym f
    go false e false f = e ∙ sym f
    go true e false f = absurd (both_ways (same_pid q p) f (subst (λ z. same_pid z p ≡ true) (same_pid_is p q e) (same_pid_refl p)))
    go false e true f = absurd (both_ways (same_pid p q) e (subst (λ z. same_pid z q ≡ true) (same_pid_is q p f) (same_pid_refl q)))

module _ (es : List (ℕ × Sent)) (queued : Queued) (next : ℕ) (k : AreFiled es queued next) (a b : Pid) where
  oldest_of : (n : ℕ) → Some n ≡ slice_get (queue_of queued a b) 0 → numbers_of a b es ≡ n ∷ drop 1 (queue_of queued a b)
  oldest_of n h = sym (k.queues a b) ∙ first_number (queue_of queued a b) n h

  none_of : None ≡ slice_get (queue_of queued a b) 0 → numbers_of a b es ≡ []
  none_of h = sym (k.queues a b) ∙ no_number (queue_of queued a b) h

  pub found_oldest : (n : ℕ) → Some n ≡ slice_get (queue_of queued a b) 0 → lookup (is_at (nat_cmp n)) es ≡ find (is_between a b) (values_of es)
  found_oldest n h = found_first a b es 0 next n (drop 1 (queue_of queued a b)) k.rising (oldest_of n h)

  pub found_none : None ≡ slice_get (queue_of queued a b) 0 → None ≡ find (is_between a b) (values_of es)
  found_none h = (none_between a b es (none_of h)).0

  pub without_none : None ≡ slice_get (queue_of queued a b) 0 → values_of es ≡ without_first (is_between a b) (values_of es)
  without_none h = (none_between a b es (none_of h)).1

  module _ (n : ℕ) (h : Some n ≡ slice_get (queue_of queued a b) 0) (fs : List (ℕ × Sent)) (e : fs ≡ remove_entry (is_at (nat_cmp n)) es) where
    pub without_values : values_of fs ≡ without_first (is_between a b) (values_of es)
    without_values = ap values_of e ∙ taken_first a b es 0 next n (drop 1 (queue_of queued a b)) k.rising (oldest_of n h)

    pub without_filed : (left : Queued) → IsQueued a b (drop 1 (queue_of queued a b)) queued left → AreFiled fs left next
    without_filed left q = record {
      queues = λ c d.
          q c d
          ∙ ap (λ z. cond (is_pair a b (c, d)) (drop 1 (queue_of queued a b)) z) (k.queues c d)
          ∙ sym (taken_numbers a b c d es 0 next n (drop 1 (queue_of queued a b)) k.rising (oldest_of n h))
          ∙ ap (numbers_of c d) (sym e);
      rising = ap (λ z. is_rising 0 z next) e ∙ rising_removed (is_at (nat_cmp n)) es 0 next k.rising;
    }

  module _ (x : Signal) (fs : List (ℕ × Sent)) (e : fs ≡ insert_entry nat_cmp es next (sent a b x)) where
    last : fs ≡ es ++ (next, sent a b x) ∷ []
    last = e ∙ pushed_last es 0 next (sent a b x) k.rising

    pub with_values : values_of fs ≡ values_of es ++ sent a b x ∷ []
    with_values = ap values_of last ∙ values_pushed es next (sent a b x)

    own_between : (c d : Pid) → is_between c d (sent a b x) ≡ is_pair a b (c, d)
    own_between c d = ap₂ (λ y z. y && z) (same_pid_turned c a) (same_pid_turned d b)

    numbers_with : (c d : Pid) → numbers_of c d fs ≡ numbers_of c d es ++ cond (is_pair a b (c, d)) (next ∷ []) []
    numbers_with c d = ap (numbers_of c d) last ∙ numbers_pushed c d es next (sent a b x) ∙ ap (λ t. numbers_of c d es ++ cond t (next ∷ []) []) (own_between c d)

    pub with_filed : (more : Queued) (after : ℕ) → after ≡ next + 1 → IsQueued a b (queue_of queued a b ++ next ∷ []) queued more → AreFiled fs more after
    with_filed more after u q = record {
      queues = λ c d. q c d ∙ by c d (is_pair a b (c, d)) refl ∙ sym (numbers_with c d);
      rising = ap₂ (λ y z. is_rising 0 y z) last u ∙ rising_pushed es 0 next (sent a b x) k.rising;
    }
      where
        by : (c d : Pid) (t : Bool) → is_pair a b (c, d) ≡ t
            → cond (is_pair a b (c, d)) (queue_of queued a b ++ next ∷ []) (queue_of queued c d) ≡ numbers_of c d es ++ cond (is_pair a b (c, d)) (next ∷ []) []
        by c d false f = rw f (k.queues c d ∙ sym (append-nil (numbers_of c d es)))
        by c d true f =
            let y = and_parts (same_pid a c) (same_pid b d) f in
            let own : queue_of queued a b ≡ queue_of queued c d = ap (λ z. queue_of queued z b) (same_pid_is a c y.0) ∙ ap (λ z. queue_of queued c z) (same_pid_is b d y.1) in
            rw f (ap (λ z. z ++ next ∷ []) (own ∙ k.queues c d))
