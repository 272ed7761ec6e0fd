-- The merge, event by event.
use Rattle.std.proofs.Common.{◌≡◌, ◌⊎◌, ℕ, zero, suc, ◌+◌, ◌<◌, Bool, true, false, ◌==◌, Some, List, [], ◌∷◌, ◌++◌, drop, reverse, length, refl, sym, ap, ◌∙◌, subst, ⊎_elim, inl, inr, append_assoc, append-nil, arith}
use Rattle.std.proofs.lemmas.Bool.{eq-eqb, ne_eqb, both_ways, eqb-true, leb-true, ltb-true, cases_eq, and_parts, or_cases}
use Rattle.std.proofs.lemmas.List.{reverse-append, reverse-reverse}
use Rattle.pt_events.specs.declared.event.Stamped.{Stamped}
use Rattle.pt_judge.specs.declared.merging.Seat.{Seat}
use Rattle.pt_events.specs.JournalState.{IsInOrder}
use Rattle.pt_events.specs.Journal.{of_desk, IsAfter, AllBefore, IsRising, IsMerge}
use Rattle.pt_judge.specs.Merging.{Given, journal_of, HasNone, AreApart}
use Rattle.pt_judge.specs.Race.{AreInOrder, desk_at, past_at, events_at, taken_at, left_at, head_of, key_of, leads, TakesFrom}
use Rattle.pt_events.proofs.InOrder.{older_in_order}

-- journals of different desks ---------------------------------------------------------------------

none_at : (js : Given) (d j : ℕ) → HasNone js d → j < length js → desk_at js j ≡ d → ⊥
none_at [] d j h k e = omega arith
none_at (b ∷ bs) d zero h k e = h.0 e
none_at (b ∷ bs) d (suc j) h k e = none_at bs d j h.1 (omega arith) e

apart_at : (js : Given) (i j : ℕ) → AreApart js → i < length js → j < length js → desk_at js i ≡ desk_at js j → i ≡ j
apart_at [] i j h k l e = absurd (omega arith)
apart_at (b ∷ bs) zero zero h k l e = refl
apart_at (b ∷ bs) zero (suc j) h k l e = absurd (none_at bs b.now.desk j h.0 (omega arith) (sym e))
apart_at (b ∷ bs) (suc i) zero h k l e = absurd (none_at bs b.now.desk i h.0 (omega arith) e)
apart_at (b ∷ bs) (suc i) (suc j) h k l e = ap suc (apart_at bs i j h.1 (omega arith) (omega arith) e)

-- the desk's journal stands at some place, or none is the desk's
record IsAt (js : Given) (d j : ℕ) : Type 0 where
  within : j < length js
  desk : desk_at js j ≡ d
  past : journal_of js d ≡ past_at js j

find_desk : (js : Given) (d : ℕ) → (HasNone js d × (journal_of js d ≡ [])) ⊎ ((j : ℕ) × IsAt js d j)
find_desk [] d = inl (tt, refl)
find_desk (b ∷ bs) d = go (b.now.desk == d) refl (find_desk bs d)
  where
    go : (c : Bool) → (b.now.desk == d) ≡ c → (HasNone bs d × (journal_of bs d ≡ [])) ⊎ ((j : ℕ) × IsAt bs d j)
        → (HasNone (b ∷ bs) d × (journal_of (b ∷ bs) d ≡ [])) ⊎ ((j : ℕ) × IsAt (b ∷ bs) d j)
    go true e ih = inr (0, record { within = omega arith; desk = eqb-true _ _ e; past = rw e refl })
    go false e (inl w) = inl ((λ k. both_ways _ e (eq-eqb _ _ k), w.0), rw e w.1)
    go false e (inr w) = inr (suc w.0, record { within = let h = w.1.within in omega arith; desk = w.1.desk; past = rw e w.1.past })

-- the order ------------------------------------------------------------------------------------------

after_along : (x s t : Stamped) → IsAfter x s → IsAfter s t → IsAfter x t
after_along x s t h k =
    ⊎_elim (λ (a : s.stamp < x.stamp). ⊎_elim (λ (b : t.stamp < s.stamp). inl (omega arith)) (λ b. inl (omega (arith, b.0))) k)
    (λ a. ⊎_elim (λ (b : t.stamp < s.stamp). inl (omega (arith, a.0))) (λ b. inr (b.0 ∙ a.0, omega (arith, a.1, b.1))) k) h

all_before_along : (x s : Stamped) (merged : List Stamped) → IsAfter x s → AllBefore s merged → AllBefore x merged
all_before_along x s [] h k = tt
all_before_along x s (t ∷ merged) h k = (after_along x s t h k.0, all_before_along x s merged h k.1)

leads_after : (s x : Stamped) → leads (Some (s.stamp, s.desk)) (Some (x.stamp, x.desk)) ≡ true → (s.desk ≡ x.desk → ⊥) → IsAfter x s
leads_after s x h k = ⊎_elim (λ w. inl (ltb-true _ _ w)) (λ w. let p = and_parts _ _ w in inr (eqb-true _ _ p.0, let l = leb-true _ _ p.1 in omega (arith, k))) (or_cases _ _ h)

-- one journal: what is left of it, oldest first, and what stands in the merge already ------------------

reverse_first : (x : Stamped) (rest older : List Stamped) → reverse (x ∷ rest) ++ older ≡ reverse rest ++ x ∷ older
reverse_first x rest older = ap (λ z. z ++ older) (reverse-append (x ∷ []) rest) ∙ append_assoc (reverse rest) (x ∷ []) older

front_in_order : (d : ℕ) (past left older : List Stamped) (x : Stamped) (rest : List Stamped) → left ≡ x ∷ rest → reverse left ++ older ≡ past → IsInOrder d past → IsInOrder d (x ∷ older)
front_in_order d past left older x rest e f h =
    older_in_order d (reverse rest) (x ∷ older) (subst (IsInOrder d) (sym f ∙ ap (λ z. reverse z ++ older) e ∙ reverse_first x rest older) h)

pub some_first : (xs : List Stamped) (x : Stamped) → head_of xs ≡ Some x → (rest : List Stamped) × (xs ≡ x ∷ rest)
some_first [] x h = absurd (cc)
some_first (y ∷ ys) x h = let e : y ≡ x = cc in (ys, ap (λ z. z ∷ ys) e)

-- the merge so far, newest first, beside what is left of the journals -------------------------------------

pub record IsMerging (js : Given) (seats : List Seat) (merged : List Stamped) : Type 0 where
  pub rising : IsRising merged
  pub joined : (j : ℕ) → j < length js → reverse (left_at js seats j) ++ of_desk (desk_at js j) merged ≡ past_at js j
  pub none_else : (d : ℕ) → HasNone js d → of_desk d merged ≡ []
  pub ahead : (j : ℕ) (x : Stamped) → j < length js → head_of (left_at js seats j) ≡ Some x → AllBefore x merged

pub merging_none : (js : Given) (seats : List Seat) → ((j : ℕ) → taken_at seats j ≡ 0) → IsMerging js seats []
merging_none js seats h = record {
  rising = tt;
  joined = λ j k. ap (λ n. reverse (drop n (events_at js j)) ++ []) (h j) ∙ append-nil (reverse (reverse (past_at js j))) ∙ reverse-reverse (past_at js j);
  none_else = λ d k. refl;
  ahead = λ j x k e. tt;
}

of_desk_here : (d : ℕ) (s : Stamped) (merged : List Stamped) → s.desk ≡ d → of_desk d (s ∷ merged) ≡ s ∷ of_desk d merged
of_desk_here d s merged e = rw (eq-eqb s.desk d e) refl

of_desk_other : (d : ℕ) (s : Stamped) (merged : List Stamped) → (s.desk ≡ d → ⊥) → of_desk d (s ∷ merged) ≡ of_desk d merged
of_desk_other d s merged e = rw (ne_eqb s.desk d e) refl

module _ (js : Given) (old new : List Seat) (merged : List Stamped) (s : Stamped) (which : ℕ) (order : AreInOrder js) (apart : AreApart js)
    (m : IsMerging js old merged) (f : TakesFrom js old new s which) where
  -- what is next of any journal follows what the merge has of it
  next_in_order : (j : ℕ) (x : Stamped) → j < length js → head_of (left_at js old j) ≡ Some x → IsInOrder (desk_at js j) (x ∷ of_desk (desk_at js j) merged)
  next_in_order j x k e =
      let w = some_first (left_at js old j) x e in
      front_in_order (desk_at js j) (past_at js j) (left_at js old j) (of_desk (desk_at js j) merged) x w.0 w.1 (m.joined j k) (order j k)

  taken_head : head_of (left_at js old which) ≡ Some s
  taken_head = ap head_of f.takes

  here : s.desk ≡ desk_at js which
  here = (next_in_order which s f.within taken_head).0

  elsewhere : (j : ℕ) → j < length js → (j ≡ which → ⊥) → s.desk ≡ desk_at js j → ⊥
  elsewhere j k n e = n (apart_at js j which apart k f.within (sym e ∙ here))

  joined_here : reverse (left_at js new which) ++ of_desk (desk_at js which) (s ∷ merged) ≡ past_at js which
  joined_here =
      ap (λ z. reverse (left_at js new which) ++ z) (of_desk_here (desk_at js which) s merged here)
      ∙ sym (reverse_first s (left_at js new which) (of_desk (desk_at js which) merged))
      ∙ ap (λ z. reverse z ++ of_desk (desk_at js which) merged) (sym f.takes)
      ∙ m.joined which f.within

  joined_there : (j : ℕ) → j < length js → (j ≡ which → ⊥) → reverse (left_at js new j) ++ of_desk (desk_at js j) (s ∷ merged) ≡ past_at js j
  joined_there j k n =
      ap (λ z. reverse (left_at js new j) ++ z) (of_desk_other (desk_at js j) s merged (elsewhere j k n))
      ∙ ap (λ z. reverse z ++ of_desk (desk_at js j) merged) (f.keeps j n)
      ∙ m.joined j k

  -- the next of the same journal is later
  later : (x : Stamped) → head_of (left_at js new which) ≡ Some x → IsAfter x s
  later x e =
      let w = some_first (left_at js new which) x e in
      let o = front_in_order (desk_at js which) (past_at js which) (left_at js new which) (s ∷ of_desk (desk_at js which) merged) x w.0 w.1
      (ap (λ z. reverse (left_at js new which) ++ z) (sym (of_desk_here (desk_at js which) s merged here)) ∙ joined_here) (order which f.within)
      in
      inl o.1

  -- the next of another journal does not come before it
  behind : (j : ℕ) (x : Stamped) → j < length js → (j ≡ which → ⊥) → head_of (left_at js old j) ≡ Some x → IsAfter x s
  behind j x k n e =
      let w = some_first (left_at js old j) x e in
      let known = (next_in_order j x k e).0 in
      leads_after s x (subst (λ z. leads (Some (s.stamp, s.desk)) z ≡ true) (ap key_of w.1) (f.leads_all j k)) (λ q. elsewhere j k n (q ∙ known))

  before_all : AllBefore s merged
  before_all = m.ahead which s f.within taken_head

  pub merging_next : IsMerging js new (s ∷ merged)
  merging_next = record {
    rising = (before_all, m.rising);
    joined = λ j k.
        ⊎_elim (λ (q : j ≡ which). subst (λ i. reverse (left_at js new i) ++ of_desk (desk_at js i) (s ∷ merged) ≡ past_at js i) (sym q) joined_here)
        (λ (q : j ≡ which → ⊥). joined_there j k q) (cases_eq j which);
    none_else = λ d k. of_desk_other d s merged (λ e. none_at js d which k f.within (sym here ∙ e)) ∙ m.none_else d k;
    ahead = λ j x k e.
        ⊎_elim (λ (q : j ≡ which). let l = later x (subst (λ i. head_of (left_at js new i) ≡ Some x) q e) in (l, all_before_along x s merged l before_all))
        (λ (q : j ≡ which → ⊥). let o = sym (ap head_of (f.keeps j q)) ∙ e in (behind j x k q o, m.ahead j x k o)) (cases_eq j which);
  }

pub merged_all : (js : Given) (seats : List Seat) (merged : List Stamped) → ((j : ℕ) → j < length js → left_at js seats j ≡ []) → IsMerging js seats merged → IsMerge (journal_of js) merged
merged_all js seats merged h m = (m.rising, whole)
  where
    whole : (d : ℕ) → of_desk d merged ≡ journal_of js d
    whole d =
        ⊎_elim (λ (w : HasNone js d × (journal_of js d ≡ [])). m.none_else d w.0 ∙ sym w.1)
        (λ (w : (j : ℕ) × IsAt js d j).
        let k = w.1.within in
        ap (λ i. of_desk i merged) (sym w.1.desk)
        ∙ ap (λ z. reverse z ++ of_desk (desk_at js w.0) merged) (sym (h w.0 k))
        ∙ m.joined w.0 k
        ∙ sym w.1.past)
        (find_desk js d)

-- how many events are left ---------------------------------------------------------------------------------

abbrev pub total : (ℕ → ℕ) → ℕ → ℕ
total f zero = 0
total f (suc n) = f n + total f n

total_same : (f g : ℕ → ℕ) (n : ℕ) → ((j : ℕ) → j < n → g j ≡ f j) → total g n ≡ total f n
total_same f g zero h = refl
total_same f g (suc n) h = let e = h n (omega arith) in let k = total_same f g n (λ j l. h j (omega arith)) in omega arith

total_falls : (f g : ℕ → ℕ) (n which : ℕ) → which < n → suc (g which) ≡ f which → ((j : ℕ) → (j ≡ which → ⊥) → g j ≡ f j) → suc (total g n) ≡ total f n
total_falls f g zero which k e h = absurd (omega arith)
total_falls f g (suc n) which k e h =
    ⊎_elim (λ (q : which ≡ n).
    let a = subst (λ i. suc (g i) ≡ f i) q e in
    let b = total_same f g n (λ j l. h j (λ r. omega arith)) in
    omega arith)
    (λ (q : which ≡ n → ⊥).
    let a = h n (λ r. q (sym r)) in
    let b = total_falls f g n which (omega arith) e h in
    omega arith)
    (cases_eq which n)

abbrev pub left_total : Given → List Seat → ℕ
left_total js seats = total (λ j. length (left_at js seats j)) (length js)

pub left_falls : (js : Given) (old new : List Seat) (s : Stamped) (which : ℕ) → TakesFrom js old new s which → left_total js new < left_total js old
left_falls js old new s which f =
    let e = total_falls (λ j. length (left_at js old j)) (λ j. length (left_at js new j)) (length js) which f.within (sym (ap length f.takes)) (λ j n. ap length (f.keeps j n)) in
    omega arith
