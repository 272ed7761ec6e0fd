-- The race of journals: reading and writing its seats.
use Rattle.std.proofs.Common.{◌≡◌, ◌⊎◌, ℕ, zero, suc, ◌+◌, ◌-◌, ◌<◌, ◌≤◌, Bool, true, false, ◌==◌, Option, Some, None, List, [], ◌∷◌, drop, length, get_or, set, refl, sym, ap, ◌∙◌, subst, ⊎_elim, inl, inr, add-one, arith}
use Rattle.std.proofs.lemmas.Bool.{cases_lt, cases_order}
use Rattle.std.proofs.lemmas.List.{get_or-set_same, get_or-set_other}
use denote.Ref.{Bor}
use Rattle.pt_events.specs.declared.event.Stamped.{Stamped}
use Rattle.pt_judge.specs.declared.merging.Seat.{Seat}
use Rattle.pt_events.specs.JournalState.{JournalState}
use Rattle.pt_judge.specs.Merging.{Given}
use Rattle.pt_judge.specs.Race.{head_of, desk_at, past_at, events_at, seat_at, winner_at, taken_at, left_at, key_of, next_key, leads, middle, IsBest, IsPlayed, alone, matched, winner_in, OnlyWinners, IsTaken, TakesFrom, TakesFirst}
use Rattle.std.proofs.lemmas.Bool.Decides.{nat_tests}

pub past_read : (js : Given) (j : ℕ) (x : Bor JournalState) → j < length js → x ≡ get_or js j x → x.now.past ≡ past_at js j
past_read [] j x h e = absurd (omega arith)
past_read (b ∷ bs) zero x h e = ap (λ (y : Bor JournalState). y.now.past) e
past_read (b ∷ bs) (suc j) x h e = past_read bs j x (omega arith) e

pub desk_read : (js : Given) (j : ℕ) (x : Bor JournalState) → j < length js → x ≡ get_or js j x → x.now.desk ≡ desk_at js j
desk_read [] j x h e = absurd (omega arith)
desk_read (b ∷ bs) zero x h e = ap (λ (y : Bor JournalState). y.now.desk) e
desk_read (b ∷ bs) (suc j) x h e = desk_read bs j x (omega arith) e

-- the order of the next events -------------------------------------------------------------

pub leads_self : (a : Option (ℕ × ℕ)) → leads a a ≡ true
leads_self None = refl
leads_self (Some a) = grind (arith, nat_tests)

pub leads_along : (a b c : Option (ℕ × ℕ)) → leads a b ≡ true → leads b c ≡ true → leads a c ≡ true
leads_along a b None h k = refl
leads_along a None (Some c) h k = absurd (cc)
leads_along None (Some b) (Some c) h k = absurd (cc)
leads_along (Some a) (Some b) (Some c) h k = grind (arith, nat_tests)

pub leads_else : (a b : Option (ℕ × ℕ)) → leads a b ≡ false → leads b a ≡ true
leads_else a None h = absurd (cc)
leads_else None (Some b) h = refl
leads_else (Some a) (Some b) h = grind (arith, nat_tests)

module _ (key : ℕ → Option (ℕ × ℕ)) where
  alone_best : (low high : ℕ) → high ≡ low + 1 → IsBest key low high low
  alone_best low high e = record {
    from = omega arith;
    below = omega arith;
    leads_all = λ j h k. let same : low ≡ j = omega arith in subst (λ i. leads (key low) (key i) ≡ true) same (leads_self (key low));
  }

  pub best_played : (winner : ℕ → ℕ) (low high : ℕ) → IsPlayed key winner low high → IsBest key low high (winner_in winner low high)
  best_played winner low high (alone l h e) = let one : (high - low == 1) ≡ true = grind (arith, nat_tests) in rw one (alone_best low high e)
  best_played winner low high (matched l h some one other best) = let more : (high - low == 1) ≡ false = grind (arith, nat_tests) in rw more best

  pub best_one : (low middle high a b : ℕ) → middle ≤ high → IsBest key low middle a → IsBest key middle high b → leads (key a) (key b) ≡ true → IsBest key low high a
  best_one low middle high a b h one other k = record {
    from = one.from;
    below = let c = one.below in omega arith;
    leads_all = λ j from below. ⊎_elim (λ (w : j < middle). one.leads_all j from w) (λ (w : middle ≤ j). leads_along (key a) (key b) (key j) k (other.leads_all j w below)) (cases_lt j middle);
  }

  pub best_other : (low middle high a b : ℕ) → low ≤ middle → IsBest key low middle a → IsBest key middle high b → leads (key a) (key b) ≡ false → IsBest key low high b
  best_other low middle high a b h one other k = record {
    from = let c = other.from in omega arith;
    below = other.below;
    leads_all = λ j from below. ⊎_elim (λ (w : j < middle). leads_along (key b) (key a) (key j) (leads_else (key a) (key b) k) (one.leads_all j from w)) (λ (w : middle ≤ j). other.leads_all j w below) (cases_lt j middle);
  }

pub played_kept : (key key' : ℕ → Option (ℕ × ℕ)) (winner winner' : ℕ → ℕ) (low high : ℕ) → ((j : ℕ) → low ≤ j → j < high → key' j ≡ key j)
    → ((i : ℕ) → low < i → i < high → winner' i ≡ winner i) → IsPlayed key winner low high → IsPlayed key' winner' low high
played_kept key key' winner winner' low high h k (alone l g e) = alone low high e
played_kept key key' winner winner' low high h k (matched l g some one other best) =
    let n : low < middle low high = omega arith in
    let m : middle low high < high = omega arith in
    matched low high some
    (played_kept key key' winner winner' low (middle low high) (λ j a b. h j a (omega arith)) (λ i a b. k i a (omega arith)) one)
    (played_kept key key' winner winner' (middle low high) high (λ j a b. h j (omega arith) b) (λ i a b. k i (omega arith) b) other)
    (subst (IsBest key' low high) (sym (k (middle low high) n m))
    (record {
      from = best.from;
      below = best.below;
      leads_all = λ j a b.
          subst (λ z. leads (key' (winner (middle low high))) z ≡ true) (sym (h j a b))
          (subst (λ z. leads z (key j) ≡ true) (sym (h (winner (middle low high)) best.from best.below)) (best.leads_all j a b));
    }))

-- writes of seats -----------------------------------------------------------------------------

module _ (js : Given) where
  key_same : (old new : List Seat) (j : ℕ) → taken_at new j ≡ taken_at old j → next_key js new j ≡ next_key js old j
  key_same old new j h = ap (λ n. key_of (drop n (events_at js j))) h

  best_same : (old new : List Seat) (low high w : ℕ) → ((j : ℕ) → taken_at new j ≡ taken_at old j) → IsBest (next_key js old) low high w → IsBest (next_key js new) low high w
  best_same old new low high w h b = record {
    from = b.from;
    below = b.below;
    leads_all = λ j k m.
        subst (λ z. leads (next_key js new w) z ≡ true) (sym (key_same old new j (h j)))
        (subst (λ z. leads z (next_key js old j) ≡ true) (sym (key_same old new w (h w))) (b.leads_all j k m));
  }

  -- the half keeps its matches where the rest is written
  pub half_kept : (old new : List Seat) (low high : ℕ) → ((j : ℕ) → low ≤ j → j < high → taken_at new j ≡ taken_at old j)
      → ((i : ℕ) → low < i → i < high → winner_at new i ≡ winner_at old i)
      → IsPlayed (next_key js old) (winner_at old) low high → IsPlayed (next_key js new) (winner_at new) low high
  half_kept old new low high h k p =
      played_kept (next_key js old) (next_key js new) (winner_at old) (winner_at new) low high (λ j a b. key_same old new j (h j a b)) k p

  pub match_played : (seats : List Seat) (low high w t : ℕ) → low + 1 < high → high ≤ length seats → t ≡ taken_at seats (middle low high)
      → IsPlayed (next_key js seats) (winner_at seats) low (middle low high) → IsPlayed (next_key js seats) (winner_at seats) (middle low high) high
      → IsBest (next_key js seats) low high w
      → IsPlayed (next_key js (set seats (middle low high) (record { winner = w; taken = t }))) (winner_at (set seats (middle low high) (record { winner = w; taken = t }))) low high
  match_played seats low high w t some within e one other best =
      matched low high some (half_kept seats new low m (λ j a b. taken j) (λ i a b. winners i (omega arith)) one)
      (half_kept seats new m high (λ j a b. taken j) (λ i a b. winners i (omega arith)) other)
      (subst (IsBest (next_key js new) low high) (sym (ap (λ (s : Seat). s.winner) here)) (best_same seats new low high w taken best))
    where
      m : ℕ
      m = middle low high

      new : List Seat
      new = set seats m (record { winner = w; taken = t })

      here : seat_at new m ≡ record { winner = w; taken = t }
      here = get_or-set_same seats m (record { winner = w; taken = t }) (record { winner = 0; taken = 0 }) (omega arith)

      winners : (i : ℕ) → (i ≡ m → ⊥) → winner_at new i ≡ winner_at seats i
      winners i h = ap (λ (s : Seat). s.winner) (get_or-set_other seats m i (record { winner = w; taken = t }) (record { winner = 0; taken = 0 }) h)

      others : (j : ℕ) → (j ≡ m → ⊥) → taken_at new j ≡ taken_at seats j
      others j h = ap (λ (s : Seat). s.taken) (get_or-set_other seats m j (record { winner = w; taken = t }) (record { winner = 0; taken = 0 }) h)

      taken : (j : ℕ) → taken_at new j ≡ taken_at seats j
      taken j =
          ⊎_elim (λ (k : j ≡ m). subst (λ i. taken_at new i ≡ taken_at seats i) (sym k) (ap (λ (s : Seat). s.taken) here ∙ e))
          (λ (k : (j < m) ⊎ (m < j)). others j (λ q. ⊎_elim (λ (a : j < m). omega arith) (λ (a : m < j). omega arith) k)) (cases_order j m)

  -- what taking one more event, or the matches of one half, leaves of the other half
  pub apart_taken : (old new : List Seat) (low high from to which : ℕ) → IsTaken from to which old new → (which < low) ⊎ (high ≤ which) → (to ≤ low) ⊎ (high ≤ from)
      → low < high → IsPlayed (next_key js old) (winner_at old) low high → IsPlayed (next_key js new) (winner_at new) low high
  apart_taken old new low high from to which t w d some p =
      half_kept old new low high (λ j a b. t.same_taken j (λ e. ⊎_elim (λ (k : which < low). omega arith) (λ (k : high ≤ which). omega arith) w))
      (λ i a b. t.same_outside i (⊎_elim (λ (k : to ≤ low). inr (omega arith)) (λ (k : high ≤ from). inl (omega arith)) d)) p

  pub apart_written : (old new : List Seat) (low high from to : ℕ) → OnlyWinners from to old new → high ≤ from
      → IsPlayed (next_key js old) (winner_at old) low high → IsPlayed (next_key js new) (winner_at new) low high
  apart_written old new low high from to t d p = half_kept old new low high (λ j a b. t.same_taken j) (λ i a b. t.same_outside i (inl (omega arith))) p

pub one_half : (key : ℕ → Option (ℕ × ℕ)) (winner : ℕ → ℕ) (low high : ℕ) → low + 1 < high → IsPlayed key winner low high → IsPlayed key winner low (middle low high)
one_half key winner low high some (alone l h e) = absurd (omega arith)
one_half key winner low high some (matched l h more one other best) = one

pub other_half : (key : ℕ → Option (ℕ × ℕ)) (winner : ℕ → ℕ) (low high : ℕ) → low + 1 < high → IsPlayed key winner low high → IsPlayed key winner (middle low high) high
other_half key winner low high some (alone l h e) = absurd (omega arith)
other_half key winner low high some (matched l h more one other best) = other

-- taking the next event ---------------------------------------------------------------------------

head_suc : (xs : List Stamped) (n : ℕ) (s : Stamped) → head_of (drop n xs) ≡ Some s → drop n xs ≡ s ∷ drop (suc n) xs
head_suc [] zero s h = absurd (cc)
head_suc [] (suc n) s h = absurd (cc)
head_suc (x ∷ xs) zero s h = let e : x ≡ s = cc in ap (λ y. y ∷ xs) e
head_suc (x ∷ xs) (suc n) s h = head_suc xs n s h

head_taken : (xs : List Stamped) (n : ℕ) (s : Stamped) → head_of (drop n xs) ≡ Some s → drop n xs ≡ s ∷ drop (n + 1) xs
head_taken xs n s h = rw add-one (head_suc xs n s h)

no_head : (xs : List Stamped) → head_of xs ≡ None → xs ≡ []
no_head [] h = refl
no_head (x ∷ xs) h = absurd (cc)

led_by_none : (xs : List Stamped) → leads None (key_of xs) ≡ true → xs ≡ []
led_by_none [] h = refl
led_by_none (x ∷ xs) h = absurd (cc)

key_of_head : (xs : List Stamped) (s : Stamped) → head_of xs ≡ Some s → key_of xs ≡ Some (s.stamp, s.desk)
key_of_head [] s h = absurd (cc)
key_of_head (x ∷ xs) s h = let e : x ≡ s = cc in ap (λ (y : Stamped). Some (y.stamp, y.desk)) e

module _ (js : Given) (old : List Seat) (which : ℕ) (best : IsBest (next_key js old) 0 (length js) which) where
  pub nothing_left : None ≡ head_of (left_at js old which) → TakesFirst js old None old
  nothing_left h j k =
      let e : left_at js old which ≡ [] = no_head (left_at js old which) (sym h) in
      led_by_none (left_at js old j) (subst (λ xs. leads (key_of xs) (next_key js old j) ≡ true) e (best.leads_all j (omega arith) k))

  pub first_taken : (new : List Seat) (s : Stamped) → Some s ≡ head_of (left_at js old which) → IsTaken 0 (length js) which old new → TakesFrom js old new s which
  first_taken new s h t = record {
    within = best.below;
    takes = head_taken (events_at js which) (taken_at old which) s (sym h) ∙ ap (λ n. s ∷ drop n (events_at js which)) (sym t.one_more);
    keeps = λ j k. ap (λ n. drop n (events_at js j)) (t.same_taken j k);
    leads_all = λ j k. subst (λ z. leads z (next_key js old j) ≡ true) (key_of_head (left_at js old which) s (sym h)) (best.leads_all j (omega arith) k);
  }

pub best_now : (js : Given) (old now : List Seat) (which : ℕ) → now ≡ old → which ≡ winner_in (winner_at now) 0 (length js)
    → IsPlayed (next_key js old) (winner_at old) 0 (length js) → IsBest (next_key js old) 0 (length js) which
best_now js old now which e w p =
    subst (IsBest (next_key js old) 0 (length js)) (sym (w ∙ ap (λ (seats : List Seat). winner_in (winner_at seats) 0 (length js)) e))
    (best_played (next_key js old) (winner_at old) 0 (length js) p)

pub some_given : (n : ℕ) (b : Bool) → b ≡ (n == 0) → b ≡ false → 0 < n
some_given n b e f = grind (arith, nat_tests)
