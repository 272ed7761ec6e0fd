-- What one signal of a link does to the entry of a live process.
use Rattle.std.proofs.Common.{◌≡◌, ℕ, ◌+◌, ◌≤◌, Bool, true, false, cond, not, ◌&&◌, ◌||◌, List, [], ◌∷◌, Option, Some, None, refl, sym, ◌∙◌, subst, arith}
use Rattle.std.proofs.lemmas.Bool.{true≢false, false≢true, both_ways, or_left, or_right, and_right}
use Rattle.std.specs.List.{list_any}
use Rattle.pt_signal.specs.declared.ids.Ids.{Ids}
use Rattle.pt_signal.specs.declared.ids.LinkId.{LinkId}
use Rattle.pt_signal.specs.Values.{same_link}
use Rattle.pt_signal.specs.Process.{holds_any, has_id, ids_of, one_id, add_id, without_ids}
use Rattle.pt_events.specs.Counting.{one_if, count}
use Rattle.pt_signal.proofs.Same.{same_link_is, same_link_refl}
use Rattle.pt_laws.proofs.monitoring.Counts.{count-some, count_pass}
use Rattle.pt_laws.proofs.linking.Entries.{entered, cut_ids}
use Rattle.pt_laws.proofs.linking.Holding.{held_ids, is_two, full, count_cut, not_shared}
use Rattle.pt_laws.proofs.linking.Ties.{Tie, adds, takes, clears, turn}

-- the id is held
abbrev pub has : LinkId → Option Ids → Bool
has i o = list_any (same_link i) (held_ids o)

-- what is held after the signal came
abbrev pub got : Option Ids → Tie → Option Ids
got o (adds j) = Some (entered o j)
got o (takes ids) = cut_ids o ids
got o (clears ids) = cond (holds_any o ids) None o

-- as numbers -----------------------------------------------------------------------------------

has_count : {X : Type 0} (T : X → Bool) (xs : List X) → list_any T xs ≡ true → 1 ≤ count T xs
has_count T xs h = count_pass T xs h

count_has : {X : Type 0} (T : X → Bool) (xs : List X) → 1 ≤ count T xs → list_any T xs ≡ true
count_has T xs h = go (list_any T xs) refl
  where
    go : (b : Bool) → list_any T xs ≡ b → list_any T xs ≡ true
    go true e = e
    go false e = let k = count-some T xs e in absurd (omega arith)

not_has : {X : Type 0} (T : X → Bool) (xs : List X) → count T xs ≡ 0 → list_any T xs ≡ false
not_has T xs h = go (list_any T xs) refl
  where
    go : (b : Bool) → list_any T xs ≡ b → list_any T xs ≡ false
    go true e = let k = has_count T xs e in absurd (omega arith)
    go false e = e

-- an id that enters ----------------------------------------------------------------------------------

or_swap : (x y : Bool) → (x || (y || false)) ≡ (y || (x || false))
or_swap true true = refl
or_swap true false = refl
or_swap false true = refl
or_swap false false = refl

room_two : (i one : LinkId) (two : Option LinkId) (j : LinkId) → is_two two ≡ false
    → has i (Some (add_id (record { one = one; two = two }) j)) ≡ (same_link i j || has i (Some (record { one = one; two = two })))
room_two i one None j h = or_swap (same_link i one) (same_link i j)
room_two i one (Some k) j h = absurd (true≢false h)

pub has_entered : (i : LinkId) (o : Option Ids) (j : LinkId) → full o ≡ false → has i (Some (entered o j)) ≡ (same_link i j || has i o)
has_entered i None j h = refl
has_entered i (Some ids) j h = room_two i ids.one ids.two j h

le_two : (i one : LinkId) (two : Option LinkId) (j : LinkId) → has i (Some (add_id (record { one = one; two = two }) j)) ≡ true
    → (same_link i j || has i (Some (record { one = one; two = two }))) ≡ true
le_two i one None j h = sym (or_swap (same_link i one) (same_link i j)) ∙ h
le_two i one (Some k) j h = or_right (same_link i j) _ h

pub entered_has : (i : LinkId) (o : Option Ids) (j : LinkId) → has i (Some (entered o j)) ≡ true → (same_link i j || has i o) ≡ true
entered_has i None j h = h
entered_has i (Some ids) j h = le_two i ids.one ids.two j h

-- ids that leave ----------------------------------------------------------------------------------

pub has_cut : (i : LinkId) (ids : Ids) (o : Option Ids) → has i (cut_ids o ids) ≡ (not (has_id ids i) && has i o)
has_cut i ids o = go (has_id ids i) (has i o) refl refl (count_cut i ids o)
  where
    go : (b c : Bool) → has_id ids i ≡ b → has i o ≡ c
        → count (same_link i) (held_ids (cut_ids o ids)) ≡ cond (has_id ids i) 0 (count (same_link i) (held_ids o))
        → has i (cut_ids o ids) ≡ (not (has_id ids i) && has i o)
    go true c e f k =
        let z : count (same_link i) (held_ids (cut_ids o ids)) ≡ 0 = rw e at k in rw e (not_has (same_link i) (held_ids (cut_ids o ids)) z)
    go false true e f k =
        let z : count (same_link i) (held_ids (cut_ids o ids)) ≡ count (same_link i) (held_ids o) = rw e at k in
        let y = has_count (same_link i) (held_ids o) f in
        rw (e, f) (count_has (same_link i) (held_ids (cut_ids o ids)) (omega arith))
    go false false e f k =
        let z : count (same_link i) (held_ids (cut_ids o ids)) ≡ count (same_link i) (held_ids o) = rw e at k in
        let y = count-some (same_link i) (held_ids o) f in
        rw (e, f) (not_has (same_link i) (held_ids (cut_ids o ids)) (omega arith))

pub cleared_has : (i : LinkId) (ids : Ids) (o : Option Ids) → has i (got o (clears ids)) ≡ true → (not (has_id ids i) && has i o) ≡ true
cleared_has i ids o h = go (holds_any o ids) refl h
  where
    go : (b : Bool) → holds_any o ids ≡ b → has i (cond b None o) ≡ true → (not (has_id ids i) && has i o) ≡ true
    go true e h = absurd (false≢true h)
    go false e h = named (has_id ids i) refl
      where
        named : (c : Bool) → has_id ids i ≡ c → (not (has_id ids i) && has i o) ≡ true
        named true f = let k = not_shared i ids o e f in let y = has_count (same_link i) (held_ids o) h in absurd (omega arith)
        named false f = rw f h

one_clears : (i : LinkId) (ids : Ids) (one : LinkId) → holds_any (Some (one_id one)) ids ≡ true
    → (not (has_id ids i) && has i (Some (one_id one))) ≡ false
one_clears i ids one h = go (same_link i one) refl
  where
    held_one : (c : Bool) → has_id ids one ≡ c → has_id ids one ≡ true
    held_one true e = e
    held_one false e = let k : (has_id ids one || false) ≡ true = h in let z : false ≡ true = rw e at k in absurd (false≢true z)

    go : (b : Bool) → same_link i one ≡ b → (not (has_id ids i) && has i (Some (one_id one))) ≡ false
    go true e = let k : has_id ids i ≡ true = subst (λ z. has_id ids z ≡ true) (sym (same_link_is i one e)) (held_one _ refl) in rw k refl
    go false e = rw e (and_right (not (has_id ids i)) false refl)

two_clears : (i : LinkId) (ids : Ids) (one : LinkId) (two : Option LinkId) → is_two two ≡ false
    → holds_any (Some (record { one = one; two = two })) ids ≡ true
    → (not (has_id ids i) && has i (Some (record { one = one; two = two }))) ≡ false
two_clears i ids one None f h = one_clears i ids one h
two_clears i ids one (Some k) f h = absurd (true≢false f)

-- an entry of one id
pub has_cleared : (i : LinkId) (ids : Ids) (o : Option Ids) → full o ≡ false → has i (got o (clears ids)) ≡ (not (has_id ids i) && has i o)
has_cleared i ids None f = sym (and_right (not (has_id ids i)) false refl)
has_cleared i ids (Some e) f = go (holds_any (Some e) ids) refl
  where
    go : (b : Bool) → holds_any (Some e) ids ≡ b → has i (cond (holds_any (Some e) ids) None (Some e)) ≡ (not (has_id ids i) && has i (Some e))
    go true h = rw h (sym (two_clears i ids e.one e.two f h))
    go false h = rw h (held (has_id ids i) refl)
      where
        held : (c : Bool) → has_id ids i ≡ c → has i (Some e) ≡ (not c && has i (Some e))
        held true g = not_has (same_link i) (held_ids (Some e)) (not_shared i ids (Some e) h g)
        held false g = refl

-- at any signal: no more than the signal leaves
pub got_has : (i : LinkId) (o : Option Ids) (x : Tie) → has i (got o x) ≡ true → turn i x (has i o) ≡ true
got_has i o (adds j) h = entered_has i o j h
got_has i o (takes ids) h = sym (has_cut i ids o) ∙ h
got_has i o (clears ids) h = cleared_has i ids o h

-- how many there are ----------------------------------------------------------------------------------

full_cut_one : (ids : Ids) (one : LinkId) → full (without_ids ids (one_id one)) ≡ false
full_cut_one ids one = go (has_id ids one)
  where
    go : (b : Bool) → full (ids_of (cond (not b) (one ∷ []) [])) ≡ false
    go true = refl
    go false = refl

full_cut_two : (ids : Ids) (one : LinkId) (two : Option LinkId) → is_two two ≡ false
    → full (without_ids ids (record { one = one; two = two })) ≡ false
full_cut_two ids one None f = full_cut_one ids one
full_cut_two ids one (Some k) f = absurd (true≢false f)

pub full_cut : (ids : Ids) (o : Option Ids) → full o ≡ false → full (cut_ids o ids) ≡ false
full_cut ids None f = refl
full_cut ids (Some e) f = full_cut_two ids e.one e.two f

pub full_cleared : (b : Bool) (o : Option Ids) → full o ≡ false → full (cond b None o) ≡ false
full_cleared true o f = refl
full_cleared false o f = f

module _ (mine : LinkId → Bool) where
  abbrev pub mines : Option Ids → ℕ
  mines o = count mine (held_ids o)

  entered_two : (one : LinkId) (two : Option LinkId) (j : LinkId)
      → mines (Some (add_id (record { one = one; two = two }) j)) ≤ mines (Some (record { one = one; two = two })) + one_if (mine j)
  entered_two one None j = omega arith
  entered_two one (Some k) j = omega arith

  pub mines_entered : (o : Option Ids) (j : LinkId) → mines (Some (entered o j)) ≤ mines o + one_if (mine j)
  mines_entered None j = omega arith
  mines_entered (Some ids) j = entered_two ids.one ids.two j

  cut_both : (ids : Ids) (one two : LinkId) → (b c : Bool)
      → mines (ids_of (cond (not b) (one ∷ cond (not c) (two ∷ []) []) (cond (not c) (two ∷ []) [])))
      ≤ one_if (mine one) + (one_if (mine two) + 0)
  cut_both ids one two true true = omega arith
  cut_both ids one two true false = omega arith
  cut_both ids one two false true = omega arith
  cut_both ids one two false false = omega arith

  cut_one : (ids : Ids) (one : LinkId) → (b : Bool) → mines (ids_of (cond (not b) (one ∷ []) [])) ≤ one_if (mine one) + 0
  cut_one ids one true = omega arith
  cut_one ids one false = omega arith

  cut_two : (ids : Ids) (one : LinkId) (two : Option LinkId)
      → mines (without_ids ids (record { one = one; two = two })) ≤ mines (Some (record { one = one; two = two }))
  cut_two ids one None = cut_one ids one (has_id ids one)
  cut_two ids one (Some two) = cut_both ids one two (has_id ids one) (has_id ids two)

  pub mines_cut : (ids : Ids) (o : Option Ids) → mines (cut_ids o ids) ≤ mines o
  mines_cut ids None = omega arith
  mines_cut ids (Some e) = cut_two ids e.one e.two

  pub mines_cleared : (b : Bool) (o : Option Ids) → mines (cond b None o) ≤ mines o
  mines_cleared true o = omega arith
  mines_cleared false o = omega arith

  full_two : (one : LinkId) (two : Option LinkId) → ((i : LinkId) → has i (Some (record { one = one; two = two })) ≡ true → mine i ≡ true)
      → mines (Some (record { one = one; two = two })) ≤ 1 → is_two two ≡ false
  full_two one None h k = refl
  full_two one (Some two) h k =
      let a = h one (or_left (same_link one one) _ (same_link_refl one)) in
      let b = h two (or_right (same_link two one) _ (or_left (same_link two two) _ (same_link_refl two))) in
      let c : one_if (mine one) ≡ 1 = rw a refl in
      let d : one_if (mine two) ≡ 1 = rw b refl in absurd (omega arith)

  -- an entry of one maker's ids alone has room
  pub full_not : (o : Option Ids) → ((i : LinkId) → has i o ≡ true → mine i ≡ true) → mines o ≤ 1 → full o ≡ false
  full_not None h k = refl
  full_not (Some e) h k = full_two e.one e.two h k

-- an entry has an id
pub empty_entry : (o : Option Ids) → ((i : LinkId) → has i o ≡ false) → o ≡ None
empty_entry None h = refl
empty_entry (Some e) h =
    let k : has e.one (Some e) ≡ true = or_left (same_link e.one e.one) _ (same_link_refl e.one) in absurd (both_ways _ (h e.one) k)

-- all ids leave
pub cut_all : (ids : Ids) → cut_ids (Some ids) ids ≡ None
cut_all ids = empty_entry (cut_ids (Some ids) ids) (λ i. has_cut i ids (Some ids) ∙ none (has_id ids i))
  where
    none : (b : Bool) → (not b && b) ≡ false
    none true = refl
    none false = refl
