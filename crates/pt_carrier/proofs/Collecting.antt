-- Lemmas on a look at the lanes, and on the letter that is then taken.
use Rattle.std.proofs.Common.{◌≡◌, ◌≢◌, ℕ, ◌<◌, ◌≤◌, true, false, List, [], ◌∷◌, ◌++◌, length, get_or, refl, sym, ◌∙◌, ap, arith, append_assoc}
use Rattle.std.proofs.lemmas.List.{append-nil}
use Rattle.std.proofs.lemmas.Bool.{both_ways}
use mathlib.Core.List.{IsPrefix}
use Rattle.pt_signal.specs.declared.letter.Letter.{Letter}
use Rattle.pt_signal.specs.Boxes.{one_more}
use Rattle.pt_carrier.specs.Ends.{InEnds, Collects, Shows, ShowNone, IsFirstFromCursor, IsFront}
use Rattle.pt_carrier.proofs.Taking.{front_is}

pub IsPrefix-nil : {X : Type 0} (xs ys : List X) → IsPrefix xs ys → ys ≡ [] → xs ≡ []
IsPrefix-nil [] ys h e = refl
IsPrefix-nil (x ∷ xs) ys h e = absurd (omega (arith, ap length h.1, ap length e))

pub nil_where_none : {X : Type 0} (xs : List X) → (0 < length xs → false ≡ true) → xs ≡ []
nil_where_none [] h = refl
nil_where_none (x ∷ xs) h = absurd (both_ways false refl (h (omega arith)))

pub IsPrefix-is : {X : Type 0} (xs ys : List X) → xs ≡ ys → IsPrefix xs ys
IsPrefix-is xs ys e = ([], append-nil xs ∙ e)

pub IsPrefix-trans : {X : Type 0} (xs ys zs : List X) → IsPrefix xs ys → IsPrefix ys zs → IsPrefix xs zs
IsPrefix-trans xs ys zs h k = (h.0 ++ k.0, sym (append_assoc xs h.0 k.0) ∙ ap (λ l. l ++ k.0) h.1 ∙ k.1)

-- the letter that was looked at in its lane is the one that is then taken
pub front_taken : (old new : InEnds) (k : ℕ) (front letter : Letter) → IsFront old k front → Collects old new k letter → front ≡ letter
front_taken old new k front letter is takes =
    front_is front letter (letter ∷ get_or new.known k []) (get_or new.known k []) (IsPrefix-trans (front ∷ []) (get_or old.known k []) (letter ∷ get_or new.known k []) is.oldest takes.oldest) refl

-- a look that found desk k's lane to be the first to show a letter, and then the taking of that letter
module _ (old mid new : InEnds) (k : ℕ) (letter : Letter)
    (place : mid.place ≡ old.place) (collected : mid.collected ≡ old.collected) (shows : Shows old mid k) (taken : Collects mid new k letter)
    (others : (j : ℕ) → j ≢ k → get_or new.known j [] ≡ get_or mid.known j []) where
  pub collects : Collects old new k letter
  collects = record {
    from_desk = shows.0;
    collected = taken.collected ∙ ap (λ ls. one_more ls k letter) collected;
    cursor = rw (← ap (λ p. length p.rings) place) taken.cursor;
    from_there = taken.from_there;
    to_here = taken.to_here ∙ ap (λ p. p.number) place;
    oldest = IsPrefix-trans (get_or old.known k []) (get_or mid.known k []) (letter ∷ get_or new.known k []) shows.2 taken.oldest;
  }

  none : (low high : ℕ) → ((j : ℕ) → low ≤ j → j < high → j ≢ k) → ShowNone old mid low high → ShowNone old new low high
  none low high apart shown j l h = ((shown j l h).0, others j (apart j l h) ∙ (shown j l h).1)

  pub is_first : IsFirstFromCursor old mid k → IsFirstFromCursor old new k
  is_first first = record {
    above = λ h. none old.cursor k (λ j _ l e. omega arith) (first.above h);
    around = λ h. (none old.cursor (length old.place.rings) (λ j l _ e. omega arith) (first.around h).0, none 0 k (λ j _ l e. omega arith) (first.around h).1);
  }
