-- Rows of handles that are looked at one by one.
use Rattle.std.proofs.Common.{◌≡◌, ℕ, ◌+◌, ◌<◌, Bool, true, List, [], ◌∷◌, ◌++◌, length, map, set, get_or, Option, refl, sym, ap, ◌∙◌, arith}
use Rattle.std.specs.Prelude.{◌&&◌}
use Rattle.std.proofs.lemmas.List.{append_assoc, length-append}
use Rattle.pt_c_values.specs.Places.{HandlePlace, value_behind}
use Rattle.pt_c_values.proofs.InRow.{changed}

pub nothing_more : {X : Type 0} (xs pre rest : List X) → xs ≡ pre ++ rest → length pre ≡ length xs → rest ≡ []
nothing_more xs pre [] is long = refl
nothing_more xs pre (x ∷ rest) is long = absurd (omega (arith, ap length is ∙ length-append pre (x ∷ rest), long))

-- so many were looked at, and what is left decides
pub record Looked {S : Type 0} (decide : ℕ → List (HandlePlace S) → Bool) (whole : List (HandlePlace S)) (k : ℕ) : Type 0 where
  pub seen : List (HandlePlace S)
  pub rest : List (HandlePlace S)
  pub all : whole ≡ seen ++ rest
  pub long : length seen ≡ k
  pub decides : decide 0 whole ≡ decide k rest

module _ {H S : Type 0} (st : H → HandlePlace S) (decide : ℕ → List (HandlePlace S) → Bool) (one : ℕ → Option S → Bool)
    (by_one : (k : ℕ) (p : HandlePlace S) (ps : List (HandlePlace S)) → decide k (p ∷ ps) ≡ (one k (value_behind p) && decide (k + 1) ps)) where
  pub look_one : (hs : List H) (whole : List (HandlePlace S)) (k : ℕ) (h : H) → map st hs ≡ whole → Looked decide whole k → k < length hs → h ≡ get_or hs k h
      → (rest : List (HandlePlace S)) × (decide 0 whole ≡ (one k (value_behind (st h)) && decide (k + 1) rest))
      × ((h' : H) → st h' ≡ st h → map st (set hs k h') ≡ whole)
      × (one k (value_behind (st h)) ≡ true → Looked decide whole (k + 1))
  look_one hs whole k h are l within is =
      let f = changed st hs l.seen l.rest k h (are ∙ l.all) l.long within is in
      let whole_is : whole ≡ l.seen ++ st h ∷ f.0 = l.all ∙ ap (λ z. l.seen ++ z) f.1 in
      let decides : decide 0 whole ≡ (one k (value_behind (st h)) && decide (k + 1) f.0) = l.decides ∙ ap (decide k) f.1 ∙ by_one k (st h) f.0 in (
        f.0,
        decides,
        λ h' same. f.2 h' ∙ ap (λ z. l.seen ++ z ∷ f.0) same ∙ sym whole_is,
        λ at. record {
          seen = l.seen ++ st h ∷ [];
          rest = f.0;
          all = whole_is ∙ sym (append_assoc l.seen (st h ∷ []) f.0);
          long = length-append l.seen (st h ∷ []) ∙ ap (λ n. n + 1) l.long;
          decides = decides ∙ ap (λ b. b && decide (k + 1) f.0) at;
        },
      )

-- where none is left nothing was found
pub looked_all : {S : Type 0} (decide : ℕ → List (HandlePlace S) → Bool) (whole : List (HandlePlace S)) (k : ℕ) → Looked decide whole k → k ≡ length whole → decide k [] ≡ true → decide 0 whole ≡ true
looked_all decide whole k l is none = l.decides ∙ ap (decide k) (nothing_more whole l.seen l.rest l.all (l.long ∙ is)) ∙ none
