-- `names_tell_texts_apart`: its contract.
use Rattle.std.proofs.Common.{◌≡◌, ℕ, zero, suc, cond, Bool, true, false, List, [], ◌∷◌, ◌++◌, drop, replicate, length, refl, sym}
use Rattle.std.proofs.Common.{◌∙◌, ap}
use Rattle.std.specs.List.{list_all}
use Rattle.std.proofs.lemmas.Bool.{and_parts}
use Rattle.pt_names.specs.Letters.{is_name_text, is_name_letter, padded}
use Rattle.pt_names.proofs.name.names_tell_texts_apart.Goals as goal

-- what stands in front of the first zero
stripped : List ℕ → List ℕ
stripped [] = []
stripped (zero ∷ xs) = []
stripped (suc n ∷ xs) = suc n ∷ stripped xs

stripped-zeros : (n k : ℕ) → stripped (drop k (replicate n 0)) ≡ []
unfolding stripped
stripped-zeros zero zero = refl
stripped-zeros zero (suc k) = refl
stripped-zeros (suc n) zero = refl
stripped-zeros (suc n) (suc k) = stripped-zeros n k

stripped-letters : (text rest : List ℕ) → list_all is_name_letter text ≡ true → stripped rest ≡ []
    → stripped (text ++ rest) ≡ text
unfolding stripped
stripped-letters [] rest all none = none
stripped-letters (zero ∷ xs) rest all none = cc
stripped-letters (suc n ∷ xs) rest all none =
    ap (λ l. suc n ∷ l) (stripped-letters xs rest (and_parts _ _ all).1 none)

cond_true : (b c : Bool) → cond b c false ≡ true → c ≡ true
cond_true true c h = h
cond_true false c h = cc

stripped-padded : (text : List ℕ) → is_name_text text ≡ true → stripped (padded text) ≡ text
stripped-padded text h =
    stripped-letters text (drop (length text) (replicate 32 0)) (and_parts _ _ (cond_true _ _ h)).1
    (stripped-zeros 32 (length text))

pub returns : goal.returns
returns c = λ a b h k e. sym (stripped-padded a h) ∙ ap stripped e ∙ stripped-padded b k
