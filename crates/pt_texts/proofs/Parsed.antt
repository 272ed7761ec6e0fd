-- What is promised of parsing, from what holds of a reader.
use Rattle.std.proofs.Common.{◌≡◌, ℕ, Result, Ok, Err, List, [], sym, ap, ◌∙◌, refl, IfOk}
use Rattle.pt_texts.specs.declared.parse.Refused.{Refused}
use Rattle.pt_texts.specs.Steps.{Reader, whole}
use Rattle.pt_texts.specs.Parsing.{told_column, Parses}
use Rattle.pt_texts.proofs.Pieces.{Reads, ok_is, whole_is, whole_again}

module _ {A : Type 0} (Fit : A → Type 0) (Stop : List ℕ → Type 0) (print : A → List ℕ) (reader : Reader A) (reads : Reads Fit Stop print reader) where
  -- no two values print alike
  pub apart : Stop [] → (v w : A) → Fit v → Fit w → print v ≡ print w → v ≡ w
  apart stop v w f g e =
      ok_is v w
      (sym (whole_again Fit Stop print reader reads (print v) v stop f refl) ∙ whole_again Fit Stop print reader reads (print v) w stop g e)

  pub parsed : Stop [] → (text : List ℕ) (result : Result A Refused) → result ≡ told_column text (whole reader text) → Parses Fit print reader text result
  parsed stop text result h = record {
    found = go (whole reader text) refl result h;
    only = λ v f e. h ∙ ap (told_column text) (whole_again Fit Stop print reader reads text v stop f e);
    column = h;
  }
    where
      go : (r : Result A ℕ) → whole reader text ≡ r → (q : Result A Refused) → q ≡ told_column text r → IfOk q (λ v. (text ≡ print v) × Fit v)
      go (Ok v) e (Ok w) k = let same : v ≡ w = cc in whole_is Fit Stop print reader reads text w (e ∙ ap Ok same)
      go (Ok v) e (Err x) k = absurd (cc)
      go (Err n) e (Ok w) k = absurd (cc)
      go (Err n) e (Err x) k = tt
