-- Reading step by step: the first fault that is met ends it.
use Rattle.std.specs.Prelude.{◌≡◌, List, [], ◌∷◌, Result, Ok, Err}

infixl 10 ◌>>=◌
abbrev pub ◌>>=◌ : {A B E : Type 0} → Result A E → (A → Result B E) → Result B E
(Ok x) >>= f = f x
(Err e) >>= f = Err e

-- Each item of a list takes what stands before it to what stands behind it.
abbrev pub each : {A B E : Type 0} → (B → A → Result B E) → B → List A → Result B E
each f before [] = Ok before
each f before (x ∷ xs) = f before x >>= λ after. each f after xs

-- What a function returned, seen by view, is what reading gives.
abbrev pub ReadingGives : {X Y E : Type 0} → (X → Y) → Result X E → Result Y E → Type 0
ReadingGives view (Ok x) read = read ≡ Ok (view x)
ReadingGives view (Err e) read = read ≡ Err e
