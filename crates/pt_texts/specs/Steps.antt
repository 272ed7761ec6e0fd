-- Reading a text from its front, step by step.
use Rattle.std.specs.Prelude.{◌≡◌, ℕ, ◌==◌, List, [], ◌∷◌, length, if◌then◌else◌, Option, Some, None, Result, Ok, Err}

-- what was read and the text behind it, or how many bytes are left where reading stops
abbrev pub Read : Type 0 → Type 0
Read A = Result (A × List ℕ) ℕ

abbrev pub Reader : Type 0 → Type 0
Reader A = List ℕ → Read A

infixl 10 ◌>>=◌
abbrev pub ◌>>=◌ : {A B : Type 0} → Result A ℕ → (A → Result B ℕ) → Result B ℕ
(Ok x) >>= f = f x
(Err e) >>= f = Err e

-- What a function returned, seen by view, is what reading gives.
abbrev pub ReaderGives : {X Y : Type 0} → (X → Y) → Result X ℕ → Result Y ℕ → Type 0
ReaderGives view (Ok x) read = read ≡ Ok (view x)
ReaderGives view (Err e) read = read ≡ Err e

-- what stands behind the word, where the text begins with it
abbrev pub behind : List ℕ → List ℕ → Option (List ℕ)
behind [] text = Some text
behind (c ∷ word) [] = None
behind (c ∷ word) (d ∷ text) = if c == d then behind word text else None

abbrev pub expected : List ℕ → Option (List ℕ) → Result (List ℕ) ℕ
expected text None = Err (length text)
expected text (Some rest) = Ok rest

-- the word has to stand there
abbrev pub word_at : List ℕ → List ℕ → Result (List ℕ) ℕ
word_at word text = expected text (behind word text)

-- the one where there is something, else the other
abbrev pub choose : {A B : Type 0} → Option A → (A → B) → B → B
choose None f other = other
choose (Some x) f other = f x

-- behind the word the one, else the other
abbrev pub or_reader : {A : Type 0} → List ℕ → Reader A → Reader A → Reader A
or_reader word reader other text = choose (behind word text) reader (other text)

-- there is no more to choose from
abbrev pub none_of_these : {A : Type 0} → Reader A
none_of_these text = Err (length text)

-- this value, for which nothing more has to stand there
abbrev pub given_value : {A : Type 0} → A → Reader A
given_value x text = Ok (x, text)

abbrev pub before : {A : Type 0} → List ℕ → Reader A → Reader A
before word reader text = word_at word text >>= reader

abbrev pub closed : {A : Type 0} → Reader A → List ℕ → Reader A
closed reader word text = reader text >>= λ x. word_at word x.1 >>= λ rest. Ok (x.0, rest)

abbrev pub pair : {A B : Type 0} → Reader A → Reader B → Reader (A × B)
pair first second text = first text >>= λ x. second x.1 >>= λ y. Ok ((x.0, y.0), y.1)

abbrev pub mapped : {A B : Type 0} → (A → B) → Reader A → Reader B
mapped f reader text = reader text >>= λ x. Ok (f x.0, x.1)

-- behind the word something, else nothing
abbrev pub optional : {A : Type 0} → List ℕ → Reader A → Reader (Option A)
optional word reader = or_reader word (mapped Some reader) (given_value None)

-- nothing may stand behind it
abbrev pub ended : {A : Type 0} → A × List ℕ → Result A ℕ
ended (x, []) = Ok x
ended (x, c ∷ rest) = Err (length (c ∷ rest))

-- the whole text is one value
abbrev pub whole : {A : Type 0} → Reader A → List ℕ → Result A ℕ
whole reader text = reader text >>= ended
