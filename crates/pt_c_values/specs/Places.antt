-- What a handle has, and what a call through one answers C.
use Rattle.std.specs.Prelude.{◌≡◌, ℕ, ◌∷◌, [], List, Option, Some, None}

-- there is nothing of what was asked for
abbrev pub nothing_there : ℕ
nothing_there = 8

-- a handle has nothing
abbrev pub empty : ℕ
empty = 9

abbrev pub some_code : {A : Type 0} → Option A → ℕ
some_code (Some a) = 0
some_code None = nothing_there

-- What a handle has: nothing, or a place on the heap, with a value or without.
abbrev pub HandlePlace : Type 0 → Type 0
HandlePlace S = Option (Option S)

abbrev pub value_behind : {S : Type 0} → HandlePlace S → Option S
value_behind (Some (Some s)) = Some s
value_behind _ = None

abbrev pub full : {S : Type 0} → S → HandlePlace S
full s = Some (Some s)

abbrev pub had : {S : Type 0} → Option S → List S → List S
had (Some s) rest = s ∷ rest
had None rest = rest

-- what the handles of a row have, in order
abbrev pub values : {S : Type 0} → List (HandlePlace S) → List S
values [] = []
values (p ∷ places) = had (value_behind p) (values places)

-- a call of what the handle has: P ties it before and after; where the handle has nothing the code says so, and nothing
-- has changed
abbrev pub CallsThrough : {S : Type 0} → HandlePlace S → HandlePlace S → ℕ → Type 0 → (S → S → Type 0) → Type 0
CallsThrough (Some (Some old)) (Some (Some new)) code kept P = P old new
CallsThrough (Some (Some old)) _ code kept P = ⊥
CallsThrough old new code kept P = (code ≡ empty) × (new ≡ old) × kept

-- a call that only reads
abbrev pub ReadsThrough : {S : Type 0} → HandlePlace S → HandlePlace S → ℕ → Type 0 → (S → Type 0) → Type 0
ReadsThrough (Some (Some old)) new code kept P = (new ≡ Some (Some old)) × P old
ReadsThrough old new code kept P = (code ≡ empty) × (new ≡ old) × kept

-- what is passed out ---------------------------------------------------------------------

abbrev pub some_or : {A B : Type 0} → (A → B) → B → Option A → B
some_or f before (Some a) = f a
some_or f before None = before

-- what is read, where there is any
abbrev pub ShowsCode : {A B : Type 0} → ℕ → B → B → (A → B) → Option A → Type 0
ShowsCode code before after f a = (code ≡ some_code a) × (after ≡ some_or f before a)
