-- One byte more of a line that is split into words.
use Rattle.std.proofs.Common.{◌≡◌, ℕ, ◌+◌, ◌-◌, ◌<◌, ◌≤◌, List, [], ◌∷◌, ◌++◌, length, take, drop, get_or, ap, sym, ◌∙◌, arith, append_assoc, true, false, Bool, length-drop}
use Rattle.std.proofs.lemmas.List.{at_drop_more, take_more, get_or-drop, length-take-le}
use Rattle.std.specs.Prelude.{if◌then◌else◌, slice_range}
use Rattle.pt_shell.specs.Words.{Told, is_blank, one_word, words_behind}

-- what stands from a place on to the one behind it
front_more : (line : List ℕ) (start place : ℕ) → start ≤ place → place < length line
    → slice_range line start (place + 1) ≡ slice_range line start place ++ get_or line place 0 ∷ []
front_more line start place h k =
    let rest : List ℕ = drop start line in
    let size : place + 1 - start ≡ (place - start) + 1 = omega arith in
    let inside : place - start < length rest = omega (arith, length-drop start line) in
    let place_is : start + (place - start) ≡ place = omega arith in
    let last : get_or rest (place - start) 0 ≡ get_or line place 0 = get_or-drop start line (place - start) 0 ∙ ap (λ (i : ℕ). get_or line i 0) place_is in
    ap (λ (n : ℕ). take n rest) size ∙ take_more rest (place - start) 0 inside ∙ ap (λ (x : ℕ). take (place - start) rest ++ x ∷ []) last

front_length : (line : List ℕ) (start place : ℕ) → start ≤ place → place ≤ length line → length (slice_range line start place) ≡ place - start
front_length line start place h k =
    let inside : place - start ≤ length (drop start line) = omega (arith, length-drop start line) in
    length-take-le (place - start) (drop start line) inside

front_none : (line : List ℕ) (place : ℕ) → slice_range line place place ≡ []
front_none line place = let e : place - place ≡ 0 = omega arith in ap (λ k. take k (drop place line)) e

step_blank : (column : ℕ) (front : List ℕ) (c : ℕ) (text : List ℕ) → is_blank c ≡ true
    → words_behind column front (c ∷ text) ≡ one_word column front ++ words_behind (column + length front + 1) [] text
step_blank column front c text h = ap (λ (b : Bool). if b then one_word column front ++ words_behind (column + length front + 1) [] text else words_behind column (front ++ c ∷ []) text) h

step_other : (column : ℕ) (front : List ℕ) (c : ℕ) (text : List ℕ) → is_blank c ≡ false → words_behind column front (c ∷ text) ≡ words_behind column (front ++ c ∷ []) text
step_other column front c text h = ap (λ (b : Bool). if b then one_word column front ++ words_behind (column + length front + 1) [] text else words_behind column (front ++ c ∷ []) text) h

-- behind a blank the word before it is whole, and the next begins
pub of_blank : (done : List Told) (line : List ℕ) (start place : ℕ) → start ≤ place → place < length line → is_blank (get_or line place 0) ≡ true
    → (done ++ one_word (start + 1) (slice_range line start place))
    ++ words_behind (place + 1 + 1) (slice_range line (place + 1) (place + 1)) (drop (place + 1) line)
    ≡ done ++ words_behind (start + 1) (slice_range line start place) (drop place line)
of_blank done line start place h k b =
    let front = slice_range line start place in
    let rest = drop (place + 1) line in
    let column : start + 1 + length front + 1 ≡ place + 1 + 1 = omega (arith, front_length line start place h (omega arith)) in
    append_assoc done (one_word (start + 1) front) _
    ∙ ap (λ (ws : List Told). done ++ ws)
    (ap (λ (f : List ℕ). one_word (start + 1) front ++ words_behind (place + 1 + 1) f rest) (front_none line (place + 1))
    ∙ ap (λ (n : ℕ). one_word (start + 1) front ++ words_behind n [] rest) (sym column)
    ∙ sym (step_blank (start + 1) front (get_or line place 0) rest b)
    ∙ sym (at_drop_more (words_behind (start + 1) front) line place 0 k))

-- any other byte stands in the word
pub of_other : (line : List ℕ) (start place : ℕ) → start ≤ place → place < length line → is_blank (get_or line place 0) ≡ false
    → words_behind (start + 1) (slice_range line start (place + 1)) (drop (place + 1) line)
    ≡ words_behind (start + 1) (slice_range line start place) (drop place line)
of_other line start place h k b =
    let front = slice_range line start place in
    let rest = drop (place + 1) line in
    ap (λ (f : List ℕ). words_behind (start + 1) f rest) (front_more line start place h k)
    ∙ sym (step_other (start + 1) front (get_or line place 0) rest b)
    ∙ sym (at_drop_more (words_behind (start + 1) front) line place 0 k)
