-- The number in a reason's text.
use Rattle.std.proofs.Common.{◌≡◌, ℕ, ◌<◌, ◌≤◌, ◌^◌, List, ◌++◌, Bool, true, false, length, take, drop, Result, Ok, Err, refl, ap, sym, ◌∙◌, arith, rules}
use Rattle.std.specs.List.{list_all}
use Rattle.std.specs.Result.{OkIff}
use Rattle.std.specs.Str.{bytes_eq}
use Rattle.std.specs.Str.Parse.{digits_value, ParsesUnsigned}
use Rattle.std.specs.Str.Pattern.{LacksTextAt}
use Rattle.std.proofs.lemmas.List.{take-append-drop}
use Rattle.std.proofs.lemmas.Slice.Eq.{bytes_eq-Decides}
use Rattle.std.proofs.lemmas.Str.Parse.{IsNumeralModel, numerals_by_value, parse_digits}
use Rattle.pt_script.specs.declared.fault.Fault.TheVariants.{Bounds}
use Rattle.pt_script.specs.Operations.{is_decimal, number_read}
use Rattle.pt_script.specs.Scopes.{is_script_digit}

false_unless : (b : Bool) → (b ≡ true → ⊥) → b ≡ false
false_unless true h = absurd (h refl)
false_unless false h = refl

-- what a text without a prefix begins with is another
pub lacks : (n t : List ℕ) → LacksTextAt n t 0 → bytes_eq (take (length n) t) n ≡ false
lacks n t h = false_unless _ (λ e. h (drop (length n) t) (sym (take-append-drop (length n) t) ∙ ap (λ f. f ++ drop (length n) t) ((bytes_eq-Decides (take (length n) t) n).0 e)))

pub own : IsNumeralModel (λ ds. list_all is_script_digit ds ≡ true) (digits_value 10)
unfolding is_script_digit
own = numerals_by_value _ (search rules)

pub all_digits : (bs : List ℕ) → is_decimal bs ≡ true → list_all is_script_digit bs ≡ true
unfolding is_decimal
all_digits bs h = grind arith

pub not_empty : (bs : List ℕ) → is_decimal bs ≡ true → 0 < length bs
unfolding is_decimal
not_empty bs h = grind arith

parsed : {E : Type 0} (bs : List ℕ) (r : Result ℕ E) → ParsesUnsigned 32 10 bs r → is_decimal bs ≡ true → OkIff r ((0 < length bs) × (digits_value 10 bs < 2 ^ 32)) (digits_value 10 bs)
parsed bs r h d = parse_digits own 32 bs r h (all_digits bs d)

pub number_accepted : (bs : List ℕ) (n : ℕ) → ParsesUnsigned {E = Unit {0}} 32 10 bs (Ok n) → is_decimal bs ≡ true → number_read bs ≡ Ok n
number_accepted bs n h d =
    let p = parsed {E = Unit {0}} bs (Ok n) h d in
    let small : digits_value 10 bs < 2 ^ 32 = p.0.1 in
    grind (arith, d, small, p.1)

pub number_refused : {E : Type 0} (bs : List ℕ) (e : E) → ParsesUnsigned 32 10 bs (Err e) → is_decimal bs ≡ true → number_read bs ≡ Err Bounds
number_refused bs e h d =
    let p = parsed bs (Err e) h d in
    let some : 0 < length bs = not_empty bs d in
    let nb : digits_value 10 bs < 2 ^ 32 → ⊥ = λ small. p (some, small) in
    let big : 2 ^ 32 ≤ digits_value 10 bs = omega (arith, nb) in
    grind (arith, d, big)
