-- What is read of the matches, and which words an argument takes.
use Rattle.std.proofs.Common.{◌≡◌, ℕ, ◌^◌, Bool, true, false, Option, Some, None, Result, Ok, Err, refl, ap, sym, arith}
use Rattle.std.specs.Str.Parse.{ParsesUnsigned}
use Rattle.std.specs.Prelude.{option_and_then}
use Rattle.clap.specs.ValueTests.{is_unsigned_in}
use Rattle.clap.specs.Words.{Text, ReadsOne}
use Rattle.clap.specs.declared.builder.value_parser.ValueParser.TheVariants.{Unsigned}
use Rattle.clap.proofs.ValueTestLemmas.{accepts-Accepts, Accepts-accepts}
use Rattle.pt_options.specs.Choosing.{number_written}

pub false_unless : (b : Bool) → (b ≡ true → ⊥) → b ≡ false
false_unless true h = absurd (h refl)
false_unless false h = refl

-- a text that was read as a number is the number
number_read : (E : Type 0) (t : Text) (n : ℕ) → ParsesUnsigned {E = E} 64 10 t (Ok n) → number_written t ≡ Some n
number_read E t n h =
    let is : is_unsigned_in 0 (2 ^ 64) t ≡ true = Accepts-accepts false (Unsigned 0 (2 ^ 64)) t (h.0.0, h.0.1, omega arith, omega (arith, h.0.1)) in
    rw is (ap Some (sym h.1))

number_refused : (E : Type 0) (t : Text) (e : E) → ParsesUnsigned 64 10 t (Err e) → number_written t ≡ None
number_refused E t e h =
    let is : is_unsigned_in 0 (2 ^ 64) t ≡ false = false_unless _ (λ yes. let a = accepts-Accepts false (Unsigned 0 (2 ^ 64)) t yes in h (a.0, a.1)) in
    rw is refl

one_number : (E : Type 0) (A B : Text → Result ℕ E → Type 0) (t : Text) (r : Option ℕ) → ReadsOne (λ u s. ParsesUnsigned 64 10 u s × A u s × B u s) t r → r ≡ number_written t
one_number E A B t None h = sym (number_refused E t h.0 h.1.0)
one_number E A B t (Some n) h = sym (number_read E t n h.0)

-- what `get_one` gave is the number of its text, where there is one
pub number_is : (E : Type 0) (A B : Text → Result ℕ E → Type 0) (o : Option Text) (r : Option ℕ) → (o ≡ None → r ≡ None) → ((t : Text) → o ≡ Some t → ReadsOne (λ u s. ParsesUnsigned 64 10 u s × A u s × B u s) t r) → r ≡ option_and_then number_written o
number_is E A B None r none some = none refl
number_is E A B (Some t) r none some = one_number E A B t r (some t refl)
