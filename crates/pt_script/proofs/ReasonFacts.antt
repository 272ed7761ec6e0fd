-- A reason is read from the text that it is printed as.
use Rattle.std.proofs.Common.{◌≡◌, ℕ, ◌<◌, ◌^◌, List, ◌++◌, Bool, true, false, length, get_or, take, drop, Result, Ok, Err, refl, ap, sym, ◌∙◌, arith}
use Rattle.std.specs.Prelude.{IfOk, codes, decimal, if◌then◌else◌, nat_lt}
use Rattle.std.specs.Str.{bytes_eq}
use Rattle.std.specs.Str.Parse.{digits_value}
use Rattle.std.proofs.lemmas.List.{take-append-drop}
use Rattle.std.proofs.lemmas.Slice.Eq.{bytes_eq-Decides}
use Rattle.std.proofs.lemmas.Fmt.{decimal-digits_value}
use Rattle.pt_signal.specs.declared.reason.Reason.{Reason}
use Rattle.pt_signal.specs.declared.reason.Reason.TheVariants.{Normal, Kill, Killed, Noproc, Shutdown, Other}
use Rattle.pt_signal.specs.Text.{reason_text}
use Rattle.pt_script.specs.declared.fault.Fault.{Fault}
use Rattle.pt_script.specs.declared.fault.Fault.TheVariants.{Field, Bounds}
use Rattle.pt_script.specs.Steps.{◌>>=◌}
use Rattle.pt_script.specs.Operations.{is_decimal, number_read, other_reason, reason_written}
use Rattle.pt_script.proofs.NumberFacts.{own, all_digits, not_empty}
use Rattle.pt_script.proofs.SoundSteps.{bind}

by_test : {A : Type 0} (P : A → Type 0) (b : Bool) (x y : A) → (b ≡ true → P x) → (b ≡ false → P y) → P (if b then x else y)
by_test P true x y h k = h refl
by_test P false x y h k = k refl

one_zero : (bs : List ℕ) → is_decimal bs ≡ true → get_or bs 0 0 ≡ 48 → length bs ≡ 1
unfolding is_decimal
one_zero bs h z = grind arith

number_text : (bs : List ℕ) → IfOk (number_read bs) (λ n. decimal n ≡ bs)
number_text bs =
    let P : Result ℕ Fault → Type 0 = λ r. IfOk r (λ n. decimal n ≡ bs) in
    by_test P (is_decimal bs) (if nat_lt (digits_value 10 bs) (2 ^ 32) then Ok (digits_value 10 bs) else Err Bounds) (Err Field) (λ is.
    by_test P (nat_lt (digits_value 10 bs) (2 ^ 32)) (Ok (digits_value 10 bs)) (Err Bounds) (λ small.
    let low : digits_value 10 bs < 2 ^ 64 = grind (arith, small) in
    decimal-digits_value own bs (all_digits bs is) (not_empty bs is) (one_zero bs is) low) (λ big. tt)) (λ not. tt)

abbrev Printed : List ℕ → Reason → Type 0
Printed t r = t ≡ reason_text r

same : (t n : List ℕ) → bytes_eq t n ≡ true → t ≡ n
same t n e = (bytes_eq-Decides t n).0 e

other_text : (t : List ℕ) → IfOk (other_reason t) (Printed t)
unfolding reason_text
other_text t =
    let P : Result Reason Fault → Type 0 = λ r. IfOk r (Printed t) in
    by_test P (bytes_eq (take 6 t) (codes "other:")) (number_read (drop 6 t) >>= λ n. Ok (Other n)) (Err Field) (λ e.
    bind (λ n. decimal n ≡ drop 6 t) (Printed t) (number_read (drop 6 t)) (λ n. Ok (Other n)) (number_text (drop 6 t)) (λ n d.
    sym (take-append-drop 6 t) ∙ ap (λ f. f ++ drop 6 t) (same (take 6 t) (codes "other:") e) ∙ ap (λ r. codes "other:" ++ r) (sym d))) (λ e. tt)

printed : (t : List ℕ) → IfOk (reason_written t) (Printed t)
unfolding reason_text
printed t =
    let P : Result Reason Fault → Type 0 = λ r. IfOk r (Printed t) in
    let last : Result Reason Fault = other_reason t in
    let e4 : Result Reason Fault = if bytes_eq t (codes "shutdown") then Ok Shutdown else last in
    let e3 : Result Reason Fault = if bytes_eq t (codes "noproc") then Ok Noproc else e4 in
    let e2 : Result Reason Fault = if bytes_eq t (codes "killed") then Ok Killed else e3 in
    let e1 : Result Reason Fault = if bytes_eq t (codes "kill") then Ok Kill else e2 in
    by_test P (bytes_eq t (codes "normal")) (Ok Normal) e1 (same t (codes "normal")) (λ n0.
    by_test P (bytes_eq t (codes "kill")) (Ok Kill) e2 (same t (codes "kill")) (λ n1.
    by_test P (bytes_eq t (codes "killed")) (Ok Killed) e3 (same t (codes "killed")) (λ n2.
    by_test P (bytes_eq t (codes "noproc")) (Ok Noproc) e4 (same t (codes "noproc")) (λ n3.
    by_test P (bytes_eq t (codes "shutdown")) (Ok Shutdown) last (same t (codes "shutdown")) (λ n4. other_text t)))))

if_ok : {A E : Type 0} (P : A → Type 0) (r : Result A E) (x : A) → IfOk r P → r ≡ Ok x → P x
if_ok P r x h e = rw e at h

pub reasons_as_printed : (text : List ℕ) (r : Reason) → reason_written text ≡ Ok r → text ≡ reason_text r
reasons_as_printed text r e = if_ok (Printed text) (reason_written text) r (printed text) e
