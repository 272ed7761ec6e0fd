-- Where both handles are empty, and a place is asked for.
use Rattle.std.proofs.Common.{◌≡◌, ℕ, Bool, true, false}
use Rattle.std.specs.Prelude.{◌||◌, ◌==◌, MatchBool}
use Rattle.std.proofs.lemmas.Bool.{ne_eqb}

where_not : (b : Bool) (P Q : Type 0) → b ≡ false → Q → MatchBool b P Q
where_not false P Q none q = q
where_not true P Q none q = absurd (cc)

pub where_some : (n : ℕ) (P Q : Type 0) → (n ≡ 0 → ⊥) → Q → MatchBool (n == 0) P Q
where_some n P Q some q = where_not (n == 0) P Q (ne_eqb n 0 some) q

pub where_neither : (a b : Bool) (P Q : Type 0) → a ≡ false → b ≡ false → Q → MatchBool (a || b) P Q
where_neither false false P Q none nothing q = q
where_neither false true P Q none nothing q = absurd (cc)
where_neither true b P Q none nothing q = absurd (cc)
