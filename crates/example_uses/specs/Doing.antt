-- Calls that follow one another: each is made only where none before it was refused.
use Rattle.std.specs.Prelude.{◌≡◌, ◌⊎◌, ℕ, zero, suc, Bool, MatchBool, Result, Ok, Err}
use Rattle.pt_shard.specs.declared.fault.Fault.{Fault}
use Rattle.pt_shard.specs.declared.fault.Fault.TheVariants.{Memory}

-- what is done: the state before, the answer or the refusal, and the state after
abbrev pub Doing : Type 0 → Type 0 → Type 1
Doing S A = S → Result A Fault → S → Type 0

-- nothing is done, and that is the answer
abbrev pub Idles : {S A : Type 0} → A → Doing S A
Idles a old r new = (r ≡ Ok a) × (new ≡ old)

-- the first, and then, with its answer, the next; where the first is refused, that is all
abbrev pub AndThen : {S A B : Type 0} → (Result A Fault → S → Type 0) → (A → Doing S B) → Result B Fault → S → Type 0
AndThen {S} {A} first next r new =
    ((fault : Fault) × first (Err fault) new × (r ≡ Err fault))
    ⊎ ((a : A) × (mid : S) × first (Ok a) mid × next a mid r new)

-- it is done, unless there is no memory for what is needed beside the desk
abbrev pub OrNoMemory : {S A : Type 0} → Doing S A → Doing S A
OrNoMemory does old r new = ((r ≡ Err Memory) × (new ≡ old)) ⊎ does old r new

-- at each place below n, from 0 upwards, until it is refused
unfoldable pub AtEach : {S : Type 0} → (ℕ → Doing S (Unit {0})) → ℕ → Doing S (Unit {0})
AtEach does zero old r new = Idles (tt {0}) old r new
AtEach does (suc n) old r new = AndThen (AtEach does n old) (λ _. does n) r new

-- up to n times, until it answers no or is refused
unfoldable pub Repeats : {S : Type 0} → Doing S Bool → ℕ → Doing S (Unit {0})
Repeats does zero old r new = Idles (tt {0}) old r new
Repeats does (suc n) old r new =
    AndThen (does old)
    (λ more mid r new. MatchBool more (Repeats does n mid r new) (Idles (tt {0}) mid r new)) r new

-- it is done, and what stands beside stays
abbrev pub Beside : {S X A : Type 0} → Doing S A → Doing (S × X) A
Beside does old r new = does old.0 r new.0 × (new.1 ≡ old.1)
