-- A list is read one item after the other.
use Rattle.std.proofs.Common.{◌≡◌, ℕ, ◌+◌, List, ◌∷◌, length, Result, Ok, ap, sym, ◌∙◌, ◌<◌, ◌≤◌, get_or, drop}
use Rattle.std.proofs.lemmas.List.{drop_more, drop_all}
use Rattle.pt_script.specs.declared.fault.ScriptError.{ScriptError}
use Rattle.pt_script.specs.declared.fault.ScriptError.TheVariants.{Refused, Memory}
use Rattle.pt_script.specs.Steps.{◌>>=◌, each}
use Rattle.pt_script.specs.Lists.{ScriptRefuses}

pub each_at : {A B E : Type 0} (f : B → A → Result B E) (b : B) (xs : List A) (i : ℕ) (x : A) → i < length xs → get_or xs i x ≡ x → each f b (drop i xs) ≡ (f b x >>= λ a. each f a (drop (i + 1) xs))
each_at f b xs i x lt here = ap (each f b) (drop_more xs i x lt ∙ ap (λ y. y ∷ drop (i + 1) xs) here)

-- one item more
pub each_next : {A B E : Type 0} (f : B → A → Result B E) (b after : B) (xs : List A) (i : ℕ) (x : A) (all : Result B E) → i < length xs → get_or xs i x ≡ x → f b x ≡ Ok after → each f b (drop i xs) ≡ all → each f after (drop (i + 1) xs) ≡ all
each_next f b after xs i x all lt here step before =
    ap (λ r. r >>= λ a. each f a (drop (i + 1) xs)) (sym step) ∙ sym (each_at f b xs i x lt here) ∙ before

-- the fault of an item is that of the list
pub each_refuses : {A B : Type 0} (f : B → A → Result B ScriptError) (b : B) (xs : List A) (i : ℕ) (x : A) (e : ScriptError) (all : Result B ScriptError) → i < length xs → get_or xs i x ≡ x → ScriptRefuses e (f b x) → each f b (drop i xs) ≡ all → ScriptRefuses e all
each_refuses f b xs i x Memory all lt here step before = tt
each_refuses f b xs i x (Refused fault place) all lt here step before =
    sym before ∙ each_at f b xs i x lt here ∙ ap (λ r. r >>= λ a. each f a (drop (i + 1) xs)) step

pub each_end : {A B E : Type 0} (f : B → A → Result B E) (b : B) (xs : List A) (i : ℕ) (all : Result B E) → length xs ≤ i → each f b (drop i xs) ≡ all → all ≡ Ok b
each_end f b xs i all past before = sym before ∙ ap (each f b) (drop_all i xs past)
