-- Where a list is read on: what is passed over behind an operation.
use Rattle.std.proofs.Common.{◌≡◌, ℕ, ◌+◌, ◌-◌, ◌^◌, ◌<◌, ◌≤◌, Bool, true, false, cond, List, [], ◌∷◌, length, drop, get_or, min, Option, Some, None, refl, ap, ◌∙◌, arith}
use Rattle.std.specs.List.{All}
use Rattle.std.proofs.lemmas.List.{at_drop_all, at_drop_more}
use Rattle.std.proofs.lemmas.List.Elements.{All-drop, All-head}
use Rattle.pt_script.specs.Plans.{Plan}
use Rattle.pt_script.specs.declared.values.Operation.{Operation}
use Rattle.pt_script.specs.declared.values.Pattern.{Pattern}
use Rattle.pt_runner.specs.declared.reading.Reading.{Reading}
use Rattle.pt_runner.specs.declared.reading.Reading.TheVariants.{Here}
use Rattle.pt_runner.specs.Acting.{Acting, advanced, next_place, passed_from, past_here, past_mark, plan_at}

-- how many are passed over, by what comes of the first one
abbrev passed_behind : (Pattern → Bool) → List Operation → Option Reading → ℕ
passed_behind test os past = elim past [ None ↦ 0 | Some further ↦ 1 + passed_from test further os ]

-- one more is passed over
pub passed_more : (test : Pattern → Bool) (reading further : Reading) (os : List Operation) (i : ℕ) (o : Operation) → i < length os → past_mark test reading (get_or os i o) ≡ Some further
    → passed_from test reading (drop i os) ≡ 1 + passed_from test further (drop (i + 1) os)
passed_more test reading further os i o lt past =
    at_drop_more (passed_from test reading) os i o lt
    ∙ ap (λ (r : Option Reading). passed_behind test (drop (i + 1) os) r) past

-- here is the next one that is done
pub passed_none : (test : Pattern → Bool) (reading : Reading) (os : List Operation) (i : ℕ) (o : Operation) → i < length os → past_mark test reading (get_or os i o) ≡ None → passed_from test reading (drop i os) ≡ 0
passed_none test reading os i o lt past =
    at_drop_more (passed_from test reading) os i o lt
    ∙ ap (λ (r : Option Reading). passed_behind test (drop (i + 1) os) r) past

-- here the list ends
pub passed_all : (test : Pattern → Bool) (reading : Reading) (os : List Operation) (i : ℕ) → length os ≤ i → passed_from test reading (drop i os) ≡ 0
passed_all test reading os i le = at_drop_all (passed_from test reading) os i le

-- A process never goes back in its list.
pub advanced_forward : (plans : List Plan) (test : Pattern → Bool) (a : Acting) → a.done < 2 ^ 64 → a.done ≤ (advanced plans test a).done
advanced_forward plans test a lt = go a.begins
  where
    go : (b : Bool) → a.done ≤ (cond b (record a { begins = false; refused = 0 }) (record a { done = next_place test (plan_at plans a.process).operations (min (a.done + 1) (2 ^ 64 - 1)); refused = 0 })).done
    go true = omega arith
    go false = omega (arith, lt)

-- In a list without branches the next place is the next one.
abbrev pub IsNoMark : Operation → Type 0
IsNoMark o = (test : Pattern → Bool) → past_here test o ≡ None

pub next_is_next : (test : Pattern → Bool) (os : List Operation) (place : ℕ) → All IsNoMark os → next_place test os place ≡ place
next_is_next test os place plain = omega (arith, go (drop place os) (All-drop IsNoMark place os plain))
  where
    go : (rest : List Operation) → All IsNoMark rest → passed_from test Here rest ≡ 0
    go [] h = refl
    go (o ∷ rest) h = ap (λ (r : Option Reading). passed_behind test rest r) (All-head IsNoMark o rest h test)
