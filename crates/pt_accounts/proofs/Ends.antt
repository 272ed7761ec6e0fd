-- Where runs end, and what one more does to them.
use Rattle.std.proofs.Common.{◌≡◌, ℕ, zero, suc, ◌+◌, ◌-◌, ◌<◌, ◌≤◌, leb, ltb, true, false, List, [], ◌∷◌, ◌++◌, replicate, length, slice_get, slice_index_or, Option, Some, None, refl, ap, sym, ◌∙◌, subst, arith, append_assoc}
use Rattle.std.specs.Prelude.{option_to_list}
use Rattle.std.specs.Option.{option_map}
use Rattle.std.specs.List.Sorted.{IsNonDecreasingBy, IsPartitionedBy}
use Rattle.std.proofs.lemmas.List.Sorted.{IsPartitionedBy-leb}
use Rattle.std.proofs.lemmas.List.{length-append, length-replicate, replicate_more}
use Rattle.std.proofs.lemmas.Grind.{common_steps}
use Rattle.std.proofs.lemmas.Bool.Decides.{nat_tests}
use Rattle.pt_signal.specs.declared.reason.Reason.{Reason}
use Rattle.pt_signal.specs.contracts.reason.ReasonPartialEq.TheImpl.{ghosts as of_reason}
use Rattle.pt_accounts.specs.declared.reasons.Run.{Run}
use Rattle.pt_accounts.specs.Runs.{AreRuns, expanded, last_is}

pub reason_is : (a b : Reason) → of_reason.eq a b ≡ true → a ≡ b
reason_is a b h = grind (arith, common_steps)

pub reason_refl : (a : Reason) → of_reason.eq a a ≡ true
reason_refl a = grind (arith, common_steps)

-- how many reasons there are up to the end of the last run
abbrev pub end_of : ℕ → List Run → ℕ
end_of n [] = n
end_of n (run ∷ runs) = end_of run.up_to runs

abbrev pub last_of : Option Reason → List Run → Option Reason
last_of before [] = before
last_of before (run ∷ runs) = last_of (Some run.reason) runs

-- as many reasons as the last run says
pub counted : (n : ℕ) (before : Option Reason) (runs : List Run) → AreRuns n before runs → n + length (expanded n runs) ≡ end_of n runs
counted n before [] are = omega arith
counted n before (run ∷ runs) are =
    let rest = counted run.up_to (Some run.reason) runs are.2 in
    let split = length-append (replicate (run.up_to - n) run.reason) (expanded run.up_to runs) in
    let front = length-replicate (run.up_to - n) run.reason in
    omega (arith, are.0, rest, split, front)

pub rises : (n : ℕ) (before : Option Reason) (runs : List Run) → AreRuns n before runs → n ≤ end_of n runs
rises n before [] are = omega arith
rises n before (run ∷ runs) are = let rest = rises run.up_to (Some run.reason) runs are.2 in omega (arith, are.0, rest)

-- one more run -----------------------------------------------------------------------

pub expanded_push : (n : ℕ) (runs : List Run) (run : Run) → expanded n (runs ++ run ∷ []) ≡ expanded n runs ++ replicate (run.up_to - end_of n runs) run.reason
expanded_push n [] run = append_nil _
  where
    append_nil : (xs : List Reason) → xs ++ [] ≡ xs
    append_nil xs = grind (arith, common_steps)
expanded_push n (first ∷ runs) run =
    ap (λ z. replicate (first.up_to - n) first.reason ++ z) (expanded_push first.up_to runs run)
    ∙ sym (append_assoc (replicate (first.up_to - n) first.reason) (expanded first.up_to runs) (replicate (run.up_to - end_of first.up_to runs) run.reason))

pub push_runs : (n : ℕ) (before : Option Reason) (runs : List Run) (run : Run) → AreRuns n before runs
    → end_of n runs < run.up_to → (last_of before runs ≡ Some run.reason → ⊥) → AreRuns n before (runs ++ run ∷ [])
push_runs n before [] run are more other = (more, other, tt)
push_runs n before (first ∷ runs) run are more other = (are.0, are.1, push_runs first.up_to (Some first.reason) runs run are.2 more other)

pub pop_runs : (n : ℕ) (before : Option Reason) (runs : List Run) (run : Run) → AreRuns n before (runs ++ run ∷ [])
    → AreRuns n before runs × (end_of n runs < run.up_to) × (last_of before runs ≡ Some run.reason → ⊥)
pop_runs n before [] run are = (tt, are.0, are.1)
pop_runs n before (first ∷ runs) run are = let rest = pop_runs first.up_to (Some first.reason) runs run are.2 in ((are.0, are.1, rest.0), rest.1, rest.2)

pub end_push : (n : ℕ) (runs : List Run) (run : Run) → end_of n (runs ++ run ∷ []) ≡ run.up_to
end_push n [] run = refl
end_push n (first ∷ runs) run = end_push first.up_to runs run

pub last_push : (before : Option Reason) (runs : List Run) (run : Run) → last_of before (runs ++ run ∷ []) ≡ Some run.reason
last_push before [] run = refl
last_push before (first ∷ runs) run = last_push (Some first.reason) runs run

-- what `last_is` tells
pub last_is_push : (r : Reason) (runs : List Run) (run : Run) → last_is r (runs ++ run ∷ []) ≡ of_reason.eq run.reason r
last_is_push r [] run = refl
last_is_push r (a ∷ []) run = refl
last_is_push r (a ∷ b ∷ runs) run = last_is_push r (b ∷ runs) run

-- found by halves ---------------------------------------------------------------------

get_in : (k j : ℕ) (x : Reason) (ys : List Reason) → j < k → slice_get (replicate k x ++ ys) j ≡ Some x
get_in zero j x ys lt = absurd (omega (arith, lt))
get_in (suc k) zero x ys lt = refl
get_in (suc k) (suc j) x ys lt = get_in k j x ys (omega (arith, lt))

get_behind : (k j : ℕ) (x : Reason) (ys : List Reason) → slice_get (replicate k x ++ ys) (k + j) ≡ slice_get ys j
get_behind zero j x ys = let e : 0 + j ≡ j = omega arith in ap (slice_get ys) e
get_behind (suc k) j x ys =
    let e : suc k + j ≡ suc (k + j) = omega arith in
    ap (slice_get (replicate (suc k) x ++ ys)) e ∙ get_behind k j x ys

pub is_up_to : (a n : ℕ) → leb a n ≡ true → a ≤ n
is_up_to a n h = grind (arith, nat_tests)

pub is_above : (a n : ℕ) → leb a n ≡ false → n < a
is_above a n h = grind (arith, nat_tests)

pub is_within : (a n : ℕ) → true ≡ ltb a n → a < n
is_within a n h = grind (arith, nat_tests)

pub is_past : (a n : ℕ) → false ≡ ltb a n → n ≤ a
is_past a n h = grind (arith, nat_tests)

pub past_all : (i : ℕ) (runs : List Run) → length runs ≤ i → None ≡ slice_get runs i
past_all i [] h = refl
past_all zero (run ∷ runs) h = absurd (omega (arith, h))
past_all (suc i) (run ∷ runs) h = past_all i runs (omega (arith, h))

-- the run found is the first one that reaches beyond the place
pub found : (n place i : ℕ) (before : Option Reason) (runs : List Run) → AreRuns n before runs → n ≤ place
    → ((k : ℕ) (d : Run) → k < i → (slice_index_or runs k d).up_to ≤ place)
    → ((d : Run) → i < length runs → place < (slice_index_or runs i d).up_to)
    → slice_get (expanded n runs) (place - n) ≡ option_map (λ run. run.reason) (slice_get runs i)
found n place i before [] are behind below above = refl
found n place zero before (run ∷ runs) are behind below above =
    get_in (run.up_to - n) (place - n) run.reason (expanded run.up_to runs)
    (let more = above run (omega arith) in omega (arith, behind, more))
found n place (suc i) before (run ∷ runs) are behind below above =
    let reached : run.up_to ≤ place = below 0 run (omega arith) in
    ap (slice_get (replicate (run.up_to - n) run.reason ++ expanded run.up_to runs)) (omega (arith, are.0, reached))
    ∙ get_behind (run.up_to - n) (place - run.up_to) run.reason (expanded run.up_to runs)
    ∙ found run.up_to place i (Some run.reason) runs are.2 reached
    (λ k d lt. below (suc k) d (omega (arith, lt)))
    (λ d lt. above d (omega (arith, lt)))

-- runs that rise, as a search by halves asks for it
pub parted : (n place : ℕ) (before : Option Reason) (runs : List Run) → AreRuns n before runs → IsPartitionedBy (λ (run : Run). leb run.up_to place) runs
parted n place before runs are = IsPartitionedBy-leb (λ (run : Run). run.up_to) runs place (rising n before runs are)
  where
    reach : (n k : ℕ) (before : Option Reason) (runs : List Run) (d : Run) → AreRuns n before runs → k < length runs → n ≤ (slice_index_or runs k d).up_to
    reach n k before [] d are lt = absurd (omega (arith, lt))
    reach n zero before (run ∷ runs) d are lt = omega (arith, are.0)
    reach n (suc k) before (run ∷ runs) d are lt = let rest = reach run.up_to k (Some run.reason) runs d are.2 (omega (arith, lt)) in omega (arith, are.0, rest)

    rising : (n : ℕ) (before : Option Reason) (runs : List Run) → AreRuns n before runs → IsNonDecreasingBy (λ (run : Run). run.up_to) runs
    rising n before [] are i j d le lt = absurd (omega (arith, lt))
    rising n before (run ∷ runs) are zero zero d le lt = omega arith
    rising n before (run ∷ runs) are zero (suc j) d le lt = reach run.up_to j (Some run.reason) runs d are.2 (omega (arith, lt))
    rising n before (run ∷ runs) are (suc i) zero d le lt = absurd (omega (arith, le))
    rising n before (run ∷ runs) are (suc i) (suc j) d le lt = rising run.up_to (Some run.reason) runs are.2 i j d (omega (arith, le)) (omega (arith, lt))

-- what a search by halves finds is the place's reason
pub at_place : (place i : ℕ) (runs : List Run) → AreRuns 0 None runs
    → ((k : ℕ) (d : Run) → 0 ≤ k → k < i → leb (slice_index_or runs k d).up_to place ≡ true)
    → ((k : ℕ) (d : Run) → i ≤ k → k < length runs → leb (slice_index_or runs k d).up_to place ≡ false)
    → slice_get (expanded 0 runs) place ≡ option_map (λ (run : Run). run.reason) (slice_get runs i)
at_place place i runs are below above =
    let e : place ≡ place - 0 = omega arith in
    ap (slice_get (expanded 0 runs)) e
    ∙ found 0 place i None runs are (omega arith)
    (λ k d lt. is_up_to (slice_index_or runs k d).up_to place (below k d (omega arith) lt))
    (λ d lt. is_above (slice_index_or runs i d).up_to place (above i d (omega arith) lt))

-- the last run --------------------------------------------------------------------------

end_at : (n k : ℕ) (runs : List Run) (run : Run) → k + 1 ≡ length runs → slice_get runs k ≡ Some run → end_of n runs ≡ run.up_to
end_at n k [] run at e = absurd (cc)
end_at n zero (a ∷ []) run at e = let same : a ≡ run = cc in ap (λ (r : Run). r.up_to) same
end_at n (suc k) (a ∷ []) run at e = absurd (cc)
end_at n zero (a ∷ b ∷ runs) run at e = absurd (omega (arith, at))
end_at n (suc k) (a ∷ b ∷ runs) run at e = end_at a.up_to k (b ∷ runs) run (omega (arith, at)) e

ends_at : (r : Reason) (k : ℕ) (runs : List Run) (run : Run) → k + 1 ≡ length runs → slice_get runs k ≡ Some run → of_reason.eq run.reason r ≡ last_is r runs
ends_at r k [] run at e = absurd (cc)
ends_at r zero (a ∷ []) run at e = let same : run ≡ a = cc in ap (λ (x : Run). of_reason.eq x.reason r) same
ends_at r (suc k) (a ∷ []) run at e = absurd (cc)
ends_at r zero (a ∷ b ∷ runs) run at e = absurd (omega (arith, at))
ends_at r (suc k) (a ∷ b ∷ runs) run at e = ends_at r k (b ∷ runs) run (omega (arith, at)) e

last_at : (runs : List Run) (run : Run) → slice_get runs (length runs - 1) ≡ Some run → (length runs - 1) + 1 ≡ length runs
last_at [] run e = absurd (cc)
last_at (a ∷ runs) run e = omega arith

pub end_is : (n : ℕ) (runs : List Run) (run : Run) → slice_get runs (length runs - 1) ≡ Some run → end_of n runs ≡ run.up_to
end_is n runs run e = end_at n (length runs - 1) runs run (last_at runs run e) e

pub ends_is : (r : Reason) (runs : List Run) (run : Run) → slice_get runs (length runs - 1) ≡ Some run → of_reason.eq run.reason r ≡ last_is r runs
ends_is r runs run e = ends_at r (length runs - 1) runs run (last_at runs run e) e

-- one more reason ------------------------------------------------------------------------

-- the last run is longer by one
pub longer : (runs old : List Run) (run : Run) (r : Reason) (up_to : ℕ) → old ≡ runs ++ run ∷ [] → AreRuns 0 None old → last_is r old ≡ true
    → up_to ≡ length (expanded 0 old) + 1
    → AreRuns 0 None (runs ++ record { up_to = up_to; reason = r } ∷ []) × (expanded 0 (runs ++ record { up_to = up_to; reason = r } ∷ []) ≡ expanded 0 old ++ r ∷ [])
longer runs old run r up_to e are same up =
    let was = pop_runs 0 None runs run (subst (AreRuns 0 None) e are) in
    let reason : run.reason ≡ r = reason_is run.reason r (sym (last_is_push r runs run) ∙ sym (ap (last_is r) e) ∙ same) in
    let all = counted 0 None (runs ++ run ∷ []) (subst (AreRuns 0 None) e are) ∙ end_push 0 runs run in
    let count : up_to ≡ run.up_to + 1 = omega (arith, up, ap (λ z. length (expanded 0 z)) e, all) in
    let fits : (run.up_to - end_of 0 runs) + 1 ≡ up_to - end_of 0 runs = omega (arith, was.1, count) in (
      push_runs 0 None runs (record { up_to = up_to; reason = r }) was.0 (omega (arith, was.1, count)) (λ h. was.2 (h ∙ ap Some (sym reason))),
      expanded_push 0 runs (record { up_to = up_to; reason = r })
          ∙ ap (λ n. expanded 0 runs ++ replicate n r) (sym fits)
          ∙ ap (λ z. expanded 0 runs ++ z) (sym (replicate_more (run.up_to - end_of 0 runs) r))
          ∙ sym (append_assoc (expanded 0 runs) (replicate (run.up_to - end_of 0 runs) r) (r ∷ []))
          ∙ ap (λ x. (expanded 0 runs ++ replicate (run.up_to - end_of 0 runs) x) ++ r ∷ []) (sym reason)
          ∙ ap (λ z. z ++ r ∷ []) (sym (expanded_push 0 runs run) ∙ sym (ap (expanded 0) e)),
    )

last_other : (before : Option Reason) (runs : List Run) (r : Reason) → last_is r runs ≡ false → (before ≡ Some r → ⊥) → last_of before runs ≡ Some r → ⊥
last_other before [] r e none h = none h
last_other before (a ∷ []) r e none h =
    let same : a.reason ≡ r = cc in
    let yes : of_reason.eq a.reason r ≡ true = ap (λ x. of_reason.eq x r) same ∙ reason_refl r in
    absurd (cc)
last_other before (a ∷ b ∷ runs) r e none h = last_other None (b ∷ runs) r e (λ k. absurd (cc)) h

-- a run of its own
pub begun : (old : List Run) (r : Reason) (up_to : ℕ) → AreRuns 0 None old → last_is r old ≡ false → up_to ≡ length (expanded 0 old) + 1
    → AreRuns 0 None (old ++ record { up_to = up_to; reason = r } ∷ []) × (expanded 0 (old ++ record { up_to = up_to; reason = r } ∷ []) ≡ expanded 0 old ++ r ∷ [])
begun old r up_to are other up =
    let all = counted 0 None old are in
    let fits : up_to - end_of 0 old ≡ 1 = omega (arith, up, all) in (
      push_runs 0 None old (record { up_to = up_to; reason = r }) are (omega (arith, up, all)) (last_other None old r other (λ k. absurd (cc))),
      expanded_push 0 old (record { up_to = up_to; reason = r }) ∙ ap (λ n. expanded 0 old ++ replicate n r) fits,
    )

-- what a reason that is pushed makes of the runs
abbrev pub Pushes : List Run → Reason → List Run → Type 0
Pushes old r new = AreRuns 0 None new × (expanded 0 new ≡ expanded 0 old ++ r ∷ [])

pub pushed_longer : (old runs : List Run) (last : Option Run) (r : Reason) (up_to : ℕ) → old ≡ runs ++ option_to_list last → (last ≡ None → old ≡ [])
    → AreRuns 0 None old → last_is r old ≡ true → up_to ≡ length (expanded 0 old) + 1 → Pushes old r (runs ++ record { up_to = up_to; reason = r } ∷ [])
pushed_longer old runs None r up_to e empty are same up =
    let none : old ≡ [] = empty refl in
    absurd (let h : false ≡ true = sym (ap (last_is r) none) ∙ same in cc)
pushed_longer old runs (Some run) r up_to e empty are same up = longer runs old run r up_to e are same up

-- the same reason in each place
pub filled : (old runs : List Run) (run : Run) (r : Reason) (new : List Run) → old ≡ runs ++ run ∷ [] → AreRuns 0 None old → new ≡ record { up_to = run.up_to; reason = r } ∷ []
    → AreRuns 0 None new × (expanded 0 new ≡ replicate (length (expanded 0 old)) r)
filled old runs run r new e are n =
    let was = pop_runs 0 None runs run (subst (AreRuns 0 None) e are) in
    let all = counted 0 None (runs ++ run ∷ []) (subst (AreRuns 0 None) e are) ∙ end_push 0 runs run in
    let some = was.1 in
    let long : run.up_to - 0 ≡ length (expanded 0 old) = omega (arith, ap (λ z. length (expanded 0 z)) e, all) in (
      subst (AreRuns 0 None) (sym n) (omega (arith, some), (λ h. absurd (cc)), tt),
      ap (expanded 0) n ∙ nothing (replicate (run.up_to - 0) r) ∙ ap (λ k. replicate k r) long,
    )
  where
    nothing : (xs : List Reason) → xs ++ [] ≡ xs
    nothing xs = grind (arith, common_steps)
