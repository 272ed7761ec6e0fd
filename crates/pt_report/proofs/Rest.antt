-- How many processes have operations left, as a run ends.
use Rattle.std.proofs.Common.{◌≡◌, inl, inr, ℕ, ◌+◌, ◌-◌, ◌^◌, ◌<◌, ◌≤◌, ◌==◌, ◌&&◌, Bool, true, false, cond, List, [], ◌∷◌, length, get_or, take, refl, sym, ap, ◌∙◌, arith}
use Rattle.std.specs.Prelude.{IfErr, MatchBool, Ok, Err, Result, count_by, min, sum_by}
use Rattle.std.specs.List.{zip}
use Rattle.std.proofs.lemmas.Bool.{eqb-true}
use Rattle.std.proofs.lemmas.List.{take_all}
use Rattle.std.proofs.lemmas.List.Sums.{sum_by_more}
use Rattle.std.proofs.lemmas.Slice.Zip.{get_or-zip, length-zip}
use Rattle.pt_gathered.specs.Gathered.{GatheredState}
use Rattle.pt_gathered.specs.LeftOvers.{all_left}
use Rattle.pt_signal.specs.declared.letter.LeftOver.{LeftOver}
use Rattle.pt_shard.specs.ShardState.{lives}
use Rattle.pt_desk.specs.DeskState.{DeskState}
use Rattle.pt_runner.specs.declared.runner.Runner.{Runner}
use Rattle.pt_runner.specs.Stepping.{processes_here}
use Rattle.pt_runner.specs.Waiting.{RunnersIdle}
use Rattle.pt_runner.proofs.Waiting.{idle_rests}
use Rattle.pt_report.specs.Epochs.{CameToRest, CanBegin, IsLeft, Staffed, alive_in, alive_on}

-- what holds of each fault
pub all_faults : {X Y : Type 0} (r : Result X Y) (P : Y → Type 0) → ((y : Y) → P y) → IfErr r P
all_faults (Ok x) P h = tt
all_faults (Err y) P h = h y

-- the desks are counted one after the other
pub one_more : (desks : List DeskState) (runners : List Runner) (i count n : ℕ) (x : DeskState) (r : Runner) → i < length desks → i < length runners → count ≡ min (sum_by alive_on (take i (zip desks runners))) (2 ^ 64 - 1)
    → n ≡ count_by (lives (get_or desks i x).shard) (processes_here (get_or runners i r)) → min (count + n) (2 ^ 64 - 1) ≡ min (sum_by alive_on (take (i + 1) (zip desks runners))) (2 ^ 64 - 1)
one_more desks runners i count n x r here there so_far more =
    let d : DeskState × Runner = (x, r) in
    let pairs = zip desks runners in
    let within : i < length pairs = omega (arith, length-zip desks runners, here, there) in
    let last : n ≡ alive_on (get_or pairs i d) = more ∙ sym (ap alive_on (get_or-zip desks runners i d here there)) in
    omega (arith, sum_by_more alive_on pairs i d within, last, so_far)

pub all_counted : (desks : List DeskState) (runners : List Runner) (i count : ℕ) → min (length desks) (length runners) ≤ i → count ≡ min (sum_by alive_on (take i (zip desks runners))) (2 ^ 64 - 1) → count ≡ alive_in (desks, runners)
all_counted desks runners i count all so_far =
    so_far ∙ ap (λ (ps : List (DeskState × Runner)). min (sum_by alive_on ps) (2 ^ 64 - 1)) (take_all i (zip desks runners) (omega (arith, length-zip desks runners, all)))

module _ (s : Staffed) (g : GatheredState) (begins : CanBegin s.0 s.1) where
  came : RunnersIdle s.1 s.0 → all_left g ≡ [] → CameToRest s g
  came idle none = record {
    idle = idle;
    rests = λ d r x lt. idle_rests (get_or s.1 d r) (get_or s.0 d x).shard (idle.each d r x (omega (arith, lt, idle.count))) (begins d r x lt);
    none_left = none;
  }

  -- a list with an element is not empty
  one_left : (x : LeftOver) (xs : List LeftOver) (b : Bool) → (length (x ∷ xs) == 0) ≡ b → (n : ℕ) → n ≡ cond b 0 (alive_in s) → n ≡ alive_in s
  one_left x xs true is n told = let none = eqb-true (length (x ∷ xs)) 0 is in absurd (omega (arith, none))
  one_left x xs false is n told = told

  by_left : (left : List LeftOver) → all_left g ≡ left → (idle : Bool) → MatchBool idle (RunnersIdle s.1 s.0) (RunnersIdle s.1 s.0 → ⊥) → (n : ℕ) → n ≡ cond (idle && (length left == 0)) 0 (alive_in s) → IsLeft s g n
  by_left left is false busy n told = inr (λ rest. busy rest.idle, told)
  by_left [] is true idle n told = inl (came idle is, told)
  by_left (x ∷ xs) is true idle n told = inr (λ rest. absurd (let e : [] ≡ x ∷ xs = sym rest.none_left ∙ is in cc), one_left x xs (length (x ∷ xs) == 0) refl n told)

  -- what is told of a run that has ended
  pub left_is : (idle : Bool) → MatchBool idle (RunnersIdle s.1 s.0) (RunnersIdle s.1 s.0 → ⊥) → (alive n : ℕ) → alive ≡ alive_in s → n ≡ cond (idle && (length (all_left g) == 0)) 0 alive → IsLeft s g n
  left_is idle holds alive n all told = by_left (all_left g) refl idle holds n (told ∙ ap (λ a. cond (idle && (length (all_left g) == 0)) 0 a) all)
