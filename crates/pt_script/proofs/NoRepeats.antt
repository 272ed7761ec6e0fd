-- A script that was read has no repeat left: in format 3 its repeats are written out, and before there are none.
use Rattle.std.proofs.Common.{◌≡◌, ℕ, zero, suc, ◌+◌, ◌<◌, List, [], ◌∷◌, ◌++◌, Bool, true, false, length, map, Option, Some, None, Result, Ok, Err, refl, sym, subst, arith}
use Rattle.std.specs.Prelude.{IfOk, if◌then◌else◌, nat_le, slice_get}
use Rattle.std.specs.List.{All}
use Rattle.std.proofs.lemmas.List.Elements.{All-nil, All-cons, All-append, All-push}
use Rattle.pt_script.specs.declared.fault.ScriptError.{ScriptError}
use Rattle.pt_script.specs.declared.unrolling.Block.{Block}
use Rattle.pt_script.specs.declared.unrolling.Block.TheVariants.{Branch, Loop, Otherwise}
use Rattle.pt_script.specs.declared.values.Operation.{Operation}
use Rattle.pt_script.specs.declared.values.Operation.TheVariants as operation
use Rattle.pt_script.specs.declared.values.Pattern.{Pattern}
use Rattle.pt_script.specs.declared.values.Settings.{Settings}
use Rattle.pt_script.specs.declared.values.Top.{Top}
use Rattle.pt_script.specs.Plans.{Plan, Whole}
use Rattle.pt_script.specs.Scripts.{as_written, reading}
use Rattle.pt_script.specs.Sights.{Begins, BeginsIn, IsWellFormed, ListBegins, NameSight, NoneBegins, StepBegins, TopsBegin, first_sight, number_of, sight_behind}
use Rattle.pt_script.specs.Steps.{◌>>=◌}
use Rattle.pt_script.specs.Unrolling.{Reached, Further, Ended, On, Wrong, Unrolled, HasNoRepeat, HasNoRepeats, IsNoRepeat, at_again, at_branch, at_else, at_end, at_first, at_last, further, may_branch, next_round, onward, operation_before, operation_now, past_next, unrolled, unrolled_list, unrolled_plans, unrolled_processes, with_operation}
use Rattle.pt_script.proofs.SeesScripts.{accepted_back}

-- what is written out ------------------------------------------------------------------

-- Each operation that is written out has this, if each one of the list has it, with whatever its tags stand for.
module _ (P : Operation → Type 0) (os : List Operation) (now : (place : ℕ) (o : Operation) (tags : List ℕ) → slice_get os place ≡ Some o → IsNoRepeat o → P (operation_now tags o))
    (monitor : (to tag : ℕ) → P (operation.Monitor to tag)) (ask : (to tag : ℕ) → P (operation.Alive to tag)) where
  -- what is reached has it
  abbrev AllBehind : Further → Type 0
  AllBehind Ended = Unit {0}
  AllBehind (On next) = All P next.operations
  AllBehind (Wrong op) = Unit {0}

  pushed : (r : Reached) (o : Operation) → slice_get os r.place ≡ Some o → All P r.operations → IsNoRepeat o → All P (with_operation r o).operations
  pushed r o at h is = All-push P r.operations (operation_now r.tags o) h (now r.place o r.tags at is)

  all_last : (bs : List Block) → AllBehind (at_last bs)
  all_last [] = tt
  all_last (b ∷ bs) = tt

  all_branch : (b : Bool) (r : Reached) (p : Pattern) → slice_get os r.place ≡ Some (operation.If p) → All P r.operations → AllBehind (at_branch b r p)
  all_branch true r p at h = pushed r (operation.If p) at h tt
  all_branch false r p at h = tt

  all_else : (bs : List Block) (r : Reached) → slice_get os r.place ≡ Some operation.Else → All P r.operations → AllBehind (at_else bs r)
  all_else [] r at h = tt
  all_else (Branch begun ∷ bs) r at h = pushed r operation.Else at h tt
  all_else (Otherwise begun ∷ bs) r at h = tt
  all_else (Loop begun left ∷ bs) r at h = tt

  all_end : (bs : List Block) (r : Reached) → slice_get os r.place ≡ Some operation.End → All P r.operations → AllBehind (at_end bs r)
  all_end [] r at h = tt
  all_end (Branch begun ∷ bs) r at h = pushed r operation.End at h tt
  all_end (Otherwise begun ∷ bs) r at h = pushed r operation.End at h tt
  all_end (Loop begun left ∷ bs) r at h = tt

  all_round : (begun left : ℕ) (bs : List Block) (r : Reached) → All P r.operations → All P (next_round begun left bs r).operations
  all_round begun zero bs r h = h
  all_round begun (suc left) bs r h = h

  all_again : (bs : List Block) (r : Reached) → All P r.operations → AllBehind (at_again bs r)
  all_again [] r h = tt
  all_again (Branch begun ∷ bs) r h = tt
  all_again (Otherwise begun ∷ bs) r h = tt
  all_again (Loop begun left ∷ bs) r h = all_round begun left bs r h

  all_next : (r : Reached) (o : Option Operation) → slice_get os r.place ≡ o → All P r.operations → AllBehind (past_next os r o)
  all_next r None at h = all_last r.blocks
  all_next r (Some (operation.If p)) at h = all_branch (may_branch (operation_before os r.place)) r p at h
  all_next r (Some operation.Else) at h = all_else r.blocks r at h
  all_next r (Some operation.End) at h = all_end r.blocks r at h
  all_next r (Some (operation.Repeat times)) at h = h
  all_next r (Some operation.Again) at h = all_again r.blocks r h
  all_next r (Some (operation.Monitor to tag)) at h = All-push P r.operations (operation.Monitor to r.made) h (monitor to r.made)
  all_next r (Some (operation.Alive to tag)) at h = All-push P r.operations (operation.Alive to r.made) h (ask to r.made)
  all_next r (Some o) at h = pushed r o at h tt

  all_onward : (left process : ℕ) (r : Reached) (f : Further) → All P r.operations → AllBehind f → IfOk (onward left process os r f) (λ u. All P u.operations)
  unfolding onward
  all_onward zero process r Ended h g = h
  all_onward (suc left) process r Ended h g = h
  all_onward zero process r (Wrong op) h g = tt
  all_onward (suc left) process r (Wrong op) h g = tt
  all_onward zero process r (On next) h g = tt
  all_onward (suc left) process r (On next) h g = all_onward left process next (further os next) g (all_next next (slice_get os next.place) refl g)

  pub all_written : (left process : ℕ) → IfOk (unrolled_list left process os) (λ u. All P u.operations)
  all_written left process = all_onward left process at_first (further os at_first) (All-nil P) (all_next at_first (slice_get os 0) refl (All-nil P))

-- format 3 -----------------------------------------------------------------------------

abbrev NoRepeats : List Operation → Type 0
NoRepeats os = All IsNoRepeat os

abbrev NoneOut : Result Unrolled ScriptError → Type 0
NoneOut written = IfOk written (λ u. NoRepeats u.operations)

none_now : (tags : List ℕ) (o : Operation) → IsNoRepeat o → IsNoRepeat (operation_now tags o)
none_now tags (operation.Receive p) h = tt
none_now tags (operation.Check p) h = tt
none_now tags (operation.ReceiveAfter p tries) h = tt
none_now tags (operation.If p) h = tt
none_now tags (operation.Demonitor tag flush) h = tt
none_now tags o h = h

none_list : (left process : ℕ) (os : List Operation) → NoneOut (unrolled_list left process os)
none_list left process os = all_written IsNoRepeat os (λ place o tags at h. none_now tags o h) (λ to tag. tt) (λ to tag. tt) left process

abbrev NonePlans : Result (List Plan) ScriptError → Type 0
NonePlans written = IfOk written (λ ps. All HasNoRepeat ps)

none_more : (trap : Bool) (one : Unrolled) → NoRepeats one.operations → (others : Result (List Plan) ScriptError) → NonePlans others → NonePlans (others >>= λ qs. Ok (record { trap = trap; operations = one.operations } ∷ qs))
none_more trap one h (Ok qs) g = All-cons HasNoRepeat (record { trap = trap; operations = one.operations }) qs h g
none_more trap one h (Err e) g = tt

none_first : (trap : Bool) (process : ℕ) (ps : List Plan) (one : Result Unrolled ScriptError) → NoneOut one → ((u : Unrolled) → NonePlans (unrolled_plans u.left process ps)) → NonePlans (one >>= λ u. (unrolled_plans u.left process ps >>= λ qs. Ok (record { trap = trap; operations = u.operations } ∷ qs)))
none_first trap process ps (Ok one) h rest = none_more trap one h (unrolled_plans one.left process ps) (rest one)
none_first trap process ps (Err e) h rest = tt

none_plans : (left process : ℕ) (ps : List Plan) → NonePlans (unrolled_plans left process ps)
unfolding unrolled_plans
none_plans left process [] = All-nil HasNoRepeat
none_plans left process (p ∷ ps) = none_first p.trap (process + 1) ps (unrolled_list left process p.operations) (none_list left process p.operations) (λ u. none_plans u.left (process + 1) ps)

-- formats 1 and 2 ------------------------------------------------------------------------

abbrev IsOld : ℕ → Type 0
IsOld format = format < 3

-- what begins so has no repeat, in its list or in those of the processes in it
abbrev HasNone : Begins → Type 0
HasNone Inner = (v : NameSight) (next : ℕ) (os : List Operation) (ps : List Plan) → IsOld v.format → Inner v next os ps → NoRepeats os × All HasNoRepeat ps

no_plans : (ps : List Plan) → ps ≡ [] → All HasNoRepeat ps
no_plans ps none = subst (λ qs. All HasNoRepeat qs) (sym none) (All-nil HasNoRepeat)

step_has_none : (Inner : Begins) → HasNone Inner → (v : NameSight) (next : ℕ) (o : Operation) (ps : List Plan) → IsOld v.format → StepBegins Inner v next o ps → IsNoRepeat o × All HasNoRepeat ps
step_has_none Inner inner v next (operation.Spawn n linked) [] old h = absurd h
step_has_none Inner inner v next (operation.Spawn n linked) (child ∷ inside) old h =
    let both = inner (first_sight v.format next (Some v.own) v.tops) (next + 1) child.operations inside old h.1 in
    (tt, All-cons HasNoRepeat child inside both.0 both.1)
step_has_none Inner inner v next (operation.Repeat times) ps old h = absurd (omega (arith, old, h.0.0))
step_has_none Inner inner v next operation.Again ps old h = absurd (omega (arith, old, h.0))
step_has_none Inner inner v next o ps old h = (tt, no_plans ps h.1)

same_format : (v : NameSight) (o : Operation) → (sight_behind v o).format ≡ v.format
same_format v (operation.Monitor to tag) = refl
same_format v (operation.Alive to tag) = refl
same_format v (operation.Spawn process linked) = refl
same_format v o = refl

list_has_none : (Inner : Begins) → HasNone Inner → HasNone (ListBegins Inner)
list_has_none Inner inner v next [] ps old h = (All-nil IsNoRepeat, no_plans ps h)
list_has_none Inner inner v next (o ∷ os) ps old h =
    let mine = step_has_none Inner inner v next o h.0 old h.3 in
    let others = list_has_none Inner inner (sight_behind v o) (next + length h.0) os h.1 (subst IsOld (sym (same_format v o)) old) h.4 in
    (All-cons IsNoRepeat o os mine.0 others.0, subst (λ qs. All HasNoRepeat qs) (sym h.2) (All-append HasNoRepeat h.0 h.1 mine.1 others.1))

begun_has_none : (levels : ℕ) → HasNone (BeginsIn levels)
unfolding BeginsIn
begun_has_none zero v next os ps old h = list_has_none NoneBegins (λ u n qs rs young g. absurd g) v next os ps old h
begun_has_none (suc levels) v next os ps old h = list_has_none (λ u n qs rs. BeginsIn levels u n qs rs) (begun_has_none levels) v next os ps old h

tops_have_none : (s : Settings) (tops : List ℕ) (next : ℕ) (ts : List Top) (ps : List Plan) → IsOld s.format → TopsBegin s tops next ts ps → All HasNoRepeat ps
tops_have_none s tops next [] ps old h = no_plans ps h
tops_have_none s tops next (t ∷ ts) ps old h =
    let first : Plan = h.0 in
    let inside : List Plan = h.1 in
    let others : List Plan = h.2 in
    let both = begun_has_none 8 (first_sight s.format next None tops) (next + 1) first.operations inside old h.6 in
    let rest = tops_have_none s tops (next + 1 + length inside) ts others old h.7 in
    subst (λ qs. All HasNoRepeat qs) (sym h.3) (All-cons HasNoRepeat first (inside ++ others) both.0 (All-append HasNoRepeat inside others both.1 rest))

-- scripts --------------------------------------------------------------------------------

of_format : (ps : List Plan) (b : Bool) → (b ≡ false → All HasNoRepeat ps) → NonePlans (if b then unrolled_plans 65536 0 ps else Ok ps)
of_format ps true h = none_plans 65536 0 ps
of_format ps false h = h refl

of_plans : (w : Whole) (r : Result (List Plan) ScriptError) → NonePlans r → IfOk (r >>= λ ps. Ok (record w { processes = ps })) HasNoRepeats
of_plans w (Ok ps) h = h
of_plans w (Err e) h = tt

unrolled_has_none : (w : Whole) → IsWellFormed w → IfOk (unrolled w) HasNoRepeats
unrolled_has_none w formed =
    let young : nat_le 3 w.settings.format ≡ false → w.settings.format < 3 = λ e. grind (arith, e) in
    of_plans w (unrolled_processes w.settings.format w.processes) (of_format w.processes (nat_le 3 w.settings.format) (λ e. tops_have_none w.settings (map number_of w.tops) 0 w.tops w.processes (young e) formed.begins))

run_has_none : (r : Result Whole ScriptError) (w : Whole) → ((v : Whole) → r ≡ Ok v → IsWellFormed v) → r >>= unrolled ≡ Ok w → HasNoRepeats w
run_has_none (Ok v) w formed is = subst (λ x. IfOk x HasNoRepeats) is (unrolled_has_none v (formed v refl))
run_has_none (Err e) w formed is = cc

pub accepted_has_none : (bytes : List ℕ) (w : Whole) → reading bytes ≡ Ok w → HasNoRepeats w
unfolding reading
accepted_has_none bytes w is = run_has_none (as_written bytes) w (λ v e. (accepted_back bytes v e).0) is
