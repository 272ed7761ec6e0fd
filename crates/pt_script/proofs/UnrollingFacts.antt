-- How a list is written out, step by step.
use Rattle.std.proofs.Common.{◌≡◌, ℕ, zero, suc, ◌+◌, ◌-◌, ◌<◌, ◌≤◌, List, [], ◌∷◌, ◌++◌, Bool, true, false, length, get_or, drop, Some, None, Result, Ok, Err, refl, ap, sym, ◌∙◌, subst, arith}
use Rattle.std.specs.Prelude.{reverse, slice_get}
use Rattle.std.proofs.lemmas.Bool.{false≢true}
use Rattle.std.proofs.lemmas.List.{append-nil, append_assoc, at_drop_all, drop_more, get_or_push, length_push, reverse-append, reverse-reverse}
use Rattle.std.proofs.lemmas.Option.{none-some, same_Some, slice_get-get_or, slice_get_past}
use Rattle.pt_script.specs.declared.fault.Fault.TheVariants.{Bounds, Field}
use Rattle.pt_script.specs.declared.fault.ScriptError.{ScriptError}
use Rattle.pt_script.specs.declared.fault.ScriptError.TheVariants.{Memory, Refused}
use Rattle.pt_script.specs.declared.unrolling.Block.{Block}
use Rattle.pt_script.specs.declared.unrolling.Block.TheVariants.{Branch}
use Rattle.pt_script.specs.declared.values.Operation.{Operation}
use Rattle.pt_script.specs.declared.values.Operation.TheVariants.{If}
use Rattle.pt_script.specs.declared.values.Pattern.{Pattern}
use Rattle.pt_script.specs.Lists.{ScriptRefuses}
use Rattle.pt_script.specs.Plans.{Plan}
use Rattle.pt_script.specs.Steps.{◌>>=◌}
use Rattle.pt_script.specs.Unrolling.{Reached, Further, Ended, On, Wrong, GoesPast, onward, past_next, further, at_branch, at_last, operation_before, begun_at, refused, unrolled_from, unrolled_list, unrolled_plans, Unrolled, with_operation}

-- the operation before a place that is not the first
pub before_is : (os : List Operation) (place : ℕ) → (place ≡ 0 → ⊥) → operation_before os place ≡ slice_get os (place - 1)
before_is os zero some = absurd (some refl)
before_is os (suc place) some = ap (slice_get os) (omega arith)

-- a branch that begins
pub branched : (b : Bool) (r w : Reached) (p : Pattern) (bs : List Block) → b ≡ true → w ≡ with_operation r (If p) → bs ≡ Branch r.place ∷ w.blocks → at_branch b r p ≡ On (record w { blocks = bs })
branched b r w p bs can is more =
    let with_more : List Block → Reached = λ xs. record w { blocks = xs } in
    let of_write : Reached → Reached = λ v. record v { blocks = Branch r.place ∷ v.blocks } in
    ap (λ c. at_branch c r p) can ∙ ap On (sym (ap with_more more ∙ ap of_write is))

pub reverse_push : (bs : List Block) (b : Block) → reverse (bs ++ b ∷ []) ≡ b ∷ reverse bs
reverse_push bs b = reverse-append bs (b ∷ [])

-- what the end of a list is, by the cases of how many are left
onward_ended : (left process : ℕ) (os : List Operation) (r : Reached) → onward left process os r Ended ≡ Ok (record { operations = r.operations; left = left })
unfolding onward
onward_ended zero process os r = refl
onward_ended (suc left) process os r = refl

onward_wrong : (left process : ℕ) (os : List Operation) (r : Reached) (op : ℕ) → onward left process os r (Wrong op) ≡ Err (refused Field process op)
unfolding onward
onward_wrong zero process os r op = refl
onward_wrong (suc left) process os r op = refl

onward_over : (process : ℕ) (os : List Operation) (r next : Reached) → onward 0 process os r (On next) ≡ Err (refused Bounds process r.place)
unfolding onward
onward_over process os r next = refl

onward_on : (left process : ℕ) (os : List Operation) (r next : Reached) → onward (suc left) process os r (On next) ≡ unrolled_from left process os next
unfolding onward
onward_on left process os r next = refl

passed : (b : Bool) (old new : Reached) (f : Further) → b ≡ true → GoesPast (Ok b) old new f → f ≡ On new
passed true old new f is h = h
passed false old new f is h = absurd (false≢true is)

not_passed : (b : Bool) (old new : Reached) (f : Further) → b ≡ false → GoesPast (Ok b) old new f → f ≡ Wrong old.place
not_passed true old new f is h = absurd (false≢true (sym is))
not_passed false old new f is h = h

refuses : {A : Type 0} (e : ScriptError) (process op : ℕ) (read : Result A ScriptError) → e ≡ refused Field process op → read ≡ Err (refused Field process op) → ScriptRefuses e read
refuses e process op read is h = subst (λ x. ScriptRefuses x read) (sym is) h

-- an operation that may not stand at its place
pub refuses_wrong : (left process : ℕ) (os : List Operation) (old new : Reached) (o : Operation) (b : Bool) (e : ScriptError) → slice_get os old.place ≡ Some o → b ≡ false → GoesPast (Ok b) old new (past_next os old (Some o)) → e ≡ refused Field process old.place → ScriptRefuses e (unrolled_from left process os old)
refuses_wrong left process os old new o b e here not h is =
    refuses e process old.place (unrolled_from left process os old) is
    (ap (onward left process os old) (ap (past_next os old) here ∙ not_passed b old new (past_next os old (Some o)) not h) ∙ onward_wrong left process os old old.place)

-- an operation that is one too many
pub refuses_over : (left process : ℕ) (os : List Operation) (old new : Reached) (o : Operation) (b : Bool) (e : ScriptError) → slice_get os old.place ≡ Some o → b ≡ true → GoesPast (Ok b) old new (past_next os old (Some o)) → left ≡ 0 → e ≡ refused Bounds process old.place → ScriptRefuses e (unrolled_from left process os old)
refuses_over left process os old new o b e here may h none is =
    subst (λ x. ScriptRefuses x (unrolled_from left process os old)) (sym is)
    (ap (λ k. unrolled_from k process os old) none ∙ ap (onward 0 process os old) (ap (past_next os old) here ∙ passed b old new (past_next os old (Some o)) may h) ∙ onward_over process os old new)

-- behind one step
pub next_from : (left after process : ℕ) (os : List Operation) (old new : Reached) → (further os old ≡ On new) × (left ≡ suc after) → unrolled_from after process os new ≡ unrolled_from left process os old
next_from left after process os old new h =
    sym (ap (λ k. unrolled_from k process os old) h.1 ∙ ap (onward (suc after) process os old) h.0 ∙ onward_on after process os old new)

at_end_of : (os : List Operation) (r : Reached) (bs : List Block) → length os ≤ r.place → r.blocks ≡ bs → further os r ≡ at_last bs
at_end_of os r bs past_all are = ap (past_next os r) (slice_get_past os r.place past_all) ∙ ap at_last are

-- a list that ends outside of all blocks
pub ended : (left process : ℕ) (os : List Operation) (r : Reached) → length os ≤ r.place → r.blocks ≡ [] → unrolled_from left process os r ≡ Ok (record { operations = r.operations; left = left })
ended left process os r past_all none = ap (onward left process os r) (at_end_of os r [] past_all none) ∙ onward_ended left process os r

-- and one that ends in a block
pub ended_open : (left process : ℕ) (os : List Operation) (r : Reached) (b : Block) (bs : List Block) (e : ScriptError) → length os ≤ r.place → r.blocks ≡ b ∷ bs → e ≡ refused Field process (begun_at b) → ScriptRefuses e (unrolled_from left process os r)
ended_open left process os r b bs e past_all some is =
    refuses e process (begun_at b) (unrolled_from left process os r) is
    (ap (onward left process os r) (at_end_of os r (b ∷ bs) past_all some) ∙ onward_wrong left process os r (begun_at b))

last_pushed : (bs : List Block) (b : Block) → slice_get (bs ++ b ∷ []) (length (bs ++ b ∷ []) - 1) ≡ Some b
last_pushed bs b =
    let size : length (bs ++ b ∷ []) ≡ length bs + 1 = length_push bs b in
    slice_get-get_or (bs ++ b ∷ []) (length (bs ++ b ∷ []) - 1) b (omega (arith, size))
    ∙ ap Some (get_or_push bs b b (length (bs ++ b ∷ []) - 1) (omega (arith, size)))

-- the last of a list that was pushed to is the innermost block
innermost : (bs : List Block) (b : Block) → slice_get (reverse bs) (length (reverse bs) - 1) ≡ Some b → (xs : List Block) × (bs ≡ b ∷ xs)
innermost [] b e = absurd (none-some b e)
innermost (x ∷ xs) b e =
    let turned : reverse (x ∷ xs) ≡ reverse xs ++ x ∷ [] = reverse-append (x ∷ []) xs in
    let last : Some x ≡ Some b = sym (ap (λ ys. slice_get ys (length ys - 1)) turned ∙ last_pushed (reverse xs) x) ∙ e in
    (xs, ap (λ y. y ∷ xs) (same_Some x b last))

some_innermost : (bs : List Block) → slice_get (reverse bs) (length (reverse bs) - 1) ≡ None → bs ≡ []
some_innermost [] e = refl
some_innermost (x ∷ xs) e =
    let turned : reverse (x ∷ xs) ≡ reverse xs ++ x ∷ [] = reverse-append (x ∷ []) xs in
    absurd (none-some x (sym e ∙ ap (λ ys. slice_get ys (length ys - 1)) turned ∙ last_pushed (reverse xs) x))

pub innermost_of : (items same : List Block) (b : Block) → same ≡ items → Some b ≡ slice_get same (length same - 1) → (xs : List Block) × (reverse items ≡ b ∷ xs)
innermost_of items same b is e = innermost (reverse items) b (ap (λ ys. slice_get ys (length ys - 1)) (reverse-reverse items ∙ sym is) ∙ sym e)

pub no_innermost : (items same : List Block) → same ≡ items → None ≡ slice_get same (length same - 1) → reverse items ≡ []
no_innermost items same is e = some_innermost (reverse items) (ap (λ ys. slice_get ys (length ys - 1)) (reverse-reverse items ∙ sym is) ∙ sym e)

-- processes -------------------------------------------------------------------------

abbrev pub plan_of : Bool → List Operation → Plan
plan_of trap os = record { trap = trap; operations = os }

-- what was written out before, and then what is written out of the rest
abbrev pub behind : List Plan → Result (List Plan) ScriptError → Result (List Plan) ScriptError
behind done rest = rest >>= λ ps. Ok (done ++ ps)

behind_cons : (done : List Plan) (p : Plan) (rest : Result (List Plan) ScriptError) → behind done (rest >>= λ ps. Ok (p ∷ ps)) ≡ behind (done ++ p ∷ []) rest
behind_cons done p (Ok ps) = ap Ok (sym (append_assoc done (p ∷ []) ps))
behind_cons done p (Err e) = refl

plans_more : (left process : ℕ) (p : Plan) (ps done : List Plan) (one : Unrolled) (all : Result (List Plan) ScriptError) → unrolled_list left process p.operations ≡ Ok one → behind done (unrolled_plans left process (p ∷ ps)) ≡ all → behind (done ++ record { trap = p.trap; operations = one.operations } ∷ []) (unrolled_plans one.left (process + 1) ps) ≡ all
unfolding unrolled_plans
plans_more left process p ps done one all wrote before =
    sym (behind_cons done (record { trap = p.trap; operations = one.operations }) (unrolled_plans one.left (process + 1) ps))
    ∙ ap (λ r. behind done (r >>= λ u. (unrolled_plans u.left (process + 1) ps >>= λ qs. Ok (record { trap = p.trap; operations = u.operations } ∷ qs)))) (sym wrote)
    ∙ before

plans_fault : (left process : ℕ) (p : Plan) (ps done : List Plan) (e : ScriptError) (all : Result (List Plan) ScriptError) → unrolled_list left process p.operations ≡ Err e → behind done (unrolled_plans left process (p ∷ ps)) ≡ all → all ≡ Err e
unfolding unrolled_plans
plans_fault left process p ps done e all wrote before =
    sym before ∙ ap (λ r. behind done (r >>= λ u. (unrolled_plans u.left (process + 1) ps >>= λ qs. Ok (record { trap = p.trap; operations = u.operations } ∷ qs)))) wrote

-- the same of processes by their place
at_next : (left i : ℕ) (ps done : List Plan) (p : Plan) (all : Result (List Plan) ScriptError) → i < length ps → p ≡ get_or ps i p → behind done (unrolled_plans left i (drop i ps)) ≡ all → behind done (unrolled_plans left i (p ∷ drop (i + 1) ps)) ≡ all
at_next left i ps done p all lt here before = ap (λ qs. behind done (unrolled_plans left i qs)) (ap (λ q. q ∷ drop (i + 1) ps) here ∙ sym (drop_more ps i p lt)) ∙ before

pub next_plan : (left after i : ℕ) (ps done : List Plan) (p : Plan) (os : List Operation) (all : Result (List Plan) ScriptError) → i < length ps → p ≡ get_or ps i p → unrolled_list left i p.operations ≡ Ok (record { operations = os; left = after }) → behind done (unrolled_plans left i (drop i ps)) ≡ all → behind (done ++ record { trap = p.trap; operations = os } ∷ []) (unrolled_plans after (i + 1) (drop (i + 1) ps)) ≡ all
next_plan left after i ps done p os all lt here wrote before =
    plans_more left i p (drop (i + 1) ps) done (record { operations = os; left = after }) all wrote (at_next left i ps done p all lt here before)

pub refuses_plan : (left i : ℕ) (ps done : List Plan) (p : Plan) (e : ScriptError) (all : Result (List Plan) ScriptError) → i < length ps → p ≡ get_or ps i p → ScriptRefuses e (unrolled_list left i p.operations) → behind done (unrolled_plans left i (drop i ps)) ≡ all → ScriptRefuses e all
refuses_plan left i ps done p Memory all lt here wrote before = tt
refuses_plan left i ps done p (Refused fault place) all lt here wrote before =
    plans_fault left i p (drop (i + 1) ps) done (Refused fault place) all wrote (at_next left i ps done p all lt here before)

no_plans : (left process : ℕ) (done : List Plan) → behind done (unrolled_plans left process []) ≡ Ok done
unfolding unrolled_plans
no_plans left process done = ap Ok (append-nil done)

pub last_plan : (left i : ℕ) (ps done : List Plan) (all : Result (List Plan) ScriptError) → length ps ≤ i → behind done (unrolled_plans left i (drop i ps)) ≡ all → all ≡ Ok done
last_plan left i ps done all past_all before =
    sym before ∙ at_drop_all (λ qs. behind done (unrolled_plans left i qs)) ps i past_all ∙ no_plans left i done
