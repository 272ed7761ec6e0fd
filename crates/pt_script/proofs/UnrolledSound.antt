-- Writing the repeats out keeps a script sound, and what it refuses has its place in the list.
use Rattle.std.proofs.Common.{◌≡◌, ℕ, zero, suc, ◌+◌, ◌-◌, ◌<◌, ◌≤◌, List, [], ◌∷◌, ◌++◌, Bool, true, false, length, length-set, take, Option, Some, None, refl, ap, ◌∙◌, subst, arith}
use Rattle.std.specs.Prelude.{if◌then◌else◌, nat_lt, slice_get, slice_set, sum_by}
use Rattle.std.specs.List.{All}
use Rattle.std.proofs.lemmas.List.{length_push}
use Rattle.std.proofs.lemmas.List.Elements.{All-nil, All-cons, All-head, All-tail, All-push, All-set, All-weaker}
use Rattle.std.proofs.lemmas.List.Sums.{sum_by-cons, sum_by_push, sum_by_more}
use Rattle.std.proofs.lemmas.Option.{none-some, same_Some, get_or_from_slice_get, slice_get_within}
use Rattle.pt_script.specs.declared.unrolling.Block.{Block}
use Rattle.pt_script.specs.declared.unrolling.Block.TheVariants.{Branch, Loop, Otherwise}
use Rattle.pt_script.specs.declared.values.Operation.{Operation}
use Rattle.pt_script.specs.declared.values.Operation.TheVariants as operation
use Rattle.pt_script.specs.declared.values.Pattern.{Pattern}
use Rattle.pt_script.specs.declared.values.Pattern.TheVariants as pattern
use Rattle.pt_script.specs.Sound.{Fits, ListFits, PatternFits, tags_made}
use Rattle.pt_script.specs.Unrolling.{Reached, Further, Ended, On, Wrong, past_next, further, at_first, at_last, at_branch, at_else, at_end, at_again, operation_before, begun_at, may_branch, next_round, operation_now, pattern_now, with_operation, with_maker, with_repeat, with_tag}

-- how many tags a list makes
abbrev pub makers : List Operation → ℕ
makers os = sum_by tags_made os

-- one more operation behind a list
fits_push : (n made : ℕ) (os : List Operation) (o : Operation) → ListFits n made os → Fits n (made + makers os) o → ListFits n made (os ++ o ∷ [])
fits_push n made [] o h f = (subst (λ k. Fits n k o) (omega arith) f, tt)
fits_push n made (p ∷ os) o h f = (h.0, fits_push n (made + tags_made p) os o h.1 (subst (λ k. Fits n k o) (omega (arith, sum_by-cons tags_made p os)) f))

-- an operation of a list
fits_at : (n made : ℕ) (os : List Operation) (i : ℕ) (o : Operation) → ListFits n made os → slice_get os i ≡ Some o → Fits n (made + makers (take i os)) o
fits_at n made [] i o h e = absurd (none-some o e)
fits_at n made (p ∷ os) zero o h e = subst (λ x. Fits n (made + 0) x) (same_Some p o e) (subst (λ k. Fits n k p) (omega arith) h.0)
fits_at n made (p ∷ os) (suc i) o h e = subst (λ k. Fits n k o) (omega (arith, sum_by-cons tags_made p (take i os))) (fits_at n (made + tags_made p) os i o h.1 e)

fits_here : (n : ℕ) (os : List Operation) (i : ℕ) (o : Operation) → ListFits n 0 os → slice_get os i ≡ Some o → Fits n (makers (take i os)) o
fits_here n os i o h e = subst (λ k. Fits n k o) (omega arith) (fits_at n 0 os i o h e)

-- how many tags those make that are passed then
makers_next : (os : List Operation) (i : ℕ) (o : Operation) → slice_get os i ≡ Some o → makers (take (i + 1) os) ≡ makers (take i os) + tags_made o
makers_next os i o e = sum_by_more tags_made os i o (slice_get_within os i o e) ∙ ap (λ x. makers (take i os) + tags_made x) (get_or_from_slice_get os i o o e)

-- what the tags stand for ------------------------------------------------------------

abbrev AllMade : ℕ → List ℕ → Type 0
AllMade made tags = All (λ t. t < made) tags

pattern_fits : (n made m : ℕ) (tags : List ℕ) (p : Pattern) → m ≤ length tags → AllMade made tags → PatternFits n m p → PatternFits n made (pattern_now tags p)
pattern_fits n made m tags pattern.Any le all h = tt
pattern_fits n made m tags (pattern.Kind k) le all h = tt
pattern_fits n made m tags (pattern.From k) le all h = h
pattern_fits n made m tags (pattern.ExitOf k) le all h = h
pattern_fits n made m tags (pattern.DownOf tag) le all h = all tag 0 (omega (arith, h, le))
pattern_fits n made m tags (pattern.AliveOf tag) le all h = all tag 0 (omega (arith, h, le))

operation_fits : (n made m : ℕ) (tags : List ℕ) (o : Operation) → m ≤ length tags → AllMade made tags → tags_made o ≡ 0 → Fits n m o → Fits n made (operation_now tags o)
operation_fits n made m tags (operation.Send to kind num who) le all e h = h
operation_fits n made m tags (operation.Receive p) le all e h = pattern_fits n made m tags p le all h
operation_fits n made m tags (operation.Check p) le all e h = pattern_fits n made m tags p le all h
operation_fits n made m tags (operation.ReceiveAfter p tries) le all e h = pattern_fits n made m tags p le all h
operation_fits n made m tags (operation.If p) le all e h = pattern_fits n made m tags p le all h
operation_fits n made m tags (operation.Demonitor tag flush) le all e h = all tag 0 (omega (arith, h, le))
operation_fits n made m tags (operation.Monitor to tag) le all e h = absurd (omega (arith, e))
operation_fits n made m tags (operation.Alive to tag) le all e h = absurd (omega (arith, e))
operation_fits n made m tags o le all e h = h

makes_none : (tags : List ℕ) (o : Operation) → tags_made o ≡ 0 → tags_made (operation_now tags o) ≡ 0
makes_none tags (operation.Monitor to tag) e = e
makes_none tags o e = e

tags_all : (made tag : ℕ) (tags : List ℕ) (b : Bool) → AllMade made tags → AllMade (made + 1) (if b then slice_set tags tag made else tags ++ made ∷ [])
tags_all made tag tags true h = All-set (λ t. t < made + 1) tags tag made (omega arith) (All-weaker (λ t. t < made) (λ t. t < made + 1) (λ t lt. omega (arith, lt)) tags h)
tags_all made tag tags false h = All-push (λ t. t < made + 1) tags made (All-weaker (λ t. t < made) (λ t. t < made + 1) (λ t lt. omega (arith, lt)) tags h) (omega arith)

tags_grow : (made tag : ℕ) (tags : List ℕ) (b : Bool) → nat_lt tag (length tags) ≡ b → tag ≤ length tags → (length tags ≤ length (if b then slice_set tags tag made else tags ++ made ∷ [])) × (tag + 1 ≤ length (if b then slice_set tags tag made else tags ++ made ∷ []))
tags_grow made tag tags true e le =
    let lt : tag < length tags = grind arith in
    (omega (arith, length-set tags tag made), omega (arith, lt, length-set tags tag made))
tags_grow made tag tags false e le = (omega (arith, length_push tags made), omega (arith, le, length_push tags made))

-- what holds where a list is written out up to -------------------------------------------

-- what was begun is in the list, and has tags enough behind it
abbrev Began : List Operation → ℕ → Block → Type 0
Began os size b = (begun_at b < length os) × (makers (take (begun_at b + 1) os) ≤ size)

pub record Stands (n : ℕ) (os : List Operation) (r : Reached) : Type 0 where
  pub fits : ListFits n 0 r.operations
  pub made : r.made ≡ makers r.operations
  pub tags : AllMade r.made r.tags
  pub enough : makers (take r.place os) ≤ length r.tags
  pub blocks : All (Began os (length r.tags)) r.blocks

pub first_stands : (n : ℕ) (os : List Operation) → Stands n os at_first
first_stands n os = record {
  fits = tt;
  made = refl;
  tags = All-nil (λ t. t < 0);
  enough = omega arith;
  blocks = All-nil (Began os 0);
}

plain_stands : (n : ℕ) (os : List Operation) (r : Reached) (o : Operation) → slice_get os r.place ≡ Some o → tags_made o ≡ 0 → ListFits n 0 os → Stands n os r → Stands n os (with_operation r o)
plain_stands n os r o here none fits h =
    let now : Operation = operation_now r.tags o in
    let made : makers (r.operations ++ now ∷ []) ≡ makers r.operations + tags_made now = sum_by_push tags_made r.operations now in
    let now_fits : Fits n r.made now = operation_fits n r.made (makers (take r.place os)) r.tags o h.enough h.tags none (fits_here n os r.place o fits here) in
    record {
      fits = fits_push n 0 r.operations now h.fits (subst (λ k. Fits n k now) (omega (arith, h.made)) now_fits);
      made = omega (arith, h.made, made, makes_none r.tags o none);
      tags = h.tags;
      enough = omega (arith, makers_next os r.place o here, none, h.enough);
      blocks = h.blocks;
    }

maker_stands : (n : ℕ) (os : List Operation) (r : Reached) (tag : ℕ) (o now : Operation) → slice_get os r.place ≡ Some o → tags_made o ≡ 1 → tag ≡ makers (take r.place os) → tags_made now ≡ 1 → Fits n r.made now → Stands n os r → Stands n os (with_maker r tag now)
maker_stands n os r tag o now here one is made_one now_fits h =
    let made : makers (r.operations ++ now ∷ []) ≡ makers r.operations + tags_made now = sum_by_push tags_made r.operations now in
    let grown = tags_grow r.made tag r.tags (nat_lt tag (length r.tags)) refl (omega (arith, is, h.enough)) in
    record {
      fits = fits_push n 0 r.operations now h.fits (subst (λ k. Fits n k now) (omega (arith, h.made)) now_fits);
      made = omega (arith, h.made, made, made_one);
      tags = tags_all r.made tag r.tags (nat_lt tag (length r.tags)) h.tags;
      enough = omega (arith, makers_next os r.place o here, one, is, grown.1);
      blocks = All-weaker (Began os (length r.tags)) (Began os (length (with_tag r.tags tag r.made))) (λ b w. (w.0, omega (arith, w.1, grown.0))) r.blocks h.blocks;
    }

-- with other blocks, which are in the list too
with_blocks : (n : ℕ) (os : List Operation) (r : Reached) (bs : List Block) → All (Began os (length r.tags)) bs → Stands n os r → Stands n os (record r { blocks = bs })
with_blocks n os r bs all h = record { fits = h.fits; made = h.made; tags = h.tags; enough = h.enough; blocks = all }

-- at another place, with tags enough
at_place : (n : ℕ) (os : List Operation) (r : Reached) (place : ℕ) → makers (take place os) ≤ length r.tags → Stands n os r → Stands n os (record r { place = place })
at_place n os r place enough h = record { fits = h.fits; made = h.made; tags = h.tags; enough = enough; blocks = h.blocks }

-- one step --------------------------------------------------------------------------

-- what is reached stands too, with one operation more at most; what is wrong is in the list
abbrev pub Goes : ℕ → List Operation → Reached → Further → Type 0
Goes n os r Ended = Unit {0}
Goes n os r (On next) = Stands n os next × (length next.operations ≤ length r.operations + 1)
Goes n os r (Wrong op) = op < length os

one_more : (r : Reached) (o : Operation) → length (r.operations ++ o ∷ []) ≤ length r.operations + 1
one_more r o = omega (arith, length_push r.operations o)

plain_goes : (n : ℕ) (os : List Operation) (r : Reached) (o : Operation) → slice_get os r.place ≡ Some o → tags_made o ≡ 0 → ListFits n 0 os → Stands n os r → Goes n os r (On (with_operation r o))
plain_goes n os r o here none fits h = (plain_stands n os r o here none fits h, one_more r (operation_now r.tags o))

-- what begins here has tags enough behind it
begins_here : (os : List Operation) (size i : ℕ) (o : Operation) → slice_get os i ≡ Some o → tags_made o ≡ 0 → makers (take i os) ≤ size → (i < length os) × (makers (take (i + 1) os) ≤ size)
begins_here os size i o here none enough = (slice_get_within os i o here, omega (arith, makers_next os i o here, none, enough))

branch_goes : (n : ℕ) (os : List Operation) (r : Reached) (p : Pattern) (b : Bool) → slice_get os r.place ≡ Some (operation.If p) → ListFits n 0 os → Stands n os r → Goes n os r (at_branch b r p)
branch_goes n os r p true here fits h =
    let next : Reached = with_operation r (operation.If p) in
    let all = All-cons (Began os (length r.tags)) (Branch r.place) r.blocks (begins_here os (length r.tags) r.place (operation.If p) here refl h.enough) h.blocks in
    (with_blocks n os next (Branch r.place ∷ r.blocks) all (plain_stands n os r (operation.If p) here refl fits h), one_more r (operation_now r.tags (operation.If p)))
branch_goes n os r p false here fits h = slice_get_within os r.place (operation.If p) here

else_goes : (n : ℕ) (os : List Operation) (r : Reached) (bs : List Block) → slice_get os r.place ≡ Some operation.Else → ListFits n 0 os → All (Began os (length r.tags)) bs → Stands n os r → Goes n os r (at_else bs r)
else_goes n os r [] here fits all h = slice_get_within os r.place operation.Else here
else_goes n os r (Branch at ∷ bs) here fits all h =
    let behind = All-cons (Began os (length r.tags)) (Otherwise at) bs (All-head (Began os (length r.tags)) (Branch at) bs all) (All-tail (Began os (length r.tags)) (Branch at) bs all) in
    (with_blocks n os (with_operation r operation.Else) (Otherwise at ∷ bs) behind (plain_stands n os r operation.Else here refl fits h), one_more r operation.Else)
else_goes n os r (Otherwise at ∷ bs) here fits all h = slice_get_within os r.place operation.Else here
else_goes n os r (Loop at left ∷ bs) here fits all h = slice_get_within os r.place operation.Else here

end_goes : (n : ℕ) (os : List Operation) (r : Reached) (bs : List Block) → slice_get os r.place ≡ Some operation.End → ListFits n 0 os → All (Began os (length r.tags)) bs → Stands n os r → Goes n os r (at_end bs r)
end_goes n os r [] here fits all h = slice_get_within os r.place operation.End here
end_goes n os r (Branch at ∷ bs) here fits all h = (with_blocks n os (with_operation r operation.End) bs (All-tail (Began os (length r.tags)) (Branch at) bs all) (plain_stands n os r operation.End here refl fits h), one_more r operation.End)
end_goes n os r (Otherwise at ∷ bs) here fits all h = (with_blocks n os (with_operation r operation.End) bs (All-tail (Began os (length r.tags)) (Otherwise at) bs all) (plain_stands n os r operation.End here refl fits h), one_more r operation.End)
end_goes n os r (Loop at left ∷ bs) here fits all h = slice_get_within os r.place operation.End here

round_stands : (n : ℕ) (os : List Operation) (r : Reached) (at left : ℕ) (bs : List Block) → makers (take (r.place + 1) os) ≤ length r.tags → makers (take (at + 1) os) ≤ length r.tags → at < length os → All (Began os (length r.tags)) bs → Stands n os r → Stands n os (next_round at left bs r)
round_stands n os r at zero bs behind inside lt all h = with_blocks n os (record r { place = r.place + 1 }) bs all (at_place n os r (r.place + 1) behind h)
round_stands n os r at (suc left) bs behind inside lt all h = with_blocks n os (record r { place = at + 1 }) (Loop at left ∷ bs) (All-cons (Began os (length r.tags)) (Loop at left) bs (lt, inside) all) (at_place n os r (at + 1) inside h)

round_size : (at left : ℕ) (bs : List Block) (r : Reached) → (next_round at left bs r).operations ≡ r.operations
round_size at zero bs r = refl
round_size at (suc left) bs r = refl

again_goes : (n : ℕ) (os : List Operation) (r : Reached) (bs : List Block) → slice_get os r.place ≡ Some operation.Again → All (Began os (length r.tags)) bs → Stands n os r → Goes n os r (at_again bs r)
again_goes n os r [] here all h = slice_get_within os r.place operation.Again here
again_goes n os r (Branch at ∷ bs) here all h = slice_get_within os r.place operation.Again here
again_goes n os r (Otherwise at ∷ bs) here all h = slice_get_within os r.place operation.Again here
again_goes n os r (Loop at left ∷ bs) here all h =
    let first = All-head (Began os (length r.tags)) (Loop at left) bs all in
    let behind = begins_here os (length r.tags) r.place operation.Again here refl h.enough in
    (round_stands n os r at left bs behind.1 first.1 first.0 (All-tail (Began os (length r.tags)) (Loop at left) bs all) h, omega (arith, ap length (round_size at left bs r)))

repeat_goes : (n : ℕ) (os : List Operation) (r : Reached) (times : ℕ) → slice_get os r.place ≡ Some (operation.Repeat times) → Stands n os r → Goes n os r (On (with_repeat r times))
repeat_goes n os r times here h =
    let behind = begins_here os (length r.tags) r.place (operation.Repeat times) here refl h.enough in
    let all = All-cons (Began os (length r.tags)) (Loop r.place (times - 1)) r.blocks behind h.blocks in
    (with_blocks n os (record r { place = r.place + 1 }) (Loop r.place (times - 1) ∷ r.blocks) all (at_place n os r (r.place + 1) behind.1 h), omega arith)

last_goes : (n : ℕ) (os : List Operation) (r : Reached) (size : ℕ) (bs : List Block) → All (Began os size) bs → Goes n os r (at_last bs)
last_goes n os r size [] all = tt
last_goes n os r size (b ∷ bs) all = (All-head (Began os size) b bs all).0

past_goes : (n : ℕ) (os : List Operation) (r : Reached) (o : Option Operation) → slice_get os r.place ≡ o → ListFits n 0 os → Stands n os r → Goes n os r (past_next os r o)
past_goes n os r None here fits h = last_goes n os r (length r.tags) r.blocks h.blocks
past_goes n os r (Some (operation.If p)) here fits h = branch_goes n os r p (may_branch (operation_before os r.place)) here fits h
past_goes n os r (Some operation.Else) here fits h = else_goes n os r r.blocks here fits h.blocks h
past_goes n os r (Some operation.End) here fits h = end_goes n os r r.blocks here fits h.blocks h
past_goes n os r (Some (operation.Repeat times)) here fits h = repeat_goes n os r times here h
past_goes n os r (Some operation.Again) here fits h = again_goes n os r r.blocks here h.blocks h
past_goes n os r (Some (operation.Monitor to tag)) here fits h =
    let now : Operation = operation.Monitor to r.made in
    let was = fits_here n os r.place (operation.Monitor to tag) fits here in
    (maker_stands n os r tag (operation.Monitor to tag) now here refl was.1 refl (was.0, refl) h, one_more r now)
past_goes n os r (Some (operation.Alive to tag)) here fits h =
    let now : Operation = operation.Alive to r.made in
    let was = fits_here n os r.place (operation.Alive to tag) fits here in
    (maker_stands n os r tag (operation.Alive to tag) now here refl was.1 refl (was.0, refl) h, one_more r now)
past_goes n os r (Some o) here fits h = plain_goes n os r o here refl fits h

pub further_goes : (n : ℕ) (os : List Operation) (r : Reached) → ListFits n 0 os → Stands n os r → Goes n os r (further os r)
further_goes n os r fits h = past_goes n os r (slice_get os r.place) refl fits h
