-- The fates of what came to a process: before its birth all is lost, what came while it lived was taken or not, and after
-- its end all is lost.
use Rattle.std.proofs.Common.{◌≡◌, Bool, true, false, cond, List, [], ◌∷◌, ◌++◌, Some, map, filter, refl, sym, ap, ◌∙◌, subst, append-nil}
use Rattle.std.specs.Prelude.{IsPermutation}
use Rattle.std.specs.List.{find}
use Rattle.std.proofs.lemmas.List.{map-append}
use Rattle.std.proofs.lemmas.List.Elements.{filter-append}
use Rattle.std.proofs.lemmas.List.Sorted.{IsPermutation-append_left, IsPermutation-cons, IsPermutation-refl, IsPermutation-sym, IsPermutation-to_front, IsPermutation-trans}
use Rattle.pt_signal.specs.declared.pid.Pid.{Pid}
use Rattle.pt_signal.specs.declared.item.Item.{Item}
use Rattle.pt_signal.specs.declared.item.Pick.{Pick}
use Rattle.pt_events.specs.declared.event.Event.TheVariants.{Took}
use Rattle.pt_signal.specs.Values.{same_pid, fits}
use Rattle.pt_events.specs.History.{Past, Start, at_start, state, state_of, arrives}
use Rattle.pt_events.specs.Takes.{taken}
use Rattle.pt_laws.specs.Acts.{ActsMayCome}
use Rattle.pt_laws.proofs.order.Taken.{Arrival, arrivals, left_waiting, take_first, takes, untaken, waits as all_wait}
use Rattle.pt_signal.proofs.Same.{same_pid_is}
use Rattle.pt_history.specs.Custody.{ItemFate, was_taken, waits, was_lost, is_fate, items_with}

abbrev pub as_lost : Item → Item × ItemFate
as_lost i = (i, was_lost)

-- of an arrival, by whether the process lives and whether it was taken
abbrev pub fate_of : Bool → Bool → ItemFate
fate_of lives true = was_taken
fate_of true false = waits
fate_of false false = was_lost

abbrev pub as_arrived : Bool → Arrival → Item × ItemFate
as_arrived lives r = (r.0, fate_of lives r.1)

-- before the birth, while it lived, after the end
abbrev pub all_came : Bool → List Item → List Arrival → List Item → List (Item × ItemFate)
all_came lives before during behind = map as_lost before ++ (map (as_arrived lives) during ++ map as_lost behind)

abbrev pub taken_among : List Arrival → List Item
taken_among rs = map (λ r. r.0) (filter (λ r. r.1) rs)

-- what has which fate ---------------------------------------------------------------------------

with-append : (fate : ItemFate) (xs ys : List (Item × ItemFate)) → items_with fate (xs ++ ys) ≡ items_with fate xs ++ items_with fate ys
with-append fate xs ys = rw (filter-append (λ (c : Item × ItemFate). is_fate fate c.1) xs ys, map-append)

lost_is_lost : (is : List Item) → items_with was_lost (map as_lost is) ≡ is
lost_is_lost [] = refl
lost_is_lost (i ∷ is) = ap (λ z. i ∷ z) (lost_is_lost is)

lost_not_taken : (is : List Item) → items_with was_taken (map as_lost is) ≡ []
lost_not_taken [] = refl
lost_not_taken (i ∷ is) = lost_not_taken is

lost_not_waiting : (is : List Item) → items_with waits (map as_lost is) ≡ []
lost_not_waiting [] = refl
lost_not_waiting (i ∷ is) = lost_not_waiting is

taken_are_taken : (lives : Bool) (rs : List Arrival) → items_with was_taken (map (as_arrived lives) rs) ≡ taken_among rs
taken_are_taken lives [] = refl
taken_are_taken lives ((i, true) ∷ rs) = ap (λ z. i ∷ z) (taken_are_taken lives rs)
taken_are_taken true ((i, false) ∷ rs) = taken_are_taken true rs
taken_are_taken false ((i, false) ∷ rs) = taken_are_taken false rs

left_wait : (rs : List Arrival) → items_with waits (map (as_arrived true) rs) ≡ left_waiting rs
left_wait [] = refl
left_wait ((i, true) ∷ rs) = left_wait rs
left_wait ((i, false) ∷ rs) = ap (λ z. i ∷ z) (left_wait rs)

none_waits : (rs : List Arrival) → items_with waits (map (as_arrived false) rs) ≡ []
none_waits [] = refl
none_waits ((i, true) ∷ rs) = none_waits rs
none_waits ((i, false) ∷ rs) = none_waits rs

none_lost : (rs : List Arrival) → items_with was_lost (map (as_arrived true) rs) ≡ []
none_lost [] = refl
none_lost ((i, true) ∷ rs) = none_lost rs
none_lost ((i, false) ∷ rs) = none_lost rs

left_lost : (rs : List Arrival) → items_with was_lost (map (as_arrived false) rs) ≡ left_waiting rs
left_lost [] = refl
left_lost ((i, true) ∷ rs) = left_lost rs
left_lost ((i, false) ∷ rs) = ap (λ z. i ∷ z) (left_lost rs)

module _ (before : List Item) (rs : List Arrival) (behind : List Item) where
  split : (fate : ItemFate) (lives : Bool) → items_with fate (all_came lives before rs behind) ≡ items_with fate (map as_lost before) ++ (items_with fate (map (as_arrived lives) rs) ++ items_with fate (map as_lost behind))
  split fate lives =
      with-append fate (map as_lost before) (map (as_arrived lives) rs ++ map as_lost behind)
      ∙ ap (λ z. items_with fate (map as_lost before) ++ z) (with-append fate (map (as_arrived lives) rs) (map as_lost behind))

  pub all_taken : (lives : Bool) → items_with was_taken (all_came lives before rs behind) ≡ taken_among rs
  all_taken lives = split was_taken lives ∙ rw (lost_not_taken before, lost_not_taken behind, taken_are_taken lives rs) (append-nil (taken_among rs))

  pub living_wait : items_with waits (all_came true before rs behind) ≡ left_waiting rs
  living_wait = split waits true ∙ rw (lost_not_waiting before, lost_not_waiting behind, left_wait rs) (append-nil (left_waiting rs))

  pub ended_wait : items_with waits (all_came false before rs behind) ≡ []
  ended_wait = split waits false ∙ rw (lost_not_waiting before, lost_not_waiting behind, none_waits rs) refl

  pub living_lost : items_with was_lost (all_came true before rs behind) ≡ before ++ behind
  living_lost = split was_lost true ∙ rw (lost_is_lost before, lost_is_lost behind, none_lost rs) refl

  pub ended_lost : items_with was_lost (all_came false before rs behind) ≡ before ++ (left_waiting rs ++ behind)
  ended_lost = split was_lost false ∙ rw (lost_is_lost before, lost_is_lost behind, left_lost rs) refl

-- the items themselves ----------------------------------------------------------------------------

firsts_lost : (is : List Item) → map (λ (c : Item × ItemFate). c.0) (map as_lost is) ≡ is
firsts_lost [] = refl
firsts_lost (i ∷ is) = ap (λ z. i ∷ z) (firsts_lost is)

firsts_arrived : (lives : Bool) (rs : List Arrival) → map (λ (c : Item × ItemFate). c.0) (map (as_arrived lives) rs) ≡ map (λ (r : Arrival). r.0) rs
firsts_arrived lives [] = refl
firsts_arrived lives (r ∷ rs) = ap (λ z. r.0 ∷ z) (firsts_arrived lives rs)

pub items_came : (lives : Bool) (before : List Item) (rs : List Arrival) (behind : List Item) → map (λ (c : Item × ItemFate). c.0) (all_came lives before rs behind) ≡ before ++ (map (λ (r : Arrival). r.0) rs ++ behind)
items_came lives before rs behind = rw (map-append, map-append, firsts_lost before, firsts_lost behind, firsts_arrived lives rs) refl

-- what was taken ------------------------------------------------------------------------------------

took_first : (k : Pick) (i : Item) (rs : List Arrival) → find (fits k) (left_waiting rs) ≡ Some i → IsPermutation (taken_among (take_first k rs)) (taken_among rs ++ i ∷ [])
took_first k i [] h = absurd cc
took_first k i ((j, true) ∷ rs) h = IsPermutation-cons j (taken_among (take_first k rs)) (taken_among rs ++ i ∷ []) (took_first k i rs h)
took_first k i ((j, false) ∷ rs) h = go (fits k j) refl h (took_first k i rs)
  where
    go : (b : Bool) → fits k j ≡ b → find (fits k) (left_waiting ((j, false) ∷ rs)) ≡ Some i
        → (find (fits k) (left_waiting rs) ≡ Some i → IsPermutation (taken_among (take_first k rs)) (taken_among rs ++ i ∷ []))
        → IsPermutation (taken_among (take_first k ((j, false) ∷ rs))) (taken_among rs ++ i ∷ [])
    go true e l ih =
        let some : Some j ≡ Some i = rw e at l in
        let same : j ≡ i = cc in
        rw e (subst (λ z. IsPermutation (j ∷ taken_among rs) (taken_among rs ++ z ∷ [])) same (IsPermutation-sym _ _ (IsPermutation-to_front (taken_among rs) j)))
    go false e l ih = rw e (ih (rw e at l))

all_untaken : (is : List Item) → taken_among (map untaken is) ≡ []
all_untaken [] = refl
all_untaken (i ∷ is) = all_untaken is

none_more : (rs : List Arrival) (is : List Item) → taken_among (rs ++ map untaken is) ≡ taken_among rs
none_more rs is = rw (filter-append (λ (r : Arrival). r.1) rs (map untaken is), map-append) (ap (λ z. taken_among rs ++ z) (all_untaken is) ∙ append-nil (taken_among rs))

module _ (start : Start) (p : Pid) where
  takes_one : (q : Pid) (k : Pick) (i : Item) (past : Past) (same : Bool) → same_pid p q ≡ same → ActsMayCome start past
      → find (fits k) (state start past q).waiting ≡ Some i → IsPermutation (taken_among (arrivals start past p)) (taken past p)
      → IsPermutation (taken_among (cond same (take_first k (arrivals start past p)) (arrivals start past p))) (taken past p ++ cond same (i ∷ []) [])
  takes_one q k i past false e h l ih = subst (IsPermutation (taken_among (arrivals start past p))) (sym (append-nil (taken past p))) ih
  takes_one q k i past true e h l ih =
      let here : find (fits k) (state start past p).waiting ≡ Some i = subst (λ z. find (fits k) (state start past z).waiting ≡ Some i) (sym (same_pid_is p q e)) l in
      let there : find (fits k) (left_waiting (arrivals start past p)) ≡ Some i = ap (find (fits k)) (all_wait start p past h) ∙ here in
      IsPermutation-trans _ _ _ (took_first k i (arrivals start past p) there) (IsPermutation-append_left (i ∷ []) _ _ ih)

  pub taken_are : (past : Past) → ActsMayCome start past → IsPermutation (taken_among (arrivals start past p)) (taken past p)
  taken_are [] h = subst (λ z. IsPermutation z []) (sym (all_untaken (state_of (at_start start p)).waiting)) (IsPermutation-refl [])
  taken_are (Took q k i ∷ past) h =
      subst (λ z. IsPermutation z (taken (Took q k i ∷ past) p)) (sym (none_more (takes p (Took q k i) (arrivals start past p)) []))
      (takes_one q k i past (same_pid p q) refl h.1 h.0.1 (taken_are past h.1))
  taken_are (e ∷ past) h =
      subst (λ z. IsPermutation z (taken (e ∷ past) p)) (sym (none_more (arrivals start past p) (arrives start past p e)))
      (subst (IsPermutation (taken_among (arrivals start past p))) (sym (append-nil (taken past p))) (taken_are past h.1))
