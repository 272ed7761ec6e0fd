-- Processes that are found in order of first appearance, and then put together desk by desk, are in the order of the columns.
use Rattle.std.proofs.Common.{◌≡◌, ℕ, zero, suc, ◌+◌, ◌<◌, ◌≤◌, Bool, true, false, not, cond, ◌||◌, List, [], ◌∷◌, ◌++◌, length, take, get_or, Some, None, Result, Ok, Err, refl, ap, sym, subst, ◌∙◌, append_assoc, append-nil, ltb-false, lt-ltb, le-ltb, arith}
use Rattle.std.specs.Prelude.{fold, nat_lt, All, IfOk, unwrap_or}
use Rattle.std.specs.List.{list_any, insert, filter, position_or_len, AllByRecursion}
use Rattle.std.proofs.Math.Bool.{or-false}
use Rattle.std.proofs.lemmas.Bool.{both_ways, false≢true, eqb-true, eqb-false, eq-eqb, ne_eqb}
use Rattle.std.proofs.lemmas.List.Elements.{filter-append}
use Rattle.std.proofs.lemmas.List.Folds.{list_any-append}
use Rattle.std.proofs.lemmas.List.Sums.{fold_more, prefix_len-le-length}
use Rattle.pt_signal.specs.declared.pid.Pid.{Pid}
use Rattle.pt_signal.specs.Values.{same_pid}
use Rattle.pt_signal.proofs.Same.{same_pid_is}
use Rattle.pt_events.specs.declared.event.Stamped.{Stamped}
use Rattle.pt_chart.specs.Chart.{named_columns, place_behind, join, joined_columns, everyone}
use Rattle.pt_chart.specs.Desks.{add_last, add_named, named, on_desk, by_desk, AreInDesks}

-- this holds of each
abbrev Each : (Pid → Type 0) → List Pid → Type 0
Each Holds ps = AllByRecursion Holds ps

each_append : (Holds : Pid → Type 0) (ps qs : List Pid) → Each Holds ps → Each Holds qs → Each Holds (ps ++ qs)
each_append Holds [] qs h k = k
each_append Holds (p ∷ ps) qs h k = (h.0, each_append Holds ps qs h.1 k)

each_front : (Holds : Pid → Type 0) (ps qs : List Pid) → Each Holds (ps ++ qs) → Each Holds ps
each_front Holds [] qs h = tt
each_front Holds (p ∷ ps) qs h = (h.0, each_front Holds ps qs h.1)

each_last : (Holds : Pid → Type 0) (ps : List Pid) (q : Pid) → Each Holds (ps ++ q ∷ []) → Holds q
each_last Holds [] q h = h.0
each_last Holds (p ∷ ps) q h = each_last Holds ps q h.1

each_given : (Holds : Pid → Type 0) (ps : List Pid) → All Holds ps → Each Holds ps
each_given Holds [] h = tt
each_given Holds (p ∷ ps) h = (h 0 p (omega arith), each_given Holds ps (λ k d lt. h (suc k) d (omega (arith, lt))))

each_of_desk : (Holds : Pid → Type 0) (desk : ℕ) → ((p : Pid) → on_desk desk p ≡ true → Holds p) → (ps : List Pid) → Each Holds (filter (on_desk desk) ps)
each_of_desk Holds desk h [] = tt
each_of_desk Holds desk h (p ∷ ps) = by (each_of_desk Holds desk h ps) (on_desk desk p) refl
  where
    by : Each Holds (filter (on_desk desk) ps) → (t : Bool) → on_desk desk p ≡ t → Each Holds (cond t (p ∷ filter (on_desk desk) ps) (filter (on_desk desk) ps))
    by rest true e = (h p e, rest)
    by rest false e = rest

each_by_desk : (Holds : Pid → Type 0) (desks : ℕ) → ((p : Pid) → p.shard < desks → Holds p) → (ps : List Pid) → Each Holds (by_desk desks ps)
each_by_desk Holds zero h ps = tt
each_by_desk Holds (suc desk) h ps =
    each_append Holds (by_desk desk ps) (filter (on_desk desk) ps) (each_by_desk Holds desk (λ p lt. h p (omega (arith, lt))) ps)
    (each_of_desk Holds desk (λ p e. let same : p.shard ≡ desk = eqb-true p.shard desk e in h p (omega (arith, same))) ps)

-- who is where ----------------------------------------------------------------------------------------

differ : (f : Pid → Bool) (p q : Pid) → f p ≡ true → f q ≡ false → same_pid p q ≡ false
differ f p q passes fails = by (same_pid p q) refl
  where
    by : (t : Bool) → same_pid p q ≡ t → t ≡ false
    by true e = absurd (both_ways (f q) fails (subst (λ z. f z ≡ true) (same_pid_is p q e) passes))
    by false e = refl

-- none of these is p
none : (p : Pid) (ps : List Pid) → Each (λ (q : Pid). same_pid p q ≡ false) ps → list_any (same_pid p) ps ≡ false
none p [] h = refl
none p (q ∷ ps) h = let other = h.0 in rw other (none p ps h.1)

of_desk_itself : (p : Pid) → on_desk p.shard p ≡ true
of_desk_itself p = eq-eqb p.shard p.shard refl

any_of_desk : (p : Pid) (ps : List Pid) → list_any (same_pid p) (filter (on_desk p.shard) ps) ≡ list_any (same_pid p) ps
any_of_desk p [] = refl
any_of_desk p (q ∷ ps) = by (any_of_desk p ps) (on_desk p.shard q) refl
  where
    by : list_any (same_pid p) (filter (on_desk p.shard) ps) ≡ list_any (same_pid p) ps → (t : Bool) → on_desk p.shard q ≡ t → list_any (same_pid p) (cond t (q ∷ filter (on_desk p.shard) ps) (filter (on_desk p.shard) ps)) ≡ (same_pid p q || list_any (same_pid p) ps)
    by rest true e = ap (λ b. same_pid p q || b) rest
    by rest false e = let other = differ (on_desk p.shard) p q (of_desk_itself p) e in rw other rest

not_of_desk : (p : Pid) (desk : ℕ) (ps : List Pid) → on_desk desk p ≡ false → list_any (same_pid p) (filter (on_desk desk) ps) ≡ false
not_of_desk p desk ps h =
    none p (filter (on_desk desk) ps)
    (each_of_desk (λ (q : Pid). same_pid p q ≡ false) desk (λ q e. differ (λ z. not (on_desk desk z)) p q (ap not h) (ap not e)) ps)

not_below : (p : Pid) (desks : ℕ) (ps : List Pid) → desks ≤ p.shard → list_any (same_pid p) (by_desk desks ps) ≡ false
not_below p desks ps h =
    none p (by_desk desks ps)
    (each_by_desk (λ (q : Pid). same_pid p q ≡ false) desks
    (λ q lt. differ (λ (z : Pid). not (nat_lt z.shard desks)) p q (ap not (le-ltb p.shard desks h)) (ap not (lt-ltb q.shard desks lt))) ps)

any_below : (p : Pid) (desks : ℕ) (ps : List Pid) → p.shard < desks → list_any (same_pid p) (by_desk desks ps) ≡ list_any (same_pid p) ps
any_below p zero ps h = absurd (omega (arith, h))
any_below p (suc desk) ps h = list_any-append (same_pid p) (by_desk desk ps) (filter (on_desk desk) ps) ∙ by (λ lt. any_below p desk ps lt) (on_desk desk p) refl
  where
    by : (p.shard < desk → list_any (same_pid p) (by_desk desk ps) ≡ list_any (same_pid p) ps) → (t : Bool) → on_desk desk p ≡ t → (list_any (same_pid p) (by_desk desk ps) || list_any (same_pid p) (filter (on_desk desk) ps)) ≡ list_any (same_pid p) ps
    by rest true e =
        let same : p.shard ≡ desk = eqb-true p.shard desk e in
        let first = not_below p desk ps (omega (arith, same)) in
        rw first (subst (λ k. list_any (same_pid p) (filter (on_desk k) ps) ≡ list_any (same_pid p) ps) same (any_of_desk p ps))
    by rest false e =
        let other : p.shard ≡ desk → ⊥ = eqb-false p.shard desk e in
        let last = not_of_desk p desk ps e in
        rw last (or-false (list_any (same_pid p) (by_desk desk ps)) ∙ rest (omega (arith, h, other)))

-- where one more stands -------------------------------------------------------------------------------

abbrev later : Pid → Pid → Bool
later p q = nat_lt p.shard q.shard

-- p before the first of a later desk
abbrev put : Pid → List Pid → List Pid
put p [] = p ∷ []
put p (q ∷ ps) = cond (later p q) (p ∷ q ∷ ps) (q ∷ put p ps)

place_is : (p : Pid) (ps : List Pid) → place_behind ps p ≡ position_or_len (later p) ps
place_is p ps = by (nat_lt (position_or_len (later p) ps) (length ps)) refl
  where
    by : (t : Bool) → nat_lt (position_or_len (later p) ps) (length ps) ≡ t → unwrap_or (cond t (Some (position_or_len (later p) ps)) None) (length ps) ≡ position_or_len (later p) ps
    by true e = refl
    by false e =
        let least : length ps ≤ position_or_len (later p) ps = ltb-false (position_or_len (later p) ps) (length ps) e in
        let most : position_or_len (later p) ps ≤ length ps = prefix_len-le-length (λ (q : Pid). not (later p q)) ps in
        omega (arith, least, most)

put_at : (p : Pid) (ps : List Pid) → insert ps (position_or_len (later p) ps) p ≡ put p ps
put_at p [] = refl
put_at p (q ∷ ps) = by (put_at p ps) (later p q)
  where
    by : insert ps (position_or_len (later p) ps) p ≡ put p ps → (t : Bool) → insert (q ∷ ps) (cond (not t) (1 + position_or_len (later p) ps) 0) p ≡ cond t (p ∷ q ∷ ps) (q ∷ put p ps)
    by rest true = refl
    by rest false =
        let next : 1 + position_or_len (later p) ps ≡ suc (position_or_len (later p) ps) = omega arith in
        ap (λ k. insert (q ∷ ps) k p) next ∙ ap (λ qs. q ∷ qs) rest

put_last : (p : Pid) (ps : List Pid) → Each (λ (q : Pid). later p q ≡ false) ps → put p ps ≡ ps ++ p ∷ []
put_last p [] h = refl
put_last p (q ∷ ps) h = let before = h.0 in rw before (ap (λ qs. q ∷ qs) (put_last p ps h.1))

put_before : (p : Pid) (ps qs : List Pid) → Each (λ (q : Pid). later p q ≡ true) qs → put p (ps ++ qs) ≡ put p ps ++ qs
put_before p [] [] h = refl
put_before p [] (q ∷ qs) h = let behind = h.0 in rw behind refl
put_before p (r ∷ ps) qs h = by (put_before p ps qs h) (later p r)
  where
    by : put p (ps ++ qs) ≡ put p ps ++ qs → (t : Bool) → cond t (p ∷ r ∷ (ps ++ qs)) (r ∷ put p (ps ++ qs)) ≡ cond t (p ∷ r ∷ ps) (r ∷ put p ps) ++ qs
    by rest true = refl
    by rest false = ap (λ z. r ∷ z) rest

-- one more of a later desk changes none of the desks before
same_before : (p : Pid) (desks : ℕ) (ps : List Pid) → desks ≤ p.shard → by_desk desks (ps ++ p ∷ []) ≡ by_desk desks ps
same_before p zero ps h = refl
same_before p (suc desk) ps h =
    let other : on_desk desk p ≡ false = ne_eqb p.shard desk (λ e. omega (arith, h, e)) in
    let first : by_desk desk (ps ++ p ∷ []) ≡ by_desk desk ps = same_before p desk ps (omega (arith, h)) in
    let last : filter (on_desk desk) (ps ++ p ∷ []) ≡ filter (on_desk desk) ps =
    filter-append (on_desk desk) ps (p ∷ []) ∙ ap (λ b. filter (on_desk desk) ps ++ cond b (p ∷ []) []) other ∙ append-nil (filter (on_desk desk) ps)
    in
    ap (λ z. z ++ filter (on_desk desk) (ps ++ p ∷ [])) first ∙ ap (λ z. by_desk desk ps ++ z) last

put_below : (p : Pid) (desks : ℕ) (ps : List Pid) → p.shard < desks → put p (by_desk desks ps) ≡ by_desk desks (ps ++ p ∷ [])
put_below p zero ps h = absurd (omega (arith, h))
put_below p (suc desk) ps h = by (λ lt. put_below p desk ps lt) (on_desk desk p) refl
  where
    more : (t : Bool) → on_desk desk p ≡ t → filter (on_desk desk) (ps ++ p ∷ []) ≡ filter (on_desk desk) ps ++ cond t (p ∷ []) []
    more t e = filter-append (on_desk desk) ps (p ∷ []) ∙ ap (λ b. filter (on_desk desk) ps ++ cond b (p ∷ []) []) e

    by : (p.shard < desk → put p (by_desk desk ps) ≡ by_desk desk (ps ++ p ∷ [])) → (t : Bool) → on_desk desk p ≡ t → put p (by_desk desk ps ++ filter (on_desk desk) ps) ≡ by_desk desk (ps ++ p ∷ []) ++ filter (on_desk desk) (ps ++ p ∷ [])
    by rest true e =
        let same : p.shard ≡ desk = eqb-true p.shard desk e in
        let first : by_desk desk (ps ++ p ∷ []) ≡ by_desk desk ps = same_before p desk ps (omega (arith, same)) in
        put_last p (by_desk desk ps ++ filter (on_desk desk) ps) (each_by_desk (λ (q : Pid). later p q ≡ false) (suc desk) (λ q lt. le-ltb p.shard q.shard (omega (arith, lt, same))) ps)
        ∙ append_assoc (by_desk desk ps) (filter (on_desk desk) ps) (p ∷ [])
        ∙ ap (λ z. by_desk desk ps ++ z) (sym (more true e)) ∙ ap (λ z. z ++ filter (on_desk desk) (ps ++ p ∷ [])) (sym first)
    by rest false e =
        let other : p.shard ≡ desk → ⊥ = eqb-false p.shard desk e in
        let before : p.shard < desk = omega (arith, h, other) in
        let later_ones = each_of_desk (λ (q : Pid). later p q ≡ true) desk (λ q is. let same : q.shard ≡ desk = eqb-true q.shard desk is in lt-ltb p.shard q.shard (omega (arith, before, same))) ps in
        put_before p (by_desk desk ps) (filter (on_desk desk) ps) later_ones
        ∙ ap (λ z. z ++ filter (on_desk desk) ps) (rest before)
        ∙ ap (λ z. by_desk desk (ps ++ p ∷ []) ++ z) (sym (more false e ∙ append-nil (filter (on_desk desk) ps)))

join_in_desks : (desks : ℕ) (ps : List Pid) (p : Pid) → p.shard < desks → join (by_desk desks ps) p ≡ by_desk desks (add_last ps p)
join_in_desks desks ps p h =
    ap (λ b. cond b (by_desk desks ps) (insert (by_desk desks ps) (place_behind (by_desk desks ps) p) p)) (any_below p desks ps h)
    ∙ by (list_any (same_pid p) ps)
  where
    by : (t : Bool) → cond t (by_desk desks ps) (insert (by_desk desks ps) (place_behind (by_desk desks ps) p) p) ≡ by_desk desks (cond t ps (ps ++ p ∷ []))
    by true = refl
    by false = ap (λ k. insert (by_desk desks ps) k p) (place_is p (by_desk desks ps)) ∙ put_at p (by_desk desks ps) ∙ put_below p desks ps h

-- all of a history ------------------------------------------------------------------------------------

abbrev Below : ℕ → List Pid → Type 0
Below desks ps = Each (λ (p : Pid). p.shard < desks) ps

below_known : (desks : ℕ) (p : Pid) (ps : List Pid) → list_any (same_pid p) ps ≡ true → Below desks ps → p.shard < desks
below_known desks p [] h below = absurd (false≢true h)
below_known desks p (q ∷ ps) h below = by (λ k. below_known desks p ps k below.1) (same_pid p q) refl h
  where
    by : (list_any (same_pid p) ps ≡ true → p.shard < desks) → (t : Bool) → same_pid p q ≡ t → (t || list_any (same_pid p) ps) ≡ true → p.shard < desks
    by rest true e k = subst (λ (z : Pid). z.shard < desks) (sym (same_pid_is p q e)) below.0
    by rest false e k = rest k

below_entered : (desks : ℕ) (ps : List Pid) (p : Pid) → Below desks (add_last ps p) → (p.shard < desks) × Below desks ps
below_entered desks ps p = by (list_any (same_pid p) ps) refl
  where
    by : (t : Bool) → list_any (same_pid p) ps ≡ t → Below desks (cond t ps (ps ++ p ∷ [])) → (p.shard < desks) × Below desks ps
    by true e below = (below_known desks p ps e below, below)
    by false e below = (each_last (λ (q : Pid). q.shard < desks) ps p below, each_front (λ (q : Pid). q.shard < desks) ps (p ∷ []) below)

below_before : (desks : ℕ) (qs ps : List Pid) → Below desks (fold add_last ps qs) → Below desks ps
below_before desks [] ps below = below
below_before desks (q ∷ qs) ps below = (below_entered desks ps q (below_before desks qs (add_last ps q) below)).1

joined_in_desks : (desks : ℕ) (qs ps : List Pid) → Below desks (fold add_last ps qs) → joined_columns (by_desk desks ps) qs ≡ by_desk desks (fold add_last ps qs)
joined_in_desks desks [] ps below = refl
joined_in_desks desks (q ∷ qs) ps below =
    let one = below_entered desks ps q (below_before desks qs (add_last ps q) below) in
    ap (λ z. joined_columns z qs) (join_in_desks desks ps q one.0) ∙ joined_in_desks desks qs (add_last ps q) below

abbrev entered_by : List Pid → List Stamped → List Pid
entered_by ps events = fold (λ (ps : List Pid) (s : Stamped). add_named ps s.event) ps events

below_all : (desks : ℕ) (events : List Stamped) (ps : List Pid) → Below desks (entered_by ps events) → Below desks ps
below_all desks [] ps below = below
below_all desks (s ∷ events) ps below = below_before desks (named_columns s.event) ps (below_all desks events (add_named ps s.event) below)

all_in_desks : (desks : ℕ) (events : List Stamped) (ps : List Pid) → Below desks (entered_by ps events)
    → fold (λ (ps : List Pid) (s : Stamped). joined_columns ps (named_columns s.event)) (by_desk desks ps) events ≡ by_desk desks (entered_by ps events)
all_in_desks desks [] ps below = refl
all_in_desks desks (s ∷ events) ps below =
    ap (λ z. fold (λ (ps : List Pid) (s : Stamped). joined_columns ps (named_columns s.event)) z events)
    (joined_in_desks desks (named_columns s.event) ps (below_all desks events (add_named ps s.event) below))
    ∙ all_in_desks desks events (add_named ps s.event) below

nobody : (desks : ℕ) → by_desk desks [] ≡ []
nobody zero = refl
nobody (suc desk) = append-nil (by_desk desk []) ∙ nobody desk

-- those that a history names, desk by desk, are its columns
everyone_in_desks : (events : List Stamped) (qs : List Pid) → AreInDesks (named events) qs → qs ≡ everyone events
everyone_in_desks events qs are =
    are.is
    ∙ sym (ap (λ z. fold (λ (ps : List Pid) (s : Stamped). joined_columns ps (named_columns s.event)) z events) (sym (nobody are.desks))
    ∙ all_in_desks are.desks events [] (each_given (λ (p : Pid). p.shard < are.desks) (named events) are.below))

pub all_in_order : {T E : Type 0} (r : Result T E) (items : T → List Pid) (events : List Stamped) (ps : List Pid) → ps ≡ named events → IfOk r (λ v. AreInDesks ps (items v)) → IfOk r (λ v. items v ≡ everyone events)
all_in_order (Ok v) items events ps is are = everyone_in_desks events (items v) (subst (λ (qs : List Pid). AreInDesks qs (items v)) is are)
all_in_order (Err e) items events ps is are = tt

pub named_more : (events : List Stamped) (i : ℕ) (d : Stamped) → i < length events → named (take (i + 1) events) ≡ add_named (named (take i events)) (get_or events i d).event
named_more events i d h = fold_more (λ ps s. add_named ps s.event) [] events i d h
