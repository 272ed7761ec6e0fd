-- Seats that are made anew of one, and told of the ends that it was not told of.
use Rattle.std.proofs.Common.{◌≡◌, ◌≢◌, ℕ, zero, suc, ◌+◌, ◌-◌, ◌<◌, ◌≤◌, Bool, true, false, ◌&&◌, cond, eqb, nat_lt, List, [], ◌∷◌, ◌++◌, filter, map, length, set, get_or, take, refl, sym, ap, ◌∙◌, subst, ⊎_elim, arith, eqb-true, ne_eqb}
use Rattle.std.specs.Prelude.{All}
use Rattle.std.proofs.lemmas.List.Elements.{All-head, All-tail}
use mathlib.Core.Option.{some, some-injective}
use lib.ListN.{get_elem?}
use mathlib.Core.List.{map-append}
use Rattle.atomic_table.specs.Seated.{TableId}
use Rattle.pt_directory.specs.declared.view.Death.{Death}
use Rattle.pt_signal.specs.declared.pid.Pid.{Pid}
use Rattle.pt_directory.specs.Views.{new_death, is_of, is_not_of, deaths_at, last_version, last_stamp, up_from}
use Rattle.pt_directory.specs.Seats.{SeatState, first_seat, later_seat, tell_one, tell_each, late_seat, with_deaths}
use Rattle.pt_directory.proofs.Lists.{at_append, at_nothing, at_single, from_among, from_filter, filter_kept, last_stamp_up_to, up_from-cons, up_from-push}
use Rattle.pt_directory.proofs.Reopening.{set_map, get_map}
use Rattle.pt_directory.proofs.SeatSteps.{not_of}

-- the deaths of a desk, after those of another were left out
pub other_kept : (j h : ℕ) (ds : List Death) → h ≢ j → filter (is_of j) (filter (is_not_of h) ds) ≡ filter (is_of j) ds
other_kept j h ds ne = filter_kept (is_not_of h) (is_of j) ds (λ d is. not_of h d (λ e. ne (sym e ∙ eqb-true d.shard j is)))

-- one more seat is made anew
pub renewed_push : (items after : List SeatState) (x rest : SeatState) (name : TableId) (deaths : List Death) (k n : ℕ) → k < n → items ≡ map (late_seat name deaths []) (up_from 0 k)
    → rest.name ≡ name → rest.homes ≡ up_from k (n - k) → filter (is_of k) rest.deaths ≡ filter (is_of k) deaths → x ≡ first_seat rest → after ≡ items ++ x ∷ [] → after ≡ map (late_seat name deaths []) (up_from 0 (k + 1))
renewed_push items after x rest name deaths k n low made same homes kept new is =
    is ∙ (λ i. made i ++ is_late i ∷ []) ∙ sym (map-append (late_seat name deaths []) (up_from 0 k) (k ∷ [])) ∙ ap (map (late_seat name deaths [])) (sym (up_from-push k))
  where
    has : rest.homes ≡ k ∷ up_from (k + 1) (n - (k + 1))
    has = homes ∙ up_from-cons k n low

    is_late : x ≡ late_seat name deaths [] k
    is_late = new ∙ (λ i. first_seat (record { name = same i; homes = has i; reads = rest.reads; deaths = rest.deaths; marked = rest.marked }))
        ∙ ap (λ (l : List Death). record { name = name; homes = k ∷ []; reads = []; deaths = l; marked = l }) kept

-- what is left of the one
pub renewed_rest : (rest next : SeatState) (name : TableId) (deaths : List Death) (k n : ℕ) → k < n → rest.name ≡ name → rest.homes ≡ up_from k (n - k) → next ≡ later_seat rest
    → ((j : ℕ) → k ≤ j → filter (is_of j) rest.deaths ≡ filter (is_of j) deaths)
    → (next.name ≡ name) × (next.homes ≡ up_from (k + 1) (n - (k + 1))) × ((j : ℕ) → k + 1 ≤ j → filter (is_of j) next.deaths ≡ filter (is_of j) deaths)
renewed_rest rest next name deaths k n low same homes new kept = (
  ap (λ (s : SeatState). s.name) is,
  ap (λ (s : SeatState). s.homes) is,
  λ j up. ap (λ (s : SeatState). filter (is_of j) s.deaths) is ∙ other_kept j k rest.deaths (λ e. let same : k ≡ j = e in absurd (omega arith)) ∙ kept j (omega arith),
)
  where
    has : rest.homes ≡ k ∷ up_from (k + 1) (n - (k + 1))
    has = homes ∙ up_from-cons k n low

    is : next ≡ record { name = name; homes = up_from (k + 1) (n - (k + 1)); reads = rest.reads; deaths = filter (is_not_of k) rest.deaths; marked = rest.marked }
    is = new ∙ (λ i. later_seat (record { name = same i; homes = has i; reads = rest.reads; deaths = rest.deaths; marked = rest.marked }))

-- telling ------------------------------------------------------------------------------------

pub tell_each-push : (k : ℕ) (xs : List (Pid × ℕ)) (x : Pid × ℕ) (ds : List Death) → tell_each k (xs ++ x ∷ []) ds ≡ tell_one k x (tell_each k xs ds)
tell_each-push k [] x ds = refl
tell_each-push k (y ∷ ys) x ds = tell_each-push k ys x (tell_one k y ds)

-- of another desk nothing is told
tell_else : (k : ℕ) (x : Pid × ℕ) (ds : List Death) → x.0.shard ≢ k → tell_one k x ds ≡ ds
tell_else k x ds ne = ap (λ (b : Bool). cond (b && nat_lt (last_version (deaths_at k x.0.slot ds)) x.0.version) (ds ++ new_death x.0.shard x.0.slot x.0.version x.1 ∷ []) ds) (ne_eqb x.0.shard k ne)

one_told : (k : ℕ) (x : Pid × ℕ) (ds : List Death) (b : Bool) (P : Death → Type 0) → ((m : ℕ) (d : Death) → get_elem? ds m ≡ some d → P d) → P (new_death x.0.shard x.0.slot x.0.version x.1)
    → (m : ℕ) (d : Death) → get_elem? (cond b (ds ++ new_death x.0.shard x.0.slot x.0.version x.1 ∷ []) ds) m ≡ some d → P d
one_told k x ds false P each new m d at = each m d at
one_told k x ds true P each new m d at =
    ⊎_elim
    (λ (was : get_elem? ds m ≡ some d). each m d was)
    (λ (t : (j : ℕ) × (get_elem? (new_death x.0.shard x.0.slot x.0.version x.1 ∷ []) j ≡ some d) × (m ≡ length ds + j)). subst P (at_single (new_death x.0.shard x.0.slot x.0.version x.1) d t.0 t.1) new)
    (at_append ds (new_death x.0.shard x.0.slot x.0.version x.1 ∷ []) m d at)

-- what holds of each death before and of the ends of these pids holds of each that was told
pub each_told : (k : ℕ) (xs : List (Pid × ℕ)) (ds : List Death) (P : Death → Type 0) → ((m : ℕ) (d : Death) → get_elem? ds m ≡ some d → P d)
    → ((i : ℕ) (x : Pid × ℕ) → get_elem? xs i ≡ some x → x.0.shard ≡ k → P (new_death x.0.shard x.0.slot x.0.version x.1)) → (m : ℕ) (d : Death) → get_elem? (tell_each k xs ds) m ≡ some d → P d
each_told k [] ds P each new = each
each_told k (x ∷ xs) ds P each new = each_told k xs (tell_one k x ds) P (go (eqb x.0.shard k) refl) (λ i y at. new (suc i) y at)
  where
    go : (b : Bool) → eqb x.0.shard k ≡ b → (m : ℕ) (d : Death) → get_elem? (cond (b && nat_lt (last_version (deaths_at k x.0.slot ds)) x.0.version) (ds ++ new_death x.0.shard x.0.slot x.0.version x.1 ∷ []) ds) m ≡ some d → P d
    go true e = one_told k x ds (nat_lt (last_version (deaths_at k x.0.slot ds)) x.0.version) P each (new 0 x refl (eqb-true x.0.shard k e))
    go false e = each

-- the seat of a desk, before its turn
pub late_is : (name : TableId) (deaths : List Death) (xs : List (Pid × ℕ)) (n d : ℕ) (items : List SeatState) (z : SeatState) → d < n → items ≡ map (late_seat name deaths xs) (up_from 0 n) → z ≡ get_or items d z → z ≡ late_seat name deaths xs d
late_is name deaths xs n d items z low is at = let e : 0 + d ≡ d = omega arith in at ∙ ap (λ (l : List SeatState). get_or l d z) is ∙ get_map (late_seat name deaths xs) 0 n d z low ∙ ap (late_seat name deaths xs) e

-- after it
pub late_told : (name : TableId) (deaths : List Death) (xs : List (Pid × ℕ)) (x : Pid × ℕ) (n : ℕ) (items : List SeatState) (s t : SeatState) → x.0.shard < n → items ≡ map (late_seat name deaths xs) (up_from 0 n)
    → s ≡ late_seat name deaths xs x.0.shard → t ≡ with_deaths (tell_one x.0.shard x s.deaths) s → set items x.0.shard t ≡ map (late_seat name deaths (xs ++ x ∷ [])) (up_from 0 n)
late_told name deaths xs x n items s t low is was told =
    ap (λ (l : List SeatState). set l x.0.shard t) is
    ∙ set_map (late_seat name deaths xs) (late_seat name deaths (xs ++ x ∷ [])) 0 n x.0.shard t low new others
  where
    zero_more : 0 + x.0.shard ≡ x.0.shard
    zero_more = omega arith

    had : ℕ → List Death
    had k = filter (is_of k) deaths

    new : t ≡ late_seat name deaths (xs ++ x ∷ []) (0 + x.0.shard)
    new = told ∙ ap (λ (z : SeatState). with_deaths (tell_one x.0.shard x z.deaths) z) was
        ∙ ap (λ (l : List Death). record { name = name; homes = x.0.shard ∷ []; reads = []; deaths = l; marked = l }) (sym (tell_each-push x.0.shard xs x (filter (is_of x.0.shard) deaths)))
        ∙ ap (late_seat name deaths (xs ++ x ∷ [])) (sym zero_more)

    others : (k : ℕ) → k ≢ 0 + x.0.shard → late_seat name deaths xs k ≡ late_seat name deaths (xs ++ x ∷ []) k
    others k ne =
        ap (λ (l : List Death). record { name = name; homes = k ∷ []; reads = []; deaths = l; marked = l })
        (sym (tell_each-push k xs x (filter (is_of k) deaths) ∙ tell_else k x (tell_each k xs (filter (is_of k) deaths)) (λ e. ne (sym e ∙ sym zero_more))))

-- no death told so far has a greater stamp
pub late_stamp : (name : TableId) (deaths : List Death) (xs : List (Pid × ℕ)) (n d slot : ℕ) (s : SeatState) → s ≡ late_seat name deaths xs d → ((m : ℕ) (x : Death) → get_elem? deaths m ≡ some x → x.stamp ≤ n)
    → ((i : ℕ) (x : Pid × ℕ) → get_elem? xs i ≡ some x → x.1 ≡ n) → last_stamp (deaths_at d slot s.deaths) ≤ n
late_stamp name deaths xs n d slot s was low same =
    subst (λ (z : SeatState). last_stamp (deaths_at d slot z.deaths) ≤ n) (sym was)
    (last_stamp_up_to n (deaths_at d slot (tell_each d xs (filter (is_of d) deaths))) (λ k x at.
    let a = from_among (tell_each d xs (filter (is_of d) deaths)) k x d slot at in
    each_told d xs (filter (is_of d) deaths) (λ (z : Death). z.stamp ≤ n)
    (λ m z there. let f = from_filter (is_of d) deaths m z there in low f.0 z f.1)
    (λ i z there here. let e = same i z there in omega arith)
    a.0 x a.1))

-- what holds of each holds of each of the first
pub All-take-at : {A : Type 0} (P : A → Type 0) (xs : List A) (n : ℕ) → All P xs → (j : ℕ) (y : A) → get_elem? (take n xs) j ≡ some y → P y
All-take-at P [] zero all j y at = absurd (at_nothing y j at)
All-take-at P [] (suc n) all j y at = absurd (at_nothing y j at)
All-take-at P (x ∷ xs) zero all j y at = absurd (at_nothing y j at)
All-take-at P (x ∷ xs) (suc n) all zero y at = subst P (some-injective x y at) (All-head P x xs all)
All-take-at P (x ∷ xs) (suc n) all (suc j) y at = All-take-at P xs n (All-tail P x xs all) j y at
