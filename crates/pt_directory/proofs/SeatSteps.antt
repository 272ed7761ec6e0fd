-- A table begins with the rule, and seats are made and joined under it.
use Rattle.std.proofs.Common.{◌≡◌, ◌≢◌, ℕ, zero, suc, ◌+◌, ◌*◌, ◌<◌, Bool, true, false, true≢false, cond, eqb, List, [], ◌∷◌, ◌++◌, filter, length, set, get_or, replicate, refl, sym, ap, ◌∙◌, subst, ⊎_elim, arith, append-nil, eq-eqb, eqb-true, ne_eqb}
use Rattle.std.proofs.lemmas.List.Elements.{filter-append}
use Rattle.std.proofs.lemmas.List.{length-replicate}
use mathlib.Core.Option.{some, some-ne-none, some-injective}
use lib.ListN.{get_elem?}
use Rattle.atomic_table.specs.Table.{Splits, Joins, opening}
use Rattle.atomic_table.proofs.Lists.{at_set, at_snoc, at_longer}
use Rattle.pt_directory.specs.declared.view.Shape.{Shape}
use Rattle.pt_directory.specs.declared.view.Death.{Death}
use Rattle.pt_directory.specs.declared.view.View.{View}
use Rattle.pt_directory.specs.Views.{times_among, is_at, deaths_at, is_of, is_not_of, IsHomeOf, fresh_view, up_from, joined_views}
use Rattle.pt_directory.specs.Rule.{IsViewKept, IsKept, Ruled, one_home, other_homes, renewed_home, later_homes, first_view}
use Rattle.pt_directory.proofs.Lists.{at_append, at_behind, at_single, at_nothing, none_at, from_filter, deaths_kept, true-is_at, seats_there, times_there, times-append, times-up_from, homes_of-set, homes_of-push}
use Rattle.pt_directory.proofs.Loads.{set_each, two_homes}

-- a view that is the home of desks without deaths
fresh_ok : (shape : Shape) (words : List ℕ) (done pending : ℕ → ℕ → List Death) (homes : List ℕ) → ((x y k : ℕ) → get_elem? homes k ≡ some x → (done x y ≡ []) × (pending x y ≡ [])) → IsViewKept shape words done pending (fresh_view homes)
fresh_ok shape words done pending homes none_of = record {
  home = λ x y h. let t = none_of x y h.0 h.1 in (sym t.0, sym t.1);
  deaths = λ k e at. absurd (at_nothing e k at);
  begun = λ k e at. absurd (at_nothing e k at);
  reads = λ k r at. absurd (at_nothing r k at);
}

get_or-zeros : (n i : ℕ) → get_or {A = ℕ} (replicate n 0) i 0 ≡ 0
get_or-zeros zero i = refl
get_or-zeros (suc n) zero = refl
get_or-zeros (suc n) (suc i) = get_or-zeros n i

pub not_of : (h : ℕ) (d : Death) → d.shard ≢ h → is_not_of h d ≡ true
not_of h d ne = ap (λ (b : Bool). cond b false true) (ne_eqb d.shard h ne)

is_not : (h : ℕ) (d : Death) → is_not_of h d ≡ true → d.shard ≢ h
is_not h d is same = true≢false (sym is ∙ ap (λ (b : Bool). cond b false true) (eq-eqb d.shard h same))

-- the first of some, and the rest
pub first_of : (xs : List ℕ) → 0 < length xs → (h : ℕ) × (hs : List ℕ) × (xs ≡ h ∷ hs)
first_of [] some_there = absurd (omega arith)
first_of (h ∷ hs) some_there = (h, hs, refl)

-- a home that is not the first is among the rest
rest_home : (h : ℕ) (hs : List ℕ) (d : Death) → d.shard ≢ h → (k : ℕ) × (get_elem? (h ∷ hs) k ≡ some d.shard) → (k : ℕ) × (get_elem? hs k ≡ some d.shard)
rest_home h hs d ne t = go t.0 t.1
  where
    go : (k : ℕ) → get_elem? (h ∷ hs) k ≡ some d.shard → (k : ℕ) × (get_elem? hs k ≡ some d.shard)
    go zero e = absurd (ne (sym (some-injective h d.shard e)))
    go (suc k) e = (k, e)

pub opens : (shape : Shape) (words : List ℕ) (n : ℕ) → words ≡ replicate n 0 → n ≡ 2 * (shape.desks * shape.slots) → Ruled shape (opening words [] (first_view shape))
opens shape words n zeros len = record {
  done = λ _ _. [];
  pending = λ _ _. [];
  sized = ap length zeros ∙ length-replicate n 0 ∙ len;
  slots = λ x y p q. record { version = at_zero _; death = at_zero _; rises = tt; one = omega arith };
  once = λ x. let h = times-up_from x 0 shape.desks in omega arith;
  each = first;
}
  where
    at_zero : (i : ℕ) → get_or words i 0 ≡ 0
    at_zero i = ap (λ (l : List ℕ). get_or l i 0) zeros ∙ get_or-zeros n i

    first : (i : ℕ) (v : View) → get_elem? (first_view shape ∷ []) i ≡ some v → IsViewKept shape words (λ _ _. []) (λ _ _. []) v
    first zero v at = subst (IsViewKept shape words (λ _ _. []) (λ _ _. [])) (some-injective (first_view shape) v at) (fresh_ok shape words (λ _ _. []) (λ _ _. []) (up_from 0 shape.desks) (λ _ _ _ _. (refl, refl)))
    first (suc i) v at = absurd (some-ne-none v (sym at))

-- a view that is parted: the later homes stay where it was, and the first is the home of a view that is added
parted_kept : (shape : Shape) (words : List ℕ) (views : List View) (k : IsKept shape words views) (id h : ℕ) (hs : List ℕ) (was left right : View) → get_elem? views id ≡ some was → was.homes ≡ h ∷ hs → left.homes ≡ hs → right.homes ≡ h ∷ []
    → IsViewKept shape words k.done k.pending left → IsViewKept shape words k.done k.pending right → IsKept shape words (set views id left ++ right ∷ [])
parted_kept shape words views k id h hs was left right at both_homes later first lok rok = record {
  done = k.done;
  pending = k.pending;
  sized = k.sized;
  slots = k.slots;
  once = λ x.
      let a = homes_of-set x views id was left at in
      let b = homes_of-push x (set views id left) right in
      let c = k.once x in
      let d : times_among x was.homes ≡ times_among x (h ∷ hs) = ap (times_among x) both_homes in
      let e : times_among x left.homes ≡ times_among x hs = ap (times_among x) later in
      let f : times_among x right.homes ≡ times_among x (h ∷ []) = ap (times_among x) first in
      omega arith;
  each = λ j u e. ⊎_elim
      (λ (was : get_elem? (set views id left) j ≡ some u). set_each (IsViewKept shape words k.done k.pending) views id left (λ i z _ there. k.each i z there) lok j u was)
      (λ (new : right ≡ u). subst (IsViewKept shape words k.done k.pending) new rok)
      (at_snoc (set views id left) right u j e);
}

pub splits : (shape : Shape) (id h : ℕ) (hs : List ℕ) (v : View) → v ≡ fresh_view (h ∷ hs) → Splits (Ruled shape) id v (other_homes v) (one_home v)
splits shape id h hs v is st k at =
    let left : View = fresh_view hs in
    let right : View = fresh_view (h ∷ []) in
    let at' : get_elem? st.views id ≡ some (fresh_view (h ∷ hs)) = at ∙ ap some is in
    let vok = k.each id (fresh_view (h ∷ hs)) at' in
    let bare : (x y j : ℕ) → get_elem? (h ∷ hs) j ≡ some x → (k.done x y ≡ []) × (k.pending x y ≡ []) = λ x y j e. let t = vok.home x y (j, e) in (sym t.0, sym t.1) in
    let lok : IsViewKept shape st.words k.done k.pending left = fresh_ok shape st.words k.done k.pending hs (λ x y j e. bare x y (suc j) e) in
    let rok : IsViewKept shape st.words k.done k.pending right = fresh_ok shape st.words k.done k.pending (h ∷ []) (λ x y j e. subst (λ (z : ℕ). (k.done z y ≡ []) × (k.pending z y ≡ [])) (at_single h x j e) (bare h y 0 refl)) in
    let both = parted_kept shape st.words st.views k id h hs (fresh_view (h ∷ hs)) left right at' refl refl refl lok rok in
    subst (λ (z : View). IsKept shape st.words (set st.views id (other_homes z) ++ one_home z ∷ [])) (sym is) both

-- a seat that is made anew: the first home of a view, with what was told of that desk
pub renews : (shape : Shape) (id h : ℕ) (hs : List ℕ) (v : View) → v.homes ≡ h ∷ hs → v.begun ≡ [] → Splits (Ruled shape) id v (later_homes v) (renewed_home v)
renews shape id h hs v homes idle st k at =
    let was : View = record { homes = h ∷ hs; reads = v.reads; deaths = v.deaths; begun = []; marked = v.marked } in
    let is : v ≡ was = λ i. record { homes = homes i; reads = v.reads; deaths = v.deaths; begun = idle i; marked = v.marked } in
    let left : View = record { homes = hs; reads = v.reads; deaths = filter (is_not_of h) v.deaths; begun = []; marked = v.marked } in
    let right : View = record { homes = h ∷ []; reads = []; deaths = filter (is_of h) v.deaths; begun = []; marked = filter (is_of h) v.deaths } in
    let at' : get_elem? st.views id ≡ some was = at ∙ ap some is in
    let vok = k.each id was at' in
    let other : (x j : ℕ) → get_elem? hs j ≡ some x → h ≢ x = λ x j e same.
    let a = seats_there x st.views id was at' in
    let b = times_there x hs j e in
    let c = k.once x in
    let d : cond {A = ℕ} (eqb h x) 1 0 ≡ 1 = ap (λ (t : Bool). cond {A = ℕ} t 1 0) (eq-eqb h x same) in
    omega arith in
    let lok : IsViewKept shape st.words k.done k.pending left = record {
      home = λ x y t.
          let o = vok.home x y (suc t.0, t.1) in
          (deaths_kept (is_not_of h) x y v.deaths (λ d here. not_of h d (λ e. other x t.0 t.1 (sym e ∙ (true-is_at d x y here).0))) ∙ o.0, o.1);
      deaths = λ j d e.
          let f = from_filter (is_not_of h) v.deaths j d e in
          rest_home h hs d (is_not h d f.2) (vok.deaths f.0 d f.1);
      begun = λ j d e. absurd (at_nothing d j e);
      reads = vok.reads;
    } in
    let rok : IsViewKept shape st.words k.done k.pending right = record {
      home = λ x y t.
          let o = vok.home x y (0, ap some (at_single h x t.0 t.1)) in
          (deaths_kept (is_of h) x y v.deaths (λ d here. eq-eqb d.shard h ((true-is_at d x y here).0 ∙ sym (at_single h x t.0 t.1))) ∙ o.0, o.1);
      deaths = λ j d e. let f = from_filter (is_of h) v.deaths j d e in (0, ap some (sym (eqb-true d.shard h f.2)));
      begun = λ j d e. absurd (at_nothing d j e);
      reads = λ j r e. absurd (at_nothing r j e);
    } in
    let both = parted_kept shape st.words st.views k id h hs was left right at' refl refl refl lok rok in
    subst (λ (z : View). IsKept shape st.words (set st.views id (later_homes z) ++ renewed_home z ∷ [])) (sym is) both

pub joins : (shape : Shape) (id : ℕ) (v : View) (other : ℕ) (w : View) → Joins (Ruled shape) id v other w (joined_views v w) (fresh_view [])
joins shape id v other w st k at apart there =
    let j : View = joined_views v w in
    let there' : get_elem? st.views other ≡ some w = ⊎_elim (λ (t : (other ≡ id) × (j ≡ w)). absurd (apart t.0)) (λ (t : (other ≢ id) × (get_elem? st.views other ≡ some w)). t.1) (at_set st.views id other j w there) in
    let vok = k.each id v at in
    let wok = k.each other w there' in
    let not_both : (x : ℕ) → IsHomeOf x v → IsHomeOf x w → ⊥ = λ x. two_homes st.views id other x v w k.once at there' apart in
    let ok : IsViewKept shape st.words k.done k.pending j = record {
      home = λ x y h. ⊎_elim
          (λ (mine : get_elem? v.homes h.0 ≡ some x).
          let hv : IsHomeOf x v = (h.0, mine) in (
            filter-append (is_at x y) v.deaths w.deaths ∙ ap (λ l. l ++ deaths_at x y w.deaths) (vok.home x y hv).0 ∙ ap (λ l. k.done x y ++ l) (none_at w.deaths x y (λ m e e_at e_is. not_both x hv (subst (λ (z : ℕ). IsHomeOf z w) e_is (wok.deaths m e e_at)))) ∙ append-nil (k.done x y),
            filter-append (is_at x y) v.begun w.begun ∙ ap (λ l. l ++ deaths_at x y w.begun) (vok.home x y hv).1 ∙ ap (λ l. k.pending x y ++ l) (none_at w.begun x y (λ m e e_at e_is. not_both x hv (subst (λ (z : ℕ). IsHomeOf z w) e_is (wok.begun m e e_at)))) ∙ append-nil (k.pending x y),
          ))
          (λ (t : (i : ℕ) × (get_elem? w.homes i ≡ some x) × (h.0 ≡ length v.homes + i)).
          let hw : IsHomeOf x w = (t.0, t.1) in (
            filter-append (is_at x y) v.deaths w.deaths ∙ ap (λ l. l ++ deaths_at x y w.deaths) (none_at v.deaths x y (λ m e e_at e_is. not_both x (subst (λ (z : ℕ). IsHomeOf z v) e_is (vok.deaths m e e_at)) hw)) ∙ (wok.home x y hw).0,
            filter-append (is_at x y) v.begun w.begun ∙ ap (λ l. l ++ deaths_at x y w.begun) (none_at v.begun x y (λ m e e_at e_is. not_both x (subst (λ (z : ℕ). IsHomeOf z v) e_is (vok.begun m e e_at)) hw)) ∙ (wok.home x y hw).1,
          ))
          (at_append v.homes w.homes h.0 x h.1);
      deaths = λ m e e_at. ⊎_elim
          (λ (mine : get_elem? v.deaths m ≡ some e). let t = vok.deaths m e mine in (t.0, at_longer v.homes w.homes t.0 e.shard t.1))
          (λ (t : (i : ℕ) × (get_elem? w.deaths i ≡ some e) × (m ≡ length v.deaths + i)). let u = wok.deaths t.0 e t.1 in at_behind v.homes w.homes u.0 e.shard u.1)
          (at_append v.deaths w.deaths m e e_at);
      begun = λ m e e_at. ⊎_elim
          (λ (mine : get_elem? v.begun m ≡ some e). let t = vok.begun m e mine in (t.0, at_longer v.homes w.homes t.0 e.shard t.1))
          (λ (t : (i : ℕ) × (get_elem? w.begun i ≡ some e) × (m ≡ length v.begun + i)). let u = wok.begun t.0 e t.1 in at_behind v.homes w.homes u.0 e.shard u.1)
          (at_append v.begun w.begun m e e_at);
      reads = λ m r r_at. ⊎_elim
          (λ (mine : get_elem? v.reads m ≡ some r). vok.reads m r mine)
          (λ (t : (i : ℕ) × (get_elem? w.reads i ≡ some r) × (m ≡ length v.reads + i)). wok.reads t.0 r t.1)
          (at_append v.reads w.reads m r r_at);
    } in record {
      done = k.done;
      pending = k.pending;
      sized = k.sized;
      slots = k.slots;
      once = λ x.
          let a = homes_of-set x st.views id v j at in
          let b = homes_of-set x (set st.views id j) other w (fresh_view []) there in
          let c = times-append x v.homes w.homes in
          let d = k.once x in omega arith;
      each = set_each (IsViewKept shape st.words k.done k.pending) (set st.views id j) other (fresh_view [])
          (λ i u _ e. set_each (IsViewKept shape st.words k.done k.pending) st.views id j (λ m z _ z_at. k.each m z z_at) ok i u e)
          (fresh_ok shape st.words k.done k.pending [] (λ x y m e. absurd (at_nothing x m e)));
    }
