-- Each step keeps the rule.
use Rattle.std.proofs.Common.{◌≡◌, ◌≢◌, ℕ, ◌+◌, ◌*◌, ◌<◌, ◌≤◌, false, true≢false, List, [], ◌∷◌, ◌++◌, length, set, get_or, Option, Some, None, MatchOption, refl, sym, ap, ◌∙◌, subst, ⊎_elim, arith, le_refl, le_trans, mul_comm}
use Rattle.std.proofs.lemmas.List.{set-get_or}
use Rattle.std.proofs.lemmas.Nat.{mul-add-lt, same_from_place}
use mathlib.Core.Option.{none, some}
use lib.ListN.{get_elem?}
use Rattle.atomic_table.specs.Table.{step, keeps, Allows}
use Rattle.atomic_table.proofs.Lists.{at_set, at_longer, at_last}
use Rattle.pt_directory.specs.declared.view.Shape.{Shape}
use Rattle.pt_directory.specs.declared.view.Read.{Read}
use Rattle.pt_directory.specs.declared.view.Death.{Death}
use Rattle.pt_directory.specs.declared.view.View.{View}
use Rattle.pt_directory.specs.Views.{new_death, new_read, is_at, deaths_at, Rises, HasDeath, Covers, IsHomeOf, times_among, with_read, with_stamp, stamp_last, last_version, marked_view}
use Rattle.pt_directory.specs.Rule.{version_word, death_word, IsReadKept, IsViewKept, Once, IsKept, Ruled, SeatKnows, VersionLoaded, DeathLoaded, Audited, ToldLoaded, Marked}
use Rattle.pt_directory.proofs.Lists.{at_append, at_single, up_to_last, rises_both, Rises-front, has_last, among, stamp_last-push, is_at-true, times_there, homes_of-set, two_seats}

-- where the words of a slot stand

pub version_in : (shape : Shape) (ws : List ℕ) (d s : ℕ) → length ws ≡ 2 * (shape.desks * shape.slots) → d < shape.desks → s < shape.slots → version_word shape.slots d s < length ws
version_in shape ws d s len p q = let h = mul-add-lt d shape.slots s shape.desks p q in let c = mul_comm shape.slots shape.desks in omega arith

pub death_in : (shape : Shape) (ws : List ℕ) (d s : ℕ) → length ws ≡ 2 * (shape.desks * shape.slots) → d < shape.desks → s < shape.slots → death_word shape.slots d s < length ws
death_in shape ws d s len p q = let h = mul-add-lt d shape.slots s shape.desks p q in let c = mul_comm shape.slots shape.desks in omega arith

pub odd_even : (slots d s x y : ℕ) → version_word slots x y ≢ death_word slots d s
odd_even slots d s x y e = let a = e in omega arith

pub even_odd : (slots d s x y : ℕ) → death_word slots x y ≢ version_word slots d s
even_odd slots d s x y e = let a = e in omega arith

pub apart_version : (slots ver t d s x y : ℕ) → s < slots → y < slots → is_at x y (new_death d s ver t) ≡ false → version_word slots x y ≢ version_word slots d s
apart_version slots ver t d s x y p q off e =
    let a : d * slots + s ≡ x * slots + y = omega (arith, e) in
    let h = same_from_place d s x y slots p q a in
    true≢false (sym (is_at-true (new_death d s ver t) x y h.0 h.1) ∙ off)

pub apart_death : (slots ver t d s x y : ℕ) → s < slots → y < slots → is_at x y (new_death d s ver t) ≡ false → death_word slots x y ≢ death_word slots d s
apart_death slots ver t d s x y p q off e =
    let a : d * slots + s ≡ x * slots + y = omega (arith, e) in
    let h = same_from_place d s x y slots p q a in
    true≢false (sym (is_at-true (new_death d s ver t) x y h.0 h.1) ∙ off)

-- what holds of each view, after one view has changed
pub set_each : (P : View → Type 0) (views : List View) (id : ℕ) (w : View) → ((j : ℕ) (u : View) → j ≢ id → get_elem? views j ≡ some u → P u) → P w
    → (j : ℕ) (u : View) → get_elem? (set views id w) j ≡ some u → P u
set_each P views id w others mine j u e =
    ⊎_elim
    (λ (x : (j ≡ id) × (w ≡ u)). subst P x.1 mine)
    (λ (x : (j ≢ id) × (get_elem? views j ≡ some u)). others j u x.0 x.1)
    (at_set views id j w u e)

pub once_set : (views : List View) (id : ℕ) (v w : View) → get_elem? views id ≡ some v → w.homes ≡ v.homes → Once views → Once (set views id w)
once_set views id v w at same once x = let a = homes_of-set x views id v w at in let b : times_among x w.homes ≡ times_among x v.homes = ap (times_among x) same in let c = once x in omega arith

-- two seats are not the home of one desk
pub two_homes : (views : List View) (i j x : ℕ) (v w : View) → Once views → get_elem? views i ≡ some v → get_elem? views j ≡ some w → j ≢ i → IsHomeOf x v → IsHomeOf x w → ⊥
two_homes views i j x v w once at there apart h g =
    let a = two_seats x views i j v w at there apart in
    let b = times_there x v.homes h.0 h.1 in
    let c = times_there x w.homes g.0 g.1 in
    let d = once x in omega arith

map_match : (o : Option ℕ) (P Q : ℕ → Type 0) → ((s : ℕ) → P s → Q s) → MatchOption o (Unit {0}) P → MatchOption o (Unit {0}) Q
map_match None P Q f h = tt
map_match (Some s) P Q f h = f s h

-- a read stays right where words and deaths only grow
pub read_grows : (shape : Shape) (ws us : List ℕ) (es fs : List Death) (r : Read) → ((j : ℕ) → get_or ws j 0 ≤ get_or us j 0) → ((v t : ℕ) → HasDeath es v t → HasDeath fs v t) → IsReadKept shape ws es r → IsReadKept shape us fs r
read_grows shape ws us es fs r up more ok = record {
  shard_in = ok.shard_in;
  slot_in = ok.slot_in;
  version = le_trans ok.version (up (version_word shape.slots r.shard r.slot));
  ended = λ pos. let t = ok.ended pos in (t.0, more r.version t.0 t.1);
  stamp = map_match r.stamp (λ s. (s ≤ get_or ws (death_word shape.slots r.shard r.slot) 0) × (0 < r.version → HasDeath es r.version s)) (λ s. (s ≤ get_or us (death_word shape.slots r.shard r.slot) 0) × (0 < r.version → HasDeath fs r.version s))
      (λ s h. (le_trans h.0 (up (death_word shape.slots r.shard r.slot)), λ pos. more r.version s (h.1 pos))) ok.stamp;
}

-- a step that reads keeps the words
read_keeps : (shape : Shape) (words : List ℕ) (views : List View) (i id : ℕ) (v w : View) (k : IsKept shape words views) → get_elem? views id ≡ some v → w.homes ≡ v.homes → IsViewKept shape words k.done k.pending w
    → IsKept shape (set words i (get_or words i 0)) (set views id w)
read_keeps shape words views i id v w k at same ok =
    subst (λ (ws : List ℕ). IsKept shape ws (set views id w)) (sym (set-get_or words i 0)) (record {
      done = k.done;
      pending = k.pending;
      sized = k.sized;
      slots = k.slots;
      once = once_set views id v w at same k.once;
      each = set_each (IsViewKept shape words k.done k.pending) views id w (λ j u _ e. k.each j u e) ok;
    })

pub loads_version : (shape : Shape) (slots id : ℕ) (me : SeatKnows) (d s : ℕ) → d < shape.desks → s < shape.slots
    → Allows (Ruled shape) slots id me (version_word shape.slots d s) (λ n. n) (VersionLoaded d s (step slots (version_word shape.slots d s) 0 0 none) me)
loads_version shape slots id me d s p q st k len at small =
    let v = me.0 in
    let n : ℕ = get_or st.words (version_word shape.slots d s) 0 in
    let r : Read = new_read d s n None in
    let w : View = with_read r v in
    let vok = k.each id v at in
    let so = k.slots d s p q in
    let new : IsReadKept shape st.words (k.done d s) r = record {
      shard_in = p;
      slot_in = q;
      version = le_refl n;
      ended = λ pos. subst (λ (m : ℕ). (t : ℕ) × HasDeath (k.done d s) m t) (sym so.version) (has_last (k.done d s) (subst (λ (m : ℕ). 0 < m) so.version pos));
      stamp = tt;
    } in
    let ok : IsViewKept shape st.words k.done k.pending w = record {
      home = vok.home;
      deaths = vok.deaths;
      begun = vok.begun;
      reads = λ j u e. ⊎_elim
          (λ (was : get_elem? v.reads j ≡ some u). vok.reads j u was)
          (λ (t : (i : ℕ) × (get_elem? (r ∷ []) i ≡ some u) × (j ≡ length v.reads + i)). subst (λ (z : Read). IsReadKept shape st.words (k.done z.shard z.slot) z) (at_single r u t.0 t.1) new)
          (at_append v.reads (r ∷ []) j u e);
    } in (
      w,
      keeps,
      tt,
      read_keeps shape st.words st.views (version_word shape.slots d s) id v w k at refl ok,
      (
        refl,
        (λ j u e ud us. let h = (vok.reads j u e).version in subst (λ (z : ℕ × ℕ). u.version ≤ get_or st.words (version_word shape.slots z.0 z.1) 0) (λ i. (ud i, us i)) h),
        (λ j u e ud us.
            let home : IsHomeOf d v = subst (λ (z : ℕ). IsHomeOf z v) ud (vok.deaths j u e) in
            let a = among v.deaths j u d s e (is_at-true u d s ud us) in
            let b : get_elem? (k.done d s) a.0 ≡ some u = subst (λ (l : List Death). get_elem? l a.0 ≡ some u) (vok.home d s home).0 a.1 in
            let c = (up_to_last (k.done d s) a.0 u (Rises-front (k.done d s) (k.pending d s) so.rises) b).0 in
            subst (λ (m : ℕ). u.version ≤ m) (sym so.version) c),
      ),
    )

pub loads_death : (shape : Shape) (slots id : ℕ) (me : SeatKnows) (d s ver : ℕ) (before : List Read) → me.0.reads ≡ before ++ new_read d s ver None ∷ []
    → Allows (Ruled shape) slots id me (death_word shape.slots d s) (λ n. n) (DeathLoaded (step slots (death_word shape.slots d s) 0 0 none) me)
loads_death shape slots id me d s ver before is st k len at small =
    let v = me.0 in
    let n : ℕ = get_or st.words (death_word shape.slots d s) 0 in
    let old : Read = new_read d s ver None in
    let new : Read = new_read d s ver (Some n) in
    let w : View = with_stamp n v in
    let vok = k.each id v at in
    let was : IsReadKept shape st.words (k.done d s) old = vok.reads (length before) old (subst (λ (l : List Read). get_elem? l (length before) ≡ some old) (sym is) (at_last before old (length before) refl)) in
    let so = k.slots d s was.shard_in was.slot_in in
    let now : IsReadKept shape st.words (k.done d s) new = record {
      shard_in = was.shard_in;
      slot_in = was.slot_in;
      version = was.version;
      ended = was.ended;
      stamp = (
        le_refl n,
        λ pos.
            let t = was.ended pos in
            let e = t.1 in
            let c = (up_to_last (k.done d s ++ k.pending d s) e.0 e.1 so.rises (at_longer (k.done d s) (k.pending d s) e.0 e.1 e.2)).1 in
            (e.0, e.1, e.2, e.3, subst (λ (m : ℕ). e.1.stamp ≤ m) (sym so.death) c),
      );
    } in
    let become : w.reads ≡ before ++ new ∷ [] = ap (stamp_last n) is ∙ stamp_last-push before n old in
    let ok : IsViewKept shape st.words k.done k.pending w = record {
      home = vok.home;
      deaths = vok.deaths;
      begun = vok.begun;
      reads = λ j u e. ⊎_elim
          (λ (there : get_elem? before j ≡ some u). vok.reads j u (subst (λ (l : List Read). get_elem? l j ≡ some u) (sym is) (at_longer before (old ∷ []) j u there)))
          (λ (t : (i : ℕ) × (get_elem? (new ∷ []) i ≡ some u) × (j ≡ length before + i)). subst (λ (z : Read). IsReadKept shape st.words (k.done z.shard z.slot) z) (at_single new u t.0 t.1) now)
          (at_append before (new ∷ []) j u (subst (λ (l : List Read). get_elem? l j ≡ some u) become e));
    } in (
      w,
      keeps,
      tt,
      read_keeps shape st.words st.views (death_word shape.slots d s) id v w k at refl ok,
      refl,
    )

-- a read with a stamp is covered by the deaths of its slot
covered : (ds : List Death) (version stamp : ℕ) → Rises ds → HasDeath ds version stamp → Covers ds version stamp
covered ds version stamp rises h = record {
  died = h;
  latest = λ k d at low.
      let up : d.version ≤ h.1.version = subst (λ (n : ℕ). d.version ≤ n) (sym h.3) low in
      le_trans (rises_both ds k h.0 d h.1 rises at h.2 up) h.4;
}

pub audits : (shape : Shape) (slots id : ℕ) (me : SeatKnows) (i : ℕ) → Allows (Ruled shape) slots id me i (λ n. n) (Audited (step slots i 0 0 none) me)
audits shape slots id me i st k len at small =
    let v = me.0 in
    let vok = k.each id v at in (
      v,
      keeps,
      tt,
      read_keeps shape st.words st.views i id v v k at refl vok,
      (
        refl,
        λ j r e home pos.
            let ok = vok.reads j r e in
            let slot = k.slots r.shard r.slot ok.shard_in ok.slot_in in
            map_match r.stamp (λ s. (s ≤ get_or st.words (death_word shape.slots r.shard r.slot) 0) × (0 < r.version → HasDeath (k.done r.shard r.slot) r.version s)) (λ s. Covers (deaths_at r.shard r.slot v.deaths) r.version s)
            (λ s h. subst (λ (l : List Death). Covers l r.version s) (sym (vok.home r.shard r.slot home).0)
            (covered (k.done r.shard r.slot) r.version s (Rises-front (k.done r.shard r.slot) (k.pending r.shard r.slot) slot.rises) (h.1 pos)))
            ok.stamp,
      ),
    )

-- the home of a slot's desk knows what it reads
pub loads_told : (shape : Shape) (slots id : ℕ) (me : SeatKnows) (d s : ℕ) → d < shape.desks → s < shape.slots
    → Allows (Ruled shape) slots id me (version_word shape.slots d s) (λ n. n) (ToldLoaded d s (step slots (version_word shape.slots d s) 0 0 none) me)
loads_told shape slots id me d s p q st k len at small =
    let v = me.0 in
    let vok = k.each id v at in
    let so = k.slots d s p q in (
      v,
      keeps,
      tt,
      read_keeps shape st.words st.views (version_word shape.slots d s) id v v k at refl vok,
      (refl, λ home. so.version ∙ ap last_version (sym (vok.home d s home).0)),
    )

-- marking touches nothing that the rule says
pub marks : (shape : Shape) (slots id : ℕ) (me : SeatKnows) (i : ℕ) → Allows (Ruled shape) slots id me i (λ n. n) (Marked (step slots i 0 0 none) me)
marks shape slots id me i st k len at small =
    let v = me.0 in
    let w : View = marked_view v in
    let vok = k.each id v at in
    let ok : IsViewKept shape st.words k.done k.pending w = record {
      home = vok.home;
      deaths = vok.deaths;
      begun = vok.begun;
      reads = vok.reads;
    } in (
      w,
      keeps,
      tt,
      read_keeps shape st.words st.views i id v w k at refl ok,
      refl,
    )
