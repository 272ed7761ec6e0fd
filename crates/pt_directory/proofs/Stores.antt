-- The steps of the home of a desk, and those that make and join seats.
use Rattle.std.proofs.Common.{◌≡◌, ◌≢◌, ◌⊎◌, ℕ, ◌+◌, ◌<◌, ◌≤◌, Bool, true, false, cond, List, [], ◌∷◌, ◌++◌, length, set, get_or, refl, sym, ap, ◌∙◌, subst, inl, inr, ⊎_elim, arith, le_refl, append-nil, length-set, get_or-set_other, get_or-set_same}
use Rattle.std.proofs.lemmas.List.Elements.{filter-append}
use mathlib.Core.Option.{none, some}
use lib.ListN.{get_elem?}
use Rattle.atomic_table.specs.Table.{step, keeps, Allows}
use Rattle.pt_directory.specs.declared.view.Shape.{Shape}
use Rattle.pt_directory.specs.declared.view.Death.{Death}
use Rattle.pt_directory.specs.declared.view.View.{View}
use Rattle.pt_directory.specs.Views.{new_death, is_at, deaths_at, last_version, last_stamp, Rises, IsHomeOf, with_begun, finished_view}
use Rattle.pt_directory.specs.Rule.{version_word, death_word, IsSlotKept, IsViewKept, Ruled, SeatKnows, DeathStored, VersionStored}
use Rattle.pt_directory.proofs.Lists.{at_append, at_single, at_nothing, set_grows, last_version-push, last_stamp-push, Rises-push, last_version-front, Rises-front, HasDeath-longer, none_at, is_at-true, true-is_at}
use Rattle.pt_directory.proofs.Loads.{version_in, death_in, odd_even, even_odd, apart_version, apart_death, set_each, once_set, two_homes, read_grows}

-- the end is of another slot
single_off : (x y : ℕ) (e : Death) → is_at x y e ≡ false → deaths_at x y (e ∷ []) ≡ []
single_off x y e h = ap (λ (b : Bool). cond b (e ∷ []) []) h

single_on : (x y : ℕ) (e : Death) → is_at x y e ≡ true → deaths_at x y (e ∷ []) ≡ e ∷ []
single_on x y e h = ap (λ (b : Bool). cond b (e ∷ []) []) h

both_cases : (b : Bool) → (b ≡ true) ⊎ (b ≡ false)
both_cases true = inl refl
both_cases false = inr refl

-- the words of another slot stay
slot_else : (ws : List ℕ) (slots x y i n : ℕ) (es fs : List Death) → version_word slots x y ≢ i → death_word slots x y ≢ i → IsSlotKept ws slots x y es fs → IsSlotKept (set ws i n) slots x y es fs
slot_else ws slots x y i n es fs a b ok = record {
  version = get_or-set_other ws i (version_word slots x y) n 0 a ∙ ok.version;
  death = get_or-set_other ws i (death_word slots x y) n 0 b ∙ ok.death;
  rises = ok.rises;
  one = ok.one;
}

module _ (shape : Shape) (slots id : ℕ) (me : SeatKnows) (d s ver t : ℕ) (p : d < shape.desks) (q : s < shape.slots) where
  abbrev e : Death
  e = new_death d s ver t

  here : is_at d s e ≡ true
  here = is_at-true e d s refl refl

  pub stores_death : IsHomeOf d me.0 → me.0.begun ≡ [] → last_version (deaths_at d s me.0.deaths) < ver → last_stamp (deaths_at d s me.0.deaths) ≤ t
      → Allows (Ruled shape) slots id me (death_word shape.slots d s) (λ _. t) (λ _. DeathStored d s ver (step slots (death_word shape.slots d s) t 0 none) me t)
  stores_death home idle newer later st k len at small =
      let v = me.0 in
      let i : ℕ = death_word shape.slots d s in
      let w : View = with_begun e v in
      let vok = k.each id v at in
      let so = k.slots d s p q in
      let us : List ℕ = set st.words i t in
      let more : ℕ → ℕ → List Death = λ x y. k.pending x y ++ deaths_at x y (e ∷ []) in
      let nothing : (x y : ℕ) → IsHomeOf x v → k.pending x y ≡ [] = λ x y h. sym (vok.home x y h).1 ∙ ap (deaths_at x y) idle in
      let was : last_stamp (k.done d s) ≤ t = subst (λ (l : List Death). last_stamp l ≤ t) (vok.home d s home).0 later in
      let old : last_version (k.done d s) < ver = subst (λ (l : List Death). last_version l < ver) (vok.home d s home).0 newer in
      let alone : k.done d s ++ k.pending d s ≡ k.done d s = ap (λ l. k.done d s ++ l) (nothing d s home) ∙ append-nil (k.done d s) in
      let low : get_or st.words i 0 ≤ t = (let a : get_or st.words i 0 ≡ last_stamp (k.done d s) = so.death ∙ ap last_stamp alone in omega arith) in
      let up : (j : ℕ) → get_or st.words j 0 ≤ get_or us j 0 = λ j. set_grows st.words i t j low in
      let off : (j x : ℕ) (u : View) → get_elem? st.views j ≡ some u → j ≢ id → IsHomeOf x u → (d ≡ x → ⊥) = λ j x u there apart h same. two_homes st.views id j x v u k.once at there apart (subst (λ (z : ℕ). IsHomeOf z v) same home) h in
      let rises : Rises (k.done d s ++ e ∷ []) = Rises-push (k.done d s) e (Rises-front (k.done d s) (k.pending d s) so.rises) old was in
      let now : IsSlotKept us shape.slots d s (k.done d s) (e ∷ []) = record {
        version = get_or-set_other st.words i (version_word shape.slots d s) t 0 (odd_even shape.slots d s d s) ∙ so.version;
        death = get_or-set_same st.words i t 0 (death_in shape st.words d s k.sized p q) ∙ sym (last_stamp-push (k.done d s) e);
        rises = rises;
        one = le_refl 1;
      } in
      let others : (j : ℕ) (u : View) → j ≢ id → get_elem? st.views j ≡ some u → IsViewKept shape us k.done more u = λ j u apart there.
      let uok = k.each j u there in record {
        home = λ x y h. ((uok.home x y h).0, (uok.home x y h).1 ∙ sym (append-nil (k.pending x y)) ∙ ap (λ l. k.pending x y ++ l) (sym (none_at (e ∷ []) x y (λ m f f_at f_is. off j x u there apart h (ap (λ (z : Death). z.shard) (at_single e f m f_at) ∙ f_is)))));
        deaths = uok.deaths;
        begun = uok.begun;
        reads = λ m r r_at. read_grows shape st.words us (k.done r.shard r.slot) (k.done r.shard r.slot) r up (λ _ _ h. h) (uok.reads m r r_at);
      } in
      let mine : IsViewKept shape us k.done more w = record {
        home = λ x y h. ((vok.home x y h).0, ap (λ l. l ++ deaths_at x y (e ∷ [])) (sym (nothing x y h)));
        deaths = vok.deaths;
        begun = λ m f f_at. subst (λ (z : Death). IsHomeOf z.shard v) (at_single e f m f_at) home;
        reads = λ m r r_at. read_grows shape st.words us (k.done r.shard r.slot) (k.done r.shard r.slot) r up (λ _ _ h. h) (vok.reads m r r_at);
      } in (
        w,
        keeps,
        tt,
        record {
          done = k.done;
          pending = more;
          sized = length-set st.words i t ∙ k.sized;
          slots = λ x y a b. ⊎_elim
              (λ (on : is_at x y e ≡ true). let h = true-is_at e x y on in
              let both : k.pending d s ++ deaths_at d s (e ∷ []) ≡ e ∷ [] = ap (λ l. l ++ deaths_at d s (e ∷ [])) (nothing d s home) ∙ single_on d s e here in
              subst (λ (z : ℕ × ℕ). IsSlotKept us shape.slots z.0 z.1 (k.done z.0 z.1) (more z.0 z.1)) (λ m. (h.0 m, h.1 m)) (subst (λ (l : List Death). IsSlotKept us shape.slots d s (k.done d s) l) (sym both) now))
              (λ (out : is_at x y e ≡ false).
              let same : more x y ≡ k.pending x y = ap (λ l. k.pending x y ++ l) (single_off x y e out) ∙ append-nil (k.pending x y) in
              subst (λ (l : List Death). IsSlotKept us shape.slots x y (k.done x y) l) (sym same) (slot_else st.words shape.slots x y i t (k.done x y) (k.pending x y) (odd_even shape.slots d s x y) (apart_death shape.slots ver t d s x y q b out) (k.slots x y a b)))
              (both_cases (is_at x y e));
          once = once_set st.views id v w at refl k.once;
          each = set_each (IsViewKept shape us k.done more) st.views id w others mine;
        },
        refl,
      )

  pub stores_version : me.0.begun ≡ e ∷ []
      → Allows (Ruled shape) slots id me (version_word shape.slots d s) (λ _. ver) (λ _. VersionStored (step slots (version_word shape.slots d s) ver 0 none) me ver)
  stores_version begun st k len at small =
      let v = me.0 in
      let i : ℕ = version_word shape.slots d s in
      let w : View = finished_view v in
      let vok = k.each id v at in
      let so = k.slots d s p q in
      let us : List ℕ = set st.words i ver in
      let more : ℕ → ℕ → List Death = λ x y. k.done x y ++ deaths_at x y (e ∷ []) in
      let left : ℕ → ℕ → List Death = λ x y. cond (is_at x y e) [] (k.pending x y) in
      let home : IsHomeOf d v = vok.begun 0 e (ap (λ (l : List Death). get_elem? l 0) begun) in
      let waits : (x y : ℕ) → IsHomeOf x v → k.pending x y ≡ deaths_at x y (e ∷ []) = λ x y h. sym (vok.home x y h).1 ∙ ap (deaths_at x y) begun in
      let own : k.pending d s ≡ e ∷ [] = waits d s home ∙ single_on d s e here in
      let rises : Rises (k.done d s ++ e ∷ []) = subst (λ (l : List Death). Rises (k.done d s ++ l)) own so.rises in
      let low : get_or st.words i 0 ≤ ver = (let a = so.version in let b : last_version (k.done d s) ≤ ver = subst (λ (m : ℕ). last_version (k.done d s) ≤ m) (last_version-push (k.done d s) e) (last_version-front (k.done d s) (e ∷ []) rises) in omega arith) in
      let up : (j : ℕ) → get_or st.words j 0 ≤ get_or us j 0 = λ j. set_grows st.words i ver j low in
      let off : (j x : ℕ) (u : View) → get_elem? st.views j ≡ some u → j ≢ id → IsHomeOf x u → (d ≡ x → ⊥) = λ j x u there apart h same. two_homes st.views id j x v u k.once at there apart (subst (λ (z : ℕ). IsHomeOf z v) same home) h in
      let now : IsSlotKept us shape.slots d s (k.done d s ++ e ∷ []) [] = record {
        version = get_or-set_same st.words i ver 0 (version_in shape st.words d s k.sized p q) ∙ sym (last_version-push (k.done d s) e);
        death = get_or-set_other st.words i (death_word shape.slots d s) ver 0 (even_odd shape.slots d s d s) ∙ so.death ∙ ap (λ l. last_stamp (k.done d s ++ l)) own ∙ ap last_stamp (sym (append-nil (k.done d s ++ e ∷ [])));
        rises = subst Rises (sym (append-nil (k.done d s ++ e ∷ []))) rises;
        one = omega arith;
      } in
      let others : (j : ℕ) (u : View) → j ≢ id → get_elem? st.views j ≡ some u → IsViewKept shape us more left u = λ j u apart there.
      let uok = k.each j u there in record {
        home = λ x y h.
            let out : is_at x y e ≡ false = ⊎_elim (λ (on : is_at x y e ≡ true). absurd (off j x u there apart h (true-is_at e x y on).0)) (λ (o : is_at x y e ≡ false). o) (both_cases (is_at x y e)) in
            ((uok.home x y h).0 ∙ sym (append-nil (k.done x y)) ∙ ap (λ l. k.done x y ++ l) (sym (single_off x y e out)), (uok.home x y h).1 ∙ ap (λ (b : Bool). cond b [] (k.pending x y)) (sym out));
        deaths = uok.deaths;
        begun = uok.begun;
        reads = λ m r r_at. read_grows shape st.words us (k.done r.shard r.slot) (more r.shard r.slot) r up (λ a b h. HasDeath-longer (k.done r.shard r.slot) (deaths_at r.shard r.slot (e ∷ [])) a b h) (uok.reads m r r_at);
      } in
      let mine : IsViewKept shape us more left w = record {
        home = λ x y h. (
          filter-append (is_at x y) v.deaths v.begun ∙ ap (λ l. l ++ deaths_at x y v.begun) (vok.home x y h).0 ∙ ap (λ l. k.done x y ++ deaths_at x y l) begun,
          ⊎_elim (λ (on : is_at x y e ≡ true). ap (λ (b : Bool). cond b [] (k.pending x y)) (sym on))
              (λ (out : is_at x y e ≡ false). sym (single_off x y e out) ∙ sym (waits x y h) ∙ ap (λ (b : Bool). cond b [] (k.pending x y)) (sym out))
              (both_cases (is_at x y e)),
        );
        deaths = λ m f f_at. ⊎_elim (λ (was : get_elem? v.deaths m ≡ some f). vok.deaths m f was)
            (λ (n : (j : ℕ) × (get_elem? v.begun j ≡ some f) × (m ≡ length v.deaths + j)). vok.begun n.0 f n.1)
            (at_append v.deaths v.begun m f f_at);
        begun = λ m f f_at. absurd (at_nothing f m f_at);
        reads = λ m r r_at. read_grows shape st.words us (k.done r.shard r.slot) (more r.shard r.slot) r up (λ a b h. HasDeath-longer (k.done r.shard r.slot) (deaths_at r.shard r.slot (e ∷ [])) a b h) (vok.reads m r r_at);
      } in (
        w,
        keeps,
        tt,
        record {
          done = more;
          pending = left;
          sized = length-set st.words i ver ∙ k.sized;
          slots = λ x y a b. ⊎_elim
              (λ (on : is_at x y e ≡ true). let h = true-is_at e x y on in
              let both : more d s ≡ k.done d s ++ e ∷ [] = ap (λ l. k.done d s ++ l) (single_on d s e here) in
              let none_left : left d s ≡ [] = ap (λ (b : Bool). cond b [] (k.pending d s)) here in
              subst (λ (z : ℕ × ℕ). IsSlotKept us shape.slots z.0 z.1 (more z.0 z.1) (left z.0 z.1)) (λ m. (h.0 m, h.1 m))
              (subst (λ (z : List Death × List Death). IsSlotKept us shape.slots d s z.0 z.1) (λ m. (sym both m, sym none_left m)) now))
              (λ (out : is_at x y e ≡ false).
              let same : more x y ≡ k.done x y = ap (λ l. k.done x y ++ l) (single_off x y e out) ∙ append-nil (k.done x y) in
              let stays : left x y ≡ k.pending x y = ap (λ (b : Bool). cond b [] (k.pending x y)) out in
              subst (λ (z : List Death × List Death). IsSlotKept us shape.slots x y z.0 z.1) (λ m. (sym same m, sym stays m))
              (slot_else st.words shape.slots x y i ver (k.done x y) (k.pending x y) (apart_version shape.slots ver t d s x y q b out) (even_odd shape.slots d s x y) (k.slots x y a b)))
              (both_cases (is_at x y e));
          once = once_set st.views id v w at refl k.once;
          each = set_each (IsViewKept shape us more left) st.views id w others mine;
        },
        refl,
      )
