-- What gathering and settling come to, from what their parts tell.
use Rattle.std.proofs.Common.{◌≡◌, ℕ, Bool, true, false, List, [], ◌∷◌, Some, None, length, map, refl, sym, ap, ◌∙◌, subst, arith, inl, inr}
use Rattle.std.specs.Prelude.{is_some}
use Rattle.std.proofs.lemmas.List.{length-map}
use Rattle.pt_signal.specs.declared.config.OpenError.TheVariants.{Bounds}
use Rattle.pt_signal.specs.declared.config.Setting.TheVariants.{Desks}
use Rattle.pt_desk.specs.DeskState.{DeskState}
use Rattle.pt_gathered.specs.Gathered.{GatheredState}
use Rattle.pt_c_desks.specs.QuietNodes.{is_listed, node_of}
use Rattle.pt_c_desks.specs.declared.quiet_node.QuietNode.{QuietNode}
use Rattle.pt_c_values.specs.Places.{HandlePlace, value_behind, values, had, full}
use Rattle.pt_c_values.specs.Codes.{empty, filled, open_code}
use Rattle.pt_c_desks.specs.InOrder.{are_in_order}
use Rattle.pt_c_tools.specs.Nodes.{AreAllFull, GathersAs, GathersWhole, Joins, SettlesAs, IsSettledOf, NotSettled, in_order}
use Rattle.pt_c_values.specs.Filling.{IfEmpty}
use Rattle.pt_c_values.proofs.Empty.{if_empty}
use Rattle.pt_c_values.proofs.InRow.{first_value}

module _ {S : Type 0} where
  pub place_is : (p : HandlePlace S) (s : S) → value_behind p ≡ Some s → p ≡ full s
  place_is (Some (Some t)) s e = ap Some e
  place_is (Some None) s e = absurd (cc e)
  place_is None s e = absurd (cc e)

  -- where all places are full, they are those of their values
  full_back : (places : List (HandlePlace S)) → length (values places) ≡ length places → map full (values places) ≡ places
  full_back [] e = refl
  full_back (p ∷ places) e =
      let f = first_value p places e in
      let are : values (p ∷ places) ≡ f.0 ∷ values places = ap (λ o. had o (values places)) f.1 in
      let rest = full_back places (omega (arith, ap length are, e)) in
      ap (map full) are ∙ ap (λ q. q ∷ map full (values places)) (sym (place_is p f.0 f.1)) ∙ ap (λ qs. p ∷ qs) rest

-- there was no memory before a desk left its handle
pub no_memory :
    (old new : List (HandlePlace DeskState)) (before after : HandlePlace GatheredState)
    → AreAllFull old → new ≡ old → after ≡ before → is_some (value_behind before) ≡ false
    → GathersWhole 2 old new before after
no_memory old new before after all same out none =
    if_empty before _ _ none (inr (record { no_memory = refl; back = values old; kept = refl; are = same ∙ sym (full_back old all.1); out_same = out }))

if_full : (p : HandlePlace GatheredState) (P Q : Type 0) → is_some (value_behind p) ≡ true → Q → IfEmpty p P Q
if_full (Some (Some s)) P Q e x = x
if_full (Some None) P Q e x = absurd (cc e)
if_full None P Q e x = absurd (cc e)

-- out was full
pub was_full : (old new : List (HandlePlace DeskState)) (before after : HandlePlace GatheredState) → new ≡ old → after ≡ before → is_some (value_behind before) ≡ true → GathersWhole filled old new before after
was_full old new before after same out is = if_full before _ _ is (refl, same, out)

-- they were brought together, or there was no memory for it
pub joined : (code : ℕ) (old new : List (HandlePlace DeskState)) (before start after : HandlePlace GatheredState) → is_some (value_behind before) ≡ false → start ≡ before → Joins code (values old) new start after → GathersWhole code old new before after
joined code old new before start after none is joins =
    if_empty before _ _ none (subst (λ (p : HandlePlace GatheredState). Joins code (values old) new p after) is joins)

module _ {H : Type 0} (st : H → HandlePlace DeskState) (hs hs' : List H) (same : map st hs' ≡ map st hs) where
  -- whether the handles are in order is told of what they have
  pub order_is : are_in_order 0 (length hs') (map st hs') ≡ in_order (map st hs)
  order_is = ap (λ n. are_in_order 0 n (map st hs')) (sym (length-map hs' st)) ∙ ap (λ p. are_in_order 0 (length p) p) same

module _ (old new : List (HandlePlace DeskState)) (before after : HandlePlace GatheredState) where
  pub not_all_full : new ≡ old → after ≡ before → ¬ AreAllFull old → GathersAs empty old new before after
  not_all_full same out not = record {
    not_all = λ n. (refl, same, out);
    out_of_order = λ a. absurd (not a);
    all_full = λ a. absurd (not a);
  }

  pub bad_order : (code : ℕ) → code ≡ open_code (Bounds Desks) → new ≡ old → after ≡ before → AreAllFull old → in_order old ≡ false → GathersAs code old new before after
  bad_order code is same out all wrong = record {
    not_all = λ n. absurd (n all);
    out_of_order = λ a e. (is, same, out);
    all_full = λ a right. absurd (cc (wrong, right));
  }

  pub gathers_whole : (code : ℕ) (mid : List (HandlePlace DeskState)) → mid ≡ old → AreAllFull old → in_order old ≡ true → GathersWhole code mid new before after → GathersAs code old new before after
  gathers_whole code mid is all right whole = record {
    not_all = λ n. absurd (n all);
    out_of_order = λ a wrong. absurd (cc (wrong, right));
    all_full = λ a e. subst (λ (p : List (HandlePlace DeskState)). GathersWhole code p new before after) is whole;
  }

module _ (old : HandlePlace GatheredState) (g : GatheredState) (is : old ≡ full g) (new : HandlePlace GatheredState) (before after : HandlePlace QuietNode) (none : is_some (value_behind before) ≡ false) where
  pub settled : (listed : Bool) (q : QuietNode) → new ≡ None → is_listed q ≡ listed → IsSettledOf g (node_of q) → after ≡ full q → SettlesAs listed 0 old new before after
  settled listed q gone list so out =
      subst (λ o. SettlesAs listed 0 o new before after) (sym is) (if_empty before _ _ none (inl (record { done = refl; emptied = gone; node = q; list = list; is_of = so; out_is = out })))

  pub not_settled : (listed : Bool) (code : ℕ) → NotSettled code g new before after → SettlesAs listed code old new before after
  not_settled listed code so = subst (λ o. SettlesAs listed code o new before after) (sym is) (if_empty before _ _ none (inr (inl so)))
