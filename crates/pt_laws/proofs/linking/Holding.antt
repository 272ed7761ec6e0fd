-- What one receipt does to the ids that are held with a pid.
use Rattle.std.proofs.Common.{◌≡◌, ℕ, ◌+◌, Bool, true, false, cond, not, List, [], ◌∷◌, Option, Some, None, filter, refl, sym, ap, ◌∙◌, subst, arith}
use Rattle.std.specs.Map.{lookup, remove_entry}
use Rattle.std.proofs.lemmas.Bool.{both_ways, or_parts}
use Rattle.std.specs.List.{list_any}
use Rattle.pt_signal.specs.declared.pid.Pid.{Pid}
use Rattle.pt_signal.specs.declared.ids.Ref.{Ref}
use Rattle.pt_signal.specs.declared.ids.Ids.{Ids}
use Rattle.pt_signal.specs.declared.ids.LinkId.{LinkId}
use Rattle.pt_signal.specs.declared.reason.Reason.{Reason}
use Rattle.pt_signal.specs.declared.signal.Signal.{Signal}
use Rattle.pt_signal.specs.declared.signal.Signal.TheVariants.{Link, Unlink, LinkExit}
use Rattle.pt_signal.specs.Values.{same_pid, same_ref, same_link}
use Rattle.pt_signal.specs.Process.{ProcessState, Verdict, drops, queues, ends, verdict, obey, holds_any, has_id, id_list, ids_of, without_ids, held, link_exit, down, handle}
use Rattle.pt_events.specs.Counting.{one_if, count}
use Rattle.pt_signal.proofs.Same.{same_link_is}
use Rattle.pt_laws.proofs.linking.Entries.{Keyed, cut_ids, held-enter-other, held-cut-other, held-removed, held-removed-other}

abbrev pub held_ids : Option Ids → List LinkId
held_ids None = []
held_ids (Some ids) = id_list ids

abbrev pub is_two : Option LinkId → Bool
is_two None = false
is_two (Some j) = true

abbrev pub full : Option Ids → Bool
full None = false
full (Some ids) = is_two ids.two

module _ (l : LinkId) where
  -- the ids that stay
  one_stays : (named : Ids) (i : LinkId) → (c : Bool) → has_id named i ≡ c → (b : Bool) → same_link l i ≡ b
      → count (same_link l) (cond (not (has_id named i)) (i ∷ []) []) ≡ cond (has_id named l) 0 (one_if (same_link l i) + 0)
  one_stays named i c f true e =
      let k : l ≡ i = same_link_is l i e in
      let f2 : has_id named l ≡ c = subst (λ z. has_id named z ≡ c) (sym k) f in
      go c f f2
    where
      go : (c : Bool) → has_id named i ≡ c → has_id named l ≡ c → count (same_link l) (cond (not (has_id named i)) (i ∷ []) []) ≡ cond (has_id named l) 0 (one_if (same_link l i) + 0)
      go true f g = rw (f, g) refl
      go false f g = rw (f, g) refl
  one_stays named i true f false e = rw (f, e) (zero_both (has_id named l))
    where
      zero_both : (b : Bool) → 0 ≡ cond b 0 (0 + 0)
      zero_both true = refl
      zero_both false = refl
  one_stays named i false f false e = rw (f, e) (zero_both (has_id named l))
    where
      zero_both : (b : Bool) → one_if false + 0 ≡ cond b 0 (0 + 0)
      zero_both true = refl
      zero_both false = refl

  both_stay : (named : Ids) (i j : LinkId) → (c d : Bool) → has_id named i ≡ c → has_id named j ≡ d
      → count (same_link l) (held_ids (ids_of (filter (λ k. not (has_id named k)) (i ∷ j ∷ []))))
      ≡ count (same_link l) (cond (not (has_id named i)) (i ∷ []) []) + count (same_link l) (cond (not (has_id named j)) (j ∷ []) [])
  both_stay named i j true true f g = rw (f, g) refl
  both_stay named i j true false f g = simp (f, g) (omega arith)
  both_stay named i j false true f g = simp (f, g) (omega arith)
  both_stay named i j false false f g = simp (f, g) (omega arith)

  single_stays : (named : Ids) (i : LinkId) → (c : Bool) → has_id named i ≡ c
      → count (same_link l) (held_ids (ids_of (filter (λ k. not (has_id named k)) (i ∷ [])))) ≡ count (same_link l) (cond (not (has_id named i)) (i ∷ []) [])
  single_stays named i true f = rw f refl
  single_stays named i false f = rw f refl

  join : (b : Bool) (x y : ℕ) → cond b 0 (x + 0) + cond b 0 (y + 0) ≡ cond b 0 (x + (y + 0))
  join true x y = refl
  join false x y = omega arith

  count_cut_two : (named : Ids) (one : LinkId) (two : Option LinkId)
      → count (same_link l) (held_ids (without_ids named (record { one = one; two = two }))) ≡ cond (has_id named l) 0 (count (same_link l) (id_list (record { one = one; two = two })))
  count_cut_two named one None = single_stays named one _ refl ∙ one_stays named one _ refl _ refl
  count_cut_two named one (Some two) =
      let a = both_stay named one two _ _ refl refl in
      let b = one_stays named one _ refl _ refl in
      let c = one_stays named two _ refl _ refl in
      let d = join (has_id named l) (one_if (same_link l one)) (one_if (same_link l two)) in
      omega arith

  pub count_cut : (named : Ids) (o : Option Ids) → count (same_link l) (held_ids (cut_ids o named)) ≡ cond (has_id named l) 0 (count (same_link l) (held_ids o))
  count_cut named None = go (has_id named l)
    where
      go : (b : Bool) → ◌≡◌ {A = ℕ} 0 (cond b 0 0)
      go true = refl
      go false = refl
  count_cut named (Some ids) = count_cut_two named ids.one ids.two

  -- what is not shared is not named
  unshared : (named : Ids) → has_id named l ≡ true → (xs : List LinkId) → list_any (has_id named) xs ≡ false → count (same_link l) xs ≡ 0
  unshared named h [] s = refl
  unshared named h (i ∷ xs) s = go (same_link l i) refl (or_parts (has_id named i) (list_any (has_id named) xs) s) (unshared named h xs)
    where
      go : (b : Bool) → same_link l i ≡ b → (has_id named i ≡ false) × (list_any (has_id named) xs ≡ false) → (list_any (has_id named) xs ≡ false → count (same_link l) xs ≡ 0) → count (same_link l) (i ∷ xs) ≡ 0
      go true e q ih = let k : has_id named l ≡ false = subst (λ z. has_id named z ≡ false) (sym (same_link_is l i e)) q.0 in absurd (both_ways _ k h)
      go false e q ih = let z = ih q.1 in rw e (omega arith)

  pub not_shared : (named : Ids) (o : Option Ids) → holds_any o named ≡ false → has_id named l ≡ true → count (same_link l) (held_ids o) ≡ 0
  not_shared named None s h = refl
  not_shared named (Some ids) s h = unshared named h (id_list ids) s

-- a receipt at a live process ------------------------------------------------------------------------

module _ (q : Pid) where
  pub obey_links : (v : Verdict) (s : ProcessState) → (obey v s).state.links ≡ s.links
  obey_links drops s = refl
  obey_links (queues i) s = refl
  obey_links (ends r) s = refl

  pub down_links : (o : Option Pid) (s : ProcessState) (from : Pid) (n : Ref) (r : Reason) → (down o s from n r).state.links ≡ s.links
  down_links None s from n r = refl
  down_links (Some b) s from n r = refl

  -- from another than q
  pub other_holds : (me : Pid) (s : ProcessState) (a : Pid) (x : Signal) → same_pid q a ≡ false → held (handle me s a x).state.links q ≡ held s.links q
  other_holds me s a (Link i) n = held-enter-other q a i s.links n
  other_holds me s a (Unlink ids) n = held-cut-other q a ids s.links n
  other_holds me s a (Signal.Exit r) n = ap (λ z. held z q) (obey_links (verdict false s.traps (same_pid a me) a r) s)
  other_holds me s a (LinkExit ids r) n = go (holds_any (held s.links a) ids)
    where
      go : (b : Bool) → held (link_exit b me s a r).state.links q ≡ held s.links q
      go false = refl
      go true = ap (λ z. held z q) (obey_links (verdict true s.traps (same_pid a me) a r) (record s { links = remove_entry (same_pid a) s.links })) ∙ held-removed-other q a s.links n
  other_holds me s a (Signal.Down m r) n = ap (λ z. held z q) (down_links (lookup (same_ref m) s.watching) s a m r)
  other_holds me s a _ n = refl

  -- from q: an exit signal that shares an id takes all out
  pub exit_holds : (me : Pid) (s : ProcessState) (ids : Ids) (r : Reason) → Keyed s.links → held (handle me s q (LinkExit ids r)).state.links q ≡ cond (holds_any (held s.links q) ids) None (held s.links q)
  exit_holds me s ids r k = go (holds_any (held s.links q) ids)
    where
      go : (b : Bool) → held (link_exit b me s q r).state.links q ≡ cond b None (held s.links q)
      go false = refl
      go true = ap (λ z. held z q) (obey_links (verdict true s.traps (same_pid q me) q r) (record s { links = remove_entry (same_pid q) s.links })) ∙ held-removed q s.links k
