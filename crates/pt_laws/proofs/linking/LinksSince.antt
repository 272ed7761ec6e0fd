-- The link ids that a process holds are those that entered and have not left since.
use Rattle.std.proofs.Common.{◌≡◌, Bool, true, false, cond, not, ◌&&◌, ◌||◌, List, [], ◌∷◌, ◌++◌, Option, Some, None, filter, refl, sym, ap, ◌∙◌, subst, append-nil}
use Rattle.std.specs.Map.{lookup, remove_entry}
use Rattle.std.specs.List.{list_any}
use Rattle.std.proofs.lemmas.Bool.{false≢true}
use Rattle.pt_signal.specs.declared.pid.Pid.{Pid}
use Rattle.pt_signal.specs.declared.ids.Ids.{Ids}
use Rattle.pt_signal.specs.declared.ids.LinkId.{LinkId}
use Rattle.pt_signal.specs.declared.reason.Reason.{Reason}
use Rattle.pt_signal.specs.declared.signal.Signal.{Signal}
use Rattle.pt_signal.specs.declared.signal.Signal.TheVariants.{Link, Unlink, LinkExit, Monitor, Demonitor}
use Rattle.pt_events.specs.declared.event.Event.{Event}
use Rattle.pt_events.specs.declared.event.Event.TheVariants.{Born, Said, Came, Took, Flag, Left}
use Rattle.pt_signal.specs.Values.{same_pid, same_ref}
use Rattle.pt_signal.specs.Process.{ProcessState, verdict, held, holds_any, has_id, id_list, ids_of, add_id, enter, cut, link_exit, handle, say}
use Rattle.pt_events.specs.History.{Past, Start, Phase, unborn, living, ended, life, state, at_start, after, touches, is_living, state_of, linked, newborn, while_living, live_or_end, gets, leaves}
use Rattle.pt_events.specs.Journal.{MayHere}
use Rattle.pt_laws.specs.Acts.{ActsMayCome}
use Rattle.pt_laws.specs.Since.{standing}
use Rattle.pt_laws.specs.Words.{link_ids, ids_with, are_two, link_enters, link_leaves, HasOneEntryEach}
use Rattle.pt_signal.proofs.Same.{same_pid_is}
use Rattle.pt_events.proofs.Phases.{each_branch}
use Rattle.pt_laws.proofs.order.Filters.{filter_all, filter_nothing}
use Rattle.pt_events.proofs.Fields.{end_keeps, obey_keeps, down_keeps}
use Rattle.pt_laws.proofs.linking.Entries.{Keyed, entered, cut_ids, held-enter, held-enter-other, held-cut, held-cut-other, held-removed, held-removed-other, Keyed-enter, Keyed-cut, Keyed-removed}

-- one entry ----------------------------------------------------------------------------------------

no_more : (b : Bool) (xs : List LinkId) → xs ++ cond b [] [] ≡ xs
no_more true xs = append-nil xs
no_more false xs = append-nil xs

same_ids : (b : Bool) (xs : List LinkId) → xs ≡ filter (λ i. true) xs ++ cond b [] []
same_ids b xs = sym (no_more b (filter (λ i. true) xs) ∙ filter_all xs)

entered_two : (one : LinkId) (two : Option LinkId) (i : LinkId)
    → id_list (add_id (record { one = one; two = two }) i) ≡ id_list (record { one = one; two = two }) ++ cond (are_two (id_list (record { one = one; two = two }))) [] (i ∷ [])
entered_two one None i = refl
entered_two one (Some j) i = refl

entered_ids : (o : Option Ids) (i : LinkId) → link_ids (Some (entered o i)) ≡ link_ids o ++ cond (are_two (link_ids o)) [] (i ∷ [])
entered_ids None i = refl
entered_ids (Some ids) i = entered_two ids.one ids.two i

pub enter_ids : (q c : Pid) (i : LinkId) (links : List (Pid × Ids))
    → link_ids (held (enter c i links) q) ≡ link_ids (held links q) ++ cond (are_two (link_ids (held links q))) [] (cond (same_pid q c) (i ∷ []) [])
enter_ids q c i links = go (same_pid q c) refl
  where
    go : (b : Bool) → same_pid q c ≡ b → link_ids (held (enter c i links) q) ≡ link_ids (held links q) ++ cond (are_two (link_ids (held links q))) [] (cond (same_pid q c) (i ∷ []) [])
    go true e =
        rw e
        (subst (λ c. link_ids (held (enter c i links) q) ≡ link_ids (held links q) ++ cond (are_two (link_ids (held links q))) [] (i ∷ [])) (same_pid_is q c e)
        (ap link_ids (held-enter q i links) ∙ entered_ids (held links q) i))
    go false e = rw e (ap link_ids (held-enter-other q c i links e) ∙ sym (no_more (are_two (link_ids (held links q))) (link_ids (held links q))))

all_left : (t : LinkId → Bool) (one : LinkId) (two : Option LinkId)
    → link_ids (ids_of (filter t (id_list (record { one = one; two = two })))) ≡ filter t (id_list (record { one = one; two = two }))
all_left t one None = go (t one)
  where
    go : (b : Bool) → link_ids (ids_of (cond b (one ∷ []) [])) ≡ cond b (one ∷ []) []
    go true = refl
    go false = refl
all_left t one (Some two) = go (t one) (t two)
  where
    go : (b c : Bool) → link_ids (ids_of (cond b (one ∷ cond c (two ∷ []) []) (cond c (two ∷ []) []))) ≡ cond b (one ∷ cond c (two ∷ []) []) (cond c (two ∷ []) [])
    go true true = refl
    go true false = refl
    go false true = refl
    go false false = refl

cut_left : (o : Option Ids) (named : Ids) → link_ids (cut_ids o named) ≡ filter (λ i. not (has_id named i)) (link_ids o)
cut_left None named = refl
cut_left (Some ids) named = all_left (λ i. not (has_id named i)) ids.one ids.two

cut_with : (q c : Pid) (named : Ids) (links : List (Pid × Ids)) → Keyed links
    → link_ids (held (cut c named links) q) ≡ filter (λ i. not (same_pid q c && has_id named i)) (link_ids (held links q))
cut_with q c named links keyed = go (same_pid q c) refl
  where
    go : (b : Bool) → same_pid q c ≡ b → link_ids (held (cut c named links) q) ≡ filter (λ i. not (same_pid q c && has_id named i)) (link_ids (held links q))
    go true e =
        subst (λ b. link_ids (held (cut c named links) q) ≡ filter (λ i. not (b && has_id named i)) (link_ids (held links q))) (sym e)
        (subst (λ c. link_ids (held (cut c named links) q) ≡ filter (λ i. not (has_id named i)) (link_ids (held links q))) (same_pid_is q c e)
        (ap link_ids (held-cut q named links keyed) ∙ cut_left (held links q) named))
    go false e =
        subst (λ b. link_ids (held (cut c named links) q) ≡ filter (λ i. not (b && has_id named i)) (link_ids (held links q))) (sym e)
        (ap link_ids (held-cut-other q c named links e) ∙ sym (filter_all (link_ids (held links q))))

-- a signal that comes ------------------------------------------------------------------------------

pub link_exit_links : (b : Bool) (p : Pid) (s : ProcessState) (a : Pid) (r : Reason) → (link_exit b p s a r).state.links ≡ cond b (remove_entry (same_pid a) s.links) s.links
link_exit_links false p s a r = refl
link_exit_links true p s a r = obey_keeps (λ s. s.links) (λ w s. refl) (verdict true s.traps (same_pid a p) a r) _

module _ (p q : Pid) where
  unchanged : (g f : Phase) (b : Bool) → (state_of g).links ≡ (state_of f).links → ids_with g q ≡ filter (λ i. true) (ids_with f q) ++ cond b [] []
  unchanged g f b h = ap (λ z. link_ids (held z q)) h ∙ same_ids b (ids_with f q)

  came_other : (a : Pid) (x : Signal) → ((s : ProcessState) → (handle p s a x).state.links ≡ s.links) → (t : Bool) (f : Phase)
      → ids_with (cond t (gets p a x f) f) q ≡ filter (λ i. true) (ids_with f q) ++ cond (are_two (ids_with f q)) [] []
  came_other a x h true unborn = refl
  came_other a x h true (living s) = unchanged (live_or_end (handle p s a x).ending (handle p s a x).state) (living s) (are_two (ids_with (living s) q)) (end_keeps (λ s. s.links) (handle p s a x).ending (handle p s a x).state ∙ h s)
  came_other a x h true (ended r s) = same_ids (are_two (ids_with (ended r s) q)) (ids_with (ended r s) q)
  came_other a x h false f = same_ids (are_two (ids_with f q)) (ids_with f q)

  came_link : (a : Pid) (i : LinkId) (t : Bool) (f : Phase)
      → ids_with (cond t (gets p a (Link i) f) f) q ≡ filter (λ j. true) (ids_with f q) ++ cond (are_two (ids_with f q)) [] (cond (is_living f && t && same_pid q a) (i ∷ []) [])
  came_link a i true unborn = refl
  came_link a i true (living s) = enter_ids q a i s.links ∙ ap (λ z. z ++ cond (are_two (ids_with (living s) q)) [] (cond (same_pid q a) (i ∷ []) [])) (sym (filter_all (ids_with (living s) q)))
  came_link a i true (ended r s) = same_ids (are_two (ids_with (ended r s) q)) (ids_with (ended r s) q)
  came_link a i false unborn = refl
  came_link a i false (living s) = same_ids (are_two (ids_with (living s) q)) (ids_with (living s) q)
  came_link a i false (ended r s) = same_ids (are_two (ids_with (ended r s) q)) (ids_with (ended r s) q)

  came_unlink : (a : Pid) (named : Ids) (t : Bool) (f : Phase) → Keyed (state_of f).links
      → ids_with (cond t (gets p a (Unlink named) f) f) q
      ≡ filter (λ j. not (is_living f && t && same_pid q a && has_id named j)) (ids_with f q) ++ cond (are_two (ids_with f q)) [] []
  came_unlink a named true unborn k = refl
  came_unlink a named true (living s) k = cut_with q a named s.links k ∙ sym (no_more (are_two (ids_with (living s) q)) _)
  came_unlink a named true (ended r s) k = same_ids (are_two (ids_with (ended r s) q)) (ids_with (ended r s) q)
  came_unlink a named false unborn k = refl
  came_unlink a named false (living s) k = same_ids (are_two (ids_with (living s) q)) (ids_with (living s) q)
  came_unlink a named false (ended r s) k = same_ids (are_two (ids_with (ended r s) q)) (ids_with (ended r s) q)

  holds_listed : (o : Option Ids) (named : Ids) → holds_any o named ≡ list_any (has_id named) (link_ids o)
  holds_listed None named = refl
  holds_listed (Some ids) named = refl

  exit_leaves : (a : Pid) (named : Ids) (r : Reason) (s : ProcessState) → Keyed s.links
      → link_ids (held (link_exit (holds_any (held s.links a) named) p s a r).state.links q)
      ≡ filter (λ j. not (same_pid q a && list_any (has_id named) (link_ids (held s.links q)))) (link_ids (held s.links q))
  exit_leaves a named r s k = ap (λ z. link_ids (held z q)) (link_exit_links (holds_any (held s.links a) named) p s a r) ∙ go (same_pid q a) refl
    where
      of_q : (b : Bool) → holds_any (held s.links q) named ≡ b
          → link_ids (held (cond (holds_any (held s.links q) named) (remove_entry (same_pid q) s.links) s.links) q)
          ≡ filter (λ j. not (list_any (has_id named) (link_ids (held s.links q)))) (link_ids (held s.links q))
      of_q true h =
          let l : list_any (has_id named) (link_ids (held s.links q)) ≡ true = sym (holds_listed (held s.links q) named) ∙ h in
          subst (λ b. link_ids (held (cond (holds_any (held s.links q) named) (remove_entry (same_pid q) s.links) s.links) q) ≡ filter (λ j. not b) (link_ids (held s.links q))) (sym l)
          (ap (λ b. link_ids (held (cond b (remove_entry (same_pid q) s.links) s.links) q)) h ∙ ap link_ids (held-removed q s.links k) ∙ sym (filter_nothing (link_ids (held s.links q))))
      of_q false h =
          let l : list_any (has_id named) (link_ids (held s.links q)) ≡ false = sym (holds_listed (held s.links q) named) ∙ h in
          subst (λ b. link_ids (held (cond (holds_any (held s.links q) named) (remove_entry (same_pid q) s.links) s.links) q) ≡ filter (λ j. not b) (link_ids (held s.links q))) (sym l)
          (ap (λ b. link_ids (held (cond b (remove_entry (same_pid q) s.links) s.links) q)) h ∙ sym (filter_all (link_ids (held s.links q))))

      other : (b : Bool) → same_pid q a ≡ false → link_ids (held (cond b (remove_entry (same_pid a) s.links) s.links) q) ≡ link_ids (held s.links q)
      other true e = ap link_ids (held-removed-other q a s.links e)
      other false e = refl

      go : (b : Bool) → same_pid q a ≡ b
          → link_ids (held (cond (holds_any (held s.links a) named) (remove_entry (same_pid a) s.links) s.links) q)
          ≡ filter (λ j. not (same_pid q a && list_any (has_id named) (link_ids (held s.links q)))) (link_ids (held s.links q))
      go true e =
          subst
          (λ b. link_ids (held (cond (holds_any (held s.links a) named) (remove_entry (same_pid a) s.links) s.links) q)
          ≡ filter (λ j. not (b && list_any (has_id named) (link_ids (held s.links q)))) (link_ids (held s.links q))) (sym e)
          (subst
          (λ a. link_ids (held (cond (holds_any (held s.links a) named) (remove_entry (same_pid a) s.links) s.links) q)
          ≡ filter (λ j. not (list_any (has_id named) (link_ids (held s.links q)))) (link_ids (held s.links q))) (same_pid_is q a e)
          (of_q (holds_any (held s.links q) named) refl))
      go false e =
          subst
          (λ b. link_ids (held (cond (holds_any (held s.links a) named) (remove_entry (same_pid a) s.links) s.links) q)
          ≡ filter (λ j. not (b && list_any (has_id named) (link_ids (held s.links q)))) (link_ids (held s.links q))) (sym e)
          (other (holds_any (held s.links a) named) e ∙ sym (filter_all (link_ids (held s.links q))))

  came_exit : (a : Pid) (named : Ids) (r : Reason) (t : Bool) (f : Phase) → Keyed (state_of f).links
      → ids_with (cond t (gets p a (LinkExit named r) f) f) q
      ≡ filter (λ j. not (is_living f && t && same_pid q a && list_any (has_id named) (ids_with f q))) (ids_with f q) ++ cond (are_two (ids_with f q)) [] []
  came_exit a named r true unborn k = refl
  came_exit a named r true (living s) k =
      ap (λ z. link_ids (held z q)) (end_keeps (λ s. s.links) (handle p s a (LinkExit named r)).ending (handle p s a (LinkExit named r)).state)
      ∙ exit_leaves a named r s k ∙ sym (no_more (are_two (ids_with (living s) q)) _)
  came_exit a named r true (ended w s) k = same_ids (are_two (ids_with (ended w s) q)) (ids_with (ended w s) q)
  came_exit a named r false unborn k = refl
  came_exit a named r false (living s) k = same_ids (are_two (ids_with (living s) q)) (ids_with (living s) q)
  came_exit a named r false (ended w s) k = same_ids (are_two (ids_with (ended w s) q)) (ids_with (ended w s) q)

  -- what an event does to the ids held with q
  abbrev pub LinksStep : Phase → Phase → Event → Type 0
  LinksStep g f e = ids_with g q ≡ filter (λ i. not (link_leaves p q f e i)) (ids_with f q) ++ link_enters p q f e

  came_step : (a b : Pid) (x : Signal) (f : Phase) → Keyed (state_of f).links → LinksStep (after p (Came a b x) f) f (Came a b x)
  came_step a b (Link i) f k = came_link a i (same_pid p b) f
  came_step a b (Unlink ids) f k = came_unlink a ids (same_pid p b) f k
  came_step a b (Signal.Exit r) f k = came_other a (Signal.Exit r) (λ s. obey_keeps (λ s. s.links) (λ w s. refl) (verdict false s.traps (same_pid a p) a r) s) (same_pid p b) f
  came_step a b (LinkExit ids r) f k = came_exit a ids r (same_pid p b) f k
  came_step a b (Signal.Down m r) f k = came_other a (Signal.Down m r) (λ s. down_keeps (λ s. s.links) (λ w s. refl) (λ l s. refl) (lookup (same_ref m) s.watching) s a m r) (same_pid p b) f
  came_step a b x f k = came_other a x (λ s. refl) (same_pid p b) f

  -- the other events -------------------------------------------------------------------------------

  said_other : (step : ProcessState → ProcessState) → ((s : ProcessState) → (step s).links ≡ s.links) → (t : Bool) (f : Phase)
      → ids_with (cond t (while_living step f) f) q ≡ filter (λ i. true) (ids_with f q) ++ cond (are_two (ids_with f q)) [] []
  said_other step h true unborn = refl
  said_other step h true (living s) = unchanged (living (step s)) (living s) (are_two (ids_with (living s) q)) (h s)
  said_other step h true (ended r s) = same_ids (are_two (ids_with (ended r s) q)) (ids_with (ended r s) q)
  said_other step h false f = same_ids (are_two (ids_with f q)) (ids_with f q)

  said_link : (b : Pid) (i : LinkId) (t : Bool) (f : Phase) → (t ≡ true → is_living f ≡ true)
      → ids_with (cond t (while_living (λ s. say s b (Link i)) f) f) q
      ≡ filter (λ j. true) (ids_with f q) ++ cond (are_two (ids_with f q)) [] (cond (t && same_pid q b) (i ∷ []) [])
  said_link b i true unborn l = absurd (false≢true (l refl))
  said_link b i true (living s) l = enter_ids q b i s.links ∙ ap (λ z. z ++ cond (are_two (ids_with (living s) q)) [] (cond (same_pid q b) (i ∷ []) [])) (sym (filter_all (ids_with (living s) q)))
  said_link b i true (ended r s) l = absurd (false≢true (l refl))
  said_link b i false f l = same_ids (are_two (ids_with f q)) (ids_with f q)

  said_unlink : (b : Pid) (named : Ids) (t : Bool) (f : Phase) → (t ≡ true → is_living f ≡ true) → Keyed (state_of f).links
      → ids_with (cond t (while_living (λ s. say s b (Unlink named)) f) f) q
      ≡ filter (λ j. not (t && same_pid q b && has_id named j)) (ids_with f q) ++ cond (are_two (ids_with f q)) [] []
  said_unlink b named true unborn l k = absurd (false≢true (l refl))
  said_unlink b named true (living s) l k = cut_with q b named s.links k ∙ sym (no_more (are_two (ids_with (living s) q)) _)
  said_unlink b named true (ended r s) l k = absurd (false≢true (l refl))
  said_unlink b named false f l k = same_ids (are_two (ids_with f q)) (ids_with f q)

  said_step : (a b : Pid) (x : Signal) (f : Phase) → (same_pid p a ≡ true → is_living f ≡ true) → Keyed (state_of f).links → LinksStep (after p (Said a b x) f) f (Said a b x)
  said_step a b (Link i) f l k = said_link b i (same_pid p a) f l
  said_step a b (Unlink ids) f l k = said_unlink b ids (same_pid p a) f l k
  said_step a b (Monitor m) f l k = said_other (λ s. say s b (Monitor m)) (λ s. refl) (same_pid p a) f
  said_step a b (Demonitor m) f l k = said_other (λ s. say s b (Demonitor m)) (λ s. refl) (same_pid p a) f
  said_step a b _ f l k = said_other (λ s. s) (λ s. refl) (same_pid p a) f

  leaves_links : (t : Bool) (r : Reason) (f : Phase) → ids_with (cond t (leaves r f) f) q ≡ filter (λ i. true) (ids_with f q) ++ cond (are_two (ids_with f q)) [] []
  leaves_links true r unborn = refl
  leaves_links true r (living s) = same_ids (are_two (ids_with (living s) q)) (ids_with (living s) q)
  leaves_links true r (ended w s) = same_ids (are_two (ids_with (ended w s) q)) (ids_with (ended w s) q)
  leaves_links false r f = same_ids (are_two (ids_with f q)) (ids_with f q)

  -- a birth without a link
  born_other : (parent : Option Pid) (link : Option LinkId) (step : ProcessState → ProcessState) → ((s : ProcessState) → (linked parent link s).links ≡ s.links) → ((s : ProcessState) → (step s).links ≡ s.links)
      → (t u : Bool) (f : Phase)
      → ids_with (cond (t || u) (cond t (newborn parent link f) (while_living step f)) f) q ≡ filter (λ i. true) (ids_with f q) ++ cond (are_two (ids_with f q)) [] []
  born_other parent link step h k true u unborn = unchanged (newborn parent link unborn) unborn false (h _)
  born_other parent link step h k true u (living s) = same_ids (are_two (ids_with (living s) q)) (ids_with (living s) q)
  born_other parent link step h k true u (ended r s) = same_ids (are_two (ids_with (ended r s) q)) (ids_with (ended r s) q)
  born_other parent link step h k false true unborn = refl
  born_other parent link step h k false true (living s) = unchanged (living (step s)) (living s) (are_two (ids_with (living s) q)) (k s)
  born_other parent link step h k false true (ended r s) = same_ids (are_two (ids_with (ended r s) q)) (ids_with (ended r s) q)
  born_other parent link step h k false false f = same_ids (are_two (ids_with f q)) (ids_with f q)

  -- a birth with a link: t, it is p's own; u, it is that of p's child
  born_linked : (c a : Pid) (i : LinkId) (t u : Bool) (f : Phase) → (t ≡ true → f ≡ unborn) → (u ≡ true → is_living f ≡ true)
      → ids_with (cond (t || u) (cond t (newborn (Some a) (Some i) f) (while_living (linked (Some c) (Some i)) f)) f) q
      ≡ filter (λ j. true) (ids_with f q) ++ cond (are_two (ids_with f q)) [] (cond ((t && same_pid q a) || (u && same_pid q c)) (i ∷ []) [])
  born_linked c a i true true f l k = let z : is_living unborn ≡ true = subst (λ f. is_living f ≡ true) (l refl) (k refl) in absurd (false≢true z)
  born_linked c a i true false unborn l k = go (same_pid q a)
    where
      go : (b : Bool) → link_ids (cond b (Some (record { one = i; two = None })) None) ≡ cond (b || false) (i ∷ []) []
      go true = refl
      go false = refl
  born_linked c a i true false (living s) l k = let z = l refl in absurd (cc)
  born_linked c a i true false (ended r s) l k = let z = l refl in absurd (cc)
  born_linked c a i false true unborn l k = absurd (false≢true (k refl))
  born_linked c a i false true (living s) l k = enter_ids q c i s.links ∙ ap (λ z. z ++ cond (are_two (ids_with (living s) q)) [] (cond (same_pid q c) (i ∷ []) [])) (sym (filter_all (ids_with (living s) q)))
  born_linked c a i false true (ended r s) l k = absurd (false≢true (k refl))
  born_linked c a i false false f l k = same_ids (are_two (ids_with f q)) (ids_with f q)

module _ (start : Start) (p q : Pid) where
  links_step : (past : Past) (e : Event) → MayHere start past e → Keyed (state start past p).links → LinksStep p q (life start (e ∷ past) p) (life start past p) e
  links_step past (Born c None None) h k = born_other p q None None (linked (Some c) None) (λ s. refl) (λ s. refl) (same_pid p c) false (life start past p)
  links_step past (Born c None (Some i)) h k = absurd h.1
  links_step past (Born c (Some a) None) h k = born_other p q (Some a) None (linked (Some c) None) (λ s. refl) (λ s. refl) (same_pid p c) (same_pid p a) (life start past p)
  links_step past (Born c (Some a) (Some i)) h k =
      born_linked p q c a i (same_pid p c) (same_pid p a) (life start past p) (λ e. rw (same_pid_is p c e) h.0) (λ e. rw (same_pid_is p a e) h.1.0)
  links_step past (Said a b x) h k = said_step p q a b x (life start past p) (λ e. rw (same_pid_is p a e) h.0) k
  links_step past (Came a b x) h k = came_step p q a b x (life start past p) k
  links_step past (Took c k i) h keyed = said_other p q (λ s. record s { waiting = _ }) (λ s. refl) (same_pid p c) (life start past p)
  links_step past (Flag c on) h k = said_other p q (λ s. record s { traps = on }) (λ s. refl) (same_pid p c) (life start past p)
  links_step past (Left c r) h k = leaves_links p q (same_pid p c) r (life start past p)
  links_step past _ h k = same_ids (are_two (ids_with (life start past p) q)) (ids_with (life start past p) q)

-- one entry a pid ----------------------------------------------------------------------------------

keyed_linked : (c : Option Pid) (i : Option LinkId) (s : ProcessState) → Keyed s.links → Keyed (linked c i s).links
keyed_linked (Some c) (Some i) s k = Keyed-enter c i s.links k
keyed_linked None (Some i) s k = k
keyed_linked (Some c) None s k = k
keyed_linked None None s k = k

keyed_said : (s : ProcessState) (b : Pid) (x : Signal) → Keyed s.links → Keyed (say s b x).links
keyed_said s b (Link i) k = Keyed-enter b i s.links k
keyed_said s b (Unlink ids) k = Keyed-cut b ids s.links k
keyed_said s b _ k = k

keyed_exit : (b : Bool) (p : Pid) (s : ProcessState) (a : Pid) (r : Reason) → Keyed s.links → Keyed (link_exit b p s a r).state.links
keyed_exit false p s a r k = k
keyed_exit true p s a r k = rw (obey_keeps (λ s. s.links) (λ w s. refl) (verdict true s.traps (same_pid a p) a r) (record s { links = remove_entry (same_pid a) s.links })) (Keyed-removed a s.links k)

keyed_handled : (p : Pid) (s : ProcessState) (a : Pid) (x : Signal) → Keyed s.links → Keyed (handle p s a x).state.links
keyed_handled p s a (Link i) k = Keyed-enter a i s.links k
keyed_handled p s a (Unlink ids) k = Keyed-cut a ids s.links k
keyed_handled p s a (Signal.Exit r) k = rw (obey_keeps (λ s. s.links) (λ w s. refl) (verdict false s.traps (same_pid a p) a r) s) k
keyed_handled p s a (LinkExit ids r) k = keyed_exit (holds_any (held s.links a) ids) p s a r k
keyed_handled p s a (Signal.Down m r) k = rw (down_keeps (λ s. s.links) (λ w s. refl) (λ l s. refl) (lookup (same_ref m) s.watching) s a m r) k
keyed_handled p s a _ k = k

keyed_while : (step : ProcessState → ProcessState) → ((s : ProcessState) → Keyed s.links → Keyed (step s).links) → (f : Phase) → Keyed (state_of f).links → Keyed (state_of (while_living step f)).links
keyed_while step h unborn k = k
keyed_while step h (living s) k = h s k
keyed_while step h (ended r s) k = k

keyed_born : (c : Option Pid) (i : Option LinkId) (f : Phase) → Keyed (state_of f).links → Keyed (state_of (newborn c i f)).links
keyed_born c i unborn k = keyed_linked c i _ k
keyed_born c i (living s) k = k
keyed_born c i (ended r s) k = k

keyed_gets : (p a : Pid) (x : Signal) (f : Phase) → Keyed (state_of f).links → Keyed (state_of (gets p a x f)).links
keyed_gets p a x unborn k = k
keyed_gets p a x (living s) k = rw (end_keeps (λ s. s.links) (handle p s a x).ending (handle p s a x).state) (keyed_handled p s a x k)
keyed_gets p a x (ended r s) k = k

keyed_leaves : (r : Reason) (f : Phase) → Keyed (state_of f).links → Keyed (state_of (leaves r f)).links
keyed_leaves r unborn k = k
keyed_leaves r (living s) k = k
keyed_leaves r (ended w s) k = k

keyed_step : (p : Pid) (e : Event) (f : Phase) → Keyed (state_of f).links → Keyed (state_of (after p e f)).links
keyed_step p (Born c parent link) f k =
    each_branch (λ g. Keyed (state_of g).links) (touches p (Born c parent link)) _ _
    (each_branch (λ g. Keyed (state_of g).links) (same_pid p c) _ _ (keyed_born parent link f k) (keyed_while (linked (Some c) link) (λ s. keyed_linked (Some c) link s) f k)) k
keyed_step p (Said a b x) f k = each_branch (λ g. Keyed (state_of g).links) (same_pid p a) _ _ (keyed_while (λ s. say s b x) (λ s. keyed_said s b x) f k) k
keyed_step p (Came a b x) f k = each_branch (λ g. Keyed (state_of g).links) (same_pid p b) _ _ (keyed_gets p a x f k) k
keyed_step p (Took c j i) f k = each_branch (λ g. Keyed (state_of g).links) (same_pid p c) _ _ (keyed_while _ (λ s h. h) f k) k
keyed_step p (Flag c on) f k = each_branch (λ g. Keyed (state_of g).links) (same_pid p c) _ _ (keyed_while _ (λ s h. h) f k) k
keyed_step p (Left c r) f k = each_branch (λ g. Keyed (state_of g).links) (same_pid p c) _ _ (keyed_leaves r f k) k
keyed_step p _ f k = k

module _ (start : Start) (ok : HasOneEntryEach start) (p : Pid) where
  pub keyed : (past : Past) → Keyed (state start past p).links
  keyed [] = ok p
  keyed (e ∷ past) = keyed_step p e (life start past p) (keyed past)

  pub held_since : (q : Pid) (past : Past) → ActsMayCome start past
      → ids_with (life start past p) q
      ≡ standing (ids_with (at_start start p) q) (λ before. link_enters p q (life start before p)) (λ before. link_leaves p q (life start before p)) past
  held_since q [] h = refl
  held_since q (e ∷ past) h =
      links_step start p q past e h.0 (keyed past)
      ∙ ap (λ z. filter (λ i. not (link_leaves p q (life start past p) e i)) z ++ link_enters p q (life start past p) e) (held_since q past h.1)
