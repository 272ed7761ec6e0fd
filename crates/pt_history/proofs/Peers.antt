-- The peers of a process stand in the order of the events at which it came to hold an id with them.
use Rattle.std.proofs.Common.{◌≡◌, Bool, true, false, cond, not, ◌&&◌, ◌||◌, List, [], ◌∷◌, ◌++◌, Option, Some, None, filter, refl, sym, ap, ◌∙◌, subst, append-nil}
use Rattle.std.specs.Prelude.{is_some, option_to_list, ⊤}
use Rattle.std.specs.Map.{lookup, remove_entry, set_value, keys_of}
use Rattle.std.proofs.lemmas.Bool.{false≢true, both_ways}
use Rattle.std.proofs.lemmas.List.{map-append}
use Rattle.pt_signal.specs.declared.pid.Pid.{Pid}
use Rattle.pt_signal.specs.declared.ids.Ids.{Ids}
use Rattle.pt_signal.specs.declared.ids.LinkId.{LinkId}
use Rattle.pt_signal.specs.declared.reason.Reason.{Reason}
use Rattle.pt_signal.specs.declared.signal.Signal.{Signal}
use Rattle.pt_signal.specs.declared.signal.Signal.TheVariants.{Link, Unlink, LinkExit}
use Rattle.pt_events.specs.declared.event.Event.{Event}
use Rattle.pt_events.specs.declared.event.Event.TheVariants.{Born, Said, Came, Took, Flag, Left}
use Rattle.pt_signal.specs.Values.{same_pid, same_ref}
use Rattle.pt_signal.specs.Process.{ProcessState, fresh, verdict, held, holds_any, enter, enter_at, cut, cut_at, leave_at, without_ids, one_id, add_id, handle, say}
use Rattle.pt_events.specs.History.{Past, Start, Phase, unborn, living, ended, life, at_start, after, state_of, linked, newborn, while_living, gets, leaves}
use Rattle.pt_laws.specs.Since.{standing}
use Rattle.pt_history.specs.Words.{peers, partner, peer_begins, peer_ends}
use Rattle.pt_laws.specs.Words.{HasOneEntryEach}
use Rattle.pt_signal.proofs.Same.{same_pid_is, same_pid_refl}
use Rattle.pt_laws.proofs.linking.Entries.{Keyed, cut_ids, held-enter, held-enter-other, held-cut, held-cut-other, held-removed, held-removed-other}
use Rattle.pt_laws.proofs.order.Filters.{one_passes, remove_entry-first}
use Rattle.pt_events.proofs.Fields.{end_keeps, while_keeps, leaves_keeps, obey_keeps, down_keeps}
use Rattle.pt_laws.proofs.linking.LinksSince.{keyed, link_exit_links}

abbrev Entries : Type 0
Entries = List (Pid × Ids)

-- tests that agree on the elements -------------------------------------------------------------------

abbrev Agree : (t u : Pid → Bool) → List Pid → Type 0
Agree t u [] = ⊤
Agree t u (q ∷ qs) = (t q ≡ u q) × Agree t u qs

filter_agree : (t u : Pid → Bool) (qs : List Pid) → Agree t u qs → filter t qs ≡ filter u qs
filter_agree t u [] h = refl
filter_agree t u (q ∷ qs) h = rw (h.0, filter_agree t u qs h.1) refl

filter_true : (t : Pid → Bool) (qs : List Pid) → Agree t (λ q. true) qs → filter t qs ≡ qs
filter_true t [] h = refl
filter_true t (q ∷ qs) h = rw (h.0, filter_true t qs h.1) refl

agree_each : (t u : Pid → Bool) → ((q : Pid) → t q ≡ true → u q ≡ true) → (qs : List Pid) → Agree t (λ q. true) qs → Agree u (λ q. true) qs
agree_each t u h [] a = tt
agree_each t u h (q ∷ qs) a = (h q a.0, agree_each t u h qs a.1)

-- each key is held
all_held : (es : Entries) → Agree (λ q. is_some (held es q)) (λ q. true) (keys_of es)
all_held [] = tt
all_held (e ∷ es) = (rw (same_pid_refl e.0) refl, agree_each (λ q. is_some (held es q)) (λ q. is_some (held (e ∷ es) q)) more (keys_of es) (all_held es))
  where
    more : (q : Pid) → is_some (held es q) ≡ true → is_some (held (e ∷ es) q) ≡ true
    more q h = go (same_pid q e.0)
      where
        go : (b : Bool) → is_some (cond b (Some e.1) (held es q)) ≡ true
        go true = refl
        go false = h

-- one change of the entries -------------------------------------------------------------------------

-- the keys of new are those of old that are still held, then the candidates that were not held and are now
abbrev InOrder : Entries → Entries → List Pid → Type 0
InOrder old new candidates = keys_of new ≡ filter (λ q. not (not (is_some (held new q)))) (keys_of old) ++ filter (λ q. not (is_some (held old q)) && is_some (held new q)) candidates

not_not : (b : Bool) → not (not b) ≡ b
not_not true = refl
not_not false = refl

-- none of the candidates is new
none_new : (old new : Entries) → ((q : Pid) → held old q ≡ None → held new q ≡ None) → (qs : List Pid) → filter (λ q. not (is_some (held old q)) && is_some (held new q)) qs ≡ []
none_new old new h [] = refl
none_new old new h (q ∷ qs) = rw (no (held old q) refl, none_new old new h qs) refl
  where
    no : (o : Option Ids) → held old q ≡ o → (not (is_some (held old q)) && is_some (held new q)) ≡ false
    no None e = rw (e, h q e) refl
    no (Some ids) e = rw e refl

stay_in_order : (old new : Entries) → ((q : Pid) → held old q ≡ None → held new q ≡ None) → keys_of new ≡ filter (λ q. is_some (held new q)) (keys_of old) → (qs : List Pid) → InOrder old new qs
stay_in_order old new h k qs =
    k ∙ sym (append-nil _)
    ∙ ap (λ z. z ++ []) (filter_agree (λ q. is_some (held new q)) (λ q. not (not (is_some (held new q)))) (keys_of old) (agree_not (keys_of old)))
    ∙ ap (λ z. filter (λ q. not (not (is_some (held new q)))) (keys_of old) ++ z) (sym (none_new old new h qs))
  where
    agree_not : (qs : List Pid) → Agree (λ q. is_some (held new q)) (λ q. not (not (is_some (held new q)))) qs
    agree_not [] = tt
    agree_not (q ∷ qs) = (sym (not_not (is_some (held new q))), agree_not qs)

same_in_order : (es : Entries) (qs : List Pid) → InOrder es es qs
same_in_order es qs = stay_in_order es es (λ q h. h) (sym (filter_true (λ q. is_some (held es q)) (keys_of es) (all_held es))) qs

same_keys : (old new : Entries) → keys_of new ≡ keys_of old → keys_of new ≡ filter (λ q. is_some (held new q)) (keys_of old)
same_keys old new k = k ∙ sym (filter_true (λ q. is_some (held new q)) (keys_of old) (subst (Agree (λ q. is_some (held new q)) (λ q. true)) k (all_held new)))

set_keys : (T : Pid → Bool) (es : Entries) (ids : Ids) → keys_of (set_value T es ids) ≡ keys_of es
set_keys T [] ids = refl
set_keys T (e ∷ es) ids = go (T e.0) (set_keys T es ids)
  where
    go : (b : Bool) → keys_of (set_value T es ids) ≡ keys_of es → keys_of (cond b ((e.0, ids) ∷ es) (e ∷ set_value T es ids)) ≡ keys_of (e ∷ es)
    go true ih = refl
    go false ih = ap (λ z. e.0 ∷ z) ih

pushed : (k q : Pid) (ids : Ids) (es : Entries) → is_some (held es k) ≡ true → is_some (held (es ++ (q, ids) ∷ []) k) ≡ true
pushed k q ids [] h = absurd (false≢true h)
pushed k q ids (e ∷ es) h = go (same_pid k e.0) h (pushed k q ids es)
  where
    go : (b : Bool) → is_some (cond b (Some e.1) (held es k)) ≡ true → (is_some (held es k) ≡ true → is_some (held (es ++ (q, ids) ∷ []) k) ≡ true) → is_some (cond b (Some e.1) (held (es ++ (q, ids) ∷ []) k)) ≡ true
    go true h ih = refl
    go false h ih = ih h

none_at : (k q : Pid) (es : Entries) → same_pid k q ≡ true → held es k ≡ None → held es q ≡ None
none_at k q es e = subst (λ q. held es k ≡ None → held es q ≡ None) (same_pid_is k q e) (λ h. h)

enter_in_order : (q : Pid) (i : LinkId) (es : Entries) → InOrder es (enter q i es) (q ∷ [])
enter_in_order q i es = go (held es q) refl (ap is_some (held-enter q i es)) (λ k n. held-enter-other k q i es n)
  where
    go : (o : Option Ids) → held es q ≡ o → is_some (held (enter_at o q i es) q) ≡ true → ((k : Pid) → same_pid k q ≡ false → held (enter_at o q i es) k ≡ held es k) → InOrder es (enter_at o q i es) (q ∷ [])
    go None h there other =
        map-append (λ (e : Pid × Ids). e.0) es ((q, one_id i) ∷ [])
        ∙ ap (λ z. z ++ q ∷ [])
        (sym (filter_true (λ k. not (not (is_some (held (es ++ (q, one_id i) ∷ []) k)))) (keys_of es)
        (agree_each (λ k. is_some (held es k)) (λ k. not (not (is_some (held (es ++ (q, one_id i) ∷ []) k)))) (λ k p. not_not _ ∙ pushed k q (one_id i) es p) (keys_of es) (all_held es))))
        ∙ ap (λ z. filter (λ k. not (not (is_some (held (es ++ (q, one_id i) ∷ []) k)))) (keys_of es) ++ z) (rw (h, there) refl)
    go (Some ids) h there other = stay_in_order es (set_value (same_pid q) es (add_id ids i)) none (same_keys es (set_value (same_pid q) es (add_id ids i)) (set_keys (same_pid q) es (add_id ids i))) (q ∷ [])
      where
        none : (k : Pid) → held es k ≡ None → held (set_value (same_pid q) es (add_id ids i)) k ≡ None
        none k n = by (same_pid k q) refl
          where
            by : (b : Bool) → same_pid k q ≡ b → held (set_value (same_pid q) es (add_id ids i)) k ≡ None
            by true e = let z = none_at k q es e n in absurd (cc)
            by false e = other k e ∙ n

removed_keys : (q : Pid) (es : Entries) → Keyed es → keys_of (remove_entry (same_pid q) es) ≡ filter (λ k. is_some (held (remove_entry (same_pid q) es) k)) (keys_of es)
removed_keys q es keyed =
    ap keys_of (remove_entry-first (same_pid q) es ∙ one_passes (λ (e : Pid × Ids). same_pid q e.0) es (keyed q))
    ∙ keys_filtered es
    ∙ filter_agree (λ k. not (same_pid q k)) (λ k. is_some (held (remove_entry (same_pid q) es) k)) (keys_of es) (each (keys_of es) (all_held es))
  where
    keys_filtered : (es : Entries) → keys_of (filter (λ e. not (same_pid q e.0)) es) ≡ filter (λ k. not (same_pid q k)) (keys_of es)
    keys_filtered [] = refl
    keys_filtered (e ∷ es) = go (not (same_pid q e.0)) (keys_filtered es)
      where
        go : (b : Bool) → keys_of (filter (λ e. not (same_pid q e.0)) es) ≡ filter (λ k. not (same_pid q k)) (keys_of es)
            → keys_of (cond b (e ∷ filter (λ e. not (same_pid q e.0)) es) (filter (λ e. not (same_pid q e.0)) es)) ≡ cond b (e.0 ∷ filter (λ k. not (same_pid q k)) (keys_of es)) (filter (λ k. not (same_pid q k)) (keys_of es))
        go true h = ap (λ z. e.0 ∷ z) h
        go false h = h

    at_key : (k : Pid) → is_some (held es k) ≡ true → not (same_pid q k) ≡ is_some (held (remove_entry (same_pid q) es) k)
    at_key k h = by (same_pid q k) refl
      where
        flip : same_pid q k ≡ false → (b : Bool) → same_pid k q ≡ b → same_pid k q ≡ false
        flip n true e = let z : same_pid q k ≡ true = subst (λ q. same_pid q k ≡ true) (same_pid_is k q e) (same_pid_refl k) in absurd (both_ways _ n z)
        flip n false e = e

        by : (b : Bool) → same_pid q k ≡ b → not (same_pid q k) ≡ is_some (held (remove_entry (same_pid q) es) k)
        by true e =
            let gone : held (remove_entry (same_pid q) es) k ≡ None = subst (λ k. held (remove_entry (same_pid q) es) k ≡ None) (same_pid_is q k e) (held-removed q es keyed) in
            ap not e ∙ sym (ap is_some gone)
        by false e = ap not e ∙ sym (ap is_some (held-removed-other k q es (flip e (same_pid k q) refl)) ∙ h)

    each : (ks : List Pid) → Agree (λ k. is_some (held es k)) (λ k. true) ks → Agree (λ k. not (same_pid q k)) (λ k. is_some (held (remove_entry (same_pid q) es) k)) ks
    each [] h = tt
    each (k ∷ ks) h = (at_key k h.0, each ks h.1)

-- where the entry with q is what changed
none_stays : (q : Pid) (old new : Entries) → (held old q ≡ None → held new q ≡ None) → ((k : Pid) → same_pid k q ≡ false → held new k ≡ held old k) → (k : Pid) → held old k ≡ None → held new k ≡ None
none_stays q old new here other k h = by (same_pid k q) refl
  where
    by : (b : Bool) → same_pid k q ≡ b → held new k ≡ None
    by true e = subst (λ k. held old k ≡ None → held new k ≡ None) (sym (same_pid_is k q e)) here h
    by false e = other k e ∙ h

removed_in_order : (q : Pid) (es : Entries) → Keyed es → (qs : List Pid) → InOrder es (remove_entry (same_pid q) es) qs
removed_in_order q es keyed qs =
    stay_in_order es (remove_entry (same_pid q) es)
    (none_stays q es (remove_entry (same_pid q) es) (λ h. held-removed q es keyed) (λ k n. held-removed-other k q es n)) (removed_keys q es keyed) qs

cut_in_order : (q : Pid) (named : Ids) (es : Entries) → Keyed es → (qs : List Pid) → InOrder es (cut q named es) qs
cut_in_order q named es keyed qs =
    stay_in_order es (cut q named es)
    (none_stays q es (cut q named es) (λ h. held-cut q named es keyed ∙ ap (λ o. cut_ids o named) h) (λ k n. held-cut-other k q named es n)) (keys (held es q)) qs
  where
    leaving : (o : Option Ids) → keys_of (leave_at o q es) ≡ filter (λ k. is_some (held (leave_at o q es) k)) (keys_of es)
    leaving None = removed_keys q es keyed
    leaving (Some left) = same_keys es (set_value (same_pid q) es left) (set_keys (same_pid q) es left)

    keys : (o : Option Ids) → keys_of (cut_at o q named es) ≡ filter (λ k. is_some (held (cut_at o q named es) k)) (keys_of es)
    keys None = same_keys es es refl
    keys (Some ids) = leaving (without_ids named ids)

-- one event -----------------------------------------------------------------------------------------

abbrev links_of : Phase → Entries
links_of f = (state_of f).links

module _ (p : Pid) where
  abbrev Step : Phase → Phase → Option Pid → Type 0
  Step f g other = InOrder (links_of f) (links_of g) (option_to_list other)

  same_step : (f g : Phase) → links_of g ≡ links_of f → (other : Option Pid) → Step f g other
  same_step f g h other = subst (λ l. InOrder (links_of f) l (option_to_list other)) (sym h) (same_in_order (links_of f) (option_to_list other))

  handle_step : (s : ProcessState) (a : Pid) (x : Signal) → Keyed s.links → InOrder s.links (handle p s a x).state.links (a ∷ [])
  handle_step s a (Link i) k = enter_in_order a i s.links
  handle_step s a (Unlink ids) k = cut_in_order a ids s.links k (a ∷ [])
  handle_step s a (Signal.Exit r) k = subst (λ l. InOrder s.links l (a ∷ [])) (sym (obey_keeps (λ s. s.links) (λ w s. refl) (verdict false s.traps (same_pid a p) a r) s)) (same_in_order s.links (a ∷ []))
  handle_step s a (LinkExit ids r) k = subst (λ l. InOrder s.links l (a ∷ [])) (sym (link_exit_links (holds_any (held s.links a) ids) p s a r)) (go (holds_any (held s.links a) ids))
    where
      go : (b : Bool) → InOrder s.links (cond b (remove_entry (same_pid a) s.links) s.links) (a ∷ [])
      go true = removed_in_order a s.links k (a ∷ [])
      go false = same_in_order s.links (a ∷ [])
  handle_step s a (Signal.Down m r) k = subst (λ l. InOrder s.links l (a ∷ [])) (sym (down_keeps (λ s. s.links) (λ w s. refl) (λ l s. refl) (lookup (same_ref m) s.watching) s a m r)) (same_in_order s.links (a ∷ []))
  handle_step s a _ k = same_in_order s.links (a ∷ [])

  came_step : (t : Bool) (a : Pid) (x : Signal) (f : Phase) → Keyed (links_of f) → Step f (cond t (gets p a x f) f) (cond t (Some a) None)
  came_step true a x unborn k = same_in_order [] (a ∷ [])
  came_step true a x (living s) k =
      subst (λ l. InOrder s.links l (a ∷ [])) (sym (end_keeps (λ s. s.links) (handle p s a x).ending (handle p s a x).state)) (handle_step s a x k)
  came_step true a x (ended r s) k = same_in_order s.links (a ∷ [])
  came_step false a x f k = same_in_order (links_of f) []

  say_step : (s : ProcessState) (b : Pid) (x : Signal) → Keyed s.links → InOrder s.links (say s b x).links (b ∷ [])
  say_step s b (Link i) k = enter_in_order b i s.links
  say_step s b (Unlink ids) k = cut_in_order b ids s.links k (b ∷ [])
  say_step s b _ k = same_in_order s.links (b ∷ [])

  said_step : (t : Bool) (b : Pid) (x : Signal) (f : Phase) → Keyed (links_of f) → Step f (cond t (while_living (λ s. say s b x) f) f) (cond t (Some b) None)
  said_step true b x unborn k = same_in_order [] (b ∷ [])
  said_step true b x (living s) k = say_step s b x k
  said_step true b x (ended r s) k = same_in_order s.links (b ∷ [])
  said_step false b x f k = same_in_order (links_of f) []

  linked_step : (s : ProcessState) (q : Pid) (link : Option LinkId) → InOrder s.links (linked (Some q) link s).links (q ∷ [])
  linked_step s q None = same_in_order s.links (q ∷ [])
  linked_step s q (Some i) = enter_in_order q i s.links

  child_step : (t u : Bool) (c a : Pid) (link : Option LinkId) (f : Phase)
      → Step f (cond (t || u) (cond t (newborn (Some a) link f) (while_living (linked (Some c) link) f)) f) (cond t (Some a) (cond u (Some c) None))
  child_step true u c a link unborn = linked_step _ a link
  child_step true u c a link (living s) = same_in_order s.links (a ∷ [])
  child_step true u c a link (ended r s) = same_in_order s.links (a ∷ [])
  child_step false true c a link unborn = same_in_order [] (c ∷ [])
  child_step false true c a link (living s) = linked_step s c link
  child_step false true c a link (ended r s) = same_in_order s.links (c ∷ [])
  child_step false false c a link f = same_in_order (links_of f) []

  orphan_links : (link : Option LinkId) (s : ProcessState) → (linked None link s).links ≡ s.links
  orphan_links None s = refl
  orphan_links (Some i) s = refl

  orphan_step : (t : Bool) (c : Pid) (link : Option LinkId) (f : Phase) → links_of (cond (t || false) (cond t (newborn None link f) (while_living (linked (Some c) link) f)) f) ≡ links_of f
  orphan_step true c link unborn = orphan_links link fresh
  orphan_step true c link (living s) = refl
  orphan_step true c link (ended r s) = refl
  orphan_step false c link f = refl

  plain_step : (t : Bool) (step : ProcessState → ProcessState) → ((s : ProcessState) → (step s).links ≡ s.links) → (f : Phase) → links_of (cond t (while_living step f) f) ≡ links_of f
  plain_step true step h f = while_keeps (λ s. s.links) step h f
  plain_step false step h f = refl

  left_step : (t : Bool) (r : Reason) (f : Phase) → links_of (cond t (leaves r f) f) ≡ links_of f
  left_step true r f = leaves_keeps (λ s. s.links) r f
  left_step false r f = refl

  peers_step : (e : Event) (f : Phase) → Keyed (links_of f) → Step f (after p e f) (partner p e)
  peers_step (Born c (Some a) link) f k = child_step (same_pid p c) (same_pid p a) c a link f
  peers_step (Born c None link) f k = same_step f (after p (Born c None link) f) (orphan_step (same_pid p c) c link f) None
  peers_step (Said a b x) f k = said_step (same_pid p a) b x f k
  peers_step (Came a b x) f k = came_step (same_pid p b) a x f k
  peers_step (Took q j i) f k = same_step f (after p (Took q j i) f) (plain_step (same_pid p q) _ (λ s. refl) f) None
  peers_step (Flag q on) f k = same_step f (after p (Flag q on) f) (plain_step (same_pid p q) _ (λ s. refl) f) None
  peers_step (Left q r) f k = same_step f (after p (Left q r) f) (left_step (same_pid p q) r f) None
  peers_step _ f k = same_step f f refl None

module _ (start : Start) (ok : HasOneEntryEach start) (p : Pid) where
  pub peers_since : (past : Past) → peers (life start past p) ≡ standing (peers (at_start start p)) (λ before. peer_begins p (life start before p)) (λ before. peer_ends p (life start before p)) past
  peers_since [] = refl
  peers_since (e ∷ past) =
      peers_step p e (life start past p) (keyed start ok p past)
      ∙ ap (λ z. filter (λ q. not (peer_ends p (life start past p) e q)) z ++ peer_begins p (life start past p) e) (peers_since past)
