-- The signals of links among letters, and what a process is to another.
use Rattle.std.proofs.Common.{◌≡◌, ◌≤◌, Bool, true, false, cond, ◌&&◌, List, [], ◌∷◌, ◌++◌, Option, Some, None, map, refl, sym, ap, ◌∙◌, append_assoc, append-nil, arith}
use Rattle.std.specs.Prelude.{⊤}
use Rattle.std.specs.Map.{lookup, remove_entry}
use Rattle.std.proofs.lemmas.Bool.{and_right}
use Rattle.std.specs.List.{find}
use Rattle.pt_signal.specs.declared.pid.Pid.{Pid}
use Rattle.pt_signal.specs.declared.ids.Ref.{Ref}
use Rattle.pt_signal.specs.declared.ids.Ids.{Ids}
use Rattle.pt_signal.specs.declared.ids.LinkId.{LinkId}
use Rattle.pt_signal.specs.declared.reason.Reason.{Reason}
use Rattle.pt_signal.specs.declared.signal.Signal.{Signal}
use Rattle.pt_signal.specs.declared.signal.Signal.TheVariants.{Link, Unlink, LinkExit, Monitor, Demonitor, AliveAsk}
use Rattle.pt_events.specs.declared.event.Event.{Event}
use Rattle.pt_events.specs.declared.event.Event.TheVariants.{Born, Said, Came, Took, Flag, Left}
use Rattle.pt_signal.specs.Values.{same_pid, without_first}
use Rattle.pt_signal.specs.Process.{ProcessState, fresh, Verdict, verdict, obey, link_exit, down, holds_any, held, handle, say, one_id, Sent, sent, estate, bounce}
use Rattle.pt_events.specs.History.{Past, Phase, unborn, living, ended, life, change, touches, newborn, linked, while_living, gets, leaves, live_or_end, is_between, got_sends, left_sends, end_sends}
use Rattle.pt_events.specs.Counting.{one_if, count}
use Rattle.pt_signal.proofs.Same.{same_pid_refl}
use Rattle.pt_events.proofs.Handling.{living_answer, handle_answer}
use Rattle.pt_events.proofs.Phases.{each_branch}
use Rattle.pt_laws.proofs.linking.Entries.{Keyed, held-enter, held-enter-other, held-cut, held-cut-other, Keyed-enter, Keyed-cut, Keyed-removed}
use Rattle.pt_laws.proofs.linking.Holding.{obey_links, down_links, exit_holds}
use Rattle.pt_laws.proofs.linking.Ties.{Tie, adds, takes, clears, zero_parts}
use Rattle.pt_laws.proofs.linking.Takings.{got}
use Rattle.pt_laws.proofs.linking.Sides.{Seen, before, here, over}

-- what the signal is to a link
abbrev pub part : Signal → List Tie
part (Link j) = adds j ∷ []
part (Unlink ids) = takes ids ∷ []
part (LinkExit ids r) = clears ids ∷ []
part _ = []

-- the signals of links from p to q among letters
abbrev pub parts : Pid → Pid → List Sent → List Tie
parts p q [] = []
parts p q (l ∷ ls) = cond (is_between p q l) (part l.signal) [] ++ parts p q ls

-- what a pid of the phase is to q
abbrev pub seen : Pid → Phase → Seen
seen q unborn = before
seen q (living s) = here (held s.links q)
seen q (ended r s) = over

-- what an end sends to one with whom ids are held
abbrev pub exits : Option Ids → List Tie
exits None = []
exits (Some ids) = clears ids ∷ []

-- what goes back from one that is not alive
abbrev pub returns : List Tie → List Tie
returns [] = []
returns (adds j ∷ xs) = clears (one_id j) ∷ []
returns (takes ids ∷ xs) = []
returns (clears ids ∷ xs) = []

module _ (p q : Pid) where
  pub parts-append : (xs ys : List Sent) → parts p q (xs ++ ys) ≡ parts p q xs ++ parts p q ys
  parts-append [] ys = refl
  parts-append (l ∷ xs) ys =
      ap (λ z. cond (is_between p q l) (part l.signal) [] ++ z) (parts-append xs ys)
      ∙ sym (append_assoc (cond (is_between p q l) (part l.signal) []) (parts p q xs) (parts p q ys))

  -- letters of another pair, or of other signals
  pub parts_single : (a b : Pid) (x : Signal) → (same_pid p a && same_pid q b) ≡ false → parts p q (sent a b x ∷ []) ≡ []
  parts_single a b x h = rw h refl

  parts_other : {X : Type 0} (a : Pid) (f : X → Pid) (g : X → Signal) → same_pid p a ≡ false → (xs : List X)
      → parts p q (map (λ x. sent a (f x) (g x)) xs) ≡ []
  parts_other a f g h [] = refl
  parts_other a f g h (x ∷ xs) = rw (h, parts_other a f g h xs) refl

  parts_apart : {X : Type 0} (a : Pid) (f : X → Pid) (g : X → Signal) → ((x : X) → part (g x) ≡ []) → (xs : List X)
      → parts p q (map (λ x. sent a (f x) (g x)) xs) ≡ []
  parts_apart a f g h [] = refl
  parts_apart a f g h (x ∷ xs) = go (same_pid p a && same_pid q (f x)) (parts_apart a f g h xs)
    where
      go : (c : Bool) → parts p q (map (λ x. sent a (f x) (g x)) xs) ≡ []
          → cond c (part (g x)) [] ++ parts p q (map (λ x. sent a (f x) (g x)) xs) ≡ []
      go true k = rw (h x, k) refl
      go false k = k

  -- a receipt of the pair, and of another
  pub parts_landed : (x : Signal) (ls : List Sent) → find (is_between p q) ls ≡ Some (sent p q x)
      → parts p q ls ≡ part x ++ parts p q (without_first (is_between p q) ls)
  parts_landed x [] h = absurd (cc)
  parts_landed x (l ∷ ls) h = go (is_between p q l) refl h (parts_landed x ls)
    where
      go : (c : Bool) → is_between p q l ≡ c → find (is_between p q) (l ∷ ls) ≡ Some (sent p q x)
          → (find (is_between p q) ls ≡ Some (sent p q x) → parts p q ls ≡ part x ++ parts p q (without_first (is_between p q) ls))
          → parts p q (l ∷ ls) ≡ part x ++ parts p q (without_first (is_between p q) (l ∷ ls))
      go true e h ih =
          let k : Some l ≡ Some (sent p q x) = rw e at h in
          let k2 : l ≡ sent p q x = cc in
          let k3 : l.signal ≡ x = ap (λ z. z.signal) k2 in
          rw e (ap (λ z. part z ++ parts p q ls) k3)
      go false e h ih = let k : find (is_between p q) ls ≡ Some (sent p q x) = rw e at h in rw (e, e) (ih k)

  pub parts_kept : (P : Sent → Bool) → ((l : Sent) → P l ≡ true → is_between p q l ≡ false) → (ls : List Sent)
      → parts p q (without_first P ls) ≡ parts p q ls
  parts_kept P h [] = refl
  parts_kept P h (l ∷ ls) = go (P l) refl (parts_kept P h ls)
    where
      go : (c : Bool) → P l ≡ c → parts p q (without_first P ls) ≡ parts p q ls → parts p q (without_first P (l ∷ ls)) ≡ parts p q (l ∷ ls)
      go true e ih = rw (e, h l e) refl
      go false e ih = rw e (ap (λ z. cond (is_between p q l) (part l.signal) [] ++ z) ih)

  estate_parts : (a : Pid) (s : ProcessState) (r : Reason)
      → parts p q (estate a s r) ≡ parts p q (map (λ (e : Pid × Ids). sent a e.0 (LinkExit e.1 r)) s.links)
  estate_parts a s r =
      parts-append (map (λ (e : Pid × Ids). sent a e.0 (LinkExit e.1 r)) s.links
      ++ map (λ (k : Ref × Pid). sent a k.1 (Signal.Down k.0 r)) s.kept)
      (map (λ (m : Ref × Pid). sent a m.1 (Demonitor m.0)) s.watching)
      ∙ ap (λ z. parts p q (map (λ (e : Pid × Ids). sent a e.0 (LinkExit e.1 r)) s.links
      ++ map (λ (k : Ref × Pid). sent a k.1 (Signal.Down k.0 r)) s.kept) ++ z)
      (parts_apart a (λ (m : Ref × Pid). m.1) (λ m. Demonitor m.0) (λ m. refl) s.watching)
      ∙ append-nil _
      ∙ parts-append (map (λ (e : Pid × Ids). sent a e.0 (LinkExit e.1 r)) s.links) (map (λ (k : Ref × Pid). sent a k.1 (Signal.Down k.0 r)) s.kept)
      ∙ ap (λ z. parts p q (map (λ (e : Pid × Ids). sent a e.0 (LinkExit e.1 r)) s.links) ++ z)
      (parts_apart a (λ (k : Ref × Pid). k.1) (λ k. Signal.Down k.0 r) (λ k. refl) s.kept)
      ∙ append-nil _

  -- what another sends -----------------------------------------------------------------------------

  estate_other : (a : Pid) (s : ProcessState) (r : Reason) → same_pid p a ≡ false → parts p q (estate a s r) ≡ []
  estate_other a s r h = estate_parts a s r ∙ parts_other a (λ (e : Pid × Ids). e.0) (λ e. LinkExit e.1 r) h s.links

  bounce_other : (b a : Pid) (x : Signal) → same_pid p b ≡ false → parts p q (bounce b a x) ≡ []
  bounce_other b a (Link j) h = rw h refl
  bounce_other b a (Monitor m) h = rw h refl
  bounce_other b a (AliveAsk m) h = rw h refl
  bounce_other b a _ h = refl

  end_other : (b : Pid) (o : Option Reason) (s : ProcessState) → same_pid p b ≡ false → parts p q (end_sends b o s) ≡ []
  end_other b None s h = refl
  end_other b (Some r) s h = estate_other b s r h

  -- what a live process answers is no signal of links
  answer_parts : (b a : Pid) (x : Signal) → parts p q (living_answer b a x) ≡ []
  answer_parts b a (AliveAsk m) = each_branch (λ z. z ++ [] ≡ []) (same_pid p b && same_pid q a) [] [] refl refl
  answer_parts b a _ = refl

  pub got_living : (s : ProcessState) (b a : Pid) (x : Signal)
      → parts p q (got_sends (living s) b a x) ≡ parts p q (end_sends b (handle b s a x).ending (handle b s a x).state)
  got_living s b a x =
      parts-append (handle b s a x).answer (end_sends b (handle b s a x).ending (handle b s a x).state)
      ∙ ap (λ z. z ++ parts p q (end_sends b (handle b s a x).ending (handle b s a x).state))
      (ap (parts p q) (handle_answer b s a x) ∙ answer_parts b a x)

  pub got_other : (f : Phase) (b a : Pid) (x : Signal) → same_pid p b ≡ false → parts p q (got_sends f b a x) ≡ []
  got_other unborn b a x h = bounce_other b a x h
  got_other (living s) b a x h = got_living s b a x ∙ end_other b (handle b s a x).ending (handle b s a x).state h
  got_other (ended r s) b a x h = bounce_other b a x h

  pub left_other : (f : Phase) (b : Pid) (r : Reason) → same_pid p b ≡ false → parts p q (left_sends f b r) ≡ []
  left_other unborn b r h = refl
  left_other (living s) b r h = estate_other b s r h
  left_other (ended w s) b r h = refl

  -- what p sends ---------------------------------------------------------------------------------------

  no_exits : (r : Reason) (links : List (Pid × Ids)) → count (λ e. same_pid q e.0) links ≡ 0
      → parts p q (map (λ (e : Pid × Ids). sent p e.0 (LinkExit e.1 r)) links) ≡ []
  no_exits r [] h = refl
  no_exits r (e ∷ links) h =
      let z = zero_parts (λ (e : Pid × Ids). same_pid q e.0) e links h in
      let k : (same_pid p p && same_pid q e.0) ≡ false = and_right (same_pid p p) (same_pid q e.0) z.0 in
      rw (k, no_exits r links z.1) refl

  exits_held : (r : Reason) (links : List (Pid × Ids)) → count (λ e. same_pid q e.0) links ≤ 1
      → parts p q (map (λ (e : Pid × Ids). sent p e.0 (LinkExit e.1 r)) links) ≡ exits (held links q)
  exits_held r [] h = refl
  exits_held r (e ∷ links) h = go (same_pid q e.0) refl (exits_held r links)
    where
      go : (c : Bool) → same_pid q e.0 ≡ c
          → (count (λ e. same_pid q e.0) links ≤ 1
          → parts p q (map (λ (e : Pid × Ids). sent p e.0 (LinkExit e.1 r)) links) ≡ exits (held links q))
          → parts p q (map (λ (e : Pid × Ids). sent p e.0 (LinkExit e.1 r)) (e ∷ links)) ≡ exits (held (e ∷ links) q)
      go true f ih =
          let k : one_if (same_pid q e.0) ≡ 1 = rw f refl in
          let z = no_exits r links (omega arith) in
          rw (same_pid_refl p, f, z) refl
      go false f ih =
          let k : (same_pid p p && same_pid q e.0) ≡ false = and_right (same_pid p p) (same_pid q e.0) f in
          let z = ih (omega arith) in rw (k, f) z

  pub estate_own : (s : ProcessState) (r : Reason) → Keyed s.links → parts p q (estate p s r) ≡ exits (held s.links q)
  estate_own s r k = estate_parts p s r ∙ exits_held r s.links (k q)

  pub bounce_own : (x : Signal) → parts p q (bounce p q x) ≡ returns (part x)
  bounce_own (Link j) = rw (same_pid_refl p, same_pid_refl q) refl
  bounce_own (Monitor m) = rw (same_pid_refl p, same_pid_refl q) refl
  bounce_own (AliveAsk m) = rw (same_pid_refl p, same_pid_refl q) refl
  bounce_own _ = refl

  pub bounce_not : (a : Pid) (x : Signal) → same_pid q a ≡ false → parts p q (bounce p a x) ≡ []
  bounce_not a (Link j) h = rw (and_right (same_pid p p) (same_pid q a) h) refl
  bounce_not a (Monitor m) h = rw (and_right (same_pid p p) (same_pid q a) h) refl
  bounce_not a (AliveAsk m) h = rw (and_right (same_pid p p) (same_pid q a) h) refl
  bounce_not a _ h = refl

-- each pid has at most one entry in a live process -----------------------------------------------------

abbrev pub KeyedIn : Phase → Type 0
KeyedIn unborn = ⊤
KeyedIn (living s) = Keyed s.links
KeyedIn (ended r s) = ⊤

keyed_linked : (parent : Option Pid) (link : Option LinkId) (s : ProcessState) → Keyed s.links → Keyed (linked parent link s).links
keyed_linked (Some q) (Some i) s k = Keyed-enter q i s.links k
keyed_linked (Some q) None s k = k
keyed_linked None (Some i) s k = k
keyed_linked None None s k = k

keyed_say : (s : ProcessState) (b : Pid) (x : Signal) → Keyed s.links → Keyed (say s b x).links
keyed_say s b (Link i) k = Keyed-enter b i s.links k
keyed_say s b (Unlink ids) k = Keyed-cut b ids s.links k
keyed_say s b _ k = k

keyed_obey : (v : Verdict) (s : ProcessState) → Keyed s.links → Keyed (obey v s).state.links
keyed_obey Verdict.drops s k = k
keyed_obey (Verdict.queues i) s k = k
keyed_obey (Verdict.ends r) s k = k

keyed_exit : (c : Bool) (me : Pid) (s : ProcessState) (a : Pid) (r : Reason) → Keyed s.links → Keyed (link_exit c me s a r).state.links
keyed_exit false me s a r k = k
keyed_exit true me s a r k =
    keyed_obey (verdict true s.traps (same_pid a me) a r) (record s { links = remove_entry (same_pid a) s.links })
    (Keyed-removed a s.links k)

keyed_down : (o : Option Pid) (s : ProcessState) (a : Pid) (m : Ref) (r : Reason) → Keyed s.links → Keyed (down o s a m r).state.links
keyed_down None s a m r k = k
keyed_down (Some b) s a m r k = k

pub keyed_handle : (me : Pid) (s : ProcessState) (a : Pid) (x : Signal) → Keyed s.links → Keyed (handle me s a x).state.links
keyed_handle me s a (Link i) k = Keyed-enter a i s.links k
keyed_handle me s a (Unlink ids) k = Keyed-cut a ids s.links k
keyed_handle me s a (Signal.Exit r) k = keyed_obey (verdict false s.traps (same_pid a me) a r) s k
keyed_handle me s a (LinkExit ids r) k = keyed_exit (holds_any (held s.links a) ids) me s a r k
keyed_handle me s a (Signal.Down m r) k = keyed_down (lookup _ s.watching) s a m r k
keyed_handle me s a _ k = k

keyed_end : (o : Option Reason) (s : ProcessState) → Keyed s.links → KeyedIn (live_or_end o s)
keyed_end None s k = k
keyed_end (Some r) s k = tt

keyed_while : (g : ProcessState → ProcessState) → ((s : ProcessState) → Keyed s.links → Keyed (g s).links) → (f : Phase) → KeyedIn f
    → KeyedIn (while_living g f)
keyed_while g h unborn k = tt
keyed_while g h (living s) k = h s k
keyed_while g h (ended r s) k = tt

keyed_newborn : (parent : Option Pid) (link : Option LinkId) (f : Phase) → KeyedIn f → KeyedIn (newborn parent link f)
keyed_newborn parent link unborn k = keyed_linked parent link fresh (λ q. omega arith)
keyed_newborn parent link (living s) k = k
keyed_newborn parent link (ended r s) k = k

keyed_gets : (p a : Pid) (x : Signal) (f : Phase) → KeyedIn f → KeyedIn (gets p a x f)
keyed_gets p a x unborn k = tt
keyed_gets p a x (living s) k = keyed_end (handle p s a x).ending (handle p s a x).state (keyed_handle p s a x k)
keyed_gets p a x (ended r s) k = tt

keyed_leaves : (r : Reason) (f : Phase) → KeyedIn f → KeyedIn (leaves r f)
keyed_leaves r unborn k = tt
keyed_leaves r (living s) k = tt
keyed_leaves r (ended w s) k = tt

keyed_change : (p : Pid) (e : Event) (f : Phase) → KeyedIn f → KeyedIn (change p e f)
keyed_change p (Born c parent link) f k =
    each_branch KeyedIn (same_pid p c) _ _ (keyed_newborn parent link f k)
    (keyed_while (linked (Some c) link) (keyed_linked (Some c) link) f k)
keyed_change p (Said a b x) f k = keyed_while (λ s. say s b x) (λ s. keyed_say s b x) f k
keyed_change p (Came a b x) f k = keyed_gets p a x f k
keyed_change p (Left c r) f k = keyed_leaves r f k
keyed_change p (Took c j i) f k = keyed_while _ (λ s h. h) f k
keyed_change p (Flag c on) f k = keyed_while _ (λ s h. h) f k
keyed_change p _ f k = k

pub keyed_life : (past : Past) (p : Pid) → KeyedIn (life [] past p)
keyed_life [] p = tt
keyed_life (e ∷ past) p = each_branch KeyedIn (touches p e) _ _ (keyed_change p e (life [] past p) (keyed_life past p)) (keyed_life past p)

-- what one event leaves ----------------------------------------------------------------------------------

module _ (q : Pid) where
  -- a signal of q's comes to a live process
  pub taken_entry : (me : Pid) (s : ProcessState) (x : Signal) (t : Tie) → Keyed s.links → part x ≡ t ∷ []
      → held (handle me s q x).state.links q ≡ got (held s.links q) t
  taken_entry me s (Link j) t k e = let f : adds j ≡ t = cc in held-enter q j s.links ∙ ap (got (held s.links q)) f
  taken_entry me s (Unlink ids) t k e = let f : takes ids ≡ t = cc in held-cut q ids s.links k ∙ ap (got (held s.links q)) f
  taken_entry me s (LinkExit ids r) t k e = let f : clears ids ≡ t = cc in exit_holds q me s ids r k ∙ ap (got (held s.links q)) f
  taken_entry me s _ t k e = absurd (cc)

  -- a signal that is none of links
  pub other_entry : (me : Pid) (s : ProcessState) (a : Pid) (x : Signal) → part x ≡ [] → held (handle me s a x).state.links q ≡ held s.links q
  other_entry me s a (Link j) e = absurd (cc)
  other_entry me s a (Unlink ids) e = absurd (cc)
  other_entry me s a (Signal.Exit r) e = ap (λ z. held z q) (obey_links q (verdict false s.traps (same_pid a me) a r) s)
  other_entry me s a (LinkExit ids r) e = absurd (cc)
  other_entry me s a (Signal.Down m r) e = ap (λ z. held z q) (down_links q (lookup _ s.watching) s a m r)
  other_entry me s a _ e = refl

  -- what is said to another
  pub said_other : (b : Pid) (x : Signal) (f : Phase) → same_pid q b ≡ false → seen q (while_living (λ s. say s b x) f) ≡ seen q f
  said_other b x unborn n = refl
  said_other b x (ended r s) n = refl
  said_other b (Link i) (living s) n = ap here (held-enter-other q b i s.links n)
  said_other b (Unlink ids) (living s) n = ap here (held-cut-other q b ids s.links n)
  said_other b _ (living s) n = refl

  linked_other : (c : Pid) (link : Option LinkId) (s : ProcessState) → same_pid q c ≡ false → held (linked (Some c) link s).links q ≡ held s.links q
  linked_other c None s n = refl
  linked_other c (Some i) s n = held-enter-other q c i s.links n

  -- the birth of another
  pub bore_other : (c : Pid) (link : Option LinkId) (f : Phase) → same_pid q c ≡ false → seen q (while_living (linked (Some c) link) f) ≡ seen q f
  bore_other c link unborn n = refl
  bore_other c link (living s) n = ap here (linked_other c link s n)
  bore_other c link (ended r s) n = refl

  -- a change that leaves the links
  pub seen_while : (g : ProcessState → ProcessState) → ((s : ProcessState) → (g s).links ≡ s.links) → (f : Phase)
      → seen q (while_living g f) ≡ seen q f
  seen_while g h unborn = refl
  seen_while g h (living s) = ap (λ z. here (held z q)) (h s)
  seen_while g h (ended r s) = refl
