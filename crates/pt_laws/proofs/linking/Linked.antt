-- Each pair of pids is bound by its link after every legal history in which no parent said a Link to its child before a birth that links the two.
use Rattle.std.proofs.Common.{◌≡◌, Bool, true, false, ◌&&◌, ◌||◌, ◌⊎◌, inl, inr, List, [], ◌∷◌, ◌++◌, Option, Some, None, refl, sym, ap, ◌∙◌, subst, append-nil, arith}
use Rattle.std.proofs.lemmas.Bool.{false≢true, both_ways, or_parts, and_right, and_left}
use Rattle.std.specs.List.{find}
use Rattle.pt_signal.specs.declared.pid.Pid.{Pid}
use Rattle.pt_signal.specs.declared.ids.Ids.{Ids}
use Rattle.pt_signal.specs.declared.ids.LinkId.{LinkId}
use Rattle.pt_signal.specs.declared.reason.Reason.{Reason}
use Rattle.pt_signal.specs.declared.signal.Signal.{Signal}
use Rattle.pt_signal.specs.declared.signal.Signal.TheVariants.{Link, Unlink, LinkExit, AliveSay}
use Rattle.pt_events.specs.declared.event.Event.{Event}
use Rattle.pt_events.specs.declared.event.Event.TheVariants.{Born, Said, Came, Took, Flag, Left}
use Rattle.pt_signal.specs.Values.{same_pid, same_link, without_first}
use Rattle.pt_signal.specs.Process.{ProcessState, fresh, held, handle, say, one_id, Sent, sent}
use Rattle.pt_events.specs.History.{Past, Phase, unborn, living, ended, life, state, state_of, is_living, is_unborn, is_between, flying, got_sends, left_sends, end_sends, live_or_end, gets, leaves, linked, newborn, while_living, is_the, is_this, made_link, makes_link, MaySay, MayBear, IsLegal}
use Rattle.pt_events.specs.Counting.{one_if}
use Rattle.pt_laws.specs.Watch.{said_to, says_to}
use Rattle.pt_laws.specs.Links.{is_link, IsNewTie, IsBornFree}
use Rattle.pt_signal.proofs.Same.{same_pid_is, same_pid_refl}
use Rattle.pt_events.proofs.Phases.{each_branch, was_unborn}
use Rattle.pt_laws.proofs.order.Flight.{is_between_other}
use Rattle.pt_laws.proofs.linking.Entries.{Keyed, entered, cut_ids, held-enter, held-enter-other, held-cut}
use Rattle.pt_laws.proofs.linking.Holding.{other_holds}
use Rattle.pt_laws.proofs.linking.Ties.{Tie, adds, takes, clears}
use Rattle.pt_laws.proofs.linking.Takings.{cut_all}
use Rattle.pt_laws.proofs.linking.Sides.{Seen, before, here, over, plus}
use Rattle.pt_laws.proofs.linking.Bonds.{Bond, swapped, say_link, say_unlink, ends_free, ends_held, take_in, ignored, returned_before, returned_over, born_alone, born_linked, made_elsewhere}
use Rattle.pt_laws.proofs.linking.Between.{part, parts, seen, exits, returns, parts-append, parts_single, parts_landed, parts_kept, got_other, left_other, estate_own, bounce_own, bounce_not, KeyedIn, keyed_handle, keyed_life, taken_entry, other_entry, said_other, bore_other, seen_while, got_living}

-- the event makes the id for a link from p to q
abbrev pub makes_by : Pid → Pid → Event → LinkId → Bool
makes_by p q (Born c parent link) i = (same_pid q c && is_the p parent) && is_this i link
makes_by p q (Said a b (Link j)) i = (same_pid p a && same_pid q b) && same_link i j
makes_by p q _ i = false

abbrev pub made_by : Pid → Pid → Past → LinkId → Bool
made_by p q [] i = false
made_by p q (e ∷ past) i = makes_by p q e i || made_by p q past i

-- all that a bond speaks of
record State : Type 0 where
  made : LinkId → Bool
  mine : LinkId → Bool
  theirs : LinkId → Bool
  near : Seen
  far : Seen
  away : List Tie
  home : List Tie

abbrev BondAt : State → Type 0
BondAt s = Bond s.made s.mine s.theirs s.near s.far s.away s.home

moved : (m m2 a a2 t t2 : LinkId → Bool) (A A2 B B2 : Seen) (F F2 G G2 : List Tie)
    → ((i : LinkId) → m i ≡ m2 i) → ((i : LinkId) → a i ≡ a2 i) → ((i : LinkId) → t i ≡ t2 i) → A ≡ A2 → B ≡ B2 → F ≡ F2 → G ≡ G2
    → Bond m a t A B F G → Bond m2 a2 t2 A2 B2 F2 G2
moved m m2 a a2 t t2 A A2 B B2 F F2 G G2 e1 e2 e3 e4 e5 e6 e7 b =
    let s : State = record { made = m; mine = a; theirs = t; near = A; far = B; away = F; home = G } in
    let s2 : State = record { made = m2; mine = a2; theirs = t2; near = A2; far = B2; away = F2; home = G2 } in
    let e : s ≡ s2 =
    λ k. record { made = λ i. e1 i k; mine = λ i. e2 i k; theirs = λ i. e3 i k; near = e4 k; far = e5 k; away = e6 k; home = e7 k } in
    subst BondAt e b

abbrev pub BondOf : Pid → Pid → Past → Type 0
BondOf p q past =
    Bond (made_link past) (made_by p q past) (made_by q p past) (seen q (life [] past p)) (seen p (life [] past q))
    (parts p q (flying [] past)) (parts q p (flying [] past))

flipped : (p q : Pid) → same_pid p q ≡ false → same_pid q p ≡ false
flipped p q n = go (same_pid q p) refl
  where
    go : (b : Bool) → same_pid q p ≡ b → same_pid q p ≡ false
    go true e = let k : same_pid p q ≡ true = subst (λ z. same_pid z q ≡ true) (same_pid_is q p e) (same_pid_refl q) in absurd (both_ways _ n k)
    go false e = e

-- where the event changes nothing of the pair
unchanged : (p q : Pid) (past : Past) (e : Event)
    → seen q (life [] (e ∷ past) p) ≡ seen q (life [] past p) → seen p (life [] (e ∷ past) q) ≡ seen p (life [] past q)
    → parts p q (flying [] (e ∷ past)) ≡ parts p q (flying [] past) → parts q p (flying [] (e ∷ past)) ≡ parts q p (flying [] past)
    → ((i : LinkId) → makes_by p q e i ≡ false) → ((i : LinkId) → makes_by q p e i ≡ false)
    → BondOf p q past → BondOf p q (e ∷ past)
unchanged p q past e ea eb ef eg mp mq b =
    moved (made_link (e ∷ past)) (made_link (e ∷ past)) (made_by p q past) (made_by p q (e ∷ past)) (made_by q p past)
    (made_by q p (e ∷ past)) _ _ _ _ _ _ _ _
    (λ i. refl) (λ i. rw (mp i) refl) (λ i. rw (mq i) refl) (sym ea) (sym eb) (sym ef) (sym eg)
    (made_elsewhere (made_link past) (made_by p q past) (made_by q p past) (seen p (life [] past q)) (parts p q (flying [] past))
    (parts q p (flying [] past)) (made_link (e ∷ past)) (λ i h. (or_parts (makes_link i e) (made_link past i) h).1)
    (seen q (life [] past p)) b)

-- a pair of which the actor is one, and a pair of which it is none
by_actor : (a : Pid) (past past2 : Past) → ((p q : Pid) → same_pid p q ≡ false → BondOf p q past)
    → ((q : Pid) → same_pid a q ≡ false → BondOf a q past → BondOf a q past2)
    → ((p q : Pid) → same_pid p a ≡ false → same_pid q a ≡ false → BondOf p q past → BondOf p q past2)
    → (p q : Pid) → same_pid p q ≡ false → BondOf p q past2
by_actor a past past2 ih own other p q n = go (same_pid p a) refl (same_pid q a) refl
  where
    go : (c : Bool) → same_pid p a ≡ c → (d : Bool) → same_pid q a ≡ d → BondOf p q past2
    go true e d f =
        let n2 = subst (λ z. same_pid z q ≡ false) (same_pid_is p a e) n in
        subst (λ z. BondOf z q past2) (sym (same_pid_is p a e)) (own q n2 (ih a q n2))
    go false e true f =
        let n2 = flipped p a e in
        subst (λ z. BondOf p z past2) (sym (same_pid_is q a f)) (swapped _ _ _ _ _ _ _ (own p n2 (ih a p n2)))
    go false e false f = other p q e f (ih p q n)

-- letters that join ------------------------------------------------------------------------------------

joined_none : (p q : Pid) (ls new : List Sent) → parts p q new ≡ [] → parts p q (ls ++ new) ≡ parts p q ls
joined_none p q ls new h = parts-append p q ls new ∙ ap (λ z. parts p q ls ++ z) h ∙ append-nil _

joined : (p q : Pid) (ls new : List Sent) (xs : List Tie) → parts p q new ≡ xs → parts p q (ls ++ new) ≡ parts p q ls ++ xs
joined p q ls new xs h = parts-append p q ls new ∙ ap (λ z. parts p q ls ++ z) h

joined_nil : (p q : Pid) (ls : List Sent) → parts p q (ls ++ []) ≡ parts p q ls
joined_nil p q ls = joined_none p q ls [] refl

-- a Said ------------------------------------------------------------------------------------------------

makes_said : (p q a b : Pid) (x : Signal) (i : LinkId) → (same_pid p a && same_pid q b) ≡ false → makes_by p q (Said a b x) i ≡ false
makes_said p q a b (Link j) i h = rw h refl
makes_said p q a b _ i h = refl

is_state : (f : Phase) → is_living f ≡ true → f ≡ living (state_of f)
is_state unborn h = absurd (false≢true h)
is_state (living s) h = refl
is_state (ended r s) h = absurd (false≢true h)

module _ (past : Past) (a q : Pid) (n : same_pid a q ≡ false) where
  n2 : same_pid q a ≡ false
  n2 = flipped a q n

  abbrev F : List Tie
  F = parts a q (flying [] past)

  abbrev G : List Tie
  G = parts q a (flying [] past)

  said_far : (b : Pid) (x : Signal) → seen a (life [] (Said a b x ∷ past) q) ≡ seen a (life [] past q)
  said_far b x = rw n2 refl

  said_home : (b : Pid) (x : Signal) → parts q a (flying [] (Said a b x ∷ past)) ≡ G
  said_home b x = joined_none q a (flying [] past) (sent a b x ∷ []) (parts_single q a a b x (and_left (same_pid q a) (same_pid a b) n2))

  said_away : (x : Signal) → parts a q (flying [] (Said a q x ∷ past)) ≡ F ++ part x
  said_away x = joined a q (flying [] past) (sent a q x ∷ []) (part x) (rw (same_pid_refl a, same_pid_refl q) (append-nil (part x)))

  -- a signal that is none of links
  plain : (x : Signal) → part x ≡ [] → ((s : ProcessState) → (say s q x).links ≡ s.links)
      → ((i : LinkId) → makes_by a q (Said a q x) i ≡ false) → BondOf a q past → BondOf a q (Said a q x ∷ past)
  plain x e h m b = unchanged a q past (Said a q x)
      (each_branch (λ f. seen q f ≡ seen q (life [] past a)) (same_pid a a) _ _ (seen_while q (λ s. say s q x) h (life [] past a)) refl)
      (said_far q x) (said_away x ∙ ap (λ z. F ++ z) e ∙ append-nil F) (said_home q x) m
      (λ i. makes_said q a a q x i (and_left (same_pid q a) (same_pid a q) n2)) b

  module _ (lives : is_living (life [] past a) ≡ true) where
    near_is : seen q (life [] past a) ≡ here (held (state [] past a).links q)
    near_is = ap (seen q) (is_state (life [] past a) lives)

    said_near : (x : Signal) → seen q (life [] (Said a q x ∷ past) a) ≡ here (held (say (state [] past a) q x).links q)
    said_near x = rw (same_pid_refl a) (ap (λ f. seen q (while_living (λ s. say s q x) f)) (is_state (life [] past a) lives))

    said_here : (x : Signal) → MaySay [] past (state [] past a) a q x → BondOf a q past → BondOf a q (Said a q x ∷ past)
    said_here (LinkExit ids r) may b = absurd may
    said_here (Signal.Down m r) may b = absurd may
    said_here (AliveSay m x) may b = absurd may
    said_here (Link j) may b =
        let e : seen q (life [] past a) ≡ here None = near_is ∙ ap here may.1 in
        let c = subst (λ z. Bond (made_link past) (made_by a q past) (made_by q a past) z (seen a (life [] past q)) F G) e b in
        let v : here (Some (one_id j)) ≡ seen q (life [] (Said a q (Link j) ∷ past) a) =
        sym (said_near (Link j) ∙ ap here (held-enter q j (state [] past a).links ∙ ap (λ o. Some (entered o j)) may.1)) in
        moved (made_link (Said a q (Link j) ∷ past)) _ (plus j (made_by a q past)) (made_by a q (Said a q (Link j) ∷ past))
        (made_by q a past) (made_by q a (Said a q (Link j) ∷ past)) _ _ _ _ _ _ _ _
        (λ i. refl) (λ i. rw (same_pid_refl a, same_pid_refl q) refl)
        (λ i. rw (makes_said q a a q (Link j) i (and_left (same_pid q a) (same_pid a q) n2)) refl)
        v (sym (said_far q (Link j))) (sym (said_away (Link j))) (sym (said_home q (Link j)))
        (say_link (made_link past) (made_by a q past) (made_by q a past) (seen a (life [] past q)) F G j may.0 c)
    said_here (Unlink ids) may b =
        let e : seen q (life [] past a) ≡ here (Some ids) = near_is ∙ ap here may in
        let c = subst (λ z. Bond (made_link past) (made_by a q past) (made_by q a past) z (seen a (life [] past q)) F G) e b in
        let k : Keyed (state [] past a).links = subst KeyedIn (is_state (life [] past a) lives) (keyed_life past a) in
        let v : here None ≡ seen q (life [] (Said a q (Unlink ids) ∷ past) a) =
        sym (said_near (Unlink ids) ∙ ap here (held-cut q ids (state [] past a).links k ∙ ap (λ o. cut_ids o ids) may ∙ cut_all ids)) in
        moved (made_link past) (made_link (Said a q (Unlink ids) ∷ past)) (made_by a q past) (made_by a q (Said a q (Unlink ids) ∷ past))
        (made_by q a past) (made_by q a (Said a q (Unlink ids) ∷ past)) _ _ _ _ _ _ _ _
        (λ i. refl) (λ i. refl) (λ i. refl)
        v (sym (said_far q (Unlink ids))) (sym (said_away (Unlink ids))) (sym (said_home q (Unlink ids)))
        (say_unlink (made_link past) (made_by a q past) (made_by q a past) (seen a (life [] past q)) F G ids c)
    said_here x may b = plain x refl (λ s. refl) (λ i. refl) b

    pub said_step : (b : Pid) (x : Signal) → MaySay [] past (state [] past a) a b x → BondOf a q past → BondOf a q (Said a b x ∷ past)
    said_step b x may bond = go (same_pid q b) refl
      where
        go : (c : Bool) → same_pid q b ≡ c → BondOf a q (Said a b x ∷ past)
        go true e =
            let k = same_pid_is q b e in
            subst (λ b. BondOf a q (Said a b x ∷ past)) k (said_here x (subst (λ b. MaySay [] past (state [] past a) a b x) (sym k) may) bond)
        go false e = unchanged a q past (Said a b x)
            (each_branch (λ f. seen q f ≡ seen q (life [] past a)) (same_pid a a) _ _ (said_other q b x (life [] past a) e) refl)
            (said_far b x) (joined_none a q (flying [] past) (sent a b x ∷ [])
            (parts_single a q a b x (and_right (same_pid a a) (same_pid q b) e))) (said_home b x)
            (λ i. makes_said a q a b x i (and_right (same_pid a a) (same_pid q b) e))
            (λ i. makes_said q a a b x i (and_left (same_pid q a) (same_pid a b) n2)) bond

-- a receipt and an end, at any phase of the receiver ---------------------------------------------------

module _ (m mi th : LinkId → Bool) (p q : Pid) (B : Seen) (F : List Tie) where
  ends_any : (o : Option Ids) (G : List Tie) → Bond m mi th (here o) B F G → Bond m mi th over B (F ++ exits o) G
  ends_any None G b = subst (λ z. Bond m mi th over B z G) (sym (append-nil F)) (ends_free m mi th B F G b)
  ends_any (Some ids) G b = ends_held m mi th B F G ids b

  ends_or_stays : (o : Option Reason) (s : ProcessState) (G : List Tie) → Keyed s.links → Bond m mi th (here (held s.links q)) B F G
      → Bond m mi th (seen q (live_or_end o s)) B (F ++ parts p q (end_sends p o s)) G
  ends_or_stays None s G k b = subst (λ z. Bond m mi th (here (held s.links q)) B z G) (sym (append-nil F)) b
  ends_or_stays (Some r) s G k b = subst (λ z. Bond m mi th over B (F ++ z) G) (sym (estate_own p q s r k)) (ends_any (held s.links q) G b)

  leaving : (f : Phase) (r : Reason) (G : List Tie) → KeyedIn f → Bond m mi th (seen q f) B F G
      → Bond m mi th (seen q (leaves r f)) B (F ++ parts p q (left_sends f p r)) G
  leaving unborn r G k b = subst (λ z. Bond m mi th before B z G) (sym (append-nil F)) b
  leaving (living s) r G k b = ends_or_stays (Some r) s G k b
  leaving (ended w s) r G k b = subst (λ z. Bond m mi th over B z G) (sym (append-nil F)) b

  stay_before : (G : List Tie) → Bond m mi th before B F G → Bond m mi th before B (F ++ []) G
  stay_before G b = subst (λ z. Bond m mi th before B z G) (sym (append-nil F)) b

  stay_over : (G : List Tie) → Bond m mi th over B F G → Bond m mi th over B (F ++ []) G
  stay_over G b = subst (λ z. Bond m mi th over B z G) (sym (append-nil F)) b

  came_before : (ts : List Tie) (G : List Tie) → ts ≡ [] ⊎ (t : Tie) × (ts ≡ t ∷ []) → Bond m mi th before B F (ts ++ G)
      → Bond m mi th before B (F ++ returns ts) G
  came_before [] G h b = stay_before G b
  came_before (adds j ∷ []) G h b = returned_before m mi th B F G j b
  came_before (takes ids ∷ []) G h b = stay_before G (ignored m mi th B F G before (λ i. refl) (takes ids) (λ i. refl) b)
  came_before (clears ids ∷ []) G h b = stay_before G (ignored m mi th B F G before (λ i. refl) (clears ids) (λ i. refl) b)
  came_before (t ∷ u ∷ ts) G (inl h) b = absurd (cc)
  came_before (t ∷ u ∷ ts) G (inr (v, h)) b = absurd (cc)

  came_over : (ts : List Tie) (G : List Tie) → ts ≡ [] ⊎ (t : Tie) × (ts ≡ t ∷ []) → Bond m mi th over B F (ts ++ G)
      → Bond m mi th over B (F ++ returns ts) G
  came_over [] G h b = stay_over G b
  came_over (adds j ∷ []) G h b = returned_over m mi th B F G j b
  came_over (takes ids ∷ []) G h b = stay_over G (ignored m mi th B F G over (λ i. refl) (takes ids) (λ i. refl) b)
  came_over (clears ids ∷ []) G h b = stay_over G (ignored m mi th B F G over (λ i. refl) (clears ids) (λ i. refl) b)
  came_over (t ∷ u ∷ ts) G (inl h) b = absurd (cc)
  came_over (t ∷ u ∷ ts) G (inr (v, h)) b = absurd (cc)

  one_part : (x : Signal) → part x ≡ [] ⊎ (t : Tie) × (part x ≡ t ∷ [])
  one_part (Link j) = inr (adds j, refl)
  one_part (Unlink ids) = inr (takes ids, refl)
  one_part (LinkExit ids r) = inr (clears ids, refl)
  one_part _ = inl refl

  -- from q
  came_from : (f : Phase) (x : Signal) (G : List Tie) → KeyedIn f → Bond m mi th (seen q f) B F (part x ++ G)
      → Bond m mi th (seen q (gets p q x f)) B (F ++ parts p q (got_sends f p q x)) G
  came_from unborn x G k b = subst (λ z. Bond m mi th before B (F ++ z) G) (sym (bounce_own p q x)) (came_before (part x) G (one_part x) b)
  came_from (ended r s) x G k b = subst (λ z. Bond m mi th over B (F ++ z) G) (sym (bounce_own p q x)) (came_over (part x) G (one_part x) b)
  came_from (living s) x G k b =
      subst (λ z. Bond m mi th (seen q (gets p q x (living s))) B (F ++ z) G) (sym (got_living p q s p q x))
      (ends_or_stays (handle p s q x).ending (handle p s q x).state G (keyed_handle p s q x k) (entered_bond (one_part x)))
    where
      entered_bond : part x ≡ [] ⊎ (t : Tie) × (part x ≡ t ∷ []) → Bond m mi th (here (held (handle p s q x).state.links q)) B F G
      entered_bond (inl e) =
          let c : Bond m mi th (here (held s.links q)) B F G = subst (λ z. Bond m mi th (here (held s.links q)) B F (z ++ G)) e b in
          subst (λ z. Bond m mi th (here z) B F G) (sym (other_entry q p s q x e)) c
      entered_bond (inr (t, e)) =
          let c : Bond m mi th (here (held s.links q)) B F (t ∷ G) = subst (λ z. Bond m mi th (here (held s.links q)) B F (z ++ G)) e b in
          subst (λ z. Bond m mi th (here z) B F G) (sym (taken_entry q p s x t k e)) (take_in m mi th B F G (held s.links q) t c)

  -- from another
  came_not : (f : Phase) (a : Pid) (x : Signal) (G : List Tie) → same_pid q a ≡ false → KeyedIn f → Bond m mi th (seen q f) B F G
      → Bond m mi th (seen q (gets p a x f)) B (F ++ parts p q (got_sends f p a x)) G
  came_not unborn a x G n k b = subst (λ z. Bond m mi th before B (F ++ z) G) (sym (bounce_not p q a x n)) (stay_before G b)
  came_not (ended r s) a x G n k b = subst (λ z. Bond m mi th over B (F ++ z) G) (sym (bounce_not p q a x n)) (stay_over G b)
  came_not (living s) a x G n k b =
      let e : held (handle p s a x).state.links q ≡ held s.links q = other_holds q p s a x n in
      subst (λ z. Bond m mi th (seen q (gets p a x (living s))) B (F ++ z) G) (sym (got_living p q s p a x))
      (ends_or_stays (handle p s a x).ending (handle p s a x).state G (keyed_handle p s a x k) (subst (λ z. Bond m mi th (here z) B F G) (sym e) b))

-- a receipt -------------------------------------------------------------------------------------------

module _ (past : Past) (a b : Pid) (x : Signal) (front : find (is_between a b) (flying [] past) ≡ Some (sent a b x)) where
  abbrev rest : List Sent
  rest = without_first (is_between a b) (flying [] past)

  came_other : (p q : Pid) → same_pid p b ≡ false → same_pid q b ≡ false → BondOf p q past → BondOf p q (Came a b x ∷ past)
  came_other p q n k bond = unchanged p q past (Came a b x) (rw n refl) (rw k refl) (letters p q n k) (letters q p k n) (λ i. refl) (λ i. refl) bond
    where
      letters : (p q : Pid) → same_pid p b ≡ false → same_pid q b ≡ false → parts p q (flying [] (Came a b x ∷ past)) ≡ parts p q (flying [] past)
      letters p q n k =
          joined_none p q rest (got_sends (life [] past b) b a x) (got_other p q (life [] past b) b a x n)
          ∙ parts_kept p q (is_between a b) (is_between_other p q a b (and_right (same_pid p a) (same_pid q b) k)) (flying [] past)

  came_step : (q : Pid) → same_pid b q ≡ false → BondOf b q past → BondOf b q (Came a b x ∷ past)
  came_step q n bond = go (same_pid q a) refl
    where
      n3 : same_pid q b ≡ false
      n3 = flipped b q n

      new : List Sent
      new = got_sends (life [] past b) b a x

      away : parts b q (flying [] (Came a b x ∷ past)) ≡ parts b q (flying [] past) ++ parts b q (got_sends (life [] past b) b a x)
      away =
          joined b q rest (got_sends (life [] past b) b a x) _ refl
          ∙ ap (λ z. z ++ parts b q (got_sends (life [] past b) b a x))
          (parts_kept b q (is_between a b) (is_between_other b q a b (and_right (same_pid b a) (same_pid q b) n3)) (flying [] past))

      home : parts q b (flying [] (Came a b x ∷ past)) ≡ parts q b rest
      home = joined_none q b rest (got_sends (life [] past b) b a x) (got_other q b (life [] past b) b a x n3)

      near : seen q (life [] (Came a b x ∷ past) b) ≡ seen q (gets b a x (life [] past b))
      near = rw (same_pid_refl b) refl

      far : seen b (life [] (Came a b x ∷ past) q) ≡ seen b (life [] past q)
      far = rw n3 refl

      finish : Bond (made_link past) (made_by b q past) (made_by q b past) (seen q (gets b a x (life [] past b))) (seen b (life [] past q))
          (parts b q (flying [] past) ++ parts b q (got_sends (life [] past b) b a x)) (parts q b rest)
          → BondOf b q (Came a b x ∷ past)
      finish c =
          moved (made_link past) (made_link (Came a b x ∷ past)) (made_by b q past) (made_by b q (Came a b x ∷ past)) (made_by q b past)
          (made_by q b (Came a b x ∷ past)) _ _ _ _ _ _ _ _
          (λ i. refl) (λ i. refl) (λ i. refl) (sym near) (sym far) (sym away) (sym home) c

      go : (c : Bool) → same_pid q a ≡ c → BondOf b q (Came a b x ∷ past)
      go true e =
          finish (subst (λ z. Bond (made_link past) (made_by b q past) (made_by q b past) (seen q (gets b z x (life [] past b)))
          (seen b (life [] past q)) (parts b q (flying [] past) ++ parts b q (got_sends (life [] past b) b z x)) (parts q b rest))
          (same_pid_is q a e)
          (came_from (made_link past) (made_by b q past) (made_by q b past) b q (seen b (life [] past q)) (parts b q (flying [] past))
          (life [] past b) x (parts q b rest) (keyed_life past b) popped))
        where
          split : parts q b (flying [] past) ≡ part x ++ parts q b rest
          split =
              parts_landed q b x (flying [] past)
              (subst (λ z. find (is_between z b) (flying [] past) ≡ Some (sent z b x)) (sym (same_pid_is q a e)) front)
              ∙ ap (λ z. part x ++ parts q b (without_first (is_between z b) (flying [] past))) (same_pid_is q a e)

          popped : Bond (made_link past) (made_by b q past) (made_by q b past) (seen q (life [] past b)) (seen b (life [] past q))
              (parts b q (flying [] past)) (part x ++ parts q b rest)
          popped =
              subst (λ z. Bond (made_link past) (made_by b q past) (made_by q b past) (seen q (life [] past b)) (seen b (life [] past q))
              (parts b q (flying [] past)) z) split bond
      go false e =
          finish (came_not (made_link past) (made_by b q past) (made_by q b past) b q (seen b (life [] past q))
          (parts b q (flying [] past)) (life [] past b) a x (parts q b rest) e (keyed_life past b) same)
        where
          kept : parts q b rest ≡ parts q b (flying [] past)
          kept = parts_kept q b (is_between a b) (is_between_other q b a b (and_left (same_pid q a) (same_pid b b) e)) (flying [] past)

          same : Bond (made_link past) (made_by b q past) (made_by q b past) (seen q (life [] past b)) (seen b (life [] past q))
              (parts b q (flying [] past)) (parts q b rest)
          same =
              subst (λ z. Bond (made_link past) (made_by b q past) (made_by q b past) (seen q (life [] past b)) (seen b (life [] past q))
              (parts b q (flying [] past)) z) (sym kept) bond

-- an exit -------------------------------------------------------------------------------------------

module _ (past : Past) (a : Pid) (r : Reason) where
  left_bystander : (p q : Pid) → same_pid p a ≡ false → same_pid q a ≡ false → BondOf p q past → BondOf p q (Left a r ∷ past)
  left_bystander p q n k bond =
      unchanged p q past (Left a r) (rw n refl) (rw k refl)
      (joined_none p q (flying [] past) (left_sends (life [] past a) a r) (left_other p q (life [] past a) a r n))
      (joined_none q p (flying [] past) (left_sends (life [] past a) a r) (left_other q p (life [] past a) a r k)) (λ i. refl)
      (λ i. refl) bond

  left_step : (q : Pid) → same_pid a q ≡ false → BondOf a q past → BondOf a q (Left a r ∷ past)
  left_step q n bond =
      let n3 = flipped a q n in
      let near : seen q (life [] (Left a r ∷ past) a) ≡ seen q (leaves r (life [] past a)) = rw (same_pid_refl a) refl in
      let far : seen a (life [] (Left a r ∷ past) q) ≡ seen a (life [] past q) = rw n3 refl in
      let away = joined a q (flying [] past) (left_sends (life [] past a) a r) _ refl in
      let home = joined_none q a (flying [] past) (left_sends (life [] past a) a r) (left_other q a (life [] past a) a r n3) in
      moved (made_link past) (made_link (Left a r ∷ past)) (made_by a q past) (made_by a q (Left a r ∷ past)) (made_by q a past)
      (made_by q a (Left a r ∷ past)) _ _ _ _ _ _ _ _
      (λ i. refl) (λ i. refl) (λ i. refl) (sym near) (sym far) (sym away) (sym home)
      (leaving (made_link past) (made_by a q past) (made_by q a past) a q (seen a (life [] past q)) (parts a q (flying [] past))
      (life [] past a) r (parts q a (flying [] past)) (keyed_life past a) bond)

-- a birth -------------------------------------------------------------------------------------------

-- where the parent said no Link to the unborn child it made none for it
none_made : (a c : Pid) (past : Past) → is_unborn (life [] past c) ≡ true → said_to a c is_link past ≡ 0 → (i : LinkId) → made_by a c past i ≡ false
none_made a c [] u h i = refl
none_made a c (e ∷ past) u h i = rw (here_not e u (omega arith)) (none_made a c past (was_unborn c e (life [] past c) u) (omega arith) i)
  where
    zero_false : (b : Bool) → one_if (b && true) ≡ 0 → b ≡ false
    zero_false true h = absurd (omega arith)
    zero_false false h = refl

    born_not : (f : Phase) (parent : Option Pid) (link : Option LinkId) → is_unborn (newborn parent link f) ≡ true → ⊥
    born_not unborn parent link h = false≢true h
    born_not (living s) parent link h = false≢true h
    born_not (ended r s) parent link h = false≢true h

    here_not : (e : Event) → is_unborn (life [] (e ∷ past) c) ≡ true → says_to a c is_link e ≡ 0 → makes_by a c e i ≡ false
    here_not (Born d parent link) u h = go (same_pid c d) refl
      where
        go : (b : Bool) → same_pid c d ≡ b → ((same_pid c d && is_the a parent) && is_this i link) ≡ false
        go true e = let k : is_unborn (newborn parent link (life [] past c)) ≡ true = rw e at u in absurd (born_not (life [] past c) parent link k)
        go false e = rw e refl
    here_not (Said b d (Link j)) u h = rw (zero_false (same_pid a b && same_pid c d) h) refl
    here_not _ u h = refl

module _ (past : Past) (c : Pid) (parent : Option Pid) (link : Option LinkId) where
  born_bystander : (p q : Pid) → same_pid p c ≡ false → same_pid q c ≡ false → BondOf p q past → BondOf p q (Born c parent link ∷ past)
  born_bystander p q n k bond =
      unchanged p q past (Born c parent link) (same p q n k) (same q p k n) (joined_nil p q (flying [] past))
      (joined_nil q p (flying [] past)) (λ i. rw k refl) (λ i. rw n refl) bond
    where
      same : (p q : Pid) → same_pid p c ≡ false → same_pid q c ≡ false → seen q (life [] (Born c parent link ∷ past) p) ≡ seen q (life [] past p)
      same p q n k = rw n (each_branch (λ f. seen q f ≡ seen q (life [] past p)) (is_the p parent) _ _ (bore_other q c link (life [] past p) k) refl)

  -- a birth that does not link c and q
  born_apart : (q : Pid) → same_pid c q ≡ false → life [] past c ≡ unborn → held (linked parent link fresh).links q ≡ None
      → seen c (life [] (Born c parent link ∷ past) q) ≡ seen c (life [] past q)
      → ((i : LinkId) → (is_the q parent && is_this i link) ≡ false) → BondOf c q past → BondOf c q (Born c parent link ∷ past)
  born_apart q n u h far no_link bond =
      let n3 = flipped c q n in
      let e : seen q (life [] past c) ≡ before = ap (seen q) u in
      let b = subst (λ z. Bond (made_link past) (made_by c q past) (made_by q c past) z (seen c (life [] past q))
      (parts c q (flying [] past)) (parts q c (flying [] past))) e bond in
      let near : here None ≡ seen q (life [] (Born c parent link ∷ past) c) =
      sym (rw (same_pid_refl c) (ap (λ f. seen q (newborn parent link f)) u ∙ ap here h)) in
      let d = born_alone (made_link past) (made_by c q past) (made_by q c past) (seen c (life [] past q)) (parts c q (flying [] past))
      (parts q c (flying [] past)) b in
      let more = made_elsewhere (made_link past) (made_by c q past) (made_by q c past) (seen c (life [] past q))
      (parts c q (flying [] past)) (parts q c (flying [] past)) (made_link (Born c parent link ∷ past))
      (λ i m. (or_parts (is_this i link) (made_link past i) m).1) (here None) d in
      moved (made_link (Born c parent link ∷ past)) (made_link (Born c parent link ∷ past)) (made_by c q past)
      (made_by c q (Born c parent link ∷ past)) (made_by q c past) (made_by q c (Born c parent link ∷ past)) _ _ _ _ _ _ _ _
      (λ i. refl) (λ i. rw n3 refl) (λ i. rw (same_pid_refl c, no_link i) refl) near (sym far) (sym (joined_nil c q (flying [] past)))
      (sym (joined_nil q c (flying [] past))) more

-- a birth that links the child c and its parent q
born_tied : (past : Past) (c q : Pid) (j : LinkId) → same_pid c q ≡ false → life [] past c ≡ unborn → is_living (life [] past q) ≡ true
    → made_link past j ≡ false → said_to q c is_link past ≡ 0
    → BondOf c q past → BondOf c q (Born c (Some q) (Some j) ∷ past)
born_tied past c q j n u lives fresh_id h bond =
    let n3 = flipped c q n in
    let f = is_state (life [] past q) lives in
    let o = held (state [] past q).links c in
    let e : seen q (life [] past c) ≡ before = ap (seen q) u in
    let g : seen c (life [] past q) ≡ here o = ap (seen c) f in
    let b1 = subst (λ z. Bond (made_link past) (made_by c q past) (made_by q c past) z (seen c (life [] past q))
    (parts c q (flying [] past)) (parts q c (flying [] past))) e bond in
    let b2 = subst (λ z. Bond (made_link past) (made_by c q past) (made_by q c past) before z (parts c q (flying [] past))
    (parts q c (flying [] past))) g b1 in
    let near : here (Some (one_id j)) ≡ seen q (life [] (Born c (Some q) (Some j) ∷ past) c) =
    sym (rw (same_pid_refl c) (ap (λ f. seen q (newborn (Some q) (Some j) f)) u ∙ ap here (held-enter q j []))) in
    let far : here (Some (entered o j)) ≡ seen c (life [] (Born c (Some q) (Some j) ∷ past) q) =
    sym (rw (n3, same_pid_refl q) (ap (λ f. seen c (while_living (linked (Some c) (Some j)) f)) f
    ∙ ap here (held-enter c j (state [] past q).links))) in
    let none = none_made q c past (ap is_unborn u) h in
    moved (plus j (made_link past)) (made_link (Born c (Some q) (Some j) ∷ past)) (made_by c q past)
    (made_by c q (Born c (Some q) (Some j) ∷ past)) (plus j (made_by q c past)) (made_by q c (Born c (Some q) (Some j) ∷ past))
    _ _ _ _ _ _ _ _
    (λ i. refl) (λ i. rw n3 refl) (λ i. rw (same_pid_refl c, same_pid_refl q) refl) near far (sym (joined_nil c q (flying [] past)))
    (sym (joined_nil q c (flying [] past)))
    (born_linked (made_link past) (made_by c q past) (made_by q c past) (parts c q (flying [] past)) (parts q c (flying [] past))
    o j fresh_id none b2)

module _ (past : Past) (c q : Pid) (n : same_pid c q ≡ false) (u : life [] past c ≡ unborn) where
  -- the parent has no link to the child
  far_free : (parent : Option Pid) → seen c (life [] (Born c parent None ∷ past) q) ≡ seen c (life [] past q)
  far_free parent =
      rw (flipped c q n) (each_branch (λ f. seen c f ≡ seen c (life [] past q)) (is_the q parent) _ _
      (seen_while c (linked (Some c) None) (λ s. refl) (life [] past q)) refl)

  born_step : (parent : Option Pid) (link : Option LinkId) → MayBear [] past parent link → IsNewTie past c parent link → BondOf c q past
      → BondOf c q (Born c parent link ∷ past)
  born_step None None may tie b = born_apart past c None None q n u refl (far_free None) (λ i. refl) b
  born_step None (Some j) may tie b = absurd may
  born_step (Some a) None may tie b = born_apart past c (Some a) None q n u refl (far_free (Some a)) (λ i. and_right (same_pid q a) false refl) b
  born_step (Some a) (Some j) may tie b = go (same_pid q a) refl
    where
      go : (d : Bool) → same_pid q a ≡ d → BondOf c q (Born c (Some a) (Some j) ∷ past)
      go true e =
          let k = sym (same_pid_is q a e) in
          subst (λ a. BondOf c q (Born c (Some a) (Some j) ∷ past)) (sym k)
          (born_tied past c q j n u (subst (λ a. is_living (life [] past a) ≡ true) k may.0) may.1
          (subst (λ a. said_to a c is_link past ≡ 0) k tie) b)
      go false e =
          born_apart past c (Some a) (Some j) q n u (held-enter-other q a j [] e) (rw (flipped c q n, e) refl)
          (λ i. and_left (same_pid q a) (same_link i j) e) b

-- every legal history ----------------------------------------------------------------------------------

calm : (p q : Pid) (past : Past) (e : Event) → BondOf p q past → ((p q : Pid) → seen q (life [] (e ∷ past) p) ≡ seen q (life [] past p))
    → ((p q : Pid) → parts p q (flying [] (e ∷ past)) ≡ parts p q (flying [] past)) → ((p q : Pid) (i : LinkId) → makes_by p q e i ≡ false)
    → BondOf p q (e ∷ past)
calm p q past e b same letters none = unchanged p q past e (same p q) (same q p) (letters p q) (letters q p) (none p q) (none q p) b

pub bonds : (past : Past) → IsLegal [] past → IsBornFree past → (p q : Pid) → same_pid p q ≡ false → BondOf p q past
bonds [] h free p q n = record {
  left = record {
    new = λ i m. refl;
    own = λ i m. refl;
    known = λ i k. absurd (false≢true k);
    tied = λ i k. absurd (omega arith);
    one = omega arith;
    token = λ i. omega arith;
    unborn = λ e i. refl;
  };
  right = record {
    new = λ i m. refl;
    own = λ i m. refl;
    known = λ i k. absurd (false≢true k);
    tied = λ i k. absurd (omega arith);
    one = omega arith;
    token = λ i. omega arith;
    unborn = λ e i. refl;
  };
  whole = λ ea eb. record {
    same = λ i. refl;
    part = λ i k. tt;
    part_there = λ i k. tt;
    front = tt;
    front_there = tt;
    short = λ k. refl;
    short_there = λ k. refl;
  };
  gone = λ ea. absurd (false≢true ea);
  gone_there = λ eb. absurd (false≢true eb);
}
bonds (Said a b x ∷ past) h free p q n =
    by_actor a past (Said a b x ∷ past) (bonds past h.1 free) (λ q k. said_step past a q k h.0.0 b x h.0.1)
    (λ p q k l bond. unchanged p q past (Said a b x) (rw k refl) (rw l refl)
    (joined_none p q (flying [] past) (sent a b x ∷ []) (parts_single p q a b x (and_left (same_pid p a) (same_pid q b) k)))
    (joined_none q p (flying [] past) (sent a b x ∷ []) (parts_single q p a b x (and_left (same_pid q a) (same_pid p b) l)))
    (λ i. makes_said p q a b x i (and_left (same_pid p a) (same_pid q b) k))
    (λ i. makes_said q p a b x i (and_left (same_pid q a) (same_pid p b) l)) bond) p q n
bonds (Came a b x ∷ past) h free p q n =
    by_actor b past (Came a b x ∷ past) (bonds past h.1 free) (came_step past a b x h.0) (came_other past a b x h.0) p q n
bonds (Left a r ∷ past) h free p q n = by_actor a past (Left a r ∷ past) (bonds past h.1 free) (left_step past a r) (left_bystander past a r) p q n
bonds (Born c parent link ∷ past) h free p q n =
    by_actor c past (Born c parent link ∷ past) (bonds past h.1 free.1) (λ q k. born_step past c q k h.0.0 parent link h.0.1 free.0)
    (born_bystander past c parent link) p q n
bonds (Took c j i ∷ past) h free p q n = calm p q past (Took c j i) (bonds past h.1 free p q n)
    (λ p q. each_branch (λ f. seen q f ≡ seen q (life [] past p)) (same_pid p c) _ _ (seen_while q _ (λ s. refl) (life [] past p)) refl)
    (λ p q. joined_nil p q (flying [] past)) (λ p q i. refl)
bonds (Flag c on ∷ past) h free p q n = calm p q past (Flag c on) (bonds past h.1 free p q n)
    (λ p q. each_branch (λ f. seen q f ≡ seen q (life [] past p)) (same_pid p c) _ _ (seen_while q _ (λ s. refl) (life [] past p)) refl)
    (λ p q. joined_nil p q (flying [] past)) (λ p q i. refl)
bonds (e ∷ past) h free p q n = calm p q past e (bonds past h.1 free p q n) (λ p q. refl) (λ p q. joined_nil p q (flying [] past)) (λ p q i. refl)
