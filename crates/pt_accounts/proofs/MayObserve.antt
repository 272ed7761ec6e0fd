-- What a local journal's next event asks of the table, and what the table tells after it.
use Rattle.std.proofs.Common.{◌≡◌, ℕ, zero, suc, ◌+◌, ◌^◌, ◌<◌, ◌≤◌, ◌||◌, Bool, true, false, cond, Option, Some, None, List, [], ◌∷◌, ◌++◌, length, slice_get, refl, ap, sym, ◌∙◌, subst, inl, inr, arith, pred}
use Rattle.std.specs.Prelude.{IfSome}
use Rattle.std.proofs.lemmas.Bool.{cases_lt, or_parts, both_ways, false≢true, true≢false}
use Rattle.std.specs.Map.{lookup, remove_entry}
use Rattle.pt_signal.specs.declared.pid.Pid.{Pid}
use Rattle.pt_signal.specs.declared.ids.Ref.{Ref}
use Rattle.pt_signal.specs.declared.ids.LinkId.{LinkId}
use Rattle.pt_signal.specs.declared.signal.Signal.{Signal}
use Rattle.pt_signal.specs.declared.signal.Signal.TheVariants.{LinkExit, Monitor, Demonitor}
use Rattle.pt_signal.specs.Values.{same_pid, same_ref}
use Rattle.pt_signal.specs.declared.item.Item.{Item}
use Rattle.pt_signal.specs.declared.item.Pick.{Pick}
use Rattle.pt_signal.specs.declared.reason.Reason.{Reason}
use Rattle.pt_signal.specs.Process.{ProcessState, fresh, held, holds_any, handle, say, obey, Verdict, drops, queues, ends, verdict, link_exit, down}
use Rattle.pt_signal.proofs.Same.{same_pid_is, same_pid_refl}
use Rattle.pt_process.specs.Outcome.{IsAnew}
use Rattle.pt_events.specs.declared.event.Event.{Event}
use Rattle.pt_events.specs.declared.event.Event.TheVariants.{Born, Said, Came, Took, Flag, Left, Refused}
use Rattle.pt_events.specs.History.{Past, Start, Phase, unborn, living, ended, life, state, state_of, touches, is_unborn, is_ended, is_living, alive, made_ref, makes_ref, MayBear, change, linked, live_or_end}
use Rattle.pt_events.specs.Journal.{IsHome, IsOf, MayHere, IsKnown}
use Rattle.pt_events.proofs.Phases.{each_branch}
use Rattle.pt_events.specs.Counting.{one_if, count}
use Rattle.pt_events.specs.Takes.{taken_by}
use Rattle.pt_accounts.specs.LifeState.{LifeState}
use Rattle.pt_accounts.specs.Table.{Slots, life_at, of_version, slot_at, TableTells, AreTold}
use Rattle.pt_accounts.specs.SlotState.{AreVersions, HasEnded, LifeIsOver}
use Rattle.pt_accounts.specs.Steps.{MayShow, may_show_parent, MayObserve, Observes, MaySee, MayMeet, MayDo, IsNextOf, IsAnewAfter}
use Rattle.pt_accounts.proofs.Places.{slice_get-past}
use Rattle.pt_accounts.proofs.Told.{IsApart, Unmoved, place_other, told_at, all_told, none_unborn, told_changed, told_born, tells_still}
use Rattle.pt_accounts.proofs.Listing.{slot_versions}

-- no life took as many as can be counted
abbrev pub Few : Slots → Type 0
Few slots = (s v : ℕ) → IfSome (life_at slots s v) (λ l. l.taken + 1 < 2 ^ 64)

-- a reference that was never made is open nowhere -----------------------------------------------

module _ (m : Ref) where
  abbrev IsClosed : ProcessState → Type 0
  IsClosed s = lookup (same_ref m) s.watching ≡ None

  removed : (n : Ref) (l : List (Ref × Pid)) → lookup (same_ref m) l ≡ None → lookup (same_ref m) (remove_entry (same_ref n) l) ≡ None
  removed n [] h = h
  removed n (k ∷ l) h = go (same_ref m k.0) refl (same_ref n k.0) h (removed n l)
    where
      go : (b : Bool) → same_ref m k.0 ≡ b → (c : Bool) → lookup (same_ref m) (k ∷ l) ≡ None → (lookup (same_ref m) l ≡ None → lookup (same_ref m) (remove_entry (same_ref n) l) ≡ None)
          → lookup (same_ref m) (cond c l (k ∷ remove_entry (same_ref n) l)) ≡ None
      go true e c h ih = let z : Some k.1 ≡ None = rw e at h in absurd (cc)
      go false e true h ih = rw e at h
      go false e false h ih = rw e (ih (rw e at h))

  pushed : (n : Ref) (t : Pid) (l : List (Ref × Pid)) → same_ref m n ≡ false → lookup (same_ref m) l ≡ None → lookup (same_ref m) (l ++ (n, t) ∷ []) ≡ None
  pushed n t [] d h = rw d refl
  pushed n t (k ∷ l) d h = go (same_ref m k.0) refl h (pushed n t l d)
    where
      go : (b : Bool) → same_ref m k.0 ≡ b → cond (same_ref m k.0) (Some k.1) (lookup (same_ref m) l) ≡ None → (lookup (same_ref m) l ≡ None → lookup (same_ref m) (l ++ (n, t) ∷ []) ≡ None)
          → cond (same_ref m k.0) (Some k.1) (lookup (same_ref m) (l ++ (n, t) ∷ [])) ≡ None
      go true e h ih = let z : Some k.1 ≡ None = rw e at h in absurd (cc)
      go false e h ih = rw e (ih (rw e at h))

  obeyed : (v : Verdict) (s : ProcessState) → IsClosed s → IsClosed (obey v s).state
  obeyed drops s h = h
  obeyed (queues item) s h = h
  obeyed (ends r) s h = h

  exited : (b : Bool) (me : Pid) (s : ProcessState) (a : Pid) (r : Reason) → IsClosed s → IsClosed (link_exit b me s a r).state
  exited false me s a r h = h
  exited true me s a r h = obeyed (verdict true s.traps (same_pid a me) a r) (record s { links = remove_entry (same_pid a) s.links }) h

  downed : (o : Option Pid) (s : ProcessState) (a : Pid) (n : Ref) (r : Reason) → IsClosed s → IsClosed (down o s a n r).state
  downed None s a n r h = h
  downed (Some t) s a n r h = removed n s.watching h

  handled : (me : Pid) (s : ProcessState) (a : Pid) (x : Signal) → IsClosed s → IsClosed (handle me s a x).state
  handled me s a (Signal.Exit r) h = obeyed (verdict false s.traps (same_pid a me) a r) s h
  handled me s a (LinkExit ids r) h = exited (holds_any (held s.links a) ids) me s a r h
  handled me s a (Signal.Down n r) h = downed (lookup (same_ref n) s.watching) s a n r h
  handled me s a _ h = h

  said : (w : Pid) (s : ProcessState) (b : Pid) (x : Signal) → makes_ref m (Said w b x) ≡ false → IsClosed s → IsClosed (say s b x)
  said w s b (Monitor k) n h = pushed k b s.watching n h
  said w s b (Demonitor k) n h = removed k s.watching h
  said w s b _ n h = h

  entered : (parent : Option Pid) (link : Option LinkId) (s : ProcessState) → IsClosed s → IsClosed (linked parent link s)
  entered None link s h = h
  entered (Some q) None s h = h
  entered (Some q) (Some i) s h = h

  both : (b : Bool) (f g : Phase) → IsClosed (state_of f) → IsClosed (state_of g) → IsClosed (state_of (cond b f g))
  both true f g h k = h
  both false f g h k = k

  still : (o : Option Reason) (s : ProcessState) → IsClosed s → IsClosed (state_of (live_or_end o s))
  still None s h = h
  still (Some r) s h = h

  changed : (w : Pid) (e : Event) (f : Phase) → makes_ref m e ≡ false → IsClosed (state_of f) → IsClosed (state_of (change w e f))
  changed w (Born q parent link) unborn n h = both (same_pid w q) _ _ (entered parent link fresh h) h
  changed w (Born q parent link) (living s) n h = both (same_pid w q) _ _ h (entered (Some q) link s h)
  changed w (Born q parent link) (ended r s) n h = both (same_pid w q) _ _ h h
  changed w (Said a b x) (living s) n h = said a s b x n h
  changed w (Came a b x) (living s) n h = still (handle w s a x).ending (handle w s a x).state (handled w s a x h)
  changed w _ unborn n h = h
  changed w _ (ended r s) n h = h
  changed w _ (living s) n h = h

  pub unmade_closed : (start : Start) (past : Past) (w : Pid) → IsClosed (state start [] w) → made_ref past m ≡ false → IsClosed (state start past w)
  unmade_closed start [] w c h = c
  unmade_closed start (e ∷ past) w c h =
      let k = or_parts (makes_ref m e) (made_ref past m) h in
      let ih = unmade_closed start past w c k.1 in
      both (touches w e) (change w e (life start past w)) (life start past w) (changed w e (life start past w) k.0 ih) ih

  -- a reference that is open nowhere, since it is newer than all that are
  pub count_closed : (l : List (Ref × Pid)) → count (λ e. same_ref m e.0) l ≡ 0 → lookup (same_ref m) l ≡ None
  count_closed [] h = refl
  count_closed (k ∷ l) h = go (same_ref m k.0) refl (count_closed l)
    where
      go : (b : Bool) → same_ref m k.0 ≡ b → (count (λ e. same_ref m e.0) l ≡ 0 → lookup (same_ref m) l ≡ None) → lookup (same_ref m) (k ∷ l) ≡ None
      go true e ih = let z : one_if true + count (λ e. same_ref m e.0) l ≡ 0 = rw e at h in absurd (omega arith)
      go false e ih = let z : one_if false + count (λ e. same_ref m e.0) l ≡ 0 = rw e at h in rw e (ih (omega arith))

-- who sees the event -------------------------------------------------------------------------------

pub may_show : (start : Start) (desk : ℕ) (old : Slots) (past : Past) (e : Event) (t : Pid) → t.shard ≡ desk → touches t e ≡ true → Few old
    → (is_unborn (life start past t) ≡ false → MayMeet t (life start past t) e) → AreTold start desk old past → MayShow old t e
may_show start desk old past e t home own few meets told = go (life_at old t.slot t.version) (few t.slot t.version) (told_at start desk old past t told home)
  where
    go : (o : Option LifeState) → IfSome o (λ l. l.taken + 1 < 2 ^ 64) → TableTells start past t o → IfSome o (MaySee e)
    go None f h = tt
    go (Some l) f h =
        let own_pid : l.pid ≡ t = ap (λ (l : LifeState). l.pid) h.0 in
        let phase : l.phase ≡ life start past t = ap (λ (l : LifeState). l.phase) h.0 in
        record { own = subst (λ p. touches p e ≡ true) (sym own_pid) own; may = subst (λ p. MayMeet p l.phase e) (sym own_pid) (subst (λ f. MayMeet t f e) (sym phase) (meets h.1)); few = f }

meet_living : (p : Pid) (e : Event) (f : Phase) → is_living f ≡ true → ((s : ProcessState) → f ≡ living s → MayDo p s e) → MayMeet p f e
meet_living p e unborn h k = absurd (false≢true h)
meet_living p e (living s) h k = k s refl
meet_living p e (ended r s) h k = absurd (false≢true h)

pub meet_said : (start : Start) (past : Past) (a b : Pid) (x : Signal) → alive start past a ≡ true → IsAnew x (state start past a) → MayMeet a (life start past a) (Said a b x)
meet_said start past a b x h anew = meet_living a (Said a b x) (life start past a) h (λ s e. subst (IsAnew x) (ap state_of e) anew)

meet_came : (a b : Pid) (x : Signal) (f : Phase) → is_unborn f ≡ false → MayMeet b f (Came a b x)
meet_came a b x unborn h = absurd (true≢false h)
meet_came a b x (living s) h = tt
meet_came a b x (ended r s) h = tt

-- the next version ---------------------------------------------------------------------------------

none_past : {X : Type 0} (xs : List X) (k : ℕ) → slice_get xs k ≡ None → length xs ≤ k
none_past [] k h = omega arith
none_past (x ∷ xs) zero h = absurd (cc)
none_past (x ∷ xs) (suc k) h = let l = none_past xs k h in omega arith

version_next : (lives : List LifeState) (v : ℕ) → 0 < v → of_version lives v ≡ None → (1 < v → of_version lives (pred v) ≡ None → ⊥) → v ≡ length lives + 1
version_next lives zero p h k = absurd (omega arith)
version_next lives (suc zero) p h k = let l = none_past lives 0 h in omega arith
version_next lives (suc (suc v)) p h k =
    let l = none_past lives (suc v) h in
    omega (arith, least l)
  where
    least : length lives ≤ suc v → v + 1 ≤ length lives
    least l = elim (cases_lt v (length lives)) [ inl e ↦ omega arith | inr e ↦ absurd (k (omega arith) (slice_get-past lives v e)) ]

not_unborn : (f : Phase) → is_ended f ≡ true → f ≡ unborn → ⊥
not_unborn f h e = let k : is_ended f ≡ false = ap is_ended e in both_ways _ k h

has_ended : (lives : List LifeState) → ((l : LifeState) → of_version lives (length lives) ≡ Some l → LifeIsOver l) → HasEnded lives
has_ended [] h = tt
has_ended (l ∷ []) h = h l refl
has_ended (l ∷ m ∷ lives) h = has_ended (m ∷ lives) (λ x e. h x e)

some_version : (lives : List LifeState) (l : LifeState) → of_version lives (length lives) ≡ Some l → 0 < length lives
some_version [] l e = absurd (cc)
some_version (x ∷ lives) l e = omega arith

module _ (start : Start) (desk : ℕ) (old : Slots) (past : Past) (q : Pid) (home : q.shard ≡ desk) (u : life start past q ≡ unborn) (pos : 0 < q.version)
    (before : 1 < q.version → is_ended (life start past (record q { version = pred q.version })) ≡ true) (told : AreTold start desk old past) where
  abbrev one : Pid
  one = record { shard = q.shard; slot = q.slot; version = pred q.version }

  next_version : q.version ≡ length (slot_at old q.slot) + 1
  next_version =
      version_next (slot_at old q.slot) q.version pos (none_unborn start past q (life_at old q.slot q.version) (told_at start desk old past q told home) u).0
      (λ l none. not_unborn (life start past one) (before l) (subst (TableTells start past one) none (told_at start desk old past one told home)).0)

  -- the last of the slot has ended
  last_over : HasEnded (slot_at old q.slot)
  last_over = has_ended (slot_at old q.slot) over
    where
      over : (l : LifeState) → of_version (slot_at old q.slot) (length (slot_at old q.slot)) ≡ Some l → LifeIsOver l
      over l some =
          let n = next_version in
          let k = some_version (slot_at old q.slot) l some in
          let num : pred q.version ≡ length (slot_at old q.slot) = omega arith in
          let h : TableTells start past one (Some l) = subst (TableTells start past one) (ap (of_version (slot_at old q.slot)) num ∙ some) (told_at start desk old past one told home) in
          ap (λ (l : LifeState). is_ended l.phase) h.0 ∙ before (omega arith)

  pub next_of_slot : IsNextOf q (slot_at old q.slot)
  next_of_slot = record {
    next = next_version;
    placed = subst (λ d. AreVersions d q.slot 1 (slot_at old q.slot)) (sym home) (slot_versions start desk old past q.slot told);
    over = last_over;
  }

-- all events ---------------------------------------------------------------------------------------

takes_alive : (start : Start) (past : Past) (p q : Pid) (k : Pick) (i : Item) → alive start past q ≡ true → life start past p ≡ unborn → taken_by p (Took q k i) ≡ []
takes_alive start past p q k i a u = go (same_pid p q) refl
  where
    go : (b : Bool) → same_pid p q ≡ b → cond (same_pid p q) (i ∷ []) [] ≡ []
    go false e = rw e refl
    go true e =
        let k : q ≡ p = sym (same_pid_is p q e) in
        let z : alive start past q ≡ false = ap is_living (ap (life start past) k ∙ u) in
        absurd (both_ways _ z a)

module _ (start : Start) (desk : ℕ) (past : Past) where
  lives : (t : Pid) (link : Option LinkId) → MayBear start past (Some t) link → alive start past t ≡ true
  lives t None m = m
  lives t (Some i) m = m.0

  -- a parent is none that is unborn
  other : (q t : Pid) → life start past q ≡ unborn → alive start past t ≡ true → (b : Bool) → same_pid t q ≡ b → same_pid t q ≡ false
  other q t u a false e = e
  other q t u a true e =
      let k : t ≡ q = same_pid_is t q e in
      let z : alive start past t ≡ false = ap is_living (ap (life start past) k ∙ u) in
      absurd (both_ways _ z a)

  parted : (q : Pid) (parent : Option Pid) (link : Option LinkId) → q.shard ≡ desk → IsOf desk parent → life start past q ≡ unborn → MayBear start past parent link → IsApart q parent
  parted q None link home hp u may = tt
  parted q (Some t) link home hp u may = place_other q t (home ∙ sym hp) (other q t u (lives t link may) (same_pid t q) refl)

module _ (start : Start) (top desk : ℕ) (old : Slots) (past : Past) (few : Few old) (told : AreTold start desk old past) where
  parents : (q : Pid) (parent : Option Pid) (link : Option LinkId) → q.shard ≡ desk → IsOf desk parent → life start past q ≡ unborn → MayBear start past parent link → may_show_parent old parent q (Born q parent link)
  parents q None link hq home u may = tt
  parents q (Some t) link hq home u may = (
    may_show start desk old past (Born q (Some t) link) t home (touched (same_pid t q)) few
        (λ b. meet_living t (Born q (Some t) link) (life start past t) (lives start desk past t link may) (λ s e. other start desk past q t u (lives start desk past t link may) (same_pid t q) refl))
        told,
    parted start desk past q (Some t) link hq home u may,
  )
    where
      touched : (b : Bool) → (b || same_pid t t) ≡ true
      touched true = refl
      touched false = same_pid_refl t

  pub may_observe : (e : Event) → IsHome desk e → MayHere start past e → IsKnown start desk top past e → IsAnewAfter start past e → MayObserve old e
  may_observe (Born q parent link) home may known anew =
      (parents q parent link home.0 home.1 may.0 may.1, next_of_slot start desk old past q home.0 may.0 known.0 known.2 told)
  may_observe (Said a b x) home may known anew = may_show start desk old past (Said a b x) a home (same_pid_refl a) few (λ u. meet_said start past a b x may.0 anew) told
  may_observe (Came a b x) home may known anew = may_show start desk old past (Came a b x) b home (same_pid_refl b) few (λ u. meet_came a b x (life start past b) u) told
  may_observe (Took q k i) home may known anew = may_show start desk old past (Took q k i) q home (same_pid_refl q) few (λ u. meet_living q (Took q k i) (life start past q) may.0 (λ s e. tt)) told
  may_observe (Flag q on) home may known anew = may_show start desk old past (Flag q on) q home (same_pid_refl q) few (λ u. meet_living q (Flag q on) (life start past q) may (λ s e. tt)) told
  may_observe (Left q r) home may known anew = may_show start desk old past (Left q r) q home (same_pid_refl q) few (λ u. meet_living q (Left q r) (life start past q) may (λ s e. tt)) told
  may_observe _ home may known anew = tt

-- what the table tells afterwards
module _ (start : Start) (desk : ℕ) (old new : Slots) (past : Past) (told : AreTold start desk old past) where
  moved : (e : Event) → ((p : Pid) → change p e unborn ≡ unborn) → ((p : Pid) → life start past p ≡ unborn → taken_by p e ≡ []) → (p : Pid) → Unmoved start past p e
  moved e h t p u = (each_branch (λ f. f ≡ unborn) (touches p e) _ _ (h p) refl, t p u)

  pub told_next : (e : Event) → IsHome desk e → MayHere start past e → Observes e old new → AreTold start desk new (e ∷ past)
  told_next (Born q parent link) home may h =
      told_born start desk old h.0 new past q parent link home.0 (parted start desk past q parent link home.0 home.1 may.0 may.1) may.0 h.1 h.2 told
  told_next (Said a b x) home may h = told_changed start desk old new past (Said a b x) a (λ p. refl) (moved (Said a b x) (λ p. refl) (λ p u. refl)) h told
  told_next (Came a b x) home may h = told_changed start desk old new past (Came a b x) b (λ p. refl) (moved (Came a b x) (λ p. refl) (λ p u. refl)) h told
  told_next (Took q k i) home may h = told_changed start desk old new past (Took q k i) q (λ p. refl) (moved (Took q k i) (λ p. refl) (λ p u. takes_alive start past p q k i may.0 u)) h told
  told_next (Flag q on) home may h = told_changed start desk old new past (Flag q on) q (λ p. refl) (moved (Flag q on) (λ p. refl) (λ p u. refl)) h told
  told_next (Left q r) home may h = told_changed start desk old new past (Left q r) q (λ p. refl) (moved (Left q r) (λ p. refl) (λ p u. refl)) h told
  told_next (Refused a b) home may h =
      all_told start desk new (Refused a b ∷ past) (λ p s. subst (λ (z : Slots). TableTells start (Refused a b ∷ past) p (life_at z p.slot p.version)) (sym h)
      (tells_still start past p (Refused a b) (life_at old p.slot p.version) refl (told_at start desk old past p told s)))
