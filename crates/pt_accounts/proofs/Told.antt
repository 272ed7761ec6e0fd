-- What a table tells after one more event.
use Rattle.std.proofs.Common.{◌≡◌, ℕ, ◌==◌, Bool, true, false, cond, Option, Some, None, List, [], ◌∷◌, ◌++◌, length, refl, ap, sym, ◌∙◌, subst, length-append, append-nil}
use Rattle.std.specs.Prelude.{⊤}
use Rattle.std.proofs.lemmas.Bool.{eqb-true, eq-eqb, and_parts, both_ways}
use Rattle.std.specs.Option.{option_map}
use Rattle.pt_signal.specs.declared.pid.Pid.{Pid}
use Rattle.pt_signal.specs.declared.ids.LinkId.{LinkId}
use Rattle.pt_signal.specs.Values.{same_pid}
use Rattle.pt_signal.proofs.Same.{same_pid_is, same_pid_refl}
use Rattle.pt_events.specs.declared.event.Event.{Event}
use Rattle.pt_events.specs.declared.event.Event.TheVariants.{Born, Took}
use Rattle.pt_events.specs.History.{Past, Start, unborn, life, after, change, newborn, touches, is_unborn}
use Rattle.pt_events.specs.Takes.{taken, taken_by}
use Rattle.pt_events.proofs.Phases.{after_born, each_branch}
use Rattle.pt_accounts.specs.LifeState.{LifeState}
use Rattle.pt_accounts.specs.Table.{Slots, of_version, life_at, found, TableTells, AreTold}
use Rattle.pt_accounts.specs.Steps.{is_life_of, ChangesLife, PutsLife, changes_parent, Observes, AreAlike, life_after}

-- one pid -------------------------------------------------------------------------------------

-- where p is unborn, the event leaves it so, and it takes nothing
abbrev pub Unmoved : Start → Past → Pid → Event → Type 0
Unmoved start past p e = life start past p ≡ unborn → (after p e unborn ≡ unborn) × (taken_by p e ≡ [])

pub untaken : (p : Pid) (e : Event) → touches p e ≡ false → taken_by p e ≡ []
untaken p (Took q k i) h = rw h refl
untaken p _ h = refl

-- it saw the event
pub tells_seen : (start : Start) (past : Past) (p : Pid) (e : Event) (o : Option LifeState) → Unmoved start past p e → TableTells start past p o → TableTells start (e ∷ past) p (option_map (life_after e) o)
tells_seen start past p e None u h = let k = u h.0 in (ap (after p e) h.0 ∙ k.0, ap (λ z. taken past p ++ z) k.1 ∙ append-nil _ ∙ h.1)
tells_seen start past p e (Some l) u h =
    (ap (life_after e) h.0 ∙ ap (λ n. record { pid = p; phase = life start (e ∷ past) p; taken = n }) (sym (length-append (taken past p) (taken_by p e))), after_born p e (life start past p) h.1)

-- the event is none of its own
pub tells_still : (start : Start) (past : Past) (p : Pid) (e : Event) (o : Option LifeState) → touches p e ≡ false → TableTells start past p o → TableTells start (e ∷ past) p o
tells_still start past p e o t = go o
  where
    lives : life start (e ∷ past) p ≡ life start past p
    lives = ap (λ b. cond b (change p e (life start past p)) (life start past p)) t

    took : taken (e ∷ past) p ≡ taken past p
    took = ap (λ z. taken past p ++ z) (untaken p e t) ∙ append-nil (taken past p)

    go : (o : Option LifeState) → TableTells start past p o → TableTells start (e ∷ past) p o
    go None h = (lives ∙ h.0, took ∙ h.1)
    go (Some l) h =
        (h.0 ∙ ap (λ f. record { pid = p; phase = f; taken = length (taken past p) }) (sym lives) ∙ ap (λ t. record { pid = p; phase = life start (e ∷ past) p; taken = length t }) (sym took), ap is_unborn lives ∙ h.1)

-- one place -----------------------------------------------------------------------------------

place_true : (p t : Pid) → t.shard ≡ p.shard → is_life_of t p.slot p.version ≡ true → same_pid p t ≡ true
place_true p t s h =
    let k = and_parts (t.slot == p.slot) (t.version == p.version) h in
    let a : t.slot ≡ p.slot = eqb-true t.slot p.slot k.0 in
    let b : t.version ≡ p.version = eqb-true t.version p.version k.1 in
    rw (eq-eqb p.shard t.shard (sym s), eq-eqb p.slot t.slot (sym a), eq-eqb p.version t.version (sym b)) refl

place_false : (p t : Pid) → is_life_of t p.slot p.version ≡ false → same_pid p t ≡ false
place_false p t h = go (same_pid p t) refl
  where
    go : (b : Bool) → same_pid p t ≡ b → same_pid p t ≡ false
    go false e = e
    go true e =
        let k : p ≡ t = same_pid_is p t e in
        let z : is_life_of t p.slot p.version ≡ true = subst (λ q. is_life_of t q.slot q.version ≡ true) (sym k) (rw (eq-eqb t.slot t.slot refl, eq-eqb t.version t.version refl) refl) in
        absurd (both_ways _ h z)

pub place_other : (q t : Pid) → q.shard ≡ t.shard → same_pid t q ≡ false → is_life_of q t.slot t.version ≡ false
place_other q t s n = go (is_life_of q t.slot t.version) refl
  where
    go : (b : Bool) → is_life_of q t.slot t.version ≡ b → is_life_of q t.slot t.version ≡ false
    go false e = e
    go true e = let z : same_pid t q ≡ true = place_true t q s e in absurd (both_ways _ n z)

place_self : (q : Pid) → is_life_of q q.slot q.version ≡ true
place_self q = rw (eq-eqb q.slot q.slot refl, eq-eqb q.version q.version refl) refl

pub found_here : (desk : ℕ) (slots : Slots) (p : Pid) → p.shard ≡ desk → found desk slots p ≡ life_at slots p.slot p.version
found_here desk slots p h = rw (eq-eqb p.shard desk h) refl

-- the event is t's own, and p is told of
tells_changed : (start : Start) (old new : Slots) (past : Past) (e : Event) (t p : Pid) → touches p e ≡ same_pid p t → Unmoved start past p e → ChangesLife t (life_after e) old new
    → TableTells start past p (life_at old p.slot p.version) → TableTells start (e ∷ past) p (life_at new p.slot p.version)
tells_changed start old new past e t p own u c h = go (is_life_of t p.slot p.version) refl
  where
    was : (b : Bool) → is_life_of t p.slot p.version ≡ b → life_at new p.slot p.version ≡ cond b (option_map (life_after e) (life_at old p.slot p.version)) (life_at old p.slot p.version)
    was b k = c p.slot p.version ∙ ap (λ b. cond b (option_map (life_after e) (life_at old p.slot p.version)) (life_at old p.slot p.version)) k

    go : (b : Bool) → is_life_of t p.slot p.version ≡ b → TableTells start (e ∷ past) p (life_at new p.slot p.version)
    go true k = subst (TableTells start (e ∷ past) p) (sym (was true k)) (tells_seen start past p e (life_at old p.slot p.version) u h)
    go false k = subst (TableTells start (e ∷ past) p) (sym (was false k)) (tells_still start past p e (life_at old p.slot p.version) (own ∙ place_false p t k) h)

-- all pids of the desk ------------------------------------------------------------------------

-- what the table tells of p
pub told_at : (start : Start) (desk : ℕ) (slots : Slots) (past : Past) (p : Pid) → AreTold start desk slots past → p.shard ≡ desk → TableTells start past p (life_at slots p.slot p.version)
told_at start desk slots past p told s = subst (TableTells start past p) (found_here desk slots p s) (told p s)

-- it tells so of each
pub all_told : (start : Start) (desk : ℕ) (slots : Slots) (past : Past) → ((p : Pid) → p.shard ≡ desk → TableTells start past p (life_at slots p.slot p.version)) → AreTold start desk slots past
all_told start desk slots past h p s = subst (TableTells start past p) (sym (found_here desk slots p s)) (h p s)

-- tables that are alike tell the same
pub told_alike : (start : Start) (desk : ℕ) (old new : Slots) (past : Past) → AreAlike old new → AreTold start desk old past → AreTold start desk new past
told_alike start desk old new past same told = all_told start desk new past (λ p s. subst (λ (l : List LifeState). TableTells start past p (of_version l p.version)) (sym (same p.slot)) (told_at start desk old past p told s))

-- the event is no birth, and t's own alone
pub told_changed : (start : Start) (desk : ℕ) (old new : Slots) (past : Past) (e : Event) (t : Pid) → ((p : Pid) → touches p e ≡ same_pid p t) → ((p : Pid) → Unmoved start past p e)
    → ChangesLife t (life_after e) old new → AreTold start desk old past → AreTold start desk new (e ∷ past)
told_changed start desk old new past e t own u c told = all_told start desk new (e ∷ past) (λ p s. tells_changed start old new past e t p (own p) (u p) c (told_at start desk old past p told s))

-- who has no life in the table is unborn, and who is unborn has none
pub none_unborn : (start : Start) (past : Past) (p : Pid) (o : Option LifeState) → TableTells start past p o → life start past p ≡ unborn → (o ≡ None) × (taken past p ≡ [])
none_unborn start past p None h u = (refl, h.1)
none_unborn start past p (Some l) h u = let k : is_unborn (life start past p) ≡ true = ap is_unborn u in absurd (both_ways _ h.1 k)

-- the parent has another place than its child
abbrev pub IsApart : Pid → Option Pid → Type 0
IsApart q None = ⊤
IsApart q (Some t) = is_life_of q t.slot t.version ≡ false

place_turned : (q t : Pid) → is_life_of q t.slot t.version ≡ false → is_life_of t q.slot q.version ≡ false
place_turned q t h = go (is_life_of t q.slot q.version) refl
  where
    go : (b : Bool) → is_life_of t q.slot q.version ≡ b → is_life_of t q.slot q.version ≡ false
    go false e = e
    go true e =
        let k = and_parts (t.slot == q.slot) (t.version == q.version) e in
        let z : is_life_of q t.slot t.version ≡ true = rw (eq-eqb q.slot t.slot (sym (eqb-true t.slot q.slot k.0)), eq-eqb q.version t.version (sym (eqb-true t.version q.version k.1))) refl in
        absurd (both_ways _ h z)

module _ (start : Start) (desk : ℕ) (old mid new : Slots) (past : Past) (q : Pid) (parent : Option Pid) (link : Option LinkId) where
  abbrev born : LifeState
  born = record { pid = q; phase = newborn parent link unborn; taken = 0 }

  abbrev Next : Past
  Next = Born q parent link ∷ past

  put_here : PutsLife q born old mid → life_at mid q.slot q.version ≡ Some born
  put_here puts = puts q.slot q.version ∙ ap (λ b. cond b (Some born) (life_at old q.slot q.version)) (place_self q)

  put_elsewhere : (p : Pid) → p.shard ≡ q.shard → same_pid p q ≡ false → PutsLife q born old mid → life_at mid p.slot p.version ≡ life_at old p.slot p.version
  put_elsewhere p s n puts = apart (is_life_of q p.slot p.version) refl
    where
      apart : (b : Bool) → is_life_of q p.slot p.version ≡ b → life_at mid p.slot p.version ≡ life_at old p.slot p.version
      apart true k = let z : same_pid p q ≡ true = place_true p q (sym s) k in absurd (both_ways _ n z)
      apart false k = puts p.slot p.version ∙ ap (λ b. cond b (Some born) (life_at old p.slot p.version)) k

  -- the child's place stays as it was put
  kept_here : (parent' : Option Pid) → IsApart q parent' → (e : Event) → changes_parent parent' e mid new → life_at new q.slot q.version ≡ life_at mid q.slot q.version
  kept_here None a e c = c q.slot q.version
  kept_here (Some t) a e c = c q.slot q.version ∙ ap (λ b. cond b (option_map (life_after e) (life_at mid q.slot q.version)) (life_at mid q.slot q.version)) (place_turned q t a)

  tells_born : AreTold start desk old past → q.shard ≡ desk → life start past q ≡ unborn → TableTells start Next q (Some born)
  tells_born told home u =
      let none = none_unborn start past q (life_at old q.slot q.version) (told_at start desk old past q told home) u in
      let lives : life start Next q ≡ newborn parent link unborn = rw (same_pid_refl q, u) refl in
      let took : taken Next q ≡ [] = append-nil _ ∙ none.1 in
      (rw (lives, took) refl, rw lives refl)

  tells_other : (parent' : Option Pid) (p : Pid) → same_pid p q ≡ false → changes_parent parent' (Born q parent' link) mid new → TableTells start past p (life_at mid p.slot p.version)
      → TableTells start (Born q parent' link ∷ past) p (life_at new p.slot p.version)
  tells_other None p n c h = subst (TableTells start (Born q None link ∷ past) p) (sym (c p.slot p.version)) (tells_still start past p (Born q None link) (life_at mid p.slot p.version) (rw n refl) h)
  tells_other (Some t) p n c h =
      tells_changed start mid new past (Born q (Some t) link) t p (rw n refl) (λ v. (rw n (each_branch (λ f. f ≡ unborn) (same_pid p t) unborn unborn refl refl), refl)) c h

  pub told_born : q.shard ≡ desk → IsApart q parent → life start past q ≡ unborn → PutsLife q born old mid → changes_parent parent (Born q parent link) mid new → AreTold start desk old past
      → AreTold start desk new Next
  told_born home apart u puts c told = all_told start desk new Next each
    where
      each : (p : Pid) → p.shard ≡ desk → TableTells start Next p (life_at new p.slot p.version)
      each p s = go (same_pid p q) refl
        where
          go : (b : Bool) → same_pid p q ≡ b → TableTells start Next p (life_at new p.slot p.version)
          go true k =
              let same : q ≡ p = sym (same_pid_is p q k) in
              let is : life_at new q.slot q.version ≡ Some born = kept_here parent apart (Born q parent link) c ∙ put_here puts in
              subst (λ (z : Pid). TableTells start Next z (life_at new z.slot z.version)) same (subst (TableTells start Next q) (sym is) (tells_born told home u))
          go false k = tells_other parent p k c (subst (TableTells start past p) (sym (put_elsewhere p (s ∙ sym home) k puts)) (told_at start desk old past p told s))

-- what the code of a birth does -----------------------------------------------------------------

pub observed_born : (old mid new : Slots) (q : Pid) (parent : Option Pid) (link : Option LinkId) (t : Pid) (l : LifeState) → parent ≡ Some t
    → l ≡ record { pid = q; phase = newborn parent link unborn; taken = 0 } → PutsLife q l old mid → ChangesLife t (life_after (Born q (Some t) link)) mid new → Observes (Born q parent link) old new
observed_born old mid new q parent link t l some life puts c =
    (mid, subst (λ z. PutsLife q z old mid) life puts, subst (λ o. changes_parent o (Born q o link) mid new) (sym some) c)
