-- What there is to forget, slot by slot.
use Rattle.std.proofs.Common.{◌≡◌, ℕ, zero, suc, ◌+◌, ◌<◌, ◌≤◌, ◌==◌, ◌&&◌, Bool, true, false, cond, Option, Some, None, List, [], ◌∷◌, ◌++◌, map, length, set, get_or, slice_get, refl, ap, sym, ◌∙◌, subst, arith, ◌⊎◌, inl, inr}
use Rattle.std.specs.Prelude.{⊤}
use Rattle.std.specs.List.{Contains}
use Rattle.std.specs.Option.{option_map}
use Rattle.std.proofs.lemmas.Bool.{eqb-true, eq-eqb}
use Rattle.std.proofs.lemmas.List.{length-map, get_or_read}
use Rattle.std.proofs.lemmas.List.Elements.{Contains-push_cases}
use Rattle.pt_signal.specs.declared.pid.Pid.{Pid}
use Rattle.pt_signal.specs.declared.signal.Signal.{Signal}
use Rattle.pt_signal.specs.declared.signal.Signal.TheVariants.{Message}
use Rattle.pt_signal.specs.Process.{ProcessState}
use Rattle.pt_signal.specs.Values.{same_pid}
use Rattle.pt_events.specs.declared.event.Event.{Event}
use Rattle.pt_events.specs.declared.event.Event.TheVariants.{Born, Said, Came, Took, Flag, Left, Refused}
use Rattle.pt_events.specs.History.{Phase, unborn, living, ended, after, change, touches}
use Rattle.pt_events.specs.Leaving.{outcome}
use Rattle.pt_events.specs.Forgetting.{reasonless}
use Rattle.pt_events.specs.Takes.{taken_by}
use Rattle.pt_events.proofs.Phases.{after_ended, each_branch}
use Rattle.pt_accounts.specs.LifeState.{LifeState}
use Rattle.pt_accounts.specs.DeskLives.{forgotten, bare}
use Rattle.pt_accounts.specs.Table.{Slots, of_version, slot_at, life_at}
use Rattle.pt_accounts.specs.Steps.{is_life_of, ChangesLife, PutsLife, changes_parent, Observes, AreAlike, life_after}
use Rattle.pt_accounts.specs.Changed.{AreForgotten, CameIsNoted, SlotIsNoted, OthersAreForgotten}
use Rattle.pt_accounts.proofs.Forgetting.{get_map, slot_map}
use Rattle.pt_accounts.proofs.Places.{slot_at-past, slot_at-set}

-- forgetting once more changes nothing -------------------------------------------------------------

outcome_once : (f : Phase) → outcome (outcome f) ≡ outcome f
outcome_once unborn = refl
outcome_once (living s) = refl
outcome_once (ended r s) = refl

outcome_bare : (f : Phase) → outcome (reasonless f) ≡ reasonless f
outcome_bare unborn = refl
outcome_bare (living s) = refl
outcome_bare (ended r s) = refl

-- of this process there is nothing to forget, if there is one
abbrev IsForgotten : Option LifeState → Type 0
IsForgotten o = option_map forgotten o ≡ o

pub forgets_once : (lives : List LifeState) → map forgotten (map forgotten lives) ≡ map forgotten lives
forgets_once [] = refl
forgets_once (l ∷ lives) = rw (outcome_once l.phase, forgets_once lives) refl

forgets_are : (lives : List LifeState) → AreForgotten (map forgotten lives)
forgets_are lives v = subst IsForgotten (sym (get_map forgotten lives v)) (go (of_version lives v))
  where
    go : (o : Option LifeState) → IsForgotten (option_map forgotten o)
    go None = refl
    go (Some l) = rw (outcome_once l.phase) refl

bare_are : (lives : List LifeState) → AreForgotten (map bare lives)
bare_are lives v = subst IsForgotten (sym (get_map bare lives v)) (go (of_version lives v))
  where
    go : (o : Option LifeState) → IsForgotten (option_map bare o)
    go None = refl
    go (Some l) = rw (outcome_bare l.phase) refl

pub forgotten_others : (changed : List ℕ) (slots : Slots) → OthersAreForgotten changed (map (λ lives. map forgotten lives) slots)
forgotten_others changed slots s = inr (subst AreForgotten (sym (slot_map forgotten slots s)) (forgets_are (slot_at slots s)))

pub bare_others : (changed : List ℕ) (slots : Slots) → OthersAreForgotten changed (map (λ lives. map bare lives) slots)
bare_others changed slots s = inr (subst AreForgotten (sym (slot_map bare slots s)) (bare_are (slot_at slots s)))

-- once nothing is left to forget, each slot has what forgetting left of it ---------------------------

same_items : {X : Type 0} (xs ys : List X) → ((k : ℕ) → slice_get xs k ≡ slice_get ys k) → xs ≡ ys
same_items [] [] h = refl
same_items [] (y ∷ ys) h = let e = h 0 in cc
same_items (x ∷ xs) [] h = let e = h 0 in cc
same_items (x ∷ xs) (y ∷ ys) h = let first = h 0 in let rest : xs ≡ ys = same_items xs ys (λ k. h (suc k)) in cc

forgets_none : (lives : List LifeState) → AreForgotten lives → map forgotten lives ≡ lives
forgets_none lives h = same_items (map forgotten lives) lives (λ k. get_map forgotten lives (suc k) ∙ h (suc k))

same_slots : (xs ys : Slots) → length xs ≡ length ys → ((s : ℕ) → slot_at xs s ≡ slot_at ys s) → xs ≡ ys
same_slots [] [] n h = refl
same_slots [] (y ∷ ys) n h = absurd (omega arith)
same_slots (x ∷ xs) [] n h = absurd (omega arith)
same_slots (x ∷ xs) (y ∷ ys) n h = let first = h 0 in let rest : xs ≡ ys = same_slots xs ys (omega arith) (λ s. h (suc s)) in cc

pub all_forgot : (old new : Slots) → length new ≡ length old → ((s : ℕ) → map forgotten (slot_at new s) ≡ map forgotten (slot_at old s)) → ((s : ℕ) → AreForgotten (slot_at new s))
    → new ≡ map (λ lives. map forgotten lives) old
all_forgot old new n same none =
    same_slots new (map (λ lives. map forgotten lives) old) (n ∙ sym (length-map old (λ lives. map forgotten lives)))
    (λ s. sym (forgets_none (slot_at new s) (none s)) ∙ same s ∙ sym (slot_map forgotten old s))

-- events that leave nothing to forget --------------------------------------------------------------

-- such an event ends nobody, and takes nothing
abbrev LeavesNothing : Event → Type 0
LeavesNothing (Came a b (Message body)) = ⊤
LeavesNothing (Came a b x) = ⊥
LeavesNothing (Took p k i) = ⊥
LeavesNothing (Left p r) = ⊥
LeavesNothing _ = ⊤

took_nothing : (p : Pid) (e : Event) → LeavesNothing e → taken_by p e ≡ []
took_nothing p (Took q k i) h = absurd h
took_nothing p _ h = refl

change_unborn : (p : Pid) (e : Event) → LeavesNothing e → outcome (change p e unborn) ≡ change p e unborn
change_unborn p (Born q parent link) h = each_branch (λ f. outcome f ≡ f) (same_pid p q) _ _ refl refl
change_unborn p _ h = refl

change_living : (p : Pid) (e : Event) (s : ProcessState) → LeavesNothing e → outcome (change p e (living s)) ≡ change p e (living s)
change_living p (Born q parent link) s h = each_branch (λ f. outcome f ≡ f) (same_pid p q) _ _ refl refl
change_living p (Came a b (Message body)) s h = refl
change_living p (Came a b _) s h = absurd h
change_living p (Took q k i) s h = absurd h
change_living p (Left q r) s h = absurd h
change_living p _ s h = refl

stays_forgotten : (p : Pid) (e : Event) (f : Phase) → LeavesNothing e → outcome f ≡ f → outcome (after p e f) ≡ after p e f
stays_forgotten p e unborn h k = each_branch (λ f. outcome f ≡ f) (touches p e) _ _ (change_unborn p e h) refl
stays_forgotten p e (living s) h k = each_branch (λ f. outcome f ≡ f) (touches p e) _ _ (change_living p e s h) refl
stays_forgotten p e (ended r s) h k = rw (after_ended p e r s) k

abbrev life_of : Pid → Phase → ℕ → LifeState
life_of p f n = record { pid = p; phase = f; taken = n }

same_life : (p : Pid) (f g : Phase) (n m : ℕ) → f ≡ g → n ≡ m → life_of p f n ≡ life_of p g m
same_life p f g n m a b = cc

life_stays : (e : Event) (o : Option LifeState) → LeavesNothing e → IsForgotten o → IsForgotten (option_map (life_after e) o)
life_stays e None h k = refl
life_stays e (Some l) h k =
    let was : forgotten l ≡ l = cc in
    let phase = stays_forgotten l.pid e l.phase h (ap (λ (z : LifeState). z.phase) was) in
    let none : 0 ≡ l.taken = ap (λ (z : LifeState). z.taken) was in
    let took : length (taken_by l.pid e) ≡ 0 = ap length (took_nothing l.pid e h) in
    let taken : 0 ≡ l.taken + length (taken_by l.pid e) = omega arith in
    ap Some (same_life l.pid (outcome (after l.pid e l.phase)) (after l.pid e l.phase) 0 (l.taken + length (taken_by l.pid e)) phase taken)

-- what is left after an event ----------------------------------------------------------------------

pub more_others : (changed more : List ℕ) (slots : Slots) → ((s : ℕ) → Contains changed s → Contains more s) → OthersAreForgotten changed slots → OthersAreForgotten more slots
more_others changed more slots stays others s = go (others s)
  where
    go : Contains changed s ⊎ AreForgotten (slot_at slots s) → Contains more s ⊎ AreForgotten (slot_at slots s)
    go (inl c) = inl (stays s c)
    go (inr f) = inr f

pub alike_others : (changed : List ℕ) (old new : Slots) → AreAlike old new → OthersAreForgotten changed old → OthersAreForgotten changed new
alike_others changed old new same others s = go (others s)
  where
    go : Contains changed s ⊎ AreForgotten (slot_at old s) → Contains changed s ⊎ AreForgotten (slot_at new s)
    go (inl c) = inl c
    go (inr f) = inr (subst AreForgotten (sym (same s)) f)

-- of what was forgotten before all is forgotten after
each_stays : (changed : List ℕ) (old new : Slots) → ((s v : ℕ) → IsForgotten (life_at old s v) → IsForgotten (life_at new s v)) → OthersAreForgotten changed old → OthersAreForgotten changed new
each_stays changed old new stays others s = go (others s)
  where
    go : Contains changed s ⊎ AreForgotten (slot_at old s) → Contains changed s ⊎ AreForgotten (slot_at new s)
    go (inl c) = inl c
    go (inr f) = inr (λ v. stays s v (f v))

mild_others : (changed : List ℕ) (p : Pid) (e : Event) (old new : Slots) → LeavesNothing e → ChangesLife p (life_after e) old new → OthersAreForgotten changed old → OthersAreForgotten changed new
mild_others changed p e old new h c =
    each_stays changed old new (λ s v f. subst IsForgotten (sym (c s v)) (each_branch IsForgotten (is_life_of p s v) _ _ (life_stays e (life_at old s v) h f) f))

put_others : (changed : List ℕ) (p : Pid) (l : LifeState) (old new : Slots) → forgotten l ≡ l → PutsLife p l old new → OthersAreForgotten changed old → OthersAreForgotten changed new
put_others changed p l old new h c = each_stays changed old new (λ s v f. subst IsForgotten (sym (c s v)) (each_branch IsForgotten (is_life_of p s v) _ _ (ap Some h) f))

parent_others : (changed : List ℕ) (p : Pid) (parent : Option Pid) (e : Event) (old new : Slots) → LeavesNothing e → changes_parent parent e old new → OthersAreForgotten changed old
    → OthersAreForgotten changed new
parent_others changed p None e old new h c = each_stays changed old new (λ s v f. subst IsForgotten (sym (c s v)) f)
parent_others changed p (Some q) e old new h c = mild_others changed q e old new h c

-- the slot of p is in the list, and no other has changed
noted_others : (changed : List ℕ) (p : Pid) (f : LifeState → LifeState) (old new : Slots) → Contains changed p.slot → ChangesLife p f old new → OthersAreForgotten changed old → OthersAreForgotten changed new
noted_others changed p f old new noted c others s = go (p.slot == s) refl (others s)
  where
    go : (b : Bool) → (p.slot == s) ≡ b → Contains changed s ⊎ AreForgotten (slot_at old s) → Contains changed s ⊎ AreForgotten (slot_at new s)
    go true e o = inl (subst (Contains changed) (eqb-true p.slot s e) noted)
    go false e (inl c) = inl c
    go false e (inr h) = inr (λ v. subst IsForgotten (sym (c s v ∙ ap (λ b. cond (b && (p.version == v)) (option_map f (life_at old s v)) (life_at old s v)) e)) (h v))

came_others : (changed : List ℕ) (a b : Pid) (x : Signal) (old new : Slots) → CameIsNoted b x changed → ChangesLife b (life_after (Came a b x)) old new → OthersAreForgotten changed old
    → OthersAreForgotten changed new
came_others changed a b (Message body) old new noted c = mild_others changed b (Came a b (Message body)) old new tt c
came_others changed a b x old new noted c = noted_others changed b (life_after (Came a b x)) old new noted c

pub observed_others : (changed : List ℕ) (e : Event) (old new : Slots) → SlotIsNoted e changed → Observes e old new → OthersAreForgotten changed old → OthersAreForgotten changed new
observed_others changed (Born p parent link) old new noted o others = parent_others changed p parent (Born p parent link) o.0 new tt o.2 (put_others changed p _ old o.0 refl o.1 others)
observed_others changed (Said a b x) old new noted o others = mild_others changed a (Said a b x) old new tt o others
observed_others changed (Came a b x) old new noted o others = came_others changed a b x old new noted o others
observed_others changed (Took p k i) old new noted o others = noted_others changed p (life_after (Took p k i)) old new noted o others
observed_others changed (Flag p on) old new noted o others = mild_others changed p (Flag p on) old new tt o others
observed_others changed (Left p r) old new noted o others = noted_others changed p (life_after (Left p r)) old new noted o others
observed_others changed (Refused a b) old new noted o others = subst (OthersAreForgotten changed) (sym o) others

-- one slot is forgotten ----------------------------------------------------------------------------

module _ (slots : Slots) (k : ℕ) (x y : List LifeState) (within : k < length slots) (here : x ≡ get_or slots k x) (is : y ≡ map forgotten x) where
  written : (s : ℕ) → slot_at (set slots k y) s ≡ cond (k == s) y (slot_at slots s)
  written s = slot_at-set slots k s y within

  was : (s : ℕ) → (k == s) ≡ true → slot_at slots s ≡ x
  was s e = subst (λ n. slot_at slots n ≡ x) (eqb-true k s e) (sym (get_or_read slots k x within here []))

  once : AreForgotten y
  once = subst AreForgotten (sym is) (forgets_are x)

  pub forgot_same : (s : ℕ) → map forgotten (slot_at (set slots k y) s) ≡ map forgotten (slot_at slots s)
  forgot_same s = ap (map forgotten) (written s) ∙ go (k == s) refl
    where
      go : (b : Bool) → (k == s) ≡ b → map forgotten (cond b y (slot_at slots s)) ≡ map forgotten (slot_at slots s)
      go true e = ap (map forgotten) is ∙ forgets_once x ∙ ap (map forgotten) (sym (was s e))
      go false e = refl

  pub forgot_others : (changed rest : List ℕ) → changed ≡ rest ++ k ∷ [] → OthersAreForgotten changed slots → OthersAreForgotten rest (set slots k y)
  forgot_others changed rest taken others s = go (others s)
    where
      last : Contains rest s ⊎ (k ≡ s) → Contains rest s ⊎ AreForgotten (slot_at (set slots k y) s)
      last (inl c) = inl c
      last (inr e) = inr (subst AreForgotten (sym (written s ∙ ap (λ b. cond b y (slot_at slots s)) (eq-eqb k s e))) once)

      go : Contains changed s ⊎ AreForgotten (slot_at slots s) → Contains rest s ⊎ AreForgotten (slot_at (set slots k y) s)
      go (inl c) = last (Contains-push_cases rest k s (subst (λ (xs : List ℕ). Contains xs s) taken c))
      go (inr f) = inr (subst AreForgotten (sym (written s)) (each_branch AreForgotten (k == s) y (slot_at slots s) once f))

-- the table has no such slot
pub past_others : (slots : Slots) (k : ℕ) (changed rest : List ℕ) → length slots ≤ k → changed ≡ rest ++ k ∷ [] → OthersAreForgotten changed slots → OthersAreForgotten rest slots
past_others slots k changed rest past taken others s = go (others s)
  where
    none : AreForgotten []
    none zero = refl
    none (suc v) = refl

    last : Contains rest s ⊎ (k ≡ s) → Contains rest s ⊎ AreForgotten (slot_at slots s)
    last (inl c) = inl c
    last (inr e) = inr (subst (λ i. AreForgotten (slot_at slots i)) e (subst AreForgotten (sym (slot_at-past slots k past)) none))

    go : Contains changed s ⊎ AreForgotten (slot_at slots s) → Contains rest s ⊎ AreForgotten (slot_at slots s)
    go (inl c) = last (Contains-push_cases rest k s (subst (λ (xs : List ℕ). Contains xs s) taken c))
    go (inr f) = inr f

-- nothing is left in the list
pub none_left : (slots : Slots) → OthersAreForgotten [] slots → (s : ℕ) → AreForgotten (slot_at slots s)
none_left slots others s = go (others s)
  where
    go : Contains [] s ⊎ AreForgotten (slot_at slots s) → AreForgotten (slot_at slots s)
    go (inl c) = let n = c.1 in absurd (omega arith)
    go (inr f) = f
