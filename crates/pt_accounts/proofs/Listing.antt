-- The pids of a table stand in order, and are those that were born.
use Rattle.std.proofs.Common.{◌≡◌, ℕ, zero, suc, ◌+◌, ◌<◌, ◌⊎◌, inl, inr, Option, Some, None, List, [], ◌∷◌, ◌++◌, slice_get, refl, ap, sym, ◌∙◌, subst, arith, false, true}
use Rattle.std.specs.Prelude.{⊤}
use Rattle.std.proofs.lemmas.Bool.{both_ways}
use Rattle.pt_signal.specs.declared.pid.Pid.{Pid}
use Rattle.pt_events.specs.History.{Past, Start, life, is_unborn}
use Rattle.pt_accounts.specs.LifeState.{LifeState}
use Rattle.pt_accounts.specs.Table.{Slots, of_version, slot_at, life_at, TableTells, AreTold}
use Rattle.pt_accounts.specs.SlotState.{AreVersions}
use Rattle.pt_accounts.specs.DeskLives.{pids_of, pids_in}
use Rattle.pt_accounts.specs.Pids.{pid_of_slot, IsBefore, IsBeforeAll, AreRising, IsIn}
use Rattle.pt_accounts.proofs.Told.{told_at}

-- each life has the pid of its place ---------------------------------------------------------------

abbrev Placed : ℕ → ℕ → Slots → Type 0
Placed d s [] = ⊤
Placed d s (lives ∷ slots) = AreVersions d s 1 lives × Placed d (s + 1) slots

versions : (d s v : ℕ) (lives : List LifeState) → ((k : ℕ) (l : LifeState) → slice_get lives k ≡ Some l → l.pid ≡ pid_of_slot d s (v + k)) → AreVersions d s v lives
versions d s v [] h = tt
versions d s v (l ∷ lives) h =
    (h 0 l refl ∙ ap (pid_of_slot d s) (omega arith), versions d s (v + 1) lives (λ k l e. h (suc k) l e ∙ ap (pid_of_slot d s) (omega arith)))

placed : (d s : ℕ) (slots : Slots) → ((i k : ℕ) (l : LifeState) → slice_get (slot_at slots i) k ≡ Some l → l.pid ≡ pid_of_slot d (s + i) (k + 1)) → Placed d s slots
placed d s [] h = tt
placed d s (lives ∷ slots) h = (
  versions d s 1 lives (λ k l e. h 0 k l e ∙ ap (λ n. pid_of_slot d n (k + 1)) (omega arith) ∙ ap (pid_of_slot d s) (omega arith)),
  placed d (s + 1) slots (λ i k l e. h (suc i) k l e ∙ ap (λ n. pid_of_slot d n (k + 1)) (omega arith)),
)

told_place : (start : Start) (d : ℕ) (slots : Slots) (past : Past) → AreTold start d slots past → (i k : ℕ) (l : LifeState) → slice_get (slot_at slots i) k ≡ Some l → l.pid ≡ pid_of_slot d i (k + 1)
told_place start d slots past told i k l e =
    let h = subst (TableTells start past (pid_of_slot d i (suc k))) e (told_at start d slots past (pid_of_slot d i (suc k)) told refl) in
    ap (λ (l : LifeState). l.pid) h.0 ∙ ap (pid_of_slot d i) (omega arith)

told_placed : (start : Start) (d : ℕ) (slots : Slots) (past : Past) → AreTold start d slots past → Placed d 0 slots
told_placed start d slots past told = placed d 0 slots (λ i k l e. told_place start d slots past told i k l e ∙ ap (λ n. pid_of_slot d n (k + 1)) (omega arith))

pub slot_versions : (start : Start) (d : ℕ) (slots : Slots) (past : Past) (s : ℕ) → AreTold start d slots past → AreVersions d s 1 (slot_at slots s)
slot_versions start d slots past s told = versions d s 1 (slot_at slots s) (λ k l e. told_place start d slots past told s k l e ∙ ap (pid_of_slot d s) (omega arith))

-- so they rise --------------------------------------------------------------------------------------

all_before : (p : Pid) (ps qs : List Pid) → IsBeforeAll p ps → IsBeforeAll p qs → IsBeforeAll p (ps ++ qs)
all_before p [] qs h k = k
all_before p (q ∷ ps) qs h k = (h.0, all_before p ps qs h.1 k)

-- a slot's later versions
later_versions : (d s v w : ℕ) (lives : List LifeState) (p : Pid) → p ≡ pid_of_slot d s v → v < w → AreVersions d s w lives → IsBeforeAll p (pids_of lives)
later_versions d s v w [] p e l h = tt
later_versions d s v w (x ∷ lives) p e l h =
    let z : IsBefore (pid_of_slot d s v) (pid_of_slot d s w) = inr (inr (refl, refl, l)) in
    (subst (λ q. IsBefore q x.pid) (sym e) (subst (IsBefore (pid_of_slot d s v)) (sym h.0) z), later_versions d s v (w + 1) lives p e (omega arith) h.1)

later_slot : (d s v t w : ℕ) (lives : List LifeState) (p : Pid) → p ≡ pid_of_slot d s v → s < t → AreVersions d t w lives → IsBeforeAll p (pids_of lives)
later_slot d s v t w [] p e l h = tt
later_slot d s v t w (x ∷ lives) p e l h =
    let z : IsBefore (pid_of_slot d s v) (pid_of_slot d t w) = inr (inl (refl, l)) in
    (subst (λ q. IsBefore q x.pid) (sym e) (subst (IsBefore (pid_of_slot d s v)) (sym h.0) z), later_slot d s v t (w + 1) lives p e l h.1)

later_slots : (d s v t : ℕ) (slots : Slots) (p : Pid) → p ≡ pid_of_slot d s v → s < t → Placed d t slots → IsBeforeAll p (pids_in slots)
later_slots d s v t [] p e l h = tt
later_slots d s v t (lives ∷ slots) p e l h =
    all_before p (pids_of lives) (pids_in slots) (later_slot d s v t 1 lives p e l h.0) (later_slots d s v (t + 1) slots p e (omega arith) h.1)

slot_rises : (d s v : ℕ) (lives : List LifeState) (slots : Slots) → AreVersions d s v lives → Placed d (s + 1) slots → AreRising (pids_in slots) → AreRising (pids_of lives ++ pids_in slots)
slot_rises d s v [] slots h k r = r
slot_rises d s v (x ∷ lives) slots h k r = (
  all_before x.pid (pids_of lives) (pids_in slots) (later_versions d s v (v + 1) lives x.pid h.0 (omega arith) h.1) (later_slots d s v (s + 1) slots x.pid h.0 (omega arith) k),
  slot_rises d s (v + 1) lives slots h.1 k r,
)

placed_rises : (d s : ℕ) (slots : Slots) → Placed d s slots → AreRising (pids_in slots)
placed_rises d s [] h = tt
placed_rises d s (lives ∷ slots) h = slot_rises d s 1 lives slots h.0 h.1 (placed_rises d (s + 1) slots h.1)

pub pids_rise : (start : Start) (d : ℕ) (slots : Slots) (past : Past) → AreTold start d slots past → AreRising (pids_in slots)
pids_rise start d slots past told = placed_rises d 0 slots (told_placed start d slots past told)

-- and are those that were born -----------------------------------------------------------------------

pub in_left : (p : Pid) (ps qs : List Pid) → IsIn p ps → IsIn p (ps ++ qs)
in_left p [] qs h = absurd h
in_left p (q ∷ ps) qs (inl e) = inl e
in_left p (q ∷ ps) qs (inr h) = inr (in_left p ps qs h)

pub in_right : (p : Pid) (ps qs : List Pid) → IsIn p qs → IsIn p (ps ++ qs)
in_right p [] qs h = h
in_right p (q ∷ ps) qs h = inr (in_right p ps qs h)

pub in_either : (p : Pid) (ps qs : List Pid) → IsIn p (ps ++ qs) → IsIn p ps ⊎ IsIn p qs
in_either p [] qs h = inr h
in_either p (q ∷ ps) qs (inl e) = inl (inl e)
in_either p (q ∷ ps) qs (inr h) = elim (in_either p ps qs h) [ inl k ↦ inl (inr k) | inr k ↦ inr k ]

-- a life of the slot
in_slot : (lives : List LifeState) (k : ℕ) (l : LifeState) → slice_get lives k ≡ Some l → IsIn l.pid (pids_of lives)
in_slot [] k l e = absurd (cc)
in_slot (x ∷ lives) zero l e = inl (ap (λ l. l.pid) (sym (some_same x l e)))
  where
    some_same : (x l : LifeState) → Some x ≡ Some l → x ≡ l
    some_same x l e = cc
in_slot (x ∷ lives) (suc k) l e = inr (in_slot lives k l e)

in_slots : (slots : Slots) (i k : ℕ) (l : LifeState) → slice_get (slot_at slots i) k ≡ Some l → IsIn l.pid (pids_in slots)
in_slots [] i k l e = absurd (cc)
in_slots (lives ∷ slots) zero k l e = in_left l.pid (pids_of lives) (pids_in slots) (in_slot lives k l e)
in_slots (lives ∷ slots) (suc i) k l e = in_right l.pid (pids_of lives) (pids_in slots) (in_slots slots i k l e)

of_slot : (lives : List LifeState) (p : Pid) → IsIn p (pids_of lives) → (k : ℕ) × (l : LifeState) × (slice_get lives k ≡ Some l) × (p ≡ l.pid)
of_slot [] p h = absurd h
of_slot (x ∷ lives) p (inl e) = (0, x, refl, e)
of_slot (x ∷ lives) p (inr h) = let r = of_slot lives p h in (suc r.0, r.1, r.2, r.3)

of_slots : (slots : Slots) (p : Pid) → IsIn p (pids_in slots) → (i : ℕ) × (k : ℕ) × (l : LifeState) × (slice_get (slot_at slots i) k ≡ Some l) × (p ≡ l.pid)
of_slots [] p h = absurd h
of_slots (lives ∷ slots) p h =
    elim (in_either p (pids_of lives) (pids_in slots) h) [
      | inl k ↦ let r = of_slot lives p k in (0, r.0, r.1, r.2, r.3)
      | inr k ↦ let r = of_slots slots p k in (suc r.0, r.1, r.2, r.3, r.4)
    ]

pub listed_born : (start : Start) (d : ℕ) (slots : Slots) (past : Past) (p : Pid) → AreTold start d slots past → IsIn p (pids_in slots) → (p.shard ≡ d) × (is_unborn (life start past p) ≡ false)
listed_born start d slots past p told h =
    let r = of_slots slots p h in
    let here = pid_of_slot d r.0 (suc r.1) in
    let t = subst (TableTells start past here) r.3 (told_at start d slots past here told refl) in
    let same : here ≡ p = sym (r.4 ∙ ap (λ l. l.pid) t.0) in
    (ap (λ p. p.shard) (sym same), subst (λ p. is_unborn (life start past p) ≡ false) same t.1)

pub born_listed : (start : Start) (d : ℕ) (slots : Slots) (past : Past) (p : Pid) → AreTold start d slots past → p.shard ≡ d → is_unborn (life start past p) ≡ false → IsIn p (pids_in slots)
born_listed start d slots past p told home born = go p.version (life_at slots p.slot p.version) refl refl (told_at start d slots past p told home)
  where
    go : (v : ℕ) (o : Option LifeState) → p.version ≡ v → life_at slots p.slot p.version ≡ o → TableTells start past p o → IsIn p (pids_in slots)
    go v None n e t = let k : is_unborn (life start past p) ≡ true = ap is_unborn t.0 in absurd (both_ways _ born k)
    go zero (Some l) n e t = let k : of_version (slot_at slots p.slot) 0 ≡ Some l = rw n at e in absurd (cc)
    go (suc k) (Some l) n e t =
        let at_k : slice_get (slot_at slots p.slot) k ≡ Some l = rw n at e in
        subst (λ q. IsIn q (pids_in slots)) (ap (λ l. l.pid) t.0) (in_slots slots p.slot k l at_k)
