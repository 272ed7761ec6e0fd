-- The latest ends of all desks, as a directory is opened with them.
use Rattle.std.proofs.Common.{◌≡◌, ◌≢◌, ℕ, zero, suc, ◌+◌, ◌<◌, List, [], ◌∷◌, ◌++◌, length, map, get_or, eqb, cond, refl, sym, ap, ◌∙◌, subst, eq-eqb, ne_eqb, append_assoc, append-nil, ◌⊎◌, inl, inr, ⊎_elim, arith}
use mathlib.Core.Option.{some}
use lib.ListN.{get_elem?}
use Rattle.pt_signal.specs.declared.pid.Pid.{Pid}
use Rattle.pt_accounts.specs.DeskLives.{DeskTable, latest_ends}
use Rattle.pt_directory.specs.declared.view.Death.{Death}
use Rattle.pt_directory.specs.Seats.{AreEnded, OnePerSlot, death_of, given_deaths}
use Rattle.pt_directory.proofs.Lists.{at_append, at_nothing}
use Rattle.pt_directory.proofs.Reopening.{at_get_or}
use Rattle.pt_gathered.specs.Quiet.{ends_of}
use Rattle.pt_desk.proofs.Before.{from_map}

-- those of a desk, among those of others ------------------------------------------------------

given_append : (d : ℕ) (xs ys : List (Pid × ℕ)) → given_deaths d (xs ++ ys) ≡ given_deaths d xs ++ given_deaths d ys
given_append d [] ys = refl
given_append d (x ∷ xs) ys =
    let one : List Death = cond (eqb x.0.shard d) (death_of x.0 x.1 ∷ []) [] in
    ap (λ z. one ++ z) (given_append d xs ys) ∙ sym (append_assoc one (given_deaths d xs) (given_deaths d ys))

module _ (n : ℕ) where
  abbrev stamped : List Pid → List (Pid × ℕ)
  stamped ps = map (λ p. (p, n)) ps

  abbrev AllOf : ℕ → List Pid → Type 0
  AllOf d ps = (k : ℕ) (p : Pid) → get_elem? ps k ≡ some p → p.shard ≡ d

  given_own : (d : ℕ) (ps : List Pid) → AllOf d ps → given_deaths d (stamped ps) ≡ map (λ p. death_of p n) ps
  given_own d [] own = refl
  given_own d (p ∷ ps) own = rw (eq-eqb p.shard d (own 0 p refl)) (ap (λ z. death_of p n ∷ z) (given_own d ps (λ k q at. own (suc k) q at)))

  given_other : (d e : ℕ) (ps : List Pid) → AllOf e ps → e ≢ d → given_deaths d (stamped ps) ≡ []
  given_other d e [] own other = refl
  given_other d e (p ∷ ps) own other = rw (ne_eqb p.shard d (λ same. other (sym (own 0 p refl) ∙ same))) (given_other d e ps (λ k q at. own (suc k) q at) other)

  -- the tables of desks that are numbered from m on
  abbrev TablesFrom : ℕ → List DeskTable → Type 0
  TablesFrom m tables = (i : ℕ) (x : DeskTable) → i < length tables → AllOf (m + i) (latest_ends (get_or tables i x))

  rest_from : (m : ℕ) (t : DeskTable) (tables : List DeskTable) → TablesFrom m (t ∷ tables) → TablesFrom (suc m) tables
  rest_from m t tables own i x h k p at = let e = own (suc i) x (omega (arith, h)) k p at in omega arith

  first_from : (m : ℕ) (t : DeskTable) (tables : List DeskTable) → TablesFrom m (t ∷ tables) → AllOf m (latest_ends t)
  first_from m t tables own k p at = let e = own 0 t (omega arith) k p at in omega arith

  none_before : (m : ℕ) (tables : List DeskTable) → TablesFrom m tables → (d : ℕ) → d < m → given_deaths d (ends_of n tables) ≡ []
  none_before m [] own d h = refl
  none_before m (t ∷ tables) own d h =
      given_append d (stamped (latest_ends t)) (ends_of n tables)
      ∙ ap (λ z. z ++ given_deaths d (ends_of n tables)) (given_other d m (latest_ends t) (first_from m t tables own) (λ e. absurd (omega (arith, e, h))))
      ∙ none_before (suc m) tables (rest_from m t tables own) d (omega arith)

  pub given_at : (m : ℕ) (tables : List DeskTable) → TablesFrom m tables → (i : ℕ) (x : DeskTable) → i < length tables
      → given_deaths (m + i) (ends_of n tables) ≡ map (λ p. death_of p n) (latest_ends (get_or tables i x))
  given_at m [] own i x h = absurd (omega arith)
  given_at m (t ∷ tables) own zero x h =
      let e : m ≡ m + 0 = omega arith in
      subst (λ d. given_deaths d (ends_of n (t ∷ tables)) ≡ map (λ p. death_of p n) (latest_ends t)) e
      (given_append m (stamped (latest_ends t)) (ends_of n tables)
      ∙ ap (λ z. z ++ given_deaths m (ends_of n tables)) (given_own m (latest_ends t) (first_from m t tables own))
      ∙ ap (λ z. map (λ p. death_of p n) (latest_ends t) ++ z) (none_before (suc m) tables (rest_from m t tables own) m (omega arith))
      ∙ append-nil (map (λ p. death_of p n) (latest_ends t)))
  given_at m (t ∷ tables) own (suc i) x h =
      let e : suc m + i ≡ m + suc i = omega arith in
      subst (λ d. given_deaths d (ends_of n (t ∷ tables)) ≡ map (λ p. death_of p n) (latest_ends (get_or tables i x))) e
      (given_append (suc m + i) (stamped (latest_ends t)) (ends_of n tables)
      ∙ ap (λ z. z ++ given_deaths (suc m + i) (ends_of n tables)) (given_other (suc m + i) m (latest_ends t) (first_from m t tables own) (λ k. absurd (omega (arith, k))))
      ∙ given_at (suc m) tables (rest_from m t tables own) i x (omega arith))

  -- each, and of each slot one --------------------------------------------------------------

  -- an end of some desk's table
  pub record IsOneOf (tables : List DeskTable) (x : Pid × ℕ) : Type 0 where
    pub desk : ℕ
    pub within : desk < length tables
    pub place : ℕ
    pub at : (t : DeskTable) → get_elem? (latest_ends (get_or tables desk t)) place ≡ some x.0
    pub stamp : x.1 ≡ n

  one_of : (tables : List DeskTable) (k : ℕ) (x : Pid × ℕ) → get_elem? (ends_of n tables) k ≡ some x → IsOneOf tables x
  one_of [] k x at = absurd (at_nothing x k at)
  one_of (t ∷ tables) k x at =
      ⊎_elim
      (λ (here : get_elem? (stamped (latest_ends t)) k ≡ some x).
      let a = from_map (λ p. (p, n)) (latest_ends t) k x here in
      let first : 0 < length (t ∷ tables) = omega arith in
      record { desk = 0; within = first; place = k; at = λ z. a.1 ∙ ap (λ (y : Pid × ℕ). some y.0) a.2; stamp = sym (ap (λ (y : Pid × ℕ). y.1) a.2) })
      (λ (there : (j : ℕ) × (get_elem? (ends_of n tables) j ≡ some x) × (k ≡ length (stamped (latest_ends t)) + j)).
      let r = one_of tables there.0 x there.1 in
      record { desk = suc r.desk; within = omega (arith, r.within); place = r.place; at = r.at; stamp = r.stamp })
      (at_append (stamped (latest_ends t)) (ends_of n tables) k x at)

  -- no two of a desk are of one slot
  abbrev pub AreApart : DeskTable → Type 0
  AreApart t = (i j : ℕ) (p q : Pid) → get_elem? (latest_ends t) i ≡ some p → get_elem? (latest_ends t) j ≡ some q → p.slot ≡ q.slot → i ≡ j

  not_before : (m : ℕ) (t : DeskTable) (tables : List DeskTable) → TablesFrom m (t ∷ tables) → (k : ℕ) (x : Pid × ℕ) → get_elem? (ends_of n tables) k ≡ some x → m < x.0.shard
  not_before m t tables own k x at =
      let r = one_of tables k x at in
      let e = rest_from m t tables own r.desk t r.within r.place x.0 (r.at t) in
      omega arith

  abbrev Here : DeskTable → ℕ → Pid × ℕ → Type 0
  Here t i x = get_elem? (stamped (latest_ends t)) i ≡ some x

  abbrev There : DeskTable → List DeskTable → ℕ → Pid × ℕ → Type 0
  There t tables i x = (k : ℕ) × (get_elem? (ends_of n tables) k ≡ some x) × (i ≡ length (stamped (latest_ends t)) + k)

  pid_here : (t : DeskTable) (i : ℕ) (x : Pid × ℕ) → Here t i x → get_elem? (latest_ends t) i ≡ some x.0
  pid_here t i x h = let a = from_map (λ p. (p, n)) (latest_ends t) i x h in a.1 ∙ ap (λ (y : Pid × ℕ). some y.0) a.2

  pub one_per_slot : (m : ℕ) (tables : List DeskTable) → TablesFrom m tables → ((i : ℕ) (x : DeskTable) → i < length tables → AreApart (get_or tables i x)) → OnePerSlot (ends_of n tables)
  one_per_slot m [] own apart i j x y at there shard slot = absurd (at_nothing x i at)
  one_per_slot m (t ∷ tables) own apart i j x y at there shard slot =
      both (at_append (stamped (latest_ends t)) (ends_of n tables) i x at) (at_append (stamped (latest_ends t)) (ends_of n tables) j y there)
      (one_per_slot (suc m) tables (rest_from m t tables own) (λ i z h. apart (suc i) z (omega (arith, h))))
    where
      both : Here t i x ⊎ There t tables i x → Here t j y ⊎ There t tables j y → OnePerSlot (ends_of n tables) → i ≡ j
      both (inl a) (inl b) rest = apart 0 t (omega arith) i j x.0 y.0 (pid_here t i x a) (pid_here t j y b) slot
      both (inl a) (inr b) rest =
          let p = first_from m t tables own i x.0 (pid_here t i x a) in
          let q = not_before m t tables own b.0 y b.1 in
          absurd (omega (arith, p, q, shard))
      both (inr a) (inl b) rest =
          let p = first_from m t tables own j y.0 (pid_here t j y b) in
          let q = not_before m t tables own a.0 x a.1 in
          absurd (omega (arith, p, q, shard))
      both (inr a) (inr b) rest =
          let same = rest a.0 b.0 x y a.1 b.1 shard slot in
          omega (arith, same, a.2, b.2)

  pub are_ended : (desks slots : ℕ) (tables : List DeskTable) → TablesFrom 0 tables → ((i : ℕ) (x : DeskTable) → i < length tables → AreApart (get_or tables i x))
      → ((i : ℕ) (x : DeskTable) → i < length tables → (k : ℕ) (p : Pid) → get_elem? (latest_ends (get_or tables i x)) k ≡ some p → (p.shard < desks) × (p.slot < slots) × (0 < p.version) × (0 < n))
      → DeskTable → AreEnded desks slots (ends_of n tables)
  are_ended desks slots tables own apart each t = record {
    each = λ k d h.
        let x : Pid × ℕ = get_or (ends_of n tables) k d in
        let r = one_of tables k x (at_get_or (ends_of n tables) k d h) in
        let e = each r.desk t r.within r.place x.0 (r.at t) in
        (e.0, e.1, e.2, omega (arith, e.3, r.stamp));
    apart = one_per_slot 0 tables own apart;
  }
