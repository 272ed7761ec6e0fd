-- The letters left over, told lane by lane, are each the oldest of its lane that was not told of.
use Rattle.std.proofs.Common.{◌≡◌, ℕ, zero, suc, ◌<◌, ◌≤◌, ◌⊎◌, inl, inr, Bool, true, false, cond, ◌==◌, List, [], ◌∷◌, ◌++◌, Some, map, filter, drop, refl, sym, ap, ◌∙◌, subst, ⊎_elim, arith}
use mathlib.Core.List.{reverse_aux}
use Rattle.std.specs.Prelude.{slice_get, reverse}
use Rattle.std.specs.List.{find}
use Rattle.std.proofs.lemmas.Bool.{eq-eqb, eqb-true, eqb-false, and_parts, and_from, cases_lt}
use Rattle.std.proofs.lemmas.List.{map-append}
use Rattle.pt_signal.specs.declared.pid.Pid.{Pid}
use Rattle.pt_signal.specs.declared.letter.Letter.{Letter}
use Rattle.pt_signal.specs.declared.letter.LeftOver.{LeftOver}
use Rattle.pt_signal.specs.Values.{same_pid, without_first}
use Rattle.pt_signal.specs.Process.{Sent}
use Rattle.pt_laws.proofs.Firsts.{first_wider}
use Rattle.pt_signal.proofs.Same.{same_pid_is, same_pid_refl}
use Rattle.pt_events.specs.declared.event.Event.{Event}
use Rattle.pt_events.specs.declared.event.Event.TheVariants.{Born, Said, Came, Took, Flag, Left, Refused}
use Rattle.pt_events.specs.declared.event.Stamped.{Stamped}
use Rattle.pt_events.specs.History.{is_between, landed, sent_by}
use Rattle.pt_events.specs.Journal.{events, letter, content, in_lane}
use Rattle.pt_gathered.specs.LeftOvers.{joined_letters, from_to}
use Rattle.pt_auditor.specs.Lanes.{is_lane, goes_between, lane, letters_flying, letters_landed, letters_still}
use Rattle.pt_auditor.specs.Foreigners.{last_lane, IsInTurnOf, IsLeftByNode, AllLeftByNode}
use Rattle.pt_auditor.specs.Hearings.{left_flying, still, IsOldest, IsOfItsDesks, LettersAreTold}
use Rattle.pt_auditor.proofs.Carried.{landed_lane}
use Rattle.pt_auditor.proofs.Laid.{lane_is}

-- letters and what they hold -----------------------------------------------------------------

without_map : (a b : Pid) (ls : List Letter) → without_first (is_between a b) (map content ls) ≡ map content (without_first (goes_between a b) ls)
without_map a b [] = refl
without_map a b (l ∷ ls) = go (goes_between a b l) refl (without_map a b ls)
  where
    go : (t : Bool) → goes_between a b l ≡ t → without_first (is_between a b) (map content ls) ≡ map content (without_first (goes_between a b) ls)
        → without_first (is_between a b) (map content (l ∷ ls)) ≡ map content (without_first (goes_between a b) (l ∷ ls))
    go true h ih = rw h refl
    go false h ih = rw h (ap (λ z. content l ∷ z) ih)

find_map : (a b : Pid) (ls : List Letter) (l : Letter) → find (goes_between a b) ls ≡ Some l → find (is_between a b) (map content ls) ≡ Some (content l)
find_map a b [] l h = absurd (cc)
find_map a b (m ∷ ls) l h = go (goes_between a b m) refl h (find_map a b ls l)
  where
    go : (t : Bool) → goes_between a b m ≡ t → cond (goes_between a b m) (Some m) (find (goes_between a b) ls) ≡ Some l
        → (find (goes_between a b) ls ≡ Some l → find (is_between a b) (map content ls) ≡ Some (content l)) → find (is_between a b) (map content (m ∷ ls)) ≡ Some (content l)
    go true e k ih = let k1 : Some m ≡ Some l = rw e at k in let k2 : m ≡ l = cc in rw e (ap (λ z. Some (content z)) k2)
    go false e k ih = let k1 : find (goes_between a b) ls ≡ Some l = rw e at k in rw e (ih k1)

stamped_back : (n : ℕ) (xs : List Sent) → map content (map (letter n) xs) ≡ xs
stamped_back n [] = refl
stamped_back n (x ∷ xs) = ap (λ z. x ∷ z) (stamped_back n xs)

landed_map : (e : Event) (ls : List Letter) → landed e (map content ls) ≡ map content (letters_landed e ls)
landed_map (Came a b x) ls = without_map a b ls
landed_map (Born p parent link) ls = refl
landed_map (Said a b x) ls = refl
landed_map (Took p k i) ls = refl
landed_map (Flag p on) ls = refl
landed_map (Left p r) ls = refl
landed_map (Refused a b) ls = refl

pub flying_is : (past : List Stamped) → left_flying past ≡ map content (letters_flying past)
flying_is [] = refl
flying_is (s ∷ past) =
    ap (λ z. landed s.event z ++ sent_by [] (events past) s.event) (flying_is past)
    ∙ ap (λ z. z ++ sent_by [] (events past) s.event) (landed_map s.event (letters_flying past))
    ∙ ap (λ z. map content (letters_landed s.event (letters_flying past)) ++ z) (sym (stamped_back s.stamp (sent_by [] (events past) s.event)))
    ∙ sym (map-append content (letters_landed s.event (letters_flying past)) (map (letter s.stamp) (sent_by [] (events past) s.event)))

still_is : (all : List Letter) (left : List LeftOver) → still (map content all) left ≡ map content (letters_still all left)
still_is all [] = refl
still_is all (l ∷ left) =
    ap (without_first (is_between l.letter.from l.letter.to)) (still_is all left) ∙ without_map l.letter.from l.letter.to (letters_still all left)

-- one letter after the other -------------------------------------------------------------------

abbrev lane_of : LeftOver → ℕ × ℕ
lane_of l = (l.letter.from.shard, l.letter.to.shard)

abbrev without : LeftOver → List Letter → List Letter
without l ls = without_first (goes_between l.letter.from l.letter.to) ls

-- the letter is told of next, where these are on their way and the one before it was of those desks
record IsTold (ls : List Letter) (b : ℕ × ℕ) (l : LeftOver) : Type 0 where
  desks : IsOfItsDesks l
  oldest : IsOldest (map content ls) l
  by_node : IsLeftByNode ls b l

-- these are told of, and then those are on their way, and the last one was of those desks
abbrev Tells : List LeftOver → List Letter → ℕ × ℕ → List Letter → ℕ × ℕ → Type 0
Tells [] ls b ms c = (ls ≡ ms) × (b ≡ c)
Tells (l ∷ left) ls b ms c = IsTold ls b l × Tells left (without l ls) (lane_of l) ms c

tells_both : (xs ys : List LeftOver) (ls ms ns : List Letter) (b c d : ℕ × ℕ) → Tells xs ls b ms c → Tells ys ms c ns d → Tells (xs ++ ys) ls b ns d
tells_both [] ys ls ms ns b c d h k = subst (λ z. Tells ys z b ns d) (sym h.0) (subst (λ z. Tells ys ms z ns d) (sym h.1) k)
tells_both (x ∷ xs) ys ls ms ns b c d h k = (h.0, tells_both xs ys (without x ls) ms ns (lane_of x) c d h.1 k)

-- one lane -----------------------------------------------------------------------------------

abbrev AtMost : ℕ × ℕ → ℕ × ℕ → Type 0
AtMost b c = (b.0 < c.0) ⊎ ((b.0 ≡ c.0) × (b.1 ≤ c.1))

head_passes : {X : Type 0} (P : X → Bool) (xs ys : List X) (y : X) → filter P xs ≡ y ∷ ys → P y ≡ true
head_passes P [] ys y h = absurd (cc)
head_passes P (x ∷ xs) ys y h = go (P x) refl h (head_passes P xs ys y)
  where
    go : (b : Bool) → P x ≡ b → cond b (x ∷ filter P xs) (filter P xs) ≡ y ∷ ys → (filter P xs ≡ y ∷ ys → P y ≡ true) → P y ≡ true
    go true e k ih = let is : x ≡ y = cc in ap P (sym is) ∙ e
    go false e k ih = ih k

record TellsLane (d e : ℕ) (over : List Letter) (ls : List Letter) (b : ℕ × ℕ) : Type 0 where
  rest : List Letter
  last : ℕ × ℕ
  tells : Tells (map (from_to d e) over) ls b rest last
  none : lane d e rest ≡ []
  same : (i j : ℕ) → is_lane d e (i, j) ≡ false → lane i j rest ≡ lane i j ls
  turn : AtMost last (d, e)

tell_lane : (d e : ℕ) (over : List Letter) (ls : List Letter) (b : ℕ × ℕ) → lane d e ls ≡ over → AtMost b (d, e) → TellsLane d e over ls b
tell_lane d e [] ls b is t = record { rest = ls; last = b; tells = (refl, refl); none = is; same = λ i j h. refl; turn = t }
tell_lane d e (l ∷ over) ls b is t =
    let k = tell_lane d e over (without left ls) (lane_of left) next (inr (from_is, le_of l.to.shard e to_is)) in
    record {
      rest = k.rest;
      last = k.last;
      tells = (record { desks = (sym from_is, sym to_is); oldest = oldest; by_node = by_node }, k.tells);
      none = k.none;
      same = λ i j h. k.same i j h ∙ moved i j ∙ rw (other i j h) refl;
      turn = k.turn;
    }
  where
    left : LeftOver
    left = from_to d e l

    le_of : (m n : ℕ) → m ≡ n → m ≤ n
    le_of m n h = omega (arith, h)

    parts : ((l.from.shard == d) ≡ true) × ((l.to.shard == e) ≡ true)
    parts = and_parts (l.from.shard == d) (l.to.shard == e) (head_passes (λ (m : Letter). in_lane d e (content m)) ls over l is)

    from_is : l.from.shard ≡ d
    from_is = eqb-true l.from.shard d parts.0

    to_is : l.to.shard ≡ e
    to_is = eqb-true l.to.shard e parts.1

    own : lane l.from.shard l.to.shard ls ≡ l ∷ over
    own = ap (λ z. lane z l.to.shard ls) from_is ∙ ap (λ z. lane d z ls) to_is ∙ is

    between : goes_between l.from l.to l ≡ true
    between = rw (same_pid_refl l.from, same_pid_refl l.to) refl

    moved : (i j : ℕ) → lane i j (without (from_to d e l) ls) ≡ cond (is_lane l.from.shard l.to.shard (i, j)) (drop 1 (lane l.from.shard l.to.shard ls)) (lane i j ls)
    moved i j = landed_lane l.from l.to ls l (ap (λ z. slice_get z 0) own) between i j

    next : lane d e (without (from_to d e l) ls) ≡ over
    next = moved d e ∙ rw (and_from (l.from.shard == d) (l.to.shard == e) parts.0 parts.1) (ap (drop 1) own)

    other : (i j : ℕ) → is_lane d e (i, j) ≡ false → is_lane l.from.shard l.to.shard (i, j) ≡ false
    other i j h = ap (λ z. is_lane z l.to.shard (i, j)) from_is ∙ ap (λ z. is_lane d z (i, j)) to_is ∙ h

    wide : (m : Letter) → goes_between l.from l.to m ≡ true → in_lane l.from.shard l.to.shard (content m) ≡ true
    wide m h =
        let p = and_parts (same_pid l.from m.from) (same_pid l.to m.to) h in
        and_from (m.from.shard == l.from.shard) (m.to.shard == l.to.shard)
        (eq-eqb _ _ (sym (ap (λ (z : Pid). z.shard) (same_pid_is l.from m.from p.0)))) (eq-eqb _ _ (sym (ap (λ (z : Pid). z.shard) (same_pid_is l.to m.to p.1))))

    oldest : IsOldest (map content ls) (from_to d e l)
    oldest =
        find_map l.from l.to ls l
        (sym (first_wider (goes_between l.from l.to) (λ (m : Letter). in_lane l.from.shard l.to.shard (content m)) wide ls)
        ∙ ap (find (goes_between l.from l.to)) own ∙ rw between refl)

    in_turn : AtMost b (d, e) → IsInTurnOf b (from_to d e l)
    in_turn (inl h) = inl (omega (arith, h, from_is))
    in_turn (inr h) = inr (h.0 ∙ sym from_is, omega (arith, h.1, to_is))

    by_node : IsLeftByNode ls b (from_to d e l)
    by_node = record {
      order = record { first = l; there = ap (λ z. slice_get z 0) own; between = between };
      stamp = λ m h. let k : Some l ≡ Some m = sym (ap (λ z. slice_get z 0) own) ∙ h in let is : l ≡ m = cc in ap (λ (z : Letter). z.stamp) is;
      turn = in_turn t;
    }

-- all lanes ------------------------------------------------------------------------------------

apart : (d e i j : ℕ) → ((i ≡ d) × (j ≡ e) → ⊥) → is_lane d e (i, j) ≡ false
apart d e i j h = go (is_lane d e (i, j)) refl
  where
    go : (b : Bool) → is_lane d e (i, j) ≡ b → is_lane d e (i, j) ≡ false
    go false k = k
    go true k = let p = lane_is d e i j k in absurd (h (sym p.0, sym p.1))

module _ (over : ℕ → ℕ → List Letter) (n : ℕ) where
  abbrev row : ℕ → ℕ → List LeftOver
  row d k = joined_letters (λ e. map (from_to d e) (over d e)) k

  record TellsRow (d k : ℕ) (ls : List Letter) (b : ℕ × ℕ) : Type 0 where
    rest : List Letter
    last : ℕ × ℕ
    tells : Tells (row d k) ls b rest last
    none : (j : ℕ) → j < k → lane d j rest ≡ []
    same : (i j : ℕ) → ((i ≡ d) × (j < k) → ⊥) → lane i j rest ≡ lane i j ls
    turn : AtMost last (d, k)

  tell_row : (d k : ℕ) (ls : List Letter) (b : ℕ × ℕ) → k ≤ n → ((j : ℕ) → j < n → lane d j ls ≡ over d j) → AtMost b (d, 0) → TellsRow d k ls b
  tell_row d zero ls b within are t = record { rest = ls; last = b; tells = (refl, refl); none = λ j h. absurd (omega (arith, h)); same = λ i j h. refl; turn = t }
  tell_row d (suc k) ls b within are t =
      let r = tell_row d k ls b (omega (arith, within)) are t in
      let l = tell_lane d k (over d k) r.rest r.last (r.same d k (λ h. omega (arith, h.1)) ∙ are k (omega (arith, within))) r.turn in
      record {
        rest = l.rest;
        last = l.last;
        tells = tells_both (row d k) (map (from_to d k) (over d k)) ls r.rest l.rest b r.last l.last r.tells l.tells;
        none = λ j h. none_of r l j h (j == k) refl;
        same = λ i j h. l.same i j (apart d k i j (λ q. h (q.0, omega (arith, q.1)))) ∙ r.same i j (λ q. h (q.0, omega (arith, q.1)));
        turn = later l.turn;
      }
    where
      none_of : (r : TellsRow d k ls b) (l : TellsLane d k (over d k) r.rest r.last) (j : ℕ) → j < suc k → (t : Bool) → (j == k) ≡ t → lane d j l.rest ≡ []
      none_of r l j h true e = ap (λ z. lane d z l.rest) (eqb-true j k e) ∙ l.none
      none_of r l j h false e =
          let ne : j ≡ k → ⊥ = eqb-false j k e in
          l.same d j (apart d k d j (λ q. ne q.1)) ∙ r.none j (omega (arith, h, ne))

      later : {c : ℕ × ℕ} → AtMost c (d, k) → AtMost c (d, suc k)
      later (inl h) = inl h
      later (inr h) = inr (h.0, omega (arith, h.1))

  abbrev rows : ℕ → List LeftOver
  rows m = joined_letters (λ d. row d n) m

  record TellsRows (m : ℕ) (ls : List Letter) : Type 0 where
    rest : List Letter
    last : ℕ × ℕ
    tells : Tells (rows m) ls (0, 0) rest last
    none : (i j : ℕ) → i < m → j < n → lane i j rest ≡ []
    same : (i j : ℕ) → ((i < m) × (j < n) → ⊥) → lane i j rest ≡ lane i j ls
    turn : AtMost last (m, 0)

  tell_rows : (m : ℕ) (ls : List Letter) → m ≤ n → ((i j : ℕ) → i < n → j < n → lane i j ls ≡ over i j) → TellsRows m ls
  tell_rows zero ls within are = record { rest = ls; last = (0, 0); tells = (refl, refl); none = λ i j h k. absurd (omega (arith, h)); same = λ i j h. refl; turn = inr (refl, omega arith) }
  tell_rows (suc m) ls within are =
      let r = tell_rows m ls (omega (arith, within)) are in
      let l = tell_row m n r.rest r.last (omega arith) (λ j h. r.same m j (λ q. omega (arith, q.0)) ∙ are m j (omega (arith, within)) h) r.turn in
      record {
        rest = l.rest;
        last = l.last;
        tells = tells_both (rows m) (row m n) ls r.rest l.rest (0, 0) r.last l.last r.tells l.tells;
        none = λ i j h k. none_of r l i j h k (i == m) refl;
        same = λ i j h. l.same i j (λ q. h (omega (arith, q.0), q.1)) ∙ r.same i j (λ q. h (omega (arith, q.0), q.1));
        turn = later l.turn;
      }
    where
      none_of : (r : TellsRows m ls) (l : TellsRow m n r.rest r.last) (i j : ℕ) → i < suc m → j < n → (t : Bool) → (i == m) ≡ t → lane i j l.rest ≡ []
      none_of r l i j h k true e = ap (λ z. lane z j l.rest) (eqb-true i m e) ∙ l.none j k
      none_of r l i j h k false e =
          let ne : i ≡ m → ⊥ = eqb-false i m e in
          l.same i j (λ q. ne q.0) ∙ r.none i j (omega (arith, h, ne)) k

      later : {c : ℕ × ℕ} → AtMost c (m, n) → AtMost c (suc m, 0)
      later (inl h) = inl (omega (arith, h))
      later (inr h) = inl (omega (arith, h.0))

-- where each lane is empty, nothing is on its way
no_lanes : (ls : List Letter) → ((d e : ℕ) → lane d e ls ≡ []) → ls ≡ []
no_lanes [] h = refl
no_lanes (l ∷ ls) h =
    let one : lane l.from.shard l.to.shard (l ∷ ls) ≡ l ∷ lane l.from.shard l.to.shard ls = rw (eq-eqb l.from.shard l.from.shard refl, eq-eqb l.to.shard l.to.shard refl) refl in
    let none = sym one ∙ h l.from.shard l.to.shard in
    absurd (cc)

-- the last first ---------------------------------------------------------------------------------

pub record AreTold (all : List Letter) (left : List LeftOver) : Type 0 where
  pub by_node : AllLeftByNode all left
  pub told : LettersAreTold (map content all) left

told_back : (all : List Letter) (xs left : List LeftOver) (ms : List Letter) (c : ℕ × ℕ) → Tells xs (letters_still all left) (last_lane left) ms c → AreTold all left
    → AreTold all (reverse_aux xs left) × (letters_still all (reverse_aux xs left) ≡ ms)
told_back all [] left ms c h k = (k, h.0)
told_back all (x ∷ xs) left ms c h k =
    told_back all xs (x ∷ left) ms c h.1 (record {
      by_node = (h.0.by_node, k.by_node);
      told = ((h.0.desks, subst (λ z. IsOldest z x) (sym (still_is all left)) h.0.oldest), k.told);
    })

pub record AreLeft (all : List Letter) (left : List LeftOver) : Type 0 where
  pub are : AreTold all left
  pub whole : still (map content all) left ≡ []

pub told_all : (over : ℕ → ℕ → List Letter) (n : ℕ) (all : List Letter) → ((d e : ℕ) → d < n → e < n → lane d e all ≡ over d e) → ((d e : ℕ) → ((d < n) × (e < n) → ⊥) → lane d e all ≡ [])
    → AreLeft all (reverse (rows over n n))
told_all over n all are none =
    let r = tell_rows over n n all (omega arith) are in
    let b = told_back all (rows over n n) [] r.rest r.last r.tells (record { by_node = tt; told = tt }) in
    let empty : r.rest ≡ [] = no_lanes r.rest (λ d e. gone r d e) in
    record {
      are = b.0;
      whole = still_is all (reverse (rows over n n)) ∙ ap (map content) (b.1 ∙ empty);
    }
  where
    gone : (r : TellsRows over n n all) (d e : ℕ) → lane d e r.rest ≡ []
    gone r d e =
        ⊎_elim
        (λ (h : d < n). ⊎_elim (λ (k : e < n). r.none d e h k) (λ (k : n ≤ e). let out : (d < n) × (e < n) → ⊥ = λ q. omega (arith, q.1, k) in r.same d e out ∙ none d e out) (cases_lt e n))
        (λ (h : n ≤ d). let out : (d < n) × (e < n) → ⊥ = λ q. omega (arith, q.0, h) in r.same d e out ∙ none d e out) (cases_lt d n)
