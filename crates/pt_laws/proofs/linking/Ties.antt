-- The signals of links between two pids: which ids they leave in an entry once they have all come.
use Rattle.std.proofs.Common.{◌≡◌, ◌+◌, ◌≤◌, Bool, true, false, not, ◌&&◌, ◌||◌, List, [], ◌∷◌, ◌++◌, refl, ◌∙◌, subst, arith}
use Rattle.std.specs.Prelude.{⊤}
use Rattle.std.proofs.lemmas.Bool.{false≢true, both_ways, and_right}
use Rattle.pt_signal.specs.declared.ids.Ids.{Ids}
use Rattle.pt_signal.specs.declared.ids.LinkId.{LinkId}
use Rattle.pt_signal.specs.Values.{same_link}
use Rattle.pt_signal.specs.Process.{has_id}
use Rattle.pt_events.specs.Counting.{one_if, count}
use Rattle.pt_signal.proofs.Same.{same_link_refl}
use Rattle.pt_laws.proofs.monitoring.Counts.{count-append}

-- a Link, an Unlink or the exit signal of a link
pub data Tie : Type 0 where
  adds : LinkId → Tie
  takes : Ids → Tie
  clears : Ids → Tie

abbrev pub names : LinkId → Tie → Bool
names i (adds j) = same_link i j
names i (takes ids) = has_id ids i
names i (clears ids) = has_id ids i

abbrev pub is_adds : LinkId → Tie → Bool
is_adds i (adds j) = same_link i j
is_adds i (takes ids) = false
is_adds i (clears ids) = false

abbrev pub adds_any : Tie → Bool
adds_any (adds j) = true
adds_any (takes ids) = false
adds_any (clears ids) = false

abbrev pub is_clears : Tie → Bool
is_clears (adds j) = false
is_clears (takes ids) = false
is_clears (clears ids) = true

pub zero_parts : {X : Type 0} (T : X → Bool) (x : X) (xs : List X) → count T (x ∷ xs) ≡ 0 → (T x ≡ false) × (count T xs ≡ 0)
zero_parts T x xs h = go (T x) refl
  where
    go : (b : Bool) → T x ≡ b → (T x ≡ false) × (count T xs ≡ 0)
    go true e = let k : 1 + count T xs ≡ 0 = rw e at h in absurd (omega arith)
    go false e = let k : 0 + count T xs ≡ 0 = rw e at h in (e, omega arith)

-- the id after one signal, where a removal takes out no more than it names
abbrev pub turn : LinkId → Tie → Bool → Bool
turn i (adds j) b = same_link i j || b
turn i (takes ids) b = not (has_id ids i) && b
turn i (clears ids) b = not (has_id ids i) && b

-- whether the id will be held
abbrev pub will : LinkId → Bool → List Tie → Bool
will i b [] = b
will i b (x ∷ xs) = will i (turn i x b) xs

-- a Link comes where the id is not held
abbrev pub Ready : Tie → Bool → Type 0
Ready (adds j) b = b ≡ false
Ready (takes ids) b = ⊤
Ready (clears ids) b = ⊤

abbrev pub Parted : LinkId → Bool → List Tie → Type 0
Parted i b [] = ⊤
Parted i b (x ∷ xs) = Ready x b × Parted i (turn i x b) xs

-- behind a Link stands no exit signal
abbrev pub Front : List Tie → Type 0
Front [] = ⊤
Front (x ∷ xs) = (adds_any x ≡ true → count is_clears xs ≡ 0) × Front xs

or_le : (e b c : Bool) → (b ≡ true → c ≡ true) → (e || b) ≡ true → (e || c) ≡ true
or_le true b c h k = refl
or_le false b c h k = h k

and_le : (e b c : Bool) → (b ≡ true → c ≡ true) → (e && b) ≡ true → (e && c) ≡ true
and_le true b c h k = h k
and_le false b c h k = k

module _ (i : LinkId) where
  pub turn_le : (x : Tie) (b c : Bool) → (b ≡ true → c ≡ true) → turn i x b ≡ true → turn i x c ≡ true
  turn_le (adds j) b c h k = or_le (same_link i j) b c h k
  turn_le (takes ids) b c h k = and_le (not (has_id ids i)) b c h k
  turn_le (clears ids) b c h k = and_le (not (has_id ids i)) b c h k

  pub will_le : (xs : List Tie) (b c : Bool) → (b ≡ true → c ≡ true) → will i b xs ≡ true → will i c xs ≡ true
  will_le [] b c h k = h k
  will_le (x ∷ xs) b c h k = will_le xs (turn i x b) (turn i x c) (turn_le x b c h) k

  pub will-append : (xs ys : List Tie) (b : Bool) → will i b (xs ++ ys) ≡ will i (will i b xs) ys
  will-append [] ys b = refl
  will-append (x ∷ xs) ys b = will-append xs ys (turn i x b)

  turn_unnamed : (x : Tie) (b : Bool) → names i x ≡ false → turn i x b ≡ b
  turn_unnamed (adds j) b h = rw h refl
  turn_unnamed (takes ids) b h = rw h refl
  turn_unnamed (clears ids) b h = rw h refl

  pub will_unnamed : (xs : List Tie) (b : Bool) → count (names i) xs ≡ 0 → will i b xs ≡ b
  will_unnamed [] b h = refl
  will_unnamed (x ∷ xs) b h = let z = zero_parts (names i) x xs h in will_unnamed xs (turn i x b) z.1 ∙ turn_unnamed x b z.0

  pub turn_none : (x : Tie) → is_adds i x ≡ false → turn i x false ≡ false
  turn_none (adds j) h = rw h refl
  turn_none (takes ids) h = and_right (not (has_id ids i)) false refl
  turn_none (clears ids) h = and_right (not (has_id ids i)) false refl

  -- what is not held and will be has its Link on the way
  pub will_adds : (xs : List Tie) → will i false xs ≡ true → 1 ≤ count (is_adds i) xs
  will_adds [] h = absurd (false≢true h)
  will_adds (x ∷ xs) h = go (is_adds i x) refl (will_adds xs)
    where
      go : (b : Bool) → is_adds i x ≡ b → (will i false xs ≡ true → 1 ≤ count (is_adds i) xs) → 1 ≤ count (is_adds i) (x ∷ xs)
      go true e ih = rw e (omega arith)
      go false e ih = let k = ih (subst (λ b. will i b xs ≡ true) (turn_none x e) h) in rw e (omega arith)

  pub will_not : (xs : List Tie) → count (is_adds i) xs ≡ 0 → will i false xs ≡ false
  will_not xs h = go (will i false xs) refl
    where
      go : (b : Bool) → will i false xs ≡ b → will i false xs ≡ false
      go true e = let k = will_adds xs e in absurd (omega arith)
      go false e = e

  ready_le : (x : Tie) (b c : Bool) → (b ≡ true → c ≡ true) → Ready x c → Ready x b
  ready_le (adds j) true c h k = absurd (both_ways c k (h refl))
  ready_le (adds j) false c h k = refl
  ready_le (takes ids) b c h k = k
  ready_le (clears ids) b c h k = k

  pub parted_le : (xs : List Tie) (b c : Bool) → (b ≡ true → c ≡ true) → Parted i c xs → Parted i b xs
  parted_le [] b c h k = tt
  parted_le (x ∷ xs) b c h k = (ready_le x b c h k.0, parted_le xs (turn i x b) (turn i x c) (turn_le x b c h) k.1)

  pub parted-append : (xs : List Tie) (x : Tie) (b : Bool) → Parted i b xs → Ready x (will i b xs) → Parted i b (xs ++ x ∷ [])
  parted-append [] x b h k = (k, tt)
  parted-append (y ∷ xs) x b h k = (h.0, parted-append xs x (turn i y b) h.1 k)

  pub parted_none : (xs : List Tie) (b : Bool) → ((j : LinkId) → count (is_adds j) xs ≡ 0) → Parted i b xs
  parted_none [] b h = tt
  parted_none (adds j ∷ xs) b h = let z = (zero_parts (is_adds j) (adds j) xs (h j)).0 in absurd (both_ways _ z (same_link_refl j))
  parted_none (takes ids ∷ xs) b h = (tt, parted_none xs _ (λ j. (zero_parts (is_adds j) (takes ids) xs (h j)).1))
  parted_none (clears ids ∷ xs) b h = (tt, parted_none xs _ (λ j. (zero_parts (is_adds j) (clears ids) xs (h j)).1))

pub front-append : (xs : List Tie) (x : Tie) → Front xs → (is_clears x ≡ true → (j : LinkId) → count (is_adds j) xs ≡ 0) → Front (xs ++ x ∷ [])
front-append [] x h k = (λ e. refl, tt)
front-append (y ∷ xs) x h k = (behind y refl, front-append xs x h.1 (λ e j. (zero_parts (is_adds j) y xs (k e j)).1))
  where
    behind : (z : Tie) → y ≡ z → adds_any y ≡ true → count is_clears (xs ++ x ∷ []) ≡ 0
    behind (adds j) e f =
        let a = count-append is_clears xs (x ∷ []) in let b = h.0 f in
        go (is_clears x) refl a b
      where
        go : (c : Bool) → is_clears x ≡ c → count is_clears (xs ++ x ∷ []) ≡ count is_clears xs + (one_if (is_clears x) + 0)
            → count is_clears xs ≡ 0 → count is_clears (xs ++ x ∷ []) ≡ 0
        go true g a b =
            let z = (zero_parts (is_adds j) y xs (k g j)).0 in
            let v : is_adds j y ≡ true = rw e (same_link_refl j) in absurd (both_ways _ z v)
        go false g a b = let v : one_if (is_clears x) ≡ 0 = rw g refl in omega arith
    behind (takes ids) e f = let v : adds_any y ≡ false = rw e refl in absurd (both_ways _ v f)
    behind (clears ids) e f = let v : adds_any y ≡ false = rw e refl in absurd (both_ways _ v f)
