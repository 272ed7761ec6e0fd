-- A link between two pids, both sides of it, and what each event of one of them does to it.
use Rattle.std.proofs.Common.{◌≡◌, ℕ, zero, suc, ◌+◌, ◌≤◌, Bool, true, false, not, ◌&&◌, ◌||◌, List, [], ◌∷◌, ◌++◌, Option, Some, None, refl, sym, ap, ◌∙◌, subst, arith}
use Rattle.std.proofs.lemmas.Bool.{true≢false, false≢true, both_ways, or_parts, or_left, or_right, and_parts, not-true}
use Rattle.pt_signal.specs.declared.ids.Ids.{Ids}
use Rattle.pt_signal.specs.declared.ids.LinkId.{LinkId}
use Rattle.pt_signal.specs.Values.{same_link}
use Rattle.pt_signal.specs.Process.{has_id, one_id}
use Rattle.pt_events.specs.Counting.{one_if, count}
use Rattle.pt_signal.proofs.Same.{same_link_is}
use Rattle.pt_laws.proofs.monitoring.Counts.{count-append}
use Rattle.pt_laws.proofs.linking.Entries.{entered}
use Rattle.pt_laws.proofs.linking.Holding.{full}
use Rattle.pt_laws.proofs.linking.Ties.{Tie, adds, takes, clears, names, is_adds, is_clears, turn, will, Parted, Front, zero_parts, will_le, will-append, will_unnamed, turn_none, will_adds, will_not, parted_le, parted-append, parted_none, front-append}
use Rattle.pt_laws.proofs.linking.Takings.{has, got, has_entered, has_cut, has_cleared, got_has, full_cut, full_cleared, full_not, empty_entry}
use Rattle.pt_laws.proofs.linking.Sides.{Seen, before, here, over, entry, is_over, plus, Side, less, popped, taken, made_more, removal, said_mine, said_theirs}

-- both have not ended: what will be held is the same, there is room for each Link that comes, and an exit signal finds one id at most
pub record Pair (mine theirs : LinkId → Bool) (A B : Seen) (F G : List Tie) : Type 0 where
  pub same : (i : LinkId) → will i (has i (entry B)) F ≡ will i (has i (entry A)) G
  pub part : (i : LinkId) → mine i ≡ false → Parted i (has i (entry A)) G
  pub part_there : (i : LinkId) → theirs i ≡ false → Parted i (has i (entry B)) F
  pub front : Front G
  pub front_there : Front F
  pub short : 1 ≤ count is_clears G → full (entry A) ≡ false
  pub short_there : 1 ≤ count is_clears F → full (entry B) ≡ false

-- the other has ended: what will be held here has its Link on the way to the other, who sends it back
abbrev pub Gone : Seen → List Tie → List Tie → Type 0
Gone B F G = (i : LinkId) → will i (has i (entry B)) F ≡ true → 1 ≤ count (is_adds i) G

-- A: the entry here, G: the signals on their way to it; B: the entry there, F: those on their way to that
pub record Bond (made mine theirs : LinkId → Bool) (A B : Seen) (F G : List Tie) : Type 0 where
  pub left : Side made mine theirs A G
  pub right : Side made theirs mine B F
  pub whole : is_over A ≡ false → is_over B ≡ false → Pair mine theirs A B F G
  pub gone : is_over A ≡ true → is_over B ≡ false → Gone B F G
  pub gone_there : is_over B ≡ true → is_over A ≡ false → Gone A G F

pub swapped : (made mine theirs : LinkId → Bool) (A B : Seen) (F G : List Tie) → Bond made mine theirs A B F G → Bond made theirs mine B A G F
swapped made mine theirs A B F G b = record {
  left = b.right;
  right = b.left;
  whole = λ eb ea. let p = b.whole ea eb in record {
    same = λ i. sym (p.same i);
    part = p.part_there;
    part_there = p.part;
    front = p.front_there;
    front_there = p.front;
    short = p.short_there;
    short_there = p.short;
  };
  gone = b.gone_there;
  gone_there = b.gone;
}

untied : (made mine theirs : LinkId → Bool) (A : Seen) (G : List Tie) → Side made mine theirs A G → (i : LinkId) → theirs i ≡ false
    → count (is_adds i) G ≡ 0
untied made mine theirs A G s i h = go (count (is_adds i) G) refl
  where
    go : (n : ℕ) → count (is_adds i) G ≡ n → count (is_adds i) G ≡ 0
    go zero e = e
    go (suc n) e = let q = s.tied i (omega arith) in absurd (both_ways _ h q.0)

not_or : (x y : Bool) → x ≡ false → y ≡ false → (x || y) ≡ true → ⊥
not_or x y e f h = both_ways (x || y) (rw (e, f) refl) h

or_first : (x y : Bool) → y ≡ false → (x || y) ≡ true → x ≡ true
or_first true y e h = refl
or_first false y e h = absurd (both_ways y e h)

one_if_single : (b : Bool) → one_if b + 0 ≤ 1
one_if_single true = omega arith
one_if_single false = omega arith

one_if_one : (b : Bool) → one_if b ≤ 1
one_if_one true = omega arith
one_if_one false = omega arith

module _ (made mine theirs : LinkId → Bool) (B : Seen) (F G : List Tie) where
  -- a Link is said
  pub say_link : (j : LinkId) → made j ≡ false → Bond made mine theirs (here None) B F G
      → Bond (plus j made) (plus j mine) theirs (here (Some (one_id j))) B (F ++ adds j ∷ []) G
  say_link j fresh b = record {
    left = said_mine made mine theirs j fresh G b.left;
    right = said_theirs made theirs mine j fresh B F (b.left.own j fresh) b.right;
    whole = λ ea eb. let p = b.whole refl eb in record {
      same = λ i. will-append i F (adds j ∷ []) _ ∙ each p i (same_link i j) refl;
      part = λ i h. let q = or_parts (same_link i j) (mine i) h in rw q.0 (p.part i q.1);
      part_there =
          λ i h. parted-append i F (adds j) _ (p.part_there i h)
          (p.same i ∙ will_not i G (untied made mine theirs (here None) G b.left i h));
      front = p.front;
      front_there = front-append F (adds j) p.front_there (λ e. absurd (false≢true e));
      short = λ h. refl;
      short_there = λ h. let c = count-append is_clears F (adds j ∷ []) in p.short_there (omega arith);
    };
    gone = λ ea. absurd (false≢true ea);
    gone_there = λ eb ea i h. on_way eb i (same_link i j) refl h;
  }
    where
      each : Pair mine theirs (here None) B F G → (i : LinkId) → (c : Bool) → same_link i j ≡ c
          → (same_link i j || will i (has i (entry B)) F) ≡ will i (same_link i j || false) G
      each p i true e = let z = will_unnamed i G true (b.left.new i (subst (λ z. made z ≡ false) (sym (same_link_is i j e)) fresh)) in rw e (sym z)
      each p i false e = rw e (p.same i)

      on_way : is_over B ≡ true → (i : LinkId) → (c : Bool) → same_link i j ≡ c → will i (same_link i j || false) G ≡ true
          → 1 ≤ count (is_adds i) (F ++ adds j ∷ [])
      on_way eb i true e h = let c = count-append (is_adds i) F (adds j ∷ []) in let d : one_if (same_link i j) ≡ 1 = rw e refl in omega arith
      on_way eb i false e h =
          let c = count-append (is_adds i) F (adds j ∷ []) in
          let k : will i false G ≡ true = rw e at h in
          let z = b.gone_there eb refl i k in omega arith

  held_made : (ids : Ids) → Bond made mine theirs (here (Some ids)) B F G → (i : LinkId) → made i ≡ false → has_id ids i ≡ false
  held_made ids b i m = go (has_id ids i) refl
    where
      go : (c : Bool) → has_id ids i ≡ c → has_id ids i ≡ false
      go true e = absurd (not_or (mine i) (theirs i) (b.left.own i m) (b.right.own i m) (b.left.known i e))
      go false e = e

  -- all ids are given up
  pub say_unlink : (ids : Ids) → Bond made mine theirs (here (Some ids)) B F G → Bond made mine theirs (here None) B (F ++ takes ids ∷ []) G
  say_unlink ids b = record {
    left =
        less made mine theirs (here (Some ids)) (here None) G G b.left (λ i h. absurd (false≢true h)) (omega arith) (λ i. omega arith)
        (λ i. omega arith) (λ e. absurd (false≢true e));
    right = removal made theirs mine B F (takes ids) (held_made ids b) (λ i. refl) b.right;
    whole = λ ea eb. let p = b.whole refl eb in record {
      same = λ i. will-append i F (takes ids ∷ []) _ ∙ each p i (has_id ids i) refl;
      part = λ i h. parted_le i G false (has_id ids i) (λ e. absurd (false≢true e)) (p.part i h);
      part_there = λ i h. parted-append i F (takes ids) _ (p.part_there i h) tt;
      front = p.front;
      front_there = front-append F (takes ids) p.front_there (λ e. absurd (false≢true e));
      short = λ h. refl;
      short_there = λ h. let c = count-append is_clears F (takes ids ∷ []) in p.short_there (omega arith);
    };
    gone = λ ea. absurd (false≢true ea);
    gone_there = λ eb ea i h.
        let c = count-append (is_adds i) F (takes ids ∷ []) in
        let z = b.gone_there eb refl i (will_le i G false (has_id ids i) (λ e. absurd (false≢true e)) h) in omega arith;
  }
    where
      each : Pair mine theirs (here (Some ids)) B F G → (i : LinkId) → (c : Bool) → has_id ids i ≡ c
          → (not (has_id ids i) && will i (has i (entry B)) F) ≡ will i false G
      each p i true e =
          let t = b.left.token i in
          let d : one_if (has_id ids i) ≡ 1 = rw e refl in
          let z = will_not i G (omega arith) in rw (e, z) refl
      each p i false e = let z : will i (has i (entry B)) F ≡ will i false G = p.same i ∙ ap (λ c. will i c G) e in rw e z

  -- the end of one that holds nothing
  pub ends_free : Bond made mine theirs (here None) B F G → Bond made mine theirs over B F G
  ends_free b = record {
    left =
        less made mine theirs (here None) over G G b.left (λ i h. h) (omega arith) (λ i. omega arith) (λ i. omega arith)
        (λ e. absurd (false≢true e));
    right = b.right;
    whole = λ ea. absurd (true≢false ea);
    gone = λ ea eb i h. will_adds i G (sym ((b.whole refl eb).same i) ∙ h);
    gone_there = λ eb ea. absurd (true≢false ea);
  }

  -- the end of one that holds ids
  pub ends_held : (ids : Ids) → Bond made mine theirs (here (Some ids)) B F G → Bond made mine theirs over B (F ++ clears ids ∷ []) G
  ends_held ids b = record {
    left =
        less made mine theirs (here (Some ids)) over G G b.left (λ i h. absurd (false≢true h)) (omega arith) (λ i. omega arith)
        (λ i. omega arith) (λ e. absurd (false≢true e));
    right = removal made theirs mine B F (clears ids) (held_made ids b) (λ i. refl) b.right;
    whole = λ ea. absurd (true≢false ea);
    gone = λ ea eb i h.
        let k : (not (has_id ids i) && will i (has i (entry B)) F) ≡ true = sym (will-append i F (clears ids ∷ []) _) ∙ h in
        let q = and_parts (not (has_id ids i)) (will i (has i (entry B)) F) k in
        let n = not-true (has_id ids i) q.0 in
        will_adds i G (sym (ap (λ c. will i c G) n) ∙ sym ((b.whole refl eb).same i) ∙ q.1);
    gone_there = λ eb ea. absurd (true≢false ea);
  }

  -- a signal comes to a live process
  pub take_in : (o : Option Ids) (x : Tie) → Bond made mine theirs (here o) B F (x ∷ G) → Bond made mine theirs (here (got o x)) B F G
  take_in o x b = record {
    left = taken made mine theirs o x G b.left;
    right = b.right;
    whole = λ ea eb. let p = b.whole refl eb in record {
      same = λ i. p.same i ∙ ap (λ z. will i z G) (sym (exact p i x refl));
      part = λ i h. subst (λ z. Parted i z G) (sym (exact p i x refl)) (p.part i h).1;
      part_there = p.part_there;
      front = p.front.1;
      front_there = p.front_there;
      short = λ h. shorter p x refl h;
      short_there = p.short_there;
    };
    gone = λ ea. absurd (false≢true ea);
    gone_there = λ eb ea i h. b.gone_there eb refl i (will_le i G _ _ (got_has i o x) h);
  }
    where
      room : (j : LinkId) → Pair mine theirs (here o) B F (adds j ∷ G) → Side made mine theirs (here o) (adds j ∷ G) → full o ≡ false
      room j p s = full_not mine o (λ i h. own i h (mine i) refl) s.one
        where
          own : (i : LinkId) → has i o ≡ true → (c : Bool) → mine i ≡ c → mine i ≡ true
          own i h true e = e
          own i h false e = absurd (both_ways _ (p.part i e).0 h)

      exact : Pair mine theirs (here o) B F (x ∷ G) → (i : LinkId) → (y : Tie) → x ≡ y → has i (got o x) ≡ turn i x (has i o)
      exact p i (adds j) e =
          let q : Pair mine theirs (here o) B F (adds j ∷ G) = subst (λ z. Pair mine theirs (here o) B F (z ∷ G)) e p in
          let s : Side made mine theirs (here o) (adds j ∷ G) = subst (λ z. Side made mine theirs (here o) (z ∷ G)) e b.left in
          subst (λ z. has i (got o z) ≡ turn i z (has i o)) (sym e) (has_entered i o j (room j q s))
      exact p i (takes ids) e = subst (λ z. has i (got o z) ≡ turn i z (has i o)) (sym e) (has_cut i ids o)
      exact p i (clears ids) e =
          let q : Pair mine theirs (here o) B F (clears ids ∷ G) = subst (λ z. Pair mine theirs (here o) B F (z ∷ G)) e p in
          subst (λ z. has i (got o z) ≡ turn i z (has i o)) (sym e) (has_cleared i ids o (q.short (omega arith)))

      shorter : Pair mine theirs (here o) B F (x ∷ G) → (y : Tie) → x ≡ y → 1 ≤ count is_clears G → full (got o x) ≡ false
      shorter p (adds j) e h =
          let q : Pair mine theirs (here o) B F (adds j ∷ G) = subst (λ z. Pair mine theirs (here o) B F (z ∷ G)) e p in
          let z = q.front.0 refl in absurd (omega arith)
      shorter p (takes ids) e h = subst (λ z. full (got o z) ≡ false) (sym e) (full_cut ids o (p.short (omega arith)))
      shorter p (clears ids) e h = subst (λ z. full (got o z) ≡ false) (sym e) (full_cleared _ o (p.short (omega arith)))

  -- a removal comes to one that is not alive
  pub ignored : (A : Seen) → ((i : LinkId) → has i (entry A) ≡ false) → (x : Tie) → ((i : LinkId) → is_adds i x ≡ false)
      → Bond made mine theirs A B F (x ∷ G) → Bond made mine theirs A B F G
  ignored A none x not_new b = record {
    left = popped made mine theirs A A x G b.left (λ i h. h) (omega arith) (λ e. e);
    right = b.right;
    whole = λ ea eb. let p = b.whole ea eb in record {
      same = λ i. p.same i ∙ ap (λ z. will i z G) (still i _ (none i));
      part = λ i h. subst (λ z. Parted i z G) (still i _ (none i)) (p.part i h).1;
      part_there = p.part_there;
      front = p.front.1;
      front_there = p.front_there;
      short = λ h. p.short (omega arith);
      short_there = p.short_there;
    };
    gone = λ ea eb i h. let z = b.gone ea eb i h in let c : one_if (is_adds i x) ≡ 0 = rw (not_new i) refl in omega arith;
    gone_there = λ eb ea i h. b.gone_there eb ea i (subst (λ z. will i z G ≡ true) (sym (still i _ (none i))) h);
  }
    where
      still : (i : LinkId) (c : Bool) → c ≡ false → turn i x c ≡ c
      still i true e = absurd (true≢false e)
      still i false e = turn_none i x (not_new i)

  returned_right : (A : Seen) (j : LinkId) → Bond made mine theirs A B F (adds j ∷ G) → Side made theirs mine B (F ++ clears (one_id j) ∷ [])
  returned_right A j b =
      removal made theirs mine B F (clears (one_id j)) (λ i m. let z = (zero_parts (names i) (adds j) G (b.left.new i m)).0 in rw z refl)
      (λ i. refl) b.right

  -- a Link comes to one that is not born, and goes back
  pub returned_before : (j : LinkId) → Bond made mine theirs before B F (adds j ∷ G) → Bond made mine theirs before B (F ++ clears (one_id j) ∷ []) G
  returned_before j b = record {
    left = popped made mine theirs before before (adds j) G b.left (λ i h. h) (omega arith) (λ e. e);
    right = returned_right before j b;
    whole = λ ea eb. let p = b.whole refl eb in record {
      same = λ i. will-append i F (clears (one_id j) ∷ []) _ ∙ each p i (same_link i j) refl;
      part = λ i h. parted_le i G false _ (λ e. absurd (false≢true e)) (p.part i h).1;
      part_there = λ i h. parted-append i F (clears (one_id j)) _ (p.part_there i h) tt;
      front = p.front.1;
      front_there = front-append F (clears (one_id j)) p.front_there (λ e k. untied made theirs mine B F b.right k (b.left.unborn refl k));
      short = λ h. refl;
      short_there = λ h. full_not theirs (entry B) (λ i k. or_first (theirs i) (mine i) (b.left.unborn refl i) (b.right.known i k)) b.right.one;
    };
    gone = λ ea. absurd (false≢true ea);
    gone_there = λ eb ea i h.
        let c = count-append (is_adds i) F (clears (one_id j) ∷ []) in
        let z = b.gone_there eb refl i (will_le i G false _ (λ e. absurd (false≢true e)) h) in omega arith;
  }
    where
      each : Pair mine theirs before B F (adds j ∷ G) → (i : LinkId) → (c : Bool) → same_link i j ≡ c
          → (not (same_link i j || false) && will i (has i (entry B)) F) ≡ will i false G
      each p i true e =
          let t = b.left.token i in
          let d : one_if (same_link i j) ≡ 1 = rw e refl in
          let z = will_not i G (omega arith) in rw (e, z) refl
      each p i false e = let z : will i (has i (entry B)) F ≡ will i false G = p.same i ∙ ap (λ c. will i (c || false) G) e in rw e z

  -- a Link comes to one that has ended, and goes back
  pub returned_over : (j : LinkId) → Bond made mine theirs over B F (adds j ∷ G) → Bond made mine theirs over B (F ++ clears (one_id j) ∷ []) G
  returned_over j b = record {
    left = popped made mine theirs over over (adds j) G b.left (λ i h. h) (omega arith) (λ e. e);
    right = returned_right over j b;
    whole = λ ea. absurd (true≢false ea);
    gone = λ ea eb i h.
        let k : (not (same_link i j || false) && will i (has i (entry B)) F) ≡ true = sym (will-append i F (clears (one_id j) ∷ []) _) ∙ h in
        let q = and_parts (not (same_link i j || false)) (will i (has i (entry B)) F) k in
        let n = (or_parts (same_link i j) false (not-true (same_link i j || false) q.0)).0 in
        let d : one_if (same_link i j) ≡ 0 = rw n refl in
        let z = b.gone refl eb i q.1 in omega arith;
    gone_there = λ eb ea. absurd (true≢false ea);
  }

  -- a birth that does not link the two
  pub born_alone : Bond made mine theirs before B F G → Bond made mine theirs (here None) B F G
  born_alone b = record {
    left =
        less made mine theirs before (here None) G G b.left (λ i h. h) (omega arith) (λ i. omega arith) (λ i. omega arith)
        (λ e. absurd (false≢true e));
    right = b.right;
    whole = λ ea eb. let p = b.whole refl eb in record {
      same = p.same;
      part = p.part;
      part_there = p.part_there;
      front = p.front;
      front_there = p.front_there;
      short = p.short;
      short_there = p.short_there;
    };
    gone = λ ea. absurd (false≢true ea);
    gone_there = λ eb ea. b.gone_there eb refl;
  }

  -- ids are made for other pairs
  pub made_elsewhere : (made2 : LinkId → Bool) → ((i : LinkId) → made2 i ≡ false → made i ≡ false) → (A : Seen)
      → Bond made mine theirs A B F G → Bond made2 mine theirs A B F G
  made_elsewhere made2 h A b = record {
    left = made_more made mine theirs made2 h A G b.left;
    right = made_more made theirs mine made2 h B F b.right;
    whole = b.whole;
    gone = b.gone;
    gone_there = b.gone_there;
  }

-- a birth that links the child, here, and the parent, there, where the parent made no link to it before
module _ (made mine theirs : LinkId → Bool) (F G : List Tie) (o : Option Ids) (j : LinkId) (fresh : made j ≡ false)
    (none : (i : LinkId) → theirs i ≡ false) where
  unheld : Bond made mine theirs before (here o) F G → (i : LinkId) → has i o ≡ false
  unheld b i = go (has i o) refl
    where
      go : (c : Bool) → has i o ≡ c → has i o ≡ false
      go true e = absurd (not_or (theirs i) (mine i) (none i) (b.left.unborn refl i) (b.right.known i e))
      go false e = e

  one_bond : Bond made mine theirs before (here o) F G → Bond (plus j made) mine (plus j theirs) (here (Some (one_id j))) (here (Some (one_id j))) F G
  one_bond b = record {
    left = record {
      new = λ i m. b.left.new i (older i m);
      own = λ i m. b.left.own i (older i m);
      known = λ i h. or_right (mine i) (plus j theirs i) (is_new i h);
      tied = λ i h. let z = none_to i in absurd (omega arith);
      one = one_if_single (mine j);
      token = λ i. let z = none_to i in let y = one_if_one (same_link i j || false) in omega arith;
      unborn = λ e. absurd (false≢true e);
    };
    right = record {
      new = λ i m. b.right.new i (older i m);
      own = λ i m. let q = or_parts (same_link i j) (made i) m in rw q.0 (b.right.own i q.1);
      known = λ i h. or_left (plus j theirs i) (mine i) (is_new i h);
      tied = λ i h. let z = none_from i in absurd (omega arith);
      one = one_if_single (plus j theirs j);
      token = λ i. let z = none_from i in let y = one_if_one (same_link i j || false) in omega arith;
      unborn = λ e. absurd (false≢true e);
    };
    whole = λ ea eb. let p = b.whole refl refl in record {
      same = λ i. each p i (same_link i j) refl;
      part = λ i h. parted_none i G _ none_to;
      part_there = λ i h. parted_none i F _ none_from;
      front = p.front;
      front_there = p.front_there;
      short = λ h. refl;
      short_there = λ h. refl;
    };
    gone = λ ea. absurd (false≢true ea);
    gone_there = λ eb. absurd (false≢true eb);
  }
    where
      older : (i : LinkId) → plus j made i ≡ false → made i ≡ false
      older i h = (or_parts (same_link i j) (made i) h).1

      none_to : (i : LinkId) → count (is_adds i) G ≡ 0
      none_to i = untied made mine theirs before G b.left i (none i)

      none_from : (i : LinkId) → count (is_adds i) F ≡ 0
      none_from i = untied made theirs mine (here o) F b.right i (b.left.unborn refl i)

      is_new : (i : LinkId) → (same_link i j || false) ≡ true → plus j theirs i ≡ true
      is_new i h = or_left (same_link i j) (theirs i) (or_first (same_link i j) false refl h)

      each : Pair mine theirs before (here o) F G → (i : LinkId) → (c : Bool) → same_link i j ≡ c
          → will i (same_link i j || false) F ≡ will i (same_link i j || false) G
      each p i true e =
          let m = subst (λ z. made z ≡ false) (sym (same_link_is i j e)) fresh in
          let y = will_unnamed i F true (b.right.new i m) in let z = will_unnamed i G true (b.left.new i m) in rw e (y ∙ sym z)
      each p i false e = let z : will i false F ≡ will i false G = ap (λ c. will i c F) (sym (unheld b i)) ∙ p.same i in rw e z

  pub born_linked : Bond made mine theirs before (here o) F G
      → Bond (plus j made) mine (plus j theirs) (here (Some (one_id j))) (here (Some (entered o j))) F G
  born_linked b =
      subst (λ o. Bond (plus j made) mine (plus j theirs) (here (Some (one_id j))) (here (Some (entered o j))) F G)
      (sym (empty_entry o (unheld b))) (one_bond b)
