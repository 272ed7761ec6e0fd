-- One side of a link: the entry of a pid for another, and the signals on their way to it.
use Rattle.std.proofs.Common.{◌≡◌, ◌+◌, ◌≤◌, Bool, true, false, ◌&&◌, ◌||◌, ◌⊎◌, inl, inr, List, [], ◌∷◌, ◌++◌, Option, Some, None, refl, sym, subst, arith}
use Rattle.std.proofs.lemmas.Bool.{false≢true, both_ways, or_parts, or_left, or_right, or_cases, and_parts}
use Rattle.pt_signal.specs.declared.ids.Ids.{Ids}
use Rattle.pt_signal.specs.declared.ids.LinkId.{LinkId}
use Rattle.pt_signal.specs.Values.{same_link}
use Rattle.pt_signal.specs.Process.{one_id}
use Rattle.pt_events.specs.Counting.{one_if, count}
use Rattle.pt_signal.proofs.Same.{same_link_is, same_link_refl}
use Rattle.pt_laws.proofs.monitoring.Counts.{count-append, count_narrower}
use Rattle.pt_laws.proofs.linking.Entries.{entered, cut_ids}
use Rattle.pt_laws.proofs.linking.Ties.{Tie, adds, takes, clears, names, is_adds}
use Rattle.pt_laws.proofs.linking.Takings.{has, got, mines, mines_entered, mines_cut, mines_cleared, entered_has, got_has}

-- what one pid is to another: not born, alive with an entry or none, or ended
pub data Seen : Type 0 where
  before : Seen
  here : Option Ids → Seen
  over : Seen

abbrev pub entry : Seen → Option Ids
entry before = None
entry (here o) = o
entry over = None

abbrev pub is_before : Seen → Bool
is_before before = true
is_before (here o) = false
is_before over = false

abbrev pub is_over : Seen → Bool
is_over before = false
is_over (here o) = false
is_over over = true

-- one more id
abbrev pub plus : LinkId → (LinkId → Bool) → LinkId → Bool
plus j m i = same_link i j || m i

-- made: the ids made so far; mine, theirs: those that this side and the other made for this pair
pub record Side (made mine theirs : LinkId → Bool) (A : Seen) (G : List Tie) : Type 0 where
  pub new : (i : LinkId) → made i ≡ false → count (names i) G ≡ 0
  pub own : (i : LinkId) → made i ≡ false → mine i ≡ false
  pub known : (i : LinkId) → has i (entry A) ≡ true → (mine i || theirs i) ≡ true
  pub tied : (i : LinkId) → 1 ≤ count (is_adds i) G → (theirs i ≡ true) × (mine i ≡ false)
  pub one : mines mine (entry A) ≤ 1
  pub token : (i : LinkId) → count (is_adds i) G + one_if (has i (entry A)) ≤ 1
  pub unborn : is_before A ≡ true → (i : LinkId) → mine i ≡ false

pub adds_named : (i : LinkId) (xs : List Tie) → count (is_adds i) xs ≤ count (names i) xs
adds_named i xs = count_narrower (is_adds i) (names i) adds_names xs
  where
    adds_names : (x : Tie) → is_adds i x ≡ true → names i x ≡ true
    adds_names (adds j) h = h
    adds_names (takes ids) h = absurd (false≢true h)
    adds_names (clears ids) h = absurd (false≢true h)

one_if_le : (b c : Bool) → (b ≡ true → c ≡ true) → one_if b ≤ one_if c
one_if_le true c h = rw h (omega arith)
one_if_le false c h = omega arith

not_or : (x y : Bool) → x ≡ false → y ≡ false → (x || y) ≡ true → ⊥
not_or x y e f h = both_ways (x || y) (rw (e, f) refl) h

module _ (made mine theirs : LinkId → Bool) where
  -- fewer ids and fewer letters
  pub less : (A A2 : Seen) (G G2 : List Tie) → Side made mine theirs A G
      → ((i : LinkId) → has i (entry A2) ≡ true → has i (entry A) ≡ true) → mines mine (entry A2) ≤ mines mine (entry A)
      → ((i : LinkId) → count (names i) G2 ≤ count (names i) G) → ((i : LinkId) → count (is_adds i) G2 ≤ count (is_adds i) G)
      → (is_before A2 ≡ true → is_before A ≡ true) → Side made mine theirs A2 G2
  less A A2 G G2 s held fewer named added born = record {
    new = λ i m. let a = s.new i m in let b = named i in omega arith;
    own = s.own;
    known = λ i h. s.known i (held i h);
    tied = λ i h. let b = added i in s.tied i (omega arith);
    one = let a = s.one in omega arith;
    token = λ i. let a = s.token i in let b = added i in let c = one_if_le (has i (entry A2)) (has i (entry A)) (held i) in omega arith;
    unborn = λ e. s.unborn (born e);
  }

  -- the oldest letter is gone
  pub popped : (A A2 : Seen) (x : Tie) (G : List Tie) → Side made mine theirs A (x ∷ G)
      → ((i : LinkId) → has i (entry A2) ≡ true → has i (entry A) ≡ true) → mines mine (entry A2) ≤ mines mine (entry A)
      → (is_before A2 ≡ true → is_before A ≡ true) → Side made mine theirs A2 G
  popped A A2 x G s held fewer born = less A A2 (x ∷ G) G s held fewer (λ i. omega arith) (λ i. omega arith) born

  and_last : (b c : Bool) → (b && c) ≡ true → c ≡ true
  and_last b c h = (and_parts b c h).1

  -- a signal comes to a live process
  pub taken : (o : Option Ids) (x : Tie) (G : List Tie) → Side made mine theirs (here o) (x ∷ G) → Side made mine theirs (here (got o x)) G
  taken o (takes ids) G s =
      popped (here o) (here (cut_ids o ids)) (takes ids) G s (λ i h. and_last _ _ (got_has i o (takes ids) h)) (mines_cut mine ids o)
      (λ e. e)
  taken o (clears ids) G s =
      popped (here o) (here (got o (clears ids))) (clears ids) G s (λ i h. and_last _ _ (got_has i o (clears ids) h))
      (mines_cleared mine _ o) (λ e. e)
  taken o (adds j) G s = record {
    new = λ i m. let a = s.new i m in omega arith;
    own = s.own;
    known = λ i h. by_case i (or_cases (same_link i j) (has i o) (entered_has i o j h));
    tied = λ i h. s.tied i (omega arith);
    one = let a = mines_entered mine o j in let b = s.one in let c : one_if (mine j) ≡ 0 = rw (from_them.1) refl in omega arith;
    token = λ i. counted i (same_link i j) refl (has i (Some (entered o j))) refl;
    unborn = λ e. absurd (false≢true e);
  }
    where
      from_them : (theirs j ≡ true) × (mine j ≡ false)
      from_them = s.tied j (let e : one_if (same_link j j) ≡ 1 = rw (same_link_refl j) refl in omega arith)

      by_case : (i : LinkId) → (same_link i j ≡ true) ⊎ (has i o ≡ true) → (mine i || theirs i) ≡ true
      by_case i (inl e) = or_right (mine i) (theirs i) (subst (λ z. theirs z ≡ true) (sym (same_link_is i j e)) from_them.0)
      by_case i (inr e) = s.known i e

      counted : (i : LinkId) → (b : Bool) → same_link i j ≡ b → (c : Bool) → has i (Some (entered o j)) ≡ c
          → count (is_adds i) G + one_if (has i (Some (entered o j))) ≤ 1
      counted i true e c f =
          let t = s.token i in let z : one_if (same_link i j) ≡ 1 = rw e refl in
          let y = one_if_le (has i (Some (entered o j))) true (λ h. refl) in omega arith
      counted i false e true f =
          let t = s.token i in
          let k : (same_link i j || has i o) ≡ true = entered_has i o j f in
          let k2 : has i o ≡ true = rw e at k in
          let z : one_if (has i o) ≡ 1 = rw k2 refl in
          let y : one_if (has i (Some (entered o j))) ≡ 1 = rw f refl in omega arith
      counted i false e false f = let t = s.token i in let y : one_if (has i (Some (entered o j))) ≡ 0 = rw f refl in omega arith

  -- more ids are made elsewhere
  pub made_more : (made2 : LinkId → Bool) → ((i : LinkId) → made2 i ≡ false → made i ≡ false) → (A : Seen) (G : List Tie)
      → Side made mine theirs A G → Side made2 mine theirs A G
  made_more made2 h A G s = record {
    new = λ i m. s.new i (h i m);
    own = λ i m. s.own i (h i m);
    known = s.known;
    tied = s.tied;
    one = s.one;
    token = s.token;
    unborn = s.unborn;
  }

  -- the other side sends a removal of ids that were made
  pub removal : (A : Seen) (G : List Tie) (x : Tie) → ((i : LinkId) → made i ≡ false → names i x ≡ false)
      → ((i : LinkId) → is_adds i x ≡ false) → Side made mine theirs A G → Side made mine theirs A (G ++ x ∷ [])
  removal A G x old none s = record {
    new = λ i m. let a = s.new i m in let b = count-append (names i) G (x ∷ []) in let c : one_if (names i x) ≡ 0 = rw (old i m) refl in omega arith;
    own = s.own;
    known = s.known;
    tied = λ i h. let a = same i in s.tied i (omega arith);
    one = s.one;
    token = λ i. let a = s.token i in let b = same i in omega arith;
    unborn = s.unborn;
  }
    where
      same : (i : LinkId) → count (is_adds i) (G ++ x ∷ []) ≡ count (is_adds i) G
      same i = let b = count-append (is_adds i) G (x ∷ []) in let c : one_if (is_adds i x) ≡ 0 = rw (none i) refl in omega arith

  module _ (j : LinkId) (fresh : made j ≡ false) where
    older : (i : LinkId) → plus j made i ≡ false → (made i ≡ false) × (same_link i j ≡ false)
    older i h = let q = or_parts (same_link i j) (made i) h in (q.1, q.0)

    -- this side says a Link
    pub said_mine : (G : List Tie) → Side made mine theirs (here None) G → Side (plus j made) (plus j mine) theirs (here (Some (one_id j))) G
    said_mine G s = record {
      new = λ i m. s.new i (older i m).0;
      own = λ i m. let q = older i m in rw (q.1, s.own i q.0) refl;
      known = λ i h. or_left (plus j mine i) (theirs i) (is_new i h);
      tied = λ i h. let q = s.tied i h in (q.0, not_new i h q.1 (same_link i j) refl);
      one = single (plus j mine j);
      token = λ i. counted i (same_link i j) refl;
      unborn = λ e. absurd (false≢true e);
    }
      where
        is_new : (i : LinkId) → (same_link i j || false) ≡ true → plus j mine i ≡ true
        is_new i h = go (same_link i j) h
          where
            go : (b : Bool) → (b || false) ≡ true → (b || mine i) ≡ true
            go true k = refl
            go false k = absurd (false≢true k)

        none : (i : LinkId) → same_link i j ≡ true → count (is_adds i) G ≡ 0
        none i e = let a = s.new i (subst (λ z. made z ≡ false) (sym (same_link_is i j e)) fresh) in let b = adds_named i G in omega arith

        not_new : (i : LinkId) → 1 ≤ count (is_adds i) G → mine i ≡ false → (b : Bool) → same_link i j ≡ b → plus j mine i ≡ false
        not_new i h k true e = let z = none i e in absurd (omega arith)
        not_new i h k false e = rw (e, k) refl

        single : (b : Bool) → one_if b + 0 ≤ 1
        single true = omega arith
        single false = omega arith

        counted : (i : LinkId) → (b : Bool) → same_link i j ≡ b → count (is_adds i) G + one_if (same_link i j || false) ≤ 1
        counted i true e = let z = none i e in let y : one_if (same_link i j || false) ≡ 1 = rw e refl in omega arith
        counted i false e = let t = s.token i in let y : one_if (same_link i j || false) ≡ 0 = rw e refl in omega arith

    -- the other side says a Link
    pub said_theirs : (A : Seen) (G : List Tie) → theirs j ≡ false → Side made mine theirs A G
        → Side (plus j made) mine (plus j theirs) A (G ++ adds j ∷ [])
    said_theirs A G unmade s = record {
      new =
          λ i m. let q = older i m in let a = s.new i q.0 in let b = count-append (names i) G (adds j ∷ []) in
          let c : one_if (same_link i j) ≡ 0 = rw q.1 refl in omega arith;
      own = λ i m. s.own i (older i m).0;
      known = λ i h. widened (mine i) (theirs i) (same_link i j) (s.known i h);
      tied = λ i h. joined i h (same_link i j) refl;
      one = s.one;
      token = λ i. counted i (same_link i j) refl;
      unborn = s.unborn;
    }
      where
        widened : (x y z : Bool) → (x || y) ≡ true → (x || (z || y)) ≡ true
        widened true y z h = refl
        widened false y true h = refl
        widened false y false h = h

        mine_not : (i : LinkId) → same_link i j ≡ true → mine i ≡ false
        mine_not i e = s.own i (subst (λ z. made z ≡ false) (sym (same_link_is i j e)) fresh)

        theirs_not : (i : LinkId) → same_link i j ≡ true → theirs i ≡ false
        theirs_not i e = subst (λ z. theirs z ≡ false) (sym (same_link_is i j e)) unmade

        joined : (i : LinkId) → 1 ≤ count (is_adds i) (G ++ adds j ∷ []) → (b : Bool) → same_link i j ≡ b
            → (plus j theirs i ≡ true) × (mine i ≡ false)
        joined i h true e = (rw e refl, mine_not i e)
        joined i h false e =
            let b = count-append (is_adds i) G (adds j ∷ []) in let c : one_if (same_link i j) ≡ 0 = rw e refl in
            let q = s.tied i (omega arith) in (rw e q.0, q.1)

        counted : (i : LinkId) → (b : Bool) → same_link i j ≡ b → count (is_adds i) (G ++ adds j ∷ []) + one_if (has i (entry A)) ≤ 1
        counted i true e =
            let b = count-append (is_adds i) G (adds j ∷ []) in let c : one_if (same_link i j) ≡ 1 = rw e refl in
            let a = s.new i (subst (λ z. made z ≡ false) (sym (same_link_is i j e)) fresh) in let d = adds_named i G in
            held (has i (entry A)) refl a b c d
          where
            held : (c : Bool) → has i (entry A) ≡ c → count (names i) G ≡ 0
                → count (is_adds i) (G ++ adds j ∷ []) ≡ count (is_adds i) G + (one_if (same_link i j) + 0) → one_if (same_link i j) ≡ 1
                → count (is_adds i) G ≤ count (names i) G → count (is_adds i) (G ++ adds j ∷ []) + one_if (has i (entry A)) ≤ 1
            held true f a b c d = absurd (not_or (mine i) (theirs i) (mine_not i e) (theirs_not i e) (s.known i f))
            held false f a b c d = let y : one_if (has i (entry A)) ≡ 0 = rw f refl in omega arith
        counted i false e =
            let b = count-append (is_adds i) G (adds j ∷ []) in let c : one_if (same_link i j) ≡ 0 = rw e refl in let t = s.token i in omega arith
