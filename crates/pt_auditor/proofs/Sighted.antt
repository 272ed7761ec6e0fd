-- What is noted of the exits that desks have seen, with one more.
use Rattle.std.proofs.Common.{◌≡◌, ℕ, ◌==◌, nat_le, Bool, true, false, cond, ◌&&◌, ◌||◌, Option, Some, None, refl, ap, sym, ◌∙◌, arith}
use Rattle.std.specs.Map.{lookup}
use Rattle.std.proofs.lemmas.Bool.{and_parts, eqb-true, eqb-false, leb-true, leb-false}
use Rattle.pt_signal.specs.declared.pid.Pid.{Pid}
use Rattle.pt_auditor.specs.Seen.{SeenSlots, is_slot_of, is_upto, is_noted}

or_false : (b : Bool) → b ≡ (b || false)
or_false true = refl
or_false false = refl

eq_turned : (m n : ℕ) → (m == n) ≡ (n == m)
eq_turned m n = go (m == n) refl (n == m) refl
  where
    go : (a : Bool) → (m == n) ≡ a → (b : Bool) → (n == m) ≡ b → a ≡ b
    go true x true y = refl
    go false x false y = refl
    go true x false y = absurd (eqb-false n m y (sym (eqb-true m n x)))
    go false x true y = absurd (eqb-false m n x (sym (eqb-true n m y)))

-- the numbers of a slot
slot_is : (d : ℕ) (p : Pid) (e : ℕ) (q : Pid) → is_slot_of d p (e, q.shard, q.slot) ≡ true → (d ≡ e) × (p.shard ≡ q.shard) × (p.slot ≡ q.slot)
slot_is d p e q h =
    let x = and_parts ((d == e) && (p.shard == q.shard)) (p.slot == q.slot) h in
    let y = and_parts (d == e) (p.shard == q.shard) x.0 in
    (eqb-true d e y.0, eqb-true p.shard q.shard y.1, eqb-true p.slot q.slot x.1)

-- what was seen of one slot
abbrev top : SeenSlots → ℕ → Pid → Option ℕ
top noted d p = lookup (is_slot_of d p) noted

same_top : (noted : SeenSlots) (d : ℕ) (p : Pid) (e : ℕ) (q : Pid) → is_slot_of d p (e, q.shard, q.slot) ≡ true → top noted d p ≡ top noted e q
same_top noted d p e q h =
    let s = slot_is d p e q h in
    ap (λ n. lookup (λ (k : ℕ × ℕ × ℕ). (n == k.0) && (p.shard == k.1) && (p.slot == k.2)) noted) s.0
    ∙ ap (λ n. lookup (λ (k : ℕ × ℕ × ℕ). (e == k.0) && (n == k.1) && (p.slot == k.2)) noted) s.1
    ∙ ap (λ n. lookup (λ (k : ℕ × ℕ × ℕ). (e == k.0) && (q.shard == k.1) && (n == k.2)) noted) s.2

-- a version up to one that is not above the highest
upto_both : (o : Option ℕ) (v w : ℕ) → is_upto w o ≡ true → is_upto v o ≡ (nat_le v w || is_upto v o)
upto_both None v w h = absurd (cc)
upto_both (Some n) v w h = go (nat_le v w) refl (nat_le v n) refl
  where
    go : (a : Bool) → nat_le v w ≡ a → (b : Bool) → nat_le v n ≡ b → b ≡ (a || b)
    go true x true y = refl
    go true x false y = absurd (omega (arith, leb-true v w x, leb-true w n h, leb-false v n y))
    go false x b y = refl

-- and one up to a higher one
upto_higher : (o : Option ℕ) (v w : ℕ) → is_upto w o ≡ false → nat_le v w ≡ (nat_le v w || is_upto v o)
upto_higher None v w h = or_false (nat_le v w)
upto_higher (Some n) v w h = go (nat_le v w) refl (nat_le v n) refl
  where
    go : (a : Bool) → nat_le v w ≡ a → (b : Bool) → nat_le v n ≡ b → a ≡ (a || b)
    go true x b y = refl
    go false x false y = refl
    go false x true y = absurd (omega (arith, leb-false v w x, leb-true v n y, leb-false w n h))

-- nothing new is noted where it was noted before
pub noted_before : (noted : SeenSlots) (e : ℕ) (q : Pid) → is_noted noted e q ≡ true → (d : ℕ) (p : Pid)
    → is_noted noted d p ≡ (is_slot_of d p (e, q.shard, q.slot) && nat_le p.version q.version || is_noted noted d p)
noted_before noted e q h d p = go (is_slot_of d p (e, q.shard, q.slot)) refl
  where
    go : (b : Bool) → is_slot_of d p (e, q.shard, q.slot) ≡ b → is_noted noted d p ≡ (b && nat_le p.version q.version || is_noted noted d p)
    go false x = refl
    go true x =
        let same = same_top noted d p e q x in
        ap (is_upto p.version) same ∙ upto_both (top noted e q) p.version q.version h ∙ ap (λ o. nat_le p.version q.version || is_upto p.version o) (sym same)

-- a higher version is noted of a slot
pub noted_now : (old new : SeenSlots) (e : ℕ) (q : Pid)
    → ((k : ℕ × ℕ × ℕ) → lookup (λ (j : ℕ × ℕ × ℕ). (k.0 == j.0) && (k.1 == j.1) && (k.2 == j.2)) new
    ≡ cond ((e == k.0) && (q.shard == k.1) && (q.slot == k.2)) (Some q.version) (lookup (λ (j : ℕ × ℕ × ℕ). (k.0 == j.0) && (k.1 == j.1) && (k.2 == j.2)) old))
    → is_noted old e q ≡ false → (d : ℕ) (p : Pid)
    → is_noted new d p ≡ (is_slot_of d p (e, q.shard, q.slot) && nat_le p.version q.version || is_noted old d p)
noted_now old new e q u h d p = ap (is_upto p.version) (u (d, p.shard, p.slot)) ∙ go (is_slot_of d p (e, q.shard, q.slot)) refl
  where
    turned : is_slot_of e q (d, p.shard, p.slot) ≡ is_slot_of d p (e, q.shard, q.slot)
    turned =
        ap (λ b. b && (q.shard == p.shard) && (q.slot == p.slot)) (eq_turned e d) ∙ ap (λ b. (d == e) && b && (q.slot == p.slot)) (eq_turned q.shard p.shard)
        ∙ ap (λ b. (d == e) && (p.shard == q.shard) && b) (eq_turned q.slot p.slot)

    go : (b : Bool) → is_slot_of d p (e, q.shard, q.slot) ≡ b
        → is_upto p.version (cond (is_slot_of e q (d, p.shard, p.slot)) (Some q.version) (top old d p)) ≡ (b && nat_le p.version q.version || is_noted old d p)
    go false x = ap (λ b. is_upto p.version (cond b (Some q.version) (top old d p))) (turned ∙ x)
    go true x =
        let same = same_top old d p e q x in
        ap (λ b. is_upto p.version (cond b (Some q.version) (top old d p))) (turned ∙ x)
        ∙ upto_higher (top old e q) p.version q.version h ∙ ap (λ o. nat_le p.version q.version || is_upto p.version o) (sym same)
