-- A member at its place in the map of a crew.
use Rattle.std.proofs.Common.{◌≡◌, ◌↔◌, ℕ, zero, suc, ◌+◌, ◌<◌, Bool, true, false, cond, not, IsTrue, List, [], ◌∷◌, length, get_or, slice_get, Some, None, is_some, refl, sym, ap, subst, ◌∙◌, true≢false, lt-ltb, arith}
use Rattle.std.specs.Prelude.{nat_lt, unwrap_or}
use Rattle.std.specs.List.{IsDistinct, position_or_len}
use Rattle.std.specs.Cmp.{IsEquivalence}
use Rattle.std.specs.Map.{lookup_key, keys_of}
use Rattle.std.specs.Option.{option_map}
use Rattle.std.proofs.lemmas.Option.{slice_get-map, slice_get_within, get_or_from_slice_get}
use Rattle.std.proofs.lemmas.Map.Keys.{IsDistinct-tail, apart_from_distinct}
use Rattle.std.proofs.lemmas.Map.Made.{lookup_key_passes}
use Rattle.std.proofs.lemmas.Map.Entries.{hash_map_get_place}
use Rattle.indexmap.specs.IndexMap.{IndexMap, get, index_of_by, with_value_at, IsUnique, Updates}
use Rattle.indexmap.proofs.MapLemmas.{Found-position}
use Rattle.indexmap.proofs.CallerLemmas.{updates-with_value_at}
use Rattle.pt_signal.specs.declared.pid.Pid.{Pid}
use Rattle.pt_signal.specs.Values.{same_pid}
use Rattle.pt_signal.proofs.Same.{same_pid_refl, same_pid_is}

pub same_pid_sym : (p q : Pid) → same_pid p q ≡ same_pid q p
same_pid_sym p q = both (same_pid p q) (same_pid q p) refl refl
  where
    both : (a b : Bool) → same_pid p q ≡ a → same_pid q p ≡ b → a ≡ b
    both true true e f = refl
    both false false e f = refl
    both true false e f = let k : same_pid q p ≡ true = subst (λ (x : Pid). same_pid q x ≡ true) (sym (same_pid_is p q e)) (same_pid_refl q) in sym k ∙ f
    both false true e f = let k : same_pid p q ≡ true = subst (λ (x : Pid). same_pid p x ≡ true) (sym (same_pid_is q p f)) (same_pid_refl p) in sym e ∙ k

pub same_pid_laws : IsEquivalence same_pid
same_pid_laws = record {
  refl = same_pid_refl;
  symm = same_pid_sym;
  congr = λ p q r h. ap (λ (x : Pid). same_pid x r) (same_pid_is p q h);
}

module _ {X S : Type 0} (m : IndexMap Pid X S) (p : Pid) (i : ℕ) (k : Pid) (v : X)
    (index : Some i ≡ index_of_by (same_pid p) m) (at : slice_get m.entries i ≡ Some (k, v)) (unique : IsUnique same_pid m) where
  key_is : lookup_key (same_pid p) m.entries ≡ Some k
  key_is =
      (Found-position (same_pid p) m.entries i (sym index)).key
      ∙ slice_get-map (λ (e : Pid × X). e.0) m.entries i
      ∙ ap (option_map (λ (e : Pid × X). e.0)) at

  its_key : p ≡ k
  its_key = same_pid_is p k (lookup_key_passes (same_pid p) m.entries k key_is)

  -- the member is that of p
  pub held_at : get same_pid m p ≡ Some v
  held_at = subst (λ (q : Pid). get same_pid m q ≡ Some v) (sym its_key) (hash_map_get_place same_pid_laws m i k v unique at)

  -- and writing there writes that of p alone
  pub written_at : (w : X) → Updates same_pid m (with_value_at m i w) p (Some w)
  written_at w = subst (λ (q : Pid). Updates same_pid m (with_value_at m i w) q (Some w)) (sym its_key) (updates-with_value_at m i w same_pid_laws unique k v at)

-- no other key is equal to the one at a place, so that place is its index
module _ {X : Type 0} (p : Pid) (v : X) where
  key_at : (es : List (Pid × X)) (i : ℕ) → slice_get es i ≡ Some (p, v) → slice_get (keys_of es) i ≡ Some p
  key_at es i at = slice_get-map (λ (e : Pid × X). e.0) es i ∙ ap (option_map (λ (e : Pid × X). e.0)) at

  first_at : (es : List (Pid × X)) (i : ℕ) → IsDistinct same_pid (keys_of es) → slice_get es i ≡ Some (p, v) → position_or_len (same_pid p) (keys_of es) ≡ i
  first_at [] i d at = absurd (true≢false (sym (ap is_some at)))
  first_at (e ∷ es) zero d at =
      let same : same_pid p e.0 ≡ true = ap (λ u. same_pid p (unwrap_or u e).0) at ∙ same_pid_refl p in
      ap (λ b. cond (not b) (1 + position_or_len (same_pid p) (keys_of es)) 0) same
  first_at (e ∷ es) (suc i) d at =
      let key = key_at es i at in
      let within : suc i < length (keys_of (e ∷ es)) = omega (arith, slice_get_within (keys_of es) i p key) in
      let apart : same_pid e.0 (get_or (keys_of es) i p) ≡ false = apart_from_distinct same_pid (keys_of (e ∷ es)) 0 (suc i) p d (omega arith) within in
      let other : same_pid p e.0 ≡ false = same_pid_sym p e.0 ∙ ap (same_pid e.0) (sym (get_or_from_slice_get (keys_of es) i p p key)) ∙ apart in
      ap (λ b. cond (not b) (1 + position_or_len (same_pid p) (keys_of es)) 0) other
      ∙ ap (λ n. 1 + n) (first_at es i (IsDistinct-tail same_pid e.0 (keys_of es) d) at) ∙ omega arith

  index_at : {S : Type 0} (m : IndexMap Pid X S) (i : ℕ) → IsUnique same_pid m → slice_get m.entries i ≡ Some (p, v) → index_of_by (same_pid p) m ≡ Some i
  index_at m i unique at =
      let within : i < length (keys_of m.entries) = slice_get_within (keys_of m.entries) i p (key_at m.entries i at) in
      ap (λ n. cond (nat_lt n (length (keys_of m.entries))) (Some n) None) (first_at m.entries i unique at)
      ∙ ap (λ b. cond b (Some i) None) (lt-ltb i (length (keys_of m.entries)) within)

-- whether it is p that stands at a place
pub stands : {X S : Type 0} (m : IndexMap Pid X S) (p k : Pid) (i : ℕ) (v : X) (b : Bool) → IsUnique same_pid m → slice_get m.entries i ≡ Some (k, v) → b ≡ same_pid k p → IsTrue b ↔ (index_of_by (same_pid p) m ≡ Some i)
stands m p k i v b unique at is = (
  λ yes. index_at p v m i unique (subst (λ (q : Pid). slice_get m.entries i ≡ Some (q, v)) (same_pid_is k p (sym is ∙ yes)) at),
  λ index. is ∙ subst (λ (q : Pid). same_pid k q ≡ true) (sym (its_key m p i k v (sym index) at unique)) (same_pid_refl k),
)
