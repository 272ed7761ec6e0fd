-- The machine value of a handle: a struct of one pointer.
use Rattle.std.proofs.Common.{◌≡◌, ℕ, zero, suc, List, [], ◌∷◌, ◌++◌, refl, ◌∙◌, lit<}
use Rattle.std.specs.Prelude.{Option, Some, None}
use denote.Builtin.{unit}
use denote.Signature.{Slot, plain}
use seplogic.Ra.Ura.{Ura}
use mir.Syntax.{ty_ptr, ty_struct, tcons, tnil}
use mir.Val.{Val, vstruct, vcons, vnil, of_list}
use base.Logic.{ent, emp, never, fst∗, snd∗, via, guard, guard_i}
use base.Fml.{Fml}
use base.Fraction.{full_share}
use types.Logic.{Logic, sem}
use types.Kit.{Item, Goal, Seq, ‵, given, ◌$◌, drop, fpick, learn, use1}
use contract.Monad.{fact_use}
use mir.Raw.{raw as bare}
use denote.Memory.{lone}
use denote.RattleType.{RattleType}
use denote.RawPtr.{Ptr, RawPtr, block_ptr, null_ptr, ptr_val, lies_at, in_a_block, Testable}
use denote.Shadow.{shadow, makes_shadow}
use denote.Struct.Struct.{Struct}
use Rattle.core.proofs.cell.Inside.{Good}
use Rattle.std_heap.proofs.GlobalToken.{dealloc_token-Testable}
use Rattle.std_alloc.specs.Box.Ownership.{box_owns}
use Rattle.pt_c_values.specs.Held.{held_on_heap, freeing}

abbrev pub plainly : List RattleType → RattleType
plainly Rs = Struct (record { name = []; args = []; types = []; fields = Rs })

pub ptr_typed : (p : Ptr) → Good ty_ptr (ptr_val p)
ptr_typed (block_ptr b o) = (tt, tt)
ptr_typed null_ptr = (tt, record { fits = lit< tt })

abbrev pub one_val : Ptr → Val
one_val p = vstruct (vcons (ptr_val p) vnil)

abbrev pub one_own : Ptr → List Val → Fml
one_own p = (plainly (RawPtr ∷ [])).own_val (p, tt)

pub one_told : (p : Ptr) (vs : List Val) → shadow (one_own p vs) → vs ≡ one_val p ∷ []
one_told p vs s = s.1.0 ∙ (λ i. vstruct (of_list (s.1.1.0 i ++ [])) ∷ [])

pub one_made : {M : Type 1} {𝓤 : Ura M} (𝓛 : Logic 𝓤) (p : Ptr) → ent 𝓤 (emp 𝓤) (sem 𝓛 (one_own p (one_val p ∷ [])))
one_made 𝓛 p = makes_shadow 𝓛 (one_own p (one_val p ∷ [])) (λ _. (tt, (tt, tt))) ((ptr_val p ∷ [], tt), (refl, (refl, tt)))

pub one_typed : (p : Ptr) → Good (ty_struct [] (tcons ty_ptr tnil)) (one_val p)
one_typed (block_ptr b o) = (tt, (tt, tt))
one_typed null_ptr = (tt, (record { fits = lit< tt }, tt))

abbrev pub slot_at : {n : ℕ} → ℕ → List (Slot n) → Slot n
slot_at k [] = plain (λ _. unit)
slot_at zero (s ∷ ss) = s
slot_at (suc k) (s ∷ ss) = slot_at k ss

-- a handle that owns nothing is null, and one that owns a value may be compared with null
module _ (R : RattleType) {M : Type 1} {𝓤 : Ura M} (𝓛 : Logic 𝓤) where
  tested : (p : Ptr) (x : R.Denot) → ent 𝓤 (sem 𝓛 (box_owns freeing R p x)) (guard 𝓤 (Testable p) (sem 𝓛 (box_owns freeing R p x)))
  tested p x = fact_use 𝓤 (Testable p) (via 𝓤 _ (snd∗ 𝓤 (sem 𝓛 (lies_at R full_share p x)) (sem 𝓛 (freeing (bare (lone R.mir)) p))) (dealloc_token-Testable 𝓛 (record { memory = record { seal = tt } }) (bare (lone R.mir)) p)) (guard_i 𝓤 (Testable p) (sem 𝓛 (box_owns freeing R p x)))

module _ (R : RattleType) {M : Type 1} {𝓤 : Ura M} {𝓛 : Logic 𝓤} {K : Type 0} {Γ : List (Item 𝓤)} {G : Goal 𝓤 𝓛.H} where
  pub either_held : K → (h : Option R.Denot) (p : Ptr)
      → (h ≡ None → p ≡ null_ptr → Seq K 𝓛 Γ G)
      → ((b o : ℕ) (x : R.Denot) → h ≡ Some x → p ≡ block_ptr b o → Testable (block_ptr b o) → Seq K 𝓛 (‵ (box_owns freeing R (block_ptr b o) x) ∷ Γ) G)
      → Seq K 𝓛 (‵ (held_on_heap R h p) ∷ Γ) G
  either_held t None p none some = fpick t (λ e. drop t $ none refl e)
  either_held t (Some x) p none some =
      in_a_block t p (λ q. box_owns freeing R q x) (fst∗ 𝓤 (never 𝓤) (sem 𝓛 (freeing (bare (lone R.mir)) null_ptr))) (λ b o e.
      use1 𝓛 (given (Testable (block_ptr b o)) (‵ (box_owns freeing R (block_ptr b o) x))) (tested R 𝓛 (block_ptr b o) x) $ learn t (λ u. some b o x refl e u))
