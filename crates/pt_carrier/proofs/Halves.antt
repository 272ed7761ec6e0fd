-- The halves of what went by a ring, as values of no bytes. Assumes `Logic`.
use Rattle.std.proofs.Common.{ℕ, List, [], ◌∷◌, refl}
use seplogic.Ra.Ura.{Ura}
use mir.Val.{Val, vstruct, vcons, vnil}
use base.Fml.{Fml}
use base.Logic.{ent, emp, sep}
use types.Logic.{Logic, sem}
use types.Kit.{‵, ◌$◌, ◌∵◌, !, qed, move, fjoin, fpack, feq_i, done}
use denote.RattleType.{RattleType, Valss}
use denote.Shadow.{makes_shadow}
use denote.Steps.{nothing}
use denote.Struct.Struct.{Struct, within}
use denote.Struct.Owning.{shape}
use denote.Struct.Declared as Declared
use denote.Struct.Tuple.{Tuple, tuple_type}
use Rattle.pt_carrier.specs.contracts.bypass.OutBypass as Out
use Rattle.pt_carrier.specs.contracts.bypass.InBypass as In

-- a value of no bytes, and a pair of such values
abbrev pub none_val : Val
none_val = vstruct vnil

abbrev pub pair_val : Val
pair_val = vstruct (vcons none_val (vcons none_val vnil))

-- what a half owns beside the ghost value: nothing
abbrev pub out_data : Fml
out_data = (Struct (shape Out.the_type)).own_val tt (none_val ∷ [])

abbrev pub in_data : Fml
in_data = (Struct (shape In.the_type)).own_val tt (none_val ∷ [])

pub out_made : {M : Type 1} {𝓤 : Ura M} (𝓛 : Logic 𝓤) → ent 𝓤 (emp 𝓤) (sem 𝓛 out_data)
out_made 𝓛 = makes_shadow 𝓛 out_data (λ uss. (tt, tt)) (tt, (refl, tt))

pub in_made : {M : Type 1} {𝓤 : Ura M} (𝓛 : Logic 𝓤) → ent 𝓤 (emp 𝓤) (sem 𝓛 in_data)
in_made 𝓛 = makes_shadow 𝓛 in_data (λ uss. (tt, tt)) (tt, (refl, tt))

pub pair_of : {M : Type 1} {𝓤 : Ura M} (𝓛 : Logic 𝓤) (R S : RattleType) (x : R.Denot) (y : S.Denot)
    → ent 𝓤 (sep 𝓤 (sem 𝓛 (R.own_val x (none_val ∷ []))) (sem 𝓛 (S.own_val y (none_val ∷ [])))) (sem 𝓛 ((Tuple (R ∷ S ∷ [])).own_val (x, y) (pair_val ∷ [])))
pair_of 𝓛 R S x y =
    qed 𝓛 (‵ (R.own_val x (none_val ∷ [])) ∷ ‵ (S.own_val y (none_val ∷ [])) ∷ []) ∵ nothing ! $ move ! (2 ∷ 0 ∷ []) $ fjoin ! $ move ! (1 ∷ 0 ∷ []) $ fjoin ! $
    feq_i ! (List Val) (pair_val ∷ []) (pair_val ∷ []) refl $ fjoin ! $
    fpack ! (Valss (R ∷ S ∷ [])) (within (Declared.shape (tuple_type (R ∷ S ∷ []))) (x, (y, tt)) (pair_val ∷ [])) (none_val ∷ [], (none_val ∷ [], tt)) $ done !
