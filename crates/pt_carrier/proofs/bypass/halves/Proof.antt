-- A new ghost value: each half has it.
use Rattle.std.proofs.Common.{ℕ, List, [], ◌∷◌, refl}
use types.Kit.{‵, raw, ◌$◌, ◌∵◌, !, qed, done, move, keep, use0, use2, join, fjoin, suffices}
use types.Run.{enter, no_more, and_then, returns}
use types.Part.{agg}
use types.ByLocal.{alloc_all, pass_all, free_all, look_at, get, sets}
use types.Tokens.{name_new}
use contract.Running.{tables}
use denote.Steps.{nothing}
use denote.Struct.Tuple.{Tuple}
use denote.Triple.Entry.{on_entry}
use denote.Triple.Walked.{says, ends_at}
use Rattle.std.proofs.raw_atomic.Walks.{proved}
use Rattle.pt_carrier.specs.Bypass.{log_coded}
use Rattle.pt_carrier.specs.declared.bypass.OutBypass.{OutBypass}
use Rattle.pt_carrier.specs.declared.bypass.InBypass.{InBypass}
use Rattle.pt_carrier.specs.contracts.bypass.OutBypass as Out
use Rattle.pt_carrier.specs.contracts.bypass.InBypass as In
use Rattle.pt_carrier.specs.contracts.bypass.halves as f
use Rattle.pt_carrier.proofs.Halves.{none_val, pair_val, out_data, in_data, out_made, in_made, pair_of}
use Rattle.pt_carrier.proofs.bypass.halves.Statement.{statement}
use Rattle.pt_carrier.proofs.bypass.halves.Code as code

pub halves_spec : {M : Type 1} → statement M
halves_spec 𝓤 𝓛 𝓜 𝓡 wired =
    let c = f.clauses 𝓛 𝓜.mem 𝓡.returns in let 𝓣 = tables 𝓤 𝓛.H 𝓜 𝓡 𝓡.env in
    proved 𝓛 f.ended tt c 𝓜 𝓡 tt f.Key.name code.function (code.unfolded 𝓤 𝓛.H 𝓜 𝓡 wired)
    (λ κs. tt) (λ κs. tt) (λ κs qs bounds a g are.
    qed 𝓛 (raw (on_entry 𝓛 f.signature κs qs a tt) ∷ raw ((c κs a).requires g) ∷ []) ∵ keep ! [] $
    enter ! 𝓣.C 𝓣.Λ code.function [] _ $ alloc_all ! (λ l. pass_all ! refl tt $
    name_new ! tt (log_coded.code ([], 0)) (λ γ.
    let out : OutBypass = record { name = γ; log = []; count = 0 } in let into : InBypass = record { name = γ; log = []; count = 0 } in
    sets ! (agg ! (no_more !)) refl (tt, tt) $ sets ! (agg ! (no_more !)) refl (tt, tt) $
    sets ! (agg ! (and_then ! (get ! refl) (and_then ! (get ! refl) (no_more !)))) refl (tt, (tt, (tt, tt))) $
    use0 𝓛 (‵ in_data) (in_made 𝓛) $ fjoin ! $ move ! (1 ∷ 0 ∷ []) $ use0 𝓛 (‵ out_data) (out_made 𝓛) $ fjoin ! $
    use2 𝓛 (‵ ((Tuple (Out.the_row ∷ In.the_row ∷ [])).own_val (out, into) (pair_val ∷ []))) (pair_of 𝓛 Out.the_row In.the_row out into) $
    returns ! (look_at ! 0 refl) $ free_all ! refl $
    suffices ! _ (ends_at 𝓛 f.ended tt c ((κs, qs, bounds, a, tt), g) pair_val (out, into) tt tt) $ says ! (refl, refl, refl, refl, refl) $
    nothing ! $ join ! $ nothing ! $ done !)))
