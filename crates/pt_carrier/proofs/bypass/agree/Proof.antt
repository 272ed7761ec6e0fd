-- Both borrows are opened: the halves of one name agree. Then they are closed as they were.
use Rattle.std.proofs.Common.{◌≡◌, ℕ, List, [], ◌∷◌, refl, sym, ap}
use mir.Syntax.{named}
use mir.Val.{Val, vunit, vptr}
use base.Fml.{ftrue, flft}
use types.Kit.{‵, raw, ◌⊛◌, ◌$◌, ◌∵◌, !, qed, done, move, keep, frame, split, split3, join, fsplit, fsplit3, fjoin, fjoin3, feq_i, rewrite, suffices}
use types.Run.{enter, of_opd, unit_lit, returns}
use types.ByLocal.{alloc_all, pass_all, free_all, look_at, sets}
use types.Tokens.{name_agree}
use contract.Monad.{fact}
use contract.Running.{tables}
use denote.RattleType.{owns}
use denote.Ref.{mut_vals, mut_Tells}
use denote.Signature.{plain, types_at}
use denote.Steps.{nothing, heard, opens, closes}
use denote.Triple.Walked.{Stays, says, stay_ref, Goes-ref, ends_at}
use Rattle.std.proofs.raw_atomic.Walks.{proved}
use Rattle.pt_signal.specs.declared.letter.Letter.{Letter}
use Rattle.pt_carrier.specs.Bypass.{log_coded, in_owns}
use Rattle.pt_carrier.specs.declared.bypass.OutBypass.{OutBypass}
use Rattle.pt_carrier.specs.declared.bypass.InBypass.{InBypass}
use Rattle.pt_carrier.specs.contracts.bypass.OutBypass as Out
use Rattle.pt_carrier.specs.contracts.bypass.InBypass as In
use Rattle.pt_carrier.specs.contracts.bypass.agree as f
use Rattle.pt_carrier.proofs.bypass.agree.Statement.{statement}
use Rattle.pt_carrier.proofs.bypass.agree.Code as code

abbrev stayed : Stays f.ended.signature.params f.ended.kept
stayed = (stay_ref (0 ∷ []) tt (plain (λ _. Out.the_row)), (stay_ref (1 ∷ []) tt (plain (λ _. In.the_row)), tt))

pub agree_spec : {M : Type 1} → statement M
agree_spec 𝓤 𝓛 𝓜 𝓡 wired =
    let c = f.clauses 𝓛 𝓜.mem 𝓡.returns in let 𝓣 = tables 𝓤 𝓛.H 𝓜 𝓡 𝓡.env in
    proved 𝓛 f.ended stayed c 𝓜 𝓡 (Goes-ref 𝓛 2 0 tt (plain (λ _. Out.the_row)), (Goes-ref 𝓛 2 1 tt (plain (λ _. In.the_row)), tt))
    f.Key.name code.function (code.unfolded 𝓤 𝓛.H 𝓜 𝓡 wired)
    (λ κs. (mut_vals, (mut_vals, tt))) (λ κs. (mut_Tells (named 0) κs.0 Out.the_row, (mut_Tells (named 1) κs.1.0 In.the_row, tt))) (λ κs qs bounds a g are.
    let b : ℕ = a.0.ref_ptr.0 in let o : ℕ = a.0.ref_ptr.1 in let h : OutBypass = a.0.now in
    let b' : ℕ = a.1.0.ref_ptr.0 in let o' : ℕ = a.1.0.ref_ptr.1 in let k : InBypass = a.1.0.now in
    let at : List Val × (List Val × Unit {0}) = (vptr b o ∷ [], (vptr b' o' ∷ [], tt)) in
    let x : List Letter × ℕ = (k.log, k.count) in let y : List Letter × ℕ = (h.log, h.count) in
    qed 𝓛 (((‵ (flft κs.0 qs.0) ⊛ ‵ (flft κs.1.0 qs.1.0) ⊛ ‵ ftrue) ⊛ ‵ (owns (types_at f.signature.params κs) a at)) ∷ raw (fact 𝓤 (k.name ≡ h.name)) ∷ []) ∵
    move ! (1 ∷ 0 ∷ []) $ heard ! (k.name ≡ h.name) (λ same.
    split ! $ split3 ! $ move ! (3 ∷ []) $ fsplit3 ! $ fsplit3 ! $ move ! (3 ∷ []) $ fsplit3 ! $ keep ! (1 ∷ 2 ∷ 8 ∷ 4 ∷ 5 ∷ 7 ∷ 9 ∷ []) $
    enter ! 𝓣.C 𝓣.Λ code.function (vptr b o ∷ vptr b' o' ∷ []) _ $ alloc_all ! (λ l. pass_all ! refl ((tt, tt), ((tt, tt), tt)) $
    sets ! (of_opd ! (unit_lit !)) refl (tt, tt) $
    opens ! tt In.the_row b' o' (λ vs'. move ! (1 ∷ []) $ fsplit ! $ move ! (6 ∷ 7 ∷ 8 ∷ []) $
    opens ! tt Out.the_row b o (λ vs. move ! (1 ∷ []) $ fsplit ! $
    rewrite ! 7 (λ (γ : ℕ). ‵ (in_owns γ k.log k.count)) same refl $ move ! (7 ∷ 1 ∷ []) $
    name_agree ! log_coded {x = x} {y = y} (λ e.
    rewrite ! 0 (λ (γ : ℕ). ‵ (in_owns γ k.log k.count)) (sym same) refl $ move ! (7 ∷ 0 ∷ []) $ fjoin ! $
    move ! (7 ∷ 0 ∷ 8 ∷ 9 ∷ 10 ∷ []) $ closes ! tt In.the_row k vs' b' o' $
    feq_i ! (List Val) (vptr b' o' ∷ []) (vptr b' o' ∷ []) refl $ fjoin3 ! $ nothing ! $ move ! (1 ∷ 0 ∷ []) $ fjoin ! $
    move ! (3 ∷ 2 ∷ []) $ fjoin ! $ move ! (3 ∷ 0 ∷ 4 ∷ 5 ∷ 6 ∷ []) $ closes ! tt Out.the_row h vs b o $
    feq_i ! (List Val) (vptr b o ∷ []) (vptr b o ∷ []) refl $ fjoin3 ! $
    move ! (0 ∷ 2 ∷ []) $ fjoin ! $ move ! (2 ∷ 3 ∷ []) $ join ! $ move ! (2 ∷ 0 ∷ []) $ join ! $
    returns ! (look_at ! 0 refl) $ free_all ! refl $
    suffices ! _ (ends_at 𝓛 f.ended stayed c ((κs, qs, bounds, a, at), g) vunit tt (h, (k, tt)) (tt, (tt, tt))) $
    says ! (ap (λ (p : List Letter × ℕ). p.0) e, ap (λ (p : List Letter × ℕ). p.1) e, refl, refl) $
    frame ! $ feq_i ! (List Val) (vunit ∷ []) (vunit ∷ []) refl $ move ! (1 ∷ 0 ∷ []) $ done !))))))
