-- The walks of the three functions that each type of handles has: `none`, `of` and `into_loose`. Their code is the same for
-- each type, since a handle is a struct of one pointer. Assumes `Logic`.
use Rattle.std.proofs.Common.{◌≡◌, List, [], ◌∷◌, ◌++◌, refl, sym, ap, ◌∙◌, subst, lit<}
use Rattle.std.specs.Prelude.{Option, Some, None}
use Rattle.std.specs.Option.{option_map}
use mathlib.Core.Bool.{true, ◌&&◌}
use lib.Dec.{T}
use seplogic.Ra.Ura.{Ura}
use mir.Syntax.{Fn, Callee, Sym, Ty, local, value_local, ty_ptr, ty_bool, ty_struct, tcons, tnil, seq, assign, cond, return, place, field, copy, int, rv_opd, op2, ptr_eq, aggregate, w8, w64}
use mir.Val.{Val, vptr, vcons, vnil, has_ty}
use base.Logic.{SProp, emp}
use base.Fml.{Fml, ftrue, fsep}
use prog.Wp.{WpFn, Closed, Calls, Loops}
use prog.Model.{Model}
use contract.Monad.{fact, fact_i}
use contract.Running.{Running, tables}
use types.Logic.{Logic}
use types.Kit.{‵, raw, ◌⊛◌, prop, at_ret, ◌$◌, ◌∵◌, !, qed, by, move, keep, drop, use0, use1, split, regoal, rewrite, fsplit, fjoin, fpack}
use types.Part.{whole, sub, agg}
use types.Match.{live}
use types.Run.{stop, fld, lit, bin, of_opd, no_more, and_then, first, branches, exec, returns, enter}
use types.ByLocal.{alloc_all, pass_all, free_all, look_at, get, get_in, sets, sets_last, env}
use denote.Exit.{yes, Last, left}
use denote.RattleType.{RattleType, owns}
use denote.RawPtr.{Ptr, block_ptr, null_ptr, tests_null}
use denote.Shadow.{shadow}
use denote.Signature.{plain, types_at}
use denote.Param.{layout}
use denote.Param.Mute.{blank}
use denote.Steps.{nothing}
use denote.Triple.Clauses.{Ended, Clauses, closing}
use denote.Triple.Entry.{alive}
use denote.Triple.Spec.{Meets}
use denote.Triple.Walked.{Stays, stay_dropped, walk_of}
use Rattle.core.specs.contracts.option.Option as option
use Rattle.core.proofs.alloc.Calls.{Goes-blank}
use Rattle.core.proofs.alloc.Shapes.{after}
use Rattle.core.proofs.cell.Inside.{Good}
use Rattle.core.proofs.option.Made.{Some-of, none_of}
use Rattle.std.proofs.raw_atomic.Walks.{proved_at, leaves}
use Rattle.std_alloc.proofs.ResultValues.{and_tt}
use Rattle.std_heap.specs.contracts.Global as Heap
use Rattle.std_heap.proofs.Global.TheLaws as heap
use Rattle.std_heap.proofs.Handle.{heap_val, heap_Tells}
use Rattle.std_heap.specs.contracts.GlobalAllocator.TheImpl.{ghosts}
use Rattle.pt_c_values.specs.Held.{held_on_heap}
use Rattle.pt_c_values.proofs.Values.{both, Loose, loose_in, loose_out, loose_good}
use Rattle.pt_c_values.proofs.Handles.{slot_at, one_val, one_own, one_made, one_told, one_typed, either_held}

-- what makes a type one of handles on values of R: a handle is a pointer, and owns what is held there
pub record IsHandle (H R : RattleType) : Type 1 where
  pub name : Sym
  pub at : H.Denot → Ptr
  pub state : H.Denot → Option R.Denot
  pub owned : (x : H.Denot) (vs : List Val) → H.own_val x vs ≡ fsep (one_own (at x) vs) (held_on_heap R (state x) (at x))
  pub made : Ptr → Option R.Denot → H.Denot
  pub made_is : (p : Ptr) (s : Option R.Denot) (vs : List Val) → H.own_val (made p s) vs ≡ fsep (one_own p vs) (held_on_heap R s p)
  pub states : (p : Ptr) (s : Option R.Denot) → state (made p s) ≡ s
  -- nothing is said of one that is used up
  pub last : (x : H.Denot) → Last (H.exit yes) x
  pub gone : (x : H.Denot) (f : Last (H.exit yes) x) → T (blank (left (H.exit yes) x f))

abbrev Z : RattleType
Z = Heap.the_row

module _ (H R : RattleType) (w : IsHandle H R) where
  abbrev one_ty : Ty
  one_ty = ty_struct w.name (tcons ty_ptr tnil)

  abbrev Lr : RattleType
  Lr = Loose R Z heap.the_row_laws ghosts

  abbrev Out : RattleType
  Out = option.the_row Lr

  -- the code, with what each ensures

  abbrev pub none_code : Fn
  none_code = record {
    lifetimes = 0;
    outlives = [];
    ty_params = [];
    givens = 0;
    params = 0;
    locals = local one_ty value_local ∷ [];
    body = seq (assign (place 0 []) (aggregate (int w64 0 ∷ []))) return;
  }

  abbrev none_ended : Ended
  none_ended = record {
    signature = record { lifetimes = 0; outlives = []; params = []; result = plain (λ κs. H) };
    kept = tt;
  }

  abbrev pub of_code : Fn
  of_code = record {
    lifetimes = 0;
    outlives = [];
    ty_params = [];
    givens = 0;
    params = 1;
    locals = local one_ty value_local ∷ local (layout Lr) value_local ∷ local ty_ptr value_local ∷ local ty_ptr value_local ∷ [];
    body =
        seq (assign (place 2 []) (rv_opd (copy (place 1 (field 0 ∷ [])))))
        (seq (assign (place 3 []) (rv_opd (copy (place 2 []))))
        (seq (assign (place 0 []) (aggregate (copy (place 3 []) ∷ []))) return));
  }

  abbrev of_ended : Ended
  of_ended = record {
    signature = record { lifetimes = 0; outlives = []; params = plain (λ κs. Lr) ∷ []; result = plain (λ κs. H) };
    kept = (yes, tt);
  }

  abbrev pub into_code : Fn
  into_code = record {
    lifetimes = 0;
    outlives = [];
    ty_params = [];
    givens = 0;
    params = 2;
    locals =
        local (layout Out) value_local ∷ local one_ty value_local ∷ local (layout Z) value_local ∷ local ty_ptr value_local
        ∷ local ty_ptr value_local ∷ local ty_bool value_local ∷ local (layout Out) value_local ∷ local (layout Lr) value_local ∷ [];
    body =
        seq (assign (place 3 []) (rv_opd (copy (place 1 (field 0 ∷ [])))))
        (seq (assign (place 5 []) (op2 ptr_eq (copy (place 3 [])) (int w64 0)))
        (seq
        (cond (copy (place 5 []))
        (assign (place 6 []) (aggregate (int w8 0 ∷ [])))
        (seq (assign (place 4 []) (rv_opd (copy (place 3 []))))
        (seq (assign (place 7 []) (aggregate (copy (place 4 []) ∷ copy (place 2 []) ∷ [])))
        (assign (place 6 []) (aggregate (int w8 1 ∷ copy (place 7 []) ∷ []))))))
        (seq (assign (place 0 []) (rv_opd (copy (place 6 [])))) return)));
  }

  abbrev into_ended : Ended
  into_ended = record {
    signature = record { lifetimes = 0; outlives = []; params = plain (λ κs. H) ∷ plain (λ κs. Z) ∷ []; result = plain (λ κs. Out) };
    kept = (yes, (yes, tt));
  }

  module _ {M : Type 1} {𝓤 : Ura M} (𝓛 : Logic 𝓤) where
    abbrev none_clauses : Clauses 𝓤 none_ended
    none_clauses κs a = record { ghost = Unit {0}; requires = λ g. emp 𝓤; ensures = λ g r e. fact 𝓤 (w.state r ≡ None) }

    abbrev of_clauses : Clauses 𝓤 of_ended
    of_clauses κs a = record { ghost = Unit {0}; requires = λ g. emp 𝓤; ensures = λ g r e. fact 𝓤 (w.state r ≡ Some a.0.value) }

    abbrev into_clauses : Clauses 𝓤 into_ended
    into_clauses κs a = record {
      ghost = Unit {0};
      requires = λ g. emp 𝓤;
      ensures = λ g r e. fact 𝓤 (option_map (λ (l : Lr.Denot). l.value) r ≡ w.state a.0);
    }

    module _ (𝓜 : Model 𝓤 𝓛.H) (𝓡 : Running 𝓤 𝓛.H 𝓜) (key : Callee) where
      abbrev C : Calls 𝓤 𝓛.H
      C = (tables 𝓤 𝓛.H 𝓜 𝓡 𝓡.env).C

      abbrev Λ : Loops 𝓤 𝓛.H
      Λ = (tables 𝓤 𝓛.H 𝓜 𝓡 𝓡.env).Λ

      -- `none` makes a handle that owns nothing
      pub makes_none : Closed 𝓤 𝓛.H C Λ key none_code → Meets 𝓛 none_ended.signature (C key) (closing 𝓛 none_ended none_clauses)
      makes_none closed =
          let stays : Stays none_ended.signature.params none_ended.kept = tt in
          proved_at 𝓛 none_ended stays none_clauses 𝓜 𝓡 tt key none_code closed (λ z are.
          let Post : Val → SProp 𝓤 = (walk_of 𝓛 none_ended stays none_clauses).post z in
          let x : H.Denot = w.made null_ptr None in
          qed 𝓛 ((raw (alive 𝓛 none_ended.signature z.0.0 z.0.1) ⊛ ‵ (owns (types_at none_ended.signature.params z.0.0) z.0.3 z.0.4)) ∷ ‵ ftrue ∷ []) ∵ move ! (1 ∷ []) $ drop ! $ split ! $ move ! (1 ∷ []) $ drop ! $
          enter ! C Λ none_code [] Post $
          alloc_all ! (λ l. pass_all ! refl tt $
          sets ! (agg ! (and_then ! (lit ! tt) (no_more !))) refl (one_typed null_ptr) $
          returns ! (look_at ! 0 refl) $ free_all ! refl $
          -- [the tokens]
          use0 𝓛 (raw (fact 𝓤 (w.state x ≡ None))) (fact_i 𝓤 (w.state x ≡ None) (emp 𝓤) (w.states null_ptr None)) $
          nothing ! $ fpack ! (null_ptr ≡ null_ptr) (λ _. ftrue) refl $
          use0 𝓛 (‵ (one_own null_ptr (one_val null_ptr ∷ []))) (one_made 𝓛 null_ptr) $ fjoin ! $
          rewrite ! 0 (λ (F : Fml). ‵ F) (sym (w.made_is null_ptr None (one_val null_ptr ∷ []))) refl $
          nothing ! $ move ! (3 ∷ 0 ∷ 1 ∷ 2 ∷ []) $
          by ! (leaves 𝓛 none_ended stays none_clauses z (one_val null_ptr) x tt tt)))

      -- `of` makes a handle of the pointer to a value
      pub makes_of : Closed 𝓤 𝓛.H C Λ key of_code → Meets 𝓛 of_ended.signature (C key) (closing 𝓛 of_ended of_clauses)
      makes_of closed =
          let stays : Stays of_ended.signature.params of_ended.kept = (stay_dropped (slot_at 0 of_ended.signature.params) of_ended.kept.0, tt) in
          proved_at 𝓛 of_ended stays of_clauses 𝓜 𝓡 (Goes-blank 𝓛 0 (slot_at 0 of_ended.signature.params) of_ended.kept.0 (λ κs x f. tt), tt) key of_code closed (λ z are.
          let Post : Val → SProp 𝓤 = (walk_of 𝓛 of_ended stays of_clauses).post z in
          let d = z.0.3.0 in
          qed 𝓛 ((raw (alive 𝓛 of_ended.signature z.0.0 z.0.1) ⊛ ‵ (owns (types_at of_ended.signature.params z.0.0) z.0.3 z.0.4)) ∷ ‵ ftrue ∷ []) ∵ move ! (1 ∷ []) $ drop ! $ split ! $ move ! (1 ∷ []) $ fsplit ! $
          loose_out R Z heap.the_row_laws ghosts ! d z.0.4.0 (λ b o h e ws fits.
          let x : H.Denot = w.made (block_ptr b o) (Some d.value) in
          -- [the value with the right to free it; the handle of the heap; nothing; the tokens]
          keep ! (0 ∷ 3 ∷ []) $
          regoal ! (λ (us : List Val). prop (WpFn 𝓤 𝓛.H C Λ of_code us Post)) (λ i. ws i ++ []) refl $
          enter ! C Λ of_code (both (vptr b o) h ∷ []) Post $
          alloc_all ! (λ l. pass_all ! refl (loose_good R Z heap.the_row_laws ghosts b o h fits, tt) $
          sets ! (of_opd ! (get_in ! (fld ! refl (stop !)) (sub ! 0 refl (whole !)))) refl (tt, tt) $
          sets ! (of_opd ! (get ! refl)) refl (tt, tt) $
          sets ! (agg ! (and_then ! (get ! refl) (no_more !))) refl (one_typed (block_ptr b o)) $
          returns ! (look_at ! 0 refl) $ free_all ! refl $
          -- [the value; the tokens]
          use0 𝓛 (‵ (one_own (block_ptr b o) (one_val (block_ptr b o) ∷ []))) (one_made 𝓛 (block_ptr b o)) $ fjoin ! $
          rewrite ! 0 (λ (F : Fml). ‵ F) (sym (w.made_is (block_ptr b o) (Some d.value) (one_val (block_ptr b o) ∷ []))) refl $
          use0 𝓛 (raw (fact 𝓤 (w.state x ≡ Some d.value))) (fact_i 𝓤 (w.state x ≡ Some d.value) (emp 𝓤) (w.states (block_ptr b o) (Some d.value))) $
          nothing ! $ nothing ! $ fjoin ! $ move ! (3 ∷ 0 ∷ 2 ∷ 1 ∷ []) $
          by ! (leaves 𝓛 of_ended stays of_clauses z (one_val (block_ptr b o)) x (tt, tt) (tt, tt)))))

      -- `into_loose` takes the pointer out of a handle, and tests it
      pub takes_out : Closed 𝓤 𝓛.H C Λ key into_code → Meets 𝓛 into_ended.signature (C key) (closing 𝓛 into_ended into_clauses)
      takes_out closed =
          let ps = into_ended.signature.params in
          let stays : Stays ps into_ended.kept = (stay_dropped (slot_at 0 ps) into_ended.kept.0, (stay_dropped (slot_at 1 ps) into_ended.kept.1.0, tt)) in
          proved_at 𝓛 into_ended stays into_clauses 𝓜 𝓡 (Goes-blank 𝓛 0 (slot_at 0 ps) into_ended.kept.0 (λ κs x f. w.gone x f), (Goes-blank 𝓛 0 (slot_at 1 ps) into_ended.kept.1.0 (λ κs x f. tt), tt)) key into_code closed (λ z are.
          let Post : Val → SProp 𝓤 = (walk_of 𝓛 into_ended stays into_clauses).post z in
          let x : H.Denot = z.0.3.0 in
          let a = z.0.3.1.0 in
          let at_heap : z.0.4.1.0 ≡ heap_val ∷ [] = heap_Tells a z.0.4.1.0 are.1.0 in
          let told = one_told (w.at x) z.0.4.0 (subst shadow (w.owned x z.0.4.0) are.0).0 in
          qed 𝓛 ((raw (alive 𝓛 into_ended.signature z.0.0 z.0.1) ⊛ ‵ (owns (types_at ps z.0.0) z.0.3 z.0.4)) ∷ ‵ ftrue ∷ []) ∵ move ! (1 ∷ []) $ drop ! $
          split ! $ move ! (1 ∷ []) $ fsplit ! $ rewrite ! 0 (λ (F : Fml). ‵ F) (w.owned x z.0.4.0) refl $ fsplit ! $ drop ! $
          -- [what the handle owns; the heap's handle; the tokens]
          either_held R ! (w.state x) (w.at x)
          (λ none null.
          let at_self : z.0.4.0 ≡ one_val null_ptr ∷ [] = told ∙ ap (λ (p : Ptr). one_val p ∷ []) null in
          fsplit ! $ drop ! $ drop ! $
          -- [the tokens]
          regoal ! (λ (us : List Val). prop (WpFn 𝓤 𝓛.H C Λ into_code us Post)) (λ i. at_self i ++ (at_heap i ++ [])) refl $
          enter ! C Λ into_code (one_val null_ptr ∷ heap_val ∷ []) Post $
          alloc_all ! (λ l. let Ev = env into_code.locals l in pass_all ! refl (one_typed null_ptr, ((tt, ((tt, tt), tt)), tt)) $
          sets ! (of_opd ! (get_in ! (fld ! refl (stop !)) (sub ! 0 refl (whole !)))) refl (tt, record { fits = lit< tt }) $
          sets ! (bin ! (get ! refl) (lit ! tt) tt) refl (tt, tt) $ first ! $ branches ! (get ! refl)
          (λ _. sets_last ! (agg ! (and_then ! (lit ! tt) (no_more !))) refl (tt, (record { fits = lit< tt }, tt)) $
          exec ! C Λ Ev (after 3 into_code.body) (at_ret Ev Post) $ sets ! (of_opd ! (get ! refl)) refl (tt, (record { fits = lit< tt }, tt)) $
          returns ! (look_at ! 0 refl) $ free_all ! refl $
          use0 𝓛 (‵ (Out.own_val None (live 0 vnil ∷ []))) (none_of 𝓛 Lr) $
          use0 𝓛 (raw (fact 𝓤 (None ≡ w.state x))) (fact_i 𝓤 (None ≡ w.state x) (emp 𝓤) (sym none)) $
          nothing ! $ nothing ! $ fjoin ! $ nothing ! $ fjoin ! $ move ! (3 ∷ 0 ∷ 2 ∷ 1 ∷ []) $
          by ! (leaves 𝓛 into_ended stays into_clauses z (live 0 vnil) None (w.last x, (tt, tt)) (tt, (tt, tt)))) (λ wrong. absurd wrong)))
          (λ b o s some is test.
          let r : Lr.Denot = record { at = block_ptr b o; alloc = a; value = s } in
          let both_val : Val = both (vptr b o) heap_val in
          let typed = loose_good R Z heap.the_row_laws ghosts b o heap_val (tt, ((tt, tt), tt)) in
          let full : Val = live 1 (vcons both_val vnil) in
          let good : Good (layout Out) full = (and_tt (has_ty (layout Z) heap_val && true) typed.0, (record { fits = lit< tt }, (typed.1, tt))) in
          let at_self : z.0.4.0 ≡ one_val (block_ptr b o) ∷ [] = told ∙ ap (λ (p : Ptr). one_val p ∷ []) is in
          move ! (1 ∷ []) $ fsplit ! $ move ! (1 ∷ []) $ drop ! $
          rewrite ! 0 (λ (us : List Val). ‵ (Z.own_val a us)) at_heap refl $
          -- [the heap's handle; the value with the right to free it; the tokens]
          regoal ! (λ (us : List Val). prop (WpFn 𝓤 𝓛.H C Λ into_code us Post)) (λ i. at_self i ++ (at_heap i ++ [])) refl $
          enter ! C Λ into_code (one_val (block_ptr b o) ∷ heap_val ∷ []) Post $
          alloc_all ! (λ l. let Ev = env into_code.locals l in pass_all ! refl (one_typed (block_ptr b o), ((tt, ((tt, tt), tt)), tt)) $
          sets ! (of_opd ! (get_in ! (fld ! refl (stop !)) (sub ! 0 refl (whole !)))) refl (tt, tt) $
          sets ! (bin ! (get ! refl) (lit ! tt) (tests_null (block_ptr b o) test)) refl (tt, tt) $ first ! $ branches ! (get ! refl) (λ wrong. absurd wrong)
          (λ _. sets ! (of_opd ! (get ! refl)) refl (tt, tt) $
          sets ! (agg ! (and_then ! (get ! refl) (and_then ! (get ! refl) (no_more !)))) refl typed $
          sets_last ! (agg ! (and_then ! (lit ! tt) (and_then ! (get ! refl) (no_more !)))) refl good $
          exec ! C Λ Ev (after 3 into_code.body) (at_ret Ev Post) $ sets ! (of_opd ! (get ! refl)) refl good $
          returns ! (look_at ! 0 refl) $ free_all ! refl $
          move ! (1 ∷ 0 ∷ []) $ loose_in R Z heap.the_row_laws ghosts ! b o heap_val a s $
          use1 𝓛 (‵ (Out.own_val (Some r) (full ∷ []))) (Some-of 𝓛 Lr r both_val) $
          use0 𝓛 (raw (fact 𝓤 (Some s ≡ w.state x))) (fact_i 𝓤 (Some s ≡ w.state x) (emp 𝓤) (sym some)) $
          nothing ! $ nothing ! $ fjoin ! $ nothing ! $ fjoin ! $ move ! (3 ∷ 0 ∷ 2 ∷ 1 ∷ []) $
          by ! (leaves 𝓛 into_ended stays into_clauses z full (Some r) (w.last x, (tt, tt)) (tt, (tt, tt)))))))
