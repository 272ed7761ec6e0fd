-- A worker that counts its quiet turns has taken as many, one after the other.
use Rattle.std.proofs.Common.{◌≡◌, ℕ, zero, suc, ◌+◌, ◌≤◌, Bool, true, false, cond, leb, leb-true, inl, inr, refl, sym, ap, subst, ◌∙◌, min, arith}
use Rattle.pt_desk.specs.DeskState.{DeskState}
use Rattle.pt_workers.specs.Running.{BeginsAs, TakesTurn, TakesTurns, WorkRelation, always, begins_by}
use Rattle.pt_workers.specs.declared.work.Standing.TheVariants.{Going, Done}
use Rattle.example_uses.specs.declared.until_quiet.UntilQuiet.{UntilQuiet}
use Rattle.example_uses.specs.Quiet.{EndsQuietly, QuietTurns, did_nothing, quiet_standing, within}

module _ {W : Type 0} (work : WorkRelation W) (number budget : ℕ) where
  abbrev Pair : Type 0
  Pair = DeskState × UntilQuiet W

  -- the last n of these turns did nothing
  abbrev EndsWith : ℕ → ℕ → Pair → Pair → Type 0
  EndsWith n count old new =
      (before : ℕ) × (mid : Pair) × (before + n ≡ count) × TakesTurns (begins_by quiet_standing always number) (within work) budget before old mid
      × QuietTurns (within work) budget n mid new

  enough_stays : (count : ℕ) (old new : Pair) → TakesTurns (begins_by quiet_standing always number) (within work) budget count old new → new.1.enough ≡ old.1.enough
  enough_stays zero old new same = ap (λ (p : Pair). p.1.enough) same
  enough_stays (suc count) old new (last, took, begins, turn) = turn.hears.2 ∙ turn.step.2 ∙ enough_stays count old last took

  -- one turn more
  one_more : (n count : ℕ) (old last new : Pair) (b : Bool) → TakesTurns (begins_by quiet_standing always number) (within work) budget (suc count) old new → (turn : TakesTurn (within work) budget last new) → did_nothing turn.turned ≡ b
      → n ≤ new.1.quiet → ((m : ℕ) → m ≤ last.1.quiet → EndsWith m count old last) → EndsWith n (suc count) old new
  one_more zero count old last new b took turn is le earlier = (suc count, new, omega arith, took, refl)
  one_more (suc m) count old last new true took turn is le earlier =
      let counted : new.1.quiet ≡ min (last.1.quiet + 1) 18446744073709551615 =
      turn.hears.1 ∙ ap (λ t. cond t (min (turn.worked.quiet + 1) 18446744073709551615) 0) is ∙ ap (λ n. min (n + 1) 18446744073709551615) turn.step.1 in
      let so = earlier m (omega (arith, le, counted)) in
      (so.0, so.1, (let e = so.2 in omega (arith, e)), so.3, (last, so.4, turn, is))
  one_more (suc m) count old last new false took turn is le earlier =
      let none : new.1.quiet ≡ 0 = turn.hears.1 ∙ ap (λ t. cond t (min (turn.worked.quiet + 1) 18446744073709551615) 0) is in
      absurd (omega (arith, le, none))

  ends_with : (count : ℕ) (old new : Pair) → old.1.quiet ≡ 0 → TakesTurns (begins_by quiet_standing always number) (within work) budget count old new → (n : ℕ) → n ≤ new.1.quiet → EndsWith n count old new
  ends_with zero old new fresh same n le =
      let none : n ≡ 0 = let e = ap (λ (p : Pair). p.1.quiet) same in omega (arith, e, fresh, le) in
      let sum : 0 + n ≡ 0 = omega (arith, none) in
      (0, old, sum, refl, subst (λ k. QuietTurns (within work) budget k old new) (sym none) same)
  ends_with (suc count) old new fresh (last, took, begins, turn) n le =
      one_more n count old last new (did_nothing turn.turned) (last, took, begins, turn) turn refl le (ends_with count old last fresh took)

  -- whoever did not begin a turn had had enough
  had_enough : (task : UntilQuiet W) (b : Bool) → leb task.enough task.quiet ≡ b → BeginsAs (cond b Done Going) (always number 0) false → task.enough ≤ task.quiet
  had_enough task true is begins = leb-true task.enough task.quiet is
  had_enough task false is begins = absurd (let e : false ≡ true = begins in cc)

pub ends_quietly : {W : Type 0} (work : WorkRelation W) → EndsQuietly work
ends_quietly {W} work number turns budget old new run fresh =
    elim run.ends [
      | inl all ↦ inl all
      | inr early ↦
          let enough : new.1.enough ≤ new.1.quiet = had_enough work number budget new.1 (leb new.1.enough new.1.quiet) refl early.1 in
          let same = enough_stays work number budget run.count old new run.took in
          inr (ends_with work number budget run.count old new fresh run.took old.1.enough (omega (arith, enough, same)))
    ]
