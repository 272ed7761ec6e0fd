-- `Hearing::waiting`: its contract.
use Rattle.std.proofs.Common.{◌≡◌, Bool, true, false, cond, Some, None, List, length, refl, ap}
use Rattle.pt_auditor.proofs.hearing.Hearing.waiting.Goals as goal

counted : {X : Type 0} (b : Bool) (xs ys : List X) → Some xs ≡ cond b (Some ys) None → length xs ≡ cond b (length ys) 0
counted true xs ys h = let e : xs ≡ ys = cc in ap length e
counted false xs ys h = absurd (cc)

none : {X : Type 0} (b : Bool) (ys : List X) → None ≡ cond b (Some ys) None → 0 ≡ cond b (length ys) 0
none true ys h = absurd (cc)
none false ys h = refl

pub returns-in-Some : goal.returns-in-Some
returns-in-Some c = counted _ _ _ c.in-Some.ensures

pub returns-in-None : goal.returns-in-None
returns-in-None c = none _ _ c.in-None.ensures
