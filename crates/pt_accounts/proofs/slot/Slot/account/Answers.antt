-- `Slot::account`: its contract, and what its call of `account` asks.
use Rattle.std.proofs.Common.{◌≡◌, ◌∙◌, ◌-◌, ◌+◌, ◌≤◌, ◌^◌, ℕ, suc, zero, List, [], ◌∷◌, Some, None, length, slice_get, ap, sym, subst, arith}
use Rattle.std.specs.Prelude.{IfSome}
use Rattle.std.specs.Option.{option_map}
use Rattle.pt_accounts.specs.Table.{of_version}
use Rattle.pt_accounts.specs.SlotState.{IsCounted}
use Rattle.std.proofs.lemmas.Option.{slice_get_within, get_or_from_slice_get}
use Rattle.pt_signal.specs.declared.reason.Reason.{Reason}
use Rattle.pt_accounts.specs.LifeState.{account_of}
use Rattle.pt_accounts.proofs.SlotLives.{early_known, late_known}
use Rattle.pt_accounts.proofs.slot.Slot.account.Goals as goal
use Rattle.pt_accounts.proofs.slot.Slot.account.Goals.{After-recent}

-- where nothing is found the list is not longer
past_all : (rs : List Reason) (k : ℕ) → slice_get rs k ≡ None → length rs ≤ k
past_all [] k h = omega arith
past_all (r ∷ rs) zero h = absurd (cc)
past_all (r ∷ rs) (suc k) h = let rest = past_all rs k h in omega (arith, rest)

-- its reason is not among those of the forgotten ones
behind : (c : After-recent) → length c.self.inside.forgotten.listed ≤ c.args.version - 1
behind c = past_all c.self.inside.forgotten.listed (c.args.version - 1) (sym c.get.ensures ∙ c.in_default.is)

known : (c : After-recent) → option_map (λ life. life.now) c.recent.result ≡ of_version c.args.self.now c.args.version
known c =
    let s = c.self.inside in
    let b = behind c in
    late_known s.desk s.slot (length s.forgotten.listed + s.forgotten.room) s.forgotten.listed s.ended.items s.newest c.self.invariant c.args.self.now c.args.version (c.args.version - 1 - c.len-before.result) c.as_slice.result.now
    (option_map (λ life. life.now) c.recent.result) c.self.view_is (omega (arith, b, c.len-before.ensures.len, c.if-version-eq0.false)) c.as_slice.ensures.value c.recent.ensures

pub returns-in-Some : goal.returns-in-Some
returns-in-Some c =
    let s = c.self.inside in
    let place = c.args.version - 1 in
    let found : slice_get s.forgotten.listed place ≡ Some c.in-Some.reason = sym c.get.ensures ∙ c.in-Some.is in
    let k = early_known s.desk s.slot (length s.forgotten.listed + s.forgotten.room) s.forgotten.listed s.ended.items s.newest c.self.invariant c.args.self.now c.args.version c.in-Some.reason c.self.view_is c.if-version-eq0.false
    (slice_get_within s.forgotten.listed place c.in-Some.reason found) (sym (get_or_from_slice_get s.forgotten.listed place c.in-Some.reason c.in-Some.reason found)) in
    ap Some c.forgotten.ensures ∙ sym (ap (option_map account_of) k)

pub overflow_sub-place-2 : goal.overflow_sub-place-2
overflow_sub-place-2 c =
    let b = past_all c.self.inside.forgotten.listed (c.args.version - 1) (sym c.get.ensures ∙ c.in_default.is) in
    omega (arith, b, c.len-before.ensures.len)

pub account-requires : goal.account-requires
account-requires c =
    let is : Some c.in-Some-recent.life.now ≡ of_version c.args.self.now c.args.version =
    ap (option_map (λ life. life.now)) (sym c.in-Some-recent.is) ∙ known (goal.at.account-requires c).After-recent in
    let k : IfSome (Some c.in-Some-recent.life.now) (IsCounted (2 ^ 64 - 1)) = subst (λ o. IfSome o (IsCounted (2 ^ 64 - 1))) (sym is) c.requires in
    omega (arith, k)

pub returns-in-Some-recent : goal.returns-in-Some-recent
returns-in-Some-recent c =
    ap Some c.account.ensures
    ∙ ap (option_map account_of) (ap (option_map (λ life. life.now)) (sym c.in-Some-recent.is) ∙ known (goal.at.returns-in-Some-recent c).After-recent)

pub returns-in-None : goal.returns-in-None
returns-in-None c =
    ap (option_map account_of) (ap (option_map (λ life. life.now)) (sym c.in-None.is) ∙ known (goal.at.returns-in-None c).After-recent)
