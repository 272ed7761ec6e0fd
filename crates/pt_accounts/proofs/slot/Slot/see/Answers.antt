-- `Slot::see`: its clause `versions`, and the invariant of `self`, and what its call of `see` asks.
use Rattle.std.proofs.Common.{◌≡◌, ◌∙◌, ◌==◌, ℕ, Some, cond, List, Result, Ok, Err, ap, sym, subst, arith, inl, inr, length, ◌+◌}
use Rattle.std.specs.Prelude.{IfSome, OnOk}
use Rattle.std.specs.Option.{option_map}
use Rattle.pt_accounts.specs.LifeState.{LifeState}
use Rattle.pt_accounts.specs.Table.{of_version}
use Rattle.pt_accounts.specs.SlotState.{lives_of}
use Rattle.pt_accounts.specs.Steps.{life_after, MaySee}
use Rattle.pt_accounts.proofs.SlotLives.{seen_newest, unseen, kept_slot, newest_at}
use Rattle.pt_accounts.proofs.slot.Slot.see.Goals as goal

-- where the slot is read by its parts
moved : (parts now : List LifeState) (new : List LifeState) (w : ℕ) (f : LifeState → LifeState) → parts ≡ now
    → ((v : ℕ) → of_version new v ≡ cond (w == v) (option_map f (of_version parts v)) (of_version parts v)) → (v : ℕ) → of_version new v ≡ cond (w == v) (option_map f (of_version now v)) (of_version now v)
moved parts now new w f e = subst (λ z. (v : ℕ) → of_version new v ≡ cond (w == v) (option_map f (of_version z v)) (of_version z v)) e

pub returns-in_default-clause-versions : goal.returns-in_default-clause-versions
returns-in_default-clause-versions c =
    let s = c.self.inside in
    let parts : List LifeState = lives_of s.desk s.slot s.forgotten.listed s.ended.items s.newest in
    moved parts c.args.self.now parts c.args.version (life_after c.args.event) c.self.view_is
    (unseen s.desk s.slot (length s.forgotten.listed + s.forgotten.room) s.forgotten.listed s.ended.items s.newest c.self.invariant c.args.version c.args.event (inl c.in_default.is) (subst (λ l. IfSome (of_version l c.args.version) (MaySee c.args.event)) (sym c.self.view_is) c.requires))

pub returns-then-version-before-clause-versions : goal.returns-then-version-before-clause-versions
returns-then-version-before-clause-versions c =
    let s = c.self.inside in
    let parts : List LifeState = lives_of s.desk s.slot s.forgotten.listed s.ended.items s.newest in
    let b = s.ended.ok.0 in
    subst (λ o. (v : ℕ) → of_version (lives_of s.desk s.slot s.forgotten.listed s.ended.items o) v ≡ cond (c.args.version == v) (option_map (life_after c.args.event) (of_version c.args.self.now v)) (of_version c.args.self.now v)) c.in-Some.is
    (moved parts c.args.self.now parts c.args.version (life_after c.args.event) c.self.view_is
    (unseen s.desk s.slot (length s.forgotten.listed + s.forgotten.room) s.forgotten.listed s.ended.items s.newest c.self.invariant c.args.version c.args.event (inr (λ e. c.if-version-before.true (omega arith))) (subst (λ l. IfSome (of_version l c.args.version) (MaySee c.args.event)) (sym c.self.view_is) c.requires)))

pub see-requires : goal.see-requires
see-requires c =
    let s = c.self.inside in
    let b = s.ended.ok.0 in
    let k = newest_at s.desk s.slot (length s.forgotten.listed + s.forgotten.room) s.forgotten.listed s.ended.items s.newest c.self.invariant c.args.version c.in-Some.life c.in-Some.is (omega arith) in
    let m : IfSome (Some c.in-Some.life) (MaySee c.args.event) = subst (λ o. IfSome o (MaySee c.args.event)) (sym (ap (λ l. of_version l c.args.version) c.self.view_is) ∙ k) c.requires in
    m

pub invariant_of-self-2 : goal.invariant_of-self-2
invariant_of-self-2 c =
    let s = c.self.inside in
    kept_slot s.desk s.slot (length s.forgotten.listed + s.forgotten.room) s.forgotten.listed s.ended.items s.newest c.self.invariant c.in-Some.life c.see.new.self c.in-Some.is c.see.ensures.pid

on_ok : {T E : Type 0} (P Q : Type 0) (r : Result T E) → (P → Q) → OnOk r P → OnOk r Q
on_ok P Q (Ok x) f h = f h
on_ok P Q (Err e) f h = h

pub returns-clause-versions : goal.returns-clause-versions
returns-clause-versions c =
    let s = c.self.inside in
    let parts : List LifeState = lives_of s.desk s.slot s.forgotten.listed s.ended.items s.newest in
    let b = s.ended.ok.0 in
    on_ok _ _ c.see.result
    (λ (e : c.see.new.self ≡ life_after c.args.event c.in-Some.life).
    moved parts c.args.self.now (lives_of s.desk s.slot s.forgotten.listed s.ended.items (Some c.see.new.self)) c.args.version (life_after c.args.event) c.self.view_is
    (seen_newest s.desk s.slot (length s.forgotten.listed + s.forgotten.room) s.forgotten.listed s.ended.items s.newest c.self.invariant c.args.version (life_after c.args.event) c.in-Some.life c.see.new.self c.in-Some.is (omega arith) e)) c.see.ensures.shown
