-- Which pids were born: those up to the latest version of their slot.
use Rattle.std.proofs.Common.{◌≡◌, ℕ, ◌+◌, ◌<◌, ◌∷◌, Bool, true, false, not, ◌&&◌, ◌==◌, Option, refl, sym, ap, ◌∙◌, subst, arith}
use Rattle.std.specs.Prelude.{nat_lt, nat_le, pred}
use Rattle.std.proofs.lemmas.Bool.{eqb-true, eq-eqb}
use Rattle.std.proofs.lemmas.Bool.Decides.{nat_tests}
use Rattle.pt_signal.specs.declared.pid.Pid.{Pid}
use Rattle.pt_signal.specs.declared.ids.LinkId.{LinkId}
use Rattle.pt_signal.specs.Values.{same_pid}
use Rattle.pt_signal.proofs.Same.{same_pid_refl, same_pid_is}
use Rattle.pt_events.specs.declared.event.Event.{Event}
use Rattle.pt_events.specs.declared.event.Event.TheVariants.{Born}
use Rattle.pt_events.specs.History.{Past, Start, Phase, unborn, living, ended, life, after, change, newborn, touches, is_unborn, is_ended, is_living, is_the}
use Rattle.pt_events.proofs.Phases.{each_branch, after_born}
use Rattle.pt_shard.specs.ShardState.{ShardState, past}
use Rattle.pt_shard.specs.Known.{issued_in, is_in_node, is_not_ahead, knows}
use Rattle.pt_shard.specs.Sound.{is_issued, BornAreIssued}

-- the event is a birth
abbrev pub is_any_birth : Event → Bool
is_any_birth (Born q parent link) = true
is_any_birth _ = false

change_unborn : (p : Pid) (e : Event) → is_any_birth e ≡ false → change p e unborn ≡ unborn
change_unborn p (Born q parent link) h = absurd (cc)
change_unborn p _ h = refl

same_birth : (p : Pid) (e : Event) (f : Phase) → is_any_birth e ≡ false → is_unborn (after p e f) ≡ is_unborn f
same_birth p e unborn h = each_branch (λ f. is_unborn f ≡ true) (touches p e) (change p e unborn) unborn (ap is_unborn (change_unborn p e h)) refl
same_birth p e (living s) h = after_born p e (living s) refl
same_birth p e (ended r s) h = after_born p e (ended r s) refl

pub issued_same : (start : Start) (before : Past) (e : Event) (slot : ℕ) → is_any_birth e ≡ false → issued_in start (e ∷ before) slot ≡ issued_in start before slot
issued_same start before (Born q parent link) slot h = absurd (cc)
issued_same start before _ slot h = refl

pub issued_kept : (start : Start) (desk : ℕ) (before : Past) (e : Event) → is_any_birth e ≡ false → BornAreIssued start desk before → BornAreIssued start desk (e ∷ before)
issued_kept start desk before e h k p = rw (same_birth p e (life start before p) h, issued_same start before e p.slot h) (k p)

other_version : (desk n : ℕ) (q p : Pid) → q.shard ≡ desk → q.version ≡ n + 1 → q.slot ≡ p.slot → same_pid p q ≡ false
    → ((p.shard == desk) && (nat_lt 0 p.version && nat_le p.version q.version)) ≡ ((p.shard == desk) && (nat_lt 0 p.version && nat_le p.version n))
other_version desk n q p here next slot other = grind (arith, nat_tests)

other_issued : (start : Start) (desk : ℕ) (before : Past) (q p : Pid) (parent : Option Pid) (link : Option LinkId) → q.shard ≡ desk → q.version ≡ issued_in start before q.slot + 1 → same_pid p q ≡ false
    → is_issued start desk (Born q parent link ∷ before) p ≡ is_issued start desk before p
other_issued start desk before q p parent link here next other = go (q.slot == p.slot) refl
  where
    go : (b : Bool) → (q.slot == p.slot) ≡ b → is_issued start desk (Born q parent link ∷ before) p ≡ is_issued start desk before p
    go true e =
        let slot : q.slot ≡ p.slot = eqb-true q.slot p.slot e in
        rw e (other_version desk (issued_in start before p.slot) q p here (next ∙ ap (λ s. issued_in start before s + 1) slot) slot other)
    go false e = rw e refl

same_issued : (start : Start) (desk : ℕ) (before : Past) (q : Pid) (parent : Option Pid) (link : Option LinkId) → q.shard ≡ desk → 0 < q.version → is_issued start desk (Born q parent link ∷ before) q ≡ true
same_issued start desk before q parent link here some = rw (eq-eqb q.slot q.slot refl) (grind (arith, nat_tests))

newborn_born : (parent : Option Pid) (link : Option LinkId) (f : Phase) → is_unborn (newborn parent link f) ≡ false
newborn_born parent link unborn = refl
newborn_born parent link (living s) = refl
newborn_born parent link (ended r s) = refl

other_birth : (q p : Pid) (parent : Option Pid) (link : Option LinkId) (f : Phase) → same_pid p q ≡ false → is_unborn (after p (Born q parent link) f) ≡ is_unborn f
other_birth q p parent link unborn h = rw h (each_branch (λ f. is_unborn f ≡ true) (is_the p parent) unborn unborn refl refl)
other_birth q p parent link (living s) h = after_born p (Born q parent link) (living s) refl
other_birth q p parent link (ended r s) h = after_born p (Born q parent link) (ended r s) refl

pub issued_more : (start : Start) (desk : ℕ) (before : Past) (q : Pid) (parent : Option Pid) (link : Option LinkId) → q.shard ≡ desk → q.version ≡ issued_in start before q.slot + 1
    → BornAreIssued start desk before → BornAreIssued start desk (Born q parent link ∷ before)
issued_more start desk before q parent link here next k p = go (same_pid p q) refl
  where
    go : (b : Bool) → same_pid p q ≡ b → is_unborn (life start (Born q parent link ∷ before) p) ≡ not (is_issued start desk (Born q parent link ∷ before) p)
    go true e =
        let at : is_unborn (life start (Born q parent link ∷ before) q) ≡ not (is_issued start desk (Born q parent link ∷ before) q)
        = rw (same_issued start desk before q parent link here (omega arith), same_pid_refl q) (newborn_born parent link (life start before q)) in
        subst (λ x. is_unborn (life start (Born q parent link ∷ before) x) ≡ not (is_issued start desk (Born q parent link ∷ before) x)) (sym (same_pid_is p q e)) at
    go false e = other_birth q p parent link (life start before p) e ∙ k p ∙ ap not (sym (other_issued start desk before q p parent link here next e))

-- the next version of a slot is of nobody yet, and the one before it was born
pub next_unborn : (start : Start) (desk : ℕ) (before : Past) (q : Pid) → BornAreIssued start desk before → q.version ≡ issued_in start before q.slot + 1 → is_unborn (life start before q) ≡ true
next_unborn start desk before q k next =
    let none : is_issued start desk before q ≡ false = grind (arith, nat_tests) in k q ∙ ap not none

abbrev pub previous : Pid → Pid
previous q = record q { version = pred q.version }

pub previous_born : (start : Start) (desk : ℕ) (before : Past) (q : Pid) → BornAreIssued start desk before → q.shard ≡ desk → q.version ≡ issued_in start before q.slot + 1 → 1 < q.version
    → is_unborn (life start before (previous q)) ≡ false
previous_born start desk before q k here next some =
    let fewer : pred q.version ≡ issued_in start before q.slot = omega arith in
    let is : is_issued start desk before (previous q) ≡ true = grind (arith, nat_tests) in k (previous q) ∙ ap not is

pub is_unborn_is : (f : Phase) → is_unborn f ≡ true → f ≡ unborn
is_unborn_is unborn h = refl
is_unborn_is (living s) h = absurd (cc)
is_unborn_is (ended r s) h = absurd (cc)

pub ended_is : (f : Phase) → is_unborn f ≡ false → is_living f ≡ false → is_ended f ≡ true
ended_is unborn h k = absurd (cc)
ended_is (living s) h k = absurd (cc)
ended_is (ended r s) h k = refl

-- a target that is known is of a desk of the node, and was born if it is of this desk
pub known_near : (d : ShardState) (p : Pid) → knows d p ≡ true → p.shard < d.config.desks
known_near d p h = grind (arith, nat_tests)

pub known_born : (d : ShardState) (p : Pid) → BornAreIssued d.start d.number (past d) → knows d p ≡ true → p.shard ≡ d.number → is_unborn (life d.start (past d) p) ≡ false
known_born d p k h here =
    let is : is_issued d.start d.number (past d) p ≡ true = grind (arith, nat_tests) in k p ∙ ap not is

-- what is known stays known ------------------------------------------------------------------

was_issued : (d : ShardState) (p : Pid) → knows d p ≡ true → p.shard ≡ d.number → is_issued d.start d.number (past d) p ≡ true
was_issued d p h here = grind (arith, nat_tests)

still_ahead : (d : ShardState) (p : Pid) → p.shard ≡ d.number → is_issued d.start d.number (past d) p ≡ true → is_not_ahead d p ≡ true
still_ahead d p here h = grind (arith, nat_tests)

elsewhere : (d : ShardState) (p : Pid) → (p.shard == d.number) ≡ false → is_not_ahead d p ≡ true
elsewhere d p other = rw other refl

both_known : (a b : Bool) → a && b ≡ true → a ≡ true
both_known true b h = refl
both_known false b h = absurd (cc)

not_false : (b : Bool) → false ≡ not b → b ≡ true
not_false true h = refl
not_false false h = absurd (cc)

-- a pid that was born is not unborn after one more event
pub stays_issued : (start : Start) (desk : ℕ) (before : Past) (e : Event) (p : Pid) → BornAreIssued start desk before → BornAreIssued start desk (e ∷ before) → is_issued start desk before p ≡ true → is_issued start desk (e ∷ before) p ≡ true
stays_issued start desk before e p born more h =
    let was : is_unborn (life start before p) ≡ false = born p ∙ ap not h in
    let still : is_unborn (life start (e ∷ before) p) ≡ false = after_born p e (life start before p) was in
    not_false (is_issued start desk (e ∷ before) p) (sym still ∙ more p)

pub stays_known : (d new : ShardState) (e : Event) → new.start ≡ d.start → new.config ≡ d.config → new.number ≡ d.number → past new ≡ e ∷ past d
    → BornAreIssued d.start d.number (past d) → BornAreIssued d.start d.number (e ∷ past d) → (p : Pid) → knows d p ≡ true → knows new p ≡ true
stays_known d new e begin config number more born after p h =
    let inside : is_in_node new.config p ≡ true = ap (λ c. is_in_node c p) config ∙ both_known (is_in_node d.config p) (is_not_ahead d p) h in
    rw inside (go (p.shard == new.number) refl)
  where
    go : (b : Bool) → (p.shard == new.number) ≡ b → is_not_ahead new p ≡ true
    go true k =
        let here : p.shard ≡ new.number = eqb-true p.shard new.number k in
        let was = was_issued d p h (here ∙ number) in
        let still = stays_issued d.start d.number (past d) e p born after was in
        still_ahead new p here (subst (λ n. is_issued new.start n (past new) p ≡ true) (sym number)
        (subst (λ x. is_issued new.start d.number x p ≡ true) (sym more) (subst (λ s. is_issued s d.number (e ∷ past d) p ≡ true) (sym begin) still)))
    go false k = elsewhere new p k
