-- `Shard::spawn_child`: its contract, and the invariant of `self`, and what its calls of `admit` and `link_parent` ask.
use Rattle.std.proofs.Common.{◌≡◌, ℕ, ◌<◌, ◌≤◌, ◌^◌, max, true, false, Err, refl, sym, ◌∙◌, subst, Some, arith}
use Rattle.std.specs.Prelude.{IsSome, nat_le}
use Rattle.std.proofs.lemmas.Bool.Decides.{nat_tests}
use Rattle.pt_shard.specs.declared.fault.Fault.TheVariants.{Worn, Full}
use Rattle.pt_shard.specs.Calls.{BearsChild}
use Rattle.pt_shard.specs.Extends.{Extends}
use Rattle.pt_shard.specs.Processes.{ProcessesState, IsSameTable}
use Rattle.pt_shard.specs.Whole.{parts_of, shard_of}
use Rattle.pt_shard.proofs.Acting.{alive}
use Rattle.pt_shard.proofs.Bearing.{Unchanged, BirthOutcome, unchanged, child_no_memory}
use Rattle.pt_shard.proofs.Acted.{acting, left_with, kept_still, no_room, bears_none, ready, can_bear, same_before, stays_vacant, parent_lives, parent_has_room, bore}
use Rattle.pt_shard.proofs.shard.Shard.spawn_child.Goals as goal

-- what the test of the clock says
worn_is : (n : ℕ) → nat_le (2 ^ 62) (max n 0) ≡ true → 2 ^ 62 ≤ n
worn_is n h = let k : 2 ^ 62 ≤ max n 0 = grind (arith, nat_tests) in omega (arith, k)

fresh_is : (n : ℕ) → nat_le (2 ^ 62) (max n 0) ≡ false → n < 2 ^ 62
fresh_is n h = let k : max n 0 < 2 ^ 62 = grind (arith, nat_tests) in omega (arith, k)

-- refused before the birth is prepared
pub invariant_of-self-then-is_worn : goal.invariant_of-self-then-is_worn
invariant_of-self-then-is_worn c = (kept_still (parts_of c.self.inside.config c.self.inside.ledger.book c.self.inside.processes) c.self.invariant c.args.parent c.in-Some.process.now c.in-Some.ensures.value c.self.inside.ledger.book c.in-Some.process.now refl refl refl).whole

pub returns-then-is_worn-clause-does : goal.returns-then-is_worn-clause-does
returns-then-is_worn-clause-does c =
    subst (λ d. BearsChild c.args.parent c.args.linked d (Err Worn) (shard_of (left_with (parts_of c.self.inside.config c.self.inside.ledger.book c.self.inside.processes) c.self.invariant c.args.parent c.in-Some.process.now c.in-Some.ensures.value c.self.inside.ledger.book c.in-Some.process.now))) c.self.view_is
    (alive (parts_of c.self.inside.config c.self.inside.ledger.book c.self.inside.processes) c.self.invariant c.args.parent (acting (parts_of c.self.inside.config c.self.inside.ledger.book c.self.inside.processes) c.self.invariant c.args.parent c.in-Some.process.now c.in-Some.ensures.value), worn_is c.self.inside.ledger.book.clock (sym c.is_worn.ensures ∙ c.if-is_worn.true), (kept_still (parts_of c.self.inside.config c.self.inside.ledger.book c.self.inside.processes) c.self.invariant c.args.parent c.in-Some.process.now c.in-Some.ensures.value c.self.inside.ledger.book c.in-Some.process.now refl refl refl).is)

pub returns-then-is_worn-clause-fit : goal.returns-then-is_worn-clause-fit
returns-then-is_worn-clause-fit c = (kept_still (parts_of c.self.inside.config c.self.inside.ledger.book c.self.inside.processes) c.self.invariant c.args.parent c.in-Some.process.now c.in-Some.ensures.value c.self.inside.ledger.book c.in-Some.process.now refl refl refl).fit

pub invariant_of-self-in_default-vacant : goal.invariant_of-self-in_default-vacant
invariant_of-self-in_default-vacant c = (kept_still (parts_of c.self.inside.config c.self.inside.ledger.book c.self.inside.processes) c.self.invariant c.args.parent c.in-Some.process.now c.in-Some.ensures.value c.self.inside.ledger.book c.in-Some.process.now refl refl refl).whole

pub returns-in_default-vacant-clause-does : goal.returns-in_default-vacant-clause-does
returns-in_default-vacant-clause-does c =
    subst (λ d. BearsChild c.args.parent c.args.linked d (Err Full) (shard_of (left_with (parts_of c.self.inside.config c.self.inside.ledger.book c.self.inside.processes) c.self.invariant c.args.parent c.in-Some.process.now c.in-Some.ensures.value c.self.inside.ledger.book c.in-Some.process.now))) c.self.view_is
    (alive (parts_of c.self.inside.config c.self.inside.ledger.book c.self.inside.processes) c.self.invariant c.args.parent (acting (parts_of c.self.inside.config c.self.inside.ledger.book c.self.inside.processes) c.self.invariant c.args.parent c.in-Some.process.now c.in-Some.ensures.value), fresh_is c.self.inside.ledger.book.clock (sym c.is_worn.ensures ∙ c.if-is_worn.false), sym c.in_default-vacant.ensures, (kept_still (parts_of c.self.inside.config c.self.inside.ledger.book c.self.inside.processes) c.self.invariant c.args.parent c.in-Some.process.now c.in-Some.ensures.value c.self.inside.ledger.book c.in-Some.process.now refl refl refl).is)

pub returns-in_default-vacant-clause-fit : goal.returns-in_default-vacant-clause-fit
returns-in_default-vacant-clause-fit c = (kept_still (parts_of c.self.inside.config c.self.inside.ledger.book c.self.inside.processes) c.self.invariant c.args.parent c.in-Some.process.now c.in-Some.ensures.value c.self.inside.ledger.book c.in-Some.process.now refl refl refl).fit

-- no room for it
unprepared : (c : goal.After-from_residual) → Unchanged (parts_of c.self.inside.config c.self.inside.ledger.book c.self.inside.processes) (left_with (parts_of c.self.inside.config c.self.inside.ledger.book c.self.inside.processes) c.self.invariant c.args.parent c.in-Some.process.now c.in-Some.ensures.value c.prepare_birth.new.ledger.book c.prepare_birth.new.parent)
unprepared c = no_room (parts_of c.self.inside.config c.self.inside.ledger.book c.self.inside.processes) c.self.invariant c.args.parent c.in-Some.process.now c.in-Some.ensures.value c.args.linked c.self.inside.ledger refl c.prepare_birth.new.parent c.prepare_birth.new.ledger c.in_err-link.field-0.0 c.in_err-link.ensures

pub invariant_of-self-in_err-link : goal.invariant_of-self-in_err-link
invariant_of-self-in_err-link c = (unprepared c).whole

pub returns-in_err-link-clause-does : goal.returns-in_err-link-clause-does
returns-in_err-link-clause-does c =
    subst (λ d. BearsChild c.args.parent c.args.linked d c.from_residual.result (shard_of (left_with (parts_of c.self.inside.config c.self.inside.ledger.book c.self.inside.processes) c.self.invariant c.args.parent c.in-Some.process.now c.in-Some.ensures.value c.prepare_birth.new.ledger.book c.prepare_birth.new.parent))) c.self.view_is
    (bears_none (parts_of c.self.inside.config c.self.inside.ledger.book c.self.inside.processes) c.self.invariant c.args.parent c.in-Some.process.now c.in-Some.ensures.value c.args.linked c.self.inside.ledger refl c.prepare_birth.new.parent c.prepare_birth.new.ledger (subst IsSome c.in-Some-vacant.ensures refl) c.in_err-link.field-0.0 c.in_err-link.ensures c.from_residual.result c.from_residual.ensures)

pub returns-in_err-link-clause-extends : goal.returns-in_err-link-clause-extends
returns-in_err-link-clause-extends c = subst (λ d. Extends d (shard_of (left_with (parts_of c.self.inside.config c.self.inside.ledger.book c.self.inside.processes) c.self.invariant c.args.parent c.in-Some.process.now c.in-Some.ensures.value c.prepare_birth.new.ledger.book c.prepare_birth.new.parent))) c.self.view_is (unprepared c).extends

pub returns-in_err-link-clause-fit : goal.returns-in_err-link-clause-fit
returns-in_err-link-clause-fit c = (unprepared c).fit

-- no memory for the child
prepared : (c : goal.After-from_residual-in_err-child) → Unchanged (parts_of c.self.inside.config c.self.inside.ledger.book c.self.inside.processes) (left_with (parts_of c.self.inside.config c.self.inside.ledger.book c.self.inside.processes) c.self.invariant c.args.parent c.in-Some.process.now c.in-Some.ensures.value c.prepare_birth.new.ledger.book c.prepare_birth.new.parent)
prepared c = ready (parts_of c.self.inside.config c.self.inside.ledger.book c.self.inside.processes) c.self.invariant c.args.parent c.in-Some.process.now c.in-Some.ensures.value c.args.linked c.self.inside.ledger refl c.prepare_birth.new.parent c.prepare_birth.new.ledger c.in_ok-link.link c.in_ok-link.ensures

pub invariant_of-self-in_err-child : goal.invariant_of-self-in_err-child
invariant_of-self-in_err-child c = (prepared c).whole

pub returns-in_err-child-clause-does : goal.returns-in_err-child-clause-does
returns-in_err-child-clause-does c =
    subst (λ d. BearsChild c.args.parent c.args.linked d c.from_residual-in_err-child.result (shard_of (left_with (parts_of c.self.inside.config c.self.inside.ledger.book c.self.inside.processes) c.self.invariant c.args.parent c.in-Some.process.now c.in-Some.ensures.value c.prepare_birth.new.ledger.book c.prepare_birth.new.parent))) c.self.view_is
    (child_no_memory c.args.parent c.args.linked (shard_of (parts_of c.self.inside.config c.self.inside.ledger.book c.self.inside.processes)) (shard_of (left_with (parts_of c.self.inside.config c.self.inside.ledger.book c.self.inside.processes) c.self.invariant c.args.parent c.in-Some.process.now c.in-Some.ensures.value c.prepare_birth.new.ledger.book c.prepare_birth.new.parent))
    (alive (parts_of c.self.inside.config c.self.inside.ledger.book c.self.inside.processes) c.self.invariant c.args.parent (acting (parts_of c.self.inside.config c.self.inside.ledger.book c.self.inside.processes) c.self.invariant c.args.parent c.in-Some.process.now c.in-Some.ensures.value)) (subst IsSome c.in-Some-vacant.ensures refl) (prepared c).is (can_bear (parts_of c.self.inside.config c.self.inside.ledger.book c.self.inside.processes) c.self.invariant c.args.parent c.in-Some.process.now c.in-Some.ensures.value c.args.linked c.self.inside.ledger refl c.prepare_birth.new.parent c.prepare_birth.new.ledger c.in_ok-link.link c.in_ok-link.ensures) c.from_residual-in_err-child.result c.from_residual-in_err-child.ensures)

pub returns-in_err-child-clause-fit : goal.returns-in_err-child-clause-fit
returns-in_err-child-clause-fit c = (prepared c).fit

-- no memory for its slot
pub admit-requires : goal.admit-requires
admit-requires c = stays_vacant (parts_of c.self.inside.config c.self.inside.ledger.book c.self.inside.processes) c.self.invariant c.args.parent c.in-Some.process.now c.in-Some.ensures.value c.args.linked c.self.inside.ledger refl c.prepare_birth.new.parent c.prepare_birth.new.ledger c.in_ok-link.link c.in_ok-link.ensures (subst IsSome c.in-Some-vacant.ensures refl)

not_admitted : (c : goal.After-from_residual-in_err-admit) → Unchanged (parts_of c.self.inside.config c.self.inside.ledger.book c.self.inside.processes) (parts_of c.self.inside.config c.prepare_birth.new.ledger.book c.admit.new.self)
not_admitted c =
    unchanged (parts_of c.self.inside.config c.self.inside.ledger.book c.self.inside.processes) c.self.invariant c.prepare_birth.new.ledger.book c.admit.new.self c.in_ok-link.ensures.2.2 c.admit.ensures.desk
    (subst (λ (h : ProcessesState). IsSameTable c.self.inside.processes.table h.table) (sym c.in_err-admit.ensures.err) (same_before (parts_of c.self.inside.config c.self.inside.ledger.book c.self.inside.processes) c.self.invariant c.args.parent c.in-Some.process.now c.in-Some.ensures.value c.args.linked c.self.inside.ledger refl c.prepare_birth.new.parent c.prepare_birth.new.ledger c.in_ok-link.link c.in_ok-link.ensures))

pub invariant_of-self-in_err-admit : goal.invariant_of-self-in_err-admit
invariant_of-self-in_err-admit c = (not_admitted c).whole

pub returns-in_err-admit-clause-does : goal.returns-in_err-admit-clause-does
returns-in_err-admit-clause-does c =
    subst (λ d. BearsChild c.args.parent c.args.linked d c.from_residual-in_err-admit.result (shard_of (parts_of c.self.inside.config c.prepare_birth.new.ledger.book c.admit.new.self))) c.self.view_is
    (child_no_memory c.args.parent c.args.linked (shard_of (parts_of c.self.inside.config c.self.inside.ledger.book c.self.inside.processes)) (shard_of (parts_of c.self.inside.config c.prepare_birth.new.ledger.book c.admit.new.self))
    (alive (parts_of c.self.inside.config c.self.inside.ledger.book c.self.inside.processes) c.self.invariant c.args.parent (acting (parts_of c.self.inside.config c.self.inside.ledger.book c.self.inside.processes) c.self.invariant c.args.parent c.in-Some.process.now c.in-Some.ensures.value)) (subst IsSome c.in-Some-vacant.ensures refl) (not_admitted c).is (can_bear (parts_of c.self.inside.config c.self.inside.ledger.book c.self.inside.processes) c.self.invariant c.args.parent c.in-Some.process.now c.in-Some.ensures.value c.args.linked c.self.inside.ledger refl c.prepare_birth.new.parent c.prepare_birth.new.ledger c.in_ok-link.link c.in_ok-link.ensures) c.from_residual-in_err-admit.result c.from_residual-in_err-admit.ensures)

pub returns-in_err-admit-clause-fit : goal.returns-in_err-admit-clause-fit
returns-in_err-admit-clause-fit c = (not_admitted c).fit

-- born
pub link_parent-requires-clause-lives : goal.link_parent-requires-clause-lives
link_parent-requires-clause-lives c =
    parent_lives (parts_of c.self.inside.config c.self.inside.ledger.book c.self.inside.processes) c.self.invariant c.args.parent c.in-Some.process.now c.in-Some.ensures.value c.args.linked c.self.inside.ledger refl c.prepare_birth.new.parent c.prepare_birth.new.ledger c.in_ok-link.link c.in_ok-link.ensures c.in-Some-vacant.pid c.in-Some-vacant.ensures c.in_ok-child.child c.admit.new.self c.admit.ensures.desk c.in_ok-admit.ensures.ok

pub link_parent-requires-clause-room : goal.link_parent-requires-clause-room
link_parent-requires-clause-room c =
    parent_has_room (parts_of c.self.inside.config c.self.inside.ledger.book c.self.inside.processes) c.self.invariant c.args.parent c.in-Some.process.now c.in-Some.ensures.value c.args.linked c.self.inside.ledger refl c.prepare_birth.new.parent c.prepare_birth.new.ledger c.in_ok-link.link c.in_ok-link.ensures c.in-Some-vacant.pid c.in-Some-vacant.ensures c.in_ok-child.child c.admit.new.self c.admit.ensures.desk c.in_ok-admit.ensures.ok

born : (c : goal.After-write) → BirthOutcome (shard_of (parts_of c.self.inside.config c.self.inside.ledger.book c.self.inside.processes)) (parts_of c.self.inside.config c.write.new.self.book c.link_parent.new.self) c.in-Some-vacant.pid (Some c.args.parent) c.in_ok-link.link
born c =
    bore (parts_of c.self.inside.config c.self.inside.ledger.book c.self.inside.processes) c.self.invariant c.args.parent c.in-Some.process.now c.in-Some.ensures.value c.args.linked c.self.inside.ledger refl c.prepare_birth.new.parent c.prepare_birth.new.ledger c.in_ok-link.link c.in_ok-link.ensures c.in-Some-vacant.pid c.in-Some-vacant.ensures c.in_ok-child.child c.admit.new.self c.admit.ensures.desk c.in_ok-admit.ensures.ok
    c.in_ok-child.ensures.me c.in_ok-child.ensures.state c.link_parent.new.self c.link_parent.ensures.desk c.link_parent.ensures.changes c.write.new.self.book c.write.ensures.book

pub invariant_of-self-2 : goal.invariant_of-self-2
invariant_of-self-2 c = (born c).whole

pub returns-clause-known : goal.returns-clause-known
returns-clause-known c = ((born c).here, (born c).known)

pub returns-clause-extends : goal.returns-clause-extends
returns-clause-extends c = subst (λ d. Extends d (shard_of (parts_of c.self.inside.config c.write.new.self.book c.link_parent.new.self))) c.self.view_is (born c).extends

pub returns-clause-fit : goal.returns-clause-fit
returns-clause-fit c = (born c).fit
