-- The versions of a slot follow one another, by the slots and by the journal.
use Rattle.std.proofs.Common.{◌≡◌, ℕ, ◌<◌, ◌≤◌, ◌==◌, ◌&&◌, Bool, true, false, not, cond, Some, None, refl, ap, ◌∙◌, ⊎_elim, arith}
use Rattle.std.specs.Prelude.{nat_lt, nat_le}
use Rattle.std.proofs.lemmas.Bool.{cases_lt, eq-eqb, ne_eqb}
use Rattle.std.proofs.lemmas.Bool.Decides.{nat_tests}
use Rattle.pt_signal.specs.declared.pid.Pid.{Pid}
use Rattle.pt_events.specs.History.{Phase, unborn, living, ended, is_unborn, is_ended}
use Rattle.pt_slots.specs.State.{at, issued}
use Rattle.pt_shard.specs.ShardState.{phase_of, past}
use Rattle.pt_shard.specs.Known.{issued_in}
use Rattle.pt_shard.specs.Sound.{is_issued, of_phase}
use Rattle.pt_shard.specs.Processes.{Table, process_at}
use Rattle.pt_shard.specs.Reading.{read_of}
use Rattle.pt_shard.specs.Whole.{Parts, shard_of, IsWhole}
use Rattle.pt_shard.specs.InTurn.{IsInTurn}

-- only the latest version of a slot stands in it
none_earlier : (table : Table) (slot version : ℕ) → version < issued table slot → at table slot version ≡ None
unfolding at issued
none_earlier table slot version h = rw (ne_eqb (issued table slot) version (λ e. absurd (omega (arith, e, h)))) refl

pub record Issued (desk n : ℕ) (p : Pid) : Type 0 where
  pub here : p.shard ≡ desk
  pub version : 0 < p.version
  pub latest : p.version ≤ n

issued_parts : (desk n : ℕ) (p : Pid) → ((p.shard == desk) && (nat_lt 0 p.version && nat_le p.version n)) ≡ true → Issued desk n p
issued_parts desk n p h = record { here = grind (arith, nat_tests); version = grind (arith, nat_tests); latest = grind (arith, nat_tests) }

parts_issued : (desk n : ℕ) (p : Pid) → Issued desk n p → ((p.shard == desk) && (nat_lt 0 p.version && nat_le p.version n)) ≡ true
parts_issued desk n p h = let here = h.here in let version = h.version in let latest = h.latest in grind (arith, nat_tests)

not_false : (b u : Bool) → u ≡ not b → u ≡ false → b ≡ true
not_false true u h k = refl
not_false false u h k = absurd (cc)

module _ (a : Parts) (whole : IsWhole a) (beyond : (slot : ℕ) → a.processes.table.capacity ≤ slot → issued a.processes.table slot ≡ 0) where
  was_issued : (p : Pid) → is_unborn (phase_of (shard_of a) p) ≡ false → Issued a.processes.desk (issued_in a.book.start (past (shard_of a)) p.slot) p
  was_issued p born =
      issued_parts a.processes.desk (issued_in a.book.start (past (shard_of a)) p.slot) p
      (not_false (is_issued a.book.start a.processes.desk (past (shard_of a)) p) (is_unborn (phase_of (shard_of a) p)) (whole.sound.born p) born)

  has_ended : (p : Pid) → Issued a.processes.desk (issued_in a.book.start (past (shard_of a)) p.slot) p → p.version < issued a.processes.table p.slot → is_ended (phase_of (shard_of a) p) ≡ true
  has_ended p was earlier = go (phase_of (shard_of a) p) refl
    where
      go : (f : Phase) → phase_of (shard_of a) p ≡ f → is_ended f ≡ true
      go unborn is =
          let yes = parts_issued a.processes.desk (issued_in a.book.start (past (shard_of a)) p.slot) p was in
          let no : is_unborn (phase_of (shard_of a) p) ≡ false = whole.sound.born p ∙ ap not yes in
          let so : is_unborn (phase_of (shard_of a) p) ≡ true = ap is_unborn is in
          absurd (cc)
      go (living s) is =
          let none : process_at a.processes.desk a.processes.table p ≡ None
          = ap (λ o. cond (p.shard == a.processes.desk) (read_of o) None) (none_earlier a.processes.table p.slot p.version earlier)
          ∙ rw (eq-eqb p.shard a.processes.desk was.here) refl in
          let some : process_at a.processes.desk a.processes.table p ≡ Some (p, s) = whole.sound.processes p ∙ ap (of_phase p) is in
          absurd (cc)
      go (ended r s) is = refl

  pub in_turn : (p : Pid) → is_unborn (phase_of (shard_of a) p) ≡ false → IsInTurn (shard_of a) p
  in_turn p born =
      let was = was_issued p born in
      let same : issued a.processes.table p.slot ≡ issued_in a.book.start (past (shard_of a)) p.slot = whole.sound.issues p.slot in
      record {
        here = was.here;
        slot =
            ⊎_elim (λ (h : p.slot < a.config.slots). h)
            (λ (h : a.config.slots ≤ p.slot). absurd (omega (arith, beyond p.slot (omega (arith, h, whole.capacity)), same, was.version, was.latest)))
            (cases_lt p.slot a.config.slots);
        version = was.version;
        before = λ v some below.
            has_ended (record p { version = v }) (record { here = was.here; version = some; latest = omega (arith, below, was.latest) }) (omega (arith, below, was.latest, same));
      }
