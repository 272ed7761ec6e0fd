-- The steps, at a word that is known by an equation.
use Rattle.std.proofs.Common.{◌≡◌, ℕ, ◌+◌, ◌*◌, ◌<◌, ◌≤◌, map, List, [], ◌∷◌, ◌++◌, Some, None, sym, ap, ◌∙◌, subst, arith, mul_comm}
use Rattle.std.proofs.lemmas.Nat.{mul-add-lt}
use Rattle.atomic_table.specs.Table.{step, Allows}
use mathlib.Core.Option.{none}
use Rattle.pt_signal.specs.declared.pid.Pid.{Pid}
use Rattle.pt_directory.specs.declared.view.Shape.{Shape}
use Rattle.pt_directory.specs.declared.view.Death.{Death}
use Rattle.pt_directory.specs.Views.{new_death, new_read, deaths_at, last_version, last_stamp, IsHomeOf, LastRead, with_read, with_stamp, up_from}
use Rattle.pt_directory.specs.Rule.{version_word, death_word, Ruled, SeatKnows, LoadsVersion, DeathLoaded, DeathStored, VersionStored, ToldLoaded}
use Rattle.atomic_table.specs.Seated.{TableId}
use Rattle.pt_directory.specs.Seats.{DirectoryState, HasWordsFor, SeatState, DeathIsBegun, death_of, seat_state, add_read, new_seat}
use mathlib.Core.List.{map-append}
use Rattle.pt_directory.proofs.Lists.{stamp_last-push, up_from-push}
use Rattle.pt_directory.proofs.Loads.{loads_version, loads_death, loads_told}
use Rattle.pt_directory.proofs.Stores.{stores_death, stores_version}

pub word_in : (n m d s i w : ℕ) → w ≡ 2 * (n * m) → d < n → s < m → i ≡ 2 * (d * m + s) → i + 1 < w
word_in n m d s i w len p q is = let h = mul-add-lt d m s n p q in let c = mul_comm m n in omega arith

-- where the words of a pid's slot are in the table of a directory
pub record HasWordAt (shape : Shape) (now : DirectoryState) (name : TableId) (i : ℕ) : Type 0 where
  pub named : now.name ≡ name
  pub desks : shape.desks ≡ now.desks
  pub slots : shape.slots ≡ now.slots
  pub within : i + 1 < name.words

pub word_at : (shape : Shape) (was now : DirectoryState) (pid : Pid) (i : ℕ) → was ≡ now → (shape.desks ≡ was.desks) × (shape.slots ≡ was.slots) × (was.name.words ≡ 2 * (was.desks * was.slots)) × (0 < was.desks) × (0 < was.slots)
    → HasWordsFor now pid → i ≡ version_word now.slots pid.shard pid.slot → HasWordAt shape now was.name i
word_at shape was now pid i is inv has at = record {
  named = sym (ap (λ (n : DirectoryState). n.name) is);
  desks = inv.0 ∙ ap (λ (n : DirectoryState). n.desks) is;
  slots = inv.1 ∙ ap (λ (n : DirectoryState). n.slots) is;
  within = word_in now.desks now.slots pid.shard pid.slot i was.name.words (inv.2 ∙ ap (λ (n : DirectoryState). 2 * (n.desks * n.slots)) is) has.0 has.1 at;
}

module _ (shape : Shape) (slots id : ℕ) (me : SeatKnows) (d s n m i : ℕ) (en : shape.desks ≡ n) (em : shape.slots ≡ m) (p : d < n) (q : s < m) (is : i ≡ 2 * (d * m + s)) where
  p' : d < shape.desks
  p' = omega arith

  q' : s < shape.slots
  q' = omega arith

  is' : i ≡ version_word shape.slots d s
  is' = is ∙ ap (λ (z : ℕ). 2 * (d * z + s)) (sym em)

  above : i + 1 ≡ death_word shape.slots d s
  above = ap (λ (z : ℕ). z + 1) is'

  pub loads_version_as : Allows (Ruled shape) slots id me i (λ x. x) (LoadsVersion d s me)
  loads_version_as = subst (λ (j : ℕ). Allows (Ruled shape) slots id me j (λ x. x) (LoadsVersion d s me)) (sym is') (loads_version shape slots id me d s p' q')

  pub loads_death_as : (ver : ℕ) → LastRead (new_read d s ver None) me.0.reads → Allows (Ruled shape) slots id me (i + 1) (λ x. x) (DeathLoaded (step slots (i + 1) 0 0 none) me)
  loads_death_as ver last = subst (λ (j : ℕ). Allows (Ruled shape) slots id me j (λ x. x) (DeathLoaded (step slots j 0 0 none) me)) (sym above) (loads_death shape slots id me d s ver last.0 last.1)

  pub stores_death_as : (ver t : ℕ) → IsHomeOf d me.0 → me.0.begun ≡ [] → last_version (deaths_at d s me.0.deaths) < ver → last_stamp (deaths_at d s me.0.deaths) ≤ t
      → Allows (Ruled shape) slots id me (i + 1) (λ _. t) (λ _. DeathStored d s ver (step slots (i + 1) t 0 none) me t)
  stores_death_as ver t home idle newer later = subst (λ (j : ℕ). Allows (Ruled shape) slots id me j (λ _. t) (λ _. DeathStored d s ver (step slots j t 0 none) me t)) (sym above) (stores_death shape slots id me d s ver t p' q' home idle newer later)

  pub stores_version_as : (ver t : ℕ) → me.0.begun ≡ new_death d s ver t ∷ [] → Allows (Ruled shape) slots id me i (λ _. ver) (λ _. VersionStored (step slots i ver 0 none) me ver)
  stores_version_as ver t begun = subst (λ (j : ℕ). Allows (Ruled shape) slots id me j (λ _. ver) (λ _. VersionStored (step slots j ver 0 none) me ver)) (sym is') (stores_version shape slots id me d s ver t p' q' begun)

  pub loads_told_as : Allows (Ruled shape) slots id me i (λ x. x) (ToldLoaded d s (step slots i 0 0 none) me)
  loads_told_as = subst (λ (j : ℕ). Allows (Ruled shape) slots id me j (λ x. x) (ToldLoaded d s (step slots j 0 0 none) me)) (sym is') (loads_told shape slots id me d s p' q')

-- the death that is begun, with its stamp
pub begun_death : (pid : Pid) (ds : List Death) → DeathIsBegun pid ds → (t : ℕ) × (ds ≡ death_of pid t ∷ [])
begun_death pid [] h = absurd h
begun_death pid (d ∷ []) h = (d.stamp, λ i. record { shard = h.0 i; slot = h.1 i; version = h.2 i; stamp = d.stamp } ∷ [])
begun_death pid (d ∷ e ∷ ds) h = absurd h

-- what a probe leaves, as contracts see it
pub probed : (old mid new : SeatKnows) (a b : TableId) (now : SeatState) (d s n t : ℕ) → seat_state a old.0 ≡ now → b ≡ a → mid ≡ (with_read (new_read d s n None) old.0, old.1) → new ≡ (with_stamp t mid.0, mid.1)
    → seat_state b new.0 ≡ add_read (new_read d s n (Some t)) now
probed old mid new a b now d s n t is same read stamped =
    (λ i. seat_state (same i) ((stamped ∙ ap (λ (m : SeatKnows). (with_stamp t m.0, m.1)) read) i).0)
    ∙ (λ i. record { name = a; homes = old.0.homes; reads = stamp_last-push old.0.reads t (new_read d s n None) i; deaths = old.0.deaths; marked = old.0.marked })
    ∙ ap (add_read (new_read d s n (Some t))) is

-- one more seat was made
pub made_push : (items after : List SeatState) (x : SeatState) (name : TableId) (k : ℕ) → items ≡ map (new_seat name) (up_from 0 k) → x ≡ new_seat name k → after ≡ items ++ x ∷ [] → after ≡ map (new_seat name) (up_from 0 (k + 1))
made_push items after x name k made new is =
    is ∙ (λ i. made i ++ new i ∷ []) ∙ sym (map-append (new_seat name) (up_from 0 k) (k ∷ [])) ∙ ap (map (new_seat name)) (sym (up_from-push k))
