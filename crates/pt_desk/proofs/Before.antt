-- What a desk knows of the ends before its journal: the latest of each slot, as its table has them.
use Rattle.std.proofs.Common.{◌≡◌, ℕ, zero, suc, ◌+◌, ◌<◌, ◌≤◌, Bool, true, false, cond, List, [], ◌∷◌, map, Option, Some, None, refl, sym, ap, ◌∙◌, subst, arith}
use Rattle.std.specs.Prelude.{slice_get, filter_map}
use Rattle.std.specs.Option.{option_or}
use Rattle.std.proofs.lemmas.Bool.{eq-eqb}
use mathlib.Core.Option.{some, some-injective}
use lib.ListN.{get_elem?}
use Rattle.pt_signal.specs.declared.pid.Pid.{Pid}
use Rattle.pt_signal.specs.Values.{same_pid}
use Rattle.pt_signal.proofs.Same.{same_pid_is}
use Rattle.pt_events.specs.History.{Past, Start, at_start, is_ended, life}
use Rattle.pt_accounts.specs.LifeState.{LifeState}
use Rattle.pt_accounts.specs.Table.{Slots, TableTells, found, of_version, slot_at}
use Rattle.pt_accounts.specs.DeskLives.{DeskTable, IsTableOf, latest_end, latest_ends}
use Rattle.pt_directory.specs.declared.view.Death.{Death}
use Rattle.pt_directory.specs.Seats.{death_of}
use Rattle.pt_directory.proofs.Lists.{at_nothing}
use Rattle.pt_shard.specs.Begun.{Every}
use Rattle.pt_shard.specs.ShardState.{ShardState}
use Rattle.pt_shard.specs.Fit.{IsFit}
use Rattle.pt_desk.specs.Sight.{Sight, IsSeated, AreToldBefore}
use Rattle.pt_desk.proofs.Deaths.{AreOldEnds}

-- one slot ----------------------------------------------------------------------------------

-- a life that has ended, at its place
pub record IsEndAt (lives : List LifeState) (j : ℕ) (p : Pid) : Type 0 where
  pub life : LifeState
  pub at : slice_get lives j ≡ Some life
  pub ends : is_ended life.phase ≡ true
  pub pid : life.pid ≡ p

end_later : (x : LifeState) (lives : List LifeState) (j : ℕ) (p : Pid) → IsEndAt lives j p → IsEndAt (x ∷ lives) (suc j) p
end_later x lives j p e = record { life = e.life; at = e.at; ends = e.ends; pid = e.pid }

-- the latest end is one of a life
pub latest_of : (lives : List LifeState) (p : Pid) → latest_end lives ≡ Some p → (j : ℕ) × IsEndAt lives j p
latest_of [] p h = absurd (cc)
latest_of (x ∷ lives) p h = go (latest_end lives) refl (is_ended x.phase) refl h (latest_of lives)
  where
    go : (o : Option Pid) → latest_end lives ≡ o → (b : Bool) → is_ended x.phase ≡ b → option_or o (cond b (Some x.pid) None) ≡ Some p
        → ((q : Pid) → latest_end lives ≡ Some q → (j : ℕ) × IsEndAt lives j q) → (j : ℕ) × IsEndAt (x ∷ lives) j p
    go (Some q) e b f k rest = let t = rest q e in let same : q ≡ p = cc in (suc t.0, subst (IsEndAt (x ∷ lives) (suc t.0)) same (end_later x lives t.0 q t.1))
    go None e true f k rest = let same : x.pid ≡ p = cc in (0, record { life = x; at = refl; ends = f; pid = same })
    go None e false f k rest = absurd (cc)

-- where a life has ended there is a latest end, no earlier
pub record HasLatest (lives : List LifeState) (j : ℕ) : Type 0 where
  pub pid : Pid
  pub is : latest_end lives ≡ Some pid
  pub place : ℕ
  pub later : j ≤ place
  pub ends : IsEndAt lives place pid

pub latest_from : (lives : List LifeState) (j : ℕ) (l : LifeState) → slice_get lives j ≡ Some l → is_ended l.phase ≡ true → HasLatest lives j
latest_from [] j l at ends = absurd (cc)
latest_from (x ∷ lives) zero l at ends = go (latest_end lives) refl
  where
    over : is_ended x.phase ≡ true
    over = let same : x ≡ l = cc in subst (λ (y : LifeState). is_ended y.phase ≡ true) (sym same) ends

    go : (o : Option Pid) → latest_end lives ≡ o → HasLatest (x ∷ lives) zero
    go (Some q) e = let t = latest_of lives q e in record { pid = q; is = rw e refl; place = suc t.0; later = omega arith; ends = end_later x lives t.0 q t.1 }
    go None e = record { pid = x.pid; is = rw (e, over) refl; place = 0; later = omega arith; ends = record { life = x; at = refl; ends = over; pid = refl } }
latest_from (x ∷ lives) (suc j) l at ends =
    let t = latest_from lives j l at ends in
    record { pid = t.pid; is = rw t.is refl; place = suc t.place; later = omega (arith, t.later); ends = end_later x lives t.place t.pid t.ends }

-- all slots ---------------------------------------------------------------------------------

pub from_slots : (slots : Slots) (k : ℕ) (p : Pid) → get_elem? (filter_map latest_end slots) k ≡ some p → (s : ℕ) × (latest_end (slot_at slots s) ≡ Some p)
from_slots [] k p at = absurd (at_nothing p k at)
from_slots (x ∷ slots) k p at = go (latest_end x) refl k at (from_slots slots)
  where
    go : (o : Option Pid) → latest_end x ≡ o → (k : ℕ) → get_elem? (filter_map latest_end (x ∷ slots)) k ≡ some p
        → ((k : ℕ) (p : Pid) → get_elem? (filter_map latest_end slots) k ≡ some p → (s : ℕ) × (latest_end (slot_at slots s) ≡ Some p)) → (s : ℕ) × (latest_end (slot_at (x ∷ slots) s) ≡ Some p)
    go None e k at rest = let t = rest k p (rw e at at) in (suc t.0, t.1)
    go (Some q) e zero at rest = let here : some q ≡ some p = rw e at at in (0, e ∙ ap Some (some-injective q p here))
    go (Some q) e (suc k) at rest = let t = rest k p (rw e at at) in (suc t.0, t.1)

pub to_slots : (slots : Slots) (s : ℕ) (p : Pid) → latest_end (slot_at slots s) ≡ Some p → (k : ℕ) × (get_elem? (filter_map latest_end slots) k ≡ some p)
to_slots [] s p is = absurd (cc)
to_slots (x ∷ slots) zero p is = (0, rw is refl)
to_slots (x ∷ slots) (suc s) p is = go (latest_end x) refl (to_slots slots s p is)
  where
    go : (o : Option Pid) → latest_end x ≡ o → (k : ℕ) × (get_elem? (filter_map latest_end slots) k ≡ some p) → (k : ℕ) × (get_elem? (filter_map latest_end (x ∷ slots)) k ≡ some p)
    go None e t = (t.0, rw e t.1)
    go (Some q) e t = (suc t.0, rw e t.1)

-- of each slot there is one at most, where each is of its slot, the slots being numbered from b on
slots_apart : (b : ℕ) (slots : Slots) → ((s : ℕ) (p : Pid) → latest_end (slot_at slots s) ≡ Some p → p.slot ≡ b + s)
    → (i j : ℕ) (p q : Pid) → get_elem? (filter_map latest_end slots) i ≡ some p → get_elem? (filter_map latest_end slots) j ≡ some q → p.slot ≡ q.slot → i ≡ j
slots_apart b [] own i j p q at there same = absurd (at_nothing p i at)
slots_apart b (x ∷ slots) own i j p q at there same =
    let later : (s : ℕ) (r : Pid) → latest_end (slot_at slots s) ≡ Some r → r.slot ≡ suc b + s = λ s r is. let h = own (suc s) r is in omega arith in
    go (latest_end x) refl i j at there (λ k l here there. slots_apart (suc b) slots later k l p q here there same)
  where
    later : (s : ℕ) (r : Pid) → latest_end (slot_at slots s) ≡ Some r → r.slot ≡ suc b + s
    later s r is = let h = own (suc s) r is in omega arith

    behind : (k : ℕ) (r : Pid) → get_elem? (filter_map latest_end slots) k ≡ some r → b < r.slot
    behind k r at = let a = from_slots slots k r at in let h = later a.0 r a.1 in omega arith

    go : (o : Option Pid) → latest_end x ≡ o → (i j : ℕ) → get_elem? (filter_map latest_end (x ∷ slots)) i ≡ some p → get_elem? (filter_map latest_end (x ∷ slots)) j ≡ some q
        → ((i j : ℕ) → get_elem? (filter_map latest_end slots) i ≡ some p → get_elem? (filter_map latest_end slots) j ≡ some q → i ≡ j) → i ≡ j
    go None e i j at there rest = rest i j (rw e at at) (rw e at there)
    go (Some r) e zero zero at there rest = refl
    go (Some r) e zero (suc j) at there rest =
        let here : some r ≡ some p = rw e at at in
        let is : r ≡ p = some-injective r p here in
        let h = own 0 r e in
        let k = behind j q (rw e at there) in
        absurd (omega (arith, h, k, same, ap (λ (z : Pid). z.slot) is))
    go (Some r) e (suc i) zero at there rest =
        let here : some r ≡ some q = rw e at there in
        let is : r ≡ q = some-injective r q here in
        let h = own 0 r e in
        let k = behind i p (rw e at at) in
        absurd (omega (arith, h, k, same, ap (λ (z : Pid). z.slot) is))
    go (Some r) e (suc i) (suc j) at there rest = ap suc (rest i j (rw e at at) (rw e at there))

-- a table -----------------------------------------------------------------------------------

module _ (start : Start) (d : ℕ) (past : Past) (t : DeskTable) (is : IsTableOf start d past t) where
  -- the life at a place is that of the pid of the place
  pub life_in_place : (s j : ℕ) (l : LifeState) → slice_get (slot_at t.slots s) j ≡ Some l
      → (l.pid ≡ record { shard = d; slot = s; version = suc j }) × (l.phase ≡ life start past (record { shard = d; slot = s; version = suc j }))
  life_in_place s j l at =
      let p : Pid = record { shard = d; slot = s; version = suc j } in
      let there : found d t.slots p ≡ Some l = rw (eq-eqb d d refl) at in
      let tells : TableTells start past p (Some l) = subst (TableTells start past p) there (is.1 p refl) in
      (ap (λ (x : LifeState). x.pid) tells.0, ap (λ (x : LifeState). x.phase) tells.0)

  -- each latest end is of a process of the desk that has ended
  pub ended_of : (s j : ℕ) (p : Pid) → IsEndAt (slot_at t.slots s) j p → (p ≡ record { shard = d; slot = s; version = suc j }) × (is_ended (life start past p) ≡ true)
  ended_of s j p e =
      let l = life_in_place s j e.life e.at in
      let same = sym e.pid ∙ l.0 in
      (same, subst (λ q. is_ended (life start past q) ≡ true) (sym same) (ap is_ended (sym l.1) ∙ e.ends))

  pub latest_told : (k : ℕ) (p : Pid) → get_elem? (latest_ends t) k ≡ some p → (p.shard ≡ d) × (is_ended (life start past p) ≡ true)
  latest_told k p at =
      let a = from_slots t.slots k p at in
      let b = latest_of (slot_at t.slots a.0) p a.1 in
      let c = ended_of a.0 b.0 p b.1 in
      (ap (λ (q : Pid). q.shard) c.0, c.1)

  pub latest_apart : (i j : ℕ) (p q : Pid) → get_elem? (latest_ends t) i ≡ some p → get_elem? (latest_ends t) j ≡ some q → p.slot ≡ q.slot → i ≡ j
  latest_apart i j p q at there same =
      slots_apart 0 t.slots (λ s r e.
      let b = latest_of (slot_at t.slots s) r e in
      let c = ap (λ (z : Pid). z.slot) (ended_of s b.0 r b.1).0 in
      omega (arith, c)) i j p q at there same

  -- whoever has ended stands in the table
  stands : (p : Pid) → is_ended (life start past p) ≡ true → (o : Option LifeState) → TableTells start past p o → (l : LifeState) × (o ≡ Some l) × (is_ended l.phase ≡ true)
  stands p h None tells = let e = ap is_ended tells.0 in absurd (cc)
  stands p h (Some l) tells = (l, refl, ap (λ (x : LifeState). is_ended x.phase) tells.0 ∙ h)

  -- and of its slot the latest end is that of no earlier version
  pub latest_all : (p : Pid) → p.shard ≡ d → is_ended (life start past p) ≡ true
      → (k : ℕ) × (q : Pid) × (get_elem? (latest_ends t) k ≡ some q) × (q.shard ≡ p.shard) × (q.slot ≡ p.slot) × (p.version ≤ q.version)
  latest_all p here h = go p.version refl
    where
      go : (v : ℕ) → p.version ≡ v → (k : ℕ) × (q : Pid) × (get_elem? (latest_ends t) k ≡ some q) × (q.shard ≡ p.shard) × (q.slot ≡ p.slot) × (p.version ≤ q.version)
      go v same =
          let a = stands p h (found d t.slots p) (is.1 p here) in
          let there : of_version (slot_at t.slots p.slot) v ≡ Some a.0 = ap (of_version (slot_at t.slots p.slot)) (sym same) ∙ sym (rw (eq-eqb p.shard d here) refl) ∙ a.1 in
          at_version v same there a.2
        where
          at_version : (v : ℕ) → p.version ≡ v → {l : LifeState} → of_version (slot_at t.slots p.slot) v ≡ Some l → is_ended l.phase ≡ true
              → (k : ℕ) × (q : Pid) × (get_elem? (latest_ends t) k ≡ some q) × (q.shard ≡ p.shard) × (q.slot ≡ p.slot) × (p.version ≤ q.version)
          at_version zero same there ends = absurd (cc)
          at_version (suc j) same {l} there ends =
              let m = latest_from (slot_at t.slots p.slot) j l there ends in
              let k = to_slots t.slots p.slot m.pid m.is in
              let q = (ended_of p.slot m.place m.pid m.ends).0 in (
                k.0,
                m.pid,
                k.1,
                ap (λ (z : Pid). z.shard) q ∙ sym here,
                ap (λ (z : Pid). z.slot) q,
                omega (arith, same, m.later, ap (λ (z : Pid). z.version) q),
              )

-- the deaths that the desk began with ----------------------------------------------------------

module _ {A B : Type 0} (f : A → B) where
  pub from_map : (xs : List A) (k : ℕ) (y : B) → get_elem? (map f xs) k ≡ some y → (x : A) × (get_elem? xs k ≡ some x) × (f x ≡ y)
  from_map [] k y at = absurd (at_nothing y k at)
  from_map (x ∷ xs) zero y at = (x, refl, some-injective (f x) y at)
  from_map (x ∷ xs) (suc k) y at = from_map xs k y at

  pub to_map : (xs : List A) (k : ℕ) (x : A) → get_elem? xs k ≡ some x → get_elem? (map f xs) k ≡ some (f x)
  to_map [] k x at = absurd (at_nothing x k at)
  to_map (z ∷ xs) zero x at = ap (λ w. some (f w)) (some-injective z x at)
  to_map (z ∷ xs) (suc k) x at = to_map xs k x at

-- processes of the desk alone were there
own_start : (start : Start) (d : ℕ) → Every (λ b. b.0.shard ≡ d) start → (p : Pid) → is_ended (at_start start p) ≡ true → p.shard ≡ d
own_start [] d own p h = absurd (cc)
own_start (b ∷ start) d own p h = go (same_pid p b.0) refl (own_start start d own.1 p)
  where
    go : (t : Bool) → same_pid p b.0 ≡ t → (is_ended (at_start start p) ≡ true → p.shard ≡ d) → p.shard ≡ d
    go true e rest = ap (λ (q : Pid). q.shard) (same_pid_is p b.0 e) ∙ own.0
    go false e rest = rest (rw e at h)

-- the latest end of each slot before the journal, as deaths, at the stamp that the desk began with
abbrev pub deaths_before : DeskTable → ℕ → List Death
deaths_before before low = map (λ p. death_of p low) (latest_ends before)

pub told_before : (start : Start) (low d : ℕ) (before : DeskTable) → IsTableOf start d [] before → AreToldBefore start low d (deaths_before before low)
told_before start low d before is = record {
  each = λ k x at.
      let a = from_map (λ p. death_of p low) (latest_ends before) k x at in
      let b = latest_told start d [] before is k a.0 a.1 in
      subst (λ (x : Death). (x.shard ≡ d) × (x.stamp ≤ low) × (is_ended (at_start start (record { shard = x.shard; slot = x.slot; version = x.version })) ≡ true)) a.2 (b.0, omega arith, b.1);
  all = λ p here h.
      let a = latest_all start d [] before is p here h in
      (a.0, death_of a.1 low, to_map (λ p. death_of p low) (latest_ends before) a.0 a.1 a.2, a.3, a.4, a.5);
}

pub old_ends : (s : ShardState) (v : Sight) → IsFit s → IsSeated s v → AreOldEnds v.told s.start s.config.slots s.config.start s.number
old_ends s v fit seated = record {
  told = seated.old.each;
  all = λ p h. seated.old.all p (own_start s.start s.number fit.begun.own p h) h;
  turns = seated.turns;
}
