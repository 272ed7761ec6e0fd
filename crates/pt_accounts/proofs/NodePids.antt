-- The pids of all desks stand in order, and are those that were born.
use Rattle.std.proofs.Common.{◌≡◌, ℕ, zero, suc, ◌+◌, ◌<◌, ◌≤◌, inl, inr, List, [], ◌∷◌, ◌++◌, length, get_or, refl, ap, sym, ◌∙◌, subst, arith, false, true}
use Rattle.std.proofs.lemmas.Bool.{cases_lt, both_ways}
use Rattle.pt_signal.specs.declared.pid.Pid.{Pid}
use Rattle.pt_events.specs.History.{Start, life, is_unborn}
use Rattle.pt_events.specs.Journal.{Journals, events}
use Rattle.pt_events.specs.Locality.{JournalsSay}
use Rattle.pt_accounts.specs.Pids.{IsBeforeAll, AreRising, IsIn}
use Rattle.pt_accounts.specs.DeskLives.{DeskTable, pids_in}
use Rattle.pt_accounts.specs.LivesState.{Lives, AreLivesOf, AreAllPids, InEveryMerge, Tell, all_pids}
use Rattle.pt_accounts.proofs.Listing.{in_left, in_right, in_either, pids_rise, listed_born, born_listed}
use Rattle.pt_accounts.proofs.Reading.{tells_none}

before_all : (p : Pid) (qs : List Pid) → ((q : Pid) → IsIn q qs → p.shard < q.shard) → IsBeforeAll p qs
before_all p [] h = tt
before_all p (q ∷ qs) h = (inl (h q (inl refl)), before_all p qs (λ r k. h r (inr k)))

and_all : (p : Pid) (ps qs : List Pid) → IsBeforeAll p ps → IsBeforeAll p qs → IsBeforeAll p (ps ++ qs)
and_all p [] qs h k = k
and_all p (q ∷ ps) qs h k = (h.0, and_all p ps qs h.1 k)

rising_append : (ps qs : List Pid) → AreRising ps → AreRising qs → ((p q : Pid) → IsIn p ps → IsIn q qs → p.shard < q.shard) → AreRising (ps ++ qs)
rising_append [] qs h k l = k
rising_append (p ∷ ps) qs h k l = (and_all p ps qs h.0 (before_all p qs (λ q i. l p q (inl refl) i)), rising_append ps qs h.1 k (λ a b i j. l a b (inr i) j))

-- the pids of each desk's table are of that desk, where the first desk has the number n
abbrev AreHome : ℕ → List DeskTable → Type 0
AreHome n tables = (i : ℕ) (t : DeskTable) (p : Pid) → i < length tables → IsIn p (pids_in (get_or tables i t).slots) → p.shard ≡ n + i

abbrev EachRises : List DeskTable → Type 0
EachRises tables = (i : ℕ) (t : DeskTable) → i < length tables → AreRising (pids_in (get_or tables i t).slots)

later_homes : (n : ℕ) (t : DeskTable) (tables : List DeskTable) → AreHome n (t ∷ tables) → AreHome (n + 1) tables
later_homes n t tables h i o p l k = h (suc i) o p (omega arith) k ∙ omega arith

above : (n : ℕ) (tables : List DeskTable) (p : Pid) → AreHome n tables → IsIn p (all_pids tables) → n ≤ p.shard
above n [] p h k = absurd k
above n (t ∷ tables) p h k =
    elim (in_either p (pids_in t.slots) (all_pids tables) k) [
      | inl a ↦ (let e = h 0 t p (omega arith) a in omega arith)
      | inr b ↦ (let e = above (n + 1) tables p (later_homes n t tables h) b in omega arith)
    ]

node_rises : (n : ℕ) (tables : List DeskTable) → AreHome n tables → EachRises tables → AreRising (all_pids tables)
node_rises n [] h r = tt
node_rises n (t ∷ tables) h r =
    rising_append (pids_in t.slots) (all_pids tables) (r 0 t (omega arith)) (node_rises (n + 1) tables (later_homes n t tables h) (λ i o l. r (suc i) o (omega arith)))
    (λ p q a b. let e = h 0 t p (omega arith) a in let f = above (n + 1) tables q (later_homes n t tables h) b in omega arith)

in_all : (tables : List DeskTable) (i : ℕ) (t : DeskTable) (p : Pid) → i < length tables → IsIn p (pids_in (get_or tables i t).slots) → IsIn p (all_pids tables)
in_all [] i t p l h = absurd (omega arith)
in_all (x ∷ tables) zero t p l h = in_left p (pids_in x.slots) (all_pids tables) h
in_all (x ∷ tables) (suc i) t p l h = in_right p (pids_in x.slots) (all_pids tables) (in_all tables i t p (omega arith) h)

of_all : (tables : List DeskTable) (p : Pid) → IsIn p (all_pids tables) → (i : ℕ) × (t : DeskTable) × (i < length tables) × IsIn p (pids_in (get_or tables i t).slots)
of_all [] p h = absurd h
of_all (x ∷ tables) p h =
    elim (in_either p (pids_in x.slots) (all_pids tables) h) [
      | inl a ↦ (0, x, omega arith, a)
      | inr b ↦ let r = of_all tables p b in let l = r.2 in (suc r.0, r.1, omega arith, r.3)
    ]

-- the tables of a node, whose journals they tell
module _ (start : Start) (journals : Journals) (lives : Lives) (of : AreLivesOf start journals lives) where
  homes : AreHome 0 lives
  homes i t p l h =
      let k = of.told i t l in
      (listed_born start i (get_or lives i t).slots (events (journals i)) p k.1 h).0 ∙ omega arith

  rise : EachRises lives
  rise i t l = pids_rise start i (get_or lives i t).slots (events (journals i)) (of.told i t l).1

  was_born : (p : Pid) → IsIn p (all_pids lives) → is_unborn (life start (events (journals p.shard)) p) ≡ false
  was_born p h =
      let r = of_all lives p h in
      let k = listed_born start r.0 (get_or lives r.0 r.1).slots (events (journals r.0)) p (of.told r.0 r.1 r.2).1 r.3 in
      subst (λ d. is_unborn (life start (events (journals d)) p) ≡ false) (sym k.0) k.1

  is_listed : (t : DeskTable) (p : Pid) → is_unborn (life start (events (journals p.shard)) p) ≡ false → IsIn p (all_pids lives)
  is_listed t p h =
      elim (cases_lt p.shard (length lives)) [
        | inl l ↦ in_all lives p.shard t p l (born_listed start p.shard (get_or lives p.shard t).slots (events (journals p.shard)) p (of.told p.shard t l).1 refl h)
        | inr g ↦ (let u : is_unborn (life start (events (journals p.shard)) p) ≡ true = ap is_unborn (tells_none start journals lives p p.shard of refl g).0 in absurd (both_ways _ h u))
      ]

  all_are : JournalsSay → InEveryMerge journals (λ past. AreAllPids start past (all_pids lives))
  all_are say merged m = (
    node_rises 0 lives homes rise,
    λ p.
        let same = (say start of.desks.low of.desks.top journals merged p of.desks.local m).0 in
        (λ i. ap is_unborn (sym same) ∙ was_born p i, λ b. is_listed (record { desk = 0; slots = []; read = 0 }) p (ap is_unborn same ∙ b)),
  )

pub all_listed : (lives : Lives) (pids : List Pid) → pids ≡ all_pids lives → JournalsSay → Tell lives (λ start past. AreAllPids start past pids)
all_listed lives pids is say start journals of = subst (λ z. InEveryMerge journals (λ past. AreAllPids start past z)) (sym is) (all_are start journals lives of say)
