-- The ends of a journal, as deaths.
use Rattle.std.proofs.Common.{◌≡◌, ℕ, suc, ◌+◌, ◌<◌, ◌≤◌, Bool, true, false, List, [], ◌∷◌, Option, Some, None, refl, subst, sym, ap, ⊎_elim, arith, le_refl}
use Rattle.std.specs.Prelude.{⊤, MatchOption, pred}
use Rattle.std.proofs.lemmas.Bool.{cases_lt}
use mathlib.Core.Option.{some}
use lib.ListN.{get_elem?}
use Rattle.pt_signal.specs.declared.pid.Pid.{Pid}
use Rattle.pt_events.specs.declared.event.Stamped.{Stamped}
use Rattle.pt_events.specs.History.{Past, Start, at_start, Phase, unborn, living, ended, life, is_unborn, is_living, is_ended, is_birth}
use Rattle.pt_events.specs.Journal.{events, clock, IsLocal}
use Rattle.pt_events.specs.Refusals.{stamped_below}
use Rattle.pt_events.proofs.Refusals.{still_ended, ended_below_more, ended_below, ended_at}
use Rattle.atomic_table.proofs.Lists.{at_longer}
use Rattle.pt_directory.specs.declared.view.Death.{Death}
use Rattle.pt_directory.specs.Views.{deaths_at, last_version, last_stamp, Covers}
use Rattle.pt_directory.specs.Seats.{death_of}
use Rattle.pt_directory.proofs.Lists.{at_append, at_behind, at_single, at_nothing, among, from_among, is_at-true, true-is_at}
use Rattle.pt_shard.specs.ShardState.{ended_in}
use Rattle.pt_desk.specs.Sight.{death_by, deaths_in, WasInTurn}
use Rattle.pt_desk.proofs.Ending.{ends, of_home, ended_by_it, no_birth, at_version, birth_known}

born_ended : (f : Phase) → is_ended f ≡ true → is_unborn f ≡ false
born_ended unborn h = absurd (cc)
born_ended (living s) h = absurd (cc)
born_ended (ended r s) h = refl

born_living : (f : Phase) → is_living f ≡ true → is_unborn f ≡ false
born_living unborn h = absurd (cc)
born_living (living s) h = refl
born_living (ended r s) h = refl

not_both : (f : Phase) → is_living f ≡ true → is_ended f ≡ true → ⊥
not_both unborn h k = cc
not_both (living s) h k = cc
not_both (ended r s) h k = cc

-- what holds of each death, and of none, holds of the last
last_of : (P : ℕ → ℕ → Type 0) (xs : List Death) → P 0 0 → ((k : ℕ) (x : Death) → get_elem? xs k ≡ some x → P x.version x.stamp) → P (last_version xs) (last_stamp xs)
last_of P [] h each = h
last_of P (x ∷ []) h each = each 0 x refl
last_of P (x ∷ y ∷ xs) h each = last_of P (y ∷ xs) h (λ k z at. each (suc k) z at)

-- whose death it is
abbrev pub pid_of : Death → Pid
pid_of x = record { shard = x.shard; slot = x.slot; version = x.version }

-- what desk d knows of the ends before its journal: those that were told are its own, and of whoever has ended its end
-- was told, or a later one of its slot
pub record AreOldEnds (known : List Death) (start : Start) (slots low d : ℕ) : Type 0 where
  pub told : (k : ℕ) (x : Death) → get_elem? known k ≡ some x → (x.shard ≡ d) × (x.stamp ≤ low) × (is_ended (at_start start (pid_of x)) ≡ true)
  pub all : (p : Pid) → is_ended (at_start start p) ≡ true
      → (k : ℕ) × (x : Death) × (get_elem? known k ≡ some x) × (x.shard ≡ p.shard) × (x.slot ≡ p.slot) × (p.version ≤ x.version)
  pub turns : (p : Pid) → is_unborn (at_start start p) ≡ false → WasInTurn start slots p

-- who has ended has died -----------------------------------------------------------------

-- one that had not ended before the journal
pub died : (known : List Death) (start : Start) (p : Pid) → is_ended (at_start start p) ≡ false → (journal : List Stamped) → is_ended (life start (events journal) p) ≡ true
    → (k : ℕ) × (n : ℕ) × (get_elem? (deaths_in known start journal) k ≡ some (death_of p n))
died known start p new [] h = absurd (cc)
died known start p new (s ∷ journal) h = go (is_ended (life start (events journal) p)) refl (died known start p new journal)
  where
    go : (t : Bool) → is_ended (life start (events journal) p) ≡ t
        → (is_ended (life start (events journal) p) ≡ true → (k : ℕ) × (n : ℕ) × (get_elem? (deaths_in known start journal) k ≡ some (death_of p n)))
        → (k : ℕ) × (n : ℕ) × (get_elem? (deaths_in known start (s ∷ journal)) k ≡ some (death_of p n))
    go true e before = let x = before e in (x.0, x.1, at_longer (deaths_in known start journal) (death_by (ended_in start (events journal) s.event) s.stamp) x.0 (death_of p x.1) x.2)
    go false e before =
        let is = ended_by_it start (events journal) p e s.event h in
        let x = at_behind (deaths_in known start journal) (death_by (ended_in start (events journal) s.event) s.stamp) 0 (death_of p s.stamp) (ap (λ o. get_elem? (death_by o s.stamp) 0) is) in
        (x.0, s.stamp, x.1)

-- what was told before the journal is still told
was_told : (known : List Death) (start : Start) (journal : List Stamped) (k : ℕ) (x : Death) → get_elem? known k ≡ some x → get_elem? (deaths_in known start journal) k ≡ some x
was_told known start [] k x at = at
was_told known start (s ∷ journal) k x at = at_longer (deaths_in known start journal) (death_by (ended_in start (events journal) s.event) s.stamp) k x (was_told known start journal k x at)

-- who had ended before the journal has ended
had_ended : (start : Start) (p : Pid) → is_ended (at_start start p) ≡ true → (past : Past) → is_ended (life start past p) ≡ true
had_ended start p h [] = h
had_ended start p h (e ∷ past) = still_ended p e (life start past p) (had_ended start p h past)

module _ (known : List Death) (start : Start) (slots low top d : ℕ) (old : AreOldEnds known start slots low d) where
  -- who has died has ended ------------------------------------------------------------------

  -- a death of the journal is of one of the desk who has ended, at that stamp
  pub record IsTold (journal : List Stamped) (x : Death) : Type 0 where
    pub shard : x.shard ≡ d
    pub stamp : x.stamp ≤ clock low journal
    pub ended : (n : ℕ) → x.stamp < n → is_ended (life start (events (stamped_below n journal)) (pid_of x)) ≡ true

  told_more : (s : Stamped) (journal : List Stamped) (x : Death) → clock low journal < s.stamp → IsTold journal x → IsTold (s ∷ journal) x
  told_more s journal x later t = let a = t.stamp in record {
    shard = t.shard;
    stamp = omega arith;
    ended = λ n h. ended_below_more start (pid_of x) n (s ∷ []) journal (t.ended n h);
  }

  told_now : (s : Stamped) (journal : List Stamped) → IsLocal start low top d (s ∷ journal) → (o : Option Pid)
      → MatchOption o ⊤ (λ p. is_ended (life start (events (s ∷ journal)) p) ≡ true) → MatchOption o ⊤ (λ p. p.shard ≡ d)
      → (j : ℕ) (x : Death) → get_elem? (death_by o s.stamp) j ≡ some x → IsTold (s ∷ journal) x
  told_now s journal l None h home j x at = absurd (at_nothing x j at)
  told_now s journal l (Some p) h home j x at =
      subst (IsTold (s ∷ journal)) (at_single (death_of p s.stamp) x j at) (record {
        shard = home;
        stamp = le_refl s.stamp;
        ended = λ n k. ended_at start p low top d n [] s journal l k h;
      })

  pub told : (journal : List Stamped) → IsLocal start low top d journal → (k : ℕ) (x : Death) → get_elem? (deaths_in known start journal) k ≡ some x → IsTold journal x
  told [] l k x at = let t = old.told k x at in record { shard = t.0; stamp = t.1; ended = λ n h. t.2 }
  told (s ∷ journal) l k x at =
      ⊎_elim
      (λ h. told_more s journal x l.0.later (told journal l.1 k x h))
      (λ t. told_now s journal l (ended_in start (events journal) s.event) (ends start (events journal) s.event l.0.may) (of_home start (events journal) d s.event l.0.home) t.0 x t.1)
      (at_append (deaths_in known start journal) (death_by (ended_in start (events journal) s.event) s.stamp) k x at)

  -- the versions of a slot follow one another -----------------------------------------------

  -- whoever was born has a version, and those before it in its slot have ended
  pub record IsInTurn (journal : List Stamped) (p : Pid) : Type 0 where
    pub version : 0 < p.version
    pub before : (v : ℕ) → 0 < v → v < p.version → is_ended (life start (events journal) (at_version p v)) ≡ true

  in_turn_more : (s : Stamped) (journal : List Stamped) (p : Pid) → IsInTurn journal p → IsInTurn (s ∷ journal) p
  in_turn_more s journal p t = record {
    version = t.version;
    before = λ v h k. still_ended (at_version p v) s.event (life start (events journal) (at_version p v)) (t.before v h k);
  }

  pub in_turn : (journal : List Stamped) → IsLocal start low top d journal → (p : Pid) → is_unborn (life start (events journal) p) ≡ false → IsInTurn journal p
  in_turn [] l p h = let t = old.turns p h in record { version = t.version; before = t.before }
  in_turn (s ∷ journal) l p h = go (is_unborn (life start (events journal) p)) refl (is_birth p s.event) refl (in_turn journal l.1)
    where
      go : (t : Bool) → is_unborn (life start (events journal) p) ≡ t → (u : Bool) → is_birth p s.event ≡ u
          → ((q : Pid) → is_unborn (life start (events journal) q) ≡ false → IsInTurn journal q) → IsInTurn (s ∷ journal) p
      go false e u f earlier = in_turn_more s journal p (earlier p e)
      go true e false f earlier = let k = no_birth p s.event (life start (events journal) p) f e in absurd (cc)
      go true e true f earlier =
          let k = birth_known start top d (events journal) p s.event f l.0.known in
          record {
            version = k.0;
            before = λ v a b.
                let last : 1 < p.version = omega arith in
                let previous = at_version p (pred p.version) in
                let gone = k.1 last in
                still_ended (at_version p v) s.event (life start (events journal) (at_version p v))
                (⊎_elim
                (λ (c : v < pred p.version). (earlier previous (born_ended (life start (events journal) previous) gone)).before v a c)
                (λ (c : pred p.version ≤ v). let same : v ≡ pred p.version = omega arith in subst (λ w. is_ended (life start (events journal) (at_version p w)) ≡ true) (sym same) gone)
                (cases_lt v (pred p.version)));
          }

  module _ (journal : List Stamped) (l : IsLocal start low top d journal) where
    -- whoever died has ended by the whole journal
    dead : (k : ℕ) (x : Death) → get_elem? (deaths_in known start journal) k ≡ some x → is_ended (life start (events journal) (pid_of x)) ≡ true
    dead k x at = ended_below start (pid_of x) low top d (x.stamp + 1) journal l ((told journal l k x at).ended (x.stamp + 1) (omega arith))

    -- the versions of a slot that have died are below the one that lives
    below_living : (p : Pid) → is_living (life start (events journal) p) ≡ true → (k : ℕ) (x : Death) → get_elem? (deaths_in known start journal) k ≡ some x
        → x.shard ≡ p.shard → x.slot ≡ p.slot → x.version < p.version
    below_living p lives k x at shard slot =
        let gone = dead k x at in
        let born = in_turn journal l (pid_of x) (born_ended (life start (events journal) (pid_of x)) gone) in
        let turn = in_turn journal l p (born_living (life start (events journal) p) lives) in
        let low = turn.version in
        ⊎_elim
        (λ (h : x.version < p.version). h)
        (λ (h : p.version ≤ x.version).
        ⊎_elim
        (λ (k : p.version < x.version).
        let same : at_version (pid_of x) p.version ≡ p = λ i. record { shard = shard i; slot = slot i; version = p.version } in
        absurd (not_both (life start (events journal) p) lives (subst (λ q. is_ended (life start (events journal) q) ≡ true) same (born.before p.version low k))))
        (λ (k : x.version ≤ p.version).
        let version : x.version ≡ p.version = omega arith in
        let same : pid_of x ≡ p = λ i. record { shard = shard i; slot = slot i; version = version i } in
        absurd (not_both (life start (events journal) p) lives (subst (λ q. is_ended (life start (events journal) q) ≡ true) same gone)))
        (cases_lt p.version x.version))
        (cases_lt x.version p.version)

    -- the end of a process that lives may be told
    pub deaths_rise : (p : Pid) → is_living (life start (events journal) p) ≡ true
        → (last_version (deaths_at p.shard p.slot (deaths_in known start journal)) < p.version) × (last_stamp (deaths_at p.shard p.slot (deaths_in known start journal)) ≤ clock low journal)
    deaths_rise p lives =
        let turn = in_turn journal l p (born_living (life start (events journal) p) lives) in
        let first = turn.version in
        last_of (λ v n. (v < p.version) × (n ≤ clock low journal)) (deaths_at p.shard p.slot (deaths_in known start journal))
        (first, omega arith)
        (λ k x at.
        let m = from_among (deaths_in known start journal) k x p.shard p.slot at in
        let is = true-is_at x p.shard p.slot m.2 in
        (below_living p lives m.0 x m.1 is.0 is.1, (told journal l m.0 x m.1).stamp))

    -- whoever has ended has died, as the seat of the desk knows
    pub own_death : (p : Pid) → is_ended (life start (events journal) p) ≡ true
        → (k : ℕ) × (x : Death) × (get_elem? (deaths_in known start journal) k ≡ some x) × (x.shard ≡ p.shard) × (x.slot ≡ p.slot) × (p.version ≤ x.version)
    own_death p h = go (is_ended (at_start start p)) refl
      where
        go : (b : Bool) → is_ended (at_start start p) ≡ b
            → (k : ℕ) × (x : Death) × (get_elem? (deaths_in known start journal) k ≡ some x) × (x.shard ≡ p.shard) × (x.slot ≡ p.slot) × (p.version ≤ x.version)
        go true e = let t = old.all p e in (t.0, t.1, was_told known start journal t.0 t.1 t.2, t.3, t.4, t.5)
        go false e = let t = died known start p e journal h in (t.0, death_of p t.1, t.2, refl, refl, le_refl p.version)

    -- where a version has died, each of its slot up to that version has ended, at a stamp that is at most the greatest of their deaths
    pub ended_before : (p : Pid) (version n m : ℕ) → Covers (deaths_at p.shard p.slot (deaths_in known start journal)) version n → 0 < p.version → p.version ≤ version → n < m
        → is_ended (life start (events (stamped_below m journal)) p) ≡ true
    ended_before p version n m covers issued up_to later =
        let seen = covers.died in
        let at = from_among (deaths_in known start journal) seen.0 seen.1 p.shard p.slot seen.2 in
        let is = true-is_at seen.1 p.shard p.slot at.2 in
        let gone = dead at.0 seen.1 at.1 in
        let born = in_turn journal l (pid_of seen.1) (born_ended (life start (events journal) (pid_of seen.1)) gone) in
        let has : is_ended (life start (events journal) p) ≡ true = ⊎_elim
        (λ (h : p.version < version).
        let same : at_version (pid_of seen.1) p.version ≡ p = λ i. record { shard = is.0 i; slot = is.1 i; version = p.version } in
        subst (λ q. is_ended (life start (events journal) q) ≡ true) same (born.before p.version issued (omega (arith, h, seen.3))))
        (λ (h : version ≤ p.version).
        let eq : seen.1.version ≡ p.version = omega (arith, h, seen.3) in
        let same : pid_of seen.1 ≡ p = λ i. record { shard = is.0 i; slot = is.1 i; version = eq i } in
        subst (λ q. is_ended (life start (events journal) q) ≡ true) same gone)
        (cases_lt p.version version) in
        go has (is_ended (at_start start p)) refl
      where
        go : is_ended (life start (events journal) p) ≡ true → (b : Bool) → is_ended (at_start start p) ≡ b → is_ended (life start (events (stamped_below m journal)) p) ≡ true
        go has true e = had_ended start p e (events (stamped_below m journal))
        go has false e =
            let own = died known start p e journal has in
            let there = among (deaths_in known start journal) own.0 (death_of p own.1) p.shard p.slot own.2 (is_at-true (death_of p own.1) p.shard p.slot refl refl) in
            let within = covers.latest there.0 (death_of p own.1) there.1 up_to in
            (told journal l own.0 (death_of p own.1) own.2).ended m (omega (arith, within))
