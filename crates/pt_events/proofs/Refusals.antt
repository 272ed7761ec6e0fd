-- An ended process stays ended, so a refused call that is true stays true where journals grow.
use Rattle.std.proofs.Common.{◌≡◌, ℕ, ◌<◌, Bool, true, false, cond, List, [], ◌∷◌, ◌++◌, refl, subst, sym, arith}
use Rattle.std.specs.Prelude.{⊤, nat_lt}
use Rattle.std.proofs.lemmas.Bool.{lt-ltb, ltb-true}
use Rattle.pt_signal.specs.declared.pid.Pid.{Pid}
use Rattle.pt_events.specs.declared.event.Event.{Event}
use Rattle.pt_events.specs.declared.event.Event.TheVariants.{Refused}
use Rattle.pt_events.specs.declared.event.Stamped.{Stamped}
use Rattle.pt_events.specs.History.{Start, Phase, unborn, living, ended, life, after, is_ended}
use Rattle.pt_events.specs.Journal.{Journals, events, IsLocal, clock}
use Rattle.pt_events.specs.Refusals.{stamped_below, IsTrueRefusal, AllTrueRefusals}
use Rattle.pt_events.proofs.Phases.{after_ended}

pub still_ended : (p : Pid) (e : Event) (f : Phase) → is_ended f ≡ true → is_ended (after p e f) ≡ true
still_ended p e unborn h = absurd (cc)
still_ended p e (living s) h = absurd (cc)
still_ended p e (ended r s) h = rw after_ended refl

-- every stamp is below n
abbrev pub AllBelow : ℕ → List Stamped → Type 0
AllBelow n [] = ⊤
AllBelow n (s ∷ journal) = (s.stamp < n) × AllBelow n journal

pub all_below : (n : ℕ) (journal : List Stamped) → AllBelow n journal → stamped_below n journal ≡ journal
all_below n [] h = refl
all_below n (s ∷ journal) h = rw (lt-ltb s.stamp n h.0, all_below n journal h.1) refl

module _ (start : Start) (low top d : ℕ) where
  -- a journal's stamps are at most its clock
  pub below_clock : (n : ℕ) (journal : List Stamped) → IsLocal start low top d journal → clock low journal < n → AllBelow n journal
  below_clock n [] h l = tt
  below_clock n (s ∷ journal) h l = let k = h.0.later in (l, below_clock n journal h.1 (omega arith))

module _ (start : Start) (p : Pid) where
  pub ended_later : (later earlier : List Stamped) → is_ended (life start (events earlier) p) ≡ true → is_ended (life start (events (later ++ earlier)) p) ≡ true
  ended_later [] earlier h = h
  ended_later (s ∷ later) earlier h = still_ended p s.event (life start (events (later ++ earlier)) p) (ended_later later earlier h)

  -- with later events too
  pub ended_below_more : (n : ℕ) (later earlier : List Stamped) → is_ended (life start (events (stamped_below n earlier)) p) ≡ true
      → is_ended (life start (events (stamped_below n (later ++ earlier))) p) ≡ true
  ended_below_more n [] earlier h = h
  ended_below_more n (s ∷ later) earlier h = go (nat_lt s.stamp n) (ended_below_more n later earlier h)
    where
      go : (b : Bool) → is_ended (life start (events (stamped_below n (later ++ earlier))) p) ≡ true
          → is_ended (life start (events (cond b (s ∷ stamped_below n (later ++ earlier)) (stamped_below n (later ++ earlier)))) p) ≡ true
      go true ih = still_ended p s.event (life start (events (stamped_below n (later ++ earlier))) p) ih
      go false ih = ih

  module _ (low top d : ℕ) where
    -- what ended by the events below n ended by all
    pub ended_below : (n : ℕ) (journal : List Stamped) → IsLocal start low top d journal → is_ended (life start (events (stamped_below n journal)) p) ≡ true
        → is_ended (life start (events journal) p) ≡ true
    ended_below n [] l h = h
    ended_below n (s ∷ journal) l h = go (nat_lt s.stamp n) refl (ended_below n journal l.1) h
      where
        go : (b : Bool) → nat_lt s.stamp n ≡ b
            → (is_ended (life start (events (stamped_below n journal)) p) ≡ true → is_ended (life start (events journal) p) ≡ true)
            → is_ended (life start (events (cond b (s ∷ stamped_below n journal) (stamped_below n journal))) p) ≡ true
            → is_ended (life start (events (s ∷ journal)) p) ≡ true
        go true e ih k =
            let below = below_clock start low top d n journal l.1 (let x = l.0.later in let y = ltb-true s.stamp n e in omega arith) in
            subst (λ z. is_ended (life start (events (s ∷ z)) p) ≡ true) (all_below n journal below) k
        go false e ih k = still_ended p s.event (life start (events journal) p) (ih k)

    -- an end that is stamped below n
    pub ended_at : (n : ℕ) (later : List Stamped) (s : Stamped) (earlier : List Stamped) → IsLocal start low top d (s ∷ earlier) → s.stamp < n
        → is_ended (life start (events (s ∷ earlier)) p) ≡ true → is_ended (life start (events (stamped_below n (later ++ s ∷ earlier))) p) ≡ true
    ended_at n later s earlier l h k =
        ended_below_more n later (s ∷ earlier)
        (subst (λ z. is_ended (life start (events z) p) ≡ true) (sym (all_below n (s ∷ earlier) (below_clock start low top d n (s ∷ earlier) l h))) k)

-- a node whose journals grew
module _ (start : Start) (old new : Journals) (more : (d : ℕ) → List Stamped) (grew : (d : ℕ) → new d ≡ more d ++ old d) where
  still_true : (n : ℕ) (e : Event) → IsTrueRefusal start old n e → IsTrueRefusal start new n e
  still_true n (Refused a b) h =
      subst (λ z. is_ended (life start (events (stamped_below n z)) b) ≡ true) (sym (grew b.shard)) (ended_below_more start b n (more b.shard) (old b.shard) h)
  still_true n _ h = tt

  pub still_true_refusals : (noted : List Stamped) → AllTrueRefusals start old noted → AllTrueRefusals start new noted
  still_true_refusals [] h = tt
  still_true_refusals (s ∷ noted) h = (still_true s.stamp s.event h.0, still_true_refusals noted h.1)
