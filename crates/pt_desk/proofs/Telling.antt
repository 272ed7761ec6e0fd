-- A desk tells the directory of each end on it.
use Rattle.std.proofs.Common.{◌≡◌, ℕ, ◌+◌, ◌<◌, ◌≤◌, Bool, true, false, List, [], ◌∷◌, max, Option, Some, None, refl, sym, ap, ◌∙◌, subst, arith}
use Rattle.std.specs.Prelude.{IfSome, cond}
use Rattle.pt_signal.specs.declared.pid.Pid.{Pid}
use Rattle.pt_signal.specs.declared.letter.Letter.{Letter}
use Rattle.pt_signal.proofs.Same.{same_pid_is}
use Rattle.pt_events.specs.declared.event.Event.{Event}
use Rattle.pt_events.specs.declared.event.Event.TheVariants.{Born}
use Rattle.pt_events.specs.declared.event.Stamped.{Stamped}
use Rattle.pt_events.specs.History.{Start, Phase, unborn, living, ended, life, is_birth, is_unborn, is_living}
use Rattle.pt_events.specs.Journal.{clock, events}
use Rattle.pt_directory.specs.declared.view.Death.{Death}
use Rattle.pt_accounts.specs.DeskLives.{DeskTable}
use Rattle.pt_directory.specs.Views.{deaths_at, last_version, last_stamp}
use Rattle.pt_directory.specs.Seats.{DirectoryState, SeatState}
use Rattle.pt_carrier.specs.Ends.{OutEnds, InEnds}
use Rattle.pt_shard.specs.ShardState.{ShardState, past, lives, written, came_event, handled, is_ended_by, ended_in, ended_by}
use Rattle.pt_desk.specs.Sight.{Sight, IsSeen, IsSeated, HasWordsAt, AllHaveWords, seat_of}
use Rattle.pt_shard.specs.Fit.{IsFit}
use Rattle.pt_desk.specs.DeskState.{IsAccounted}
use Rattle.pt_desk.specs.InPlace.{CanTell, seat_told}
use Rattle.pt_desk.proofs.Seating.{IsWhole, SameJournal, deaths_of, sight_of, seated_written, seat_written, seat_ended, same_seated, same_seat}
use Rattle.pt_desk.proofs.Ending.{no_birth}
use Rattle.pt_desk.proofs.Deaths.{AreOldEnds, deaths_rise}
use Rattle.pt_desk.proofs.Before.{old_ends}

-- the slot of a process that was born
at_birth : (slots : ℕ) (p : Pid) (e : Event) → is_birth p e ≡ true → HasWordsAt slots e → p.slot < slots
at_birth slots p (Born q parent link) h words = subst (λ (x : Pid). x.slot < slots) (sym (same_pid_is p q h)) words
at_birth slots p _ h words = absurd (cc)

was_born : (f : Phase) → is_living f ≡ true → is_unborn f ≡ false
was_born unborn h = absurd (cc)
was_born (living s) h = refl
was_born (ended r s) h = refl

slot_of_born : (known : List Death) (start : Start) (slots low d : ℕ) → AreOldEnds known start slots low d → (p : Pid) (journal : List Stamped) → AllHaveWords slots journal → is_unborn (life start (events journal) p) ≡ false → p.slot < slots
slot_of_born known start slots low d old p [] words h = (old.turns p h).slot
slot_of_born known start slots low d old p (s ∷ journal) words h = go (is_birth p s.event) refl (is_unborn (life start (events journal) p)) refl (slot_of_born known start slots low d old p journal words.1)
  where
    go : (b : Bool) → is_birth p s.event ≡ b → (u : Bool) → is_unborn (life start (events journal) p) ≡ u → (is_unborn (life start (events journal) p) ≡ false → p.slot < slots) → p.slot < slots
    go true e u k before = at_birth slots p s.event e words.0
    go false e false k before = before k
    go false e true k before = let n = no_birth p s.event (life start (events journal) p) e k in absurd (cc)

module _ (s : ShardState) (o : OutEnds) (i : InEnds) (directory : DirectoryState) (seat : SeatState) (before : DeskTable) (whole : IsWhole s o i (sight_of directory seat before) seat) where
  module _ (p : Pid) (alive : lives s p ≡ true) (home : p.shard ≡ s.number) (n : ℕ) (later : s.clock < n) where
    -- the seat told of none of p's slot that is not earlier
    rises : (last_version (deaths_at p.shard p.slot (deaths_of s (sight_of directory seat before))) < p.version)
        × (last_stamp (deaths_at p.shard p.slot (deaths_of s (sight_of directory seat before))) ≤ clock s.config.start s.journal)
    rises = deaths_rise seat.marked s.start s.config.slots s.config.start s.config.top_version s.number (old_ends s (sight_of directory seat before) whole.0.fit whole.0.seated) s.journal whole.0.fit.local p alive

    version_rises : last_version (deaths_at p.shard p.slot seat.deaths) < p.version
    version_rises = subst (λ (z : SeatState). last_version (deaths_at p.shard p.slot z.deaths) < p.version) (sym whole.1) rises.0

    stamp_rises : last_stamp (deaths_at p.shard p.slot seat.deaths) < n
    stamp_rises = subst (λ (z : SeatState). last_stamp (deaths_at p.shard p.slot z.deaths) < n) (sym whole.1) (omega (arith, rises.1, later, whole.0.fit.clock_is))

    -- so the end of a process that lives here may be told
    pub may_tell : CanTell directory seat n p
    may_tell = record {
      name = ap (λ (z : SeatState). z.name) whole.1;
      home = ap (λ (z : SeatState). z.homes) whole.1 ∙ ap (λ d. d ∷ []) (sym home);
      words =
          let slot = slot_of_born seat.marked s.start s.config.slots s.config.start s.number (old_ends s (sight_of directory seat before) whole.0.fit whole.0.seated) p s.journal whole.0.seated.words (was_born (life s.start (past s) p) alive) in
          (omega (arith, home, whole.0.fit.here, whole.0.seated.desks), omega (arith, slot, whole.0.seated.slots));
      version = version_rises;
      stamp = stamp_rises;
    }

  -- and that of a process which a letter to this desk ends
  pub may_tell_ended : (l : Letter) → l.to.shard ≡ s.number → (n : ℕ) → s.clock < n → (who : Option Pid) → who ≡ ended_in s.start (past s) (came_event l) → IfSome who (CanTell directory seat n)
  may_tell_ended l home n later who is = subst (λ o. IfSome o (CanTell directory seat n)) (sym is) (go (life s.start (past s) l.to) refl)
    where
      letter_ends : (b : Bool) → lives s l.to ≡ true → IfSome (cond b (Some l.to) None) (CanTell directory seat n)
      letter_ends true alive = may_tell l.to alive home n later
      letter_ends false alive = tt

      go : (f : Phase) → life s.start (past s) l.to ≡ f → IfSome (cond (is_ended_by f l.to l.from l.signal) (Some l.to) None) (CanTell directory seat n)
      go unborn e = tt
      go (living t) e = letter_ends (is_ended_by (living t) l.to l.from l.signal) (ap is_living e)
      go (ended r t) e = tt

  -- the sight and the seat after one more event, whose end was told if it is one; the letters that wait may move too
  module _ (n : ℕ) (e : Event) (s' : ShardState) (same : SameJournal (written n e s) s') (seen : IsSeen seat.reads n e) (words : HasWordsAt s.config.slots e) where
    abbrev pub Sits : SeatState → Type 0
    Sits seat' = IsSeated s' (sight_of directory seat' before) × (seat' ≡ seat_of s' (sight_of directory seat' before))

    abbrev v : Sight
    v = sight_of directory seat before

    seat_follows : (o : Option Pid) → ended_in s.start (past s) e ≡ o → seat_of (written n e s) v ≡ seat_told o n (seat_of s v)
    seat_follows None is = seat_written s v n e (written n e s).vacant is
    seat_follows (Some p) is = seat_ended s v n e p (written n e s).vacant is

    same_reads : (o : Option Pid) → sight_of directory (seat_told o n seat) before ≡ v
    same_reads None = refl
    same_reads (Some p) = refl

    pub sits : (who : Option Pid) (seat' : SeatState) → who ≡ ended_in s.start (past s) e → seat' ≡ seat_told who n seat → Sits seat'
    sits who seat' ends is =
        subst Sits (sym is)
        (subst (λ w. IsSeated s' w × (seat_told who n seat ≡ seat_of s' w)) (sym (same_reads who)) (
          same_seated (written n e s) s' v same (seated_written s v n e (written n e s).vacant whole.0.seated seen words),
          ap (seat_told who n) whole.1 ∙ sym (same_seat (written n e s) s' v same ∙ seat_follows who (sym ends)),
        ))

  -- so after a letter was handled
  pub handled_whole : (l : Letter) (s' : ShardState) (o' : OutEnds) (i' : InEnds) (who : Option Pid) (seat' : SeatState) → SameJournal (handled l s) s' → who ≡ ended_by s (came_event l)
      → seat' ≡ seat_told who (max s.clock l.stamp + 1) seat → IsFit s' → IsAccounted s' o' i' → IsWhole s' o' i' (sight_of directory seat' before) seat'
  handled_whole l s' o' i' who seat' same ends is fit accounts =
      let seats = sits (max s.clock l.stamp + 1) (came_event l) s' same tt tt who seat' ends is in
      (record { fit = fit; accounts = accounts; seated = seats.0 }, seats.1)

-- what it sees does not change by it
pub told_sight : (directory : DirectoryState) (before : DeskTable) (who : Option Pid) (n : ℕ) (seat seat' : SeatState) → seat' ≡ seat_told who n seat → sight_of directory seat' before ≡ sight_of directory seat before
told_sight directory before None n seat seat' is = ap (λ z. sight_of directory z before) is
told_sight directory before (Some p) n seat seat' is = ap (λ z. sight_of directory z before) is
