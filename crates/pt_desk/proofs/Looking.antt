-- A desk looks whether a process has ended, and refuses the call that is to reach for it.
use Rattle.std.proofs.Common.{◌≡◌, ℕ, ◌+◌, ◌<◌, true, [], ◌∷◌, max, Option, refl, sym, ap, ◌∙◌, subst, arith}
use Rattle.std.specs.Prelude.{IsSome}
use Rattle.std.proofs.lemmas.Bool.Decides.{nat_tests}
use Rattle.pt_signal.specs.declared.pid.Pid.{Pid}
use Rattle.pt_events.specs.declared.event.Event.TheVariants.{Refused}
use Rattle.pt_events.specs.History.{is_ended}
use Rattle.atomic_table.proofs.Lists.{at_longer}
use Rattle.pt_directory.specs.declared.view.Read.{Read}
use Rattle.pt_accounts.specs.DeskLives.{DeskTable}
use Rattle.pt_directory.specs.Seats.{DirectoryState, SeatState, HasWordsFor, add_read, Probes, HasReadOf, HasToldOf}
use Rattle.pt_carrier.specs.Ends.{OutEnds, InEnds}
use Rattle.pt_shard.specs.declared.fault.Fault.{Fault}
use Rattle.pt_shard.specs.declared.fault.Fault.TheVariants as fault
use Rattle.pt_shard.specs.ShardState.{ShardState, phase_of}
use Rattle.pt_shard.specs.Known.{knows}
use Rattle.pt_shard.specs.Fit.{IsFit}
use Rattle.pt_shard.specs.Calls.{Refuses}
use Rattle.pt_desk.specs.Sight.{Sight, IsSeen, IsSeated, SeesOn, seat_of}
use Rattle.pt_desk.specs.DeskState.{IsAccounted}
use Rattle.pt_desk.specs.Reaching.{Looks}
use Rattle.pt_desk.proofs.Posted.{of_parts}
use Rattle.pt_desk.proofs.Seating.{IsWhole, sight_of, seated_read, seated_written, seat_written}
use Rattle.pt_desk.proofs.Calling.{written_accounted}
use Rattle.pt_desk.proofs.Deaths.{own_death}
use Rattle.pt_desk.proofs.Before.{old_ends}

known_range : (s : ShardState) (t : Pid) → knows s t ≡ true → (t.shard < s.config.desks) × (t.slot < s.config.slots) × (0 < t.version)
known_range s t h = (grind (arith, nat_tests), grind (arith, nat_tests), grind (arith, nat_tests))

pub known_near : (s : ShardState) (t : Pid) → knows s t ≡ true → t.shard < s.config.desks
known_near s t h = (known_range s t h).0

module _ (s : ShardState) (o : OutEnds) (i : InEnds) (directory : DirectoryState) (seat : SeatState) (table : DeskTable) where
  abbrev before : Sight
  before = sight_of directory seat table

  module _ (whole : IsWhole s o i before seat) where
    module _ (t : Pid) (known : knows s t ≡ true) where
      -- t has words in the directory
      pub words : HasWordsFor directory t × (0 < t.version)
      words =
          let near = known_range s t known in
          ((subst (λ n. t.shard < n) (sym whole.0.seated.desks) near.0, subst (λ n. t.slot < n) (sym whole.0.seated.slots) near.1), near.2)

      -- whoever has ended here, its end is told
      own_end : (p : Pid) → is_ended (phase_of s p) ≡ true → HasToldOf p (seat_of s before)
      own_end p ends =
          own_death seat.marked s.start s.config.slots s.config.start s.config.top_version s.number (old_ends s before whole.0.fit whole.0.seated) s.journal whole.0.fit.local p ends

      pub looked : (seat' : SeatState) (answer : Option ℕ) → Probes t seat answer seat' → (HasReadOf t seat → IsSome answer) → (HasToldOf t seat → IsSome answer)
          → Looks t (of_parts s o i before) answer (sight_of directory seat' table)
      looked seat' answer probes again own = record {
        found = probes.0;
        read = ap (λ z. sight_of directory z table) probes.1;
        ended = probes.2;
        again = λ k r at end. again (k, r, at, end.shard, end.slot, end.version);
        own = λ here ends. own (subst (HasToldOf t) (sym whole.1) (own_end t ends));
      }

    pub read_whole : (seat' : SeatState) (x : Read) → x.shard < s.config.desks → seat' ≡ add_read x seat → IsWhole s o i (sight_of directory seat' table) seat'
    read_whole seat' x here is =
        subst (λ z. IsWhole s o i (sight_of directory z table) z) (sym is)
        (record { fit = whole.0.fit; accounts = whole.0.accounts; seated = seated_read s before x here whole.0.seated }, ap (add_read x) whole.1)

-- the sight goes on with one more read
pub sees_more : (directory : DirectoryState) (table : DeskTable) (seat seat' : SeatState) (x : Read) → seat' ≡ add_read x seat → SeesOn (sight_of directory seat table) (sight_of directory seat' table)
sees_more directory table seat seat' x is =
    subst (λ z. SeesOn (sight_of directory seat table) (sight_of directory z table)) (sym is) (record { directory = refl; reads = λ k r at. at_longer seat.reads (x ∷ []) k r at })

-- a refused call leaves the desk whole
pub refused_whole : (s s' : ShardState) (o : OutEnds) (i : InEnds) (v : Sight) (seat : SeatState) (p t : Pid) (n : ℕ) (f : Fault) → Refuses p t n s f s' → IsFit s'
    → IsSeen v.reads (max s.clock n + 1) (Refused p t) → IsWhole s o i v seat → IsWhole s' o i v seat
refused_whole s s' o i v seat p t n fault.NoProc h fit seen whole =
    let m = max s.clock n + 1 in (
      record {
        fit = fit;
        accounts = subst (λ z. IsAccounted z o i) (sym h.1) (written_accounted s o i m (Refused p t) s.vacant (λ d n. refl) whole.0.fit.boxes whole.0.accounts);
        seated = subst (λ z. IsSeated z v) (sym h.1) (seated_written s v m (Refused p t) s.vacant whole.0.seated seen tt);
      },
      whole.1 ∙ sym (ap (λ z. seat_of z v) h.1 ∙ seat_written s v m (Refused p t) s.vacant refl),
    )
refused_whole s s' o i v seat p t n fault.Worn h fit seen whole = subst (λ z. IsWhole z o i v seat) (sym h.1) whole
refused_whole s s' o i v seat p t n fault.Memory h fit seen whole = subst (λ z. IsWhole z o i v seat) (sym h.1) whole
refused_whole s s' o i v seat p t n fault.Gone h fit seen whole = absurd h
refused_whole s s' o i v seat p t n fault.Full h fit seen whole = absurd h
refused_whole s s' o i v seat p t n fault.Myself h fit seen whole = absurd h
