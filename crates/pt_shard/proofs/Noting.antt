-- A refused call is noted: an event that changes no process.
use Rattle.std.proofs.Common.{◌≡◌, ℕ, ◌+◌, ◌^◌, ◌<◌, max, true, [], refl, ap, ◌∙◌, arith}
use Rattle.pt_signal.specs.declared.pid.Pid.{Pid}
use Rattle.pt_events.specs.declared.event.Event.TheVariants.{Refused}
use Rattle.pt_events.specs.History.{Phase, unborn, living, ended, life, is_living}
use Rattle.pt_shard.specs.ShardState.{past, lives}
use Rattle.pt_shard.specs.Known.{knows}
use Rattle.pt_shard.specs.Sound.{of_phase}
use Rattle.pt_shard.specs.LedgerState.{Book, wrote}
use Rattle.pt_shard.specs.Whole.{Parts, parts_of, shard_of, IsWhole}
use Rattle.pt_shard.proofs.Births.{known_near}
use Rattle.pt_shard.proofs.Acting.{Outcome, outcome, at_home}

module _ (a : Parts) (whole : IsWhole a) (p : Pid) where
  at_home_while : (f : Phase) → life a.book.start (past (shard_of a)) p ≡ f → is_living f ≡ true → p.shard ≡ a.processes.desk
  at_home_while unborn is h = absurd (cc)
  at_home_while (living s) is h = (at_home a.processes.desk a.processes.table p (p, s) (whole.sound.processes p ∙ ap (of_phase p) is)).0
  at_home_while (ended r s) is h = absurd (cc)

  -- who lives here is of this desk
  pub at_home_alive : lives (shard_of a) p ≡ true → p.shard ≡ a.processes.desk
  at_home_alive h = at_home_while (life a.book.start (past (shard_of a)) p) refl h

  -- the desk after its note that a call of p to t was refused
  pub noted : lives (shard_of a) p ≡ true → (t : Pid) → knows (shard_of a) t ≡ true → (n : ℕ) → max a.book.clock n < 2 ^ 62 → (book : Book)
      → book ≡ wrote (max a.book.clock n + 1) (Refused p t) [] a.book → Outcome a (parts_of a.config book a.processes) (max a.book.clock n + 1) (Refused p t)
  noted alive t known n can book is =
      outcome a whole (max a.book.clock n + 1) (Refused p t) book a.processes refl
      (record {
        later = omega arith;
        fits = omega (arith, can);
        home = at_home_alive alive;
        may = alive;
        new_at = tt;
        known = tt;
        near = known_near (shard_of a) t known;
        processes = whole.sound.processes;
        issues = whole.sound.issues;
        born = whole.sound.born;
        offers = whole.offers;
        capacity = refl;
        top_version = refl;
      })
      is refl
