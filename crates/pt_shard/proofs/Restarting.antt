-- A desk that goes on is whole, and its processes and what it knows are as they were.
use Rattle.std.proofs.Common.{◌≡◌, ℕ, ◌≤◌, ◌==◌, ◌||◌, ◌&&◌, not, refl, sym, ap, ◌∙◌, subst, arith}
use Rattle.std.specs.Prelude.{nat_le}
use Rattle.pt_signal.specs.declared.pid.Pid.{Pid}
use Rattle.pt_events.specs.Leaving.{outcome, start_after}
use Rattle.pt_signal.specs.declared.config.TheConstants.{MAX_STAMP}
use Rattle.pt_events.proofs.Leaving.{leaves_each}
use Rattle.pt_shard.specs.ShardState.{ShardState, past, phase_of}
use Rattle.pt_shard.specs.Fit.{IsFit}
use Rattle.pt_shard.specs.Known.{knows, is_in_node, issued_at, issued_in}
use Rattle.pt_shard.specs.Sound.{BornAreIssued}
use Rattle.pt_shard.specs.Whole.{Parts, parts_of, shard_of, IsWhole}
use Rattle.pt_shard.specs.LedgerState.{Book, restarted_book}
use Rattle.pt_shard.specs.Restart.{restarted}
use Rattle.pt_shard.proofs.Left.{issued_left, born_left, resident_left, begun_left}
use Rattle.pt_shard.proofs.Vacancy.{next_birth}

pub same_phases : (d : ShardState) (n : ℕ) (p : Pid) → phase_of (restarted n d) p ≡ outcome (phase_of d p)
same_phases d n p = leaves_each d.start (past d) p

pub same_known : (d : ShardState) → BornAreIssued d.start d.number (past d) → (n : ℕ) (p : Pid) → knows (restarted n d) p ≡ knows d p
same_known d born n p = ap (λ k. is_in_node d.config p && (not (p.shard == d.number) || nat_le p.version k)) (issued_left d.start d.number (past d) born p.slot)

module _ (a : Parts) (whole : IsWhole a) (n : ℕ) (low : a.book.clock ≤ n) (limit : n ≤ MAX_STAMP) where
  abbrev before : ShardState
  before = shard_of a

  abbrev pub next : Parts
  next = parts_of (record a.config { start = n }) (restarted_book n a.book) a.processes

  issues_left : (slot : ℕ) → issued_at (start_after before.start (past before)) slot ≡ issued_in before.start (past before) slot
  issues_left = issued_left a.book.start a.processes.desk (past before) whole.sound.born

  fit_next : IsFit (shard_of next)
  fit_next = record {
    settings = record {
      some_desks = whole.sound.fit.settings.some_desks;
      desks = whole.sound.fit.settings.desks;
      some_slots = whole.sound.fit.settings.some_slots;
      slots = whole.sound.fit.settings.slots;
      top_version = whole.sound.fit.settings.top_version;
      some_lane = whole.sound.fit.settings.some_lane;
      lane = whole.sound.fit.settings.lane;
      start = limit;
    };
    here = whole.sound.fit.here;
    begun =
        begun_left a.book.start a.config.desks a.config.start a.config.top_version a.processes.desk n a.book.journal (let k = whole.sound.fit.clock_is in omega (arith, low, k))
        whole.sound.fit.begun whole.sound.fit.here whole.sound.fit.local whole.sound.near;
    clock_is = refl;
    local = tt;
    vacant =
        next_birth (shard_of next) a.processes.table (λ p. whole.sound.processes p ∙ sym (resident_left a.book.start (past before) p))
        (λ slot. whole.sound.issues slot ∙ sym (issues_left slot)) whole.capacity whole.top_version whole.offers;
    boxes = whole.sound.fit.boxes;
    boxed = whole.sound.fit.boxed;
    held = whole.sound.fit.held;
    posts_near = λ e far. refl;
    gots_near = λ e far. refl;
  }

  next_whole : IsWhole next
  next_whole = record {
    sound = record {
      fit = fit_next;
      processes = λ p. whole.sound.processes p ∙ sym (resident_left a.book.start (past before) p);
      issues = λ slot. whole.sound.issues slot ∙ sym (issues_left slot);
      born = born_left a.book.start a.processes.desk (past before) whole.sound.born;
      near = tt;
    };
    offers = whole.offers;
    home = whole.home;
    capacity = whole.capacity;
    top_version = whole.top_version;
  }

  pub restarted_whole : (book : Book) → book ≡ restarted_book n a.book → IsWhole (parts_of (record a.config { start = n }) book a.processes)
  restarted_whole book is = subst (λ b. IsWhole (parts_of (record a.config { start = n }) b a.processes)) (sym is) next_whole

  module _ (now : ShardState) (seen : shard_of a ≡ now) (book : Book) (is : book ≡ restarted_book n a.book) where
    pub next_phases : (p : Pid) → phase_of (shard_of (parts_of (record a.config { start = n }) book a.processes)) p ≡ outcome (phase_of now p)
    next_phases p =
        ap (λ b. phase_of (shard_of (parts_of (record a.config { start = n }) b a.processes)) p) is ∙ same_phases (shard_of a) n p ∙ ap (λ d. outcome (phase_of d p)) seen

    pub next_known : (p : Pid) → knows (shard_of (parts_of (record a.config { start = n }) book a.processes)) p ≡ knows now p
    next_known p =
        ap (λ b. knows (shard_of (parts_of (record a.config { start = n }) b a.processes)) p) is ∙ same_known (shard_of a) whole.sound.born n p ∙ ap (λ d. knows d p) seen
