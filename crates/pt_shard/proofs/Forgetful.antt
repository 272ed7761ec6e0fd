-- A desk that forgets why processes ended before its empty journal is whole, and knows of each what it knew.
use Rattle.std.proofs.Common.{◌≡◌, ℕ, ◌==◌, ◌||◌, ◌&&◌, not, max, cond, [], ◌∷◌, List, refl, sym, ap, ◌∙◌, subst}
use Rattle.std.specs.Prelude.{nat_lt, nat_le}
use Rattle.pt_signal.specs.declared.pid.Pid.{Pid}
use Rattle.pt_signal.specs.declared.ids.Ref.{Ref}
use Rattle.pt_events.specs.History.{Start, Phase, unborn, living, ended, at_start, life, is_unborn}
use Rattle.pt_events.specs.Journal.{events, IsLocal, posts}
use Rattle.pt_events.specs.declared.event.Stamped.{Stamped}
use Rattle.pt_events.specs.Forgetting.{reasonless, without_reasons}
use Rattle.pt_events.proofs.Forgetting.{forgets_each, reasonless_unborn}
use Rattle.pt_shard.specs.ShardState.{ShardState, phase_of}
use Rattle.pt_shard.specs.Begun.{Every, IsNearPhase, WasOpen, IsBegun}
use Rattle.pt_shard.specs.Fit.{IsFit}
use Rattle.pt_shard.specs.Known.{knows, is_in_node, issued_at, issued_in}
use Rattle.pt_shard.specs.Sound.{of_phase, live_process}
use Rattle.pt_shard.specs.Whole.{Parts, parts_of, shard_of, IsWhole}
use Rattle.pt_shard.specs.LedgerState.{Book, forgetful_book}
use Rattle.pt_shard.specs.Restart.{forgetful}
use Rattle.pt_shard.proofs.Vacancy.{next_birth}

issued_without : (start : Start) (slot : ℕ) → issued_at (without_reasons start) slot ≡ issued_at start slot
issued_without [] slot = refl
issued_without (b ∷ start) slot =
    ap (λ t. max (cond ((b.0.slot == slot) && not t) b.0.version 0) (issued_at (without_reasons start) slot)) (reasonless_unborn b.1)
    ∙ ap (max (cond ((b.0.slot == slot) && not (is_unborn b.1)) b.0.version 0)) (issued_without start slot)

resident_reasonless : (p : Pid) (f : Phase) → of_phase p (reasonless f) ≡ of_phase p f
resident_reasonless p unborn = refl
resident_reasonless p (living s) = refl
resident_reasonless p (ended r s) = refl

own_without : (d : ℕ) (start : Start) → Every (λ (b : Pid × Phase). b.0.shard ≡ d) start → Every (λ (b : Pid × Phase). b.0.shard ≡ d) (without_reasons start)
own_without d [] h = tt
own_without d (b ∷ start) h = (h.0, own_without d start h.1)

module _ (start : Start) (desks low d : ℕ) where
  was_open : (es : List (Ref × Pid)) → Every (WasOpen start desks low d) es → Every (WasOpen (without_reasons start) desks low d) es
  was_open [] h = tt
  was_open (e ∷ es) h = ((h.0.0, h.0.1, λ k. ap is_unborn (forgets_each start e.1) ∙ reasonless_unborn (at_start start e.1) ∙ h.0.2 k), was_open es h.1)

  near_reasonless : (f : Phase) → IsNearPhase desks (WasOpen start desks low d) f → IsNearPhase desks (WasOpen (without_reasons start) desks low d) (reasonless f)
  near_reasonless unborn h = tt
  near_reasonless (living s) h = record { links = h.links; watching = was_open s.watching h.watching; kept = h.kept }
  near_reasonless (ended r s) h = tt

  begun_without : IsBegun start desks low d → IsBegun (without_reasons start) desks low d
  begun_without begun = record {
    own = own_without d start begun.own;
    near = λ p. subst (IsNearPhase desks (WasOpen (without_reasons start) desks low d)) (sym (forgets_each start p)) (near_reasonless (at_start start p) (begun.near p));
  }

-- over an empty journal
module _ (start : Start) (journal : List Stamped) (none : journal ≡ []) where
  phases : (p : Pid) → life (without_reasons start) (events journal) p ≡ reasonless (life start (events journal) p)
  phases p = subst (λ (j : List Stamped). life (without_reasons start) (events j) p ≡ reasonless (life start (events j) p)) (sym none) (forgets_each start p)

  issued : (slot : ℕ) → issued_in (without_reasons start) (events journal) slot ≡ issued_in start (events journal) slot
  issued slot = subst (λ (j : List Stamped). issued_in (without_reasons start) (events j) slot ≡ issued_in start (events j) slot) (sym none) (issued_without start slot)

  resident : (p : Pid) → live_process (without_reasons start) (events journal) p ≡ live_process start (events journal) p
  resident p = ap (of_phase p) (phases p) ∙ resident_reasonless p (life start (events journal) p)

module _ (a : Parts) (whole : IsWhole a) (none : a.book.journal ≡ []) where
  abbrev pub next : Parts
  next = parts_of a.config (forgetful_book a.book) a.processes

  abbrev start : Start
  start = a.book.start

  fit_next : IsFit (shard_of next)
  fit_next = record {
    settings = whole.sound.fit.settings;
    here = whole.sound.fit.here;
    begun = begun_without start a.config.desks a.config.start a.processes.desk whole.sound.fit.begun;
    clock_is = whole.sound.fit.clock_is;
    local = subst (IsLocal (without_reasons start) a.config.start a.config.top_version a.processes.desk) (sym none) tt;
    vacant =
        next_birth (shard_of next) a.processes.table (λ p. whole.sound.processes p ∙ sym (resident start a.book.journal none p))
        (λ slot. whole.sound.issues slot ∙ sym (issued start a.book.journal none slot)) whole.capacity whole.top_version whole.offers;
    boxes = whole.sound.fit.boxes;
    boxed = whole.sound.fit.boxed;
    held = whole.sound.fit.held;
    posts_near = λ e far. subst (λ (j : List Stamped). posts (without_reasons start) j e ≡ []) (sym none) refl;
    gots_near = whole.sound.fit.gots_near;
  }

  next_whole : IsWhole next
  next_whole = record {
    sound = record {
      fit = fit_next;
      processes = λ p. whole.sound.processes p ∙ sym (resident start a.book.journal none p);
      issues = λ slot. whole.sound.issues slot ∙ sym (issued start a.book.journal none slot);
      born = λ p.
          ap is_unborn (phases start a.book.journal none p) ∙ reasonless_unborn (life start (events a.book.journal) p) ∙ whole.sound.born p
          ∙ ap (λ k. not ((p.shard == a.processes.desk) && (nat_lt 0 p.version && nat_le p.version k))) (sym (issued start a.book.journal none p.slot));
      near = whole.sound.near;
    };
    offers = whole.offers;
    home = whole.home;
    capacity = whole.capacity;
    top_version = whole.top_version;
  }

  pub forgetful_whole : (book : Book) → book ≡ forgetful_book a.book → IsWhole (parts_of a.config book a.processes)
  forgetful_whole book is = subst (λ b. IsWhole (parts_of a.config b a.processes)) (sym is) next_whole

pub forgetful_phases : (d : ShardState) → d.journal ≡ [] → (p : Pid) → phase_of (forgetful d) p ≡ reasonless (phase_of d p)
forgetful_phases d none p = phases d.start d.journal none p

pub forgetful_known : (d : ShardState) → d.journal ≡ [] → (p : Pid) → knows (forgetful d) p ≡ knows d p
forgetful_known d none p = ap (λ k. is_in_node d.config p && (not (p.shard == d.number) || nat_le p.version k)) (issued d.start d.journal none p.slot)
