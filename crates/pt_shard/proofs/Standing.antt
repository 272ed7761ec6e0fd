-- A desk on which nothing has happened, and one whose letters are moved.
use Rattle.std.proofs.Common.{◌≡◌, ℕ, zero, suc, ◌<◌, ◌≤◌, ◌⊎◌, inl, inr, ◌==◌, Bool, true, false, not, List, [], ◌∷◌, length, drop, set, get_or, replicate, Option, None, refl, sym, ◌∙◌, subst, arith}
use Rattle.std.specs.Prelude.{IfSome}
use Rattle.std.proofs.lemmas.Bool.{eqb-true, eq-eqb, both_ways, cases_lt}
use Rattle.std.proofs.lemmas.Bool.Decides.{nat_tests}
use Rattle.std.proofs.lemmas.List.{length-set, length-replicate, get_or-replicate, get_or_past, get_or-set_same, get_or-set_other}
use Rattle.pt_signal.specs.declared.pid.Pid.{Pid}
use Rattle.pt_signal.specs.declared.letter.Letter.{Letter}
use Rattle.pt_slots.specs.Calls.{IsEmpty}
use Rattle.pt_signal.specs.declared.config.Config.{Config}
use Rattle.pt_signal.specs.Settings.{IsInRange}
use Rattle.pt_shard.specs.Opening.{fresh_shard}
use Rattle.pt_shard.proofs.Vacancy.{next_birth}
use Rattle.pt_shard.specs.Fit.{AreBetween, IsNextBirth}
use Rattle.pt_shard.specs.declared.loss.Loss.{Loss}
use Rattle.pt_shard.specs.LedgerState.{Book}
use Rattle.pt_shard.specs.Sound.{is_issued}
use Rattle.pt_shard.specs.Processes.{ProcessesState, process_at}
use Rattle.pt_shard.specs.Whole.{Parts, parts_of, shard_of, IsWhole}

-- the letters of a desk change places -------------------------------------------------------

module _ (a : Parts) (whole : IsWhole a) (outbox : List (List Letter)) (hold : Option Letter) (boxes : length outbox ≡ a.config.desks)
    (boxed : (e : ℕ) → AreBetween a.processes.desk e (get_or outbox e [])) (held : IfSome hold (λ l. (l.to.shard ≡ a.processes.desk) × (l.from.shard < a.config.desks))) where
  abbrev pub moved : Parts
  moved = parts_of a.config (record a.book { outbox = outbox; hold = hold }) a.processes

  pub moved_whole : IsWhole moved
  unfolding IsNextBirth
  moved_whole = record {
    sound = record {
      fit = record {
        settings = whole.sound.fit.settings;
        here = whole.sound.fit.here;
        begun = whole.sound.fit.begun;
        clock_is = whole.sound.fit.clock_is;
        local = whole.sound.fit.local;
        vacant = whole.sound.fit.vacant;
        boxes = boxes;
        boxed = boxed;
        held = held;
        posts_near = whole.sound.fit.posts_near;
        gots_near = whole.sound.fit.gots_near;
      };
      processes = whole.sound.processes;
      issues = whole.sound.issues;
      born = whole.sound.born;
      near = whole.sound.near;
    };
    offers = whole.offers;
    home = whole.home;
    capacity = whole.capacity;
    top_version = whole.top_version;
  }

-- what was lost and not told is another, or another is kept
module _ (a : Parts) (whole : IsWhole a) (keeps : Bool) (lost : List Loss) where
  pub kept_whole : IsWhole (parts_of a.config (record a.book { keeps = keeps; lost = lost }) a.processes)
  unfolding IsNextBirth
  kept_whole = record {
    sound = record {
      fit = record {
        settings = whole.sound.fit.settings;
        here = whole.sound.fit.here;
        begun = whole.sound.fit.begun;
        clock_is = whole.sound.fit.clock_is;
        local = whole.sound.fit.local;
        vacant = whole.sound.fit.vacant;
        boxes = whole.sound.fit.boxes;
        boxed = whole.sound.fit.boxed;
        held = whole.sound.fit.held;
        posts_near = whole.sound.fit.posts_near;
        gots_near = whole.sound.fit.gots_near;
      };
      processes = whole.sound.processes;
      issues = whole.sound.issues;
      born = whole.sound.born;
      near = whole.sound.near;
    };
    offers = whole.offers;
    home = whole.home;
    capacity = whole.capacity;
    top_version = whole.top_version;
  }

drop_between : (d e count : ℕ) (ls : List Letter) → AreBetween d e ls → AreBetween d e (drop count ls)
drop_between d e zero ls h = h
drop_between d e (suc count) [] h = tt
drop_between d e (suc count) (l ∷ ls) h = drop_between d e count ls h.1

-- without so many of the oldest letters for desk `to`
module _ (a : Parts) (whole : IsWhole a) (to count : ℕ) where
  abbrev pub less : List (List Letter)
  less = set a.book.outbox to (drop count (get_or a.book.outbox to []))

  pub less_boxes : length less ≡ a.config.desks
  less_boxes = length-set a.book.outbox to (drop count (get_or a.book.outbox to [])) ∙ whole.sound.fit.boxes

  pub less_boxed : (e : ℕ) → AreBetween a.processes.desk e (get_or less e [])
  less_boxed e = go (to == e) refl (cases_lt e (length a.book.outbox))
    where
      go : (b : Bool) → (to == e) ≡ b → (e < length a.book.outbox) ⊎ (length a.book.outbox ≤ e) → AreBetween a.processes.desk e (get_or less e [])
      go b k (inr beyond) =
          let n = length-set a.book.outbox to (drop count (get_or a.book.outbox to [])) in
          subst (AreBetween a.processes.desk e) (sym (get_or_past less e [] (omega (arith, beyond, n)))) tt
      go true k (inl within) =
          let at : to ≡ e = eqb-true to e k in
          let here : get_or (set a.book.outbox e (drop count (get_or a.book.outbox e []))) e [] ≡ drop count (get_or a.book.outbox e []) = get_or-set_same a.book.outbox e (drop count (get_or a.book.outbox e [])) [] within in
          subst (λ t. AreBetween a.processes.desk e (get_or (set a.book.outbox t (drop count (get_or a.book.outbox t []))) e [])) (sym at)
          (subst (AreBetween a.processes.desk e) (sym here) (drop_between a.processes.desk e count (get_or a.book.outbox e []) (whole.sound.fit.boxed e)))
      go false k (inl within) =
          subst (AreBetween a.processes.desk e) (sym (get_or-set_other a.book.outbox to e (drop count (get_or a.book.outbox to [])) [] (λ h. both_ways (to == e) k (eq-eqb to e (sym h))))) (whole.sound.fit.boxed e)

-- nothing has happened ------------------------------------------------------------------------

abbrev pub first_book : Config → ℕ → Book
first_book config number = record { start = []; desk = number; clock = config.start; journal = []; outbox = replicate config.desks []; hold = None; keeps = false; lost = [] }

empty_boxed : (d n e : ℕ) → AreBetween d e (get_or (replicate n []) e [])
empty_boxed d n e = go (cases_lt e n)
  where
    go : (e < n) ⊎ (n ≤ e) → AreBetween d e (get_or (replicate n []) e [])
    go (inl within) = subst (AreBetween d e) (sym (get_or-replicate n e [] [] within)) tt
    go (inr beyond) = let k : length (replicate {A = List Letter} n []) ≡ n = length-replicate n [] in subst (AreBetween d e) (sym (get_or_past (replicate n []) e [] (omega (arith, beyond, k)))) tt

none_issued : (desk : ℕ) (p : Pid) → true ≡ not (is_issued [] desk [] p)
none_issued desk p = grind (arith, nat_tests)

module _ (config : Config) (settings : IsInRange config) (processes : ProcessesState) (inside : processes.desk < config.desks) (empty : IsEmpty config.slots config.top_version processes.table) where
  nobody : (p : Pid) → process_at processes.desk processes.table p ≡ None
  nobody p = go (p.shard == processes.desk) refl
    where
      go : (b : Bool) → (p.shard == processes.desk) ≡ b → process_at processes.desk processes.table p ≡ None
      go true h = rw (h, empty.none_live p.slot p.version) refl
      go false h = rw h refl

  fresh_parts : IsWhole (parts_of config (first_book config processes.desk) processes)
  fresh_parts = record {
    sound = record {
      fit = record {
        settings = settings;
        here = inside;
        begun = record { own = tt; near = λ p. tt };
        clock_is = refl;
        local = tt;
        vacant = next_birth (shard_of (parts_of config (first_book config processes.desk) processes)) processes.table nobody empty.none_issued empty.capacity_is empty.top_version_is empty.offers;
        boxes = length-replicate config.desks [];
        boxed = empty_boxed processes.desk config.desks;
        held = tt;
        posts_near = λ e far. refl;
        gots_near = λ e far. refl;
      };
      processes = nobody;
      issues = empty.none_issued;
      born = none_issued processes.desk;
      near = tt;
    };
    offers = empty.offers;
    home = refl;
    capacity = empty.capacity_is;
    top_version = empty.top_version_is;
  }

  pub fresh_is : (book : Book) → book ≡ first_book config processes.desk → shard_of (parts_of config book processes) ≡ fresh_shard config processes.desk
  fresh_is book is = let next = empty.next in rw (is, next) refl

  pub fresh_whole : (book : Book) → book ≡ first_book config processes.desk → IsWhole (parts_of config book processes)
  fresh_whole book is = subst (λ b. IsWhole (parts_of config b processes)) (sym is) fresh_parts
