-- One more event keeps a desk whole.
use Rattle.std.proofs.Common.{◌≡◌, ℕ, ◌^◌, ◌<◌, ◌≤◌, Bool, true, false, cond, ◌==◌, List, [], ◌∷◌, ◌++◌, length, map, filter, get_or, refl, sym, ap, ◌∙◌, subst, ◌⊎◌, inl, inr, arith}
use Rattle.std.proofs.lemmas.Bool.{eqb-true, cases_lt}
use Rattle.std.proofs.lemmas.Bool.Decides.{nat_tests}
use Rattle.std.proofs.lemmas.List.{get_or_past}
use Rattle.std.proofs.lemmas.List.Elements.{filter-append}
use Rattle.pt_signal.specs.declared.pid.Pid.{Pid}
use Rattle.pt_signal.specs.declared.letter.Letter.{Letter}
use Rattle.pt_signal.specs.Process.{Sent}
use Rattle.pt_events.specs.declared.event.Event.{Event}
use Rattle.pt_events.specs.declared.event.Event.TheVariants.{Came}
use Rattle.pt_events.specs.declared.event.Stamped.{Stamped}
use Rattle.pt_events.specs.History.{sent_by}
use Rattle.pt_events.specs.Journal.{letter, letters, gots, got_of, posts, IsHome, MayHere, IsNewAt, IsKnown}
use Rattle.pt_events.proofs.Homes.{AllFrom, from_home}
use Rattle.pt_slots.specs.State.{issued}
use Rattle.pt_slots.specs.Offers.{OffersTheFree}
use Rattle.pt_shard.proofs.Boxes.{put_at, put_count}
use Rattle.pt_shard.specs.ShardState.{ShardState, past, sends, written, vacated, ended_by, lost_by, put_out}
use Rattle.pt_shard.specs.Known.{issued_in}
use Rattle.pt_shard.specs.Extends.{Extends}
use Rattle.pt_shard.specs.Fit.{IsFit, AreBetween}
use Rattle.pt_shard.specs.Sound.{Every, IsSound, BornAreIssued, IsNear, live_process}
use Rattle.pt_shard.specs.LedgerState.{wrote, losing}
use Rattle.pt_shard.specs.Processes.{Table, ProcessesState, process_at, vacant_at}
use Rattle.pt_shard.specs.Whole.{Parts, parts_of, shard_of, IsWhole}
use Rattle.pt_shard.proofs.Births.{stays_known}
use Rattle.pt_shard.proofs.Vacancy.{next_birth}
use Rattle.pt_shard.proofs.Near.{IsOpen, IsToNode, near_life, near_sent}

-- letters between desks -----------------------------------------------------------------

-- where the letters of a desk go
between_append : (d e : ℕ) (xs ys : List Letter) → AreBetween d e xs → AreBetween d e ys → AreBetween d e (xs ++ ys)
between_append d e [] ys h k = k
between_append d e (x ∷ xs) ys h k = (h.0, between_append d e xs ys h.1 k)

between_sent : (d e n : ℕ) (ls : List Sent) → AllFrom d ls → AreBetween d e (filter (λ l. l.to.shard == e) (map (letter n) ls))
between_sent d e n [] h = tt
between_sent d e n (l ∷ ls) h = go (l.to.shard == e) refl (between_sent d e n ls h.1)
  where
    go : (b : Bool) → (l.to.shard == e) ≡ b → AreBetween d e (filter (λ l. l.to.shard == e) (map (letter n) ls))
        → AreBetween d e (cond (l.to.shard == e) (letter n l ∷ filter (λ l. l.to.shard == e) (map (letter n) ls)) (filter (λ l. l.to.shard == e) (map (letter n) ls)))
    go true q ih = rw q ((h.0, eqb-true l.to.shard e q), ih)
    go false q ih = rw q ih

not_there : (a e desks : ℕ) → a < desks → desks ≤ e → (a == e) ≡ false
not_there a e desks near far = grind (arith, nat_tests)

none_far : (desks e n : ℕ) (ls : List Sent) → Every (IsToNode desks) ls → desks ≤ e → filter (λ l. l.to.shard == e) (map (letter n) ls) ≡ []
none_far desks e n [] h far = refl
none_far desks e n (l ∷ ls) h far = rw (not_there l.to.shard e desks h.0 far) (none_far desks e n ls h.1 far)

got_near : (desks e n : ℕ) (x : Event) → IsNear desks x → desks ≤ e → got_of e n x ≡ []
got_near desks e n (Came a b x) h far = rw (not_there a.shard e desks h far) refl
got_near desks e n _ h far = refl

-- one more event ------------------------------------------------------------------------

abbrev pub with_table : ProcessesState → Table → ProcessesState
with_table processes table = record processes { table = table }

pub same_desk : (old new : ProcessesState) → new.desk ≡ old.desk → new ≡ with_table old new.table
same_desk old new h = λ i. record { desk = h i; table = new.table }

module _ (a : Parts) (whole : IsWhole a) where
  abbrev pub before : ShardState
  before = shard_of a

  -- the parts after the event e, stamped n
  abbrev pub next_parts : ℕ → Event → Table → Parts
  next_parts n e table = parts_of a.config (losing (lost_by before e) (wrote n e (sends n e before) a.book)) (with_table a.processes table)

  -- what must hold of an event that the desk writes, and of its slots afterwards
  pub record IsLawful (n : ℕ) (e : Event) (table : Table) : Type 0 where
    pub later : a.book.clock < n
    pub fits : n ≤ 2 ^ 62
    pub home : IsHome a.processes.desk e
    pub may : MayHere a.book.start (past before) e
    pub new_at : IsNewAt a.processes.desk n e
    pub known : IsKnown a.book.start a.processes.desk a.config.top_version (past before) e
    pub near : IsNear a.config.desks e
    pub processes : (p : Pid) → process_at a.processes.desk table p ≡ live_process a.book.start (e ∷ past before) p
    pub issues : (slot : ℕ) → issued table slot ≡ issued_in a.book.start (e ∷ past before) slot
    pub born : BornAreIssued a.book.start a.processes.desk (e ∷ past before)
    pub offers : OffersTheFree table
    pub capacity : table.capacity ≡ a.processes.table.capacity
    pub top_version : table.top_version ≡ a.processes.table.top_version

  -- what an event of the desk sends goes to desks of the node
  pub sent_near : (e : Event) → IsNear a.config.desks e → Every (IsToNode a.config.desks) (sent_by a.book.start (past before) e)
  sent_near e near =
      near_sent a.config.desks (IsOpen a.book.start a.config.desks a.config.start a.processes.desk a.book.journal) a.book.start (λ w k. k.0) (past before) e near
      (near_life a.book.start a.config.desks a.config.start a.config.top_version a.processes.desk whole.sound.fit.begun a.book.journal whole.sound.fit.here whole.sound.fit.local whole.sound.near)

  module _ (n : ℕ) (e : Event) (table : Table) (law : IsLawful n e table) where
    fit_boxed : (k : ℕ) → AreBetween a.processes.desk k (get_or (put_out a.book.outbox (sends n e before)) k [])
    fit_boxed k = go (cases_lt k (length a.book.outbox))
      where
        go : (k < length a.book.outbox) ⊎ (length a.book.outbox ≤ k) → AreBetween a.processes.desk k (get_or (put_out a.book.outbox (sends n e before)) k [])
        go (inl within) =
            subst (AreBetween a.processes.desk k) (sym (put_at a.book.outbox (sends n e before) k within))
            (between_append a.processes.desk k (get_or a.book.outbox k []) _ (whole.sound.fit.boxed k)
            (between_sent a.processes.desk k n (sent_by a.book.start (past before) e) (from_home a.book.start (past before) a.processes.desk e law.home)))
        go (inr beyond) =
            subst (AreBetween a.processes.desk k) (sym (get_or_past (put_out a.book.outbox (sends n e before)) k [] (omega (arith, beyond, put_count a.book.outbox (sends n e before))))) tt

    abbrev stamped_now : Stamped
    stamped_now = record { stamp = n; desk = a.processes.desk; event = e }

    fit_posts : (k : ℕ) → a.config.desks ≤ k → posts a.book.start (stamped_now ∷ a.book.journal) k ≡ []
    fit_posts k far =
        filter-append (λ x. x.to.shard == k) (letters a.book.start a.book.journal) (sends n e before)
        ∙ ap (λ z. z ++ filter (λ x. x.to.shard == k) (sends n e before)) (whole.sound.fit.posts_near k far)
        ∙ none_far a.config.desks k n (sent_by a.book.start (past before) e) (sent_near e law.near) far

    fit_gots : (k : ℕ) → a.config.desks ≤ k → gots (stamped_now ∷ a.book.journal) k ≡ []
    fit_gots k far = ap (λ z. z ++ got_of k n e) (whole.sound.fit.gots_near k far) ∙ got_near a.config.desks k n e law.near far

    fit_written : IsFit (record (written n e before) { vacant = vacant_at a.processes.desk table })
    fit_written = record {
      settings = whole.sound.fit.settings;
      here = whole.sound.fit.here;
      begun = whole.sound.fit.begun;
      clock_is = refl;
      local = (record { here = refl; later = let k = whole.sound.fit.clock_is in omega (arith, law.later); within = law.fits; home = law.home; may = law.may; new_at = law.new_at; known = law.known }, whole.sound.fit.local);
      vacant =
          next_birth (record (written n e before) { vacant = vacant_at a.processes.desk table }) table law.processes law.issues (law.capacity ∙ whole.capacity) (law.top_version ∙ whole.top_version) law.offers;
      boxes = put_count a.book.outbox (sends n e before) ∙ whole.sound.fit.boxes;
      boxed = fit_boxed;
      held = whole.sound.fit.held;
      posts_near = fit_posts;
      gots_near = fit_gots;
    }

    sound_written : IsSound (record (written n e before) { vacant = vacant_at a.processes.desk table }) (process_at a.processes.desk table) (issued table)
    sound_written = record {
      fit = fit_written;
      processes = law.processes;
      issues = law.issues;
      born = law.born;
      near = (law.near, whole.sound.near);
    }

    same_book : losing (lost_by before e) (wrote n e (sends n e before) a.book) ≡ record (losing (lost_by before e) (wrote n e (sends n e before) a.book)) { journal = stamped_now ∷ a.book.journal }
    same_book = ap (λ d. record (losing (lost_by before e) (wrote n e (sends n e before) a.book)) { journal = record { stamp = n; desk = d; event = e } ∷ a.book.journal }) whole.home

    -- the desk is whole after the event
    pub whole_next : IsWhole (next_parts n e table)
    whole_next =
        subst (λ b. IsWhole (parts_of a.config b (with_table a.processes table))) (sym same_book)
        (record { sound = sound_written; offers = law.offers; home = whole.home; capacity = law.capacity ∙ whole.capacity; top_version = law.top_version ∙ whole.top_version })

    pub fit_next : IsFit (shard_of (next_parts n e table))
    fit_next = whole_next.sound.fit

    -- and extends the one before
    pub extends_next : Extends before (shard_of (next_parts n e table))
    extends_next =
        subst (λ b. Extends before (shard_of (parts_of a.config b (with_table a.processes table)))) (sym same_book)
        (record {
          start = refl;
          number = refl;
          config = refl;
          more = stamped_now ∷ [];
          journal = refl;
          known = stays_known before (record (written n e before) { vacant = vacant_at a.processes.desk table }) e refl refl refl refl whole.sound.born law.born;
        })

  -- it is the desk that the event makes of the one before
  pub next_is : (n : ℕ) (e : Event) (table : Table) → vacant_at a.processes.desk table ≡ vacated a.config.top_version (ended_by before e) (vacant_at a.processes.desk a.processes.table)
      → shard_of (next_parts n e table) ≡ written n e before
  next_is n e table vacant = rw (vacant, whole.home) refl

  pub extends_itself : Extends before before
  extends_itself = record { start = refl; number = refl; config = refl; more = []; journal = refl; known = λ p h. h }
