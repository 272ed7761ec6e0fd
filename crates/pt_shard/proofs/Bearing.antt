-- A desk that bears a process is whole afterwards, and is as the birth makes it.
use Rattle.std.proofs.Common.{◌≡◌, ℕ, ◌+◌, ◌^◌, ◌<◌, ◌≤◌, Bool, true, false, cond, ◌==◌, Result, Ok, Err, [], ◌∷◌, Option, Some, None, refl, sym, ap, ◌∙◌, subst, arith}
use Rattle.std.specs.Prelude.{pred, IfSome, IsSome}
use Rattle.std.specs.Result.{IsErr, IsErrAnd}
use Rattle.std.specs.Bool.{then_some}
use Rattle.std.specs.Option.{option_map}
use Rattle.std.proofs.lemmas.Bool.{eqb-true, eq-eqb}
use Rattle.std.proofs.lemmas.Bool.Decides.{nat_tests}
use Rattle.pt_signal.specs.declared.pid.Pid.{Pid}
use Rattle.pt_signal.specs.declared.ids.LinkId.{LinkId}
use Rattle.pt_signal.specs.Values.{same_pid}
use Rattle.pt_signal.specs.Process.{ProcessState, fresh}
use Rattle.pt_signal.proofs.Same.{same_pid_is}
use Rattle.pt_events.specs.declared.event.Event.TheVariants.{Born}
use Rattle.pt_events.specs.History.{Past, Start, Phase, unborn, living, ended, life, linked, while_living, is_the, is_ended, is_living, made_link, MayBear}
use Rattle.pt_events.specs.Journal.{IsLinkAt, IsOf}
use Rattle.pt_slots.specs.declared.Key.{Key}
use Rattle.pt_slots.specs.State.{at, issued, next_key}
use Rattle.pt_slots.specs.Offers.{OffersTheFree}
use Rattle.pt_slots.specs.Calls.{Inserted, names}
use Rattle.pt_process.specs.ProcessView.{ProcessView}
use Rattle.pt_shard.specs.declared.fault.Fault.{Fault}
use Rattle.pt_shard.specs.declared.fault.Fault.TheVariants.{Memory}
use Rattle.pt_shard.specs.Calls.{BearsChild, CanWrite, birth_link, new_link}
use Rattle.pt_shard.specs.ShardState.{ShardState, past, shard_after, lives}
use Rattle.pt_shard.specs.Known.{knows, issued_in}
use Rattle.pt_shard.specs.Extends.{Extends}
use Rattle.pt_shard.specs.Fit.{IsFit}
use Rattle.pt_shard.specs.LedgerState.{Book, wrote}
use Rattle.pt_shard.specs.Sound.{live_process, of_phase}
use Rattle.pt_shard.specs.Processes.{Table, ProcessesState, process_at, in_place, changed, vacant_at, pid_of_key, Changes, IsSameTable, HasRoomFor}
use Rattle.pt_shard.specs.Reading.{read_of}
use Rattle.pt_shard.specs.Whole.{Parts, parts_of, shard_of, IsWhole}
use Rattle.pt_shard.proofs.Births.{issued_more, next_unborn, previous, previous_born, is_unborn_is, ended_is}
use Rattle.pt_shard.proofs.Frames.{lives_not}
use Rattle.pt_shard.proofs.Vacancy.{next_birth, offers_changed, offers_same}
use Rattle.pt_shard.proofs.Keeps.{IsLawful, with_table, same_desk, whole_next, extends_next, fit_next, extends_itself}
use Rattle.pt_shard.proofs.Outcomes.{still}
use Rattle.pt_shard.proofs.Acting.{Found, lives_here, stands, put_by_pid, link_new, same_settings}

-- what a birth changes in the journal's reading --------------------------------------------

-- the parent's state with its half of the link
abbrev pub links_parent : Pid → Option LinkId → Pid → ProcessState → ProcessState
links_parent child link me s = linked (Some child) link s

linked_phase : (p q : Pid) (link : Option LinkId) (f : Phase) → of_phase p (while_living (linked (Some q) link) f) ≡ changed (links_parent q link) (of_phase p f)
linked_phase p q link unborn = refl
linked_phase p q link (living s) = refl
linked_phase p q link (ended r s) = refl

-- what is read for p after the birth of q, where `was` was read before
abbrev pub read_born : Pid → Option Pid → Option LinkId → Pid → Option (Pid × ProcessState) → Option (Pid × ProcessState)
read_born q parent link p was = cond (same_pid p q) (Some (q, linked parent link fresh)) (cond (is_the p parent) (changed (links_parent q link) was) was)

birth_process : (start : Start) (before : Past) (q : Pid) (parent : Option Pid) (link : Option LinkId) → life start before q ≡ unborn
    → (p : Pid) → live_process start (Born q parent link ∷ before) p ≡ read_born q parent link p (live_process start before p)
birth_process start before q parent link new p = go (same_pid p q) refl (is_the p parent) refl
  where
    go : (a : Bool) → same_pid p q ≡ a → (b : Bool) → is_the p parent ≡ b
        → live_process start (Born q parent link ∷ before) p ≡ read_born q parent link p (live_process start before p)
    go true h b k =
        let e = same_pid_is p q h in
        let n : life start before p ≡ unborn = ap (life start before) e ∙ new in
        rw (h, n) (ap (λ x. Some (x, linked parent link fresh)) e)
    go false h true k = rw (h, k) (linked_phase p q link (life start before p))
    go false h false k = rw (h, k) refl

-- the slots before and after ---------------------------------------------------------------

-- only the latest version of a slot is live
stale : (table : Table) (slot version : ℕ) → (issued table slot == version) ≡ false → at table slot version ≡ None
unfolding at issued
stale table slot version h = rw h refl

names_is : (key : Key) (p : Pid) (desk : ℕ) → p.shard ≡ desk → names key p.slot p.version ≡ same_pid p (pid_of_key desk key)
names_is key p desk here = grind (arith, nat_tests)

names_slot : (key : Key) (version : ℕ) → (key.version == version) ≡ false → names key key.slot version ≡ false
names_slot key version h = grind (arith, nat_tests)

other_version : (n : ℕ) → 0 < n → (n == pred n) ≡ false
other_version n some = grind (arith, nat_tests)

-- what a pid reads in the slots after an insertion
inserted_reading : (desk : ℕ) (key : Key) (r : ProcessView) (table mid : Table) → Inserted r key table mid
    → (p : Pid) → process_at desk mid p ≡ cond (same_pid p (pid_of_key desk key)) (Some (r.me, r.state)) (process_at desk table p)
inserted_reading desk key r table mid ins p = go (p.shard == desk) refl
  where
    placed : (b : Bool) → names key p.slot p.version ≡ b → read_of (at mid p.slot p.version) ≡ cond b (Some (r.me, r.state)) (read_of (at table p.slot p.version))
    placed true n = rw (ins.live p.slot p.version, n) refl
    placed false n = rw (ins.live p.slot p.version, n) refl

    go : (a : Bool) → (p.shard == desk) ≡ a → process_at desk mid p ≡ cond (same_pid p (pid_of_key desk key)) (Some (r.me, r.state)) (process_at desk table p)
    go true h =
        let same = names_is key p desk (eqb-true p.shard desk h) in
        subst (λ b. cond b (read_of (at mid p.slot p.version)) None ≡ cond (same_pid p (pid_of_key desk key)) (Some (r.me, r.state)) (cond b (read_of (at table p.slot p.version)) None)) (sym h)
        (placed (same_pid p (pid_of_key desk key)) same)
    go false h = rw h refl

-- the slot that is offered has nobody
offered_empty : (key : Key) (r : ProcessView) (table mid : Table) → Inserted r key table mid
    → (version : ℕ) → (key.version == version) ≡ false → at table key.slot version ≡ None
offered_empty key r table mid ins version h =
    let moved : at mid key.slot version ≡ at table key.slot version = ins.live key.slot version ∙ rw (names_slot key version h) refl in
    let latest : issued mid key.slot ≡ key.version = ins.issues key.slot ∙ rw (eq-eqb key.slot key.slot refl) refl in
    sym moved ∙ stale mid key.slot version (ap (λ n. n == version) latest ∙ h)

-- a desk after a birth: which slot is vacant is left open
pub record BirthOutcome (d : ShardState) (b : Parts) (p : Pid) (parent : Option Pid) (link : Option LinkId) : Type 0 where
  pub whole : IsWhole b
  pub fit : IsFit (shard_of b)
  pub extends : Extends d (shard_of b)
  pub is : shard_of b ≡ record (shard_after (Born p parent link) d) { vacant = (shard_of b).vacant }
  pub here : p.shard ≡ b.processes.desk
  pub known : knows (shard_of b) p ≡ true

-- the key of the pid that was offered
offered_key : (desk : ℕ) (o : Option Key) (key : Key) (q : Pid) → o ≡ Some key → Some q ≡ option_map (pid_of_key desk) o → q ≡ pid_of_key desk key
offered_key desk None key q h k = absurd (cc)
offered_key desk (Some other) key q h k = cc

-- a new process knows its own pid
knows_new : (d : ShardState) (p : Pid) → p.shard ≡ d.number → d.number < d.config.desks → p.slot < d.config.slots → 0 < p.version → p.version ≤ d.config.top_version → p.version ≤ issued_in d.start (past d) p.slot → knows d p ≡ true
knows_new d p here inside slot some top issued = grind (arith, nat_tests)

module _ (a : Parts) (whole : IsWhole a) (key : Key) (r : ProcessView) (mid : Table) (ins : Inserted r key a.processes.table mid) where
  abbrev child : Pid
  child = pid_of_key a.processes.desk key

  next_is : key.version ≡ issued_in a.book.start (past (shard_of a)) key.slot + 1
  next_is = ins.version_is_next ∙ ap (λ n. n + 1) (whole.sound.issues key.slot)

  not_yet : life a.book.start (past (shard_of a)) child ≡ unborn
  not_yet = is_unborn_is _ (next_unborn a.book.start a.processes.desk (past (shard_of a)) child whole.sound.born next_is)

  -- whoever had the slot before has ended
  follows : 1 < key.version → is_ended (life a.book.start (past (shard_of a)) (previous child)) ≡ true
  follows some =
      let empty : at a.processes.table key.slot (pred key.version) ≡ None = offered_empty key r a.processes.table mid ins (pred key.version) (other_version key.version (omega arith)) in
      let none : process_at a.processes.desk a.processes.table (previous child) ≡ None = rw (eq-eqb a.processes.desk a.processes.desk refl, empty) refl in
      ended_is (life a.book.start (past (shard_of a)) (previous child)) (previous_born a.book.start a.processes.desk (past (shard_of a)) child whole.sound.born refl next_is some)
      (lives_not (life a.book.start (past (shard_of a)) (previous child)) (previous child) (sym (whole.sound.processes (previous child)) ∙ none))

  module _ (parent : Option Pid) (link : Option LinkId) (table' : Table) where
    -- the slots after the birth
    pub record IsBirth : Type 0 where
      pub can : a.book.clock < 2 ^ 62
      pub home : IsOf a.processes.desk parent
      pub may : MayBear a.book.start (past (shard_of a)) parent link
      pub new_at : IsLinkAt a.processes.desk (a.book.clock + 1) link
      pub reads : (p : Pid) → process_at a.processes.desk table' p ≡ read_born child parent link p (process_at a.processes.desk a.processes.table p)
      pub issues : (slot : ℕ) → issued table' slot ≡ issued mid slot
      pub offers : OffersTheFree table'
      pub capacity : table'.capacity ≡ mid.capacity
      pub top_version : table'.top_version ≡ mid.top_version

    issued_now : (slot : ℕ) → issued mid slot ≡ issued_in a.book.start (Born child parent link ∷ past (shard_of a)) slot
    issued_now slot = ins.issues slot ∙ ap (cond (key.slot == slot) key.version) (whole.sound.issues slot)

    lawful : IsBirth → IsLawful a whole (a.book.clock + 1) (Born child parent link) table'
    lawful b = record {
      later = omega arith;
      fits = let k = b.can in omega arith;
      home = (refl, b.home);
      may = (not_yet, b.may);
      new_at = b.new_at;
      known = (let k = ins.version_is_next in omega arith, let k = ins.version_in_range in omega (arith, whole.top_version), follows);
      near = tt;
      processes = λ p.
          b.reads p ∙ ap (read_born child parent link p) (whole.sound.processes p) ∙ sym (birth_process a.book.start (past (shard_of a)) child parent link not_yet p);
      issues = λ slot. b.issues slot ∙ issued_now slot;
      born = issued_more a.book.start a.processes.desk (past (shard_of a)) child parent link refl next_is whole.sound.born;
      offers = b.offers;
      capacity = b.capacity ∙ ins.settings.capacity;
      top_version = b.top_version ∙ ins.settings.top_version;
    }

    born_parts : IsBirth → BirthOutcome (shard_of a) (parts_of a.config (wrote (a.book.clock + 1) (Born child parent link) [] a.book) (with_table a.processes table')) child parent link
    born_parts b = record {
      whole = whole_next a whole (a.book.clock + 1) (Born child parent link) table' (lawful b);
      fit = fit_next a whole (a.book.clock + 1) (Born child parent link) table' (lawful b);
      extends = extends_next a whole (a.book.clock + 1) (Born child parent link) table' (lawful b);
      is = rw whole.home refl;
      here = refl;
      known =
          let latest : issued_in a.book.start (Born child parent link ∷ past (shard_of a)) key.slot ≡ key.version = rw (eq-eqb key.slot key.slot refl) refl in
          knows_new (shard_of (parts_of a.config (wrote (a.book.clock + 1) (Born child parent link) [] a.book) (with_table a.processes table'))) child refl whole.sound.fit.here
          (let k = ins.slot_in_range in omega (arith, whole.capacity)) (let k = ins.version_is_next in omega arith) (let k = ins.version_in_range in omega (arith, whole.top_version)) (omega (arith, latest));
    }

    pub born_outcome : IsBirth → (q : Pid) → q ≡ child → (book : Book) → book ≡ wrote (a.book.clock + 1) (Born q parent link) [] a.book
        → (processes : ProcessesState) → processes.desk ≡ a.processes.desk → processes.table ≡ table' → BirthOutcome (shard_of a) (parts_of a.config book processes) q parent link
    born_outcome b q is book book_is processes desk table_is =
        subst (λ x. BirthOutcome (shard_of a) (parts_of a.config x processes) q parent link) (sym book_is)
        (subst (λ h. BirthOutcome (shard_of a) (parts_of a.config (wrote (a.book.clock + 1) (Born q parent link) [] a.book) h) q parent link) (sym (same_desk a.processes processes desk ∙ ap (with_table a.processes) table_is))
        (subst (λ x. BirthOutcome (shard_of a) (parts_of a.config (wrote (a.book.clock + 1) (Born x parent link) [] a.book) (with_table a.processes table')) x parent link) (sym is) (born_parts b)))

  -- a process without a parent
  pub alone_born : a.book.clock < 2 ^ 62 → r.me ≡ child → r.state ≡ fresh → IsBirth None None mid
  alone_born can me state = record {
    can = can;
    home = tt;
    may = tt;
    new_at = tt;
    reads = λ p. inserted_reading a.processes.desk key r a.processes.table mid ins p ∙ rw (me, state) refl;
    issues = λ slot. refl;
    offers = ins.offers;
    capacity = refl;
    top_version = refl;
  }

  module _ (par : Pid) (f : Found a par) where
    -- the parent is not its child
    not_child : (p : Pid) → p ≡ par → p ≡ child → ⊥
    not_child p h k = let both : living f.s ≡ unborn = sym (lives_here a whole par f) ∙ ap (life a.book.start (past (shard_of a))) (sym h ∙ k) ∙ not_yet in cc

    pub still_there : same_pid par child ≡ false
    still_there = go (same_pid par child) refl
      where
        go : (b : Bool) → same_pid par child ≡ b → same_pid par child ≡ false
        go true h = absurd (not_child par refl (same_pid_is par child h))
        go false h = h

    parent_place : in_place mid par ≡ process_at a.processes.desk a.processes.table par
    parent_place =
        let home : process_at a.processes.desk mid par ≡ in_place mid par = rw (eq-eqb par.shard a.processes.desk (stands a whole par f).0) refl in
        sym home ∙ inserted_reading a.processes.desk key r a.processes.table mid ins par ∙ rw still_there refl

    pub parent_stays : IsSome (in_place mid par)
    parent_stays = subst IsSome (f.there ∙ sym parent_place) refl

    module _ (link : Option LinkId) (me_is : r.me ≡ child) (state_is : r.state ≡ linked (Some par) link fresh) (table' : Table) (changes : Changes par (links_parent child link) mid table') where
      child_reads : (p : Pid) → process_at a.processes.desk table' p ≡ read_born child (Some par) link p (process_at a.processes.desk a.processes.table p)
      child_reads p = go (same_pid p child) refl (same_pid p par) refl
        where
          first : process_at a.processes.desk mid p ≡ cond (same_pid p child) (Some (child, linked (Some par) link fresh)) (process_at a.processes.desk a.processes.table p)
          first = inserted_reading a.processes.desk key r a.processes.table mid ins p ∙ rw (me_is, state_is) refl

          then_it : process_at a.processes.desk table' p ≡ cond (same_pid p par) (changed (links_parent child link) (in_place mid par)) (process_at a.processes.desk mid p)
          then_it = put_by_pid a.processes.desk par _ mid table' (stands a whole par f).0 changes.puts p

          go : (x : Bool) → same_pid p child ≡ x → (y : Bool) → same_pid p par ≡ y → process_at a.processes.desk table' p ≡ read_born child (Some par) link p (process_at a.processes.desk a.processes.table p)
          go true h true k = absurd (not_child p (same_pid_is p par k) (same_pid_is p child h))
          go true h false k = then_it ∙ rw (k, h) (first ∙ rw h refl)
          go false h true k =
              then_it ∙ rw (k, h) (ap (changed (links_parent child link)) (parent_place ∙ ap (process_at a.processes.desk a.processes.table) (sym (same_pid_is p par k))))
          go false h false k = then_it ∙ rw (k, h) (first ∙ rw h refl)

      pub child_born : a.book.clock < 2 ^ 62 → MayBear a.book.start (past (shard_of a)) (Some par) link → IsLinkAt a.processes.desk (a.book.clock + 1) link → IsBirth (Some par) link table'
      child_born can may new_at = record {
        can = can;
        home = (stands a whole par f).0;
        may = may;
        new_at = new_at;
        reads = child_reads;
        issues = changes.puts.settings.issues;
        offers = offers_changed par _ mid table' ins.offers changes;
        capacity = changes.puts.settings.capacity;
        top_version = changes.puts.settings.top_version;
      }

-- the slots with more room -----------------------------------------------------------------

same_reading : (desk : ℕ) (table roomy : Table) → IsSameTable table roomy → (p : Pid) → process_at desk roomy p ≡ process_at desk table p
same_reading desk table roomy same p = ap (λ x. cond (p.shard == desk) x None) (same.live p.slot p.version)

pub same_whole : (a : Parts) (book : Book) (processes : ProcessesState) → IsWhole a → book ≡ a.book → processes.desk ≡ a.processes.desk → IsSameTable a.processes.table processes.table → IsWhole (parts_of a.config book processes)
same_whole a book processes whole b d same =
    subst (λ x. IsWhole (parts_of a.config x processes)) (sym b)
    (subst (λ h. IsWhole (parts_of a.config a.book h)) (sym (same_desk a.processes processes d))
    (record {
      sound = record {
        fit = record {
          settings = whole.sound.fit.settings;
          here = whole.sound.fit.here;
          begun = whole.sound.fit.begun;
          clock_is = whole.sound.fit.clock_is;
          local = whole.sound.fit.local;
          vacant =
              next_birth (shard_of (parts_of a.config a.book (with_table a.processes processes.table))) processes.table (λ p. same_reading a.processes.desk a.processes.table processes.table same p ∙ whole.sound.processes p)
              (λ slot. same.settings.issues slot ∙ whole.sound.issues slot) (same.settings.capacity ∙ whole.capacity) (same.settings.top_version ∙ whole.top_version)
              (offers_same a.processes.table processes.table whole.offers same);
          boxes = whole.sound.fit.boxes;
          boxed = whole.sound.fit.boxed;
          held = whole.sound.fit.held;
          posts_near = whole.sound.fit.posts_near;
          gots_near = whole.sound.fit.gots_near;
        };
        processes = λ p. same_reading a.processes.desk a.processes.table processes.table same p ∙ whole.sound.processes p;
        issues = λ slot. same.settings.issues slot ∙ whole.sound.issues slot;
        born = whole.sound.born;
        near = whole.sound.near;
      };
      offers = offers_same a.processes.table processes.table whole.offers same;
      home = whole.home;
      capacity = same.settings.capacity ∙ whole.capacity;
      top_version = same.settings.top_version ∙ whole.top_version;
    }))

-- the calls ----------------------------------------------------------------------------------

may_link : (start : Start) (earlier : Past) (par : Pid) (s : ProcessState) → life start earlier par ≡ living s → (asked : Bool) (i : LinkId) → made_link earlier i ≡ false
    → MayBear start earlier (Some par) (then_some asked i)
may_link start earlier par s lives true i new = (ap is_living lives, new)
may_link start earlier par s lives false i new = ap is_living lives

link_at : (desk n : ℕ) (asked : Bool) → IsLinkAt desk n (then_some asked (record { desk = desk; number = n }))
link_at desk n true = (refl, refl)
link_at desk n false = tt

inserted_if : (o : Option Key) (r : ProcessView) (old new : Table) → IfSome o (λ key. Inserted r key old new) → (q : Pid) (desk : ℕ) → Some q ≡ option_map (pid_of_key desk) o → (key : Key) × ((o ≡ Some key) × Inserted r key old new)
inserted_if None r old new h q desk free = absurd (cc)
inserted_if (Some key) r old new h q desk free = (key, (refl, h))

pub spawned : (a : Parts) (whole : IsWhole a) (q : Pid) → Some q ≡ vacant_at a.processes.desk a.processes.table → a.book.clock < 2 ^ 62
    → (r : ProcessView) → r.me ≡ q → r.state ≡ fresh → (processes : ProcessesState) → processes.desk ≡ a.processes.desk → IfSome (next_key a.processes.table) (λ key. Inserted r key a.processes.table processes.table)
    → (book : Book) → book ≡ wrote (a.book.clock + 1) (Born q None None) [] a.book → BirthOutcome (shard_of a) (parts_of a.config book processes) q None None
spawned a whole q free can r me state processes desk inserts book is =
    let found = inserted_if (next_key a.processes.table) r a.processes.table processes.table inserts q a.processes.desk free in
    let at : q ≡ pid_of_key a.processes.desk found.0 = offered_key a.processes.desk (next_key a.processes.table) found.0 q found.1.0 free in
    born_outcome a whole found.0 r processes.table found.1.1 None None processes.table
    (alone_born a whole found.0 r processes.table found.1.1 can (me ∙ at) state) q at book is processes desk refl

-- the parent keeps its room when its child is taken in
room_kept : (a : Parts) (whole : IsWhole a) (par : Pid) (f : Found a par) (key : Key) (r : ProcessView) (mid : Table) → Inserted r key a.processes.table mid
    → (link : Option LinkId) → HasRoomFor link par a.processes.table → HasRoomFor link par mid
room_kept a whole par f key r mid ins None room = tt
room_kept a whole par f key r mid ins (Some i) room =
    let other : names key par.slot par.version ≡ false = names_is key par a.processes.desk (stands a whole par f).0 ∙ still_there a whole key r mid ins par f in
    let kept : at mid par.slot par.version ≡ at a.processes.table par.slot par.version = ins.live par.slot par.version ∙ rw other refl in
    subst (λ o. IfSome o (λ x. 0 < x.room)) (sym kept) room

module _ (a : Parts) (whole : IsWhole a) (par : Pid) (f : Found a par) (q : Pid) (free : Some q ≡ vacant_at a.processes.desk a.processes.table)
    (roomy : ProcessesState) (desk : roomy.desk ≡ a.processes.desk) (same : IsSameTable a.processes.table roomy.table)
    (r : ProcessView) (mid : ProcessesState) (desk' : mid.desk ≡ roomy.desk) (inserts : IfSome (next_key roomy.table) (λ key. Inserted r key roomy.table mid.table)) where
  abbrev wide : Parts
  wide = parts_of a.config a.book (with_table a.processes roomy.table)

  wide_whole : IsWhole wide
  wide_whole = same_whole a a.book (with_table a.processes roomy.table) whole refl refl same

  wide_found : Found wide par
  wide_found = record { me = f.me; s = f.s; there = f.there ∙ sym (same_reading a.processes.desk a.processes.table roomy.table same par) }

  wide_free : Some q ≡ vacant_at a.processes.desk roomy.table
  wide_free = free ∙ ap (option_map (pid_of_key a.processes.desk)) (sym same.next)

  picked : (key : Key) × ((next_key roomy.table ≡ Some key) × Inserted r key roomy.table mid.table)
  picked = inserted_if (next_key roomy.table) r roomy.table mid.table inserts q a.processes.desk wide_free

  q_is : q ≡ pid_of_key a.processes.desk picked.0
  q_is = offered_key a.processes.desk (next_key roomy.table) picked.0 q picked.1.0 wide_free

  pub room_stays : (link : Option LinkId) → HasRoomFor link par roomy.table → HasRoomFor link par mid.table
  room_stays link room = room_kept wide wide_whole par wide_found picked.0 r mid.table picked.1.1 link room

  pub parent_is_there : IsSome (in_place mid.table par)
  parent_is_there = parent_stays wide wide_whole picked.0 r mid.table picked.1.1 par wide_found

  pub child_outcome : a.book.clock < 2 ^ 62 → (asked : Bool) (link : Option LinkId) → link ≡ birth_link asked (shard_of a)
      → r.me ≡ q → r.state ≡ linked (Some par) link fresh
      → (last : ProcessesState) → last.desk ≡ mid.desk → Changes par (links_parent q link) mid.table last.table
      → (book : Book) → book ≡ wrote (a.book.clock + 1) (Born q (Some par) link) [] a.book
      → BirthOutcome (shard_of a) (parts_of a.config book last) q (Some par) link
  child_outcome can asked link is me state last desk'' changes book book_is =
      let new : made_link (past (shard_of a)) (new_link (shard_of a)) ≡ false = link_new a whole (new_link (shard_of a)) refl in
      let may : MayBear a.book.start (past (shard_of a)) (Some par) link = subst (MayBear a.book.start (past (shard_of a)) (Some par)) (sym is) (may_link a.book.start (past (shard_of a)) par f.s (lives_here a whole par f) asked (new_link (shard_of a)) new) in
      let new_at : IsLinkAt a.processes.desk (a.book.clock + 1) link = subst (IsLinkAt a.processes.desk (a.book.clock + 1)) (sym is) (link_at a.processes.desk (a.book.clock + 1) asked) in
      let birth = child_born wide wide_whole picked.0 r mid.table picked.1.1 par wide_found link (me ∙ q_is) state last.table
      (subst (λ x. Changes par (links_parent x link) mid.table last.table) q_is changes) can may new_at in
      let born = born_outcome wide wide_whole picked.0 r mid.table picked.1.1 (Some par) link last.table birth q q_is book book_is last (desk'' ∙ desk' ∙ desk) refl in
      subst (λ v. BirthOutcome (record (shard_of a) { vacant = v }) (parts_of a.config book last) q (Some par) link) (ap (option_map (pid_of_key a.processes.desk)) same.next) born

-- a refusal ------------------------------------------------------------------------------------

-- the desk b is the desk a, with more room perhaps
pub record Unchanged (a b : Parts) : Type 0 where
  pub whole : IsWhole b
  pub fit : IsFit (shard_of b)
  pub extends : Extends (shard_of a) (shard_of b)
  pub is : shard_of b ≡ shard_of a

pub same_table : (table : Table) → IsSameTable table table
same_table table = record { live = λ slot version. refl; settings = same_settings table; next = refl }

pub unchanged : (a : Parts) (whole : IsWhole a) (book : Book) (processes : ProcessesState) → book ≡ a.book → processes.desk ≡ a.processes.desk → IsSameTable a.processes.table processes.table → Unchanged a (parts_of a.config book processes)
unchanged a whole book processes b d same =
    let w = same_whole a book processes whole b d same in
    record { whole = w; fit = w.sound.fit; extends = subst (Extends (shard_of a)) (sym (still a book processes b d same)) (extends_itself a whole); is = still a book processes b d same }

module _ (par : Pid) (asked : Bool) (old new : ShardState) (alive_par : lives old par ≡ true) (free : IsSome old.vacant) (left : new ≡ old) where
  pub child_no_memory : CanWrite old → (r : Result Pid Fault) → IsErr r × IsErrAnd r (λ f. f ≡ Memory) → BearsChild par asked old r new
  child_no_memory can (Ok q) err = absurd (cc)
  child_no_memory can (Err f) err = subst (λ x. BearsChild par asked old (Err x) new) (sym err.1) (alive_par, can, free, left)
