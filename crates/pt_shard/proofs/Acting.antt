-- A desk on which one process acts is whole afterwards, and is as its event makes it.
use Rattle.std.proofs.Common.{◌≡◌, ℕ, ◌+◌, ◌^◌, ◌<◌, max, Bool, true, false, cond, ◌==◌, List, [], ◌∷◌, length, map, Option, Some, None, refl, sym, ap, ◌∙◌, subst, arith}
use Rattle.std.specs.Prelude.{IsSome, IfSome}
use Rattle.std.specs.Option.{option_map}
use Rattle.std.specs.List.{find}
use Rattle.std.proofs.lemmas.Bool.{eqb-true, eq-eqb}
use Rattle.std.proofs.lemmas.Bool.Decides.{nat_tests}
use Rattle.pt_signal.specs.declared.pid.Pid.{Pid}
use Rattle.pt_signal.specs.declared.item.Item.{Item}
use Rattle.pt_signal.specs.declared.item.Pick.{Pick}
use Rattle.pt_signal.specs.declared.letter.Letter.{Letter}
use Rattle.pt_signal.specs.declared.reason.Reason.{Reason}
use Rattle.pt_signal.specs.declared.signal.Signal.{Signal}
use Rattle.pt_signal.specs.declared.signal.Signal.TheVariants.{Message}
use Rattle.pt_signal.specs.Values.{same_pid, fits, without_first, same_ref}
use Rattle.pt_signal.specs.Process.{ProcessState, say, sent, estate}
use Rattle.pt_events.specs.declared.event.Event.{Event}
use Rattle.pt_events.specs.declared.event.Event.TheVariants.{Said, Took, Flag, Left}
use Rattle.pt_events.specs.History.{Start, Phase, unborn, living, ended, is_living, life, touches, is_unborn, left_sends, sent_by, MaySay, made_link, made_ref}
use Rattle.pt_events.specs.Journal.{letter, IsHome, MayHere, IsNewAt, IsKnown}
use Rattle.pt_events.proofs.Steps.{said, took, flagged, left}
use Rattle.pt_slots.specs.declared.Key.{Key}
use Rattle.pt_slots.specs.State.{at, next_key}
use Rattle.pt_slots.specs.Offers.{OffersTheFree}
use Rattle.pt_signal.specs.declared.reason.Reason.TheVariants.{Normal}
use Rattle.pt_process.specs.ProcessView.{Owing, owing_of}
use Rattle.pt_process.specs.Peers.{peers_held}
use Rattle.pt_shard.proofs.Endings.{estate_peers, every_to}
use Rattle.pt_shard.specs.ShardState.{past, lives, written, vacated, ended_by, lost_by, sends}
use Rattle.pt_shard.specs.Extends.{Extends}
use Rattle.pt_shard.specs.Fit.{IsFit}
use Rattle.pt_shard.specs.Plain.{IsPlainSignal}
use Rattle.pt_shard.specs.Known.{knows}
use Rattle.pt_shard.specs.declared.loss.Loss.{Loss}
use Rattle.pt_shard.specs.declared.loss.Loss.TheVariants.{Exited}
use Rattle.pt_shard.specs.Losses.{lost_by_exit}
use Rattle.pt_shard.specs.LedgerState.{Book, wrote, losing}
use Rattle.pt_shard.specs.Sound.{IsNear, of_phase, live_process, Every}
use Rattle.pt_shard.specs.Processes.{Table, ProcessesState, process_at, in_place, changed, is_place_of, pid_of_key, vacant_at, Puts, Changes, Ends, SameSettings}
use Rattle.pt_shard.specs.Reading.{read_of}
use Rattle.pt_shard.specs.Whole.{Parts, parts_of, shard_of, IsWhole}
use Rattle.pt_signal.specs.declared.ids.Ref.{Ref}
use Rattle.pt_signal.specs.declared.ids.LinkId.{LinkId}
use Rattle.std.specs.Map.{lookup}
use Rattle.pt_shard.specs.Calls.{new_link, new_ref}
use Rattle.pt_shard.proofs.Fresh.{fresh_link, fresh_ref}
use Rattle.pt_shard.specs.Begun.{IsNearPhase}
use Rattle.pt_shard.proofs.Near.{near_life, not_open, open_at, IsOpen}
use Rattle.pt_shard.proofs.Births.{is_any_birth, issued_kept, issued_same, known_near, known_born}
use Rattle.pt_shard.proofs.Frames.{IsPut, put_one, lives_there}
use Rattle.pt_shard.proofs.Vacancy.{same_place, offers_changed}
use Rattle.pt_shard.proofs.Keeps.{IsLawful, same_desk, sent_near, whole_next, fit_next, extends_next, next_is}

-- the table by places, and by pids ------------------------------------------------------

place_is : (p q : Pid) (desk : ℕ) → p.shard ≡ desk → q.shard ≡ desk → is_place_of p q.slot q.version ≡ same_pid q p
place_is p q desk here there = grind (arith, nat_tests)

place_not : (p q : Pid) (desk : ℕ) → p.shard ≡ desk → (q.shard == desk) ≡ false → same_pid q p ≡ false
place_not p q desk here there = grind (arith, nat_tests)

pub put_by_pid : (desk : ℕ) (p : Pid) (v : Option (Pid × ProcessState)) (old new : Table) → p.shard ≡ desk → Puts p v old new → IsPut p v (process_at desk old) (process_at desk new)
put_by_pid desk p v old new here puts q = go (q.shard == desk) refl
  where
    go : (b : Bool) → (q.shard == desk) ≡ b → process_at desk new q ≡ cond (same_pid q p) v (process_at desk old q)
    go true h = rw (h, puts.live q.slot q.version, place_is p q desk here (eqb-true q.shard desk h))
    go false h = rw (h, place_not p q desk here h)

pub at_home : (desk : ℕ) (table : Table) (p : Pid) (r : Pid × ProcessState) → process_at desk table p ≡ Some r → (p.shard ≡ desk) × (in_place table p ≡ Some r)
at_home desk table p r h = go (p.shard == desk) refl h
  where
    go : (b : Bool) → (p.shard == desk) ≡ b → process_at desk table p ≡ Some r → (p.shard ≡ desk) × (in_place table p ≡ Some r)
    go true e k = (eqb-true p.shard desk e, let j : in_place table p ≡ Some r = rw e at k in j)
    go false e k = let j : None ≡ Some r = rw e at k in absurd (cc)

pub same_settings : (table : Table) → SameSettings table table
same_settings table = record { issues = λ slot. refl; capacity = refl; top_version = refl }

changed_nothing : (o : Option (Pid × ProcessState)) → changed (λ me s. s) o ≡ o
changed_nothing None = refl
changed_nothing (Some r) = refl

-- a table that is left alone
pub left_alone : (p : Pid) (table : Table) → Changes p (λ me s. s) table table
left_alone p table = record { puts = record { live = λ slot version. go slot version (is_place_of p slot version) refl; settings = same_settings table }; next = refl }
  where
    go : (slot version : ℕ) (b : Bool) → is_place_of p slot version ≡ b → read_of (at table slot version) ≡ cond (is_place_of p slot version) (changed (λ me s. s) (in_place table p)) (read_of (at table slot version))
    go slot version false h = rw h refl
    go slot version true h =
        let e = same_place p slot version h in
        rw (h, changed_nothing (in_place table p)) (sym (ap (λ x. read_of (at table x p.version)) e.0 ∙ ap (λ x. read_of (at table slot x)) e.1))

-- the place of p itself
pub own_place : (p : Pid) → is_place_of p p.slot p.version ≡ true
own_place p = rw (eq-eqb p.slot p.slot refl, eq-eqb p.version p.version refl) refl

pub put_there : (p : Pid) (v : Option (Pid × ProcessState)) (old new : Table) → Puts p v old new → in_place new p ≡ v
put_there p v old new puts = puts.live p.slot p.version ∙ ap (λ b. cond b v (in_place old p)) (own_place p)

-- the slot of p is the next to be given out
pub vacant_next : (desk top : ℕ) (p : Pid) (old new : Table) → p.shard ≡ desk → old.top_version ≡ top
    → next_key new ≡ cond (p.version == old.top_version) (next_key old) (Some (record { slot = p.slot; version = p.version + 1 }))
    → vacant_at desk new ≡ vacated top (Some p) (vacant_at desk old)
vacant_next desk top p old new here is next = go (p.version == top) refl
  where
    same : Some (pid_of_key desk (record { slot = p.slot; version = p.version + 1 })) ≡ Some (record p { version = p.version + 1 })
    same = ap (λ d. Some (record { shard = d; slot = p.slot; version = p.version + 1 })) (sym here)

    go : (b : Bool) → (p.version == top) ≡ b → vacant_at desk new ≡ vacated top (Some p) (vacant_at desk old)
    go true e = rw (next, is, e) refl
    go false e = rw (next, is, e) same

-- the vacant pid of a desk by its key
abbrev pub option_pid : ℕ → Option Key → Option Pid
option_pid desk key = option_map (pid_of_key desk) key

pub owes_is : (p : Pid) (r : Reason) (owing : Owing) (old new : Table) (s : ProcessState) → in_place old p ≡ Some (p, s) → Ends p r owing old new → owing ≡ owing_of p s r
owes_is p r owing old new s stands ends = subst (λ o. IfSome o (λ x. owing ≡ owing_of x.0 x.1 r)) stands ends.owes

-- signals that may be said at any time -----------------------------------------------------

pub plain_may : (start : Start) (past : List Event) (s : ProcessState) (a b : Pid) (x : Signal) → IsPlainSignal x → MaySay start past s a b x
plain_may start past s a b (Message body) h = tt
plain_may start past s a b (Signal.Exit reason) h = tt
plain_may start past s a b x h = absurd h

pub plain_new : (d n : ℕ) (a b : Pid) (x : Signal) → IsPlainSignal x → IsNewAt d n (Said a b x)
plain_new d n a b (Message body) h = tt
plain_new d n a b (Signal.Exit reason) h = tt
plain_new d n a b x h = absurd h

pub plain_changes : (p to : Pid) (x : Signal) (table : Table) → IsPlainSignal x → Changes p (λ me s. say s to x) table table
plain_changes p to (Message body) table h = left_alone p table
plain_changes p to (Signal.Exit reason) table h = left_alone p table
plain_changes p to x table h = absurd h

-- what an event leaves -------------------------------------------------------------------

-- the desk b is what the event e, stamped n, makes of the desk a
pub record Outcome (a b : Parts) (n : ℕ) (e : Event) : Type 0 where
  pub whole : IsWhole b
  pub fit : IsFit (shard_of b)
  pub extends : Extends (shard_of a) (shard_of b)
  pub is : shard_of b ≡ written n e (shard_of a)

pub outcome : (a : Parts) (whole : IsWhole a) (n : ℕ) (e : Event) (book : Book) (processes : ProcessesState) → processes.desk ≡ a.processes.desk
    → IsLawful a whole n e processes.table → book ≡ losing (lost_by (shard_of a) e) (wrote n e (sends n e (shard_of a)) a.book)
    → vacant_at a.processes.desk processes.table ≡ vacated a.config.top_version (ended_by (shard_of a) e) (vacant_at a.processes.desk a.processes.table)
    → Outcome a (parts_of a.config book processes) n e
outcome a whole n e book processes desk law is vacant =
    subst (λ b. Outcome a (parts_of a.config b processes) n e) (sym is)
    (subst (λ h. Outcome a (parts_of a.config (losing (lost_by (shard_of a) e) (wrote n e (sends n e (shard_of a)) a.book)) h) n e) (sym (same_desk a.processes processes desk))
    (record { whole = whole_next a whole n e processes.table law; fit = fit_next a whole n e processes.table law; extends = extends_next a whole n e processes.table law; is = next_is a whole n e processes.table vacant }))

-- the clock is above no floor, and the ledger was prepared
pub own_loss : (e : Event) (o : Option Loss) (ls : ℕ → List Letter) (prepared book book' : Book) → prepared ≡ book
    → book' ≡ losing o (wrote (max prepared.clock 0 + 1) e (ls (max prepared.clock 0 + 1)) prepared) → book' ≡ losing o (wrote (book.clock + 1) e (ls (book.clock + 1)) book)
own_loss e o ls prepared book book' same is =
    let now : book' ≡ losing o (wrote (max book.clock 0 + 1) e (ls (max book.clock 0 + 1)) book) = subst (λ b. book' ≡ losing o (wrote (max b.clock 0 + 1) e (ls (max b.clock 0 + 1)) b)) same is in
    let k : max book.clock 0 + 1 ≡ book.clock + 1 = omega arith in
    now ∙ ap (λ m. losing o (wrote m e (ls m) book)) k

pub own_book : (e : Event) (ls : ℕ → List Letter) (prepared book book' : Book) → prepared ≡ book
    → book' ≡ wrote (max prepared.clock 0 + 1) e (ls (max prepared.clock 0 + 1)) prepared → book' ≡ wrote (book.clock + 1) e (ls (book.clock + 1)) book
own_book e ls prepared book book' same is = own_loss e None ls prepared book book' same is

-- a process that was found
pub record Found (a : Parts) (p : Pid) : Type 0 where
  pub me : Pid
  pub s : ProcessState
  pub there : Some (me, s) ≡ process_at a.processes.desk a.processes.table p

-- who lives by the journal stands in the slots
pub found_living : (a : Parts) → IsWhole a → (p : Pid) → lives (shard_of a) p ≡ true → Found a p
found_living a whole p alive = go (life a.book.start (past (shard_of a)) p) refl alive
  where
    go : (f : Phase) → life a.book.start (past (shard_of a)) p ≡ f → is_living f ≡ true → Found a p
    go (living s) is h = record { me = p; s = s; there = sym (whole.sound.processes p ∙ ap (of_phase p) is) }
    go unborn is h = absurd (cc)
    go (ended r s) is h = absurd (cc)

module _ (a : Parts) (whole : IsWhole a) (p : Pid) (f : Found a p) where
  pub both : (life a.book.start (past (shard_of a)) p ≡ living f.s) × (f.me ≡ p)
  both = lives_there (life a.book.start (past (shard_of a)) p) p f.me f.s (sym (whole.sound.processes p) ∙ sym f.there)

  pub lives_here : life a.book.start (past (shard_of a)) p ≡ living f.s
  lives_here = both.0

  pub alive : lives (shard_of a) p ≡ true
  alive = ap is_living lives_here

  pub stands : (p.shard ≡ a.processes.desk) × (in_place a.processes.table p ≡ Some (p, f.s))
  stands =
      let h = at_home a.processes.desk a.processes.table p (f.me, f.s) (sym f.there) in
      (h.0, h.1 ∙ ap (λ x. Some (x, f.s)) both.1)

  pub is_there : IsSome (in_place a.processes.table p)
  is_there = subst IsSome (sym stands.1) refl

  -- an event of p that is neither a birth nor a receipt
  pub record IsOwn (e : Event) : Type 0 where
    pub alone : (q : Pid) → touches q e ≡ same_pid q p
    pub no_birth : is_any_birth e ≡ false
    pub home : IsHome a.processes.desk e
    pub may : MayHere a.book.start (past (shard_of a)) e
    pub new_at : IsNewAt a.processes.desk (a.book.clock + 1) e
    pub known : IsKnown a.book.start a.processes.desk a.config.top_version (past (shard_of a)) e
    pub near : IsNear a.config.desks e

  module _ (can : a.book.clock < 2 ^ 62) (book : Book) (processes : ProcessesState) (desk : processes.desk ≡ a.processes.desk) where
    own_lawful : (e : Event) (own : IsOwn e) (v : Option (Pid × ProcessState)) → Puts p v a.processes.table processes.table → live_process a.book.start (e ∷ past (shard_of a)) p ≡ v → OffersTheFree processes.table
        → IsLawful a whole (a.book.clock + 1) e processes.table
    own_lawful e own v puts after offers = record {
      later = omega arith;
      fits = omega (arith, can);
      home = own.home;
      may = own.may;
      new_at = own.new_at;
      known = own.known;
      near = own.near;
      processes =
          put_one a.book.start (past (shard_of a)) e p own.alone (process_at a.processes.desk a.processes.table) (process_at a.processes.desk processes.table) whole.sound.processes
          (subst (λ x. IsPut p x (process_at a.processes.desk a.processes.table) (process_at a.processes.desk processes.table)) (sym after) (put_by_pid a.processes.desk p v a.processes.table processes.table stands.0 puts));
      issues = λ slot. puts.settings.issues slot ∙ whole.sound.issues slot ∙ sym (issued_same a.book.start (past (shard_of a)) e slot own.no_birth);
      born = issued_kept a.book.start a.processes.desk (past (shard_of a)) e own.no_birth whole.sound.born;
      offers = offers;
      capacity = puts.settings.capacity;
      top_version = puts.settings.top_version;
    }

    -- p says a signal to a pid of the node, which was born if it is of this desk
    pub said_to : (to : Pid) (x : Signal) → (to.shard ≡ a.processes.desk → is_unborn (life a.book.start (past (shard_of a)) to) ≡ false) → to.shard < a.config.desks
        → MaySay a.book.start (past (shard_of a)) f.s p to x → IsNewAt a.processes.desk (a.book.clock + 1) (Said p to x)
        → book ≡ wrote (a.book.clock + 1) (Said p to x) (letter (a.book.clock + 1) (sent p to x) ∷ []) a.book
        → Changes p (λ me s. say s to x) a.processes.table processes.table
        → Outcome a (parts_of a.config book processes) (a.book.clock + 1) (Said p to x)
    said_to to x born near may new is changes =
        let own : IsOwn (Said p to x) = record { alone = λ q. refl; no_birth = refl; home = stands.0; may = rw lives_here (refl, may); new_at = new; known = born; near = near } in
        let after = ap (of_phase p) (said a.book.start (past (shard_of a)) p f.s lives_here to x) ∙ sym (ap (changed (λ me s. say s to x)) stands.1) in
        outcome a whole (a.book.clock + 1) (Said p to x) book processes desk (own_lawful (Said p to x) own _ changes.puts after (offers_changed p _ a.processes.table processes.table whole.offers changes)) is (ap (option_pid a.processes.desk) changes.next)

    pub said_known : (to : Pid) (x : Signal) → knows (shard_of a) to ≡ true
        → MaySay a.book.start (past (shard_of a)) f.s p to x → IsNewAt a.processes.desk (a.book.clock + 1) (Said p to x)
        → book ≡ wrote (a.book.clock + 1) (Said p to x) (letter (a.book.clock + 1) (sent p to x) ∷ []) a.book
        → Changes p (λ me s. say s to x) a.processes.table processes.table
        → Outcome a (parts_of a.config book processes) (a.book.clock + 1) (Said p to x)
    said_known to x known = said_to to x (known_born (shard_of a) to whole.sound.born known) (known_near (shard_of a) to known)

    pub set_flag : (on : Bool) → book ≡ wrote (a.book.clock + 1) (Flag p on) [] a.book
        → Changes p (λ me s. record s { traps = on }) a.processes.table processes.table
        → Outcome a (parts_of a.config book processes) (a.book.clock + 1) (Flag p on)
    set_flag on is changes =
        let own : IsOwn (Flag p on) = record { alone = λ q. refl; no_birth = refl; home = stands.0; may = rw lives_here refl; new_at = tt; known = tt; near = tt } in
        let after = ap (of_phase p) (flagged a.book.start (past (shard_of a)) p f.s lives_here on) ∙ sym (ap (changed (λ me s. record s { traps = on })) stands.1) in
        outcome a whole (a.book.clock + 1) (Flag p on) book processes desk (own_lawful (Flag p on) own _ changes.puts after (offers_changed p _ a.processes.table processes.table whole.offers changes)) is (ap (option_pid a.processes.desk) changes.next)

    pub took_item : (k : Pick) (i : Item) → find (fits k) f.s.waiting ≡ Some i
        → book ≡ wrote (a.book.clock + 1) (Took p k i) [] a.book
        → Changes p (λ me t. record t { waiting = without_first (fits k) t.waiting }) a.processes.table processes.table
        → Outcome a (parts_of a.config book processes) (a.book.clock + 1) (Took p k i)
    took_item k i first is changes =
        let own : IsOwn (Took p k i) = record { alone = λ q. refl; no_birth = refl; home = stands.0; may = rw lives_here (refl, first); new_at = tt; known = tt; near = tt } in
        let after = ap (of_phase p) (took a.book.start (past (shard_of a)) p f.s lives_here k i) ∙ sym (ap (changed (λ me t. record t { waiting = without_first (fits k) t.waiting })) stands.1) in
        outcome a whole (a.book.clock + 1) (Took p k i) book processes desk (own_lawful (Took p k i) own _ changes.puts after (offers_changed p _ a.processes.table processes.table whole.offers changes)) is (ap (option_pid a.processes.desk) changes.next)

    pub left_by : (r : Reason) (owing : Owing) → Ends p r owing a.processes.table processes.table
        → book ≡ losing (Some (Exited p r owing.waiting)) (wrote (a.book.clock + 1) (Left p r) (map (letter (a.book.clock + 1)) owing.owed) a.book)
        → Outcome a (parts_of a.config book processes) (a.book.clock + 1) (Left p r)
    left_by r owing ends wrote_is =
        let own : IsOwn (Left p r) = record { alone = λ q. refl; no_birth = refl; home = stands.0; may = rw lives_here refl; new_at = tt; known = tt; near = tt } in
        let n = a.book.clock + 1 in
        outcome a whole (a.book.clock + 1) (Left p r) book processes desk
        (own_lawful (Left p r) own None ends.puts (ap (of_phase p) (left a.book.start (past (shard_of a)) p f.s lives_here r)) ends.offers)
        (wrote_is
        ∙ ap (λ o. losing (Some (Exited p r o.waiting)) (wrote n (Left p r) (map (letter n) o.owed) a.book)) (owes_is p r owing a.processes.table processes.table f.s stands.1 ends)
        ∙ sym (ap (λ x. losing (lost_by_exit x p r) (wrote n (Left p r) (map (letter n) (left_sends x p r)) a.book)) lives_here))
        (vacant_next a.processes.desk a.config.top_version p a.processes.table processes.table stands.0 whole.top_version ends.next)

-- the id and the reference of the next event
pub link_now : (a : Parts) (whole : IsWhole a) (prepared : Book) → prepared ≡ a.book → (i : LinkId) → i ≡ record { desk = prepared.desk; number = prepared.clock + 1 } → i ≡ new_link (shard_of a)
link_now a whole prepared same i is = is ∙ ap {A = Book} (λ b. record { desk = b.desk; number = b.clock + 1 }) same ∙ ap {A = ℕ} (λ d. record { desk = d; number = a.book.clock + 1 }) whole.home

pub ref_now : (a : Parts) (whole : IsWhole a) (prepared : Book) → prepared ≡ a.book → (m : Ref) → m ≡ record { desk = prepared.desk; number = prepared.clock + 1 } → m ≡ new_ref (shard_of a)
ref_now a whole prepared same m is = is ∙ ap {A = Book} (λ b. record { desk = b.desk; number = b.clock + 1 }) same ∙ ap {A = ℕ} (λ d. record { desk = d; number = a.book.clock + 1 }) whole.home

-- they were never made before
pub link_new : (a : Parts) (whole : IsWhole a) (i : LinkId) → i ≡ new_link (shard_of a) → made_link (past (shard_of a)) i ≡ false
link_new a whole i is =
    fresh_link a.book.start a.config.start a.config.top_version a.processes.desk a.book.journal i whole.sound.fit.local (let k = whole.sound.fit.clock_is in let n = ap (λ (j : LinkId). j.number) is in omega (arith, k, n))

pub ref_new : (a : Parts) (whole : IsWhole a) (m : Ref) → m ≡ new_ref (shard_of a) → made_ref (past (shard_of a)) m ≡ false
ref_new a whole m is =
    fresh_ref a.book.start a.config.start a.config.top_version a.processes.desk a.book.journal m whole.sound.fit.local (let k = whole.sound.fit.clock_is in let n = ap (λ (j : Ref). j.number) is in omega (arith, k, n))

module _ (a : Parts) (whole : IsWhole a) (p : Pid) (f : Found a p) where
  -- what the process has open
  watched : Every (IsOpen a.book.start a.config.desks a.config.start a.processes.desk a.book.journal) f.s.watching
  watched =
      let near = near_life a.book.start a.config.desks a.config.start a.config.top_version a.processes.desk whole.sound.fit.begun a.book.journal whole.sound.fit.here whole.sound.fit.local whole.sound.near p in
      (subst (IsNearPhase a.config.desks (IsOpen a.book.start a.config.desks a.config.start a.processes.desk a.book.journal)) (lives_here a whole p f) near).watching

  -- a reference that is made now was not open before
  pub not_open_yet : (m : Ref) → m ≡ new_ref (shard_of a) → lookup (same_ref m) f.s.watching ≡ None
  not_open_yet m is =
      not_open a.book.start a.config.desks a.config.start a.config.top_version a.processes.desk whole.sound.fit.begun a.book.journal m (let k = whole.sound.fit.clock_is in let n = ap (λ (j : Ref). j.number) is in omega (arith, k, n)) f.s.watching watched

  pub open_target : (m : Ref) (t : Pid) → Some t ≡ lookup (same_ref m) f.s.watching → (t.shard < a.config.desks) × (t.shard ≡ a.processes.desk → is_unborn (life a.book.start (past (shard_of a)) t) ≡ false)
  open_target m t found = open_at a.book.start a.config.desks a.config.start a.config.top_version a.processes.desk whole.sound.fit.begun a.book.journal m t f.s.watching watched (sym found)

  -- what it owes at its end goes to desks of the node
  pub left_near : (r : Reason) (owing : Owing) (table : Table) → Ends p r owing a.processes.table table → Every (λ l. l.to.shard < length a.book.outbox) owing.owed
  left_near r owing table ends =
      let owes : owing.owed ≡ sent_by a.book.start (past (shard_of a)) (Left p r)
      = ap (λ o. o.owed) (owes_is p r owing a.processes.table table f.s (stands a whole p f).1 ends) ∙ sym (ap (λ x. left_sends x p r) (lives_here a whole p f)) in
      subst (λ n. Every (λ l. l.to.shard < n) owing.owed) (sym whole.sound.fit.boxes)
      (subst (Every (λ l. l.to.shard < a.config.desks)) (sym owes) (sent_near a whole (Left p r) tt))

  pub left_peers : (r : Reason) (owing : Owing) (table : Table) → Ends p r owing a.processes.table table → map (λ l. l.to) owing.owed ≡ peers_held f.s
  left_peers r owing table ends = ap (λ o. map (λ l. l.to) o.owed) (owes_is p r owing a.processes.table table f.s (stands a whole p f).1 ends) ∙ estate_peers p f.s r

  pub peers_near : Every (λ q. q.shard < length a.book.outbox) (peers_held f.s)
  peers_near =
      let owes : estate p f.s Normal ≡ sent_by a.book.start (past (shard_of a)) (Left p Normal) = sym (ap (λ x. left_sends x p Normal) (lives_here a whole p f)) in
      subst (Every (λ q. q.shard < length a.book.outbox)) (estate_peers p f.s Normal)
      (every_to (length a.book.outbox) (estate p f.s Normal)
      (subst (λ n. Every (λ l. l.to.shard < n) (estate p f.s Normal)) (sym whole.sound.fit.boxes)
      (subst (Every (λ l. l.to.shard < a.config.desks)) (sym owes) (sent_near a whole (Left p Normal) tt))))

  pub left_from : (r : Reason) (owing : Owing) (table : Table) → Ends p r owing a.processes.table table → owing.from ≡ p
  left_from r owing table ends = ap (λ o. o.from) (owes_is p r owing a.processes.table table f.s (stands a whole p f).1 ends)
