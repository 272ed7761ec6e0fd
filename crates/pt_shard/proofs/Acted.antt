-- What a process does with the ledger makes the desk what its event makes of it.
use Rattle.std.proofs.Common.{◌≡◌, ℕ, ◌+◌, ◌^◌, ◌<◌, ◌≤◌, ◌||◌, max, Bool, true, false, cond, [], length, map, Option, Some, None, is_some, refl, sym, ap, ◌∙◌, subst}
use Rattle.std.specs.Prelude.{IfSome, IsSome, Result, Ok, Err, ⊤}
use Rattle.std.specs.List.{find}
use Rattle.std.specs.Bool.{then_some}
use Rattle.std.specs.Map.{lookup}
use Rattle.std.specs.Option.{option_map}
use Rattle.pt_signal.specs.declared.pid.Pid.{Pid}
use Rattle.pt_signal.specs.declared.item.Item.{Item}
use Rattle.pt_signal.specs.declared.item.Pick.{Pick}
use Rattle.pt_signal.specs.declared.letter.Letter.{Letter}
use Rattle.pt_signal.specs.declared.ids.Ids.{Ids}
use Rattle.pt_signal.specs.declared.ids.LinkId.{LinkId}
use Rattle.pt_signal.specs.declared.ids.Ref.{Ref}
use Rattle.pt_signal.specs.declared.signal.Signal.{Signal}
use Rattle.pt_signal.specs.declared.signal.Signal.TheVariants.{Link, Unlink, Monitor, Demonitor, AliveAsk}
use Rattle.pt_signal.specs.Values.{fits, same_pid, same_ref}
use Rattle.pt_signal.specs.Process.{held, handle, fresh}
use Rattle.pt_events.specs.declared.event.Event.{Event}
use Rattle.pt_events.specs.declared.event.Event.TheVariants.{Born, Said, Took, Flag, Left}
use Rattle.pt_events.specs.History.{state_of, linked as linked_to}
use Rattle.pt_signal.specs.declared.reason.Reason.{Reason}
use Rattle.pt_events.specs.Journal.{letter}
use Rattle.pt_slots.specs.declared.Key.{Key}
use Rattle.pt_slots.specs.State.{next_key}
use Rattle.pt_slots.specs.Calls.{Inserted}
use Rattle.pt_process.specs.ProcessView.{ProcessView, Owing}
use Rattle.pt_process.specs.Peers.{peers_held}
use Rattle.pt_shard.specs.Sound.{Every}
use Rattle.pt_shard.specs.Backs.{living_back}
use Rattle.pt_shard.specs.declared.fault.Fault.{Fault}
use Rattle.pt_shard.specs.declared.fault.Fault.TheVariants as fault
use Rattle.pt_shard.specs.declared.stop.Stop.{Stop}
use Rattle.pt_shard.specs.declared.stop.Stop.TheVariants.{Memory, Worn}
use Rattle.std.specs.Result.{IsErr, IsErrAnd}
use Rattle.pt_shard.specs.ShardState.{ShardState, Handles, came_event, past, state_in}
use Rattle.pt_shard.specs.Known.{knows}
use Rattle.pt_shard.specs.Calls.{Calls, BearsChild, new_link, new_ref, link_event, unlink_event, take_event, first_match, demonitor_event, demonitor_at, held_by, if_asked}
use Rattle.pt_shard.specs.Extends.{Extends}
use Rattle.pt_shard.specs.Fit.{IsFit}
use Rattle.pt_shard.specs.Faults.{fault_of}
use Rattle.pt_shard.specs.declared.loss.Loss.TheVariants.{Exited}
use Rattle.pt_shard.specs.LedgerState.{Book, LedgerState, HasRoomToAll, Prepares, wrote, losing}
use Rattle.pt_shard.specs.Processes.{ProcessesState, living_at, with_process, in_place, pid_of_key, vacant_at, Changes, Ends, IsSameTable, HasRoomFor}
use Rattle.pt_shard.specs.Whole.{Parts, parts_of, shard_of, IsWhole}
use Rattle.pt_shard.specs.Plain.{IsPlainSignal}
use Rattle.pt_shard.specs.Acts.{Acts, Tells, HasOnlyMoreRoom, PreparesBirth, IsStopped, TakesIn, done, posted, link_after, ref_after, taking, unlinking, giving_up, giving_up_at}
use Rattle.pt_shard.proofs.Acting.{Outcome, Found, own_book, own_loss, alive, lives_here, is_there, said_to, said_known, plain_may, plain_new, plain_changes, left_alone, set_flag, took_item, link_now, link_new, ref_now, ref_new, not_open_yet, open_target, peers_near, left_by, left_from, left_near, left_peers}
use Rattle.pt_shard.proofs.Outcomes.{not_prepared, same_book}
use Rattle.pt_shard.proofs.Bearing.{Unchanged, unchanged, same_table, BirthOutcome, links_parent, child_outcome, room_stays, parent_is_there}
use Rattle.pt_shard.proofs.Receiving.{receipt_stamp, receipt_book, taken_in, living_back_is}
use Rattle.pt_shard.proofs.Lent.{there, given_back, unharmed, roomy, ends_after}

-- a call of the process p, and what it left
pub record Acted (A : Type 0) (a b : Parts) (p : Pid) (event : Option Event) (answer : A) (result : Result A Fault) : Type 0 where
  pub whole : IsWhole b
  pub fit : IsFit (shard_of b)
  pub extends : Extends (shard_of a) (shard_of b)
  pub does : Calls p event answer (shard_of a) result (shard_of b)

-- a link that there is to make
free_to_link : (b : Bool) (o : Option Ids) (e : Event) → is_some (cond (b || is_some o) None (Some e)) ≡ true → (b ≡ false) × (o ≡ None)
free_to_link false None e new = (refl, refl)
free_to_link b o e new = absurd (cc)

event_is : (b : Bool) (o : Option Ids) (e : Event) → is_some (cond (b || is_some o) None (Some e)) ≡ true → cond (b || is_some o) None (Some e) ≡ Some e
event_is false None e new = refl
event_is b o e new = absurd (cc)

-- what is given up, as a desk tells it
giving_up_is : (d : ShardState) (p : Pid) (m : Ref) (flush : Bool) (o : Option Pid) → demonitor_at o d p m flush ≡ giving_up_at o p m flush (state_in d p)
giving_up_is d p m flush None = refl
giving_up_is d p m flush (Some t) = refl

module _ (a : Parts) (whole : IsWhole a) (p : Pid) (was : ProcessView) (found : Some was ≡ living_at a.processes.desk a.processes.table p) where
  abbrev pub acting : Found a p
  acting = record { me = was.me; s = was.state; there = there a.processes.desk a.processes.table p was found }

  -- the desk after the process was given back
  abbrev pub left_with : Book → ProcessView → Parts
  left_with book now = parts_of a.config book (with_process a.processes p now)

  pub kept_still : (book : Book) (now : ProcessView) → now.me ≡ was.me → now.state ≡ was.state → book ≡ a.book → Unchanged a (left_with book now)
  kept_still book now me state same = unchanged a whole book (with_process a.processes p now) same refl (unharmed a.processes.desk a.processes.table p was found now me state)

  -- an event, if there is one, makes of the desk what it is afterwards
  abbrev pub IsLaw : Option Event → Type 0
  IsLaw None = ⊤
  IsLaw (Some e) =
      a.book.clock < 2 ^ 62 → (book : Book) (processes : ProcessesState) → processes.desk ≡ a.processes.desk
      → book ≡ wrote (a.book.clock + 1) e (posted (a.book.clock + 1) e) a.book → Changes p (λ me s. done e s) a.processes.table processes.table
      → Outcome a (parts_of a.config book processes) (a.book.clock + 1) e

  module _ {A : Type 0} (answer : A) (ledger : LedgerState) (is : ledger.book ≡ a.book) (now : ProcessView) (ledger' : LedgerState) where
    still_one : (event : Option Event) (r : Result A Fault) → HasOnlyMoreRoom was ledger now ledger' → Calls p event answer (shard_of a) r (shard_of a)
        → Acted A a (left_with ledger'.book now) p event answer r
    still_one event r still calls =
        let u = kept_still ledger'.book now still.0 still.1 (still.2 ∙ is) in
        record { whole = u.whole; fit = u.fit; extends = u.extends; does = subst (λ d. Calls p event answer (shard_of a) r d) (sym u.is) calls }

    pub acted : (event : Option Event) → IsLaw event → (r : Result A Fault) → Acts event answer was ledger r now ledger'
        → Acted A a (left_with ledger'.book now) p event answer r
    acted None law (Ok x) h = still_one None (Ok x) h.1 (alive a whole p acting, tt, h.0, refl)
    acted None law (Err f) h = absurd h
    acted (Some e) law (Ok x) h =
        let can : a.book.clock < 2 ^ 62 = subst (λ (b : Book). b.clock < 2 ^ 62) is h.0 in
        let book : ledger'.book ≡ wrote (a.book.clock + 1) e (posted (a.book.clock + 1) e) a.book = h.4 ∙ ap (λ (b : Book). wrote (b.clock + 1) e (posted (b.clock + 1) e) b) is in
        let o = law can ledger'.book (with_process a.processes p now) refl book (given_back a.processes.desk a.processes.table p was found (λ me s. done e s) now h.2 h.3) in
        record { whole = o.whole; fit = o.fit; extends = o.extends; does = (alive a whole p acting, can, h.1, o.is) }
    acted (Some e) law (Err fault.Worn) h =
        still_one (Some e) (Err fault.Worn) h.1 (alive a whole p acting, refl, subst (λ (b : Book). 2 ^ 62 ≤ b.clock) is h.0, refl)
    acted (Some e) law (Err fault.Memory) h =
        still_one (Some e) (Err fault.Memory) h.1 (alive a whole p acting, refl, subst (λ (b : Book). b.clock < 2 ^ 62) is h.0, refl)
    acted (Some e) law (Err f) h = absurd h

  -- what its events make of the desk ------------------------------------------------------------

  flagging_law : (on : Bool) → IsLaw (Some (Flag p on))
  flagging_law on = λ can book processes desk is changes. set_flag a whole p acting can book processes desk on is changes

  taking_law : (k : Pick) → IsLaw (taking p k was.state)
  taking_law k = go (find (fits k) was.state.waiting) refl
    where
      go : (o : Option Item) → find (fits k) was.state.waiting ≡ o → IsLaw (option_map (Took p k) o)
      go None h = tt
      go (Some i) h = λ can book processes desk is changes. took_item a whole p acting can book processes desk k i h is changes

  linking_law : (to : Pid) → knows (shard_of a) to ≡ true → same_pid p to ≡ false → held was.state.links to ≡ None → IsLaw (Some (Said p to (Link (link_after a.book))))
  linking_law to known other free =
      let now : link_after a.book ≡ new_link (shard_of a) = link_now a whole a.book refl (link_after a.book) refl in
      λ can book processes desk is changes.
      said_known a whole p acting can book processes desk to (Link (link_after a.book)) known (link_new a whole (link_after a.book) now, free, other)
      (ap (λ (j : LinkId). j.desk) now, ap (λ (j : LinkId). j.number) now) is changes

  unlinking_law : (to : Pid) → knows (shard_of a) to ≡ true → IsLaw (unlinking p to was.state)
  unlinking_law to known = go (held was.state.links to) refl
    where
      go : (o : Option Ids) → held was.state.links to ≡ o → IsLaw (option_map (λ ids. Said p to (Unlink ids)) o)
      go None h = tt
      go (Some ids) h = λ can book processes desk is changes. said_known a whole p acting can book processes desk to (Unlink ids) known h tt is changes

  watching_law : (t : Pid) → knows (shard_of a) t ≡ true → same_pid p t ≡ false → IsLaw (Some (Said p t (Monitor (ref_after a.book))))
  watching_law t known other =
      let now : ref_after a.book ≡ new_ref (shard_of a) = ref_now a whole a.book refl (ref_after a.book) refl in
      λ can book processes desk is changes.
      said_known a whole p acting can book processes desk t (Monitor (ref_after a.book)) known (ref_new a whole (ref_after a.book) now, other)
      (ap (λ (j : Ref). j.desk) now, ap (λ (j : Ref). j.number) now) is changes

  giving_up_law : (m : Ref) (flush : Bool) → IsLaw (giving_up p m flush was.state)
  giving_up_law m flush = go (lookup (same_ref m) was.state.watching) refl
    where
      asked : (b : Bool) → IsLaw (if_asked b (taking p (Pick.DownOf m) was.state))
      asked true = taking_law (Pick.DownOf m)
      asked false = tt

      go : (o : Option Pid) → lookup (same_ref m) was.state.watching ≡ o → IsLaw (giving_up_at o p m flush was.state)
      go None h = asked flush
      go (Some t) h =
          let target = open_target a whole p acting m t (sym h) in
          λ can book processes desk is changes. said_to a whole p acting can book processes desk t (Demonitor m) target.1 target.0 h tt is changes

  -- what is asked of those that say it ----------------------------------------------------------------

  pub near_open : (m : Ref) → IfSome (lookup (same_ref m) was.state.watching) (λ t. t.shard < length a.book.outbox)
  near_open m = go (lookup (same_ref m) was.state.watching) refl
    where
      go : (o : Option Pid) → lookup (same_ref m) was.state.watching ≡ o → IfSome o (λ t. t.shard < length a.book.outbox)
      go None h = tt
      go (Some t) h = subst (λ n. t.shard < n) (sym whole.sound.fit.boxes) (open_target a whole p acting m t (sym h)).0

  pub link_to_make : (to : Pid) → is_some (link_event (shard_of a) p to) ≡ true → (same_pid p to ≡ false) × (held was.state.links to ≡ None)
  link_to_make to new =
      let free = free_to_link (same_pid p to) (held_by (shard_of a) p to) _ new in
      (free.0, sym (ap (λ f. held (state_of f).links to) (lives_here a whole p acting)) ∙ free.1)

  pub not_watching : lookup (same_ref (ref_after a.book)) was.state.watching ≡ None
  not_watching = not_open_yet a whole p acting (ref_after a.book) (ref_now a whole a.book refl (ref_after a.book) refl)

  -- the calls -----------------------------------------------------------------------------------------

  module _ (ledger : LedgerState) (is : ledger.book ≡ a.book) (now : ProcessView) (ledger' : LedgerState) where
    -- as the call tells it
    called : {A : Type 0} (event event' : Option Event) (answer answer' : A) (r : Result A Fault) → event' ≡ event → answer' ≡ answer → IsLaw event
        → Acts event answer was ledger r now ledger' → Acted A a (left_with ledger'.book now) p event' answer' r
    called event event' answer answer' r e x law h =
        subst (λ o. Acted _ a (left_with ledger'.book now) p o answer' r) (sym e)
        (subst (λ y. Acted _ a (left_with ledger'.book now) p event y r) (sym x) (acted answer ledger is now ledger' event law r h))

    pub flagged : (on : Bool) (r : Result Bool Fault) → Acts (Some (Flag p on)) was.state.traps was ledger r now ledger'
        → Acted Bool a (left_with ledger'.book now) p (Some (Flag p on)) (state_in (shard_of a) p).traps r
    flagged on r h =
        called (Some (Flag p on)) (Some (Flag p on)) was.state.traps (state_in (shard_of a) p).traps r refl (ap (λ f. (state_of f).traps) (lives_here a whole p acting)) (flagging_law on) h

    pub received : (k : Pick) (r : Result (Option Item) Fault) → Acts (taking p k was.state) (find (fits k) was.state.waiting) was ledger r now ledger'
        → Acted (Option Item) a (left_with ledger'.book now) p (take_event (shard_of a) p k) (first_match (shard_of a) p k) r
    received k r h =
        called (taking p k was.state) (take_event (shard_of a) p k) (find (fits k) was.state.waiting) (first_match (shard_of a) p k) r
        (ap (λ f. taking p k (state_of f)) (lives_here a whole p acting)) (ap (λ f. find (fits k) (state_of f).waiting) (lives_here a whole p acting)) (taking_law k) h

    pub linked : (to : Pid) → knows (shard_of a) to ≡ true → is_some (link_event (shard_of a) p to) ≡ true → (r : Result (Unit {0}) Fault)
        → Acts (Some (Said p to (Link (link_after ledger.book)))) (tt {0}) was ledger r now ledger' → Acted (Unit {0}) a (left_with ledger'.book now) p (link_event (shard_of a) p to) (tt {0}) r
    linked to known new r h =
        let free = link_to_make to new in
        called (Some (Said p to (Link (link_after a.book)))) (link_event (shard_of a) p to) (tt {0}) (tt {0}) r
        (event_is (same_pid p to) (held_by (shard_of a) p to) _ new ∙ ap (λ j. Some (Said p to (Link j))) (sym (link_now a whole a.book refl (link_after a.book) refl)))
        refl (linking_law to known free.0 free.1) (subst (λ b. Acts (Some (Said p to (Link (link_after b)))) (tt {0}) was ledger r now ledger') is h)

    pub unlinked : (to : Pid) → knows (shard_of a) to ≡ true → (r : Result (Unit {0}) Fault) → Acts (unlinking p to was.state) (tt {0}) was ledger r now ledger'
        → Acted (Unit {0}) a (left_with ledger'.book now) p (unlink_event (shard_of a) p to) (tt {0}) r
    unlinked to known r h =
        called (unlinking p to was.state) (unlink_event (shard_of a) p to) (tt {0}) (tt {0}) r (ap (λ f. unlinking p to (state_of f)) (lives_here a whole p acting)) refl (unlinking_law to known) h

    pub watched : (t : Pid) → knows (shard_of a) t ≡ true → same_pid p t ≡ false → (r : Result Ref Fault)
        → Acts (Some (Said p t (Monitor (ref_after ledger.book)))) (ref_after ledger.book) was ledger r now ledger'
        → Acted Ref a (left_with ledger'.book now) p (Some (Said p t (Monitor (new_ref (shard_of a))))) (new_ref (shard_of a)) r
    watched t known other r h =
        let id : new_ref (shard_of a) ≡ ref_after a.book = sym (ref_now a whole a.book refl (ref_after a.book) refl) in
        called (Some (Said p t (Monitor (ref_after a.book)))) (Some (Said p t (Monitor (new_ref (shard_of a))))) (ref_after a.book) (new_ref (shard_of a)) r
        (ap (λ j. Some (Said p t (Monitor j))) id) id (watching_law t known other)
        (subst (λ b. Acts (Some (Said p t (Monitor (ref_after b)))) (ref_after b) was ledger r now ledger') is h)

    pub gave_up : (m : Ref) (flush : Bool) (r : Result Bool Fault) → Acts (giving_up p m flush was.state) (is_some (giving_up p m flush was.state)) was ledger r now ledger'
        → Acted Bool a (left_with ledger'.book now) p (demonitor_event (shard_of a) p m flush) (is_some (demonitor_event (shard_of a) p m flush)) r
    gave_up m flush r h =
        let event : demonitor_event (shard_of a) p m flush ≡ giving_up p m flush was.state
        = giving_up_is (shard_of a) p m flush (lookup (same_ref m) (state_in (shard_of a) p).watching) ∙ ap (λ f. giving_up p m flush (state_of f)) (lives_here a whole p acting) in
        called (giving_up p m flush was.state) (demonitor_event (shard_of a) p m flush) (is_some (giving_up p m flush was.state)) (is_some (demonitor_event (shard_of a) p m flush)) r
        event (ap is_some event) (giving_up_law m flush) h

-- an event that changes nothing in its process
module _ (a : Parts) (whole : IsWhole a) (p : Pid) (found : Found a p) (ledger : LedgerState) (is : ledger.book ≡ a.book) (ledger' : LedgerState) where
  abbrev pub told_with : Book → Parts
  told_with book = parts_of a.config book a.processes

  module _ {A : Type 0} (answer : A) (e : Event) where
    untold : (r : Result A Fault) → ledger'.book ≡ ledger.book → Calls p (Some e) answer (shard_of a) r (shard_of a) → Acted A a (told_with ledger'.book) p (Some e) answer r
    untold r same calls =
        let u = unchanged a whole ledger'.book a.processes (same ∙ is) refl (same_table a.processes.table) in
        record { whole = u.whole; fit = u.fit; extends = u.extends; does = subst (λ d. Calls p (Some e) answer (shard_of a) r d) (sym u.is) calls }

    told : (a.book.clock < 2 ^ 62 → (book : Book) → book ≡ wrote (a.book.clock + 1) e (posted (a.book.clock + 1) e) a.book → Outcome a (told_with book) (a.book.clock + 1) e)
        → (r : Result A Fault) → Tells e answer ledger r ledger' → Acted A a (told_with ledger'.book) p (Some e) answer r
    told law (Ok x) h =
        let can : a.book.clock < 2 ^ 62 = subst (λ (b : Book). b.clock < 2 ^ 62) is h.0 in
        let o = law can ledger'.book (h.2 ∙ ap (λ (b : Book). wrote (b.clock + 1) e (posted (b.clock + 1) e) b) is) in
        record { whole = o.whole; fit = o.fit; extends = o.extends; does = (alive a whole p found, can, h.1, o.is) }
    told law (Err fault.Worn) h = untold (Err fault.Worn) h.1 (alive a whole p found, refl, subst (λ (b : Book). 2 ^ 62 ≤ b.clock) is h.0, refl)
    told law (Err fault.Memory) h = untold (Err fault.Memory) h.1 (alive a whole p found, refl, subst (λ (b : Book). b.clock < 2 ^ 62) is h.0, refl)
    told law (Err f) h = absurd h

  pub said : (to : Pid) (x : Signal) → knows (shard_of a) to ≡ true → IsPlainSignal x → (r : Result (Unit {0}) Fault) → Tells (Said p to x) (tt {0}) ledger r ledger'
      → Acted (Unit {0}) a (told_with ledger'.book) p (Some (Said p to x)) (tt {0}) r
  said to x known plain r h =
      told (tt {0}) (Said p to x)
      (λ can book wrote. said_known a whole p found can book a.processes refl to x known (plain_may a.book.start (past (shard_of a)) found.s p to x plain) (plain_new a.processes.desk (a.book.clock + 1) p to x plain) wrote (plain_changes p to x a.processes.table plain))
      r h

  pub asked_alive : (t : Pid) → knows (shard_of a) t ≡ true → (r : Result Ref Fault) → Tells (Said p t (AliveAsk (ref_after ledger.book))) (ref_after ledger.book) ledger r ledger'
      → Acted Ref a (told_with ledger'.book) p (Some (Said p t (AliveAsk (new_ref (shard_of a))))) (new_ref (shard_of a)) r
  asked_alive t known r h =
      let m = new_ref (shard_of a) in
      let now : ref_after ledger.book ≡ m = ap ref_after is ∙ ref_now a whole a.book refl (ref_after a.book) refl in
      told m (Said p t (AliveAsk m))
      (λ can book wrote. said_known a whole p found can book a.processes refl t (AliveAsk m) known (ref_new a whole m refl) (refl, refl) wrote (left_alone p a.processes.table))
      r (subst (λ j. Tells (Said p t (AliveAsk j)) j ledger r ledger') now h)

-- a letter to a live process
module _ (a : Parts) (whole : IsWhole a) (l : Letter) (was : ProcessView) (found : Some was ≡ living_at a.processes.desk a.processes.table l.to)
    (here : l.to.shard ≡ a.processes.desk) (near : l.from.shard < a.config.desks) (ledger : LedgerState) (is : ledger.book ≡ a.book) (now : ProcessView) (ledger' : LedgerState) where
  -- it could not be handled
  pub stopped : (s : Stop) → IsStopped l s was ledger now ledger' → Unchanged a (parts_of a.config ledger'.book (with_process a.processes l.to now))
  stopped Worn h = kept_still a whole l.to was found ledger'.book now h.1.0 h.1.1 (h.1.2 ∙ is)
  stopped Memory h = kept_still a whole l.to was found ledger'.book now h.1.0 h.1.1 (h.1.2 ∙ is)

  pub stops : (s : Stop) → IsStopped l s was ledger now ledger' → (r : Result (Option Pid) Stop) → IsErr r × IsErrAnd r (λ f. f ≡ s)
      → Handles l (shard_of a) r (shard_of (parts_of a.config ledger'.book (with_process a.processes l.to now)))
  stops s h (Ok x) err = absurd (cc)
  stops Worn h (Err f) err =
      subst (λ x. Handles l (shard_of a) (Err x) (shard_of (parts_of a.config ledger'.book (with_process a.processes l.to now)))) (sym err.1)
      (subst (λ (b : Book). 2 ^ 62 ≤ max b.clock l.stamp) is h.0, (stopped Worn h).is)
  stops Memory h (Err f) err =
      subst (λ x. Handles l (shard_of a) (Err x) (shard_of (parts_of a.config ledger'.book (with_process a.processes l.to now)))) (sym err.1)
      (subst (λ (b : Book). max b.clock l.stamp < 2 ^ 62) is h.0, (stopped Memory h).is)

  -- the letter did to it what its signal does
  pub after_letter : now.me ≡ was.me → now.state ≡ (handle was.me was.state l.from l.signal).state
      → Changes l.to (λ me s. (handle me s l.from l.signal).state) a.processes.table (with_process a.processes l.to now).table
  after_letter me state = given_back a.processes.desk a.processes.table l.to was found (λ me s. (handle me s l.from l.signal).state) now me state

  -- the process lives on
  pub took_in : (handle was.me was.state l.from l.signal).ending ≡ None → TakesIn l was ledger (Ok (tt {0})) now ledger'
      → Outcome a (parts_of a.config ledger'.book (with_process a.processes l.to now)) (receipt_stamp a l) (came_event l)
  took_in goes_on h =
      let can : max a.book.clock l.stamp < 2 ^ 62 = subst (λ (b : Book). max b.clock l.stamp < 2 ^ 62) is h.0 in
      taken_in a whole l here near can ledger'.book (with_process a.processes l.to now) refl (acting a whole l.to was found) goes_on
      (given_back a.processes.desk a.processes.table l.to was found (λ me s. (handle me s l.from l.signal).state) now h.1 h.2)
      (receipt_book a l ledger.book ledger'.book (living_back l.signal) is h.3
      ∙ ap (λ o. wrote (receipt_stamp a l) (came_event l) (map (letter (receipt_stamp a l)) o) a.book) (living_back_is l.to l.from l.signal))

-- an end
module _ (a : Parts) (whole : IsWhole a) (p : Pid) (was : ProcessView) (found : Some was ≡ living_at a.processes.desk a.processes.table p) where
  -- what it owes goes to desks of the node
  pub near_peers : Every (λ q. q.shard < length a.book.outbox) (peers_held was.state)
  near_peers = peers_near a whole p (acting a whole p was found)

  -- it was given back as it was
  module _ (now : ProcessView) (me : now.me ≡ was.me) (state : now.state ≡ was.state) where
    same_after : IsSameTable a.processes.table (with_process a.processes p now).table
    same_after = unharmed a.processes.desk a.processes.table p was found now me state

    pub still_there : IsSome (in_place (with_process a.processes p now).table p)
    still_there = subst IsSome (sym (same_after.live p.slot p.version)) (is_there a whole p (acting a whole p was found))

    -- and then taken out
    pub ends_too : (r : Reason) (owing : Owing) (last : ProcessesState) → Ends p r owing (with_process a.processes p now).table last.table → Ends p r owing a.processes.table last.table
    ends_too r owing last ends = ends_after p r owing a.processes.table (with_process a.processes p now).table last.table same_after ends

    -- what it owed then finds room
    pub owing_fits : (r : Reason) (owing : Owing) (last : ProcessesState) → Ends p r owing (with_process a.processes p now).table last.table → (ledger : LedgerState) → ledger.book ≡ a.book → HasRoomToAll (peers_held was.state) ledger
        → (owing.from ≡ p) × Every (λ l. l.to.shard < length ledger.book.outbox) owing.owed × HasRoomToAll (map (λ l. l.to) owing.owed) ledger
    owing_fits r owing last ends ledger is room =
        let f = acting a whole p was found in
        let e = ends_too r owing last ends in (
          left_from a whole p f r owing last.table e,
          subst (λ (b : Book). Every (λ l. l.to.shard < length b.outbox) owing.owed) (sym is) (left_near a whole p f r owing last.table e),
          subst (λ qs. HasRoomToAll qs ledger) (sym (left_peers a whole p f r owing last.table e)) room,
        )

    pub exited : (r : Reason) (owing : Owing) (last : ProcessesState) → last.desk ≡ a.processes.desk → Ends p r owing (with_process a.processes p now).table last.table
        → a.book.clock < 2 ^ 62 → (prepared book : Book) → prepared ≡ a.book → book ≡ losing (Some (Exited p r owing.waiting)) (wrote (max prepared.clock 0 + 1) (Left p r) (map (letter (max prepared.clock 0 + 1)) owing.owed) prepared)
        → Acted (Unit {0}) a (parts_of a.config book last) p (Some (Left p r)) (tt {0}) (Ok (tt {0}))
    exited r owing last desk ends can prepared book same is =
        let f = acting a whole p was found in
        let o = left_by a whole p f can book last desk r owing (ends_too r owing last ends) (own_loss (Left p r) (Some (Exited p r owing.waiting)) (λ n. map (letter n) owing.owed) prepared a.book book same is) in
        record { whole = o.whole; fit = o.fit; extends = o.extends; does = (alive a whole p f, can, refl, o.is) }

    -- or there was no room for it
    pub not_exited : (reason : Reason) (HasRoom : LedgerState → Type 0) (ledger ledger' : LedgerState) → ledger.book ≡ a.book → (s : Stop) → Prepares 0 HasRoom ledger (Err s) ledger'
        → (r : Result (Unit {0}) Fault) → IsErr r × IsErrAnd r (λ f. f ≡ fault_of s) → Acted (Unit {0}) a (left_with a whole p was found ledger'.book now) p (Some (Left p reason)) (tt {0}) r
    not_exited reason HasRoom ledger ledger' is s h r err =
        let u = kept_still a whole p was found ledger'.book now me state (same_book 0 HasRoom ledger ledger' s h ∙ is) in
        let new = shard_of (left_with a whole p was found ledger'.book now) in
        record {
          whole = u.whole;
          fit = u.fit;
          extends = u.extends;
          does = not_prepared p (Some (Left p reason)) (tt {0}) (shard_of a) new (Left p reason) ledger ledger' s HasRoom (sym (ap (λ (b : Book). b.clock) is)) h (alive a whole p (acting a whole p was found)) refl u.is r err;
        }

-- the key of the pid that is vacant
vacant_key : (desk : ℕ) (o : Option Key) → IsSome (option_map (pid_of_key desk) o) → IsSome o
vacant_key desk None free = free
vacant_key desk (Some key) free = refl

-- a parent, before the birth
module _ (a : Parts) (whole : IsWhole a) (par : Pid) (was : ProcessView) (found : Some was ≡ living_at a.processes.desk a.processes.table par)
    (asked : Bool) (ledger : LedgerState) (is : ledger.book ≡ a.book) (now : ProcessView) (ledger' : LedgerState) where
  abbrev before : Parts
  before = parts_of a.config ledger'.book (with_process a.processes par now)

  -- there was no room
  pub no_room : (f : Fault) → PreparesBirth asked was ledger (Err f) now ledger' → Unchanged a before
  no_room fault.Worn h = kept_still a whole par was found ledger'.book now h.1.0 h.1.1 (h.1.2 ∙ is)
  no_room fault.Memory h = kept_still a whole par was found ledger'.book now h.1.0 h.1.1 (h.1.2 ∙ is)
  no_room f h = absurd h

  pub bears_none : IsSome (vacant_at a.processes.desk a.processes.table) → (f : Fault) → PreparesBirth asked was ledger (Err f) now ledger'
      → (r : Result Pid Fault) → IsErr r × IsErrAnd r (λ g. g ≡ f) → BearsChild par asked (shard_of a) r (shard_of before)
  bears_none free f h (Ok q) err = absurd (cc)
  bears_none free fault.Worn h (Err f) err =
      subst (λ x. BearsChild par asked (shard_of a) (Err x) (shard_of before)) (sym err.1)
      (alive a whole par (acting a whole par was found), subst (λ (b : Book). 2 ^ 62 ≤ b.clock) is h.0, (no_room fault.Worn h).is)
  bears_none free fault.Memory h (Err f) err =
      subst (λ x. BearsChild par asked (shard_of a) (Err x) (shard_of before)) (sym err.1)
      (alive a whole par (acting a whole par was found), subst (λ (b : Book). b.clock < 2 ^ 62) is h.0, free, (no_room fault.Memory h).is)
  bears_none free g h (Err f) err = absurd h

  module _ (link : Option LinkId) (h : PreparesBirth asked was ledger (Ok link) now ledger') where
    pub ready : Unchanged a before
    ready = kept_still a whole par was found ledger'.book now h.2.0 h.2.1 (h.2.2 ∙ is)

    pub can_bear : a.book.clock < 2 ^ 62
    can_bear = subst (λ (b : Book). b.clock < 2 ^ 62) is h.0

    pub same_before : IsSameTable a.processes.table (with_process a.processes par now).table
    same_before = same_after a whole par was found now h.2.0 h.2.1

    -- a slot is free as it was
    pub stays_vacant : IsSome (vacant_at a.processes.desk a.processes.table) → IsSome (next_key (with_process a.processes par now).table)
    stays_vacant free = subst IsSome (sym same_before.next) (vacant_key a.processes.desk (next_key a.processes.table) free)

    module _ (q : Pid) (free : Some q ≡ vacant_at a.processes.desk a.processes.table) (child : ProcessView) (mid : ProcessesState) (desk : mid.desk ≡ a.processes.desk)
        (inserts : IfSome (next_key (with_process a.processes par now).table) (λ key. Inserted child key (with_process a.processes par now).table mid.table)) where
      pub parent_lives : IsSome (in_place mid.table par)
      parent_lives = parent_is_there a whole par (acting a whole par was found) q free (with_process a.processes par now) refl same_before child mid desk inserts

      pub parent_has_room : HasRoomFor link par mid.table
      parent_has_room =
          room_stays a whole par (acting a whole par was found) q free (with_process a.processes par now) refl same_before child mid desk inserts link
          (roomy a.processes.desk a.processes.table par was found now link h.4)

      pub bore : child.me ≡ q → child.state ≡ linked_to (Some par) link fresh → (last : ProcessesState) → last.desk ≡ mid.desk → Changes par (links_parent q link) mid.table last.table
          → (book : Book) → book ≡ wrote (max ledger'.book.clock 0 + 1) (Born q (Some par) link) [] ledger'.book → BirthOutcome (shard_of a) (parts_of a.config book last) q (Some par) link
      bore me state last desk' changes book book_is =
          child_outcome a whole par (acting a whole par was found) q free (with_process a.processes par now) refl same_before child mid desk inserts can_bear asked link
          (h.1 ∙ ap (λ (b : Book). then_some asked (link_after b)) is ∙ ap (then_some asked) (link_now a whole a.book refl (link_after a.book) refl))
          me state last desk' changes book (own_book (Born q (Some par) link) (λ n. []) ledger'.book a.book book (h.2.2 ∙ is) book_is)
