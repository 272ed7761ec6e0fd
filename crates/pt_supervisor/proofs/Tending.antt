-- A supervisor upholds that its children are held.
use Rattle.std.proofs.Common.{◌≡◌, ◌⊎◌, inl, inr, ℕ, Bool, true, false, cond, ◌&&◌, List, [], ◌∷◌, length, slice_get, take, Option, Some, None, Result, Ok, Err, refl, sym, ap, subst, ◌∙◌}
use Rattle.std.specs.Prelude.{MatchBool, is_ok}
use Rattle.std.specs.List.{find, list_any}
use Rattle.pt_signal.specs.declared.pid.Pid.{Pid}
use Rattle.pt_signal.specs.declared.ids.Ref.{Ref}
use Rattle.pt_signal.specs.declared.item.Item.{Item}
use Rattle.pt_signal.specs.declared.item.Item.TheVariants.{User, Exit, Down, Alive}
use Rattle.pt_signal.specs.declared.item.Pick.{Pick}
use Rattle.pt_signal.specs.declared.letter.Letter.{Letter}
use Rattle.pt_signal.specs.declared.reason.Reason.{Reason}
use Rattle.pt_signal.specs.declared.signal.Signal.{Signal}
use Rattle.pt_signal.specs.declared.signal.Signal.TheVariants.{Unlink}
use Rattle.pt_signal.specs.Values.{same_pid, fits, without_first}
use Rattle.pt_signal.specs.Process.{ProcessState, handle}
use Rattle.pt_signal.proofs.Same.{same_pid_is, same_pid_refl}
use Rattle.pt_events.specs.declared.event.Event.TheVariants.{Came, Took as TookIt, Flag, Left}
use Rattle.pt_events.specs.History.{Past, Phase, unborn, living, ended, is_unborn, is_living, state_of, gets, leaves, live_or_end}
use Rattle.pt_events.specs.Journal.{events}
use Rattle.pt_shard.specs.declared.fault.Fault.{Fault}
use Rattle.pt_shard.specs.declared.fault.Fault.TheVariants.{Full, Memory, Worn, Gone, Myself, NoProc}
use Rattle.pt_shard.specs.ShardState.{ShardState, phase_of, state_in, lives, shard_after, handled}
use Rattle.pt_shard.specs.Calls.{Calls}
use Rattle.pt_desk.specs.DeskState.{DeskState}
use Rattle.pt_behaviour.specs.declared.behaviour.Next.{Next}
use Rattle.pt_workers.specs.Waking.{need_not_wait}
use Rattle.pt_behaviour.specs.declared.behaviour.Next.TheVariants.{Wait, WaitUntil, Proceed, Running, Stop}
use Rattle.pt_behaviour.specs.declared.births.Role.{Role}
use Rattle.pt_behaviour.specs.Behaving.{pick_of, Answers}
use Rattle.pt_behaviour.specs.Upholding.{IsLater, IsLeftAlone, ActsFor, ItemIsTaken, AllFirst, IsUpheld, children_by}
use Rattle.pt_behaviour.proofs.Cases.{by_cases}
use Rattle.pt_behaviour.proofs.Upholding.{later_is, later_after, later_handled, born_then, phase_is, same_pid_sym}
use Rattle.pt_laws.specs.Watch.{is_down_item}
use Rattle.pt_children.specs.declared.asked.Asked.{Asked}
use Rattle.pt_children.specs.declared.asked.Stage.{Stage}
use Rattle.pt_children.specs.declared.asked.Stage.TheVariants.{Watched, Waiting, Until, Killed}
use Rattle.pt_children.specs.declared.asked.Stage.TheVariants as far
use Rattle.pt_children.specs.declared.children.Child.{Child}
use Rattle.pt_children.specs.Children.{NoneLives, last_alive}
use Rattle.pt_children.specs.Ending.{gone_at, gone_in, is_ref, monitor_of}
use Rattle.pt_children.specs.Limits.{moment}
use Rattle.pt_children.specs.Hearing.{Standing, monitor_closed, gone_heard, gone_on, heard, heard_gone, tried_again}
use Rattle.pt_supervisor.specs.Supervising.{StartsOf, SupervisorScene, SupervisorAttends, SupervisorHandles, Supervises, GoesForward, after_attending}
use Rattle.pt_supervisor.specs.Keeping.{IsReady, all_children, was_started, Remembers, Holds, HoldsChildren, ChangesBefore, ChangesAfter, Tends, PartOf, HoldsAs, Keeps, SupervisorBegins, AllBegin, ActsAs, SuperviseAs}
use Rattle.pt_children.specs.Families.{is_end_of, is_cut, has_cut, all_events, IsTied, IsHeld, Family, has_told, IsPlaced, AreAsked, IsWatched}
use Rattle.pt_supervisor.proofs.Ending.{proceed_ready}
use Rattle.pt_supervisor.proofs.Changing.{again_same}
use Rattle.pt_children.proofs.Tying.{or_left, stays_in, tied_by, is_unlink, handled_ready, handled_tied, handled_traps}
use Rattle.pt_children.proofs.Telling.{found_any, waits_told}
use Rattle.pt_children.proofs.Hearing.{none_at, Less, less_heard, heard_asked}
use Rattle.pt_supervisor.proofs.Families.{Goes, goes_is, goes_then, goes_event, cut_later, remembers_step, remembers_less, Kept, family_step, kept_is, own_phase}
use Rattle.pt_children.specs.Homes.{place_coming}
use Rattle.pt_supervisor.proofs.Joining.{meets_goes, meets_kept, meets_ready}
use Rattle.pt_supervisor.proofs.Asking.{asked_step, asks_is, asks_step, handled_watched, unless_is, watched_by}
use Rattle.pt_supervisor.proofs.Advancing.{advances_asks, advances_goes, advances_kept, advances_ready, kept_alike}

-- what it makes of an item -----------------------------------------------------------------------------

living_of : (f : Phase) → is_living f ≡ true → (s : ProcessState) × (f ≡ living s)
living_of unborn h = absurd (cc)
living_of (living s) h = (s, refl)
living_of (ended r s) h = absurd (cc)

waits_traps : (traps : Bool) (before : Next) (pick : Pick) (children : List Child) → (traps ≡ true) ⊎ ((before ≡ Proceed) × NoneLives children) → pick_of before ≡ Some pick → traps ≡ true
waits_traps traps before pick children (inl h) waits = h
waits_traps traps before pick children (inr h) waits = absurd (let bad : None ≡ Some pick = sym (ap pick_of h.0) ∙ waits in cc)

-- an item was taken out of its mailbox
record Took (me : Pid) (item : Item) (was d : ShardState) : Type 0 where
  pick : Pick
  state : ProcessState
  was_is : phase_of was me ≡ living state
  now_is : phase_of d me ≡ living (record state { waiting = without_first (fits pick) state.waiting })
  later : IsLater was d
  found : find (fits pick) state.waiting ≡ Some item
  bare : children_by me d.journal ≡ children_by me was.journal

took : (me : Pid) (item : Item) (before : Next) (was d : ShardState) → ItemIsTaken me before (Some item) was d → Took me item was d
took me item before was d taken = record {
  pick = taken.0;
  state = st.0;
  was_is = st.1;
  now_is = phase_is (shard_after (TookIt me taken.0 item) was) d taken.4 me ∙ own_phase me (TookIt me taken.0 item) was st.0 (same_pid_refl me) st.1;
  later = subst (λ (f : ShardState). IsLater was f) (sym taken.4) (later_after (TookIt me taken.0 item) was);
  found = subst (λ (f : Phase). find (fits taken.0) (state_of f).waiting ≡ Some item) st.1 taken.3;
  bare = ap (λ (f : ShardState). children_by me f.journal) taken.4;
}
  where
    st : (s : ProcessState) × (phase_of was me ≡ living s)
    st = living_of (phase_of was me) taken.2

taken_kept : (past : Past) (me : Pid) (item : Item) (s m : Standing) (before : Next) (was d : ShardState) → Less item s m → ItemIsTaken me before (Some item) was d → HoldsChildren past s before me was → Kept past m.children m.started m.stopping me d
taken_kept past me item s m before was d less taken h = record {
  remembers = remembers_less past item s m me was d k.later k.bare
      (λ q placed is were. waits_told me q past was.start were (events was.journal) (found_any (is_end_of q) (fits taken.0) (state_in was me).waiting item taken.3 is)) less h.remembers;
  state = record (k.state) { waiting = without_first (fits k.pick) k.state.waiting };
  living_is = k.now_is;
  traps = subst (λ (f : Phase). (state_of f).traps ≡ true) k.was_is (waits_traps (state_in was me).traps before taken.0 s.children h.traps taken.1);
  family = record {
    born = λ place q is own. born_then was d k.later q (h.family.born place q (less.sub place q is) own);
    apart = λ i j q a b. h.family.apart i j q (less.sub i q a) (less.sub j q b);
    held = λ none place q is. go q (less.out none place q is) (h.family.held (less.stop none) place q (less.sub place q is));
  };
}
  where
    k : Took me item was d
    k = took me item before was d taken

    go : (q : Pid) → is_end_of q item ≡ false → IsHeld past me q was → IsHeld past me q d
    go q out (inl tied) = inl (subst (λ (f : Phase). IsTied (state_of f) q) (sym k.now_is)
        (tied_by k.state (record (k.state) { waiting = without_first (fits k.pick) k.state.waiting }) q (λ h. h) (stays_in (is_end_of q) (fits k.pick) k.state.waiting item k.found out) (subst (λ (f : Phase). IsTied (state_of f) q) k.was_is tied)))
    go q out (inr cut) = inr (cut_later past me q was d k.later cut)

-- whom it still ends it ended before, and the item is not the DOWN of that one
abbrev StillAsked : Item → Standing → Standing → Type 0
StillAsked item s m =
    (a : Asked) → m.asked ≡ Some a → (s.asked ≡ Some a) × ((n : Ref) → monitor_of a.stage ≡ Some n → is_down_item n item ≡ false)

taken_asks : (past : Past) (me : Pid) (item : Item) (s m : Standing) (before : Next) (was d : ShardState) → Less item s m → StillAsked item s m → ItemIsTaken me before (Some item) was d → HoldsChildren past s before me was → AreAsked past m.children m.asked me d
taken_asks past me item s m before was d less still taken h a is placed =
    let k = took me item before was d taken in
    asked_step past a me was d k.later
    (λ n by w. subst (λ (f : Phase). IsWatched (state_of f) n a.pid) (sym k.now_is)
    (watched_by k.state (record (k.state) { waiting = without_first (fits k.pick) k.state.waiting }) n a.pid (λ o. o) (stays_in (is_down_item n) (fits k.pick) k.state.waiting item k.found ((still a is).1 n by))
    (subst (λ (f : Phase). IsWatched (state_of f) n a.pid) k.was_is w)))
    (h.asks a (still a is).0 (placed.0, less.sub placed.0 a.pid placed.1))

flag_goes : (me : Pid) (on : Bool) (d e : ShardState) (result : Result Bool Fault) → Calls me (Some (Flag me true)) on d result e → Goes me d e
flag_goes me on d e (Ok x) c = goes_event me d e (Flag me true) (λ q other. same_pid_sym me q other) (λ q. refl) c.3
flag_goes me on d e (Err Gone) c = goes_is me d e c.1
flag_goes me on d e (Err Worn) c = goes_is me d e c.3
flag_goes me on d e (Err Memory) c = goes_is me d e c.3
flag_goes me on d e (Err Full) c = absurd c
flag_goes me on d e (Err Myself) c = absurd c
flag_goes me on d e (Err NoProc) c = absurd c

-- what is so once it has heard: its children are held; or, where its trap was refused, all is as it was
abbrev KeptWith : Past → Standing → Pid → ShardState → Type 0
KeptWith past m me e = Kept past m.children m.started m.stopping me e × AreAsked past m.children m.asked me e

abbrev Attended : Past → Bool → Standing → Pid → ShardState → Type 0
Attended past answer m me e = MatchBool answer (KeptWith past m me e) (Holds past m Proceed me e)

-- where it goes on without an item, it does so again
goes_again : (traps : Bool) (before : Next) (children : List Child) → (traps ≡ true) ⊎ ((before ≡ Proceed) × NoneLives children) → (traps ≡ true) ⊎ ((Proceed ≡ Proceed) × NoneLives children)
goes_again traps before children (inl h) = inl h
goes_again traps before children (inr h) = inr (refl, h.1)

refused_holds : (past : Past) (s m : Standing) (me : Pid) (before : Next) (was d e : ShardState) → m ≡ s → d ≡ was → e ≡ d → HoldsChildren past s before me was → Holds past m Proceed me e
refused_holds past s m me before was d e same is as_is h =
    subst (λ (x : Standing). Holds past x Proceed me e) (sym same) (subst (Holds past s Proceed me) (sym (as_is ∙ is)) (record {
      waits = tt;
      ready = tt;
      remembers = h.remembers;
      traps = goes_again (state_in was me).traps before s.children h.traps;
      family = h.family;
      asks = h.asks;
    }))

refused_attends : (past : Past) (s m : Standing) (me : Pid) (now : ℕ) (before : Next) (was d e : ShardState) (answer : Bool) → answer ≡ false → m ≡ cond answer (gone_on now s) s → d ≡ was → e ≡ d → HoldsChildren past s before me was → Attended past answer m me e
refused_attends past s m me now before was d e answer off same is as_is h =
    subst (λ (a : Bool). Attended past a m me e) (sym off) (refused_holds past s m me before was d e (same ∙ ap (λ (b : Bool). cond b (gone_on now s) s) off) is as_is h)

-- it hears of the end of the one that it found to have ended
kept_less : (past : Past) (me : Pid) (item : Item) (s m : Standing) (e : ShardState) → Less item s m → ((q : Pid) → IsPlaced s.children q → is_end_of q item ≡ true → has_told me q (all_events past e) ≡ true)
    → Kept past s.children s.started s.stopping me e → Kept past m.children m.started m.stopping me e
kept_less past me item s m e less tells k = record {
  state = k.state;
  living_is = k.living_is;
  traps = k.traps;
  family = record {
    born = λ place q is own. k.family.born place q (less.sub place q is) own;
    apart = λ i j q a b. k.family.apart i j q (less.sub i q a) (less.sub j q b);
    held = λ none place q is. k.family.held (less.stop none) place q (less.sub place q is);
  };
  remembers = remembers_less past item s m me e e (later_is e e refl) refl (λ q placed is were. tells q placed is) less k.remembers;
}

gone_is : (o : Option Asked) (p : Pid) → gone_in o ≡ Some p → (a : Asked) × (o ≡ Some a) × (gone_at a.stage a.pid ≡ Some a.pid) × (a.pid ≡ p)
gone_is None p is = absurd (cc)
gone_is (Some a) p is = let k = at_gone a.stage a.pid p is in (a, refl, is ∙ ap (λ (q : Pid). Some q) (sym k), k)
  where
    at_gone : (stage : Stage) (q p : Pid) → gone_at stage q ≡ Some p → q ≡ p
    at_gone far.Gone q p is = cc
    at_gone (Watched m) q p is = absurd (cc)
    at_gone (Waiting m) q p is = absurd (cc)
    at_gone (Until m at) q p is = absurd (cc)
    at_gone (Killed m) q p is = absurd (cc)

-- the same of a supervisor that ends nobody
less_as : (item : Item) (s m : Standing) → Less item (record s { asked = None }) m → Less item s m
less_as item s m h = record { sub = h.sub; stop = h.stop; out = h.out; kept = h.kept; count = h.count }

found_with : (past : Past) (me : Pid) (now : ℕ) (s : Standing) (e : ShardState) (o : Option Pid) → gone_in s.asked ≡ o → KeptWith past s me e → KeptWith past (heard_gone o now s) me e
found_with past me now s e None is k = k
found_with past me now s e (Some p) is k = (
  kept_less past me (Exit p Reason.Noproc) s (heard now p Reason.Noproc (record s { asked = None })) e
      (less_as (Exit p Reason.Noproc) s (heard now p Reason.Noproc (record s { asked = None })) (less_heard now p Reason.Noproc (record s { asked = None }) k.0.family.apart)) tells k.0,
  λ a some placed. absurd (let bad : None ≡ Some a = sym (heard_asked now p Reason.Noproc (record s { asked = None })) ∙ some in cc),
)
  where
    tells : (q : Pid) → IsPlaced s.children q → same_pid q p ≡ true → has_told me q (all_events past e) ≡ true
    tells q placed same =
        let a = gone_is s.asked p is in
        let q_is : q ≡ a.0.pid = same_pid_is q p same ∙ sym a.3 in
        subst (λ (x : Pid). has_told me x (all_events past e) ≡ true) (sym q_is) ((k.1 a.0 a.1 (subst (λ (x : Pid). IsPlaced s.children x) q_is placed)).gone a.2)

-- it tries a child again
tried_with : (past : Past) (me : Pid) (now : ℕ) (s : Standing) (e : ShardState) → KeptWith past s me e → KeptWith past (tried_again now s) me e
tried_with past me now s e k =
    let same = again_same now s in (
      subst (λ (n : ℕ). Kept past (tried_again now s).children n (tried_again now s).stopping me e) (sym same.count)
          (kept_alike past me e s.children (tried_again now s).children s.started s.stopping (tried_again now s).stopping same.live same.stop k.0),
      λ a is placed. k.1 a (sym same.asked ∙ is) (same.live.from placed.0, same.live.sub placed.0 a.pid placed.1),
    )

on_with : (past : Past) (me : Pid) (now : ℕ) (s : Standing) (e : ShardState) → KeptWith past s me e → KeptWith past (gone_on now s) me e
on_with past me now s e k = tried_with past me now (gone_heard now s) e (found_with past me now s e (gone_in s.asked) refl k)

flag_attends : (past : Past) (me : Pid) (now : ℕ) (s m : Standing) (before : Next) (was d e : ShardState) (on answer : Bool) (result : Result Bool Fault) → Calls me (Some (Flag me true)) on d result e → answer ≡ is_ok result → m ≡ cond answer (gone_on now s) s
    → ItemIsTaken me before None was d → HoldsChildren past s before me was → Attended past answer m me e
flag_attends past me now s m before was d e on answer (Ok x) c ok same taken h =
    subst (λ (a : Bool). Attended past a m me e) (sym ok)
    (subst (λ (x : Standing). KeptWith past x me e) (sym (same ∙ ap (λ (b : Bool). cond b (gone_on now s) s) ok)) (on_with past me now s e (kept, asks)))
  where
    st : (s : ProcessState) × (phase_of d me ≡ living s)
    st = living_of (phase_of d me) c.0

    now_is : phase_of e me ≡ living (record (st.0) { traps = true })
    now_is = phase_is (shard_after (Flag me true) d) e c.3 me ∙ own_phase me (Flag me true) d st.0 (same_pid_refl me) st.1

    later : IsLater d e
    later = (flag_goes me on d e (Ok x) c).later

    kept : Kept past s.children s.started s.stopping me e
    kept = record {
      state = record (st.0) { traps = true };
      living_is = now_is;
      traps = refl;
      family = family_step past s.children s.stopping me d e later (λ q tied.
          inl (subst (λ (f : Phase). IsTied (state_of f) q) (sym now_is)
          (tied_by st.0 (record (st.0) { traps = true }) q (λ k. k) (λ k. k) (subst (λ (f : Phase). IsTied (state_of f) q) st.1 tied))))
          (subst (Family past s.children s.stopping me) (sym taken.2) h.family);
      remembers = remembers_step past s.children s.started me d e later (ap (λ (f : ShardState). children_by me f.journal) c.3)
          (subst (Remembers past s.children s.started me) (sym taken.2) h.remembers);
    }

    asks : AreAsked past s.children s.asked me e
    asks = asks_step past s.children s.asked me d e later (λ n q w.
        subst (λ (f : Phase). IsWatched (state_of f) n q) (sym now_is) (watched_by st.0 (record (st.0) { traps = true }) n q (λ k. k) (λ k. k) (subst (λ (f : Phase). IsWatched (state_of f) n q) st.1 w)))
        (subst (AreAsked past s.children s.asked me) (sym taken.2) h.asks)
flag_attends past me now s m before was d e on answer (Err Gone) c ok same taken h = refused_attends past s m me now before was d e answer ok same taken.2 c.1 h
flag_attends past me now s m before was d e on answer (Err Worn) c ok same taken h = refused_attends past s m me now before was d e answer ok same taken.2 c.3 h
flag_attends past me now s m before was d e on answer (Err Memory) c ok same taken h = refused_attends past s m me now before was d e answer ok same taken.2 c.3 h
flag_attends past me now s m before was d e on answer (Err Full) c ok same taken h = absurd c
flag_attends past me now s m before was d e on answer (Err Myself) c ok same taken h = absurd c
flag_attends past me now s m before was d e on answer (Err NoProc) c ok same taken h = absurd c

less_same : (item : Item) (s : Standing) → ((q : Pid) → is_end_of q item ≡ false) → Less item s s
less_same item s none = record { sub = λ j q is. is; stop = λ h. h; out = λ h j q is. none q; kept = λ j q is. inl is; count = refl }

heard_attends : (past : Past) (me : Pid) (item : Item) (s m n : Standing) (before : Next) (was : ShardState) (d e : DeskState) (answer : Bool) → answer ≡ true → m ≡ n → e ≡ d → Less item s n → StillAsked item s n
    → ItemIsTaken me before (Some item) was d.shard → HoldsChildren past s before me was → Attended past answer m me e.shard
heard_attends past me item s m n before was d e answer on is same less still taken h =
    subst (λ (a : Bool). Attended past a m me e.shard) (sym on)
    (subst (λ (x : Standing). KeptWith past x me e.shard) (sym is) (
      kept_is past n.children n.started n.stopping me d.shard e.shard (ap (λ (x : DeskState). x.shard) same) (taken_kept past me item s n before was d.shard less taken h),
      asks_is past n.children n.asked me d.shard e.shard (ap (λ (x : DeskState). x.shard) same) (taken_asks past me item s n before was d.shard less still taken h),
    ))

-- by a DOWN
less_down : (m : Ref) (from : Pid) (r : Reason) (s n : Standing) → Less (Exit from r) (monitor_closed m s) n → Less (Down m from r) s n
less_down m from r s n h = record { sub = h.sub; stop = h.stop; out = h.out; kept = h.kept; count = h.count }

still_down : (m : Ref) (from : Pid) (r : Reason) (now : ℕ) (s : Standing) → StillAsked (Down m from r) s (heard now from r (monitor_closed m s))
still_down m from r now s a is =
    let k = unless_is m s.asked a (sym (heard_asked now from r (monitor_closed m s)) ∙ is) in
    (k.0, λ n by. ap (λ (o : Option Ref). is_ref o m) (sym by) ∙ k.1)

attends_to : (past : Past) (me : Pid) (time : ℕ) (item : Option Item) (s m : Standing) (before : Next) (was : ShardState) (d e : DeskState) (answer : Bool) → SupervisorAttends me time item s d answer m e
    → ItemIsTaken me before item was d.shard → HoldsChildren past s before me was → Attended past answer m me e.shard
attends_to past me time (Some (Exit from r)) s m before was d e answer a taken h =
    heard_attends past me (Exit from r) s m (heard (moment s.timed d.shard.clock time) from r s) before was d e answer a.0 a.1 a.2 (less_heard (moment s.timed d.shard.clock time) from r s h.family.apart)
    (λ x is. (sym (heard_asked (moment s.timed d.shard.clock time) from r s) ∙ is, λ n by. refl)) taken h
attends_to past me time (Some (User from b)) s m before was d e answer a taken h = heard_attends past me (User from b) s m s before was d e answer a.0 a.1 a.2 (less_same (User from b) s (λ q. refl)) (λ x is. (is, λ n by. refl)) taken h
attends_to past me time (Some (Down x from r)) s m before was d e answer a taken h =
    heard_attends past me (Down x from r) s m (heard (moment s.timed d.shard.clock time) from r (monitor_closed x s)) before was d e answer a.0 a.1 a.2
    (less_down x from r s (heard (moment s.timed d.shard.clock time) from r (monitor_closed x s)) (less_heard (moment s.timed d.shard.clock time) from r (monitor_closed x s) h.family.apart))
    (still_down x from r (moment s.timed d.shard.clock time) s) taken h
attends_to past me time (Some (Alive x from y)) s m before was d e answer a taken h = heard_attends past me (Alive x from y) s m s before was d e answer a.0 a.1 a.2 (less_same (Alive x from y) s (λ q. refl)) (λ z is. (is, λ n by. refl)) taken h
attends_to past me time None s m before was d e answer a taken h = flag_attends past me (moment s.timed e.shard.clock time) s m before was d.shard e.shard (state_in d.shard me).traps answer a.0 a.1 a.2 a.3 taken h

attends_goes : (me : Pid) (time : ℕ) (item : Option Item) (s m : Standing) (d e : DeskState) (answer : Bool) → SupervisorAttends me time item s d answer m e → Goes me d.shard e.shard
attends_goes me time (Some (Exit from r)) s m d e answer a = goes_is me d.shard e.shard (ap (λ (x : DeskState). x.shard) a.2)
attends_goes me time (Some (User from b)) s m d e answer a = goes_is me d.shard e.shard (ap (λ (x : DeskState). x.shard) a.2)
attends_goes me time (Some (Down x from r)) s m d e answer a = goes_is me d.shard e.shard (ap (λ (x : DeskState). x.shard) a.2)
attends_goes me time (Some (Alive x from y)) s m d e answer a = goes_is me d.shard e.shard (ap (λ (x : DeskState). x.shard) a.2)
attends_goes me time None s m d e answer a = flag_goes me (state_in d.shard me).traps d.shard e.shard a.0 a.1

-- so it handles an item, or none ---------------------------------------------------------------------------

module _ {S B : Type 0} (starts : StartsOf S B) (me : Pid) where
  forward_goes : (now : ℕ) (coming : Option ℕ) (mid : SupervisorScene S B) (next : Next) (new : SupervisorScene S B) → GoesForward starts me now coming mid next new → Goes me mid.desk.shard new.desk.shard
  forward_goes now None mid next new h = advances_goes starts me now (last_alive mid.standing.children mid.standing.ending (length mid.standing.children)) mid next new h
  forward_goes now (Some place) mid next new h = meets_goes me place (slice_get mid.standing.children place) mid.standing mid.desk next new.standing new.desk h.0

  then_goes : (now : ℕ) (answer : Bool) (mid : SupervisorScene S B) (next : Next) (new : SupervisorScene S B) → after_attending starts me now answer mid next new → Goes me mid.desk.shard new.desk.shard
  then_goes now true mid next new h = forward_goes now (place_coming mid.standing.children) mid next new h
  then_goes now false mid next new h = goes_is me mid.desk.shard new.desk.shard (ap (λ (x : SupervisorScene S B). x.desk.shard) h.1)

  kept_holds : (past : Past) (s : Standing) (next : Next) (e : ShardState) → Supervises next s → IsReady next (phase_of e me) → KeptWith past s me e → Holds past s next me e
  kept_holds past s next e waits ready k = record { waits = waits; ready = ready; remembers = k.0.remembers; traps = inl (subst (λ (f : Phase). (state_of f).traps ≡ true) (sym k.0.living_is) k.0.traps); family = k.0.family; asks = k.1 }

  forward_holds : (past : Past) (now : ℕ) (coming : Option ℕ) (mid : SupervisorScene S B) (next : Next) (new : SupervisorScene S B) → place_coming mid.standing.children ≡ coming → GoesForward starts me now coming mid next new
      → Supervises next new.standing → KeptWith past mid.standing me mid.desk.shard → Holds past new.standing next me new.desk.shard
  forward_holds past now None mid next new is h waits k =
      kept_holds past new.standing next new.desk.shard waits
      (advances_ready starts me now (last_alive mid.standing.children mid.standing.ending (length mid.standing.children)) mid next new h) (
        advances_kept starts me past now (last_alive mid.standing.children mid.standing.ending (length mid.standing.children)) mid next new h k.0,
        advances_asks starts me past now (last_alive mid.standing.children mid.standing.ending (length mid.standing.children)) mid next new h k.0 k.1,
      )
  forward_holds past now (Some place) mid next new is h waits k =
      kept_holds past new.standing next new.desk.shard waits
      (meets_ready me place (slice_get mid.standing.children place) mid.standing mid.desk next new.standing new.desk (phase_of new.desk.shard me) h.0)
      (meets_kept me past place mid.standing mid.desk next new.standing new.desk is h.0 k.0 k.1)

  then_holds : (past : Past) (now : ℕ) (answer : Bool) (mid : SupervisorScene S B) (next : Next) (new : SupervisorScene S B) → after_attending starts me now answer mid next new → Supervises next new.standing → Attended past answer mid.standing me mid.desk.shard
      → Holds past new.standing next me new.desk.shard
  then_holds past now true mid next new h waits k = forward_holds past now (place_coming mid.standing.children) mid next new refl h waits k
  then_holds past now false mid next new h waits k =
      subst (λ (x : SupervisorScene S B). Holds past x.standing next me x.desk.shard) (sym h.1) (subst (λ (n : Next). Holds past mid.standing n me mid.desk.shard) (sym h.0) k)

  pub handles_tend : (time : ℕ) (item : Option Item) (old : SupervisorScene S B) (next : Next) (new : SupervisorScene S B) → SupervisorHandles starts me time item old next new → Supervises next new.standing
      → Tends me item old.standing old.desk.shard next new.standing new.desk.shard
  handles_tend time item old next new h waits = record {
    acts = (goes_then me old.desk.shard h.mid.desk.shard new.desk.shard (attends_goes me time item old.standing h.mid.standing old.desk h.mid.desk h.answer h.attends) (then_goes time h.answer h.mid next new h.goes)).acts;
    keeps = λ past before was taken born holds.
        then_holds past time h.answer h.mid next new h.goes waits (attends_to past me time item old.standing h.mid.standing before was old.desk h.mid.desk h.answer h.attends taken holds);
  }

-- what the program asks of it meanwhile ---------------------------------------------------------------------------

pub holds_children : (past : Past) (s : Standing) (next : Next) (me : Pid) (d : ShardState) → Holds past s next me d → HoldsChildren past s next me d
holds_children past s next me d h = record { remembers = h.remembers; traps = h.traps; family = h.family; asks = h.asks }

pub changes_before : ChangesBefore
changes_before me item s t d next new e changes tends = record {
  acts = tends.acts;
  keeps = λ past before was taken born h. tends.keeps past before was taken born (changes past before me was h);
}

pub changes_after : ChangesAfter
changes_after me item s d next new t e tends changes = record {
  acts = tends.acts;
  keeps = λ past before was taken born h.
      let k = changes past next me e (holds_children past new next me e (tends.keeps past before was taken born h)) in
      record {
        waits = tt;
        ready = tt;
        remembers = k.remembers;
        traps = goes_again (state_in e me).traps next t.children k.traps;
        family = k.family;
        asks = k.asks;
      };
}

-- what comes to it ---------------------------------------------------------------------------------------------

cut_is : (me q a b : Pid) (x : Signal) → is_unlink x ≡ true → same_pid q a ≡ true → same_pid me b ≡ true → is_cut me q (Came a b x) ≡ true
cut_is me q a b (Unlink ids) is same here = λ i. same i && here i
cut_is me q a b _ is same here = absurd (cc)

lived : (me from : Pid) (x : Signal) (f : Phase) → is_living (gets me from x f) ≡ true → is_living f ≡ true
lived me from x unborn h = absurd (cc)
lived me from x (living s) h = refl
lived me from x (ended r s) h = absurd (cc)

still : (ending : Option Reason) (s : ProcessState) → is_living (live_or_end ending s) ≡ true → live_or_end ending s ≡ living s
still None s h = refl
still (Some r) s h = absurd (cc)

came_remembers : (past : Past) (s : Standing) (me : Pid) (d : ShardState) (l : Letter) → Remembers past s.children s.started me d → Remembers past s.children s.started me (handled l d)
came_remembers past s me d l r = remembers_step past s.children s.started me d (handled l d) (later_handled l d) refl r

module _ (past : Past) (s : Standing) (next : Next) (me : Pid) (d : ShardState) (l : Letter) (here : same_pid me l.to ≡ true) (holds : Holds past s next me d) (alive : lives (handled l d) me ≡ true) where
  got : phase_of (handled l d) me ≡ gets me l.from l.signal (phase_of d me)
  got i = cond (here i) (gets me l.from l.signal (phase_of d me)) (phase_of d me)

  st : (t : ProcessState) × (phase_of d me ≡ living t)
  st = living_of (phase_of d me) (lived me l.from l.signal (phase_of d me) (sym (ap is_living got) ∙ alive))

  abbrev t : ProcessState
  t = (handle me st.0 l.from l.signal).state

  now : phase_of (handled l d) me ≡ living (handle me st.0 l.from l.signal).state
  now =
      let as_is : phase_of (handled l d) me ≡ gets me l.from l.signal (living st.0) = got ∙ ap (gets me l.from l.signal) st.1 in
      as_is ∙ still (handle me st.0 l.from l.signal).ending (handle me st.0 l.from l.signal).state (sym (ap is_living as_is) ∙ alive)

  came_family : ((state_in d me).traps ≡ true) ⊎ ((next ≡ Proceed) × NoneLives s.children) → Family past s.children s.stopping me (handled l d)
  came_family (inr none) = record {
    born = λ place q is own. absurd (none_at s.children place q none.1 is);
    apart = λ i j q a b. absurd (none_at s.children i q none.1 a);
    held = λ z place q is. absurd (none_at s.children place q none.1 is);
  }
  came_family (inl traps) = family_step past s.children s.stopping me d (handled l d) (later_handled l d) (λ q tied.
      go q (handled_tied me st.0 l.from l.signal q (subst (λ (f : Phase). (state_of f).traps ≡ true) st.1 traps) (subst (λ (f : Phase). IsTied (state_of f) q) st.1 tied))) holds.family
    where
      go : (q : Pid) → ((is_unlink l.signal ≡ true) × (same_pid q l.from ≡ true)) ⊎ IsTied (handle me st.0 l.from l.signal).state q → IsHeld past me q (handled l d)
      go q (inl cut) = inr (or_left (is_cut me q (Came l.from l.to l.signal)) (has_cut me q (all_events past d)) (cut_is me q l.from l.to l.signal cut.0 cut.1 here))
      go q (inr tied) = inl (subst (λ (f : Phase). IsTied (state_of f) q) (sym now) tied)

  same_traps : (state_in (handled l d) me).traps ≡ (state_in d me).traps
  same_traps = ap (λ (f : Phase). (state_of f).traps) now ∙ handled_traps me st.0 l.from l.signal ∙ sym (ap (λ (f : Phase). (state_of f).traps) st.1)

  traps_still : ((state_in d me).traps ≡ true) ⊎ ((next ≡ Proceed) × NoneLives s.children) → ((state_in (handled l d) me).traps ≡ true) ⊎ ((next ≡ Proceed) × NoneLives s.children)
  traps_still (inl h) = inl (same_traps ∙ h)
  traps_still (inr h) = inr h

  came_asks : AreAsked past s.children s.asked me (handled l d)
  came_asks = asks_step past s.children s.asked me d (handled l d) (later_handled l d) (λ m q w.
      subst (λ (f : Phase). IsWatched (state_of f) m q) (sym now) (handled_watched m q me st.0 l.from l.signal (subst (λ (f : Phase). IsWatched (state_of f) m q) st.1 w))) holds.asks

  came_ready : (n : Next) → IsReady n (phase_of d me) → IsReady n (phase_of (handled l d) me)
  came_ready (WaitUntil Pick.Any at) ready =
      subst (λ (f : Phase). need_not_wait Pick.Any f ≡ true) (sym now) (handled_ready me st.0 l.from l.signal (subst (λ (f : Phase). need_not_wait Pick.Any f ≡ true) st.1 ready))
  came_ready (WaitUntil (Pick.DownOf m) at) ready = tt
  came_ready (WaitUntil (Pick.Kind k) at) ready = tt
  came_ready (WaitUntil (Pick.From f) at) ready = tt
  came_ready (WaitUntil (Pick.ExitOf f) at) ready = tt
  came_ready (WaitUntil (Pick.AliveOf a) at) ready = tt
  came_ready (Wait k) ready = tt
  came_ready Proceed ready = tt
  came_ready Running ready = tt
  came_ready (Stop r) ready = tt

  came_holds : Holds past s next me (handled l d)
  came_holds = record { waits = holds.waits; ready = came_ready next holds.ready; remembers = came_remembers past s me d l holds.remembers; traps = traps_still holds.traps; family = came_family holds.traps; asks = came_asks }

-- the relation is upheld ------------------------------------------------------------------------------------------

-- one that is not born yet was not born before
not_before : {X : Type 0} (me : Pid) (d e : ShardState) → IsLater d e → (is_unborn (phase_of d me) ≡ true → X) → is_unborn (phase_of e me) ≡ true → X
not_before me d e later begins unborn_is = by_cases (is_unborn (phase_of d me)) begins
    (λ born. let bad : false ≡ true = sym (born_then d e later me born) ∙ unborn_is in absurd (cc))

same_holds : (past : Past) (o : Option Standing) (next : Next) (me : Pid) (d e : ShardState) → HoldsAs past o next me d → IsLater d e → IsLeftAlone me d e → HoldsAs past o next me e
same_holds past None next me d e h later same = tt
same_holds past (Some s) next me d e h later same = (λ alive. holds (h.0 (sym (ap is_living same.0) ∙ alive)), h.1, remembers, not_before me d e later h.3)
  where
    remembers : Remembers past s.children s.started me e
    remembers = remembers_step past s.children s.started me d e later same.1 h.2

    holds : Holds past s next me d → Holds past s next me e
    holds k = record {
      waits = k.waits;
      ready = subst (IsReady next) (sym same.0) k.ready;
      remembers = remembers;
      traps = subst (λ (f : Phase). ((state_of f).traps ≡ true) ⊎ ((next ≡ Proceed) × NoneLives s.children)) (sym same.0) k.traps;
      family = family_step past s.children s.stopping me d e later (λ q tied. inl (subst (λ (f : Phase). IsTied (state_of f) q) (sym same.0) tied)) k.family;
      asks = asks_step past s.children s.asked me d e later (λ m q w. subst (λ (f : Phase). IsWatched (state_of f) m q) (sym same.0) w) k.asks;
    }

received : (past : Past) (o : Option Standing) (next : Next) (me : Pid) (d : ShardState) (l : Letter) → HoldsAs past o next me d → HoldsAs past o next me (handled l d)
received past None next me d l h = tt
received past (Some s) next me d l h = by_cases (same_pid me l.to)
    (λ here. (λ alive. came_holds past s next me d l here (h.0 (lived me l.from l.signal (phase_of d me) (sym (λ i. is_living (cond (here i) (gets me l.from l.signal (phase_of d me)) (phase_of d me))) ∙ alive))) alive, h.1, came_remembers past s me d l h.2, not_before me d (handled l d) (later_handled l d) h.3))
    (λ other. same_holds past (Some s) next me d (handled l d) h (later_handled l d) (λ i. cond (other i) (gets me l.from l.signal (phase_of d me)) (phase_of d me), refl))

-- what has ended does not live
not_left : {X : Type 0} (r : Reason) (f : Phase) → is_living (leaves r f) ≡ true → X
not_left r unborn h = absurd (cc)
not_left r (living s) h = absurd (cc)
not_left r (ended w s) h = absurd (cc)

ended_holds : (past : Past) (o : Option Standing) (r : Reason) (me : Pid) (d : ShardState) → HoldsAs past o (Stop r) me d → HoldsAs past o (Stop r) me (shard_after (Left me r) d)
ended_holds past None r me d h = tt
ended_holds past (Some s) r me d h = (
  λ alive. not_left r (phase_of d me) (sym (λ i. is_living (cond (same_pid_refl me i) (leaves r (phase_of d me)) (phase_of d me))) ∙ alive),
  h.1,
  remembers_step past s.children s.started me d (shard_after (Left me r) d) (later_after (Left me r) d) refl h.2,
  not_before me d (shard_after (Left me r) d) (later_after (Left me r) d) h.3,
)

pub begins : (past : Past) (o : Option Standing) (next : Next) (me : Pid) (d : ShardState) → SupervisorBegins o next → HoldsAs past o next me d
begins past None next me d h = tt
begins past (Some s) next me d h = (
  λ alive. record {
    waits = waits;
    ready = proceed_ready next (phase_of d me) h.0;
    remembers = remembers;
    traps = inr (h.0, h.1);
    family = record {
      born = λ place q is own. absurd (none_at s.children place q h.1 is);
      apart = λ i j q a b. absurd (none_at s.children i q h.1 a);
      held = λ z place q is. absurd (none_at s.children place q h.1 is);
    };
    asks = λ a is placed. absurd (none_at s.children placed.0 a.pid h.1 placed.1);
  },
  waits,
  remembers,
  λ unborn_is. h,
)
  where
    waits : Supervises next s
    waits = subst (λ (n : Next). Supervises n s) (sym h.0) tt

    remembers : Remembers past s.children s.started me d
    remembers were q was = nobody (all_children past me d) (ap (λ (n : ℕ). was_started past n me q d) (sym h.2) ∙ was)
      where
        nobody : {X : Type 0} (qs : List Pid) → list_any (same_pid q) (take 0 qs) ≡ true → X
        nobody [] any = absurd (cc)
        nobody (x ∷ qs) any = absurd (cc)

taken_lives : (me : Pid) (before : Next) (item : Option Item) (was d : ShardState) → ItemIsTaken me before item was d → lives was me ≡ true
taken_lives me before None was d h = h.1
taken_lives me before (Some item) was d h = h.2

taken_born : (me : Pid) (before : Next) (item : Option Item) (was d : ShardState) → ItemIsTaken me before item was d → is_unborn (phase_of was me) ≡ false → is_unborn (phase_of d me) ≡ false
taken_born me before None was d h born = subst (λ (f : ShardState). is_unborn (phase_of f me) ≡ false) (sym h.2) born
taken_born me before (Some item) was d h born = subst (λ (f : ShardState). is_unborn (phase_of f me) ≡ false) (sym h.4)
    (born_then was (shard_after (TookIt me h.0 item) was) (later_after (TookIt me h.0 item) was) me born)

module _ {B : Type 0} (past : Past) (part : PartOf B) where
  all_begin : (births : List (Role B)) → AllBegin part births → AllFirst (Keeps past part) births
  all_begin [] h = tt
  all_begin (r ∷ rs) h = (λ d. begins past (part r.behaviour) r.next r.pid d h.0, all_begin rs h.1)

  acts_as : (o : Option Standing) (me : Pid) (item : Option Item) (d : ShardState) (next : Next) (later : Option Standing) (e : ShardState) → ActsAs o me item d next later e → ActsFor me d e
  acts_as None me item d next later e h = h.1
  acts_as (Some s) me item d next later e h = h.2.acts

  hands_as : (o : Option Standing) (before : Next) (me : Pid) (item : Option Item) (was d : ShardState) (next : Next) (now : Option Standing) (e : ShardState) → HoldsAs past o before me was
      → is_unborn (phase_of was me) ≡ false → ItemIsTaken me before item was d → IsLater d e → ActsAs o me item d next now e → HoldsAs past now next me e
  hands_as None before me item was d next now e h born taken later acts = subst (λ (x : Option Standing). HoldsAs past x next me e) (sym acts.0) tt
  hands_as (Some s) before me item was d next now e h born taken later acts =
      subst (λ (x : Option Standing). HoldsAs past x next me e) (sym acts.1)
      (let k = acts.2.keeps past before was taken born (holds_children past s before me was (h.0 (taken_lives me before item was d taken))) in (
        λ alive. k,
        k.waits,
        k.remembers,
        not_before me d e later (λ unborn_is. let bad : false ≡ true = sym (taken_born me before item was d taken born) ∙ unborn_is in absurd (cc)),
      ))

  pub upheld : (answers : Answers B) → SuperviseAs answers part → IsUpheld answers (Keeps past part)
  upheld answers law = record {
    acts = λ time b d p item next now e births a. acts_as (part b) p item d next (part now) e (law time b d p item next now e births a).0;
    hands = λ time b before p item was d next now e births h born taken a later. hands_as (part b) before p item was d next (part now) e h born taken later (law time b d p item next now e births a).0;
    bears = λ time b d p item next now e births a. all_begin births (law time b d p item next now e births a).1;
    others = λ b next p d e h born later same. same_holds past (part b) next p d e h later same;
    ends = λ b r p d h born. ended_holds past (part b) r p d h;
    receives = λ b next p d l h born. received past (part b) next p d l h;
  }
