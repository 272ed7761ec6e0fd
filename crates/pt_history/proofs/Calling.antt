-- Each call of a desk keeps what the audit has of the calls of a node.
use Rattle.std.proofs.Common.{◌≡◌, ℕ, ◌+◌, ◌<◌, ◌==◌, max, nat_lt, nat_le, Bool, true, false, not, cond, ◌&&◌, ◌||◌, Option, Some, None, is_some, Result, Ok, Err, List, [], ◌∷◌, length, refl, sym, ap, ◌∙◌, subst, arith}
use Rattle.std.specs.Prelude.{slice_get, MatchOption, ⊤}
use Rattle.std.specs.Result.{IsErrAnd}
use Rattle.std.specs.Map.{lookup}
use Rattle.std.specs.Option.{option_map}
use Rattle.std.proofs.lemmas.Bool.{and_parts, both_ways, eqb-true, ltb-true, leb-true}
use mathlib.Core.Option.{some}
use lib.ListN.{get_elem?}
use Rattle.pt_signal.specs.declared.pid.Pid.{Pid}
use Rattle.pt_signal.specs.declared.ids.Ref.{Ref}
use Rattle.pt_signal.specs.declared.ids.Ids.{Ids}
use Rattle.pt_signal.specs.declared.ids.LinkId.{LinkId}
use Rattle.pt_signal.specs.declared.item.Item.{Item}
use Rattle.pt_signal.specs.declared.item.Pick.{Pick}
use Rattle.pt_signal.specs.declared.letter.Letter.{Letter}
use Rattle.pt_signal.specs.declared.signal.Signal.{Signal}
use Rattle.pt_signal.specs.declared.signal.Signal.TheVariants.{Message, Link, Unlink, Monitor, Demonitor, AliveAsk}
use Rattle.pt_signal.specs.declared.config.TheConstants.{MAX_SLOTS}
use Rattle.pt_signal.specs.Values.{same_pid, same_ref}
use Rattle.pt_events.specs.declared.event.Event.{Event}
use Rattle.pt_events.specs.declared.event.Event.TheVariants.{Born, Said, Came, Took, Flag, Left, Refused}
use Rattle.pt_events.specs.declared.event.Stamped.{Stamped}
use Rattle.pt_events.specs.History.{Start, is_ended, life}
use Rattle.pt_events.specs.Journal.{Journals, clock, events, gots, posts}
use Rattle.pt_directory.specs.declared.view.Read.{Read}
use Rattle.pt_shard.specs.declared.fault.Fault.{Fault}
use Rattle.pt_shard.specs.declared.fault.Fault.TheVariants.{Full, Memory, Worn, Gone, Myself, NoProc}
use Rattle.pt_shard.specs.declared.stop.Stop.{Stop}
use Rattle.pt_shard.specs.declared.stop.Stop.TheVariants as stop
use Rattle.pt_shard.specs.Calls.{Bears, BearsChild, Calls, Monitors, Refuses, demonitor_at, demonitor_event, held_by, if_asked, link_event, new_link, take_event, first_match, unlink_event, birth_link}
use Rattle.pt_shard.specs.Fit.{IsNextBirth}
use Rattle.pt_shard.specs.Known.{knows, is_in_node, is_not_ahead}
use Rattle.pt_shard.specs.ShardState.{ShardState, Handles, lives, past, phase_of, shard_after, stamped, state_in}
use Rattle.pt_desk.specs.DeskState.{DeskState, IsDesk}
use Rattle.pt_desk.specs.Reaching.{Looks, Reaches, has_link_to_make, has_monitor_to_make}
use Rattle.pt_desk.specs.Sight.{Sight, AllSeen, HasEndOf, IsSeen}
use Rattle.pt_auditor.specs.Seen.{has_seen, is_slot_of, shows_end}
use Rattle.pt_auditor.specs.Foreigners.{GoesToNoEnded, GoesToNoneSeen, IsNodeSlot, IsNodeVersion, reaches}
use Rattle.pt_history.specs.Passing.{AllCalledHere, IsCalledHere, IsInTimeHere}
use Rattle.pt_history.specs.Calling.{IsCalledDesk, CallsKeep}
use Rattle.pt_history.proofs.Watched.{target_named}

-- an event that a call writes, which is no receipt
abbrev IsOwn : Event → Type 0
IsOwn (Came a b x) = ⊥
IsOwn _ = ⊤

-- what a desk read of t's slot, where it has seen by a refused call that t has ended
seen_read : (reads : List Read) (d : ℕ) (t : Pid) → 0 < t.version → (j : List Stamped) → AllSeen reads j → has_seen (events j) d t ≡ true
    → (k : ℕ) × (r : Read) × (get_elem? reads k ≡ some r) × HasEndOf t r
seen_read reads d t some_version [] all h = absurd (cc)
seen_read reads d t some_version (s ∷ j) all h = go (shows_end d t s.event) refl (seen_read reads d t some_version j all.1)
  where
    found : (e : Event) → IsSeen reads s.stamp e → shows_end d t e ≡ true → (k : ℕ) × (r : Read) × (get_elem? reads k ≡ some r) × HasEndOf t r
    found (Refused a b) seen shows =
        let p = and_parts (is_slot_of d t (a.shard, b.shard, b.slot)) (nat_le t.version b.version) shows in
        let q = and_parts ((d == a.shard) && (t.shard == b.shard)) (t.slot == b.slot) p.0 in
        let at = and_parts (d == a.shard) (t.shard == b.shard) q.0 in
        let end = seen.4 in
        let upto = leb-true t.version b.version p.1 in
        let above = end.version in (
          seen.0,
          seen.1,
          seen.3,
          record {
            shard = end.shard ∙ sym (eqb-true t.shard b.shard at.1);
            slot = end.slot ∙ sym (eqb-true t.slot b.slot q.1);
            issued = some_version;
            version = omega (arith, upto, above);
          },
        )
    found (Born p parent link) seen shows = absurd (cc)
    found (Said a b x) seen shows = absurd (cc)
    found (Came a b x) seen shows = absurd (cc)
    found (Took p k i) seen shows = absurd (cc)
    found (Flag p on) seen shows = absurd (cc)
    found (Left p r) seen shows = absurd (cc)

    go : (b : Bool) → shows_end d t s.event ≡ b → (has_seen (events j) d t ≡ true → (k : ℕ) × (r : Read) × (get_elem? reads k ≡ some r) × HasEndOf t r)
        → (k : ℕ) × (r : Read) × (get_elem? reads k ≡ some r) × HasEndOf t r
    go true e ih = found s.event all.0 e
    go false e ih = let k : has_seen (events j) d t ≡ true = rw e at h in ih k

module _ (journal : Journals) (old : DeskState) (whole : IsDesk old) (fresh : old.shard.start ≡ []) where
  d : ShardState
  d = old.shard

  -- what the event has to be
  record IsGood (e : Event) : Type 0 where
    own : IsOwn e
    slot : IsNodeSlot e
    version : IsNodeVersion e
    alive : GoesToNoEnded (past old.shard) old.shard.number e
    unseen : GoesToNoneSeen (past old.shard) old.shard.number e

  in_time : (e : Event) → IsOwn e → (n : ℕ) → n ≡ old.shard.clock + 1 → IsInTimeHere old.shard.config.start old.shard.number journal old.shard.journal n e
  in_time (Came a b x) own n h = absurd own
  in_time (Refused a b) own n h = tt
  in_time (Born p parent link) own n h = h ∙ ap (λ z. z + 1) whole.fit.clock_is
  in_time (Said a b x) own n h = h ∙ ap (λ z. z + 1) whole.fit.clock_is
  in_time (Took p k i) own n h = h ∙ ap (λ z. z + 1) whole.fit.clock_is
  in_time (Flag p on) own n h = h ∙ ap (λ z. z + 1) whole.fit.clock_is
  in_time (Left p r) own n h = h ∙ ap (λ z. z + 1) whole.fit.clock_is

  abbrev Keeps : ShardState → Type 0
  Keeps new = IsCalledDesk journal old.shard → IsCalledDesk journal new

  -- nothing was written
  none : (new : ShardState) → new ≡ old.shard → Keeps new
  none new is = subst (λ (z : ShardState). Keeps z) (sym is) (λ all. all)

  here : (e : Event) → IsGood e → IsCalledHere old.shard.config.start old.shard.number journal old.shard.journal (stamped (old.shard.clock + 1) e old.shard)
  here e good = record {
    slot = good.slot;
    version = good.version;
    alive = good.alive;
    unseen = good.unseen;
    time = in_time e good.own (old.shard.clock + 1) refl;
  }

  one : (e : Event) → IsGood e → (new : ShardState) → new ≡ shard_after e old.shard → Keeps new
  one e good new is = subst (λ (z : ShardState). Keeps z) (sym is) (λ all. (here e good, all))

  -- a call of a live process writes its event, if there is one
  calls_of : {A : Type 0} (p : Pid) (event : Option Event) (answer : A) (r : Result A Fault) (new : ShardState) → Calls p event answer old.shard r new → ((e : Event) → lives old.shard p ≡ true → event ≡ Some e → IsGood e) → Keeps new
  calls_of p None answer (Ok a) new h good = none new h.3
  calls_of p (Some e) answer (Ok a) new h good = one e (good e h.0 refl) new h.3
  calls_of p event answer (Err Gone) new h good = none new h.1
  calls_of p event answer (Err Worn) new h good = none new h.3
  calls_of p event answer (Err Memory) new h good = none new h.3
  calls_of p event answer (Err Full) new h good = absurd h
  calls_of p event answer (Err Myself) new h good = absurd h
  calls_of p event answer (Err NoProc) new h good = absurd h

  calls : {A : Type 0} (p : Pid) (event : Option Event) (answer : A) (r : Result A Fault) (new : ShardState) → Calls p event answer old.shard r new → ((e : Event) → event ≡ Some e → IsGood e) → Keeps new
  calls p event answer r new h good = calls_of p event answer r new h (λ e l is. good e is)

  refused : (p t : Pid) (n : ℕ) (f : Fault) (new : ShardState) → Refuses p t n old.shard f new → Keeps new
  refused p t n NoProc new h =
      subst (λ (z : ShardState). Keeps z) (sym h.1) (λ all. (record { slot = tt; version = tt; alive = tt; unseen = tt; time = tt }, all))
  refused p t n Worn new h = none new h.1
  refused p t n Memory new h = none new h.1
  refused p t n Full new h = absurd h
  refused p t n Gone new h = absurd h
  refused p t n Myself new h = absurd h

  -- a target that the desk knows is of a slot and a version that a node may have
  record IsNamed (t : Pid) : Type 0 where
    slot : t.slot < MAX_SLOTS
    version : 0 < t.version

  named : (t : Pid) → knows old.shard t ≡ true → IsNamed t
  named t h =
      let c = old.shard.config in
      let p = (and_parts (is_in_node c t) (is_not_ahead old.shard t) h).0 in
      let q = and_parts (nat_lt t.shard c.desks && nat_lt t.slot c.slots) (nat_lt 0 t.version && nat_le t.version c.top_version) p in
      let slot = ltb-true t.slot c.slots (and_parts (nat_lt t.shard c.desks) (nat_lt t.slot c.slots) q.0).1 in
      let most = whole.fit.settings.slots in
      record {
        slot = omega (arith, slot, most);
        version = ltb-true 0 t.version (and_parts (nat_lt 0 t.version) (nat_le t.version c.top_version) q.1).0;
      }

  -- a target of which the desk has not seen that it has ended
  record IsFree (t : Pid) : Type 0 where
    alive : t.shard ≡ old.shard.number → is_ended (life [] (past old.shard) t) ≡ false
    unseen : has_seen (past old.shard) old.shard.number t ≡ false

  free : (t : Pid) (sight : Sight) → IsNamed t → Looks t old None sight → IsFree t
  free t sight n looks = record {
    alive = λ here. lives_on here (is_ended (phase_of old.shard t)) refl;
    unseen = not_seen (has_seen (past old.shard) old.shard.number t) refl;
  }
    where
      lives_on : t.shard ≡ old.shard.number → (b : Bool) → is_ended (phase_of old.shard t) ≡ b → is_ended (life [] (past old.shard) t) ≡ false
      lives_on here false e = sym (ap (λ (z : Start). is_ended (life z (past old.shard) t)) fresh) ∙ e
      lives_on here true e = let some_end = looks.own here e in absurd (cc)

      not_seen : (b : Bool) → has_seen (past old.shard) old.shard.number t ≡ b → has_seen (past old.shard) old.shard.number t ≡ false
      not_seen false e = e
      not_seen true e =
          let r = seen_read old.sight.reads old.shard.number t n.version old.shard.journal whole.seated.seen e in
          let some_end = looks.again r.0 r.1 r.2 r.3 in
          absurd (cc)

  -- a call that reaches for another process
  reached : {A : Type 0} (looks : Bool) (p t : Pid) (call : Type 0) (r : Result A Fault) (new : DeskState) → Reaches looks p t call old r new
      → (looks ≡ true → IsFree t → call → Keeps new.shard) → (looks ≡ false → call → Keeps new.shard) → IsNamed t → Keeps new.shard
  reached false p t call r new h made unseen n = unseen refl h.0
  reached {A = A} true p t call r new h made unseen n = go h.seen h.looks h.does
    where
      answered : (k : ℕ) (r : Result A Fault) → IsErrAnd r (λ f. Refuses p t k old.shard f new.shard) → Keeps new.shard
      answered k (Ok a) e = absurd e
      answered k (Err f) e = refused p t k f new.shard e

      go : (o : Option ℕ) → Looks t old o new.sight → MatchOption o call (λ k. IsErrAnd r (λ f. Refuses p t k old.shard f new.shard)) → Keeps new.shard
      go None l c = made refl (free t new.sight n l) c
      go (Some k) l e = answered k r e

  good_plain : (e : Event) → IsOwn e → IsNodeSlot e → IsNodeVersion e → GoesToNoEnded (past old.shard) old.shard.number e → GoesToNoneSeen (past old.shard) old.shard.number e → (o : Event) → Some e ≡ Some o → IsGood o
  good_plain e own slot version alive unseen o is =
      let same : e ≡ o = cc in
      subst (λ (z : Event). IsGood z) same (record { own = own; slot = slot; version = version; alive = alive; unseen = unseen })

  -- what is said to one whom the desk does not know to have ended
  good_free : (p t : Pid) (x : Signal) → IsNamed t → IsFree t → (o : Event) → Some (Said p t x) ≡ Some o → IsGood o
  good_free p t x n f = good_plain (Said p t x) tt n.slot n.version (λ r at. f.alive at) (λ r. f.unseen)

  -- and what is said to anyone, where no call is refused for it
  good_any : (p t : Pid) (x : Signal) → reaches x ≡ false → IsNamed t → (o : Event) → Some (Said p t x) ≡ Some o → IsGood o
  good_any p t x off n = good_plain (Said p t x) tt n.slot n.version (λ r at. absurd (both_ways (reaches x) off r)) (λ r. absurd (both_ways (reaches x) off r))

  vacant_slot : (p : Pid) (o : Option Pid) → o ≡ Some p → IsNextBirth old.shard o → p.slot < MAX_SLOTS
  unfolding IsNextBirth
  vacant_slot p None is v = absurd (cc)
  vacant_slot p (Some q) is v =
      let same : q ≡ p = cc in
      let most = whole.fit.settings.slots in
      let below = v.1 in
      subst (λ (z : Pid). z.slot < MAX_SLOTS) same (omega (arith, below, most))

  bears : (parent : Option Pid) (link : Option LinkId) (r : Result Pid Fault) (new : ShardState) → Bears parent link old.shard r new → Keeps new
  bears parent link (Ok p) new h =
      subst (λ (z : ShardState). Keeps z) (sym h.2)
      (λ all. (here (Born p parent link) (record { own = tt; slot = vacant_slot p old.shard.vacant h.1 whole.fit.vacant; version = tt; alive = tt; unseen = tt }), all))
  bears parent link (Err Worn) new h = none new h.1
  bears parent link (Err Full) new h = none new h.2
  bears parent link (Err Memory) new h = none new h.2
  bears parent link (Err Gone) new h = absurd h
  bears parent link (Err Myself) new h = absurd h
  bears parent link (Err NoProc) new h = absurd h

  bears_child : (p : Pid) (linked : Bool) (r : Result Pid Fault) (new : ShardState) → BearsChild p linked old.shard r new → Keeps new
  bears_child p linked (Ok q) new h = bears (Some p) (birth_link linked old.shard) (Ok q) new h.1
  bears_child p linked (Err Gone) new h = none new h.1
  bears_child p linked (Err Worn) new h = none new h.2
  bears_child p linked (Err Full) new h = none new h.3
  bears_child p linked (Err Memory) new h = none new h.3
  bears_child p linked (Err Myself) new h = absurd h
  bears_child p linked (Err NoProc) new h = absurd h

  monitors : (p t : Pid) (r : Result Ref Fault) (new : ShardState) → ((o : Event) → Some (Said p t (Monitor (record { desk = old.shard.number; number = old.shard.clock + 1 }))) ≡ Some o → IsGood o)
      → Monitors p t old.shard r new → Keeps new
  monitors p t (Ok m) new good h = calls p (Some (Said p t (Monitor (record { desk = old.shard.number; number = old.shard.clock + 1 })))) (record { desk = old.shard.number; number = old.shard.clock + 1 }) (Ok m) new h.1 good
  monitors p t (Err Gone) new good h = none new h.1
  monitors p t (Err Myself) new good h = none new h.2
  monitors p t (Err Worn) new good h = none new h.3
  monitors p t (Err Memory) new good h = none new h.3
  monitors p t (Err Full) new good h = absurd h
  monitors p t (Err NoProc) new good h = absurd h

  -- where it does not look, it writes nothing
  not_made : {A : Type 0} (p : Pid) (e : Event) (answer : A) (r : Result A Fault) (new : ShardState) → lives old.shard p ≡ false → Calls p (Some e) answer old.shard r new → Keeps new
  not_made p e answer (Ok a) new gone h = absurd (both_ways (lives old.shard p) gone h.0)
  not_made p e answer (Err Gone) new gone h = none new h.1
  not_made p e answer (Err Worn) new gone h = none new h.3
  not_made p e answer (Err Memory) new gone h = none new h.3
  not_made p e answer (Err Full) new gone h = absurd h
  not_made p e answer (Err Myself) new gone h = absurd h
  not_made p e answer (Err NoProc) new gone h = absurd h

  links : (p t : Pid) (r : Result (Unit {0}) Fault) (new : DeskState) → IsNamed t
      → Reaches (has_link_to_make old.shard p t) p t (Calls p (link_event old.shard p t) tt old.shard r new.shard) old r new → Keeps new.shard
  links p t r new n h =
      reached (has_link_to_make old.shard p t) p t (Calls p (link_event old.shard p t) tt old.shard r new.shard) r new h
      (λ looks f c. calls p (link_event old.shard p t) tt r new.shard c (good f (same_pid p t || is_some (held_by old.shard p t))))
      (λ off c. unmade (lives old.shard p) refl (link_event old.shard p t) refl off c) n
    where
      good : IsFree t → (b : Bool) → (o : Event) → cond b None (Some (Said p t (Link (new_link old.shard)))) ≡ Some o → IsGood o
      good f true o is = absurd (cc)
      good f false o is = good_free p t (Link (new_link old.shard)) n f o is

      unmade : (b : Bool) → lives old.shard p ≡ b → (e : Option Event) → link_event old.shard p t ≡ e → (b && is_some e) ≡ false → Calls p e tt old.shard r new.shard → Keeps new.shard
      unmade b lv None q off c = calls p None tt r new.shard c (λ o is. absurd (cc))
      unmade false lv (Some e) q off c = not_made p e tt r new.shard lv c
      unmade true lv (Some e) q off c = absurd (cc)

  watches : (p t : Pid) (r : Result Ref Fault) (new : DeskState) → IsNamed t
      → Reaches (has_monitor_to_make old.shard p t) p t (Monitors p t old.shard r new.shard) old r new → Keeps new.shard
  watches p t r new n h =
      reached (has_monitor_to_make old.shard p t) p t (Monitors p t old.shard r new.shard) r new h
      (λ looks f c. monitors p t r new.shard (good_free p t (Monitor (record { desk = old.shard.number; number = old.shard.clock + 1 })) n f) c)
      (λ off c. unmade (lives old.shard p) refl (same_pid p t) refl off r c) n
    where
      unmade : (b : Bool) → lives old.shard p ≡ b → (c : Bool) → same_pid p t ≡ c → (b && not c) ≡ false → (r : Result Ref Fault) → Monitors p t old.shard r new.shard → Keeps new.shard
      unmade false lv c q off (Ok m) k = absurd (both_ways (lives old.shard p) lv k.1.0)
      unmade true lv true q off (Ok m) k = absurd (both_ways (same_pid p t) k.0 q)
      unmade true lv false q off (Ok m) k = absurd (cc)
      unmade b lv c q off (Err Gone) k = none new.shard k.1
      unmade b lv c q off (Err Myself) k = none new.shard k.2
      unmade b lv c q off (Err Worn) k = none new.shard k.3
      unmade b lv c q off (Err Memory) k = none new.shard k.3
      unmade b lv c q off (Err Full) k = absurd k
      unmade b lv c q off (Err NoProc) k = absurd k

  takes : (p : Pid) (k : Pick) (o : Event) → take_event old.shard p k ≡ Some o → IsGood o
  takes p k o is = go (first_match old.shard p k) is
    where
      go : (m : Option Item) → option_map (Took p k) m ≡ Some o → IsGood o
      go None e = absurd (cc)
      go (Some i) e = good_plain (Took p k i) tt tt tt tt tt o e

  unlinks : (p t : Pid) → IsNamed t → (o : Event) → unlink_event old.shard p t ≡ Some o → IsGood o
  unlinks p t n o is = go (held_by old.shard p t) is
    where
      go : (m : Option Ids) → option_map (λ ids. Said p t (Unlink ids)) m ≡ Some o → IsGood o
      go None e = absurd (cc)
      go (Some ids) e = good_any p t (Unlink ids) refl n o e

  demonitors : (p : Pid) (m : Ref) (flush : Bool) → ((t : Pid) → lookup (same_ref m) (state_in old.shard p).watching ≡ Some t → IsNamed t) → (o : Event) → demonitor_event old.shard p m flush ≡ Some o → IsGood o
  demonitors p m flush n o is = go (lookup (same_ref m) (state_in old.shard p).watching) refl is
    where
      asked : (b : Bool) → if_asked b (take_event old.shard p (Pick.DownOf m)) ≡ Some o → IsGood o
      asked true e = takes p (Pick.DownOf m) o e
      asked false e = absurd (cc)

      go : (t : Option Pid) → lookup (same_ref m) (state_in old.shard p).watching ≡ t → demonitor_at t old.shard p m flush ≡ Some o → IsGood o
      go None q e = asked flush e
      go (Some t) q e = good_any p t (Demonitor m) refl (n t q) o e

  receives : (l : Letter) (r : Result (Option Pid) Stop) (new : ShardState)
      → slice_get (posts [] (journal l.from.shard) old.shard.number) (length (gots old.shard.journal l.from.shard)) ≡ Some l → Handles l old.shard r new → Keeps new
  receives l (Ok e) new next h =
      subst (λ (z : ShardState). Keeps z) (sym h.1) (λ all. (
        record {
          slot = tt;
          version = tt;
          alive = tt;
          unseen = tt;
          time = λ m at.
              let both : Some l ≡ Some m = sym next ∙ at in
              let same : l ≡ m = cc in
              ap (λ z. max z l.stamp + 1) whole.fit.clock_is ∙ ap (λ (z : Letter). max (clock old.shard.config.start old.shard.journal) z.stamp + 1) same;
        },
        all,
      ))
  receives l (Err stop.Worn) new next h = none new h.1
  receives l (Err stop.Memory) new next h = none new h.1

  pub keeps : (new : DeskState) → CallsKeep journal old new
  keeps new = record {
    spawn = λ r h. bears None None r new.shard h;
    spawn_child = λ p linked r h. bears_child p linked r new.shard h;
    send = λ p t body r k h.
        reached (lives old.shard p) p t (Calls p (Some (Said p t (Message body))) tt old.shard r new.shard) r new h
        (λ looks f c. calls p (Some (Said p t (Message body))) tt r new.shard c (good_free p t (Message body) (named t k) f))
        (λ off c. not_made p (Said p t (Message body)) tt r new.shard off c) (named t k);
    exit_signal = λ p t reason r k h. calls p (Some (Said p t (Signal.Exit reason))) tt r new.shard h (good_any p t (Signal.Exit reason) refl (named t k));
    link = λ p t r k h. links p t r new (named t k) h;
    unlink = λ p t r k h. calls p (unlink_event old.shard p t) tt r new.shard h (unlinks p t (named t k));
    monitor = λ p t r k h. watches p t r new (named t k) h;
    demonitor = λ p m flush r h all.
        calls_of p (demonitor_event old.shard p m flush) (is_some (demonitor_event old.shard p m flush)) r new.shard h
        (λ o alive is. demonitors p m flush (λ t at. let n = target_named old.shard fresh journal all p m t alive at in record { slot = n.0; version = n.1 }) o is) all;
    ask_alive = λ p t r k h.
        calls p (Some (Said p t (AliveAsk (record { desk = old.shard.number; number = old.shard.clock + 1 })))) (record { desk = old.shard.number; number = old.shard.clock + 1 }) r new.shard h
        (good_any p t (AliveAsk (record { desk = old.shard.number; number = old.shard.clock + 1 })) refl (named t k));
    trap = λ p on r h. calls p (Some (Flag p on)) (state_in old.shard p).traps r new.shard h (good_plain (Flag p on) tt tt tt tt tt);
    receive = λ p k r h. calls p (take_event old.shard p k) (first_match old.shard p k) r new.shard h (takes p k);
    exit = λ p reason r h. calls p (Some (Left p reason)) tt r new.shard h (good_plain (Left p reason) tt tt tt tt tt);
    receipt = λ l r next h. receives l r new.shard next h;
  }

pub opened : (journal : Journals) (d : ShardState) → d.journal ≡ [] → IsCalledDesk journal d
opened journal d h = subst (λ (z : List Stamped). AllCalledHere d.config.start d.number journal z) (sym h) tt
