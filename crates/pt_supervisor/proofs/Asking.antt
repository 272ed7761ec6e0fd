-- How far a supervisor has come with the one that it ends, whatever happens on its desk.
use Rattle.std.proofs.Common.{◌≡◌, inl, inr, ℕ, Bool, true, false, cond, ◌||◌, ◌&&◌, List, [], ◌∷◌, ◌++◌, Option, Some, None, Result, Ok, Err, refl, sym, ap, subst, ◌∙◌}
use Rattle.std.specs.Prelude.{MatchBool, is_ok, nat_lt}
use Rattle.std.specs.List.{list_any}
use Rattle.std.specs.Map.{lookup, remove_entry}
use Rattle.std.proofs.lemmas.List.Folds.{list_any-append}
use Rattle.pt_signal.specs.declared.pid.Pid.{Pid}
use Rattle.pt_signal.specs.declared.ids.Ref.{Ref}
use Rattle.pt_signal.specs.declared.item.Item.{Item}
use Rattle.pt_signal.specs.declared.item.Item.TheVariants.{User}
use Rattle.pt_signal.specs.declared.item.Pick.{Pick}
use Rattle.pt_signal.specs.declared.reason.Reason.{Reason}
use Rattle.pt_signal.specs.declared.signal.Signal.{Signal}
use Rattle.pt_signal.specs.declared.signal.Signal.TheVariants.{Message, Link, Unlink, LinkExit, Monitor, Demonitor, AliveAsk, AliveSay}
use Rattle.pt_signal.specs.Values.{same_pid, same_ref}
use Rattle.pt_signal.specs.Process.{ProcessState, Verdict, drops, queues, ends, verdict, held, handle, obey, link_exit, down, holds_any, say}
use Rattle.pt_signal.proofs.Same.{same_pid_refl, same_ref_is, same_ref_refl}
use Rattle.pt_events.specs.declared.event.Event.TheVariants.{Said, Refused}
use Rattle.pt_events.specs.History.{Past, Phase, living, state_of}
use Rattle.pt_laws.specs.Watch.{is_down_item, is_open}
use Rattle.pt_shard.specs.declared.fault.Fault.TheVariants.{Full, Memory, Worn, Gone as Over, Myself, NoProc}
use Rattle.pt_shard.specs.ShardState.{ShardState, phase_of, state_in, shard_after, written}
use Rattle.pt_shard.specs.Known.{knows}
use Rattle.pt_desk.specs.DeskState.{DeskState}
use Rattle.pt_behaviour.specs.declared.behaviour.Next.{Next}
use Rattle.pt_behaviour.specs.declared.behaviour.Next.TheVariants.{WaitUntil}
use Rattle.pt_behaviour.specs.declared.call_fault.CallFault.{CallFault}
use Rattle.pt_behaviour.specs.declared.call_fault.CallFault.TheVariants.{Unknown}
use Rattle.pt_behaviour.specs.Upholding.{IsLater}
use Rattle.pt_behaviour.proofs.Cases.{by_cases}
use Rattle.pt_behaviour.proofs.Upholding.{phase_is}
use Rattle.pt_children.specs.declared.asked.Asked.{Asked}
use Rattle.pt_children.specs.declared.asked.Stage.{Stage}
use Rattle.pt_children.specs.declared.asked.Stage.TheVariants.{Gone, Watched, Waiting, Until, Killed}
use Rattle.pt_children.specs.declared.children.Child.{Child}
use Rattle.pt_children.specs.declared.children.Shutdown.{Shutdown}
use Rattle.pt_children.specs.declared.children.Shutdown.TheVariants.{Infinity, After, BrutalKill}
use Rattle.pt_children.specs.Ending.{bids, gone_at, is_ref, monitor_of, stage_of, stage_told, told_in, unless_by}
use Rattle.pt_children.specs.Hearing.{Standing, at_stage}
use Rattle.pt_supervisor.specs.Supervising.{EndsChild, TellsToEnd, after_watching}
use Rattle.pt_children.specs.Families.{AreAsked, IsAsked, IsPlaced, IsWatched, all_events, bids_to, has_bid_to, has_told, is_bid}
use Rattle.pt_supervisor.proofs.Ending.{stage_at}
use Rattle.pt_supervisor.proofs.Families.{ToldAs, WatchedAs, any_later, own_phase, told_as, told_later, watched_as}
use Rattle.pt_children.proofs.Tying.{more_waits, or_left, or_right}

-- a monitor stays open, or its DOWN waits -----------------------------------------------------------

-- by fields
pub watched_by : (s t : ProcessState) (m : Ref) (q : Pid) → (list_any (is_open m q) s.watching ≡ true → list_any (is_open m q) t.watching ≡ true) → (list_any (is_down_item m) s.waiting ≡ true → list_any (is_down_item m) t.waiting ≡ true)
    → IsWatched s m q → IsWatched t m q
watched_by s t m q f g (inl h) = inl (f h)
watched_by s t m q f g (inr h) = inr (g h)

module _ (m : Ref) (q : Pid) where
  queued_watched : (s : ProcessState) (item : Item) → IsWatched s m q → IsWatched (record s { waiting = s.waiting ++ item ∷ [] }) m q
  queued_watched s item = watched_by s (record s { waiting = s.waiting ++ item ∷ [] }) m q (λ h. h) (more_waits (is_down_item m) s.waiting (item ∷ []))

  obeyed_watched : (v : Verdict) (s : ProcessState) → IsWatched s m q → IsWatched (obey v s).state m q
  obeyed_watched drops s h = h
  obeyed_watched (queues item) s h = queued_watched s item h
  obeyed_watched (ends r) s h = h

  link_exit_watched : (known : Bool) (me : Pid) (s : ProcessState) (from : Pid) (r : Reason) → IsWatched s m q → IsWatched (link_exit known me s from r).state m q
  link_exit_watched false me s from r h = h
  link_exit_watched true me s from r h = obeyed_watched (verdict true s.traps (same_pid from me) from r) (record s { links = remove_entry (same_pid from) s.links }) h

  -- another monitor is closed
  open_still : (n : Ref) → same_ref m n ≡ false → (es : List (Ref × Pid)) → list_any (is_open m q) es ≡ true → list_any (is_open m q) (remove_entry (same_ref n) es) ≡ true
  open_still n apart [] h = h
  open_still n apart (e ∷ es) h = by_cases (same_ref n e.0)
      (λ is.
      let shut : is_open m q e ≡ false = (λ i. same_pid q e.1 && same_ref m (sym (same_ref_is n e.0 is) i)) ∙ (ap (λ (b : Bool). same_pid q e.1 && b) apart ∙ never (same_pid q e.1)) in
      subst (λ (b : Bool). list_any (is_open m q) (cond b es (e ∷ remove_entry (same_ref n) es)) ≡ true) (sym is) (sym (ap (λ (b : Bool). b || list_any (is_open m q) es) shut) ∙ h))
      (λ no.
      subst (λ (b : Bool). list_any (is_open m q) (cond b es (e ∷ remove_entry (same_ref n) es)) ≡ true) (sym no)
      (by_cases (is_open m q e) (λ t. or_left (is_open m q e) (list_any (is_open m q) (remove_entry (same_ref n) es)) t)
      (λ f. or_right (is_open m q e) (list_any (is_open m q) (remove_entry (same_ref n) es)) (open_still n apart es (sym (ap (λ (b : Bool). b || list_any (is_open m q) es) f) ∙ h)))))
    where
      never : (b : Bool) → (b && false) ≡ false
      never true = refl
      never false = refl

  down_watched : (o : Option Pid) (s : ProcessState) (from : Pid) (n : Ref) (r : Reason) → IsWatched s m q → IsWatched (down o s from n r).state m q
  down_watched None s from n r h = h
  down_watched (Some t) s from n r h = by_cases (same_ref m n)
      (λ same. inr (list_any-append (is_down_item m) s.waiting (Item.Down n from r ∷ []) ∙ or_right (list_any (is_down_item m) s.waiting) (same_ref m n || false) (or_left (same_ref m n) false same)))
      (λ apart. watched_by s (record s { watching = remove_entry (same_ref n) s.watching; waiting = s.waiting ++ Item.Down n from r ∷ [] }) m q (open_still n apart s.watching) (more_waits (is_down_item m) s.waiting (Item.Down n from r ∷ [])) h)

  pub handled_watched : (me : Pid) (s : ProcessState) (a : Pid) (x : Signal) → IsWatched s m q → IsWatched (handle me s a x).state m q
  handled_watched me s a (Message b) h = queued_watched s (User a b) h
  handled_watched me s a (Link i) h = h
  handled_watched me s a (Unlink ids) h = h
  handled_watched me s a (Signal.Exit r) h = obeyed_watched (verdict false s.traps (same_pid a me) a r) s h
  handled_watched me s a (LinkExit ids r) h = link_exit_watched (holds_any (held s.links a) ids) me s a r h
  handled_watched me s a (Monitor n) h = h
  handled_watched me s a (Demonitor n) h = h
  handled_watched me s a (Signal.Down n r) h = down_watched (lookup (same_ref n) s.watching) s a n r h
  handled_watched me s a (AliveAsk n) h = h
  handled_watched me s a (AliveSay n y) h = queued_watched s (Item.Alive n a y) h

  opened : (es : List (Ref × Pid)) → list_any (is_open m q) (es ++ (m, q) ∷ []) ≡ true
  opened es =
      list_any-append (is_open m q) es ((m, q) ∷ [])
      ∙ or_right (list_any (is_open m q) es) ((same_pid q q && same_ref m m) || false) (or_left (same_pid q q && same_ref m m) false (λ i. same_pid_refl q i && same_ref_refl m i))

-- what stays as far as it has come ------------------------------------------------------------------

pub asked_step : (past : Past) (a : Asked) (me : Pid) (d e : ShardState) → IsLater d e → ((m : Ref) → monitor_of a.stage ≡ Some m → IsWatched (state_in d me) m a.pid → IsWatched (state_in e me) m a.pid) → IsAsked past a me d → IsAsked past a me e
asked_step past a me d e later watch h = record {
  watched = λ m is. watch m is (h.watched m is);
  told = λ r is. any_later (bids_to me a.pid r) past d e later (h.told r is);
  gone = λ is. told_later past me a.pid d e later (h.gone is);
}

pub asks_step : (past : Past) (children : List Child) (asked : Option Asked) (me : Pid) (d e : ShardState) → IsLater d e → ((m : Ref) (q : Pid) → IsWatched (state_in d me) m q → IsWatched (state_in e me) m q)
    → AreAsked past children asked me d → AreAsked past children asked me e
asks_step past children asked me d e later watch h = λ a is placed. asked_step past a me d e later (λ m by. watch m a.pid) (h a is placed)

pub asks_is : (past : Past) (children : List Child) (asked : Option Asked) (me : Pid) (d e : ShardState) → e ≡ d → AreAsked past children asked me d → AreAsked past children asked me e
asks_is past children asked me d e is h = subst (AreAsked past children asked me) (sym is) h

-- whom it monitors no more it did not monitor by this
pub unless_is : (m : Ref) (asked : Option Asked) (a : Asked) → unless_by m asked ≡ Some a → (asked ≡ Some a) × (is_ref (monitor_of a.stage) m ≡ false)
unless_is m None a is = absurd (cc)
unless_is m (Some b) a is = by_cases (is_ref (monitor_of b.stage) m)
    (λ by. let bad : None ≡ Some a = sym (ap (λ (t : Bool). cond t None (Some b)) by) ∙ is in absurd (cc))
    (λ other.
    let here : Some b ≡ Some a = sym (ap (λ (t : Bool). cond t None (Some b)) other) ∙ is in
    let same : b ≡ a = cc in
    (here, subst (λ (x : Asked). is_ref (monitor_of x.stage) m ≡ false) same other))

-- what it does to end one -----------------------------------------------------------------------------

-- one at this stage is monitored by m, and got an exit signal with this reason
record Reached (stage : Stage) (reason : Reason) (m : Ref) : Type 0 where
  by : (n : Ref) → monitor_of stage ≡ Some n → m ≡ n
  tells : (r : Reason) → told_in stage ≡ Some r → is_bid r reason ≡ true
  stays : (q : Pid) → gone_at stage q ≡ Some q → ⊥

same_some : {X : Type 0} (x y : X) → Some x ≡ Some y → x ≡ y
same_some x y is = cc

none_some : {X : Type 0} (x : X) → None ≡ Some x → ⊥
none_some x is = absurd (cc)

told_so : (reason r : Reason) → is_bid reason reason ≡ true → Some reason ≡ Some r → is_bid r reason ≡ true
told_so reason r same is = subst (λ (x : Reason). is_bid x reason ≡ true) (same_some reason r is) same

reached_by : (shutdown : Shutdown) (m : Ref) (now : ℕ) → Reached (stage_told shutdown m now) (bids shutdown) m
reached_by Infinity m now = record { by = λ n is. same_some m n is; tells = λ r is. told_so Reason.Shutdown r refl is; stays = λ q is. none_some q is }
reached_by (After time) m now = record { by = λ n is. same_some m n is; tells = λ r is. told_so Reason.Shutdown r refl is; stays = λ q is. none_some q is }
reached_by BrutalKill m now = record { by = λ n is. same_some m n is; tells = λ r is. told_so Reason.Kill r refl is; stays = λ q is. none_some q is }

reached_kill : (m : Ref) → Reached (Killed m) Reason.Kill m
reached_kill m = record { by = λ n is. same_some m n is; tells = λ r is. told_so Reason.Kill r refl is; stays = λ q is. none_some q is }

module _ (past : Past) (me p : Pid) where
  -- what it says leaves its monitors
  told_watched : (reason : Reason) (d e : ShardState) (result : Result (Unit {0}) CallFault) → ToldAs me p reason d e result → (s : ProcessState) → phase_of d me ≡ living s → (m : Ref) (q : Pid) → IsWatched (state_in d me) m q → IsWatched (state_in e me) m q
  told_watched reason d e (Ok x) h s is m q w =
      subst (λ (f : Phase). IsWatched (state_of f) m q) (sym (phase_is (shard_after (Said me p (Signal.Exit reason)) d) e h me ∙ own_phase me (Said me p (Signal.Exit reason)) d s (same_pid_refl me) is)) (subst (λ (f : Phase). IsWatched (state_of f) m q) is w)
  told_watched reason d e (Err f) h s is m q w = subst (λ (x : ShardState). IsWatched (state_in x me) m q) (sym h) w

  module _ (reason : Reason) (stage : Stage) (m : Ref) (good : Reached stage reason m) (d e : ShardState) (children : List Child) (s : ProcessState) (is : phase_of d me ≡ living s) where
    told_asks : (result : Result (Unit {0}) CallFault) → ToldAs me p reason d e result → (asked : Option Asked) → AreAsked past children asked me d → (IsPlaced children p → IsWatched (state_in d me) m p)
        → AreAsked past children (cond (is_ok result) (Some (record { pid = p; stage = stage })) asked) me e
    told_asks (Err f) h asked asks watch = asks_is past children asked me d e h asks
    told_asks (Ok x) h asked asks watch = λ a a_is placed.
        let same : record { pid = p; stage = stage } ≡ a = same_some (record { pid = p; stage = stage }) a a_is in
        subst (λ (y : Asked). IsAsked past y me e) same (record {
          watched = λ n by. subst (λ (k : Ref). IsWatched (state_in e me) k p) (good.by n by) (told_watched reason d e (Ok x) h s is m p (watch (subst (λ (y : Asked). IsPlaced children y.pid) (sym same) placed)));
          told = λ r told. subst (λ (f : ShardState). has_bid_to me p r (all_events past f) ≡ true) (sym h)
              (or_left (bids_to me p r (Said me p (Signal.Exit reason))) (has_bid_to me p r (all_events past d)) (λ i. same_pid_refl me i && same_pid_refl p i && good.tells r told i));
          gone = λ gone. absurd (good.stays p gone);
        })

    tells_asks : (old : Standing) (before : DeskState) (next : Next) (new : Standing) (after : DeskState) → before.shard ≡ d → after.shard ≡ e → old.children ≡ children → AreAsked past children old.asked me d → (IsPlaced children p → IsWatched (state_in d me) m p)
        → TellsToEnd me p reason stage old before next new after → AreAsked past children new.asked me e
    tells_asks old before next new after d_is e_is c_is asks watch h =
        subst (λ (o : Option Asked). AreAsked past children o me e) (sym (ap (λ (t : Standing). t.asked) h.new_is ∙ pushed (is_ok h.result)))
        (told_asks h.result (subst (λ (x : ShardState). ToldAs me p reason x e h.result) d_is (subst (λ (x : ShardState). ToldAs me p reason before.shard x h.result) e_is (told_as me p reason (knows before.shard p) before after h.result h.signal))) old.asked asks watch)
      where
        pushed : (ok : Bool) → (cond ok (at_stage p stage old) old).asked ≡ cond ok (Some (record { pid = p; stage = stage })) old.asked
        pushed true = refl
        pushed false = refl

  -- it monitors it
  module _ (d e : ShardState) (children : List Child) (s : ProcessState) (is : phase_of d me ≡ living s) where
    made_phase : (m : Ref) → e ≡ shard_after (Said me p (Monitor m)) d → phase_of e me ≡ living (say s p (Monitor m))
    made_phase m h = phase_is (shard_after (Said me p (Monitor m)) d) e h me ∙ own_phase me (Said me p (Monitor m)) d s (same_pid_refl me) is

    made_watched : (m : Ref) → e ≡ shard_after (Said me p (Monitor m)) d → IsWatched (state_in e me) m p
    made_watched m h = subst (λ (f : Phase). IsWatched (state_of f) m p) (sym (made_phase m h)) (inl (opened m p s.watching))

    made_asks : (m : Ref) → e ≡ shard_after (Said me p (Monitor m)) d → AreAsked past children (Some (record { pid = p; stage = Watched m })) me e
    made_asks m h a a_is placed = subst (λ (y : Asked). IsAsked past y me e) (same_some (record { pid = p; stage = Watched m }) a a_is) (record {
      watched = λ n by. subst (λ (k : Ref). IsWatched (state_in e me) k p) (same_some m n by) (made_watched m h);
      told = λ r none. absurd (none_some r none);
      gone = λ none. absurd (none_some p none);
    })

    gone_asks : (n : ℕ) → e ≡ written n (Refused me p) d → AreAsked past children (Some (record { pid = p; stage = Gone })) me e
    gone_asks n h a a_is placed = subst (λ (y : Asked). IsAsked past y me e) (same_some (record { pid = p; stage = Gone }) a a_is) (record {
      watched = λ m none. absurd (none_some m none);
      told = λ r none. absurd (none_some r none);
      gone = λ gone. subst (λ (f : ShardState). has_told me p (all_events past f) ≡ true) (sym h)
          (or_left (same_pid me me && same_pid p p) (has_told me p (all_events past d)) (λ i. same_pid_refl me i && same_pid_refl p i));
    })

  module _ (now : ℕ) (shutdown : Shutdown) (s : Standing) (d : DeskState) (next : Next) (t : Standing) (e : DeskState) (state : ProcessState) (is : phase_of d.shard me ≡ living state) (asks : AreAsked past s.children s.asked me d.shard) where
    abbrev Asks : Type 0
    Asks = AreAsked past s.children t.asked me e.shard

    -- the state of a desk that is the one before
    same_asks : (o : Option Asked) → AreAsked past s.children o me d.shard → (mid : ShardState) → mid ≡ d.shard → e.shard ≡ mid → t.asked ≡ o → Asks
    same_asks o h mid m_is e_is t_is = subst (λ (x : Option Asked). AreAsked past s.children x me e.shard) (sym t_is) (asks_is past s.children o me d.shard e.shard (e_is ∙ m_is) h)

    after_asks : (result : Result Ref CallFault) (mid : DeskState) → WatchedAs me p d.shard mid.shard result → after_watching me now p shutdown result s mid next t e → Asks
    after_asks (Ok m) mid w h =
        tells_asks (bids shutdown) (stage_told shutdown m now) m (reached_by shutdown m now) mid.shard e.shard s.children (say state p (Monitor m)) (made_phase d.shard mid.shard s.children state is m w)
        (at_stage p (Watched m) s) mid next t e refl refl refl (made_asks d.shard mid.shard s.children state is m w) (λ placed. made_watched d.shard mid.shard s.children state is m w) h
    after_asks (Err (CallFault.Refused NoProc)) mid w h =
        subst (λ (x : Option Asked). AreAsked past s.children x me e.shard) (sym (ap (λ (y : Standing). y.asked) h.1))
        (subst (AreAsked past s.children (Some (record { pid = p; stage = Gone })) me) (sym (ap (λ (y : DeskState). y.shard) h.2)) (gone_asks d.shard mid.shard s.children state is w.0 w.1))
    after_asks (Err (CallFault.Refused Over)) mid w h = same_asks s.asked asks mid.shard w (ap (λ (y : DeskState). y.shard) h.2) (ap (λ (y : Standing). y.asked) h.1)
    after_asks (Err (CallFault.Refused Worn)) mid w h = same_asks s.asked asks mid.shard w (ap (λ (y : DeskState). y.shard) h.2) (ap (λ (y : Standing). y.asked) h.1)
    after_asks (Err (CallFault.Refused Memory)) mid w h = same_asks s.asked asks mid.shard w (ap (λ (y : DeskState). y.shard) h.2) (ap (λ (y : Standing). y.asked) h.1)
    after_asks (Err (CallFault.Refused Full)) mid w h = same_asks s.asked asks mid.shard w (ap (λ (y : DeskState). y.shard) h.2) (ap (λ (y : Standing). y.asked) h.1)
    after_asks (Err (CallFault.Refused Myself)) mid w h = same_asks s.asked asks mid.shard w (ap (λ (y : DeskState). y.shard) h.2) (ap (λ (y : Standing). y.asked) h.1)
    after_asks (Err Unknown) mid w h = same_asks s.asked asks mid.shard w (ap (λ (y : DeskState). y.shard) h.2) (ap (λ (y : Standing). y.asked) h.1)

    -- it was monitored before
    was_watched : (stage : Stage) (m : Ref) → s.asked ≡ Some (record { pid = p; stage = stage }) → monitor_of stage ≡ Some m → IsPlaced s.children p → IsWatched (state_in d.shard me) m p
    was_watched stage m asked by placed = (asks (record { pid = p; stage = stage }) asked placed).watched m by

    bid_asks : (stage : Stage) (m : Ref) → s.asked ≡ Some (record { pid = p; stage = stage }) → monitor_of stage ≡ Some m → TellsToEnd me p (bids shutdown) (stage_told shutdown m now) s d next t e → Asks
    bid_asks stage m asked by h =
        tells_asks (bids shutdown) (stage_told shutdown m now) m (reached_by shutdown m now) d.shard e.shard s.children state is s d next t e refl refl refl asks (was_watched stage m asked by) h

    kill_asks : (stage : Stage) (m : Ref) → s.asked ≡ Some (record { pid = p; stage = stage }) → monitor_of stage ≡ Some m → TellsToEnd me p Reason.Kill (Killed m) s d next t e → Asks
    kill_asks stage m asked by h = tells_asks Reason.Kill (Killed m) m (reached_kill m) d.shard e.shard s.children state is s d next t e refl refl refl asks (was_watched stage m asked by) h

    over_asks : (early : Bool) (m : Ref) (at : ℕ) → s.asked ≡ Some (record { pid = p; stage = Until m at })
        → MatchBool early ((next ≡ WaitUntil (Pick.DownOf m) at) × (t ≡ s) × (e ≡ d)) (TellsToEnd me p Reason.Kill (Killed m) s d next t e) → Asks
    over_asks true m at asked h = same_asks s.asked asks d.shard refl (ap (λ (y : DeskState). y.shard) h.2) (ap (λ (y : Standing). y.asked) h.1)
    over_asks false m at asked h = kill_asks (Until m at) m asked refl h

    pub ends_asks : (stage : Option Stage) → stage_of s.asked p ≡ stage → EndsChild me now p shutdown stage s d next t e → Asks
    ends_asks None at h = after_asks h.result h.mid (watched_as me p (knows d.shard p) d h.mid h.result h.monitor) h.goes
    ends_asks (Some Gone) at h = after_asks h.result h.mid (watched_as me p (knows d.shard p) d h.mid h.result h.monitor) h.goes
    ends_asks (Some (Watched m)) at h = bid_asks (Watched m) m (stage_at s.asked p (Watched m) at) refl h
    ends_asks (Some (Waiting m)) at h = bid_asks (Waiting m) m (stage_at s.asked p (Waiting m) at) refl h
    ends_asks (Some (Until m t)) at h = over_asks (nat_lt now t) m t (stage_at s.asked p (Until m t) at) h
    ends_asks (Some (Killed m)) at h = kill_asks (Killed m) m (stage_at s.asked p (Killed m) at) refl h
