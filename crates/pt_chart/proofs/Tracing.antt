-- A process is followed as the history says: its state, what it has sent, and its end.
use Rattle.std.proofs.Common.{◌≡◌, ℕ, ◌+◌, ◌<◌, ◌≤◌, Bool, true, false, cond, ◌||◌, List, [], ◌∷◌, ◌++◌, map, length, take, get_or, Option, Some, None, refl, ap, sym, ◌∙◌, subst, append_assoc}
use Rattle.std.proofs.lemmas.List.{take_all}
use Rattle.pt_signal.specs.declared.pid.Pid.{Pid}
use Rattle.pt_signal.specs.declared.ids.LinkId.{LinkId}
use Rattle.pt_signal.specs.declared.reason.Reason.{Reason}
use Rattle.pt_signal.specs.declared.signal.Signal.{Signal}
use Rattle.pt_signal.specs.Values.{same_pid, fits, without_first}
use Rattle.pt_signal.specs.Process.{ProcessState, Sent, handle, say, sent}
use Rattle.pt_signal.proofs.Same.{same_pid_is}
use Rattle.pt_events.specs.declared.event.Event.{Event}
use Rattle.pt_events.specs.declared.event.Event.TheVariants.{Born, Said, Came, Took, Flag, Left}
use Rattle.pt_events.specs.History as history
use Rattle.pt_events.specs.History.{Past, Phase, unborn, living, ended, life, after, touches, sent_by, linked, is_the, newborn, while_living, live_or_end, leaves, got_sends, left_sends}
use Rattle.pt_events.specs.declared.event.Stamped.{Stamped}
use Rattle.pt_chart.specs.declared.layout.Sending.{Sending}
use Rattle.pt_chart.specs.Following.{Followed, followed, live_state, lives_on, gets_followed, begins_followed, changes, seen_followed, sends_followed, ends_followed, got_sent, left_sent, OpensAnew, noted}
use Rattle.pt_chart.specs.Chart.{sent_of, end_of, end_between, sent_at, past_of, MonitorsAnew}
use Rattle.pt_chart.proofs.Rows.{past_more}

-- the state ------------------------------------------------------------------------------------------

stepped : (p : Pid) (step : ProcessState → ProcessState) (t : Bool) (f : Phase) → followed p (cond t (while_living step f) f) ≡ cond t (changes step (followed p f)) (followed p f)
stepped p step true unborn = refl
stepped p step true (living s) = refl
stepped p step true (ended r s) = refl
stepped p step false f = refl

born : (p q : Pid) (parent : Option Pid) (link : Option LinkId) (t u : Bool) (f : Phase)
    → followed p (cond (t || u) (cond t (newborn parent link f) (while_living (linked (Some q) link) f)) f) ≡ cond t (begins_followed parent link (followed p f)) (cond u (changes (linked (Some q) link) (followed p f)) (followed p f))
born p q parent link true u unborn = refl
born p q parent link true u (living s) = refl
born p q parent link true u (ended r s) = refl
born p q parent link false true unborn = refl
born p q parent link false true (living s) = refl
born p q parent link false true (ended r s) = refl
born p q parent link false false f = refl

lived : (p : Pid) (ending : Option Reason) (s : ProcessState) → followed p (live_or_end ending s) ≡ record { me = p; born = true; state = lives_on ending s }
lived p None s = refl
lived p (Some r) s = refl

got : (p a : Pid) (x : Signal) (t : Bool) (f : Phase) → followed p (cond t (history.gets p a x f) f) ≡ cond t (record (followed p f) { state = gets_followed p a x (live_state f) }) (followed p f)
got p a x true unborn = refl
got p a x true (living s) = let h = handle p s a x in lived p h.ending h.state
got p a x true (ended r s) = refl
got p a x false f = refl

left : (p : Pid) (r : Reason) (t : Bool) (f : Phase) → followed p (cond t (leaves r f) f) ≡ cond t (record (followed p f) { state = None }) (followed p f)
left p r true unborn = refl
left p r true (living s) = refl
left p r true (ended q s) = refl
left p r false f = refl

seen_after : (p : Pid) (e : Event) (f : Phase) → followed p (after p e f) ≡ seen_followed e (followed p f)
seen_after p (Born q parent link) f = born p q parent link (same_pid p q) (is_the p parent) f
seen_after p (Said a b x) f = stepped p (λ s. say s b x) (same_pid p a) f
seen_after p (Came a b x) f = got p a x (same_pid p b) f
seen_after p (Took q k i) f = stepped p (λ s. record s { waiting = without_first (fits k) s.waiting }) (same_pid p q) f
seen_after p (Flag q on) f = stepped p (λ s. record s { traps = on }) (same_pid p q) f
seen_after p (Left q r) f = left p r (same_pid p q) f
seen_after p _ f = refl

-- what it sends ----------------------------------------------------------------------------------------

either_way : {X : Type 0} (t : Bool) (x : X) → cond t x x ≡ x
either_way true x = refl
either_way false x = refl

-- where the test says that it is p, it is p
own : (p q : Pid) (t : Bool) → same_pid p q ≡ t → (f : Pid → List Sent) → cond t (f q) [] ≡ cond t (f p) []
own p q true h f = ap f (sym (same_pid_is p q h))
own p q false h f = refl

got_phase : (p a : Pid) (x : Signal) (f : Phase) → got_sends f p a x ≡ got_sent p a x (live_state f)
got_phase p a x unborn = refl
got_phase p a x (living s) = refl
got_phase p a x (ended r s) = refl

left_phase : (p : Pid) (r : Reason) (f : Phase) → left_sends f p r ≡ left_sent p r (live_state f)
left_phase p r unborn = refl
left_phase p r (living s) = refl
left_phase p r (ended q s) = refl

pub sends_own : (past : Past) (p : Pid) (e : Event) → cond (touches p e) (sent_by [] past e) [] ≡ sends_followed e (followed p (life [] past p))
sends_own past p (Born q parent link) = either_way (touches p (Born q parent link)) []
sends_own past p (Said a b x) = own p a (same_pid p a) refl (λ q. sent q b x ∷ [])
sends_own past p (Came a b x) =
    own p b (same_pid p b) refl (λ q. got_sends (life [] past q) q a x) ∙ ap (λ z. cond (same_pid p b) z []) (got_phase p a x (life [] past p))
sends_own past p (Took q k i) = either_way (same_pid p q) []
sends_own past p (Flag q on) = either_way (same_pid p q) []
sends_own past p (Left q r) =
    own p q (same_pid p q) refl (λ z. left_sends (life [] past z) z r) ∙ ap (λ z. cond (same_pid p q) z []) (left_phase p r (life [] past p))
sends_own past p _ = refl

-- its end ------------------------------------------------------------------------------------------------

still : (s t : ProcessState) (b : Bool) (row : ℕ) (before : Option (ℕ × Reason)) → end_between (living s) (cond b (living t) (living s)) row before ≡ before
still s t true row before = refl
still s t false row before = refl

got_ended : (s t : ProcessState) (ending : Option Reason) (row : ℕ) (before : Option (ℕ × Reason)) → end_between (living s) (live_or_end ending t) row before ≡ noted row ending before
got_ended s t None row before = refl
got_ended s t (Some r) row before = refl

by_test : (s : ProcessState) (b : Bool) (g : Phase) (r : Option Reason) (row : ℕ) (before : Option (ℕ × Reason)) → end_between (living s) g row before ≡ noted row r before
    → end_between (living s) (cond b g (living s)) row before ≡ noted row (cond b r None) before
by_test s true g r row before h = h
by_test s false g r row before h = refl

none_noted : (b : Bool) (row : ℕ) (before : Option (ℕ × Reason)) → before ≡ noted row (cond b None None) before
none_noted true row before = refl
none_noted false row before = refl

birth : (s t : ProcessState) (b u : Bool) (row : ℕ) (before : Option (ℕ × Reason)) → end_between (living s) (cond (b || u) (cond b (living s) (living t)) (living s)) row before ≡ before
birth s t true u row before = refl
birth s t false true row before = refl
birth s t false false row before = refl

ends_live : (p : Pid) (e : Event) (s : ProcessState) (row : ℕ) (before : Option (ℕ × Reason)) → end_between (living s) (after p e (living s)) row before ≡ noted row (ends_followed e (followed p (living s))) before
ends_live p (Born q parent link) s row before = birth s (linked (Some q) link s) (same_pid p q) (is_the p parent) row before
ends_live p (Said a b x) s row before = still s (say s b x) (same_pid p a) row before
ends_live p (Came a b x) s row before =
    let h = handle p s a x in by_test s (same_pid p b) (live_or_end h.ending h.state) h.ending row before (got_ended s h.state h.ending row before)
ends_live p (Took q k i) s row before = still s (record s { waiting = without_first (fits k) s.waiting }) (same_pid p q) row before
ends_live p (Flag q on) s row before = still s (record s { traps = on }) (same_pid p q) row before
ends_live p (Left q r) s row before = by_test s (same_pid p q) (ended r s) (Some r) row before refl
ends_live p _ s row before = refl

not_live : (p : Pid) (e : Event) (row : ℕ) (before : Option (ℕ × Reason)) (b : Bool) → before ≡ noted row (ends_followed e (record { me = p; born = b; state = None })) before
not_live p (Came a c x) row before b = none_noted (same_pid p c) row before
not_live p (Left q r) row before b = none_noted (same_pid p q) row before
not_live p _ row before b = refl

pub ends_after : (p : Pid) (e : Event) (f : Phase) (row : ℕ) (before : Option (ℕ × Reason)) → end_between f (after p e f) row before ≡ noted row (ends_followed e (followed p f)) before
ends_after p e unborn row before = not_live p e row before false
ends_after p e (living s) row before = ends_live p e s row before
ends_after p e (ended r s) row before = not_live p e row before true

-- all of it ------------------------------------------------------------------------------------------------

-- what was followed of p is what the history says; what it sends stands behind these letters
pub record Traces (past : Past) (p : Pid) (w : Followed) (start letters : List Sending) (over : Option (ℕ × Reason)) : Type 0 where
  pub state : w ≡ followed p (life [] past p)
  pub sent : letters ≡ start ++ sent_of past p
  pub end : over ≡ end_of past p

pub trace_next : (past : Past) (p : Pid) (e : Event) (w w' : Followed) (start sent sent' : List Sending) (end end' : Option (ℕ × Reason)) (row : ℕ)
    → length past ≡ row → Traces past p w start sent end → OpensAnew e (followed p (life [] past p)) → (OpensAnew e w → w' ≡ seen_followed e w) → sent' ≡ sent ++ map (sent_at row) (sends_followed e w) → end' ≡ noted row (ends_followed e w) end
    → Traces (e ∷ past) p w' start sent' end'
trace_next past p e w w' start sent sent' end end' row n t anew saw said finished = record {
  state = saw (subst (OpensAnew e) (sym t.state) anew) ∙ ap (seen_followed e) t.state ∙ sym (seen_after p e (life [] past p));
  sent =
      said ∙ ap (λ z. z ++ map (sent_at row) (sends_followed e w)) t.sent
      ∙ append_assoc start (sent_of past p) (map (sent_at row) (sends_followed e w))
      ∙ ap (λ z. start ++ (sent_of past p ++ map (sent_at row) z)) (ap (sends_followed e) t.state ∙ sym (sends_own past p e))
      ∙ ap (λ k. start ++ (sent_of past p ++ map (sent_at k) (cond (touches p e) (sent_by [] past e) []))) (sym n);
  end =
      finished ∙ ap (λ z. noted row (ends_followed e z) end) t.state ∙ ap (noted row (ends_followed e (followed p (life [] past p)))) t.end
      ∙ sym (ends_after p e (life [] past p) row (end_of past p))
      ∙ ap (λ k. end_between (life [] past p) (life [] (e ∷ past) p) k (end_of past p)) (sym n);
}

-- the same from the events before a row to those before the next one
pub trace_row : (events : List Stamped) (i : ℕ) (d : Stamped) (p : Pid) (w w' : Followed) (start letters letters' : List Sending) (over over' : Option (ℕ × Reason)) (reason : Option Reason)
    → i < length events → length (past_of (take i events)) ≡ i → (MonitorsAnew (past_of (take i events)) p → Traces (past_of (take i events)) p w start letters over)
    → (OpensAnew (get_or events i d).event w → w' ≡ seen_followed (get_or events i d).event w) → letters' ≡ letters ++ map (sent_at i) (sends_followed (get_or events i d).event w)
    → over' ≡ noted i reason over → reason ≡ ends_followed (get_or events i d).event w
    → MonitorsAnew (past_of (take (i + 1) events)) p → Traces (past_of (take (i + 1) events)) p w' start letters' over'
trace_row events i d p w w' start letters letters' over over' reason h rows before saw said finished why anew =
    let more = past_more events i d h in
    let both : OpensAnew (get_or events i d).event (followed p (life [] (past_of (take i events)) p)) × MonitorsAnew (past_of (take i events)) p = subst (λ (past : Past). MonitorsAnew past p) more anew in
    subst (λ (past : Past). Traces past p w' start letters' over') (sym more)
    (trace_next (past_of (take i events)) p (get_or events i d).event w w' start letters letters' over over' i rows (before both.1) both.0 saw said (finished ∙ ap (λ r. noted i r over) why))

-- and behind the last row all of it
pub traced : (events : List Stamped) (i : ℕ) (p : Pid) (w : Followed) (start letters : List Sending) (over : Option (ℕ × Reason))
    → length events ≤ i → (MonitorsAnew (past_of (take i events)) p → Traces (past_of (take i events)) p w start letters over)
    → MonitorsAnew (past_of events) p → Traces (past_of events) p w start letters over
traced events i p w start letters over h before anew =
    let all : take i events ≡ events = take_all i events h in
    subst (λ es. Traces (past_of es) p w start letters over) all (before (subst (λ es. MonitorsAnew (past_of es) p) (sym all) anew))
