-- The events that name a process: an event that does not name it changes nothing of it, so those that do are all that it
-- takes.
use Rattle.std.proofs.Common.{◌≡◌, ℕ, zero, suc, ◌+◌, ◌-◌, ◌<◌, ◌≤◌, Bool, true, false, cond, ◌||◌, List, [], ◌∷◌, ◌++◌, length, map, take, drop, get_or, Option, Some, None, refl, ap, sym, subst, ◌∙◌, add-one, append_assoc, append-nil, below_more, lt-ltb, le-ltb, arith}
use Rattle.std.specs.Prelude.{position, nat_lt}
use Rattle.std.specs.List.{list_any}
use Rattle.std.proofs.Math.Seq.{drop-cons}
use Rattle.std.proofs.lemmas.Bool.{both_ways}
use Rattle.std.proofs.lemmas.List.{drop_all}
use Rattle.std.proofs.lemmas.List.Sums.{position_or_len_is}
use Rattle.pt_signal.specs.declared.pid.Pid.{Pid}
use Rattle.pt_signal.specs.declared.reason.Reason.{Reason}
use Rattle.pt_signal.specs.Values.{same_pid}
use Rattle.pt_signal.proofs.Same.{same_pid_is}
use Rattle.pt_events.specs.declared.event.Event.{Event}
use Rattle.pt_events.specs.declared.event.Event.TheVariants.{Born, Said, Came, Took, Flag, Left, Refused}
use Rattle.pt_events.specs.declared.event.Stamped.{Stamped}
use Rattle.pt_events.specs.History.{Past, Phase, unborn, living, ended, life, touches, sent_by, is_birth}
use Rattle.pt_events.proofs.Steps.{untouched}
use Rattle.pt_chart.specs.declared.layout.Sending.{Sending}
use Rattle.pt_chart.specs.Following.{Followed, followed, seen_followed, sends_followed, ends_followed, OpensAnew, noted}
use Rattle.pt_chart.specs.Chart.{past_of, sent_of, sent_at, end_of, end_between, is_receipt, MonitorsAnew}
use Rattle.pt_chart.specs.Mentioning.{is_mentioned, mentions_from, mentions, AreMentions}
use Rattle.pt_chart.specs.Receiving.{QueuedRows, rows_queued, RowIsQueued, IsQueuedBy}
use Rattle.pt_chart.proofs.Tracing.{Traces, trace_row, traced}
use Rattle.pt_chart.proofs.Rows.{past_more, past_rows}
use Rattle.pt_chart.proofs.Arrivals.{Queues, queues_next, same_pid_turned}

-- the index -------------------------------------------------------------------------------------------

at_event : (p : Pid) (events : List Stamped) (at : ℕ) (d : Stamped) → at < length events
    → mentions_from at p (drop at events) ≡ cond (is_mentioned p (get_or events at d).event) (at ∷ mentions_from (at + 1) p (drop (at + 1) events)) (mentions_from (at + 1) p (drop (at + 1) events))
at_event p events at d h =
    ap (mentions_from at p) (drop-cons events at d h)
    ∙ ap (λ k. cond (is_mentioned p (get_or events at d).event) (at ∷ mentions_from (at + 1) p (drop k events)) (mentions_from (at + 1) p (drop k events))) (sym (add-one at))

-- what is noted, and the mentions from an event on, are all mentions
abbrev pub Notices : List Stamped → ℕ → QueuedRows → Type 0
Notices events at queued = (p : Pid) → rows_queued queued p ++ mentions_from at p (drop at events) ≡ mentions p events

pub notices_next : (events : List Stamped) (at : ℕ) (d : Stamped) (old new : QueuedRows) → at < length events → Notices events at old
    → IsQueuedBy (λ q. cond (is_mentioned q (get_or events at d).event) (at ∷ []) []) old new → Notices events (at + 1) new
notices_next events at d old new h before more p =
    ap (λ z. z ++ mentions_from (at + 1) p (drop (at + 1) events)) (more p)
    ∙ by (is_mentioned p (get_or events at d).event) (mentions_from (at + 1) p (drop (at + 1) events))
    ∙ ap (λ z. rows_queued old p ++ z) (sym (at_event p events at d h)) ∙ before p
  where
    by : (t : Bool) (rest : List ℕ) → (rows_queued old p ++ cond t (at ∷ []) []) ++ rest ≡ rows_queued old p ++ cond t (at ∷ rest) rest
    by true rest = append_assoc (rows_queued old p) (at ∷ []) rest
    by false rest = ap (λ z. z ++ rest) (append-nil (rows_queued old p))

pub notices_all : (events : List Stamped) (at : ℕ) (queued : QueuedRows) → length events ≤ at → Notices events at queued → AreMentions events queued
notices_all events at queued h are p =
    sym (append-nil (rows_queued queued p)) ∙ ap (λ es. rows_queued queued p ++ mentions_from at p es) (sym (drop_all at events h)) ∙ are p

-- one process, or two, have an event more
pub noted_one : (p : Pid) (at : ℕ) (old new : QueuedRows) → RowIsQueued p (rows_queued old p ++ at ∷ []) old new → IsQueuedBy (λ q. cond (list_any (same_pid q) (p ∷ [])) (at ∷ []) []) old new
noted_one p at old new is q = is q ∙ by (same_pid p q) refl
  where
    by : (t : Bool) → same_pid p q ≡ t → cond t (rows_queued old p ++ at ∷ []) (rows_queued old q) ≡ rows_queued old q ++ cond (list_any (same_pid q) (p ∷ [])) (at ∷ []) []
    by true e =
        let same : p ≡ q = same_pid_is p q e in
        let turned : same_pid q p ≡ true = same_pid_turned q p ∙ e in
        rw turned (ap (λ z. rows_queued old z ++ at ∷ []) same)
    by false e =
        let turned : same_pid q p ≡ false = same_pid_turned q p ∙ e in
        rw turned (sym (append-nil (rows_queued old q)))

pub noted_both : (p r : Pid) (at : ℕ) (old mid new : QueuedRows) → same_pid p r ≡ false → IsQueuedBy (λ q. cond (list_any (same_pid q) (p ∷ [])) (at ∷ []) []) old mid
    → IsQueuedBy (λ q. cond (list_any (same_pid q) (r ∷ [])) (at ∷ []) []) mid new → IsQueuedBy (λ q. cond (list_any (same_pid q) (p ∷ r ∷ [])) (at ∷ []) []) old new
noted_both p r at old mid new apart first second q =
    second q ∙ ap (λ z. z ++ cond (list_any (same_pid q) (r ∷ [])) (at ∷ []) []) (first q) ∙ by (same_pid q p) refl (same_pid q r) refl
  where
    by : (a : Bool) → same_pid q p ≡ a → (b : Bool) → same_pid q r ≡ b → (rows_queued old q ++ cond (same_pid q p || false) (at ∷ []) []) ++ cond (same_pid q r || false) (at ∷ []) [] ≡ rows_queued old q ++ cond (same_pid q p || (same_pid q r || false)) (at ∷ []) []
    by true e true f =
        let same : q ≡ p = same_pid_is q p e in
        absurd (both_ways (same_pid p r) apart (subst (λ z. same_pid z r ≡ true) same f))
    by true e false f = rw e (rw f (append-nil (rows_queued old q ++ at ∷ [])))
    by false e b f = rw e (ap (λ z. z ++ cond (same_pid q r || false) (at ∷ []) []) (append-nil (rows_queued old q)))

-- from one mention to the next ------------------------------------------------------------------------

-- the events before this one were seen, or do not name the process; of those from it on these are left
pub record Seen (p : Pid) (events : List Stamped) (left : List ℕ) (Holds : ℕ → Type 0) : Type 0 where
  pub at : ℕ
  pub within : at ≤ length events
  pub rest : mentions_from at p (drop at events) ≡ left
  pub holds : Holds at

-- the next event that names it
pub record Next (p : Pid) (events : List Stamped) (d : Stamped) (i : ℕ) (later : List ℕ) (Holds : ℕ → Type 0) : Type 0 where
  pub within : i < length events
  pub named : is_mentioned p (get_or events i d).event ≡ true
  pub rest : mentions_from (i + 1) p (drop (i + 1) events) ≡ later
  pub holds : Holds i

-- an event that does not name it leaves what holds
abbrev pub Stays : Pid → List Stamped → Stamped → (ℕ → Type 0) → Type 0
Stays p events d Holds = (i : ℕ) → i < length events → is_mentioned p (get_or events i d).event ≡ false → Holds i → Holds (i + 1)

module _ (p : Pid) (events : List Stamped) (d : Stamped) (Holds : ℕ → Type 0) (stays : Stays p events d Holds) where
  abbrev left : ℕ → List ℕ
  left at = mentions_from at p (drop at events)

  one : (at i : ℕ) (later : List ℕ) (t : Bool) → is_mentioned p (get_or events at d).event ≡ t → at < length events → cond t (at ∷ left (at + 1)) (left (at + 1)) ≡ i ∷ later → Holds at
      → (left (at + 1) ≡ i ∷ later → Holds (at + 1) → Next p events d i later Holds) → Next p events d i later Holds
  one at i later true e h is holds goes =
      let same : at ≡ i = cc in
      let behind : left (at + 1) ≡ later = cc in
      subst (λ j. Next p events d j later Holds) same (record { within = h; named = e; rest = behind; holds = holds })
  one at i later false e h is holds goes = goes is (stays at h e holds)

  skip : (n at i : ℕ) (later : List ℕ) → n + at ≡ length events → left at ≡ i ∷ later → Holds at → Next p events d i later Holds
  skip zero at i later e is holds =
      let none : left at ≡ [] = ap (mentions_from at p) (drop_all at events (omega (arith, e))) in
      let no : [] ≡ i ∷ later = sym none ∙ is in
      absurd (cc)
  skip (suc n) at i later e is holds =
      let h : at < length events = omega (arith, e) in
      one at i later (is_mentioned p (get_or events at d).event) refl h (sym (at_event p events at d h) ∙ is) holds (λ is' holds'. skip n (at + 1) i later (omega (arith, e)) is' holds')

  none_left : (at : ℕ) (t : Bool) → is_mentioned p (get_or events at d).event ≡ t → at < length events → cond t (at ∷ left (at + 1)) (left (at + 1)) ≡ [] → Holds at → (left (at + 1) ≡ []) × Holds (at + 1)
  none_left at true e h is holds = absurd (cc)
  none_left at false e h is holds = (is, stays at h e holds)

  to_end : (n at : ℕ) → n + at ≡ length events → left at ≡ [] → Holds at → Holds (length events)
  to_end zero at e is holds = let same : at ≡ length events = omega (arith, e) in subst Holds same holds
  to_end (suc n) at e is holds =
      let h : at < length events = omega (arith, e) in
      let k = none_left at (is_mentioned p (get_or events at d).event) refl h (sym (at_event p events at d h) ∙ is) holds in
      to_end n (at + 1) (omega (arith, e)) k.0 k.1

  pub seen_next : (own : List ℕ) (k : ℕ) → k < length own → Seen p events (drop k own) Holds → Next p events d (get_or own k 0) (drop (k + 1) own) Holds
  seen_next own k h s =
      skip (length events - s.at) s.at (get_or own k 0) (drop (k + 1) own) (omega (arith, s.within))
      (s.rest ∙ drop-cons own k 0 h ∙ ap (λ j. get_or own k 0 ∷ drop j own) (sym (add-one k))) s.holds

  pub seen_all : (own : List ℕ) (k : ℕ) → length own ≤ k → Seen p events (drop k own) Holds → Holds (length events)
  seen_all own k h s = to_end (length events - s.at) s.at (omega (arith, s.within)) (s.rest ∙ drop_all k own h) s.holds

pub seen_first : (p : Pid) (events : List Stamped) (own : List ℕ) (Holds : ℕ → Type 0) → own ≡ mentions p events → Holds 0 → Seen p events own Holds
seen_first p events own Holds is holds = record { at = 0; within = omega arith; rest = sym is; holds = holds }

pub seen_more : (p : Pid) (events : List Stamped) (d : Stamped) (i : ℕ) (later : List ℕ) (Holds Holds' : ℕ → Type 0) → Next p events d i later Holds → Holds' (i + 1) → Seen p events later Holds'
seen_more p events d i later Holds Holds' n holds = record { at = i + 1; within = let h = n.within in omega (arith, h); rest = n.rest; holds = holds }

-- a process that is followed --------------------------------------------------------------------------

or_left : (a b : Bool) → (a || b) ≡ false → a ≡ false
or_left true b h = absurd (cc)
or_left false b h = refl

or_right : (a b : Bool) → (a || b) ≡ false → b ≡ false
or_right true b h = absurd (cc)
or_right false b h = h

-- an event that does not name it does not touch it
pub unnamed_untouched : (p : Pid) (e : Event) → is_mentioned p e ≡ false → touches p e ≡ false
unnamed_untouched p (Born q None link) h = h
unnamed_untouched p (Born q (Some r) link) h = turned (same_pid p r) (same_pid p q) h
  where
    turned : (a b : Bool) → (a || (b || false)) ≡ false → (b || a) ≡ false
    turned true b k = absurd (cc)
    turned false true k = absurd (cc)
    turned false false k = refl
unnamed_untouched p (Said a b x) h = or_left (same_pid p a) (same_pid p b || false) h
unnamed_untouched p (Came a b x) h = or_left (same_pid p b) false (or_right (same_pid p a) (same_pid p b || false) h)
unnamed_untouched p (Took q k i) h = or_left (same_pid p q) false h
unnamed_untouched p (Flag q on) h = or_left (same_pid p q) false h
unnamed_untouched p (Left q r) h = or_left (same_pid p q) false h
unnamed_untouched p (Refused a b) h = refl

same_between : (f : Phase) (row : ℕ) (before : Option (ℕ × Reason)) → end_between f f row before ≡ before
same_between unborn row before = refl
same_between (living s) row before = refl
same_between (ended r s) row before = refl

-- so it leaves a follower as it is
pub traces_still : (past : Past) (p : Pid) (e : Event) (w : Followed) (start letters : List Sending) (over : Option (ℕ × Reason)) → is_mentioned p e ≡ false → Traces past p w start letters over → Traces (e ∷ past) p w start letters over
traces_still past p e w start letters over h t =
    let away : touches p e ≡ false = unnamed_untouched p e h in
    let same : life [] (e ∷ past) p ≡ life [] past p = untouched [] past e p away in
    record {
      state = t.state ∙ ap (followed p) (sym same);
      sent =
          t.sent ∙ ap (λ z. start ++ z) (sym (ap (λ b. sent_of past p ++ map (sent_at (length past)) (cond b (sent_by [] past e) [])) away ∙ append-nil (sent_of past p)));
      end =
          t.end ∙ sym (ap (λ f. end_between (life [] past p) f (length past) (end_of past p)) same ∙ same_between (life [] past p) (length past) (end_of past p));
    }

-- what was followed of p up to an event is what the history says
abbrev pub TracesTo : List Stamped → Pid → Followed → List Sending → List Sending → Option (ℕ × Reason) → ℕ → Type 0
TracesTo events p w start letters over at =
    (length (past_of (take at events)) ≡ at) × (MonitorsAnew (past_of (take at events)) p → Traces (past_of (take at events)) p w start letters over)

pub traces_stay : (events : List Stamped) (d : Stamped) (p : Pid) (w : Followed) (start letters : List Sending) (over : Option (ℕ × Reason)) → Stays p events d (TracesTo events p w start letters over)
traces_stay events d p w start letters over i h unnamed t = (
  past_rows events i d h t.0,
  λ anew.
      let more = past_more events i d h in
      let both : OpensAnew (get_or events i d).event (followed p (life [] (past_of (take i events)) p)) × MonitorsAnew (past_of (take i events)) p = subst (λ (past : Past). MonitorsAnew past p) more anew in
      subst (λ (past : Past). Traces past p w start letters over) (sym more)
      (traces_still (past_of (take i events)) p (get_or events i d).event w start letters over unnamed (t.1 both.1)),
)

pub trace_first : (events : List Stamped) (p : Pid) (w : Followed) (start : List Sending) → w ≡ followed p unborn → TracesTo events p w start start None 0
trace_first events p w start new = (refl, λ anew. record { state = new; sent = sym (append-nil start); end = refl })

module _ (events : List Stamped) (d : Stamped) (p : Pid) (own : List ℕ) (k : ℕ) (w : Followed) (start letters : List Sending) (over : Option (ℕ × Reason)) where
  pub trace_at : k < length own → Seen p events (drop k own) (TracesTo events p w start letters over) → Next p events d (get_or own k 0) (drop (k + 1) own) (TracesTo events p w start letters over)
  trace_at h s = seen_next p events d (TracesTo events p w start letters over) (traces_stay events d p w start letters over) own k h s

  -- its next event is played
  pub trace_own : (w' : Followed) (letters' : List Sending) (over' : Option (ℕ × Reason)) (reason : Option Reason) (e : Event)
      → k < length own → Seen p events (drop k own) (TracesTo events p w start letters over) → e ≡ (get_or events (get_or own k 0) d).event
      → (OpensAnew e w → w' ≡ seen_followed e w) → letters' ≡ letters ++ map (sent_at (get_or own k 0)) (sends_followed e w) → over' ≡ noted (get_or own k 0) reason over → reason ≡ ends_followed e w
      → Seen p events (drop (k + 1) own) (TracesTo events p w' start letters' over')
  trace_own w' letters' over' reason e h s is saw said finished why =
      let i = get_or own k 0 in
      let n = trace_at h s in
      seen_more p events d i (drop (k + 1) own) (TracesTo events p w start letters over) (TracesTo events p w' start letters' over') n (
        past_rows events i d n.within n.holds.0,
        trace_row events i d p w w' start letters letters' over over' reason n.within n.holds.0 n.holds.1
            (subst (λ z. OpensAnew z w → w' ≡ seen_followed z w) is saw) (said ∙ ap (λ z. letters ++ map (sent_at i) (sends_followed z w)) is) finished (why ∙ ap (λ z. ends_followed z w) is),
      )

  -- and behind its last event all of it
  pub trace_all : length own ≤ k → Seen p events (drop k own) (TracesTo events p w start letters over) → MonitorsAnew (past_of events) p → Traces (past_of events) p w start letters over
  trace_all h s =
      traced events (length events) p w start letters over (omega arith) (seen_all p events d (TracesTo events p w start letters over) (traces_stay events d p w start letters over) own k h s).1

-- its receipts ----------------------------------------------------------------------------------------

unnamed_receipt : (a b : Pid) (e : Event) → is_mentioned a e ≡ false → is_receipt a b e ≡ false
unnamed_receipt a b (Came c d x) h = let no = or_left (same_pid a c) (same_pid a d || false) h in rw no refl
unnamed_receipt a b _ h = refl

pub queues_stay : (a : Pid) (events : List Stamped) (d : Stamped) (queued : QueuedRows) → Stays a events d (λ at. Queues a events at queued)
queues_stay a events d queued i h unnamed are =
    queues_next a events i d queued queued h are
    (λ q. sym (ap (λ b. rows_queued queued q ++ cond b (i ∷ []) []) (unnamed_receipt a q (get_or events i d).event unnamed) ∙ append-nil (rows_queued queued q)))

module _ (a : Pid) (events : List Stamped) (d : Stamped) (own : List ℕ) (k : ℕ) (queued : QueuedRows) where
  pub receipt_at : k < length own → Seen a events (drop k own) (λ at. Queues a events at queued) → Next a events d (get_or own k 0) (drop (k + 1) own) (λ at. Queues a events at queued)
  receipt_at h s = seen_next a events d (λ at. Queues a events at queued) (queues_stay a events d queued) own k h s

  pub receipt_own : (queued' : QueuedRows) (e : Event) → k < length own → Seen a events (drop k own) (λ at. Queues a events at queued) → e ≡ (get_or events (get_or own k 0) d).event
      → IsQueuedBy (λ q. cond (is_receipt a q e) (get_or own k 0 ∷ []) []) queued queued' → Seen a events (drop (k + 1) own) (λ at. Queues a events at queued')
  receipt_own queued' e h s is more =
      let i = get_or own k 0 in
      let n = receipt_at h s in
      seen_more a events d i (drop (k + 1) own) (λ at. Queues a events at queued) (λ at. Queues a events at queued') n
      (queues_next a events i d queued queued' n.within n.holds (λ q. more q ∙ ap (λ z. rows_queued queued q ++ cond (is_receipt a q z) (i ∷ []) []) is))

  pub receipts_all : length own ≤ k → Seen a events (drop k own) (λ at. Queues a events at queued) → Queues a events (length events) queued
  receipts_all h s = seen_all a events d (λ at. Queues a events at queued) (queues_stay a events d queued) own k h s

-- its birth -------------------------------------------------------------------------------------------

-- none of the events before this one is its birth
abbrev pub Unborn : Pid → List Stamped → Stamped → ℕ → Type 0
Unborn p events d at = (k : ℕ) → k < at → is_birth p (get_or events k d).event ≡ false

unnamed_birth : (p : Pid) (e : Event) → is_mentioned p e ≡ false → is_birth p e ≡ false
unnamed_birth p (Born q None link) h = or_left (same_pid p q) false h
unnamed_birth p (Born q (Some r) link) h = or_left (same_pid p q) false (or_right (same_pid p r) (same_pid p q || false) h)
unnamed_birth p _ h = refl

pub unborn_more : (p : Pid) (events : List Stamped) (d : Stamped) (i : ℕ) → is_birth p (get_or events i d).event ≡ false → Unborn p events d i → Unborn p events d (i + 1)
unborn_more p events d i here before = below_more (λ k. is_birth p (get_or events k d).event ≡ false) i before here

pub unborn_stays : (p : Pid) (events : List Stamped) (d : Stamped) → Stays p events d (Unborn p events d)
unborn_stays p events d i h unnamed before = unborn_more p events d i (unnamed_birth p (get_or events i d).event unnamed) before

pub born_at : (p : Pid) (events : List Stamped) (d : Stamped) (i : ℕ) → i < length events → is_birth p (get_or events i d).event ≡ true → Unborn p events d i
    → Some i ≡ position (λ (s : Stamped). is_birth p s.event) events
born_at p events d i h here before =
    let place = position_or_len_is (λ (s : Stamped). is_birth p s.event) events i d (omega (arith, h)) before (λ k. here) in
    let inside : nat_lt i (length events) ≡ true = lt-ltb i (length events) h in
    sym (rw place (rw inside refl))

pub never_born : (p : Pid) (events : List Stamped) (d : Stamped) → Unborn p events d (length events) → None ≡ position (λ (s : Stamped). is_birth p s.event) events
never_born p events d before =
    let place = position_or_len_is (λ (s : Stamped). is_birth p s.event) events (length events) d (omega arith) before (λ k. absurd (omega (arith, k))) in
    let outside : nat_lt (length events) (length events) ≡ false = le-ltb (length events) (length events) (omega arith) in
    sym (rw place (rw outside refl))

module _ (p : Pid) (events : List Stamped) (d : Stamped) (own : List ℕ) (k : ℕ) where
  pub birth_at : k < length own → Seen p events (drop k own) (Unborn p events d) → Next p events d (get_or own k 0) (drop (k + 1) own) (Unborn p events d)
  birth_at h s = seen_next p events d (Unborn p events d) (unborn_stays p events d) own k h s

  pub birth_found : (e : Event) → k < length own → Seen p events (drop k own) (Unborn p events d) → e ≡ (get_or events (get_or own k 0) d).event → is_birth p e ≡ true
      → Some (get_or own k 0) ≡ position (λ (s : Stamped). is_birth p s.event) events
  birth_found e h s is here = let n = birth_at h s in born_at p events d (get_or own k 0) n.within (sym (ap (is_birth p) is) ∙ here) n.holds

  pub birth_next : (e : Event) → k < length own → Seen p events (drop k own) (Unborn p events d) → e ≡ (get_or events (get_or own k 0) d).event → is_birth p e ≡ false
      → Seen p events (drop (k + 1) own) (Unborn p events d)
  birth_next e h s is here =
      let n = birth_at h s in
      seen_more p events d (get_or own k 0) (drop (k + 1) own) (Unborn p events d) (Unborn p events d) n
      (unborn_more p events d (get_or own k 0) (sym (ap (is_birth p) is) ∙ here) n.holds)

  pub birth_none : length own ≤ k → Seen p events (drop k own) (Unborn p events d) → None ≡ position (λ (s : Stamped). is_birth p s.event) events
  birth_none h s = never_born p events d (seen_all p events d (Unborn p events d) (unborn_stays p events d) own k h s)
