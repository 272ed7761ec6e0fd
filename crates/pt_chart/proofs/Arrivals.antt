-- The receipts between two processes, from an event on.
use Rattle.std.proofs.Common.{◌≡◌, ℕ, zero, suc, ◌+◌, ◌<◌, ◌≤◌, Bool, true, false, cond, List, [], ◌∷◌, ◌++◌, length, take, drop, get_or, refl, ap, sym, subst, ◌∙◌, add-one, append_assoc, append-nil}
use Rattle.std.specs.Prelude.{slice_get}
use Rattle.std.proofs.Math.Seq.{drop-cons}
use Rattle.std.proofs.lemmas.Bool.{both_ways}
use Rattle.std.proofs.lemmas.List.{drop_all, drop-drop}
use Rattle.std.proofs.lemmas.List.Sums.{count_by_more_yes, count_by_more_no}
use Rattle.pt_signal.specs.declared.pid.Pid.{Pid}
use Rattle.pt_signal.specs.Values.{same_pid}
use Rattle.pt_signal.proofs.Same.{same_pid_is, same_pid_refl}
use Rattle.pt_events.specs.declared.event.Stamped.{Stamped}
use Rattle.pt_chart.specs.declared.layout.Sending.{Sending}
use Rattle.pt_chart.specs.Chart.{is_receipt, receipts, receipts_from, sent_to}
use Rattle.pt_chart.specs.Receiving.{QueuedRows, rows_queued, RowIsQueued, IsQueuedBy, Awaits}

at_event : (a b : Pid) (events : List Stamped) (at : ℕ) (d : Stamped) → at < length events
    → receipts_from at a b (drop at events)
    ≡ cond (is_receipt a b (get_or events at d).event) (at ∷ receipts_from (at + 1) a b (drop (at + 1) events)) (receipts_from (at + 1) a b (drop (at + 1) events))
at_event a b events at d h =
    ap (receipts_from at a b) (drop-cons events at d h)
    ∙ ap (λ k. cond (is_receipt a b (get_or events at d).event) (at ∷ receipts_from (at + 1) a b (drop k events)) (receipts_from (at + 1) a b (drop k events))) (sym (add-one at))

-- what is queued, and the receipts from an event on, are all receipts
abbrev pub Queues : Pid → List Stamped → ℕ → QueuedRows → Type 0
Queues a events at queued = (q : Pid) → rows_queued queued q ++ receipts_from at a q (drop at events) ≡ receipts a q events

pub queues_next : (a : Pid) (events : List Stamped) (at : ℕ) (d : Stamped) (old new : QueuedRows) → at < length events → Queues a events at old
    → IsQueuedBy (λ q. cond (is_receipt a q (get_or events at d).event) (at ∷ []) []) old new → Queues a events (at + 1) new
queues_next a events at d old new h before more q =
    ap (λ z. z ++ receipts_from (at + 1) a q (drop (at + 1) events)) (more q)
    ∙ by (is_receipt a q (get_or events at d).event) (receipts_from (at + 1) a q (drop (at + 1) events))
    ∙ ap (λ z. rows_queued old q ++ z) (sym (at_event a q events at d h)) ∙ before q
  where
    by : (t : Bool) (rest : List ℕ) → (rows_queued old q ++ cond t (at ∷ []) []) ++ rest ≡ rows_queued old q ++ cond t (at ∷ rest) rest
    by true rest = append_assoc (rows_queued old q) (at ∷ []) rest
    by false rest = ap (λ z. z ++ rest) (append-nil (rows_queued old q))

pub queues_all : (a : Pid) (events : List Stamped) (at : ℕ) (queued : QueuedRows) → length events ≤ at → Queues a events at queued → Awaits events a [] queued
queues_all a events at queued h are q =
    sym (append-nil (rows_queued queued q)) ∙ ap (λ es. rows_queued queued q ++ receipts_from at a q es) (sym (drop_all at events h)) ∙ are q

pub same_pid_turned : (p q : Pid) → same_pid p q ≡ same_pid q p
same_pid_turned p q = go (same_pid p q) refl (same_pid q p) refl
  where
    go : (c : Bool) → same_pid p q ≡ c → (d : Bool) → same_pid q p ≡ d → same_pid p q ≡ same_pid q p
    go true e true f = e ∙ sym f
    go false e false f = e ∙ sym f
    go true e false f = absurd (both_ways (same_pid q p) f (subst (λ z. same_pid z p ≡ true) (same_pid_is p q e) (same_pid_refl p)))
    go false e true f = absurd (both_ways (same_pid p q) e (subst (λ z. same_pid z q ≡ true) (same_pid_is q p f) (same_pid_refl q)))

-- the first that is left
pub first_left : {X : Type 0} (xs : List X) (n : ℕ) → slice_get (drop n xs) 0 ≡ slice_get xs n
first_left [] zero = refl
first_left [] (suc n) = refl
first_left (x ∷ xs) zero = refl
first_left (x ∷ xs) (suc n) = first_left xs n

-- a letter more has its event
pub awaits_next : (events : List Stamped) (a : Pid) (sent : List Sending) (k : ℕ) (d : Sending) (old new : QueuedRows) → k < length sent → Awaits events a (take k sent) old
    → RowIsQueued (get_or sent k d).to (drop 1 (rows_queued old (get_or sent k d).to)) old new → Awaits events a (take (k + 1) sent) new
awaits_next events a sent k d old new h before popped q = popped q ∙ by (same_pid q (get_or sent k d).to) refl
  where
    by : (t : Bool) → same_pid q (get_or sent k d).to ≡ t
        → cond (same_pid (get_or sent k d).to q) (drop 1 (rows_queued old (get_or sent k d).to)) (rows_queued old q) ≡ drop (sent_to q (take (k + 1) sent)) (receipts a q events)
    by true e =
        let turned : same_pid (get_or sent k d).to q ≡ true = same_pid_turned (get_or sent k d).to q ∙ e in
        rw turned
        (ap (λ z. drop 1 (rows_queued old z)) (sym (same_pid_is q (get_or sent k d).to e))
        ∙ ap (drop 1) (before q)
        ∙ drop-drop 1 (sent_to q (take k sent)) (receipts a q events)
        ∙ ap (λ n. drop n (receipts a q events)) (sym (count_by_more_yes (λ (l : Sending). same_pid q l.to) sent k d h e)))
    by false e =
        let turned : same_pid (get_or sent k d).to q ≡ false = same_pid_turned (get_or sent k d).to q ∙ e in
        rw turned
        (before q ∙ ap (λ n. drop n (receipts a q events)) (sym (count_by_more_no (λ (l : Sending). same_pid q l.to) sent k d h e)))
