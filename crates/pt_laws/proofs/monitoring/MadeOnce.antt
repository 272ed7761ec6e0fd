-- The references that a journal makes are new, so each is made once.
use Rattle.std.proofs.Common.{◌≡◌, ℕ, ◌≤◌, ◌<◌, ◌&&◌, Bool, true, false, leb, ◌⊎◌, inl, inr, List, [], ◌∷◌, refl, ap, ◌∙◌, arith}
use Rattle.std.proofs.lemmas.Bool.{false≢true, and_parts}
use Rattle.std.proofs.lemmas.Bool.Decides.{leb_tells}
use Rattle.pt_signal.specs.declared.pid.Pid.{Pid}
use Rattle.pt_signal.specs.declared.ids.Ref.{Ref}
use Rattle.pt_signal.specs.declared.signal.Signal.{Signal}
use Rattle.pt_signal.specs.declared.signal.Signal.TheVariants.{Monitor}
use Rattle.pt_signal.specs.Values.{same_pid}
use Rattle.pt_events.specs.declared.event.Event.{Event}
use Rattle.pt_events.specs.declared.event.Event.TheVariants.{Said}
use Rattle.pt_events.specs.declared.event.Stamped.{Stamped}
use Rattle.pt_events.specs.History.{Start}
use Rattle.pt_events.specs.Journal.{IsLocal, IsNewAt, clock, events}
use Rattle.pt_events.specs.Counting.{one_if}
use Rattle.pt_laws.specs.Watch.{is_monitor, says, said_times}
use Rattle.pt_events.specs.OldRefs.{HasOldRefs}
use Rattle.pt_laws.specs.MonitorLaws.{IsMadeOnce}
use Rattle.pt_signal.proofs.Same.{same_ref_is}
use Rattle.pt_events.proofs.Orders.{clock_above}
use Rattle.pt_laws.proofs.living.Acts.{local_acts}
use Rattle.pt_laws.proofs.monitoring.Monitors.{said_once}

module _ (w : Pid) (m : Ref) where
  -- an event that makes m has the number of m as its stamp
  says_other : (d n : ℕ) (e : Event) → IsNewAt d n e → (m.number ≡ n → ⊥) → says w (is_monitor m) e ≡ 0
  says_other d n (Said a b x) h l = go (same_pid w a && is_monitor m x) refl
    where
      number : (x : Signal) → IsNewAt d n (Said a b x) → is_monitor m x ≡ true → m.number ≡ n
      number (Monitor k) h e = ap (λ z. z.number) (same_ref_is m k e) ∙ h.1
      number _ h e = absurd (false≢true e)

      go : (c : Bool) → (same_pid w a && is_monitor m x) ≡ c → one_if (same_pid w a && is_monitor m x) ≡ 0
      go true e = absurd (l (number x h (and_parts (same_pid w a) (is_monitor m x) e).1))
      go false e = rw e refl
  says_other d n _ h k = refl

  said_new : (start : Start) (low top d : ℕ) (journal : List Stamped) → IsLocal start low top d journal → m.number ≤ low → said_times w (is_monitor m) (events journal) ≡ 0
  said_new start low top d [] h k = refl
  said_new start low top d (s ∷ journal) h k =
      let ih = said_new start low top d journal h.1 k in
      let c = clock_above start low top d journal h.1 in
      let l = h.0.later in
      let n = says_other d s.stamp s.event h.0.new_at (λ e. absurd (omega arith)) in
      omega arith

-- nor one above the clock
module _ (w : Pid) (m : Ref) where
  pub said_under : (start : Start) (low top d : ℕ) (journal : List Stamped) → IsLocal start low top d journal → clock low journal < m.number → said_times w (is_monitor m) (events journal) ≡ 0
  said_under start low top d [] h k = refl
  said_under start low top d (s ∷ journal) h k =
      let l = h.0.later in
      let ih = said_under start low top d journal h.1 (omega arith) in
      let n = says_other w m d s.stamp s.event h.0.new_at (λ e. absurd (omega arith)) in
      omega arith

pub made_once_local : (start : Start) (low top d : ℕ) (journal : List Stamped) (w : Pid) (m : Ref) → HasOldRefs low start → IsLocal start low top d journal → IsMadeOnce start (events journal) w m
made_once_local start low top d journal w m old h = go (leb_tells m.number low)
  where
    go : ((leb m.number low ≡ true) × (m.number ≤ low)) ⊎ ((leb m.number low ≡ false) × (low < m.number)) → IsMadeOnce start (events journal) w m
    go (inl l) = let k = (old w m).0 in let n = said_new w m start low top d journal h l.1 in omega arith
    go (inr g) = let k = (old w m).1 g.1 in let o = said_once m w start (events journal) (local_acts start low top d journal h) in omega arith
