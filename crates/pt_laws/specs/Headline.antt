-- The headline: what holds of the mailboxes of all desks where their journals are local and their lanes agree. It asks
-- for no merge.
use Rattle.std.specs.Prelude.{◌≡◌, ℕ, ◌+◌, ◌≤◌, not, List, ◌++◌, map}
use Rattle.pt_signal.specs.declared.pid.Pid.{Pid}
use Rattle.pt_signal.specs.declared.ids.Ref.{Ref}
use Rattle.pt_signal.specs.declared.reason.Reason.{Reason}
use Rattle.pt_signal.specs.declared.letter.Letter.{Letter}
use Rattle.pt_signal.specs.Process.{ProcessState}
use Rattle.pt_events.specs.History.{Past, Start, ended, at_start, life, state, arrived, is_unborn}
use Rattle.pt_events.specs.Journal.{Journals, LanesAgree, IsLocal, events}
use Rattle.pt_events.specs.Counting.{one_if}
use Rattle.pt_laws.specs.BirthsAndEnds.{births}
use Rattle.pt_laws.specs.Sender.{IsSenderFront}
use Rattle.pt_events.specs.OldRefs.{HasOldRefs}
use Rattle.pt_laws.specs.MonitorLaws.{demonitors_and_downs}
use Rattle.pt_events.specs.Takes.{taken}
use Rattle.pt_laws.specs.Taken.{take_places, AllArrivals, AllDistinct, free_of}

module _ (start : Start) (journal : Journals) (over : ℕ → ℕ → List Letter) where
  -- the history of p's own desk
  abbrev pub at_home : Pid → Past
  at_home p = events (journal p.shard)

  pub record IsHeadline : Type 0 where
    -- a's messages to p, in order and each once: those that came before p's birth, those that arrived, those that came
    -- after its end, those left over
    pub front : (a p : Pid) → IsSenderFront a p start journal (over a.shard p.shard)
    -- a pid is born once, before the start or since
    pub born_once : (p : Pid) → births (at_home p) p + one_if (not (is_unborn (at_start start p))) ≤ 1
    -- nothing enters after the end
    pub closed : (p : Pid) (later past : Past) (r : Reason) (s : ProcessState) → at_home p ≡ later ++ past
        → life start past p ≡ ended r s → arrived start (at_home p) p ≡ arrived start past p
    -- taken and waiting together are the arrivals: each take took the arrival at one position, no two at the same; the
    -- others wait, in order
    pub took : (p : Pid) → taken (at_home p) p ≡ map (λ e. e.1) (take_places start p (at_home p))
    pub took_arrivals : (p : Pid) → AllArrivals (arrived start (at_home p) p) (take_places start p (at_home p))
    pub took_once : (p : Pid) → AllDistinct (take_places start p (at_home p))
    pub waits : (p : Pid)
        → (state start (at_home p) p).waiting
        ≡ map (λ e. e.1) (free_of (take_places start p (at_home p)) (arrived start (at_home p) p))
    -- at most one DOWN of a monitor, and none where it was demonitored
    pub one_down : (w : Pid) (m : Ref) → demonitors_and_downs start (at_home w) w m ≤ 1

abbrev pub HeadlineHolds : Type 0
HeadlineHolds =
    (start : Start) (low top : ℕ) (journal : Journals) (over : ℕ → ℕ → List Letter) → HasOldRefs low start
    → ((d : ℕ) → IsLocal start low top d (journal d)) → LanesAgree start journal over → IsHeadline start journal over
