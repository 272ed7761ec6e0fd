-- Asking whether a process is alive.
use Rattle.std.specs.Prelude.{◌≡◌, Bool, true, false, ◌&&◌, ◌∷◌, ◌++◌, Contains}
use Rattle.pt_signal.specs.declared.pid.Pid.{Pid}
use Rattle.pt_signal.specs.declared.ids.Ref.{Ref}
use Rattle.pt_signal.specs.declared.item.Item.{Item}
use Rattle.pt_signal.specs.declared.signal.Signal.{Signal}
use Rattle.pt_signal.specs.declared.signal.Signal.TheVariants.{AliveAsk}
use Rattle.pt_signal.specs.Values.{same_pid, same_ref}
use Rattle.pt_events.specs.declared.event.Event.TheVariants.{Said, Came}
use Rattle.pt_events.specs.History.{Past, Start, IsLegal, alive, arrived_since, emitted, came}
use Rattle.pt_laws.specs.Load.{IsQuiet}
use Rattle.pt_events.specs.Counting.{count}
use Rattle.pt_laws.specs.Watch.{said_to}

-- q's question m came to t; x says whether t was alive just before; and what had come from q to t by then is all that q
-- had sent t when it asked
pub record IsAnswer (start : Start) (past : Past) (q t : Pid) (m : Ref) (x : Bool) : Type 0 where
  pub later : Past
  pub between : Past
  pub earlier : Past
  pub asked : past ≡ later ++ Came q t (AliveAsk m) ∷ (between ++ Said q t (AliveAsk m) ∷ earlier)
  pub truth : x ≡ alive start (between ++ Said q t (AliveAsk m) ∷ earlier) t
  pub behind : came (between ++ Said q t (AliveAsk m) ∷ earlier) q t ≡ emitted start earlier q t

-- each answer that arrived is one
abbrev pub AnswersAreTrue : Type 0
AnswersAreTrue =
    (start : Start) (past : Past) (q t : Pid) (m : Ref) (x : Bool) → IsLegal start past
    → Contains (arrived_since start past q) (Item.Alive m t x) → IsAnswer start past q t m x

abbrev pub is_question : Ref → Signal → Bool
is_question m (AliveAsk n) = same_ref m n
is_question m _ = false

-- t's answer to the question m
abbrev pub is_answer : Ref → Pid → Item → Bool
is_answer m t (Item.Alive n from x) = same_ref m n && same_pid t from
is_answer m t _ = false

-- in a quiet history as many answers of t to m arrived at a live q as q asked t under m
abbrev pub QuietAnswers : Type 0
QuietAnswers =
    (start : Start) (past : Past) (q t : Pid) (m : Ref) → IsLegal start past → IsQuiet start past
    → alive start past q ≡ true
    → count (is_answer m t) (arrived_since start past q) ≡ said_to q t (is_question m) past
