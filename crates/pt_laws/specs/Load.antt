-- Quiet histories, and what may still happen in one that is not.
use Rattle.std.specs.Prelude.{◌≡◌, ℕ, ◌+◌, ◌==◌, cond, List, [], ◌∷◌, length, map, filter}
use Rattle.std.specs.Map.{keys_of}
use Rattle.pt_signal.specs.declared.pid.Pid.{Pid}
use Rattle.pt_signal.specs.declared.signal.Signal.{Signal}
use Rattle.pt_signal.specs.declared.signal.Signal.TheVariants.{Link, Monitor, AliveAsk}
use Rattle.pt_signal.specs.declared.letter.Letter.{Letter}
use Rattle.pt_signal.specs.Values.{same_pid}
use Rattle.pt_signal.specs.Process.{Sent}
use Rattle.pt_events.specs.History.{Past, Start, Phase, living, life, at_start, is_unborn, flying}
use Rattle.pt_events.specs.Journal.{Journals, events, content}
use Rattle.pt_events.specs.Counting.{one_if, below}
pub use Rattle.pt_events.specs.Leaving.{pids}

-- no letter is in flight
abbrev pub IsQuiet : Start → Past → Type 0
IsQuiet start past = flying start past ≡ []

-- a Link, a Monitor and a question count twice
abbrev pub weight : Signal → ℕ
weight (Link i) = 2
weight (Monitor m) = 2
weight (AliveAsk m) = 2
weight _ = 1

abbrev pub weights : List Sent → ℕ
weights [] = 0
weights (l ∷ ls) = weight l.signal + weights ls

-- the link entries, kept watches and open references of a live process
abbrev pub size : Phase → ℕ
size (living s) = length s.links + length s.kept + length s.watching
size _ = 0

abbrev pub total_of : (Pid → ℕ) → List Pid → ℕ
total_of f [] = 0
total_of f (p ∷ ps) = f p + total_of f ps

-- how often p is in the list
abbrev pub times : Pid → List Pid → ℕ
times p [] = 0
times p (q ∷ qs) = one_if (same_pid p q) + times p qs

-- the start has each process once, and none that was not born
abbrev pub IsStart : Start → Type 0
IsStart start = (p : Pid) → times p (keys_of start) ≡ cond (is_unborn (at_start start p)) 0 1

module _ (start : Start) where
  abbrev pub load : Past → ℕ
  load past = weights (flying start past) + total_of (λ p. size (life start past p)) (pids start past)

  -- of the live processes of desk d: the link entries, kept watches and open references
  abbrev pub desk_sizes : ℕ → Past → ℕ
  desk_sizes d past = total_of (λ p. size (life start past p)) (filter (λ p. p.shard == d) (pids start past))

-- the load, desk by desk ---------------------------------------------------------------

abbrev pub left_weight : List Letter → ℕ
left_weight over = weights (map content over)

-- of the desks below n: the lists of each journal's live processes, and the letters left over in each lane
abbrev pub load_by_desk : Start → Journals → (ℕ → ℕ → List Letter) → ℕ → ℕ
load_by_desk start journal over n =
    below (λ d. desk_sizes start d (events (journal d))) n + below (λ d. below (λ e. left_weight (over d e)) n) n
