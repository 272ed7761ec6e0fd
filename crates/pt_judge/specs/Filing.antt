-- Letters filed by number, and the numbers of each two processes. No public clause cites this module.
use Rattle.std.specs.Prelude.{◌≡◌, ℕ, ◌+◌, nat_le, Bool, true, cond, ◌&&◌, List, [], ◌∷◌, unwrap_or}
use Rattle.std.specs.Map.{lookup}
use Rattle.pt_signal.specs.declared.pid.Pid.{Pid}
use Rattle.pt_signal.specs.Values.{same_pid}
use Rattle.pt_signal.specs.Process.{Sent}
use Rattle.pt_events.specs.History.{is_between}

-- numbers of letters by sender and receiver
abbrev pub Queued : Type 0
Queued = List ((Pid × Pid) × List ℕ)

abbrev pub is_pair : Pid → Pid → Pid × Pid → Bool
is_pair a b pair = same_pid a pair.0 && same_pid b pair.1

abbrev pub queue_of : Queued → Pid → Pid → List ℕ
queue_of queued a b = unwrap_or (lookup (is_pair a b) queued) []

-- the queue of the two is this one, and no other has changed
abbrev pub IsQueued : Pid → Pid → List ℕ → Queued → Queued → Type 0
IsQueued a b queue old new = (p q : Pid) → queue_of new p q ≡ cond (is_pair a b (p, q)) queue (queue_of old p q)

-- the numbers of the letters from the one to the other, the oldest first
abbrev pub numbers_of : Pid → Pid → List (ℕ × Sent) → List ℕ
numbers_of a b [] = []
numbers_of a b (e ∷ es) = cond (is_between a b e.1) (e.0 ∷ numbers_of a b es) (numbers_of a b es)

-- the numbers rise, from the low one on, and are below the next
abbrev pub is_rising : ℕ → List (ℕ × Sent) → ℕ → Bool
is_rising low [] next = nat_le low next
is_rising low (e ∷ es) next = nat_le low e.0 && is_rising (e.0 + 1) es next

-- each two processes have the numbers of the letters from the one to the other, and the letters are in order
pub record AreFiled (letters : List (ℕ × Sent)) (queued : Queued) (next : ℕ) : Type 0 where
  pub queues : (a b : Pid) → queue_of queued a b ≡ numbers_of a b letters
  pub rising : is_rising 0 letters next ≡ true
