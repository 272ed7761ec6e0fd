-- Receipts alone end, and what quiet means pair by pair.
use Rattle.std.proofs.Common.{◌≡◌, ◌+◌, ◌≤◌, true, List, [], ◌∷◌, ◌++◌, map, filter, length, refl, arith}
use Rattle.pt_laws.specs.LoadLaws.{AllCame}
use Rattle.pt_signal.specs.declared.pid.Pid.{Pid}
use Rattle.pt_events.specs.declared.event.Event.TheVariants.{Came}
use Rattle.pt_signal.specs.Process.{Sent}
use Rattle.pt_events.specs.History.{Past, Start, IsLegal, flying, flight, is_between}
use Rattle.pt_laws.specs.Load.{IsStart, IsQuiet, load}
use Rattle.pt_signal.proofs.Same.{same_pid_refl}
use Rattle.pt_laws.proofs.lanes.Load.{load_falls}

-- a settling adds no more receipts than the load
pub settled_bound : (start : Start) → IsStart start → (old new : Past) → AllCame new → IsLegal start (new ++ old) → length new + load start (new ++ old) ≤ load start old
settled_bound start ok old [] a h = omega arith
settled_bound start ok old (Came x y s ∷ new) a h =
    let ih = settled_bound start ok old new a h.1 in
    let f = load_falls start ok (new ++ old) x y s h in omega arith
settled_bound start ok old (_ ∷ new) a h = absurd a

-- every flight is empty exactly where nothing flies
pub quiet_flights : (start : Start) (past : Past) → IsQuiet start past → (a b : Pid) → flight start past a b ≡ []
quiet_flights start past h a b = rw h refl

pub flights_quiet : (start : Start) (past : Past) → ((a b : Pid) → flight start past a b ≡ []) → IsQuiet start past
flights_quiet start past h = go (flying start past) h
  where
    go : (ls : List Sent) → ((a b : Pid) → map (λ l. l.signal) (filter (is_between a b) ls) ≡ []) → ls ≡ []
    go [] h = refl
    go (l ∷ ls) h =
        let k = h l.from l.to in
        let e : is_between l.from l.to l ≡ true = rw (same_pid_refl l.from, same_pid_refl l.to) refl in
        let z : l.signal ∷ map (λ l. l.signal) (filter (is_between l.from l.to) ls) ≡ [] = rw e at k in absurd (cc)
