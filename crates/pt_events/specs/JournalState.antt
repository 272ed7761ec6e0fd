-- A journal as its callers see it.
use Rattle.std.specs.Prelude.{◌≡◌, ℕ, ◌<◌, Bool, ◌==◌, ◌&&◌, nat_lt, Option, Some, None, List, [], ◌∷◌, ⊤}
use Rattle.pt_events.specs.declared.event.Stamped.{Stamped}

-- the desk, the events, newest first, and how many more are sure to find room
pub record JournalState : Type 0 where
  pub desk : ℕ
  pub past : List Stamped
  pub room : ℕ

-- the event is stamped above the newest one
abbrev pub IsNewer : Stamped → List Stamped → Type 0
IsNewer s [] = ⊤
IsNewer s (t ∷ past) = t.stamp < s.stamp

-- the events are the desk's, and their stamps strictly rise
abbrev pub IsInOrder : ℕ → List Stamped → Type 0
IsInOrder d [] = ⊤
IsInOrder d (s ∷ past) = (s.desk ≡ d) × IsNewer s past × IsInOrder d past

-- the event is the desk's, and stamped above the newest stamp
abbrev pub is_next : ℕ → Option ℕ → Stamped → Bool
is_next d None s = s.desk == d
is_next d (Some n) s = nat_lt n s.stamp && (s.desk == d)
