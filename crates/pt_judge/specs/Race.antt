-- The race of journals to give the next event of their merge. No public clause cites this module.
use Rattle.std.specs.Prelude.{◌≡◌, ◌⊎◌, length, ℕ, zero, suc, ◌+◌, ◌-◌, ◌/◌, ◌<◌, ◌≤◌, Bool, true, false, cond, ◌==◌}
use Rattle.std.specs.Prelude.{◌&&◌, ◌||◌, nat_lt, nat_le, Option, Some, None, List, [], ◌∷◌, drop, reverse}
use Rattle.std.specs.Prelude.{slice_index_or}
use Rattle.pt_events.specs.declared.event.Stamped.{Stamped}
use Rattle.pt_events.specs.JournalState.{IsInOrder}
use Rattle.pt_judge.specs.declared.merging.Seat.{Seat}
use Rattle.pt_judge.specs.Merging.{Given}

-- the desk of one journal
abbrev pub desk_at : Given → ℕ → ℕ
desk_at [] j = 0
desk_at (b ∷ bs) zero = b.now.desk
desk_at (b ∷ bs) (suc j) = desk_at bs j

-- the events of one journal, newest first
abbrev pub past_at : Given → ℕ → List Stamped
past_at [] j = []
past_at (b ∷ bs) zero = b.now.past
past_at (b ∷ bs) (suc j) = past_at bs j

-- and oldest first
abbrev pub events_at : Given → ℕ → List Stamped
events_at js j = reverse (past_at js j)

-- each journal is one of its desk, its stamps rising
abbrev pub AreInOrder : Given → Type 0
AreInOrder js = (j : ℕ) → j < length js → IsInOrder (desk_at js j) (past_at js j)

-- one seat, and what stands in it
abbrev pub seat_at : List Seat → ℕ → Seat
seat_at seats i = slice_index_or seats i (record { winner = 0; taken = 0 })

abbrev pub winner_at : List Seat → ℕ → ℕ
winner_at seats i = (seat_at seats i).winner

abbrev pub taken_at : List Seat → ℕ → ℕ
taken_at seats j = (seat_at seats j).taken

-- what is left of one journal, oldest first
abbrev pub left_at : Given → List Seat → ℕ → List Stamped
left_at js seats j = drop (taken_at seats j) (events_at js j)

-- the next event, if any is left
abbrev pub head_of : List Stamped → Option Stamped
head_of [] = None
head_of (s ∷ rest) = Some s

-- its stamp and its desk
abbrev pub key_of : List Stamped → Option (ℕ × ℕ)
key_of [] = None
key_of (s ∷ rest) = Some (s.stamp, s.desk)

-- the stamp and the desk of the next event of one journal
abbrev pub next_key : Given → List Seat → ℕ → Option (ℕ × ℕ)
next_key js seats j = key_of (left_at js seats j)

-- the one comes no later than the other; None comes last
abbrev pub leads : Option (ℕ × ℕ) → Option (ℕ × ℕ) → Bool
leads one None = true
leads None (Some other) = false
leads (Some one) (Some other) = nat_lt one.0 other.0 || ((one.0 == other.0) && nat_le one.1 other.1)

-- where the journals from low up to high are halved
abbrev pub middle : ℕ → ℕ → ℕ
middle low high = low + (high - low) / 2

module _ (key : ℕ → Option (ℕ × ℕ)) where
  -- w is from low up to high, and comes no later than any other there
  pub record IsBest (low high w : ℕ) : Type 0 where
    pub from : low ≤ w
    pub below : w < high
    pub leads_all : (j : ℕ) → low ≤ j → j < high → leads (key w) (key j) ≡ true

  -- every match is played
  pub data IsPlayed (winner : ℕ → ℕ) : ℕ → ℕ → Type 0 where
    alone : (low high : ℕ) → high ≡ low + 1 → IsPlayed winner low high
    matched : (low high : ℕ) → low + 1 < high → IsPlayed winner low (middle low high)
        → IsPlayed winner (middle low high) high → IsBest low high (winner (middle low high))
        → IsPlayed winner low high

-- who won among them: the only one, or who stands in the seat of their middle
abbrev pub winner_in : (ℕ → ℕ) → ℕ → ℕ → ℕ
winner_in winner low high = cond (high - low == 1) low (winner (middle low high))

-- only the winners of matches from low up to high were written
pub record OnlyWinners (low high : ℕ) (old new : List Seat) : Type 0 where
  pub same_length : length new ≡ length old
  pub same_taken : (j : ℕ) → taken_at new j ≡ taken_at old j
  pub same_outside : (i : ℕ) → (i ≤ low) ⊎ (high ≤ i) → winner_at new i ≡ winner_at old i

-- one more event of the one journal is taken, and the winners from low up to high are written
pub record IsTaken (low high which : ℕ) (old new : List Seat) : Type 0 where
  pub same_length : length new ≡ length old
  pub one_more : taken_at new which ≡ taken_at old which + 1
  pub same_taken : (j : ℕ) → (j ≡ which → ⊥) → taken_at new j ≡ taken_at old j
  pub same_outside : (i : ℕ) → (i ≤ low) ⊎ (high ≤ i) → winner_at new i ≡ winner_at old i

-- s is taken: it was the next event of the one journal, and no next event comes before it
pub record TakesFrom (js : Given) (old new : List Seat) (s : Stamped) (which : ℕ) : Type 0 where
  pub within : which < length js
  pub takes : left_at js old which ≡ s ∷ left_at js new which
  pub keeps : (j : ℕ) → (j ≡ which → ⊥) → left_at js new j ≡ left_at js old j
  pub leads_all : (j : ℕ) → j < length js → leads (Some (s.stamp, s.desk)) (next_key js old j) ≡ true

-- the first of all next events is taken, where any is left
abbrev pub TakesFirst : Given → List Seat → Option Stamped → List Seat → Type 0
TakesFirst js old None new = (j : ℕ) → j < length js → left_at js old j ≡ []
TakesFirst js old (Some s) new = (which : ℕ) × TakesFrom js old new s which
