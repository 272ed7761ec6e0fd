-- How the rows of events are found. No public clause cites this module.
use Rattle.std.specs.Prelude.{◌≡◌, ℕ, ◌+◌, ◌<◌, ◌≤◌, Bool, true, false, ◌||◌, List, length, slice_index, slice_index_or}

-- what this says of an event is noted, beside what was noted before
pub record Notes (says : ℕ → Bool) (old new : List Bool) : Type 0 where
  pub each : length new ≡ length old
  pub noted : (i : ℕ) → i < length old
      → slice_index_or new i false ≡ (slice_index_or old i false || says i)

-- the rows where so many births stand in front, and these events follow their sendings
pub record AreNumbered (births : ℕ) (follows : List Bool) (rows : List ℕ) : Type 0 where
  pub each : length rows ≡ length follows
  pub first : slice_index rows 0 ≡ 0
  pub front : (i : ℕ) → i < length follows → i < births → slice_index rows i ≡ 0
  pub receipts : (i : ℕ) → i + 1 < length follows → slice_index_or follows (i + 1) false ≡ true
      → slice_index rows (i + 1) ≡ slice_index rows i
  pub others : (i : ℕ) → i + 1 < length follows → births ≤ i + 1 → slice_index_or follows (i + 1) false ≡ false
      → slice_index rows (i + 1) ≡ slice_index rows i + 1
