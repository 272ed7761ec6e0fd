-- The lanes of a node while they are made. No public clause cites this module.
use Rattle.std.specs.Prelude.{◌≡◌, ℕ, ◌<◌, List, [], length, slice_index_or}
use Rattle.pt_carrier.specs.Lanes.{Sending, Receiving, new_sending, new_receiving}

-- the lanes out of the first `made` desks: rows[d] has those out of desk d, and columns[e] those into desk e
pub record AreLanes (made desks capacity : ℕ) (rows : List (List Sending))
    (columns : List (List Receiving)) : Type 0 where
  pub row_count : length rows ≡ made
  pub column_count : length columns ≡ desks
  pub row_desks : (d : ℕ) → d < made → length (slice_index_or rows d []) ≡ desks
  pub column_desks : (e : ℕ) → e < desks → length (slice_index_or columns e []) ≡ made
  pub sending : (d e : ℕ) (x : Sending) → d < made → e < desks
      → slice_index_or (slice_index_or rows d []) e x
      ≡ new_sending (slice_index_or (slice_index_or rows d []) e x).ring d e capacity
  pub receiving : (d e : ℕ) (x : Sending) (y : Receiving) → d < made → e < desks
      → slice_index_or (slice_index_or columns e []) d y
      ≡ new_receiving (slice_index_or (slice_index_or rows d []) e x).ring d e
