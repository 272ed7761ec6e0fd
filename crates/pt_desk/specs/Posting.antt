-- How a desk posts.
use Rattle.std.specs.Prelude.{◌≡◌, ◌≢◌, ℕ, ◌+◌, ◌<◌, ◌≤◌, ◌⊎◌, List, [], ◌++◌, length, sum_by}
use Rattle.std.specs.Prelude.{take, drop, slice_index_or}
use Rattle.pt_signal.specs.declared.letter.Letter.{Letter}
use Rattle.pt_carrier.specs.Ends.{IsFull}
use Rattle.pt_desk.specs.DeskState.{DeskState, posted_to, waits_for}

-- how many letters the lists have together
abbrev pub total : List (List Letter) → ℕ
total lists = sum_by length lists

-- a front of what waited for desk e was posted, behind what was posted there before; the rest stays, and only
-- where the lane is known to be full
pub record PostsTo (e : ℕ) (old new : DeskState) : Type 0 where
  pub count : ℕ
  pub posted : posted_to new e ≡ posted_to old e ++ take count (waits_for old e)
  pub left : waits_for new e ≡ drop count (waits_for old e)
  pub full : (waits_for new e ≡ []) ⊎ IsFull new.outs e
  -- none of the letters that were known to be collected is forgotten
  pub seen : slice_index_or old.outs.seen e 0 ≤ slice_index_or new.outs.seen e 0

-- all but what is posted, what waits and what is known of the lanes out of the desk
pub record OnlyPosts (old new : DeskState) : Type 0 where
  pub shard : new.shard ≡ record old.shard { outbox = new.shard.outbox }
  pub place : new.outs.place ≡ old.outs.place
  pub capacity : new.outs.capacity ≡ old.outs.capacity
  pub ins : new.ins ≡ old.ins
  pub sight : new.sight ≡ old.sight

-- so for every desk
pub record Posts (old new : DeskState) : Type 0 where
  pub each : (e : ℕ) → e < old.shard.config.desks → PostsTo e old new
  pub only : OnlyPosts old new

-- nothing of the lane to desk e has changed
pub record SameLane (e : ℕ) (old new : DeskState) : Type 0 where
  pub posted : posted_to new e ≡ posted_to old e
  pub waits : waits_for new e ≡ waits_for old e
  pub seen : slice_index_or new.outs.seen e 0 ≡ slice_index_or old.outs.seen e 0

-- only letters for desk e were posted, and so many
pub record PostsSome (e count : ℕ) (old new : DeskState) : Type 0 where
  pub others : (k : ℕ) → k ≢ e → SameLane k old new
  pub only : OnlyPosts old new
  pub seen : slice_index_or old.outs.seen e 0 ≤ slice_index_or new.outs.seen e 0
  pub counted : total new.outs.posted ≡ total old.outs.posted + count
