-- Where the letters left over wait, as settling keeps account of it. No public clause cites this module.
use Rattle.std.specs.Prelude.{◌≡◌, ℕ, ◌+◌, ◌*◌, ◌<◌, ◌≤◌, ⊤, Bool, true, false, List, [], ◌++◌, length, drop}
use Rattle.std.specs.Prelude.{slice_index_or, Result, Ok, Err}
use Rattle.pt_signal.specs.declared.letter.Letter.{Letter}
use Rattle.pt_shard.specs.declared.stop.Stop.{Stop}
use Rattle.pt_shard.specs.ShardState.{ShardState}
use Rattle.pt_shard.specs.Outbox.{held_from}
use Rattle.pt_gathered.specs.Gathered.{GatheredState, box_at, hold_at}
use Rattle.pt_gathered.specs.Settling.{NothingTo}

-- nothing is left over to a desk that is not marked
abbrev pub Waits : List Bool → GatheredState → Type 0
Waits waits g = (e : ℕ) → e < length g.shards → slice_index_or waits e true ≡ false → NothingTo (length g.shards) e g

-- no mark is taken away, and desk d has nothing in its outbox for a desk below n that is not marked
abbrev pub Marks : ℕ → ℕ → GatheredState → List Bool → List Bool → Type 0
Marks d n g old new =
    (length new ≡ length old)
    × ((k : ℕ) → slice_index_or new k true ≡ false → slice_index_or old k true ≡ false)
    × ((k : ℕ) → k < n → slice_index_or new k true ≡ false → box_at g.shards d k ≡ [])

-- what is left over from desk d to desk e of the letters that were posted: the one in the hold, those in the lane
abbrev pub posted_in : List ShardState → List (List Letter) → ℕ → ℕ → List Letter
posted_in shards lanes d e = held_from d (hold_at shards e) ++ slice_index_or lanes (d * length shards + e) []

-- to desk e none of those is left over
abbrev pub NonePosted : ℕ → GatheredState → Type 0
NonePosted e g = (d : ℕ) → d < length g.shards → posted_in g.shards g.lanes d e ≡ []

-- where none of them was left over, none is
abbrev pub KeepsNone : GatheredState → GatheredState → Type 0
KeepsNone old new =
    (i k : ℕ) → i < length old.shards → k < length old.shards → posted_in old.shards old.lanes i k ≡ []
    → posted_in new.shards new.lanes i k ≡ []

-- what a step does to them: it takes the oldest out, or none where there is none
abbrev pub StepsPosted : ℕ → ℕ → GatheredState → Result Bool Stop → GatheredState → Type 0
StepsPosted d e old (Ok true) new =
    KeepsNone old new × (posted_in new.shards new.lanes d e ≡ drop 1 (posted_in old.shards old.lanes d e))
StepsPosted d e old (Ok false) new = ⊤
StepsPosted d e old (Err stop) new = ⊤

-- how many letters the outbox of a desk has to hold for desk e, so that letters can be left over between the two
abbrev pub IsLeast : ℕ → ℕ → GatheredState → Type 0
IsLeast e least g = (least ≤ 1) × (0 < least → NonePosted e g)

abbrev pub AreLeast : List ℕ → GatheredState → Type 0
AreLeast least g = (e : ℕ) → e < length g.shards → IsLeast e (slice_index_or least e 0) g
