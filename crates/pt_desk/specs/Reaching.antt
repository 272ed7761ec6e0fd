-- The calls that reach for another process: first they look whether it has ended.
use Rattle.std.specs.Prelude.{◌≡◌, ◌<◌, ◌≤◌, ◌⊎◌, ◌&&◌, true, not, is_some, [], ◌∷◌, ◌++◌, Option, IsSome, MatchOption}
use Rattle.std.specs.Prelude.{MatchBool, Bool, ℕ, Result}
use Rattle.std.specs.Result.{IsErrAnd}
use mathlib.Core.Option.{some}
use lib.ListN.{get_elem?}
use Rattle.pt_signal.specs.declared.pid.Pid.{Pid}
use Rattle.pt_signal.specs.Values.{same_pid}
use Rattle.pt_events.specs.History.{is_ended}
use Rattle.pt_directory.specs.declared.view.Read.{Read}
use Rattle.pt_directory.specs.Views.{new_read}
use Rattle.pt_shard.specs.declared.fault.Fault.{Fault}
use Rattle.pt_shard.specs.ShardState.{ShardState, phase_of, lives}
use Rattle.pt_shard.specs.Calls.{Refuses, link_event}
use Rattle.pt_desk.specs.Sight.{Sight, HasEndOf}
use Rattle.pt_desk.specs.DeskState.{DeskState}

-- one read of t's slot is added, and the answer is its stamp: there is one exactly where the version that was found is
-- not below t's
pub record Looks (t : Pid) (old : DeskState) (answer : Option ℕ) (sight : Sight) : Type 0 where
  pub found : ℕ
  pub read : sight ≡ record {
    directory = old.sight.directory;
    reads = old.sight.reads ++ new_read t.shard t.slot found answer ∷ [];
    before = old.sight.before;
    told = old.sight.told;
  }
  pub ended : MatchOption answer (found < t.version) (λ n. t.version ≤ found)
  -- it has one where it was seen before that t has ended
  pub again : (k : ℕ) (r : Read) → get_elem? old.sight.reads k ≡ some r → HasEndOf t r → IsSome answer
  -- and where t is of this desk, and has ended
  pub own : t.shard ≡ old.shard.number → is_ended (phase_of old.shard t) ≡ true → IsSome answer

-- a call of p to t: where the desk sees that t has ended it is refused and noted, else it is made
pub record LooksFirst {A : Type 0} (p t : Pid) (call : Type 0) (old : DeskState) (result : Result A Fault)
    (new : DeskState) : Type 0 where
  pub seen : Option ℕ
  pub looks : Looks t old seen new.sight
  pub does : MatchOption seen call (λ n. IsErrAnd result (λ f. Refuses p t n old.shard f new.shard))

-- so it is where it looks; else it is made, and nothing is seen
abbrev pub Reaches : {A : Type 0} → Bool → Pid → Pid → Type 0 → DeskState → Result A Fault → DeskState → Type 0
Reaches looks p t call old result new =
    MatchBool looks (LooksFirst p t call old result new) (call × (new.sight ≡ old.sight))

-- a link is reached for where there is one to make
abbrev pub has_link_to_make : ShardState → Pid → Pid → Bool
has_link_to_make d p to = lives d p && is_some (link_event d p to)

-- a monitor is reached for where its target is another
abbrev pub has_monitor_to_make : ShardState → Pid → Pid → Bool
has_monitor_to_make d w t = lives d w && not (same_pid w t)

-- the same of what a desk is without its lanes, leaving open what it has read: the call was made, or, where the desk
-- looks, refused
abbrev pub IsReached : {A : Type 0} → Bool → Pid → Pid → Type 0 → ShardState → Result A Fault → ShardState → Type 0
IsReached looks p t call old answer new =
    call ⊎ ((looks ≡ true) × (n : ℕ) × IsErrAnd answer (λ f. Refuses p t n old f new))
