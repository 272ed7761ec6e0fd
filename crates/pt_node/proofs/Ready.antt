-- The seats of a node that goes on, in a directory that is made anew.
use Rattle.std.proofs.Common.{◌≡◌, ℕ, ◌<◌, ◌≤◌, false, List, length, map, get_or}
use Rattle.std.specs.Prelude.{IfOk, Result, Ok, Err}
use Rattle.std.specs.Arc.{arc_value}
use Rattle.pt_signal.specs.declared.pid.Pid.{Pid}
use Rattle.pt_signal.specs.declared.config.TheConstants.{MAX_STAMP}
use Rattle.pt_events.specs.History.{is_unborn}
use Rattle.pt_accounts.specs.DeskLives.{DeskTable, all_forgotten}
use Rattle.pt_accounts.proofs.Forgetting.{begins_anew}
use Rattle.pt_shard.specs.ShardState.{ShardState, phase_of}
use Rattle.pt_shard.specs.Restart.{restarted}
use Rattle.pt_gathered.specs.Gathered.{GatheredState, IsGathered}
use Rattle.pt_gathered.specs.Tables.{IsTold}
use Rattle.pt_gathered.specs.Quiet.{AreInTurn, ends_of}
use Rattle.pt_node.specs.declared.resuming.Room.{Room}
use Rattle.pt_node.specs.Seating.{Seated, AreFreshSeats, AreReady}
use Rattle.pt_node.proofs.Prepared.{given_here}
use Rattle.pt_node.proofs.Resumed.{fresh_ready}

module _ (g : GatheredState) (whole : IsGathered g) (n : ℕ) (within : n ≤ MAX_STAMP) (lives : List DeskTable) (count : length lives ≡ length g.shards)
    (told : (d : ℕ) (x : ShardState) (t : DeskTable) → d < length g.shards → IsTold (get_or g.shards d x) (get_or lives d t))
    (turns : AreInTurn g.shards) (since : (d : ℕ) (x : ShardState) → d < length g.shards → (p : Pid) → is_unborn (phase_of (get_or g.shards d x) p) ≡ false → 0 < n) where
  pub ready_here : (seats : List Seated) → AreFreshSeats (record g.config { start = n }) (ends_of n lives) seats → AreReady (map (restarted n) g.shards) (map all_forgotten lives) seats
  ready_here seats looked =
      fresh_ready g whole n lives count told turns (λ k t h. begins_anew (get_or lives k t))
      (λ k t h. given_here g whole n within lives count told turns since k t h) seats looked

  -- if there was memory for them
  pub if_ready : {E : Type 0} (result : Result Room E) → IfOk result (λ room. AreFreshSeats (record g.config { start = n }) (ends_of n lives) (map (λ p. (arc_value p.0, p.1)) room.seats.items))
      → IfOk result (λ room. AreReady (map (restarted n) g.shards) (map all_forgotten lives) (map (λ p. (arc_value p.0, p.1)) room.seats.items))
  if_ready (Ok room) h = ready_here (map (λ p. (arc_value p.0, p.1)) room.seats.items) h
  if_ready (Err e) h = h
