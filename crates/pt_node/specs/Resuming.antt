-- A quiet node that goes on.
use Rattle.std.specs.Prelude.{◌≡◌, ℕ, ◌<◌, List, [], ◌++◌, length, map, slice_index_or}
use Rattle.pt_events.specs.declared.event.Stamped.{Stamped}
use Rattle.pt_events.specs.History.{Past}
use Rattle.pt_events.specs.Journal.{events, IsMerge}
use Rattle.pt_carrier.specs.Ends.{OutEnds, InEnds}
use Rattle.pt_carrier.specs.Node.{IsNew, IsNode, places}
use Rattle.pt_shard.specs.Restart.{restarted}
use Rattle.pt_gathered.specs.Gathered.{GatheredState, journals}
use Rattle.pt_gathered.specs.Pasts.{GoesOnFrom, GoesOnBut}
use Rattle.pt_gathered.specs.Quiet.{latest_stamp}
use Rattle.pt_desk.specs.DeskState.{DeskState}
use Rattle.pt_desk.specs.Forgetting.{forgetful_desk}
use Rattle.pt_workers.specs.Desks.{AreDesksOf, all_shards}
use Rattle.pt_node.specs.Pasts.{GoOnFrom, GoOnBut}

-- the desks of one node whose clocks stand at n: each has an empty journal over what it left behind, and its processes
-- are as they were; nothing went through their lanes, and nobody has looked in their directory. They go on from what
-- the node went on from and its history after it
pub record AreResumed (g : GatheredState) (n : ℕ) (desks : List DeskState) : Type 0 where
  pub node : AreDesksOf (record g.config { start = n }) desks
  pub shards : all_shards desks ≡ map (restarted n) g.shards
  pub ends : (d : ℕ) (x : DeskState) → d < length desks
      → IsNew g.config.desks g.config.lane ((slice_index_or desks d x).outs, (slice_index_or desks d x).ins)
  pub unread : (d : ℕ) (x : DeskState) → d < length desks → (slice_index_or desks d x).sight.reads ≡ []
  pub whole : (past : Past) (merged : List Stamped) → GoesOnFrom past g → IsMerge (journals g) merged
      → GoOnFrom (events merged ++ past) desks
  -- or from what it went on from but for the reasons
  pub outline : (past : Past) (merged : List Stamped) → GoesOnBut past g → IsMerge (journals g) merged
      → GoOnBut (events merged ++ past) desks

-- they go on at the greatest stamp of the history
abbrev pub Resumes : GatheredState → List DeskState → Type 0
Resumes g desks = AreResumed g (latest_stamp g) desks

-- the desks of one node that goes on there and forgets why its processes ended: they are those desks, but of those that
-- ended before their journals no reason is known any more
pub record ResumesForgetful (g : GatheredState) (desks : List DeskState) : Type 0 where
  pub before : List DeskState
  pub resumes : Resumes g before
  pub forgets : desks ≡ map forgetful_desk before
  pub node : AreDesksOf (record g.config { start = latest_stamp g }) desks
  pub outline : (past : Past) (merged : List Stamped) → GoesOnBut past g → IsMerge (journals g) merged
      → GoOnBut (events merged ++ past) desks

-- the ends of new lanes among so many desks, each lane with room for so many letters
pub record AreNewPairs (desks lane : ℕ) (pairs : List (OutEnds × InEnds)) : Type 0 where
  pub count : length pairs ≡ desks
  pub node : IsNode (map places pairs)
  pub new : (d : ℕ) (p : OutEnds × InEnds) → d < desks → IsNew desks lane (slice_index_or pairs d p)
