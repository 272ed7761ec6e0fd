-- The supervisors of a node that is gathered.
use Rattle.std.proofs.Common.{◌≡◌, ◌<◌, List, [], ◌∷◌, length, get_or, sym, ap, subst, ◌∙◌, arith}
use Rattle.std.proofs.lemmas.List.{get_or-map, get_or_default, length-map}
use Rattle.pt_shard.specs.ShardState.{ShardState}
use Rattle.pt_desk.specs.DeskState.{DeskState}
use Rattle.pt_crew.specs.declared.crew.Crew.{Crew}
use Rattle.pt_crew.specs.Waking.{IsAwake}
use Rattle.pt_crew.specs.Crews.{members, queue}
use Rattle.pt_crew.specs.Running.{is_idle, UpholdsOn}
use Rattle.pt_crew.proofs.Runs.{idle_awake}
use Rattle.pt_supervisor.specs.Keeping.{Keeps, PartOf}
use Rattle.pt_pauses.specs.Gathering.{GatheredChildrenLive}
use Rattle.pt_pauses.specs.Still.{StillLaws}
use Rattle.pt_pauses.proofs.Still.{children_live}
use Rattle.pt_crew.proofs.Resting.{awake_idle}

abbrev pub shard_of : DeskState → ShardState
shard_of d = d.shard

module _ {B : Type 0} (part : PartOf B) (laws : StillLaws) where
  pub all_children_live : GatheredChildrenLive part
  all_children_live past crews [] g upholds idle shards whole still d c x l = absurd (let none = ap length shards in omega (arith, l, none))
  all_children_live past crews (y ∷ ys) g upholds idle shards whole still d c x l =
      children_live part laws past crew s g whole still (omega (arith, l, number_is)) at on.upholds (awake_idle crew s awake.1 awake.0)
    where
      desks : List DeskState
      desks = y ∷ ys

      crew : Crew B
      crew = get_or crews d c

      s : ShardState
      s = get_or g.shards d x

      within : d < length desks
      within = let count = ap length shards ∙ length-map desks shard_of in omega (arith, l, count)

      same : s ≡ (get_or desks d y).shard
      same = ap (λ (ss : List ShardState). get_or ss d x) shards ∙ get_or-map shard_of desks d y x within

      on : UpholdsOn (Keeps past part) crew s
      on = subst (λ (z : ShardState). UpholdsOn (Keeps past part) crew z) (sym same) (upholds.each d c y within)

      awake : (queue crew ≡ []) × IsAwake (members crew) (queue crew) s
      awake = idle_awake crew s (ap (is_idle crew) same ∙ idle.each d c y within) on.attends

      number_is : s.number ≡ d
      number_is = (whole.shards d x l).number

      at : s ≡ get_or g.shards s.number s
      at = get_or_default g.shards d x s l ∙ ap (λ n. get_or g.shards n s) (sym number_is)
