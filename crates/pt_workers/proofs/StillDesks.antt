-- The desks of a node stay its desks, whatever is called on one of them. For the crates that hold desks in a list and
-- call them one by one: such a call ensures `IsStill` of its desk, and by `still_desks` the list with that desk written
-- back is still that of one node, which `gather` takes.
use Rattle.std.proofs.Common.{◌≡◌, ℕ, ◌<◌, List, length, map, get_or, set, sym, ◌∙◌, ap, subst, arith}
use Rattle.std.proofs.lemmas.List.{get_or-map, length-map, length-set}
use Rattle.std.proofs.lemmas.Simd.{map-map}
use Rattle.pt_carrier.specs.Ends.{Place}
use Rattle.pt_carrier.specs.Node.{IsNode}
use Rattle.pt_signal.proofs.Lists.{map-set_same}
use Rattle.pt_signal.specs.declared.letter.Letter.{Letter}
use Rattle.pt_directory.specs.Seats.{DirectoryState}
use Rattle.pt_signal.specs.declared.config.Config.{Config}
use Rattle.pt_shard.specs.ShardState.{ShardState}
use Rattle.pt_desk.specs.Sight.{Sight}
use Rattle.pt_desk.specs.DeskState.{DeskState, place}
use Rattle.pt_events.specs.History.{Start}
use Rattle.pt_beginning.specs.Beginning.{IsBeginning, start_of}
use Rattle.pt_workers.specs.Desks.{AreDesks, AreDesksOf, IsStill, all_shards, desk_kept}
use Rattle.pt_workers.proofs.Begun.{starts_stay}

abbrev settings : DeskState → Config
settings d = d.shard.config

abbrev directory_of : DeskState → DirectoryState
directory_of d = d.sight.directory

abbrev before : DeskState → Start
before d = d.shard.start

-- the desk `old` at place d of a node with these settings was changed to x
pub still_node : (config : Config) (desks : List DeskState) (d : ℕ) (old x : DeskState) → AreDesksOf config desks → d < length desks → old ≡ get_or desks d old → IsStill old x → AreDesksOf config (set desks d x)
still_node config desks d old x node l r s = record {
  some = rw length-set node.some;
  count = length-set desks d x ∙ node.count;
  node = rw (map-set_same place desks d old x l r s.0) node.node;
  configs = λ k y h.
      sym (get_or-map settings (set desks d x) k y (settings y) h)
      ∙ ap (λ cs. get_or cs k (settings y)) (map-set_same settings desks d old x l r s.1)
      ∙ get_or-map settings desks k y (settings y) (rw (sym (length-set desks d x)) h)
      ∙ node.configs k y (rw (sym (length-set desks d x)) h);
  directory = node.directory;
  directories = λ k y h.
      sym (get_or-map directory_of (set desks d x) k y (directory_of y) h)
      ∙ ap (λ cs. get_or cs k (directory_of y)) (map-set_same directory_of desks d old x l r s.2)
      ∙ get_or-map directory_of desks k y (directory_of y) (rw (sym (length-set desks d x)) h)
      ∙ node.directories k y (rw (sym (length-set desks d x)) h);
  begun = subst (IsBeginning config.start) (sym begins) node.begun;
}
  where
    begins : start_of (all_shards (set desks d x)) ≡ start_of (all_shards desks)
    begins =
        starts_stay desks (set desks d x) (length-set desks d x) (λ k y h.
        sym (get_or-map before (set desks d x) k y (before y) (omega (arith, h, length-set desks d x)))
        ∙ ap (λ cs. get_or cs k (before y)) (map-set_same before desks d old x l r s.3)
        ∙ get_or-map before desks k y (before y) h)

pub still_desks : (desks : List DeskState) (d : ℕ) (old x : DeskState) → AreDesks desks → d < length desks → old ≡ get_or desks d old → IsStill old x → AreDesks (set desks d x)
still_desks desks d old x node l r s = (node.0, still_node node.0 desks d old x node.1 l r s)

abbrev kept_place : ShardState × Sight × (Place × List (List Letter) × List ℕ) × (Place × ℕ × List (List Letter)) → Place × Place
kept_place z = (z.2.0, z.3.0)

abbrev kept_shard : ShardState × Sight × (Place × List (List Letter) × List ℕ) × (Place × ℕ × List (List Letter)) → ShardState
kept_shard z = z.0

-- desks that were kept, as a refused gathering keeps them, are still those of one node
pub kept_desks : (new old : List DeskState) → map desk_kept new ≡ map desk_kept old → AreDesks old → AreDesks new
kept_desks new old kept node =
    let count : length new ≡ length old = sym (length-map new desk_kept) ∙ ap length kept ∙ length-map old desk_kept in
    let all : map place new ≡ map place old = sym (map-map kept_place desk_kept new) ∙ ap (map kept_place) kept ∙ map-map kept_place desk_kept old in
    let shards : all_shards new ≡ all_shards old = sym (map-map kept_shard desk_kept new) ∙ ap (map kept_shard) kept ∙ map-map kept_shard desk_kept old in (
      node.0,
      record {
        some = omega (arith, count, node.1.some);
        count = count ∙ node.1.count;
        node = subst IsNode (sym all) node.1.node;
        configs = λ k y h.
            let before : k < length old = omega (arith, h, count) in
            ap (λ z. z.0.config) (sym (get_or-map desk_kept new k y (desk_kept y) h) ∙ ap (λ zs. get_or zs k (desk_kept y)) kept ∙ get_or-map desk_kept old k y (desk_kept y) before)
            ∙ node.1.configs k y before;
        directory = node.1.directory;
        directories = λ k y h.
            let before : k < length old = omega (arith, h, count) in
            ap (λ z. z.1.directory) (sym (get_or-map desk_kept new k y (desk_kept y) h) ∙ ap (λ zs. get_or zs k (desk_kept y)) kept ∙ get_or-map desk_kept old k y (desk_kept y) before)
            ∙ node.1.directories k y before;
        begun = subst (λ s. IsBeginning node.0.start (start_of s)) (sym shards) node.1.begun;
      },
    )
