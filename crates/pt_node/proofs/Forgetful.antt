-- The desks of a node that goes on and forgets why its processes ended.
use Rattle.std.proofs.Common.{◌≡◌, ℕ, ◌<◌, List, [], ◌∷◌, ◌++◌, length, map, get_or, refl, sym, ap, ◌∙◌, subst, arith}
use Rattle.std.proofs.lemmas.List.{get_or-map, length-map}
use Rattle.pt_events.specs.History.{Past}
use Rattle.pt_events.specs.Journal.{events}
use Rattle.pt_signal.specs.declared.config.Config.{Config}
use Rattle.pt_carrier.specs.Node.{IsNode}
use Rattle.pt_shard.specs.ShardState.{ShardState}
use Rattle.pt_shard.specs.Restart.{restarted, forgetful}
use Rattle.pt_beginning.specs.Beginning.{IsBeginning, start_of}
use Rattle.pt_gathered.specs.Gathered.{GatheredState}
use Rattle.pt_gathered.specs.Pasts.{IsOutlineOf}
use Rattle.pt_gathered.specs.Quiet.{latest_stamp}
use Rattle.pt_gathered.proofs.Forgetting.{beginning_without, outline_without}
use Rattle.pt_desk.specs.DeskState.{DeskState, place}
use Rattle.pt_desk.specs.Forgetting.{forgetful_desk}
use Rattle.pt_workers.specs.Desks.{AreDesksOf, all_shards}
use Rattle.pt_node.specs.Pasts.{GoOnBut}
use Rattle.pt_node.specs.Resuming.{Resumes, ResumesForgetful}

shards_forget : (desks : List DeskState) → all_shards (map forgetful_desk desks) ≡ map forgetful (all_shards desks)
shards_forget [] = refl
shards_forget (d ∷ desks) = ap (λ z. forgetful d.shard ∷ z) (shards_forget desks)

places_stay : (desks : List DeskState) → map place (map forgetful_desk desks) ≡ map place desks
places_stay [] = refl
places_stay (d ∷ desks) = ap (λ z. place d ∷ z) (places_stay desks)

pub forgetful_node : (config : Config) (desks : List DeskState) → AreDesksOf config desks → AreDesksOf config (map forgetful_desk desks)
forgetful_node config desks node =
    let count = length-map desks forgetful_desk in record {
      some = omega (arith, node.some, count);
      count = count ∙ node.count;
      node = subst IsNode (sym (places_stay desks)) node.node;
      configs = λ d x h. ap (λ (s : DeskState). s.shard.config) (at d x (omega (arith, h, count))) ∙ configs d x (omega (arith, h, count));
      directory = node.directory;
      directories = λ d x h. ap (λ (s : DeskState). s.sight.directory) (at d x (omega (arith, h, count))) ∙ node.directories d x (omega (arith, h, count));
      begun = subst (λ s. IsBeginning config.start (start_of s)) (sym (shards_forget desks)) (beginning_without config.start (all_shards desks) node.begun);
    }
  where
    at : (d : ℕ) (x : DeskState) → d < length desks → get_or (map forgetful_desk desks) d x ≡ forgetful_desk (get_or desks d x)
    at d x h = get_or-map forgetful_desk desks d x x h

    configs : (d : ℕ) (x : DeskState) → d < length desks → (get_or desks d x).shard.config ≡ config
    configs d x h = node.configs d x h

forgetful_past : (past : Past) (desks : List DeskState) → GoOnBut past desks → GoOnBut past (map forgetful_desk desks)
forgetful_past past desks from = record {
  config = from.config;
  node = forgetful_node from.config desks from.node;
  begun = subst (λ s. IsOutlineOf past from.config.start (start_of s)) (sym (shards_forget desks)) (outline_without past from.config.start (all_shards desks) from.begun);
}

pub resumes_forgetful : (g : GatheredState) (before desks : List DeskState) → Resumes g before → desks ≡ map forgetful_desk before → ResumesForgetful g desks
resumes_forgetful g before desks resumes is = record {
  before = before;
  resumes = resumes;
  forgets = is;
  node = subst (AreDesksOf (record g.config { start = latest_stamp g })) (sym is) (forgetful_node (record g.config { start = latest_stamp g }) before resumes.node);
  outline = λ past merged from m. subst (GoOnBut (events merged ++ past)) (sym is) (forgetful_past (events merged ++ past) before (resumes.outline past merged from m));
}

-- nothing has happened on desks that go on
pub journals_empty : (g : GatheredState) (desks : List DeskState) → Resumes g desks → (d : ℕ) (x : DeskState) → d < length desks → (get_or desks d x).shard.journal ≡ []
journals_empty g desks resumes d x h =
    let n = latest_stamp g in
    let count : length desks ≡ length g.shards = sym (length-map desks (λ (d : DeskState). d.shard)) ∙ ap length resumes.shards ∙ length-map g.shards (restarted n) in
    let shard : (get_or desks d x).shard ≡ restarted n (get_or g.shards d x.shard) =
    sym (get_or-map (λ (d : DeskState). d.shard) desks d x x.shard h) ∙ ap (λ z. get_or z d x.shard) resumes.shards
    ∙ get_or-map (restarted n) g.shards d x.shard x.shard (omega (arith, h, count)) in
    ap (λ (s : ShardState). s.journal) shard
