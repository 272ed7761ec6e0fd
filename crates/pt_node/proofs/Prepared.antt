-- What a quiet node that goes on tells its new directory.
use Rattle.std.proofs.Common.{◌≡◌, ℕ, ◌+◌, ◌<◌, ◌≤◌, false, true, List, [], length, map, get_or, refl, ap, ◌∙◌, subst, arith}
use lib.ListN.{get_elem?}
use mathlib.Core.Option.{some}
use Rattle.pt_signal.specs.declared.pid.Pid.{Pid}
use Rattle.pt_signal.specs.declared.config.TheConstants.{MAX_STAMP}
use Rattle.pt_events.specs.History.{Phase, unborn, living, ended, is_ended, is_unborn}
use Rattle.pt_accounts.specs.DeskLives.{DeskTable, latest_ends}
use Rattle.pt_directory.specs.Seats.{AreEnded, death_of, given_deaths}
use Rattle.pt_signal.specs.declared.config.Config.{Config}
use Rattle.pt_shard.specs.ShardState.{ShardState, past, phase_of}
use Rattle.pt_signal.specs.Settings.{IsInRange}
use Rattle.pt_shard.specs.Opening.{fresh_shard}
use Rattle.pt_gathered.specs.Gathered.{GatheredState, IsGathered}
use Rattle.pt_gathered.specs.Tables.{IsTold}
use Rattle.pt_gathered.specs.Quiet.{AreInTurn, ends_of}
use Rattle.pt_desk.proofs.Before.{latest_apart, latest_told}
use Rattle.pt_node.proofs.Ended.{are_ended, given_at}

pub born : (f : Phase) → is_ended f ≡ true → is_unborn f ≡ false
born unborn h = absurd (cc)
born (living s) h = absurd (cc)
born (ended r s) h = refl

module _ (g : GatheredState) (whole : IsGathered g) (n : ℕ) (within : n ≤ MAX_STAMP) where
  pub range : IsInRange (record g.config { start = n })
  range =
      let some = whole.some in
      let is = whole.shards 0 (fresh_shard g.config 0) some in
      let r : IsInRange g.config = subst IsInRange is.config_is is.fit.settings in
      record {
        some_desks = r.some_desks;
        desks = r.desks;
        some_slots = r.some_slots;
        slots = r.slots;
        top_version = r.top_version;
        some_lane = r.some_lane;
        lane = r.lane;
        start = within;
      }

  module _ (tables : List DeskTable) (count : length tables ≡ length g.shards)
      (told : (d : ℕ) (x : ShardState) (t : DeskTable) → d < length g.shards → IsTold (get_or g.shards d x) (get_or tables d t))
      (turns : AreInTurn g.shards) (since : (d : ℕ) (x : ShardState) → d < length g.shards → (p : Pid) → is_unborn (phase_of (get_or g.shards d x) p) ≡ false → 0 < n) where
    abbrev shard : ℕ → ShardState
    shard d = get_or g.shards d (fresh_shard g.config 0)

    module _ (d : ℕ) (t : DeskTable) (h : d < length tables) where
      here : d < length g.shards
      here = omega (arith, h, count)

      of_desk : (k : ℕ) (p : Pid) → get_elem? (latest_ends (get_or tables d t)) k ≡ some p → (p.shard ≡ d) × (is_ended (phase_of (shard d) p) ≡ true)
      of_desk k p at =
          let a = latest_told (shard d).start (shard d).number (past (shard d)) (get_or tables d t) (told d (fresh_shard g.config 0) t here) k p at in
          (a.0 ∙ (whole.shards d (fresh_shard g.config 0) here).number, a.1)

      own : (k : ℕ) (p : Pid) → get_elem? (latest_ends (get_or tables d t)) k ≡ some p → p.shard ≡ 0 + d
      own k p at = let a = (of_desk k p at).0 in omega arith

      each : (k : ℕ) (p : Pid) → get_elem? (latest_ends (get_or tables d t)) k ≡ some p → (p.shard < g.config.desks) × (p.slot < g.config.slots) × (0 < p.version) × (0 < n)
      each k p at =
          let a = of_desk k p at in
          let was = born (phase_of (shard d) p) a.1 in
          let turn = turns d (fresh_shard g.config 0) here p was in (
            omega (arith, a.0, here, whole.desks),
            omega (arith, turn.slot, ap (λ (c : Config). c.slots) (whole.shards d (fresh_shard g.config 0) here).config_is),
            turn.version,
            since d (fresh_shard g.config 0) here p was,
          )

    pub ended_here : AreEnded g.config.desks g.config.slots (ends_of n tables)
    ended_here =
        are_ended n g.config.desks g.config.slots tables own
        (λ d t h. latest_apart (shard d).start (shard d).number (past (shard d)) (get_or tables d t) (told d (fresh_shard g.config 0) t (here d t h)))
        each (record { desk = 0; slots = []; read = 0 })

    pub given_here : (d : ℕ) (t : DeskTable) → d < length tables → given_deaths d (ends_of n tables) ≡ map (λ p. death_of p n) (latest_ends (get_or tables d t))
    given_here d t h =
        let e : 0 + d ≡ d = omega arith in
        subst (λ k. given_deaths k (ends_of n tables) ≡ map (λ p. death_of p n) (latest_ends (get_or tables d t))) e (given_at n 0 tables own d t h)
