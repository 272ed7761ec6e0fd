-- What holds of each work with its desk holds so behind a run that keeps it.
use Rattle.std.proofs.Common.{◌≡◌, ℕ, ◌<◌, List, length, get_or, sym, ap, subst, ◌∙◌, arith}
use Rattle.std.proofs.lemmas.List.{get_or-map, length-map}
use Rattle.pt_shard.specs.ShardState.{ShardState}
use Rattle.pt_desk.specs.DeskState.{DeskState}
use Rattle.pt_workers.specs.NodeRunning.{RunsPaired}

module _ {W : Type 0} (Holds : W → ShardState → Type 0) where
  -- that holds of each work with the desk at its place
  pub record EachHolds (works : List W) (desks : List DeskState) : Type 0 where
    pub count : length works ≡ length desks
    pub each : (d : ℕ) (w : W) (x : DeskState) → d < length desks → Holds (get_or works d w) (get_or desks d x).shard

  pub same_on : (w v : W) (d e : DeskState) → w ≡ v → d ≡ e → Holds w d.shard → Holds v e.shard
  same_on w v d e is at h = subst (λ (x : W). Holds x e.shard) is (subst (λ (x : DeskState). Holds w x.shard) at h)

  module _ (Runs : List (DeskState × W) → List (DeskState × W) → Type 0) (old : List DeskState) (works : List W) (new : List DeskState) (later : List W) (r : RunsPaired Runs old works new later) where
    pub paired_on : ((d : ℕ) (p : DeskState × W) → d < length r.before → Holds (get_or r.before d p).1 (get_or r.before d p).0.shard → Holds (get_or r.after d p).1 (get_or r.after d p).0.shard) → EachHolds works old → EachHolds later new
    paired_on keeps a = record {
      count = later_count ∙ sym new_count;
      each = λ d w x l.
          let p : DeskState × W = (x, w) in
          let in_after : d < length r.after = omega (arith, l, new_count) in
          let in_before : d < length r.before = omega (arith, in_after, r.each.count) in
          let was : Holds (get_or r.before d p).1 (get_or r.before d p).0.shard =
          same_on (get_or works d w) (get_or r.before d p).1 (get_or old d x) (get_or r.before d p).0
          (ap (λ (ws : List W). get_or ws d w) (sym r.begun.seconds) ∙ get_or-map (λ (q : DeskState × W). q.1) r.before d p w in_before)
          (ap (λ (ds : List DeskState). get_or ds d x) (sym r.begun.firsts) ∙ get_or-map (λ (q : DeskState × W). q.0) r.before d p x in_before)
          (a.each d w x (omega (arith, in_before, old_count))) in
          same_on (get_or r.after d p).1 (get_or later d w) (get_or r.after d p).0 (get_or new d x)
          (sym (ap (λ (ws : List W). get_or ws d w) (sym r.ended.seconds) ∙ get_or-map (λ (q : DeskState × W). q.1) r.after d p w in_after))
          (sym (ap (λ (ds : List DeskState). get_or ds d x) (sym r.ended.firsts) ∙ get_or-map (λ (q : DeskState × W). q.0) r.after d p x in_after))
          (keeps d p in_before was);
    }
      where
        old_count : length old ≡ length r.before
        old_count = sym (ap length r.begun.firsts) ∙ length-map r.before (λ (q : DeskState × W). q.0)

        new_count : length new ≡ length r.after
        new_count = sym (ap length r.ended.firsts) ∙ length-map r.after (λ (q : DeskState × W). q.0)

        later_count : length later ≡ length r.after
        later_count = sym (ap length r.ended.seconds) ∙ length-map r.after (λ (q : DeskState × W). q.1)
