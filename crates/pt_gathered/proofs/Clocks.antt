-- The greatest stamp of a gathered node.
use Rattle.std.proofs.Common.{◌≡◌, ℕ, zero, suc, ◌+◌, ◌<◌, ◌≤◌, List, [], ◌∷◌, length, max, get_or, sym, ap, ◌∙◌, subst, arith, ⊎_elim, le_refl}
use Rattle.std.proofs.lemmas.Bool.{cases_lt}
use Rattle.std.proofs.Math.Nat.{le-max_left, le-max_right, max-le}
use Rattle.pt_events.specs.declared.event.Stamped.{Stamped}
use Rattle.pt_events.specs.History.{Start}
use Rattle.pt_events.specs.Journal.{clock, IsLocal}
use Rattle.pt_signal.specs.declared.config.TheConstants.{MAX_STAMP}
use Rattle.pt_shard.specs.ShardState.{ShardState}
use Rattle.pt_gathered.specs.Gathered.{GatheredState, IsGathered, begins, journals}
use Rattle.pt_gathered.specs.Quiet.{latest_below, latest_stamp}
use Rattle.pt_gathered.proofs.Lawful.{locals, past_end}
use Rattle.pt_gathered.proofs.Told.{journal_of}

clock_within : (start : Start) (low top d : ℕ) (journal : List Stamped) → IsLocal start low top d journal → low ≤ MAX_STAMP → clock low journal ≤ MAX_STAMP
clock_within start low top d [] local h = h
clock_within start low top d (s ∷ journal) local h = local.0.within

module _ (g : GatheredState) where
  from_start : (n : ℕ) → g.config.start ≤ latest_below g n
  from_start zero = le_refl g.config.start
  from_start (suc d) = let ih = from_start d in let m = le-max_right (clock g.config.start (journals g d)) (latest_below g d) in omega (arith, ih, m)

  each_below : (n d : ℕ) → d < n → clock g.config.start (journals g d) ≤ latest_below g n
  each_below zero d h = absurd (omega arith)
  each_below (suc n) d h =
      ⊎_elim
      (λ (l : d < n). let ih = each_below n d l in let m = le-max_right (clock g.config.start (journals g n)) (latest_below g n) in omega (arith, ih, m))
      (λ (l : n ≤ d). let e : n ≡ d = omega (arith, h, l) in subst (λ k. clock g.config.start (journals g k) ≤ latest_below g (suc n)) e (le-max_left (clock g.config.start (journals g n)) (latest_below g n)))
      (cases_lt d n)

  below_within : (n : ℕ) → g.config.start ≤ MAX_STAMP → ((d : ℕ) → clock g.config.start (journals g d) ≤ MAX_STAMP) → latest_below g n ≤ MAX_STAMP
  below_within zero h each = h
  below_within (suc d) h each = max-le (each d) (below_within d h each)

module _ (g : GatheredState) (whole : IsGathered g) where
  -- a desk's clock is the newest stamp of its journal
  pub clock_of : (d : ℕ) (x : ShardState) → d < length g.shards → (get_or g.shards d x).clock ≡ clock g.config.start (journals g d)
  clock_of d x h =
      let is = whole.shards d x h in
      let s : ShardState = get_or g.shards d x in
      is.fit.clock_is ∙ ap (λ c. clock c.start s.journal) is.config_is ∙ ap (clock g.config.start) (sym (journal_of g d x h))

  pub above : (d : ℕ) → clock g.config.start (journals g d) ≤ latest_stamp g
  above d =
      ⊎_elim (λ (h : d < length g.shards). each_below g (length g.shards) d h)
      (λ (h : length g.shards ≤ d). subst (λ j. clock g.config.start j ≤ latest_stamp g) (sym (past_end g whole d h)) (from_start g (length g.shards)))
      (cases_lt d (length g.shards))

  pub shards_above : (d : ℕ) (x : ShardState) → d < length g.shards → (get_or g.shards d x).clock ≤ latest_stamp g
  shards_above d x h = subst (λ n. n ≤ latest_stamp g) (sym (clock_of d x h)) (above d)

  pub within : (x : ShardState) → 0 < length g.shards → latest_stamp g ≤ MAX_STAMP
  within x h =
      let is = whole.shards 0 x h in
      let low : g.config.start ≤ MAX_STAMP = subst (λ c. c.start ≤ MAX_STAMP) is.config_is is.fit.settings.start in
      below_within g (length g.shards) low (λ d. clock_within (begins g) g.config.start g.config.top_version d (journals g d) (locals g whole d) low)

  -- one desk more
  pub latest_next : (d : ℕ) (s : ShardState) → d < length g.shards → s ≡ get_or g.shards d s → (n : ℕ) → n ≡ latest_below g d → max n s.clock ≡ latest_below g (d + 1)
  latest_next d s h e n is =
      let c : s.clock ≡ clock g.config.start (journals g d) = ap (λ (s : ShardState). s.clock) e ∙ clock_of d s h in
      let next : d + 1 ≡ suc d = omega arith in
      rw (next, is, c) (omega arith)

-- and so where the node is seen whole
pub latest_here : (inside now : GatheredState) → inside ≡ now → IsGathered inside → (d : ℕ) (s : ShardState) → d < length inside.shards → s ≡ get_or inside.shards d s → (n : ℕ) → n ≡ latest_below now d → max n s.clock ≡ latest_below now (d + 1)
latest_here inside now e whole d s h r n is = subst (λ g. max n s.clock ≡ latest_below g (d + 1)) e (latest_next inside whole d s h r n (is ∙ ap (λ g. latest_below g d) (sym e)))
