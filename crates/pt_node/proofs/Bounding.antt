-- No more letters are handled than the load of the desks' one history.
use Rattle.std.proofs.Common.{◌≡◌, ℕ, zero, suc, ◌+◌, ◌-◌, ◌<◌, ◌≤◌, ◌⊎◌, inl, inr, List, [], ◌∷◌, ◌++◌, length, map, get_or, refl, sym, ap, ◌∙◌, subst, ⊎_elim, arith}
use Rattle.std.proofs.lemmas.Bool.{cases_lt}
use Rattle.std.proofs.lemmas.List.{get_or-map, get_or_past, length-map}
use Rattle.std.proofs.lemmas.List.Sums.{sum_by-cons}
use Rattle.pt_signal.specs.declared.letter.Letter.{Letter}
use Rattle.pt_events.specs.declared.event.Stamped.{Stamped}
use Rattle.pt_events.specs.Journal.{Agrees, IsLocal, IsMerge, LanesAgree, events, gots, posts}
use Rattle.pt_events.specs.Counting.{below}
use Rattle.pt_laws.specs.Load.{IsStart, load, load_by_desk}
use Rattle.pt_laws.proofs.DeskLoads.{merge_load}
use Rattle.pt_signal.specs.declared.config.Config.{Config}
use Rattle.pt_shard.specs.ShardState.{ShardState}
use Rattle.pt_shard.specs.Outbox.{held_from}
use Rattle.pt_gathered.specs.Gathered.{IsShardOf, journal_at}
use Rattle.pt_beginning.specs.Beginning.{start_of}
use Rattle.pt_gathered.specs.Settling.{Follows}
use Rattle.pt_gathered.specs.Taking.{AreShards}
use Rattle.pt_gathered.proofs.Agreeing.{local_as}
use Rattle.pt_gathered.proofs.Owned.{local_same, posts_same}
use Rattle.pt_gathered.proofs.Starts.{nobody_beyond, start_same}
use Rattle.pt_desk.specs.DeskState.{DeskState, collected_from, posted_to, waits_for}
use Rattle.pt_workers.specs.Desks.{AreDesks, AreDesksOf, AreWhole, all_shards}
use Rattle.pt_node.specs.Load.{IsWithinLoad}
use Rattle.pt_workers.specs.Looking.{HaveLanes}
use Rattle.pt_workers.specs.Stillness.{AllDesksGoOn, count_events}
use Rattle.pt_workers.proofs.Begun.{starts_stay}
use Rattle.pt_node.proofs.Receiving.{AllReceive}
use Rattle.pt_node.proofs.Together.{lane_agrees}
use Rattle.pt_node.proofs.TrueReads.{number_at}
use Rattle.pt_node.proofs.Weighing.{AreLanes, receipts_lower}

-- the events of all desks, desk by desk
below_front : (f : ℕ → ℕ) (n : ℕ) → below f (suc n) ≡ f 0 + below (λ k. f (suc k)) n
below_front f zero = refl
below_front f (suc n) = let h = below_front f n in omega arith

count_below : (desks : List DeskState) → count_events desks ≡ below (λ d. length (journal_at (all_shards desks) d)) (length desks)
count_below [] = refl
count_below (x ∷ desks) = let one : count_events (x ∷ desks) ≡ length x.shard.journal + count_events desks = sum_by-cons (λ (d : DeskState). length d.shard.journal) x desks in let h = count_below desks in let front = below_front (λ d. length (journal_at (all_shards (x ∷ desks)) d)) (length desks) in omega arith

none_agree : (posted came over : List Letter) → posted ≡ [] → came ≡ [] → over ≡ [] → Agrees posted came over
none_agree posted came over a b c = rw (a, b, c) refl

-- the desks of a node whose lanes are known; any desk to read with
module _ (config : Config) (desks : List DeskState) (node : AreDesksOf config desks) (whole : AreWhole desks) (lanes : HaveLanes desks) (x : DeskState) where
  shard_at : (d : ℕ) (y : ShardState) → d < length desks → get_or (all_shards desks) d y ≡ (get_or desks d x).shard
  shard_at d y h = get_or-map (λ (d : DeskState). d.shard) desks d x y h

  shard_count : length (all_shards desks) ≡ length desks
  shard_count = length-map desks (λ (d : DeskState). d.shard)

  are_shards : AreShards config (all_shards desks)
  are_shards d y h =
      let within : d < length desks = omega (arith, h, shard_count) in
      subst (IsShardOf config d) (sym (shard_at d y within)) (record { number = number_at config desks node whole d x within; config_is = node.configs d x within; fit = (whole d x within).fit })

  -- the shard of desk d
  module _ (d : ℕ) (h : d < length desks) where
    within : d < length (all_shards desks)
    within = omega (arith, h, shard_count)

    is_shard : IsShardOf config d (get_or (all_shards desks) d x.shard)
    is_shard = are_shards d x.shard within

    journal_here : journal_at (all_shards desks) d ≡ (get_or (all_shards desks) d x.shard).journal
    journal_here = get_or-map (λ (s : ShardState). s.journal) (all_shards desks) d x.shard [] within

    pub journal_of : journal_at (all_shards desks) d ≡ (get_or desks d x).shard.journal
    journal_of = journal_here ∙ ap (λ (s : ShardState). s.journal) (shard_at d x.shard h)

    own_local : IsLocal (get_or (all_shards desks) d x.shard).start config.start config.top_version d (get_or (all_shards desks) d x.shard).journal
    own_local = local_as config d (get_or (all_shards desks) d x.shard) is_shard

    pub local_here : IsLocal (start_of (all_shards desks)) config.start config.top_version d (journal_at (all_shards desks) d)
    local_here =
        subst (IsLocal (start_of (all_shards desks)) config.start config.top_version d) (sym journal_here)
        (local_same (get_or (all_shards desks) d x.shard).start (start_of (all_shards desks)) d (start_same config (all_shards desks) are_shards d x.shard within) config.start config.top_version (get_or (all_shards desks) d x.shard).journal own_local)

    -- what it sent, by what was before it alone
    posts_own : (e : ℕ) → posts (start_of (all_shards desks)) (journal_at (all_shards desks) d) e ≡ posts (get_or (all_shards desks) d x.shard).start (get_or (all_shards desks) d x.shard).journal e
    posts_own e =
        ap (λ j. posts (start_of (all_shards desks)) j e) journal_here
        ∙ sym (posts_same (get_or (all_shards desks) d x.shard).start (start_of (all_shards desks)) d (start_same config (all_shards desks) are_shards d x.shard within) config.start config.top_version (get_or (all_shards desks) d x.shard).journal own_local e)

    beyond : (e : ℕ) → length desks ≤ e → (get_or (all_shards desks) d x.shard).config.desks ≤ e
    beyond e k = omega (arith, k, ap (λ (c : Config). c.desks) is_shard.config_is, node.count)

    posts_near : (e : ℕ) → length desks ≤ e → posts (start_of (all_shards desks)) (journal_at (all_shards desks) d) e ≡ []
    posts_near e k = posts_own e ∙ is_shard.fit.posts_near e (beyond e k)

    gots_near : (e : ℕ) → length desks ≤ e → gots (journal_at (all_shards desks) d) e ≡ []
    gots_near e k = ap (λ j. gots j e) journal_here ∙ is_shard.fit.gots_near e (beyond e k)

    desks_of : (get_or desks d x).shard.config.desks ≡ length desks
    desks_of = ap (λ (c : Config). c.desks) (node.configs d x h) ∙ sym node.count

    sent_to : (e : ℕ) → e < length desks → posts (start_of (all_shards desks)) (journal_at (all_shards desks) d) e ≡ posted_to (get_or desks d x) e ++ waits_for (get_or desks d x) e
    sent_to e k = posts_own e ∙ ap (λ (s : ShardState). posts s.start s.journal e) (shard_at d x.shard h) ∙ (whole d x h).accounts.posted e (omega (arith, k, desks_of))

    came_from : (e : ℕ) → e < length desks → Agrees (collected_from (get_or desks d x) e) (gots (journal_at (all_shards desks) d) e) (held_from e (get_or desks d x).shard.hold)
    came_from e k = subst (λ j. Agrees (collected_from (get_or desks d x) e) (gots j e) (held_from e (get_or desks d x).shard.hold)) (sym journal_of) ((whole d x h).accounts.collected e (omega (arith, k, desks_of)))

  past_end : (d : ℕ) → length desks ≤ d → journal_at (all_shards desks) d ≡ []
  past_end d h = get_or_past (map (λ (s : ShardState). s.journal) (all_shards desks)) d [] (omega (arith, h, shard_count, length-map (all_shards desks) (λ (s : ShardState). s.journal)))

  -- the letters left over: the one in the hold, those in the lane, those that were not posted
  over_of : (d e : ℕ) → (d < length desks) ⊎ (length desks ≤ d) → (e < length desks) ⊎ (length desks ≤ e) → List Letter
  over_of d e (inl h) (inl k) = held_from d (get_or desks e x).shard.hold ++ (lanes d e x h k).0 ++ waits_for (get_or desks d x) e
  over_of d e (inl h) (inr k) = []
  over_of d e (inr h) k = []

  pub over : ℕ → ℕ → List Letter
  over d e = over_of d e (cases_lt d (length desks)) (cases_lt e (length desks))

  agree_of : (d e : ℕ) (p : (d < length desks) ⊎ (length desks ≤ d)) (q : (e < length desks) ⊎ (length desks ≤ e))
      → Agrees (posts (start_of (all_shards desks)) (journal_at (all_shards desks) d) e) (gots (journal_at (all_shards desks) e) d) (over_of d e p q)
  unfolding over_of
  agree_of d e (inl h) (inl k) =
      lane_agrees (posts (start_of (all_shards desks)) (journal_at (all_shards desks) d) e) (posted_to (get_or desks d x) e) (waits_for (get_or desks d x) e) (collected_from (get_or desks e x) d) (lanes d e x h k).0
      (gots (journal_at (all_shards desks) e) d) (held_from d (get_or desks e x).shard.hold) (sent_to d h e k) (lanes d e x h k).1 (came_from e k d h)
  agree_of d e (inl h) (inr k) = none_agree (posts (start_of (all_shards desks)) (journal_at (all_shards desks) d) e) (gots (journal_at (all_shards desks) e) d) [] (posts_near d h e k) (ap (λ j. gots j d) (past_end e k)) refl
  agree_of d e (inr h) (inl k) =
      none_agree (posts (start_of (all_shards desks)) (journal_at (all_shards desks) d) e) (gots (journal_at (all_shards desks) e) d) [] (ap (λ j. posts (start_of (all_shards desks)) j e) (past_end d h)) (gots_near e k d h) refl
  agree_of d e (inr h) (inr k) =
      none_agree (posts (start_of (all_shards desks)) (journal_at (all_shards desks) d) e) (gots (journal_at (all_shards desks) e) d) []
      (ap (λ j. posts (start_of (all_shards desks)) j e) (past_end d h)) (ap (λ j. gots j d) (past_end e k)) refl

  lanes_agree : LanesAgree (start_of (all_shards desks)) (journal_at (all_shards desks)) over
  unfolding over
  lanes_agree d e = agree_of d e (cases_lt d (length desks)) (cases_lt e (length desks))

  pub are_lanes : AreLanes (length desks) (start_of (all_shards desks)) (journal_at (all_shards desks)) over
  are_lanes = record { agree = λ d e h k. lanes_agree d e; posts_near = λ d e h k. posts_near d h e k; gots_near = λ e d h k. gots_near e h d k }

  none_over : (d e : ℕ) → length desks ≤ e → over d e ≡ []
  unfolding over over_of
  none_over d e past = go (cases_lt d (length desks)) (cases_lt e (length desks))
    where
      go : (p : (d < length desks) ⊎ (length desks ≤ d)) (q : (e < length desks) ⊎ (length desks ≤ e)) → over_of d e p q ≡ []
      go (inl h) (inl k) = absurd (omega (arith, k, past))
      go (inl h) (inr k) = refl
      go (inr h) k = refl

  local_at : (d : ℕ) → IsLocal (start_of (all_shards desks)) config.start config.top_version d (journal_at (all_shards desks) d)
  local_at d = ⊎_elim (λ (h : d < length desks). local_here d h) (λ (h : length desks ≤ d). rw (past_end d h) tt) (cases_lt d (length desks))

  pub begins_once : IsStart (start_of (all_shards desks))
  begins_once = node.begun.once

  pub load_is : (merged : List Stamped) → IsMerge (journal_at (all_shards desks)) merged
      → load_by_desk (start_of (all_shards desks)) (journal_at (all_shards desks)) over (length desks) ≡ load (start_of (all_shards desks)) (events merged)
  load_is merged m =
      merge_load (start_of (all_shards desks)) config.start config.top_version (length desks) (journal_at (all_shards desks)) over merged local_at lanes_agree m
      (record { journals = past_end; lanes = none_over; begun = λ p h. nobody_beyond config (all_shards desks) are_shards p (omega (arith, h, shard_count)) })

-- a desk to read with
some_desk : (desks : List DeskState) → 0 < length desks → DeskState
some_desk [] h = absurd (omega (arith, h))
some_desk (x ∷ desks) h = x

module _ (old new : List DeskState) (old_node : AreDesks old) (new_node : AreDesks new) (old_whole : AreWhole old) (new_whole : AreWhole new) (old_lanes : HaveLanes old) (new_lanes : HaveLanes new)
    (goes : AllDesksGoOn old new) (receive : AllReceive old new) where
  pub bounded : (handled : ℕ) → handled ≤ count_events new - count_events old → IsWithinLoad old handled
  bounded handled counted merged m =
      let x : DeskState = some_desk old old_node.1.some in
      let same = starts_stay old new goes.count (λ d y h. (goes.each d y h).shard.start) in
      let was = old_node.1 in
      let is = new_node.1 in
      let lower = receipts_lower (length old) (start_of (all_shards old)) new_node.0.start new_node.0.top_version (journal_at (all_shards old)) (journal_at (all_shards new)) (over old_node.0 old was old_whole old_lanes x) (over new_node.0 new is new_whole new_lanes x)
      (begins_once old_node.0 old was old_whole old_lanes x)
      (λ d h. subst (λ b. IsLocal b new_node.0.start new_node.0.top_version d (journal_at (all_shards new) d)) same (local_here new_node.0 new is new_whole new_lanes x d (omega (arith, h, goes.count))))
      (λ d h. subst (λ j. Follows j (journal_at (all_shards new) d)) (sym (journal_of old_node.0 old was old_whole old_lanes x d h))
      (subst (Follows (get_or old d x).shard.journal) (sym (journal_of new_node.0 new is new_whole new_lanes x d (omega (arith, h, goes.count)))) (receive.each d x h)))
      (are_lanes old_node.0 old was old_whole old_lanes x)
      (subst (λ n. AreLanes n (start_of (all_shards old)) (journal_at (all_shards new)) (over new_node.0 new is new_whole new_lanes x)) goes.count
      (subst (λ b. AreLanes (length new) b (journal_at (all_shards new)) (over new_node.0 new is new_whole new_lanes x)) same (are_lanes new_node.0 new is new_whole new_lanes x))) in
      let load = load_is old_node.0 old was old_whole old_lanes x merged m in
      let before = count_below old in
      let behind : count_events new ≡ below (λ d. length (journal_at (all_shards new) d)) (length old) = count_below new ∙ ap (below (λ d. length (journal_at (all_shards new) d))) goes.count in
      omega (arith, counted, lower, load, before, behind)
