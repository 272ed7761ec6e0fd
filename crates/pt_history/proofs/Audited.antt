-- The history of a node that was opened passes the audit: its journals are those of one node.
use Rattle.std.proofs.Common.{◌≡◌, ℕ, zero, suc, ◌<◌, ◌≤◌, Option, None, List, [], ◌∷◌, ◌++◌, length, map, get_or, refl, sym, ap, ◌∙◌, subst, ⊎_elim, arith}
use Rattle.std.specs.Prelude.{reverse}
use Rattle.std.proofs.lemmas.Bool.{cases_lt}
use Rattle.pt_signal.specs.declared.pid.Pid.{Pid}
use Rattle.pt_signal.specs.declared.letter.LeftOver.{LeftOver}
use Rattle.pt_events.specs.declared.event.Event.{Event}
use Rattle.pt_events.specs.declared.event.Event.TheVariants.{Born, Said, Came, Took, Flag, Left, Refused}
use Rattle.pt_events.specs.declared.event.Stamped.{Stamped}
use Rattle.pt_events.specs.History.{Past, at_start, is_ended, unborn, life}
use Rattle.pt_events.specs.Journal.{IsMerge, LanesAgree, Agrees, events, posts, gots}
use Rattle.pt_events.specs.Refusals.{stamped_below, IsTrueRefusal, AllTrueRefusals}
use Rattle.pt_laws.specs.Resumed.{IsKnownAs}
use Rattle.pt_signal.specs.declared.config.Config.{Config}
use Rattle.pt_shard.specs.Opening.{fresh_shard}
use Rattle.pt_shard.specs.ShardState.{ShardState}
use Rattle.pt_gathered.specs.Gathered.{GatheredState, IsGathered, begins, journals, over, over_in}
use Rattle.pt_gathered.specs.LeftOvers.{joined_letters, from_to, all_left}
use Rattle.pt_gathered.specs.Pasts.{GoesOnBut}
use Rattle.pt_gathered.proofs.Agreeing.{at_map}
use Rattle.pt_gathered.proofs.Lawful.{lanes_agree, locals, past_end}
use Rattle.pt_gathered.proofs.Overs.{over_both, over_right}
use Rattle.pt_gathered.proofs.Owned.{life_same, local_same, posts_same}
use Rattle.pt_auditor.specs.declared.foreign.Foreign.{Foreign}
use Rattle.pt_auditor.specs.Foreigners.{IsOrigin}
use Rattle.pt_history.specs.Passing.{PassesAudit, JournalsPass, CallsPass, AllCalledHere, AreOfOneNode, left_in_turn}
use Rattle.pt_history.specs.Calling.{IsCalledDesk}

-- the lists are the same, one for one
each_same : (f h : ℕ → List LeftOver) (n : ℕ) → ((k : ℕ) → k < n → f k ≡ h k) → joined_letters f n ≡ joined_letters h n
each_same f h zero are = refl
each_same f h (suc n) are = ap (λ z. z ++ f n) (each_same f h n (λ k l. are k (omega (arith, l)))) ∙ ap (λ z. joined_letters h n ++ z) (are n (omega arith))

module _ (g : GatheredState) (whole : IsGathered g) (from : GoesOnBut [] g) where
  -- nobody was before
  nobody : (p : Pid) → at_start (begins g) p ≡ unborn
  nobody p = ⊎_elim (λ h. h) (λ h. h) (subst (λ (past : Past). IsKnownAs (at_start (begins g) p) (life [] past p)) from.past_is (from.begun.left.alike p))

  same : (d : ℕ) (p : Pid) → p.shard ≡ d → at_start (begins g) p ≡ at_start [] p
  same d p h = nobody p

  count : ℕ
  count = length g.shards

  few : length g.shards ≤ 64
  few =
      let s = whole.shards 0 (fresh_shard g.config 0) whole.some in
      let most = s.fit.settings.desks in
      let is = ap (λ c. c.desks) s.config_is in
      omega (arith, most, is, whole.desks)

  agree : LanesAgree [] (journals g) (over g)
  agree d e =
      subst (λ z. Agrees z (gots (journals g e) d) (over g d e))
      (posts_same (begins g) [] d (same d) g.config.start g.config.top_version (journals g d) (locals g whole d) e) (lanes_agree g whole d e)

  true_of : (n : ℕ) (e : Event) → IsTrueRefusal (begins g) (journals g) n e → IsTrueRefusal [] (journals g) n e
  true_of n (Refused a b) h = sym (ap is_ended (life_same (begins g) [] b.shard (same b.shard) (events (stamped_below n (journals g b.shard))) b refl)) ∙ h
  true_of n (Born p parent link) h = tt
  true_of n (Said a b x) h = tt
  true_of n (Came a b x) h = tt
  true_of n (Took p k i) h = tt
  true_of n (Flag p on) h = tt
  true_of n (Left p r) h = tt

  all_true : (noted : List Stamped) → AllTrueRefusals (begins g) (journals g) noted → AllTrueRefusals [] (journals g) noted
  all_true [] h = tt
  all_true (s ∷ noted) h = (true_of s.stamp s.event h.0, all_true noted h.1)

  -- nothing is sent to a desk that the node has not
  none_posted : (d e : ℕ) → length g.shards ≤ e → posts [] (journals g d) e ≡ []
  none_posted d e h =
      let all = subst (λ z. Agrees (posts [] (journals g d) e) (gots z d) (over g d e)) (past_end g whole e h) (agree d e) in
      all ∙ over_right g d e h

  one_node : AreOfOneNode g.config.start g.config.top_version (length g.shards) (journals g) (over g)
  one_node = record {
    few = few;
    local = λ d. local_same (begins g) [] d (same d) g.config.start g.config.top_version (journals g d) (locals g whole d);
    agree = agree;
    refusals = λ d. all_true (journals g d) (whole.refusals d);
    none_beyond = past_end g whole;
    none_posted = none_posted;
  }

  left_is : all_left g ≡ left_in_turn (over g) (length g.shards)
  left_is =
      each_same (λ d. joined_letters (λ e. map (from_to d e) (over_in g.shards g.lanes d e)) (length g.shards)) (λ d. joined_letters (λ e. map (from_to d e) (over g d e)) (length g.shards)) (length g.shards)
      (λ d h. each_same (λ e. map (from_to d e) (over_in g.shards g.lanes d e)) (λ e. map (from_to d e) (over g d e)) (length g.shards)
      (λ e k. ap (map (from_to d e)) (sym (over_both g d e h k))))

  pub node_passes : JournalsPass → (merged : List Stamped) → IsMerge (journals g) merged → PassesAudit merged (reverse (all_left g))
  node_passes law merged m =
      subst (λ z. PassesAudit merged (reverse z)) (sym left_is)
      (law g.config.start g.config.top_version (length g.shards) (journals g) (over g) merged one_node m)

  called_at : ((d : ℕ) (x : ShardState) → d < length g.shards → IsCalledDesk (journals g) (get_or g.shards d x)) → (d : ℕ) → AllCalledHere g.config.start d (journals g) (journals g d)
  called_at all d =
      ⊎_elim
      (λ (h : d < length g.shards).
      at_map (λ (s : ShardState). s.journal) (λ j. AllCalledHere g.config.start d (journals g) j) g.shards d [] h (λ x.
      let w = whole.shards d x h in
      subst (λ (c : Config). AllCalledHere c.start d (journals g) (get_or g.shards d x).journal) w.config_is
      (subst (λ n. AllCalledHere (get_or g.shards d x).config.start n (journals g) (get_or g.shards d x).journal) w.number (all d x h))))
      (λ (h : length g.shards ≤ d). subst (λ (z : List Stamped). AllCalledHere g.config.start d (journals g) z) (sym (past_end g whole d h)) tt)
      (cases_lt d (length g.shards))

  pub node_calls_pass : CallsPass → (merged : List Stamped) → IsMerge (journals g) merged → ((d : ℕ) (x : ShardState) → d < length g.shards → IsCalledDesk (journals g) (get_or g.shards d x))
      → (o : Option Foreign) → IsOrigin merged (reverse (all_left g)) o → o ≡ None
  node_calls_pass law merged m all o h =
      law g.config.start g.config.top_version (length g.shards) (journals g) (over g) merged one_node (called_at all) m o
      (subst (λ z. IsOrigin merged (reverse z) o) left_is h)
