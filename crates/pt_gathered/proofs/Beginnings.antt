-- What the desks of a settled node leave behind is again a beginning.
use Rattle.std.proofs.Common.{◌≡◌, inl, inr, ℕ, ◌+◌, ◌<◌, ◌≤◌, false, cond, List, [], ◌∷◌, ◌++◌, length, map, get_or, refl, sym, ap, ◌∙◌, subst, arith, ⊎_elim}
use Rattle.std.specs.Map.{keys_of}
use Rattle.std.proofs.lemmas.Bool.{cases_lt}
use Rattle.std.proofs.lemmas.List.{get_or-map, length-map}
use Rattle.pt_signal.specs.declared.pid.Pid.{Pid}
use Rattle.pt_signal.specs.Values.{same_pid, same_ref}
use Rattle.pt_signal.specs.Process.{same_watch}
use Rattle.pt_events.specs.declared.event.Event.{Event}
use Rattle.pt_events.specs.declared.event.Event.TheVariants.{Born}
use Rattle.pt_events.specs.declared.event.Stamped.{Stamped}
use Rattle.pt_events.specs.History.{Past, Start, Phase, unborn, living, ended, at_start, phase_or_unborn, life, state_of, is_unborn}
use Rattle.pt_events.specs.Journal.{events, clock, IsHome, IsLocal, IsMerge}
use Rattle.pt_events.specs.Leaving.{pids, outcome, start_after}
use Rattle.pt_events.proofs.Leaving.{leaves_each}
use Rattle.pt_events.proofs.Phases.{each_branch}
use Rattle.pt_laws.specs.Load.{IsStart, times}
use Rattle.pt_events.specs.Counting.{count}
use Rattle.pt_events.specs.OldRefs.{HasOldRefs}
use Rattle.pt_events.specs.Locality.{JournalsSay}
use Rattle.pt_laws.specs.JournalLaws.{MergeIsThere}
use Rattle.pt_laws.specs.LinkLaws.{MergeKnown, KnownAgain}
use Rattle.pt_laws.specs.Resumed.{MadeUpTo, HasAllReasons}
use Rattle.pt_laws.specs.Words.{HasOneEntryEach, KeepsEachOnce}
use Rattle.pt_laws.specs.ResumedLaws.{LeftAgain, ResumedStart, StampsNumber, BothNumber, StampsAreNew, OldRefsResumed}
use Rattle.pt_laws.proofs.lanes.Load.{born_once}
use Rattle.pt_laws.proofs.living.Resumed.{reasons_stay}
use Rattle.pt_shard.specs.ShardState.{ShardState, past}
use Rattle.pt_shard.specs.Begun.{Every}
use Rattle.pt_shard.specs.Opening.{fresh_shard}
use Rattle.pt_shard.specs.Restart.{restarted}
use Rattle.pt_gathered.specs.Gathered.{GatheredState, IsGathered, begins, journals}
use Rattle.pt_beginning.specs.Beginning.{start_of}
use Rattle.pt_gathered.specs.Lawful.{IsQuietNode, BeginsAgain}
use Rattle.pt_gathered.specs.Pasts.{IsOutlineOf}
use Rattle.pt_gathered.proofs.Starts.{Own, own_each, owned, at_own, above_all, start_same, nobody_beyond}
use Rattle.pt_gathered.proofs.Once.{once_in, once_all}
use Rattle.pt_gathered.proofs.Owned.{life_same}
use Rattle.pt_gathered.proofs.Agreeing.{local_as}
use Rattle.pt_gathered.proofs.Lawful.{locals, past_end, made_new}

-- of one desk -------------------------------------------------------------------------------

outcome_unborn : (f : Phase) → is_unborn (outcome f) ≡ is_unborn f
outcome_unborn unborn = refl
outcome_unborn (living s) = refl
outcome_unborn (ended r s) = refl

-- whoever was born, at the start or by the journal, was born at a stamp that is not 0
pub since_in : (start : Start) (low top d : ℕ) (journal : List Stamped) → IsLocal start low top d journal → (p : Pid) → (is_unborn (at_start start p) ≡ false → 0 < low) → (n : ℕ) → clock low journal ≤ n
    → is_unborn (life start (events journal) p) ≡ false → 0 < n
since_in start low top d [] local p since n above born = let h = since born in omega arith
since_in start low top d (s ∷ journal) local p since n above born = let h = local.0.later in omega arith

keys_paired : (f : Pid → Phase) (ps : List Pid) → keys_of (map (λ q. (q, f q)) ps) ≡ ps
keys_paired f [] = refl
keys_paired f (p ∷ ps) = ap (λ z. p ∷ z) (keys_paired f ps)

-- what is left behind has each process once
once_after : (start : Start) → IsStart start → (old : Past) → IsStart (start_after start old)
once_after start once old p =
    subst (λ ps. times p ps ≡ cond (is_unborn (at_start (start_after start old) p)) 0 1) (sym (keys_paired (λ q. outcome (life start old q)) (pids start old)))
    (subst (λ b. times p (pids start old) ≡ cond b 0 1) (sym (ap is_unborn (leaves_each start old p) ∙ outcome_unborn (life start old p))) (born_once start once old p))

module _ (d : ℕ) where
  abbrev AllOwn : List Pid → Type 0
  AllOwn ps = Every (λ (p : Pid). p.shard ≡ d) ps

  own_both : (ps qs : List Pid) → AllOwn ps → AllOwn qs → AllOwn (ps ++ qs)
  own_both [] qs h k = k
  own_both (p ∷ ps) qs h k = (h.0, own_both ps qs h.1 k)

  own_keys : (start : Start) → Every (λ (b : Pid × Phase). b.0.shard ≡ d) start → AllOwn (keys_of start)
  own_keys [] h = tt
  own_keys (b ∷ start) h = (h.0, own_keys start h.1)

  own_pids : (start : Start) → Every (λ (b : Pid × Phase). b.0.shard ≡ d) start → (low top : ℕ) (journal : List Stamped) → IsLocal start low top d journal → AllOwn (pids start (events journal))
  own_pids start own low top [] local = own_keys start own
  own_pids start own low top (s ∷ journal) local = more (own_pids start own low top journal local.1) s.event local.0.home
    where
      more : AllOwn (pids start (events journal)) → (e : Event) → IsHome d e → AllOwn (pids start (e ∷ events journal))
      more ih (Born q parent link) home =
          own_both (pids start (events journal)) (cond (is_unborn (life start (events journal) q)) (q ∷ []) []) ih
          (each_branch AllOwn (is_unborn (life start (events journal) q)) (q ∷ []) [] (home.0, tt) tt)
      more ih _ home = ih

  own_entries : (f : Pid → Phase) (ps : List Pid) → AllOwn ps → Every (λ (b : Pid × Phase). b.0.shard ≡ d) (map (λ p. (p, f p)) ps)
  own_entries f [] h = tt
  own_entries f (p ∷ ps) h = (h.0, own_entries f ps h.1)

-- of all ------------------------------------------------------------------------------------

module _ (g : GatheredState) (whole : IsGathered g) (n : ℕ) where
  abbrev left : List ShardState
  left = map (restarted n) g.shards

  count_left : length left ≡ length g.shards
  count_left = length-map g.shards (restarted n)

  at_left : (d : ℕ) (x : ShardState) → d < length g.shards → get_or left d x ≡ restarted n (get_or g.shards d x)
  at_left d x h = get_or-map (restarted n) g.shards d x x h

  own_before : (d : ℕ) (x : ShardState) → d < length g.shards → Every (λ (b : Pid × Phase). b.0.shard ≡ d) (get_or g.shards d x).start
  own_before d x h = subst (λ k. Every (λ (b : Pid × Phase). b.0.shard ≡ k) (get_or g.shards d x).start) (whole.shards d x h).number (whole.shards d x h).fit.begun.own

  own_after : (d : ℕ) (x : ShardState) → d < length g.shards → Every (λ (b : Pid × Phase). b.0.shard ≡ d) (restarted n (get_or g.shards d x)).start
  own_after d x h =
      let s : ShardState = get_or g.shards d x in
      own_entries d (λ p. outcome (life s.start (past s) p)) (pids s.start (past s))
      (own_pids d s.start (own_before d x h) g.config.start g.config.top_version s.journal (local_as g.config d s (whole.shards d x h)))

  own_left : (d : ℕ) (x : ShardState) → d < length left → Every (λ (b : Pid × Phase). b.0.shard ≡ d) (get_or left d x).start
  own_left d x h = let k : d < length g.shards = omega (arith, h, count_left) in subst (λ (s : ShardState). Every (λ (b : Pid × Phase). b.0.shard ≡ d) s.start) (sym (at_left d x k)) (own_after d x k)

  all_own : Own 0 left
  all_own = own_each 0 left (λ d x h. let at : d ≡ 0 + d = omega arith in subst (λ k. Every (λ (b : Pid × Phase). b.0.shard ≡ k) (get_or left d x).start) at (own_left d x h))

  -- each pid is at the start what the journal of its desk says that became of it
  pub begun_at : (x : ShardState) (p : Pid) → at_start (start_of left) p ≡ outcome (life (begins g) (events (journals g p.shard)) p)
  begun_at x p = ⊎_elim inside outside (cases_lt p.shard (length g.shards))
    where
      inside : p.shard < length g.shards → at_start (start_of left) p ≡ outcome (life (begins g) (events (journals g p.shard)) p)
      inside h =
          let s : ShardState = get_or g.shards p.shard x in
          let at : p.shard ≡ 0 + p.shard = omega arith in
          let k : p.shard < length left = omega (arith, h, count_left) in
          ap phase_or_unborn (sym (at_own 0 left all_own p.shard x k p at))
          ∙ ap (λ (r : ShardState). at_start r.start p) (at_left p.shard x h)
          ∙ leaves_each s.start (past s) p
          ∙ ap outcome (life_same s.start (begins g) p.shard (start_same g.config g.shards whole.shards p.shard x h) (past s) p refl)
          ∙ ap (λ j. outcome (life (begins g) (events j) p)) (sym (get_or-map (λ (s : ShardState). s.journal) g.shards p.shard x [] h))

      outside : length g.shards ≤ p.shard → at_start (start_of left) p ≡ outcome (life (begins g) (events (journals g p.shard)) p)
      outside h =
          ap phase_or_unborn (above_all 0 left all_own p (omega (arith, h, count_left)))
          ∙ sym (ap (λ j. outcome (life (begins g) (events j) p)) (past_end g whole p.shard h) ∙ ap outcome (nobody_beyond g.config g.shards whole.shards p h))

  -- whoever is there was born at a stamp that is not 0
  born_since : ((d : ℕ) → clock g.config.start (journals g d) ≤ n) → (x : ShardState) (p : Pid) → is_unborn (at_start (start_of left) p) ≡ false → 0 < n
  born_since above x p born =
      since_in (begins g) g.config.start g.config.top_version p.shard (journals g p.shard) (locals g whole p.shard) p (whole.begun.since p) n (above p.shard)
      (sym (outcome_unborn (life (begins g) (events (journals g p.shard)) p)) ∙ sym (ap is_unborn (begun_at x p)) ∙ born)

  once_left : (x : ShardState) → IsStart (start_of left)
  once_left x =
      once_all left all_own
      (λ d y h.
      let k : d < length g.shards = omega (arith, h, count_left) in
      let s : ShardState = get_or g.shards d y in
      subst (λ (r : ShardState). IsStart r.start) (sym (at_left d y k)) (once_after s.start (once_in g.shards (owned g.config g.shards whole.shards) whole.begun.once d y k (own_before d y k)) (past s)))
      x

  -- so it is what every merge of the journals leaves behind
  module _ (says : JournalsSay) (x : ShardState) (merged : List Stamped) (m : IsMerge (journals g) merged) where
    alike : (p : Pid) → at_start (start_of left) p ≡ at_start (start_after (begins g) (events merged)) p
    alike p =
        begun_at x p
        ∙ ap outcome (says (begins g) g.config.start g.config.top_version (journals g) merged p (locals g whole) m).0
        ∙ sym (leaves_each (begins g) (events merged) p)

    -- with all reasons, if none was forgotten
    pub reasons_after : (old : Past) → IsStart (begins g) → HasAllReasons (begins g) old → HasAllReasons (start_of left) (events merged ++ old)
    reasons_after old once all p = alike p ∙ reasons_stay (begins g) old (events merged) once all p

-- what is numbered up to a stamp is numbered up to a later one
made_later : (low n : ℕ) (past : Past) → low ≤ n → MadeUpTo low past → MadeUpTo n past
made_later low n past h made = (λ i k. made.0 i (omega (arith, h, k)), λ r k. made.1 r (omega (arith, h, k)))

module _ (g : GatheredState) (whole : IsGathered g) (quiet : IsQuietNode g) (say : JournalsSay) (new : StampsAreNew) (again : LeftAgain) (resumes : ResumedStart) (known : MergeKnown) (known_again : KnownAgain) (stamps : StampsNumber) (both : BothNumber) (refs : OldRefsResumed) where
  pub from_merge : (n : ℕ) → ((d : ℕ) → clock g.config.start (journals g d) ≤ n) → (x : ShardState) (merged : List Stamped) → IsMerge (journals g) merged
      → IsOutlineOf (events merged ++ whole.begun.past) n (start_of (map (restarted n) g.shards))
  from_merge n above x merged m =
      let b = whole.begun in
      let low = g.config.start in
      let top = g.config.top_version in
      let here = locals g whole in
      let q = quiet merged m in
      let past : Past = events merged in
      let l = again (begins g) b.past past b.once b.left (made_new g whole new merged m) q.0 q.1 in
      let k = known (begins g) low top (journals g) merged here m in
      let j = known_again (begins g) b.past past b.left b.known b.home k.0 k.1 in
      let same = alike g whole n say x merged m in
      let old : HasOldRefs n (start_after (begins g) past) = refs (begins g) low top n (journals g) merged b.once b.refs here m above in
      let one : HasOneEntryEach (start_after (begins g) past) = (resumes (begins g) past b.once q.0 q.1).1 b.entries in
      let keeps : KeepsEachOnce (start_after (begins g) past) = (resumes (begins g) past b.once q.0 q.1).2 b.kept in
      let later : low ≤ n = subst (λ z. clock low z ≤ n) (past_end g whole (length g.shards) (omega arith)) (above (length g.shards)) in
      record {
        begun = record {
          past = past ++ b.past;
          left = record { legal = l.legal; quiet = l.quiet; alike = λ p. elim (l.alike p) [ inl h ↦ inl (same p ∙ h) | inr h ↦ inr (same p ∙ h) ] };
          known = j.0;
          home = j.1;
          numbered = both n b.past past (made_later low n b.past later b.numbered) (stamps (begins g) low top n (journals g) merged here m above);
          once = once_left g whole n x;
          since = born_since g whole n above x;
          refs = λ w r. subst (λ (f : Phase). (count (λ e. same_ref r e.0) (state_of f).watching ≤ 1) × (n < r.number → count (λ e. same_ref r e.0) (state_of f).watching ≡ 0)) (sym (same w)) (old w r);
          entries = λ p o. subst (λ (f : Phase). count (λ e. same_pid o e.0) (state_of f).links ≤ 1) (sym (same p)) (one p o);
          kept = λ t w r. subst (λ (f : Phase). count (same_watch r w) (state_of f).kept ≤ 1) (sym (same t)) (keeps t w r);
        };
        past_is = refl;
      }

  pub begins_again : MergeIsThere → BeginsAgain g
  begins_again there n above =
      let m = there (begins g) g.config.start g.config.top_version (length g.shards) (journals g) (locals g whole) (past_end g whole) in
      (from_merge n above (fresh_shard g.config 0) m.0 m.1).begun
