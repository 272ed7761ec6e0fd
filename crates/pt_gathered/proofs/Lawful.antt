-- The laws of histories, at a node whose desks were gathered.
use Rattle.std.proofs.Common.{◌≡◌, ℕ, ◌<◌, ◌≤◌, List, [], length, map, get_or, refl, sym, ap, ◌∙◌, subst, arith, ⊎_elim}
use Rattle.std.proofs.lemmas.Bool.{cases_lt}
use Rattle.std.proofs.lemmas.List.{get_or_past, length-map}
use Rattle.pt_signal.specs.declared.letter.Letter.{Letter}
use Rattle.pt_events.specs.declared.event.Stamped.{Stamped}
use Rattle.pt_events.specs.Journal.{events, content, posts, gots, Agrees, LanesAgree, IsLocal, IsMerge}
use Rattle.pt_laws.specs.Asking.{AnswersAreTrue, QuietAnswers}
use Rattle.pt_laws.specs.Headline.{HeadlineHolds}
use Rattle.pt_laws.specs.Laws.{MergeLegal}
use Rattle.pt_laws.specs.LinkLaws.{MergeLinksOver}
use Rattle.pt_laws.specs.Load.{load}
use Rattle.pt_laws.specs.LoadLaws.{EmptyIsQuiet, HasDesks, LoadByDesk}
use Rattle.pt_laws.specs.MonitorLaws.{QuietMonitorSince, QuietWatchOver}
use Rattle.pt_laws.specs.Resumed.{AllNewTo}
use Rattle.pt_laws.specs.ResumedLaws.{StampsAreNew}
use Rattle.pt_laws.specs.Words.{EachHoldsSince}
use Rattle.pt_shard.specs.ShardState.{ShardState}
use Rattle.pt_gathered.specs.Gathered.{GatheredState, IsGathered, begins, journals, over}
use Rattle.pt_gathered.specs.Settling.{load_of, Settles, NothingLeft}
use Rattle.pt_gathered.specs.Lawful.{IsLegalNode, KeepsHeadline, IsQuietNode, IsBounded, LinksStand, WatchesStand, HoldingsStand, AnswersHold, QuestionsAnswered}
use Rattle.pt_gathered.proofs.Starts.{start_same, nobody_beyond}
use Rattle.pt_gathered.proofs.Owned.{posts_same}
use Rattle.pt_gathered.proofs.Agreeing.{local_at, local_as, at_map}
use Rattle.pt_gathered.proofs.Overs.{over_both, over_left, over_right}

module _ (g : GatheredState) (whole : IsGathered g) where
  -- the journals of desks that the node has not are empty
  pub past_end : (d : ℕ) → length g.shards ≤ d → journals g d ≡ []
  past_end d h = get_or_past (map (λ (s : ShardState). s.journal) g.shards) d [] (omega (arith, length-map g.shards (λ (s : ShardState). s.journal)))

  pub locals : (d : ℕ) → IsLocal (begins g) g.config.start g.config.top_version d (journals g d)
  locals d = ⊎_elim (λ (h : d < length g.shards). local_at g whole d d h h d h) (λ (h : length g.shards ≤ d). rw (past_end d h) tt) (cases_lt d (length g.shards))

  beyond : (d : ℕ) (x : ShardState) → d < length g.shards → (e : ℕ) → length g.shards ≤ e → (get_or g.shards d x).config.desks ≤ e
  beyond d x h e k = let a = ap (λ c. c.desks) (whole.shards d x h).config_is in let b = whole.desks in omega arith

  posts_out : (d e : ℕ) → d < length g.shards → length g.shards ≤ e → posts (begins g) (journals g d) e ≡ []
  posts_out d e h k =
      at_map (λ (s : ShardState). s.journal) (λ j. posts (begins g) j e ≡ []) g.shards d [] h (λ x.
      let s : ShardState = get_or g.shards d x in
      sym (posts_same s.start (begins g) d (start_same g.config g.shards whole.shards d x h) g.config.start g.config.top_version s.journal (local_as g.config d s (whole.shards d x h)) e)
      ∙ (whole.shards d x h).fit.posts_near e (beyond d x h e k))

  gots_out : (e d : ℕ) → e < length g.shards → length g.shards ≤ d → gots (journals g e) d ≡ []
  gots_out e d h k = at_map (λ (s : ShardState). s.journal) (λ j. gots j d ≡ []) g.shards e [] h (λ x. (whole.shards e x h).fit.gots_near d (beyond e x h d k))

  none_of : (posted gots over : List Letter) → posted ≡ [] → gots ≡ [] → over ≡ [] → Agrees posted gots over
  none_of posted gots over a b c = rw (a, b, c) refl

  pub lanes_agree : LanesAgree (begins g) (journals g) (over g)
  lanes_agree d e =
      ⊎_elim
      (λ (h : d < length g.shards).
      ⊎_elim (λ (k : e < length g.shards). subst (Agrees (posts (begins g) (journals g d) e) (gots (journals g e) d)) (sym (over_both g d e h k)) (whole.agree d e h k))
      (λ (k : length g.shards ≤ e). none_of (posts (begins g) (journals g d) e) (gots (journals g e) d) (over g d e) (posts_out d e h k) (ap (λ j. gots j d) (past_end e k)) (over_right g d e k))
      (cases_lt e (length g.shards)))
      (λ (h : length g.shards ≤ d).
      none_of (posts (begins g) (journals g d) e) (gots (journals g e) d) (over g d e) (ap (λ j. posts (begins g) j e) (past_end d h))
      (⊎_elim (λ (k : e < length g.shards). gots_out e d k h) (λ (k : length g.shards ≤ e). ap (λ j. gots j d) (past_end e k)) (cases_lt e (length g.shards))) (over_left g d e h))
      (cases_lt d (length g.shards))

  pub keeps_headline : HeadlineHolds → KeepsHeadline g
  keeps_headline law = law (begins g) g.config.start g.config.top_version (journals g) (over g) whole.begun.refs locals lanes_agree

  pub legal_node : MergeLegal → IsLegalNode g
  legal_node law merged m = law (begins g) g.config.start g.config.top_version (journals g) (over g) merged locals lanes_agree whole.refusals m

  has_desks : HasDesks (length g.shards) (begins g) (journals g) (over g)
  has_desks = record { journals = past_end; lanes = over_right g; begun = nobody_beyond g.config g.shards whole.shards }

  -- the load desk by desk is that of the history
  pub load_is : LoadByDesk → (merged : List Stamped) → IsMerge (journals g) merged → load_of g ≡ load (begins g) (events merged)
  load_is law merged m = law (begins g) g.config.start g.config.top_version (length g.shards) (journals g) (over g) merged locals lanes_agree m has_desks

  nothing_over : NothingLeft g → (d e : ℕ) → over g d e ≡ []
  nothing_over none d e =
      ⊎_elim (λ (h : d < length g.shards). ⊎_elim (λ (k : e < length g.shards). over_both g d e h k ∙ none d e h k) (λ (k : length g.shards ≤ e). over_right g d e k) (cases_lt e (length g.shards)))
      (λ (h : length g.shards ≤ d). over_left g d e h) (cases_lt d (length g.shards))

  pub quiet_node : MergeLegal → EmptyIsQuiet → NothingLeft g → IsQuietNode g
  quiet_node law empty none merged m =
      let l = legal_node law merged m in
      (l.0, empty (begins g) (events merged) (λ d e. l.1 d e ∙ ap (map content) (nothing_over none d e)))

  pub links_stand : IsQuietNode g → MergeLinksOver → LinksStand g
  links_stand quiet links merged p q m other lives =
      let b = whole.begun in
      links (begins g) b.past g.config.start g.config.top_version (journals g) (over g) merged p q b.left b.known b.home b.numbered
      locals lanes_agree whole.refusals m (quiet merged m).1 other lives

  -- what the node made since it began is new to what was made before
  pub made_new : StampsAreNew → (merged : List Stamped) → IsMerge (journals g) merged → AllNewTo whole.begun.past (events merged)
  made_new law merged m = law (begins g) g.config.start g.config.top_version (journals g) merged whole.begun.past whole.begun.numbered locals m

  pub watches_stand : IsQuietNode g → StampsAreNew → QuietMonitorSince → QuietWatchOver → WatchesStand g
  watches_stand quiet stamps monitors watches merged w t m is =
      let q = quiet merged is in
      let b = whole.begun in
      let new = made_new stamps merged is in (
        λ lives made. monitors (begins g) b.past (events merged) w t m b.left new q.0 q.1 lives made,
        λ gone. watches (begins g) b.past (events merged) w t m b.left new q.0 q.1 gone,
      )

  pub holdings_stand : MergeLegal → EachHoldsSince → HoldingsStand g
  holdings_stand legal law merged p m = law (begins g) (events merged) p (legal_node legal merged m).0 whole.begun.entries whole.begun.kept

  pub answers_hold : MergeLegal → AnswersAreTrue → AnswersHold g
  answers_hold legal law merged q t m x is arrived = law (begins g) (events merged) q t m x (legal_node legal merged is).0 arrived

  pub questions_answered : IsQuietNode g → QuietAnswers → QuestionsAnswered g
  questions_answered quiet law merged q t m is lives = let k = quiet merged is in law (begins g) (events merged) q t m k.0 k.1 lives

pub is_bounded : LoadByDesk → (old new : GatheredState) → IsGathered old → Settles old new → IsBounded old new
is_bounded law old new whole s merged m = let a = load_is old whole law merged m in let b = s.bound in omega arith
