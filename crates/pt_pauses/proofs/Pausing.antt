-- What supervisors uphold on the desks of a node stays so over a pause.
use Rattle.std.proofs.Common.{◌≡◌, inl, inr, ℕ, ◌<◌, false, List, [], ◌∷◌, ◌++◌, length, get_or, Option, Some, None, refl, sym, ap, subst, ◌∙◌, arith}
use Rattle.std.proofs.lemmas.List.{get_or-map, get_or_default, length-map}
use Rattle.pt_signal.specs.declared.pid.Pid.{Pid}
use Rattle.pt_events.specs.declared.event.Stamped.{Stamped}
use Rattle.pt_events.specs.History.{Past, Start, at_start, is_unborn, life}
use Rattle.pt_events.specs.Journal.{IsLocal, IsMerge, events, of_desk}
use Rattle.pt_events.specs.Leaving.{outcome}
use Rattle.pt_events.specs.Locality.{AllHome}
use Rattle.pt_events.proofs.Leaving.{leaves_each}
use Rattle.pt_events.proofs.Telling.{all_home}
use Rattle.pt_shard.specs.Begun.{Every}
use Rattle.pt_shard.specs.Restart.{restarted}
use Rattle.pt_shard.specs.ShardState.{ShardState, phase_of}
use Rattle.pt_gathered.specs.Gathered.{GatheredState, IsGathered, begins, journals}
use Rattle.pt_gathered.specs.Pasts.{GoesOnFrom}
use Rattle.pt_gathered.specs.Quiet.{latest_stamp}
use Rattle.pt_gathered.specs.Settling.{Settles}
use Rattle.pt_gathered.proofs.Lawful.{locals}
use Rattle.pt_gathered.proofs.Owned.{life_same}
use Rattle.pt_gathered.proofs.Pasts.{settles_keep}
use Rattle.pt_gathered.proofs.Starts.{start_same}
use Rattle.pt_gathered.proofs.Told.{journal_of}
use Rattle.pt_desk.specs.DeskState.{DeskState}
use Rattle.pt_workers.specs.Desks.{all_shards}
use Rattle.pt_node.specs.Pasts.{GoOnFrom}
use Rattle.pt_node.proofs.Pasts.{gathers_past}
use Rattle.pt_behaviour.specs.declared.behaviour.Next.{Next}
use Rattle.pt_behaviour.specs.declared.births.Role.{Role}
use Rattle.pt_crew.specs.declared.crew.Crew.{Crew}
use Rattle.pt_behaviour.specs.Behaving.{Answers}
use Rattle.pt_crew.specs.Visiting.{AreSame}
use Rattle.pt_crew.specs.Crews.{AreBorn, roles, waiting}
use Rattle.pt_behaviour.specs.Upholding.{AllFirst}
use Rattle.pt_crew.specs.Upholding.{AllStand, AllStill, StandsStill, Upholds}
use Rattle.pt_crew.specs.Running.{UpholdsOn}
use Rattle.pt_behaviour.proofs.Upholding.{born_then}
use Rattle.pt_children.specs.Hearing.{Standing}
use Rattle.pt_supervisor.specs.Keeping.{HoldsAs, Keeps, PartOf, SuperviseAs}
use Rattle.pt_children.specs.Families.{WereTold}
use Rattle.pt_pauses.proofs.Before.{desk_told}
use Rattle.pt_pauses.proofs.Homes.{born_here}
use Rattle.pt_supervisor.proofs.Tending.{begins as all_begin, upheld}
use Rattle.pt_epochs.specs.Epochs.{CrewBegins}
use Rattle.pt_pauses.specs.Pauses.{AllHold, Pauses}
use Rattle.pt_pauses.proofs.Receipts.{grown, grown_later, receipts_stand}
use Rattle.pt_pauses.proofs.Resuming.{holds_then, still_born}

abbrev pub shard_of : DeskState → ShardState
shard_of d = d.shard

-- the shard of a desk by its place
pub shard_at : (shards : List ShardState) (desks : List DeskState) (d : ℕ) (x : DeskState) (s : ShardState) → shards ≡ all_shards desks → d < length desks → get_or shards d s ≡ (get_or desks d x).shard
shard_at shards desks d x s are within = ap (λ (ss : List ShardState). get_or ss d s) are ∙ get_or-map shard_of desks d x s within

-- one desk over a pause -------------------------------------------------------------------------------

module _ {B : Type 0} (answers : Answers B) (part : PartOf B) (law : SuperviseAs answers part) (past : Past) (merged : List Stamped) where
  abbrev then : Past
  then = events merged ++ past

  -- one that begins does so on any desk
  begins_then : (o : Option Standing) (next : Next) (p : Pid) (x : ShardState) → ((d : ShardState) → HoldsAs past o next p d) → (d : ShardState) → HoldsAs then o next p d
  begins_then None next p x first d = tt
  begins_then (Some s) next p x first d = all_begin then (Some s) next p d ((first (record x { start = []; journal = [] })).3 refl)

  first_then : (x : ShardState) (rs : List (Role B)) → AllFirst (Keeps past part) rs → AllFirst (Keeps then part) rs
  first_then x [] h = tt
  first_then x (r ∷ rs) h = (begins_then (part r.behaviour) r.next r.pid x h.0, first_then x rs h.1)

  module _ (g s : GatheredState) (node : IsGathered g) (settled : IsGathered s) (settles : Settles g s) (merge : IsMerge (journals s) merged) (from : GoesOnFrom past g) (n : ℕ) where
    all_are_home : AllHome merged
    all_are_home = all_home (begins s) s.config.start s.config.top_version merged (λ d. subst (IsLocal (begins s) s.config.start s.config.top_version d) (sym (merge.1 d)) (locals s settled d))

    module _ (d : ℕ) (x y : ShardState) (within : d < length g.shards) (x_is : x ≡ get_or g.shards d x) (y_is : y ≡ get_or s.shards d y) where
      within_s : d < length s.shards
      within_s = let count = settles.count in omega (arith, within, count)

      abbrev more : List Stamped
      more = (settles.journals_follow d within).more

      before : journals g d ≡ x.journal
      before = journal_of g d x within ∙ ap (λ (z : ShardState). z.journal) (sym x_is)

      since : journals s d ≡ y.journal
      since = journal_of s d y within_s ∙ ap (λ (z : ShardState). z.journal) (sym y_is)

      -- the desk as it was settled
      abbrev mid : ShardState
      mid = grown more x

      mid_journal : journals s d ≡ mid.journal
      mid_journal = (settles.journals_follow d within).is ∙ ap (λ (j : List Stamped). more ++ j) before

      own_x : Every (λ b. b.0.shard ≡ d) x.start
      own_x = subst (λ (z : ShardState). Every (λ b. b.0.shard ≡ d) z.start) (sym x_is)
          (subst (λ (k : ℕ). Every (λ b. b.0.shard ≡ k) (get_or g.shards d x).start) (node.shards d x within).number (node.shards d x within).fit.begun.own)

      mid_local : IsLocal (begins s) s.config.start s.config.top_version d mid.journal
      mid_local = subst (IsLocal (begins s) s.config.start s.config.top_version d) mid_journal (locals s settled d)

      own : (q : Pid) → is_unborn (phase_of mid q) ≡ false → q.shard ≡ d
      own q born = born_here d x.start (begins s) s.config.start s.config.top_version mid.journal q own_x mid_local born

      starts : (q : Pid) → q.shard ≡ d → at_start y.start q ≡ at_start x.start q
      starts q here =
          ap (λ (z : ShardState). at_start z.start q) y_is ∙ start_same s.config s.shards settled.shards d y within_s q here
          ∙ ap (λ (t : Start). at_start t q) settles.start
          ∙ sym (ap (λ (z : ShardState). at_start z.start q) x_is ∙ start_same g.config g.shards node.shards d x within q here)

      phases : (q : Pid) → q.shard ≡ d → phase_of (restarted n y) q ≡ outcome (phase_of mid q)
      phases q here =
          leaves_each y.start (past_of y) q
          ∙ ap outcome (life_same y.start x.start d starts (past_of y) q here ∙ ap (λ (j : List Stamped). life x.start (events j) q) (sym since ∙ mid_journal))
        where
          past_of : ShardState → Past
          past_of z = events z.journal

      born_again : (p : Pid) → is_unborn (phase_of x p) ≡ false → is_unborn (phase_of (restarted n y) p) ≡ false
      born_again p born =
          let later = born_then x mid (grown_later more x) p born in
          ap is_unborn (phases p (own p later)) ∙ (still_born (phase_of mid p) ∙ later)

      -- of each process that was born
      stands_then : (b : B) (next : Next) (p : Pid) → is_unborn (phase_of x p) ≡ false → Keeps past part b next p x → Keeps then part b next p (restarted n y)
      stands_then b next p born h =
          holds_then past merged p mid (restarted n y) refl all_are_home (merge.1 p.shard ∙ ap (journals s) here ∙ mid_journal)
          (λ q same. phases q (same ∙ here)) (λ q b. own q b ∙ sym here) told (part b) next later
          (receipts_stand answers (Keeps past part) (upheld past part answers law) b next p x (begins s) s.config.start s.config.top_version d more mid_local (settles.journals_follow d within).receipts born h)
        where
          later : is_unborn (phase_of mid p) ≡ false
          later = born_then x mid (grown_later more x) p born

          here : p.shard ≡ d
          here = own p later

          told : WereTold past p x.start
          told = subst (λ (z : ShardState). WereTold past p z.start) (sym (x_is ∙ ap (λ (k : ℕ). get_or g.shards k x) (sym here)))
              (desk_told past g node from p x (subst (λ (k : ℕ). k < length g.shards) (sym here) within))

      still_then : (r : Role B) → StandsStill (Keeps past part) r x → StandsStill (Keeps then part) r (restarted n y)
      still_then r (inl h) = inl (born_again r.pid h.0, stands_then r.behaviour r.next r.pid h.0 h.1)
      still_then r (inr first) = inr (begins_then (part r.behaviour) r.next r.pid x first)

      pub left_then : (rs : List (Role B)) → AllStill (Keeps past part) rs x → AllStill (Keeps then part) rs (restarted n y)
      left_then [] h = tt
      left_then (r ∷ rs) h = (still_then r h.0, left_then rs h.1)

      -- and so of a crew that has these processes, and then has them behind it
      pub crew_from : (c : Crew B) → AllStand (Keeps past part) (roles c) x → (new : Crew B) → AreSame (roles c) (roles new) → AllFirst (Keeps past part) (waiting new)
          → Upholds (Keeps then part) new (restarted n y)
      crew_from c stand new same first = record {
        members = λ p r is. let was = stand p r (sym (same p) ∙ is) in (born_again p was.0, stands_then r.0 r.1 p was.0 was.1);
        waiting = first_then x (waiting new) first;
      }

      -- one that begins again
      pub crew_then : (old new : Crew B) → CrewBegins old new → UpholdsOn (Keeps past part) old x → UpholdsOn (Keeps then part) new (restarted n y)
      crew_then old new b u = record {
        attends = b.attends x (restarted n y) u.attends (λ p r is. born_again p (u.upholds.members p r is).0);
        upholds = crew_from old u.upholds.members new b.roles (subst (AllFirst (Keeps past part)) (sym b.rest.waiting) u.upholds.waiting);
      }

-- the node over a pause -------------------------------------------------------------------------------

module _ {B : Type 0} (answers : Answers B) (part : PartOf B) (law : SuperviseAs answers part) (past : Past) (merged : List Stamped) (desks new : List DeskState) (crews later : List (Crew B)) (p : Pauses merged desks crews new later) where
  abbrev g : GatheredState
  g = p.gathered

  abbrev s : GatheredState
  s = p.settled

  abbrev n : ℕ
  n = latest_stamp s

  count_g : length g.shards ≡ length desks
  count_g = ap length p.gathers.shards ∙ length-map desks shard_of

  count_new : length new ≡ length s.shards
  count_new = sym (length-map new shard_of) ∙ (ap length p.resumes.resumes.shards ∙ length-map s.shards (restarted n))

  pub count_both : length new ≡ length desks
  count_both = count_new ∙ (p.settles.count ∙ count_g)

  -- the desk at a place as it was gathered, and as it was settled
  desk_at : (d : ℕ) (x : DeskState) → d < length desks → get_or g.shards d x.shard ≡ (get_or desks d x).shard
  desk_at d x within = shard_at g.shards desks d x x.shard p.gathers.shards within

  new_at : (d : ℕ) (x : DeskState) (y : ShardState) → d < length new → (get_or new d x).shard ≡ restarted n (get_or s.shards d y)
  new_at d x y within =
      sym (get_or-map shard_of new d x (restarted n y) within)
      ∙ (ap (λ (ss : List ShardState). get_or ss d (restarted n y)) p.resumes.resumes.shards ∙ get_or-map (restarted n) s.shards d y (restarted n y) (omega (arith, within, count_new)))

  same_place : (shards : List ShardState) (d : ℕ) (x : ShardState) → d < length shards → get_or shards d x ≡ get_or shards d (get_or shards d x)
  same_place shards d x within = get_or_default shards d x (get_or shards d x) within

  pub goes_on : GoOnFrom past desks → GoOnFrom (events merged ++ past) new
  goes_on from = p.resumes.resumes.whole past merged (settles_keep g s p.settles past (gathers_past desks g p.gathers past from)) p.merge

  module _ (from : GoOnFrom past desks) (d : ℕ) (x : DeskState) (within : d < length desks) where
    abbrev y : ShardState
    y = get_or s.shards d x.shard

    in_g : d < length g.shards
    in_g = omega (arith, within, count_g)

    in_s : d < length s.shards
    in_s = let count = p.settles.count in omega (arith, in_g, count)

    x_is : (get_or desks d x).shard ≡ get_or g.shards d (get_or desks d x).shard
    x_is = sym (desk_at d x within) ∙ (same_place g.shards d x.shard in_g ∙ ap (get_or g.shards d) (desk_at d x within))

    left_at : (rs : List (Role B)) → AllStill (Keeps past part) rs (get_or desks d x).shard → AllStill (Keeps (events merged ++ past) part) rs (get_or new d x).shard
    left_at rs h =
        subst (AllStill (Keeps (events merged ++ past) part) rs) (sym (new_at d x x.shard (omega (arith, within, count_both))))
        (left_then answers part law past merged g s p.node p.settled_node p.settles p.merge (gathers_past desks g p.gathers past from) n d (get_or desks d x).shard y in_g x_is (same_place s.shards d x.shard in_s) rs h)

    crew_at : (old young : Crew B) → CrewBegins old young → UpholdsOn (Keeps past part) old (get_or desks d x).shard → UpholdsOn (Keeps (events merged ++ past) part) young (get_or new d x).shard
    crew_at old young b u =
        subst (UpholdsOn (Keeps (events merged ++ past) part) young) (sym (new_at d x x.shard (omega (arith, within, count_both))))
        (crew_then answers part law past merged g s p.node p.settled_node p.settles p.merge (gathers_past desks g p.gathers past from) n d (get_or desks d x).shard y in_g x_is (same_place s.shards d x.shard in_s) old young b u)

    -- the processes of a crew were born on the desk behind the pause, too
    pub born_at : (c : Crew B) → AllStand (Keeps past part) (roles c) (get_or desks d x).shard → AreBorn (roles c) (get_or new d x).shard
    born_at c stand q r is =
        subst (λ (z : ShardState). is_unborn (phase_of z q) ≡ false) (sym (new_at d x x.shard (omega (arith, within, count_both))))
        (born_again answers part law past merged g s p.node p.settled_node p.settles p.merge (gathers_past desks g p.gathers past from) n d (get_or desks d x).shard y in_g x_is (same_place s.shards d x.shard in_s) q (stand q r is).0)

    pub crew_from_at : (c : Crew B) → AllStand (Keeps past part) (roles c) (get_or desks d x).shard → (young : Crew B) → AreSame (roles c) (roles young) → AllFirst (Keeps past part) (waiting young)
        → Upholds (Keeps (events merged ++ past) part) young (get_or new d x).shard
    crew_from_at c stand young same first =
        subst (Upholds (Keeps (events merged ++ past) part) young) (sym (new_at d x x.shard (omega (arith, within, count_both))))
        (crew_from answers part law past merged g s p.node p.settled_node p.settles p.merge (gathers_past desks g p.gathers past from) n d (get_or desks d x).shard y in_g x_is (same_place s.shards d x.shard in_s) c stand young same first)

    -- the journal that the desk had is a part of the history
    pub journal_at : (more : List Stamped) × (of_desk d merged ≡ more ++ (get_or desks d x).shard.journal)
    journal_at =
        let follows = p.settles.journals_follow d in_g in
        (follows.more, p.merge.1 d ∙ (follows.is ∙ ap (λ (j : List Stamped). follows.more ++ j) (journal_of g d x.shard in_g ∙ ap (λ (z : ShardState). z.journal) (desk_at d x within))))

  pub pause_holds : AllHold part past crews desks → AllHold part (events merged ++ past) later new
  pause_holds h = record {
    uphold = record {
      count = p.resumes.begins.count ∙ (h.uphold.count ∙ sym count_both);
      each = λ d c x l.
          let within : d < length desks = omega (arith, l, count_both) in
          crew_at h.from d x within (get_or crews d c) (get_or later d c) (p.resumes.begins.each d c (let count = h.uphold.count in omega (arith, within, count))) (h.uphold.each d c x within);
    };
    from = goes_on h.from;
  }

  pub pause_left : GoOnFrom past desks → (d : ℕ) (x : DeskState) → d < length desks → (rs : List (Role B)) → AllStill (Keeps past part) rs (get_or desks d x).shard
      → AllStill (Keeps (events merged ++ past) part) rs (get_or new d x).shard
  pause_left from d x within rs h = left_at from d x within rs h
