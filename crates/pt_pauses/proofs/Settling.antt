-- What supervisors uphold on the desks of a node stays so as it is gathered, settled and resumed, step by step.
use Rattle.std.proofs.Common.{◌≡◌, ℕ, zero, suc, ◌+◌, ◌<◌, ◌==◌, Bool, false, cond, ◌||◌, List, [], ◌∷◌, ◌++◌, length, filter, get_or, append-nil, refl, sym, ap, subst, ◌∙◌, arith}
use Rattle.std.specs.Prelude.{not, ◌&&◌, nat_le}
use Rattle.std.proofs.lemmas.Bool.{eq-eqb, ne_eqb}
use Rattle.std.proofs.lemmas.List.{get_or-map, get_or_default, length-map}
use Rattle.std.proofs.lemmas.List.Elements.{filter-append}
use Rattle.pt_signal.specs.declared.config.Config.{Config}
use Rattle.pt_signal.specs.declared.pid.Pid.{Pid}
use Rattle.pt_events.specs.declared.event.Event.{Event}
use Rattle.pt_events.specs.declared.event.Stamped.{Stamped}
use Rattle.pt_events.specs.History.{Past, Phase, Start, is_unborn}
use Rattle.pt_events.specs.Journal.{IsLocal, events}
use Rattle.pt_laws.specs.LoadLaws.{AllCame}
use Rattle.pt_shard.specs.Begun.{Every}
use Rattle.pt_shard.specs.Extends.{Extends}
use Rattle.pt_shard.specs.Known.{is_in_node, issued_in, knows}
use Rattle.pt_shard.specs.Restart.{restarted}
use Rattle.pt_shard.specs.ShardState.{ShardState, past as past_of, phase_of}
use Rattle.pt_gathered.specs.Gathered.{GatheredState, IsGathered, begins, journals}
use Rattle.pt_beginning.specs.Beginning.{start_of}
use Rattle.pt_gathered.specs.Quiet.{latest_stamp}
use Rattle.pt_gathered.specs.Settling.{Settles}
use Rattle.pt_gathered.proofs.Lawful.{locals}
use Rattle.pt_gathered.proofs.Pasts.{settles_keep}
use Rattle.pt_gathered.proofs.Starts.{Own, owned}
use Rattle.pt_gathered.proofs.StepByStep.{settles_same}
use Rattle.pt_gathered.proofs.Told.{journal_of}
use Rattle.pt_desk.specs.DeskState.{DeskState}
use Rattle.pt_node.proofs.Pasts.{gathers_past}
use Rattle.pt_behaviour.specs.declared.behaviour.Next.{Next}
use Rattle.pt_crew.specs.declared.crew.Crew.{Crew}
use Rattle.pt_behaviour.specs.Behaving.{Answers}
use Rattle.pt_crew.specs.Crews.{members, queue}
use Rattle.pt_behaviour.specs.Upholding.{IsUpheld}
use Rattle.pt_crew.specs.Running.{UpholdsOn}
use Rattle.pt_behaviour.proofs.Upholding.{alone_same, born_then, extends_later, later_same}
use Rattle.pt_crew.proofs.Waking.{knows_later}
use Rattle.pt_supervisor.specs.Keeping.{Keeps, PartOf, SuperviseAs}
use Rattle.pt_supervisor.proofs.Tending.{upheld}
use Rattle.pt_pauses.specs.Halts.{GatheringHolds, ResumingHolds, SettlingHolds}
use Rattle.pt_pauses.proofs.Pausing.{crew_then, shard_at, shard_of}
use Rattle.pt_pauses.proofs.Receipts.{came_of, grown, grown_later, receipts_stand}

-- what was before the journal of a desk is what was before all journals, of its own processes ---------

abbrev is_of : ℕ → Pid × Phase → Bool
is_of d b = b.0.shard == d

none_of : (d n : ℕ) (xs : Start) → Every (λ b. b.0.shard ≡ n) xs → (n ≡ d → ⊥) → filter (is_of d) xs ≡ []
none_of d n [] own other = refl
none_of d n (b ∷ xs) own other =
    ap (λ (t : Bool). cond t (b ∷ filter (is_of d) xs) (filter (is_of d) xs)) (ne_eqb b.0.shard d (λ e. other (sym own.0 ∙ e))) ∙ none_of d n xs own.1 other

all_of : (d : ℕ) (xs : Start) → Every (λ b. b.0.shard ≡ d) xs → filter (is_of d) xs ≡ xs
all_of d [] own = refl
all_of d (b ∷ xs) own =
    ap (λ (t : Bool). cond t (b ∷ filter (is_of d) xs) (filter (is_of d) xs)) (eq-eqb b.0.shard d own.0) ∙ ap (λ (ys : Start). b ∷ ys) (all_of d xs own.1)

none_above : (d n : ℕ) (shards : List ShardState) → Own n shards → d < n → filter (is_of d) (start_of shards) ≡ []
none_above d n [] own below = refl
none_above d n (s ∷ shards) own below =
    filter-append (is_of d) s.start (start_of shards)
    ∙ (ap (λ (ys : Start). ys ++ filter (is_of d) (start_of shards)) (none_of d n s.start own.0 (λ e. absurd (omega (arith, e, below)))) ∙ none_above d (suc n) shards own.1 (omega (arith, below)))

start_here : (n : ℕ) (shards : List ShardState) → Own n shards → (i : ℕ) (x : ShardState) (d : ℕ) → d ≡ n + i → i < length shards → (get_or shards i x).start ≡ filter (is_of d) (start_of shards)
start_here n [] own i x d is within = absurd (omega arith)
start_here n (s ∷ shards) own zero x d is within =
    let here : n ≡ d = omega (arith, is) in
    sym (filter-append (is_of d) s.start (start_of shards)
    ∙ (ap (λ (ys : Start). ys ++ filter (is_of d) (start_of shards)) (all_of d s.start (subst (λ (k : ℕ). Every (λ b. b.0.shard ≡ k) s.start) here own.0))
    ∙ (ap (λ (ys : Start). s.start ++ ys) (none_above d (suc n) shards own.1 (omega (arith, is))) ∙ append-nil s.start)))
start_here n (s ∷ shards) own (suc i) x d is within =
    start_here (suc n) shards own.1 i x d (omega (arith, is)) (omega (arith, within))
    ∙ sym (filter-append (is_of d) s.start (start_of shards)
    ∙ ap (λ (ys : Start). ys ++ filter (is_of d) (start_of shards)) (none_of d n s.start own.0 (λ e. absurd (omega (arith, e, is)))))

pub same_starts_at : (g s : GatheredState) → IsGathered g → IsGathered s → Settles g s → (d : ℕ) (x : ShardState) → d < length g.shards → (get_or s.shards d x).start ≡ (get_or g.shards d x).start
same_starts_at g s node settled settles d x within =
    let count = settles.count in
    start_here 0 s.shards (owned s.config s.shards settled.shards) d x d (omega arith) (omega (arith, within, count))
    ∙ (ap (filter (is_of d)) settles.start ∙ sym (start_here 0 g.shards (owned g.config g.shards node.shards) d x d (omega arith) within))

-- no receipt bears anybody -------------------------------------------------------------------------------

issued_more : (start : Start) (more journal : List Stamped) (slot : ℕ) → AllCame (events more) → issued_in start (events (more ++ journal)) slot ≡ issued_in start (events journal) slot
issued_more start [] journal slot came = refl
issued_more start (s ∷ more) journal slot came =
    let c = came_of s.event (events more) came in
    ap (λ (e : Event). issued_in start (e ∷ events (more ++ journal)) slot) c.3 ∙ issued_more start more journal slot c.4

abbrev known_to : Config → ℕ → ℕ → Pid → Bool
known_to c n latest p = is_in_node c p && (not (p.shard == n) || nat_le p.version latest)

-- settling, of one desk ------------------------------------------------------------------------------------

module _ {B : Type 0} (answers : Answers B) (part : PartOf B) (law : SuperviseAs answers part) (past : Past) where
  module _ (g s : GatheredState) (node : IsGathered g) (settled : IsGathered s) (settles : Settles g s) (d : ℕ) (z : ShardState) (within : d < length g.shards) where
    abbrev x : ShardState
    x = get_or g.shards d z

    abbrev y : ShardState
    y = get_or s.shards d z

    in_s : d < length s.shards
    in_s = let count = settles.count in omega (arith, within, count)

    abbrev more : List Stamped
    more = (settles.journals_follow d within).more

    mid_is : journals s d ≡ more ++ x.journal
    mid_is = (settles.journals_follow d within).is ∙ ap (λ (j : List Stamped). more ++ j) (journal_of g d z within)

    journal : y.journal ≡ more ++ x.journal
    journal = sym (journal_of s d z in_s) ∙ mid_is

    start : y.start ≡ x.start
    start = same_starts_at g s node settled settles d z within

    number : y.number ≡ x.number
    number = (settled.shards d z in_s).number ∙ sym (node.shards d z within).number

    config : y.config ≡ x.config
    config = (settled.shards d z in_s).config_is ∙ (settles.config ∙ sym (node.shards d z within).config_is)

    issued : (slot : ℕ) → issued_in y.start (past_of y) slot ≡ issued_in x.start (past_of x) slot
    issued slot =
        ap (λ (b : Start). issued_in b (past_of y) slot) start
        ∙ (ap (λ (j : List Stamped). issued_in x.start (events j) slot) journal ∙ issued_more x.start more x.journal slot (settles.journals_follow d within).receipts)

    known : (p : Pid) → knows y p ≡ knows x p
    known p =
        ap (λ (c : Config). known_to c y.number (issued_in y.start (past_of y) p.slot) p) config
        ∙ (ap (λ (n : ℕ). known_to x.config n (issued_in y.start (past_of y) p.slot) p) number
        ∙ ap (λ (n : ℕ). known_to x.config x.number n p) (issued p.slot))

    extends : Extends x y
    extends = record { start = start; number = number; config = config; more = more; journal = journal; known = λ p h. known p ∙ h }

    abbrev mid : ShardState
    mid = grown more x

    upholds_so : IsUpheld answers (Keeps past part)
    upholds_so = upheld past part answers law

    stands_settled : (b : B) (next : Next) (p : Pid) → is_unborn (phase_of x p) ≡ false → Keeps past part b next p x → Keeps past part b next p y
    stands_settled b next p born h =
        upholds_so.others b next p mid y
        (receipts_stand answers (Keeps past part) upholds_so b next p x (begins s) s.config.start s.config.top_version d more (subst (IsLocal (begins s) s.config.start s.config.top_version d) mid_is (locals s settled d)) (settles.journals_follow d within).receipts born h)
        (born_then x mid (grown_later more x) p born) (later_same mid y start journal) (alone_same mid y start journal p)

    pub crew_settled : (c : Crew B) → UpholdsOn (Keeps past part) c x → UpholdsOn (Keeps past part) c y
    crew_settled c u = record {
      attends = record {
        knows = knows_later (members c) (queue c) c.read x y extends u.attends.knows;
        room = u.attends.room;
        timers = u.attends.timers;
      };
      upholds = record {
        members = λ p r is.
            let was = u.upholds.members p r is in (born_then x y (extends_later x y extends) p was.0, stands_settled r.0 r.1 p was.0 was.1);
        waiting = u.upholds.waiting;
      };
    }

-- gathering and resuming ---------------------------------------------------------------------------------

pub some_of : {X : Type 0} (xs : List X) (d : ℕ) → d < length xs → X
some_of [] d within = absurd (omega arith)
some_of (x ∷ xs) d within = x

module _ {B : Type 0} (answers : Answers B) (part : PartOf B) (law : SuperviseAs answers part) where
  pub settling_holds : SettlingHolds part
  settling_holds past crews old new settles settled h = record {
    node = settled;
    count = h.count ∙ sym settles.count;
    each = λ d c x l.
        let count = settles.count in
        let within : d < length old.shards = omega (arith, l, count) in
        crew_settled answers part law past old new h.node settled settles d x within (get_or crews d c) (h.each d c x within);
    from = settles_keep old new settles past h.from;
  }

  pub gathering_holds : GatheringHolds part
  gathering_holds past desks crews g gathers node h = record {
    node = node;
    count = h.uphold.count ∙ sym count;
    each = λ d c x l.
        let within : d < length desks = omega (arith, l, count) in
        let y = some_of desks d within in
        subst (UpholdsOn (Keeps past part) (get_or crews d c)) (sym (shard_at g.shards desks d y x gathers.shards within)) (h.uphold.each d c y within);
    from = gathers_past desks g gathers past h.from;
  }
    where
      count : length g.shards ≡ length desks
      count = ap length gathers.shards ∙ length-map desks shard_of

  pub resuming_holds : ResumingHolds part
  resuming_holds past merged g crews later new merge resumes h = record {
    uphold = record {
      count = resumes.begins.count ∙ (h.count ∙ sym count);
      each = λ d c x l.
          let within : d < length g.shards = omega (arith, l, count) in
          let counted = h.count in
          subst (UpholdsOn (Keeps (events merged ++ past) part) (get_or later d c)) (sym (new_at d x l within))
          (crew_then answers part law past merged g g h.node h.node (settles_same g) merge h.from n d (get_or g.shards d x.shard) (get_or g.shards d x.shard) within (same_place d x.shard within) (same_place d x.shard within) (get_or crews d c)
          (get_or later d c) (resumes.begins.each d c (omega (arith, within, counted))) (h.each d c x.shard within));
    };
    from = resumes.resumes.whole past merged h.from merge;
  }
    where
      n : ℕ
      n = latest_stamp g

      count : length new ≡ length g.shards
      count = sym (length-map new shard_of) ∙ (ap length resumes.resumes.shards ∙ length-map g.shards (restarted n))

      new_at : (d : ℕ) (x : DeskState) → d < length new → d < length g.shards → (get_or new d x).shard ≡ restarted n (get_or g.shards d x.shard)
      new_at d x l within =
          sym (get_or-map shard_of new d x (restarted n x.shard) l)
          ∙ (ap (λ (ss : List ShardState). get_or ss d (restarted n x.shard)) resumes.resumes.shards ∙ get_or-map (restarted n) g.shards d x.shard (restarted n x.shard) within)

      same_place : (d : ℕ) (x : ShardState) → d < length g.shards → get_or g.shards d x ≡ get_or g.shards d (get_or g.shards d x)
      same_place d x within = get_or_default g.shards d x (get_or g.shards d x) within
