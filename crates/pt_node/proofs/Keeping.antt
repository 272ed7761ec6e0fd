-- What is kept of a node's directory, and the seats that are made anew of it.
use Rattle.std.proofs.Common.{◌≡◌, ℕ, zero, suc, ◌+◌, ◌-◌, ◌<◌, ◌≤◌, Bool, true, false, true≢false, ◌&&◌, cond, eqb, nat_lt, List, [], ◌∷◌, ◌++◌, filter, length, map, get_or, refl, sym, ap, ◌∙◌, subst, ⊎_elim, arith, le_refl, le_trans, eq-eqb, eqb-true}
use Rattle.std.specs.Prelude.{IfOk, Result, Ok, Err, Contains}
use Rattle.std.specs.Arc.{arc_value}
use Rattle.std.proofs.lemmas.Bool.Decides.{nat_tests}
use Rattle.std.proofs.lemmas.List.{drop_at, get_or-map, length-append, length-map}
use mathlib.Core.Option.{some, some-injective}
use lib.ListN.{get_elem?}
use Rattle.atomic_table.proofs.Lists.{at_longer}
use Rattle.pt_signal.specs.declared.pid.Pid.{Pid}
use Rattle.pt_signal.specs.declared.config.Config.{Config}
use Rattle.pt_events.specs.declared.event.Stamped.{Stamped}
use Rattle.pt_events.specs.History.{Start, at_start, is_ended, life}
use Rattle.pt_events.specs.Journal.{clock, events, IsLocal}
use Rattle.pt_events.specs.Leaving.{start_after}
use Rattle.pt_events.proofs.Leaving.{leaves_each}
use Rattle.pt_events.proofs.Refusals.{ended_later}
use Rattle.pt_accounts.specs.DeskLives.{DeskTable, all_forgotten, oldest}
use Rattle.pt_accounts.proofs.Forgetting.{begins_anew}
use Rattle.pt_directory.specs.declared.view.Death.{Death}
use Rattle.pt_directory.specs.Views.{new_death, is_of, deaths_at, last_version, up_from}
use Rattle.pt_directory.specs.Seats.{AreLate, late_seat, tell_each, tell_one}
use Rattle.pt_directory.proofs.Lists.{at_behind, at_nothing, from_among, from_filter, has_last, true-is_at}
use Rattle.pt_directory.proofs.Late.{each_told}
use Rattle.pt_directory.proofs.Reopening.{at_get_or}
use Rattle.pt_shard.specs.ShardState.{ShardState, past, phase_of}
use Rattle.pt_shard.specs.Restart.{restarted}
use Rattle.pt_shard.specs.InTurn.{IsInTurn}
use Rattle.pt_shard.specs.Opening.{fresh_shard}
use Rattle.pt_gathered.specs.Gathered.{GatheredState, IsGathered, begins, journals}
use Rattle.pt_gathered.specs.Settling.{Settles}
use Rattle.pt_gathered.specs.Tables.{IsTold}
use Rattle.pt_gathered.specs.Quiet.{AreInTurn}
use Rattle.pt_gathered.specs.Late.{AreEndsSince, HadEndedBy, HasEndedOn}
use Rattle.pt_gathered.proofs.Agreeing.{local_as}
use Rattle.pt_gathered.proofs.Starts.{start_same}
use Rattle.pt_gathered.proofs.Owned.{life_same}
use Rattle.pt_desk.specs.Sight.{AreToldBefore}
use Rattle.pt_node.specs.declared.resuming.Room.{Room}
use Rattle.pt_gathered.specs.Keeping.{KeptState, IsEndOn, IsKeptFor}
use Rattle.pt_node.specs.Seating.{Seated, IsSeatOf, AreReady}
use Rattle.pt_node.proofs.Prepared.{born}
use Rattle.pt_node.proofs.Resumed.{outcome_ended, turns_again}
use Rattle.pt_node.proofs.SeatsOf.{at_from, count_from, seated_each}

-- what is told stays told, and of each pid its end or a later one of its slot ------------------------

abbrev IsToldIn : Pid → List Death → Type 0
IsToldIn p ds = (m : ℕ) × (d : Death) × (get_elem? ds m ≡ some d) × (d.shard ≡ p.shard) × (d.slot ≡ p.slot) × (p.version ≤ d.version)

abbrev end_of : Pid × ℕ → Death
end_of x = new_death x.0.shard x.0.slot x.0.version x.1

told_stays : (k : ℕ) (xs : List (Pid × ℕ)) (ds : List Death) (m : ℕ) (d : Death) → get_elem? ds m ≡ some d → get_elem? (tell_each k xs ds) m ≡ some d
told_stays k [] ds m d at = at
told_stays k (x ∷ xs) ds m d at = told_stays k xs (tell_one k x ds) m d (go (eqb x.0.shard k && nat_lt (last_version (deaths_at k x.0.slot ds)) x.0.version))
  where
    go : (b : Bool) → get_elem? (cond b (ds ++ end_of x ∷ []) ds) m ≡ some d
    go true = at_longer ds (end_of x ∷ []) m d at
    go false = at

was_later : (k slot : ℕ) (p : Pid) (ds : List Death) → p.shard ≡ k → p.slot ≡ slot → 0 < p.version → p.version ≤ last_version (deaths_at k slot ds) → IsToldIn p ds
was_later k slot p ds here there some_version low =
    let last = has_last (deaths_at k slot ds) (omega arith) in
    let h = last.1 in
    let a = from_among ds h.0 h.1 k slot h.2 in
    let is = true-is_at h.1 k slot a.2 in
    (a.0, h.1, a.1, is.0 ∙ sym here, is.1 ∙ sym there, omega (arith, low, h.3))

told_one : (k : ℕ) (x : Pid × ℕ) (ds : List Death) → x.0.shard ≡ k → 0 < x.0.version → IsToldIn x.0 (tell_one k x ds)
told_one k x ds here some_version = go (eqb x.0.shard k) refl (nat_lt (last_version (deaths_at k x.0.slot ds)) x.0.version) refl
  where
    go : (b : Bool) → eqb x.0.shard k ≡ b → (c : Bool) → nat_lt (last_version (deaths_at k x.0.slot ds)) x.0.version ≡ c → IsToldIn x.0 (cond (b && c) (ds ++ end_of x ∷ []) ds)
    go true e true f = let t = at_behind ds (end_of x ∷ []) 0 (end_of x) refl in (t.0, end_of x, t.1, refl, refl, le_refl x.0.version)
    go true e false f = was_later k x.0.slot x.0 ds here refl some_version (grind (arith, nat_tests))
    go false e c f = absurd (true≢false (sym (eq-eqb x.0.shard k here) ∙ e))

all_told : (k : ℕ) (xs : List (Pid × ℕ)) (ds : List Death) → ((i : ℕ) (x : Pid × ℕ) → get_elem? xs i ≡ some x → 0 < x.0.version)
    → (i : ℕ) (x : Pid × ℕ) → get_elem? xs i ≡ some x → x.0.shard ≡ k → IsToldIn x.0 (tell_each k xs ds)
all_told k [] ds some_version i x at here = absurd (at_nothing x i at)
all_told k (y ∷ ys) ds some_version zero x at here =
    let same : y ≡ x = some-injective y x at in
    let t = told_one k y ds (ap (λ (z : Pid × ℕ). z.0.shard) same ∙ here) (some_version 0 y refl) in
    subst (λ (z : Pid × ℕ). IsToldIn z.0 (tell_each k ys (tell_one k y ds))) same
    (t.0, t.1, told_stays k ys (tell_one k y ds) t.0 t.1 t.2, t.3, t.4, t.5)
all_told k (y ∷ ys) ds some_version (suc i) x at here = all_told k ys (tell_one k y ds) (λ j z e. some_version (suc j) z e) i x at here

get_of : (xs : List (Pid × ℕ)) (i : ℕ) (x : Pid × ℕ) → get_elem? xs i ≡ some x → (i < length xs) × (get_or xs i x ≡ x)
get_of [] i x at = absurd (at_nothing x i at)
get_of (y ∷ ys) zero x at = let first : 0 < length (y ∷ ys) = omega arith in (first, some-injective y x at)
get_of (y ∷ ys) (suc i) x at = let t = get_of ys i x at in let next : suc i < length (y ∷ ys) = omega (arith, t.0) in (next, t.1)

-- a death of a desk stands among those of the desk
to_filter : (d : ℕ) (xs : List Death) (j : ℕ) (x : Death) → get_elem? xs j ≡ some x → x.shard ≡ d → (m : ℕ) × (get_elem? (filter (is_of d) xs) m ≡ some x)
to_filter d [] j x at here = absurd (at_nothing x j at)
to_filter d (y ∷ ys) zero x at here =
    let same : y ≡ x = some-injective y x at in
    (0, rw (eq-eqb y.shard d (ap (λ (z : Death). z.shard) same ∙ here)) at)
to_filter d (y ∷ ys) (suc j) x at here = go (is_of d y) (to_filter d ys j x at here)
  where
    go : (b : Bool) → (m : ℕ) × (get_elem? (filter (is_of d) ys) m ≡ some x) → (m : ℕ) × (get_elem? (cond b (y ∷ filter (is_of d) ys) (filter (is_of d) ys)) m ≡ some x)
    go true t = (suc t.0, t.1)
    go false t = t

-- settling keeps what has ended, and no clock goes back ----------------------------------------------

clock_later : (start : Start) (low top d : ℕ) (more old : List Stamped) → IsLocal start low top d (more ++ old) → clock low old ≤ clock low (more ++ old)
clock_later start low top d [] old l = le_refl (clock low old)
clock_later start low top d (s ∷ more) old l = let h = l.0.later in let k = clock_later start low top d more old l.1 in omega arith

module _ (g : GatheredState) (whole : IsGathered g) where
  journal_is : (d : ℕ) (s : ShardState) → d < length g.shards → journals g d ≡ (get_or g.shards d s).journal
  journal_is d s h = get_or-map (λ (s : ShardState). s.journal) g.shards d s [] h

  -- a process is by its own desk what it is on the node
  own_life : (p : Pid) (s : ShardState) → p.shard < length g.shards → phase_of (get_or g.shards p.shard s) p ≡ life (begins g) (events (journals g p.shard)) p
  own_life p s h =
      let z : ShardState = get_or g.shards p.shard s in
      let own : life z.start (events z.journal) p ≡ life (begins g) (events z.journal) p = life_same z.start (begins g) p.shard (start_same g.config g.shards whole.shards p.shard s h) (events z.journal) p refl in
      own ∙ ap (λ j. life (begins g) (events j) p) (sym (journal_is p.shard s h))

  ended_by_own : (p : Pid) (s : ShardState) → p.shard < length g.shards → HasEndedOn g p → is_ended (phase_of (get_or g.shards p.shard s) p) ≡ true
  ended_by_own p s h e = ap is_ended (own_life p s h) ∙ e

  ended_on_node : (p : Pid) (s : ShardState) → p.shard < length g.shards → is_ended (phase_of (get_or g.shards p.shard s) p) ≡ true → HasEndedOn g p
  ended_on_node p s h e = ap is_ended (sym (own_life p s h)) ∙ e

  module _ (old : GatheredState) (settles : Settles old g) where
    pub end_settled : (x : Death) → IsEndOn old x → IsEndOn g x
    end_settled x e =
        let p : Pid = record { shard = x.shard; slot = x.slot; version = x.version } in
        let d = x.shard in
        let here : x.shard < length g.shards = omega (arith, e.shard, settles.count) in
        let follows = settles.journals_follow d e.shard in
        let s = some_shard g.shards d here in
        let local = local_as g.config d (get_or g.shards d s) (whole.shards d s here) in
        let longer : IsLocal (get_or g.shards d s).start g.config.start g.config.top_version d (follows.more ++ journals old d)
        = subst (λ j. IsLocal (get_or g.shards d s).start g.config.start g.config.top_version d j) (sym (journal_is d s here) ∙ follows.is) local in
        let low : g.config.start ≡ old.config.start = ap (λ (c : Config). c.start) settles.config in
        record {
          shard = here;
          stamp =
              subst (λ j. x.stamp ≤ clock g.config.start j) (sym follows.is)
              (le_trans (subst (λ n. x.stamp ≤ clock n (journals old d)) (sym low) e.stamp) (clock_later (get_or g.shards d s).start g.config.start g.config.top_version d follows.more (journals old d) longer));
          ended =
              subst (λ j. is_ended (life (begins g) (events j) p) ≡ true) (sym follows.is)
              (subst (λ b. is_ended (life b (events (follows.more ++ journals old d)) p) ≡ true) (sym settles.start) (ended_later (begins old) p follows.more (journals old d) e.ended));
        }
      where
        some_shard : (ss : List ShardState) (d : ℕ) → d < length ss → ShardState
        some_shard [] d h = absurd (omega arith)
        some_shard (s ∷ ss) d h = s

-- the seats of a node that goes on in the directory that was kept -------------------------------------

module _ (g : GatheredState) (whole : IsGathered g) (n : ℕ) (lives : List DeskTable) (count : length lives ≡ length g.shards)
    (told : (d : ℕ) (x : ShardState) (t : DeskTable) → d < length g.shards → IsTold (get_or g.shards d x) (get_or lives d t))
    (turns : AreInTurn g.shards) (above : (d : ℕ) → clock g.config.start (journals g d) ≤ n) (k : KeptState) (for : IsKeptFor g k)
    (late : List (Pid × ℕ)) (since : AreEndsSince g k.written n late) where
  pub desks_are : k.directory.desks ≡ g.config.desks
  desks_are = for.kept.desks ∙ ap (λ (c : Config). c.desks) (sym for.settles.config)

  pub slots_are : k.directory.slots ≡ g.config.slots
  slots_are = for.kept.slots ∙ ap (λ (c : Config). c.slots) (sym for.settles.config)

  pub homes_are : k.seat.homes ≡ up_from 0 k.directory.desks
  homes_are = for.kept.homes ∙ ap (up_from 0) (sym for.kept.desks)

  ends_here : (j : ℕ) (x : Death) → get_elem? k.seat.deaths j ≡ some x → IsEndOn g x
  ends_here j x at = end_settled g whole for.gathered for.settles x (for.kept.ends j x at)

  -- a process that ended was born, so it has a slot and a version
  in_turn : (p : Pid) (s : ShardState) → p.shard < length g.shards → HasEndedOn g p → IsInTurn (get_or g.shards p.shard s) p
  in_turn p s h e = turns p.shard s h p (born (phase_of (get_or g.shards p.shard s) p) (ended_by_own g whole p s h e))

  late_at : (i : ℕ) (x : Pid × ℕ) → get_elem? late i ≡ some x → (x.0.shard < length g.shards) × HasEndedOn g x.0 × (x.1 ≡ n)
  late_at i x at =
      let u = get_of late i x at in
      subst (λ (v : Pid × ℕ). (v.0.shard < length g.shards) × HasEndedOn g v.0 × (v.1 ≡ n)) u.1 (since.each i x u.0)

  pub are_late : AreLate k.directory k.seat.deaths late
  are_late = record {
    stamp = n;
    each = λ i d h.
        let p = (get_or late i d).0 in
        let a = since.each i d h in
        let z : ShardState = fresh_shard g.config 0 in
        let turn = in_turn p z a.0 a.1 in
        let slots : (get_or g.shards p.shard z).config.slots ≡ g.config.slots = ap (λ (c : Config). c.slots) (whole.shards p.shard z a.0).config_is in
        ((omega (arith, a.0, whole.desks, desks_are), omega (arith, turn.slot, slots, slots_are)), a.2);
    low = λ j x at. le_trans (ends_here j x at).stamp (above x.shard);
  }

  -- a process that had ended by as many events as were written had ended when the node was gathered
  had_before : (p : Pid) → p.shard < length g.shards → HadEndedBy g (get_or k.written p.shard 0) p → HasEndedOn for.gathered p
  had_before p h had =
      let old = for.gathered in
      let d = p.shard in
      let z : ShardState = fresh_shard g.config 0 in
      let here : p.shard < length old.shards = omega (arith, h, for.settles.count) in
      let follows = for.settles.journals_follow d here in
      let place : get_or k.written d 0 ≡ length (journals old d)
      = ap (λ w. get_or w d 0) for.kept.written ∙ get_or-map (λ (s : ShardState). length s.journal) old.shards d z 0 here
      ∙ ap length (sym (get_or-map (λ (s : ShardState). s.journal) old.shards d z [] here)) in
      let all : length (follows.more ++ journals old d) ≡ length follows.more + length (journals old d) = length-append follows.more (journals old d) in
      let same : oldest (get_or k.written d 0) (journals g d) ≡ journals old d
      = ap (λ m. oldest m (journals g d)) place ∙ ap (oldest (length (journals old d))) follows.is
      ∙ drop_at follows.more (journals old d) (length (follows.more ++ journals old d) - length (journals old d)) (omega (arith, all)) in
      subst (λ b. is_ended (life b (events (journals old d)) p) ≡ true) for.settles.start (subst (λ j. is_ended (life (begins g) (events j) p) ≡ true) same had)

  abbrev ends_of_desk : ℕ → List Death
  ends_of_desk d = tell_each d late (filter (is_of d) k.seat.deaths)

  -- the end of each process of a desk that has ended is told
  all_told_on : (d : ℕ) (p : Pid) → p.shard ≡ d → p.shard < length g.shards → HasEndedOn g p → IsToldIn p (ends_of_desk d)
  all_told_on d p home h e =
      ⊎_elim
      (λ (had : HadEndedBy g (get_or k.written p.shard 0) p).
      let old : p.shard < length for.gathered.shards = omega (arith, h, for.settles.count) in
      let a = for.kept.all p old (had_before p h had) in
      let b = to_filter d k.seat.deaths a.0 a.1 a.2 (a.3 ∙ home) in
      (b.0, a.1, told_stays d late (filter (is_of d) k.seat.deaths) b.0 a.1 b.1, a.3, a.4, a.5))
      (λ (c : Contains late (p, n)).
      let x : Pid × ℕ = (p, n) in
      let at : get_elem? late c.0 ≡ some x = at_get_or late c.0 x c.1 ∙ ap (λ (y : Pid × ℕ). some y) c.2 in
      all_told d late (filter (is_of d) k.seat.deaths)
      (λ i y there. let u = late_at i y there in (in_turn y.0 (fresh_shard g.config 0) u.0 u.1).version)
      c.0 x at home)
      (since.all p h e)

  module _ (d : ℕ) (s : ShardState) (t : DeskTable) (h : d < length g.shards) where
    abbrev z : ShardState
    z = get_or g.shards d s

    number : z.number ≡ d
    number = (whole.shards d s h).number

    -- who has ended had ended before the next journal
    before : (p : Pid) → is_ended (phase_of z p) ≡ true → is_ended (at_start (start_after z.start (past z)) p) ≡ true
    before p e = ap is_ended (leaves_each z.start (past z) p) ∙ outcome_ended (phase_of z p) ∙ e

    abbrev IsOld : Death → Type 0
    IsOld x = (x.shard ≡ z.number) × (x.stamp ≤ n) × (is_ended (at_start (start_after z.start (past z)) (record { shard = x.shard; slot = x.slot; version = x.version })) ≡ true)

    old_one : (m : ℕ) (x : Death) → get_elem? (filter (is_of d) k.seat.deaths) m ≡ some x → IsOld x
    old_one m x at =
        let f = from_filter (is_of d) k.seat.deaths m x at in
        let e = ends_here f.0 x f.1 in
        let p : Pid = record { shard = x.shard; slot = x.slot; version = x.version } in
        let home : x.shard ≡ d = eqb-true x.shard d f.2 in
        (home ∙ sym number, le_trans e.stamp (above x.shard), before p (subst (λ i. is_ended (phase_of (get_or g.shards i s) p) ≡ true) home (ended_by_own g whole p s e.shard e.ended)))

    late_one : (i : ℕ) (x : Pid × ℕ) → get_elem? late i ≡ some x → x.0.shard ≡ d → IsOld (end_of x)
    late_one i x at here =
        let l = late_at i x at in
        let low : x.1 ≤ n = omega (arith, l.2) in
        (here ∙ sym number, low, before x.0 (subst (λ i. is_ended (phase_of (get_or g.shards i s) x.0) ≡ true) here (ended_by_own g whole x.0 s l.0 l.1)))

    is_told : AreToldBefore (start_after z.start (past z)) n z.number (ends_of_desk d)
    is_told = record {
      each = each_told d late (filter (is_of d) k.seat.deaths) IsOld old_one late_one;
      all = λ p here e.
          let gone : is_ended (phase_of z p) ≡ true = sym (outcome_ended (phase_of z p)) ∙ sym (ap is_ended (leaves_each z.start (past z) p)) ∙ e in
          let home : p.shard ≡ d = here ∙ number in
          let there : p.shard < length g.shards = omega (arith, h, home) in
          all_told_on d p home there (ended_on_node g whole p s there (subst (λ i. is_ended (phase_of (get_or g.shards i s) p) ≡ true) (sym home) gone));
    }

    seat_here : IsSeatOf (restarted n z) (k.directory, late_seat k.directory.name k.seat.deaths late d) (all_forgotten (get_or lives d t))
    seat_here = (
      record {
        desks = desks_are ∙ ap (λ (c : Config). c.desks) (sym (whole.shards d s h).config_is);
        slots = slots_are ∙ ap (λ (c : Config). c.slots) (sym (whole.shards d s h).config_is);
        near = λ j r at. absurd (at_nothing r j at);
        seen = tt;
        words = tt;
        told = begins_anew (get_or lives d t) z.start z.number (past z) (told d s t h);
        unread = refl;
        old = is_told;
        turns = turns_again n z (turns d s h);
      },
      λ i. record { name = k.directory.name; homes = sym number i ∷ []; reads = []; deaths = ends_of_desk d; marked = ends_of_desk d },
    )

  module _ (desks : ℕ) (seats : List Seated) (enough : desks ≡ g.config.desks)
      (are : seats ≡ map (λ m. (k.directory, late_seat k.directory.name k.seat.deaths late m)) (up_from 0 desks)) where
    seat_count : length seats ≡ desks
    seat_count = ap length are ∙ count_from (λ m. (k.directory, late_seat k.directory.name k.seat.deaths late m)) 0 desks

    seat_at : (i : ℕ) (p : Seated) → i < length seats → get_or seats i p ≡ (k.directory, late_seat k.directory.name k.seat.deaths late i)
    seat_at i p h =
        let e : 0 + i ≡ i = omega arith in
        ap (λ l. get_or l i p) are ∙ at_from (λ m. (k.directory, late_seat k.directory.name k.seat.deaths late m)) 0 desks i p (omega (arith, h, seat_count))
        ∙ ap (λ m. (k.directory, late_seat k.directory.name k.seat.deaths late m)) e

    restarted_count : length (map (restarted n) g.shards) ≡ length g.shards
    restarted_count = length-map g.shards (restarted n)

    pub kept_ready : AreReady (map (restarted n) g.shards) (map all_forgotten lives) seats
    kept_ready = record {
      directory = k.directory;
      count = seat_count ∙ enough ∙ sym (restarted_count ∙ whole.desks);
      directories = λ i p h. ap (λ (x : Seated). x.0) (seat_at i p h);
      unread = λ i p h. ap (λ (x : Seated). x.1.reads) (seat_at i p h);
      seated =
          seated_each (map (restarted n) g.shards) seats (map all_forgotten lives) (restarted_count ∙ whole.desks ∙ sym (seat_count ∙ enough))
          (restarted_count ∙ sym count ∙ sym (length-map lives all_forgotten))
          (λ i s p t h.
          let in_shards : i < length g.shards = omega (arith, h, restarted_count) in
          let in_lives : i < length lives = omega (arith, in_shards, count) in
          let in_seats : i < length seats = omega (arith, in_shards, seat_count, enough, whole.desks) in
          subst (λ x. IsSeatOf x (get_or seats i p) (get_or (map all_forgotten lives) i t)) (sym (get_or-map (restarted n) g.shards i s s in_shards))
          (subst (λ x. IsSeatOf (restarted n (get_or g.shards i s)) x (get_or (map all_forgotten lives) i t)) (sym (seat_at i p in_seats))
          (subst (IsSeatOf (restarted n (get_or g.shards i s)) (k.directory, late_seat k.directory.name k.seat.deaths late i)) (sym (get_or-map all_forgotten lives i t t in_lives))
          (seat_here i s t in_shards))));
    }

-- if there was memory for what is beside them
pub if_kept : {E : Type 0} (shards : List ShardState) (tables : List DeskTable) (seats : List Seated) → AreReady shards tables seats → (result : Result Room E)
    → IfOk result (λ room. ◌≡◌ {A = List Seated} (map (λ p. (arc_value p.0, p.1)) room.seats.items) seats) → IfOk result (λ room. AreReady shards tables (map (λ p. (arc_value p.0, p.1)) room.seats.items))
if_kept shards tables seats ready (Ok room) h = subst (AreReady shards tables) (sym h) ready
if_kept shards tables seats ready (Err e) h = h
