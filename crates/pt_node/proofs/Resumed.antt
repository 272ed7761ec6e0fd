-- The desks of a quiet node that goes on.
use Rattle.std.proofs.Common.{◌≡◌, ℕ, ◌+◌, ◌*◌, ◌<◌, false, cond, List, [], ◌∷◌, ◌++◌, length, map, get_or, Some, None, refl, sym, ap, ◌∙◌, subst, arith}
use Rattle.std.specs.Prelude.{filter_map}
use Rattle.std.specs.List.{cons_option}
use Rattle.std.specs.Option.{option_or}
use Rattle.std.proofs.lemmas.List.{get_or-map, get_or_default, length-map}
use Rattle.std.proofs.lemmas.Simd.{map-map}
use Rattle.pt_signal.specs.declared.pid.Pid.{Pid}
use Rattle.pt_events.specs.declared.event.Stamped.{Stamped}
use Rattle.pt_events.specs.History.{Past, Phase, unborn, living, ended, at_start, is_ended, is_unborn}
use Rattle.pt_events.specs.Leaving.{outcome, start_after}
use Rattle.pt_events.specs.Journal.{Agrees, events, IsMerge}
use Rattle.pt_events.proofs.Leaving.{leaves_each}
use Rattle.pt_accounts.specs.LifeState.{LifeState}
use Rattle.pt_accounts.specs.Table.{Slots}
use Rattle.pt_accounts.specs.DeskLives.{DeskTable, IsTableOf, BeginsAnew, all_forgotten, forgotten, latest_end, latest_ends}
use Rattle.pt_directory.specs.Seats.{DirectoryState, death_of, given_deaths, reopened_seat}
use Rattle.pt_directory.proofs.Lists.{at_nothing}
use Rattle.pt_carrier.specs.Ends.{Place, OutEnds, InEnds}
use Rattle.pt_carrier.specs.Node.{places, IsNode, IsNew}
use Rattle.pt_carrier.proofs.Meeting.{can_meet}
use Rattle.pt_signal.specs.declared.config.Config.{Config}
use Rattle.pt_shard.specs.ShardState.{ShardState, past, phase_of, box}
use Rattle.pt_shard.specs.Outbox.{held_from}
use Rattle.pt_shard.specs.Restart.{restarted}
use Rattle.pt_shard.specs.InTurn.{IsInTurn}
use Rattle.pt_gathered.specs.Gathered.{GatheredState, IsGathered, box_at, hold_at, journals}
use Rattle.pt_gathered.specs.Pasts.{IsBeginningOf, IsOutlineOf, GoesOnFrom, GoesOnBut}
use Rattle.pt_gathered.specs.Quiet.{ends_of}
use Rattle.pt_gathered.specs.Settling.{NothingLeft}
use Rattle.pt_beginning.specs.Beginning.{IsBeginning, start_of}
use Rattle.pt_desk.specs.Sight.{WasInTurn, AreToldBefore}
use Rattle.pt_desk.specs.DeskState.{DeskState, IsAccounted}
use Rattle.pt_workers.specs.Desks.{AreAccounted, AreDesksOf, all_ends, all_shards}
use Rattle.pt_node.specs.Resuming.{AreResumed}
use Rattle.pt_node.specs.Seating.{Seated, AreFreshSeats, AreReady, AreSeated, IsSeatOf, all_seats, seat_in}
use Rattle.pt_node.proofs.SeatsOf.{fresh_seat, seat_count, seated_each}
use Rattle.pt_desk.proofs.Before.{deaths_before, told_before}
use Rattle.pt_node.proofs.Wholes.{accounted_each}

-- what is left behind of a process ---------------------------------------------------------------

outcome_unborn : (f : Phase) → is_unborn (outcome f) ≡ is_unborn f
outcome_unborn unborn = refl
outcome_unborn (living s) = refl
outcome_unborn (ended r s) = refl

pub outcome_ended : (f : Phase) → is_ended (outcome f) ≡ is_ended f
outcome_ended unborn = refl
outcome_ended (living s) = refl
outcome_ended (ended r s) = refl

-- a table that forgot has the latest ends that it had
latest_kept : (lives : List LifeState) → latest_end (map forgotten lives) ≡ latest_end lives
latest_kept [] = refl
latest_kept (l ∷ lives) = λ i. option_or (latest_kept lives i) (cond (outcome_ended l.phase i) (Some l.pid) None)

slots_kept : (slots : Slots) → filter_map latest_end (map (λ lives. map forgotten lives) slots) ≡ filter_map latest_end slots
slots_kept [] = refl
slots_kept (x ∷ slots) = λ i. cons_option (latest_kept x i) (slots_kept slots i)

pub ends_kept : (t : DeskTable) → latest_ends (all_forgotten t) ≡ latest_ends t
ends_kept t = slots_kept t.slots

-- the versions of a slot of one that goes on
pub turns_again : (n : ℕ) (s : ShardState) → ((p : Pid) → is_unborn (phase_of s p) ≡ false → IsInTurn s p) → (p : Pid) → is_unborn (at_start (start_after s.start (past s)) p) ≡ false
    → WasInTurn (start_after s.start (past s)) s.config.slots p
turns_again n s turns p born =
    let was : is_unborn (phase_of s p) ≡ false = sym (outcome_unborn (phase_of s p)) ∙ sym (ap is_unborn (leaves_each s.start (past s) p)) ∙ born in
    let turn = turns p was in
    record {
      slot = turn.slot;
      version = turn.version;
      before = λ v some below.
          let q : Pid = record p { version = v } in
          ap is_ended (leaves_each s.start (past s) q) ∙ outcome_ended (phase_of s q) ∙ turn.before v some below;
    }

-- the seat of a desk that goes on
resumed_seat : (n k : ℕ) (s : ShardState) (t : DeskTable) (directory : DirectoryState) (dead : List (Pid × ℕ)) → s.number ≡ k
    → directory.desks ≡ s.config.desks → directory.slots ≡ s.config.slots → ((p : Pid) → is_unborn (phase_of s p) ≡ false → IsInTurn s p)
    → IsTableOf s.start s.number (past s) t → BeginsAnew t (all_forgotten t) → given_deaths k dead ≡ map (λ p. death_of p n) (latest_ends t)
    → IsSeatOf (restarted n s) (directory, reopened_seat directory.name dead k) (all_forgotten t)
resumed_seat n k s t directory dead number desks slots turns told anew given =
    let home : k ≡ s.number = sym number in
    let deaths : given_deaths k dead ≡ deaths_before (all_forgotten t) n = given ∙ ap (map (λ p. death_of p n)) (sym (ends_kept t)) in (
      record {
        desks = desks;
        slots = slots;
        near = λ j r at. absurd (at_nothing r j at);
        seen = tt;
        words = tt;
        told = anew s.start s.number (past s) told;
        unread = refl;
        old = subst (AreToldBefore (start_after s.start (past s)) n s.number) (sym deaths) (told_before (start_after s.start (past s)) n s.number (all_forgotten t) (anew s.start s.number (past s) told));
        turns = turns_again n s turns;
      },
      λ i. record { name = directory.name; homes = home i ∷ []; reads = []; deaths = given_deaths k dead; marked = given_deaths k dead },
    )

nil_parts : {A : Type 0} (xs ys : List A) → xs ++ ys ≡ [] → (xs ≡ []) × (ys ≡ [])
nil_parts [] ys h = (refl, h)
nil_parts (x ∷ xs) ys h = absurd cc

module _ (g : GatheredState) (whole : IsGathered g) (n : ℕ) where
  shard_count : length (map (restarted n) g.shards) ≡ length g.shards
  shard_count = length-map g.shards (restarted n)

  restarted_at : (k : ℕ) (s : ShardState) → k < length g.shards → get_or (map (restarted n) g.shards) k s ≡ restarted n (get_or g.shards k s)
  restarted_at k s h = get_or-map (restarted n) g.shards k s s h

  desks_of : (k : ℕ) (s : ShardState) → k < length g.shards → g.config.desks ≡ (get_or g.shards k s).config.desks
  desks_of k s h = ap (λ (c : Config). c.desks) (sym (whole.shards k s h).config_is)

  slots_of : (k : ℕ) (s : ShardState) → k < length g.shards → g.config.slots ≡ (get_or g.shards k s).config.slots
  slots_of k s h = ap (λ (c : Config). c.slots) (sym (whole.shards k s h).config_is)

  -- nothing waits anywhere, and new lanes were made ---------------------------------------------

  module _ (none : NothingLeft g) (pairs : List (OutEnds × InEnds)) (count : length pairs ≡ g.config.desks) (node : IsNode (map places pairs))
      (new : (d : ℕ) (p : OutEnds × InEnds) → d < g.config.desks → IsNew g.config.desks g.config.lane (get_or pairs d p)) where
    box_none : (k e : ℕ) (s : ShardState) → k < length g.shards → e < length g.shards → box (get_or g.shards k s) e ≡ []
    box_none k e s h l =
        let a = nil_parts (held_from k (hold_at g.shards e) ++ get_or g.lanes (k * length g.shards + e) []) (box_at g.shards k e) (none k e h l) in
        sym (ap (λ z. get_or z e []) (get_or-map (λ (s : ShardState). s.outbox) g.shards k s [] h)) ∙ a.1

    hold_none : (d k : ℕ) (s : ShardState) → d < length g.shards → k < length g.shards → held_from d (get_or g.shards k s).hold ≡ []
    hold_none d k s h l =
        let a = nil_parts (held_from d (hold_at g.shards k) ++ get_or g.lanes (d * length g.shards + k) []) (box_at g.shards d k) (none d k h l) in
        ap (held_from d) (sym (get_or-map (λ (s : ShardState). s.hold) g.shards k s None l))
        ∙ (nil_parts (held_from d (hold_at g.shards k)) (get_or g.lanes (d * length g.shards + k) []) a.0).0

    pub resumed_accounted : AreAccounted (map (restarted n) g.shards) pairs
    resumed_accounted = accounted_each (map (restarted n) g.shards) pairs (shard_count ∙ whole.desks ∙ sym count) each
      where
        each : (k : ℕ) (s : ShardState) (p : OutEnds × InEnds) → k < length (map (restarted n) g.shards) → IsAccounted (get_or (map (restarted n) g.shards) k s) (get_or pairs k p).0 (get_or pairs k p).1
        each k s p h =
            let in_shards : k < length g.shards = omega (arith, h, shard_count) in
            let in_pairs : k < length pairs = omega (arith, in_shards, whole.desks, count) in
            let in_node : k < length (map places pairs) = omega (arith, in_pairs, length-map pairs places) in
            let at : get_or (map places pairs) k (places p) ≡ places (get_or pairs k p) = get_or-map places pairs k p (places p) in_pairs in
            let numbers = node.numbers k (places p) in_node in
            let rings = node.lanes k (places p) in_node in
            let fresh_ends = new k p (omega (arith, in_pairs, count)) in
            let here = get_or pairs k p in
            let still : here ≡ get_or pairs k here = get_or_default pairs k p here in_pairs in
            let desks = desks_of k s in_shards in
            let number = (whole.shards k s in_shards).number in
            let all : length (map places pairs) ≡ (get_or g.shards k s).config.desks = length-map pairs places ∙ count ∙ desks in
            subst (λ z. IsAccounted z (get_or pairs k p).0 (get_or pairs k p).1) (sym (restarted_at k s in_shards)) (record {
              out_number = ap (λ (z : Place × Place). z.0.number) (sym at) ∙ numbers.0 ∙ sym number;
              in_number = ap (λ (z : Place × Place). z.1.number) (sym at) ∙ numbers.1 ∙ sym number;
              out_desks = ap (λ (z : Place × Place). length z.0.rings) (sym at) ∙ rings.0 ∙ all;
              in_desks = ap (λ (z : Place × Place). length z.1.rings) (sym at) ∙ rings.1 ∙ all;
              posted_desks = fresh_ends.posted_desks ∙ desks;
              collected_desks = fresh_ends.collected_desks ∙ desks;
              posted = λ e l. rw (fresh_ends.posted e, box_none k e s in_shards (omega (arith, l, desks, whole.desks))) refl;
              collected = λ d l. subst (λ z. Agrees (get_or (get_or pairs k p).1.collected d []) [] z) (sym (hold_none d k s (omega (arith, l, desks, whole.desks)) in_shards)) (fresh_ends.collected d);
              own = can_meet pairs node k k here here in_pairs in_pairs still still;
            })

  -- the tables forgot -----------------------------------------------------------------------------

  module _ (tables : List DeskTable) (table_count : length tables ≡ length g.shards)
      (told : (k : ℕ) (s : ShardState) (t : DeskTable) → k < length g.shards → IsTableOf (get_or g.shards k s).start (get_or g.shards k s).number (past (get_or g.shards k s)) (get_or tables k t))
      (turns : (k : ℕ) (s : ShardState) → k < length g.shards → (p : Pid) → is_unborn (phase_of (get_or g.shards k s) p) ≡ false → IsInTurn (get_or g.shards k s) p)
      (anew : (k : ℕ) (t : DeskTable) → k < length tables → BeginsAnew (get_or tables k t) (all_forgotten (get_or tables k t)))
      (given : (k : ℕ) (t : DeskTable) → k < length tables → given_deaths k (ends_of n tables) ≡ map (λ p. death_of p n) (latest_ends (get_or tables k t)))
      (seats : List Seated) (looked : AreFreshSeats (record g.config { start = n }) (ends_of n tables) seats) where
    pub resumed_seated : AreSeated (map (restarted n) g.shards) seats (map all_forgotten tables)
    resumed_seated =
        seated_each (map (restarted n) g.shards) seats (map all_forgotten tables)
        (shard_count ∙ whole.desks ∙ sym (seat_count (record g.config { start = n }) (ends_of n tables) seats looked))
        (shard_count ∙ sym table_count ∙ sym (length-map tables all_forgotten))
        (λ k s p t h.
        let in_shards : k < length g.shards = omega (arith, h, shard_count) in
        let in_tables : k < length tables = omega (arith, in_shards, table_count) in
        subst (λ z. IsSeatOf z (get_or seats k p) (get_or (map all_forgotten tables) k t)) (sym (restarted_at k s in_shards))
        (subst (λ z. IsSeatOf (restarted n (get_or g.shards k s)) z (get_or (map all_forgotten tables) k t)) (sym (fresh_seat (record g.config { start = n }) (ends_of n tables) seats looked k p (omega (arith, in_shards, whole.desks))))
        (subst (IsSeatOf (restarted n (get_or g.shards k s)) (looked.directory, reopened_seat looked.directory.name (ends_of n tables) k)) (sym (get_or-map all_forgotten tables k t t in_tables))
        (resumed_seat n k (get_or g.shards k s) (get_or tables k t) looked.directory (ends_of n tables) (whole.shards k s in_shards).number
        (looked.desks ∙ desks_of k s in_shards) (looked.slots ∙ slots_of k s in_shards) (turns k s in_shards) (told k s t in_shards) (anew k t in_tables) (given k t in_tables)))))

    -- so they are ready
    pub fresh_ready : AreReady (map (restarted n) g.shards) (map all_forgotten tables) seats
    fresh_ready = record {
      directory = looked.directory;
      count = seat_count (record g.config { start = n }) (ends_of n tables) seats looked ∙ sym (shard_count ∙ whole.desks);
      directories = λ k p h. ap (λ (z : Seated). z.0) (fresh_seat (record g.config { start = n }) (ends_of n tables) seats looked k p (omega (arith, h, seat_count (record g.config { start = n }) (ends_of n tables) seats looked)));
      unread = λ k p h. ap (λ (z : Seated). z.1.reads) (fresh_seat (record g.config { start = n }) (ends_of n tables) seats looked k p (omega (arith, h, seat_count (record g.config { start = n }) (ends_of n tables) seats looked)));
      seated = resumed_seated;
    }

  -- the desks that are made of seats that are ready ---------------------------------------------

  module _ (tables : List DeskTable) (seats : List Seated) (ready : AreReady (map (restarted n) g.shards) tables seats) where
    module _ (some : 0 < length g.shards) (begins : IsBeginning n (start_of (map (restarted n) g.shards)))
        (after : (past : Past) (merged : List Stamped) → GoesOnFrom past g → IsMerge (journals g) merged → IsBeginningOf (events merged ++ past) n (start_of (map (restarted n) g.shards)))
        (but : (past : Past) (merged : List Stamped) → GoesOnBut past g → IsMerge (journals g) merged → IsOutlineOf (events merged ++ past) n (start_of (map (restarted n) g.shards)))
        (pairs : List (OutEnds × InEnds)) (pair_count : length pairs ≡ g.config.desks) (node : IsNode (map places pairs))
        (new : (d : ℕ) (p : OutEnds × InEnds) → d < g.config.desks → IsNew g.config.desks g.config.lane (get_or pairs d p))
        (desks : List DeskState) (ends_are : all_ends desks ≡ pairs) (shards_are : all_shards desks ≡ map (restarted n) g.shards) (seats_are : all_seats desks ≡ seats) where
      desk_count : length desks ≡ g.config.desks
      desk_count = sym (length-map desks (λ (d : DeskState). d.shard)) ∙ ap length shards_are ∙ shard_count ∙ whole.desks

      shard_is : (d : ℕ) (x : DeskState) → d < length desks → (get_or desks d x).shard ≡ restarted n (get_or g.shards d x.shard)
      shard_is d x h =
          sym (get_or-map (λ (d : DeskState). d.shard) desks d x x.shard h) ∙ ap (λ z. get_or z d x.shard) shards_are ∙ restarted_at d x.shard (omega (arith, h, desk_count, whole.desks))

      seat_is : (d : ℕ) (x : DeskState) → d < length desks → seat_in (get_or desks d x) ≡ get_or seats d (seat_in x)
      seat_is d x h = sym (get_or-map seat_in desks d x (seat_in x) h) ∙ ap (λ z. get_or z d (seat_in x)) seats_are

      in_seats : (d : ℕ) → d < length desks → d < length seats
      in_seats d h = omega (arith, h, desk_count, ready.count, shard_count, whole.desks)

      resumed_node : AreDesksOf (record g.config { start = n }) desks
      resumed_node = record {
        some = omega (arith, some, desk_count, whole.desks);
        count = desk_count;
        node = subst IsNode (sym (sym (map-map places (λ (d : DeskState). (d.outs, d.ins)) desks) ∙ ap (map places) ends_are)) node;
        configs = λ d x h. ap (λ (s : ShardState). s.config) (shard_is d x h) ∙ ap (λ (c : Config). record c { start = n }) (whole.shards d x.shard (omega (arith, h, desk_count, whole.desks))).config_is;
        directory = ready.directory;
        directories = λ d x h. ap (λ (p : Seated). p.0) (seat_is d x h) ∙ ready.directories d (seat_in x) (in_seats d h);
        begun = subst (λ s. IsBeginning n (start_of s)) (sym shards_are) begins;
      }

      pub resumed_desks : AreResumed g n desks
      resumed_desks = record {
        node = resumed_node;
        shards = shards_are;
        ends = λ d x h.
            subst (IsNew g.config.desks g.config.lane) (sym (ap (λ z. get_or z d (x.outs, x.ins)) ends_are) ∙ get_or-map (λ (d : DeskState). (d.outs, d.ins)) desks d x (x.outs, x.ins) h)
            (new d (x.outs, x.ins) (omega (arith, h, desk_count)));
        unread = λ d x h. ap (λ (p : Seated). p.1.reads) (seat_is d x h) ∙ ready.unread d (seat_in x) (in_seats d h);
        whole = λ past merged from m. record {
          config = record g.config { start = n };
          node = resumed_node;
          begun = subst (λ s. IsBeginningOf (events merged ++ past) n (start_of s)) (sym shards_are) (after past merged from m);
        };
        outline = λ past merged from m. record {
          config = record g.config { start = n };
          node = resumed_node;
          begun = subst (λ s. IsOutlineOf (events merged ++ past) n (start_of s)) (sym shards_are) (but past merged from m);
        };
      }
