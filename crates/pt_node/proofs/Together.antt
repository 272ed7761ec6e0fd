-- The accounts of desks whose lanes were brought together.
use Rattle.std.proofs.Common.{◌≡◌, ℕ, suc, ◌+◌, ◌*◌, ◌<◌, ◌≤◌, List, [], ◌∷◌, ◌++◌, length, map, get_or, Option, Some, None, true, refl, sym, ap, ◌∙◌, subst, arith, ⊎_elim}
use Rattle.std.proofs.lemmas.Simd.{map-map}
use Rattle.std.proofs.lemmas.List.{get_or-map, get_or_past, length-map}
use Rattle.std.proofs.lemmas.Bool.{cases_lt}
use Rattle.std.specs.Prelude.{MatchOption}
use mathlib.Core.Option.{some}
use lib.ListN.{get_elem?}
use Rattle.pt_signal.specs.declared.pid.Pid.{Pid}
use Rattle.pt_signal.specs.declared.letter.Letter.{Letter}
use Rattle.pt_events.specs.declared.event.Event.{Event}
use Rattle.pt_events.specs.declared.event.Event.TheVariants.{Refused}
use Rattle.pt_events.specs.declared.event.Stamped.{Stamped}
use Rattle.pt_events.specs.History.{Past, is_ended, life}
use Rattle.pt_events.specs.Journal.{events, clock, Agrees, posts, gots}
use Rattle.pt_events.specs.Refusals.{stamped_below, IsTrueRefusal, AllTrueRefusals, RefusalsAreTrue}
use Rattle.pt_carrier.specs.Ends.{OutEnds, InEnds}
use Rattle.pt_carrier.specs.Node.{all_posted, all_collected, entry}
use Rattle.pt_signal.specs.declared.config.Config.{Config}
use Rattle.pt_shard.specs.ShardState.{ShardState}
use Rattle.pt_shard.specs.Outbox.{held_from}
use Rattle.pt_gathered.specs.Gathered.{GatheredState, IsGathered, begins, IsShardOf, journal_at, box_at, hold_at, over_in}
use Rattle.pt_gathered.specs.Taking.{AreShards}
use Rattle.pt_beginning.specs.Beginning.{IsBeginning, start_of}
use Rattle.pt_gathered.specs.Late.{HasEndedOn}
use Rattle.pt_gathered.proofs.Starts.{start_same}
use Rattle.pt_gathered.proofs.Agreeing.{local_as}
use Rattle.pt_gathered.proofs.Owned.{life_same, posts_same}
use Rattle.pt_events.proofs.Agreeing.{Agrees-posted}
use Rattle.pt_directory.specs.declared.view.Read.{Read}
use Rattle.pt_desk.specs.Sight.{HasEndOf, IsSeen, AllSeen}
use Rattle.pt_desk.specs.DeskState.{DeskState}
use Rattle.pt_workers.specs.Desks.{AreWhole, all_ends, all_shards}
use Rattle.pt_node.specs.Gathering.{Gathers, HasJournalsOf, ReadsAreTrue}
use Rattle.atomic_table.specs.Seated.{TableId}
use Rattle.pt_directory.specs.declared.view.Death.{Death}
use Rattle.pt_directory.specs.Views.{up_from}
use Rattle.pt_directory.specs.Seats.{DirectoryState, SeatState, HasToldOf}
use Rattle.pt_desk.proofs.Before.{old_ends}
use Rattle.pt_desk.proofs.Deaths.{told, own_death}
use Rattle.pt_events.proofs.Refusals.{ended_below}
use Rattle.pt_gathered.specs.Keeping.{KeptState, IsEndOn, IsKeptOf}
use Rattle.pt_node.specs.Seating.{Seated, all_seats, seat_in, together, AreAudited}
use Rattle.pt_node.proofs.TrueReads.{death_from, death_in, number_at, true_read}

-- one lane: what was posted is what was collected and what the lane has
pub lane_agrees : (sent posted box collected lane got held : List Letter) → sent ≡ posted ++ box → posted ≡ collected ++ lane → Agrees collected got held → Agrees sent got (held ++ lane ++ box)
lane_agrees sent posted box collected lane got held s p a =
    subst (λ z. Agrees z got (held ++ lane ++ box)) (sym (s ∙ ap (λ z. z ++ box) p))
    (Agrees-posted (collected ++ lane) got (held ++ lane) box (Agrees-posted collected got held lane a))

name_together : (name : TableId) (desks : List DeskState) → ((d : ℕ) (x : DeskState) → d < length desks → (get_or desks d x).sight.directory.name ≡ name) → (together name (all_seats desks)).name ≡ name
name_together name [] h = refl
name_together name (y ∷ ys) h = h 0 y (omega arith)

homes_together : (name : TableId) (desks : List DeskState) (m : ℕ) → ((d : ℕ) (x : DeskState) → d < length desks → (get_or desks d x).shard.number ≡ m + d) → (together name (all_seats desks)).homes ≡ up_from m (length desks)
homes_together name [] m h = refl
homes_together name (y ∷ ys) m h =
    let first : y.shard.number ≡ m = (let e = h 0 y (omega arith) in omega arith) in
    let rest = homes_together name ys (suc m) (λ d x l. let e = h (suc d) x (omega (arith, l)) in omega arith) in
    λ i. first i ∷ rest i

-- a desk to read with
pub some_desk : (xs : List DeskState) (d : ℕ) → d < length xs → DeskState
some_desk [] d h = absurd (omega arith)
some_desk (x ∷ xs) d h = x

module _ (desks : List DeskState) where
  pub ends_count : length (all_ends desks) ≡ length desks
  ends_count = length-map desks (λ (d : DeskState). (d.outs, d.ins))

  pub posted_at : (d e : ℕ) (x : DeskState) → d < length desks → entry (all_posted (all_ends desks)) d e ≡ get_or (get_or desks d x).outs.posted e []
  posted_at d e x h =
      ap (λ z. get_or z e []) (get_or-map (λ (p : OutEnds × InEnds). p.0.posted) (all_ends desks) d (x.outs, x.ins) [] (omega (arith, h, ends_count))
      ∙ ap (λ (p : OutEnds × InEnds). p.0.posted) (get_or-map (λ (d : DeskState). (d.outs, d.ins)) desks d x (x.outs, x.ins) h))

  pub collected_at : (e d : ℕ) (x : DeskState) → e < length desks → entry (all_collected (all_ends desks)) e d ≡ get_or (get_or desks e x).ins.collected d []
  collected_at e d x h =
      ap (λ z. get_or z d []) (get_or-map (λ (p : OutEnds × InEnds). p.1.collected) (all_ends desks) e (x.outs, x.ins) [] (omega (arith, h, ends_count))
      ∙ ap (λ (p : OutEnds × InEnds). p.1.collected) (get_or-map (λ (d : DeskState). (d.outs, d.ins)) desks e x (x.outs, x.ins) h))

module _ (desks : List DeskState) (g : GatheredState) (whole : AreWhole desks) (gathers : Gathers desks g) where
  count : length g.shards ≡ length desks
  count = ap length gathers.shards ∙ length-map desks (λ (d : DeskState). d.shard)

  shard_at : (d : ℕ) (x : DeskState) (y : ShardState) → d < length desks → get_or g.shards d y ≡ (get_or desks d x).shard
  shard_at d x y h = ap (λ z. get_or z d y) gathers.shards ∙ get_or-map (λ (d : DeskState). d.shard) desks d x y h

  is_shard : (d : ℕ) (y : ShardState) → d < length desks → IsShardOf g.config d (get_or g.shards d y)
  is_shard d y h =
      let x : DeskState = some_desk desks d h in
      let at = shard_at d x y h in
      record {
        number = ap (λ (s : ShardState). s.number) at ∙ number_at g.config desks gathers.node whole d x h;
        config_is = ap (λ (s : ShardState). s.config) at ∙ gathers.node.configs d x h;
        fit = rw at (whole d x h).fit;
      }

  journal_of : (d : ℕ) (x : DeskState) → d < length desks → journal_at g.shards d ≡ (get_or desks d x).shard.journal
  journal_of d x h = get_or-map (λ (s : ShardState). s.journal) g.shards d x.shard [] (omega (arith, h, count)) ∙ ap (λ (s : ShardState). s.journal) (shard_at d x x.shard h)

  box_of : (d e : ℕ) (x : DeskState) → d < length desks → box_at g.shards d e ≡ get_or (get_or desks d x).shard.outbox e []
  box_of d e x h = ap (λ z. get_or z e []) (get_or-map (λ (s : ShardState). s.outbox) g.shards d x.shard [] (omega (arith, h, count)) ∙ ap (λ (s : ShardState). s.outbox) (shard_at d x x.shard h))

  hold_of : (e : ℕ) (x : DeskState) → e < length desks → hold_at g.shards e ≡ (get_or desks e x).shard.hold
  hold_of e x h = get_or-map (λ (s : ShardState). s.hold) g.shards e x.shard _ (omega (arith, h, count)) ∙ ap (λ (s : ShardState). s.hold) (shard_at e x x.shard h)

  desks_at : (d : ℕ) (x : DeskState) → d < length desks → (get_or desks d x).shard.config.desks ≡ length desks
  desks_at d x h = ap (λ (c : Config). c.desks) (gathers.node.configs d x h) ∙ sym gathers.node.count

  are_shards : AreShards g.config g.shards
  are_shards d y h = is_shard d y (omega (arith, h, count))

  agree_at : (d e : ℕ) → d < length desks → e < length desks → Agrees (posts (begins g) (journal_at g.shards d) e) (gots (journal_at g.shards e) d) (over_in g.shards g.lanes d e)
  agree_at d e h k =
      let x : DeskState = some_desk desks d h in
      let from = (whole d x h).accounts in
      let to = (whole e x k).accounts in
      let z : ShardState = get_or g.shards d x.shard in
      let at : z ≡ (get_or desks d x).shard = shard_at d x x.shard h in
      let own : posts z.start z.journal e ≡ posts (begins g) z.journal e
      = posts_same z.start (begins g) d (start_same g.config g.shards are_shards d x.shard (omega (arith, h, count))) g.config.start g.config.top_version z.journal (local_as g.config d z (is_shard d x.shard h)) e in
      let sent : posts (begins g) (get_or desks d x).shard.journal e ≡ get_or (get_or desks d x).outs.posted e [] ++ get_or (get_or desks d x).shard.outbox e []
      = subst (λ (s : ShardState). posts (begins g) s.journal e ≡ posts s.start s.journal e) at (sym own) ∙ from.posted e (omega (arith, k, desks_at d x h)) in
      let got : Agrees (get_or (get_or desks e x).ins.collected d []) (gots (get_or desks e x).shard.journal d) (held_from d (get_or desks e x).shard.hold) = to.collected d (omega (arith, h, desks_at e x k)) in
      let left = gathers.left.lanes d e (omega (arith, h, ends_count desks)) (omega (arith, k, ends_count desks)) in
      let posted : get_or (get_or desks d x).outs.posted e [] ≡ get_or (get_or desks e x).ins.collected d [] ++ get_or g.lanes (d * length g.shards + e) []
      = sym (posted_at desks d e x h) ∙ left ∙ ap (λ z. z ++ get_or g.lanes (d * length (all_ends desks) + e) []) (collected_at desks e d x k)
      ∙ ap (λ n. get_or (get_or desks e x).ins.collected d [] ++ get_or g.lanes (d * n + e) []) (ends_count desks ∙ sym count) in
      rw (journal_of d x h, journal_of e x k, box_of d e x h, hold_of e x k)
      (lane_agrees (posts (begins g) (get_or desks d x).shard.journal e) (get_or (get_or desks d x).outs.posted e []) (get_or (get_or desks d x).shard.outbox e []) (get_or (get_or desks e x).ins.collected d [])
      (get_or g.lanes (d * length g.shards + e) []) (gots (get_or desks e x).shard.journal d) (held_from d (get_or desks e x).shard.hold)
      sent posted got)

  -- a process is by the start of its desk what it is by that of all
  own_life : (p : Pid) → p.shard < length desks → (x : DeskState) (past : Past) → life (begins g) past p ≡ life (get_or desks p.shard x).shard.start past p
  own_life p h x past =
      let z : ShardState = get_or g.shards p.shard x.shard in
      let own : life z.start past p ≡ life (begins g) past p = life_same z.start (begins g) p.shard (start_same g.config g.shards are_shards p.shard x.shard (omega (arith, h, count))) past p refl in
      sym own ∙ ap (λ (s : ShardState). life s.start past p) (shard_at p.shard x x.shard h)

  -- it is sound if the refused calls were so
  pub gathered_if : RefusalsAreTrue (begins g) (journal_at g.shards) → IsGathered g
  gathered_if true_refusals = record {
    some = omega (arith, count, gathers.node.some);
    desks = count ∙ gathers.node.count;
    lanes = gathers.left.count ∙ ap (λ n. n * n) (ends_count desks ∙ sym count);
    shards = λ d x h. is_shard d x (omega (arith, h, count));
    agree = λ d e h k. agree_at d e (omega (arith, h, count)) (omega (arith, k, count));
    refusals = true_refusals;
    begun = subst (λ s. IsBeginning g.config.start (start_of s)) (sym gathers.shards) gathers.node.begun;
  }

  module _ (audited : AreAudited (all_seats desks)) where
    -- whoever was seen to have ended has
    seen_at : (d : ℕ) (x : DeskState) → d < length desks → (k : ℕ) (r : Read) → get_elem? (get_or desks d x).sight.reads k ≡ some r → (p : Pid) → HasEndOf p r
        → (n : ℕ) → r.stamp ≡ Some n → (m : ℕ) → n < m → is_ended (life (begins g) (events (stamped_below m (journal_at g.shards p.shard))) p) ≡ true
    seen_at d x h k r at p ends n stamp m later =
        let t = true_read g.config desks gathers.node whole audited d x h k r at p ends n stamp m later in
        subst (λ j. is_ended (life (begins g) (events (stamped_below m j)) p) ≡ true) (sym (journal_of p.shard x t.0))
        (ap is_ended (own_life p t.0 x (events (stamped_below m (get_or desks p.shard x).shard.journal))) ∙ t.1)

    pub reads_true : ReadsAreTrue desks g
    reads_true d x h k r at p ends = go r.stamp refl
      where
        go : (o : Option ℕ) → r.stamp ≡ o → MatchOption o (Unit {0}) (λ n. is_ended (life (begins g) (events (stamped_below (n + 1) (journal_at g.shards p.shard))) p) ≡ true)
        go None stamp = tt
        go (Some n) stamp = seen_at d x h k r at p ends n stamp (n + 1) (omega arith)

    -- so each refused call was to such a one
    refused_true : (d : ℕ) (x : DeskState) → d < length desks → (noted : List Stamped) → AllSeen (get_or desks d x).sight.reads noted → AllTrueRefusals (begins g) (journal_at g.shards) noted
    refused_true d x h [] all = tt
    refused_true d x h (s ∷ noted) all = (one s.event all.0, refused_true d x h noted all.1)
      where
        one : (e : Event) → IsSeen (get_or desks d x).sight.reads s.stamp e → IsTrueRefusal (begins g) (journal_at g.shards) s.stamp e
        one (Refused a b) seen = seen_at d x h seen.0 seen.1 seen.3 b seen.4 seen.2 seen.5 s.stamp seen.6
        one _ seen = tt

    refusals_at : RefusalsAreTrue (begins g) (journal_at g.shards)
    refusals_at d =
        ⊎_elim
        (λ (h : d < length g.shards).
        let k : d < length desks = omega (arith, h, count) in
        let x : DeskState = some_desk desks d k in
        subst (AllTrueRefusals (begins g) (journal_at g.shards)) (sym (journal_of d x k)) (refused_true d x k (get_or desks d x).shard.journal (whole d x k).seated.seen))
        (λ (h : length g.shards ≤ d).
        subst (AllTrueRefusals (begins g) (journal_at g.shards))
        (sym (get_or_past (map (λ (s : ShardState). s.journal) g.shards) d [] (omega (arith, length-map g.shards (λ (s : ShardState). s.journal))))) tt)
        (cases_lt d (length g.shards))

    pub gathered_whole : IsGathered g
    gathered_whole = gathered_if refusals_at

    -- what is kept of their directory is that of the gathered node
    module _ (k : KeptState) (first : (p : Seated) → (get_or (all_seats desks) 0 p).0 ≡ k.directory) (seat_is : k.seat ≡ together k.directory.name (all_seats desks))
        (written_is : k.written ≡ map (λ (d : DeskState). length d.shard.journal) desks) where
      one : DeskState
      one = some_desk desks 0 gathers.node.some

      directory_is : (get_or desks 0 one).sight.directory ≡ k.directory
      directory_is = ap (λ (z : Seated). z.0) (sym (get_or-map seat_in desks 0 one (seat_in one) gathers.node.some)) ∙ first (seat_in one)

      all_named : (d : ℕ) (x : DeskState) → d < length desks → (get_or desks d x).sight.directory.name ≡ k.directory.name
      all_named d x h = ap (λ (z : DirectoryState). z.name) (gathers.node.directories d x h ∙ sym (gathers.node.directories 0 one gathers.node.some) ∙ directory_is)

      told_on : (j : ℕ) (z : Death) → get_elem? k.seat.deaths j ≡ some z → IsEndOn g z
      told_on j z at =
          let from = death_from k.directory.name desks one j z (subst (λ (s : SeatState). get_elem? s.deaths j ≡ some z) seat_is at) in
          let e = from.0 in
          let s = (get_or desks e one).shard in
          let x = get_or desks e one in
          let w = whole e one from.2 in
          let t = told x.sight.told s.start s.config.slots s.config.start s.config.top_version s.number (old_ends s x.sight w.fit w.seated) s.journal w.fit.local from.1 z from.3 in
          let home : e ≡ z.shard = sym (number_at g.config desks gathers.node whole e one from.2) ∙ sym t.shard in
          let p : Pid = record { shard = z.shard; slot = z.slot; version = z.version } in
          let gone : is_ended (life s.start (events s.journal) p) ≡ true = ended_below s.start p s.config.start s.config.top_version s.number (z.stamp + 1) s.journal w.fit.local (t.ended (z.stamp + 1) (omega arith)) in
          let within : z.shard < length desks = subst (λ i. i < length desks) home from.2 in
          let moved : is_ended (life (get_or desks z.shard one).shard.start (events (get_or desks z.shard one).shard.journal) p) ≡ true = subst (λ i. is_ended (life (get_or desks i one).shard.start (events (get_or desks i one).shard.journal) p) ≡ true) home gone in
          let low : s.config.start ≡ g.config.start = ap (λ (c : Config). c.start) (gathers.node.configs e one from.2) in
          record {
            shard = omega (arith, within, count);
            stamp =
                subst (λ l. z.stamp ≤ clock g.config.start l) (sym (journal_of z.shard one within))
                (subst (λ i. z.stamp ≤ clock g.config.start (get_or desks i one).shard.journal) home (subst (λ m. z.stamp ≤ clock m s.journal) low t.stamp));
            ended =
                subst (λ l. is_ended (life (begins g) (events l) p) ≡ true) (sym (journal_of z.shard one within))
                (ap is_ended (own_life p within one (events (get_or desks z.shard one).shard.journal)) ∙ moved);
          }

      -- each desk told all ends of its processes, before its journal and in it
      all_told : (p : Pid) → p.shard < length g.shards → HasEndedOn g p → HasToldOf p k.seat
      all_told p h e =
          let d = p.shard in
          let here : p.shard < length desks = omega (arith, h, count) in
          let x = get_or desks d one in
          let s = x.shard in
          let w = whole d one here in
          let gone : is_ended (life s.start (events s.journal) p) ≡ true
          = ap is_ended (sym (own_life p here one (events s.journal))) ∙ subst (λ j. is_ended (life (begins g) (events j) p) ≡ true) (journal_of d one here) e in
          let t = own_death x.sight.told s.start s.config.slots s.config.start s.config.top_version s.number (old_ends s x.sight w.fit w.seated) s.journal w.fit.local p gone in
          let m = death_in k.directory.name desks d one t.0 t.1 here t.2 in
          (m.0, t.1, subst (λ (s : SeatState). get_elem? s.deaths m.0 ≡ some t.1) (sym seat_is) m.1, t.3, t.4, t.5)

      pub kept_of : IsKeptOf g k
      kept_of =
          let w = whole 0 one gathers.node.some in
          let config_is = gathers.node.configs 0 one gathers.node.some in
          record {
            desks = ap (λ (z : DirectoryState). z.desks) (sym directory_is) ∙ w.seated.desks ∙ ap (λ (c : Config). c.desks) config_is;
            slots = ap (λ (z : DirectoryState). z.slots) (sym directory_is) ∙ w.seated.slots ∙ ap (λ (c : Config). c.slots) config_is;
            name = ap (λ (s : SeatState). s.name) seat_is ∙ name_together k.directory.name desks all_named;
            homes =
                ap (λ (s : SeatState). s.homes) seat_is
                ∙ homes_together k.directory.name desks 0 (λ d x h. let e : d ≡ 0 + d = omega arith in number_at g.config desks gathers.node whole d x h ∙ e) ∙ ap (up_from 0) gathers.node.count;
            ends = told_on;
            all = all_told;
            written =
                written_is ∙ sym (map-map (λ (s : ShardState). length s.journal) (λ (d : DeskState). d.shard) desks)
                ∙ ap (map (λ (s : ShardState). length s.journal)) (sym gathers.shards);
          }

pub same_journals : (desks : List DeskState) (g : GatheredState) → g.shards ≡ all_shards desks → HasJournalsOf desks g
same_journals desks g same = (
  ap length same ∙ length-map desks (λ (d : DeskState). d.shard),
  λ d. ap (λ z. get_or z d []) (ap (map (λ (s : ShardState). s.journal)) same ∙ map-map (λ (s : ShardState). s.journal) (λ (d : DeskState). d.shard) desks),
)
