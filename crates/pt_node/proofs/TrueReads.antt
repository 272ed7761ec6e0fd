-- What the audit of all seats says of the journals: whatever a desk has read as an end was one.
use Rattle.std.proofs.Common.{◌≡◌, ℕ, zero, suc, ◌+◌, ◌<◌, true, List, [], ◌∷◌, length, get_or, Some, refl, sym, ap, ◌∙◌, subst, ⊎_elim, arith}
use Rattle.std.specs.Prelude.{MatchOption}
use Rattle.std.proofs.lemmas.List.{get_or-map, length-map}
use mathlib.Core.Option.{some}
use lib.ListN.{get_elem?}
use Rattle.atomic_table.specs.Seated.{TableId}
use Rattle.atomic_table.proofs.Lists.{at_longer}
use Rattle.pt_signal.specs.declared.pid.Pid.{Pid}
use Rattle.pt_events.specs.declared.event.Stamped.{Stamped}
use Rattle.pt_events.specs.History.{is_ended, life}
use Rattle.pt_events.specs.Journal.{events}
use Rattle.pt_events.specs.Refusals.{stamped_below}
use Rattle.pt_directory.specs.declared.view.Read.{Read}
use Rattle.pt_directory.specs.declared.view.Death.{Death}
use Rattle.pt_directory.specs.Views.{deaths_at, Covers}
use Rattle.pt_directory.proofs.Lists.{at_append, at_behind, at_nothing, among, from_among, true-is_at}
use Rattle.pt_signal.specs.declared.config.Config.{Config}
use Rattle.pt_shard.specs.ShardState.{ShardState}
use Rattle.pt_desk.specs.Sight.{deaths_in, HasEndOf}
use Rattle.pt_desk.specs.DeskState.{DeskState, place}
use Rattle.pt_desk.proofs.Deaths.{AreOldEnds, told, ended_before}
use Rattle.pt_desk.proofs.Before.{old_ends}
use Rattle.pt_workers.specs.Desks.{AreDesksOf, AreWhole}
use Rattle.pt_node.specs.Seating.{all_seats, together, AreAudited}

-- the ends that a desk's seat was told of
abbrev pub deaths_of : DeskState → List Death
deaths_of d = deaths_in d.sight.told d.shard.start d.shard.journal

-- what the seats know together --------------------------------------------------------

module _ (name : TableId) where
  home_at : (desks : List DeskState) (d : ℕ) (x : DeskState) → d < length desks → get_elem? (together name (all_seats desks)).homes d ≡ some (get_or desks d x).shard.number
  home_at [] d x h = absurd (omega arith)
  home_at (y ∷ ys) zero x h = refl
  home_at (y ∷ ys) (suc d) x h = home_at ys d x (omega arith)

  read_in : (desks : List DeskState) (d : ℕ) (x : DeskState) (k : ℕ) (r : Read) → d < length desks → get_elem? (get_or desks d x).sight.reads k ≡ some r
      → (m : ℕ) × (get_elem? (together name (all_seats desks)).reads m ≡ some r)
  read_in [] d x k r h at = absurd (omega arith)
  read_in (y ∷ ys) zero x k r h at = (k, at_longer y.sight.reads (together name (all_seats ys)).reads k r at)
  read_in (y ∷ ys) (suc d) x k r h at = let t = read_in ys d x k r (omega arith) at in at_behind y.sight.reads (together name (all_seats ys)).reads t.0 r t.1

  pub death_in : (desks : List DeskState) (d : ℕ) (x : DeskState) (k : ℕ) (z : Death) → d < length desks → get_elem? (deaths_of (get_or desks d x)) k ≡ some z
      → (m : ℕ) × (get_elem? (together name (all_seats desks)).deaths m ≡ some z)
  death_in [] d x k z h at = absurd (omega arith)
  death_in (y ∷ ys) zero x k z h at = (k, at_longer (deaths_of y) (together name (all_seats ys)).deaths k z at)
  death_in (y ∷ ys) (suc d) x k z h at = let t = death_in ys d x k z (omega arith) at in at_behind (deaths_of y) (together name (all_seats ys)).deaths t.0 z t.1

  pub death_from : (desks : List DeskState) (x : DeskState) (m : ℕ) (z : Death) → get_elem? (together name (all_seats desks)).deaths m ≡ some z
      → (d : ℕ) × (k : ℕ) × (d < length desks) × (get_elem? (deaths_of (get_or desks d x)) k ≡ some z)
  death_from [] x m z at = absurd (at_nothing z m at)
  death_from (y ∷ ys) x m z at =
      ⊎_elim
      (λ (here : get_elem? (deaths_of y) m ≡ some z). let first : 0 < length (y ∷ ys) = omega arith in (0, m, first, here))
      (λ (t : (j : ℕ) × (get_elem? (together name (all_seats ys)).deaths j ≡ some z) × (m ≡ length (deaths_of y) + j)).
      let u = death_from ys x t.0 z t.1 in let next : suc u.0 < length (y ∷ ys) = omega (arith, u.2) in (suc u.0, u.1, next, u.3))
      (at_append (deaths_of y) (together name (all_seats ys)).deaths m z at)

-- a desk is the one of its number
pub number_at : (config : Config) (desks : List DeskState) → AreDesksOf config desks → AreWhole desks → (d : ℕ) (x : DeskState) → d < length desks → (get_or desks d x).shard.number ≡ d
number_at config desks node whole d x h =
    let k = node.node.numbers d (place x) (omega (arith, h, length-map desks place)) in
    let at = get_or-map place desks d x (place x) h in
    sym (whole d x h).accounts.out_number ∙ sym (ap (λ p. p.0.number) at) ∙ k.0

module _ (config : Config) (desks : List DeskState) (node : AreDesksOf config desks) (whole : AreWhole desks) (audited : AreAudited (all_seats desks)) where
  journal_of : ℕ → DeskState → List Stamped
  journal_of d x = (get_or desks d x).shard.journal

  abbrev shard_of : ℕ → DeskState → ShardState
  shard_of d x = (get_or desks d x).shard

  abbrev known_of : ℕ → DeskState → List Death
  known_of d x = (get_or desks d x).sight.told

  ends_of : (d : ℕ) (x : DeskState) → d < length desks → AreOldEnds (known_of d x) (shard_of d x).start (shard_of d x).config.slots (shard_of d x).config.start (shard_of d x).number
  ends_of d x h = old_ends (shard_of d x) (get_or desks d x).sight (whole d x h).fit (whole d x h).seated

  -- the deaths of a slot that all seats know are those that its own desk told
  own_deaths : (d : ℕ) (x : DeskState) → d < length desks → (slot version n : ℕ) → Covers (deaths_at d slot (together audited.0 (all_seats desks)).deaths) version n
      → Covers (deaths_at d slot (deaths_of (get_or desks d x))) version n
  own_deaths d x h slot version n covers =
      let all = (together audited.0 (all_seats desks)).deaths in
      let seen = covers.died in
      let z = seen.1 in
      let there = from_among all seen.0 z d slot seen.2 in
      let is = true-is_at z d slot there.2 in
      let from = death_from audited.0 desks x there.0 z there.1 in
      let e = from.0 in
      let here : get_elem? (deaths_of (get_or desks e x)) from.1 ≡ some z = from.3 in
      let s = shard_of e x in
      let t = told (known_of e x) s.start s.config.slots s.config.start s.config.top_version s.number (ends_of e x from.2) s.journal (whole e x from.2).fit.local from.1 z here in
      let same : e ≡ d = sym (number_at config desks node whole e x from.2) ∙ sym t.shard ∙ is.0 in
      let mine : get_elem? (deaths_of (get_or desks d x)) from.1 ≡ some z = subst (λ i. get_elem? (deaths_of (get_or desks i x)) from.1 ≡ some z) same here in
      let found = among (deaths_of (get_or desks d x)) from.1 z d slot mine there.2 in
      record {
        died = (found.0, z, found.1, seen.3, seen.4);
        latest = λ k w at low.
            let a = from_among (deaths_of (get_or desks d x)) k w d slot at in
            let b = death_in audited.0 desks d x a.0 w h a.1 in
            let c = among all b.0 w d slot b.1 a.2 in
            covers.latest c.0 w c.1 low;
      }

  -- a read of the end of p, or of a later process of its slot, at stamp n
  pub true_read : (d : ℕ) (x : DeskState) → d < length desks → (k : ℕ) (r : Read) → get_elem? (get_or desks d x).sight.reads k ≡ some r → (p : Pid) → HasEndOf p r
      → (n : ℕ) → r.stamp ≡ Some n → (m : ℕ) → n < m → (p.shard < length desks) × (is_ended (life (get_or desks p.shard x).shard.start (events (stamped_below m (get_or desks p.shard x).shard.journal)) p) ≡ true)
  true_read d x h k r at p ends n stamp m later =
      let near = (whole d x h).seated.near k r at in
      let q = p.shard in
      let within : p.shard < length desks = omega (arith, near, ends.shard, node.count, ap (λ (c : Config). c.desks) (node.configs d x h)) in
      let read = read_in audited.0 desks d x k r h at in
      let home = home_at audited.0 desks p.shard x within ∙ ap some (number_at config desks node whole p.shard x within ∙ sym ends.shard) in
      let backed = audited.1 read.0 r read.1 p.shard home (omega (arith, ends.issued, ends.version)) in
      let covers : Covers (deaths_at r.shard r.slot (together audited.0 (all_seats desks)).deaths) r.version n
      = subst (λ o. MatchOption o (Unit {0}) (λ t. Covers (deaths_at r.shard r.slot (together audited.0 (all_seats desks)).deaths) r.version t)) stamp backed in
      let at_p : Covers (deaths_at p.shard p.slot (together audited.0 (all_seats desks)).deaths) r.version n
      = subst (λ s. Covers (deaths_at p.shard s (together audited.0 (all_seats desks)).deaths) r.version n) ends.slot
      (subst (λ s. Covers (deaths_at s r.slot (together audited.0 (all_seats desks)).deaths) r.version n) ends.shard covers) in
      let s = (get_or desks p.shard x).shard in (
        within,
        ended_before (known_of p.shard x) s.start s.config.slots s.config.start s.config.top_version s.number (ends_of p.shard x within) s.journal (whole p.shard x within).fit.local p r.version n m (own_deaths p.shard x within p.slot r.version n at_p) ends.issued ends.version later,
      )
