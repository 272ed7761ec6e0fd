-- What desks go on from.
use Rattle.std.proofs.Common.{◌≡◌, ◌<◌, List, [], ◌∷◌, ◌++◌, map, length, reverse, append_assoc, sym, ap, ◌∙◌, subst, arith}
use Rattle.std.proofs.lemmas.List.{get_or-map, length-map, map-append, reverse-append}
use Rattle.pt_events.specs.declared.event.Stamped.{Stamped}
use Rattle.pt_events.specs.History.{Past, IsLegal}
use Rattle.pt_events.specs.Journal.{IsMerge, events}
use Rattle.pt_laws.specs.Load.{IsQuiet}
use Rattle.pt_signal.specs.declared.config.Config.{Config}
use Rattle.pt_gathered.specs.Gathered.{GatheredState, journals}
use Rattle.pt_gathered.specs.Settling.{Settles}
use Rattle.pt_beginning.specs.Beginning.{start_of}
use Rattle.pt_gathered.specs.Pasts.{IsBeginningOf, IsOutlineOf}
use Rattle.pt_gathered.proofs.Pasts.{settles_keep}
use Rattle.pt_desk.specs.DeskState.{DeskState}
use Rattle.pt_workers.specs.Desks.{AreDesksOf, all_shards}
use Rattle.pt_node.specs.Gathering.{Gathers}
use Rattle.pt_node.specs.Pasts.{GoOnFrom, GathersPast, GathersOutline, IsOneHistory, Lengthens}
use Rattle.pt_node.specs.Resuming.{Resumes}
use Rattle.pt_workers.specs.Running.{AllGoOn}
use Rattle.pt_workers.proofs.Begun.{starts_stay}
use Rattle.pt_workers.proofs.GoingOn.{still_desks}

-- the desks of one node have one setting
one_config : (one two : Config) (desks : List DeskState) → AreDesksOf one desks → AreDesksOf two desks → one ≡ two
one_config one two [] a b = absurd (omega (arith, a.some))
one_config one two (x ∷ desks) a b = sym (a.configs 0 x a.some) ∙ b.configs 0 x b.some

-- a gathering changes nothing of it
pub gathers_past : (desks : List DeskState) (g : GatheredState) → Gathers desks g → GathersPast desks g
gathers_past desks g gathers past from =
    subst (λ s. IsBeginningOf past g.config.start (start_of s)) (sym gathers.shards)
    (subst (λ (c : Config). IsBeginningOf past c.start (start_of (all_shards desks))) (one_config from.config g.config desks from.node gathers.node) from.begun)

pub gathers_outline : (desks : List DeskState) (g : GatheredState) → Gathers desks g → GathersOutline desks g
gathers_outline desks g gathers past from =
    subst (λ s. IsOutlineOf past g.config.start (start_of s)) (sym gathers.shards)
    (subst (λ (c : Config). IsOutlineOf past c.start (start_of (all_shards desks))) (one_config from.config g.config desks from.node gathers.node) from.begun)

module _ {W : Type 0} where
  -- nor does whatever is done to the desks, each of which goes on
  pub go_on_past : (old new : List (DeskState × W)) → AllGoOn old new → (past : Past) → GoOnFrom past (map (λ (p : DeskState × W). p.0) old) → GoOnFrom past (map (λ (p : DeskState × W). p.0) new)
  go_on_past [] new c past from = absurd (omega (arith, from.node.some))
  go_on_past (x ∷ xs) new c past from =
      let old = x ∷ xs in
      let desk : DeskState × W → DeskState = λ p. p.0 in
      let are = still_desks old new c (from.config, from.node) in
      let some : 0 < length new = omega (arith, c.count) in
      let same : are.0 ≡ from.config =
      sym (are.1.configs 0 x.0 (omega (arith, some, length-map new desk)))
      ∙ ap (λ (z : DeskState). z.shard.config) (get_or-map desk new 0 x x.0 some)
      ∙ (c.each 0 x (omega arith)).shard.config ∙ from.node.configs 0 x.0 (omega arith) in
      record {
        config = from.config;
        node = subst (λ k. AreDesksOf k (map desk new)) same are.1;
        begun = subst (IsBeginningOf past from.config.start) (sym begins) from.begun;
      }
    where
      begins : start_of (all_shards (map (λ (p : DeskState × W). p.0) new)) ≡ start_of (all_shards (map (λ (p : DeskState × W). p.0) (x ∷ xs)))
      begins =
          let old = x ∷ xs in
          let desk : DeskState × W → DeskState = λ p. p.0 in
          starts_stay (map desk old) (map desk new) (length-map new desk ∙ c.count ∙ sym (length-map old desk)) (λ d y l.
          let before : d < length old = omega (arith, l, length-map old desk) in
          ap (λ (z : DeskState). z.shard.start) (get_or-map desk new d x y (omega (arith, before, c.count)))
          ∙ (c.each d x before).shard.start ∙ ap (λ (z : DeskState). z.shard.start) (sym (get_or-map desk old d x y before)))

-- histories, one behind the other -------------------------------------------------------------------

-- whoever goes on from a history goes on from a legal and quiet one
lengthened : (past : Past) (history : List Stamped) (new : List DeskState) → GoOnFrom (events (reverse history) ++ past) new → Lengthens past history new
lengthened past history new on = record {
  legal = subst (IsLegal []) on.begun.past_is on.begun.begun.left.legal;
  quiet = subst (IsQuiet []) on.begun.past_is on.begun.begun.left.quiet;
  goes_on = on;
}

-- gathered, settled and resumed
pub one_history : (old new : List DeskState) (g s : GatheredState) (history : List Stamped) → Gathers old g → Settles g s → IsMerge (journals s) (reverse history) → Resumes s new → IsOneHistory history old new
one_history old new g s history gathers settles merge resumes past from =
    lengthened past history new (resumes.whole past (reverse history) (settles_keep g s settles past (gathers_past old g gathers past from)) merge)

pub nothing_yet : (desks : List DeskState) → IsOneHistory [] desks desks
nothing_yet desks past from = lengthened past [] desks from

pub one_after : (before history : List Stamped) (old mid new : List DeskState) → IsOneHistory before old mid → IsOneHistory history mid new → IsOneHistory (before ++ history) old new
one_after before history old mid new first then past from =
    let later = then (events (reverse before) ++ past) (first past from).goes_on in
    let joined : events (reverse history) ++ (events (reverse before) ++ past) ≡ events (reverse (before ++ history)) ++ past =
    sym (append_assoc (events (reverse history)) (events (reverse before)) past)
    ∙ ap (λ z. z ++ past) (sym (map-append (λ (s : Stamped). s.event) (reverse history) (reverse before)) ∙ ap events (sym (reverse-append before history))) in
    lengthened past (before ++ history) new (subst (λ z. GoOnFrom z new) joined later.goes_on)
