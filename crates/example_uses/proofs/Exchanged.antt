-- A node of one desk on which two processes exchanged a message each.
use Rattle.std.proofs.Common.{◌≡◌, List, [], length, Ok, ap, sym, ◌∙◌, arith}
use Rattle.std.proofs.lemmas.List.{get_or-map}
use Rattle.pt_signal.specs.declared.config.Config.{Config}
use Rattle.pt_gathered.specs.Gathered.{GatheredState}
use Rattle.pt_desk.specs.DeskState.{DeskState}
use Rattle.pt_node.specs.Opening.{AreFresh}
use Rattle.pt_node.specs.Gathering.{HasJournalsOf}
use Rattle.example_uses.specs.Exchanges.{ExchangesOnFirst, HasExchanged}

pub has_exchanged : (config : Config) (first then : List DeskState) (g : GatheredState) → AreFresh config first → config.desks ≡ 1 → length then ≡ length first → ExchangesOnFirst first (Ok (tt {0})) then → HasJournalsOf then g → HasExchanged g
has_exchanged config first then g fresh alone count (old, new, is, made, does) told =
    let one : length first ≡ 1 = fresh.node.count ∙ alone in
    record {
      config = config;
      old = old;
      new = new;
      fresh = ap (λ (d : DeskState). d.shard) is ∙ fresh.shards 0 old (omega (arith, one));
      exchanges = does;
      desks = told.0 ∙ count ∙ one;
      journal = told.1 0 ∙ get_or-map (λ (d : DeskState). d.shard.journal) then 0 new [] (omega (arith, one, count)) ∙ ap (λ (d : DeskState). d.shard.journal) (sym made);
    }
