-- `Names::add`: its contract.
use Rattle.std.proofs.lemmas.Map.Text.{hash_map_updates_str}
use Rattle.pt_script.proofs.names.Names.add.Goals as goal

pub returns : goal.returns
returns c = λ i q. hash_map_updates_str c.args.name.now c.args.self.now.numbers c.insert.new.self _ c.in_ok-insert.ensures.updates q i
