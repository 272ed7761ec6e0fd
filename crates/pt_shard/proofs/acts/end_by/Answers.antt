-- `end_by`: its clauses `from`, `to` and `letters`, and what its call of `write_end` asks.
use Rattle.pt_shard.proofs.acts.end_by.Goals as goal

pub write_end-requires-clause-from : goal.write_end-requires-clause-from
write_end-requires-clause-from c = (c.requires.owes c.end-estate.new.self c.end-estate.result c.end-estate.ensures.desk c.end-estate.ensures.ends).0

pub write_end-requires-clause-to : goal.write_end-requires-clause-to
write_end-requires-clause-to c = (c.requires.owes c.end-estate.new.self c.end-estate.result c.end-estate.ensures.desk c.end-estate.ensures.ends).1

pub write_end-requires-clause-letters : goal.write_end-requires-clause-letters
write_end-requires-clause-letters c = (c.requires.owes c.end-estate.new.self c.end-estate.result c.end-estate.ensures.desk c.end-estate.ensures.ends).2
