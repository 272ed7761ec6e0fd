-- `Directory::had_ended`: what holds in its loop.
use Rattle.pt_directory.proofs.directory.Directory.had_ended.Given as goal

abbrev pub ghosts-store_death : goal.ghosts-store_death
ghosts-store_death a = record { shard = a.pid.shard; slot = a.pid.slot; version = a.pid.version }
