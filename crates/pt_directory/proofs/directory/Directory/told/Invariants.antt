-- `Directory::told`: what holds in its loop.
use Rattle.pt_directory.proofs.directory.Directory.told.Given as goal

abbrev pub ghosts-load_told : goal.ghosts-load_told
ghosts-load_told a = record { shard = a.pid.shard; slot = a.pid.slot; version = a.pid.version }
