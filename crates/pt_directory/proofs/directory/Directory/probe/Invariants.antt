-- `Directory::probe`: what holds in its loop.
use Rattle.pt_directory.proofs.directory.Directory.probe.Given as goal

abbrev pub ghosts-load_version : goal.ghosts-load_version
ghosts-load_version a = record { shard = a.pid.shard; slot = a.pid.slot; version = a.pid.version }
