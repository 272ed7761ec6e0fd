-- `config_of`: what holds in its loop over `place`.
use Rattle.std.proofs.Common.{◌≡◌, drop, map}
use Rattle.pt_shell.specs.Settings.{with_settings}
use Rattle.pt_shell.specs.Words.{told_word}
use Rattle.pt_shell.proofs.lines.settings.config_of.Given as goal

abbrev pub invariant-loop-place : goal.invariant-loop-place
invariant-loop-place l =
    with_settings l.initial.config (map told_word l.words) ≡ with_settings l.config (map told_word (drop l.place l.words))
