-- What a history leaves behind: the start of one that goes on from it.
use Rattle.std.specs.Prelude.{cond, List, [], ◌∷◌, ◌++◌, map}
use Rattle.std.specs.Map.{keys_of}
use Rattle.pt_signal.specs.declared.pid.Pid.{Pid}
use Rattle.pt_events.specs.declared.event.Event.TheVariants.{Born}
use Rattle.pt_signal.specs.Process.{fresh}
use Rattle.pt_events.specs.History.{Past, Start, Phase, ended, life, is_unborn}

-- the pids born, in order of birth
abbrev pub pids : Start → Past → List Pid
pids start [] = keys_of start
pids start (Born p parent link ∷ past) = pids start past ++ cond (is_unborn (life start past p)) (p ∷ []) []
pids start (e ∷ past) = pids start past

-- of an ended process its reason, and nothing that it held
abbrev pub outcome : Phase → Phase
outcome (ended r s) = ended r fresh
outcome f = f

-- what each pid is after the history, as the start of the next; of an ended one its reason and nothing else
abbrev pub start_after : Start → Past → Start
start_after start past = map (λ p. (p, outcome (life start past p))) (pids start past)
