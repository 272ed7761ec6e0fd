-- `calls_are_told`: its contract.
use Rattle.pt_c_tools.proofs.Told.{requests_told, answers_told, no_request, no_answer}
use Rattle.pt_c_tools.proofs.telling.calls_are_told.Goals as goal

pub returns : goal.returns
returns c = record { requests = requests_told; answers = answers_told; no_request = no_request; no_answer = no_answer }
