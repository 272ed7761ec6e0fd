-- `defaults_stand`: its contract.
use Rattle.pt_options.proofs.Asking.{no_words}
use Rattle.pt_options.proofs.laws.defaults_stand.Goals as goal

pub returns : goal.returns
returns c = no_words
