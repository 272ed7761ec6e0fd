-- `messages_keep_their_order`: its contract.
use Rattle.pt_laws.proofs.order.Sender.{sender_front}
use Rattle.pt_laws.proofs.laws.messages_keep_their_order.Goals as goal

pub returns : goal.returns
returns c start journal over a p h = sender_front a p start journal over h
