-- `losses_are_kept`: its contract.
use Rattle.std.proofs.Common.{◌≡◌, true, List, [], ◌∷◌, ◌++◌, Option, Some, None, sym, ap, ◌∙◌, append-nil, append_assoc}
use Rattle.std.specs.Option.{option_to_list}
use Rattle.pt_shard.specs.declared.loss.Loss.{Loss}
use Rattle.pt_shard.specs.Losses.{losses, with_loss}
use Rattle.pt_shard.specs.ShardState.{past, lost_by}
use Rattle.pt_shard.proofs.laws.losses_are_kept.Goals as goal

one_more : (told kept all : List Loss) (o : Option Loss) → told ++ kept ≡ all → told ++ with_loss true o kept ≡ all ++ option_to_list o
one_more told kept all None h = h ∙ sym (append-nil all)
one_more told kept all (Some x) h = sym (append_assoc told kept (x ∷ [])) ∙ ap (λ xs. xs ++ x ∷ []) h

pub returns : goal.returns
returns c carried told n e d keeps h =
    rw keeps
    (one_more told d.lost (carried ++ losses d.start (past d)) (lost_by d e) h ∙ append_assoc carried (losses d.start (past d)) (option_to_list (lost_by d e)))
