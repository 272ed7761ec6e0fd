-- `custody_holds`: its clauses `history`, `gathered`, `settled`, `pauses`, `from`, `telling`, `told`, `pauses_tell` and `counts`.
use Rattle.std.proofs.Common.{get_or, refl, sym}
use Rattle.pt_shard.specs.Restart.{restarted}
use Rattle.pt_history.proofs.Counting.{each_counts}
use Rattle.pt_history.proofs.Keeping.{custody}
use Rattle.pt_history.proofs.Nodes.{are_told, forgot_nothing, gathered_keep, pauses_keep, pauses_tell, settled_keep, tell_on}
use Rattle.pt_history.proofs.Telling.{telling_stays}
use Rattle.pt_history.proofs.custody.custody_holds.Goals as goal

pub returns-clause-history : goal.returns-clause-history
returns-clause-history c = custody

pub returns-clause-gathered : goal.returns-clause-gathered
returns-clause-gathered c g node past merged p x from merge here =
    gathered_keep g node past from merged merge p x here c.merge_is_legal.ensures c.stamps_make_new_ids.ensures.new custody

pub returns-clause-settled : goal.returns-clause-settled
returns-clause-settled c g node nothing past merged p x from merge here =
    settled_keep g node past from merged merge p x here c.merge_is_legal.ensures c.stamps_make_new_ids.ensures.new custody nothing

pub returns-clause-pauses : goal.returns-clause-pauses
returns-clause-pauses c = pauses_keep c.merge_is_legal.ensures c.stamps_make_new_ids.ensures.new custody

pub returns-clause-from : goal.returns-clause-from
returns-clause-from c = forgot_nothing

pub returns-clause-told : goal.returns-clause-told
returns-clause-told c g before merged p x told n node from merge here tells =
    (sym (are_told g node before from merged merge p x here told tells), tell_on g node before from merged merge p x here told (restarted n (get_or g.shards p.shard x)) refl refl tells)

pub returns-clause-pauses_tell : goal.returns-clause-pauses_tell
returns-clause-pauses_tell c = pauses_tell (telling_stays c.losses_are_kept.ensures)

pub returns-clause-counts : goal.returns-clause-counts
returns-clause-counts c = each_counts

pub returns-clause-telling : goal.returns-clause-telling
returns-clause-telling c = telling_stays c.losses_are_kept.ensures
