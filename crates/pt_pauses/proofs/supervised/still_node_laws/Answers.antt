-- `still_node_laws`: its contract.
use Rattle.pt_pauses.proofs.supervised.still_node_laws.Goals as goal

pub returns : goal.returns
returns c = record {
  say = c.journals_tell_their_pids.ensures.journals;
  there = c.journals_have_one_merge.ensures.there;
  legal = c.merge_is_legal.ensures;
  known = c.merge_known.ensures;
  once = c.one_down.ensures.over;
  stamps = c.stamps_make_new_ids.ensures.new;
}
