-- `turns_post_where_letters_wait`: its contract.
use Rattle.pt_c_desks.proofs.Posting.{posts_where_letters_wait}
use Rattle.pt_c_desks.proofs.letters.turns_post_where_letters_wait.Goals as goal

pub returns : goal.returns
returns c = posts_where_letters_wait
