-- A desk that forgets why processes ended before its journal.
use Rattle.pt_accounts.specs.DeskLives.{all_bare}
use Rattle.pt_shard.specs.Restart.{forgetful}
use Rattle.pt_desk.specs.DeskState.{DeskState}

-- its shard and its table of what was before have no reasons, and all else is as it was
abbrev pub forgetful_desk : DeskState → DeskState
forgetful_desk d = record d { shard = forgetful d.shard; sight = record d.sight { before = all_bare d.sight.before } }
