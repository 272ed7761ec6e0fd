-- The printed text of a cause, as a list of characters.
use Rattle.std.specs.Prelude.{ℕ, List, codes}
use Rattle.pt_judge.specs.declared.cause.Cause.{Cause}
use Rattle.pt_judge.specs.declared.cause.Cause.TheVariants.{BornTwice, NotAlive, NotFront, NotFirstMatch, Unlawful}
use Rattle.pt_judge.specs.declared.cause.Cause.TheVariants.{Memory}

unfoldable pub cause_text : Cause → List ℕ
cause_text BornTwice = codes "the pid was born before"
cause_text NotAlive = codes "the process is not alive"
cause_text NotFront = codes "an older signal of the two is on its way"
cause_text NotFirstMatch = codes "it is not the first waiting item that fits"
cause_text Unlawful = codes "it is not lawful then"
cause_text Memory = codes "there was no memory"
