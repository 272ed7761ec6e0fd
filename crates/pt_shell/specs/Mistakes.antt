-- The printed text of why a line is no call, as a list of characters.
use Rattle.std.specs.Prelude.{ℕ, List, codes}
use Rattle.pt_shell.specs.declared.lines.mistake.Why.{Why}
use Rattle.pt_shell.specs.declared.lines.mistake.Why.TheVariants.{NoCall, NoName, NoPid, NoRef, NoReason, NoPick, NoTruth}
use Rattle.pt_shell.specs.declared.lines.mistake.Why.TheVariants.{NoNumber, NoSetting, TooMany, Missing}

unfoldable pub mistake_text : Why → List ℕ
mistake_text NoCall = codes "no call"
mistake_text NoName = codes "no name"
mistake_text NoPid = codes "no pid"
mistake_text NoRef = codes "no reference"
mistake_text NoReason = codes "no reason"
mistake_text NoPick = codes "no pick"
mistake_text NoTruth = codes "neither true nor false"
mistake_text NoNumber = codes "no number in range"
mistake_text NoSetting = codes "no setting"
mistake_text TooMany = codes "a word too many"
mistake_text Missing = codes "a word is missing"
