-- What is said of a refused script, as lists of characters.
use Rattle.std.specs.Prelude.{ℕ, List, ◌++◌, codes, decimal, Option, Some, None}
use Rattle.std.specs.Borrow.{Bor}
use Rattle.pt_script.specs.declared.explanation.why.Label.{Label}
use Rattle.pt_script.specs.declared.explanation.why.Label.TheVariants.{Name, Index}
use Rattle.pt_script.specs.declared.explanation.why.Scene.{Scene}
use Rattle.pt_script.specs.declared.explanation.why.Scene.TheVariants as scene
use Rattle.pt_script.specs.declared.explanation.why.Spot.{Spot}
use Rattle.pt_script.specs.declared.explanation.why.Why.{Why}
use Rattle.pt_script.specs.declared.explanation.why.Limit.{Limit}
use Rattle.pt_script.specs.declared.explanation.why.Limit.TheVariants.{Bytes, Signed, Reasons, Slots, Processes, Operations, Rounds, Depth}
use Rattle.pt_script.specs.declared.explanation.why.Stray.{Stray}
use Rattle.pt_script.specs.declared.explanation.why.Stray.TheVariants.{NoItem, NoIf, NoFirstElse, NoRepeat, Open}
use Rattle.pt_script.specs.declared.explanation.why.Wrong.{Wrong}
use Rattle.pt_script.specs.declared.explanation.why.Wrong.TheVariants as wrong
use Rattle.pt_script.specs.declared.limits.TheConstants.{MAX_BYTES, MAX_DEPTH, MAX_OPERATIONS, MAX_PROCESSES}
use Rattle.pt_script.specs.declared.explanation.why.TheConstants.{OPERATIONS, PICKS, REASONS}

-- a name, or an index where there is none
abbrev pub member_text : Label → List ℕ
member_text (Name name) = name.now
member_text (Index index) = decimal index

unfoldable pub where_text : Scene → List ℕ
where_text scene.Script = codes "script"
where_text (scene.Process process) = codes "process " ++ member_text process
where_text (scene.Operation process operation) =
    codes "process " ++ member_text process ++ codes ", operation " ++ member_text operation

-- of what there is too much
unfoldable pub limit_text : Limit → List ℕ
limit_text Bytes = codes "has more than " ++ decimal MAX_BYTES ++ codes " bytes"
limit_text Signed = codes "is above 9223372036854775807"
limit_text Reasons = codes "has a number above 4294967295"
limit_text Slots = codes "is one process more than its desk has slots"
limit_text Processes = codes "is one process more than " ++ decimal MAX_PROCESSES
limit_text Operations = codes "is one operation more than " ++ decimal MAX_OPERATIONS
limit_text Rounds = codes "is one operation more than " ++ decimal MAX_OPERATIONS ++ codes ", with those of each round of a repeat"
limit_text Depth = codes "is inside " ++ decimal MAX_DEPTH ++ codes " other spawns"

-- what is wrong with an operation that begins or ends a block
unfoldable pub stray_text : Stray → List ℕ
stray_text NoItem = codes "is not directly behind a receive, a check, an if or an else"
stray_text NoIf = codes "is not directly inside an if"
stray_text NoFirstElse = codes "is not the first else directly inside an if"
stray_text NoRepeat = codes "is not directly inside a repeat"
stray_text Open = codes "begins a block that does not end"

unfoldable pub wrong_text : Wrong → List ℕ
wrong_text wrong.NoUtf8 = codes "is no UTF-8"
wrong_text wrong.NoJson = codes "is no JSON"
wrong_text wrong.EndsEarly = codes "ends too early"
wrong_text wrong.NoObject = codes "is no object"
wrong_text wrong.Unknown = codes "is unknown"
wrong_text wrong.HasUnknown = codes "has a member that is unknown"
wrong_text wrong.Missing = codes "is missing"
wrong_text wrong.NoWhole = codes "is no whole number of 64 bits"
wrong_text wrong.NoFlag = codes "is neither true nor false"
wrong_text wrong.NoText = codes "is no text"
wrong_text wrong.NoList = codes "is no list"
wrong_text wrong.NoName = codes "has not the form of a name"
wrong_text wrong.NoReason = codes "is no reason: there are " ++ REASONS.now
wrong_text wrong.NoPick = codes "is no object with one of the members of a pick: there are " ++ PICKS.now
wrong_text wrong.NoOperation = codes "is no operation: there are " ++ OPERATIONS.now
wrong_text (wrong.Later format) = codes "needs format " ++ decimal format
wrong_text (wrong.OutOfRange least most) = codes "is not from " ++ decimal least ++ codes " to " ++ decimal most
wrong_text (wrong.Over limit) = limit_text limit
wrong_text wrong.OutOfScope = codes "names nothing in scope"
wrong_text wrong.Taken = codes "is taken already"
wrong_text (wrong.Block stray) = stray_text stray
wrong_text wrong.Refused = codes "is not as scripts are"

-- the member that is wrong, and the word that it is, or all that is there
abbrev pub subject_text : Option (Bor (List ℕ)) → Option (Bor (List ℕ)) → List ℕ
subject_text None word = codes ": it "
subject_text (Some member) None = codes ": member " ++ member.now ++ codes " "
subject_text (Some member) (Some word) = codes ": member " ++ member.now ++ codes " (" ++ word.now ++ codes ") "

-- where it is in the text
unfoldable pub spot_text : Spot → List ℕ
spot_text spot = codes "line " ++ decimal spot.line ++ codes ", column " ++ decimal spot.column

-- one line, without its line feed
unfoldable pub why_text : Why → Spot → List ℕ
why_text w spot = where_text w.scene ++ codes ", " ++ spot_text spot ++ subject_text w.member w.word ++ wrong_text w.wrong
