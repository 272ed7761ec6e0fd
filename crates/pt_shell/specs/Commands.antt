-- What a line asks for.
use Rattle.std.specs.Prelude.{◌≡◌, ℕ, ◌+◌, Bool, false, ◌||◌, ◌==◌, List, [], ◌∷◌, length, Option, Some, None}
use Rattle.std.specs.Prelude.{Result, Ok, Err, codes, is_some, if◌then◌else◌, map}
use Rattle.std.specs.Option.{option_map}
use Rattle.std.specs.Str.{bytes_eq}
use Rattle.pt_signal.specs.declared.config.Config.{Config}
use Rattle.pt_shell.specs.declared.lines.call.Call.{Call}
use Rattle.pt_shell.specs.declared.lines.command.Command.{Command}
use Rattle.pt_shell.specs.declared.lines.command.Command.TheVariants as code
use Rattle.pt_shell.specs.declared.lines.verb.Verb.{Verb}
use Rattle.pt_shell.specs.declared.lines.mistake.Mistake.{Mistake}
use Rattle.pt_shell.specs.declared.lines.mistake.Why.TheVariants.{NoCall, NoName, Missing}
use Rattle.pt_shell.specs.Words.{Told, told_word, words_in}
use Rattle.pt_shell.specs.Names.{Named, is_name}
use Rattle.pt_shell.specs.Values.{◌>>=◌, mistake}
use Rattle.pt_shell.specs.Arguments.{of_none}
use Rattle.pt_shell.specs.Calls.{call_of, verb_of}

-- nothing, the list of the calls, the words that the next line of the last answer is to be, or a call, with the column
-- of its name, and the name that its answer is to have
pub data Asked : Type 0 where
  Nothing : Asked
  Help : Asked
  Expect : List Told → Asked
  Makes : Option (List ℕ) → ℕ → Call → Asked

-- what a command asks for
abbrev pub asked_by : Command → Asked
asked_by code.Nothing = Nothing
asked_by code.Help = Help
asked_by (code.Expect words) = Expect (map told_word words.now)
asked_by (code.Call name column call) = Makes (option_map (λ n. n.now) name) column call

-- what reading a line gave is this
abbrev pub LineAsks : Result Command Mistake → Result Asked Mistake → Type 0
LineAsks (Ok command) read = read ≡ Ok (asked_by command)
LineAsks (Err mistake) read = read ≡ Err mistake

abbrev pub call_of_verb : Config → Named → Option Verb → Told → List Told → ℕ → Result Call Mistake
call_of_verb defaults names (Some verb) w words end = call_of defaults names verb words end
call_of_verb defaults names None w words end = mistake w.0 NoCall

-- the call of this name with the words behind it
abbrev pub call_in : Config → Named → Told → List Told → ℕ → Result Call Mistake
call_in defaults names w words end = call_of_verb defaults names (verb_of w.1) w words end

-- a word that is no name, since it has a meaning of its own at the begin of a line
abbrev pub is_taken : List ℕ → Bool
is_taken word = bytes_eq word (codes "expect") || bytes_eq word (codes "help") || is_some (verb_of word)

-- a call whose answer has no name
abbrev pub unnamed_call : Config → Named → Told → List Told → ℕ → Result Asked Mistake
unnamed_call defaults names w words end = call_in defaults names w words end >>= λ call. Ok (Makes None w.0 call)

-- a call whose answer has this name
abbrev pub called : Config → Named → List ℕ → List Told → ℕ → Result Asked Mistake
called defaults names name [] end = mistake end Missing
called defaults names name (w ∷ words) end =
    call_in defaults names w words end >>= λ call. Ok (Makes (Some name) w.0 call)

abbrev pub named_row : Config → Named → Told → List Told → ℕ → Result Asked Mistake
named_row defaults names w words end =
    if is_name w.1
    then (if is_taken w.1 then mistake w.0 NoName else called defaults names w.1 words end)
    else mistake w.0 NoName

-- by the word behind the first
abbrev pub call_asked : Config → Named → Told → List Told → ℕ → Result Asked Mistake
call_asked defaults names w [] end = unnamed_call defaults names w [] end
call_asked defaults names w (v ∷ words) end =
    if bytes_eq v.1 (codes "=") then named_row defaults names w words end else unnamed_call defaults names w (v ∷ words) end

abbrev pub expectation : List Told → ℕ → Result Asked Mistake
expectation [] end = mistake end Missing
expectation (w ∷ words) end = Ok (Expect (w ∷ words))

abbrev pub is_comment : List ℕ → Bool
is_comment [] = false
is_comment (c ∷ text) = c == 35

-- what the words of a line ask for, by the first of them
abbrev pub asked : Config → Named → List Told → ℕ → Result Asked Mistake
asked defaults names [] end = Ok Nothing
asked defaults names (w ∷ words) end =
    if is_comment w.1
    then Ok Nothing
    else (if bytes_eq w.1 (codes "expect")
    then expectation words end
    else (if bytes_eq w.1 (codes "help")
    then of_none words end (Ok Help)
    else call_asked defaults names w words end))

-- what a line asks for
abbrev pub asked_in : Config → Named → List ℕ → Result Asked Mistake
asked_in defaults names line = asked defaults names (words_in line) (length line + 1)
