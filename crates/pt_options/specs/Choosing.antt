-- What the words of the command line ask for: the command, as `clap` sees it, and what is read of its matches. How
-- words give matches, and which kind of error a refusal has, are `clap`'s `matches_of` and `fault_of`.
use Rattle.std.specs.Prelude.{◌≡◌, ◌⊎◌, ℕ, ◌^◌, List, [], ◌∷◌, codes, map, max, min, if◌then◌else◌, Bool, true, false}
use Rattle.std.specs.Prelude.{Option, Some, None, option_map, option_and_then, Result, Ok, Err, String, string_bytes}
use Rattle.std.specs.Borrow.{Bor}
use Rattle.std.specs.Option.{option_map_or}
use Rattle.std.specs.Str.{bytes_eq}
use Rattle.std.specs.Str.Parse.{digits_value, without_leading_plus}
use Rattle.std.specs.declared.alloc.Global.{Global}
use Rattle.clap.specs.Words.{App, Row, Rule, Text, IsAmong, fault_of, first_of, kind_of, matches_of, new_app, new_rule}
use Rattle.clap.specs.Words.{one_of, rule_of, with_rule}
use Rattle.clap.specs.declared.builder.action.ArgAction.TheVariants.{SetTrue}
use Rattle.clap.specs.declared.builder.arg.Arg.{Arg}
use Rattle.clap.specs.ValueTests.{is_unsigned_in}
use Rattle.clap.specs.declared.builder.value_parser.ValueParser.TheVariants.{Names, Unsigned}
use Rattle.clap.specs.declared.error.Error.{Error}
use Rattle.clap.specs.declared.error.kind.ErrorKind.TheVariants.{OutOfMemory}
use Rattle.pt_render.specs.declared.choices.Mode.{Mode}
use Rattle.pt_render.specs.declared.choices.Mode.TheVariants.{Single, Many}
use Rattle.pt_render.specs.declared.choices.Options.{Options}
use Rattle.pt_render.specs.declared.choices.Show.{Show}
use Rattle.pt_render.specs.declared.choices.Show.TheVariants.{Summary, History, Chart, Mermaid, Json, Steps, Page}
use Rattle.pt_render.specs.declared.choices.Until.{Until}
use Rattle.pt_render.specs.declared.choices.Until.TheVariants.{Turns, Quiet}
use Rattle.pt_render.specs.declared.choices.TheConstants.{MOST_EPOCHS, MOST_TURNS}

-- the words that an argument takes, where they stand in memory
abbrev pub Words : Type 0
Words = Bor (List (Bor Text))

-- an option that takes one of some words
abbrev pub choice_rule : Text → Words → Text → Rule
choice_rule name words default = record (new_rule name) {
  long = Some name;
  parser = Some (Names words);
  defaults = default ∷ [];
}

abbrev pub threads_rule : Words → Rule
threads_rule modes = choice_rule (codes "threads") modes (codes "single")

abbrev pub turns_rule : Rule
turns_rule = record (new_rule (codes "turns")) {
  long = Some (codes "turns");
  value_names = 1;
  parser = Some (Unsigned 0 MOST_TURNS);
  defaults = codes "100" ∷ [];
}

abbrev pub epochs_rule : Rule
epochs_rule = record (new_rule (codes "epochs")) {
  long = Some (codes "epochs");
  value_names = 1;
  parser = Some (Unsigned 1 MOST_EPOCHS);
  defaults = codes "1" ∷ [];
}

abbrev pub until_rule : Words → Rule
until_rule untils = choice_rule (codes "until") untils (codes "turns")

abbrev pub print_rule : Words → Rule
print_rule shows = choice_rule (codes "print") shows (codes "history")

-- a flag: it takes no value
abbrev pub explain_rule : Rule
explain_rule = record (new_rule (codes "explain")) { long = Some (codes "explain"); action = Some SetTrue }

-- an argument that is used as this rule says, in this command alone
abbrev pub IsArgument : Rule → Arg → Type 0
IsArgument rule arg = (rule_of arg ≡ rule) × (arg.global ≡ false)

-- a command that has a version
abbrev pub with_version : App → App
with_version a = record a { top = record a.top { has_version = true } }

abbrev pub command_with : Words → Words → Words → App
command_with modes untils shows =
    with_rule
    (with_rule
    (with_rule
    (with_rule
    (with_rule
    (with_rule (with_rule (with_version (new_app (codes "pt_run"))) (new_rule (codes "FILE"))) (threads_rule modes)) turns_rule)
    (until_rule untils))
    epochs_rule)
    (print_rule shows))
    explain_rule

-- the command line of the program
abbrev pub IsCommand : App → Type 0
IsCommand a =
    (modes : Words) × (untils : Words) × (shows : Words)
    × (map (λ s. s.now) modes.now ≡ codes "single" ∷ codes "many" ∷ [])
    × (map (λ s. s.now) untils.now ≡ codes "turns" ∷ codes "quiet" ∷ [])
    × (map (λ s. s.now) shows.now
    ≡ codes "summary" ∷ codes "history" ∷ codes "chart" ∷ codes "mermaid" ∷ codes "json" ∷ codes "steps" ∷ codes "page" ∷ [])
    × (a ≡ command_with modes untils shows)

abbrev pub mode_of : Option Text → Mode
mode_of None = Single
mode_of (Some t) = if bytes_eq t (codes "many") then Many else Single

abbrev pub until_of : Option Text → Until
until_of None = Turns
until_of (Some t) = if bytes_eq t (codes "quiet") then Quiet else Turns

abbrev pub show_of : Option Text → Show
show_of None = History
show_of (Some t) =
    if bytes_eq t (codes "summary") then Summary
    else (if bytes_eq t (codes "chart") then Chart
    else (if bytes_eq t (codes "mermaid") then Mermaid
    else (if bytes_eq t (codes "json") then Json
    else (if bytes_eq t (codes "steps") then Steps else (if bytes_eq t (codes "page") then Page else History)))))

-- whether a flag was used: its text is then `true`
abbrev pub is_told : Option Text → Bool
is_told None = false
is_told (Some t) = bytes_eq t (codes "true")

-- the number that a text of decimal digits writes, where 64 bits have it
abbrev pub number_written : Text → Option ℕ
number_written t = if is_unsigned_in 0 (2 ^ 64) t then Some (digits_value 10 (without_leading_plus t)) else None

abbrev pub turns_of : Option ℕ → ℕ
turns_of number = option_map_or (λ n. min n MOST_TURNS) number 100

abbrev pub epochs_of : Option ℕ → ℕ
epochs_of number = option_map_or (λ n. max (min n MOST_EPOCHS) 1) number 1

-- what the matches ask for
abbrev pub chosen_of : List Row → Options
chosen_of rows = record {
  threads = mode_of (first_of (codes "threads") rows);
  turns = turns_of (option_and_then number_written (one_of (codes "turns") rows));
  until = until_of (first_of (codes "until") rows);
  epochs = epochs_of (option_and_then number_written (one_of (codes "epochs") rows));
  print = show_of (first_of (codes "print") rows);
  explain = is_told (first_of (codes "explain") rows);
}

-- the file that the matches name, if they name one
abbrev pub file_of : List Row → Option Text
file_of rows = first_of (codes "FILE") rows

-- The answer to the words: they are no fault of the command and ask for this, or the error is of the kind of their
-- first fault, or of want of memory.
abbrev pub WordsGive : List Text → Result (Option (String Global) × Options) Error → Type 0
WordsGive words (Ok r) =
    (a : App) × IsCommand a × (fault_of a words ≡ []) × (option_map string_bytes r.0 ≡ file_of (matches_of a words))
    × (r.1 ≡ chosen_of (matches_of a words))
WordsGive words (Err e) = (kind_of e ≡ OutOfMemory) ⊎ ((a : App) × IsCommand a × IsAmong (kind_of e) (fault_of a words))
