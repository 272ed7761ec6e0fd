-- What the command line makes of words that are written out, and of one text that may be any.
use Rattle.std.specs.Prelude.{◌≡◌, ◌≢◌, List, [], ◌∷◌, ◌++◌, codes, true, false, Option, Some, None}
use Rattle.std.specs.Str.Parse.{digits_value, without_leading_plus}
use Rattle.clap.specs.Words.{App, Text, fault_of, matches_of}
use Rattle.clap.specs.Lexer.{strip_byte}
use Rattle.clap.specs.ValueTests.{is_unsigned_in}
use Rattle.clap.specs.declared.error.kind.ErrorKind.{ErrorKind}
use Rattle.clap.specs.declared.error.kind.ErrorKind.TheVariants.{DisplayHelp, DisplayVersion, InvalidValue, TooManyValues}
use Rattle.clap.specs.declared.error.kind.ErrorKind.TheVariants.{ValueValidation}
use Rattle.pt_options.specs.Choosing.{IsCommand, chosen_of, file_of}
use Rattle.pt_render.specs.declared.choices.Mode.TheVariants.{Single, Many}
use Rattle.pt_render.specs.declared.choices.Options.{Options}
use Rattle.pt_render.specs.declared.choices.Show.TheVariants.{Summary, History, Chart, Mermaid, Json, Steps, Page}
use Rattle.pt_render.specs.declared.choices.Until.TheVariants.{Turns, Quiet}
use Rattle.pt_render.specs.declared.choices.TheConstants.{MOST_EPOCHS, MOST_TURNS}

abbrev pub defaults : Options
defaults = record { threads = Single; turns = 100; until = Turns; epochs = 1; print = History; explain = false }

-- the words, behind the program's name, are no fault, and ask for this
abbrev pub AskFor : List Text → Option Text → Options → Type 0
AskFor words file options =
    (a : App) → IsCommand a → (name : Text)
    → (fault_of a (name ∷ words) ≡ []) × (file_of (matches_of a (name ∷ words)) ≡ file)
    × (chosen_of (matches_of a (name ∷ words)) ≡ options)

-- they are refused, with this kind of error alone
abbrev pub FailWith : List Text → ErrorKind → Type 0
FailWith words kind = (a : App) → IsCommand a → (name : Text) → fault_of a (name ∷ words) ≡ kind ∷ []

abbrev pub DefaultsStand : Type 0
DefaultsStand = AskFor [] None defaults

abbrev pub FilesAreNamed : Type 0
FilesAreNamed =
    AskFor (codes "-" ∷ []) (Some (codes "-")) defaults
    × ((file : Text) → strip_byte 45 file ≡ None → AskFor (file ∷ []) (Some file) defaults)

abbrev pub TurnsAreTold : Type 0
TurnsAreTold =
    (t : Text) → is_unsigned_in 0 MOST_TURNS t ≡ true
    → AskFor ((codes "--turns=" ++ t) ∷ []) None (record defaults { turns = digits_value 10 (without_leading_plus t) })

abbrev pub WrongTurnsAreRefused : Type 0
WrongTurnsAreRefused =
    (t : Text) → is_unsigned_in 0 MOST_TURNS t ≡ false → FailWith ((codes "--turns=" ++ t) ∷ []) ValueValidation

abbrev pub EpochsAreTold : Type 0
EpochsAreTold =
    (t : Text) → is_unsigned_in 1 MOST_EPOCHS t ≡ true
    → AskFor ((codes "--epochs=" ++ t) ∷ []) None
    (record defaults { epochs = digits_value 10 (without_leading_plus t) })

abbrev pub WrongEpochsAreRefused : Type 0
WrongEpochsAreRefused =
    (t : Text) → is_unsigned_in 1 MOST_EPOCHS t ≡ false → FailWith ((codes "--epochs=" ++ t) ∷ []) ValueValidation

abbrev pub ModesAreTold : Type 0
ModesAreTold =
    AskFor (codes "--threads=single" ∷ []) None defaults
    × AskFor (codes "--threads=many" ∷ []) None (record defaults { threads = Many })

abbrev pub WrongModesAreRefused : Type 0
WrongModesAreRefused =
    (t : Text) → t ≢ codes "single" → t ≢ codes "many" → FailWith ((codes "--threads=" ++ t) ∷ []) InvalidValue

abbrev pub UntilsAreTold : Type 0
UntilsAreTold =
    AskFor (codes "--until=turns" ∷ []) None defaults
    × AskFor (codes "--until=quiet" ∷ []) None (record defaults { until = Quiet })

abbrev pub WrongUntilsAreRefused : Type 0
WrongUntilsAreRefused =
    (t : Text) → t ≢ codes "turns" → t ≢ codes "quiet" → FailWith ((codes "--until=" ++ t) ∷ []) InvalidValue

abbrev pub PrintsAreTold : Type 0
PrintsAreTold =
    AskFor (codes "--print=summary" ∷ []) None (record defaults { print = Summary })
    × AskFor (codes "--print=history" ∷ []) None defaults
    × AskFor (codes "--print=chart" ∷ []) None (record defaults { print = Chart })
    × AskFor (codes "--print=mermaid" ∷ []) None (record defaults { print = Mermaid })
    × AskFor (codes "--print=json" ∷ []) None (record defaults { print = Json })
    × AskFor (codes "--print=steps" ∷ []) None (record defaults { print = Steps })
    × AskFor (codes "--print=page" ∷ []) None (record defaults { print = Page })

abbrev pub WrongPrintsAreRefused : Type 0
WrongPrintsAreRefused =
    (t : Text) → t ≢ codes "summary" → t ≢ codes "history" → t ≢ codes "chart" → t ≢ codes "mermaid" → t ≢ codes "json"
    → t ≢ codes "steps" → t ≢ codes "page" → FailWith ((codes "--print=" ++ t) ∷ []) InvalidValue

abbrev pub ExplainingIsTold : Type 0
ExplainingIsTold = AskFor (codes "--explain" ∷ []) None (record defaults { explain = true })

-- it takes no value, not even an empty one
abbrev pub ExplainingTakesNoValue : Type 0
ExplainingTakesNoValue = (t : Text) → FailWith ((codes "--explain=" ++ t) ∷ []) TooManyValues

abbrev pub HelpIsAsked : Type 0
HelpIsAsked = FailWith (codes "--help" ∷ []) DisplayHelp × FailWith (codes "-h" ∷ []) DisplayHelp

abbrev pub VersionIsAsked : Type 0
VersionIsAsked = FailWith (codes "--version" ∷ []) DisplayVersion × FailWith (codes "-V" ∷ []) DisplayVersion
