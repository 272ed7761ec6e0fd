-- The laws of scripts.
use Rattle.std.specs.Prelude.{◌≡◌, ◌≤◌, ◌<◌, ◌↔◌, ℕ, List, length, true, Some, Ok, Err}
use Rattle.std.specs.Str.{is_utf8}
use Rattle.serde_json.specs.Data.{Data}
use Rattle.serde_json.specs.Read.{read}
use Rattle.pt_signal.specs.declared.reason.Reason.{Reason}
use Rattle.pt_signal.specs.Text.{reason_text}
use Rattle.pt_script.specs.declared.fault.Fault.{Fault}
use Rattle.pt_script.specs.declared.fault.Place.{Place}
use Rattle.pt_script.specs.declared.fault.ScriptError.TheVariants.{Refused}
use Rattle.pt_script.specs.declared.values.Settings.{Settings}
use Rattle.pt_script.specs.declared.limits.TheConstants.{MAX_BYTES}
use Rattle.pt_script.specs.Plans.{Whole}
use Rattle.pt_script.specs.declared.values.Operation.{Operation}
use Rattle.pt_script.specs.Steps.{each}
use Rattle.pt_script.specs.Scopes.{Scope}
use Rattle.pt_script.specs.Lists.{simple}
use Rattle.pt_script.specs.Operations.{reason_written}
use Rattle.pt_script.specs.Scripts.{Heads, next_head, no_heads, script, as_written, reading}
use Rattle.pt_script.specs.Sound.{IsSoundScript}
use Rattle.pt_script.specs.Sights.{IsWellFormed}
use Rattle.pt_script.specs.Unrolling.{HasNoRepeats}
use Rattle.pt_script.specs.Writing.{Called, written_operation, CanSay, scope_behind}
use Rattle.pt_script.specs.WritingScripts.{script_written}
use Rattle.pt_script.specs.Standing.{HasPlaceIn, IsNumbered, AreNamesOf, processes_of}

-- whatever bytes are accepted, their script is sound as it is run
abbrev pub AcceptedAreSound : Type 0
AcceptedAreSound = (bytes : List ℕ) (w : Whole) → reading bytes ≡ Ok w → IsSoundScript w

-- a reason is read from the text that it is printed as, and from no other
abbrev pub ReasonsAsPrinted : Type 0
ReasonsAsPrinted = (text : List ℕ) (r : Reason) → reason_written text ≡ Ok r → text ≡ reason_text r

-- the process and the operation that a fault names are in the text
abbrev pub FaultsHavePlaces : Type 0
FaultsHavePlaces =
    (bytes : List ℕ) (fault : Fault) (place : Place) → reading bytes ≡ Err (Refused fault place)
    → HasPlaceIn (read bytes) place

-- the numbers of an accepted script, as it is written, are the places of its processes in the text
abbrev pub NumbersArePlaces : Type 0
NumbersArePlaces =
    (bytes : List ℕ) (w : Whole) → as_written bytes ≡ Ok w → (d : Data) × (read bytes ≡ Some d) × IsNumbered d w

-- a name that the heads of the processes settle stands for the place of the process that has it
abbrev pub NamesArePlaces : Type 0
NamesArePlaces =
    (s : Settings) (ds : List Data) (heads : Heads) → each (next_head s) no_heads ds ≡ Ok heads
    → AreNamesOf (processes_of ds) heads.names

-- an operation that was written is read back, and with the scope behind it
abbrev pub OperationsReadBack : Type 0
OperationsReadBack =
    (s : Scope) (c : Called) (o : Operation) → CanSay s c o → simple s (written_operation c o) ≡ Ok (o, scope_behind s c o)

-- a script that is well formed is read back, as it is written, from what is written of it, and from each text of that value
abbrev pub ScriptsReadBack : Type 0
ScriptsReadBack =
    (w : Whole) → IsWellFormed w
    → (script (script_written w) ≡ Ok w)
    × ((bytes : List ℕ) → length bytes ≤ MAX_BYTES → is_utf8 bytes ≡ true → read bytes ≡ Some (script_written w)
    → as_written bytes ≡ Ok w)

-- and every script that is accepted as it is written is well formed, so that it is read back from what is written of it
abbrev pub AcceptedReadBack : Type 0
AcceptedReadBack =
    (bytes : List ℕ) (w : Whole) → as_written bytes ≡ Ok w → IsWellFormed w × (script (script_written w) ≡ Ok w)

-- a script of format 1 or 2 is run as it is written
abbrev pub OldFormatsAsWritten : Type 0
OldFormatsAsWritten =
    (bytes : List ℕ) (w : Whole) → w.settings.format < 3 → (reading bytes ≡ Ok w) ↔ (as_written bytes ≡ Ok w)

-- no script that was read has a repeat left, in any format
abbrev pub AcceptedHaveNoRepeats : Type 0
AcceptedHaveNoRepeats = (bytes : List ℕ) (w : Whole) → reading bytes ≡ Ok w → HasNoRepeats w
