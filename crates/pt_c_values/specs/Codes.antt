-- The codes that calls answer. 0 is done, and each of the others has one meaning in every call.
use Rattle.std.specs.Prelude.{◌≡◌, ℕ, ◌==◌, Bool, true, false, Option, Some, None, Result, Ok, Err}
pub use Rattle.pt_c_values.specs.Places.{nothing_there, empty, some_code}
use Rattle.pt_signal.specs.declared.config.OpenError.{OpenError}
use Rattle.pt_signal.specs.declared.config.OpenError.TheVariants.{Bounds, Memory as NoMemory}
use Rattle.pt_signal.specs.declared.config.Setting.TheVariants.{Desks, Slots, TopVersion, Lane, Start}
use Rattle.pt_shard.specs.declared.fault.Fault.{Fault}
use Rattle.pt_shard.specs.declared.fault.Fault.TheVariants.{Full, Memory, Worn, Gone, Myself, NoProc}
use Rattle.pt_shard.specs.declared.stop.Stop.{Stop}
use Rattle.pt_shard.specs.declared.stop.Stop.TheVariants.{Memory as StopMemory, Worn as StopWorn}

abbrev pub code_of : Fault → ℕ
code_of Full = 1
code_of Memory = 2
code_of Worn = 3
code_of Gone = 4
code_of Myself = 5
code_of NoProc = 6

-- the desk cannot have had the target
abbrev pub unknown : ℕ
unknown = 7

-- a handle that is to be filled has something
abbrev pub filled : ℕ
filled = 10

-- a code in a struct that was passed in is none of its enumeration
abbrev pub bad_code : ℕ
bad_code = 16

-- a call that gets a struct with a code. If the code is none of its enumeration, that comes before all else that would be
-- refused: the call's code says so, and nothing has changed
abbrev pub IfCrosses : {A : Type 0} → Option A → ℕ → Type 0 → (A → Type 0) → Type 0
IfCrosses (Some a) code kept P = P a
IfCrosses None code kept P = (code ≡ bad_code) × kept

-- an answer is for a process that is not running
abbrev pub not_running : ℕ
not_running = 17

-- a crew is used with a desk that is not its own
abbrev pub wrong_desk : ℕ
wrong_desk = 18

-- this is the number of the desk of a crew, or it may be that of any
abbrev pub is_number_of : Option ℕ → ℕ → Bool
is_number_of (Some own) number = own == number
is_number_of None number = true

-- a call of a crew over a desk: if that is another's the code says so, and nothing has changed
abbrev pub IfOwn : Bool → ℕ → Type 0 → Type 0 → Type 0
IfOwn true code kept P = P
IfOwn false code kept P = (code ≡ wrong_desk) × kept

-- a settled node has no list of its pids
abbrev pub unlisted : ℕ
unlisted = 26

-- a setting is out of its range
abbrev pub open_code : OpenError → ℕ
open_code NoMemory = 2
open_code (Bounds Desks) = 11
open_code (Bounds Slots) = 12
open_code (Bounds TopVersion) = 13
open_code (Bounds Lane) = 14
open_code (Bounds Start) = 15

abbrev pub code_at : {A : Type 0} → Result A Fault → ℕ
code_at (Ok a) = 0
code_at (Err f) = code_of f

-- the value of an answer, and what stood there where there is none
abbrev pub told_or : {A B : Type 0} → (A → B) → B → Result A Fault → B
told_or f before (Ok a) = f a
told_or f before (Err e) = before

-- an answer with a value that P allows, as its code and its struct
abbrev pub GivesCode : {A B : Type 0} → ℕ → B → B → (A → B) → (Result A Fault → Type 0) → Type 0
GivesCode {A} code before after f P = (r : Result A Fault) × (code ≡ code_at r) × (after ≡ told_or f before r) × P r

abbrev pub found_code : {A : Type 0} → Result (Option A) Fault → ℕ
found_code (Ok (Some a)) = 0
found_code (Ok None) = nothing_there
found_code (Err f) = code_of f

abbrev pub stop_code : Option Stop → ℕ
stop_code None = 0
stop_code (Some StopMemory) = 2
stop_code (Some StopWorn) = 3
