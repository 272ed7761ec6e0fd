-- What the calls of names answer C.
use Rattle.std.specs.Prelude.{◌≡◌, ◌⊎◌, ℕ, List, Option, Some, None, Result, Ok, Err, if◌then◌else◌}
use Rattle.pt_signal.specs.declared.pid.Pid.{Pid}
use Rattle.pt_signal.specs.declared.ids.Ref.{Ref}
use Rattle.pt_names.specs.declared.name.Name.{Name}
use Rattle.pt_names.specs.declared.names.Holder.{Holder}
use Rattle.pt_names.specs.declared.names.RegisterError.{RegisterError}
use Rattle.pt_names.specs.declared.names.RegisterError.TheVariants.{Taken, HasName, Memory}
use Rattle.pt_names.specs.Letters.{is_name_text, padded}
use Rattle.pt_names.specs.State.{NamesState}
use Rattle.pt_names.specs.Calls.{Checks, Forgets, IsNone, Registers, Unregisters}
use Rattle.pt_c_values.specs.Filling.{IfEmpty}
use Rattle.pt_c_values.specs.Places.{HandlePlace, ShowsCode, full}
use Rattle.pt_c_values.specs.Codes.{filled}
use Rattle.pt_c_values.specs.Crossing.{pid_out, ref_out}
use Rattle.pt_c_tools.specs.declared.naming.PtHolder.{PtHolder}
use Rattle.pt_c_tools.specs.declared.naming.PtName.{PtName}

-- the name with these bytes, if they are one
abbrev pub name_crossed : List ℕ → Option Name
name_crossed text = if is_name_text text then Some (record { letters = padded text }) else None

abbrev pub name_out : Name → PtName
name_out n = record { letters = n.letters }

abbrev pub holder_out : Holder → PtHolder
holder_out h = record { pid = pid_out h.pid; monitor = ref_out h.monitor }

-- the bytes are no name
abbrev pub bad_name : ℕ
bad_name = 19

abbrev pub register_code : Result (Unit {0}) RegisterError → ℕ
register_code (Ok done) = 0
register_code (Err Memory) = 2
register_code (Err (Taken p)) = 20
register_code (Err (HasName n)) = 21

-- a call that gets a name as bytes: if they are none, the code says so, and nothing has changed
abbrev pub IfIsName : Option Name → ℕ → Type 0 → (Name → Type 0) → Type 0
IfIsName (Some n) code kept P = P n
IfIsName None code kept P = (code ≡ bad_name) × kept

abbrev pub RegistersName : Name → Pid → Ref → ℕ → NamesState → NamesState → Type 0
RegistersName n p m code old new =
    (r : Result (Unit {0}) RegisterError) × (code ≡ register_code r) × Registers n p m old r new

abbrev pub ChecksName : Name → Pid → ℕ → NamesState → Type 0
ChecksName n p code s = (r : Result (Unit {0}) RegisterError) × (code ≡ register_code r) × Checks n p s r

abbrev pub UnregistersName : Name → ℕ → PtHolder → PtHolder → NamesState → NamesState → Type 0
UnregistersName n code before after old new =
    (h : Option Holder) × ShowsCode code before after holder_out h × Unregisters n old h new

abbrev pub ForgetsHolder : Pid → ℕ → PtName → PtName → NamesState → NamesState → Type 0
ForgetsHolder p code before after old new =
    (n : Option Name) × ShowsCode code before after name_out n × Forgets p old n new

-- the handle has no names yet, and gets some of which no process has one; or there was no memory, or it had some already,
-- and it is as it was
abbrev pub OpensNames : ℕ → HandlePlace NamesState → HandlePlace NamesState → Type 0
OpensNames code before after =
    IfEmpty before
    (((code ≡ 0) × (s : NamesState) × IsNone s × (after ≡ full s)) ⊎ ((code ≡ 2) × (after ≡ before)))
    ((code ≡ filled) × (after ≡ before))
