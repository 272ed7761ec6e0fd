-- What bytes say, where they are a value's text and where they are none.
use Rattle.std.proofs.Common.{◌≡◌, ℕ, ◌≤◌, List, Bool, true, false, length, Some, None, Result, Err, refl, ap, arith}
use Rattle.std.specs.Prelude.{nat_lt}
use Rattle.std.specs.Str.{IsUtf8, is_utf8}
use Rattle.std.proofs.lemmas.Str.{IsUtf8-from_is_utf8, is_utf8-from_IsUtf8}
use Rattle.serde_json.specs.Data.{Data}
use Rattle.serde_json.specs.Read.{read}
use Rattle.pt_script.specs.declared.fault.Fault.TheVariants.{Syntax}
use Rattle.pt_script.specs.declared.fault.ScriptError.{ScriptError}
use Rattle.pt_script.specs.declared.fault.ScriptError.TheVariants.{Refused}
use Rattle.pt_script.specs.Lists.{at_script}
use Rattle.pt_script.specs.Plans.{Whole}
use Rattle.pt_script.specs.Scripts.{as_written, reading, script}
use Rattle.pt_script.specs.Steps.{◌>>=◌}
use Rattle.pt_script.specs.Unrolling.{unrolled}

-- behind what was written all is written out
run_as : (bytes : List ℕ) (read : Result Whole ScriptError) → as_written bytes ≡ read → reading bytes ≡ read >>= unrolled
unfolding reading
run_as bytes read is = ap (λ r. r >>= unrolled) is

not_long : (bytes : List ℕ) → length bytes ≤ 1048576 → nat_lt 1048576 (length bytes) ≡ false
not_long bytes short = grind arith

written_value : (bytes : List ℕ) (d : Data) → length bytes ≤ 1048576 → IsUtf8 bytes → read bytes ≡ Some d → as_written bytes ≡ script d
unfolding as_written
written_value bytes d short text value = rw (not_long bytes short, is_utf8-from_IsUtf8 bytes text, value) refl

pub reading_value : (bytes : List ℕ) (d : Data) → length bytes ≤ 1048576 → IsUtf8 bytes → read bytes ≡ Some d → reading bytes ≡ script d >>= unrolled
reading_value bytes d short text value = run_as bytes (script d) (written_value bytes d short text value)

no_value : (bytes : List ℕ) (b : Bool) → is_utf8 bytes ≡ b → length bytes ≤ 1048576 → (IsUtf8 bytes → read bytes ≡ None) → as_written bytes ≡ Err (Refused Syntax at_script)
unfolding as_written
no_value bytes true is short none = rw (not_long bytes short, is, none (IsUtf8-from_is_utf8 bytes is)) refl
no_value bytes false is short none = rw (not_long bytes short, is) refl

pub reading_no_value : (bytes : List ℕ) → length bytes ≤ 1048576 → (IsUtf8 bytes → read bytes ≡ None) → reading bytes ≡ Err (Refused Syntax at_script)
reading_no_value bytes short none = run_as bytes (Err (Refused Syntax at_script)) (no_value bytes (is_utf8 bytes) refl short none)
