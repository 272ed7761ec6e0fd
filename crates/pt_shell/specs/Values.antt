-- The value that a word stands for, or what the word is not.
use Rattle.std.specs.Prelude.{ℕ, ◌-◌, ◌^◌, ℤ, Bool, true, false, Option, Some, None, Result, Ok, Err, codes}
use Rattle.std.specs.Prelude.{if◌then◌else◌}
use Rattle.std.specs.Str.{bytes_eq}
use Rattle.pt_signal.specs.declared.pid.Pid.{Pid}
use Rattle.pt_signal.specs.declared.ids.Ref.{Ref}
use Rattle.pt_signal.specs.declared.reason.Reason.{Reason}
use Rattle.pt_texts.specs.declared.parse.Refused.{Refused}
use Rattle.pt_texts.specs.Parsing.{finished}
use Rattle.pt_texts.specs.Readers.{pid_at, ref_at, reason_at}
use Rattle.pt_shell.specs.declared.lines.names.Value.{Value}
use Rattle.pt_shell.specs.declared.lines.mistake.Mistake.{Mistake}
use Rattle.pt_shell.specs.declared.lines.mistake.Why.{Why}
use Rattle.pt_shell.specs.declared.lines.mistake.Why.TheVariants.{NoPid, NoRef, NoReason, NoTruth, NoNumber}
use Rattle.pt_shell.specs.Words.{Told}
use Rattle.pt_shell.specs.Names.{Named, value_of}
use Rattle.pt_shell.specs.Numbers.{number_in}
use Rattle.pt_shell.specs.Numbers as numbers

-- this, and then that of what it gave
infixl 10 ◌>>=◌
abbrev pub ◌>>=◌ : {A B : Type 0} → Result A Mistake → (A → Result B Mistake) → Result B Mistake
(Ok x) >>= f = f x
(Err e) >>= f = Err e

abbrev pub mistake : {A : Type 0} → ℕ → Why → Result A Mistake
mistake column why = Err (record { column = column; why = why })

abbrev pub or_mistake : {A : Type 0} → Option A → Told → Why → Result A Mistake
or_mistake (Some x) w why = Ok x
or_mistake None w why = mistake w.0 why

abbrev pub pid_named : Option Value → Told → Result Pid Mistake
pid_named (Some (Value.Pid p)) w = Ok p
pid_named (Some (Value.Ref m)) w = mistake w.0 NoPid
pid_named None w = mistake w.0 NoPid

abbrev pub pid_or_named : Result Pid Refused → Named → Told → Result Pid Mistake
pid_or_named (Ok p) names w = Ok p
pid_or_named (Err e) names w = pid_named (value_of names w.1) w

-- a pid, by its text or by a name
abbrev pub pid_read : Named → Told → Result Pid Mistake
pid_read names w = pid_or_named (finished w.1 (pid_at w.1)) names w

abbrev pub ref_named : Option Value → Told → Result Ref Mistake
ref_named (Some (Value.Pid p)) w = mistake w.0 NoRef
ref_named (Some (Value.Ref m)) w = Ok m
ref_named None w = mistake w.0 NoRef

abbrev pub ref_or_named : Result Ref Refused → Named → Told → Result Ref Mistake
ref_or_named (Ok m) names w = Ok m
ref_or_named (Err e) names w = ref_named (value_of names w.1) w

-- a reference, by its text or by a name
abbrev pub ref_of : Named → Told → Result Ref Mistake
ref_of names w = ref_or_named (finished w.1 (ref_at w.1)) names w

abbrev pub reason_or_mistake : Result Reason Refused → Told → Result Reason Mistake
reason_or_mistake (Ok r) w = Ok r
reason_or_mistake (Err e) w = mistake w.0 NoReason

abbrev pub reason_read : Told → Result Reason Mistake
reason_read w = reason_or_mistake (finished w.1 (reason_at w.1)) w

abbrev pub truth_of : Told → Result Bool Mistake
truth_of w =
    if bytes_eq w.1 (codes "true")
    then Ok true
    else (if bytes_eq w.1 (codes "false") then Ok false else mistake w.0 NoTruth)

abbrev pub u8_of : Told → Result ℕ Mistake
u8_of w = or_mistake (number_in (2 ^ 8 - 1) w.1) w NoNumber

abbrev pub u32_of : Told → Result ℕ Mistake
u32_of w = or_mistake (number_in (2 ^ 32 - 1) w.1) w NoNumber

abbrev pub u64_of : Told → Result ℕ Mistake
u64_of w = or_mistake (number_in (2 ^ 64 - 1) w.1) w NoNumber

abbrev pub i64_of : Told → Result ℤ Mistake
i64_of w = or_mistake (numbers.i64_in w.1) w NoNumber
