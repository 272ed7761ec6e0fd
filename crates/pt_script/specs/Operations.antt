-- Each operation: its members in the order in which they are checked, with their types and ranges.
use Rattle.std.specs.Prelude.{ℕ, ◌^◌, List, [], ◌∷◌, codes, drop, take, length, slice_index, Bool, true, false, ◌&&◌}
use Rattle.std.specs.Prelude.{◌||◌, ◌==◌, not, nat_lt, if◌then◌else◌, Option, Some, None, is_some, option_and_then}
use Rattle.std.specs.Prelude.{Result, Ok, Err, ok_or}
use Rattle.std.specs.List.{list_all}
use Rattle.std.specs.Str.{bytes_eq}
use Rattle.std.specs.Str.Parse.{digits_value}
use Rattle.serde_json.specs.Data.{Data}
use Rattle.serde_json.specs.Find.{get, as_str}
use Rattle.pt_signal.specs.declared.reason.Reason.{Reason}
use Rattle.pt_signal.specs.declared.reason.Reason.TheVariants.{Normal, Kill, Killed, Noproc, Shutdown, Other}
use Rattle.pt_script.specs.declared.fault.Fault.{Fault}
use Rattle.pt_script.specs.declared.fault.Fault.TheVariants.{Field, Name, Bounds}
use Rattle.pt_script.specs.declared.values.Pattern.{Pattern}
use Rattle.pt_script.specs.declared.values.Pattern.TheVariants as pattern
use Rattle.pt_script.specs.declared.values.Operation.{Operation}
use Rattle.pt_script.specs.declared.values.Operation.TheVariants as operation
use Rattle.pt_script.specs.declared.limits.TheConstants.{MAX_TIMES}
use Rattle.pt_script.specs.Steps.{◌>>=◌}
use Rattle.pt_script.specs.Members.{known_members, whole_number, signed, flag, text, list, required, optional_member}
use Rattle.pt_script.specs.Scopes.{Scope, can_ask, has_blocks, process_in, tag_in, is_script_name, is_own_name, is_script_digit}

abbrev pub is_text : List ℕ → Option (List ℕ) → Bool
is_text t None = false
is_text t (Some u) = bytes_eq u t

-- an object whose `op` is `spawn`, whatever else it has
abbrev pub is_spawn : Data → Bool
is_spawn d = is_text (codes "spawn") (option_and_then as_str (get (codes "op") d))

-- a name in scope
abbrev pub process : Scope → Data → Result ℕ Fault
process s d = do
  name ← text d
  ok_or (process_in s name) Name

-- a name in scope, where there is one
abbrev pub maybe_process : Scope → Data → Result (Option ℕ) Fault
maybe_process s d = do
  n ← process s d
  Ok (Some n)

-- the tag of an earlier monitor
abbrev pub monitor_tag : Scope → Data → Result ℕ Fault
monitor_tag s d = do
  name ← text d
  ok_or (s.monitors name) Name

-- the tag of an earlier ask
abbrev pub ask_tag : Scope → Data → Result ℕ Fault
ask_tag s d = do
  name ← text d
  ok_or (s.asks name) Name

-- a name that a process is given
abbrev pub new_name : (List ℕ → Option ℕ) → Data → Result (List ℕ) Fault
new_name taken d = do
  name ← text d
  if is_own_name name then (if is_some (taken name) then Err Name else Ok name) else Err Field

-- a tag that a monitor or an ask is given
abbrev pub new_tag : Scope → Data → Result (List ℕ) Fault
new_tag s d = do
  name ← text d
  if is_script_name name then (if is_some (tag_in s name) then Err Name else Ok name) else Err Field

-- a number in decimal digits with no zero in front
unfoldable pub is_decimal : List ℕ → Bool
is_decimal digits =
    nat_lt 0 (length digits) && list_all is_script_digit digits && ((length digits == 1) || not (slice_index digits 0 == 48))

abbrev pub number_read : List ℕ → Result ℕ Fault
number_read digits =
    if is_decimal digits
    then (if nat_lt (digits_value 10 digits) (2 ^ 32) then Ok (digits_value 10 digits) else Err Bounds) else Err Field

abbrev pub other_reason : List ℕ → Result Reason Fault
other_reason t = if bytes_eq (take 6 t) (codes "other:") then (number_read (drop 6 t) >>= λ n. Ok (Other n)) else Err Field

abbrev pub reason_written : List ℕ → Result Reason Fault
reason_written t = if bytes_eq t (codes "normal") then Ok Normal
    else (if bytes_eq t (codes "kill") then Ok Kill
    else (if bytes_eq t (codes "killed") then Ok Killed
    else (if bytes_eq t (codes "noproc") then Ok Noproc
    else (if bytes_eq t (codes "shutdown") then Ok Shutdown
    else other_reason t))))

abbrev pub reason : Data → Result Reason Fault
reason d = do
  t ← text d
  reason_written t

abbrev pub kind : Data → Result ℕ Fault
kind = whole_number 0 4294967295

-- exactly one of kind, from, exit, down and alive
abbrev pub one_pick : Scope → Option Data → Option Data → Option Data → Option Data → Option Data → Result Pattern Fault
one_pick s (Some d) None None None None = kind d >>= λ n. Ok (pattern.Kind n)
one_pick s None (Some d) None None None = process s d >>= λ n. Ok (pattern.From n)
one_pick s None None (Some d) None None = process s d >>= λ n. Ok (pattern.ExitOf n)
one_pick s None None None (Some d) None = monitor_tag s d >>= λ n. Ok (pattern.DownOf n)
one_pick s None None None None (Some d) = ask_tag s d >>= λ n. Ok (pattern.AliveOf n)
one_pick s _ _ _ _ _ = Err Field

-- the members of a pick; format 1 does not know the last one
abbrev pub pick_members : Bool → List (List ℕ)
pick_members true = codes "kind" ∷ codes "from" ∷ codes "exit" ∷ codes "down" ∷ codes "alive" ∷ []
pick_members false = codes "kind" ∷ codes "from" ∷ codes "exit" ∷ codes "down" ∷ []

unfoldable pub pick : Scope → Data → Result Pattern Fault
pick s d = do
  _ ← known_members (pick_members (can_ask s)) d
  one_pick s (get (codes "kind") d) (get (codes "from") d) (get (codes "exit") d) (get (codes "down") d)
      (get (codes "alive") d)

unfoldable pub send : Scope → Data → Result Operation Fault
send s d = do
  _ ← known_members (codes "op" ∷ codes "to" ∷ codes "kind" ∷ codes "num" ∷ codes "who" ∷ []) d
  to ← required (process s) (get (codes "to") d)
  kind ← required kind (get (codes "kind") d)
  num ← required signed (get (codes "num") d)
  who ← optional_member None (maybe_process s) (get (codes "who") d)
  Ok (operation.Send to kind num who)

-- the members of a receive; format 3 knows how often it tries
abbrev pub receive_members : Bool → List (List ℕ)
receive_members true = codes "op" ∷ codes "pick" ∷ codes "after" ∷ []
receive_members false = codes "op" ∷ codes "pick" ∷ []

abbrev pub tries : Data → Result (Option ℕ) Fault
tries d = do
  n ← whole_number 0 MAX_TIMES d
  Ok (Some n)

abbrev pub received : Pattern → Option ℕ → Operation
received p None = operation.Receive p
received p (Some n) = operation.ReceiveAfter p n

unfoldable pub receive : Scope → Data → Result Operation Fault
receive s d = do
  _ ← known_members (receive_members (has_blocks s)) d
  p ← optional_member pattern.Any (pick s) (get (codes "pick") d)
  after ← optional_member None tries (get (codes "after") d)
  Ok (received p after)

unfoldable pub check : Scope → Data → Result Operation Fault
check s d = do
  _ ← known_members (codes "op" ∷ codes "pick" ∷ []) d
  p ← optional_member pattern.Any (pick s) (get (codes "pick") d)
  Ok (operation.Check p)

unfoldable pub link : Scope → Data → Result Operation Fault
link s d = do
  _ ← known_members (codes "op" ∷ codes "to" ∷ []) d
  to ← required (process s) (get (codes "to") d)
  Ok (operation.Link to)

unfoldable pub unlink : Scope → Data → Result Operation Fault
unlink s d = do
  _ ← known_members (codes "op" ∷ codes "to" ∷ []) d
  to ← required (process s) (get (codes "to") d)
  Ok (operation.Unlink to)

unfoldable pub demonitor : Scope → Data → Result Operation Fault
demonitor s d = do
  _ ← known_members (codes "op" ∷ codes "tag" ∷ codes "flush" ∷ []) d
  tag ← required (monitor_tag s) (get (codes "tag") d)
  flush ← optional_member false flag (get (codes "flush") d)
  Ok (operation.Demonitor tag flush)

unfoldable pub trap : Data → Result Operation Fault
trap d = do
  _ ← known_members (codes "op" ∷ codes "on" ∷ []) d
  on ← required flag (get (codes "on") d)
  Ok (operation.Trap on)

unfoldable pub exit : Data → Result Operation Fault
exit d = do
  _ ← known_members (codes "op" ∷ codes "reason" ∷ []) d
  r ← required reason (get (codes "reason") d)
  Ok (operation.Exit r)

unfoldable pub signal : Scope → Data → Result Operation Fault
signal s d = do
  _ ← known_members (codes "op" ∷ codes "to" ∷ codes "reason" ∷ []) d
  to ← required (process s) (get (codes "to") d)
  r ← required reason (get (codes "reason") d)
  Ok (operation.Signal to r)

unfoldable pub pass : Data → Result Operation Fault
pass d = do
  _ ← known_members (codes "op" ∷ []) d
  Ok operation.Pass

unfoldable pub branch : Scope → Data → Result Operation Fault
branch s d = do
  _ ← known_members (codes "op" ∷ codes "pick" ∷ []) d
  p ← optional_member pattern.Any (pick s) (get (codes "pick") d)
  Ok (operation.If p)

unfoldable pub otherwise : Data → Result Operation Fault
otherwise d = do
  _ ← known_members (codes "op" ∷ []) d
  Ok operation.Else

unfoldable pub branch_end : Data → Result Operation Fault
branch_end d = do
  _ ← known_members (codes "op" ∷ []) d
  Ok operation.End

unfoldable pub repeat : Data → Result Operation Fault
repeat d = do
  _ ← known_members (codes "op" ∷ codes "times" ∷ []) d
  times ← required (whole_number 1 MAX_TIMES) (get (codes "times") d)
  Ok (operation.Repeat times)

unfoldable pub again : Data → Result Operation Fault
again d = do
  _ ← known_members (codes "op" ∷ []) d
  Ok operation.Again

-- what begins or ends a block
unfoldable pub block_mark : Scope → List ℕ → Data → Result Operation Fault
block_mark s op d = if bytes_eq op (codes "if") then branch s d
    else (if bytes_eq op (codes "else") then otherwise d
    else (if bytes_eq op (codes "end") then branch_end d
    else (if bytes_eq op (codes "repeat") then repeat d
    else (if bytes_eq op (codes "again") then again d
    else Err Field))))

-- a monitor or an ask: of whom, and its tag
unfoldable pub tagged : Scope → Data → Result (ℕ × List ℕ) Fault
tagged s d = do
  _ ← known_members (codes "op" ∷ codes "to" ∷ codes "tag" ∷ []) d
  to ← required (process s) (get (codes "to") d)
  name ← required (new_tag s) (get (codes "tag") d)
  Ok (to, name)

-- what a spawn says of the new process
pub record Spawning : Type 0 where
  pub name : List ℕ
  pub linked : Bool
  pub trap : Bool
  pub ops : List Data

unfoldable pub spawn : Scope → Data → Result Spawning Fault
spawn s d = do
  _ ← known_members (codes "op" ∷ codes "name" ∷ codes "linked" ∷ codes "trap" ∷ codes "ops" ∷ []) d
  name ← required (new_name (process_in s)) (get (codes "name") d)
  linked ← optional_member false flag (get (codes "linked") d)
  trap ← optional_member false flag (get (codes "trap") d)
  ops ← required list (get (codes "ops") d)
  Ok (record { name = name; linked = linked; trap = trap; ops = ops })

-- the operation that `op` names, where it makes no name: monitor, alive and spawn are told apart before
unfoldable pub plain : Scope → List ℕ → Data → Result Operation Fault
plain s op d = if bytes_eq op (codes "send") then send s d
    else (if bytes_eq op (codes "receive") then receive s d
    else (if bytes_eq op (codes "check") then check s d
    else (if bytes_eq op (codes "link") then link s d
    else (if bytes_eq op (codes "unlink") then unlink s d
    else (if bytes_eq op (codes "demonitor") then demonitor s d
    else (if bytes_eq op (codes "trap") then trap d
    else (if bytes_eq op (codes "exit") then exit d
    else (if bytes_eq op (codes "signal") then signal s d
    else (if bytes_eq op (codes "pass") then pass d
    else (if has_blocks s then block_mark s op d
    else Err Field))))))))))
