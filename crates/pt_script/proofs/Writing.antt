-- An operation that was written is read back.
use Rattle.std.proofs.Common.{◌≡◌, ℕ, zero, suc, ◌<◌, ◌≤◌, ◌^◌, ℤ, pos, negsuc, List, Bool, true, false, length, get_or, Some, None, Ok, refl, ap, sym, arith}
use Rattle.std.specs.Prelude.{codes, decimal, ok_or, nat_lt}
use Rattle.std.specs.List.{list_all}
use Rattle.std.specs.Str.Parse.{digits_value}
use Rattle.std.proofs.lemmas.Fmt.{digits_decimal, digits_value-decimal, decimal_nonempty, first_decimal, decimal_digit}
use Rattle.serde_json.specs.Data.{Data, unsigned, number, string, object, no_members}
use Rattle.serde_json.specs.Find.{of_integer}
use Rattle.pt_signal.specs.declared.reason.Reason.{Reason}
use Rattle.pt_signal.specs.declared.reason.Reason.TheVariants.{Normal, Kill, Killed, Noproc, Shutdown, Other}
use Rattle.pt_signal.specs.Text.{reason_text}
use Rattle.pt_script.specs.declared.fault.Fault.TheVariants.{Name}
use Rattle.pt_script.specs.declared.values.Pattern.{Pattern}
use Rattle.pt_script.specs.declared.values.Pattern.TheVariants as pattern
use Rattle.pt_script.specs.declared.values.Operation.{Operation}
use Rattle.pt_script.specs.declared.values.Operation.TheVariants as operation
use Rattle.pt_script.specs.Steps.{◌>>=◌}
use Rattle.pt_script.specs.Members.{known_members, whole_number, signed}
use Rattle.pt_script.specs.Operations.{is_decimal, number_read as numeral, reason_written, process, new_tag, pick, pick_members, kind, tagged, plain, send, receive_members, receive, check, link, unlink, demonitor, trap, exit, signal, pass, branch, otherwise, branch_end, repeat, again, block_mark}
use Rattle.pt_script.specs.Scopes.{Scope, can_ask, has_blocks, is_script_digit}
use Rattle.pt_script.specs.Lists.{simple, with_monitor, with_ask}
use Rattle.pt_script.specs.Writing.{Called, with, written_operation, IsCalled, CanPick, WritesReason, FitsSigned, IsNewTag, CanSay, scope_behind}
use Rattle.pt_script.proofs.NumberFacts.{own}

-- parts --------------------------------------------------------------------------

is_written : (n : ℕ) → n < 2 ^ 32 → is_decimal (decimal n) ≡ true
unfolding is_decimal is_script_digit
is_written zero small = rw (decimal_digit 0 (omega arith)) refl
is_written (suc m) small =
    let some : 0 < length (decimal (suc m)) = decimal_nonempty (suc m) (omega (arith, small)) in
    let digits : list_all is_script_digit (decimal (suc m)) ≡ true = digits_decimal own (suc m) (omega (arith, small)) in
    let first : 48 < get_or (decimal (suc m)) 0 0 = first_decimal (suc m) (omega arith) (omega (arith, small)) in
    grind (arith, some, digits, first)

numeral_back : (n : ℕ) → n < 2 ^ 32 → numeral (decimal n) ≡ Ok n
numeral_back n small =
    let wide : n < 2 ^ 64 = omega (arith, small) in
    let value : digits_value 10 (decimal n) ≡ n = digits_value-decimal own n wide in
    let is : is_decimal (decimal n) ≡ true = is_written n small in
    let low : nat_lt n (2 ^ 32) ≡ true = grind (arith, small) in
    rw (is, value, low) refl

reason_back : (r : Reason) → WritesReason r → reason_written (reason_text r) ≡ Ok r
unfolding reason_text
reason_back Normal h = refl
reason_back Kill h = refl
reason_back Killed h = refl
reason_back Noproc h = refl
reason_back Shutdown h = refl
reason_back (Other n) h = ap (λ r. r >>= λ m. Ok (Other m)) (numeral_back n h)

called : (s : Scope) (c : Called) (n : ℕ) → IsCalled s c n → process s (string (c.process n)) ≡ Ok n
called s c n h = ap (λ o. ok_or o Name) h

kind_back : (n : ℕ) → n < 2 ^ 32 → kind (number (unsigned n)) ≡ Ok n
kind_back n small = grind arith

signed_back : (z : ℤ) → FitsSigned z → signed (number (of_integer z)) ≡ Ok z
signed_back (pos n) h = let low : nat_lt n (2 ^ 63) ≡ true = grind (arith, h) in rw low refl
signed_back (negsuc n) h = refl

new_back : (s : Scope) (c : Called) (tag : ℕ) → IsNewTag s c tag → new_tag s (string (c.tag tag)) ≡ Ok (c.tag tag)
new_back s c tag h = rw (h.1, h.2) refl

-- picks ----------------------------------------------------------------------------

kind_known : (b : Bool) (d : Data) → known_members (pick_members b) (object (with (codes "kind") d no_members)) ≡ Ok tt
kind_known true d = refl
kind_known false d = refl

from_known : (b : Bool) (d : Data) → known_members (pick_members b) (object (with (codes "from") d no_members)) ≡ Ok tt
from_known true d = refl
from_known false d = refl

exit_known : (b : Bool) (d : Data) → known_members (pick_members b) (object (with (codes "exit") d no_members)) ≡ Ok tt
exit_known true d = refl
exit_known false d = refl

down_known : (b : Bool) (d : Data) → known_members (pick_members b) (object (with (codes "down") d no_members)) ≡ Ok tt
down_known true d = refl
down_known false d = refl

alive_known : (b : Bool) (d : Data) → b ≡ true → known_members (pick_members b) (object (with (codes "alive") d no_members)) ≡ Ok tt
alive_known true d h = refl
alive_known false d h = absurd (let e : false ≡ true = h in cc)

pick_kind : (s : Scope) (n : ℕ) → n < 2 ^ 32 → pick s (object (with (codes "kind") (number (unsigned n)) no_members)) ≡ Ok (pattern.Kind n)
unfolding pick
pick_kind s n h = rw (kind_known (can_ask s) (number (unsigned n)), kind_back n h) refl

pick_from : (s : Scope) (c : Called) (n : ℕ) → IsCalled s c n → pick s (object (with (codes "from") (string (c.process n)) no_members)) ≡ Ok (pattern.From n)
unfolding pick
pick_from s c n h = rw (from_known (can_ask s) (string (c.process n)), called s c n h) refl

pick_exit : (s : Scope) (c : Called) (n : ℕ) → IsCalled s c n → pick s (object (with (codes "exit") (string (c.process n)) no_members)) ≡ Ok (pattern.ExitOf n)
unfolding pick
pick_exit s c n h = rw (exit_known (can_ask s) (string (c.process n)), called s c n h) refl

pick_down : (s : Scope) (c : Called) (tag : ℕ) → s.monitors (c.tag tag) ≡ Some tag → pick s (object (with (codes "down") (string (c.tag tag)) no_members)) ≡ Ok (pattern.DownOf tag)
unfolding pick
pick_down s c tag h = rw (down_known (can_ask s) (string (c.tag tag)), h) refl

pick_alive : (s : Scope) (c : Called) (tag : ℕ) → can_ask s ≡ true → s.asks (c.tag tag) ≡ Some tag → pick s (object (with (codes "alive") (string (c.tag tag)) no_members)) ≡ Ok (pattern.AliveOf tag)
unfolding pick
pick_alive s c tag asks h = rw (alive_known (can_ask s) (string (c.tag tag)) asks, h) refl

-- operations -----------------------------------------------------------------------

any_known : (b : Bool) → known_members (receive_members b) (object (with (codes "op") (string (codes "receive")) no_members)) ≡ Ok tt
any_known true = refl
any_known false = refl

pick_known : (b : Bool) (d : Data) → known_members (receive_members b) (object (with (codes "op") (string (codes "receive")) (with (codes "pick") d no_members))) ≡ Ok tt
pick_known true d = refl
pick_known false d = refl

receive_back : (s : Scope) (c : Called) (p : Pattern) → CanPick s c p → simple s (written_operation c (operation.Receive p)) ≡ Ok (operation.Receive p, s)
unfolding plain receive
receive_back s c pattern.Any h = rw (any_known (has_blocks s)) refl
receive_back s c (pattern.Kind n) h = rw (pick_known (has_blocks s) (object (with (codes "kind") (number (unsigned n)) no_members)), pick_kind s n h) refl
receive_back s c (pattern.From n) h = rw (pick_known (has_blocks s) (object (with (codes "from") (string (c.process n)) no_members)), pick_from s c n h) refl
receive_back s c (pattern.ExitOf n) h = rw (pick_known (has_blocks s) (object (with (codes "exit") (string (c.process n)) no_members)), pick_exit s c n h) refl
receive_back s c (pattern.DownOf tag) h = rw (pick_known (has_blocks s) (object (with (codes "down") (string (c.tag tag)) no_members)), pick_down s c tag h) refl
receive_back s c (pattern.AliveOf tag) h = rw (pick_known (has_blocks s) (object (with (codes "alive") (string (c.tag tag)) no_members)), pick_alive s c tag h.0 h.1) refl

tries_back : (n : ℕ) → n ≤ 65536 → whole_number 0 65536 (number (unsigned n)) ≡ Ok n
tries_back n low = grind arith

times_back : (n : ℕ) → 1 ≤ n → n ≤ 65536 → whole_number 1 65536 (number (unsigned n)) ≡ Ok n
times_back n some low = grind arith

after_back : (s : Scope) (c : Called) (p : Pattern) (n : ℕ) → has_blocks s ≡ true → CanPick s c p → n ≤ 65536 → simple s (written_operation c (operation.ReceiveAfter p n)) ≡ Ok (operation.ReceiveAfter p n, s)
unfolding plain receive
after_back s c pattern.Any n three h low = rw (three, tries_back n low) refl
after_back s c (pattern.Kind m) n three h low = rw (three, pick_kind s m h, tries_back n low) refl
after_back s c (pattern.From m) n three h low = rw (three, pick_from s c m h, tries_back n low) refl
after_back s c (pattern.ExitOf m) n three h low = rw (three, pick_exit s c m h, tries_back n low) refl
after_back s c (pattern.DownOf tag) n three h low = rw (three, pick_down s c tag h, tries_back n low) refl
after_back s c (pattern.AliveOf tag) n three h low = rw (three, pick_alive s c tag h.0 h.1, tries_back n low) refl

check_back : (s : Scope) (c : Called) (p : Pattern) → CanPick s c p → simple s (written_operation c (operation.Check p)) ≡ Ok (operation.Check p, s)
unfolding plain check
check_back s c pattern.Any h = refl
check_back s c (pattern.Kind n) h = rw (pick_kind s n h) refl
check_back s c (pattern.From n) h = rw (pick_from s c n h) refl
check_back s c (pattern.ExitOf n) h = rw (pick_exit s c n h) refl
check_back s c (pattern.DownOf tag) h = rw (pick_down s c tag h) refl
check_back s c (pattern.AliveOf tag) h = rw (pick_alive s c tag h.0 h.1) refl

if_back : (s : Scope) (c : Called) (p : Pattern) → has_blocks s ≡ true → CanPick s c p → simple s (written_operation c (operation.If p)) ≡ Ok (operation.If p, s)
unfolding plain block_mark branch
if_back s c pattern.Any three h = rw three refl
if_back s c (pattern.Kind n) three h = rw (three, pick_kind s n h) refl
if_back s c (pattern.From n) three h = rw (three, pick_from s c n h) refl
if_back s c (pattern.ExitOf n) three h = rw (three, pick_exit s c n h) refl
if_back s c (pattern.DownOf tag) three h = rw (three, pick_down s c tag h) refl
if_back s c (pattern.AliveOf tag) three h = rw (three, pick_alive s c tag h.0 h.1) refl

tagged_back : (s : Scope) (c : Called) (op : List ℕ) (to tag : ℕ) → IsCalled s c to → IsNewTag s c tag → tagged s (object (with (codes "op") (string op) (with (codes "tag") (string (c.tag tag)) (with (codes "to") (string (c.process to)) no_members)))) ≡ Ok (to, c.tag tag)
unfolding tagged
tagged_back s c op to tag h new = rw (called s c to h, new_back s c tag new) refl

alive_back : (s : Scope) (c : Called) (to tag : ℕ) → can_ask s ≡ true → IsCalled s c to → IsNewTag s c tag → simple s (written_operation c (operation.Alive to tag)) ≡ Ok (operation.Alive to tag, with_ask s (c.tag tag))
alive_back s c to tag asks h new = rw (asks, tagged_back s c (codes "alive") to tag h new) (ap (λ t. Ok (operation.Alive to t, with_ask s (c.tag tag))) (sym new.0))

pub back : (s : Scope) (c : Called) (o : Operation) → CanSay s c o → simple s (written_operation c o) ≡ Ok (o, scope_behind s c o)
unfolding plain send link unlink demonitor trap exit signal pass block_mark otherwise branch_end repeat again
back s c (operation.Send to kind num None) h = rw (called s c to h.0, kind_back kind h.1, signed_back num h.2) refl
back s c (operation.Send to kind num (Some n)) h = rw (called s c to h.0, kind_back kind h.1, signed_back num h.2, called s c n h.3) refl
back s c (operation.Receive p) h = receive_back s c p h
back s c (operation.Check p) h = check_back s c p h
back s c (operation.Link to) h = rw (called s c to h) refl
back s c (operation.Unlink to) h = rw (called s c to h) refl
back s c (operation.Monitor to tag) h = rw (tagged_back s c (codes "monitor") to tag h.0 h.1) (ap (λ t. Ok (operation.Monitor to t, with_monitor s (c.tag tag))) (sym h.1.0))
back s c (operation.Demonitor tag flush) h = rw h refl
back s c (operation.Alive to tag) h = alive_back s c to tag h.0 h.1 h.2
back s c (operation.Trap on) h = refl
back s c (operation.Exit reason) h = rw (reason_back reason h) refl
back s c (operation.Signal to reason) h = rw (called s c to h.0, reason_back reason h.1) refl
back s c (operation.Spawn process linked) h = absurd h
back s c operation.Pass h = refl
back s c (operation.ReceiveAfter p tries) h = after_back s c p tries h.0 h.1 h.2
back s c (operation.If p) h = if_back s c p h.0 h.1
back s c operation.Else h = rw h refl
back s c operation.End h = rw h refl
back s c (operation.Repeat times) h = rw (h.0, times_back times h.1 h.2) refl
back s c operation.Again h = rw h refl
