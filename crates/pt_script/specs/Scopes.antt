-- What names stand for, and which texts are names.
use Rattle.std.specs.Prelude.{ℕ, List, Bool, ◌&&◌, ◌||◌, ◌==◌, not, codes, length, slice_index, nat_le, nat_lt, false}
use Rattle.std.specs.Prelude.{if◌then◌else◌, Option, Some, None}
use Rattle.std.specs.List.{list_all}
use Rattle.std.specs.Str.{bytes_eq}
use Rattle.std.specs.HashMap.{get_by}
use Rattle.pt_script.specs.declared.names.Names.{Names}
use Rattle.pt_script.specs.declared.operation.Scope.{Scope as Surroundings}
use Rattle.pt_script.specs.declared.limits.TheConstants.{MAX_NAME}

-- what stands for what, by name
abbrev pub Naming : Type 0
Naming = List ℕ → Option ℕ

abbrev pub naming : Names → Naming
naming names text = get_by (λ k. bytes_eq text k.now) names.numbers

-- what an operation can name
pub record Scope : Type 0 where
  -- the script's format, 1 to 3
  pub format : ℕ
  -- the process that does it
  pub own : ℕ
  -- the process that spawned that one
  pub parent : Option ℕ
  -- the processes that the script begins with
  pub tops : Naming
  -- the processes that earlier operations of the list spawned
  pub children : Naming
  -- the tags of earlier monitors of the list
  pub monitors : Naming
  -- the tags of earlier asks of the list
  pub asks : Naming
  -- how many tags those are together
  pub made : ℕ

abbrev pub scope_view : Surroundings → Scope
scope_view s = record {
  format = s.format;
  own = s.own;
  parent = s.parent;
  tops = naming s.tops.now;
  children = naming s.children;
  monitors = naming s.monitors;
  asks = naming s.asks;
  made = s.made;
}

-- from format 2 on a process can ask whether another is alive
abbrev pub can_ask : Scope → Bool
can_ask s = nat_le 2 s.format

-- from format 3 on a list has branches and repeats, and a receive can end after some tries
abbrev pub has_blocks : Scope → Bool
has_blocks s = nat_le 3 s.format

abbrev pub or_number : Option ℕ → Option ℕ → Option ℕ
or_number (Some n) other = Some n
or_number None other = other

-- the process that a name stands for
abbrev pub process_in : Scope → Naming
process_in s name =
    if bytes_eq name (codes "self") then Some s.own
    else (if bytes_eq name (codes "parent") then s.parent else or_number (s.children name) (s.tops name))

-- the tag that a text is, of a monitor or of an ask
abbrev pub tag_in : Scope → Naming
tag_in s name = or_number (s.monitors name) (s.asks name)

unfoldable pub is_script_digit : ℕ → Bool
is_script_digit b = nat_le 48 b && nat_le b 57

unfoldable pub is_script_letter : ℕ → Bool
is_script_letter b = (nat_le 65 b && nat_le b 90) || (nat_le 97 b && nat_le b 122)

unfoldable pub is_name_byte : ℕ → Bool
is_name_byte b = is_script_letter b || is_script_digit b || (b == 95)

-- letters, digits and `_`, beginning with a letter
unfoldable pub begins_well : List ℕ → Bool
begins_well name = is_script_letter (slice_index name 0) && list_all is_name_byte name

-- as many of them as a name has
abbrev pub is_script_name : List ℕ → Bool
is_script_name name = if nat_lt 0 (length name) && nat_le (length name) MAX_NAME then begins_well name else false

-- a name that a process may be given
abbrev pub is_own_name : List ℕ → Bool
is_own_name name = is_script_name name && not (bytes_eq name (codes "self")) && not (bytes_eq name (codes "parent"))
