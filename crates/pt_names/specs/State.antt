-- Names as their callers see them.
use Rattle.std.specs.Prelude.{◌≡◌, Bool, nat_eq, List, Option, Some}
use Rattle.std.specs.Option.{option_map}
use Rattle.std.specs.Map.{lookup}
use Rattle.std.specs.Cmp.Lexicographic.{pointwise}
use Rattle.std.specs.declared.hash.FoldHasher.{FoldHasher}
use Rattle.std.specs.declared.hash.BuildHasherDefault.{BuildHasherDefault}
use Rattle.indexmap.specs.IndexMap.{IndexMap}
use Rattle.pt_signal.specs.declared.pid.Pid.{Pid}
use Rattle.pt_signal.specs.Values.{same_pid}
use Rattle.pt_names.specs.declared.name.Name.{Name}
use Rattle.pt_names.specs.declared.names.Holder.{Holder}

abbrev pub same_name : Name → Name → Bool
same_name a b = pointwise nat_eq a.letters b.letters

pub record NamesState : Type 0 where
  -- each name with who has it
  pub holders : List (Name × Holder)
  -- each process that has a name, with the name
  pub names : List (Pid × Name)

abbrev pub state : IndexMap Name Holder (BuildHasherDefault FoldHasher)
    → IndexMap Pid Name (BuildHasherDefault FoldHasher) → NamesState
state holders names = record { holders = holders.entries; names = names.entries }

-- who has the name
abbrev pub holder_of : NamesState → Name → Option Holder
holder_of s n = lookup (same_name n) s.holders

-- the process that has the name
abbrev pub pid_of : NamesState → Name → Option Pid
pid_of s n = option_map (λ h. h.pid) (holder_of s n)

-- the name of the process
abbrev pub name_at : NamesState → Pid → Option Name
name_at s p = lookup (same_pid p) s.names

-- each name is of one process, which has that name alone
pub record IsOneToOne (s : NamesState) : Type 0 where
  pub has_name : (n : Name) (h : Holder) → holder_of s n ≡ Some h → name_at s h.pid ≡ Some n
  pub has_process : (p : Pid) (n : Name) → name_at s p ≡ Some n → pid_of s n ≡ Some p
