-- What a process of a script is called, and what it waits for, in words: lists of characters.
use Rattle.std.specs.Prelude.{ℕ, List, ◌++◌, codes, decimal, slice_index_or, Option, Some, None}
use Rattle.pt_script.specs.declared.values.Operation.{Operation}
use Rattle.pt_script.specs.declared.values.Operation.TheVariants.{Receive}
use Rattle.pt_script.specs.declared.values.Pattern.{Pattern}
use Rattle.pt_script.specs.declared.values.Pattern.TheVariants.{Any, Kind, From, ExitOf, DownOf, AliveOf}

-- what an operation takes, if it is a receive
abbrev pub awaits : Operation → Option Pattern
awaits (Receive pattern) = Some pattern
awaits _ = None

-- a process of the script, by its number: its name, or the number if it has none
unfoldable pub process_text : List (List ℕ) → ℕ → List ℕ
process_text names process = slice_index_or names process (decimal process)

-- what a receive takes
unfoldable pub awaited_text : List (List ℕ) → Pattern → List ℕ
awaited_text names Any = codes "receive"
awaited_text names (Kind kind) = codes "receive kind " ++ decimal kind
awaited_text names (From process) = codes "receive from " ++ process_text names process
awaited_text names (ExitOf process) = codes "receive exit " ++ process_text names process
awaited_text names (DownOf tag) = codes "receive down of tag " ++ decimal tag
awaited_text names (AliveOf tag) = codes "receive alive of tag " ++ decimal tag
