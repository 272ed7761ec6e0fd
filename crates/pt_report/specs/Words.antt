-- The words of an explained summary, as lists of characters. No public clause cites this module.
use Rattle.std.specs.Prelude.{ℕ, ◌==◌, cond, List, [], ◌++◌, codes, decimal}
use Rattle.pt_script.specs.declared.values.Operation.{Operation}
use Rattle.pt_script.specs.declared.values.Operation.TheVariants.{Send, Receive, Check, Link, Unlink, Monitor}
use Rattle.pt_script.specs.declared.values.Operation.TheVariants.{Demonitor, Alive, Trap, Exit, Signal, Spawn, Pass}
use Rattle.pt_script.specs.declared.values.Operation.TheVariants.{ReceiveAfter, If, Else, End, Repeat, Again}

-- how often an operation was refused for memory or at the clock's limit
unfoldable pub refused_text : ℕ → List ℕ
refused_text times =
    cond (times == 0) []
    (cond (times == 1) (codes ", refused once") (codes ", refused " ++ decimal times ++ codes " times"))

-- what an operation is called in a script
abbrev pub word_text : Operation → List ℕ
word_text (Send to kind num who) = codes "send"
word_text (Receive pattern) = codes "receive"
word_text (Check pattern) = codes "check"
word_text (Link to) = codes "link"
word_text (Unlink to) = codes "unlink"
word_text (Monitor to tag) = codes "monitor"
word_text (Demonitor tag flush) = codes "demonitor"
word_text (Alive to tag) = codes "alive"
word_text (Trap on) = codes "trap"
word_text (Exit reason) = codes "exit"
word_text (Signal to reason) = codes "signal"
word_text (Spawn process linked) = codes "spawn"
word_text Pass = codes "pass"
word_text (ReceiveAfter pattern tries) = codes "receive"
word_text (If pattern) = codes "if"
word_text Else = codes "else"
word_text End = codes "end"
word_text (Repeat times) = codes "repeat"
word_text Again = codes "again"
