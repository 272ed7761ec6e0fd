-- Why the law on links has its premise: two histories in which a parent said a Link to its child before a birth that
-- links the two.
use Rattle.std.specs.Prelude.{◌≡◌, true, Some, None, [], ◌∷◌}
use Rattle.pt_signal.specs.declared.pid.Pid.{Pid}
use Rattle.pt_signal.specs.declared.ids.LinkId.{LinkId}
use Rattle.pt_signal.specs.declared.reason.Reason.TheVariants.{Noproc}
use Rattle.pt_signal.specs.declared.signal.Signal.TheVariants.{Link, LinkExit}
use Rattle.pt_signal.specs.Process.{one_id}
use Rattle.pt_events.specs.declared.event.Event.TheVariants.{Born, Said, Came, Flag}
use Rattle.pt_events.specs.History.{Past, alive, IsLegal}
use Rattle.pt_laws.specs.Load.{IsQuiet}
use Rattle.pt_laws.specs.Links.{IsKnownSaid, IsBornHome, LinksAgree}

abbrev pub parent : Pid
parent = record { shard = 0; slot = 0; version = 1 }

abbrev pub said_id : LinkId
said_id = record { desk = 0; number = 3 }

abbrev pub born_id : LinkId
born_id = record { desk = 0; number = 5 }

-- the Link goes back as an exit signal, which comes after the birth and takes the child's id out with its own
abbrev pub early : Pid → Past
early child =
    Came child parent (LinkExit (one_id said_id) Noproc)
    ∷ Born child (Some parent) (Some born_id)
    ∷ Came parent child (Link said_id)
    ∷ Said parent child (Link said_id)
    ∷ Flag parent true
    ∷ Born parent None None
    ∷ []

abbrev pub child_here : Pid
child_here = record { shard = 0; slot = 1; version = 1 }

abbrev pub child_there : Pid
child_there = record { shard = 1; slot = 1; version = 1 }

-- legal and quiet, and yet the live child and its parent do not agree
abbrev pub Breaks : Pid → Type 0
Breaks child =
    IsLegal [] (early child) × IsQuiet [] (early child)
    × (alive [] (early child) child ≡ true) × ¬ LinksAgree [] (early child) child parent

-- on one desk, where the Link is said before the child is known
abbrev pub EarlyLinkUnknown : Type 0
EarlyLinkUnknown = Breaks child_here × IsBornHome (early child_here)

-- on two desks, where the child is not born on its parent's
abbrev pub EarlyLinkAbroad : Type 0
EarlyLinkAbroad = Breaks child_there × IsKnownSaid [] (early child_there)
