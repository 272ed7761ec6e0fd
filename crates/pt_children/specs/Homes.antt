-- On which desk a child is started, and how far that has come if the program starts it on another.
use Rattle.std.specs.Prelude.{◌≡◌, ℕ, ◌==◌, ◌&&◌, not, Bool, true, false, is_some, List, Option, position, slice_get}
use Rattle.std.specs.Prelude.{Some}
use Rattle.pt_signal.specs.declared.pid.Pid.{Pid}
use Rattle.pt_shard.specs.declared.fault.Fault.{Fault}
use Rattle.pt_children.specs.declared.children.Child.{Child}
use Rattle.pt_children.specs.declared.home.Home.{Home}
use Rattle.pt_children.specs.declared.home.Home.TheVariants.{Here, Elsewhere, Awaited, Told, Arrived, Missed}

-- its supervisor spawns it, on the supervisor's desk
abbrev pub is_here : Home → Bool
is_here Here = true
is_here _ = false

-- its supervisor waits for the program's answer, and the program was not asked yet
abbrev pub is_untold : Home → Bool
is_untold Awaited = true
is_untold _ = false

-- its supervisor waits for the program's answer
abbrev pub is_unanswered : Home → Bool
is_unanswered Awaited = true
is_unanswered Told = true
is_unanswered _ = false

-- its supervisor waits for the program's answer, or has not made of it yet what it says
abbrev pub is_abroad : Home → Bool
is_abroad Here = false
is_abroad Elsewhere = false
is_abroad _ = true

-- it has no process, and is being started on another desk
abbrev pub is_coming : Child → Bool
is_coming c = not (is_some c.pid) && is_abroad c.home

-- it has no process, and the program is to be asked to start it
abbrev pub is_untold_child : Child → Bool
is_untold_child c = not (is_some c.pid) && is_untold c.home

-- it has no process, and the program is to say whether it was started
abbrev pub is_awaited : Child → Bool
is_awaited c = not (is_some c.pid) && is_unanswered c.home

-- the place of the first child that is being started on another desk
abbrev pub place_coming : List Child → Option ℕ
place_coming children = position is_coming children

-- a supervisor waits for the program, or is to link with a child that the program has started
abbrev pub is_waiting : List Child → Bool
is_waiting children = is_some (place_coming children)

-- the place of the first child that the program is to be asked to start
abbrev pub place_untold : List Child → Option ℕ
place_untold children = position is_untold_child children

-- the place of the first child of which the program is to say whether it was started
abbrev pub place_unanswered : List Child → Option ℕ
place_unanswered children = position is_awaited children

-- the place of the first child with this id of which the program is to say whether it was started
abbrev pub place_awaited : ℕ → List Child → Option ℕ
place_awaited id children = position (λ c. is_awaited c && (c.id == id)) children

-- a child is to be started on another desk, by the program
abbrev pub asked_child : Child → Child
asked_child c = record c { home = Awaited }

-- the program was asked to start a child
abbrev pub told_child : Child → Child
told_child c = record c { home = Told }

-- the program has not started a child, for this reason
abbrev pub unmet_child : Fault → Child → Child
unmet_child f c = record c { home = Missed f }

-- the program has started a child as this process
abbrev pub arrived_child : Pid → Child → Child
arrived_child p c = record c { home = Arrived p }

-- each child is one that its supervisor spawns
abbrev pub AllHere : List Child → Type 0
AllHere children = (place : ℕ) (c : Child) → slice_get children place ≡ Some c → c.home ≡ Here
