-- What a process took, and what waits in its mailbox, by position.
use Rattle.std.specs.Prelude.{◌≡◌, ℕ, false, cond, not, ◌==◌, List, [], ◌∷◌, ◌++◌, map, filter, find, option_to_list}
use Rattle.std.specs.Prelude.{Contains, Bool, ⊤}
use Rattle.std.specs.List.{list_any, enumerate_from}
use Rattle.pt_signal.specs.declared.pid.Pid.{Pid}
use Rattle.pt_signal.specs.declared.item.Item.{Item}
use Rattle.pt_signal.specs.declared.item.Pick.{Pick}
use Rattle.pt_events.specs.declared.event.Event.TheVariants.{Took}
use Rattle.pt_signal.specs.Values.{same_pid, fits}
use Rattle.pt_events.specs.History.{Past, Start, arrived, state}
use Rattle.pt_events.specs.Takes.{taken}
use Rattle.pt_laws.specs.Acts.{ActsMayCome}

-- a position and the item there
abbrev pub TakePlace : Type 0
TakePlace = ℕ × Item

abbrev pub is_among_places : ℕ → List TakePlace → Bool
is_among_places n places = list_any (λ e. n == e.0) places

-- the items with their positions, but for those at the places
abbrev pub free_of : List TakePlace → List Item → List TakePlace
free_of places items = filter (λ e. not (is_among_places e.0 places)) (enumerate_from 0 items)

-- the first whose item the pick takes
abbrev pub first_fit : Pick → List TakePlace → List TakePlace
first_fit k free = option_to_list (find (λ e. fits k e.1) free)

-- where the takes of p took, in order: each at the first position that no earlier one took and whose item its pick
-- takes
abbrev pub take_places : Start → Pid → Past → List TakePlace
take_places start p [] = []
take_places start p (Took q k i ∷ past) =
    take_places start p past ++ cond (same_pid p q) (first_fit k (free_of (take_places start p past) (arrived start past p))) []
take_places start p (e ∷ past) = take_places start p past

abbrev pub AllDistinct : List TakePlace → Type 0
AllDistinct [] = ⊤
AllDistinct (e ∷ es) = (is_among_places e.0 es ≡ false) × AllDistinct es

abbrev pub AllArrivals : List Item → List TakePlace → Type 0
AllArrivals items [] = ⊤
AllArrivals items (e ∷ es) = Contains (enumerate_from 0 items) e × AllArrivals items es

-- each take took the arrival at one position, no two at the same; what waits are the arrivals at the other positions,
-- in order
abbrev pub TakenByPosition : Type 0
TakenByPosition =
    (start : Start) (past : Past) (p : Pid) → ActsMayCome start past
    → (taken past p ≡ map (λ e. e.1) (take_places start p past))
    × AllArrivals (arrived start past p) (take_places start p past)
    × AllDistinct (take_places start p past)
    × ((state start past p).waiting ≡ map (λ e. e.1) (free_of (take_places start p past) (arrived start past p)))
