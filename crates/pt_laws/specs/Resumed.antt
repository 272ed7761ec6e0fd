-- A history that goes on from another one.
use Rattle.std.specs.Prelude.{◌≡◌, ◌⊎◌, ℕ, ◌<◌, false, Option, Some, None, [], ◌∷◌, ⊤}
use Rattle.pt_signal.specs.declared.pid.Pid.{Pid}
use Rattle.pt_events.specs.declared.event.Event.{Event}
use Rattle.pt_events.specs.declared.event.Event.TheVariants.{Born, Said}
use Rattle.pt_signal.specs.declared.signal.Signal.TheVariants.{Link, Monitor, AliveAsk}
use Rattle.pt_signal.specs.declared.ids.LinkId.{LinkId}
use Rattle.pt_signal.specs.declared.ids.Ref.{Ref}
use Rattle.pt_events.specs.History.{Past, Start, Phase, at_start, life, made_link, made_ref, IsLegal}
pub use Rattle.pt_events.specs.Leaving.{outcome, start_after}
pub use Rattle.pt_events.specs.Forgetting.{reasonless, without_reasons}
use Rattle.pt_laws.specs.Load.{IsQuiet}

-- the ids and references that the event makes were not made in the history
abbrev pub IsNewLink : Past → Option LinkId → Type 0
IsNewLink old None = ⊤
IsNewLink old (Some i) = made_link old i ≡ false

abbrev pub IsNewTo : Past → Event → Type 0
IsNewTo old (Born p parent link) = IsNewLink old link
IsNewTo old (Said a b (Link i)) = made_link old i ≡ false
IsNewTo old (Said a b (Monitor m)) = made_ref old m ≡ false
IsNewTo old (Said a b (AliveAsk m)) = made_ref old m ≡ false
IsNewTo old _ = ⊤

abbrev pub AllNewTo : Past → Past → Type 0
AllNewTo old [] = ⊤
AllNewTo old (e ∷ past) = IsNewTo old e × AllNewTo old past

-- the history makes no id and no reference that is numbered above n
abbrev pub MadeUpTo : ℕ → Past → Type 0
MadeUpTo n past =
    ((i : LinkId) → n < i.number → made_link past i ≡ false) × ((m : Ref) → n < m.number → made_ref past m ≡ false)

-- what a start has of a process that was left so: that outcome, or of one that ended its end without the reason
abbrev pub IsKnownAs : Phase → Phase → Type 0
IsKnownAs f left = (f ≡ outcome left) ⊎ (f ≡ reasonless left)

-- the start is what `old` left behind, a legal and quiet history from the very beginning; why a process ended may be
-- forgotten
pub record IsLeftBy (start : Start) (old : Past) : Type 0 where
  pub legal : IsLegal [] old
  pub quiet : IsQuiet [] old
  pub alike : (p : Pid) → IsKnownAs (at_start start p) (life [] old p)

-- and it is not forgotten of any
abbrev pub HasAllReasons : Start → Past → Type 0
HasAllReasons start old = (p : Pid) → at_start start p ≡ outcome (life [] old p)
