-- Links in a quiet history.
use Rattle.std.specs.Prelude.{◌≡◌, Bool, true, false, Option, Some, None, [], ◌∷◌, ⊤}
use Rattle.pt_signal.specs.declared.pid.Pid.{Pid}
use Rattle.pt_signal.specs.declared.ids.Ids.{Ids}
use Rattle.pt_signal.specs.declared.ids.LinkId.{LinkId}
use Rattle.pt_signal.specs.declared.signal.Signal.{Signal}
use Rattle.pt_signal.specs.declared.signal.Signal.TheVariants.{Link}
use Rattle.pt_events.specs.declared.event.Event.TheVariants.{Born, Said}
use Rattle.pt_signal.specs.Process.{has_id, held}
use Rattle.pt_events.specs.History.{Past, Start, is_unborn, life, alive, state}
use Rattle.pt_laws.specs.Watch.{said_to}
use Rattle.pt_events.specs.Journal.{IsOf}

abbrev pub is_link : Signal → Bool
is_link (Link i) = true
is_link _ = false

-- the id is one of them
abbrev pub holds_id : Option Ids → LinkId → Bool
holds_id None i = false
holds_id (Some ids) i = has_id ids i

module _ (start : Start) where
  -- what is said to a pid of the sayer's own desk is said after that pid's birth
  abbrev pub IsKnownSaid : Past → Type 0
  IsKnownSaid [] = ⊤
  IsKnownSaid (Said a b x ∷ past) = (b.shard ≡ a.shard → is_unborn (life start past b) ≡ false) × IsKnownSaid past
  IsKnownSaid (e ∷ past) = IsKnownSaid past

-- a child is of its parent's desk
abbrev pub IsBornHome : Past → Type 0
IsBornHome [] = ⊤
IsBornHome (Born p parent link ∷ past) = IsOf p.shard parent × IsBornHome past
IsBornHome (e ∷ past) = IsBornHome past

-- a birth links parent and child only where the parent had said no Link to the child before
abbrev pub IsNewTie : Past → Pid → Option Pid → Option LinkId → Type 0
IsNewTie past p (Some q) (Some i) = said_to q p is_link past ≡ 0
IsNewTie past p _ _ = ⊤

abbrev pub IsBornFree : Past → Type 0
IsBornFree [] = ⊤
IsBornFree (Born p parent link ∷ past) = IsNewTie past p parent link × IsBornFree past
IsBornFree (e ∷ past) = IsBornFree past

module _ (start : Start) where
  -- the ids that p holds with q are those that q holds with p
  abbrev pub HoldSame : Past → Pid → Pid → Type 0
  HoldSame past p q =
      (i : LinkId) → holds_id (held (state start past p).links q) i ≡ holds_id (held (state start past q).links p) i

  abbrev pub HoldsNone : Past → Pid → Pid → Type 0
  HoldsNone past p q = held (state start past p).links q ≡ None

  -- a link of a live p stands at both ends, or, where the other is not alive, at neither
  abbrev pub LinksAgree : Past → Pid → Pid → Type 0
  LinksAgree past p q =
      (alive start past q ≡ true → HoldSame past p q) × (alive start past q ≡ false → HoldsNone past p q)
