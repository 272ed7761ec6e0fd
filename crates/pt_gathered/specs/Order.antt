-- In which order settling takes the letters left over to their receivers.
use Rattle.std.specs.Prelude.{◌≡◌, ℕ, zero, suc, ◌<◌, ◌⊎◌, ◌∷◌, length, drop}
use Rattle.pt_signal.specs.declared.letter.Letter.{Letter}
use Rattle.pt_shard.specs.declared.stop.Stop.{Stop}
use Rattle.pt_shard.specs.declared.stop.Stop.TheVariants.{Memory}
use Rattle.pt_gathered.specs.Gathered.{GatheredState, over_in}
use Rattle.pt_gathered.specs.Settling.{Receives, IsRefused, NothingLeft}

-- what 0 does, then what 1 does, up to below n
abbrev pub InTurn : (ℕ → GatheredState → GatheredState → Type 0) → ℕ → GatheredState → GatheredState → Type 0
InTurn Does zero old new = new ≡ old
InTurn Does (suc n) old new = (mid : GatheredState) × InTurn Does n old mid × Does n mid new

-- the oldest letter left over from desk d to desk e comes there
abbrev pub ComesOnce : ℕ → ℕ → ℕ → GatheredState → GatheredState → Type 0
ComesOnce d e k old new = (l : Letter) × Receives d e l old new

-- the n oldest, one after the other
abbrev pub Comes : ℕ → ℕ → ℕ → GatheredState → GatheredState → Type 0
Comes d e n old new = InTurn (ComesOnce d e) n old new

-- all that is left over from desk d to desk e at first; what is sent meanwhile has to wait
abbrev pub LaneComes : ℕ → ℕ → GatheredState → GatheredState → Type 0
LaneComes e d old new = Comes d e (length (over_in old.shards old.lanes d e)) old new

-- so from each of n desks to desk e, from desk 0 on
abbrev pub DeskComes : ℕ → ℕ → GatheredState → GatheredState → Type 0
DeskComes n e old new = InTurn (LaneComes e) n old new

-- so to each of n desks, from desk 0 on
abbrev pub Pass : ℕ → ℕ → GatheredState → GatheredState → Type 0
Pass n k old new = InTurn (DeskComes n) n old new

-- one pass after the other
abbrev pub Passes : ℕ → ℕ → GatheredState → GatheredState → Type 0
Passes n count old new = InTurn (Pass n) count old new

-- some of the letters of a lane came, and the next is refused
pub record LaneStops (e d : ℕ) (stop : Stop) (old new : GatheredState) : Type 0 where
  pub count : ℕ
  pub comes : Comes d e count old new
  pub before_end : count < length (over_in old.shards old.lanes d e)
  pub next : Letter
  pub oldest : over_in new.shards new.lanes d e ≡ next ∷ drop 1 (over_in new.shards new.lanes d e)
  pub refused : IsRefused stop e next new

-- of what is done in turn below n, all below one number is done, and there it stops
pub record StopsInTurn (Does : ℕ → GatheredState → GatheredState → Type 0)
    (Stops : ℕ → Stop → GatheredState → GatheredState → Type 0) (n : ℕ) (stop : Stop)
    (old new : GatheredState) : Type 0 where
  pub at : ℕ
  pub within : at < n
  pub mid : GatheredState
  pub done : InTurn Does at old mid
  pub stops : Stops at stop mid new

abbrev pub DeskStops : ℕ → ℕ → Stop → GatheredState → GatheredState → Type 0
DeskStops n e stop old new = StopsInTurn (LaneComes e) (LaneStops e) n stop old new

abbrev pub PassStops : ℕ → Stop → GatheredState → GatheredState → Type 0
PassStops n stop old new = StopsInTurn (DeskComes n) (DeskStops n) n stop old new

-- some whole passes, and then one that stops
pub record PassesStop (n : ℕ) (stop : Stop) (old new : GatheredState) : Type 0 where
  pub count : ℕ
  pub mid : GatheredState
  pub done : Passes n count old mid
  pub stops : PassStops n stop mid new

-- all passes came to their end and nothing is left over, and there was no memory for what the quiet node tells
pub record TellsNothing (n : ℕ) (stop : Stop) (old new : GatheredState) : Type 0 where
  pub memory : stop ≡ Memory
  pub count : ℕ
  pub done : Passes n count old new
  pub nothing_left : NothingLeft new

-- a receipt was refused, or what comes after the last one
abbrev pub SettlingStops : ℕ → Stop → GatheredState → GatheredState → Type 0
SettlingStops n stop old new = PassesStop n stop old new ⊎ TellsNothing n stop old new
