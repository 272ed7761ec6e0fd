-- The settings of a node: when all are in their ranges, and which is the first that is not.
use Rattle.std.specs.Prelude.{◌≤◌}
use Rattle.pt_signal.specs.declared.config.Config.{Config}
use Rattle.pt_signal.specs.declared.config.Setting.{Setting}
use Rattle.pt_signal.specs.declared.config.Setting.TheVariants.{Desks, Slots, TopVersion, Lane, Start}
use Rattle.pt_signal.specs.declared.config.TheConstants.{MAX_DESKS, MAX_LANE, MAX_SLOTS, MAX_STAMP}

-- every setting is in its range
pub record IsInRange (c : Config) : Type 0 where
  pub some_desks : 1 ≤ c.desks
  pub desks : c.desks ≤ MAX_DESKS
  pub some_slots : 1 ≤ c.slots
  pub slots : c.slots ≤ MAX_SLOTS
  pub top_version : 1 ≤ c.top_version
  pub some_lane : 1 ≤ c.lane
  pub lane : c.lane ≤ MAX_LANE
  pub start : c.start ≤ MAX_STAMP

-- one setting is in its range
abbrev pub HasRange : Config → Setting → Type 0
HasRange c Desks = (1 ≤ c.desks) × (c.desks ≤ MAX_DESKS)
HasRange c Slots = (1 ≤ c.slots) × (c.slots ≤ MAX_SLOTS)
HasRange c TopVersion = 1 ≤ c.top_version
HasRange c Lane = (1 ≤ c.lane) × (c.lane ≤ MAX_LANE)
HasRange c Start = c.start ≤ MAX_STAMP

-- a setting is out of its range, and each before it is in its own
abbrev pub IsFirstOut : Config → Setting → Type 0
IsFirstOut c Desks = ¬ HasRange c Desks
IsFirstOut c Slots = HasRange c Desks × (¬ HasRange c Slots)
IsFirstOut c TopVersion = HasRange c Desks × HasRange c Slots × (¬ HasRange c TopVersion)
IsFirstOut c Lane = HasRange c Desks × HasRange c Slots × HasRange c TopVersion × (¬ HasRange c Lane)
IsFirstOut c Start =
    HasRange c Desks × HasRange c Slots × HasRange c TopVersion × HasRange c Lane × (¬ HasRange c Start)
