-- The settings of a script's node.
use Rattle.pt_signal.specs.declared.config.Config.{Config}
use Rattle.pt_script.specs.declared.values.Settings.{Settings}

-- those of the script, and clocks that begin at 0
abbrev pub config_of : Settings → Config
config_of s = record { desks = s.desks; slots = s.slots; top_version = s.top_version; lane = s.lane; start = 0 }
