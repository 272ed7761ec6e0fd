-- The settings of a node, as `desks=2`.
use Rattle.std.specs.Prelude.{ℕ, ◌+◌, ◌==◌, List, [], ◌∷◌, take, drop, position, Option, Some, None, Result, Ok, codes}
use Rattle.std.specs.Prelude.{if◌then◌else◌}
use Rattle.std.specs.Str.{bytes_eq}
use Rattle.pt_signal.specs.declared.config.Config.{Config}
use Rattle.pt_shell.specs.declared.lines.mistake.Mistake.{Mistake}
use Rattle.pt_shell.specs.declared.lines.mistake.Why.TheVariants.{NoSetting}
use Rattle.pt_shell.specs.Words.{Told}
use Rattle.pt_shell.specs.Values.{◌>>=◌, mistake, u8_of, u32_of, u64_of}

-- the settings with the one of this name, by the word of its number
abbrev pub with_named : Config → List ℕ → Told → Result Config Mistake
with_named config name w =
    if bytes_eq name (codes "desks")
    then (u8_of w >>= λ n. Ok (record config { desks = n }))
    else (if bytes_eq name (codes "slots")
    then (u32_of w >>= λ n. Ok (record config { slots = n }))
    else (if bytes_eq name (codes "top_version")
    then (u32_of w >>= λ n. Ok (record config { top_version = n }))
    else (if bytes_eq name (codes "lane")
    then (u32_of w >>= λ n. Ok (record config { lane = n }))
    else (if bytes_eq name (codes "start")
    then (u64_of w >>= λ n. Ok (record config { start = n }))
    else mistake w.0 NoSetting))))

-- what stands before the sign is the name, and what stands behind it the number
abbrev pub with_parts : Option ℕ → Config → Told → Result Config Mistake
with_parts None config w = mistake w.0 NoSetting
with_parts (Some sign) config w = with_named config (take sign w.1) (w.0, drop (sign + 1) w.1)

abbrev pub with_setting : Config → Told → Result Config Mistake
with_setting config w = with_parts (position (λ c. c == 61) w.1) config w

-- the settings with those that the words name, in order
abbrev pub with_settings : Config → List Told → Result Config Mistake
with_settings config [] = Ok config
with_settings config (w ∷ words) = with_setting config w >>= λ c. with_settings c words
