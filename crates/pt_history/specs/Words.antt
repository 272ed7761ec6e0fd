-- What a process holds, each word in its own terms: what came in, and has not gone since then.
use Rattle.std.specs.Prelude.{◌≡◌, Bool, false, cond, not, ◌&&◌, ◌||◌, ◌↔◌, Option, Some, None, is_some}
use Rattle.std.specs.Prelude.{List, [], ◌∷◌, filter, option_to_list, Contains}
use Rattle.std.specs.Map.{keys_of}
use Rattle.std.specs.Option.{option_or}
use Rattle.pt_signal.specs.declared.pid.Pid.{Pid}
use Rattle.pt_signal.specs.declared.ids.Ref.{Ref}
use Rattle.pt_signal.specs.declared.signal.Signal.{Signal}
use Rattle.pt_signal.specs.declared.signal.Signal.TheVariants.{Monitor, Demonitor}
use Rattle.pt_events.specs.declared.event.Event.{Event}
use Rattle.pt_events.specs.declared.event.Event.TheVariants.{Born, Said, Came, Flag}
use Rattle.pt_signal.specs.Values.{same_pid, same_ref}
use Rattle.pt_signal.specs.Process.{or_else, held}
use Rattle.pt_events.specs.History.{Past, Start, Phase, open_monitors, at_start, life, after, state, state_of}
use Rattle.pt_laws.specs.Acts.{ActsMayCome}
use Rattle.pt_laws.specs.BirthsAndEnds.{ends_with}
use Rattle.pt_laws.specs.Since.{standing, StandsSince}
use Rattle.pt_laws.specs.MonitorLaws.{IsMadeOnce}
use Rattle.pt_laws.specs.Words.{HasOneEntryEach}

-- In these words f is what the process is just before the event.

-- the trap flag ------------------------------------------------------------------------------------

abbrev pub flag_of : Pid → Event → Option Bool
flag_of p (Flag q on) = cond (same_pid p q) (Some on) None
flag_of p _ = None

-- the value of the last Flag of p
abbrev pub last_flag : Past → Pid → Option Bool
last_flag [] p = None
last_flag (e ∷ past) p = option_or (flag_of p e) (last_flag past p)

-- the flag is the last one that was set; where none was, it is off, or as it was at the start
abbrev pub TrapIsLastFlag : Type 0
TrapIsLastFlag =
    (start : Start) (past : Past) (p : Pid) → ActsMayCome start past
    → (state start past p).traps ≡ or_else (last_flag past p) (state start [] p).traps

-- peers --------------------------------------------------------------------------------------------

-- the processes that p is linked with
abbrev pub peers : Phase → List Pid
peers f = keys_of (state_of f).links

abbrev pub holds_with : Phase → Pid → Bool
holds_with f q = is_some (held (state_of f).links q)

-- the one whom the event may link with p
abbrev pub partner : Pid → Event → Option Pid
partner p (Born c (Some a) link) = cond (same_pid p c) (Some a) (cond (same_pid p a) (Some c) None)
partner p (Said a b x) = cond (same_pid p a) (Some b) None
partner p (Came a b x) = cond (same_pid p b) (Some a) None
partner p _ = None

-- p holds no id with q before the event, and one after it
abbrev pub peer_begins : Pid → Phase → Event → List Pid
peer_begins p f e = filter (λ q. not (holds_with f q) && holds_with (after p e f) q) (option_to_list (partner p e))

-- p holds no id with q after the event
abbrev pub peer_ends : Pid → Phase → Event → Pid → Bool
peer_ends p f e q = not (holds_with (after p e f) q)

-- the peers of p stand in the order of the events at which p came to hold an id with them
abbrev pub PeersSince : Type 0
PeersSince =
    (start : Start) (past : Past) (p : Pid) → HasOneEntryEach start
    → peers (life start past p)
    ≡ standing (peers (at_start start p)) (λ before. peer_begins p (life start before p))
    (λ before. peer_ends p (life start before p)) past

-- open monitors ------------------------------------------------------------------------------------

abbrev pub monitor_opens : Pid → Event → List (Ref × Pid)
monitor_opens w (Said a t (Monitor m)) = cond (same_pid w a) ((m, t) ∷ []) []
monitor_opens w _ = []

-- w said Demonitor, or a Down of the reference came to it
abbrev pub monitor_answered : Pid → Event → Ref × Pid → Bool
monitor_answered w (Said a b (Demonitor n)) k = same_pid w a && same_ref n k.0
monitor_answered w (Came a b (Signal.Down n r)) k = same_pid w b && same_ref n k.0
monitor_answered w _ k = false

-- or w ended
abbrev pub monitor_closes : Pid → Phase → Event → Ref × Pid → Bool
monitor_closes w f e k = monitor_answered w e k || is_some (ends_with w f e)

-- the open monitors of w, in order of making, are those that it made and that were not closed since
abbrev pub OpenSince : Type 0
OpenSince =
    (start : Start) (past : Past) (w : Pid) → ActsMayCome start past → ((m : Ref) → IsMadeOnce start past w m)
    → open_monitors (life start past w)
    ≡ standing (open_monitors (at_start start w)) (λ before. monitor_opens w)
    (λ before. monitor_closes w (life start before w)) past

abbrev pub IsOpenSince : Type 0
IsOpenSince =
    (start : Start) (past : Past) (w t : Pid) (m : Ref) → ActsMayCome start past
    → ((n : Ref) → IsMadeOnce start past w n)
    → Contains (open_monitors (life start past w)) (m, t)
    ↔ StandsSince (open_monitors (at_start start w)) (λ before. monitor_opens w)
    (λ before. monitor_closes w (life start before w)) past (m, t)
