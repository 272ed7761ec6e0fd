-- A reader for each kind of value.
use Rattle.std.specs.Prelude.{Bool, true, false, [], ◌∷◌, codes, Option}
use Rattle.pt_signal.specs.declared.pid.Pid.{Pid}
use Rattle.pt_signal.specs.declared.ids.Ref.{Ref}
use Rattle.pt_signal.specs.declared.ids.LinkId.{LinkId}
use Rattle.pt_signal.specs.declared.ids.Ids.{Ids}
use Rattle.pt_signal.specs.declared.item.Body.{Body}
use Rattle.pt_signal.specs.declared.reason.Reason.{Reason}
use Rattle.pt_signal.specs.declared.reason.Reason.TheVariants.{Normal, Kill, Killed, Noproc, Shutdown, Other}
use Rattle.pt_signal.specs.declared.item.Pick.{Pick}
use Rattle.pt_signal.specs.declared.item.Item.{Item}
use Rattle.pt_signal.specs.declared.item.Item.TheVariants.{User}
use Rattle.pt_signal.specs.declared.signal.Signal.{Signal}
use Rattle.pt_signal.specs.declared.signal.Signal.TheVariants.{Message, Link, Unlink, LinkExit, Monitor, Demonitor}
use Rattle.pt_signal.specs.declared.signal.Signal.TheVariants.{AliveAsk, AliveSay}
use Rattle.pt_signal.specs.declared.letter.Letter.{Letter}
use Rattle.pt_events.specs.declared.event.Event.{Event}
use Rattle.pt_events.specs.declared.event.Event.TheVariants.{Born, Said, Came, Took, Flag, Left, Refused}
use Rattle.pt_events.specs.declared.event.Stamped.{Stamped}
use Rattle.pt_signal.specs.declared.letter.LeftOver.{LeftOver}
use Rattle.pt_texts.specs.declared.records.Record.{Record}
use Rattle.pt_texts.specs.declared.records.Record.TheVariants.{Head, Last, Clock, Seen, Lives, Waits, Linked, Watches}
use Rattle.pt_texts.specs.declared.records.Record.TheVariants.{Watched, Ended, End}
use Rattle.pt_texts.specs.Steps.{Reader, or_reader, none_of_these, given_value, before, closed, pair, mapped, optional}
use Rattle.pt_texts.specs.Numbers.{u8_at, u16_at, u32_at, u64_at, i64_at}

unfoldable pub pid_at : Reader Pid
pid_at = mapped (λ x. record { shard = x.0; slot = x.1.0; version = x.1.1 })
    (before (codes "<")
    (closed (pair u8_at (before (codes ".") (pair u32_at (before (codes ".") u32_at)))) (codes ">")))

unfoldable pub ref_at : Reader Ref
ref_at =
    mapped (λ x. record { desk = x.0; number = x.1 })
    (before (codes "#") (pair u8_at (before (codes ".") u64_at)))

unfoldable pub link_id_at : Reader LinkId
link_id_at =
    mapped (λ x. record { desk = x.0; number = x.1 })
    (before (codes "~") (pair u8_at (before (codes ".") u64_at)))

unfoldable pub ids_at : Reader Ids
ids_at =
    mapped (λ x. record { one = x.0; two = x.1 })
    (pair link_id_at (optional (codes "+") link_id_at))

unfoldable pub body_at : Reader Body
body_at =
    mapped (λ x. record { kind = x.0; num = x.1.0; who = x.1.1 })
    (pair u32_at (before (codes " ") (pair i64_at (optional (codes " who ") pid_at))))

unfoldable pub reason_at : Reader Reason
reason_at =
    or_reader (codes "normal") (given_value Normal)
    (or_reader (codes "killed") (given_value Killed)
    (or_reader (codes "kill") (given_value Kill)
    (or_reader (codes "noproc") (given_value Noproc)
    (or_reader (codes "shutdown") (given_value Shutdown)
    (or_reader (codes "other:") (mapped Other u32_at)
    none_of_these)))))

unfoldable pub yes_or_no_at : Reader Bool
yes_or_no_at = or_reader (codes "yes") (given_value true) (or_reader (codes "no") (given_value false) none_of_these)

unfoldable pub item_at : Reader Item
item_at =
    or_reader (codes "user ") (mapped (λ x. User x.0 x.1) (pair pid_at (before (codes " ") body_at)))
    (or_reader (codes "exit ") (mapped (λ x. Item.Exit x.0 x.1) (pair pid_at (before (codes " ") reason_at)))
    (or_reader (codes "down ")
    (mapped (λ x. Item.Down x.0 x.1.0 x.1.1)
    (pair ref_at (before (codes " ") (pair pid_at (before (codes " ") reason_at)))))
    (or_reader (codes "alive ")
    (mapped (λ x. Item.Alive x.0 x.1.0 x.1.1)
    (pair ref_at (before (codes " ") (pair pid_at (before (codes " ") yes_or_no_at)))))
    none_of_these)))

unfoldable pub pick_at : Reader Pick
pick_at =
    or_reader (codes "any") (given_value Pick.Any)
    (or_reader (codes "kind ") (mapped Pick.Kind u32_at)
    (or_reader (codes "from ") (mapped Pick.From pid_at)
    (or_reader (codes "exit-of ") (mapped Pick.ExitOf pid_at)
    (or_reader (codes "down-of ") (mapped Pick.DownOf ref_at)
    (or_reader (codes "alive-of ") (mapped Pick.AliveOf ref_at)
    none_of_these)))))

-- a signal of a monitor, or of the question whether a process is alive
abbrev pub other_signal_at : Reader Signal
other_signal_at =
    or_reader (codes "monitor ") (mapped Monitor ref_at)
    (or_reader (codes "demonitor ") (mapped Demonitor ref_at)
    (or_reader (codes "down ") (mapped (λ x. Signal.Down x.0 x.1) (pair ref_at (before (codes " ") reason_at)))
    (or_reader (codes "alive-ask ") (mapped AliveAsk ref_at)
    (or_reader (codes "alive-say ") (mapped (λ x. AliveSay x.0 x.1) (pair ref_at (before (codes " ") yes_or_no_at)))
    none_of_these))))

unfoldable pub signal_at : Reader Signal
signal_at =
    or_reader (codes "message ") (mapped Message body_at)
    (or_reader (codes "link ") (mapped Link link_id_at)
    (or_reader (codes "unlink ") (mapped Unlink ids_at)
    (or_reader (codes "exit ") (mapped Signal.Exit reason_at)
    (or_reader (codes "link-exit ") (mapped (λ x. LinkExit x.0 x.1) (pair ids_at (before (codes " ") reason_at)))
    other_signal_at))))

unfoldable pub route_at : Reader (Pid × Pid)
route_at = pair pid_at (before (codes " -> ") pid_at)

unfoldable pub letter_at : Reader Letter
letter_at =
    mapped (λ x. record { from = x.0.0; to = x.0.1; signal = x.1.0; stamp = x.1.1 })
    (pair route_at (before (codes " ") (pair signal_at (before (codes " @") u64_at))))

unfoldable pub switch_at : Reader Bool
switch_at = or_reader (codes "on") (given_value true) (or_reader (codes "off") (given_value false) none_of_these)

abbrev pub parent_at : Reader (Option Pid)
parent_at = optional (codes " by ") pid_at

abbrev pub birth_link_at : Reader (Option LinkId)
birth_link_at = optional (codes " link ") link_id_at

unfoldable pub birth_at : Reader Event
birth_at = mapped (λ x. Born x.0 x.1.0 x.1.1) (pair pid_at (pair parent_at birth_link_at))

-- an event that has no signal and no item
abbrev pub other_event_at : Reader Event
other_event_at =
    or_reader (codes "born ") birth_at
    (or_reader (codes "left ") (mapped (λ x. Left x.0 x.1) (pair pid_at (before (codes " ") reason_at)))
    (or_reader (codes "flag ") (mapped (λ x. Flag x.0 x.1) (pair pid_at (before (codes " ") switch_at)))
    (or_reader (codes "refused ") (mapped (λ x. Refused x.0 x.1) route_at)
    none_of_these)))

unfoldable pub event_at : Reader Event
event_at =
    or_reader (codes "said ") (mapped (λ x. Said x.0.0 x.0.1 x.1) (pair route_at (before (codes " ") signal_at)))
    (or_reader (codes "came ") (mapped (λ x. Came x.0.0 x.0.1 x.1) (pair route_at (before (codes " ") signal_at)))
    (or_reader (codes "took ")
    (mapped (λ x. Took x.0 x.1.0 x.1.1)
    (pair pid_at (before (codes " ") (pair pick_at (before (codes " = ") item_at)))))
    other_event_at))

unfoldable pub stamped_at : Reader Stamped
stamped_at =
    mapped (λ x. record { stamp = x.0; desk = x.1.0; event = x.1.1 })
    (pair u64_at (before (codes "@") (pair u8_at (before (codes " ") event_at))))

unfoldable pub left_over_at : Reader LeftOver
left_over_at =
    mapped (λ x. record { from_desk = x.0; to_desk = x.1.0; letter = x.1.1 })
    (before (codes "left-over ") (pair u8_at (before (codes " -> ") (pair u8_at (before (codes " ") letter_at)))))

-- a line of a state that says what a process holds, or why others ended
abbrev pub holding_at : Reader Record
holding_at =
    or_reader (codes "waits ") (mapped Waits item_at)
    (or_reader (codes "linked ") (mapped (λ x. Linked x.0 x.1) (pair pid_at (before (codes " ") ids_at)))
    (or_reader (codes "watches ") (mapped (λ x. Watches x.0 x.1) (pair ref_at (before (codes " ") pid_at)))
    (or_reader (codes "watched ") (mapped (λ x. Watched x.0 x.1) (pair ref_at (before (codes " ") pid_at)))
    (or_reader (codes "ended ")
    (mapped (λ x. Ended x.0 x.1.0 x.1.1)
    (pair pid_at (before (codes " to ") (pair u32_at (before (codes " ") reason_at)))))
    none_of_these))))

unfoldable pub record_at : Reader Record
record_at =
    or_reader (codes "state of ")
    (mapped (λ x. Head x.0 x.1.0 x.1.1)
    (pair u64_at (before (codes " events on ") (pair u16_at (before (codes " desks begun ") yes_or_no_at)))))
    (or_reader (codes "last ") (mapped Last stamped_at)
    (or_reader (codes "clock ") (mapped (λ x. Clock x.0 x.1) (pair u8_at (before (codes " ") u64_at)))
    (or_reader (codes "seen ") (mapped (λ x. Seen x.0 x.1) (pair u8_at (before (codes " ") pid_at)))
    (or_reader (codes "end ") (mapped End u64_at)
    (or_reader (codes "lives ") (mapped (λ x. Lives x.0 x.1) (pair pid_at (before (codes " traps ") yes_or_no_at)))
    holding_at)))))

-- a line of a state, with its line feed
abbrev pub line_at : Reader Record
line_at = closed record_at (10 ∷ [])
