-- The call that a name and the words behind it ask for.
use Rattle.std.specs.Prelude.{ℕ, List, [], ◌∷◌, Option, Some, None, Result, Ok, codes}
use Rattle.std.specs.Prelude.{if◌then◌else◌}
use Rattle.std.specs.Str.{bytes_eq}
use Rattle.pt_signal.specs.declared.pid.Pid.{Pid}
use Rattle.pt_signal.specs.declared.config.Config.{Config}
use Rattle.pt_shell.specs.declared.lines.call.Call.{Call}
use Rattle.pt_shell.specs.declared.lines.call.Act.{Act}
use Rattle.pt_shell.specs.declared.lines.call.Look.{Look}
use Rattle.pt_shell.specs.declared.lines.verb.Verb.{Verb}
use Rattle.pt_shell.specs.declared.lines.verb.DeskVerb.{DeskVerb}
use Rattle.pt_shell.specs.declared.lines.verb.ProcessVerb.{ProcessVerb}
use Rattle.pt_shell.specs.declared.lines.verb.PairVerb.{PairVerb}
use Rattle.pt_shell.specs.declared.lines.verb.LookVerb.{LookVerb}
use Rattle.pt_shell.specs.declared.lines.verb.Usage.{Usage}
use Rattle.pt_shell.specs.declared.lines.mistake.Mistake.{Mistake}
use Rattle.pt_shell.specs.Words.{Told}
use Rattle.pt_shell.specs.Names.{Named}
use Rattle.pt_shell.specs.Values.{◌>>=◌, pid_read, ref_of, reason_read, truth_of, u8_of, u32_of, u64_of}
use Rattle.pt_shell.specs.Settings.{with_settings}
use Rattle.pt_shell.specs.Arguments.{of_none, of_one, of_two, of_three, message_read, pid_and_pick}

-- the names of the calls
unfoldable pub verbs : List (List ℕ × Verb)
verbs =
    (codes "open", Verb.Open)
    ∷ (codes "spawn", Verb.Desk DeskVerb.Spawn)
    ∷ (codes "spawn_child", Verb.Process ProcessVerb.SpawnChild)
    ∷ (codes "send", Verb.Process ProcessVerb.Send)
    ∷ (codes "exit_signal", Verb.Process ProcessVerb.ExitSignal)
    ∷ (codes "link", Verb.Pair PairVerb.Link)
    ∷ (codes "unlink", Verb.Pair PairVerb.Unlink)
    ∷ (codes "trap", Verb.Process ProcessVerb.Trap)
    ∷ (codes "exit", Verb.Process ProcessVerb.Exit)
    ∷ (codes "monitor", Verb.Pair PairVerb.Monitor)
    ∷ (codes "demonitor", Verb.Process ProcessVerb.Demonitor)
    ∷ (codes "ask_alive", Verb.Pair PairVerb.AskAlive)
    ∷ (codes "receive", Verb.Process ProcessVerb.Receive)
    ∷ (codes "turn", Verb.Desk DeskVerb.Turn)
    ∷ (codes "turn_all", Verb.Desk DeskVerb.TurnAll)
    ∷ (codes "turn_until_still", Verb.Desk DeskVerb.TurnUntilStill)
    ∷ (codes "clock", Verb.Desk DeskVerb.Clock)
    ∷ (codes "pending", Verb.Desk DeskVerb.Pending)
    ∷ (codes "journal", Verb.Desk DeskVerb.Journal)
    ∷ (codes "event", Verb.Desk DeskVerb.Event)
    ∷ (codes "events", Verb.Bare (Call.Look Look.Events))
    ∷ (codes "vacant", Verb.Desk DeskVerb.Vacant)
    ∷ (codes "alive", Verb.Look LookVerb.Alive)
    ∷ (codes "knows", Verb.Desk DeskVerb.Knows)
    ∷ (codes "waiting", Verb.Look LookVerb.Waiting)
    ∷ (codes "linked", Verb.Look LookVerb.Linked)
    ∷ (codes "watching", Verb.Look LookVerb.Watching)
    ∷ (codes "kept", Verb.Look LookVerb.Kept)
    ∷ (codes "gather", Verb.Bare Call.Gather)
    ∷ (codes "left_over", Verb.Bare (Call.Look Look.LeftOver))
    ∷ (codes "history", Verb.Bare (Call.Look Look.History))
    ∷ (codes "judge", Verb.Bare (Call.Look Look.Judge))
    ∷ (codes "settle", Verb.Bare Call.Settle)
    ∷ (codes "pids", Verb.Bare (Call.Look Look.Pids))
    ∷ (codes "account", Verb.Look LookVerb.Account)
    ∷ (codes "ended", Verb.Look LookVerb.Ended)
    ∷ (codes "resume", Verb.Bare Call.Resume)
    ∷ []

abbrev pub first_named : List (List ℕ × Verb) → List ℕ → Option Verb
first_named [] word = None
first_named (v ∷ verbs) word = if bytes_eq v.0 word then Some v.1 else first_named verbs word

-- the call of this name
unfoldable pub verb_of : List ℕ → Option Verb
verb_of word = first_named verbs word

-- a row of the table
abbrev pub named_row : Usage → List ℕ × Verb
named_row u = (u.name.now, u.verb)

abbrev pub call_of_desk : Named → DeskVerb → List Told → ℕ → Result Call Mistake
call_of_desk names DeskVerb.Spawn words end = of_one words end u8_of >>= λ d. Ok (Call.Act (Act.Spawn d))
call_of_desk names DeskVerb.Turn words end =
    of_two words end u8_of u32_of >>= λ x. Ok (Call.Act (Act.Turn x.0 x.1))
call_of_desk names DeskVerb.TurnAll words end = of_one words end u32_of >>= λ n. Ok (Call.Act (Act.TurnAll n))
call_of_desk names DeskVerb.TurnUntilStill words end =
    of_one words end u32_of >>= λ n. Ok (Call.Act (Act.TurnUntilStill n))
call_of_desk names DeskVerb.Clock words end = of_one words end u8_of >>= λ d. Ok (Call.Look (Look.Clock d))
call_of_desk names DeskVerb.Pending words end = of_one words end u8_of >>= λ d. Ok (Call.Look (Look.Pending d))
call_of_desk names DeskVerb.Journal words end = of_one words end u8_of >>= λ d. Ok (Call.Look (Look.Journal d))
call_of_desk names DeskVerb.Event words end =
    of_two words end u8_of u64_of >>= λ x. Ok (Call.Look (Look.Event x.0 x.1))
call_of_desk names DeskVerb.Vacant words end = of_one words end u8_of >>= λ d. Ok (Call.Look (Look.Vacant d))
call_of_desk names DeskVerb.Knows words end =
    of_two words end u8_of (pid_read names) >>= λ x. Ok (Call.Look (Look.Knows x.0 x.1))

abbrev pub act_of_process : Named → ProcessVerb → List Told → ℕ → Result Act Mistake
act_of_process names ProcessVerb.SpawnChild words end =
    of_two words end (pid_read names) truth_of >>= λ x. Ok (Act.SpawnChild x.0 x.1)
act_of_process names ProcessVerb.Send words end = message_read names words end >>= λ x. Ok (Act.Send x.0 x.1 x.2)
act_of_process names ProcessVerb.ExitSignal words end =
    of_three words end (pid_read names) (pid_read names) reason_read >>= λ x. Ok (Act.ExitSignal x.0 x.1 x.2)
act_of_process names ProcessVerb.Trap words end =
    of_two words end (pid_read names) truth_of >>= λ x. Ok (Act.Trap x.0 x.1)
act_of_process names ProcessVerb.Exit words end =
    of_two words end (pid_read names) reason_read >>= λ x. Ok (Act.Exit x.0 x.1)
act_of_process names ProcessVerb.Demonitor words end =
    of_three words end (pid_read names) (ref_of names) truth_of >>= λ x. Ok (Act.Demonitor x.0 x.1 x.2)
act_of_process names ProcessVerb.Receive words end =
    pid_and_pick names words end >>= λ x. Ok (Act.Receive x.0 x.1)

-- the call of one process that names another
abbrev pub pair_act : PairVerb → Pid × Pid → Act
pair_act PairVerb.Link x = Act.Link x.0 x.1
pair_act PairVerb.Unlink x = Act.Unlink x.0 x.1
pair_act PairVerb.Monitor x = Act.Monitor x.0 x.1
pair_act PairVerb.AskAlive x = Act.AskAlive x.0 x.1

abbrev pub act_of_pair : Named → PairVerb → List Told → ℕ → Result Act Mistake
act_of_pair names verb words end =
    of_two words end (pid_read names) (pid_read names) >>= λ x. Ok (pair_act verb x)

abbrev pub look_at_process : Named → LookVerb → List Told → ℕ → Result Look Mistake
look_at_process names LookVerb.Alive words end = of_one words end (pid_read names) >>= λ p. Ok (Look.Alive p)
look_at_process names LookVerb.Waiting words end = of_one words end (pid_read names) >>= λ p. Ok (Look.Waiting p)
look_at_process names LookVerb.Linked words end =
    of_two words end (pid_read names) (pid_read names) >>= λ x. Ok (Look.Linked x.0 x.1)
look_at_process names LookVerb.Watching words end =
    of_two words end (pid_read names) (ref_of names) >>= λ x. Ok (Look.Watching x.0 x.1)
look_at_process names LookVerb.Kept words end =
    of_two words end (pid_read names) (ref_of names) >>= λ x. Ok (Look.Kept x.0 x.1)
look_at_process names LookVerb.Account words end = of_one words end (pid_read names) >>= λ p. Ok (Look.Account p)
look_at_process names LookVerb.Ended words end = of_one words end (pid_read names) >>= λ p. Ok (Look.Ended p)

-- the call, where the words are those that it takes; the settings that are not named are the defaults
abbrev pub call_of : Config → Named → Verb → List Told → ℕ → Result Call Mistake
call_of defaults names Verb.Open words end = with_settings defaults words >>= λ c. Ok (Call.Open c)
call_of defaults names (Verb.Bare call) words end = of_none words end (Ok call)
call_of defaults names (Verb.Desk verb) words end = call_of_desk names verb words end
call_of defaults names (Verb.Process verb) words end = act_of_process names verb words end >>= λ a. Ok (Call.Act a)
call_of defaults names (Verb.Pair verb) words end = act_of_pair names verb words end >>= λ a. Ok (Call.Act a)
call_of defaults names (Verb.Look verb) words end = look_at_process names verb words end >>= λ l. Ok (Call.Look l)
