-- What came of a line.
use Rattle.std.specs.Prelude.{◌≡◌, ℕ, ◌+◌, ◌-◌, ◌^◌, ◌<◌, ◌≤◌, nat_lt, Bool, true, false, ◌&&◌, ◌==◌, min, length, drop}
use Rattle.std.specs.Prelude.{List, [], ◌∷◌, ◌++◌, Option, Some, None, Result, Ok, Err, if◌then◌else◌, string_bytes}
use Rattle.std.specs.Bool.{MatchBool}
use Rattle.std.specs.Str.{bytes_eq}
use Rattle.pt_events.specs.declared.event.Event.{Event}
use Rattle.pt_signal.specs.declared.config.Config.{Config}
use Rattle.pt_desk.specs.DeskState.{DeskState}
use Rattle.pt_shell.specs.Names.{Named}
use Rattle.pt_shell.specs.Words.{Told, joined_words, words_in}
use Rattle.pt_shell.specs.Commands.{Asked, Nothing, Help, Expect, Makes, asked}
use Rattle.pt_shell.specs.declared.lines.names.Value.{Value}
use Rattle.pt_shell.specs.declared.lines.mistake.Mistake.{Mistake}
use Rattle.pt_shell.specs.declared.lines.call.Call.{Call}
use Rattle.pt_shell.specs.declared.lines.call.Look.{Look}
use Rattle.pt_shell.specs.declared.answer.Answer.{Answer}
use Rattle.pt_shell.specs.declared.phase.Phase.{Phase}
use Rattle.pt_shell.specs.declared.complaint.Complaint.{Complaint}
use Rattle.pt_shell.specs.declared.complaint.State.{State}
use Rattle.pt_shell.specs.declared.session.Heard.{Heard}
use Rattle.pt_shell.specs.declared.session.Session.{Session}
use Rattle.pt_shell.specs.Acting.{DoesAct}
use Rattle.pt_shell.specs.Looking.{LooksAtNode, IsNotNow}
use Rattle.pt_shell.specs.LookingBack.{LooksAtGathered, LooksAtQuiet, IfTold}
use Rattle.pt_shell.specs.Stepping.{IfRunning, OpensPhase, GathersPhase, SettlesPhase, ResumesPhase}
use Rattle.pt_shell.specs.Text.{answer_text}

-- what a session has
pub record SessionState : Type 0 where
  pub phase : Phase
  -- the events of the epochs before
  pub earlier : List Event
  pub names : Named
  -- the last answer, and how many of its bytes were compared
  pub answer : List ℕ
  pub compared : ℕ

abbrev pub seen_session : Session → SessionState
seen_session s = record {
  phase = s.phase;
  earlier = s.earlier.items;
  names = s.names;
  answer = string_bytes s.answer;
  compared = s.compared;
}

-- a look, by the state of the node
abbrev pub LookGives : Look → Phase → List Event → Option Answer → Type 0
LookGives look Phase.Closed earlier a = IsNotNow a
LookGives look (Phase.Running desks) earlier a = LooksAtNode look desks a
LookGives look (Phase.Gathered g) earlier a = LooksAtGathered look g earlier a
LookGives look (Phase.Settled q) earlier a = LooksAtQuiet look q earlier a

-- a call that changes a node, where it runs
abbrev pub ActsOn : Phase → (List DeskState → Answer → List DeskState → Type 0) → Option Answer → Phase → Type 0
ActsOn (Phase.Running old) Does (Some a) new = IfRunning new (λ desks. Does old a desks)
ActsOn (Phase.Running old) Does None new = ⊥
ActsOn old Does a new = IsNotNow a × (new ≡ old)

-- what a call answers, and what it leaves; where the state of the node does not allow it there is no answer
abbrev pub CallsOn : Call → Phase → List Event → Option Answer → Phase → List Event → Type 0
CallsOn (Call.Open config) old before a new after = IfTold a (λ x. OpensPhase config old before x new after)
CallsOn (Call.Act act) old before a new after = ActsOn old (DoesAct act) a new × (after ≡ before)
CallsOn (Call.Look look) old before a new after = LookGives look old before a × (new ≡ old) × (after ≡ before)
CallsOn Call.Gather old before a new after = GathersPhase old a new × (after ≡ before)
CallsOn Call.Settle old before a new after = SettlesPhase old a new × (after ≡ before)
CallsOn Call.Resume old before a new after = ResumesPhase old before a new after

abbrev pub phase_state : Phase → State
phase_state Phase.Closed = State.Closed
phase_state (Phase.Running desks) = State.Running
phase_state (Phase.Gathered g) = State.Gathered
phase_state (Phase.Settled q) = State.Settled

-- the pid or the reference that was answered
abbrev pub value_in : Answer → Option Value
value_in (Answer.Made (Ok p)) = Some (Value.Pid p)
value_in (Answer.Named (Ok m)) = Some (Value.Ref m)
value_in (Answer.Pid (Some p)) = Some (Value.Pid p)
value_in _ = None

abbrev pub given_name : Option (List ℕ) → Option Value → Named → Named
given_name None value names = names
given_name (Some name) None names = names
given_name (Some name) (Some value) names = names ++ (name, value) ∷ []

-- the answer is kept, and named; or there was no memory for it
abbrev pub KeepsAnswer : Option (List ℕ) → Answer → SessionState → Result Heard Complaint → SessionState → Type 0
KeepsAnswer name a old (Ok Heard.Answered) new =
    new ≡ record old { names = given_name name (value_in a) old.names; answer = answer_text a; compared = 0 }
KeepsAnswer name a old (Err Complaint.Memory) new = Unit {0}
KeepsAnswer name a old _ new = ⊥

-- what is told of a call that was made
abbrev pub TellsCall : Option (List ℕ) → ℕ → Option Answer → SessionState → Result Heard Complaint → SessionState
    → Type 0
TellsCall name column None old r new = (r ≡ Err (Complaint.NotNow column (phase_state old.phase))) × (new ≡ old)
TellsCall name column (Some a) old r new = KeepsAnswer name a old r new

-- the call is made, and told
abbrev pub MakesCall : Option (List ℕ) → ℕ → Call → SessionState → Result Heard Complaint → SessionState → Type 0
MakesCall name column call old r new =
    (a : Option Answer) × (phase : Phase) × (earlier : List Event) × CallsOn call old.phase old.earlier a phase earlier
    × TellsCall name column a (record old { phase = phase; earlier = earlier }) r new

-- some lines of the last answer were compared, and some were not
abbrev pub is_comparing : SessionState → Bool
is_comparing s = nat_lt 0 s.compared && nat_lt s.compared (length s.answer)

-- what stands before the first line feed
abbrev pub line_in : List ℕ → List ℕ
line_in [] = []
line_in (c ∷ text) = if c == 10 then [] else c ∷ line_in text

-- the next line of the last answer
abbrev pub next_line : SessionState → List ℕ
next_line s = line_in (drop s.compared s.answer)

-- the next line is those words, and is compared; or it is not, or there is none
abbrev pub Compares : List Told → SessionState → Result Heard Complaint → SessionState → Type 0
Compares wanted old (Ok Heard.Silent) new =
    (old.compared < length old.answer) × (bytes_eq (joined_words wanted) (next_line old) ≡ true)
    × (new ≡ record old {
      compared = min (min (old.compared + length (next_line old)) (2 ^ 64 - 1) + 1) (2 ^ 64 - 1);
    })
Compares wanted old (Err Complaint.Unexpected) new =
    (old.compared < length old.answer) × (bytes_eq (joined_words wanted) (next_line old) ≡ false) × (new ≡ old)
Compares wanted old (Err Complaint.NothingLeft) new = (length old.answer ≤ old.compared) × (new ≡ old)
Compares wanted old (Err Complaint.Memory) new = new ≡ old
Compares wanted old _ new = ⊥

-- the calls are told as an answer
abbrev pub Helps : SessionState → Result Heard Complaint → SessionState → Type 0
Helps old (Ok Heard.Answered) new = new ≡ record old { answer = new.answer; compared = 0 }
Helps old (Err Complaint.Memory) new = new ≡ old
Helps old _ new = ⊥

-- where lines are left to be compared, nothing is done
abbrev pub UnlessComparing : SessionState → Result Heard Complaint → SessionState → Type 0 → Type 0
UnlessComparing old r new P = MatchBool (is_comparing old) ((r ≡ Err Complaint.LinesLeft) × (new ≡ old)) P

-- what came of what was asked
abbrev pub FollowsAsked : Asked → SessionState → Result Heard Complaint → SessionState → Type 0
FollowsAsked Nothing old r new = (r ≡ Ok Heard.Silent) × (new ≡ old)
FollowsAsked Help old r new = UnlessComparing old r new (Helps old r new)
FollowsAsked (Expect wanted) old r new = Compares wanted old r new
FollowsAsked (Makes name column call) old r new = UnlessComparing old r new (MakesCall name column call old r new)

abbrev pub FollowsIf : Result Asked Mistake → SessionState → Result Heard Complaint → SessionState → Type 0
FollowsIf (Ok a) old r new = FollowsAsked a old r new
FollowsIf (Err m) old r new = (r ≡ Err (Complaint.Mistake m)) × (new ≡ old)

-- what came of a line
abbrev pub SessionHears : Config → List ℕ → SessionState → Result Heard Complaint → SessionState → Type 0
SessionHears defaults line old r new =
    FollowsIf (asked defaults old.names (words_in line) (min (length line + 1) (2 ^ 64 - 1))) old r new
