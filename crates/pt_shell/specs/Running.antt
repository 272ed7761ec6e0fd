-- What a run over the lines of a reader writes.
use Rattle.std.specs.Prelude.{◌≡◌, ◌≢◌, ℕ, zero, suc, Bool, true, false, List, [], ◌++◌, codes, Option, Some, None}
use Rattle.std.specs.Prelude.{Result, Ok, Err}
use Rattle.std.specs.Io.KnownBytes.{Appends}
use Rattle.std.specs.Io.BufRead.{take_through, drop_through, strip_last}
use Rattle.pt_signal.specs.declared.config.Config.{Config}
use Rattle.pt_shell.specs.declared.complaint.Complaint.{Complaint}
use Rattle.pt_shell.specs.declared.phase.Phase.{Phase}
use Rattle.pt_shell.specs.declared.session.Heard.{Heard}
use Rattle.pt_shell.specs.Sessions.{SessionState, SessionHears, is_comparing}

-- a session without a node
abbrev pub fresh_session : SessionState
fresh_session = record { phase = Phase.Closed; earlier = []; names = []; answer = []; compared = 0 }

-- what is written of a line: its answer, if there is one
abbrev pub written_answer : Result Heard Complaint → SessionState → List ℕ
written_answer (Ok Heard.Answered) new = new.answer
written_answer (Ok Heard.Silent) new = []
written_answer (Err complaint) new = []

-- before a line is read from a person
abbrev pub prompted : Bool → List ℕ
prompted true = codes "> "
prompted false = []

-- with a person a run goes on behind any line, else behind one that was done
abbrev pub SessionGoesOn : Bool → Result Heard Complaint → Type 0
SessionGoesOn is_person (Ok heard) = Unit {0}
SessionGoesOn true (Err complaint) = Unit {0}
SessionGoesOn false (Err complaint) = ⊥

-- the first line of the text is heard, and this is written
pub record PassesLine (is_person : Bool) (defaults : Config) (text : List ℕ) (old : SessionState) (wrote : List ℕ)
    (new : SessionState) : Type 0 where
  pub heard : Result Heard Complaint
  pub memory : heard ≢ Err Complaint.Memory
  pub hears : SessionHears defaults (strip_last 10 (take_through 10 text)) old heard new
  pub goes_on : SessionGoesOn is_person heard
  pub wrote_is : wrote ≡ prompted is_person ++ written_answer heard new

-- So many lines were heard, from the first on: the text is left behind them, and what was written is what each of them
-- wrote, in order.
abbrev pub SessionRuns : Bool → Config → ℕ → List ℕ → SessionState → List ℕ → List ℕ → SessionState → Type 0
SessionRuns is_person defaults zero text old wrote left new = (wrote ≡ []) × (left ≡ text) × (new ≡ old)
SessionRuns is_person defaults (suc n) text old wrote left new =
    (before : List ℕ) × (rest : List ℕ) × (mid : SessionState) × (last : List ℕ)
    × SessionRuns is_person defaults n text old before rest mid × PassesLine is_person defaults rest mid last new
    × (left ≡ drop_through 10 rest) × (wrote ≡ before ++ last)

-- the run of a text so far, where the text and what a writer holds are known
abbrev pub HasRun : Bool → Config → Option (List ℕ) → Option (List ℕ) → SessionState → Option (List ℕ)
    → Option (List ℕ) → SessionState → Type 0
HasRun p d None left old w0 w1 new = Unit {0}
HasRun p d (Some text) None old w0 w1 new = ⊥
HasRun p d (Some text) (Some left) old w0 w1 new =
    (n : ℕ) × (wrote : List ℕ) × SessionRuns p d n text old wrote left new × Appends w0 w1 wrote

-- All lines of the text were heard, and no line of an answer is left that is to be compared.
abbrev pub HasRunAll : Bool → Config → Option (List ℕ) → SessionState → Option (List ℕ) → Option (List ℕ) → Type 0
HasRunAll p d None old w0 w1 = Unit {0}
HasRunAll p d (Some text) old w0 w1 =
    (n : ℕ) × (wrote : List ℕ) × (new : SessionState) × SessionRuns p d n text old wrote [] new
    × Appends w0 w1 (wrote ++ prompted p) × (is_comparing new ≡ false)

-- a line was read, or there is none
abbrev pub ReadsLine : Bool → Option (List ℕ) → Option (List ℕ) → List ℕ → Type 0
ReadsLine more None left line = Unit {0}
ReadsLine true (Some text) None line = ⊥
ReadsLine true (Some text) (Some left) line = (line ≡ take_through 10 text) × (left ≡ drop_through 10 text)
ReadsLine false (Some text) left line = text ≡ []

-- a line was heard
pub record HearsLine (is_person : Bool) (defaults : Config) (line : List ℕ) (old : SessionState)
    (w0 w1 : Option (List ℕ)) (new : SessionState) : Type 0 where
  pub heard : Result Heard Complaint
  pub memory : heard ≢ Err Complaint.Memory
  pub hears : SessionHears defaults line old heard new
  pub goes_on : SessionGoesOn is_person heard
  pub appends : Appends w0 w1 (written_answer heard new)

-- one line more, or there is none
abbrev pub SessionSteps : Bool → Config → Bool → Option (List ℕ) → Option (List ℕ) → SessionState → Option (List ℕ)
    → Option (List ℕ) → SessionState → Type 0
SessionSteps p d more None left old w0 w1 new = Unit {0}
SessionSteps p d true (Some text) None old w0 w1 new = ⊥
SessionSteps p d true (Some text) (Some left) old w0 w1 new =
    (wrote : List ℕ) × PassesLine p d text old wrote new × (left ≡ drop_through 10 text) × Appends w0 w1 wrote
SessionSteps p d false (Some text) left old w0 w1 new =
    (text ≡ []) × (new ≡ old) × Appends w0 w1 (prompted p) × (is_comparing old ≡ false)
