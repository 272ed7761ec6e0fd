-- What workers do with the desks, and what stays of these.
use Rattle.std.specs.Prelude.{◌≡◌, ℕ, zero, suc, ◌<◌, ◌⊎◌, Bool, true, false, not, MatchBool, List, length, replicate, slice_index_or, slice_set}
use Rattle.pt_desk.specs.DeskState.{DeskState, GoesOn}
use Rattle.pt_desk.specs.Turns.{Turns}
use Rattle.pt_desk.specs.declared.turned.Turned.{Turned}
use Rattle.pt_workers.specs.declared.work.Standing.{Standing}
use Rattle.pt_workers.specs.declared.work.Standing.TheVariants.{Going, Done, Failed}

-- the gate that is always open lets each turn begin
abbrev pub always : ℕ → ℕ → Bool → Type 0
always desk turn begins = begins ≡ true

-- whether a worker's next turn begins, of the number of its desk, its work and the turn
abbrev pub BeginRelation : Type 0 → Type 1
BeginRelation W = ℕ → W → ℕ → Bool → Type 0

-- it does not where the work has ended, and else as the gate says
abbrev pub BeginsAs : Standing → (Bool → Type 0) → Bool → Type 0
BeginsAs Going gate begins = gate begins
BeginsAs Done gate begins = begins ≡ false
BeginsAs Failed gate begins = begins ≡ false

abbrev pub begins_by : {W : Type 0} → (W → Standing) → (ℕ → ℕ → Bool → Type 0) → BeginRelation W
begins_by standing lets desk work turn begins = BeginsAs (standing work) (lets desk turn) begins

-- what a step may do, of a work and its desk before it, and of the two after it
abbrev pub StepRelation : Type 0 → Type 1
StepRelation W = W → DeskState → W → DeskState → Type 0

-- what a work may do that is told of its desk's turn, of the work before it, the desk, what the turn answered and the
-- work after it
abbrev pub HearRelation : Type 0 → Type 1
HearRelation W = W → DeskState → Turned → W → Type 0

-- both that a work does in a turn
abbrev pub WorkRelation : Type 0 → Type 1
WorkRelation W = StepRelation W × HearRelation W

-- a work that does its step alone: what it is told changes nothing
abbrev pub step_alone : {W : Type 0} → StepRelation W → WorkRelation W
step_alone {W} does = (does, λ (old : W) desk turned (new : W). new ≡ old)

-- each desk of the one list is the desk at its place in the other, later
pub record AllGoOn {W : Type 0} (old new : List (DeskState × W)) : Type 0 where
  pub count : length new ≡ length old
  pub each : (d : ℕ) (x : DeskState × W) → d < length old → GoesOn (slice_index_or old d x).0 (slice_index_or new d x).0

-- A turn of a worker: one step of its work, which does what the work says; then one turn of the desk; and then what
-- the work does that is told what this turn answered.
pub record TakesTurn {W : Type 0} (does : WorkRelation W) (budget : ℕ) (old new : DeskState × W) : Type 0 where
  -- the desk and the work behind the step
  pub stepped : DeskState
  pub worked : W
  pub step : does.0 old.1 old.0 worked stepped
  pub goes_on : GoesOn old.0 stepped
  pub turned : Turned
  pub turn : Turns budget stepped turned new.0
  pub hears : does.1 worked new.0 turned new.1

-- so many turns, one after the other, each of which began
abbrev pub TakesTurns : {W : Type 0} → (W → ℕ → Bool → Type 0) → WorkRelation W → ℕ → ℕ → DeskState × W → DeskState × W
    → Type 0
TakesTurns lets does budget zero old new = new ≡ old
TakesTurns {W} lets does budget (suc count) old new =
    (last : DeskState × W) × TakesTurns lets does budget count old last × lets last.1 count true
    × TakesTurn does budget last new

-- a worker took all its turns, or those before the one that did not begin, and did nothing else
pub record Works {W : Type 0} (lets : W → ℕ → Bool → Type 0) (does : WorkRelation W) (turns budget : ℕ)
    (old new : DeskState × W) : Type 0 where
  pub count : ℕ
  pub took : TakesTurns lets does budget count old new
  pub ends : (count ≡ turns) ⊎ ((count < turns) × lets new.1 count false)

-- so did each, where the gate tells the desks apart by their numbers
abbrev pub AllWork : {W : Type 0} → BeginRelation W → WorkRelation W → ℕ → ℕ → List (DeskState × W)
    → List (DeskState × W) → Type 0
AllWork {W} lets does turns budget old new =
    (d : ℕ) (x : DeskState × W) → d < length old
    → Works (lets (slice_index_or old d x).0.shard.number) does turns budget (slice_index_or old d x)
    (slice_index_or new d x)

-- desks with their work, and whether the worker at each place has ended
abbrev pub Workers : Type 0 → Type 0
Workers W = List (DeskState × W) × List Bool

-- the worker at place d takes the turn of that number, which begins; or it does not, and the worker has ended
pub record TakesOrEnds {W : Type 0} (lets : BeginRelation W) (does : WorkRelation W) (budget turn d : ℕ)
    (old new : Workers W) : Type 0 where
  pub pair : DeskState × W
  pub begins : Bool
  pub gate : lets (slice_index_or old.0 d pair).0.shard.number (slice_index_or old.0 d pair).1 turn begins
  pub takes : MatchBool begins (TakesTurn does budget (slice_index_or old.0 d pair) pair)
      (pair ≡ slice_index_or old.0 d pair)
  pub desks : new.0 ≡ slice_set old.0 d pair
  pub ended : new.1 ≡ slice_set old.1 d (not begins)

-- so the worker at place d, unless it has ended: then nothing happens
abbrev pub HasTurn : {W : Type 0} → BeginRelation W → WorkRelation W → ℕ → ℕ → ℕ → Workers W → Workers W → Type 0
HasTurn lets does budget turn d old new =
    MatchBool (slice_index_or old.1 d false) (new ≡ old) (TakesOrEnds lets does budget turn d old new)

-- a round: the turn of that number of the first n workers, from desk 0 upwards
abbrev pub Round : {W : Type 0} → BeginRelation W → WorkRelation W → ℕ → ℕ → ℕ → Workers W → Workers W → Type 0
Round lets does budget turn zero old new = new ≡ old
Round {W} lets does budget turn (suc d) old new =
    (mid : Workers W) × Round lets does budget turn d old mid × HasTurn lets does budget turn d mid new

-- so many rounds of n workers, one after the other, that of turn 0 first
abbrev pub Rounds : {W : Type 0} → BeginRelation W → WorkRelation W → ℕ → ℕ → ℕ → Workers W → Workers W → Type 0
Rounds lets does budget n zero old new = new ≡ old
Rounds {W} lets does budget n (suc turn) old new =
    (mid : Workers W) × Rounds lets does budget n turn old mid × Round lets does budget turn n mid new

-- all rounds of all workers, of whom none has ended at first. A node has 64 desks at most
abbrev pub InRounds : {W : Type 0} → BeginRelation W → WorkRelation W → ℕ → ℕ → List (DeskState × W)
    → List (DeskState × W) → Type 0
InRounds lets does turns budget old new =
    (ended : List Bool) × Rounds lets does budget (length old) turns (old, replicate 64 false) (new, ended)

-- the first n workers have ended
abbrev pub HaveEnded : ℕ → List Bool → Type 0
HaveEnded n ended = (d : ℕ) → d < n → slice_index_or ended d false ≡ true
