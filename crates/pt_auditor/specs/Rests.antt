-- A history at rest: what is known of it, from which another one goes on.
use Rattle.std.specs.Prelude.{◌≡◌, ℕ, zero, suc, ◌+◌, ◌-◌, ◌==◌, nat_le, true, false, ◌&&◌, cond, Option}
use Rattle.std.specs.Prelude.{Some, None, List, [], ◌∷◌, ◌++◌, length, Result, Ok, Err}
use Rattle.std.specs.List.{flat_map}
use Rattle.pt_signal.specs.declared.pid.Pid.{Pid}
use Rattle.pt_signal.specs.declared.ids.Ref.{Ref}
use Rattle.pt_signal.specs.declared.ids.Ids.{Ids}
use Rattle.pt_signal.specs.declared.signal.Signal.{Signal}
use Rattle.pt_signal.specs.declared.signal.Signal.TheVariants.{LinkExit, Down, Demonitor}
use Rattle.pt_signal.specs.Process.{ProcessState, Sent, fresh}
use Rattle.pt_signal.specs.Values.{same_pid}
use Rattle.pt_signal.specs.contracts.reason.ReasonPartialEq.TheImpl.{ghosts as of_reason}
use Rattle.pt_signal.specs.declared.reason.Reason.{Reason}
use Rattle.pt_events.specs.declared.event.Stamped.{Stamped}
use Rattle.pt_events.specs.History.{Phase, living, ended, is_unborn, at_start, life, IsLegal}
use Rattle.pt_events.specs.Journal.{events}
use Rattle.pt_events.specs.Leaving.{outcome}
use Rattle.pt_judge.specs.declared.judging.resumed.Holding.{Holding}
use Rattle.pt_judge.specs.Judging.{JudgeState, now_is}
use Rattle.pt_auditor.specs.declared.rest.Rest.{Rest}
use Rattle.pt_auditor.specs.declared.rest.Estate.{Estate}
use Rattle.pt_auditor.specs.declared.rest.Resident.{Resident}
use Rattle.pt_auditor.specs.declared.rest.Resident.TheVariants.{Lives, Ended}
use Rattle.pt_auditor.specs.declared.rest.Restless.{Restless}
use Rattle.pt_auditor.specs.declared.rest.Restless.TheVariants.{Line, Letters, OfNoNode, Memory}
use Rattle.pt_auditor.specs.Lanes.{clock_of, stamp_noted}
use Rattle.pt_auditor.specs.Seen.{has_seen, is_noted}
use Rattle.pt_auditor.specs.Foreigners.{AllFromNode, IsFirstForeign}
use Rattle.pt_auditor.specs.Reading.{joined_lines, ArePlain, EventLines}
use Rattle.pt_auditor.specs.Hearings.{Heard, EventsAreRising, TellsBegin, newest, desks_of, left_flying}
use Rattle.pt_events.specs.Counting.{capped}

-- what the process holds
abbrev pub holds_so : Holding → ProcessState
holds_so h = record {
  waiting = h.waiting.items;
  links = h.links.items;
  watching = h.watching.items;
  kept = h.kept.items;
  traps = h.traps;
}

-- so many processes of its slot, from this one on, have ended for this reason
abbrev pub ended_run : Pid → Reason → ℕ → List (Pid × Phase)
ended_run p r zero = []
ended_run p r (suc n) = ended_run p r n ++ (record p { version = p.version + n }, ended r fresh) ∷ []

abbrev pub resident_lives : Resident → List (Pid × Phase)
resident_lives (Lives p h) = (p, living (holds_so h)) ∷ []
resident_lives (Ended p last r) = ended_run p r (last + 1 - p.version)

abbrev pub lives_in : List Resident → List (Pid × Phase)
lives_in residents = flat_map resident_lives residents

-- the processes are those of the state: of one that has ended why, and nothing that it held
abbrev pub AreResidents : JudgeState → List Resident → Type 0
AreResidents s residents = (p : Pid) → at_start (lives_in residents) p ≡ outcome (now_is s p)

-- this is known of the history, the newest event first, which a node can print, and in which nothing is on its way
pub record IsRestOf (past : List Stamped) (r : Rest) : Type 0 where
  pub legal : IsLegal [] (events past)
  pub rising : EventsAreRising past
  pub of_node : AllFromNode past
  pub still : left_flying past ≡ []
  pub alike : (p : Pid) → at_start (lives_in r.residents.items) p ≡ outcome (life [] (events past) p)
  pub clocks : (d : ℕ) → stamp_noted r.clocks d ≡ clock_of d past
  pub seen : (d : ℕ) (p : Pid) → is_noted r.seen d p ≡ has_seen (events past) d p
  pub last : r.last ≡ newest past
  pub begun : TellsBegin past r.begun
  pub count : r.events ≡ capped (length past)
  pub desks : r.desks ≡ desks_of past

-- nothing is on its way, and no letter left over was told of
pub record IsAtRest (t : Heard) : Type 0 where
  pub none_told : t.left ≡ []
  pub still : left_flying t.events ≡ []

-- what is known of the history; or why nothing can go on from it, the first of these that holds
abbrev pub LeavesRest : Heard → Result Rest Restless → Type 0
LeavesRest t (Ok r) = (t.left ≡ []) × IsRestOf t.events r
LeavesRest t (Err Line) = ⊥
LeavesRest t (Err Letters) = ¬ IsAtRest t
LeavesRest t (Err (OfNoNode f)) = IsAtRest t × IsFirstForeign t.events f
LeavesRest t (Err Memory) = IsAtRest t × AllFromNode t.events

-- the text are the lines of these events
pub record IsTextOf (text : List ℕ) (past : List Stamped) : Type 0 where
  pub lines : List (List ℕ)
  pub splits : text ≡ joined_lines lines
  pub plain : ArePlain lines
  pub tells : EventLines lines past

-- what is known of the text, of which the line is open
abbrev pub RestsText : List ℕ → Heard → List ℕ → Result Rest Restless → Type 0
RestsText text t line (Ok r) = IsTextOf text t.events × IsRestOf t.events r
RestsText text t line (Err Line) = ¬ (line ≡ [])
RestsText text t line (Err why) = (line ≡ []) × LeavesRest t (Err why)

-- why nothing can go on from the history, or that all can but for memory
abbrev pub IsRestless : Heard → Option Restless → Type 0
IsRestless t None = IsAtRest t × AllFromNode t.events
IsRestless t (Some why) = LeavesRest t (Err why)

-- what the functions of the crate say ----------------------------------------------------------

abbrev pub stamp_of : Option Stamped → ℕ
stamp_of None = 0
stamp_of (Some s) = s.stamp

-- what a signal tells that goes to others when a process ends
abbrev pub link_in : Pid → Signal → List (Pid × Ids)
link_in p (LinkExit ids r) = (p, ids) ∷ []
link_in p _ = []

abbrev pub kept_in : Pid → Signal → List (Ref × Pid)
kept_in p (Down m r) = (m, p) ∷ []
kept_in p _ = []

abbrev pub watch_in : Pid → Signal → List (Ref × Pid)
watch_in p (Demonitor m) = (m, p) ∷ []
watch_in p _ = []

pub record IsAdded (p : Pid) (x : Signal) (old new : Estate) : Type 0 where
  pub links : new.links.items ≡ old.links.items ++ link_in p x
  pub kept : new.kept.items ≡ old.kept.items ++ kept_in p x
  pub watching : new.watching.items ≡ old.watching.items ++ watch_in p x

abbrev pub links_in : List Sent → List (Pid × Ids)
links_in [] = []
links_in (l ∷ sent) = link_in l.to l.signal ++ links_in sent

abbrev pub kepts_in : List Sent → List (Ref × Pid)
kepts_in [] = []
kepts_in (l ∷ sent) = kept_in l.to l.signal ++ kepts_in sent

abbrev pub watches_in : List Sent → List (Ref × Pid)
watches_in [] = []
watches_in (l ∷ sent) = watch_in l.to l.signal ++ watches_in sent

pub record IsDrained (old new : JudgeState) (e : Estate) : Type 0 where
  pub state : new ≡ record old { flights = [] }
  pub links : e.links.items ≡ links_in old.flights
  pub kept : e.kept.items ≡ kepts_in old.flights
  pub watching : e.watching.items ≡ watches_in old.flights

pub record IsTakenOut (p : Pid) (old new : JudgeState) (h : Holding) : Type 0 where
  pub held : now_is old p ≡ living (holds_so h)
  pub others : (q : Pid) → same_pid q p ≡ false → now_is new q ≡ now_is old q
  pub still : new.flights ≡ []

-- the process is listed, unless it was listed before, or was never born
pub record IsListed (p : Pid) (old : JudgeState) (residents : List Resident) (new : JudgeState) (more : List Resident)
    : Type 0 where
  pub kept : (q : Pid) → is_unborn (at_start (lives_in residents) q) ≡ false
      → at_start (lives_in more) q ≡ at_start (lives_in residents) q
  pub others : (q : Pid) → same_pid q p ≡ false → at_start (lives_in more) q ≡ at_start (lives_in residents) q
  pub other_lives : (q : Pid) → same_pid q p ≡ false → now_is new q ≡ now_is old q
  pub told : is_unborn (at_start (lives_in residents) p) ≡ true → at_start (lives_in more) p ≡ outcome (now_is old p)
  pub none : is_unborn (at_start (lives_in more) p) ≡ true → now_is new p ≡ now_is old p
  pub still : new.flights ≡ []

-- the run with the process behind it, where that is the next of the slot and ended alike
abbrev pub run_with : Resident → Pid → Reason → Option Resident
run_with (Ended q last w) p r =
    cond ((q.shard == p.shard)
    && (q.slot == p.slot)
    && nat_le q.version last
    && (last + 1 == p.version)
    && of_reason.eq w r)
    (Some (Ended q p.version r)) None
run_with (Lives q h) p r = None
