-- The history of a node passes: the audit objects to no line of it, and names none for a reason of which the journals of
-- the desks tell.
use Rattle.std.specs.Prelude.{◌≡◌, ℕ, ◌+◌, ◌≤◌, max, Option, Some, None, List, [], ◌∷◌, length, map, reverse}
use Rattle.std.specs.Prelude.{slice_get, ⊤}
use Rattle.pt_signal.specs.declared.letter.Letter.{Letter}
use Rattle.pt_signal.specs.declared.letter.LeftOver.{LeftOver}
use Rattle.pt_events.specs.declared.event.Event.{Event}
use Rattle.pt_events.specs.declared.event.Event.TheVariants.{Came, Refused}
use Rattle.pt_events.specs.declared.event.Stamped.{Stamped}
use Rattle.pt_events.specs.Journal.{Journals, IsHome, IsLocal, IsMerge, IsNewAt, LanesAgree, clock, events, gots, posts}
use Rattle.pt_events.specs.Refusals.{RefusalsAreTrue}
use Rattle.pt_gathered.specs.LeftOvers.{joined_letters, from_to}
use Rattle.pt_auditor.specs.declared.foreign.Foreign.{Foreign}
use Rattle.pt_auditor.specs.declared.foreign.NoNode.{NoNode}
use Rattle.pt_auditor.specs.declared.foreign.NoNode.TheVariants.{Slot, NoVersion, Ended, Seen, OtherStamp}
use Rattle.pt_auditor.specs.declared.objection.Objection.{Objection}
use Rattle.pt_auditor.specs.declared.objection.Objection.TheVariants.{Memory}
use Rattle.pt_auditor.specs.Lanes.{letters_flying}
use Rattle.pt_auditor.specs.Foreigners.{IsNodeDesk, IsNodeStamp, IsNodeSlot, IsNodeVersion, IsKnownHere, GoesToNoEnded}
use Rattle.pt_auditor.specs.Foreigners.{GoesToNoneSeen, ComesInOrder, IsInTime, AllLeftByNode, IsOrigin}
use Rattle.pt_auditor.specs.Hearings.{Heard, IsStanding, IsObjection, IsMisfit, AllTold, IsUntold}

-- what the journals tell -------------------------------------------------------------------------

-- of its next event the journals of a node tell this
pub record IsToldByJournals (past : List Stamped) (s : Stamped) : Type 0 where
  pub desk : IsNodeDesk s
  pub stamp : IsNodeStamp s.stamp
  pub home : IsHome s.desk s.event
  pub new_at : IsNewAt s.desk s.stamp s.event
  pub known : IsKnownHere (events past) s
  pub order : ComesInOrder past s.event

-- and this only the calls and the receipts do
pub record IsToldByCalls (past : List Stamped) (s : Stamped) : Type 0 where
  pub slot : IsNodeSlot s.event
  pub version : IsNodeVersion s.event
  pub alive : GoesToNoEnded (events past) s.desk s.event
  pub unseen : GoesToNoneSeen (events past) s.desk s.event
  pub time : IsInTime past s.desk s.stamp s.event

abbrev pub AllToldByJournals : List Stamped → Type 0
AllToldByJournals [] = ⊤
AllToldByJournals (s ∷ past) = IsToldByJournals past s × AllToldByJournals past

abbrev pub AllToldByCalls : List Stamped → Type 0
AllToldByCalls [] = ⊤
AllToldByCalls (s ∷ past) = IsToldByCalls past s × AllToldByCalls past

-- the reasons of which the calls alone tell
abbrev pub IsOfCalls : NoNode → Type 0
IsOfCalls Slot = ⊤
IsOfCalls NoVersion = ⊤
IsOfCalls Ended = ⊤
IsOfCalls Seen = ⊤
IsOfCalls OtherStamp = ⊤
IsOfCalls _ = ⊥

-- no line is named, or an event for such a reason
abbrev pub NamesForCalls : List Stamped → Option Foreign → Type 0
NamesForCalls past None = ⊤
NamesForCalls past (Some f) = (f.line ≤ length past) × IsOfCalls f.why

-- what the audit says of it ------------------------------------------------------------------------

-- these events were heard from the beginning on, and these letters were told of
abbrev pub heard_of : List Stamped → List LeftOver → Heard
heard_of past left = record { events = past; left = left; since = None }

-- to no event is there an objection but that memory is wanting
abbrev pub NoneObjected : List Stamped → Type 0
NoneObjected [] = ⊤
NoneObjected (s ∷ past) = ((o : Objection) → IsObjection (heard_of past []) s o → o ≡ Memory) × NoneObjected past

-- and to no letter left over is there one
abbrev pub NoneMisfits : List Stamped → List LeftOver → Type 0
NoneMisfits past [] = ⊤
NoneMisfits past (l ∷ left) = ((o : Objection) → ¬ IsMisfit (heard_of past left) l o) × NoneMisfits past left

pub record PassesAudit (past : List Stamped) (left : List LeftOver) : Type 0 where
  pub stands : IsStanding (heard_of past left)
  pub heard : NoneObjected past
  pub told : NoneMisfits past left
  -- at the end nothing is on its way that was not told of
  pub all_told : AllTold (heard_of past left)
  pub ends : (o : Objection) → ¬ IsUntold (heard_of past left) o
  pub events_are : AllToldByJournals past
  pub letters_are : AllLeftByNode (letters_flying past) left
  -- the first line that is named, if one is; and none is if the calls do what they promise
  pub names : (o : Option Foreign) → IsOrigin past left o → NamesForCalls past o
  pub of_node : AllToldByCalls past → (o : Option Foreign) → IsOrigin past left o → o ≡ None

-- the journals of a node ---------------------------------------------------------------------------

-- what is left over between so many desks: by the desk of the sender, then by that of the receiver, the oldest first
abbrev pub left_in_turn : (ℕ → ℕ → List Letter) → ℕ → List LeftOver
left_in_turn over n = joined_letters (λ d. joined_letters (λ e. map (from_to d e) (over d e)) n) n

-- the journals of so many desks of a node on which nobody was before, which send to no other desk; these letters are left
-- over
pub record AreOfOneNode (low top count : ℕ) (journal : Journals) (over : ℕ → ℕ → List Letter) : Type 0 where
  pub few : count ≤ 64
  pub local : (d : ℕ) → IsLocal [] low top d (journal d)
  pub agree : LanesAgree [] journal over
  pub refusals : RefusalsAreTrue [] journal
  pub none_beyond : (d : ℕ) → count ≤ d → journal d ≡ []
  pub none_posted : (d e : ℕ) → count ≤ e → posts [] (journal d) e ≡ []

-- so the history of each node passes
abbrev pub JournalsPass : Type 0
JournalsPass =
    (low top count : ℕ) (journal : Journals) (over : ℕ → ℕ → List Letter) (merged : List Stamped)
    → AreOfOneNode low top count journal over → IsMerge journal merged
    → PassesAudit merged (reverse (left_in_turn over count))

-- the calls of a desk ------------------------------------------------------------------------------

-- A call writes its event under the stamp next to the clock, where `past` is what its desk wrote before. A receipt's stamp
-- is next to the greater one of the clock and the letter's: of the letters that the sender's desk posted to this one, it is
-- the first that had not come. A refused call may see an end of another desk, so its stamp is left open.
abbrev pub IsInTimeHere : ℕ → ℕ → Journals → List Stamped → ℕ → Event → Type 0
IsInTimeHere low d journal past n (Came a b x) =
    (l : Letter) → slice_get (posts [] (journal a.shard) d) (length (gots past a.shard)) ≡ Some l
    → n ≡ max (clock low past) l.stamp + 1
IsInTimeHere low d journal past n (Refused a b) = ⊤
IsInTimeHere low d journal past n _ = n ≡ clock low past + 1

-- what the calls and the receipts of desk d do, by what that desk wrote before
pub record IsCalledHere (low d : ℕ) (journal : Journals) (past : List Stamped) (s : Stamped) : Type 0 where
  pub slot : IsNodeSlot s.event
  pub version : IsNodeVersion s.event
  pub alive : GoesToNoEnded (events past) d s.event
  pub unseen : GoesToNoneSeen (events past) d s.event
  pub time : IsInTimeHere low d journal past s.stamp s.event

abbrev pub AllCalledHere : ℕ → ℕ → Journals → List Stamped → Type 0
AllCalledHere low d journal [] = ⊤
AllCalledHere low d journal (s ∷ past) = IsCalledHere low d journal past s × AllCalledHere low d journal past

-- where each desk's calls do so, by its own journal, the audit names no line
abbrev pub CallsPass : Type 0
CallsPass =
    (low top count : ℕ) (journal : Journals) (over : ℕ → ℕ → List Letter) (merged : List Stamped)
    → AreOfOneNode low top count journal over → ((d : ℕ) → AllCalledHere low d journal (journal d))
    → IsMerge journal merged → (o : Option Foreign) → IsOrigin merged (reverse (left_in_turn over count)) o → o ≡ None
