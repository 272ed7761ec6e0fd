-- The text of what is known of a history at rest, and how it is read.
use Rattle.std.specs.Prelude.{◌≡◌, ℕ, ◌+◌, ◌*◌, ◌%◌, ◌==◌, ◌&&◌, Bool, true, false, cond, Option, Some, None, is_none}
use Rattle.std.specs.Prelude.{List, [], ◌∷◌, ◌++◌, length, map, Result, Ok, Err, IfOk, IfErr, ⊤}
use Rattle.std.specs.List.{flat_map}
use Rattle.std.specs.Map.{lookup}
use Rattle.pt_signal.specs.declared.pid.Pid.{Pid}
use Rattle.pt_signal.specs.declared.ids.Ref.{Ref}
use Rattle.pt_signal.specs.declared.ids.Ids.{Ids}
use Rattle.pt_signal.specs.declared.reason.Reason.{Reason}
use Rattle.pt_signal.specs.Process.{ProcessState}
use Rattle.pt_events.specs.declared.event.Stamped.{Stamped}
use Rattle.pt_texts.specs.declared.records.Record.{Record}
use Rattle.pt_texts.specs.declared.records.Record.TheVariants.{Head, Last, Clock, Seen, Lives, Waits, Linked, Watches}
use Rattle.pt_texts.specs.declared.records.Record.TheVariants.{Watched, Ended, End}
use Rattle.pt_texts.specs.Text.{record_line}
use Rattle.pt_texts.specs.Fits.{FitsRecord}
use Rattle.pt_texts.specs.Readers.{line_at}
use Rattle.pt_texts.specs.Parsing.{told_column}
use Rattle.pt_auditor.specs.declared.rest.Rest.{Rest}
use Rattle.pt_auditor.specs.declared.rest.Resident.{Resident}
use Rattle.pt_judge.specs.declared.judging.resumed.Holding.{Holding}
use Rattle.pt_auditor.specs.declared.saved.Damage.{Damage}
use Rattle.pt_auditor.specs.declared.saved.Flaw.{Flaw}
use Rattle.pt_auditor.specs.declared.saved.Flaw.TheVariants.{Unread, Misplaced, Sum, Behind, Memory}
use Rattle.pt_events.specs.Counting.{capped}
use Rattle.pt_auditor.specs.Rests.{holds_so, IsRestOf}
use Rattle.pt_auditor.specs.Seen.{SeenSlots, is_slot_of}

-- a process that lives, and what it holds; or processes of a slot, up to a version, that ended for a reason
pub data Entry : Type 0 where
  alive : Pid → ProcessState → Entry
  run : Pid → ℕ → Reason → Entry

-- what a state tells
pub record StateTold : Type 0 where
  pub events : ℕ
  pub desks : ℕ
  pub begun : Bool
  pub last : Option Stamped
  pub clocks : List (ℕ × ℕ)
  pub seen : SeenSlots
  -- the last one in front
  pub entries : List Entry

abbrev pub entry_of : Resident → Entry
entry_of (Resident.Lives p h) = alive p (holds_so h)
entry_of (Resident.Ended p last r) = run p last r

-- these behind those
abbrev pub entries_with : List Entry → List Resident → List Entry
entries_with es [] = es
entries_with es (r ∷ rs) = entries_with (entry_of r ∷ es) rs

abbrev pub told_of : Rest → StateTold
told_of r = record {
  events = r.events;
  desks = r.desks;
  begun = r.begun;
  last = r.last;
  clocks = r.clocks;
  seen = r.seen;
  entries = entries_with [] r.residents.items;
}

-- its lines ------------------------------------------------------------------------------------

abbrev pub clock_record : ℕ × ℕ → Record
clock_record c = Clock c.0 c.1

abbrev pub top_of_slot : (ℕ × ℕ × ℕ) × ℕ → Pid
top_of_slot s = record { shard = s.0.1; slot = s.0.2; version = s.1 }

abbrev pub seen_record : (ℕ × ℕ × ℕ) × ℕ → Record
seen_record s = Seen s.0.0 (top_of_slot s)

abbrev pub link_record : Pid × Ids → Record
link_record l = Linked l.0 l.1

abbrev pub watch_record : Ref × Pid → Record
watch_record w = Watches w.0 w.1

abbrev pub kept_record : Ref × Pid → Record
kept_record w = Watched w.0 w.1

abbrev pub held_records : ProcessState → List Record
held_records s =
    map Waits s.waiting ++ map link_record s.links ++ map watch_record s.watching ++ map kept_record s.kept

abbrev pub entry_records : Entry → List Record
entry_records (alive p s) = Lives p s.traps ∷ held_records s
entry_records (run p last r) = Ended p last r ∷ []

abbrev pub entries_records : List Entry → List Record
entries_records [] = []
entries_records (e ∷ es) = entries_records es ++ entry_records e

abbrev pub last_records : Option Stamped → List Record
last_records None = []
last_records (Some s) = Last s ∷ []

abbrev pub told_records : StateTold → List Record
told_records t =
    Head t.events t.desks t.begun ∷ last_records t.last ++ map clock_record t.clocks ++ map seen_record t.seen
    ++ entries_records t.entries

abbrev pub lines_of : List Record → List ℕ
lines_of records = flat_map record_line records

-- the sum of bytes behind others that have the sum n
abbrev pub sum_behind : ℕ → List ℕ → ℕ
sum_behind n [] = n
sum_behind n (b ∷ bytes) = sum_behind ((n * 257 + b + 1) % 4294967291) bytes

abbrev pub end_line : List Record → Record
end_line records = End (sum_behind 0 (lines_of records))

-- the text: its lines, and then the end with their sum
abbrev pub rest_text : Rest → List ℕ
rest_text r = lines_of (told_records (told_of r)) ++ record_line (end_line (told_records (told_of r)))

-- the lines read one by one --------------------------------------------------------------------

abbrev pub is_nil : {X : Type 0} → List X → Bool
is_nil xs = length xs == 0

abbrev pub first_told : Record → Option StateTold
first_told (Head events desks begun) =
    Some (record { events = events; desks = desks; begun = begun; last = None; clocks = []; seen = []; entries = [] })
first_told _ = None

-- what the process holds with one line more
abbrev pub held_with : ProcessState → Record → Option ProcessState
held_with s (Waits i) =
    cond (is_nil s.links && is_nil s.watching && is_nil s.kept) (Some (record s { waiting = s.waiting ++ i ∷ [] })) None
held_with s (Linked p ids) =
    cond (is_nil s.watching && is_nil s.kept) (Some (record s { links = s.links ++ (p, ids) ∷ [] })) None
held_with s (Watches m p) = cond (is_nil s.kept) (Some (record s { watching = s.watching ++ (m, p) ∷ [] })) None
held_with s (Watched m p) = Some (record s { kept = s.kept ++ (m, p) ∷ [] })
held_with s _ = None

-- the last process with one line more
abbrev pub entry_with : StateTold → Pid → List Entry → Option ProcessState → Option StateTold
entry_with t p es None = None
entry_with t p es (Some s) = Some (record t { entries = alive p s ∷ es })

abbrev pub entries_held : StateTold → Record → List Entry → Option StateTold
entries_held t x (alive p s ∷ es) = entry_with t p es (held_with s x)
entries_held t x _ = None

abbrev pub no_holding : Bool → ProcessState
no_holding traps = record { waiting = []; links = []; watching = []; kept = []; traps = traps }

-- what is told with one line more, where it may stand there
abbrev pub told_with : StateTold → Record → Option StateTold
told_with t (Head events desks begun) = None
told_with t (Last s) =
    cond (is_none t.last && is_nil t.clocks && is_nil t.seen && is_nil t.entries) (Some (record t { last = Some s })) None
told_with t (Clock d n) =
    cond (is_nil t.seen && is_nil t.entries && is_none (lookup (λ k. d == k) t.clocks))
    (Some (record t { clocks = t.clocks ++ (d, n) ∷ [] }))
    None
told_with t (Seen d p) =
    cond (is_nil t.entries && is_none (lookup (is_slot_of d p) t.seen))
    (Some (record t { seen = t.seen ++ ((d, p.shard, p.slot), p.version) ∷ [] }))
    None
told_with t (Lives p traps) = Some (record t { entries = alive p (no_holding traps) ∷ t.entries })
told_with t (Ended p last r) = Some (record t { entries = run p last r ∷ t.entries })
told_with t (End n) = None
told_with t x = entries_held t x t.entries

-- and with the first line
abbrev pub told_more : Option StateTold → Record → Option StateTold
told_more None x = first_told x
told_more (Some t) x = told_with t x

abbrev pub then_told : Option StateTold → List Record → Option StateTold
then_told None xs = None
then_told (Some t) [] = Some t
then_told (Some t) (x ∷ xs) = then_told (told_with t x) xs

abbrev pub told_by : List Record → Option StateTold
told_by [] = None
told_by (x ∷ xs) = then_told (first_told x) xs

-- no desk has two clocks
abbrev pub AreNewClocks : List (ℕ × ℕ) → List (ℕ × ℕ) → Type 0
AreNewClocks before [] = ⊤
AreNewClocks before (c ∷ clocks) =
    (is_none (lookup (λ k. c.0 == k) before) ≡ true) × AreNewClocks (before ++ c ∷ []) clocks

-- no desk has seen ends of a slot twice
abbrev pub AreNewSlots : SeenSlots → SeenSlots → Type 0
AreNewSlots before [] = ⊤
AreNewSlots before (s ∷ seen) =
    (is_none (lookup (is_slot_of s.0.0 (top_of_slot s)) before) ≡ true) × AreNewSlots (before ++ s ∷ []) seen

abbrev pub AreFit : List Record → Type 0
AreFit [] = ⊤
AreFit (x ∷ xs) = FitsRecord x × AreFit xs

-- its numbers are of their types
pub record FitsRest (r : Rest) : Type 0 where
  pub lines : AreFit (told_records (told_of r))
  pub clocks : AreNewClocks [] r.clocks
  pub seen : AreNewSlots [] r.seen

-- what is promised of reading -------------------------------------------------------------------

-- the lines before may stand so
abbrev pub MayStand : List Record → Type 0
MayStand [] = ⊤
MayStand (x ∷ xs) = (t : StateTold) × (told_by (x ∷ xs) ≡ Some t)

abbrev pub is_end_line : Record → Bool
is_end_line (End n) = true
is_end_line _ = false

-- the text begins with this line
pub record StartsWith (x : Record) (text rest : List ℕ) : Type 0 where
  pub fits : FitsRecord x
  pub splits : text ≡ record_line x ++ rest

-- why the line behind these may not stand there
abbrev pub IsFlaw : List Record → List ℕ → ℕ → Flaw → Type 0
IsFlaw before text column Unread = told_column text (line_at text) ≡ Err (record { column = column })
IsFlaw before text column Misplaced = (column ≡ 1) × ((x : Record) × (rest : List ℕ) × StartsWith x text rest
    × (told_by (before ++ x ∷ []) ≡ None) × (is_end_line x ≡ true → before ≡ []))
IsFlaw before text column Sum = (column ≡ 1) × ((n : ℕ) × (rest : List ℕ) × StartsWith (End n) text rest
    × (¬ (n ≡ sum_behind 0 (lines_of before))))
IsFlaw before text column Behind = (column ≡ 1) × ((n : ℕ) × (rest : List ℕ) × StartsWith (End n) text rest × (¬ (rest ≡ [])))
IsFlaw before text column Memory = ⊤

-- the first line at fault
pub record IsDamaged (text : List ℕ) (d : Damage) : Type 0 where
  pub before : List Record
  pub rest : List ℕ
  pub splits : text ≡ lines_of before ++ rest
  pub fits : AreFit before
  pub stands : MayStand before
  pub line : d.line ≡ capped (length before + 1)
  pub flaw : IsFlaw before rest d.column d.flaw

-- the text tells as much as the rest
abbrev pub IsReadAs : Rest → Result Rest Damage → Type 0
IsReadAs r (Ok s) = told_of s ≡ told_of r
IsReadAs r (Err d) = d.flaw ≡ Memory

pub record ParsesRest (text : List ℕ) (result : Result Rest Damage) : Type 0 where
  -- the text is that of the rest that was found
  pub found : IfOk result (λ r. text ≡ rest_text r)
  -- no text of a rest is refused, or taken for that of another
  pub only : (r : Rest) → FitsRest r → text ≡ rest_text r → IsReadAs r result
  -- what is found is known of each history of which the rest was known
  pub kept : (past : List Stamped) (r : Rest) → FitsRest r → text ≡ rest_text r → IsRestOf past r → IfOk result (IsRestOf past)
  -- a refusal tells the first line at fault
  pub damaged : IfErr result (IsDamaged text)

-- what the functions of the crate say of one line ------------------------------------------------

abbrev pub IsHeldSo : Option ProcessState → Result Holding Flaw → Type 0
IsHeldSo o (Ok h) = o ≡ Some (holds_so h)
IsHeldSo o (Err Misplaced) = o ≡ None
IsHeldSo o (Err Memory) = ⊤
IsHeldSo o (Err why) = ⊥

abbrev pub IsToldSo : Option StateTold → Result Rest Flaw → Type 0
IsToldSo o (Ok r) = o ≡ Some (told_of r)
IsToldSo o (Err Misplaced) = o ≡ None
IsToldSo o (Err Memory) = ⊤
IsToldSo o (Err why) = ⊥

-- these lines were read, and tell this
pub record IsReadTo (text : List ℕ) (before : List Record) (rest : List ℕ) (told : Option StateTold) : Type 0 where
  pub splits : text ≡ lines_of before ++ rest
  pub fits : AreFit before
  pub stands : MayStand before
  pub tells : told_by before ≡ told

-- the end was read behind these lines, which tell this
pub record IsReadWhole (text : List ℕ) (r : Rest) : Type 0 where
  pub before : List Record
  pub splits : text ≡ lines_of before ++ record_line (end_line before)
  pub fits : AreFit before
  pub tells : told_by before ≡ Some (told_of r)

abbrev pub EndsReading : List ℕ → Result Rest Damage → Type 0
EndsReading text (Ok r) = IsReadWhole text r
EndsReading text (Err d) = IsDamaged text d

abbrev pub IsUnclosed : Option StateTold → List ℕ → ℕ → List ℕ → Flaw → Type 0
IsUnclosed o bytes sum behind Misplaced = o ≡ None
IsUnclosed o bytes sum behind Sum = ¬ (sum ≡ sum_behind 0 bytes)
IsUnclosed o bytes sum behind Behind = ¬ (behind ≡ [])
IsUnclosed o bytes sum behind why = ⊥

-- the end was read behind these bytes, which tell this, with so much behind it
abbrev pub IsClosed : Option StateTold → List ℕ → ℕ → List ℕ → ℕ → Result Rest Damage → Type 0
IsClosed o bytes sum behind line (Ok r) = (o ≡ Some (told_of r)) × (sum ≡ sum_behind 0 bytes) × (behind ≡ [])
IsClosed o bytes sum behind line (Err d) = (d.line ≡ line) × (d.column ≡ 1) × IsUnclosed o bytes sum behind d.flaw
