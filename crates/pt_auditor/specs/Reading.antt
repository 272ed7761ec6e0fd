-- A text read as the lines of a history.
use Rattle.std.specs.Prelude.{◌≡◌, ℕ, ◌+◌, ◌-◌, ◌==◌, ◌^◌, min, max, false, cond, ◌⊎◌, Option, Some, None, List, [], ◌∷◌}
use Rattle.std.specs.Prelude.{◌++◌, length, take, slice_index, Result, Ok, Err, ⊤}
use Rattle.pt_events.specs.declared.event.Stamped.{Stamped}
use Rattle.pt_events.specs.Text.{stamped_text}
use Rattle.pt_signal.specs.declared.letter.LeftOver.{LeftOver}
use Rattle.pt_texts.specs.declared.parse.Refused.{Refused}
use Rattle.pt_signal.specs.Text.{left_over_text}
use Rattle.pt_texts.specs.Fits.{FitsStamped, FitsLeftOver}
use Rattle.pt_texts.specs.Parsing.{finished}
use Rattle.pt_texts.specs.Readers.{stamped_at, left_over_at}
use Rattle.pt_auditor.specs.declared.fault.Fault.{Fault}
use Rattle.pt_auditor.specs.declared.fault.Why.{Why}
use Rattle.pt_auditor.specs.declared.fault.Why.TheVariants.{Unread, Event, Letter, Over, Long, Memory}
use Rattle.pt_auditor.specs.declared.fault.TheConstants.{MOST_LINE}
use Rattle.pt_auditor.specs.declared.objection.Objection.{Objection}
use Rattle.pt_auditor.specs.declared.audit.Audit.{Audit}
use Rattle.pt_auditor.specs.declared.hearing.Hearing.{Hearing}
use Rattle.pt_auditor.specs.declared.hearing.Verdict.{Verdict}
use Rattle.pt_auditor.specs.Hearings.{Heard, IsStanding, IsHeard, MayHear, IsObjection, IsMisfit, AllTold, IsUntold}
use Rattle.pt_auditor.specs.Hearings.{with_event, with_letter, IsVerdict}
use Rattle.pt_events.specs.Counting.{capped}

-- the line without the carriage return that it ends with, if it does
abbrev pub without_return : List ℕ → List ℕ
without_return line = cond (slice_index line (length line - 1) == 13) (take (length line - 1) line) line

abbrev pub IsEventLine : List ℕ → Stamped → Type 0
IsEventLine line s = (line ≡ stamped_text s) × FitsStamped s

abbrev pub IsLetterLine : List ℕ → LeftOver → Type 0
IsLetterLine line l = (line ≡ left_over_text l) × FitsLeftOver l

-- these lines, the newest first, are the texts of the events
abbrev pub EventLines : List (List ℕ) → List Stamped → Type 0
EventLines [] [] = ⊤
EventLines (line ∷ lines) (s ∷ past) = IsEventLine (without_return line) s × EventLines lines past
EventLines _ _ = ⊥

-- these lines are the texts of the events, and then of the letters
abbrev pub HistoryLines : List (List ℕ) → List LeftOver → List Stamped → Type 0
HistoryLines lines [] past = EventLines lines past
HistoryLines (line ∷ lines) (l ∷ left) past = IsLetterLine (without_return line) l × HistoryLines lines left past
HistoryLines _ _ past = ⊥

-- no line feed is among the bytes
abbrev pub IsPlain : List ℕ → Type 0
IsPlain [] = ⊤
IsPlain (b ∷ line) = ((b == 10) ≡ false) × IsPlain line

abbrev pub ArePlain : List (List ℕ) → Type 0
ArePlain [] = ⊤
ArePlain (line ∷ lines) = IsPlain line × ArePlain lines

-- the text of lines, the newest first, each with its line feed
abbrev pub joined_lines : List (List ℕ) → List ℕ
joined_lines [] = []
joined_lines (line ∷ lines) = joined_lines lines ++ line ++ 10 ∷ []

-- the line tells this event, or this letter, and it may be heard next
abbrev pub OneMore : Heard → List ℕ → Heard → Type 0
OneMore t line u =
    ((s : Stamped) × IsEventLine line s × MayHear t s × (u ≡ with_event s t))
    ⊎ ((l : LeftOver) × IsLetterLine line l × (u ≡ with_letter l t))

abbrev pub column_of : {A : Type 0} → Result A Refused → ℕ
column_of (Ok v) = 0
column_of (Err r) = r.column

-- no event and no letter prints so
abbrev pub IsNoLine : List ℕ → Type 0
IsNoLine line = ((s : Stamped) → ¬ IsEventLine line s) × ((l : LeftOver) → ¬ IsLetterLine line l)

-- why the line may not be heard next
abbrev pub IsFault : Heard → List ℕ → Why → Type 0
IsFault t line (Unread column) =
    IsNoLine line
    × (column ≡ max (column_of (finished line (stamped_at line))) (column_of (finished line (left_over_at line))))
IsFault t line (Event s o) = IsEventLine line s × IsObjection t s o
IsFault t line (Letter l o) = IsLetterLine line l × IsMisfit t l o
IsFault t line _ = ⊥

abbrev pub AuditHearsLine : Heard → List ℕ → Result Hearing Why → Type 0
AuditHearsLine t line (Ok h) = (u : Heard) × OneMore t line u × IsHeard u h
AuditHearsLine t line (Err why) = IsFault t line why

-- the text was read, and its lines tell what was heard; the last is not over
pub record IsRead (text : List ℕ) (t : Heard) (h : Hearing) (line : List ℕ) (count : ℕ) : Type 0 where
  pub lines : List (List ℕ)
  pub splits : text ≡ joined_lines lines ++ line
  pub plain : ArePlain lines
  pub open_plain : IsPlain line
  pub count_is : count ≡ capped (length lines)
  pub tells : HistoryLines lines t.left t.events
  pub heard : IsHeard t h

-- the text ends behind the line feed of its last line, or in the line with this number
abbrev pub IsTorn : List ℕ → Option ℕ → Type 0
IsTorn text None = (lines : List (List ℕ)) × (text ≡ joined_lines lines) × ArePlain lines
IsTorn text (Some n) = (lines : List (List ℕ)) × (line : List ℕ) × (text ≡ joined_lines lines ++ line) × ArePlain lines × IsPlain line
    × (¬ (line ≡ [])) × (n ≡ capped (length lines + 1))

-- the line feed of the line stands there, or the text is over
abbrev pub LineIsOver : List ℕ → Type 0
LineIsOver [] = ⊤
LineIsOver (b ∷ rest) = b ≡ 10

-- the line goes on
abbrev pub LineGoesOn : List ℕ → Type 0
LineGoesOn [] = ⊥
LineGoesOn (b ∷ rest) = (b == 10) ≡ false

-- why the line, behind which the rest of the text stands, is at fault
abbrev pub IsWhy : Heard → List ℕ → List ℕ → Why → Type 0
IsWhy t line rest Long = (length line ≡ MOST_LINE) × LineGoesOn rest
IsWhy t line rest Memory = ⊤
IsWhy t line rest why = LineIsOver rest × IsFault t (without_return line) why

-- the first line at fault: the lines before it tell what may be as it is
pub record IsFaulty (text : List ℕ) (f : Fault) : Type 0 where
  pub heard : Heard
  pub lines : List (List ℕ)
  pub line : List ℕ
  pub rest : List ℕ
  pub splits : text ≡ joined_lines lines ++ line ++ rest
  pub plain : ArePlain lines
  pub open_plain : IsPlain line
  pub number : f.line ≡ capped (length lines + 1)
  pub tells : HistoryLines lines heard.left heard.events
  pub stands : IsStanding heard
  pub why : IsWhy heard line rest f.why

-- the open line has the byte behind it; or it has the most bytes, or memory is wanting
abbrev pub Grows : List ℕ → ℕ → List ℕ → Result (Unit {0}) Why → Type 0
Grows old byte new (Ok u) = new ≡ old ++ byte ∷ []
Grows old byte new (Err Long) = length old ≡ MOST_LINE
Grows old byte new (Err Memory) = ⊤
Grows old byte new (Err why) = ⊥

abbrev pub AuditReads : List ℕ → List ℕ → Result Audit Fault → Type 0
AuditReads text bytes (Ok a) = (u : Heard) × IsRead (text ++ bytes) u a.hearing a.line.items a.lines
AuditReads text bytes (Err f) = IsFaulty (text ++ bytes) f

-- the whole text are these lines, of which the last may be without its line feed, and they tell this
pub record IsWholeText (text : List ℕ) (t : Heard) : Type 0 where
  pub lines : List (List ℕ)
  pub are : (text ≡ joined_lines lines) ⊎ (text ++ 10 ∷ [] ≡ joined_lines lines)
  pub plain : ArePlain lines
  pub tells : HistoryLines lines t.left t.events
  pub stands : IsStanding t

-- a letter on its way was not told of, and the text is over behind that many lines
abbrev pub IsUnfinished : Heard → ℕ → Fault → Type 0
IsUnfinished t count f = ((o : Objection) × (f.why ≡ Over o) × IsUntold t o) × (f.line ≡ capped (count + 1))

abbrev pub Concludes : List ℕ → Result Verdict Fault → Type 0
Concludes text (Ok v) = (t : Heard) × IsWholeText text t × AllTold t × IsVerdict t v
Concludes text (Err f) = IsFaulty text f ⊎ ((t : Heard) × (w : IsWholeText text t) × IsUnfinished t (length w.lines) f)

abbrev pub ClosesText : Heard → ℕ → Result Verdict Fault → Type 0
ClosesText t count (Ok v) = AllTold t × IsVerdict t v
ClosesText t count (Err f) = ((o : Objection) × (f.why ≡ Over o) × IsUntold t o) × (f.line ≡ min (count + 1) (2 ^ 64 - 1))
