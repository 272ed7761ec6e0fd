-- What was heard of a history, and what may be heard next.
use Rattle.std.specs.Prelude.{◌≡◌, ℕ, ◌+◌, ◌-◌, ◌^◌, ◌==◌, min, max, nat_lt, Bool, true, false, cond, ◌&&◌, ◌||◌, Option}
use Rattle.std.specs.Prelude.{Some, None, is_some, List, [], ◌∷◌, drop, length, slice_get, Result, Ok, Err, ⊤}
use Rattle.std.specs.List.{find, list_any}
use Rattle.std.specs.Option.{option_map}
use Rattle.pt_signal.specs.declared.pid.Pid.{Pid}
use Rattle.pt_signal.specs.declared.ids.LinkId.{LinkId}
use Rattle.pt_signal.specs.declared.ids.Ref.{Ref}
use Rattle.pt_signal.specs.Values.{without_first, same_link, same_ref}
use Rattle.pt_signal.specs.Process.{Sent, sent}
use Rattle.pt_events.specs.declared.event.Stamped.{Stamped}
use Rattle.pt_events.specs.Journal.{events, clock}
use Rattle.pt_events.specs.History.{Past, May, IsLegal, flying, is_between, life, made_link, made_ref}
use Rattle.pt_events.specs.Leaving.{outcome}
use Rattle.pt_judge.specs.Judging.{JudgeState, IsStep, known_after, lived, now_is}
use Rattle.pt_judge.specs.Judge.{IsCause}
use Rattle.pt_signal.specs.declared.letter.LeftOver.{LeftOver}
use Rattle.pt_auditor.specs.declared.objection.Objection.{Objection}
use Rattle.pt_auditor.specs.declared.objection.Objection.TheVariants.{Behind, Sinks, MayNot, OtherDesks, OtherLetter}
use Rattle.pt_auditor.specs.declared.objection.Objection.TheVariants.{Untold, OfNoNode, Memory}
use Rattle.pt_auditor.specs.declared.hearing.Hearing.{Hearing}
use Rattle.pt_auditor.specs.declared.hearing.Verdict.{Verdict}
use Rattle.pt_auditor.specs.Objecting.{contradiction}
use Rattle.pt_auditor.specs.declared.desks.Desks.{Desks}
use Rattle.pt_auditor.specs.declared.foreign.NoNode.{NoNode}
use Rattle.pt_auditor.specs.Lanes.{IsLaid, letters_laid, letters_flying, letters_still, lane, clock_of, stamp_noted}
use Rattle.pt_auditor.specs.Foreigners.{IsOrigin, IsNoNode, MayBegin, Decides, IsMovedOn, first_foreign, no_node, no_left, may_begin}
use Rattle.pt_auditor.specs.Foreigners.{last_lane}
use Rattle.pt_auditor.specs.Seen.{has_seen, is_noted}
use Rattle.pt_events.specs.Counting.{capped}

-- the events, the newest first, and the letters left over, the last told first; and the last event of the rest from
-- which the hearing went on, if it did
pub record Heard : Type 0 where
  pub events : List Stamped
  pub left : List LeftOver
  pub since : Option Stamped

-- the second comes after the first by stamp, and by desk where the stamps are the same
abbrev pub follows : Stamped → Stamped → Bool
follows t s = nat_lt t.stamp s.stamp || ((t.stamp == s.stamp) && nat_lt t.desk s.desk)

abbrev pub newest : List Stamped → Option Stamped
newest [] = None
newest (s ∷ past) = Some s

abbrev pub is_above : Option Stamped → Stamped → Bool
is_above None s = true
is_above (Some t) s = follows t s

abbrev pub EventsAreRising : List Stamped → Type 0
EventsAreRising [] = ⊤
EventsAreRising (s ∷ past) = (is_above (newest past) s ≡ true) × EventsAreRising past

-- one more than the greatest desk
abbrev pub desks_of : List Stamped → ℕ
desks_of [] = 0
desks_of (s ∷ past) = max (desks_of past) (s.desk + 1)

-- the history leaves these on their way
abbrev pub left_flying : List Stamped → List Sent
left_flying past = flying [] (events past)

-- what is on its way beside the letters that were told of
abbrev pub still : List Sent → List LeftOver → List Sent
still flights [] = flights
still flights (l ∷ left) = without_first (is_between l.letter.from l.letter.to) (still flights left)

-- the letter is the oldest on its way from its sender to its receiver
abbrev pub IsOldest : List Sent → LeftOver → Type 0
IsOldest flights l =
    find (is_between l.letter.from l.letter.to) flights ≡ Some (sent l.letter.from l.letter.to l.letter.signal)

-- its desks are those of its sender and its receiver
abbrev pub IsOfItsDesks : LeftOver → Type 0
IsOfItsDesks l = (l.from_desk ≡ l.letter.from.shard) × (l.to_desk ≡ l.letter.to.shard)

-- each letter is the oldest of those that were not told of before it
abbrev pub LettersAreTold : List Sent → List LeftOver → Type 0
LettersAreTold flights [] = ⊤
LettersAreTold flights (l ∷ left) = (IsOfItsDesks l × IsOldest (still flights left) l) × LettersAreTold flights left

-- what was heard may be as it is
pub record IsStanding (t : Heard) : Type 0 where
  pub legal : IsLegal [] (events t.events)
  pub rising : EventsAreRising t.events
  pub told : LettersAreTold (left_flying t.events) t.left

-- the test tells whether all clocks may have stood just below the newest event's stamp before its first event
abbrev pub TellsBegin : List Stamped → Bool → Type 0
TellsBegin [] b = ⊤
TellsBegin (s ∷ past) b = Decides b (MayBegin past s.stamp)

-- the desks of a node have this after the events, where these letters left over were told of
pub record IsNodeAfter (past : List Stamped) (left : List LeftOver) (k : Desks) : Type 0 where
  pub lanes : (d e : ℕ) → letters_laid k.lanes d e ≡ lane d e (letters_still (letters_flying past) left)
  pub clocks : (d : ℕ) → stamp_noted k.clocks d ≡ clock_of d past
  pub seen : (d : ℕ) (p : Pid) → is_noted k.seen d p ≡ has_seen (events past) d p
  pub turn : k.left ≡ last_lane left
  pub newest : k.newest ≡ clock 0 past
  pub begun : TellsBegin past k.begun

-- what is made on the desk at the stamp is made after the rest
abbrev pub is_late : Option Stamped → ℕ → ℕ → Bool
is_late None d n = true
is_late (Some t) d n = nat_lt t.stamp n || ((t.stamp == n) && nat_lt t.desk d)

-- what the judge knows is what the history leads to: of a process that has ended why, and nothing that it held; of ids of
-- links and references all that are made after the rest
pub record IsAfterRest (since : Option Stamped) (past : Past) (s : JudgeState) : Type 0 where
  pub links_made : (i : LinkId) → is_late since i.desk i.number ≡ true → list_any (same_link i) s.links ≡ made_link past i
  pub links_only : (i : LinkId) → list_any (same_link i) s.links ≡ true → made_link past i ≡ true
  pub refs_made : (m : Ref) → is_late since m.desk m.number ≡ true → list_any (same_ref m) s.refs ≡ made_ref past m
  pub refs_only : (m : Ref) → list_any (same_ref m) s.refs ≡ true → made_ref past m ≡ true
  pub alike : (p : Pid) → outcome (now_is s p) ≡ outcome (life [] past p)
  pub flies : s.flights ≡ flying [] past

-- the hearing heard this, and it may be as it is
pub record IsHeard (t : Heard) (h : Hearing) : Type 0 where
  pub stands : IsStanding t
  -- what the judge knows is what the events lead to, without the letters that were told of
  pub knows : IsAfterRest t.since (events t.events) (record h.state { flights = left_flying t.events })
  pub flies : h.state.flights ≡ still (left_flying t.events) t.left
  pub last : h.last ≡ newest t.events
  pub count : h.events ≡ capped (length t.events)
  pub desks : h.desks ≡ desks_of t.events
  pub letters : h.letters ≡ capped (length t.left)
  pub origin : IsOrigin t.events t.left h.foreign
  pub node : h.foreign ≡ None → IsNodeAfter t.events t.left h.node
  pub since : h.since ≡ t.since
  -- what comes next comes after the rest, and over a rest a node prints each event
  pub late : (s : Stamped) → is_above (newest t.events) s ≡ true → is_late t.since s.desk s.stamp ≡ true
  pub of_node : is_some t.since ≡ true → t.left ≡ [] → h.foreign ≡ None

-- the event may be heard next: no letter was told of, it is above the event before, and it may come
abbrev pub MayHear : Heard → Stamped → Type 0
MayHear t s = (t.left ≡ []) × (is_above (newest t.events) s ≡ true) × May [] (events t.events) s.event

abbrev pub with_event : Stamped → Heard → Heard
with_event s t = record { events = s ∷ t.events; left = t.left; since = t.since }

abbrev pub with_letter : LeftOver → Heard → Heard
with_letter l t = record { events = t.events; left = l ∷ t.left; since = t.since }

-- why the event may not be heard next: the first of these that holds, in this order
abbrev pub IsObjection : Heard → Stamped → Objection → Type 0
IsObjection t s Behind = ¬ (t.left ≡ [])
IsObjection t s (Sinks last) = (t.left ≡ []) × (newest t.events ≡ Some last) × (follows last s ≡ false)
IsObjection t s (MayNot c against) =
    (t.left ≡ [])
    × (is_above (newest t.events) s ≡ true)
    × IsCause [] (events t.events) s.event c
    × (against ≡ contradiction (known_after [] (events t.events)) s.event c)
IsObjection t s (OfNoNode why) =
    (t.left ≡ [])
    × (is_above (newest t.events) s ≡ true)
    × (is_some t.since ≡ true)
    × IsNoNode t.events s why
IsObjection t s Memory = MayHear t s
IsObjection t s _ = ⊥

abbrev pub Hears : Heard → Stamped → Result Hearing Objection → Type 0
Hears t s (Ok h) = MayHear t s × IsHeard (with_event s t) h
Hears t s (Err o) = IsObjection t s o

-- why the letter may not be told of next
abbrev pub IsMisfit : Heard → LeftOver → Objection → Type 0
IsMisfit t l OtherDesks = ¬ IsOfItsDesks l
IsMisfit t l (OtherLetter o) =
    IsOfItsDesks l
    × ¬ IsOldest (still (left_flying t.events) t.left) l
    × (o
    ≡ option_map (λ f. f.signal) (find (is_between l.letter.from l.letter.to) (still (left_flying t.events) t.left)))
IsMisfit t l _ = ⊥

abbrev pub TellsLetter : Heard → LeftOver → Result Hearing Objection → Type 0
TellsLetter t l (Ok h) = IsHeard (with_letter l t) h
TellsLetter t l (Err o) = IsMisfit t l o

-- the counts of what was heard, and the first line that no node prints, if there is one
pub record IsVerdict (t : Heard) (v : Verdict) : Type 0 where
  pub events : v.events ≡ capped (length t.events)
  pub desks : v.desks ≡ desks_of t.events
  pub letters : v.letters ≡ capped (length t.left)
  pub origin : IsOrigin t.events t.left v.foreign

-- the letters told of are all that is on its way
abbrev pub AllTold : Heard → Type 0
AllTold t = still (left_flying t.events) t.left ≡ []

-- what is on its way and was not told of, the oldest
abbrev pub IsUntold : Heard → Objection → Type 0
IsUntold t (Untold a b x) = slice_get (still (left_flying t.events) t.left) 0 ≡ Some (sent a b x)
IsUntold t _ = ⊥

abbrev pub EndsHearing : Heard → Result Verdict Objection → Type 0
EndsHearing t (Ok v) = AllTold t × IsVerdict t v
EndsHearing t (Err o) = IsUntold t o

-- what the functions of the crate say of one event
abbrev pub IsSunk : Option Stamped → Stamped → Option Stamped → Type 0
IsSunk last s None = is_above last s ≡ true
IsSunk last s (Some t) = (last ≡ Some t) × (follows t s ≡ false)

abbrev pub Objects : Heard → Stamped → Option Objection → Type 0
Objects t s None = MayHear t s
Objects t s (Some o) = IsObjection t s o

pub record IsWithout (l : LeftOver) (old new : Hearing) : Type 0 where
  pub state : new.state
      ≡ record old.state { flights = without_first (is_between l.letter.from l.letter.to) old.state.flights }
  pub last : new.last ≡ old.last
  pub count : new.events ≡ old.events
  pub desks : new.desks ≡ old.desks
  pub since : new.since ≡ old.since
  pub letters : new.letters ≡ min (old.letters + 1) (2 ^ 64 - 1)
  pub lanes : IsLaid l.letter.from.shard l.letter.to.shard
      (drop 1 (letters_laid old.node.lanes l.letter.from.shard l.letter.to.shard)) old.node.lanes new.node.lanes
  pub node : new.node ≡ record old.node { lanes = new.node.lanes; left = (l.letter.from.shard, l.letter.to.shard) }
  pub foreign : new.foreign
      ≡ first_foreign old.foreign (no_left old.node l) (min (min (old.events + old.letters) (2 ^ 64 - 1) + 1) (2 ^ 64 - 1))

-- the state and the desks after an event that may come; of the desks only where a node prints it
pub record IsAfterEvent (is_of_node : Bool) (s : Stamped) (old : JudgeState) (k : Desks) (new : JudgeState) (m : Desks)
    : Type 0 where
  pub step : IsStep old s.event new
  pub node : is_of_node ≡ true → IsMovedOn new (lived old.lives s.event) (may_begin k old s.stamp) s k m

-- why no node prints the event, if the hearing went on from a rest
abbrev pub strange : Hearing → Stamped → Option NoNode
strange h s = cond (is_some h.since) (no_node h.node h.state s) None
