-- Histories that a node can have: each event is of its desk's own processes and has the stamp that its desk gives next,
-- letters from desk to desk come in order, and no call goes to a process of which its desk has seen that it has exited,
-- over the whole printed history.
use Rattle.std.specs.Prelude.{◌≡◌, ℕ, ◌+◌, ◌-◌, ◌^◌, ◌<◌, ◌≤◌, ◌==◌, min, max, nat_lt, nat_le, Bool, true, false, cond}
use Rattle.std.specs.Prelude.{not, ◌&&◌, ◌||◌, ◌⊎◌, Option, Some, None, is_some, List, [], ◌∷◌, ◌++◌, drop, length, map}
use Rattle.std.specs.Prelude.{slice_get, ⊤}
use Rattle.pt_signal.specs.declared.pid.Pid.{Pid}
use Rattle.pt_signal.specs.declared.ids.LinkId.{LinkId}
use Rattle.pt_signal.specs.declared.letter.Letter.{Letter}
use Rattle.pt_signal.specs.declared.signal.Signal.{Signal}
use Rattle.pt_signal.specs.declared.signal.Signal.TheVariants.{Message, Link, Monitor, AliveAsk}
use Rattle.pt_signal.specs.Process.{Sent}
use Rattle.pt_events.specs.declared.event.Event.{Event}
use Rattle.pt_events.specs.declared.event.Event.TheVariants.{Born, Said, Came, Took, Flag, Left, Refused}
use Rattle.pt_events.specs.declared.event.Stamped.{Stamped}
use Rattle.pt_signal.specs.declared.config.TheConstants.{MAX_SLOTS, MAX_STAMP}
use Rattle.pt_events.specs.History.{Past, flying, is_living, is_ended, life, reason_of, is_born}
use Rattle.pt_events.specs.Journal.{events, letter, IsHome, IsNewAt, IsKnown}
use Rattle.pt_events.specs.Refusals.{stamped_below}
use Rattle.pt_judge.specs.Judging.{JudgeState, now_is, judge_sends}
use Rattle.pt_signal.specs.declared.letter.LeftOver.{LeftOver}
use Rattle.pt_auditor.specs.declared.desks.Desks.{Desks}
use Rattle.pt_auditor.specs.declared.foreign.Foreign.{Foreign}
use Rattle.pt_auditor.specs.declared.foreign.NoNode.{NoNode}
use Rattle.pt_auditor.specs.declared.foreign.NoNode.TheVariants.{Desk, Stamp, Slot, NoVersion, OtherDesk, OtherId}
use Rattle.pt_auditor.specs.declared.foreign.NoNode.TheVariants.{Version, Unborn, Ended, Seen, Overtakes, OtherStamp}
use Rattle.pt_auditor.specs.declared.foreign.NoNode.TheVariants.{OtherTurn}
use Rattle.pt_auditor.specs.Lanes.{Laid, letters_laid, is_lane, stamp_noted, goes_between, letters_flying}
use Rattle.pt_auditor.specs.Lanes.{letters_still, lane, IsFirstInLane, clock_of}
use Rattle.pt_auditor.specs.Seen.{SeenSlots, has_seen, shows_end, is_noted}

-- what a node's journals promise of an event ------------------------------------------------

-- the receiver of what is said is of one of the 64 desks that a node may have
abbrev pub IsToDesk : Event → Type 0
IsToDesk (Said a b x) = b.shard < 64
IsToDesk _ = ⊤

abbrev pub IsNodeDesk : Stamped → Type 0
IsNodeDesk s = (s.desk < 64) × IsToDesk s.event

abbrev pub IsNodeStamp : ℕ → Type 0
IsNodeStamp n = (0 < n) × (n ≤ MAX_STAMP)

-- a node's slots are from 0 on
abbrev pub IsNodeSlot : Event → Type 0
IsNodeSlot (Born p parent link) = p.slot < MAX_SLOTS
IsNodeSlot (Said a b x) = b.slot < MAX_SLOTS
IsNodeSlot _ = ⊤

-- no signal is sent to a version 0; how a newborn's version follows others is said below
abbrev pub IsNodeVersion : Event → Type 0
IsNodeVersion (Said a b x) = 0 < b.version
IsNodeVersion _ = ⊤

-- how many versions a slot may have is not printed: a newborn's own is not too high
abbrev pub top_of : Event → ℕ
top_of (Born p parent link) = p.version
top_of _ = 0

-- what is said to a pid of the desk comes after that pid's birth; a slot's versions follow one another
abbrev pub IsKnownHere : Past → Stamped → Type 0
IsKnownHere past s = IsKnown [] s.desk (top_of s.event) past s.event

-- a signal whose call a desk refuses, if it sees that the receiver has exited
abbrev pub reaches : Signal → Bool
reaches (Message body) = true
reaches (Link i) = true
reaches (Monitor m) = true
reaches _ = false

-- a desk sees each exit of its own processes: so none of those signals goes to one that has exited
abbrev pub GoesToNoEnded : Past → ℕ → Event → Type 0
GoesToNoEnded past d (Said a b x) = reaches x ≡ true → b.shard ≡ d → is_ended (life [] past b) ≡ false
GoesToNoEnded past d _ = ⊤

-- it has seen the exit of each process for which it was refused a call: so none of those signals goes to it again, or to
-- one before it in its slot
abbrev pub GoesToNoneSeen : Past → ℕ → Event → Type 0
GoesToNoneSeen past d (Said a b x) = reaches x ≡ true → has_seen past d b ≡ false
GoesToNoneSeen past d _ = ⊤

-- letters come from desk to desk in the order of their sending
abbrev pub ComesInOrder : List Stamped → Event → Type 0
ComesInOrder past (Came a b x) = IsFirstInLane a b (letters_flying past)
ComesInOrder past _ = ⊤

-- the stamp is next to the greatest one, if there is one
abbrev pub IsNextStamp : List Stamped → ℕ → Type 0
IsNextStamp [] n = ⊤
IsNextStamp (s ∷ past) n = n ≡ s.stamp + 1

-- all clocks may have stood just below stamp n, where these are the events with lower stamps: the node was opened there,
-- or it was resumed there at the greatest stamp, with nothing on its way
pub record IsStillBelow (low : List Stamped) (n : ℕ) : Type 0 where
  pub still : flying [] (events low) ≡ []
  pub next : IsNextStamp low n

abbrev pub MayBegin : List Stamped → ℕ → Type 0
MayBegin past n = IsStillBelow (stamped_below n past) n

-- The stamp is the one that the desk gives: a receipt's is above the clock and the letter's, and any other's is next to
-- the clock, but for a refused call's, which is above the stamp of an end as well.
abbrev pub IsInTime : List Stamped → ℕ → ℕ → Event → Type 0
IsInTime past d n (Came a b x) =
    (l : Letter) → slice_get (lane a.shard b.shard (letters_flying past)) 0 ≡ Some l
    → n ≡ max (clock_of d past) l.stamp + 1
IsInTime past d n (Refused a b) = ⊤
IsInTime past d n _ = (n ≡ clock_of d past + 1) ⊎ MayBegin past n

-- what an event is alone
pub record IsNamedByNode (s : Stamped) : Type 0 where
  pub desk : IsNodeDesk s
  pub stamp : IsNodeStamp s.stamp
  pub slot : IsNodeSlot s.event
  pub version : IsNodeVersion s.event
  pub home : IsHome s.desk s.event
  pub new_at : IsNewAt s.desk s.stamp s.event

-- a node can print the event next
pub record IsFromNode (past : List Stamped) (s : Stamped) : Type 0 where
  pub named : IsNamedByNode s
  pub known : IsKnownHere (events past) s
  pub alive : GoesToNoEnded (events past) s.desk s.event
  pub unseen : GoesToNoneSeen (events past) s.desk s.event
  pub order : ComesInOrder past s.event
  pub time : IsInTime past s.desk s.stamp s.event

-- why it cannot: the first of these that holds, in this order
abbrev pub IsNoNode : List Stamped → Stamped → NoNode → Type 0
IsNoNode past s Desk = ¬ IsNodeDesk s
IsNoNode past s Stamp = IsNodeDesk s × ¬ IsNodeStamp s.stamp
IsNoNode past s Slot = IsNodeDesk s × IsNodeStamp s.stamp × ¬ IsNodeSlot s.event
IsNoNode past s NoVersion = IsNodeDesk s × IsNodeStamp s.stamp × IsNodeSlot s.event × ¬ IsNodeVersion s.event
IsNoNode past s OtherDesk =
    IsNodeDesk s × IsNodeStamp s.stamp × IsNodeSlot s.event × IsNodeVersion s.event × ¬ IsHome s.desk s.event
IsNoNode past s OtherId =
    IsNodeDesk s × IsNodeStamp s.stamp × IsNodeSlot s.event × IsNodeVersion s.event × IsHome s.desk s.event
    × ¬ IsNewAt s.desk s.stamp s.event
IsNoNode past s Version = IsNamedByNode s × (is_born s.event ≡ true) × ¬ IsKnownHere (events past) s
IsNoNode past s Unborn = IsNamedByNode s × (is_born s.event ≡ false) × ¬ IsKnownHere (events past) s
IsNoNode past s Ended =
    IsNamedByNode s × IsKnownHere (events past) s × ¬ GoesToNoEnded (events past) s.desk s.event
IsNoNode past s Seen =
    IsNamedByNode s × IsKnownHere (events past) s × GoesToNoEnded (events past) s.desk s.event
    × ¬ GoesToNoneSeen (events past) s.desk s.event
IsNoNode past s Overtakes =
    IsNamedByNode s × IsKnownHere (events past) s × GoesToNoEnded (events past) s.desk s.event
    × GoesToNoneSeen (events past) s.desk s.event × ¬ ComesInOrder past s.event
IsNoNode past s OtherStamp =
    IsNamedByNode s × IsKnownHere (events past) s × GoesToNoEnded (events past) s.desk s.event
    × GoesToNoneSeen (events past) s.desk s.event × ComesInOrder past s.event
    × ¬ IsInTime past s.desk s.stamp s.event
-- letters left over alone come in a turn
IsNoNode past s OtherTurn = ⊥

abbrev pub IsJudgedForeign : List Stamped → Stamped → Option NoNode → Type 0
IsJudgedForeign past s None = IsFromNode past s
IsJudgedForeign past s (Some why) = IsNoNode past s why

-- the desks of the letter left over that was told of last; where there is none, the lowest
abbrev pub last_lane : List LeftOver → ℕ × ℕ
last_lane [] = (0, 0)
last_lane (l ∷ left) = (l.letter.from.shard, l.letter.to.shard)

-- letters are left over by the desk of the sender, and of one by that of the receiver
abbrev pub IsInTurnOf : ℕ × ℕ → LeftOver → Type 0
IsInTurnOf before l =
    (before.0 < l.letter.from.shard) ⊎ ((before.0 ≡ l.letter.from.shard) × (before.1 ≤ l.letter.to.shard))

-- a letter left over has the stamp of its sending, and is the oldest of those from its one desk to the other
abbrev pub HasItsStamp : List Letter → LeftOver → Type 0
HasItsStamp letters l =
    (m : Letter) → slice_get (lane l.letter.from.shard l.letter.to.shard letters) 0 ≡ Some m
    → l.letter.stamp ≡ m.stamp

pub record IsLeftByNode (letters : List Letter) (before : ℕ × ℕ) (l : LeftOver) : Type 0 where
  pub order : IsFirstInLane l.letter.from l.letter.to letters
  pub stamp : HasItsStamp letters l
  pub turn : IsInTurnOf before l

abbrev pub IsNoLeft : List Letter → ℕ × ℕ → LeftOver → NoNode → Type 0
IsNoLeft letters before l Overtakes = ¬ IsFirstInLane l.letter.from l.letter.to letters
IsNoLeft letters before l OtherStamp = IsFirstInLane l.letter.from l.letter.to letters × ¬ HasItsStamp letters l
IsNoLeft letters before l OtherTurn =
    IsFirstInLane l.letter.from l.letter.to letters × HasItsStamp letters l × ¬ IsInTurnOf before l
IsNoLeft letters before l _ = ⊥

abbrev pub IsJudgedLeft : List Letter → ℕ × ℕ → LeftOver → Option NoNode → Type 0
IsJudgedLeft letters before l None = IsLeftByNode letters before l
IsJudgedLeft letters before l (Some why) = IsNoLeft letters before l why

-- of a whole history, the newest event and the last letter first ------------------------------

abbrev pub AllFromNode : List Stamped → Type 0
AllFromNode [] = ⊤
AllFromNode (s ∷ past) = IsFromNode past s × AllFromNode past

abbrev pub AllLeftByNode : List Letter → List LeftOver → Type 0
AllLeftByNode letters [] = ⊤
AllLeftByNode letters (l ∷ left) =
    IsLeftByNode (letters_still letters left) (last_lane left) l × AllLeftByNode letters left

-- this is its first event that no node prints
abbrev pub IsFirstForeign : List Stamped → Foreign → Type 0
IsFirstForeign [] f = ⊥
IsFirstForeign (s ∷ past) f =
    IsFirstForeign past f ⊎ (AllFromNode past × (f.line ≡ min (length past + 1) (2 ^ 64 - 1)) × IsNoNode past s f.why)

-- this is its first letter left over that no node prints
abbrev pub IsFirstLeft : List Stamped → List LeftOver → Foreign → Type 0
IsFirstLeft past [] f = ⊥
IsFirstLeft past (l ∷ left) f =
    IsFirstLeft past left f
    ⊎ (AllLeftByNode (letters_flying past) left × (f.line ≡ min (length past + length left + 1) (2 ^ 64 - 1))
    × IsNoLeft (letters_still (letters_flying past) left) (last_lane left) l f.why)

-- a node can have printed the history, or the first line is named that none prints
abbrev pub IsOrigin : List Stamped → List LeftOver → Option Foreign → Type 0
IsOrigin past left None = AllFromNode past × AllLeftByNode (letters_flying past) left
IsOrigin past left (Some f) = IsFirstForeign past f ⊎ (AllFromNode past × IsFirstLeft past left f)

-- by tests ------------------------------------------------------------------------------------

-- a test tells whether a fact holds
abbrev pub Decides : Bool → Type 0 → Type 0
Decides true P = P
Decides false P = ¬ P

abbrev pub is_to_desk : Event → Bool
is_to_desk (Said a b x) = nat_lt b.shard 64
is_to_desk _ = true

abbrev pub is_node_desk : Stamped → Bool
is_node_desk s = nat_lt s.desk 64 && is_to_desk s.event

abbrev pub is_node_stamp : ℕ → Bool
is_node_stamp n = nat_lt 0 n && nat_le n MAX_STAMP

abbrev pub is_node_slot : Event → Bool
is_node_slot (Born p parent link) = nat_lt p.slot MAX_SLOTS
is_node_slot (Said a b x) = nat_lt b.slot MAX_SLOTS
is_node_slot _ = true

abbrev pub is_node_version : Event → Bool
is_node_version (Said a b x) = nat_lt 0 b.version
is_node_version _ = true

abbrev pub is_home : ℕ → Event → Bool
is_home d (Born p None link) = p.shard == d
is_home d (Born p (Some q) link) = (p.shard == d) && (q.shard == d)
is_home d (Said a b x) = a.shard == d
is_home d (Came a b x) = b.shard == d
is_home d (Took p k i) = p.shard == d
is_home d (Flag p on) = p.shard == d
is_home d (Left p r) = p.shard == d
is_home d (Refused a b) = a.shard == d

abbrev pub is_link_at : ℕ → ℕ → Option LinkId → Bool
is_link_at d n None = true
is_link_at d n (Some i) = (i.desk == d) && (i.number == n)

abbrev pub is_new_at : ℕ → ℕ → Event → Bool
is_new_at d n (Born p parent link) = is_link_at d n link
is_new_at d n (Said a b (Link i)) = (i.desk == d) && (i.number == n)
is_new_at d n (Said a b (Monitor m)) = (m.desk == d) && (m.number == n)
is_new_at d n (Said a b (AliveAsk m)) = (m.desk == d) && (m.number == n)
is_new_at d n _ = true

abbrev pub has_ended : JudgeState → Pid → Bool
has_ended s p = is_some (reason_of (now_is s p))

abbrev pub is_next_version : JudgeState → Pid → Bool
is_next_version s p =
    cond (nat_lt p.version 2) (p.version == 1) (has_ended s (record p { version = p.version - 1 }))

abbrev pub was_born : JudgeState → Pid → Bool
was_born s p = is_living (now_is s p) || has_ended s p

abbrev pub is_known : JudgeState → ℕ → Event → Bool
is_known s d (Said a b x) = not (b.shard == d) || was_born s b
is_known s d _ = true

abbrev pub goes_to_no_ended : JudgeState → ℕ → Event → Bool
goes_to_no_ended s d (Said a b x) = not (reaches x && (b.shard == d) && has_ended s b)
goes_to_no_ended s d _ = true

abbrev pub goes_to_none_seen : SeenSlots → ℕ → Event → Bool
goes_to_none_seen noted d (Said a b x) = not (reaches x && is_noted noted d b)
goes_to_none_seen noted d _ = true

abbrev pub is_in_turn : JudgeState → Event → Bool
is_in_turn s (Born p parent link) = is_next_version s p
is_in_turn s _ = true

-- the first that no node prints, where the next event has this line and may have such a reason
abbrev pub first_foreign : Option Foreign → Option NoNode → ℕ → Option Foreign
first_foreign (Some f) why n = Some f
first_foreign None (Some why) n = Some (record { line = n; why = why })
first_foreign None None n = None

-- the desks' first letter in the lane
abbrev pub first_laid : Desks → Pid → Pid → Option Letter
first_laid k a b = slice_get (letters_laid k.lanes a.shard b.shard) 0

abbrev pub is_between_them : Pid → Pid → Option Letter → Bool
is_between_them a b None = false
is_between_them a b (Some l) = goes_between a b l

abbrev pub is_in_order : Desks → Event → Bool
is_in_order k (Came a b x) = is_between_them a b (first_laid k a b)
is_in_order k _ = true

abbrev pub is_begin : ℕ → ℕ → Bool
is_begin newest n = (newest == 0) || (newest + 1 == n)

abbrev pub may_begin : Desks → JudgeState → ℕ → Bool
may_begin k j n = cond (n == k.newest) k.begun ((length j.flights == 0) && is_begin k.newest n)

abbrev pub is_above_both : ℕ → ℕ → Option Letter → Bool
is_above_both clock n None = true
is_above_both clock n (Some l) = n == max clock l.stamp + 1

abbrev pub is_in_time : Desks → JudgeState → ℕ → ℕ → Event → Bool
is_in_time k j d n (Came a b x) = is_above_both (stamp_noted k.clocks d) n (first_laid k a b)
is_in_time k j d n (Refused a b) = true
is_in_time k j d n _ = (n == stamp_noted k.clocks d + 1) || may_begin k j n

abbrev pub no_place : Desks → JudgeState → Stamped → Option NoNode
no_place k j s =
    cond (is_in_turn j s.event)
    (cond (is_known j s.desk s.event)
    (cond (goes_to_no_ended j s.desk s.event)
    (cond (goes_to_none_seen k.seen s.desk s.event)
    (cond (is_in_order k s.event)
    (cond (is_in_time k j s.desk s.stamp s.event) None (Some OtherStamp)) (Some Overtakes))
    (Some Seen))
    (Some Ended))
    (Some Unborn))
    (Some Version)

abbrev pub no_name : Stamped → Option NoNode
no_name s =
    cond (is_node_desk s)
    (cond (is_node_stamp s.stamp)
    (cond (is_node_slot s.event)
    (cond (is_node_version s.event)
    (cond (is_home s.desk s.event) (cond (is_new_at s.desk s.stamp s.event) None (Some OtherId)) (Some OtherDesk))
    (Some NoVersion))
    (Some Slot))
    (Some Stamp))
    (Some Desk)

abbrev pub first_reason : Option NoNode → Option NoNode → Option NoNode
first_reason None why = why
first_reason (Some why) _ = Some why

abbrev pub no_node : Desks → JudgeState → Stamped → Option NoNode
no_node k j s = first_reason (no_name s) (no_place k j s)

abbrev pub has_its_stamp : ℕ → Option Letter → Bool
has_its_stamp n None = true
has_its_stamp n (Some l) = n == l.stamp

abbrev pub is_in_turn_of : ℕ × ℕ → LeftOver → Bool
is_in_turn_of before l =
    nat_lt before.0 l.letter.from.shard
    || ((before.0 == l.letter.from.shard) && nat_le before.1 l.letter.to.shard)

abbrev pub no_left : Desks → LeftOver → Option NoNode
no_left k l =
    cond (is_between_them l.letter.from l.letter.to (first_laid k l.letter.from l.letter.to))
    (cond (has_its_stamp l.letter.stamp (first_laid k l.letter.from l.letter.to))
    (cond (is_in_turn_of k.left l) None (Some OtherTurn)) (Some OtherStamp))
    (Some Overtakes)

-- what the desks have after one event more ------------------------------------------------------

abbrev pub landed_laid : Event → Laid → ℕ → ℕ → List Letter
landed_laid (Came a b x) laid d e =
    cond (is_lane a.shard b.shard (d, e)) (drop 1 (letters_laid laid a.shard b.shard)) (letters_laid laid d e)
landed_laid _ laid d e = letters_laid laid d e

-- what came is on its way no more, and what the event sends is
abbrev pub IsCarried : ℕ → Event → List Sent → Laid → Laid → Type 0
IsCarried n event sent old new =
    (d e : ℕ) → letters_laid new d e ≡ landed_laid event old d e ++ lane d e (map (letter n) sent)

pub record IsMovedOn (j : JudgeState) (lived begun : Bool) (s : Stamped) (old new : Desks) : Type 0 where
  pub lanes : IsCarried s.stamp s.event (judge_sends j.lives lived s.event) old.lanes new.lanes
  pub clocks : (d : ℕ) → stamp_noted new.clocks d ≡ cond (s.desk == d) s.stamp (stamp_noted old.clocks d)
  pub seen : (d : ℕ) (p : Pid) → is_noted new.seen d p ≡ (shows_end d p s.event || is_noted old.seen d p)
  pub left : new.left ≡ old.left
  pub newest : new.newest ≡ s.stamp
  pub begun_is : new.begun ≡ begun
