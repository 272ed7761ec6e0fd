-- What the laws of histories say of a node whose desks were gathered, and of one that was settled.
use Rattle.std.specs.Prelude.{◌≡◌, ℕ, ◌+◌, ◌≤◌, Bool, true, false, List, Contains, map}
use Rattle.pt_signal.specs.declared.pid.Pid.{Pid}
use Rattle.pt_signal.specs.declared.ids.Ref.{Ref}
use Rattle.pt_signal.specs.declared.item.Item.{Item}
use Rattle.pt_signal.specs.Values.{same_pid}
use Rattle.pt_events.specs.declared.event.Stamped.{Stamped}
use Rattle.pt_events.specs.History.{Past, Start, IsLegal, life, alive, arrived_since}
use Rattle.pt_events.specs.Journal.{events, clock, LanesAgree, IsMerge}
use Rattle.pt_laws.specs.Laws.{LegalWithLeftOver}
use Rattle.pt_laws.specs.Load.{IsQuiet, load}
use Rattle.pt_laws.specs.Links.{LinksAgree}
use Rattle.pt_laws.specs.Headline.{IsHeadline}
use Rattle.pt_events.specs.Counting.{count}
use Rattle.pt_laws.specs.Watch.{said_to, open_in, kept_in}
use Rattle.pt_laws.specs.MonitorLaws.{demonitors_and_downs, times_made}
use Rattle.pt_laws.specs.Asking.{IsAnswer, is_question, is_answer}
use Rattle.pt_laws.specs.Words.{HoldsSince}
use Rattle.pt_shard.specs.Restart.{restarted}
use Rattle.pt_beginning.specs.Beginning.{IsBeginning, start_of}
use Rattle.pt_gathered.specs.Gathered.{GatheredState, begins, journals, over}
use Rattle.pt_gathered.specs.Settling.{event_count}

-- the merge is legal, and what is in flight in it is what is left over
abbrev pub IsLegalNode : GatheredState → Type 0
IsLegalNode g = (merged : List Stamped) → IsMerge (journals g) merged → LegalWithLeftOver (begins g) merged (over g)

-- what each desk sent each other is what came there, in order, and then what is left over
abbrev pub LanesKeep : GatheredState → Type 0
LanesKeep g = LanesAgree (begins g) (journals g) (over g)

-- the headline, of all mailboxes of the node
abbrev pub KeepsHeadline : GatheredState → Type 0
KeepsHeadline g = IsHeadline (begins g) (journals g) (over g)

-- the merge is legal and quiet
abbrev pub IsQuietNode : GatheredState → Type 0
IsQuietNode g =
    (merged : List Stamped) → IsMerge (journals g) merged
    → IsLegal (begins g) (events merged) × IsQuiet (begins g) (events merged)

-- the added events number at most the load of the history before
abbrev pub IsBounded : GatheredState → GatheredState → Type 0
IsBounded old new =
    (merged : List Stamped) → IsMerge (journals old) merged
    → event_count new ≤ event_count old + load (begins old) (events merged)

-- links stand at both ends, or at neither
abbrev pub LinksStand : GatheredState → Type 0
LinksStand g =
    (merged : List Stamped) (p q : Pid) → IsMerge (journals g) merged → same_pid p q ≡ false
    → alive (begins g) (events merged) p ≡ true → LinksAgree (begins g) (events merged) p q

-- a monitor of a live w was demonitored, or had its one DOWN, or is open at w and kept by a live t; of a w that ended
-- none is kept
abbrev pub StandsAt : Start → Past → Pid → Pid → Ref → Type 0
StandsAt start past w t m =
    (alive start past w ≡ true → times_made start past w t m ≡ 1
    → (demonitors_and_downs start past w m + kept_in w t m (life start past t) ≡ 1)
    × (open_in w t m (life start past w) ≡ kept_in w t m (life start past t)))
    × (alive start past w ≡ false → kept_in w t m (life start past t) ≡ 0)

abbrev pub WatchesStand : GatheredState → Type 0
WatchesStand g =
    (merged : List Stamped) (w t : Pid) (m : Ref) → IsMerge (journals g) merged
    → StandsAt (begins g) (events merged) w t m

-- the link ids that each process holds, and the watches that it keeps, came in or were there at the start, and have not
-- gone since
abbrev pub HoldingsStand : GatheredState → Type 0
HoldingsStand g =
    (merged : List Stamped) (p : Pid) → IsMerge (journals g) merged → HoldsSince (begins g) (events merged) p

-- each answer that arrived since the start is true, and all that the asker had sent before it asked came before its
-- question did
abbrev pub AnswersHold : GatheredState → Type 0
AnswersHold g =
    (merged : List Stamped) (q t : Pid) (m : Ref) (x : Bool) → IsMerge (journals g) merged
    → Contains (arrived_since (begins g) (events merged) q) (Item.Alive m t x)
    → IsAnswer (begins g) (events merged) q t m x

-- each question of a live process since the start has its one answer
abbrev pub QuestionsAnswered : GatheredState → Type 0
QuestionsAnswered g =
    (merged : List Stamped) (q t : Pid) (m : Ref) → IsMerge (journals g) merged
    → alive (begins g) (events merged) q ≡ true
    → count (is_answer m t) (arrived_since (begins g) (events merged) q) ≡ said_to q t (is_question m) (events merged)

-- what its desks leave behind is again a state to go on from, at each stamp that no clock has passed
abbrev pub BeginsAgain : GatheredState → Type 0
BeginsAgain g =
    (n : ℕ) → ((d : ℕ) → clock g.config.start (journals g d) ≤ n)
    → IsBeginning n (start_of (map (restarted n) g.shards))
