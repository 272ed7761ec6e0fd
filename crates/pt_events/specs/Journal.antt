-- Journals: one desk's stamped events, the newest first; lanes between desks; the merge.
use Rattle.std.specs.Prelude.{◌≡◌, ℕ, ◌<◌, ◌≤◌, pred, Bool, true, false, cond, ◌==◌, ◌&&◌, ◌⊎◌, Option, Some, None}
use Rattle.std.specs.Prelude.{List, [], ◌∷◌, ◌++◌, map, filter, ⊤}
use Rattle.pt_signal.specs.declared.pid.Pid.{Pid}
use Rattle.pt_signal.specs.declared.ids.LinkId.{LinkId}
use Rattle.pt_signal.specs.declared.signal.Signal.TheVariants.{Link, Monitor, AliveAsk}
use Rattle.pt_events.specs.declared.event.Event.{Event}
use Rattle.pt_events.specs.declared.event.Event.TheVariants.{Born, Said, Came, Took, Flag, Left, Refused}
use Rattle.pt_events.specs.declared.event.Stamped.{Stamped}
use Rattle.pt_signal.specs.declared.letter.Letter.{Letter}
use Rattle.pt_signal.specs.Process.{Sent, sent}
use Rattle.pt_events.specs.History.{Past, Start, is_unborn, is_ended, alive, life, sent_by, May}
use Rattle.pt_signal.specs.declared.config.TheConstants.{MAX_STAMP}

abbrev pub events : List Stamped → Past
events journal = map (λ s. s.event) journal

abbrev pub letter : ℕ → Sent → Letter
letter n l = record { from = l.from; to = l.to; signal = l.signal; stamp = n }

abbrev pub content : Letter → Sent
content l = sent l.from l.to l.signal

-- local journals -----------------------------------------------------------------

-- the stamp of the newest event, or the clock's start
abbrev pub clock : ℕ → List Stamped → ℕ
clock low [] = low
clock low (s ∷ journal) = s.stamp

abbrev pub IsOf : ℕ → Option Pid → Type 0
IsOf d None = ⊤
IsOf d (Some q) = q.shard ≡ d

-- every Born, acting and receiving pid is of the desk
abbrev pub IsHome : ℕ → Event → Type 0
IsHome d (Born p parent link) = (p.shard ≡ d) × IsOf d parent
IsHome d (Said a b x) = a.shard ≡ d
IsHome d (Came a b x) = b.shard ≡ d
IsHome d (Took p k i) = p.shard ≡ d
IsHome d (Flag p on) = p.shard ≡ d
IsHome d (Left p r) = p.shard ≡ d
IsHome d (Refused a b) = a.shard ≡ d

abbrev pub IsLinkAt : ℕ → ℕ → Option LinkId → Type 0
IsLinkAt d n None = ⊤
IsLinkAt d n (Some i) = (i.desk ≡ d) × (i.number ≡ n)

-- new ids and references are the desk and the stamp
abbrev pub IsNewAt : ℕ → ℕ → Event → Type 0
IsNewAt d n (Born p parent link) = IsLinkAt d n link
IsNewAt d n (Said a b (Link i)) = (i.desk ≡ d) × (i.number ≡ n)
IsNewAt d n (Said a b (Monitor m)) = (m.desk ≡ d) × (m.number ≡ n)
IsNewAt d n (Said a b (AliveAsk m)) = (m.desk ≡ d) × (m.number ≡ n)
IsNewAt d n _ = ⊤

module _ (start : Start) where
  -- all but receipts may come, read over the journal alone; that the other of a refused call has ended, its own desk
  -- tells
  abbrev pub MayHere : Past → Event → Type 0
  MayHere past (Came a b x) = ⊤
  MayHere past (Refused a b) = alive start past a ≡ true
  MayHere past e = May start past e

  -- a Said to a pid of the desk comes after that pid's birth; a slot's versions follow one another
  abbrev pub IsKnown : ℕ → ℕ → Past → Event → Type 0
  IsKnown d top past (Said a b x) = b.shard ≡ d → is_unborn (life start past b) ≡ false
  IsKnown d top past (Born p parent link) =
      (0 < p.version) × (p.version ≤ top)
      × (1 < p.version → is_ended (life start past (record p { version = pred p.version })) ≡ true)
  IsKnown d top past _ = ⊤

  -- the next event of desk d
  pub record IsNext (low top d : ℕ) (journal : List Stamped) (s : Stamped) : Type 0 where
    pub here : s.desk ≡ d
    pub later : clock low journal < s.stamp
    pub within : s.stamp ≤ MAX_STAMP
    pub home : IsHome d s.event
    pub may : MayHere (events journal) s.event
    pub new_at : IsNewAt d s.stamp s.event
    pub known : IsKnown d top (events journal) s.event

  abbrev pub IsLocal : ℕ → ℕ → ℕ → List Stamped → Type 0
  IsLocal low top d [] = ⊤
  IsLocal low top d (s ∷ journal) = IsNext low top d journal s × IsLocal low top d journal

  -- what the journal's events send, each with its event's stamp
  abbrev pub letters : List Stamped → List Letter
  letters [] = []
  letters (s ∷ journal) = letters journal ++ map (letter s.stamp) (sent_by start (events journal) s.event)

  abbrev pub posts : List Stamped → ℕ → List Letter
  posts journal e = filter (λ l. l.to.shard == e) (letters journal)

-- what came from pids of desk d, each with the stamp of its receipt
abbrev pub got_of : ℕ → ℕ → Event → List Letter
got_of d n (Came a b x) = cond (a.shard == d) (letter n (sent a b x) ∷ []) []
got_of d n _ = []

abbrev pub got : ℕ → Stamped → List Letter
got d s = got_of d s.stamp s.event

abbrev pub gots : List Stamped → ℕ → List Letter
gots [] d = []
gots (s ∷ journal) d = gots journal d ++ got d s

-- lanes ------------------------------------------------------------------------------

-- from pids of desk d to pids of desk e
abbrev pub in_lane : ℕ → ℕ → Sent → Bool
in_lane d e l = (l.from.shard == d) && (l.to.shard == e)

-- the receipt is that letter's, and later
abbrev pub IsReceiptOf : Letter → Letter → Type 0
IsReceiptOf g l = (content g ≡ content l) × (l.stamp < g.stamp)

-- the first of the posts are those that came, one for one; the rest is left over
abbrev pub Agrees : List Letter → List Letter → List Letter → Type 0
Agrees posted [] over = posted ≡ over
Agrees [] (g ∷ gs) over = ⊥
Agrees (l ∷ ls) (g ∷ gs) over = IsReceiptOf g l × Agrees ls gs over

-- the journals of all desks, by number
abbrev pub Journals : Type 0
Journals = ℕ → List Stamped

abbrev pub LanesAgree : Start → Journals → (ℕ → ℕ → List Letter) → Type 0
LanesAgree start journal over = (d e : ℕ) → Agrees (posts start (journal d) e) (gots (journal e) d) (over d e)

-- the merge ---------------------------------------------------------------------------

-- s comes after t in the order of (stamp, desk)
abbrev pub IsAfter : Stamped → Stamped → Type 0
IsAfter s t = (t.stamp < s.stamp) ⊎ ((t.stamp ≡ s.stamp) × (t.desk < s.desk))

abbrev pub AllBefore : Stamped → List Stamped → Type 0
AllBefore s [] = ⊤
AllBefore s (t ∷ ts) = IsAfter s t × AllBefore s ts

abbrev pub IsRising : List Stamped → Type 0
IsRising [] = ⊤
IsRising (s ∷ ts) = AllBefore s ts × IsRising ts

abbrev pub of_desk : ℕ → List Stamped → List Stamped
of_desk d merged = filter (λ s. s.desk == d) merged

abbrev pub IsMerge : Journals → List Stamped → Type 0
IsMerge journal merged = IsRising merged × ((d : ℕ) → of_desk d merged ≡ journal d)
