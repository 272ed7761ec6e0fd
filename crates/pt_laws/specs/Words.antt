-- What a process holds, each word in its own terms: what came in, and has not gone since then.
use Rattle.std.specs.Prelude.{◌≡◌, ◌≤◌, Bool, true, false, cond, not, ◌&&◌, ◌||◌, ◌↔◌, Option, Some, None}
use Rattle.std.specs.Prelude.{List, [], ◌∷◌, Contains}
use Rattle.std.specs.List.{list_any}
use Rattle.pt_signal.specs.declared.pid.Pid.{Pid}
use Rattle.pt_signal.specs.declared.ids.Ref.{Ref}
use Rattle.pt_signal.specs.declared.ids.LinkId.{LinkId}
use Rattle.pt_signal.specs.declared.ids.Ids.{Ids}
use Rattle.pt_signal.specs.declared.signal.Signal.TheVariants.{Link, Unlink, LinkExit, Monitor, Demonitor}
use Rattle.pt_events.specs.declared.event.Event.{Event}
use Rattle.pt_events.specs.declared.event.Event.TheVariants.{Born, Said, Came}
use Rattle.pt_signal.specs.Values.{same_pid}
use Rattle.pt_signal.specs.Process.{id_list, has_id, held, same_watch}
use Rattle.pt_events.specs.History.{Past, Start, Phase, at_start, life, state, state_of}
use Rattle.pt_events.specs.History.{is_living, IsLegal}
use Rattle.pt_laws.specs.Acts.{ActsMayCome}
use Rattle.pt_events.specs.Counting.{count}
use Rattle.pt_laws.specs.Since.{standing, StandsSince}

-- In these words f is what the process is just before the event.

-- link ids -----------------------------------------------------------------------------------------

abbrev pub link_ids : Option Ids → List LinkId
link_ids None = []
link_ids (Some ids) = id_list ids

-- the link ids held with q
abbrev pub ids_with : Phase → Pid → List LinkId
ids_with f q = link_ids (held (state_of f).links q)

-- p and q were linked at the birth of one of them, p said Link to q, or a Link of q came while p lived
abbrev pub link_offered : Pid → Pid → Phase → Event → List LinkId
link_offered p q f (Born c (Some a) (Some i)) =
    cond ((same_pid p c && same_pid q a) || (same_pid p a && same_pid q c)) (i ∷ []) []
link_offered p q f (Said a b (Link i)) = cond (same_pid p a && same_pid q b) (i ∷ []) []
link_offered p q f (Came a b (Link i)) = cond (is_living f && same_pid p b && same_pid q a) (i ∷ []) []
link_offered p q f _ = []

abbrev pub are_two : List LinkId → Bool
are_two (i ∷ j ∷ rest) = true
are_two _ = false

-- an id enters unless two are held
abbrev pub link_enters : Pid → Pid → Phase → Event → List LinkId
link_enters p q f e = cond (are_two (ids_with f q)) [] (link_offered p q f e)

-- p said an Unlink of the id to q, or while p lived there came from q an Unlink of the id, or a LinkExit of an id then
-- held
abbrev pub link_leaves : Pid → Pid → Phase → Event → LinkId → Bool
link_leaves p q f (Said a b (Unlink ids)) i = same_pid p a && same_pid q b && has_id ids i
link_leaves p q f (Came a b (Unlink ids)) i = is_living f && same_pid p b && same_pid q a && has_id ids i
link_leaves p q f (Came a b (LinkExit ids r)) i =
    is_living f && same_pid p b && same_pid q a && list_any (has_id ids) (ids_with f q)
link_leaves p q f _ i = false

-- at the start no process has two entries with one pid
abbrev pub HasOneEntryEach : Start → Type 0
HasOneEntryEach start = (p q : Pid) → count (λ e. same_pid q e.0) (state start [] p).links ≤ 1

-- the ids that p holds with q, in order of entry, are those that entered and have not left since; an ended process
-- holds what it held at its end
abbrev pub IdsAreSince : Start → Past → Pid → Pid → Type 0
IdsAreSince start past p q =
    ids_with (life start past p) q
    ≡ standing (ids_with (at_start start p) q) (λ before. link_enters p q (life start before p))
    (λ before. link_leaves p q (life start before p)) past

abbrev pub IdIsSince : Start → Past → Pid → Pid → LinkId → Type 0
IdIsSince start past p q i =
    Contains (ids_with (life start past p) q) i
    ↔ StandsSince (ids_with (at_start start p) q) (λ before. link_enters p q (life start before p))
    (λ before. link_leaves p q (life start before p)) past i

abbrev pub HeldSince : Type 0
HeldSince =
    (start : Start) (past : Past) (p q : Pid) → ActsMayCome start past → HasOneEntryEach start
    → IdsAreSince start past p q

abbrev pub IsHeldSince : Type 0
IsHeldSince =
    (start : Start) (past : Past) (p q : Pid) (i : LinkId) → ActsMayCome start past → HasOneEntryEach start
    → IdIsSince start past p q i

-- kept watches -------------------------------------------------------------------------------------

-- a Monitor of w came while t lived; one that is kept already does not enter again
abbrev pub watch_enters : Pid → Phase → Event → List (Ref × Pid)
watch_enters t f (Came w b (Monitor m)) =
    cond (is_living f && same_pid t b && not (list_any (same_watch m w) (state_of f).kept)) ((m, w) ∷ []) []
watch_enters t f _ = []

-- the Demonitor of the same reference came from the same w while t lived
abbrev pub watch_leaves : Pid → Phase → Event → Ref × Pid → Bool
watch_leaves t f (Came w b (Demonitor m)) k = is_living f && same_pid t b && same_watch m w k
watch_leaves t f _ k = false

-- at the start no process keeps a watch twice
abbrev pub KeepsEachOnce : Start → Type 0
KeepsEachOnce start = (t w : Pid) (m : Ref) → count (same_watch m w) (state start [] t).kept ≤ 1

-- the watches that t keeps, in order of coming, are those that came and were not given up since; an ended process keeps
-- what it kept at its end
abbrev pub WatchesAreSince : Start → Past → Pid → Type 0
WatchesAreSince start past t =
    (state start past t).kept
    ≡ standing (state start [] t).kept (λ before. watch_enters t (life start before t))
    (λ before. watch_leaves t (life start before t)) past

abbrev pub WatchIsSince : Start → Past → Pid → Pid → Ref → Type 0
WatchIsSince start past t w m =
    Contains (state start past t).kept (m, w)
    ↔ StandsSince (state start [] t).kept (λ before. watch_enters t (life start before t))
    (λ before. watch_leaves t (life start before t)) past (m, w)

abbrev pub KeptSince : Type 0
KeptSince = (start : Start) (past : Past) (t : Pid) → KeepsEachOnce start → WatchesAreSince start past t

abbrev pub IsKeptSince : Type 0
IsKeptSince =
    (start : Start) (past : Past) (t w : Pid) (m : Ref) → KeepsEachOnce start → WatchIsSince start past t w m

-- what a process holds ------------------------------------------------------------------------------

-- the link ids of p and the watches that it keeps came in, or were there at the start, and have not gone since
pub record HoldsSince (start : Start) (past : Past) (p : Pid) : Type 0 where
  pub ids : (q : Pid) → IdsAreSince start past p q
  pub each_id : (q : Pid) (i : LinkId) → IdIsSince start past p q i
  pub watches : WatchesAreSince start past p
  pub each_watch : (w : Pid) (m : Ref) → WatchIsSince start past p w m

-- so in each legal history over a start with one entry for each peer, at which no watch is kept twice
abbrev pub EachHoldsSince : Type 0
EachHoldsSince =
    (start : Start) (past : Past) (p : Pid) → IsLegal start past → HasOneEntryEach start → KeepsEachOnce start
    → HoldsSince start past p
