-- Nodes: what opening, gathering, settling and giving up answer C, and what they leave in the handles.
use Rattle.std.specs.Prelude.{◌≡◌, ◌≢◌, ℕ, ◌<◌, ◌⊎◌, Bool, true, false, List, [], length, map, replicate, reverse}
use Rattle.std.specs.Prelude.{Option, Some, None, Result, Ok, Err, Vec}
use Rattle.pt_events.specs.Journal.{IsMerge, events}
use Rattle.pt_laws.specs.Laws.{LegalWithLeftOver}
use Rattle.pt_laws.specs.Load.{IsQuiet}
use Rattle.pt_signal.specs.declared.config.Config.{Config}
use Rattle.pt_signal.specs.declared.config.OpenError.{OpenError}
use Rattle.pt_signal.specs.declared.config.OpenError.TheVariants.{Bounds, Memory}
use Rattle.pt_signal.specs.declared.config.Setting.TheVariants.{Desks}
use Rattle.pt_shard.specs.declared.stop.Stop.{Stop}
use Rattle.pt_signal.specs.Settings.{IsFirstOut, IsInRange}
use Rattle.pt_desk.specs.DeskState.{DeskState}
use Rattle.pt_gathered.specs.Gathered.{GatheredState, begins, journals, over}
use Rattle.pt_gathered.specs.LeftOvers.{all_left}
use Rattle.pt_gathered.specs.Lawful.{LanesKeep, KeepsHeadline, IsLegalNode, AnswersHold, IsQuietNode, LinksStand}
use Rattle.pt_gathered.specs.Lawful.{WatchesStand, QuestionsAnswered, IsBounded}
use Rattle.pt_gathered.specs.Settling.{Runs, Settles, NothingLeft}
use Rattle.pt_gathered.specs.Order.{Passes, SettlingStops}
use Rattle.pt_gathered.specs.Quiet.{QuietState}
use Rattle.pt_workers.specs.Desks.{desk_kept}
use Rattle.pt_node.specs.Opening.{AreFresh}
use Rattle.pt_node.specs.Gathering.{Gathers, HasJournalsOf, ReadsAreTrue}
use Rattle.pt_node.specs.Resuming.{Resumes}
use Rattle.pt_c_values.specs.declared.types.PtConfig.{PtConfig}
use Rattle.pt_c_values.specs.Codes.{open_code, stop_code, empty, filled}
use Rattle.pt_c_values.specs.Crossing.{config_in}
use Rattle.pt_c_values.specs.Places.{HandlePlace, values, full}
use Rattle.pt_c_desks.specs.Answers.{HistoryState}
use Rattle.pt_c_desks.specs.QuietNodes.{is_listed, node_of}
use Rattle.pt_c_desks.specs.declared.quiet_node.QuietNode.{QuietNode}
use Rattle.pt_c_desks.specs.declared.quiet_node.QuietNode.TheVariants.{Listed}
pub use Rattle.pt_c_values.specs.Filling.{IfNone, IfEmpty, GivesUp}
use Rattle.pt_c_desks.specs.InOrder.{are_in_order}

-- opening ------------------------------------------------------------------------------

-- why a node is not opened
abbrev pub OpenRefused : Config → OpenError → Type 0
OpenRefused c (Bounds setting) = (¬ IsInRange c) × IsFirstOut c setting
OpenRefused c Memory = IsInRange c

abbrev pub OpensMany : {A : Type 0} → ℕ → PtConfig → Result (Vec DeskState A) OpenError → Type 0
OpensMany n c (Ok desks) = IsInRange (config_in n c) × AreFresh (config_in n c) desks.items
OpensMany n c (Err e) = OpenRefused (config_in n c) e

-- each handle has its desk
pub record Opened (n : ℕ) (c : PtConfig) (code : ℕ) (new : List (HandlePlace DeskState)) : Type 0 where
  pub done : code ≡ 0
  pub in_range : IsInRange (config_in n c)
  pub desks : List DeskState
  pub fresh : AreFresh (config_in n c) desks
  pub are : new ≡ map full desks

-- or the handles are as they were
pub record NotOpened (n : ℕ) (c : PtConfig) (code : ℕ) (old new : List (HandlePlace DeskState)) : Type 0 where
  pub error : OpenError
  pub why : OpenRefused (config_in n c) error
  pub code_is : code ≡ open_code error
  pub same : new ≡ old

abbrev pub OpensAs : PtConfig → ℕ → List (HandlePlace DeskState) → List (HandlePlace DeskState) → Type 0
OpensAs c code old new =
    IfNone (values old) (Opened (length old) c code new ⊎ NotOpened (length old) c code old new)
    ((code ≡ filled) × (new ≡ old))

-- gathering ----------------------------------------------------------------------------

-- there is a handle, and each has a desk
abbrev pub AreAllFull : List (HandlePlace DeskState) → Type 0
AreAllFull places = (0 < length places) × (length (values places) ≡ length places)

-- whether each is at the place of its number, and there are as many as their node has
abbrev pub in_order : List (HandlePlace DeskState) → Bool
in_order places = are_in_order 0 (length places) places

-- there is a handle, each has a desk, and so they are all desks of a node in order, if they are of one
abbrev pub IsWholeNode : List (HandlePlace DeskState) → Type 0
IsWholeNode places = AreAllFull places × (in_order places ≡ true)

-- what holds of a node that was gathered of these desks
pub record IsGatheredOf (desks : List DeskState) (g : GatheredState) : Type 0 where
  pub gathers : Gathers desks g
  pub journals_are : HasJournalsOf desks g
  pub lanes : LanesKeep g
  pub headline : KeepsHeadline g
  pub legal : IsLegalNode g
  pub answers : AnswersHold g
  pub reads : ReadsAreTrue desks g

-- the handles of the desks are empty, and out has the node
pub record Joined (code : ℕ) (desks : List DeskState) (new : List (HandlePlace DeskState))
    (out : HandlePlace GatheredState) : Type 0 where
  pub done : code ≡ 0
  pub node : GatheredState
  pub is_of : IsGatheredOf desks node
  pub emptied : new ≡ replicate (length desks) None
  pub out_is : out ≡ full node

-- there was no memory: the handles have all desks, as they were
pub record NotJoined (code : ℕ) (desks : List DeskState) (new : List (HandlePlace DeskState))
    (before after : HandlePlace GatheredState) : Type 0 where
  pub no_memory : code ≡ 2
  pub back : List DeskState
  pub kept : map desk_kept back ≡ map desk_kept desks
  pub are : new ≡ map full back
  pub out_same : after ≡ before

abbrev pub Joins : ℕ → List DeskState → List (HandlePlace DeskState) → HandlePlace GatheredState → HandlePlace GatheredState → Type 0
Joins code desks new before after = Joined code desks new after ⊎ NotJoined code desks new before after

-- a code, and nothing has changed
abbrev pub Refused : ℕ → ℕ → {A B : Type 0} → A → A → B → B → Type 0
Refused is code old new before after = (code ≡ is) × (new ≡ old) × (after ≡ before)

-- they are brought together, where out is empty
abbrev pub GathersWhole : ℕ → List (HandlePlace DeskState) → List (HandlePlace DeskState) → HandlePlace GatheredState
    → HandlePlace GatheredState → Type 0
GathersWhole code old new before after =
    IfEmpty before (Joins code (values old) new before after) (Refused filled code old new before after)

pub record GathersAs (code : ℕ) (old new : List (HandlePlace DeskState)) (before after : HandlePlace GatheredState) : Type 0 where
  pub not_all : ¬ AreAllFull old → Refused empty code old new before after
  pub out_of_order : AreAllFull old → in_order old ≡ false
      → Refused (open_code (Bounds Desks)) code old new before after
  pub all_full : AreAllFull old → in_order old ≡ true → GathersWhole code old new before after

-- settling -----------------------------------------------------------------------------

-- what holds of a node that was settled
pub record IsSettledOf (g : GatheredState) (q : QuietState) : Type 0 where
  pub order : (count : ℕ) × Passes (length g.shards) count g q.gathered
  pub runs : Runs g 0 q.gathered q.handled
  pub nothing_left : NothingLeft q.gathered
  pub bounded : IsBounded g q.gathered
  pub quiet : IsQuietNode q.gathered
  pub links : LinksStand q.gathered
  pub watches : WatchesStand q.gathered
  pub answers : AnswersHold q.gathered
  pub questions : QuestionsAnswered q.gathered

-- what holds of a node whose settling stopped: a receipt was refused, or there was no memory after the last one
pub record IsStoppedOf (g : GatheredState) (fault : Stop) (node : GatheredState) : Type 0 where
  pub settles : Settles g node
  pub order : SettlingStops (length g.shards) fault g node
  pub bounded : IsBounded g node
  pub lanes : LanesKeep node
  pub headline : KeepsHeadline node
  pub legal : IsLegalNode node
  pub answers : AnswersHold node

-- the settled node is in its handle, with the list of its pids if it was to have one
pub record Settled (listed : Bool) (code : ℕ) (g : GatheredState) (new : HandlePlace GatheredState)
    (out : HandlePlace QuietNode) : Type 0 where
  pub done : code ≡ 0
  pub emptied : new ≡ None
  pub node : QuietNode
  pub list : is_listed node ≡ listed
  pub is_of : IsSettledOf g (node_of node)
  pub out_is : out ≡ full node

-- settling stopped: the handle has the node with what was handled
pub record NotSettled (code : ℕ) (g : GatheredState) (new : HandlePlace GatheredState)
    (before after : HandlePlace QuietNode) : Type 0 where
  pub fault : Stop
  pub code_is : code ≡ stop_code (Some fault)
  pub node : GatheredState
  pub is_of : IsStoppedOf g fault node
  pub new_is : new ≡ full node
  pub out_same : after ≡ before

-- there was no memory for what settling leaves, before anything was handled
abbrev pub NotBegun : ℕ → GatheredState → HandlePlace GatheredState → HandlePlace QuietNode → HandlePlace QuietNode → Type 0
NotBegun code g new before after = (code ≡ 2) × (new ≡ full g) × (after ≡ before)

abbrev pub SettlesOne : Bool → ℕ → GatheredState → HandlePlace GatheredState → HandlePlace QuietNode → HandlePlace QuietNode
    → Type 0
SettlesOne listed code g new before after =
    Settled listed code g new after ⊎ NotSettled code g new before after ⊎ NotBegun code g new before after

-- the node is settled, with the list of its pids or without
abbrev pub SettlesAs : Bool → ℕ → HandlePlace GatheredState → HandlePlace GatheredState → HandlePlace QuietNode
    → HandlePlace QuietNode → Type 0
SettlesAs listed code (Some (Some g)) new before after =
    IfEmpty before (SettlesOne listed code g new before after) (Refused filled code (full g) new before after)
SettlesAs listed code old new before after = Refused empty code old new before after

-- the node has the list of its pids; or it had none, and there was no memory for one
abbrev pub ListsItsPids : ℕ → QuietNode → QuietNode → Type 0
ListsItsPids code old new =
    ((code ≡ 0) × (new ≡ Listed (node_of old))) ⊎ ((code ≡ 2) × (is_listed old ≡ false) × (new ≡ old))

-- going on -----------------------------------------------------------------------------

-- each handle has its desk, and that of the settled node is empty
pub record Resumed (q : QuietNode) (code : ℕ) (new : List (HandlePlace DeskState)) (node : HandlePlace QuietNode) : Type 0 where
  pub done : code ≡ 0
  pub desks : List DeskState
  pub goes_on : Resumes (node_of q).gathered desks
  pub are : new ≡ map full desks
  pub emptied : node ≡ None

-- or there was no memory, and all handles are as they were
abbrev pub NotResumed : QuietNode → ℕ → List (HandlePlace DeskState) → List (HandlePlace DeskState) → HandlePlace QuietNode → Type 0
NotResumed q code old new node = (code ≡ 2) × (new ≡ old) × (node ≡ full q)

-- where there are as many handles as the node has desks; else the code says so
pub record ResumesMany (q : QuietNode) (code : ℕ) (old new : List (HandlePlace DeskState))
    (node : HandlePlace QuietNode) : Type 0 where
  pub as_many : length old ≡ length (node_of q).gathered.shards → Resumed q code new node ⊎ NotResumed q code old new node
  pub not_as_many : length old ≢ length (node_of q).gathered.shards
      → Refused (open_code (Bounds Desks)) code old new (full q) node

abbrev pub ResumesAs : ℕ → HandlePlace QuietNode → HandlePlace QuietNode → List (HandlePlace DeskState) → List (HandlePlace DeskState)
    → Type 0
ResumesAs code (Some (Some q)) node old new =
    IfNone (values old) (ResumesMany q code old new node) (Refused filled code old new (full q) node)
ResumesAs code before after old new = Refused empty code old new before after

-- histories ----------------------------------------------------------------------------

-- the one history of the node, and the letters that were on their way at its end
pub record IsHistoryOf (g : GatheredState) (h : HistoryState) : Type 0 where
  pub merge : IsMerge (journals g) (reverse h.events)
  pub legal : LegalWithLeftOver (begins g) (reverse h.events) (over g)
  pub left : h.left ≡ all_left g

-- in a settled node none was
pub record IsQuietHistoryOf (q : QuietState) (h : HistoryState) : Type 0 where
  pub merge : IsMerge (journals q.gathered) (reverse h.events)
  pub legal : LegalWithLeftOver (begins q.gathered) (reverse h.events) (over q.gathered)
  pub quiet : IsQuiet (begins q.gathered) (events (reverse h.events))
  pub left : h.left ≡ []

abbrev pub IsHistoryOfQuiet : QuietNode → HistoryState → Type 0
IsHistoryOfQuiet q h = IsQuietHistoryOf (node_of q) h

-- out gets a history of which P holds; or there was no memory, or out had one already
abbrev pub Writes : ℕ → (HistoryState → Type 0) → HandlePlace HistoryState → HandlePlace HistoryState → Type 0
Writes code P before after =
    IfEmpty before (((code ≡ 0) × (h : HistoryState) × P h × (after ≡ full h)) ⊎ ((code ≡ 2) × (after ≡ before)))
    ((code ≡ filled) × (after ≡ before))

abbrev pub HandleTells : {S : Type 0} → ℕ → Option S → (S → HistoryState → Type 0) → HandlePlace HistoryState → HandlePlace HistoryState
    → Type 0
HandleTells code (Some s) P before after = Writes code (P s) before after
HandleTells code None P before after = (code ≡ empty) × (after ≡ before)
