-- What was taken out of the mailboxes, and to whom it was handed.
use Rattle.std.specs.Prelude.{◌≡◌, ◌⊎◌, ℕ, ◌≤◌, true, List, [], ◌∷◌, ◌++◌, Option, Some, None}
use Rattle.pt_signal.specs.declared.pid.Pid.{Pid}
use Rattle.pt_signal.specs.declared.item.Item.{Item}
use Rattle.pt_signal.specs.declared.item.Pick.{Pick}
use Rattle.pt_signal.specs.Values.{fits}
use Rattle.pt_shard.specs.ShardState.{ShardState}
use Rattle.pt_behaviour.specs.declared.behaviour.Next.{Next}
use Rattle.pt_behaviour.specs.declared.behaviour.Next.TheVariants.{Proceed}
use Rattle.pt_behaviour.specs.declared.births.Role.{Role}
use Rattle.pt_behaviour.specs.Behaving.{pick_of, limit_of, Answers, takes}
use Rattle.pt_crew.specs.Visiting.{Roles, AreWith}

-- whoever is of the crew was so before, and as it was
abbrev pub MayLeave : {B : Type 0} → Roles B → Roles B → Type 0
MayLeave {B} old new = (q : Pid) (role : B × Next) → new q ≡ Some role → old q ≡ Some role

-- who is handed an item waited for a pick that fits it, and who is handed none was to proceed, or waited until a time
-- that has come
abbrev pub MayBeHanded : ℕ → Next → Option Item → Type 0
MayBeHanded time next None = (next ≡ Proceed) ⊎ ((at : ℕ) × (limit_of next ≡ Some at) × (at ≤ time))
MayBeHanded time next (Some item) = (pick : Pick) × (pick_of next ≡ Some pick) × (fits pick item ≡ true)

-- the item, or none, is handed to the behaviour of p at that time, and what that answers is what p does next; all others
-- stay
pub record HandsOne {B : Type 0} (answers : Answers B) (time : ℕ) (old : Roles B) (p : Pid) (item : Option Item)
    (new : Roles B) : Type 0 where
  pub was : B
  pub before : Next
  pub waited : old p ≡ Some (was, before)
  pub may : MayBeHanded time before item
  pub now : B
  pub next : Next
  -- on its desk as it was then
  pub desk : ShardState
  pub later : ShardState
  pub births : List (Role B)
  pub answer : answers time was desk p item next now later births
  pub after : AreWith p (Some (now, next)) old new

-- so one after the other, the newest in front; in between some may leave
abbrev pub HandsAll : {B : Type 0} → Answers B → ℕ → List (Pid × Option Item) → Roles B → Roles B → Type 0
HandsAll answers time [] old new = MayLeave old new
HandsAll {B} answers time (t ∷ handed) old new =
    (before : Roles B) × (after : Roles B) × HandsAll answers time handed old before
    × HandsOne answers time before t.0 t.1 after × MayLeave after new

-- the items among what was handed over
abbrev pub item_handed : Pid → Option Item → List (Pid × Item)
item_handed p None = []
item_handed p (Some item) = (p, item) ∷ []

abbrev pub items_handed : List (Pid × Option Item) → List (Pid × Item)
items_handed [] = []
items_handed (t ∷ handed) = item_handed t.0 t.1 ++ items_handed handed

-- what was taken out of the mailboxes was handed, each item once and in order, to the behaviour of whoever took it
pub record Handed {B : Type 0} (answers : Answers B) (time : ℕ) (old : Roles B) (d : ShardState) (new : Roles B)
    (e : ShardState) : Type 0 where
  pub handed : List (Pid × Option Item)
  pub hands : HandsAll answers time handed old new
  pub takes : takes e.journal ≡ items_handed handed ++ takes d.journal
