-- Of each kind of children the first place and the last, and where each process is. No public clause cites this module.
use Rattle.std.specs.Prelude.{◌≡◌, ℕ, ◌-◌, ◌<◌, ◌≤◌, ◌&&◌, not, ◌⊎◌, cond, nat_le, nat_lt, Bool, true, false, is_some, List, length, Option, Some, None, slice_get}
use Rattle.pt_signal.specs.declared.pid.Pid.{Pid}
use Rattle.pt_children.specs.declared.children.Child.{Child}
use Rattle.pt_children.specs.declared.spans.Kind.{Kind}
use Rattle.pt_children.specs.declared.spans.Kind.TheVariants.{Alive, Unwanted, Coming, Missing, Over}
use Rattle.pt_children.specs.declared.spans.Span.{Span}
use Rattle.pt_children.specs.declared.spans.Spans.{Spans}
use Rattle.pt_children.specs.Children.{is_missing}
use Rattle.pt_children.specs.Families.{child_at}
use Rattle.pt_children.specs.Homes.{is_coming}
use Rattle.pt_children.specs.Trying.{has_failed_first}

abbrev pub is_kind : Kind → Child → Bool
is_kind Alive c = is_some c.pid
is_kind Unwanted c = is_some c.pid && not c.wanted
is_kind Coming c = is_coming c
is_kind Missing c = is_missing c
is_kind Over c = has_failed_first c.trial

-- a child there is of the kind
abbrev pub IsThere : (Child → Bool) → ℕ → List Child → Type 0
IsThere is place children = (c : Child) × (slice_get children place ≡ Some c) × (is c ≡ true)

-- from one place on and before another none is
abbrev pub NoneBetween : (Child → Bool) → ℕ → ℕ → List Child → Type 0
NoneBetween is first end children =
    (place : ℕ) (c : Child) → first ≤ place → place < end → slice_get children place ≡ Some c → is c ≡ false

abbrev pub Outside : Span → ℕ → Type 0
Outside s place = (place < s.first) ⊎ (s.end ≤ place)

abbrev pub first_in : Span → Option ℕ
first_in s = cond (nat_le s.end s.first) None (Some s.first)

abbrev pub last_in : ℕ → Span → Option ℕ
last_in from s = cond (nat_lt s.first s.end && nat_lt from s.end) (Some (s.end - 1)) None

-- all that are of the kind are in these places
pub record AreIn (is : Child → Bool) (s : Span) (children : List Child) : Type 0 where
  pub ordered : s.first ≤ s.end
  pub within : s.end ≤ length children
  pub others : (place : ℕ) (c : Child) → Outside s place → slice_get children place ≡ Some c → is c ≡ false

-- and the first and the last of the places have one
pub record IsSpan (is : Child → Bool) (s : Span) (children : List Child) : Type 0 where
  pub holds : AreIn is s children
  pub first : s.first < s.end → IsThere is s.first children
  pub last : s.first < s.end → IsThere is (s.end - 1) children

-- all that are of the kind are in these places, except maybe the child at one place
pub record AreInBut (is : Child → Bool) (s : Span) (at : ℕ) (children : List Child) : Type 0 where
  pub ordered : s.first ≤ s.end
  pub within : s.end ≤ length children
  pub others : (place : ℕ) (c : Child) → (place ≡ at → ⊥) → Outside s place → slice_get children place ≡ Some c
      → is c ≡ false

pub record AreSpans (s : Spans) (children : List Child) : Type 0 where
  pub alive : IsSpan (is_kind Alive) s.alive children
  pub unwanted : IsSpan (is_kind Unwanted) s.unwanted children
  pub coming : IsSpan (is_kind Coming) s.coming children
  pub missing : IsSpan (is_kind Missing) s.missing children
  pub over : IsSpan (is_kind Over) s.over children

pub record AreSpansBut (s : Spans) (at : ℕ) (children : List Child) : Type 0 where
  pub alive : AreInBut (is_kind Alive) s.alive at children
  pub unwanted : AreInBut (is_kind Unwanted) s.unwanted at children
  pub coming : AreInBut (is_kind Coming) s.coming at children
  pub missing : AreInBut (is_kind Missing) s.missing at children
  pub over : AreInBut (is_kind Over) s.over at children

-- each process of a child has its place by f
abbrev pub KnowsPlaces : (Pid → Option ℕ) → List Child → Type 0
KnowsPlaces f children = (place : ℕ) (p : Pid) → child_at children place ≡ Some p → f p ≡ Some place

-- so it is of those before a place
abbrev pub KnowsBelow : ℕ → (Pid → Option ℕ) → List Child → Type 0
KnowsBelow end f children = (place : ℕ) (p : Pid) → place < end → child_at children place ≡ Some p → f p ≡ Some place

-- so it is of each but the child at one place
abbrev pub KnowsBut : ℕ → (Pid → Option ℕ) → List Child → Type 0
KnowsBut at f children = (place : ℕ) (p : Pid) → (place ≡ at → ⊥) → child_at children place ≡ Some p → f p ≡ Some place
