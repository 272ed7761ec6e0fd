-- The children of a supervisor, in their places.
use Rattle.std.specs.Prelude.{◌≡◌, ℕ, zero, suc, ◌<◌, ◌≤◌, ◌&&◌, ◌||◌, not, nat_le, cond, Bool, true, false, is_some, List}
use Rattle.std.specs.Prelude.{Option, Some, None, length, slice_get, slice_set}
use Rattle.std.specs.Option.{option_map}
use Rattle.pt_signal.specs.declared.pid.Pid.{Pid}
use Rattle.pt_children.specs.declared.children.Child.{Child}
use Rattle.pt_children.specs.declared.restart.Restart.{Restart}
use Rattle.pt_children.specs.declared.restart.Restart.TheVariants.{Permanent, Transient, Temporary}
use Rattle.pt_children.specs.declared.children.Shutdown.{Shutdown}
use Rattle.pt_children.specs.declared.trial.Trial.{Trial}
use Rattle.pt_children.specs.declared.trial.Trial.TheVariants.{Asked, Again}

-- it is to live, and does not
abbrev pub is_missing : Child → Bool
is_missing c = c.wanted && not (is_some c.pid)

-- the pid of a child that lives, and how it is ended
abbrev pub leaving : Child → Option (Pid × Shutdown)
leaving c = option_map (λ p. (p, c.shutdown)) c.pid

-- the same at a place, if there is such a place, and the child there is to end: all there are, or it is not wanted
abbrev pub leaving_in : Bool → Option Child → Option (Pid × Shutdown)
leaving_in all None = None
leaving_in all (Some c) = cond (all || not c.wanted) (leaving c) None

abbrev pub or_before : {A : Type 0} → Option A → Option A → Option A
or_before None before = before
or_before (Some a) before = Some a

-- the last of the first n children that lives and is to end: from a place on each is, and before it each that is not
-- wanted
abbrev pub last_alive : List Child → ℕ → ℕ → Option (Pid × Shutdown)
last_alive children first zero = None
last_alive children first (suc n) =
    or_before (leaving_in (nat_le first n) (slice_get children n)) (last_alive children first n)

-- the place of the first child from one place on that is missing
abbrev pub NextMissing : ℕ → List Child → Option ℕ → Type 0
NextMissing from children None =
    (place : ℕ) (c : Child) → from ≤ place → place < length children → slice_get children place ≡ Some c
    → is_missing c ≡ false
NextMissing from children (Some next) =
    (from ≤ next) × (next < length children) × ((c : Child) × (slice_get children next ≡ Some c) × (is_missing c ≡ true))
    × ((place : ℕ) (c : Child) → from ≤ place → place < next → slice_get children place ≡ Some c → is_missing c ≡ false)

-- of the first n nobody is missing
abbrev pub AreStarted : List Child → ℕ → Type 0
AreStarted children n = (place : ℕ) (c : Child) → place < n → slice_get children place ≡ Some c → is_missing c ≡ false

-- none of them lives
abbrev pub NoneLives : List Child → Type 0
NoneLives children = (place : ℕ) (c : Child) → slice_get children place ≡ Some c → c.pid ≡ None

-- none of them lives that is not wanted
abbrev pub NoneUnwanted : List Child → Type 0
NoneUnwanted children =
    (place : ℕ) (c : Child) → slice_get children place ≡ Some c → c.wanted ≡ false → c.pid ≡ None

-- a call asked for its next start
abbrev pub is_by_call : Trial → Bool
is_by_call Asked = true
is_by_call _ = false

-- it is to live, and not only if the start succeeds that a call asked for
abbrev pub IsWanted : Child → Type 0
IsWanted c = (c.wanted ≡ true) × (is_by_call c.trial ≡ false)

-- each permanent child is to live so
abbrev pub PermanentAreWanted : List Child → Type 0
PermanentAreWanted children =
    (place : ℕ) (c : Child) → slice_get children place ≡ Some c → c.restart ≡ Restart.Permanent → IsWanted c

abbrev pub is_temporary : Restart → Bool
is_temporary Permanent = false
is_temporary Transient = false
is_temporary Temporary = true

-- a child is to live again, unless it is temporary
abbrev pub revived_child : Child → Child
revived_child c = record c { wanted = c.wanted || not (is_temporary c.restart); trial = Again }

abbrev pub revive_in : Option Child → ℕ → List Child → List Child
revive_in None place children = children
revive_in (Some c) place children = slice_set children place (revived_child c)

-- so of the first n children each from a place on
abbrev pub revived : List Child → ℕ → ℕ → List Child
revived children first zero = children
revived children first (suc n) =
    let before = revived children first n in
    cond (nat_le first n) (revive_in (slice_get before n) n before) before
