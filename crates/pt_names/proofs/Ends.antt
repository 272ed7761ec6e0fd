-- A call ends once.
use Rattle.std.proofs.Common.{◌≡◌, ℕ, ◌+◌, Bool, true, false, cond, ◌&&◌, ◌||◌, not, List, [], ◌∷◌, ◌++◌, Option, Some, None, is_some, refl, ap, subst, ◌∙◌, arith}
use Rattle.std.specs.List.{list_any}
use Rattle.pt_signal.specs.declared.item.Item.{Item}
use Rattle.pt_signal.specs.declared.item.Item.TheVariants.{User, Exit, Down, Alive}
use Rattle.pt_names.specs.declared.pending.Pending.{Pending}
use Rattle.pt_names.specs.declared.pending.Heard.{Heard}
use Rattle.pt_names.specs.Ending.{says_to_call, heard_as, is_end, ends_among, is_its, is_due, EndsOnce}
use Rattle.pt_names.specs.Ending.{CallEvent, item, moment, CallEnd, answered, server_down, timed_out, end_heard, end_said, ends_reported, or_first, first_call_end, EndsFirst}

-- what an item says to an open call is an end of it
abbrev AreEnds : Option Heard → Type 0
AreEnds None = Unit {0}
AreEnds (Some h) = is_end h ≡ true

if_said : (b : Bool) (h : Heard) → is_end h ≡ true → AreEnds (cond b (Some h) None)
if_said true h e = e
if_said false h e = tt

said_ends : (p : Pending) (i : Item) → AreEnds (says_to_call p i)
said_ends p (User from body) = if_said _ (Heard.Answer body.kind) refl
said_ends p (Exit from reason) = tt
said_ends p (Down m q reason) = if_said _ (Heard.Down reason) refl
said_ends p (Alive m q x) = tt

abbrev opened : Pending → Bool → Pending
opened p b = record p { waits = b }

-- what it says is not asked of whether the call is open
says_same : (p : Pending) (b : Bool) (i : Item) → says_to_call (opened p b) i ≡ says_to_call p i
says_same p b (User from body) = refl
says_same p b (Exit from reason) = refl
says_same p b (Down m q reason) = refl
says_same p b (Alive m q x) = refl

never : (o : Option Heard) → is_end (heard_as false o) ≡ false
never None = refl
never (Some h) = refl

none_more : (e : Bool) (n : ℕ) → e ≡ false → n ≡ 0 → cond e 1 0 + n ≡ 0
none_more e n is zero = grind (arith, is, zero)

one_more : (e : Bool) (n : ℕ) → e ≡ true → n ≡ 0 → cond e 1 0 + n ≡ 1
one_more e n is zero = grind (arith, is, zero)

no_more : (n : ℕ) (m : ℕ) → n ≡ m → 0 + n ≡ m
no_more n m is = omega (arith, is)

-- of an open call, once the item has said this
step : (o : Option Heard) (p : Pending) (items : List Item) → AreEnds o
    → ((b : Bool) → ends_among (opened p b) items ≡ cond (b && list_any (is_its p) items) 1 0)
    → cond (is_end (heard_as true o)) 1 0 + ends_among (opened p (not (is_some o))) items ≡ cond (is_some o || list_any (is_its p) items) 1 0
step None p items e k = no_more (ends_among (opened p true) items) _ (k true)
step (Some h) p items e k = one_more (is_end h) (ends_among (opened p false) items) e (k false)

once : (items : List Item) (p : Pending) (b : Bool) → ends_among (opened p b) items ≡ cond (b && list_any (is_its p) items) 1 0
once [] p true = refl
once [] p false = refl
once (i ∷ items) p false = none_more (is_end (heard_as false (says_to_call (opened p false) i))) (ends_among (opened p false) items) (never (says_to_call (opened p false) i)) (once items p false)
once (i ∷ items) p true =
    subst (λ (o : Option Heard). cond (is_end (heard_as true (says_to_call (opened p true) i))) 1 0 + ends_among (opened p (not (is_some (says_to_call (opened p true) i)))) items ≡ cond (is_some o || list_any (is_its p) items) 1 0) (says_same p true i)
    (step (says_to_call (opened p true) i) p items (said_ends (opened p true) i) (once items p))

pub ends_once : EndsOnce
ends_once p items = once items p p.waits

-- items and moments -----------------------------------------------------------------------

-- what is heard of an item reports nothing, once the call has ended
ended_hears : (o : Option Heard) → end_heard (heard_as false o) ≡ []
ended_hears None = refl
ended_hears (Some h) = refl

-- nothing is reported, now and later
no_end : (now later : List CallEnd) → now ≡ [] → later ≡ [] → now ++ later ≡ []
no_end now later n l = ap (λ (es : List CallEnd). es ++ later) n ∙ l

-- an end is reported, and none later
one_end : (h : Heard) (later more : List CallEnd) → is_end h ≡ true → later ≡ [] → end_heard h ++ later ≡ or_first (end_heard h) more
one_end (Heard.Answer n) later more e l = ap (λ (es : List CallEnd). answered n ∷ es) l
one_end (Heard.Down reason) later more e l = ap (λ (es : List CallEnd). server_down reason ∷ es) l
one_end Heard.Late later more e l = absurd (cc)
one_end Heard.NotMine later more e l = absurd (cc)

-- of an open call, once the item has said this
item_step : (o : Option Heard) (p : Pending) (events : List CallEvent) → AreEnds o
    → ((b : Bool) → ends_reported (opened p b) events ≡ cond b (first_call_end p events) [])
    → end_heard (heard_as true o) ++ ends_reported (opened p (not (is_some o))) events ≡ or_first (end_said o) (first_call_end p events)
item_step None p events e k = k true
item_step (Some h) p events e k = one_end h (ends_reported (opened p false) events) (first_call_end p events) e (k false)

-- of an open call, whether or not its deadline has come
moment_step : (due : Bool) (p : Pending) (events : List CallEvent)
    → ((b : Bool) → ends_reported (opened p b) events ≡ cond b (first_call_end p events) [])
    → cond due (timed_out ∷ []) [] ++ ends_reported (opened p (not due)) events ≡ or_first (cond due (timed_out ∷ []) []) (first_call_end p events)
moment_step true p events k = ap (λ (es : List CallEnd). timed_out ∷ es) (k false)
moment_step false p events k = k true

first : (events : List CallEvent) (p : Pending) (b : Bool) → ends_reported (opened p b) events ≡ cond b (first_call_end p events) []
first [] p true = refl
first [] p false = refl
first (item i ∷ events) p false = no_end (end_heard (heard_as false (says_to_call (opened p false) i))) (ends_reported (opened p false) events) (ended_hears (says_to_call (opened p false) i)) (first events p false)
first (item i ∷ events) p true =
    subst (λ (o : Option Heard). end_heard (heard_as true (says_to_call (opened p true) i)) ++ ends_reported (opened p (not (is_some (says_to_call (opened p true) i)))) events ≡ or_first (end_said o) (first_call_end p events)) (says_same p true i)
    (item_step (says_to_call (opened p true) i) p events (said_ends (opened p true) i) (first events p))
first (moment now ∷ events) p false = first events p false
first (moment now ∷ events) p true = moment_step (is_due p now) p events (first events p)

pub ends_first : EndsFirst
ends_first p events = first events p p.waits
