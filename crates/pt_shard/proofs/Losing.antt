-- What an event loses is what its process held just after its exit, or a message that came to one not alive.
use Rattle.std.proofs.Common.{◌≡◌, Bool, true, false, cond, List, ◌∷◌, Option, Some, None, refl, ap, ◌∙◌, subst}
use Rattle.std.specs.Option.{option_map}
use Rattle.pt_signal.specs.declared.pid.Pid.{Pid}
use Rattle.pt_signal.specs.declared.item.Item.{Item}
use Rattle.pt_signal.specs.declared.item.Body.{Body}
use Rattle.pt_signal.specs.declared.reason.Reason.{Reason}
use Rattle.pt_signal.specs.declared.signal.Signal.{Signal}
use Rattle.pt_signal.specs.declared.signal.Signal.TheVariants.{Message}
use Rattle.pt_signal.specs.declared.ids.LinkId.{LinkId}
use Rattle.pt_signal.specs.Values.{same_pid, fits, without_first}
use Rattle.pt_signal.specs.Process.{ProcessState, handle, say}
use Rattle.pt_signal.proofs.Same.{same_pid_refl, same_pid_is}
use Rattle.pt_events.specs.declared.event.Event.{Event}
use Rattle.pt_events.specs.declared.event.Event.TheVariants.{Born, Said, Came, Took, Flag, Left, Refused}
use Rattle.pt_events.specs.History.{Past, Start, Phase, unborn, living, ended, life, alive, is_living, linked, newborn, while_living, after, change, touches, gets, live_or_end, leaves}
use Rattle.pt_shard.specs.declared.loss.Loss.TheVariants.{Exited, Stray}
use Rattle.pt_shard.specs.Losses.{lost_in, lost_at, lost_by_exit, stray, AreLosses}

-- an exit is told -----------------------------------------------------------------------------

-- who lives has not ended
lives_on : (f : Phase) (r : Reason) (s : ProcessState) → is_living f ≡ true → f ≡ ended r s → ⊥
lives_on f r s h k = let j : is_living (ended r s) ≡ true = subst (λ x. is_living x ≡ true) k h in absurd (cc)

-- one of two that live
either_lives : (b : Bool) (f g : Phase) → is_living f ≡ true → is_living g ≡ true → is_living (cond b f g) ≡ true
either_lives true f g h k = h
either_lives false f g h k = k

-- the signal that ends it
ended_by_signal : (p a : Pid) (x : Signal) (t : ProcessState) (o : Option Reason) (u : ProcessState) (r : Reason) (s : ProcessState)
    → live_or_end o u ≡ ended r s → option_map (λ w. Exited p w u.waiting) o ≡ Some (Exited p r s.waiting)
ended_by_signal p a x t None u r s h = absurd (cc)
ended_by_signal p a x t (Some w) u r s h = cc

module _ (p : Pid) (r : Reason) (s : ProcessState) where
  signal_told : (f : Phase) (a : Pid) (x : Signal) → is_living f ≡ true → gets p a x f ≡ ended r s → lost_at f p a x ≡ Some (Exited p r s.waiting)
  signal_told (living t) a x h k = ended_by_signal p a x t (handle p t a x).ending (handle p t a x).state r s k
  signal_told unborn a x h k = absurd (cc)
  signal_told (ended q u) a x h k = absurd (cc)

  exit_told : (f : Phase) (w : Reason) → is_living f ≡ true → leaves w f ≡ ended r s → lost_by_exit f p w ≡ Some (Exited p r s.waiting)
  exit_told (living t) w h k = cc
  exit_told unborn w h k = absurd (cc)
  exit_told (ended q u) w h k = absurd (cc)

  module _ (start : Start) (past : Past) (lives : alive start past p ≡ true) where
    came_told : (a b : Pid) (x : Signal) (same : Bool) → same_pid p b ≡ same → cond same (gets p a x (life start past p)) (life start past p) ≡ ended r s
        → lost_at (life start past b) b a x ≡ Some (Exited p r s.waiting)
    came_told a b x true k h = subst (λ q. lost_at (life start past q) q a x ≡ Some (Exited p r s.waiting)) (same_pid_is p b k) (signal_told (life start past p) a x lives h)
    came_told a b x false k h = absurd (lives_on (life start past p) r s lives h)

    left_told : (b : Pid) (w : Reason) (same : Bool) → same_pid p b ≡ same → cond same (leaves w (life start past p)) (life start past p) ≡ ended r s
        → lost_by_exit (life start past b) b w ≡ Some (Exited p r s.waiting)
    left_told b w true k h = subst (λ q. lost_by_exit (life start past q) q w ≡ Some (Exited p r s.waiting)) (same_pid_is p b k) (exit_told (life start past p) w lives h)
    left_told b w false k h = absurd (lives_on (life start past p) r s lives h)

newborn_lives : (parent : Option Pid) (link : Option LinkId) (f : Phase) → is_living f ≡ true → is_living (newborn parent link f) ≡ true
newborn_lives parent link (living t) h = refl
newborn_lives parent link unborn h = absurd (cc)
newborn_lives parent link (ended q u) h = absurd (cc)

while_lives : (step : ProcessState → ProcessState) (f : Phase) → is_living f ≡ true → is_living (while_living step f) ≡ true
while_lives step (living t) h = refl
while_lives step unborn h = absurd (cc)
while_lives step (ended q u) h = absurd (cc)

exits : (start : Start) (past : Past) (e : Event) (p : Pid) (r : Reason) (s : ProcessState) → alive start past p ≡ true
    → life start (e ∷ past) p ≡ ended r s → lost_in start past e ≡ Some (Exited p r s.waiting)
exits start past (Came a b x) p r s lives h = came_told p r s start past lives a b x (same_pid p b) refl h
exits start past (Left b w) p r s lives h = left_told p r s start past lives b w (same_pid p b) refl h
exits start past (Born q parent link) p r s lives h =
    let f = life start past p in
    absurd (lives_on (after p (Born q parent link) f) r s
    (either_lives (touches p (Born q parent link)) (change p (Born q parent link) f) f
    (either_lives (same_pid p q) (newborn parent link f) (while_living (linked (Some q) link) f) (newborn_lives parent link f lives) (while_lives (linked (Some q) link) f lives)) lives) h)
exits start past (Said a b x) p r s lives h =
    let f = life start past p in
    absurd (lives_on (after p (Said a b x) f) r s (either_lives (same_pid p a) (while_living (λ t. say t b x) f) f (while_lives (λ t. say t b x) f lives) lives) h)
exits start past (Took q k i) p r s lives h =
    let f = life start past p in
    absurd (lives_on (after p (Took q k i) f) r s (either_lives (same_pid p q) (change p (Took q k i) f) f (while_lives (λ t. record t { waiting = without_first (fits k) t.waiting }) f lives) lives) h)
exits start past (Flag q on) p r s lives h =
    let f = life start past p in
    absurd (lives_on (after p (Flag q on) f) r s (either_lives (same_pid p q) (change p (Flag q on) f) f (while_lives (λ t. record t { traps = on }) f lives) lives) h)
exits start past (Refused a b) p r s lives h = absurd (lives_on (life start past p) r s lives h)

-- and what is told of an exit is so -------------------------------------------------------------

stray_not : (b a : Pid) (x : Signal) (p : Pid) (r : Reason) (items : List Item) → stray b a x ≡ Some (Exited p r items) → ⊥
stray_not b a (Message body) p r items h = absurd (cc)
stray_not b a x p r items h = absurd (cc)

-- a process that ended so, and held that
abbrev HasExited : Phase → Phase → Reason → List Item → Type 0
HasExited before now r items = (is_living before ≡ true) × (s : ProcessState) × (now ≡ ended r s) × (s.waiting ≡ items)

by_signal : (b p : Pid) (r : Reason) (items : List Item) (o : Option Reason) (u : ProcessState) → option_map (λ w. Exited b w u.waiting) o ≡ Some (Exited p r items)
    → (b ≡ p) × (s : ProcessState) × (live_or_end o u ≡ ended r s) × (s.waiting ≡ items)
by_signal b p r items None u h = absurd (cc)
by_signal b p r items (Some w) u h =
    let same : b ≡ p = cc in
    let why : w ≡ r = cc in
    let held : u.waiting ≡ items = cc in
    (same, u, ap (λ x. ended x u) why, held)

came_so : (b a : Pid) (x : Signal) (p : Pid) (r : Reason) (items : List Item) (f : Phase) → lost_at f b a x ≡ Some (Exited p r items) → (b ≡ p) × HasExited f (gets b a x f) r items
came_so b a x p r items (living t) h =
    let k = by_signal b p r items (handle b t a x).ending (handle b t a x).state h in
    (k.0, (refl, k.1, k.2, k.3))
came_so b a x p r items unborn h = absurd (stray_not b a x p r items h)
came_so b a x p r items (ended q u) h = absurd (stray_not b a x p r items h)

left_so : (b : Pid) (w : Reason) (p : Pid) (r : Reason) (items : List Item) (f : Phase) → lost_by_exit f b w ≡ Some (Exited p r items) → (b ≡ p) × HasExited f (leaves w f) r items
left_so b w p r items (living t) h =
    let same : b ≡ p = cc in
    let why : w ≡ r = cc in
    let held : t.waiting ≡ items = cc in
    (same, (refl, t, ap (λ x. ended x t) why, held))
left_so b w p r items unborn h = absurd (cc)
left_so b w p r items (ended q u) h = absurd (cc)

exited : (start : Start) (past : Past) (e : Event) (p : Pid) (r : Reason) (items : List Item) → lost_in start past e ≡ Some (Exited p r items)
    → HasExited (life start past p) (life start (e ∷ past) p) r items
exited start past (Came a b x) p r items h =
    let k = came_so b a x p r items (life start past b) h in
    let own : life start (Came a b x ∷ past) b ≡ gets b a x (life start past b) = rw (same_pid_refl b) refl in
    subst (λ q. HasExited (life start past q) (life start (Came a b x ∷ past) q) r items) k.0 (k.1.0, k.1.1, own ∙ k.1.2, k.1.3)
exited start past (Left b w) p r items h =
    let k = left_so b w p r items (life start past b) h in
    let own : life start (Left b w ∷ past) b ≡ leaves w (life start past b) = rw (same_pid_refl b) refl in
    subst (λ q. HasExited (life start past q) (life start (Left b w ∷ past) q) r items) k.0 (k.1.0, k.1.1, own ∙ k.1.2, k.1.3)
exited start past e p r items h = absurd (cc)

-- a message to one not alive ----------------------------------------------------------------------

strayed : (f : Phase) (a p : Pid) (body : Body) → is_living f ≡ false → lost_at f p a (Message body) ≡ Some (Stray p (Item.User a body))
strayed unborn a p body h = refl
strayed (living t) a p body h = absurd (cc)
strayed (ended q u) a p body h = refl

abbrev IsStray : Phase → Pid → Item → Pid → Pid → Signal → Type 0
IsStray f p item a b x = (b ≡ p) × (is_living f ≡ false) × (body : Body) × (x ≡ Message body) × (item ≡ Item.User a body)

stray_so : (f : Phase) (a b : Pid) (x : Signal) (p : Pid) (item : Item) → is_living f ≡ false → stray b a x ≡ Some (Stray p item) → IsStray f p item a b x
stray_so f a b (Message body) p item dead h =
    let same : b ≡ p = cc in
    let is : item ≡ Item.User a body = cc in
    (same, dead, body, refl, is)
stray_so f a b x p item dead h = absurd (cc)

signal_not : (b : Pid) (o : Option Reason) (u : ProcessState) (p : Pid) (item : Item) → option_map (λ w. Exited b w u.waiting) o ≡ Some (Stray p item) → ⊥
signal_not b None u p item h = absurd (cc)
signal_not b (Some w) u p item h = absurd (cc)

lost_so : (f : Phase) (a b : Pid) (x : Signal) (p : Pid) (item : Item) → lost_at f b a x ≡ Some (Stray p item) → IsStray f p item a b x
lost_so (living t) a b x p item h = absurd (signal_not b (handle b t a x).ending (handle b t a x).state p item h)
lost_so unborn a b x p item h = stray_so unborn a b x p item refl h
lost_so (ended q u) a b x p item h = stray_so (ended q u) a b x p item refl h

left_not : (f : Phase) (b : Pid) (w : Reason) (p : Pid) (item : Item) → lost_by_exit f b w ≡ Some (Stray p item) → ⊥
left_not (living t) b w p item h = absurd (cc)
left_not unborn b w p item h = absurd (cc)
left_not (ended q u) b w p item h = absurd (cc)

is_stray : (start : Start) (past : Past) (e : Event) (p : Pid) (item : Item) → lost_in start past e ≡ Some (Stray p item)
    → (alive start past p ≡ false) × (a : Pid) × (body : Body) × (e ≡ Came a p (Message body)) × (item ≡ Item.User a body)
is_stray start past (Came a b x) p item h =
    let k = lost_so (life start past b) a b x p item h in
    (subst (λ q. alive start past q ≡ false) k.0 k.1, a, k.2, (λ i. Came a (k.0 i) (k.3 i)), k.4)
is_stray start past (Left b w) p item h = absurd (left_not (life start past b) b w p item h)
is_stray start past e p item h = absurd (cc)

pub are_losses : AreLosses
are_losses = record {
  exits = exits;
  exited = exited;
  strays = λ start past a p body dead. strayed (life start past p) a p body dead;
  stray = is_stray;
}
