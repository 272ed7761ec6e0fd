-- What waits are the arrivals that were not taken: each arrival has a mark that says whether it was.
use Rattle.std.proofs.Common.{◌≡◌, Bool, true, false, cond, not, ◌&&◌, List, [], ◌∷◌, ◌++◌, map, filter, refl, sym, ap, ◌∙◌, append-nil}
use Rattle.std.proofs.lemmas.List.{map-append}
use Rattle.std.proofs.lemmas.List.Elements.{filter-append}
use Rattle.std.proofs.lemmas.Bool.{false≢true}
use Rattle.pt_signal.specs.declared.pid.Pid.{Pid}
use Rattle.pt_signal.specs.declared.item.Pick.{Pick}
use Rattle.pt_signal.specs.declared.item.Item.{Item}
use Rattle.pt_signal.specs.declared.signal.Signal.{Signal}
use Rattle.pt_events.specs.declared.event.Event.{Event}
use Rattle.pt_events.specs.declared.event.Event.TheVariants.{Born, Said, Came, Took, Flag, Left}
use Rattle.pt_signal.specs.Values.{same_pid, fits, without_first}
use Rattle.pt_signal.specs.Process.{handle, say}
use Rattle.pt_events.specs.History.{Past, Start, Phase, unborn, living, ended, life, is_living, state_of, at_start, arrives, items_of, while_living, gets, state}
use Rattle.pt_laws.specs.Acts.{ActsMayCome}
use Rattle.pt_signal.proofs.Same.{same_pid_is}
use Rattle.pt_events.proofs.Phases.{each_branch}
use Rattle.pt_events.proofs.Handling.{handle_queues}
use Rattle.pt_events.proofs.Fields.{end_keeps, while_keeps, leaves_keeps, born_keeps, say_keeps}

-- an arrival, and whether it was taken
abbrev pub Arrival : Type 0
Arrival = Item × Bool

abbrev pub untaken : Item → Arrival
untaken i = (i, false)

-- the first arrival that was not taken and fits is taken
abbrev pub take_first : Pick → List Arrival → List Arrival
take_first k [] = []
take_first k (r ∷ rs) = cond (not r.1 && fits k r.0) ((r.0, true) ∷ rs) (r ∷ take_first k rs)

-- what a Took of p takes
abbrev pub takes : Pid → Event → List Arrival → List Arrival
takes p (Took q k i) rs = cond (same_pid p q) (take_first k rs) rs
takes p _ rs = rs

-- all arrivals of p, each with whether it was taken
abbrev pub arrivals : Start → Past → Pid → List Arrival
arrivals start [] p = map untaken (state_of (at_start start p)).waiting
arrivals start (e ∷ past) p = takes p e (arrivals start past p) ++ map untaken (arrives start past p e)

-- those that were not taken
abbrev pub left_waiting : List Arrival → List Item
left_waiting rs = map (λ r. r.0) (filter (λ r. not r.1) rs)

-- positions -----------------------------------------------------------------------------------

pub waiting-append : (xs ys : List Arrival) → left_waiting (xs ++ ys) ≡ left_waiting xs ++ left_waiting ys
waiting-append xs ys = rw (filter-append (λ (r : Arrival). not r.1) xs ys, map-append)

nothing_more : (rs : List Arrival) → left_waiting (rs ++ []) ≡ left_waiting rs
nothing_more rs = rw append-nil

pub all_untaken : (is : List Item) → left_waiting (map untaken is) ≡ is
all_untaken [] = refl
all_untaken (i ∷ is) = ap (λ z. i ∷ z) (all_untaken is)

-- the first that fits among those waiting is the first arrival that fits and was not taken
pub take_first_waiting : (k : Pick) (rs : List Arrival) → left_waiting (take_first k rs) ≡ without_first (fits k) (left_waiting rs)
take_first_waiting k [] = refl
take_first_waiting k ((i, true) ∷ rs) = take_first_waiting k rs
take_first_waiting k ((i, false) ∷ rs) = go (fits k i) refl (take_first_waiting k rs)
  where
    go : (b : Bool) → fits k i ≡ b → left_waiting (take_first k rs) ≡ without_first (fits k) (left_waiting rs)
        → left_waiting (take_first k ((i, false) ∷ rs)) ≡ without_first (fits k) (left_waiting ((i, false) ∷ rs))
    go true e ih = rw e refl
    go false e ih = rw e (ap (λ z. i ∷ z) ih)

module _ (start : Start) (p : Pid) where
  -- a receipt
  came_waiting : (a b : Pid) (x : Signal) (f : Phase) (t : Bool) → (state_of (cond t (gets p a x f) f)).waiting ≡ (state_of f).waiting ++ cond t (items_of f p a x) []
  came_waiting a b x f false = sym (append-nil _)
  came_waiting a b x unborn true = refl
  came_waiting a b x (living s) true = end_keeps (λ s. s.waiting) (handle p s a x).ending (handle p s a x).state ∙ handle_queues p s a x
  came_waiting a b x (ended r s) true = sym (append-nil _)

  took_waiting : (k : Pick) (rs : List Arrival) (f : Phase) (t : Bool) → (t ≡ true → is_living f ≡ true) → left_waiting rs ≡ (state_of f).waiting
      → left_waiting (cond t (take_first k rs) rs) ≡ (state_of (cond t (while_living (λ s. record s { waiting = without_first (fits k) s.waiting }) f) f)).waiting
  took_waiting k rs f false h ih = ih
  took_waiting k rs unborn true h ih = absurd (false≢true (h refl))
  took_waiting k rs (living s) true h ih = take_first_waiting k rs ∙ ap (without_first (fits k)) ih
  took_waiting k rs (ended r s) true h ih = absurd (false≢true (h refl))

  -- what waits is the arrivals that were not taken
  pub waits : (past : Past) → ActsMayCome start past → left_waiting (arrivals start past p) ≡ (state start past p).waiting
  waits [] h = all_untaken (state_of (at_start start p)).waiting
  waits (Came a b x ∷ past) h =
      waiting-append (arrivals start past p) (map untaken (arrives start past p (Came a b x)))
      ∙ rw (all_untaken (arrives start past p (Came a b x)), waits past h.1) (sym (came_waiting a b x (life start past p) (same_pid p b)))
  waits (Took q k i ∷ past) h =
      nothing_more (cond (same_pid p q) (take_first k (arrivals start past p)) (arrivals start past p))
      ∙ took_waiting k (arrivals start past p) (life start past p) (same_pid p q) (λ e. rw (same_pid_is p q e) h.0.0) (waits past h.1)
  waits (Born q parent link ∷ past) h =
      nothing_more (arrivals start past p) ∙ waits past h.1
      ∙ sym (born_keeps (λ s. s.waiting) (λ l s. refl) p q parent link (life start past p))
  waits (Said a b x ∷ past) h =
      nothing_more (arrivals start past p) ∙ waits past h.1
      ∙ sym (each_branch (λ g. (state_of g).waiting ≡ (state start past p).waiting) (same_pid p a) _ _ (while_keeps (λ s. s.waiting) (λ s. say s b x) (say_keeps (λ s. s.waiting) (λ l s. refl) (λ l s. refl) b x) (life start past p)) refl)
  waits (Flag q on ∷ past) h =
      nothing_more (arrivals start past p) ∙ waits past h.1
      ∙ sym (each_branch (λ g. (state_of g).waiting ≡ (state start past p).waiting) (same_pid p q) _ _ (while_keeps (λ s. s.waiting) (λ s. record s { traps = on }) (λ s. refl) (life start past p)) refl)
  waits (Left q r ∷ past) h =
      nothing_more (arrivals start past p) ∙ waits past h.1
      ∙ sym (each_branch (λ g. (state_of g).waiting ≡ (state start past p).waiting) (same_pid p q) _ _ (leaves_keeps (λ s. s.waiting) r (life start past p)) refl)
  waits (_ ∷ past) h = nothing_more (arrivals start past p) ∙ waits past h.1
