-- A call about a child that is refused changes nothing.
use Rattle.std.proofs.Common.{◌≡◌, ℕ, slice_get, Option, Some, None, Result, Ok, Err}
use Rattle.std.specs.Prelude.{OnErr}
use Rattle.pt_children.specs.declared.child_fault.ChildFault.{ChildFault}
use Rattle.pt_children.specs.declared.children.Child.{Child}
use Rattle.pt_children.specs.declared.seen.ChildState.{ChildState}
use Rattle.pt_children.specs.declared.seen.ChildState.TheVariants.{Running, Restarting, Undefined}
use Rattle.pt_children.specs.Calling.{AddsAt, DeletesAs, DeletesAt, DeletesChild, DeletesIn, FindsPresent, RestartsAs, RestartsAt, RestartsChild, RestartsIn, TerminatesAt, TerminatesChild, place_of_id}
use Rattle.pt_children.specs.Hearing.{Standing}
use Rattle.pt_children.specs.Seen.{child_state}
use Rattle.pt_children.specs.Answering.{AnswersAt, AsksToStartAt, AsksToStartIn, AsksProgram}
use Rattle.pt_children.specs.Homes.{place_untold}

absurd_ok : {A : Type 0} {X : Type 0} (a : A) (f : ChildFault) → ◌≡◌ {A = Result A ChildFault} (Err f) (Ok a) → X
absurd_ok a f is = absurd (cc)

pub adds_err : (o : Option ℕ) (c : Child) (s : Standing) (f : ChildFault) (t : Standing) → AddsAt o c s (Err f) t → t ≡ s
adds_err None c s f t h = h.1
adds_err (Some place) c s f t h = go (slice_get s.children place) h
  where
    go : (x : Option Child) → FindsPresent x s (Err f) t → t ≡ s
    go None e = absurd e
    go (Some x) e = e.1

pub terminates_err : (id : ℕ) (s : Standing) (result : Result (Unit {0}) ChildFault) (t : Standing) → TerminatesChild id s result t → OnErr result (t ≡ s)
terminates_err id s (Ok u) t h = tt
terminates_err id s (Err f) t h = go (place_of_id id s.children) h
  where
    go : (o : Option ℕ) → TerminatesAt o s (Err f) t → t ≡ s
    go None e = e.1
    go (Some place) e = absurd_ok tt f e.0

pub restarts_err : (id : ℕ) (s : Standing) (result : Result (Unit {0}) ChildFault) (t : Standing) → RestartsChild id s result t → OnErr result (t ≡ s)
restarts_err id s (Ok u) t h = tt
restarts_err id s (Err f) t h = go (place_of_id id s.children) h
  where
    by_state : (x : ChildState) (place : ℕ) → RestartsAs x place s (Err f) t → t ≡ s
    by_state (Running p) place e = e.1
    by_state Restarting place e = e.1
    by_state Undefined place e = absurd_ok tt f e.0

    in_place : (x : Option Child) (place : ℕ) → RestartsIn x place s (Err f) t → t ≡ s
    in_place None place e = absurd e
    in_place (Some c) place e = by_state (child_state c) place e

    go : (o : Option ℕ) → RestartsAt o s (Err f) t → t ≡ s
    go None e = e.1
    go (Some place) e = in_place (slice_get s.children place) place e

pub deletes_err : (id : ℕ) (s : Standing) (result : Result ℕ ChildFault) (t : Standing) → DeletesChild id s result t → OnErr result (t ≡ s)
deletes_err id s (Ok place) t h = tt
deletes_err id s (Err f) t h = go (place_of_id id s.children) h
  where
    by_state : (x : ChildState) (place : ℕ) → DeletesAs x place s (Err f) t → t ≡ s
    by_state (Running p) place e = e.1
    by_state Restarting place e = e.1
    by_state Undefined place e = absurd_ok place f e.0

    in_place : (x : Option Child) (place : ℕ) → DeletesIn x place s (Err f) t → t ≡ s
    in_place None place e = absurd e
    in_place (Some c) place e = by_state (child_state c) place e

    go : (o : Option ℕ) → DeletesAt o s (Err f) t → t ≡ s
    go None e = e.1
    go (Some place) e = in_place (slice_get s.children place) place e

-- an answer about a child of another desk
pub answers_err : (o : Option ℕ) (change : Child → Child) (s : Standing) (result : Result (Unit {0}) ChildFault) (t : Standing) → AnswersAt o change s result t → OnErr result (t ≡ s)
answers_err o change s (Ok u) t h = tt
answers_err None change s (Err f) t h = h.1
answers_err (Some place) change s (Err f) t h = absurd_ok tt f h.0

pub asks_err : (s : Standing) (result : Result ℕ ChildFault) (t : Standing) → AsksProgram s result t → OnErr result (t ≡ s)
asks_err s (Ok id) t h = tt
asks_err s (Err f) t h = go (place_untold s.children) h
  where
    in_place : (x : Option Child) (place : ℕ) → AsksToStartIn x place s (Err f) t → t ≡ s
    in_place None place e = absurd e
    in_place (Some c) place e = absurd_ok c.id f e.0

    go : (o : Option ℕ) → AsksToStartAt o s (Err f) t → t ≡ s
    go None e = e.1
    go (Some place) e = in_place (slice_get s.children place) place e
