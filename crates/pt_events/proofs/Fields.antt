-- A part of a process's state that an event leaves as it is.
use Rattle.std.proofs.Common.{◌≡◌, Bool, true, false, List, Option, Some, None, refl, ◌∙◌}
use Rattle.pt_signal.specs.declared.pid.Pid.{Pid}
use Rattle.pt_signal.specs.declared.ids.Ref.{Ref}
use Rattle.pt_signal.specs.declared.ids.Ids.{Ids}
use Rattle.pt_signal.specs.declared.ids.LinkId.{LinkId}
use Rattle.pt_signal.specs.declared.item.Item.{Item}
use Rattle.pt_signal.specs.declared.reason.Reason.{Reason}
use Rattle.pt_signal.specs.declared.signal.Signal.{Signal}
use Rattle.pt_signal.specs.declared.signal.Signal.TheVariants.{Link, Unlink, Monitor, Demonitor}
use Rattle.pt_events.specs.declared.event.Event.TheVariants.{Born}
use Rattle.pt_signal.specs.Values.{same_pid}
use Rattle.pt_signal.specs.Process.{ProcessState, Verdict, drops, queues, ends, verdict, obey, link_exit, down, handle, say}
use Rattle.pt_events.specs.History.{Phase, unborn, living, ended, after, touches, state_of, linked, newborn, while_living, live_or_end, gets, leaves}
use Rattle.pt_events.proofs.Phases.{each_branch}

module _ {X : Type 0} (g : ProcessState → X) where
  pub end_keeps : (o : Option Reason) (s : ProcessState) → g (state_of (live_or_end o s)) ≡ g s
  end_keeps None s = refl
  end_keeps (Some r) s = refl

  pub while_keeps : (step : ProcessState → ProcessState) → ((s : ProcessState) → g (step s) ≡ g s) → (f : Phase) → g (state_of (while_living step f)) ≡ g (state_of f)
  while_keeps step h unborn = refl
  while_keeps step h (living s) = h s
  while_keeps step h (ended r s) = refl

  pub leaves_keeps : (r : Reason) (f : Phase) → g (state_of (leaves r f)) ≡ g (state_of f)
  leaves_keeps r unborn = refl
  leaves_keeps r (living s) = refl
  leaves_keeps r (ended w s) = refl

  pub gets_keeps : (p a : Pid) (x : Signal) → ((s : ProcessState) → g (handle p s a x).state ≡ g s) → (f : Phase) → g (state_of (gets p a x f)) ≡ g (state_of f)
  gets_keeps p a x h unborn = refl
  gets_keeps p a x h (living s) = end_keeps (handle p s a x).ending (handle p s a x).state ∙ h s
  gets_keeps p a x h (ended r s) = refl

  -- g does not look at the waiting items
  module _ (waiting : (w : List Item) (s : ProcessState) → g (record s { waiting = w }) ≡ g s) where
    pub obey_keeps : (v : Verdict) (s : ProcessState) → g (obey v s).state ≡ g s
    obey_keeps drops s = refl
    obey_keeps (queues i) s = waiting _ s
    obey_keeps (ends r) s = refl

    pub link_exit_keeps : ((l : List (Pid × Ids)) (s : ProcessState) → g (record s { links = l }) ≡ g s) → (b : Bool) (p : Pid) (s : ProcessState) (a : Pid) (r : Reason) → g (link_exit b p s a r).state ≡ g s
    link_exit_keeps links false p s a r = refl
    link_exit_keeps links true p s a r = obey_keeps (verdict true s.traps (same_pid a p) a r) _ ∙ links _ s

    pub down_keeps : ((l : List (Ref × Pid)) (s : ProcessState) → g (record s { watching = l }) ≡ g s) → (o : Option Pid) (s : ProcessState) (a : Pid) (m : Ref) (r : Reason) → g (down o s a m r).state ≡ g s
    down_keeps watching None s a m r = refl
    down_keeps watching (Some t) s a m r = waiting _ (record s { watching = _ }) ∙ watching _ s

  -- g does not look at the links
  module _ (links : (l : List (Pid × Ids)) (s : ProcessState) → g (record s { links = l }) ≡ g s) where
    pub linked_keeps : (q : Option Pid) (i : Option LinkId) (s : ProcessState) → g (linked q i s) ≡ g s
    linked_keeps (Some q) (Some i) s = links _ s
    linked_keeps None (Some i) s = refl
    linked_keeps (Some q) None s = refl
    linked_keeps None None s = refl

    pub newborn_keeps : (q : Option Pid) (i : Option LinkId) (f : Phase) → g (state_of (newborn q i f)) ≡ g (state_of f)
    newborn_keeps q i unborn = linked_keeps q i _
    newborn_keeps q i (living s) = refl
    newborn_keeps q i (ended r s) = refl

    pub born_keeps : (p c : Pid) (parent : Option Pid) (link : Option LinkId) (f : Phase) → g (state_of (after p (Born c parent link) f)) ≡ g (state_of f)
    born_keeps p c parent link f =
        each_branch (λ z. g (state_of z) ≡ g (state_of f)) (touches p (Born c parent link)) _ _
        (each_branch (λ z. g (state_of z) ≡ g (state_of f)) (same_pid p c) _ _ (newborn_keeps parent link f) (while_keeps (linked (Some c) link) (linked_keeps (Some c) link) f)) refl

    pub say_keeps : ((l : List (Ref × Pid)) (s : ProcessState) → g (record s { watching = l }) ≡ g s) → (b : Pid) (x : Signal) (s : ProcessState) → g (say s b x) ≡ g s
    say_keeps watching b (Monitor m) s = watching _ s
    say_keeps watching b (Demonitor m) s = watching _ s
    say_keeps watching b (Link i) s = links _ s
    say_keeps watching b (Unlink ids) s = links _ s
    say_keeps watching b _ s = refl
