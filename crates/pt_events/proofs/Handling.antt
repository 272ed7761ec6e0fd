-- What a live process sends back does not depend on what it holds, and a signal adds its items at the end of those that wait.
use Rattle.std.proofs.Common.{◌≡◌, Bool, true, false, Option, Some, None, List, [], ◌∷◌, ◌++◌, refl, sym, append-nil}
use Rattle.std.specs.Map.{lookup}
use Rattle.pt_signal.specs.declared.pid.Pid.{Pid}
use Rattle.pt_signal.specs.declared.ids.Ref.{Ref}
use Rattle.pt_signal.specs.declared.reason.Reason.{Reason}
use Rattle.pt_signal.specs.declared.signal.Signal.{Signal}
use Rattle.pt_signal.specs.declared.signal.Signal.TheVariants.{Message, Link, Unlink, LinkExit, Monitor, Demonitor, AliveAsk, AliveSay}
use Rattle.pt_signal.specs.Values.{same_pid, same_ref}
use Rattle.pt_signal.specs.Process.{ProcessState, Verdict, drops, queues, ends, Sent, sent, verdict, holds_any, held, handle, obey, link_exit, down}

-- what goes back from a live process: to the question whether it is alive, yes
abbrev pub living_answer : Pid → Pid → Signal → List Sent
living_answer me from (AliveAsk m) = sent me from (AliveSay m true) ∷ []
living_answer me from _ = []

obey_answer : (v : Verdict) (s : ProcessState) → (obey v s).answer ≡ []
obey_answer drops s = refl
obey_answer (queues item) s = refl
obey_answer (ends r) s = refl

link_exit_answer : (known : Bool) (me : Pid) (s : ProcessState) (from : Pid) (r : Reason) → (link_exit known me s from r).answer ≡ []
link_exit_answer false me s from r = refl
link_exit_answer true me s from r = obey_answer _ _

down_answer : (o : Option Pid) (s : ProcessState) (from : Pid) (m : Ref) (r : Reason) → (down o s from m r).answer ≡ []
down_answer None s from m r = refl
down_answer (Some target) s from m r = refl

pub handle_answer : (me : Pid) (s : ProcessState) (from : Pid) (x : Signal) → (handle me s from x).answer ≡ living_answer me from x
handle_answer me s from (Message b) = refl
handle_answer me s from (Link i) = refl
handle_answer me s from (Unlink ids) = refl
handle_answer me s from (Signal.Exit r) = obey_answer _ s
handle_answer me s from (LinkExit ids r) = link_exit_answer _ me s from r
handle_answer me s from (Monitor m) = refl
handle_answer me s from (Demonitor m) = refl
handle_answer me s from (Signal.Down m r) = down_answer _ s from m r
handle_answer me s from (AliveAsk m) = refl
handle_answer me s from (AliveSay m x) = refl

-- a signal adds its items at the end, and nothing else changes the waiting ones ----------------

obeyed : (v : Verdict) (s : ProcessState) → (obey v s).state.waiting ≡ s.waiting ++ (obey v s).items
obeyed drops s = sym (append-nil s.waiting)
obeyed (queues item) s = refl
obeyed (ends r) s = sym (append-nil s.waiting)

link_exited : (b : Bool) (me : Pid) (s : ProcessState) (from : Pid) (r : Reason) → (link_exit b me s from r).state.waiting ≡ s.waiting ++ (link_exit b me s from r).items
link_exited false me s from r = sym (append-nil s.waiting)
link_exited true me s from r = obeyed (verdict true s.traps (same_pid from me) from r) _

downed : (t : Option Pid) (s : ProcessState) (from : Pid) (m : Ref) (r : Reason) → (down t s from m r).state.waiting ≡ s.waiting ++ (down t s from m r).items
downed None s from m r = sym (append-nil s.waiting)
downed (Some t) s from m r = refl

pub handle_queues : (me : Pid) (s : ProcessState) (from : Pid) (x : Signal) → (handle me s from x).state.waiting ≡ s.waiting ++ (handle me s from x).items
handle_queues me s from (Message b) = refl
handle_queues me s from (Signal.Exit r) = obeyed (verdict false s.traps (same_pid from me) from r) s
handle_queues me s from (LinkExit ids r) = link_exited (holds_any (held s.links from) ids) me s from r
handle_queues me s from (Signal.Down m r) = downed (lookup (same_ref m) s.watching) s from m r
handle_queues me s from (AliveSay m x) = refl
handle_queues me s from _ = sym (append-nil s.waiting)
