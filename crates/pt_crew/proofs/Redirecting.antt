-- A process that is woken, as far as there is memory, and then does another thing next.
use Rattle.std.proofs.Common.{◌≡◌, true, false, cond, [], Option, Some, None, Result, Ok, Err, refl, sym, ap, ◌∙◌}
use Rattle.std.specs.Prelude.{IsOk, OnErr, OnOk, is_some}
use Rattle.std.specs.Option.{option_map}
use Rattle.std.proofs.lemmas.List.{append-nil}
use Rattle.pt_signal.specs.declared.pid.Pid.{Pid}
use Rattle.pt_signal.specs.Values.{same_pid}
use Rattle.pt_shard.specs.ShardState.{ShardState}
use Rattle.pt_behaviour.specs.declared.behaviour.Next.{Next}
use Rattle.pt_crew.specs.declared.crew.Crew.{Crew}
use Rattle.pt_crew.specs.Visiting.{AreSame, AreWith}
use Rattle.pt_crew.specs.Crews.{Attends, HasRoom, HasTimers, IsSame, KeepsRest, KnowsDesk, queue, read_events, role, roles}
use Rattle.pt_crew.specs.Stepping.{QueueIsLonger}
use Rattle.pt_crew.specs.Parts.{AllMarked, Wakes}
use Rattle.pt_crew.specs.Redirecting.{IsRedirected}
use Rattle.pt_crew.proofs.Reading.{woke_knows}
use Rattle.pt_crew.proofs.Visiting.{rest_then}

-- one that is of the crew
pub of_crew : {B : Type 0} (o : Option (B × Next)) (r : Option Next) → r ≡ option_map (λ (x : B × Next). x.1) o → is_some r ≡ true → (b : B) × (n : Next) × (o ≡ Some (b, n))
of_crew None r e h = absurd (let k : false ≡ true = sym (ap is_some e) ∙ h in cc)
of_crew (Some (b, n)) r e h = (b, n, refl)

-- what is known of a crew of which one was woken, or none for want of memory
pub record Woken {B : Type 0} (old new : Crew B) : Type 0 where
  pub roles : AreSame (roles old) (roles new)
  pub longer : QueueIsLonger (queue old) (queue new)
  pub read : read_events new ≡ read_events old
  pub rest : KeepsRest old new

pub woken : {B E : Type 0} (p : Pid) (old new : Crew B) (result : Result (Unit {0}) E) → OnOk result (Wakes p old new) → OnErr result (IsSame old new) → Woken old new
woken p old new (Ok x) wakes same = record { roles = wakes.roles; longer = wakes.longer; read = wakes.read; rest = wakes.rest }
woken p old new (Err x) wakes same = record {
  roles = λ q. ap (option_map role) (same.members q);
  longer = ([], same.queue ∙ sym (append-nil (queue old)));
  read = same.read;
  rest = same.rest;
}

-- where there is memory it was woken
pub is_woken : {B E : Type 0} (p : Pid) (old new : Crew B) (result : Result (Unit {0}) E) → OnOk result (Wakes p old new) → IsOk result → Wakes p old new
is_woken p old new (Ok x) wakes ok = wakes
is_woken p old new (Err x) wakes ok = absurd (cc)

module _ {B E : Type 0} (p : Pid) (next : Next) (old mid new : Crew B) (result : Result (Unit {0}) E) (wakes : OnOk result (Wakes p old mid)) (same : OnErr result (IsSame old mid)) where
  pub redirected : (set : (b : B) (n : Next) → roles mid p ≡ Some (b, n) → AreWith p (Some (b, next)) (roles mid) (roles new)) → queue new ≡ queue mid → read_events new ≡ read_events mid → KeepsRest mid new
      → (b : B) × (n : Next) × (roles old p ≡ Some (b, n)) → IsRedirected p next old new
  redirected set bare read rest was =
      let w = woken p old mid result wakes same in
      record {
        behaviour = was.0;
        before = was.1;
        was = was.2;
        does = λ q. set was.0 was.1 (w.roles p ∙ was.2) q ∙ ap (λ o. cond (same_pid p q) (Some (was.0, next)) o) (w.roles q);
        longer = (w.longer.0, bare ∙ w.longer.1);
        read = read ∙ w.read;
        rest = rest_then old mid new w.rest rest;
      }

  pub attends_redirected : (d : ShardState) → (HasRoom old → IsOk result × HasRoom mid) → (AllMarked p mid → KnowsDesk mid d → KnowsDesk new d) → (AllMarked p mid → HasTimers mid → HasTimers new) → (HasRoom mid → HasRoom new)
      → Attends old d → Attends new d
  attends_redirected d room knows timers keeps a =
      let r = room a.room in
      let w = is_woken p old mid result wakes r.0 in
      record {
        knows = knows w.marked (woke_knows p old mid d w a.knows);
        room = keeps r.1;
        timers = timers w.marked (w.timers a.timers);
      }
