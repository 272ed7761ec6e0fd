-- One that was born enters.
use Rattle.std.proofs.Common.{◌≡◌, inl, inr, Bool, true, List, [], ◌++◌, sym, ap, subst, ◌∙◌, append-nil}
use Rattle.pt_signal.specs.declared.pid.Pid.{Pid}
use Rattle.pt_crew.specs.declared.crew.Crew.{Crew}
use Rattle.pt_behaviour.specs.declared.births.Role.{Role}
use Rattle.pt_crew.specs.Crews.{waiting, queue, IsSame}
use Rattle.pt_crew.specs.Parts.{aboard, AdmitsOf, AdmitsFirst, CanEnter}
use Rattle.pt_crew.specs.Stepping.{QueueIsLonger}
use Rattle.pt_crew.proofs.Visiting.{same_roles}

module _ {B : Type 0} (lives : Pid → Bool) (old mid new : Crew B) (room : IsSame old mid) where
  same_aboard : aboard mid ≡ aboard old
  same_aboard i = ((λ q. same_roles old mid room q i), room.rest.left i)

  longer_from : QueueIsLonger (queue mid) (queue new) → QueueIsLonger (queue old) (queue new)
  longer_from l = (l.0, l.1 ∙ ap (λ (ps : List Pid). ps ++ l.0) room.queue)

  pub denied : aboard new ≡ aboard mid → waiting new ≡ waiting mid → new.refused ≡ true → queue new ≡ queue mid → new.rounds ≡ mid.rounds → new.time ≡ mid.time → (CanEnter old → ⊥) → AdmitsFirst lives old new
  denied same waits on stands rounds times full = record {
    admits = inr (same ∙ same_aboard, waits ∙ room.rest.waiting, on, full);
    longer = longer_from ([], stands ∙ sym (append-nil (queue mid)));
    rounds = rounds ∙ room.rest.rounds;
    time = times ∙ room.rest.time;
  }

  pub nobody_waits : waiting mid ≡ [] → aboard new ≡ aboard mid → waiting new ≡ [] → new.refused ≡ mid.refused → queue new ≡ queue mid → new.rounds ≡ mid.rounds → new.time ≡ mid.time → AdmitsFirst lives old new
  nobody_waits none same waits quiet stands rounds times = record {
    admits = inl (subst (λ (w : List (Role B)). AdmitsOf lives w old new) (sym (sym room.rest.waiting ∙ none)) (same ∙ same_aboard, waits, quiet ∙ room.rest.refused));
    longer = longer_from ([], stands ∙ sym (append-nil (queue mid)));
    rounds = rounds ∙ room.rest.rounds;
    time = times ∙ room.rest.time;
  }
