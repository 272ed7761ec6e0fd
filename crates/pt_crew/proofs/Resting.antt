-- A crew of nobody, and one of which nobody has anything to do.
use Rattle.std.proofs.Common.{◌≡◌, true, false, [], Option, Some, None, refl, sym, ap, subst, ◌∙◌}
use Rattle.std.specs.Option.{option_map}
use Rattle.pt_signal.specs.declared.pid.Pid.{Pid}
use Rattle.pt_shard.specs.ShardState.{ShardState, phase_of}
use Rattle.pt_behaviour.specs.declared.behaviour.Next.{Next}
use Rattle.pt_crew.specs.declared.crew.Member.{Member}
use Rattle.pt_crew.specs.declared.crew.Crew.{Crew}
use Rattle.pt_crew.specs.Waking.{IsAwake, has_work, in_queue}
use Rattle.pt_crew.specs.Crews.{members, queue, role, roles, waiting, IsIdle}
use Rattle.pt_behaviour.specs.Upholding.{Relation, AllFirst}
use Rattle.pt_crew.specs.Upholding.{Upholds}
use Rattle.pt_behaviour.proofs.Cases.{by_cases, some_none}

-- a crew of nobody upholds what it likes
pub nobody_upholds : {B : Type 0} (stands : Relation B) (c : Crew B) (d : ShardState) → ((p : Pid) → roles c p ≡ None) → waiting c ≡ [] → Upholds stands c d
nobody_upholds stands c d none bare = record {
  members = λ p r is. some_none (roles c p) r (none p) is;
  waiting = subst (AllFirst stands) (sym bare) tt;
}

-- a crew with an empty queue, in which whoever has something to do stands there, is idle
member_of : {B : Type 0} (o : Option (Member B)) (r : B × Next) → option_map role o ≡ Some r → (m : Member B) × (o ≡ Some m) × (role m ≡ r)
member_of None r is = absurd (cc)
member_of (Some m) r is = (m, refl, cc)

pub awake_idle : {B : Type 0} (c : Crew B) (d : ShardState) → IsAwake (members c) (queue c) d → queue c ≡ [] → IsIdle c d
awake_idle c d awake bare p r is =
    let m = member_of (members c p) r is in
    by_cases (has_work r.1 (phase_of d p))
    (λ works.
    let stands : in_queue p (queue c) ≡ true = awake p m.0 m.1 (ap (λ (x : _ × Next). has_work x.1 (phase_of d p)) m.2 ∙ works) in
    let bad : false ≡ true = sym (ap (in_queue p) bare) ∙ stands in absurd (cc))
    (λ none. none)
