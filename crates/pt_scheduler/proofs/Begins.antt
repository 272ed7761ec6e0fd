-- What the children of a supervisor begin as.
use Rattle.std.proofs.Common.{◌≡◌, ℕ, List, [], ◌∷◌, ◌++◌, Option, Some, None, Ok, sym, ap, subst, ◌∙◌, append-nil}
use Rattle.std.proofs.Math.Seq.{drop-append_seam}
use Rattle.pt_signal.specs.declared.pid.Pid.{Pid}
use Rattle.pt_behaviour.specs.declared.behaviour.Next.{Next}
use Rattle.pt_behaviour.specs.declared.behaviour.Next.TheVariants.{Proceed}
use Rattle.pt_behaviour.specs.declared.births.Role.{Role}
use Rattle.pt_behaviour.specs.Births.{bore}
use Rattle.pt_supervisor.specs.Keeping.{AllStarted, SupervisorBegins}
use Rattle.pt_scheduler.specs.declared.member.Member.{Member}
use Rattle.pt_scheduler.specs.declared.plan.Plan.{Plan}
use Rattle.pt_scheduler.specs.declared.plan.Post.{Post}
use Rattle.pt_scheduler.specs.Planning.{child_of_post, new_child, post_at, starts_post}
use Rattle.pt_scheduler.specs.Members.{boss_part}
use Rattle.pt_scheduler.specs.Scheduling.{AreUntold}

pub is_child_of : (me : Pid) (o : Option Post) (b : Member) (first : Next) → Ok (b, first) ≡ child_of_post me o → (post : Post) × (b ≡ new_child post me)
is_child_of me None b first is = absurd (cc)
is_child_of me (Some post) b first is =
    let e : (b, first) ≡ (new_child post me, Proceed) = cc in (post, ap (λ (r : Member × Next). r.0) e)

-- none of them is a supervisor
pub begins_outside : (me : Pid) (was : Plan) (place : ℕ) (b : Member) (first : Next) (later : Plan) → starts_post was me place (Ok (b, first)) later → SupervisorBegins (boss_part b) first
begins_outside me was place b first later s =
    let c = is_child_of me (post_at was place) b first s.1 in
    subst (λ (x : Member). SupervisorBegins (boss_part x) first) (sym c.1) tt

-- where nobody was born
pub bore_same : (xs : List (Role Member)) → bore xs xs ≡ []
bore_same xs = ap (bore xs) (sym (append-nil xs)) ∙ drop-append_seam xs []

-- whoever was born waits behind those who waited
pub bore_behind : (old new more : List (Role Member)) → new ≡ old ++ more → new ≡ old ++ bore old new
bore_behind old new more is = is ∙ ap (λ (xs : List (Role Member)). old ++ xs) (sym (ap (bore old) is ∙ drop-append_seam old more))

-- of none of them anything is known yet
pub all_fresh : (me : Pid) (rs : List (Role Member)) → AllStarted starts_post me rs → AreUntold rs
all_fresh me [] a = tt
all_fresh me (r ∷ rs) a =
    let c = is_child_of me (post_at a.0.0 a.0.1) r.behaviour r.next a.0.3.1 in (
      ap (λ (b : Member). b.notes.ended) c.1,
      all_fresh me rs a.1,
    )
