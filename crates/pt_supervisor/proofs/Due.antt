-- What a supervisor does next as it stands.
use Rattle.std.proofs.Common.{◌≡◌, inl, inr, ℕ, zero, suc, Bool, true, false, cond, List, length, slice_get, Option, Some, None, refl, ap, ◌∙◌, Result, Ok, Err, sym, subst}
use Rattle.std.specs.Prelude.{nat_le, ◌||◌, not, OnErr, is_ok}
use Rattle.std.specs.Option.{option_map}
use Rattle.pt_signal.specs.declared.pid.Pid.{Pid}
use Rattle.pt_behaviour.specs.declared.behaviour.Next.TheVariants.{Proceed}
use Rattle.pt_children.specs.declared.asked.Stage.{Stage}
use Rattle.pt_children.specs.declared.asked.Stage.TheVariants.{Gone, Watched, Waiting, Until, Killed}
use Rattle.pt_children.specs.declared.children.Child.{Child}
use Rattle.pt_children.specs.declared.children.Shutdown.{Shutdown}
use Rattle.pt_children.specs.declared.children.Shutdown.TheVariants.{Infinity, After, BrutalKill}
use Rattle.pt_supervisor.specs.Changed.{due_at, due_for, next_due, RemembersWhere}
use Rattle.pt_children.specs.Children.{NoneLives, last_alive, leaving, leaving_in, or_before}
use Rattle.pt_children.specs.Ending.{stage_of}
use Rattle.pt_children.specs.Hearing.{Standing}
use Rattle.pt_supervisor.specs.Supervising.{Supervises}
use Rattle.pt_supervisor.proofs.Ending.{stage_at}
use Rattle.pt_events.specs.History.{Past, Phase, is_unborn}
use Rattle.pt_shard.specs.ShardState.{ShardState, phase_of}
use Rattle.pt_behaviour.specs.declared.behaviour.Next.{Next}
use Rattle.pt_children.specs.declared.child_fault.ChildFault.{ChildFault}
use Rattle.pt_supervisor.specs.Keeping.{HoldsAs, HoldsWhere, IsReady}

at_supervises : (s : Standing) (p : Pid) (shutdown : Shutdown) (stage : Option Stage) → last_alive s.children s.ending (length s.children) ≡ Some (p, shutdown) → stage_of s.asked p ≡ stage → Supervises (due_at stage shutdown) s
at_supervises s p shutdown None last is = tt
at_supervises s p shutdown (Some Gone) last is = tt
at_supervises s p shutdown (Some (Watched m)) last is = tt
at_supervises s p Infinity (Some (Waiting m)) last is = (p, Infinity, inl (refl, (last, stage_at s.asked p (Waiting m) is)))
at_supervises s p (After time) (Some (Waiting m)) last is = tt
at_supervises s p BrutalKill (Some (Waiting m)) last is = tt
at_supervises s p shutdown (Some (Until m at)) last is = (p, shutdown, (last, stage_at s.asked p (Until m at) is))
at_supervises s p shutdown (Some (Killed m)) last is = (p, shutdown, inr (last, stage_at s.asked p (Killed m) is))

for_supervises : (s : Standing) (o : Option (Pid × Shutdown)) → last_alive s.children s.ending (length s.children) ≡ o → Supervises (due_for o s) s
for_supervises s None last = tt
for_supervises s (Some (p, shutdown)) last = at_supervises s p shutdown (stage_of s.asked p) last refl

-- it waits for the child that it ends, if it waits
pub due_supervises : (s : Standing) → Supervises (next_due s) s
due_supervises s = for_supervises s (last_alive s.children s.ending (length s.children)) refl

-- where none lives it proceeds
cond_none : {A : Type 0} (b : Bool) (o : Option A) → o ≡ None → cond b o None ≡ None
cond_none true o is = is
cond_none false o is = refl

not_leaving : (all : Bool) (o : Option Child) → ((c : Child) → o ≡ Some c → c.pid ≡ None) → leaving_in all o ≡ None
not_leaving all None none = refl
not_leaving all (Some c) none = cond_none (all || not c.wanted) (leaving c) (ap (option_map (λ (p : Pid). (p, c.shutdown))) (none c refl))

none_last : (children : List Child) (first n : ℕ) → NoneLives children → last_alive children first n ≡ None
none_last children first zero none = refl
none_last children first (suc n) none =
    ap (λ (o : Option (Pid × Shutdown)). or_before o (last_alive children first n)) (not_leaving (nat_le first n) (slice_get children n) (none n)) ∙ none_last children first n none

pub due_proceeds : (s : Standing) → NoneLives s.children → next_due s ≡ Proceed
due_proceeds s none = ap (λ (o : Option (Pid × Shutdown)). due_for o s) (none_last s.children s.ending (length s.children) none)

-- what one upholds that a call changed --------------------------------------------------------------

-- it takes no item without one to take
at_ready : (stage : Option Stage) (shutdown : Shutdown) (f : Phase) → IsReady (due_at stage shutdown) f
at_ready None shutdown f = tt
at_ready (Some Gone) shutdown f = tt
at_ready (Some (Watched m)) shutdown f = tt
at_ready (Some (Waiting m)) Infinity f = tt
at_ready (Some (Waiting m)) (After time) f = tt
at_ready (Some (Waiting m)) BrutalKill f = tt
at_ready (Some (Until m at)) shutdown f = tt
at_ready (Some (Killed m)) shutdown f = tt

for_ready : (s : Standing) (o : Option (Pid × Shutdown)) (f : Phase) → IsReady (due_for o s) f
for_ready s None f = tt
for_ready s (Some (p, shutdown)) f = at_ready (stage_of s.asked p) shutdown f

due_ready : (s : Standing) (f : Phase) → IsReady (next_due s) f
due_ready s f = for_ready s (last_alive s.children s.ending (length s.children)) f

module _ (past : Past) (s t : Standing) (before : Next) (p : Pid) (d : ShardState) where
  -- one that was changed so does what is due next
  due_holds : HoldsWhere s t → RemembersWhere s t → is_unborn (phase_of d p) ≡ false → HoldsAs past (Some s) before p d → HoldsAs past (Some t) (next_due t) p d
  due_holds holds remembers born h = (
    λ alive.
        let was = h.0 alive in
        let is = holds past before p d (record { remembers = was.remembers; traps = was.traps; family = was.family; asks = was.asks }) in
        record {
          waits = due_supervises t;
          ready = due_ready t (phase_of d p);
          remembers = is.remembers;
          traps = elim is.traps [
            | inl on ↦ inl on
            | inr none ↦ inr (due_proceeds t none.1, none.1)
          ];
          family = is.family;
          asks = is.asks;
        },
    due_supervises t,
    remembers past p d h.2,
    λ unborn. absurd (let bad : false ≡ true = sym born ∙ unborn in cc),
  )

  pub asked_holds : {A : Type 0} (result : Result A ChildFault) (taken : Bool) → taken ≡ is_ok result → HoldsWhere s t → RemembersWhere s t → OnErr result (t ≡ s) → is_unborn (phase_of d p) ≡ false
      → HoldsAs past (Some s) before p d → HoldsAs past (Some t) (cond taken (next_due t) before) p d
  asked_holds (Ok a) taken is holds remembers same born h =
      subst (λ (b : Bool). HoldsAs past (Some t) (cond b (next_due t) before) p d) (sym is) (due_holds holds remembers born h)
  asked_holds (Err f) taken is holds remembers same born h =
      subst (λ (b : Bool). HoldsAs past (Some t) (cond b (next_due t) before) p d) (sym is) (subst (λ (x : Standing). HoldsAs past (Some x) before p d) (sym same) h)
