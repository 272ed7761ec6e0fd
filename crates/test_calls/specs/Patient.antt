-- A behaviour that only listens never asks to stop, and its crew keeps that. No public clause cites this module.
use Rattle.std.specs.Prelude.{◌≡◌, [], List}
use Rattle.std.proofs.Common.{sym, ap, subst}
use Rattle.pt_shard.specs.ShardState.{ShardState, phase_of}
use Rattle.pt_signal.specs.declared.item.Pick.TheVariants.{Any}
use Rattle.pt_behaviour.specs.declared.behaviour.Next.{Next}
use Rattle.pt_behaviour.specs.declared.behaviour.Next.TheVariants.{Wait, WaitUntil, Proceed, Running, Stop}
use Rattle.pt_behaviour.specs.declared.births.Role.{Role}
use Rattle.pt_behaviour.specs.Behaving.{Answers}
use Rattle.pt_behaviour.specs.Upholding.{Relation, IsUpheld, AllFirst, children_by}

-- it does nothing to its desk, bears nobody, and waits for any item
abbrev pub Listens : {B : Type 0} → Answers B
Listens {B} time old d me item next new e births = (e ≡ d) × (births ≡ []) × (next ≡ Wait Any)

-- a process does not ask to stop
abbrev pub GoesOnWith : Next → Type 0
GoesOnWith (Wait k) = Unit {0}
GoesOnWith (WaitUntil k at) = Unit {0}
GoesOnWith Proceed = Unit {0}
GoesOnWith Running = Unit {0}
GoesOnWith (Stop r) = ⊥

abbrev pub NeverStops : {B : Type 0} → Relation B
NeverStops {B} b next me d = GoesOnWith next

pub listeners_never_stop : {B : Type 0} → IsUpheld {B = B} Listens NeverStops
listeners_never_stop {B} = record {
  acts = λ time b d p item next now e births a q other born.
      (ap (λ (x : ShardState). phase_of x q) a.0, ap (λ (x : ShardState). children_by q x.journal) a.0);
  hands = λ time b before p item was d next now e births h born taken a later.
      subst (λ (n : Next). GoesOnWith n) (sym a.2) (tt {0});
  bears = λ time b d p item next now e births a.
      subst (λ (roles : List (Role B)). AllFirst {B = B} NeverStops roles) (sym a.1) (tt {0});
  others = λ b next p d e h born later same. h;
  ends = λ b r p d h born. h;
  receives = λ b next p d l h born. h;
}
