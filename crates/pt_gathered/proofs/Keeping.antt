-- What was kept of a node when it was gathered stays kept of it, also after settling.
use Rattle.std.specs.Prelude.{Option, Some, None, IfSome}
use Rattle.pt_gathered.specs.Gathered.{GatheredState}
use Rattle.pt_gathered.specs.Settling.{Settles}
use Rattle.pt_gathered.specs.Keeping.{KeptState, IsKeptOf, IsKeptFor}
use Rattle.pt_gathered.proofs.StepByStep.{settles_same, settles_along}

pub kept_at_first : (g : GatheredState) (k : KeptState) → IsKeptOf g k → IsKeptFor g k
kept_at_first g k of = record { gathered = g; kept = of; settles = settles_same g }

kept_after : (old new : GatheredState) (k : KeptState) → Settles old new → IsKeptFor old k → IsKeptFor new k
kept_after old new k settles for = record { gathered = for.gathered; kept = for.kept; settles = settles_along for.gathered old new for.settles settles }

-- if anything is kept
pub still_kept : (old new : GatheredState) (o : Option KeptState) → Settles old new → IfSome o (λ k. IsKeptFor old k) → IfSome o (λ k. IsKeptFor new k)
still_kept old new None settles for = tt
still_kept old new (Some k) settles for = kept_after old new k settles for
