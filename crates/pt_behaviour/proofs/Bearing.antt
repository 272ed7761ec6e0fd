-- Those that waited before still do, in front.
use Rattle.std.proofs.Common.{◌≡◌, ℕ, ◌+◌, ◌-◌, Bool, true, Some, Ok, List, [], ◌∷◌, ◌++◌, length, take, drop, sym, ap, ◌∙◌, length-append, take-append-drop, arith}
use Rattle.std.proofs.lemmas.List.{take-append-le}
use Rattle.pt_behaviour.specs.declared.births.Births.{Births}
use Rattle.pt_behaviour.specs.declared.births.Role.{Role}
use Rattle.pt_workers.proofs.GoingOn.{stays}
use Rattle.pt_signal.specs.declared.pid.Pid.{Pid}
use Rattle.pt_events.specs.History.{is_unborn}
use Rattle.pt_events.specs.Journal.{IsLocal}
use Rattle.pt_shard.specs.ShardState.{ShardState, phase_of}
use Rattle.pt_shard.specs.Calls.{BearsChild, birth_link}
use Rattle.pt_behaviour.proofs.Newborn.{newborn_is}
use Rattle.pt_behaviour.specs.Births.{born, kept_roles}
use Rattle.pt_behaviour.proofs.Takes.{bore_takes}

taken_off : {X : Type 0} (xs : List X) (x : X) (n m : ℕ) → m ≡ n + 1 → take (length (xs ++ x ∷ []) - m) (xs ++ x ∷ []) ≡ take (length xs - n) xs
taken_off xs x n m is =
    let l = length-append xs (x ∷ []) in
    let same : length (xs ++ x ∷ []) - m ≡ length xs - n = omega (arith, l, is) in
    ap (λ k. take k (xs ++ x ∷ [])) same ∙ take-append-le (length xs - n) xs (x ∷ []) (omega arith)

-- one more is born
pub kept_more : {B : Type 0} (old new : Births B) (r : Role B) → born new ≡ born old ++ r ∷ [] → new.fresh ≡ old.fresh + 1 → kept_roles new ≡ kept_roles old
kept_more old new r is fresh =
    ap (λ (xs : List (Role _)). take (length xs - new.fresh) xs) is ∙ taken_off (born old) r old.fresh new.fresh fresh

-- so what a behaviour leaves begins with what was there
pub grown : {B : Type 0} (old mid new : Births B) → kept_roles mid ≡ born old → kept_roles new ≡ kept_roles mid → (bore : List (Role B)) × (born new ≡ born old ++ bore)
grown old mid new all same =
    (drop (length (born new) - new.fresh) (born new), sym (take-append-drop (length (born new) - new.fresh) (born new)) ∙ ap (λ xs. xs ++ drop (length (born new) - new.fresh) (born new)) (same ∙ all))

-- the child was not born before
pub child_unborn : (me : Pid) (linked : Bool) (p : Pid) (d e : ShardState) → BearsChild me linked d (Ok p) e → IsLocal e.start e.config.start e.config.top_version e.number e.journal
    → is_unborn (phase_of d p) ≡ true
child_unborn me linked p d e h local = (newborn_is (Some me) (birth_link linked d) p d e h.1 local).0

-- for the call that bears a child
pub ruleset bearing = (bore_takes, kept_more, stays, child_unborn)
