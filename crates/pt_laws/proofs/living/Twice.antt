-- To go on twice is to go on once with both histories.
use Rattle.std.proofs.Common.{◌≡◌, List, [], ◌∷◌, ◌++◌, map, cond, refl, ap, ◌∙◌}
use Rattle.std.specs.Map.{keys_of}
use Rattle.pt_signal.specs.declared.pid.Pid.{Pid}
use Rattle.pt_events.specs.declared.event.Event.TheVariants.{Born}
use Rattle.pt_events.specs.History.{Past, Start, Phase, life, is_unborn}
use Rattle.pt_laws.specs.Load.{IsStart, pids}
use Rattle.pt_laws.specs.Resumed.{outcome, start_after}
use Rattle.pt_laws.proofs.living.Resumed.{same_outcome, same_unborn_is}

keys_paired : (f : Pid → Phase) (ps : List Pid) → keys_of (map (λ q. (q, f q)) ps) ≡ ps
keys_paired f [] = refl
keys_paired f (p ∷ ps) = ap (λ z. p ∷ z) (keys_paired f ps)

abbrev paired : (Pid → Phase) → List Pid → List (Pid × Phase)
paired f ps = map (λ p. (p, f p)) ps

alike : (f g : Pid → Phase) → ((p : Pid) → f p ≡ g p) → (ps : List Pid) → paired f ps ≡ paired g ps
alike f g h [] = refl
alike f g h (p ∷ ps) = rw (h p, alike f g h ps) refl

module _ (start : Start) (ok : IsStart start) (one : Past) where
  same_pids : (two : Past) → pids (start_after start one) two ≡ pids start (two ++ one)
  same_pids [] = keys_paired (λ p. outcome (life start one p)) (pids start one)
  same_pids (Born p parent link ∷ two) =
      ap (λ z. z ++ cond (is_unborn (life (start_after start one) two p)) (p ∷ []) []) (same_pids two)
      ∙ ap (λ b. pids start (two ++ one) ++ cond b (p ∷ []) []) (same_unborn_is start ok one two p)
  same_pids (_ ∷ two) = same_pids two

  pub twice : (two : Past) → start_after (start_after start one) two ≡ start_after start (two ++ one)
  twice two =
      alike (λ p. outcome (life (start_after start one) two p)) (λ p. outcome (life start (two ++ one) p)) (same_outcome start ok one two) (pids (start_after start one) two)
      ∙ ap (paired (λ p. outcome (life start (two ++ one) p))) (same_pids two)
