-- `Texts::drop_lost`: its contract.
use Rattle.std.proofs.Common.{◌≡◌, rules, Option, Some, None, refl, ◌∙◌}
use Rattle.example_uses.specs.declared.payloads.Sent.{Sent}
use Rattle.example_uses.specs.Payloads.{is_lost, keep_unless}
use Rattle.example_uses.proofs.Retained.{retained, slot_left}
use Rattle.example_uses.proofs.payloads.Texts.drop_lost.Goals as goal

pub returns : goal.returns
returns c =
    let gone = λ (s : Sent). is_lost c.args.desk.now.shard s.to in
    λ key. retained gone _ _ (λ key shown keep left next called. search rules) _ _ c.retain.ensures.retained key ∙ same c.args.desk.now.shard _
  where
    same : (d : _) (slot : Option Sent) → slot_left (λ (s : Sent). is_lost d s.to) slot ≡ keep_unless (is_lost d) slot
    same d None = refl
    same d (Some s) = refl
