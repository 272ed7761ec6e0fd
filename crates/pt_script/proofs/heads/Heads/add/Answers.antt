-- `Heads::add`: its contract.
use Rattle.std.proofs.Common.{◌≡◌, ◌++◌, [], ◌∷◌, map, ap, ◌∙◌, arith}
use Rattle.std.proofs.lemmas.List.{map-append}
use Rattle.serde_json.specs.View.{view}
use Rattle.pt_script.specs.Scripts.{begun_in, number_behind, pending_view}
use Rattle.pt_script.proofs.heads.Heads.add.Goals as goal

pub returns : goal.returns
returns c =
    let old = c.args.self.now in
    let d = view c.args.value.now in
    let unread : map pending_view c.push.new.self.items ≡ map pending_view old.unread.items ++ record { trap = c.args.head.trap; value = d } ∷ [] = ap (map pending_view) c.in_ok-push.ensures.items ∙ map-append _ _ _ in
    let next : c.saturating_add-self.result ≡ number_behind old.next (begun_in 63 d) = omega (arith, c.saturating_add-self.ensures, c.begun.ensures) in
    λ i. record { names = c.in_ok-add.ensures i; tops = c.in_ok-push-2.ensures i; unread = unread i; next = next i }
