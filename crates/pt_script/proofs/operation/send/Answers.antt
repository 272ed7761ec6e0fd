-- `send`: its contract.
use Rattle.std.proofs.Common.{◌≡◌, ℕ, Ok, Err, ◌∷◌, [], sym, refl}
use Rattle.std.specs.Prelude.{codes}
use Rattle.std.proofs.lemmas.Result.{err_from_is_err_and}
use Rattle.serde_json.specs.Data.{Data}
use Rattle.serde_json.specs.Find.{get}
use Rattle.serde_json.specs.View.{view}
use Rattle.pt_script.specs.declared.fault.Fault.{Fault}
use Rattle.pt_script.specs.Members.{known_members, required, signed}
use Rattle.pt_script.specs.Operations.{send, process, kind}
use Rattle.pt_script.specs.Scopes.{Scope, scope_view}
use Rattle.pt_script.proofs.operation.send.Goals as goal

kind_refused : (s : Scope) (d : Data) (to : ℕ) (fault : Fault) → known_members (codes "op" ∷ codes "to" ∷ codes "kind" ∷ codes "num" ∷ codes "who" ∷ []) d ≡ Ok tt → required (process s) (get (codes "to") d) ≡ Ok to
    → required kind (get (codes "kind") d) ≡ Err fault → send s d ≡ Err fault
unfolding send
kind_refused s d to fault names t k = rw (names, t, k) refl

num_refused : (s : Scope) (d : Data) (to of_kind : ℕ) (fault : Fault) → known_members (codes "op" ∷ codes "to" ∷ codes "kind" ∷ codes "num" ∷ codes "who" ∷ []) d ≡ Ok tt → required (process s) (get (codes "to") d) ≡ Ok to
    → required kind (get (codes "kind") d) ≡ Ok of_kind → required signed (get (codes "num") d) ≡ Err fault → send s d ≡ Err fault
unfolding send
num_refused s d to of_kind fault names t k n = rw (names, t, k, n) refl

pub returns-in_err-kind : goal.returns-in_err-kind
returns-in_err-kind c =
    let p = err_from_is_err_and c.from_residual-in_err-kind.result c.from_residual-in_err-kind.ensures.1 in
    rw (p.1, p.2) (sym (kind_refused (scope_view c.args.scope.now) (view c.args.value.now) c.in_ok-to.to _ c.in_ok-known.ensures
    (sym (rw c.get.ensures at c.in_ok-to.ensures))
    (sym (rw c.get-2.ensures at c.in_err-kind.ensures))))

pub returns-in_err-num : goal.returns-in_err-num
returns-in_err-num c =
    let p = err_from_is_err_and c.from_residual-in_err-num.result c.from_residual-in_err-num.ensures.1 in
    rw (p.1, p.2) (sym (num_refused (scope_view c.args.scope.now) (view c.args.value.now) c.in_ok-to.to c.in_ok-kind.kind _ c.in_ok-known.ensures
    (sym (rw c.get.ensures at c.in_ok-to.ensures))
    (sym (rw c.get-2.ensures at c.in_ok-kind.ensures))
    (sym (rw c.get-3.ensures at c.in_err-num.ensures))))
