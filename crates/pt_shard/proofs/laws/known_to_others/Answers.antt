-- `known_to_others`: its contract.
use Rattle.std.proofs.Common.{◌≡◌, ◌≢◌, ℕ, Bool, true, false, ◌&&◌, ◌==◌, refl, ◌∙◌, ap}
use Rattle.std.proofs.lemmas.Bool.{eqb-true}
use Rattle.pt_signal.specs.declared.pid.Pid.{Pid}
use Rattle.pt_shard.specs.ShardState.{ShardState}
use Rattle.pt_shard.specs.Known.{knows, is_in_node, is_not_ahead}
use Rattle.pt_shard.proofs.laws.known_to_others.Goals as goal

first_of_two : (x y : Bool) → (x && y) ≡ true → x ≡ true
first_of_two true y h = refl
first_of_two false y h = absurd (cc)

apart : (m n : ℕ) → m ≢ n → (m == n) ≡ false
apart m n h = go (m == n) refl
  where
    go : (b : Bool) → (m == n) ≡ b → (m == n) ≡ false
    go true k = absurd (h (eqb-true m n k))
    go false k = k

known : (d e : ShardState) (p : Pid) → e.config ≡ d.config → knows d p ≡ true → p.shard ≢ e.number → knows e p ≡ true
known d e p same knows_it other =
    let inside : is_in_node e.config p ≡ true = ap (λ c. is_in_node c p) same ∙ first_of_two (is_in_node d.config p) (is_not_ahead d p) knows_it in
    let far = apart p.shard e.number other in
    rw (inside, far) refl

pub returns : goal.returns
returns c = known
