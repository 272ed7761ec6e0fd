-- The tests of the plain values decide equality.
use Rattle.std.proofs.Common.{◌≡◌, ℕ, true, false, ◌==◌, refl}
use Rattle.std.proofs.lemmas.Bool.{eqb-true, eq-eqb, and_parts}
use Rattle.pt_signal.specs.declared.pid.Pid.{Pid}
use Rattle.pt_signal.specs.declared.ids.Ref.{Ref}
use Rattle.pt_signal.specs.declared.ids.LinkId.{LinkId}
use Rattle.pt_signal.specs.Values.{same_pid, same_ref, same_link}

eqb_refl : (n : ℕ) → (n == n) ≡ true
eqb_refl n = eq-eqb n n refl

pub same_pid_refl : (p : Pid) → same_pid p p ≡ true
same_pid_refl p = simp eqb_refl

pub same_pid_is : (p q : Pid) → same_pid p q ≡ true → p ≡ q
same_pid_is p q h =
    let a = and_parts _ _ h in
    let b = and_parts _ _ a.0 in
    let e1 : p.shard ≡ q.shard = eqb-true _ _ b.0 in
    let e2 : p.slot ≡ q.slot = eqb-true _ _ b.1 in
    let e3 : p.version ≡ q.version = eqb-true _ _ a.1 in
    λ i. record { shard = e1 i; slot = e2 i; version = e3 i }

pub same_ref_refl : (p : Ref) → same_ref p p ≡ true
same_ref_refl p = simp eqb_refl

pub same_ref_is : (p q : Ref) → same_ref p q ≡ true → p ≡ q
same_ref_is p q h =
    let a = and_parts _ _ h in
    let e1 : p.desk ≡ q.desk = eqb-true _ _ a.0 in
    let e2 : p.number ≡ q.number = eqb-true _ _ a.1 in
    λ i. record { desk = e1 i; number = e2 i }

pub same_link_refl : (p : LinkId) → same_link p p ≡ true
same_link_refl p = simp eqb_refl

pub same_link_is : (p q : LinkId) → same_link p q ≡ true → p ≡ q
same_link_is p q h =
    let a = and_parts _ _ h in
    let e1 : p.desk ≡ q.desk = eqb-true _ _ a.0 in
    let e2 : p.number ≡ q.number = eqb-true _ _ a.1 in
    λ i. record { desk = e1 i; number = e2 i }

-- two pids of different shards are not the same
pub same_pid_apart : (p q : Pid) → (p.shard == q.shard) ≡ false → same_pid p q ≡ false
same_pid_apart p q h = rw h
