-- `Scheduler::drop_left`: its contract, and its loop over `place`.
use Rattle.std.proofs.Common.{◌≡◌, ◌++◌, ◌+◌, ◌<◌, ◌∷◌, [], List, length, Option, Some, None, refl, ap, ◌∙◌, length-append, arith}
use Rattle.std.specs.Prelude.{option_to_list}
use Rattle.pt_behaviour.specs.declared.births.Role.{Role}
use Rattle.pt_scheduler.specs.declared.member.Member.{Member}
use Rattle.pt_scheduler.proofs.scheduler.Scheduler.drop_left.Goals as goal

one_less : (was now : List (Role Member)) (o : Option (Role Member)) → was ≡ now ++ option_to_list o → (o ≡ None → was ≡ []) → 0 < length was → length now + 1 ≡ length was
one_less was now None is none some = absurd (let l = ap length (none refl) in omega (arith, l, some))
one_less was now (Some r) is none some = let l = ap length is in let a = length-append now (r ∷ []) in omega (arith, l, a)

none_of : (xs : List (Role Member)) → length xs ≡ 0 → xs ≡ []
none_of [] is = refl
none_of (x ∷ xs) is = absurd (omega (arith, is))

pub loop-place-init : goal.loop-place-init
loop-place-init c = record { roles = λ q. refl; fewer = omega arith; waiting = refl; queue = refl; refused = refl; time = refl; read = refl; desk = refl; attends = λ d a. a }

pub loop-place-preserved : goal.loop-place-preserved
loop-place-preserved c =
    let inv = c.loop-place.invariant in
    let t = c.take_left.ensures in
    let f = inv.fewer in
    let w = c.loop-place-test.true in
    let e = ap (λ (l : List (Role Member)). length l) c.left-place-end.ensures in
    let less = one_less _ _ c.take_left.result t.left t.none (omega (arith, f, w, e)) in
    record {
      roles = λ q. t.roles q ∙ inv.roles q;
      fewer = omega (arith, f, less);
      waiting = t.rest.2 ∙ inv.waiting;
      queue = t.queue ∙ inv.queue;
      refused = t.rest.1 ∙ inv.refused;
      time = t.time ∙ inv.time;
      read = inv.read;
      desk = inv.desk;
      attends = λ d a. t.attends d (inv.attends d a);
    }

pub returns : goal.returns
returns c =
    let inv = c.loop-place.invariant in
    let f = inv.fewer in
    let w = c.loop-place-test.false in
    let e = ap (λ (l : List (Role Member)). length l) c.left-place-end.ensures in
    record {
      roles = inv.roles;
      left = none_of _ (omega (arith, f, w, e));
      waiting = inv.waiting;
      queue = inv.queue;
      refused = inv.refused;
      time = inv.time;
      read = inv.read;
      desk = inv.desk;
      attends = inv.attends;
    }
