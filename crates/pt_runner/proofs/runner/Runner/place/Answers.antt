-- `Runner::place`: its contract, and its loop over `actor`.
use Rattle.std.proofs.Common.{◌≡◌, ◌<◌, ◌≤◌, Bool, true, false, List, None, Some, length, get_or, sym, ap, subst, ◌∙◌, arith, rules}
use Rattle.std.specs.List.{find}
use Rattle.std.specs.Option.{option_map}
use Rattle.std.proofs.lemmas.List.{take_all}
use Rattle.pt_signal.specs.Values.{same_pid}
use Rattle.pt_runner.specs.declared.runner.Actor.{Actor}
use Rattle.pt_runner.specs.declared.runner.Place.{Place}
use Rattle.pt_runner.specs.Acting.{Acting, acting, place_of}
use Rattle.pt_runner.proofs.Finding.{found, found_mapped, passed_one}
use Rattle.pt_runner.proofs.runner.Runner.place.Goals as goal

pub returns-then-eq : goal.returns-then-eq
returns-then-eq c =
    let actors = c.args.self.now.actors.items in
    let i = c.loop-actor.actor-index in
    let item = c.actor-item.result in
    let hit : same_pid item.pid c.args.p ≡ true = search rules in
    let lt : i < length actors = subst (λ (xs : List Actor). i < length xs) c.deref-actor-items.ensures.value c.loop-actor-test.true in
    let at : item ≡ get_or actors i item = c.actor-item.is ∙ ap (λ (xs : List Actor). get_or xs i item) c.deref-actor-items.ensures.value in
    let is : same_pid (get_or actors i item).pid c.args.p ≡ true = subst (λ (a : Actor). same_pid a.pid c.args.p ≡ true) at hit in
    let place : Actor → Place = λ a. place_of (acting a) in
    sym (found_mapped acting place_of (λ (a : Acting). same_pid a.pid c.args.p) actors
    ∙ ap (option_map place) (found (λ (a : Actor). same_pid a.pid c.args.p) actors i item lt c.loop-actor.invariant is) ∙ ap (λ (a : Actor). option_map place (Some a)) (sym at))

pub loop-actor-preserved : goal.loop-actor-preserved
loop-actor-preserved c =
    let actors = c.args.self.now.actors.items in
    let i = c.loop-actor.actor-index in
    let item = c.actor-item.result in
    let miss : same_pid item.pid c.args.p ≡ false = search rules in
    let lt : i < length actors = subst (λ (xs : List Actor). i < length xs) c.deref-actor-items.ensures.value c.loop-actor-test.true in
    let at : item ≡ get_or actors i item = c.actor-item.is ∙ ap (λ (xs : List Actor). get_or xs i item) c.deref-actor-items.ensures.value in
    passed_one (λ (a : Actor). same_pid a.pid c.args.p) actors i item lt c.loop-actor.invariant (subst (λ (a : Actor). same_pid a.pid c.args.p ≡ false) at miss)

pub returns : goal.returns
returns c =
    let actors = c.args.self.now.actors.items in
    let i = c.loop-actor.actor-index in
    let test : Actor → Bool = λ a. same_pid a.pid c.args.p in
    let place : Actor → Place = λ a. place_of (acting a) in
    let all : length actors ≤ i = subst (λ (xs : List Actor). length xs ≤ i) c.deref-actor-items.ensures.value (omega (arith, c.loop-actor-test.false)) in
    let none : find test actors ≡ None = subst (λ (xs : List Actor). find test xs ≡ None) (take_all i actors all) c.loop-actor.invariant in
    sym (found_mapped acting place_of (λ (a : Acting). same_pid a.pid c.args.p) actors ∙ ap (option_map place) none)
