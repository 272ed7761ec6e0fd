-- `AtRest::step`: its clauses `does`, `here`, `near`, `shards`, `posted` and `begun`, and the invariant of `self`, and what its calls of `handle` and `take_out` ask.
use Rattle.std.proofs.Common.{◌≡◌, ◌<◌, true, [], length, get_or, set, sym, ap, ◌∙◌, refl, subst, arith}
use Rattle.std.specs.Prelude.{slice_get, Some, Ok, Err}
use Rattle.std.proofs.lemmas.List.{set-get_or}
use Rattle.pt_gathered.specs.Gathered.{GatheredState, IsGathered, over_in}
use Rattle.pt_gathered.specs.Settling.{Steps, Receives}
use Rattle.pt_gathered.specs.Taking.{AreShards, TakesOut}
use Rattle.pt_gathered.specs.Waits.{StepsPosted}
use Rattle.pt_gathered.proofs.Stepping.{none_first, handle_here, posted_steps, receives, gathered_after, worn_at, handled_not, step_not, shards_after}
use Rattle.pt_gathered.proofs.at_rest.AtRest.step.Goals as goal
use Rattle.pt_gathered.proofs.at_rest.AtRest.step.Goals.{After-index_mut, After-take_out, In-Err}

-- both desks are there, the letter is the next one of the lane, and this is the shard that gets it
next_letter : (c : After-index_mut) → (c.args.d < length c.self.inside.shards.items) × (c.args.e < length c.self.inside.shards.items)
    × (c.index_mut.result.now ≡ get_or c.self.inside.shards.items c.args.e c.index_mut.result.now) × (slice_get (over_in c.self.inside.shards.items c.self.inside.lanes.items c.args.d c.args.e) 0 ≡ Some c.in-Some.letter)
next_letter c =
    let view : record { config = c.self.inside.config; shards = c.self.inside.shards.items; lanes = c.self.inside.lanes.items } ≡ c.args.self.now = c.self.view_is in
    let many = ap (λ (n : GatheredState). length n.shards) view in (
      omega (arith, c.requires.0, many),
      omega (arith, c.requires.1, many),
      c.index_mut.ensures.value ∙ ap (λ k. get_or c.self.inside.shards.items k c.index_mut.result.now) c.from.ensures,
      ap (λ z. slice_get (over_in z c.self.inside.lanes.items c.args.d c.args.e) 0) (sym c.as_slice.ensures.value)
          ∙ ap (λ z. slice_get (over_in c.as_slice.result.now z c.args.d c.args.e) 0) (sym c.as_slice-2.ensures.value) ∙ sym c.letter_at.ensures ∙ c.in-Some.is,
    )

-- the letter is taken out of its lane, once that shard has handled it
taken_out : (c : After-take_out) → TakesOut c.args.d c.args.e (set c.self.inside.shards.items c.args.e c.handle.new.self) c.take_out.new.shards.items c.self.inside.lanes.items c.take_out.new.lanes.items
taken_out c = subst (λ k. TakesOut c.args.d c.args.e (set c.self.inside.shards.items k c.handle.new.self) c.take_out.new.shards.items c.self.inside.lanes.items c.take_out.new.lanes.items) c.from.ensures c.take_out.ensures.takes

-- the letter is not handled: the shards are what they were
unchanged : (c : In-Err) → set c.self.inside.shards.items c.from.result c.handle.new.self ≡ c.self.inside.shards.items
unchanged c =
    let s = c.index_mut.result.now in
    ap (set c.self.inside.shards.items c.from.result) (handled_not c.in-Some.letter s c.handle.new.self c.in-Err.stop c.in-Err.ensures.does ∙ c.index_mut.ensures.value) ∙ set-get_or c.self.inside.shards.items c.from.result s

pub returns-in_default-clause-does : goal.returns-in_default-clause-does
returns-in_default-clause-does c =
    let shards = c.self.inside.shards.items in
    let lanes = c.self.inside.lanes.items in
    let d = c.args.d in
    let e = c.args.e in
    let v : record { config = c.self.inside.config; shards = shards; lanes = lanes } ≡ c.args.self.now = c.self.view_is in
    let none : over_in shards lanes d e ≡ [] = none_first (over_in shards lanes d e)
    (ap (λ z. slice_get (over_in z lanes d e) 0) (sym c.as_slice.ensures.value) ∙ ap (λ z. slice_get (over_in c.as_slice.result.now z d e) 0) (sym c.as_slice-2.ensures.value) ∙ sym c.letter_at.ensures ∙ c.in_default.is) in
    (subst (λ (n : GatheredState). over_in n.shards n.lanes d e ≡ []) v none, refl)

pub handle-requires-clause-here : goal.handle-requires-clause-here
handle-requires-clause-here c =
    let next = next_letter (goal.at.handle-requires-clause-here c).After-index_mut in
    (handle_here c.self.inside.config c.self.inside.shards.items c.self.inside.lanes.items c.self.invariant c.args.d c.args.e next.0 next.1 c.index_mut.result.now next.2 c.in-Some.letter next.3).0

pub handle-requires-clause-near : goal.handle-requires-clause-near
handle-requires-clause-near c =
    let next = next_letter (goal.at.handle-requires-clause-near c).After-index_mut in
    (handle_here c.self.inside.config c.self.inside.shards.items c.self.inside.lanes.items c.self.invariant c.args.d c.args.e next.0 next.1 c.index_mut.result.now next.2 c.in-Some.letter next.3).1

pub returns-in-Err-clause-does : goal.returns-in-Err-clause-does
returns-in-Err-clause-does c =
    let next = next_letter (goal.at.returns-in-Err-clause-does c).After-index_mut in
    let node : GatheredState = record { config = c.self.inside.config; shards = c.self.inside.shards.items; lanes = c.self.inside.lanes.items } in
    let s = c.index_mut.result.now in
    let does = c.in-Err.ensures.does in
    subst (λ z. Steps c.args.d c.args.e c.args.self.now (Err c.in-Err.stop) (record { config = c.self.inside.config; shards = z; lanes = c.self.inside.lanes.items })) (sym (unchanged (goal.at.returns-in-Err-clause-does c).In-Err))
    (subst (λ n. Steps c.args.d c.args.e n (Err c.in-Err.stop) node) c.self.view_is
    (step_not c.args.d c.args.e node c.in-Some.letter s c.handle.new.self c.in-Err.stop does (worn_at c.self.inside.config c.self.inside.shards.items c.self.inside.lanes.items c.self.invariant c.args.d c.args.e next.0 next.1 s c.handle.new.self next.2 c.in-Some.letter next.3) next.3))

pub invariant_of-self : goal.invariant_of-self
invariant_of-self c =
    subst (λ z. IsGathered (record { config = c.self.inside.config; shards = z; lanes = c.self.inside.lanes.items })) (sym (unchanged (goal.at.invariant_of-self c).In-Err)) c.self.invariant

pub take_out-requires-clause-shards : goal.take_out-requires-clause-shards
take_out-requires-clause-shards c =
    let next = next_letter (goal.at.take_out-requires-clause-shards c).After-index_mut in
    subst (λ k. AreShards c.self.inside.config (set c.self.inside.shards.items k c.handle.new.self)) (sym c.from.ensures)
    (shards_after c.self.inside.config c.self.inside.shards.items c.args.e c.index_mut.result.now c.handle.new.self c.in-Some.letter c.self.invariant.shards next.1 next.2 c.in-Ok.ensures.does.1 c.in-Ok.ensures.fit)

pub invariant_of-self-2 : goal.invariant_of-self-2
invariant_of-self-2 c =
    let next = next_letter (goal.at.invariant_of-self-2 c).After-index_mut in
    gathered_after c.self.inside.config c.self.inside.shards.items c.self.inside.lanes.items c.self.invariant c.args.d c.args.e next.0 next.1 c.index_mut.result.now c.handle.new.self next.2 c.in-Some.letter next.3 c.in-Ok.ensures.does.1 c.in-Ok.ensures.does.0 c.take_out.new.shards.items c.take_out.new.lanes.items (taken_out (goal.at.invariant_of-self-2 c).After-take_out) c.take_out.ensures.shards

pub returns-clause-does : goal.returns-clause-does
returns-clause-does c =
    let next = next_letter (goal.at.returns-clause-does c).After-index_mut in (
      c.in-Some.letter,
      subst (λ n. Receives c.args.d c.args.e c.in-Some.letter n (record { config = c.self.inside.config; shards = c.take_out.new.shards.items; lanes = c.take_out.new.lanes.items })) c.self.view_is
          (receives c.self.inside.config c.self.inside.shards.items c.self.inside.lanes.items c.self.invariant c.args.d c.args.e next.0 next.1 c.index_mut.result.now c.handle.new.self next.2 c.in-Some.letter next.3 c.in-Ok.ensures.does.1 c.in-Ok.ensures.does.0 c.take_out.new.shards.items c.take_out.new.lanes.items (taken_out (goal.at.returns-clause-does c).After-take_out)),
    )

pub returns-clause-posted : goal.returns-clause-posted
returns-clause-posted c =
    let next = next_letter (goal.at.returns-clause-posted c).After-index_mut in
    subst (λ n. StepsPosted c.args.d c.args.e n (Ok true) (record { config = c.self.inside.config; shards = c.take_out.new.shards.items; lanes = c.take_out.new.lanes.items })) c.self.view_is
    (posted_steps c.self.inside.config c.self.inside.shards.items c.self.inside.lanes.items c.self.invariant c.args.d c.args.e next.0 next.1 c.index_mut.result.now c.handle.new.self next.2 c.in-Some.letter next.3 c.in-Ok.ensures.does.1 c.in-Ok.ensures.does.0 c.take_out.new.shards.items c.take_out.new.lanes.items (taken_out (goal.at.returns-clause-posted c).After-take_out))

pub returns-in_default-clause-begun : goal.returns-in_default-clause-begun
returns-in_default-clause-begun c = (subst IsGathered c.self.view_is c.self.invariant).begun.once

pub returns-in-Err-clause-begun : goal.returns-in-Err-clause-begun
returns-in-Err-clause-begun c = (subst IsGathered c.self.view_is c.self.invariant).begun.once

pub returns-clause-begun : goal.returns-clause-begun
returns-clause-begun c = (subst IsGathered c.self.view_is c.self.invariant).begun.once
