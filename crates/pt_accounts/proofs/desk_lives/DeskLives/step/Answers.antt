-- `DeskLives::step`: the invariant of `self`, and what its call of `observe` asks.
use Rattle.std.proofs.Common.{◌≡◌, ◌+◌, sym, subst, arith}
use Rattle.pt_accounts.specs.DeskLives.{DeskTable}
use Rattle.pt_accounts.specs.SlotState.{SlotsAreCounted}
use Rattle.pt_accounts.specs.Steps.{TableGoesOn}
use Rattle.pt_accounts.proofs.MayObserve.{may_observe, told_next}
use Rattle.pt_accounts.proofs.Counted.{counted_alike, few_counted, counted_next}
use Rattle.pt_accounts.proofs.ToForget.{alike_others, more_others, observed_others}
use Rattle.pt_accounts.proofs.desk_lives.DeskLives.step.Goals as goal
use Rattle.pt_accounts.proofs.desk_lives.DeskLives.step.Goals.{In-Some}

next : (c : In-Some) → TableGoesOn (record { desk = c.self.inside.desk; slots = c.self.inside.slots.items; read = c.self.inside.read }) c.args.event
next c = subst (λ (t : DeskTable). TableGoesOn t c.args.event) (sym c.self.view_is) c.requires.next

pub observe-requires : goal.observe-requires
observe-requires c =
    let s = c.self.inside in
    let g = next (goal.at.observe-requires c).In-Some in
    may_observe g.start g.top s.desk s.slots.items g.past (few_counted s.ever s.slots.items (let e = c.in-Some.ensures in e.0) c.self.invariant.counted.counted) g.told c.args.event g.home g.may g.known g.anew

pub invariant_of-self : goal.invariant_of-self
invariant_of-self c =
    let s = c.self.inside in
    let same = c.in_err-observe.ensures.refused in
    record {
      counted = record {
        few = c.self.invariant.counted.few;
        counted = counted_alike s.ever s.slots.items c.observe.new.slots.items same c.self.invariant.counted.counted;
      };
      others =
          alike_others c.observe.new.changed s.slots.items c.observe.new.slots.items same
          (more_others s.changed c.observe.new.changed s.slots.items c.observe.ensures.stays c.self.invariant.others);
    }

pub invariant_of-self-2 : goal.invariant_of-self-2
invariant_of-self-2 c =
    let s = c.self.inside in
    let g = next (goal.at.invariant_of-self-2 c).In-Some in
    let e : s.ever + 1 ≡ c.in-Some.ever = let e = c.in-Some.ensures in sym e.1 in
    record {
      counted = record {
        few = let f = c.in-Some.ensures in omega (arith, f.0, f.1);
        counted =
            subst (λ n. SlotsAreCounted n c.observe.new.slots.items) e
            (counted_next g.start s.desk s.slots.items c.observe.new.slots.items g.past c.args.event s.ever g.told
            (told_next g.start s.desk s.slots.items c.observe.new.slots.items g.past g.told c.args.event g.home g.may c.in_ok-observe.ensures.observes) g.may c.self.invariant.counted.counted);
      };
      others =
          observed_others c.observe.new.changed c.args.event s.slots.items c.observe.new.slots.items c.in_ok-observe.ensures.noted c.in_ok-observe.ensures.observes
          (more_others s.changed c.observe.new.changed s.slots.items c.observe.ensures.stays c.self.invariant.others);
    }
