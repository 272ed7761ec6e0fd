-- `Ins::first_among`: what holds in its loop over `d`.
use Rattle.std.proofs.Common.{◌≡◌, ℕ, ◌<◌, ◌≤◌, ◌⊎◌, [], slice_index_or}
use Rattle.pt_carrier.specs.Ends.{in_ends, ComeInTo, ShowNone}
use Rattle.pt_carrier.proofs.ends.Ins.first_among.Given as goal

abbrev pub invariant-loop-d : goal.invariant-loop-d
invariant-loop-d l =
    let now = in_ends l.self-inside.number l.self-inside.cursor l.self-inside.lanes.items in
    let start = in_ends l.initial.self-inside.number l.initial.self-inside.cursor l.initial.self-inside.lanes.items in
    record {
      place : now.place ≡ start.place;
      cursor : now.cursor ≡ start.cursor;
      collected : now.collected ≡ start.collected;
      lanes : ComeInTo l.self-inside.number l.self-inside.lanes.items;
      none : ShowNone start now l.low l.d;
      others : (k : ℕ) → (k < l.low) ⊎ (l.d ≤ k) → slice_index_or now.known k [] ≡ slice_index_or start.known k [];
    }
