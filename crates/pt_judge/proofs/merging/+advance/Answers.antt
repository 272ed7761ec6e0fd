-- `+advance`: its clauses `played`, `one_half` and `other_half`, and what its call of `play` asks, and its checked operations.
use Rattle.std.proofs.Common.{◌≡◌, ◌+◌, ◌<◌, List, ap, inl, inr, subst, sym, arith}
use Rattle.std.proofs.lemmas.List.{get_or_read}
use Rattle.std.proofs.Common.{◌^◌}
use Rattle.pt_judge.specs.declared.merging.Seat.{Seat}
use Rattle.pt_judge.specs.Race.{IsPlayed, alone, middle, next_key, winner_at, taken_at}
use Rattle.pt_judge.proofs.Race.{apart_taken, one_half, other_half}
use Rattle.pt_judge.proofs.merging.+advance.Goals as goal
use Rattle.pt_judge.proofs.merging.+advance.Goals.{then-which-middle, else-which-middle}

pub overflow_add-index_mut : goal.overflow_add-index_mut
overflow_add-index_mut t c =
    let same : c.args.which ≡ c.args.low = omega arith in
    let taken = ap (λ (s : Seat). s.taken) (get_or_read c.args.seats.now.items _ _ (omega arith) c.index_mut.ensures.value (record { winner = 0; taken = 0 })) in
    let room = subst (λ j. taken_at c.args.seats.now.items j + 1 < 2 ^ 64) same c.requires.left in
    omega arith

pub returns-then-high-low-eq1-clause-played : goal.returns-then-high-low-eq1-clause-played
returns-then-high-low-eq1-clause-played t c = alone c.args.low c.args.high (omega arith)

pub play-requires-clause-one_half : goal.play-requires-clause-one_half
play-requires-clause-one_half t c =
    let js = c.args.journals.now in
    let old = c.args.seats.now.items in
    let m = middle c.args.low c.args.high in
    let some : c.args.low + 1 < c.args.high = omega arith in
    let was = one_half (next_key js old) (winner_at old) c.args.low c.args.high some c.requires.played in
    elim c.if-which-middle.branch [
      | then-which-middle w ↦ subst (λ (seats : List Seat). IsPlayed (next_key js seats) (winner_at seats) c.args.low m) (sym (ap (λ v. v.items) w.seats-is)) w.advance.ensures.played
      | else-which-middle w ↦ subst (λ (seats : List Seat). IsPlayed (next_key js seats) (winner_at seats) c.args.low m) (sym (ap (λ v. v.items) w.seats-is))
          (apart_taken js old w.advance-else-which-middle.new.seats.items c.args.low m m c.args.high c.args.which w.advance-else-which-middle.ensures.taken (inr (omega arith)) (inr (omega arith)) (omega arith) was)
    ]

pub play-requires-clause-other_half : goal.play-requires-clause-other_half
play-requires-clause-other_half t c =
    let js = c.args.journals.now in
    let old = c.args.seats.now.items in
    let m = middle c.args.low c.args.high in
    let some : c.args.low + 1 < c.args.high = omega arith in
    let was = other_half (next_key js old) (winner_at old) c.args.low c.args.high some c.requires.played in
    elim c.if-which-middle.branch [
      | then-which-middle w ↦ subst (λ (seats : List Seat). IsPlayed (next_key js seats) (winner_at seats) m c.args.high) (sym (ap (λ v. v.items) w.seats-is))
          (apart_taken js old w.advance.new.seats.items m c.args.high c.args.low m c.args.which w.advance.ensures.taken (inl (omega arith)) (inl (omega arith)) (omega arith) was)
      | else-which-middle w ↦ subst (λ (seats : List Seat). IsPlayed (next_key js seats) (winner_at seats) m c.args.high) (sym (ap (λ v. v.items) w.seats-is)) w.advance-else-which-middle.ensures.played
    ]
