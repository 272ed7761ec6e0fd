-- `fill`: its clauses, and its loop over `place`.
use Rattle.std.proofs.Common.{inl, inr, refl, ◌∙◌, arith}
use Rattle.pt_desk.proofs.Turning.{goes_on_then}
use Rattle.pt_workers.proofs.GoingOn.{stays}
use Rattle.pt_crew.specs.Crews.{queue}
use Rattle.pt_c_crews.proofs.InCrew.{all_handed, none_row, row_into}
use Rattle.pt_c_crews.proofs.batches.fill.Goals as goal

pub loop-place-init : goal.loop-place-init
loop-place-init c = record {
  so_far = λ a. none_row c.args.jobs.now c.args.crew.now c.args.desk.now.shard;
  attends = λ a. a;
  upholds = λ past a u. u;
  time = refl;
  desk = refl;
  len = refl;
  fits = omega arith;
  goes_on = stays c.args.desk.now;
}

pub loop-place-preserved : goal.loop-place-preserved
loop-place-preserved c =
    let inv = c.loop-place.invariant in
    let r = c.pull_into-filled.ensures in
    let t = c.loop-place-test.true in
    let q = c.queued-place-end.ensures in
    let f = c.if-filled-jobs.false in
    let n = inv.len in
    record {
      so_far = λ a. row_into (queue c.args.crew.now.crew) c.loop-place._place c.args.jobs.now c.args.crew.now c.args.desk.now.shard c.loop-place.filled c.loop-place.jobs c.loop-place.crew c.loop-place.desk.shard (inv.so_far a)
          c.pull_into-filled.new.crew c.pull_into-filled.new.desk.shard c.pull_into-filled.result c.pull_into-filled.new.jobs (omega (arith, t, q)) (omega (arith, f, n)) (r.does (inv.attends a));
      attends = λ a. r.attends (inv.attends a);
      upholds = λ past a u. r.upholds past (inv.attends a) (inv.upholds past a u);
      time = r.time ∙ inv.time;
      desk = r.desk ∙ inv.desk;
      len = r.len ∙ inv.len;
      fits = let w = r.within in let l = r.len in omega (arith, w, l, f);
      goes_on = goes_on_then c.args.desk.now c.loop-place.desk c.pull_into-filled.new.desk inv.goes_on r.goes_on;
    }

pub returns-then-filled-jobs-clause-does : goal.returns-then-filled-jobs-clause-does
returns-then-filled-jobs-clause-does c =
    let inv = c.loop-place.invariant in
    let t = c.if-filled-jobs.true in
    let f = inv.fits in
    let n = inv.len in
    λ a. all_handed c.loop-place._place c.args.jobs.now c.args.crew.now c.args.desk.now.shard c.loop-place.filled c.loop-place.jobs c.loop-place.crew c.loop-place.desk.shard a (inv.so_far a) (inr (omega (arith, t, f, n)))

pub returns-clause-does : goal.returns-clause-does
returns-clause-does c =
    let inv = c.loop-place.invariant in
    let t = c.loop-place-test.false in
    let q = c.queued-place-end.ensures in
    λ a. all_handed c.loop-place._place c.args.jobs.now c.args.crew.now c.args.desk.now.shard c.loop-place.filled c.loop-place.jobs c.loop-place.crew c.loop-place.desk.shard a (inv.so_far a) (inl (omega (arith, t, q)))
