-- `AtRest::list_between`: its contract, and its loop over `letter`.
use Rattle.std.proofs.Common.{◌≡◌, ◌+◌, ◌-◌, ◌++◌, map, drop, vec_len, sym, ap, ◌∙◌, arith}
use Rattle.std.specs.Prelude.{slice_get}
use Rattle.pt_gathered.specs.Gathered.{over_in}
use Rattle.pt_gathered.specs.LeftOvers.{from_to}
use Rattle.pt_gathered.proofs.Places.{listed_more, listed_all}
use Rattle.pt_gathered.proofs.at_rest.AtRest.list_between.Goals as goal

pub loop-letter-preserved : goal.loop-letter-preserved
loop-letter-preserved c =
    let left = c.loop-letter.left in
    let new = c.push.new.self in
    let over = over_in c.args.self.now.shards c.args.self.now.lanes c.args.d c.args.e in
    let f = from_to c.args.d c.args.e in
    let before = c.len-before.result in
    let inv = c.loop-letter.invariant in
    let l = c.in-Some.letter in
    let k : c.len.result - before ≡ vec_len left - before = omega (arith, c.len.ensures) in
    let at : vec_len new - before ≡ (vec_len left - before) + 1 = omega (arith, c.in_ok-push.ensures.len, inv.after) in
    record {
      after = omega (arith, c.in_ok-push.ensures.len, inv.after);
      listed =
          ap (λ n. new.items ++ map f (drop n over)) at
          ∙ ap (λ z. z ++ map f (drop ((vec_len left - before) + 1) over)) c.in_ok-push.ensures.items
          ∙ listed_more left.items f over (vec_len left - before) l (ap (slice_get over) (sym k) ∙ sym c.letter_at.ensures ∙ c.in-Some.is) ∙ inv.listed;
    }

pub returns : goal.returns
returns c =
    let left = c.loop-letter.left in
    let over = over_in c.args.self.now.shards c.args.self.now.lanes c.args.d c.args.e in
    let before = c.len-before.result in
    let k : c.len.result - before ≡ vec_len left - before = omega (arith, c.len.ensures) in
    listed_all left.items (from_to c.args.d c.args.e) over (vec_len left - before) (ap (slice_get over) (sym k) ∙ sym c.letter_at.ensures ∙ c.in_default.is) ∙ c.loop-letter.invariant.listed
