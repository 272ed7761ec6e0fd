-- `add_ends`: its loop over `k`.
use Rattle.std.proofs.Common.{◌≡◌, None, ◌-◌, ◌<◌, ◌≤◌, ◌++◌, length, min, take, get_or, append_assoc, refl, sym, ap, ◌∙◌, arith}
use Rattle.std.proofs.lemmas.List.{length-reverse}
use Rattle.pt_events.specs.declared.event.Event.TheVariants.{Born}
use Rattle.pt_events.specs.declared.event.Stamped.{Stamped}
use Rattle.pt_accounts.specs.DeskLives.{oldest}
use Rattle.pt_gathered.specs.Late.{may_end, late_end, ends_in}
use Rattle.pt_gathered.proofs.Late.{one_more}
use Rattle.pt_gathered.proofs.settled.add_ends.Goals as goal

abbrev nothing : Stamped
nothing = record { stamp = 0; desk = 0; event = Born (record { shard = 0; slot = 0; version = 0 }) None None }

pub loop-k-preserved : goal.loop-k-preserved
loop-k-preserved c =
    let past = c.args.journal.now.past in
    let evs = c.events-events.result.now in
    let t = c.args.table.now in
    let n = c.args.stamp in
    let from = min c.args.place (length past) in
    let k = c.loop-k.k in
    let i = c.loop-k.invariant in
    let low : from ≤ k = i.from in
    let few : length evs ≡ length past = ap length c.events-events.ensures.events ∙ length-reverse past in
    let here : k < length evs = omega (arith, c.loop-k-test.true) in
    let s : Stamped = get_or evs k nothing in
    let by : c.may_end.result ≡ may_end s.event = c.may_end.ensures in
    record {
      from = omega (arith, low);
      within = omega (arith, here, few);
      ends =
          c.in_ok-add_end.ensures ∙ ap (λ z. z ++ late_end t n c.may_end.result) i.ends
          ∙ append_assoc c.args.ends.now.items (ends_in t n (take (k - from) (oldest k past))) (late_end t n c.may_end.result)
          ∙ ap (λ o. c.args.ends.now.items ++ (ends_in t n (take (k - from) (oldest k past)) ++ late_end t n o)) by
          ∙ ap (λ z. c.args.ends.now.items ++ z) (sym (one_more t n past evs c.events-events.ensures.events from k nothing s low here refl));
    }
