-- `Gathered::settle`: its contract, from that of `settle_unlisted`.
use Rattle.std.proofs.Common.{ℕ, length, inr, refl, sym, ap, ◌∙◌, subst}
use Rattle.pt_gathered.specs.Gathered.{GatheredState}
use Rattle.pt_gathered.specs.Settling.{NothingLeft, Runs, Settles}
use Rattle.pt_gathered.specs.Order.{Passes}
use Rattle.pt_gathered.specs.Lawful.{IsBounded, IsQuietNode, LinksStand, WatchesStand, AnswersHold, QuestionsAnswered}
use Rattle.pt_gathered.specs.Pasts.{KeepsPast}
use Rattle.pt_gathered.specs.Quiet.{QuietState}
use Rattle.pt_gathered.proofs.gathered.Gathered.settle.Goals as goal

pub returns-in-Ok-into_quiet-clause-order : goal.returns-in-Ok-into_quiet-clause-order
returns-in-Ok-into_quiet-clause-order c = let a = c.args.self in subst (λ (q : QuietState). (count : ℕ) × Passes (length a.shards) count a q.gathered) (sym c.in-Ok-into_quiet.ensures.quiet) c.in-Ok.ensures.order

pub returns-in-Ok-into_quiet-clause-runs : goal.returns-in-Ok-into_quiet-clause-runs
returns-in-Ok-into_quiet-clause-runs c = let a = c.args.self in subst (λ (q : QuietState). Runs a 0 q.gathered q.handled) (sym c.in-Ok-into_quiet.ensures.quiet) c.in-Ok.ensures.runs

pub returns-in-Ok-into_quiet-clause-nothing_left : goal.returns-in-Ok-into_quiet-clause-nothing_left
returns-in-Ok-into_quiet-clause-nothing_left c = subst (λ (q : QuietState). NothingLeft q.gathered) (sym c.in-Ok-into_quiet.ensures.quiet) c.in-Ok.ensures.nothing_left

pub returns-in-Ok-into_quiet-clause-bounded : goal.returns-in-Ok-into_quiet-clause-bounded
returns-in-Ok-into_quiet-clause-bounded c = let a = c.args.self in subst (λ (q : QuietState). IsBounded a q.gathered) (sym c.in-Ok-into_quiet.ensures.quiet) c.in-Ok.ensures.bounded

pub returns-in-Ok-into_quiet-clause-quiet : goal.returns-in-Ok-into_quiet-clause-quiet
returns-in-Ok-into_quiet-clause-quiet c = subst (λ (q : QuietState). IsQuietNode q.gathered) (sym c.in-Ok-into_quiet.ensures.quiet) c.in-Ok.ensures.quiet

pub returns-in-Ok-into_quiet-clause-links : goal.returns-in-Ok-into_quiet-clause-links
returns-in-Ok-into_quiet-clause-links c = subst (λ (q : QuietState). LinksStand q.gathered) (sym c.in-Ok-into_quiet.ensures.quiet) c.in-Ok.ensures.links

pub returns-in-Ok-into_quiet-clause-watches : goal.returns-in-Ok-into_quiet-clause-watches
returns-in-Ok-into_quiet-clause-watches c = subst (λ (q : QuietState). WatchesStand q.gathered) (sym c.in-Ok-into_quiet.ensures.quiet) c.in-Ok.ensures.watches

pub returns-in-Ok-into_quiet-clause-answers : goal.returns-in-Ok-into_quiet-clause-answers
returns-in-Ok-into_quiet-clause-answers c = subst (λ (q : QuietState). AnswersHold q.gathered) (sym c.in-Ok-into_quiet.ensures.quiet) c.in-Ok.ensures.answers

pub returns-in-Ok-into_quiet-clause-questions : goal.returns-in-Ok-into_quiet-clause-questions
returns-in-Ok-into_quiet-clause-questions c = subst (λ (q : QuietState). QuestionsAnswered q.gathered) (sym c.in-Ok-into_quiet.ensures.quiet) c.in-Ok.ensures.questions

pub returns-in-Ok-into_quiet-clause-past : goal.returns-in-Ok-into_quiet-clause-past
returns-in-Ok-into_quiet-clause-past c = let a = c.args.self in subst (λ (q : QuietState). KeepsPast a q.gathered) (sym c.in-Ok-into_quiet.ensures.quiet) c.in-Ok.ensures.past

pub returns-in-Ok-into_quiet-clause-again : goal.returns-in-Ok-into_quiet-clause-again
returns-in-Ok-into_quiet-clause-again c none =
    let same = c.in-Ok.ensures.again none in
    (ap (λ (q : QuietState). q.gathered) c.in-Ok-into_quiet.ensures.quiet ∙ same.0, ap (λ (q : QuietState). q.handled) c.in-Ok-into_quiet.ensures.quiet ∙ same.1)

pub returns-in-Err-into_quiet-clause-refused : goal.returns-in-Err-into_quiet-clause-refused
returns-in-Err-into_quiet-clause-refused c =
    let a = c.args.self in
    subst (λ (g : GatheredState). Settles a g) (sym (c.into_gathered-gathered.ensures ∙ ap (λ (q : QuietState). q.gathered) c.in-Err-into_quiet.ensures.back)) c.in-Ok.ensures.runs.settles

pub returns-in-Err-into_quiet-clause-refused_bounded : goal.returns-in-Err-into_quiet-clause-refused_bounded
returns-in-Err-into_quiet-clause-refused_bounded c =
    let a = c.args.self in
    subst (λ (g : GatheredState). IsBounded a g) (sym (c.into_gathered-gathered.ensures ∙ ap (λ (q : QuietState). q.gathered) c.in-Err-into_quiet.ensures.back)) c.in-Ok.ensures.bounded

pub returns-in-Err-into_quiet-clause-refused_past : goal.returns-in-Err-into_quiet-clause-refused_past
returns-in-Err-into_quiet-clause-refused_past c =
    let a = c.args.self in
    subst (λ (g : GatheredState). KeepsPast a g) (sym (c.into_gathered-gathered.ensures ∙ ap (λ (q : QuietState). q.gathered) c.in-Err-into_quiet.ensures.back)) c.in-Ok.ensures.past

pub returns-in-Err-into_quiet-clause-refused_order : goal.returns-in-Err-into_quiet-clause-refused_order
returns-in-Err-into_quiet-clause-refused_order c =
    let a = c.args.self in
    let is = sym (c.into_gathered-gathered.ensures ∙ ap (λ (q : QuietState). q.gathered) c.in-Err-into_quiet.ensures.back) in
    let order = c.in-Ok.ensures.order in
    inr (record {
      memory = refl;
      count = order.0;
      done = subst (λ (g : GatheredState). Passes (length a.shards) order.0 a g) is order.1;
      nothing_left = subst NothingLeft is c.in-Ok.ensures.nothing_left;
    })

pub returns-in-Err-into_quiet-clause-refused_again : goal.returns-in-Err-into_quiet-clause-refused_again
returns-in-Err-into_quiet-clause-refused_again c none =
    (c.into_gathered-gathered.ensures ∙ ap (λ (q : QuietState). q.gathered) c.in-Err-into_quiet.ensures.back ∙ (c.in-Ok.ensures.again none).0, refl)
