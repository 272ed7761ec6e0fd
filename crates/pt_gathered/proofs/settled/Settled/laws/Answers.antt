-- `Settled::laws`: its clauses `nothing_left`, `lanes`, `headline`, `quiet`, `links`, `watches`, `answers`, `questions`, `again`, `whole`, `after`, `outline` and `outline_after`.
use Rattle.std.proofs.Common.{subst}
use Rattle.pt_gathered.specs.Settling.{NothingLeft}
use Rattle.pt_gathered.specs.Lawful.{LanesKeep, KeepsHeadline, IsQuietNode, LinksStand, WatchesStand, HoldingsStand, AnswersHold, QuestionsAnswered, BeginsAgain}
use Rattle.pt_gathered.specs.Pasts.{IsQuietWhole, BeginsAgainAfter, IsQuietOutline, OutlinesAgainAfter}
use Rattle.pt_gathered.specs.Quiet.{QuietState}
use Rattle.pt_gathered.proofs.settled.Settled.laws.Goals as goal

pub returns-clause-nothing_left : goal.returns-clause-nothing_left
returns-clause-nothing_left c = subst (λ (q : QuietState). NothingLeft q.gathered) c.self.view_is c.self.invariant.0.nothing_left

pub returns-clause-lanes : goal.returns-clause-lanes
returns-clause-lanes c = subst (λ (q : QuietState). LanesKeep q.gathered) c.self.view_is c.laws_of_node.ensures.lanes

pub returns-clause-headline : goal.returns-clause-headline
returns-clause-headline c = subst (λ (q : QuietState). KeepsHeadline q.gathered) c.self.view_is c.laws_of_node.ensures.headline

pub returns-clause-quiet : goal.returns-clause-quiet
returns-clause-quiet c = subst (λ (q : QuietState). IsQuietNode q.gathered) c.self.view_is (c.laws_of_node.ensures.quiet c.self.invariant.0.nothing_left)

pub returns-clause-links : goal.returns-clause-links
returns-clause-links c = subst (λ (q : QuietState). LinksStand q.gathered) c.self.view_is (c.laws_of_node.ensures.links c.self.invariant.0.nothing_left)

pub returns-clause-watches : goal.returns-clause-watches
returns-clause-watches c = subst (λ (q : QuietState). WatchesStand q.gathered) c.self.view_is (c.laws_of_node.ensures.watches c.self.invariant.0.nothing_left)

pub returns-clause-held : goal.returns-clause-held
returns-clause-held c = subst (λ (q : QuietState). HoldingsStand q.gathered) c.self.view_is c.laws_of_node.ensures.held

pub returns-clause-answers : goal.returns-clause-answers
returns-clause-answers c = subst (λ (q : QuietState). AnswersHold q.gathered) c.self.view_is c.laws_of_node.ensures.answers

pub returns-clause-questions : goal.returns-clause-questions
returns-clause-questions c = subst (λ (q : QuietState). QuestionsAnswered q.gathered) c.self.view_is (c.laws_of_node.ensures.questions c.self.invariant.0.nothing_left)

pub returns-clause-again : goal.returns-clause-again
returns-clause-again c = subst (λ (q : QuietState). BeginsAgain q.gathered) c.self.view_is (c.laws_of_node.ensures.again c.self.invariant.0.nothing_left)

pub returns-clause-whole : goal.returns-clause-whole
returns-clause-whole c = subst (λ (q : QuietState). IsQuietWhole q.gathered) c.self.view_is (c.laws_of_node.ensures.quiet_whole c.self.invariant.0.nothing_left)

pub returns-clause-after : goal.returns-clause-after
returns-clause-after c = subst (λ (q : QuietState). BeginsAgainAfter q.gathered) c.self.view_is (c.laws_of_node.ensures.after c.self.invariant.0.nothing_left)

pub returns-clause-outline : goal.returns-clause-outline
returns-clause-outline c = subst (λ (q : QuietState). IsQuietOutline q.gathered) c.self.view_is (c.laws_of_node.ensures.quiet_outline c.self.invariant.0.nothing_left)

pub returns-clause-outline_after : goal.returns-clause-outline_after
returns-clause-outline_after c = subst (λ (q : QuietState). OutlinesAgainAfter q.gathered) c.self.view_is (c.laws_of_node.ensures.outline_after c.self.invariant.0.nothing_left)
