-- `laws_of`: its clauses `answers`, `questions`, `after`, `whole`, `outline` and `outline_after`.
use Rattle.std.proofs.Common.{subst}
use Rattle.pt_gathered.specs.Gathered.{GatheredState}
use Rattle.pt_gathered.specs.Settling.{NothingLeft}
use Rattle.pt_gathered.specs.Lawful.{HoldingsStand, AnswersHold, QuestionsAnswered}
use Rattle.pt_gathered.specs.Pasts.{BeginsAgainAfter, IsLegalWhole, IsLegalOutline, OutlinesAgainAfter}
use Rattle.pt_gathered.proofs.node_laws.laws_of.Goals as goal

pub returns-clause-held : goal.returns-clause-held
returns-clause-held c = subst (λ (g : GatheredState). HoldingsStand g) c.node.ensures c.laws_of_node.ensures.held

pub returns-clause-answers : goal.returns-clause-answers
returns-clause-answers c = subst (λ (g : GatheredState). AnswersHold g) c.node.ensures c.laws_of_node.ensures.answers

pub returns-clause-questions : goal.returns-clause-questions
returns-clause-questions c none = subst (λ (g : GatheredState). NothingLeft g → QuestionsAnswered g) c.node.ensures c.laws_of_node.ensures.questions none

pub returns-clause-after : goal.returns-clause-after
returns-clause-after c none = subst (λ (g : GatheredState). NothingLeft g → BeginsAgainAfter g) c.node.ensures c.laws_of_node.ensures.after none

pub returns-clause-outline_after : goal.returns-clause-outline_after
returns-clause-outline_after c none = subst (λ (g : GatheredState). NothingLeft g → OutlinesAgainAfter g) c.node.ensures c.laws_of_node.ensures.outline_after none

pub returns-clause-whole : goal.returns-clause-whole
returns-clause-whole c = subst (λ (g : GatheredState). IsLegalWhole g) c.node.ensures c.laws_of_node.ensures.whole

pub returns-clause-outline : goal.returns-clause-outline
returns-clause-outline c = subst (λ (g : GatheredState). IsLegalOutline g) c.node.ensures c.laws_of_node.ensures.outline
