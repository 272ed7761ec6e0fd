-- `Node::gather`: its clauses `still`, `past` and `outline`.
use Rattle.std.proofs.Common.{subst}
use Rattle.pt_node.specs.Gathering.{Gathers}
use Rattle.pt_node.specs.Pasts.{GathersPast, GathersOutline}
use Rattle.pt_node.proofs.Leftless.{still_gathered}
use Rattle.pt_node.proofs.node.Node.gather.Goals as goal

pub returns-in-Ok-clause-still : goal.returns-in-Ok-clause-still
returns-in-Ok-clause-still c = λ still.
    let gathers = subst (λ desks. Gathers desks c.in-Ok.gathered) c.self.view_is c.in-Ok.ensures.gathers in
    still_gathered c.args.self c.in-Ok.gathered gathers still

pub returns-in-Ok-clause-past : goal.returns-in-Ok-clause-past
returns-in-Ok-clause-past c = subst (λ desks. GathersPast desks c.in-Ok.gathered) c.self.view_is c.in-Ok.ensures.past

pub returns-in-Ok-clause-outline : goal.returns-in-Ok-clause-outline
returns-in-Ok-clause-outline c = subst (λ desks. GathersOutline desks c.in-Ok.gathered) c.self.view_is c.in-Ok.ensures.outline
