-- `Crew::put`: its clause.
use Rattle.std.proofs.Common.{Some, None, refl, sym, append-nil}
use Rattle.pt_crew.specs.declared.crew.Tended.TheVariants.{Again, Refused}
use Rattle.pt_crew.specs.Crews.{left}
use Rattle.pt_crew.proofs.Visiting.{says, says_nothing}
use Rattle.pt_crew.proofs.Serving.{placed, stays_put, taken_away}
use Rattle.pt_crew.proofs.crew.Crew.put.Goals as goal

pub returns-in-Idle : goal.returns-in-Idle
returns-in-Idle g c = stays_put c.args.p c.args.tended c.args.self.now c.in-Idle.is

pub returns-in-Again : goal.returns-in-Again
returns-in-Again g c =
    placed c.args.p c.args.tended Again c.args.self.now _ c.in-Again.is refl refl c.push_back_reserved.ensures.items refl (says_nothing c.args.self.now.refused) refl refl refl refl refl
    c.push_back_reserved.ensures.capacity c.push_back_reserved.ensures.len

pub returns-in-Refused : goal.returns-in-Refused
returns-in-Refused g c =
    placed c.args.p c.args.tended Refused c.args.self.now _ c.in-Refused.is refl refl c.push_back_reserved-in-Refused.ensures.items refl (says c.args.self.now.refused) refl refl refl refl refl
    c.push_back_reserved-in-Refused.ensures.capacity c.push_back_reserved-in-Refused.ensures.len

pub returns-in-Some : goal.returns-in-Some
returns-in-Some g c =
    taken_away c.args.p c.args.tended c.args.self.now _ (Some c.in-Some.member) c.in-Gone.is c.swap_remove.ensures.updates.0 c.in-Some.ensures.value c.swap_remove.ensures.entries c.push_reserved.ensures.items refl refl refl refl refl refl refl refl refl

pub returns-in_default : goal.returns-in_default
returns-in_default g c =
    taken_away c.args.p c.args.tended c.args.self.now _ None c.in-Gone.is c.swap_remove.ensures.updates.0 c.in_default.ensures.value c.swap_remove.ensures.entries (sym (append-nil (left c.args.self.now))) refl refl refl refl refl refl refl refl refl
