-- `serve`: its clauses `sees` and `goes_on`.
use Rattle.std.proofs.Common.{Some}
use Rattle.pt_desk.proofs.Turning.{goes_on_then}
use Rattle.pt_behaviour.specs.Births.{bore, born}
use Rattle.pt_crew.specs.Outside.{tells_or}
use Rattle.pt_crew.specs.Parts.{kept_as}
use Rattle.pt_crew.proofs.Getting.{sees_item}
use Rattle.pt_crew.proofs.front.serve.Goals as goal

pub returns-in-Ok-clause-sees : goal.returns-in-Ok-clause-sees
returns-in-Ok-clause-sees g c =
    let was = c.args.member.now in
    let now = c.pass.new.member in
    let t = c.pass.result.0 in
    sees_item (tells_or g.B.Behaviour.answers g.B.Outside.tells (Some was.next) c.pass.result.1) c.args.time c.args.p was.behaviour was.next c.in-Ok.item
    c.args.desk.now.shard c.gets.new.desk.shard c.pass.new.desk.shard t (kept_as t now) (bore (born c.args.births.now) (born c.pass.new.births))
    c.in-Ok.ensures.gets c.pass.ensures.hands

pub returns-in-Ok-clause-goes_on : goal.returns-in-Ok-clause-goes_on
returns-in-Ok-clause-goes_on g c = goes_on_then c.args.desk.now c.gets.new.desk c.pass.new.desk c.gets.ensures.goes_on c.pass.ensures.goes_on
