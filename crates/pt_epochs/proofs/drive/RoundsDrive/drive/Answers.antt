-- `drive` of `Rounds`: its contract.
use Rattle.pt_workers.specs.Running.{InRounds, always, begins_by}
use Rattle.pt_workers.specs.declared.work.Standing.TheVariants.{Going}
use Rattle.pt_crew.specs.Running.{CrewsDo}
use Rattle.pt_epochs.proofs.Driving.{rounds_drive}
use Rattle.pt_epochs.proofs.drive.RoundsDrive.drive.Goals as goal

pub returns : goal.returns
returns g c =
    rounds_drive (CrewsDo g.B.Behaviour.answers) (λ desk turn begins. always desk turn begins) (λ desk turn begins h. h)
    (InRounds (begins_by (λ _. Going) (λ desk turn begins. always desk turn begins)) (CrewsDo g.B.Behaviour.answers) c.args.turns c.args.budget)
    c.args.turns c.args.budget c.args.node.now c.args.crews.now.items c.run_single.result c.run_single.new.self c.run_single.new.works.items c.run_single.ensures
