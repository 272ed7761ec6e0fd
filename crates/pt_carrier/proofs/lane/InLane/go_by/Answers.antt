-- `InLane::go_by`: its clause `none`.
use Rattle.std.proofs.Common.{◌≡◌, [], ◌∙◌}
use Rattle.pt_carrier.proofs.Collecting.{IsPrefix-nil}
use Rattle.pt_carrier.proofs.lane.InLane.go_by.Goals as goal

pub returns-clause-none : goal.returns-clause-none
returns-clause-none c =
    let looked = c.is_drained-drained in
    let none : looked.new.self.known ≡ [] = (looked.ensures.drained (looked.ensures.even c.requires.even)).0 in
    (IsPrefix-nil c.args.self.now.known looked.new.self.known looked.ensures.looked none, c.note_by.ensures.same.3 ∙ none)
