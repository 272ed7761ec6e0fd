-- `end_epoch`: its contract.
use Rattle.pt_node.proofs.Pasts.{one_history}
use Rattle.example_uses.proofs.epochs.end_epoch.Goals as goal

pub returns-in-Ok : goal.returns-in-Ok
returns-in-Ok g c =
    let kept = c.in_default.ensures in
    let before = c.in_ok-settled.ensures.settles in
    let gathered = before.0 in
    let settled = c.in_ok-settled.settled.gathered in
    let resumes = c.in-Ok.ensures.resumes in (
      kept.0,
      record {
        gathered = gathered;
        gathers = before.1;
        settled = settled;
        settles = before.2;
        nothing_left = c.in_ok-settled.ensures.nothing_left;
        archived = kept.1;
        goes_on = resumes;
        whole = one_history c.args.node c.in-Ok.node gathered settled kept.0 before.1 before.2 kept.1.merge resumes;
      },
    )
