-- `Lives::kept`: its contract.
use Rattle.std.proofs.Common.{◌∙◌, None, sym, subst, arith}
use Rattle.pt_accounts.specs.DeskLives.{life_in}
use Rattle.pt_accounts.specs.LivesState.{AreLivesOf}
use Rattle.pt_accounts.proofs.Reading.{tells_here, tells_none, node_kept}
use Rattle.pt_accounts.proofs.lives.Lives.kept.Goals as goal

pub returns-then-desk-len : goal.returns-then-desk-len
returns-then-desk-len c start journals of merged m =
    let lives = c.self.inside.desks.items in
    let these : AreLivesOf start journals lives = subst (AreLivesOf start journals) (sym c.self.view_is) of in
    let p = c.args.target in
    let t = c.index.result.now in
    let told = tells_here start journals lives p c.from-desk.result t these c.from-desk.ensures (omega arith) c.index.ensures in
    c.kept.ensures ∙ node_kept start journals lives these merged m c.journals_tell_their_pids.ensures.journals p (life_in t p) told c.args.monitor

pub returns-else-desk-len : goal.returns-else-desk-len
returns-else-desk-len c start journals of merged m =
    let lives = c.self.inside.desks.items in
    let these : AreLivesOf start journals lives = subst (AreLivesOf start journals) (sym c.self.view_is) of in
    let p = c.args.target in
    node_kept start journals lives these merged m c.journals_tell_their_pids.ensures.journals p None (tells_none start journals lives p c.from-desk.result these c.from-desk.ensures (omega arith)) c.args.monitor
