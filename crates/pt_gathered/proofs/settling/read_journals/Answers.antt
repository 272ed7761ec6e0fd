-- `read_journals`: its clause `tables`, and its loop over `which`, and what its call of `read` asks.
use Rattle.std.proofs.Common.{◌≡◌, ◌<◌, length, get_or, ap, ◌∙◌, arith}
use Rattle.pt_accounts.specs.DeskLives.{ReadsOn}
use Rattle.pt_gathered.proofs.Told.{may_go_on, tables_read, told_read, one_more_read}
use Rattle.pt_gathered.proofs.settling.read_journals.Goals as goal

pub read-requires : goal.read-requires
read-requires c =
    let g = c.args.node.now in
    let k = c.loop-which.which in
    let s = c.index-shards-which.result in
    let here : k < length g.shards = omega (arith, c.loop-which-test.true, ap length c.shards-which-end.ensures) in
    let at : s ≡ get_or g.shards k s = c.index-shards-which.is ∙ ap (λ z. get_or z k s) c.shards.ensures in
    may_go_on g c.desks-desks.ensures.gathered k s c.journal.result.now c.loop-which.lives.items c.index_mut.result.now here at c.journal.ensures.past c.loop-which.invariant.tables c.index_mut.ensures.value

pub loop-which-preserved : goal.loop-which-preserved
loop-which-preserved c =
    let g = c.args.node.now in
    let k = c.loop-which.which in
    let all = c.loop-which.lives.items in
    let t = c.index_mut.result.now in
    let new = c.read.new.self in
    let s = c.index-shards-which.result in
    let j = c.journal.result.now in
    let inv = c.loop-which.invariant in
    let here : k < length g.shards = omega (arith, c.loop-which-test.true, ap length c.shards-which-end.ensures) in
    let at : s ≡ get_or g.shards k s = c.index-shards-which.is ∙ ap (λ z. get_or z k s) c.shards.ensures in
    let on : ReadsOn j.past t new = c.read.ensures.on in
    record {
      tables = tables_read g c.desks-desks.ensures.gathered k s j all t here at c.journal.ensures.past inv.tables c.index_mut.ensures.value new on;
      told = one_more_read g k all new (omega (arith, here, inv.tables.count)) inv.told (told_read g c.desks-desks.ensures.gathered k s j all t here at c.journal.ensures.past inv.tables c.index_mut.ensures.value new on c.in_ok-read.ensures.whole);
    }

pub returns-in_err-read-clause-tables : goal.returns-in_err-read-clause-tables
returns-in_err-read-clause-tables c =
    let g = c.args.node.now in
    let k = c.loop-which.which in
    let all = c.loop-which.lives.items in
    let t = c.index_mut.result.now in
    let s = c.index-shards-which.result in
    let here : k < length g.shards = omega (arith, c.loop-which-test.true, ap length c.shards-which-end.ensures) in
    let at : s ≡ get_or g.shards k s = c.index-shards-which.is ∙ ap (λ z. get_or z k s) c.shards.ensures in
    tables_read g c.desks-desks.ensures.gathered k s c.journal.result.now all t here at c.journal.ensures.past c.loop-which.invariant.tables c.index_mut.ensures.value c.read.new.self c.read.ensures.on
