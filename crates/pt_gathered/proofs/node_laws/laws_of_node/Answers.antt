-- `laws_of_node`: its clauses `lanes`, `headline`, `legal`, `bounded`, `quiet`, `links`, `watches`, `held`, `answers`, `questions`, `again`, `whole`, `quiet_whole`, `after`, `outline`, `quiet_outline` and `outline_after`.
use Rattle.pt_gathered.proofs.Lawful.{lanes_agree, keeps_headline, legal_node, is_bounded, quiet_node, links_stand, watches_stand, holdings_stand, answers_hold, questions_answered}
use Rattle.pt_gathered.proofs.Beginnings.{begins_again}
use Rattle.pt_gathered.proofs.Pasts.{legal_whole, quiet_whole, begins_after, legal_outline, quiet_outline, outlines_after}
use Rattle.pt_gathered.proofs.node_laws.laws_of_node.Goals as goal

pub returns-clause-lanes : goal.returns-clause-lanes
returns-clause-lanes c = lanes_agree c.args.gathered.now c.desks-desks.ensures.gathered

pub returns-clause-headline : goal.returns-clause-headline
returns-clause-headline c = keeps_headline c.args.gathered.now c.desks-desks.ensures.gathered c.headline_holds.ensures

pub returns-clause-legal : goal.returns-clause-legal
returns-clause-legal c = legal_node c.args.gathered.now c.desks-desks.ensures.gathered c.merge_is_legal.ensures

pub returns-clause-bounded : goal.returns-clause-bounded
returns-clause-bounded c new settles = is_bounded c.load_by_desk_falls.ensures.merge c.args.gathered.now new c.desks-desks.ensures.gathered settles

pub returns-clause-quiet : goal.returns-clause-quiet
returns-clause-quiet c none = quiet_node c.args.gathered.now c.desks-desks.ensures.gathered c.merge_is_legal.ensures c.receipts_lower_the_load.ensures.empty none

pub returns-clause-links : goal.returns-clause-links
returns-clause-links c none =
    let whole = c.desks-desks.ensures.gathered in
    links_stand c.args.gathered.now whole (quiet_node c.args.gathered.now whole c.merge_is_legal.ensures c.receipts_lower_the_load.ensures.empty none) c.resumed_links.ensures.merge

pub returns-clause-watches : goal.returns-clause-watches
returns-clause-watches c none =
    let whole = c.desks-desks.ensures.gathered in
    watches_stand c.args.gathered.now whole (quiet_node c.args.gathered.now whole c.merge_is_legal.ensures c.receipts_lower_the_load.ensures.empty none) c.stamps_make_new_ids.ensures.new c.quiet_monitors.ensures.since c.quiet_monitors.ensures.over_watches

pub returns-clause-held : goal.returns-clause-held
returns-clause-held c =
    holdings_stand c.args.gathered.now c.desks-desks.ensures.gathered c.merge_is_legal.ensures c.each_is_held_since.ensures

pub returns-clause-answers : goal.returns-clause-answers
returns-clause-answers c = answers_hold c.args.gathered.now c.desks-desks.ensures.gathered c.merge_is_legal.ensures c.answers_are_true.ensures.told

pub returns-clause-questions : goal.returns-clause-questions
returns-clause-questions c none =
    let whole = c.desks-desks.ensures.gathered in
    questions_answered c.args.gathered.now whole (quiet_node c.args.gathered.now whole c.merge_is_legal.ensures c.receipts_lower_the_load.ensures.empty none) c.answers_are_true.ensures.once

pub returns-clause-again : goal.returns-clause-again
returns-clause-again c none =
    let whole = c.desks-desks.ensures.gathered in
    let quiet = quiet_node c.args.gathered.now whole c.merge_is_legal.ensures c.receipts_lower_the_load.ensures.empty none in
    let new = c.stamps_make_new_ids.ensures in
    begins_again c.args.gathered.now whole quiet c.journals_tell_their_pids.ensures.journals new.new c.resumed_is_legal.ensures.again c.resumed_is_legal.ensures.start
    c.merge_known.ensures c.resumed_links.ensures.again new.numbers new.both new.open c.journals_have_one_merge.ensures.there

pub returns-clause-whole : goal.returns-clause-whole
returns-clause-whole c = legal_whole c.args.gathered.now c.desks-desks.ensures.gathered c.merge_is_legal.ensures c.stamps_make_new_ids.ensures.new

pub returns-clause-quiet_whole : goal.returns-clause-quiet_whole
returns-clause-quiet_whole c none =
    let whole = c.desks-desks.ensures.gathered in
    quiet_whole c.args.gathered.now whole (quiet_node c.args.gathered.now whole c.merge_is_legal.ensures c.receipts_lower_the_load.ensures.empty none) c.stamps_make_new_ids.ensures.new

pub returns-clause-after : goal.returns-clause-after
returns-clause-after c none =
    let whole = c.desks-desks.ensures.gathered in
    let quiet = quiet_node c.args.gathered.now whole c.merge_is_legal.ensures c.receipts_lower_the_load.ensures.empty none in
    let new = c.stamps_make_new_ids.ensures in
    begins_after c.args.gathered.now whole quiet c.journals_tell_their_pids.ensures.journals new.new c.resumed_is_legal.ensures.again c.resumed_is_legal.ensures.start
    c.merge_known.ensures c.resumed_links.ensures.again new.numbers new.both new.open

pub returns-clause-outline : goal.returns-clause-outline
returns-clause-outline c = legal_outline c.args.gathered.now c.desks-desks.ensures.gathered c.merge_is_legal.ensures c.stamps_make_new_ids.ensures.new

pub returns-clause-quiet_outline : goal.returns-clause-quiet_outline
returns-clause-quiet_outline c none =
    let whole = c.desks-desks.ensures.gathered in
    quiet_outline c.args.gathered.now whole (quiet_node c.args.gathered.now whole c.merge_is_legal.ensures c.receipts_lower_the_load.ensures.empty none) c.stamps_make_new_ids.ensures.new

pub returns-clause-outline_after : goal.returns-clause-outline_after
returns-clause-outline_after c none =
    let whole = c.desks-desks.ensures.gathered in
    let quiet = quiet_node c.args.gathered.now whole c.merge_is_legal.ensures c.receipts_lower_the_load.ensures.empty none in
    let new = c.stamps_make_new_ids.ensures in
    outlines_after c.args.gathered.now whole quiet c.journals_tell_their_pids.ensures.journals new.new c.resumed_is_legal.ensures.again c.resumed_is_legal.ensures.start
    c.merge_known.ensures c.resumed_links.ensures.again new.numbers new.both new.open
