-- `run_and_report`: its clauses `text`, `refused` and `untouched`.
use Rattle.std.proofs.Common.{◌-◌, sym, ◌∙◌}
use Rattle.std.proofs.lemmas.Result.{IfErr-weaker}
use Rattle.pt_report.specs.Reports.{IsRun}
use Rattle.pt_report.proofs.Faults.{of_summary}
use Rattle.pt_report.proofs.Passing.{chart_reported, history_reported, json_reported, mermaid_reported, page_reported, steps_reported, summary_reported, untouched}
use Rattle.pt_report.proofs.reporting.run_and_report.Goals as goal

pub returns-in-Summary-clause-text : goal.returns-in-Summary-clause-text
returns-in-Summary-clause-text g c =
    let node = c.in_ok-gathered.ensures.node in
    summary_reported g.W.Write.contents c.summarize.result c.args.script.now c.args.options.now c.in_ok-read.read node.0 c.in_ok-gathered.gathered c.args.out.now c.run_script.new.out c.summarize.new.out c.run_script.new.kept.items c.in_ok-read.ensures node.1.0 node.2 c.in-Summary.is c.summarize.ensures.text c.in_ok-gathered.behind node.3

pub returns-in-Summary-clause-refused : goal.returns-in-Summary-clause-refused
returns-in-Summary-clause-refused g c =
    let node = c.in_ok-gathered.ensures.node in
    IfErr-weaker c.summarize.result _ _ (λ f h. of_summary c.args.script.now c.args.options.now c.in_ok-read.read node.0 c.in_ok-gathered.gathered f c.in_ok-read.ensures c.in-Summary.is node.1.0 h) c.summarize.ensures.fault

pub returns-in-History-clause-untouched : goal.returns-in-History-clause-untouched
returns-in-History-clause-untouched g c =
    untouched g.W.Write.contents c.print_history.result c.args.script.now c.args.options.now c.in_ok-read.read c.args.out.now c.run_script.new.out c.print_history.new.out c.in_ok-read.ensures c.in_ok-gathered.ensures.told c.print_history.ensures.untouched

pub returns-in-History-clause-text : goal.returns-in-History-clause-text
returns-in-History-clause-text g c =
    let node = c.in_ok-gathered.ensures.node in
    history_reported g.W.Write.contents c.print_history.result c.args.script.now c.args.options.now c.in_ok-read.read node.0 c.in_ok-gathered.gathered c.args.out.now c.run_script.new.out c.print_history.new.out c.run_script.new.kept.items c.in_ok-read.ensures node.1.0 node.2 c.in-History.is c.print_history.ensures.text c.in_ok-gathered.behind node.3

pub returns-in-Mermaid-clause-text : goal.returns-in-Mermaid-clause-text
returns-in-Mermaid-clause-text g c =
    let node = c.in_ok-gathered.ensures.node in
    mermaid_reported g.W.Write.contents c.print_history-in-Mermaid.result c.args.script.now c.args.options.now c.in_ok-read.read node.0 c.in_ok-gathered.gathered c.args.out.now c.run_script.new.out c.print_history-in-Mermaid.new.out c.run_script.new.kept.items c.in_ok-read.ensures node.1.0 node.2 c.in-Mermaid.is c.print_history-in-Mermaid.ensures.text c.in_ok-gathered.behind node.3

pub returns-in-Json-clause-untouched : goal.returns-in-Json-clause-untouched
returns-in-Json-clause-untouched g c =
    untouched g.W.Write.contents c.print_history-in-Json.result c.args.script.now c.args.options.now c.in_ok-read.read c.args.out.now c.run_script.new.out c.print_history-in-Json.new.out c.in_ok-read.ensures c.in_ok-gathered.ensures.told c.print_history-in-Json.ensures.untouched

pub returns-in-Json-clause-text : goal.returns-in-Json-clause-text
returns-in-Json-clause-text g c =
    let node = c.in_ok-gathered.ensures.node in
    json_reported g.W.Write.contents c.print_history-in-Json.result c.args.script.now c.args.options.now c.in_ok-read.read node.0 c.in_ok-gathered.gathered c.args.out.now c.run_script.new.out c.print_history-in-Json.new.out c.run_script.new.kept.items c.in_ok-read.ensures node.1.0 node.2 c.in-Json.is c.print_history-in-Json.ensures.text c.in_ok-gathered.behind node.3

pub returns-in-Chart-clause-text : goal.returns-in-Chart-clause-text
returns-in-Chart-clause-text g c =
    let node = c.in_ok-gathered.ensures.node in
    let run : IsRun (c.args.options.now.epochs - 1) c.args.options.now c.in_ok-read.read node.0 c.in_ok-gathered.gathered c.as_slice-staff.result.now = (node.1.0, node.1.1 ∙ sym c.as_slice-staff.ensures.value) in
    chart_reported g.W.Write.contents c.print_chart.result c.args.script.now c.args.options.now c.in_ok-read.read node.0 c.in_ok-gathered.gathered c.as_slice-staff.result.now c.args.out.now c.run_script.new.out c.print_chart.new.out c.run_script.new.kept.items c.in_ok-read.ensures run node.2 c.in-Chart.is c.print_chart.ensures.text c.in_ok-gathered.behind node.3

pub returns-in-Steps-clause-untouched : goal.returns-in-Steps-clause-untouched
returns-in-Steps-clause-untouched g c =
    untouched g.W.Write.contents c.print_steps.result c.args.script.now c.args.options.now c.in_ok-read.read c.args.out.now c.run_script.new.out c.print_steps.new.out c.in_ok-read.ensures c.in_ok-gathered.ensures.told c.print_steps.ensures.untouched

pub returns-in-Steps-clause-text : goal.returns-in-Steps-clause-text
returns-in-Steps-clause-text g c =
    let node = c.in_ok-gathered.ensures.node in
    steps_reported g.W.Write.contents c.print_steps.result c.args.script.now c.args.options.now c.in_ok-read.read node.0 c.in_ok-gathered.gathered c.args.out.now c.run_script.new.out c.print_steps.new.out c.run_script.new.kept.items c.in_ok-read.ensures node.1.0 node.2 c.in-Steps.is c.print_steps.ensures.text c.in_ok-gathered.behind node.3

pub returns-clause-text : goal.returns-clause-text
returns-clause-text g c =
    let node = c.in_ok-gathered.ensures.node in
    let run : IsRun (c.args.options.now.epochs - 1) c.args.options.now c.in_ok-read.read node.0 c.in_ok-gathered.gathered c.as_slice-staff.result.now = (node.1.0, node.1.1 ∙ sym c.as_slice-staff.ensures.value) in
    page_reported g.W.Write.contents c.print_page.result c.args.script.now c.args.options.now c.in_ok-read.read node.0 c.in_ok-gathered.gathered c.as_slice-staff.result.now c.args.out.now c.run_script.new.out c.print_page.new.out c.run_script.new.kept.items c.in_ok-read.ensures run node.2 c.in-Page.is c.print_page.ensures.text c.in_ok-gathered.behind node.3
