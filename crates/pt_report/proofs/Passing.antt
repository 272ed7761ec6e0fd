-- Epochs, one after the other, and where their histories are.
use Rattle.std.proofs.Common.{Bool, ◌≡◌, ◌⊎◌, ℕ, zero, suc, ◌+◌, ◌-◌, ◌<◌, List, [], ◌++◌, length, reverse, Option, Result, Ok, Err, refl, sym, ap, subst, ◌∙◌, inl, inr, arith, append_assoc}
use Rattle.std.specs.Prelude.{◌≢◌, IfErr, OnOk}
use Rattle.std.proofs.lemmas.Grind.{flat_map-append}
use Rattle.std.specs.Io.KnownBytes.{Appends}
use Rattle.pt_events.specs.declared.event.Stamped.{Stamped}
use Rattle.pt_events.specs.Journal.{IsMerge}
use Rattle.pt_chart.specs.Drawing.{IsChart}
use Rattle.pt_gathered.specs.Gathered.{GatheredState, journals}
use Rattle.pt_gathered.specs.LeftOvers.{all_left}
use Rattle.pt_gathered.specs.Quiet.{latest_stamp}
use Rattle.pt_signal.specs.declared.letter.LeftOver.{LeftOver}
use Rattle.pt_signal.specs.declared.config.Config.{Config}
use Rattle.pt_shard.specs.declared.fault.Fault.TheVariants.{Full, Memory as DeskMemory, Worn, Gone, Myself, NoProc}
use Rattle.pt_shard.specs.declared.stop.Stop.{Stop}
use Rattle.pt_shard.specs.declared.stop.Stop.TheVariants.{Memory as StopMemory, Worn as StopWorn}
use Rattle.pt_gathered.specs.Order.{SettlingStops}
use Rattle.pt_desk.specs.DeskState.{DeskState}
use Rattle.pt_workers.specs.Desks.{AreDesksOf}
use Rattle.pt_node.specs.Gathering.{Gathers}
use Rattle.pt_signal.specs.declared.pid.Pid.{Pid}
use Rattle.pt_script.specs.Called.{names_in}
use Rattle.pt_script.specs.Nodes.{config_of}
use Rattle.pt_script.specs.Plans.{Whole}
use Rattle.pt_script.specs.Scripts.{reading}
use Rattle.pt_render.specs.Pages.{page_text, steps_after, steps_text}
use Rattle.pt_render.specs.declared.choices.Options.{Options}
use Rattle.pt_render.specs.declared.choices.Show.{Show}
use Rattle.pt_render.specs.declared.choices.Show.TheVariants.{Summary, History, Chart, Mermaid, Json, Steps, Page}
use Rattle.pt_report.specs.Lines.{line, lines, left_lines, form_head, history_text}
use Rattle.pt_report.specs.declared.form.Form.{Form}
use Rattle.pt_report.specs.declared.form.Form.TheVariants.{Lines, Diagram, Objects}
use Rattle.pt_report.specs.Epochs.{Staffed, RunsEpoch, PassEpochs, AreAt, IsWrittenAs, HasWritten, IsLeft, IsOfEnd, IsOfEpoch, IsOfEpochs}
use Rattle.pt_runner.specs.declared.runner.Runner.{Runner}
use Rattle.pt_report.specs.Called.{called_by}
use Rattle.pt_report.specs.Reports.{HasWrittenOf, RunIsBegun, IsNodeOf, IsOfRun, IsOfStart, IsRun, ReportsLeft, ReportShows, ReportTells}
use Rattle.pt_report.specs.Status.{IsOfPrint, stopped_fault}
use Rattle.pt_report.specs.Summaries.{SummarizesAs}
use Rattle.pt_report.specs.declared.fault.ReportFault.{ReportFault}
use Rattle.pt_report.specs.declared.fault.ReportFault.TheVariants.{Script, Memory, Desk, File}
use Rattle.pt_report.proofs.Settings.{epoch_goes_on, same_settings}
use Rattle.pt_report.proofs.Writing.{appends_nothing, appends_then}

-- the settings of a node after an epoch are those before it, with other clocks
pub gathered_settings : (options : Options) (budget : ℕ) (config : Config) (old ran : Staffed) (g : GatheredState) → AreDesksOf config old.0 → RunsEpoch options budget old ran → Gathers ran.0 g → g.config ≡ config
gathered_settings options budget config old ran g node runs gathers = same_settings config g.config old.0 ran.0 node gathers.node (epoch_goes_on options budget old ran runs)

-- a node at an epoch's beginning, and its settings, the clocks apart
abbrev pub HasSettings : Config → List DeskState → Type 0
HasSettings config desks = (now : Config) × AreDesksOf now desks × (record now { start = 0 } ≡ config)

pub settings_after : (options : Options) (budget : ℕ) (config : Config) (n : ℕ) (first : Staffed) (histories : List Stamped) (now : Staffed) → HasSettings config first.0 → PassEpochs options budget n first histories now → HasSettings config now.0
settings_after options budget config zero first histories now node passed = subst (λ (s : Staffed). HasSettings config s.0) (sym {A = Staffed} passed.0) node
settings_after options budget config (suc n) first histories now node (mid, before, last, passed, epoch, joined) =
    let at = settings_after options budget config n first before mid node passed in
    let same : epoch.ends.gathered.config ≡ at.0 = gathered_settings options budget at.0 mid epoch.ran epoch.ends.gathered at.1 epoch.runs epoch.ends.gathers in
    let settled : epoch.ends.settled.config ≡ at.0 = epoch.ends.settles.config ∙ same in
    (record epoch.ends.settled.config { start = latest_stamp epoch.ends.settled }, epoch.ends.goes_on.node, ap (λ (c : Config). record c { start = 0 }) settled ∙ at.2)

-- the node that a script was run on
abbrev pub node_of : (options : Options) (script : Whole) (n : ℕ) (first : Staffed) (histories : List Stamped) (last ran : Staffed) (g : GatheredState) → RunIsBegun script first → PassEpochs options script.settings.budget n first histories last → RunsEpoch options script.settings.budget last ran → Gathers ran.0 g → IsRun n options script histories g ran.1
node_of options script n first histories last ran g begun passed runs gathers =
    let budget = script.settings.budget in
    let at = settings_after options budget (config_of script.settings) n first histories last (config_of script.settings, begun.node, refl) passed in (
      record {
        config = ap (λ (c : Config). record c { start = 0 }) (gathered_settings options budget at.0 last ran g at.1 runs gathers) ∙ at.2;
        first = first;
        begun = begun;
        last = last;
        passed = passed;
        ran = ran;
        runs = runs;
        gathers = gathers;
      },
      refl,
    )

-- where histories are ---------------------------------------------------------------------

lines_joined : (form : Form) (hs h : List Stamped) → lines form (hs ++ h) ≡ lines form hs ++ lines form h
lines_joined form hs h = flat_map-append (line form) hs h

module _ {W : Type 0} (contents : W → Option (List ℕ)) where
  -- before the first epoch has ended
  pub at_first : (print : Show) (first : W) (kept : List Stamped) → kept ≡ [] → AreAt contents print [] first kept first
  at_first History first kept empty = (appends_nothing (contents first), empty)
  at_first Json first kept empty = (appends_nothing (contents first), empty)
  at_first Chart first kept empty = (refl, empty)
  at_first Mermaid first kept empty = (refl, empty)
  at_first Steps first kept empty = (refl, empty)
  at_first Page first kept empty = (refl, empty)
  at_first Summary first kept empty = (refl, empty)

  -- and with each that ends
  next_lines : (form : Form) (hs h : List Stamped) (first mid new : W) → Appends (contents first) (contents mid) (lines form hs) → Appends (contents mid) (contents new) (lines form h) → Appends (contents first) (contents new) (lines form (hs ++ h))
  next_lines form hs h first mid new before more =
      subst (Appends (contents first) (contents new)) (sym (lines_joined form hs h)) (appends_then (contents first) (contents mid) (contents new) (lines form hs) (lines form h) before more)

  pub put_lines : (print : Show) (form : Form) → IsWrittenAs print form → (hs h : List Stamped) (first mid new : W) (kept : List Stamped) → Appends (contents mid) (contents new) (lines form h) → AreAt contents print hs first kept mid → AreAt contents print (hs ++ h) first kept new
  put_lines History Lines is hs h first mid new kept more at = (next_lines Lines hs h first mid new at.0 more, at.1)
  put_lines Json Objects is hs h first mid new kept more at = (next_lines Objects hs h first mid new at.0 more, at.1)
  put_lines History Diagram is hs h first mid new kept more at = absurd is
  put_lines History Objects is hs h first mid new kept more at = absurd is
  put_lines Json Lines is hs h first mid new kept more at = absurd is
  put_lines Json Diagram is hs h first mid new kept more at = absurd is
  put_lines Chart form is hs h first mid new kept more at = absurd is
  put_lines Mermaid form is hs h first mid new kept more at = absurd is
  put_lines Steps form is hs h first mid new kept more at = absurd is
  put_lines Page form is hs h first mid new kept more at = absurd is
  put_lines Summary form is hs h first mid new kept more at = absurd is

  -- what stands in the writer, by the epochs so far
  behind : (options : Options) (budget n : ℕ) (first : Staffed) (hs : List Stamped) (now : Staffed) (old new : W) (kept : List Stamped) (print : Show) → options.print ≡ print → (n ≡ 0 → new ≡ old) → (0 < n → n < options.epochs)
      → PassEpochs options budget n first hs now → AreAt contents print hs old kept new → (new ≡ old) ⊎ HasWritten options budget first (contents old) (contents new)
  behind options budget zero first hs now old new kept print is same within passed at = inl (same refl)
  behind options budget (suc n) first hs now old new kept History is same within passed at = inr (Lines, subst (λ p. IsWrittenAs p Lines) (sym is) tt, suc n, omega arith, within (omega arith), hs, now, passed, at.0)
  behind options budget (suc n) first hs now old new kept Json is same within passed at = inr (Objects, subst (λ p. IsWrittenAs p Objects) (sym is) tt, suc n, omega arith, within (omega arith), hs, now, passed, at.0)
  behind options budget (suc n) first hs now old new kept Chart is same within passed at = inl at.0
  behind options budget (suc n) first hs now old new kept Mermaid is same within passed at = inl at.0
  behind options budget (suc n) first hs now old new kept Steps is same within passed at = inl at.0
  behind options budget (suc n) first hs now old new kept Page is same within passed at = inl at.0
  behind options budget (suc n) first hs now old new kept Summary is same within passed at = inl at.0

  pub written : (options : Options) (budget n : ℕ) (first : Staffed) (hs : List Stamped) (now : Staffed) (old new : W) (kept : List Stamped) → (n ≡ 0 → new ≡ old) → (0 < n → n < options.epochs)
      → PassEpochs options budget n first hs now → AreAt contents options.print hs old kept new → (new ≡ old) ⊎ HasWritten options budget first (contents old) (contents new)
  written options budget n first hs now old new kept same within passed at = behind options budget n first hs now old new kept options.print refl same within passed at

-- what is printed of the last epoch stands behind the histories
history_joined : (form : Form) → form_head form ≡ [] → (old mid new : Option (List ℕ)) (hs h : List Stamped) (left : List LeftOver) → Appends old mid (lines form hs) → Appends mid new (history_text form h left) → Appends old new (history_text form (hs ++ h) left)
history_joined form none old mid new hs h left before last =
    let plain : (es : List Stamped) → history_text form es left ≡ lines form es ++ left_lines form left = λ es. ap (λ z. z ++ (lines form es ++ left_lines form left)) none in
    let joined : lines form hs ++ (lines form h ++ left_lines form left) ≡ lines form (hs ++ h) ++ left_lines form left = sym (append_assoc (lines form hs) (lines form h) (left_lines form left)) ∙ ap (λ z. z ++ left_lines form left) (sym (lines_joined form hs h)) in
    subst (Appends old new) (joined ∙ sym (plain (hs ++ h))) (appends_then old mid new (lines form hs) (lines form h ++ left_lines form left) before (subst (Appends mid new) (plain h) last))

module _ {W : Type 0} (contents : W → Option (List ℕ)) where
  -- the history that was printed behind those that were kept
  abbrev Printed : Form → List Stamped → GatheredState → W → W → Type 0
  Printed form kept g mid new = (h : List Stamped) × IsMerge (journals g) (reverse h) × Appends (contents mid) (contents new) (history_text form (kept ++ h) (all_left g))

  -- the lines of this form stand behind those of the epochs before
  tells_lines : (form : Form) → form_head form ≡ [] → (hs : List Stamped) (g : GatheredState) (first mid new : W) (kept : List Stamped) → Appends (contents first) (contents mid) (lines form hs) → kept ≡ [] → Printed form kept g mid new → ReportTells form hs g (contents first) (contents new)
  tells_lines form none hs g first mid new kept before empty x =
      (x.0, x.1, history_joined form none (contents first) (contents mid) (contents new) hs x.0 (all_left g) before (subst (λ k. Appends (contents mid) (contents new) (history_text form (k ++ x.0) (all_left g))) empty x.2))

  pub shows_history : (explain : Bool) (print : Show) → print ≡ History → (hs : List Stamped) (called : List (Pid × List ℕ)) (g : GatheredState) (first mid new : W) (kept : List Stamped) → AreAt contents print hs first kept mid → Printed Lines kept g mid new → ReportShows explain print hs called g (contents first) (contents new)
  shows_history explain print is hs called g first mid new kept at x =
      let a = subst (λ p. AreAt contents p hs first kept mid) is at in
      subst (λ p. ReportShows explain p hs called g (contents first) (contents new)) (sym is) (tells_lines Lines refl hs g first mid new kept a.0 a.1 x)

  pub shows_json : (explain : Bool) (print : Show) → print ≡ Json → (hs : List Stamped) (called : List (Pid × List ℕ)) (g : GatheredState) (first mid new : W) (kept : List Stamped) → AreAt contents print hs first kept mid → Printed Objects kept g mid new → ReportShows explain print hs called g (contents first) (contents new)
  shows_json explain print is hs called g first mid new kept at x =
      let a = subst (λ p. AreAt contents p hs first kept mid) is at in
      subst (λ p. ReportShows explain p hs called g (contents first) (contents new)) (sym is) (tells_lines Objects refl hs g first mid new kept a.0 a.1 x)

  pub shows_mermaid : (explain : Bool) (print : Show) → print ≡ Mermaid → (hs : List Stamped) (called : List (Pid × List ℕ)) (g : GatheredState) (first mid new : W) (kept : List Stamped) → AreAt contents print hs first kept mid → Printed Diagram kept g mid new → ReportShows explain print hs called g (contents first) (contents new)
  shows_mermaid explain print is hs called g first mid new kept at x =
      let a = subst (λ p. AreAt contents p hs first kept mid) is at in
      let text = history_text Diagram (hs ++ x.0) (all_left g) in
      subst (λ p. ReportShows explain p hs called g (contents first) (contents new)) (sym is) (x.0, x.1, subst (λ m. Appends (contents m) (contents new) text) a.0 (subst (λ k. Appends (contents mid) (contents new) (history_text Diagram (k ++ x.0) (all_left g))) a.1 x.2))

  pub shows_chart : (explain : Bool) (print : Show) → print ≡ Chart → (hs : List Stamped) (called : List (Pid × List ℕ)) (g : GatheredState) (first mid new : W) (kept : List Stamped) → AreAt contents print hs first kept mid
      → ((h : List Stamped) × IsMerge (journals g) (reverse h) × (text : List ℕ) × IsChart (kept ++ h) called text × Appends (contents mid) (contents new) text) → ReportShows explain print hs called g (contents first) (contents new)
  shows_chart explain print is hs called g first mid new kept at x =
      let a = subst (λ p. AreAt contents p hs first kept mid) is at in
      subst (λ p. ReportShows explain p hs called g (contents first) (contents new)) (sym is) (x.0, x.1, x.2, subst (λ z. IsChart (z ++ x.0) called x.2) a.1 x.3, subst (λ m. Appends (contents m) (contents new) x.2) a.0 x.4)

  -- this text of the events that were kept and of the node's own was written
  abbrev Written : (List Stamped → List ℕ) → List Stamped → GatheredState → W → W → Type 0
  Written text kept g mid new = (h : List Stamped) × IsMerge (journals g) (reverse h) × Appends (contents mid) (contents new) (text (kept ++ h))

  -- nothing was written before it
  written_first : (text : List Stamped → List ℕ) (hs : List Stamped) (g : GatheredState) (first mid new : W) (kept : List Stamped) → (mid ≡ first) × (kept ≡ hs) → Written text kept g mid new → Written text hs g first new
  written_first text hs g first mid new kept a x =
      (x.0, x.1, subst (λ m. Appends (contents m) (contents new) (text (hs ++ x.0))) a.0 (subst (λ k. Appends (contents mid) (contents new) (text (k ++ x.0))) a.1 x.2))

  pub shows_steps : (explain : Bool) (print : Show) → print ≡ Steps → (hs : List Stamped) (called : List (Pid × List ℕ)) (g : GatheredState) (first mid new : W) (kept : List Stamped) → AreAt contents print hs first kept mid
      → Written (λ es. steps_text (steps_after [] es) (all_left g)) kept g mid new → ReportShows explain print hs called g (contents first) (contents new)
  shows_steps explain print is hs called g first mid new kept at x =
      subst (λ p. ReportShows explain p hs called g (contents first) (contents new)) (sym is)
      (written_first (λ es. steps_text (steps_after [] es) (all_left g)) hs g first mid new kept (subst (λ p. AreAt contents p hs first kept mid) is at) x)

  pub shows_page : (explain : Bool) (print : Show) → print ≡ Page → (hs : List Stamped) (called : List (Pid × List ℕ)) (g : GatheredState) (first mid new : W) (kept : List Stamped) → AreAt contents print hs first kept mid
      → Written (λ es. page_text (steps_after [] es) (all_left g) called) kept g mid new → ReportShows explain print hs called g (contents first) (contents new)
  shows_page explain print is hs called g first mid new kept at x =
      subst (λ p. ReportShows explain p hs called g (contents first) (contents new)) (sym is)
      (written_first (λ es. page_text (steps_after [] es) (all_left g) called) hs g first mid new kept (subst (λ p. AreAt contents p hs first kept mid) is at) x)

  pub shows_summary : (explain : Bool) (print : Show) → print ≡ Summary → (hs : List Stamped) (called : List (Pid × List ℕ)) (g : GatheredState) (first mid new : W) (kept : List Stamped) → AreAt contents print hs first kept mid
      → SummarizesAs explain g (contents mid) (contents new) → ReportShows explain print hs called g (contents first) (contents new)
  shows_summary explain print is hs called g first mid new kept at x =
      let a = subst (λ p. AreAt contents p hs first kept mid) is at in
      subst (λ p. ReportShows explain p hs called g (contents first) (contents new)) (sym is) (subst (λ m. SummarizesAs explain g (contents m) (contents new)) a.0 x)

  pub history_reported : (r : Result (Unit {0}) ReportFault) (bytes : List ℕ) (options : Options) (script : Whole) (hs : List Stamped) (g : GatheredState) (first mid new : W) (kept : List Stamped) → reading bytes ≡ Ok script → (node : IsNodeOf (options.epochs - 1) options script hs g)
      → AreAt contents options.print hs first kept mid → options.print ≡ History → OnOk r (Printed Lines kept g mid new) → (left : ℕ) → IsLeft node.ran g left → OnOk r (ReportsLeft left bytes options (contents first) (contents new))
  history_reported (Ok u) bytes options script hs g first mid new kept read node at is x left rests =
      record { reports = record { script = script; read = read; histories = hs; node = g; is_node = node; shows = shows_history options.explain options.print is hs (called_by (names_in bytes) node.ran.1) g first mid new kept at x }; is_left = rests }
  history_reported (Err e) bytes options script hs g first mid new kept read node at is x left rests = tt

  pub json_reported : (r : Result (Unit {0}) ReportFault) (bytes : List ℕ) (options : Options) (script : Whole) (hs : List Stamped) (g : GatheredState) (first mid new : W) (kept : List Stamped) → reading bytes ≡ Ok script → (node : IsNodeOf (options.epochs - 1) options script hs g)
      → AreAt contents options.print hs first kept mid → options.print ≡ Json → OnOk r (Printed Objects kept g mid new) → (left : ℕ) → IsLeft node.ran g left → OnOk r (ReportsLeft left bytes options (contents first) (contents new))
  json_reported (Ok u) bytes options script hs g first mid new kept read node at is x left rests =
      record { reports = record { script = script; read = read; histories = hs; node = g; is_node = node; shows = shows_json options.explain options.print is hs (called_by (names_in bytes) node.ran.1) g first mid new kept at x }; is_left = rests }
  json_reported (Err e) bytes options script hs g first mid new kept read node at is x left rests = tt

  pub mermaid_reported : (r : Result (Unit {0}) ReportFault) (bytes : List ℕ) (options : Options) (script : Whole) (hs : List Stamped) (g : GatheredState) (first mid new : W) (kept : List Stamped) → reading bytes ≡ Ok script → (node : IsNodeOf (options.epochs - 1) options script hs g)
      → AreAt contents options.print hs first kept mid → options.print ≡ Mermaid → OnOk r (Printed Diagram kept g mid new) → (left : ℕ) → IsLeft node.ran g left → OnOk r (ReportsLeft left bytes options (contents first) (contents new))
  mermaid_reported (Ok u) bytes options script hs g first mid new kept read node at is x left rests =
      record { reports = record { script = script; read = read; histories = hs; node = g; is_node = node; shows = shows_mermaid options.explain options.print is hs (called_by (names_in bytes) node.ran.1) g first mid new kept at x }; is_left = rests }
  mermaid_reported (Err e) bytes options script hs g first mid new kept read node at is x left rests = tt

  pub chart_reported : (r : Result (Unit {0}) ReportFault) (bytes : List ℕ) (options : Options) (script : Whole) (hs : List Stamped) (g : GatheredState) (runners : List Runner) (first mid new : W) (kept : List Stamped) → reading bytes ≡ Ok script
      → (run : IsRun (options.epochs - 1) options script hs g runners) → AreAt contents options.print hs first kept mid → options.print ≡ Chart
      → OnOk r ((h : List Stamped) × IsMerge (journals g) (reverse h) × (text : List ℕ) × IsChart (kept ++ h) (called_by (names_in bytes) runners) text × Appends (contents mid) (contents new) text) → (left : ℕ) → IsLeft run.0.ran g left → OnOk r (ReportsLeft left bytes options (contents first) (contents new))
  chart_reported (Ok u) bytes options script hs g runners first mid new kept read (node, ran) at is x left rests =
      let called = called_by (names_in bytes) node.ran.1 in
      let so : (h : List Stamped) × IsMerge (journals g) (reverse h) × (text : List ℕ) × IsChart (kept ++ h) called text × Appends (contents mid) (contents new) text =
      (x.0, x.1, x.2, subst (λ rs. IsChart (kept ++ x.0) (called_by (names_in bytes) rs) x.2) (sym ran) x.3, x.4) in
      record { reports = record { script = script; read = read; histories = hs; node = g; is_node = node; shows = shows_chart options.explain options.print is hs called g first mid new kept at so }; is_left = rests }
  chart_reported (Err e) bytes options script hs g runners first mid new kept read run at is x left rests = tt

  pub steps_reported : (r : Result (Unit {0}) ReportFault) (bytes : List ℕ) (options : Options) (script : Whole) (hs : List Stamped) (g : GatheredState) (first mid new : W) (kept : List Stamped) → reading bytes ≡ Ok script → (node : IsNodeOf (options.epochs - 1) options script hs g)
      → AreAt contents options.print hs first kept mid → options.print ≡ Steps → OnOk r (Written (λ es. steps_text (steps_after [] es) (all_left g)) kept g mid new) → (left : ℕ) → IsLeft node.ran g left → OnOk r (ReportsLeft left bytes options (contents first) (contents new))
  steps_reported (Ok u) bytes options script hs g first mid new kept read node at is x left rests =
      record { reports = record { script = script; read = read; histories = hs; node = g; is_node = node; shows = shows_steps options.explain options.print is hs (called_by (names_in bytes) node.ran.1) g first mid new kept at x }; is_left = rests }
  steps_reported (Err e) bytes options script hs g first mid new kept read node at is x left rests = tt

  pub page_reported : (r : Result (Unit {0}) ReportFault) (bytes : List ℕ) (options : Options) (script : Whole) (hs : List Stamped) (g : GatheredState) (runners : List Runner) (first mid new : W) (kept : List Stamped) → reading bytes ≡ Ok script
      → (run : IsRun (options.epochs - 1) options script hs g runners) → AreAt contents options.print hs first kept mid → options.print ≡ Page
      → OnOk r (Written (λ es. page_text (steps_after [] es) (all_left g) (called_by (names_in bytes) runners)) kept g mid new) → (left : ℕ) → IsLeft run.0.ran g left → OnOk r (ReportsLeft left bytes options (contents first) (contents new))
  page_reported (Ok u) bytes options script hs g runners first mid new kept read (node, ran) at is x left rests =
      let so = subst (λ rs. Written (λ es. page_text (steps_after [] es) (all_left g) (called_by (names_in bytes) rs)) kept g mid new) (sym ran) x in
      record { reports = record { script = script; read = read; histories = hs; node = g; is_node = node; shows = shows_page options.explain options.print is hs (called_by (names_in bytes) node.ran.1) g first mid new kept at so }; is_left = rests }
  page_reported (Err e) bytes options script hs g runners first mid new kept read run at is x left rests = tt

  pub summary_reported : (r : Result (Unit {0}) ReportFault) (bytes : List ℕ) (options : Options) (script : Whole) (hs : List Stamped) (g : GatheredState) (first mid new : W) (kept : List Stamped) → reading bytes ≡ Ok script → (node : IsNodeOf (options.epochs - 1) options script hs g)
      → AreAt contents options.print hs first kept mid → options.print ≡ Summary → OnOk r (SummarizesAs options.explain g (contents mid) (contents new)) → (left : ℕ) → IsLeft node.ran g left → OnOk r (ReportsLeft left bytes options (contents first) (contents new))
  summary_reported (Ok u) bytes options script hs g first mid new kept read node at is x left rests =
      record { reports = record { script = script; read = read; histories = hs; node = g; is_node = node; shows = shows_summary options.explain options.print is hs (called_by (names_in bytes) node.ran.1) g first mid new kept at x }; is_left = rests }
  summary_reported (Err e) bytes options script hs g first mid new kept read node at is x left rests = tt

  -- what was written before stays, where a later fault leaves the writer as it was
  pub untouched : (r : Result (Unit {0}) ReportFault) (bytes : List ℕ) (options : Options) (script : Whole) (first mid new : W) → reading bytes ≡ Ok script
      → (mid ≡ first) ⊎ ((begun : Staffed) × RunIsBegun script begun × HasWritten options script.settings.budget begun (contents first) (contents mid)) → IfErr r (λ f. f ≢ File → new ≡ mid)
      → IfErr r (λ f. f ≢ File → (new ≡ first) ⊎ HasWrittenOf bytes options (contents first) (contents new))
  untouched (Ok u) bytes options script first mid new read told h = tt
  untouched (Err e) bytes options script first mid new read (inl same) h = λ other. inl (h other ∙ same)
  untouched (Err e) bytes options script first mid new read (inr has) h =
      λ other. inr (script, read, has.0, has.1, subst (λ w. HasWritten options script.settings.budget has.0 (contents first) (contents w)) (sym {A = W} (h other)) has.2)

-- faults ----------------------------------------------------------------------------------

pub stopped_of_end : (ran : List DeskState) (g last : GatheredState) (stop : Stop) → Gathers ran g → SettlingStops (length g.shards) stop g last → IsOfEnd ran (stopped_fault stop)
stopped_of_end ran g last StopMemory gathers stops = tt
stopped_of_end ran g last StopWorn gathers stops = (g, gathers, last, stops)

pub of_end : (options : Options) (budget : ℕ) (old ran : Staffed) (f : ReportFault) → RunsEpoch options budget old ran → IsOfEnd ran.0 f → IsOfEpoch options budget old f
of_end options budget old ran Memory runs is = tt
of_end options budget old ran (Desk Worn) runs is = (ran, runs, is)
of_end options budget old ran (Desk Full) runs is = absurd is
of_end options budget old ran (Desk DeskMemory) runs is = absurd is
of_end options budget old ran (Desk Gone) runs is = absurd is
of_end options budget old ran (Desk Myself) runs is = absurd is
of_end options budget old ran (Desk NoProc) runs is = absurd is
of_end options budget old ran (Script e) runs is = absurd is
of_end options budget old ran File runs is = absurd is

pub of_memory : (options : Options) (budget : ℕ) (old : Staffed) (f : ReportFault) → f ≡ Memory → IsOfEpoch options budget old f
of_memory options budget old f is = subst (IsOfEpoch options budget old) (sym is) tt

pub of_epoch : (options : Options) (budget n : ℕ) (first : Staffed) (hs : List Stamped) (now : Staffed) (f : ReportFault) → n + 1 < options.epochs → PassEpochs options budget n first hs now → IsOfEpoch options budget now f → IsOfEpochs options budget first f
of_epoch options budget n first hs now Memory within passed is = tt
of_epoch options budget n first hs now (Desk Worn) within passed is = (n, within, hs, now, passed, is)
of_epoch options budget n first hs now (Desk Full) within passed is = absurd is
of_epoch options budget n first hs now (Desk DeskMemory) within passed is = absurd is
of_epoch options budget n first hs now (Desk Gone) within passed is = absurd is
of_epoch options budget n first hs now (Desk Myself) within passed is = absurd is
of_epoch options budget n first hs now (Desk NoProc) within passed is = absurd is
of_epoch options budget n first hs now (Script e) within passed is = absurd is
of_epoch options budget n first hs now File within passed is = absurd is

pub of_put : (options : Options) (budget : ℕ) (first : Staffed) (f : ReportFault) → IsOfPrint f → IsOfEpochs options budget first f
of_put options budget first Memory is = tt
of_put options budget first File is = tt
of_put options budget first (Desk f) is = absurd is
of_put options budget first (Script e) is = absurd is

pub run_of_epochs : (options : Options) (script : Whole) (first : Staffed) (f : ReportFault) → RunIsBegun script first → IsOfEpochs options script.settings.budget first f → IsOfRun options script f
run_of_epochs options script first Memory begun is = tt
run_of_epochs options script first File begun is = tt
run_of_epochs options script first (Desk Worn) begun (n, within, hs, now, passed, (ran, runs, (g, gathers, last, stops))) =
    inr (record { epochs = n; asked = inl within; histories = hs; node = g; is_node = (node_of options script n first hs now ran g begun passed runs gathers).0; last = last; stops = stops })
run_of_epochs options script first (Desk Full) begun is = absurd is
run_of_epochs options script first (Desk DeskMemory) begun is = absurd is
run_of_epochs options script first (Desk Gone) begun is = absurd is
run_of_epochs options script first (Desk Myself) begun is = absurd is
run_of_epochs options script first (Desk NoProc) begun is = absurd is
run_of_epochs options script first (Script e) begun is = absurd is

pub run_of_memory : (options : Options) (script : Whole) (f : ReportFault) → f ≡ Memory → IsOfRun options script f
run_of_memory options script f is = subst (IsOfRun options script) (sym is) tt

pub run_of_start : (options : Options) (script : Whole) (f : ReportFault) → IsOfStart script f → IsOfRun options script f
run_of_start options script Memory is = tt
run_of_start options script (Desk Full) is = is
run_of_start options script (Desk Worn) is = inl is
run_of_start options script (Desk DeskMemory) is = absurd is
run_of_start options script (Desk Gone) is = absurd is
run_of_start options script (Desk Myself) is = absurd is
run_of_start options script (Desk NoProc) is = absurd is
run_of_start options script (Script e) is = absurd is
run_of_start options script File is = absurd is
