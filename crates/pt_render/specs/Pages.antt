-- A history with what each event changed, and its page for a browser, as lists of characters.
use Rattle.std.specs.Prelude.{◌≡◌, ◌⊎◌, ℕ, List, [], ◌∷◌, ◌++◌, Err, codes, decimal, length, map, reverse}
use Rattle.std.specs.List.{flat_map}
use Rattle.pt_signal.specs.declared.pid.Pid.{Pid}
use Rattle.pt_signal.specs.declared.letter.LeftOver.{LeftOver}
use Rattle.pt_signal.specs.Text.{pid_text}
use Rattle.pt_events.specs.declared.event.Stamped.{Stamped}
use Rattle.pt_events.specs.History.{Past, May, life}
use Rattle.pt_judge.specs.declared.cause.Cause.{Cause}
use Rattle.pt_judge.specs.Judge.{IsAfter, Judges}
use Rattle.pt_judge.specs.Judging.{JudgeState}
use Rattle.pt_auditor.specs.Changes.{event_changes}
use Rattle.pt_auditor.specs.Hearings.{desks_of}
use Rattle.pt_auditor.specs.declared.change.Did.{Did}
use Rattle.pt_render.specs.Json.{json_left_over_text}
use Rattle.pt_render.specs.Steps.{step_json}
use Rattle.pt_render.specs.declared.page.TheConstants.{PAGE_HEAD, PAGE_NAMES, PAGE_END}
use Rattle.pt_render.specs.declared.stepping.Step.{Step}

-- an event, and what it changed
abbrev pub ToldStep : Type 0
ToldStep = Stamped × List Did

abbrev pub step_told : Step → ToldStep
step_told s = (s.stamped, s.then.items)

-- events, the oldest first, each with what it changes where these happened before
abbrev pub steps_after : Past → List Stamped → List ToldStep
steps_after past [] = []
steps_after past (s ∷ more) = (s, event_changes (life [] past) s.event) ∷ steps_after (s.event ∷ past) more

-- one event more is in the list, with what it changes, and the judge is behind it
pub record IsStepAdded (past : Past) (s : Stamped) (old new : List Step) (next : JudgeState) : Type 0 where
  pub may : May [] past s.event
  pub told : map step_told new ≡ map step_told old ++ (s, event_changes (life [] past) s.event) ∷ []
  pub goes_on : IsAfter [] (s.event ∷ past) next

-- one of the events is refused for this cause: the first, or a later one if the first may come
abbrev pub StepsFail : Past → List Stamped → Cause → Type 0
StepsFail past [] c = ⊥
StepsFail past (s ∷ more) c =
    Judges [] past s.event (Err c) ⊎ (May [] past s.event × StepsFail (s.event ∷ past) more c)

-- lines ---------------------------------------------------------------------------------------

abbrev pub step_line : ToldStep → List ℕ
step_line t = step_json t.0 t.1 ++ codes "\n"

abbrev pub step_lines : List ToldStep → List ℕ
step_lines steps = flat_map step_line steps

abbrev pub left_json_line : LeftOver → List ℕ
left_json_line l = json_left_over_text l.from_desk l.to_desk l.letter ++ codes "\n"

abbrev pub left_json_lines : List LeftOver → List ℕ
left_json_lines letters = flat_map left_json_line letters

-- the events with what each changed, and then the letters left over
abbrev pub steps_text : List ToldStep → List LeftOver → List ℕ
steps_text steps letters = step_lines steps ++ left_json_lines letters

-- the page ------------------------------------------------------------------------------------

-- the counts of a legal history
unfoldable pub verdict_json : ℕ → ℕ → ℕ → List ℕ
verdict_json events desks letters =
    codes "{\"verdict\":\"legal\",\"events\":" ++ decimal events ++ codes ",\"desks\":" ++ decimal desks
    ++ codes ",\"letters\":" ++ decimal letters ++ codes "}"

-- one more than the greatest desk of an event
abbrev pub desks_told : List ToldStep → ℕ
desks_told steps = desks_of (reverse (map (λ t. t.0) steps))

abbrev pub verdict_line : List ToldStep → List LeftOver → List ℕ
verdict_line steps letters = verdict_json (length steps) (desks_told steps) (length letters) ++ codes "\n"

unfoldable pub name_member : Pid × List ℕ → List ℕ
name_member c = codes "\"" ++ pid_text c.0 ++ codes "\":\"" ++ c.1 ++ codes "\""

-- each behind a comma
abbrev pub more_names : List (Pid × List ℕ) → List ℕ
more_names cs = flat_map (λ c. codes "," ++ name_member c) cs

-- the names of processes
abbrev pub names_json : List (Pid × List ℕ) → List ℕ
names_json [] = codes "{}"
names_json (c ∷ cs) = codes "{" ++ name_member c ++ more_names cs ++ codes "}"

-- the page's frame, with the history, its verdict and the names between its parts
abbrev pub page_text : List ToldStep → List LeftOver → List (Pid × List ℕ) → List ℕ
page_text steps letters called =
    (PAGE_HEAD.now ++ codes "\n") ++ (steps_text steps letters ++ (verdict_line steps letters
    ++ ((PAGE_NAMES.now ++ codes "\n") ++ ((names_json called ++ codes "\n") ++ (PAGE_END.now ++ codes "\n")))))
