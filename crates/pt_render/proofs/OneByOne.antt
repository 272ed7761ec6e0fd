-- The events of a history, one after the other, with what each changed.
use Rattle.std.proofs.Common.{◌≡◌, List, [], ◌∷◌, ◌++◌, Err, inl, inr, map, ap, sym, subst, ◌∙◌, append-nil, append_assoc}
use Rattle.pt_events.specs.declared.event.Stamped.{Stamped}
use Rattle.pt_events.specs.History.{Past, life}
use Rattle.pt_judge.specs.declared.cause.Cause.{Cause}
use Rattle.pt_judge.specs.Judge.{IsAfter, Judges}
use Rattle.pt_judge.specs.Judging.{JudgeState}
use Rattle.pt_auditor.specs.Changes.{event_changes}
use Rattle.pt_render.specs.declared.stepping.Step.{Step}
use Rattle.pt_render.specs.Pages.{IsStepAdded, StepsFail, step_told, steps_after}

-- the list has the events in front of the rest, and the judge is behind them
pub record IsStepping (events rest : List Stamped) (list : List Step) (state : JudgeState) : Type 0 where
  pub past : Past
  pub after : IsAfter [] past state
  pub told : map step_told list ++ steps_after past rest ≡ steps_after [] events
  pub back : (c : Cause) → StepsFail past rest c → StepsFail [] events c

pub begun : (events : List Stamped) (list : List Step) (state : JudgeState) → list ≡ [] → IsAfter [] [] state → IsStepping events events list state
begun events list state none after =
    record { past = []; after = after; told = ap (λ l. map step_told l ++ steps_after [] events) none; back = λ c fails. fails }

pub goes_on : (events all rest : List Stamped) (s : Stamped) (list new : List Step) (state next : JudgeState) (k : IsStepping events all list state) → all ≡ s ∷ rest → IsStepAdded k.past s list new next → IsStepping events rest new next
goes_on events all rest s list new state next k is on = record {
  past = s.event ∷ k.past;
  after = on.goes_on;
  told =
      ap (λ z. z ++ steps_after (s.event ∷ k.past) rest) on.told
      ∙ append_assoc (map step_told list) ((s, event_changes (life [] k.past) s.event) ∷ []) (steps_after (s.event ∷ k.past) rest)
      ∙ subst (λ xs. map step_told list ++ steps_after k.past xs ≡ steps_after [] events) is k.told;
  back = λ c fails. k.back c (subst (λ xs. StepsFail k.past xs c) (sym is) (inr (on.may, fails)));
}

-- the event in front is refused, so one of the events is
pub stopped : (events all rest : List Stamped) (s : Stamped) (list : List Step) (state : JudgeState) (c : Cause) (k : IsStepping events all list state) → all ≡ s ∷ rest → Judges [] k.past s.event (Err c) → StepsFail [] events c
stopped events all rest s list state c k is refused = k.back c (subst (λ xs. StepsFail k.past xs c) (sym is) (inl refused))

pub ended : (events rest : List Stamped) (list : List Step) (state : JudgeState) → IsStepping events rest list state → rest ≡ [] → map step_told list ≡ steps_after [] events
ended events rest list state k none =
    sym (append-nil (map step_told list)) ∙ subst (λ xs. map step_told list ++ steps_after k.past xs ≡ steps_after [] events) none k.told
