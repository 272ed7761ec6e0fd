-- Every legal history opens its monitors anew: a reference that was never made is open nowhere.
use Rattle.std.proofs.Common.{◌≡◌, List, [], ◌∷◌, ◌++◌, Option, Some, None, reverse, refl, ap, sym, subst, ◌∙◌, append-nil, append_assoc}
use Rattle.std.specs.Prelude.{All, IfSome, fold}
use Rattle.std.specs.Map.{lookup}
use Rattle.std.proofs.lemmas.List.{map-append, reverse-append}
use Rattle.std.proofs.lemmas.List.Elements.{All-weaker}
use Rattle.pt_signal.specs.declared.pid.Pid.{Pid}
use Rattle.pt_signal.specs.declared.ids.Ref.{Ref}
use Rattle.pt_signal.specs.declared.signal.Signal.{Signal}
use Rattle.pt_signal.specs.declared.signal.Signal.TheVariants.{Monitor}
use Rattle.pt_signal.specs.Values.{same_ref}
use Rattle.pt_signal.specs.Process.{ProcessState}
use Rattle.pt_events.specs.declared.event.Event.{Event}
use Rattle.pt_events.specs.declared.event.Event.TheVariants.{Said}
use Rattle.pt_events.specs.declared.event.Stamped.{Stamped}
use Rattle.pt_events.specs.History.{Past, Phase, unborn, living, ended, life, state, state_of, May, MaySay, IsLegal}
use Rattle.pt_events.specs.Journal.{events}
use Rattle.pt_accounts.proofs.MayObserve.{unmade_closed}
use Rattle.pt_chart.specs.declared.layout.Column.{Column}
use Rattle.pt_process.specs.Outcome.{IsAnew}
use Rattle.pt_chart.specs.Following.{followed, live_state, OpensAnew}
use Rattle.pt_chart.specs.Chart.{past_of, MonitorsAnew, IsLegalHistory, IsColumn, ShowsLife}

closed_anew : (m : Ref) (f : Phase) → lookup (same_ref m) (state_of f).watching ≡ None → IfSome (live_state f) (IsAnew (Monitor m))
closed_anew m unborn h = tt
closed_anew m (living s) h = h
closed_anew m (ended r s) h = tt

any_anew : (x : Signal) (o : Option ProcessState) → ((s : ProcessState) → IsAnew x s) → IfSome o (IsAnew x)
any_anew x None h = tt
any_anew x (Some s) h = h s

said_anew : (past : Past) (p a b : Pid) (x : Signal) (s : ProcessState) → MaySay [] past s a b x → IfSome (live_state (life [] past p)) (IsAnew x)
said_anew past p a b (Monitor m) s may = closed_anew m (life [] past p) (unmade_closed m [] past p refl may.0)
said_anew past p a b x s may = any_anew x (live_state (life [] past p)) (λ z. tt)

opens_anew : (past : Past) (p : Pid) (e : Event) → May [] past e → OpensAnew e (followed p (life [] past p))
opens_anew past p (Said a b x) may = said_anew past p a b x (state [] past a) may.1
opens_anew past p _ may = tt

-- the law
pub monitors_anew : (past : Past) (p : Pid) → IsLegal [] past → MonitorsAnew past p
monitors_anew [] p legal = tt
monitors_anew (e ∷ past) p legal = (opens_anew past p e legal.0, monitors_anew past p legal.1)

-- the newest event first
newest_first : (past : Past) (history : List Stamped) → fold (λ (es : Past) (s : Stamped). s.event ∷ es) past history ≡ events (reverse history) ++ past
newest_first past [] = refl
newest_first past (s ∷ history) =
    newest_first (s.event ∷ past) history
    ∙ sym (append_assoc (events (reverse history)) (s.event ∷ []) past)
    ∙ ap (λ es. es ++ past) (sym (map-append (λ (t : Stamped). t.event) (reverse history) (s ∷ [])) ∙ ap events (sym (reverse-append (s ∷ []) history)))

past_is : (history : List Stamped) → past_of history ≡ events (reverse history)
past_is history = newest_first [] history ∙ append-nil (events (reverse history))

-- so in a legal history the end and the arrows of every column are those of the history
pub lives_shown : (history : List Stamped) (columns : List Column) → IsLegalHistory history → All (λ (c : Column). IsColumn history c) columns → All (λ (c : Column). ShowsLife history c) columns
lives_shown history columns legal are =
    let past_legal : IsLegal [] (past_of history) = subst (IsLegal []) (sym (past_is history)) legal in
    All-weaker (λ (c : Column). IsColumn history c) (λ (c : Column). ShowsLife history c) (λ c is. is.shows (monitors_anew (past_of history) c.pid past_legal)) columns are
