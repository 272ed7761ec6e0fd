-- What is read of a node that was gathered, or settled.
use Rattle.std.specs.Prelude.{◌≡◌, ◌⊎◌, ℕ, nat_lt, Bool, false, length, reverse, is_some, is_none, List, [], ◌++◌, MatchBool}
use Rattle.std.specs.Prelude.{Option, Some, None, Ok, Err}
use Rattle.std.specs.List.{list_any}
use Rattle.std.specs.Map.{lookup}
use Rattle.pt_signal.specs.Values.{same_ref}
use Rattle.pt_signal.specs.Process.{held}
use Rattle.pt_events.specs.declared.event.Event.{Event}
use Rattle.pt_events.specs.declared.event.Stamped.{Stamped}
use Rattle.pt_events.specs.History.{IsLegal, state, life, open_monitors}
use Rattle.pt_events.specs.Journal.{IsMerge}
use Rattle.pt_judge.specs.Judge.{ReplaysAfter}
use Rattle.pt_accounts.specs.declared.account.Account.{Account}
use Rattle.pt_accounts.specs.LivesState.{InEveryMerge, AreAllPids, account_in, ended_with}
use Rattle.pt_gathered.specs.Gathered.{GatheredState, begins, journals}
use Rattle.pt_gathered.specs.LeftOvers.{all_left}
use Rattle.pt_gathered.specs.Quiet.{QuietState}
use Rattle.pt_shell.specs.declared.lines.call.Look.{Look}
use Rattle.pt_shell.specs.declared.answer.Answer.{Answer}
use Rattle.pt_shell.specs.Looking.{IfNumber, IfEvent, IfEvents, IfLetters, IfPids, IfAccount, IfReason, IfTrue, IfIds}
use Rattle.pt_shell.specs.Looking.{IfItems, IsNotNow, event_in}
use Rattle.pt_shell.specs.Stepping.{without_stamps}

-- The judge of histories went through the events of the epochs before, and then through those of the history: all may
-- come, or the first that may not is told; memory may be wanting.
abbrev pub IsJudged : List Event → List Stamped → Answer → Type 0
IsJudged earlier history (Answer.Judged (Ok u)) = IsLegal [] (reverse (without_stamps history) ++ reverse earlier)
IsJudged earlier history (Answer.Judged (Err stop)) = ReplaysAfter [] (reverse earlier) (without_stamps history) (Err stop)
IsJudged earlier history Answer.NoMemory = Unit {0}
IsJudged earlier history _ = ⊥

-- what is read of a history
abbrev pub OfHistory : Look → List Stamped → List Event → Answer → Type 0
OfHistory (Look.Event desk stamp) history earlier a = IfEvent (Some a) (λ e. e ≡ event_in history desk stamp)
OfHistory Look.Events history earlier a = IfNumber (Some a) (λ n. n ≡ Some (length history))
OfHistory Look.Judge history earlier a = IsJudged earlier history a
OfHistory _ history earlier a = IfEvents (Some a) (λ events. events ≡ history) ⊥

-- what is read of the one history of the node, or there was no memory for it
abbrev pub TellsHistory : GatheredState → Look → List Event → Answer → Type 0
TellsHistory g look earlier a =
    ((history : List Stamped) × IsMerge (journals g) (reverse history) × OfHistory look history earlier a)
    ⊎ (a ≡ Answer.NoMemory)

abbrev pub IfTold : Option Answer → (Answer → Type 0) → Type 0
IfTold (Some a) P = P a
IfTold None P = ⊥

-- what is read of the history, if the node has the desk
abbrev pub TellsOfDesk : ℕ → GatheredState → Look → List Event → Option Answer → Type 0
TellsOfDesk desk g look earlier a =
    MatchBool (nat_lt desk (length g.shards)) (IfTold a (TellsHistory g look earlier)) (a ≡ Some Answer.Unknown)

-- what is read of a gathered node; what is read of another one alone is not answered
abbrev pub LooksAtGathered : Look → GatheredState → List Event → Option Answer → Type 0
LooksAtGathered Look.LeftOver g earlier a = IfLetters a (λ letters. letters ≡ all_left g)
LooksAtGathered Look.History g earlier a = IfTold a (TellsHistory g Look.History earlier)
LooksAtGathered (Look.Event desk stamp) g earlier a = TellsOfDesk desk g (Look.Event desk stamp) earlier a
LooksAtGathered Look.Events g earlier a = IfTold a (TellsHistory g Look.Events earlier)
LooksAtGathered Look.Judge g earlier a = IfTold a (TellsHistory g Look.Judge earlier)
LooksAtGathered _ g earlier a = IsNotNow a

abbrev pub is_alive : Option Account → Bool
is_alive None = false
is_alive (Some a) = is_none a.ended

-- it is so in every merge of the journals of the node
abbrev pub InEach : QuietState → (List Event → Type 0) → Type 0
InEach q P = InEveryMerge (journals q.gathered) P

-- what is read of a settled node; what is read of another one alone is not answered
abbrev pub LooksAtQuiet : Look → QuietState → List Event → Option Answer → Type 0
LooksAtQuiet Look.History q earlier a = IfTold a (TellsHistory q.gathered Look.History earlier)
LooksAtQuiet (Look.Event desk stamp) q earlier a = TellsOfDesk desk q.gathered (Look.Event desk stamp) earlier a
LooksAtQuiet Look.Events q earlier a = IfTold a (TellsHistory q.gathered Look.Events earlier)
LooksAtQuiet Look.Judge q earlier a = IfTold a (TellsHistory q.gathered Look.Judge earlier)
LooksAtQuiet Look.Pids q earlier a =
    IfPids a (λ pids. InEach q (λ past. AreAllPids (begins q.gathered) past pids))
LooksAtQuiet (Look.Account p) q earlier a =
    IfAccount a (λ r. InEach q (λ past. r ≡ account_in (begins q.gathered) past p))
LooksAtQuiet (Look.Ended p) q earlier a =
    IfReason a (λ r. InEach q (λ past. r ≡ ended_with (account_in (begins q.gathered) past p)))
LooksAtQuiet (Look.Alive p) q earlier a =
    IfTrue a (λ b. InEach q (λ past. b ≡ is_alive (account_in (begins q.gathered) past p)))
-- the items are those of the state that the history leads to, of which no clause tells here
LooksAtQuiet (Look.Waiting p) q earlier a = IfItems a (λ items. Unit {0})
LooksAtQuiet (Look.Linked p peer) q earlier a =
    IfIds a (λ ids. InEach q (λ past. ids ≡ held (state (begins q.gathered) past p).links peer))
LooksAtQuiet (Look.Watching p m) q earlier a =
    IfTrue a (λ b. InEach q
    (λ past. b ≡ is_some (lookup (same_ref m) (open_monitors (life (begins q.gathered) past p)))))
LooksAtQuiet (Look.Kept p m) q earlier a =
    IfTrue a (λ b. InEach q
    (λ past. b ≡ list_any (λ k. same_ref m k.0) (state (begins q.gathered) past p).kept))
LooksAtQuiet _ q earlier a = IsNotNow a
