-- What is read of a node.
use Rattle.std.specs.Prelude.{◌≡◌, ◌-◌, ◌^◌, ◌≤◌, ℕ, Bool, false, ◌==◌, ◌&&◌, min, cond, length, reverse, is_some}
use Rattle.std.specs.Prelude.{List, Option, Some, None}
use Rattle.std.specs.Option.{option_map}
use Rattle.std.specs.List.{find, list_any}
use Rattle.std.specs.Map.{lookup}
use Rattle.pt_signal.specs.Values.{same_ref}
use Rattle.pt_signal.specs.Process.{ProcessState}
use Rattle.pt_signal.specs.declared.pid.Pid.{Pid}
use Rattle.pt_signal.specs.declared.ids.Ref.{Ref}
use Rattle.pt_signal.specs.declared.ids.Ids.{Ids}
use Rattle.pt_signal.specs.declared.item.Item.{Item}
use Rattle.pt_signal.specs.declared.reason.Reason.{Reason}
use Rattle.pt_events.specs.declared.event.Stamped.{Stamped}
use Rattle.pt_accounts.specs.declared.account.Account.{Account}
use Rattle.pt_shard.specs.ShardState.{lives, state_in}
use Rattle.pt_shard.specs.Calls.{held_by}
use Rattle.pt_shard.specs.Known.{knows}
use Rattle.pt_shard.specs.Outbox.{count_pending}
use Rattle.pt_desk.specs.DeskState.{DeskState}
use Rattle.pt_signal.specs.declared.letter.LeftOver.{LeftOver}
use Rattle.pt_node.specs.Node.{ReadsAt}
use Rattle.pt_workers.specs.Stillness.{count_events}
use Rattle.pt_shell.specs.declared.lines.call.Look.{Look}
use Rattle.pt_shell.specs.declared.answer.Answer.{Answer}

-- the answer is of this kind, and what it holds is so
abbrev pub IfNumber : Option Answer → (Option ℕ → Type 0) → Type 0
IfNumber (Some (Answer.Number n)) P = P n
IfNumber _ P = ⊥

abbrev pub IfTruth : Option Answer → (Option Bool → Type 0) → Type 0
IfTruth (Some (Answer.Truth b)) P = P b
IfTruth _ P = ⊥

-- a truth of a pid: no desk of it is asked for
abbrev pub IfTrue : Option Answer → (Bool → Type 0) → Type 0
IfTrue (Some (Answer.Truth (Some b))) P = P b
IfTrue _ P = ⊥

abbrev pub IfIds : Option Answer → (Option Ids → Type 0) → Type 0
IfIds (Some (Answer.Ids ids)) P = P ids
IfIds _ P = ⊥

abbrev pub IfEvent : Option Answer → (Option Stamped → Type 0) → Type 0
IfEvent (Some (Answer.Event e)) P = P e
IfEvent _ P = ⊥

abbrev pub IfReason : Option Answer → (Option Reason → Type 0) → Type 0
IfReason (Some (Answer.Reason r)) P = P r
IfReason _ P = ⊥

abbrev pub IfAccount : Option Answer → (Option Account → Type 0) → Type 0
IfAccount (Some (Answer.Account a)) P = P a
IfAccount _ P = ⊥

-- the items, or there was no memory for them
abbrev pub IfItems : Option Answer → (Option (List Item) → Type 0) → Type 0
IfItems (Some (Answer.Items items)) P = P (option_map (λ v. v.items) items)
IfItems (Some Answer.NoMemory) P = Unit {0}
IfItems _ P = ⊥

-- the events, or there was no memory for them; or the node has no such desk
abbrev pub IfEvents : Option Answer → (List Stamped → Type 0) → Type 0 → Type 0
IfEvents (Some (Answer.Events events)) P Q = P events.items
IfEvents (Some Answer.Unknown) P Q = Q
IfEvents (Some Answer.NoMemory) P Q = Unit {0}
IfEvents _ P Q = ⊥

abbrev pub IfLetters : Option Answer → (List LeftOver → Type 0) → Type 0
IfLetters (Some (Answer.Letters letters)) P = P letters.items
IfLetters (Some Answer.NoMemory) P = Unit {0}
IfLetters _ P = ⊥

abbrev pub IfPids : Option Answer → (List Pid → Type 0) → Type 0
IfPids (Some (Answer.Pids pids)) P = P pids.items
IfPids (Some Answer.NoMemory) P = Unit {0}
IfPids _ P = ⊥

-- a call that such a node does not allow
abbrev pub IsNotNow : Option Answer → Type 0
IsNotNow a = a ≡ None

-- the event of a desk that has the stamp: the first that has both
abbrev pub event_in : List Stamped → ℕ → ℕ → Option Stamped
event_in events desk stamp = find (λ (e : Stamped). e.desk == desk && e.stamp == stamp) events

-- whether a process that is read has the monitor open, or keeps the watch
abbrev pub is_watching : Option (Pid × ProcessState) → Ref → Bool
is_watching None m = false
is_watching (Some x) m = is_some (lookup (same_ref m) x.1.watching)

abbrev pub is_kept : Option (Pid × ProcessState) → Ref → Bool
is_kept None m = false
is_kept (Some x) m = list_any (λ k. same_ref m k.0) x.1.kept

abbrev pub process_on_desk : Pid → DeskState → Option (Pid × ProcessState)
process_on_desk p x = cond (lives x.shard p) (Some (p, state_in x.shard p)) None

-- what is read of a node that runs; what is read of another one alone is not answered
abbrev pub LooksAtNode : Look → List DeskState → Option Answer → Type 0
LooksAtNode (Look.Clock d) desks a = IfNumber a (ReadsAt d (λ x. Some x.shard.clock) None desks)
LooksAtNode (Look.Pending d) desks a =
    IfNumber a (ReadsAt d (λ x. Some (min (count_pending x.shard) (2 ^ 64 - 1))) None desks)
LooksAtNode (Look.Journal d) desks a =
    IfEvents a (λ events. ReadsAt d (λ x. Some (reverse x.shard.journal)) None desks (Some events)) (length desks ≤ d)
LooksAtNode (Look.Event d stamp) desks a =
    ReadsAt d (λ x. Some (Answer.Event (event_in (reverse x.shard.journal) d stamp))) (Some Answer.Unknown) desks a
LooksAtNode Look.Events desks a = IfNumber a (λ n. n ≡ Some (min (count_events desks) (2 ^ 64 - 1)))
LooksAtNode (Look.Vacant d) desks a =
    ReadsAt d (λ x. Some (Answer.Pid x.shard.vacant)) (Some Answer.Unknown) desks a
LooksAtNode (Look.Alive p) desks a = IfTrue a (ReadsAt p.shard (λ x. lives x.shard p) false desks)
LooksAtNode (Look.Knows d p) desks a = IfTruth a (ReadsAt d (λ x. Some (knows x.shard p)) None desks)
LooksAtNode (Look.Waiting p) desks a =
    IfItems a (ReadsAt p.shard (λ x. cond (lives x.shard p) (Some (state_in x.shard p).waiting) None) None desks)
LooksAtNode (Look.Linked p q) desks a =
    IfIds a (ReadsAt p.shard (λ x. cond (lives x.shard p) (held_by x.shard p q) None) None desks)
LooksAtNode (Look.Watching p m) desks a =
    IfTrue a (ReadsAt p.shard (λ x. is_watching (process_on_desk p x) m) (is_watching None m) desks)
LooksAtNode (Look.Kept p m) desks a =
    IfTrue a (ReadsAt p.shard (λ x. is_kept (process_on_desk p x) m) (is_kept None m) desks)
LooksAtNode _ desks a = IsNotNow a
