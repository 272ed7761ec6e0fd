-- What a process does with the ledger of its desk. No public clause cites this module.
use Rattle.std.specs.Prelude.{◌≡◌, ℕ, ◌+◌, ◌<◌, ◌≤◌, max, Bool, List, [], ◌∷◌, length, map, Option, Some, None}
use Rattle.std.specs.Prelude.{Result, Ok, Err, ⊤}
use Rattle.std.specs.Bool.{then_some}
use Rattle.std.specs.List.{find}
use Rattle.std.specs.Map.{lookup}
use Rattle.std.specs.Option.{option_to_list, option_map}
use Rattle.pt_signal.specs.declared.pid.Pid.{Pid}
use Rattle.pt_signal.specs.declared.ids.LinkId.{LinkId}
use Rattle.pt_signal.specs.declared.ids.Ref.{Ref}
use Rattle.pt_signal.specs.declared.item.Pick.{Pick}
use Rattle.pt_signal.specs.declared.letter.Letter.{Letter}
use Rattle.pt_signal.specs.declared.reason.Reason.{Reason}
use Rattle.pt_signal.specs.declared.signal.Signal.{Signal}
use Rattle.pt_signal.specs.declared.signal.Signal.TheVariants.{Unlink, Demonitor}
use Rattle.pt_signal.specs.Values.{fits, same_ref, without_first}
use Rattle.pt_signal.specs.Process.{ProcessState, held, say, sent, handle}
use Rattle.pt_events.specs.declared.event.Event.{Event}
use Rattle.pt_events.specs.declared.event.Event.TheVariants.{Said, Took, Flag}
use Rattle.pt_events.specs.Journal.{letter}
use Rattle.pt_signal.specs.declared.config.TheConstants.{MAX_STAMP}
use Rattle.pt_process.specs.ProcessView.{ProcessView, Owing}
use Rattle.pt_process.specs.Peers.{peers_held}
use Rattle.pt_shard.specs.declared.fault.Fault.{Fault}
use Rattle.pt_shard.specs.declared.fault.Fault.TheVariants as fault
use Rattle.pt_shard.specs.declared.stop.Stop.{Stop}
use Rattle.pt_shard.specs.declared.stop.Stop.TheVariants.{Memory, Worn}
use Rattle.pt_shard.specs.ShardState.{came_event}
use Rattle.pt_shard.specs.Backs.{living_back}
use Rattle.pt_shard.specs.Calls.{if_asked}
use Rattle.pt_shard.specs.declared.loss.Loss.TheVariants.{Exited}
use Rattle.pt_shard.specs.Losses.{stray}
use Rattle.pt_shard.specs.LedgerState.{Book, LedgerState, wrote, losing, HasRoomToAll, HasLossRoom}
use Rattle.pt_shard.specs.Processes.{ProcessesState, Ends}
use Rattle.pt_shard.specs.Sound.{Every}

-- what an event of its own makes of a process
abbrev pub done : Event → ProcessState → ProcessState
done (Said p to x) s = say s to x
done (Took p k i) s = record s { waiting = without_first (fits k) s.waiting }
done (Flag p on) s = record s { traps = on }
done _ s = s

-- what it sends by it, stamped n
abbrev pub posted : ℕ → Event → List Letter
posted n (Said p to x) = letter n (sent p to x) ∷ []
posted n _ = []

-- the id and the reference that the next event makes
abbrev pub link_after : Book → LinkId
link_after b = record { desk = b.desk; number = b.clock + 1 }

abbrev pub ref_after : Book → Ref
ref_after b = record { desk = b.desk; number = b.clock + 1 }

-- the event by which a process does what it is asked, or none where there is nothing to do -------------

-- it takes the first item that fits
abbrev pub taking : Pid → Pick → ProcessState → Option Event
taking p k s = option_map (Took p k) (find (fits k) s.waiting)

-- it takes the link back that it holds with the target
abbrev pub unlinking : Pid → Pid → ProcessState → Option Event
unlinking p to s = option_map (λ ids. Said p to (Unlink ids)) (held s.links to)

abbrev pub giving_up_at : Option Pid → Pid → Ref → Bool → ProcessState → Option Event
giving_up_at (Some t) w m flush s = Some (Said w t (Demonitor m))
giving_up_at None w m flush s = if_asked flush (taking w (Pick.DownOf m) s)

-- it gives an open monitor up; of a closed one it takes a DOWN that waits, where that was asked
abbrev pub giving_up : Pid → Ref → Bool → ProcessState → Option Event
giving_up w m flush s = giving_up_at (lookup (same_ref m) s.watching) w m flush s

-- what a process does, and what that leaves ----------------------------------------------------------

-- nothing changed but for room
abbrev pub HasOnlyMoreRoom : ProcessView → LedgerState → ProcessView → LedgerState → Type 0
HasOnlyMoreRoom r l r' l' = (r'.me ≡ r.me) × (r'.state ≡ r.state) × (l'.book ≡ l.book)

-- it wrote that event, if any, and answers so
abbrev pub Acts : {A : Type 0} → Option Event → A → ProcessView → LedgerState → Result A Fault → ProcessView
    → LedgerState → Type 0
Acts None answer r l (Ok a) r' l' = (a ≡ answer) × HasOnlyMoreRoom r l r' l'
Acts None answer r l (Err f) r' l' = ⊥
Acts (Some e) answer r l (Ok a) r' l' =
    (l.book.clock < MAX_STAMP) × (a ≡ answer) × (r'.me ≡ r.me) × (r'.state ≡ done e r.state)
    × (l'.book ≡ wrote (l.book.clock + 1) e (posted (l.book.clock + 1) e) l.book)
Acts (Some e) answer r l (Err fault.Worn) r' l' = (MAX_STAMP ≤ l.book.clock) × HasOnlyMoreRoom r l r' l'
Acts (Some e) answer r l (Err fault.Memory) r' l' = (l.book.clock < MAX_STAMP) × HasOnlyMoreRoom r l r' l'
Acts (Some e) answer r l (Err fault.Gone) r' l' = ⊥
Acts (Some e) answer r l (Err fault.Full) r' l' = ⊥
Acts (Some e) answer r l (Err fault.Myself) r' l' = ⊥
Acts (Some e) answer r l (Err fault.NoProc) r' l' = ⊥

-- that event, which changes nothing in its process, was written, and it answers so
abbrev pub Tells : {A : Type 0} → Event → A → LedgerState → Result A Fault → LedgerState → Type 0
Tells e answer l (Ok a) l' =
    (l.book.clock < MAX_STAMP) × (a ≡ answer)
    × (l'.book ≡ wrote (l.book.clock + 1) e (posted (l.book.clock + 1) e) l.book)
Tells e answer l (Err fault.Worn) l' = (MAX_STAMP ≤ l.book.clock) × (l'.book ≡ l.book)
Tells e answer l (Err fault.Memory) l' = (l.book.clock < MAX_STAMP) × (l'.book ≡ l.book)
Tells e answer l (Err fault.Gone) l' = ⊥
Tells e answer l (Err fault.Full) l' = ⊥
Tells e answer l (Err fault.Myself) l' = ⊥
Tells e answer l (Err fault.NoProc) l' = ⊥

-- the process takes one more link without memory, where there is one
abbrev pub HasRoomIf : Option LinkId → ProcessView → Type 0
HasRoomIf None r = ⊤
HasRoomIf (Some i) r = 0 < r.room

-- there is room for a birth, with the link that is asked for
abbrev pub PreparesBirth : Bool → ProcessView → LedgerState → Result (Option LinkId) Fault → ProcessView → LedgerState
    → Type 0
PreparesBirth linked r l (Ok link) r' l' =
    (l.book.clock < MAX_STAMP) × (link ≡ then_some linked (link_after l.book)) × HasOnlyMoreRoom r l r' l'
    × (0 < l'.room) × HasRoomIf link r'
PreparesBirth linked r l (Err fault.Worn) r' l' = (MAX_STAMP ≤ l.book.clock) × HasOnlyMoreRoom r l r' l'
PreparesBirth linked r l (Err fault.Memory) r' l' = (l.book.clock < MAX_STAMP) × HasOnlyMoreRoom r l r' l'
PreparesBirth linked r l (Err fault.Gone) r' l' = ⊥
PreparesBirth linked r l (Err fault.Full) r' l' = ⊥
PreparesBirth linked r l (Err fault.Myself) r' l' = ⊥
PreparesBirth linked r l (Err fault.NoProc) r' l' = ⊥

-- a letter could not be handled
abbrev pub IsStopped : Letter → Stop → ProcessView → LedgerState → ProcessView → LedgerState → Type 0
IsStopped x Worn r l r' l' = (MAX_STAMP ≤ max l.book.clock x.stamp) × HasOnlyMoreRoom r l r' l'
IsStopped x Memory r l r' l' = (max l.book.clock x.stamp < MAX_STAMP) × HasOnlyMoreRoom r l r' l'

-- the letter did to it what its signal does, and its answer is sent
abbrev pub TakesIn : Letter → ProcessView → LedgerState → Result (Unit {0}) Stop → ProcessView → LedgerState → Type 0
TakesIn x r l (Ok _) r' l' =
    (max l.book.clock x.stamp < MAX_STAMP) × (r'.me ≡ r.me) × (r'.state ≡ (handle r.me r.state x.from x.signal).state)
    × (l'.book
    ≡ wrote (max l.book.clock x.stamp + 1) (came_event x)
    (map (letter (max l.book.clock x.stamp + 1)) (map (sent x.to x.from) (option_to_list (living_back x.signal))))
    l.book)
TakesIn x r l (Err s) r' l' = IsStopped x s r l r' l'

-- that goes back, if anything, from where the letter came to
abbrev pub GivesBack : Letter → Option Signal → LedgerState → Result (Unit {0}) Stop → LedgerState → Type 0
GivesBack x back l (Ok _) l' =
    (max l.book.clock x.stamp < MAX_STAMP)
    × (l'.book
    ≡ wrote (max l.book.clock x.stamp + 1) (came_event x)
    (map (letter (max l.book.clock x.stamp + 1)) (map (sent x.to x.from) (option_to_list back))) l.book)
GivesBack x back l (Err Worn) l' = (MAX_STAMP ≤ max l.book.clock x.stamp) × (l'.book ≡ l.book)
GivesBack x back l (Err Memory) l' = (max l.book.clock x.stamp < MAX_STAMP) × (l'.book ≡ l.book)

-- the same where nobody is alive: a message is lost
abbrev pub Bounces : Letter → Option Signal → LedgerState → Result (Unit {0}) Stop → LedgerState → Type 0
Bounces x back l (Ok _) l' =
    (max l.book.clock x.stamp < MAX_STAMP)
    × (l'.book
    ≡ losing (stray x.to x.from x.signal) (wrote (max l.book.clock x.stamp + 1) (came_event x)
    (map (letter (max l.book.clock x.stamp + 1)) (map (sent x.to x.from) (option_to_list back))) l.book))
Bounces x back l (Err Worn) l' = (MAX_STAMP ≤ max l.book.clock x.stamp) × (l'.book ≡ l.book)
Bounces x back l (Err Memory) l' = (max l.book.clock x.stamp < MAX_STAMP) × (l'.book ≡ l.book)

-- the letter did to it what its signal does, and what it owed before finds room
abbrev pub PreparesEnding : Letter → ProcessView → LedgerState → Result (Unit {0}) Stop → ProcessView → LedgerState
    → Type 0
PreparesEnding x r l (Ok _) r' l' =
    (max l.book.clock x.stamp < MAX_STAMP) × (r'.me ≡ r.me) × (r'.state ≡ (handle r.me r.state x.from x.signal).state)
    × (l'.book ≡ l.book) × (0 < l'.room) × HasRoomToAll (peers_held r.state) l' × HasLossRoom l'
PreparesEnding x r l (Err s) r' l' = IsStopped x s r l r' l'

-- whatever the process p is found to owe at its end with this reason comes from it, and finds room
abbrev pub IsReadyToEnd : Pid → Reason → ProcessesState → LedgerState → Type 0
IsReadyToEnd p reason processes l =
    (after : ProcessesState) (owing : Owing) → after.desk ≡ processes.desk
    → Ends p reason owing processes.table after.table
    → (owing.from ≡ p) × Every (λ x. x.to.shard < length l.book.outbox) owing.owed
    × HasRoomToAll (map (λ x. x.to) owing.owed) l

-- the receiver ended by the letter with this reason, and what it owed is sent
abbrev pub EndsBy : Letter → Reason → ProcessesState → LedgerState → ProcessesState → LedgerState → Type 0
EndsBy x reason processes l processes' l' =
    (owing : Owing) × (processes'.desk ≡ processes.desk) × Ends x.to reason owing processes.table processes'.table
    × (l'.book
    ≡ losing (Some (Exited x.to reason owing.waiting)) (wrote (max l.book.clock x.stamp + 1) (came_event x)
    (map (letter (max l.book.clock x.stamp + 1)) owing.owed) l.book))
