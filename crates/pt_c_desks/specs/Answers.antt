-- What a call answers C, and what it leaves.
use Rattle.std.specs.Prelude.{◌≡◌, ℕ, Bool, true, false, List, Option, Some, None}
use Rattle.std.specs.Prelude.{Result, Ok, is_some}
use Rattle.pt_signal.specs.declared.pid.Pid.{Pid}
use Rattle.pt_signal.specs.declared.ids.Ref.{Ref}
use Rattle.pt_signal.specs.declared.item.Body.{Body}
use Rattle.pt_signal.specs.declared.signal.Signal.{Signal}
use Rattle.pt_events.specs.declared.event.Event.{Event}
use Rattle.pt_events.specs.declared.event.Stamped.{Stamped}
use Rattle.pt_signal.specs.declared.letter.LeftOver.{LeftOver}
use Rattle.pt_shard.specs.declared.fault.Fault.{Fault}
use Rattle.pt_shard.specs.ShardState.{lives, state_in}
use Rattle.pt_shard.specs.Known.{knows}
use Rattle.pt_shard.specs.Calls.{Calls, Monitors, Bears, BearsChild, link_event, unlink_event, first_match}
use Rattle.pt_shard.specs.Calls.{take_event, demonitor_event, new_ref}
use Rattle.pt_desk.specs.declared.turned.Turned.{Turned}
use Rattle.pt_desk.specs.DeskState.{DeskState, HasSameEnds, GoesOn}
use Rattle.pt_desk.specs.Reaching.{Reaches, has_link_to_make, has_monitor_to_make}
use Rattle.pt_desk.specs.Turns.{Turns}
use Rattle.pt_c_values.specs.declared.types.PtPid.{PtPid}
use Rattle.pt_c_values.specs.declared.types.PtRef.{PtRef}
use Rattle.pt_c_values.specs.declared.types.PtItem.{PtItem}
use Rattle.pt_c_values.specs.declared.types.PtTurned.{PtTurned}
use Rattle.pt_c_values.specs.declared.types.PtPick.{PtPick}
use Rattle.pt_c_values.specs.declared.types.PtReason.{PtReason}
use Rattle.pt_c_values.specs.Codes.{GivesCode, IfCrosses, code_at, found_code, unknown}
use Rattle.pt_c_values.specs.Crossing.{pid_out, ref_out, item_out, pick_in, reason_in, turned_out}

-- what is passed out ---------------------------------------------------------------------

abbrev pub found_or : {A B : Type 0} → (A → B) → B → Result (Option A) Fault → B
found_or f before (Ok (Some a)) = f a
found_or f before _ = before

-- an answer that P allows, as its code
abbrev pub AnswersCode : ℕ → (Result (Unit {0}) Fault → Type 0) → Type 0
AnswersCode code P = (r : Result (Unit {0}) Fault) × (code ≡ code_at r) × P r

-- the same where an answer has a value, or is that there is none
abbrev pub FindsCode : {A B : Type 0} → ℕ → B → B → (A → B) → (Result (Option A) Fault → Type 0) → Type 0
FindsCode {A} code before after f P =
    (r : Result (Option A) Fault) × (code ≡ found_code r) × (after ≡ found_or f before r) × P r

-- the calls ------------------------------------------------------------------------------

-- what a call that does not look at other desks keeps of a desk
abbrev pub StaysOnDesk : DeskState → DeskState → Type 0
StaysOnDesk old new = HasSameEnds old new × (new.sight ≡ old.sight) × GoesOn old new

-- and one that does
abbrev pub LooksOnDesk : DeskState → DeskState → Type 0
LooksOnDesk old new = HasSameEnds old new × GoesOn old new

-- a call whose target the desk may not know: the code says that it does not, and nothing has changed
abbrev pub IfKnownCode : Bool → ℕ → Type 0 → Type 0 → Type 0
IfKnownCode true code kept P = P
IfKnownCode false code kept P = (code ≡ unknown) × kept

unfoldable pub SpawnsOnDesk : ℕ → PtPid → PtPid → DeskState → DeskState → Type 0
SpawnsOnDesk code before after old new =
    GivesCode code before after pid_out (λ r. Bears None None old.shard r new.shard) × StaysOnDesk old new

unfoldable pub SpawnsChild : Pid → Bool → ℕ → PtPid → PtPid → DeskState → DeskState → Type 0
SpawnsChild parent linked code before after old new =
    GivesCode code before after pid_out (λ r. BearsChild parent linked old.shard r new.shard) × StaysOnDesk old new

unfoldable pub SendsOnDesk : Pid → Pid → Body → ℕ → DeskState → DeskState → Type 0
SendsOnDesk from to body code old new =
    IfKnownCode (knows old.shard to) code (new ≡ old)
    (AnswersCode code (λ r. Reaches (lives old.shard from) from to
    (Calls from (Some (Event.Said from to (Signal.Message body))) tt old.shard r new.shard) old r new)
    × LooksOnDesk old new)

unfoldable pub SendsExit : Pid → Pid → PtReason → ℕ → DeskState → DeskState → Type 0
SendsExit from to reason code old new =
    IfCrosses (reason_in reason) code (new ≡ old) (λ why. IfKnownCode (knows old.shard to) code (new ≡ old)
    (AnswersCode code (λ r. Calls from (Some (Event.Said from to (Signal.Exit why))) tt old.shard r new.shard)
    × StaysOnDesk old new))

unfoldable pub Links : Pid → Pid → ℕ → DeskState → DeskState → Type 0
Links p to code old new =
    IfKnownCode (knows old.shard to) code (new ≡ old)
    (AnswersCode code (λ r. Reaches (has_link_to_make old.shard p to) p to
    (Calls p (link_event old.shard p to) tt old.shard r new.shard) old r new)
    × LooksOnDesk old new)

unfoldable pub Unlinks : Pid → Pid → ℕ → DeskState → DeskState → Type 0
Unlinks p to code old new =
    IfKnownCode (knows old.shard to) code (new ≡ old)
    (AnswersCode code (λ r. Calls p (unlink_event old.shard p to) tt old.shard r new.shard) × StaysOnDesk old new)

unfoldable pub WatchesOnDesk : Pid → Pid → ℕ → PtRef → PtRef → DeskState → DeskState → Type 0
WatchesOnDesk w t code before after old new =
    IfKnownCode (knows old.shard t) code ((new ≡ old) × (after ≡ before))
    (GivesCode code before after ref_out (λ r. Reaches (has_monitor_to_make old.shard w t) w t
    (Monitors w t old.shard r new.shard) old r new)
    × LooksOnDesk old new)

unfoldable pub UnwatchesOnDesk : Pid → Ref → Bool → ℕ → Bool → Bool → DeskState → DeskState → Type 0
UnwatchesOnDesk w m flush code before after old new =
    GivesCode code before after (λ b. b) (λ r. Calls w (demonitor_event old.shard w m flush)
    (is_some (demonitor_event old.shard w m flush)) old.shard r new.shard)
    × StaysOnDesk old new

unfoldable pub AsksOnDesk : Pid → Pid → ℕ → PtRef → PtRef → DeskState → DeskState → Type 0
AsksOnDesk p t code before after old new =
    IfKnownCode (knows old.shard t) code ((new ≡ old) × (after ≡ before))
    (GivesCode code before after ref_out (λ r. Calls p (Some (Event.Said p t (Signal.AliveAsk (new_ref old.shard))))
    (new_ref old.shard) old.shard r new.shard)
    × StaysOnDesk old new)

unfoldable pub Traps : Pid → Bool → ℕ → Bool → Bool → DeskState → DeskState → Type 0
Traps p on code before after old new =
    GivesCode code before after (λ b. b)
    (λ r. Calls p (Some (Event.Flag p on)) (state_in old.shard p).traps old.shard r new.shard)
    × StaysOnDesk old new

unfoldable pub TakesOnDesk : Pid → PtPick → ℕ → PtItem → PtItem → DeskState → DeskState → Type 0
TakesOnDesk p pick code before after old new =
    IfCrosses (pick_in pick) code ((new ≡ old) × (after ≡ before)) (λ fits. FindsCode code before after item_out
    (λ r. Calls p (take_event old.shard p fits) (first_match old.shard p fits) old.shard r new.shard)
    × StaysOnDesk old new)

unfoldable pub Exits : Pid → PtReason → ℕ → DeskState → DeskState → Type 0
Exits p reason code old new =
    IfCrosses (reason_in reason) code (new ≡ old)
    (λ why. AnswersCode code (λ r. Calls p (Some (Event.Left p why)) tt old.shard r new.shard) × StaysOnDesk old new)

unfoldable pub TurnsOnce : ℕ → PtTurned → DeskState → DeskState → Type 0
TurnsOnce budget out old new = (t : Turned) × (out ≡ turned_out t) × Turns budget old t new × GoesOn old new

-- histories ------------------------------------------------------------------------------

pub record HistoryState : Type 0 where
  -- the events of all desks, oldest first
  pub events : List Stamped
  -- the letters that were on their way at its end
  pub left : List LeftOver
