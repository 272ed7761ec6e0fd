-- A history and one more event.
use Rattle.std.proofs.Common.{◌≡◌, Bool, false, List, [], ◌∷◌, ◌++◌, reverse}
use Rattle.std.proofs.lemmas.List.{reverse-append}
use Rattle.pt_signal.specs.declared.pid.Pid.{Pid}
use Rattle.pt_signal.specs.declared.item.Pick.{Pick}
use Rattle.pt_signal.specs.declared.item.Item.{Item}
use Rattle.pt_signal.specs.declared.reason.Reason.{Reason}
use Rattle.pt_signal.specs.declared.signal.Signal.{Signal}
use Rattle.pt_events.specs.declared.event.Event.{Event}
use Rattle.pt_events.specs.declared.event.Event.TheVariants.{Said, Came, Took, Flag, Left}
use Rattle.pt_signal.specs.Values.{fits, without_first}
use Rattle.pt_signal.specs.Process.{ProcessState, handle, say}
use Rattle.pt_events.specs.History.{Past, Start, living, ended, life, after, touches, live_or_end}
use Rattle.pt_signal.proofs.Same.{same_pid_refl}

-- a journal in order, with one more event at its end
pub life_push : (start : Start) (h : List Event) (e : Event) (p : Pid) → life start (reverse (h ++ e ∷ [])) p ≡ after p e (life start (reverse h) p)
life_push start h e p = rw (reverse-append h (e ∷ []))

pub untouched : (start : Start) (past : Past) (e : Event) (p : Pid) → touches p e ≡ false → life start (e ∷ past) p ≡ life start past p
untouched start past e p h = rw h

module _ (start : Start) (past : Past) (p : Pid) (s : ProcessState) (lives : life start past p ≡ living s) where
  pub said : (b : Pid) (x : Signal) → life start (Said p b x ∷ past) p ≡ living (say s b x)
  said b x = simp (same_pid_refl, lives)

  pub came : (a : Pid) (x : Signal) → life start (Came a p x ∷ past) p ≡ live_or_end (handle p s a x).ending (handle p s a x).state
  came a x = simp (same_pid_refl, lives)

  pub took : (k : Pick) (i : Item) → life start (Took p k i ∷ past) p ≡ living (record s { waiting = without_first (fits k) s.waiting })
  took k i = simp (same_pid_refl, lives)

  pub flagged : (on : Bool) → life start (Flag p on ∷ past) p ≡ living (record s { traps = on })
  flagged on = simp (same_pid_refl, lives)

  pub left : (r : Reason) → life start (Left p r ∷ past) p ≡ ended r s
  left r = simp (same_pid_refl, lives)
