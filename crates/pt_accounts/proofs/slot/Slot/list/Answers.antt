-- `Slot::list`: its loop over `place`.
use Rattle.std.proofs.Common.{◌≡◌, ◌∙◌, ◌++◌, ◌∷◌, [], ◌+◌, List, ap, sym, subst, arith, take, length, append_assoc}
use Rattle.pt_signal.specs.declared.pid.Pid.{Pid}
use Rattle.pt_accounts.specs.LifeState.{LifeState}
use Rattle.pt_accounts.specs.Pids.{pid_of_slot}
use Rattle.pt_accounts.specs.SlotState.{lives_of}
use Rattle.pt_accounts.specs.DeskLives.{pids_of}
use Rattle.pt_accounts.proofs.SlotLives.{pid_more}
use Rattle.pt_accounts.proofs.slot.Slot.list.Goals as goal

pub loop-place-preserved : goal.loop-place-preserved
loop-place-preserved c =
    let s = c.self.inside in
    let k = c.loop-place.place in
    let p : Pid = pid_of_slot s.desk s.slot (k + 1) in
    let n : length (lives_of s.desk s.slot s.forgotten.listed s.ended.items s.newest) ≡ length c.args.self.now = ap length c.self.view_is in
    let l = c.len-place-end.ensures.len in
    let more : pids_of (take (k + 1) c.args.self.now) ≡ pids_of (take k c.args.self.now) ++ p ∷ [] =
    subst (λ (xs : List LifeState). pids_of (take (k + 1) xs) ≡ pids_of (take k xs) ++ p ∷ []) c.self.view_is
    (pid_more s.desk s.slot (length s.forgotten.listed + s.forgotten.room) s.forgotten.listed s.ended.items s.newest c.self.invariant k (omega arith))
    in
    c.in_ok-push.ensures.items ∙ ap (λ z. z ++ p ∷ []) c.loop-place.invariant ∙ append_assoc c.args.pids.now.items (pids_of (take k c.args.self.now)) (p ∷ []) ∙ ap (λ z. c.args.pids.now.items ++ z) (sym more)
