-- Who finds nothing that it waits for, and to whom nothing comes, finds nothing still.
use Rattle.std.proofs.Common.{◌≡◌, Bool, true, false, Option, Some, None, refl, sym, ap, ◌∙◌}
use Rattle.std.specs.Prelude.{is_some}
use Rattle.std.specs.List.{find}
use Rattle.pt_signal.specs.declared.pid.Pid.{Pid}
use Rattle.pt_signal.specs.declared.item.Pick.{Pick}
use Rattle.pt_signal.specs.Values.{fits}
use Rattle.pt_events.specs.History.{Phase, unborn, living, ended, is_living, is_unborn, state_of}
use Rattle.pt_shard.specs.Calls.{first_match}
use Rattle.pt_shard.specs.Extends.{Extends}
use Rattle.pt_shard.specs.ShardState.{ShardState, lives, phase_of}
use Rattle.pt_workers.specs.Waking.{came_in, need_not_wait}
use Rattle.pt_workers.proofs.Waiting.{need_not_before, born_later}

-- who lives and finds nothing that k fits, and to whom nothing came, lives still and finds nothing
is_none : {X : Type 0} (o : Option X) → is_some o ≡ false → o ≡ None
is_none None h = refl
is_none (Some x) h = absurd (cc)

waiting_lives : (k : Pick) (f : Phase) → need_not_wait k f ≡ false → is_unborn f ≡ false → (is_living f ≡ true) × (find (fits k) (state_of f).waiting ≡ None)
waiting_lives k unborn w b = absurd (cc)
waiting_lives k (living s) w b = (refl, is_none (find (fits k) s.waiting) w)
waiting_lives k (ended r s) w b = absurd (cc)

lives_waiting : (k : Pick) (f : Phase) → is_living f ≡ true → find (fits k) (state_of f).waiting ≡ None → (need_not_wait k f ≡ false) × (is_unborn f ≡ false)
lives_waiting k unborn a n = absurd (cc)
lives_waiting k (living s) a n = (ap is_some n, refl)
lives_waiting k (ended r s) a n = absurd (cc)

waits_later : (old new : ShardState) (e : Extends old new) (k : Pick) (p : Pid) → came_in p e.more ≡ false → need_not_wait k (phase_of old p) ≡ false → need_not_wait k (phase_of new p) ≡ false
waits_later old new e k p none was = go (need_not_wait k (phase_of new p)) refl
  where
    go : (b : Bool) → need_not_wait k (phase_of new p) ≡ b → need_not_wait k (phase_of new p) ≡ false
    go false is = is
    go true is = absurd (let w : true ≡ false = sym (need_not_before old new e k p none is) ∙ was in cc)

pub finds_nothing_later : (old new : ShardState) (e : Extends old new) (k : Pick) (p : Pid) → came_in p e.more ≡ false → lives old p ≡ true → first_match old p k ≡ None → (lives new p ≡ true) × (first_match new p k ≡ None)
finds_nothing_later old new e k p none alive nothing =
    let was = lives_waiting k (phase_of old p) alive nothing in
    waiting_lives k (phase_of new p) (waits_later old new e k p none was.0) (born_later old new e p was.1)
