-- The histories of epochs, one after the other, are one history.
use Rattle.std.proofs.Common.{ℕ, suc, List, [], ◌++◌, refl, sym, subst}
use Rattle.pt_events.specs.declared.event.Stamped.{Stamped}
use Rattle.pt_desk.specs.DeskState.{DeskState}
use Rattle.pt_node.specs.Pasts.{GoOnFrom, IsOneHistory}
use Rattle.pt_node.proofs.Pasts.{go_on_past, nothing_yet, one_after}
use Rattle.example_uses.specs.Epochs.{Epoch, PassAsOne, Passes}

module _ {W A : Type 0} (Runs : List (DeskState × W) → List (DeskState × W) → Type 0) (Keeps : A → List Stamped → A → Type 0) where
  -- to run changes nothing of what the desks go on from
  passes_whole : (history : List Stamped) (old new : Epoch W A) → Passes Runs Keeps history old new → IsOneHistory history old.desks new.desks
  passes_whole history old new p past from =
      let r = p.runs in
      p.ends.whole past (subst (GoOnFrom past) r.ended.firsts (go_on_past r.before r.after r.each past (subst (GoOnFrom past) (sym r.begun.firsts) from)))

  pub none_passed : (old : Epoch W A) → PassAsOne Runs Keeps 0 old old
  none_passed old = record { history = []; passed = (refl, refl); whole = nothing_yet old.desks }

  pub one_more : (n : ℕ) (old mid new : Epoch W A) (history : List Stamped) → PassAsOne Runs Keeps n old mid → Passes Runs Keeps history mid new → PassAsOne Runs Keeps (suc n) old new
  one_more n old mid new history all last = record {
    history = all.history ++ history;
    passed = (all.history, history, mid, refl, all.passed, last);
    whole = one_after all.history history old.desks mid.desks new.desks all.whole (passes_whole history mid new last);
  }
