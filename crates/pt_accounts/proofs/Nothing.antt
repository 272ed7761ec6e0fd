-- A process that owes nothing and has no item waiting holds nothing.
use Rattle.std.proofs.Common.{◌≡◌, List, [], ◌∷◌, ◌++◌, map, length, refl, ap, sym, ◌∙◌, arith}
use Rattle.pt_signal.specs.declared.pid.Pid.{Pid}
use Rattle.pt_signal.specs.declared.ids.Ref.{Ref}
use Rattle.pt_signal.specs.declared.ids.Ids.{Ids}
use Rattle.pt_signal.specs.declared.item.Item.{Item}
use Rattle.pt_signal.specs.declared.reason.Reason.{Reason}
use Rattle.pt_signal.specs.declared.reason.Reason.TheVariants.{Normal}
use Rattle.pt_signal.specs.Process.{ProcessState, Sent, fresh, estate}

none_of : (fs : (Pid × Ids) → Sent) (gs hs : (Ref × Pid) → Sent) (links : List (Pid × Ids)) (kept watching : List (Ref × Pid))
    → length (map fs links ++ map gs kept ++ map hs watching) ≡ 0 → (links ≡ []) × (kept ≡ []) × (watching ≡ [])
none_of fs gs hs [] [] [] e = (refl, refl, refl)
none_of fs gs hs (l ∷ links) kept watching e = absurd (omega arith)
none_of fs gs hs [] (k ∷ kept) watching e = absurd (omega arith)
none_of fs gs hs [] [] (w ∷ watching) e = absurd (omega arith)

no_items : (items : List Item) → length items ≡ 0 → items ≡ []
no_items [] e = refl
no_items (i ∷ items) e = absurd (omega arith)

pub is_nothing : (me : Pid) (s : ProcessState) → ((r : Reason) → 0 ≡ length (estate me s r)) → length s.waiting ≡ 0 → s ≡ record fresh { traps = s.traps }
is_nothing me s owed none =
    let k = none_of _ _ _ s.links s.kept s.watching (sym (owed Normal)) in
    ap (λ (w : List Item). record { waiting = w; links = s.links; watching = s.watching; kept = s.kept; traps = s.traps }) (no_items s.waiting none)
    ∙ ap (λ (l : List (Pid × Ids)). record { waiting = []; links = l; watching = s.watching; kept = s.kept; traps = s.traps }) k.0
    ∙ ap (λ (w : List (Ref × Pid)). record { waiting = []; links = []; watching = w; kept = s.kept; traps = s.traps }) k.2
    ∙ ap (λ (l : List (Ref × Pid)). record { waiting = []; links = []; watching = []; kept = l; traps = s.traps }) k.1
