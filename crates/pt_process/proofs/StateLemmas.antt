-- One list of a state changed, or left as it was.
use Rattle.std.proofs.Common.{◌≡◌, ◌≢◌, true, false, cond, List, [], ◌∷◌, ◌++◌, refl, ap, Option, Some, None}
use Rattle.std.specs.List.{list_any}
use Rattle.std.specs.Option.{IfNone}
use Rattle.pt_signal.specs.declared.pid.Pid.{Pid}
use Rattle.pt_signal.specs.declared.ids.Ref.{Ref}
use Rattle.pt_signal.specs.declared.ids.Ids.{Ids}
use Rattle.pt_signal.specs.declared.item.Item.{Item}
use Rattle.pt_signal.specs.Process.{ProcessState, same_watch, keep}

module _ (s : ProcessState) where
  pub waiting_same : (items : List Item) → items ≡ s.waiting → record s { waiting = items } ≡ s
  waiting_same items e = ap (λ (l : List Item). record s { waiting = l }) e

  pub links_same : (links : List (Pid × Ids)) → links ≡ s.links → record s { links = links } ≡ s
  links_same links e = ap (λ (l : List (Pid × Ids)). record s { links = l }) e

  pub links_other : (links : List (Pid × Ids)) → links ≢ s.links → record s { links = links } ≢ s
  links_other links other e = other (ap (λ t. t.links) e)

  pub watching_same : (watching : List (Ref × Pid)) → watching ≡ s.watching → record s { watching = watching } ≡ s
  watching_same watching e = ap (λ (l : List (Ref × Pid)). record s { watching = l }) e

  pub kept_same : (kept : List (Ref × Pid)) → kept ≡ s.kept → record s { kept = kept } ≡ s
  kept_same kept e = ap (λ (l : List (Ref × Pid)). record s { kept = l }) e

  pub kept_set : (old new : List (Ref × Pid)) → old ≡ new → record s { kept = old } ≡ record s { kept = new }
  kept_set old new e = ap (λ (l : List (Ref × Pid)). record s { kept = l }) e

  pub kept_other : (kept : List (Ref × Pid)) → kept ≢ s.kept → record s { kept = kept } ≢ s
  kept_other kept other e = other (ap (λ t. t.kept) e)

pub keep_same : (m : Ref) (w : Pid) (kept : List (Ref × Pid)) → list_any (same_watch m w) kept ≡ true → keep m w kept ≡ kept
keep_same m w kept h = ap (λ b. cond b kept (kept ++ (m, w) ∷ [])) h

pub keep_more : (m : Ref) (w : Pid) (kept : List (Ref × Pid)) → list_any (same_watch m w) kept ≡ false → keep m w kept ≡ kept ++ (m, w) ∷ []
keep_more m w kept h = ap (λ b. cond b kept (kept ++ (m, w) ∷ [])) h

pub IfNone-from : {A : Type 0} (o : Option A) (P : Type 0) → (o ≡ None → P) → IfNone o P
IfNone-from None P f = f refl
IfNone-from (Some a) P f = tt
