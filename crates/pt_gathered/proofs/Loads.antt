-- A receipt lowers the load.
use Rattle.std.proofs.Common.{◌≡◌, ℕ, ◌+◌, ◌<◌, ◌≤◌, ◌==◌, ◌&&◌, Bool, true, false, cond, [], ◌++◌, length, drop, refl, sym, ap, ◌∙◌, arith}
use Rattle.std.proofs.lemmas.Bool.{eqb-true}
use Rattle.pt_signal.specs.declared.letter.Letter.{Letter}
use Rattle.pt_laws.specs.Load.{load_by_desk, IsStart}
use Rattle.pt_laws.specs.LoadLaws as laws
use Rattle.pt_laws.proofs.DeskLoads.{receipt_lowers}
use Rattle.pt_gathered.specs.Gathered.{GatheredState, begins, journals, over, over_in}
use Rattle.pt_gathered.specs.Settling.{load_of, receipt, replies_to, Receives}
use Rattle.pt_gathered.proofs.Overs.{over_both}

module _ (old new : GatheredState) (d e : ℕ) (l : Letter) (r : Receives d e l old new) (d_in : d < length old.shards) (e_in : e < length old.shards) where
  -- the lanes in range, with the oldest letter taken out
  taken : (i k : ℕ) → i < length old.shards → k < length old.shards
      → cond ((i == d) && (k == e)) (drop 1 (over_in old.shards old.lanes i k)) (over_in old.shards old.lanes i k)
      ≡ cond ((i == d) && (k == e)) (drop 1 (over_in old.shards old.lanes d e)) (over old i k)
  taken i k hi hk = go (i == d) refl (k == e) refl
    where
      go : (p : Bool) → (i == d) ≡ p → (q : Bool) → (k == e) ≡ q
          → cond ((i == d) && (k == e)) (drop 1 (over_in old.shards old.lanes i k)) (over_in old.shards old.lanes i k)
          ≡ cond ((i == d) && (k == e)) (drop 1 (over_in old.shards old.lanes d e)) (over old i k)
      go true p true q = rw (p, q) (ap (λ z. drop 1 (over_in old.shards old.lanes z k)) (eqb-true i d p) ∙ ap (λ z. drop 1 (over_in old.shards old.lanes d z)) (eqb-true k e q))
      go true p false q = rw (p, q) (sym (over_both old i k hi hk))
      go false p b q = rw p (sym (over_both old i k hi hk))

  is_receipt : laws.OldestComes (begins old) (length old.shards) d e l (receipt old.config.start e l (journals old e)) (journals old) (journals new) (over old) (over new)
  is_receipt = record {
    rest = drop 1 (over_in old.shards old.lanes d e);
    oldest = over_both old d e d_in e_in ∙ r.first;
    there = r.to;
    comes = refl;
    journals = r.journal;
    lanes = λ i k hi hk.
        over_both new i k (omega (arith, hi, r.count)) (omega (arith, hk, r.count)) ∙ r.left i k hi hk
        ∙ ap (λ z. z ++ cond (i == e) (replies_to (begins old) old.config.start e l (journals old e) k) []) (taken i k hi hk);
  }

  pub load_lowered : IsStart (begins old) → load_of new + 1 ≤ load_of old
  load_lowered once =
      let lower = receipt_lowers (begins old) once (length old.shards) d e l (receipt old.config.start e l (journals old e)) (journals old) (journals new) (over old) (over new) is_receipt d_in e_in in
      let same : load_of new ≡ load_by_desk (begins old) (journals new) (over new) (length old.shards)
      = ap (load_by_desk (begins new) (journals new) (over new)) r.count ∙ ap (λ b. load_by_desk b (journals new) (over new) (length old.shards)) r.start in
      omega arith
