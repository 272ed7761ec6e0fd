-- The latest ends of the desks, one desk after the other.
use Rattle.std.proofs.Common.{◌≡◌, ℕ, zero, suc, ◌+◌, ◌<◌, List, [], ◌∷◌, ◌++◌, length, map, take, get_or, append_assoc, append-nil, sym, ap, ◌∙◌, arith}
use Rattle.pt_signal.specs.declared.pid.Pid.{Pid}
use Rattle.pt_accounts.specs.DeskLives.{DeskTable, latest_ends}
use Rattle.pt_gathered.specs.Quiet.{ends_of}

abbrev of_desk : ℕ → DeskTable → List (Pid × ℕ)
of_desk n t = map (λ p. (p, n)) (latest_ends t)

pub ends_more : (n : ℕ) (ts : List DeskTable) (k : ℕ) (t : DeskTable) → k < length ts → t ≡ get_or ts k t → ends_of n (take (k + 1) ts) ≡ ends_of n (take k ts) ++ map (λ p. (p, n)) (latest_ends t)
ends_more n [] k t h e = absurd (omega arith)
ends_more n (x ∷ ts) zero t h e = append-nil (of_desk n x) ∙ ap (of_desk n) (sym e)
ends_more n (x ∷ ts) (suc k) t h e =
    let next : suc k + 1 ≡ suc (k + 1) = omega arith in
    ap (λ m. ends_of n (take m (x ∷ ts))) next ∙ ap (λ z. of_desk n x ++ z) (ends_more n ts k t (omega arith) e) ∙ sym (append_assoc (of_desk n x) (ends_of n (take k ts)) (of_desk n t))
