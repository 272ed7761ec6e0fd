-- Lists of letters, one for each desk.
use Rattle.std.proofs.Common.{◌≡◌, ℕ, ◌+◌, ◌<◌, List, [], ◌∷◌, ◌++◌, length, take, get_or, refl, sym, ap, ◌∙◌, length-append, arith}
use Rattle.std.proofs.lemmas.List.Elements.{All-nil, All-cons}
use Rattle.std.proofs.lemmas.List.Sums.{sum_by-set}
use Rattle.pt_signal.specs.declared.letter.Letter.{Letter}
use Rattle.pt_carrier.specs.Lanes.{AllGo}
use Rattle.pt_signal.specs.Boxes.{one_more}
use Rattle.pt_carrier.specs.Ends.{more_of}
use Rattle.pt_shard.specs.Fit.{AreBetween}
use Rattle.pt_desk.specs.Posting.{total}

-- how many letters there are when more join a list
pub total_more : (lists : List (List Letter)) (k : ℕ) (ls : List Letter) → k < length lists → total (more_of lists k ls) ≡ total lists + length ls
total_more lists k ls h =
    let t = sum_by-set length lists k (get_or lists k [] ++ ls) [] h in
    omega (arith, t, length-append (get_or lists k []) ls)

-- the front of a list that is its one first element
take_one : (ls : List Letter) (d : Letter) → 0 < length ls → take 1 ls ≡ get_or ls 0 d ∷ []
take_one [] d h = absurd (omega arith)
take_one (l ∷ ls) d h = refl

pub one_first : (lists : List (List Letter)) (k : ℕ) (ls waiting : List Letter) (d : Letter) → ls ≡ waiting → 0 < length waiting → one_more lists k (get_or ls 0 d) ≡ more_of lists k (take 1 waiting)
one_first lists k ls waiting d is some =
    ap (λ z. one_more lists k (get_or z 0 d)) is ∙ ap (more_of lists k) (sym (take_one waiting d some))

-- letters between two desks, one by one
pub all_go : (d e : ℕ) (ls : List Letter) → AreBetween d e ls → AllGo d e ls
all_go d e [] h = All-nil (λ (l : Letter). (l.from.shard ≡ d) × (l.to.shard ≡ e))
all_go d e (l ∷ ls) h = All-cons (λ (l : Letter). (l.from.shard ≡ d) × (l.to.shard ≡ e)) l ls h.0 (all_go d e ls h.1)
