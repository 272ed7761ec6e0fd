-- Lemmas on what went over a lane, through its ring and past it.
use Rattle.std.proofs.Common.{◌≡◌, ℕ, ◌≤◌, List, [], ◌++◌, map, length, drop, sym, ap, ◌∙◌, arith, append_assoc, append-nil, length-append, length-drop, drop_of_length-le}
use Rattle.std.proofs.lemmas.List.{drop-append-le, map-append, length-map}
use Rattle.pt_signal.specs.declared.letter.Letter.{Letter}
use Rattle.pt_carrier.specs.Lanes.{AllGo, on_lane}
use Rattle.pt_carrier.specs.Bypass.{through}
use Rattle.pt_carrier.proofs.Posting.{all_shown}

-- what goes through the ring comes behind all
pub through_more : (log : List Letter) (count : ℕ) (ring more : List Letter) → count ≤ length ring → through log count (ring ++ more) ≡ through log count ring ++ more
through_more log count ring more h = ap (λ z. log ++ z) (drop-append-le count ring more h) ∙ sym (append_assoc log (drop count ring) more)

pub shown_more : (from to : ℕ) (log : List Letter) (count : ℕ) (ring more : List Letter) → count ≤ length ring
    → map (on_lane from to) (through log count (ring ++ more)) ≡ map (on_lane from to) (through log count ring) ++ map (on_lane from to) more
shown_more from to log count ring more h =
    ap (map (on_lane from to)) (through_more log count ring more h) ∙ map-append (on_lane from to) (through log count ring) more

-- letters go by behind all that went over the lane: nothing comes out of the ring that is not in the log then
pub gone_by : (from to : ℕ) (log : List Letter) (count : ℕ) (ring last letters new_log : List Letter) (new_count : ℕ) → AllGo from to letters
    → new_log ≡ through log count ring ++ letters → new_count ≡ length ring → length last ≤ length ring
    → map (on_lane from to) (through new_log new_count last) ≡ map (on_lane from to) (through log count ring) ++ letters
gone_by from to log count ring last letters new_log new_count names is_log is_count within =
    let shown = map (on_lane from to) in
    let all = through log count ring ++ letters in
    ap (λ (x : List Letter). shown (through x new_count last)) is_log ∙ ap (λ (n : ℕ). shown (through all n last)) is_count
    ∙ ap shown (ap (λ z. all ++ z) (drop_of_length-le last within) ∙ append-nil all)
    ∙ map-append (on_lane from to) (through log count ring) letters ∙ ap (λ z. shown (through log count ring) ++ z) (all_shown from to letters names)

-- two ends that show as many, by one log, had as many through the ring
pub as_long : (f g : Letter → Letter) (log log' : List Letter) (count count' : ℕ) (ring last : List Letter)
    → length (map f (through log count ring)) ≡ length (map g (through log' count' last)) → log' ≡ log → count' ≡ count → count ≤ length ring → count' ≤ length last → length last ≡ length ring
as_long f g log log' count count' ring last e is_log is_count h h' =
    omega (
      arith,
      e,
      length-map (through log count ring) f,
      length-map (through log' count' last) g,
      length-append log (drop count ring),
      length-append log' (drop count' last),
      length-drop count ring,
      length-drop count' last,
      ap length is_log,
      is_count,
      h,
      h',
    )
