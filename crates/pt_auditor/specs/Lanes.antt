-- The letters on their way from desk to desk, and the clocks of the desks, as the events of a printed history have them.
use Rattle.std.specs.Prelude.{◌≡◌, ℕ, ◌==◌, ◌&&◌, Bool, true, cond, Some, List, [], ◌∷◌, ◌++◌, map, filter, unwrap_or, slice_get}
use Rattle.std.specs.Map.{lookup}
use Rattle.pt_signal.specs.declared.pid.Pid.{Pid}
use Rattle.pt_signal.specs.declared.letter.Letter.{Letter}
use Rattle.pt_signal.specs.Values.{without_first}
use Rattle.pt_events.specs.declared.event.Event.{Event}
use Rattle.pt_events.specs.declared.event.Event.TheVariants.{Came}
use Rattle.pt_events.specs.declared.event.Stamped.{Stamped}
use Rattle.pt_events.specs.History.{sent_by, is_between}
use Rattle.pt_events.specs.Journal.{events, letter, content, clock, of_desk, in_lane}
use Rattle.pt_signal.specs.declared.letter.LeftOver.{LeftOver}

-- the letter goes from a to b
abbrev pub goes_between : Pid → Pid → Letter → Bool
goes_between a b l = is_between a b (content l)

abbrev pub letters_landed : Event → List Letter → List Letter
letters_landed (Came a b x) letters = without_first (goes_between a b) letters
letters_landed _ letters = letters

-- each letter on its way, with the stamp of its sending, in order of sending
abbrev pub letters_flying : List Stamped → List Letter
letters_flying [] = []
letters_flying (s ∷ past) =
    letters_landed s.event (letters_flying past) ++ map (letter s.stamp) (sent_by [] (events past) s.event)

-- those of them that no letter left over is
abbrev pub letters_still : List Letter → List LeftOver → List Letter
letters_still letters [] = letters
letters_still letters (l ∷ left) = without_first (goes_between l.letter.from l.letter.to) (letters_still letters left)

-- those of them from desk d to desk e
abbrev pub lane : ℕ → ℕ → List Letter → List Letter
lane d e letters = filter (λ l. in_lane d e (content l)) letters

-- the oldest letter from the desk of a to that of b is from a to b
pub record IsFirstInLane (a b : Pid) (letters : List Letter) : Type 0 where
  pub first : Letter
  pub there : slice_get (lane a.shard b.shard letters) 0 ≡ Some first
  pub between : goes_between a b first ≡ true

-- the stamp of the newest event of desk d, or 0
abbrev pub clock_of : ℕ → List Stamped → ℕ
clock_of d past = clock 0 (of_desk d past)

-- what the functions of the crate say of lanes and clocks -------------------------------------

-- letters by desks
abbrev pub Laid : Type 0
Laid = List ((ℕ × ℕ) × List Letter)

abbrev pub is_lane : ℕ → ℕ → ℕ × ℕ → Bool
is_lane d e pair = (d == pair.0) && (e == pair.1)

abbrev pub letters_laid : Laid → ℕ → ℕ → List Letter
letters_laid laid d e = unwrap_or (lookup (is_lane d e) laid) []

-- the letters from the one desk to the other are these, and no other lane has changed
abbrev pub IsLaid : ℕ → ℕ → List Letter → Laid → Laid → Type 0
IsLaid d e letters old new = (p q : ℕ) → letters_laid new p q ≡ cond (is_lane d e (p, q)) letters (letters_laid old p q)

abbrev pub stamp_noted : List (ℕ × ℕ) → ℕ → ℕ
stamp_noted noted d = unwrap_or (lookup (λ k. d == k) noted) 0
