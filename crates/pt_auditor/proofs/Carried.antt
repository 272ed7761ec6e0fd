-- Lanes of letters on their way: after what came has been taken off, and after more was sent.
use Rattle.std.proofs.Common.{◌≡◌, ℕ, ◌==◌, Bool, true, false, cond, ◌&&◌, Some, None, Result, Ok, Err, OnOk, List, length, [], ◌∷◌, ◌++◌, map, drop, refl, ap, sym, ◌∙◌, append-nil, append_assoc}
use Rattle.std.specs.Prelude.{slice_get}
use Rattle.std.proofs.lemmas.Bool.{and_parts, both_ways, eq-eqb}
use Rattle.std.proofs.lemmas.List.Elements.{filter-append}
use Rattle.std.proofs.Math.Seq.{drop-append_seam}
use Rattle.pt_signal.specs.declared.pid.Pid.{Pid}
use Rattle.pt_signal.specs.declared.letter.Letter.{Letter}
use Rattle.pt_signal.specs.declared.signal.Signal.{Signal}
use Rattle.pt_signal.specs.Process.{Sent, sent}
use Rattle.pt_signal.specs.Values.{same_pid, without_first}
use Rattle.pt_signal.proofs.Same.{same_pid_is}
use Rattle.pt_events.specs.declared.event.Event.{Event}
use Rattle.pt_events.specs.declared.event.Event.TheVariants.{Born, Said, Came, Took, Flag, Left, Refused}
use Rattle.pt_events.specs.History.{Past, is_between, landed, flying, sent_by}
use Rattle.pt_events.specs.Journal.{in_lane, content, letter}
use Rattle.pt_judge.specs.Judging.{JudgeState, IsStep, judge_sends, lived}
use Rattle.pt_auditor.specs.Lanes.{Laid, is_lane, letters_laid, IsLaid, goes_between, lane, letters_landed, IsFirstInLane}
use Rattle.pt_auditor.specs.Foreigners.{IsCarried, landed_laid}
use Rattle.pt_auditor.proofs.Laid.{lane_is}

-- what came is the first letter of its lane
abbrev pub ComesInOrderOf : List Letter → Event → Type 0
ComesInOrderOf letters (Came a b x) = IsFirstInLane a b letters
ComesInOrderOf letters _ = Unit {0}

own_lane : (d e : ℕ) → is_lane d e (d, e) ≡ true
own_lane d e = rw (eq-eqb d d refl, eq-eqb e e refl) refl

module _ (a b : Pid) where
  -- a letter from a to b is in the lane of their desks
  lane_of : (x : Letter) (d e : ℕ) → goes_between a b x ≡ true → in_lane d e (content x) ≡ is_lane a.shard b.shard (d, e)
  lane_of x d e h =
      let parts = and_parts (same_pid a x.from) (same_pid b x.to) h in
      ap (λ (p : Pid). (p.shard == d) && (x.to.shard == e)) (sym (same_pid_is a x.from parts.0))
      ∙ ap (λ (p : Pid). (a.shard == d) && (p.shard == e)) (sym (same_pid_is b x.to parts.1))

  -- without the oldest letter from a to b, which is the first of its lane, that lane is one shorter, and no other changes
  pub landed_lane : (letters : List Letter) (first : Letter) → slice_get (lane a.shard b.shard letters) 0 ≡ Some first → goes_between a b first ≡ true → (d e : ℕ)
      → lane d e (without_first (goes_between a b) letters) ≡ cond (is_lane a.shard b.shard (d, e)) (drop 1 (lane a.shard b.shard letters)) (lane d e letters)
  landed_lane [] first there between d e = absurd (cc)
  landed_lane (x ∷ letters) first there between d e = by (goes_between a b x) refl (λ front. landed_lane letters first front between d e)
    where
      same : (c : Bool) → is_lane a.shard b.shard (d, e) ≡ c → lane d e letters ≡ cond c (lane a.shard b.shard letters) (cond c (x ∷ lane d e letters) (lane d e letters))
      same true w = let p = lane_is a.shard b.shard d e w in sym (ap (λ z. lane z b.shard letters) p.0 ∙ ap (λ z. lane d z letters) p.1)
      same false w = refl

      other : in_lane a.shard b.shard (content x) ≡ false → in_lane d e (content x) ≡ true → (c : Bool) → is_lane a.shard b.shard (d, e) ≡ c → c ≡ false
      other w v false z = refl
      other w v true z =
          let p = lane_is a.shard b.shard d e z in
          absurd (both_ways (in_lane a.shard b.shard (content x)) w (ap (λ n. in_lane n b.shard (content x)) p.0 ∙ ap (λ n. in_lane d n (content x)) p.1 ∙ v))

      more : (less rest : List Letter) (t : Bool) → in_lane d e (content x) ≡ t → in_lane a.shard b.shard (content x) ≡ false → lane d e rest ≡ cond (is_lane a.shard b.shard (d, e)) less (lane d e letters)
          → cond t (x ∷ lane d e rest) (lane d e rest) ≡ cond (is_lane a.shard b.shard (d, e)) less (cond t (x ∷ lane d e letters) (lane d e letters))
      more less rest false v w ih = ih
      more less rest true v w ih =
          let no : is_lane a.shard b.shard (d, e) ≡ false = other w v (is_lane a.shard b.shard (d, e)) refl in
          ap (λ z. x ∷ z) (ih ∙ ap (λ c. cond c less (lane d e letters)) no) ∙ sym (ap (λ c. cond c less (x ∷ lane d e letters)) no)

      -- what holds of the letters behind it
      rest : goes_between a b x ≡ false → (slice_get (lane a.shard b.shard letters) 0 ≡ Some first
          → lane d e (without_first (goes_between a b) letters) ≡ cond (is_lane a.shard b.shard (d, e)) (drop 1 (lane a.shard b.shard letters)) (lane d e letters))
          → (t : Bool) → in_lane a.shard b.shard (content x) ≡ t → slice_get (cond t (x ∷ lane a.shard b.shard letters) (lane a.shard b.shard letters)) 0 ≡ Some first
          → lane d e (x ∷ without_first (goes_between a b) letters) ≡ cond (is_lane a.shard b.shard (d, e)) (drop 1 (cond t (x ∷ lane a.shard b.shard letters) (lane a.shard b.shard letters))) (lane d e (x ∷ letters))
      rest h ih true w front = let is : x ≡ first = cc in absurd (both_ways (goes_between a b x) h (ap (goes_between a b) is ∙ between))
      rest h ih false w front = more (drop 1 (lane a.shard b.shard letters)) (without_first (goes_between a b) letters) (in_lane d e (content x)) refl w (ih front)

      by : (t : Bool) → goes_between a b x ≡ t → (slice_get (lane a.shard b.shard letters) 0 ≡ Some first
          → lane d e (without_first (goes_between a b) letters) ≡ cond (is_lane a.shard b.shard (d, e)) (drop 1 (lane a.shard b.shard letters)) (lane d e letters))
          → lane d e (cond t letters (x ∷ without_first (goes_between a b) letters)) ≡ cond (is_lane a.shard b.shard (d, e)) (drop 1 (lane a.shard b.shard (x ∷ letters))) (lane d e (x ∷ letters))
      by true h ih = let own = lane_of x a.shard b.shard h ∙ own_lane a.shard b.shard in rw (own, lane_of x d e h) (same (is_lane a.shard b.shard (d, e)) refl)
      by false h ih = rest h ih (in_lane a.shard b.shard (content x)) refl there

-- one letter more in its lane
pub pushed_lane : (l : Letter) (old new : Laid) → IsLaid l.from.shard l.to.shard (letters_laid old l.from.shard l.to.shard ++ l ∷ []) old new → (d e : ℕ)
    → letters_laid new d e ≡ letters_laid old d e ++ lane d e (l ∷ [])
pushed_lane l old new h d e = h d e ∙ go (is_lane l.from.shard l.to.shard (d, e)) refl
  where
    go : (c : Bool) → is_lane l.from.shard l.to.shard (d, e) ≡ c → cond c (letters_laid old l.from.shard l.to.shard ++ l ∷ []) (letters_laid old d e) ≡ letters_laid old d e ++ cond c (l ∷ []) []
    go true w =
        let p = lane_is l.from.shard l.to.shard d e w in
        ap (λ z. letters_laid old z l.to.shard ++ l ∷ []) p.0 ∙ ap (λ z. letters_laid old d z ++ l ∷ []) p.1
    go false w = sym (append-nil (letters_laid old d e))

-- what is posted, one after the other, stands in the lanes behind what stood there
abbrev pub IsPosted : ℕ → Laid → List Sent → Laid → List Sent → Type 0
IsPosted n first all laid rest =
    (d e : ℕ) → letters_laid laid d e ++ lane d e (map (letter n) rest) ≡ letters_laid first d e ++ lane d e (map (letter n) all)

pub posted_none : (n : ℕ) (first : Laid) (all : List Sent) → IsPosted n first all first all
posted_none n first all d e = refl

-- the front goes, and is the oldest between its two
pub front_gone : (a b : Pid) (xs : List Sent) (x : Sent) → Some x ≡ slice_get xs 0 → is_between a b x ≡ true → xs ≡ x ∷ without_first (is_between a b) xs
front_gone a b [] x h k = absurd (cc)
front_gone a b (y ∷ xs) x h k =
    let is : x ≡ y = cc in
    let there : is_between a b y ≡ true = ap (is_between a b) (sym is) ∙ k in
    rw there (ap (λ z. z ∷ xs) (sym is))

pub posted_one : (n : ℕ) (first : Laid) (all : List Sent) (old new : Laid) (x : Sent) (rest rest' : List Sent) → IsPosted n first all old rest → rest ≡ x ∷ rest'
    → IsLaid x.from.shard x.to.shard (letters_laid old x.from.shard x.to.shard ++ letter n x ∷ []) old new → IsPosted n first all new rest'
posted_one n first all old new x rest rest' h is laid d e =
    ap (λ z. z ++ lane d e (map (letter n) rest')) (pushed_lane (letter n x) old new laid d e)
    ∙ append_assoc (letters_laid old d e) (lane d e (letter n x ∷ [])) (lane d e (map (letter n) rest'))
    ∙ ap (λ z. letters_laid old d e ++ z) (sym (filter-append (λ l. in_lane d e (content l)) (letter n x ∷ []) (map (letter n) rest')))
    ∙ ap (λ z. letters_laid old d e ++ lane d e (map (letter n) z)) (sym is)
    ∙ h d e

pub posted_all : (n : ℕ) (first : Laid) (all : List Sent) (laid : Laid) (rest : List Sent) → IsPosted n first all laid rest → None ≡ slice_get rest 0
    → (d e : ℕ) → letters_laid laid d e ≡ letters_laid first d e ++ lane d e (map (letter n) all)
posted_all n first all laid [] h none d e = sym (append-nil (letters_laid laid d e)) ∙ h d e
posted_all n first all laid (x ∷ rest) h none d e = absurd (cc)

-- what is said is behind what stands in its lane
pub said_carried : {E : Type 0} (n : ℕ) (a b : Pid) (x : Signal) (r : Result (Unit {0}) E) (old new : Laid) → OnOk r (IsLaid a.shard b.shard (letters_laid old a.shard b.shard ++ letter n (sent a b x) ∷ []) old new)
    → OnOk r (IsCarried n (Said a b x) (sent a b x ∷ []) old new)
said_carried n a b x (Ok u) old new h = pushed_lane (letter n (sent a b x)) old new h
said_carried n a b x (Err e) old new h = tt

-- what an event sends, by the judge's state after it and by the definition
pub sends_are : (past : Past) (e : Event) (old new : JudgeState) → IsStep old e new → old.flights ≡ flying [] past → new.flights ≡ flying [] (e ∷ past) → judge_sends new.lives (lived old.lives e) e ≡ sent_by [] past e
sends_are past e old new step before after =
    let base = landed e (flying [] past) in
    let both : base ++ judge_sends new.lives (lived old.lives e) e ≡ base ++ sent_by [] past e =
    ap (λ f. landed e f ++ judge_sends new.lives (lived old.lives e) e) (sym before) ∙ sym step.flights ∙ after
    in
    sym (drop-append_seam base (judge_sends new.lives (lived old.lives e) e)) ∙ ap (drop (length base)) both ∙ drop-append_seam base (sent_by [] past e)

-- the lanes after an event whose letter, where it is a receipt, was the first of its lane
pub carried : (letters : List Letter) (n : ℕ) (e : Event) (sent : List Sent) (old new : Laid) → ((d e : ℕ) → letters_laid old d e ≡ lane d e letters) → ComesInOrderOf letters e → IsCarried n e sent old new
    → (d f : ℕ) → letters_laid new d f ≡ lane d f (letters_landed e letters ++ map (letter n) sent)
carried letters n e sent old new are order moved d f =
    moved d f ∙ ap (λ z. z ++ lane d f (map (letter n) sent)) (landing e order)
    ∙ sym (filter-append (λ l. in_lane d f (content l)) (letters_landed e letters) (map (letter n) sent))
  where
    landing : (e : Event) → ComesInOrderOf letters e → landed_laid e old d f ≡ lane d f (letters_landed e letters)
    landing (Came a b x) o =
        ap (λ z. cond (is_lane a.shard b.shard (d, f)) (drop 1 z) (letters_laid old d f)) (are a.shard b.shard)
        ∙ ap (λ z. cond (is_lane a.shard b.shard (d, f)) (drop 1 (lane a.shard b.shard letters)) z) (are d f)
        ∙ sym (landed_lane a b letters o.first o.there o.between d f)
    landing (Born p parent link) o = are d f
    landing (Said a b x) o = are d f
    landing (Took p k i) o = are d f
    landing (Flag p on) o = are d f
    landing (Left p r) o = are d f
    landing (Refused a b) o = are d f
