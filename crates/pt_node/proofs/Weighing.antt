-- What receipts weigh, by the journals alone: those of one desk, and those of all.
use Rattle.std.proofs.Common.{◌≡◌, ℕ, zero, suc, ◌+◌, ◌<◌, ◌≤◌, ◌==◌, Bool, true, false, cond, List, [], ◌∷◌, ◌++◌, length, map, filter, refl, sym, ap, ◌∙◌, subst, ⊎_elim, le_refl, arith}
use Rattle.std.proofs.lemmas.Bool.{cases_lt, eq-eqb, eqb-true}
use Rattle.pt_signal.specs.declared.letter.Letter.{Letter}
use Rattle.pt_signal.specs.Process.{Sent, sent}
use Rattle.pt_events.specs.declared.event.Event.{Event}
use Rattle.pt_events.specs.declared.event.Event.TheVariants.{Came}
use Rattle.pt_events.specs.declared.event.Stamped.{Stamped}
use Rattle.pt_events.specs.History.{Past, Start, sent_by}
use Rattle.pt_events.specs.Journal.{Journals, Agrees, IsHome, IsLocal, events, got, got_of, gots, letter, letters, posts}
use Rattle.pt_events.specs.Counting.{below}
use Rattle.pt_laws.specs.Load.{IsStart, desk_sizes, left_weight, load_by_desk, weight, weights}
use Rattle.pt_laws.specs.LoadLaws.{AllCame}
use Rattle.pt_laws.proofs.lanes.Load.{one_receipt}
use Rattle.pt_laws.proofs.Sums.{below_one, below_same, below_shift, below_shift_le, below_zero, weigh-append, weigh_sent}
use Rattle.pt_gathered.specs.Settling.{Follows}

-- the weight of what came
abbrev pub weight_come : Event → ℕ
weight_come (Came a b x) = weight x
weight_come _ = 0

abbrev pub weights_come : List Stamped → ℕ
weights_come [] = 0
weights_come (s ∷ journal) = weight_come s.event + weights_come journal

-- one desk ---------------------------------------------------------------------------------

came_rest : (e : Event) (past : Past) → AllCame (e ∷ past) → AllCame past
came_rest (Came a b x) past h = h
came_rest _ past h = absurd h

module _ (start : Start) (ok : IsStart start) (d low top : ℕ) where
  one_came : (past more : Past) (e : Event) → IsHome d e → AllCame (e ∷ more) → desk_sizes start d (e ∷ past) + weights (sent_by start past e) + 1 ≤ desk_sizes start d past + weight_come e
  one_came past more (Came a b x) home h =
      subst (λ k. desk_sizes start k (Came a b x ∷ past) + weights (sent_by start past (Came a b x)) + 1 ≤ desk_sizes start k past + weight x) home (one_receipt start ok past a b x)
  one_came past more _ home h = absurd h

  -- what the desk holds and has sent, and the receipts, weigh no more than before with what came
  more_came : (more journal : List Stamped) → IsLocal start low top d (more ++ journal) → AllCame (events more)
      → desk_sizes start d (events (more ++ journal)) + left_weight (letters start (more ++ journal)) + length (more ++ journal) + weights_come journal
      ≤ desk_sizes start d (events journal) + left_weight (letters start journal) + length journal + weights_come (more ++ journal)
  more_came [] journal h r = le_refl _
  more_came (s ∷ more) journal h r =
      let past = events (more ++ journal) in
      let earlier = more_came more journal h.1 (came_rest s.event (events more) r) in
      let here = one_came past (events more) s.event h.0.home r in
      let joined = weigh-append (letters start (more ++ journal)) (map (letter s.stamp) (sent_by start past s.event)) in
      let goes = weigh_sent s.stamp (sent_by start past s.event) in
      omega arith

  pub desk_weighs : (old new : List Stamped) → IsLocal start low top d new → Follows old new
      → desk_sizes start d (events new) + left_weight (letters start new) + length new + weights_come old
      ≤ desk_sizes start d (events old) + left_weight (letters start old) + length old + weights_come new
  desk_weighs old new h f =
      subst (λ j. desk_sizes start d (events j) + left_weight (letters start j) + length j + weights_come old ≤ desk_sizes start d (events old) + left_weight (letters start old) + length old + weights_come j)
      (sym f.is) (more_came f.more old (subst (IsLocal start low top d) f.is h) f.receipts)

-- letters desk by desk ---------------------------------------------------------------------

-- a number below n stands in one place of the sum
cell : (k w n : ℕ) → k < n → below (λ e. cond (k == e) w 0) n ≡ w
cell k w n h = below_one (λ e. k == e) k w (λ e q. sym (eqb-true k e q)) (eq-eqb k k refl) n h

rest_to : (e : ℕ) (l : Letter) (ls : List Letter) → filter (λ l. l.to.shard == e) (l ∷ ls) ≡ [] → filter (λ l. l.to.shard == e) ls ≡ []
rest_to e l ls h = go (l.to.shard == e) refl
  where
    go : (b : Bool) → (l.to.shard == e) ≡ b → filter (λ l. l.to.shard == e) ls ≡ []
    go true q = let none : l ∷ filter (λ l. l.to.shard == e) ls ≡ [] = rw q at h in absurd (cc)
    go false q = rw q at h

-- letters to the desks below n
pub weigh_to : (n : ℕ) (ls : List Letter) → ((e : ℕ) → n ≤ e → filter (λ l. l.to.shard == e) ls ≡ []) → below (λ e. left_weight (filter (λ l. l.to.shard == e) ls)) n ≡ left_weight ls
weigh_to n [] h = below_zero n
weigh_to n (l ∷ ls) h =
    let within : l.to.shard < n = ⊎_elim (λ w. w) (λ w. beyond w) (cases_lt l.to.shard n) in
    let one = cell l.to.shard (weight l.signal) n within in
    let earlier = weigh_to n ls (λ e k. rest_to e l ls (h e k)) in
    let shift = below_shift (λ e. left_weight (filter (λ l. l.to.shard == e) ls)) (λ e. left_weight (filter (λ l. l.to.shard == e) (l ∷ ls))) (λ e. 0) (λ e. cond (l.to.shard == e) (weight l.signal) 0) n (λ e k. step e (l.to.shard == e) refl) in
    let none = below_zero n in
    omega arith
  where
    beyond : n ≤ l.to.shard → l.to.shard < n
    beyond w = let none : l ∷ filter (λ r. r.to.shard == l.to.shard) ls ≡ [] = rw (eq-eqb l.to.shard l.to.shard refl) at (h l.to.shard w) in absurd (cc)

    step : (e : ℕ) (b : Bool) → (l.to.shard == e) ≡ b → left_weight (filter (λ l. l.to.shard == e) (l ∷ ls)) + 0 ≡ left_weight (filter (λ l. l.to.shard == e) ls) + cond (l.to.shard == e) (weight l.signal) 0
    step e true q = rw q (omega arith)
    step e false q = rw q (omega arith)

front_none : (xs ys : List Letter) → xs ++ ys ≡ [] → (xs ≡ []) × (ys ≡ [])
front_none [] ys h = (refl, h)
front_none (x ∷ xs) ys h = absurd (cc)

-- one event: what came from the desks below n
one_from : (n stamp : ℕ) (e : Event) → ((d : ℕ) → n ≤ d → got_of d stamp e ≡ []) → below (λ d. left_weight (got_of d stamp e)) n ≡ weight_come e
one_from n stamp (Came a b x) h =
    below_same (λ d. cond (a.shard == d) (weight x) 0) (λ d. left_weight (cond (a.shard == d) (letter stamp (sent a b x) ∷ []) [])) n (λ d k. step (a.shard == d))
    ∙ cell a.shard (weight x) n (⊎_elim (λ w. w) (λ w. beyond w) (cases_lt a.shard n))
  where
    step : (b' : Bool) → left_weight (cond b' (letter stamp (sent a b x) ∷ []) []) ≡ cond b' (weight x) 0
    step true = omega arith
    step false = refl

    beyond : n ≤ a.shard → a.shard < n
    beyond w = let none : letter stamp (sent a b x) ∷ [] ≡ [] = rw (eq-eqb a.shard a.shard refl) at (h a.shard w) in absurd (cc)
one_from n stamp _ h = below_zero n

pub weigh_from : (n : ℕ) (journal : List Stamped) → ((d : ℕ) → n ≤ d → gots journal d ≡ []) → below (λ d. left_weight (gots journal d)) n ≡ weights_come journal
weigh_from n [] h = below_zero n
weigh_from n (s ∷ journal) h =
    let earlier = weigh_from n journal (λ d k. (front_none (gots journal d) (got d s) (h d k)).0) in
    let one = one_from n s.stamp s.event (λ d k. (front_none (gots journal d) (got d s) (h d k)).1) in
    let shift = below_shift (λ d. left_weight (gots journal d)) (λ d. left_weight (gots journal d ++ got d s)) (λ d. 0) (λ d. left_weight (got d s)) n (λ d k. let joined = weigh-append (gots journal d) (got d s) in omega arith) in
    let none = below_zero n in
    omega arith

-- all desks --------------------------------------------------------------------------------

pub below_both : (f g : ℕ → ℕ) (n : ℕ) → below (λ k. f k + g k) n ≡ below f n + below g n
below_both f g zero = refl
below_both f g (suc n) = let h = below_both f g n in omega arith

-- rows and columns
below_turned : (f : ℕ → ℕ → ℕ) (n m : ℕ) → below (λ d. below (λ e. f d e) m) n ≡ below (λ e. below (λ d. f d e) n) m
below_turned f zero m = sym (below_zero m)
below_turned f (suc n) m = let h = below_turned f n m in let j = below_both (λ e. f n e) (λ e. below (λ d. f d e) n) m in omega arith

agreed_weight : (posted came over : List Letter) → Agrees posted came over → left_weight posted ≡ left_weight came + left_weight over
agreed_weight posted [] over h = let same = ap left_weight h in omega arith
agreed_weight [] (g ∷ came) over h = absurd h
agreed_weight (l ∷ posted) (g ∷ came) over h =
    let earlier = agreed_weight posted came over h.1 in
    let same : weight g.signal ≡ weight l.signal = ap (λ (x : Sent). weight x.signal) h.0.0 in
    omega arith

-- the desks below n send to each other alone, and what came in each lane is the front of what was sent
pub record AreLanes (n : ℕ) (start : Start) (journal : Journals) (over : ℕ → ℕ → List Letter) : Type 0 where
  pub agree : (d e : ℕ) → d < n → e < n → Agrees (posts start (journal d) e) (gots (journal e) d) (over d e)
  pub posts_near : (d e : ℕ) → d < n → n ≤ e → posts start (journal d) e ≡ []
  pub gots_near : (e d : ℕ) → e < n → n ≤ d → gots (journal e) d ≡ []

-- all that was sent is what came and what is left over
sent_weigh : (n : ℕ) (start : Start) (journal : Journals) (over : ℕ → ℕ → List Letter) → AreLanes n start journal over
    → below (λ d. left_weight (letters start (journal d))) n ≡ below (λ e. weights_come (journal e)) n + below (λ d. below (λ e. left_weight (over d e)) n) n
sent_weigh n start journal over h =
    let rows = below_same (λ d. left_weight (letters start (journal d))) (λ d. below (λ e. left_weight (posts start (journal d) e)) n) n (λ d k. weigh_to n (letters start (journal d)) (λ e m. h.posts_near d e k m)) in
    let lanes = below_same (λ d. below (λ e. left_weight (gots (journal e) d)) n + below (λ e. left_weight (over d e)) n) (λ d. below (λ e. left_weight (posts start (journal d) e)) n) n (λ d k.
    below_same (λ e. left_weight (gots (journal e) d) + left_weight (over d e)) (λ e. left_weight (posts start (journal d) e)) n (λ e m. agreed_weight (posts start (journal d) e) (gots (journal e) d) (over d e) (h.agree d e k m))
    ∙ below_both (λ e. left_weight (gots (journal e) d)) (λ e. left_weight (over d e)) n) in
    let both = below_both (λ d. below (λ e. left_weight (gots (journal e) d)) n) (λ d. below (λ e. left_weight (over d e)) n) n in
    let turned = below_turned (λ d e. left_weight (gots (journal e) d)) n n in
    let columns = below_same (λ e. weights_come (journal e)) (λ e. below (λ d. left_weight (gots (journal e) d)) n) n (λ e k. weigh_from n (journal e) (λ d m. h.gots_near e d k m)) in
    omega arith

-- receipts lower the load, each by one at least
pub receipts_lower : (n : ℕ) (start : Start) (low top : ℕ) (old new : Journals) (over left : ℕ → ℕ → List Letter) → IsStart start
    → ((d : ℕ) → d < n → IsLocal start low top d (new d)) → ((d : ℕ) → d < n → Follows (old d) (new d)) → AreLanes n start old over → AreLanes n start new left
    → below (λ d. length (new d)) n + load_by_desk start new left n ≤ below (λ d. length (old d)) n + load_by_desk start old over n
receipts_lower n start low top old new over left ok local follows before behind =
    let each = below_shift_le
    (λ d. desk_sizes start d (events (old d)) + left_weight (letters start (old d)) + length (old d)) (λ d. desk_sizes start d (events (new d)) + left_weight (letters start (new d)) + length (new d))
    (λ d. weights_come (old d)) (λ d. weights_come (new d)) n (λ d k. desk_weighs start ok d low top (old d) (new d) (local d k) (follows d k)) in
    let was = sum_of old in
    let is = sum_of new in
    let sent_before = sent_weigh n start old over before in
    let sent_behind = sent_weigh n start new left behind in
    omega arith
  where
    sum_of : (j : Journals)
        → below (λ d. desk_sizes start d (events (j d)) + left_weight (letters start (j d)) + length (j d)) n
        ≡ below (λ d. desk_sizes start d (events (j d))) n + below (λ d. left_weight (letters start (j d))) n + below (λ d. length (j d)) n
    sum_of j =
        below_both (λ d. desk_sizes start d (events (j d)) + left_weight (letters start (j d))) (λ d. length (j d)) n
        ∙ ap (λ z. z + below (λ d. length (j d)) n) (below_both (λ d. desk_sizes start d (events (j d))) (λ d. left_weight (letters start (j d))) n)
