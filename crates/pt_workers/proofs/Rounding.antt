-- Rounds of workers: what each worker takes in them, and that they end once all workers have.
use Rattle.std.proofs.Common.{◌≡◌, ◌≢◌, ℕ, zero, suc, ◌+◌, ◌-◌, ◌<◌, ◌≤◌, ◌==◌, Bool, true, false, not, MatchBool, inl, inr, List, length, replicate, get_or, set, refl, sym, ap, ◌∙◌, subst, arith, le_refl}
use Rattle.std.proofs.lemmas.Bool.{eqb-true, eq-eqb, both_ways}
use Rattle.std.proofs.lemmas.List.{get_or_default, get_or-set_same, get_or-set_other, length-set}
use Rattle.pt_desk.specs.DeskState.{DeskState}
use Rattle.pt_workers.specs.Running.{AllGoOn, AllWork, BeginRelation, HasTurn, HaveEnded, Round, Rounds, WorkRelation, TakesOrEnds, TakesTurn, TakesTurns, Workers, Works}

module _ {W : Type 0} (lets : BeginRelation W) (does : WorkRelation W) (budget : ℕ) where
  -- one worker, before and after a turn of that number, and whether it has ended
  abbrev OneTurn : ℕ → DeskState × W → Bool → DeskState × W → Bool → Type 0
  OneTurn turn p ended p' ended' =
      MatchBool ended ((p' ≡ p) × (ended' ≡ true)) ((begins : Bool) × lets p.0.shard.number p.1 turn begins × MatchBool begins (TakesTurn does budget p p') (p' ≡ p) × (ended' ≡ not begins))

  -- the worker at place d has its turn
  module _ (turn d : ℕ) (old new : Workers W) (h : HasTurn lets does budget turn d old new) where
    counts : (length new.0 ≡ length old.0) × (length new.1 ≡ length old.1)
    counts = go (get_or old.1 d false) h
      where
        go : (b : Bool) → MatchBool b (new ≡ old) (TakesOrEnds lets does budget turn d old new) → (length new.0 ≡ length old.0) × (length new.1 ≡ length old.1)
        go true s = (ap (λ (w : Workers W). length w.0) s, ap (λ (w : Workers W). length w.1) s)
        go false t = (ap length t.desks ∙ length-set old.0 d t.pair, ap length t.ended ∙ length-set old.1 d (not t.begins))

    ended_beside : (k : ℕ) → k ≢ d → get_or new.1 k false ≡ get_or old.1 k false
    ended_beside k apart = go (get_or old.1 d false) h
      where
        go : (b : Bool) → MatchBool b (new ≡ old) (TakesOrEnds lets does budget turn d old new) → get_or new.1 k false ≡ get_or old.1 k false
        go true s = ap (λ (w : Workers W). get_or w.1 k false) s
        go false t = ap (λ z. get_or z k false) t.ended ∙ get_or-set_other old.1 d k (not t.begins) false apart

    beside : (k : ℕ) (x : DeskState × W) → k ≢ d → (get_or new.0 k x ≡ get_or old.0 k x) × (get_or new.1 k false ≡ get_or old.1 k false)
    beside k x apart = (go (get_or old.1 d false) h, ended_beside k apart)
      where
        go : (b : Bool) → MatchBool b (new ≡ old) (TakesOrEnds lets does budget turn d old new) → get_or new.0 k x ≡ get_or old.0 k x
        go true s = ap (λ (w : Workers W). get_or w.0 k x) s
        go false t = ap (λ z. get_or z k x) t.desks ∙ get_or-set_other old.0 d k t.pair x apart

    here : (x : DeskState × W) → d < length old.0 → d < length old.1 → OneTurn turn (get_or old.0 d x) (get_or old.1 d false) (get_or new.0 d x) (get_or new.1 d false)
    here x d_in room = go (get_or old.1 d false) refl h
      where
        go : (b : Bool) → get_or old.1 d false ≡ b → MatchBool b (new ≡ old) (TakesOrEnds lets does budget turn d old new) → OneTurn turn (get_or old.0 d x) b (get_or new.0 d x) (get_or new.1 d false)
        go true q s = (ap (λ (w : Workers W). get_or w.0 d x) s, ap (λ (w : Workers W). get_or w.1 d false) s ∙ q)
        go false q t =
            let pair_is : get_or new.0 d x ≡ t.pair = ap (λ z. get_or z d x) t.desks ∙ get_or-set_same old.0 d t.pair x d_in in
            let same : get_or old.0 d t.pair ≡ get_or old.0 d x = get_or_default old.0 d t.pair x d_in in
            let took = subst (λ (p : DeskState × W). MatchBool t.begins (TakesTurn does budget (get_or old.0 d t.pair) p) (p ≡ get_or old.0 d t.pair)) (sym pair_is) t.takes in (
              t.begins,
              subst (λ (p : DeskState × W). lets p.0.shard.number p.1 turn t.begins) same t.gate,
              subst (λ (p : DeskState × W). MatchBool t.begins (TakesTurn does budget p (get_or new.0 d x)) (get_or new.0 d x ≡ p)) same took,
              ap (λ z. get_or z d false) t.ended ∙ get_or-set_same old.1 d (not t.begins) false room,
            )

  -- a round of the first n
  pub round_counts : (turn n : ℕ) (old new : Workers W) → Round lets does budget turn n old new → (length new.0 ≡ length old.0) × (length new.1 ≡ length old.1)
  round_counts turn zero old new r = (ap (λ (w : Workers W). length w.0) r, ap (λ (w : Workers W). length w.1) r)
  round_counts turn (suc n) old new r =
      let before = round_counts turn n old r.0 r.1 in
      let now = counts turn n r.0 new r.2 in
      (now.0 ∙ before.0, now.1 ∙ before.1)

  round_rest : (turn n : ℕ) (old new : Workers W) → Round lets does budget turn n old new → (k : ℕ) (x : DeskState × W) → n ≤ k → (get_or new.0 k x ≡ get_or old.0 k x) × (get_or new.1 k false ≡ get_or old.1 k false)
  round_rest turn zero old new r k x h = (ap (λ (w : Workers W). get_or w.0 k x) r, ap (λ (w : Workers W). get_or w.1 k false) r)
  round_rest turn (suc n) old new r k x h =
      let before = round_rest turn n old r.0 r.1 k x (omega arith) in
      let apart : k ≢ n = λ e. absurd (omega arith) in
      let now = beside turn n r.0 new r.2 k x apart in
      (now.0 ∙ before.0, now.1 ∙ before.1)

  round_at : (turn n : ℕ) (old new : Workers W) → Round lets does budget turn n old new → n ≤ length old.0 → n ≤ length old.1 → (k : ℕ) (x : DeskState × W) → k < n
      → OneTurn turn (get_or old.0 k x) (get_or old.1 k false) (get_or new.0 k x) (get_or new.1 k false)
  round_at turn zero old new r n_in room k x h = absurd (omega arith)
  round_at turn (suc n) old new r n_in room k x h = go (k == n) refl (λ less. round_at turn n old r.0 r.1 (omega arith) (omega arith) k x less)
    where
      go : (b : Bool) → (k == n) ≡ b → (k < n → OneTurn turn (get_or old.0 k x) (get_or old.1 k false) (get_or r.0.0 k x) (get_or r.0.1 k false))
          → OneTurn turn (get_or old.0 k x) (get_or old.1 k false) (get_or new.0 k x) (get_or new.1 k false)
      go true q earlier =
          let is : k ≡ n = eqb-true k n q in
          let count = round_counts turn n old r.0 r.1 in
          let rest = round_rest turn n old r.0 r.1 n x (le_refl n) in
          let turned = here turn n r.0 new r.2 x (omega (arith, count.0)) (omega (arith, count.1)) in
          let from = subst (λ b. OneTurn turn (get_or r.0.0 n x) b (get_or new.0 n x) (get_or new.1 n false)) rest.1 turned in
          subst (λ i. OneTurn turn (get_or old.0 i x) (get_or old.1 i false) (get_or new.0 i x) (get_or new.1 i false)) (sym is)
          (subst (λ (p : DeskState × W). OneTurn turn p (get_or old.1 n false) (get_or new.0 n x) (get_or new.1 n false)) rest.0 from)
      go false q earlier =
          let apart : k ≢ n = λ e. both_ways (k == n) q (eq-eqb k n e) in
          let before = earlier (omega (arith, apart)) in
          let now = beside turn n r.0 new r.2 k x apart in
          let after = subst (λ (p : DeskState × W). OneTurn turn (get_or old.0 k x) (get_or old.1 k false) p (get_or r.0.1 k false)) (sym now.0) before in
          subst (λ b. OneTurn turn (get_or old.0 k x) (get_or old.1 k false) (get_or new.0 k x) b) (sym now.1) after

  -- what one worker took before the turn of that number
  abbrev pub SoFar : ℕ → DeskState × W → DeskState × W → Bool → Type 0
  SoFar turn old new ended =
      MatchBool ended ((count : ℕ) × TakesTurns (lets old.0.shard.number) does budget count old new × (count < turn) × lets old.0.shard.number new.1 count false) (TakesTurns (lets old.0.shard.number) does budget turn old new)

  abbrev pub AllSoFar : ℕ → List (DeskState × W) → Workers W → Type 0
  AllSoFar turn start w = (d : ℕ) (x : DeskState × W) → d < length start → SoFar turn (get_or start d x) (get_or w.0 d x) (get_or w.1 d false)

  pub none_so_far : (start : List (DeskState × W)) → AllSoFar 0 start (start, replicate 64 false)
  none_so_far start d x h = subst (SoFar 0 (get_or start d x) (get_or start d x)) (sym (never 64 d)) refl
    where
      never : (n d : ℕ) → get_or (replicate n false) d false ≡ false
      never zero zero = refl
      never zero (suc d) = refl
      never (suc n) zero = refl
      never (suc n) (suc d) = never n d

  one_more : (turn : ℕ) (p0 p p' : DeskState × W) (ended ended' : Bool) → p.0.shard.number ≡ p0.0.shard.number → SoFar turn p0 p ended → OneTurn turn p ended p' ended' → SoFar (suc turn) p0 p' ended'
  one_more turn p0 p p' true ended' same s t =
      let less : s.0 < suc turn = let c = s.2 in omega arith in
      let here : SoFar (suc turn) p0 p true = (s.0, s.1, less, s.3) in
      subst (SoFar (suc turn) p0 p') (sym t.1) (subst (λ (z : DeskState × W). SoFar (suc turn) p0 z true) (sym t.0) here)
  one_more turn p0 p p' false ended' same s t = subst (SoFar (suc turn) p0 p') (sym t.3) (go t.0 t.1 t.2)
    where
      go : (begins : Bool) → lets p.0.shard.number p.1 turn begins → MatchBool begins (TakesTurn does budget p p') (p' ≡ p) → SoFar (suc turn) p0 p' (not begins)
      go true let_in took = (p, s, subst (λ n. lets n p.1 turn true) same let_in, took)
      go false shut stays =
          let less : turn < suc turn = omega arith in
          let here : SoFar (suc turn) p0 p true = (turn, s, less, subst (λ n. lets n p.1 turn false) same shut) in
          subst (λ (z : DeskState × W). SoFar (suc turn) p0 z true) (sym stays) here

  pub all_one_more : (turn : ℕ) (start : List (DeskState × W)) (old new : Workers W) → AllGoOn start old.0 → length start ≤ length old.1 → AllSoFar turn start old → Round lets does budget turn (length start) old new → AllSoFar (turn + 1) start new
  all_one_more turn start old new went room s r d x h =
      let at = round_at turn (length start) old new r (omega (arith, went.count)) room d x h in
      let e : suc turn ≡ turn + 1 = omega arith in
      subst (λ k. SoFar k (get_or start d x) (get_or new.0 d x) (get_or new.1 d false)) e
      (one_more turn (get_or start d x) (get_or old.0 d x) (get_or new.0 d x) (get_or old.1 d false) (get_or new.1 d false) (went.each d x h).shard.number (s d x h) at)

  -- all turns
  pub all_done : (turns : ℕ) (start : List (DeskState × W)) (w : Workers W) → AllSoFar turns start w → AllWork lets does turns budget start w.0
  all_done turns start w s d x h = go (get_or w.1 d false) (s d x h)
    where
      go : (b : Bool) → SoFar turns (get_or start d x) (get_or w.0 d x) b → Works (lets (get_or start d x).0.shard.number) does turns budget (get_or start d x) (get_or w.0 d x)
      go true t = record { count = t.0; took = t.1; ends = inr (t.2, t.3) }
      go false t = record { count = turns; took = t; ends = inl refl }

  -- or those before all had ended
  pub all_ended : (turn turns : ℕ) (start : List (DeskState × W)) (w : Workers W) → turn ≤ turns → HaveEnded (length start) w.1 → AllSoFar turn start w → AllWork lets does turns budget start w.0
  all_ended turn turns start w within none s d x h =
      let t = subst (SoFar turn (get_or start d x) (get_or w.0 d x)) (none d h) (s d x h) in
      let less : t.0 < turns = let c = t.2 in omega arith in
      record { count = t.0; took = t.1; ends = inr (less, t.3) }

  -- nothing happens where the worker has ended
  pub ended_stays : (turn d : ℕ) (w : Workers W) → get_or w.1 d false ≡ true → HasTurn lets does budget turn d w w
  ended_stays turn d w h = subst (λ b. MatchBool b (w ≡ w) (TakesOrEnds lets does budget turn d w w)) (sym h) refl

  still_round : (turn n : ℕ) (w : Workers W) → HaveEnded n w.1 → Round lets does budget turn n w w
  still_round turn zero w none = refl
  still_round turn (suc n) w none =
      (w, still_round turn n w (λ d l. none d (omega arith)), ended_stays turn n w (none n (omega arith)))

  still_rounds : (n more turn : ℕ) (old new : Workers W) → Rounds lets does budget n turn old new → HaveEnded n new.1 → Rounds lets does budget n (more + turn) old new
  still_rounds n zero turn old new r none = let e : turn ≡ zero + turn = omega arith in subst (λ k. Rounds lets does budget n k old new) e r
  still_rounds n (suc more) turn old new r none =
      let e : suc (more + turn) ≡ suc more + turn = omega arith in
      subst (λ k. Rounds lets does budget n k old new) e (new, still_rounds n more turn old new r none, still_round (more + turn) n new none)

  pub rounds_ended : (n turn turns : ℕ) (old new : Workers W) → turn ≤ turns → Rounds lets does budget n turn old new → HaveEnded n new.1 → Rounds lets does budget n turns old new
  rounds_ended n turn turns old new within r none =
      let e : (turns - turn) + turn ≡ turns = omega arith in subst (λ k. Rounds lets does budget n k old new) e (still_rounds n (turns - turn) turn old new r none)

  pub round_more : (n turn : ℕ) (old mid new : Workers W) → Rounds lets does budget n turn old mid → Round lets does budget turn n mid new → Rounds lets does budget n (turn + 1) old new
  round_more n turn old mid new r next = let e : suc turn ≡ turn + 1 = omega arith in subst (λ k. Rounds lets does budget n k old new) e (mid, r, next)

  -- one round more from the start, of at most 64 workers
  pub one_round_more : (turn : ℕ) (start : List (DeskState × W)) (old new : Workers W) → AllGoOn start old.0 → length old.1 ≡ 64 → length start ≤ 64 → Rounds lets does budget (length start) turn (start, replicate 64 false) old → AllSoFar turn start old
      → Round lets does budget turn (length old.0) old new → Rounds lets does budget (length start) (turn + 1) (start, replicate 64 false) new × (length new.1 ≡ 64) × AllSoFar (turn + 1) start new
  one_round_more turn start old new went long few rounds so_far next =
      let round = subst (λ n. Round lets does budget turn n old new) went.count next in (
        round_more (length start) turn (start, replicate 64 false) old new rounds round,
        (round_counts turn (length start) old new round).1 ∙ long,
        all_one_more turn start old new went (omega (arith, long, few)) so_far round,
      )

  pub turn_more : (turn d : ℕ) (old mid new : Workers W) → Round lets does budget turn d old mid → HasTurn lets does budget turn d mid new → Round lets does budget turn (d + 1) old new
  turn_more turn d old mid new r next = let e : suc d ≡ d + 1 = omega arith in subst (λ k. Round lets does budget turn k old new) e (mid, r, next)

  -- one worker after another: the worker at place d, read as p, takes its turns
  module _ (turns d : ℕ) (old mid : List (DeskState × W)) (p p' : DeskState × W) (within : d < length mid) (is : p ≡ get_or mid d p) (rest : (k : ℕ) (x : DeskState × W) → d ≤ k → get_or mid k x ≡ get_or old k x)
      (works : Works (lets p.0.shard.number) does turns budget p p') where
    pub one_done : ((k : ℕ) (x : DeskState × W) → k < length old → k < d → Works (lets (get_or old k x).0.shard.number) does turns budget (get_or old k x) (get_or mid k x))
        → (k : ℕ) (x : DeskState × W) → k < length old → k < d + 1 → Works (lets (get_or old k x).0.shard.number) does turns budget (get_or old k x) (get_or (set mid d p') k x)
    one_done before k x k_in h = go (k == d) refl
      where
        go : (b : Bool) → (k == d) ≡ b → Works (lets (get_or old k x).0.shard.number) does turns budget (get_or old k x) (get_or (set mid d p') k x)
        go true q =
            let same : p ≡ get_or old d x = is ∙ get_or_default mid d p x within ∙ rest d x (le_refl d) in
            let there = subst (λ (z : DeskState × W). Works (lets (get_or old d x).0.shard.number) does turns budget (get_or old d x) z) (sym (get_or-set_same mid d p' x within))
            (subst (λ (z : DeskState × W). Works (lets z.0.shard.number) does turns budget z p') same works) in
            subst (λ i. Works (lets (get_or old i x).0.shard.number) does turns budget (get_or old i x) (get_or (set mid d p') i x)) (sym (eqb-true k d q)) there
        go false q =
            let apart : k ≢ d = λ e. both_ways (k == d) q (eq-eqb k d e) in
            subst (λ (z : DeskState × W). Works (lets (get_or old k x).0.shard.number) does turns budget (get_or old k x) z) (sym (get_or-set_other mid d k p' x apart)) (before k x k_in (omega (arith, apart)))

    pub one_rest : (k : ℕ) (x : DeskState × W) → d + 1 ≤ k → get_or (set mid d p') k x ≡ get_or old k x
    one_rest k x h = let apart : k ≢ d = λ e. absurd (omega arith) in get_or-set_other mid d k p' x apart ∙ rest k x (omega arith)

  -- the turn of the worker at place d, read as p, which has not ended
  pub has_turn : (turn d : ℕ) (desks : List (DeskState × W)) (ended : List Bool) (p p' : DeskState × W) (begins : Bool) → d < length desks → p ≡ get_or desks d p → get_or ended d false ≡ false
      → lets p.0.shard.number p.1 turn begins → MatchBool begins (TakesTurn does budget p p') (p' ≡ p) → HasTurn lets does budget turn d (desks, ended) (set desks d p', set ended d (not begins))
  has_turn turn d desks ended p p' begins within is none gate takes =
      let old : Workers W = (desks, ended) in
      let new : Workers W = (set desks d p', set ended d (not begins)) in
      let same : p ≡ get_or desks d p' = is ∙ get_or_default desks d p p' within in
      let takes_or_ends : TakesOrEnds lets does budget turn d old new
      = record {
        pair = p';
        begins = begins;
        gate = subst (λ (z : DeskState × W). lets z.0.shard.number z.1 turn begins) same gate;
        takes = subst (λ (z : DeskState × W). MatchBool begins (TakesTurn does budget z p') (p' ≡ z)) same takes;
        desks = refl;
        ended = refl;
      } in
      subst (λ b. MatchBool b (new ≡ old) (TakesOrEnds lets does budget turn d old new)) (sym none) takes_or_ends

  -- who has ended, after the turn of the worker at place d
  pub none_more : (turn d : ℕ) (old new : Workers W) → HasTurn lets does budget turn d old new → HaveEnded d old.1 → get_or new.1 d false ≡ true → HaveEnded (d + 1) new.1
  none_more turn d old new h before here k l = go (k == d) refl
    where
      go : (b : Bool) → (k == d) ≡ b → get_or new.1 k false ≡ true
      go true q = ap (λ i. get_or new.1 i false) (eqb-true k d q) ∙ here
      go false q =
          let apart : k ≢ d = λ e. both_ways (k == d) q (eq-eqb k d e) in
          ended_beside turn d old new h k apart ∙ before k (omega (arith, apart))
