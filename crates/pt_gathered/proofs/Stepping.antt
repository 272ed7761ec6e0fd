-- The letters left over, one of them taken out, and one receipt.
use Rattle.std.proofs.Common.{◌≡◌, ℕ, ◌+◌, ◌*◌, ◌^◌, ◌<◌, ◌==◌, ◌&&◌, Bool, true, false, cond, List, [], ◌∷◌, ◌++◌, length, max, map, drop, get_or, set, Option, Some, None, refl, sym, ap, ◌∙◌, subst, append_assoc, append-nil, arith, ⊎_elim}
use Rattle.std.specs.Prelude.{slice_get, ◌⊎◌, Ok, Err}
use Rattle.std.proofs.lemmas.Bool.{eqb-true, eq-eqb, ne_eqb, both_ways, cases_order}
use Rattle.std.proofs.lemmas.List.{get_or_default, get_or-set_same, get_or-set_other, length-set}
use Rattle.pt_signal.specs.declared.letter.Letter.{Letter}
use Rattle.pt_signal.specs.declared.pid.Pid.{Pid}
use Rattle.pt_events.specs.declared.event.Stamped.{Stamped}
use Rattle.pt_events.specs.History.{at_start, sent_by}
use Rattle.pt_events.specs.Journal.{events, letter, clock}
use Rattle.pt_events.specs.Refusals.{AllTrueRefusals, RefusalsAreTrue}
use Rattle.pt_events.proofs.Refusals.{still_true_refusals}
use Rattle.pt_gathered.proofs.Boxes.{put_at}
use Rattle.pt_signal.proofs.Lists.{get_or-map_read, get_or-map_set_same, get_or-map_set_other, map-set_same}
use Rattle.pt_carrier.proofs.Lists.{map-through, length-map_same}
use Rattle.pt_carrier.proofs.Rooms.{place_before}
use Rattle.pt_signal.specs.declared.config.Config.{Config}
use Rattle.pt_shard.specs.declared.stop.Stop.{Stop}
use Rattle.pt_shard.specs.declared.stop.Stop.TheVariants.{Memory, Worn}
use Rattle.pt_shard.specs.ShardState.{ShardState, came_event, put_out, handled, Handles}
use Rattle.pt_shard.specs.Outbox.{held_from}
use Rattle.pt_shard.specs.Fit.{IsFit}
use Rattle.pt_gathered.proofs.Starts.{start_same, same_starts}
use Rattle.pt_gathered.proofs.Owned.{sent_same}
use Rattle.pt_beginning.specs.Beginning.{IsBeginning, start_of}
use Rattle.pt_gathered.specs.Gathered.{GatheredState, IsGathered, IsShardOf, journal_at, box_at, hold_at, over_in}
use Rattle.pt_gathered.specs.Settling.{receipt, replies, replies_to, Receives, Steps}
use Rattle.pt_gathered.specs.Taking.{without_letters, AreShards, TakesOut}
use Rattle.pt_gathered.specs.Waits.{posted_in, StepsPosted}
use Rattle.pt_gathered.proofs.Posted.{steps_posted}
use Rattle.pt_gathered.proofs.Losing.{receipt_keeps}
use Rattle.pt_gathered.proofs.Agreeing.{AllBetween, between_ends, agree_step}

-- which letter is the first ----------------------------------------------------------------

pub hold_is : (shards : List ShardState) (e : ℕ) (s : ShardState) → e < length shards → s ≡ get_or shards e s → hold_at shards e ≡ s.hold
hold_is shards e s h is = get_or-map_read (λ (s : ShardState). s.hold) shards e s None h is

pub box_is : (shards : List ShardState) (d e : ℕ) (s : ShardState) → d < length shards → s ≡ get_or shards d s → box_at shards d e ≡ get_or s.outbox e []
box_is shards d e s h is = ap (λ z. get_or z e []) (get_or-map_read (λ (s : ShardState). s.outbox) shards d s [] h is)

pub lane_is : (lanes : List (List Letter)) (i j : ℕ) (x : List Letter) → i ≡ j → j < length lanes → x ≡ get_or lanes i x → get_or lanes j [] ≡ x
lane_is lanes i j x e h is = get_or_default lanes j [] x h ∙ ap (λ k. get_or lanes k x) (sym e) ∙ sym is

pub held_away : (d : ℕ) (o : Option Letter) (l : Letter) → o ≡ Some l → (l.from.shard ≡ d → ⊥) → held_from d o ≡ []
held_away d o l h n = ap (held_from d) h ∙ rw (ne_eqb l.from.shard d n) refl

pub none_first : (xs : List Letter) → slice_get xs 0 ≡ None → xs ≡ []
none_first [] h = refl
none_first (x ∷ xs) h = absurd (cc)

pub some_first : (xs : List Letter) (l : Letter) → slice_get xs 0 ≡ Some l → xs ≡ l ∷ drop 1 xs
some_first [] l h = absurd (cc)
some_first (x ∷ xs) l h = let e : x ≡ l = cc in ap (λ z. z ∷ xs) e

-- a desk is changed ------------------------------------------------------------------------

pub read_set : {Y : Type 0} (f : ShardState → Y) (shards : List ShardState) (e : ℕ) (s : ShardState) (k : ℕ) (y : Y) → e < length shards
    → get_or (map f (set shards e s)) k y ≡ cond (k == e) (f s) (get_or (map f shards) k y)
read_set f shards e s k y h = go (k == e) refl
  where
    go : (b : Bool) → (k == e) ≡ b → get_or (map f (set shards e s)) k y ≡ cond (k == e) (f s) (get_or (map f shards) k y)
    go true q = rw q (ap (λ i. get_or (map f (set shards e s)) i y) (eqb-true k e q) ∙ get_or-map_set_same f shards e s y h)
    go false q = rw q (get_or-map_set_other f shards e k s y (λ r. both_ways (k == e) q (eq-eqb k e r)))

-- the first letter is taken out --------------------------------------------------------------

module _ (shards : List ShardState) (lanes : List (List Letter)) (d e : ℕ) (d_in : d < length shards) (e_in : e < length shards) where
  -- the one in the hold
  module _ (s : ShardState) (l : Letter) (is : s ≡ get_or shards e s) (holds : s.hold ≡ Some l) (from : l.from.shard ≡ d) where
    emptied : ShardState
    emptied = record s { hold = None }

    held_drop : (i k : ℕ) → held_from i (cond (k == e) None (hold_at shards k)) ++ get_or lanes (i * length shards + k) [] ++ box_at shards i k
        ≡ cond ((i == d) && (k == e)) (drop 1 (over_in shards lanes i k)) (over_in shards lanes i k)
    held_drop i k = go (i == d) refl (k == e) refl
      where
        at : k ≡ e → hold_at shards k ≡ Some l
        at q = ap (hold_at shards) q ∙ hold_is shards e s e_in is ∙ holds

        go : (p : Bool) → (i == d) ≡ p → (q : Bool) → (k == e) ≡ q
            → held_from i (cond (k == e) None (hold_at shards k)) ++ get_or lanes (i * length shards + k) [] ++ box_at shards i k
            ≡ cond ((i == d) && (k == e)) (drop 1 (over_in shards lanes i k)) (over_in shards lanes i k)
        go true p true q = rw (p, q, at (eqb-true k e q), eq-eqb l.from.shard i (from ∙ sym (eqb-true i d p))) refl
        go true p false q = rw (p, q) refl
        go false p true q =
            let away : held_from i (hold_at shards k) ≡ [] = held_away i (hold_at shards k) l (at (eqb-true k e q)) (λ r. both_ways (i == d) p (eq-eqb i d (sym r ∙ from))) in
            rw (p, q, away) refl
        go false p false q = rw (p, q) refl

    held_posted : (i k : ℕ) (rest : List Letter) → held_from i (cond (k == e) None (hold_at shards k)) ++ rest
        ≡ cond ((i == d) && (k == e)) (drop 1 (held_from i (hold_at shards k) ++ rest)) (held_from i (hold_at shards k) ++ rest)
    held_posted i k rest = go (i == d) refl (k == e) refl
      where
        at : k ≡ e → hold_at shards k ≡ Some l
        at q = ap (hold_at shards) q ∙ hold_is shards e s e_in is ∙ holds

        go : (p : Bool) → (i == d) ≡ p → (q : Bool) → (k == e) ≡ q
            → held_from i (cond (k == e) None (hold_at shards k)) ++ rest
            ≡ cond ((i == d) && (k == e)) (drop 1 (held_from i (hold_at shards k) ++ rest)) (held_from i (hold_at shards k) ++ rest)
        go true p true q = rw (p, q, at (eqb-true k e q), eq-eqb l.from.shard i (from ∙ sym (eqb-true i d p))) refl
        go true p false q = rw (p, q) refl
        go false p true q =
            let away : held_from i (hold_at shards k) ≡ [] = held_away i (hold_at shards k) l (at (eqb-true k e q)) (λ r. both_ways (i == d) p (eq-eqb i d (sym r ∙ from))) in
            rw (p, q, away) refl
        go false p false q = rw (p, q) refl

    boxes_same : map (λ (s : ShardState). s.outbox) (set shards e (record s { hold = None })) ≡ map (λ (s : ShardState). s.outbox) shards
    boxes_same = map-set_same (λ (s : ShardState). s.outbox) shards e s (record s { hold = None }) e_in is refl

    pub takes_hold : TakesOut d e shards (set shards e (record s { hold = None })) lanes lanes
    takes_hold = record {
      bare_same = map-set_same without_letters shards e s (record s { hold = None }) e_in is refl;
      lane_count = refl;
      over = λ i k hi hk.
          rw (length-set shards e (record s { hold = None }), boxes_same, read_set (λ (s : ShardState). s.hold) shards e (record s { hold = None }) k None e_in) (held_drop i k);
      posted = λ i k hi hk.
          rw (length-set shards e (record s { hold = None }), read_set (λ (s : ShardState). s.hold) shards e (record s { hold = None }) k None e_in)
          (held_posted i k (get_or lanes (i * length shards + k) []));
    }

  -- the first in the lane
  module _ (square : length lanes ≡ length shards * length shards) (held : held_from d (hold_at shards e) ≡ []) where
    place_one : (i k : ℕ) → i < length shards → k < length shards → i * length shards + k ≡ d * length shards + e → (i ≡ d) × (k ≡ e)
    place_one i k hi hk q =
        ⊎_elim (λ (r : i ≡ d). (r, let t = ap (λ z. z * length shards) r in omega arith))
        (λ (r : (i < d) ⊎ (d < i)).
        absurd (⊎_elim (λ (a : i < d). let t = place_before i k d (length shards) a hk in omega arith) (λ (a : d < i). let t = place_before d e i (length shards) a e_in in omega arith) r))
        (cases_order i d)

    place_in : d * length shards + e < length lanes
    place_in = let t = place_before d e (length shards) (length shards) d_in e_in in omega arith

    pub takes_lane : (n : ℕ) (x : List Letter) → n ≡ d * length shards + e → x ≡ get_or lanes n x → 0 < length x → TakesOut d e shards shards lanes (set lanes n (drop 1 x))
    takes_lane n x at is some = record {
      bare_same = refl;
      lane_count = length-set lanes n (drop 1 x);
      over = λ i k hi hk. subst (λ m. held_from i (hold_at shards k) ++ get_or (set lanes m (drop 1 x)) (i * length shards + k) [] ++ box_at shards i k
          ≡ cond ((i == d) && (k == e)) (drop 1 (over_in shards lanes i k)) (over_in shards lanes i k)) (sym at) (go i k hi hk (i == d) refl (k == e) refl);
      posted = λ i k hi hk. subst (λ m. held_from i (hold_at shards k) ++ get_or (set lanes m (drop 1 x)) (i * length shards + k) []
          ≡ cond ((i == d) && (k == e)) (drop 1 (posted_in shards lanes i k)) (posted_in shards lanes i k)) (sym at) (posted_go i k hi hk (i == d) refl (k == e) refl);
    }
      where
        lane : get_or lanes (d * length shards + e) [] ≡ x
        lane = lane_is lanes n (d * length shards + e) x at place_in is

        dropped : (xs ys : List Letter) → 0 < length xs → drop 1 xs ++ ys ≡ drop 1 (xs ++ ys)
        dropped [] ys h = absurd (omega arith)
        dropped (x ∷ xs) ys h = refl

        other : (i k : ℕ) → i < length shards → k < length shards → ((i ≡ d) × (k ≡ e) → ⊥)
            → get_or (set lanes (d * length shards + e) (drop 1 x)) (i * length shards + k) [] ≡ get_or lanes (i * length shards + k) []
        other i k hi hk n = get_or-set_other lanes (d * length shards + e) (i * length shards + k) (drop 1 x) [] (λ q. n (place_one i k hi hk q))

        go : (i k : ℕ) → i < length shards → k < length shards → (p : Bool) → (i == d) ≡ p → (q : Bool) → (k == e) ≡ q
            → held_from i (hold_at shards k) ++ get_or (set lanes (d * length shards + e) (drop 1 x)) (i * length shards + k) [] ++ box_at shards i k
            ≡ cond ((i == d) && (k == e)) (drop 1 (over_in shards lanes i k)) (over_in shards lanes i k)
        go i k hi hk true p true q =
            let Same : ℕ → ℕ → Type 0 = λ i k. held_from i (hold_at shards k) ++ get_or (set lanes (d * length shards + e) (drop 1 x)) (i * length shards + k) [] ++ box_at shards i k ≡ drop 1 (over_in shards lanes i k) in
            let here : Same d e = rw (held, get_or-set_same lanes (d * length shards + e) (drop 1 x) [] place_in, lane) (dropped x (box_at shards d e) some) in
            rw (p, q) (subst (λ i. Same i k) (sym (eqb-true i d p)) (subst (Same d) (sym (eqb-true k e q)) here))
        go i k hi hk true p false q = rw (p, q, other i k hi hk (λ r. both_ways (k == e) q (eq-eqb k e r.1))) refl
        go i k hi hk false p q' q = rw (p, other i k hi hk (λ r. both_ways (i == d) p (eq-eqb i d r.0))) refl

        posted_go : (i k : ℕ) → i < length shards → k < length shards → (p : Bool) → (i == d) ≡ p → (q : Bool) → (k == e) ≡ q
            → held_from i (hold_at shards k) ++ get_or (set lanes (d * length shards + e) (drop 1 x)) (i * length shards + k) []
            ≡ cond ((i == d) && (k == e)) (drop 1 (posted_in shards lanes i k)) (posted_in shards lanes i k)
        posted_go i k hi hk true p true q =
            let Same : ℕ → ℕ → Type 0 = λ i k. held_from i (hold_at shards k) ++ get_or (set lanes (d * length shards + e) (drop 1 x)) (i * length shards + k) [] ≡ drop 1 (posted_in shards lanes i k) in
            let here : Same d e = rw (held, get_or-set_same lanes (d * length shards + e) (drop 1 x) [] place_in, lane) refl in
            rw (p, q) (subst (λ i. Same i k) (sym (eqb-true i d p)) (subst (Same d) (sym (eqb-true k e q)) here))
        posted_go i k hi hk true p false q = rw (p, q, other i k hi hk (λ r. both_ways (k == e) q (eq-eqb k e r.1))) refl
        posted_go i k hi hk false p q' q = rw (p, other i k hi hk (λ r. both_ways (i == d) p (eq-eqb i d r.0))) refl

    -- the first that was not posted
    pub takes_box : (s : ShardState) → s ≡ get_or shards d s → get_or lanes (d * length shards + e) [] ≡ [] → e < length s.outbox
        → TakesOut d e shards (set shards d (record s { outbox = set s.outbox e (drop 1 (get_or s.outbox e [])) })) lanes lanes
    takes_box s is empty room = record {
      bare_same = map-set_same without_letters shards d s (record s { outbox = set s.outbox e (drop 1 (get_or s.outbox e [])) }) d_in is refl;
      lane_count = refl;
      over = λ i k hi hk.
          rw (length-set shards d (record s { outbox = set s.outbox e (drop 1 (get_or s.outbox e [])) }), holds, read_set (λ (s : ShardState). s.outbox) shards d (record s { outbox = set s.outbox e (drop 1 (get_or s.outbox e [])) }) i [] d_in)
          (go i k (i == d) refl (k == e) refl);
      posted = λ i k hi hk.
          rw (length-set shards d (record s { outbox = set s.outbox e (drop 1 (get_or s.outbox e [])) }), holds) (posted_go i k (i == d) refl (k == e) refl);
    }
      where
        posted_go : (i k : ℕ) (p : Bool) → (i == d) ≡ p → (q : Bool) → (k == e) ≡ q
            → posted_in shards lanes i k ≡ cond ((i == d) && (k == e)) (drop 1 (posted_in shards lanes i k)) (posted_in shards lanes i k)
        posted_go i k true p true q =
            let Same : ℕ → ℕ → Type 0 = λ i k. posted_in shards lanes i k ≡ drop 1 (posted_in shards lanes i k) in
            let here : Same d e = rw (held, empty) refl in
            rw (p, q) (subst (λ i. Same i k) (sym (eqb-true i d p)) (subst (Same d) (sym (eqb-true k e q)) here))
        posted_go i k true p false q = rw (p, q) refl
        posted_go i k false p q' q = rw p refl

        holds : map (λ (s : ShardState). s.hold) (set shards d (record s { outbox = set s.outbox e (drop 1 (get_or s.outbox e [])) })) ≡ map (λ (s : ShardState). s.hold) shards
        holds = map-set_same (λ (s : ShardState). s.hold) shards d s (record s { outbox = set s.outbox e (drop 1 (get_or s.outbox e [])) }) d_in is refl

        go : (i k : ℕ) (p : Bool) → (i == d) ≡ p → (q : Bool) → (k == e) ≡ q
            → held_from i (hold_at shards k) ++ get_or lanes (i * length shards + k) [] ++ get_or (cond (i == d) (set s.outbox e (drop 1 (get_or s.outbox e []))) (get_or (map (λ (s : ShardState). s.outbox) shards) i [])) k []
            ≡ cond ((i == d) && (k == e)) (drop 1 (over_in shards lanes i k)) (over_in shards lanes i k)
        go i k true p true q =
            let Same : ℕ → ℕ → Type 0 = λ i k. held_from i (hold_at shards k) ++ get_or lanes (i * length shards + k) [] ++ get_or (set s.outbox e (drop 1 (get_or s.outbox e []))) k [] ≡ drop 1 (over_in shards lanes i k) in
            let here : Same d e = rw (held, empty, get_or-set_same s.outbox e (drop 1 (get_or s.outbox e [])) [] room, box_is shards d e s d_in is) refl in
            rw (p, q) (subst (λ i. Same i k) (sym (eqb-true i d p)) (subst (Same d) (sym (eqb-true k e q)) here))
        go i k true p false q =
            let box : get_or s.outbox k [] ≡ box_at shards i k = sym (box_is shards d k s d_in is) ∙ ap (λ z. box_at shards z k) (sym (eqb-true i d p)) in
            rw (p, q, get_or-set_other s.outbox e k (drop 1 (get_or s.outbox e [])) [] (λ r. both_ways (k == e) q (eq-eqb k e r)), box) refl
        go i k false p q' q = rw p refl

-- one receipt ------------------------------------------------------------------------------------

module _ (config : Config) (shards : List ShardState) (lanes : List (List Letter)) (whole : IsGathered (record { config = config; shards = shards; lanes = lanes })) (d e : ℕ) (d_in : d < length shards) (e_in : e < length shards)
    (s s' : ShardState) (is : s ≡ get_or shards e s) (l : Letter) (first : slice_get (over_in shards lanes d e) 0 ≡ Some l) where
  abbrev old_node : GatheredState
  old_node = record { config = config; shards = shards; lanes = lanes }

  desk : IsShardOf config e s
  desk = subst (IsShardOf config e) (sym is) (whole.shards e s e_in)

  journal_is : journal_at shards e ≡ s.journal
  journal_is = get_or-map_read (λ (s : ShardState). s.journal) shards e s [] e_in is

  clock_is : s.clock ≡ clock config.start (journal_at shards e)
  clock_is = desk.fit.clock_is ∙ ap (λ c. clock c.start s.journal) desk.config_is ∙ ap (clock config.start) (sym journal_is)

  first_is : over_in shards lanes d e ≡ l ∷ drop 1 (over_in shards lanes d e)
  first_is = some_first (over_in shards lanes d e) l first

  ends_are : (l.from.shard ≡ d) × (l.to.shard ≡ e)
  ends_are = (subst (AllBetween d e) first_is (between_ends old_node whole d e d_in e_in)).0

  pub worn_at : max s.clock l.stamp ≡ max (clock config.start (journal_at shards e)) l.stamp
  worn_at = ap (λ c. max c l.stamp) clock_is

  module _ (after : s' ≡ handled l s) (can : max s.clock l.stamp < 2 ^ 62) (shards2 : List ShardState) (lanes2 : List (List Letter))
      (took : TakesOut d e (set shards e s') shards2 lanes lanes2) where
    abbrev new_node : GatheredState
    new_node = record { config = config; shards = shards2; lanes = lanes2 }

    count1 : length (set shards e s') ≡ length shards
    count1 = length-set shards e s'

    count2 : length shards2 ≡ length shards
    count2 = length-map_same without_letters shards2 (set shards e s') took.bare_same ∙ count1

    same_begins : start_of shards2 ≡ start_of shards
    same_begins =
        same_starts shards shards2 (map-through without_letters (λ (z : ShardState). z.start) shards2 (set shards e s') took.bare_same ∙ map-set_same (λ (z : ShardState). z.start) shards e s s' e_in is (ap (λ (z : ShardState). z.start) after))

    -- what the receipt sends, by the start of its desk and by that of all
    same_sent : sent_by s.start (events s.journal) (came_event l) ≡ sent_by (start_of shards) (events s.journal) (came_event l)
    same_sent =
        sent_same s.start (start_of shards) e (subst (λ (z : ShardState). (p : Pid) → p.shard ≡ e → at_start z.start p ≡ at_start (start_of shards) p) (sym is) (start_same config shards whole.shards e s e_in))
        (events s.journal) (came_event l) ends_are.1

    stamp_is : (receipt config.start e l (journal_at shards e)).stamp ≡ max s.clock l.stamp + 1
    stamp_is = ap (λ n. n + 1) (sym worn_at)

    new_journal : s'.journal ≡ receipt config.start e l (journal_at shards e) ∷ journal_at shards e
    new_journal = ap (λ (z : ShardState). z.journal) after ∙ rw (stamp_is, journal_is, desk.number) refl

    journal_two : (k : ℕ) → journal_at shards2 k ≡ cond (k == e) (receipt config.start e l (journal_at shards e) ∷ journal_at shards k) (journal_at shards k)
    journal_two k =
        ap (λ js. get_or js k []) (map-through without_letters (λ (z : ShardState). z.journal) shards2 (set shards e s') took.bare_same)
        ∙ read_set (λ (z : ShardState). z.journal) shards e s' k [] e_in ∙ go (k == e) refl
      where
        go : (b : Bool) → (k == e) ≡ b → cond (k == e) s'.journal (journal_at shards k) ≡ cond (k == e) (receipt config.start e l (journal_at shards e) ∷ journal_at shards k) (journal_at shards k)
        go true q = rw q (new_journal ∙ ap (λ i. receipt config.start e l (journal_at shards e) ∷ journal_at shards i) (sym (eqb-true k e q)))
        go false q = rw q refl

    -- the letters after the receipt, before the first is taken out
    box_one : (i k : ℕ) → k < length shards → box_at (set shards e s') i k ≡ box_at shards i k ++ cond (i == e) (replies_to (start_of shards) config.start e l (journal_at shards e) k) []
    box_one i k hk = ap (λ z. get_or z k []) (read_set (λ (z : ShardState). z.outbox) shards e s' i [] e_in) ∙ go (i == e) refl
      where
        room : k < length s.outbox
        room = omega (arith, hk, desk.fit.boxes, ap (λ c. c.desks) desk.config_is, whole.desks)

        new_box : s'.outbox ≡ put_out s.outbox (replies (start_of shards) config.start e l (journal_at shards e))
        new_box =
            ap (λ (z : ShardState). z.outbox) after ∙ rw (stamp_is, journal_is) (ap (λ z. put_out s.outbox (map (letter (max s.clock l.stamp + 1)) z)) same_sent)

        go : (b : Bool) → (i == e) ≡ b → get_or (cond (i == e) s'.outbox (get_or (map (λ (z : ShardState). z.outbox) shards) i [])) k []
            ≡ box_at shards i k ++ cond (i == e) (replies_to (start_of shards) config.start e l (journal_at shards e) k) []
        go true q =
            let at : get_or s.outbox k [] ≡ box_at shards i k = sym (box_is shards e k s e_in is) ∙ ap (λ z. box_at shards z k) (sym (eqb-true i e q)) in
            rw q (ap (λ z. get_or z k []) new_box ∙ put_at s.outbox (replies (start_of shards) config.start e l (journal_at shards e)) k room ∙ ap (λ z. z ++ replies_to (start_of shards) config.start e l (journal_at shards e) k) at)
        go false q = rw q (sym (append-nil (box_at shards i k)))

    holds_one : map (λ (z : ShardState). z.hold) (set shards e s') ≡ map (λ (z : ShardState). z.hold) shards
    holds_one = map-set_same (λ (z : ShardState). z.hold) shards e s s' e_in is (ap (λ (z : ShardState). z.hold) after)

    over_one : (i k : ℕ) → k < length shards → over_in (set shards e s') lanes i k ≡ over_in shards lanes i k ++ cond (i == e) (replies_to (start_of shards) config.start e l (journal_at shards e) k) []
    over_one i k hk =
        ap (λ h. held_from i (get_or h k None) ++ get_or lanes (i * length (set shards e s') + k) [] ++ box_at (set shards e s') i k) holds_one
        ∙ ap (λ n. held_from i (hold_at shards k) ++ get_or lanes (i * n + k) [] ++ box_at (set shards e s') i k) count1
        ∙ ap (λ z. held_from i (hold_at shards k) ++ get_or lanes (i * length shards + k) [] ++ z) (box_one i k hk)
        ∙ sym (append_assoc (held_from i (hold_at shards k) ++ get_or lanes (i * length shards + k) []) (box_at shards i k) (cond (i == e) (replies_to (start_of shards) config.start e l (journal_at shards e) k) []))

    over_two : (i k : ℕ) → i < length shards → k < length shards
        → over_in shards2 lanes2 i k ≡ cond ((i == d) && (k == e)) (drop 1 (over_in shards lanes i k)) (over_in shards lanes i k) ++ cond (i == e) (replies_to (start_of shards) config.start e l (journal_at shards e) k) []
    over_two i k hi hk = took.over i k (omega (arith, hi, count1)) (omega (arith, hk, count1)) ∙ go (i == d) refl (k == e) refl
      where
        more : List Letter
        more = cond (i == e) (replies_to (start_of shards) config.start e l (journal_at shards e) k) []

        dropped : (xs ys zs : List Letter) → xs ≡ l ∷ zs → drop 1 (xs ++ ys) ≡ drop 1 xs ++ ys
        dropped xs ys zs h = rw h refl

        go : (p : Bool) → (i == d) ≡ p → (q : Bool) → (k == e) ≡ q
            → cond ((i == d) && (k == e)) (drop 1 (over_in (set shards e s') lanes i k)) (over_in (set shards e s') lanes i k)
            ≡ cond ((i == d) && (k == e)) (drop 1 (over_in shards lanes i k)) (over_in shards lanes i k) ++ cond (i == e) (replies_to (start_of shards) config.start e l (journal_at shards e) k) []
        go true p true q =
            let at : over_in shards lanes i k ≡ l ∷ drop 1 (over_in shards lanes d e) = ap (λ z. over_in shards lanes z k) (eqb-true i d p) ∙ ap (over_in shards lanes d) (eqb-true k e q) ∙ first_is in
            rw (p, q) (ap (drop 1) (over_one i k hk) ∙ dropped (over_in shards lanes i k) more (drop 1 (over_in shards lanes d e)) at)
        go true p false q = rw (p, q) (over_one i k hk)
        go false p q' q = rw p (over_one i k hk)

    posted_one : (i k : ℕ) → posted_in (set shards e s') lanes i k ≡ posted_in shards lanes i k
    posted_one i k =
        ap (λ h. held_from i (get_or h k None) ++ get_or lanes (i * length (set shards e s') + k) []) holds_one
        ∙ ap (λ n. held_from i (hold_at shards k) ++ get_or lanes (i * n + k) []) count1

    pub posted_steps : StepsPosted d e old_node (Ok true) new_node
    posted_steps = steps_posted d e old_node new_node d_in e_in (λ i k hi hk.
        took.posted i k (omega (arith, hi, count1)) (omega (arith, hk, count1)) ∙ ap (λ xs. cond ((i == d) && (k == e)) (drop 1 xs) xs) (posted_one i k))

    pub receives : Receives d e l old_node new_node
    receives = record {
      config = refl;
      start = same_begins;
      count = count2;
      first = first_is;
      from = ends_are.0;
      to = ends_are.1;
      within = omega (arith, can, worn_at);
      journal = λ k h. journal_two k;
      left = over_two;
      losses_kept = receipt_keeps shards shards2 e s s' l e_in is after took.bare_same count2;
    }

    -- what desk k wrote
    abbrev more : ℕ → List Stamped
    more k = cond (k == e) (receipt config.start e l (journal_at shards e) ∷ []) []

    grew : (k : ℕ) → journal_at shards2 k ≡ more k ++ journal_at shards k
    grew k = journal_two k ∙ go (k == e)
      where
        go : (b : Bool)
            → cond b (receipt config.start e l (journal_at shards e) ∷ journal_at shards k) (journal_at shards k)
            ≡ cond b (receipt config.start e l (journal_at shards e) ∷ []) [] ++ journal_at shards k
        go true = refl
        go false = refl

    -- a receipt is no refused call, and those that there are stay true
    refusals_on : RefusalsAreTrue (start_of shards) (journal_at shards2)
    refusals_on k =
        subst (AllTrueRefusals (start_of shards) (journal_at shards2)) (sym (grew k))
        (go (k == e) (still_true_refusals (start_of shards) (journal_at shards) (journal_at shards2) more grew (journal_at shards k) (whole.refusals k)))
      where
        go : (b : Bool) → AllTrueRefusals (start_of shards) (journal_at shards2) (journal_at shards k)
            → AllTrueRefusals (start_of shards) (journal_at shards2) (cond b (receipt config.start e l (journal_at shards e) ∷ []) [] ++ journal_at shards k)
        go true h = (tt, h)
        go false h = h

    refusals_two : RefusalsAreTrue (start_of shards2) (journal_at shards2)
    refusals_two =
        subst (λ b. RefusalsAreTrue b (journal_at shards2)) (sym same_begins) refusals_on

    pub gathered_after : AreShards config shards2 → IsGathered new_node
    gathered_after fit = record {
      some = omega (arith, whole.some, count2);
      desks = count2 ∙ whole.desks;
      lanes = took.lane_count ∙ whole.lanes ∙ ap (λ n. n * n) (sym count2);
      shards = fit;
      agree = λ i k hi hk. agree_step old_node new_node whole d e l receives d_in e_in i k (omega (arith, hi, count2)) (omega (arith, hk, count2));
      refusals = refusals_two;
      begun = subst (IsBeginning config.start) (sym same_begins) whole.begun;
    }

-- the receiver and the sender of the first letter are of the two desks
pub handle_here : (config : Config) (shards : List ShardState) (lanes : List (List Letter)) → IsGathered (record { config = config; shards = shards; lanes = lanes }) → (d e : ℕ) → d < length shards → e < length shards
    → (s : ShardState) → s ≡ get_or shards e s → (l : Letter) → slice_get (over_in shards lanes d e) 0 ≡ Some l → (l.to.shard ≡ s.number) × (l.from.shard < s.config.desks)
handle_here config shards lanes whole d e d_in e_in s is l first =
    let desk = subst (IsShardOf config e) (sym is) (whole.shards e s e_in) in
    let ends = (subst (AllBetween d e) (some_first (over_in shards lanes d e) l first) (between_ends (record { config = config; shards = shards; lanes = lanes }) whole d e d_in e_in)).0 in
    (ends.1 ∙ sym desk.number, omega (arith, ends.0, d_in, whole.desks, ap (λ c. c.desks) desk.config_is))

-- a letter that is not handled changes nothing
pub handled_not : (l : Letter) (s s' : ShardState) (stop : Stop) → Handles l s (Err stop) s' → s' ≡ s
handled_not l s s' Memory h = h.1
handled_not l s s' Worn h = h.1

pub step_not : (d e : ℕ) (node : GatheredState) (l : Letter) (s s' : ShardState) (stop : Stop) → Handles l s (Err stop) s'
    → max s.clock l.stamp ≡ max (clock node.config.start (journal_at node.shards e)) l.stamp → slice_get (over_in node.shards node.lanes d e) 0 ≡ Some l → Steps d e node (Err stop) node
step_not d e node l s s' Memory h at first = (l, omega (arith, h.0, at), some_first (over_in node.shards node.lanes d e) l first, refl)
step_not d e node l s s' Worn h at first = (l, omega (arith, h.0, at), some_first (over_in node.shards node.lanes d e) l first, refl)

-- each desk is that of its number, also after one of them has handled a letter
pub shards_after : (config : Config) (shards : List ShardState) (e : ℕ) (s s' : ShardState) (l : Letter) → AreShards config shards → e < length shards → s ≡ get_or shards e s
    → s' ≡ handled l s → IsFit s' → AreShards config (set shards e s')
shards_after config shards e s s' l all e_in is after fit k x h = go (k == e) refl
  where
    here : IsShardOf config e s'
    here =
        let desk = subst (IsShardOf config e) (sym is) (all e s e_in) in
        record { number = ap (λ (z : ShardState). z.number) after ∙ desk.number; config_is = ap (λ (z : ShardState). z.config) after ∙ desk.config_is; fit = fit }

    go : (b : Bool) → (k == e) ≡ b → IsShardOf config k (get_or (set shards e s') k x)
    go true q =
        let at : get_or (set shards e s') k x ≡ s' = ap (λ i. get_or (set shards e s') i x) (eqb-true k e q) ∙ get_or-set_same shards e s' x e_in in
        subst (IsShardOf config k) (sym at) (subst (λ i. IsShardOf config i s') (sym (eqb-true k e q)) here)
    go false q =
        let at : get_or (set shards e s') k x ≡ get_or shards k x = get_or-set_other shards e k s' x (λ r. both_ways (k == e) q (eq-eqb k e r)) in
        subst (IsShardOf config k) (sym at) (all k x (omega (arith, h, length-set shards e s')))
