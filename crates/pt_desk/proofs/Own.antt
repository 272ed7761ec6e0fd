-- The letters of a desk to itself go by their lane: each is posted before any of them is handled.
use Rattle.std.proofs.Common.{◌≡◌, ◌≢◌, ℕ, suc, ◌+◌, ◌-◌, ◌^◌, ◌<◌, ◌≤◌, ◌==◌, ◌⊎◌, inl, inr, Bool, true, false, List, [], ◌∷◌, ◌++◌, length, filter, max, min, take, drop, get_or, set, Some, None, Result, Ok, Err, refl, sym, ap, ◌∙◌, subst, arith, append_assoc, append-nil, length-append, length-set, take_all, length-take-le, take-suc, drop-cons, drop-drop, set-set, length-drop, take-append-drop}
use Rattle.std.proofs.lemmas.Bool.{eqb-true, eq-eqb, both_ways}
use Rattle.std.proofs.lemmas.List.{get_or-set_same, get_or-set_other, ext_get_or, drop-append-le, drop_all, set-get_or}
use Rattle.std.proofs.lemmas.Bool.{cases_lt}
use Rattle.std.proofs.Math.Seq.{take-append_seam}
use Rattle.pt_signal.specs.declared.letter.Letter.{Letter}
use Rattle.pt_carrier.specs.Ends.{OutEnds, InEnds, HasPlaces, more_of}
use Rattle.pt_shard.specs.Boxes.{put_out}
use Rattle.pt_shard.specs.ShardState.{ShardState, handled, came_event, sends}
use Rattle.pt_shard.specs.Outbox.{sent_on_some, holding}
use Rattle.pt_shard.specs.declared.stop.Stop.{Stop}
use Rattle.pt_shard.specs.declared.stop.Stop.TheVariants.{Memory, Worn}
use Rattle.pt_shard.proofs.Boxes.{put_count, put_at}
use Rattle.pt_desk.specs.declared.turned.Turned.{Turned}
use Rattle.pt_desk.specs.DeskState.{DeskState, GoesOn, posted_to, waits_for}
use Rattle.pt_desk.specs.Posting.{total, Posts, PostsTo}
use Rattle.pt_desk.specs.Turns.{Fetches, HandlesNext, HandlesAll, Stays, FindsNone, Turns, handled_held}
use Rattle.pt_desk.proofs.Turning.{turn_goes_on}
use Rattle.pt_desk.specs.Own.{IsAlone, IsClear, IsClearUnless, MayGoBy, HandlesOwn, PostsLeft, posting, waits_here}

-- what is taken from the front of a list and what is put out do not touch each other
module _ (boxes : List (List Letter)) (ls : List Letter) (e r : ℕ) (e_in : e < length boxes) (within : r ≤ length (get_or boxes e [])) where
  abbrev front : List Letter
  front = drop r (get_or boxes e [])

  abbrev before : List (List Letter)
  before = put_out (set boxes e front) ls

  abbrev after : List (List Letter)
  after = set (put_out boxes ls) e (drop r (get_or (put_out boxes ls) e []))

  count_before : length before ≡ length boxes
  count_before = put_count (set boxes e front) ls ∙ length-set boxes e front

  as_many : length before ≡ length after
  as_many = count_before ∙ sym (length-set (put_out boxes ls) e (drop r (get_or (put_out boxes ls) e [])) ∙ put_count boxes ls)

  here : get_or before e [] ≡ get_or after e []
  here =
      put_at (set boxes e front) ls e (omega (arith, e_in, length-set boxes e front))
      ∙ ap (λ z. z ++ filter (λ l. l.to.shard == e) ls) (get_or-set_same boxes e front [] e_in)
      ∙ sym (get_or-set_same (put_out boxes ls) e (drop r (get_or (put_out boxes ls) e [])) [] (omega (arith, e_in, put_count boxes ls))
      ∙ ap (drop r) (put_at boxes ls e e_in) ∙ drop-append-le r (get_or boxes e []) (filter (λ l. l.to.shard == e) ls) within)

  at : (k : ℕ) → k < length before → (b : Bool) → (k == e) ≡ b → get_or before k [] ≡ get_or after k []
  at k h true q = subst (λ k. get_or before k [] ≡ get_or after k []) (sym (eqb-true k e q)) here
  at k h false q =
      let ne : k ≢ e = λ r. both_ways (k == e) q (eq-eqb k e r) in
      put_at (set boxes e front) ls k (omega (arith, h, count_before, length-set boxes e front))
      ∙ ap (λ z. z ++ filter (λ l. l.to.shard == k) ls) (get_or-set_other boxes e k front [] ne)
      ∙ sym (get_or-set_other (put_out boxes ls) e k (drop r (get_or (put_out boxes ls) e [])) [] ne ∙ put_at boxes ls k (omega (arith, h, count_before)))

  drop_put : before ≡ after
  drop_put = ext_get_or [] before after as_many (λ k h. at k h (k == e) refl)

-- a letter is handled, and others are posted: in whichever order
handled_sent : (l : Letter) (e r : ℕ) (s : ShardState) → e < length s.outbox → r ≤ length (get_or s.outbox e []) → sent_on_some e r (handled l s) ≡ handled l (sent_on_some e r s)
handled_sent l e r s e_in within =
    ap (λ (b : List (List Letter)). record (handled l s) { outbox = b }) (sym (drop_put s.outbox (sends (max s.clock l.stamp + 1) (came_event l) s) e r e_in within))

posting_handled : (l : Letter) (r : ℕ) (o : OutEnds) (f : DeskState) → f.shard.number < length f.shard.outbox → r ≤ length (waits_here f) → posting r o (handled_held l f) ≡ handled_held l (posting r o f)
posting_handled l r o f n_in within =
    ap (λ (s : ShardState). record f { shard = s; outs = o }) (handled_sent l f.shard.number r (holding None f.shard) n_in within)

posting_twice : (r : ℕ) (o o1 : OutEnds) (d : DeskState) → d.shard.number < length d.shard.outbox → posting r o (posting 1 o1 d) ≡ posting (1 + r) o d
posting_twice r o o1 d n_in =
    let b = d.shard.outbox in
    let n = d.shard.number in
    let rest = drop 1 (get_or b n []) in
    ap (λ (z : List (List Letter)). record d { shard = record d.shard { outbox = z }; outs = o })
    (ap (λ z. set (set b n rest) n (drop r z)) (get_or-set_same b n rest [] n_in) ∙ set-set b n rest (drop r rest) ∙ ap (set b n) (drop-drop r 1 (get_or b n [])))

posting_none : (d : DeskState) → posting 0 d.outs d ≡ d
posting_none d = ap (λ (z : List (List Letter)). record d { shard = record d.shard { outbox = z } }) (set-get_or d.shard.outbox d.shard.number [])

fetched_boxes : (l : Letter) (a f : DeskState) → Fetches l a f → (f.shard.number ≡ a.shard.number) × (f.shard.outbox ≡ a.shard.outbox)
fetched_boxes l a f h = elim h [
  | inl same ↦ (ap (λ (d : DeskState). d.shard.number) same.1, ap (λ (d : DeskState). d.shard.outbox) same.1)
  | inr takes ↦ (ap (λ (s : ShardState). s.number) takes.shard, ap (λ (s : ShardState). s.outbox) takes.shard)
]

fetches_posting : (l : Letter) (r : ℕ) (o : OutEnds) (a f : DeskState) → Fetches l a f → Fetches l (posting r o a) (posting r o f)
fetches_posting l r o a f h = elim h [
  | inl same ↦ inl (same.0, ap (posting r o) same.1)
  | inr takes ↦ inr (record {
    free = takes.free;
    shard = ap (λ (s : ShardState). sent_on_some s.number r s) takes.shard;
    outs = refl;
    sight = takes.sight;
    place = takes.place;
    collects = takes.collects;
    first = takes.first;
  })
]

-- so what is done with a letter is done with it where others were posted before, too
module _ (l : Letter) (r : ℕ) (o : OutEnds) (a b : DeskState) (n_in : a.shard.number < length a.shard.outbox) (within : r ≤ length (waits_here a)) where
  next_posting : HandlesNext l a b → HandlesNext l (posting r o a) (posting r o b)
  next_posting h =
      let f = h.fetched in
      let boxes = fetched_boxes l a f h.fetches in
      let all : waits_here f ≡ waits_here a = λ i. get_or (boxes.1 i) (boxes.0 i) [] in
      record {
        fetched = posting r o f;
        fetches = fetches_posting l r o a f h.fetches;
        within = h.within;
        after = ap (posting r o) h.after ∙ posting_handled l r o f (omega (arith, n_in, boxes.0, ap length boxes.1)) (omega (arith, within, ap length all));
      }

stays_posting : (stop : Stop) (r : ℕ) (o : OutEnds) (a b : DeskState) → Stays stop a b → Stays stop (posting r o a) (posting r o b)
stays_posting Worn r o a b h = (h.0, fetches_posting h.0 r o a b h.1, h.2)
stays_posting Memory r o a b h = (h.0, fetches_posting h.0 r o a b h.1, h.2)

-- so many letters went by, and the rest is to be posted
pub record GoneBy (k : ℕ) (old new : DeskState) : Type 0 where
  pub alone : IsAlone new
  pub place : new.outs.place ≡ old.outs.place
  pub capacity : new.outs.capacity ≡ old.outs.capacity
  pub posted : posted_to new 0 ≡ posted_to old 0 ++ take k (waits_for old 0)
  pub seen : get_or old.outs.seen 0 0 ≤ get_or new.outs.seen 0 0
  pub more : List Letter
  pub waits : waits_for new 0 ≡ drop k (waits_for old 0) ++ more
  pub known : (k ≡ 0) ⊎ (get_or new.ins.known 0 [] ≡ [])

-- and these letters were handled, whatever was posted behind them
pub record HaveGone (k : ℕ) (old new : DeskState) : Type 0 where
  pub letters : List Letter
  pub long : length letters ≡ k
  pub clear : IsClear new
  pub gone : GoneBy k old new
  pub chain : (r : ℕ) (o : OutEnds) → k + r ≡ length (waits_for old 0) → HandlesAll letters (posting (k + r) o old) (posting r o new)

-- the letter in front, and those behind it
head_or : Letter → List Letter → Letter
head_or l [] = l
head_or l (x ∷ xs) = x

module _ (ls more rest : List Letter) (k : ℕ) (x : Letter) (within : k < length ls) (is : drop k ls ++ more ≡ x ∷ rest) where
  parts : get_or ls k x ∷ (drop (suc k) ls ++ more) ≡ x ∷ rest
  parts = ap (λ z. z ++ more) (sym (drop-cons ls k x within)) ∙ is

  taken : take (suc k) ls ≡ take k ls ++ x ∷ []
  unfolding head_or
  taken = take-suc ls k x within ∙ ap (λ (z : Letter). take k ls ++ z ∷ []) (ap (head_or x) parts)

  left : rest ≡ drop (suc k) ls ++ more
  left = sym (ap (drop 1) parts)

alone_now : (result : Result (Unit {0}) Stop) (d : DeskState) → IsClearUnless result d → IsAlone d
alone_now (Ok _) d h = h.alone
alone_now (Err stop) d h = h

-- one more goes by
module _ (old mid new : DeskState) (k : ℕ) (gone : GoneBy k old mid) (within : k < length (waits_for old 0)) where
  mid_here : mid.shard.number ≡ 0
  mid_here = gone.alone.number

  module _ (result : Result (Unit {0}) Stop) (own : HandlesOwn mid result new) where
    new_alone : IsAlone new
    new_alone = alone_now result new own.clear

    first_is : drop k (waits_for old 0) ++ gone.more ≡ own.letter ∷ own.rest
    first_is = sym gone.waits ∙ ap (waits_for mid) (sym mid_here) ∙ own.first

    gone_next : GoneBy (suc k) old new
    gone_next =
        let into = gone.alone.into in
        let by = own.by in
        let o = mid.outs.posted in
        let is_posted : posted_to new 0 ≡ posted_to mid 0 ++ own.letter ∷ [] =
        ap (λ z. get_or z 0 []) (by.posted ∙ ap (λ n. more_of o n (own.letter ∷ [])) into)
        ∙ get_or-set_same o 0 (get_or o 0 [] ++ own.letter ∷ []) [] (omega (arith, gone.alone.posted)) in
        let none : get_or mid.ins.known 0 [] ≡ [] = ap (λ n. get_or mid.ins.known n []) (sym into) ∙ by.none in
        let ins_known : new.ins.known ≡ mid.ins.known = ap (λ (i : InEnds). i.known) own.ins ∙ ap (λ (i : InEnds). i.known) by.into in
        let new_here : new.shard.number ≡ 0 = new_alone.number in
        let seen_at : get_or mid.outs.seen 0 0 + 1 ≤ get_or new.outs.seen 0 0 = subst (λ n. get_or mid.outs.seen n 0 + 1 ≤ get_or new.outs.seen n 0) into by.seen in
        record {
          alone = new_alone;
          place = by.place ∙ gone.place;
          capacity = by.capacity ∙ gone.capacity;
          posted = is_posted ∙ ap (λ z. z ++ own.letter ∷ []) gone.posted ∙ append_assoc (posted_to old 0) (take k (waits_for old 0)) (own.letter ∷ [])
              ∙ ap (λ z. posted_to old 0 ++ z) (sym (taken (waits_for old 0) gone.more own.rest k own.letter within first_is));
          seen = omega (arith, gone.seen, seen_at);
          more = gone.more ++ own.more;
          waits = ap (waits_for new) (sym new_here) ∙ own.waits ∙ ap (λ z. z ++ own.more) (left (waits_for old 0) gone.more own.rest k own.letter within first_is)
              ∙ append_assoc (drop (suc k) (waits_for old 0)) gone.more own.more;
          known = inr (ap (λ z. get_or z 0 []) ins_known ∙ none);
        }

    -- the letter before it is done with, where so many more are posted
    abbrev one_posted : DeskState
    one_posted = posting 1 new.outs mid

    n_in : mid.shard.number < length mid.shard.outbox
    n_in = omega (arith, mid_here, gone.alone.boxes)

    one_in : one_posted.shard.number < length one_posted.shard.outbox
    one_in = omega (arith, mid_here, length-set mid.shard.outbox mid.shard.number (drop 1 (waits_here mid)), gone.alone.boxes)

    rest_long : length own.rest ≡ (length (waits_for old 0) - suc k) + length gone.more
    rest_long =
        omega (arith, ap length (left (waits_for old 0) gone.more own.rest k own.letter within first_is), length-append (drop (suc k) (waits_for old 0)) gone.more, length-drop (suc k) (waits_for old 0))

    one_waits : length (waits_here one_posted) ≡ length own.rest
    one_waits = ap length (get_or-set_same mid.shard.outbox mid.shard.number (drop 1 (waits_here mid)) [] n_in) ∙ ap (λ z. length (drop 1 z)) own.first

    twice : (r : ℕ) (o : OutEnds) → posting r o one_posted ≡ posting (1 + r) o mid
    twice r o = posting_twice r o new.outs mid n_in

  next_gone : (own : HandlesOwn mid (Ok tt) new) (r : ℕ) (o : OutEnds) → k + 1 + r ≤ length (waits_for old 0) → HandlesNext own.letter (posting (1 + r) o mid) (posting r o new)
  next_gone own r o fits =
      subst (λ d. HandlesNext own.letter d (posting r o new)) (twice (Ok tt) own r o)
      (next_posting own.letter r o (one_posted (Ok tt) own) new (one_in (Ok tt) own) (omega (arith, fits, rest_long (Ok tt) own, one_waits (Ok tt) own)) own.does)

  stays_gone : (stop : Stop) (own : HandlesOwn mid (Err stop) new) (r : ℕ) (o : OutEnds) → Stays stop (posting (1 + r) o mid) (posting r o new)
  stays_gone stop own r o =
      subst (λ d. Stays stop d (posting r o new)) (twice (Err stop) own r o) (stays_posting stop r o (one_posted (Err stop) own) new own.does)

pub left_none : (d : DeskState) → PostsLeft 0 d d
left_none d = record { kept = sym (posting_none d); place = refl; capacity = refl; lanes = refl; posted = sym (append-nil (posted_to d d.shard.number)); seen = omega arith }

one_total : (lists : List (List Letter)) → length lists ≡ 1 → total lists ≡ length (get_or lists 0 [])
one_total [] h = absurd (omega (arith, h))
one_total (x ∷ []) h = omega arith
one_total (x ∷ y ∷ xs) h = absurd (omega (arith, h))

-- the whole turn
module _ (n budget : ℕ) (old : DeskState) (may : MayGoBy n old) (fits : n < 2 ^ 64) where
  abbrev waiting : List Letter
  waiting = waits_for old 0

  old_here : old.shard.number ≡ 0
  old_here = may.clear.alone.number

  all_long : n ≡ length waiting
  all_long = may.all ∙ ap (λ k. length (waits_for old k)) old_here

  gone_none : GoneBy 0 old old
  gone_none = record {
    alone = may.clear.alone;
    place = refl;
    capacity = refl;
    posted = sym (append-nil (posted_to old 0));
    seen = omega arith;
    more = [];
    waits = sym (append-nil waiting);
    known = inl refl;
  }

  -- so many went by, and the rest was posted
  module _ (k r : ℕ) (mid new : DeskState) (gone : GoneBy k old mid) (sum : k + r ≡ n) (posted : PostsLeft r mid new) where
    abbrev after_posts : DeskState
    after_posts = posting n new.outs old

    posted_all : posted_to new 0 ≡ posted_to old 0 ++ waiting
    posted_all =
        let long : r ≡ length (drop k waiting) = omega (arith, sum, all_long, length-drop k waiting) in
        subst (λ m. posted_to new m ≡ posted_to mid m ++ take r (waits_for mid m)) gone.alone.number posted.posted
        ∙ ap (λ z. posted_to mid 0 ++ take r z) gone.waits ∙ ap (λ m. posted_to mid 0 ++ take m (drop k waiting ++ gone.more)) long
        ∙ ap (λ z. posted_to mid 0 ++ z) (take-append_seam (drop k waiting) gone.more) ∙ ap (λ z. z ++ drop k waiting) gone.posted
        ∙ append_assoc (posted_to old 0) (take k waiting) (drop k waiting) ∙ ap (λ z. posted_to old 0 ++ z) (take-append-drop k waiting)

    seen_at : get_or mid.outs.seen 0 0 ≤ get_or new.outs.seen 0 0
    seen_at = subst (λ m. get_or mid.outs.seen m 0 ≤ get_or new.outs.seen m 0) gone.alone.number posted.seen

    waits_after : waits_for after_posts 0 ≡ drop n waiting
    waits_after =
        (λ j. get_or (set old.shard.outbox (old_here j) (drop n (get_or old.shard.outbox (old_here j) []))) 0 [])
        ∙ get_or-set_same old.shard.outbox 0 (drop n waiting) [] (omega (arith, may.clear.alone.boxes))

    posts_by : Posts old after_posts
    posts_by = record {
      each = λ e h.
          let none : e ≡ 0 = omega (arith, h, may.clear.alone.desks) in
          subst (λ e. PostsTo e old after_posts) (sym none) (record {
            count = n;
            posted = posted_all ∙ ap (λ z. posted_to old 0 ++ z) (sym (take_all n waiting (omega (arith, all_long))));
            left = waits_after;
            full = inl (waits_after ∙ drop_all n waiting (omega (arith, all_long)));
            seen = omega (arith, gone.seen, seen_at);
          });
      only = record { shard = refl; place = posted.place ∙ gone.place; capacity = posted.capacity ∙ gone.capacity; ins = refl; sight = refl };
    }

    counted : n ≡ min (total new.outs.posted - total old.outs.posted) (2 ^ 64 - 1)
    counted =
        omega (
          arith,
          fits,
          one_total new.outs.posted (posted.lanes ∙ gone.alone.posted),
          one_total old.outs.posted may.clear.alone.posted,
          ap length posted_all,
          length-append (posted_to old 0) waiting,
          all_long,
        )

    -- the turn ends as the budget is used up, or all were handled
    module _ (letters : List Letter) (long : length letters ≡ k) where
      turned : k ≡ min n budget → IsClear mid → HandlesAll letters after_posts new → Turns budget old (record { posted = n; handled = k; stopped = None }) new
      turned least clear all = record {
        posted_desk = after_posts;
        posts = posts_by;
        posted = counted;
        letters = letters;
        last = new;
        handles = all;
        handled = sym long;
        within = omega (arith, least);
        ends = elim (cases_lt k budget) [ inl short ↦ inr (short, finds_none short) | inr used ↦ inl (omega (arith, used, least), refl) ];
      }
        where
          known_now : k < budget → get_or new.ins.known 0 [] ≡ []
          known_now short = ap (λ (d : DeskState). get_or d.ins.known 0 []) posted.kept ∙ elim gone.known [ inl none ↦ absurd (omega (arith, none, least, may.some, short)) | inr none ↦ none ]

          finds_none : k < budget → FindsNone new new
          finds_none short = record {
            free = ap (λ (d : DeskState). d.shard.hold) posted.kept ∙ clear.free;
            shard = refl;
            outs = refl;
            sight = refl;
            place = refl;
            cursor = refl;
            collected = refl;
            none = λ j low high.
                let zero_th : j ≡ 0 = omega (arith, high, ap (λ (d : DeskState). length d.ins.place.rings) posted.kept, clear.alone.rings) in
                subst (λ j. (get_or new.ins.known j [] ≡ []) × (get_or new.ins.known j [] ≡ [])) (sym zero_th) (known_now short, known_now short);
          }

  -- what is left waits, and the lane has places for it
  waits_left : (k r : ℕ) (mid : DeskState) → GoneBy k old mid → k + r ≡ n → r ≤ length (waits_here mid)
  waits_left k r mid gone sum =
      omega (arith, sum, all_long, ap (λ m. length (waits_for mid m)) gone.alone.number, ap length gone.waits, length-append (drop k waiting) gone.more, length-drop k waiting)

  places_left : (k r : ℕ) (mid : DeskState) → GoneBy k old mid → k + r ≡ n → HasPlaces mid.outs mid.shard.number r
  places_left k r mid gone sum =
      let places : HasPlaces old.outs 0 n = subst (λ m. HasPlaces old.outs m n) old_here may.places in
      subst (λ m. HasPlaces mid.outs m r) (sym gone.alone.number)
      (omega (arith, sum, all_long, places, gone.seen, ap length gone.posted, length-append (posted_to old 0) (take k waiting), length-take-le k waiting (omega (arith, sum, all_long)), ap (λ c. get_or c 0 0) gone.capacity))

  pub left_behind : (k : ℕ) (mid held : DeskState) (stop : Stop) → GoneBy k old mid → k < n → HandlesOwn mid (Err stop) held
      → (n - k - 1 ≤ length (waits_here held)) × HasPlaces held.outs held.shard.number (n - k - 1)
  left_behind k mid held stop gone within own =
      let gone_on = gone_next old mid held k gone (omega (arith, within, all_long)) (Err stop) own in
      let sum : suc k + (n - k - 1) ≡ n = omega (arith, within) in
      (waits_left (suc k) (n - k - 1) held gone_on sum, places_left (suc k) (n - k - 1) held gone_on sum)

  -- so ends the turn of a loop in which each was handled
  pub turned_all : (j k r : ℕ) (mid new : DeskState) → HaveGone j old mid → j ≡ k → k + r ≡ n → k ≡ min n budget → PostsLeft r mid new → Turns budget old (record { posted = n; handled = k; stopped = None }) new
  turned_all j k r mid new before at_end sum least posted =
      let have = subst (λ m. HaveGone m old mid) at_end before in
      turned k r mid new have.gone sum posted have.letters have.long least have.clear
      (subst (HandlesAll have.letters (posting n new.outs old)) (sym posted.kept)
      (subst (λ m. HandlesAll have.letters (posting m new.outs old) (posting r new.outs mid)) sum (have.chain r new.outs (sum ∙ all_long))))

  -- the turn ends at a letter that was refused
  module _ (k r : ℕ) (mid held new : DeskState) (stop : Stop) (gone : GoneBy k old mid) (within : k < n) (own : HandlesOwn mid (Err stop) held) (sum : suc k + r ≡ n) (posted : PostsLeft r held new) where
    short : k < length waiting
    short = omega (arith, within, all_long)

    turned_stop : (letters : List Letter) → length letters ≡ k → k < budget → HandlesAll letters (posting n new.outs old) (posting (1 + r) new.outs mid)
        → Turns budget old (record { posted = n; handled = k; stopped = Some stop }) new
    turned_stop letters long below all =
        let gone_on = gone_next old mid held k gone short (Err stop) own in
        record {
          posted_desk = posting n new.outs old;
          posts = posts_by (suc k) r held new gone_on sum posted;
          posted = counted (suc k) r held new gone_on sum posted;
          letters = letters;
          last = posting (1 + r) new.outs mid;
          handles = all;
          handled = sym long;
          within = omega (arith, below);
          ends = (below, subst (Stays stop (posting (1 + r) new.outs mid)) (sym posted.kept) (stays_gone old mid held k gone short stop own r new.outs));
        }

  pub stopped_at : (k : ℕ) (mid held new : DeskState) (stop : Stop) → HaveGone k old mid → k < min n budget → HandlesOwn mid (Err stop) held → PostsLeft (n - k - 1) held new
      → Turns budget old (record { posted = n; handled = k; stopped = Some stop }) new
  stopped_at k mid held new stop have within own posted =
      let r = n - k - 1 in
      let short : k < n = omega (arith, within) in
      let below : k < budget = omega (arith, within) in
      let sum : k + (1 + r) ≡ n = omega (arith, short) in
      turned_stop k r mid held new stop have.gone short own (omega (arith, short)) posted have.letters have.long below
      (subst (λ m. HandlesAll have.letters (posting m new.outs old) (posting (1 + r) new.outs mid)) sum (have.chain (1 + r) new.outs (sum ∙ all_long)))

  pub have_none : HaveGone 0 old old
  have_none = record {
    letters = [];
    long = refl;
    clear = may.clear;
    gone = gone_none;
    chain = λ r o h. let same : r ≡ 0 + r = omega arith in ap (λ k. posting k o old) same;
  }

  pub have_next : (k : ℕ) (mid new : DeskState) → HaveGone k old mid → k < n → HandlesOwn mid (Ok tt) new → HaveGone (k + 1) old new
  have_next k mid new have short own =
      let next : suc k ≡ k + 1 = omega arith in
      let within : k < length waiting = omega (arith, short, all_long) in
      record {
        letters = own.letter ∷ have.letters;
        long = omega (arith, have.long);
        clear = own.clear;
        gone = subst (λ m. GoneBy m old new) next (gone_next old mid new k have.gone within (Ok tt) own);
        chain = λ r o h.
            let sum : k + (1 + r) ≡ k + 1 + r = omega arith in (
              posting (1 + r) o mid,
              subst (λ m. HandlesAll have.letters (posting m o old) (posting (1 + r) o mid)) sum (have.chain (1 + r) o (sum ∙ h)),
              next_gone old mid new k have.gone within own r o (omega (arith, h)),
            );
      }

pub turns_go_on : (budget : ℕ) (old : DeskState) {turn : Turned} (new : DeskState) → Turns budget old turn new → GoesOn old new
turns_go_on budget old {turn} new t = turn_goes_on old t.posted_desk t.last new t.letters turn.stopped turn.handled budget t.posts t.handles t.ends
