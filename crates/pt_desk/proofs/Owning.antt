-- The oldest letter of a desk to itself goes by, and is handled or stays in the hold.
use Rattle.std.proofs.Common.{◌≡◌, ℕ, ◌+◌, ◌%◌, ◌<◌, ◌==◌, List, [], ◌∷◌, ◌++◌, length, filter, max, take, drop, get_or, slice_get, Option, Some, None, Ok, Err, refl, sym, ap, ◌∙◌, subst, arith, append-nil, length-append}
use Rattle.std.specs.Prelude.{IfSome}
use Rattle.std.proofs.lemmas.List.{get_or-set_same}
use mathlib.Core.List.{IsPrefix}
use Rattle.pt_signal.specs.declared.config.Config.{Config}
use Rattle.pt_signal.specs.declared.pid.Pid.{Pid}
use Rattle.pt_signal.specs.declared.letter.Letter.{Letter}
use Rattle.pt_accounts.specs.DeskLives.{DeskTable}
use Rattle.pt_directory.specs.Seats.{DirectoryState, SeatState}
use Rattle.pt_carrier.specs.Ends.{Place, OutEnds, InEnds, Collects, IsFirstFromCursor, more_of, looking_from}
use Rattle.pt_carrier.specs.Bypass.{IsEven, GoesBy}
use Rattle.pt_shard.specs.Fit.{IsFit, AreBetween}
use Rattle.pt_shard.specs.ShardState.{ShardState, Handles, came_event, sends}
use Rattle.pt_shard.specs.Outbox.{sent_on_some, holding}
use Rattle.pt_shard.specs.declared.stop.Stop.{Stop}
use Rattle.pt_shard.proofs.Boxes.{put_at}
use Rattle.pt_desk.specs.DeskState.{DeskState, IsDesk, IsAccounted}
use Rattle.pt_desk.specs.InPlace.{CanTell, seat_told}
use Rattle.pt_desk.specs.Sight.{Sight}
use Rattle.pt_desk.specs.Turns.{HandlesNext, Stays}
use Rattle.pt_desk.specs.Own.{IsAlone, IsClear, HandlesOwn, posting}
use Rattle.pt_desk.proofs.Accounts.{accounted_posted}
use Rattle.pt_desk.proofs.Posted.{of_parts}
use Rattle.pt_desk.proofs.Seating.{IsWhole, sight_of, posted_whole, same_journal, same_whole}
use Rattle.pt_desk.proofs.Telling.{may_tell_ended, handled_whole, told_sight}
use Rattle.pt_desk.proofs.Turning.{refused, next_collected, stays_collected, collected_accounted, refused_accounted}

-- the letter in front
in_front : (ls : List Letter) (l : Letter) → slice_get ls 0 ≡ Some l → ls ≡ l ∷ drop 1 ls
in_front [] l h = absurd (cc)
in_front (x ∷ xs) l h = let e : x ≡ l = cc in ap (λ (z : Letter). z ∷ xs) e

front_goes : (d e : ℕ) (ls : List Letter) (l : Letter) → ls ≡ l ∷ drop 1 ls → AreBetween d e ls → (l.from.shard ≡ d) × (l.to.shard ≡ e)
front_goes d e [] l is h = absurd (cc)
front_goes d e (x ∷ xs) l is h = let same : x ≡ l = cc in subst (λ (z : Letter). (z.from.shard ≡ d) × (z.to.shard ≡ e)) same h.0

-- what holds of every desk that is alone
pub is_alone : (d : DeskState) → IsDesk d → d.shard.config.desks ≡ 1 → IsAlone d
is_alone d is one =
    let acc = is.accounts in
    let number : d.shard.number ≡ 0 = omega (arith, is.fit.here, one) in
    record {
      desks = one;
      number = number;
      boxes = is.fit.boxes ∙ one;
      posted = acc.posted_desks ∙ one;
      into = acc.in_number ∙ number;
      rings = acc.in_desks ∙ one;
    }

module _ (s : ShardState) (o : OutEnds) (i : InEnds) (directory : DirectoryState) (seat : SeatState) (before : DeskTable) (whole : IsWhole s o i (sight_of directory seat before) seat)
    (clear : IsClear (of_parts s o i (sight_of directory seat before))) (n : ℕ) (n_is : n ≡ s.number) (l : Letter) (first : slice_get (get_or s.outbox n []) 0 ≡ Some l)
    (t : ShardState) (t_is : t ≡ sent_on_some n 1 s) (t_fit : IsFit t)
    (o' : OutEnds) (between i' : InEnds) (by : GoesBy (l ∷ []) o i o' between) (ins : i' ≡ looking_from 0 between) where
  abbrev v : Sight
  v = sight_of directory seat before

  abbrev waiting : List Letter
  waiting = get_or s.outbox n []

  front : waiting ≡ l ∷ drop 1 waiting
  front = in_front waiting l first

  into : i.place.number ≡ n
  into = whole.0.accounts.in_number ∙ sym n_is

  n_none : n ≡ 0
  n_none = n_is ∙ clear.alone.number

  n_in : n < s.config.desks
  n_in = omega (arith, n_none, clear.alone.desks)

  goes : (l.from.shard ≡ s.number) × (l.to.shard ≡ n)
  goes = front_goes s.number n waiting l front (whole.0.fit.boxed n)

  more : o'.posted ≡ more_of o.posted n (take 1 waiting)
  more = by.posted ∙ ap (λ k. more_of o.posted k (l ∷ [])) into ∙ ap (more_of o.posted n) (sym (ap (take 1) front))

  to_here : l.to.shard ≡ t.number
  to_here = goes.1 ∙ n_is ∙ sym (ap (λ (z : ShardState). z.number) t_is)

  accounts_t : IsAccounted t o' i
  accounts_t = accounted_posted s t o o' i n 1 n_in whole.0.fit whole.0.accounts t_is more by.place

  whole_t : IsWhole t o' i v seat
  whole_t = posted_whole s t o o' i v seat n 1 t_is t_fit accounts_t whole

  -- who ended may be told of
  pub own_tells : (who : Option Pid) (s1 : ShardState) → Handles l t (Ok who) s1 → IfSome who (CanTell directory seat s1.clock)
  own_tells who s1 does =
      may_tell_ended t o' i directory seat before whole_t l to_here s1.clock (let now = ap (λ (z : ShardState). z.clock) does.1 in omega (arith, now)) who does.2

  place_is : i'.place ≡ i.place
  place_is = ap (λ (z : InEnds). z.place) ins ∙ ap (λ (z : InEnds). z.place) by.into

  collected_is : i'.collected ≡ more_of i.collected n (l ∷ [])
  collected_is = ap (λ (z : InEnds). z.collected) ins ∙ ap (λ (z : InEnds). z.collected) by.into ∙ ap (λ k. more_of i.collected k (l ∷ [])) into

  takes : Collects i i' n l
  takes = record {
    from_desk = omega (arith, n_none, clear.alone.rings);
    collected = collected_is;
    cursor = ap (λ (z : InEnds). z.cursor) ins ∙ sym (λ j. (n_none j + 1) % clear.alone.rings j);
    from_there = goes.0 ∙ sym n_is;
    to_here = goes.1 ∙ sym into;
    oldest = subst (λ (known : List Letter). IsPrefix known (l ∷ get_or i'.known n [])) (sym (ap (λ k. get_or i.known k []) (sym into) ∙ by.none)) (l ∷ get_or i'.known n [], refl);
  }

  is_first : IsFirstFromCursor i i' n
  is_first = record {
    above = λ h k low high. absurd (omega (arith, n_none, high));
    around = λ h. ((λ k low high. absurd (omega (arith, h, low, high, clear.alone.rings))), (λ k low high. absurd (omega (arith, n_none, high))));
  }

  t_free : t.hold ≡ None
  t_free = ap (λ (z : ShardState). z.hold) t_is ∙ clear.free

  -- the desk that has posted it
  posted_is : of_parts t o' i v ≡ posting 1 o' (of_parts s o i v)
  posted_is = ap (λ (z : ShardState). of_parts z o' i v) (t_is ∙ ap (λ k. sent_on_some k 1 s) n_is)

  rest_is : get_or t.outbox n [] ≡ drop 1 waiting
  rest_is = ap (λ (z : ShardState). get_or z.outbox n []) t_is ∙ get_or-set_same s.outbox n (drop 1 waiting) [] (omega (arith, n_none, clear.alone.boxes))

  waits_first : get_or s.outbox s.number [] ≡ l ∷ drop 1 waiting
  waits_first = ap (λ k. get_or s.outbox k []) (sym n_is) ∙ front

  even : IsEven o' i'
  even =
      let number : i'.place.number ≡ n = ap (λ (z : Place). z.number) place_is ∙ into in
      let one : length (get_or o'.posted n []) ≡ length (get_or o.posted n []) + 1 =
      ap (λ z. length (get_or z n [])) (by.posted ∙ ap (λ k. more_of o.posted k (l ∷ [])) into)
      ∙ ap length (get_or-set_same o.posted n (get_or o.posted n [] ++ l ∷ []) [] (omega (arith, n_none, clear.alone.posted))) ∙ length-append (get_or o.posted n []) (l ∷ []) in
      let other : length (get_or i'.collected n []) ≡ length (get_or i.collected n []) + 1 =
      ap (λ z. length (get_or z n [])) collected_is
      ∙ ap length (get_or-set_same i.collected n (get_or i.collected n [] ++ l ∷ []) [] (omega (arith, n_none, whole.0.accounts.collected_desks, clear.alone.desks))) ∙ length-append (get_or i.collected n []) (l ∷ []) in
      let same : length (get_or o.posted n []) ≡ length (get_or i.collected n []) = subst (λ k. length (get_or o.posted k []) ≡ length (get_or i.collected k [])) into clear.even in
      subst (λ k. length (get_or o'.posted k []) ≡ length (get_or i'.collected k [])) (sym number) (omega (arith, one, other, same))

  module _ (who : Option Pid) (s1 : ShardState) (does : Handles l t (Ok who) s1) (s1_fit : IsFit s1) (seat' : SeatState) (seat_is : seat' ≡ seat_told who s1.clock seat) where
    own_whole : IsWhole s1 o' i' (sight_of directory seat' before) seat'
    own_whole =
        handled_whole t o' i directory seat before whole_t l s1 o' i' who seat' (same_journal _ _ _ refl refl refl refl does.1) does.2
        (seat_is ∙ ap (λ m. seat_told who m seat) (ap (λ (z : ShardState). z.clock) does.1)) s1_fit
        (collected_accounted t o' i i' v n l t_free takes place_is s1 t_fit.boxes accounts_t does.1)

    same_config : s1.config ≡ s.config
    same_config = ap (λ (z : ShardState). z.config) does.1 ∙ ap (λ (z : ShardState). z.config) t_is

    own_handled : HandlesOwn (of_parts s o i v) (Ok tt) (of_parts s1 o' i' (sight_of directory seat' before))
    own_handled =
        let sends_now = sends (max t.clock l.stamp + 1) (came_event l) t in
        let number : s1.number ≡ n = ap (λ (z : ShardState). z.number) does.1 ∙ ap (λ (z : ShardState). z.number) t_is ∙ sym n_is in
        record {
          letter = l;
          does = subst (λ w. HandlesNext l (posting 1 o' (of_parts s o i v)) (of_parts s1 o' i' w)) (sym (told_sight directory before who s1.clock seat seat' seat_is))
              (subst (λ d. HandlesNext l d (of_parts s1 o' i' v)) posted_is (next_collected t o' i i' v n l t_free takes place_is is_first s1 does.0 does.1));
          between = between;
          by = by;
          ins = ins;
          rest = drop 1 waiting;
          more = filter (λ (z : Letter). z.to.shard == n) sends_now;
          first = waits_first;
          waits = (λ j. get_or (ap (λ (z : ShardState). z.outbox) does.1 j) (number j) [])
              ∙ put_at t.outbox sends_now n (omega (arith, n_none, t_fit.boxes, ap (λ (z : ShardState). z.config.desks) t_is, clear.alone.desks))
              ∙ ap (λ z. z ++ filter (λ (z : Letter). z.to.shard == n) sends_now) rest_is;
          clear = record {
            alone = is_alone (of_parts s1 o' i' (sight_of directory seat' before)) own_whole.0 (ap (λ (z : Config). z.desks) same_config ∙ clear.alone.desks);
            free = ap (λ (z : ShardState). z.hold) does.1 ∙ t_free;
            even = even;
          };
        }

    -- the letter was handled
    pub own_done : IsWhole s1 o' i' (sight_of directory seat' before) seat' × HandlesOwn (of_parts s o i v) (Ok tt) (of_parts s1 o' i' (sight_of directory seat' before))
    own_done = (own_whole, own_handled)

  module _ (stop : Stop) (s1 s2 : ShardState) (does : Handles l t (Err stop) s1) (held : s2 ≡ holding (Some l) s1) (s2_fit : IsFit s2) where
    s2_is : s2 ≡ holding (Some l) t
    s2_is = held ∙ ap (holding (Some l)) (refused l t s1 stop does)

    own_kept : IsWhole s2 o' i' v seat
    own_kept =
        same_whole t s2 o' o' i i' v seat (same_journal _ _ _ refl refl refl refl s2_is) s2_fit
        (refused_accounted t o' i i' v n l t_free takes place_is s1 s2 stop accounts_t does held) whole_t

    own_refused : HandlesOwn (of_parts s o i v) (Err stop) (of_parts s2 o' i' v)
    own_refused =
        let number : s2.number ≡ n = ap (λ (z : ShardState). z.number) s2_is ∙ ap (λ (z : ShardState). z.number) t_is ∙ sym n_is in
        let config : s2.config ≡ s.config = ap (λ (z : ShardState). z.config) s2_is ∙ ap (λ (z : ShardState). z.config) t_is in
        record {
          letter = l;
          does = subst (λ d. Stays stop d (of_parts s2 o' i' v)) posted_is (stays_collected t o' i i' v n l t_free takes place_is is_first s1 s2 stop does held);
          between = between;
          by = by;
          ins = ins;
          rest = drop 1 waiting;
          more = [];
          first = waits_first;
          waits = (λ j. get_or (ap (λ (z : ShardState). z.outbox) s2_is j) (number j) []) ∙ rest_is ∙ sym (append-nil (drop 1 waiting));
          clear = is_alone (of_parts s2 o' i' v) own_kept.0 (ap (λ (z : Config). z.desks) config ∙ clear.alone.desks);
        }

    -- the letter is in the hold
    pub own_held : IsWhole s2 o' i' v seat × HandlesOwn (of_parts s o i v) (Err stop) (of_parts s2 o' i' v)
    own_held = (own_kept, own_refused)
