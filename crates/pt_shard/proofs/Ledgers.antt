-- The letters of a desk, box by box.
use Rattle.std.proofs.Common.{◌≡◌, ℕ, zero, suc, ◌+◌, ◌-◌, ◌^◌, ◌<◌, ◌≤◌, ◌⊎◌, inl, inr, ◌==◌, Bool, true, false, cond, max, min, List, [], ◌∷◌, ◌++◌, length, map, take, drop, set, get_or, Some, refl, sym, ap, ◌∙◌, subst, arith}
use Rattle.std.specs.Prelude.{Result, Ok, Err, slice_get, sum_by, count_by}
use Rattle.std.proofs.lemmas.List.Sums.{sum_by_more, sum_by-drop_more}
use Rattle.std.specs.Result.{IsErr, IsErrAnd}
use Rattle.std.proofs.lemmas.Bool.{eqb-true, eq-eqb, both_ways, cases_lt}
use Rattle.std.proofs.lemmas.List.{length-set, map-set, map_more, length-map, get_or_past, get_or-set_same, get_or-set_other}
use Rattle.std.proofs.lemmas.Option.{get_or_from_slice_get}
use Rattle.pt_signal.specs.declared.pid.Pid.{Pid}
use Rattle.pt_signal.specs.declared.letter.Letter.{Letter}
use Rattle.pt_signal.specs.declared.signal.Signal.{Signal}
use Rattle.pt_signal.specs.Process.{Sent, sent}
use Rattle.pt_events.specs.declared.event.Event.{Event}
use Rattle.pt_events.specs.declared.event.Stamped.{Stamped}
use Rattle.pt_events.specs.Journal.{letter}
use Rattle.pt_events.specs.JournalState.{IsNewer}
use Rattle.pt_process.specs.ProcessView.{Owing}
use Rattle.pt_signal.specs.Boxes.{one_more}
use Rattle.pt_shard.specs.Boxes.{put_out}
use Rattle.pt_signal.proofs.Boxes.{one_more_count}
use Rattle.pt_shard.proofs.Boxes.{put_count}
use Rattle.pt_signal.proofs.Lists.{map-set_more, map-set_same, get_or-map_read, get_or-map_set_same, get_or-map_set_other}
use Rattle.pt_shard.specs.declared.stop.Stop.{Stop}
use Rattle.pt_shard.specs.declared.stop.Stop.TheVariants.{Memory}
use Rattle.pt_shard.specs.LettersState.{LettersState}
use Rattle.pt_shard.specs.LedgerState.{Book, LedgerState, wrote, IsUpTo, Prepares, is_of_desk}
use Rattle.pt_shard.specs.Sound.{Every}

-- an event stamped above the clock is newer than the journal
pub newer_above : (n : ℕ) (s : Stamped) (journal : List Stamped) → IsUpTo n journal → n < s.stamp → IsNewer s journal
newer_above n s [] h k = tt
newer_above n s (t ∷ journal) h k = omega arith

abbrev pub letters_in : List LettersState → List (List Letter)
letters_in items = map (λ (b : LettersState). b.letters) items

abbrev pub rooms_in : List LettersState → List ℕ
rooms_in items = map (λ (b : LettersState). b.room) items

module _ (items : List LettersState) (i j : ℕ) (is : i ≡ j) (within : j < length (letters_in items)) (old new : LettersState) (read : old ≡ get_or items i old) where
  inside : i < length items
  inside = let n : length (letters_in items) ≡ length items = length-map items (λ (b : LettersState). b.letters) in omega (arith, within, n, is)

  pub put_letters : (l : Letter) → new.letters ≡ old.letters ++ l ∷ [] → letters_in (set items i new) ≡ one_more (letters_in items) j l
  put_letters l pushed = map-set_more (λ (b : LettersState). b.letters) items i old new l inside read pushed ∙ ap (λ k. one_more (letters_in items) k l) is

  pub put_rooms : new.room + 1 ≡ old.room → rooms_in (set items i new) ≡ set (rooms_in items) j (get_or (rooms_in items) j 0 - 1)
  put_rooms less =
      let at : get_or (rooms_in items) i 0 ≡ old.room = get_or-map_read (λ (b : LettersState). b.room) items i old 0 inside read in
      let fewer : new.room ≡ get_or (rooms_in items) i 0 - 1 = omega (arith, less, at) in
      map-set (λ (b : LettersState). b.room) items i new ∙ ap (set (rooms_in items) i) fewer ∙ ap (λ k. set (rooms_in items) k (get_or (rooms_in items) k 0 - 1)) is

  pub passed_letters : (count : ℕ) → new.letters ≡ drop count old.letters → letters_in (set items i new) ≡ set (letters_in items) j (drop count (get_or (letters_in items) j []))
  passed_letters count passed =
      let at : get_or (letters_in items) i [] ≡ old.letters = get_or-map_read (λ (b : LettersState). b.letters) items i old [] inside read in
      map-set (λ (b : LettersState). b.letters) items i new ∙ ap (set (letters_in items) i) (passed ∙ ap (drop count) (sym at)) ∙ ap (λ k. set (letters_in items) k (drop count (get_or (letters_in items) k []))) is

  pub same_letters : new.letters ≡ old.letters → letters_in (set items i new) ≡ letters_in items
  same_letters same = map-set_same (λ (b : LettersState). b.letters) items i old new inside read same

  pub room_there : get_or (rooms_in (set items i new)) j 0 ≡ new.room
  room_there = ap (λ k. get_or (rooms_in (set items i new)) k 0) (sym is) ∙ get_or-map_set_same (λ (b : LettersState). b.room) items i new 0 inside

-- an attempt to prepare that found no memory
pub out_of_memory : (floor : ℕ) (HasRoom : LedgerState → Type 0) (old new : LedgerState) (result : Result (Unit {0}) Stop)
    → IsErr result × IsErrAnd result (λ f. f ≡ Memory) → new.book ≡ old.book → max old.book.clock floor < 2 ^ 62 → Prepares floor HasRoom old result new
out_of_memory floor HasRoom old new (Ok u) h same can = absurd (cc)
out_of_memory floor HasRoom old new (Err f) h same can = subst (λ x. Prepares floor HasRoom old (Err x) new) (sym h.1) (same, can)

-- letters put one by one -----------------------------------------------------------------

put_out_more : (boxes : List (List Letter)) (ls : List Letter) (l : Letter) → put_out boxes (ls ++ l ∷ []) ≡ one_more (put_out boxes ls) l.to.shard l
put_out_more boxes [] l = refl
put_out_more boxes (x ∷ ls) l = put_out_more (one_more boxes x.to.shard x) ls l

pub every_at : {X : Type 0} (P : X → Type 0) (xs : List X) (i : ℕ) (x : X) → Every P xs → slice_get xs i ≡ Some x → P x
every_at P [] i x h got = absurd (cc)
every_at P (y ∷ xs) zero x h got = let e : y ≡ x = cc in subst P e h.0
every_at P (y ∷ xs) (suc i) x h got = every_at P xs i x h.1 got

-- how many of the first i+1, and of the last, are of desk e
count_first : (e i : ℕ) (qs : List Pid) (q : Pid) → i < length qs → slice_get qs i ≡ Some q → count_by (is_of_desk e) (take (i + 1) qs) ≡ count_by (is_of_desk e) (take i qs) + cond (q.shard == e) 1 0
count_first e i qs q within got =
    sum_by_more (λ x. cond (is_of_desk e x) 1 0) qs i q within ∙ ap (λ x. count_by (is_of_desk e) (take i qs) + cond (is_of_desk e x) 1 0) (get_or_from_slice_get qs i q q got)

count_last : (e i : ℕ) (qs : List Pid) (q : Pid) → i < length qs → slice_get qs i ≡ Some q → count_by (is_of_desk e) (drop i qs) ≡ cond (q.shard == e) 1 0 + count_by (is_of_desk e) (drop (i + 1) qs)
count_last e i qs q within got =
    sum_by-drop_more (λ x. cond (is_of_desk e x) 1 0) qs i q within ∙ ap (λ x. cond (is_of_desk e x) 1 0 + count_by (is_of_desk e) (drop (i + 1) qs)) (get_or_from_slice_get qs i q q got)

module _ (qs : List Pid) (i : ℕ) (q : Pid) (within : i < length qs) (got : slice_get qs i ≡ Some q) where
  -- there is room for the next letter
  pub room_next : (rooms : List ℕ) → count_by (is_of_desk q.shard) (drop i qs) ≤ get_or rooms q.shard 0 → 0 < get_or rooms q.shard 0
  room_next rooms enough =
      let n = count_last q.shard i qs q within got in
      let one : ◌≡◌ {A = ℕ} (cond (q.shard == q.shard) 1 0) 1 = rw (eq-eqb q.shard q.shard refl) refl in
      omega (arith, enough, n, one)

  -- and then for the others
  pub room_less : (rooms : List ℕ) (e : ℕ) → count_by (is_of_desk e) (drop i qs) ≤ get_or rooms e 0
      → count_by (is_of_desk e) (drop (i + 1) qs) ≤ get_or (set rooms q.shard (get_or rooms q.shard 0 - 1)) e 0
  room_less rooms e enough = go (q.shard == e) refl (cases_lt e (length rooms))
    where
      n : count_by (is_of_desk e) (drop i qs) ≡ cond (q.shard == e) 1 0 + count_by (is_of_desk e) (drop (i + 1) qs)
      n = count_last e i qs q within got

      go : (b : Bool) → (q.shard == e) ≡ b → (e < length rooms) ⊎ (length rooms ≤ e) → count_by (is_of_desk e) (drop (i + 1) qs) ≤ get_or (set rooms q.shard (get_or rooms q.shard 0 - 1)) e 0
      go b k (inr beyond) =
          let none = get_or_past rooms e 0 beyond in
          let at = get_or_past (set rooms q.shard (get_or rooms q.shard 0 - 1)) e 0 (let m = length-set rooms q.shard (get_or rooms q.shard 0 - 1) in omega (arith, beyond, m)) in
          omega (arith, enough, none, at, n)
      go true k (inl inside) =
          let at : q.shard ≡ e = eqb-true q.shard e k in
          let here : get_or (set rooms e (get_or rooms e 0 - 1)) e 0 ≡ get_or rooms e 0 - 1 = get_or-set_same rooms e (get_or rooms e 0 - 1) 0 inside in
          let one : ◌≡◌ {A = ℕ} (cond (q.shard == e) 1 0) 1 = rw k refl in
          subst (λ x. count_by (is_of_desk e) (drop (i + 1) qs) ≤ get_or (set rooms x (get_or rooms x 0 - 1)) e 0) (sym at) (omega (arith, enough, here, n, one))
      go false k (inl inside) =
          let other : get_or (set rooms q.shard (get_or rooms q.shard 0 - 1)) e 0 ≡ get_or rooms e 0 = get_or-set_other rooms q.shard e (get_or rooms q.shard 0 - 1) 0 (λ h. both_ways (q.shard == e) k (eq-eqb q.shard e (sym h))) in
          let zero_ : ◌≡◌ {A = ℕ} (cond (q.shard == e) 1 0) 0 = rw k refl in
          omega (arith, enough, other, n, zero_)

  module _ (t : ℕ) (is : t ≡ q.shard) (counts : List ℕ) (few : length counts ≡ 64) (t_in : t < 64)
      (so_far : (e : ℕ) → e < 64 → get_or counts e 0 ≡ count_by (is_of_desk e) (take i qs)) where
    -- the counts of one letter more
    pub counts_more : (e : ℕ) → e < 64 → get_or (set counts t (get_or counts t 0 + 1)) e 0 ≡ count_by (is_of_desk e) (take (i + 1) qs)
    counts_more e e_in = go (t == e) refl
      where
        n : count_by (is_of_desk e) (take (i + 1) qs) ≡ count_by (is_of_desk e) (take i qs) + cond (t == e) 1 0
        n = count_first e i qs q within got ∙ ap (λ x. count_by (is_of_desk e) (take i qs) + cond (x == e) 1 0) (sym is)

        go : (b : Bool) → (t == e) ≡ b → get_or (set counts t (get_or counts t 0 + 1)) e 0 ≡ count_by (is_of_desk e) (take (i + 1) qs)
        go true k =
            let at : t ≡ e = eqb-true t e k in
            let one : ◌≡◌ {A = ℕ} (cond (t == e) 1 0) 1 = rw k refl in
            let here : get_or (set counts e (get_or counts e 0 + 1)) e 0 ≡ get_or counts e 0 + 1 = get_or-set_same counts e (get_or counts e 0 + 1) 0 (omega (arith, few, e_in)) in
            let was = so_far e e_in in
            subst (λ x. get_or (set counts x (get_or counts x 0 + 1)) e 0 ≡ count_by (is_of_desk e) (take (i + 1) qs)) (sym at) (omega (arith, here, was, n, one))
        go false k =
            let none : ◌≡◌ {A = ℕ} (cond (t == e) 1 0) 0 = rw k refl in
            let other : get_or (set counts t (get_or counts t 0 + 1)) e 0 ≡ get_or counts e 0 = get_or-set_other counts t e (get_or counts t 0 + 1) 0 (λ h. both_ways (t == e) k (eq-eqb t e (sym h))) in
            let was = so_far e e_in in
            omega (arith, other, was, n, none)

    -- the boxes have room for one letter more
    pub reserved_more : (items : List LettersState) (new : LettersState) → t < length items → get_or counts t 0 + 1 ≤ new.room
        → ((e : ℕ) → e < length items → count_by (is_of_desk e) (take i qs) ≤ get_or (rooms_in items) e 0)
        → (e : ℕ) → e < length items → count_by (is_of_desk e) (take (i + 1) qs) ≤ get_or (rooms_in (set items t new)) e 0
    reserved_more items new inside roomy before e e_in = go (t == e) refl
      where
        n : count_by (is_of_desk e) (take (i + 1) qs) ≡ count_by (is_of_desk e) (take i qs) + cond (t == e) 1 0
        n = count_first e i qs q within got ∙ ap (λ x. count_by (is_of_desk e) (take i qs) + cond (x == e) 1 0) (sym is)

        go : (b : Bool) → (t == e) ≡ b → count_by (is_of_desk e) (take (i + 1) qs) ≤ get_or (rooms_in (set items t new)) e 0
        go true k =
            let at : t ≡ e = eqb-true t e k in
            let one : ◌≡◌ {A = ℕ} (cond (t == e) 1 0) 1 = rw k refl in
            let here : get_or (rooms_in (set items t new)) t 0 ≡ new.room = get_or-map_set_same (λ (b : LettersState). b.room) items t new 0 inside in
            let was = so_far t t_in in
            let there : get_or (rooms_in (set items t new)) e 0 ≡ new.room = ap (λ x. get_or (rooms_in (set items t new)) x 0) (sym at) ∙ here in
            let same : count_by (is_of_desk e) (take i qs) ≡ count_by (is_of_desk t) (take i qs) = ap (λ x. count_by (is_of_desk x) (take i qs)) (sym at) in
            omega (arith, roomy, there, was, n, one, same)
        go false k =
            let none : ◌≡◌ {A = ℕ} (cond (t == e) 1 0) 0 = rw k refl in
            let other : get_or (rooms_in (set items t new)) e 0 ≡ get_or (rooms_in items) e 0 = get_or-map_set_other (λ (b : LettersState). b.room) items t e new 0 (λ h. both_ways (t == e) k (eq-eqb t e (sym h))) in
            let was = before e e_in in
            omega (arith, other, was, n, none)

pub one_more_length : (boxes boxes' : List (List Letter)) (k : ℕ) (l : Letter) → boxes' ≡ one_more boxes k l → length boxes' ≡ length boxes
one_more_length boxes boxes' k l is = ap length is ∙ one_more_count boxes k l

-- the letters that an ended process owes, put one by one
module _ (owed : List Sent) (from : Pid) (n i : ℕ) (e : Event) (start now next : LedgerState) (to : Pid) (x : Signal)
    (within : i < length owed) (mine : Owing) (is_owed : mine.owed ≡ owed) (is_from : mine.from ≡ from) (got : slice_get owed i ≡ Some (sent mine.from to x))
    (so_far : now.book ≡ wrote n e (map (letter n) (take i owed)) start.book) where
  pub owed_to : Every (λ l. l.to.shard < length start.book.outbox) owed → to.shard < length now.book.outbox
  owed_to every =
      let inside : to.shard < length start.book.outbox = every_at (λ l. l.to.shard < length start.book.outbox) owed i (sent mine.from to x) every got in
      let as_many : length (put_out start.book.outbox (map (letter n) (take i owed))) ≡ length start.book.outbox = put_count start.book.outbox (map (letter n) (take i owed)) in
      subst (λ b. to.shard < length b.outbox) (sym so_far) (omega (arith, inside, as_many))

  pub owed_more : next.book ≡ record now.book { outbox = one_more now.book.outbox to.shard (record { from = from; to = to; signal = x; stamp = n }) }
      → next.book ≡ wrote n e (map (letter n) (take (i + 1) owed)) start.book
  owed_more put =
      let l : Letter = record { from = from; to = to; signal = x; stamp = n } in
      let same : letter n (sent mine.from to x) ≡ l = ap (λ p. letter n (sent p to x)) is_from in
      let more : map (letter n) (take (i + 1) owed) ≡ map (letter n) (take i owed) ++ l ∷ []
      = map_more (letter n) owed i (sent mine.from to x) within
      ∙ ap (λ y. map (letter n) (take i owed) ++ letter n y ∷ []) (get_or_from_slice_get owed i (sent mine.from to x) (sent mine.from to x) got)
      ∙ ap (λ y. map (letter n) (take i owed) ++ y ∷ []) same in
      put ∙ ap (λ (b : Book). record b { outbox = one_more b.outbox to.shard l }) so_far
      ∙ ap {A = List (List Letter)} (λ o. record (wrote n e [] start.book) { outbox = o }) (sym (put_out_more start.book.outbox (map (letter n) (take i owed)) l) ∙ ap (put_out start.book.outbox) (sym more))

-- the letters of one box more
pub counted_more : (items : List LettersState) (outbox : List (List Letter)) → letters_in items ≡ outbox → (e : ℕ) → e < length items → (old : LettersState) → old ≡ get_or items e old
    → (held count len new : ℕ) → count ≡ min (sum_by length (take e outbox) + held) (2 ^ 64 - 1) → len ≡ length old.letters → new ≡ min (count + len) (2 ^ 64 - 1)
    → new ≡ min (sum_by length (take (e + 1) outbox) + held) (2 ^ 64 - 1)
counted_more items outbox is e within old read held count len new so_far one more =
    let inside : e < length outbox = let n : length (letters_in items) ≡ length items = length-map items (λ (b : LettersState). b.letters) in omega (arith, within, n, ap length is) in
    let at : get_or outbox e [] ≡ old.letters = ap (λ o. get_or o e []) (sym is) ∙ get_or-map_read (λ (b : LettersState). b.letters) items e old [] within read in
    let step : sum_by length (take (e + 1) outbox) ≡ sum_by length (take e outbox) + length (get_or outbox e []) = sum_by_more length outbox e [] inside in
    omega (arith, so_far, one, more, step, ap length at)
