-- A directory over pids that had ended.
use Rattle.std.proofs.Common.{◌≡◌, ◌≢◌, ℕ, zero, suc, ◌+◌, ◌<◌, ◌≤◌, Bool, true, false, cond, eqb, List, [], ◌∷◌, ◌++◌, map, length, set, get_or, take, refl, sym, ap, ◌∙◌, subst, ⊎_elim, arith, append-nil, append_assoc, eq-eqb, ne_eqb}
use mathlib.Core.Option.{some, some-ne-none}
use lib.ListN.{get_elem?}
use Rattle.atomic_table.specs.Seated.{TableId}
use Rattle.pt_directory.specs.declared.view.Death.{Death}
use Rattle.pt_signal.specs.declared.pid.Pid.{Pid}
use Rattle.pt_directory.specs.Views.{new_death, deaths_at, last_version, last_stamp, up_from}
use Rattle.pt_directory.specs.Seats.{SeatState, death_of, given_deaths, reopened_seat, OnePerSlot, add_death, mark_seat}
use Rattle.pt_directory.proofs.Lists.{at_append, at_single, from_among, true-is_at}

given_deaths-push : (k : ℕ) (xs : List (Pid × ℕ)) (x : Pid × ℕ) → given_deaths k (xs ++ x ∷ []) ≡ given_deaths k xs ++ cond (eqb x.0.shard k) (new_death x.0.shard x.0.slot x.0.version x.1 ∷ []) []
given_deaths-push k [] x = append-nil (cond (eqb x.0.shard k) (new_death x.0.shard x.0.slot x.0.version x.1 ∷ []) [])
given_deaths-push k (y ∷ ys) x = ap (λ l. cond (eqb y.0.shard k) (new_death y.0.shard y.0.slot y.0.version y.1 ∷ []) [] ++ l) (given_deaths-push k ys x)
    ∙ sym (append_assoc (cond (eqb y.0.shard k) (new_death y.0.shard y.0.slot y.0.version y.1 ∷ []) []) (given_deaths k ys) (cond (eqb x.0.shard k) (new_death x.0.shard x.0.slot x.0.version x.1 ∷ []) []))

one_from : (b : Bool) (x e : Death) (m : ℕ) → get_elem? (cond b (x ∷ []) []) m ≡ some e → e ≡ x
one_from true x e m at = sym (at_single x e m at)
one_from false x e m at = absurd (some-ne-none e (sym at))

given_from : (k : ℕ) (xs : List (Pid × ℕ)) (m : ℕ) (e : Death) → get_elem? (given_deaths k xs) m ≡ some e → (i : ℕ) × (x : Pid × ℕ) × (get_elem? xs i ≡ some x) × (e ≡ new_death x.0.shard x.0.slot x.0.version x.1)
given_from k [] m e at = absurd (some-ne-none e (sym at))
given_from k (x ∷ xs) m e at =
    ⊎_elim
    (λ (here : get_elem? (cond (eqb x.0.shard k) (new_death x.0.shard x.0.slot x.0.version x.1 ∷ []) []) m ≡ some e). (0, x, refl, one_from (eqb x.0.shard k) (new_death x.0.shard x.0.slot x.0.version x.1) e m here))
    (λ (t : (i : ℕ) × (get_elem? (given_deaths k xs) i ≡ some e) × (m ≡ length (cond (eqb x.0.shard k) (new_death x.0.shard x.0.slot x.0.version x.1 ∷ []) []) + i)). let u = given_from k xs t.0 e t.1 in (suc u.0, u.1, u.2, u.3))
    (at_append (cond (eqb x.0.shard k) (new_death x.0.shard x.0.slot x.0.version x.1 ∷ []) []) (given_deaths k xs) m e at)

at_take : {A : Type 0} (xs : List A) (n m : ℕ) (x : A) → get_elem? (take n xs) m ≡ some x → (get_elem? xs m ≡ some x) × (m < n)
at_take [] zero m x at = absurd (some-ne-none x (sym at))
at_take [] (suc n) m x at = absurd (some-ne-none x (sym at))
at_take (y ∷ ys) zero m x at = absurd (some-ne-none x (sym at))
at_take (y ∷ ys) (suc n) zero x at = (at, omega arith)
at_take (y ∷ ys) (suc n) (suc m) x at = let t = at_take ys n m x at in (t.0, omega (arith, t.1))

empty_if : (es : List Death) → ((k : ℕ) (e : Death) → get_elem? es k ≡ some e → ⊥) → es ≡ []
empty_if [] h = refl
empty_if (e ∷ es) h = absurd (h 0 e refl)

-- no earlier one is of this slot
pub none_yet : (xs : List (Pid × ℕ)) (i : ℕ) (x : Pid × ℕ) → OnePerSlot xs → get_elem? xs i ≡ some x → deaths_at x.0.shard x.0.slot (given_deaths x.0.shard (take i xs)) ≡ []
none_yet xs i x one at = empty_if (deaths_at x.0.shard x.0.slot (given_deaths x.0.shard (take i xs))) (λ k e e_at.
    let a = from_among (given_deaths x.0.shard (take i xs)) k e x.0.shard x.0.slot e_at in
    let b = given_from x.0.shard (take i xs) a.0 e a.1 in
    let c = at_take xs i b.0 b.1 b.2 in
    let h = true-is_at e x.0.shard x.0.slot a.2 in
    let d : b.0 ≡ i = one b.0 i b.1 x c.0 at (sym (ap (λ (z : Death). z.shard) b.3) ∙ h.0) (sym (ap (λ (z : Death). z.slot) b.3) ∙ h.1) in
    let lt = c.1 in
    absurd (omega arith))

pub set_map : (f g : ℕ → SeatState) (a n d : ℕ) (w : SeatState) → d < n → w ≡ g (a + d) → ((k : ℕ) → k ≢ a + d → f k ≡ g k) → set (map f (up_from a n)) d w ≡ map g (up_from a n)
set_map f g a zero d w low is same = absurd (omega arith)
set_map f g a (suc n) zero w low is same =
    let e : a + 0 ≡ a = omega arith in
    (λ i. (is ∙ ap g e) i ∷ rest_same (suc a) n (λ k up. same k (λ h. let q : k ≡ a + 0 = h in absurd (omega arith))) i)
  where
    rest_same : (b m : ℕ) → ((k : ℕ) → b ≤ k → f k ≡ g k) → map f (up_from b m) ≡ map g (up_from b m)
    rest_same b zero h = refl
    rest_same b (suc m) h = λ i. h b (omega arith) i ∷ rest_same (suc b) m (λ k up. h k (omega arith)) i
set_map f g a (suc n) (suc d) w low is same =
    let e : a + suc d ≡ suc a + d = omega arith in
    let tail = set_map f g (suc a) n d w (omega arith) (is ∙ ap g e) (λ k ne. same k (λ h. ne (h ∙ e))) in
    let head : f a ≡ g a = same a (λ h. let q : a ≡ a + suc d = h in absurd (omega arith)) in
    λ i. head i ∷ tail i

pub get_map : (f : ℕ → SeatState) (a n d : ℕ) (z : SeatState) → d < n → get_or (map f (up_from a n)) d z ≡ f (a + d)
get_map f a zero d z low = absurd (omega arith)
get_map f a (suc n) zero z low = let e : a ≡ a + 0 = omega arith in ap f e
get_map f a (suc n) (suc d) z low = let e : suc a + d ≡ a + suc d = omega arith in get_map f (suc a) n d z (omega arith) ∙ ap f e

-- the seat of a desk, before its turn
pub seat_is : (name : TableId) (xs : List (Pid × ℕ)) (n d : ℕ) (items : List SeatState) (z : SeatState) → d < n → items ≡ map (reopened_seat name xs) (up_from 0 n) → z ≡ get_or items d z → z ≡ reopened_seat name xs d
seat_is name xs n d items z low is at = let e : 0 + d ≡ d = omega arith in at ∙ ap (λ (l : List SeatState). get_or l d z) is ∙ get_map (reopened_seat name xs) 0 n d z low ∙ ap (reopened_seat name xs) e

-- after it
pub seat_told : (name : TableId) (xs : List (Pid × ℕ)) (x : Pid × ℕ) (n : ℕ) (items : List SeatState) (s t : SeatState) → x.0.shard < n → items ≡ map (reopened_seat name xs) (up_from 0 n) → s ≡ reopened_seat name xs x.0.shard
    → t ≡ mark_seat (add_death (death_of x.0 x.1) s) → set items x.0.shard t ≡ map (reopened_seat name (xs ++ x ∷ [])) (up_from 0 n)
seat_told name xs x n items s t low is was told =
    ap (λ (l : List SeatState). set l x.0.shard t) is
    ∙ set_map (reopened_seat name xs) (reopened_seat name (xs ++ x ∷ [])) 0 n x.0.shard t low new others
  where
    e : Death
    e = new_death x.0.shard x.0.slot x.0.version x.1

    grown : given_deaths x.0.shard (xs ++ x ∷ []) ≡ given_deaths x.0.shard xs ++ e ∷ []
    grown = given_deaths-push x.0.shard xs x ∙ ap (λ (b : Bool). given_deaths x.0.shard xs ++ cond b (e ∷ []) []) (eq-eqb x.0.shard x.0.shard refl)

    zero_more : 0 + x.0.shard ≡ x.0.shard
    zero_more = omega arith

    new : t ≡ reopened_seat name (xs ++ x ∷ []) (0 + x.0.shard)
    new = told ∙ ap (λ (z : SeatState). record { name = z.name; homes = z.homes; reads = z.reads; deaths = z.deaths ++ e ∷ []; marked = z.deaths ++ e ∷ [] }) was
        ∙ ap (λ (l : List Death). record { name = name; homes = x.0.shard ∷ []; reads = []; deaths = l; marked = l }) (sym grown) ∙ ap (reopened_seat name (xs ++ x ∷ [])) (sym zero_more)

    others : (k : ℕ) → k ≢ 0 + x.0.shard → reopened_seat name xs k ≡ reopened_seat name (xs ++ x ∷ []) k
    others k ne =
        let off : eqb x.0.shard k ≡ false = ne_eqb x.0.shard k (λ h. ne (sym h ∙ sym zero_more)) in
        let same : given_deaths k (xs ++ x ∷ []) ≡ given_deaths k xs = given_deaths-push k xs x ∙ ap (λ (b : Bool). given_deaths k xs ++ cond b (e ∷ []) []) off ∙ append-nil (given_deaths k xs) in
        ap (λ (l : List Death). record { name = name; homes = k ∷ []; reads = []; deaths = l; marked = l }) (sym same)

length_seats : (f : ℕ → SeatState) (a n : ℕ) → length (map f (up_from a n)) ≡ n
length_seats f a zero = refl
length_seats f a (suc n) = ap suc (length_seats f (suc a) n)

pub count_seats : (items : List SeatState) (f : ℕ → SeatState) (n : ℕ) → items ≡ map f (up_from 0 n) → length items ≡ n
count_seats items f n is = ap length is ∙ length_seats f 0 n

pub low_version : (name : TableId) (xs : List (Pid × ℕ)) (i : ℕ) (x : Pid × ℕ) (s : SeatState) → OnePerSlot xs → get_elem? xs i ≡ some x → s ≡ reopened_seat name (take i xs) x.0.shard → 0 < x.0.version → last_version (deaths_at x.0.shard x.0.slot s.deaths) < x.0.version
low_version name xs i x s one at is pos = let e : deaths_at x.0.shard x.0.slot s.deaths ≡ [] = ap (λ (z : SeatState). deaths_at x.0.shard x.0.slot z.deaths) is ∙ none_yet xs i x one at in subst (λ (l : List Death). last_version l < x.0.version) (sym e) pos

pub low_stamp : (name : TableId) (xs : List (Pid × ℕ)) (i : ℕ) (x : Pid × ℕ) (s : SeatState) → OnePerSlot xs → get_elem? xs i ≡ some x → s ≡ reopened_seat name (take i xs) x.0.shard → last_stamp (deaths_at x.0.shard x.0.slot s.deaths) ≤ x.1
low_stamp name xs i x s one at is = let e : deaths_at x.0.shard x.0.slot s.deaths ≡ [] = ap (λ (z : SeatState). deaths_at x.0.shard x.0.slot z.deaths) is ∙ none_yet xs i x one at in subst (λ (l : List Death). last_stamp l ≤ x.1) (sym e) (omega arith)

pub at_get_or : {A : Type 0} (l : List A) (i : ℕ) (d : A) → i < length l → get_elem? l i ≡ some (get_or l i d)
at_get_or [] i d h = absurd (omega arith)
at_get_or (x ∷ xs) zero d h = refl
at_get_or (x ∷ xs) (suc i) d h = at_get_or xs i d (omega arith)
