-- A script that was written is read back.
use Rattle.std.proofs.Common.{◌≡◌, ℕ, ◌+◌, ◌-◌, ◌<◌, ◌≤◌, List, [], ◌∷◌, ◌++◌, map, Bool, true, false, cond, length, length-append, get_or, Some, None, Result, Ok, refl, ap, sym, subst, ◌∙◌, arith, append_assoc, append-nil}
use Rattle.std.specs.Prelude.{codes, if◌then◌else◌, nat_le, nat_lt, ◌&&◌, ◌||◌, ◌==◌, count_by}
use Rattle.std.specs.Map.{update}
use Rattle.std.specs.Str.{bytes_eq, is_utf8}
use Rattle.std.proofs.lemmas.Bool.Decides.{Decides-eqb}
use Rattle.std.proofs.lemmas.List.Sums.{sum_by-append}
use Rattle.serde_json.specs.Data.{Data}
use Rattle.serde_json.specs.Find.{get}
use Rattle.serde_json.specs.Read.{read}
use Rattle.pt_script.specs.declared.fault.ScriptError.{ScriptError}
use Rattle.pt_script.specs.declared.values.Settings.{Settings}
use Rattle.pt_script.specs.declared.values.Top.{Top}
use Rattle.pt_script.specs.Plans.{Plan, Whole}
use Rattle.pt_script.specs.Steps.{◌>>=◌, each}
use Rattle.pt_script.specs.Members.{required, list}
use Rattle.pt_script.specs.Scopes.{Naming, Scope}
use Rattle.pt_script.specs.Lists.{Part, fresh_scope, list_from}
use Rattle.pt_script.specs.Scripts.{Heads, Head, Pending, Lists, settings, head, with_head, next_head, no_heads, next_list, no_lists, few, begun_in, spawned_by, script, as_written}
use Rattle.pt_script.specs.Sound.{InRange, operations_of}
use Rattle.pt_script.specs.Sights.{among, first_sight, BeginsIn, TopsBegin, number_of, IsWellFormed}
use Rattle.pt_script.specs.WritingScripts.{process_name, no_plan, plan_of, list_written, top_written, script_written}
use Rattle.pt_script.proofs.SightFacts.{Named, named_more, found_not, own_name, Agrees}
use Rattle.pt_script.proofs.SoundLists.{PartFits, list_from_fits, sum_cons}
use Rattle.pt_script.proofs.SoundScripts.{begun_of, script_ok}
use Rattle.pt_script.proofs.ObjectFacts.{data_of-items_of}
use Rattle.pt_script.proofs.ReadBack.{StandAll, stand_others, stand_first, ops_written, lists_back}

-- settings -----------------------------------------------------------------------

within : (least most n : ℕ) → least ≤ n → n ≤ most → (nat_le least n && nat_le n most) ≡ true
within least most n a b = grind (arith, a, b)

settings_back : (w : Whole) → InRange w.settings → settings (script_written w) ≡ Ok w.settings
unfolding settings
settings_back w h =
    let s : Settings = w.settings in
    let a = within 1 3 s.format h.format.0 h.format.1 in
    let b = within 1 64 s.desks h.desks.0 h.desks.1 in
    let c = within 1 65536 s.slots h.slots.0 h.slots.1 in
    let d = within 1 4294967295 s.top_version h.top_version.0 h.top_version.1 in
    let e = within 1 65536 s.lane h.lane.0 h.lane.1 in
    let f = within 1 65536 s.budget h.budget.0 h.budget.1 in
    rw (a, b, c, d, e, f) refl

-- numbers of the processes that a script begins with ---------------------------------

either_among : (P : Type 0) (k n : ℕ) (ks : List ℕ) → among n (k ∷ ks) ≡ true → (k ≡ n → P) → (among n ks ≡ true → P) → P
either_among P k n ks e f g = by_test (k == n) e (Decides-eqb k n).0
  where
    by_test : (b : Bool) → (b || among n ks) ≡ true → (b ≡ true → k ≡ n) → P
    by_test true i j = f (j refl)
    by_test false i j = g i

among_here : (k : ℕ) (ks : List ℕ) → among k (k ∷ ks) ≡ true
among_here k ks = rw ((Decides-eqb k k).1 refl) refl

among_later : (n k : ℕ) (ks : List ℕ) → among n ks ≡ true → among n (k ∷ ks) ≡ true
among_later n k ks h = by_test (k == n)
  where
    by_test : (b : Bool) → (b || among n ks) ≡ true
    by_test true = refl
    by_test false = h

pub among_end : (n k : ℕ) (ks : List ℕ) → among n (ks ++ k ∷ []) ≡ among n (k ∷ ks)
among_end n k [] = refl
among_end n k (j ∷ ks) = ap (λ b. (j == n) || b) (among_end n k ks) ∙ swapped (j == n) (k == n) (among n ks)
  where
    swapped : (a b c : Bool) → (a || (b || c)) ≡ (b || (a || c))
    swapped true true c = refl
    swapped true false c = refl
    swapped false true c = refl
    swapped false false c = refl

-- a naming of these numbers
abbrev names_of : List ℕ → Naming
names_of [] = λ q. None
names_of (k ∷ ks) = λ q. update bytes_eq (names_of ks) (process_name k) (Some k) q

names_named : (ks : List ℕ) → ((n : ℕ) → among n ks ≡ true → n < 4096) → Named 110 (names_of ks) ks
names_named [] low = λ n small. refl
names_named (k ∷ ks) low = named_more 110 (names_of ks) ks k k k refl refl (omega (arith, low k (among_here k ks))) (names_named ks (λ n i. low n (among_later n k ks i)))

abbrev Block : Settings → List ℕ → ℕ → Plan → List Plan → Type 0
Block s tops next first inside = BeginsIn 8 (first_sight s.format next None tops) (next + 1) first.operations inside

-- the numbers of the processes of a list are from the next one on, and below those behind it
numbers_in : (s : Settings) (tops : List ℕ) (next : ℕ) (ts : List Top) (plans : List Plan) → TopsBegin s tops next ts plans → (n : ℕ) → among n (map number_of ts) ≡ true → (next ≤ n) × (n < next + length plans)
numbers_in s tops next [] plans h n e = absurd (let f : false ≡ true = e in cc)
numbers_in s tops next (t ∷ ts) plans h n e =
    let first : Plan = h.0 in
    let inside : List Plan = h.1 in
    let others : List Plan = h.2 in
    let len : length plans ≡ 1 + (length inside + length others) = ap length h.3 ∙ omega (arith, length-append inside others) in
    either_among ((next ≤ n) × (n < next + length plans)) t.process n (map number_of ts) e (λ i. (omega (arith, i, h.4), omega (arith, i, h.4, len))) (λ i.
    let below = numbers_in s tops (next + 1 + length inside) ts others h.7 n i in
    (omega (arith, below.0), omega (arith, below.1, len)))

-- of the numbers, those from here on are those of the processes that are left
abbrev Left : List ℕ → ℕ → List Top → Type 0
Left tops next ts = (n : ℕ) → among n tops ≡ true → next ≤ n → among n (map number_of ts) ≡ true

-- what of the whole script stays
record Fixed (s : Settings) (tops : List ℕ) : Type 0 where
  desks : (1 ≤ s.desks) × (s.desks ≤ 64)
  low : (n : ℕ) → among n tops ≡ true → n < 4096

-- a process of the list and its own processes, at their places
record At (all : List Plan) (s : Settings) (tops : List ℕ) (next : ℕ) (t : Top) (ts : List Top) (first : Plan) (inside others : List Plan) : Type 0 where
  number_is : t.process ≡ next
  desk : t.desk < s.desks
  begins : Block s tops next first inside
  later : TopsBegin s tops (next + 1 + length inside) ts others
  stand : StandAll all next (first ∷ inside ++ others)
  few : next + (1 + (length inside + length others)) ≤ 4096
  left : Left tops next (t ∷ ts)

sight_of : (all : List Plan) (s : Settings) (tops : List ℕ) (next seen : ℕ) (t : Top) (ts : List Top) (first : Plan) (inside others : List Plan) (names : Naming) → Fixed s tops → At all s tops next t ts first inside others → Named 110 names tops → Agrees (next + 1) (next + 1 + length inside) (next + 1) seen (fresh_scope s.format next None names) (first_sight s.format next None tops)
sight_of all s tops next seen t ts first inside others names fixed at named = record {
  format = refl;
  own = refl;
  parent = refl;
  made = refl;
  tops = named;
  children = λ n small. refl;
  monitors = λ n small. refl;
  asks = λ n small. refl;
  tops_low = fixed.low;
  children_low = λ n i. absurd (let e : false ≡ true = i in cc);
  monitors_low = λ n i. absurd (let e : false ≡ true = i in cc);
  asks_low = λ n i. absurd (let e : false ≡ true = i in cc);
  asks_known = λ n i. absurd (let e : false ≡ true = i in cc);
  few = omega arith;
  apart = λ n a b i. either_among ⊥ t.process n (map number_of ts) (at.left n i (omega (arith, a))) (λ e. absurd (omega (arith, a, e, at.number_is))) (λ e. absurd (omega (arith, b, (numbers_in s tops (next + 1 + length inside) ts others at.later n e).0)));
  start = omega arith;
}

top_list_is : (all : List Plan) (format next : ℕ) (tops : List ℕ) (first : Plan) → plan_of all next ≡ first → list_written 9 all None next ≡ ops_written 8 all (first_sight format next None tops) first.operations
unfolding list_written
top_list_is all format next tops first e = rw e refl

-- the list of such a process is read back
top_list : (all : List Plan) (s : Settings) (tops : List ℕ) (next seen : ℕ) (t : Top) (ts : List Top) (first : Plan) (inside others : List Plan) (names : Naming) → Fixed s tops → At all s tops next t ts first inside others → Named 110 names tops → seen + (length first.operations + operations_of inside) ≤ 65536 → list_from 8 0 (fresh_scope s.format next None names) (next + 1) seen (list_written 9 all None next) ≡ Ok (record { operations = first.operations; inside = inside; seen = seen + (length first.operations + operations_of inside) })
top_list all s tops next seen t ts first inside others names fixed at named short =
    let read = lists_back all 8 (next + 1) (next + 1 + length inside) (next + 1) seen 0 (fresh_scope s.format next None names) (first_sight s.format next None tops) first.operations inside (sight_of all s tops next seen t ts first inside others names fixed at named) at.begins (omega (arith, at.few)) (stand_first all (next + 1) inside others at.stand.1) (omega arith) short in
    ap (λ (es : List Data). list_from 8 0 (fresh_scope s.format next None names) (next + 1) seen es) (top_list_is all s.format next tops first at.stand.0) ∙ read

ops_are : (all : List Plan) (t : Top) → required list (get (codes "ops") (top_written all t)) ≡ Ok (list_written 9 all None t.process)
ops_are all t = ap Ok (data_of-items_of (list_written 9 all None t.process))

counted : (n : ℕ) (s : Scope) (next seen : ℕ) (ds : List Data) (part : Part) → list_from 8 0 s next seen ds ≡ Ok part → length part.inside ≡ spawned_by (begun_in 62) ds
counted n s next seen ds part e =
    let fits : PartFits n s next seen (spawned_by (begun_in 62) ds) part = rw e at (list_from_fits n 8 62 (omega arith) 0 s next seen ds) in
    fits.counted

begun_top : (all : List Plan) (s : Settings) (tops : List ℕ) (next : ℕ) (t : Top) (ts : List Top) (first : Plan) (inside others : List Plan) → Fixed s tops → At all s tops next t ts first inside others → length first.operations + operations_of inside ≤ 65536 → begun_in 63 (top_written all t) ≡ 1 + length inside
begun_top all s tops next t ts first inside others fixed at short =
    let names : Naming = names_of tops in
    let read = top_list all s tops next 0 t ts first inside others names fixed at (names_named tops fixed.low) (omega (arith, short)) in
    let len : length inside ≡ spawned_by (begun_in 62) (list_written 9 all None next) = counted 0 (fresh_scope s.format next None names) (next + 1) 0 (list_written 9 all None next) (record { operations = first.operations; inside = inside; seen = 0 + (length first.operations + operations_of inside) }) read in
    begun_of (top_written all t) (list_written 9 all None t.process) (ops_are all t) ∙ ap (λ n. 1 + spawned_by (begun_in 62) (list_written 9 all None n)) at.number_is ∙ ap (λ n. 1 + n) (sym len)

-- heads ------------------------------------------------------------------------------

abbrev pending_of : List Plan → Top → Pending
pending_of all t = record { trap = (plan_of all t.process).trap; value = top_written all t }

record HeadsBack (all : List Plan) (next : ℕ) (done : List Top) (h : Heads) : Type 0 where
  names : Named 110 h.names (map number_of done)
  tops : h.tops ≡ done
  unread : h.unread ≡ map (pending_of all) done
  next_is : h.next ≡ next
  low : (n : ℕ) → among n (map number_of done) ≡ true → n < next

head_back : (s : Settings) (all : List Plan) (before : Heads) (t : Top) → t.process < 4096 → before.names (process_name t.process) ≡ None → t.desk < s.desks → count_by (λ u. u.desk == t.desk) before.tops < s.slots → head s before (top_written all t) ≡ Ok (record { name = process_name t.process; desk = t.desk; trap = (plan_of all t.process).trap })
unfolding head
head_back s all before t low new inside room =
    let a : (nat_le 0 t.desk && nat_le t.desk (s.desks - 1)) ≡ true = grind (arith, inside) in
    let b : nat_lt (count_by (λ u. u.desk == t.desk) before.tops) s.slots ≡ true = grind (arith, room) in
    rw (own_name t.process (omega (arith, low)), new, a, b) refl

next_head_back : (s : Settings) (all : List Plan) (before : Heads) (t : Top) → before.next < 4096 → t.process < 4096 → before.names (process_name t.process) ≡ None → t.desk < s.desks → count_by (λ u. u.desk == t.desk) before.tops < s.slots → next_head s before (top_written all t) ≡ Ok (with_head before (record { name = process_name t.process; desk = t.desk; trap = (plan_of all t.process).trap }) (top_written all t))
unfolding next_head
next_head_back s all before t small low new inside room =
    let a : nat_le 4096 before.next ≡ false = grind (arith, small) in
    rw (a, head_back s all before t low new inside room) refl

pub map_end : {A B : Type 0} (f : A → B) (xs : List A) (x : A) → map f (xs ++ x ∷ []) ≡ map f xs ++ f x ∷ []
map_end f [] x = refl
map_end f (y ∷ xs) x = ap (λ zs. f y ∷ zs) (map_end f xs x)

named_end : (letter : ℕ) (f : Naming) (ks : List ℕ) (k : ℕ) → Named letter f (k ∷ ks) → Named letter f (ks ++ k ∷ [])
named_end letter f ks k h n small = h n small ∙ ap (λ b. if b then Some n else None) (sym (among_end n k ks))

-- how many processes the desk has before one of them is read
abbrev pub on_desk : ℕ → Top → ℕ
on_desk desk u = cond (u.desk == desk) 1 0

room_left : (done ts : List Top) (t : Top) (slots : ℕ) → count_by (λ u. u.desk == t.desk) (done ++ t ∷ ts) ≤ slots → count_by (λ u. u.desk == t.desk) done < slots
room_left done ts t slots h =
    let here : on_desk t.desk t ≡ 1 = ap (λ b. cond b 1 0) ((Decides-eqb t.desk t.desk).1 refl) in
    omega (arith, h, here, sum_by-append (on_desk t.desk) done (t ∷ ts), sum_cons (on_desk t.desk) t ts)

head_step : (all : List Plan) (s : Settings) (tops : List ℕ) (next : ℕ) (done : List Top) (t : Top) (ts : List Top) (first : Plan) (inside others : List Plan) (before : Heads) → Fixed s tops → At all s tops next t ts first inside others → HeadsBack all next done before → length first.operations + operations_of inside ≤ 65536 → count_by (λ u. u.desk == t.desk) (done ++ t ∷ ts) ≤ s.slots → (after : Heads) × (next_head s before (top_written all t) ≡ Ok after) × HeadsBack all (next + 1 + length inside) (done ++ t ∷ []) after
head_step all s tops next done t ts first inside others before fixed at h short room =
    let small : next < 4096 = omega (arith, at.few) in
    let low : t.process < 4096 = omega (arith, small, at.number_is) in
    let lone : Head = record { name = process_name t.process; desk = t.desk; trap = (plan_of all t.process).trap } in
    let after : Heads = with_head before lone (top_written all t) in
    let new : before.names (process_name t.process) ≡ None = h.names t.process (omega (arith, low)) ∙ found_not t.process (map number_of done) (λ i. absurd (omega (arith, h.low t.process i, at.number_is))) in
    let room_is : count_by (λ u. u.desk == t.desk) before.tops < s.slots = subst (λ (us : List Top). count_by (λ u. u.desk == t.desk) us < s.slots) (sym h.tops) (room_left done ts t s.slots room) in
    let named : Named 110 after.names (t.process ∷ map number_of done) = named_more 110 before.names (map number_of done) t.process before.next t.process refl (h.next_is ∙ sym at.number_is) (omega (arith, low)) h.names in
    let top_is : record { process = before.next; desk = t.desk } ≡ t = ap (λ n. record { process = n; desk = t.desk }) (h.next_is ∙ sym at.number_is) in
    let numbers : map number_of (done ++ t ∷ []) ≡ map number_of done ++ t.process ∷ [] = map_end number_of done t in (
      after,
      next_head_back s all before t (omega (arith, h.next_is, small)) low new at.desk room_is,
      record {
        names = subst (λ ks. Named 110 after.names ks) (sym numbers) (named_end 110 after.names (map number_of done) t.process named);
        tops = ap (λ us. us ++ record { process = before.next; desk = t.desk } ∷ []) h.tops ∙ ap (λ u. done ++ u ∷ []) top_is;
        unread = ap (λ ps. ps ++ pending_of all t ∷ []) h.unread ∙ sym (map_end (pending_of all) done t);
        next_is = omega (arith, h.next_is, begun_top all s tops next t ts first inside others fixed at short, at.few);
        low = λ n i. either_among (n < next + 1 + length inside) t.process n (map number_of done) (sym (among_end n t.process (map number_of done)) ∙ ap (among n) (sym numbers) ∙ i) (λ e. omega (arith, e, at.number_is)) (λ j. omega (arith, h.low n j));
      },
    )

-- the premises for the processes that are left
left_behind : (all : List Plan) (s : Settings) (tops : List ℕ) (next : ℕ) (t : Top) (ts : List Top) (first : Plan) (inside others : List Plan) → At all s tops next t ts first inside others → Left tops (next + 1 + length inside) ts
left_behind all s tops next t ts first inside others at n i le =
    either_among (among n (map number_of ts) ≡ true) t.process n (map number_of ts) (at.left n i (omega (arith, le))) (λ e. absurd (omega (arith, e, le, at.number_is))) (λ j. j)

stand_behind : (all : List Plan) (next : ℕ) (first : Plan) (inside others : List Plan) → StandAll all next (first ∷ inside ++ others) → StandAll all (next + 1 + length inside) others
stand_behind all next first inside others h = stand_others all (next + 1) inside others h.1

parted : (all : List Plan) (s : Settings) (tops : List ℕ) (next : ℕ) (t : Top) (ts : List Top) (plans : List Plan) (h : TopsBegin s tops next (t ∷ ts) plans) → StandAll all next plans → next + length plans ≤ 4096 → Left tops next (t ∷ ts) → At all s tops next t ts h.0 h.1 h.2
parted all s tops next t ts plans h stand few left =
    let len : length plans ≡ 1 + (length h.1 + length h.2) = ap length h.3 ∙ omega (arith, length-append h.1 h.2) in
    record {
      number_is = h.4;
      desk = h.5;
      begins = h.6;
      later = h.7;
      stand = subst (λ (ps : List Plan). StandAll all next ps) h.3 stand;
      few = omega (arith, few, len);
      left = left;
    }

ops_sum : (first : Plan) (inside others : List Plan) → operations_of (first ∷ inside ++ others) ≡ length first.operations + operations_of inside + operations_of others
ops_sum first inside others = omega (arith, sum_cons (λ (p : Plan). length p.operations) first (inside ++ others), sum_by-append (λ (p : Plan). length p.operations) inside others)

abbrev pub Rooms : Settings → List Top → Type 0
Rooms s ts = (desk : ℕ) → count_by (λ u. u.desk == desk) ts ≤ s.slots

heads_back : (all : List Plan) (s : Settings) (tops : List ℕ) (next : ℕ) (done ts : List Top) (plans : List Plan) (before : Heads) → Fixed s tops → TopsBegin s tops next ts plans → StandAll all next plans → next + length plans ≤ 4096 → operations_of plans ≤ 65536 → Left tops next ts → Rooms s (done ++ ts) → HeadsBack all next done before → (after : Heads) × (each (next_head s) before (map (top_written all) ts) ≡ Ok after) × (after.tops ≡ done ++ ts) × (after.unread ≡ map (pending_of all) (done ++ ts)) × Named 110 after.names (map number_of (done ++ ts))
heads_back all s tops next done [] plans before fixed h stand few short left rooms back =
    let e : done ≡ done ++ [] = sym (append-nil done) in
    (before, refl, back.tops ∙ e, back.unread ∙ ap (map (pending_of all)) e, subst (λ (us : List Top). Named 110 before.names (map number_of us)) e back.names)
heads_back all s tops next done (t ∷ ts) plans before fixed h stand few short left rooms back =
    let first : Plan = h.0 in
    let inside : List Plan = h.1 in
    let others : List Plan = h.2 in
    let at : At all s tops next t ts first inside others = parted all s tops next t ts plans h stand few left in
    let sum : operations_of plans ≡ length first.operations + operations_of inside + operations_of others = ap operations_of h.3 ∙ ops_sum first inside others in
    let one = head_step all s tops next done t ts first inside others before fixed at back (omega (arith, short, sum)) (rooms t.desk) in
    let again : (done ++ t ∷ []) ++ ts ≡ done ++ t ∷ ts = append_assoc done (t ∷ []) ts in
    let rest = heads_back all s tops (next + 1 + length inside) (done ++ t ∷ []) ts others one.0 fixed at.later (stand_behind all next first inside others at.stand) (omega (arith, at.few)) (omega (arith, short, sum)) (left_behind all s tops next t ts first inside others at) (subst (λ (us : List Top). Rooms s us) (sym again) rooms) one.2 in
    (rest.0, ap (λ r. r >>= λ a. each (next_head s) a (map (top_written all) ts)) one.1 ∙ rest.1, rest.2 ∙ again, rest.3 ∙ ap (map (pending_of all)) again, subst (λ (us : List Top). Named 110 rest.0.names (map number_of us)) again rest.4)

-- lists --------------------------------------------------------------------------------

next_list_is : (format : ℕ) (names : Naming) (before : Lists) (p : Pending) (ops : List Data) (part : Part) → length before.processes < 4096 → required list (get (codes "ops") p.value) ≡ Ok ops → list_from 8 0 (fresh_scope format (length before.processes) None names) (length before.processes + 1) before.seen ops ≡ Ok part → next_list format names before p ≡ Ok (record { processes = before.processes ++ record { trap = p.trap; operations = part.operations } ∷ part.inside; seen = part.seen })
unfolding next_list
next_list_is format names before p ops part low given read =
    let a : nat_le 4096 (length before.processes) ≡ false = grind (arith, low) in
    rw (a, given, read) refl

list_step : (all : List Plan) (s : Settings) (tops : List ℕ) (next : ℕ) (t : Top) (ts : List Top) (first : Plan) (inside others : List Plan) (names : Naming) (before : Lists) → Fixed s tops → At all s tops next t ts first inside others → Named 110 names tops → length before.processes ≡ next → before.seen + (length first.operations + operations_of inside) ≤ 65536 → next_list s.format names before (pending_of all t) ≡ Ok (record { processes = before.processes ++ first ∷ inside; seen = before.seen + (length first.operations + operations_of inside) })
list_step all s tops next t ts first inside others names before fixed at named len short =
    let part : Part = record { operations = first.operations; inside = inside; seen = before.seen + (length first.operations + operations_of inside) } in
    let read : list_from 8 0 (fresh_scope s.format next None names) (next + 1) before.seen (list_written 9 all None next) ≡ Ok part = top_list all s tops next before.seen t ts first inside others names fixed at named short in
    let here : list_from 8 0 (fresh_scope s.format (length before.processes) None names) (length before.processes + 1) before.seen (list_written 9 all None next) ≡ Ok part = subst (λ n. list_from 8 0 (fresh_scope s.format n None names) (n + 1) before.seen (list_written 9 all None next) ≡ Ok part) (sym len) read in
    let given : required list (get (codes "ops") (top_written all t)) ≡ Ok (list_written 9 all None next) = ops_are all t ∙ ap (λ n. Ok (list_written 9 all None n)) at.number_is in
    let trap : (plan_of all t.process).trap ≡ first.trap = ap (λ n. (plan_of all n).trap) at.number_is ∙ ap (λ (p : Plan). p.trap) at.stand.0 in
    next_list_is s.format names before (pending_of all t) (list_written 9 all None next) part (omega (arith, len, at.few)) given here ∙ ap (λ b. Ok (record { processes = before.processes ++ record { trap = b; operations = first.operations } ∷ inside; seen = part.seen })) trap

tops_lists : (all : List Plan) (s : Settings) (tops : List ℕ) (next : ℕ) (ts : List Top) (plans : List Plan) (names : Naming) (before : Lists) → Fixed s tops → TopsBegin s tops next ts plans → StandAll all next plans → next + length plans ≤ 4096 → before.seen + operations_of plans ≤ 65536 → Left tops next ts → Named 110 names tops → length before.processes ≡ next → (after : Lists) × (each (next_list s.format names) before (map (pending_of all) ts) ≡ Ok after) × (after.processes ≡ before.processes ++ plans)
tops_lists all s tops next [] plans names before fixed h stand few short left named len = (before, refl, sym (append-nil before.processes) ∙ ap (λ ps. before.processes ++ ps) (sym h))
tops_lists all s tops next (t ∷ ts) plans names before fixed h stand few short left named len =
    let first : Plan = h.0 in
    let inside : List Plan = h.1 in
    let others : List Plan = h.2 in
    let at : At all s tops next t ts first inside others = parted all s tops next t ts plans h stand few left in
    let sum : operations_of plans ≡ length first.operations + operations_of inside + operations_of others = ap operations_of h.3 ∙ ops_sum first inside others in
    let more : Lists = record { processes = before.processes ++ first ∷ inside; seen = before.seen + (length first.operations + operations_of inside) } in
    let one : next_list s.format names before (pending_of all t) ≡ Ok more = list_step all s tops next t ts first inside others names before fixed at named len (omega (arith, short, sum)) in
    let longer : length more.processes ≡ next + 1 + length inside = omega (arith, length-append before.processes (first ∷ inside), len) in
    let rest = tops_lists all s tops (next + 1 + length inside) ts others names more fixed at.later (stand_behind all next first inside others at.stand) (omega (arith, at.few)) (omega (arith, short, sum)) (left_behind all s tops next t ts first inside others at) named longer in
    (rest.0, ap (λ r. r >>= λ a. each (next_list s.format names) a (map (pending_of all) ts)) one ∙ rest.1, rest.2 ∙ append_assoc before.processes (first ∷ inside) others ∙ ap (λ ps. before.processes ++ ps) (sym h.3))

-- scripts --------------------------------------------------------------------------------

stand_end : (xs ys : List Plan) → StandAll (xs ++ ys) (length xs) ys
stand_end xs [] = tt
stand_end xs (y ∷ ys) =
    let next : length (xs ++ y ∷ []) ≡ length xs + 1 = omega (arith, length-append xs (y ∷ [])) in
    let again : (xs ++ y ∷ []) ++ ys ≡ xs ++ y ∷ ys = append_assoc xs (y ∷ []) ys in
    let rest : StandAll ((xs ++ y ∷ []) ++ ys) (length (xs ++ y ∷ [])) ys = stand_end (xs ++ y ∷ []) ys in
    (at_end xs, subst (λ n. StandAll (xs ++ y ∷ ys) n ys) next (subst (λ (zs : List Plan). StandAll zs (length (xs ++ y ∷ [])) ys) again rest))
  where
    at_end : (zs : List Plan) → get_or (zs ++ y ∷ ys) (length zs) no_plan ≡ y
    at_end [] = refl
    at_end (z ∷ zs) = grind (arith, at_end zs)

none_back : (all : List Plan) → HeadsBack all 0 [] no_heads
none_back all = record { names = λ n small. refl; tops = refl; unread = refl; next_is = refl; low = λ n i. absurd (let e : false ≡ true = i in cc) }

values_back : (w : Whole) → required list (get (codes "processes") (script_written w)) ≡ Ok (map (top_written w.processes) w.tops)
values_back w = ap Ok (data_of-items_of (map (top_written w.processes) w.tops))

abbrev accepted : Whole → Result Whole ScriptError
accepted w = Ok w

same_whole : (s : Settings) (ts us : List Top) (ps qs : List Plan) → ts ≡ us → ps ≡ qs → accepted (record { settings = s; tops = ts; processes = ps }) ≡ accepted (record { settings = s; tops = us; processes = qs })
same_whole s ts us ps qs e f = ap (λ xs. Ok (record { settings = s; tops = xs; processes = ps })) e ∙ ap (λ ys. Ok (record { settings = s; tops = us; processes = ys })) f

pub scripts_back : (w : Whole) → IsWellFormed w → script (script_written w) ≡ Ok w
scripts_back w h =
    let s : Settings = w.settings in
    let all : List Plan = w.processes in
    let tops : List ℕ = map number_of w.tops in
    let few : 0 + length all ≤ 4096 = omega (arith, h.processes) in
    let fixed : Fixed s tops = record { desks = h.settings.desks; low = λ n i. omega (arith, (numbers_in s tops 0 w.tops all h.begins n i).1, h.processes) } in
    let left : Left tops 0 w.tops = λ n i le. i in
    let heads = heads_back all s tops 0 [] w.tops all no_heads fixed h.begins (stand_end [] all) few h.operations left h.room (none_back all) in
    let lists = tops_lists all s tops 0 w.tops all heads.0.names no_lists fixed h.begins (stand_end [] all) few (omega (arith, h.operations)) left heads.4 refl in
    let read : each (next_list s.format heads.0.names) no_lists heads.0.unread ≡ Ok lists.0 = ap (λ us. each (next_list s.format heads.0.names) no_lists us) heads.3 ∙ lists.1 in
    script_ok (script_written w) s (map (top_written all) w.tops) heads.0 lists.0 (settings_back w h.settings) (values_back w) heads.1 read
    ∙ same_whole s heads.0.tops w.tops lists.0.processes all heads.2 lists.2

text_back : (bytes : List ℕ) (d : Data) (w : Whole) → length bytes ≤ 1048576 → is_utf8 bytes ≡ true → read bytes ≡ Some d → script d ≡ Ok w → as_written bytes ≡ Ok w
unfolding as_written
text_back bytes d w short text is back =
    let a : nat_lt 1048576 (length bytes) ≡ false = grind (arith, short) in
    rw (a, text, is, back) refl

pub read_back : (w : Whole) → IsWellFormed w → (script (script_written w) ≡ Ok w) × ((bytes : List ℕ) → length bytes ≤ 1048576 → is_utf8 bytes ≡ true → read bytes ≡ Some (script_written w) → as_written bytes ≡ Ok w)
read_back w h = (scripts_back w h, λ bytes short text is. text_back bytes (script_written w) w short text is (scripts_back w h))
