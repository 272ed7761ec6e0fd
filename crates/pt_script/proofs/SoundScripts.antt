-- Every script that is accepted is sound.
use Rattle.std.proofs.Common.{◌≡◌, ℕ, ◌+◌, ◌-◌, ◌<◌, ◌≤◌, List, [], ◌∷◌, ◌++◌, false, length, length-append, Option, Some, None, Result, Ok, Err, refl, ap, sym, ◌∙◌, arith}
use Rattle.std.specs.Prelude.{IfOk, codes, if◌then◌else◌, nat_le, nat_lt, ◌&&◌}
use Rattle.std.specs.List.{All}
use Rattle.std.specs.Str.{bytes_eq, is_utf8}
use Rattle.std.proofs.lemmas.List.Elements.{All-nil, All-cons, All-append, All-head, All-tail}
use Rattle.std.proofs.lemmas.List.Sums.{sum_by-append}
use Rattle.serde_json.specs.Data.{Data, unsigned, negative, float, null, boolean, number, string, array, object}
use Rattle.serde_json.specs.Find.{get}
use Rattle.pt_script.specs.declared.fault.Fault.{Fault}
use Rattle.pt_script.specs.declared.fault.Fault.TheVariants.{Syntax, Bounds}
use Rattle.pt_script.specs.declared.fault.ScriptError.{ScriptError}
use Rattle.pt_script.specs.declared.fault.ScriptError.TheVariants.{Refused}
use Rattle.serde_json.specs.Read.{read}
use Rattle.pt_script.specs.declared.values.Settings.{Settings}
use Rattle.pt_script.specs.Plans.{Plan, Whole}
use Rattle.pt_script.specs.Steps.{◌>>=◌, each}
use Rattle.pt_script.specs.Members.{known_members, whole_number, required, optional_member, list, flag}
use Rattle.pt_script.specs.Operations.{new_name}
use Rattle.pt_script.specs.Scopes.{Naming, Scope}
use Rattle.pt_script.specs.Lists.{Part, placed, at_script, at_process, fresh_scope, list_from}
use Rattle.pt_script.specs.Scripts.{Heads, Head, Pending, Lists, settings, head, with_head, next_head, no_heads, next_list, no_lists, few, room, number_behind, begun_in, spawned_by, script, script_of, as_written}
use Rattle.pt_script.specs.Sound.{IsBelow, TopFits, ListFits, PlansFit, InRange, IsSoundScript, operations_of}
use Rattle.pt_script.proofs.SoundSteps.{bind, skip, where_ok, either, placed_ok, required_ok, optional_ok}
use Rattle.pt_script.proofs.SoundLists.{PartFits, list_from_fits, sum_cons}

-- settings -----------------------------------------------------------------------

abbrev pub Between : ℕ → ℕ → ℕ → Type 0
Between least most n = (least ≤ n) × (n ≤ most)

abbrev checked : ℕ → ℕ → ℕ → Result ℕ Fault
checked least most n = if nat_le least n && nat_le n most then Ok n else Err Bounds

in_range : (least most n : ℕ) → IfOk (checked least most n) (Between least most)
in_range least most n = grind arith

pub whole_in : (least most : ℕ) (d : Data) → IfOk (whole_number least most d) (Between least most)
whole_in least most (number (unsigned n)) = in_range least most n
whole_in least most (number (negative z)) = tt
whole_in least most (number (float x)) = tt
whole_in least most null = tt
whole_in least most (boolean b) = tt
whole_in least most (string s) = tt
whole_in least most (array ds) = tt
whole_in least most (object ms) = tt

pub needed_in : (least most : ℕ) (m : Option Data) → IfOk (required (whole_number least most) m) (Between least most)
needed_in least most m = required_ok (Between least most) (whole_number least most) m (whole_in least most)

given_in : (missing least most : ℕ) (m : Option Data) → Between least most missing → IfOk (optional_member missing (whole_number least most) m) (Between least most)
given_in missing least most m h = optional_ok (Between least most) missing (whole_number least most) m h (whole_in least most)

ranges : (format desks slots top lane budget : ℕ) → Between 1 3 format → Between 1 64 desks → Between 1 65536 slots → Between 1 4294967295 top → Between 1 65536 lane → Between 1 65536 budget → InRange (record { format = format; desks = desks; slots = slots; top_version = top; lane = lane; budget = budget })
ranges format desks slots top lane budget a b c d e f = record { format = a; desks = b; slots = c; top_version = d; lane = e; budget = f }

pub settings_in : (d : Data) → IfOk (settings d) InRange
unfolding settings
settings_in d =
    skip InRange (known_members (codes "format" ∷ codes "desks" ∷ codes "slots" ∷ codes "top" ∷ codes "lane" ∷ codes "budget" ∷ codes "processes" ∷ []) d) (λ u. (required (whole_number 1 3) (get (codes "format") d) >>= λ format. (required (whole_number 1 64) (get (codes "desks") d) >>= λ desks. (optional_member 1024 (whole_number 1 65536) (get (codes "slots") d) >>= λ slots. (optional_member 4294967295 (whole_number 1 4294967295) (get (codes "top") d) >>= λ top. (optional_member 64 (whole_number 1 65536) (get (codes "lane") d) >>= λ lane. (optional_member 16 (whole_number 1 65536) (get (codes "budget") d) >>= λ budget. Ok (record { format = format; desks = desks; slots = slots; top_version = top; lane = lane; budget = budget })))))))) (λ u.
    bind (Between 1 3) InRange (required (whole_number 1 3) (get (codes "format") d)) (λ format. (required (whole_number 1 64) (get (codes "desks") d) >>= λ desks. (optional_member 1024 (whole_number 1 65536) (get (codes "slots") d) >>= λ slots. (optional_member 4294967295 (whole_number 1 4294967295) (get (codes "top") d) >>= λ top. (optional_member 64 (whole_number 1 65536) (get (codes "lane") d) >>= λ lane. (optional_member 16 (whole_number 1 65536) (get (codes "budget") d) >>= λ budget. Ok (record { format = format; desks = desks; slots = slots; top_version = top; lane = lane; budget = budget }))))))) (needed_in 1 3 (get (codes "format") d)) (λ format format_in.
    bind (Between 1 64) InRange (required (whole_number 1 64) (get (codes "desks") d)) (λ desks. (optional_member 1024 (whole_number 1 65536) (get (codes "slots") d) >>= λ slots. (optional_member 4294967295 (whole_number 1 4294967295) (get (codes "top") d) >>= λ top. (optional_member 64 (whole_number 1 65536) (get (codes "lane") d) >>= λ lane. (optional_member 16 (whole_number 1 65536) (get (codes "budget") d) >>= λ budget. Ok (record { format = format; desks = desks; slots = slots; top_version = top; lane = lane; budget = budget })))))) (needed_in 1 64 (get (codes "desks") d)) (λ desks desks_in.
    bind (Between 1 65536) InRange (optional_member 1024 (whole_number 1 65536) (get (codes "slots") d)) (λ slots. (optional_member 4294967295 (whole_number 1 4294967295) (get (codes "top") d) >>= λ top. (optional_member 64 (whole_number 1 65536) (get (codes "lane") d) >>= λ lane. (optional_member 16 (whole_number 1 65536) (get (codes "budget") d) >>= λ budget. Ok (record { format = format; desks = desks; slots = slots; top_version = top; lane = lane; budget = budget }))))) (given_in 1024 1 65536 (get (codes "slots") d) (omega arith, omega arith)) (λ slots slots_in.
    bind (Between 1 4294967295) InRange (optional_member 4294967295 (whole_number 1 4294967295) (get (codes "top") d)) (λ top. (optional_member 64 (whole_number 1 65536) (get (codes "lane") d) >>= λ lane. (optional_member 16 (whole_number 1 65536) (get (codes "budget") d) >>= λ budget. Ok (record { format = format; desks = desks; slots = slots; top_version = top; lane = lane; budget = budget })))) (given_in 4294967295 1 4294967295 (get (codes "top") d) (omega arith, omega arith)) (λ top top_in.
    bind (Between 1 65536) InRange (optional_member 64 (whole_number 1 65536) (get (codes "lane") d)) (λ lane. (optional_member 16 (whole_number 1 65536) (get (codes "budget") d) >>= λ budget. Ok (record { format = format; desks = desks; slots = slots; top_version = top; lane = lane; budget = budget }))) (given_in 64 1 65536 (get (codes "lane") d) (omega arith, omega arith)) (λ lane lane_in.
    bind (Between 1 65536) InRange (optional_member 16 (whole_number 1 65536) (get (codes "budget") d)) (λ budget. Ok (record { format = format; desks = desks; slots = slots; top_version = top; lane = lane; budget = budget })) (given_in 16 1 65536 (get (codes "budget") d) (omega arith, omega arith)) (λ budget budget_in.
    ranges format desks slots top lane budget format_in desks_in slots_in top_in lane_in budget_in)))))))

-- numbers ------------------------------------------------------------------------

-- the numbers of the processes, where the first has this number
abbrev starts : ℕ → List Pending → List ℕ
starts n [] = []
starts n (p ∷ ps) = n ∷ starts (number_behind n (begun_in 63 p.value)) ps

-- the number behind them all
abbrev after : ℕ → List Pending → ℕ
after n [] = n
after n (p ∷ ps) = after (number_behind n (begun_in 63 p.value)) ps

starts_more : (n : ℕ) (ps : List Pending) (p : Pending) → starts n (ps ++ p ∷ []) ≡ starts n ps ++ after n ps ∷ []
starts_more n [] p = refl
starts_more n (q ∷ ps) p = ap (λ xs. n ∷ xs) (starts_more (number_behind n (begun_in 63 q.value)) ps p)

after_more : (n : ℕ) (ps : List Pending) (p : Pending) → after n (ps ++ p ∷ []) ≡ number_behind (after n ps) (begun_in 63 p.value)
after_more n [] p = refl
after_more n (q ∷ ps) p = after_more (number_behind n (begun_in 63 q.value)) ps p

abbrev AllBelow : ℕ → List ℕ → Type 0
AllBelow n ks = All (λ k. k < n) ks

-- heads --------------------------------------------------------------------------

record HeadsFit (s : Settings) (h : Heads) : Type 0 where
  tops : (n : ℕ) → AllBelow n (starts 0 h.unread) → All (TopFits n s.desks) h.tops
  names : (n : ℕ) → AllBelow n (starts 0 h.unread) → (q : List ℕ) → IsBelow n (h.names q)
  next : h.next ≡ after 0 h.unread

firsts : (n : ℕ) (xs ys : List ℕ) → AllBelow n (xs ++ ys) → AllBelow n xs
firsts n [] ys h = All-nil (λ k. k < n)
firsts n (x ∷ xs) ys h = All-cons (λ k. k < n) x xs (All-head (λ k. k < n) x (xs ++ ys) h) (firsts n xs ys (All-tail (λ k. k < n) x (xs ++ ys) h))

last_of : (n : ℕ) (xs : List ℕ) (y : ℕ) → AllBelow n (xs ++ y ∷ []) → y < n
last_of n [] y h = All-head (λ k. k < n) y [] h
last_of n (x ∷ xs) y h = last_of n xs y (All-tail (λ k. k < n) x (xs ++ y ∷ []) h)

more_fits : (s : Settings) (before : Heads) (h : Head) (d : Data) → h.desk < s.desks → HeadsFit s before → HeadsFit s (with_head before h d)
more_fits s before h d inside fits =
    let p : Pending = record { trap = h.trap; value = d } in
    let us = before.unread in
    record {
      tops = λ n all.
          let these : AllBelow n (starts 0 us ++ after 0 us ∷ []) = rw (sym (starts_more 0 us p)) all in
          let low : before.next < n = rw fits.next (last_of n (starts 0 us) (after 0 us) these) in
          All-append (TopFits n s.desks) before.tops (record { process = before.next; desk = h.desk } ∷ []) (fits.tops n (firsts n (starts 0 us) (after 0 us ∷ []) these)) (All-cons (TopFits n s.desks) (record { process = before.next; desk = h.desk }) [] (low, inside) (All-nil (TopFits n s.desks)));
      names = λ n all q.
          let these : AllBelow n (starts 0 us ++ after 0 us ∷ []) = rw (sym (starts_more 0 us p)) all in
          let low : before.next < n = rw fits.next (last_of n (starts 0 us) (after 0 us) these) in
          either (IsBelow n) (bytes_eq h.name q) (Some before.next) (before.names q) low (fits.names n (firsts n (starts 0 us) (after 0 us ∷ []) these) q);
      next = ap (λ k. number_behind k (begun_in 63 d)) fits.next ∙ sym (after_more 0 us p);
    }

abbrev DeskIn : Settings → Head → Type 0
DeskIn s h = h.desk < s.desks

head_desk : (s : Settings) (before : Heads) (d : Data) → 1 ≤ s.desks → IfOk (head s before d) (DeskIn s)
unfolding head
head_desk s before d some =
    skip (DeskIn s) (known_members (codes "name" ∷ codes "desk" ∷ codes "trap" ∷ codes "ops" ∷ []) d) (λ u. (required (new_name before.names) (get (codes "name") d) >>= λ name. (required (whole_number 0 (s.desks - 1)) (get (codes "desk") d) >>= λ desk. (room s before.tops desk >>= λ r. (optional_member false flag (get (codes "trap") d) >>= λ trap. Ok (record { name = name; desk = desk; trap = trap })))))) (λ u.
    skip (DeskIn s) (required (new_name before.names) (get (codes "name") d)) (λ name. (required (whole_number 0 (s.desks - 1)) (get (codes "desk") d) >>= λ desk. (room s before.tops desk >>= λ r. (optional_member false flag (get (codes "trap") d) >>= λ trap. Ok (record { name = name; desk = desk; trap = trap }))))) (λ name.
    bind (Between 0 (s.desks - 1)) (DeskIn s) (required (whole_number 0 (s.desks - 1)) (get (codes "desk") d)) (λ desk. (room s before.tops desk >>= λ r. (optional_member false flag (get (codes "trap") d) >>= λ trap. Ok (record { name = name; desk = desk; trap = trap })))) (needed_in 0 (s.desks - 1) (get (codes "desk") d)) (λ desk desk_in.
    skip (DeskIn s) (room s before.tops desk) (λ r. (optional_member false flag (get (codes "trap") d) >>= λ trap. Ok (record { name = name; desk = desk; trap = trap }))) (λ r.
    skip (DeskIn s) (optional_member false flag (get (codes "trap") d)) (λ trap. Ok (record { name = name; desk = desk; trap = trap })) (λ trap.
    omega (arith, desk_in.1, some))))))

next_head_fits : (s : Settings) (before : Heads) (d : Data) → 1 ≤ s.desks → HeadsFit s before → IfOk (next_head s before d) (HeadsFit s)
unfolding next_head
next_head_fits s before d some fits =
    skip (HeadsFit s) (few before.next) (λ u. placed (at_process before.next) (head s before d) >>= λ h. Ok (with_head before h d)) (λ u.
    bind (DeskIn s) (HeadsFit s) (placed (at_process before.next) (head s before d)) (λ h. Ok (with_head before h d)) (placed_ok (DeskIn s) (at_process before.next) (head s before d) (head_desk s before d some)) (λ h inside. more_fits s before h d inside fits))

heads_fit : (s : Settings) → 1 ≤ s.desks → (before : Heads) (ds : List Data) → HeadsFit s before → IfOk (each (next_head s) before ds) (HeadsFit s)
heads_fit s some before [] fits = fits
heads_fit s some before (d ∷ ds) fits =
    bind (HeadsFit s) (HeadsFit s) (next_head s before d) (λ a. each (next_head s) a ds) (next_head_fits s before d some fits) (λ a h. heads_fit s some a ds h)

none_fits : (s : Settings) → HeadsFit s no_heads
none_fits s = record { tops = λ n all. All-nil (TopFits n s.desks); names = λ n all q. tt; next = refl }

-- lists --------------------------------------------------------------------------

pub imply : {A E : Type 0} (P Q : A → Type 0) (r : Result A E) → IfOk r P → ((x : A) → P x → Q x) → IfOk r Q
imply P Q (Ok x) h f = f x h
imply P Q (Err e) h f = tt

every : {A E : Type 0} (P : ℕ → A → Type 0) (r : Result A E) → ((n : ℕ) → IfOk r (P n)) → IfOk r (λ x. (n : ℕ) → P n x)
every P (Ok x) h = h
every P (Err e) h = tt

-- what the list of one process adds
pub record AddFits (names : Naming) (before : Lists) (p : Pending) (more : Lists) : Type 0 where
  fits : (n : ℕ) → ((q : List ℕ) → IsBelow n (names q)) → length more.processes ≤ n → PlansFit n before.processes → PlansFit n more.processes
  pub longer : length more.processes ≡ length before.processes + begun_in 63 p.value
  grown : length before.processes < length more.processes
  pub few : length more.processes ≤ 4096
  seen : before.seen ≡ operations_of before.processes → more.seen ≡ operations_of more.processes
  short : before.seen ≤ 65536 → more.seen ≤ 65536

few_low : (n : ℕ) → few n ≡ Ok tt → n < 4096
few_low n h = grind arith

pub begun_of : (d : Data) (ops : List Data) → required list (get (codes "ops") d) ≡ Ok ops → begun_in 63 d ≡ 1 + spawned_by (begun_in 62) ops
unfolding begun_in
begun_of d ops h = rw h refl

abbrev scope_of : ℕ → Naming → Lists → Scope
scope_of format names before = fresh_scope format (length before.processes) None names

added : (format : ℕ) (names : Naming) (before : Lists) (p : Pending) (ops : List Data) (part : Part) → length before.processes < 4096 → required list (get (codes "ops") p.value) ≡ Ok ops → ((n : ℕ) → PartFits n (scope_of format names before) (length before.processes + 1) before.seen (spawned_by (begun_in 62) ops) part) → AddFits names before p (record { processes = before.processes ++ record { trap = p.trap; operations = part.operations } ∷ part.inside; seen = part.seen })
added format names before p ops part low is h =
    let plan : Plan = record { trap = p.trap; operations = part.operations } in
    let len : length (before.processes ++ plan ∷ part.inside) ≡ length before.processes + (1 + length part.inside) = omega (arith, length-append before.processes (plan ∷ part.inside)) in
    record {
      fits = λ n names_in fits old.
          let own : length before.processes < n = omega (arith, fits, len) in
          let inner = (h n).fits (record { own = own; parent = tt; tops = names_in; children = λ q. tt; monitors = λ q. tt; asks = λ q. tt }) (omega (arith, fits, len)) in
          All-append (λ p. ListFits n 0 p.operations) before.processes (plan ∷ part.inside) old (All-cons (λ p. ListFits n 0 p.operations) plan part.inside inner.0 inner.1);
      longer = omega (arith, len, (h 0).counted, begun_of p.value ops is);
      grown = omega (arith, len);
      few = omega (arith, len, (h 0).few (omega arith));
      seen = λ same. omega (arith, same, (h 0).read, sum_by-append (λ (q : Plan). length q.operations) before.processes (plan ∷ part.inside), sum_cons (λ (q : Plan). length q.operations) plan part.inside);
      short = λ small. (h 0).short small;
    }

pub next_list_fits : (format : ℕ) (names : Naming) (before : Lists) (p : Pending) → IfOk (next_list format names before p) (AddFits names before p)
unfolding next_list
next_list_fits format names before p =
    let size : ℕ = length before.processes in
    let Q : Lists → Type 0 = AddFits names before p in
    let Few : Unit {0} → Type 0 = λ u. few size ≡ Ok u in
    let Is : List Data → Type 0 = λ ops. required list (get (codes "ops") p.value) ≡ Ok ops in
    let given : Result (List Data) Fault = required list (get (codes "ops") p.value) in
    let s : Scope = scope_of format names before in
    let of_part : Part → Result Lists ScriptError = λ part. Ok (record { processes = before.processes ++ record { trap = p.trap; operations = part.operations } ∷ part.inside; seen = part.seen }) in
    let of_ops : List Data → Result Lists ScriptError = λ ops. list_from 8 0 s (size + 1) before.seen ops >>= of_part in
    bind Few Q (few size) (λ u. placed (at_process size) given >>= of_ops) (where_ok Few (few size) (λ u e. e)) (λ u e.
    bind Is Q (placed (at_process size) given) of_ops (placed_ok Is (at_process size) given (where_ok Is given (λ ops i. i))) (λ ops is.
    bind (λ part. (n : ℕ) → PartFits n s (size + 1) before.seen (spawned_by (begun_in 62) ops) part) Q (list_from 8 0 s (size + 1) before.seen ops) of_part
    (every (λ n part. PartFits n s (size + 1) before.seen (spawned_by (begun_in 62) ops) part) (list_from 8 0 s (size + 1) before.seen ops) (λ n. list_from_fits n 8 62 (omega arith) 0 s (size + 1) before.seen ops))
    (λ part h. added format names before p ops part (few_low size e) is h)))

record AllFit (names : Naming) (before : Lists) (ps : List Pending) (rest : Lists) : Type 0 where
  fits : (n : ℕ) → ((q : List ℕ) → IsBelow n (names q)) → length rest.processes ≤ n → PlansFit n before.processes → PlansFit n rest.processes
  numbers : AllBelow (length rest.processes) (starts (length before.processes) ps)
  grown : length before.processes ≤ length rest.processes
  few : length before.processes ≤ 4096 → length rest.processes ≤ 4096
  seen : before.seen ≡ operations_of before.processes → rest.seen ≡ operations_of rest.processes
  short : before.seen ≤ 65536 → rest.seen ≤ 65536

then_all : (names : Naming) (before : Lists) (p : Pending) (ps : List Pending) (more rest : Lists) → AddFits names before p more → AllFit names more ps rest → AllFit names before (p ∷ ps) rest
then_all names before p ps more rest h g =
    let next : length more.processes ≡ number_behind (length before.processes) (begun_in 63 p.value) = omega (arith, h.longer, h.few) in
    let behind : AllBelow (length rest.processes) (starts (number_behind (length before.processes) (begun_in 63 p.value)) ps) = rw (sym next) g.numbers in
    record {
      fits = λ n names_in fits old. g.fits n names_in fits (h.fits n names_in (omega (arith, fits, g.grown)) old);
      numbers = All-cons (λ k. k < length rest.processes) (length before.processes) (starts (number_behind (length before.processes) (begun_in 63 p.value)) ps) (omega (arith, h.grown, g.grown)) behind;
      grown = omega (arith, h.grown, g.grown);
      few = λ small. g.few h.few;
      seen = λ same. g.seen (h.seen same);
      short = λ small. g.short (h.short small);
    }

lists_fit : (format : ℕ) (names : Naming) (before : Lists) (ps : List Pending) → IfOk (each (next_list format names) before ps) (AllFit names before ps)
lists_fit format names before [] = record { fits = λ n names_in fits old. old; numbers = All-nil (λ k. k < length before.processes); grown = omega arith; few = λ small. small; seen = λ same. same; short = λ small. small }
lists_fit format names before (p ∷ ps) =
    bind (AddFits names before p) (AllFit names before (p ∷ ps)) (next_list format names before p) (λ a. each (next_list format names) a ps) (next_list_fits format names before p) (λ more h.
    imply (AllFit names more ps) (AllFit names before (p ∷ ps)) (each (next_list format names) more ps) (lists_fit format names more ps) (λ rest g. then_all names before p ps more rest h g))

-- scripts ------------------------------------------------------------------------

whole_sound : (s : Settings) (all : Heads) (rest : Lists) → InRange s → HeadsFit s all → AllFit all.names no_lists all.unread rest → IsSoundScript (record { settings = s; tops = all.tops; processes = rest.processes })
whole_sound s all rest range heads lists = record {
  settings = range;
  tops = heads.tops (length rest.processes) lists.numbers;
  lists = lists.fits (length rest.processes) (heads.names (length rest.processes) lists.numbers) (omega arith) (All-nil (λ p. ListFits (length rest.processes) 0 p.operations));
  processes = lists.few (omega arith);
  operations = omega (arith, lists.seen refl, lists.short (omega arith));
}

pub script_sound : (d : Data) → IfOk (script d) IsSoundScript
unfolding script
script_sound d =
    let given : Result (List Data) Fault = required list (get (codes "processes") d) in
    let of_rest : Settings → Heads → Lists → Result Whole ScriptError = λ s all rest. Ok (record { settings = s; tops = all.tops; processes = rest.processes }) in
    let of_all : Settings → Heads → Result Whole ScriptError = λ s all. each (next_list s.format all.names) no_lists all.unread >>= of_rest s all in
    let of_list : Settings → List Data → Result Whole ScriptError = λ s ds. each (next_head s) no_heads ds >>= of_all s in
    let of_settings : Settings → Result Whole ScriptError = λ s. placed at_script given >>= of_list s in
    bind InRange IsSoundScript (placed at_script (settings d)) of_settings (placed_ok InRange at_script (settings d) (settings_in d)) (λ s range.
    skip IsSoundScript (placed at_script given) (of_list s) (λ ds.
    bind (HeadsFit s) IsSoundScript (each (next_head s) no_heads ds) (of_all s) (heads_fit s range.desks.0 no_heads ds (none_fits s)) (λ all heads.
    bind (AllFit all.names no_lists all.unread) IsSoundScript (each (next_list s.format all.names) no_lists all.unread) (of_rest s all) (lists_fit s.format all.names no_lists all.unread) (λ rest lists. whole_sound s all rest range heads lists))))

pub script_ok : (d : Data) (s : Settings) (ds : List Data) (all : Heads) (rest : Lists) → settings d ≡ Ok s → required list (get (codes "processes") d) ≡ Ok ds → each (next_head s) no_heads ds ≡ Ok all → each (next_list s.format all.names) no_lists all.unread ≡ Ok rest → script d ≡ Ok (record { settings = s; tops = all.tops; processes = rest.processes })
unfolding script
script_ok d s ds all rest said given heads lists = rw (said, given, heads, lists) refl

-- what was read in its parts is sound
pub parts_sound : (d : Data) (s : Settings) (ds : List Data) (all : Heads) (rest : Lists) → settings d ≡ Ok s → required list (get (codes "processes") d) ≡ Ok ds → each (next_head s) no_heads ds ≡ Ok all → each (next_list s.format all.names) no_lists all.unread ≡ Ok rest → IsSoundScript (record { settings = s; tops = all.tops; processes = rest.processes })
parts_sound d s ds all rest said given heads lists = rw (script_ok d s ds all rest said given heads lists) at (script_sound d)

script_of_sound : (read : Option Data) → IfOk (script_of read) IsSoundScript
script_of_sound None = tt
script_of_sound (Some d) = script_sound d

pub as_written_sound : (bytes : List ℕ) → IfOk (as_written bytes) IsSoundScript
unfolding as_written
as_written_sound bytes =
    let P : Result Whole ScriptError → Type 0 = λ r. IfOk r IsSoundScript in
    let of_text : Result Whole ScriptError = if is_utf8 bytes then script_of (read bytes) else Err (Refused Syntax at_script) in
    either P (nat_lt 1048576 (length bytes)) (Err (Refused Bounds at_script)) of_text tt (either P (is_utf8 bytes) (script_of (read bytes)) (Err (Refused Syntax at_script)) (script_of_sound (read bytes)) tt)
