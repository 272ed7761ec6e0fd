-- Scripts as a whole: the place of a fault is in the text, and numbers are places.
use Rattle.std.proofs.Common.{◌≡◌, ℕ, zero, suc, ◌+◌, ◌-◌, ◌<◌, List, [], ◌∷◌, ◌++◌, Bool, true, false, length, length-append, get_or, map, min, Option, Some, None, Result, Ok, Err, refl, ap, sym, subst, ◌∙◌, arith, append_assoc, append-nil}
use Rattle.std.specs.Prelude.{IfOk, codes, is_some, if◌then◌else◌, nat_le, nat_lt}
use Rattle.std.specs.Str.{bytes_eq, is_utf8}
use Rattle.std.proofs.lemmas.Slice.Eq.{bytes_eq-Decides}
use Rattle.serde_json.specs.Data.{Data, null, boolean, number, string, array, object}
use Rattle.serde_json.specs.Find.{get}
use Rattle.serde_json.specs.Read.{read}
use Rattle.pt_script.specs.declared.fault.Fault.{Fault}
use Rattle.pt_script.specs.declared.fault.Fault.TheVariants.{Syntax, Field, Name, Bounds}
use Rattle.pt_script.specs.declared.fault.Place.{Place}
use Rattle.pt_script.specs.declared.fault.ScriptError.{ScriptError}
use Rattle.pt_script.specs.declared.fault.ScriptError.TheVariants.{Refused, Memory}
use Rattle.pt_script.specs.declared.values.Settings.{Settings}
use Rattle.pt_script.specs.declared.values.Top.{Top}
use Rattle.pt_script.specs.Plans.{Plan, Whole}
use Rattle.pt_script.specs.Steps.{◌>>=◌, each}
use Rattle.pt_script.specs.Members.{known_members, whole_number, required, optional_member, list, flag}
use Rattle.pt_script.specs.Operations.{is_spawn, new_name}
use Rattle.pt_script.specs.Scopes.{Naming, Scope, is_own_name}
use Rattle.pt_script.specs.Lists.{Part, placed, at_script, at_process, fresh_scope, list_from}
use Rattle.pt_script.specs.Scripts.{Heads, Head, Pending, Lists, settings, head, with_head, next_head, no_heads, next_list, no_lists, few, room, begun_in, spawned_by, loose, script, script_of, as_written}
use Rattle.pt_script.specs.Standing.{ops_of, spawns_in, processes_in, processes_of, all_processes, OperationStands, HasPlaceIn, AreOperationsOf, ArePlansOf, AreTopsOf, AreNamesOf, IsNumbered}
use Rattle.pt_script.proofs.SoundSteps.{bind, skip, where_ok, either}
use Rattle.pt_script.proofs.SoundLists.{sum_cons}
use Rattle.pt_script.proofs.Standing.{Told, told, told_placed, In, StandFrom, front, behind, own_all, plans_append, plans_length, PartOf, list_from_of}

-- how many processes begin --------------------------------------------------------

spawns_length : (inside : Data → List Data) (begins : Data → ℕ) → ((d : Data) → length (inside d) ≡ begins d) → (ds : List Data) → length (spawns_in inside ds) ≡ spawned_by begins ds
spawns_length inside begins h [] = refl
spawns_length inside begins h (d ∷ ds) =
    let one : length (if is_spawn d then inside d else []) ≡ (if is_spawn d then begins d else 0) = either_length (is_spawn d) in
    omega (arith, length-append (if is_spawn d then inside d else []) (spawns_in inside ds), one, spawns_length inside begins h ds, sum_cons (λ e. if is_spawn e then begins e else 0) d ds)
  where
    either_length : (b : Bool) → length (if b then inside d else []) ≡ (if b then begins d else 0)
    either_length true = h d
    either_length false = refl

inside_length : (levels : ℕ) (d : Data) → length (processes_in levels d) ≡ begun_in levels d
unfolding processes_in begun_in
inside_length zero d = refl
inside_length (suc levels) d = omega (arith, spawns_length (λ op. processes_in levels op) (λ op. begun_in levels op) (λ op. inside_length levels op) (ops_of d))

first_inside : (levels : ℕ) (d : Data) → (rest : List Data) × (processes_in levels d ≡ d ∷ rest)
unfolding processes_in
first_inside zero d = ([], refl)
first_inside (suc levels) d = (spawns_in (λ op. processes_in levels op) (ops_of d), refl)

inside_is : (d : Data) → processes_in 63 d ≡ d ∷ spawns_in (λ op. processes_in 62 op) (ops_of d)
unfolding processes_in
inside_is d = refl

processes_more : (ds es : List Data) → processes_of (ds ++ es) ≡ processes_of ds ++ processes_of es
processes_more [] es = refl
processes_more (d ∷ ds) es = ap (λ xs. processes_in 63 d ++ xs) (processes_more ds es) ∙ sym (append_assoc (processes_in 63 d) (processes_of ds) (processes_of es))

-- every value stands at its place ---------------------------------------------------

stand_behind : (xs ys : List Data) → StandFrom (xs ++ ys) (length xs) ys
stand_behind xs [] = tt
stand_behind xs (y ∷ ys) =
    let here : get_or (xs ++ y ∷ ys) (length xs) null ≡ y = at_end xs in
    let next : length (xs ++ y ∷ []) ≡ length xs + 1 = omega (arith, length-append xs (y ∷ [])) in
    let again : (xs ++ y ∷ []) ++ ys ≡ xs ++ y ∷ ys = append_assoc xs (y ∷ []) ys in
    let rest : StandFrom ((xs ++ y ∷ []) ++ ys) (length (xs ++ y ∷ [])) ys = stand_behind (xs ++ y ∷ []) ys in
    ((omega (arith, length-append xs (y ∷ ys)), here), subst (λ n. StandFrom (xs ++ y ∷ ys) n ys) next (subst (λ (zs : List Data). StandFrom zs (length (xs ++ y ∷ [])) ys) again rest))
  where
    at_end : (zs : List Data) → get_or (zs ++ y ∷ ys) (length zs) null ≡ y
    at_end [] = refl
    at_end (z ∷ zs) = grind (arith, at_end zs)

pub all_stand : (all : List Data) → StandFrom all 0 all
all_stand all = stand_behind [] all

-- the first of what stands from a number on
first_stands : (all : List Data) (n : ℕ) (d : Data) (ds : List Data) → StandFrom all n (processes_of (d ∷ ds)) → OperationStands all n d
first_stands all n d ds h =
    let f = first_inside 63 d in
    (subst (λ (xs : List Data). StandFrom all n xs) f.1 (front all n (processes_in 63 d) (processes_of ds) h)).0

-- heads ------------------------------------------------------------------------------

name_is : (taken : Naming) (d : Data) → IfOk (new_name taken d) (λ q. d ≡ string q)
name_is taken null = tt
name_is taken (boolean b) = tt
name_is taken (number n) = tt
name_is taken (string q) =
    let T : Result (List ℕ) Fault → Type 0 = λ r. IfOk r (λ t. string q ≡ string t) in
    either T (is_own_name q) (if is_some (taken q) then Err Name else Ok q) (Err Field) (either T (is_some (taken q)) (Err Name) (Ok q) tt refl) tt
name_is taken (array ds) = tt
name_is taken (object ms) = tt

needed_name : (taken : Naming) (m : Option Data) → IfOk (required (new_name taken) m) (λ q. m ≡ Some (string q))
needed_name taken None = tt
needed_name taken (Some d) = imply (λ q. d ≡ string q) (λ q. Some d ≡ Some (string q)) (new_name taken d) (name_is taken d) (λ q e. ap Some e)
  where
    imply : {A E : Type 0} (P Q : A → Type 0) (r : Result A E) → IfOk r P → ((x : A) → P x → Q x) → IfOk r Q
    imply P Q (Ok x) h f = f x h
    imply P Q (Err e) h f = tt

abbrev NameIs : Data → Head → Type 0
NameIs d h = get (codes "name") d ≡ Some (string h.name)

head_name : (s : Settings) (before : Heads) (d : Data) → IfOk (head s before d) (NameIs d)
unfolding head
head_name s before d =
    skip (NameIs d) (known_members (codes "name" ∷ codes "desk" ∷ codes "trap" ∷ codes "ops" ∷ []) d) (λ u. (required (new_name before.names) (get (codes "name") d) >>= λ name. (required (whole_number 0 (s.desks - 1)) (get (codes "desk") d) >>= λ desk. (room s before.tops desk >>= λ r. (optional_member false flag (get (codes "trap") d) >>= λ trap. Ok (record { name = name; desk = desk; trap = trap })))))) (λ u.
    bind (λ q. get (codes "name") d ≡ Some (string q)) (NameIs d) (required (new_name before.names) (get (codes "name") d)) (λ name. (required (whole_number 0 (s.desks - 1)) (get (codes "desk") d) >>= λ desk. (room s before.tops desk >>= λ r. (optional_member false flag (get (codes "trap") d) >>= λ trap. Ok (record { name = name; desk = desk; trap = trap }))))) (needed_name before.names (get (codes "name") d)) (λ name is.
    skip (NameIs d) (required (whole_number 0 (s.desks - 1)) (get (codes "desk") d)) (λ desk. (room s before.tops desk >>= λ r. (optional_member false flag (get (codes "trap") d) >>= λ trap. Ok (record { name = name; desk = desk; trap = trap })))) (λ desk.
    skip (NameIs d) (room s before.tops desk) (λ r. (optional_member false flag (get (codes "trap") d) >>= λ trap. Ok (record { name = name; desk = desk; trap = trap }))) (λ r.
    skip (NameIs d) (optional_member false flag (get (codes "trap") d)) (λ trap. Ok (record { name = name; desk = desk; trap = trap })) (λ trap. is)))))

abbrev value_of : Pending → Data
value_of p = p.value

pub record HeadsOf (all done : List Data) (h : Heads) : Type 0 where
  pub values : map value_of h.unread ≡ done
  pub tops : AreTopsOf all h.tops done
  pub names : AreNamesOf all h.names
  pub next : h.next ≡ min (length (processes_of done)) 4294967295

tops_more : (all : List Data) (ts : List Top) (ds : List Data) (t : Top) (d : Data) → AreTopsOf all ts ds → OperationStands all t.process d → AreTopsOf all (ts ++ t ∷ []) (ds ++ d ∷ [])
tops_more all [] [] t d h g = (g, tt)
tops_more all [] (e ∷ ds) t d h g = absurd h
tops_more all (u ∷ ts) [] t d h g = absurd h
tops_more all (u ∷ ts) (e ∷ ds) t d h g = (h.0, tops_more all ts ds t d h.1 g)

map_more : (ps : List Pending) (p : Pending) → map value_of (ps ++ p ∷ []) ≡ map value_of ps ++ p.value ∷ []
map_more [] p = refl
map_more (q ∷ ps) p = ap (λ xs. q.value ∷ xs) (map_more ps p)

name_of : (all : List Data) (names : Naming) (name : List ℕ) (place : ℕ) (d : Data) → OperationStands all place d → get (codes "name") d ≡ Some (string name) → AreNamesOf all names → (b : Bool) (q : List ℕ) (n : ℕ) → (b ≡ true → name ≡ q) → (if b then Some place else names q) ≡ Some n → (n < length all) × (get (codes "name") (get_or all n null) ≡ Some (string q))
name_of all names name place d stands is before true q n same e =
    let k : place ≡ n = cc in
    subst (λ m. (m < length all) × (get (codes "name") (get_or all m null) ≡ Some (string q))) k (stands.0, ap (get (codes "name")) stands.1 ∙ is ∙ ap (λ t. Some (string t)) (same refl))
name_of all names name place d stands is before false q n same e = before q n e

few_low : (n : ℕ) → few n ≡ Ok tt → n < 4096
few_low n h = grind arith

behind_done : (done : List Data) (d : Data) → length (processes_of (done ++ d ∷ [])) ≡ length (processes_of done) + begun_in 63 d
behind_done done d =
    ap length (processes_more done (d ∷ [])) ∙ length-append (processes_of done) (processes_of (d ∷ [])) ∙ ap (λ n. length (processes_of done) + n) (ap length (append-nil (processes_in 63 d)) ∙ inside_length 63 d)

head_more : (all done : List Data) (before : Heads) (h : Head) (d : Data) → HeadsOf all done before → OperationStands all (length (processes_of done)) d → before.next < 4096 → NameIs d h → HeadsOf all (done ++ d ∷ []) (with_head before h d)
head_more all done before h d of stands low is =
    let exact : length (processes_of done) ≡ before.next = omega (arith, of.next, low) in
    let here : OperationStands all before.next d = subst (λ n. OperationStands all n d) exact stands in
    record {
      values = map_more before.unread (record { trap = h.trap; value = d }) ∙ ap (λ xs. xs ++ d ∷ []) of.values;
      tops = tops_more all before.tops done (record { process = before.next; desk = h.desk }) d of.tops here;
      names = λ q n e. name_of all before.names h.name before.next d here is of.names (bytes_eq h.name q) q n (λ t. (bytes_eq-Decides h.name q).0 t) e;
      next = omega (arith, of.next, behind_done done d);
    }

by_few : (all : List Data) (n : ℕ) (b : Bool) → In all (at_process n) → Told {A = Unit {0}} (In all) (λ u. (if b then Err (Refused Bounds (at_process n)) else Ok tt) ≡ Ok u) (if b then Err (Refused Bounds (at_process n)) else Ok tt)
by_few all n true h = h
by_few all n false h = refl

few_told : (all : List Data) (n : ℕ) → In all (at_process n) → Told (In all) (λ u. few n ≡ Ok u) (few n)
few_told all n h = by_few all n (nat_le 4096 n) h

next_head_of : (all done : List Data) (s : Settings) (before : Heads) (d : Data) → HeadsOf all done before → OperationStands all (length (processes_of done)) d → Told (In all) (HeadsOf all (done ++ d ∷ [])) (next_head s before d)
unfolding next_head
next_head_of all done s before d of stands =
    let place : In all (at_process before.next) = omega (arith, of.next, stands.0) in
    let P : Unit {0} → Type 0 = λ u. few before.next ≡ Ok u in
    told (In all) P (HeadsOf all (done ++ d ∷ [])) (few before.next) (λ u. placed (at_process before.next) (head s before d) >>= λ h. Ok (with_head before h d)) (few_told all before.next place) (λ u e.
    told (In all) (NameIs d) (HeadsOf all (done ++ d ∷ [])) (placed (at_process before.next) (head s before d)) (λ h. Ok (with_head before h d)) (told_placed (In all) (NameIs d) (at_process before.next) (head s before d) place (head_name s before d)) (λ h is. head_more all done before h d of stands (few_low before.next e) is))

heads_of : (all done : List Data) (s : Settings) (before : Heads) (ds : List Data) → HeadsOf all done before → StandFrom all (length (processes_of done)) (processes_of ds) → Told (In all) (HeadsOf all (done ++ ds)) (each (next_head s) before ds)
heads_of all done s before [] of stand = subst (λ (xs : List Data). HeadsOf all xs before) (sym (append-nil done)) of
heads_of all done s before (d ∷ ds) of stand =
    let again : (done ++ d ∷ []) ++ ds ≡ done ++ d ∷ ds = append_assoc done (d ∷ []) ds in
    let len : length (processes_of done) + length (processes_in 63 d) ≡ length (processes_of (done ++ d ∷ [])) = omega (arith, behind_done done d, inside_length 63 d) in
    let rest : StandFrom all (length (processes_of (done ++ d ∷ []))) (processes_of ds) = subst (λ n. StandFrom all n (processes_of ds)) len (behind all (length (processes_of done)) (processes_in 63 d) (processes_of ds) stand) in
    told (In all) (HeadsOf all (done ++ d ∷ [])) (HeadsOf all (done ++ d ∷ ds)) (next_head s before d) (λ after. each (next_head s) after ds) (next_head_of all done s before d of (first_stands all (length (processes_of done)) d ds stand)) (λ after h.
    subst (λ (xs : List Data). Told (In all) (HeadsOf all xs) (each (next_head s) after ds)) again (heads_of all (done ++ d ∷ []) s after ds h rest))

none_of : (all : List Data) → HeadsOf all [] no_heads
none_of all = record { values = refl; tops = tt; names = λ q n e. absurd (no_name n e); next = omega arith }
  where
    no_name : (n : ℕ) → None ≡ Some n → ⊥
    no_name n e = cc

pub all_heads : (s : Settings) (ds : List Data) → Told (In (processes_of ds)) (HeadsOf (processes_of ds) ds) (each (next_head s) no_heads ds)
all_heads s ds = heads_of (processes_of ds) [] s no_heads ds (none_of (processes_of ds)) (all_stand (processes_of ds))

-- lists ---------------------------------------------------------------------------------

abbrev ListsOf : List Data → List Data → Lists → Type 0
ListsOf all done l = ArePlansOf all l.processes (processes_of done)

next_list_of : (all done : List Data) (format : ℕ) (names : Naming) (before : Lists) (p : Pending) → ListsOf all done before → StandFrom all (length (processes_of done)) (processes_in 63 p.value) → Told (In all) (ListsOf all (done ++ p.value ∷ [])) (next_list format names before p)
unfolding next_list
next_list_of all done format names before p of stand =
    let d : Data = p.value in
    let size : ℕ = length before.processes in
    let len : size ≡ length (processes_of done) = plans_length all before.processes (processes_of done) of in
    let inside : List Data = spawns_in (λ op. processes_in 62 op) (ops_of d) in
    let here : StandFrom all size (d ∷ inside) = subst (λ n. StandFrom all n (d ∷ inside)) (sym len) (subst (λ (xs : List Data). StandFrom all (length (processes_of done)) xs) (inside_is d) stand) in
    let Q : Lists → Type 0 = ListsOf all (done ++ d ∷ []) in
    let Is : List Data → Type 0 = λ ops. required list (get (codes "ops") d) ≡ Ok ops in
    let given : Result (List Data) Fault = required list (get (codes "ops") d) in
    let s : Scope = fresh_scope format size None names in
    let of_part : Part → Result Lists ScriptError = λ part. Ok (record { processes = before.processes ++ record { trap = p.trap; operations = part.operations } ∷ part.inside; seen = part.seen }) in
    let of_ops : List Data → Result Lists ScriptError = λ ops. list_from 8 0 s (size + 1) before.seen ops >>= of_part in
    told (In all) (λ u. few size ≡ Ok u) Q (few size) (λ u. placed (at_process size) given >>= of_ops) (few_told all size here.0.0) (λ u e.
    told (In all) Is Q (placed (at_process size) given) of_ops (told_placed (In all) Is (at_process size) given here.0.0 (where_ok Is given (λ ops i. i))) (λ ops is.
    let same : ops_of d ≡ ops = ap loose is in
    let below : StandFrom all (size + 1) (spawns_in (λ op. processes_in 62 op) ops) = subst (λ (es : List Data). StandFrom all (size + 1) (spawns_in (λ op. processes_in 62 op) es)) same here.1 in
    told (In all) (PartOf all ops (spawns_in (λ op. processes_in 62 op) ops)) Q (list_from 8 0 s (size + 1) before.seen ops) of_part (list_from_of all 8 62 (omega arith) 0 s (size + 1) before.seen ops (own_all all size d ops here.0 same) below) (λ part h.
    let plan : Plan = record { trap = p.trap; operations = part.operations } in
    let more : ArePlansOf all (plan ∷ part.inside) (d ∷ inside) = (subst (λ (es : List Data). AreOperationsOf all part.operations es) (sym same) h.operations, subst (λ (es : List Data). ArePlansOf all part.inside (spawns_in (λ op. processes_in 62 op) es)) (sym same) h.inside_is) in
    let whole_number : processes_of done ++ d ∷ inside ≡ processes_of (done ++ d ∷ []) = ap (λ xs. processes_of done ++ xs) (sym (inside_is d) ∙ sym (append-nil (processes_in 63 d))) ∙ sym (processes_more done (d ∷ [])) in
    subst (λ (xs : List Data). ArePlansOf all (before.processes ++ plan ∷ part.inside) xs) whole_number (plans_append all before.processes (plan ∷ part.inside) (processes_of done) (d ∷ inside) of more))))

lists_of : (all done : List Data) (format : ℕ) (names : Naming) (before : Lists) (ps : List Pending) → ListsOf all done before → StandFrom all (length (processes_of done)) (processes_of (map value_of ps)) → Told (In all) (ListsOf all (done ++ map value_of ps)) (each (next_list format names) before ps)
lists_of all done format names before [] of stand = subst (λ (xs : List Data). ListsOf all xs before) (sym (append-nil done)) of
lists_of all done format names before (p ∷ ps) of stand =
    let ds : List Data = map value_of ps in
    let d : Data = p.value in
    let again : (done ++ d ∷ []) ++ ds ≡ done ++ d ∷ ds = append_assoc done (d ∷ []) ds in
    let len : length (processes_of done) + length (processes_in 63 d) ≡ length (processes_of (done ++ d ∷ [])) = omega (arith, behind_done done d, inside_length 63 d) in
    let rest : StandFrom all (length (processes_of (done ++ d ∷ []))) (processes_of ds) = subst (λ n. StandFrom all n (processes_of ds)) len (behind all (length (processes_of done)) (processes_in 63 d) (processes_of ds) stand) in
    told (In all) (ListsOf all (done ++ d ∷ [])) (ListsOf all (done ++ d ∷ ds)) (next_list format names before p) (λ after. each (next_list format names) after ps) (next_list_of all done format names before p of (front all (length (processes_of done)) (processes_in 63 d) (processes_of ds) stand)) (λ after h.
    subst (λ (xs : List Data). Told (In all) (ListsOf all xs) (each (next_list format names) after ps)) again (lists_of all (done ++ d ∷ []) format names after ps h rest))

-- scripts ---------------------------------------------------------------------------------

script_told : (d : Data) → Told (In (all_processes d)) (IsNumbered d) (script d)
unfolding script
script_told d =
    let given : Result (List Data) Fault = required list (get (codes "processes") d) in
    let P : Place → Type 0 = In (all_processes d) in
    let of_rest : Settings → Heads → Lists → Result Whole ScriptError = λ s all rest. Ok (record { settings = s; tops = all.tops; processes = rest.processes }) in
    let of_all : Settings → Heads → Result Whole ScriptError = λ s all. each (next_list s.format all.names) no_lists all.unread >>= of_rest s all in
    let of_list : Settings → List Data → Result Whole ScriptError = λ s ds. each (next_head s) no_heads ds >>= of_all s in
    let of_settings : Settings → Result Whole ScriptError = λ s. placed at_script given >>= of_list s in
    told P (λ s. Unit {0}) (IsNumbered d) (placed at_script (settings d)) of_settings (told_placed P (λ s. Unit {0}) at_script (settings d) tt (any (settings d))) (λ s u.
    told P (λ ds. given ≡ Ok ds) (IsNumbered d) (placed at_script given) (of_list s) (told_placed P (λ ds. given ≡ Ok ds) at_script given tt (where_ok (λ ds. given ≡ Ok ds) given (λ ds e. e))) (λ ds is.
    let same : ds ≡ loose given = sym (ap loose is) in
    let found : Told P (HeadsOf (all_processes d) (loose given)) (each (next_head s) no_heads ds) = subst (λ (es : List Data). Told P (HeadsOf (all_processes d) (loose given)) (each (next_head s) no_heads es)) (sym same) (all_heads s (loose given)) in
    told P (HeadsOf (all_processes d) (loose given)) (IsNumbered d) (each (next_head s) no_heads ds) (of_all s) found (λ heads h.
    let stand : StandFrom (all_processes d) 0 (processes_of (map value_of heads.unread)) = subst (λ (es : List Data). StandFrom (all_processes d) 0 (processes_of es)) (sym h.values) (all_stand (all_processes d)) in
    told P (ListsOf (all_processes d) (map value_of heads.unread)) (IsNumbered d) (each (next_list s.format heads.names) no_lists heads.unread) (of_rest s heads) (lists_of (all_processes d) [] s.format heads.names no_lists heads.unread tt stand) (λ rest g. record {
      plans = subst (λ (es : List Data). ArePlansOf (all_processes d) rest.processes (processes_of es)) h.values g;
      tops = h.tops;
    }))))
  where
    any : {A E : Type 0} (r : Result A E) → IfOk r (λ x. Unit {0})
    any (Ok x) = tt
    any (Err e) = tt

-- the laws ----------------------------------------------------------------------------------

as_a_whole : (o : Option Data) → HasPlaceIn o at_script
as_a_whole None = refl
as_a_whole (Some d) = tt

abbrev pub Read : Option Data → Whole → Type 0
Read o w = (d : Data) × (o ≡ Some d) × IsNumbered d w

lifted : (d : Data) (r : Result Whole ScriptError) → Told (In (all_processes d)) (IsNumbered d) r → Told (HasPlaceIn (Some d)) (Read (Some d)) r
lifted d (Ok w) h = (d, refl, h)
lifted d (Err (Refused fault place)) h = h
lifted d (Err Memory) h = tt

script_of_told : (o : Option Data) → Told (HasPlaceIn o) (Read o) (script_of o)
script_of_told None = refl
script_of_told (Some d) = lifted d (script d) (script_told d)

pub as_written_told : (bytes : List ℕ) → Told (HasPlaceIn (read bytes)) (Read (read bytes)) (as_written bytes)
unfolding as_written
as_written_told bytes =
    let P : Result Whole ScriptError → Type 0 = Told (HasPlaceIn (read bytes)) (Read (read bytes)) in
    let of_text : Result Whole ScriptError = if is_utf8 bytes then script_of (read bytes) else Err (Refused Syntax at_script) in
    either P (nat_lt 1048576 (length bytes)) (Err (Refused Bounds at_script)) of_text (as_a_whole (read bytes)) (either P (is_utf8 bytes) (script_of (read bytes)) (Err (Refused Syntax at_script)) (script_of_told (read bytes)) (as_a_whole (read bytes)))

pub numbers_are_places : (bytes : List ℕ) (w : Whole) → as_written bytes ≡ Ok w → (d : Data) × (read bytes ≡ Some d) × IsNumbered d w
numbers_are_places bytes w e = rw e at (as_written_told bytes)

pub names_are_places : (s : Settings) (ds : List Data) (heads : Heads) → each (next_head s) no_heads ds ≡ Ok heads → AreNamesOf (processes_of ds) heads.names
names_are_places s ds heads e = (settled ds heads (each (next_head s) no_heads ds) (all_heads s ds) e).names
  where
    settled : (ds : List Data) (heads : Heads) (r : Result Heads ScriptError) → Told (In (processes_of ds)) (HeadsOf (processes_of ds) ds) r → r ≡ Ok heads → HeadsOf (processes_of ds) ds heads
    settled ds heads r h e = rw e at h
