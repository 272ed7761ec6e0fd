-- Every script that is accepted is well formed, and so it is read back.
use Rattle.std.proofs.Common.{◌≡◌, ℕ, ◌+◌, ◌-◌, ◌<◌, ◌≤◌, List, [], ◌∷◌, ◌++◌, map, Bool, true, false, cond, length, length-append, Option, Some, None, Result, Ok, Err, refl, ap, sym, subst, ◌∙◌, arith, append_assoc, append-nil}
use Rattle.std.specs.Prelude.{IfOk, codes, if◌then◌else◌, nat_lt, ◌==◌, count_by}
use Rattle.std.specs.Str.{bytes_eq, is_utf8}
use Rattle.std.proofs.lemmas.Bool.Decides.{Decides-eqb}
use Rattle.std.proofs.lemmas.List.Sums.{sum_by-append}
use Rattle.serde_json.specs.Data.{Data}
use Rattle.serde_json.specs.Find.{get}
use Rattle.serde_json.specs.Read.{read}
use Rattle.pt_script.specs.declared.fault.Fault.{Fault}
use Rattle.pt_script.specs.declared.fault.Fault.TheVariants.{Syntax, Bounds}
use Rattle.pt_script.specs.declared.fault.ScriptError.{ScriptError}
use Rattle.pt_script.specs.declared.fault.ScriptError.TheVariants.{Refused}
use Rattle.pt_script.specs.declared.values.Settings.{Settings}
use Rattle.pt_script.specs.declared.values.Top.{Top}
use Rattle.pt_script.specs.Plans.{Plan, Whole}
use Rattle.pt_script.specs.Steps.{◌>>=◌, each}
use Rattle.pt_script.specs.Members.{known_members, whole_number, required, optional_member, list, flag}
use Rattle.pt_script.specs.Operations.{new_name}
use Rattle.pt_script.specs.Scopes.{Naming, Scope}
use Rattle.pt_script.specs.Lists.{Part, placed, at_script, at_process, fresh_scope, list_from}
use Rattle.pt_script.specs.Scripts.{Heads, Head, Pending, Lists, settings, head, with_head, next_head, no_heads, next_list, no_lists, few, room, number_behind, begun_in, script, script_of, as_written}
use Rattle.pt_script.specs.Sound.{InRange, IsSoundScript}
use Rattle.pt_script.specs.Sights.{NameSight, first_sight, BeginsIn, TopsBegin, number_of, IsWellFormed}
use Rattle.pt_script.specs.WritingScripts.{script_written}
use Rattle.pt_script.proofs.SoundSteps.{bind, skip, either, placed_ok}
use Rattle.pt_script.proofs.SoundLists.{sum_cons}
use Rattle.pt_script.proofs.SoundScripts.{Between, needed_in, imply, settings_in, next_list_fits, AddFits, script_sound}
use Rattle.pt_script.proofs.SeesSteps.{IsIn, ScopeSees, in_here, in_later}
use Rattle.pt_script.proofs.ReadValues.{IsRead, AllRead, IfAny, is_read, list_at_read, whether}
use Rattle.pt_script.proofs.SeesLists.{PartSees, if_ok, list_from_sees}
use Rattle.pt_script.proofs.ReadBackScripts.{among_end, map_end, on_desk, Rooms, scripts_back}

both_ok : {A E : Type 0} (P Q : A → Type 0) (r : Result A E) → IfOk r P → IfOk r Q → IfOk r (λ x. P x × Q x)
both_ok P Q (Ok x) h g = (h, g)
both_ok P Q (Err e) h g = tt

-- heads ------------------------------------------------------------------------------

-- processes of the list and their values, one for one, each with its number
abbrev Matched : Settings → ℕ → List Top → List Pending → ℕ → Type 0
Matched s n [] [] last = n ≡ last
Matched s n (t ∷ ts) (p ∷ ps) last = (t.process ≡ n) × (t.desk < s.desks) × IsRead p.value × Matched s (number_behind n (begun_in 63 p.value)) ts ps last
Matched s n _ _ last = ⊥

matched_more : (s : Settings) (n last : ℕ) (ts : List Top) (ps : List Pending) (t : Top) (p : Pending) → Matched s n ts ps last → t.process ≡ last → t.desk < s.desks → IsRead p.value → Matched s n (ts ++ t ∷ []) (ps ++ p ∷ []) (number_behind last (begun_in 63 p.value))
matched_more s n last [] [] t p h e inside is = (e ∙ sym h, inside, is, ap (λ k. number_behind k (begun_in 63 p.value)) h)
matched_more s n last [] (q ∷ ps) t p h e inside is = absurd h
matched_more s n last (u ∷ ts) [] t p h e inside is = absurd h
matched_more s n last (u ∷ ts) (q ∷ ps) t p h e inside is = (h.0, h.1, h.2, matched_more s (number_behind n (begun_in 63 q.value)) last ts ps t p h.3 e inside is)

record HeadsSee (s : Settings) (h : Heads) : Type 0 where
  names : (q : List ℕ) → IsIn (map number_of h.tops) (h.names q)
  rooms : Rooms s h.tops
  matched : Matched s 0 h.tops h.unread h.next

abbrev HeadIn : Settings → Heads → Head → Type 0
HeadIn s before h = (h.desk < s.desks) × (count_by (λ t. t.desk == h.desk) before.tops < s.slots)

abbrev HasRoom : Settings → List Top → ℕ → Type 0
HasRoom s tops desk = count_by (λ t. t.desk == desk) tops < s.slots

room_in : (s : Settings) (tops : List Top) (desk : ℕ) → IfOk (room s tops desk) (λ u. HasRoom s tops desk)
room_in s tops desk =
    let P : Result (Unit {0}) Fault → Type 0 = λ r. IfOk r (λ u. HasRoom s tops desk) in
    whether P (nat_lt (count_by (λ t. t.desk == desk) tops) s.slots) (Ok tt) (Err Bounds) (λ e. grind (arith, e)) (λ e. tt)

head_in : (s : Settings) (before : Heads) (d : Data) → 1 ≤ s.desks → IfOk (head s before d) (HeadIn s before)
unfolding head
head_in s before d some =
    let Q : Head → Type 0 = HeadIn s before in
    let of_trap : List ℕ → ℕ → Bool → Result Head Fault = λ name desk trap. Ok (record { name = name; desk = desk; trap = trap }) in
    let of_room : List ℕ → ℕ → Unit {0} → Result Head Fault = λ name desk r. optional_member false flag (get (codes "trap") d) >>= of_trap name desk in
    let of_desk : List ℕ → ℕ → Result Head Fault = λ name desk. room s before.tops desk >>= of_room name desk in
    let of_name : List ℕ → Result Head Fault = λ name. required (whole_number 0 (s.desks - 1)) (get (codes "desk") d) >>= of_desk name in
    skip Q (known_members (codes "name" ∷ codes "desk" ∷ codes "trap" ∷ codes "ops" ∷ []) d) (λ u. required (new_name before.names) (get (codes "name") d) >>= of_name) (λ u.
    skip Q (required (new_name before.names) (get (codes "name") d)) of_name (λ name.
    bind (Between 0 (s.desks - 1)) Q (required (whole_number 0 (s.desks - 1)) (get (codes "desk") d)) (of_desk name) (needed_in 0 (s.desks - 1) (get (codes "desk") d)) (λ desk desk_in.
    bind (λ u. HasRoom s before.tops desk) Q (room s before.tops desk) (of_room name desk) (room_in s before.tops desk) (λ r room_is.
    skip Q (optional_member false flag (get (codes "trap") d)) (of_trap name desk) (λ trap.
    (omega (arith, desk_in.1, some), room_is))))))

in_end : (ks : List ℕ) (k : ℕ) (o : Option ℕ) → IsIn (k ∷ ks) o → IsIn (ks ++ k ∷ []) o
in_end ks k None h = tt
in_end ks k (Some n) h = among_end n k ks ∙ h

room_case : (b : Bool) (all before slots : ℕ) → all ≡ before + cond b 1 0 → (b ≡ true → before < slots) → before ≤ slots → all ≤ slots
room_case true all before slots e h g = omega (arith, e, h refl)
room_case false all before slots e h g = omega (arith, e, g)

rooms_more : (s : Settings) (tops : List Top) (t : Top) → Rooms s tops → HasRoom s tops t.desk → Rooms s (tops ++ t ∷ [])
rooms_more s tops t h g desk =
    let sum : count_by (λ u. u.desk == desk) (tops ++ t ∷ []) ≡ count_by (λ u. u.desk == desk) tops + cond (t.desk == desk) 1 0 = sum_by-append (on_desk desk) tops (t ∷ []) ∙ omega (arith, sum_cons (on_desk desk) t []) in
    room_case (t.desk == desk) (count_by (λ u. u.desk == desk) (tops ++ t ∷ [])) (count_by (λ u. u.desk == desk) tops) s.slots sum (λ e. subst (λ k. HasRoom s tops k) ((Decides-eqb t.desk desk).0 e) g) (h desk)

head_more : (s : Settings) (before : Heads) (h : Head) (d : Data) → HeadsSee s before → HeadIn s before h → IsRead d → HeadsSee s (with_head before h d)
head_more s before h d sees is value_is =
    let t : Top = record { process = before.next; desk = h.desk } in
    let numbers : map number_of (before.tops ++ t ∷ []) ≡ map number_of before.tops ++ before.next ∷ [] = map_end number_of before.tops t in
    record {
      names = λ q. subst (λ ks. IsIn ks ((with_head before h d).names q)) (sym numbers) (in_end (map number_of before.tops) before.next ((with_head before h d).names q) (either (IsIn (before.next ∷ map number_of before.tops)) (bytes_eq h.name q) (Some before.next) (before.names q) (in_here before.next (map number_of before.tops)) (in_later before.next (map number_of before.tops) (before.names q) (sees.names q))));
      rooms = rooms_more s before.tops t sees.rooms is.1;
      matched = matched_more s 0 before.next before.tops before.unread t (record { trap = h.trap; value = d }) sees.matched refl is.0 value_is;
    }

next_head_sees : (s : Settings) (before : Heads) (d : Data) → 1 ≤ s.desks → HeadsSee s before → IsRead d → IfOk (next_head s before d) (HeadsSee s)
unfolding next_head
next_head_sees s before d some sees value_is =
    skip (HeadsSee s) (few before.next) (λ u. placed (at_process before.next) (head s before d) >>= λ h. Ok (with_head before h d)) (λ u.
    bind (HeadIn s before) (HeadsSee s) (placed (at_process before.next) (head s before d)) (λ h. Ok (with_head before h d)) (placed_ok (HeadIn s before) (at_process before.next) (head s before d) (head_in s before d some)) (λ h is. head_more s before h d sees is value_is))

heads_see : (s : Settings) → 1 ≤ s.desks → (before : Heads) (ds : List Data) → HeadsSee s before → AllRead ds → IfOk (each (next_head s) before ds) (HeadsSee s)
heads_see s some before [] sees are = sees
heads_see s some before (d ∷ ds) sees are =
    bind (HeadsSee s) (HeadsSee s) (next_head s before d) (λ a. each (next_head s) a ds) (next_head_sees s before d some sees are.0) (λ a h. heads_see s some a ds h are.1)

none_sees : (s : Settings) → HeadsSee s no_heads
none_sees s = record { names = λ q. tt; rooms = λ desk. omega arith; matched = refl }

-- lists --------------------------------------------------------------------------------

record ListSees (format : ℕ) (tops : List ℕ) (before more : Lists) : Type 0 where
  first : Plan
  inside : List Plan
  processes_are : more.processes ≡ before.processes ++ first ∷ inside
  begins : BeginsIn 8 (first_sight format (length before.processes) None tops) (length before.processes + 1) first.operations inside

next_list_sees : (format : ℕ) (names : Naming) (tops : List ℕ) → ((q : List ℕ) → IsIn tops (names q)) → (before : Lists) (p : Pending) → IsRead p.value → IfOk (next_list format names before p) (ListSees format tops before)
unfolding next_list
next_list_sees format names tops names_in before p is =
    let size : ℕ = length before.processes in
    let Q : Lists → Type 0 = ListSees format tops before in
    let given : Result (List Data) Fault = required list (get (codes "ops") p.value) in
    let s : Scope = fresh_scope format size None names in
    let v : NameSight = first_sight format size None tops in
    let sees : ScopeSees v s = record { format = refl; own = refl; parent = refl; made = refl; tops = names_in; children = λ q. tt; monitors = λ q. tt; asks = λ q. tt } in
    let of_part : Part → Result Lists ScriptError = λ part. Ok (record { processes = before.processes ++ record { trap = p.trap; operations = part.operations } ∷ part.inside; seen = part.seen }) in
    let of_ops : List Data → Result Lists ScriptError = λ ops. list_from 8 0 s (size + 1) before.seen ops >>= of_part in
    skip Q (few size) (λ u. placed (at_process size) given >>= of_ops) (λ u.
    bind AllRead Q (placed (at_process size) given) of_ops (placed_ok AllRead (at_process size) given (list_at_read (codes "ops") p.value is)) (λ ops are.
    bind (PartSees (BeginsIn 8) v (size + 1)) Q (list_from 8 0 s (size + 1) before.seen ops) of_part (list_from_sees 8 0 s v (size + 1) before.seen ops sees are) (λ part h. record {
      first = record { trap = p.trap; operations = part.operations };
      inside = part.inside;
      processes_are = refl;
      begins = h;
    })))

record AllSee (s : Settings) (tops : List ℕ) (n : ℕ) (ts : List Top) (before rest : Lists) : Type 0 where
  plans : List Plan
  processes_are : rest.processes ≡ before.processes ++ plans
  begins : TopsBegin s tops n ts plans

behind_one : (before more : ℕ) (n begun inside : ℕ) → before ≡ n → more ≡ before + begun → more ≤ 4096 → more ≡ before + (inside + 1) → number_behind n begun ≡ n + 1 + inside
behind_one before more n begun inside e longer low len = omega (arith, e, longer, low, len)

then_all : (s : Settings) (names : Naming) (tops : List ℕ) (before : Lists) (p : Pending) (t : Top) (ts : List Top) (n : ℕ) (more rest : Lists) → length before.processes ≡ n → t.process ≡ n → t.desk < s.desks → ListSees s.format tops before more → AddFits names before p more → AllSee s tops (number_behind n (begun_in 63 p.value)) ts more rest → AllSee s tops n (t ∷ ts) before rest
then_all s names tops before p t ts n more rest len number_is desk one fits all =
    let longer : length more.processes ≡ length before.processes + (length one.inside + 1) = ap length one.processes_are ∙ omega (arith, length-append before.processes (one.first ∷ one.inside)) in
    let next : number_behind n (begun_in 63 p.value) ≡ n + 1 + length one.inside = behind_one (length before.processes) (length more.processes) n (begun_in 63 p.value) (length one.inside) len fits.longer fits.few longer in
    record {
      plans = one.first ∷ one.inside ++ all.plans;
      processes_are = all.processes_are ∙ ap (λ ps. ps ++ all.plans) one.processes_are ∙ append_assoc before.processes (one.first ∷ one.inside) all.plans;
      begins = (
        one.first,
        one.inside,
        all.plans,
        refl,
        number_is,
        desk,
        subst (λ k. BeginsIn 8 (first_sight s.format k None tops) (k + 1) one.first.operations one.inside) len one.begins,
        subst (λ k. TopsBegin s tops k ts all.plans) next all.begins,
      );
    }

lists_see : (s : Settings) (names : Naming) (tops : List ℕ) → ((q : List ℕ) → IsIn tops (names q)) → (before : Lists) (ts : List Top) (ps : List Pending) (n last : ℕ) → Matched s n ts ps last → length before.processes ≡ n → IfOk (each (next_list s.format names) before ps) (AllSee s tops n ts before)
lists_see s names tops names_in before [] [] n last m len = record { plans = []; processes_are = sym (append-nil before.processes); begins = refl }
lists_see s names tops names_in before [] (p ∷ ps) n last m len = absurd m
lists_see s names tops names_in before (t ∷ ts) [] n last m len = absurd m
lists_see s names tops names_in before (t ∷ ts) (p ∷ ps) n last m len =
    bind (λ more. ListSees s.format tops before more × AddFits names before p more) (AllSee s tops n (t ∷ ts) before) (next_list s.format names before p) (λ a. each (next_list s.format names) a ps) (both_ok (ListSees s.format tops before) (AddFits names before p) (next_list s.format names before p) (next_list_sees s.format names tops names_in before p m.2) (next_list_fits s.format names before p)) (λ more h.
    let next : length more.processes ≡ number_behind n (begun_in 63 p.value) = omega (arith, len, h.1.longer, h.1.few) in
    imply (AllSee s tops (number_behind n (begun_in 63 p.value)) ts more) (AllSee s tops n (t ∷ ts) before) (each (next_list s.format names) more ps) (lists_see s names tops names_in more ts ps (number_behind n (begun_in 63 p.value)) last m.3 next) (λ rest g. then_all s names tops before p t ts n more rest len m.0 m.1 h.0 h.1 g))

-- scripts --------------------------------------------------------------------------------

record Built (w : Whole) : Type 0 where
  begins : TopsBegin w.settings (map number_of w.tops) 0 w.tops w.processes
  rooms : Rooms w.settings w.tops

built : (s : Settings) (all : Heads) (rest : Lists) → HeadsSee s all → AllSee s (map number_of all.tops) 0 all.tops no_lists rest → Built (record { settings = s; tops = all.tops; processes = rest.processes })
built s all rest heads lists = record {
  begins = subst (λ (ps : List Plan). TopsBegin s (map number_of all.tops) 0 all.tops ps) (sym lists.processes_are) lists.begins;
  rooms = heads.rooms;
}

script_built : (d : Data) → IsRead d → IfOk (script d) Built
unfolding script
script_built d is =
    let given : Result (List Data) Fault = required list (get (codes "processes") d) in
    let of_rest : Settings → Heads → Lists → Result Whole ScriptError = λ s all rest. Ok (record { settings = s; tops = all.tops; processes = rest.processes }) in
    let of_all : Settings → Heads → Result Whole ScriptError = λ s all. each (next_list s.format all.names) no_lists all.unread >>= of_rest s all in
    let of_list : Settings → List Data → Result Whole ScriptError = λ s ds. each (next_head s) no_heads ds >>= of_all s in
    let of_settings : Settings → Result Whole ScriptError = λ s. placed at_script given >>= of_list s in
    bind InRange Built (placed at_script (settings d)) of_settings (placed_ok InRange at_script (settings d) (settings_in d)) (λ s range.
    bind AllRead Built (placed at_script given) (of_list s) (placed_ok AllRead at_script given (list_at_read (codes "processes") d is)) (λ ds are.
    bind (HeadsSee s) Built (each (next_head s) no_heads ds) (of_all s) (heads_see s range.desks.0 no_heads ds (none_sees s) are) (λ all heads.
    bind (AllSee s (map number_of all.tops) 0 all.tops no_lists) Built (each (next_list s.format all.names) no_lists all.unread) (of_rest s all) (lists_see s all.names (map number_of all.tops) heads.names no_lists all.tops all.unread 0 all.next heads.matched refl) (λ rest lists. built s all rest heads lists))))

well_formed : (w : Whole) → IsSoundScript w → Built w → IsWellFormed w
well_formed w sound b = record { settings = sound.settings; begins = b.begins; room = b.rooms; processes = sound.processes; operations = sound.operations }

script_accepted : (d : Data) → IsRead d → IfOk (script d) IsWellFormed
script_accepted d is = imply (λ w. IsSoundScript w × Built w) IsWellFormed (script d) (both_ok IsSoundScript Built (script d) (script_sound d) (script_built d is)) (λ w h. well_formed w h.0 h.1)

script_of_accepted : (o : Option Data) → IfAny IsRead o → IfOk (script_of o) IsWellFormed
script_of_accepted None is = tt
script_of_accepted (Some d) is = script_accepted d is

as_written_accepted : (bytes : List ℕ) → IfOk (as_written bytes) IsWellFormed
unfolding as_written
as_written_accepted bytes =
    let P : Result Whole ScriptError → Type 0 = λ r. IfOk r IsWellFormed in
    let of_text : Result Whole ScriptError = if is_utf8 bytes then script_of (read bytes) else Err (Refused Syntax at_script) in
    either P (nat_lt 1048576 (length bytes)) (Err (Refused Bounds at_script)) of_text tt (either P (is_utf8 bytes) (script_of (read bytes)) (Err (Refused Syntax at_script)) (script_of_accepted (read bytes) (is_read bytes)) tt)

pub accepted_back : (bytes : List ℕ) (w : Whole) → as_written bytes ≡ Ok w → IsWellFormed w × (script (script_written w) ≡ Ok w)
accepted_back bytes w e =
    let formed : IsWellFormed w = if_ok IsWellFormed (as_written bytes) w (as_written_accepted bytes) e in
    (formed, scripts_back w formed)
