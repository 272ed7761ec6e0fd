-- The text of a rest is read back as that rest, and no other text is.
use Rattle.std.proofs.Common.{◌≡◌, ℕ, ◌+◌, ◌-◌, ◌*◌, ◌%◌, ◌<◌, ◌≤◌, ◌==◌, nat_lt, not, Bool, true, false, cond, ◌&&◌, ◌⊎◌, inl, inr, Option, Some, None, is_none, take, Result, Ok, Err, List, [], ◌∷◌, ◌++◌, length, map, refl, ap, ap₂, sym, ◌∙◌, subst, arith, append-nil, append_assoc, length-append}
use Rattle.std.specs.List.{flat_map}
use Rattle.std.specs.Map.{lookup}
use Rattle.std.specs.Option.{option_map}
use Rattle.std.proofs.lemmas.Bool.{both_ways, and_parts, eqb-true, eqb-false, ltb-true, ltb-false}
use Rattle.std.proofs.lemmas.Grind.{flat_map-append}
use Rattle.std.proofs.lemmas.List.Folds.{flat_map-map}
use Rattle.pt_signal.specs.declared.pid.Pid.{Pid}
use Rattle.pt_signal.specs.declared.ids.Ref.{Ref}
use Rattle.pt_signal.specs.declared.ids.Ids.{Ids}
use Rattle.pt_signal.specs.declared.item.Item.{Item}
use Rattle.pt_signal.specs.declared.reason.Reason.{Reason}
use Rattle.pt_signal.specs.Process.{ProcessState}
use Rattle.pt_events.specs.declared.event.Stamped.{Stamped}
use Rattle.pt_events.specs.History.{Phase, living, at_start}
use Rattle.pt_texts.specs.declared.records.Record.{Record}
use Rattle.pt_texts.specs.declared.records.Record.TheVariants.{Head, Last, Clock, Seen, Lives, Waits, Linked, Watches, Watched, Ended, End}
use Rattle.pt_texts.specs.Text.{record_text, record_line}
use Rattle.pt_texts.specs.Fits.{FitsRecord}
use Rattle.pt_texts.specs.Readers.{line_at}
use Rattle.pt_texts.specs.Parsing.{told_column}
use Rattle.pt_texts.specs.declared.parse.Refused.{Refused}
use Rattle.pt_texts.proofs.Recorded.{line_reads}
use Rattle.pt_judge.specs.declared.judging.resumed.Holding.{Holding}
use Rattle.pt_auditor.specs.declared.rest.Rest.{Rest}
use Rattle.pt_auditor.specs.declared.rest.Resident.{Resident}
use Rattle.pt_auditor.specs.declared.saved.Damage.{Damage}
use Rattle.pt_auditor.specs.declared.saved.Flaw.{Flaw}
use Rattle.pt_auditor.specs.declared.saved.Flaw.TheVariants.{Unread, Misplaced, Sum, Behind, Memory}
use Rattle.pt_auditor.specs.Rests.{holds_so, ended_run, resident_lives, lives_in, IsRestOf}
use Rattle.pt_auditor.specs.Lanes.{stamp_noted}
use Rattle.pt_auditor.specs.Seen.{SeenSlots, is_slot_of, is_noted}
use Rattle.pt_auditor.specs.Hearings.{TellsBegin}
use Rattle.pt_events.specs.Counting.{capped}
use Rattle.pt_auditor.specs.Saving.{IsClosed, IsUnclosed, IsHeldSo, IsToldSo, Entry, alive, run, StateTold, entry_of, entries_with, told_of, clock_record, seen_record, link_record, watch_record, kept_record, held_records, entry_records, entries_records, last_records, told_records, lines_of, sum_behind, end_line, rest_text, is_nil, first_told, held_with, entry_with, entries_held, no_holding, told_with, told_more, then_told, told_by, AreNewClocks, AreNewSlots, AreFit, FitsRest, MayStand, is_end_line, StartsWith, IsFlaw, IsDamaged, ParsesRest, IsReadTo, IsReadWhole, EndsReading}

-- lists ------------------------------------------------------------------------------------------

some_is : {X : Type 0} (x y : X) → ◌≡◌ {A = Option X} (Some x) (Some y) → x ≡ y
some_is x y h = cc

pub nil_is : {X : Type 0} (xs : List X) → is_nil xs ≡ true → xs ≡ []
nil_is [] h = refl
nil_is (x ∷ xs) h = absurd (omega (arith, eqb-true (length (x ∷ xs)) 0 h))

-- a test that passes
passed : {X : Type 0} (b : Bool) (x y : X) → cond b (Some x) None ≡ Some y → (b ≡ true) × (x ≡ y)
passed true x y h = (refl, some_is x y h)
passed false x y h = absurd (cc)

snoc_is : {X : Type 0} (xs ys : List X) (a b : X) → xs ++ a ∷ [] ≡ ys ++ b ∷ [] → (xs ≡ ys) × (a ≡ b)
snoc_is [] [] a b h = (refl, cc)
snoc_is [] (y ∷ ys) a b h = absurd (omega (arith, ap length h, length-append ys (b ∷ [])))
snoc_is (x ∷ xs) [] a b h = absurd (omega (arith, ap length h, length-append xs (a ∷ [])))
snoc_is (x ∷ xs) (y ∷ ys) a b h =
    let heads : x ≡ y = cc in
    let tails : xs ++ a ∷ [] ≡ ys ++ b ∷ [] = cc in
    let more = snoc_is xs ys a b tails in
    (ap₂ (λ u v. u ∷ v) heads more.0, more.1)

-- where a list with a last element is split before an element, that is the last one, or it stands before the last
split_last : {X : Type 0} (xs before : List X) (e x : X) (after : List X) → xs ++ e ∷ [] ≡ before ++ x ∷ after
    → ((before ≡ xs) × (x ≡ e) × (after ≡ [])) ⊎ ((zs : List X) × (xs ≡ before ++ x ∷ zs))
split_last [] [] e x after h = let same : e ≡ x = cc in let none : [] ≡ after = cc in inl (refl, sym same, sym none)
split_last [] (b ∷ before) e x after h = absurd (omega (arith, ap length h, length-append before (x ∷ after)))
split_last (a ∷ xs) [] e x after h = let same : a ≡ x = cc in inr (xs, ap (λ z. z ∷ xs) same)
split_last {X} (a ∷ xs) (b ∷ before) e x after h =
    let heads : a ≡ b = cc in
    let tails : xs ++ e ∷ [] ≡ before ++ x ∷ after = cc in
    go heads (split_last xs before e x after tails)
  where
    go : a ≡ b → ((before ≡ xs) × (x ≡ e) × (after ≡ [])) ⊎ ((zs : List X) × (xs ≡ before ++ x ∷ zs))
        → ((b ∷ before ≡ a ∷ xs) × (x ≡ e) × (after ≡ [])) ⊎ ((zs : List X) × (a ∷ xs ≡ b ∷ before ++ x ∷ zs))
    go same (inl k) = inl (ap₂ (λ u v. u ∷ v) (sym same) k.0, k.1, k.2)
    go same (inr k) = inr (k.0, ap₂ (λ u v. u ∷ v) same k.1)

map_both : {X Y : Type 0} (f : X → Y) (xs ys : List X) → map f (xs ++ ys) ≡ map f xs ++ map f ys
map_both f [] ys = refl
map_both f (x ∷ xs) ys = ap (λ z. f x ∷ z) (map_both f xs ys)

take_front : {X : Type 0} (xs ys : List X) → take (length xs) (xs ++ ys) ≡ xs
take_front [] ys = refl
take_front (x ∷ xs) ys = ap (λ z. x ∷ z) (take_front xs ys)

-- one line more ----------------------------------------------------------------------------------

pub then_nil : (o : Option StateTold) → then_told o [] ≡ o
then_nil None = refl
then_nil (Some t) = refl

pub then_both : (o : Option StateTold) (xs ys : List Record) → then_told o (xs ++ ys) ≡ then_told (then_told o xs) ys
then_both None xs ys = refl
then_both (Some t) [] ys = refl
then_both (Some t) (x ∷ xs) ys = then_both (told_with t x) xs ys

-- what is told with one line more
pub told_one_more : (before : List Record) (x : Record) (o : Option StateTold) → MayStand before → told_by before ≡ o → told_by (before ++ x ∷ []) ≡ told_more o x
told_one_more [] x o k h = then_nil (first_told x) ∙ ap (λ z. told_more z x) h
told_one_more (y ∷ ys) x o k h =
    then_both (first_told y) ys (x ∷ []) ∙ ap (λ z. then_told z (x ∷ [])) k.1 ∙ then_nil (told_with k.0 x) ∙ ap (λ z. told_more z x) (sym k.1 ∙ h)

-- the lines of what is told with one line more are one more --------------------------------------

abbrev held_lines : List Item → List (Pid × Ids) → List (Ref × Pid) → List (Ref × Pid) → List Record
held_lines w l m k = map Waits w ++ map link_record l ++ map watch_record m ++ map kept_record k

waits_lines : (i : Item) (w : List Item) (l : List (Pid × Ids)) (m k : List (Ref × Pid)) → l ≡ [] → m ≡ [] → k ≡ []
    → held_lines (w ++ i ∷ []) l m k ≡ held_lines w l m k ++ Waits i ∷ []
waits_lines i w l m k a b c = rw (a, b, c) (simp (append-nil) (map_both Waits w (i ∷ [])))

links_lines : (x : Pid × Ids) (w : List Item) (l : List (Pid × Ids)) (m k : List (Ref × Pid)) → m ≡ [] → k ≡ []
    → held_lines w (l ++ x ∷ []) m k ≡ held_lines w l m k ++ link_record x ∷ []
links_lines x w l m k b c = rw (b, c) (simp (append-nil, append_assoc) (ap (λ z. map Waits w ++ z) (map_both link_record l (x ∷ []))))

watch_lines : (x : Ref × Pid) (w : List Item) (l : List (Pid × Ids)) (m k : List (Ref × Pid)) → k ≡ []
    → held_lines w l (m ++ x ∷ []) k ≡ held_lines w l m k ++ watch_record x ∷ []
watch_lines x w l m k c = rw c (simp (append-nil, append_assoc) (ap (λ z. map Waits w ++ (map link_record l ++ z)) (map_both watch_record m (x ∷ []))))

kept_lines : (x : Ref × Pid) (w : List Item) (l : List (Pid × Ids)) (m k : List (Ref × Pid))
    → held_lines w l m (k ++ x ∷ []) ≡ held_lines w l m k ++ kept_record x ∷ []
kept_lines x w l m k = simp (append_assoc) (ap (λ z. map Waits w ++ (map link_record l ++ (map watch_record m ++ z))) (map_both kept_record k (x ∷ [])))

-- of what a process holds
record HeldMore (s u : ProcessState) (x : Record) : Type 0 where
  traps : u.traps ≡ s.traps
  lines : held_records u ≡ held_records s ++ x ∷ []

held_more : (s u : ProcessState) (x : Record) → held_with s x ≡ Some u → HeldMore s u x
held_more s u (Waits i) h =
    let p = passed (is_nil s.links && is_nil s.watching && is_nil s.kept) _ u h in
    let a = and_parts (is_nil s.links && is_nil s.watching) (is_nil s.kept) p.0 in
    let b = and_parts (is_nil s.links) (is_nil s.watching) a.0 in
    subst (λ z. HeldMore s z (Waits i)) p.1
    (record { traps = refl; lines = waits_lines i s.waiting s.links s.watching s.kept (nil_is s.links b.0) (nil_is s.watching b.1) (nil_is s.kept a.1) })
held_more s u (Linked q ids) h =
    let p = passed (is_nil s.watching && is_nil s.kept) _ u h in
    let a = and_parts (is_nil s.watching) (is_nil s.kept) p.0 in
    subst (λ z. HeldMore s z (Linked q ids)) p.1
    (record { traps = refl; lines = links_lines (q, ids) s.waiting s.links s.watching s.kept (nil_is s.watching a.0) (nil_is s.kept a.1) })
held_more s u (Watches m q) h =
    let p = passed (is_nil s.kept) _ u h in
    subst (λ z. HeldMore s z (Watches m q)) p.1 (record { traps = refl; lines = watch_lines (m, q) s.waiting s.links s.watching s.kept (nil_is s.kept p.0) })
held_more s u (Watched m q) h =
    subst (λ z. HeldMore s z (Watched m q)) (some_is _ u h) (record { traps = refl; lines = kept_lines (m, q) s.waiting s.links s.watching s.kept })
held_more s u (Head a b c) h = absurd (cc)
held_more s u (Last e) h = absurd (cc)
held_more s u (Clock d n) h = absurd (cc)
held_more s u (Seen d p) h = absurd (cc)
held_more s u (Lives p b) h = absurd (cc)
held_more s u (Ended p n r) h = absurd (cc)
held_more s u (End n) h = absurd (cc)

-- of all that is told
abbrev lines_told : ℕ → ℕ → Bool → Option Stamped → List (ℕ × ℕ) → SeenSlots → List Entry → List Record
lines_told n d b l c v es = Head n d b ∷ last_records l ++ map clock_record c ++ map seen_record v ++ entries_records es

last_more : (n d : ℕ) (b : Bool) (l : Option Stamped) (c : List (ℕ × ℕ)) (v : SeenSlots) (es : List Entry) (s : Stamped) → is_none l ≡ true → c ≡ [] → v ≡ [] → es ≡ []
    → lines_told n d b (Some s) c v es ≡ lines_told n d b l c v es ++ Last s ∷ []
last_more n d b None c v es s h x w y = rw (x, w, y) refl
last_more n d b (Some e) c v es s h x w y = absurd (cc)

-- the front of the lines, with a line more behind a list of them
map_more : {X : Type 0} (f : X → Record) (front : List Record) (xs : List X) (x : X) → front ++ map f (xs ++ x ∷ []) ≡ front ++ map f xs ++ f x ∷ []
map_more f front xs x = ap (λ z. front ++ z) (map_both f xs (x ∷ [])) ∙ sym (append_assoc front (map f xs) (f x ∷ []))

clock_more : (n d : ℕ) (b : Bool) (l : Option Stamped) (c : List (ℕ × ℕ)) (v : SeenSlots) (es : List Entry) (x : ℕ × ℕ) → v ≡ [] → es ≡ []
    → lines_told n d b l (c ++ x ∷ []) v es ≡ lines_told n d b l c v es ++ clock_record x ∷ []
clock_more n d b l c v es x w y =
    rw (w, y)
    (ap (λ z. Head n d b ∷ z)
    (append-nil (last_records l ++ map clock_record (c ++ x ∷ []) ++ []) ∙ append-nil (last_records l ++ map clock_record (c ++ x ∷ [])) ∙ map_more clock_record (last_records l) c x
    ∙ ap (λ z. z ++ clock_record x ∷ []) (sym (append-nil (last_records l ++ map clock_record c ++ []) ∙ append-nil (last_records l ++ map clock_record c)))))

seen_more : (n d : ℕ) (b : Bool) (l : Option Stamped) (c : List (ℕ × ℕ)) (v : SeenSlots) (es : List Entry) (x : (ℕ × ℕ × ℕ) × ℕ) → es ≡ []
    → lines_told n d b l c (v ++ x ∷ []) es ≡ lines_told n d b l c v es ++ seen_record x ∷ []
seen_more n d b l c v es x y =
    let front = last_records l ++ map clock_record c in
    rw y
    (ap (λ z. Head n d b ∷ z)
    (append-nil (front ++ map seen_record (v ++ x ∷ [])) ∙ map_more seen_record front v x ∙ ap (λ z. z ++ seen_record x ∷ []) (sym (append-nil (front ++ map seen_record v)))))

entries_more : (n d : ℕ) (b : Bool) (l : Option Stamped) (c : List (ℕ × ℕ)) (v : SeenSlots) (es fs : List Entry) (x : Record) → entries_records fs ≡ entries_records es ++ x ∷ []
    → lines_told n d b l c v fs ≡ lines_told n d b l c v es ++ x ∷ []
entries_more n d b l c v es fs x h =
    ap (λ z. Head n d b ∷ last_records l ++ map clock_record c ++ map seen_record v ++ z) h
    ∙ ap (λ z. Head n d b ∷ z) (sym (append_assoc (last_records l ++ map clock_record c ++ map seen_record v) (entries_records es) (x ∷ [])))

entry_more : (t u : StateTold) (es : List Entry) (x : Record) → t.entries ≡ es → entries_held t x es ≡ Some u → told_records u ≡ told_records t ++ x ∷ []
entry_more t u [] x e h = absurd (cc)
entry_more t u (run p last r ∷ es) x e h = absurd (cc)
entry_more t u (alive p s ∷ es) x e h = go (held_with s x) refl h
  where
    go : (o : Option ProcessState) → held_with s x ≡ o → entry_with t p es o ≡ Some u → told_records u ≡ told_records t ++ x ∷ []
    go None k j = absurd (cc)
    go (Some v) k j =
        let more = held_more s v x k in
        let is : record t { entries = alive p v ∷ es } ≡ u = some_is _ u j in
        ap told_records (sym is)
        ∙ entries_more t.events t.desks t.begun t.last t.clocks t.seen t.entries (alive p v ∷ es) x
        (ap₂ (λ b z. entries_records es ++ Lives p b ∷ z) more.traps more.lines ∙ sym (append_assoc (entries_records es) (Lives p s.traps ∷ held_records s) (x ∷ []))
        ∙ ap (λ z. entries_records z ++ x ∷ []) (sym e))

told_line : (t u : StateTold) (x : Record) → told_with t x ≡ Some u → told_records u ≡ told_records t ++ x ∷ []
told_line t u (Head a b c) h = absurd (cc)
told_line t u (Last s) h =
    let p = passed (is_none t.last && is_nil t.clocks && is_nil t.seen && is_nil t.entries) _ u h in
    let a = and_parts (is_none t.last && is_nil t.clocks && is_nil t.seen) (is_nil t.entries) p.0 in
    let c = and_parts (is_none t.last && is_nil t.clocks) (is_nil t.seen) a.0 in
    let b = and_parts (is_none t.last) (is_nil t.clocks) c.0 in
    ap told_records (sym p.1) ∙ last_more t.events t.desks t.begun t.last t.clocks t.seen t.entries s b.0 (nil_is t.clocks b.1) (nil_is t.seen c.1) (nil_is t.entries a.1)
told_line t u (Clock d n) h =
    let p = passed (is_nil t.seen && is_nil t.entries && is_none (lookup (λ k. d == k) t.clocks)) _ u h in
    let a = and_parts (is_nil t.seen && is_nil t.entries) (is_none (lookup (λ k. d == k) t.clocks)) p.0 in
    let b = and_parts (is_nil t.seen) (is_nil t.entries) a.0 in
    ap told_records (sym p.1) ∙ clock_more t.events t.desks t.begun t.last t.clocks t.seen t.entries (d, n) (nil_is t.seen b.0) (nil_is t.entries b.1)
told_line t u (Seen d q) h =
    let p = passed (is_nil t.entries && is_none (lookup (is_slot_of d q) t.seen)) _ u h in
    let a = and_parts (is_nil t.entries) (is_none (lookup (is_slot_of d q) t.seen)) p.0 in
    ap told_records (sym p.1) ∙ seen_more t.events t.desks t.begun t.last t.clocks t.seen t.entries ((d, q.shard, q.slot), q.version) (nil_is t.entries a.0)
told_line t u (Lives q b) h =
    ap told_records (sym (some_is _ u h)) ∙ entries_more t.events t.desks t.begun t.last t.clocks t.seen t.entries (alive q (no_holding b) ∷ t.entries) (Lives q b) refl
told_line t u (Ended q n r) h =
    ap told_records (sym (some_is _ u h)) ∙ entries_more t.events t.desks t.begun t.last t.clocks t.seen t.entries (run q n r ∷ t.entries) (Ended q n r) refl
told_line t u (Waits i) h = entry_more t u t.entries (Waits i) refl h
told_line t u (Linked q ids) h = entry_more t u t.entries (Linked q ids) refl h
told_line t u (Watches m q) h = entry_more t u t.entries (Watches m q) refl h
told_line t u (Watched m q) h = entry_more t u t.entries (Watched m q) refl h
told_line t u (End n) h = absurd (cc)

then_lines : (t u : StateTold) (xs : List Record) → then_told (Some t) xs ≡ Some u → told_records u ≡ told_records t ++ xs
then_lines t u [] h = ap told_records (sym (some_is t u h)) ∙ sym (append-nil (told_records t))
then_lines t u (x ∷ xs) h = go (told_with t x) refl h (λ v. then_lines v u xs)
  where
    go : (o : Option StateTold) → told_with t x ≡ o → then_told o xs ≡ Some u → ((v : StateTold) → then_told (Some v) xs ≡ Some u → told_records u ≡ told_records v ++ xs)
        → told_records u ≡ told_records t ++ x ∷ xs
    go None k j more = absurd (cc)
    go (Some v) k j more = more v j ∙ ap (λ z. z ++ xs) (told_line t v x k) ∙ append_assoc (told_records t) (x ∷ []) xs

first_line : (t : StateTold) (x : Record) → first_told x ≡ Some t → told_records t ≡ x ∷ []
first_line t (Head n d b) h = ap told_records (sym (some_is _ t h))
first_line t (Last s) h = absurd (cc)
first_line t (Clock d n) h = absurd (cc)
first_line t (Seen d q) h = absurd (cc)
first_line t (Lives q b) h = absurd (cc)
first_line t (Waits i) h = absurd (cc)
first_line t (Linked q ids) h = absurd (cc)
first_line t (Watches m q) h = absurd (cc)
first_line t (Watched m q) h = absurd (cc)
first_line t (Ended q n r) h = absurd (cc)
first_line t (End n) h = absurd (cc)

-- the lines that tell something are its lines
pub lines_are : (xs : List Record) (u : StateTold) → told_by xs ≡ Some u → xs ≡ told_records u
lines_are [] u h = absurd (cc)
lines_are (x ∷ xs) u h = go (first_told x) refl h
  where
    go : (o : Option StateTold) → first_told x ≡ o → then_told o xs ≡ Some u → x ∷ xs ≡ told_records u
    go None k j = absurd (cc)
    go (Some t) k j = sym (then_lines t u xs j ∙ ap (λ z. z ++ xs) (first_line t x k))

-- all lines of a rest may stand so ----------------------------------------------------------------

abbrev told_as : StateTold → Option Stamped → List (ℕ × ℕ) → SeenSlots → List Entry → StateTold
told_as t l c v es = record t { last = l; clocks = c; seen = v; entries = es }

last_told : (t : StateTold) (l : Option Stamped) → then_told (Some (told_as t None [] [] [])) (last_records l) ≡ Some (told_as t l [] [] [])
last_told t None = refl
last_told t (Some s) = refl

clocks_told : (t : StateTold) (l : Option Stamped) (before clocks : List (ℕ × ℕ)) → AreNewClocks before clocks
    → then_told (Some (told_as t l before [] [])) (map clock_record clocks) ≡ Some (told_as t l (before ++ clocks) [] [])
clocks_told t l before [] h = ap (λ z. Some (told_as t l z [] [])) (sym (append-nil before))
clocks_told t l before (c ∷ clocks) h =
    ap (λ b. then_told (cond b (Some (told_as t l (before ++ c ∷ []) [] [])) None) (map clock_record clocks)) h.0
    ∙ clocks_told t l (before ++ c ∷ []) clocks h.1 ∙ ap (λ z. Some (told_as t l z [] [])) (append_assoc before (c ∷ []) clocks)

seen_told : (t : StateTold) (l : Option Stamped) (c : List (ℕ × ℕ)) (before seen : SeenSlots) → AreNewSlots before seen
    → then_told (Some (told_as t l c before [])) (map seen_record seen) ≡ Some (told_as t l c (before ++ seen) [])
seen_told t l c before [] h = ap (λ z. Some (told_as t l c z [])) (sym (append-nil before))
seen_told t l c before (s ∷ seen) h =
    ap (λ b. then_told (cond b (Some (told_as t l c (before ++ s ∷ []) [])) None) (map seen_record seen)) h.0
    ∙ seen_told t l c (before ++ s ∷ []) seen h.1 ∙ ap (λ z. Some (told_as t l c z [])) (append_assoc before (s ∷ []) seen)

abbrev holding : List Item → List (Pid × Ids) → List (Ref × Pid) → List (Ref × Pid) → Bool → ProcessState
holding w l m k b = record { waiting = w; links = l; watching = m; kept = k; traps = b }

module _ (t : StateTold) (p : Pid) (b : Bool) (es : List Entry) where
  abbrev open_told : List Item → List (Pid × Ids) → List (Ref × Pid) → List (Ref × Pid) → StateTold
  open_told w l m k = record t { entries = alive p (holding w l m k b) ∷ es }

  waits_told : (before items : List Item) → then_told (Some (open_told before [] [] [])) (map Waits items) ≡ Some (open_told (before ++ items) [] [] [])
  waits_told before [] = ap (λ z. Some (open_told z [] [] [])) (sym (append-nil before))
  waits_told before (i ∷ items) = waits_told (before ++ i ∷ []) items ∙ ap (λ z. Some (open_told z [] [] [])) (append_assoc before (i ∷ []) items)

  links_told : (w : List Item) (before links : List (Pid × Ids)) → then_told (Some (open_told w before [] [])) (map link_record links) ≡ Some (open_told w (before ++ links) [] [])
  links_told w before [] = ap (λ z. Some (open_told w z [] [])) (sym (append-nil before))
  links_told w before (i ∷ links) = links_told w (before ++ i ∷ []) links ∙ ap (λ z. Some (open_told w z [] [])) (append_assoc before (i ∷ []) links)

  watch_told : (w : List Item) (l : List (Pid × Ids)) (before watching : List (Ref × Pid))
      → then_told (Some (open_told w l before [])) (map watch_record watching) ≡ Some (open_told w l (before ++ watching) [])
  watch_told w l before [] = ap (λ z. Some (open_told w l z [])) (sym (append-nil before))
  watch_told w l before (i ∷ watching) = watch_told w l (before ++ i ∷ []) watching ∙ ap (λ z. Some (open_told w l z [])) (append_assoc before (i ∷ []) watching)

  kept_told : (w : List Item) (l : List (Pid × Ids)) (m before kept : List (Ref × Pid))
      → then_told (Some (open_told w l m before)) (map kept_record kept) ≡ Some (open_told w l m (before ++ kept))
  kept_told w l m before [] = ap (λ z. Some (open_told w l m z)) (sym (append-nil before))
  kept_told w l m before (i ∷ kept) = kept_told w l m (before ++ i ∷ []) kept ∙ ap (λ z. Some (open_told w l m z)) (append_assoc before (i ∷ []) kept)

  held_told : (w : List Item) (l : List (Pid × Ids)) (m k : List (Ref × Pid)) → then_told (Some (open_told [] [] [] [])) (held_lines w l m k) ≡ Some (open_told w l m k)
  held_told w l m k =
      ap (then_told (Some (open_told [] [] [] [])))
      (append_assoc (map Waits w ++ map link_record l) (map watch_record m) (map kept_record k)
      ∙ append_assoc (map Waits w) (map link_record l) (map watch_record m ++ map kept_record k))
      ∙ then_both (Some (open_told [] [] [] [])) (map Waits w) (map link_record l ++ (map watch_record m ++ map kept_record k))
      ∙ ap (λ z. then_told z (map link_record l ++ (map watch_record m ++ map kept_record k))) (waits_told [] w)
      ∙ then_both (Some (open_told w [] [] [])) (map link_record l) (map watch_record m ++ map kept_record k)
      ∙ ap (λ z. then_told z (map watch_record m ++ map kept_record k)) (links_told w [] l)
      ∙ then_both (Some (open_told w l [] [])) (map watch_record m) (map kept_record k)
      ∙ ap (λ z. then_told z (map kept_record k)) (watch_told w l [] m)
      ∙ kept_told w l m [] k

entry_told : (t : StateTold) (e : Entry) → then_told (Some t) (entry_records e) ≡ Some (record t { entries = e ∷ t.entries })
entry_told t (run p last r) = refl
entry_told t (alive p s) = held_told t p s.traps t.entries s.waiting s.links s.watching s.kept

entries_told : (t : StateTold) (es : List Entry) → then_told (Some (record t { entries = [] })) (entries_records es) ≡ Some (record t { entries = es })
entries_told t [] = refl
entries_told t (e ∷ es) =
    then_both (Some (record t { entries = [] })) (entries_records es) (entry_records e)
    ∙ ap (λ z. then_told z (entry_records e)) (entries_told t es)
    ∙ entry_told (record t { entries = es }) e

pub all_told : (t : StateTold) → AreNewClocks [] t.clocks → AreNewSlots [] t.seen → told_by (told_records t) ≡ Some t
all_told t h w =
    let start = Some (told_as t None [] [] []) in
    let last = last_records t.last in
    let clocks = map clock_record t.clocks in
    let seen = map seen_record t.seen in
    let entries = entries_records t.entries in
    then_both start (last ++ clocks ++ seen) entries
    ∙ ap (λ z. then_told z entries)
    (then_both start (last ++ clocks) seen
    ∙ ap (λ z. then_told z seen) (then_both start last clocks ∙ ap (λ z. then_told z clocks) (last_told t t.last) ∙ clocks_told t t.last [] t.clocks h)
    ∙ seen_told t t.last t.clocks [] t.seen w)
    ∙ entries_told t t.entries

-- the end stands behind all lines alone
no_end_within : (before after : List Record) (n : ℕ) → told_by (before ++ End n ∷ after) ≡ None
no_end_within [] after n = refl
no_end_within (y ∷ ys) after n = then_both (first_told y) ys (End n ∷ after) ∙ go (then_told (first_told y) ys)
  where
    go : (o : Option StateTold) → then_told o (End n ∷ after) ≡ None
    go None = refl
    go (Some t) = refl

-- lines that may not stand so may not with more behind them
stays_none : (x : Record) (xs ys : List Record) → told_by (x ∷ xs) ≡ None → told_by (x ∷ xs ++ ys) ≡ None
stays_none x xs ys h = then_both (first_told x) xs ys ∙ ap (λ z. then_told z ys) h

snoc_none : (before : List Record) (x : Record) (ys : List Record) → told_by (before ++ x ∷ []) ≡ None → told_by (before ++ x ∷ ys) ≡ None
snoc_none [] x ys h = stays_none x [] ys h
snoc_none (b ∷ before) x ys h = ap (λ z. told_by (b ∷ z)) (sym (append_assoc before (x ∷ []) ys)) ∙ stays_none b (before ++ x ∷ []) ys h

-- lines in a text --------------------------------------------------------------------------------

line_read_again : (x : Record) (rest : List ℕ) → FitsRecord x → line_at (record_line x ++ rest) ≡ Ok (x, rest)
line_read_again x rest f = line_reads.again x rest f tt

ok_are : {X Y : Type 0} (x y : X) (a b : Y) → ◌≡◌ {A = Result (X × Y) ℕ} (Ok (x, a)) (Ok (y, b)) → (x ≡ y) × (a ≡ b)
ok_are x y a b h = let same : ◌≡◌ {A = _ × _} (x, a) (y, b) = cc in (ap (λ z. z.0) same, ap (λ z. z.1) same)

same_front : (x y : Record) (a b : List ℕ) → FitsRecord x → FitsRecord y → record_line x ++ a ≡ record_line y ++ b → (x ≡ y) × (a ≡ b)
same_front x y a b f g h = ok_are x y a b (sym (line_read_again x a f) ∙ ap line_at h ∙ line_read_again y b g)

no_line : (x : Record) (rest : List ℕ) → record_line x ++ rest ≡ [] → ⊥
no_line x rest h = omega (arith, ap length h, length-append (record_text x ++ 10 ∷ []) rest, length-append (record_text x) (10 ∷ []))

-- lines before a rest of a text of lines are the first of these
cut : (before all : List Record) (rest : List ℕ) → AreFit before → AreFit all → lines_of before ++ rest ≡ lines_of all
    → (more : List Record) × (all ≡ before ++ more) × (rest ≡ lines_of more) × AreFit more
cut [] all rest f g h = (all, refl, h, g)
cut (x ∷ xs) [] rest f g h = absurd (no_line x (lines_of xs ++ rest) (sym (append_assoc (record_line x) (lines_of xs) rest) ∙ h))
cut (x ∷ xs) (y ∷ ys) rest f g h =
    let same = same_front x y (lines_of xs ++ rest) (lines_of ys) f.0 g.0 (sym (append_assoc (record_line x) (lines_of xs) rest) ∙ h) in
    let k = cut xs ys rest f.1 g.1 same.1 in
    (k.0, ap₂ (λ u v. u ∷ v) (sym same.0) k.1, k.2, k.3)

-- what is read at the front of lines is the first of them
first_of : (more : List Record) (x : Record) (rest : List ℕ) → AreFit more → FitsRecord x → lines_of more ≡ record_line x ++ rest
    → (ys : List Record) × (more ≡ x ∷ ys) × (rest ≡ lines_of ys)
first_of [] x rest g f h = absurd (no_line x rest (sym h))
first_of (y ∷ ys) x rest g f h =
    let same = same_front y x (lines_of ys) rest g.0 f h in
    (ys, ap (λ z. z ∷ ys) same.0, sym same.1)

lines_with : (xs : List Record) (x : Record) → lines_of (xs ++ x ∷ []) ≡ lines_of xs ++ record_line x
lines_with xs x = flat_map-append record_line xs (x ∷ []) ∙ ap (λ z. lines_of xs ++ z) (append-nil (record_line x))

all_with : (xs : List Record) (x : Record) → AreFit xs → FitsRecord x → AreFit (xs ++ x ∷ [])
all_with [] x f g = (g, tt)
all_with (y ∷ xs) x f g = (f.0, all_with xs x f.1 g)

sum_small : (n : ℕ) (bytes : List ℕ) → n < 4294967291 → sum_behind n bytes < 4294967291
sum_small n [] h = h
sum_small n (b ∷ bytes) h = sum_small ((n * 257 + b + 1) % 4294967291) bytes (omega arith)

end_fits : (xs : List Record) → FitsRecord (end_line xs)
end_fits xs = let small = sum_small 0 (lines_of xs) (omega arith) in omega (arith, small)

-- the text of a rest -----------------------------------------------------------------------------

module _ (R : Rest) (fits : FitsRest R) where
  abbrev its : List Record
  its = told_records (told_of R)

  abbrev all : List Record
  all = its ++ end_line its ∷ []

  tells : told_by its ≡ Some (told_of R)
  tells = all_told (told_of R) fits.clocks fits.seen

  all_fit : AreFit all
  all_fit = all_with its (end_line its) fits.lines (end_fits its)

  text_is : rest_text R ≡ lines_of all
  text_is = sym (lines_with its (end_line its))

  -- a line at its front is the end, or stands before it
  abbrev AtLine : List Record → List ℕ → Record → Type 0
  AtLine before rest x = ((before ≡ its) × (x ≡ end_line its) × (rest ≡ [])) ⊎ ((zs : List Record) × (its ≡ before ++ x ∷ zs))

  at_line : (before : List Record) (text rest : List ℕ) (x : Record) → AreFit before → lines_of before ++ text ≡ lines_of all → StartsWith x text rest → AtLine before rest x
  at_line before text rest x f e start =
      let k = cut before all text f all_fit e in
      let j = first_of k.0 x rest k.3 start.fits (sym k.2 ∙ start.splits) in
      go j.0 j.2 (split_last its before (end_line its) x j.0 (k.1 ∙ ap (λ z. before ++ z) j.1))
    where
      go : (ys : List Record) → rest ≡ lines_of ys → ((before ≡ its) × (x ≡ end_line its) × (ys ≡ [])) ⊎ ((zs : List Record) × (its ≡ before ++ x ∷ zs)) → AtLine before rest x
      go ys h (inl k) = inl (k.0, k.1, h ∙ ap lines_of k.2)
      go ys h (inr k) = inr k

  end_is : (n m : ℕ) → End n ≡ End m → n ≡ m
  end_is n m h = cc

  -- a line that may not stand so is not in the text
  not_within : (before : List Record) (x : Record) → told_by (before ++ x ∷ []) ≡ None → (zs : List Record) → its ≡ before ++ x ∷ zs → ⊥
  not_within before x none zs e = go (sym tells ∙ ap told_by e ∙ snoc_none before x zs none)
    where
      go : ◌≡◌ {A = Option StateTold} (Some (told_of R)) None → ⊥
      go h = absurd (cc)

  no_flaw : (before : List Record) (rest : List ℕ) (column : ℕ) (flaw : Flaw) → AreFit before → MayStand before → lines_of before ++ rest ≡ lines_of all
      → IsFlaw before rest column flaw → flaw ≡ Memory
  no_flaw before rest column Memory f s e w = refl
  no_flaw before rest column Unread f s e w =
      let k = cut before all rest f all_fit e in absurd (unread k.0 k.1 k.2 k.3)
    where
      stands_not : (xs : List Record) → MayStand xs → its ++ end_line its ∷ [] ≡ xs → ⊥
      stands_not [] m h = absurd (cc)
      stands_not (x ∷ xs) m h = go (sym m.1 ∙ ap told_by (sym h) ∙ no_end_within its [] _)
        where
          go : ◌≡◌ {A = Option StateTold} (Some m.0) None → ⊥
          go j = absurd (cc)

      unread : (more : List Record) → all ≡ before ++ more → rest ≡ lines_of more → AreFit more → ⊥
      unread [] a b g = stands_not before s (a ∙ append-nil before)
      unread (y ∷ ys) a b g = go (sym w ∙ ap (λ z. told_column z (line_at z)) b ∙ ap (told_column (lines_of (y ∷ ys))) (line_read_again y (lines_of ys) g.0))
        where
          go : ◌≡◌ {A = Result (Record × List ℕ) Refused} (Err (record { column = column })) (Ok (y, lines_of ys)) → ⊥
          go j = absurd (cc)
  no_flaw before rest column Misplaced f s e w = absurd (go (at_line before rest w.1.1 w.1.0 f e w.1.2))
    where
      nothing : its ≡ [] → ⊥
      nothing h = absurd (cc)

      go : AtLine before w.1.1 w.1.0 → ⊥
      go (inl h) = nothing (sym h.0 ∙ w.1.4 (ap is_end_line h.1))
      go (inr h) = not_within before w.1.0 w.1.3 h.0 h.1
  no_flaw before rest column Sum f s e w = absurd (go (at_line before rest w.1.1 (End w.1.0) f e w.1.2))
    where
      go : AtLine before w.1.1 (End w.1.0) → ⊥
      go (inl h) = w.1.3 (end_is w.1.0 (sum_behind 0 (lines_of its)) h.1 ∙ ap (λ z. sum_behind 0 (lines_of z)) (sym h.0))
      go (inr h) = not_within before (End w.1.0) (no_end_within before [] w.1.0) h.0 h.1
  no_flaw before rest column Behind f s e w = absurd (go (at_line before rest w.1.1 (End w.1.0) f e w.1.2))
    where
      go : AtLine before w.1.1 (End w.1.0) → ⊥
      go (inl h) = w.1.3 h.2
      go (inr h) = not_within before (End w.1.0) (no_end_within before [] w.1.0) h.0 h.1

-- what is told alike is known of the same histories -----------------------------------------------

abbrev entry_lives : Entry → List (Pid × Phase)
entry_lives (alive p s) = (p, living s) ∷ []
entry_lives (run p last r) = ended_run p r (last + 1 - p.version)

abbrev entries_lives : List Entry → List (Pid × Phase)
entries_lives [] = []
entries_lives (e ∷ es) = entries_lives es ++ entry_lives e

resident_is : (r : Resident) → resident_lives r ≡ entry_lives (entry_of r)
resident_is (Resident.Lives p h) = refl
resident_is (Resident.Ended p last r) = refl

lives_with : (es : List Entry) (rs : List Resident) → entries_lives (entries_with es rs) ≡ entries_lives es ++ lives_in rs
lives_with es [] = sym (append-nil (entries_lives es))
lives_with es (r ∷ rs) =
    lives_with (entry_of r ∷ es) rs ∙ append_assoc (entries_lives es) (entry_lives (entry_of r)) (lives_in rs)
    ∙ ap (λ z. entries_lives es ++ (z ++ lives_in rs)) (sym (resident_is r))

same_lives : (r s : Rest) → told_of s ≡ told_of r → lives_in s.residents.items ≡ lives_in r.residents.items
same_lives r s e = sym (lives_with [] s.residents.items) ∙ ap (λ (t : StateTold). entries_lives t.entries) e ∙ lives_with [] r.residents.items

same_rest : (past : List Stamped) (r s : Rest) → told_of s ≡ told_of r → IsRestOf past r → IsRestOf past s
same_rest past r s e k = record {
  legal = k.legal;
  rising = k.rising;
  of_node = k.of_node;
  still = k.still;
  alike = λ p. ap (λ z. at_start z p) (same_lives r s e) ∙ k.alike p;
  clocks = λ d. ap (λ (t : StateTold). stamp_noted t.clocks d) e ∙ k.clocks d;
  seen = λ d p. ap (λ (t : StateTold). is_noted t.seen d p) e ∙ k.seen d p;
  last = ap (λ (t : StateTold). t.last) e ∙ k.last;
  begun = subst (TellsBegin past) (sym (ap (λ (t : StateTold). t.begun) e)) k.begun;
  count = ap (λ (t : StateTold). t.events) e ∙ k.count;
  desks = ap (λ (t : StateTold). t.desks) e ∙ k.desks;
}

-- what is promised of reading, from what was read --------------------------------------------------

no_lines : (more : List Record) → [] ≡ lines_of more → more ≡ []
no_lines [] h = refl
no_lines (y ∷ ys) h = absurd (no_line y (lines_of ys) (sym h))

-- the rest that was read is the one whose text it is
read_is : (text : List ℕ) (r R : Rest) → IsReadWhole text r → FitsRest R → text ≡ rest_text R → told_of r ≡ told_of R
read_is text r R k fits e =
    let before = k.before in
    let ended = before ++ end_line before ∷ [] in
    let lines : lines_of ended ++ [] ≡ lines_of (all R fits) =
    append-nil (lines_of ended) ∙ lines_with before (end_line before) ∙ sym k.splits ∙ e ∙ text_is R fits
    in
    let c = cut ended (all R fits) [] (all_with before (end_line before) k.fits (end_fits before)) (all_fit R fits) lines in
    let same = snoc_is (its R fits) before (end_line (its R fits)) (end_line before) (c.1 ∙ ap (λ z. ended ++ z) (no_lines c.0 c.2) ∙ append-nil ended) in
    some_is (told_of r) (told_of R) (sym k.tells ∙ ap told_by (sym same.0) ∙ tells R fits)

pub reread : (text : List ℕ) (result : Result Rest Damage) → EndsReading text result → ParsesRest text result
reread text (Ok r) k = record {
  found = k.splits ∙ ap (λ z. lines_of z ++ record_line (end_line z)) (lines_are k.before (told_of r) k.tells);
  only = λ R f e. read_is text r R k f e;
  kept = λ past R f e h. same_rest past R r (read_is text r R k f e) h;
  damaged = tt;
}
reread text (Err d) k = record {
  found = tt;
  only = λ R f e. no_flaw R f k.before k.rest d.column d.flaw k.fits k.stands (sym k.splits ∙ e ∙ text_is R f) k.flaw;
  kept = λ past R f e h. tt;
  damaged = k;
}

-- the loop over the lines ---------------------------------------------------------------------------

-- these lines were read, and so much is left
pub record IsReading (text left : List ℕ) (state : Option Rest) (line : ℕ) : Type 0 where
  pub before : List Record
  pub read : IsReadTo text before left (option_map told_of state)
  pub line_is : line ≡ capped (length before + 1)

pub reading_begins : (text : List ℕ) → IsReading text text None 1
reading_begins text = record { before = []; read = record { splits = refl; fits = tt; stands = tt; tells = refl }; line_is = omega arith }

may_stand : (xs : List Record) (t : StateTold) → told_by xs ≡ Some t → MayStand xs
may_stand [] t h = tt
may_stand (x ∷ xs) t h = (t, h)

module _ (text left : List ℕ) (state : Option Rest) (line : ℕ) (k : IsReading text left state line) where
  -- one line more
  pub reading_more : (x : Record) (behind : List ℕ) (rest : Rest) → left ≡ record_line x ++ behind → FitsRecord x → told_more (option_map told_of state) x ≡ Some (told_of rest)
      → (next : ℕ) → next ≡ capped (line + 1) → IsReading text behind (Some rest) next
  reading_more x behind rest e f h next n =
      let told = told_one_more k.before x _ k.read.stands k.read.tells ∙ h in
      record {
        before = k.before ++ x ∷ [];
        read = record {
          splits =
              k.read.splits ∙ ap (λ z. lines_of k.before ++ z) e ∙ sym (append_assoc (lines_of k.before) (record_line x) behind)
              ∙ ap (λ z. z ++ behind) (sym (lines_with k.before x));
          fits = all_with k.before x k.read.fits f;
          stands = may_stand (k.before ++ x ∷ []) (told_of rest) told;
          tells = told;
        };
        line_is = let l = length-append k.before (x ∷ []) in omega (arith, n, k.line_is, l);
      }

  damaged : (d : Damage) → d.line ≡ line → IsFlaw k.before left d.column d.flaw → IsDamaged text d
  damaged d e w = record {
    before = k.before;
    rest = left;
    splits = k.read.splits;
    fits = k.read.fits;
    stands = k.read.stands;
    line = e ∙ k.line_is;
    flaw = w;
  }

  -- the line is none
  pub unread_line : (r : Refused) → told_column left (line_at left) ≡ Err r → IsDamaged text (record { line = line; column = r.column; flaw = Unread })
  unread_line r h = damaged _ refl h

  -- the line may not stand there
  pub misplaced_line : (x : Record) (behind : List ℕ) (flaw : Flaw) → left ≡ record_line x ++ behind → FitsRecord x → is_end_line x ≡ false → IsToldSo (told_more (option_map told_of state) x) (Err flaw)
      → IsDamaged text (record { line = line; column = 1; flaw = flaw })
  misplaced_line x behind Misplaced e f n h =
      damaged _ refl
      (refl, (x, behind, record { fits = f; splits = e }, told_one_more k.before x _ k.read.stands k.read.tells ∙ h, λ y. absurd (both_ways (is_end_line x) n y)))
  misplaced_line x behind Memory e f n h = damaged _ refl tt
  misplaced_line x behind Unread e f n h = absurd h
  misplaced_line x behind Sum e f n h = absurd h
  misplaced_line x behind Behind e f n h = absurd h

  -- nothing was read before
  pub not_end : (x : Record) → ((n : ℕ) → x ≡ End n → ⊥) → is_end_line x ≡ false
  not_end (Head a b c) h = refl
  not_end (Last s) h = refl
  not_end (Clock d n) h = refl
  not_end (Seen d p) h = refl
  not_end (Lives p b) h = refl
  not_end (Waits i) h = refl
  not_end (Linked p ids) h = refl
  not_end (Watches m p) h = refl
  not_end (Watched m p) h = refl
  not_end (Ended p n r) h = refl
  not_end (End n) h = absurd (h n refl)

  none_before : (xs : List Record) → MayStand xs → told_by xs ≡ None → xs ≡ []
  none_before [] s h = refl
  none_before (x ∷ xs) s h = go (sym s.1 ∙ h)
    where
      go : ◌≡◌ {A = Option StateTold} (Some s.0) None → x ∷ xs ≡ []
      go j = absurd (cc)

  -- the end
  pub closes : (n : ℕ) (behind lines : List ℕ) (result : Result Rest Damage) → left ≡ record_line (End n) ++ behind → FitsRecord (End n) → lines ≡ lines_of k.before
      → IsClosed (option_map told_of state) lines n behind line result → EndsReading text result
  closes n behind lines (Ok r) e f l h = record {
    before = k.before;
    splits =
        k.read.splits
        ∙ ap (λ z. lines_of k.before ++ z)
        (e ∙ ap (λ z. record_line (End n) ++ z) h.2 ∙ append-nil (record_line (End n)) ∙ ap (λ z. record_line (End z)) (h.1 ∙ ap (sum_behind 0) l));
    fits = k.read.fits;
    tells = k.read.tells ∙ h.0;
  }
  closes n behind lines (Err d) e f l h = damaged d h.0 (flaw d.flaw h.2)
    where
      start : StartsWith (End n) left behind
      start = record { fits = f; splits = e }

      flaw : (w : Flaw) → IsUnclosed (option_map told_of state) lines n behind w → IsFlaw k.before left d.column w
      flaw Misplaced j = (h.1, (End n, behind, start, no_end_within k.before [] n, λ y. none_before k.before k.read.stands (k.read.tells ∙ j)))
      flaw Sum j = (h.1, (n, behind, start, λ y. j (y ∙ ap (sum_behind 0) (sym l))))
      flaw Behind j = (h.1, (n, behind, start, j))
      flaw Unread j = absurd j
      flaw Memory j = absurd j

  -- how much was read
  pub left_fits : length left ≤ length text
  left_fits = let l = length-append (lines_of k.before) left in omega (arith, ap length k.read.splits, l)

  pub front_is : (n : ℕ) → n + length left ≡ length text → take n text ≡ lines_of k.before
  front_is n h =
      let l = length-append (lines_of k.before) left in
      let m : n ≡ length (lines_of k.before) = omega (arith, ap length k.read.splits, l, h) in
      ap₂ take m k.read.splits ∙ take_front (lines_of k.before) left

pub behind_shorter : (x : Record) (left behind : List ℕ) → left ≡ record_line x ++ behind → length behind < length left
behind_shorter x left behind e =
    let a = length-append (record_line x) behind in
    let b = length-append (record_text x) (10 ∷ []) in
    omega (arith, ap length e, a, b)

-- what is written -----------------------------------------------------------------------------------

abbrev pub resident_text : Resident → List ℕ
resident_text r = lines_of (entry_records (entry_of r))

lines_both : (xs ys : List Record) → lines_of (xs ++ ys) ≡ lines_of xs ++ lines_of ys
lines_both xs ys = flat_map-append record_line xs ys

entries_text : (es : List Entry) (rs : List Resident) → lines_of (entries_records (entries_with es rs)) ≡ lines_of (entries_records es) ++ flat_map resident_text rs
entries_text es [] = sym (append-nil _)
entries_text es (r ∷ rs) =
    entries_text (entry_of r ∷ es) rs ∙ ap (λ z. z ++ flat_map resident_text rs) (lines_both (entries_records es) (entry_records (entry_of r)))
    ∙ append_assoc (lines_of (entries_records es)) (resident_text r) (flat_map resident_text rs)

-- the lines of a rest, part by part
pub rest_lines : (r : Rest) → lines_of (told_records (told_of r))
    ≡ record_line (Head r.events r.desks r.begun) ++ (lines_of (last_records r.last) ++ (flat_map (λ c. record_line (clock_record c)) r.clocks
    ++ (flat_map (λ s. record_line (seen_record s)) r.seen ++ flat_map resident_text r.residents.items)))
rest_lines r =
    let entries = entries_records (entries_with [] r.residents.items) in
    let last = last_records r.last in
    let clocks = map clock_record r.clocks in
    let seen = map seen_record r.seen in
    ap (λ z. record_line (Head r.events r.desks r.begun) ++ z)
    (lines_both (last ++ clocks ++ seen) entries
    ∙ ap (λ z. z ++ lines_of entries) (lines_both (last ++ clocks) seen ∙ ap (λ z. z ++ lines_of seen) (lines_both last clocks))
    ∙ append_assoc (lines_of last ++ lines_of clocks) (lines_of seen) (lines_of entries) ∙ append_assoc (lines_of last) (lines_of clocks) (lines_of seen ++ lines_of entries)
    ∙ ap (λ z. lines_of last ++ z)
    (ap₂ (λ u v. u ++ v) (flat_map-map record_line clock_record r.clocks) (ap₂ (λ u v. u ++ v) (flat_map-map record_line seen_record r.seen) (entries_text [] r.residents.items))))

pub held_text : (s : ProcessState) → lines_of (held_records s)
    ≡ flat_map (λ i. record_line (Waits i)) s.waiting ++ (flat_map (λ l. record_line (link_record l)) s.links
    ++ (flat_map (λ m. record_line (watch_record m)) s.watching ++ flat_map (λ m. record_line (kept_record m)) s.kept))
held_text s =
    let w = map Waits s.waiting in
    let l = map link_record s.links in
    let m = map watch_record s.watching in
    let k = map kept_record s.kept in
    lines_both (w ++ l ++ m) k ∙ ap (λ z. z ++ lines_of k) (lines_both (w ++ l) m ∙ ap (λ z. z ++ lines_of m) (lines_both w l))
    ∙ append_assoc (lines_of w ++ lines_of l) (lines_of m) (lines_of k) ∙ append_assoc (lines_of w) (lines_of l) (lines_of m ++ lines_of k)
    ∙ ap₂ (λ a b. a ++ b) (flat_map-map record_line Waits s.waiting)
    (ap₂ (λ a b. a ++ b) (flat_map-map record_line link_record s.links)
    (ap₂ (λ a b. a ++ b) (flat_map-map record_line watch_record s.watching) (flat_map-map record_line kept_record s.kept)))

-- four texts one behind the other
four_written : (a b c d e one two three four : List ℕ) → b ≡ a ++ one → c ≡ b ++ two → d ≡ c ++ three → e ≡ d ++ four → e ≡ a ++ (one ++ (two ++ (three ++ four)))
four_written a b c d e one two three four f g h i =
    i ∙ ap (λ z. z ++ four) (h ∙ ap (λ z. z ++ three) (g ∙ ap (λ z. z ++ two) f))
    ∙ append_assoc ((a ++ one) ++ two) three four ∙ append_assoc (a ++ one) two (three ++ four) ∙ append_assoc a one (two ++ (three ++ four))

-- what is written one behind the other
pub rest_written : (r : Rest) (a b c d w e : List ℕ) → b ≡ a ++ record_line (Head r.events r.desks r.begun) → c ≡ b ++ lines_of (last_records r.last)
    → d ≡ c ++ flat_map (λ x. record_line (clock_record x)) r.clocks → w ≡ d ++ flat_map (λ x. record_line (seen_record x)) r.seen → e ≡ w ++ flat_map resident_text r.residents.items
    → e ≡ a ++ lines_of (told_records (told_of r))
rest_written r a b c d w e f g h j i =
    let one = record_line (Head r.events r.desks r.begun) in
    let two = lines_of (last_records r.last) in
    let three = flat_map (λ x. record_line (clock_record x)) r.clocks in
    let four = flat_map (λ x. record_line (seen_record x)) r.seen in
    let five = flat_map resident_text r.residents.items in
    four_written a b c d e one two three (four ++ five) f g h (i ∙ ap (λ z. z ++ five) j ∙ append_assoc d four five) ∙ ap (λ z. a ++ z) (sym (rest_lines r))

pub held_written : (s : ProcessState) (a b c d e : List ℕ) (w : List Item) (l : List (Pid × Ids)) (m k : List (Ref × Pid)) → w ≡ s.waiting → l ≡ s.links → m ≡ s.watching → k ≡ s.kept
    → b ≡ a ++ flat_map (λ i. record_line (Waits i)) w → c ≡ b ++ flat_map (λ i. record_line (link_record i)) l
    → d ≡ c ++ flat_map (λ i. record_line (watch_record i)) m → e ≡ d ++ flat_map (λ i. record_line (kept_record i)) k → e ≡ a ++ lines_of (held_records s)
held_written s a b c d e w l m k x y z v f g h i =
    four_written a b c d e _ _ _ _ f g h i
    ∙ ap (λ u. a ++ (flat_map (λ i. record_line (Waits i)) u ++ (flat_map (λ i. record_line (link_record i)) l
    ++ (flat_map (λ i. record_line (watch_record i)) m ++ flat_map (λ i. record_line (kept_record i)) k)))) x
    ∙ ap (λ u. a ++ (flat_map (λ i. record_line (Waits i)) s.waiting ++ (flat_map (λ i. record_line (link_record i)) u
    ++ (flat_map (λ i. record_line (watch_record i)) m ++ flat_map (λ i. record_line (kept_record i)) k)))) y
    ∙ ap (λ u. a ++ (flat_map (λ i. record_line (Waits i)) s.waiting ++ (flat_map (λ i. record_line (link_record i)) s.links
    ++ (flat_map (λ i. record_line (watch_record i)) u ++ flat_map (λ i. record_line (kept_record i)) k)))) z
    ∙ ap (λ u. a ++ (flat_map (λ i. record_line (Waits i)) s.waiting ++ (flat_map (λ i. record_line (link_record i)) s.links
    ++ (flat_map (λ i. record_line (watch_record i)) s.watching ++ flat_map (λ i. record_line (kept_record i)) u)))) v
    ∙ ap (λ u. a ++ u) (sym (held_text s))

-- residents --------------------------------------------------------------------------------------

pub entries_snoc : (es : List Entry) (rs : List Resident) (r : Resident) → entries_with es (rs ++ r ∷ []) ≡ entry_of r ∷ entries_with es rs
entries_snoc es [] r = refl
entries_snoc es (x ∷ rs) r = entries_snoc (entry_of x ∷ es) rs r

entries_count : (es : List Entry) (rs : List Resident) → length (entries_with es rs) ≡ length es + length rs
entries_count es [] = omega arith
entries_count es (r ∷ rs) = let h = entries_count (entry_of r ∷ es) rs in omega (arith, h)

pub entries_nil : (rs : List Resident) → is_nil (entries_with [] rs) ≡ (length rs == 0)
entries_nil rs = ap (λ n. n == 0) (let h = entries_count [] rs in let e : length (entries_with [] rs) ≡ length rs = omega (arith, h) in e)

-- there is no first one where there is none
pub empty_is : (b c : Bool) (n : ℕ) → b ≡ nat_lt 0 n → b ≡ not c → c ≡ (n == 0)
empty_is b c n h k = go c (n == 0) refl (sym k ∙ h)
  where
    go : (c d : Bool) → (n == 0) ≡ d → not c ≡ nat_lt 0 n → c ≡ d
    go true true e j = refl
    go false false e j = refl
    go true false e j = absurd (eqb-false n 0 e (omega (arith, ltb-false 0 n (sym j))))
    go false true e j = absurd (omega (arith, ltb-true 0 n (sym j), eqb-true n 0 e))

pub last_entry : (after before : List Resident) (r : Resident) → after ≡ before ++ r ∷ [] → entries_with [] after ≡ entry_of r ∷ entries_with [] before
last_entry after before r e = ap (entries_with []) e ∙ entries_snoc [] before r

module _ (t : StateTold) (x : Record) (after before : List Resident) where
  -- what the last process holds with a line more
  pub held_line : (p : Pid) (h k : Holding) → after ≡ before ++ Resident.Lives p h ∷ [] → held_with (holds_so h) x ≡ Some (holds_so k)
      → entries_held t x (entries_with [] after) ≡ Some (record t { entries = alive p (holds_so k) ∷ entries_with [] before })
  held_line p h k e j = ap (entries_held t x) (last_entry after before (Resident.Lives p h) e) ∙ ap (entry_with t p (entries_with [] before)) j

  pub held_flaw : (p : Pid) (h : Holding) (flaw : Flaw) → after ≡ before ++ Resident.Lives p h ∷ [] → IsHeldSo (held_with (holds_so h) x) (Err flaw)
      → IsToldSo (entries_held t x (entries_with [] after)) (Err flaw)
  held_flaw p h Misplaced e j = ap (entries_held t x) (last_entry after before (Resident.Lives p h) e) ∙ ap (entry_with t p (entries_with [] before)) j
  held_flaw p h Memory e j = tt
  held_flaw p h Unread e j = absurd j
  held_flaw p h Sum e j = absurd j
  held_flaw p h Behind e j = absurd j

  pub ended_flaw : (p : Pid) (n : ℕ) (r : Reason) → after ≡ before ++ Resident.Ended p n r ∷ [] → entries_held t x (entries_with [] after) ≡ None
  ended_flaw p n r e = ap (entries_held t x) (last_entry after before (Resident.Ended p n r) e)
