-- What is in sight has its name in the scope.
use Rattle.std.proofs.Common.{◌≡◌, ℕ, ◌+◌, ◌<◌, ◌≤◌, ◌^◌, List, [], ◌∷◌, Bool, true, false, length, drop, Option, Some, None, refl, ap, sym, ◌∙◌, arith}
use Rattle.std.specs.Prelude.{codes, decimal, if◌then◌else◌, nat_lt, nat_le, ◌&&◌, ◌||◌, ◌==◌}
use Rattle.std.specs.Bool.{one_answer}
use Rattle.std.specs.List.{list_all}
use Rattle.std.specs.Map.{update}
use Rattle.std.specs.Str.{bytes_eq}
use Rattle.std.proofs.lemmas.Bool.Decides.{Decides-eqb}
use Rattle.std.proofs.lemmas.Fmt.{digits_decimal, decimal_injective, length-decimal-le}
use Rattle.std.proofs.lemmas.Slice.Eq.{bytes_eq-Decides}
use Rattle.pt_script.specs.declared.values.Pattern.{Pattern}
use Rattle.pt_script.specs.declared.values.Pattern.TheVariants as pattern
use Rattle.pt_script.specs.declared.values.Operation.{Operation}
use Rattle.pt_script.specs.declared.values.Operation.TheVariants as operation
use Rattle.pt_script.specs.Scopes.{Naming, Scope, can_ask, has_blocks, process_in, or_number, is_script_name, is_own_name, begins_well, is_script_letter, is_script_digit, is_name_byte}
use Rattle.pt_script.specs.Lists.{fresh_scope, with_child, with_monitor, with_ask}
use Rattle.pt_script.specs.Sights.{NameSight, among, is_parent, sees, SeesIfAny, SeesAllOf, CanDo, sight_behind, first_sight}
use Rattle.pt_script.specs.Writing.{IsCalled, IsCalledIfAny, CanPick, IsNewTag, CanSay, scope_behind}
use Rattle.pt_script.specs.WritingScripts.{process_name, tag_name, calls}
use Rattle.pt_script.proofs.NumberFacts.{own}

-- names --------------------------------------------------------------------------

abbrev pub found : ℕ → List ℕ → Option ℕ
found n ks = if among n ks then Some n else None

-- the names that begin with this letter stand for these numbers
abbrev pub Named : ℕ → Naming → List ℕ → Type 0
Named letter f ks = (n : ℕ) → n < 2 ^ 64 → f (letter ∷ decimal n) ≡ found n ks

same_name : (letter k n : ℕ) → k < 2 ^ 64 → n < 2 ^ 64 → bytes_eq (letter ∷ decimal k) (letter ∷ decimal n) ≡ (k == n)
same_name letter k n low small =
    let same = bytes_eq-Decides (letter ∷ decimal k) (letter ∷ decimal n) in
    one_answer {P = k ≡ n} (bytes_eq (letter ∷ decimal k) (letter ∷ decimal n)) (k == n) (λ e. decimal_injective k n low small (ap (drop 1) (same.0 e)), λ e. same.1 (ap (λ m. letter ∷ decimal m) e)) (Decides-eqb k n)

chosen : (b c : Bool) (j n : ℕ) → (b ≡ true → j ≡ n) → (if b then Some j else (if c then Some n else None)) ≡ (if b || c then Some n else None)
chosen true c j n h = ap Some (h refl)
chosen false c j n h = refl

pub named_more : (letter : ℕ) (f : Naming) (ks : List ℕ) (k m j : ℕ) → k ≡ j → m ≡ j → j < 2 ^ 64 → Named letter f ks → Named letter (λ q. update bytes_eq f (letter ∷ decimal k) (Some m) q) (j ∷ ks)
named_more letter f ks k m j ek em low h n small = rw (ek, em, same_name letter j n low small, h n small) (chosen (j == n) (among n ks) j n (Decides-eqb j n).0)

pub found_is : (n : ℕ) (ks : List ℕ) → among n ks ≡ true → found n ks ≡ Some n
found_is n ks h = rw h refl

pub found_not : (n : ℕ) (ks : List ℕ) → (among n ks ≡ true → ⊥) → found n ks ≡ None
found_not n ks h = by_test (among n ks) h
  where
    by_test : (b : Bool) → (b ≡ true → ⊥) → (if b then Some n else None) ≡ None
    by_test true g = absurd (g refl)
    by_test false g = refl

byte_of : (b : ℕ) → is_script_digit b ≡ true → is_name_byte b ≡ true
unfolding is_name_byte
byte_of b h = by_letter (is_script_letter b) (b == 95)
  where
    by_letter : (x y : Bool) → (x || is_script_digit b || y) ≡ true
    by_letter true y = refl
    by_letter false y = rw h refl

both : (a b c d : Bool) → (a ≡ true → c ≡ true) → (b ≡ true → d ≡ true) → (a && b) ≡ true → (c && d) ≡ true
both true b c d f g h = rw (f refl) (g h)
both false b c d f g h = absurd (let e : false ≡ true = h in cc)

bytes_of : (bs : List ℕ) → list_all is_script_digit bs ≡ true → list_all is_name_byte bs ≡ true
bytes_of [] h = refl
bytes_of (b ∷ bs) h = both (is_script_digit b) (list_all is_script_digit bs) (is_name_byte b) (list_all is_name_byte bs) (byte_of b) (bytes_of bs) h

pub has_form : (letter : ℕ) → is_script_letter letter ≡ true → (n : ℕ) → n < 2 ^ 64 → is_script_name (letter ∷ decimal n) ≡ true
unfolding begins_well is_name_byte
has_form letter is n small =
    let len : length (decimal n) ≤ 20 = length-decimal-le 20 n (omega arith) (omega (arith, small)) small in
    let some : nat_lt 0 (length (letter ∷ decimal n)) ≡ true = grind arith in
    let short : nat_le (length (letter ∷ decimal n)) 32 ≡ true = grind (arith, len) in
    let bytes : list_all is_name_byte (decimal n) ≡ true = bytes_of (decimal n) (digits_decimal own n small) in
    rw (some, short, is, bytes) refl

is_process_letter : is_script_letter 110 ≡ true
unfolding is_script_letter
is_process_letter = refl

is_tag_letter : is_script_letter 116 ≡ true
unfolding is_script_letter
is_tag_letter = refl

pub own_name : (n : ℕ) → n < 2 ^ 64 → is_own_name (process_name n) ≡ true
own_name n small = rw (has_form 110 is_process_letter n small) refl

-- what is in sight ---------------------------------------------------------------

-- In a list, the next process has the number next, and seen operations have been read; the processes that begin in the
-- list have numbers from from on, below to.
pub record Agrees (from to next seen : ℕ) (s : Scope) (v : NameSight) : Type 0 where
  pub format : s.format ≡ v.format
  pub own : s.own ≡ v.own
  pub parent : s.parent ≡ v.parent
  pub made : s.made ≡ v.made
  pub tops : Named 110 s.tops v.tops
  pub children : Named 110 s.children v.children
  pub monitors : Named 116 s.monitors v.monitors
  pub asks : Named 116 s.asks v.asks
  pub tops_low : (n : ℕ) → among n v.tops ≡ true → n < 4096
  pub children_low : (n : ℕ) → among n v.children ≡ true → n < next
  pub monitors_low : (n : ℕ) → among n v.monitors ≡ true → n < v.made
  pub asks_low : (n : ℕ) → among n v.asks ≡ true → n < v.made
  pub asks_known : (n : ℕ) → among n v.asks ≡ true → 2 ≤ v.format
  pub few : v.made ≤ seen
  pub apart : (n : ℕ) → from ≤ n → n < to → among n v.tops ≡ true → ⊥
  pub start : from ≤ next

or_found : (n : ℕ) (c d : Bool) → (c || d) ≡ true → or_number (if c then Some n else None) (if d then Some n else None) ≡ Some n
or_found n true d e = refl
or_found n false true e = refl
or_found n false false e = absurd (let f : false ≡ true = e in cc)

one_holds : (P : Type 0) (c d : Bool) → (c || d) ≡ true → (c ≡ true → P) → (d ≡ true → P) → P
one_holds P true d e f g = f refl
one_holds P false d e f g = g e

name_in : (s : Scope) (v : NameSight) (n : ℕ) → s.own ≡ v.own → s.parent ≡ v.parent → (a b c d : Bool) → (a ≡ true → v.own ≡ n) → (b ≡ true → v.parent ≡ Some n) → ((c || d) ≡ true → s.children (process_name n) ≡ (if c then Some n else None)) → ((c || d) ≡ true → s.tops (process_name n) ≡ (if d then Some n else None)) → (a || b || c || d) ≡ true → process_in s (if a then codes "self" else (if b then codes "parent" else process_name n)) ≡ Some n
name_in s v n own parent true b c d f g h k e = ap Some (own ∙ f refl)
name_in s v n own parent false true c d f g h k e = parent ∙ g refl
name_in s v n own parent false false c d f g h k e = rw (h e, k e) (or_found n c d e)

parent_is : (n : ℕ) (p : Option ℕ) → is_parent n p ≡ true → p ≡ Some n
parent_is n None e = absurd (let f : false ≡ true = e in cc)
parent_is n (Some k) e = ap Some ((Decides-eqb k n).0 e)

pub name_of : (from to next seen : ℕ) (s : Scope) (v : NameSight) → Agrees from to next seen s v → next ≤ 4096 → (n : ℕ) → sees v n ≡ true → IsCalled s (calls v.own v.parent) n
name_of from to next seen s v h low n e =
    let small : (among n v.children || among n v.tops) ≡ true → n < 2 ^ 64 = λ some. one_holds (n < 2 ^ 64) (among n v.children) (among n v.tops) some (λ i. omega (arith, h.children_low n i, low)) (λ i. omega (arith, h.tops_low n i)) in
    name_in s v n h.own h.parent (v.own == n) (is_parent n v.parent) (among n v.children) (among n v.tops) (Decides-eqb v.own n).0 (parent_is n v.parent) (λ some. h.children n (small some)) (λ some. h.tops n (small some)) e

name_if_any : (from to next seen : ℕ) (s : Scope) (v : NameSight) → Agrees from to next seen s v → next ≤ 4096 → (o : Option ℕ) → SeesIfAny v o → IsCalledIfAny s (calls v.own v.parent) o
name_if_any from to next seen s v h low None e = tt
name_if_any from to next seen s v h low (Some n) e = name_of from to next seen s v h low n e

monitor_of : (from to next seen : ℕ) (s : Scope) (v : NameSight) → Agrees from to next seen s v → seen ≤ 65536 → (tag : ℕ) → among tag v.monitors ≡ true → s.monitors (tag_name tag) ≡ Some tag
monitor_of from to next seen s v h low tag e = h.monitors tag (omega (arith, h.monitors_low tag e, h.few, low)) ∙ found_is tag v.monitors e

ask_of : (from to next seen : ℕ) (s : Scope) (v : NameSight) → Agrees from to next seen s v → seen ≤ 65536 → (tag : ℕ) → among tag v.asks ≡ true → s.asks (tag_name tag) ≡ Some tag
ask_of from to next seen s v h low tag e = h.asks tag (omega (arith, h.asks_low tag e, h.few, low)) ∙ found_is tag v.asks e

asking : (from to next seen : ℕ) (s : Scope) (v : NameSight) → Agrees from to next seen s v → 2 ≤ v.format → can_ask s ≡ true
asking from to next seen s v h e = rw h.format (grind (arith, e))

with_blocks : (from to next seen : ℕ) (s : Scope) (v : NameSight) → Agrees from to next seen s v → 3 ≤ v.format → has_blocks s ≡ true
with_blocks from to next seen s v h e = rw h.format (grind (arith, e))

pick_of : (from to next seen : ℕ) (s : Scope) (v : NameSight) → Agrees from to next seen s v → next ≤ 4096 → seen ≤ 65536 → (p : Pattern) → SeesAllOf v p → CanPick s (calls v.own v.parent) p
pick_of from to next seen s v h low few pattern.Any e = tt
pick_of from to next seen s v h low few (pattern.Kind kind) e = e
pick_of from to next seen s v h low few (pattern.From n) e = name_of from to next seen s v h low n e
pick_of from to next seen s v h low few (pattern.ExitOf n) e = name_of from to next seen s v h low n e
pick_of from to next seen s v h low few (pattern.DownOf tag) e = monitor_of from to next seen s v h few tag e
pick_of from to next seen s v h low few (pattern.AliveOf tag) e = (asking from to next seen s v h (h.asks_known tag e), ask_of from to next seen s v h few tag e)

new_tag_of : (from to next seen : ℕ) (s : Scope) (v : NameSight) → Agrees from to next seen s v → seen ≤ 65536 → (tag : ℕ) → tag ≡ v.made → IsNewTag s (calls v.own v.parent) tag
new_tag_of from to next seen s v h low tag e =
    let small : tag < 2 ^ 64 = omega (arith, e, h.few, low) in
    let no_monitor : s.monitors (tag_name tag) ≡ None = h.monitors tag small ∙ found_not tag v.monitors (λ i. omega (arith, h.monitors_low tag i, e)) in
    let no_ask : s.asks (tag_name tag) ≡ None = h.asks tag small ∙ found_not tag v.asks (λ i. omega (arith, h.asks_low tag i, e)) in
    (e ∙ sym h.made, has_form 116 is_tag_letter tag small, rw (no_monitor, no_ask) refl)

pub can_say : (from to next seen : ℕ) (s : Scope) (v : NameSight) → Agrees from to next seen s v → next ≤ 4096 → seen ≤ 65536 → (o : Operation) → CanDo v o → CanSay s (calls v.own v.parent) o
can_say from to next seen s v h low few (operation.Send n kind num who) e = (name_of from to next seen s v h low n e.0, e.1, e.2, name_if_any from to next seen s v h low who e.3)
can_say from to next seen s v h low few (operation.Receive p) e = pick_of from to next seen s v h low few p e
can_say from to next seen s v h low few (operation.Check p) e = pick_of from to next seen s v h low few p e
can_say from to next seen s v h low few (operation.Link n) e = name_of from to next seen s v h low n e
can_say from to next seen s v h low few (operation.Unlink n) e = name_of from to next seen s v h low n e
can_say from to next seen s v h low few (operation.Monitor n tag) e = (name_of from to next seen s v h low n e.0, new_tag_of from to next seen s v h few tag e.1)
can_say from to next seen s v h low few (operation.Demonitor tag flush) e = monitor_of from to next seen s v h few tag e
can_say from to next seen s v h low few (operation.Alive n tag) e = (asking from to next seen s v h e.0, name_of from to next seen s v h low n e.1, new_tag_of from to next seen s v h few tag e.2)
can_say from to next seen s v h low few (operation.Trap on) e = tt
can_say from to next seen s v h low few (operation.Exit reason) e = e
can_say from to next seen s v h low few (operation.Signal n reason) e = (name_of from to next seen s v h low n e.0, e.1)
can_say from to next seen s v h low few (operation.Spawn process linked) e = absurd e
can_say from to next seen s v h low few operation.Pass e = tt
can_say from to next seen s v h low few (operation.ReceiveAfter p tries) e = (with_blocks from to next seen s v h e.0, pick_of from to next seen s v h low few p e.1, e.2)
can_say from to next seen s v h low few (operation.If p) e = (with_blocks from to next seen s v h e.0, pick_of from to next seen s v h low few p e.1)
can_say from to next seen s v h low few operation.Else e = with_blocks from to next seen s v h e
can_say from to next seen s v h low few operation.End e = with_blocks from to next seen s v h e
can_say from to next seen s v h low few (operation.Repeat times) e = (with_blocks from to next seen s v h e.0, e.1, e.2)
can_say from to next seen s v h low few operation.Again e = with_blocks from to next seen s v h e

-- what is in sight behind an operation -----------------------------------------------

low_more : (made : ℕ) (ks : List ℕ) → ((n : ℕ) → among n ks ≡ true → n < made) → (n : ℕ) → among n (made ∷ ks) ≡ true → n < made + 1
low_more made ks h n e = one_holds (n < made + 1) (made == n) (among n ks) e (λ i. omega (arith, (Decides-eqb made n).0 i)) (λ i. omega (arith, h n i))

pub later : (from to next seen more : ℕ) (s : Scope) (v : NameSight) → Agrees from to next seen s v → seen ≤ more → Agrees from to next more s v
later from to next seen more s v h le = record {
  format = h.format;
  own = h.own;
  parent = h.parent;
  made = h.made;
  tops = h.tops;
  children = h.children;
  monitors = h.monitors;
  asks = h.asks;
  tops_low = h.tops_low;
  children_low = h.children_low;
  monitors_low = h.monitors_low;
  asks_low = h.asks_low;
  asks_known = h.asks_known;
  few = omega (arith, h.few, le);
  apart = h.apart;
  start = h.start;
}

pub monitored : (from to next seen : ℕ) (s : Scope) (v : NameSight) → Agrees from to next seen s v → seen ≤ 65536 → (n tag : ℕ) → tag ≡ v.made → Agrees from to next (seen + 1) (with_monitor s (tag_name tag)) (sight_behind v (operation.Monitor n tag))
monitored from to next seen s v h low n tag e = record {
  format = h.format;
  own = h.own;
  parent = h.parent;
  made = ap (λ k. k + 1) h.made;
  tops = h.tops;
  children = h.children;
  monitors = named_more 116 s.monitors v.monitors tag s.made v.made e h.made (omega (arith, h.few, low)) h.monitors;
  asks = h.asks;
  tops_low = h.tops_low;
  children_low = h.children_low;
  monitors_low = low_more v.made v.monitors h.monitors_low;
  asks_low = λ k i. omega (arith, h.asks_low k i);
  asks_known = h.asks_known;
  few = omega (arith, h.few);
  apart = h.apart;
  start = h.start;
}

pub asked : (from to next seen : ℕ) (s : Scope) (v : NameSight) → Agrees from to next seen s v → seen ≤ 65536 → (n tag : ℕ) → 2 ≤ v.format → tag ≡ v.made → Agrees from to next (seen + 1) (with_ask s (tag_name tag)) (sight_behind v (operation.Alive n tag))
asked from to next seen s v h low n tag some e = record {
  format = h.format;
  own = h.own;
  parent = h.parent;
  made = ap (λ k. k + 1) h.made;
  tops = h.tops;
  children = h.children;
  monitors = h.monitors;
  asks = named_more 116 s.asks v.asks tag s.made v.made e h.made (omega (arith, h.few, low)) h.asks;
  tops_low = h.tops_low;
  children_low = h.children_low;
  monitors_low = λ k i. omega (arith, h.monitors_low k i);
  asks_low = low_more v.made v.asks h.asks_low;
  asks_known = λ k i. some;
  few = omega (arith, h.few);
  apart = h.apart;
  start = h.start;
}

-- an operation that spawns nothing
pub agrees_behind : (from to next seen : ℕ) (s : Scope) (v : NameSight) → Agrees from to next seen s v → seen ≤ 65536 → (o : Operation) → CanDo v o → Agrees from to next (seen + 1) (scope_behind s (calls v.own v.parent) o) (sight_behind v o)
agrees_behind from to next seen s v h low (operation.Monitor n tag) e = monitored from to next seen s v h low n tag e.1
agrees_behind from to next seen s v h low (operation.Alive n tag) e = asked from to next seen s v h low n tag e.0 e.2
agrees_behind from to next seen s v h low (operation.Spawn process linked) e = absurd e
agrees_behind from to next seen s v h low _ e = later from to next seen (seen + 1) s v h (omega arith)

-- a spawn
pub spawned_in : (from to next seen more size : ℕ) (s : Scope) (v : NameSight) → Agrees from to next seen s v → next < 4096 → seen ≤ more → (linked : Bool) → Agrees from to (next + (size + 1)) more (with_child s (process_name next) next) (sight_behind v (operation.Spawn next linked))
spawned_in from to next seen more size s v h low le linked = record {
  format = h.format;
  own = h.own;
  parent = h.parent;
  made = h.made;
  tops = h.tops;
  children = named_more 110 s.children v.children next next next refl refl (omega (arith, low)) h.children;
  monitors = h.monitors;
  asks = h.asks;
  tops_low = h.tops_low;
  children_low = λ k i. one_holds (k < next + (size + 1)) (next == k) (among k v.children) i (λ j. omega (arith, (Decides-eqb next k).0 j)) (λ j. omega (arith, h.children_low k j));
  monitors_low = h.monitors_low;
  asks_low = h.asks_low;
  asks_known = h.asks_known;
  few = omega (arith, h.few, le);
  apart = h.apart;
  start = omega (arith, h.start);
}

-- the list of a spawned process
pub begun_in_sight : (from to next seen : ℕ) (s : Scope) (v : NameSight) → Agrees from to next seen s v → Agrees from to (next + 1) (seen + 1) (fresh_scope s.format next (Some s.own) s.tops) (first_sight v.format next (Some v.own) v.tops)
begun_in_sight from to next seen s v h = record {
  format = h.format;
  own = refl;
  parent = ap Some h.own;
  made = refl;
  tops = h.tops;
  children = λ n small. refl;
  monitors = λ n small. refl;
  asks = λ n small. refl;
  tops_low = h.tops_low;
  children_low = λ k i. absurd (let e : false ≡ true = i in cc);
  monitors_low = λ k i. absurd (let e : false ≡ true = i in cc);
  asks_low = λ k i. absurd (let e : false ≡ true = i in cc);
  asks_known = λ k i. absurd (let e : false ≡ true = i in cc);
  few = omega arith;
  apart = h.apart;
  start = omega (arith, h.start);
}

-- the name of a process that is spawned next is new
pub new_name_of : (from to next seen : ℕ) (s : Scope) (v : NameSight) → Agrees from to next seen s v → next < to → next < 4096 → process_in s (process_name next) ≡ None
new_name_of from to next seen s v h inside low =
    let small : next < 2 ^ 64 = omega (arith, low) in
    let no_child : s.children (process_name next) ≡ None = h.children next small ∙ found_not next v.children (λ i. omega (arith, h.children_low next i)) in
    let no_top : s.tops (process_name next) ≡ None = h.tops next small ∙ found_not next v.tops (h.apart next h.start inside) in
    rw (no_child, no_top) refl
