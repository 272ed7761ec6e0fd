-- Values that were read from a text: their numbers have 64 bits.
use Rattle.std.proofs.Common.{◌≡◌, ℕ, zero, suc, ◌<◌, ◌≤◌, ◌^◌, pos, List, [], ◌∷◌, Bool, true, false, Option, Some, None, option_map, option_and_then, Result, Ok, Err, Ordering, Less, Equal, Greater, refl, arith}
use Rattle.std.specs.Prelude.{IfOk, slice_index, drop, if◌then◌else◌, nat_lt, nat_le, ◌&&◌, ◌==◌}
use Rattle.std.specs.Float.{binary64, float_is_finite}
use Rattle.std.specs.Ordering.{match_ordering, nat_cmp}
use Rattle.std.specs.Cmp.Lexicographic.{slice_cmp}
use Rattle.fast_float.specs.Text.{minus, Parts, scan, digits_of, nearest, with_sign}
use Rattle.json.specs.Json as json
use Rattle.json.specs.Lex.{tokens}
use Rattle.serde_json.specs.Data.{Num, unsigned, negative, float, Data, null, boolean, number, string, array, object, Items, no_items, item, Members, no_members, member, put}
use Rattle.serde_json.specs.Find.{get, get_member}
use Rattle.serde_json.specs.Read.{number_of, number_from, float_of, is_integer, of_json, of_items, of_members, max_depth, read}
use Rattle.pt_script.specs.declared.fault.Fault.{Fault}
use Rattle.pt_script.specs.declared.fault.Fault.TheVariants.{Bounds}
use Rattle.pt_script.specs.Members.{required, signed, list, data_of}
use Rattle.pt_script.specs.Writing.{FitsSigned}
use Rattle.pt_script.proofs.SoundSteps.{either}

pub whether : {A : Type 0} (P : A → Type 0) (b : Bool) (x y : A) → (b ≡ true → P x) → (b ≡ false → P y) → P (if b then x else y)
whether P true x y h k = h refl
whether P false x y h k = k refl

abbrev pub NumIsRead : Num → Type 0
NumIsRead (unsigned n) = Unit {0}
NumIsRead (negative z) = FitsSigned z
NumIsRead (float x) = Unit {0}

abbrev mutual
  pub IsRead : Data → Type 0
  IsRead null = Unit {0}
  IsRead (boolean b) = Unit {0}
  IsRead (number n) = NumIsRead n
  IsRead (string s) = Unit {0}
  IsRead (array ds) = ItemsRead ds
  IsRead (object ms) = MembersRead ms

  pub ItemsRead : Items → Type 0
  ItemsRead no_items = Unit {0}
  ItemsRead (item d ds) = IsRead d × ItemsRead ds

  pub MembersRead : Members → Type 0
  MembersRead no_members = Unit {0}
  MembersRead (member k d ms) = IsRead d × MembersRead ms

abbrev pub AllRead : List Data → Type 0
AllRead [] = Unit {0}
AllRead (d ∷ ds) = IsRead d × AllRead ds

-- where there is something, it is so
abbrev pub IfAny : {A : Type 0} → (A → Type 0) → Option A → Type 0
IfAny P None = Unit {0}
IfAny P (Some a) = P a

any_map : {A B : Type 0} (P : A → Type 0) (Q : B → Type 0) (f : A → B) → ((a : A) → P a → Q (f a)) → (o : Option A) → IfAny P o → IfAny Q (option_map f o)
any_map P Q f h None x = tt
any_map P Q f h (Some a) x = h a x

any_then : {A B : Type 0} (P : A → Type 0) (Q : B → Type 0) (f : A → Option B) → ((a : A) → P a → IfAny Q (f a)) → (o : Option A) → IfAny P o → IfAny Q (option_and_then f o)
any_then P Q f h None x = tt
any_then P Q f h (Some a) x = h a x

-- reading --------------------------------------------------------------------------

fits_negative : (n : ℕ) → n ≤ 2 ^ 63 → 0 < n → FitsSigned (with_sign true n)
fits_negative zero le some = absurd (omega (arith, some))
fits_negative (suc n) le some = omega (arith, le)

low_test : (a : Bool) (n : ℕ) → (a && nat_lt 0 n && nat_le n (2 ^ 63)) ≡ true → (n ≤ 2 ^ 63) × (0 < n)
low_test true n h = (grind (arith, h), grind (arith, h))
low_test false n h = absurd (let e : false ≡ true = h in cc)

float_read : (sign : Bool) (p : Parts) → IfAny NumIsRead (float_of sign p)
float_read sign p = either (IfAny NumIsRead) (float_is_finite (nearest binary64 sign p)) (Some (float (nearest binary64 sign p))) None tt tt

from_read : (sign : Bool) (p : Parts) → IfAny NumIsRead (number_from sign p)
from_read false p = either (IfAny NumIsRead) (is_integer p && nat_lt (digits_of p) (2 ^ 64)) (Some (unsigned (digits_of p))) (float_of false p) tt (float_read false p)
from_read true p = whether (IfAny NumIsRead) (is_integer p && nat_lt 0 (digits_of p) && nat_le (digits_of p) (2 ^ 63)) (Some (negative (with_sign true (digits_of p)))) (float_of true p) (λ e. let low = low_test (is_integer p) (digits_of p) e in fits_negative (digits_of p) low.0 low.1) (λ e. float_read true p)

number_read : (s : List ℕ) → IfAny NumIsRead (number_of s)
unfolding number_of
number_read s = either (IfAny NumIsRead) (slice_index s 0 == minus) (number_from true (scan (drop 1 s))) (number_from false (scan s)) (from_read true (scan (drop 1 s))) (from_read false (scan s))

by_order : (o : Ordering) (a b c : Members) → MembersRead a → MembersRead b → MembersRead c → MembersRead (match_ordering o a b c)
by_order Less a b c p q r = p
by_order Equal a b c p q r = q
by_order Greater a b c p q r = r

put_read : (k : List ℕ) (d : Data) (ms : Members) → IsRead d → MembersRead ms → MembersRead (put k d ms)
put_read k d no_members h g = (h, tt)
put_read k d (member l e ms) h g = by_order (slice_cmp nat_cmp k l) (member k d (member l e ms)) (member l d ms) (member l e (put k d ms)) (h, g) (h, g.1) (g.0, put_read k d ms h g.1)

mutual
  json_read : (j : json.Json) → IfAny IsRead (of_json j)
  json_read json.null = tt
  json_read (json.boolean b) = tt
  json_read (json.number s) = any_map NumIsRead IsRead number (λ n h. h) (number_of s) (number_read s)
  json_read (json.string s) = tt
  json_read (json.array js) = any_map ItemsRead IsRead array (λ ds h. h) (of_items js) (items_read js)
  json_read (json.object ms) = any_map MembersRead IsRead object (λ ms h. h) (of_members ms no_members) (members_read ms no_members tt)

  items_read : (js : json.Items) → IfAny ItemsRead (of_items js)
  items_read json.no_items = tt
  items_read (json.item j js) = any_then IsRead ItemsRead (λ d. option_map (item d) (of_items js)) (λ d h. any_map ItemsRead ItemsRead (item d) (λ ds g. (h, g)) (of_items js) (items_read js)) (of_json j) (json_read j)

  members_read : (ms : json.Members) (found : Members) → MembersRead found → IfAny MembersRead (of_members ms found)
  members_read json.no_members found h = h
  members_read (json.member name j ms) found h = any_then IsRead MembersRead (λ d. of_members ms (put name d found)) (λ d g. members_read ms (put name d found) (put_read name d found g h)) (of_json j) (json_read j)

pub is_read : (text : List ℕ) → IfAny IsRead (read text)
is_read text = any_then (λ (j : json.Json). Unit {0}) IsRead of_json (λ j u. json_read j) (option_and_then (λ p. json.if_last p.0 p.1) (json.value max_depth (tokens text))) (any (option_and_then (λ p. json.if_last p.0 p.1) (json.value max_depth (tokens text))))
  where
    any : (o : Option json.Json) → IfAny (λ (j : json.Json). Unit {0}) o
    any None = tt
    any (Some j) = tt

-- members ---------------------------------------------------------------------------

any_order : (o : Ordering) (a b c : Option Data) → IfAny IsRead a → IfAny IsRead b → IfAny IsRead c → IfAny IsRead (match_ordering o a b c)
any_order Less a b c p q r = p
any_order Equal a b c p q r = q
any_order Greater a b c p q r = r

member_read : (k : List ℕ) (ms : Members) → MembersRead ms → IfAny IsRead (get_member k ms)
member_read k no_members h = tt
member_read k (member l e ms) h = any_order (slice_cmp nat_cmp k l) (get_member k ms) (Some e) (get_member k ms) (member_read k ms h.1) h.0 (member_read k ms h.1)

get_read : (k : List ℕ) (d : Data) → IsRead d → IfAny IsRead (get k d)
get_read k null h = tt
get_read k (boolean b) h = tt
get_read k (number n) h = tt
get_read k (string s) h = tt
get_read k (array ds) h = tt
get_read k (object ms) h = member_read k ms h

items_all : (ds : Items) → ItemsRead ds → AllRead (data_of ds)
items_all no_items h = tt
items_all (item d ds) h = (h.0, items_all ds h.1)

list_read : (d : Data) → IsRead d → IfOk (list d) AllRead
list_read null h = tt
list_read (boolean b) h = tt
list_read (number n) h = tt
list_read (string s) h = tt
list_read (array ds) h = items_all ds h
list_read (object ms) h = tt

signed_fits : (d : Data) → IsRead d → IfOk (signed d) FitsSigned
signed_fits null h = tt
signed_fits (boolean b) h = tt
signed_fits (number (unsigned n)) h = whether (λ r. IfOk r FitsSigned) (nat_lt n (2 ^ 63)) (Ok (pos n)) (Err Bounds) (λ e. grind (arith, e)) (λ e. tt)
signed_fits (number (negative z)) h = h
signed_fits (number (float x)) h = tt
signed_fits (string s) h = tt
signed_fits (array ds) h = tt
signed_fits (object ms) h = tt

needed : {A : Type 0} (P : A → Type 0) (of : Data → Result A Fault) (o : Option Data) → IfAny IsRead o → ((d : Data) → IsRead d → IfOk (of d) P) → IfOk (required of o) P
needed P of None h f = tt
needed P of (Some d) h f = f d h

pub list_at_read : (k : List ℕ) (d : Data) → IsRead d → IfOk (required list (get k d)) AllRead
list_at_read k d h = needed AllRead list (get k d) (get_read k d h) list_read

pub signed_at_fits : (k : List ℕ) (d : Data) → IsRead d → IfOk (required signed (get k d)) FitsSigned
signed_at_fits k d h = needed FitsSigned signed (get k d) (get_read k d h) signed_fits
