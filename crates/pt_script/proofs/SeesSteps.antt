-- What single operations say is in sight.
use Rattle.std.proofs.Common.{◌≡◌, ℕ, ◌+◌, ◌<◌, ◌≤◌, ◌^◌, List, [], ◌∷◌, Bool, true, false, drop, take, Option, Some, None, Result, Ok, Err, refl, ap, sym, subst, ◌∙◌, arith}
use Rattle.std.specs.Prelude.{IfOk, codes, ok_or, if◌then◌else◌, nat_lt, ◌&&◌, ◌||◌, ◌==◌}
use Rattle.std.specs.Str.{bytes_eq}
use Rattle.std.specs.Str.Parse.{digits_value}
use Rattle.std.proofs.lemmas.Bool.Decides.{Decides-eqb}
use Rattle.serde_json.specs.Data.{Data}
use Rattle.serde_json.specs.Find.{get}
use Rattle.pt_signal.specs.declared.reason.Reason.{Reason}
use Rattle.pt_signal.specs.declared.reason.Reason.TheVariants.{Normal, Kill, Killed, Noproc, Shutdown, Other}
use Rattle.pt_script.specs.declared.fault.Fault.{Fault}
use Rattle.pt_script.specs.declared.fault.Fault.TheVariants.{Name, Field, Bounds}
use Rattle.pt_script.specs.declared.values.Operation.{Operation}
use Rattle.pt_script.specs.declared.values.Operation.TheVariants as operation
use Rattle.pt_script.specs.declared.values.Pattern.{Pattern}
use Rattle.pt_script.specs.declared.values.Pattern.TheVariants as pattern
use Rattle.pt_script.specs.Steps.{◌>>=◌}
use Rattle.pt_script.specs.Members.{known_members, whole_number, required, optional_member, text, signed, flag}
use Rattle.pt_script.specs.Operations.{process, maybe_process, monitor_tag, ask_tag, new_tag, is_decimal, number_read, other_reason, reason_written, reason, kind, one_pick, pick, pick_members, send, receive_members, tries, received, receive, check, link, unlink, demonitor, trap, exit, signal, pass, branch, otherwise, branch_end, repeat, again, block_mark, tagged, plain}
use Rattle.pt_script.specs.Scopes.{Scope, can_ask, has_blocks, process_in, or_number}
use Rattle.pt_script.specs.Lists.{simple, named_operation, with_monitor, with_ask}
use Rattle.pt_script.specs.Sights.{NameSight, among, is_parent, sees, SeesIfAny, SeesAllOf, CanDo, sight_behind}
use Rattle.pt_script.specs.Writing.{WritesReason, FitsSigned}
use Rattle.pt_script.proofs.ReadValues.{IsRead, signed_at_fits, whether}
use Rattle.pt_script.proofs.ObjectFacts.{known_missing}
use Rattle.pt_script.proofs.SoundSteps.{bind, skip, where_ok, either, required_ok, optional_ok}
use Rattle.pt_script.proofs.SoundScripts.{Between, whole_in, needed_in, imply}

-- numbers in their ranges ----------------------------------------------------------

abbrev IsSmall : ℕ → Type 0
IsSmall n = n < 2 ^ 32

kind_low : (d : Data) → IfOk (kind d) IsSmall
kind_low d = imply (Between 0 4294967295) IsSmall (kind d) (whole_in 0 4294967295 d) (λ n h. omega (arith, h.1))

number_low : (bs : List ℕ) → IfOk (number_read bs) IsSmall
number_low bs =
    let P : Result ℕ Fault → Type 0 = λ r. IfOk r IsSmall in
    either P (is_decimal bs) (if nat_lt (digits_value 10 bs) (2 ^ 32) then Ok (digits_value 10 bs) else Err Bounds) (Err Field) (whether P (nat_lt (digits_value 10 bs) (2 ^ 32)) (Ok (digits_value 10 bs)) (Err Bounds) (λ small. grind (arith, small)) (λ big. tt)) tt

reason_low : (t : List ℕ) → IfOk (reason_written t) WritesReason
reason_low t =
    let P : Result Reason Fault → Type 0 = λ r. IfOk r WritesReason in
    let last : Result Reason Fault = other_reason t in
    let e4 : Result Reason Fault = if bytes_eq t (codes "shutdown") then Ok Shutdown else last in
    let e3 : Result Reason Fault = if bytes_eq t (codes "noproc") then Ok Noproc else e4 in
    let e2 : Result Reason Fault = if bytes_eq t (codes "killed") then Ok Killed else e3 in
    let e1 : Result Reason Fault = if bytes_eq t (codes "kill") then Ok Kill else e2 in
    either P (bytes_eq t (codes "normal")) (Ok Normal) e1 tt
    (either P (bytes_eq t (codes "kill")) (Ok Kill) e2 tt
    (either P (bytes_eq t (codes "killed")) (Ok Killed) e3 tt
    (either P (bytes_eq t (codes "noproc")) (Ok Noproc) e4 tt
    (either P (bytes_eq t (codes "shutdown")) (Ok Shutdown) last tt
    (either P (bytes_eq (take 6 t) (codes "other:")) (number_read (drop 6 t) >>= λ n. Ok (Other n)) (Err Field) (bind IsSmall WritesReason (number_read (drop 6 t)) (λ n. Ok (Other n)) (number_low (drop 6 t)) (λ n h. h)) tt)))))

reason_fits : (d : Data) → IfOk (reason d) WritesReason
reason_fits d = skip WritesReason (text d) (λ t. reason_written t) reason_low

-- scopes ------------------------------------------------------------------------------

-- what a name stands for is among these
abbrev pub IsIn : List ℕ → Option ℕ → Type 0
IsIn ks None = Unit {0}
IsIn ks (Some n) = among n ks ≡ true

-- all that has a name in the scope is in sight
pub record ScopeSees (v : NameSight) (s : Scope) : Type 0 where
  pub format : s.format ≡ v.format
  pub own : s.own ≡ v.own
  pub parent : s.parent ≡ v.parent
  pub made : s.made ≡ v.made
  pub tops : (q : List ℕ) → IsIn v.tops (s.tops q)
  pub children : (q : List ℕ) → IsIn v.children (s.children q)
  pub monitors : (q : List ℕ) → IsIn v.monitors (s.monitors q)
  pub asks : (q : List ℕ) → IsIn v.asks (s.asks q)

pub in_here : (k : ℕ) (ks : List ℕ) → among k (k ∷ ks) ≡ true
in_here k ks = rw ((Decides-eqb k k).1 refl) refl

pub in_later : (k : ℕ) (ks : List ℕ) (o : Option ℕ) → IsIn ks o → IsIn (k ∷ ks) o
in_later k ks None h = tt
in_later k ks (Some n) h = by_test (k == n)
  where
    by_test : (b : Bool) → (b || among n ks) ≡ true
    by_test true = refl
    by_test false = h

third : (a b d : Bool) → (a || b || true || d) ≡ true
third true b d = refl
third false true d = refl
third false false d = refl

fourth : (a b c : Bool) → (a || b || c || true) ≡ true
fourth true b c = refl
fourth false true c = refl
fourth false false true = refl
fourth false false false = refl

second : (a c d : Bool) → (a || true || c || d) ≡ true
second true c d = refl
second false c d = refl

sees_own : (v : NameSight) (n : ℕ) → n ≡ v.own → sees v n ≡ true
sees_own v n e = rw ((Decides-eqb v.own n).1 (sym e)) refl

sees_parent : (v : NameSight) (p : Option ℕ) → p ≡ v.parent → SeesIfAny v p
sees_parent v None e = tt
sees_parent v (Some n) e =
    let is : is_parent n v.parent ≡ true = ap (is_parent n) (sym e) ∙ (Decides-eqb n n).1 refl in
    rw is (second (v.own == n) (among n v.children) (among n v.tops))

sees_children : (v : NameSight) (o : Option ℕ) → IsIn v.children o → SeesIfAny v o
sees_children v None h = tt
sees_children v (Some n) h = rw h (third (v.own == n) (is_parent n v.parent) (among n v.tops))

sees_tops : (v : NameSight) (o : Option ℕ) → IsIn v.tops o → SeesIfAny v o
sees_tops v None h = tt
sees_tops v (Some n) h = rw h (fourth (v.own == n) (is_parent n v.parent) (among n v.children))

one_of : (v : NameSight) (a b : Option ℕ) → SeesIfAny v a → SeesIfAny v b → SeesIfAny v (or_number a b)
one_of v (Some k) b h g = h
one_of v None b h g = g

named_seen : (v : NameSight) (s : Scope) → ScopeSees v s → (q : List ℕ) → SeesIfAny v (process_in s q)
named_seen v s h q = either (SeesIfAny v) (bytes_eq q (codes "self")) (Some s.own) (if bytes_eq q (codes "parent") then s.parent else or_number (s.children q) (s.tops q)) (sees_own v s.own h.own) (either (SeesIfAny v) (bytes_eq q (codes "parent")) s.parent (or_number (s.children q) (s.tops q)) (sees_parent v s.parent h.parent) (one_of v (s.children q) (s.tops q) (sees_children v (s.children q) (h.children q)) (sees_tops v (s.tops q) (h.tops q))))

abbrev Seen : NameSight → ℕ → Type 0
Seen v n = sees v n ≡ true

abbrev IsMonitor : NameSight → ℕ → Type 0
IsMonitor v n = among n v.monitors ≡ true

abbrev IsAsk : NameSight → ℕ → Type 0
IsAsk v n = among n v.asks ≡ true

seen_found : (v : NameSight) (o : Option ℕ) (e : Fault) → SeesIfAny v o → IfOk (ok_or o e) (Seen v)
seen_found v (Some k) e h = h
seen_found v None e h = tt

in_found : (ks : List ℕ) (o : Option ℕ) (e : Fault) → IsIn ks o → IfOk (ok_or o e) (λ n. among n ks ≡ true)
in_found ks (Some k) e h = h
in_found ks None e h = tt

process_seen : (v : NameSight) (s : Scope) → ScopeSees v s → (d : Data) → IfOk (process s d) (Seen v)
process_seen v s h d = skip (Seen v) (text d) (λ q. ok_or (process_in s q) Name) (λ q. seen_found v (process_in s q) Name (named_seen v s h q))

maybe_seen : (v : NameSight) (s : Scope) → ScopeSees v s → (d : Data) → IfOk (maybe_process s d) (SeesIfAny v)
maybe_seen v s h d = bind (Seen v) (SeesIfAny v) (process s d) (λ k. Ok (Some k)) (process_seen v s h d) (λ k i. i)

monitor_seen : (v : NameSight) (s : Scope) → ScopeSees v s → (d : Data) → IfOk (monitor_tag s d) (IsMonitor v)
monitor_seen v s h d = skip (IsMonitor v) (text d) (λ q. ok_or (s.monitors q) Name) (λ q. in_found v.monitors (s.monitors q) Name (h.monitors q))

ask_seen : (v : NameSight) (s : Scope) → ScopeSees v s → (d : Data) → IfOk (ask_tag s d) (IsAsk v)
ask_seen v s h d = skip (IsAsk v) (text d) (λ q. ok_or (s.asks q) Name) (λ q. in_found v.asks (s.asks q) Name (h.asks q))

-- formats --------------------------------------------------------------------------------

format_two : (v : NameSight) (s : Scope) (b : Bool) → s.format ≡ v.format → (b && can_ask s) ≡ true → 2 ≤ v.format
format_two v s true e h = subst (λ n. 2 ≤ n) e (grind (arith, h))
format_two v s false e h = absurd (let f : false ≡ true = h in cc)

format_three : (v : NameSight) (s : Scope) → s.format ≡ v.format → has_blocks s ≡ true → 3 ≤ v.format
format_three v s e h = subst (λ n. 3 ≤ n) e (grind (arith, h))

-- operations --------------------------------------------------------------------------

-- it can be done, and what is in sight stays
abbrev Plain : NameSight → Operation → Type 0
Plain v o = CanDo v o × (sight_behind v o ≡ v)

abbrev ToSeen : NameSight → ℕ × List ℕ → Type 0
ToSeen v m = sees v m.0 ≡ true

to_ok : (v : NameSight) (s : Scope) → ScopeSees v s → (m : Option Data) → IfOk (required (process s) m) (Seen v)
to_ok v s h m = required_ok (Seen v) (process s) m (process_seen v s h)

one_pick_sees : (v : NameSight) (s : Scope) → ScopeSees v s → (a b c d e : Option Data) → IfOk (one_pick s a b c d e) (SeesAllOf v)
one_pick_sees v s h (Some a) None None None None = bind IsSmall (SeesAllOf v) (kind a) (λ k. Ok (pattern.Kind k)) (kind_low a) (λ k i. i)
one_pick_sees v s h None (Some b) None None None = bind (Seen v) (SeesAllOf v) (process s b) (λ k. Ok (pattern.From k)) (process_seen v s h b) (λ k i. i)
one_pick_sees v s h None None (Some c) None None = bind (Seen v) (SeesAllOf v) (process s c) (λ k. Ok (pattern.ExitOf k)) (process_seen v s h c) (λ k i. i)
one_pick_sees v s h None None None (Some d) None = bind (IsMonitor v) (SeesAllOf v) (monitor_tag s d) (λ k. Ok (pattern.DownOf k)) (monitor_seen v s h d) (λ k i. i)
one_pick_sees v s h None None None None (Some e) = bind (IsAsk v) (SeesAllOf v) (ask_tag s e) (λ k. Ok (pattern.AliveOf k)) (ask_seen v s h e) (λ k i. i)
one_pick_sees v s h _ _ _ _ _ = tt

pick_sees : (v : NameSight) (s : Scope) → ScopeSees v s → (d : Data) → IfOk (pick s d) (SeesAllOf v)
unfolding pick
pick_sees v s h d = skip (SeesAllOf v) (known_members (pick_members (can_ask s)) d) (λ u. one_pick s (get (codes "kind") d) (get (codes "from") d) (get (codes "exit") d) (get (codes "down") d) (get (codes "alive") d)) (λ _. one_pick_sees v s h (get (codes "kind") d) (get (codes "from") d) (get (codes "exit") d) (get (codes "down") d) (get (codes "alive") d))

send_sees : (v : NameSight) (s : Scope) → ScopeSees v s → (d : Data) → IsRead d → IfOk (send s d) (Plain v)
unfolding send
send_sees v s h d is = skip (Plain v) (known_members (codes "op" ∷ codes "to" ∷ codes "kind" ∷ codes "num" ∷ codes "who" ∷ []) d) (λ u. (required (process s) (get (codes "to") d) >>= λ to. (required kind (get (codes "kind") d) >>= λ k. (required signed (get (codes "num") d) >>= λ num. (optional_member None (maybe_process s) (get (codes "who") d) >>= λ who. Ok (operation.Send to k num who))))))
    (λ u. bind (Seen v) (Plain v) (required (process s) (get (codes "to") d)) (λ to. (required kind (get (codes "kind") d) >>= λ k. (required signed (get (codes "num") d) >>= λ num. (optional_member None (maybe_process s) (get (codes "who") d) >>= λ who. Ok (operation.Send to k num who))))) (to_ok v s h (get (codes "to") d))
    (λ to to_in. bind IsSmall (Plain v) (required kind (get (codes "kind") d)) (λ k. (required signed (get (codes "num") d) >>= λ num. (optional_member None (maybe_process s) (get (codes "who") d) >>= λ who. Ok (operation.Send to k num who)))) (required_ok IsSmall kind (get (codes "kind") d) kind_low)
    (λ k k_in. bind FitsSigned (Plain v) (required signed (get (codes "num") d)) (λ num. (optional_member None (maybe_process s) (get (codes "who") d) >>= λ who. Ok (operation.Send to k num who))) (signed_at_fits (codes "num") d is)
    (λ num num_in. bind (SeesIfAny v) (Plain v) (optional_member None (maybe_process s) (get (codes "who") d)) (λ who. Ok (operation.Send to k num who)) (optional_ok (SeesIfAny v) None (maybe_process s) (get (codes "who") d) tt (maybe_seen v s h))
    (λ who who_in. ((to_in, k_in, num_in, who_in), refl))))))

-- how many tries a receive has at most, where it says so: format 3 knows it
abbrev Tries : NameSight → Option ℕ → Type 0
Tries v None = Unit {0}
Tries v (Some n) = (3 ≤ v.format) × (n ≤ 65536)

tries_fit : (v : NameSight) (s : Scope) → s.format ≡ v.format → (d : Data) (b : Bool) → has_blocks s ≡ b → known_members (receive_members b) d ≡ Ok tt → IfOk (optional_member None tries (get (codes "after") d)) (Tries v)
tries_fit v s e d true is known = optional_ok (Tries v) None tries (get (codes "after") d) tt (λ a. bind (Between 0 65536) (Tries v) (whole_number 0 65536 a) (λ n. Ok (Some n)) (whole_in 0 65536 a) (λ n i. (format_three v s e is, i.1)))
tries_fit v s e d false is known = rw (known_missing (codes "op" ∷ codes "pick" ∷ []) (codes "after") d refl known) tt

received_sees : (v : NameSight) (p : Pattern) → SeesAllOf v p → (after : Option ℕ) → Tries v after → Plain v (received p after)
received_sees v p p_in None few = (p_in, refl)
received_sees v p p_in (Some n) few = ((few.0, p_in, few.1), refl)

receive_sees : (v : NameSight) (s : Scope) → ScopeSees v s → (d : Data) → IfOk (receive s d) (Plain v)
unfolding receive
receive_sees v s h d =
    let Known : Unit {0} → Type 0 = λ u. known_members (receive_members (has_blocks s)) d ≡ Ok u in
    bind Known (Plain v) (known_members (receive_members (has_blocks s)) d) (λ u. (optional_member pattern.Any (pick s) (get (codes "pick") d) >>= λ p. (optional_member None tries (get (codes "after") d) >>= λ after. Ok (received p after)))) (where_ok Known (known_members (receive_members (has_blocks s)) d) (λ u e. e))
    (λ u known. bind (SeesAllOf v) (Plain v) (optional_member pattern.Any (pick s) (get (codes "pick") d)) (λ p. (optional_member None tries (get (codes "after") d) >>= λ after. Ok (received p after))) (optional_ok (SeesAllOf v) pattern.Any (pick s) (get (codes "pick") d) tt (pick_sees v s h))
    (λ p p_in. bind (Tries v) (Plain v) (optional_member None tries (get (codes "after") d)) (λ after. Ok (received p after)) (tries_fit v s h.format d (has_blocks s) refl known)
    (λ after few. received_sees v p p_in after few)))

check_sees : (v : NameSight) (s : Scope) → ScopeSees v s → (d : Data) → IfOk (check s d) (Plain v)
unfolding check
check_sees v s h d = skip (Plain v) (known_members (codes "op" ∷ codes "pick" ∷ []) d) (λ u. (optional_member pattern.Any (pick s) (get (codes "pick") d) >>= λ p. Ok (operation.Check p)))
    (λ u. bind (SeesAllOf v) (Plain v) (optional_member pattern.Any (pick s) (get (codes "pick") d)) (λ p. Ok (operation.Check p)) (optional_ok (SeesAllOf v) pattern.Any (pick s) (get (codes "pick") d) tt (pick_sees v s h))
    (λ p p_in. (p_in, refl)))

link_sees : (v : NameSight) (s : Scope) → ScopeSees v s → (d : Data) → IfOk (link s d) (Plain v)
unfolding link
link_sees v s h d = skip (Plain v) (known_members (codes "op" ∷ codes "to" ∷ []) d) (λ u. (required (process s) (get (codes "to") d) >>= λ to. Ok (operation.Link to)))
    (λ u. bind (Seen v) (Plain v) (required (process s) (get (codes "to") d)) (λ to. Ok (operation.Link to)) (to_ok v s h (get (codes "to") d))
    (λ to to_in. (to_in, refl)))

unlink_sees : (v : NameSight) (s : Scope) → ScopeSees v s → (d : Data) → IfOk (unlink s d) (Plain v)
unfolding unlink
unlink_sees v s h d = skip (Plain v) (known_members (codes "op" ∷ codes "to" ∷ []) d) (λ u. (required (process s) (get (codes "to") d) >>= λ to. Ok (operation.Unlink to)))
    (λ u. bind (Seen v) (Plain v) (required (process s) (get (codes "to") d)) (λ to. Ok (operation.Unlink to)) (to_ok v s h (get (codes "to") d))
    (λ to to_in. (to_in, refl)))

demonitor_sees : (v : NameSight) (s : Scope) → ScopeSees v s → (d : Data) → IfOk (demonitor s d) (Plain v)
unfolding demonitor
demonitor_sees v s h d = skip (Plain v) (known_members (codes "op" ∷ codes "tag" ∷ codes "flush" ∷ []) d) (λ u. (required (monitor_tag s) (get (codes "tag") d) >>= λ tag. (optional_member false flag (get (codes "flush") d) >>= λ flush. Ok (operation.Demonitor tag flush))))
    (λ u. bind (IsMonitor v) (Plain v) (required (monitor_tag s) (get (codes "tag") d)) (λ tag. (optional_member false flag (get (codes "flush") d) >>= λ flush. Ok (operation.Demonitor tag flush))) (required_ok (IsMonitor v) (monitor_tag s) (get (codes "tag") d) (monitor_seen v s h))
    (λ tag tag_in. skip (Plain v) (optional_member false flag (get (codes "flush") d)) (λ flush. Ok (operation.Demonitor tag flush))
    (λ flush. (tag_in, refl))))

trap_sees : (v : NameSight) (s : Scope) → (d : Data) → IfOk (trap d) (Plain v)
unfolding trap
trap_sees v s d = skip (Plain v) (known_members (codes "op" ∷ codes "on" ∷ []) d) (λ u. (required flag (get (codes "on") d) >>= λ on. Ok (operation.Trap on)))
    (λ u. skip (Plain v) (required flag (get (codes "on") d)) (λ on. Ok (operation.Trap on))
    (λ on. (tt, refl)))

exit_sees : (v : NameSight) (s : Scope) → (d : Data) → IfOk (exit d) (Plain v)
unfolding exit
exit_sees v s d = skip (Plain v) (known_members (codes "op" ∷ codes "reason" ∷ []) d) (λ u. (required reason (get (codes "reason") d) >>= λ r. Ok (operation.Exit r)))
    (λ u. bind WritesReason (Plain v) (required reason (get (codes "reason") d)) (λ r. Ok (operation.Exit r)) (required_ok WritesReason reason (get (codes "reason") d) reason_fits)
    (λ r r_in. (r_in, refl)))

signal_sees : (v : NameSight) (s : Scope) → ScopeSees v s → (d : Data) → IfOk (signal s d) (Plain v)
unfolding signal
signal_sees v s h d = skip (Plain v) (known_members (codes "op" ∷ codes "to" ∷ codes "reason" ∷ []) d) (λ u. (required (process s) (get (codes "to") d) >>= λ to. (required reason (get (codes "reason") d) >>= λ r. Ok (operation.Signal to r))))
    (λ u. bind (Seen v) (Plain v) (required (process s) (get (codes "to") d)) (λ to. (required reason (get (codes "reason") d) >>= λ r. Ok (operation.Signal to r))) (to_ok v s h (get (codes "to") d))
    (λ to to_in. bind WritesReason (Plain v) (required reason (get (codes "reason") d)) (λ r. Ok (operation.Signal to r)) (required_ok WritesReason reason (get (codes "reason") d) reason_fits)
    (λ r r_in. ((to_in, r_in), refl))))

pass_sees : (v : NameSight) (s : Scope) → (d : Data) → IfOk (pass d) (Plain v)
unfolding pass
pass_sees v s d = skip (Plain v) (known_members (codes "op" ∷ []) d) (λ u. Ok (operation.Pass))
    (λ u. (tt, refl))

branch_sees : (v : NameSight) (s : Scope) → ScopeSees v s → 3 ≤ v.format → (d : Data) → IfOk (branch s d) (Plain v)
unfolding branch
branch_sees v s h some d = skip (Plain v) (known_members (codes "op" ∷ codes "pick" ∷ []) d) (λ u. (optional_member pattern.Any (pick s) (get (codes "pick") d) >>= λ p. Ok (operation.If p)))
    (λ u. bind (SeesAllOf v) (Plain v) (optional_member pattern.Any (pick s) (get (codes "pick") d)) (λ p. Ok (operation.If p)) (optional_ok (SeesAllOf v) pattern.Any (pick s) (get (codes "pick") d) tt (pick_sees v s h))
    (λ p p_in. ((some, p_in), refl)))

otherwise_sees : (v : NameSight) (s : Scope) → 3 ≤ v.format → (d : Data) → IfOk (otherwise d) (Plain v)
unfolding otherwise
otherwise_sees v s some d = skip (Plain v) (known_members (codes "op" ∷ []) d) (λ u. Ok (operation.Else))
    (λ u. (some, refl))

end_sees : (v : NameSight) (s : Scope) → 3 ≤ v.format → (d : Data) → IfOk (branch_end d) (Plain v)
unfolding branch_end
end_sees v s some d = skip (Plain v) (known_members (codes "op" ∷ []) d) (λ u. Ok (operation.End))
    (λ u. (some, refl))

repeat_sees : (v : NameSight) (s : Scope) → 3 ≤ v.format → (d : Data) → IfOk (repeat d) (Plain v)
unfolding repeat
repeat_sees v s some d = skip (Plain v) (known_members (codes "op" ∷ codes "times" ∷ []) d) (λ u. (required (whole_number 1 65536) (get (codes "times") d) >>= λ times. Ok (operation.Repeat times)))
    (λ u. bind (Between 1 65536) (Plain v) (required (whole_number 1 65536) (get (codes "times") d)) (λ times. Ok (operation.Repeat times)) (needed_in 1 65536 (get (codes "times") d))
    (λ times i. ((some, i.0, i.1), refl)))

again_sees : (v : NameSight) (s : Scope) → 3 ≤ v.format → (d : Data) → IfOk (again d) (Plain v)
unfolding again
again_sees v s some d = skip (Plain v) (known_members (codes "op" ∷ []) d) (λ u. Ok (operation.Again))
    (λ u. (some, refl))

block_sees : (v : NameSight) (s : Scope) → ScopeSees v s → 3 ≤ v.format → (op : List ℕ) (d : Data) → IfOk (block_mark s op d) (Plain v)
unfolding block_mark
block_sees v s h some op d =
    let P : Result Operation Fault → Type 0 = λ r. IfOk r (Plain v) in
    either P (bytes_eq op (codes "if")) (branch s d) ((if bytes_eq op (codes "else") then otherwise d else (if bytes_eq op (codes "end") then branch_end d else (if bytes_eq op (codes "repeat") then repeat d else (if bytes_eq op (codes "again") then again d else Err Field))))) (branch_sees v s h some d)
    (either P (bytes_eq op (codes "else")) (otherwise d) ((if bytes_eq op (codes "end") then branch_end d else (if bytes_eq op (codes "repeat") then repeat d else (if bytes_eq op (codes "again") then again d else Err Field)))) (otherwise_sees v s some d)
    (either P (bytes_eq op (codes "end")) (branch_end d) ((if bytes_eq op (codes "repeat") then repeat d else (if bytes_eq op (codes "again") then again d else Err Field))) (end_sees v s some d)
    (either P (bytes_eq op (codes "repeat")) (repeat d) ((if bytes_eq op (codes "again") then again d else Err Field)) (repeat_sees v s some d)
    (either P (bytes_eq op (codes "again")) (again d) (Err Field) (again_sees v s some d) tt))))

tagged_sees : (v : NameSight) (s : Scope) → ScopeSees v s → (d : Data) → IfOk (tagged s d) (ToSeen v)
unfolding tagged
tagged_sees v s h d = skip (ToSeen v) (known_members (codes "op" ∷ codes "to" ∷ codes "tag" ∷ []) d) (λ u. (required (process s) (get (codes "to") d) >>= λ to. (required (new_tag s) (get (codes "tag") d) >>= λ name. Ok (to, name))))
    (λ u. bind (Seen v) (ToSeen v) (required (process s) (get (codes "to") d)) (λ to. (required (new_tag s) (get (codes "tag") d) >>= λ name. Ok (to, name))) (to_ok v s h (get (codes "to") d))
    (λ to to_in. skip (ToSeen v) (required (new_tag s) (get (codes "tag") d)) (λ name. Ok (to, name))
    (λ name. to_in)))

plain_sees : (v : NameSight) (s : Scope) → ScopeSees v s → (op : List ℕ) (d : Data) → IsRead d → IfOk (plain s op d) (Plain v)
unfolding plain
plain_sees v s h op d is =
    let P : Result Operation Fault → Type 0 = λ r. IfOk r (Plain v) in
    either P (bytes_eq op (codes "send")) (send s d) ((if bytes_eq op (codes "receive") then receive s d else (if bytes_eq op (codes "check") then check s d else (if bytes_eq op (codes "link") then link s d else (if bytes_eq op (codes "unlink") then unlink s d else (if bytes_eq op (codes "demonitor") then demonitor s d else (if bytes_eq op (codes "trap") then trap d else (if bytes_eq op (codes "exit") then exit d else (if bytes_eq op (codes "signal") then signal s d else (if bytes_eq op (codes "pass") then pass d else (if has_blocks s then block_mark s op d else Err Field))))))))))) (send_sees v s h d is)
    (either P (bytes_eq op (codes "receive")) (receive s d) ((if bytes_eq op (codes "check") then check s d else (if bytes_eq op (codes "link") then link s d else (if bytes_eq op (codes "unlink") then unlink s d else (if bytes_eq op (codes "demonitor") then demonitor s d else (if bytes_eq op (codes "trap") then trap d else (if bytes_eq op (codes "exit") then exit d else (if bytes_eq op (codes "signal") then signal s d else (if bytes_eq op (codes "pass") then pass d else (if has_blocks s then block_mark s op d else Err Field)))))))))) (receive_sees v s h d)
    (either P (bytes_eq op (codes "check")) (check s d) ((if bytes_eq op (codes "link") then link s d else (if bytes_eq op (codes "unlink") then unlink s d else (if bytes_eq op (codes "demonitor") then demonitor s d else (if bytes_eq op (codes "trap") then trap d else (if bytes_eq op (codes "exit") then exit d else (if bytes_eq op (codes "signal") then signal s d else (if bytes_eq op (codes "pass") then pass d else (if has_blocks s then block_mark s op d else Err Field))))))))) (check_sees v s h d)
    (either P (bytes_eq op (codes "link")) (link s d) ((if bytes_eq op (codes "unlink") then unlink s d else (if bytes_eq op (codes "demonitor") then demonitor s d else (if bytes_eq op (codes "trap") then trap d else (if bytes_eq op (codes "exit") then exit d else (if bytes_eq op (codes "signal") then signal s d else (if bytes_eq op (codes "pass") then pass d else (if has_blocks s then block_mark s op d else Err Field)))))))) (link_sees v s h d)
    (either P (bytes_eq op (codes "unlink")) (unlink s d) ((if bytes_eq op (codes "demonitor") then demonitor s d else (if bytes_eq op (codes "trap") then trap d else (if bytes_eq op (codes "exit") then exit d else (if bytes_eq op (codes "signal") then signal s d else (if bytes_eq op (codes "pass") then pass d else (if has_blocks s then block_mark s op d else Err Field))))))) (unlink_sees v s h d)
    (either P (bytes_eq op (codes "demonitor")) (demonitor s d) ((if bytes_eq op (codes "trap") then trap d else (if bytes_eq op (codes "exit") then exit d else (if bytes_eq op (codes "signal") then signal s d else (if bytes_eq op (codes "pass") then pass d else (if has_blocks s then block_mark s op d else Err Field)))))) (demonitor_sees v s h d)
    (either P (bytes_eq op (codes "trap")) (trap d) ((if bytes_eq op (codes "exit") then exit d else (if bytes_eq op (codes "signal") then signal s d else (if bytes_eq op (codes "pass") then pass d else (if has_blocks s then block_mark s op d else Err Field))))) (trap_sees v s d)
    (either P (bytes_eq op (codes "exit")) (exit d) ((if bytes_eq op (codes "signal") then signal s d else (if bytes_eq op (codes "pass") then pass d else (if has_blocks s then block_mark s op d else Err Field)))) (exit_sees v s d)
    (either P (bytes_eq op (codes "signal")) (signal s d) ((if bytes_eq op (codes "pass") then pass d else (if has_blocks s then block_mark s op d else Err Field))) (signal_sees v s h d)
    (either P (bytes_eq op (codes "pass")) (pass d) (if has_blocks s then block_mark s op d else Err Field) (pass_sees v s d)
    (whether P (has_blocks s) (block_mark s op d) (Err Field) (λ some. block_sees v s h (format_three v s h.format some) op d) (λ none. tt)))))))))))

-- behind an operation ---------------------------------------------------------------------

-- it can be done where it stands, and what has a name behind it is in sight there
pub record Goes (v : NameSight) (o : Operation) (after : Scope) : Type 0 where
  pub can : CanDo v o
  pub scope : ScopeSees (sight_behind v o) after

monitor_goes : (v : NameSight) (s : Scope) → ScopeSees v s → (to : ℕ) (name : List ℕ) → sees v to ≡ true → Goes v (operation.Monitor to s.made) (with_monitor s name)
monitor_goes v s h to name to_in = record {
  can = (to_in, h.made);
  scope = record {
    format = h.format;
    own = h.own;
    parent = h.parent;
    made = ap (λ k. k + 1) h.made;
    tops = h.tops;
    children = h.children;
    monitors = λ q. either (IsIn (v.made ∷ v.monitors)) (bytes_eq name q) (Some s.made) (s.monitors q) (subst (λ k. among k (v.made ∷ v.monitors) ≡ true) (sym h.made) (in_here v.made v.monitors)) (in_later v.made v.monitors (s.monitors q) (h.monitors q));
    asks = h.asks;
  };
}

ask_goes : (v : NameSight) (s : Scope) → ScopeSees v s → (to : ℕ) (name : List ℕ) → 2 ≤ v.format → sees v to ≡ true → Goes v (operation.Alive to s.made) (with_ask s name)
ask_goes v s h to name asks to_in = record {
  can = (asks, to_in, h.made);
  scope = record {
    format = h.format;
    own = h.own;
    parent = h.parent;
    made = ap (λ k. k + 1) h.made;
    tops = h.tops;
    children = h.children;
    monitors = h.monitors;
    asks = λ q. either (IsIn (v.made ∷ v.asks)) (bytes_eq name q) (Some s.made) (s.asks q) (subst (λ k. among k (v.made ∷ v.asks) ≡ true) (sym h.made) (in_here v.made v.asks)) (in_later v.made v.asks (s.asks q) (h.asks q));
  };
}

plain_goes : (v : NameSight) (s : Scope) → ScopeSees v s → (o : Operation) → Plain v o → Goes v o s
plain_goes v s h o p = record { can = p.0; scope = subst (λ u. ScopeSees u s) (sym p.1) h }

named_goes : (v : NameSight) (s : Scope) → ScopeSees v s → (op : List ℕ) (d : Data) → IsRead d → IfOk (named_operation s op d) (λ o. Goes v o.0 o.1)
named_goes v s h op d is =
    let Q : Operation × Scope → Type 0 = λ o. Goes v o.0 o.1 in
    let P : Result (Operation × Scope) Fault → Type 0 = λ r. IfOk r Q in
    either P (bytes_eq op (codes "monitor")) (tagged s d >>= λ m. Ok (operation.Monitor m.0 s.made, with_monitor s m.1)) (if bytes_eq op (codes "alive") && can_ask s then (tagged s d >>= λ m. Ok (operation.Alive m.0 s.made, with_ask s m.1)) else (plain s op d >>= λ o. Ok (o, s))) (bind (ToSeen v) Q (tagged s d) (λ m. Ok (operation.Monitor m.0 s.made, with_monitor s m.1)) (tagged_sees v s h d) (λ m to_in. monitor_goes v s h m.0 m.1 to_in))
    (whether P (bytes_eq op (codes "alive") && can_ask s) (tagged s d >>= λ m. Ok (operation.Alive m.0 s.made, with_ask s m.1)) (plain s op d >>= λ o. Ok (o, s)) (λ asks. bind (ToSeen v) Q (tagged s d) (λ m. Ok (operation.Alive m.0 s.made, with_ask s m.1)) (tagged_sees v s h d) (λ m to_in. ask_goes v s h m.0 m.1 (format_two v s (bytes_eq op (codes "alive")) h.format asks) to_in))
    (λ no. bind (Plain v) Q (plain s op d) (λ o. Ok (o, s)) (plain_sees v s h op d is) (λ o p. plain_goes v s h o p)))

pub simple_goes : (v : NameSight) (s : Scope) → ScopeSees v s → (d : Data) → IsRead d → IfOk (simple s d) (λ o. Goes v o.0 o.1)
simple_goes v s h d is = skip (λ o. Goes v o.0 o.1) (required text (get (codes "op") d)) (λ op. named_operation s op d) (λ op. named_goes v s h op d is)
