-- What single operations say fits their scope.
use Rattle.std.proofs.Common.{◌≡◌, ℕ, ◌+◌, ◌<◌, List, [], ◌∷◌, Bool, true, false, Option, Some, None, Result, Ok, Err, refl, arith}
use Rattle.std.specs.Prelude.{IfOk, codes, ok_or, if◌then◌else◌, ◌&&◌}
use Rattle.std.specs.Str.{bytes_eq}
use Rattle.serde_json.specs.Data.{Data}
use Rattle.serde_json.specs.Find.{get}
use Rattle.pt_script.specs.declared.fault.Fault.{Fault}
use Rattle.pt_script.specs.declared.fault.Fault.TheVariants.{Name, Field}
use Rattle.pt_script.specs.declared.fault.Place.{Place}
use Rattle.pt_script.specs.declared.values.Operation.{Operation}
use Rattle.pt_script.specs.declared.values.Operation.TheVariants as operation
use Rattle.pt_script.specs.declared.values.Pattern.{Pattern}
use Rattle.pt_script.specs.declared.values.Pattern.TheVariants as pattern
use Rattle.pt_script.specs.Steps.{◌>>=◌}
use Rattle.pt_script.specs.Members.{known_members, whole_number, required, optional_member, text, signed, flag}
use Rattle.pt_script.specs.Operations.{process, maybe_process, monitor_tag, ask_tag, new_tag, reason, kind, one_pick, pick, pick_members, send, receive_members, tries, received, receive, check, link, unlink, demonitor, trap, exit, signal, pass, branch, otherwise, branch_end, repeat, again, block_mark, tagged, plain}
use Rattle.pt_script.specs.Scopes.{Scope, can_ask, has_blocks, process_in, or_number}
use Rattle.pt_script.specs.Lists.{placed, simple, named_operation, with_monitor, with_ask}
use Rattle.pt_script.specs.Sound.{IsBelow, PatternFits, Fits, tags_made}

-- reading step by step -----------------------------------------------------------

pub bind : {A B E : Type 0} (P : A → Type 0) (Q : B → Type 0) (r : Result A E) (f : A → Result B E) → IfOk r P → ((x : A) → P x → IfOk (f x) Q) → IfOk (r >>= f) Q
bind P Q (Ok x) f h g = g x h
bind P Q (Err e) f h g = tt

pub skip : {A B E : Type 0} (Q : B → Type 0) (r : Result A E) (f : A → Result B E) → ((x : A) → IfOk (f x) Q) → IfOk (r >>= f) Q
skip Q (Ok x) f g = g x
skip Q (Err e) f g = tt

-- with the equation at hand
pub where_ok : {A E : Type 0} (P : A → Type 0) (r : Result A E) → ((x : A) → r ≡ Ok x → P x) → IfOk r P
where_ok P (Ok x) g = g x refl
where_ok P (Err e) g = tt

pub under : {A E S : Type 0} (P : A → Type 0) (r : Result A E) → (S → IfOk r P) → IfOk r (λ x. S → P x)
under P (Ok x) h = h
under P (Err e) h = tt

pub either : {A : Type 0} (P : A → Type 0) (b : Bool) (x y : A) → P x → P y → P (if b then x else y)
either P true x y h k = h
either P false x y h k = k

pub placed_ok : {A : Type 0} (P : A → Type 0) (place : Place) (r : Result A Fault) → IfOk r P → IfOk (placed place r) P
placed_ok P place (Ok x) h = h
placed_ok P place (Err e) h = tt

pub required_ok : {A : Type 0} (P : A → Type 0) (of : Data → Result A Fault) (m : Option Data) → ((d : Data) → IfOk (of d) P) → IfOk (required of m) P
required_ok P of None h = tt
required_ok P of (Some d) h = h d

pub optional_ok : {A : Type 0} (P : A → Type 0) (missing : A) (of : Data → Result A Fault) (m : Option Data) → P missing → ((d : Data) → IfOk (of d) P) → IfOk (optional_member missing of m) P
optional_ok P missing of None h g = h
optional_ok P missing of (Some d) h g = g d

found : (n : ℕ) (o : Option ℕ) (e : Fault) → IsBelow n o → IfOk (ok_or o e) (λ k. k < n)
found n (Some k) e h = h
found n None e h = tt

-- scopes ------------------------------------------------------------------------------

-- every name stands for a process, every tag was made
pub record ScopeFits (n : ℕ) (s : Scope) : Type 0 where
  pub own : s.own < n
  pub parent : IsBelow n s.parent
  pub tops : (q : List ℕ) → IsBelow n (s.tops q)
  pub children : (q : List ℕ) → IsBelow n (s.children q)
  pub monitors : (q : List ℕ) → IsBelow s.made (s.monitors q)
  pub asks : (q : List ℕ) → IsBelow s.made (s.asks q)

one_of : (n : ℕ) (a b : Option ℕ) → IsBelow n a → IsBelow n b → IsBelow n (or_number a b)
one_of n (Some k) b h g = h
one_of n None b h g = g

named_below : (n : ℕ) (s : Scope) → ScopeFits n s → (q : List ℕ) → IsBelow n (process_in s q)
named_below n s h q = either (IsBelow n) (bytes_eq q (codes "self")) (Some s.own) (if bytes_eq q (codes "parent") then s.parent else or_number (s.children q) (s.tops q)) h.own (either (IsBelow n) (bytes_eq q (codes "parent")) s.parent (or_number (s.children q) (s.tops q)) h.parent (one_of n (s.children q) (s.tops q) (h.children q) (h.tops q)))

process_below : (n : ℕ) (s : Scope) → ScopeFits n s → (d : Data) → IfOk (process s d) (λ k. k < n)
process_below n s h d = skip (λ k. k < n) (text d) (λ q. ok_or (process_in s q) Name) (λ q. found n (process_in s q) Name (named_below n s h q))

maybe_below : (n : ℕ) (s : Scope) → ScopeFits n s → (d : Data) → IfOk (maybe_process s d) (IsBelow n)
maybe_below n s h d = bind (λ k. k < n) (IsBelow n) (process s d) (λ k. Ok (Some k)) (process_below n s h d) (λ k lt. lt)

monitor_below : (n : ℕ) (s : Scope) → ScopeFits n s → (d : Data) → IfOk (monitor_tag s d) (λ k. k < s.made)
monitor_below n s h d = skip (λ k. k < s.made) (text d) (λ q. ok_or (s.monitors q) Name) (λ q. found s.made (s.monitors q) Name (h.monitors q))

ask_below : (n : ℕ) (s : Scope) → ScopeFits n s → (d : Data) → IfOk (ask_tag s d) (λ k. k < s.made)
ask_below n s h d = skip (λ k. k < s.made) (text d) (λ q. ok_or (s.asks q) Name) (λ q. found s.made (s.asks q) Name (h.asks q))

-- operations --------------------------------------------------------------------------

-- it fits, and makes no tag
abbrev Plain : ℕ → Scope → Operation → Type 0
Plain n s o = Fits n s.made o × (tags_made o ≡ 0)

done : (n : ℕ) (s : Scope) (o : Operation) → Fits n s.made o → tags_made o ≡ 0 → Plain n s o
done n s o fits none = (fits, none)

abbrev ToBelow : ℕ → ℕ × List ℕ → Type 0
ToBelow n m = m.0 < n

to_ok : (n : ℕ) (s : Scope) → ScopeFits n s → (m : Option Data) → IfOk (required (process s) m) (λ k. k < n)
to_ok n s h m = required_ok (λ k. k < n) (process s) m (process_below n s h)

one_pick_fits : (n : ℕ) (s : Scope) → ScopeFits n s → (a b c d e : Option Data) → IfOk (one_pick s a b c d e) (PatternFits n s.made)
one_pick_fits n s h (Some a) None None None None = skip (PatternFits n s.made) (kind a) (λ k. Ok (pattern.Kind k)) (λ k. tt)
one_pick_fits n s h None (Some b) None None None = bind (λ k. k < n) (PatternFits n s.made) (process s b) (λ k. Ok (pattern.From k)) (process_below n s h b) (λ k lt. lt)
one_pick_fits n s h None None (Some c) None None = bind (λ k. k < n) (PatternFits n s.made) (process s c) (λ k. Ok (pattern.ExitOf k)) (process_below n s h c) (λ k lt. lt)
one_pick_fits n s h None None None (Some d) None = bind (λ k. k < s.made) (PatternFits n s.made) (monitor_tag s d) (λ k. Ok (pattern.DownOf k)) (monitor_below n s h d) (λ k lt. lt)
one_pick_fits n s h None None None None (Some e) = bind (λ k. k < s.made) (PatternFits n s.made) (ask_tag s e) (λ k. Ok (pattern.AliveOf k)) (ask_below n s h e) (λ k lt. lt)
one_pick_fits n s h _ _ _ _ _ = tt

pick_fits : (n : ℕ) (s : Scope) → ScopeFits n s → (d : Data) → IfOk (pick s d) (PatternFits n s.made)
unfolding pick
pick_fits n s h d = skip (PatternFits n s.made) (known_members (pick_members (can_ask s)) d) (λ u. one_pick s (get (codes "kind") d) (get (codes "from") d) (get (codes "exit") d) (get (codes "down") d) (get (codes "alive") d)) (λ _. one_pick_fits n s h (get (codes "kind") d) (get (codes "from") d) (get (codes "exit") d) (get (codes "down") d) (get (codes "alive") d))

send_fits : (n : ℕ) (s : Scope) → ScopeFits n s → (d : Data) → IfOk (send s d) (Plain n s)
unfolding send
send_fits n s h d = skip (Plain n s) (known_members (codes "op" ∷ codes "to" ∷ codes "kind" ∷ codes "num" ∷ codes "who" ∷ []) d) (λ u. (required (process s) (get (codes "to") d) >>= λ to. (required kind (get (codes "kind") d) >>= λ k. (required signed (get (codes "num") d) >>= λ num. (optional_member None (maybe_process s) (get (codes "who") d) >>= λ who. Ok (operation.Send to k num who))))))
    (λ u. bind (λ k. k < n) (Plain n s) (required (process s) (get (codes "to") d)) (λ to. (required kind (get (codes "kind") d) >>= λ k. (required signed (get (codes "num") d) >>= λ num. (optional_member None (maybe_process s) (get (codes "who") d) >>= λ who. Ok (operation.Send to k num who))))) (to_ok n s h (get (codes "to") d))
    (λ to to_in. skip (Plain n s) (required kind (get (codes "kind") d)) (λ k. (required signed (get (codes "num") d) >>= λ num. (optional_member None (maybe_process s) (get (codes "who") d) >>= λ who. Ok (operation.Send to k num who))))
    (λ k. skip (Plain n s) (required signed (get (codes "num") d)) (λ num. (optional_member None (maybe_process s) (get (codes "who") d) >>= λ who. Ok (operation.Send to k num who)))
    (λ num. bind (IsBelow n) (Plain n s) (optional_member None (maybe_process s) (get (codes "who") d)) (λ who. Ok (operation.Send to k num who)) (optional_ok (IsBelow n) None (maybe_process s) (get (codes "who") d) tt (maybe_below n s h))
    (λ who who_in. done n s (operation.Send to k num who) (to_in, who_in) refl)))))

received_fits : (n : ℕ) (s : Scope) (p : Pattern) → PatternFits n s.made p → (after : Option ℕ) → Plain n s (received p after)
received_fits n s p p_in None = done n s (operation.Receive p) p_in refl
received_fits n s p p_in (Some k) = done n s (operation.ReceiveAfter p k) p_in refl

receive_fits : (n : ℕ) (s : Scope) → ScopeFits n s → (d : Data) → IfOk (receive s d) (Plain n s)
unfolding receive
receive_fits n s h d = skip (Plain n s) (known_members (receive_members (has_blocks s)) d) (λ u. (optional_member pattern.Any (pick s) (get (codes "pick") d) >>= λ p. (optional_member None tries (get (codes "after") d) >>= λ after. Ok (received p after))))
    (λ u. bind (PatternFits n s.made) (Plain n s) (optional_member pattern.Any (pick s) (get (codes "pick") d)) (λ p. (optional_member None tries (get (codes "after") d) >>= λ after. Ok (received p after))) (optional_ok (PatternFits n s.made) pattern.Any (pick s) (get (codes "pick") d) tt (pick_fits n s h))
    (λ p p_in. skip (Plain n s) (optional_member None tries (get (codes "after") d)) (λ after. Ok (received p after))
    (λ after. received_fits n s p p_in after)))

check_fits : (n : ℕ) (s : Scope) → ScopeFits n s → (d : Data) → IfOk (check s d) (Plain n s)
unfolding check
check_fits n s h d = skip (Plain n s) (known_members (codes "op" ∷ codes "pick" ∷ []) d) (λ u. (optional_member pattern.Any (pick s) (get (codes "pick") d) >>= λ p. Ok (operation.Check p)))
    (λ u. bind (PatternFits n s.made) (Plain n s) (optional_member pattern.Any (pick s) (get (codes "pick") d)) (λ p. Ok (operation.Check p)) (optional_ok (PatternFits n s.made) pattern.Any (pick s) (get (codes "pick") d) tt (pick_fits n s h))
    (λ p p_in. done n s (operation.Check p) p_in refl))

link_fits : (n : ℕ) (s : Scope) → ScopeFits n s → (d : Data) → IfOk (link s d) (Plain n s)
unfolding link
link_fits n s h d = skip (Plain n s) (known_members (codes "op" ∷ codes "to" ∷ []) d) (λ u. (required (process s) (get (codes "to") d) >>= λ to. Ok (operation.Link to)))
    (λ u. bind (λ k. k < n) (Plain n s) (required (process s) (get (codes "to") d)) (λ to. Ok (operation.Link to)) (to_ok n s h (get (codes "to") d))
    (λ to to_in. done n s (operation.Link to) to_in refl))

unlink_fits : (n : ℕ) (s : Scope) → ScopeFits n s → (d : Data) → IfOk (unlink s d) (Plain n s)
unfolding unlink
unlink_fits n s h d = skip (Plain n s) (known_members (codes "op" ∷ codes "to" ∷ []) d) (λ u. (required (process s) (get (codes "to") d) >>= λ to. Ok (operation.Unlink to)))
    (λ u. bind (λ k. k < n) (Plain n s) (required (process s) (get (codes "to") d)) (λ to. Ok (operation.Unlink to)) (to_ok n s h (get (codes "to") d))
    (λ to to_in. done n s (operation.Unlink to) to_in refl))

demonitor_fits : (n : ℕ) (s : Scope) → ScopeFits n s → (d : Data) → IfOk (demonitor s d) (Plain n s)
unfolding demonitor
demonitor_fits n s h d = skip (Plain n s) (known_members (codes "op" ∷ codes "tag" ∷ codes "flush" ∷ []) d) (λ u. (required (monitor_tag s) (get (codes "tag") d) >>= λ tag. (optional_member false flag (get (codes "flush") d) >>= λ flush. Ok (operation.Demonitor tag flush))))
    (λ u. bind (λ k. k < s.made) (Plain n s) (required (monitor_tag s) (get (codes "tag") d)) (λ tag. (optional_member false flag (get (codes "flush") d) >>= λ flush. Ok (operation.Demonitor tag flush))) (required_ok (λ k. k < s.made) (monitor_tag s) (get (codes "tag") d) (monitor_below n s h))
    (λ tag tag_in. skip (Plain n s) (optional_member false flag (get (codes "flush") d)) (λ flush. Ok (operation.Demonitor tag flush))
    (λ flush. done n s (operation.Demonitor tag flush) tag_in refl)))

trap_fits : (n : ℕ) (s : Scope) → (d : Data) → IfOk (trap d) (Plain n s)
unfolding trap
trap_fits n s d = skip (Plain n s) (known_members (codes "op" ∷ codes "on" ∷ []) d) (λ u. (required flag (get (codes "on") d) >>= λ on. Ok (operation.Trap on)))
    (λ u. skip (Plain n s) (required flag (get (codes "on") d)) (λ on. Ok (operation.Trap on))
    (λ on. done n s (operation.Trap on) tt refl))

exit_fits : (n : ℕ) (s : Scope) → (d : Data) → IfOk (exit d) (Plain n s)
unfolding exit
exit_fits n s d = skip (Plain n s) (known_members (codes "op" ∷ codes "reason" ∷ []) d) (λ u. (required reason (get (codes "reason") d) >>= λ r. Ok (operation.Exit r)))
    (λ u. skip (Plain n s) (required reason (get (codes "reason") d)) (λ r. Ok (operation.Exit r))
    (λ r. done n s (operation.Exit r) tt refl))

signal_fits : (n : ℕ) (s : Scope) → ScopeFits n s → (d : Data) → IfOk (signal s d) (Plain n s)
unfolding signal
signal_fits n s h d = skip (Plain n s) (known_members (codes "op" ∷ codes "to" ∷ codes "reason" ∷ []) d) (λ u. (required (process s) (get (codes "to") d) >>= λ to. (required reason (get (codes "reason") d) >>= λ r. Ok (operation.Signal to r))))
    (λ u. bind (λ k. k < n) (Plain n s) (required (process s) (get (codes "to") d)) (λ to. (required reason (get (codes "reason") d) >>= λ r. Ok (operation.Signal to r))) (to_ok n s h (get (codes "to") d))
    (λ to to_in. skip (Plain n s) (required reason (get (codes "reason") d)) (λ r. Ok (operation.Signal to r))
    (λ r. done n s (operation.Signal to r) to_in refl)))

pass_fits : (n : ℕ) (s : Scope) → (d : Data) → IfOk (pass d) (Plain n s)
unfolding pass
pass_fits n s d = skip (Plain n s) (known_members (codes "op" ∷ []) d) (λ u. Ok (operation.Pass))
    (λ u. done n s (operation.Pass) tt refl)

branch_fits : (n : ℕ) (s : Scope) → ScopeFits n s → (d : Data) → IfOk (branch s d) (Plain n s)
unfolding branch
branch_fits n s h d = skip (Plain n s) (known_members (codes "op" ∷ codes "pick" ∷ []) d) (λ u. (optional_member pattern.Any (pick s) (get (codes "pick") d) >>= λ p. Ok (operation.If p)))
    (λ u. bind (PatternFits n s.made) (Plain n s) (optional_member pattern.Any (pick s) (get (codes "pick") d)) (λ p. Ok (operation.If p)) (optional_ok (PatternFits n s.made) pattern.Any (pick s) (get (codes "pick") d) tt (pick_fits n s h))
    (λ p p_in. done n s (operation.If p) p_in refl))

otherwise_fits : (n : ℕ) (s : Scope) → (d : Data) → IfOk (otherwise d) (Plain n s)
unfolding otherwise
otherwise_fits n s d = skip (Plain n s) (known_members (codes "op" ∷ []) d) (λ u. Ok (operation.Else))
    (λ u. done n s (operation.Else) tt refl)

end_fits : (n : ℕ) (s : Scope) → (d : Data) → IfOk (branch_end d) (Plain n s)
unfolding branch_end
end_fits n s d = skip (Plain n s) (known_members (codes "op" ∷ []) d) (λ u. Ok (operation.End))
    (λ u. done n s (operation.End) tt refl)

repeat_fits : (n : ℕ) (s : Scope) → (d : Data) → IfOk (repeat d) (Plain n s)
unfolding repeat
repeat_fits n s d = skip (Plain n s) (known_members (codes "op" ∷ codes "times" ∷ []) d) (λ u. (required (whole_number 1 65536) (get (codes "times") d) >>= λ times. Ok (operation.Repeat times)))
    (λ u. skip (Plain n s) (required (whole_number 1 65536) (get (codes "times") d)) (λ times. Ok (operation.Repeat times))
    (λ times. done n s (operation.Repeat times) tt refl))

again_fits : (n : ℕ) (s : Scope) → (d : Data) → IfOk (again d) (Plain n s)
unfolding again
again_fits n s d = skip (Plain n s) (known_members (codes "op" ∷ []) d) (λ u. Ok (operation.Again))
    (λ u. done n s (operation.Again) tt refl)

block_fits : (n : ℕ) (s : Scope) → ScopeFits n s → (op : List ℕ) (d : Data) → IfOk (block_mark s op d) (Plain n s)
unfolding block_mark
block_fits n s h op d =
    let P : Result Operation Fault → Type 0 = λ r. IfOk r (Plain n s) in
    either P (bytes_eq op (codes "if")) (branch s d) ((if bytes_eq op (codes "else") then otherwise d else (if bytes_eq op (codes "end") then branch_end d else (if bytes_eq op (codes "repeat") then repeat d else (if bytes_eq op (codes "again") then again d else Err Field))))) (branch_fits n s h d)
    (either P (bytes_eq op (codes "else")) (otherwise d) ((if bytes_eq op (codes "end") then branch_end d else (if bytes_eq op (codes "repeat") then repeat d else (if bytes_eq op (codes "again") then again d else Err Field)))) (otherwise_fits n s d)
    (either P (bytes_eq op (codes "end")) (branch_end d) ((if bytes_eq op (codes "repeat") then repeat d else (if bytes_eq op (codes "again") then again d else Err Field))) (end_fits n s d)
    (either P (bytes_eq op (codes "repeat")) (repeat d) ((if bytes_eq op (codes "again") then again d else Err Field)) (repeat_fits n s d)
    (either P (bytes_eq op (codes "again")) (again d) (Err Field) (again_fits n s d) tt))))

tagged_fits : (n : ℕ) (s : Scope) → ScopeFits n s → (d : Data) → IfOk (tagged s d) (ToBelow n)
unfolding tagged
tagged_fits n s h d = skip (ToBelow n) (known_members (codes "op" ∷ codes "to" ∷ codes "tag" ∷ []) d) (λ u. (required (process s) (get (codes "to") d) >>= λ to. (required (new_tag s) (get (codes "tag") d) >>= λ name. Ok (to, name))))
    (λ u. bind (λ k. k < n) (ToBelow n) (required (process s) (get (codes "to") d)) (λ to. (required (new_tag s) (get (codes "tag") d) >>= λ name. Ok (to, name))) (to_ok n s h (get (codes "to") d))
    (λ to to_in. skip (ToBelow n) (required (new_tag s) (get (codes "tag") d)) (λ name. Ok (to, name))
    (λ name. to_in)))

plain_fits : (n : ℕ) (s : Scope) → ScopeFits n s → (op : List ℕ) (d : Data) → IfOk (plain s op d) (Plain n s)
unfolding plain
plain_fits n s h op d =
    let P : Result Operation Fault → Type 0 = λ r. IfOk r (Plain n s) in
    either P (bytes_eq op (codes "send")) (send s d) ((if bytes_eq op (codes "receive") then receive s d else (if bytes_eq op (codes "check") then check s d else (if bytes_eq op (codes "link") then link s d else (if bytes_eq op (codes "unlink") then unlink s d else (if bytes_eq op (codes "demonitor") then demonitor s d else (if bytes_eq op (codes "trap") then trap d else (if bytes_eq op (codes "exit") then exit d else (if bytes_eq op (codes "signal") then signal s d else (if bytes_eq op (codes "pass") then pass d else (if has_blocks s then block_mark s op d else Err Field))))))))))) (send_fits n s h d)
    (either P (bytes_eq op (codes "receive")) (receive s d) ((if bytes_eq op (codes "check") then check s d else (if bytes_eq op (codes "link") then link s d else (if bytes_eq op (codes "unlink") then unlink s d else (if bytes_eq op (codes "demonitor") then demonitor s d else (if bytes_eq op (codes "trap") then trap d else (if bytes_eq op (codes "exit") then exit d else (if bytes_eq op (codes "signal") then signal s d else (if bytes_eq op (codes "pass") then pass d else (if has_blocks s then block_mark s op d else Err Field)))))))))) (receive_fits n s h d)
    (either P (bytes_eq op (codes "check")) (check s d) ((if bytes_eq op (codes "link") then link s d else (if bytes_eq op (codes "unlink") then unlink s d else (if bytes_eq op (codes "demonitor") then demonitor s d else (if bytes_eq op (codes "trap") then trap d else (if bytes_eq op (codes "exit") then exit d else (if bytes_eq op (codes "signal") then signal s d else (if bytes_eq op (codes "pass") then pass d else (if has_blocks s then block_mark s op d else Err Field))))))))) (check_fits n s h d)
    (either P (bytes_eq op (codes "link")) (link s d) ((if bytes_eq op (codes "unlink") then unlink s d else (if bytes_eq op (codes "demonitor") then demonitor s d else (if bytes_eq op (codes "trap") then trap d else (if bytes_eq op (codes "exit") then exit d else (if bytes_eq op (codes "signal") then signal s d else (if bytes_eq op (codes "pass") then pass d else (if has_blocks s then block_mark s op d else Err Field)))))))) (link_fits n s h d)
    (either P (bytes_eq op (codes "unlink")) (unlink s d) ((if bytes_eq op (codes "demonitor") then demonitor s d else (if bytes_eq op (codes "trap") then trap d else (if bytes_eq op (codes "exit") then exit d else (if bytes_eq op (codes "signal") then signal s d else (if bytes_eq op (codes "pass") then pass d else (if has_blocks s then block_mark s op d else Err Field))))))) (unlink_fits n s h d)
    (either P (bytes_eq op (codes "demonitor")) (demonitor s d) ((if bytes_eq op (codes "trap") then trap d else (if bytes_eq op (codes "exit") then exit d else (if bytes_eq op (codes "signal") then signal s d else (if bytes_eq op (codes "pass") then pass d else (if has_blocks s then block_mark s op d else Err Field)))))) (demonitor_fits n s h d)
    (either P (bytes_eq op (codes "trap")) (trap d) ((if bytes_eq op (codes "exit") then exit d else (if bytes_eq op (codes "signal") then signal s d else (if bytes_eq op (codes "pass") then pass d else (if has_blocks s then block_mark s op d else Err Field))))) (trap_fits n s d)
    (either P (bytes_eq op (codes "exit")) (exit d) ((if bytes_eq op (codes "signal") then signal s d else (if bytes_eq op (codes "pass") then pass d else (if has_blocks s then block_mark s op d else Err Field)))) (exit_fits n s d)
    (either P (bytes_eq op (codes "signal")) (signal s d) ((if bytes_eq op (codes "pass") then pass d else (if has_blocks s then block_mark s op d else Err Field))) (signal_fits n s h d)
    (either P (bytes_eq op (codes "pass")) (pass d) (if has_blocks s then block_mark s op d else Err Field) (pass_fits n s d)
    (either P (has_blocks s) (block_mark s op d) (Err Field) (block_fits n s h op d) tt))))))))))

-- the scope behind an operation ---------------------------------------------------------

raised : (n : ℕ) (o : Option ℕ) → IsBelow n o → IsBelow (n + 1) o
raised n None h = tt
raised n (Some k) h = omega arith

-- an operation fits its scope, and the scope behind it fits again
pub record Goes (n : ℕ) (s : Scope) (o : Operation) (after : Scope) : Type 0 where
  pub fits : Fits n s.made o
  pub scope : ScopeFits n after
  pub made : after.made ≡ s.made + tags_made o

monitor_goes : (n : ℕ) (s : Scope) → ScopeFits n s → (to : ℕ) (name : List ℕ) → to < n → Goes n s (operation.Monitor to s.made) (with_monitor s name)
monitor_goes n s h to name to_in = record {
  fits = (to_in, refl);
  scope = record {
    own = h.own;
    parent = h.parent;
    tops = h.tops;
    children = h.children;
    monitors = λ q. either (IsBelow (s.made + 1)) (bytes_eq name q) (Some s.made) (s.monitors q) (omega arith) (raised s.made (s.monitors q) (h.monitors q));
    asks = λ q. raised s.made (s.asks q) (h.asks q);
  };
  made = refl;
}

ask_goes : (n : ℕ) (s : Scope) → ScopeFits n s → (to : ℕ) (name : List ℕ) → to < n → Goes n s (operation.Alive to s.made) (with_ask s name)
ask_goes n s h to name to_in = record {
  fits = (to_in, refl);
  scope = record {
    own = h.own;
    parent = h.parent;
    tops = h.tops;
    children = h.children;
    monitors = λ q. raised s.made (s.monitors q) (h.monitors q);
    asks = λ q. either (IsBelow (s.made + 1)) (bytes_eq name q) (Some s.made) (s.asks q) (omega arith) (raised s.made (s.asks q) (h.asks q));
  };
  made = refl;
}

plain_goes : (n : ℕ) (s : Scope) → ScopeFits n s → (o : Operation) → Plain n s o → Goes n s o s
plain_goes n s h o p = record { fits = p.0; scope = h; made = omega (arith, p.1) }

named_goes : (n : ℕ) (s : Scope) → ScopeFits n s → (op : List ℕ) (d : Data) → IfOk (named_operation s op d) (λ o. Goes n s o.0 o.1)
named_goes n s h op d =
    let Q : Operation × Scope → Type 0 = λ o. Goes n s o.0 o.1 in
    let P : Result (Operation × Scope) Fault → Type 0 = λ r. IfOk r Q in
    either P (bytes_eq op (codes "monitor")) (tagged s d >>= λ m. Ok (operation.Monitor m.0 s.made, with_monitor s m.1)) (if bytes_eq op (codes "alive") && can_ask s then (tagged s d >>= λ m. Ok (operation.Alive m.0 s.made, with_ask s m.1)) else (plain s op d >>= λ o. Ok (o, s))) (bind (ToBelow n) Q (tagged s d) (λ m. Ok (operation.Monitor m.0 s.made, with_monitor s m.1)) (tagged_fits n s h d) (λ m to_in. monitor_goes n s h m.0 m.1 to_in))
    (either P (bytes_eq op (codes "alive") && can_ask s) (tagged s d >>= λ m. Ok (operation.Alive m.0 s.made, with_ask s m.1)) (plain s op d >>= λ o. Ok (o, s)) (bind (ToBelow n) Q (tagged s d) (λ m. Ok (operation.Alive m.0 s.made, with_ask s m.1)) (tagged_fits n s h d) (λ m to_in. ask_goes n s h m.0 m.1 to_in))
    (bind (Plain n s) Q (plain s op d) (λ o. Ok (o, s)) (plain_fits n s h op d) (λ o p. plain_goes n s h o p)))

pub simple_goes : (n : ℕ) (s : Scope) → ScopeFits n s → (d : Data) → IfOk (simple s d) (λ o. Goes n s o.0 o.1)
simple_goes n s h d = skip (λ o. Goes n s o.0 o.1) (required text (get (codes "op") d)) (λ op. named_operation s op d) (λ op. named_goes n s h op d)
