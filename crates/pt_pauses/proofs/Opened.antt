-- What a process has open it made, before the start or since.
use Rattle.std.proofs.Common.{◌≡◌, ℕ, ◌+◌, ◌≤◌, Bool, true, false, cond, ◌&&◌, ◌||◌, List, [], ◌∷◌, Option, Some, None, refl, sym, ap, subst, ◌∙◌, arith}
use Rattle.std.specs.List.{list_any}
use Rattle.pt_signal.specs.declared.pid.Pid.{Pid}
use Rattle.pt_signal.specs.declared.ids.Ref.{Ref}
use Rattle.pt_signal.specs.declared.ids.LinkId.{LinkId}
use Rattle.pt_signal.specs.declared.reason.Reason.{Reason}
use Rattle.pt_signal.specs.declared.signal.Signal.{Signal}
use Rattle.pt_signal.specs.Values.{same_pid, same_ref, fits, without_first}
use Rattle.pt_signal.specs.Process.{ProcessState, handle, say}
use Rattle.pt_signal.proofs.Same.{same_pid_is}
use Rattle.pt_events.specs.declared.event.Event.{Event}
use Rattle.pt_events.specs.declared.event.Event.TheVariants.{Born, Said, Came, Took, Flag, Left, Refused}
use Rattle.pt_events.specs.History.{Past, Start, Phase, unborn, living, ended, at_start, is_living, state, state_of, life, after, change, touches, newborn, linked, while_living, gets, leaves, live_or_end, May, MaySay, IsLegal}
use Rattle.pt_events.specs.Counting.{count, one_if}
use Rattle.pt_events.proofs.Fields.{linked_keeps}
use Rattle.pt_events.proofs.Phases.{each_branch}
use Rattle.pt_laws.specs.Watch.{is_monitor, is_open, kept_in, opens_to, open_in, said_to, says_to}
use Rattle.pt_laws.proofs.monitoring.Keeping.{open_step, say_step}
use Rattle.pt_behaviour.proofs.Cases.{by_cases}

-- one that passes is counted
pub some_counted : {X : Type 0} (test : X → Bool) (xs : List X) → list_any test xs ≡ true → 1 ≤ count test xs
some_counted test [] h = absurd (cc)
some_counted test (x ∷ xs) h = by_cases (test x)
    (λ t. let one : one_if (test x) ≡ 1 = ap one_if t in omega (arith, one))
    (λ f. let more : list_any test xs ≡ true = sym (ap (λ (b : Bool). b || list_any test xs) f) ∙ h in let k = some_counted test xs more in omega (arith, k))

-- of one target at most as many as of all
pub open_among : (m : Ref) (t : Pid) (es : List (Ref × Pid)) → count (is_open m t) es ≤ count (λ (e : Ref × Pid). same_ref m e.0) es
open_among m t [] = omega arith
open_among m t (e ∷ es) = let k = open_among m t es in let l = fewer (same_pid t e.1) (same_ref m e.0) in omega (arith, k, l)
  where
    fewer : (a b : Bool) → one_if (a && b) ≤ one_if b
    fewer true b = omega arith
    fewer false true = omega arith
    fewer false false = omega arith

module _ (w t : Pid) (m : Ref) where
  abbrev opens : Phase → ℕ
  opens f = open_in w t m f

  fewer_ended : (o : Option Reason) (s : ProcessState) → opens (live_or_end o s) ≤ opens_to m t s
  fewer_ended None s = omega arith
  fewer_ended (Some r) s = omega arith

  got : (a : Pid) (x : Signal) (f : Phase) → opens (gets w a x f) ≤ opens f
  got a x unborn = omega arith
  got a x (living s) = let k = (open_step m t w s a x).less in let l = fewer_ended (handle w s a x).ending (handle w s a x).state in omega (arith, k, l)
  got a x (ended r s) = omega arith

  left : (r : Reason) (f : Phase) → opens (leaves r f) ≤ opens f
  left r unborn = omega arith
  left r (living s) = omega arith
  left r (ended v s) = omega arith

  stepped : (step : ProcessState → ProcessState) → ((s : ProcessState) → (step s).watching ≡ s.watching) → (f : Phase) → opens (while_living step f) ≡ opens f
  stepped step h unborn = refl
  stepped step h (living s) = ap (count (is_open m t)) (h s)
  stepped step h (ended r s) = refl

  born : (q : Option Pid) (i : Option LinkId) (f : Phase) → opens (newborn q i f) ≡ opens f
  born q i unborn = ap (count (is_open m t)) (linked_keeps (λ s. s.watching) (λ l s. refl) q i _)
  born q i (living s) = refl
  born q i (ended r s) = refl

  said : (start : Start) (past : Past) (b : Pid) (x : Signal) (f : Phase) → is_living f ≡ true → MaySay start past (state_of f) w b x → opens (while_living (λ s. say s b x) f) ≤ opens f + one_if (same_pid t b && is_monitor m x)
  said start past b x unborn l may = absurd (cc)
  said start past b x (living s) l may = let k = say_step m t start past s w b x may in omega (arith, k)
  said start past b x (ended r s) l may = absurd (cc)

  module _ (start : Start) where
    -- what an event of its own opens
    own : (past : Past) (e : Event) → May start past e → touches w e ≡ true → opens (change w e (life start past w)) ≤ opens (life start past w) + says_to w t (is_monitor m) e
    own past (Born q parent link) may on =
        let f = life start past w in
        let same : opens (cond (same_pid w q) (newborn parent link f) (while_living (linked (Some q) link) f)) ≡ opens f =
        each_branch (λ x. opens x ≡ opens f) (same_pid w q) _ _ (born parent link f) (stepped (linked (Some q) link) (linked_keeps (λ s. s.watching) (λ l s. refl) (Some q) link) f) in
        omega (arith, same)
    own past (Said a b x) may on =
        let is = same_pid_is w a on in
        let k = said start past b x (life start past w) (subst (λ (p : Pid). is_living (life start past p) ≡ true) (sym is) may.0) (subst (λ (p : Pid). MaySay start past (state start past p) p b x) (sym is) may.1) in
        let n : one_if ((same_pid w a && same_pid t b) && is_monitor m x) ≡ one_if (same_pid t b && is_monitor m x) = ap (λ (c : Bool). one_if ((c && same_pid t b) && is_monitor m x)) on in
        omega (arith, k, n)
    own past (Came a b x) may on = let k = got a x (life start past w) in omega (arith, k)
    own past (Took p k i) may on = let s = stepped (λ s. record s { waiting = without_first (fits k) s.waiting }) (λ s. refl) (life start past w) in omega (arith, s)
    own past (Flag p flag) may on = let s = stepped (λ s. record s { traps = flag }) (λ s. refl) (life start past w) in omega (arith, s)
    own past (Left p r) may on = let k = left r (life start past w) in omega (arith, k)
    own past (Refused a b) may on = omega arith

    pub open_made : (past : Past) → IsLegal start past → opens (life start past w) ≤ opens (at_start start w) + said_to w t (is_monitor m) past
    open_made [] legal = omega arith
    open_made (e ∷ past) legal =
        let before = open_made past legal.1 in
        by_cases (touches w e)
        (λ on.
        let k = own past e legal.0 on in
        let is : opens (after w e (life start past w)) ≡ opens (change w e (life start past w)) = ap (λ (c : Bool). opens (cond c (change w e (life start past w)) (life start past w))) on in
        omega (arith, before, k, is))
        (λ off.
        let is : opens (after w e (life start past w)) ≡ opens (life start past w) = ap (λ (c : Bool). opens (cond c (change w e (life start past w)) (life start past w))) off in
        omega (arith, before, is))

-- what a live one keeps it lives to keep
pub keeper_lives : (w t : Pid) (m : Ref) (f : Phase) → 1 ≤ kept_in w t m f → is_living f ≡ true
keeper_lives w t m unborn h = absurd (omega (arith, h))
keeper_lives w t m (living s) h = refl
keeper_lives w t m (ended r s) h = absurd (omega (arith, h))
