-- Each name stays one process's, and each process keeps one name at most.
use Rattle.std.proofs.Common.{◌≡◌, cond, ◌&&◌, Bool, true, false, Option, Some, None, Result, Ok, Err, refl, sym, ap, subst, ◌∙◌}
use Rattle.std.specs.Prelude.{List, [], ◌∷◌}
use Rattle.std.specs.Option.{option_map}
use Rattle.std.proofs.lemmas.Slice.Eq.{bytes_eq-Decides}
use Rattle.pt_signal.specs.declared.pid.Pid.{Pid}
use Rattle.pt_signal.specs.declared.ids.Ref.{Ref}
use Rattle.pt_signal.specs.declared.item.Item.{Item}
use Rattle.pt_signal.specs.declared.item.Item.TheVariants.{User, Exit, Down, Alive}
use Rattle.pt_signal.specs.Values.{same_pid, same_ref}
use Rattle.pt_signal.proofs.Same.{same_pid_refl, same_pid_is, same_ref_refl, same_ref_is}
use Rattle.pt_names.specs.declared.name.Name.{Name}
use Rattle.pt_names.specs.declared.names.Holder.{Holder}
use Rattle.pt_names.specs.declared.names.RegisterError.{RegisterError}
use Rattle.pt_names.specs.declared.names.RegisterError.TheVariants.{Taken, HasName, Memory}
use Rattle.pt_names.specs.State.{NamesState, holder_of, name_at, same_name, IsOneToOne}
use Rattle.pt_names.specs.Calls.{IsNone, Registers, Unregisters, Forgets}
use Rattle.pt_names.proofs.Sound.{added, removed}
use Rattle.pt_names.specs.Registering.{FreesName, HearsNames}
use Rattle.pt_names.specs.Past.{NamesDeed, registered, unregistered, shown, DoesNames, LeadsNames, unless_of, unless_down, KeepMonitors}

one_none : {X : Type 0} (o : Option X) (x : X) → o ≡ Some x → o ≡ None → ⊥
one_none o x h k = cc

pub none_named : (s : NamesState) → IsNone s → IsOneToOne s
none_named s h = record {
  has_name = λ n x e. absurd (one_none (holder_of s n) x e (h.holders n));
  has_process = λ p n e. absurd (one_none (name_at s p) n e (h.names p));
}

pub registered_one : (n : Name) (p : Pid) (m : Ref) (old : NamesState) (r : Result (Unit {0}) RegisterError) (new : NamesState) → IsOneToOne old → Registers n p m old r new → IsOneToOne new
registered_one n p m old (Ok done) new s h = added old new s n p m h.0 h.1
registered_one n p m old (Err (Taken q)) new s h = subst IsOneToOne (sym h.1) s
registered_one n p m old (Err (HasName k)) new s h = subst IsOneToOne (sym h.1) s
registered_one n p m old (Err Memory) new s h = subst IsOneToOne (sym h.1) s

pub unregistered_one : (n : Name) (old : NamesState) (o : Option Holder) (new : NamesState) → IsOneToOne old → Unregisters n old o new → IsOneToOne new
unregistered_one n old (Some h) new s u = removed old new s n h.pid (ap (option_map (λ (x : Holder). x.pid)) u.0) (s.has_name n h u.0) u.1
unregistered_one n old None new s u = subst IsOneToOne (sym u.1) s

pub forgotten_one : (p : Pid) (old : NamesState) (o : Option Name) (new : NamesState) → IsOneToOne old → Forgets p old o new → IsOneToOne new
forgotten_one p old (Some n) new s u = removed old new s n p (s.has_process p n u.0) u.0 u.1
forgotten_one p old None new s u = subst IsOneToOne (sym u.1) s

-- a name that is freed leaves each name one process's
pub frees_one : (h : Holder) (old : NamesState) (o : Option Name) (new : NamesState) → IsOneToOne old → FreesName h old o new → IsOneToOne new
frees_one h old (Some n) new s u = unregistered_one n old (Some h) new s u
frees_one h old None new s u = subst IsOneToOne (sym u.1) s

same_name_is : (a b : Name) → same_name a b ≡ true → a ≡ b
same_name_is a b h = let e = (bytes_eq-Decides a.letters b.letters).0 h in λ i. record { letters = e i }

same_name_refl : (a : Name) → same_name a a ≡ true
same_name_refl a = (bytes_eq-Decides a.letters a.letters).1 refl

pub some_is : {X : Type 0} (x y : X) → Some x ≡ Some y → x ≡ y
some_is x y e = cc

abbrev holder : Pid → Ref → Holder
holder p m = record { pid = p; monitor = m }

-- one process with one monitor has one name
one_name : (s : NamesState) (h : Holder) (a b : Name) → IsOneToOne s → holder_of s a ≡ Some h → holder_of s b ≡ Some h → a ≡ b
one_name s h a b one at_a at_b = some_is a b (sym (one.has_name a h at_a) ∙ one.has_name b h at_b)

-- and no name has the holder then
pub freed : (h : Holder) (old : NamesState) (o : Option Name) (new : NamesState) → IsOneToOne old → FreesName h old o new → (n : Name) → holder_of new n ≡ Some h → ⊥
freed h old None new one u n has = u.0 n (sym (ap (λ (s : NamesState). holder_of s n) u.1) ∙ has)
freed h old (Some k) new one u n has = by (same_name k n) refl
  where
    now : (b : Bool) → same_name k n ≡ b → holder_of new n ≡ cond b None (holder_of old n)
    now b is = u.1.holders n ∙ ap (λ (c : Bool). cond {A = Option Holder} c None (holder_of old n)) is

    by : (b : Bool) → same_name k n ≡ b → ⊥
    by true is = one_none (holder_of new n) h has (now true is)
    by false is =
        let same = one_name old h k n one u.0 (sym (now false is) ∙ has) in
        let bad : false ≡ true = sym is ∙ subst (λ (a : Name). same_name k a ≡ true) same (same_name_refl k) in absurd (cc)

-- what the call that frees a name finds ------------------------------------------------------

-- the process has no name
pub unnamed : (p : Pid) (m : Ref) (s : NamesState) → IsOneToOne s → name_at s p ≡ None → (n : Name) → holder_of s n ≡ Some (holder p m) → ⊥
unnamed p m s one none n has = one_none (name_at s p) n (one.has_name n (holder p m) has) none

-- nobody has its name
pub unheld : (p : Pid) (m : Ref) (s : NamesState) (k : Name) → IsOneToOne s → name_at s p ≡ Some k → holder_of s k ≡ None → (n : Name) → holder_of s n ≡ Some (holder p m) → ⊥
unheld p m s k one named none n has =
    let same : n ≡ k = some_is n k (sym (one.has_name n (holder p m) has) ∙ named) in
    one_none (holder_of s n) (holder p m) has (ap (holder_of s) same ∙ none)

-- its name has another monitor
pub otherwise : (p : Pid) (m : Ref) (s : NamesState) (k : Name) (o : Option Holder) → IsOneToOne s → name_at s p ≡ Some k → holder_of s k ≡ o → ((x : Holder) → o ≡ Some x → same_ref x.monitor m ≡ false)
    → (n : Name) → holder_of s n ≡ Some (holder p m) → ⊥
otherwise p m s k o one named at other n has =
    let same : n ≡ k = some_is n k (sym (one.has_name n (holder p m) has) ∙ named) in
    let bad : false ≡ true = sym (other (holder p m) (sym at ∙ ap (holder_of s) (sym same) ∙ has)) ∙ same_ref_refl m in absurd (cc)

-- it has this one, and is forgotten
pub forgotten : (p : Pid) (m : Ref) (old : NamesState) (k : Name) (x : Holder) (o : Option Name) (new : NamesState) → IsOneToOne old → name_at old p ≡ Some k → holder_of old k ≡ Some x
    → same_ref x.monitor m ≡ true → Forgets p old o new → FreesName (holder p m) old o new
forgotten p m old k x None new one named at its u = absurd (one_none (name_at old p) k named u.0)
forgotten p m old k x (Some n) new one named at its u =
    let same : n ≡ k = some_is n k (sym u.0 ∙ named) in
    let pid : x.pid ≡ p = some_is x.pid p (sym (ap (option_map (λ (h : Holder). h.pid)) at) ∙ one.has_process p k named) in
    let monitor : x.monitor ≡ m = same_ref_is x.monitor m its in
    let is : x ≡ holder p m = λ i. record { pid = pid i; monitor = monitor i } in
    (ap (holder_of old) same ∙ at ∙ ap Some is, u.1)

-- by all that was done ------------------------------------------------------------------

pub shown_one : (i : Item) (old : NamesState) (o : Option Name) (new : NamesState) → IsOneToOne old → HearsNames i old o new → IsOneToOne new
shown_one (Down m p reason) old o new s h = frees_one (holder p m) old o new s h
shown_one (User from body) old o new s h = subst IsOneToOne (sym h.1) s
shown_one (Exit from reason) old o new s h = subst IsOneToOne (sym h.1) s
shown_one (Alive m p alive) old o new s h = subst IsOneToOne (sym h.1) s

does_one : (deed : NamesDeed) (old new : NamesState) → IsOneToOne old → DoesNames deed old new → IsOneToOne new
does_one (registered n p m) old new s h = registered_one n p m old (Ok tt) new s h
does_one (unregistered n h) old new s u = unregistered_one n old (Some h) new s u
does_one (shown i freed) old new s h = shown_one i old freed new s h

leads_one : (past : List NamesDeed) (s : NamesState) → LeadsNames past s → IsOneToOne s
leads_one [] s h = none_named s h
leads_one (deed ∷ past) s h = does_one deed h.0 s (leads_one past h.0 h.1) h.2

neither : {X : Type 0} (b : Bool) → cond {A = Option X} b None None ≡ None
neither true = refl
neither false = refl

pub both : (b c : Bool) → (b ≡ true → c ≡ true) → (c ≡ true → b ≡ true) → b ≡ c
both true c to from = sym (to refl)
both false true to from = absurd (let e : false ≡ true = from refl in cc)
both false false to from = refl

both_true : (b c : Bool) → b ≡ true → c ≡ true → (b && c) ≡ true
both_true b c is_b is_c = rw is_b is_c

left_true : (b c : Bool) → (b && c) ≡ true → b ≡ true
left_true true c e = refl
left_true false c e = e

right_true : (b c : Bool) → (b && c) ≡ true → c ≡ true
right_true true c e = e
right_true false c e = absurd (let bad : false ≡ true = e in cc)

holder_is : (p : Pid) (m : Ref) (x : Holder) → (same_pid p x.pid && same_ref m x.monitor) ≡ true → holder p m ≡ x
holder_is p m x e =
    let pid = same_pid_is p x.pid (left_true (same_pid p x.pid) (same_ref m x.monitor) e) in
    let monitor = same_ref_is m x.monitor (right_true (same_pid p x.pid) (same_ref m x.monitor) e) in
    λ i. record { pid = pid i; monitor = monitor i }

-- the name of a holder is the only one that it has
same_test : (s : NamesState) (p : Pid) (m : Ref) (freed n : Name) (x : Holder) → IsOneToOne s → holder_of s freed ≡ Some (holder p m) → holder_of s n ≡ Some x
    → same_name freed n ≡ (same_pid p x.pid && same_ref m x.monitor)
same_test s p m freed n x one has is = both (same_name freed n) (same_pid p x.pid && same_ref m x.monitor) to from
  where
    to : same_name freed n ≡ true → (same_pid p x.pid && same_ref m x.monitor) ≡ true
    to e =
        let same : holder p m ≡ x = some_is (holder p m) x (sym has ∙ ap (holder_of s) (same_name_is freed n e) ∙ is) in
        subst (λ (h : Holder). (same_pid p h.pid && same_ref m h.monitor) ≡ true) same (both_true (same_pid p p) (same_ref m m) (same_pid_refl p) (same_ref_refl m))

    from : (same_pid p x.pid && same_ref m x.monitor) ≡ true → same_name freed n ≡ true
    from e =
        let same = one_name s (holder p m) freed n one has (is ∙ ap Some (sym (holder_is p m x e))) in
        subst (λ (a : Name). same_name freed a ≡ true) same (same_name_refl freed)

-- of a name that this holder has, or nobody, once the name of a holder is freed
freed_named : (s : NamesState) (p : Pid) (m : Ref) (freed n : Name) (o : Option Holder) → IsOneToOne s → holder_of s freed ≡ Some (holder p m) → holder_of s n ≡ o
    → cond (same_name freed n) None o ≡ unless_of p m o
freed_named s p m freed n None one has is = neither (same_name freed n)
freed_named s p m freed n (Some x) one has is = ap (λ (b : Bool). cond b None (Some x)) (same_test s p m freed n x one has is)

-- and where no name has the holder
freed_none : (s : NamesState) (p : Pid) (m : Ref) (n : Name) (o : Option Holder) → (holder_of s n ≡ Some (holder p m) → ⊥) → holder_of s n ≡ o → o ≡ unless_of p m o
freed_none s p m n None none is = refl
freed_none s p m n (Some x) none is = ap (λ (b : Bool). cond b None (Some x)) (sym (both (same_pid p x.pid && same_ref m x.monitor) false to (λ e. absurd (let f : false ≡ true = e in cc))))
  where
    to : (same_pid p x.pid && same_ref m x.monitor) ≡ true → false ≡ true
    to e = absurd (none (is ∙ ap Some (sym (holder_is p m x e))))

frees : (p : Pid) (m : Ref) (old : NamesState) (o : Option Name) (new : NamesState) (n : Name) → IsOneToOne old → FreesName (holder p m) old o new → holder_of new n ≡ unless_of p m (holder_of old n)
frees p m old (Some freed) new n one u = u.1.holders n ∙ freed_named old p m freed n (holder_of old n) one u.0 refl
frees p m old None new n one u = ap (λ (s : NamesState). holder_of s n) u.1 ∙ freed_none old p m n (holder_of old n) (u.0 n) refl

showed : (i : Item) (old : NamesState) (o : Option Name) (new : NamesState) (n : Name) → IsOneToOne old → HearsNames i old o new → holder_of new n ≡ unless_down i (holder_of old n)
showed (Down m p reason) old o new n one h = frees p m old o new n one h
showed (User from body) old o new n one h = ap (λ (s : NamesState). holder_of s n) h.1
showed (Exit from reason) old o new n one h = ap (λ (s : NamesState). holder_of s n) h.1
showed (Alive m p alive) old o new n one h = ap (λ (s : NamesState). holder_of s n) h.1

pub keep_monitors : KeepMonitors
keep_monitors [] s h n = h.holders n
keep_monitors (registered other p m ∷ past) s h n = h.2.1.holders n ∙ ap (cond (same_name other n) (Some (record { pid = p; monitor = m }))) (keep_monitors past h.0 h.1 n)
keep_monitors (unregistered other x ∷ past) s h n = h.2.1.holders n ∙ ap (cond (same_name other n) None) (keep_monitors past h.0 h.1 n)
keep_monitors (shown i freed ∷ past) s h n = showed i h.0 freed s n (leads_one past h.0 h.1) h.2 ∙ ap (unless_down i) (keep_monitors past h.0 h.1 n)
