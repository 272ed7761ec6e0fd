-- What an item that a supervisor hears leaves of its children.
use Rattle.std.proofs.Common.{◌≡◌, ◌⊎◌, inl, inr, ℕ, ◌<◌, ◌≤◌, Bool, true, false, cond, ◌&&◌, not, List, length, slice_get, slice_set, get_or, Option, Some, None, refl, sym, ap, subst, ◌∙◌, arith}
use Rattle.std.specs.Prelude.{nat_lt, nat_le, position}
use Rattle.std.proofs.lemmas.Bool.{cases_eq}
use Rattle.std.proofs.lemmas.Option.{slice_get_within, slice_get-get_or, get_or_from_slice_get}
use Rattle.std.proofs.lemmas.List.Quantifiers.{position-Some}
use Rattle.std.proofs.lemmas.List.Sums.{fails_before_first}
use Rattle.std.specs.List.{position_or_len}
use Rattle.pt_signal.specs.declared.pid.Pid.{Pid}
use Rattle.pt_signal.specs.declared.item.Item.{Item}
use Rattle.pt_signal.specs.declared.reason.Reason.{Reason}
use Rattle.pt_signal.specs.Values.{same_pid, is_pid}
use Rattle.pt_signal.proofs.Same.{same_pid_refl, same_pid_is}
use Rattle.pt_children.proofs.Cases.{by_cases}
use Rattle.pt_children.specs.declared.children.Child.{Child}
use Rattle.pt_children.specs.Children.{NoneLives}
use Rattle.pt_children.specs.Hearing.{Standing, gone, heard, heard_at, lost, restarted_child, started_again, stopped, wanted_again}
use Rattle.pt_children.specs.Limits.{allows}
use Rattle.pt_children.specs.Families.{pid_of_child, child_at, is_end_of}
use Rattle.pt_children.proofs.Wanting.{set_same, set_other, set_keeps, again_get, again_kept, again_asked, again_count}

-- children in their places ---------------------------------------------------------------------

child_in : (o : Option Child) (q : Pid) → pid_of_child o ≡ Some q → (c : Child) × (o ≡ Some c) × (c.pid ≡ Some q)
child_in None q is = absurd (cc)
child_in (Some c) q is = (c, refl, is)

pub child_is : (children : List Child) (place : ℕ) (q : Pid) → child_at children place ≡ Some q → (c : Child) × (slice_get children place ≡ Some c) × (c.pid ≡ Some q)
child_is children place q is = child_in (slice_get children place) q is

pub none_at : (children : List Child) (place : ℕ) (q : Pid) → NoneLives children → child_at children place ≡ Some q → ⊥
none_at children place q none is =
    let c = child_is children place q is in
    let bad : None ≡ Some q = sym (none place c.0 c.1) ∙ c.2 in absurd (cc)

pub set_at : (children : List Child) (place : ℕ) (c v : Child) → slice_get children place ≡ Some c → child_at (slice_set children place v) place ≡ v.pid
set_at children place c v at = ap pid_of_child (set_same children place v (slice_get_within children place c at))

pub set_beside : (children : List Child) (place j : ℕ) (v : Child) (q : Pid) → (j ≡ place → ⊥) → child_at (slice_set children place v) j ≡ Some q → child_at children j ≡ Some q
set_beside children place j v q apart is =
    let x = child_is (slice_set children place v) j q is in
    ap pid_of_child (set_other children place j v x.0 apart x.1) ∙ x.2

pub set_same_at : (children : List Child) (place j : ℕ) (v : Child) (q : Pid) → (j ≡ place → ⊥) → child_at children j ≡ Some q → child_at (slice_set children place v) j ≡ Some q
set_same_at children place j v q apart is =
    let x = child_is children j q is in
    ap pid_of_child (set_keeps children place j v x.0 apart x.1) ∙ x.2

-- what is left of the children after an item -----------------------------------------------------

pub record Less (item : Item) (old new : Standing) : Type 0 where
  pub sub : (j : ℕ) (q : Pid) → child_at new.children j ≡ Some q → child_at old.children j ≡ Some q
  pub stop : new.stopping ≡ None → old.stopping ≡ None
  pub out : new.stopping ≡ None → (j : ℕ) (q : Pid) → child_at new.children j ≡ Some q → is_end_of q item ≡ false
  -- whoever loses its place is the one of whose end the item tells
  pub kept : (j : ℕ) (q : Pid) → child_at old.children j ≡ Some q → (child_at new.children j ≡ Some q) ⊎ (is_end_of q item ≡ true)
  pub count : new.started ≡ old.started

restarted_stop : (allowed : Bool) (now place id : ℕ) (reason : Reason) (s : Standing) → (restarted_child allowed now place id reason s).stopping ≡ None → s.stopping ≡ None
restarted_stop true now place id reason s h = h
restarted_stop false now place id reason s h = absurd (cc)

pub again_stop : (again : Bool) (now place id : ℕ) (reason : Reason) (s : Standing) → (started_again again now place id reason s).stopping ≡ None → s.stopping ≡ None
again_stop true now place id reason s h = restarted_stop (allows now s.span s.most s.times) now place id reason s h
again_stop false now place id reason s h = h

-- who stands in a place, by the test of its pid
of_is : (pid : Option Pid) (p : Pid) → is_pid pid p ≡ true → pid ≡ Some p
of_is None p h = absurd (cc)
of_is (Some q) p h = ap Some (same_pid_is q p h)

of_not : (c : Child) (q from : Pid) → c.pid ≡ Some q → is_pid c.pid from ≡ false → same_pid q from ≡ false
of_not c q from is no_of = sym (ap (λ (o : Option Pid). is_pid o from) is) ∙ no_of

-- who stands in no place, by the test of its pid
pub none_of : (from : Pid) (children : List Child) → position (λ (c : Child). is_pid c.pid from) children ≡ None → (j : ℕ) (q : Pid) → child_at children j ≡ Some q → same_pid q from ≡ false
none_of from children nowhere j q is =
    let x = child_is children j q is in
    let within : j < length children = slice_get_within children j x.0 x.1 in
    let at : get_or children j x.0 ≡ x.0 = get_or_from_slice_get children j x.0 x.0 x.1 in
    let past : length children ≤ position_or_len (λ (c : Child). is_pid c.pid from) children = past_end nowhere in
    of_not x.0 q from x.2 (ap (λ (c : Child). is_pid c.pid from) (sym at) ∙ fails_before_first (λ (c : Child). is_pid c.pid from) children j x.0 (omega (arith, within, past)))
  where
    past_end : cond (nat_lt (position_or_len (λ (c : Child). is_pid c.pid from) children) (length children)) (Some (position_or_len (λ (c : Child). is_pid c.pid from) children)) None ≡ None
        → length children ≤ position_or_len (λ (c : Child). is_pid c.pid from) children
    past_end h = grind (arith, h)

module _ (now : ℕ) (from : Pid) (reason : Reason) (s : Standing) (apart : (i j : ℕ) (q : Pid) → child_at s.children i ≡ Some q → child_at s.children j ≡ Some q → i ≡ j) where
  test : Child → Bool
  test c = is_pid c.pid from

  one_of : (place : ℕ) → position (λ (c : Child). is_pid c.pid from) s.children ≡ Some place → (d : Child) → (slice_get s.children place ≡ Some (get_or s.children place d)) × (child_at s.children place ≡ Some from)
  one_of place found d =
      let p = position-Some (λ (c : Child). is_pid c.pid from) s.children place d found in
      let at : slice_get s.children place ≡ Some (get_or s.children place d) = slice_get-get_or s.children place d p.0 in
      (at, ap pid_of_child at ∙ of_is (get_or s.children place d).pid from p.1)

  less_lost : (place : ℕ) (c : Option Child) → position (λ (x : Child). is_pid x.pid from) s.children ≡ Some place → slice_get s.children place ≡ c → (r : Reason) → Less (Item.Exit from r) s (lost now reason place c s)
  less_lost place None found at r = record {
    sub = λ j q is. is;
    stop = λ h. h;
    out = λ h j q is.
        let x = child_is s.children j q is in
        let one = one_of place found x.0 in
        let bad : None ≡ Some (get_or s.children place x.0) = sym at ∙ one.0 in absurd (cc);
    kept = λ j q is. inl is;
    count = refl;
  }
  less_lost place (Some c) found at r = record {
    kept = λ j q is. elim (cases_eq j place) [
      | inl same ↦ inr (from_is q (sym is ∙ ap (child_at s.children) same ∙ (one_of place found c).1))
      | inr other ↦ inl (onward j q (set_same_at s.children place j v q other is))
    ];
    count = again_count again now place c.id reason t;
    sub = λ j q is. elim (cases_eq j place) [
      | inl same ↦ absurd (here j q is same)
      | inr other ↦ set_beside s.children place j v q other (before j q is)
    ];
    stop = λ h. again_stop again now place c.id reason t h;
    out = λ h j q is. elim (cases_eq j place) [
      | inl same ↦ absurd (here j q is same)
      | inr other ↦ by_cases (same_pid q from)
          (λ e. let one = one_of place found c in absurd (other (apart j place from (set_beside s.children place j v q other (before j q is) ∙ ap Some (same_pid_is q from e)) one.1)))
          (λ e. e)
    ];
  }
    where
      bidden : Bool
      bidden = nat_le s.ending place

      again : Bool
      again = not bidden && wanted_again bidden reason c

      v : Child
      v = gone bidden reason c

      t : Standing
      t = record s { children = slice_set s.children place v }

      from_is : (q : Pid) → Some q ≡ Some from → same_pid q from ≡ true
      from_is q is = let same : q ≡ from = cc in subst (λ (x : Pid). same_pid q x ≡ true) same (same_pid_refl q)

      before : (j : ℕ) (q : Pid) → child_at (started_again again now place c.id reason t).children j ≡ Some q → child_at (slice_set s.children place v) j ≡ Some q
      before j q is =
          let x = child_is (started_again again now place c.id reason t).children j q is in
          let k = again_get again now place c.id reason t j x.0 x.1 in
          ap pid_of_child k.1 ∙ (sym k.2.pid ∙ x.2)

      onward : (j : ℕ) (q : Pid) → child_at (slice_set s.children place v) j ≡ Some q → child_at (started_again again now place c.id reason t).children j ≡ Some q
      onward j q is =
          let x = child_is (slice_set s.children place v) j q is in
          let k = again_kept again now place c.id reason t j x.0 x.1 in
          ap pid_of_child k.1 ∙ (k.2.pid ∙ x.2)

      here : (j : ℕ) (q : Pid) → child_at (started_again again now place c.id reason t).children j ≡ Some q → j ≡ place → ⊥
      here j q is same =
          let bad : None ≡ Some q = sym (set_at s.children place c v at) ∙ ap (child_at (slice_set s.children place v)) (sym same) ∙ before j q is in absurd (cc)

  less_at : (at : Option ℕ) → position (λ (x : Child). is_pid x.pid from) s.children ≡ at → (r : Reason) → Less (Item.Exit from r) s (heard_at at now reason s)
  less_at None nowhere r = record { sub = λ j q is. is; stop = λ h. h; out = λ h j q is. none_of from s.children nowhere j q is; kept = λ j q is. inl is; count = refl }
  less_at (Some place) found r = less_lost place (slice_get s.children place) found refl r

  less_parent : (is : Bool) (other : Standing) (r : Reason) → Less (Item.Exit from r) s other → Less (Item.Exit from r) s (cond is (stopped reason s) other)
  less_parent true other r h = record { sub = λ j q is. is; stop = λ h. absurd (cc); out = λ h. absurd (cc); kept = λ j q is. inl is; count = refl }
  less_parent false other r h = h

  pub less_heard : Less (Item.Exit from reason) s (heard now from reason s)
  less_heard =
      less_parent (is_pid s.parent from) (heard_at (position (λ (c : Child). is_pid c.pid from) s.children) now reason s) reason
      (less_at (position (λ (c : Child). is_pid c.pid from) s.children) refl reason)

-- what it hears leaves whom it ends
lost_asked : (now : ℕ) (reason : Reason) (place : ℕ) (c : Option Child) (s : Standing) → (lost now reason place c s).asked ≡ s.asked
lost_asked now reason place None s = refl
lost_asked now reason place (Some c) s =
    let bidden = nat_le s.ending place in
    again_asked (not bidden && wanted_again bidden reason c) now place c.id reason (record s { children = slice_set s.children place (gone bidden reason c) })

at_asked : (at : Option ℕ) (now : ℕ) (reason : Reason) (s : Standing) → (heard_at at now reason s).asked ≡ s.asked
at_asked None now reason s = refl
at_asked (Some place) now reason s = lost_asked now reason place (slice_get s.children place) s

parent_asked : (is : Bool) (reason : Reason) (s other : Standing) → other.asked ≡ s.asked → (cond is (stopped reason s) other).asked ≡ s.asked
parent_asked true reason s other h = refl
parent_asked false reason s other h = h

pub heard_asked : (now : ℕ) (from : Pid) (reason : Reason) (s : Standing) → (heard now from reason s).asked ≡ s.asked
heard_asked now from reason s =
    parent_asked (is_pid s.parent from) reason s (heard_at (position (λ (c : Child). is_pid c.pid from) s.children) now reason s)
    (at_asked (position (λ (c : Child). is_pid c.pid from) s.children) now reason s)

-- nor does it count anybody
lost_count : (now : ℕ) (reason : Reason) (place : ℕ) (c : Option Child) (s : Standing) → (lost now reason place c s).started ≡ s.started
lost_count now reason place None s = refl
lost_count now reason place (Some c) s =
    let bidden = nat_le s.ending place in
    again_count (not bidden && wanted_again bidden reason c) now place c.id reason (record s { children = slice_set s.children place (gone bidden reason c) })

at_count : (at : Option ℕ) (now : ℕ) (reason : Reason) (s : Standing) → (heard_at at now reason s).started ≡ s.started
at_count None now reason s = refl
at_count (Some place) now reason s = lost_count now reason place (slice_get s.children place) s

parent_count : (is : Bool) (reason : Reason) (s other : Standing) → other.started ≡ s.started → (cond is (stopped reason s) other).started ≡ s.started
parent_count true reason s other h = refl
parent_count false reason s other h = h

pub heard_count : (now : ℕ) (from : Pid) (reason : Reason) (s : Standing) → (heard now from reason s).started ≡ s.started
heard_count now from reason s =
    parent_count (is_pid s.parent from) reason s (heard_at (position (λ (c : Child). is_pid c.pid from) s.children) now reason s)
    (at_count (position (λ (c : Child). is_pid c.pid from) s.children) now reason s)
