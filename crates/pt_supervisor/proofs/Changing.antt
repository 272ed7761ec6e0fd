-- What a program asks of a supervisor about its children keeps what the supervisor upholds of them.
use Rattle.std.proofs.Common.{◌≡◌, inl, inr, ℕ, zero, suc, ◌||◌, Bool, true, List, [], ◌∷◌, ◌++◌, slice_get, slice_set, Option, Some, None, refl, sym, ap, subst, ◌∙◌, arith}
use Rattle.std.specs.Prelude.{remove}
use Rattle.std.proofs.lemmas.Bool.{cases_eq}
use Rattle.pt_signal.specs.declared.pid.Pid.{Pid}
use Rattle.pt_children.specs.declared.children.Child.{Child}
use Rattle.pt_children.specs.declared.seen.ChildState.TheVariants.{Undefined}
use Rattle.pt_children.specs.Children.{NoneLives}
use Rattle.pt_signal.specs.declared.reason.Reason.{Reason}
use Rattle.pt_children.specs.declared.trial.Trial.TheVariants.{Again, Asked}
use Rattle.pt_children.specs.Hearing.{Standing, started_again, to_try, tried_again, tried_child, tried_where}
use Rattle.pt_supervisor.specs.Keeping.{HoldsChildren, HoldsWhere, Remembers, was_started}
use Rattle.pt_children.specs.Families.{IsPlaced, child_at, pid_of_child}
use Rattle.pt_supervisor.specs.Changed.{RemembersWhere}
use Rattle.pt_children.specs.Calling.{wanted_in, with_last_child, with_wanted, without_child}
use Rattle.pt_children.specs.Homes.{is_abroad}
use Rattle.pt_children.specs.Seen.{child_state, state_of_child}
use Rattle.pt_children.proofs.Wanting.{again_asked, again_count, again_get, again_kept}
use Rattle.pt_children.proofs.Hearing.{again_stop, child_is, none_at, set_at, set_beside, set_same_at}

-- the same children live, each in one place
pub record SameLive (old new : List Child) : Type 0 where
  pub from : ℕ → ℕ
  pub sub : (j : ℕ) (q : Pid) → child_at new j ≡ Some q → child_at old (from j) ≡ Some q
  pub apart : (i j : ℕ) → from i ≡ from j → i ≡ j
  pub kept : (j : ℕ) (q : Pid) → child_at old j ≡ Some q → IsPlaced new q

none_as : (old new : List Child) → SameLive old new → NoneLives old → NoneLives new
none_as old new same none place c at = go c.pid refl
  where
    go : (pid : Option Pid) → c.pid ≡ pid → pid ≡ None
    go None is = refl
    go (Some p) is = absurd (none_at old (same.from place) p none (same.sub place p (ap pid_of_child at ∙ is)))

-- so none is forgotten
pub remembers_where : (s t : Standing) → SameLive s.children t.children → t.started ≡ s.started → RemembersWhere s t
remembers_where s t same started past me d h = λ were q was.
    elim (h were q (subst (λ (n : ℕ). was_started past n me q d ≡ true) started was)) [
      | inl placed ↦ inl (same.kept placed.0 q placed.1)
      | inr told ↦ inr told
    ]

pub holds_where : (s t : Standing) → SameLive s.children t.children → t.stopping ≡ s.stopping → t.asked ≡ s.asked → t.started ≡ s.started → HoldsWhere s t
holds_where s t same stopping asked started past next me d h = record {
  remembers = remembers_where s t same started past me d h.remembers;
  traps = elim h.traps [
    | inl on ↦ inl on
    | inr none ↦ inr (none.0, none_as s.children t.children same none.1)
  ];
  family = record {
    born = λ place q is own. h.family.born (same.from place) q (same.sub place q is) own;
    apart = λ i j q a b. same.apart i j (h.family.apart (same.from i) (same.from j) q (same.sub i q a) (same.sub j q b));
    held = λ none place q is. h.family.held (sym stopping ∙ none) (same.from place) q (same.sub place q is);
  };
  asks = λ a is placed. h.asks a (sym asked ∙ is) (same.from placed.0, same.sub placed.0 a.pid placed.1);
}

pub holds_same : (s t : Standing) → t ≡ s → HoldsWhere s t
holds_same s t is past next me d h = subst (λ (x : Standing). HoldsChildren past x next me d) (sym is) h

pub remembers_same : (s t : Standing) → t ≡ s → RemembersWhere s t
remembers_same s t is past me d h = subst (λ (x : Standing). Remembers past x.children x.started me d) (sym is) h

-- one child becomes another with the same process
pub set_live : (xs : List Child) (place : ℕ) (c v : Child) → slice_get xs place ≡ Some c → v.pid ≡ c.pid → SameLive xs (slice_set xs place v)
set_live xs place c v at pid = record {
  from = λ j. j;
  sub = λ j q is. elim (cases_eq j place) [
    | inl e ↦ ap (child_at xs) e ∙ (ap pid_of_child at ∙ (sym pid ∙ (sym (set_at xs place c v at) ∙ (ap (child_at (slice_set xs place v)) (sym e) ∙ is))))
    | inr other ↦ set_beside xs place j v q other is
  ];
  apart = λ i j e. e;
  kept = λ j q is. elim (cases_eq j place) [
    | inl e ↦ (place, set_at xs place c v at ∙ (pid ∙ (sym (ap pid_of_child at) ∙ (ap (child_at xs) (sym e) ∙ is))))
    | inr other ↦ (j, set_same_at xs place j v q other is)
  ];
}

pub same_live : (xs : List Child) → SameLive xs xs
same_live xs = record { from = λ j. j; sub = λ j q is. is; apart = λ i j e. e; kept = λ j q is. (j, is) }

live_then : (xs ys zs : List Child) → SameLive xs ys → SameLive ys zs → SameLive xs zs
live_then xs ys zs a b = record {
  from = λ j. a.from (b.from j);
  sub = λ j q is. a.sub (b.from j) q (b.sub j q is);
  apart = λ i j e. b.apart i j (a.apart (b.from i) (b.from j) e);
  kept = λ j q is. let k = a.kept j q is in b.kept k.0 q k.1;
}

-- a restart
again_live : (again : Bool) (now place id : ℕ) (reason : Reason) (s : Standing) → SameLive s.children (started_again again now place id reason s).children
again_live again now place id reason s = record {
  from = λ j. j;
  sub = λ j q is.
      let x = child_is (started_again again now place id reason s).children j q is in
      let k = again_get again now place id reason s j x.0 x.1 in
      ap pid_of_child k.1 ∙ (sym k.2.pid ∙ x.2);
  apart = λ i j e. e;
  kept = λ j q is.
      let x = child_is s.children j q is in
      let k = again_kept again now place id reason s j x.0 x.1 in
      (j, ap pid_of_child k.1 ∙ (k.2.pid ∙ x.2));
}

-- a child that is tried again
pub record SameTried (s t : Standing) : Type 0 where
  pub live : SameLive s.children t.children
  pub stop : t.stopping ≡ None → s.stopping ≡ None
  pub asked : t.asked ≡ s.asked
  pub count : t.started ≡ s.started

tried_same : (now place : ℕ) (o : Option Child) (s : Standing) → slice_get s.children place ≡ o → SameTried s (tried_child now place o s)
tried_same now place None s at = record { live = same_live s.children; stop = λ h. h; asked = refl; count = refl }
tried_same now place (Some c) s at = record {
  live = live_then s.children (slice_set s.children place v) (started_again true now place c.id Reason.Noproc t).children (set_live s.children place c v at refl) (again_live true now place c.id Reason.Noproc t);
  stop = λ h. again_stop true now place c.id Reason.Noproc t h;
  asked = again_asked true now place c.id Reason.Noproc t;
  count = again_count true now place c.id Reason.Noproc t;
}
  where
    v : Child
    v = record c { trial = Again }

    t : Standing
    t = record s { children = slice_set s.children place v }

where_same : (o : Option ℕ) (now : ℕ) (s : Standing) → SameTried s (tried_where o now s)
where_same None now s = record { live = same_live s.children; stop = λ h. h; asked = refl; count = refl }
where_same (Some place) now s = tried_same now place (slice_get s.children place) s refl

pub again_same : (now : ℕ) (s : Standing) → SameTried s (tried_again now s)
again_same now s = where_same (to_try s) now s

wanted_live : (wanted : Bool) (place : ℕ) (o : Option Child) (xs : List Child) → slice_get xs place ≡ o → SameLive xs (wanted_in wanted place o xs)
wanted_live wanted place None xs at = same_live xs
wanted_live wanted place (Some c) xs at = set_live xs place c (record c { wanted = wanted; trial = Asked }) at refl

pub with_wanted_holds : (wanted : Bool) (place : ℕ) (s t : Standing) → t ≡ with_wanted wanted place s → HoldsWhere s t
with_wanted_holds wanted place s t is =
    subst (HoldsWhere s) (sym is) (holds_where s (with_wanted wanted place s) (wanted_live wanted place (slice_get s.children place) s.children refl) refl refl refl)

pub with_wanted_remembers : (wanted : Bool) (place : ℕ) (s t : Standing) → t ≡ with_wanted wanted place s → RemembersWhere s t
with_wanted_remembers wanted place s t is =
    subst (RemembersWhere s) (sym is) (remembers_where s (with_wanted wanted place s) (wanted_live wanted place (slice_get s.children place) s.children refl) refl)

-- an answer of the program about a child, which has the same process
pub set_holds : (place : ℕ) (c v : Child) (s t : Standing) → slice_get s.children place ≡ Some c → v.pid ≡ c.pid → t ≡ record s { children = slice_set s.children place v } → HoldsWhere s t
set_holds place c v s t at pid is =
    subst (HoldsWhere s) (sym is) (holds_where s (record s { children = slice_set s.children place v }) (set_live s.children place c v at pid) refl refl refl)

pub set_remembers : (place : ℕ) (c v : Child) (s t : Standing) → slice_get s.children place ≡ Some c → v.pid ≡ c.pid → t ≡ record s { children = slice_set s.children place v } → RemembersWhere s t
set_remembers place c v s t at pid is =
    subst (RemembersWhere s) (sym is) (remembers_where s (record s { children = slice_set s.children place v }) (set_live s.children place c v at pid) refl)

-- one more child ---------------------------------------------------------------------------------------------------

more_sub : (xs : List Child) (c : Child) (j : ℕ) (q : Pid) → c.pid ≡ None → child_at (xs ++ c ∷ []) j ≡ Some q → child_at xs j ≡ Some q
more_sub [] c zero q none is = absurd (let bad : None ≡ Some q = sym none ∙ is in cc)
more_sub [] c (suc j) q none is = is
more_sub (x ∷ xs) c zero q none is = is
more_sub (x ∷ xs) c (suc j) q none is = more_sub xs c j q none is

more_kept : (xs : List Child) (c : Child) (j : ℕ) (q : Pid) → child_at xs j ≡ Some q → child_at (xs ++ c ∷ []) j ≡ Some q
more_kept [] c j q is = absurd (let bad : None ≡ Some q = is in cc)
more_kept (x ∷ xs) c zero q is = is
more_kept (x ∷ xs) c (suc j) q is = more_kept xs c j q is

more_live : (xs : List Child) (c : Child) → c.pid ≡ None → SameLive xs (xs ++ c ∷ [])
more_live xs c none = record { from = λ j. j; sub = λ j q is. more_sub xs c j q none is; apart = λ i j e. e; kept = λ j q is. (j, more_kept xs c j q is) }

pub more_holds : (c : Child) (s t : Standing) → t ≡ with_last_child c s → HoldsWhere s t
more_holds c s t is =
    subst (HoldsWhere s) (sym is) (holds_where s (with_last_child c s) (more_live s.children (record c { pid = None; wanted = true; trial = Asked }) refl) refl refl refl)

pub more_remembers : (c : Child) (s t : Standing) → t ≡ with_last_child c s → RemembersWhere s t
more_remembers c s t is =
    subst (RemembersWhere s) (sym is) (remembers_where s (with_last_child c s) (more_live s.children (record c { pid = None; wanted = true; trial = Asked }) refl) refl)

-- one child less ---------------------------------------------------------------------------------------------------

-- where a child stood before one at a place was taken out
abbrev skip : ℕ → ℕ → ℕ
skip zero j = suc j
skip (suc p) zero = zero
skip (suc p) (suc j) = suc (skip p j)

skip_apart : (p i j : ℕ) → skip p i ≡ skip p j → i ≡ j
skip_apart zero i j e = omega (arith, e)
skip_apart (suc p) zero zero e = refl
skip_apart (suc p) zero (suc j) e = absurd (omega (arith, e))
skip_apart (suc p) (suc i) zero e = absurd (omega (arith, e))
skip_apart (suc p) (suc i) (suc j) e = ap suc (skip_apart p i j (omega (arith, e)))

less_sub : (xs : List Child) (p j : ℕ) (q : Pid) → child_at (remove xs p) j ≡ Some q → child_at xs (skip p j) ≡ Some q
less_sub [] zero j q is = absurd (let bad : None ≡ Some q = is in cc)
less_sub [] (suc p) j q is = absurd (let bad : None ≡ Some q = is in cc)
less_sub (x ∷ xs) zero j q is = is
less_sub (x ∷ xs) (suc p) zero q is = is
less_sub (x ∷ xs) (suc p) (suc j) q is = less_sub xs p j q is

less_kept : (xs : List Child) (p j : ℕ) (q : Pid) → child_at xs p ≡ None → child_at xs j ≡ Some q → IsPlaced (remove xs p) q
less_kept [] p j q none is = absurd (let bad : None ≡ Some q = is in cc)
less_kept (x ∷ xs) zero zero q none is = absurd (let bad : None ≡ Some q = sym none ∙ is in cc)
less_kept (x ∷ xs) zero (suc j) q none is = (j, is)
less_kept (x ∷ xs) (suc p) zero q none is = (zero, is)
less_kept (x ∷ xs) (suc p) (suc j) q none is = let k = less_kept xs p j q none is in (suc k.0, k.1)

less_live : (xs : List Child) (p : ℕ) → child_at xs p ≡ None → SameLive xs (remove xs p)
less_live xs p none = record { from = skip p; sub = less_sub xs p; apart = skip_apart p; kept = λ j q is. less_kept xs p j q none is }

-- one that does not run has no process
undefined_is : (pid : Option Pid) (wanted : Bool) → state_of_child pid wanted ≡ Undefined → pid ≡ None
undefined_is None wanted is = refl
undefined_is (Some p) wanted is = absurd (cc)

pub less_holds : (place : ℕ) (c : Child) (s t : Standing) → slice_get s.children place ≡ Some c → child_state c ≡ Undefined → t ≡ without_child place s → HoldsWhere s t
less_holds place c s t at none is =
    subst (HoldsWhere s) (sym is) (holds_where s (without_child place s) (less_live s.children place (ap pid_of_child at ∙ undefined_is c.pid (c.wanted || is_abroad c.home) none)) refl refl refl)

pub less_remembers : (place : ℕ) (c : Child) (s t : Standing) → slice_get s.children place ≡ Some c → child_state c ≡ Undefined → t ≡ without_child place s → RemembersWhere s t
less_remembers place c s t at none is =
    subst (RemembersWhere s) (sym is) (remembers_where s (without_child place s) (less_live s.children place (ap pid_of_child at ∙ undefined_is c.pid (c.wanted || is_abroad c.home) none)) refl)
