-- Where each process of a supervisor's children is.
use Rattle.std.proofs.Common.{◌≡◌, inl, inr, ℕ, ◌+◌, ◌<◌, ◌≤◌, Bool, true, false, cond, List, [], ◌∷◌, ◌++◌, length, slice_get, slice_set, Option, Some, None, is_some, refl, sym, ap, ◌∙◌, arith}
use Rattle.std.specs.Prelude.{IfSome, nat_le, position}
use Rattle.std.proofs.lemmas.Bool.{cases_eq, cases_lt}
use Rattle.std.proofs.lemmas.Option.{slice_get_within}
use Rattle.pt_signal.specs.declared.pid.Pid.{Pid}
use Rattle.pt_signal.specs.Values.{is_pid, same_pid}
use Rattle.pt_signal.proofs.Same.{same_pid_refl, same_pid_is}
use Rattle.pt_children.specs.declared.children.Child.{Child}
use Rattle.pt_children.specs.declared.spans.Kind.TheVariants.{Alive}
use Rattle.pt_children.specs.declared.spans.Spans.{Spans}
use Rattle.pt_children.specs.Families.{child_at, pid_of_child}
use Rattle.pt_children.specs.Spans.{AreSpans, KnowsPlaces, KnowsBelow, KnowsBut, is_kind}
use Rattle.pt_children.proofs.Cases.{by_cases}
use Rattle.pt_children.proofs.Hearing.{child_is}
use Rattle.pt_children.proofs.Spanning.{at_most, none_in, position_here, position_nowhere, push_other}
use Rattle.pt_children.proofs.Wanting.{set_other}

of_is : (pid : Option Pid) (p : Pid) → is_pid pid p ≡ true → pid ≡ Some p
of_is None p h = absurd (cc)
of_is (Some q) p h = ap Some (same_pid_is q p h)

same_place : (i j : ℕ) → Some i ≡ Some j → i ≡ j
same_place i j e = cc

-- the place of a process is known, or it has none
module _ (f : Pid → Option ℕ) (xs : List Child) (p : Pid) where
  at_it : KnowsPlaces f xs → (j : ℕ) (x : Child) → slice_get xs j ≡ Some x → is_pid x.pid p ≡ true → f p ≡ Some j
  at_it knows j x there agree = knows j p (ap pid_of_child there ∙ of_is x.pid p agree)

  pub known_at : KnowsPlaces f xs → (i : ℕ) → f p ≡ Some i → is_pid (child_at xs i) p ≡ true → position (λ (c : Child). is_pid c.pid p) xs ≡ Some i
  known_at knows i is here = go (slice_get xs i) refl here
    where
      go : (o : Option Child) → slice_get xs i ≡ o → is_pid (pid_of_child o) p ≡ true → position (λ (c : Child). is_pid c.pid p) xs ≡ Some i
      go None e h = absurd (cc)
      go (Some c) e h = position_here (λ (c : Child). is_pid c.pid p) xs i c e h
          (λ j x l there. by_cases (is_pid x.pid p)
          (λ agree. let e = same_place i j (sym is ∙ at_it knows j x there agree) in absurd (omega (arith, l, e)))
          (λ not_it. not_it))

  pub known_not : KnowsPlaces f xs → ((i : ℕ) → f p ≡ Some i → is_pid (child_at xs i) p ≡ false) → position (λ (c : Child). is_pid c.pid p) xs ≡ None
  known_not knows none = position_nowhere (λ (c : Child). is_pid c.pid p) xs
      (λ j x there. by_cases (is_pid x.pid p)
      (λ agree. ap (λ (o : Option Child). is_pid (pid_of_child o) p) (sym there) ∙ none j (at_it knows j x there agree))
      (λ not_it. not_it))

  pub not_at : (i : ℕ) → f p ≡ Some i → is_pid (child_at xs i) p ≡ false → (j : ℕ) → f p ≡ Some j → is_pid (child_at xs j) p ≡ false
  not_at i is here j there = ap (λ (k : ℕ). is_pid (child_at xs k) p) (same_place j i (sym there ∙ is)) ∙ here

  pub not_known : f p ≡ None → (j : ℕ) → f p ≡ Some j → is_pid (child_at xs j) p ≡ false
  not_known is j there = let bad : None ≡ Some j = sym is ∙ there in absurd (cc)

-- one that is at a place is noted, or taken out, or neither
abbrev Sets : Pid → Option ℕ → (Pid → Option ℕ) → (Pid → Option ℕ) → Type 0
Sets p o f g = (q : Pid) → g q ≡ cond (same_pid p q) o (f q)

other : (p : Pid) (o : Option ℕ) (f g : Pid → Option ℕ) (q : Pid) → Sets p o f g → (same_pid p q ≡ true → ⊥) → g q ≡ f q
other p o f g q sets apart = by_cases (same_pid p q)
    (λ agree. absurd (apart agree))
    (λ not_it. sets q ∙ ap (λ (b : Bool). cond b o (f q)) not_it)

set_here : (p q : Pid) (at : ℕ) (f g : Pid → Option ℕ) → q ≡ p → Sets p (Some at) f g → g q ≡ Some at
set_here p q at f g it sets = ap g it ∙ (sets p ∙ ap (λ (b : Bool). cond b (Some at) (f p)) (same_pid_refl p))

not_new : (f : Pid → Option ℕ) (p q : Pid) (j : ℕ) → f p ≡ None → f q ≡ Some j → same_pid p q ≡ true → ⊥
not_new f p q j new known agree = let bad : None ≡ Some j = sym new ∙ (ap f (same_pid_is p q agree) ∙ known) in absurd (cc)

same_pids : (q p : Pid) → Some q ≡ Some p → q ≡ p
same_pids q p e = cc

pub out_but : (f g : Pid → Option ℕ) (at : ℕ) (p : Pid) (xs : List Child) → f p ≡ Some at → Sets p None f g → KnowsBut at f xs → KnowsBut at g xs
out_but f g at p xs is sets knows j q apart there =
    let known = knows j q apart there in
    other p None f g q sets (λ agree. apart (same_place j at (sym known ∙ (ap f (sym (same_pid_is p q agree)) ∙ is)))) ∙ known

pub in_but : (f g : Pid → Option ℕ) (at : ℕ) (p : Pid) (xs : List Child) → child_at xs at ≡ Some p → f p ≡ None → Sets p (Some at) f g → KnowsBut at f xs → KnowsPlaces g xs
in_but f g at p xs here new sets knows j q there = elim (cases_eq j at) [
  | inl e ↦ set_here p q at f g (same_pids q p (sym there ∙ (ap (child_at xs) e ∙ here))) sets ∙ ap Some (sym e)
  | inr apart ↦ (
      let known = knows j q apart there in
      other p (Some at) f g q sets (not_new f p q j new known) ∙ known
      )
]

pub same_but : (f : Pid → Option ℕ) (at : ℕ) (xs : List Child) → ((p : Pid) → child_at xs at ≡ Some p → f p ≡ Some at) → KnowsBut at f xs → KnowsPlaces f xs
same_but f at xs has knows j q there = elim (cases_eq j at) [
  | inl e ↦ has q (ap (child_at xs) (sym e) ∙ there) ∙ ap Some (sym e)
  | inr apart ↦ knows j q apart there
]

pub set_knows : (f : Pid → Option ℕ) (at : ℕ) (xs : List Child) (v : Child) → KnowsPlaces f xs → KnowsBut at f (slice_set xs at v)
set_knows f at xs v knows j q apart there =
    let c = child_is (slice_set xs at v) j q there in
    knows j q (ap pid_of_child (set_other xs at j v c.0 apart c.1) ∙ c.2)

pub push_knows : (f : Pid → Option ℕ) (xs : List Child) (v : Child) → KnowsPlaces f xs → KnowsBut (length xs) f (xs ++ v ∷ [])
push_knows f xs v knows j q apart there =
    let c = child_is (xs ++ v ∷ []) j q there in
    knows j q (ap pid_of_child (push_other xs v j c.0 apart c.1) ∙ c.2)

-- one more is noted
pub below_in : (f g : Pid → Option ℕ) (n : ℕ) (p : Pid) (xs : List Child) → child_at xs n ≡ Some p → f p ≡ None → Sets p (Some n) f g → KnowsBelow n f xs → KnowsBelow (n + 1) g xs
below_in f g n p xs here new sets knows j q l there = elim (cases_lt j n) [
  | inl below ↦ (
      let known = knows j q below there in
      other p (Some n) f g q sets (not_new f p q j new known) ∙ known
      )
  | inr above ↦ (
      let e : j ≡ n = omega (arith, l, above) in
      set_here p q n f g (same_pids q p (sym there ∙ (ap (child_at xs) e ∙ here))) sets ∙ ap Some (sym e)
      )
]

pub below_none : (f : Pid → Option ℕ) (n : ℕ) (xs : List Child) → child_at xs n ≡ None → KnowsBelow n f xs → KnowsBelow (n + 1) f xs
below_none f n xs here knows j q l there = elim (cases_lt j n) [
  | inl below ↦ knows j q below there
  | inr above ↦ (
      let e : j ≡ n = omega (arith, l, above) in
      let bad : Some q ≡ None = sym there ∙ (ap (child_at xs) e ∙ here) in
      absurd (cc)
      )
]

pub below_all : (f : Pid → Option ℕ) (xs : List Child) (n : ℕ) → length xs ≤ n → KnowsBelow n f xs → KnowsPlaces f xs
below_all f xs n l knows j p there =
    let c = child_is xs j p there in
    let within : j < length xs = slice_get_within xs j c.0 c.1 in
    knows j p (omega (arith, within, l)) there

-- where no child has a process, each is known
pub none_knows : (f : Pid → Option ℕ) (s : Spans) (xs : List Child) → AreSpans s xs → nat_le s.alive.end s.alive.first ≡ true → KnowsPlaces f xs
none_knows f s xs spans empty j p there =
    let c = child_is xs j p there in
    let bad : false ≡ true = sym (none_in (is_kind Alive) s.alive xs spans.alive (at_most s.alive.end s.alive.first empty) j c.0 c.1) ∙ ap is_some c.2 in
    absurd (cc)

pub here_knows : (f : Pid → Option ℕ) (at : ℕ) (xs : List Child) (c : Child) → slice_get xs at ≡ Some c → KnowsPlaces f xs → IfSome c.pid (λ p. f p ≡ Some at)
here_knows f at xs c here knows = go c.pid (ap pid_of_child here)
  where
    go : (o : Option Pid) → child_at xs at ≡ o → IfSome o (λ p. f p ≡ Some at)
    go None e = tt
    go (Some p) e = knows at p e
