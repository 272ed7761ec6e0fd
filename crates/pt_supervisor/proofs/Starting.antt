-- Children that are started, one after the other.
use Rattle.std.proofs.Common.{◌≡◌, ℕ, zero, suc, ◌+◌, ◌<◌, ◌≤◌, cond, ◌||◌, ◌&&◌, not, Bool, true, false, List, [], ◌∷◌, length, slice_get, slice_set, is_some, Option, Some, None, inl, inr, refl, sym, ap, subst, ◌∙◌, add-one, arith}
use Rattle.std.specs.Prelude.{nat_le, MatchBool}
use Rattle.std.specs.List.{list_all}
use Rattle.std.proofs.lemmas.List.{length-set}
use Rattle.std.specs.Option.{option_map}
use Rattle.std.proofs.lemmas.Bool.{cases_eq, cases_lt}
use Rattle.std.proofs.lemmas.Option.{slice_get_cases, slice_get_within}
use Rattle.pt_signal.specs.declared.pid.Pid.{Pid}
use Rattle.pt_children.specs.declared.children.Child.{Child}
use Rattle.pt_children.specs.declared.children.Shutdown.{Shutdown}
use Rattle.pt_signal.specs.declared.item.Item.{Item}
use Rattle.pt_shard.specs.declared.fault.Fault.{Fault}
use Rattle.pt_events.specs.History.{Phase, unborn, living, ended}
use Rattle.pt_children.specs.declared.restart.Strategy.{Strategy}
use Rattle.pt_children.specs.declared.trial.Trial.{Trial}
use Rattle.pt_children.specs.declared.trial.Trial.TheVariants.{First, Again, Failed, Over}
use Rattle.pt_children.specs.Children.{AreStarted, IsWanted, NoneLives, NoneUnwanted, PermanentAreWanted, is_by_call, is_missing, last_alive, leaving, leaving_in, or_before}
use Rattle.pt_children.specs.Trying.{earlier, failed_at, failed_child, failed_trial, first_failed, goes_past, has_failed, is_accident, is_alone, is_startable, started_child, tried_in, unstarted_child}
use Rattle.pt_children.specs.Homes.{asked_child}
use Rattle.pt_children.specs.Spans.{NoneBetween}
use Rattle.pt_children.specs.Hearing.{Standing, first_heeded}
use Rattle.pt_desk.specs.DeskState.{DeskState}
use Rattle.pt_shard.specs.ShardState.{phase_of}
use Rattle.pt_behaviour.specs.declared.behaviour.Next.{Next}
use Rattle.pt_supervisor.specs.Supervising.{SetsAt, StartsAll, StartsAt, StartsOf, Nursery, StartsFirst, StartsOne, TriesAt, SupervisorScene, SupervisorSettles, Supervises, nursery}
use Rattle.pt_supervisor.specs.Ending.{next_behind, next_tried}
use Rattle.pt_children.proofs.Wanting.{first_rest, kept_wanted, set_same, set_other}

zero_le : (n : ℕ) → nat_le 0 n ≡ true
zero_le n = grind arith

none_before : {A : Type 0} (o before : Option A) → or_before o before ≡ None → (o ≡ None) × (before ≡ None)
none_before None before e = (refl, e)
none_before (Some a) before e = absurd (cc)

no_pid : (pid : Option Pid) (r : Shutdown) → option_map {U = Pid × Shutdown} (λ p. (p, r)) pid ≡ None → pid ≡ None
no_pid None r e = refl
no_pid (Some p) r e = absurd (cc)

same_child : (c d : Child) → Some c ≡ Some d → c ≡ d
same_child c d e = cc

not_leaving : (all : Bool) (o : Option Child) (c : Child) → leaving_in all o ≡ None → o ≡ Some c → (all || not c.wanted) ≡ true → c.pid ≡ None
not_leaving all None c e is ends = absurd (cc)
not_leaving all (Some d) c e is ends =
    let same : d ≡ c = same_child d c is in
    let here : (all || not d.wanted) ≡ true = ap (λ (x : Child). all || not x.wanted) same ∙ ends in
    subst (λ (x : Child). x.pid ≡ None) same (no_pid d.pid d.shutdown (subst (λ (b : Bool). cond b (leaving d) None ≡ None) here e))

none_below : (children : List Child) (first n : ℕ) → last_alive children first n ≡ None → (place : ℕ) (c : Child) → place < n → slice_get children place ≡ Some c → (nat_le first place || not c.wanted) ≡ true → c.pid ≡ None
none_below children first zero e place c l at ends = absurd (omega (arith, l))
none_below children first (suc n) e place c l at ends =
    let both = none_before (leaving_in (nat_le first n) (slice_get children n)) (last_alive children first n) e in
    elim (cases_lt place n) [
      | inl below ↦ none_below children first n both.1 place c below at ends
      | inr above ↦ (
          let is : place ≡ n = omega (arith, l, above) in
          not_leaving (nat_le first n) (slice_get children n) c both.0 (ap (slice_get children) (sym is) ∙ at) (ap (λ (k : ℕ). nat_le first k || not c.wanted) (sym is) ∙ ends)
          )
    ]

or_true : (a b : Bool) → b ≡ true → (a || b) ≡ true
or_true true b is = refl
or_true false b is = is

-- where none of those lives that are to end, none lives that is not wanted
pub none_unwanted : (children : List Child) (ending : ℕ) → last_alive children ending (length children) ≡ None → NoneUnwanted children
none_unwanted children ending e place c at unwanted =
    none_below children ending (length children) e place c (slice_get_within children place c at) at (or_true (nat_le ending place) (not c.wanted) (ap not unwanted))

-- one that is missing is wanted
pub missing_wanted : (c : Child) → is_missing c ≡ true → c.wanted ≡ true
missing_wanted c is = go c.wanted (not (is_some c.pid)) is
  where
    go : (a b : Bool) → (a && b) ≡ true → a ≡ true
    go true b h = refl
    go false b h = absurd (cc)

-- a child gets another form, which has no process if it is not wanted
unwanted_set : (children : List Child) (place : ℕ) (c v : Child) → slice_get children place ≡ Some c → (v.wanted ≡ false → v.pid ≡ None) → NoneUnwanted children → NoneUnwanted (slice_set children place v)
unwanted_set children place c v at bare none j x here off = elim (cases_eq j place) [
  | inl e ↦ (
      let there : slice_get (slice_set children place v) place ≡ Some x = ap (slice_get (slice_set children place v)) (sym e) ∙ here in
      let same : v ≡ x = same_child v x (sym (set_same children place v (slice_get_within children place c at)) ∙ there) in
      sym (ap (λ (y : Child). y.pid) same) ∙ bare (ap (λ (y : Child). y.wanted) same ∙ off)
      )
  | inr apart ↦ none j x (set_other children place j v x apart here) off
]

sets_at : (children : List Child) (place : ℕ) (c v : Child) → slice_get children place ≡ Some c → v.restart ≡ c.restart → (IsWanted c → IsWanted v) → (v.wanted ≡ false → v.pid ≡ None) → SetsAt place children (slice_set children place v)
sets_at children place c v at same wants bare = record {
  count = length-set children place v;
  permanent = kept_wanted children place c v at same (λ is w. wants w);
  unwanted = unwanted_set children place c v at bare;
}

-- none is changed
pub sets_none : (place : ℕ) (old new : List Child) → new ≡ old → SetsAt place old new
sets_none place old new is = record {
  count = ap length is;
  permanent = λ k. subst PermanentAreWanted (sym is) k;
  unwanted = λ k. subst NoneUnwanted (sym is) k;
}

-- one that is due is missing
and_left : (a b : Bool) → (a && b) ≡ true → a ≡ true
and_left true b h = refl
and_left false b h = absurd (cc)

pub due_missing : (c : Child) → is_startable c ≡ true → is_missing c ≡ true
due_missing c is = and_left (is_missing c) (not (has_failed c.trial)) is

pub missing_bare : (c : Child) → is_missing c ≡ true → c.pid ≡ None
missing_bare c missing = go c.wanted c.pid missing
  where
    go : (wanted : Bool) (pid : Option Pid) → (wanted && not (is_some pid)) ≡ true → pid ≡ None
    go true None h = refl
    go true (Some p) h = absurd (cc)
    go false pid h = absurd (cc)

-- it was started
pub started_sets : (children : List Child) (place : ℕ) (c : Child) (p : Pid) → slice_get children place ≡ Some c → is_startable c ≡ true → SetsAt place children (slice_set children place (started_child p c))
started_sets children place c p at due =
    sets_at children place c (started_child p c) at refl (λ w. (w.0, refl))
    (λ off. absurd (let bad : true ≡ false = sym (missing_wanted c (due_missing c due)) ∙ off in cc))

-- or the program was asked to start it
pub asked_sets : (children : List Child) (place : ℕ) (c : Child) → slice_get children place ≡ Some c → is_startable c ≡ true → SetsAt place children (slice_set children place (asked_child c))
asked_sets children place c at due =
    sets_at children place c (asked_child c) at refl (λ w. w) (λ off. missing_bare c (due_missing c due))

-- or it was not
asked_still : (clock : ℕ) (t : Trial) → is_by_call t ≡ false → is_by_call (failed_trial clock t) ≡ false
asked_still clock First h = refl
asked_still clock Trial.Asked h = absurd (cc)
asked_still clock Again h = refl
asked_still clock (Failed at) h = refl
asked_still clock Over h = refl

wants_still : (clock : ℕ) (accident : Bool) (c : Child) → IsWanted c → IsWanted (cond accident c (failed_child clock c))
wants_still clock true c w = w
wants_still clock false c w = ((λ i. w.0 i && not (w.1 i)), asked_still clock c.trial w.1)

same_restart : (clock : ℕ) (accident : Bool) (c : Child) → (cond accident c (failed_child clock c)).restart ≡ c.restart
same_restart clock true c = refl
same_restart clock false c = refl

same_pid_of : (clock : ℕ) (accident : Bool) (c : Child) → (cond accident c (failed_child clock c)).pid ≡ c.pid
same_pid_of clock true c = refl
same_pid_of clock false c = refl

pub unstarted_pid : (clock : ℕ) (f : Fault) (c : Child) → (unstarted_child clock f c).pid ≡ c.pid
unstarted_pid clock f c = same_pid_of clock (is_accident f) c

pub unstarted_restart : (clock : ℕ) (f : Fault) (c : Child) → (unstarted_child clock f c).restart ≡ c.restart
unstarted_restart clock f c = same_restart clock (is_accident f) c

pub unstarted_wants : (clock : ℕ) (f : Fault) (c : Child) → IsWanted c → IsWanted (unstarted_child clock f c)
unstarted_wants clock f c = wants_still clock (is_accident f) c

pub unstarted_sets : (children : List Child) (place : ℕ) (c : Child) (clock : ℕ) (f : Fault) → slice_get children place ≡ Some c → is_startable c ≡ true → SetsAt place children (slice_set children place (unstarted_child clock f c))
unstarted_sets children place c clock f at due =
    sets_at children place c (unstarted_child clock f c) at (unstarted_restart clock f c) (unstarted_wants clock f c)
    (λ off. unstarted_pid clock f c ∙ missing_bare c (due_missing c due))

-- none is missing, by the test of all
not_missing : (b : Bool) → not b ≡ true → b ≡ false
not_missing true h = absurd (cc)
not_missing false h = refl

and_right : (a b : Bool) → (a && b) ≡ true → b ≡ true
and_right true b h = h
and_right false b h = absurd (cc)

pub all_are_started : (children : List Child) (n : ℕ) → list_all (λ (c : Child). not (is_missing c)) children ≡ true → AreStarted children n
all_are_started [] n all place c l at = absurd (cc)
all_are_started (d ∷ more) n all zero c l at =
    not_missing (is_missing c) (ap (λ (x : Child). not (is_missing x)) (sym (same_child d c at)) ∙ and_left (not (is_missing d)) (list_all (λ (x : Child). not (is_missing x)) more) all)
all_are_started (d ∷ more) n all (suc place) c l at =
    all_are_started more (suc place) (and_right (not (is_missing d)) (list_all (λ (x : Child). not (is_missing x)) more) all) place c (omega arith) at

-- the first one that failed stands in a place
abbrev first_of : Option (ℕ × ℕ) → ℕ → ℕ
first_of None d = d
first_of (Some x) d = x.0

earlier_within : (before : Option (ℕ × ℕ)) (n : ℕ) (at : Option ℕ) (r : ℕ × ℕ) → ((b : ℕ × ℕ) → before ≡ Some b → b.0 < n) → earlier before n at ≡ Some r → r.0 < suc n
earlier_within before n None r below is = let h = below r is in omega (arith, h)
earlier_within None n (Some at) r below is = let same : n ≡ r.0 = ap (λ (o : Option (ℕ × ℕ)). first_of o n) is in omega (arith, same)
earlier_within (Some (p, first)) n (Some at) r below is = go (nat_le first at) is
  where
    go : (b : Bool) → cond b (Some (p, first)) (Some (n, at)) ≡ Some r → r.0 < suc n
    go true h = let same : p ≡ r.0 = ap (λ (o : Option (ℕ × ℕ)). first_of o n) h in let l = below (p, first) refl in omega (arith, same, l)
    go false h = let same : n ≡ r.0 = ap (λ (o : Option (ℕ × ℕ)). first_of o n) h in omega (arith, same)

pub failed_within : (children : List Child) (n : ℕ) (r : ℕ × ℕ) → first_failed children n ≡ Some r → r.0 < n
failed_within children zero r is = absurd (cc)
failed_within children (suc n) r is = earlier_within (first_failed children n) n (tried_in (slice_get children n)) r (λ b h. failed_within children n b h) is

-- what it does next where some are missing
behind_supervises : (items : List Item) (s : Standing) → Supervises (next_behind items) s
behind_supervises [] s = tt
behind_supervises (i ∷ items) s = refl

pub tried_supervises : (f : Phase) (s : Standing) → Supervises (next_tried f) s
tried_supervises unborn s = tt
tried_supervises (living st) s = behind_supervises st.waiting s
tried_supervises (ended r st) s = tt

-- where some are missing still
pub settles : {S B : Type 0} (starts : StartsOf S B) (me : Pid) (old mid new : SupervisorScene S B) (next : Next)
    → StartsAll starts me old.standing.strategy (length old.standing.children) (nursery old) false (nursery mid)
    → mid.standing ≡ record (old.standing) { children = mid.standing.children; started = mid.standing.started; ending = length old.standing.children; asked = None }
    → new.standing ≡ first_heeded mid.standing → new.start ≡ mid.start → new.desk ≡ mid.desk → new.born ≡ mid.born → next ≡ next_tried (phase_of mid.desk.shard me)
    → SupervisorSettles starts me None old next new
settles {S} {B} starts me old mid new next does rest heeded start desk born tried = (
  false,
  subst (StartsAll starts me old.standing.strategy (length old.standing.children) (nursery old) false) (sym same) does,
  tried ∙ ap (λ (d : DeskState). next_tried (phase_of d.shard me)) (sym desk),
  heeded ∙ ap first_heeded (rest ∙ λ i. record (old.standing) { children = sym kids i; started = sym count i; ending = length old.standing.children; asked = None }),
)
  where
    kids : new.standing.children ≡ mid.standing.children
    kids = ap (λ (s : Standing). s.children) heeded ∙ (first_rest mid.standing).0

    count : new.standing.started ≡ mid.standing.started
    count = ap (λ (s : Standing). s.started) heeded ∙ (first_rest mid.standing).2

    same : nursery new ≡ nursery mid
    same i = record { start = start i; children = kids i; started = count i; desk = (desk i).shard; born = born i }

-- where all are to end and none of those lives, none does
pub none_live : (children : List Child) (ending : ℕ) → ending ≡ 0 → last_alive children ending (length children) ≡ None → NoneLives children
none_live children ending is e place c at =
    none_below children 0 (length children) (subst (λ (first : ℕ). last_alive children first (length children) ≡ None) is e) place c (slice_get_within children place c at) at
    (ap (λ (b : Bool). b || not c.wanted) (zero_le place))

-- one more
pub first_more : {S B : Type 0} (starts : StartsOf S B) (me : Pid) (strategy : Strategy) (n : ℕ) (old mid new : Nursery S B)
    → StartsFirst starts me strategy n old mid → StartsOne starts me strategy n mid true new → StartsFirst starts me strategy (n + 1) old new
first_more starts me strategy n old mid new first one =
    subst (λ (k : ℕ). StartsFirst starts me strategy k old new) (sym (add-one n)) (mid, first, one)

-- those that are not missing are passed over
one_past : {S B : Type 0} (starts : StartsOf S B) (me : Pid) (strategy : Strategy) (place : ℕ) (c : Child) (mid : Nursery S B)
    → slice_get mid.children place ≡ Some c → is_missing c ≡ false → StartsOne starts me strategy place mid true mid
one_past starts me strategy place c mid at there =
    subst (λ (o : Option Child). StartsAt starts me strategy place o mid true mid) (sym at) (
      sym (ap (goes_past strategy) at ∙ ap (λ (b : Bool). not b || (is_some (failed_at c.trial) && is_alone strategy)) there),
      subst (λ (b : Bool). MatchBool b (TriesAt starts me place c mid mid) (mid ≡ mid)) (sym (ap (λ (b : Bool). b && not (has_failed c.trial)) there)) refl,
    )

pub first_past : {S B : Type 0} (starts : StartsOf S B) (me : Pid) (strategy : Strategy) (n k : ℕ) (old mid : Nursery S B)
    → StartsFirst starts me strategy n old mid → n ≤ k → k ≤ length mid.children → NoneBetween is_missing n k mid.children → StartsFirst starts me strategy k old mid
first_past starts me strategy n zero old mid first l w none =
    let e : n ≡ 0 = omega (arith, l) in
    subst (λ (i : ℕ). StartsFirst starts me strategy i old mid) e first
first_past starts me strategy n (suc k) old mid first l w none = elim (cases_lt k n) [
  | inl less ↦ (let e : n ≡ suc k = omega (arith, l, less) in subst (λ (i : ℕ). StartsFirst starts me strategy i old mid) e first)
  | inr more ↦ elim (slice_get_cases mid.children k).1 [
    | inl x ↦ (
      mid,
      first_past starts me strategy n k old mid first more (omega (arith, w)) (λ j y a b at. none j y a (omega (arith, b)) at),
      one_past starts me strategy k x.0 mid x.2 (none k x.0 more (omega arith) x.2),
    )
    | inr past ↦ (let p = past.0 in absurd (omega (arith, p, w)))
  ]
]
