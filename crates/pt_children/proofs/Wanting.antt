-- Permanent children are to live, whatever a supervisor hears.
use Rattle.std.proofs.Common.{◌≡◌, ℕ, zero, suc, ◌<◌, Bool, true, false, cond, ◌&&◌, ◌||◌, not, List, length, Option, Some, None, is_some, slice_get, slice_set, set, inl, inr, refl, ap, sym, subst, ◌∙◌, arith}
use Rattle.std.specs.Prelude.{nat_le, position}
use Rattle.std.proofs.lemmas.Bool.{cases_eq}
use Rattle.std.proofs.lemmas.List.{get_or-set_same, get_or-set_other, length-set}
use Rattle.std.proofs.lemmas.Option.{slice_get_within, slice_get-get_or, get_or_from_slice_get}
use Rattle.pt_signal.specs.declared.pid.Pid.{Pid}
use Rattle.pt_signal.specs.declared.reason.Reason.{Reason}
use Rattle.pt_children.specs.declared.children.Child.{Child}
use Rattle.pt_children.specs.declared.restart.Restart.{Restart}
use Rattle.pt_children.specs.Restarts.{ends_from}
use Rattle.pt_children.specs.Children.{IsWanted, PermanentAreWanted, is_missing, is_temporary, revived, revived_child, revive_in}
use Rattle.pt_signal.specs.Values.{is_pid}
use Rattle.pt_children.specs.Ending.{gone_in}
use Rattle.pt_children.specs.Limits.{allows}
use Rattle.pt_children.specs.declared.trial.Trial.TheVariants.{Again}
use Rattle.pt_children.specs.Trying.{has_failed_first}
use Rattle.pt_children.specs.Hearing.{Standing, first_heeded, gone_heard, gone_on, gone, heard, heard_at, heard_gone, heeded_at, heeded_in, lives_again, lost, wanted_again, restarted_child, started_again, stopped, to_try, tried_again, tried_child, tried_where}
use Rattle.pt_children.proofs.Cases.{by_cases}

pub set_same : (xs : List Child) (i : ℕ) (v : Child) → i < length xs → slice_get (slice_set xs i v) i ≡ Some v
set_same xs i v l = slice_get-get_or (set xs i v) i v (omega (arith, length-set xs i v, l)) ∙ ap Some (get_or-set_same xs i v v l)

pub set_other : (xs : List Child) (i j : ℕ) (v x : Child) → (j ≡ i → ⊥) → slice_get (slice_set xs i v) j ≡ Some x → slice_get xs j ≡ Some x
set_other xs i j v x apart at =
    let within : j < length (set xs i v) = slice_get_within (set xs i v) j x at in
    slice_get-get_or xs j x (omega (arith, length-set xs i v, within)) ∙ ap Some (sym (get_or-set_other xs i j v x apart) ∙ get_or_from_slice_get (set xs i v) j x x at)

pub set_keeps : (xs : List Child) (i j : ℕ) (v x : Child) → (j ≡ i → ⊥) → slice_get xs j ≡ Some x → slice_get (slice_set xs i v) j ≡ Some x
set_keeps xs i j v x apart at =
    let within : j < length xs = slice_get_within xs j x at in
    slice_get-get_or (set xs i v) j x (omega (arith, length-set xs i v, within)) ∙ ap Some (get_or-set_other xs i j v x apart ∙ get_or_from_slice_get xs j x x at)

pub same_child : (c d : Child) → Some c ≡ Some d → c ≡ d
same_child c d e = cc

-- one child becomes another one, which is to live where the first one is
pub kept_wanted : (children : List Child) (place : ℕ) (c v : Child) → slice_get children place ≡ Some c → v.restart ≡ c.restart
    → (c.restart ≡ Restart.Permanent → IsWanted c → IsWanted v) → PermanentAreWanted children → PermanentAreWanted (slice_set children place v)
kept_wanted children place c v at same wants k j x here is = elim (cases_eq j place) [
  | inl e ↦ (
      let there : slice_get (slice_set children place v) place ≡ Some x = ap (slice_get (slice_set children place v)) (sym e) ∙ here in
      let same_x : v ≡ x = same_child v x (sym (set_same children place v (slice_get_within children place c at)) ∙ there) in
      let permanent : c.restart ≡ Restart.Permanent = sym same ∙ (ap (λ (y : Child). y.restart) same_x ∙ is) in
      subst IsWanted same_x (wants permanent (k place c at permanent))
      )
  | inr apart ↦ k j x (set_other children place j v x apart here) is
]

and_both : (a b : Bool) → a ≡ true → b ≡ true → (a && b) ≡ true
and_both true b is too = too
and_both false b is too = absurd (cc)

permanent_again : (bidden : Bool) (restart : Restart) (reason : Reason) → restart ≡ Restart.Permanent → lives_again bidden restart reason ≡ true
permanent_again true restart reason is = ap (λ (r : Restart). not (is_temporary r)) is
permanent_again false restart reason is = ap (λ (r : Restart). lives_again false r reason) is

-- children that are to live again -----------------------------------------------------------------

-- the same child, which is to live where it was
pub record Kin (c x : Child) : Type 0 where
  pub pid : x.pid ≡ c.pid
  pub restart : x.restart ≡ c.restart
  pub wants : IsWanted c → IsWanted x

kin_same : (c : Child) → Kin c c
kin_same c = record { pid = refl; restart = refl; wants = λ w. w }

kin_then : (c d x : Child) → Kin c d → Kin d x → Kin c x
kin_then c d x a b = record { pid = b.pid ∙ a.pid; restart = b.restart ∙ a.restart; wants = λ w. b.wants (a.wants w) }

kin_revived : (c : Child) → Kin c (revived_child c)
kin_revived c = record { pid = refl; restart = refl; wants = λ w. (ap (λ (b : Bool). b || not (is_temporary c.restart)) w.0, refl) }

one_get : (xs : List Child) (n j : ℕ) (x : Child) (o : Option Child) → slice_get xs n ≡ o → slice_get (revive_in o n xs) j ≡ Some x → (c : Child) × (slice_get xs j ≡ Some c) × Kin c x
one_get xs n j x None there at = (x, at, kin_same x)
one_get xs n j x (Some c) there at = elim (cases_eq j n) [
  | inl e ↦ (
      let here : slice_get (slice_set xs n (revived_child c)) n ≡ Some x = ap (slice_get (slice_set xs n (revived_child c))) (sym e) ∙ at in
      let same : revived_child c ≡ x = same_child (revived_child c) x (sym (set_same xs n (revived_child c) (slice_get_within xs n c there)) ∙ here) in
      (c, ap (slice_get xs) e ∙ there, subst (Kin c) same (kin_revived c))
      )
  | inr apart ↦ (x, set_other xs n j (revived_child c) x apart at, kin_same x)
]

one_kept : (xs : List Child) (n j : ℕ) (c : Child) (o : Option Child) → slice_get xs n ≡ o → slice_get xs j ≡ Some c → (x : Child) × (slice_get (revive_in o n xs) j ≡ Some x) × Kin c x
one_kept xs n j c None there at = (c, at, kin_same c)
one_kept xs n j c (Some d) there at = elim (cases_eq j n) [
  | inl e ↦ (
      let same : d ≡ c = same_child d c (sym there ∙ (ap (slice_get xs) (sym e) ∙ at)) in
      (revived_child d, ap (slice_get (slice_set xs n (revived_child d))) e ∙ set_same xs n (revived_child d) (slice_get_within xs n d there), subst (λ (y : Child). Kin y (revived_child d)) same (kin_revived d))
      )
  | inr apart ↦ (c, set_keeps xs n j (revived_child d) c apart at, kin_same c)
]

pub revived_get : (xs : List Child) (first n j : ℕ) (x : Child) → slice_get (revived xs first n) j ≡ Some x → (c : Child) × (slice_get xs j ≡ Some c) × Kin c x
revived_get xs first zero j x at = (x, at, kin_same x)
revived_get xs first (suc n) j x at = by_cases (nat_le first n)
    (λ is.
    let m = one_get (revived xs first n) n j x (slice_get (revived xs first n) n) refl
    (subst (λ (b : Bool). slice_get (cond b (revive_in (slice_get (revived xs first n) n) n (revived xs first n)) (revived xs first n)) j ≡ Some x) is at) in
    let k = revived_get xs first n j m.0 m.1 in
    (k.0, k.1, kin_then k.0 m.0 x k.2 m.2))
    (λ no. revived_get xs first n j x (subst (λ (b : Bool). slice_get (cond b (revive_in (slice_get (revived xs first n) n) n (revived xs first n)) (revived xs first n)) j ≡ Some x) no at))

pub revived_kept : (xs : List Child) (first n j : ℕ) (c : Child) → slice_get xs j ≡ Some c → (x : Child) × (slice_get (revived xs first n) j ≡ Some x) × Kin c x
revived_kept xs first zero j c at = (c, at, kin_same c)
revived_kept xs first (suc n) j c at =
    let k = revived_kept xs first n j c at in
    by_cases (nat_le first n)
    (λ is.
    let m = one_kept (revived xs first n) n j k.0 (slice_get (revived xs first n) n) refl k.1 in (
      m.0,
      subst (λ (b : Bool). slice_get (cond b (revive_in (slice_get (revived xs first n) n) n (revived xs first n)) (revived xs first n)) j ≡ Some m.0) (sym is) m.1,
      kin_then c k.0 m.0 k.2 m.2,
    ))
    (λ no. (
      k.0,
      subst (λ (b : Bool). slice_get (cond b (revive_in (slice_get (revived xs first n) n) n (revived xs first n)) (revived xs first n)) j ≡ Some k.0) (sym no) k.1,
      k.2,
    ))

revived_keeps : (xs : List Child) (first n : ℕ) → PermanentAreWanted xs → PermanentAreWanted (revived xs first n)
revived_keeps xs first n k j x at is =
    let c = revived_get xs first n j x at in
    c.2.wants (k j c.0 c.1 (sym c.2.restart ∙ is))

-- what a restart does to the children ----------------------------------------------------------------

restarted_keeps : (allowed : Bool) (now place id : ℕ) (reason : Reason) (s : Standing) → PermanentAreWanted s.children → PermanentAreWanted (restarted_child allowed now place id reason s).children
restarted_keeps true now place id reason s k = revived_keeps s.children (ends_from s.strategy place (length s.children)) (length s.children) k
restarted_keeps false now place id reason s k = k

again_wants : (again : Bool) (now place id : ℕ) (reason : Reason) (s : Standing) → PermanentAreWanted s.children → PermanentAreWanted (started_again again now place id reason s).children
again_wants true now place id reason s k = restarted_keeps (allows now s.span s.most s.times) now place id reason s k
again_wants false now place id reason s k = k

restarted_get : (allowed : Bool) (now place id : ℕ) (reason : Reason) (s : Standing) (j : ℕ) (x : Child) → slice_get (restarted_child allowed now place id reason s).children j ≡ Some x → (c : Child) × (slice_get s.children j ≡ Some c) × Kin c x
restarted_get true now place id reason s j x at = revived_get s.children (ends_from s.strategy place (length s.children)) (length s.children) j x at
restarted_get false now place id reason s j x at = (x, at, kin_same x)

pub again_get : (again : Bool) (now place id : ℕ) (reason : Reason) (s : Standing) (j : ℕ) (x : Child) → slice_get (started_again again now place id reason s).children j ≡ Some x → (c : Child) × (slice_get s.children j ≡ Some c) × Kin c x
again_get true now place id reason s j x at = restarted_get (allows now s.span s.most s.times) now place id reason s j x at
again_get false now place id reason s j x at = (x, at, kin_same x)

restarted_kept : (allowed : Bool) (now place id : ℕ) (reason : Reason) (s : Standing) (j : ℕ) (c : Child) → slice_get s.children j ≡ Some c → (x : Child) × (slice_get (restarted_child allowed now place id reason s).children j ≡ Some x) × Kin c x
restarted_kept true now place id reason s j c at = revived_kept s.children (ends_from s.strategy place (length s.children)) (length s.children) j c at
restarted_kept false now place id reason s j c at = (c, at, kin_same c)

pub again_kept : (again : Bool) (now place id : ℕ) (reason : Reason) (s : Standing) (j : ℕ) (c : Child) → slice_get s.children j ≡ Some c → (x : Child) × (slice_get (started_again again now place id reason s).children j ≡ Some x) × Kin c x
again_kept true now place id reason s j c at = restarted_kept (allows now s.span s.most s.times) now place id reason s j c at
again_kept false now place id reason s j c at = (c, at, kin_same c)

restarted_asked : (allowed : Bool) (now place id : ℕ) (reason : Reason) (s : Standing) → (restarted_child allowed now place id reason s).asked ≡ s.asked
restarted_asked true now place id reason s = refl
restarted_asked false now place id reason s = refl

pub again_asked : (again : Bool) (now place id : ℕ) (reason : Reason) (s : Standing) → (started_again again now place id reason s).asked ≡ s.asked
again_asked true now place id reason s = restarted_asked (allows now s.span s.most s.times) now place id reason s
again_asked false now place id reason s = refl

restarted_count : (allowed : Bool) (now place id : ℕ) (reason : Reason) (s : Standing) → (restarted_child allowed now place id reason s).started ≡ s.started
restarted_count true now place id reason s = refl
restarted_count false now place id reason s = refl

pub again_count : (again : Bool) (now place id : ℕ) (reason : Reason) (s : Standing) → (started_again again now place id reason s).started ≡ s.started
again_count true now place id reason s = restarted_count (allows now s.span s.most s.times) now place id reason s
again_count false now place id reason s = refl

lost_keeps : (now : ℕ) (reason : Reason) (place : ℕ) (c : Option Child) (s : Standing) → slice_get s.children place ≡ c → PermanentAreWanted s.children
    → PermanentAreWanted (lost now reason place c s).children
lost_keeps now reason place None s at k = k
lost_keeps now reason place (Some c) s at k =
    let bidden = nat_le s.ending place in
    let v = gone bidden reason c in
    again_wants (not bidden && wanted_again bidden reason c) now place c.id reason (record s { children = slice_set s.children place v })
    (kept_wanted s.children place c v at refl (λ is w. (and_both c.wanted (lives_again bidden c.restart reason) w.0 (permanent_again bidden c.restart reason is), w.1)) k)

at_keeps : (at : Option ℕ) (now : ℕ) (reason : Reason) (s : Standing) → PermanentAreWanted s.children → PermanentAreWanted (heard_at at now reason s).children
at_keeps None now reason s k = k
at_keeps (Some place) now reason s k = lost_keeps now reason place (slice_get s.children place) s refl k

parent_or : (is : Bool) (reason : Reason) (s other : Standing) → PermanentAreWanted s.children → PermanentAreWanted other.children
    → PermanentAreWanted (cond is (stopped reason s) other).children
parent_or true reason s other k h = k
parent_or false reason s other k h = h

pub heard_keeps : (now : ℕ) (from : Pid) (reason : Reason) (s : Standing) → PermanentAreWanted s.children → PermanentAreWanted (heard now from reason s).children
heard_keeps now from reason s k =
    parent_or (is_pid s.parent from) reason s (heard_at (position (λ (c : Child). is_pid c.pid from) s.children) now reason s) k
    (at_keeps (position (λ (c : Child). is_pid c.pid from) s.children) now reason s k)

gone_keeps : (o : Option Pid) (now : ℕ) (s : Standing) → PermanentAreWanted s.children → PermanentAreWanted (heard_gone o now s).children
gone_keeps None now s k = k
gone_keeps (Some p) now s k = heard_keeps now p Reason.Noproc (record s { asked = None }) k

pub found_keeps : (now : ℕ) (s : Standing) → PermanentAreWanted s.children → PermanentAreWanted (gone_heard now s).children
found_keeps now s k = gone_keeps (gone_in s.asked) now s k

-- a child is tried again
tried_keeps : (now place : ℕ) (o : Option Child) (s : Standing) → slice_get s.children place ≡ o → PermanentAreWanted s.children → PermanentAreWanted (tried_child now place o s).children
tried_keeps now place None s at k = k
tried_keeps now place (Some c) s at k =
    let v = record c { trial = Again } in
    again_wants true now place c.id Reason.Noproc (record s { children = slice_set s.children place v }) (kept_wanted s.children place c v at refl (λ is w. (w.0, refl)) k)

where_keeps : (o : Option ℕ) (now : ℕ) (s : Standing) → PermanentAreWanted s.children → PermanentAreWanted (tried_where o now s).children
where_keeps None now s k = k
where_keeps (Some place) now s k = tried_keeps now place (slice_get s.children place) s refl k

pub again_keeps : (now : ℕ) (s : Standing) → PermanentAreWanted s.children → PermanentAreWanted (tried_again now s).children
again_keeps now s k = where_keeps (to_try s) now s k

pub on_keeps : (now : ℕ) (s : Standing) → PermanentAreWanted s.children → PermanentAreWanted (gone_on now s).children
on_keeps now s k = again_keeps now (gone_heard now s) (found_keeps now s k)

-- where it gives up its children stay, and whom it ends
abbrev pub SameRest : Standing → Standing → Type 0
SameRest s t = (t.children ≡ s.children) × (t.asked ≡ s.asked) × (t.started ≡ s.started)

heeded_rest : (place : ℕ) (o : Option Child) (s : Standing) → SameRest s (heeded_in place o s)
heeded_rest place None s = (refl, refl, refl)
heeded_rest place (Some c) s = (refl, refl, refl)

at_rest : (o : Option ℕ) (s : Standing) → SameRest s (heeded_at o s)
at_rest None s = (refl, refl, refl)
at_rest (Some place) s = heeded_rest place (slice_get s.children place) s

pub first_rest : (s : Standing) → SameRest s (first_heeded s)
first_rest s = at_rest (position (λ (c : Child). has_failed_first c.trial) s.children) s

-- one that is to live and is not missing lives
lives_if : (wanted pid : Bool) → wanted ≡ true → (wanted && not pid) ≡ false → pid ≡ true
lives_if true true w m = refl
lives_if true false w m = absurd (cc)
lives_if false pid w m = absurd (cc)

pub lives_when_wanted : (c : Child) → c.wanted ≡ true → is_missing c ≡ false → is_some c.pid ≡ true
lives_when_wanted c w m = lives_if c.wanted (is_some c.pid) w m
