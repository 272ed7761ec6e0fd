-- The reason why no node prints an event, or a letter left over, found by tests, is the first that holds.
use Rattle.std.proofs.Common.{◌≡◌, ℕ, ◌+◌, ◌-◌, ◌^◌, ◌<◌, ◌≤◌, ◌==◌, min, max, pred, nat_lt, nat_le, Bool, true, false, cond, not, ◌&&◌, ◌||◌, ◌⊎◌, inl, inr, Option, Some, None, is_some, List, [], ◌∷◌, length, refl, ap, sym, ◌∙◌, subst, arith, sub-one}
use Rattle.std.specs.Prelude.{slice_get}
use Rattle.std.proofs.lemmas.Bool.{both_ways, and_parts, or_cases, or_parts, eq-eqb, ne_eqb, eqb-true, eqb-false, lt-ltb, le-ltb, ltb-true, ltb-false, leb-true, leb-false}
use Rattle.pt_signal.specs.declared.pid.Pid.{Pid}
use Rattle.pt_signal.specs.declared.ids.LinkId.{LinkId}
use Rattle.pt_signal.specs.declared.letter.Letter.{Letter}
use Rattle.pt_signal.specs.declared.signal.Signal.TheVariants.{Link, Monitor, AliveAsk}
use Rattle.pt_signal.specs.declared.config.TheConstants.{MAX_SLOTS, MAX_STAMP}
use Rattle.pt_signal.specs.Process.{Sent}
use Rattle.pt_events.specs.declared.event.Event.{Event}
use Rattle.pt_events.specs.declared.event.Event.TheVariants.{Born, Said, Came, Took, Flag, Left, Refused}
use Rattle.pt_events.specs.declared.event.Stamped.{Stamped}
use Rattle.pt_events.specs.History.{Past, Phase, unborn, living, ended, is_living, is_unborn, is_ended, reason_of, life, flying, is_born}
use Rattle.pt_events.specs.Journal.{events, clock, IsHome, IsLinkAt, IsNewAt, IsKnown}
use Rattle.pt_events.specs.Refusals.{stamped_below}
use Rattle.pt_judge.specs.Judging.{JudgeState, now_is}
use Rattle.pt_signal.specs.declared.letter.LeftOver.{LeftOver}
use Rattle.pt_auditor.specs.declared.desks.Desks.{Desks}
use Rattle.pt_auditor.specs.declared.foreign.Foreign.{Foreign}
use Rattle.pt_auditor.specs.declared.foreign.NoNode.{NoNode}
use Rattle.pt_auditor.specs.declared.foreign.NoNode.TheVariants.{Desk, Stamp, Slot, NoVersion, OtherDesk, OtherId, Version, Unborn, Ended, Seen, Overtakes, OtherStamp, OtherTurn}
use Rattle.pt_auditor.specs.Lanes.{letters_laid, stamp_noted, goes_between, letters_flying, letters_still, lane, IsFirstInLane, clock_of}
use Rattle.pt_auditor.specs.Seen.{is_noted}
use Rattle.pt_auditor.specs.Foreigners.{IsToDesk, IsNodeDesk, IsNodeStamp, IsNodeSlot, IsNodeVersion, top_of, reaches, GoesToNoEnded, GoesToNoneSeen, ComesInOrder, IsNextStamp, IsStillBelow, MayBegin, IsInTime, IsNamedByNode, IsNoNode, IsJudgedForeign, last_lane, IsInTurnOf, HasItsStamp, IsJudgedLeft, AllFromNode, IsOrigin}
use Rattle.pt_auditor.specs.Foreigners.{Decides, is_to_desk, is_node_desk, is_node_stamp, is_node_slot, is_node_version, is_home, is_link_at, is_new_at, has_ended, is_next_version, was_born, is_known, goes_to_no_ended, goes_to_none_seen, is_in_turn, first_laid, is_between_them, is_in_order, is_begin, may_begin, is_above_both, is_in_time, no_place, no_name, first_reason, no_node, has_its_stamp, is_in_turn_of, no_left, first_foreign}
use Rattle.pt_auditor.specs.Hearings.{follows, newest, is_above, EventsAreRising, IsNodeAfter, IsAfterRest}
use Rattle.pt_auditor.proofs.Rested.{same_ended, same_unborn}

tells : (b : Bool) (P : Type 0) → (b ≡ true → P) → (b ≡ false → ¬ P) → Decides b P
tells true P h k = h refl
tells false P h k = k refl

both : (a b : Bool) (P Q : Type 0) → Decides a P → Decides b Q → Decides (a && b) (P × Q)
both true true P Q p q = (p, q)
both true false P Q p q = λ h. q h.1
both false b P Q p q = λ h. p h.0

same : (m n : ℕ) → Decides (m == n) (m ≡ n)
same m n = tells (m == n) (m ≡ n) (eqb-true m n) (eqb-false m n)

either : (a b : Bool) (P Q : Type 0) → Decides a P → Decides b Q → Decides (a || b) (P ⊎ Q)
either true b P Q p q = inl p
either false true P Q p q = inr q
either false false P Q p q = λ h. elim h as (λ _. ⊥) [ inl x ↦ p x | inr y ↦ q y ]

below : (m n : ℕ) → Decides (nat_lt m n) (m < n)
below m n = tells (nat_lt m n) (m < n) (ltb-true m n) (λ e h. omega (arith, ltb-false m n e, h))

upto : (m n : ℕ) → Decides (nat_le m n) (m ≤ n)
upto m n = tells (nat_le m n) (m ≤ n) (leb-true m n) (λ e h. omega (arith, leb-false m n e, h))

to_desk : (e : Event) → Decides (is_to_desk e) (IsToDesk e)
to_desk (Born p parent link) = tt
to_desk (Said a b x) = below b.shard 64
to_desk (Came a b x) = tt
to_desk (Took p k i) = tt
to_desk (Flag p on) = tt
to_desk (Left p r) = tt
to_desk (Refused a b) = tt

node_desk : (s : Stamped) → Decides (is_node_desk s) (IsNodeDesk s)
node_desk s = both (nat_lt s.desk 64) (is_to_desk s.event) (s.desk < 64) (IsToDesk s.event) (below s.desk 64) (to_desk s.event)

node_stamp : (n : ℕ) → Decides (is_node_stamp n) (IsNodeStamp n)
node_stamp n = both (nat_lt 0 n) (nat_le n MAX_STAMP) (0 < n) (n ≤ MAX_STAMP) (below 0 n) (upto n MAX_STAMP)

node_slot : (e : Event) → Decides (is_node_slot e) (IsNodeSlot e)
node_slot (Born p parent link) = below p.slot MAX_SLOTS
node_slot (Said a b x) = below b.slot MAX_SLOTS
node_slot (Came a b x) = tt
node_slot (Took p k i) = tt
node_slot (Flag p on) = tt
node_slot (Left p r) = tt
node_slot (Refused a b) = tt

node_version : (e : Event) → Decides (is_node_version e) (IsNodeVersion e)
node_version (Born p parent link) = tt
node_version (Said a b x) = below 0 b.version
node_version (Came a b x) = tt
node_version (Took p k i) = tt
node_version (Flag p on) = tt
node_version (Left p r) = tt
node_version (Refused a b) = tt

alone : (b : Bool) (P : Type 0) → Decides b P → Decides b (P × Unit {0})
alone true P p = (p, tt)
alone false P p = λ h. p h.0

home : (d : ℕ) (e : Event) → Decides (is_home d e) (IsHome d e)
home d (Born p None link) = alone (p.shard == d) (p.shard ≡ d) (same p.shard d)
home d (Born p (Some q) link) = both (p.shard == d) (q.shard == d) (p.shard ≡ d) (q.shard ≡ d) (same p.shard d) (same q.shard d)
home d (Said a b x) = same a.shard d
home d (Came a b x) = same b.shard d
home d (Took p k i) = same p.shard d
home d (Flag p on) = same p.shard d
home d (Left p r) = same p.shard d
home d (Refused a b) = same a.shard d

id_at : (d n desk number : ℕ) → Decides ((desk == d) && (number == n)) ((desk ≡ d) × (number ≡ n))
id_at d n desk number = both (desk == d) (number == n) (desk ≡ d) (number ≡ n) (same desk d) (same number n)

link_at : (d n : ℕ) (o : Option LinkId) → Decides (is_link_at d n o) (IsLinkAt d n o)
link_at d n None = tt
link_at d n (Some i) = id_at d n i.desk i.number

new_at : (d n : ℕ) (e : Event) → Decides (is_new_at d n e) (IsNewAt d n e)
new_at d n (Born p parent link) = link_at d n link
new_at d n (Said a b (Link i)) = id_at d n i.desk i.number
new_at d n (Said a b (Monitor m)) = id_at d n m.desk m.number
new_at d n (Said a b (AliveAsk m)) = id_at d n m.desk m.number
new_at d n (Said a b x) = tt
new_at d n (Came a b x) = tt
new_at d n (Took p k i) = tt
new_at d n (Flag p on) = tt
new_at d n (Left p r) = tt
new_at d n (Refused a b) = tt

-- what is known of other pids ---------------------------------------------------------------

ended_is : (f : Phase) → is_some (reason_of f) ≡ is_ended f
ended_is unborn = refl
ended_is (living s) = refl
ended_is (ended r s) = refl

born_is : (f : Phase) → (is_living f || is_some (reason_of f)) ≡ not (is_unborn f)
born_is unborn = refl
born_is (living s) = refl
born_is (ended r s) = refl

-- a newborn's version, and what is said to a pid of the desk, by the life of the pid
version_of : (v : ℕ) (over : Bool) → Decides (cond (nat_lt v 2) (v == 1) over) ((0 < v) × (v ≤ v) × (1 < v → over ≡ true))
version_of v over = go (nat_lt v 2) refl
  where
    go : (b : Bool) → nat_lt v 2 ≡ b → Decides (cond b (v == 1) over) ((0 < v) × (v ≤ v) × (1 < v → over ≡ true))
    go true e =
        tells (v == 1) _ (λ h. (omega (arith, eqb-true v 1 h), omega arith, λ more. absurd (omega (arith, more, ltb-true v 2 e))))
        (λ h k. eqb-false v 1 h (omega (arith, k.0, ltb-true v 2 e)))
    go false e = tells over _ (λ h. (omega (arith, ltb-false v 2 e), omega arith, λ more. h)) (λ h k. both_ways over h (k.2 (omega (arith, ltb-false v 2 e))))

said_of : (here : ℕ) (d : ℕ) (born lost : Bool) → born ≡ not lost → Decides (not (here == d) || born) (here ≡ d → lost ≡ false)
said_of here d born lost e = go (here == d) refl lost (sym e)
  where
    go : (b : Bool) → (here == d) ≡ b → (l : Bool) → not l ≡ born → Decides (not b || born) (here ≡ d → l ≡ false)
    go false h l k = λ z. absurd (eqb-false here d h z)
    go true h true k = subst (λ c. Decides c (here ≡ d → true ≡ false)) k (λ f. absurd (both_ways true (f (eqb-true here d h)) refl))
    go true h false k = subst (λ c. Decides c (here ≡ d → false ≡ false)) k (λ z. refl)

-- what is said to a process that has ended
ended_of : (r : Bool) (here d : ℕ) (over : Bool) → Decides (not (r && (here == d) && over)) (r ≡ true → here ≡ d → over ≡ false)
ended_of r here d over = go r (here == d) refl over
  where
    go : (r b : Bool) → (here == d) ≡ b → (over : Bool) → Decides (not (r && b && over)) (r ≡ true → here ≡ d → over ≡ false)
    go false b h over = λ z. absurd (cc)
    go true false h over = λ z y. absurd (eqb-false here d h y)
    go true true h false = λ z y. refl
    go true true h true = λ f. absurd (both_ways true (f refl (eqb-true here d h)) refl)

-- what is said to a process of which the desk has seen that it has ended
seen_of : (r over : Bool) → Decides (not (r && over)) (r ≡ true → over ≡ false)
seen_of false over = λ z. absurd (cc)
seen_of true false = λ z. refl
seen_of true true = λ f. absurd (both_ways true (f refl) refl)

-- all tests together ------------------------------------------------------------------------

-- the version of a newborn, and the receiver of what is said, are as they have to be; or which of the two is not
abbrev pub Turn : ℕ → Past → Event → Bool → Bool → Type 0
Turn d past e false f = (is_born e ≡ true) × ¬ IsKnown [] d (top_of e) past e
Turn d past e true false = (is_born e ≡ false) × ¬ IsKnown [] d (top_of e) past e
Turn d past e true true = IsKnown [] d (top_of e) past e

-- what an event is alone, or the first reason why no node prints it anywhere
abbrev pub IsJudgedName : List Stamped → Stamped → Option NoNode → Type 0
IsJudgedName past s None = IsNamedByNode s
IsJudgedName past s (Some why) = IsNoNode past s why

name : (past : List Stamped) (s : Stamped) (a b c v d e : Bool) → Decides a (IsNodeDesk s) → Decides b (IsNodeStamp s.stamp) → Decides c (IsNodeSlot s.event) → Decides v (IsNodeVersion s.event) → Decides d (IsHome s.desk s.event)
    → Decides e (IsNewAt s.desk s.stamp s.event)
    → IsJudgedName past s (cond a (cond b (cond c (cond v (cond d (cond e None (Some OtherId)) (Some OtherDesk)) (Some NoVersion)) (Some Slot)) (Some Stamp)) (Some Desk))
name past s false b c v d e ta tb tc tv td te = ta
name past s true false c v d e ta tb tc tv td te = (ta, tb)
name past s true true false v d e ta tb tc tv td te = (ta, tb, tc)
name past s true true true false d e ta tb tc tv td te = (ta, tb, tc, tv)
name past s true true true true false e ta tb tc tv td te = (ta, tb, tc, tv, td)
name past s true true true true true false ta tb tc tv td te = (ta, tb, tc, tv, td, te)
name past s true true true true true true ta tb tc tv td te = record { desk = ta; stamp = tb; slot = tc; version = tv; home = td; new_at = te }

named : (past : List Stamped) (s : Stamped) → IsJudgedName past s (no_name s)
named past s =
    name past s (is_node_desk s) (is_node_stamp s.stamp) (is_node_slot s.event) (is_node_version s.event) (is_home s.desk s.event) (is_new_at s.desk s.stamp s.event)
    (node_desk s) (node_stamp s.stamp) (node_slot s.event) (node_version s.event) (home s.desk s.event) (new_at s.desk s.stamp s.event)

place : (past : List Stamped) (s : Stamped) → IsNamedByNode s → (e f u w g h : Bool) → Turn s.desk (events past) s.event e f → Decides u (GoesToNoEnded (events past) s.desk s.event)
    → Decides w (GoesToNoneSeen (events past) s.desk s.event) → Decides g (ComesInOrder past s.event) → Decides h (IsInTime past s.desk s.stamp s.event)
    → IsJudgedForeign past s (cond e (cond f (cond u (cond w (cond g (cond h None (Some OtherStamp)) (Some Overtakes)) (Some Seen)) (Some Ended)) (Some Unborn)) (Some Version))
place past s n false f u w g h t a b o i = (n, t.0, t.1)
place past s n true false u w g h t a b o i = (n, t.0, t.1)
place past s n true true false w g h t a b o i = (n, t, a)
place past s n true true true false g h t a b o i = (n, t, a, b)
place past s n true true true true false h t a b o i = (n, t, a, b, o)
place past s n true true true true true false t a b o i = (n, t, a, b, o, i)
place past s n true true true true true true t a b o i = record { named = n; known = t; alive = a; unseen = b; order = o; time = i }

module _ (since : Option Stamped) (k : JudgeState) (past : Past) (after : IsAfterRest since past k) where
  next_version : (p : Pid) → Decides (is_next_version k p) ((0 < p.version) × (p.version ≤ p.version) × (1 < p.version → is_ended (life [] past (record p { version = pred p.version })) ≡ true))
  next_version p =
      let q : Pid = record p { version = p.version - 1 } in
      let over : has_ended k q ≡ is_ended (life [] past (record p { version = pred p.version })) =
      ended_is (now_is k q) ∙ same_ended (now_is k q) (life [] past q) (after.alike q) ∙ ap (λ n. is_ended (life [] past (record p { version = n }))) (sub-one p.version)
      in
      subst (λ c. Decides (cond (nat_lt p.version 2) (p.version == 1) (has_ended k q)) ((0 < p.version) × (p.version ≤ p.version) × (1 < p.version → c ≡ true))) over
      (version_of p.version (has_ended k q))

  said_known : (d : ℕ) (b : Pid) → Decides (not (b.shard == d) || was_born k b) (b.shard ≡ d → is_unborn (life [] past b) ≡ false)
  said_known d b = said_of b.shard d (was_born k b) (is_unborn (life [] past b)) (born_is (now_is k b) ∙ ap not (same_unborn (now_is k b) (life [] past b) (after.alike b)))

  ended_told : (d : ℕ) (e : Event) → Decides (goes_to_no_ended k d e) (GoesToNoEnded past d e)
  ended_told d (Said a b x) =
      let over : has_ended k b ≡ is_ended (life [] past b) = ended_is (now_is k b) ∙ same_ended (now_is k b) (life [] past b) (after.alike b) in
      subst (λ c. Decides (not (reaches x && (b.shard == d) && has_ended k b)) (reaches x ≡ true → b.shard ≡ d → c ≡ false)) over (ended_of (reaches x) b.shard d (has_ended k b))
  ended_told d (Born p parent link) = tt
  ended_told d (Came a b x) = tt
  ended_told d (Took p j i) = tt
  ended_told d (Flag p on) = tt
  ended_told d (Left p r) = tt
  ended_told d (Refused a b) = tt

  turn_of : (d : ℕ) (e : Event) → Turn d past e (is_in_turn k e) (is_known k d e)
  turn_of d (Born p parent link) = go (is_next_version k p) (next_version p)
    where
      go : (b : Bool) → Decides b (IsKnown [] d p.version past (Born p parent link)) → Turn d past (Born p parent link) b true
      go true t = t
      go false t = (refl, t)
  turn_of d (Said a b x) = go (is_known k d (Said a b x)) (said_known d b)
    where
      go : (c : Bool) → Decides c (IsKnown [] d 0 past (Said a b x)) → Turn d past (Said a b x) true c
      go true t = t
      go false t = (refl, t)
  turn_of d (Came a b x) = tt
  turn_of d (Took p j i) = tt
  turn_of d (Flag p on) = tt
  turn_of d (Left p r) = tt
  turn_of d (Refused a b) = tt

-- letters in order, and stamps ---------------------------------------------------------------

none_some : {X : Type 0} (x : X) → None ≡ Some x → ⊥
none_some x h = absurd (cc)

some_is : {X : Type 0} (x y : X) → Some x ≡ Some y → x ≡ y
some_is x y h = cc

-- what is said of the stamp of the first letter, if there is one
some_told : (front : Option Letter) (m : Letter) → Some m ≡ front → (P : ℕ → Type 0) (c : Bool) → Decides c (P m.stamp) → Decides c ((l : Letter) → front ≡ Some l → P l.stamp)
some_told front m e P true p = λ l f. subst P (ap (λ (z : Letter). z.stamp) (some_is m l (e ∙ f))) p
some_told front m e P false p = λ f. p (f m (sym e))

none_told : (front : Option Letter) → None ≡ front → (P : ℕ → Type 0) → (l : Letter) → front ≡ Some l → P l.stamp
none_told front e P l f = absurd (none_some l (e ∙ f))

module _ (letters : List Letter) (a b : Pid) where
  abbrev front : Option Letter
  front = slice_get (lane a.shard b.shard letters) 0

  -- the first letter of the lane is from the one to the other, or it is not
  first_told : (o : Option Letter) → o ≡ front → Decides (is_between_them a b o) (IsFirstInLane a b letters)
  first_told None e = λ f. none_some f.first (e ∙ f.there)
  first_told (Some m) e =
      tells (goes_between a b m) (IsFirstInLane a b letters) (λ h. record { first = m; there = sym e; between = h })
      (λ h f. both_ways (goes_between a b m) h (ap (goes_between a b) (some_is m f.first (e ∙ f.there)) ∙ f.between))

  above_told : (c n : ℕ) (o : Option Letter) → o ≡ front → Decides (is_above_both c n o) ((l : Letter) → front ≡ Some l → n ≡ max c l.stamp + 1)
  above_told c n None e = none_told front e (λ z. n ≡ max c z + 1)
  above_told c n (Some m) e = some_told front m e (λ z. n ≡ max c z + 1) (n == max c m.stamp + 1) (same n (max c m.stamp + 1))

  stamp_told : (n : ℕ) (o : Option Letter) → o ≡ front → Decides (has_its_stamp n o) ((l : Letter) → front ≡ Some l → n ≡ l.stamp)
  stamp_told n None e = none_told front e (λ z. n ≡ z)
  stamp_told n (Some m) e = some_told front m e (λ z. n ≡ z) (n == m.stamp) (same n m.stamp)

in_turn_of : (before : ℕ × ℕ) (l : LeftOver) → Decides (is_in_turn_of before l) (IsInTurnOf before l)
in_turn_of before l =
    let d = l.letter.from.shard in
    let e = l.letter.to.shard in
    either (nat_lt before.0 d) ((before.0 == d) && nat_le before.1 e) (before.0 < d) ((before.0 ≡ d) × (before.1 ≤ e)) (below before.0 d)
    (both (before.0 == d) (nat_le before.1 e) (before.0 ≡ d) (before.1 ≤ e) (same before.0 d) (upto before.1 e))

-- a letter left over, where these are the letters on their way, and those the desks of the letter before it
pub left_judged : (letters : List Letter) (k : Desks) (before : ℕ × ℕ) (l : LeftOver) → ((d e : ℕ) → letters_laid k.lanes d e ≡ lane d e letters) → k.left ≡ before → IsJudgedLeft letters before l (no_left k l)
left_judged letters k before l are last =
    let a = l.letter.from in
    let b = l.letter.to in
    let e : first_laid k a b ≡ slice_get (lane a.shard b.shard letters) 0 = ap (λ z. slice_get z 0) (are a.shard b.shard) in
    go (is_between_them a b (first_laid k a b)) (has_its_stamp l.letter.stamp (first_laid k a b)) (is_in_turn_of k.left l) (first_told letters a b (first_laid k a b) e)
    (stamp_told letters a b l.letter.stamp (first_laid k a b) e) (subst (λ z. Decides (is_in_turn_of k.left l) (IsInTurnOf z l)) last (in_turn_of k.left l))
  where
    go : (c d t : Bool) → Decides c (IsFirstInLane l.letter.from l.letter.to letters) → Decides d (HasItsStamp letters l) → Decides t (IsInTurnOf before l)
        → IsJudgedLeft letters before l (cond c (cond d (cond t None (Some OtherTurn)) (Some OtherStamp)) (Some Overtakes))
    go false d t p q r = p
    go true false t p q r = (p, q)
    go true true false p q r = (p, q, r)
    go true true true p q r = record { order = p; stamp = q; turn = r }

-- stamps of events ------------------------------------------------------------------------------

-- an event is not before the one that it follows
not_before : (t s : Stamped) → follows t s ≡ true → t.stamp ≤ s.stamp
not_before t s h = go (or_cases (nat_lt t.stamp s.stamp) ((t.stamp == s.stamp) && nat_lt t.desk s.desk) h)
  where
    go : (nat_lt t.stamp s.stamp ≡ true) ⊎ (((t.stamp == s.stamp) && nat_lt t.desk s.desk) ≡ true) → t.stamp ≤ s.stamp
    go (inl e) = omega (arith, ltb-true t.stamp s.stamp e)
    go (inr e) = omega (arith, eqb-true t.stamp s.stamp (and_parts (t.stamp == s.stamp) (nat_lt t.desk s.desk) e).0)

-- where the newest stamp is lower, all are
all_below : (past : List Stamped) (n : ℕ) → EventsAreRising past → clock 0 past < n → stamped_below n past ≡ past
all_below [] n h low = refl
all_below (s ∷ past) n h low = rw (lt-ltb s.stamp n low) (ap (λ z. s ∷ z) (all_below past n h.1 (lower past h.0)))
  where
    lower : (past : List Stamped) → is_above (newest past) s ≡ true → clock 0 past < n
    lower [] k = omega (arith, low)
    lower (t ∷ past) k = omega (arith, low, not_before t s k)

nothing : (xs : List Sent) → Decides (length xs == 0) (xs ≡ [])
nothing xs = tells (length xs == 0) (xs ≡ []) (λ h. none_of xs (eqb-true (length xs) 0 h)) (λ h e. eqb-false (length xs) 0 h (ap length e))
  where
    none_of : (ys : List Sent) → length ys ≡ 0 → ys ≡ []
    none_of [] h = refl
    none_of (y ∷ ys) h = absurd (omega (arith, h))

next_to : (m n : ℕ) → 0 < m → Decides (is_begin m n) (n ≡ m + 1)
next_to m n some = tells (is_begin m n) (n ≡ m + 1) (λ h. go (or_cases (m == 0) (m + 1 == n) h)) (λ h e. eqb-false (m + 1) n (or_parts (m == 0) (m + 1 == n) h).1 (sym e))
  where
    go : ((m == 0) ≡ true) ⊎ ((m + 1 == n) ≡ true) → n ≡ m + 1
    go (inl e) = absurd (omega (arith, eqb-true m 0 e, some))
    go (inr e) = sym (eqb-true (m + 1) n e)

still_told : (low : List Stamped) (n : ℕ) (a b : Bool) → Decides a (flying [] (events low) ≡ []) → Decides b (IsNextStamp low n) → Decides (a && b) (IsStillBelow low n)
still_told low n true true p q = record { still = p; next = q }
still_told low n true false p q = λ h. q h.next
still_told low n false b p q = λ h. p h.still

-- the clocks of all desks may have stood just below the stamp of the next event, or they may not
pub begin_told : (past : List Stamped) (k : Desks) (j : JudgeState) (s : Stamped) → IsNodeAfter past [] k → AllFromNode past → EventsAreRising past → is_above (newest past) s ≡ true → 0 < s.stamp → j.flights ≡ flying [] (events past)
    → Decides (may_begin k j s.stamp) (MayBegin past s.stamp)
begin_told [] k j s node all rising above some flies =
    let none_yet : k.newest ≡ 0 = node.newest in
    let none : (length j.flights == 0) ≡ true = eq-eqb (length j.flights) 0 (ap length flies) in
    rw (none_yet, ne_eqb s.stamp 0 (λ e. omega (arith, e, some)), none) (record { still = refl; next = tt })
begin_told (t ∷ past) k j s node all rising above some flies = by (s.stamp == t.stamp) refl
  where
    at : (c : Bool) → (s.stamp == k.newest) ≡ c → Decides (cond c k.begun ((length j.flights == 0) && is_begin k.newest s.stamp)) (MayBegin (t ∷ past) s.stamp) → Decides (may_begin k j s.stamp) (MayBegin (t ∷ past) s.stamp)
    at c e h = subst (λ z. Decides (cond z k.begun ((length j.flights == 0) && is_begin k.newest s.stamp)) (MayBegin (t ∷ past) s.stamp)) (sym e) h

    by : (c : Bool) → (s.stamp == t.stamp) ≡ c → Decides (may_begin k j s.stamp) (MayBegin (t ∷ past) s.stamp)
    by true e =
        let is : s.stamp ≡ t.stamp = eqb-true s.stamp t.stamp e in
        let same_low : stamped_below t.stamp past ≡ (stamped_below s.stamp (t ∷ past)) =
        ap (λ n. stamped_below n past) (sym is) ∙ sym (ap (λ c. cond c (t ∷ stamped_below s.stamp past) (stamped_below s.stamp past)) (le-ltb t.stamp s.stamp (omega (arith, is))))
        in
        at true (ap (λ z. s.stamp == z) node.newest ∙ e)
        (subst (λ n. Decides k.begun (IsStillBelow (stamped_below s.stamp (t ∷ past)) n)) (sym is) (subst (λ z. Decides k.begun (IsStillBelow z t.stamp)) same_low node.begun))
    by false e =
        let other : ¬ (s.stamp ≡ t.stamp) = eqb-false s.stamp t.stamp e in
        let higher : t.stamp < s.stamp = omega (arith, not_before t s above, other) in
        let whole : (stamped_below s.stamp (t ∷ past)) ≡ t ∷ past = all_below (t ∷ past) s.stamp rising higher in
        at false (ap (λ z. s.stamp == z) node.newest ∙ e)
        (subst (λ z. Decides ((length j.flights == 0) && is_begin k.newest s.stamp) (IsStillBelow z s.stamp)) (sym whole)
        (still_told (t ∷ past) s.stamp (length j.flights == 0) (is_begin k.newest s.stamp)
        (subst (λ f. Decides (length j.flights == 0) (f ≡ [])) flies (nothing j.flights))
        (subst (λ m. Decides (is_begin m s.stamp) (s.stamp ≡ t.stamp + 1)) (sym node.newest) (next_to t.stamp s.stamp all.0.named.stamp.0))))

module _ (past : List Stamped) (k : Desks) (j : JudgeState) (s : Stamped) (node : IsNodeAfter past [] k) (all : AllFromNode past) (rising : EventsAreRising past) (above : is_above (newest past) s ≡ true) (since : Option Stamped) (after : IsAfterRest since (events past) j) where
  order_told : (e : Event) → Decides (is_in_order k e) (ComesInOrder past e)
  order_told (Came a b x) = first_told (letters_flying past) a b (first_laid k a b) (ap (λ z. slice_get z 0) (node.lanes a.shard b.shard))
  order_told (Born p parent link) = tt
  order_told (Said a b x) = tt
  order_told (Took p i m) = tt
  order_told (Flag p on) = tt
  order_told (Left p r) = tt
  order_told (Refused a b) = tt

  seen_told : (d : ℕ) (e : Event) → Decides (goes_to_none_seen k.seen d e) (GoesToNoneSeen (events past) d e)
  seen_told d (Said a b x) = subst (λ c. Decides (not (reaches x && is_noted k.seen d b)) (reaches x ≡ true → c ≡ false)) (node.seen d b) (seen_of (reaches x) (is_noted k.seen d b))
  seen_told d (Born p parent link) = tt
  seen_told d (Came a b x) = tt
  seen_told d (Took p i m) = tt
  seen_told d (Flag p on) = tt
  seen_told d (Left p r) = tt
  seen_told d (Refused a b) = tt

  own_told : 0 < s.stamp → Decides ((s.stamp == stamp_noted k.clocks s.desk + 1) || may_begin k j s.stamp) ((s.stamp ≡ clock_of s.desk past + 1) ⊎ MayBegin past s.stamp)
  own_told some =
      either (s.stamp == stamp_noted k.clocks s.desk + 1) (may_begin k j s.stamp) (s.stamp ≡ clock_of s.desk past + 1) (MayBegin past s.stamp)
      (subst (λ c. Decides (s.stamp == stamp_noted k.clocks s.desk + 1) (s.stamp ≡ c + 1)) (node.clocks s.desk) (same s.stamp (stamp_noted k.clocks s.desk + 1)))
      (begin_told past k j s node all rising above some after.flies)

  time_told : 0 < s.stamp → (e : Event) → Decides (is_in_time k j s.desk s.stamp e) (IsInTime past s.desk s.stamp e)
  time_told some (Came a b x) =
      subst (λ c. Decides (is_above_both (stamp_noted k.clocks s.desk) s.stamp (first_laid k a b)) ((l : Letter) → slice_get (lane a.shard b.shard (letters_flying past)) 0 ≡ Some l → s.stamp ≡ max c l.stamp + 1)) (node.clocks s.desk)
      (above_told (letters_flying past) a b (stamp_noted k.clocks s.desk) s.stamp (first_laid k a b) (ap (λ z. slice_get z 0) (node.lanes a.shard b.shard)))
  time_told some (Refused a b) = tt
  time_told some (Born p parent link) = own_told some
  time_told some (Said a b x) = own_told some
  time_told some (Took p i m) = own_told some
  time_told some (Flag p on) = own_told some
  time_told some (Left p r) = own_told some

  place_judged : IsNamedByNode s → IsJudgedForeign past s (no_place k j s)
  place_judged n =
      place past s n (is_in_turn j s.event) (is_known j s.desk s.event) (goes_to_no_ended j s.desk s.event) (goes_to_none_seen k.seen s.desk s.event) (is_in_order k s.event)
      (is_in_time k j s.desk s.stamp s.event) (turn_of since j (events past) after s.desk s.event) (ended_told since j (events past) after s.desk s.event) (seen_told s.desk s.event) (order_told s.event)
      (time_told n.stamp.0 s.event)

  pub judged : IsJudgedForeign past s (no_node k j s)
  judged = go (no_name s) (named past s)
    where
      go : (o : Option NoNode) → IsJudgedName past s o → IsJudgedForeign past s (first_reason o (no_place k j s))
      go None h = place_judged h
      go (Some why) h = h

-- of a whole history --------------------------------------------------------------------------

pub origin_more : (past : List Stamped) (s : Stamped) (n : ℕ) (o : Option Foreign) (why : Option NoNode) → n ≡ min (length past + 1) (2 ^ 64 - 1) → IsOrigin past [] o → (o ≡ None → IsJudgedForeign past s why)
    → IsOrigin (s ∷ past) [] (first_foreign o why n)
origin_more past s n (Some f) why e (inl g) j = inl (inl g)
origin_more past s n (Some f) why e (inr g) j = absurd g.1
origin_more past s n None (Some why) e g j = inl (inr (g.0, e, j refl))
origin_more past s n None None e g j = ((j refl, g.0), tt)

pub left_more : (past : List Stamped) (left : List LeftOver) (l : LeftOver) (n : ℕ) (o : Option Foreign) (why : Option NoNode) → n ≡ min (length past + length left + 1) (2 ^ 64 - 1) → IsOrigin past left o
    → (o ≡ None → IsJudgedLeft (letters_still (letters_flying past) left) (last_lane left) l why) → IsOrigin past (l ∷ left) (first_foreign o why n)
left_more past left l n (Some f) why e (inl g) j = inl g
left_more past left l n (Some f) why e (inr g) j = inr (g.0, inl g.1)
left_more past left l n None (Some why) e g j = inr (g.0, inr (g.1, e, j refl))
left_more past left l n None None e g j = (g.0, (j refl, g.1))

-- where no line is named, none was named before, and the next one has no reason
pub none_named : (o : Option Foreign) (why : Option NoNode) (n : ℕ) → first_foreign o why n ≡ None → (o ≡ None) × (why ≡ None)
none_named None None n h = (refl, refl)
none_named None (Some why) n h = absurd (cc)
none_named (Some f) why n h = absurd (cc)
