-- Processes that are come to, one after the other.
use Rattle.std.proofs.Common.{◌≡◌, ◌⊎◌, inl, inr, ℕ, zero, suc, ◌+◌, ◌<◌, ◌≤◌, Bool, true, false, ◌||◌, cond, List, [], ◌∷◌, ◌++◌, length, Option, Some, None, refl, sym, ap, subst, ◌∙◌, append_assoc, append-nil, length-append, arith}
use Rattle.std.specs.Prelude.{max, is_some}
use Rattle.std.specs.List.{IsDistinct}
use Rattle.std.specs.Option.{option_map}
use Rattle.pt_signal.specs.declared.pid.Pid.{Pid}
use Rattle.pt_signal.specs.Values.{same_pid}
use Rattle.pt_signal.proofs.Same.{same_pid_refl, same_pid_is}
use Rattle.pt_events.specs.declared.event.Event.{Event}
use Rattle.pt_events.specs.declared.event.Event.TheVariants.{Born, Said, Came, Took, Flag, Left, Refused}
use Rattle.pt_shard.specs.ShardState.{ShardState, lives, phase_of}
use Rattle.pt_crew.specs.declared.crew.Member.{Member}
use Rattle.pt_crew.specs.declared.crew.Crew.{Crew}
use Rattle.pt_crew.specs.declared.crew.Tended.{Tended}
use Rattle.pt_crew.specs.declared.crew.Tended.TheVariants.{Idle, Refused as Denied}
use Rattle.pt_behaviour.specs.Behaving.{Answers}
use Rattle.pt_crew.specs.Visiting.{Roles, AreSame, AreWith, Scene, StaysAs, BearsChildren, ComesTo, SeesTo, VisitsOne, Visits, again_as, left_as, is_refused}
use Rattle.pt_crew.specs.Crews.{members, role, roles, queue, waiting, left, scene, time_of, are_any, IsSame, KeepsRest, Attends, CrewRounds, AreOnce, Aboard, EntersAll, StepsOn}
use Rattle.pt_crew.specs.Waking.{IsAwake, AreRung, has_work}
use Rattle.pt_behaviour.specs.declared.births.Role.{Role}
use Rattle.pt_behaviour.specs.Births.{bore}
use Rattle.pt_crew.specs.Parts.{WakesBy, Admits, AdmitsFirst, AdmitsOf, CanEnter, aboard}
use Rattle.pt_crew.specs.Stepping.{EndsStep, QueueIsLonger, Serves}
use Rattle.pt_behaviour.proofs.Cases.{by_cases}
use Rattle.pt_crew.proofs.Waking.{elsewhere, there, same_back}
use Rattle.pt_crew.proofs.Timing.{rung_as}

-- who reads what is new changes nobody ------------------------------------------------

pub same_roles : {B : Type 0} (old new : Crew B) → IsSame old new → AreSame (roles old) (roles new)
same_roles old new same q = ap (option_map role) (same.members q)

pub same_longer : {B : Type 0} (old new : Crew B) → IsSame old new → QueueIsLonger (queue old) (queue new)
same_longer old new same = ([], same.queue ∙ sym (append-nil (queue old)))

pub longer_then : (old mid new : List Pid) → QueueIsLonger old mid → QueueIsLonger mid new → QueueIsLonger old new
longer_then old mid new a b = (a.0 ++ b.0, b.1 ∙ ap (λ (l : List Pid). l ++ b.0) a.1 ∙ append_assoc old a.0 b.0)

pub woke_roles : {B : Type 0} (e : Event) (old new : Crew B) → WakesBy e old new → AreSame (roles old) (roles new)
woke_roles (Born p parent link) old new h = same_roles old new h
woke_roles (Said a b x) old new h = same_roles old new h
woke_roles (Came a b x) old new h = h.roles
woke_roles (Took p q i) old new h = same_roles old new h
woke_roles (Flag p on) old new h = same_roles old new h
woke_roles (Left p r) old new h = h.roles
woke_roles (Refused a b) old new h = same_roles old new h

pub woke_longer : {B : Type 0} (e : Event) (old new : Crew B) → WakesBy e old new → QueueIsLonger (queue old) (queue new)
woke_longer (Born p parent link) old new h = same_longer old new h
woke_longer (Said a b x) old new h = same_longer old new h
woke_longer (Came a b x) old new h = h.longer
woke_longer (Took p q i) old new h = same_longer old new h
woke_longer (Flag p on) old new h = same_longer old new h
woke_longer (Left p r) old new h = h.longer
woke_longer (Refused a b) old new h = same_longer old new h

pub woke_rest : {B : Type 0} (e : Event) (old new : Crew B) → WakesBy e old new → KeepsRest old new
woke_rest (Born p parent link) old new h = h.rest
woke_rest (Said a b x) old new h = h.rest
woke_rest (Came a b x) old new h = h.rest
woke_rest (Took p q i) old new h = h.rest
woke_rest (Flag p on) old new h = h.rest
woke_rest (Left p r) old new h = h.rest
woke_rest (Refused a b) old new h = h.rest

pub rest_then : {B : Type 0} (old mid new : Crew B) → KeepsRest old mid → KeepsRest mid new → KeepsRest old new
rest_then old mid new a b = record { waiting = b.waiting ∙ a.waiting; left = b.left ∙ a.left; refused = b.refused ∙ a.refused; rounds = b.rounds ∙ a.rounds; time = b.time ∙ a.time }

-- and what was read is one more
pub rest_read : {B : Type 0} (old mid late new : Crew B) → waiting new ≡ waiting late → left new ≡ left late → new.refused ≡ late.refused → new.rounds ≡ late.rounds → new.time ≡ late.time
    → KeepsRest old mid → KeepsRest mid late → KeepsRest old new
rest_read old mid late new w l r n m a b = record { waiting = w ∙ b.waiting ∙ a.waiting; left = l ∙ b.left ∙ a.left; refused = r ∙ b.refused ∙ a.refused; rounds = n ∙ b.rounds ∙ a.rounds; time = m ∙ b.time ∙ a.time }

pub same_then : {B : Type 0} (old mid new : Roles B) → AreSame old mid → AreSame mid new → AreSame old new
same_then old mid new a b q = b q ∙ a q

-- whoever has something to do stands in the queue, whatever is marked
same_member : {B : Type 0} (was now : Option (Member B)) (m : Member B) → was ≡ Some m → option_map role now ≡ option_map role was → (v : Member B) × (now ≡ Some v) × (v.next ≡ m.next)
same_member was None m is same = absurd (let e : None ≡ Some (role m) = same ∙ ap (option_map role) is in cc)
same_member was (Some v) m is same = let e : Some (role v) ≡ Some (role m) = same ∙ ap (option_map role) is in (v, refl, let k : role v ≡ role m = cc in ap (λ (r : _). r.1) k)

pub awake_as : {B : Type 0} (old now : Crew B) (stands : List Pid) (d : ShardState) → AreSame (roles old) (roles now) → IsAwake (members now) stands d → IsAwake (members old) stands d
awake_as old now stands d same awake p m is work =
    let v = same_member (members old p) (members now p) m is (same p) in
    awake p v.0 v.1 (ap (λ n. has_work n (phase_of d p)) v.2 ∙ work)

-- of the crew nothing is changed but its queue
pub record IsOf {B : Type 0} (old new : Crew B) : Type 0 where
  pub members : (q : Pid) → members new q ≡ members old q
  pub waiting : waiting new ≡ waiting old
  pub left : left new ≡ left old
  pub refused : new.refused ≡ old.refused
  pub time : new.time ≡ old.time

or_none : (b : Bool) → b ≡ (b || false)
or_none true = refl
or_none false = refl

-- what a refusal says, and nothing else does
pub says : (b : Bool) → true ≡ (b || true)
says true = refl
says false = refl

pub says_nothing : (b : Bool) → b ≡ (b || false)
says_nothing b = or_none b

pub is_there : {X Y : Type 0} (r : Option X) (a : Option Y) (x : X) → r ≡ Some x → is_some r ≡ is_some a → (y : Y) × (a ≡ Some y)
is_there r None x e h = absurd (let k = ap is_some e in cc)
is_there r (Some y) x e h = (y, refl)

module _ {B : Type 0} (answers : Answers B) where
  -- one is come to ------------------------------------------------------------------------

  pub visited : (old new : Crew B) (p : Pid) (v : Member B) (w : Option (Member B)) (t : Tended) (d e : ShardState) → members old p ≡ Some v → new.time ≡ old.time
      → ((q : Pid) → members new q ≡ cond (same_pid p q) w (members old q))
      → StaysAs Denied (role v) d t (option_map role w) e ⊎ SeesTo answers old.time p v.behaviour v.next d t (option_map role w) e (bore (waiting old) (waiting new))
      → BearsChildren t (waiting old) (waiting new) → left new ≡ left old ++ left_as p (Some (role v)) t → new.refused ≡ (old.refused || is_refused t)
      → VisitsOne answers p (scene [] old d) (scene (again_as p t) new e)
  visited old new p v w t d e held times at sees bears gone says = record {
    tended = t;
    comes = subst (λ (o : Option _). ComesTo answers old.time p o d t (roles new p) e (bore (waiting old) (waiting new))) (sym (ap (option_map role) held))
        (subst (λ (o : Option _). ComesTo answers old.time p (Some (role v)) d t o e (bore (waiting old) (waiting new))) (sym (ap (option_map role) (there (members old) (members new) p w at p (same_pid_refl p)))) sees);
    others = with_p;
    again = refl;
    born = bears;
    left = gone ∙ ap (λ (o : Option _). left old ++ left_as p o t) (sym (ap (option_map role) held));
    refused = says;
    time = times;
  }
    where
      with_p : AreWith p (roles new p) (roles old) (roles new)
      with_p q = by_cases (same_pid p q)
          (λ same. ap (λ (r : Pid). roles new r) (sym (same_pid_is p q same)) ∙ ap (λ b. cond b (roles new p) (roles old q)) (sym same))
          (λ other. ap (option_map role) (elsewhere (members old) (members new) p w at q other) ∙ ap (λ b. cond b (roles new p) (roles old q)) (sym other))

  -- who is not of the crew is passed over
  pub passed : (old new : Crew B) (p : Pid) (d : ShardState) → members old p ≡ None → IsOf old new → VisitsOne answers p (scene [] old d) (scene [] new d)
  passed old new p d none same = record {
    tended = Idle;
    comes = subst (λ (o : Option _). ComesTo answers old.time p o d Idle (roles new p) d (bore (waiting old) (waiting new))) (sym (ap (option_map role) none)) (refl, ap (option_map role) (same.members p ∙ none), refl);
    others = with_p;
    again = refl;
    born = same.waiting;
    left = same.left ∙ sym (append-nil (left old)) ∙ ap (λ (o : Option _). left old ++ left_as p o Idle) (sym (ap (option_map role) none));
    refused = same.refused ∙ or_none old.refused;
    time = same.time;
  }
    where
      with_p : AreWith p (roles new p) (roles old) (roles new)
      with_p q = by_cases (same_pid p q)
          (λ is. ap (λ (r : Pid). roles new r) (sym (same_pid_is p q is)) ∙ ap (λ b. cond b (roles new p) (roles old q)) (sym is))
          (λ other. ap (option_map role) (same.members q) ∙ ap (λ b. cond b (roles new p) (roles old q)) (sym other))

  -- the first of the queue
  pub serves_first : (start rest : List Pid) (old new : Crew B) (p : Pid) (v : Member B) (w : Option (Member B)) (t : Tended) (d e : ShardState) → start ≡ p ∷ rest → queue new ≡ rest ++ again_as p t → members old p ≡ Some v → new.time ≡ old.time
      → ((q : Pid) → members new q ≡ cond (same_pid p q) w (members old q))
      → StaysAs Denied (role v) d t (option_map role w) e ⊎ SeesTo answers old.time p v.behaviour v.next d t (option_map role w) e (bore (waiting old) (waiting new))
      → BearsChildren t (waiting old) (waiting new) → left new ≡ left old ++ left_as p (Some (role v)) t → new.refused ≡ (old.refused || is_refused t)
      → Serves answers start old d new e
  serves_first start rest old new p v w t d e is later held times at sees bears gone says =
      subst (λ (ps : List Pid). Serves answers ps old d new e) (sym is) (again_as p t, visited old new p v w t d e held times at sees bears gone says, later)

  pub passes_first : (start rest : List Pid) (old new : Crew B) (p : Pid) (d : ShardState) → start ≡ p ∷ rest → queue new ≡ rest → members old p ≡ None → IsOf old new → Serves answers start old d new d
  passes_first start rest old new p d is later none same =
      subst (λ (ps : List Pid). Serves answers ps old d new d) (sym is) ([], passed old new p d none same, later ∙ sym (append-nil rest))

  -- there is no memory for whoever leaves
  pub refused_first : (start rest : List Pid) (old new : Crew B) (p : Pid) (d : ShardState) → start ≡ p ∷ rest → queue new ≡ rest ++ p ∷ [] → ((q : Pid) → members new q ≡ members old q)
      → waiting new ≡ waiting old → left new ≡ left old → new.refused ≡ true → new.time ≡ old.time → (v : Member B) × (members old p ≡ Some v) → Serves answers start old d new d
  refused_first start rest old new p d is later same bears gone on times held =
      serves_first start rest old new p held.0 (Some held.0) Denied d d is later held.1 times (λ q. same q ∙ sym (same_back (members old) p held.0 held.1 q))
      (inl (refl, refl, refl)) bears (gone ∙ sym (append-nil (left old))) (on ∙ says old.refused)

  -- several are come to -------------------------------------------------------------------

  visits_then : (ps qs : List Pid) (old mid new : Scene B) → Visits answers ps old mid → Visits answers qs mid new → Visits answers (ps ++ qs) old new
  visits_then [] qs old mid new a b = subst (λ (s : Scene B). Visits answers qs s new) a b
  visits_then (p ∷ ps) qs old mid new a b = (a.0, a.1, visits_then ps qs a.0 mid new a.2 b)

  -- where others stood behind the queue before
  further : (p : Pid) (before back : List Pid) (old new : Crew B) (d e : ShardState) → VisitsOne answers p (scene [] old d) (scene back new e) → VisitsOne answers p (scene before old d) (scene (before ++ back) new e)
  further p before back old new d e h = record {
    tended = h.tended;
    comes = h.comes;
    others = h.others;
    again = ap (λ (l : List Pid). before ++ l) h.again;
    born = h.born;
    left = h.left;
    refused = h.refused;
    time = h.time;
  }

  -- so many of the queue, the first ones, were come to
  pub record SoFar (start : List Pid) (n : ℕ) (old : Crew B) (d : ShardState) (new : Crew B) (e : ShardState) : Type 0 where
    pub done : List Pid
    pub rest : List Pid
    pub back : List Pid
    pub all : start ≡ done ++ rest
    pub now_is : queue new ≡ rest ++ back
    pub count : length done ≡ n
    pub visits : Visits answers done (scene [] old d) (scene back new e)

  pub none_so_far : (old : Crew B) (d : ShardState) → SoFar (queue old) 0 old d old d
  none_so_far old d = record { done = []; rest = queue old; back = []; all = refl; now_is = sym (append-nil (queue old)); count = refl; visits = refl }

  pub one_more : (start : List Pid) (n : ℕ) (old mid new : Crew B) (d f e : ShardState) → n < length start
      → SoFar start n old d mid f → Serves answers (queue mid) mid f new e → SoFar start (n + 1) old d new e
  one_more start n old mid new d f e within so serves = go so.rest so.all so.now_is
    where
      go : (rest : List Pid) → start ≡ so.done ++ rest → queue mid ≡ rest ++ so.back → SoFar start (n + 1) old d new e
      go [] all is = absurd (let l = ap length all in let c = so.count in let a = length-append so.done [] in omega (arith, l, c, a, within))
      go (p ∷ rest) all is =
          let one = subst (λ (ps : List Pid). Serves answers ps mid f new e) is serves in
          record {
            done = so.done ++ p ∷ [];
            rest = rest;
            back = so.back ++ one.0;
            all = all ∙ sym (append_assoc so.done (p ∷ []) rest);
            now_is = one.2 ∙ append_assoc rest so.back one.0;
            count = let c = so.count in let a = length-append so.done (p ∷ []) in omega (arith, c, a);
            visits = visits_then so.done (p ∷ []) (scene [] old d) (scene so.back mid f) (scene (so.back ++ one.0) new e) so.visits (scene (so.back ++ one.0) new e, further p so.back one.0 mid new f e one.1, refl);
          }

  no_rest : (rest : List Pid) → length rest ≤ 0 → rest ≡ []
  no_rest [] h = refl
  no_rest (p ∷ rest) h = absurd (omega (arith, h))

  pub all_so_far : (start : List Pid) (n : ℕ) (old new : Crew B) (d e : ShardState) → length start ≤ n
      → SoFar start n old d new e → Visits answers start (scene [] old d) (scene (queue new) new e)
  all_so_far start n old new d e all so =
      let l = ap length so.all in
      let a = length-append so.done so.rest in
      let c = so.count in
      let none : so.rest ≡ [] = no_rest so.rest (omega (arith, l, a, c, all)) in
      let now : queue new ≡ so.back = so.now_is ∙ ap (λ (r : List Pid). r ++ so.back) none in
      let ps : so.done ≡ start = sym (so.all ∙ ap (λ (r : List Pid). so.done ++ r) none ∙ append-nil so.done) in
      subst (λ (qs : List Pid). Visits answers start (scene [] old d) (scene qs new e)) (sym now)
      (subst (λ (qs : List Pid). Visits answers qs (scene [] old d) (scene so.back new e)) ps so.visits)

  -- a step --------------------------------------------------------------------------------

  -- the crew as its first round begins
  abbrev begun : Crew B → List Pid → ShardState → Scene B
  begun old woken d = record { roles = roles old; again = queue old ++ woken; born = waiting old; left = []; refused = false; time = time_of old; desk = d }

  -- so many rounds were made
  pub record Stepping (n : ℕ) (old : Crew B) (d : ShardState) (now : Crew B) (e : ShardState) : Type 0 where
    pub woken : List Pid
    pub queues : List (List Pid)
    pub rounds : CrewRounds answers queues (begun old woken d) (scene (queue now) now e)
    pub first : Attends old d → IsAwake (members old) (queue old ++ woken) d
    pub due : Attends old d → AreRung (time_of old) (members old) (queue old ++ woken)
    pub count : length queues ≡ n
    pub once : Attends old d → AreOnce queues
    pub same : now.rounds ≡ old.rounds
    pub time : now.time ≡ old.time

  pub none_yet : (old now : Crew B) (d : ShardState) → AreSame (roles old) (roles now) → QueueIsLonger (queue old) (queue now) → waiting now ≡ waiting old → left now ≡ [] → now.refused ≡ false → now.rounds ≡ old.rounds → now.time ≡ old.time
      → (Attends old d → IsAwake (members now) (queue now) d) → (Attends old d → AreRung (time_of old) (members now) (queue now)) → Stepping 0 old d now d
  none_yet old now d kept longer waits bare quiet same times awake rung = record {
    woken = longer.0;
    first = λ a. awake_as old now (queue old ++ longer.0) d kept (subst (λ (ps : List Pid). IsAwake (members now) ps d) longer.1 (awake a));
    due = λ a. rung_as old now (time_of old) (queue old ++ longer.0) kept (subst (λ (ps : List Pid). AreRung (time_of old) (members now) ps) longer.1 (rung a));
    queues = [];
    rounds = λ i. record { roles = λ q. kept q i; again = longer.1 i; born = waits i; left = bare i; refused = quiet i; time = times i; desk = d };
    count = refl;
    once = λ a. tt;
    same = same;
    time = times;
  }

  pub next_round : (n : ℕ) (old mid new : Crew B) (d f e : ShardState) → Stepping n old d mid f → Visits answers (queue mid) (scene [] mid f) (scene (queue new) new e)
      → (Attends old d → IsDistinct same_pid (queue mid)) → new.rounds ≡ mid.rounds → new.time ≡ mid.time → Stepping (n + 1) old d new e
  next_round n old mid new d f e so visits once same times = record {
    woken = so.woken;
    first = so.first;
    due = so.due;
    queues = queue mid ∷ so.queues;
    rounds = (scene (queue mid) mid f, so.rounds, refl, visits);
    count = let c = so.count in omega (arith, c);
    once = λ a. (once a, so.once a);
    same = same ∙ so.same;
    time = times ∙ so.time;
  }

  pub last_look : (n : ℕ) (old mid new : Crew B) (d e : ShardState) → Stepping n old d mid e → n ≡ max 1 old.rounds → EndsStep mid e new → StepsOn answers old d new e
  last_look n old mid new d e so count ends = record {
    woken = so.woken;
    first = so.first;
    due = so.due;
    queues = so.queues;
    last = scene (queue mid) mid e;
    rounds = so.rounds;
    count = so.count ∙ count;
    once = so.once;
    entered = ends.entered;
    born = ends.born;
    enters = ends.enters;
    told = ends.told;
    queue = ends.longer;
    desk = refl;
    same = ends.rounds ∙ so.same;
    time = ends.time ∙ so.time;
  }

-- those that were born entered, and what was new was read
pub ends_step : {B : Type 0} (old mid new : Crew B) (d : ShardState) → Admits (lives d) old mid → AreSame (roles mid) (roles new) → QueueIsLonger (queue mid) (queue new) → KeepsRest mid new
    → (Attends old d → IsAwake (members new) (queue new) d) → EndsStep old d new
ends_step old mid new d admits kept longer rest awake = record {
  entered = admits.entered;
  born = admits.born ∙ ap (λ (l : List (Role _)). admits.entered ++ l) (sym rest.waiting);
  enters = subst (λ (x : Aboard _). EntersAll (lives d) admits.entered (roles old, left old) x) still admits.enters;
  told = rest.refused ∙ admits.told ∙ ap (λ (l : List (Role _)). old.refused || are_any l) (sym rest.waiting);
  awake = awake;
  longer = longer_then (queue old) (queue mid) (queue new) admits.longer longer;
  rounds = rest.rounds ∙ admits.rounds;
  time = rest.time ∙ admits.time;
}
  where
    still : aboard mid ≡ aboard new
    still i = ((λ q. sym (kept q) i), sym rest.left i)

-- whether somebody waits ------------------------------------------------------------------

zero_or : (n : ℕ) → (n ≡ 0) ⊎ (0 < n)
zero_or zero = inl refl
zero_or (suc n) = inr (omega arith)

any_last : {A : Type 0} (xs : List A) (x : A) → are_any (xs ++ x ∷ []) ≡ true
any_last [] x = refl
any_last (y ∷ xs) x = refl

any_length : {A : Type 0} (xs : List A) → are_any xs ≡ true → 0 < length xs
any_length [] any = absurd (cc)
any_length (x ∷ xs) any = omega arith

length_any : {A : Type 0} (xs : List A) → 0 < length xs → are_any xs ≡ true
length_any [] some = absurd (omega (arith, some))
length_any (x ∷ xs) some = refl

-- those that were born enter ---------------------------------------------------------------

module _ {B : Type 0} (lives : Pid → Bool) where
  enters_then : (rs ss : List (Role B)) (old mid new : Aboard B) → EntersAll lives rs old mid → EntersAll lives ss mid new → EntersAll lives (rs ++ ss) old new
  enters_then [] ss old mid new a b = subst (λ (x : Aboard B). EntersAll lives ss x new) a b
  enters_then (r ∷ rs) ss old mid new a b = (a.0, a.1, enters_then rs ss a.0 mid new a.2 b)

  -- so many of those that were born entered; where one was refused, more wait than are still to be looked at
  pub record Entering (n : ℕ) (old now : Crew B) : Type 0 where
    pub entered : List (Role B)
    pub born : waiting old ≡ entered ++ waiting now
    pub enters : EntersAll lives entered (aboard old) (aboard now)
    pub none : n ≡ 0 → now ≡ old
    pub first : CanEnter old → 0 < n → are_any entered ≡ true
    pub told : ((n + length (waiting now) ≡ length (waiting old)) × (now.refused ≡ old.refused)) ⊎ ((now.refused ≡ true) × (length (waiting old) < n + length (waiting now)))
    pub longer : QueueIsLonger (queue old) (queue now)
    pub rounds : now.rounds ≡ old.rounds
    pub time : now.time ≡ old.time

  pub none_entered : (old : Crew B) → Entering 0 old old
  none_entered old = record {
    entered = [];
    born = refl;
    enters = refl;
    none = λ z. refl;
    first = λ room z. absurd (omega (arith, z));
    told = inl (omega arith, refl);
    longer = ([], sym (append-nil (queue old)));
    rounds = refl;
    time = refl;
  }

  pub next_enters : (n : ℕ) (old mid new : Crew B) → n < length (waiting old) → Entering n old mid → AdmitsFirst lives mid new → Entering (n + 1) old new
  next_enters n old mid new within so first = elim first.admits [ inl h ↦ go (waiting mid) refl h | inr h ↦ still h ]
    where
      later : {X : Type 0} → n + 1 ≡ 0 → X
      later z = absurd (omega (arith, z))

      still : (aboard new ≡ aboard mid) × (waiting new ≡ waiting mid) × (new.refused ≡ true) × (CanEnter mid → ⊥) → Entering (n + 1) old new
      still h = record {
        entered = so.entered;
        born = so.born ∙ ap (λ (l : List (Role B)). so.entered ++ l) (sym h.1);
        enters = subst (λ (x : Aboard B). EntersAll lives so.entered (aboard old) x) (sym h.0) so.enters;
        none = λ z. later z;
        first = λ room z. elim (zero_or n) [ inl none ↦ absurd (h.3 (subst (λ (c : Crew B). CanEnter c) (sym (so.none none)) room)) | inr more ↦ so.first room more ];
        told = inr (h.2, let m = ap length h.1 in elim so.told [ inl k ↦ let c = k.0 in omega (arith, m, c) | inr k ↦ let c = k.1 in omega (arith, m, c) ]);
        longer = longer_then (queue old) (queue mid) (queue new) so.longer first.longer;
        rounds = first.rounds ∙ so.rounds;
        time = first.time ∙ so.time;
      }

      go : (w : List (Role B)) → waiting mid ≡ w → AdmitsOf lives w mid new → Entering (n + 1) old new
      go [] is h = let l = ap length is in absurd (elim so.told [ inl k ↦ let c = k.0 in omega (arith, l, c, within) | inr k ↦ let c = k.1 in omega (arith, l, c, within) ])
      go (r ∷ rs) is h = record {
        entered = so.entered ++ r ∷ [];
        born = so.born ∙ ap (λ (l : List (Role B)). so.entered ++ l) is ∙ sym (append_assoc so.entered (r ∷ []) rs) ∙ ap (λ (l : List (Role B)). (so.entered ++ r ∷ []) ++ l) (sym h.1);
        enters = enters_then so.entered (r ∷ []) (aboard old) (aboard mid) (aboard new) so.enters (aboard new, h.0, refl);
        none = λ z. later z;
        first = λ room z. any_last so.entered r;
        told = elim so.told [
          | inl k ↦ inl (let l = ap length is in let c = k.0 in let m = ap length h.1 in omega (arith, l, c, m), h.2 ∙ k.1)
          | inr k ↦ inr (h.2 ∙ k.0, let l = ap length is in let c = k.1 in let m = ap length h.1 in omega (arith, l, c, m))
        ];
        longer = longer_then (queue old) (queue mid) (queue new) so.longer first.longer;
        rounds = first.rounds ∙ so.rounds;
        time = first.time ∙ so.time;
      }

  none_waits : (rs : List (Role B)) → length rs ≤ 0 → rs ≡ []
  none_waits [] h = refl
  none_waits (r ∷ rs) h = absurd (omega (arith, h))

  pub all_entered : (n : ℕ) (old now : Crew B) → length (waiting old) ≡ n → Entering n old now → Admits lives old now
  all_entered n old now all so = record {
    entered = so.entered;
    born = so.born;
    enters = so.enters;
    first = λ room any. so.first room (let some = any_length (waiting old) any in omega (arith, all, some));
    told = elim so.told [
      | inl h ↦ h.1 ∙ or_none old.refused ∙ ap (λ (l : List (Role B)). old.refused || are_any l) (sym (none_waits (waiting now) (let c = h.0 in omega (arith, c, all))))
      | inr h ↦ h.0 ∙ says old.refused ∙ ap (λ (b : Bool). old.refused || b) (sym (length_any (waiting now) (let c = h.1 in omega (arith, c, all))))
    ];
    longer = so.longer;
    rounds = so.rounds;
    time = so.time;
  }

-- how many rounds were made at the end
pub all_rounds : (n r : ℕ) → 1 ≤ n → r ≤ n → n ≤ max 1 r → n ≡ max 1 r
all_rounds n r low end high = omega (arith, low, end, high)

pub one_fits : (r : ℕ) → 1 ≤ max 1 r
one_fits r = omega arith

pub next_fits : (n r : ℕ) → n < r → n + 1 ≤ max 1 r
next_fits n r h = omega (arith, h)
