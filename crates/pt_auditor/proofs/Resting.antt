-- What is known of a history at rest, and that a hearing over it goes on from the history.
use Rattle.std.proofs.Common.{◌≡◌, ℕ, zero, suc, add-one, ◌+◌, ◌<◌, ◌≤◌, ◌==◌, ◌-◌, nat_le, nat_lt, Bool, true, false, cond, ◌&&◌, ◌||◌, ◌⊎◌, inl, inr, Option, Some, None, is_some, List, [], ◌∷◌, ◌++◌, length, take, drop, map, slice_get, refl, ap, ap₂, sym, ◌∙◌, subst, arith, append-nil, append_assoc}
use Rattle.std.specs.List.{list_any}
use Rattle.std.specs.List.Sorted.{IsPermutation}
use Rattle.std.specs.Map.{lookup, keys_of}
use Rattle.std.proofs.lemmas.Bool.{both_ways, and_parts, or_cases, eqb-true, ltb-true, leb-true}
use Rattle.std.proofs.lemmas.Grind.{common_steps, flat_map-append}
use Rattle.std.proofs.lemmas.List.Sorted.{list_any-IsPermutation}
use Rattle.std.proofs.lemmas.Map.Made.{is_some-lookup}
use Rattle.pt_signal.specs.declared.pid.Pid.{Pid}
use Rattle.pt_signal.specs.declared.ids.LinkId.{LinkId}
use Rattle.pt_signal.specs.declared.ids.Ref.{Ref}
use Rattle.pt_signal.specs.declared.ids.Ids.{Ids}
use Rattle.pt_signal.specs.declared.letter.Letter.{Letter}
use Rattle.pt_signal.specs.declared.reason.Reason.{Reason}
use Rattle.pt_signal.specs.declared.reason.Reason.TheVariants.{Normal}
use Rattle.pt_signal.specs.contracts.reason.ReasonPartialEq.TheImpl.{ghosts as of_reason}
use Rattle.pt_signal.specs.declared.signal.Signal.{Signal}
use Rattle.pt_signal.specs.declared.signal.Signal.TheVariants.{Link, LinkExit, Monitor, Demonitor, AliveAsk}
use Rattle.pt_signal.specs.Process.{ProcessState, Sent, sent, fresh, estate}
use Rattle.pt_signal.specs.Values.{same_pid, same_ref, same_link, without_first}
use Rattle.pt_signal.proofs.Same.{same_pid_refl, same_pid_is, same_link_is, same_ref_is}
use Rattle.pt_events.specs.declared.event.Event.{Event}
use Rattle.pt_events.specs.declared.event.Event.TheVariants.{Born, Said, Came, Took, Flag, Left, Refused}
use Rattle.pt_events.specs.declared.event.Stamped.{Stamped}
use Rattle.pt_events.specs.History.{Start, Phase, unborn, living, ended, is_living, is_unborn, is_between, phase_or_unborn, at_start, after, reason_of, state_of, end_sends, landed, life, flying, sent_by, makes_link, makes_ref, made_link, made_ref}
use Rattle.pt_events.specs.Journal.{events, clock, letter, content, IsNewAt}
use Rattle.pt_events.specs.Leaving.{outcome}
use Rattle.pt_judge.specs.declared.judging.resumed.Holding.{Holding}
use Rattle.pt_judge.specs.Judging.{JudgeState, now_is, lived, judge_sends, IsStep}
use Rattle.pt_auditor.specs.declared.foreign.Foreign.{Foreign}
use Rattle.pt_auditor.specs.declared.desks.Desks.{Desks}
use Rattle.pt_auditor.specs.declared.hearing.Hearing.{Hearing}
use Rattle.pt_auditor.specs.declared.rest.Estate.{Estate}
use Rattle.pt_auditor.specs.declared.rest.Resident.{Resident}
use Rattle.pt_auditor.specs.declared.rest.Resident.TheVariants.{Lives, Ended}
use Rattle.pt_auditor.specs.declared.rest.Rest.{Rest}
use Rattle.pt_auditor.specs.Lanes.{letters_flying, letters_landed, goes_between, lane, stamp_noted}
use Rattle.pt_auditor.specs.Seen.{is_noted}
use Rattle.pt_auditor.specs.Foreigners.{AllFromNode, IsFirstForeign, IsOrigin}
use Rattle.pt_auditor.specs.Hearings.{Heard, IsHeard, IsNodeAfter, TellsBegin, is_late, is_above, newest, left_flying, EventsAreRising, still}
use Rattle.pt_auditor.specs.Rests.{ended_run, resident_lives, lives_in, run_with, AreResidents, IsRestOf, IsAtRest, IsRestless, stamp_of, link_in, kept_in, watch_in, links_in, kepts_in, watches_in, IsDrained, IsTakenOut, IsListed}
use Rattle.pt_auditor.proofs.Heard.{later, no_letters, some_letters, all_of_node}

pub taken_more : {X : Type 0} (xs : List X) (n : ℕ) (x : X) → Some x ≡ slice_get xs n → take (n + 1) xs ≡ take n xs ++ x ∷ []
taken_more {X} xs n x h = ap (λ m. take m xs) (add-one n) ∙ go xs n h
  where
    go : (ys : List X) (m : ℕ) → Some x ≡ slice_get ys m → take (suc m) ys ≡ take m ys ++ x ∷ []
    go [] m h = absurd (cc)
    go (y ∷ ys) zero h = let e : y ≡ x = cc in ap (λ z. z ∷ []) e
    go (y ∷ ys) (suc m) h = ap (λ z. y ∷ z) (go ys m h)

-- the processes that are in the state, and those that come after them
pub record IsRebuilding (all : List Resident) (s : JudgeState) (left : List Resident) : Type 0 where
  pub state : s ≡ record { links = []; refs = []; lives = s.lives; flights = [] }
  pub lives : s.lives ++ lives_in left ≡ lives_in all

pub rebuilding_one : (all : List Resident) (s new : JudgeState) (left rest : List Resident) (r : Resident) → IsRebuilding all s left → left ≡ r ∷ rest → new ≡ record s { lives = s.lives ++ resident_lives r } → IsRebuilding all new rest
rebuilding_one all s new left rest r k e n =
    let lives : new.lives ≡ s.lives ++ resident_lives r = ap (λ (z : JudgeState). z.lives) n in
    record {
      state = n ∙ ap (λ (z : JudgeState). record z { lives = s.lives ++ resident_lives r }) k.state ∙ ap (λ z. record { links = []; refs = []; lives = z; flights = [] }) (sym lives);
      lives = ap (λ z. z ++ lives_in rest) lives ∙ append_assoc s.lives (resident_lives r) (lives_in rest) ∙ ap (λ z. s.lives ++ lives_in z) (sym e) ∙ k.lives;
    }

pub rebuilt_all : (all : List Resident) (s : JudgeState) (left : List Resident) → IsRebuilding all s left → left ≡ [] → s ≡ record { links = []; refs = []; lives = lives_in all; flights = [] }
rebuilt_all all s left k e =
    k.state ∙ ap (λ z. record { links = []; refs = []; lives = z; flights = [] }) (sym (append-nil s.lives) ∙ ap (λ z. s.lives ++ lives_in z) (sym e) ∙ k.lives)

-- what a process would leave --------------------------------------------------------------------

links_both : (xs ys : List Sent) → links_in (xs ++ ys) ≡ links_in xs ++ links_in ys
links_both [] ys = refl
links_both (x ∷ xs) ys = ap (λ z. link_in x.to x.signal ++ z) (links_both xs ys) ∙ sym (append_assoc (link_in x.to x.signal) (links_in xs) (links_in ys))

kepts_both : (xs ys : List Sent) → kepts_in (xs ++ ys) ≡ kepts_in xs ++ kepts_in ys
kepts_both [] ys = refl
kepts_both (x ∷ xs) ys = ap (λ z. kept_in x.to x.signal ++ z) (kepts_both xs ys) ∙ sym (append_assoc (kept_in x.to x.signal) (kepts_in xs) (kepts_in ys))

watches_both : (xs ys : List Sent) → watches_in (xs ++ ys) ≡ watches_in xs ++ watches_in ys
watches_both [] ys = refl
watches_both (x ∷ xs) ys = ap (λ z. watch_in x.to x.signal ++ z) (watches_both xs ys) ∙ sym (append_assoc (watch_in x.to x.signal) (watches_in xs) (watches_in ys))

module _ (p : Pid) (r : Reason) where
  abbrev exits : List (Pid × Ids) → List Sent
  exits links = map (λ e. sent p e.0 (LinkExit e.1 r)) links

  abbrev downs : List (Ref × Pid) → List Sent
  downs kept = map (λ k. sent p k.1 (Signal.Down k.0 r)) kept

  abbrev demonitors : List (Ref × Pid) → List Sent
  demonitors watching = map (λ m. sent p m.1 (Demonitor m.0)) watching

  exit_links : (links : List (Pid × Ids)) → (links_in (exits links) ≡ links) × (kepts_in (exits links) ≡ []) × (watches_in (exits links) ≡ [])
  exit_links [] = (refl, refl, refl)
  exit_links (e ∷ links) = let h = exit_links links in (ap (λ z. e ∷ z) h.0, h.1, h.2)

  down_kept : (kept : List (Ref × Pid)) → (links_in (downs kept) ≡ []) × (kepts_in (downs kept) ≡ kept) × (watches_in (downs kept) ≡ [])
  down_kept [] = (refl, refl, refl)
  down_kept (e ∷ kept) = let h = down_kept kept in (h.0, ap (λ z. e ∷ z) h.1, h.2)

  demonitor_watched : (watching : List (Ref × Pid)) → (links_in (demonitors watching) ≡ []) × (kepts_in (demonitors watching) ≡ []) × (watches_in (demonitors watching) ≡ watching)
  demonitor_watched [] = (refl, refl, refl)
  demonitor_watched (e ∷ watching) = let h = demonitor_watched watching in (h.0, h.1, ap (λ z. e ∷ z) h.2)

  estate_links : (s : ProcessState) → links_in (estate p s r) ≡ s.links
  estate_links s =
      links_both (exits s.links ++ downs s.kept) (demonitors s.watching)
      ∙ ap₂ (λ y z. y ++ z) (links_both (exits s.links) (downs s.kept) ∙ ap₂ (λ y z. y ++ z) (exit_links s.links).0 (down_kept s.kept).0) (demonitor_watched s.watching).0
      ∙ append-nil (s.links ++ []) ∙ append-nil s.links

  estate_kept : (s : ProcessState) → kepts_in (estate p s r) ≡ s.kept
  estate_kept s =
      kepts_both (exits s.links ++ downs s.kept) (demonitors s.watching)
      ∙ ap₂ (λ y z. y ++ z) (kepts_both (exits s.links) (downs s.kept) ∙ ap₂ (λ y z. y ++ z) (exit_links s.links).1 (down_kept s.kept).1) (demonitor_watched s.watching).1
      ∙ append-nil s.kept

  estate_watched : (s : ProcessState) → watches_in (estate p s r) ≡ s.watching
  estate_watched s =
      watches_both (exits s.links ++ downs s.kept) (demonitors s.watching)
      ∙ ap₂ (λ y z. y ++ z) (watches_both (exits s.links) (downs s.kept) ∙ ap₂ (λ y z. y ++ z) (exit_links s.links).2 (down_kept s.kept).2) (demonitor_watched s.watching).2

-- what is on its way, collected one after the other
pub record IsDraining (old now : JudgeState) (e : Estate) : Type 0 where
  pub state : now ≡ record old { flights = now.flights }
  pub links : e.links.items ++ links_in now.flights ≡ links_in old.flights
  pub kept : e.kept.items ++ kepts_in now.flights ≡ kepts_in old.flights
  pub watching : e.watching.items ++ watches_in now.flights ≡ watches_in old.flights

one_more : {X : Type 0} (xs ys zs rest all : List X) → zs ≡ xs ++ ys → xs ++ (ys ++ rest) ≡ all → zs ++ rest ≡ all
one_more xs ys zs rest all h k = ap (λ z. z ++ rest) h ∙ append_assoc xs ys rest ∙ k

pub draining_one : (old now new : JudgeState) (e f : Estate) (x : Sent) → IsDraining old now e → now.flights ≡ x ∷ new.flights → new ≡ record now { flights = new.flights }
    → (f.links.items ≡ e.links.items ++ link_in x.to x.signal) → (f.kept.items ≡ e.kept.items ++ kept_in x.to x.signal) → (f.watching.items ≡ e.watching.items ++ watch_in x.to x.signal) → IsDraining old new f
draining_one old now new e f x d h s l k w = record {
  state = s ∙ ap (λ (z : JudgeState). record z { flights = new.flights }) d.state;
  links = one_more e.links.items (link_in x.to x.signal) f.links.items (links_in new.flights) (links_in old.flights) l (ap (λ z. e.links.items ++ links_in z) (sym h) ∙ d.links);
  kept = one_more e.kept.items (kept_in x.to x.signal) f.kept.items (kepts_in new.flights) (kepts_in old.flights) k (ap (λ z. e.kept.items ++ kepts_in z) (sym h) ∙ d.kept);
  watching = one_more e.watching.items (watch_in x.to x.signal) f.watching.items (watches_in new.flights) (watches_in old.flights) w (ap (λ z. e.watching.items ++ watches_in z) (sym h) ∙ d.watching);
}

pub none_left : (xs : List Sent) → None ≡ slice_get xs 0 → xs ≡ []
none_left [] h = refl
none_left (x ∷ xs) h = absurd (cc)

pub drained_all : (old now : JudgeState) (e : Estate) → IsDraining old now e → now.flights ≡ [] → IsDrained old now e
drained_all old now e d h = record {
  state = d.state ∙ ap (λ z. record old { flights = z }) h;
  links = sym (append-nil e.links.items) ∙ ap (λ z. e.links.items ++ links_in z) (sym h) ∙ d.links;
  kept = sym (append-nil e.kept.items) ∙ ap (λ z. e.kept.items ++ kepts_in z) (sym h) ∙ d.kept;
  watching = sym (append-nil e.watching.items) ∙ ap (λ z. e.watching.items ++ watches_in z) (sym h) ∙ d.watching;
}

left_estate : (p : Pid) (f g : Phase) → is_living f ≡ true → g ≡ after p (Left p Normal) f
    → cond (is_living f) (end_sends p (reason_of g) (state_of g)) [] ≡ estate p (state_of f) Normal
left_estate p unborn g h e = absurd (cc)
left_estate p (ended r s) g h e = absurd (cc)
left_estate p (living s) g h e =
    subst (λ z. end_sends p (reason_of z) (state_of z) ≡ estate p s Normal) (sym e) (rw (same_pid_refl p) refl)

alive_is : (f : Phase) → is_living f ≡ true → f ≡ living (state_of f)
alive_is unborn h = absurd (cc)
alive_is (living s) h = refl
alive_is (ended r s) h = absurd (cc)

-- a process that ends, and leaves all that it held
pub taken_out : (p : Pid) (old mid new : JudgeState) (h : Holding) (e : Estate) → old.flights ≡ [] → is_living (now_is old p) ≡ true → IsStep old (Left p Normal) mid → IsDrained mid new e
    → h.waiting.items ≡ (state_of (now_is old p)).waiting → h.traps ≡ (state_of (now_is old p)).traps → h.links.items ≡ e.links.items → h.kept.items ≡ e.kept.items → h.watching.items ≡ e.watching.items → IsTakenOut p old new h
taken_out p old mid new h e none on step d w t l k m =
    let s = state_of (now_is old p) in
    let flies : mid.flights ≡ estate p s Normal = step.flights ∙ ap (λ z. z ++ judge_sends mid.lives (lived old.lives (Left p Normal)) (Left p Normal)) none ∙ left_estate p (now_is old p) (now_is mid p) on (step.lives p) in
    let links : h.links.items ≡ s.links = l ∙ d.links ∙ ap links_in flies ∙ estate_links p Normal s in
    let kept : h.kept.items ≡ s.kept = k ∙ d.kept ∙ ap kepts_in flies ∙ estate_kept p Normal s in
    let watching : h.watching.items ≡ s.watching = m ∙ d.watching ∙ ap watches_in flies ∙ estate_watched p Normal s in
    record {
      held = alive_is (now_is old p) on ∙ ap living (λ i. record { waiting = sym w i; links = sym links i; watching = sym watching i; kept = sym kept i; traps = sym t i });
      others = λ q a. ap (λ z. now_is z q) d.state ∙ step.lives q ∙ ap (λ c. cond c (ended_by (now_is old q)) (now_is old q)) a;
      still = ap (λ (z : JudgeState). z.flights) d.state;
    }
  where
    ended_by : Phase → Phase
    ended_by unborn = unborn
    ended_by (living s) = ended Normal s
    ended_by (ended r s) = ended r s

pub waiting_is : {X : Type 0} (b : Bool) (xs ys zs : List X) → b ≡ true → Some xs ≡ cond b (Some ys) None → zs ≡ xs → zs ≡ ys
waiting_is true xs ys zs h k l = let e : xs ≡ ys = cc in l ∙ e
waiting_is false xs ys zs h k l = absurd (cc)

pub waiting_none : {X P : Type 0} (b : Bool) (ys : List X) → b ≡ true → None ≡ cond b (Some ys) None → P
waiting_none true ys h k = absurd (cc)
waiting_none false ys h k = absurd (cc)

-- the list of processes ---------------------------------------------------------------------------

abbrev pub phase_in : List Resident → Pid → Phase
phase_in residents q = at_start (lives_in residents) q

is_nobody : (f : Phase) → is_unborn f ≡ true → f ≡ unborn
is_nobody unborn h = refl
is_nobody (living s) h = absurd (cc)
is_nobody (ended r s) h = absurd (cc)

-- no process that is listed is unborn
abbrev NoneUnborn : Start → Type 0
NoneUnborn [] = Unit {0}
NoneUnborn (x ∷ xs) = (is_unborn x.1 ≡ false) × NoneUnborn xs

both_born : (xs ys : Start) → NoneUnborn xs → NoneUnborn ys → NoneUnborn (xs ++ ys)
both_born [] ys h k = k
both_born (x ∷ xs) ys h k = (h.0, both_born xs ys h.1 k)

run_born : (p : Pid) (r : Reason) (n : ℕ) → NoneUnborn (ended_run p r n)
run_born p r zero = tt
run_born p r (suc n) = both_born (ended_run p r n) _ (run_born p r n) (refl, tt)

one_born : (r : Resident) → NoneUnborn (resident_lives r)
one_born (Lives p h) = (refl, tt)
one_born (Ended p last r) = run_born p r (last + 1 - p.version)

all_born : (rs : List Resident) → NoneUnborn (lives_in rs)
all_born [] = tt
all_born (r ∷ rs) = both_born (resident_lives r) (lives_in rs) (one_born r) (all_born rs)

-- a process more, behind all others
pushed : (xs : Start) (x : Pid × Phase) (q : Pid) → NoneUnborn xs → at_start (xs ++ x ∷ []) q ≡ cond (is_unborn (at_start xs q)) (at_start (x ∷ []) q) (at_start xs q)
pushed [] x q h = refl
pushed ((p, f) ∷ xs) x q h = go (same_pid q p) (pushed xs x q h.1)
  where
    go : (b : Bool) → at_start (xs ++ x ∷ []) q ≡ cond (is_unborn (at_start xs q)) (at_start (x ∷ []) q) (at_start xs q)
        → phase_or_unborn (cond b (Some f) (lookup (same_pid q) (xs ++ x ∷ [])))
        ≡ cond (is_unborn (phase_or_unborn (cond b (Some f) (lookup (same_pid q) xs)))) (at_start (x ∷ []) q) (phase_or_unborn (cond b (Some f) (lookup (same_pid q) xs)))
    go true ih = ap (λ b. cond b (at_start (x ∷ []) q) f) (sym h.0)
    go false ih = ih

one_other : (x : Pid × Phase) (q : Pid) → same_pid q x.0 ≡ false → at_start (x ∷ []) q ≡ unborn
one_other x q h = rw h refl

one_own : (x : Pid × Phase) → at_start (x ∷ []) x.0 ≡ x.1
one_own x = rw (same_pid_refl x.0) refl

unborn_both : (f : Phase) → cond (is_unborn f) unborn f ≡ f
unborn_both unborn = refl
unborn_both (living s) = refl
unborn_both (ended r s) = refl

own_pushed : (f g : Phase) → is_unborn g ≡ false → is_unborn (cond (is_unborn f) g f) ≡ false
own_pushed unborn g h = h
own_pushed (living s) g h = refl
own_pushed (ended r s) g h = refl

module _ (p : Pid) (f : Phase) (old new : JudgeState) (rs more : List Resident) (is : lives_in more ≡ lives_in rs ++ (p, f) ∷ []) where
  abbrev one : Pid → Phase
  one q = at_start ((p, f) ∷ []) q

  more_at : (q : Pid) → phase_in more q ≡ cond (is_unborn (phase_in rs q)) (one q) (phase_in rs q)
  more_at q = ap (λ z. at_start z q) is ∙ pushed (lives_in rs) (p, f) q (all_born rs)

  -- the process is listed with what became of it
  pub listed : outcome (now_is old p) ≡ f → is_unborn f ≡ false → ((q : Pid) → same_pid q p ≡ false → now_is new q ≡ now_is old q) → new.flights ≡ [] → IsListed p old rs new more
  listed h b others none = record {
    kept = λ q k. more_at q ∙ ap (λ c. cond c (one q) (phase_in rs q)) k;
    others = λ q a. more_at q ∙ ap (λ z. cond (is_unborn (phase_in rs q)) z (phase_in rs q)) (one_other (p, f) q a) ∙ unborn_both (phase_in rs q);
    other_lives = others;
    told = λ k. more_at p ∙ ap (λ c. cond c (one p) (phase_in rs p)) k ∙ one_own (p, f) ∙ sym h;
    none = λ k. absurd (both_ways (is_unborn (phase_in more p)) (ap is_unborn (more_at p) ∙ own_pushed (phase_in rs p) (one p) (ap is_unborn (one_own (p, f)) ∙ b)) k);
    still = none;
  }

-- a process more, behind the last run or as a run of its own
version_is : (q p : Pid) (n : ℕ) → q.shard ≡ p.shard → q.slot ≡ p.slot → q.version + n ≡ p.version → record q { version = q.version + n } ≡ p
version_is q p n a b c = rw (a, b, c) refl

reason_is : (a b : Reason) → of_reason.eq a b ≡ true → a ≡ b
reason_is a b h = grind (arith, common_steps)

run_longer : (q p : Pid) (r w : Reason) (last : ℕ) (b : Bool) (run : Resident)
    → ((q.shard == p.shard) && (q.slot == p.slot) && nat_le q.version last && (last + 1 == p.version) && of_reason.eq w r) ≡ b
    → cond b (Some (Ended q p.version r)) None ≡ Some run → resident_lives run ≡ ended_run q w (last + 1 - q.version) ++ (p, ended r fresh) ∷ []
run_longer q p r w last false run e h = absurd (cc)
run_longer q p r w last true run e h =
    let one = and_parts ((q.shard == p.shard) && (q.slot == p.slot) && nat_le q.version last && (last + 1 == p.version)) (of_reason.eq w r) e in
    let two = and_parts ((q.shard == p.shard) && (q.slot == p.slot) && nat_le q.version last) (last + 1 == p.version) one.0 in
    let three = and_parts ((q.shard == p.shard) && (q.slot == p.slot)) (nat_le q.version last) two.0 in
    let four = and_parts (q.shard == p.shard) (q.slot == p.slot) three.0 in
    let shard = eqb-true q.shard p.shard four.0 in
    let slot = eqb-true q.slot p.slot four.1 in
    let low = leb-true q.version last three.1 in
    let next = eqb-true (last + 1) p.version two.1 in
    let why = reason_is w r one.1 in
    let n = last + 1 - q.version in
    let count : p.version + 1 - q.version ≡ suc n = omega (arith, low, next) in
    let version : q.version + n ≡ p.version = omega (arith, low, next) in
    let is : Ended q p.version r ≡ run = cc in
    ap resident_lives (sym is) ∙ ap (ended_run q r) count
    ∙ ap (λ z. ended_run q r n ++ (z, ended r fresh) ∷ []) (version_is q p n shard slot version)
    ∙ ap (λ z. ended_run q z n ++ (p, ended r fresh) ∷ []) (sym why)

run_joined : (last run : Resident) (p : Pid) (r : Reason) → run_with last p r ≡ Some run → resident_lives run ≡ resident_lives last ++ (p, ended r fresh) ∷ []
run_joined (Lives q h) run p r e = absurd (cc)
run_joined (Ended q last w) run p r e = run_longer q p r w last _ run refl e

one_more_in : (rs : List Resident) (r : Resident) → lives_in (rs ++ r ∷ []) ≡ lives_in rs ++ resident_lives r
one_more_in rs r = flat_map-append resident_lives rs (r ∷ []) ∙ ap (λ z. lives_in rs ++ z) (append-nil (resident_lives r))

pub end_joined : (old rs : List Resident) (last run : Resident) (p : Pid) (r : Reason) → old ≡ rs ++ last ∷ [] → run_with last p r ≡ Some run → lives_in (rs ++ run ∷ []) ≡ lives_in old ++ (p, ended r fresh) ∷ []
end_joined old rs last run p r e k =
    one_more_in rs run ∙ ap (λ z. lives_in rs ++ z) (run_joined last run p r k) ∙ sym (append_assoc (lives_in rs) (resident_lives last) _)
    ∙ ap (λ z. z ++ (p, ended r fresh) ∷ []) (sym (one_more_in rs last) ∙ ap lives_in (sym e))

pub end_added : (old : List Resident) (p : Pid) (r : Reason) → lives_in (old ++ Ended p p.version r ∷ []) ≡ lives_in old ++ (p, ended r fresh) ∷ []
end_added old p r =
    let count : p.version + 1 - p.version ≡ suc zero = omega arith in
    let version : p.version + zero ≡ p.version = omega arith in
    one_more_in old (Ended p p.version r) ∙ ap (λ n. lives_in old ++ ended_run p r n) count
    ∙ ap (λ z. lives_in old ++ (z, ended r fresh) ∷ []) (version_is p p zero refl refl version)

-- one more of a run that is taken in
pub run_one_more : (p next : Pid) (r : Reason) (n m : ℕ) → next.shard ≡ p.shard → next.slot ≡ p.slot → next.version ≡ p.version + n → m ≡ n + 1
    → ended_run p r n ++ (next, ended r fresh) ∷ [] ≡ ended_run p r m
run_one_more p next r n m a b c e =
    ap (λ z. ended_run p r n ++ (z, ended r fresh) ∷ []) (sym (version_is p next n (sym a) (sym b) (sym c))) ∙ ap (ended_run p r) (sym (e ∙ add-one n))

pub reason_outcome : (f : Phase) (r : Reason) → Some r ≡ reason_of f → outcome f ≡ ended r fresh
reason_outcome unborn r h = absurd (cc)
reason_outcome (living s) r h = absurd (cc)
reason_outcome (ended w s) r h = let e : w ≡ r = cc in ap (λ z. ended z fresh) e

never_born : (f : Phase) → is_living f ≡ false → None ≡ reason_of f → outcome f ≡ unborn
never_born unborn h k = refl
never_born (living s) h k = absurd (cc)
never_born (ended r s) h k = absurd (cc)

-- nothing became of a process that was never born
pub not_listed : (p : Pid) (old : JudgeState) (rs : List Resident) → is_living (now_is old p) ≡ false → None ≡ reason_of (now_is old p) → old.flights ≡ [] → IsListed p old rs old rs
not_listed p old rs a n none = record {
  kept = λ q k. refl;
  others = λ q k. refl;
  other_lives = λ q k. refl;
  told = λ k. is_nobody (phase_in rs p) k ∙ sym (never_born (now_is old p) a n);
  none = λ k. refl;
  still = none;
}

-- those of the pids that were looked at are listed
pub record IsListing (first now : JudgeState) (seen : List Pid) (rs : List Resident) : Type 0 where
  pub still : now.flights ≡ []
  pub fresh_is : (q : Pid) → is_unborn (phase_in rs q) ≡ true → now_is now q ≡ now_is first q
  pub told : (q : Pid) → is_unborn (phase_in rs q) ≡ false → phase_in rs q ≡ outcome (now_is first q)
  pub seen_told : (q : Pid) → list_any (same_pid q) seen ≡ true → phase_in rs q ≡ outcome (now_is first q)

pub listing_none : (first : JudgeState) → first.flights ≡ [] → IsListing first first [] []
listing_none first h = record { still = h; fresh_is = λ q k. refl; told = λ q k. absurd (cc); seen_told = λ q k. absurd (cc) }

any_more : {X : Type 0} (test : X → Bool) (xs : List X) (x : X) → list_any test (xs ++ x ∷ []) ≡ list_any test xs || test x
any_more test [] x = go (test x)
  where
    go : (b : Bool) → b || false ≡ b
    go true = refl
    go false = refl
any_more test (y ∷ xs) x = ap (λ z. test y || z) (any_more test xs x) ∙ go (test y)
  where
    go : (b : Bool) → b || (list_any test xs || test x) ≡ (b || list_any test xs) || test x
    go true = refl
    go false = refl

module _ (first now new : JudgeState) (seen : List Pid) (p : Pid) (rs more : List Resident) (i : IsListing first now seen rs) (l : IsListed p now rs new more) where
  -- of the process itself
  own_told : (b : Bool) → is_unborn (phase_in rs p) ≡ b → phase_in more p ≡ outcome (now_is first p)
  own_told true h = l.told h ∙ ap outcome (i.fresh_is p h)
  own_told false h = l.kept p h ∙ i.told p h

  own_fresh : (b : Bool) → is_unborn (phase_in rs p) ≡ b → is_unborn (phase_in more p) ≡ true → now_is new p ≡ now_is first p
  own_fresh true h k = l.none k ∙ i.fresh_is p h
  own_fresh false h k = absurd (both_ways (is_unborn (phase_in more p)) (ap is_unborn (l.kept p h) ∙ h) k)

  abbrev Step : Pid → Type 0
  Step q = (is_unborn (phase_in more q) ≡ true → now_is new q ≡ now_is first q)
      × (is_unborn (phase_in more q) ≡ false → phase_in more q ≡ outcome (now_is first q))
      × ((list_any (same_pid q) seen || same_pid q p) ≡ true → phase_in more q ≡ outcome (now_is first q))

  step : (q : Pid) (b : Bool) → same_pid q p ≡ b → Step q
  step q true e =
      let same : p ≡ q = sym (same_pid_is q p e) in
      subst (λ z. Step z) same
      (own_fresh (is_unborn (phase_in rs p)) refl, λ k. own_told (is_unborn (phase_in rs p)) refl, λ k. own_told (is_unborn (phase_in rs p)) refl)
  step q false e =
      let is = l.others q e in (
        λ k. l.other_lives q e ∙ i.fresh_is q (ap is_unborn (sym is) ∙ k),
        λ k. is ∙ i.told q (ap is_unborn (sym is) ∙ k),
        λ k. is ∙ i.seen_told q (seen_before (list_any (same_pid q) seen) (same_pid q p) e k),
      )
    where
      seen_before : (a c : Bool) → c ≡ false → (a || c) ≡ true → a ≡ true
      seen_before true c h k = refl
      seen_before false true h k = absurd (cc)
      seen_before false false h k = absurd (cc)

  pub listing_more : IsListing first new (seen ++ p ∷ []) more
  listing_more = record {
    still = l.still;
    fresh_is = λ q k. (step q (same_pid q p) refl).0 k;
    told = λ q k. (step q (same_pid q p) refl).1 k;
    seen_told = λ q k. (step q (same_pid q p) refl).2 (sym (any_more (same_pid q) seen p) ∙ k);
  }

-- where all that were born were looked at, all are listed
pub listing_all : (first now : JudgeState) (seen : List Pid) (rs : List Resident) → IsListing first now seen rs → ((q : Pid) → list_any (same_pid q) (keys_of first.lives) ≡ list_any (same_pid q) seen) → AreResidents first rs
listing_all first now seen rs i same q = go (list_any (same_pid q) seen) refl
  where
    nobody : (o : Option Phase) → is_some o ≡ false → phase_or_unborn o ≡ unborn
    nobody None h = refl
    nobody (Some f) h = absurd (cc)

    other : (b : Bool) → is_unborn (phase_in rs q) ≡ b → now_is first q ≡ unborn → phase_in rs q ≡ outcome (now_is first q)
    other true h k = is_nobody (phase_in rs q) h ∙ ap outcome (sym k)
    other false h k = i.told q h

    go : (b : Bool) → list_any (same_pid q) seen ≡ b → phase_in rs q ≡ outcome (now_is first q)
    go true h = i.seen_told q h
    go false h = other (is_unborn (phase_in rs q)) refl (nobody (lookup (same_pid q) first.lives) (is_some-lookup (same_pid q) first.lives ∙ same q ∙ h))

-- the pids that are left to be looked at
pub record IsLeftToList (first now : JudgeState) (left : List Pid) (rs : List Resident) : Type 0 where
  pub seen : List Pid
  pub splits : (q : Pid) → list_any (same_pid q) (keys_of first.lives) ≡ list_any (same_pid q) (seen ++ left)
  pub listing : IsListing first now seen rs

pub left_begin : (first : JudgeState) (pids : List Pid) → first.flights ≡ [] → IsPermutation (keys_of first.lives) pids → IsLeftToList first first pids []
left_begin first pids h e = record { seen = []; splits = λ q. list_any-IsPermutation (same_pid q) (keys_of first.lives) pids e; listing = listing_none first h }

pub left_less : (first now new : JudgeState) (left rest : List Pid) (p : Pid) (rs more : List Resident) → IsLeftToList first now left rs → left ≡ p ∷ rest → IsListed p now rs new more → IsLeftToList first new rest more
left_less first now new left rest p rs more k e l = record {
  seen = k.seen ++ p ∷ [];
  splits = λ q. k.splits q ∙ ap (λ z. list_any (same_pid q) (k.seen ++ z)) e ∙ ap (list_any (same_pid q)) (sym (append_assoc k.seen (p ∷ []) rest));
  listing = listing_more first now new k.seen p rs more k.listing l;
}

pub left_none : (first now : JudgeState) (left : List Pid) (rs : List Resident) → IsLeftToList first now left rs → left ≡ [] → AreResidents first rs
left_none first now left rs k e = listing_all first now k.seen rs k.listing (λ q. k.splits q ∙ ap (λ z. list_any (same_pid q) (k.seen ++ z)) e ∙ ap (list_any (same_pid q)) (append-nil k.seen))

-- at rest -----------------------------------------------------------------------------------------

module _ (t : Heard) (h : Hearing) (k : IsHeard t h) where
  flies_none : t.left ≡ [] → h.state.flights ≡ left_flying t.events
  flies_none e = k.flies ∙ ap (still (left_flying t.events)) e

  pub letters_told : 0 < h.letters → ¬ IsAtRest t
  letters_told z r = some_letters t h k z r.none_told

  pub letters_fly : h.letters ≤ 0 → 0 < length h.state.flights → ¬ IsAtRest t
  letters_fly z f r = omega (arith, f, ap length (flies_none r.none_told ∙ r.still))

  none_fly : (xs : List Sent) → length xs ≤ 0 → xs ≡ []
  none_fly [] e = refl
  none_fly (x ∷ xs) e = absurd (omega (arith, e))

  pub no_flights : length h.state.flights ≤ 0 → h.state.flights ≡ []
  no_flights f = none_fly h.state.flights f

  pub at_rest : h.letters ≤ 0 → length h.state.flights ≤ 0 → IsAtRest t
  at_rest z f = let e = no_letters t h k z in record { none_told = e; still = sym (flies_none e) ∙ no_flights f }

  pub first_foreign_is : (f : Foreign) → t.left ≡ [] → h.foreign ≡ Some f → IsFirstForeign t.events f
  first_foreign_is f e n = go (subst (IsOrigin t.events []) n (subst (λ l. IsOrigin t.events l h.foreign) e k.origin))
    where
      go : IsOrigin t.events [] (Some f) → IsFirstForeign t.events f
      go (inl g) = g
      go (inr g) = absurd g.1

  pub is_rest : (r : Rest) → IsAtRest t → h.foreign ≡ None → r.last ≡ h.last → r.events ≡ h.events → r.desks ≡ h.desks → r.begun ≡ h.node.begun → r.clocks ≡ h.node.clocks → r.seen ≡ h.node.seen → AreResidents h.state r.residents.items
      → IsRestOf t.events r
  is_rest r a n l c d b m u told =
      let node : IsNodeAfter t.events [] h.node = subst (λ z. IsNodeAfter t.events z h.node) a.none_told (k.node n) in
      record {
        legal = k.stands.legal;
        rising = k.stands.rising;
        of_node = all_of_node t h k a.none_told n;
        still = a.still;
        alike = λ p. told p ∙ k.knows.alike p;
        clocks = λ d. ap (λ z. stamp_noted z d) m ∙ node.clocks d;
        seen = λ d p. ap (λ z. is_noted z d p) u ∙ node.seen d p;
        last = l ∙ k.last;
        begun = subst (TellsBegin t.events) (sym b) node.begun;
        count = c ∙ k.count;
        desks = d ∙ k.desks;
      }

-- going on ----------------------------------------------------------------------------------------

-- an id is named by the desk and the stamp of the event that makes it
own_link : (d n : ℕ) (e : Event) (i : LinkId) → IsNewAt d n e → ((i.desk ≡ d) × (i.number ≡ n) → ⊥) → makes_link i e ≡ false
own_link d n (Born p parent None) i w other = refl
own_link d n (Born p parent (Some j)) i w other = go (same_link i j) refl
  where
    go : (b : Bool) → same_link i j ≡ b → b ≡ false
    go true h = let same = same_link_is i j h in absurd (other (ap (λ (z : LinkId). z.desk) same ∙ w.0, ap (λ (z : LinkId). z.number) same ∙ w.1))
    go false h = refl
own_link d n (Said a b (Link j)) i w other = go (same_link i j) refl
  where
    go : (b : Bool) → same_link i j ≡ b → b ≡ false
    go true h = let same = same_link_is i j h in absurd (other (ap (λ (z : LinkId). z.desk) same ∙ w.0, ap (λ (z : LinkId). z.number) same ∙ w.1))
    go false h = refl
own_link d n e i w other = refl

own_ref : (d n : ℕ) (e : Event) (m : Ref) → IsNewAt d n e → ((m.desk ≡ d) × (m.number ≡ n) → ⊥) → makes_ref m e ≡ false
own_ref d n (Said a b (Monitor j)) m w other = go (same_ref m j) refl
  where
    go : (b : Bool) → same_ref m j ≡ b → b ≡ false
    go true h = let same = same_ref_is m j h in absurd (other (ap (λ (z : Ref). z.desk) same ∙ w.0, ap (λ (z : Ref). z.number) same ∙ w.1))
    go false h = refl
own_ref d n (Said a b (AliveAsk j)) m w other = go (same_ref m j) refl
  where
    go : (b : Bool) → same_ref m j ≡ b → b ≡ false
    go true h = let same = same_ref_is m j h in absurd (other (ap (λ (z : Ref). z.desk) same ∙ w.0, ap (λ (z : Ref). z.number) same ∙ w.1))
    go false h = refl
own_ref d n e m w other = refl

late_not_own : (t : Stamped) (d n : ℕ) → is_late (Some t) d n ≡ true → (d ≡ t.desk) × (n ≡ t.stamp) → ⊥
late_not_own t d n h w = go (or_cases (nat_lt t.stamp n) ((t.stamp == n) && nat_lt t.desk d) h)
  where
    go : (nat_lt t.stamp n ≡ true) ⊎ (((t.stamp == n) && nat_lt t.desk d) ≡ true) → ⊥
    go (inl e) = omega (arith, ltb-true t.stamp n e, w.1)
    go (inr e) = omega (arith, ltb-true t.desk d (and_parts (t.stamp == n) (nat_lt t.desk d) e).1, w.0)

above_late : (past : List Stamped) (s : Stamped) → is_above (newest past) s ≡ true → is_late (newest past) s.desk s.stamp ≡ true
above_late [] s h = refl
above_late (t ∷ past) s h = h

still_late : (past : List Stamped) (t : Stamped) (d n : ℕ) → is_above (newest past) t ≡ true → is_late (Some t) d n ≡ true → is_late (newest past) d n ≡ true
still_late past t d n h k = later (newest past) t (record { stamp = n; desk = d; event = t.event }) (above_late past t h) k

-- what a node made was made at the stamps of its events
new_link : (past : List Stamped) → AllFromNode past → EventsAreRising past → (i : LinkId) → is_late (newest past) i.desk i.number ≡ true → made_link (events past) i ≡ false
new_link [] all rising i h = refl
new_link (t ∷ past) all rising i h =
    ap₂ (λ a b. a || b) (own_link t.desk t.stamp t.event i all.0.named.new_at (late_not_own t i.desk i.number h))
    (new_link past all.1 rising.1 i (still_late past t i.desk i.number rising.0 h))

new_ref : (past : List Stamped) → AllFromNode past → EventsAreRising past → (m : Ref) → is_late (newest past) m.desk m.number ≡ true → made_ref (events past) m ≡ false
new_ref [] all rising m h = refl
new_ref (t ∷ past) all rising m h =
    ap₂ (λ a b. a || b) (own_ref t.desk t.stamp t.event m all.0.named.new_at (late_not_own t m.desk m.number h))
    (new_ref past all.1 rising.1 m (still_late past t m.desk m.number rising.0 h))

content_without : (a b : Pid) (ls : List Letter) → map content (without_first (goes_between a b) ls) ≡ without_first (is_between a b) (map content ls)
content_without a b [] = refl
content_without a b (l ∷ ls) = go (is_between a b (content l)) (content_without a b ls)
  where
    go : (c : Bool) → map content (without_first (goes_between a b) ls) ≡ without_first (is_between a b) (map content ls)
        → map content (cond c ls (l ∷ without_first (goes_between a b) ls)) ≡ cond c (map content ls) (content l ∷ without_first (is_between a b) (map content ls))
    go true ih = refl
    go false ih = ap (λ z. content l ∷ z) ih

content_landed : (e : Event) (ls : List Letter) → map content (letters_landed e ls) ≡ landed e (map content ls)
content_landed (Came a b x) ls = content_without a b ls
content_landed (Born p parent link) ls = refl
content_landed (Said a b x) ls = refl
content_landed (Took p j i) ls = refl
content_landed (Flag p on) ls = refl
content_landed (Left p r) ls = refl
content_landed (Refused a b) ls = refl

content_both : (xs : List Letter) (n : ℕ) (ys : List Sent) → map content (xs ++ map (letter n) ys) ≡ map content xs ++ ys
content_both [] n [] = refl
content_both [] n (y ∷ ys) = ap (λ z. y ∷ z) (content_both [] n ys)
content_both (x ∷ xs) n ys = ap (λ z. content x ∷ z) (content_both xs n ys)

-- the letters on their way, without the stamps of their sending
content_flying : (past : List Stamped) → map content (letters_flying past) ≡ flying [] (events past)
content_flying [] = refl
content_flying (s ∷ past) =
    content_both (letters_landed s.event (letters_flying past)) s.stamp (sent_by [] (events past) s.event)
    ∙ ap (λ z. z ++ sent_by [] (events past) s.event) (content_landed s.event (letters_flying past) ∙ ap (landed s.event) (content_flying past))

none_flying : (past : List Stamped) → left_flying past ≡ [] → letters_flying past ≡ []
none_flying past h = go (letters_flying past) (content_flying past ∙ h)
  where
    go : (ls : List Letter) → map content ls ≡ [] → ls ≡ []
    go [] e = refl
    go (l ∷ ls) e = absurd (cc)

out_twice : (f : Phase) → outcome (outcome f) ≡ outcome f
out_twice unborn = refl
out_twice (living s) = refl
out_twice (ended r s) = refl

newest_clock : (past : List Stamped) → stamp_of (newest past) ≡ clock 0 past
newest_clock [] = refl
newest_clock (s ∷ past) = refl

abbrev state_over : Rest → JudgeState
state_over r = record { links = []; refs = []; lives = lives_in r.residents.items; flights = [] }

abbrev node_over : Rest → Desks
node_over r = record { lanes = []; clocks = r.clocks; seen = r.seen; left = (0, 0); newest = stamp_of r.last; begun = r.begun }

abbrev hearing_over : Rest → JudgeState → Desks → Hearing
hearing_over r s n = record { state = s; last = r.last; events = r.events; desks = r.desks; letters = 0; node = n; foreign = None; since = r.last }

-- a hearing over the rest has heard the history
pub heard_over : (past : List Stamped) (r : Rest) (h : Hearing) (state : JudgeState) (node : Desks) → IsRestOf past r → state ≡ record { links = []; refs = []; lives = lives_in r.residents.items; flights = [] }
    → node ≡ record { lanes = []; clocks = r.clocks; seen = r.seen; left = (0, 0); newest = stamp_of r.last; begun = r.begun }
    → h ≡ hearing_over r state node
    → IsHeard (record { events = past; left = []; since = r.last }) h
heard_over past r h state node k s n e = subst (IsHeard (record { events = past; left = []; since = r.last })) (sym (e ∙ ap₂ (hearing_over r) s n)) heard
  where
    late_is : (d n : ℕ) → is_late r.last d n ≡ true → is_late (newest past) d n ≡ true
    late_is d n h = ap (λ o. is_late o d n) (sym k.last) ∙ h

    heard : IsHeard (record { events = past; left = []; since = r.last }) (hearing_over r (state_over r) (node_over r))
    heard = record {
      stands = record { legal = k.legal; rising = k.rising; told = tt };
      knows = record {
        links_made = λ i l. sym (new_link past k.of_node k.rising i (late_is i.desk i.number l));
        links_only = λ i b. absurd (cc);
        refs_made = λ m l. sym (new_ref past k.of_node k.rising m (late_is m.desk m.number l));
        refs_only = λ m b. absurd (cc);
        alike = λ p. ap outcome (k.alike p) ∙ out_twice (life [] (events past) p);
        flies = refl;
      };
      flies = sym k.still;
      last = k.last;
      count = k.count;
      desks = k.desks;
      letters = refl;
      origin = (k.of_node, tt);
      node = λ z. record {
        lanes = λ d e. ap (lane d e) (sym (none_flying past k.still));
        clocks = k.clocks;
        seen = k.seen;
        turn = refl;
        newest = ap stamp_of k.last ∙ newest_clock past;
        begun = k.begun;
      };
      since = refl;
      late = λ u b. ap (λ o. is_late o u.desk u.stamp) k.last ∙ above_late past u b;
      of_node = λ o z. refl;
    }

-- why nothing can go on, or that all may
pub at_rest_is : (t : Heard) (h : Hearing) (k : IsHeard t h) → h.letters ≤ 0 → length h.state.flights ≤ 0 → h.foreign ≡ None → IsRestless t None
at_rest_is t h k z f n = let r = at_rest t h k z f in (r, all_of_node t h k r.none_told n)

pub of_no_node_is : (t : Heard) (h : Hearing) (k : IsHeard t h) (f : Foreign) → h.letters ≤ 0 → length h.state.flights ≤ 0 → h.foreign ≡ Some f → IsAtRest t × IsFirstForeign t.events f
of_no_node_is t h k f z g n = let r = at_rest t h k z g in (r, first_foreign_is t h k f r.none_told n)

-- what is the same without its first is empty
pub shrinks : {X : Type 0} (xs : List X) → xs ≡ drop 1 xs → xs ≡ []
shrinks [] h = refl
shrinks (x ∷ xs) h = absurd (omega (arith, ap length h))
