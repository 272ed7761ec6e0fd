-- Pulls, one after the other.
use Rattle.std.proofs.Common.{◌≡◌, ◌⊎◌, inl, inr, ℕ, zero, suc, ◌+◌, ◌<◌, ◌≤◌, false, List, [], ◌∷◌, ◌++◌, length, drop, Option, Some, None, refl, sym, ap, subst, ◌∙◌, append_assoc, append-nil, length-append, arith}
use Rattle.std.specs.Prelude.{⊤, slice_set}
use Rattle.std.specs.List.{AllByRecursion, IsDistinct}
use Rattle.std.proofs.lemmas.List.{set_at}
use Rattle.std.proofs.lemmas.Map.Keys.{IsDistinct-head, IsDistinct-tail, IsDistinct-cons}
use Rattle.pt_signal.specs.declared.pid.Pid.{Pid}
use Rattle.pt_signal.specs.Values.{same_pid}
use Rattle.pt_shard.specs.ShardState.{ShardState, phase_of}
use Rattle.pt_crew.specs.Visiting.{again_as, handed_as}
use Rattle.pt_crew.specs.Crews.{queue}
use Rattle.pt_scheduler.specs.declared.member.Job.{Job}
use Rattle.pt_scheduler.specs.declared.scheduler.Scheduler.{Scheduler}
use Rattle.pt_scheduler.specs.Scheduling.{SchedulerAttends, Fills, Pulls, PullsAll, PullsFirst, jobs_of, pids_told}
use Rattle.pt_scheduler.specs.Taken.{PullsInto}

-- a job is of this process
abbrev pub IsOf : Option Job → Pid → Type 0
IsOf None p = ⊤
IsOf (Some job) p = job.pid ≡ p

abbrev pub AreOf : List (Option Job) → List Pid → Type 0
AreOf [] [] = ⊤
AreOf (job ∷ pulled) (p ∷ ps) = IsOf job p × AreOf pulled ps
AreOf _ _ = ⊥

-- the first of the queue was come to, and the others stand there still
pull_front : (p : Pid) (ps : List Pid) (old : Scheduler) (d : ShardState) (job : Option Job) (new : Scheduler) (e : ShardState) → PullsFirst (p ∷ ps) old d job new e
    → (back : List Pid) × (queue new.crew ≡ ps ++ back) × IsOf job p
pull_front p ps old d (Some job) new e (inl h, is, kept) = ([], is ∙ sym (append-nil ps), ap (λ (j : Job). j.pid) h.says)
pull_front p ps old d (Some job) new e (inr h, is, kept) = ([], is ∙ sym (append-nil ps), ap (λ (j : Job). j.pid) h.says)
pull_front p ps old d None new e (inl h) = (again_as p (handed_as h.next (phase_of e p)), h.queue, tt)
pull_front p ps old d None new e (inr h) = elim h.queue [
  | inl is ↦ ([], is.1 ∙ sym (append-nil ps), tt)
  | inr is ↦ (p ∷ [], is.0, tt)
]

pulls_then : (pulled : List (Option Job)) (job : Option Job) (old : Scheduler) (d : ShardState) (mid : Scheduler) (f : ShardState) (new : Scheduler) (e : ShardState)
    → PullsAll pulled old d mid f → Pulls mid f job new e → PullsAll (pulled ++ job ∷ []) old d new e
pulls_then [] job old d mid f new e h one =
    (new, e, subst (λ (x : Scheduler). Pulls x d job new e) h.0 (subst (λ (x : ShardState). Pulls mid x job new e) h.1 one), (refl, refl))
pulls_then (j ∷ pulled) job old d mid f new e h one = (h.0, h.1, h.2, pulls_then pulled job h.0 h.1 mid f new e h.3 one)

jobs_none : (pulled : List (Option Job)) → jobs_of (pulled ++ None ∷ []) ≡ jobs_of pulled
jobs_none [] = refl
jobs_none (None ∷ pulled) = jobs_none pulled
jobs_none (Some j ∷ pulled) = ap (λ (l : List Job). j ∷ l) (jobs_none pulled)

jobs_some : (pulled : List (Option Job)) (job : Job) → jobs_of (pulled ++ Some job ∷ []) ≡ jobs_of pulled ++ job ∷ []
jobs_some [] job = refl
jobs_some (None ∷ pulled) job = jobs_some pulled job
jobs_some (Some j ∷ pulled) job = ap (λ (l : List Job). j ∷ l) (jobs_some pulled job)

of_then : (pulled : List (Option Job)) (ps : List Pid) (job : Option Job) (p : Pid) → AreOf pulled ps → IsOf job p → AreOf (pulled ++ job ∷ []) (ps ++ p ∷ [])
of_then [] [] job p h one = (one, tt)
of_then (j ∷ pulled) (q ∷ ps) job p h one = (h.0, of_then pulled ps job p h.1 one)
of_then [] (q ∷ ps) job p h one = absurd h
of_then (j ∷ pulled) [] job p h one = absurd h

-- no process twice
all_of : (P : Pid → Type 0) (pulled : List (Option Job)) (ps : List Pid) → AreOf pulled ps → AllByRecursion P ps → AllByRecursion P (pids_told (jobs_of pulled))
all_of P [] [] h a = tt
all_of P (None ∷ pulled) (p ∷ ps) h a = all_of P pulled ps h.1 a.1
all_of P (Some j ∷ pulled) (p ∷ ps) h a = (subst P (sym h.0) a.0, all_of P pulled ps h.1 a.1)
all_of P [] (p ∷ ps) h a = absurd h
all_of P (None ∷ pulled) [] h a = absurd h
all_of P (Some j ∷ pulled) [] h a = absurd h

none_distinct : IsDistinct same_pid []
unfolding IsDistinct
none_distinct = tt

of_distinct : (pulled : List (Option Job)) (ps : List Pid) → AreOf pulled ps → IsDistinct same_pid ps → IsDistinct same_pid (pids_told (jobs_of pulled))
of_distinct [] [] h d = none_distinct
of_distinct (None ∷ pulled) (p ∷ ps) h d = of_distinct pulled ps h.1 (IsDistinct-tail same_pid p ps d)
of_distinct (Some j ∷ pulled) (p ∷ ps) h d = IsDistinct-cons same_pid j.pid (pids_told (jobs_of pulled))
    (subst (λ (q : Pid). AllByRecursion (λ y. same_pid q y ≡ false) (pids_told (jobs_of pulled))) (sym h.0) (all_of (λ y. same_pid p y ≡ false) pulled ps h.1 (IsDistinct-head same_pid p ps d)))
    (of_distinct pulled ps h.1 (IsDistinct-tail same_pid p ps d))
of_distinct [] (p ∷ ps) h d = absurd h
of_distinct (None ∷ pulled) [] h d = absurd h
of_distinct (Some j ∷ pulled) [] h d = absurd h

front_all : (P : Pid → Type 0) (xs ys : List Pid) → AllByRecursion P (xs ++ ys) → AllByRecursion P xs
front_all P [] ys a = tt
front_all P (x ∷ xs) ys a = (a.0, front_all P xs ys a.1)

front_distinct : (xs ys : List Pid) → IsDistinct same_pid (xs ++ ys) → IsDistinct same_pid xs
front_distinct [] ys d = none_distinct
front_distinct (x ∷ xs) ys d = IsDistinct-cons same_pid x xs (front_all (λ y. same_pid x y ≡ false) xs ys (IsDistinct-head same_pid x (xs ++ ys) d)) (front_distinct xs ys (IsDistinct-tail same_pid x (xs ++ ys) d))

-- so many were come to
pub record FilledSo (start : List Pid) (n : ℕ) (jobs : List Job) (old : Scheduler) (d : ShardState) (count : ℕ) (later : List Job) (new : Scheduler) (e : ShardState) : Type 0 where
  pub pulled : List (Option Job)
  pub pulls : PullsAll pulled old d new e
  pub come : length pulled ≡ n
  pub counted : count ≡ length (jobs_of pulled)
  pub wrote : later ≡ jobs_of pulled ++ drop count jobs
  pub done : List Pid
  pub rest : List Pid
  pub back : List Pid
  pub all : start ≡ done ++ rest
  pub stands : queue new.crew ≡ rest ++ back
  pub places : AreOf pulled done

pub none_filled : (jobs : List Job) (old : Scheduler) (d : ShardState) → FilledSo (queue old.crew) 0 jobs old d 0 jobs old d
none_filled jobs old d = record {
  pulled = [];
  pulls = (refl, refl);
  come = refl;
  counted = refl;
  wrote = refl;
  done = [];
  rest = queue old.crew;
  back = [];
  all = refl;
  stands = sym (append-nil (queue old.crew));
  places = tt;
}

of_length : (pulled : List (Option Job)) (ps : List Pid) → AreOf pulled ps → length pulled ≡ length ps
of_length [] [] h = refl
of_length (j ∷ pulled) (p ∷ ps) h = let l = of_length pulled ps h.1 in omega (arith, l)
of_length [] (p ∷ ps) h = absurd h
of_length (j ∷ pulled) [] h = absurd h

suc_is : (i : ℕ) → suc i ≡ i + 1
suc_is i = omega arith

module _ (start : List Pid) (n : ℕ) (jobs : List Job) (old : Scheduler) (d : ShardState) (count : ℕ) (later : List Job) (mid : Scheduler) (f : ShardState) (so : FilledSo start n jobs old d count later mid f) where
  -- and one more
  pub fills_next : (new : Scheduler) (e : ShardState) (job : Option Job) (count2 : ℕ) (later2 : List Job) → n < length start → Pulls mid f job new e
      → count2 ≡ length (jobs_of (so.pulled ++ job ∷ [])) → later2 ≡ jobs_of (so.pulled ++ job ∷ []) ++ drop count2 jobs → FilledSo start (n + 1) jobs old d count2 later2 new e
  fills_next new e job count2 later2 within one counts writes = go so.rest so.all so.stands
    where
      go : (rest : List Pid) → start ≡ so.done ++ rest → queue mid.crew ≡ rest ++ so.back → FilledSo start (n + 1) jobs old d count2 later2 new e
      go [] all is = absurd (let l = ap length all in let a = length-append so.done [] in let k = of_length so.pulled so.done so.places in let c = so.come in omega (arith, l, a, k, c, within))
      go (p ∷ rest) all is =
          let front = pull_front p (rest ++ so.back) mid f job new e (subst (λ (ps : List Pid). PullsFirst ps mid f job new e) is one) in
          record {
            pulled = so.pulled ++ job ∷ [];
            pulls = pulls_then so.pulled job old d mid f new e so.pulls one;
            come = let c = so.come in let a = length-append so.pulled (job ∷ []) in omega (arith, c, a);
            counted = counts;
            wrote = writes;
            done = so.done ++ p ∷ [];
            rest = rest;
            back = so.back ++ front.0;
            all = all ∙ sym (append_assoc so.done (p ∷ []) rest);
            stands = front.1 ∙ append_assoc rest so.back front.0;
            places = of_then so.pulled so.done job p so.places front.2;
          }

  pub fills_none : (new : Scheduler) (e : ShardState) → n < length start → Pulls mid f None new e → FilledSo start (n + 1) jobs old d count later new e
  fills_none new e within one = fills_next new e None count later within one
      (so.counted ∙ ap length (sym (jobs_none so.pulled)))
      (so.wrote ∙ ap (λ (l : List Job). l ++ drop count jobs) (sym (jobs_none so.pulled)))

  pub fills_some : (new : Scheduler) (e : ShardState) (job : Job) (later2 : List Job) → n < length start → Pulls mid f (Some job) new e
      → later2 ≡ jobs_of so.pulled ++ job ∷ drop (count + 1) jobs → FilledSo start (n + 1) jobs old d (count + 1) later2 new e
  fills_some new e job later2 within one writes = fills_next new e (Some job) (count + 1) later2 within one
      (let c = so.counted in let j = ap length (jobs_some so.pulled job) in let a = length-append (jobs_of so.pulled) (job ∷ []) in omega (arith, c, j, a))
      (writes ∙ sym (append_assoc (jobs_of so.pulled) (job ∷ []) (drop (count + 1) jobs)) ∙ ap (λ (l : List Job). l ++ drop (count + 1) jobs) (sym (jobs_some so.pulled job)))

  drop_next : {A : Type 0} (m : ℕ) (xs : List A) → m < length xs → (y : A) × (drop m xs ≡ y ∷ drop (suc m) xs)
  drop_next zero [] h = absurd (omega (arith, h))
  drop_next zero (x ∷ xs) h = (x, refl)
  drop_next (suc m) [] h = absurd (omega (arith, h))
  drop_next (suc m) (x ∷ xs) h = drop_next m xs (omega (arith, h))

  -- whether it was handed out or not
  pub fills_into : (new : Scheduler) (e : ShardState) (count2 : ℕ) (later2 : List Job) → n < length start → count < length jobs → PullsInto count later mid f count2 later2 new e → FilledSo start (n + 1) jobs old d count2 later2 new e
  fills_into new e count2 later2 within fits (None, one, writes) =
      subst (λ (k : ℕ). FilledSo start (n + 1) jobs old d k later2 new e) (sym writes.0) (subst (λ (l : List Job). FilledSo start (n + 1) jobs old d count l new e) (sym writes.1) (fills_none new e within one))
  fills_into new e count2 later2 within fits (Some job, one, writes) =
      let next = drop_next count jobs fits in
      subst (λ (k : ℕ). FilledSo start (n + 1) jobs old d k later2 new e) (sym writes.0)
      (fills_some new e job later2 within one (
      writes.1 ∙ ap (λ (l : List Job). slice_set l count job) (so.wrote ∙ ap (λ (l : List Job). jobs_of so.pulled ++ l) next.1)
      ∙ set_at (jobs_of so.pulled) next.0 (drop (suc count) jobs) job count (sym so.counted)
      ∙ ap (λ k. jobs_of so.pulled ++ job ∷ drop k jobs) (suc_is count)
      ))

-- at the end
pub all_filled : (n : ℕ) (jobs : List Job) (old : Scheduler) (d : ShardState) (count : ℕ) (later : List Job) (new : Scheduler) (e : ShardState) → SchedulerAttends old d → FilledSo (queue old.crew) n jobs old d count later new e
    → (length (queue old.crew) ≤ n) ⊎ (count ≡ length jobs) → Fills jobs old d count later new e
all_filled n jobs old d count later new e a so stops = record {
  pulled = so.pulled;
  pulls = so.pulls;
  counted = so.counted;
  wrote = so.wrote;
  stops = elim stops [ inl k ↦ inl (let c = so.come in let l = ap length so.all in let a2 = length-append so.done so.rest in let o = of_length so.pulled so.done so.places in omega (arith, k, c, l, a2, o)) | inr k ↦ inr k ];
  once = of_distinct so.pulled so.done so.places (front_distinct so.done so.rest (subst (λ (ps : List Pid). IsDistinct same_pid ps) so.all a.crew.knows.queued.once));
}
