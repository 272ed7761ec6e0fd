-- A row of jobs that is filled, and a row of answers that is taken.
use Rattle.std.proofs.Common.{◌≡◌, ◌⊎◌, inl, inr, ℕ, zero, suc, ◌+◌, ◌<◌, ◌≤◌, List, [], ◌∷◌, ◌++◌, length, map, take, drop, get_or, Option, Some, None, refl, sym, ap, subst, ◌∙◌, append_assoc, append-nil, length-append, arith}
use Rattle.std.specs.Prelude.{slice_set, ◌≢◌, Bool, true, cond, is_some}
use Rattle.std.specs.List.{list_all}
use Rattle.std.proofs.lemmas.Grind.{take-set_at}
use Rattle.std.proofs.lemmas.List.{length-map, length-set, length-take-le, map-append, set_at}
use Rattle.pt_signal.specs.declared.pid.Pid.{Pid}
use Rattle.pt_shard.specs.ShardState.{ShardState}
use Rattle.pt_crew.specs.Crews.{IsSame, queue}
use Rattle.pt_scheduler.specs.declared.member.Job.{Job}
use Rattle.pt_scheduler.specs.declared.member.What.TheVariants.{Timeout}
use Rattle.pt_scheduler.specs.declared.scheduler.Scheduler.{Scheduler}
use Rattle.pt_scheduler.specs.Scheduling.{SchedulerAttends}
use Rattle.pt_scheduler.proofs.Filling.{FilledSo, all_filled, fills_into, none_filled}
use Rattle.pt_c_values.specs.declared.types.PtAnswer.{PtAnswer}
use Rattle.pt_c_values.specs.declared.types.PtJob.{PtJob}
use Rattle.pt_c_values.specs.declared.types.PtPid.{PtPid}
use Rattle.pt_c_values.specs.declared.types.PtTurned.{PtTurned}
use Rattle.pt_behaviour.specs.declared.behaviour.Next.{Next}
use Rattle.pt_desk.specs.DeskState.{DeskState}
use Rattle.pt_c_values.specs.Crossing.{no_pid}
use Rattle.pt_c_tools.specs.Nexts.{no_next}
use Rattle.pt_c_values.specs.declared.types.PtChildSpec.{PtChildSpec}
use Rattle.pt_c_tools.specs.CrossingChildren.{child_in, child_or, children_in}
use Rattle.pt_c_crews.specs.Crossing.{job_out}
use Rattle.pt_c_values.specs.Codes.{IfCrosses, IfOwn}
use Rattle.pt_c_crews.specs.Crewing.{AnswersAll, AnswersOne, CrewSteps, HandsOutRow, KeepsCrew, PullsRow, SpawnsChildNext, TakesAnswers}

-- a row of jobs --------------------------------------------------------------------------

-- a job for each struct of the row
pub some_job : PtJob → Job
some_job j = record { pid = record { shard = 0; slot = 0; version = 0 }; tag = 0; what = Timeout }

abbrev pub blanks : List PtJob → List Job
blanks jobs = map some_job jobs

blanks_len : (jobs : List PtJob) → length (blanks jobs) ≡ length jobs
blanks_len jobs = length-map jobs some_job

-- so many were come to, and the row has what they were told
pub record RowSo (start : List Pid) (n : ℕ) (jobs : List PtJob) (old : Scheduler) (d : ShardState) (count : ℕ) (later : List PtJob) (new : Scheduler) (e : ShardState) : Type 0 where
  pub shown : List Job
  pub so : FilledSo start n (blanks jobs) old d count shown new e
  pub len : length shown ≡ length jobs
  pub fits : count ≤ length jobs
  pub wrote : later ≡ map job_out (take count shown) ++ drop count jobs

pub none_row : (jobs : List PtJob) (old : Scheduler) (d : ShardState) → RowSo (queue old.crew) 0 jobs old d 0 jobs old d
none_row jobs old d = record {
  shown = blanks jobs;
  so = none_filled (blanks jobs) old d;
  len = blanks_len jobs;
  fits = omega arith;
  wrote = refl;
}

drop_next : (m : ℕ) (xs : List PtJob) → m < length xs → (y : PtJob) × (drop m xs ≡ y ∷ drop (suc m) xs)
drop_next zero [] h = absurd (omega (arith, h))
drop_next zero (x ∷ xs) h = (x, refl)
drop_next (suc m) [] h = absurd (omega (arith, h))
drop_next (suc m) (x ∷ xs) h = drop_next m xs (omega (arith, h))

suc_is : (i : ℕ) → suc i ≡ i + 1
suc_is i = omega arith

-- one more struct in the row
wrote_next : (jobs later : List PtJob) (shown : List Job) (count : ℕ) (job : Job) → length shown ≡ length jobs → count < length jobs → later ≡ map job_out (take count shown) ++ drop count jobs
    → slice_set later count (job_out job) ≡ map job_out (take (count + 1) (slice_set shown count job)) ++ drop (count + 1) jobs
wrote_next jobs later shown count job len within wrote =
    let next = drop_next count jobs within in
    let front = map job_out (take count shown) in
    let long : length front ≡ count = length-map (take count shown) job_out ∙ length-take-le count shown (omega (arith, len, within)) in
    ap (λ (l : List PtJob). slice_set l count (job_out job)) (wrote ∙ ap (λ (l : List PtJob). front ++ l) (next.1 ∙ ap (λ k. next.0 ∷ drop k jobs) (suc_is count)))
    ∙ set_at front next.0 (drop (count + 1) jobs) (job_out job) count long
    ∙ sym (append_assoc front (job_out job ∷ []) (drop (count + 1) jobs))
    ∙ ap (λ (l : List PtJob). l ++ drop (count + 1) jobs) (sym (ap (map job_out) (take-set_at shown count (count + 1) job refl (omega (arith, len, within))) ∙ map-append job_out (take count shown) (job ∷ [])))

module _ (start : List Pid) (n : ℕ) (jobs : List PtJob) (old : Scheduler) (d : ShardState) (count : ℕ) (later : List PtJob) (mid : Scheduler) (f : ShardState) (r : RowSo start n jobs old d count later mid f) where
  -- and one more was come to
  pub row_into : (new : Scheduler) (e : ShardState) (count2 : ℕ) (later2 : List PtJob) → n < length start → count < length jobs → PullsRow count later mid f count2 later2 new e → RowSo start (n + 1) jobs old d count2 later2 new e
  row_into new e count2 later2 within fits (None, one, writes) =
      subst (λ (k : ℕ). RowSo start (n + 1) jobs old d k later2 new e) (sym writes.0) (subst (λ (l : List PtJob). RowSo start (n + 1) jobs old d count l new e) (sym writes.1) (record {
        shown = r.shown;
        so = fills_into start n (blanks jobs) old d count r.shown mid f r.so new e count r.shown within (let b = blanks_len jobs in omega (arith, b, fits)) (None, one, (refl, refl));
        len = r.len;
        fits = r.fits;
        wrote = r.wrote;
      }))
  row_into new e count2 later2 within fits (Some job, one, writes) =
      subst (λ (k : ℕ). RowSo start (n + 1) jobs old d k later2 new e) (sym writes.0) (record {
        shown = slice_set r.shown count job;
        so = fills_into start n (blanks jobs) old d count r.shown mid f r.so new e (count + 1) (slice_set r.shown count job) within (let b = blanks_len jobs in omega (arith, b, fits)) (Some job, one, (refl, refl));
        len = length-set r.shown count job ∙ r.len;
        fits = omega (arith, fits);
        wrote = writes.1 ∙ wrote_next jobs later r.shown count job r.len fits r.wrote;
      })

-- at the end
pub all_handed : (n : ℕ) (jobs : List PtJob) (old : Scheduler) (d : ShardState) (count : ℕ) (later : List PtJob) (new : Scheduler) (e : ShardState) → SchedulerAttends old d → RowSo (queue old.crew) n jobs old d count later new e
    → (length (queue old.crew) ≤ n) ⊎ (count ≡ length jobs) → HandsOutRow jobs old d count later new e
all_handed n jobs old d count later new e a r stops = record {
  before = blanks jobs;
  after = r.shown;
  as_many = blanks_len jobs;
  fills = all_filled n (blanks jobs) old d count r.shown new e a r.so (elim stops [ inl k ↦ inl k | inr k ↦ inr (k ∙ sym (blanks_len jobs)) ]);
  wrote = r.wrote;
}

-- a row of answers -----------------------------------------------------------------------

-- what stands where a place is behind the row
abbrev pub no_answer : PtAnswer
no_answer = record { pid = no_pid; next = no_next }

pub record TakenSo (answers : List PtAnswer) (place : ℕ) (old new : Scheduler) : Type 0 where
  pub done : List PtAnswer
  pub rest : List PtAnswer
  pub all : answers ≡ done ++ rest
  pub count : place ≡ length done
  pub took : AnswersAll done old new

pub none_taken : (answers : List PtAnswer) (old : Scheduler) → TakenSo answers 0 old old
none_taken answers old = record { done = []; rest = answers; all = refl; count = refl; took = refl }

answers_then : (done : List PtAnswer) (a : PtAnswer) (old mid new : Scheduler) → AnswersAll done old mid → AnswersOne a 0 mid new → AnswersAll (done ++ a ∷ []) old new
answers_then [] a old mid new h one = (new, subst (λ (x : Scheduler). AnswersOne a 0 x new) h one, refl)
answers_then (b ∷ done) a old mid new h one = (h.0, h.1, answers_then done a h.0 mid new h.2 one)

get_at : {X : Type 0} (pre : List X) (x : X) (post : List X) (k : ℕ) (d : X) → k ≡ length pre → get_or (pre ++ x ∷ post) k d ≡ x
get_at [] x post k d is = ap (λ n. get_or (x ∷ post) n d) is
get_at (y ∷ pre) x post k d is = ap (λ n. get_or (y ∷ (pre ++ x ∷ post)) n d) is ∙ get_at pre x post (length pre) d refl

module _ (answers : List PtAnswer) (place : ℕ) (old mid : Scheduler) (s : TakenSo answers place old mid) (a : PtAnswer) (within : place < length answers) (is : a ≡ get_or answers place no_answer) where
  front : (rest : List PtAnswer) → answers ≡ s.done ++ rest → (others : List PtAnswer) × (rest ≡ a ∷ others)
  front [] all = absurd (let l = ap length all in let k = length-append s.done [] in let c = s.count in omega (arith, l, k, c, within))
  front (b ∷ rest) all = (rest, ap (λ (x : PtAnswer). x ∷ rest) (sym (is ∙ ap (λ (l : List PtAnswer). get_or l place no_answer) all ∙ get_at s.done b rest place no_answer s.count)))

  -- one more was taken
  pub took_one : (new : Scheduler) → AnswersOne a 0 mid new → TakenSo answers (place + 1) old new
  took_one new one =
      let f = front s.rest s.all in
      record {
        done = s.done ++ a ∷ [];
        rest = f.0;
        all = s.all ∙ ap (λ (l : List PtAnswer). s.done ++ l) f.1 ∙ sym (append_assoc s.done (a ∷ []) f.0);
        count = let l = length-append s.done (a ∷ []) in let c = s.count in omega (arith, l, c);
        took = answers_then s.done a old mid new s.took one;
      }

  -- or it was refused
  pub refused_one : (code : ℕ) (new : Scheduler) → code ≢ 0 → AnswersOne a code mid new → TakesAnswers answers code place old new
  refused_one code new bad one =
      let f = front s.rest s.all in
      record {
        done = s.done;
        rest = a ∷ f.0;
        all = s.all ∙ ap (λ (l : List PtAnswer). s.done ++ l) f.1;
        count = s.count;
        mid = mid;
        took = s.took;
        refused = (bad, one);
      }

-- all were
pub took_all : (answers : List PtAnswer) (place : ℕ) (old new : Scheduler) → TakenSo answers place old new → length answers ≤ place → TakesAnswers answers 0 (length answers) old new
took_all answers place old new s h = go s.rest s.all
  where
    go : (rest : List PtAnswer) → answers ≡ s.done ++ rest → TakesAnswers answers 0 (length answers) old new
    go [] all = record {
      done = s.done;
      rest = [];
      all = all;
      count = ap length (all ∙ append-nil s.done);
      mid = new;
      took = s.took;
      refused = (refl, refl);
    }
    go (a ∷ rest) all = absurd (let l = ap length all in let k = length-append s.done (a ∷ rest) in let c = s.count in omega (arith, l, k, c, h))

-- what calls without a desk keep --------------------------------------------------------

pub keeps_none : (t : Scheduler) → KeepsCrew t t
keeps_none t = record { attends = λ d a. a; upholds = λ past d u. u; desk = refl }

pub keeps_then : (old mid new : Scheduler) → KeepsCrew old mid → KeepsCrew mid new → KeepsCrew old new
keeps_then old mid new h k = record {
  attends = λ d a. k.attends d (h.attends d a);
  upholds = λ past d u. k.upholds past d (h.upholds past d u);
  desk = k.desk ∙ h.desk;
}

-- what a call comes to that gets a struct with a code and a desk -------------------------

-- the code is one of its enumeration
pub codes_fit : {A : Type 0} (o : Option A) (a : A) (code : ℕ) (kept : Type 0) (P : A → Type 0) → o ≡ Some a → P a → IfCrosses o code kept P
codes_fit o a code kept P is p = subst (λ (q : Option _). IfCrosses q code kept P) (sym is) p

-- and the desk is the crew's own
pub desk_fits : (own : Bool) (code : ℕ) (kept P : Type 0) → own ≡ true → P → IfOwn own code kept P
desk_fits own code kept P is p = subst (λ (b : Bool). IfOwn b code kept P) (sym is) p

-- the children of a row whose codes all are of their enumerations
pub children_known : (cs : List PtChildSpec) → list_all (λ (c : PtChildSpec). is_some (child_in c)) cs ≡ true → children_in cs ≡ Some (map (λ c. child_or (child_in c)) cs)
children_known cs is = ap (λ (b : Bool). cond b (Some (map (λ c. child_or (child_in c)) cs)) None) is

-- a crew is as it is
pub is_itself : (t : Scheduler) → IsSame t.crew t.crew
is_itself t = record { members = λ q. refl; queue = refl; read = refl; timers = refl; rest = search }

-- a step, as it was written to the places that were passed in
pub steps_as : (budget : ℕ) (jobs : List PtJob) (old : Scheduler) (d : DeskState) (out told : PtTurned) (count filled : ℕ) (later row : List PtJob) (new : Scheduler) (e : DeskState)
    → out ≡ told → count ≡ filled → later ≡ row → CrewSteps budget jobs old d told filled row new e → CrewSteps budget jobs old d out count later new e
steps_as budget jobs old d out told count filled later row new e is as_many same steps =
    subst (λ (t : PtTurned). CrewSteps budget jobs old d t count later new e) (sym is)
    (subst (λ (n : ℕ). CrewSteps budget jobs old d told n later new e) (sym as_many)
    (subst (λ (l : List PtJob). CrewSteps budget jobs old d told filled l new e) (sym same) steps))

-- a child is spawned, where q is the pid that was passed in, crossed, and so is what it does first
pub child_as : (p q : Pid) (linked : Bool) (tag code : ℕ) (before after : PtPid) (old : Scheduler) (d : DeskState) (new : Scheduler) (e : DeskState) (next first : Next)
    → q ≡ p → SpawnsChildNext q linked tag code before after old d new e first → first ≡ next → SpawnsChildNext p linked tag code before after old d new e next
child_as p q linked tag code before after old d new e next first is h same =
    subst (λ (x : Pid). SpawnsChildNext x linked tag code before after old d new e next) is (subst (λ (n : Next). SpawnsChildNext q linked tag code before after old d new e n) same h)
