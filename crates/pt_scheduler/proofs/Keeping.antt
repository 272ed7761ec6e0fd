-- A scheduler goes on with a history: the reason of each exit in it is kept, and its crew begins again.
use Rattle.std.proofs.Common.{◌≡◌, ℕ, ◌+◌, ◌<◌, ◌≤◌, Bool, true, false, cond, List, [], ◌∷◌, ◌++◌, length, reverse, get_or, Option, Some, None, refl, sym, ap, ◌∙◌, subst, append-nil, append_assoc, length-append, arith, Result, Ok, Err}
use Rattle.std.specs.Prelude.{IsOk, OnOk}
use Rattle.std.specs.Option.{option_map}
use Rattle.std.proofs.lemmas.List.{reverse-append}
use Rattle.pt_signal.specs.declared.pid.Pid.{Pid}
use Rattle.pt_signal.specs.declared.reason.Reason.{Reason}
use Rattle.pt_signal.specs.Values.{same_pid}
use Rattle.pt_signal.proofs.Same.{same_pid_is}
use Rattle.pt_events.specs.declared.event.Event.{Event}
use Rattle.pt_events.specs.declared.event.Event.TheVariants.{Born, Said, Came, Took, Flag, Left, Refused}
use Rattle.pt_events.specs.declared.event.Stamped.{Stamped}
use Rattle.pt_shard.specs.ShardState.{ShardState}
use Rattle.pt_behaviour.specs.declared.behaviour.Next.{Next}
use Rattle.pt_crew.specs.Visiting.{AreSame, AreWith}
use Rattle.pt_crew.specs.Crews.{AreBorn, Attends, HasRoom, KeepsRest, queue, roles, waiting}
use Rattle.pt_crew.specs.Stepping.{QueueIsLonger}
use Rattle.pt_crew.proofs.Visiting.{rest_then}
use Rattle.pt_behaviour.proofs.Cases.{by_cases, same_some}
use Rattle.pt_crew.proofs.Waking.{elsewhere, there}
use Rattle.pt_scheduler.specs.declared.member.Member.{Member}
use Rattle.pt_scheduler.specs.declared.scheduler.Scheduler.{Scheduler}
use Rattle.pt_scheduler.specs.Exits.{HasExitsOf, exit_by, exit_in}
use Rattle.pt_scheduler.specs.Scheduling.{AreAllQueued, SchedulerAttends, SchedulerGoesOn, member_view, view_kept}
use Rattle.pt_scheduler.specs.Taken.{KeepsExit, KeepsExits, SetsNotes, StaysElse, member_kept, member_role_kept}
use Rattle.pt_scheduler.specs.declared.member.Notes.{Notes}
use Rattle.pt_scheduler.proofs.Exits.{none_before}
use Rattle.pt_scheduler.proofs.Upheld.{kept_upholds}
use Rattle.pt_scheduler.proofs.Noting.{fresh_is, its_role}

-- what is kept of one member ---------------------------------------------------------------------

pub none_kept : (o : Option (Member × Next)) → o ≡ option_map (member_role_kept None) o
none_kept None = refl
none_kept (Some r) = refl

twice : (b : Bool) (r : Reason) (before : Option Reason) (h : Member) → member_kept (cond b (Some r) None) (member_kept before h) ≡ member_kept (cond b (Some r) before) h
twice true r (Some s) h = refl
twice true r None h = refl
twice false r before h = refl

-- one exit after those before it
after : (q : Pid) (e : Event) (before : Option Reason) (h : Member) → member_kept (exit_by q e None) (member_kept before h) ≡ member_kept (exit_by q e before) h
after q (Born p parent link) before h = refl
after q (Said a b x) before h = refl
after q (Came a b x) before h = refl
after q (Took p k i) before h = refl
after q (Flag p on) before h = refl
after q (Refused a b) before h = refl
after q (Left p r) before h = twice (same_pid p q) r before h

mapped : (q : Pid) (e : Event) (before : Option Reason) (o : Option (Member × Next)) → option_map (member_role_kept (exit_by q e None)) (option_map (member_role_kept before) o) ≡ option_map (member_role_kept (exit_by q e before)) o
mapped q e before None = refl
mapped q e before (Some r) = ap (λ (h : Member). Some (h, r.1)) (after q e before r.0)

seen_kept : (x : Option Reason) (o : Option (Member × Next)) → option_map member_view (option_map (member_role_kept x) o) ≡ option_map (view_kept x) (option_map member_view o)
seen_kept x None = refl
seen_kept (Some r) (Some h) = refl
seen_kept None (Some h) = refl

-- one of the members after is one of those before
was_role : (x : Option Reason) (o : Option (Member × Next)) (r : Member × Next) → option_map (member_role_kept x) o ≡ Some r → (was : Member × Next) × (o ≡ Some was) × (member_role_kept x was ≡ r)
was_role x None r is = absurd (cc)
was_role x (Some w) r is = (w, refl, same_some (member_role_kept x w) r is)

no_end : (x : Option Reason) (h : Member) → (x ≡ None → h.notes.ended ≡ None) → (member_kept x h).notes.ended ≡ None
no_end (Some r) h is = refl
no_end None h is = is refl

-- one exit, and one more --------------------------------------------------------------------------

-- of one that is none of these
pub none_of_these : (h : Scheduler) (p : Pid) (r : Reason) → roles h.crew p ≡ None → KeepsExit (Left p r) h h
none_of_these h p r none = record {
  members = λ q. by_cases (same_pid p q)
      (λ same.
      let at : roles h.crew q ≡ None = ap (roles h.crew) (sym (same_pid_is p q same)) ∙ none in
      at ∙ ap (option_map (member_role_kept (cond (same_pid p q) (Some r) None))) (sym at))
      (λ other. none_kept (roles h.crew q) ∙ ap (λ b. option_map (member_role_kept (cond b (Some r) None)) (roles h.crew q)) (sym other));
  desk = refl;
  queue = refl;
  rest = record { waiting = refl; left = refl; refused = refl; rounds = refl; time = refl };
  attends = λ d a. a;
}

-- where this is known of the member then
pub exit_kept : (old new : Scheduler) (p : Pid) (r : Reason) (seen : Member) (notes : Notes) → Some seen ≡ option_map (λ (x : Member × Next). x.0) (roles old.crew p) → notes ≡ record (seen.notes) { ended = None; lost = Some r }
    → SetsNotes p notes old new → StaysElse old new → KeepsExit (Left p r) old new
exit_kept old new p r seen notes looked notes_is sets rest =
    let has = its_role (roles old.crew p) seen looked in
    let put : Member = record seen { notes = record (seen.notes) { ended = None; lost = Some r } } in
    let now : AreWith p (Some (put, has.0)) (roles old.crew) (roles new.crew) =
    subst (λ (x : Notes). AreWith p (Some (record seen { notes = x }, has.0)) (roles old.crew) (roles new.crew)) notes_is (sets.set seen has.0 has.1) in
    record {
      members = λ q. by_cases (same_pid p q)
          (λ same.
          let at : roles old.crew q ≡ Some (seen, has.0) = ap (roles old.crew) (sym (same_pid_is p q same)) ∙ has.1 in
          there (roles old.crew) (roles new.crew) p (Some (put, has.0)) now q same
          ∙ ap (λ b. option_map (member_role_kept (cond b (Some r) None)) (Some (seen, has.0))) (sym same)
          ∙ ap (option_map (member_role_kept (cond (same_pid p q) (Some r) None))) (sym at))
          (λ other.
          elsewhere (roles old.crew) (roles new.crew) p (Some (put, has.0)) now q other
          ∙ none_kept (roles old.crew q) ∙ ap (λ b. option_map (member_role_kept (cond b (Some r) None)) (roles old.crew q)) (sym other));
      desk = rest.desk;
      queue = rest.queue;
      rest = rest.rest;
      attends = rest.attends;
    }

-- of no history
pub begun : (h : Scheduler) → KeepsExits [] h h
begun h = record {
  members = λ q. none_kept (roles h.crew q);
  desk = refl;
  queue = refl;
  rest = record { waiting = refl; left = refl; refused = refl; rounds = refl; time = refl };
  attends = λ d a. a;
}

one_more : (past : List Stamped) (s : Stamped) (old mid new : Scheduler) → KeepsExits past old mid → KeepsExit s.event mid new → KeepsExits (s ∷ past) old new
one_more past s old mid new a b = record {
  members = λ q. b.members q ∙ ap (option_map (member_role_kept (exit_by q s.event None))) (a.members q) ∙ mapped q s.event (exit_in q past) (roles old.crew q);
  desk = b.desk ∙ a.desk;
  queue = b.queue ∙ a.queue;
  rest = rest_then old.crew mid.crew new.crew a.rest b.rest;
  attends = λ d x. b.attends d (a.attends d x);
}

-- of a history so many events were gone through
pub record Through (history : List Stamped) (place : ℕ) (old new : Scheduler) : Type 0 where
  pub done : List Stamped
  pub rest : List Stamped
  pub all : history ≡ done ++ rest
  pub count : length done ≡ place
  pub keeps : KeepsExits (reverse done) old new

get_at : (pre : List Stamped) (x : Stamped) (post : List Stamped) (k : ℕ) (d : Stamped) → length pre ≡ k → get_or (pre ++ x ∷ post) k d ≡ x
get_at [] x post k d is = ap (λ n. get_or (x ∷ post) n d) (sym is)
get_at (y ∷ pre) x post k d is = ap (λ n. get_or (y ∷ (pre ++ x ∷ post)) n d) (sym is) ∙ get_at pre x post (length pre) d refl

first_of : (xs : List Stamped) → 0 < length xs → (x : Stamped) × (rest : List Stamped) × (xs ≡ x ∷ rest)
first_of [] is = absurd (omega (arith, is))
first_of (x ∷ xs) is = (x, xs, refl)

pub through_one : (history : List Stamped) (place : ℕ) (x : Stamped) (old mid new : Scheduler) → Through history place old mid → place < length history → KeepsExit (get_or history place x).event mid new → Through history (place + 1) old new
through_one history place x old mid new t within keeps =
    let s : Stamped = get_or history place x in
    let count : length history ≡ length t.done + length t.rest = ap length t.all ∙ length-append t.done t.rest in
    let f = first_of t.rest (omega (arith, count, t.count, within)) in
    let all : history ≡ t.done ++ f.0 ∷ f.1 = t.all ∙ ap (λ (r : List Stamped). t.done ++ r) f.2 in
    let s_is : s ≡ f.0 = ap (λ (h : List Stamped). get_or h place x) all ∙ get_at t.done f.0 f.1 place x t.count in
    record {
      done = t.done ++ s ∷ [];
      rest = f.1;
      all = all ∙ ap (λ (y : Stamped). t.done ++ y ∷ f.1) (sym s_is) ∙ sym (append_assoc t.done (s ∷ []) f.1);
      count = length-append t.done (s ∷ []) ∙ ap (λ n. n + 1) t.count;
      keeps = subst (λ (past : List Stamped). KeepsExits past old new) (sym (reverse-append t.done (s ∷ []))) (one_more (reverse t.done) s old mid new t.keeps keeps);
    }

-- all were
pub through_all : (history : List Stamped) (place : ℕ) (old new : Scheduler) → Through history place old new → length history ≤ place → KeepsExits (reverse history) old new
through_all history place old new t over =
    let count : length history ≡ length t.done + length t.rest = ap length t.all ∙ length-append t.done t.rest in
    let none = no_more t.rest (omega (arith, count, t.count, over)) in
    subst (λ (h : List Stamped). KeepsExits (reverse h) old new) (sym (t.all ∙ ap (λ (r : List Stamped). t.done ++ r) none ∙ append-nil t.done)) t.keeps
  where
    no_more : (xs : List Stamped) → length xs ≡ 0 → xs ≡ []
    no_more [] is = refl
    no_more (x ∷ xs) is = absurd (omega (arith, is))

-- the crew begins again ------------------------------------------------------------------------------

on_ok : {A E : Type 0} (r : Result A E) (P : Type 0) → IsOk r → OnOk r P → P
on_ok (Ok x) P ok p = p
on_ok (Err x) P ok p = absurd (cc ok)

module _ (past : List Stamped) (old mid new : Scheduler) (k : KeepsExits past old mid) (same : AreSame (roles mid.crew) (roles new.crew)) where
  came : (p : Pid) (b : Member) (n : Next) → roles new.crew p ≡ Some (b, n) → (was : Member × Next) × (roles old.crew p ≡ Some was) × (member_role_kept (exit_in p past) was ≡ (b, n))
  came p b n is = was_role (exit_in p past) (roles old.crew p) (b, n) (sym (k.members p) ∙ sym (same p) ∙ is)

  still_born : (e : ShardState) → AreBorn (roles old.crew) e → AreBorn (roles mid.crew) e
  still_born e born p r is = let w = was_role (exit_in p past) (roles old.crew p) r (sym (k.members p) ∙ is) in born p w.0 w.1

  attends : (d e : ShardState) → SchedulerAttends old d → HasExitsOf d.journal past → Attends new.crew e → KeepsRest mid.crew new.crew → new.read ≡ 0 → SchedulerAttends new e
  attends d e a has crew rest reads = record {
    crew = crew;
    fresh = fresh_is (waiting old.crew) (waiting new.crew) (rest.waiting ∙ k.rest.waiting) a.fresh;
    noted = record {
      more = e.journal;
      seen = [];
      journal = sym (append-nil e.journal);
      counted = sym reads;
      ends = λ p b n is.
          let w = came p b n is in
          ap (λ (r : Member × Next). r.0.notes.ended) (sym w.2)
          ∙ no_end (exit_in p past) w.0.0 (λ none. a.noted.ends p w.0.0 w.0.1 w.1 ∙ none_before p a.noted.more a.noted.seen (ap (exit_in p) (sym a.noted.journal) ∙ has p none));
    };
  }

  pub goes_on : {E : Type 0} (result : Result (Unit {0}) E)
      → OnOk result ((d e : ShardState) → Attends mid.crew d → AreBorn (roles mid.crew) e → Attends new.crew e) → OnOk result (new.read ≡ 0) → OnOk result (AreAllQueued new.crew)
      → (HasRoom mid.crew → IsOk result) → QueueIsLonger (queue mid.crew) (queue new.crew) → KeepsRest mid.crew new.crew → new.desk ≡ mid.desk → SchedulerGoesOn past old new
  goes_on result crew reads all room longer rest desk = record {
    mid = mid;
    kept = λ before d u. kept_upholds before old mid d past k u;
    again = same;
    views = λ p. ap (option_map member_view) (same p ∙ k.members p) ∙ seen_kept (exit_in p past) (roles old.crew p);
    longer = (longer.0, longer.1 ∙ ap (λ q. q ++ longer.0) k.queue);
    rest = rest_then old.crew mid.crew new.crew k.rest rest;
    desk = desk ∙ k.desk;
    all = λ d a. on_ok result _ (ok d a) all;
    attends = λ d e a has born.
        attends d e a has (on_ok result _ (ok d a) crew d e (k.attends d a.crew) (still_born e born)) rest (on_ok result _ (ok d a) reads);
  }
    where
      ok : (d : ShardState) → SchedulerAttends old d → IsOk result
      ok d a = room (k.attends d a.crew).room
