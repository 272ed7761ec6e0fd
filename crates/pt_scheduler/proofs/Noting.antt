-- What a scheduler knows of its desk stays so, and the exits of its journal are noted.
use Rattle.std.proofs.Common.{◌≡◌, ◌+◌, ◌<◌, Bool, true, false, cond, List, [], ◌∷◌, ◌++◌, length, reverse, get_or, Option, Some, None, refl, sym, ap, subst, ◌∙◌, append_assoc, append-nil, arith, Result, Ok, Err}
use Rattle.std.specs.Prelude.{IfOk, IfErr, MatchBool, OnErr}
use Rattle.std.specs.Option.{option_map}
use Rattle.std.proofs.lemmas.List.{length-reverse, get_or_default}
use Rattle.pt_signal.specs.declared.pid.Pid.{Pid}
use Rattle.pt_signal.specs.declared.reason.Reason.{Reason}
use Rattle.pt_signal.specs.Values.{same_pid}
use Rattle.pt_signal.proofs.Same.{same_pid_refl, same_pid_is}
use Rattle.pt_events.specs.declared.event.Event.TheVariants.{Left}
use Rattle.pt_events.specs.declared.event.Stamped.{Stamped}
use Rattle.pt_events.specs.History.{Phase, unborn, living, ended, is_ended, is_living}
use Rattle.pt_events.specs.Journal.{IsLocal}
use Rattle.pt_shard.specs.ShardState.{ShardState, lives, phase_of}
use Rattle.pt_shard.specs.Extends.{Extends}
use Rattle.pt_workers.proofs.Unread.{Oldest, oldest}
use Rattle.pt_behaviour.specs.declared.behaviour.Next.{Next}
use Rattle.pt_behaviour.specs.declared.behaviour.Next.TheVariants.{Running}
use Rattle.pt_behaviour.specs.declared.births.Role.{Role}
use Rattle.pt_crew.specs.declared.crew.Crew.{Crew}
use Rattle.pt_crew.specs.Visiting.{AreSame, AreWith, Roles}
use Rattle.pt_crew.specs.Crews.{Aboard, Attends, EntersAll, HasRoom, HasTimers, IsSame, KeepsRest, KnowsDesk, left, members, queue, read_events, role, roles, waiting}
use Rattle.pt_crew.specs.Stepping.{BeginsStep, EndsStep, IsAnswered}
use Rattle.pt_desk.proofs.Turning.{extends}
use Rattle.pt_behaviour.proofs.Cases.{by_cases, same_some, some_none}
use Rattle.pt_crew.proofs.Waking.{elsewhere, knows_later, there}
use Rattle.pt_crew.proofs.Visiting.{rest_then}
use Rattle.pt_supervisor.specs.declared.supervisor.Supervisor.{Supervisor}
use Rattle.pt_supervisor.specs.Hearing.{standing}
use Rattle.pt_scheduler.specs.declared.member.Member.{Member}
use Rattle.pt_scheduler.specs.declared.member.Notes.{Notes}
use Rattle.pt_scheduler.specs.declared.plan.Plan.{Plan}
use Rattle.pt_scheduler.specs.declared.scheduler.Scheduler.{Scheduler}
use Rattle.pt_scheduler.specs.Exits.{exit_by, exit_in}
use Rattle.pt_scheduler.specs.Scheduling.{AreUntold, SameViews, SchedulerAttends, MemberView, NotesLost, children_seen, member_view, member_views, new_member}
use Rattle.pt_scheduler.specs.Taken.{DropsLeft, NotesExit, SetsBoss, SetsMember, SetsNotes, StaysElse, TakesMember}
use Rattle.pt_scheduler.proofs.Exits.{exit_ended, none_before}

-- what is seen of a member ----------------------------------------------------------------------

pub tag_seen : (o : Option (Member × Next)) (b : Member) → Some b ≡ option_map (λ (r : Member × Next). r.0) o → Some b.tag ≡ option_map (λ (v : MemberView). v.tag) (option_map member_view o)
tag_seen None b e = absurd (cc)
tag_seen (Some r) b e = ap (λ (x : Member). Some x.tag) (same_some b r.0 e)

pub no_tag : (o : Option (Member × Next)) → None ≡ option_map (λ (r : Member × Next). r.0) o → None ≡ option_map (λ (v : MemberView). v.tag) (option_map member_view o)
no_tag None e = refl
no_tag (Some r) e = absurd (cc)

pub next_seen : (o : Option (Member × Next)) → option_map (λ (r : Member × Next). r.1) o ≡ option_map (λ (v : MemberView). v.next) (option_map member_view o)
next_seen None = refl
next_seen (Some r) = refl

pub children_of : (o : Option (Member × Next)) (b : Member) → Some b ≡ option_map (λ (r : Member × Next). r.0) o → option_map (λ (s : Supervisor Plan). (standing s).children) b.boss ≡ children_seen (option_map member_view o)
children_of None b e = absurd (cc)
children_of (Some r) b e = ap (λ (x : Member). option_map (λ (s : Supervisor Plan). (standing s).children) x.boss) (same_some b r.0 e)

pub no_children : (o : Option (Member × Next)) → None ≡ option_map (λ (r : Member × Next). r.0) o → None ≡ children_seen (option_map member_view o)
no_children None e = refl
no_children (Some r) e = absurd (cc)

pub no_role : (o : Option (Member × Next)) → None ≡ option_map (λ (r : Member × Next). r.0) o → o ≡ None
no_role None e = refl
no_role (Some r) e = absurd (cc)

pub its_role : (o : Option (Member × Next)) (b : Member) → Some b ≡ option_map (λ (r : Member × Next). r.0) o → (n : Next) × (o ≡ Some (b, n))
its_role None b e = absurd (cc)
its_role (Some (x, n)) b e = (n, ap (λ (y : Member). Some (y, n)) (sym (same_some b x e)))

-- a member is put back ---------------------------------------------------------------------------

pub rest_same : (c : Crew Member) → KeepsRest c c
rest_same c = record { waiting = refl; left = refl; refused = refl; rounds = refl; time = refl }

pub else_then : (old mid new : Scheduler) → StaysElse old mid → StaysElse mid new → StaysElse old new
else_then old mid new a b = record {
  read = b.read ∙ a.read;
  desk = b.desk ∙ a.desk;
  queue = b.queue ∙ a.queue;
  rest = rest_then old.crew mid.crew new.crew a.rest b.rest;
  attends = λ d x. b.attends d (a.attends d x);
}

twice : (old mid new : Roles Member) (p : Pid) (a b : Member) (n : Next) → AreWith p (Some (a, n)) old mid → AreWith p (Some (b, n)) mid new → AreWith p (Some (b, n)) old new
twice old mid new p a b n first second q = by_cases (same_pid p q)
    (λ same. there mid new p (Some (b, n)) second q same ∙ sym (ap (λ (c : Bool). cond c (Some (b, n)) (old q)) same))
    (λ other. elsewhere mid new p (Some (b, n)) second q other ∙ elsewhere old mid p (Some (a, n)) first q other ∙ sym (ap (λ (c : Bool). cond c (Some (b, n)) (old q)) other))

pub set_again : (old mid new : Scheduler) (p : Pid) (was b : Member) (n : Next) → AreWith p (Some (new_member 0 None, n)) (roles old.crew) (roles mid.crew) → SetsMember p b mid new → AreWith p (Some (b, n)) (roles old.crew) (roles new.crew)
set_again old mid new p was b n first sets =
    twice (roles old.crew) (roles mid.crew) (roles new.crew) p (new_member 0 None) b n first
    (sets.set (new_member 0 None) n (there (roles old.crew) (roles mid.crew) p (Some (new_member 0 None, n)) first p (same_pid_refl p)))

-- the same one is meant
its_pair : (o : Option (Member × Next)) (was b : Member) (n m : Next) → o ≡ Some (was, n) → o ≡ Some (b, m) → ◌≡◌ {A = Member × Next} (was, n) (b, m)
its_pair o was b n m x y = same_some (was, n) (b, m) (sym x ∙ y)

pub notes_set : (old mid new : Scheduler) (p : Pid) (was put : Member) (notes : Notes) → TakesMember p old (Some was) mid → put ≡ record was { notes = notes } → SetsMember p put mid new → SetsNotes p notes old new
notes_set old mid new p was put notes takes put_is sets = record {
  set = λ b n is.
      let e = its_pair (roles old.crew p) was b takes.0 n takes.1 is in
      subst (λ (r : Member × Next). AreWith p (Some (record (r.0) { notes = notes }, r.1)) (roles old.crew) (roles new.crew)) e
      (subst (λ (x : Member). AreWith p (Some (x, takes.0)) (roles old.crew) (roles new.crew)) put_is (set_again old mid new p was put takes.0 takes.2 sets));
  none = λ none. some_none (roles old.crew p) (was, takes.0) none takes.1;
}

pub boss_set : (old mid new : Scheduler) (p : Pid) (was put : Member) (boss : Supervisor Plan) → TakesMember p old (Some was) mid → put ≡ record was { boss = Some boss } → SetsMember p put mid new → SetsBoss p boss old new
boss_set old mid new p was put boss takes put_is sets = record {
  set = λ b n is.
      let e = its_pair (roles old.crew p) was b takes.0 n takes.1 is in
      subst (λ (r : Member × Next). AreWith p (Some (record (r.0) { boss = Some boss }, r.1)) (roles old.crew) (roles new.crew)) e
      (subst (λ (x : Member). AreWith p (Some (x, takes.0)) (roles old.crew) (roles new.crew)) put_is (set_again old mid new p was put takes.0 takes.2 sets));
  none = λ none. some_none (roles old.crew p) (was, takes.0) none takes.1;
}

pub notes_none : (old new : Scheduler) (p : Pid) (notes : Notes) → TakesMember p old None new → SetsNotes p notes old new
notes_none old new p notes takes = record { set = λ b n is. some_none (roles old.crew p) (b, n) takes.0 is; none = λ none. takes.1 }

pub boss_none : (old new : Scheduler) (p : Pid) (boss : Supervisor Plan) → TakesMember p old None new → SetsBoss p boss old new
boss_none old new p boss takes = record { set = λ b n is. some_none (roles old.crew p) (b, n) takes.0 is; none = λ none. takes.1 }

same_of : (old new : Crew Member) → IsSame old new → AreSame (roles old) (roles new)
same_of old new s q = ap (option_map role) (s.members q)

-- by the crew's own call
pub member_taken : (old new : Scheduler) (p : Pid) (hollow was : Member) → hollow ≡ new_member 0 None
    → ((n : Next) × (roles old.crew p ≡ Some (was, n)) × AreWith p (Some (hollow, n)) (roles old.crew) (roles new.crew)) → TakesMember p old (Some was) new
member_taken old new p hollow was is done = (done.0, done.1, subst (λ (x : Member). AreWith p (Some (x, done.0)) (roles old.crew) (roles new.crew)) is done.2)

pub none_out : (old new : Scheduler) (p : Pid) → roles old.crew p ≡ None → IsSame old.crew new.crew → TakesMember p old None new
none_out old new p none s = (none, same_of old.crew new.crew s)

pub member_set : (old new : Scheduler) (p : Pid) (b : Member) (result : Result Member Member)
    → IfOk result (λ was. (n : Next) × (roles old.crew p ≡ Some (was, n)) × AreWith p (Some (b, n)) (roles old.crew) (roles new.crew))
    → IfErr result (λ back. (back ≡ b) × (roles old.crew p ≡ None) × IsSame old.crew new.crew) → SetsMember p b old new
member_set old new p b (Ok x) done back = record {
  set = λ was n is.
      let e = its_pair (roles old.crew p) x was done.0 n done.1 is in
      subst (λ (m : Next). AreWith p (Some (b, m)) (roles old.crew) (roles new.crew)) (ap (λ (r : Member × Next). r.1) e) done.2;
  none = λ none. some_none (roles old.crew p) (x, done.0) none done.1;
}
member_set old new p b (Err x) done back = record {
  set = λ was n is. some_none (roles old.crew p) (was, n) back.1 is;
  none = λ none. same_of old.crew new.crew back.2;
}

-- the scheduler stays one of its desk -------------------------------------------------------------------

-- a member has the end that it had
abbrev pub MembersComeOf : Scheduler → Scheduler → Type 0
MembersComeOf old new =
    (q : Pid) (b : Member) (n : Next) → roles new.crew q ≡ Some (b, n)
    → (was : Member) × (m : Next) × (roles old.crew q ≡ Some (was, m)) × (b.notes.ended ≡ was.notes.ended)

pub attends_then : (old new : Scheduler) (d e : ShardState) → SchedulerAttends old d → Extends d e → Attends new.crew e → AreUntold (waiting new.crew) → new.read ≡ old.read → MembersComeOf old new → SchedulerAttends new e
attends_then old new d e a later crew fresh reads kept = record {
  crew = crew;
  fresh = fresh;
  noted = record {
    more = later.more ++ a.noted.more;
    seen = a.noted.seen;
    journal = later.journal ∙ ap (λ (j : List Stamped). later.more ++ j) a.noted.journal ∙ sym (append_assoc later.more a.noted.more a.noted.seen);
    counted = a.noted.counted ∙ sym reads;
    ends = λ q b n is. let w = kept q b n is in w.3 ∙ a.noted.ends q w.0 w.1 w.2;
  };
}

pub fresh_is : (old new : List (Role Member)) → new ≡ old → AreUntold old → AreUntold new
fresh_is old new is f = subst AreUntold (sym is) f

pub fresh_both : (xs ys : List (Role Member)) → AreUntold xs → AreUntold ys → AreUntold (xs ++ ys)
fresh_both [] ys a b = b
fresh_both (r ∷ xs) ys a b = (a.0, fresh_both xs ys a.1 b)

fresh_front : (xs ys : List (Role Member)) → AreUntold (xs ++ ys) → AreUntold xs
fresh_front [] ys a = tt
fresh_front (r ∷ xs) ys a = (a.0, fresh_front xs ys a.1)

fresh_back : (xs ys : List (Role Member)) → AreUntold (xs ++ ys) → AreUntold ys
fresh_back [] ys a = a
fresh_back (r ∷ xs) ys a = fresh_back xs ys a.1

-- where the roles are the same
pub same_comes : (old new : Scheduler) (d : ShardState) → SchedulerAttends old d → AreSame (roles old.crew) (roles new.crew) → MembersComeOf old new
same_comes old new d a same q b n is = let was = sym (same q) ∙ is in (b, n, was, refl)

-- where p is another member, which has the same end
pub changed_comes : (old new : Scheduler) (d : ShardState) (p : Pid) (b x : Member) (m n : Next) → SchedulerAttends old d → roles old.crew p ≡ Some (b, m) → AreWith p (Some (x, n)) (roles old.crew) (roles new.crew)
    → x.notes.ended ≡ b.notes.ended → MembersComeOf old new
changed_comes old new d p b x m n a was now ends q y k is = by_cases (same_pid p q)
    (λ same.
    let here : roles old.crew q ≡ Some (b, m) = ap (roles old.crew) (sym (same_pid_is p q same)) ∙ was in
    let y_is : x ≡ y = ap (λ (r : Member × Next). r.0) (same_some (x, n) (y, k) (sym (there (roles old.crew) (roles new.crew) p (Some (x, n)) now q same) ∙ is)) in
    (b, m, here, ap (λ (h : Member). h.notes.ended) (sym y_is) ∙ ends))
    (λ other.
    let here : roles old.crew q ≡ Some (y, k) = sym (elsewhere (roles old.crew) (roles new.crew) p (Some (x, n)) now q other) ∙ is in
    (y, k, here, refl))

-- one that enters has no exit in the journal
pub one_entered : (old new : Scheduler) (d e : ShardState) (p : Pid) (b : Member) (n : Next) → b.notes.ended ≡ None → SchedulerAttends old d → Extends d e → Attends new.crew e → KeepsRest old.crew new.crew → new.read ≡ old.read
    → AreWith p (Some (b, n)) (roles old.crew) (roles new.crew) → exit_in p d.journal ≡ None → SchedulerAttends new e
one_entered old new d e p x n endless a later crew rest reads now none = record {
  crew = crew;
  fresh = fresh_is (waiting old.crew) (waiting new.crew) rest.waiting a.fresh;
  noted = record {
    more = later.more ++ a.noted.more;
    seen = a.noted.seen;
    journal = later.journal ∙ ap (λ (j : List Stamped). later.more ++ j) a.noted.journal ∙ sym (append_assoc later.more a.noted.more a.noted.seen);
    counted = a.noted.counted ∙ sym reads;
    ends = λ q b k is. by_cases (same_pid p q)
        (λ same. ap (λ (h : Member). h.notes.ended) (sym (its q b k same is)) ∙ endless ∙ sym (ap (λ (y : Pid). exit_in y a.noted.seen) (sym (same_pid_is p q same)) ∙ none_seen))
        (λ other. a.noted.ends q b k (was q b k other is));
  };
}
  where
    its : (q : Pid) (b : Member) (k : Next) → same_pid p q ≡ true → roles new.crew q ≡ Some (b, k) → x ≡ b
    its q b k same is = ap (λ (r : Member × Next). r.0) (same_some (x, n) (b, k) (sym (there (roles old.crew) (roles new.crew) p (Some (x, n)) now q same) ∙ is))

    was : (q : Pid) (b : Member) (k : Next) → same_pid p q ≡ false → roles new.crew q ≡ Some (b, k) → roles old.crew q ≡ Some (b, k)
    was q b k other is = sym (elsewhere (roles old.crew) (roles new.crew) p (Some (x, n)) now q other) ∙ is

    none_seen : exit_in p a.noted.seen ≡ None
    none_seen = none_before p a.noted.more a.noted.seen (ap (exit_in p) (sym a.noted.journal) ∙ none)

-- none yet
pub attends_new : (t : Scheduler) (d : ShardState) → Attends t.crew d → ((p : Pid) → roles t.crew p ≡ None) → waiting t.crew ≡ [] → t.read ≡ 0 → SchedulerAttends t d
attends_new t d crew nobody waits reads = record {
  crew = crew;
  fresh = fresh_is [] (waiting t.crew) waits tt;
  noted = record {
    more = d.journal;
    seen = [];
    journal = sym (append-nil d.journal);
    counted = sym reads;
    ends = λ p b n is. some_none (roles t.crew p) (b, n) (nobody p) is;
  };
}

-- a call of the crew that was refused, and changed nothing
pub attends_same : (old new : Scheduler) (d e : ShardState) → SchedulerAttends old d → Extends d e → Attends new.crew e → IsSame old.crew new.crew → new.read ≡ old.read → SchedulerAttends new e
attends_same old new d e a later crew same reads =
    attends_then old new d e a later crew (fresh_is (waiting old.crew) (waiting new.crew) same.rest.waiting a.fresh) reads (same_comes old new d a (same_of old.crew new.crew same))

-- a step begins
pub attends_begun : (old new : Scheduler) (d e : ShardState) → SchedulerAttends old d → Extends d e → BeginsStep old.crew e new.crew → new.read ≡ old.read
    → (KnowsDesk old.crew e → KnowsDesk new.crew e) → (HasRoom old.crew → HasRoom new.crew) → (HasTimers old.crew → HasTimers new.crew) → SchedulerAttends new e
attends_begun old new d e a later begins reads knows room timers =
    attends_then old new d e a later
    (record { knows = knows (knows_later (members old.crew) (queue old.crew) (read_events old.crew) d e later a.crew.knows); room = room a.crew.room; timers = timers a.crew.timers })
    (fresh_is (waiting old.crew) (waiting new.crew) begins.waiting a.fresh) reads (same_comes old new d a begins.roles)

-- a step ends: those who enter live, and so have no exit in the journal ---------------------------

living_not : (f : Phase) → is_living f ≡ true → is_ended f ≡ true → ⊥
living_not unborn a b = cc
living_not (living s) a b = cc
living_not (ended r s) a b = cc

pub living_stays : (d : ShardState) (p : Pid) → IsLocal d.start d.config.start d.config.top_version d.number d.journal → lives d p ≡ true → exit_in p d.journal ≡ None
living_stays d p local alive = go (exit_in p d.journal) refl
  where
    go : (o : Option Reason) → exit_in p d.journal ≡ o → exit_in p d.journal ≡ None
    go None is = is
    go (Some r) is = absurd (living_not (phase_of d p) alive (exit_ended d.start d.config.start d.config.top_version d.number p d.journal r local is))

-- of so much of the journal each member has its exit
abbrev AreTrue : List Stamped → Roles Member → Type 0
AreTrue seen rs = (q : Pid) (b : Member) (n : Next) → rs q ≡ Some (b, n) → b.notes.ended ≡ exit_in q seen

one_true : (seen : List Stamped) (p : Pid) (x : Member) (n : Next) (old new : Roles Member) → x.notes.ended ≡ None → exit_in p seen ≡ None → AreWith p (Some (x, n)) old new → AreTrue seen old → AreTrue seen new
one_true seen p x n old new endless none now a q b k is = by_cases (same_pid p q)
    (λ same.
    let b_is : x ≡ b = ap (λ (r : Member × Next). r.0) (same_some (x, n) (b, k) (sym (there old new p (Some (x, n)) now q same) ∙ is)) in
    ap (λ (h : Member). h.notes.ended) (sym b_is) ∙ endless ∙ sym (ap (λ (y : Pid). exit_in y seen) (sym (same_pid_is p q same)) ∙ none))
    (λ other. a q b k (sym (elsewhere old new p (Some (x, n)) now q other) ∙ is))

one_enters : (d : ShardState) (seen : List Stamped) (r : Role Member) (alive : Bool) (old new : Aboard Member) → lives d r.pid ≡ alive → (lives d r.pid ≡ true → exit_in r.pid seen ≡ None) → r.behaviour.notes.ended ≡ None
    → MatchBool alive (AreWith r.pid (Some (r.behaviour, r.next)) old.0 new.0 × (new.1 ≡ old.1)) (AreSame old.0 new.0 × (new.1 ≡ old.1 ++ r ∷ [])) → AreTrue seen old.0 → AreTrue seen new.0
one_enters d seen r true old new is none fresh h a = one_true seen r.pid r.behaviour r.next old.0 new.0 fresh (none is) h.0 a
one_enters d seen r false old new is none fresh h a = λ q b n at. a q b n (sym (h.0 q) ∙ at)

all_enter : (d : ShardState) (seen : List Stamped) (rs : List (Role Member)) (old new : Aboard Member) → ((p : Pid) → lives d p ≡ true → exit_in p seen ≡ None) → AreUntold rs → EntersAll (lives d) rs old new → AreTrue seen old.0 → AreTrue seen new.0
all_enter d seen [] old new none fresh h a = subst (λ (x : Aboard Member). AreTrue seen x.0) (sym h) a
all_enter d seen (r ∷ rs) old new none fresh h a =
    all_enter d seen rs h.0 new none fresh.1 h.2 (one_enters d seen r (lives d r.pid) old h.0 refl (none r.pid) fresh.0 h.1 a)

pub attends_ended : (old new : Scheduler) (d : ShardState) → IsLocal d.start d.config.start d.config.top_version d.number d.journal → SchedulerAttends old d → EndsStep old.crew d new.crew → new.read ≡ old.read → Attends new.crew d → SchedulerAttends new d
attends_ended old new d local a ends reads crew = record {
  crew = crew;
  fresh = fresh_back ends.entered (waiting new.crew) born;
  noted = record {
    more = a.noted.more;
    seen = a.noted.seen;
    journal = a.noted.journal;
    counted = a.noted.counted ∙ sym reads;
    ends = true_now;
  };
}
  where
    born : AreUntold (ends.entered ++ waiting new.crew)
    born = subst AreUntold ends.born a.fresh

    true_now : AreTrue a.noted.seen (roles new.crew)
    true_now = all_enter d a.noted.seen ends.entered (roles old.crew, left old.crew) (roles new.crew, left new.crew)
        (λ p alive. none_before p a.noted.more a.noted.seen (ap (exit_in p) (sym a.noted.journal) ∙ living_stays d p local alive))
        (fresh_front ends.entered (waiting new.crew) born) ends.enters a.noted.ends

-- an answer
pub attends_answered : {E : Type 0} (old new : Scheduler) (d : ShardState) (p : Pid) (next : Next) (result : Result Bool E) → IfOk result (λ yes. MatchBool yes (IsAnswered p next old.crew new.crew) (IsSame old.crew new.crew))
    → OnErr result (IsSame old.crew new.crew) → new.read ≡ old.read → SchedulerAttends old d → Attends new.crew d → SchedulerAttends new d
attends_answered old new d p next (Ok true) done refused reads a crew =
    attends_then old new d d a (extends d) crew (fresh_is (waiting old.crew) (waiting new.crew) done.rest.waiting a.fresh) reads
    (changed_comes old new d p done.behaviour done.behaviour Running next a done.ran done.does refl)
attends_answered old new d p next (Ok false) done refused reads a crew = attends_same old new d d a (extends d) crew done reads
attends_answered old new d p next (Err x) done refused reads a crew = attends_same old new d d a (extends d) crew refused reads

-- those who left are forgotten
pub attends_dropped : (old new : Scheduler) (d : ShardState) → SchedulerAttends old d → DropsLeft old new → SchedulerAttends new d
attends_dropped old new d a s =
    attends_then old new d d a (extends d) (s.attends d a.crew) (fresh_is (waiting old.crew) (waiting new.crew) s.waiting a.fresh) s.read (same_comes old new d a s.roles)

-- exits are noted --------------------------------------------------------------------------------

abbrev with_ended : Reason → Member → Member
with_ended r b = record b { notes = record (b.notes) { ended = Some r } }

module _ (old new : Scheduler) (p : Pid) (r : Reason) (b : Member) (n : Next) (was : roles old.crew p ≡ Some (b, n)) (now : AreWith p (Some (with_ended r b, n)) (roles old.crew) (roles new.crew)) where
  set_members : (q : Pid) (x : Member) (k : Next) → roles new.crew q ≡ Some (x, k)
      → (w : Member) × (roles old.crew q ≡ Some (w, k)) × (x ≡ record w { notes = record (w.notes) { ended = exit_by q (Left p r) w.notes.ended } })
  set_members q x k is = by_cases (same_pid p q)
      (λ same.
      let e : (with_ended r b, n) ≡ (x, k) = same_some _ (x, k) (sym (there (roles old.crew) (roles new.crew) p (Some (with_ended r b, n)) now q same) ∙ is) in (
        b,
        ap (roles old.crew) (sym (same_pid_is p q same)) ∙ was ∙ ap (λ (m : Next). Some (b, m)) (ap (λ (y : Member × Next). y.1) e),
        sym (ap (λ (y : Member × Next). y.0) e) ∙ ap (λ c. record b { notes = record (b.notes) { ended = cond c (Some r) b.notes.ended } }) (sym same),
      ))
      (λ other. (
        x,
        sym (elsewhere (roles old.crew) (roles new.crew) p (Some (with_ended r b, n)) now q other) ∙ is,
        ap (λ c. record x { notes = record (x.notes) { ended = cond c (Some r) x.notes.ended } }) (sym other),
      ))

  set_views : SameViews old new
  set_views q = by_cases (same_pid p q)
      (λ same. ap (option_map member_view) (there (roles old.crew) (roles new.crew) p (Some (with_ended r b, n)) now q same ∙ refl)
      ∙ ap (option_map member_view) (sym was ∙ ap (roles old.crew) (same_pid_is p q same)))
      (λ other. ap (option_map member_view) (elsewhere (roles old.crew) (roles new.crew) p (Some (with_ended r b, n)) now q other))

-- of one that is none of these nothing is noted
pub none_set : (old new : Scheduler) (p : Pid) (r : Reason) → roles old.crew p ≡ None → new ≡ old → NotesExit (Left p r) old new
none_set old new p r none is = subst (λ (t : Scheduler). NotesExit (Left p r) old t) (sym is) (record {
  members = λ q b n at. by_cases (same_pid p q)
      (λ same. some_none (roles old.crew q) (b, n) (ap (roles old.crew) (sym (same_pid_is p q same)) ∙ none) at)
      (λ other. (b, at, ap (λ c. record b { notes = record (b.notes) { ended = cond c (Some r) b.notes.ended } }) (sym other)));
  views = λ q. refl;
  read = refl;
  desk = refl;
  queue = refl;
  rest = rest_same old.crew;
  attends = λ d a. a;
})

-- one more event was read
pub noted_next : (old mid new : Scheduler) (d : ShardState) (shown : List Stamped) (x : Stamped) → shown ≡ reverse d.journal → old.read < length shown → NotesExit (get_or shown old.read x).event old mid
    → new.crew ≡ mid.crew → new.read ≡ mid.read + 1 → SchedulerAttends old d → SchedulerAttends new d
noted_next old mid new d shown x is within notes same reads a = record {
  crew = subst (λ (c : _). Attends c d) (sym same) (notes.attends d a.crew);
  fresh = fresh_is (waiting old.crew) (waiting new.crew) (ap waiting same ∙ notes.rest.waiting) a.fresh;
  noted = record {
    more = o.front;
    seen = s ∷ a.noted.seen;
    journal = a.noted.journal ∙ ap (λ (l : List Stamped). l ++ a.noted.seen) o.is ∙ append_assoc o.front (s ∷ []) a.noted.seen;
    counted = let c = a.noted.counted in let r = notes.read in omega (arith, c, r, reads);
    ends = λ q b n at. let w = was q b n at in ap (λ (h : Member). h.notes.ended) w.2 ∙ ap (λ (o : Option Reason). exit_by q s.event o) (a.noted.ends q w.0 n w.1);
  };
}
  where
    s : Stamped
    s = get_or shown old.read x

    short : old.read < length d.journal
    short = let e = ap length is in let l = length-reverse d.journal in omega (arith, within, e, l)

    at : s ≡ get_or (reverse (a.noted.more ++ a.noted.seen)) (length a.noted.seen) s
    at = get_or_default shown old.read x s within ∙ ap (λ (l : List Stamped). get_or l old.read s) (is ∙ ap reverse a.noted.journal) ∙ ap (λ n. get_or (reverse (a.noted.more ++ a.noted.seen)) n s) (sym a.noted.counted)

    o : Oldest a.noted.more a.noted.seen s
    o = oldest a.noted.more a.noted.seen s (let l = ap length a.noted.journal in let c = a.noted.counted in omega (arith, l, c, short)) at

    was : (q : Pid) (b : Member) (n : Next) → roles new.crew q ≡ Some (b, n) → (w : Member) × (roles old.crew q ≡ Some (w, n)) × (b ≡ record w { notes = record (w.notes) { ended = exit_by q s.event w.notes.ended } })
    was q b n h = notes.members q b n (ap (λ (c : _). roles c q) (sym same) ∙ h)

-- an exit was set, where this is known of the member then
pub set_noted : (old new : Scheduler) (p : Pid) (r : Reason) (seen : Member) (notes : Notes) → Some seen ≡ option_map (λ (x : Member × Next). x.0) (roles old.crew p) → notes ≡ record (seen.notes) { ended = Some r }
    → SetsNotes p notes old new → StaysElse old new → NotesExit (Left p r) old new
set_noted old new p r seen notes looked notes_is sets rest =
    let has = its_role (roles old.crew p) seen looked in
    let now : AreWith p (Some (with_ended r seen, has.0)) (roles old.crew) (roles new.crew) =
    subst (λ (x : Notes). AreWith p (Some (record seen { notes = x }, has.0)) (roles old.crew) (roles new.crew)) notes_is (sets.set seen has.0 has.1) in
    record {
      members = set_members old new p r seen has.0 has.1 now;
      views = set_views old new p r seen has.0 has.1 now;
      read = rest.read;
      desk = rest.desk;
      queue = rest.queue;
      rest = rest.rest;
      attends = rest.attends;
    }

-- the reason that a loss told was set
abbrev with_lost : Reason → Member → Member
with_lost r b = record b { notes = record (b.notes) { lost = Some r } }

module _ (old new : Scheduler) (p : Pid) (r : Reason) (b : Member) (n : Next) (was : roles old.crew p ≡ Some (b, n)) (now : AreWith p (Some (with_lost r b, n)) (roles old.crew) (roles new.crew)) where
  lost_views : (q : Pid) → member_views new q ≡ cond (same_pid p q) (option_map (λ (v : MemberView). record v { lost = Some r }) (member_views old q)) (member_views old q)
  lost_views q = by_cases (same_pid p q)
      (λ same.
      let at : roles old.crew q ≡ Some (b, n) = ap (roles old.crew) (sym (same_pid_is p q same)) ∙ was in
      ap (option_map member_view) (there (roles old.crew) (roles new.crew) p (Some (with_lost r b, n)) now q same)
      ∙ rw (same, at) refl)
      (λ other. ap (option_map member_view) (elsewhere (roles old.crew) (roles new.crew) p (Some (with_lost r b, n)) now q other) ∙ rw other refl)

-- what was said of p, and that the scheduler is one of its desk
abbrev pub HasLost : Pid → Reason → Scheduler → Scheduler → Type 0
HasLost p r old new = NotesLost p r old new × ((d : ShardState) → SchedulerAttends old d → SchedulerAttends new d)

pub lost_set : (old new : Scheduler) (p : Pid) (r : Reason) (seen : Member) (notes : Notes) → Some seen ≡ option_map (λ (x : Member × Next). x.0) (roles old.crew p) → notes ≡ record (seen.notes) { lost = Some r }
    → SetsNotes p notes old new → StaysElse old new → HasLost p r old new
lost_set old new p r seen notes looked notes_is sets rest =
    let has = its_role (roles old.crew p) seen looked in
    let now : AreWith p (Some (with_lost r seen, has.0)) (roles old.crew) (roles new.crew) =
    subst (λ (x : Notes). AreWith p (Some (record seen { notes = x }, has.0)) (roles old.crew) (roles new.crew)) notes_is (sets.set seen has.0 has.1) in (
      record { views = lost_views old new p r seen has.0 has.1 now; queue = rest.queue; rest = rest.rest },
      λ d a. attends_then old new d d a (extends d) (rest.attends d a.crew) (fresh_is (waiting old.crew) (waiting new.crew) rest.rest.waiting a.fresh) rest.read
          (changed_comes old new d p seen (with_lost r seen) has.0 has.0 a has.1 now refl),
    )

-- of one that is none of these nothing is noted
pub none_lost : (t : Scheduler) (p : Pid) (r : Reason) → roles t.crew p ≡ None → NotesLost p r t t
none_lost t p r none = record {
  views = λ q. by_cases (same_pid p q)
      (λ same.
      let at : roles t.crew q ≡ None = ap (roles t.crew) (sym (same_pid_is p q same)) ∙ none in
      rw (same, at) refl)
      (λ other. rw other refl);
  queue = refl;
  rest = rest_same t.crew;
}
