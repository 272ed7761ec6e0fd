-- What the outside says of a process that is running.
use Rattle.std.proofs.Common.{◌≡◌, ℕ, Bool, true, false, cond, ◌&&◌, ◌||◌, List, [], ◌∷◌, Some, None, refl, sym, ap, subst, ◌∙◌, arith}
use Rattle.std.specs.Prelude.{is_some, slice_get}
use Rattle.std.specs.List.{find}
use Rattle.std.specs.Option.{option_map}
use Rattle.indexmap.specs.IndexMap.{IsUnique, index_of_by, with_value_at}
use Rattle.pt_timers.specs.declared.Timer.{Timer}
use Rattle.pt_timers.specs.State.{TimersState}
use Rattle.pt_signal.specs.declared.pid.Pid.{Pid}
use Rattle.pt_signal.specs.declared.item.Item.{Item}
use Rattle.pt_signal.specs.declared.item.Pick.{Pick}
use Rattle.pt_signal.specs.declared.item.Pick.TheVariants.{Any}
use Rattle.pt_signal.specs.Values.{fits, same_pid}
use Rattle.pt_events.specs.History.{Phase, unborn, living, ended}
use Rattle.pt_shard.specs.ShardState.{ShardState, phase_of}
use Rattle.pt_workers.specs.Waking.{need_not_wait}
use Rattle.pt_behaviour.specs.declared.behaviour.Next.{Next}
use Rattle.pt_behaviour.specs.declared.behaviour.Next.TheVariants.{Wait, WaitUntil, Proceed, Running, Stop}
use Rattle.pt_crew.specs.declared.crew.Member.{Member}
use Rattle.pt_behaviour.specs.Behaving.{limit_of}
use Rattle.pt_crew.specs.Waking.{Members, AreTimed, Knows, has_task, has_work, rests_on, sleeps_until, timer_of}
use Rattle.pt_crew.specs.declared.crew.Crew.{Crew}
use Rattle.pt_crew.specs.declared.hints.Hints.{Hints}
use Rattle.pt_crew.specs.Crews.{Attends, HasRoom, IsSame, members, role, roles}
use Rattle.pt_crew.specs.Stepping.{runs}
use Rattle.pt_crew.specs.Parts.{is_marked}
use Rattle.pt_signal.proofs.Same.{same_pid_is}
use Rattle.pt_crew.proofs.Places.{held_at, written_at}
use Rattle.pt_crew.proofs.Room.{bare, unmarked_set}
use Rattle.pt_crew.proofs.Timing.{queued_bare, stopped_timers, stops_none, timers_is}
use Rattle.pt_crew.proofs.Visiting.{rest_then}
use Rattle.pt_behaviour.proofs.Cases.{by_cases, same_some}
use Rattle.pt_crew.proofs.Waking.{knows_is, same_back, elsewhere, there, replaced}

-- one that runs does so
pub runs_next : (n : Next) → runs n ≡ true → n ≡ Running
runs_next (Wait k) on = absurd (cc)
runs_next (WaitUntil k at) on = absurd (cc)
runs_next Proceed on = absurd (cc)
runs_next Running on = refl
runs_next (Stop r) on = absurd (cc)

-- whatever a pick finds, any item is found by the one that each fits
found_any : (k : Pick) (items : List Item) → is_some (find (fits k) items) ≡ true → is_some (find (fits Any) items) ≡ true
found_any k [] h = absurd (cc)
found_any k (i ∷ items) h = refl

need_any : (k : Pick) (f : Phase) → need_not_wait k f ≡ true → need_not_wait Any f ≡ true
need_any k unborn h = absurd (cc)
need_any k (living s) h = found_any k s.waiting h
need_any k (ended r s) h = refl

-- one whose mailbox was empty when the outside was told of it has no more to do once it waits
any_still : (k : Pick) (f : Phase) (was : Bool) → (need_not_wait Any f || need_not_wait k f) ≡ true → (need_not_wait Any f || was) ≡ true
any_still k f was h = go (need_not_wait Any f) refl h
  where
    go : (b : Bool) → need_not_wait Any f ≡ b → (b || need_not_wait k f) ≡ true → (b || was) ≡ true
    go true is h = refl
    go false is h = absurd (let any = need_any k f h in let bad : false ≡ true = sym is ∙ any in cc)

pub rests_task : (next : Next) (clear : Bool) (f : Phase) (was : Bool) → rests_on clear next ≡ true
    → ((clear && need_not_wait Any f) || has_work next f) ≡ true → ((clear && need_not_wait Any f) || was) ≡ true
rests_task (Wait k) true f was on h = any_still k f was h
rests_task (Wait k) false f was on h = absurd (cc)
rests_task (WaitUntil k at) clear f was on h = absurd (cc)
rests_task Proceed clear f was on h = absurd (cc)
rests_task Running clear f was on h = absurd (cc)
rests_task (Stop r) clear f was on h = absurd (cc)

-- and it waits without an end
pub rests_endless : (next : Next) (clear : Bool) → rests_on clear next ≡ true → limit_of next ≡ None
rests_endless (Wait k) clear on = refl
rests_endless (WaitUntil k at) clear on = absurd (cc)
rests_endless Proceed clear on = absurd (cc)
rests_endless Running clear on = absurd (cc)
rests_endless (Stop r) clear on = absurd (cc)

-- one that was looked at is written back as it was
abbrev pub put_at : {B : Type 0} → Crew B → ℕ → Member B → Hints → Crew B
put_at c i w h = record c { members = with_value_at c.members i w; hints = h }

module _ {B : Type 0} (old : Crew B) (p : Pid) (i : ℕ) (k : Pid) (v : Member B) (h : Hints) (index : Some i ≡ index_of_by (same_pid p) old.members) (value : slice_get old.members.entries i ≡ Some (k, v)) (unique : IsUnique same_pid old.members) where
  pub is_member : members old p ≡ Some v
  is_member = held_at old.members p i k v index value unique

  -- what is there, and what is there once another member was put in its place
  pub set_at : (w : Member B) → (members old p ≡ Some v) × ((q : Pid) → members (put_at old i w h) q ≡ cond (same_pid p q) (Some w) (members old q))
  set_at w = (is_member, (written_at old.members p i k v index value unique w).0)

  pub is_role : roles old p ≡ Some (v.behaviour, v.next)
  is_role = ap (option_map role) is_member

  pub was_running : runs v.next ≡ true → roles old p ≡ Some (v.behaviour, Running)
  was_running on = is_role ∙ ap (λ (n : Next). Some (v.behaviour, n)) (runs_next v.next on)

  pub put_back_same : IsSame old (put_at old i v h)
  put_back_same = record {
    members = λ q. (written_at old.members p i k v index value unique v).0 q ∙ same_back (members old) p v is_member q;
    queue = refl;
    read = refl;
    timers = refl;
    rest = record { waiting = refl; left = refl; refused = refl; rounds = refl; time = refl };
  }

  pub put_room : (w : Member B) → w.queued ≡ v.queued → HasRoom old → HasRoom (put_at old i w h)
  put_room w same room =
      let s = unmarked_set old.members.entries i k v w value in
      let b : bare w ≡ bare v = ap (λ (x : Bool). cond x 0 1) same in
      omega (arith, s, b, room)

  pub put_attends : (d : ShardState) → Attends old d → Attends (put_at old i v h) d
  put_attends d a = record {
    knows = knows_is old (put_at old i v h) d put_back_same a.knows;
    room = put_room v refl a.room;
    timers = timers_is old (put_at old i v h) put_back_same a.timers;
  }

pub same_both : {B : Type 0} (old mid new : Crew B) → IsSame old mid → IsSame mid new → IsSame old new
same_both old mid new a b = record {
  members = λ q. b.members q ∙ a.members q;
  queue = b.queue ∙ a.queue;
  read = b.read ∙ a.read;
  timers = b.timers ∙ a.timers;
  rest = rest_then old mid new a.rest b.rest;
}

module _ {B : Type 0} (mem new : Members B) (p : Pid) (v w : Member B) (held : mem p ≡ Some v) (at : (q : Pid) → new q ≡ cond (same_pid p q) (Some w) (mem q)) where
  held_too : (q : Pid) → same_pid p q ≡ true → mem q ≡ Some v
  held_too q same = sym (ap mem (same_pid_is p q same)) ∙ held

  is_w : (q : Pid) (m : Member B) → same_pid p q ≡ true → new q ≡ Some m → w ≡ m
  is_w q m same is = same_some w m (sym (there mem new p (Some w) at q same) ∙ is)

  was : (q : Pid) (m : Member B) → same_pid p q ≡ false → new q ≡ Some m → mem q ≡ Some m
  was q m other is = sym (elsewhere mem new p (Some w) at q other) ∙ is

  -- what it is then
  pub role_set : (b : B) (n : Next) → w.behaviour ≡ b → w.next ≡ n → (q : Pid) → option_map role (new q) ≡ cond (same_pid p q) (Some (b, n)) (option_map role (mem q))
  role_set b n same_behaviour same_next q = by_cases (same_pid p q)
      (λ same. ap (option_map role) (there mem new p (Some w) at q same) ∙ (λ j. Some (same_behaviour j, same_next j)) ∙ sym (ap (λ c. cond c (Some (b, n)) (option_map role (mem q))) same))
      (λ other. ap (option_map role) (elsewhere mem new p (Some w) at q other) ∙ sym (ap (λ c. cond c (Some (b, n)) (option_map role (mem q))) other))

  -- one of the queue may be told what it does next
  module _ (on : v.queued ≡ true) (still : w.queued ≡ true) where
    pub knows_set : (queue : List Pid) (read : ℕ) (d : ShardState) → Knows mem queue read d → Knows new queue read d
    knows_set queue read d k = record {
      more = k.more;
      seen = k.seen;
      journal = k.journal;
      counted = k.counted;
      queued = replaced mem new p w queue (ap is_marked held ∙ on) at still k.queued;
      born = λ q m is. by_cases (same_pid p q)
          (λ same. k.born q v (held_too q same))
          (λ other. k.born q m (was q m other is));
      awake = λ q m is work none. by_cases (same_pid p q)
          (λ same. subst (λ (x : Member B). x.queued ≡ true) (is_w q m same is) still)
          (λ other. k.awake q m (was q m other is) work none);
    }

    pub timed_set : (timers : TimersState Pid) → w.timer ≡ v.timer → AreTimed mem timers → AreTimed new timers
    timed_set timers same k =
        let none = queued_bare mem p v timers held on k in
        stopped_timers mem new p w timers timers at (stops_none (timer_of (mem p)) timers timers none refl) (same ∙ sym (ap timer_of held) ∙ none) still k

  -- it may get another behaviour, or wait if it was running, as long as it has no more to do
  module _ (same_mark : w.queued ≡ v.queued) where
    pub knows_replaced : ((f : Phase) → has_task w f ≡ true → has_task v f ≡ true) → (queue : List Pid) (read : ℕ) (d : ShardState) → Knows mem queue read d → Knows new queue read d
    knows_replaced tasks queue read d k = record {
      more = k.more;
      seen = k.seen;
      journal = k.journal;
      counted = k.counted;
      queued = record {
        listed = λ q m is on. by_cases (same_pid p q)
            (λ same. k.queued.listed q v (held_too q same) (sym same_mark ∙ ap (λ (x : Member B). x.queued) (is_w q m same is) ∙ on))
            (λ other. k.queued.listed q m (was q m other is) on);
        marked = λ q in_it. by_cases (same_pid p q)
            (λ same. let old = k.queued.marked q in_it in (w, there mem new p (Some w) at q same, same_mark ∙ ap (λ (x : Member B). x.queued) (same_some v old.0 (sym (held_too q same) ∙ old.1)) ∙ old.2))
            (λ other. let old = k.queued.marked q in_it in (old.0, elsewhere mem new p (Some w) at q other ∙ old.1, old.2));
        once = k.queued.once;
      };
      born = λ q m is. by_cases (same_pid p q)
          (λ same. k.born q v (held_too q same))
          (λ other. k.born q m (was q m other is));
      awake = λ q m is work none. by_cases (same_pid p q)
          (λ same. let e : w ≡ m = is_w q m same is in
          sym (ap (λ (x : Member B). x.queued) e) ∙ same_mark
          ∙ k.awake q v (held_too q same) (tasks (phase_of d q) (ap (λ (x : Member B). has_task x (phase_of d q)) e ∙ work)) none)
          (λ other. k.awake q m (was q m other is) work none);
    }

    pub timed_replaced : limit_of w.next ≡ limit_of v.next → (timers : TimersState Pid) → w.timer ≡ v.timer → AreTimed mem timers → AreTimed new timers
    timed_replaced same_limit timers same_timer k = record {
      own = λ q t is. k.own q t (sym (timer_is q) ∙ is);
      owned = λ q t is. timer_is q ∙ k.owned q t is;
      timed = λ q m is. by_cases (same_pid p q)
          (λ same. subst (λ (x : Member B). option_map (λ (t : Timer). t.at) x.timer ≡ sleeps_until x) (is_w q m same is)
          (ap (option_map (λ (t : Timer). t.at)) same_timer ∙ k.timed q v (held_too q same) ∙ sym sleeps_is))
          (λ other. k.timed q m (was q m other is));
    }
      where
        timer_is : (q : Pid) → timer_of (new q) ≡ timer_of (mem q)
        timer_is q = by_cases (same_pid p q)
            (λ same. ap timer_of (there mem new p (Some w) at q same) ∙ same_timer ∙ sym (ap timer_of (held_too q same)))
            (λ other. ap timer_of (elsewhere mem new p (Some w) at q other))

        sleeps_is : sleeps_until w ≡ sleeps_until v
        sleeps_is j = cond (same_mark j) None (same_limit j)
