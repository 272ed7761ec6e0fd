-- What a behaviour upholds stays so through a step of a crew, a turn of its desk, and a birth.
use Rattle.std.proofs.Common.{◌≡◌, ◌⊎◌, inl, inr, ℕ, Bool, true, false, cond, ◌||◌, List, [], ◌∷◌, ◌++◌, Option, Some, None, Result, Ok, Err, refl, sym, ap, subst, ◌∙◌}
use Rattle.std.specs.Prelude.{MatchBool, ⊤, nat_le}
use Rattle.std.proofs.Math.Seq.{drop-append_seam}
use Rattle.std.specs.Option.{option_map}
use Rattle.pt_signal.specs.declared.pid.Pid.{Pid}
use Rattle.pt_signal.specs.declared.item.Item.{Item}
use Rattle.pt_signal.specs.declared.item.Pick.{Pick}
use Rattle.pt_signal.specs.declared.reason.Reason.{Reason}
use Rattle.pt_signal.specs.declared.letter.Letter.{Letter}
use Rattle.pt_signal.specs.Values.{same_pid}
use Rattle.pt_signal.proofs.Same.{same_pid_refl, same_pid_is}
use Rattle.pt_events.specs.declared.event.Event.TheVariants.{Born, Took, Left}
use Rattle.pt_events.specs.History.{Phase, unborn, living, ended, is_unborn, newborn, linked, while_living}
use Rattle.pt_shard.specs.declared.fault.Fault.{Fault}
use Rattle.pt_shard.specs.declared.fault.Fault.TheVariants.{Full, Memory, Worn, Gone, Myself, NoProc}
use Rattle.pt_shard.specs.ShardState.{ShardState, phase_of, lives, shard_after, handled}
use Rattle.pt_shard.specs.Calls.{Calls, Bears, after_if, take_event, first_match}
use Rattle.pt_shard.specs.Outbox.{holding}
use Rattle.pt_desk.specs.DeskState.{DeskState}
use Rattle.pt_desk.specs.declared.turned.Turned.{Turned}
use Rattle.pt_shard.specs.declared.stop.Stop.{Stop}
use Rattle.pt_shard.specs.declared.stop.Stop.TheVariants.{Memory as NoRoom, Worn as Spent}
use Rattle.pt_desk.specs.Turns.{Fetches, HandlesNext, HandlesAll, Stays, EndsWith, Turns}
use Rattle.pt_behaviour.specs.declared.behaviour.Next.{Next}
use Rattle.pt_behaviour.specs.declared.behaviour.Next.TheVariants.{Wait, WaitUntil, Proceed, Running, Stop as Stopping}
use Rattle.pt_behaviour.specs.declared.births.Role.{Role}
use Rattle.pt_crew.specs.declared.crew.Crew.{Crew}
use Rattle.pt_crew.specs.declared.crew.Tended.{Tended}
use Rattle.pt_crew.specs.declared.crew.Tended.TheVariants.{Idle, Again, Done, Refused as Denied, Gone as Ended}
use Rattle.pt_behaviour.specs.Births.{bore}
use Rattle.pt_behaviour.specs.Behaving.{Answers, pick_of}
use Rattle.pt_crew.specs.Visiting.{Roles, AreSame, AreWith, Scene, HandsTo, LeavesAs, StaysAs, ComesTo, SeesTo, EndsAs, TakesAs, VisitsOne, Visits, BearsChildren as BearsAs, handed_by, handed_as, left_as}
use Rattle.pt_crew.specs.Crews.{CrewRounds, Aboard, EntersAll, StepsOn, CrewDoes, Enters, CrewWorks, roles, left, waiting}
use Rattle.pt_behaviour.specs.Upholding.{Relation, IsLater, ActsFor, GoesOnWithout, ItemIsTaken, StandsFirst, AllFirst, IsUpheld}
use Rattle.pt_crew.specs.Upholding.{AllStand, StandsStill, AllStill, Upholds}
use Rattle.pt_behaviour.proofs.Cases.{by_cases, same_some}
use Rattle.pt_behaviour.proofs.Upholding.{later_same, later_is, later_then, extends_later, born_then, phase_same, phase_is, alone_same, alone_is, alone_then, acts_is, acts_then, alone_event, same_pid_sym, later_after, later_handled, living_born, first_both, first_front, first_back}
use Rattle.pt_crew.proofs.Waking.{elsewhere, there}

module _ {B : Type 0} (stands : Relation B) where
  still_both : (xs ys : List (Role B)) (d : ShardState) → AllStill stands xs d → AllStill stands ys d → AllStill stands (xs ++ ys) d
  still_both [] ys d a b = b
  still_both (r ∷ xs) ys d a b = (a.0, still_both xs ys d a.1 b)

no_role : {X Y : Type 0} (o : Option X) (x : X) → o ≡ None → o ≡ Some x → Y
no_role o x a b = absurd (let c : None ≡ Some x = sym a ∙ b in cc)

module _ {B : Type 0} (answers : Answers B) (stands : Relation B) (k : IsUpheld answers stands) where
  -- p was come to
  record Comes (p : Pid) (o : Option (B × Next)) (t : Tended) (d e : ShardState) (now : Option (B × Next)) (waited waits : List (Role B)) : Type 0 where
    pub later : IsLater d e
    pub acts : ActsFor p d e
    pub own : (role : B × Next) → now ≡ Some role → (is_unborn (phase_of e p) ≡ false) × stands role.0 role.1 p e
    pub bears : AllFirst stands waited → AllFirst stands waits
    -- where it left, it is gone, and stands so as it was
    pub out : (role : B × Next) → o ≡ Some role → t ≡ Ended → (now ≡ None) × (is_unborn (phase_of e p) ≡ false) × stands role.0 role.1 p e
    pub none : o ≡ None → (now ≡ None) × (e ≡ d)

  module _ (time : ℕ) (p : Pid) (role : B × Next) (waited waits : List (Role B)) where
    -- the desk is as it was, and p too
    stayed : (came : Tended) (t : Tended) (d e : ShardState) (now : Option (B × Next)) → (came ≡ Ended → ⊥) → t ≡ came → is_unborn (phase_of d p) ≡ false → stands role.0 role.1 p d
        → waits ≡ waited → now ≡ Some role → e ≡ d → Comes p (Some role) t d e now waited waits
    stayed came t d e now not_out t_is born here same now_is is = record {
      out = λ r r_is ended. absurd (not_out (sym t_is ∙ ended));
      none = λ bad. absurd (cc);
      later = later_is d e is;
      acts = acts_is p d e is;
      own = λ r r_is. subst (λ (x : B × Next). (is_unborn (phase_of e p) ≡ false) × stands x.0 x.1 p e) (same_some role r (sym now_is ∙ r_is))
          (ap is_unborn (phase_is d e is p) ∙ born, subst (λ (x : ShardState). stands role.0 role.1 p x) (sym is) here);
      bears = λ a. subst (AllFirst stands) (sym same) a;
    }

    -- it is gone
    gone : (t : Tended) (d e : ShardState) (now : Option (B × Next)) → IsLater d e → ActsFor p d e → is_unborn (phase_of e p) ≡ false → stands role.0 role.1 p e → waits ≡ waited → now ≡ None
        → Comes p (Some role) t d e now waited waits
    gone t d e now later acts born here same none = record {
      out = λ r r_is ended. (none, born, subst (λ (x : B × Next). stands x.0 x.1 p e) (same_some role r r_is) here);
      none = λ bad. absurd (cc);
      later = later;
      acts = acts;
      own = λ r is. no_role now r none is;
      bears = λ a. subst (AllFirst stands) (sym same) a;
    }

    -- and nothing has changed
    gone_as : (d e : ShardState) (t : Tended) (now : Option (B × Next)) → is_unborn (phase_of d p) ≡ false → stands role.0 role.1 p d → e ≡ d → waits ≡ waited → now ≡ None
        → Comes p (Some role) t d e now waited waits
    gone_as d e t now born here is same none =
        gone t d e now (later_is d e is) (acts_is p d e is) (ap is_unborn (phase_is d e is p) ∙ born)
        (subst (λ (x : ShardState). stands role.0 role.1 p x) (sym is) here) same none

    -- whether it goes behind the queue then or leaves it
    bears_by : (items : List Item) → BearsAs (handed_by items) waited waits → BearsAs Again waited waits
    bears_by [] b = b
    bears_by (i ∷ items) b = b

    bears_handed : (next : Next) (f : Phase) → BearsAs (handed_as next f) waited waits → BearsAs Again waited waits
    bears_handed (Wait k) unborn b = b
    bears_handed (Wait k) (living s) b = bears_by s.waiting b
    bears_handed (Wait k) (ended r s) b = b
    bears_handed (WaitUntil k at) f b = b
    bears_handed Proceed f b = b
    bears_handed Running unborn b = b
    bears_handed Running (living s) b = b
    bears_handed Running (ended r s) b = b
    bears_handed (Stopping r) f b = b

    -- it does not leave then
    not_by : (items : List Item) → handed_by items ≡ Ended → ⊥
    not_by [] is = absurd (cc)
    not_by (i ∷ items) is = absurd (cc)

    not_handed : (next : Next) (f : Phase) → handed_as next f ≡ Ended → ⊥
    not_handed (Wait k) unborn is = absurd (cc)
    not_handed (Wait k) (living s) is = not_by s.waiting is
    not_handed (Wait k) (ended r s) is = absurd (cc)
    not_handed (WaitUntil k at) f is = absurd (cc)
    not_handed Proceed f is = absurd (cc)
    not_handed Running unborn is = absurd (cc)
    not_handed Running (living s) is = absurd (cc)
    not_handed Running (ended r s) is = absurd (cc)
    not_handed (Stopping r) f is = absurd (cc)

    -- it was handed an item, or none
    handed : (item : Option Item) (was d e : ShardState) (t : Tended) (now : Option (B × Next)) → is_unborn (phase_of was p) ≡ false → stands role.0 role.1 p was
        → IsLater was d → ActsFor p was d → ItemIsTaken p role.1 item was d → BearsAs t waited waits → HandsTo (answers time) p role.0 item d t now e (bore waited waits) → Comes p (Some role) t was e now waited waits
    handed item was d e t now born here later acts taken bears h = record {
      out = λ r r_is ended. absurd (not_handed h.next (phase_of e p) (sym h.tended ∙ ended));
      none = λ bad. absurd (cc);
      later = later_then was d e later onward;
      acts = acts_then p was d e later acts (k.acts time role.0 d p item h.next h.behaviour e (bore waited waits) h.answer);
      own = λ r is. subst (λ (x : B × Next). (is_unborn (phase_of e p) ≡ false) × stands x.0 x.1 p e) (same_some (h.behaviour, h.next) r (sym h.now_is ∙ is)) (
        born_then was e (later_then was d e later onward) p born,
        k.hands time role.0 role.1 p item was d h.next h.behaviour e (bore waited waits) here born taken h.answer onward,
      );
      bears = λ a.
          let grew : BearsAs Again waited waits = bears_handed h.next (phase_of e p) (subst (λ (x : Tended). BearsAs x waited waits) h.tended bears) in
          let are : bore waited waits ≡ grew.0 = ap (λ (ws : List (Role B)). bore waited ws) grew.1 ∙ drop-append_seam waited grew.0 in
          subst (AllFirst stands) (sym grew.1) (first_both stands waited grew.0 a
          (subst (AllFirst stands) are (k.bears time role.0 d p item h.next h.behaviour e (bore waited waits) h.answer)));
    }
      where
        onward : IsLater d e
        onward = extends_later d e h.extends

    asked : (d e : ShardState) (r : Reason) (t : Tended) (now : Option (B × Next)) (result : Result (Unit {0}) Fault) → role.1 ≡ Stopping r → is_unborn (phase_of d p) ≡ false → stands role.0 role.1 p d
        → BearsAs t waited waits → Calls p (Some (Left p r)) (tt {0}) d result e → EndsAs role result t now → Comes p (Some role) t d e now waited waits
    asked d e r t now (Ok x) stops born here bears calls ends = gone t d e now onward
        (λ q other b. alone_then q d (shard_after (Left p r) d) e (alone_event (Left p r) d q (same_pid_sym p q other) refl) (alone_is (shard_after (Left p r) d) e calls.3 q))
        (born_then d e onward p born)
        (subst (λ (n : Next). stands role.0 n p e) (sym stops) (subst (λ (f : ShardState). stands role.0 (Stopping r) p f) (sym calls.3)
        (k.ends role.0 r p d (subst (λ (n : Next). stands role.0 n p d) stops here) born)))
        (subst (λ (x : Tended). BearsAs x waited waits) ends.0 bears) ends.1
      where
        onward : IsLater d e
        onward = subst (λ (f : ShardState). IsLater d f) (sym calls.3) (later_after (Left p r) d)
    asked d e r t now (Err Gone) stops born here bears calls ends = gone_as d e t now born here calls.1 (subst (λ (x : Tended). BearsAs x waited waits) ends.0 bears) ends.1
    asked d e r t now (Err Memory) stops born here bears calls ends = stayed Denied t d e now (λ is. absurd (cc)) ends.0 born here (subst (λ (x : Tended). BearsAs x waited waits) ends.0 bears) ends.1 calls.3
    asked d e r t now (Err Worn) stops born here bears calls ends = stayed Denied t d e now (λ is. absurd (cc)) ends.0 born here (subst (λ (x : Tended). BearsAs x waited waits) ends.0 bears) ends.1 calls.3
    asked d e r t now (Err Full) stops born here bears calls ends = absurd calls
    asked d e r t now (Err Myself) stops born here bears calls ends = absurd calls
    asked d e r t now (Err NoProc) stops born here bears calls ends = absurd calls

    -- an item was asked for
    none_left : (over : Bool) (d mid e : ShardState) (t : Tended) (now : Option (B × Next)) → is_unborn (phase_of d p) ≡ false → stands role.0 role.1 p d → BearsAs t waited waits
        → mid ≡ d → lives d p ≡ true → (over ≡ true → GoesOnWithout p role.1 d) → MatchBool over (HandsTo (answers time) p role.0 None mid t now e (bore waited waits)) (StaysAs Idle role mid t now e)
        → Comes p (Some role) t d e now waited waits
    none_left true d mid e t now born here bears is alive without h = handed None d mid e t now born here (later_is d mid is) (acts_is p d mid is) (without refl, alive, is) bears h
    none_left false d mid e t now born here bears is alive without h =
        stayed Idle t d e now (λ bad. absurd (cc)) h.0 born here (subst (λ (x : Tended). BearsAs x waited waits) h.0 bears) h.1 (h.2 ∙ is)

    took : (pick : Pick) (over : Bool) (d mid e : ShardState) (t : Tended) (now : Option (B × Next)) (result : Result (Option Item) Fault) → pick_of role.1 ≡ Some pick
        → (over ≡ true → first_match d p pick ≡ None → GoesOnWithout p role.1 d) → is_unborn (phase_of d p) ≡ false → stands role.0 role.1 p d
        → BearsAs t waited waits → Calls p (take_event d p pick) (first_match d p pick) d result mid → TakesAs (answers time) p role over mid result t now e (bore waited waits) → Comes p (Some role) t d e now waited waits
    took pick over d mid e t now (Ok None) waits_for without born here bears calls h =
        none_left over d mid e t now born here bears (calls.3 ∙ ap (λ (o : Option Item). after_if (option_map (Took p pick) o) d) (sym calls.2)) calls.0 (λ is. without is (sym calls.2)) h
    took pick over d mid e t now (Ok (Some i)) waits_for without born here bears calls h =
        let fits_it : first_match d p pick ≡ Some i = sym calls.2 in
        let mid_is : mid ≡ shard_after (Took p pick i) d = calls.3 ∙ ap (λ (o : Option Item). after_if (option_map (Took p pick) o) d) fits_it in
        handed (Some i) d mid e t now born here
        (subst (λ (f : ShardState). IsLater d f) (sym mid_is) (later_after (Took p pick i) d))
        (λ q other b. alone_then q d (shard_after (Took p pick i) d) mid (alone_event (Took p pick i) d q (same_pid_sym p q other) refl) (alone_is (shard_after (Took p pick i) d) mid mid_is q))
        (pick, waits_for, calls.0, fits_it, mid_is) bears h
    took pick over d mid e t now (Err Gone) waits_for without born here bears calls h = gone_as d e t now born here (h.2 ∙ calls.1) (subst (λ (x : Tended). BearsAs x waited waits) h.0 bears) h.1
    took pick over d mid e t now (Err Memory) waits_for without born here bears calls h = stayed Denied t d e now (λ is. absurd (cc)) h.0 born here (subst (λ (x : Tended). BearsAs x waited waits) h.0 bears) h.1 (h.2 ∙ calls.3)
    took pick over d mid e t now (Err Worn) waits_for without born here bears calls h = stayed Denied t d e now (λ is. absurd (cc)) h.0 born here (subst (λ (x : Tended). BearsAs x waited waits) h.0 bears) h.1 (h.2 ∙ calls.3)
    took pick over d mid e t now (Err Full) waits_for without born here bears calls h = absurd calls
    took pick over d mid e t now (Err Myself) waits_for without born here bears calls h = absurd calls
    took pick over d mid e t now (Err NoProc) waits_for without born here bears calls h = absurd calls

    proceeds : (d e : ShardState) (t : Tended) (now : Option (B × Next)) (alive : Bool) → lives d p ≡ alive → role.1 ≡ Proceed → is_unborn (phase_of d p) ≡ false → stands role.0 role.1 p d
        → BearsAs t waited waits → MatchBool alive (HandsTo (answers time) p role.0 None d t now e (bore waited waits)) (LeavesAs d t now e) → Comes p (Some role) t d e now waited waits
    proceeds d e t now true alive goes_on born here bears h =
        handed None d d e t now born here (later_is d d refl) (acts_is p d d refl) (inl goes_on, alive, refl) bears h
    proceeds d e t now false alive goes_on born here bears h = gone_as d e t now born here h.2 (subst (λ (x : Tended). BearsAs x waited waits) h.0 bears) h.1

    -- the outside has not said yet what it does next
    runs : (d e : ShardState) (t : Tended) (now : Option (B × Next)) (alive : Bool) → is_unborn (phase_of d p) ≡ false → stands role.0 role.1 p d
        → BearsAs t waited waits → MatchBool alive (StaysAs Idle role d t now e) (LeavesAs d t now e) → Comes p (Some role) t d e now waited waits
    runs d e t now true born here bears h = stayed Idle t d e now (λ is. absurd (cc)) h.0 born here (subst (λ (x : Tended). BearsAs x waited waits) h.0 bears) h.1 h.2
    runs d e t now false born here bears h = gone_as d e t now born here h.2 (subst (λ (x : Tended). BearsAs x waited waits) h.0 bears) h.1

  seen : (time : ℕ) (p : Pid) (b : B) (n : Next) (waited waits : List (Role B)) (d e : ShardState) (t : Tended) (now : Option (B × Next)) → is_unborn (phase_of d p) ≡ false → stands b n p d
      → BearsAs t waited waits → SeesTo answers time p b n d t now e (bore waited waits) → Comes p (Some (b, n)) t d e now waited waits
  seen time p b (Stopping r) waited waits d e t now born here bears h = asked time p (b, Stopping r) waited waits d e r t now h.0 refl born here bears h.1 h.2
  seen time p b Proceed waited waits d e t now born here bears h = proceeds time p (b, Proceed) waited waits d e t now (lives d p) refl refl born here bears h
  seen time p b Running waited waits d e t now born here bears h = runs time p (b, Running) waited waits d e t now (lives d p) born here bears h
  seen time p b (Wait pick) waited waits d e t now born here bears h = took time p (b, Wait pick) waited waits pick false d h.1 e t now h.0 refl (λ bad. absurd (cc)) born here bears h.2 h.3
  seen time p b (WaitUntil pick at) waited waits d e t now born here bears h =
      took time p (b, WaitUntil pick at) waited waits pick (nat_le at time) d h.1 e t now h.0 refl (λ over none. inr (pick, refl, refl, none)) born here bears h.2 h.3

  found : (time : ℕ) (p : Pid) (role : B × Next) (waited waits : List (Role B)) (d e : ShardState) (t : Tended) (now : Option (B × Next)) → is_unborn (phase_of d p) ≡ false → stands role.0 role.1 p d
      → BearsAs t waited waits → StaysAs Denied role d t now e ⊎ SeesTo answers time p role.0 role.1 d t now e (bore waited waits) → Comes p (Some role) t d e now waited waits
  found time p role waited waits d e t now born here bears (inl h) =
      stayed time p role waited waits Denied t d e now (λ is. absurd (cc)) h.0 born here (subst (λ (x : Tended). BearsAs x waited waits) h.0 bears) h.1 h.2
  found time p role waited waits d e t now born here bears (inr h) = seen time p role.0 role.1 waited waits d e t now born here bears h

  came_to : (time : ℕ) (p : Pid) (o : Option (B × Next)) (waited waits : List (Role B)) (d e : ShardState) (t : Tended) (now : Option (B × Next))
      → ((role : B × Next) → o ≡ Some role → (is_unborn (phase_of d p) ≡ false) × stands role.0 role.1 p d)
      → BearsAs t waited waits → ComesTo answers time p o d t now e (bore waited waits) → Comes p o t d e now waited waits
  came_to time p None waited waits d e t now here bears h = record {
    out = λ r is ended. absurd (cc);
    none = λ is. (h.1, h.2);
    later = later_is d e h.2;
    acts = acts_is p d e h.2;
    own = λ r is. no_role now r h.1 is;
    bears = λ a. subst (AllFirst stands) (sym (subst (λ (x : Tended). BearsAs x waited waits) h.0 bears)) a;
  }
  came_to time p (Some role) waited waits d e t now here bears h = let at = here role refl in found time p role waited waits d e t now at.0 at.1 bears h

  -- those who left are gone, and stand so still
  abbrev pub AreGone : Roles B → List (Role B) → ShardState → Type 0
  AreGone roles [] d = ⊤
  AreGone roles (r ∷ rs) d =
      ((roles r.pid ≡ None) × (is_unborn (phase_of d r.pid) ≡ false) × stands r.behaviour r.next r.pid d) × AreGone roles rs d

  gone_both : (roles : Roles B) (xs ys : List (Role B)) (d : ShardState) → AreGone roles xs d → AreGone roles ys d → AreGone roles (xs ++ ys) d
  gone_both roles [] ys d a b = b
  gone_both roles (r ∷ xs) ys d a b = (a.0, gone_both roles xs ys d a.1 b)

  -- all that stands in a step
  pub record Fine (s : Scene B) : Type 0 where
    pub members : AllStand stands s.roles s.desk
    pub waiting : AllFirst stands s.born
    pub left : AreGone s.roles s.left s.desk

  pub one_upholds : (p : Pid) (old new : Scene B) → VisitsOne answers p old new → Fine old → Fine new
  one_upholds p old new h a = record {
    members = λ q role is. by_cases (same_pid p q)
        (λ same. subst (λ (x : Pid). (is_unborn (phase_of new.desk x) ≡ false) × stands role.0 role.1 x new.desk) (same_pid_is p q same)
        (c.own role (ap new.roles (same_pid_is p q same) ∙ is)))
        (λ other.
        let was = a.members q role (sym (elsewhere old.roles new.roles p (new.roles p) h.others q other) ∙ is) in
        (born_then old.desk new.desk c.later q was.0, k.others role.0 role.1 q old.desk new.desk was.1 was.0 c.later (c.acts q other was.0)));
    waiting = c.bears a.waiting;
    left = subst (λ (rs : List (Role B)). AreGone new.roles rs new.desk) (sym h.left)
        (gone_both new.roles old.left (left_as p (old.roles p) h.tended) new.desk (all_gone old.left a.left) (out_now (old.roles p) h.tended c.out));
  }
    where
      c : Comes p (old.roles p) h.tended old.desk new.desk (new.roles p) old.born new.born
      c = came_to old.time p (old.roles p) old.born new.born old.desk new.desk h.tended (new.roles p) (λ role is. a.members p role is) h.born h.comes

      -- nothing is done for one that is gone
      still_gone : (q : Pid) (b : B) (n : Next) → old.roles q ≡ None → is_unborn (phase_of old.desk q) ≡ false → stands b n q old.desk
          → (new.roles q ≡ None) × (is_unborn (phase_of new.desk q) ≡ false) × stands b n q new.desk
      still_gone q b n none born here = by_cases (same_pid p q)
          (λ same.
          let nothing = c.none (ap old.roles (same_pid_is p q same) ∙ none) in (
            ap new.roles (sym (same_pid_is p q same)) ∙ nothing.0,
            ap is_unborn (phase_is old.desk new.desk nothing.1 q) ∙ born,
            subst (λ (f : ShardState). stands b n q f) (sym nothing.1) here,
          ))
          (λ other. (
            elsewhere old.roles new.roles p (new.roles p) h.others q other ∙ none,
            born_then old.desk new.desk c.later q born,
            k.others b n q old.desk new.desk here born c.later (c.acts q other born),
          ))

      all_gone : (rs : List (Role B)) → AreGone old.roles rs old.desk → AreGone new.roles rs new.desk
      all_gone [] g = tt
      all_gone (r ∷ rs) g = (still_gone r.pid r.behaviour r.next g.0.0 g.0.1 g.0.2, all_gone rs g.1)

      -- one that leaves now
      out_now : (o : Option (B × Next)) (t : Tended)
          → ((role : B × Next) → o ≡ Some role → t ≡ Ended → (new.roles p ≡ None) × (is_unborn (phase_of new.desk p) ≡ false) × stands role.0 role.1 p new.desk)
          → AreGone new.roles (left_as p o t) new.desk
      out_now o Idle out = tt
      out_now o Again out = tt
      out_now o Done out = tt
      out_now o Denied out = tt
      out_now None Ended out = tt
      out_now (Some role) Ended out = (out role refl refl, tt)

  visits_uphold : (ps : List Pid) (old new : Scene B) → Visits answers ps old new → Fine old → Fine new
  visits_uphold [] old new h a = subst Fine (sym h) a
  visits_uphold (p ∷ ps) old new h a = visits_uphold ps h.0 new h.2 (one_upholds p old h.0 h.1 a)

  rounds_uphold : (queues : List (List Pid)) (old new : Scene B) → CrewRounds answers queues old new → Fine old → Fine new
  rounds_uphold [] old new h a = subst Fine (sym h) a
  rounds_uphold (queue ∷ queues) old new h a =
      let b = rounds_uphold queues old h.0 h.1 a in
      visits_uphold queue (record h.0 { again = [] }) new h.3 (record { members = b.members; waiting = b.waiting; left = b.left })

  -- whoever enters was born, and stands so from the beginning
  enters_with : (p : Pid) (b : B) (first : Next) (old new : Roles B) (d e : ShardState) → IsLater d e → ActsFor p d e → is_unborn (phase_of e p) ≡ false → AreWith p (Some (b, first)) old new
      → StandsFirst stands b first p → AllStand stands old d → AllStand stands new e
  enters_with p b first old new d e later acts born with_p begins a q role is = by_cases (same_pid p q)
      (λ same.
      let here : (b, first) ≡ role = same_some (b, first) role (sym (there old new p (Some (b, first)) with_p q same) ∙ is) in
      subst (λ (x : Pid). (is_unborn (phase_of e x) ≡ false) × stands role.0 role.1 x e) (same_pid_is p q same)
      (born, subst (λ (r : B × Next). stands r.0 r.1 p e) here (begins e)))
      (λ other.
      let was = a q role (sym (elsewhere old new p (Some (b, first)) with_p q other) ∙ is) in
      (born_then d e later q was.0, k.others role.0 role.1 q d e was.1 was.0 later (acts q other was.0)))

  one_enters : (r : Role B) (d : ShardState) (alive : Bool) (old new : Aboard B) → lives d r.pid ≡ alive
      → MatchBool alive (AreWith r.pid (Some (r.behaviour, r.next)) old.0 new.0 × (new.1 ≡ old.1)) (AreSame old.0 new.0 × (new.1 ≡ old.1 ++ r ∷ []))
      → StandsFirst stands r.behaviour r.next r.pid → AllStand stands old.0 d → AllStand stands new.0 d
  one_enters r d true old new alive h begins a =
      enters_with r.pid r.behaviour r.next old.0 new.0 d d (later_is d d refl) (acts_is r.pid d d refl) (living_born (phase_of d r.pid) alive) h.0 begins a
  one_enters r d false old new alive h begins a = λ q role is. a q role (sym (h.0 q) ∙ is)

  pub all_enter : (d : ShardState) (entered : List (Role B)) (old new : Aboard B) → EntersAll (lives d) entered old new → AllFirst stands entered → AllStand stands old.0 d → AllStand stands new.0 d
  all_enter d [] old new h begins a = subst (λ (x : Aboard B). AllStand stands x.0 d) (sym h) a
  all_enter d (r ∷ rs) old new h begins a = all_enter d rs h.0 new h.2 begins.1 (one_enters r d (lives d r.pid) old h.0 refl h.1 begins.0 a)

  -- and whoever leaves as it would enter is one that begins
  one_left : (r : Role B) (d : ShardState) (alive : Bool) (old new : Aboard B)
      → MatchBool alive (AreWith r.pid (Some (r.behaviour, r.next)) old.0 new.0 × (new.1 ≡ old.1)) (AreSame old.0 new.0 × (new.1 ≡ old.1 ++ r ∷ []))
      → StandsFirst stands r.behaviour r.next r.pid → AllStill stands old.1 d → AllStill stands new.1 d
  one_left r d true old new h begins a = subst (λ (rs : List (Role B)). AllStill stands rs d) (sym h.1) a
  one_left r d false old new h begins a = subst (λ (rs : List (Role B)). AllStill stands rs d) (sym h.1) (still_both stands old.1 (r ∷ []) d a (inr begins, tt))

  all_left : (d : ShardState) (entered : List (Role B)) (old new : Aboard B) → EntersAll (lives d) entered old new → AllFirst stands entered → AllStill stands old.1 d → AllStill stands new.1 d
  all_left d [] old new h begins a = subst (λ (x : Aboard B). AllStill stands x.1 d) (sym h) a
  all_left d (r ∷ rs) old new h begins a = all_left d rs h.0 new h.2 begins.1 (one_left r d (lives d r.pid) old h.0 h.1 begins.0 a)

  gone_still : (roles : Roles B) (rs : List (Role B)) (d : ShardState) → AreGone roles rs d → AllStill stands rs d
  gone_still roles [] d a = tt
  gone_still roles (r ∷ rs) d a = (inl (a.0.1, a.0.2), gone_still roles rs d a.1)

  -- a step of a crew
  record Stepped (new : Crew B) (e : ShardState) : Type 0 where
    pub upholds : Upholds stands new e
    pub left : AllStill stands (left new) e

  stepped : (old new : Crew B) (d e : ShardState) → CrewDoes answers old d new e → Upholds stands old d → Stepped new e
  stepped old new d e h a = record {
    upholds = record {
      members = all_enter e s.entered (s.last.roles, s.last.left) (roles new, left new) s.enters entered
          (subst (AllStand stands s.last.roles) (sym s.desk) fine.members);
      waiting = first_back stands s.entered (waiting new) born;
    };
    left = all_left e s.entered (s.last.roles, s.last.left) (roles new, left new) s.enters entered
        (subst (AllStill stands s.last.left) (sym s.desk) (gone_still s.last.roles s.last.left s.last.desk fine.left));
  }
    where
      s : StepsOn answers old d new e
      s = h.steps

      fine : Fine s.last
      fine = rounds_uphold s.queues _ s.last s.rounds (record { members = a.members; waiting = a.waiting; left = tt })

      born : AllFirst stands (s.entered ++ waiting new)
      born = subst (AllFirst stands) s.born fine.waiting

      entered : AllFirst stands s.entered
      entered = first_front stands s.entered (waiting new) born

  pub step_upholds : (old new : Crew B) (d e : ShardState) → CrewDoes answers old d new e → Upholds stands old d → Upholds stands new e
  step_upholds old new d e h a = (stepped old new d e h a).upholds

  pub step_left : (old new : Crew B) (d e : ShardState) → CrewDoes answers old d new e → Upholds stands old d → AllStill stands (left new) e
  step_left old new d e h a = (stepped old new d e h a).left

  -- a turn of its desk ------------------------------------------------------------------------

  pub stand_same : (r : Roles B) (d e : ShardState) → e.start ≡ d.start → e.journal ≡ d.journal → AllStand stands r d → AllStand stands r e
  stand_same r d e start journal a q role is =
      let was = a q role is in
      (ap is_unborn (phase_same d e start journal q) ∙ was.0, k.others role.0 role.1 q d e was.1 was.0 (later_same d e start journal) (alone_same d e start journal q))

  pub receipt_upholds : (r : Roles B) (d : ShardState) (l : Letter) → AllStand stands r d → AllStand stands r (handled l d)
  receipt_upholds r d l a q role is =
      let was = a q role is in
      (born_then d (handled l d) (later_handled l d) q was.0, k.receives role.0 role.1 q d l was.1 was.0)

  shard_is : (r : Roles B) (d e : ShardState) → e ≡ d → AllStand stands r d → AllStand stands r e
  shard_is r d e is a = subst (AllStand stands r) (sym is) a

  fetched : (r : Roles B) (l : Letter) (old new : DeskState) → Fetches l old new → AllStand stands r old.shard → AllStand stands r new.shard
  fetched r l old new (inl h) a = shard_is r old.shard new.shard (ap (λ (x : DeskState). x.shard) h.1) a
  fetched r l old new (inr h) a = shard_is r (holding (Some l) old.shard) new.shard h.shard (stand_same r old.shard (holding (Some l) old.shard) refl refl a)

  next_upholds : (r : Roles B) (l : Letter) (old new : DeskState) → HandlesNext l old new → AllStand stands r old.shard → AllStand stands r new.shard
  next_upholds r l old new h a =
      let f = h.fetched.shard in
      shard_is r (handled l (holding None f)) new.shard (ap (λ (x : DeskState). x.shard) h.after)
      (receipt_upholds r (holding None f) l (stand_same r f (holding None f) refl refl (fetched r l old h.fetched h.fetches a)))

  all_handled : (r : Roles B) (letters : List Letter) (old new : DeskState) → HandlesAll letters old new → AllStand stands r old.shard → AllStand stands r new.shard
  all_handled r [] old new h a = shard_is r old.shard new.shard (ap (λ (x : DeskState). x.shard) h) a
  all_handled r (l ∷ letters) old new h a = next_upholds r l h.0 new h.2 (all_handled r letters old h.0 h.1 a)

  stopped : (r : Roles B) (stop : Stop) (old new : DeskState) → Stays stop old new → AllStand stands r old.shard → AllStand stands r new.shard
  stopped r Spent old new h a = fetched r h.0 old new h.1 a
  stopped r NoRoom old new h a = fetched r h.0 old new h.1 a

  ends_with : (r : Roles B) (stop : Option Stop) (count budget : ℕ) (last new : DeskState) → EndsWith stop count budget last new → AllStand stands r last.shard → AllStand stands r new.shard
  ends_with r None count budget last new (inl h) a = shard_is r last.shard new.shard (ap (λ (x : DeskState). x.shard) h.1) a
  ends_with r None count budget last new (inr h) a = shard_is r last.shard new.shard h.1.shard a
  ends_with r (Some stop) count budget last new h a = stopped r stop last new h.1 a

  pub turn_upholds : (r : Roles B) (budget : ℕ) (old : DeskState) (turned : Turned) (new : DeskState) → Turns budget old turned new → AllStand stands r old.shard → AllStand stands r new.shard
  turn_upholds r budget old turned new h a =
      let posted = h.posted_desk.shard in
      let same = h.posts.only.shard in
      ends_with r turned.stopped turned.handled budget h.last new h.ends
      (all_handled r h.letters h.posted_desk h.last h.handles
      (stand_same r old.shard posted (ap (λ (x : ShardState). x.start) same) (ap (λ (x : ShardState). x.journal) same) a))

  pub work_upholds : (old new : Crew B) (budget : ℕ) (d e : DeskState) (turned : Turned) → CrewWorks answers budget old d turned new e → Upholds stands old d.shard → Upholds stands new e.shard
  work_upholds old new budget d e turned h a =
      let b = step_upholds old new d.shard h.0.shard h.1 a in
      record { members = turn_upholds (roles new) budget h.0 turned e h.2 b.members; waiting = b.waiting }

  -- of those who left: each by itself is as the only one of a crew
  abbrev only : Role B → Roles B
  only r q = cond (same_pid r.pid q) (Some (r.behaviour, r.next)) None

  only_stands : (r : Role B) (d : ShardState) → is_unborn (phase_of d r.pid) ≡ false → stands r.behaviour r.next r.pid d → AllStand stands (only r) d
  only_stands r d born here q role is = by_cases (same_pid r.pid q)
      (λ same. subst (λ (x : Pid). (is_unborn (phase_of d x) ≡ false) × stands role.0 role.1 x d) (same_pid_is r.pid q same) (
        born,
        subst (λ (x : B × Next). stands x.0 x.1 r.pid d)
            (same_some (r.behaviour, r.next) role (sym (ap (λ (b : Bool). cond b (Some (r.behaviour, r.next)) None) same) ∙ is)) here,
      ))
      (λ other. absurd (let bad : None ≡ Some role = sym (ap (λ (b : Bool). cond b (Some (r.behaviour, r.next)) None) other) ∙ is in cc))

  only_is : (r : Role B) → only r r.pid ≡ Some (r.behaviour, r.next)
  only_is r = ap (λ (b : Bool). cond b (Some (r.behaviour, r.next)) None) (same_pid_refl r.pid)

  still_then : (d e : ShardState) → ((r : Roles B) → AllStand stands r d → AllStand stands r e) → (rs : List (Role B)) → AllStill stands rs d → AllStill stands rs e
  still_then d e onward [] a = tt
  still_then d e onward (r ∷ rs) a = (one a.0, still_then d e onward rs a.1)
    where
      one : StandsStill stands r d → StandsStill stands r e
      one (inl h) = inl (onward (only r) (only_stands r d h.0 h.1) r.pid (r.behaviour, r.next) (only_is r))
      one (inr h) = inr h

  pub receipt_left : (rs : List (Role B)) (d : ShardState) (l : Letter) → AllStill stands rs d → AllStill stands rs (handled l d)
  receipt_left rs d l a = still_then d (handled l d) (λ r. receipt_upholds r d l) rs a

  pub work_left : (old new : Crew B) (budget : ℕ) (d e : DeskState) (turned : Turned) → CrewWorks answers budget old d turned new e → Upholds stands old d.shard → AllStill stands (left new) e.shard
  work_left old new budget d e turned h a =
      still_then h.0.shard e.shard (λ r. turn_upholds r budget h.0 turned e h.2) (left new) (step_left old new d.shard h.0.shard h.1 a)

  -- a birth --------------------------------------------------------------------------------------

  newborn_born : (f : Phase) → is_unborn (newborn None None f) ≡ false
  newborn_born unborn = refl
  newborn_born (living s) = refl
  newborn_born (ended r s) = refl

  pub enter_upholds : (b : B) (first : Next) (old new : Crew B) (d e : ShardState) (result : Result Pid Fault) → Enters b first old d result new e → ((p : Pid) → StandsFirst stands b first p)
      → Upholds stands old d → Upholds stands new e
  enter_upholds b first old new d e (Ok p) h begins a = record {
    members = enters_with p b first (roles old) (roles new) d e
        (later_then d g e (later_after (Born p None None) d) (later_same g e (ap (λ (x : ShardState). x.start) h.0.2) (ap (λ (x : ShardState). x.journal) h.0.2)))
        (λ q other was. alone_then q d g e (away q other, refl) (alone_same g e (ap (λ (x : ShardState). x.start) h.0.2) (ap (λ (x : ShardState). x.journal) h.0.2) q))
        (ap is_unborn (phase_same g e (ap (λ (x : ShardState). x.start) h.0.2) (ap (λ (x : ShardState). x.journal) h.0.2) p) ∙ here) h.1 (begins p) a.members;
    waiting = subst (AllFirst stands) (sym h.3.waiting) a.waiting;
  }
    where
      g : ShardState
      g = shard_after (Born p None None) d

      away : (q : Pid) → same_pid p q ≡ false → phase_of g q ≡ phase_of d q
      away q other i = cond ((same_pid_sym p q other i) || false) (cond (same_pid_sym p q other i) (newborn None None (phase_of d q)) (while_living (linked (Some p) None) (phase_of d q))) (phase_of d q)

      here : is_unborn (phase_of g p) ≡ false
      here = ap (λ (same : Bool). is_unborn (cond (same || false) (cond same (newborn None None (phase_of d p)) (while_living (linked (Some p) None) (phase_of d p))) (phase_of d p))) (same_pid_refl p) ∙ newborn_born (phase_of d p)
  enter_upholds b first old new d e (Err f) h begins a = record {
    members = λ q role is.
        let was = a.members q role (sym (same_role q) ∙ is) in
        (born_then d e onward q was.0, k.others role.0 role.1 q d e was.1 was.0 onward (alone_is d e (unchanged f h.0) q));
    waiting = subst (AllFirst stands) (sym h.1.rest.waiting) a.waiting;
  }
    where
      unchanged : (x : Fault) → Bears None None d (Err x) e ⊎ ((x ≡ Memory) × (e ≡ d)) → e ≡ d
      unchanged x (inr y) = y.1
      unchanged Worn (inl y) = y.1
      unchanged Full (inl y) = y.2
      unchanged Memory (inl y) = y.2
      unchanged Gone (inl y) = absurd y
      unchanged Myself (inl y) = absurd y
      unchanged NoProc (inl y) = absurd y

      onward : IsLater d e
      onward = later_is d e (unchanged f h.0)

      same_role : (q : Pid) → roles new q ≡ roles old q
      same_role q = ap (option_map _) (h.1.members q)
