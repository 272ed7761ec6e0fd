-- The causes that the judge finds by tests are the lowest that fit.
use Rattle.std.proofs.Common.{◌≡◌, ◌<◌, Bool, true, false, cond, not, Option, Some, None, is_none, is_some, List, [], ◌∷◌, refl, ap, sym, ◌∙◌, subst, arith}
use Rattle.std.specs.Map.{lookup}
use Rattle.std.specs.List.{find}
use Rattle.std.specs.Option.{option_map}
use Rattle.std.proofs.lemmas.Bool.{both_ways, and_parts}
use Rattle.pt_signal.specs.declared.pid.Pid.{Pid}
use Rattle.pt_signal.specs.declared.ids.LinkId.{LinkId}
use Rattle.pt_signal.specs.declared.ids.Ids.{Ids}
use Rattle.pt_signal.specs.declared.item.Item.{Item}
use Rattle.pt_signal.specs.declared.item.Pick.{Pick}
use Rattle.pt_signal.specs.declared.reason.Reason.{Reason}
use Rattle.pt_signal.specs.declared.signal.Signal.{Signal}
use Rattle.pt_signal.specs.declared.signal.Signal.TheVariants.{Message, Link, Unlink, Monitor, Demonitor, AliveAsk}
use Rattle.pt_judge.specs.declared.cause.Cause.{Cause}
use Rattle.pt_judge.specs.declared.cause.Cause.TheVariants.{BornTwice, NotAlive, NotFront, NotFirstMatch, Unlawful, Memory}
use Rattle.pt_events.specs.declared.event.Event.{Event}
use Rattle.pt_events.specs.declared.event.Event.TheVariants.{Born, Said, Came, Took, Flag, Left, Refused}
use Rattle.pt_signal.specs.Values.{same_pid, same_ref, fits}
use Rattle.pt_signal.specs.Process.{held, Sent, sent}
use Rattle.pt_events.specs.History.{Past, Start, Phase, unborn, living, ended, is_unborn, is_the, is_between, life, alive, state, flying, MaySay, MayBear, is_ended, reason_of}
use Rattle.pt_judge.specs.Judge.{cause_number, Refuses, DeadParent, BadLink, IsJudged}
use Rattle.pt_judge.specs.Judging.{Known, known_after, is_item, is_ids, is_signal, may_say, lacks, unlawful_link, cause}
use Rattle.pt_signal.proofs.Same.{same_pid_is, same_pid_refl}
use Rattle.pt_judge.proofs.SameValues.{item_is, item_refl, ids_is, ids_refl, signal_is, signal_refl}

-- tests and what they tell ------------------------------------------------------------------

phase_unborn : (f : Phase) → is_unborn f ≡ true → f ≡ unborn
phase_unborn unborn h = refl
phase_unborn (living s) h = absurd (cc)
phase_unborn (ended r s) h = absurd (cc)

phase_not_unborn : (f : Phase) → is_unborn f ≡ false → ¬ (f ≡ unborn)
phase_not_unborn f h e = both_ways _ h (ap is_unborn e)

item_found : (o : Option Item) (i : Item) → is_item o i ≡ true → o ≡ Some i
item_found None i h = absurd (cc)
item_found (Some j) i h = ap (λ z. Some z) (item_is j i h)

item_not_found : (o : Option Item) (i : Item) → is_item o i ≡ false → ¬ (o ≡ Some i)
item_not_found o i h e = both_ways _ h (ap (λ z. is_item z i) e ∙ item_refl i)

ids_found : (o : Option Ids) (i : Ids) → is_ids o i ≡ true → o ≡ Some i
ids_found None i h = absurd (cc)
ids_found (Some j) i h = ap (λ z. Some z) (ids_is j i h)

ids_not_found : (o : Option Ids) (i : Ids) → is_ids o i ≡ false → ¬ (o ≡ Some i)
ids_not_found o i h e = both_ways _ h (ap (λ z. is_ids z i) e ∙ ids_refl i)

the_found : (b : Pid) (o : Option Pid) → is_the b o ≡ true → o ≡ Some b
the_found b None h = absurd (cc)
the_found b (Some q) h = ap (λ z. Some z) (sym (same_pid_is b q h))

the_not_found : (b : Pid) (o : Option Pid) → is_the b o ≡ false → ¬ (o ≡ Some b)
the_not_found b o h e = both_ways _ h (ap (is_the b) e ∙ same_pid_refl b)

none_is : (o : Option Ids) → is_none o ≡ true → o ≡ None
none_is None h = refl
none_is (Some x) h = absurd (cc)

not_false : (b : Bool) → not b ≡ false → b ≡ true
not_false true h = refl
not_false false h = absurd (cc)

not_true : (b : Bool) → not b ≡ true → b ≡ false
not_true true h = absurd (cc)
not_true false h = refl

-- the first of a list that passes does pass
found_passes : {X : Type 0} (test : X → Bool) (xs : List X) (y : X) → find test xs ≡ Some y → test y ≡ true
found_passes test [] y h = absurd (cc)
found_passes test (x ∷ xs) y h = go (test x) refl h (found_passes test xs y)
  where
    go : (b : Bool) → test x ≡ b → find test (x ∷ xs) ≡ Some y → (find test xs ≡ Some y → test y ≡ true) → test y ≡ true
    go true e k ih = let l : Some x ≡ Some y = rw e at k in let m : x ≡ y = cc in subst (λ z. test z ≡ true) m e
    go false e k ih = let l : find test xs ≡ Some y = rw e at k in ih l

sent_is : (a b : Pid) (x : Signal) (l : Sent) → is_between a b l ≡ true → l.signal ≡ x → l ≡ sent a b x
sent_is a b x l h k =
    let p = and_parts (same_pid a l.from) (same_pid b l.to) h in
    let e1 : l.from ≡ a = sym (same_pid_is a l.from p.0) in
    let e2 : l.to ≡ b = sym (same_pid_is b l.to p.1) in
    λ i. record { from = e1 i; to = e2 i; signal = k i }

pub front_found : (a b : Pid) (x : Signal) (flights : List Sent) → is_signal (option_map (λ (l : Sent). l.signal) (find (is_between a b) flights)) x ≡ true → find (is_between a b) flights ≡ Some (sent a b x)
front_found a b x flights h = go (find (is_between a b) flights) refl h
  where
    go : (o : Option Sent) → find (is_between a b) flights ≡ o → is_signal (option_map (λ (l : Sent). l.signal) o) x ≡ true → find (is_between a b) flights ≡ Some (sent a b x)
    go None e k = absurd (cc)
    go (Some l) e k = e ∙ ap (λ z. Some z) (sent_is a b x l (found_passes (is_between a b) flights l e) (signal_is l.signal x k))

pub front_not_found : (a b : Pid) (x : Signal) (flights : List Sent) → is_signal (option_map (λ (l : Sent). l.signal) (find (is_between a b) flights)) x ≡ false → ¬ (find (is_between a b) flights ≡ Some (sent a b x))
front_not_found a b x flights h e = both_ways _ h (ap (λ o. is_signal (option_map (λ (l : Sent). l.signal) o) x) e ∙ signal_refl x)

module _ (start : Start) (past : Past) where
  abbrev K : Known
  K = known_after start past

  say_true : (a b : Pid) (x : Signal) → may_say K a b x ≡ true → MaySay start past (state start past a) a b x
  say_true a b (Message body) h = tt
  say_true a b (Signal.Exit r) h = tt
  say_true a b (Link i) h =
      let p = and_parts _ _ h in
      let q = and_parts _ _ p.0 in
      (not_true _ q.0, none_is _ q.1, not_true _ p.1)
  say_true a b (Unlink ids) h = ids_found (held (state start past a).links b) ids h
  say_true a b (Monitor m) h = let p = and_parts _ _ h in (not_true _ p.0, not_true _ p.1)
  say_true a b (Demonitor m) h = the_found b (lookup (same_ref m) (state start past a).watching) h
  say_true a b (AliveAsk m) h = not_true _ h
  say_true a b _ h = absurd (cc)

  say_false : (a b : Pid) (x : Signal) → may_say K a b x ≡ false → ¬ MaySay start past (state start past a) a b x
  say_false a b (Message body) h k = absurd (cc)
  say_false a b (Signal.Exit r) h k = absurd (cc)
  say_false a b (Link i) h k = let l : may_say K a b (Link i) ≡ true = rw (k.0, k.1, k.2) refl in both_ways _ h l
  say_false a b (Unlink ids) h k = ids_not_found (held (state start past a).links b) ids h k
  say_false a b (Monitor m) h k = let l : may_say K a b (Monitor m) ≡ true = rw (k.0, k.1) refl in both_ways _ h l
  say_false a b (Demonitor m) h k = the_not_found b (lookup (same_ref m) (state start past a).watching) h k
  say_false a b (AliveAsk m) h k = both_ways _ k (not_false _ h)
  say_false a b _ h k = k

  bear_true : (parent : Option Pid) (link : Option LinkId) → lacks K parent ≡ false → unlawful_link K parent link ≡ false → MayBear start past parent link
  bear_true None None h k = tt
  bear_true None (Some i) h k = absurd (cc)
  bear_true (Some q) None h k = not_false (alive start past q) h
  bear_true (Some q) (Some i) h k = (not_false (alive start past q) h, k)

  lacks_true : (parent : Option Pid) → lacks K parent ≡ true → DeadParent start past parent
  lacks_true None h = absurd (cc)
  lacks_true (Some q) h = not_true _ h

  lacks_false : (parent : Option Pid) → lacks K parent ≡ false → ¬ DeadParent start past parent
  lacks_false None h k = k
  lacks_false (Some q) h k = both_ways _ k (not_false _ h)

  link_true : (parent : Option Pid) (link : Option LinkId) → unlawful_link K parent link ≡ true → BadLink start past parent link
  link_true parent None h = absurd (cc)
  link_true None (Some i) h = tt
  link_true (Some q) (Some i) h = h

  -- no cause is below the first
  below_none : (lower : Cause) → cause_number lower < 1 → ⊥
  below_none BornTwice h = omega arith
  below_none NotAlive h = omega arith
  below_none NotFront h = omega arith
  below_none NotFirstMatch h = omega arith
  below_none Unlawful h = omega arith
  below_none Memory h = omega arith

  birth_cause : (p : Pid) (parent : Option Pid) (link : Option LinkId) → IsJudged start past (Born p parent link) (cause K (Born p parent link))
  birth_cause p parent link = go (is_unborn (life start past p)) refl (lacks K parent) refl (unlawful_link K parent link) refl
    where
      go : (b : Bool) → is_unborn (life start past p) ≡ b → (c : Bool) → lacks K parent ≡ c → (d : Bool) → unlawful_link K parent link ≡ d
          → IsJudged start past (Born p parent link) (cond b (cond c (Some NotAlive) (cond d (Some Unlawful) None)) (Some BornTwice))
      go false e c f d g = (phase_not_unborn _ e, λ lower h. absurd (below_none lower h))
      go true e true f d g = (lacks_true parent f, below_alive)
        where
          below_alive : (lower : Cause) → cause_number lower < 2 → ¬ Refuses start past (Born p parent link) lower
          below_alive BornTwice h k = k (phase_unborn _ e)
          below_alive NotAlive h k = absurd (omega arith)
          below_alive NotFront h k = k
          below_alive NotFirstMatch h k = k
          below_alive Unlawful h k = absurd (omega arith)
          below_alive Memory h k = k
      go true e false f true g = (link_true parent link g, below_lawful)
        where
          below_lawful : (lower : Cause) → cause_number lower < 5 → ¬ Refuses start past (Born p parent link) lower
          below_lawful BornTwice h k = k (phase_unborn _ e)
          below_lawful NotAlive h k = lacks_false parent f k
          below_lawful NotFront h k = k
          below_lawful NotFirstMatch h k = k
          below_lawful Unlawful h k = absurd (omega arith)
          below_lawful Memory h k = k
      go true e false f false g = (phase_unborn _ e, bear_true parent link f g)

  saying_cause : (a b : Pid) (x : Signal) → IsJudged start past (Said a b x) (cause K (Said a b x))
  saying_cause a b x = go (alive start past a) refl (may_say K a b x) refl
    where
      go : (c : Bool) → alive start past a ≡ c → (d : Bool) → may_say K a b x ≡ d → IsJudged start past (Said a b x) (cond c (cond d None (Some Unlawful)) (Some NotAlive))
      go false e d f = (e, below_alive)
        where
          below_alive : (lower : Cause) → cause_number lower < 2 → ¬ Refuses start past (Said a b x) lower
          below_alive BornTwice h k = k
          below_alive NotAlive h k = absurd (omega arith)
          below_alive NotFront h k = k
          below_alive NotFirstMatch h k = k
          below_alive Unlawful h k = absurd (omega arith)
          below_alive Memory h k = k
      go true e true f = (e, say_true a b x f)
      go true e false f = (say_false a b x f, below_lawful)
        where
          below_lawful : (lower : Cause) → cause_number lower < 5 → ¬ Refuses start past (Said a b x) lower
          below_lawful BornTwice h k = k
          below_lawful NotAlive h k = both_ways _ k e
          below_lawful NotFront h k = k
          below_lawful NotFirstMatch h k = k
          below_lawful Unlawful h k = absurd (omega arith)
          below_lawful Memory h k = k

  coming_cause : (a b : Pid) (x : Signal) → IsJudged start past (Came a b x) (cause K (Came a b x))
  coming_cause a b x = go (is_signal (option_map (λ (l : Sent). l.signal) (find (is_between a b) (flying start past))) x) refl
    where
      go : (c : Bool) → is_signal (option_map (λ (l : Sent). l.signal) (find (is_between a b) (flying start past))) x ≡ c → IsJudged start past (Came a b x) (cond c None (Some NotFront))
      go true e = front_found a b x (flying start past) e
      go false e = (front_not_found a b x (flying start past) e, below_front)
        where
          below_front : (lower : Cause) → cause_number lower < 3 → ¬ Refuses start past (Came a b x) lower
          below_front BornTwice h k = k
          below_front NotAlive h k = k
          below_front NotFront h k = absurd (omega arith)
          below_front NotFirstMatch h k = k
          below_front Unlawful h k = k
          below_front Memory h k = k

  taking_cause : (p : Pid) (k : Pick) (i : Item) → IsJudged start past (Took p k i) (cause K (Took p k i))
  taking_cause p k i = go (alive start past p) refl (is_item (find (fits k) (state start past p).waiting) i) refl
    where
      go : (c : Bool) → alive start past p ≡ c → (d : Bool) → is_item (find (fits k) (state start past p).waiting) i ≡ d → IsJudged start past (Took p k i) (cond c (cond d None (Some NotFirstMatch)) (Some NotAlive))
      go false e d f = (e, below_alive)
        where
          below_alive : (lower : Cause) → cause_number lower < 2 → ¬ Refuses start past (Took p k i) lower
          below_alive BornTwice h l = l
          below_alive NotAlive h l = absurd (omega arith)
          below_alive NotFront h l = l
          below_alive NotFirstMatch h l = absurd (omega arith)
          below_alive Unlawful h l = l
          below_alive Memory h l = l
      go true e true f = (e, item_found _ i f)
      go true e false f = (item_not_found _ i f, below_match)
        where
          below_match : (lower : Cause) → cause_number lower < 4 → ¬ Refuses start past (Took p k i) lower
          below_match BornTwice h l = l
          below_match NotAlive h l = both_ways _ l e
          below_match NotFront h l = l
          below_match NotFirstMatch h l = absurd (omega arith)
          below_match Unlawful h l = l
          below_match Memory h l = l

  flag_cause : (p : Pid) (on : Bool) → IsJudged start past (Flag p on) (cause K (Flag p on))
  flag_cause p on = go (alive start past p) refl
    where
      go : (c : Bool) → alive start past p ≡ c → IsJudged start past (Flag p on) (cond c None (Some NotAlive))
      go true e = e
      go false e = (e, below_alive)
        where
          below_alive : (lower : Cause) → cause_number lower < 2 → ¬ Refuses start past (Flag p on) lower
          below_alive BornTwice h k = k
          below_alive NotAlive h k = absurd (omega arith)
          below_alive NotFront h k = k
          below_alive NotFirstMatch h k = k
          below_alive Unlawful h k = k
          below_alive Memory h k = k

  left_cause : (p : Pid) (r : Reason) → IsJudged start past (Left p r) (cause K (Left p r))
  left_cause p r = go (alive start past p) refl
    where
      go : (c : Bool) → alive start past p ≡ c → IsJudged start past (Left p r) (cond c None (Some NotAlive))
      go true e = e
      go false e = (e, below_alive)
        where
          below_alive : (lower : Cause) → cause_number lower < 2 → ¬ Refuses start past (Left p r) lower
          below_alive BornTwice h k = k
          below_alive NotAlive h k = absurd (omega arith)
          below_alive NotFront h k = k
          below_alive NotFirstMatch h k = k
          below_alive Unlawful h k = k
          below_alive Memory h k = k

  reason_ended : (f : Phase) → is_some (reason_of f) ≡ is_ended f
  reason_ended unborn = refl
  reason_ended (living s) = refl
  reason_ended (ended r s) = refl

  refusal_cause : (a b : Pid) → IsJudged start past (Refused a b) (cause K (Refused a b))
  refusal_cause a b = go (alive start past a) refl (is_some (reason_of (life start past b))) refl
    where
      go : (c : Bool) → alive start past a ≡ c → (d : Bool) → is_some (reason_of (life start past b)) ≡ d
          → IsJudged start past (Refused a b) (cond c (cond d None (Some Unlawful)) (Some NotAlive))
      go false e d f = (e, below_alive)
        where
          below_alive : (lower : Cause) → cause_number lower < 2 → ¬ Refuses start past (Refused a b) lower
          below_alive NotAlive h k = absurd (omega arith)
          below_alive Unlawful h k = absurd (omega arith)
          below_alive _ h k = k
      go true e true f = (e, sym (reason_ended (life start past b)) ∙ f)
      go true e false f = (sym (reason_ended (life start past b)) ∙ f, below_lawful)
        where
          below_lawful : (lower : Cause) → cause_number lower < 5 → ¬ Refuses start past (Refused a b) lower
          below_lawful NotAlive h k = both_ways _ k e
          below_lawful Unlawful h k = absurd (omega arith)
          below_lawful _ h k = k

  pub judged : (e : Event) → IsJudged start past e (cause K e)
  judged (Born p parent link) = birth_cause p parent link
  judged (Said a b x) = saying_cause a b x
  judged (Came a b x) = coming_cause a b x
  judged (Took p k i) = taking_cause p k i
  judged (Flag p on) = flag_cause p on
  judged (Left p r) = left_cause p r
  judged (Refused a b) = refusal_cause a b
