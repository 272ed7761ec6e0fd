-- Who told of its end by a link or a monitor has ended, and who was found so by a call that was refused.
use Rattle.std.proofs.Common.{◌≡◌, Bool, true, false, cond, ◌||◌, ◌&&◌, List, [], ◌∷◌, Option, Some, None, refl, sym, ap, subst, ◌∙◌}
use Rattle.std.specs.Prelude.{⊤}
use Rattle.std.specs.List.{list_any}
use Rattle.std.proofs.lemmas.Bool.{and_parts}
use Rattle.pt_signal.specs.declared.pid.Pid.{Pid}
use Rattle.pt_signal.specs.declared.ids.Ref.{Ref}
use Rattle.pt_signal.specs.declared.ids.Ids.{Ids}
use Rattle.pt_signal.specs.declared.reason.Reason.{Reason}
use Rattle.pt_signal.specs.declared.signal.Signal.{Signal}
use Rattle.pt_signal.specs.declared.signal.Signal.TheVariants.{Link, LinkExit, Monitor, Demonitor, AliveAsk}
use Rattle.pt_signal.specs.Values.{same_pid}
use Rattle.pt_signal.specs.Process.{ProcessState, handle, Sent, sent, estate, bounce}
use Rattle.pt_signal.proofs.Same.{same_pid_is, same_pid_refl}
use Rattle.pt_events.proofs.Handling.{living_answer, handle_answer}
use Rattle.pt_events.specs.declared.event.Event.{Event}
use Rattle.pt_events.specs.declared.event.Event.TheVariants.{Said, Came, Left, Refused}
use Rattle.pt_events.specs.History.{Past, Start, Phase, unborn, living, ended, after, is_unborn, is_ended, is_living, life, state, leaves, gets, live_or_end, is_between, landed, flying, sent_by, got_sends, left_sends, end_sends, MaySay, May, IsLegal}
use Rattle.pt_events.proofs.Phases.{after_ended, after_born}
use Rattle.pt_laws.specs.Links.{IsKnownSaid}
use Rattle.pt_laws.proofs.order.Each.{Each, each-append, each-without, each-found, each-map, each-weaker}
use Rattle.pt_behaviour.proofs.Cases.{by_cases}

-- what a letter on its way within a desk tells -----------------------------------------------------

pub ended_later : (p : Pid) (e : Event) (f : Phase) → is_ended f ≡ true → is_ended (after p e f) ≡ true
ended_later p e unborn h = absurd (cc)
ended_later p e (living s) h = absurd (cc)
ended_later p e (ended r s) h = ap is_ended (after_ended p e r s)

pub known_rest : (start : Start) (e : Event) (past : Past) → IsKnownSaid start (e ∷ past) → IsKnownSaid start past
known_rest start (Said a b x) past k = k.1
known_rest start _ past k = k

-- what came to me, by a link or a monitor, that q has ended, or a call was refused since it has
abbrev pub shows_end : Pid → Pid → Event → Bool
shows_end me q (Came a b (LinkExit ids r)) = same_pid q a && same_pid me b
shows_end me q (Came a b (Signal.Down m r)) = same_pid q a && same_pid me b
shows_end me q (Refused a b) = same_pid me a && same_pid q b
shows_end me q _ = false

-- a Link or a Monitor is on its way to one that was born; and whoever says that it has ended, has
abbrev Tells : Start → Past → Pid → Pid → Signal → Type 0
Tells start past a b (Link i) = a.shard ≡ b.shard → is_unborn (life start past b) ≡ false
Tells start past a b (Monitor m) = a.shard ≡ b.shard → is_unborn (life start past b) ≡ false
Tells start past a b (LinkExit ids r) = a.shard ≡ b.shard → is_ended (life start past a) ≡ true
Tells start past a b (Signal.Down m r) = a.shard ≡ b.shard → is_ended (life start past a) ≡ true
Tells start past a b _ = ⊤

module _ (start : Start) where
  tells_later : (past : Past) (e : Event) (a b : Pid) (x : Signal) → Tells start past a b x → Tells start (e ∷ past) a b x
  tells_later past e a b (Link i) h = λ same. after_born b e (life start past b) (h same)
  tells_later past e a b (Monitor m) h = λ same. after_born b e (life start past b) (h same)
  tells_later past e a b (LinkExit ids r) h = λ same. ended_later a e (life start past a) (h same)
  tells_later past e a b (Signal.Down m r) h = λ same. ended_later a e (life start past a) (h same)
  tells_later past e a b _ h = tt

  abbrev Fine : Past → Sent → Type 0
  Fine past l = Tells start past l.from l.to l.signal

  fine_estate : (past : Past) (me : Pid) (s : ProcessState) (r : Reason) → is_ended (life start past me) ≡ true → Each (Fine past) (estate me s r)
  fine_estate past me s r over =
      each-append (Fine past) _ _
      (each-append (Fine past) _ _ (each-map (Fine past) (λ (e : Pid × Ids). sent me e.0 (LinkExit e.1 r)) (λ x same. over) s.links)
      (each-map (Fine past) (λ (k : Ref × Pid). sent me k.1 (Signal.Down k.0 r)) (λ x same. over) s.kept))
      (each-map (Fine past) (λ (m : Ref × Pid). sent me m.1 (Demonitor m.0)) (λ x. tt) s.watching)

  fine_end : (past : Past) (me : Pid) (o : Option Reason) (s : ProcessState) → ((r : Reason) → o ≡ Some r → is_ended (life start past me) ≡ true) → Each (Fine past) (end_sends me o s)
  fine_end past me None s over = tt
  fine_end past me (Some r) s over = fine_estate past me s r (over r refl)

  fine_answer : (past : Past) (a b : Pid) (x : Signal) → Each (Fine past) (living_answer b a x)
  fine_answer past a b (AliveAsk m) = (tt, tt)
  fine_answer past a b _ = tt

  came_ends : (past : Past) (a b : Pid) (x : Signal) (s : ProcessState) (r : Reason) → life start past b ≡ living s → (handle b s a x).ending ≡ Some r → is_ended (life start (Came a b x ∷ past) b) ≡ true
  came_ends past a b x s r is ends =
      ap (λ (t : Bool). is_ended (cond t (gets b a x (life start past b)) (life start past b))) (same_pid_refl b)
      ∙ ap (λ (f : Phase). is_ended (gets b a x f)) is ∙ ap (λ (o : Option Reason). is_ended (live_or_end o (handle b s a x).state)) ends

  -- a Link or a Monitor that comes back finds one that was born, and does not live
  link_back : (past : Past) (a b : Pid) (x : Signal) (f : Phase) → life start past b ≡ f → is_living f ≡ false → b.shard ≡ a.shard → (is_unborn (life start past b) ≡ false) → is_ended (life start (Came a b x ∷ past) b) ≡ true
  link_back past a b x unborn is dead same born = absurd (let bad : true ≡ false = sym (ap is_unborn is) ∙ born in cc)
  link_back past a b x (living s) is dead same born = absurd (cc)
  link_back past a b x (ended r s) is dead same born = ended_later b (Came a b x) (life start past b) (ap is_ended is)

  fine_dead : (past : Past) (a b : Pid) (x : Signal) (f : Phase) → life start past b ≡ f → is_living f ≡ false → Tells start past a b x → Each (Fine (Came a b x ∷ past)) (bounce b a x)
  fine_dead past a b (Link i) f is dead told = (λ same. link_back past a b (Link i) f is dead same (told (sym same)), tt)
  fine_dead past a b (Monitor m) f is dead told = (λ same. link_back past a b (Monitor m) f is dead same (told (sym same)), tt)
  fine_dead past a b (AliveAsk m) f is dead told = (tt, tt)
  fine_dead past a b _ f is dead told = tt

  fine_got : (past : Past) (a b : Pid) (x : Signal) (f : Phase) → life start past b ≡ f → Tells start past a b x → Each (Fine (Came a b x ∷ past)) (got_sends f b a x)
  fine_got past a b x unborn is told = fine_dead past a b x unborn is refl told
  fine_got past a b x (ended r s) is told = fine_dead past a b x (ended r s) is refl told
  fine_got past a b x (living s) is told =
      each-append (Fine (Came a b x ∷ past)) _ _
      (subst (Each (Fine (Came a b x ∷ past))) (sym (handle_answer b s a x)) (fine_answer (Came a b x ∷ past) a b x))
      (fine_end (Came a b x ∷ past) b (handle b s a x).ending (handle b s a x).state (λ r ends. came_ends past a b x s r is ends))

  left_ends : (past : Past) (p : Pid) (r : Reason) (s : ProcessState) → life start past p ≡ living s → is_ended (life start (Left p r ∷ past) p) ≡ true
  left_ends past p r s is =
      ap (λ (t : Bool). is_ended (cond t (leaves r (life start past p)) (life start past p))) (same_pid_refl p) ∙ ap (λ (f : Phase). is_ended (leaves r f)) is

  fine_left : (past : Past) (p : Pid) (r : Reason) (f : Phase) → life start past p ≡ f → Each (Fine (Left p r ∷ past)) (left_sends f p r)
  fine_left past p r unborn is = tt
  fine_left past p r (living s) is = fine_estate (Left p r ∷ past) p s r (left_ends past p r s is)
  fine_left past p r (ended w s) is = tt

  fine_said : (past : Past) (a b : Pid) (x : Signal) → MaySay start past (state start past a) a b x → (b.shard ≡ a.shard → is_unborn (life start past b) ≡ false) → Tells start (Said a b x ∷ past) a b x
  fine_said past a b (Link i) may known = λ same. after_born b (Said a b (Link i)) (life start past b) (known (sym same))
  fine_said past a b (Monitor m) may known = λ same. after_born b (Said a b (Monitor m)) (life start past b) (known (sym same))
  fine_said past a b (LinkExit ids r) may known = absurd may
  fine_said past a b (Signal.Down m r) may known = absurd may
  fine_said past a b _ may known = tt

  fine_new : (past : Past) (e : Event) → May start past e → IsKnownSaid start (e ∷ past) → Each (Fine past) (flying start past) → Each (Fine (e ∷ past)) (sent_by start past e)
  fine_new past (Said a b x) may known fly = (fine_said past a b x may.1 known.0, tt)
  fine_new past (Came a b x) may known fly = fine_got past a b x (life start past b) refl (each-found (Fine past) (is_between a b) (flying start past) (sent a b x) may fly)
  fine_new past (Left p r) may known fly = fine_left past p r (life start past p) refl
  fine_new past _ may known fly = tt

  fine_landed : (past : Past) (e : Event) (ls : List Sent) → Each (Fine past) ls → Each (Fine past) (landed e ls)
  fine_landed past (Came a b x) ls h = each-without (Fine past) (is_between a b) ls h
  fine_landed past _ ls h = h

  fine : (past : Past) → IsLegal start past → IsKnownSaid start past → Each (Fine past) (flying start past)
  fine [] h k = tt
  fine (e ∷ past) h k =
      let before = fine past h.1 (known_rest start e past k) in
      each-append (Fine (e ∷ past)) _ _
      (each-weaker (Fine past) (Fine (e ∷ past)) (λ l. tells_later past e l.from l.to l.signal) (landed e (flying start past)) (fine_landed past e (flying start past) before))
      (fine_new past e h.0 k before)

  -- what of an end that came by a link or a monitor, or a call that was refused
  module _ (me q : Pid) (same_desk : q.shard ≡ me.shard) where
    sent_ended : (past : Past) (a b : Pid) (x : Signal) → (same_pid q a && same_pid me b) ≡ true → (a.shard ≡ b.shard → is_ended (life start past a) ≡ true) → is_ended (life start past q) ≡ true
    sent_ended past a b x tells told =
        let both = and_parts (same_pid q a) (same_pid me b) tells in
        let from = same_pid_is q a both.0 in
        let to = same_pid_is me b both.1 in
        subst (λ (x : Pid). is_ended (life start past x) ≡ true) (sym from) (told (sym (ap (λ (x : Pid). x.shard) from) ∙ same_desk ∙ ap (λ (x : Pid). x.shard) to))

    ended_by : (past : Past) (e : Event) → May start past e → Each (Fine past) (flying start past) → shows_end me q e ≡ true → is_ended (life start past q) ≡ true
    ended_by past (Came a b (LinkExit ids r)) may fly tells = sent_ended past a b (LinkExit ids r) tells (each-found (Fine past) (is_between a b) (flying start past) (sent a b (LinkExit ids r)) may fly)
    ended_by past (Came a b (Signal.Down m r)) may fly tells = sent_ended past a b (Signal.Down m r) tells (each-found (Fine past) (is_between a b) (flying start past) (sent a b (Signal.Down m r)) may fly)
    ended_by past (Refused a b) may fly tells = subst (λ (x : Pid). is_ended (life start past x) ≡ true) (sym (same_pid_is q b (and_parts (same_pid me a) (same_pid q b) tells).1)) may.1
    ended_by past _ may fly tells = absurd (cc)

    pub ended_told : (past : Past) → IsLegal start past → IsKnownSaid start past → list_any (shows_end me q) past ≡ true → is_ended (life start past q) ≡ true
    ended_told [] h k any = absurd (cc)
    ended_told (e ∷ past) h k any = by_cases (shows_end me q e)
        (λ here. ended_later q e (life start past q) (ended_by past e h.0 (fine past h.1 (known_rest start e past k)) here))
        (λ later. ended_later q e (life start past q) (ended_told past h.1 (known_rest start e past k) (sym (ap (λ (b : Bool). b || list_any (shows_end me q) past) later) ∙ any)))
