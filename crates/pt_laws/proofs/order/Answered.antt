-- Each question of a live process is on its way, or its answer is, or the answer arrived.
use Rattle.std.proofs.Common.{◌≡◌, ℕ, ◌+◌, Bool, true, false, cond, ◌&&◌, List, [], ◌∷◌, Option, Some, None, refl, sym, ap, ◌∙◌, subst, arith}
use Rattle.std.specs.Map.{lookup}
use Rattle.std.proofs.lemmas.Bool.{false≢true, true≢false, and_right}
use Rattle.pt_signal.specs.declared.pid.Pid.{Pid}
use Rattle.pt_signal.specs.declared.ids.Ref.{Ref}
use Rattle.pt_signal.specs.declared.ids.Ids.{Ids}
use Rattle.pt_signal.specs.declared.item.Item.{Item}
use Rattle.pt_signal.specs.declared.reason.Reason.{Reason}
use Rattle.pt_signal.specs.declared.reason.Reason.TheVariants.{Normal, Kill}
use Rattle.pt_signal.specs.declared.signal.Signal.{Signal}
use Rattle.pt_signal.specs.declared.signal.Signal.TheVariants.{Link, LinkExit, Monitor, Demonitor, AliveAsk, AliveSay}
use Rattle.pt_events.specs.declared.event.Event.TheVariants.{Said, Came, Left}
use Rattle.pt_signal.specs.Values.{same_pid, same_ref, without_first}
use Rattle.pt_signal.specs.Process.{ProcessState, verdict, obey, holds_any, held, link_exit, down, handle, Sent, sent, estate, bounce}
use Rattle.pt_events.specs.History.{Past, Start, Phase, unborn, living, ended, life, state, is_living, is_unborn, is_ended, is_between, alive, flying, got_sends, left_sends, end_sends, items_of, arrives, arrived_since, MaySay, IsLegal}
use Rattle.pt_events.specs.Counting.{one_if, count}
use Rattle.pt_laws.specs.Load.{IsQuiet}
use Rattle.pt_laws.specs.Watch.{said_to}
use Rattle.pt_laws.specs.Asking.{is_question, is_answer}
use Rattle.pt_signal.proofs.Same.{same_pid_is}
use Rattle.pt_events.proofs.Handling.{living_answer, handle_answer}
use Rattle.pt_events.proofs.Phases.{was_unborn, was_not_ended}
use Rattle.pt_laws.proofs.monitoring.Counts.{carries, count-append, count-landed}
use Rattle.pt_laws.proofs.monitoring.Watching.{map_none, estate_parts, got_living, and_comm}

abbrev is_saying : Ref → Signal → Bool
is_saying m (AliveSay n x) = same_ref m n
is_saying m _ = false

-- what an end sends --------------------------------------------------------------------------------

module _ (a b : Pid) (test : Signal → Bool) (no_exit : (ids : Ids) (r : Reason) → test (LinkExit ids r) ≡ false)
    (no_down : (n : Ref) (r : Reason) → test (Signal.Down n r) ≡ false) (no_demonitor : (n : Ref) → test (Demonitor n) ≡ false) where
  estate_none : (p : Pid) (s : ProcessState) (r : Reason) → count (carries a b test) (estate p s r) ≡ 0
  estate_none p s r =
      let e = estate_parts a b test p s r in
      let x = map_none a b test (λ (e : Pid × Ids). sent p e.0 (LinkExit e.1 r)) (λ e. no_exit e.1 r) s.links in
      let y = map_none a b test (λ (k : Ref × Pid). sent p k.1 (Signal.Down k.0 r)) (λ k. no_down k.0 r) s.kept in
      let z = map_none a b test (λ (m : Ref × Pid). sent p m.1 (Demonitor m.0)) (λ m. no_demonitor m.0) s.watching in
      omega arith

  end_none : (p : Pid) (o : Option Reason) (s : ProcessState) → count (carries a b test) (end_sends p o s) ≡ 0
  end_none p None s = refl
  end_none p (Some r) s = estate_none p s r

  left_none : (f : Phase) (p : Pid) (r : Reason) → count (carries a b test) (left_sends f p r) ≡ 0
  left_none unborn p r = refl
  left_none (living s) p r = estate_none p s r
  left_none (ended w s) p r = refl

no_count : (c : Bool) → 0 ≡ one_if (c && false)
no_count true = refl
no_count false = refl

module _ (q t : Pid) (m : Ref) where
  abbrev asks : Sent → Bool
  asks = carries q t (is_question m)

  abbrev says_so : Sent → Bool
  says_so = carries t q (is_saying m)

  -- no question goes back
  bounce_asks : (b a : Pid) (x : Signal) → count asks (bounce b a x) ≡ 0
  bounce_asks b a (Link i) = let z = and_right (same_pid q b && same_pid t a) false refl in rw z refl
  bounce_asks b a (Monitor n) = let z = and_right (same_pid q b && same_pid t a) false refl in rw z refl
  bounce_asks b a (AliveAsk n) = let z = and_right (same_pid q b && same_pid t a) false refl in rw z refl
  bounce_asks b a _ = refl

  got_asks : (f : Phase) (b a : Pid) (x : Signal) → count asks (got_sends f b a x) ≡ 0
  got_asks unborn b a x = bounce_asks b a x
  got_asks (ended r s) b a x = bounce_asks b a x
  got_asks (living s) b a x =
      got_living q t (is_question m) (λ n. refl) s b a x
      ∙ end_none q t (is_question m) (λ ids r. refl) (λ n r. refl) (λ n. refl) b (handle b s a x).ending (handle b s a x).state

  -- an answer goes back to a question
  abbrev asked_by : Pid → Pid → Signal → ℕ
  asked_by a b x = one_if ((same_pid q a && same_pid t b) && is_question m x)

  bounce_says : (b a : Pid) (x : Signal) → count says_so (bounce b a x) ≡ asked_by a b x
  bounce_says b a (Link i) = let z = and_right (same_pid t b && same_pid q a) false refl in rw z (no_count _)
  bounce_says b a (Monitor n) = let z = and_right (same_pid t b && same_pid q a) false refl in rw z (no_count _)
  bounce_says b a (AliveAsk n) = let z = and_comm (same_pid t b) (same_pid q a) in rw z (omega arith)
  bounce_says b a _ = no_count _

  answer_says : (b a : Pid) (x : Signal) → count says_so (living_answer b a x) ≡ asked_by a b x
  answer_says b a (AliveAsk n) = let z = and_comm (same_pid t b) (same_pid q a) in rw z (omega arith)
  answer_says b a _ = no_count _

  got_says : (f : Phase) (b a : Pid) (x : Signal) → count says_so (got_sends f b a x) ≡ asked_by a b x
  got_says unborn b a x = bounce_says b a x
  got_says (ended r s) b a x = bounce_says b a x
  got_says (living s) b a x =
      let h = count-append says_so (handle b s a x).answer (end_sends b (handle b s a x).ending (handle b s a x).state) in
      let k = ap (count says_so) (handle_answer b s a x) in
      let l = answer_says b a x in
      let e = end_none t q (is_saying m) (λ ids r. refl) (λ n r. refl) (λ n. refl) b (handle b s a x).ending (handle b s a x).state in
      omega arith

  -- an answer arrives where one came to a live process --------------------------------------------------

  abbrev answers_in : List Item → ℕ
  answers_in items = count (is_answer m t) items

  obeys : (s : ProcessState) (by_link traps own : Bool) (from : Pid) (r : Reason) → answers_in (obey (verdict by_link traps own from r) s).items ≡ 0
  obeys s false traps own from Kill = refl
  obeys s by_link true own from r = refl
  obeys s by_link false false from Normal = refl
  obeys s by_link false own from r = refl

  link_exits : (known : Bool) (me : Pid) (s : ProcessState) (from : Pid) (r : Reason) → answers_in (link_exit known me s from r).items ≡ 0
  link_exits false me s from r = refl
  link_exits true me s from r = obeys _ true s.traps (same_pid from me) from r

  downs : (o : Option Pid) (s : ProcessState) (from : Pid) (n : Ref) (r : Reason) → answers_in (down o s from n r).items ≡ 0
  downs None s from n r = refl
  downs (Some p) s from n r = refl

  abbrev said_by : Pid → Signal → ℕ
  said_by a x = one_if (is_saying m x && same_pid t a)

  handled : (me : Pid) (s : ProcessState) (a : Pid) (x : Signal) → answers_in (handle me s a x).items ≡ said_by a x
  handled me s a (Signal.Exit r) = obeys s false s.traps (same_pid a me) a r
  handled me s a (LinkExit ids r) = link_exits (holds_any (held s.links a) ids) me s a r
  handled me s a (Signal.Down n r) = downs (lookup (same_ref n) s.watching) s a n r
  handled me s a (AliveSay n x) = omega arith
  handled me s a _ = refl

  pair : (c d e : Bool) → d ≡ true → one_if (e && c) ≡ one_if ((c && d) && e)
  pair true true true h = refl
  pair true true false h = refl
  pair false true true h = refl
  pair false true false h = refl
  pair c false e h = absurd (false≢true h)

  no_pair : (c d e : Bool) → d ≡ false → 0 ≡ one_if ((c && d) && e)
  no_pair true false e h = refl
  no_pair false false e h = refl
  no_pair c true e h = absurd (true≢false h)

  module _ (start : Start) where
    -- one that is not born yet asked nothing
    unsaid : (past : Past) → IsLegal start past → is_unborn (life start past q) ≡ true → said_to q t (is_question m) past ≡ 0
    unsaid [] h u = refl
    unsaid (Said a b x ∷ past) h u = go (same_pid q a) refl (unsaid past h.1)
      where
        before : is_unborn (life start past q) ≡ true
        before = was_unborn q (Said a b x) (life start past q) u

        lives : (f : Phase) → is_unborn f ≡ true → is_living f ≡ true → ⊥
        lives unborn e k = false≢true k
        lives (living s) e k = false≢true e
        lives (ended r s) e k = false≢true k

        go : (c : Bool) → same_pid q a ≡ c → (is_unborn (life start past q) ≡ true → said_to q t (is_question m) past ≡ 0) → said_to q t (is_question m) (Said a b x ∷ past) ≡ 0
        go true e ih = absurd (lives (life start past q) before (subst (λ a. alive start past a ≡ true) (sym (same_pid_is q a e)) h.0.0))
        go false e ih = let k = ih before in rw e (omega arith)
    unsaid (e ∷ past) h u = let ih = unsaid past h.1 (was_unborn q e (life start past q) u) in omega arith

    no_saying : (past : Past) (s : ProcessState) (a b : Pid) (x : Signal) → MaySay start past s a b x → is_saying m x ≡ false
    no_saying past s a b (AliveSay n x) h = absurd h
    no_saying past s a b _ h = refl

    abbrev Balanced : Past → Type 0
    Balanced past = count asks (flying start past) + count says_so (flying start past) + answers_in (arrived_since start past q) ≡ said_to q t (is_question m) past

    -- what arrives at q, where q is not ended: the answer that came, if one came
    arrival : (past : Past) (a b : Pid) (x : Signal) (rest : ℕ) (f : Phase) → life start past q ≡ f → is_ended f ≡ false
        → (is_unborn f ≡ true → count says_so (flying start past) ≡ 0)
        → rest + one_if ((same_pid t a && same_pid q b) && is_saying m x) ≡ count says_so (flying start past)
        → answers_in (arrives start past q (Came a b x)) ≡ one_if ((same_pid t a && same_pid q b) && is_saying m x)
    arrival past a b x rest f l e z k = go (same_pid q b) refl f l e z
      where
        go : (c : Bool) → same_pid q b ≡ c → (f : Phase) → life start past q ≡ f → is_ended f ≡ false → (is_unborn f ≡ true → count says_so (flying start past) ≡ 0)
            → answers_in (cond c (items_of (life start past q) q a x) []) ≡ one_if ((same_pid t a && same_pid q b) && is_saying m x)
        go false g f l e z = no_pair (same_pid t a) (same_pid q b) (is_saying m x) g
        go true g unborn l e z = let n = z refl in rw l (omega arith)
        go true g (living s) l e z = rw l (handled q s a x ∙ pair (same_pid t a) (same_pid q b) (is_saying m x) g)
        go true g (ended r s) l e z = absurd (true≢false e)

    balanced : (past : Past) → IsLegal start past → is_ended (life start past q) ≡ false → Balanced past
    balanced [] h e = refl
    balanced (Said a b x ∷ past) h e =
        let ih = balanced past h.1 (was_not_ended q (Said a b x) (life start past q) e) in
        let k = count-append asks (flying start past) (sent a b x ∷ []) in
        let l = count-append says_so (flying start past) (sent a b x ∷ []) in
        let r = count-append (is_answer m t) (arrived_since start past q) [] in
        let n : one_if ((same_pid t a && same_pid q b) && is_saying m x) ≡ 0 =
        rw (and_right (same_pid t a && same_pid q b) (is_saying m x) (no_saying past (state start past a) a b x h.0.1)) refl
        in
        omega arith
    balanced (Came a b x ∷ past) h e =
        let before = was_not_ended q (Came a b x) (life start past q) e in
        let ih = balanced past h.1 before in
        let la = count-landed asks (is_between a b) (flying start past) (sent a b x) h.0 in
        let ls = count-landed says_so (is_between a b) (flying start past) (sent a b x) h.0 in
        let aa = count-append asks (without_first (is_between a b) (flying start past)) (got_sends (life start past b) b a x) in
        let ss = count-append says_so (without_first (is_between a b) (flying start past)) (got_sends (life start past b) b a x) in
        let ga = got_asks (life start past b) b a x in
        let gs = got_says (life start past b) b a x in
        let rr = count-append (is_answer m t) (arrived_since start past q) (arrives start past q (Came a b x)) in
        let ar = arrival past a b x (count says_so (without_first (is_between a b) (flying start past))) (life start past q) refl before
        (λ u. let v = unsaid past h.1 u in omega arith) ls
        in
        omega arith
    balanced (Left p w ∷ past) h e =
        let ih = balanced past h.1 (was_not_ended q (Left p w) (life start past q) e) in
        let k = count-append asks (flying start past) (left_sends (life start past p) p w) in
        let l = count-append says_so (flying start past) (left_sends (life start past p) p w) in
        let r = count-append (is_answer m t) (arrived_since start past q) [] in
        let na = left_none q t (is_question m) (λ ids r. refl) (λ n r. refl) (λ n. refl) (life start past p) p w in
        let ns = left_none t q (is_saying m) (λ ids r. refl) (λ n r. refl) (λ n. refl) (life start past p) p w in
        omega arith
    balanced (ev ∷ past) h e =
        let ih = balanced past h.1 (was_not_ended q ev (life start past q) e) in
        let k = count-append asks (flying start past) [] in
        let l = count-append says_so (flying start past) [] in
        let r = count-append (is_answer m t) (arrived_since start past q) [] in
        omega arith

    pub quiet_answers : (past : Past) → IsLegal start past → IsQuiet start past → alive start past q ≡ true
        → answers_in (arrived_since start past q) ≡ said_to q t (is_question m) past
    quiet_answers past h quiet lives =
        let b = balanced past h (not_ended (life start past q) lives) in
        let a : count asks (flying start past) ≡ 0 = rw quiet refl in
        let s : count says_so (flying start past) ≡ 0 = rw quiet refl in
        omega arith
      where
        not_ended : (f : Phase) → is_living f ≡ true → is_ended f ≡ false
        not_ended unborn h = refl
        not_ended (living s) h = refl
        not_ended (ended r s) h = absurd (false≢true h)
