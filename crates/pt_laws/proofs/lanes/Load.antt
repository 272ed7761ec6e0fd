-- Each receipt lowers the load.
use Rattle.std.proofs.Common.{◌≡◌, ℕ, suc, ◌+◌, ◌≤◌, ◌<◌, ◌-◌, ◌==◌, filter, subst, Bool, true, false, cond, List, [], ◌∷◌, ◌++◌, Option, Some, None, map, length, refl, sym, ap, ◌∙◌, arith, length-append, le_refl, le_of_eq}
use Rattle.std.proofs.lemmas.Bool.{false≢true, both_ways, eq-eqb}
use Rattle.std.specs.Map.{lookup, remove_entry, set_value}
use Rattle.std.specs.List.{find, list_any}
use Rattle.pt_signal.specs.declared.pid.Pid.{Pid}
use Rattle.pt_signal.specs.declared.ids.Ref.{Ref}
use Rattle.pt_signal.specs.declared.ids.LinkId.{LinkId}
use Rattle.pt_signal.specs.declared.ids.Ids.{Ids}
use Rattle.pt_signal.specs.declared.reason.Reason.{Reason}
use Rattle.pt_signal.specs.declared.signal.Signal.{Signal}
use Rattle.pt_signal.specs.declared.signal.Signal.TheVariants.{Message, Link, Unlink, LinkExit, Monitor, Demonitor, AliveAsk, AliveSay}
use Rattle.pt_events.specs.declared.event.Event.{Event}
use Rattle.pt_events.specs.declared.event.Event.TheVariants.{Born, Came}
use Rattle.pt_signal.specs.Values.{same_pid, same_ref, without_first}
use Rattle.pt_signal.specs.Process.{ProcessState, Verdict, drops, queues, ends, verdict, obey, Handled, handle, held, holds_any, link_exit, down, enter, enter_at, cut, cut_at, leave_at, without_ids, keep, same_watch, Sent, sent, estate, bounce}
use Rattle.pt_events.specs.History.{Past, Start, Phase, unborn, living, ended, life, after, is_unborn, is_between, flying, got_sends, end_sends, live_or_end, gets, change, touches, sent_by, IsLegal, is_birth}
use Rattle.pt_events.specs.Counting.{one_if}
use Rattle.pt_laws.specs.Load.{weight, weights, size, total_of, times, IsStart, pids, load, desk_sizes}
use Rattle.pt_signal.proofs.Same.{same_pid_is, same_pid_refl}
use Rattle.pt_events.proofs.Phases.{after_born, each_branch}

-- lengths -----------------------------------------------------------------------------------

module _ {K X : Type 0} (test : K → Bool) where
  length-set_value : (es : List (K × X)) (w : X) → length (set_value test es w) ≡ length es
  length-set_value [] w = refl
  length-set_value (e ∷ es) w = go (test e.0) (length-set_value es w)
    where
      go : (b : Bool) → length (set_value test es w) ≡ length es → length (cond b ((e.0, w) ∷ es) (e ∷ set_value test es w)) ≡ length (e ∷ es)
      go true h = refl
      go false h = ap suc h

  length-remove_entry : (es : List (K × X)) → length (remove_entry test es) ≤ length es
  length-remove_entry [] = le_refl 0
  length-remove_entry (e ∷ es) = go (test e.0) (length-remove_entry es)
    where
      go : (b : Bool) → length (remove_entry test es) ≤ length es → length (cond b es (e ∷ remove_entry test es)) ≤ length (e ∷ es)
      go true h = omega arith
      go false h = omega arith

length-without_first : {X : Type 0} (test : X → Bool) (xs : List X) → length (without_first test xs) ≤ length xs
length-without_first test [] = le_refl 0
length-without_first test (x ∷ xs) = go (test x) (length-without_first test xs)
  where
    go : (b : Bool) → length (without_first test xs) ≤ length xs → length (cond b xs (x ∷ without_first test xs)) ≤ length (x ∷ xs)
    go true h = omega arith
    go false h = omega arith

length-enter : (q : Pid) (i : LinkId) (links : List (Pid × Ids)) → length (enter q i links) ≤ length links + 1
length-enter q i links = go (held links q)
  where
    go : (o : Option Ids) → length (enter_at o q i links) ≤ length links + 1
    go None = simp length-append (omega arith)
    go (Some ids) = rw length-set_value (omega arith)

length-cut : (q : Pid) (named : Ids) (links : List (Pid × Ids)) → length (cut q named links) ≤ length links
length-cut q named links = go (held links q)
  where
    leaving : (o : Option Ids) → length (leave_at o q links) ≤ length links
    leaving None = length-remove_entry (same_pid q) links
    leaving (Some ids) = le_of_eq (length-set_value (same_pid q) links ids)

    go : (o : Option Ids) → length (cut_at o q named links) ≤ length links
    go None = le_refl _
    go (Some ids) = leaving (without_ids named ids)

length-keep : (m : Ref) (w : Pid) (kept : List (Ref × Pid)) → length (keep m w kept) ≤ length kept + 1
length-keep m w kept = go (list_any (same_watch m w) kept)
  where
    go : (b : Bool) → length (cond b kept (kept ++ (m, w) ∷ [])) ≤ length kept + 1
    go true = omega arith
    go false = simp length-append (omega arith)

-- weights --------------------------------------------------------------------------------------

pub weights-append : (xs ys : List Sent) → weights (xs ++ ys) ≡ weights xs + weights ys
weights-append [] ys = omega arith
weights-append (x ∷ xs) ys = let h = weights-append xs ys in omega arith

weights-map : {X : Type 0} (f : X → Sent) → ((x : X) → weight (f x).signal ≡ 1) → (xs : List X) → weights (map f xs) ≡ length xs
weights-map f h [] = refl
weights-map f h (x ∷ xs) = let a = h x in let b = weights-map f h xs in omega arith

weights-estate : (me : Pid) (s : ProcessState) (r : Reason) → weights (estate me s r) ≡ length s.links + length s.kept + length s.watching
weights-estate me s r =
    let a = weights-append (map (λ e. sent me e.0 (LinkExit e.1 r)) s.links ++ map (λ k. sent me k.1 (Signal.Down k.0 r)) s.kept) (map (λ m. sent me m.1 (Demonitor m.0)) s.watching) in
    let b = weights-append (map (λ e. sent me e.0 (LinkExit e.1 r)) s.links) (map (λ k. sent me k.1 (Signal.Down k.0 r)) s.kept) in
    let x = weights-map (λ (e : Pid × Ids). sent me e.0 (LinkExit e.1 r)) (λ e. refl) s.links in
    let y = weights-map (λ (k : Ref × Pid). sent me k.1 (Signal.Down k.0 r)) (λ k. refl) s.kept in
    let z = weights-map (λ (m : Ref × Pid). sent me m.1 (Demonitor m.0)) (λ m. refl) s.watching in
    omega arith

weights-landed : (P : Sent → Bool) (ls : List Sent) (y : Sent) → find P ls ≡ Some y → weights (without_first P ls) + weight y.signal ≡ weights ls
weights-landed P [] y h = absurd (cc)
weights-landed P (l ∷ ls) y h = go (P l) refl h (weights-landed P ls y)
  where
    go : (b : Bool) → P l ≡ b → cond (P l) (Some l) (find P ls) ≡ Some y → (find P ls ≡ Some y → weights (without_first P ls) + weight y.signal ≡ weights ls)
        → weights (without_first P (l ∷ ls)) + weight y.signal ≡ weights (l ∷ ls)
    go true e h ih = let k : Some l ≡ Some y = rw e at h in let k2 : l ≡ y = cc in rw (e, ← k2) (omega arith)
    go false e h ih = let k : find P ls ≡ Some y = rw e at h in let j = ih k in rw e (omega arith)

-- one receipt ------------------------------------------------------------------------------------

-- the process afterwards and what it sends weigh no more than the process before
Spends : Pid → Handled → ℕ → Type 0
Spends me h n = size (live_or_end h.ending h.state) + weights (h.answer ++ end_sends me h.ending h.state) ≤ n

spends_obey : (me : Pid) (v : Verdict) (s : ProcessState) → Spends me (obey v s) (size (living s))
unfolding Spends
spends_obey me drops s = omega arith
spends_obey me (queues item) s = omega arith
spends_obey me (ends r) s = let h = weights-estate me s r in omega arith

spends_link : (me : Pid) (b : Bool) (s : ProcessState) (from : Pid) (r : Reason) → Spends me (link_exit b me s from r) (size (living s))
unfolding Spends
spends_link me false s from r = omega arith
spends_link me true s from r =
    let h = spends_obey me (verdict true s.traps (same_pid from me) from r) (record s { links = remove_entry (same_pid from) s.links }) in
    let k = length-remove_entry (same_pid from) s.links in
    omega arith

spends_down : (me : Pid) (t : Option Pid) (s : ProcessState) (from : Pid) (m : Ref) (r : Reason) → Spends me (down t s from m r) (size (living s))
unfolding Spends
spends_down me None s from m r = omega arith
spends_down me (Some t) s from m r = let h = length-remove_entry (same_ref m) s.watching in omega arith

spends_handle : (me : Pid) (s : ProcessState) (from : Pid) (x : Signal) → Spends me (handle me s from x) (size (living s) + weight x - 1)
unfolding Spends
spends_handle me s from (Message b) = omega arith
spends_handle me s from (Link i) = let h = length-enter from i s.links in omega arith
spends_handle me s from (Unlink ids) = let h = length-cut from ids s.links in omega arith
spends_handle me s from (Signal.Exit r) = let h = spends_obey me (verdict false s.traps (same_pid from me) from r) s in omega arith
spends_handle me s from (LinkExit ids r) = let h = spends_link me (holds_any (held s.links from) ids) s from r in omega arith
spends_handle me s from (Monitor m) = let h = length-keep m from s.kept in omega arith
spends_handle me s from (Demonitor m) = let h = length-without_first (same_watch m from) s.kept in omega arith
spends_handle me s from (Signal.Down m r) = let h = spends_down me (lookup (same_ref m) s.watching) s from m r in omega arith
spends_handle me s from (AliveAsk m) = omega arith
spends_handle me s from (AliveSay m x) = omega arith

spends_bounce : (me from : Pid) (x : Signal) → weights (bounce me from x) + 1 ≤ weight x
spends_bounce me from (Link i) = le_refl 2
spends_bounce me from (Monitor m) = le_refl 2
spends_bounce me from (AliveAsk m) = le_refl 2
spends_bounce me from _ = le_refl 1

weight_some : (x : Signal) → 1 ≤ weight x
weight_some (Link i) = omega arith
weight_some (Monitor m) = omega arith
weight_some (AliveAsk m) = omega arith
weight_some _ = le_refl 1

-- the receiver afterwards and what goes out weigh less than the receiver before and the letter
receipt : (b a : Pid) (x : Signal) (f : Phase) → size (gets b a x f) + weights (got_sends f b a x) + 1 ≤ size f + weight x
receipt b a x unborn = let h = spends_bounce b a x in omega arith
receipt b a x (living s) = let h = spends_handle b s a x in let k = weight_some x in unfold Spends in omega arith
receipt b a x (ended r s) = let h = spends_bounce b a x in omega arith

-- all receivers -------------------------------------------------------------------------------------

module _ (f g : Pid → ℕ) (b : Pid) (others : (q : Pid) → same_pid b q ≡ false → g q ≡ f q) where
  total_none : (ps : List Pid) → times b ps ≡ 0 → total_of g ps ≡ total_of f ps
  total_none [] h = refl
  total_none (q ∷ qs) h = go (same_pid b q) refl h (total_none qs)
    where
      go : (t : Bool) → same_pid b q ≡ t → one_if (same_pid b q) + times b qs ≡ 0 → (times b qs ≡ 0 → total_of g qs ≡ total_of f qs) → total_of g (q ∷ qs) ≡ total_of f (q ∷ qs)
      go true e h ih = let k : 1 + times b qs ≡ 0 = rw e at h in absurd (omega arith)
      go false e h ih = let k : 0 + times b qs ≡ 0 = rw e at h in let j = ih (omega arith) in let i = others q e in omega arith

  total_one : (ps : List Pid) → times b ps ≡ 1 → total_of g ps + f b ≡ total_of f ps + g b
  total_one [] h = absurd (omega arith)
  total_one (q ∷ qs) h = go (same_pid b q) refl h (total_one qs) (total_none qs)
    where
      go : (t : Bool) → same_pid b q ≡ t → one_if (same_pid b q) + times b qs ≡ 1 → (times b qs ≡ 1 → total_of g qs + f b ≡ total_of f qs + g b)
          → (times b qs ≡ 0 → total_of g qs ≡ total_of f qs) → total_of g (q ∷ qs) + f b ≡ total_of f (q ∷ qs) + g b
      go true e h ih outside =
          let k : 1 + times b qs ≡ 1 = rw e at h in
          let j = outside (omega arith) in
          let same = same_pid_is b q e in
          let i1 = ap f same in let i2 = ap g same in omega arith
      go false e h ih outside = let k : 0 + times b qs ≡ 1 = rw e at h in let j = ih (omega arith) in let i = others q e in omega arith

times-append : (p : Pid) (xs ys : List Pid) → times p (xs ++ ys) ≡ times p xs + times p ys
times-append p [] ys = omega arith
times-append p (x ∷ xs) ys = let h = times-append p xs ys in omega arith

-- each pid that was born stands once ---------------------------------------------------------------

change_unborn : (p : Pid) (e : Event) → is_birth p e ≡ false → is_unborn (change p e unborn) ≡ true
change_unborn p (Born q parent link) h = rw h refl
change_unborn p _ h = refl

keeps_unborn : (p : Pid) (e : Event) (f : Phase) → is_birth p e ≡ false → is_unborn (after p e f) ≡ is_unborn f
keeps_unborn p e unborn h = each_branch (λ g. is_unborn g ≡ true) (touches p e) _ _ (change_unborn p e h) refl
keeps_unborn p e (living s) h = after_born p e (living s) refl
keeps_unborn p e (ended r s) h = after_born p e (ended r s) refl

birth : (p : Pid) (parent : Option Pid) (link : Option LinkId) (f : Phase) (n : ℕ) → n ≡ cond (is_unborn f) 0 1
    → n + times p (cond (is_unborn f) (p ∷ []) []) ≡ cond (is_unborn (after p (Born p parent link) f)) 0 1
birth p parent link unborn n h = rw (same_pid_refl p) (omega arith)
birth p parent link (living s) n h = rw (after_born p (Born p parent link) (living s) refl) (omega arith)
birth p parent link (ended r s) n h = rw (after_born p (Born p parent link) (ended r s) refl) (omega arith)

same_pid_other : (p q : Pid) → same_pid p q ≡ false → same_pid q p ≡ false
same_pid_other p q h = go (same_pid q p) refl
  where
    go : (b : Bool) → same_pid q p ≡ b → same_pid q p ≡ false
    go false e = e
    go true e = absurd (both_ways _ (rw (← same_pid_is q p e) at h) (same_pid_refl q))

size_unborn : (f : Phase) → is_unborn f ≡ true → size f ≡ 0
size_unborn unborn h = refl
size_unborn (living s) h = absurd (false≢true h)
size_unborn (ended r s) h = refl

module _ (start : Start) (ok : IsStart start) where
  pub born_once : (past : Past) (p : Pid) → times p (pids start past) ≡ cond (is_unborn (life start past p)) 0 1
  born_once [] p = ok p
  born_once (Born q parent link ∷ past) p =
      times-append p (pids start past) (cond (is_unborn (life start past q)) (q ∷ []) []) ∙ go (same_pid p q) refl (born_once past p)
    where
      no_more : (b : Bool) → same_pid p q ≡ false → times p (cond b (q ∷ []) []) ≡ 0
      no_more true e = rw e refl
      no_more false e = refl

      go : (t : Bool) → same_pid p q ≡ t → times p (pids start past) ≡ cond (is_unborn (life start past p)) 0 1
          → times p (pids start past) + times p (cond (is_unborn (life start past q)) (q ∷ []) []) ≡ cond (is_unborn (life start (Born q parent link ∷ past) p)) 0 1
      go true e ih =
          let G : Pid → Type 0 = λ q. times p (pids start past) + times p (cond (is_unborn (life start past q)) (q ∷ []) []) ≡ cond (is_unborn (life start (Born q parent link ∷ past) p)) 0 1 in
          subst G (same_pid_is p q e) (birth p parent link (life start past p) _ ih)
      go false e ih = rw (no_more (is_unborn (life start past q)) e, keeps_unborn p (Born q parent link) (life start past p) e) (omega arith)
  born_once (e ∷ past) p = born_once past p ∙ ap (λ z. cond z 0 1) (sym (keeps_unborn p e (life start past p) refl))

  -- of one receipt: the processes afterwards and what goes out weigh less than the processes before and the letter
  pub came_sizes : (past : Past) (a b : Pid) (x : Signal) (ps : List Pid) → times b ps ≡ cond (is_unborn (life start past b)) 0 1
      → total_of (λ p. size (life start (Came a b x ∷ past) p)) ps + weights (got_sends (life start past b) b a x) + 1 ≤ total_of (λ p. size (life start past p)) ps + weight x
  came_sizes past a b x ps k = go (is_unborn f) refl k
    where
      f : Phase
      f = life start past b

      F : Pid → ℕ
      F p = size (life start past p)

      G : Pid → ℕ
      G p = size (life start (Came a b x ∷ past) p)

      others : (q : Pid) → same_pid b q ≡ false → G q ≡ F q
      others q e = rw (same_pid_other b q e) refl

      here : G b ≡ size (gets b a x f)
      here = rw (same_pid_refl b) refl

      go : (t : Bool) → is_unborn f ≡ t → times b ps ≡ cond (is_unborn f) 0 1 → total_of G ps + weights (got_sends f b a x) + 1 ≤ total_of F ps + weight x
      go true e k =
          let k0 : times b ps ≡ 0 = rw e at k in
          let t = total_none F G b others ps k0 in
          let r = receipt b a x f in
          let z = size_unborn f e in
          omega arith
      go false e k =
          let k1 : times b ps ≡ 1 = rw e at k in
          let t = total_one F G b others ps k1 in
          let r = receipt b a x f in
          let z = here in
          omega arith

  -- a receipt lowers the load
  pub load_falls : (past : Past) (a b : Pid) (x : Signal) → IsLegal start (Came a b x ∷ past) → load start (Came a b x ∷ past) < load start past
  load_falls past a b x h =
      let w = weights-landed (is_between a b) (flying start past) (sent a b x) h.0 in
      let v = weights-append (without_first (is_between a b) (flying start past)) (got_sends (life start past b) b a x) in
      let r = came_sizes past a b x (pids start past) (born_once past b) in
      omega arith

  times-filter : (p : Pid) (ps : List Pid) → times p (filter (λ q. q.shard == p.shard) ps) ≡ times p ps
  times-filter p [] = refl
  times-filter p (q ∷ qs) = go (q.shard == p.shard) refl (same_pid p q) refl (times-filter p qs)
    where
      go : (b : Bool) → (q.shard == p.shard) ≡ b → (c : Bool) → same_pid p q ≡ c → times p (filter (λ q. q.shard == p.shard) qs) ≡ times p qs
          → times p (filter (λ q. q.shard == p.shard) (q ∷ qs)) ≡ times p (q ∷ qs)
      go true e c f ih = rw e (ap (λ n. one_if (same_pid p q) + n) ih)
      go false e true f ih = absurd (both_ways _ e (eq-eqb q.shard p.shard (ap (λ z. z.shard) (sym (same_pid_is p q f)))))
      go false e false f ih = rw (e, f) (omega arith)

  -- at the receiver's desk
  pub one_receipt : (past : Past) (a b : Pid) (x : Signal) → desk_sizes start b.shard (Came a b x ∷ past) + weights (sent_by start past (Came a b x)) + 1 ≤ desk_sizes start b.shard past + weight x
  one_receipt past a b x = came_sizes past a b x (filter (λ p. p.shard == b.shard) (pids start past)) (times-filter b (pids start past) ∙ born_once past b)
