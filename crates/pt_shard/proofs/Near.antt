-- A process knows pids of the node's desks alone, so what it owes goes to them alone; and its open references
-- are none that is yet to be made.
use Rattle.std.proofs.Common.{◌≡◌, ℕ, ◌<◌, ◌≤◌, refl, List, [], ◌∷◌, ◌++◌, Bool, true, false, Option, Some, None, map, sym, subst, arith}
use Rattle.std.specs.Prelude.{⊤}
use Rattle.std.specs.Map.{lookup, remove_entry, set_value}
use Rattle.std.proofs.lemmas.Bool.Decides.{nat_tests}
use Rattle.pt_signal.specs.declared.pid.Pid.{Pid}
use Rattle.pt_signal.specs.declared.ids.Ref.{Ref}
use Rattle.pt_signal.specs.declared.ids.Ids.{Ids}
use Rattle.pt_signal.specs.declared.ids.LinkId.{LinkId}
use Rattle.pt_signal.specs.declared.reason.Reason.{Reason}
use Rattle.pt_signal.specs.declared.signal.Signal.{Signal}
use Rattle.pt_signal.specs.declared.signal.Signal.TheVariants.{Message, Link, Unlink, LinkExit, Monitor, Demonitor, AliveAsk, AliveSay}
use Rattle.pt_signal.specs.Values.{without_first, same_pid, same_ref}
use Rattle.pt_signal.specs.Process.{ProcessState, fresh, held, enter_at, cut_at, leave_at, without_ids, keep, same_watch, handle, say, obey, Verdict, drops, queues, ends, verdict, link_exit, down, Sent, sent, estate, bounce}
use Rattle.pt_events.specs.declared.event.Event.{Event}
use Rattle.pt_events.specs.declared.event.Event.TheVariants.{Born, Said, Came, Took, Flag, Left}
use Rattle.pt_events.specs.declared.event.Stamped.{Stamped}
use Rattle.pt_events.specs.History.{Past, Start, Phase, unborn, living, ended, life, change, touches, newborn, while_living, linked, gets, leaves, live_or_end, sent_by, got_sends, left_sends, end_sends, is_unborn}
use Rattle.pt_events.specs.Journal.{events, clock, IsLocal, IsHome, IsNewAt, IsOf, IsKnown}
use Rattle.pt_events.proofs.Phases.{each_branch, after_born}
use Rattle.pt_events.proofs.Handling.{living_answer, handle_answer}
use Rattle.pt_shard.specs.Begun.{Every, IsPeer, IsWatch, IsNearState, IsNearPhase, IsBegun}
use Rattle.pt_shard.specs.Sound.{IsNear, AllNear}

-- lists ---

pub Every-append : {X : Type 0} (P : X → Type 0) (xs ys : List X) → Every P xs → Every P ys → Every P (xs ++ ys)
Every-append P [] ys h k = k
Every-append P (x ∷ xs) ys h k = (h.0, Every-append P xs ys h.1 k)

---------------------------------------------------------------------

module _ {K V : Type 0} (P : K × V → Type 0) where
  Every-removed : (test : K → Bool) (es : List (K × V)) → Every P es → Every P (remove_entry test es)
  Every-removed test [] h = tt
  Every-removed test (e ∷ es) h = each_branch (Every P) (test e.0) es (e ∷ remove_entry test es) h.1 (h.0, Every-removed test es h.1)

  Every-value_set : (test : K → Bool) (v : V) → ((k : K) (w : V) → P (k, w) → P (k, v)) → (es : List (K × V)) → Every P es → Every P (set_value test es v)
  Every-value_set test v same [] h = tt
  Every-value_set test v same (e ∷ es) h = each_branch (Every P) (test e.0) ((e.0, v) ∷ es) (e ∷ set_value test es v) (same e.0 e.1 h.0, h.1) (h.0, Every-value_set test v same es h.1)

Every-without_first : {X : Type 0} (P : X → Type 0) (test : X → Bool) (xs : List X) → Every P xs → Every P (without_first test xs)
Every-without_first P test [] h = tt
Every-without_first P test (x ∷ xs) h = each_branch (Every P) (test x) xs (x ∷ without_first test xs) h.1 (h.0, Every-without_first P test xs h.1)

-- what is sent goes to a desk of the node
abbrev pub IsToNode : ℕ → Sent → Type 0
IsToNode desks l = l.to.shard < desks

-- W holds of each open monitor: a reference and its target
module _ (desks : ℕ) (W : Ref × Pid → Type 0) where
  -- W holds of what the signal opens
  abbrev pub MayOpen : Pid → Signal → Type 0
  MayOpen to (Monitor m) = W (m, to)
  MayOpen to _ = ⊤

  abbrev pub MayOpenBy : Event → Type 0
  MayOpenBy (Said a b x) = MayOpen b x
  MayOpenBy _ = ⊤

  near_enter_at : (o : Option Ids) (q : Pid) (i : LinkId) (links : List (Pid × Ids)) → q.shard < desks → Every (IsPeer desks) links → Every (IsPeer desks) (enter_at o q i links)
  near_enter_at None q i links near h = Every-append (IsPeer desks) links _ h (near, tt)
  near_enter_at (Some ids) q i links near h = Every-value_set (IsPeer desks) (same_pid q) _ (λ k w p. p) links h

  near_leave_at : (o : Option Ids) (q : Pid) (links : List (Pid × Ids)) → Every (IsPeer desks) links → Every (IsPeer desks) (leave_at o q links)
  near_leave_at None q links h = Every-removed (IsPeer desks) (same_pid q) links h
  near_leave_at (Some left) q links h = Every-value_set (IsPeer desks) (same_pid q) left (λ k w p. p) links h

  near_cut_at : (o : Option Ids) (q : Pid) (named : Ids) (links : List (Pid × Ids)) → Every (IsPeer desks) links → Every (IsPeer desks) (cut_at o q named links)
  near_cut_at None q named links h = h
  near_cut_at (Some ids) q named links h = near_leave_at (without_ids named ids) q links h

  near_keep : (m : Ref) (w : Pid) (kept : List (Ref × Pid)) → w.shard < desks → Every (IsWatch desks) kept → Every (IsWatch desks) (keep m w kept)
  near_keep m w kept near h = each_branch (Every (IsWatch desks)) _ kept _ h (Every-append (IsWatch desks) kept _ h (near, tt))

  near_obey : (v : Verdict) (s : ProcessState) → IsNearState desks W s → IsNearState desks W (obey v s).state
  near_obey drops s h = h
  near_obey (queues item) s h = record { links = h.links; watching = h.watching; kept = h.kept }
  near_obey (ends r) s h = h

  near_link_exit : (held : Bool) (me : Pid) (s : ProcessState) (from : Pid) (r : Reason) → IsNearState desks W s → IsNearState desks W (link_exit held me s from r).state
  near_link_exit false me s from r h = h
  near_link_exit true me s from r h =
      near_obey (verdict true s.traps (same_pid from me) from r) _
      (record { links = Every-removed (IsPeer desks) (same_pid from) s.links h.links; watching = h.watching; kept = h.kept })

  near_down : (o : Option Pid) (s : ProcessState) (from : Pid) (m : Ref) (r : Reason) → IsNearState desks W s → IsNearState desks W (down o s from m r).state
  near_down None s from m r h = h
  near_down (Some t) s from m r h = record { links = h.links; watching = Every-removed W (same_ref m) s.watching h.watching; kept = h.kept }

  near_handle : (me : Pid) (s : ProcessState) (from : Pid) (x : Signal) → from.shard < desks → IsNearState desks W s → IsNearState desks W (handle me s from x).state
  near_handle me s from (Message b) near h = record { links = h.links; watching = h.watching; kept = h.kept }
  near_handle me s from (Link i) near h = record { links = near_enter_at (held s.links from) from i s.links near h.links; watching = h.watching; kept = h.kept }
  near_handle me s from (Unlink ids) near h = record { links = near_cut_at (held s.links from) from ids s.links h.links; watching = h.watching; kept = h.kept }
  near_handle me s from (Signal.Exit r) near h = near_obey _ s h
  near_handle me s from (LinkExit ids r) near h = near_link_exit _ me s from r h
  near_handle me s from (Monitor m) near h = record { links = h.links; watching = h.watching; kept = near_keep m from s.kept near h.kept }
  near_handle me s from (Demonitor m) near h = record { links = h.links; watching = h.watching; kept = Every-without_first (IsWatch desks) (same_watch m from) s.kept h.kept }
  near_handle me s from (Signal.Down m r) near h = near_down _ s from m r h
  near_handle me s from (AliveAsk m) near h = h
  near_handle me s from (AliveSay m x) near h = record { links = h.links; watching = h.watching; kept = h.kept }

  near_say : (s : ProcessState) (to : Pid) (x : Signal) → to.shard < desks → MayOpen to x → IsNearState desks W s → IsNearState desks W (say s to x)
  near_say s to (Link i) near new h = record { links = near_enter_at (held s.links to) to i s.links near h.links; watching = h.watching; kept = h.kept }
  near_say s to (Unlink ids) near new h = record { links = near_cut_at (held s.links to) to ids s.links h.links; watching = h.watching; kept = h.kept }
  near_say s to (Monitor m) near new h = record { links = h.links; watching = Every-append W s.watching _ h.watching (new, tt); kept = h.kept }
  near_say s to (Demonitor m) near new h = record { links = h.links; watching = Every-removed W (same_ref m) s.watching h.watching; kept = h.kept }
  near_say s to _ near new h = h

  near_linked : (q : Option Pid) (link : Option LinkId) (d : ℕ) (s : ProcessState) → IsOf d q → d < desks → IsNearState desks W s → IsNearState desks W (linked q link s)
  near_linked (Some q) (Some i) d s home here h = record { links = near_enter_at (held s.links q) q i s.links (omega arith) h.links; watching = h.watching; kept = h.kept }
  near_linked (Some q) None d s home here h = h
  near_linked None link d s home here h = h

  near_end : (o : Option Reason) (s : ProcessState) → IsNearState desks W s → IsNearPhase desks W (live_or_end o s)
  near_end None s h = h
  near_end (Some r) s h = tt

  near_newborn : (q : Option Pid) (link : Option LinkId) (d : ℕ) (f : Phase) → IsOf d q → d < desks → IsNearPhase desks W f → IsNearPhase desks W (newborn q link f)
  near_newborn q link d unborn home here h = near_linked q link d fresh home here (record { links = tt; watching = tt; kept = tt })
  near_newborn q link d (living s) home here h = h
  near_newborn q link d (ended r s) home here h = tt

  near_while : (step : ProcessState → ProcessState) → ((s : ProcessState) → IsNearState desks W s → IsNearState desks W (step s)) → (f : Phase) → IsNearPhase desks W f → IsNearPhase desks W (while_living step f)
  near_while step k unborn h = tt
  near_while step k (living s) h = k s h
  near_while step k (ended r s) h = tt

  near_got : (p a : Pid) (x : Signal) (f : Phase) → a.shard < desks → IsNearPhase desks W f → IsNearPhase desks W (gets p a x f)
  near_got p a x unborn near h = tt
  near_got p a x (living s) near h = near_end (handle p s a x).ending _ (near_handle p s a x near h)
  near_got p a x (ended r s) near h = tt

  near_left : (r : Reason) (f : Phase) → IsNearPhase desks W (leaves r f)
  near_left r unborn = tt
  near_left r (living s) = tt
  near_left r (ended w s) = tt

  near_change : (d : ℕ) (p : Pid) (e : Event) (f : Phase) → d < desks → IsHome d e → MayOpenBy e → IsNear desks e → IsNearPhase desks W f → IsNearPhase desks W (change p e f)
  near_change d p (Born q parent link) f here home new near h =
      each_branch (IsNearPhase desks W) (same_pid p q) _ _ (near_newborn parent link d f home.1 here h)
      (near_while (linked (Some q) link) (λ s k. near_linked (Some q) link d s home.0 here k) f h)
  near_change d p (Said a b x) f here home new near h = near_while (λ s. say s b x) (λ s k. near_say s b x near new k) f h
  near_change d p (Came a b x) f here home new near h = near_got p a x f near h
  near_change d p (Took q k i) f here home new near h = near_while _ (λ s j. record { links = j.links; watching = j.watching; kept = j.kept }) f h
  near_change d p (Flag q on) f here home new near h = near_while _ (λ s j. record { links = j.links; watching = j.watching; kept = j.kept }) f h
  near_change d p (Left q r) f here home new near h = near_left r f
  near_change d p _ f here home new near h = h

  near_mapped : {X : Type 0} (Q : X → Type 0) (f : X → Sent) → ((x : X) → Q x → IsToNode desks (f x)) → (xs : List X) → Every Q xs → Every (IsToNode desks) (map f xs)
  near_mapped Q f k [] h = tt
  near_mapped Q f k (x ∷ xs) h = (k x h.0, near_mapped Q f k xs h.1)

  near_estate : ((e : Ref × Pid) → W e → e.1.shard < desks) → (me : Pid) (s : ProcessState) (r : Reason) → IsNearState desks W s → Every (IsToNode desks) (estate me s r)
  near_estate near_open me s r h =
      Every-append (IsToNode desks) _ _
      (Every-append (IsToNode desks) _ _ (near_mapped (IsPeer desks) (λ (e : Pid × Ids). sent me e.0 (LinkExit e.1 r)) (λ x k. k) s.links h.links)
      (near_mapped (IsWatch desks) (λ (k : Ref × Pid). sent me k.1 (Signal.Down k.0 r)) (λ x k. k) s.kept h.kept))
      (near_mapped W (λ (m : Ref × Pid). sent me m.1 (Demonitor m.0)) (λ x k. near_open x k) s.watching h.watching)

  near_ending : ((e : Ref × Pid) → W e → e.1.shard < desks) → (me : Pid) (o : Option Reason) (s : ProcessState) → IsNearState desks W s → Every (IsToNode desks) (end_sends me o s)
  near_ending near_open me None s h = tt
  near_ending near_open me (Some r) s h = near_estate near_open me s r h

  near_bounce : (me from : Pid) (x : Signal) → from.shard < desks → Every (IsToNode desks) (bounce me from x)
  near_bounce me from (Link i) near = (near, tt)
  near_bounce me from (Monitor m) near = (near, tt)
  near_bounce me from (AliveAsk m) near = (near, tt)
  near_bounce me from _ near = tt

  near_answer : (me from : Pid) (x : Signal) → from.shard < desks → Every (IsToNode desks) (living_answer me from x)
  near_answer me from (AliveAsk m) near = (near, tt)
  near_answer me from _ near = tt

  near_got_sends : ((e : Ref × Pid) → W e → e.1.shard < desks) → (f : Phase) (me from : Pid) (x : Signal) → from.shard < desks → IsNearPhase desks W f → Every (IsToNode desks) (got_sends f me from x)
  near_got_sends near_open unborn me from x near h = near_bounce me from x near
  near_got_sends near_open (living s) me from x near h =
      Every-append (IsToNode desks) _ _ (subst (Every (IsToNode desks)) (sym (handle_answer me s from x)) (near_answer me from x near))
      (near_ending near_open me (handle me s from x).ending _ (near_handle me s from x near h))
  near_got_sends near_open (ended r s) me from x near h = near_bounce me from x near

  near_left_sends : ((e : Ref × Pid) → W e → e.1.shard < desks) → (f : Phase) (me : Pid) (r : Reason) → IsNearPhase desks W f → Every (IsToNode desks) (left_sends f me r)
  near_left_sends near_open unborn me r h = tt
  near_left_sends near_open (living s) me r h = near_estate near_open me s r h
  near_left_sends near_open (ended w s) me r h = tt

  pub near_sent : (start : Start) → ((e : Ref × Pid) → W e → e.1.shard < desks) → (past : Past) (e : Event) → IsNear desks e → ((p : Pid) → IsNearPhase desks W (life start past p)) → Every (IsToNode desks) (sent_by start past e)
  near_sent start near_open past (Said a b x) near h = (near, tt)
  near_sent start near_open past (Came a b x) near h = near_got_sends near_open (life start past b) b a x near (h b)
  near_sent start near_open past (Left p r) near h = near_left_sends near_open (life start past p) p r (h p)
  near_sent start near_open past _ near h = tt

-- an open monitor of the desk: its target is of the node, and was born if it is of the desk; its reference was made
abbrev pub IsOpen : Start → ℕ → ℕ → ℕ → List Stamped → Ref × Pid → Type 0
IsOpen start desks low d journal e =
    (e.1.shard < desks) × (e.0.number ≤ clock low journal) × (e.1.shard ≡ d → is_unborn (life start (events journal) e.1) ≡ false)

module _ (start : Start) (desks low top d : ℕ) (begun : IsBegun start desks low d) where
  still_open : (s : Stamped) (journal : List Stamped) → clock low journal < s.stamp → (es : List (Ref × Pid)) → Every (IsOpen start desks low d journal) es → Every (IsOpen start desks low d (s ∷ journal)) es
  still_open s journal later [] h = tt
  still_open s journal later (e ∷ es) h =
      let old = h.0.1 in
      ((h.0.0, omega arith, λ k. after_born e.1 s.event (life start (events journal) e.1) (h.0.2 k)), still_open s journal later es h.1)

  still_near : (s : Stamped) (journal : List Stamped) → clock low journal < s.stamp → (f : Phase) → IsNearPhase desks (IsOpen start desks low d journal) f → IsNearPhase desks (IsOpen start desks low d (s ∷ journal)) f
  still_near s journal later unborn h = tt
  still_near s journal later (living t) h = record { links = h.links; watching = still_open s journal later t.watching h.watching; kept = h.kept }
  still_near s journal later (ended r t) h = tt

  may_open : (s : Stamped) (journal : List Stamped) (e : Event) → s.event ≡ e → IsNewAt d s.stamp e → IsNear desks e → IsKnown start d top (events journal) e → MayOpenBy desks (IsOpen start desks low d (s ∷ journal)) e
  may_open s journal (Said a b (Monitor m)) is new near known =
      (near, omega (arith, new.1), λ k. after_born b s.event (life start (events journal) b) (known k))
  may_open s journal _ is new near known = tt

  pub near_life : (journal : List Stamped) → d < desks → IsLocal start low top d journal → AllNear desks (events journal) → (p : Pid) → IsNearPhase desks (IsOpen start desks low d journal) (life start (events journal) p)
  near_life [] here local near p = begun.near p
  near_life (s ∷ journal) here local near p =
      let f : Phase = life start (events journal) p in
      let before : IsNearPhase desks (IsOpen start desks low d (s ∷ journal)) f = still_near s journal local.0.later f (near_life journal here local.1 near.1 p) in
      each_branch (IsNearPhase desks (IsOpen start desks low d (s ∷ journal))) (touches p s.event) _ _
      (near_change desks (IsOpen start desks low d (s ∷ journal)) d p s.event f here local.0.home (may_open s journal s.event refl local.0.new_at near.0 local.0.known) near.0 before) before

  -- a reference that is yet to be made is not open
  pub not_open : (journal : List Stamped) (m : Ref) → clock low journal < m.number → (es : List (Ref × Pid)) → Every (IsOpen start desks low d journal) es → lookup (same_ref m) es ≡ None
  not_open journal m new [] h = refl
  not_open journal m new (e ∷ es) h =
      let differs : same_ref m e.0 ≡ false = let old = h.0.1 in grind (arith, nat_tests) in
      rw differs (not_open journal m new es h.1)

  -- what is open under a reference
  pub open_at : (journal : List Stamped) (m : Ref) (t : Pid) (es : List (Ref × Pid)) → Every (IsOpen start desks low d journal) es → lookup (same_ref m) es ≡ Some t
      → (t.shard < desks) × (t.shard ≡ d → is_unborn (life start (events journal) t) ≡ false)
  open_at journal m t [] h found = absurd (cc)
  open_at journal m t (e ∷ es) h found = go (same_ref m e.0) refl found (open_at journal m t es h.1)
    where
      go : (b : Bool) → same_ref m e.0 ≡ b → lookup (same_ref m) (e ∷ es) ≡ Some t
          → (lookup (same_ref m) es ≡ Some t → (t.shard < desks) × (t.shard ≡ d → is_unborn (life start (events journal) t) ≡ false))
          → (t.shard < desks) × (t.shard ≡ d → is_unborn (life start (events journal) t) ≡ false)
      go true k f ih =
          let is : e.1 ≡ t = (let g : Some e.1 ≡ Some t = rw k at f in cc) in
          subst (λ x. (x.shard < desks) × (x.shard ≡ d → is_unborn (life start (events journal) x) ≡ false)) is (h.0.0, h.0.2)
      go false k f ih = let g : lookup (same_ref m) es ≡ Some t = rw k at f in ih g
