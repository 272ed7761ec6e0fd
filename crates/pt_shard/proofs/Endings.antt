-- What a signal that ends a process leaves it to owe.
use Rattle.std.proofs.Common.{◌≡◌, ℕ, ◌+◌, ◌<◌, ◌≤◌, Bool, true, false, List, [], ◌∷◌, map, Option, Some, None, refl, ap, arith}
use Rattle.std.specs.Map.{lookup, remove_entry}
use Rattle.std.specs.Prelude.{count_by}
use Rattle.std.proofs.lemmas.List.{map-append}
use Rattle.std.proofs.lemmas.List.Sums.{sum_by-append}
use Rattle.pt_process.specs.Peers.{peers_held}
use Rattle.pt_shard.specs.Sound.{Every}
use Rattle.pt_signal.specs.declared.pid.Pid.{Pid}
use Rattle.pt_signal.specs.declared.ids.Ids.{Ids}
use Rattle.pt_signal.specs.declared.ids.Ref.{Ref}
use Rattle.pt_signal.specs.declared.reason.Reason.{Reason}
use Rattle.pt_signal.specs.declared.signal.Signal.{Signal}
use Rattle.pt_signal.specs.declared.signal.Signal.TheVariants.{LinkExit, Demonitor}
use Rattle.pt_signal.specs.Values.{same_pid, same_ref}
use Rattle.pt_signal.specs.Process.{ProcessState, Sent, Handled, held, holds_any, handle, obey, Verdict, drops, queues, ends, verdict, link_exit, down, sent, estate}
use Rattle.pt_events.proofs.Phases.{each_branch}

-- what a signal that ends a process leaves it to owe -------------------------------------------

-- to whom it goes
map-to : {X : Type 0} (g : X → Sent) (xs : List X) → map (λ l. l.to) (map g xs) ≡ map (λ x. (g x).to) xs
map-to g [] = refl
map-to g (x ∷ xs) = ap (λ l. (g x).to ∷ l) (map-to g xs)

pub estate_peers : (me : Pid) (s : ProcessState) (r : Reason) → map (λ l. l.to) (estate me s r) ≡ peers_held s
estate_peers me s r =
    let a = map-to (λ (e : Pid × Ids). sent me e.0 (LinkExit e.1 r)) s.links in
    let b = map-to (λ (k : Ref × Pid). sent me k.1 (Signal.Down k.0 r)) s.kept in
    let c = map-to (λ (m : Ref × Pid). sent me m.1 (Demonitor m.0)) s.watching in
    rw (map-append, map-append, a, b, c) refl

pub every_to : (n : ℕ) (ls : List Sent) → Every (λ l. l.to.shard < n) ls → Every (λ q. q.shard < n) (map (λ l. l.to) ls)
every_to n [] h = tt
every_to n (l ∷ ls) h = (h.0, every_to n ls h.1)

count-remove_entry : {V : Type 0} (P : Pid → Bool) (test : Pid → Bool) (es : List (Pid × V)) → count_by P (map (λ e. e.0) (remove_entry test es)) ≤ count_by P (map (λ e. e.0) es)
count-remove_entry P test [] = omega arith
count-remove_entry P test (e ∷ es) =
    let all : count_by P (map (λ x. x.0) (e ∷ es)) ≡ count_by P (e.0 ∷ []) + count_by P (map (λ x. x.0) es) = sum_by-append _ (e.0 ∷ []) (map (λ x. x.0) es) in
    let left : count_by P (map (λ x. x.0) (e ∷ remove_entry test es)) ≡ count_by P (e.0 ∷ []) + count_by P (map (λ x. x.0) (remove_entry test es)) = sum_by-append _ (e.0 ∷ []) (map (λ x. x.0) (remove_entry test es)) in
    each_branch (λ xs. count_by P (map (λ x. x.0) xs) ≤ count_by P (map (λ x. x.0) (e ∷ es))) (test e.0) es (e ∷ remove_entry test es)
    (omega (arith, all)) (let h = count-remove_entry P test es in omega (arith, h, all, left))

count-peers : (P : Pid → Bool) (s : ProcessState) → count_by P (peers_held s) ≡ count_by P (map (λ e. e.0) s.links) + count_by P (map (λ k. k.1) s.kept) + count_by P (map (λ m. m.1) s.watching)
count-peers P s = rw (sum_by-append, sum_by-append) refl

obeyed : (v : Verdict) (s : ProcessState) (r : Reason) → (obey v s).ending ≡ Some r → (obey v s).state ≡ s
obeyed drops s r h = refl
obeyed (queues item) s r h = absurd (cc)
obeyed (ends w) s r h = refl

module _ (P : Pid → Bool) (me : Pid) (s : ProcessState) (from : Pid) (r : Reason) where
  abbrev IsFewer : Handled → Type 0
  IsFewer h = h.ending ≡ Some r → count_by P (peers_held h.state) ≤ count_by P (peers_held s)

  fewer_link_exit : (held : Bool) (why : Reason) → IsFewer (link_exit held me s from why)
  fewer_link_exit false why h = absurd (cc)
  fewer_link_exit true why h =
      let t : ProcessState = record s { links = remove_entry (same_pid from) s.links } in
      let e = obeyed (verdict true s.traps (same_pid from me) from why) t r h in
      let less = count-remove_entry P (same_pid from) s.links in
      rw e (omega (arith, count-peers P t, count-peers P s, less))

  fewer_down : (o : Option Pid) (m : Ref) (why : Reason) → IsFewer (down o s from m why)
  fewer_down None m why h = absurd (cc)
  fewer_down (Some t) m why h = absurd (cc)

  -- a signal that ends a process adds nothing to what it owes
  pub fewer_owed : (x : Signal) → IsFewer (handle me s from x)
  fewer_owed (Signal.Exit why) h = let e = obeyed (verdict false s.traps (same_pid from me) from why) s r h in rw e (omega arith)
  fewer_owed (LinkExit ids why) h = fewer_link_exit (holds_any (held s.links from) ids) why h
  fewer_owed (Signal.Down m why) h = fewer_down (lookup (same_ref m) s.watching) m why h
  fewer_owed x h = absurd (cc)
