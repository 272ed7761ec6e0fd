-- The targets of open monitors are of slots and versions that a node may have, where those of all monitors are.
use Rattle.std.proofs.Common.{◌≡◌, ℕ, ◌<◌, Bool, true, false, cond, Option, Some, None, List, [], ◌∷◌, ◌++◌, refl, sym, ap, ◌∙◌, subst}
use Rattle.std.specs.Prelude.{⊤}
use Rattle.std.specs.Map.{lookup, remove_entry}
use Rattle.pt_signal.specs.declared.pid.Pid.{Pid}
use Rattle.pt_signal.specs.declared.ids.Ref.{Ref}
use Rattle.pt_signal.specs.declared.ids.LinkId.{LinkId}
use Rattle.pt_signal.specs.declared.reason.Reason.{Reason}
use Rattle.pt_signal.specs.declared.signal.Signal.{Signal}
use Rattle.pt_signal.specs.declared.signal.Signal.TheVariants.{Message, Link, Unlink, LinkExit, Monitor, Demonitor, AliveAsk, AliveSay}
use Rattle.pt_signal.specs.declared.config.TheConstants.{MAX_SLOTS}
use Rattle.pt_signal.specs.Values.{same_pid, same_ref}
use Rattle.pt_signal.specs.Process.{ProcessState, Verdict, drops, queues, ends, verdict, obey, link_exit, down, handle, held, holds_any, say, fresh}
use Rattle.pt_events.specs.declared.event.Event.{Event}
use Rattle.pt_events.specs.declared.event.Event.TheVariants.{Born, Said, Came, Took, Flag, Left, Refused}
use Rattle.pt_events.specs.declared.event.Stamped.{Stamped}
use Rattle.pt_events.specs.History.{Phase, unborn, living, ended, Start, life, change, touches, linked, newborn, while_living, live_or_end, state_of, is_living}
use Rattle.pt_events.specs.Journal.{Journals, events}
use Rattle.pt_shard.specs.ShardState.{ShardState, lives, past, state_in}
use Rattle.pt_auditor.specs.Foreigners.{IsNodeSlot, IsNodeVersion}
use Rattle.pt_history.specs.Passing.{AllCalledHere}

abbrev AreNamed : List (Ref × Pid) → Type 0
AreNamed [] = ⊤
AreNamed (e ∷ es) = ((e.1.slot < MAX_SLOTS) × (0 < e.1.version)) × AreNamed es

abbrev WatchesNamed : Phase → Type 0
WatchesNamed (living s) = AreNamed s.watching
WatchesNamed _ = ⊤

named_more : (xs ys : List (Ref × Pid)) → AreNamed xs → AreNamed ys → AreNamed (xs ++ ys)
named_more [] ys h k = k
named_more (x ∷ xs) ys h k = (h.0, named_more xs ys h.1 k)

named_less : (P : Ref → Bool) (xs : List (Ref × Pid)) → AreNamed xs → AreNamed (remove_entry P xs)
named_less P [] h = tt
named_less P (x ∷ xs) h = go (P x.0) h.1 (named_less P xs h.1)
  where
    go : (b : Bool) → AreNamed xs → AreNamed (remove_entry P xs) → AreNamed (cond b xs (x ∷ remove_entry P xs))
    go true rest ih = rest
    go false rest ih = (h.0, ih)

found_named : (m : Ref) (t : Pid) (xs : List (Ref × Pid)) → AreNamed xs → lookup (same_ref m) xs ≡ Some t → (t.slot < MAX_SLOTS) × (0 < t.version)
found_named m t [] h e = absurd (cc)
found_named m t (x ∷ xs) h e = go (same_ref m x.0) refl e (found_named m t xs h.1)
  where
    go : (b : Bool) → same_ref m x.0 ≡ b → cond (same_ref m x.0) (Some x.1) (lookup (same_ref m) xs) ≡ Some t → (lookup (same_ref m) xs ≡ Some t → (t.slot < MAX_SLOTS) × (0 < t.version)) → (t.slot < MAX_SLOTS) × (0 < t.version)
    go true q k ih = let k1 : Some x.1 ≡ Some t = rw q at k in let same : x.1 ≡ t = cc in subst (λ (z : Pid). (z.slot < MAX_SLOTS) × (0 < z.version)) same h.0
    go false q k ih = let k1 : lookup (same_ref m) xs ≡ Some t = rw q at k in ih k1

-- one event --------------------------------------------------------------------------------------------

said_named : (s : ProcessState) (b : Pid) (x : Signal) → AreNamed s.watching → b.slot < MAX_SLOTS → 0 < b.version → AreNamed (say s b x).watching
said_named s b (Monitor m) h slot version = named_more s.watching ((m, b) ∷ []) h ((slot, version), tt)
said_named s b (Demonitor m) h slot version = named_less (same_ref m) s.watching h
said_named s b (Message body) h slot version = h
said_named s b (Link i) h slot version = h
said_named s b (Unlink ids) h slot version = h
said_named s b (Signal.Exit r) h slot version = h
said_named s b (LinkExit ids r) h slot version = h
said_named s b (Signal.Down m r) h slot version = h
said_named s b (AliveAsk m) h slot version = h
said_named s b (AliveSay m y) h slot version = h

obeyed_named : (v : Verdict) (s : ProcessState) → AreNamed s.watching → AreNamed (obey v s).state.watching
obeyed_named drops s h = h
obeyed_named (queues item) s h = h
obeyed_named (ends r) s h = h

down_named : (t : Option Pid) (s : ProcessState) (from : Pid) (m : Ref) (r : Reason) → AreNamed s.watching → AreNamed (down t s from m r).state.watching
down_named None s from m r h = h
down_named (Some t) s from m r h = named_less (same_ref m) s.watching h

exit_named : (b : Bool) (me : Pid) (s : ProcessState) (from : Pid) (r : Reason) → AreNamed s.watching → AreNamed (link_exit b me s from r).state.watching
exit_named false me s from r h = h
exit_named true me s from r h = obeyed_named (verdict true s.traps (same_pid from me) from r) (record s { links = remove_entry (same_pid from) s.links }) h

handled_named : (me : Pid) (s : ProcessState) (from : Pid) (x : Signal) → AreNamed s.watching → AreNamed (handle me s from x).state.watching
handled_named me s from (Message b) h = h
handled_named me s from (Link i) h = h
handled_named me s from (Unlink ids) h = h
handled_named me s from (Signal.Exit r) h = obeyed_named (verdict false s.traps (same_pid from me) from r) s h
handled_named me s from (LinkExit ids r) h = exit_named (holds_any (held s.links from) ids) me s from r h
handled_named me s from (Monitor m) h = h
handled_named me s from (Demonitor m) h = h
handled_named me s from (Signal.Down m r) h = down_named (lookup (same_ref m) s.watching) s from m r h
handled_named me s from (AliveAsk m) h = h
handled_named me s from (AliveSay m y) h = h

linked_named : (q : Option Pid) (i : Option LinkId) (s : ProcessState) → AreNamed s.watching → AreNamed (linked q i s).watching
linked_named (Some q) (Some i) s h = h
linked_named (Some q) None s h = h
linked_named None i s h = h

change_named : (p : Pid) (e : Event) (f : Phase) → IsNodeSlot e → IsNodeVersion e → WatchesNamed f → WatchesNamed (change p e f)
change_named p (Born q parent link) f slot version h = go (same_pid p q) f h
  where
    go : (b : Bool) (f : Phase) → WatchesNamed f → WatchesNamed (cond b (newborn parent link f) (while_living (linked (Some q) link) f))
    go true unborn k = linked_named parent link fresh tt
    go true (living s) k = k
    go true (ended r s) k = tt
    go false unborn k = tt
    go false (living s) k = linked_named (Some q) link s k
    go false (ended r s) k = tt
change_named p (Said a b x) (living s) slot version h = said_named s b x h slot version
change_named p (Said a b x) unborn slot version h = tt
change_named p (Said a b x) (ended r s) slot version h = tt
change_named p (Came a b x) (living s) slot version h = go (handle p s a x).ending
  where
    go : (o : Option Reason) → WatchesNamed (live_or_end o (handle p s a x).state)
    go None = handled_named p s a x h
    go (Some r) = tt
change_named p (Came a b x) unborn slot version h = tt
change_named p (Came a b x) (ended r s) slot version h = tt
change_named p (Took q k i) (living s) slot version h = h
change_named p (Took q k i) unborn slot version h = tt
change_named p (Took q k i) (ended r s) slot version h = tt
change_named p (Flag q on) (living s) slot version h = h
change_named p (Flag q on) unborn slot version h = tt
change_named p (Flag q on) (ended r s) slot version h = tt
change_named p (Left q r) (living s) slot version h = tt
change_named p (Left q r) unborn slot version h = tt
change_named p (Left q r) (ended w s) slot version h = tt
change_named p (Refused a b) f slot version h = h

-- all events ------------------------------------------------------------------------------------------

watches_named : (low d : ℕ) (journal : Journals) (p : Pid) (j : List Stamped) → AllCalledHere low d journal j → WatchesNamed (life [] (events j) p)
watches_named low d journal p [] h = tt
watches_named low d journal p (s ∷ j) h = go (touches p s.event) (watches_named low d journal p j h.1)
  where
    go : (b : Bool) → WatchesNamed (life [] (events j) p) → WatchesNamed (cond b (change p s.event (life [] (events j) p)) (life [] (events j) p))
    go true k = change_named p s.event (life [] (events j) p) h.0.slot h.0.version k
    go false k = k

pub target_named : (d : ShardState) → d.start ≡ [] → (journal : Journals) → AllCalledHere d.config.start d.number journal d.journal → (p : Pid) (m : Ref) (t : Pid) → lives d p ≡ true
    → lookup (same_ref m) (state_in d p).watching ≡ Some t → (t.slot < MAX_SLOTS) × (0 < t.version)
target_named d fresh journal all p m t alive at =
    go (life [] (past d) p) (watches_named d.config.start d.number journal p d.journal all) (sym (ap (λ (z : Start). is_living (life z (past d) p)) fresh) ∙ alive) (sym (ap (λ (z : Start). lookup (same_ref m) (state_of (life z (past d) p)).watching) fresh) ∙ at)
  where
    go : (f : Phase) → WatchesNamed f → is_living f ≡ true → lookup (same_ref m) (state_of f).watching ≡ Some t → (t.slot < MAX_SLOTS) × (0 < t.version)
    go (living s) w l e = found_named m t s.watching w e
    go unborn w l e = absurd (cc)
    go (ended r s) w l e = absurd (cc)
