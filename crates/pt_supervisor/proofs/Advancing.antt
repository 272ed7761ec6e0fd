-- A supervisor starts the children that are due, and tells to exit those that are to go.
use Rattle.std.proofs.Common.{◌≡◌, ◌⊎◌, inl, inr, ℕ, zero, suc, ◌-◌, ◌^◌, Bool, true, false, cond, List, [], ◌∷◌, length, slice_get, slice_set, Option, Some, None, is_some, Result, Ok, Err, refl, sym, ap, subst, ◌∙◌}
use Rattle.std.specs.Prelude.{IfOk, MatchBool, is_ok, nat_lt}
use Rattle.std.specs.List.{find}
use Rattle.pt_signal.specs.declared.pid.Pid.{Pid}
use Rattle.pt_signal.specs.declared.ids.Ref.{Ref}
use Rattle.pt_signal.specs.declared.item.Item.{Item}
use Rattle.pt_signal.specs.declared.item.Pick.{Pick}
use Rattle.pt_signal.specs.declared.reason.Reason.{Reason}
use Rattle.pt_signal.specs.Values.{fits}
use Rattle.pt_signal.specs.Process.{ProcessState}
use Rattle.pt_events.specs.History.{Past, Phase, unborn, living, ended}
use Rattle.pt_shard.specs.declared.fault.Fault.{Fault}
use Rattle.pt_shard.specs.declared.fault.Fault.TheVariants.{Full, Memory, Worn, Gone, Myself, NoProc}
use Rattle.pt_shard.specs.ShardState.{ShardState, phase_of}
use Rattle.pt_shard.specs.Known.{knows}
use Rattle.pt_shard.specs.Calls.{BearsChild, new_link}
use Rattle.pt_desk.specs.DeskState.{DeskState}
use Rattle.pt_behaviour.specs.declared.behaviour.Next.{Next}
use Rattle.pt_behaviour.specs.declared.behaviour.Next.TheVariants.{Wait, WaitUntil}
use Rattle.pt_behaviour.specs.declared.births.Role.{Role}
use Rattle.pt_behaviour.specs.Births.{Bore}
use Rattle.pt_behaviour.specs.declared.call_fault.CallFault.{CallFault}
use Rattle.pt_behaviour.specs.declared.call_fault.CallFault.TheVariants.{Unknown}
use Rattle.pt_children.specs.declared.asked.Stage.{Stage}
use Rattle.pt_children.specs.declared.asked.Stage.TheVariants.{Watched, Waiting, Until, Killed}
use Rattle.pt_children.specs.declared.asked.Stage.TheVariants as far
use Rattle.pt_children.specs.declared.children.Child.{Child}
use Rattle.pt_children.specs.declared.children.Shutdown.{Shutdown}
use Rattle.pt_children.specs.declared.restart.Strategy.{Strategy}
use Rattle.pt_children.specs.Trying.{is_startable, unstarted_child}
use Rattle.pt_children.specs.Homes.{asked_child, is_here}
use Rattle.pt_children.specs.Ending.{bids, stage_of, stage_told}
use Rattle.pt_supervisor.specs.Ending.{next_behind, next_tried}
use Rattle.pt_children.specs.Hearing.{Standing, at_stage}
use Rattle.pt_supervisor.specs.Supervising.{EndsChild, TellsToEnd, WatchesChild, after_watching, StartsOf, Nursery, BearsAs, SpawnsChildAt, AsksProgramFor, TriesAt, StartsAt, StartsOne, StartsFirst, StartsUpTo, SupervisorScene, nursery, settled, SupervisorSettles, AdvancesAs, with_pid, with_one}
use Rattle.pt_supervisor.specs.Keeping.{IsReady}
use Rattle.pt_children.specs.Families.{AreAsked}
use Rattle.pt_children.proofs.Wanting.{first_rest}
use Rattle.pt_supervisor.proofs.Starting.{due_missing, missing_bare, unstarted_pid}
use Rattle.pt_supervisor.proofs.Ending.{ends_ready}
use Rattle.pt_supervisor.proofs.Changing.{SameLive, same_live, set_live}
use Rattle.pt_supervisor.proofs.Families.{Goes, goes_is, goes_then, Kept, kept_is, told_as, told_goes, told_kept, watched_as, watched_goes, watched_kept, born_goes, born_kept}
use Rattle.pt_supervisor.proofs.Asking.{ends_asks}

-- births ---------------------------------------------------------------------------------------

-- the same children live, and it stops where it did, or stops now
pub kept_alike : (past : Past) (me : Pid) (e : ShardState) (xs ys : List Child) (started : ℕ) (o p : Option Reason) → SameLive xs ys → (p ≡ None → o ≡ None) → Kept past xs started o me e → Kept past ys started p me e
kept_alike past me e xs ys started o p same stop k = record {
  state = k.state;
  living_is = k.living_is;
  traps = k.traps;
  family = record {
    born = λ place q is own. k.family.born (same.from place) q (same.sub place q is) own;
    apart = λ i j q a b. same.apart i j (k.family.apart (same.from i) (same.from j) q (same.sub i q a) (same.sub j q b));
    held = λ none place q is. k.family.held (stop none) (same.from place) q (same.sub place q is);
  };
  remembers = λ were q was. elim (k.remembers were q was) [
    | inl placed ↦ inl (same.kept placed.0 q placed.1)
    | inr told ↦ inr told
  ];
}

pub kept_set : (past : Past) (me : Pid) (e : ShardState) (children : List Child) (started place : ℕ) (stopping : Option Reason) (c v : Child) → slice_get children place ≡ Some c → v.pid ≡ c.pid → Kept past children started stopping me e
    → Kept past (slice_set children place v) started stopping me e
kept_set past me e children started place stopping c v at pid k = kept_alike past me e children (slice_set children place v) started stopping stopping (set_live children place c v at pid) (λ h. h) k

module _ {B : Type 0} (me : Pid) (b : B) (first : Next) where
  pub not_born : (f : Fault) (d e : ShardState) → BearsChild me true d (Err f) e ⊎ ((f ≡ Memory) × (e ≡ d)) → e ≡ d
  not_born f d e (inr h) = h.1
  not_born Gone d e (inl h) = h.1
  not_born Worn d e (inl h) = h.2
  not_born Full d e (inl h) = h.3
  not_born Memory d e (inl h) = h.3
  not_born Myself d e (inl h) = absurd h
  not_born NoProc d e (inl h) = absurd h

  bore_goes : (d e : ShardState) (wait waiting : List (Role B)) (result : Result Pid Fault) → Bore me true b first d wait result e waiting → Goes me d e
  bore_goes d e wait waiting (Ok p) h = born_goes me p d e (new_link d) h.2 (ap (λ (x : ShardState). x.start) h.0.1.2) (ap (λ (x : ShardState). x.journal) h.0.1.2)
  bore_goes d e wait waiting (Err f) h = goes_is me d e (not_born f d e h.0)

  bore_kept : (past : Past) (d e : ShardState) (wait waiting : List (Role B)) (result : Result Pid Fault) (children : List Child) (started place clock : ℕ) (c : Child) → slice_get children place ≡ Some c → c.pid ≡ None
      → IfOk result (λ p. p.shard ≡ me.shard) → Bore me true b first d wait result e waiting → Kept past children started None me d → Kept past (with_pid clock place c result children) (with_one result started) None me e
  bore_kept past d e wait waiting (Ok p) children started place clock c at missing near h k =
      born_kept me p d e (new_link d) h.2 (ap (λ (x : ShardState). x.start) h.0.1.2) (ap (λ (x : ShardState). x.journal) h.0.1.2) past children started (2 ^ 64 - 1) place c at missing near k
  bore_kept past d e wait waiting (Err f) children started place clock c at missing near h k =
      kept_set past me e children started place None c (unstarted_child clock f c) at (unstarted_pid clock f c) (kept_is past children started None me d e (not_born f d e h.0) k)

abbrev pub KeptIn : {S B : Type 0} → Past → Pid → Nursery S B → Type 0
KeptIn past me n = Kept past n.children n.started None me n.desk

module _ {S B : Type 0} (starts : StartsOf S B) (me : Pid) where
  bears_goes : (place : ℕ) (c : Child) (begins : Result (B × Next) Fault) (old new : Nursery S B) → BearsAs me place c begins old new → Goes me old.desk new.desk
  bears_goes place c (Err f) old new h = goes_is me old.desk new.desk h.1
  bears_goes place c (Ok (b, first)) old new h = bore_goes me b first old.desk new.desk old.born new.born h.0 h.1

  bears_kept : (past : Past) (place : ℕ) (c : Child) (begins : Result (B × Next) Fault) (old new : Nursery S B) → slice_get old.children place ≡ Some c → c.pid ≡ None → BearsAs me place c begins old new
      → KeptIn past me old → KeptIn past me new
  bears_kept past place c (Err f) old new at missing h k =
      subst (λ (n : ℕ). Kept past new.children n None me new.desk) (sym h.3)
      (subst (λ (xs : List Child). Kept past xs old.started None me new.desk) (sym h.0)
      (kept_set past me new.desk old.children old.started place None c (unstarted_child old.desk.clock f c) at (unstarted_pid old.desk.clock f c) (kept_is past old.children old.started None me old.desk new.desk h.1 k)))
  bears_kept past place c (Ok (b, first)) old new at missing h k =
      subst (λ (n : ℕ). Kept past new.children n None me new.desk) (sym h.3)
      (subst (λ (xs : List Child). Kept past xs (with_one h.0 old.started) None me new.desk) (sym h.2)
      (bore_kept me b first past old.desk new.desk old.born new.born h.0 old.children old.started place new.desk.clock c at missing h.4 h.1 k))

  tries_goes : (here : Bool) (place : ℕ) (c : Child) (old new : Nursery S B) → MatchBool here (SpawnsChildAt starts me place c old new) (AsksProgramFor place c old new) → Goes me old.desk new.desk
  tries_goes true place c old new h = bears_goes place c h.0 old new h.2
  tries_goes false place c old new h = goes_is me old.desk new.desk (ap (λ (n : Nursery S B). n.desk) h)

  tries_kept : (past : Past) (here : Bool) (place : ℕ) (c : Child) (old new : Nursery S B) → slice_get old.children place ≡ Some c → c.pid ≡ None → MatchBool here (SpawnsChildAt starts me place c old new) (AsksProgramFor place c old new)
      → KeptIn past me old → KeptIn past me new
  tries_kept past true place c old new at missing h k = bears_kept past place c h.0 old new at missing h.2 k
  tries_kept past false place c old new at missing h k = subst (KeptIn past me) (sym h) (kept_set past me old.desk old.children old.started place None c (asked_child c) at refl k)

  due_goes : (due : Bool) (place : ℕ) (c : Child) (old new : Nursery S B) → MatchBool due (TriesAt starts me place c old new) (new ≡ old) → Goes me old.desk new.desk
  due_goes true place c old new h = tries_goes (is_here c.home) place c old new h
  due_goes false place c old new h = goes_is me old.desk new.desk (ap (λ (n : Nursery S B). n.desk) h)

  due_kept : (past : Past) (due : Bool) (place : ℕ) (c : Child) (old new : Nursery S B) → slice_get old.children place ≡ Some c → is_startable c ≡ due → MatchBool due (TriesAt starts me place c old new) (new ≡ old)
      → KeptIn past me old → KeptIn past me new
  due_kept past true place c old new at due h k = tries_kept past (is_here c.home) place c old new at (missing_bare c (due_missing c due)) h k
  due_kept past false place c old new at due h k = subst (KeptIn past me) (sym h) k

  module _ (strategy : Strategy) where
    at_goes : (place : ℕ) (o : Option Child) (old new : Nursery S B) (answer : Bool) → StartsAt starts me strategy place o old answer new → Goes me old.desk new.desk
    at_goes place None old new answer h = absurd h
    at_goes place (Some c) old new answer h = due_goes (is_startable c) place c old new h.1

    at_kept : (past : Past) (place : ℕ) (o : Option Child) (old new : Nursery S B) (answer : Bool) → slice_get old.children place ≡ o → StartsAt starts me strategy place o old answer new → KeptIn past me old → KeptIn past me new
    at_kept past place None old new answer at h k = absurd h
    at_kept past place (Some c) old new answer at h k = due_kept past (is_startable c) place c old new at refl h.1 k

    one_goes : (place : ℕ) (old new : Nursery S B) (answer : Bool) → StartsOne starts me strategy place old answer new → Goes me old.desk new.desk
    one_goes place old new answer h = at_goes place (slice_get old.children place) old new answer h

    one_kept : (past : Past) (place : ℕ) (old new : Nursery S B) (answer : Bool) → StartsOne starts me strategy place old answer new → KeptIn past me old → KeptIn past me new
    one_kept past place old new answer h k = at_kept past place (slice_get old.children place) old new answer refl h k

    first_goes : (n : ℕ) (old new : Nursery S B) → StartsFirst starts me strategy n old new → Goes me old.desk new.desk
    first_goes zero old new h = goes_is me old.desk new.desk (ap (λ (x : Nursery S B). x.desk) h)
    first_goes (suc n) old new h = goes_then me old.desk h.0.desk new.desk (first_goes n old h.0 h.1) (one_goes n h.0 new true h.2)

    first_kept : (past : Past) (n : ℕ) (old new : Nursery S B) → StartsFirst starts me strategy n old new → KeptIn past me old → KeptIn past me new
    first_kept past zero old new h k = subst (KeptIn past me) (sym h) k
    first_kept past (suc n) old new h k = one_kept past n h.0 new true h.2 (first_kept past n old h.0 h.1 k)

    all_goes : (count : ℕ) (old new : Nursery S B) (through : Bool) → StartsUpTo starts me strategy count old through new → Goes me old.desk new.desk
    all_goes count old new true h = first_goes count old new h
    all_goes count old new false h = goes_then me old.desk h.2.desk new.desk (first_goes h.0 old h.2 h.3) (one_goes h.0 h.2 new false h.4)

    all_kept : (past : Past) (count : ℕ) (old new : Nursery S B) (through : Bool) → StartsUpTo starts me strategy count old through new → KeptIn past me old → KeptIn past me new
    all_kept past count old new true h k = first_kept past count old new h k
    all_kept past count old new false h k = one_kept past h.0 h.2 new false h.4 (first_kept past h.0 old h.2 h.3 k)

-- what it does once it has heard --------------------------------------------------------------------

abbrev pub KeptAt : {S B : Type 0} → Past → Pid → SupervisorScene S B → Type 0
KeptAt past me s = Kept past s.standing.children s.standing.started s.standing.stopping me s.desk.shard

settled_asked : (answer : Bool) (s : Standing) → (settled answer s).asked ≡ s.asked
settled_asked true s = refl
settled_asked false s = (first_rest s).1

module _ {S B : Type 0} (starts : StartsOf S B) (me : Pid) where
  settles_goes : (stopping : Option Reason) (old : SupervisorScene S B) (next : Next) (new : SupervisorScene S B) → SupervisorSettles starts me stopping old next new → Goes me old.desk.shard new.desk.shard
  settles_goes (Some r) old next new h = goes_is me old.desk.shard new.desk.shard (ap (λ (x : SupervisorScene S B). x.desk.shard) h.1)
  settles_goes None old next new h = all_goes starts me old.standing.strategy (length old.standing.children) (nursery old) (nursery new) h.1.0 h.1.1

  settles_kept : (past : Past) (stopping : Option Reason) (old : SupervisorScene S B) (next : Next) (new : SupervisorScene S B) → old.standing.stopping ≡ stopping → SupervisorSettles starts me stopping old next new → KeptAt past me old → KeptAt past me new
  settles_kept past (Some r) old next new is h k = subst (KeptAt past me) (sym h.1) k
  settles_kept past None old next new is h k =
      kept_alike past me new.desk.shard new.standing.children new.standing.children new.standing.started None new.standing.stopping (same_live new.standing.children) (λ none. refl)
      (all_kept starts me old.standing.strategy past (length old.standing.children) (nursery old) (nursery new) h.1.0 h.1.1
      (subst (λ (o : Option Reason). Kept past old.standing.children old.standing.started o me old.desk.shard) is k))

  tells_goes : (p : Pid) (reason : Reason) (stage : Stage) (s : Standing) (d : DeskState) (next : Next) (t : Standing) (e : DeskState) → TellsToEnd me p reason stage s d next t e → Goes me d.shard e.shard
  tells_goes p reason stage s d next t e h = told_goes me p reason d.shard e.shard h.result (told_as me p reason (knows d.shard p) d e h.result h.signal)

  tells_kept : (past : Past) (children : List Child) (started : ℕ) (stopping : Option Reason) (p : Pid) (reason : Reason) (stage : Stage) (s : Standing) (d : DeskState) (next : Next) (t : Standing) (e : DeskState) → TellsToEnd me p reason stage s d next t e
      → Kept past children started stopping me d.shard → Kept past children started stopping me e.shard
  tells_kept past children started stopping p reason stage s d next t e h k =
      told_kept me p reason past children started stopping d.shard e.shard h.result (told_as me p reason (knows d.shard p) d e h.result h.signal) k

  tells_rest : (p : Pid) (reason : Reason) (stage : Stage) (s : Standing) (d : DeskState) (next : Next) (t : Standing) (e : DeskState) → TellsToEnd me p reason stage s d next t e → t ≡ record s { asked = t.asked }
  tells_rest p reason stage s d next t e h = subst (λ (x : Standing). x ≡ record s { asked = x.asked }) (sym h.new_is) (go (is_ok h.result))
    where
      go : (ok : Bool) → cond ok (at_stage p stage s) s ≡ record s { asked = (cond ok (at_stage p stage s) s).asked }
      go true = refl
      go false = refl

  same_desk : (d e : DeskState) → e ≡ d → Goes me d.shard e.shard
  same_desk d e is = goes_is me d.shard e.shard (ap (λ (x : DeskState). x.shard) is)

  as_it_was : (s t : Standing) → t ≡ s → t ≡ record s { asked = t.asked }
  as_it_was s t is = subst (λ (x : Standing). x ≡ record s { asked = x.asked }) (sym is) refl

  after_goes : (now : ℕ) (p : Pid) (shutdown : Shutdown) (result : Result Ref CallFault) (s : Standing) (mid : DeskState) (next : Next) (t : Standing) (e : DeskState) → after_watching me now p shutdown result s mid next t e → Goes me mid.shard e.shard
  after_goes now p shutdown (Ok m) s mid next t e h = tells_goes p (bids shutdown) (stage_told shutdown m now) (at_stage p (Watched m) s) mid next t e h
  after_goes now p shutdown (Err (CallFault.Refused NoProc)) s mid next t e h = same_desk mid e h.2
  after_goes now p shutdown (Err (CallFault.Refused Gone)) s mid next t e h = same_desk mid e h.2
  after_goes now p shutdown (Err (CallFault.Refused Worn)) s mid next t e h = same_desk mid e h.2
  after_goes now p shutdown (Err (CallFault.Refused Memory)) s mid next t e h = same_desk mid e h.2
  after_goes now p shutdown (Err (CallFault.Refused Full)) s mid next t e h = same_desk mid e h.2
  after_goes now p shutdown (Err (CallFault.Refused Myself)) s mid next t e h = same_desk mid e h.2
  after_goes now p shutdown (Err Unknown) s mid next t e h = same_desk mid e h.2

  after_kept : (past : Past) (children : List Child) (started : ℕ) (stopping : Option Reason) (now : ℕ) (p : Pid) (shutdown : Shutdown) (result : Result Ref CallFault) (s : Standing) (mid : DeskState) (next : Next) (t : Standing) (e : DeskState)
      → after_watching me now p shutdown result s mid next t e → Kept past children started stopping me mid.shard → Kept past children started stopping me e.shard
  after_kept past children started stopping now p shutdown (Ok m) s mid next t e h k = tells_kept past children started stopping p (bids shutdown) (stage_told shutdown m now) (at_stage p (Watched m) s) mid next t e h k
  after_kept past children started stopping now p shutdown (Err (CallFault.Refused NoProc)) s mid next t e h k = kept_is past children started stopping me mid.shard e.shard (ap (λ (x : DeskState). x.shard) h.2) k
  after_kept past children started stopping now p shutdown (Err (CallFault.Refused Gone)) s mid next t e h k = kept_is past children started stopping me mid.shard e.shard (ap (λ (x : DeskState). x.shard) h.2) k
  after_kept past children started stopping now p shutdown (Err (CallFault.Refused Worn)) s mid next t e h k = kept_is past children started stopping me mid.shard e.shard (ap (λ (x : DeskState). x.shard) h.2) k
  after_kept past children started stopping now p shutdown (Err (CallFault.Refused Memory)) s mid next t e h k = kept_is past children started stopping me mid.shard e.shard (ap (λ (x : DeskState). x.shard) h.2) k
  after_kept past children started stopping now p shutdown (Err (CallFault.Refused Full)) s mid next t e h k = kept_is past children started stopping me mid.shard e.shard (ap (λ (x : DeskState). x.shard) h.2) k
  after_kept past children started stopping now p shutdown (Err (CallFault.Refused Myself)) s mid next t e h k = kept_is past children started stopping me mid.shard e.shard (ap (λ (x : DeskState). x.shard) h.2) k
  after_kept past children started stopping now p shutdown (Err Unknown) s mid next t e h k = kept_is past children started stopping me mid.shard e.shard (ap (λ (x : DeskState). x.shard) h.2) k

  after_rest : (now : ℕ) (p : Pid) (shutdown : Shutdown) (result : Result Ref CallFault) (s : Standing) (mid : DeskState) (next : Next) (t : Standing) (e : DeskState) → after_watching me now p shutdown result s mid next t e → t ≡ record s { asked = t.asked }
  after_rest now p shutdown (Ok m) s mid next t e h = tells_rest p (bids shutdown) (stage_told shutdown m now) (at_stage p (Watched m) s) mid next t e h
  after_rest now p shutdown (Err (CallFault.Refused NoProc)) s mid next t e h = subst (λ (x : Standing). x ≡ record s { asked = x.asked }) (sym h.1) refl
  after_rest now p shutdown (Err (CallFault.Refused Gone)) s mid next t e h = as_it_was s t h.1
  after_rest now p shutdown (Err (CallFault.Refused Worn)) s mid next t e h = as_it_was s t h.1
  after_rest now p shutdown (Err (CallFault.Refused Memory)) s mid next t e h = as_it_was s t h.1
  after_rest now p shutdown (Err (CallFault.Refused Full)) s mid next t e h = as_it_was s t h.1
  after_rest now p shutdown (Err (CallFault.Refused Myself)) s mid next t e h = as_it_was s t h.1
  after_rest now p shutdown (Err Unknown) s mid next t e h = as_it_was s t h.1

  module _ (now : ℕ) (p : Pid) (shutdown : Shutdown) (s : Standing) (d : DeskState) (next : Next) (t : Standing) (e : DeskState) where
    watches_goes : WatchesChild me now p shutdown s d next t e → Goes me d.shard e.shard
    watches_goes h =
        goes_then me d.shard h.mid.shard e.shard (watched_goes me p d.shard h.mid.shard h.result (watched_as me p (knows d.shard p) d h.mid h.result h.monitor))
        (after_goes now p shutdown h.result s h.mid next t e h.goes)

    over_goes : (early : Bool) (m : Ref) (at : ℕ) → MatchBool early ((next ≡ WaitUntil (Pick.DownOf m) at) × (t ≡ s) × (e ≡ d)) (TellsToEnd me p Reason.Kill (Killed m) s d next t e) → Goes me d.shard e.shard
    over_goes true m at h = same_desk d e h.2
    over_goes false m at h = tells_goes p Reason.Kill (Killed m) s d next t e h

    pub ends_goes : (stage : Option Stage) → EndsChild me now p shutdown stage s d next t e → Goes me d.shard e.shard
    ends_goes None h = watches_goes h
    ends_goes (Some far.Gone) h = watches_goes h
    ends_goes (Some (Watched m)) h = tells_goes p (bids shutdown) (stage_told shutdown m now) s d next t e h
    ends_goes (Some (Waiting m)) h = tells_goes p (bids shutdown) (stage_told shutdown m now) s d next t e h
    ends_goes (Some (Until m at)) h = over_goes (nat_lt now at) m at h
    ends_goes (Some (Killed m)) h = tells_goes p Reason.Kill (Killed m) s d next t e h

    over_rest : (early : Bool) (m : Ref) (at : ℕ) → MatchBool early ((next ≡ WaitUntil (Pick.DownOf m) at) × (t ≡ s) × (e ≡ d)) (TellsToEnd me p Reason.Kill (Killed m) s d next t e) → t ≡ record s { asked = t.asked }
    over_rest true m at h = as_it_was s t h.1
    over_rest false m at h = tells_rest p Reason.Kill (Killed m) s d next t e h

    -- nothing of it changes but how far it has come
    pub ends_rest : (stage : Option Stage) → EndsChild me now p shutdown stage s d next t e → t ≡ record s { asked = t.asked }
    ends_rest None h = after_rest now p shutdown h.result s h.mid next t e h.goes
    ends_rest (Some far.Gone) h = after_rest now p shutdown h.result s h.mid next t e h.goes
    ends_rest (Some (Watched m)) h = tells_rest p (bids shutdown) (stage_told shutdown m now) s d next t e h
    ends_rest (Some (Waiting m)) h = tells_rest p (bids shutdown) (stage_told shutdown m now) s d next t e h
    ends_rest (Some (Until m at)) h = over_rest (nat_lt now at) m at h
    ends_rest (Some (Killed m)) h = tells_rest p Reason.Kill (Killed m) s d next t e h

    module _ (past : Past) (children : List Child) (started : ℕ) (stopping : Option Reason) where
      watches_kept : WatchesChild me now p shutdown s d next t e → Kept past children started stopping me d.shard → Kept past children started stopping me e.shard
      watches_kept h k =
          after_kept past children started stopping now p shutdown h.result s h.mid next t e h.goes
          (watched_kept me p past children started stopping d.shard h.mid.shard h.result (watched_as me p (knows d.shard p) d h.mid h.result h.monitor) k)

      over_kept : (early : Bool) (m : Ref) (at : ℕ) → MatchBool early ((next ≡ WaitUntil (Pick.DownOf m) at) × (t ≡ s) × (e ≡ d)) (TellsToEnd me p Reason.Kill (Killed m) s d next t e)
          → Kept past children started stopping me d.shard → Kept past children started stopping me e.shard
      over_kept true m at h k = kept_is past children started stopping me d.shard e.shard (ap (λ (x : DeskState). x.shard) h.2) k
      over_kept false m at h k = tells_kept past children started stopping p Reason.Kill (Killed m) s d next t e h k

      pub ends_kept : (stage : Option Stage) → EndsChild me now p shutdown stage s d next t e → Kept past children started stopping me d.shard → Kept past children started stopping me e.shard
      ends_kept None h k = watches_kept h k
      ends_kept (Some far.Gone) h k = watches_kept h k
      ends_kept (Some (Watched m)) h k = tells_kept past children started stopping p (bids shutdown) (stage_told shutdown m now) s d next t e h k
      ends_kept (Some (Waiting m)) h k = tells_kept past children started stopping p (bids shutdown) (stage_told shutdown m now) s d next t e h k
      ends_kept (Some (Until m at)) h k = over_kept (nat_lt now at) m at h k
      ends_kept (Some (Killed m)) h k = tells_kept past children started stopping p Reason.Kill (Killed m) s d next t e h k

  pub advances_goes : (now : ℕ) (last : Option (Pid × Shutdown)) (old : SupervisorScene S B) (next : Next) (new : SupervisorScene S B) → AdvancesAs starts me now last old next new → Goes me old.desk.shard new.desk.shard
  advances_goes now (Some (p, shutdown)) old next new h = ends_goes now p shutdown old.standing old.desk next new.standing new.desk (stage_of old.standing.asked p) h.0
  advances_goes now None old next new h = settles_goes old.standing.stopping old next new h

  pub advances_kept : (past : Past) (now : ℕ) (last : Option (Pid × Shutdown)) (old : SupervisorScene S B) (next : Next) (new : SupervisorScene S B) → AdvancesAs starts me now last old next new → KeptAt past me old → KeptAt past me new
  advances_kept past now (Some (p, shutdown)) old next new h k =
      subst (λ (x : Standing). Kept past x.children x.started x.stopping me new.desk.shard) (sym (ends_rest now p shutdown old.standing old.desk next new.standing new.desk (stage_of old.standing.asked p) h.0))
      (ends_kept now p shutdown old.standing old.desk next new.standing new.desk past old.standing.children old.standing.started old.standing.stopping (stage_of old.standing.asked p) h.0 k)
  advances_kept past now None old next new h k = settles_kept past old.standing.stopping old next new refl h k

  settles_asks : (past : Past) (stopping : Option Reason) (old : SupervisorScene S B) (next : Next) (new : SupervisorScene S B) → SupervisorSettles starts me stopping old next new
      → AreAsked past old.standing.children old.standing.asked me old.desk.shard → AreAsked past new.standing.children new.standing.asked me new.desk.shard
  settles_asks past (Some r) old next new h asks = subst (λ (x : SupervisorScene S B). AreAsked past x.standing.children x.standing.asked me x.desk.shard) (sym h.1) asks
  settles_asks past None old next new h asks = λ a is placed. absurd (let bad : None ≡ Some a = sym (ap (λ (s : Standing). s.asked) h.3 ∙ settled_asked h.0 _) ∙ is in cc)

  -- where it takes an item, or goes on without one, there is one
  behind_ready : (items : List Item) (st : ProcessState) → st.waiting ≡ items → IsReady (next_behind items) (living st)
  behind_ready [] st is = tt
  behind_ready (i ∷ items) st is = subst (λ (xs : List Item). is_some (find (fits Pick.Any) xs) ≡ true) (sym is) refl

  tried_ready : (f : Phase) → IsReady (next_tried f) f
  tried_ready unborn = tt
  tried_ready (living st) = behind_ready st.waiting st refl
  tried_ready (ended r st) = tt

  settles_ready : (stopping : Option Reason) (old : SupervisorScene S B) (next : Next) (new : SupervisorScene S B) → SupervisorSettles starts me stopping old next new → IsReady next (phase_of new.desk.shard me)
  settles_ready (Some r) old next new h = subst (λ (n : Next). IsReady n (phase_of new.desk.shard me)) (sym h.0) tt
  settles_ready None old next new h = subst (λ (n : Next). IsReady n (phase_of new.desk.shard me)) (sym h.2) (go h.0)
    where
      go : (answer : Bool) → IsReady (cond answer (Wait Pick.Any) (next_tried (phase_of new.desk.shard me))) (phase_of new.desk.shard me)
      go true = tt
      go false = tried_ready (phase_of new.desk.shard me)

  pub advances_ready : (now : ℕ) (last : Option (Pid × Shutdown)) (old : SupervisorScene S B) (next : Next) (new : SupervisorScene S B) → AdvancesAs starts me now last old next new → IsReady next (phase_of new.desk.shard me)
  advances_ready now (Some (p, shutdown)) old next new h = ends_ready me p shutdown now next (phase_of new.desk.shard me) (stage_of old.standing.asked p) old.standing old.desk new.standing new.desk h.0
  advances_ready now None old next new h = settles_ready old.standing.stopping old next new h

  pub advances_asks : (past : Past) (now : ℕ) (last : Option (Pid × Shutdown)) (old : SupervisorScene S B) (next : Next) (new : SupervisorScene S B) → AdvancesAs starts me now last old next new → KeptAt past me old
      → AreAsked past old.standing.children old.standing.asked me old.desk.shard → AreAsked past new.standing.children new.standing.asked me new.desk.shard
  advances_asks past now (Some (p, shutdown)) old next new h k asks =
      subst (λ (xs : List Child). AreAsked past xs new.standing.asked me new.desk.shard) (sym (ap (λ (s : Standing). s.children) (ends_rest now p shutdown old.standing old.desk next new.standing new.desk (stage_of old.standing.asked p) h.0)))
      (ends_asks past me p now shutdown old.standing old.desk next new.standing new.desk k.state k.living_is asks (stage_of old.standing.asked p) refl h.0)
  advances_asks past now None old next new h k asks = settles_asks past old.standing.stopping old next new h asks
