-- A supervisor counts each child that it bears.
use Rattle.std.proofs.Common.{◌≡◌, ℕ, zero, suc, ◌+◌, ◌-◌, ◌^◌, min, Bool, true, false, cond, List, [], ◌∷◌, ◌++◌, length, slice_get, Option, Some, None, Result, Ok, Err, append_assoc, refl, sym, ap, subst, ◌∙◌}
use Rattle.std.specs.Prelude.{MatchBool, nat_lt}
use Rattle.pt_signal.specs.declared.pid.Pid.{Pid}
use Rattle.pt_signal.specs.declared.ids.Ref.{Ref}
use Rattle.pt_signal.specs.declared.item.Item.{Item}
use Rattle.pt_signal.specs.declared.item.Item.TheVariants.{User, Exit, Down, Alive}
use Rattle.pt_signal.specs.declared.item.Pick.{Pick}
use Rattle.pt_signal.specs.declared.reason.Reason.{Reason}
use Rattle.pt_signal.proofs.Same.{same_pid_refl}
use Rattle.pt_events.specs.declared.event.Event.TheVariants.{Flag}
use Rattle.pt_shard.specs.declared.fault.Fault.{Fault}
use Rattle.pt_shard.specs.declared.fault.Fault.TheVariants.{Full, Memory, Worn, Gone, Myself, NoProc}
use Rattle.pt_shard.specs.ShardState.{ShardState, state_in}
use Rattle.pt_shard.specs.Known.{knows}
use Rattle.pt_shard.specs.Calls.{Calls}
use Rattle.pt_desk.specs.DeskState.{DeskState}
use Rattle.pt_behaviour.specs.declared.behaviour.Next.{Next}
use Rattle.pt_behaviour.specs.declared.behaviour.Next.TheVariants.{WaitUntil}
use Rattle.pt_behaviour.specs.declared.births.Role.{Role}
use Rattle.pt_behaviour.specs.declared.call_fault.CallFault.{CallFault}
use Rattle.pt_behaviour.specs.declared.call_fault.CallFault.TheVariants.{Unknown}
use Rattle.pt_behaviour.specs.Births.{Bore}
use Rattle.pt_behaviour.specs.Upholding.{children_by}
use Rattle.pt_children.specs.declared.asked.Stage.{Stage}
use Rattle.pt_children.specs.declared.asked.Stage.TheVariants.{Watched, Waiting, Until, Killed}
use Rattle.pt_children.specs.declared.asked.Stage.TheVariants as far
use Rattle.pt_children.specs.declared.children.Child.{Child}
use Rattle.pt_children.specs.declared.children.Shutdown.{Shutdown}
use Rattle.pt_children.specs.declared.restart.Strategy.{Strategy}
use Rattle.pt_children.specs.Children.{last_alive}
use Rattle.pt_children.specs.Homes.{is_here, place_coming}
use Rattle.pt_children.specs.Trying.{is_startable}
use Rattle.pt_children.specs.Ending.{bids, gone_in, stage_of, stage_told}
use Rattle.pt_children.specs.Hearing.{Standing, at_stage, monitor_closed, gone_heard, gone_on, heard, heard_gone}
use Rattle.pt_children.specs.Limits.{moment}
use Rattle.pt_supervisor.specs.Supervising.{CountsBirths, counted_with, EndsChild, TellsToEnd, WatchesChild, after_watching, StartsOf, Nursery, BearsAs, SpawnsChildAt, AsksProgramFor, TriesAt, StartsAt, StartsOne, StartsFirst, StartsUpTo, SupervisorScene, nursery, SupervisorSettles, AdvancesAs, SupervisorAttends, SupervisorHandles, with_one, GoesForward, after_attending}
use Rattle.pt_supervisor.proofs.Families.{ToldAs, told_as, watched_as, watched_bare}
use Rattle.pt_children.proofs.Hearing.{heard_count}
use Rattle.pt_supervisor.proofs.Changing.{again_same}
use Rattle.pt_supervisor.proofs.Joining.{meets_bare}
use Rattle.pt_supervisor.proofs.Advancing.{ends_rest, not_born}

more_then : (xs ys : List Pid) (n : ℕ) → counted_with (xs ++ ys) n ≡ counted_with xs (counted_with ys n)
more_then [] ys n = refl
more_then (p ∷ xs) ys n = ap (λ (k : ℕ). min (k + 1) (2 ^ 64 - 1)) (more_then xs ys n)

module _ (me : Pid) where
  -- where nobody is born
  counts_none : (old : ℕ) (d : ShardState) (new : ℕ) (e : ShardState) → children_by me e.journal ≡ children_by me d.journal → new ≡ old → CountsBirths me old d new e
  counts_none old d new e bare same = record { more = []; borne = bare; counted = same }

  counts_is : (old : ℕ) (d : ShardState) (new : ℕ) (e : ShardState) → e ≡ d → new ≡ old → CountsBirths me old d new e
  counts_is old d new e is same = counts_none old d new e (ap (λ (f : ShardState). children_by me f.journal) is) same

  counts_then : (old : ℕ) (d : ShardState) (mid : ℕ) (f : ShardState) (new : ℕ) (e : ShardState) → CountsBirths me old d mid f → CountsBirths me mid f new e → CountsBirths me old d new e
  counts_then old d mid f new e a b = record {
    more = b.more ++ a.more;
    borne = b.borne ∙ ap (λ (qs : List Pid). b.more ++ qs) a.borne ∙ sym (append_assoc b.more a.more (children_by me d.journal));
    counted = b.counted ∙ ap (counted_with b.more) a.counted ∙ sym (more_then b.more a.more old);
  }

  -- children that are started -----------------------------------------------------------------------

  module _ {S B : Type 0} (starts : StartsOf S B) where
    abbrev Counts : Nursery S B → Nursery S B → Type 0
    Counts old new = CountsBirths me old.started old.desk new.started new.desk

    same_counts : (old new : Nursery S B) → new ≡ old → Counts old new
    same_counts old new is = counts_is old.started old.desk new.started new.desk (ap (λ (n : Nursery S B). n.desk) is) (ap (λ (n : Nursery S B). n.started) is)

    bore_counts : (b : B) (first : Next) (d e : ShardState) (wait waiting : List (Role B)) (result : Result Pid Fault) (old : ℕ) → Bore me true b first d wait result e waiting → CountsBirths me old d (with_one result old) e
    bore_counts b first d e wait waiting (Ok p) old h = record {
      more = p ∷ [];
      borne = ap (λ (f : ShardState). children_by me f.journal) h.0.1.2 ∙ ap (λ (t : Bool). cond t (p ∷ []) [] ++ children_by me d.journal) (same_pid_refl me);
      counted = refl;
    }
    bore_counts b first d e wait waiting (Err f) old h = counts_is old d old e (not_born me b first f d e h.0) refl

    bears_counts : (place : ℕ) (c : Child) (begins : Result (B × Next) Fault) (old new : Nursery S B) → BearsAs me place c begins old new → Counts old new
    bears_counts place c (Err f) old new h = counts_is old.started old.desk new.started new.desk h.1 h.3
    bears_counts place c (Ok (b, first)) old new h =
        subst (λ (n : ℕ). CountsBirths me old.started old.desk n new.desk) (sym h.3) (bore_counts b first old.desk new.desk old.born new.born h.0 old.started h.1)

    tries_counts : (here : Bool) (place : ℕ) (c : Child) (old new : Nursery S B) → MatchBool here (SpawnsChildAt starts me place c old new) (AsksProgramFor place c old new) → Counts old new
    tries_counts true place c old new h = bears_counts place c h.0 old new h.2
    tries_counts false place c old new h = counts_is old.started old.desk new.started new.desk (ap (λ (n : Nursery S B). n.desk) h) (ap (λ (n : Nursery S B). n.started) h)

    due_counts : (due : Bool) (place : ℕ) (c : Child) (old new : Nursery S B) → MatchBool due (TriesAt starts me place c old new) (new ≡ old) → Counts old new
    due_counts true place c old new h = tries_counts (is_here c.home) place c old new h
    due_counts false place c old new h = same_counts old new h

    module _ (strategy : Strategy) where
      at_counts : (place : ℕ) (o : Option Child) (old new : Nursery S B) (answer : Bool) → StartsAt starts me strategy place o old answer new → Counts old new
      at_counts place None old new answer h = absurd h
      at_counts place (Some c) old new answer h = due_counts (is_startable c) place c old new h.1

      one_counts : (place : ℕ) (old new : Nursery S B) (answer : Bool) → StartsOne starts me strategy place old answer new → Counts old new
      one_counts place old new answer h = at_counts place (slice_get old.children place) old new answer h

      first_counts : (n : ℕ) (old new : Nursery S B) → StartsFirst starts me strategy n old new → Counts old new
      first_counts zero old new h = same_counts old new h
      first_counts (suc n) old new h = counts_then old.started old.desk h.0.started h.0.desk new.started new.desk (first_counts n old h.0 h.1) (one_counts n h.0 new true h.2)

      all_counts : (count : ℕ) (old new : Nursery S B) (through : Bool) → StartsUpTo starts me strategy count old through new → Counts old new
      all_counts count old new true h = first_counts count old new h
      all_counts count old new false h = counts_then old.started old.desk h.2.started h.2.desk new.started new.desk (first_counts h.0 old h.2 h.3) (one_counts h.0 h.2 new false h.4)

  -- one that is ended -----------------------------------------------------------------------------------

  module _ (p : Pid) where
    told_bare : (reason : Reason) (d e : ShardState) (result : Result (Unit {0}) CallFault) → ToldAs me p reason d e result → children_by me e.journal ≡ children_by me d.journal
    told_bare reason d e (Ok x) h = ap (λ (f : ShardState). children_by me f.journal) h
    told_bare reason d e (Err f) h = ap (λ (f : ShardState). children_by me f.journal) h

    tells_bare : (reason : Reason) (stage : Stage) (s : Standing) (d : DeskState) (next : Next) (t : Standing) (e : DeskState) → TellsToEnd me p reason stage s d next t e → children_by me e.shard.journal ≡ children_by me d.shard.journal
    tells_bare reason stage s d next t e h = told_bare reason d.shard e.shard h.result (told_as me p reason (knows d.shard p) d e h.result h.signal)

    same_bare : (d e : DeskState) → e ≡ d → children_by me e.shard.journal ≡ children_by me d.shard.journal
    same_bare d e is = ap (λ (x : DeskState). children_by me x.shard.journal) is

    after_bare : (now : ℕ) (shutdown : Shutdown) (result : Result Ref CallFault) (s : Standing) (mid : DeskState) (next : Next) (t : Standing) (e : DeskState) → after_watching me now p shutdown result s mid next t e → children_by me e.shard.journal ≡ children_by me mid.shard.journal
    after_bare now shutdown (Ok m) s mid next t e h = tells_bare (bids shutdown) (stage_told shutdown m now) (at_stage p (Watched m) s) mid next t e h
    after_bare now shutdown (Err (CallFault.Refused NoProc)) s mid next t e h = same_bare mid e h.2
    after_bare now shutdown (Err (CallFault.Refused Gone)) s mid next t e h = same_bare mid e h.2
    after_bare now shutdown (Err (CallFault.Refused Worn)) s mid next t e h = same_bare mid e h.2
    after_bare now shutdown (Err (CallFault.Refused Memory)) s mid next t e h = same_bare mid e h.2
    after_bare now shutdown (Err (CallFault.Refused Full)) s mid next t e h = same_bare mid e h.2
    after_bare now shutdown (Err (CallFault.Refused Myself)) s mid next t e h = same_bare mid e h.2
    after_bare now shutdown (Err Unknown) s mid next t e h = same_bare mid e h.2

    module _ (now : ℕ) (shutdown : Shutdown) (s : Standing) (d : DeskState) (next : Next) (t : Standing) (e : DeskState) where
      abbrev Bare : Type 0
      Bare = children_by me e.shard.journal ≡ children_by me d.shard.journal

      watches_bare : WatchesChild me now p shutdown s d next t e → Bare
      watches_bare h = after_bare now shutdown h.result s h.mid next t e h.goes ∙ watched_bare me p d.shard h.mid.shard h.result (watched_as me p (knows d.shard p) d h.mid h.result h.monitor)

      over_bare : (early : Bool) (m : Ref) (at : ℕ) → MatchBool early ((next ≡ WaitUntil (Pick.DownOf m) at) × (t ≡ s) × (e ≡ d)) (TellsToEnd me p Reason.Kill (Killed m) s d next t e) → Bare
      over_bare true m at h = same_bare d e h.2
      over_bare false m at h = tells_bare Reason.Kill (Killed m) s d next t e h

      ends_bare : (stage : Option Stage) → EndsChild me now p shutdown stage s d next t e → Bare
      ends_bare None h = watches_bare h
      ends_bare (Some far.Gone) h = watches_bare h
      ends_bare (Some (Watched m)) h = tells_bare (bids shutdown) (stage_told shutdown m now) s d next t e h
      ends_bare (Some (Waiting m)) h = tells_bare (bids shutdown) (stage_told shutdown m now) s d next t e h
      ends_bare (Some (Until m at)) h = over_bare (nat_lt now at) m at h
      ends_bare (Some (Killed m)) h = tells_bare Reason.Kill (Killed m) s d next t e h

  -- what it makes of an item ------------------------------------------------------------------------------

  flag_bare : (on : Bool) (d e : ShardState) (result : Result Bool Fault) → Calls me (Some (Flag me true)) on d result e → children_by me e.journal ≡ children_by me d.journal
  flag_bare on d e (Ok x) c = ap (λ (f : ShardState). children_by me f.journal) c.3
  flag_bare on d e (Err Gone) c = ap (λ (f : ShardState). children_by me f.journal) c.1
  flag_bare on d e (Err Worn) c = ap (λ (f : ShardState). children_by me f.journal) c.3
  flag_bare on d e (Err Memory) c = ap (λ (f : ShardState). children_by me f.journal) c.3
  flag_bare on d e (Err Full) c = absurd c
  flag_bare on d e (Err Myself) c = absurd c
  flag_bare on d e (Err NoProc) c = absurd c

  found_count : (now : ℕ) (s : Standing) (o : Option Pid) → (heard_gone o now s).started ≡ s.started
  found_count now s None = refl
  found_count now s (Some p) = heard_count now p Reason.Noproc (record s { asked = None })

  if_found : (answer : Bool) (now : ℕ) (s : Standing) → (cond answer (gone_on now s) s).started ≡ s.started
  if_found true now s = (again_same now (gone_heard now s)).count ∙ found_count now s (gone_in s.asked)
  if_found false now s = refl

  heard_counts : (s m n : Standing) (d e : DeskState) → m ≡ n → n.started ≡ s.started → e ≡ d → CountsBirths me s.started d.shard m.started e.shard
  heard_counts s m n d e is same as_is = counts_is s.started d.shard m.started e.shard (ap (λ (x : DeskState). x.shard) as_is) (ap (λ (x : Standing). x.started) is ∙ same)

  attends_counts : (time : ℕ) (item : Option Item) (s m : Standing) (d e : DeskState) (answer : Bool) → SupervisorAttends me time item s d answer m e → CountsBirths me s.started d.shard m.started e.shard
  attends_counts time (Some (Exit from r)) s m d e answer a =
      heard_counts s m (heard (moment s.timed d.shard.clock time) from r s) d e a.1 (heard_count (moment s.timed d.shard.clock time) from r s) a.2
  attends_counts time (Some (Down x from r)) s m d e answer a =
      heard_counts s m (heard (moment s.timed d.shard.clock time) from r (monitor_closed x s)) d e a.1 (heard_count (moment s.timed d.shard.clock time) from r (monitor_closed x s)) a.2
  attends_counts time (Some (User from b)) s m d e answer a = heard_counts s m s d e a.1 refl a.2
  attends_counts time (Some (Alive x from y)) s m d e answer a = heard_counts s m s d e a.1 refl a.2
  attends_counts time None s m d e answer a =
      counts_none s.started d.shard m.started e.shard (flag_bare (state_in d.shard me).traps d.shard e.shard a.0 a.1)
      (ap (λ (x : Standing). x.started) a.3 ∙ if_found answer (moment s.timed e.shard.clock time) s)

  -- so it handles an item, or none --------------------------------------------------------------------------

  module _ {S B : Type 0} (starts : StartsOf S B) where
    abbrev SceneCounts : SupervisorScene S B → SupervisorScene S B → Type 0
    SceneCounts old new = CountsBirths me old.standing.started old.desk.shard new.standing.started new.desk.shard

    scene_same : (old new : SupervisorScene S B) → new ≡ old → SceneCounts old new
    scene_same old new is =
        counts_is old.standing.started old.desk.shard new.standing.started new.desk.shard (ap (λ (x : SupervisorScene S B). x.desk.shard) is) (ap (λ (x : SupervisorScene S B). x.standing.started) is)

    settles_counts : (stopping : Option Reason) (old : SupervisorScene S B) (next : Next) (new : SupervisorScene S B) → SupervisorSettles starts me stopping old next new → SceneCounts old new
    settles_counts (Some r) old next new h = scene_same old new h.1
    settles_counts None old next new h = all_counts starts old.standing.strategy (length old.standing.children) (nursery old) (nursery new) h.1.0 h.1.1

    advances_counts : (now : ℕ) (last : Option (Pid × Shutdown)) (old : SupervisorScene S B) (next : Next) (new : SupervisorScene S B) → AdvancesAs starts me now last old next new → SceneCounts old new
    advances_counts now (Some (p, shutdown)) old next new h =
        counts_none old.standing.started old.desk.shard new.standing.started new.desk.shard (ends_bare p now shutdown old.standing old.desk next new.standing new.desk (stage_of old.standing.asked p) h.0)
        (ap (λ (x : Standing). x.started) (ends_rest starts me now p shutdown old.standing old.desk next new.standing new.desk (stage_of old.standing.asked p) h.0))
    advances_counts now None old next new h = settles_counts old.standing.stopping old next new h

    forward_counts : (now : ℕ) (coming : Option ℕ) (mid : SupervisorScene S B) (next : Next) (new : SupervisorScene S B) → GoesForward starts me now coming mid next new → SceneCounts mid new
    forward_counts now None mid next new h = advances_counts now (last_alive mid.standing.children mid.standing.ending (length mid.standing.children)) mid next new h
    forward_counts now (Some place) mid next new h =
        let both = meets_bare me place (slice_get mid.standing.children place) mid.standing mid.desk next new.standing new.desk h.0 in
        counts_none mid.standing.started mid.desk.shard new.standing.started new.desk.shard both.0 both.1

    then_counts : (now : ℕ) (answer : Bool) (mid : SupervisorScene S B) (next : Next) (new : SupervisorScene S B) → after_attending starts me now answer mid next new → SceneCounts mid new
    then_counts now true mid next new h = forward_counts now (place_coming mid.standing.children) mid next new h
    then_counts now false mid next new h = scene_same mid new h.1

    pub handles_count : (time : ℕ) (item : Option Item) (old : SupervisorScene S B) (next : Next) (new : SupervisorScene S B) → SupervisorHandles starts me time item old next new → SceneCounts old new
    handles_count time item old next new h =
        counts_then old.standing.started old.desk.shard h.mid.standing.started h.mid.desk.shard new.standing.started new.desk.shard
        (attends_counts time item old.standing h.mid.standing old.desk h.mid.desk h.answer h.attends) (then_counts time h.answer h.mid next new h.goes)
