-- What a supervisor knows, and what it makes of an end of which it hears.
use Rattle.std.specs.Prelude.{ℕ, nat_le, nat_lt, is_some, cond, Bool, true, false, ◌&&◌, not, List, length, Option, Some, None}
use Rattle.std.specs.Prelude.{position, slice_get, slice_set}
use Rattle.pt_signal.specs.declared.pid.Pid.{Pid}
use Rattle.pt_signal.specs.declared.ids.Ref.{Ref}
use Rattle.pt_signal.specs.declared.reason.Reason.{Reason}
use Rattle.pt_children.specs.declared.asked.Asked.{Asked}
use Rattle.pt_children.specs.declared.asked.Stage.{Stage}
use Rattle.pt_children.specs.declared.children.Child.{Child}
use Rattle.pt_children.specs.declared.gave_up.GaveUp.{GaveUp}
use Rattle.pt_children.specs.declared.limit.Limit.{Limit}
use Rattle.pt_children.specs.declared.restart.Restart.{Restart}
use Rattle.pt_children.specs.declared.restart.Strategy.{Strategy}
use Rattle.pt_children.specs.Restarts.{starts_again, ends_from}
use Rattle.pt_children.specs.Limits.{recent, allows, counted_restarts, gave_up_over}
use Rattle.pt_children.specs.Children.{is_temporary, last_alive, revived}
use Rattle.pt_children.specs.Trying.{first_failed, has_failed_first}
use Rattle.pt_children.specs.declared.trial.Trial.TheVariants.{Again}
use Rattle.pt_signal.specs.Values.{is_pid}
use Rattle.pt_children.specs.Ending.{gone_in, unless_by}

pub record Standing : Type 0 where
  pub children : List Child
  pub strategy : Strategy
  -- with whose end it ends
  pub parent : Option Pid
  -- when its last restarts were, how many may be within what span, and whether that is of time, or of stamps
  pub times : List ℕ
  pub most : ℕ
  pub span : ℕ
  pub timed : Bool
  -- from this place on children are ended, from the last to the first, before any is started
  pub ending : ℕ
  -- with what it is to end, once all its children have
  pub stopping : Option Reason
  -- the child that it ends, and what it has done to end it
  pub asked : Option Asked
  -- how many children it has started
  pub started : ℕ
  -- why it gave up, if it has
  pub gave_up : Option GaveUp

-- a new supervisor: nobody is to end, and nobody was started
abbrev pub begun : Strategy → List Child → Limit → Standing
begun strategy children limit = record {
  children = children;
  strategy = strategy;
  parent = None;
  times = limit.times.items;
  most = limit.most;
  span = limit.span;
  timed = limit.timed;
  ending = length children;
  stopping = None;
  asked = None;
  started = 0;
  gave_up = None;
}

-- all its children are to end, and then it with this reason
abbrev pub stopped : Reason → Standing → Standing
stopped reason s = record s { ending = 0; stopping = Some reason }

-- it has come this far in ending a child
abbrev pub at_stage : Pid → Stage → Standing → Standing
at_stage p stage s = record s { asked = Some (record { pid = p; stage = stage }) }

-- the monitor is closed: it monitors the child that it ends no more
abbrev pub monitor_closed : Ref → Standing → Standing
monitor_closed m s = record s { asked = unless_by m s.asked }

-- whether a child is to live again: one that its supervisor ended unless it is temporary, and one that ended by itself
-- where its rule says so
abbrev pub lives_again : Bool → Restart → Reason → Bool
lives_again true restart reason = not (is_temporary restart)
lives_again false restart reason = starts_again restart reason

-- one that was not wanted any more does not live again
abbrev pub wanted_again : Bool → Reason → Child → Bool
wanted_again bidden reason c = c.wanted && lives_again bidden c.restart reason

-- a child that has ended
abbrev pub gone : Bool → Reason → Child → Child
gone bidden reason c = record c { pid = None; wanted = wanted_again bidden reason c }

-- It gives up, since the child with this id in this place is not started again, with this reason: all its children are to
-- end, and then it with `shutdown`.
abbrev pub gave_up_at : ℕ → ℕ → Reason → Standing → Standing
gave_up_at place id reason s = stopped Reason.Shutdown (record s {
  gave_up = Some (gave_up_over id place reason s.times s.span s.timed);
})

-- One more restart, for the child at a place, if it is allowed: those whom the strategy names are ended first, and each
-- of them is to live again unless it is temporary. Else the supervisor gives up, since the child with this id exited there
-- with this reason.
abbrev pub restarted_child : Bool → ℕ → ℕ → ℕ → Reason → Standing → Standing
restarted_child true now place id reason s = record s {
  children = revived s.children (ends_from s.strategy place (length s.children)) (length s.children);
  times = counted_restarts true now (recent now s.span s.times);
  ending = ends_from s.strategy place (length s.children);
}
restarted_child false now place id reason s = gave_up_at place id reason (record s { times = recent now s.span s.times })

-- one that its supervisor ended, or that is not to live again, makes no restart of its own
abbrev pub started_again : Bool → ℕ → ℕ → ℕ → Reason → Standing → Standing
started_again true now place id reason s = restarted_child (allows now s.span s.most s.times) now place id reason s
started_again false now place id reason s = s

-- the child at a place has ended
abbrev pub lost : ℕ → Reason → ℕ → Option Child → Standing → Standing
lost now reason place None s = s
lost now reason place (Some c) s =
    let bidden = nat_le s.ending place in
    started_again (not bidden && wanted_again bidden reason c) now place c.id reason
    (record s { children = slice_set s.children place (gone bidden reason c) })

abbrev pub heard_at : Option ℕ → ℕ → Reason → Standing → Standing
heard_at None now reason s = s
heard_at (Some place) now reason s = lost now reason place (slice_get s.children place) s

-- It hears that a process has ended. With its parent it ends itself; a child is lost; of any other nothing comes.
abbrev pub heard : ℕ → Pid → Reason → Standing → Standing
heard now from reason s =
    cond (is_pid s.parent from) (stopped reason s)
    (heard_at (position (λ c. is_pid c.pid from) s.children) now reason s)

-- it hears of the end of the child that it found to have ended
abbrev pub heard_gone : Option Pid → ℕ → Standing → Standing
heard_gone None now s = s
heard_gone (Some p) now s = heard now p Reason.Noproc (record s { asked = None })

abbrev pub gone_heard : ℕ → Standing → Standing
gone_heard now s = heard_gone (gone_in s.asked) now s

-- The place of the child that it may try to start again: that whose start failed first, where none is to end before.
abbrev pub place_below : ℕ → Option (ℕ × ℕ) → Option ℕ
place_below ending None = None
place_below ending (Some (place, at)) = cond (nat_lt place ending) (Some place) None

abbrev pub to_try : Standing → Option ℕ
to_try s =
    cond (is_some (last_alive s.children s.ending (length s.children))) None
    (place_below s.ending (first_failed s.children (length s.children)))

-- That child is tried again. It counts as a restart, as if the child had ended: so those whom the strategy names end before.
abbrev pub tried_child : ℕ → ℕ → Option Child → Standing → Standing
tried_child now place None s = s
tried_child now place (Some c) s =
    started_again true now place c.id Reason.Noproc
    (record s { children = slice_set s.children place (record c { trial = Again }) })

abbrev pub tried_where : Option ℕ → ℕ → Standing → Standing
tried_where None now s = s
tried_where (Some place) now s = tried_child now place (slice_get s.children place) s

abbrev pub tried_again : ℕ → Standing → Standing
tried_again now s = tried_where (to_try s) now s

-- It goes on without an item: it hears of the end of the child that it found to have ended, and tries a child again.
abbrev pub gone_on : ℕ → Standing → Standing
gone_on now s = tried_again now (gone_heard now s)

-- where the first start of a child has failed, it gives up
abbrev pub heeded_in : ℕ → Option Child → Standing → Standing
heeded_in place None s = s
heeded_in place (Some c) s = gave_up_at place c.id Reason.Noproc s

abbrev pub heeded_at : Option ℕ → Standing → Standing
heeded_at None s = s
heeded_at (Some place) s = heeded_in place (slice_get s.children place) s

abbrev pub first_heeded : Standing → Standing
first_heeded s = heeded_at (position (λ c. has_failed_first c.trial) s.children) s
