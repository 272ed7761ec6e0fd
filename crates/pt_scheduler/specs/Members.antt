-- What a process of a scheduler is, what it answers, and what is told of it.
use Rattle.std.specs.Prelude.{◌≡◌, ℕ, cond, Bool, true, List, [], ◌++◌, Option, Some, None}
use Rattle.std.specs.Option.{option_map}
use Rattle.pt_signal.specs.declared.pid.Pid.{Pid}
use Rattle.pt_signal.specs.declared.item.Item.{Item}
use Rattle.pt_shard.specs.ShardState.{ShardState}
use Rattle.pt_desk.specs.DeskState.{DeskState}
use Rattle.pt_behaviour.specs.declared.behaviour.Next.{Next}
use Rattle.pt_behaviour.specs.declared.behaviour.Next.TheVariants.{Proceed, Running}
use Rattle.pt_behaviour.specs.declared.births.Role.{Role}
use Rattle.pt_behaviour.specs.Behaving.{Answers}
use Rattle.pt_crew.specs.Outside.{TellsOf}
use Rattle.pt_supervisor.specs.declared.supervisor.Supervisor.{Supervisor}
use Rattle.pt_children.specs.Ending.{child_end_heard}
use Rattle.pt_supervisor.specs.Hearing.{program_of, standing}
use Rattle.pt_supervisor.specs.Supervising.{SupervisorHandles}
use Rattle.pt_supervisor.specs.Keeping.{AnswerAs, PartOf}
use Rattle.pt_scheduler.specs.declared.member.Member.{Member}
use Rattle.pt_scheduler.specs.declared.member.What.{What}
use Rattle.pt_scheduler.specs.declared.member.What.TheVariants.{Start, Proceed as Proceeds, Item as Gets, Timeout, Exit}
use Rattle.pt_scheduler.specs.declared.member.Job.{Job}
use Rattle.pt_scheduler.specs.declared.plan.Origin.{Origin}
use Rattle.pt_scheduler.specs.declared.plan.Plan.{Plan}
use Rattle.pt_scheduler.specs.Exits.{noted_reason, reason_told}
use Rattle.pt_scheduler.specs.Planning.{posts_heard, posts_of, starts_post}

-- what a process is as a supervisor, if it is one
abbrev pub boss_part : PartOf Member
boss_part b = option_map standing b.boss

-- A supervisor handles an item, or none, on its desk at this time. It notes before which child has exited, and its plan
-- says what those whom it starts begin as.
pub record BossHandles (time : ℕ) (old : Supervisor Plan) (d : ShardState) (me : Pid) (item : Option Item) (next : Next)
    (new : Supervisor Plan) (e : ShardState) (births : List (Role Member)) : Type 0 where
  pub plan : Plan
  pub heard : posts_of plan
      ≡ posts_heard (child_end_heard item (standing old).asked) (standing old).children (posts_of (program_of old))
  pub desk : DeskState
  pub later : DeskState
  pub before : desk.shard ≡ d
  pub after : later.shard ≡ e
  pub waited : List (Role Member)
  pub handles : SupervisorHandles starts_post me time item
      (record { start = plan; standing = standing old; desk = desk; born = waited }) next
      (record { start = program_of new; standing = standing new; desk = later; born = waited ++ births })

-- one whose handler is outside is running then; a supervisor handles it
abbrev pub AnswersBy : Option (Supervisor Plan) → Answers Member
AnswersBy None time old d me item next new e births =
    (next ≡ Running) × (new ≡ old) × (e ≡ d) × (births ≡ [])
AnswersBy (Some boss) time old d me item next new e births =
    (later : Supervisor Plan) × (new ≡ record old { boss = Some later })
    × BossHandles time boss d me item next later e births

-- so it is a supervisor as `Supervised` asks, or acts for itself alone
abbrev pub member_answers : Answers Member
member_answers time old d me item next new e births =
    AnswerAs boss_part time old d me item next new e births × AnswersBy old.boss time old d me item next new e births

-- what a process is told that gets this, by whether it has begun, who started it, and what it was to do
abbrev pub what_of : Bool → Option Origin → Option Next → Option Item → What
what_of begun origin before (Some item) = Gets item
what_of begun origin (Some Proceed) None = cond begun Proceeds (Start origin)
what_of begun origin before None = Timeout

-- what is told of a process whose handler is outside: it has begun then. Of a supervisor nothing is told
abbrev pub TellsBy : Option (Supervisor Plan) → TellsOf Member Job
TellsBy None me before item old told new =
    (told ≡ Some (record { pid = me; tag = old.tag; what = what_of old.notes.begun old.origin (Some before) item }))
    × (new ≡ record old { notes = record (old.notes) { begun = true } })
TellsBy (Some boss) me before item old told new = (told ≡ None) × (new ≡ old)

abbrev pub member_tells : TellsOf Member Job
member_tells me before item old told new = TellsBy old.boss me before item old told new

-- what is told of one that left, and was alive or not as it was come to
abbrev pub job_of_exit : Bool → Role Member → Job
job_of_exit alive l =
    record {
      pid = l.pid;
      tag = l.behaviour.tag;
      what = Exit (reason_told alive l.next (noted_reason l.behaviour.notes.ended l.behaviour.notes.lost)) l.next;
    }
