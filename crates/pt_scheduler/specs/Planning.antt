-- What a supervisor starts: the tag of each place, and whether a child that was there has exited.
use Rattle.std.specs.Prelude.{◌≡◌, ℕ, true, false, List, [], Option, Some, None, Result, Ok, Err, position, slice_get, slice_set}
use Rattle.pt_signal.specs.declared.pid.Pid.{Pid}
use Rattle.pt_shard.specs.declared.fault.Fault.{Fault}
use Rattle.pt_behaviour.specs.declared.behaviour.Next.{Next}
use Rattle.pt_behaviour.specs.declared.behaviour.Next.TheVariants.{Proceed}
use Rattle.pt_children.specs.declared.children.Child.{Child}
use Rattle.pt_signal.specs.Values.{is_pid}
use Rattle.pt_supervisor.specs.Supervising.{StartsOf}
use Rattle.pt_scheduler.specs.declared.member.Member.{Member}
use Rattle.pt_children.specs.declared.spec.ChildSpec.{ChildSpec}
use Rattle.pt_scheduler.specs.declared.plan.Plan.{Plan}
use Rattle.pt_scheduler.specs.declared.plan.Post.{Post}

-- the places of a supervisor
abbrev pub posts_of : Plan → List Post
posts_of plan = elim plan.posts [ None ↦ [] | Some posts ↦ posts.items ]

-- the child at a place has exited
abbrev pub again_in : ℕ → Option Post → List Post → List Post
again_in place None posts = posts
again_in place (Some post) posts = slice_set posts place (record post { again = true })

abbrev pub with_again : ℕ → List Post → List Post
with_again place posts = again_in place (slice_get posts place) posts

-- the child in a place, if it is in one, has exited
abbrev pub again_at : Option ℕ → List Post → List Post
again_at None posts = posts
again_at (Some place) posts = with_again place posts

-- so it is of a child of whose exit the supervisor hears
abbrev pub posts_heard : Option Pid → List Child → List Post → List Post
posts_heard (Some from) children posts = again_at (position (λ c. is_pid c.pid from) children) posts
posts_heard None children posts = posts

-- what a child begins as
abbrev pub new_child : Post → Pid → Member
new_child post boss = record {
  tag = post.tag;
  origin = Some (record { supervisor = boss; again = post.again });
  notes = record { begun = false; ended = None; lost = None };
  boss = None;
}

-- the child of a place, which is told first that it starts
abbrev pub child_of_post : Pid → Option Post → Result (Member × Next) Fault
child_of_post boss (Some post) = Ok (new_child post boss, Proceed)
child_of_post boss None = Err Fault.Gone

abbrev pub post_at : Plan → ℕ → Option Post
post_at plan place = slice_get (posts_of plan) place

abbrev pub starts_post : StartsOf Plan Member
starts_post old boss place result new = (new ≡ old) × (result ≡ child_of_post boss (post_at old place))

abbrev pub post_as : ChildSpec → Post
post_as spec = record { tag = spec.tag; again = false }
