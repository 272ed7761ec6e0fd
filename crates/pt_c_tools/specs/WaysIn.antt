-- What the calls of a way in answer C.
use Rattle.std.specs.Prelude.{◌≡◌, ◌⊎◌, ℕ, pos, cond, ◌==◌, ◌||◌, [], Bool, true, is_some, length, MatchBool, Option}
use Rattle.rtrb.specs.Ring.{ConsumerLooked, IsPair, ProducerLooked, SameConsumer, SameProducer}
use Rattle.rtrb.specs.Ring.{consumer_capacity, known_free, known_items, producer_capacity, received, sent}
use Rattle.pt_c_values.specs.Places.{HandlePlace, ShowsCode, full, value_behind}
use Rattle.pt_c_values.specs.Codes.{filled}
use Rattle.pt_c_values.specs.Crossing.{body_in, body_out, pid_crossed, pid_out}
use Rattle.pt_c_tools.specs.declared.door.Door.{Door}
use Rattle.pt_c_tools.specs.declared.door.Post.{Post}
use Rattle.pt_c_tools.specs.declared.door.WayIn.{WayIn}
use Rattle.pt_c_tools.specs.declared.types.PtPost.{PtPost}
use Rattle.pt_c_tools.specs.Doors.{PostsAtDoor, TakesPost}

abbrev pub post_in : PtPost → Post
post_in p = record { to = pid_crossed p.to; body = body_in p.body }

abbrev pub post_out : Post → PtPost
post_out p = record { to = pid_out p.to; body = body_out p.body }

-- the door knows of no free place
abbrev pub no_free_place : ℕ
no_free_place = 1

-- the way in of the door was given up
abbrev pub given_up : ℕ
given_up = 4

-- a way in of no places was asked for
abbrev pub bad_places : ℕ
bad_places = 22

-- a new way in, all of whose places are free
pub record IsNewWayIn (places : ℕ) (d : Door) (w : WayIn) : Type 0 where
  pub pair : IsPair d.ring w.ring
  pub door : (sent d.ring ≡ []) × (known_free d.ring ≡ places) × (producer_capacity d.ring ≡ places)
  pub way_in : (received w.ring ≡ []) × (known_items w.ring ≡ []) × (consumer_capacity w.ring ≡ places)

-- each handle has its end; or there was no memory, and both are as they were
abbrev pub OpensBoth : ℕ → ℕ → HandlePlace Door → HandlePlace Door → HandlePlace WayIn → HandlePlace WayIn → Type 0
OpensBoth places code door opened way_in entered =
    ((code ≡ 0) × (d : Door) × (w : WayIn) × IsNewWayIn places d w × (opened ≡ full d) × (entered ≡ full w))
    ⊎ ((code ≡ 2) × (opened ≡ door) × (entered ≡ way_in))

-- if both handles are empty, and a place is asked for; else both are as they were
abbrev pub OpensWayIn : ℕ → ℕ → HandlePlace Door → HandlePlace Door → HandlePlace WayIn → HandlePlace WayIn → Type 0
OpensWayIn places code door opened way_in entered =
    MatchBool (is_some (value_behind door) || is_some (value_behind way_in))
    ((code ≡ filled) × (opened ≡ door) × (entered ≡ way_in))
    (MatchBool (places == 0) ((code ≡ bad_places) × (opened ≡ door) × (entered ≡ way_in))
    (OpensBoth places code door opened way_in entered))

-- the door was told that its way in was given up, and nothing was handed in; or whether it was handed in
abbrev pub PostsCode : Post → ℕ → Door → Door → Type 0
PostsCode post code old new =
    ((code ≡ given_up) × ProducerLooked old.ring new.ring)
    ⊎ ((is : Bool) × (code ≡ cond is 0 no_free_place) × PostsAtDoor post old is new × SameProducer old.ring new.ring)

abbrev pub TakesCode : ℕ → PtPost → PtPost → WayIn → WayIn → Type 0
TakesCode code before after old new =
    (p : Option Post) × ShowsCode code before after post_out p × TakesPost old p new × SameConsumer old.ring new.ring

abbrev pub LooksInCode : ℕ → ℕ → WayIn → WayIn → Type 0
LooksInCode code count old new =
    (code ≡ 0) × (count ≡ length (known_items new.ring)) × ConsumerLooked old.ring new.ring

-- a message whose fields have the numbers 1, 2, 3 and so on, in order
abbrev pub sample_post : PtPost
sample_post = record {
  to = record { shard = 1; slot = 2; version = 3 };
  body = record { kind = 4; num = pos 5; has_who = true; who = record { shard = 7; slot = 8; version = 9 } };
}
