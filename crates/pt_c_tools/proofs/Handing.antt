-- A door is asked whether its way in was given up before a message is handed in.
use Rattle.std.proofs.Common.{inr, Bool, true, false, List, [], ◌∷◌, ◌++◌, refl, ap, ◌∙◌, arith}
use Rattle.std.specs.Prelude.{cond}
use Rattle.rtrb.specs.Ring.{ProducerLooked, SameProducer}
use Rattle.rtrb.specs.declared.producer.Producer.{Producer}
use Rattle.pt_c_tools.specs.declared.door.Door.{Door}
use Rattle.pt_c_tools.specs.declared.door.Post.{Post}
use Rattle.pt_c_tools.specs.Doors.{PostsAtDoor}
use Rattle.pt_c_tools.specs.WaysIn.{PostsCode, no_free_place}

same_then : {T A P : Type 0} (a b c : Producer T A P) → SameProducer a b → SameProducer b c → SameProducer a c
same_then a b c x y = ((y.0.0 ∙ x.0.0, y.0.1 ∙ x.0.1, y.0.2 ∙ x.0.2, y.0.3 ∙ x.0.3), y.1 ∙ x.1)

posts_then : (post : Post) (is : Bool) (old mid new : Door) → ProducerLooked old.ring mid.ring → PostsAtDoor post mid is new → PostsAtDoor post old is new
posts_then post true old mid new looked posts =
    let seen = looked.2 in let less = posts.1 in
    (posts.0 ∙ ap (λ (ps : List Post). ps ++ post ∷ []) looked.1, omega (arith, seen, less))
posts_then post false old mid new looked posts =
    let seen = looked.2 in let none = posts.2 in
    (posts.0 ∙ looked.1, posts.1, omega (arith, seen, none))

pub posts_after : (post : Post) (is : Bool) (old mid new : Door) → ProducerLooked old.ring mid.ring → PostsAtDoor post mid is new → SameProducer mid.ring new.ring → PostsCode post (cond is 0 no_free_place) old new
posts_after post is old mid new looked posts same =
    inr (is, refl, posts_then post is old mid new looked posts, same_then old.ring mid.ring new.ring looked.0 same)
