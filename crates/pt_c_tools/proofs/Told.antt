-- Which messages are of calls.
use Rattle.std.proofs.Common.{◌≡◌, ℕ, Bool, true, false, refl}
use Rattle.std.specs.Prelude.{◌&&◌, ◌||◌, None}
use Rattle.std.specs.Ordering.{int_eq}
use Rattle.pt_signal.specs.declared.pid.Pid.{Pid}
use Rattle.pt_signal.specs.declared.ids.Ref.{Ref}
use Rattle.pt_signal.specs.declared.item.Body.{Body}
use Rattle.pt_signal.specs.declared.item.Item.{Item}
use Rattle.pt_signal.specs.declared.item.Item.TheVariants.{User, Exit, Down, Alive}
use Rattle.pt_signal.specs.Values.{same_pid}
use Rattle.pt_signal.proofs.Same.{same_pid_refl}
use Rattle.pt_names.specs.declared.request.Request.{Request}
use Rattle.pt_names.specs.Asking.{answer, request_message, request_of, speaks_of}
use Rattle.pt_names.specs.Ending.{says_to_call}
use Rattle.pt_c_values.specs.Crossing.{pid_crossed}
use Rattle.pt_c_tools.specs.declared.types.PtCall.{PtCall}
use Rattle.pt_c_tools.specs.Asking.{is_of_call, pending_of}

or_true : (a b : Bool) → b ≡ true → (a || b) ≡ true
or_true true b h = refl
or_true false b h = h

not_left : (a b : Bool) → (a || b) ≡ false → a ≡ false
not_left true b h = h
not_left false b h = refl

not_right : (a b : Bool) → (a || b) ≡ false → b ≡ false
not_right true b h = absurd (cc)
not_right false b h = h

and_false : (a b c : Bool) → b ≡ false → (a && b && c) ≡ false
and_false true b c h = rw h
and_false false b c h = refl

pub requests_told : (me client : Pid) (m : Ref) (asks : ℕ) → is_of_call me (User client (request_message client m asks)) ≡ true
requests_told me client m asks = rw (same_pid_refl client)

pub answers_told : (server : Pid) (r : Request) (n : ℕ) → is_of_call r.from (User server (answer r n)) ≡ true
answers_told server r n = or_true (same_pid r.from server) (same_pid r.from r.from) (same_pid_refl r.from)

pub no_request : (me : Pid) (i : Item) → is_of_call me i ≡ false → request_of i ≡ None
no_request me (User from body) h = let none : speaks_of body from ≡ false = not_left (speaks_of body from) (speaks_of body me) h in rw none
no_request me (Exit from r) h = refl
no_request me (Down m from r) h = refl
no_request me (Alive m from x) h = refl

pub no_answer : (c : PtCall) (from : Pid) (body : Body) → is_of_call (pid_crossed c.client) (User from body) ≡ false → says_to_call (pending_of c) (User from body) ≡ None
no_answer c from body h =
    let none : speaks_of body (pid_crossed c.client) ≡ false = not_right (speaks_of body from) (speaks_of body (pid_crossed c.client)) h in
    let no : (same_pid from (pid_crossed c.server) && speaks_of body (pid_crossed c.client) && int_eq body.num (pending_of c).number) ≡ false =
    and_false (same_pid from (pid_crossed c.server)) (speaks_of body (pid_crossed c.client)) (int_eq body.num (pending_of c).number) none in
    rw no
