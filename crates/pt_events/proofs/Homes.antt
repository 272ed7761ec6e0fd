-- What an event of a desk sends is from that desk, and is read from that desk's events.
use Rattle.std.proofs.Common.{◌≡◌, ℕ, List, [], ◌∷◌, ◌++◌, Option, Some, None, map, refl, ap, sym, subst}
use Rattle.std.specs.Prelude.{⊤}
use Rattle.pt_signal.specs.declared.pid.Pid.{Pid}
use Rattle.pt_signal.specs.declared.ids.Ref.{Ref}
use Rattle.pt_signal.specs.declared.ids.Ids.{Ids}
use Rattle.pt_signal.specs.declared.reason.Reason.{Reason}
use Rattle.pt_signal.specs.declared.signal.Signal.{Signal}
use Rattle.pt_signal.specs.declared.signal.Signal.TheVariants.{Link, LinkExit, Monitor, Demonitor, AliveAsk}
use Rattle.pt_events.specs.declared.event.Event.{Event}
use Rattle.pt_events.specs.declared.event.Event.TheVariants.{Said, Came, Left}
use Rattle.pt_events.specs.declared.event.Stamped.{Stamped}
use Rattle.pt_signal.specs.Process.{ProcessState, Sent, sent, estate, bounce, handle}
use Rattle.pt_events.specs.History.{Past, Start, Phase, unborn, living, ended, life, sent_by, got_sends, left_sends, end_sends}
use Rattle.pt_events.specs.Journal.{events, of_desk, IsHome}
use Rattle.pt_events.specs.Locality.{AllHome}
pub use Rattle.pt_events.specs.Journal.{in_lane}
use Rattle.pt_events.proofs.Local.{life_local}
use Rattle.pt_events.proofs.Handling.{living_answer, handle_answer}

abbrev pub AllFrom : ℕ → List Sent → Type 0
AllFrom d [] = ⊤
AllFrom d (l ∷ ls) = (l.from.shard ≡ d) × AllFrom d ls

AllFrom-append : (d : ℕ) (xs ys : List Sent) → AllFrom d xs → AllFrom d ys → AllFrom d (xs ++ ys)
AllFrom-append d [] ys h k = k
AllFrom-append d (x ∷ xs) ys h k = (h.0, AllFrom-append d xs ys h.1 k)

AllFrom-map : {X : Type 0} (d : ℕ) (f : X → Sent) → ((x : X) → (f x).from.shard ≡ d) → (xs : List X) → AllFrom d (map f xs)
AllFrom-map d f h [] = tt
AllFrom-map d f h (x ∷ xs) = (h x, AllFrom-map d f h xs)

AllFrom-estate : (me : Pid) (s : ProcessState) (r : Reason) → AllFrom me.shard (estate me s r)
AllFrom-estate me s r =
    AllFrom-append me.shard _ _
    (AllFrom-append me.shard _ _ (AllFrom-map me.shard (λ (e : Pid × Ids). sent me e.0 (LinkExit e.1 r)) (λ x. refl) s.links)
    (AllFrom-map me.shard (λ (k : Ref × Pid). sent me k.1 (Signal.Down k.0 r)) (λ x. refl) s.kept))
    (AllFrom-map me.shard (λ (m : Ref × Pid). sent me m.1 (Demonitor m.0)) (λ x. refl) s.watching)

AllFrom-bounce : (me c : Pid) (x : Signal) → AllFrom me.shard (bounce me c x)
AllFrom-bounce me c (Link i) = (refl, tt)
AllFrom-bounce me c (Monitor m) = (refl, tt)
AllFrom-bounce me c (AliveAsk m) = (refl, tt)
AllFrom-bounce me c _ = tt

AllFrom-end : (me : Pid) (o : Option Reason) (s : ProcessState) → AllFrom me.shard (end_sends me o s)
AllFrom-end me None s = tt
AllFrom-end me (Some r) s = AllFrom-estate me s r

AllFrom-answer : (me c : Pid) (x : Signal) → AllFrom me.shard (living_answer me c x)
AllFrom-answer me c (AliveAsk m) = (refl, tt)
AllFrom-answer me c _ = tt

AllFrom-got : (f : Phase) (me c : Pid) (x : Signal) → AllFrom me.shard (got_sends f me c x)
AllFrom-got unborn me c x = AllFrom-bounce me c x
AllFrom-got (living s) me c x =
    AllFrom-append me.shard _ _
    (subst (AllFrom me.shard) (sym (handle_answer me s c x)) (AllFrom-answer me c x))
    (AllFrom-end me (handle me s c x).ending (handle me s c x).state)
AllFrom-got (ended r s) me c x = AllFrom-bounce me c x

AllFrom-left : (f : Phase) (me : Pid) (r : Reason) → AllFrom me.shard (left_sends f me r)
AllFrom-left unborn me r = tt
AllFrom-left (living s) me r = AllFrom-estate me s r
AllFrom-left (ended w s) me r = tt

pub from_home : (start : Start) (past : Past) (d : ℕ) (e : Event) → IsHome d e → AllFrom d (sent_by start past e)
from_home start past d (Said a b x) h = (h, tt)
from_home start past d (Came a b x) h = subst (λ d. AllFrom d (got_sends (life start past b) b a x)) h (AllFrom-got (life start past b) b a x)
from_home start past d (Left p r) h = subst (λ d. AllFrom d (left_sends (life start past p) p r)) h (AllFrom-left (life start past p) p r)
from_home start past d _ h = tt

module _ (start : Start) where
  pub life_home : (p : Pid) (d : ℕ) (merged : List Stamped) → p.shard ≡ d → AllHome merged → life start (events (of_desk d merged)) p ≡ life start (events merged) p
  life_home p d merged e h = subst (λ d. life start (events (of_desk d merged)) p ≡ life start (events merged) p) e (life_local start p merged h)

  pub sent_home : (d : ℕ) (merged : List Stamped) (e : Event) → IsHome d e → AllHome merged → sent_by start (events (of_desk d merged)) e ≡ sent_by start (events merged) e
  sent_home d merged (Came a b x) h k = ap (λ f. got_sends f b a x) (life_home b d merged h k)
  sent_home d merged (Left p r) h k = ap (λ f. left_sends f p r) (life_home p d merged h k)
  sent_home d merged _ h k = refl
