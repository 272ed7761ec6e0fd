-- What behaviours uphold on a desk stays so through receipts, as settling makes them.
use Rattle.std.proofs.Common.{◌≡◌, ℕ, ◌<◌, ◌+◌, ◌-◌, max, false, List, [], ◌∷◌, ◌++◌, refl, arith}
use Rattle.pt_signal.specs.declared.letter.Letter.{Letter}
use Rattle.pt_signal.specs.declared.pid.Pid.{Pid}
use Rattle.pt_signal.specs.declared.signal.Signal.{Signal}
use Rattle.pt_events.specs.declared.event.Event.{Event}
use Rattle.pt_events.specs.declared.event.Event.TheVariants.{Came}
use Rattle.pt_events.specs.declared.event.Stamped.{Stamped}
use Rattle.pt_events.specs.History.{Past, Start, is_unborn}
use Rattle.pt_events.specs.Journal.{IsLocal, events}
use Rattle.pt_laws.specs.LoadLaws.{AllCame}
use Rattle.pt_shard.specs.ShardState.{ShardState, phase_of, handled}
use Rattle.pt_behaviour.specs.declared.behaviour.Next.{Next}
use Rattle.pt_behaviour.specs.Behaving.{Answers}
use Rattle.pt_behaviour.specs.Upholding.{Relation, IsLater, IsUpheld}
use Rattle.pt_behaviour.proofs.Upholding.{alone_same, born_then, later_handled, later_same}

pub came_of : (e : Event) (past : Past) → AllCame (e ∷ past) → (a : Pid) × (b : Pid) × (x : Signal) × (e ≡ Came a b x) × AllCame past
came_of (Came a b x) past h = (a, b, x, refl, h)
came_of _ past h = absurd h

-- the desk with more in its journal
abbrev pub grown : List Stamped → ShardState → ShardState
grown more d = record d { journal = more ++ d.journal }

pub grown_later : (more : List Stamped) (d : ShardState) → IsLater d (grown more d)
grown_later more d = record { start = refl; more = more; journal = refl }

module _ {B : Type 0} (answers : Answers B) (stands : Relation B) (k : IsUpheld answers stands) (b : B) (next : Next) (p : Pid) where
  same : (d e : ShardState) → e.start ≡ d.start → e.journal ≡ d.journal → is_unborn (phase_of d p) ≡ false → stands b next p d → stands b next p e
  same d e start journal born h = k.others b next p d e h born (later_same d e start journal) (alone_same d e start journal p)

  one : (d : ShardState) (s : Stamped) (a c : Pid) (x : Signal) → s.event ≡ Came a c x → 0 < s.stamp → is_unborn (phase_of d p) ≡ false → stands b next p d → stands b next p (grown (s ∷ []) d)
  one d s a c x is some born h =
      same (handled l f) (grown (s ∷ []) d) refl journal (born_then f (handled l f) (later_handled l f) p born) (k.receives b next p f l (same d f refl refl born h) born)
    where
      l : Letter
      l = record { from = a; to = c; signal = x; stamp = 0 }

      f : ShardState
      f = record d { number = s.desk; clock = s.stamp - 1 }

      stamp : s.stamp ≡ max (s.stamp - 1) 0 + 1
      stamp = omega (arith, some)

      journal : s ∷ d.journal ≡ (handled l f).journal
      journal i = record { stamp = stamp i; desk = s.desk; event = is i } ∷ d.journal

  pub receipts_stand : (d : ShardState) (start : Start) (low top n : ℕ) (more : List Stamped) → IsLocal start low top n (more ++ d.journal) → AllCame (events more) → is_unborn (phase_of d p) ≡ false
      → stands b next p d → stands b next p (grown more d)
  receipts_stand d start low top n [] local came born h = h
  receipts_stand d start low top n (s ∷ more) local came born h =
      let c = came_of s.event (events more) came in
      let later = local.0.later in
      let some : 0 < s.stamp = omega (arith, later) in
      one (grown more d) s c.0 c.1 c.2 c.3 some (born_then d (grown more d) (grown_later more d) p born)
      (receipts_stand d start low top n more local.1 c.4 born h)
