-- What a turn takes of the stamps that a desk's clock has left, an event for each letter.
use Rattle.std.proofs.Common.{◌≡◌, ℕ, ◌+◌, ◌-◌, ◌^◌, ◌<◌, ◌≤◌, ⊎_elim, List, [], ◌∷◌, length, max, min, get_or, set, Option, Some, None, ap, ◌∙◌, arith}
use Rattle.std.specs.List.{sum_by}
use Rattle.std.proofs.lemmas.List.Sums.{sum_by-set}
use Rattle.pt_signal.specs.declared.letter.Letter.{Letter}
use Rattle.pt_signal.specs.declared.config.TheConstants.{MAX_STAMP}
use Rattle.pt_shard.specs.ShardState.{ShardState}
use Rattle.pt_shard.specs.declared.stop.Stop.{Stop}
use Rattle.pt_shard.specs.declared.stop.Stop.TheVariants.{Memory, Worn}
use Rattle.pt_desk.specs.DeskState.{DeskState}
use Rattle.pt_desk.specs.declared.turned.Turned.{Turned}
use Rattle.pt_desk.specs.Turns.{Fetches, HandlesNext, HandlesAll, EndsWith, Stays, Turns}
use Rattle.pt_workers.specs.Stillness.{count_events}

-- how many stamps the clock of a desk has left: it can handle no more letters
abbrev pub room_of : DeskState → ℕ
room_of d = MAX_STAMP - d.shard.clock

abbrev pub room : List DeskState → ℕ
room desks = sum_by room_of desks

abbrev pub events_of : DeskState → ℕ
events_of d = length d.shard.journal

-- k letters were handled, each by one event
pub record Burns (k : ℕ) (old new : DeskState) : Type 0 where
  pub events : events_of new ≡ events_of old + k
  pub room : room_of new + k ≤ room_of old

same_burns : (old new : DeskState) → new.shard.clock ≡ old.shard.clock → events_of new ≡ events_of old → Burns 0 old new
same_burns old new clock events = record { events = omega (arith, events); room = omega (arith, clock) }

fetched_burns : (l : Letter) (old new : DeskState) → Fetches l old new → Burns 0 old new
fetched_burns l old new f =
    same_burns old new
    (⊎_elim (λ h. ap (λ (d : DeskState). d.shard.clock) h.1) (λ t. ap (λ (s : ShardState). s.clock) t.shard) f)
    (⊎_elim (λ h. ap events_of h.1) (λ t. ap (λ (s : ShardState). length s.journal) t.shard) f)

next_burns : (l : Letter) (old new : DeskState) → HandlesNext l old new → Burns 1 old new
next_burns l old new h =
    let fetched = fetched_burns l old h.fetched h.fetches in
    let after : new.shard.clock ≡ max h.fetched.shard.clock l.stamp + 1 = ap (λ (d : DeskState). d.shard.clock) h.after in
    let more : events_of new ≡ events_of h.fetched + 1 = ap events_of h.after ∙ omega arith in
    record { events = omega (arith, more, fetched.events); room = omega (arith, after, fetched.room, h.within) }

all_burn : (ls : List Letter) (old new : DeskState) → HandlesAll ls old new → Burns (length ls) old new
all_burn [] old new h = same_burns old new (ap (λ (d : DeskState). d.shard.clock) h) (ap events_of h)
all_burn (l ∷ ls) old new h =
    let before = all_burn ls old h.0 h.1 in
    let next = next_burns l h.0 new h.2 in
    record { events = omega (arith, before.events, next.events); room = omega (arith, before.room, next.room) }

stays_burns : (stop : Stop) (old new : DeskState) → Stays stop old new → Burns 0 old new
stays_burns Memory old new h = fetched_burns h.0 old new h.1
stays_burns Worn old new h = fetched_burns h.0 old new h.1

ends_burn : (stop : Option Stop) (count budget : ℕ) (last new : DeskState) → EndsWith stop count budget last new → Burns 0 last new
ends_burn None count budget last new e =
    same_burns last new
    (⊎_elim (λ h. ap (λ (d : DeskState). d.shard.clock) h.1) (λ h. ap (λ (s : ShardState). s.clock) h.1.shard) e)
    (⊎_elim (λ h. ap events_of h.1) (λ h. ap (λ (s : ShardState). length s.journal) h.1.shard) e)
ends_burn (Some stop) count budget last new e = stays_burns stop last new e.1

pub turn_burns : (budget : ℕ) (old : DeskState) (t : Turned) (new : DeskState) → Turns budget old t new → Burns t.handled old new
turn_burns budget old t new h =
    let posts = same_burns old h.posted_desk (ap (λ (s : ShardState). s.clock) h.posts.only.shard) (ap (λ (s : ShardState). length s.journal) h.posts.only.shard) in
    let handles = all_burn h.letters h.posted_desk h.last h.handles in
    let ends = ends_burn t.stopped t.handled budget h.last new h.ends in
    record { events = omega (arith, posts.events, handles.events, ends.events, h.handled); room = omega (arith, posts.room, handles.room, ends.room, h.handled) }

-- the desks of a node handled k letters, which were counted as n
pub record AllBurn (n : ℕ) (old new : List DeskState) : Type 0 where
  pub count : ℕ
  pub events : count_events new ≡ count_events old + count
  pub room : room new + count ≤ room old
  pub counted : n ≡ min count (2 ^ 64 - 1)

pub none_burns : (desks : List DeskState) → AllBurn 0 desks desks
none_burns desks = record { count = 0; events = omega arith; room = omega arith; counted = omega arith }

pub burn_then : (m n : ℕ) (a b c : List DeskState) → AllBurn m a b → AllBurn n b c → AllBurn (min (m + n) (2 ^ 64 - 1)) a c
burn_then m n a b c f g = record {
  count = f.count + g.count;
  events = omega (arith, f.events, g.events);
  room = omega (arith, f.room, g.room);
  counted = omega (arith, f.counted, g.counted);
}

-- the desk at place d had a turn
pub one_burns : (desks : List DeskState) (d n k : ℕ) (new : DeskState) → d < length desks → n ≡ min k (2 ^ 64 - 1) → Burns k (get_or desks d new) new → AllBurn n desks (set desks d new)
one_burns desks d n k new within counted burns =
    let clocks : sum_by room_of (set desks d new) + room_of (get_or desks d new) ≡ sum_by room_of desks + room_of new = sum_by-set room_of desks d new new within in
    let journals : sum_by events_of (set desks d new) + events_of (get_or desks d new) ≡ sum_by events_of desks + events_of new = sum_by-set events_of desks d new new within in
    record { count = k; events = omega (arith, journals, burns.events); room = omega (arith, clocks, burns.room); counted = counted }
