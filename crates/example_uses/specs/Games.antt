-- What happens in a game. Beside a desk stands the health of a monster, or the monsters, each with its health.
use Rattle.std.specs.Prelude.{◌≡◌, ℕ, ℤ, pos, ◌-ℤ◌, int_le, Bool, MatchBool, is_some, List, length, slice_get}
use Rattle.std.specs.Prelude.{MatchOption, Option, Some, None, Result, Ok, Err}
use Rattle.std.specs.Int.{w64, saturate_signed}
use Rattle.indexmap.specs.IndexMap.{insert_entry, set_value_at}
use Rattle.pt_signal.specs.Values.{same_pid}
use Rattle.pt_signal.specs.declared.pid.Pid.{Pid}
use Rattle.pt_signal.specs.declared.item.Item.{Item}
use Rattle.pt_signal.specs.declared.item.Item.TheVariants.{User}
use Rattle.pt_signal.specs.declared.item.Pick.{Pick}
use Rattle.pt_signal.specs.declared.reason.Reason.TheVariants.{Normal}
use Rattle.pt_events.specs.declared.event.Event.TheVariants.{Left}
use Rattle.pt_shard.specs.declared.fault.Fault.{Fault}
use Rattle.pt_shard.specs.ShardState.{ShardState, lives}
use Rattle.pt_shard.specs.Calls.{Calls, Bears, take_event, first_match}
use Rattle.pt_desk.specs.DeskState.{DeskState}
use Rattle.pt_desk.specs.Turns.{Turns}
use Rattle.pt_desk.specs.declared.turned.Turned.{Turned}
use Rattle.example_uses.specs.declared.game.TheConstants.{HIT, BUDGET}
use Rattle.example_uses.specs.Doing.{Doing, Idles, AndThen, OrNoMemory, AtEach, Repeats, Beside}

-- the monsters, each with its health, in the order in which they came
abbrev pub Monsters : Type 0
Monsters = List (Pid × ℤ)

-- a monster is born
abbrev pub MonsterEnters : Doing ShardState Pid
MonsterEnters old r new = OrNoMemory (Bears None None) old r new

-- one that was born is written down with its health, behind the others
abbrev pub entered : Monsters → Result Pid Fault → ℤ → Monsters
entered monsters (Ok p) health = insert_entry same_pid monsters p health
entered monsters (Err fault) health = monsters

-- the health after a hit, which takes away what its number says and stays within its range
abbrev pub hit_by : Option Item → ℤ → ℤ
hit_by (Some (User from body)) health = saturate_signed w64 (health -ℤ body.num)
hit_by _ health = health

-- the oldest hit is taken out of the mailbox, if there is one
abbrev pub TakesItem : Pid → Doing ShardState (Option Item)
TakesItem me old r new =
    Calls me (take_event old me (Pick.Kind HIT)) (first_match old me (Pick.Kind HIT)) old r new

-- and its health is what the hit leaves; the answer is whether there was one
abbrev pub TakesHit : Pid → Doing (ShardState × ℤ) Bool
TakesHit me old r new =
    AndThen (Beside (TakesItem me) old)
    (λ item mid r new. (r ≡ Ok (is_some item)) × (new ≡ (mid.0, hit_by item mid.1))) r new

-- it ends where no health is left
abbrev pub EndsIfSpent : Pid → Doing (ShardState × ℤ) (Unit {0})
EndsIfSpent me old r new =
    MatchBool (int_le old.1 (pos 0))
    (Beside (λ desk. Calls me (Some (Left me Normal)) (tt {0}) desk) old r new) (Idles (tt {0}) old r new)

-- a monster that is alive takes its hits, and then ends or not
abbrev pub SeesToMonster : Pid → Doing (ShardState × ℤ) (Unit {0})
SeesToMonster me old r new =
    MatchBool (lives old.0 me)
    (AndThen (Repeats (TakesHit me) BUDGET old) (λ _. EndsIfSpent me) r new) (Idles (tt {0}) old r new)

-- so the monster at that place
abbrev pub SeesToAt : ℕ → Doing (ShardState × Monsters) (Unit {0})
SeesToAt place old r new =
    MatchOption (slice_get old.1 place) (Idles (tt {0}) old r new)
    (λ monster. (health : ℤ) × SeesToMonster monster.0 (old.0, monster.1) r (new.0, health)
    × (new.1 ≡ set_value_at old.1 place health))

-- so each of them, in the order in which they came
abbrev pub SeesToAll : Doing (ShardState × Monsters) (Unit {0})
SeesToAll old r new = AtEach SeesToAt (length old.1) old r new

-- each is seen to, and then the desk has a turn
abbrev pub Ticks : Doing (DeskState × Monsters) (Unit {0})
Ticks old (Ok _) new =
    (seen : DeskState) × SeesToAll (old.0.shard, old.1) (Ok (tt {0})) (seen.shard, new.1)
    × (turned : Turned) × Turns BUDGET seen turned new.0
Ticks old (Err fault) new = SeesToAll (old.0.shard, old.1) (Err fault) (new.0.shard, new.1)
