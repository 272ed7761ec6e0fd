-- The plain values: when two of them are the same, and which items a selective receive takes.
use Rattle.std.specs.Prelude.{Bool, true, false, cond, ◌==◌, ◌&&◌, List, [], ◌∷◌, Option, None, Some}
use Rattle.std.specs.declared.cmp.Ordering.{Ordering}
use Rattle.std.specs.Ordering.{nat_cmp, on, then_cmp}
use Rattle.pt_signal.specs.declared.pid.Pid.{Pid}
use Rattle.pt_signal.specs.declared.ids.Ref.{Ref}
use Rattle.pt_signal.specs.declared.ids.LinkId.{LinkId}
use Rattle.pt_signal.specs.declared.item.Item.{Item}
use Rattle.pt_signal.specs.declared.item.Item.TheVariants.{User}
use Rattle.pt_signal.specs.declared.item.Pick.{Pick}

abbrev pub same_pid : Pid → Pid → Bool
same_pid p q = (p.shard == q.shard) && (p.slot == q.slot) && (p.version == q.version)

-- there is a pid, and it is this one
abbrev pub is_pid : Option Pid → Pid → Bool
is_pid None p = false
is_pid (Some q) p = same_pid q p

-- by shard, then slot, then version
abbrev pub pid_order : Pid → Pid → Ordering
pid_order = then_cmp (on (λ p. p.shard) nat_cmp) (then_cmp (on (λ p. p.slot) nat_cmp) (on (λ p. p.version) nat_cmp))

abbrev pub same_ref : Ref → Ref → Bool
same_ref m n = (m.desk == n.desk) && (m.number == n.number)

abbrev pub same_link : LinkId → LinkId → Bool
same_link i j = (i.desk == j.desk) && (i.number == j.number)

-- a receive with this pick takes the item
abbrev pub fits : Pick → Item → Bool
fits Pick.Any item = true
fits (Pick.Kind k) (User from body) = body.kind == k
fits (Pick.From p) (User from body) = same_pid p from
fits (Pick.ExitOf p) (Item.Exit from r) = same_pid p from
fits (Pick.DownOf m) (Item.Down n from r) = same_ref m n
fits (Pick.AliveOf m) (Item.Alive n from x) = same_ref m n
fits _ _ = false

-- the list without the first that passes the test
abbrev pub without_first : {X : Type 0} → (X → Bool) → List X → List X
without_first test [] = []
without_first test (x ∷ xs) = cond (test x) xs (x ∷ without_first test xs)
