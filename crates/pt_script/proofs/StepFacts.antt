-- What the readers of single operations give, in the words of the specs.
use Rattle.std.proofs.Common.{◌≡◌, ℕ, ◌+◌, List, ◌∷◌, true, false, Some, Ok, refl}
use Rattle.std.specs.Prelude.{codes}
use Rattle.std.specs.Map.{update}
use Rattle.std.specs.Str.{bytes_eq}
use Rattle.serde_json.specs.Data.{Data}
use Rattle.serde_json.specs.Find.{get}
use Rattle.pt_script.specs.declared.fault.Place.{Place}
use Rattle.pt_script.specs.declared.values.Operation.TheVariants as operation
use Rattle.pt_script.specs.Members.{required, text}
use Rattle.pt_script.specs.Operations.{Spawning, tagged, spawn}
use Rattle.pt_script.specs.Scopes.{Naming, Scope, can_ask}
use Rattle.pt_script.specs.Lists.{Part, ListReader, fresh_scope, simple, spawned}

pub simple_monitor : (s : Scope) (d : Data) (op name : List ℕ) (to : ℕ) (ms : Naming) → required text (get (codes "op") d) ≡ Ok op → bytes_eq op (codes "monitor") ≡ true → tagged s d ≡ Ok (to, name) → ms ≡ (λ q. update bytes_eq s.monitors name (Some s.made) q) → simple s d ≡ Ok (operation.Monitor to s.made, record s { monitors = ms; made = s.made + 1 })
simple_monitor s d op name to ms said is_one read added = rw (said, is_one, read, added) refl

pub simple_ask : (s : Scope) (d : Data) (op name : List ℕ) (to : ℕ) (ms : Naming) → required text (get (codes "op") d) ≡ Ok op → bytes_eq op (codes "monitor") ≡ false → bytes_eq op (codes "alive") ≡ true → can_ask s ≡ true → tagged s d ≡ Ok (to, name) → ms ≡ (λ q. update bytes_eq s.asks name (Some s.made) q) → simple s d ≡ Ok (operation.Alive to s.made, record s { asks = ms; made = s.made + 1 })
simple_ask s d op name to ms said is_none is_one can read added = rw (said, is_none, is_one, can, read, added) refl

pub spawned_read : (read : ListReader) (place : Place) (s : Scope) (next seen : ℕ) (d : Data) (child : Spawning) (part : Part) (n : ℕ) (cs : Naming) → spawn s d ≡ Ok child → read (fresh_scope s.format next (Some s.own) s.tops) (next + 1) seen child.ops ≡ Ok part → n ≡ part.seen → cs ≡ (λ q. update bytes_eq s.children child.name (Some next) q) → spawned read place s next seen d ≡ Ok (record { operation = operation.Spawn next child.linked; inside = record { trap = child.trap; operations = part.operations } ∷ part.inside; seen = n; scope = record s { children = cs } })
spawned_read read place s next seen d child part n cs said got counted added = rw (said, got, counted, added) refl
