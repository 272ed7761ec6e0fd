-- What each call of names does.
use Rattle.std.specs.Prelude.{◌≡◌, cond, Option, Some, None, Result, Ok, Err}
use Rattle.pt_signal.specs.declared.pid.Pid.{Pid}
use Rattle.pt_signal.specs.declared.ids.Ref.{Ref}
use Rattle.pt_signal.specs.Values.{same_pid}
use Rattle.pt_names.specs.declared.name.Name.{Name}
use Rattle.pt_names.specs.declared.names.Holder.{Holder}
use Rattle.pt_names.specs.declared.names.RegisterError.{RegisterError}
use Rattle.pt_names.specs.declared.names.RegisterError.TheVariants.{Taken, HasName, Memory}
use Rattle.pt_names.specs.State.{NamesState, holder_of, pid_of, name_at, same_name}

-- no process has a name
pub record IsNone (s : NamesState) : Type 0 where
  pub holders : (n : Name) → holder_of s n ≡ None
  pub names : (p : Pid) → name_at s p ≡ None

-- no process has the name, and the process has none
pub record IsFree (n : Name) (p : Pid) (s : NamesState) : Type 0 where
  pub holder : holder_of s n ≡ None
  pub name : name_at s p ≡ None

abbrev pub Checks : Name → Pid → NamesState → Result (Unit {0}) RegisterError → Type 0
Checks n p s (Ok done) = IsFree n p s
Checks n p s (Err (Taken q)) = pid_of s n ≡ Some q
Checks n p s (Err (HasName other)) = (holder_of s n ≡ None) × (name_at s p ≡ Some other)
Checks n p s (Err Memory) = ⊥

-- the name has this holder, or none; the process has this name, or none; and all others are as they were
pub record NamesChange (n : Name) (holder : Option Holder) (p : Pid) (name : Option Name) (old new : NamesState)
    : Type 0 where
  pub holders : (a : Name) → holder_of new a ≡ cond (same_name n a) holder (holder_of old a)
  pub names : (q : Pid) → name_at new q ≡ cond (same_pid p q) name (name_at old q)

abbrev pub Registers : Name → Pid → Ref → NamesState → Result (Unit {0}) RegisterError → NamesState → Type 0
Registers n p m old (Ok done) new =
    IsFree n p old × NamesChange n (Some (record { pid = p; monitor = m })) p (Some n) old new
Registers n p m old (Err Memory) new = IsFree n p old × (new ≡ old)
Registers n p m old (Err e) new = Checks n p old (Err e) × (new ≡ old)

abbrev pub Unregisters : Name → NamesState → Option Holder → NamesState → Type 0
Unregisters n old (Some h) new = (holder_of old n ≡ Some h) × NamesChange n None h.pid None old new
Unregisters n old None new = (holder_of old n ≡ None) × (new ≡ old)

abbrev pub Forgets : Pid → NamesState → Option Name → NamesState → Type 0
Forgets p old (Some n) new = (name_at old p ≡ Some n) × NamesChange n None p None old new
Forgets p old None new = (name_at old p ≡ None) × (new ≡ old)
