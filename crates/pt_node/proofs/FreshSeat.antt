-- The sight of a desk on which nothing has happened.
use Rattle.std.proofs.Common.{◌≡◌, ℕ, zero, suc, ◌==◌, Bool, true, false, cond, None, [], refl, sym, subst}
use Rattle.pt_signal.specs.declared.pid.Pid.{Pid}
use Rattle.pt_accounts.specs.Table.{TableTells, found, of_version}
use Rattle.pt_directory.specs.Seats.{DirectoryState}
use Rattle.pt_directory.proofs.Lists.{at_nothing}
use Rattle.pt_signal.specs.declared.config.Config.{Config}
use Rattle.pt_shard.specs.Opening.{fresh_shard}
use Rattle.pt_desk.specs.Sight.{IsSeated}

-- of nobody there is nothing to tell
none_told : (d : ℕ) (p : Pid) → TableTells [] [] p (found d [] p)
none_told d p = subst (TableTells [] [] p) (sym (go (p.shard == d) p.version)) (refl, refl)
  where
    go : (b : Bool) (v : ℕ) → cond b (of_version [] v) None ≡ None
    go true zero = refl
    go true (suc v) = refl
    go false v = refl

-- it has looked nowhere, and nobody was before its journal
pub fresh_seated : (c : Config) (d : ℕ) (directory : DirectoryState) → directory.desks ≡ c.desks → directory.slots ≡ c.slots
    → IsSeated (fresh_shard c d) (record { directory = directory; reads = []; before = record { desk = d; slots = []; read = 0 }; told = [] })
fresh_seated c d directory desks slots = record {
  desks = desks;
  slots = slots;
  near = λ j r at. absurd (at_nothing r j at);
  seen = tt;
  words = tt;
  told = (refl, λ p here. none_told d p);
  unread = refl;
  old = record { each = λ k x at. absurd (at_nothing x k at); all = λ p here h. absurd (cc) };
  turns = λ p born. absurd (cc);
}
