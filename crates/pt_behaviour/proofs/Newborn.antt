-- Whoever is born was not, and is then.
use Rattle.std.proofs.Common.{◌≡◌, true, false, cond, ◌||◌, Option, Some, Ok, ap, subst, ◌∙◌}
use Rattle.pt_signal.specs.declared.pid.Pid.{Pid}
use Rattle.pt_signal.specs.declared.ids.LinkId.{LinkId}
use Rattle.pt_signal.proofs.Same.{same_pid_refl}
use Rattle.pt_events.specs.declared.event.Event.TheVariants.{Born}
use Rattle.pt_events.specs.History.{unborn, is_unborn, is_the, newborn, linked, while_living}
use Rattle.pt_events.specs.Journal.{IsLocal}
use Rattle.pt_shard.specs.ShardState.{ShardState, phase_of, shard_after as written_after}
use Rattle.pt_shard.specs.Calls.{Bears}

-- a birth by a lawful journal is of one who was unborn
pub newborn_is : (parent : Option Pid) (link : Option LinkId) (p : Pid) (d e : ShardState) → Bears parent link d (Ok p) e
    → IsLocal e.start e.config.start e.config.top_version e.number e.journal → (is_unborn (phase_of d p) ≡ true) × (is_unborn (phase_of e p) ≡ false)
newborn_is parent link p d e bears local = (ap is_unborn was, ap (λ (x : ShardState). is_unborn (phase_of x p)) bears.2 ∙ born)
  where
    g : ShardState
    g = record (written_after (Born p parent link) d) { vacant = e.vacant }

    lawful : IsLocal g.start g.config.start g.config.top_version g.number g.journal
    lawful = subst (λ (x : ShardState). IsLocal x.start x.config.start x.config.top_version x.number x.journal) bears.2 local

    was : phase_of d p ≡ unborn
    was = lawful.0.may.0

    born : is_unborn (phase_of g p) ≡ false
    born i = is_unborn (cond (same_pid_refl p i || is_the p parent) (cond (same_pid_refl p i) (newborn parent link (was i)) (while_living (linked (Some p) link) (was i))) (was i))
