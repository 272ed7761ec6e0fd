-- Whoever was born on a desk is of it.
use Rattle.std.proofs.Common.{◌≡◌, ⊎_elim, ℕ, Bool, false, true, cond, List, [], ◌∷◌, Some, sym, ap, ◌∙◌, refl}
use Rattle.std.specs.Map.{lookup}
use Rattle.std.proofs.lemmas.Bool.{cases_eq, ne_eqb}
use Rattle.pt_signal.specs.declared.pid.Pid.{Pid}
use Rattle.pt_signal.specs.Values.{same_pid}
use Rattle.pt_events.specs.declared.event.Stamped.{Stamped}
use Rattle.pt_events.specs.History.{Start, unborn, at_start, phase_or_unborn, change, is_unborn, life}
use Rattle.pt_events.specs.Journal.{IsLocal, events}
use Rattle.pt_events.proofs.Local.{home_untouched}
use Rattle.pt_shard.specs.Begun.{Every}
use Rattle.pt_gathered.proofs.Starts.{elsewhere}

nobody_else : (d : ℕ) (start : Start) (q : Pid) → Every (λ b. b.0.shard ≡ d) start → (q.shard ≡ d → ⊥) → at_start start q ≡ unborn
nobody_else d [] q own other = refl
nobody_else d (b ∷ start) q own other =
    ap (λ (t : Bool). phase_or_unborn (cond t (Some b.1) (lookup (same_pid q) start))) (elsewhere q b.0 (λ e. other (e ∙ own.0))) ∙ nobody_else d start q own.1 other

never_else : (d : ℕ) (start any : Start) (low top : ℕ) (journal : List Stamped) (q : Pid) → IsLocal any low top d journal → (q.shard ≡ d → ⊥) → at_start start q ≡ unborn → life start (events journal) q ≡ unborn
never_else d start any low top [] q local other none = none
never_else d start any low top (s ∷ journal) q local other none =
    ap (λ (t : Bool). cond t (change q s.event (life start (events journal) q)) (life start (events journal) q)) (home_untouched d q s.event local.0.home (ne_eqb d q.shard (λ e. other (sym e))))
    ∙ never_else d start any low top journal q local.1 other none

pub born_here : (d : ℕ) (start any : Start) (low top : ℕ) (journal : List Stamped) (q : Pid) → Every (λ b. b.0.shard ≡ d) start → IsLocal any low top d journal → is_unborn (life start (events journal) q) ≡ false → q.shard ≡ d
born_here d start any low top journal q own local born = ⊎_elim
    (λ (same : q.shard ≡ d). same)
    (λ (other : q.shard ≡ d → ⊥).
    let none : is_unborn (life start (events journal) q) ≡ true = ap is_unborn (never_else d start any low top journal q local other (nobody_else d start q own other)) in
    absurd (let bad : false ≡ true = sym born ∙ none in cc))
    (cases_eq q.shard d)
