-- A start that was left behind says of each pid what became of it.
use Rattle.std.proofs.Common.{◌≡◌, Bool, true, false, cond, List, [], ◌∷◌, ◌++◌, Some, None, map, refl, sym, ap, ◌∙◌}
use Rattle.std.specs.Map.{lookup, keys_of}
use Rattle.std.specs.List.{list_any}
use Rattle.std.proofs.lemmas.Bool.{false≢true}
use Rattle.pt_signal.specs.declared.pid.Pid.{Pid}
use Rattle.pt_events.specs.declared.event.Event.{Event}
use Rattle.pt_events.specs.declared.event.Event.TheVariants.{Born, Said, Came, Took, Flag, Left, Refused}
use Rattle.pt_signal.specs.Values.{same_pid}
use Rattle.pt_events.specs.History.{Past, Start, Phase, unborn, phase_or_unborn, at_start, life, after, change, touches, is_unborn}
use Rattle.pt_events.specs.Leaving.{pids, outcome, start_after}
use Rattle.pt_signal.proofs.Same.{same_pid_is}
use Rattle.pt_events.proofs.Phases.{each_branch}

abbrev listed : Pid → List Pid → Bool
listed p ps = list_any (same_pid p) ps

-- a pid that is listed has its entry, one that is not has none
found : (f : Pid → Phase) (p : Pid) (ps : List Pid) → lookup (same_pid p) (map (λ q. (q, f q)) ps) ≡ cond (listed p ps) (Some (f p)) None
found f p [] = refl
found f p (q ∷ qs) = go (same_pid p q) refl (found f p qs)
  where
    go : (b : Bool) → same_pid p q ≡ b → lookup (same_pid p) (map (λ q. (q, f q)) qs) ≡ cond (listed p qs) (Some (f p)) None
        → lookup (same_pid p) (map (λ q. (q, f q)) (q ∷ qs)) ≡ cond (listed p (q ∷ qs)) (Some (f p)) None
    go true e ih = rw e (ap (λ z. Some (f z)) (sym (same_pid_is p q e)))
    go false e ih = rw e ih

-- the parts of a list in which a pid is not
parts : (p : Pid) (ps qs : List Pid) → listed p (ps ++ qs) ≡ false → (listed p ps ≡ false) × (listed p qs ≡ false)
parts p [] qs h = (refl, h)
parts p (q ∷ ps) qs h = go (same_pid p q) refl (parts p ps qs)
  where
    go : (b : Bool) → same_pid p q ≡ b → (listed p (ps ++ qs) ≡ false → (listed p ps ≡ false) × (listed p qs ≡ false))
        → (listed p (q ∷ ps) ≡ false) × (listed p qs ≡ false)
    go true e ih = absurd (false≢true (sym h ∙ rw e refl))
    go false e ih = let k : listed p (ps ++ qs) ≡ false = rw e at h in let i = ih k in rw e i

unlisted_start : (start : Start) (p : Pid) → listed p (keys_of start) ≡ false → lookup (same_pid p) start ≡ None
unlisted_start [] p h = refl
unlisted_start (b ∷ start) p h = go (same_pid p b.0) refl (unlisted_start start p)
  where
    go : (t : Bool) → same_pid p b.0 ≡ t → (listed p (keys_of start) ≡ false → lookup (same_pid p) start ≡ None) → lookup (same_pid p) (b ∷ start) ≡ None
    go true e ih = absurd (false≢true (sym h ∙ rw e refl))
    go false e ih = let k : listed p (keys_of start) ≡ false = rw e at h in rw e (ih k)

-- of one that is not born, nothing but its birth makes anything
still_unborn : (p : Pid) (e : Event) → (change p e unborn ≡ unborn) → after p e unborn ≡ unborn
still_unborn p e h = each_branch (λ f. f ≡ unborn) (touches p e) _ _ h refl

-- one that is not listed was never born
unlisted : (start : Start) (past : Past) (p : Pid) → listed p (pids start past) ≡ false → life start past p ≡ unborn
unlisted start [] p h = ap phase_or_unborn (unlisted_start start p h)
unlisted start (Born q parent link ∷ past) p h =
    let both = parts p (pids start past) (cond (is_unborn (life start past q)) (q ∷ []) []) h in
    let before : life start past p ≡ unborn = unlisted start past p both.0 in
    ap (after p (Born q parent link)) before ∙ still_unborn p (Born q parent link) (go before both.1 (same_pid p q) refl)
  where
    go : life start past p ≡ unborn → listed p (cond (is_unborn (life start past q)) (q ∷ []) []) ≡ false → (b : Bool) → same_pid p q ≡ b
        → change p (Born q parent link) unborn ≡ unborn
    go before rest true e =
        let u : is_unborn (life start past q) ≡ true = ap (λ z. is_unborn (life start past z)) (sym (same_pid_is p q e)) ∙ ap is_unborn before in
        let k : listed p (q ∷ []) ≡ false = rw u at rest in
        absurd (false≢true (sym k ∙ rw e refl))
    go before rest false e = rw e refl
unlisted start (Said a b x ∷ past) p h = ap (after p (Said a b x)) (unlisted start past p h) ∙ still_unborn p (Said a b x) refl
unlisted start (Came a b x ∷ past) p h = ap (after p (Came a b x)) (unlisted start past p h) ∙ still_unborn p (Came a b x) refl
unlisted start (Took q k i ∷ past) p h = ap (after p (Took q k i)) (unlisted start past p h) ∙ still_unborn p (Took q k i) refl
unlisted start (Flag q on ∷ past) p h = ap (after p (Flag q on)) (unlisted start past p h) ∙ still_unborn p (Flag q on) refl
unlisted start (Left q r ∷ past) p h = ap (after p (Left q r)) (unlisted start past p h) ∙ still_unborn p (Left q r) refl
unlisted start (Refused a b ∷ past) p h = ap (after p (Refused a b)) (unlisted start past p h) ∙ still_unborn p (Refused a b) refl

-- each pid is at the start what became of it
pub leaves_each : (start : Start) (past : Past) (p : Pid) → at_start (start_after start past) p ≡ outcome (life start past p)
leaves_each start past p =
    ap phase_or_unborn (found (λ q. outcome (life start past q)) p (pids start past)) ∙ go (listed p (pids start past)) refl
  where
    go : (b : Bool) → listed p (pids start past) ≡ b → phase_or_unborn (cond (listed p (pids start past)) (Some (outcome (life start past p))) None) ≡ outcome (life start past p)
    go true e = rw e refl
    go false e = rw e (sym (ap outcome (unlisted start past p e)))
