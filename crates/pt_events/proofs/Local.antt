-- What a pid is after a history is read from the events of its own desk.
use Rattle.std.proofs.Common.{◌≡◌, ℕ, Bool, true, false, cond, ◌==◌, List, [], ◌∷◌, ◌++◌, Option, Some, None, refl, sym, ap, ◌∙◌, append-nil}
use Rattle.std.proofs.lemmas.Bool.{ne_eqb, eqb-false}
use Rattle.pt_signal.specs.declared.pid.Pid.{Pid}
use Rattle.pt_events.specs.declared.event.Event.{Event}
use Rattle.pt_events.specs.declared.event.Event.TheVariants.{Born, Said, Came, Took, Flag, Left}
use Rattle.pt_events.specs.declared.event.Stamped.{Stamped}
use Rattle.pt_signal.specs.Values.{same_pid}
use Rattle.pt_events.specs.History.{Past, Start, Phase, life, after, touches, is_the, arrived_since, arrives, items_of}
use Rattle.pt_events.specs.Journal.{events, of_desk, IsHome, IsOf}
pub use Rattle.pt_events.specs.Locality.{AllHome}
use Rattle.pt_signal.proofs.Same.{same_pid_apart}

-- shards ---------------------------------------------------------------------------

apart : (p q : Pid) (d : ℕ) → q.shard ≡ d → (d == p.shard) ≡ false → same_pid p q ≡ false
apart p q d e h = same_pid_apart p q (rw e (flip d p.shard h))
  where
    flip : (m n : ℕ) → (m == n) ≡ false → (n == m) ≡ false
    flip m n h = ne_eqb n m (λ e. eqb-false m n h (sym e))

the_apart : (p : Pid) (q : Option Pid) (d : ℕ) → IsOf d q → (d == p.shard) ≡ false → is_the p q ≡ false
the_apart p None d e h = refl
the_apart p (Some q) d e h = apart p q d e h

-- an event of another desk is none of p's own
pub home_untouched : (d : ℕ) (p : Pid) (e : Event) → IsHome d e → (d == p.shard) ≡ false → touches p e ≡ false
home_untouched d p (Born q parent link) i h = rw (apart p q d i.0 h) (the_apart p parent d i.1 h)
home_untouched d p (Said a b x) i h = apart p a d i h
home_untouched d p (Came a b x) i h = apart p b d i h
home_untouched d p (Took q k j) i h = apart p q d i h
home_untouched d p (Flag q on) i h = apart p q d i h
home_untouched d p (Left q r) i h = apart p q d i h
home_untouched d p _ i h = refl

module _ (start : Start) (p : Pid) where
  pub life_local : (merged : List Stamped) → AllHome merged → life start (events (of_desk p.shard merged)) p ≡ life start (events merged) p
  life_local [] h = refl
  life_local (s ∷ merged) h = go (s.desk == p.shard) refl (life_local merged h.1)
    where
      go : (b : Bool) → (s.desk == p.shard) ≡ b → life start (events (of_desk p.shard merged)) p ≡ life start (events merged) p
          → life start (events (of_desk p.shard (s ∷ merged))) p ≡ life start (events (s ∷ merged)) p
      go true e ih = rw e (ap (after p s.event) ih)
      go false e ih = rw (e, home_untouched s.desk p s.event h.0 e) ih

  arrives_at : (past : Past) (f : Phase) (e : Event) → touches p e ≡ false → arrives start past p e ≡ []
  arrives_at past f (Came a b x) h = rw h refl
  arrives_at past f _ h = refl

  arrives_same : (past rest : Past) (e : Event) → life start past p ≡ life start rest p → arrives start past p e ≡ arrives start rest p e
  arrives_same past rest (Came a b x) h = ap (λ f. cond (same_pid p b) (items_of f p a x) []) h
  arrives_same past rest _ h = refl

  pub arrived_local : (merged : List Stamped) → AllHome merged → arrived_since start (events (of_desk p.shard merged)) p ≡ arrived_since start (events merged) p
  arrived_local [] h = refl
  arrived_local (s ∷ merged) h = go (s.desk == p.shard) refl (arrived_local merged h.1) (life_local merged h.1)
    where
      go : (b : Bool) → (s.desk == p.shard) ≡ b → arrived_since start (events (of_desk p.shard merged)) p ≡ arrived_since start (events merged) p
          → life start (events (of_desk p.shard merged)) p ≡ life start (events merged) p
          → arrived_since start (events (of_desk p.shard (s ∷ merged))) p ≡ arrived_since start (events (s ∷ merged)) p
      go true e ih k = rw e (rw ih (ap (λ z. arrived_since start (events merged) p ++ z) (arrives_same (events (of_desk p.shard merged)) (events merged) s.event k)))
      go false e ih k = rw (e, arrives_at (events merged) (life start (events merged) p) s.event (home_untouched s.desk p s.event h.0 e)) (ih ∙ sym (append-nil _))
