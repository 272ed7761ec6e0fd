-- Which event ends a process, and which bears it.
use Rattle.std.proofs.Common.{◌≡◌, ℕ, ◌<◌, Bool, true, false, cond, ◌||◌, ◌∷◌, Option, Some, None, refl, subst, sym, ap}
use Rattle.std.specs.Prelude.{⊤, is_some, MatchOption, pred}
use Rattle.pt_signal.specs.declared.pid.Pid.{Pid}
use Rattle.pt_signal.specs.declared.signal.Signal.{Signal}
use Rattle.pt_signal.specs.declared.ids.LinkId.{LinkId}
use Rattle.pt_signal.specs.declared.reason.Reason.{Reason}
use Rattle.pt_signal.specs.Values.{same_pid, fits, without_first}
use Rattle.pt_signal.specs.Process.{ProcessState, handle, say}
use Rattle.pt_events.specs.declared.event.Event.{Event}
use Rattle.pt_events.specs.declared.event.Event.TheVariants.{Born, Said, Came, Took, Flag, Left, Refused}
use Rattle.pt_events.specs.History.{Past, Start, Phase, unborn, living, ended, life, after, change, touches, gets, leaves, live_or_end, while_living, newborn, linked, is_the, is_unborn, is_living, is_ended, is_birth}
use Rattle.pt_events.specs.Journal.{MayHere, IsHome, IsKnown}
use Rattle.pt_signal.proofs.Same.{same_pid_refl, same_pid_is}
use Rattle.pt_events.proofs.Phases.{each_branch}
use Rattle.pt_shard.specs.ShardState.{is_ended_by, ended_in}

live_or_end_ends : (o : Option Reason) (s : ProcessState) → is_some o ≡ true → is_ended (live_or_end o s) ≡ true
live_or_end_ends None s h = absurd (cc)
live_or_end_ends (Some r) s h = refl

gets_ends : (f : Phase) (b a : Pid) (x : Signal) → is_ended_by f b a x ≡ true → is_ended (gets b a x f) ≡ true
gets_ends unborn b a x h = absurd (cc)
gets_ends (living s) b a x h = live_or_end_ends (handle b s a x).ending (handle b s a x).state h
gets_ends (ended r s) b a x h = refl

leaves_ends : (r : Reason) (f : Phase) → is_living f ≡ true → is_ended (leaves r f) ≡ true
leaves_ends r unborn h = absurd (cc)
leaves_ends r (living s) h = refl
leaves_ends r (ended q s) h = refl

module _ (start : Start) (past : Past) where
  -- whoever the event ends has ended after it
  pub ends : (e : Event) → MayHere start past e → MatchOption (ended_in start past e) ⊤ (λ p. is_ended (life start (e ∷ past) p) ≡ true)
  ends (Came a b x) may = go (is_ended_by (life start past b) b a x) refl
    where
      go : (t : Bool) → is_ended_by (life start past b) b a x ≡ t → MatchOption (cond t (Some b) None) ⊤ (λ p. is_ended (life start (Came a b x ∷ past) p) ≡ true)
      go true h = rw (same_pid_refl b) (gets_ends (life start past b) b a x h)
      go false h = tt
  ends (Left p r) may = rw (same_pid_refl p) (leaves_ends r (life start past p) may)
  ends _ may = tt

  -- and is of the event's desk
  pub of_home : (d : ℕ) (e : Event) → IsHome d e → MatchOption (ended_in start past e) ⊤ (λ p. p.shard ≡ d)
  of_home d (Came a b x) home = go (is_ended_by (life start past b) b a x)
    where
      go : (t : Bool) → MatchOption (cond t (Some b) None) ⊤ (λ p. p.shard ≡ d)
      go true = home
      go false = tt
  of_home d (Left p r) home = home
  of_home d _ home = tt

-- none of p's own events but its exit and what comes to it ends it ----------------------

live_or_end_ended : (o : Option Reason) (s : ProcessState) → is_ended (live_or_end o s) ≡ true → is_some o ≡ true
live_or_end_ended None s h = absurd (cc)
live_or_end_ended (Some r) s h = refl

gets_ended : (f : Phase) (b a : Pid) (x : Signal) → is_ended f ≡ false → is_ended (gets b a x f) ≡ true → is_ended_by f b a x ≡ true
gets_ended unborn b a x h k = absurd (cc)
gets_ended (living s) b a x h k = live_or_end_ended (handle b s a x).ending (handle b s a x).state k
gets_ended (ended r s) b a x h k = absurd (cc)

while_not_ended : (step : ProcessState → ProcessState) (f : Phase) → is_ended f ≡ false → is_ended (while_living step f) ≡ false
while_not_ended step unborn h = refl
while_not_ended step (living s) h = refl
while_not_ended step (ended r s) h = h

newborn_not_ended : (parent : Option Pid) (link : Option LinkId) (f : Phase) → is_ended f ≡ false → is_ended (newborn parent link f) ≡ false
newborn_not_ended parent link unborn h = refl
newborn_not_ended parent link (living s) h = refl
newborn_not_ended parent link (ended r s) h = h

-- whether or not the event is p's
not_ended : (t : Bool) (f g : Phase) → is_ended f ≡ false → is_ended g ≡ false → is_ended (cond t f g) ≡ false
not_ended t f g h k = each_branch (λ f. is_ended f ≡ false) t f g h k

module _ (start : Start) (past : Past) (p : Pid) (runs : is_ended (life start past p) ≡ false) where
  -- where p has ended after the event, and not before it, the event is what ended it
  pub ended_by_it : (e : Event) → is_ended (life start (e ∷ past) p) ≡ true → ended_in start past e ≡ Some p
  ended_by_it (Came a b x) h = go (same_pid p b) refl h
    where
      go : (t : Bool) → same_pid p b ≡ t → is_ended (cond t (gets p a x (life start past p)) (life start past p)) ≡ true → ended_in start past (Came a b x) ≡ Some p
      go true is k =
          let it : p ≡ b = same_pid_is p b is in
          subst (λ q. cond (is_ended_by (life start past q) q a x) (Some q) None ≡ Some p) it
          (ap (λ t. cond t (Some p) None) (gets_ended (life start past p) p a x runs k))
      go false is k = absurd (cc)
  ended_by_it (Left q r) h = go (same_pid p q) refl h
    where
      go : (t : Bool) → same_pid p q ≡ t → is_ended (cond t (leaves r (life start past p)) (life start past p)) ≡ true → ended_in start past (Left q r) ≡ Some p
      go true is k = ap Some (sym (same_pid_is p q is))
      go false is k = absurd (cc)
  ended_by_it (Born q parent link) h =
      let f = life start past p in
      let k = not_ended (same_pid p q || is_the p parent) _ f
      (not_ended (same_pid p q) _ _ (newborn_not_ended parent link f runs) (while_not_ended (linked (Some q) link) f runs)) runs in absurd (cc)
  ended_by_it (Said a b x) h = let k = not_ended (same_pid p a) _ _ (while_not_ended (λ s. say s b x) (life start past p) runs) runs in absurd (cc)
  ended_by_it (Took q i j) h = let k = not_ended (same_pid p q) _ _ (while_not_ended (λ s. record s { waiting = without_first (fits i) s.waiting }) (life start past p) runs) runs in absurd (cc)
  ended_by_it (Flag q on) h = let k = not_ended (same_pid p q) _ _ (while_not_ended (λ s. record s { traps = on }) (life start past p) runs) runs in absurd (cc)
  ended_by_it (Refused a b) h = absurd (cc)

-- births -------------------------------------------------------------------------------

change_unborn : (p : Pid) (e : Event) → is_birth p e ≡ false → is_unborn (change p e unborn) ≡ true
change_unborn p (Born q parent link) h = rw h refl
change_unborn p _ h = refl

pub no_birth : (p : Pid) (e : Event) (f : Phase) → is_birth p e ≡ false → is_unborn f ≡ true → is_unborn (after p e f) ≡ true
no_birth p e unborn h k = each_branch (λ g. is_unborn g ≡ true) (touches p e) _ _ (change_unborn p e h) refl
no_birth p e (living s) h k = absurd (cc)
no_birth p e (ended r s) h k = absurd (cc)

-- the pid of this slot with another version
abbrev pub at_version : Pid → ℕ → Pid
at_version p v = record { shard = p.shard; slot = p.slot; version = v }

-- a version is born after its predecessor has ended
pub birth_known : (start : Start) (top d : ℕ) (past : Past) (p : Pid) (e : Event) → is_birth p e ≡ true → IsKnown start d top past e
    → (0 < p.version) × (1 < p.version → is_ended (life start past (at_version p (pred p.version))) ≡ true)
birth_known start top d past p (Born q parent link) h k =
    subst (λ q. (0 < q.version) × (1 < q.version → is_ended (life start past (at_version q (pred q.version))) ≡ true)) (sym (same_pid_is p q h)) (k.0, k.2)
birth_known start top d past p _ h k = absurd (cc)
