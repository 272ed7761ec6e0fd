-- An id or a reference with the next stamp was never made before.
use Rattle.std.proofs.Common.{◌≡◌, ℕ, ◌<◌, false, List, [], ◌∷◌, Option, Some, None, refl, arith}
use Rattle.std.proofs.lemmas.Bool.Decides.{nat_tests}
use Rattle.pt_signal.specs.declared.ids.Ref.{Ref}
use Rattle.pt_signal.specs.declared.ids.LinkId.{LinkId}
use Rattle.pt_signal.specs.declared.signal.Signal.TheVariants.{Link, Monitor, AliveAsk}
use Rattle.pt_signal.specs.Values.{same_link, same_ref}
use Rattle.pt_events.specs.declared.event.Event.{Event}
use Rattle.pt_events.specs.declared.event.Event.TheVariants.{Born, Said}
use Rattle.pt_events.specs.declared.event.Stamped.{Stamped}
use Rattle.pt_events.specs.History.{Start, makes_link, makes_ref, made_link, made_ref, is_this}
use Rattle.pt_events.specs.Journal.{events, clock, IsLocal, IsNewAt, IsLinkAt}

other_link : (i j : LinkId) (n : ℕ) → j.number ≡ n → n < i.number → same_link i j ≡ false
other_link i j n at new = grind (arith, nat_tests)

other_ref : (m k : Ref) (n : ℕ) → k.number ≡ n → n < m.number → same_ref m k ≡ false
other_ref m k n at new = grind (arith, nat_tests)

not_this : (i : LinkId) (link : Option LinkId) (d n : ℕ) → IsLinkAt d n link → n < i.number → is_this i link ≡ false
not_this i None d n at new = refl
not_this i (Some j) d n at new = other_link i j n at.1 new

makes_no_link : (i : LinkId) (e : Event) (d n : ℕ) → IsNewAt d n e → n < i.number → makes_link i e ≡ false
makes_no_link i (Born q parent link) d n at new = not_this i link d n at new
makes_no_link i (Said a b (Link j)) d n at new = other_link i j n at.1 new
makes_no_link i _ d n at new = refl

makes_no_ref : (m : Ref) (e : Event) (d n : ℕ) → IsNewAt d n e → n < m.number → makes_ref m e ≡ false
makes_no_ref m (Said a b (Monitor k)) d n at new = other_ref m k n at.1 new
makes_no_ref m (Said a b (AliveAsk k)) d n at new = other_ref m k n at.1 new
makes_no_ref m _ d n at new = refl

pub fresh_link : (start : Start) (low top d : ℕ) (journal : List Stamped) (i : LinkId) → IsLocal start low top d journal → clock low journal < i.number → made_link (events journal) i ≡ false
fresh_link start low top d [] i local new = refl
fresh_link start low top d (s ∷ journal) i local new =
    rw (makes_no_link i s.event d s.stamp local.0.new_at new) (fresh_link start low top d journal i local.1 (omega (arith, local.0.later)))

pub fresh_ref : (start : Start) (low top d : ℕ) (journal : List Stamped) (m : Ref) → IsLocal start low top d journal → clock low journal < m.number → made_ref (events journal) m ≡ false
fresh_ref start low top d [] m local new = refl
fresh_ref start low top d (s ∷ journal) m local new =
    rw (makes_no_ref m s.event d s.stamp local.0.new_at new) (fresh_ref start low top d journal m local.1 (omega (arith, local.0.later)))
