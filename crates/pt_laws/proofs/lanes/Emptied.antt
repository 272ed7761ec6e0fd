-- Lanes that leave nothing over are quiet, and the oldest letter of a lane may come.
use Rattle.std.proofs.Common.{◌≡◌, ℕ, true, ◌==◌, List, [], ◌∷◌, map, filter, refl, sym, ap, ◌∙◌}
use Rattle.std.proofs.lemmas.Bool.{and_parts, and_from, eq-eqb}
use Rattle.std.specs.List.{find}
use Rattle.pt_signal.specs.declared.letter.Letter.{Letter}
use Rattle.pt_signal.specs.Process.{Sent}
use Rattle.pt_events.specs.declared.event.Event.TheVariants.{Came}
use Rattle.pt_events.specs.History.{Past, Start, flying, is_between, May}
use Rattle.pt_events.specs.Journal.{content, in_lane}
use Rattle.pt_laws.specs.Laws.{LanesFly}
use Rattle.pt_laws.specs.Load.{IsQuiet}
use Rattle.pt_signal.proofs.Same.{same_pid_is, same_pid_refl}
use Rattle.pt_laws.proofs.Firsts.{first_wider}

-- no lane has a letter in flight
pub empty_is_quiet : (start : Start) (past : Past) → LanesFly start past (λ d e. []) → IsQuiet start past
empty_is_quiet start past h = go (flying start past) h
  where
    go : (ls : List Sent) → ((d e : ℕ) → filter (in_lane d e) ls ≡ []) → ls ≡ []
    go [] k = refl
    go (l ∷ ls) k =
        let z = k l.from.shard l.to.shard in
        let one : in_lane l.from.shard l.to.shard l ≡ true = rw (eq-eqb l.from.shard l.from.shard refl, eq-eqb l.to.shard l.to.shard refl) refl in
        let y : l ∷ filter (in_lane l.from.shard l.to.shard) ls ≡ [] = rw one at z in absurd (cc)

-- the oldest left-over letter of a lane may come
pub oldest_may_come : (start : Start) (past : Past) (over : ℕ → ℕ → List Letter) (l : Letter) (rest : List Letter) → LanesFly start past over
    → over l.from.shard l.to.shard ≡ l ∷ rest → May start past (Came l.from l.to l.signal)
oldest_may_come start past over l rest f h =
    sym (first_wider (is_between l.from l.to) (in_lane l.from.shard l.to.shard) (λ m p. wide m p) (flying start past))
    ∙ ap (find (is_between l.from l.to)) (f l.from.shard l.to.shard ∙ ap (map content) h)
    ∙ rw (same_pid_refl l.from, same_pid_refl l.to) refl
  where
    wide : (m : Sent) → is_between l.from l.to m ≡ true → in_lane l.from.shard l.to.shard m ≡ true
    wide m p =
        let e = and_parts _ _ p in
        and_from (m.from.shard == l.from.shard) (m.to.shard == l.to.shard)
        (eq-eqb _ _ (sym (ap (λ z. z.shard) (same_pid_is l.from m.from e.0)))) (eq-eqb _ _ (sym (ap (λ z. z.shard) (same_pid_is l.to m.to e.1))))
