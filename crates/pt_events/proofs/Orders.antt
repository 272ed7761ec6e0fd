-- Journals in order, and one event more at their end.
use Rattle.std.proofs.Common.{◌≡◌, ℕ, ◌≤◌, List, [], ◌∷◌, ◌++◌, map, reverse, sym, ap, subst, arith}
use Rattle.std.proofs.lemmas.List.{reverse-append}
use Rattle.pt_events.specs.declared.event.Stamped.{Stamped}
use Rattle.pt_events.specs.History.{Start, IsLegal, May, sent_by}
use Rattle.pt_events.specs.Journal.{events, letter, clock, IsLocal, IsNext, letters}
use Rattle.pt_events.specs.declared.event.Event.{Event}

pub reverse_push : {X : Type 0} (xs : List X) (x : X) → reverse (xs ++ x ∷ []) ≡ x ∷ reverse xs
reverse_push xs x = reverse-append xs (x ∷ [])

-- a journal in order that gets one event that may come next
pub local_push : (start : Start) (low top d : ℕ) (journal : List Stamped) (s : Stamped) → IsLocal start low top d (reverse journal) → IsNext start low top d (reverse journal) s → IsLocal start low top d (reverse (journal ++ s ∷ []))
local_push start low top d journal s h n = subst (IsLocal start low top d) (sym (reverse_push journal s)) (n, h)

pub legal_push : (start : Start) (h : List Event) (e : Event) → IsLegal start (reverse h) → May start (reverse h) e → IsLegal start (reverse (h ++ e ∷ []))
legal_push start h e l m = subst (IsLegal start) (sym (reverse_push h e)) (m, l)

pub letters_push : (start : Start) (journal : List Stamped) (s : Stamped) → letters start (reverse (journal ++ s ∷ [])) ≡ letters start (reverse journal) ++ map (letter s.stamp) (sent_by start (events (reverse journal)) s.event)
letters_push start journal s = ap (letters start) (reverse_push journal s)

-- a journal's clock is not below its start
pub clock_above : (start : Start) (low top d : ℕ) (journal : List Stamped) → IsLocal start low top d journal → low ≤ clock low journal
clock_above start low top d [] h = omega arith
clock_above start low top d (s ∷ journal) h = let ih = clock_above start low top d journal h.1 in let l = h.0.later in omega arith
