-- In a legal history what came is the front of what was sent, pair by pair, and the rest is in flight.
use Rattle.std.proofs.Common.{◌≡◌, Bool, true, false, cond, ◌&&◌, List, [], ◌∷◌, ◌++◌, Some, map, filter, refl, sym, ap, ◌∙◌, subst₂, append_assoc, append-nil}
use Rattle.std.proofs.lemmas.List.{map-append}
use Rattle.std.proofs.lemmas.List.Elements.{filter-append}
use Rattle.std.proofs.lemmas.Bool.{and_parts}
use Rattle.std.specs.List.{find}
use Rattle.pt_signal.specs.declared.pid.Pid.{Pid}
use Rattle.pt_signal.specs.declared.signal.Signal.{Signal}
use Rattle.pt_events.specs.declared.event.Event.TheVariants.{Came}
use Rattle.pt_signal.specs.Values.{same_pid}
use Rattle.pt_signal.specs.Process.{Sent, sent}
use Rattle.pt_events.specs.History.{Past, Start, IsLegal, is_between, flying, all_sent, landed, sent_by, emitted, flight, came}
use Rattle.pt_signal.proofs.Same.{same_pid_is}
use Rattle.pt_laws.proofs.Firsts.{filter_first, filter_other}

-- the signals from a to b among letters
abbrev pub between : Pid → Pid → List Sent → List Signal
between a b ls = map (λ l. l.signal) (filter (is_between a b) ls)

pub between-append : (a b : Pid) (xs ys : List Sent) → between a b (xs ++ ys) ≡ between a b xs ++ between a b ys
between-append a b xs ys = rw (filter-append (is_between a b) xs ys, map-append)

-- a letter of one pair is of no other
pub is_between_other : (a b c d : Pid) → (same_pid a c && same_pid b d) ≡ false → (l : Sent) → is_between c d l ≡ true → is_between a b l ≡ false
is_between_other a b c d h l p =
    let q = and_parts _ _ p in
    let e1 : c ≡ l.from = same_pid_is _ _ q.0 in
    let e2 : d ≡ l.to = same_pid_is _ _ q.1 in
    rw (← e1, ← e2) h

-- a receipt takes the first of its pair
pub landed_same : (a b : Pid) (x : Signal) (ls : List Sent) → find (is_between a b) ls ≡ Some (sent a b x)
    → between a b ls ≡ x ∷ between a b (landed (Came a b x) ls)
landed_same a b x ls h = ap (map (λ l. l.signal)) (filter_first (is_between a b) ls (sent a b x) h)

landed_other : (a b c d : Pid) (x : Signal) (ls : List Sent) → (same_pid a c && same_pid b d) ≡ false
    → between a b (landed (Came c d x) ls) ≡ between a b ls
landed_other a b c d x ls h = ap (map (λ l. l.signal)) (filter_other (is_between a b) (is_between c d) (is_between_other a b c d h) ls)

module _ (start : Start) where
  -- an event other than a receipt
  plain : (past : Past) (a b : Pid) (new : List Sent) → emitted start past a b ≡ came past a b ++ flight start past a b
      → between a b (all_sent start past ++ new) ≡ (came past a b ++ []) ++ between a b (flying start past ++ new)
  plain past a b new ih =
      between-append a b (all_sent start past) new
      ∙ ap (λ z. z ++ between a b new) ih
      ∙ append_assoc (came past a b) (flight start past a b) (between a b new)
      ∙ ap (λ z. came past a b ++ z) (sym (between-append a b (flying start past) new))
      ∙ ap (λ z. z ++ between a b (flying start past ++ new)) (sym (append-nil (came past a b)))

  -- a receipt of the pair
  receipt : (past : Past) (a b : Pid) (x : Signal) (new : List Sent) → find (is_between a b) (flying start past) ≡ Some (sent a b x)
      → emitted start past a b ≡ came past a b ++ flight start past a b
      → between a b (all_sent start past ++ new) ≡ (came past a b ++ x ∷ []) ++ between a b (landed (Came a b x) (flying start past) ++ new)
  receipt past a b x new m ih =
      between-append a b (all_sent start past) new
      ∙ ap (λ z. z ++ between a b new) (ih ∙ ap (λ z. came past a b ++ z) (landed_same a b x (flying start past) m))
      ∙ append_assoc (came past a b) (x ∷ between a b (landed (Came a b x) (flying start past))) (between a b new)
      ∙ ap (λ z. came past a b ++ x ∷ z) (sym (between-append a b (landed (Came a b x) (flying start past)) new))
      ∙ sym (append_assoc (came past a b) (x ∷ []) (between a b (landed (Came a b x) (flying start past) ++ new)))

  receipt_any : (past : Past) (a b c d : Pid) (x : Signal) (new : List Sent) → find (is_between c d) (flying start past) ≡ Some (sent c d x)
      → emitted start past a b ≡ came past a b ++ flight start past a b
      → (t : Bool) → (same_pid a c && same_pid b d) ≡ t
      → between a b (all_sent start past ++ new) ≡ (came past a b ++ cond t (x ∷ []) []) ++ between a b (landed (Came c d x) (flying start past) ++ new)
  receipt_any past a b c d x new m ih true e =
      let q = and_parts _ _ e in
      let G : Pid → Pid → Type 0 = λ c d. find (is_between c d) (flying start past) ≡ Some (sent c d x)
      → between a b (all_sent start past ++ new) ≡ (came past a b ++ x ∷ []) ++ between a b (landed (Came c d x) (flying start past) ++ new) in
      subst₂ G (same_pid_is a c q.0) (same_pid_is b d q.1) (λ m. receipt past a b x new m ih) m
  receipt_any past a b c d x new m ih false e =
      plain past a b new ih
      ∙ ap (λ z. (came past a b ++ []) ++ z)
      (between-append a b (flying start past) new
      ∙ ap (λ z. z ++ between a b new) (sym (landed_other a b c d x (flying start past) e))
      ∙ sym (between-append a b (landed (Came c d x) (flying start past)) new))

  pub came_or_flies : (past : Past) (a b : Pid) → IsLegal start past → emitted start past a b ≡ came past a b ++ flight start past a b
  came_or_flies [] a b h = refl
  came_or_flies (Came c d x ∷ past) a b h = receipt_any past a b c d x _ h.0 (came_or_flies past a b h.1) _ refl
  came_or_flies (e ∷ past) a b h = plain past a b (sent_by start past e) (came_or_flies past a b h.1)
