-- The arrows of a list that is one longer.
use Rattle.std.proofs.Common.{◌≡◌, ℕ, ◌+◌, ◌<◌, List, [], ◌∷◌, ◌++◌, length, take, get_or, ap, sym, ◌∙◌, append_assoc}
use Rattle.std.proofs.lemmas.List.{append-nil, take_more}
use Rattle.pt_signal.specs.declared.pid.Pid.{Pid}
use Rattle.pt_events.specs.declared.event.Stamped.{Stamped}
use Rattle.pt_chart.specs.declared.layout.Arrow.{Arrow}
use Rattle.pt_chart.specs.declared.layout.Sending.{Sending}
use Rattle.pt_chart.specs.Chart.{arrow, arrows}

pub arrows_more : (events : List Stamped) (ps : List Pid) (a : Pid) (earlier sent : List Sending) (l : Sending)
    → arrows events ps a earlier (sent ++ l ∷ []) ≡ arrows events ps a earlier sent ++ arrow events ps a (earlier ++ sent) l ∷ []
arrows_more events ps a earlier [] l = ap (λ z. arrow events ps a z l ∷ []) (sym (append-nil earlier))
arrows_more events ps a earlier (k ∷ sent) l =
    ap (λ z. arrow events ps a earlier k ∷ z) (arrows_more events ps a (earlier ++ k ∷ []) sent l
    ∙ ap (λ z. arrows events ps a (earlier ++ k ∷ []) sent ++ arrow events ps a z l ∷ []) (append_assoc earlier (k ∷ []) sent))

-- the arrow of the letter at k is one more
pub arrows_next : (events : List Stamped) (ps : List Pid) (a : Pid) (sent : List Sending) (k : ℕ) (l : Sending) (before after : List Arrow) (x : Arrow)
    → k < length sent → x ≡ arrow events ps a (take k sent) (get_or sent k l) → before ≡ arrows events ps a [] (take k sent) → after ≡ before ++ x ∷ []
    → after ≡ arrows events ps a [] (take (k + 1) sent)
arrows_next events ps a sent k l before after x h is made pushed =
    pushed ∙ ap (λ z. z ++ x ∷ []) made ∙ ap (λ z. arrows events ps a [] (take k sent) ++ z ∷ []) is
    ∙ sym (ap (arrows events ps a []) (take_more sent k l h) ∙ arrows_more events ps a [] (take k sent) (get_or sent k l))
