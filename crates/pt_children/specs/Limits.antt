-- How many restarts a supervisor makes.
use Rattle.std.specs.Prelude.{◌≡◌, ℕ, ◌-◌, nat_le, nat_lt, cond, Bool, true, false, List, [], ◌∷◌, ◌++◌, length, filter}
use Rattle.pt_signal.specs.declared.reason.Reason.{Reason}
use Rattle.pt_children.specs.declared.gave_up.GaveUp.{GaveUp}
use Rattle.pt_children.specs.declared.limit.Limit.{Limit}

-- no restart was made
abbrev pub is_none : ℕ → ℕ → Bool → Limit → Type 0
is_none most span timed l = (l.times.items ≡ []) × (l.most ≡ most) × (l.span ≡ span) × (l.timed ≡ timed)

-- the moment by which a limit counts: a time, or a stamp of the desk
abbrev pub moment : Bool → ℕ → ℕ → ℕ
moment timed stamp time = cond timed time stamp

-- of these moments those that were within the last span, those too that are just so old
abbrev pub recent : ℕ → ℕ → List ℕ → List ℕ
recent now span times = filter (λ time. nat_le (now - time) span) times

-- one more restart is allowed where there were fewer than the most
abbrev pub allows : ℕ → ℕ → ℕ → List ℕ → Bool
allows now span most times = nat_lt (length (recent now span times)) most

abbrev pub counted_restarts : Bool → ℕ → List ℕ → List ℕ
counted_restarts true now times = times ++ now ∷ []
counted_restarts false now times = times

-- where one more is allowed it is counted; older ones are forgotten
abbrev pub Allows : ℕ → Limit → Bool → Limit → Type 0
Allows now old answer new =
    (answer ≡ allows now old.span old.most old.times.items)
    × (new.times.items ≡ counted_restarts answer now (recent now old.span old.times.items))
    × (new.most ≡ old.most) × (new.span ≡ old.span) × (new.timed ≡ old.timed)

-- why no more restart is made, where the child with this id exited in this place, and so many were made within the span
abbrev pub gave_up_over : ℕ → ℕ → Reason → List ℕ → ℕ → Bool → GaveUp
gave_up_over id place reason times span timed = record {
  id = id;
  place = place;
  reason = reason;
  restarts = length times;
  span = span;
  timed = timed;
}
