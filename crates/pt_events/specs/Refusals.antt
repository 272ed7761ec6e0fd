-- Refused calls: a desk notes that the other process had ended, which only that one's own desk can tell.
use Rattle.std.specs.Prelude.{◌≡◌, ℕ, true, nat_lt, List, [], ◌∷◌, filter, ⊤}
use Rattle.pt_events.specs.declared.event.Event.{Event}
use Rattle.pt_events.specs.declared.event.Event.TheVariants.{Refused}
use Rattle.pt_events.specs.declared.event.Stamped.{Stamped}
use Rattle.pt_events.specs.History.{Start, is_ended, life}
use Rattle.pt_events.specs.Journal.{Journals, events}

-- the events with lower stamps than n
abbrev pub stamped_below : ℕ → List Stamped → List Stamped
stamped_below n journal = filter (λ s. nat_lt s.stamp n) journal

module _ (start : Start) (journal : Journals) where
  -- a call that was refused at stamp n was to a process that has ended, by the events of its own desk with lower
  -- stamps; of other events nothing is asked
  abbrev pub IsTrueRefusal : ℕ → Event → Type 0
  IsTrueRefusal n (Refused a b) = is_ended (life start (events (stamped_below n (journal b.shard))) b) ≡ true
  IsTrueRefusal n _ = ⊤

  abbrev pub AllTrueRefusals : List Stamped → Type 0
  AllTrueRefusals [] = ⊤
  AllTrueRefusals (s ∷ noted) = IsTrueRefusal s.stamp s.event × AllTrueRefusals noted

  -- so it is with each refused call that a desk of the node has noted
  abbrev pub RefusalsAreTrue : Type 0
  RefusalsAreTrue = (d : ℕ) → AllTrueRefusals (journal d)
