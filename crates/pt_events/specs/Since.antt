-- What happened since a stamp, or since there were so many events.
use Rattle.std.specs.Prelude.{ℕ, ◌-◌, nat_lt, List, filter, length, take}
use Rattle.pt_events.specs.declared.event.Stamped.{Stamped}

-- the events stamped above it, in their order
abbrev pub newer_than : ℕ → List Stamped → List Stamped
newer_than n events = filter (λ s. nat_lt n s.stamp) events

-- a journal, newest first, without its oldest n events
abbrev pub after_oldest : ℕ → List Stamped → List Stamped
after_oldest n journal = take (length journal - n) journal
