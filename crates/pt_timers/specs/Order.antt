-- The order of timers.
use Rattle.std.specs.Prelude.{Bool}
use Rattle.std.specs.declared.cmp.Ordering.{Ordering}
use Rattle.std.specs.Ordering.{nat_cmp, on, then_cmp, is_eq}
use Rattle.pt_timers.specs.declared.Timer.{Timer}

-- by time, then by the order of starting
abbrev pub timer_order : Timer → Timer → Ordering
timer_order = then_cmp (on (λ t. t.at) nat_cmp) (on (λ t. t.number) nat_cmp)

abbrev pub same_timer : Timer → Timer → Bool
same_timer t u = is_eq (timer_order t u)
