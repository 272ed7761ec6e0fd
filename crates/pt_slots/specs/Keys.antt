-- The order of keys.
use Rattle.std.specs.declared.cmp.Ordering.{Ordering}
use Rattle.std.specs.Ordering.{nat_cmp, on, then_cmp}
use Rattle.pt_slots.specs.declared.Key.{Key}

-- by slot, then version
abbrev pub key_order : Key → Key → Ordering
key_order = then_cmp (on (λ k. k.slot) nat_cmp) (on (λ k. k.version) nat_cmp)
