-- What a process of a crew does next, as C has it. A field that the code gives no meaning to is zero.
use Rattle.std.specs.Prelude.{◌==◌, cond, Option, Some, None}
use Rattle.std.specs.Option.{option_map}
use Rattle.pt_behaviour.specs.declared.behaviour.Next.{Next}
use Rattle.pt_behaviour.specs.declared.behaviour.Next.TheVariants.{Wait, WaitUntil, Proceed, Running, Stop}
use Rattle.pt_c_values.specs.declared.types.PtNext.{PtNext}
use Rattle.pt_c_values.specs.Crossing.{reason_in, reason_out, pick_in, pick_out, no_reason, no_pick}

abbrev pub no_next : PtNext
no_next = record { code = 0; reason = no_reason; until = 0; pick = no_pick }

-- none, where a code is none of its enumeration
abbrev pub next_in : PtNext → Option Next
next_in n =
    cond (n.code == 0) (option_map (λ k. Wait k) (pick_in n.pick))
    (cond (n.code == 1) (option_map (λ k. WaitUntil k n.until) (pick_in n.pick))
    (cond (n.code == 2) (Some Proceed)
    (cond (n.code == 3) (option_map (λ r. Stop r) (reason_in n.reason))
    (cond (n.code == 4) (Some Running) None))))

abbrev pub next_out : Next → PtNext
next_out (Wait k) = record no_next { pick = pick_out k }
next_out (WaitUntil k at) = record no_next { code = 1; until = at; pick = pick_out k }
next_out Proceed = record no_next { code = 2 }
next_out (Stop r) = record no_next { code = 3; reason = reason_out r }
next_out Running = record no_next { code = 4 }
