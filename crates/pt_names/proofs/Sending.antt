-- What is sent to the first members and then to the rest is sent to all of them.
use Rattle.std.proofs.Common.{◌≡◌, ℕ, Bool, true, false, ◌+◌, ◌<◌, ◌≤◌, List, length, drop, get_or, Some, None, Result, Ok, Err, refl, sym, ap, ◌∙◌, subst, arith}
use Rattle.std.proofs.lemmas.List.{drop_more, drop_all}
use Rattle.pt_signal.specs.declared.pid.Pid.{Pid}
use Rattle.pt_signal.specs.declared.item.Body.{Body}
use Rattle.pt_shard.specs.declared.fault.Fault.TheVariants.{Full, Memory, Worn, Gone, Myself, NoProc}
use Rattle.pt_desk.specs.DeskState.{DeskState}
use Rattle.pt_behaviour.specs.declared.call_fault.CallFault.{CallFault}
use Rattle.pt_behaviour.specs.declared.call_fault.CallFault.TheVariants.{Unknown, Refused}
use Rattle.pt_behaviour.specs.Telling.{SendsTo}
use Rattle.pt_names.specs.declared.group_registry.Sent.{Sent}
use Rattle.pt_names.specs.GroupRegistering.{one_sent, one_exited, none_sent, CountsSend, GoesOnSending, SendsAll}

-- what came of the first ones, and of the rest
abbrev pub then_sent : Sent → Sent → Sent
then_sent first rest = record { sent = first.sent + rest.sent; exited = first.exited + rest.exited; stopped = rest.stopped }

-- a failure other than that of an exited member stops
pub stops : (Rest : DeskState → Sent → DeskState → Type 0) (f : CallFault) (d : DeskState) → (f ≡ Refused NoProc → ⊥)
    → GoesOnSending Rest (Err f) d (none_sent (Some f)) d
stops Rest Unknown d other = (refl, refl)
stops Rest (Refused Full) d other = (refl, refl)
stops Rest (Refused Memory) d other = (refl, refl)
stops Rest (Refused Worn) d other = (refl, refl)
stops Rest (Refused Gone) d other = (refl, refl)
stops Rest (Refused Myself) d other = (refl, refl)
stops Rest (Refused NoProc) d other = absurd (other refl)

module _ (me : Pid) (body : Body) (members : List Pid) (start : DeskState) where
  -- after the first ones all that the rest does is done to the whole list
  abbrev pub Leads : ℕ → Sent → DeskState → Type 0
  Leads k first d = (rest : Sent) (e : DeskState) → SendsAll me body (drop k members) d rest e
      → SendsAll me body members start (then_sent first rest) e

  -- nobody is left
  pub leads_all : (k : ℕ) (first : Sent) (d : DeskState) → length members ≤ k → first.stopped ≡ None → Leads k first d
      → SendsAll me body members start first d
  leads_all k first d over none leads =
      subst (λ s. SendsAll me body members start s d) whole
      (leads (none_sent None) d (subst (λ ps. SendsAll me body ps d (none_sent None) d) (sym (drop_all k members over)) (refl, refl)))
    where
      whole : then_sent first (none_sent None) ≡ first
      whole =
          let sent : first.sent + 0 ≡ first.sent = omega arith in
          let exited : first.exited + 0 ≡ first.exited = omega arith in
          λ i. record { sent = sent i; exited = exited i; stopped = sym none i }

  module _ (k : ℕ) (z : Pid) (first : Sent) (d mid : DeskState) (r : Result (Unit {0}) CallFault) (within : k < length members)
      (leads : Leads k first d) (sends : SendsTo me (get_or members k z) body d r mid) where
    one_more : (rest : Sent) (e : DeskState) → GoesOnSending (SendsAll me body (drop (k + 1) members)) r mid rest e
        → SendsAll me body members start (then_sent first rest) e
    one_more rest e goes =
        leads rest e (subst (λ qs. SendsAll me body qs d rest e) (sym (drop_more members k z within)) (r, mid, sends, goes))

    leads_sent : r ≡ Ok tt → Leads (k + 1) (one_sent first) mid
    leads_sent ok rest e more =
        subst (λ s. SendsAll me body members start s e) whole
        (one_more (one_sent rest) e
        (subst (λ x. GoesOnSending (SendsAll me body (drop (k + 1) members)) x mid (one_sent rest) e) (sym ok) (rest, more, refl)))
      where
        whole : then_sent first (one_sent rest) ≡ then_sent (one_sent first) rest
        whole =
            let sent : first.sent + (rest.sent + 1) ≡ first.sent + 1 + rest.sent = omega arith in
            λ i. record { sent = sent i; exited = first.exited + rest.exited; stopped = rest.stopped }

    leads_exited : r ≡ Err (Refused NoProc) → Leads (k + 1) (one_exited first) mid
    leads_exited gone rest e more =
        subst (λ s. SendsAll me body members start s e) whole
        (one_more (one_exited rest) e
        (subst (λ x. GoesOnSending (SendsAll me body (drop (k + 1) members)) x mid (one_exited rest) e) (sym gone) (rest, more, refl)))
      where
        whole : then_sent first (one_exited rest) ≡ then_sent (one_exited first) rest
        whole =
            let exited : first.exited + (rest.exited + 1) ≡ first.exited + 1 + rest.exited = omega arith in
            λ i. record { sent = first.sent + rest.sent; exited = exited i; stopped = rest.stopped }

    leads_stopped : (f : CallFault) → r ≡ Err f → (f ≡ Refused NoProc → ⊥)
        → SendsAll me body members start (record first { stopped = Some f }) mid
    leads_stopped f failed other =
        subst (λ s. SendsAll me body members start s mid) whole
        (one_more (none_sent (Some f)) mid
        (subst (λ x. GoesOnSending (SendsAll me body (drop (k + 1) members)) x mid (none_sent (Some f)) mid) (sym failed)
        (stops (SendsAll me body (drop (k + 1) members)) f mid other)))
      where
        whole : then_sent first (none_sent (Some f)) ≡ record first { stopped = Some f }
        whole =
            let sent : first.sent + 0 ≡ first.sent = omega arith in
            let exited : first.exited + 0 ≡ first.exited = omega arith in
            λ i. record { sent = sent i; exited = exited i; stopped = Some f }

    -- the next member gets the message
    pub leads_on : (b : Bool) (next : Sent) → CountsSend r first b next → b ≡ false → Leads (k + 1) next mid
    leads_on b next counts on = go r refl counts
      where
        go : (x : Result (Unit {0}) CallFault) → r ≡ x → CountsSend x first b next → Leads (k + 1) next mid
        go (Ok done) e c = subst (λ s. Leads (k + 1) s mid) (sym c.1) (leads_sent e)
        go (Err (Refused NoProc)) e c = subst (λ s. Leads (k + 1) s mid) (sym c.1) (leads_exited e)
        go (Err Unknown) e c = absurd (let f : false ≡ true = sym on ∙ c.0 in cc)
        go (Err (Refused Full)) e c = absurd (let f : false ≡ true = sym on ∙ c.0 in cc)
        go (Err (Refused Memory)) e c = absurd (let f : false ≡ true = sym on ∙ c.0 in cc)
        go (Err (Refused Worn)) e c = absurd (let f : false ≡ true = sym on ∙ c.0 in cc)
        go (Err (Refused Gone)) e c = absurd (let f : false ≡ true = sym on ∙ c.0 in cc)
        go (Err (Refused Myself)) e c = absurd (let f : false ≡ true = sym on ∙ c.0 in cc)

    -- no member after this one gets it
    pub leads_off : (b : Bool) (next : Sent) → CountsSend r first b next → b ≡ true → SendsAll me body members start next mid
    leads_off b next counts off = go r refl counts
      where
        go : (x : Result (Unit {0}) CallFault) → r ≡ x → CountsSend x first b next → SendsAll me body members start next mid
        go (Ok done) e c = absurd (let f : false ≡ true = sym c.0 ∙ off in cc)
        go (Err (Refused NoProc)) e c = absurd (let f : false ≡ true = sym c.0 ∙ off in cc)
        go (Err Unknown) e c = subst (λ s. SendsAll me body members start s mid) (sym c.1) (leads_stopped Unknown e (λ x. cc))
        go (Err (Refused Full)) e c = subst (λ s. SendsAll me body members start s mid) (sym c.1) (leads_stopped (Refused Full) e (λ x. cc))
        go (Err (Refused Memory)) e c = subst (λ s. SendsAll me body members start s mid) (sym c.1) (leads_stopped (Refused Memory) e (λ x. cc))
        go (Err (Refused Worn)) e c = subst (λ s. SendsAll me body members start s mid) (sym c.1) (leads_stopped (Refused Worn) e (λ x. cc))
        go (Err (Refused Gone)) e c = subst (λ s. SendsAll me body members start s mid) (sym c.1) (leads_stopped (Refused Gone) e (λ x. cc))
        go (Err (Refused Myself)) e c = subst (λ s. SendsAll me body members start s mid) (sym c.1) (leads_stopped (Refused Myself) e (λ x. cc))

-- what is counted of a send that does not stop
pub counted : (r : Result (Unit {0}) CallFault) (old new : Sent) (b : Bool) → CountsSend r old b new → b ≡ false
    → (new.sent + new.exited ≡ old.sent + old.exited + 1) × (new.stopped ≡ old.stopped)
counted (Ok done) old new b c on =
    let sent = ap (λ (s : Sent). s.sent) c.1 in
    let exited = ap (λ (s : Sent). s.exited) c.1 in
    (omega (arith, sent, exited), ap (λ (s : Sent). s.stopped) c.1)
counted (Err (Refused NoProc)) old new b c on =
    let sent = ap (λ (s : Sent). s.sent) c.1 in
    let exited = ap (λ (s : Sent). s.exited) c.1 in
    (omega (arith, sent, exited), ap (λ (s : Sent). s.stopped) c.1)
counted (Err Unknown) old new b c on = absurd (let f : false ≡ true = sym on ∙ c.0 in cc)
counted (Err (Refused Full)) old new b c on = absurd (let f : false ≡ true = sym on ∙ c.0 in cc)
counted (Err (Refused Memory)) old new b c on = absurd (let f : false ≡ true = sym on ∙ c.0 in cc)
counted (Err (Refused Worn)) old new b c on = absurd (let f : false ≡ true = sym on ∙ c.0 in cc)
counted (Err (Refused Gone)) old new b c on = absurd (let f : false ≡ true = sym on ∙ c.0 in cc)
counted (Err (Refused Myself)) old new b c on = absurd (let f : false ≡ true = sym on ∙ c.0 in cc)
