-- `Audit::read`: its contract, and its loop over `place`.
use Rattle.std.proofs.Common.{◌+◌, ◌-◌, ◌^◌, ◌++◌, min, take, drop, get_or, refl, sym, subst}
use Rattle.std.proofs.lemmas.List.{take_all}
use Rattle.pt_auditor.specs.declared.fault.Fault.{Fault}
use Rattle.pt_auditor.specs.Reading.{without_return, OneMore, IsFault, IsRead, IsFaulty}
use Rattle.pt_auditor.proofs.Read.{line_over, pushed, faulty, why_is, why_grown, seam, next_byte, over_at, goes_on_at, plain_byte}
use Rattle.pt_auditor.proofs.audit.Audit.read.Goals as goal

pub returns-in-Err : goal.returns-in-Err
returns-in-Err c text heard r =
    let now = c.loop-place.invariant text heard r in
    let n = c.loop-place.place in
    let bytes = c.args.bytes.now in
    let line = c.loop-place.line.items in
    faulty (text ++ take n bytes) now.0 c.loop-place.hearing line c.loop-place.lines now.1 (text ++ bytes) (drop n bytes) _ (seam text bytes n) c.one_more.ensures
    (why_is now.0 line (drop n bytes) c.in-Err.why
    (over_at text bytes n (get_or bytes n 0) c.loop-place-test.true refl c.if-byte-eq10.true)
    (subst (λ z. IsFault now.0 (without_return z) c.in-Err.why) c.as_slice.ensures.value (c.in-Err.ensures now.0 now.1.heard)))

pub loop-place-preserved-then-byte-eq10 : goal.loop-place-preserved-then-byte-eq10
loop-place-preserved-then-byte-eq10 c text heard r =
    let now = c.loop-place.invariant text heard r in
    let n = c.loop-place.place in
    let bytes = c.args.bytes.now in
    let one = c.in-Ok.ensures now.0 now.1.heard in
    let new = c.clear.new.self.items in (
      one.0,
      subst (λ z. IsRead z one.0 c.in-Ok.next new c.one_more-lines.result) (sym (next_byte text bytes n 10 c.loop-place-test.true (sym c.if-byte-eq10.true)))
          (line_over (text ++ take n bytes) now.0 c.loop-place.hearing c.loop-place.line.items c.loop-place.lines now.1 one.0 c.in-Ok.next new c.one_more-lines.result
          (subst (λ z. OneMore now.0 (without_return z) one.0) c.as_slice.ensures.value one.1)
          one.2 c.clear.ensures.items c.one_more-lines.ensures),
    )

pub returns-in-Err-grow : goal.returns-in-Err-grow
returns-in-Err-grow c text heard r =
    let now = c.loop-place.invariant text heard r in
    let n = c.loop-place.place in
    let bytes = c.args.bytes.now in
    let b = get_or bytes n 0 in
    let line = c.loop-place.line.items in
    let f : Fault = record { line = min (c.loop-place.lines + 1) (2 ^ 64 - 1); why = c.in-Err-grow.why } in
    subst (IsFaulty (text ++ bytes)) (sym c.stop.ensures)
    (faulty (text ++ take n bytes) now.0 c.loop-place.hearing line c.loop-place.lines now.1 (text ++ bytes) (drop n bytes) f (seam text bytes n) refl
    (why_grown now.0 line b c.grow.new.line.items (drop n bytes) c.in-Err-grow.why c.in-Err-grow.ensures
    (goes_on_at text bytes n b c.loop-place-test.true refl (plain_byte b c.if-byte-eq10.false))))

pub loop-place-preserved : goal.loop-place-preserved
loop-place-preserved c text heard r =
    let now = c.loop-place.invariant text heard r in
    let n = c.loop-place.place in
    let bytes = c.args.bytes.now in
    let b = get_or bytes n 0 in
    let new = c.grow.new.line.items in (
      now.0,
      subst (λ z. IsRead z now.0 c.loop-place.hearing new c.loop-place.lines) (sym (next_byte text bytes n b c.loop-place-test.true refl))
          (pushed (text ++ take n bytes) now.0 c.loop-place.hearing c.loop-place.line.items c.loop-place.lines now.1 b new (plain_byte b c.if-byte-eq10.false) c.in_default.ensures),
    )

pub returns : goal.returns
returns c text heard r =
    let now = c.loop-place.invariant text heard r in (
      now.0,
      subst (λ z. IsRead (text ++ z) now.0 c.loop-place.hearing c.loop-place.line.items c.loop-place.lines)
          (take_all c.loop-place.place c.args.bytes.now c.loop-place-test.false) now.1,
    )
