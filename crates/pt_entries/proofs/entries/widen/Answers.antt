-- `widen`: its clauses `absent` and `room`, and its loop over `key`, and what its call of `push` asks.
use Rattle.std.proofs.Common.{◌≡◌, ◌<◌, ◌∷◌, [], ◌++◌, ap, sym, ◌∙◌, arith, length, slice_get, get_or, take}
use Rattle.std.proofs.lemmas.List.{take_more}
use Rattle.std.specs.Map.{lookup}
use Rattle.std.proofs.lemmas.Option.{slice_get_read}
use Rattle.pt_entries.proofs.FewLemmas.{absent_before}
use Rattle.pt_entries.proofs.entries.widen.Goals as goal

pub push-requires-clause-absent : goal.push-requires-clause-absent
push-requires-clause-absent g c =
    let few = c.args.few.now.items in
    let seen = c.deref-key-items.result.now in
    let i = c.loop-key.key-index in
    let entry = c.loop-key-item.result in
    let at = slice_get_read seen (length seen) i entry (λ j. length seen) c.loop-key-test.true c.loop-key-item.is in
    ap (lookup (g.K.PartialEq.eq entry.0)) c.loop-key.invariant.entries
    ∙ absent_before g.met.K.Eq.laws few i entry c.requires.distinct (ap (λ xs. slice_get xs i) (sym c.deref-key-items.ensures.value) ∙ at)

pub loop-key-init : goal.loop-key-init
loop-key-init g c = record {
  entries = c.in_ok-many.ensures.entries;
  room = omega (arith, c.in_ok-many.ensures.room);
}

pub push-requires-clause-room : goal.push-requires-clause-room
push-requires-clause-room g c = omega (arith, c.loop-key.invariant.room, c.loop-key-test.true, c.requires.few, ap length c.deref-key-items.ensures.value)

pub loop-key-preserved : goal.loop-key-preserved
loop-key-preserved g c =
    let few = c.args.few.now.items in
    let i = c.loop-key.key-index in
    let entry = c.loop-key-item.result in
    let within : i < length few = omega (arith, c.loop-key-test.true, ap length c.deref-key-items.ensures.value) in
    let here : entry ≡ get_or few i entry = rw c.deref-key-items.ensures.value at c.loop-key-item.is in
    record {
      entries = c.push.ensures.entries ∙ ap (λ es. es ++ entry ∷ []) c.loop-key.invariant.entries ∙ ap (λ e. take i few ++ e ∷ []) here ∙ sym (take_more few i entry within);
      room = omega (arith, c.loop-key.invariant.room, c.push.ensures.room);
    }
