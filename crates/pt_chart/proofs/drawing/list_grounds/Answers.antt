-- `list_grounds`: its loop over `place`.
use Rattle.std.proofs.Common.{◌≡◌, Bool, List, [], ◌∷◌, ◌++◌, cond, not, get_or, refl, ap, sym, ◌∙◌, arith}
use Rattle.pt_chart.specs.declared.part.Part.{Part}
use Rattle.pt_chart.specs.declared.part.Part.TheVariants.{Desk, Ground}
use Rattle.pt_chart.specs.Drawing.{ground, starts_desk}
use Rattle.pt_chart.proofs.Naming.{begins_desk, desks_next}
use Rattle.pt_chart.proofs.Numbering.{one_more_at}
use Rattle.pt_chart.proofs.drawing.list_grounds.Goals as goal

pub loop-place-preserved : goal.loop-place-preserved
loop-place-preserved c =
    let columns = c.args.columns.now in
    let place = c.loop-place.place in
    let shown = c.index-columns-place.result in
    let desk = (get_or columns place shown).pid.shard in
    let first : c.in_ok-first.first ≡ starts_desk columns place desk =
    c.in_ok-first.ensures.added ∙ ap not (c.loop-place.invariant.desks desk) ∙ sym (begins_desk columns place shown desk (omega arith) refl)
    in
    let before = c.loop-place.parts.items in
    let grounds : Bool → List Part = λ b. before ++ Ground place desk ∷ cond b (Desk place desk ∷ []) [] in
    record {
      listed = one_more_at (ground columns) c.args.parts.now.items before c.list_ground.new.parts.items columns place shown (omega arith) c.loop-place.invariant.listed (c.in_ok-list_ground.ensures ∙ ap grounds first);
      desks = desks_next columns place shown desk c.loop-place.desks.keys c.insert.new.self.keys (omega arith) refl c.loop-place.invariant.desks c.in_ok-first.ensures.keys;
    }
