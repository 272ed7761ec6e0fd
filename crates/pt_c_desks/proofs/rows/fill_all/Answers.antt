-- `fill_all`: its loop over `desk`.
use Rattle.std.proofs.Common.{◌≡◌, ◌+◌, ◌-◌, ◌++◌, ◌∷◌, [], length, map, sym, ap, ◌∙◌, arith}
use Rattle.std.specs.Option.{option_to_list}
use Rattle.std.proofs.lemmas.List.{length-map, length-append, append-nil}
use Rattle.pt_c_values.proofs.InRow.{filled_more}
use Rattle.pt_c_desks.proofs.rows.fill_all.Goals as goal

pub loop-desk-init : goal.loop-desk-init
loop-desk-init c = record {
  rest = (map (λ h. h.state) c.args.desks.now, [], sym (append-nil (map (λ h. h.state) c.args.desks.now)), append-nil c.args.list.items, length-map c.args.desks.now (λ h. h.state) ∙ sym c.requires.list);
  at = sym c.requires.list;
  places = c.requires.places ∙ sym c.requires.list;
}

pub loop-desk-preserved : goal.loop-desk-preserved
loop-desk-preserved c =
    let inv = c.loop-desk.invariant in
    let s = c.in-Some.desk in
    let rest = c.pop.new.self.items in
    let old : c.loop-desk.list.items ≡ rest ++ s ∷ [] = c.pop.ensures.items ∙ ap (λ o. rest ++ option_to_list o) c.in-Some.is in
    let long : length c.loop-desk.list.items ≡ length rest + 1 = ap length old ∙ length-append rest (s ∷ []) in
    let at : c.loop-desk.k - 1 ≡ length rest = omega (arith, inv.at, long) in
    let left = c.pop-in-Some.new.self.items in
    let place = c.unwrap.result in
    let one : length c.loop-desk.places.items ≡ length left + 1 = ap length (c.pop-in-Some.ensures.items ∙ ap (λ o. left ++ option_to_list o) c.unwrap.ensures) ∙ length-append left (place ∷ []) in
    record {
      rest = filled_more (λ h. h.state) c.loop-desk.desks inv.rest.0 inv.rest.1 rest c.args.list.items s c.filled.result (c.loop-desk.k - 1) inv.rest.2
          (ap (λ z. z ++ inv.rest.1) (sym old) ∙ inv.rest.3) (inv.rest.4 ∙ long) at (c.filled.ensures);
      at = at;
      places = omega (arith, one, long, inv.places);
    }
