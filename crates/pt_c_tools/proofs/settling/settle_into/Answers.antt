-- `settle_into`: its contract.
use Rattle.std.proofs.Common.{◌≡◌, Some, sym, ap, ◌∙◌}
use Rattle.std.specs.Option.{option_map}
use Rattle.pt_c_values.specs.Places.{full, value_behind}
use Rattle.pt_c_tools.proofs.Joining.{place_is, settled, not_settled}
use Rattle.pt_c_tools.proofs.settling.settle_into.Goals as goal

pub returns-in-Ok-settled_node : goal.returns-in-Ok-settled_node
returns-in-Ok-settled_node c =
    let g = c.unwrap-place.result.1 in
    let was : value_behind c.is_full.new.h.state ≡ Some g = sym c.take_out.ensures.value ∙ ap (option_map (λ r. r.1)) c.unwrap-place.ensures in
    let is : c.args.g.now.state ≡ full g = sym c.is_full.ensures.same ∙ place_is c.is_full.new.h.state g was in
    let e = c.in-Ok-settled_node.ensures in
    settled c.args.g.now.state g is c.take_out.new.h.state c.args.out.now.state c.filled.result.state (sym c.is_full-2.ensures.full ∙ c.if-is_full.false) c.args.listed c.in-Ok-settled_node.node c.take_out.ensures.empty e.list e.settled c.filled.ensures

pub returns-in-Err : goal.returns-in-Err
returns-in-Err c =
    let g = c.unwrap-place.result.1 in
    let was : value_behind c.is_full.new.h.state ≡ Some g = sym c.take_out.ensures.value ∙ ap (option_map (λ r. r.1)) c.unwrap-place.ensures in
    let is : c.args.g.now.state ≡ full g = sym c.is_full.ensures.same ∙ place_is c.is_full.new.h.state g was in
    not_settled c.args.g.now.state g is c.filled-in-Err.result.state c.args.out.now.state c.is_full-2.new.h.state (sym c.is_full-2.ensures.full ∙ c.if-is_full.false) c.args.listed c.stop_code.result
    (record {
      fault = c.in-Err.back.fault;
      code_is = c.stop_code.ensures;
      node = c.in-Err.back.gathered;
      is_of = c.in-Err.ensures.stopped;
      new_is = c.filled-in-Err.ensures;
      out_same = c.is_full-2.ensures.same;
    })
