-- `Audit::new`: nothing was read.
use Rattle.std.proofs.Common.{[], refl, sym, subst}
use Rattle.pt_auditor.specs.Reading.{IsPlain}
use Rattle.pt_auditor.proofs.audit.Audit.new.Goals as goal

pub returns : goal.returns
returns c = record {
  lines = [];
  splits = sym c.new-2.ensures.items;
  plain = tt;
  open_plain = subst IsPlain (sym c.new-2.ensures.items) tt;
  count_is = refl;
  tells = tt;
  heard = c.new.ensures;
}
