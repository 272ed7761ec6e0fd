-- `Pick::fits`: its contract.
use Rattle.std.proofs.Common.{rules}
use Rattle.pt_signal.proofs.item.Pick.fits.Goals as goal

pub returns-in-Kind-User : goal.returns-in-Kind-User
returns-in-Kind-User c = search rules
