-- A handle may go to another thread: what it has may, and its block is freed from any.
use denote.Param.Send.{IsSend, sendable}
use Rattle.std.proofs.Common.{refl}
use Rattle.pt_c_tools.specs.contracts.held.HeldGathered as value
use Rattle.pt_c_tools.proofs.held.HeldGathered.TheSendSync.{the_send}
use Rattle.pt_c_values.proofs.Sending.{keyless, owner_sends}
use Rattle.pt_c_tools.specs.contracts.gathered_handle.GatheredHandle.{the_row, the_type}

pub send : IsSend the_row
send = owner_sends the_type (λ k. refl) (search sendable, tt) (λ h. keyless value.the_row the_send h.state h.at)
