-- `write_links`: what holds in its loop.
use Rattle.std.proofs.Common.{◌≡◌, ◌++◌, take}
use Rattle.std.specs.List.{flat_map}
use Rattle.std.specs.String.{string_bytes}
use Rattle.pt_auditor.specs.Saving.{link_record}
use Rattle.pt_texts.specs.Text.{record_line}
use Rattle.pt_auditor.proofs.saved.write_links.Given as goal

abbrev pub invariant-loop-link : goal.invariant-loop-link
invariant-loop-link l = string_bytes l.text ≡ string_bytes l.fn.text ++ flat_map (λ l. record_line (link_record l)) (take l.link-index l.links)
