-- `Process::add_kept`: its clause `state`, and what its call of `push` asks.
use Rattle.std.proofs.Common.{◌≡◌, false, ◌∙◌, [], ap, sym, subst}
use Rattle.std.specs.List.{list_any}
use Rattle.std.specs.Map.{keys_of}
use Rattle.pt_signal.specs.Process.{ProcessState, same_watch}
use Rattle.pt_process.specs.ProcessView.{ProcessView}
use Rattle.pt_process.proofs.WatchLemmas.{keys_of-append, lookup-fresh}
use Rattle.pt_process.proofs.StateLemmas.{kept_set}
use Rattle.pt_process.proofs.process.Process.add_kept.Goals as goal

pub push-requires : goal.push-requires
push-requires c =
    let same = same_watch c.args.monitor c.args.watcher in
    let absent = subst (λ (q : ProcessView). list_any same q.state.kept ≡ false) (sym c.self.view_is) c.requires in
    lookup-fresh (λ k. same_watch c.args.monitor c.args.watcher k) c.self.inside.kept.entries absent

pub returns-clause-state : goal.returns-clause-state
returns-clause-state c =
    let p = c.self.inside in
    let s : ProcessState = record { waiting = p.waiting; links = p.links.entries; watching = p.watching.entries; kept = []; traps = p.traps } in
    rw (← c.self.view_is) (kept_set s _ _ (ap keys_of c.in_ok-push.ensures.ok ∙ keys_of-append p.kept.entries (c.args.monitor, c.args.watcher) _))
