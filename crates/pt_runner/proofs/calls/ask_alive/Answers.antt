-- `ask_alive`: its clause `does`.
use Rattle.std.proofs.Common.{List, Option, Err, sym, ap, ◌∙◌}
use Rattle.pt_signal.specs.declared.ids.Ref.{Ref}
use Rattle.pt_shard.specs.declared.fault.Fault.TheVariants.{NoProc}
use Rattle.pt_runner.specs.Acting.{with_answer}
use Rattle.pt_runner.proofs.Acting.{ask_no_room, ask_no_target, ask_at}
use Rattle.pt_runner.proofs.calls.ask_alive.Goals as goal

pub returns-then-is_err-clause-does : goal.returns-then-is_err-clause-does
returns-then-is_err-clause-does c = ask_no_room c.args.p _ c.args.tag c.args.desk.now.shard c.args.references.now.items c.reserve.new.self.items c.reserve.ensures.items

pub returns-in_default-clause-does : goal.returns-in_default-clause-does
returns-in_default-clause-does c =
    ask_no_target c.args.p _ c.args.tag c.args.desk.now.shard c.args.references.now.items c.note.new.references.items
    (sym c.target.ensures.target ∙ c.in_default.is) (c.note.ensures ∙ ap (λ (xs : List (Option Ref)). with_answer c.args.tag xs (Err NoProc)) c.reserve.ensures.items)

pub returns-clause-does : goal.returns-clause-does
returns-clause-does c =
    ask_at c.args.p _ c.in-Some.to c.args.tag c.args.desk.now.shard c.ask_alive-answer.new.self.shard c.args.references.now.items c.note-2.new.references.items c.ask_alive-answer.result c.progress_of.result
    (sym c.target.ensures.target ∙ c.in-Some.is) c.ask_alive-answer.ensures.does c.progress_of.ensures
    (c.note-2.ensures ∙ ap (λ (xs : List (Option Ref)). with_answer c.args.tag xs c.ask_alive-answer.result) c.reserve.ensures.items)
