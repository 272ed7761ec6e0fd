-- `step`: its contract, over the crew's own desk.
use Rattle.std.proofs.Common.{Some, ap, sym, ◌∙◌, rules}
use Rattle.pt_desk.proofs.Turning.{goes_on_then}
use Rattle.pt_scheduler.proofs.Upheld.{turned_upholds}
use Rattle.pt_c_values.specs.declared.types.PtTurned.{PtTurned}
use Rattle.pt_c_crews.specs.Owning.{is_own}
use Rattle.pt_c_crews.proofs.InCrew.{desk_fits, steps_as}
use Rattle.pt_c_crews.proofs.Through.{calls_both}
use Rattle.pt_c_crews.proofs.crews.step.Goals.{in-Some-Some, in-Some-Some-2, in-Some+in-None-1, in-None-1}
use Rattle.pt_c_crews.proofs.crews.step.Goals as goal

pub returns : goal.returns
returns c =
    elim c.match-deref_mut.branch [
      | in-Some-Some w ↦ search rules
      | in-Some-Some-2 w ↦
          let t = w.turn-turn.ensures in
          let b = w.begin_step.ensures in
          let f = w.fill.ensures in
          let n = w.end_step.ensures in
          let old = w.in-Some-Some.crew in
          let d = w.in-Some-Some.desk in
          let m = w.turn-turn.new.self in
          let e = w.fill.new.desk in
          let out : PtTurned = record { posted = w.turn-turn.result.posted; handled = w.turn-turn.result.handled; stopped = w.stop_code.result } in
          calls_both c.args.h.now.state c.hold-3.result.state c.args.c.now.state c.hold-2.result.state d e old w.end_step.new.self _ _ _ _ _
          (cc (c.in-Some.ensures.value, c.deref_mut-2.ensures.value, c.desk.view_is, w.in-Some-Some.is-1))
          (c.hold-3.ensures ∙ ap (λ b. Some b.value) w.place-is)
          (cc (c.in-Some-claim.ensures.value, c.deref_mut.ensures.value, c.held.view_is, w.in-Some-Some.is-0))
          (c.hold-2.ensures ∙ ap (λ b. Some b.value) w.held-is)
          (desk_fits (is_own old d) c.match-deref_mut.code _ _ (sym w.is_own.ensures ∙ w.if-not-is_own.false) (
            w.code-is,
            steps_as c.args.budget c.args.jobs.now old d c.match-deref_mut.turned out c.match-deref_mut.count w.fill.result c.match-deref_mut.jobs w.fill.new.jobs w.end_step.new.self e w.turned-is w.count-is w.jobs-is (record {
              turned = w.turn-turn.result;
              turned_is = ap (λ s. record { posted = w.turn-turn.result.posted; handled = w.turn-turn.result.handled; stopped = s }) w.stop_code.ensures;
              mid = m;
              turns = t.turns;
              begun = w.begin_step.new.self;
              begins = b.begins;
              filled = w.fill.new.crew;
              fills = λ a. f.does (b.attends d.shard t.goes_on.shard a);
              ends = n.ends;
              attends = λ a. n.attends (f.attends (b.attends d.shard t.goes_on.shard a));
              upholds = λ past a u. n.upholds past (f.upholds past (b.attends d.shard t.goes_on.shard a)
                  (b.upholds past m.shard (turned_upholds past old c.args.budget d m w.turn-turn.result t.turns u)));
              awake = λ a. n.ends.awake (f.attends (b.attends d.shard t.goes_on.shard a)).crew;
              time = n.ends.time ∙ f.time ∙ b.begins.time;
              desk = n.desk ∙ f.desk ∙ b.desk ∙ ap Some t.goes_on.shard.number;
              goes_on = goes_on_then d m e t.goes_on f.goes_on;
            }),
          ))
      | in-Some+in-None-1 w ↦ search rules
      | in-None-1 w ↦ search rules
    ]
