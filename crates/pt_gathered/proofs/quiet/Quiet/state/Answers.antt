-- `Quiet::state`: its clauses `desk`, `born` and `new`, and its loop over `which`, and what its call of `with_process` asks.
use Rattle.std.proofs.Common.{◌≡◌, ℕ, ◌∷◌, ◌++◌, [], true, List, length, map, take, get_or, refl, sym, ap, ◌∙◌, subst, arith}
use Rattle.pt_signal.specs.declared.pid.Pid.{Pid}
use Rattle.pt_events.specs.History.{Phase, life, is_unborn, phase_or_unborn}
use Rattle.pt_events.specs.Journal.{events}
use Rattle.pt_events.specs.Leaving.{outcome}
use Rattle.pt_judge.specs.Judge.{IsAfter}
use Rattle.pt_judge.specs.Judging.{JudgeState, now_is}
use Rattle.pt_shard.specs.Restart.{restarted}
use Rattle.pt_beginning.specs.Beginning.{start_of}
use Rattle.pt_accounts.specs.LivesState.{AreAllPids, InEveryMerge}
use Rattle.pt_gathered.specs.Gathered.{begins, journals}
use Rattle.pt_gathered.specs.Quiet.{QuietState}
use Rattle.pt_gathered.proofs.StartStates.{begun, some_merge, born_here, in_at, none_in, rising_new, entries_more, state_left}
use Rattle.pt_gathered.proofs.quiet.Quiet.state.Goals as goal

all_of : (q r : QuietState) (pids : List Pid) → q ≡ r → InEveryMerge (journals r.gathered) (λ past. AreAllPids (begins r.gathered) past pids) → InEveryMerge (journals q.gathered) (λ past. AreAllPids (begins q.gathered) past pids)
all_of q r pids is all = subst (λ (q : QuietState). InEveryMerge (journals q.gathered) (λ past. AreAllPids (begins q.gathered) past pids)) (sym is) all

take_all : (ps : List Pid) → take (length ps) ps ≡ ps
take_all [] = refl
take_all (p ∷ ps) = ap (λ z. p ∷ z) (take_all ps)

abbrev none : Pid
none = record { shard = 0; slot = 0; version = 0 }

pub with_process-requires-clause-desk : goal.with_process-requires-clause-desk
with_process-requires-clause-desk c =
    let g = c.settled-settled.result.now.gathered in
    let say = c.journals_tell_their_pids.ensures.journals in
    let there = c.journals_have_one_merge.ensures.there in
    let whole = c.desks-desks.ensures.gathered in
    let pids = c.pids-pids.result.now in
    let all = all_of c.settled-settled.result.now c.args.self.now pids c.settled-settled.ensures c.pids-pids.ensures in
    let m = some_merge g whole say there in
    let p = get_or pids c.loop-which.which none in
    born_here g whole say there m.0 m.1 p (((all m.0 m.1).1 p).0 (in_at pids c.loop-which.which none c.loop-which-test.true))

pub with_process-requires-clause-born : goal.with_process-requires-clause-born
with_process-requires-clause-born c merged m =
    let pids = c.pids-pids.result.now in
    let all = all_of c.settled-settled.result.now c.args.self.now pids c.settled-settled.ensures c.pids-pids.ensures in
    ((all merged m).1 (get_or pids c.loop-which.which none)).0 (in_at pids c.loop-which.which none c.loop-which-test.true)

pub with_process-requires-clause-new : goal.with_process-requires-clause-new
with_process-requires-clause-new c =
    let g = c.settled-settled.result.now.gathered in
    let m = some_merge g c.desks-desks.ensures.gathered c.journals_tell_their_pids.ensures.journals c.journals_have_one_merge.ensures.there in
    let pids = c.pids-pids.result.now in
    let all = all_of c.settled-settled.result.now c.args.self.now pids c.settled-settled.ensures c.pids-pids.ensures in
    let k = c.loop-which.which in
    let p = get_or pids k none in
    let f : Pid → Phase = λ q. life (begins g) (events m.0) q in
    subst (λ (s : JudgeState). is_unborn (now_is s p) ≡ true) (sym (c.loop-which.invariant m.0 m.1))
    (ap (λ o. is_unborn (phase_or_unborn o)) (none_in f p (take k pids) (rising_new pids k none (all m.0 m.1).0 c.loop-which-test.true)))

pub loop-which-preserved : goal.loop-which-preserved
loop-which-preserved c merged m =
    let g = c.settled-settled.result.now.gathered in
    let pids = c.pids-pids.result.now in
    let k = c.loop-which.which in
    let p = get_or pids k none in
    let f : Pid → Phase = λ q. life (begins g) (events merged) q in
    c.in_ok-state.ensures merged m
    ∙ ap (λ (s : JudgeState). record s { lives = s.lives ++ (p, outcome (f p)) ∷ [] }) (c.loop-which.invariant merged m)
    ∙ ap (λ z. record { links = []; refs = []; lives = z; flights = [] }) (sym (entries_more f pids k none c.loop-which-test.true))

pub returns : goal.returns
returns c =
    let g = c.settled-settled.result.now.gathered in
    let pids = c.pids-pids.result.now in
    let all = all_of c.settled-settled.result.now c.args.self.now pids c.settled-settled.ensures c.pids-pids.ensures in
    let whole : take c.loop-which.which pids ≡ pids = ap (λ n. take n pids) (omega (arith, c.loop-which-test.false, c.loop-which.auto.which-end)) ∙ take_all pids in
    subst (λ (q : QuietState). (n : ℕ) → IsAfter (start_of (map (restarted n) q.gathered.shards)) [] c.loop-which.state) c.settled-settled.ensures
    (state_left g c.desks-desks.ensures.gathered c.journals_tell_their_pids.ensures.journals c.journals_have_one_merge.ensures.there pids c.loop-which.state all
    (subst (λ ps. InEveryMerge (journals g) (λ before. c.loop-which.state ≡ begun (begins g) before ps)) whole c.loop-which.invariant))
