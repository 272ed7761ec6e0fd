-- `crews_go_on`: its contract.
use Rattle.std.proofs.Common.{◌≡◌, true, false, length, map, refl, sym, ap, ◌∙◌, arith}
use Rattle.std.proofs.lemmas.List.{length-map}
use Rattle.pt_c_crews.specs.Owning.{are_own}
use Rattle.pt_c_tools.specs.FirstStages.{has}
use Rattle.pt_c_crews.specs.NodeGoingOn.{AreAllThere, Places}
use Rattle.pt_c_crews.proofs.NodeGoingOn.{by_stages, crew_missing, first_refused, foreign_crew, history_there, last_stage, other_count, second_refused}
use Rattle.pt_c_crews.proofs.going_on.crews_go_on.Goals as goal

pub returns-then-count-crews : goal.returns-then-count-crews
returns-then-count-crews c =
    let old : Places = record { crews = map (λ h. h.state) c.args.crews.now; desks = map (λ h. h.state) c.args.desks.now; gathered = c.args.gathered.now.state; settled = c.args.settled.now.state; history = c.args.history.now.state } in
    let same = c.count_crews-count.ensures.same in
    crew_missing 9 old (record old { crews = map (λ h. h.state) c.count_crews-count.new.crews }) refl (λ i. record old { crews = same i })
    (λ all. c.if-count-crews.true (omega (arith, all, c.count_crews-count.ensures.count, ap length same, length-map c.args.crews.now (λ h. h.state), length-map c.count_crews-count.new.crews (λ h. h.state))))

pub returns-then-crews-desks : goal.returns-then-crews-desks
returns-then-crews-desks c =
    let old : Places = record { crews = map (λ h. h.state) c.args.crews.now; desks = map (λ h. h.state) c.args.desks.now; gathered = c.args.gathered.now.state; settled = c.args.settled.now.state; history = c.args.history.now.state } in
    let same = c.count_crews-count.ensures.same in
    let all : AreAllThere old.crews = omega (arith, c.count_crews-count.ensures.count, c.if-count-crews.false, ap length same, length-map c.args.crews.now (λ h. h.state), length-map c.count_crews-count.new.crews (λ h. h.state)) in
    other_count c.open_code.result old (record old { crews = map (λ h. h.state) c.count_crews-count.new.crews }) c.open_code.ensures (λ i. record old { crews = same i }) all
    (λ many. c.if-crews-desks.true (omega (arith, many, ap length same, length-map c.args.crews.now (λ h. h.state), length-map c.count_crews-count.new.crews (λ h. h.state), length-map c.args.desks.now (λ h. h.state))))

pub returns-then-is_full : goal.returns-then-is_full
returns-then-is_full c =
    let old : Places = record { crews = map (λ h. h.state) c.args.crews.now; desks = map (λ h. h.state) c.args.desks.now; gathered = c.args.gathered.now.state; settled = c.args.settled.now.state; history = c.args.history.now.state } in
    let same = c.count_crews-count.ensures.same in
    let all : AreAllThere old.crews = omega (arith, c.count_crews-count.ensures.count, c.if-count-crews.false, ap length same, length-map c.args.crews.now (λ h. h.state), length-map c.count_crews-count.new.crews (λ h. h.state)) in
    let many : length old.crews ≡ length old.desks = omega (arith, c.if-crews-desks.false, ap length same, length-map c.args.crews.now (λ h. h.state), length-map c.count_crews-count.new.crews (λ h. h.state), length-map c.args.desks.now (λ h. h.state)) in
    history_there 10 old (record old { crews = map (λ h. h.state) c.count_crews-count.new.crews; history = c.is_full.new.h.state }) refl (λ i. record old { crews = same i; history = c.is_full.ensures.same i }) all many
    (sym c.is_full.ensures.full ∙ c.if-is_full.true)

pub returns-then-not-are_own : goal.returns-then-not-are_own
returns-then-not-are_own c =
    let old : Places = record { crews = map (λ h. h.state) c.args.crews.now; desks = map (λ h. h.state) c.args.desks.now; gathered = c.args.gathered.now.state; settled = c.args.settled.now.state; history = c.args.history.now.state } in
    let same = c.count_crews-count.ensures.same in
    let all : AreAllThere old.crews = omega (arith, c.count_crews-count.ensures.count, c.if-count-crews.false, ap length same, length-map c.args.crews.now (λ h. h.state), length-map c.count_crews-count.new.crews (λ h. h.state)) in
    let many : length old.crews ≡ length old.desks = omega (arith, c.if-crews-desks.false, ap length same, length-map c.args.crews.now (λ h. h.state), length-map c.count_crews-count.new.crews (λ h. h.state), length-map c.args.desks.now (λ h. h.state)) in
    let none : has old.history ≡ false = sym c.is_full.ensures.full ∙ c.if-is_full.false in
    let foreign : are_own 0 old.crews ≡ false = ap (are_own 0) (sym same) ∙ sym c.are_own.ensures.own ∙ c.if-not-are_own.true in
    foreign_crew 18 old (record old { crews = map (λ h. h.state) c.are_own.new.crews; history = c.is_full.new.h.state }) refl (λ i. record old { crews = (c.are_own.ensures.same ∙ same) i; history = c.is_full.ensures.same i }) all many none foreign

pub returns-then-first-ne-DONE : goal.returns-then-first-ne-DONE
returns-then-first-ne-DONE c =
    let old : Places = record { crews = map (λ h. h.state) c.args.crews.now; desks = map (λ h. h.state) c.args.desks.now; gathered = c.args.gathered.now.state; settled = c.args.settled.now.state; history = c.args.history.now.state } in
    let same = c.count_crews-count.ensures.same in
    let all : AreAllThere old.crews = omega (arith, c.count_crews-count.ensures.count, c.if-count-crews.false, ap length same, length-map c.args.crews.now (λ h. h.state), length-map c.count_crews-count.new.crews (λ h. h.state)) in
    let many : length old.crews ≡ length old.desks = omega (arith, c.if-crews-desks.false, ap length same, length-map c.args.crews.now (λ h. h.state), length-map c.count_crews-count.new.crews (λ h. h.state), length-map c.args.desks.now (λ h. h.state)) in
    let none : has old.history ≡ false = sym c.is_full.ensures.full ∙ c.if-is_full.false in
    let own : are_own 0 old.crews ≡ true = ap (are_own 0) (sym same) ∙ sym c.are_own.ensures.own ∙ c.if-not-are_own.false in
    let kept = c.are_own.ensures.same ∙ same in
    by_stages c.gather_first-first.result old _ all many none own
    (first_refused old (map (λ h. h.state) c.are_own.new.crews) c.is_full.new.h.state kept c.is_full.ensures.same c.gather_first-first.result (map (λ h. h.state) c.gather_first-first.new.desks) c.gather_first-first.new.gathered.state c.gather_first-first.new.settled.state c.gather_first-first.ensures.same c.gather_first-first.ensures.gathers c.if-first-ne-DONE.true)

pub returns-then-second-ne-DONE : goal.returns-then-second-ne-DONE
returns-then-second-ne-DONE c =
    let old : Places = record { crews = map (λ h. h.state) c.args.crews.now; desks = map (λ h. h.state) c.args.desks.now; gathered = c.args.gathered.now.state; settled = c.args.settled.now.state; history = c.args.history.now.state } in
    let same = c.count_crews-count.ensures.same in
    let all : AreAllThere old.crews = omega (arith, c.count_crews-count.ensures.count, c.if-count-crews.false, ap length same, length-map c.args.crews.now (λ h. h.state), length-map c.count_crews-count.new.crews (λ h. h.state)) in
    let many : length old.crews ≡ length old.desks = omega (arith, c.if-crews-desks.false, ap length same, length-map c.args.crews.now (λ h. h.state), length-map c.count_crews-count.new.crews (λ h. h.state), length-map c.args.desks.now (λ h. h.state)) in
    let none : has old.history ≡ false = sym c.is_full.ensures.full ∙ c.if-is_full.false in
    let own : are_own 0 old.crews ≡ true = ap (are_own 0) (sym same) ∙ sym c.are_own.ensures.own ∙ c.if-not-are_own.false in
    let kept = c.are_own.ensures.same ∙ same in
    by_stages c.settle_first-second.result old _ all many none own
    (second_refused old (map (λ h. h.state) c.are_own.new.crews) c.is_full.new.h.state kept c.is_full.ensures.same c.gather_first-first.result (map (λ h. h.state) c.gather_first-first.new.desks) c.gather_first-first.new.gathered.state c.gather_first-first.new.settled.state c.gather_first-first.ensures.same c.gather_first-first.ensures.gathers c.if-first-ne-DONE.false c.settle_first-second.result c.settle_first-second.new.gathered.state c.settle_first-second.new.settled.state c.settle_first-second.ensures c.if-second-ne-DONE.true)

pub returns : goal.returns
returns c =
    let old : Places = record { crews = map (λ h. h.state) c.args.crews.now; desks = map (λ h. h.state) c.args.desks.now; gathered = c.args.gathered.now.state; settled = c.args.settled.now.state; history = c.args.history.now.state } in
    let same = c.count_crews-count.ensures.same in
    let all : AreAllThere old.crews = omega (arith, c.count_crews-count.ensures.count, c.if-count-crews.false, ap length same, length-map c.args.crews.now (λ h. h.state), length-map c.count_crews-count.new.crews (λ h. h.state)) in
    let many : length old.crews ≡ length old.desks = omega (arith, c.if-crews-desks.false, ap length same, length-map c.args.crews.now (λ h. h.state), length-map c.count_crews-count.new.crews (λ h. h.state), length-map c.args.desks.now (λ h. h.state)) in
    let none : has old.history ≡ false = sym c.is_full.ensures.full ∙ c.if-is_full.false in
    let own : are_own 0 old.crews ≡ true = ap (are_own 0) (sym same) ∙ sym c.are_own.ensures.own ∙ c.if-not-are_own.false in
    let kept = c.are_own.ensures.same ∙ same in
    by_stages c.resume_crews.result old _ all many none own
    (last_stage old (map (λ h. h.state) c.are_own.new.crews) c.is_full.new.h.state kept c.is_full.ensures.same c.gather_first-first.result (map (λ h. h.state) c.gather_first-first.new.desks) c.gather_first-first.new.gathered.state c.gather_first-first.new.settled.state c.gather_first-first.ensures.same c.gather_first-first.ensures.gathers c.if-first-ne-DONE.false c.settle_first-second.result c.settle_first-second.new.gathered.state c.settle_first-second.new.settled.state c.settle_first-second.ensures c.if-second-ne-DONE.false c.resume_crews.result (map (λ h. h.state) c.resume_crews.new.crews) (map (λ h. h.state) c.resume_crews.new.desks) c.resume_crews.new.settled.state c.resume_crews.new.history.state c.resume_crews.ensures)
