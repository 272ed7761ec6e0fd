-- `DeskLives::latest_ends`: its loop over `slot`.
use Rattle.std.proofs.Common.{◌≡◌, ◌∙◌, ◌++◌, ◌+◌, ◌<◌, ℕ, List, map, take, get_or, length, ap, sym, subst, append_assoc, option_to_list, arith}
use Rattle.std.proofs.lemmas.List.{map-append}
use Rattle.std.specs.Prelude.{filter_map}
use Rattle.pt_signal.specs.declared.pid.Pid.{Pid}
use Rattle.pt_accounts.specs.LifeState.{LifeState}
use Rattle.pt_accounts.specs.Table.{Slots}
use Rattle.pt_accounts.specs.DeskLives.{DeskTable, latest_end}
use Rattle.pt_accounts.proofs.Forgetting.{ends_more}
use Rattle.pt_accounts.proofs.desk_lives.DeskLives.latest_ends.Goals as goal

-- one slot more
added : (slots : Slots) (old now new : List (Pid × ℕ)) (low k : ℕ) (x : List LifeState) → k < length slots → x ≡ get_or slots k x
    → now ≡ old ++ map (λ p. (p, low)) (filter_map latest_end (take k slots)) → new ≡ now ++ map (λ p. (p, low)) (option_to_list (latest_end x))
    → new ≡ old ++ map (λ p. (p, low)) (filter_map latest_end (take (k + 1) slots))
added slots old now new low k x h e was is =
    is ∙ ap (λ (z : List (Pid × ℕ)). z ++ map (λ (p : Pid). (p, low)) (option_to_list (latest_end x))) was
    ∙ append_assoc old (map (λ (p : Pid). (p, low)) (filter_map latest_end (take k slots))) (map (λ (p : Pid). (p, low)) (option_to_list (latest_end x)))
    ∙ ap (λ (z : List (Pid × ℕ)). old ++ z)
    (sym (map-append (λ (p : Pid). (p, low)) (filter_map latest_end (take k slots)) (option_to_list (latest_end x))) ∙ ap (map (λ (p : Pid). (p, low))) (sym (ends_more slots k x h e)))

pub loop-slot-preserved : goal.loop-slot-preserved
loop-slot-preserved c =
    let k = c.loop-slot.slot in
    let x = c.index.result.now in
    let same : c.self.inside.slots.items ≡ c.args.self.now.slots = ap (λ (t : DeskTable). t.slots) c.self.view_is in
    let n : length c.self.inside.slots.items ≡ length c.args.self.now.slots = ap length same in
    let o = c.self.inside.slots.ok.0 in
    let t = c.loop-slot-test.true in
    let e = c.len-slot-end.ensures in
    added c.args.self.now.slots c.args.ends.now.items c.loop-slot.ends.items c.add_end.new.ends.items c.args.low k x (omega arith)
    (subst (λ (s : Slots). x ≡ get_or s k x) same c.index.ensures) c.loop-slot.invariant
    (subst (λ (o : _). c.add_end.new.ends.items ≡ c.loop-slot.ends.items ++ map (λ (p : Pid). (p, c.args.low)) (option_to_list o)) c.latest_end.ensures c.in_ok-add_end.ensures)
