-- Two rounds that handle nothing, each after the ends of all lanes have met, leave no letter in a lane or an outbox.
use Rattle.std.proofs.Common.{◌≡◌, ℕ, ◌<◌, ◌≤◌, ◌⊎◌, ⊎_elim, inl, inr, List, [], ◌++◌, length, take, drop, get_or, Option, Some, None, sym, ap, ◌∙◌, subst, append-nil, arith}
use Rattle.std.proofs.lemmas.List.{nil_from_length, length-take, length-drop}
use Rattle.pt_signal.specs.declared.letter.Letter.{Letter}
use Rattle.pt_carrier.specs.Ends.{OutEnds, InEnds, IsFull}
use Rattle.pt_shard.specs.ShardState.{ShardState, box}
use Rattle.pt_shard.specs.declared.stop.Stop.{Stop}
use Rattle.pt_desk.specs.DeskState.{DeskState, posted_to, waits_for, collected_from}
use Rattle.pt_desk.specs.declared.turned.Turned.{Turned}
use Rattle.pt_desk.specs.Turns.{HandlesAll, EndsWith, FindsNone, Turns}

none_taken : (n : ℕ) (ls : List Letter) → ls ≡ [] → take n ls ≡ []
none_taken n ls e = nil_from_length (take n ls) (omega (arith, length-take n ls, ap (λ (z : List Letter). length z) e))

none_left : (n : ℕ) (ls : List Letter) → ls ≡ [] → drop n ls ≡ []
none_left n ls e = nil_from_length (drop n ls) (omega (arith, length-drop n ls, ap (λ (z : List Letter). length z) e))

-- a turn that handled nothing, and was not stopped
pub record IsIdle (budget : ℕ) (old new : DeskState) : Type 0 where
  pub turned : Turned
  pub turns : Turns budget old turned new
  pub none : turned.handled ≡ 0
  pub on : turned.stopped ≡ None

module _ (budget : ℕ) (old new : DeskState) (idle : IsIdle budget old new) (some : 0 < budget) where
  no_letters : idle.turns.letters ≡ []
  no_letters = nil_from_length idle.turns.letters (omega (arith, idle.turns.handled, idle.none))

  last_is : idle.turns.last ≡ idle.turns.posted_desk
  last_is = subst (λ ls. HandlesAll ls idle.turns.posted_desk idle.turns.last) no_letters idle.turns.handles

  finds : FindsNone idle.turns.last new
  finds = go idle.turned.stopped idle.on idle.turns.ends
    where
      go : (s : Option Stop) → s ≡ None → EndsWith s idle.turned.handled budget idle.turns.last new → FindsNone idle.turns.last new
      go None h e = ⊎_elim (λ z. absurd (omega (arith, z.0, idle.none, some))) (λ z. z.1) e
      go (Some s) h e = absurd (cc)

  ins_is : idle.turns.last.ins ≡ old.ins
  ins_is = ap (λ (d : DeskState). d.ins) last_is ∙ idle.turns.posts.only.ins

  outs_is : new.outs ≡ idle.turns.posted_desk.outs
  outs_is = finds.outs ∙ ap (λ (d : DeskState). d.outs) last_is

  pub none_held : new.shard.hold ≡ None
  none_held = ap (λ (s : ShardState). s.hold) finds.shard ∙ finds.free

  pub none_known : (k : ℕ) → k < length old.ins.place.rings → get_or old.ins.known k [] ≡ []
  none_known k l =
      let within : k < length idle.turns.last.ins.place.rings = omega (arith, l, ap (λ (i : InEnds). length i.place.rings) ins_is) in
      ap (λ (i : InEnds). get_or i.known k []) (sym ins_is) ∙ (finds.none k (omega arith) within).0

  pub same_collected : (d : ℕ) → collected_from new d ≡ collected_from old d
  same_collected d = ap (λ ls. get_or ls d []) finds.collected ∙ ap (λ (i : InEnds). get_or i.collected d []) ins_is

  posted_is : (e : ℕ) → posted_to new e ≡ posted_to idle.turns.posted_desk e
  posted_is e = ap (λ (o : OutEnds). get_or o.posted e []) outs_is

  waits_is : (e : ℕ) → waits_for new e ≡ waits_for idle.turns.posted_desk e
  waits_is e = ap (λ (s : ShardState). box s e) finds.shard ∙ ap (λ (d : DeskState). box d.shard e) last_is

  -- where nothing waited for desk e, nothing was posted to it
  pub none_posted : (e : ℕ) → e < old.shard.config.desks → waits_for old e ≡ [] → (posted_to new e ≡ posted_to old e) × (waits_for new e ≡ [])
  none_posted e l w =
      let p = idle.turns.posts.each e l in (
        posted_is e ∙ p.posted ∙ ap (λ ls. posted_to old e ++ ls) (none_taken p.count (waits_for old e) w) ∙ append-nil (posted_to old e),
        waits_is e ∙ p.left ∙ none_left p.count (waits_for old e) w,
      )

  pub waits_or_full : (e : ℕ) → e < old.shard.config.desks → (waits_for new e ≡ []) ⊎ IsFull new.outs e
  waits_or_full e l = ⊎_elim (λ h. inl (waits_is e ∙ h)) (λ h. inr (subst (λ o. IsFull o e) (sym outs_is) h)) (idle.turns.posts.each e l).full

  -- no post forgets what was seen to be collected
  pub seen_more : (e : ℕ) → e < old.shard.config.desks → get_or old.outs.seen e 0 ≤ get_or new.outs.seen e 0
  seen_more e l = omega (arith, (idle.turns.posts.each e l).seen, ap (λ (o : OutEnds). get_or o.seen e 0) outs_is)

  pub same_capacity : (e : ℕ) → get_or new.outs.capacity e 0 ≡ get_or old.outs.capacity e 0
  same_capacity e = ap (λ (o : OutEnds). get_or o.capacity e 0) outs_is ∙ ap (λ c. get_or c e 0) idle.turns.posts.only.capacity

-- the lane from desk d to desk e: the desk that sends before and after the first round and the second, and the one that receives
module _ (budget : ℕ) (some : 0 < budget) (d e : ℕ)
    (a1 b1 a2 b2 p1 q1 p2 q2 : DeskState) (sends1 : IsIdle budget a1 b1) (sends2 : IsIdle budget a2 b2) (gets1 : IsIdle budget p1 q1) (gets2 : IsIdle budget p2 q2)
    (e_in : e < a1.shard.config.desks) (e_in2 : e < a2.shard.config.desks) (d_in : d < length p2.ins.place.rings)
    -- the ends met before the first round, and the lane has a place
    (met1 : length (collected_from p1 d) ≤ get_or a1.outs.seen e 0) (place : 0 < get_or a1.outs.capacity e 0)
    -- and between the two rounds, which changed nothing else
    (same_posted : posted_to a2 e ≡ posted_to b1 e) (same_waits : waits_for a2 e ≡ waits_for b1 e) (same_got : collected_from p2 d ≡ collected_from q1 d)
    (met2 : posted_to a2 e ≡ collected_from p2 d ++ get_or p2.ins.known d []) where
  all_posted : posted_to a2 e ≡ collected_from p2 d
  all_posted = met2 ∙ ap (λ ls. collected_from p2 d ++ ls) (none_known budget p2 q2 gets2 some d d_in) ∙ append-nil (collected_from p2 d)

  none_waits : waits_for b1 e ≡ []
  none_waits = ⊎_elim (λ h. h) full (waits_or_full budget a1 b1 sends1 some e e_in)
    where
      full : IsFull b1.outs e → waits_for b1 e ≡ []
      full h =
          let lengths : length (posted_to b1 e) ≡ length (collected_from p1 d)
          = ap (λ (ls : List Letter). length ls) (sym same_posted ∙ all_posted ∙ same_got ∙ same_collected budget p1 q1 gets1 some d) in
          absurd (omega (arith, h, lengths, met1, seen_more budget a1 b1 sends1 some e e_in, place, same_capacity budget a1 b1 sends1 some e))

  pub lane_still : (waits_for b2 e ≡ []) × (posted_to b2 e ≡ collected_from q2 d)
  lane_still =
      let z = none_posted budget a2 b2 sends2 some e e_in2 (same_waits ∙ none_waits) in
      (z.1, z.0 ∙ all_posted ∙ sym (same_collected budget p2 q2 gets2 some d))
