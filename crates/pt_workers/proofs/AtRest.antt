-- Two rounds that handled nothing leave a node still.
use Rattle.std.proofs.Common.{◌≡◌, ℕ, suc, ◌+◌, ◌-◌, ◌^◌, ◌<◌, ◌≤◌, Bool, true, false, List, length, map, get_or, Option, Some, None, refl, sym, ap, ◌∙◌, subst, arith}
use Rattle.std.specs.Prelude.{is_some}
use Rattle.std.specs.List.{sum, sum_by}
use Rattle.std.proofs.lemmas.Bool.{both_ways}
use Rattle.std.proofs.lemmas.List.{get_or_default}
use Rattle.std.proofs.lemmas.List.Sums.{sum-map}
use Rattle.std.proofs.lemmas.Simd.{map-map}
use Rattle.pt_signal.specs.declared.config.TheConstants.{MAX_STAMP}
use Rattle.pt_carrier.proofs.Places.{in_lanes}
use Rattle.pt_signal.specs.declared.config.Config.{Config}
use Rattle.pt_shard.specs.ShardState.{ShardState, box}
use Rattle.pt_desk.specs.DeskState.{DeskState, place}
use Rattle.pt_workers.specs.Desks.{AreDesks, desk_kept}
use Rattle.pt_workers.specs.Stillness.{AreStill, LooksAgain, Rounds, TurnEach, both_rested}
use Rattle.pt_workers.specs.Looking.{AreMet}
use Rattle.pt_workers.specs.declared.stillness.Rested.{Rested}
use Rattle.pt_workers.specs.declared.stillness.Stopped.{Stopped}
use Rattle.pt_workers.proofs.Burning.{room}
use Rattle.pt_workers.proofs.Idle.{IsIdle, lane_still, none_held}
use Rattle.pt_workers.proofs.Meeting.{Kept, kept_collected, kept_count, kept_posted, kept_shard}
use Rattle.pt_workers.proofs.TurnsOf.{turn_of, turns_burn, turns_go_on}

-- a round in which no turn handled anything or was stopped
pub record IsQuiet (budget : ℕ) (old new : List DeskState) : Type 0 where
  pub count : length new ≡ length old
  pub each : (d : ℕ) (x : DeskState) → d < length old → IsIdle budget (get_or old d x) (get_or new d x)

pub quiet_turns : (budget : ℕ) (old : List DeskState) (did : Rested) (new : List DeskState) → TurnEach budget (length old) old did new → did.handled ≡ 0 → did.stopped ≡ None → IsQuiet budget old new
quiet_turns budget old did new turns none on = record {
  count = (turns_go_on budget (length old) old did new turns).count;
  each = λ d x l.
      let t = turn_of budget (length old) old did new turns d l in
      record { turned = t.turned; turns = t.turns x; none = t.none none; on = t.on on };
}

-- the last round was quiet, behind a look at all lanes
pub record WasQuiet (budget : ℕ) (desks : List DeskState) : Type 0 where
  pub before : List DeskState
  pub node : AreDesks before
  pub met : AreMet before
  pub quiet : IsQuiet budget before desks

desks_of : (desks : List DeskState) → AreDesks desks → (d : ℕ) (x : DeskState) → d < length desks → (get_or desks d x).shard.config.desks ≡ length desks
desks_of desks node d x l = ap (λ (c : Config). c.desks) (node.1.configs d x l) ∙ sym node.1.count

-- such a round, the looks again, and another such round
pub two_quiet : (budget : ℕ) (desks met new : List DeskState) → 0 < budget → WasQuiet budget desks → map desk_kept met ≡ map desk_kept desks → AreDesks met → AreMet met → IsQuiet budget met new → AreStill new
two_quiet budget desks met new some was kept node are_met quiet = record {
  holds = λ d x l. none_held budget (get_or met d x) (get_or new d x) (quiet.each d x (omega (arith, l, quiet.count))) some;
  ways = λ d e d_new e_new.
      let count : length met ≡ length desks = kept_count met desks kept in
      let d_met : d < length met = omega (arith, d_new, quiet.count) in
      let e_met : e < length met = omega (arith, e_new, quiet.count) in
      let d_in : d < length desks = omega (arith, d_met, count) in
      let e_in : e < length desks = omega (arith, e_met, count) in
      let d_was : d < length was.before = omega (arith, d_in, was.quiet.count) in
      let e_was : e < length was.before = omega (arith, e_in, was.quiet.count) in
      let lane = λ (x : DeskState).
      let p = get_or met e x in
      lane_still budget some d e (get_or was.before d x) (get_or desks d x) (get_or met d x) (get_or new d x) (get_or was.before e x) (get_or desks e x) p (get_or new e x)
      (was.quiet.each d x d_was) (quiet.each d x d_met) (was.quiet.each e x e_was) (quiet.each e x e_met)
      (omega (arith, e_was, desks_of was.before was.node d x d_was)) (omega (arith, e_met, desks_of met node d x d_met))
      (omega (arith, d_met, in_lanes place met node.1.node e p e_met (get_or_default met e x p e_met)))
      ((was.met d e d_was e_was).seen x) ((was.met d e d_was e_was).places x)
      (kept_posted met desks kept d e x d_in) (ap (λ (s : ShardState). box s e) (kept_shard met desks kept d x d_in)) (kept_collected met desks kept e d x e_in)
      ((are_met d e d_met e_met).whole x) in
      record { outbox = λ x. (lane x).0; lane = λ x. (lane x).1 };
}

-- one round more: the looks, and a turn of each desk
sum_kept : (g : Kept → ℕ) (xs : List DeskState) → sum_by (λ (d : DeskState). g (desk_kept d)) xs ≡ sum_by g (map desk_kept xs)
sum_kept g xs = sym (sum-map (λ (d : DeskState). g (desk_kept d)) xs) ∙ ap sum (sym (map-map g desk_kept xs)) ∙ sum-map g (map desk_kept xs)

pub kept_sum : (g : Kept → ℕ) (xs ys : List DeskState) → map desk_kept xs ≡ map desk_kept ys → sum_by (λ (d : DeskState). g (desk_kept d)) xs ≡ sum_by (λ (d : DeskState). g (desk_kept d)) ys
kept_sum g xs ys kept = sum_kept g xs ∙ ap (sum_by g) kept ∙ sym (sum_kept g ys)

pub kept_room : (xs ys : List DeskState) → map desk_kept xs ≡ map desk_kept ys → room xs ≡ room ys
kept_room xs ys kept = kept_sum (λ (k : Kept). MAX_STAMP - k.0.clock) xs ys kept

pub none_stopped : (o : Option Stopped) (b : Bool) → b ≡ is_some o → b ≡ false → o ≡ None
none_stopped None b h k = refl
none_stopped (Some s) b h k = absurd (both_ways b k h)

pub look_again : (o : Option Stopped) (b : Bool) (last new : List DeskState) → b ≡ is_some o → b ≡ true → map desk_kept new ≡ map desk_kept last → LooksAgain o last new
look_again None b last new h k kept = absurd (both_ways b h k)
look_again (Some s) b last new h k kept = kept

pub no_look_again : (o : Option Stopped) (last : List DeskState) → o ≡ None → LooksAgain o last last
no_look_again o last none = subst (λ o. LooksAgain o last last) (sym none) refl

module _ (budget : ℕ) (desks met new : List DeskState) (round : Rested) (kept : map desk_kept met ≡ map desk_kept desks) (turns : TurnEach budget (length met) met round new) where
  pub rounds_more : (start : List DeskState) (did did' : Rested) → did.stopped ≡ None → did' ≡ both_rested did round → (count : ℕ) × Rounds budget count start did desks → (count : ℕ) × Rounds budget count start did' new
  rounds_more start did did' on both (count, before) = (suc count, (desks, met, did, round, before, on, kept, turns, both))

  pub room_falls : budget < 2 ^ 64 → room new + round.handled ≤ room desks
  room_falls fits =
      let burn = turns_burn budget fits (length met) met round new turns in
      omega (arith, burn.room, burn.counted, kept_room met desks kept)

  pub quiet_round : AreDesks met → AreMet met → round.handled ≡ 0 → round.stopped ≡ None → WasQuiet budget new
  quiet_round node are_met none on = record { before = met; node = node; met = are_met; quiet = quiet_turns budget met round new turns none on }

  pub second_quiet : 0 < budget → AreDesks met → AreMet met → WasQuiet budget desks → round.handled ≡ 0 → round.stopped ≡ None → AreStill new
  second_quiet some node are_met was none on = two_quiet budget desks met new some was kept node are_met (quiet_turns budget met round new turns none on)
