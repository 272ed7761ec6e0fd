-- A desk that forgets why processes ended before its empty journal is whole.
use Rattle.std.proofs.Common.{◌≡◌, ℕ, false, List, [], ◌∷◌, refl, sym, ap, ◌∙◌, subst}
use Rattle.pt_signal.specs.declared.pid.Pid.{Pid}
use Rattle.pt_events.specs.declared.event.Stamped.{Stamped}
use Rattle.pt_events.specs.History.{Start, at_start, is_unborn, is_ended}
use Rattle.pt_events.specs.Journal.{posts}
use Rattle.pt_events.specs.Forgetting.{without_reasons}
use Rattle.pt_events.proofs.Forgetting.{forgets_each, reasonless_unborn, reasonless_ended}
use Rattle.pt_directory.specs.declared.view.Death.{Death}
use Rattle.pt_directory.specs.Seats.{SeatState}
use Rattle.pt_accounts.specs.DeskLives.{DeskTable, BeginsBare, all_bare}
use Rattle.pt_carrier.specs.Ends.{OutEnds, InEnds}
use Rattle.pt_shard.specs.ShardState.{ShardState}
use Rattle.pt_shard.specs.Fit.{IsFit}
use Rattle.pt_shard.specs.Restart.{forgetful}
use Rattle.pt_desk.specs.Sight.{Sight, deaths_in, IsSeated, WasInTurn, AreToldBefore}
use Rattle.pt_desk.specs.DeskState.{IsAccounted}
use Rattle.pt_desk.proofs.Accounts.{accounted_by}
use Rattle.pt_desk.proofs.Seating.{IsWhole}

turns_without : (start : Start) (slots : ℕ) → ((p : Pid) → is_unborn (at_start start p) ≡ false → WasInTurn start slots p)
    → (p : Pid) → is_unborn (at_start (without_reasons start) p) ≡ false → WasInTurn (without_reasons start) slots p
turns_without start slots turns p born =
    let turn = turns p (sym (reasonless_unborn (at_start start p)) ∙ sym (ap is_unborn (forgets_each start p)) ∙ born) in
    record {
      slot = turn.slot;
      version = turn.version;
      before = λ v some below.
          let q : Pid = record p { version = v } in
          ap is_ended (forgets_each start q) ∙ reasonless_ended (at_start start q) ∙ turn.before v some below;
    }

ended_without : (start : Start) (p : Pid) → is_ended (at_start (without_reasons start) p) ≡ is_ended (at_start start p)
ended_without start p = ap is_ended (forgets_each start p) ∙ reasonless_ended (at_start start p)

told_without : (start : Start) (low d : ℕ) (told : List Death) → AreToldBefore start low d told → AreToldBefore (without_reasons start) low d told
told_without start low d told before = record {
  each = λ k x at.
      let a = before.each k x at in
      (a.0, a.1, ended_without start (record { shard = x.shard; slot = x.slot; version = x.version }) ∙ a.2);
  all = λ p here ends. before.all p here (sym (ended_without start p) ∙ ends);
}

module _ (s : ShardState) (o : OutEnds) (i : InEnds) (v : Sight) (seat : SeatState) (t : DeskTable) (is : t ≡ all_bare v.before) (bare : BeginsBare v.before t)
    (none : s.journal ≡ []) (whole : IsWhole s o i v seat) where
  accounted : IsAccounted (forgetful s) o i
  accounted =
      accounted_by s (forgetful s) o i whole.0.accounts refl refl
      (λ e l. subst (λ (j : List Stamped). posts (without_reasons s.start) j e ≡ posts s.start j e) (sym none) refl ∙ whole.0.accounts.posted e l)
      whole.0.accounts.collected

  seated : IsSeated (forgetful s) (record v { before = t })
  seated = record {
    desks = whole.0.seated.desks;
    slots = whole.0.seated.slots;
    near = whole.0.seated.near;
    seen = whole.0.seated.seen;
    words = whole.0.seated.words;
    told = bare s.start (without_reasons s.start) s.number [] whole.0.seated.told (λ p here. forgets_each s.start p);
    unread = ap (λ (d : DeskTable). d.read) is;
    old = told_without s.start s.config.start s.number v.told whole.0.seated.old;
    turns = turns_without s.start s.config.slots whole.0.seated.turns;
  }

  deaths : deaths_in v.told s.start s.journal ≡ deaths_in v.told (without_reasons s.start) s.journal
  deaths = subst (λ (j : List Stamped). deaths_in v.told s.start j ≡ deaths_in v.told (without_reasons s.start) j) (sym none) refl

  forgot : IsFit (forgetful s) → IsWhole (forgetful s) o i (record v { before = t }) seat
  forgot fit = (
    record { fit = fit; accounts = accounted; seated = seated },
    whole.1 ∙ ap (λ (ds : List Death). record { name = v.directory.name; homes = s.number ∷ []; reads = v.reads; deaths = ds; marked = v.told }) deaths,
  )

  pub forgot_whole : (s' : ShardState) → s' ≡ forgetful s → IsFit s' → IsWhole s' o i (record v { before = t }) seat
  forgot_whole s' after fit = subst (λ z. IsWhole z o i (record v { before = t }) seat) (sym after) (forgot (subst IsFit after fit))
