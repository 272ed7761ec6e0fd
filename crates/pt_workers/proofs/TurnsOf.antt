-- What turns of all desks add up to, round after round.
use Rattle.std.proofs.Common.{◌≡◌, ◌≢◌, ℕ, zero, suc, ◌+◌, ◌-◌, ◌^◌, ◌<◌, ◌≤◌, ⊎_elim, List, length, min, get_or, set, Option, Some, None, refl, sym, ap, ◌∙◌, subst, arith}
use Rattle.std.specs.Prelude.{IfSome}
use Rattle.std.proofs.lemmas.Bool.{cases_eq}
use Rattle.std.proofs.lemmas.List.{get_or_default, get_or-set_same, get_or-set_other, length-set}
use Rattle.pt_shard.specs.declared.stop.Stop.{Stop}
use Rattle.pt_desk.specs.DeskState.{DeskState, GoesOn}
use Rattle.pt_desk.specs.declared.turned.Turned.{Turned}
use Rattle.pt_desk.specs.Turns.{Turns}
use Rattle.pt_desk.proofs.Turning.{goes_on_then}
use Rattle.pt_workers.specs.Desks.{desk_kept, OnDesk}
use Rattle.pt_workers.specs.Stillness.{AllDesksGoOn, StoppedAt, TurnEach, both_rested, first_stopped, stop_at}
use Rattle.pt_workers.specs.declared.stillness.Rested.{Rested}
use Rattle.pt_workers.specs.declared.stillness.Stopped.{Stopped}
use Rattle.pt_workers.proofs.Burning.{AllBurn, burn_then, none_burns, one_burns, turn_burns}
use Rattle.pt_workers.proofs.GoingOn.{stays}

-- the turn of one desk
abbrev pub TurnAt : ℕ → ℕ → Turned → List DeskState → List DeskState → Type 0
TurnAt budget d turned mid new = OnDesk d (λ x y. Turns budget x turned y) mid new

first_none : (before next : Option Stopped) → first_stopped before next ≡ None → before ≡ None
first_none None next h = refl
first_none (Some s) next h = h

pub next_none : (before next : Option Stopped) → first_stopped before next ≡ None → next ≡ None
next_none None next h = h
next_none (Some s) next h = absurd (cc)

stop_none : (d : ℕ) (stop : Option Stop) → stop_at d stop ≡ None → stop ≡ None
stop_none d None h = refl
stop_none d (Some s) h = absurd (cc)

module _ (budget d : ℕ) (turned : Turned) (mid new : List DeskState) (on : TurnAt budget d turned mid new) where
  pub now : (x : DeskState) → get_or new d x ≡ on.desk
  now x = ap (λ ds. get_or ds d x) on.others ∙ get_or-set_same mid d on.desk x on.within

  pub was : (x : DeskState) → get_or mid d on.desk ≡ get_or mid d x
  was x = get_or_default mid d on.desk x on.within

  pub same_count : length new ≡ length mid
  same_count = ap length on.others ∙ length-set mid d on.desk

  pub beside : (k : ℕ) (x : DeskState) → k ≢ d → get_or new k x ≡ get_or mid k x
  beside k x apart = ap (λ ds. get_or ds k x) on.others ∙ get_or-set_other mid d k on.desk x apart

  turn_here : (x : DeskState) → Turns budget (get_or mid d x) turned (get_or new d x)
  turn_here x = subst (λ y. Turns budget (get_or mid d x) turned y) (sym (now x)) (subst (λ y. Turns budget y turned on.desk) (was x) on.does)

  one_goes_on : AllDesksGoOn mid new
  one_goes_on = record {
    count = same_count;
    each = λ k x l. ⊎_elim
        (λ (here : k ≡ d). subst (λ j. GoesOn (get_or mid j x) (get_or new j x)) (sym here)
        (subst (λ y. GoesOn (get_or mid d x) y) (sym (now x)) (subst (λ y. GoesOn y on.desk) (was x) on.goes_on)))
        (λ (apart : k ≢ d). subst (GoesOn (get_or mid k x)) (sym (beside k x apart)) (stays (get_or mid k x)))
        (cases_eq k d);
  }

  one_counts : turned.handled < 2 ^ 64 → AllBurn turned.handled mid new
  one_counts fits =
      subst (AllBurn turned.handled mid) (sym on.others)
      (one_burns mid d turned.handled turned.handled on.desk on.within (omega (arith, fits)) (turn_burns budget (get_or mid d on.desk) turned on.desk on.does))

pub all_stay : (xs : List DeskState) → AllDesksGoOn xs xs
all_stay xs = record { count = refl; each = λ d x l. stays (get_or xs d x) }

pub all_then : (xs ys zs : List DeskState) → AllDesksGoOn xs ys → AllDesksGoOn ys zs → AllDesksGoOn xs zs
all_then xs ys zs h k = record {
  count = k.count ∙ h.count;
  each = λ d x l. goes_on_then (get_or xs d x) (get_or ys d x) (get_or zs d x) (h.each d x l) (k.each d x (omega (arith, l, h.count)));
}

-- turns of the first n desks -----------------------------------------------------------

module _ (budget : ℕ) where
  pub turns_go_on : (n : ℕ) (old : List DeskState) (did : Rested) (new : List DeskState) → TurnEach budget n old did new → AllDesksGoOn old new
  turns_go_on zero old did new h = subst (AllDesksGoOn old) (sym h.1) (all_stay old)
  turns_go_on (suc d) old did new (mid, before, turned, so_far, on, is) =
      all_then old mid new (turns_go_on d old before mid so_far) (one_goes_on budget d turned mid new on)

  -- the desks from n on had no turn yet
  turns_beyond : (n : ℕ) (old : List DeskState) (did : Rested) (new : List DeskState) → TurnEach budget n old did new → (k : ℕ) (x : DeskState) → n ≤ k → get_or new k x ≡ get_or old k x
  turns_beyond zero old did new h k x l = ap (λ ds. get_or ds k x) h.1
  turns_beyond (suc d) old did new (mid, before, turned, so_far, on, is) k x l =
      beside budget d turned mid new on k x (λ e. omega (arith, l, e)) ∙ turns_beyond d old before mid so_far k x (omega (arith, l))

  -- the turn of desk k among them: it was not stopped where none was, and handled nothing where none did
  pub record TurnOf (did : Rested) (old new : List DeskState) (k : ℕ) : Type 0 where
    pub turned : Turned
    pub turns : (x : DeskState) → Turns budget (get_or old k x) turned (get_or new k x)
    pub on : did.stopped ≡ None → turned.stopped ≡ None
    pub none : did.handled ≡ 0 → turned.handled ≡ 0

  pub turn_of : (n : ℕ) (old : List DeskState) (did : Rested) (new : List DeskState) → TurnEach budget n old did new → (k : ℕ) → k < n → TurnOf did old new k
  turn_of zero old did new h k l = absurd (omega (arith, l))
  turn_of (suc d) old did new (mid, before, turned, so_far, on, is) k l =
      let stopped : did.stopped ≡ first_stopped before.stopped (stop_at d turned.stopped) = ap (λ (r : Rested). r.stopped) is in
      let handled : did.handled ≡ min (before.handled + turned.handled) (2 ^ 64 - 1) = ap (λ (r : Rested). r.handled) is in
      ⊎_elim
      (λ (here : k ≡ d). record {
        turned = turned;
        turns = λ x. subst (λ j. Turns budget (get_or old j x) turned (get_or new j x)) (sym here)
            (subst (λ y. Turns budget y turned (get_or new d x)) (turns_beyond d old before mid so_far d x (omega arith)) (turn_here budget d turned mid new on x));
        on = λ none. stop_none d turned.stopped (next_none before.stopped (stop_at d turned.stopped) (sym stopped ∙ none));
        none = λ none. omega (arith, handled, none);
      })
      (λ (apart : k ≢ d).
      let earlier = turn_of d old before mid so_far k (omega (arith, l, apart)) in
      record {
        turned = earlier.turned;
        turns = λ x. subst (Turns budget (get_or old k x) earlier.turned) (sym (beside budget d turned mid new on k x apart)) (earlier.turns x);
        on = λ none. earlier.on (first_none before.stopped (stop_at d turned.stopped) (sym stopped ∙ none));
        none = λ none. earlier.none (omega (arith, handled, none));
      })
      (cases_eq k d)

  -- the turn that was stopped
  pub turn_stopped : (n : ℕ) (old : List DeskState) (did : Rested) (new : List DeskState) → n ≤ length old → TurnEach budget n old did new → IfSome did.stopped (λ s. (s.desk < n) × StoppedAt budget s new)
  turn_stopped zero old did new few h = subst (λ (r : Rested). IfSome r.stopped (λ s. (s.desk < zero) × StoppedAt budget s new)) (sym h.0) tt
  turn_stopped (suc d) old did new few (mid, before, turned, so_far, on, is) =
      subst (λ (r : Rested). IfSome r.stopped (λ s. (s.desk < suc d) × StoppedAt budget s new)) (sym is)
      (go before.stopped turned.stopped refl (turn_stopped d old before mid (omega (arith, few)) so_far))
    where
      count : length new ≡ length mid
      count = same_count budget d turned mid new on

      go : (b : Option Stopped) (t : Option Stop) → turned.stopped ≡ t → IfSome b (λ s. (s.desk < d) × StoppedAt budget s mid) → IfSome (first_stopped b (stop_at d t)) (λ s. (s.desk < suc d) × StoppedAt budget s new)
      go None None same h = tt
      go None (Some cause) same h = (
        omega arith,
        record {
          within = omega (arith, on.within, count);
          before = get_or mid d on.desk;
          turned = turned;
          left = on.desk;
          turns = on.does;
          stopped = same;
          kept = λ x. ap desk_kept (now budget d turned mid new on x);
        },
      )
      go (Some s) t same h = (
        omega (arith, h.0),
        record {
          within = omega (arith, h.1.within, count);
          before = h.1.before;
          turned = h.1.turned;
          left = h.1.left;
          turns = h.1.turns;
          stopped = h.1.stopped;
          kept = λ x. ap desk_kept (beside budget d turned mid new on s.desk x (λ e. omega (arith, h.0, e))) ∙ h.1.kept x;
        },
      )

  -- the letters that were handled
  pub turns_burn : budget < 2 ^ 64 → (n : ℕ) (old : List DeskState) (did : Rested) (new : List DeskState) → TurnEach budget n old did new → AllBurn did.handled old new
  turns_burn fits zero old did new h = subst (λ (r : Rested). AllBurn r.handled old new) (sym h.0) (subst (AllBurn 0 old) (sym h.1) (none_burns old))
  turns_burn fits (suc d) old did new (mid, before, turned, so_far, on, is) =
      subst (λ (r : Rested). AllBurn r.handled old new) (sym is)
      (burn_then before.handled turned.handled old mid new (turns_burn fits d old before mid so_far) (one_counts budget d turned mid new on (omega (arith, fits, on.does.within))))

-- the desk at place k, which is d, had its turn
pub turn_more : (budget : ℕ) (desks : List DeskState) (d k : ℕ) (old new : DeskState) (turned : Turned) → k ≡ d → k < length desks → old ≡ get_or desks k old → Turns budget old turned new → GoesOn old new
    → (start : List DeskState) (before : Rested) → TurnEach budget d start before desks
    → (did : Rested) → did ≡ both_rested before (record { handled = turned.handled; stopped = stop_at d turned.stopped }) → TurnEach budget (d + 1) start did (set desks k new)
turn_more budget desks d k old new turned at within is turns goes start before so_far did both =
    let was_old : (x : DeskState) → get_or desks k x ≡ old = λ x. sym (is ∙ get_or_default desks k old x within) in
    let on : TurnAt budget k turned desks (set desks k new)
    = record { within = within; desk = new; does = rw (was_old new) turns; goes_on = rw (was_old new) goes; others = refl } in
    let more : suc d ≡ d + 1 = omega arith in
    subst (λ n. TurnEach budget n start did (set desks k new)) more (desks, before, turned, so_far, subst (λ j. TurnAt budget j turned desks (set desks k new)) at on, both)
