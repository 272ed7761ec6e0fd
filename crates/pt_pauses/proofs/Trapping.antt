-- One that lives on though it was told to end, trapped that.
use Rattle.std.proofs.Common.{◌≡◌, ◌⊎◌, inl, inr, Bool, true, false, cond, ◌||◌, ◌&&◌, [], ◌∷◌, ◌++◌, Option, Some, None, refl, sym, ap, subst, ◌∙◌}
use Rattle.std.specs.List.{list_any}
use Rattle.std.proofs.lemmas.Bool.{and_parts}
use Rattle.std.proofs.lemmas.List.Folds.{list_any-append}
use Rattle.pt_signal.specs.declared.pid.Pid.{Pid}
use Rattle.pt_signal.specs.declared.reason.Reason.{Reason}
use Rattle.pt_signal.specs.declared.reason.Reason.TheVariants.{Kill, Shutdown}
use Rattle.pt_signal.specs.declared.signal.Signal.{Signal}
use Rattle.pt_signal.specs.Values.{same_pid}
use Rattle.pt_signal.specs.Process.{ProcessState, Sent, handle, obey, sent, verdict}
use Rattle.pt_signal.proofs.Same.{same_pid_is}
use Rattle.pt_events.specs.declared.event.Event.{Event}
use Rattle.pt_events.specs.declared.event.Event.TheVariants.{Born, Said, Came, Took, Flag, Left, Refused}
use Rattle.pt_events.specs.History.{Past, Start, Phase, unborn, living, ended, after, gets, is_unborn, is_living, state_of, life, alive, is_between, flying, landed, sent_by, live_or_end, May, IsLegal}
use Rattle.pt_events.proofs.Phases.{after_born, after_ended}
use Rattle.pt_laws.specs.Links.{IsKnownSaid}
use Rattle.pt_behaviour.proofs.Cases.{by_cases}
use Rattle.pt_children.specs.Families.{bids_to, has_bid_to, is_bid}
use Rattle.pt_pauses.specs.Still.{HasTrapped}
use Rattle.pt_pauses.proofs.Ended.{known_rest}
use Rattle.pt_children.proofs.Tying.{or_left, or_right, stays_in}

bid_is : (r s : Reason) → is_bid r s ≡ true → r ≡ s
bid_is Shutdown Shutdown h = refl
bid_is Kill Kill h = refl
bid_is r s h = absurd (cc)

-- such an exit signal is on its way
abbrev bid_in : Reason → Signal → Bool
bid_in r (Signal.Exit s) = is_bid r s
bid_in r _ = false

shut : (a b : Bool) → (a && b && false) ≡ false
shut true true = refl
shut true false = refl
shut false b = refl

none_ends : (o : Option Reason) (s : ProcessState) → is_living (live_or_end o s) ≡ true → o ≡ None
none_ends None s h = refl
none_ends (Some r) s h = absurd (cc)

not_again : {X : Type 0} (q : Pid) (e : Event) (f : Phase) → is_living f ≡ false → is_unborn f ≡ false → is_living (after q e f) ≡ true → X
not_again q e unborn dead born lives = absurd (cc)
not_again q e (living s) dead born lives = absurd (cc)
not_again q e (ended r s) dead born lives = absurd (let bad : false ≡ true = sym (ap is_living (after_ended q e r s)) ∙ lives in cc)

module _ (start : Start) (me q : Pid) (same_desk : q.shard ≡ me.shard) (r : Reason) where
  abbrev carries : Sent → Bool
  carries l = same_pid me l.from && same_pid q l.to && bid_in r l.signal

  -- it came, and did not end q
  abbrev Survived : Past → Type 0
  Survived history =
      (later : Past) × (before : Past) × (history ≡ later ++ Came me q (Signal.Exit r) ∷ before)
      × ((handle q (state_of (life start before q)) me (Signal.Exit r)).ending ≡ None)

  -- q was born as it was told
  born_before : (e : Event) (past : Past) → IsKnownSaid start (e ∷ past) → bids_to me q r e ≡ true → is_unborn (life start past q) ≡ false
  born_before (Said a b (Signal.Exit s)) past known told =
      let both = and_parts (same_pid me a) (same_pid q b) (and_parts (same_pid me a && same_pid q b) (is_bid r s) told).0 in
      let to = same_pid_is q b both.1 in
      subst (λ (x : Pid). is_unborn (life start past x) ≡ false) (sym to) (known.0 (sym (ap (λ (x : Pid). x.shard) to) ∙ (same_desk ∙ ap (λ (x : Pid). x.shard) (same_pid_is me a both.0))))
  born_before _ past known told = absurd (cc)

  pub told_born : (past : Past) → IsKnownSaid start past → has_bid_to me q r past ≡ true → is_unborn (life start past q) ≡ false
  told_born [] known told = absurd (cc)
  told_born (e ∷ past) known told = by_cases (bids_to me q r e)
      (λ here. after_born q e (life start past q) (born_before e past known here))
      (λ no. after_born q e (life start past q) (told_born past (known_rest start e past known) (sym (ap (λ (b : Bool). b || has_bid_to me q r past) no) ∙ told)))

  -- it is on its way as it is said
  sends : (e : Event) (past : Past) → bids_to me q r e ≡ true → list_any carries (flying start (e ∷ past)) ≡ true
  sends (Said a b (Signal.Exit s)) past told =
      list_any-append carries (flying start past) (sent a b (Signal.Exit s) ∷ [])
      ∙ or_right (list_any carries (flying start past)) (carries (sent a b (Signal.Exit s)) || false) (or_left (carries (sent a b (Signal.Exit s))) false told)
  sends _ past told = absurd (cc)

  stays_on : (e : Event) (past : Past) → list_any carries (landed e (flying start past)) ≡ true → list_any carries (flying start (e ∷ past)) ≡ true
  stays_on e past any = list_any-append carries (landed e (flying start past)) (sent_by start past e) ∙ or_left (list_any carries (landed e (flying start past))) (list_any carries (sent_by start past e)) any

  by_phase : (f : Phase) (a : Pid) (s : Reason) → is_living f ≡ true → is_living (gets q a (Signal.Exit s) f) ≡ true → (handle q (state_of f) a (Signal.Exit s)).ending ≡ None
  by_phase unborn a s lived lives = absurd (cc)
  by_phase (living st) a s lived lives = none_ends (handle q st a (Signal.Exit s)).ending (handle q st a (Signal.Exit s)).state lives
  by_phase (ended w st) a s lived lives = absurd (cc)

  lived_on : (past : Past) (a b : Pid) (s : Reason) → (same_pid me a && same_pid q b && is_bid r s) ≡ true → is_living (life start past q) ≡ true → alive start (Came a b (Signal.Exit s) ∷ past) q ≡ true → Survived (Came a b (Signal.Exit s) ∷ past)
  lived_on past a b s told lived lives = (
    [],
    past,
    one,
    subst (λ (x : Pid). (handle q (state_of (life start past q)) x (Signal.Exit r)).ending ≡ None) (sym from)
        (subst (λ (x : Reason). (handle q (state_of (life start past q)) a (Signal.Exit x)).ending ≡ None) (sym so)
        (by_phase (life start past q) a s lived (sym (ap (λ (c : Bool). is_living (cond c (gets q a (Signal.Exit s) (life start past q)) (life start past q))) two.1) ∙ lives))),
  )
    where
      whole : ((same_pid me a && same_pid q b) ≡ true) × (is_bid r s ≡ true)
      whole = and_parts (same_pid me a && same_pid q b) (is_bid r s) told

      two : (same_pid me a ≡ true) × (same_pid q b ≡ true)
      two = and_parts (same_pid me a) (same_pid q b) whole.0

      from : me ≡ a
      from = same_pid_is me a two.0

      so : r ≡ s
      so = bid_is r s whole.1

      one : Came a b (Signal.Exit s) ∷ past ≡ Came me q (Signal.Exit r) ∷ past
      one =
          ap (λ (x : Pid). Came x b (Signal.Exit s) ∷ past) (sym from) ∙ ap (λ (x : Pid). Came me x (Signal.Exit s) ∷ past) (sym (same_pid_is q b two.1))
          ∙ ap (λ (x : Reason). Came me q (Signal.Exit x) ∷ past) (sym so)

  step : (e : Event) (past : Past) → May start past e → list_any carries (flying start past) ≡ true → is_living (life start past q) ≡ true → alive start (e ∷ past) q ≡ true
      → (list_any carries (flying start (e ∷ past)) ≡ true) ⊎ Survived (e ∷ past)
  step (Came a b (Signal.Exit s)) past may any lived lives = by_cases (same_pid me a && same_pid q b && is_bid r s)
      (λ is. inr (lived_on past a b s is lived lives))
      (λ no. inl (stays_on (Came a b (Signal.Exit s)) past (stays_in carries (is_between a b) (flying start past) (sent a b (Signal.Exit s)) may no any)))
  step (Came a b x) past may any lived lives = inl (stays_on (Came a b x) past (stays_in carries (is_between a b) (flying start past) (sent a b x) may (shut (same_pid me a) (same_pid q b)) any))
  step (Born p parent link) past may any lived lives = inl (stays_on (Born p parent link) past any)
  step (Said a b x) past may any lived lives = inl (stays_on (Said a b x) past any)
  step (Took p k i) past may any lived lives = inl (stays_on (Took p k i) past any)
  step (Flag p on) past may any lived lives = inl (stays_on (Flag p on) past any)
  step (Left p w) past may any lived lives = inl (stays_on (Left p w) past any)
  step (Refused a b) past may any lived lives = inl (stays_on (Refused a b) past any)

  later_on : (e : Event) (past : Past) → Survived past → Survived (e ∷ past)
  later_on e past (later, before, is, ending) = (e ∷ later, before, ap (λ (p : Past). e ∷ p) is, ending)

  pub told_came : (past : Past) → IsLegal start past → IsKnownSaid start past → alive start past q ≡ true → has_bid_to me q r past ≡ true → (list_any carries (flying start past) ≡ true) ⊎ Survived past
  told_came [] legal known lives told = absurd (cc)
  told_came (e ∷ past) legal known lives told = by_cases (is_living (life start past q))
      (λ lived. by_cases (bids_to me q r e)
      (λ here. inl (sends e past here))
      (λ no. onward lived (told_came past legal.1 (known_rest start e past known) lived (sym (ap (λ (b : Bool). b || has_bid_to me q r past) no) ∙ told))))
      (λ dead. not_again q e (life start past q) dead (was_born (bids_to me q r e) refl) lives)
    where
      onward : is_living (life start past q) ≡ true → (list_any carries (flying start past) ≡ true) ⊎ Survived past → (list_any carries (flying start (e ∷ past)) ≡ true) ⊎ Survived (e ∷ past)
      onward lived (inl any) = step e past legal.0 any lived lives
      onward lived (inr came) = inr (later_on e past came)

      was_born : (b : Bool) → bids_to me q r e ≡ b → is_unborn (life start past q) ≡ false
      was_born true here = born_before e past known here
      was_born false off = told_born past (known_rest start e past known) (sym (ap (λ (b : Bool). b || has_bid_to me q r past) off) ∙ told)

  pub quiet_came : (past : Past) → IsLegal start past → IsKnownSaid start past → flying start past ≡ [] → alive start past q ≡ true → has_bid_to me q r past ≡ true → Survived past
  quiet_came past legal known quiet lives told = go (told_came past legal known lives told)
    where
      go : (list_any carries (flying start past) ≡ true) ⊎ Survived past → Survived past
      go (inl any) = absurd (let bad : false ≡ true = sym (ap (list_any carries) quiet) ∙ any in cc)
      go (inr came) = came

trapped_it : (traps own : Bool) (me : Pid) (s : ProcessState) → (obey (verdict false traps own me Shutdown) s).ending ≡ None → traps ≡ true
trapped_it true own me s h = refl
trapped_it false own me s h = absurd (cc)

killed_it : {X : Type 0} (traps own : Bool) (me : Pid) (s : ProcessState) → (obey (verdict false traps own me Kill) s).ending ≡ None → X
killed_it traps own me s h = absurd (cc)

module _ (start : Start) (me q : Pid) (same_desk : q.shard ≡ me.shard) (past : Past) (legal : IsLegal start past) (known : IsKnownSaid start past) (quiet : flying start past ≡ []) (lives : alive start past q ≡ true) where
  pub quiet_trapped : has_bid_to me q Shutdown past ≡ true → HasTrapped start past me q
  quiet_trapped told =
      let k = quiet_came start me q same_desk Shutdown past legal known quiet lives told in
      (k.0, k.1, k.2, trapped_it (state_of (life start k.1 q)).traps (same_pid me q) me (state_of (life start k.1 q)) k.3)

  pub quiet_killed : {X : Type 0} → has_bid_to me q Kill past ≡ true → X
  quiet_killed told =
      let k = quiet_came start me q same_desk Kill past legal known quiet lives told in
      killed_it (state_of (life start k.1 q)).traps (same_pid me q) me (state_of (life start k.1 q)) k.3
