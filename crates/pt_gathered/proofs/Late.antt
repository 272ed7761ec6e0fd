-- A process that ends after a place in a journal is found by the events from there on.
use Rattle.std.proofs.Common.{◌≡◌, ℕ, zero, suc, ◌+◌, ◌-◌, ◌<◌, ◌≤◌, ◌==◌, ◌⊎◌, Bool, true, false, cond, List, [], ◌∷◌, ◌++◌, Option, Some, None, length, take, get_or, reverse, refl, sym, ap, ◌∙◌, subst, inl, inr, ⊎_elim, arith, eqb-true}
use Rattle.std.specs.Prelude.{is_some, All, Contains}
use Rattle.std.specs.Option.{option_or}
use Rattle.std.proofs.lemmas.Bool.{cases_lt, false≢true}
use Rattle.std.proofs.lemmas.List.{take-append-drop}
use Rattle.std.proofs.lemmas.List.Elements.{All-nil, All-cons, All-append, All-weaker, Contains-push, Contains-append_left, Contains-append_right}
use Rattle.pt_signal.specs.declared.pid.Pid.{Pid}
use Rattle.pt_signal.specs.declared.reason.Reason.{Reason}
use Rattle.pt_signal.specs.declared.signal.Signal.{Signal}
use Rattle.pt_signal.specs.declared.signal.Signal.TheVariants.{LinkExit}
use Rattle.pt_signal.specs.Values.{same_pid}
use Rattle.pt_signal.proofs.Same.{same_pid_is}
use Rattle.pt_events.specs.declared.event.Event.{Event}
use Rattle.pt_events.specs.declared.event.Event.TheVariants.{Came, Left}
use Rattle.pt_events.specs.declared.event.Stamped.{Stamped}
use Rattle.pt_events.specs.History.{Past, Start, Phase, unborn, living, ended, is_ended, life, reason_of}
use Rattle.pt_events.specs.Journal.{events, IsLocal, MayHere}
use Rattle.pt_accounts.specs.LifeState.{LifeState}
use Rattle.pt_accounts.specs.Table.{TableTells, found, life_at}
use Rattle.pt_accounts.specs.DeskLives.{DeskTable, IsTableOf, life_in, oldest}
use Rattle.pt_accounts.proofs.Walking.{oldest_next}
use Rattle.pt_laws.specs.BirthsAndEnds.{ends_with, signal_ends}
use Rattle.pt_laws.proofs.living.BirthsAndEnds.{reason_step}
use Rattle.pt_gathered.specs.Gathered.{GatheredState, IsGathered, begins, journals}
use Rattle.pt_gathered.specs.Quiet.{QuietState, IsSettled}
use Rattle.pt_gathered.specs.Late.{HasEndedOn, HadEndedBy, AreEndsSince, may_end, is_over, late_end, ends_in, ends_below, ends_since}
use Rattle.pt_events.specs.Since.{after_oldest}
use Rattle.pt_gathered.proofs.Lawful.{locals}

-- the one event ----------------------------------------------------------------------------------

pub has_reason : (f : Phase) → is_some (reason_of f) ≡ is_ended f
has_reason unborn = refl
has_reason (living s) = refl
has_reason (ended r s) = refl

no_reason : (f : Phase) → is_ended f ≡ false → reason_of f ≡ None
no_reason unborn h = refl
no_reason (living s) h = refl
no_reason (ended r s) h = absurd (cc)

if_same : (p q : Pid) (o : Option Reason) → is_some (cond (same_pid p q) o None) ≡ true → Some q ≡ Some p
if_same p q o h = go (same_pid p q) refl h
  where
    go : (t : Bool) → same_pid p q ≡ t → is_some (cond t o None) ≡ true → Some q ≡ Some p
    go true is k = ap Some (sym (same_pid_is p q is))
    go false is k = absurd (false≢true k)

no_end : (t : Bool) → is_some (cond {A = Option Reason} t None None) ≡ true → ⊥
no_end true h = absurd (false≢true h)
no_end false h = absurd (false≢true h)

-- an event that ends p may end p alone
ends_the_one : (p : Pid) (f : Phase) (e : Event) → is_some (ends_with p f e) ≡ true → may_end e ≡ Some p
ends_the_one p f (Left q r) h = if_same p q (Some r) h
ends_the_one p (living s) (Came a b (Signal.Exit r)) h = if_same p b (signal_ends p s a (Signal.Exit r)) h
ends_the_one p (living s) (Came a b (LinkExit ids r)) h = if_same p b (signal_ends p s a (LinkExit ids r)) h
ends_the_one p (living s) (Came a b _) h = absurd (no_end (same_pid p b) h)
ends_the_one p f _ h = absurd (false≢true h)

ended_by : (start : Start) (past : Past) (p : Pid) (e : Event) → MayHere start past e → is_ended (life start past p) ≡ false → is_ended (life start (e ∷ past) p) ≡ true → may_end e ≡ Some p
ended_by start past p e may before after =
    let f = life start past p in
    let reason : reason_of (life start (e ∷ past) p) ≡ ends_with p f e
    = reason_step start past p e may ∙ ap (λ o. option_or o (ends_with p f e)) (no_reason f before) in
    ends_the_one p f e (ap is_some (sym reason) ∙ has_reason (life start (e ∷ past) p) ∙ after)

-- the table --------------------------------------------------------------------------------------

module _ (start : Start) (past : Past) (p : Pid) where
  told_over : (o : Option LifeState) → TableTells start past p o → is_ended (life start past p) ≡ true → is_over o ≡ true
  told_over None tells h = absurd (false≢true (sym (ap is_ended tells.0) ∙ h))
  told_over (Some l) tells h = ap (λ (x : LifeState). is_ended x.phase) tells.0 ∙ h

  over_told : (o : Option LifeState) → TableTells start past p o → is_over o ≡ true → is_ended (life start past p) ≡ true
  over_told None tells h = absurd (false≢true h)
  over_told (Some l) tells h = sym (ap (λ (x : LifeState). is_ended x.phase) tells.0) ∙ h

  module _ (d : ℕ) (t : DeskTable) (is : IsTableOf start d past t) where
    tells : p.shard ≡ d → TableTells start past p (life_in t p)
    tells here = subst (λ k. TableTells start past p (found k t.slots p)) (sym is.0) (is.1 p here)

    -- a process that has ended is over by the table of the desk
    pub is_over_there : p.shard ≡ d → is_ended (life start past p) ≡ true → is_over (life_in t p) ≡ true
    is_over_there here h = told_over (life_in t p) (tells here) h

    -- and one that is over is of the desk, and has ended
    pub over_is_ended : is_over (life_in t p) ≡ true → (p.shard ≡ d) × (is_ended (life start past p) ≡ true)
    over_is_ended h =
        let here : p.shard ≡ d = go (p.shard == t.desk) refl h in
        (here, over_told (life_in t p) (tells here) h)
      where
        go : (b : Bool) → (p.shard == t.desk) ≡ b → is_over (cond b (life_at t.slots p.slot p.version) None) ≡ true → p.shard ≡ d
        go true e k = eqb-true p.shard t.desk e ∙ is.0
        go false e k = absurd (false≢true k)

-- the events of one journal ----------------------------------------------------------------------

module _ (t : DeskTable) (n : ℕ) where
  abbrev IsEnd : Pid × ℕ → Type 0
  IsEnd x = (is_over (life_in t x.0) ≡ true) × (x.1 ≡ n)

  end_is : (o : Option Pid) → All IsEnd (late_end t n o)
  end_is None = All-nil IsEnd
  end_is (Some p) = go (is_over (life_in t p)) refl
    where
      go : (b : Bool) → is_over (life_in t p) ≡ b → All IsEnd (cond b ((p, n) ∷ []) [])
      go true e = All-cons IsEnd (p, n) [] (e, refl) (All-nil IsEnd)
      go false e = All-nil IsEnd

  ends_are : (journal : List Stamped) → All IsEnd (ends_in t n journal)
  ends_are [] = All-nil IsEnd
  ends_are (s ∷ journal) = All-append IsEnd (ends_in t n journal) (late_end t n (may_end s.event)) (ends_are journal) (end_is (may_end s.event))

  the_end : (p : Pid) → is_over (life_in t p) ≡ true → (o : Option Pid) → o ≡ Some p → Contains (late_end t n o) (p, n)
  the_end p over o is = subst (λ z. Contains (late_end t n z) (p, n)) (sym is) (let x : Pid × ℕ = (p, n) in rw over (Contains-push [] x))

  -- a process that has ended had ended by the older events, or is among those of the newer ones
  ended_since : (start : Start) (low top d : ℕ) (newer older : List Stamped) → IsLocal start low top d (newer ++ older) → (p : Pid) → is_over (life_in t p) ≡ true
      → is_ended (life start (events (newer ++ older)) p) ≡ true → (is_ended (life start (events older) p) ≡ true) ⊎ Contains (ends_in t n newer) (p, n)
  ended_since start low top d [] older local p over h = inl h
  ended_since start low top d (s ∷ newer) older local p over h = go (is_ended (life start (events (newer ++ older)) p)) refl (ended_since start low top d newer older local.1 p over)
    where
      go : (b : Bool) → is_ended (life start (events (newer ++ older)) p) ≡ b
          → (is_ended (life start (events (newer ++ older)) p) ≡ true → (is_ended (life start (events older) p) ≡ true) ⊎ Contains (ends_in t n newer) (p, n))
          → (is_ended (life start (events older) p) ≡ true) ⊎ Contains (ends_in t n (s ∷ newer)) (p, n)
      go true e before =
          ⊎_elim
          (λ (had : is_ended (life start (events older) p) ≡ true). inl had)
          (λ (c : Contains (ends_in t n newer) (p, n)). inr (Contains-append_left (ends_in t n newer) (late_end t n (may_end s.event)) (p, n) c))
          (before e)
      go false e before =
          let is = ended_by start (events (newer ++ older)) p s.event local.0.may e h in
          inr (Contains-append_right (ends_in t n newer) (late_end t n (may_end s.event)) (p, n) (the_end p over (may_end s.event) is))

  -- with one event more
  pub one_more : (past evs : List Stamped) → evs ≡ reverse past → (from k : ℕ) (o s : Stamped) → from ≤ k → k < length evs → s ≡ get_or evs k o
      → ends_in t n (take (k + 1 - from) (oldest (k + 1) past)) ≡ ends_in t n (take (k - from) (oldest k past)) ++ late_end t n (may_end s.event)
  one_more past evs given from k o s low within here =
      let next : k + 1 - from ≡ suc (k - from) = omega (arith, low) in
      ap (λ m. ends_in t n (take m (oldest (k + 1) past))) next
      ∙ ap (λ j. ends_in t n (take (suc (k - from)) j)) (oldest_next past evs given k o s within here)

-- all desks --------------------------------------------------------------------------------------

module _ (q : QuietState) (whole : IsGathered q.gathered) (settled : IsSettled q.gathered q.lives) (places : List ℕ) (n : ℕ) where
  abbrev g : GatheredState
  g = q.gathered

  abbrev table : ℕ → DeskTable
  table d = get_or q.lives d (record { desk = d; slots = []; read = 0 })

  abbrev newer : ℕ → List Stamped
  newer d = after_oldest (get_or places d 0) (journals g d)

  is_table : (d : ℕ) → d < length g.shards → IsTableOf (begins g) d (events (journals g d)) (table d)
  is_table d h = settled.lives_are.told d (record { desk = d; slots = []; read = 0 }) (omega (arith, h, settled.count))

  abbrev IsLate : Pid × ℕ → Type 0
  IsLate x = (x.0.shard < length g.shards) × HasEndedOn g x.0 × (x.1 ≡ n)

  each_below : (k : ℕ) → k ≤ length g.shards → All IsLate (ends_below q places n k)
  each_below zero h = All-nil IsLate
  each_below (suc d) h =
      let here : d < length g.shards = omega (arith, h) in
      All-append IsLate (ends_below q places n d) (ends_in (table d) n (newer d)) (each_below d (omega (arith, h)))
      (All-weaker (IsEnd (table d) n) IsLate
      (λ (x : Pid × ℕ) is.
      let a = over_is_ended (begins g) (events (journals g d)) x.0 d (table d) (is_table d here) is.0 in
      (subst (λ k. k < length g.shards) (sym a.0) here, subst (λ k. is_ended (life (begins g) (events (journals g k)) x.0) ≡ true) (sym a.0) a.1, is.1))
      (ends_in (table d) n (newer d)) (ends_are (table d) n (newer d)))

  -- those of one desk
  all_of : (d : ℕ) → d < length g.shards → (p : Pid) → p.shard ≡ d → HasEndedOn g p → HadEndedBy g (get_or places p.shard 0) p ⊎ Contains (ends_in (table d) n (newer d)) (p, n)
  all_of d h p here ends =
      let m = get_or places d 0 in
      let j = journals g d in
      let split : newer d ++ oldest m j ≡ j = take-append-drop (length j - m) j in
      let by_desk : is_ended (life (begins g) (events j) p) ≡ true = subst (λ k. is_ended (life (begins g) (events (journals g k)) p) ≡ true) here ends in
      let over = is_over_there (begins g) (events j) p d (table d) (is_table d h) here by_desk in
      let local : IsLocal (begins g) g.config.start g.config.top_version d (newer d ++ oldest m j) = subst (IsLocal (begins g) g.config.start g.config.top_version d) (sym split) (locals g whole d) in
      let ended_split : is_ended (life (begins g) (events (newer d ++ oldest m j)) p) ≡ true = subst (λ z. is_ended (life (begins g) (events z) p) ≡ true) (sym split) by_desk in
      ⊎_elim
      (λ (had : is_ended (life (begins g) (events (oldest m j)) p) ≡ true). inl (subst (λ k. is_ended (life (begins g) (events (oldest (get_or places k 0) (journals g k))) p) ≡ true) (sym here) had))
      (λ (c : Contains (ends_in (table d) n (newer d)) (p, n)). inr c)
      (ended_since (table d) n (begins g) g.config.start g.config.top_version d (newer d) (oldest m j) local p over ended_split)

  all_below : (k : ℕ) → k ≤ length g.shards → (p : Pid) → p.shard < k → HasEndedOn g p → HadEndedBy g (get_or places p.shard 0) p ⊎ Contains (ends_below q places n k) (p, n)
  all_below zero h p below ends = absurd (omega arith)
  all_below (suc d) h p below ends =
      ⊎_elim
      (λ (l : p.shard < d).
      ⊎_elim
      (λ (had : HadEndedBy g (get_or places p.shard 0) p). inl had)
      (λ (c : Contains (ends_below q places n d) (p, n)). inr (Contains-append_left (ends_below q places n d) (ends_in (table d) n (newer d)) (p, n) c))
      (all_below d (omega (arith, h)) p l ends))
      (λ (l : d ≤ p.shard).
      let here : p.shard ≡ d = omega (arith, l, below) in
      ⊎_elim
      (λ (had : HadEndedBy g (get_or places p.shard 0) p). inl had)
      (λ (c : Contains (ends_in (table d) n (newer d)) (p, n)). inr (Contains-append_right (ends_below q places n d) (ends_in (table d) n (newer d)) (p, n) c))
      (all_of d (omega (arith, h)) p here ends))
      (cases_lt p.shard d)

  pub are_ends_since : AreEndsSince g places n (ends_since q places n)
  are_ends_since = record {
    each = each_below (length g.shards) (omega arith);
    all = λ p h ends. all_below (length g.shards) (omega arith) p h ends;
  }
