-- What is told of the processes, as the journals grow and are read.
use Rattle.std.proofs.Common.{◌≡◌, false, ℕ, suc, ◌+◌, ◌-◌, ◌<◌, ◌≤◌, List, [], ◌∷◌, ◌++◌, Option, Some, None, length, drop, get_or, set, length-append, refl, sym, ap, ◌∙◌, subst, arith, ⊎_elim}
use Rattle.std.proofs.lemmas.Bool.{cases_lt}
use Rattle.std.proofs.lemmas.List.{get_or-map, get_or-set_same, get_or-set_other, length-set}
use Rattle.pt_signal.specs.declared.pid.Pid.{Pid}
use Rattle.pt_events.specs.declared.event.Stamped.{Stamped}
use Rattle.pt_events.specs.History.{Past, Start, at_start, is_unborn}
use Rattle.pt_events.specs.Journal.{events, IsLocal}
use Rattle.pt_events.specs.JournalState.{JournalState}
use Rattle.pt_events.specs.Takes.{taken}
use Rattle.pt_accounts.specs.LifeState.{LifeState}
use Rattle.pt_accounts.specs.Table.{Slots, TableTells, AreTold, found}
use Rattle.pt_accounts.specs.DeskLives.{DeskTable, IsReadUpTo, IsTableOf, IsJournalOver, MayRead, ReadsOn, oldest}
use Rattle.pt_accounts.specs.LivesState.{Lives, AreLivesOf}
use Rattle.pt_shard.specs.ShardState.{ShardState, past}
use Rattle.pt_gathered.specs.Gathered.{GatheredState, IsGathered, begins, journals}
use Rattle.pt_gathered.specs.Settling.{Settles}
use Rattle.pt_gathered.specs.Tables as tables
use Rattle.pt_gathered.specs.Tables.{IsTableFor, AreTables, IsTold}
use Rattle.pt_gathered.proofs.Starts.{start_same, nobody_beyond}
use Rattle.pt_gathered.proofs.Owned.{life_same}
use Rattle.pt_gathered.proofs.Lawful.{locals, past_end}

-- starts that agree on the processes of the desk ------------------------------------------------

module _ (one two : Start) (d : ℕ) (same : (p : Pid) → p.shard ≡ d → at_start one p ≡ at_start two p) where
  tells_same : (before : Past) (p : Pid) → p.shard ≡ d → (o : Option LifeState) → TableTells one before p o → TableTells two before p o
  tells_same before p h None t = (sym (life_same one two d same before p h) ∙ t.0, t.1)
  tells_same before p h (Some l) t = subst (λ f. (l ≡ record { pid = p; phase = f; taken = length (taken before p) }) × (is_unborn f ≡ false)) (life_same one two d same before p h) t

  pub told_same : (slots : Slots) (before : Past) → AreTold one d slots before → AreTold two d slots before
  told_same slots before t p h = tells_same before p h (found d slots p) (t p h)

  pub read_same : (journal : List Stamped) (t : DeskTable) → t.desk ≡ d → IsReadUpTo one journal t → IsReadUpTo two journal t
  read_same journal t e r = record {
    within = r.within;
    told = subst (λ k. AreTold two k t.slots (events (oldest t.read journal))) (sym e)
        (told_same t.slots (events (oldest t.read journal)) (subst (λ k. AreTold one k t.slots (events (oldest t.read journal))) e r.told));
  }

-- a journal that grows ----------------------------------------------------------------------------

oldest_kept : (more journal : List Stamped) (k : ℕ) → k ≤ length journal → oldest k (more ++ journal) ≡ oldest k journal
oldest_kept [] journal k h = refl
oldest_kept (s ∷ more) journal k h =
    let e : length (s ∷ (more ++ journal)) - k ≡ suc (length (more ++ journal) - k) = let n = length-append more journal in omega arith in
    ap (λ n. drop n (s ∷ (more ++ journal))) e ∙ oldest_kept more journal k h

pub read_kept : (start : Start) (more journal : List Stamped) (t : DeskTable) → IsReadUpTo start journal t → IsReadUpTo start (more ++ journal) t
read_kept start more journal t r = record {
  within = let n = length-append more journal in let w = r.within in omega arith;
  told = subst (λ j. AreTold start t.desk t.slots (events j)) (sym (oldest_kept more journal t.read r.within)) r.told;
}

-- the node ----------------------------------------------------------------------------------------

-- the journal of a desk, by its place
pub journal_of : (g : GatheredState) (d : ℕ) (x : ShardState) → d < length g.shards → journals g d ≡ (get_or g.shards d x).journal
journal_of g d x h = get_or-map (λ (s : ShardState). s.journal) g.shards d x [] h

module _ (g : GatheredState) (whole : IsGathered g) (d : ℕ) (x : ShardState) (t : DeskTable) (h : d < length g.shards) where
  -- over what was before the desk, and over what was before all desks
  pub read_in_all : IsTableFor (get_or g.shards d x) t → (t.desk ≡ d) × IsReadUpTo (begins g) (journals g d) t
  read_in_all is =
      let s : ShardState = get_or g.shards d x in
      let desk : t.desk ≡ d = is.desk ∙ (whole.shards d x h).number in (
        desk,
        subst (λ j. IsReadUpTo (begins g) j t) (sym (journal_of g d x h)) (read_same s.start (begins g) d (start_same g.config g.shards whole.shards d x h) s.journal t desk is.read),
      )

  pub read_in_own : t.desk ≡ d → IsReadUpTo (begins g) (journals g d) t → IsTableFor (get_or g.shards d x) t
  read_in_own desk is =
      let s : ShardState = get_or g.shards d x in
      record {
        desk = desk ∙ sym (whole.shards d x h).number;
        read = read_same (begins g) s.start d (λ p e. sym (start_same g.config g.shards whole.shards d x h p e)) s.journal t desk (subst (λ j. IsReadUpTo (begins g) j t) (journal_of g d x h) is);
      }

  pub told_in_own : IsTableOf (begins g) d (events (journals g d)) t → IsTold (get_or g.shards d x) t
  told_in_own is =
      let s : ShardState = get_or g.shards d x in
      let number = (whole.shards d x h).number in
      let told : AreTold s.start d t.slots (events (journals g d)) = told_same (begins g) s.start d (λ p e. sym (start_same g.config g.shards whole.shards d x h p e)) t.slots (events (journals g d)) is.1 in (
        is.0 ∙ sym number,
        subst (λ k. AreTold s.start k t.slots (past s)) (sym number) (subst (λ j. AreTold s.start d t.slots (events j)) (journal_of g d x h) told),
      )

  -- so its journal may be read on
  pub journal_over : t.desk ≡ d → IsJournalOver (begins g) t.desk (get_or g.shards d x).journal
  journal_over desk = record {
    low = g.config.start;
    top = g.config.top_version;
    local = subst (λ k. IsLocal (begins g) g.config.start g.config.top_version k (get_or g.shards d x).journal) (sym desk)
        (subst (IsLocal (begins g) g.config.start g.config.top_version d) (journal_of g d x h) (locals g whole d));
    refs = whole.begun.refs;
  }

  pub may_read : IsTableFor (get_or g.shards d x) t → MayRead t (get_or g.shards d x).journal
  may_read is = let all = read_in_all is in (begins g, journal_over all.0, subst (λ k. IsReadUpTo (begins g) k t) (journal_of g d x h) all.1)

-- settling leaves each table that of its desk
pub tables_after : (old new : GatheredState) → IsGathered old → IsGathered new → Settles old new → (tables : List DeskTable) → AreTables old.shards tables → AreTables new.shards tables
tables_after old new was is settles tables are = record {
  count = are.count ∙ sym settles.count;
  each = λ d x t h.
      let k : d < length old.shards = omega (arith, h, settles.count) in
      let before = read_in_all old was d x (get_or tables d t) k (are.each d x t k) in
      let follows = settles.journals_follow d k in
      read_in_own new is d x (get_or tables d t) h before.0
      (subst (λ b. IsReadUpTo b (journals new d) (get_or tables d t)) (sym settles.start)
      (subst (λ j. IsReadUpTo (begins old) j (get_or tables d t)) (sym follows.is) (read_kept (begins old) follows.more (journals old d) (get_or tables d t) before.1)));
}

-- reading -----------------------------------------------------------------------------------------

oldest_all : (n : ℕ) (journal : List Stamped) → n ≡ length journal → oldest n journal ≡ journal
oldest_all n journal e = let z : length journal - n ≡ 0 = omega (arith, e) in ap (λ k. drop k journal) z

tables_set : (shards : List ShardState) (k : ℕ) (all : List DeskTable) (t : DeskTable) → k < length shards → AreTables shards all → ((x : ShardState) → IsTableFor (get_or shards k x) t) → AreTables shards (set all k t)
tables_set shards k all t h are is = record {
  count = length-set all k t ∙ are.count;
  each = λ d x o l. ⊎_elim (λ (m : d < k). other d x o l (λ e. absurd (omega (arith, e, m)))) (λ (m : k ≤ d). ⊎_elim (λ (n : k < d). other d x o l (λ e. absurd (omega (arith, e, n)))) (λ (n : d ≤ k). here d x o (omega (arith, m, n))) (cases_lt k d)) (cases_lt d k);
}
  where
    other : (d : ℕ) (x : ShardState) (o : DeskTable) → d < length shards → (d ≡ k → ⊥) → IsTableFor (get_or shards d x) (get_or (set all k t) d o)
    other d x o l n = subst (IsTableFor (get_or shards d x)) (sym (get_or-set_other all k d t o n)) (are.each d x o l)

    here : (d : ℕ) (x : ShardState) (o : DeskTable) → d ≡ k → IsTableFor (get_or shards d x) (get_or (set all k t) d o)
    here d x o e =
        let room : k < length all = omega (arith, h, are.count) in
        subst (λ i. IsTableFor (get_or shards i x) (get_or (set all k t) i o)) (sym e)
        (subst (IsTableFor (get_or shards k x)) (sym (get_or-set_same all k t o room)) (is x))

-- the journal of desk k is read on, from its table t on
module _ (g : GatheredState) (whole : IsGathered g) (k : ℕ) (s : ShardState) (j : JournalState) (all : List DeskTable) (t : DeskTable) (h : k < length g.shards) (at : s ≡ get_or g.shards k s) (is_past : j.past ≡ s.journal) (are : AreTables g.shards all) (t_is : t ≡ get_or all k t) where
  is_for : IsTableFor (get_or g.shards k s) t
  is_for = subst (IsTableFor (get_or g.shards k s)) (sym t_is) (are.each k s t h)

  same_journal : (get_or g.shards k s).journal ≡ j.past
  same_journal = ap (λ (s : ShardState). s.journal) (sym at) ∙ sym is_past

  pub may_go_on : MayRead t j.past
  may_go_on = subst (MayRead t) same_journal (may_read g whole k s t h is_for)

  module _ (new : DeskTable) (on : ReadsOn j.past t new) where
    read_here : (new.desk ≡ k) × IsReadUpTo (begins g) (journals g k) new
    read_here =
        let before = read_in_all g whole k s t h is_for in (
          on.desk ∙ before.0,
          subst (λ z. IsReadUpTo (begins g) z new) (sym (journal_of g k s h ∙ same_journal))
              (on.over (begins g) (subst (IsJournalOver (begins g) t.desk) same_journal (journal_over g whole k s t h before.0)) (subst (λ z. IsReadUpTo (begins g) z t) (journal_of g k s h ∙ same_journal) before.1)),
        )

    pub tables_read : AreTables g.shards (set all k new)
    tables_read = tables_set g.shards k all new h are (λ x. read_in_own g whole k x new h read_here.0 read_here.1)

    pub told_read : new.read ≡ length j.past → IsTableOf (begins g) k (events (journals g k)) new
    told_read all_read =
        let n : new.read ≡ length (journals g k) = all_read ∙ ap length (sym (journal_of g k s h ∙ same_journal)) in (
          read_here.0,
          subst (λ z. AreTold (begins g) k new.slots (events z)) (oldest_all new.read (journals g k) n) (subst (λ d. AreTold (begins g) d new.slots (events (oldest new.read (journals g k)))) read_here.0 read_here.1.told),
        )

-- those of the desks below n are read
abbrev pub AreReadBelow : ℕ → GatheredState → List DeskTable → Type 0
AreReadBelow n g all = (d : ℕ) (o : DeskTable) → d < n → IsTableOf (begins g) d (events (journals g d)) (get_or all d o)

pub one_more_read : (g : GatheredState) (k : ℕ) (all : List DeskTable) (t : DeskTable) → k < length all → AreReadBelow k g all → IsTableOf (begins g) k (events (journals g k)) t → AreReadBelow (k + 1) g (set all k t)
one_more_read g k all t room told is d o h = ⊎_elim below here (cases_lt d k)
  where
    below : d < k → IsTableOf (begins g) d (events (journals g d)) (get_or (set all k t) d o)
    below l = subst (IsTableOf (begins g) d (events (journals g d))) (sym (get_or-set_other all k d t o (λ e. absurd (omega (arith, e, l))))) (told d o l)

    here : k ≤ d → IsTableOf (begins g) d (events (journals g d)) (get_or (set all k t) d o)
    here l =
        let e : k ≡ d = omega (arith, h, l) in
        subst (λ i. IsTableOf (begins g) i (events (journals g i)) (get_or (set all k t) i o)) e (subst (IsTableOf (begins g) k (events (journals g k))) (sym (get_or-set_same all k t o room)) is)

-- all tables
pub are_lives : (g : GatheredState) → IsGathered g → (lives : Lives) → length lives ≡ length g.shards → tables.TablesAreTold g lives → AreLivesOf (begins g) (journals g) lives
are_lives g whole lives n told = record {
  desks = record { low = g.config.start; top = g.config.top_version; local = locals g whole };
  told = told;
  rest = λ d h. past_end g whole d (omega (arith, h, n));
  nobody = λ p h. nobody_beyond g.config g.shards whole.shards p (omega (arith, h, n));
}
