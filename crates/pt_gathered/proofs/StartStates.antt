-- The state that a quiet node leaves behind, process by process.
use Rattle.std.proofs.Common.{◌≡◌, ℕ, zero, suc, ◌+◌, ◌<◌, ◌≤◌, Bool, true, false, cond, Option, Some, None, inl, inr, List, [], ◌∷◌, ◌++◌, length, map, take, get_or, refl, sym, ap, ◌∙◌, subst, arith, ⊎_elim}
use Rattle.std.specs.Prelude.{slice_get}
use Rattle.std.specs.Map.{lookup}
use Rattle.std.proofs.lemmas.Bool.{both_ways, cases_lt, false≢true}
use Rattle.pt_signal.specs.declared.pid.Pid.{Pid}
use Rattle.pt_signal.specs.declared.ids.Ids.{Ids}
use Rattle.pt_signal.specs.declared.ids.Ref.{Ref}
use Rattle.pt_signal.specs.declared.item.Item.{Item}
use Rattle.pt_signal.specs.Values.{same_pid}
use Rattle.pt_signal.specs.Process.{ProcessState}
use Rattle.pt_signal.proofs.Same.{same_pid_is, same_pid_refl}
use Rattle.pt_events.specs.declared.event.Stamped.{Stamped}
use Rattle.pt_events.specs.History.{Past, Start, Phase, unborn, living, ended, at_start, phase_or_unborn, life, state_of, arrived, is_unborn, is_living, reason_of}
use Rattle.pt_events.specs.Journal.{events, IsMerge}
use Rattle.pt_events.specs.Leaving.{outcome}
use Rattle.pt_events.specs.Locality.{JournalsSay}
use Rattle.pt_laws.specs.JournalLaws.{MergeIsThere}
use Rattle.pt_events.specs.Takes.{taken}
use Rattle.pt_judge.specs.Judge.{IsAfter}
use Rattle.pt_judge.specs.Judging.{JudgeState}
use Rattle.pt_accounts.specs.Pids.{IsBefore, IsBeforeAll, AreRising, IsIn}
use Rattle.pt_accounts.specs.declared.account.Account.{Account}
use Rattle.pt_accounts.specs.LivesState.{AreAllPids, InEveryMerge, account_at, account_in}
use Rattle.pt_shard.specs.ShardState.{ShardState, past, phase_of}
use Rattle.pt_shard.specs.Opening.{fresh_shard}
use Rattle.pt_shard.specs.Restart.{restarted}
use Rattle.pt_gathered.specs.Gathered.{GatheredState, IsGathered, begins, journals}
use Rattle.pt_beginning.specs.Beginning.{start_of}
use Rattle.pt_gathered.proofs.Starts.{start_same, nobody_beyond}
use Rattle.pt_gathered.proofs.Owned.{life_same}
use Rattle.pt_gathered.proofs.Lawful.{locals, past_end}
use Rattle.pt_gathered.proofs.Beginnings.{begun_at}
use Rattle.pt_gathered.proofs.Told.{journal_of}

-- one list copied from another by place -----------------------------------------------------

pub copied_more : {X : Type 0} (xs : List X) (k : ℕ) (x : X) → slice_get xs k ≡ Some x → take k xs ++ x ∷ [] ≡ take (k + 1) xs
copied_more [] k x h = absurd cc
copied_more (y ∷ xs) zero x h = let e : y ≡ x = cc in ap (λ z. z ∷ []) (sym e)
copied_more (y ∷ xs) (suc k) x h = let e : suc k + 1 ≡ suc (k + 1) = omega arith in ap (λ z. y ∷ z) (copied_more xs k x h) ∙ ap (λ n. take n (y ∷ xs)) (sym e)

pub copied_all : {X : Type 0} (xs : List X) (k : ℕ) → slice_get xs k ≡ None → take k xs ≡ xs
copied_all [] zero h = refl
copied_all [] (suc k) h = refl
copied_all (y ∷ xs) zero h = absurd cc
copied_all (y ∷ xs) (suc k) h = ap (λ z. y ∷ z) (copied_all xs k h)

pub within_copied : {X : Type 0} (xs : List X) (k : ℕ) (x : X) → slice_get xs k ≡ Some x → k < length xs
within_copied [] k x h = absurd cc
within_copied (y ∷ xs) zero x h = omega arith
within_copied (y ∷ xs) (suc k) x h = let ih = within_copied xs k x h in omega arith

-- processes that are listed ------------------------------------------------------------------

-- each of them, by what became of it
abbrev pub entries : (Pid → Phase) → List Pid → Start
entries f ps = map (λ p. (p, outcome (f p))) ps

pub found_in : (f : Pid → Phase) (p : Pid) (ps : List Pid) → IsIn p ps → lookup (same_pid p) (entries f ps) ≡ Some (outcome (f p))
found_in f p [] h = absurd h
found_in f p (q ∷ ps) h = go (same_pid p q) refl h (found_in f p ps)
  where
    go : (b : Bool) → same_pid p q ≡ b → IsIn p (q ∷ ps) → (IsIn p ps → lookup (same_pid p) (entries f ps) ≡ Some (outcome (f p))) → lookup (same_pid p) (entries f (q ∷ ps)) ≡ Some (outcome (f p))
    go true e i ih = rw e (ap (λ z. Some (outcome (f z))) (sym (same_pid_is p q e)))
    go false e (inl same) ih = absurd (both_ways (same_pid p q) e (subst (λ z. same_pid p z ≡ true) same (same_pid_refl p)))
    go false e (inr rest) ih = rw e (ih rest)

pub none_in : (f : Pid → Phase) (p : Pid) (ps : List Pid) → (IsIn p ps → ⊥) → lookup (same_pid p) (entries f ps) ≡ None
none_in f p [] n = refl
none_in f p (q ∷ ps) n = go (same_pid p q) refl (none_in f p ps (λ i. n (inr i)))
  where
    go : (b : Bool) → same_pid p q ≡ b → lookup (same_pid p) (entries f ps) ≡ None → lookup (same_pid p) (entries f (q ∷ ps)) ≡ None
    go true e ih = absurd (n (inl (same_pid_is p q e)))
    go false e ih = rw e ih

pub in_at : (ps : List Pid) (k : ℕ) (d : Pid) → k < length ps → IsIn (get_or ps k d) ps
in_at [] k d h = absurd (omega arith)
in_at (p ∷ ps) zero d h = inl refl
in_at (p ∷ ps) (suc k) d h = inr (in_at ps k d (omega arith))

before_at : (p : Pid) (ps : List Pid) (k : ℕ) (d : Pid) → IsBeforeAll p ps → k < length ps → IsBefore p (get_or ps k d)
before_at p [] k d b h = absurd (omega arith)
before_at p (q ∷ ps) zero d b h = b.0
before_at p (q ∷ ps) (suc k) d b h = before_at p ps k d b.1 (omega arith)

not_before : (p : Pid) → IsBefore p p → ⊥
not_before p (inl a) = omega arith
not_before p (inr (inl a)) = let x = a.1 in omega arith
not_before p (inr (inr a)) = let x = a.2 in omega arith

-- of pids that rise none stands among those before it
pub rising_new : (ps : List Pid) (k : ℕ) (d : Pid) → AreRising ps → k < length ps → IsIn (get_or ps k d) (take k ps) → ⊥
rising_new [] k d r h i = absurd (omega arith)
rising_new (p ∷ ps) zero d r h i = i
rising_new (p ∷ ps) (suc k) d r h (inl same) = not_before p (subst (IsBefore p) same (before_at p ps k d r.0 (omega arith)))
rising_new (p ∷ ps) (suc k) d r h (inr i) = rising_new ps k d r.1 (omega arith) i

pub entries_more : (f : Pid → Phase) (ps : List Pid) (k : ℕ) (d : Pid) → k < length ps → entries f (take (k + 1) ps) ≡ entries f (take k ps) ++ (get_or ps k d, outcome (f (get_or ps k d))) ∷ []
entries_more f [] k d h = absurd (omega arith)
entries_more f (p ∷ ps) zero d h = refl
entries_more f (p ∷ ps) (suc k) d h = let e : suc k + 1 ≡ suc (k + 1) = omega arith in ap (λ n. entries f (take n (p ∷ ps))) e ∙ ap (λ z. (p, outcome (f p)) ∷ z) (entries_more f ps k d (omega arith))

unborn_only : (f : Phase) → is_unborn f ≡ true → f ≡ unborn
unborn_only unborn h = refl
unborn_only (living s) h = absurd (false≢true h)
unborn_only (ended r s) h = absurd (false≢true h)

-- what is told of one process ----------------------------------------------------------------

pub living_only : (f : Phase) → is_unborn f ≡ false → reason_of f ≡ None → is_living f ≡ true
living_only unborn born h = absurd (false≢true (sym born))
living_only (living s) born h = refl
living_only (ended r s) born h = absurd cc

pub told_ended : (f : Phase) (came took : List Item) (o : Option Account) (a : Account) → o ≡ account_at f came took → is_unborn f ≡ false → o ≡ Some a → a.ended ≡ reason_of f
told_ended f came took o a is born some =
    let b : Account = record { ended = reason_of f; arrived = length came; taken = length took; waiting = length (state_of f).waiting } in
    let e : Some a ≡ Some b = sym some ∙ is ∙ ap (λ t. cond t None (Some b)) born in
    let k : a ≡ b = cc in
    ap (λ (a : Account). a.ended) k

pub told_some : (f : Phase) (came took : List Item) (o : Option Account) → o ≡ account_at f came took → is_unborn f ≡ false → o ≡ None → ⊥
told_some f came took o is born none =
    let b : Account = record { ended = reason_of f; arrived = length came; taken = length took; waiting = length (state_of f).waiting } in
    let e : None ≡ Some b = sym none ∙ is ∙ ap (λ t. cond t None (Some b)) born in
    absurd cc

pub read_none : (t : Bool) (v : Pid × ProcessState) → None ≡ cond t (Some v) None → t ≡ true → ⊥
read_none true v e h = absurd cc
read_none false v e h = absurd (false≢true h)

pub read_some : (t : Bool) (u v : Pid × ProcessState) → Some u ≡ cond t (Some v) None → t ≡ true → u.1 ≡ v.1
read_some true u v e h = let k : u ≡ v = cc in ap (λ (z : Pid × ProcessState). z.1) k
read_some false u v e h = absurd (false≢true h)

pub living_is : (f : Phase) → is_living f ≡ true → living (state_of f) ≡ outcome f
living_is (living s) h = refl
living_is unborn h = absurd (false≢true h)
living_is (ended r s) h = absurd (false≢true h)

-- a state by its parts
pub same_parts : (s : ProcessState) (waiting : List Item) (links : List (Pid × Ids)) (watching kept : List (Ref × Pid)) (traps : Bool) → waiting ≡ s.waiting → links ≡ s.links → watching ≡ s.watching → kept ≡ s.kept → traps ≡ s.traps
    → record { waiting = waiting; links = links; watching = watching; kept = kept; traps = traps } ≡ s
same_parts s waiting links watching kept traps a b d e f = rw (a, b, d, e, f) refl

-- the whole node -----------------------------------------------------------------------------

-- those of these pids, as the history leaves them, and nothing else
abbrev pub begun : Start → Past → List Pid → JudgeState
begun start before ps = record { links = []; refs = []; lives = entries (λ p. life start before p) ps; flights = [] }

module _ (g : GatheredState) (whole : IsGathered g) (say : JournalsSay) (there : MergeIsThere) where
  pub some_merge : (merged : List Stamped) × IsMerge (journals g) merged
  some_merge = there (begins g) g.config.start g.config.top_version (length g.shards) (journals g) (locals g whole) (past_end g whole)

  pub by_journal : (merged : List Stamped) → IsMerge (journals g) merged → (p : Pid) → life (begins g) (events (journals g p.shard)) p ≡ life (begins g) (events merged) p
  by_journal merged m p = (say (begins g) g.config.start g.config.top_version (journals g) merged p (locals g whole) m).0

  -- every merge says of a process what its desk does
  pub said_here : (merged : List Stamped) → IsMerge (journals g) merged → (p : Pid) (s : ShardState) → p.shard < length g.shards → s ≡ get_or g.shards p.shard s → life (begins g) (events merged) p ≡ phase_of s p
  said_here merged m p s h at =
      let t : ShardState = get_or g.shards p.shard s in
      sym (by_journal merged m p)
      ∙ ap (λ j. life (begins g) (events j) p) (journal_of g p.shard s h)
      ∙ sym (life_same t.start (begins g) p.shard (start_same g.config g.shards whole.shards p.shard s h) (past t) p refl)
      ∙ ap (λ (z : ShardState). phase_of z p) (sym at)

  -- who was born is of a desk of the node
  pub born_here : (merged : List Stamped) → IsMerge (journals g) merged → (p : Pid) → is_unborn (life (begins g) (events merged) p) ≡ false → p.shard < length g.shards
  born_here merged m p born =
      ⊎_elim (λ (h : p.shard < length g.shards). h)
      (λ (h : length g.shards ≤ p.shard).
      let none : life (begins g) (events merged) p ≡ unborn = sym (by_journal merged m p) ∙ ap (λ j. life (begins g) (events j) p) (past_end g whole p.shard h) ∙ nobody_beyond g.config g.shards whole.shards p h in
      absurd (false≢true (sym born ∙ ap is_unborn none)))
      (cases_lt p.shard (length g.shards))

  -- one that was born, and of whom no end is told, lives
  pub lives_on : (p : Pid) (o : Option Account) → is_unborn (life (begins g) (events some_merge.0) p) ≡ false → InEveryMerge (journals g) (λ before. o ≡ account_in (begins g) before p) → ((a : Account) → o ≡ Some a → a.ended ≡ None)
      → is_living (life (begins g) (events some_merge.0) p) ≡ true
  lives_on p None born told none =
      absurd (told_some (life (begins g) (events some_merge.0) p) (arrived (begins g) (events some_merge.0) p) (taken (events some_merge.0) p) None (told some_merge.0 some_merge.1) born refl)
  lives_on p (Some a) born told none =
      living_only (life (begins g) (events some_merge.0) p) born
      (sym (told_ended (life (begins g) (events some_merge.0) p) (arrived (begins g) (events some_merge.0) p) (taken (events some_merge.0) p) (Some a) a (told some_merge.0 some_merge.1) born refl) ∙ none a refl)

  -- each of the processes that the state lists, as a desk has it at its start
  each_left : (pids : List Pid) (merged : List Stamped) → IsMerge (journals g) merged → AreAllPids (begins g) (events merged) pids → (n : ℕ) (p : Pid)
      → at_start (entries (λ q. life (begins g) (events merged) q) pids) p ≡ at_start (start_of (map (restarted n) g.shards)) p
  each_left pids merged m listed n p =
      go (is_unborn (life (begins g) (events merged) p)) refl
      ∙ sym (begun_at g whole n (fresh_shard g.config 0) p ∙ ap outcome (by_journal merged m p))
    where
      go : (b : Bool) → is_unborn (life (begins g) (events merged) p) ≡ b → at_start (entries (λ q. life (begins g) (events merged) q) pids) p ≡ outcome (life (begins g) (events merged) p)
      go false u = ap phase_or_unborn (found_in (λ q. life (begins g) (events merged) q) p pids ((listed.1 p).1 u))
      go true u =
          ap phase_or_unborn (none_in (λ q. life (begins g) (events merged) q) p pids (λ i. both_ways (is_unborn (life (begins g) (events merged) p)) ((listed.1 p).0 i) u))
          ∙ sym (ap outcome (unborn_only (life (begins g) (events merged) p) u))

  -- and so the state is that which the desks leave behind
  pub state_left : (pids : List Pid) (s : JudgeState) → InEveryMerge (journals g) (λ before. AreAllPids (begins g) before pids) → InEveryMerge (journals g) (λ before. s ≡ begun (begins g) before pids)
      → (n : ℕ) → IsAfter (start_of (map (restarted n) g.shards)) [] s
  state_left pids s all is n =
      let m = some_merge in
      subst (IsAfter (start_of (map (restarted n) g.shards)) []) (sym (is m.0 m.1)) (record {
        links_made = λ i. refl;
        refs_made = λ r. refl;
        alike = each_left pids m.0 m.1 (all m.0 m.1) n;
        flies = refl;
      })
