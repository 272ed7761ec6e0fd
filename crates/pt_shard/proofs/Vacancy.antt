-- The pid that the next birth has, by the slots and by the journal.
use Rattle.std.proofs.Common.{◌≡◌, ◌⊎◌, ℕ, ◌+◌, ◌<◌, ◌≤◌, Bool, true, false, cond, Option, Some, None, IsSome, is_some, refl, sym, ap, ◌∙◌, subst, inl, inr, arith}
use Rattle.std.specs.Prelude.{IfSome}
use Rattle.std.specs.Option.{option_map}
use Rattle.std.proofs.lemmas.Bool.{eq-eqb}
use Rattle.std.proofs.lemmas.Bool.Decides.{nat_tests}
use Rattle.pt_signal.specs.declared.pid.Pid.{Pid}
use Rattle.pt_signal.specs.Process.{ProcessState}
use Rattle.pt_events.specs.History.{Phase, unborn, living, ended, is_living}
use Rattle.pt_slots.specs.declared.Key.{Key}
use Rattle.pt_slots.specs.State.{at, issued, next_key}
use Rattle.pt_slots.specs.Offers.{IsTakenOrRetired, OffersTheFree}
use Rattle.pt_process.specs.ProcessView.{ProcessView}
use Rattle.pt_shard.specs.ShardState.{ShardState, phase_of, lives}
use Rattle.pt_shard.specs.Fit.{IsNextBirth, latest_version, latest_pid}
use Rattle.pt_shard.specs.Sound.{of_phase}
use Rattle.pt_shard.specs.Processes.{Table, process_at, in_place, is_place_of, changed, pid_of_key, vacant_at, Changes, IsSameTable}
use Rattle.pt_shard.specs.Reading.{read_of}

-- what is offered where the slots read alike ---------------------------------------------------

still_seen : (o : Option ProcessView) (v : Option (Pid × ProcessState)) → read_of o ≡ v → IsSome v → IsSome o
still_seen None v is some = absurd (let none = subst IsSome (sym is) some in cc)
still_seen (Some r) v is some = refl

unseen : (o : Option ProcessView) → read_of o ≡ None → o ≡ None
unseen None is = refl
unseen (Some r) is = absurd (cc)

seen_some : (o : Option ProcessView) → IsSome o → IsSome (read_of o)
seen_some None some = absurd (cc)
seen_some (Some r) some = refl

-- a value stands in just the places where one stood
module _ (old new : Table) (offers : OffersTheFree old) (next : next_key new ≡ next_key old)
    (issues : (slot : ℕ) → issued new slot ≡ issued old slot) (capacity : new.capacity ≡ old.capacity) (top_version : new.top_version ≡ old.top_version)
    (kept : (slot version : ℕ) → IsSome (at old slot version) → IsSome (at new slot version))
    (no_more : (slot version : ℕ) → at old slot version ≡ None → at new slot version ≡ None)
  where
    still_taken : (slot : ℕ) → IsTakenOrRetired old slot → IsTakenOrRetired new slot
    still_taken slot (inl some) = inl (rw (issues slot) (kept slot (issued old slot) some))
    still_taken slot (inr top) = inr (issues slot ∙ top ∙ sym top_version)

    offered : (P Q : Key → Type 0) → ((key : Key) → P key → Q key) → (o o' : Option Key) → o' ≡ o → IfSome o P → IfSome o' Q
    offered P Q k None None is h = tt
    offered P Q k None (Some key) is h = absurd (cc)
    offered P Q k (Some key) None is h = tt
    offered P Q k (Some key) (Some other) is h = let same : key ≡ other = cc in subst Q same (k key h)

    pub offers_kept : OffersTheFree new
    offers_kept = record {
      none = λ none slot below. still_taken slot (offers.none (sym next ∙ none) slot (omega (arith, below, capacity)));
      below = offered _ _ (λ key h. omega (arith, h, capacity)) (next_key old) (next_key new) next offers.below;
      free = offered _ _ (λ key h version. no_more key.slot version (h version)) (next_key old) (next_key new) next offers.free;
      version = offered _ _ (λ key h. (h.0 ∙ ap (λ (n : ℕ). n + 1) (sym (issues key.slot)), omega (arith, h.1, top_version))) (next_key old) (next_key new) next offers.version;
    }

pub offers_same : (old new : Table) → OffersTheFree old → IsSameTable old new → OffersTheFree new
offers_same old new offers same =
    offers_kept old new offers same.next same.settings.issues same.settings.capacity same.settings.top_version
    (λ slot version some. still_seen _ _ (same.live slot version) (seen_some _ some))
    (λ slot version none. unseen _ (same.live slot version ∙ ap read_of none))

pub same_place : (p : Pid) (slot version : ℕ) → is_place_of p slot version ≡ true → (p.slot ≡ slot) × (p.version ≡ version)
same_place p slot version h = (grind (arith, nat_tests), grind (arith, nat_tests))

changed_some : (f : Pid → ProcessState → ProcessState) (o : Option (Pid × ProcessState)) → IsSome o → IsSome (changed f o)
changed_some f None some = absurd (cc)
changed_some f (Some r) some = refl

pub offers_changed : (p : Pid) (f : Pid → ProcessState → ProcessState) (old new : Table) → OffersTheFree old → Changes p f old new → OffersTheFree new
offers_changed p f old new offers changes =
    offers_kept old new offers changes.next changes.puts.settings.issues changes.puts.settings.capacity changes.puts.settings.top_version
    (λ slot version some. still_seen _ _ (changes.puts.live slot version) (kept slot version (is_place_of p slot version) refl (seen_some _ some)))
    (λ slot version none. unseen _ (changes.puts.live slot version ∙ gone slot version (is_place_of p slot version) refl (ap read_of none)))
  where
    kept : (slot version : ℕ) (b : Bool) → is_place_of p slot version ≡ b → IsSome (read_of (at old slot version)) → IsSome (cond (is_place_of p slot version) (changed f (in_place old p)) (read_of (at old slot version)))
    kept slot version true h some =
        let e = same_place p slot version h in
        rw h (changed_some f (in_place old p) (rw (e.0, e.1) some))
    kept slot version false h some = rw h some

    gone : (slot version : ℕ) (b : Bool) → is_place_of p slot version ≡ b → read_of (at old slot version) ≡ None → cond (is_place_of p slot version) (changed f (in_place old p)) (read_of (at old slot version)) ≡ None
    gone slot version true h none =
        let e = same_place p slot version h in
        rw (h, e.0, e.1, none) refl
    gone slot version false h none = rw h none

-- the same by the journal ------------------------------------------------------------------------

seen_is : (o : Option ProcessView) → is_some (read_of o) ≡ is_some o
seen_is None = refl
seen_is (Some r) = refl

living_is : (p : Pid) (f : Phase) → is_some (of_phase p f) ≡ is_living f
living_is p unborn = refl
living_is p (living s) = refl
living_is p (ended r s) = refl

module _ (d : ShardState) (table : Table) (processes : (p : Pid) → process_at d.number table p ≡ of_phase p (phase_of d p))
    (issues : (slot : ℕ) → issued table slot ≡ latest_version d slot) (capacity : table.capacity ≡ d.config.slots) (top_version : table.top_version ≡ d.config.top_version)
    (offers : OffersTheFree table)
  where
    lives_is : (slot : ℕ) → lives d (latest_pid d slot) ≡ is_some (at table slot (latest_version d slot))
    lives_is slot =
        let p : Pid = latest_pid d slot in
        let here : process_at d.number table p ≡ read_of (at table slot (latest_version d slot)) = rw (eq-eqb d.number d.number refl) refl in
        sym (living_is p (phase_of d p)) ∙ ap is_some (sym (processes p) ∙ here) ∙ seen_is (at table slot (latest_version d slot))

    taken_is : (slot : ℕ) → IsTakenOrRetired table slot → (lives d (latest_pid d slot) ≡ true) ⊎ (latest_version d slot ≡ d.config.top_version)
    taken_is slot (inl some) = inl (lives_is slot ∙ rw (issues slot) at some)
    taken_is slot (inr top) = inr (sym (issues slot) ∙ top ∙ top_version)

    by_key : (o : Option Key) → next_key table ≡ o → IsNextBirth d (option_map (pid_of_key d.number) o)
    unfolding IsNextBirth
    by_key None is = λ slot below. taken_is slot (offers.none is slot (omega (arith, below, capacity)))
    by_key (Some key) is =
        let below = subst (λ o. IfSome o (λ k. k.slot < table.capacity)) is offers.below in
        let free = subst (λ o. IfSome o (λ k. (version : ℕ) → at table k.slot version ≡ None)) is offers.free in
        let version = subst (λ o. IfSome o (λ k. (k.version ≡ issued table k.slot + 1) × (k.version ≤ table.top_version))) is offers.version in (
          refl,
          omega (arith, below, capacity),
          lives_is key.slot ∙ ap is_some (free (latest_version d key.slot)),
          version.0 ∙ ap (λ (n : ℕ). n + 1) (issues key.slot),
          omega (arith, version.1, top_version),
        )

    pub next_birth : IsNextBirth d (vacant_at d.number table)
    next_birth = by_key (next_key table) refl
