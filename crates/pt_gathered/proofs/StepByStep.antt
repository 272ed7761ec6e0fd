-- Settling, step after step.
use Rattle.std.proofs.Common.{◌≡◌, ℕ, ◌+◌, ◌-◌, ◌^◌, ◌<◌, ◌≤◌, ◌==◌, ◌||◌, Bool, true, false, cond, List, [], ◌∷◌, ◌++◌, length, min, refl, sym, ap, ◌∙◌, subst, append_assoc, below_more, arith, le_refl}
use Rattle.std.specs.Prelude.{⊤, Ok, Err}
use Rattle.std.specs.Bool.{MatchBool}
use Rattle.std.proofs.lemmas.List.{map-append}
use Rattle.pt_signal.specs.declared.letter.Letter.{Letter}
use Rattle.pt_events.specs.declared.event.Event.TheVariants.{Came}
use Rattle.pt_events.specs.declared.event.Stamped.{Stamped}
use Rattle.pt_events.specs.History.{Past}
use Rattle.pt_events.specs.Journal.{events}
use Rattle.pt_laws.specs.LoadLaws.{AllCame}
use Rattle.pt_shard.specs.declared.stop.Stop.{Stop}
use Rattle.pt_gathered.specs.Gathered.{GatheredState, begins, journals}
use Rattle.pt_gathered.specs.Settling.{load_of, event_count, receipt, Receives, Follows, Settles, Runs, Moves, Steps, NothingBelow, NothingLeft}
use Rattle.pt_events.specs.Counting.{below}
use Rattle.pt_laws.specs.Load.{IsStart}
use Rattle.pt_laws.proofs.Sums.{below_shift, below_zero, below_at}
use Rattle.pt_gathered.proofs.Loads.{load_lowered}
use Rattle.pt_gathered.proofs.Losing.{all_keep_same, all_keep_then}

AllCame-append : (xs ys : Past) → AllCame xs → AllCame ys → AllCame (xs ++ ys)
AllCame-append [] ys h k = k
AllCame-append (Came a b x ∷ xs) ys h k = AllCame-append xs ys h k
AllCame-append (_ ∷ xs) ys h k = absurd h

pub follows_same : (journal : List Stamped) → Follows journal journal
follows_same journal = record { more = []; is = refl; receipts = tt }

pub follows_along : (a b c : List Stamped) → Follows a b → Follows b c → Follows a c
follows_along a b c f g = record {
  more = g.more ++ f.more;
  is = g.is ∙ ap (λ z. g.more ++ z) f.is ∙ sym (append_assoc g.more f.more a);
  receipts = subst AllCame (sym (map-append (λ (s : Stamped). s.event) g.more f.more)) (AllCame-append (events g.more) (events f.more) g.receipts f.receipts);
}

pub settles_same : (g : GatheredState) → Settles g g
settles_same g = record {
  config = refl;
  start = refl;
  count = refl;
  journals_follow = λ d h. follows_same (journals g d);
  grows = le_refl (event_count g);
  bound = le_refl (event_count g + load_of g);
  losses_kept = all_keep_same g;
}

pub settles_along : (a b c : GatheredState) → Settles a b → Settles b c → Settles a c
settles_along a b c f g = record {
  config = g.config ∙ f.config;
  start = g.start ∙ f.start;
  count = g.count ∙ f.count;
  journals_follow = λ d h. follows_along (journals a d) (journals b d) (journals c d) (f.journals_follow d h) (g.journals_follow d (omega (arith, f.count)));
  grows = let x = f.grows in let y = g.grows in omega arith;
  bound = let x = f.bound in let y = g.bound in omega arith;
  losses_kept = all_keep_then a b c f.count f.losses_kept g.losses_kept;
}

pub runs_same : (g : GatheredState) (n : ℕ) → n < 2 ^ 64 → Runs g n g n
runs_same g n h = record { settles = settles_same g; counts = omega arith }

pub runs_along : (a : GatheredState) (l : ℕ) (b : GatheredState) (m : ℕ) (c : GatheredState) (n : ℕ) → Runs a l b m → Runs b m c n → Runs a l c n
runs_along a l b m c n f g = record {
  settles = settles_along a b c f.settles g.settles;
  counts = let x = f.counts in let y = g.counts in let p = f.settles.grows in let q = g.settles.grows in omega arith;
}

-- one receipt
module _ (old new : GatheredState) (d e : ℕ) (l : Letter) (r : Receives d e l old new) (d_in : d < length old.shards) (e_in : e < length old.shards) where
  one_more : event_count new ≡ event_count old + 1
  one_more =
      let s = below_shift (λ k. length (journals old k)) (λ k. length (journals new k)) (λ k. 0) (λ k. cond (k == e) 1 0) (length old.shards) step in
      let z = below_zero (length old.shards) in
      let o = below_at e 1 (length old.shards) e_in in
      let c : event_count new ≡ below (λ k. length (journals new k)) (length old.shards) = ap (below (λ k. length (journals new k))) r.count in
      omega arith
    where
      step : (k : ℕ) → k < length old.shards → length (journals new k) + 0 ≡ length (journals old k) + cond (k == e) 1 0
      step k h = go (k == e) refl (r.journal k h)
        where
          go : (b : Bool) → (k == e) ≡ b → journals new k ≡ cond (k == e) (receipt old.config.start e l (journals old e) ∷ journals old k) (journals old k)
              → length (journals new k) + 0 ≡ length (journals old k) + cond (k == e) 1 0
          go true q j =
              let j1 : journals new k ≡ receipt old.config.start e l (journals old e) ∷ journals old k = rw q at j in
              let j2 = ap length j1 in rw q (omega arith)
          go false q j = let j1 : journals new k ≡ journals old k = rw q at j in let j2 = ap length j1 in rw q (omega arith)

  follows_one : (k : ℕ) → k < length old.shards → Follows (journals old k) (journals new k)
  follows_one k h = go (k == e) refl (r.journal k h)
    where
      go : (b : Bool) → (k == e) ≡ b → journals new k ≡ cond (k == e) (receipt old.config.start e l (journals old e) ∷ journals old k) (journals old k) → Follows (journals old k) (journals new k)
      go true q j =
          let j1 : journals new k ≡ receipt old.config.start e l (journals old e) ∷ journals old k = rw q at j in
          record { more = receipt old.config.start e l (journals old e) ∷ []; is = j1; receipts = tt }
      go false q j = let j1 : journals new k ≡ journals old k = rw q at j in record { more = []; is = j1; receipts = tt }

  pub step_settles : IsStart (begins old) → Settles old new
  step_settles once = record {
    config = r.config;
    start = r.start;
    count = r.count;
    journals_follow = follows_one;
    grows = let o = one_more in omega arith;
    bound = let o = one_more in let f = load_lowered old new d e l r d_in e_in once in omega arith;
    losses_kept = r.losses_kept;
  }

  pub step_moves : event_count old < event_count new
  step_moves = let o = one_more in omega arith

  pub step_runs : IsStart (begins old) → (n : ℕ) → Runs old n new (min (n + 1) (2 ^ 64 - 1))
  step_runs once n = record { settles = step_settles once; counts = let o = one_more in omega arith }

-- lane after lane, and pass after pass
module _ (a g g' : GatheredState) (P : ℕ → GatheredState → Type 0) (d : ℕ) where
  pub after_either : (before some : Bool) → MatchBool before (event_count a < event_count g) ((g ≡ a) × ((k : ℕ) → k < d → P k a)) → event_count a ≤ event_count g → Moves (P d g) g (Ok some) g'
      → MatchBool (before || some) (event_count a < event_count g') ((g' ≡ a) × ((k : ℕ) → k < d + 1 → P k a))
  after_either true true h grows more = omega arith
  after_either false true h grows more = omega arith
  after_either true false h grows none = subst (λ x. event_count a < event_count x) (sym none.1) h
  after_either false false h grows none = (none.1 ∙ h.0, below_more (λ i. P i a) d h.1 (subst (P d) h.0 none.0))

pub done_after : (g g' : GatheredState) (moved : Bool) → Moves (NothingBelow (length g.shards) g) g (Ok moved) g' → MatchBool moved ⊤ (NothingLeft g')
done_after g g' true h = tt
done_after g g' false h = subst NothingLeft (sym h.1) (λ d e hd he. h.0 e he d hd)

pub same_after : (d e : ℕ) (old new : GatheredState) (stop : Stop) → Steps d e old (Err stop) new → new ≡ old
same_after d e old new stop s = s.3
