-- What a receipt and a settling keep of what the desks lost.
use Rattle.std.proofs.Common.{◌≡◌, ℕ, ◌<◌, ◌==◌, Bool, true, false, cond, List, [], ◌++◌, length, map, get_or, set, Option, Some, None, refl, sym, ap, ◌∙◌, subst, append_assoc, append-nil, arith}
use Rattle.std.specs.Option.{option_to_list}
use Rattle.std.proofs.lemmas.Bool.{eqb-true, eq-eqb, both_ways}
use Rattle.std.proofs.lemmas.List.{get_or-map, get_or_default, get_or-set_same, get_or-set_other, length-set}
use Rattle.pt_signal.specs.declared.letter.Letter.{Letter}
use Rattle.pt_shard.specs.declared.loss.Loss.{Loss}
use Rattle.pt_shard.specs.Losses.{losses, with_loss}
use Rattle.pt_shard.specs.ShardState.{ShardState, came_event, handled, lost_by, past}
use Rattle.pt_gathered.specs.Gathered.{GatheredState}
use Rattle.pt_gathered.specs.Settling.{AllKeepLost, KeepsLost}
use Rattle.pt_gathered.specs.Taking.{without_letters}

-- one desk ---------------------------------------------------------------------------------------

nothing_more : (b : Bool) (kept : List Loss) → kept ≡ cond b (kept ++ []) kept
nothing_more true kept = sym (append-nil kept)
nothing_more false kept = refl

one_more : (b : Bool) (o : Option Loss) (kept : List Loss) → with_loss b o kept ≡ cond b (kept ++ option_to_list o) kept
one_more b None kept = nothing_more b kept
one_more true (Some x) kept = refl
one_more false (Some x) kept = refl

keeps_same : (s : ShardState) → KeepsLost s s
keeps_same s = record {
  keeps = refl;
  later = [];
  later_are = sym (append-nil (losses s.start (past s)));
  lost = nothing_more s.keeps s.lost;
}

keeps_handled : (l : Letter) (s : ShardState) → KeepsLost s (handled l s)
keeps_handled l s = record {
  keeps = refl;
  later = option_to_list (lost_by s (came_event l));
  later_are = refl;
  lost = one_more s.keeps (lost_by s (came_event l)) s.lost;
}

keeps_then : (a b c : ShardState) → KeepsLost a b → KeepsLost b c → KeepsLost a c
keeps_then a b c f g = record {
  keeps = g.keeps ∙ f.keeps;
  later = f.later ++ g.later;
  later_are = g.later_are ∙ ap (λ z. z ++ g.later) f.later_are ∙ append_assoc (losses a.start (past a)) f.later g.later;
  lost = g.lost ∙ go a.keeps f.keeps f.lost;
}
  where
    go : (k : Bool) → b.keeps ≡ k → b.lost ≡ cond k (a.lost ++ f.later) a.lost
        → cond b.keeps (b.lost ++ g.later) b.lost ≡ cond k (a.lost ++ (f.later ++ g.later)) a.lost
    go true q h = rw (q, h) (append_assoc a.lost f.later g.later)
    go false q h = rw (q, h) refl

-- letters are no losses
keeps_bare : (a b c : ShardState) → without_letters b ≡ without_letters c → KeepsLost a b → KeepsLost a c
keeps_bare a b c same h =
    let bare : KeepsLost a (without_letters c) = subst (KeepsLost a) same (record { keeps = h.keeps; later = h.later; later_are = h.later_are; lost = h.lost }) in
    record { keeps = bare.keeps; later = bare.later; later_are = bare.later_are; lost = bare.lost }

-- all desks --------------------------------------------------------------------------------------

pub all_keep_same : (g : GatheredState) → AllKeepLost g g
all_keep_same g d x h = keeps_same (get_or g.shards d x)

pub all_keep_then : (a b c : GatheredState) → length b.shards ≡ length a.shards → AllKeepLost a b → AllKeepLost b c → AllKeepLost a c
all_keep_then a b c count f g d x h =
    keeps_then (get_or a.shards d x) (get_or b.shards d x) (get_or c.shards d x) (f d x h) (g d x (omega (arith, h, count)))

-- desk e handles a letter, and then letters are taken out
module _ (shards taken : List ShardState) (e : ℕ) (s s' : ShardState) (l : Letter) (e_in : e < length shards) (is : s ≡ get_or shards e s) (after : s' ≡ handled l s) where
  one_handles : (k : ℕ) (x : ShardState) → KeepsLost (get_or shards k x) (get_or (set shards e s') k x)
  one_handles k x = go (k == e) refl
    where
      go : (b : Bool) → (k == e) ≡ b → KeepsLost (get_or shards k x) (get_or (set shards e s') k x)
      go true q =
          let old : get_or shards k x ≡ s = ap (λ i. get_or shards i x) (eqb-true k e q) ∙ get_or_default shards e x s e_in ∙ sym is in
          let new : get_or (set shards e s') k x ≡ handled l s = ap (λ i. get_or (set shards e s') i x) (eqb-true k e q) ∙ get_or-set_same shards e s' x e_in ∙ after in
          subst (λ (z : ShardState). KeepsLost z (get_or (set shards e s') k x)) (sym old) (subst (KeepsLost s) (sym new) (keeps_handled l s))
      go false q =
          let new : get_or (set shards e s') k x ≡ get_or shards k x = get_or-set_other shards e k s' x (λ r. both_ways (k == e) q (eq-eqb k e r)) in
          subst (KeepsLost (get_or shards k x)) (sym new) (keeps_same (get_or shards k x))

  pub receipt_keeps : map without_letters taken ≡ map without_letters (set shards e s') → length taken ≡ length shards
      → (k : ℕ) (x : ShardState) → k < length shards → KeepsLost (get_or shards k x) (get_or taken k x)
  receipt_keeps bare count k x h = keeps_bare (get_or shards k x) (get_or (set shards e s') k x) (get_or taken k x) same (one_handles k x)
    where
      same : without_letters (get_or (set shards e s') k x) ≡ without_letters (get_or taken k x)
      same =
          sym (get_or-map without_letters (set shards e s') k x (without_letters x) (omega (arith, h, length-set shards e s')))
          ∙ ap (λ z. get_or z k (without_letters x)) (sym bare) ∙ get_or-map without_letters taken k x (without_letters x) (omega (arith, h, count))
