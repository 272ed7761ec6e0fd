-- What a post does to the lanes out of a desk.
use Rattle.std.proofs.Common.{◌≡◌, ℕ, ◌+◌, ◌<◌, ◌≤◌, inl, inr, below_more, [], ◌++◌, length, take, drop, get_or, set, refl, sym, ap, ◌∙◌, arith}
use Rattle.std.proofs.lemmas.Bool.{cases_lt}
use Rattle.std.proofs.lemmas.List.{drop_all, get_or-set_same, get_or-set_other, length-take-le}
use Rattle.pt_carrier.specs.Ends.{OutEnds, InEnds, more_of, LooksAt, IsFull}
use Rattle.pt_shard.specs.ShardState.{ShardState}
use Rattle.pt_shard.specs.Outbox.{sent_on_some}
use Rattle.pt_shard.specs.Fit.{IsFit}
use Rattle.pt_desk.specs.Sight.{Sight}
use Rattle.pt_desk.specs.DeskState.{DeskState, IsAccounted, posted_to, waits_for}
use Rattle.pt_desk.specs.Posting.{total, PostsTo, OnlyPosts, SameLane, PostsSome}
use Rattle.pt_desk.proofs.Letters.{total_more}

-- the desk of these parts
abbrev pub of_parts : ShardState → OutEnds → InEnds → Sight → DeskState
of_parts s o i v = record { shard = s; outs = o; ins = i; sight = v }

-- a lane that was looked at, and what this end knows since
pub looked_then : (old mid new : OutEnds) (e : ℕ) → LooksAt old mid e → new.seen ≡ mid.seen → LooksAt old new e
looked_then old mid new e looks same = record {
  more = omega (arith, looks.more, ap (λ z. get_or z e 0) same);
  others = same ∙ looks.others ∙ ap (set old.seen e) (ap (λ z. get_or z e 0) (sym same));
}

-- so many of the oldest letters for desk e were posted, and all of them or as many as the lane has places for
pub posts_some : (s s' : ShardState) (o o' : OutEnds) (i : InEnds) (v : Sight) (e count : ℕ) → e < s.config.desks → IsFit s → IsAccounted s o i
    → count ≤ length (get_or s.outbox e []) → (count < length (get_or s.outbox e []) → IsFull o' e) → s' ≡ sent_on_some e count s
    → o'.posted ≡ more_of o.posted e (take count (get_or s.outbox e [])) → o'.place ≡ o.place → o'.capacity ≡ o.capacity → LooksAt o o' e
    → PostsTo e (of_parts s o i v) (of_parts s' o' i v) × PostsSome e count (of_parts s o i v) (of_parts s' o' i v)
posts_some s s' o o' i v e count e_in fit acc within full after more place capacity looks = (
  record {
    count = count;
    posted = ap (λ z. get_or z e []) more ∙ get_or-set_same o.posted e (get_or o.posted e [] ++ take count (get_or s.outbox e [])) [] (omega (arith, e_in, acc.posted_desks));
    left = left;
    full = elim (cases_lt count (length (get_or s.outbox e []))) [ inl short ↦ inr (full short) | inr all ↦ inl (left ∙ drop_all count (get_or s.outbox e []) all) ];
    seen = looks.more;
  },
  record {
    others = λ k n. record {
      posted = ap (λ z. get_or z k []) more ∙ get_or-set_other o.posted e k (get_or o.posted e [] ++ take count (get_or s.outbox e [])) [] n;
      waits = ap (λ (z : ShardState). get_or z.outbox k []) after ∙ get_or-set_other s.outbox e k (drop count (get_or s.outbox e [])) [] n;
      seen = ap (λ z. get_or z k 0) looks.others ∙ get_or-set_other o.seen e k (get_or o'.seen e 0) 0 n;
    };
    only = record {
      shard = after ∙ ap (λ b. record s { outbox = b }) (sym (ap (λ (z : ShardState). z.outbox) after));
      place = place;
      capacity = capacity;
      ins = refl;
      sight = refl;
    };
    seen = looks.more;
    counted = ap total more ∙ total_more o.posted e (take count (get_or s.outbox e [])) (omega (arith, e_in, acc.posted_desks)) ∙ ap (λ n. total o.posted + n) (length-take-le count (get_or s.outbox e []) within);
  },
)
  where
    left : get_or s'.outbox e [] ≡ drop count (get_or s.outbox e [])
    left = ap (λ (z : ShardState). get_or z.outbox e []) after ∙ get_or-set_same s.outbox e (drop count (get_or s.outbox e [])) [] (omega (arith, e_in, fit.boxes))

pub only_then : (old mid new : DeskState) → OnlyPosts old mid → OnlyPosts mid new → OnlyPosts old new
only_then old mid new a b = record {
  shard = b.shard ∙ ap (λ (s : ShardState). record s { outbox = new.shard.outbox }) a.shard;
  place = b.place ∙ a.place;
  capacity = b.capacity ∙ a.capacity;
  ins = b.ins ∙ a.ins;
  sight = b.sight ∙ a.sight;
}

-- one desk after the other
pub lane_then : (old mid new : DeskState) (e : ℕ) → SameLane e old mid → SameLane e mid new → SameLane e old new
lane_then old mid new e a b = record { posted = b.posted ∙ a.posted; waits = b.waits ∙ a.waits; seen = b.seen ∙ a.seen }

pub to_then : (old mid new : DeskState) (e : ℕ) → PostsTo e old mid → OnlyPosts mid new → SameLane e mid new → PostsTo e old new
to_then old mid new e a only b = record {
  count = a.count;
  posted = b.posted ∙ a.posted;
  left = b.waits ∙ a.left;
  full = elim a.full [
    | inl none ↦ inl (b.waits ∙ none)
    | inr full ↦ inr (ap length b.posted ∙ full ∙ ap (λ c. get_or c e 0 + get_or mid.outs.seen e 0) (sym only.capacity) ∙ ap (λ n. get_or new.outs.capacity e 0 + n) (sym b.seen))
  ];
  seen = omega (arith, a.seen, b.seen);
}

pub then_to : (old mid new : DeskState) (e : ℕ) → SameLane e old mid → PostsTo e mid new → PostsTo e old new
then_to old mid new e a b = record {
  count = b.count;
  posted = b.posted ∙ ap (λ z. z ++ take b.count (waits_for mid e)) a.posted ∙ ap (λ z. posted_to old e ++ take b.count z) a.waits;
  left = b.left ∙ ap (drop b.count) a.waits;
  full = b.full;
  seen = omega (arith, a.seen, b.seen);
}

-- the desks below `to` had their turn, and the others not yet
pub record PostsBelow (to : ℕ) (old new : DeskState) : Type 0 where
  pub each : (e : ℕ) → e < to → PostsTo e old new
  pub rest : (e : ℕ) → to ≤ e → SameLane e old new
  pub only : OnlyPosts old new
  pub grows : total old.outs.posted ≤ total new.outs.posted

pub below_next : (old mid new : DeskState) (to n : ℕ) → PostsBelow to old mid → PostsTo to mid new → PostsSome to n mid new → PostsBelow (to + 1) old new
below_next old mid new to n below posts some = record {
  each = below_more (λ e. PostsTo e old new) to
      (λ e h. to_then old mid new e (below.each e h) some.only (some.others e (λ r. omega arith)))
      (then_to old mid new to (below.rest to (omega arith)) posts);
  rest = λ e h. lane_then old mid new e (below.rest e (omega arith)) (some.others e (λ r. omega arith));
  only = only_then old mid new below.only some.only;
  grows = omega (arith, below.grows, some.counted);
}
