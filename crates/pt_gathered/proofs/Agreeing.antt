-- The accounts of the lanes over one receipt.
use Rattle.std.proofs.Common.{◌≡◌, ℕ, ◌<◌, ◌≤◌, ◌==◌, ◌&&◌, Bool, true, false, cond, List, [], ◌∷◌, ◌++◌, length, map, filter, drop, refl, sym, ap, ◌∙◌, subst, append-nil, get_or, arith}
use Rattle.std.specs.Prelude.{⊤}
use Rattle.std.proofs.lemmas.Bool.{eqb-true, eq-eqb, ne_eqb, both_ways}
use Rattle.std.proofs.lemmas.List.{get_or-map}
use Rattle.std.proofs.lemmas.List.Elements.{filter-append}
use Rattle.pt_signal.specs.declared.letter.Letter.{Letter}
use Rattle.pt_signal.specs.Process.{Sent, sent}
use Rattle.pt_events.specs.declared.event.Stamped.{Stamped}
use Rattle.pt_events.specs.History.{Start, sent_by}
use Rattle.pt_events.specs.Journal.{events, letter, letters, posts, gots, Agrees, IsLocal}
use Rattle.pt_events.proofs.Homes.{AllFrom, from_home}
use Rattle.pt_events.proofs.Agreeing.{Agrees-posted, Agrees-got}
use Rattle.pt_signal.specs.declared.config.Config.{Config}
use Rattle.pt_shard.specs.ShardState.{ShardState, came_event}
use Rattle.pt_gathered.specs.Gathered.{GatheredState, IsGathered, IsShardOf, begins, journals, over_in}
use Rattle.pt_gathered.proofs.Starts.{start_same}
use Rattle.pt_gathered.proofs.Owned.{local_same}
use Rattle.pt_gathered.specs.Settling.{receipt, replies_to, Receives}

-- letters of a lane -------------------------------------------------------------------

-- all letters are from desk d
abbrev pub AllOf : ℕ → List Letter → Type 0
AllOf d [] = ⊤
AllOf d (l ∷ ls) = (l.from.shard ≡ d) × AllOf d ls

AllOf-append : (d : ℕ) (xs ys : List Letter) → AllOf d xs → AllOf d ys → AllOf d (xs ++ ys)
AllOf-append d [] ys h k = k
AllOf-append d (x ∷ xs) ys h k = (h.0, AllOf-append d xs ys h.1 k)

AllOf-sent : (d n : ℕ) (ls : List Sent) → AllFrom d ls → AllOf d (map (letter n) ls)
AllOf-sent d n [] h = tt
AllOf-sent d n (l ∷ ls) h = (h.0, AllOf-sent d n ls h.1)

pub AllOf-letters : (start : Start) (low top d : ℕ) (journal : List Stamped) → IsLocal start low top d journal → AllOf d (letters start journal)
AllOf-letters start low top d [] h = tt
AllOf-letters start low top d (s ∷ journal) h =
    AllOf-append d (letters start journal) _ (AllOf-letters start low top d journal h.1)
    (AllOf-sent d s.stamp (sent_by start (events journal) s.event) (from_home start (events journal) d s.event h.0.home))

-- all letters are from desk d to desk e
abbrev pub AllBetween : ℕ → ℕ → List Letter → Type 0
AllBetween d e [] = ⊤
AllBetween d e (l ∷ ls) = ((l.from.shard ≡ d) × (l.to.shard ≡ e)) × AllBetween d e ls

pub between_filter : (d e : ℕ) (ls : List Letter) → AllOf d ls → AllBetween d e (filter (λ l. l.to.shard == e) ls)
between_filter d e [] h = tt
between_filter d e (l ∷ ls) h = go (l.to.shard == e) refl (between_filter d e ls h.1)
  where
    go : (b : Bool) → (l.to.shard == e) ≡ b → AllBetween d e (filter (λ l. l.to.shard == e) ls) → AllBetween d e (cond (l.to.shard == e) (l ∷ filter (λ l. l.to.shard == e) ls) (filter (λ l. l.to.shard == e) ls))
    go true q ih = rw q ((h.0, eqb-true l.to.shard e q), ih)
    go false q ih = rw q ih

between_over : (d e : ℕ) (posted gots over : List Letter) → AllBetween d e posted → Agrees posted gots over → AllBetween d e over
between_over d e posted [] over h a = subst (AllBetween d e) a h
between_over d e [] (g ∷ gots) over h a = absurd a
between_over d e (p ∷ posted) (g ∷ gots) over h a = between_over d e posted gots over h.1 a.1

-- one receipt ---------------------------------------------------------------------------

-- what holds of an element holds of its place in a list made of them
pub at_map : {X Y : Type 0} (f : X → Y) (P : Y → Type 0) (xs : List X) (k : ℕ) (d : Y) → k < length xs → ((x : X) → P (f (get_or xs k x))) → P (get_or (map f xs) k d)
at_map f P [] k d h p = absurd (omega arith)
at_map f P (x ∷ xs) k d h p = subst P (sym (get_or-map f (x ∷ xs) k x d h)) (p x)

pub local_as : (config : Config) (k : ℕ) (s : ShardState) → IsShardOf config k s → IsLocal s.start config.start config.top_version k s.journal
local_as config k s w =
    subst (λ c. IsLocal s.start c.start c.top_version k s.journal) w.config_is
    (subst (λ n. IsLocal s.start s.config.start s.config.top_version n s.journal) w.number w.fit.local)

module _ (g : GatheredState) (whole : IsGathered g) (d e : ℕ) (d_in : d < length g.shards) (e_in : e < length g.shards) where
  pub local_at : (k : ℕ) → k < length g.shards → IsLocal (begins g) g.config.start g.config.top_version k (journals g k)
  local_at k h =
      at_map (λ (s : ShardState). s.journal) (IsLocal (begins g) g.config.start g.config.top_version k) g.shards k [] h (λ x.
      let s : ShardState = get_or g.shards k x in
      local_same s.start (begins g) k (start_same g.config g.shards whole.shards k x h) g.config.start g.config.top_version s.journal (local_as g.config k s (whole.shards k x h)))

  pub between_ends : AllBetween d e (over_in g.shards g.lanes d e)
  between_ends =
      between_over d e (posts (begins g) (journals g d) e) (gots (journals g e) d) (over_in g.shards g.lanes d e)
      (between_filter d e (letters (begins g) (journals g d)) (AllOf-letters (begins g) g.config.start g.config.top_version d (journals g d) (local_at d d_in)))
      (whole.agree d e d_in e_in)

module _ (old new : GatheredState) (whole : IsGathered old) (d e : ℕ) (l : Letter) (r : Receives d e l old new) (d_in : d < length old.shards) (e_in : e < length old.shards) where
  ends : (l.from.shard ≡ d) × (l.to.shard ≡ e)
  ends = (r.from, r.to)

  posts_step : (i k : ℕ) → i < length old.shards → posts (begins old) (journals new i) k ≡ posts (begins old) (journals old i) k ++ cond (i == e) (replies_to (begins old) old.config.start e l (journals old e) k) []
  posts_step i k h = go (i == e) refl (r.journal i h)
    where
      go : (b : Bool) → (i == e) ≡ b → journals new i ≡ cond (i == e) (receipt old.config.start e l (journals old e) ∷ journals old i) (journals old i)
          → posts (begins old) (journals new i) k ≡ posts (begins old) (journals old i) k ++ cond (i == e) (replies_to (begins old) old.config.start e l (journals old e) k) []
      go true q j =
          let is : i ≡ e = eqb-true i e q in
          let j1 : journals new i ≡ receipt old.config.start e l (journals old e) ∷ journals old i = rw q at j in
          rw q (ap (λ z. posts (begins old) z k) j1
          ∙ filter-append (λ x. x.to.shard == k) (letters (begins old) (journals old i)) (map (letter (receipt old.config.start e l (journals old e)).stamp) (sent_by (begins old) (events (journals old i)) (came_event l)))
          ∙ ap (λ z. posts (begins old) (journals old i) k ++ filter (λ x. x.to.shard == k) (map (letter (receipt old.config.start e l (journals old e)).stamp) (sent_by (begins old) (events (journals old z)) (came_event l)))) is)
      go false q j =
          let j1 : journals new i ≡ journals old i = rw q at j in
          rw q (ap (λ z. posts (begins old) z k) j1 ∙ sym (append-nil (posts (begins old) (journals old i) k)))

  gots_step : (i k : ℕ) → k < length old.shards → gots (journals new k) i ≡ gots (journals old k) i ++ cond ((i == d) && (k == e)) (letter (receipt old.config.start e l (journals old e)).stamp (sent l.from l.to l.signal) ∷ []) []
  gots_step i k h = go (k == e) refl (i == d) refl (r.journal k h)
    where
      go : (b : Bool) → (k == e) ≡ b → (c : Bool) → (i == d) ≡ c → journals new k ≡ cond (k == e) (receipt old.config.start e l (journals old e) ∷ journals old k) (journals old k)
          → gots (journals new k) i ≡ gots (journals old k) i ++ cond ((i == d) && (k == e)) (letter (receipt old.config.start e l (journals old e)).stamp (sent l.from l.to l.signal) ∷ []) []
      go true q true c j =
          let j1 : journals new k ≡ receipt old.config.start e l (journals old e) ∷ journals old k = rw q at j in
          let here : (l.from.shard == i) ≡ true = eq-eqb l.from.shard i (ends.0 ∙ sym (eqb-true i d c)) in
          rw (q, c) (ap (λ z. gots z i) j1 ∙ rw here refl)
      go true q false c j =
          let j1 : journals new k ≡ receipt old.config.start e l (journals old e) ∷ journals old k = rw q at j in
          let there : (l.from.shard == i) ≡ false = away i c in
          rw (q, c) (ap (λ z. gots z i) j1 ∙ rw there refl)
        where
          away : (i : ℕ) → (i == d) ≡ false → (l.from.shard == i) ≡ false
          away i c = ne_eqb l.from.shard i (λ q. both_ways (i == d) c (eq-eqb i d (sym q ∙ ends.0)))
      go false q true c j = let j1 : journals new k ≡ journals old k = rw q at j in rw (q, c) (ap (λ z. gots z i) j1 ∙ sym (append-nil (gots (journals old k) i)))
      go false q false c j = let j1 : journals new k ≡ journals old k = rw q at j in rw (q, c) (ap (λ z. gots z i) j1 ∙ sym (append-nil (gots (journals old k) i)))

  pub agree_step : (i k : ℕ) → i < length old.shards → k < length old.shards → Agrees (posts (begins new) (journals new i) k) (gots (journals new k) i) (over_in new.shards new.lanes i k)
  agree_step i k hi hk =
      subst (λ b. Agrees (posts b (journals new i) k) (gots (journals new k) i) (over_in new.shards new.lanes i k)) (sym r.start)
      (subst (λ z. Agrees z (gots (journals new k) i) (over_in new.shards new.lanes i k)) (sym (posts_step i k hi))
      (subst (λ z. Agrees (posts (begins old) (journals old i) k ++ more) z (over_in new.shards new.lanes i k)) (sym (gots_step i k hk))
      (subst (λ z. Agrees (posts (begins old) (journals old i) k ++ more) (gots (journals old k) i ++ cond ((i == d) && (k == e)) (got1 ∷ []) []) z) (sym (r.left i k hi hk))
      (Agrees-posted (posts (begins old) (journals old i) k) (gots (journals old k) i ++ cond ((i == d) && (k == e)) (got1 ∷ []) []) _ more (front (i == d) refl (k == e) refl)))))
    where
      more : List Letter
      more = cond (i == e) (replies_to (begins old) old.config.start e l (journals old e) k) []

      got1 : Letter
      got1 = letter (receipt old.config.start e l (journals old e)).stamp (sent l.from l.to l.signal)

      front : (p : Bool) → (i == d) ≡ p → (q : Bool) → (k == e) ≡ q
          → Agrees (posts (begins old) (journals old i) k) (gots (journals old k) i ++ cond ((i == d) && (k == e)) (letter (receipt old.config.start e l (journals old e)).stamp (sent l.from l.to l.signal) ∷ []) [])
          (cond ((i == d) && (k == e)) (drop 1 (over_in old.shards old.lanes i k)) (over_in old.shards old.lanes i k))
      front true pe true qe =
          let at : over_in old.shards old.lanes i k ≡ l ∷ drop 1 (over_in old.shards old.lanes i k)
          = subst (λ x. over_in old.shards old.lanes x k ≡ l ∷ drop 1 (over_in old.shards old.lanes x k)) (sym (eqb-true i d pe))
          (subst (λ x. over_in old.shards old.lanes d x ≡ l ∷ drop 1 (over_in old.shards old.lanes d x)) (sym (eqb-true k e qe)) r.first) in
          rw (pe, qe)
          (Agrees-got (posts (begins old) (journals old i) k) (gots (journals old k) i) l got1 (drop 1 (over_in old.shards old.lanes i k)) (refl, omega arith)
          (subst (Agrees (posts (begins old) (journals old i) k) (gots (journals old k) i)) at (whole.agree i k hi hk)))
      front true pe false qe = rw (pe, qe, append-nil (gots (journals old k) i)) (whole.agree i k hi hk)
      front false pe q qe = rw (pe, append-nil (gots (journals old k) i)) (whole.agree i k hi hk)

-- no more desks than a node may have
pub few_desks : (config : Config) (shards : List ShardState) (lanes : List (List Letter)) → IsGathered (record { config = config; shards = shards; lanes = lanes }) → length shards ≤ 64
few_desks config [] lanes whole = omega arith
few_desks config (s ∷ ss) lanes whole =
    let first = whole.shards 0 s (omega arith) in
    let desks = ap (λ (c : Config). c.desks) first.config_is in
    omega (arith, desks, first.fit.settings.desks, whole.desks)
