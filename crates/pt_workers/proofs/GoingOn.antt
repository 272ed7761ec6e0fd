-- Lemmas on desks that go on.
use Rattle.std.proofs.Common.{◌≡◌, ◌≢◌, ⊎_elim, subst, ℕ, ◌<◌, List, [], ◌∷◌, ◌++◌, map, length, get_or, set, take, drop, refl, ap, sym, ◌∙◌, arith}
use Rattle.std.proofs.lemmas.Bool.{cases_eq}
use Rattle.std.proofs.lemmas.List.{same_lists, get_or-map, length-map, nil_from_length, get_or-set_same, get_or-set_other, length-set, get_or_default, drop_all, append-nil, take_all}
use Rattle.std.proofs.lemmas.Simd.{map-map}
use Rattle.pt_carrier.specs.Ends.{Place}
use Rattle.pt_carrier.specs.Node.{IsNode}
use Rattle.pt_signal.specs.declared.config.Config.{Config}
use Rattle.pt_desk.specs.DeskState.{DeskState, GoesOn, place}
use Rattle.pt_desk.proofs.Turning.{extends, goes_on_then}
use Rattle.pt_beginning.specs.Beginning.{IsBeginning, start_of}
use Rattle.pt_workers.specs.Desks.{AreDesksOf, AreDesks, all_shards}
use Rattle.pt_workers.specs.Running.{AllGoOn}
use Rattle.pt_workers.proofs.Begun.{starts_stay}

pub stays : (d : DeskState) → GoesOn d d
stays d = record { shard = extends d.shard; place = refl; sight = record { directory = refl; reads = λ k r h. h } }

-- several calls of a desk, one after the other
pub goes_on_three : (a b c d : DeskState) → GoesOn a b → GoesOn b c → GoesOn c d → GoesOn a d
goes_on_three a b c d f g h = goes_on_then a c d (goes_on_then a b c f g) h

pub goes_on_four : (a b c d e : DeskState) → GoesOn a b → GoesOn b c → GoesOn c d → GoesOn d e → GoesOn a e
goes_on_four a b c d e f g h i = goes_on_then a d e (goes_on_three a b c d f g h) i

pub goes_on_five : (a b c d e f : DeskState) → GoesOn a b → GoesOn b c → GoesOn c d → GoesOn d e → GoesOn e f → GoesOn a f
goes_on_five a b c d e f p q r s t = goes_on_then a e f (goes_on_four a b c d e p q r s) t

-- for a module whose functions make up to five calls of a desk each: it is named there once, by `using(..)`
pub ruleset goes_on = (stays, goes_on_then, goes_on_three, goes_on_four, goes_on_five)

module _ {W : Type 0} where
  pub all_stay : (xs : List (DeskState × W)) → AllGoOn xs xs
  all_stay xs = record { count = refl; each = λ d x l. stays (get_or xs d x).0 }

  pub all_go_on_then : (xs ys zs : List (DeskState × W)) → AllGoOn xs ys → AllGoOn ys zs → AllGoOn xs zs
  all_go_on_then xs ys zs h k = record {
    count = k.count ∙ h.count;
    each = λ d x l. goes_on_then (get_or xs d x).0 (get_or ys d x).0 (get_or zs d x).0 (h.each d x l) (k.each d x (omega (arith, l, h.count)));
  }

  -- the desk `old` that was read at i goes on, and the others stay
  pub one_goes_on : (xs : List (DeskState × W)) (i : ℕ) (old new : DeskState × W) → i < length xs → old ≡ get_or xs i old → GoesOn old.0 new.0 → AllGoOn xs (set xs i new)
  one_goes_on xs i old new within is went = record {
    count = length-set xs i new;
    each = λ d x l. ⊎_elim (at d x l) (beside d x) (cases_eq d i);
  }
    where
      at : (d : ℕ) (x : DeskState × W) → d < length xs → d ≡ i → GoesOn (get_or xs d x).0 (get_or (set xs i new) d x).0
      at d x l same = rw (same, get_or-set_same xs i new x within) (subst (λ y. GoesOn y.0 new.0) (is ∙ get_or_default xs i old x within) went)

      beside : (d : ℕ) (x : DeskState × W) → d ≢ i → GoesOn (get_or xs d x).0 (get_or (set xs i new) d x).0
      beside d x apart = rw (get_or-set_other xs i d new x apart) (stays (get_or xs d x).0)

  -- the places stay where each desk goes on
  places_stay : (old new : List (DeskState × W)) → AllGoOn old new → map (λ (p : DeskState × W). place p.0) new ≡ map (λ (p : DeskState × W). place p.0) old
  places_stay [] new c = rw (nil_from_length new c.count) refl
  places_stay (x ∷ xs) new c =
      let old = x ∷ xs in
      let f : DeskState × W → Place × Place = λ p. place p.0 in
      same_lists (map f new) (map f old) (length-map new f ∙ c.count ∙ sym (length-map old f)) (λ k d l.
      let within : k < length new = omega (arith, l, length-map new f) in
      let before : k < length old = omega (arith, within, c.count) in
      get_or-map f new k x d within ∙ (c.each k x before).place ∙ sym (get_or-map f old k x d before))

  -- desks of one node are that node's where each goes on
  same_node : (config : Config) (old new : List (DeskState × W)) → AllGoOn old new → AreDesksOf config (map (λ (p : DeskState × W). p.0) old) → AreDesksOf config (map (λ (p : DeskState × W). p.0) new)
  same_node config [] new c are = absurd (omega (arith, are.some))
  same_node config (x ∷ xs) new c are =
      let old = x ∷ xs in
      let desk : DeskState × W → DeskState = λ p. p.0 in
      let lengths : length (map desk new) ≡ length (map desk old) = length-map new desk ∙ c.count ∙ sym (length-map old desk) in
      record {
        some = omega (arith, lengths, are.some);
        count = lengths ∙ are.count;
        node = subst IsNode (map-map place desk old ∙ sym (places_stay old new c) ∙ sym (map-map place desk new)) are.node;
        configs = λ d y l.
            let within : d < length new = omega (arith, l, length-map new desk) in
            let before : d < length old = omega (arith, within, c.count) in
            ap (λ (z : DeskState). z.shard.config) (get_or-map desk new d x y within) ∙ (c.each d x before).shard.config
            ∙ ap (λ (z : DeskState). z.shard.config) (sym (get_or-map desk old d x y before)) ∙ are.configs d y (omega (arith, l, lengths));
        directory = are.directory;
        directories = λ d y l.
            let within : d < length new = omega (arith, l, length-map new desk) in
            let before : d < length old = omega (arith, within, c.count) in
            ap (λ (z : DeskState). z.sight.directory) (get_or-map desk new d x y within) ∙ (c.each d x before).sight.directory
            ∙ ap (λ (z : DeskState). z.sight.directory) (sym (get_or-map desk old d x y before)) ∙ are.directories d y (omega (arith, l, lengths));
        begun = subst (IsBeginning config.start) (sym begins) are.begun;
      }
    where
      begins : start_of (all_shards (map (λ (p : DeskState × W). p.0) new)) ≡ start_of (all_shards (map (λ (p : DeskState × W). p.0) (x ∷ xs)))
      begins =
          let old = x ∷ xs in
          let desk : DeskState × W → DeskState = λ p. p.0 in
          starts_stay (map desk old) (map desk new) (length-map new desk ∙ c.count ∙ sym (length-map old desk)) (λ d y l.
          let before : d < length old = omega (arith, l, length-map old desk) in
          ap (λ (z : DeskState). z.shard.start) (get_or-map desk new d x y (omega (arith, before, c.count)))
          ∙ (c.each d x before).shard.start ∙ ap (λ (z : DeskState). z.shard.start) (sym (get_or-map desk old d x y before)))

  pub still_desks : (old new : List (DeskState × W)) → AllGoOn old new → AreDesks (map (λ (p : DeskState × W). p.0) old) → AreDesks (map (λ (p : DeskState × W). p.0) new)
  still_desks old new c are = (are.0, same_node are.0 old new c are.1)

-- a list that is written over whole
pub written : {X : Type 0} (xs new : List X) (n : ℕ) → length new ≡ length xs → n ≡ length xs → take n (new ++ drop (length new) xs) ≡ new
written xs new n e f = rw (drop_all (length new) xs (omega arith), append-nil) (take_all n new (omega arith))
