-- One more of a list that is numbered.
use Rattle.std.proofs.Common.{◌≡◌, ℕ, zero, suc, ◌+◌, ◌<◌, List, [], ◌∷◌, ◌++◌, length, take, get_or, None, ap, sym, ◌∙◌, append_assoc, append-nil, arith}
use Rattle.std.specs.List.{flat_map, enumerate_from}
use Rattle.pt_events.specs.declared.event.Stamped.{Stamped}
use Rattle.pt_events.specs.declared.event.Event.TheVariants.{Born}
use Rattle.pt_chart.specs.declared.part.Part.{Part}
use Rattle.pt_chart.specs.declared.part.Letter.{Letter}
use Rattle.pt_chart.specs.Drawing.{each_numbered, in_flight, tipped, tip_row}

module _ {X Y : Type 0} (f : ℕ → X → List Y) where
  abbrev from : ℕ → List X → List Y
  from n xs = flat_map (λ (x : ℕ × X). f x.0 x.1) (enumerate_from n xs)

  pub from_more : (n : ℕ) (xs : List X) (i : ℕ) (d : X) → i < length xs → from n (take (suc i) xs) ≡ from n (take i xs) ++ f (n + i) (get_or xs i d)
  from_more n [] i d h = absurd (omega arith)
  from_more n (x ∷ xs) zero d h = let e : n ≡ n + 0 = omega arith in append-nil (f n x) ∙ ap (λ k. f k x) e
  from_more n (x ∷ xs) (suc i) d h =
      let e : n + 1 + i ≡ n + suc i = omega arith in
      ap (λ ps. f n x ++ ps) (from_more (n + 1) xs i d (omega arith) ∙ ap (λ k. from (n + 1) (take i xs) ++ f k (get_or xs i d)) e)
      ∙ sym (append_assoc (f n x) (from (n + 1) (take i xs)) (f (n + suc i) (get_or xs i d)))

  pub next : (xs : List X) (i : ℕ) (x : X) → i < length xs → each_numbered f (take i xs) ++ f i (get_or xs i x) ≡ each_numbered f (take (i + 1) xs)
  next xs i x h =
      let here : 0 + i ≡ i = omega arith in
      let there : suc i ≡ i + 1 = omega arith in
      ap (λ k. from 0 (take i xs) ++ f k (get_or xs i x)) (sym here) ∙ sym (from_more 0 xs i x h) ∙ ap (λ k. from 0 (take k xs)) there

  -- what the next one gives stands behind
  pub one_more_at : (start before after : List Y) (xs : List X) (i : ℕ) (d : X) → i < length xs → before ≡ start ++ each_numbered f (take i xs) → after ≡ before ++ f i (get_or xs i d) → after ≡ start ++ each_numbered f (take (i + 1) xs)
  one_more_at start before after xs i d h b a =
      a ∙ ap (λ ps. ps ++ f i (get_or xs i d)) b ∙ append_assoc start (each_numbered f (take i xs)) (f i (get_or xs i d)) ∙ ap (λ ps. start ++ ps) (next xs i d h)

  pub one_more : (start before after : List Y) (xs : List X) (i : ℕ) (x : X) → i < length xs → get_or xs i x ≡ x → before ≡ start ++ each_numbered f (take i xs) → after ≡ before ++ f i x
      → after ≡ start ++ each_numbered f (take (i + 1) xs)
  one_more start before after xs i x h is b a = one_more_at start before after xs i x h b (a ∙ ap (λ y. before ++ f i y) (sym is))

abbrev pub nothing : Stamped
nothing = record { stamp = 0; desk = 0; event = Born (record { shard = 0; slot = 0; version = 0 }) None None }

pub one_more_event : (f : ℕ → Stamped → List Part) (start before after : List Part) (events : List Stamped) (i : ℕ) → i < length events → before ≡ start ++ each_numbered f (take i events)
    → after ≡ before ++ f i (get_or events i nothing) → after ≡ start ++ each_numbered f (take (i + 1) events)
one_more_event f start before after events i h b a = one_more_at f start before after events i nothing h b a

-- one more letter has the row of its tip
pub placed_next : (rows : ℕ) (ls : List Letter) (i n : ℕ) (d : Letter) (before after : List Letter) → i < length ls → before ≡ each_numbered (tipped rows ls) (take i ls) → n ≡ in_flight (take i ls)
    → after ≡ before ++ record (get_or ls i d) { tip = tip_row rows n (get_or ls i d).arrow.came } ∷ [] → after ≡ each_numbered (tipped rows ls) (take (i + 1) ls)
placed_next rows ls i n d before after h b is a =
    let placed_at : ℕ → List Letter = λ k. before ++ record (get_or ls i d) { tip = tip_row rows k (get_or ls i d).arrow.came } ∷ [] in
    one_more_at (tipped rows ls) [] before after ls i d h b (a ∙ ap placed_at is)
