-- The signals of an estate, by their numbers.
use Rattle.std.proofs.Common.{◌≡◌, ℕ, zero, suc, ◌+◌, ◌-◌, ◌<◌, ◌≤◌, List, [], ◌∷◌, ◌++◌, map, length, slice_get, refl, ap, ◌∙◌, arith, length-append, Some}
use Rattle.std.proofs.lemmas.List.{length-map}
use Rattle.std.specs.Map.{keys_of}
use Rattle.std.specs.Option.{option_map}
use Rattle.std.proofs.lemmas.Option.{slice_get-map}
use Rattle.pt_signal.specs.declared.pid.Pid.{Pid}
use Rattle.pt_signal.specs.declared.ids.Ref.{Ref}
use Rattle.pt_signal.specs.declared.ids.Ids.{Ids}
use Rattle.pt_signal.specs.declared.reason.Reason.{Reason}
use Rattle.pt_signal.specs.declared.signal.Signal.{Signal}
use Rattle.pt_signal.specs.declared.signal.Signal.TheVariants.{LinkExit, Demonitor}
use Rattle.pt_signal.specs.Process.{Sent, sent}

module _ {X : Type 0} where
  slice_get-front : (xs ys : List X) (i : ℕ) → i < length xs → slice_get (xs ++ ys) i ≡ slice_get xs i
  slice_get-front [] ys i within = absurd (omega arith)
  slice_get-front (x ∷ xs) ys zero within = refl
  slice_get-front (x ∷ xs) ys (suc i) within = slice_get-front xs ys i (omega arith)

  slice_get-past : (xs ys : List X) (i : ℕ) → length xs ≤ i → slice_get (xs ++ ys) i ≡ slice_get ys (i - length xs)
  slice_get-past [] ys i past = let n : i ≡ i - 0 = omega arith in ap (slice_get ys) n
  slice_get-past (x ∷ xs) ys zero past = absurd (omega arith)
  slice_get-past (x ∷ xs) ys (suc i) past =
      let n : i - length xs ≡ suc i - suc (length xs) = omega arith in
      slice_get-past xs ys i (omega arith) ∙ ap (slice_get ys) n

module _ {V : Type 0} (me : Pid) (r : Reason) (links : List (Pid × Ids)) (kept : List ((Ref × Pid) × V)) (watching : List (Ref × Pid)) where
  abbrev exits : List Sent
  exits = map (λ e. sent me e.0 (LinkExit e.1 r)) links

  abbrev downs : List Sent
  downs = map (λ k. sent me k.1 (Signal.Down k.0 r)) (keys_of kept)

  abbrev ends : List Sent
  ends = map (λ m. sent me m.1 (Demonitor m.0)) watching

  pub owed_down : (i : ℕ) (e : (Ref × Pid) × V) → length links ≤ i → i - length links < length kept → slice_get kept (i - length links) ≡ Some e
      → slice_get (exits ++ downs ++ ends) i ≡ Some (sent me e.0.1 (Signal.Down e.0.0 r))
  owed_down i e past within at =
      let n : length exits ≡ length links = length-map links _ in
      let m : length downs ≡ length kept = length-map (keys_of kept) _ ∙ length-map kept _ in
      let short : i < length (exits ++ downs) = omega (arith, length-append exits downs, n, m, past, within) in
      let place : i - length exits ≡ i - length links = omega (arith, n) in
      slice_get-front (exits ++ downs) ends i short
      ∙ slice_get-past exits downs i (omega (arith, n, past))
      ∙ ap (slice_get downs) place
      ∙ slice_get-map (λ k. sent me k.1 (Signal.Down k.0 r)) (keys_of kept) _
      ∙ ap (option_map (λ k. sent me k.1 (Signal.Down k.0 r))) (slice_get-map (λ e. e.0) kept _ ∙ ap (option_map (λ e. e.0)) at)

  pub owed_demonitor : (i : ℕ) (e : Ref × Pid) → length links + length kept ≤ i → slice_get watching (i - length links - length kept) ≡ Some e
      → slice_get (exits ++ downs ++ ends) i ≡ Some (sent me e.1 (Demonitor e.0))
  owed_demonitor i e past at =
      let n : length exits ≡ length links = length-map links _ in
      let m : length downs ≡ length kept = length-map (keys_of kept) _ ∙ length-map kept _ in
      let both : length (exits ++ downs) ≡ length links + length kept = omega (arith, length-append exits downs, n, m) in
      let place : i - length (exits ++ downs) ≡ i - length links - length kept = omega (arith, both) in
      slice_get-past (exits ++ downs) ends i (omega (arith, both, past))
      ∙ ap (slice_get ends) place
      ∙ slice_get-map (λ m. sent me m.1 (Demonitor m.0)) watching _
      ∙ ap (option_map (λ m. sent me m.1 (Demonitor m.0))) at

-- whom an end concerns, by numbers
module _ {V : Type 0} (links : List (Pid × Ids)) (kept : List ((Ref × Pid) × V)) (watching : List (Ref × Pid)) where
  abbrev linked : List Pid
  linked = map (λ e. e.0) links

  abbrev watchers : List Pid
  watchers = map (λ k. k.1) (keys_of kept)

  abbrev watched : List Pid
  watched = map (λ m. m.1) watching

  pub peer_linked : (i : ℕ) (e : Pid × Ids) → i < length links → slice_get links i ≡ Some e → slice_get (linked ++ watchers ++ watched) i ≡ Some e.0
  peer_linked i e within at =
      let n : length linked ≡ length links = length-map links _ in
      let short : i < length (linked ++ watchers) = omega (arith, length-append linked watchers, n, within) in
      slice_get-front (linked ++ watchers) watched i short
      ∙ slice_get-front linked watchers i (omega (arith, n, within))
      ∙ slice_get-map (λ e. e.0) links i
      ∙ ap (option_map (λ e. e.0)) at

  pub peer_watcher : (i : ℕ) (e : (Ref × Pid) × V) → length links ≤ i → i - length links < length kept → slice_get kept (i - length links) ≡ Some e
      → slice_get (linked ++ watchers ++ watched) i ≡ Some e.0.1
  peer_watcher i e past within at =
      let n : length linked ≡ length links = length-map links _ in
      let m : length watchers ≡ length kept = length-map (keys_of kept) _ ∙ length-map kept _ in
      let short : i < length (linked ++ watchers) = omega (arith, length-append linked watchers, n, m, past, within) in
      let place : i - length linked ≡ i - length links = omega (arith, n) in
      slice_get-front (linked ++ watchers) watched i short
      ∙ slice_get-past linked watchers i (omega (arith, n, past))
      ∙ ap (slice_get watchers) place
      ∙ slice_get-map (λ k. k.1) (keys_of kept) _
      ∙ ap (option_map (λ k. k.1)) (slice_get-map (λ e. e.0) kept _ ∙ ap (option_map (λ e. e.0)) at)

  pub peer_watched : (i : ℕ) (e : Ref × Pid) → length links + length kept ≤ i → slice_get watching (i - length links - length kept) ≡ Some e
      → slice_get (linked ++ watchers ++ watched) i ≡ Some e.1
  peer_watched i e past at =
      let n : length linked ≡ length links = length-map links _ in
      let m : length watchers ≡ length kept = length-map (keys_of kept) _ ∙ length-map kept _ in
      let both : length (linked ++ watchers) ≡ length links + length kept = omega (arith, length-append linked watchers, n, m) in
      let place : i - length (linked ++ watchers) ≡ i - length links - length kept = omega (arith, both) in
      slice_get-past (linked ++ watchers) watched i (omega (arith, both, past))
      ∙ ap (slice_get watched) place
      ∙ slice_get-map (λ m. m.1) watching _
      ∙ ap (option_map (λ m. m.1)) at
