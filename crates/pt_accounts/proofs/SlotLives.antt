-- The lives of a slot: those that were forgotten, those that ended since, and the newest.
use Rattle.std.proofs.Common.{◌≡◌, ℕ, zero, suc, ◌+◌, ◌-◌, ◌<◌, ◌≤◌, ◌^◌, ◌==◌, ◌⊎◌, inl, inr, Bool, true, false, cond, Option, Some, None, List, [], ◌∷◌, ◌++◌, map, min, replicate, length, slice_get, get_or, take, refl, ap, sym, ◌∙◌, subst, arith, length-append, append-nil, append_assoc}
use Rattle.std.specs.Prelude.{IfSome, option_to_list, is_some}
use Rattle.std.specs.Option.{option_map, option_or}
use Rattle.std.proofs.lemmas.Bool.{both_ways, false≢true, eqb-true, eq-eqb}
use Rattle.std.proofs.lemmas.List.{map-append, length-replicate}
use Rattle.pt_signal.specs.declared.pid.Pid.{Pid}
use Rattle.pt_signal.specs.declared.reason.Reason.{Reason}
use Rattle.pt_events.specs.History.{Phase, unborn, living, ended, is_ended, reason_of, after}
use Rattle.pt_signal.specs.Process.{ProcessState}
use Rattle.pt_events.specs.Takes.{taken_by}
use Rattle.pt_events.specs.declared.event.Event.TheVariants.{Took}
use Rattle.pt_events.specs.declared.event.Event.{Event}
use Rattle.pt_events.specs.Leaving.{outcome}
use Rattle.pt_accounts.specs.LifeState.{LifeState}
use Rattle.pt_accounts.specs.Table.{of_version}
use Rattle.pt_accounts.specs.Pids.{pid_of_slot}
use Rattle.pt_accounts.specs.DeskLives.{forgotten, bare, latest_end, pids_of}
use Rattle.pt_accounts.specs.SlotState.{end_at, ended_from, lives_of, LifeIsOver, AreOver, AreVersions, IsSlot, HasEnded, reasons_of, life_end, left_of, living_of, IsForgotten}
use Rattle.pt_accounts.specs.Steps.{life_after, MaySee, MayMeet, IsNextOf}
use Rattle.pt_accounts.proofs.Places.{slice_get-push, version_push}
use Rattle.pt_signal.specs.declared.reason.Reason.TheVariants.{Noproc}
use Rattle.pt_events.proofs.Phases.{after_ended}
use Rattle.pt_events.proofs.Forgetting.{reasonless_outcome}

-- lists of ends ------------------------------------------------------------------------------------

pub length_ends : (d s v : ℕ) (rs : List Reason) → length (ended_from d s v rs) ≡ length rs
length_ends d s v [] = refl
length_ends d s v (r ∷ rs) = ap suc (length_ends d s (v + 1) rs)

pub ends_append : (d s v : ℕ) (rs qs : List Reason) → ended_from d s v (rs ++ qs) ≡ ended_from d s v rs ++ ended_from d s (v + length rs) qs
ends_append d s v [] qs = ap (λ n. ended_from d s n qs) (omega arith)
ends_append d s v (r ∷ rs) qs = ap (λ z. end_at d s v r ∷ z) (ends_append d s (v + 1) rs qs ∙ ap (λ n. ended_from d s (v + 1) rs ++ ended_from d s n qs) (omega arith))

forgotten_ends : (d s v : ℕ) (rs : List Reason) → map forgotten (ended_from d s v rs) ≡ ended_from d s v rs
forgotten_ends d s v [] = refl
forgotten_ends d s v (r ∷ rs) = ap (λ z. end_at d s v r ∷ z) (forgotten_ends d s (v + 1) rs)

over_ends : (d s v : ℕ) (rs : List Reason) → AreOver (ended_from d s v rs)
over_ends d s v [] = tt
over_ends d s v (r ∷ rs) = (refl, over_ends d s (v + 1) rs)

versions_ends : (d s v : ℕ) (rs : List Reason) → AreVersions d s v (ended_from d s v rs)
versions_ends d s v [] = tt
versions_ends d s v (r ∷ rs) = (refl, versions_ends d s (v + 1) rs)

-- one that is forgotten
forgotten_one : (d s v : ℕ) (l : LifeState) (r : Reason) → reason_of l.phase ≡ Some r → l.pid ≡ pid_of_slot d s v → forgotten l ≡ end_at d s v r
forgotten_one d s v l r e p = go l.phase e refl
  where
    go : (f : Phase) → reason_of f ≡ Some r → l.phase ≡ f → forgotten l ≡ end_at d s v r
    go unborn e f = absurd (cc)
    go (living st) e f = absurd (cc)
    go (ended q st) e f =
        let same : q ≡ r = cc in
        rw (f, p, same) refl

over_reason : (l : LifeState) → LifeIsOver l → (r : Reason) × (reason_of l.phase ≡ Some r)
over_reason l h = go l.phase h refl
  where
    go : (f : Phase) → is_ended f ≡ true → l.phase ≡ f → (r : Reason) × (reason_of l.phase ≡ Some r)
    go unborn h e = absurd (false≢true h)
    go (living s) h e = absurd (false≢true h)
    go (ended r s) h e = (r, ap reason_of e)

pub forgotten_over : (d s v : ℕ) (lives : List LifeState) → AreOver lives → AreVersions d s v lives → map forgotten lives ≡ ended_from d s v (reasons_of lives)
forgotten_over d s v [] h p = refl
forgotten_over d s v (l ∷ lives) h p =
    let r = over_reason l h.0 in
    let one : forgotten l ≡ end_at d s v r.0 = forgotten_one d s v l r.0 r.1 p.0 in
    let rest = forgotten_over d s (v + 1) lives h.1 p.1 in
    ap (λ z. z ∷ map forgotten lives) one ∙ ap (λ z. end_at d s v r.0 ∷ z) rest ∙ ap (λ o. ended_from d s v (option_to_list o ++ reasons_of lives)) (sym r.1)

pub length_reasons : (lives : List LifeState) → AreOver lives → length (reasons_of lives) ≡ length lives
length_reasons [] h = refl
length_reasons (l ∷ lives) h = let r = over_reason l h.0 in ap (λ o. length (option_to_list o ++ reasons_of lives)) r.1 ∙ ap suc (length_reasons lives h.1)

pub reasons_more : (lives : List LifeState) (l : LifeState) → reasons_of (lives ++ l ∷ []) ≡ reasons_of lives ++ option_to_list (reason_of l.phase)
reasons_more [] l = append-nil _
reasons_more (x ∷ lives) l = ap (λ z. option_to_list (reason_of x.phase) ++ z) (reasons_more lives l) ∙ sym (append_assoc (option_to_list (reason_of x.phase)) (reasons_of lives) (option_to_list (reason_of l.phase)))

-- one reason for all of them
pub bare_ends : (d s v : ℕ) (rs : List Reason) → map bare (ended_from d s v rs) ≡ ended_from d s v (replicate (length rs) Noproc)
bare_ends d s v [] = refl
bare_ends d s v (r ∷ rs) = ap (λ z. end_at d s v Noproc ∷ z) (bare_ends d s (v + 1) rs)

bare_forgotten_one : (l : LifeState) → bare (forgotten l) ≡ bare l
bare_forgotten_one l = ap (λ f. record { pid = l.pid; phase = f; taken = 0 }) (reasonless_outcome l.phase)

pub bare_forgotten : (lives : List LifeState) → map bare (map forgotten lives) ≡ map bare lives
bare_forgotten [] = refl
bare_forgotten (l ∷ lives) = ap (λ z. z ∷ map bare (map forgotten lives)) (bare_forgotten_one l) ∙ ap (λ z. bare l ∷ z) (bare_forgotten lives)

-- over and placed ----------------------------------------------------------------------------------

pub over_append : (xs ys : List LifeState) → AreOver xs → AreOver ys → AreOver (xs ++ ys)
over_append [] ys h k = k
over_append (x ∷ xs) ys h k = (h.0, over_append xs ys h.1 k)

over_front : (xs ys : List LifeState) → AreOver (xs ++ ys) → AreOver xs
over_front [] ys h = tt
over_front (x ∷ xs) ys h = (h.0, over_front xs ys h.1)

over_last : (xs : List LifeState) (x : LifeState) → AreOver (xs ++ x ∷ []) → LifeIsOver x
over_last [] x h = h.0
over_last (y ∷ xs) x h = over_last xs x h.1

last_ended : (xs : List LifeState) (x : LifeState) → HasEnded (xs ++ x ∷ []) → LifeIsOver x
last_ended [] x h = h
last_ended (y ∷ []) x h = h
last_ended (y ∷ z ∷ xs) x h = last_ended (z ∷ xs) x h

pub placed_append : (d s v : ℕ) (xs ys : List LifeState) → AreVersions d s v xs → AreVersions d s (v + length xs) ys → AreVersions d s v (xs ++ ys)
placed_append d s v [] ys h k = subst (λ n. AreVersions d s n ys) (omega arith) k
placed_append d s v (x ∷ xs) ys h k = (h.0, placed_append d s (v + 1) xs ys h.1 (subst (λ n. AreVersions d s n ys) (omega arith) k))

placed_front : (d s v : ℕ) (xs ys : List LifeState) → AreVersions d s v (xs ++ ys) → AreVersions d s v xs
placed_front d s v [] ys h = tt
placed_front d s v (x ∷ xs) ys h = (h.0, placed_front d s (v + 1) xs ys h.1)

placed_rest : (d s v : ℕ) (xs ys : List LifeState) → AreVersions d s v (xs ++ ys) → AreVersions d s (v + length xs) ys
placed_rest d s v [] ys h = subst (λ n. AreVersions d s n ys) (omega arith) h
placed_rest d s v (x ∷ xs) ys h = subst (λ n. AreVersions d s n ys) (omega arith) (placed_rest d s (v + 1) xs ys h.1)

pub placed_at : (d s v : ℕ) (xs : List LifeState) (k : ℕ) (x : LifeState) → AreVersions d s v xs → slice_get xs k ≡ Some x → x.pid ≡ pid_of_slot d s (v + k)
placed_at d s v [] k x h e = absurd (cc)
placed_at d s v (y ∷ xs) zero x h e =
    let same : y ≡ x = cc in
    ap (λ (l : LifeState). l.pid) (sym same) ∙ h.0 ∙ ap (pid_of_slot d s) (omega arith)
placed_at d s v (y ∷ xs) (suc k) x h e = placed_at d s (v + 1) xs k x h.1 e ∙ ap (pid_of_slot d s) (omega arith)

-- ends that have these pids
ends_same : (d s e t v : ℕ) (rs : List Reason) (rest : List LifeState) → AreVersions e t v (ended_from d s v rs ++ rest) → ended_from d s v rs ≡ ended_from e t v rs
ends_same d s e t v [] rest h = refl
ends_same d s e t v (r ∷ rs) rest h =
    ap (λ (p : Pid). record { pid = p; phase = ended r Rattle.pt_signal.specs.Process.fresh; taken = 0 } ∷ ended_from d s (v + 1) rs) h.0
    ∙ ap (λ z. end_at e t v r ∷ z) (ends_same d s e t (v + 1) rs rest h.1)

-- the newest, where it is forgotten
pub ends_or_stays : (o : Option LifeState) → length (option_to_list (life_end o)) + length (option_to_list (left_of o)) ≡ length (option_to_list o)
ends_or_stays None = refl
ends_or_stays (Some l) = go l.phase refl
  where
    go : (f : Phase) → l.phase ≡ f → length (option_to_list (life_end (Some l))) + length (option_to_list (left_of (Some l))) ≡ 1
    go unborn e = rw e refl
    go (living st) e = rw e refl
    go (ended r st) e = rw e refl

left_placed : (d s : ℕ) (o : Option LifeState) (n : ℕ) → AreVersions d s n (option_to_list o) → AreVersions d s (n + length (option_to_list (life_end o))) (option_to_list (left_of o))
left_placed d s None n h = tt
left_placed d s (Some l) n h = go l.phase refl
  where
    go : (f : Phase) → l.phase ≡ f → AreVersions d s (n + length (option_to_list (life_end (Some l)))) (option_to_list (left_of (Some l)))
    go unborn e = rw e (h.0 ∙ ap (pid_of_slot d s) (omega arith), tt)
    go (living st) e = rw e (h.0 ∙ ap (pid_of_slot d s) (omega arith), tt)
    go (ended r st) e = rw e tt

bare_left : (o : Option LifeState) → map bare (option_to_list (left_of o)) ≡ option_to_list (left_of o)
bare_left None = refl
bare_left (Some l) = go l.phase refl
  where
    go : (f : Phase) → l.phase ≡ f → map bare (option_to_list (left_of (Some l))) ≡ option_to_list (left_of (Some l))
    go unborn e = rw e refl
    go (living st) e = rw e refl
    go (ended r st) e = rw e refl

-- a forgotten slot with one reason for all
pub bare_lives : (d s : ℕ) (rs : List Reason) (o : Option LifeState) → lives_of d s (replicate (length rs) Noproc) [] (left_of o) ≡ map bare (lives_of d s rs [] (left_of o))
bare_lives d s rs o =
    let ends = ended_from d s 1 rs in
    let left = option_to_list (left_of o) in
    ap (λ z. (z ++ []) ++ left) (sym (bare_ends d s 1 rs))
    ∙ sym (map-append bare (ends ++ []) left ∙ ap (λ z. z ++ map bare left) (map-append bare ends []) ∙ ap (λ z. (map bare ends ++ []) ++ z) (bare_left o))

pub bare_slot : (d s room : ℕ) (rs qs : List Reason) (o : Option LifeState) (more : ℕ) → IsSlot d s rs (length rs + room) [] o → qs ≡ replicate (length rs) Noproc → min 1 room ≤ more → IsSlot d s qs (length qs + more) [] o
bare_slot d s room rs qs o more is eq enough =
    let long : length qs ≡ length rs = ap length eq ∙ length-replicate (length rs) Noproc in record {
      over = tt;
      placed = subst (λ n. AreVersions d s (n + 1) (option_to_list o)) (sym long) is.placed;
      few = let f = is.few in omega (arith, f, long);
      room = fits o is.room;
    }
  where
    fits : (o : Option LifeState) → length rs + 0 + length (option_to_list o) ≤ length rs + room → length qs + 0 + length (option_to_list o) ≤ length qs + more
    fits None r = omega arith
    fits (Some l) r = let some : 1 ≤ room = omega (arith, r) in omega (arith, enough, some)

-- lists --------------------------------------------------------------------------------------------

get_front : {X : Type 0} (xs ys : List X) (k : ℕ) → k < length xs → slice_get (xs ++ ys) k ≡ slice_get xs k
get_front [] ys k h = absurd (omega arith)
get_front (x ∷ xs) ys zero h = refl
get_front (x ∷ xs) ys (suc k) h = get_front xs ys k (omega arith)

get_after : {X : Type 0} (xs ys : List X) (k : ℕ) → length xs ≤ k → slice_get (xs ++ ys) k ≡ slice_get ys (k - length xs)
get_after [] ys k h = ap (slice_get ys) (omega arith)
get_after (x ∷ xs) ys zero h = absurd (omega arith)
get_after (x ∷ xs) ys (suc k) h = get_after xs ys k (omega arith) ∙ ap (slice_get ys) (omega arith)

snoc : {X : Type 0} (xs ys : List X) (x y : X) → xs ++ x ∷ [] ≡ ys ++ y ∷ [] → (xs ≡ ys) × (x ≡ y)
snoc [] [] x y e = (refl, cc)
snoc [] (b ∷ ys) x y e = absurd (omega (arith, simp length-append at (ap length e)))
snoc (a ∷ xs) [] x y e = absurd (omega (arith, simp length-append at (ap length e)))
snoc (a ∷ xs) (b ∷ ys) x y e =
    let t : xs ++ x ∷ [] ≡ ys ++ y ∷ [] = cc in
    let h : a ≡ b = cc in
    let k = snoc xs ys x y t in
    (ap (λ z. z ∷ xs) h ∙ ap (λ z. b ∷ z) k.0, k.1)

-- an ended process sees nothing
shown_over : (e : Event) (l : LifeState) → MaySee e l → LifeIsOver l → life_after e l ≡ l
shown_over e l m h = go l.phase refl h m.may
  where
    taken_same : (q : Pid) (e : Event) (r : Reason) (st : ProcessState) → MayMeet q (ended r st) e → taken_by q e ≡ []
    taken_same q (Took p k i) r st h = absurd h
    taken_same q _ r st h = refl

    go : (f : Phase) → l.phase ≡ f → is_ended f ≡ true → MayMeet l.pid f e → life_after e l ≡ l
    go unborn p h m = absurd (false≢true h)
    go (living st) p h m = absurd (false≢true h)
    go (ended r st) p h m =
        let t : l.taken + length (taken_by l.pid e) ≡ l.taken = ap (λ z. l.taken + length z) (taken_same l.pid e r st m) ∙ omega arith in
        ap (λ f. record { pid = l.pid; phase = f; taken = l.taken + length (taken_by l.pid e) }) (ap (after l.pid e) p ∙ after_ended l.pid e r st ∙ sym p)
        ∙ ap (λ n. record { pid = l.pid; phase = l.phase; taken = n }) t

version_other : (xs : List LifeState) (x : LifeState) (w : ℕ) → (w ≡ length xs + 1 → ⊥) → of_version (xs ++ x ∷ []) w ≡ of_version xs w
version_other xs x zero h = refl
version_other xs x (suc k) h = slice_get-push xs x k ∙ go (length xs == k) refl
  where
    go : (b : Bool) → (length xs == k) ≡ b → cond (length xs == k) (Some x) (slice_get xs k) ≡ slice_get xs k
    go false m = rw m refl
    go true m = absurd (h (let e : length xs ≡ k = eqb-true (length xs) k m in omega arith))

-- the latest end
latest_living : (xs : List LifeState) (l : LifeState) → is_ended l.phase ≡ false → latest_end (xs ++ l ∷ []) ≡ latest_end xs
latest_living [] l h = rw h refl
latest_living (x ∷ xs) l h = ap (λ o. option_or o (cond (is_ended x.phase) (Some x.pid) None)) (latest_living xs l h)

latest_over : (d s v : ℕ) (xs : List LifeState) (n : ℕ) → AreOver xs → AreVersions d s v xs → 0 < length xs → n + 1 ≡ v + length xs → latest_end xs ≡ Some (pid_of_slot d s n)
latest_over d s v [] n h p few e = absurd (omega arith)
latest_over d s v (x ∷ []) n h p few e = rw h.0 (ap Some (p.0 ∙ ap (pid_of_slot d s) (omega arith)))
latest_over d s v (x ∷ y ∷ xs) n h p few e = ap (λ o. option_or o (cond (is_ended x.phase) (Some x.pid) None)) (latest_over d s (v + 1) (y ∷ xs) n h.1 p.1 (omega arith) (omega arith))

-- a slot -------------------------------------------------------------------------------------------

module _ (d s : ℕ) (rs : List Reason) (lives : List LifeState) (newest : Option LifeState) where
  pub length_lives : length (lives_of d s rs lives newest) ≡ length rs + length lives + length (option_to_list newest)
  length_lives =
      length-append (ended_from d s 1 rs ++ lives) (option_to_list newest) ∙ ap (λ n. n + length (option_to_list newest)) (length-append (ended_from d s 1 rs) lives)
      ∙ ap (λ n. n + length lives + length (option_to_list newest)) (length_ends d s 1 rs)

module _ (d s capacity : ℕ) (rs : List Reason) (lives : List LifeState) (newest : Option LifeState) (is : IsSlot d s rs capacity lives newest) where
  rest_placed : AreVersions d s (1 + length (ended_from d s 1 rs)) (lives ++ option_to_list newest)
  rest_placed = subst (λ n. AreVersions d s n (lives ++ option_to_list newest)) (let l = length_ends d s 1 rs in omega arith) is.placed

  pub all_placed : AreVersions d s 1 (lives_of d s rs lives newest)
  all_placed =
      subst (AreVersions d s 1) (sym (append_assoc (ended_from d s 1 rs) lives (option_to_list newest)))
      (placed_append d s 1 (ended_from d s 1 rs) (lives ++ option_to_list newest) (versions_ends d s 1 rs) rest_placed)

  -- none of those before the newest lives
  past_over : AreOver (ended_from d s 1 rs ++ lives)
  past_over = over_append (ended_from d s 1 rs) lives (over_ends d s 1 rs) is.over

  lives_placed : AreVersions d s (length rs + 1) lives
  lives_placed = placed_front d s (length rs + 1) lives (option_to_list newest) is.placed

  pub many_reasons : length (reasons_of lives) ≡ length lives
  many_reasons = length_reasons lives is.over

  -- what the forgotten slot begins with
  front : ended_from d s 1 (rs ++ reasons_of lives) ≡ map forgotten (ended_from d s 1 rs ++ lives)
  front =
      ends_append d s 1 rs (reasons_of lives)
      ∙ ap (λ z. z ++ ended_from d s (1 + length rs) (reasons_of lives)) (sym (forgotten_ends d s 1 rs))
      ∙ ap (λ z. map forgotten (ended_from d s 1 rs) ++ z) (ap (λ n. ended_from d s n (reasons_of lives)) (omega arith) ∙ sym (forgotten_over d s (length rs + 1) lives is.over lives_placed))
      ∙ sym (map-append forgotten (ended_from d s 1 rs) lives)

  split : (l : LifeState) → newest ≡ Some l → map forgotten (lives_of d s rs lives newest) ≡ map forgotten (ended_from d s 1 rs ++ lives) ++ forgotten l ∷ []
  split l e = ap (λ o. map forgotten ((ended_from d s 1 rs ++ lives) ++ option_to_list o)) e ∙ map-append forgotten (ended_from d s 1 rs ++ lives) (l ∷ [])

  newest_placed : (l : LifeState) → newest ≡ Some l → l.pid ≡ pid_of_slot d s (length rs + 1 + length lives)
  newest_placed l e = (placed_rest d s (length rs + 1) lives (l ∷ []) (subst (λ o. AreVersions d s (length rs + 1) (lives ++ option_to_list o)) e is.placed)).0

  abbrev All : List Reason
  All = rs ++ reasons_of lives

  pub forgets : (qs : List Reason) (left : Option LifeState) → qs ≡ All ++ option_to_list (life_end newest) → left ≡ left_of newest
      → lives_of d s qs [] left ≡ map forgotten (lives_of d s rs lives newest)
  forgets qs left eq el = ap (λ q. lives_of d s q [] left) eq ∙ ap (lives_of d s (All ++ option_to_list (life_end newest)) []) el ∙ go newest refl
    where
      stays : (l : LifeState) → forgotten l ≡ record l { taken = 0 } → (ended_from d s 1 (All ++ []) ++ []) ++ record l { taken = 0 } ∷ [] ≡ map forgotten (ended_from d s 1 rs ++ lives) ++ forgotten l ∷ []
      stays l same =
          ap (λ z. z ++ record l { taken = 0 } ∷ []) (append-nil _ ∙ ap (ended_from d s 1) (append-nil All) ∙ front) ∙ ap (λ x. map forgotten (ended_from d s 1 rs ++ lives) ++ x ∷ []) (sym same)

      goes : (l : LifeState) (r : Reason) → newest ≡ Some l → reason_of l.phase ≡ Some r → (ended_from d s 1 (All ++ r ∷ []) ++ []) ++ [] ≡ map forgotten (ended_from d s 1 rs ++ lives) ++ forgotten l ∷ []
      goes l r e k =
          append-nil _ ∙ append-nil _ ∙ ends_append d s 1 All (r ∷ []) ∙ ap (λ z. z ++ end_at d s (1 + length All) r ∷ []) front
          ∙ ap (λ x. map forgotten (ended_from d s 1 rs ++ lives) ++ x ∷ []) (sym (forgotten_one d s (1 + length All) l r k (newest_placed l e ∙ ap (pid_of_slot d s) (simp length-append (let n = many_reasons in omega arith)))))

      one : (l : LifeState) → newest ≡ Some l → (f : Phase) → l.phase ≡ f → lives_of d s (All ++ option_to_list (life_end (Some l))) [] (left_of (Some l)) ≡ map forgotten (ended_from d s 1 rs ++ lives) ++ forgotten l ∷ []
      one l e unborn h =
          ap (λ o. lives_of d s (All ++ option_to_list o) [] (cond (is_some o) None (Some (record l { taken = 0 })))) (ap reason_of h)
          ∙ stays l (ap (λ f. record { pid = l.pid; phase = outcome f; taken = 0 }) h ∙ ap (λ f. record { pid = l.pid; phase = f; taken = 0 }) (sym h))
      one l e (living st) h =
          ap (λ o. lives_of d s (All ++ option_to_list o) [] (cond (is_some o) None (Some (record l { taken = 0 })))) (ap reason_of h)
          ∙ stays l (ap (λ f. record { pid = l.pid; phase = outcome f; taken = 0 }) h ∙ ap (λ f. record { pid = l.pid; phase = f; taken = 0 }) (sym h))
      one l e (ended r st) h =
          ap (λ o. lives_of d s (All ++ option_to_list o) [] (cond (is_some o) None (Some (record l { taken = 0 })))) (ap reason_of h)
          ∙ goes l r e (ap reason_of h)

      go : (o : Option LifeState) → newest ≡ o → lives_of d s (All ++ option_to_list (life_end o)) [] (left_of o) ≡ map forgotten (lives_of d s rs lives newest)
      go None e = append-nil _ ∙ append-nil _ ∙ ap (ended_from d s 1) (append-nil All) ∙ front ∙ ap (map forgotten) (sym (append-nil _) ∙ ap (λ o. (ended_from d s 1 rs ++ lives) ++ option_to_list o) (sym e))
      go (Some l) e = one l e l.phase refl ∙ sym (split l e)

  -- what is left is a slot again
  pub many_forgotten : (qs : List Reason) → qs ≡ All ++ option_to_list (life_end newest) → length qs ≡ length rs + length lives + length (option_to_list (life_end newest))
  many_forgotten qs e = ap length e ∙ simp length-append (let n = many_reasons in omega arith)

  pub forgot : (qs : List Reason) (left : Option LifeState) (room : ℕ) → qs ≡ All ++ option_to_list (life_end newest) → left ≡ left_of newest → capacity ≤ room → IsSlot d s qs room [] left
  forgot qs left room eq el more =
      let n = many_forgotten qs eq in
      let m : length (option_to_list (life_end newest)) + length (option_to_list left) ≡ length (option_to_list newest) = ap (λ o. length (option_to_list (life_end newest)) + length (option_to_list o)) el ∙ ends_or_stays newest in
      let f = is.few in
      let r = is.room in
      record {
        over = tt;
        placed =
            subst (λ o. AreVersions d s (length qs + 1) (option_to_list o)) (sym el)
            (subst (λ n. AreVersions d s n (option_to_list (left_of newest))) (let k = n in omega arith) (left_placed d s newest (length rs + 1 + length lives) (placed_rest d s (length rs + 1) lives (option_to_list newest) is.placed)));
        few = omega arith;
        room = omega arith;
      }

  -- the first of all, that are forgotten ----------------------------------------------------------

  pub early : (v : ℕ) → v ≤ length rs → IsForgotten (of_version (lives_of d s rs lives newest) v)
  early zero h = tt
  early (suc k) h =
      let g = get_early rs 1 k (omega arith) in
      subst IsForgotten (sym (get_front (ended_from d s 1 rs ++ lives) (option_to_list newest) k (let l = length_ends d s 1 rs in simp length-append (omega arith))
      ∙ get_front (ended_from d s 1 rs) lives k (let l = length_ends d s 1 rs in omega arith) ∙ g.1)) (g.0, refl)
    where
      get_early : (rs : List Reason) (v k : ℕ) → k < length rs → (r : Reason) × (slice_get (ended_from d s v rs) k ≡ Some (end_at d s (v + k) r))
      get_early [] v k h = absurd (omega arith)
      get_early (r ∷ rs) v zero h = (r, ap (λ n. Some (end_at d s n r)) (omega arith))
      get_early (r ∷ rs) v (suc k) h = let g = get_early rs (v + 1) k (omega arith) in (g.0, g.1 ∙ ap (λ n. Some (end_at d s n g.0)) (omega arith))

  -- the others
  pub late : (k : ℕ) → length rs ≤ k → of_version (lives_of d s rs lives newest) (suc k) ≡ slice_get (lives ++ option_to_list newest) (k - length rs)
  late k h =
      ap (λ z. slice_get z k) (append_assoc (ended_from d s 1 rs) lives (option_to_list newest))
      ∙ get_after (ended_from d s 1 rs) (lives ++ option_to_list newest) k (let l = length_ends d s 1 rs in omega arith)
      ∙ ap (λ n. slice_get (lives ++ option_to_list newest) (k - n)) (length_ends d s 1 rs)

  pub early_at : (k : ℕ) (r : Reason) → k < length rs → r ≡ get_or rs k r → of_version (lives_of d s rs lives newest) (suc k) ≡ Some (end_at d s (k + 1) r)
  early_at k r h e =
      get_front (ended_from d s 1 rs ++ lives) (option_to_list newest) k (let l = length_ends d s 1 rs in simp length-append (omega arith))
      ∙ get_front (ended_from d s 1 rs) lives k (let l = length_ends d s 1 rs in omega arith) ∙ go rs 1 k h e ∙ ap (λ n. Some (end_at d s n r)) (omega arith)
    where
      go : (rs : List Reason) (v k : ℕ) → k < length rs → r ≡ get_or rs k r → slice_get (ended_from d s v rs) k ≡ Some (end_at d s (v + k) r)
      go [] v k h e = absurd (omega arith)
      go (q ∷ rs) v zero h e = ap (λ z. Some (end_at d s v z)) (sym e) ∙ ap (λ n. Some (end_at d s n r)) (omega arith)
      go (q ∷ rs) v (suc k) h e = go rs (v + 1) k (omega arith) e ∙ ap (λ n. Some (end_at d s n r)) (omega arith)

  pub late_known : (now : List LifeState) (v n : ℕ) (es : List LifeState) (o : Option LifeState) → lives_of d s rs lives newest ≡ now → n + length rs + 1 ≡ v → es ≡ lives → o ≡ slice_get (es ++ option_to_list newest) n
      → o ≡ of_version now v
  late_known now zero n es o view e same h = absurd (omega arith)
  late_known now (suc k) n es o view e same h =
      h ∙ ap (λ l. slice_get (l ++ option_to_list newest) n) same ∙ ap (slice_get (lives ++ option_to_list newest)) (omega arith) ∙ sym (late k (omega arith)) ∙ ap (λ l. of_version l (suc k)) view

  pub early_known : (now : List LifeState) (v : ℕ) (r : Reason) → lives_of d s rs lives newest ≡ now → (v ≡ 0 → ⊥) → v - 1 < length rs → r ≡ get_or rs (v - 1) r → of_version now v ≡ Some (end_at d s v r)
  early_known now zero r view z h e = absurd (z refl)
  early_known now (suc k) r view z h e =
      let n : suc k - 1 ≡ k = omega arith in
      let f : r ≡ get_or rs k r = rw n at e in
      sym (ap (λ l. of_version l (suc k)) view) ∙ early_at k r (omega arith) f ∙ ap (λ n. Some (end_at d s n r)) (omega arith)

  -- an event -----------------------------------------------------------------------------------------

  length_past : length (ended_from d s 1 rs ++ lives) ≡ length rs + length lives
  length_past = length-append (ended_from d s 1 rs) lives ∙ ap (λ n. n + length lives) (length_ends d s 1 rs)

  pub seen_newest : (w : ℕ) (f : LifeState → LifeState) (x y : LifeState) → newest ≡ Some x → w ≡ length rs + length lives + 1 → y ≡ f x
      → (v : ℕ) → of_version (lives_of d s rs lives (Some y)) v ≡ cond (w == v) (option_map f (of_version (lives_of d s rs lives newest) v)) (of_version (lives_of d s rs lives newest) v)
  seen_newest w f x y e n fy v =
      version_push (ended_from d s 1 rs ++ lives) y w (n ∙ ap (λ m. m + 1) (sym length_past)) v
      ∙ go (w == v) refl
      ∙ ap (λ o. cond (w == v) (option_map f (of_version (lives_of d s rs lives o) v)) (of_version (lives_of d s rs lives o) v)) (sym e)
    where
      here : of_version (lives_of d s rs lives (Some x)) v ≡ cond (w == v) (Some x) (of_version (ended_from d s 1 rs ++ lives) v)
      here = version_push (ended_from d s 1 rs ++ lives) x w (n ∙ ap (λ m. m + 1) (sym length_past)) v

      go : (b : Bool) → (w == v) ≡ b
          → cond (w == v) (Some y) (of_version (ended_from d s 1 rs ++ lives) v)
          ≡ cond (w == v) (option_map f (of_version (lives_of d s rs lives (Some x)) v)) (of_version (lives_of d s rs lives (Some x)) v)
      go true m = rw (here, m) (ap Some fy)
      go false m = rw (here, m) refl

  over_version : (w : ℕ) → IfSome (of_version (ended_from d s 1 rs ++ lives) w) LifeIsOver
  over_version zero = tt
  over_version (suc k) = go (ended_from d s 1 rs ++ lives) k past_over
    where
      go : (xs : List LifeState) (k : ℕ) → AreOver xs → IfSome (slice_get xs k) LifeIsOver
      go [] k h = tt
      go (x ∷ xs) zero h = h.0
      go (x ∷ xs) (suc k) h = go xs k h.1

  -- it is not the newest
  pub unseen : (w : ℕ) (e : Event) → (newest ≡ None) ⊎ ((w ≡ length rs + length lives + 1 → ⊥)) → IfSome (of_version (lives_of d s rs lives newest) w) (MaySee e)
      → (v : ℕ) → of_version (lives_of d s rs lives newest) v ≡ cond (w == v) (option_map (life_after e) (of_version (lives_of d s rs lives newest) v)) (of_version (lives_of d s rs lives newest) v)
  unseen w e apart may v = go (w == v) refl
    where
      other : (o : Option LifeState) → (o ≡ None) ⊎ ((w ≡ length rs + length lives + 1 → ⊥)) → of_version (lives_of d s rs lives o) w ≡ of_version (ended_from d s 1 rs ++ lives) w
      other None h = ap (λ z. of_version z w) (append-nil _)
      other (Some x) (inl h) = absurd (cc)
      other (Some x) (inr h) = version_other (ended_from d s 1 rs ++ lives) x w (λ n. h (n ∙ ap (λ m. m + 1) length_past))

      same : (o : Option LifeState) → IfSome o (MaySee e) → IfSome o LifeIsOver → option_map (life_after e) o ≡ o
      same None m h = refl
      same (Some l) m h = ap Some (shown_over e l m h)

      stays : option_map (life_after e) (of_version (lives_of d s rs lives newest) w) ≡ of_version (lives_of d s rs lives newest) w
      stays = same (of_version (lives_of d s rs lives newest) w) may (subst (λ o. IfSome o LifeIsOver) (sym (other newest apart)) (over_version w))

      go : (b : Bool) → (w == v) ≡ b → of_version (lives_of d s rs lives newest) v ≡ cond (w == v) (option_map (life_after e) (of_version (lives_of d s rs lives newest) v)) (of_version (lives_of d s rs lives newest) v)
      go false m = rw m refl
      go true m = rw m (subst (λ n. of_version (lives_of d s rs lives newest) n ≡ option_map (life_after e) (of_version (lives_of d s rs lives newest) n)) (eqb-true w v m) (sym stays))

  -- the newest is another life of the same process
  pub kept_slot : (x y : LifeState) → newest ≡ Some x → y.pid ≡ x.pid → IsSlot d s rs capacity lives (Some y)
  kept_slot x y e p = record {
    over = is.over;
    placed = placed_append d s (length rs + 1) lives (y ∷ []) lives_placed (p ∙ newest_placed x e, tt);
    few = subst (λ o. length rs + length lives + length (option_to_list o) < 2 ^ 32) e is.few;
    room = subst (λ o. length rs + length lives + length (option_to_list o) ≤ capacity) e is.room;
  }

  pub newest_at : (w : ℕ) (x : LifeState) → newest ≡ Some x → w ≡ length rs + length lives + 1 → of_version (lives_of d s rs lives newest) w ≡ Some x
  newest_at w x e n =
      ap (λ o. of_version (lives_of d s rs lives o) w) e ∙ version_push (ended_from d s 1 rs ++ lives) x w (n ∙ ap (λ m. m + 1) (sym length_past)) w
      ∙ ap (λ b. cond b (Some x) (of_version (ended_from d s 1 rs ++ lives) w)) (eq-eqb w w refl)

  -- one more -----------------------------------------------------------------------------------------

  pub pushed_lives : (q : Pid) (l : LifeState) → l.pid ≡ q → IsNextOf q (lives_of d s rs lives newest)
      → lives_of q.shard q.slot rs (lives ++ option_to_list newest) (Some l) ≡ lives_of d s rs lives newest ++ l ∷ []
  pushed_lives q l p next =
      ap (λ z. (z ++ (lives ++ option_to_list newest)) ++ l ∷ []) (sym (ends_same d s q.shard q.slot 1 rs (lives ++ option_to_list newest) (subst (AreVersions q.shard q.slot 1) (append_assoc (ended_from d s 1 rs) lives (option_to_list newest)) next.placed)))
      ∙ ap (λ z. z ++ l ∷ []) (sym (append_assoc (ended_from d s 1 rs) lives (option_to_list newest)))

  pub pushed_slot : (q : Pid) (l : LifeState) (room : ℕ) → l.pid ≡ q → q.version < 2 ^ 32 → IsNextOf q (lives_of d s rs lives newest) → length rs + (length lives + 2) ≤ room
      → IsSlot q.shard q.slot rs room (lives ++ option_to_list newest) (Some l)
  pushed_slot q l room p small next more = record {
    over = over_append lives (option_to_list newest) is.over (newest_over newest next.over);
    placed = placed_append q.shard q.slot (length rs + 1) (lives ++ option_to_list newest) (l ∷ [])
        (subst (λ n. AreVersions q.shard q.slot n (lives ++ option_to_list newest)) (let k = length_ends d s 1 rs in omega arith)
        (placed_rest q.shard q.slot 1 (ended_from d s 1 rs) (lives ++ option_to_list newest) (subst (AreVersions q.shard q.slot 1) (append_assoc (ended_from d s 1 rs) lives (option_to_list newest)) next.placed)))
        (p ∙ ap (pid_of_slot q.shard q.slot) (next.next ∙ ap (λ n. n + 1) (length_lives d s rs lives newest) ∙ simp length-append (omega arith)), tt);
    few = let n = next.next in let k = length_lives d s rs lives newest in simp length-append (omega arith);
    room = let o = newest_one newest in simp length-append (omega arith);
  }
    where
      newest_over : (o : Option LifeState) → HasEnded ((ended_from d s 1 rs ++ lives) ++ option_to_list o) → AreOver (option_to_list o)
      newest_over None h = tt
      newest_over (Some x) h = (last_ended (ended_from d s 1 rs ++ lives) x h, tt)

      newest_one : (o : Option LifeState) → length (option_to_list o) ≤ 1
      newest_one None = omega arith
      newest_one (Some x) = omega arith

  -- one less -----------------------------------------------------------------------------------------

  pub newest_lives : (xs : List LifeState) (x : LifeState) → lives_of d s rs lives newest ≡ xs ++ x ∷ [] → is_ended x.phase ≡ false → newest ≡ Some x
  newest_lives xs x e h = go newest refl
    where
      go : (o : Option LifeState) → newest ≡ o → newest ≡ Some x
      go None n =
          let k : ended_from d s 1 rs ++ lives ≡ xs ++ x ∷ [] = sym (append-nil _) ∙ ap (λ o. (ended_from d s 1 rs ++ lives) ++ option_to_list o) (sym n) ∙ e in
          let z : is_ended x.phase ≡ true = over_last xs x (subst AreOver k past_over) in
          absurd (both_ways _ h z)
      go (Some y) n =
          let k : (ended_from d s 1 rs ++ lives) ++ y ∷ [] ≡ xs ++ x ∷ [] = ap (λ o. (ended_from d s 1 rs ++ lives) ++ option_to_list o) (sym n) ∙ e in
          n ∙ ap Some (snoc (ended_from d s 1 rs ++ lives) xs y x k).1

  pub popped_lives : (xs : List LifeState) (x z : LifeState) (left : List LifeState) (o : Option LifeState) → newest ≡ Some z → lives ≡ left ++ option_to_list o → lives_of d s rs lives newest ≡ xs ++ x ∷ []
      → lives_of d s rs left o ≡ xs
  popped_lives xs x z left o n e h =
      append_assoc (ended_from d s 1 rs) left (option_to_list o) ∙ ap (λ l. ended_from d s 1 rs ++ l) (sym e)
      ∙ (snoc (ended_from d s 1 rs ++ lives) xs z x (ap (λ o. (ended_from d s 1 rs ++ lives) ++ option_to_list o) (sym n) ∙ h)).0

  pub popped_slot : (left : List LifeState) (o : Option LifeState) → lives ≡ left ++ option_to_list o → IsSlot d s rs capacity left o
  popped_slot left o e =
      let n : length lives ≡ length left + length (option_to_list o) = ap length e ∙ length-append left (option_to_list o) in
      let f = is.few in
      let r = is.room in
      record {
        over = over_front left (option_to_list o) (subst AreOver e is.over);
        placed = subst (AreVersions d s (length rs + 1)) e (placed_front d s (length rs + 1) lives (option_to_list newest) is.placed);
        few = omega arith;
        room = omega arith;
      }

  -- the latest end -----------------------------------------------------------------------------------

  pub living_fits : living_of newest ≤ length (lives_of d s rs lives newest)
  living_fits = let n = length_lives d s rs lives newest in let k = at_most newest in omega arith
    where
      at_most : (o : Option LifeState) → living_of o ≤ length (option_to_list o)
      at_most None = omega arith
      at_most (Some l) = go (is_ended l.phase) refl
        where
          go : (b : Bool) → is_ended l.phase ≡ b → cond (is_ended l.phase) 0 1 ≤ 1
          go true e = rw e (omega arith)
          go false e = rw e (omega arith)

  past_placed : AreVersions d s 1 (ended_from d s 1 rs ++ lives)
  past_placed = placed_front d s 1 (ended_from d s 1 rs ++ lives) (option_to_list newest) all_placed

  -- those that have ended, and where the last of them stands
  overs : (o : Option LifeState) → newest ≡ o → (xs : List LifeState) × AreOver xs × AreVersions d s 1 xs × (length xs + living_of o ≡ length rs + length lives + length (option_to_list o))
      × (latest_end (lives_of d s rs lives o) ≡ latest_end xs)
  overs None e = (ended_from d s 1 rs ++ lives, past_over, past_placed, let k = length_past in omega arith, ap latest_end (append-nil (ended_from d s 1 rs ++ lives)))
  overs (Some l) e = go (is_ended l.phase) refl
    where
      go : (b : Bool) → is_ended l.phase ≡ b → (xs : List LifeState) × AreOver xs × AreVersions d s 1 xs × (length xs + living_of (Some l) ≡ length rs + length lives + 1)
          × (latest_end (lives_of d s rs lives (Some l)) ≡ latest_end xs)
      go true h = (
        lives_of d s rs lives (Some l),
        over_append (ended_from d s 1 rs ++ lives) (l ∷ []) past_over (h, tt),
        subst (λ o. AreVersions d s 1 (lives_of d s rs lives o)) e all_placed,
        (let k = length_lives d s rs lives (Some l) in rw h (omega arith)),
        refl,
      )
      go false h = (ended_from d s 1 rs ++ lives, past_over, past_placed, (let k = length_past in rw h (omega arith)), latest_living (ended_from d s 1 rs ++ lives) l h)

  pub latest_none : (n : ℕ) → n ≡ length (lives_of d s rs lives newest) - living_of newest → n ≡ 0 → latest_end (lives_of d s rs lives newest) ≡ None
  latest_none n e z =
      let o = overs newest refl in
      let k = length_lives d s rs lives newest in
      o.4 ∙ ap latest_end (empty o.0 (let h = o.3 in omega arith))
    where
      empty : (xs : List LifeState) → length xs ≡ 0 → xs ≡ []
      empty [] h = refl
      empty (x ∷ xs) h = absurd (omega arith)

  pub latest_some : (n : ℕ) → n ≡ length (lives_of d s rs lives newest) - living_of newest → 0 < n → latest_end (lives_of d s rs lives newest) ≡ Some (pid_of_slot d s n)
  latest_some n e z =
      let o = overs newest refl in
      let k = length_lives d s rs lives newest in
      let f = living_fits in
      o.4 ∙ latest_over d s 1 o.0 n o.1 o.2 (let h = o.3 in omega arith) (let h = o.3 in omega arith)

  -- the pids -----------------------------------------------------------------------------------------

  pub pid_more : (k : ℕ) → k < length (lives_of d s rs lives newest) → pids_of (take (k + 1) (lives_of d s rs lives newest)) ≡ pids_of (take k (lives_of d s rs lives newest)) ++ pid_of_slot d s (k + 1) ∷ []
  pid_more k h = go 1 (lives_of d s rs lives newest) k h all_placed ∙ ap (λ n. pids_of (take k (lives_of d s rs lives newest)) ++ pid_of_slot d s n ∷ []) (omega arith)
    where
      go : (v : ℕ) (xs : List LifeState) (k : ℕ) → k < length xs → AreVersions d s v xs → pids_of (take (k + 1) xs) ≡ pids_of (take k xs) ++ pid_of_slot d s (v + k) ∷ []
      go v [] k h p = absurd (omega arith)
      go v (x ∷ xs) zero h p = ap (λ q. q ∷ []) (p.0 ∙ ap (pid_of_slot d s) (omega arith))
      go v (x ∷ xs) (suc k) h p =
          let e : suc k + 1 ≡ suc (k + 1) = omega arith in
          ap (λ n. pids_of (take n (x ∷ xs))) e ∙ ap (λ z. x.pid ∷ z) (go (v + 1) xs k (omega arith) p.1 ∙ ap (λ n. pids_of (take k xs) ++ pid_of_slot d s n ∷ []) (omega arith))
