-- A table that has forgotten tells the start that its history leaves behind.
use Rattle.std.proofs.Common.{◌≡◌, ℕ, zero, suc, ◌+◌, ◌<◌, ◌≤◌, false, Option, Some, None, List, [], ◌∷◌, ◌++◌, map, take, drop, set, get_or, length, refl, ap, sym, ◌∙◌, subst, arith}
use Rattle.std.specs.Prelude.{IfSome, filter_map, option_to_list}
use Rattle.std.proofs.lemmas.List.{take_more}
use Rattle.std.proofs.lemmas.List.Elements.{filter_map-append}
use Rattle.std.specs.Option.{option_map}
use Rattle.pt_signal.specs.declared.pid.Pid.{Pid}
use Rattle.pt_events.specs.History.{Past, Start, Phase, unborn, living, ended, at_start, life, state_of, is_unborn}
use Rattle.pt_events.specs.Leaving.{outcome, start_after}
use Rattle.pt_events.specs.Forgetting.{reasonless}
use Rattle.pt_events.proofs.Leaving.{leaves_each}
use Rattle.pt_events.proofs.Forgetting.{reasonless_unborn, reasonless_ended}
use Rattle.pt_accounts.specs.LifeState.{LifeState}
use Rattle.pt_accounts.specs.Table.{Slots, of_version, slot_at, life_at, TableTells}
use Rattle.pt_accounts.specs.DeskLives.{DeskTable, forgotten, all_forgotten, bare, all_bare, latest_end, BeginsAnew, BeginsBare}
use Rattle.pt_accounts.specs.SlotState.{SlotsAreCounted, IsCounted}
use Rattle.pt_accounts.proofs.Told.{told_at, all_told}

module _ (f : LifeState → LifeState) where
  pub get_map : (lives : List LifeState) (v : ℕ) → of_version (map f lives) v ≡ option_map f (of_version lives v)
  get_map lives zero = refl
  get_map [] (suc k) = refl
  get_map (l ∷ lives) (suc zero) = refl
  get_map (l ∷ lives) (suc (suc k)) = get_map lives (suc k)

  pub slot_map : (slots : Slots) (s : ℕ) → slot_at (map (λ lives. map f lives) slots) s ≡ map f (slot_at slots s)
  slot_map [] s = refl
  slot_map (lives ∷ slots) zero = refl
  slot_map (lives ∷ slots) (suc s) = slot_map slots s

  at_map : (slots : Slots) (s v : ℕ) → life_at (map (λ lives. map f lives) slots) s v ≡ option_map f (life_at slots s v)
  at_map slots s v = ap (λ (l : List LifeState). of_version l v) (slot_map slots s) ∙ get_map (slot_at slots s) v

-- one process --------------------------------------------------------------------------------------

outcome_born : (f : Phase) → is_unborn f ≡ false → is_unborn (outcome f) ≡ false
outcome_born unborn h = h
outcome_born (living s) h = refl
outcome_born (ended r s) h = refl

tells_anew : (start : Start) (past : Past) (p : Pid) (o : Option LifeState) → TableTells start past p o → TableTells (start_after start past) [] p (option_map forgotten o)
tells_anew start past p None h = (leaves_each start past p ∙ ap outcome h.0, refl)
tells_anew start past p (Some l) h = (
  ap forgotten h.0 ∙ ap (λ (f : Phase). record { pid = p; phase = f; taken = 0 }) (sym (leaves_each start past p)),
  ap is_unborn (leaves_each start past p) ∙ outcome_born (life start past p) h.1,
)

pub begins_anew : (t : DeskTable) → BeginsAnew t (all_forgotten t)
begins_anew t start desk past h = (
  h.0,
  all_told (start_after start past) desk (map (λ lives. map forgotten lives) t.slots) []
      (λ p s. subst (TableTells (start_after start past) [] p) (sym (at_map forgotten t.slots p.slot p.version)) (tells_anew start past p (life_at t.slots p.slot p.version) (told_at start desk t.slots past p h.1 s))),
)

-- the counts fall ----------------------------------------------------------------------------------

waits_less : (f : Phase) → length (state_of (outcome f)).waiting ≤ length (state_of f).waiting
waits_less unborn = omega arith
waits_less (living s) = omega arith
waits_less (ended r s) = omega arith

pub counted_forgotten : (n : ℕ) (slots : Slots) → SlotsAreCounted n slots → SlotsAreCounted n (map (λ lives. map forgotten lives) slots)
counted_forgotten n slots c s v = subst (λ o. IfSome o (IsCounted n)) (sym (at_map forgotten slots s v)) (go (life_at slots s v) (c s v))
  where
    go : (o : Option LifeState) → IfSome o (IsCounted n) → IfSome (option_map forgotten o) (IsCounted n)
    go None k = tt
    go (Some l) k = let w = waits_less l.phase in omega (arith, k)

-- without reasons ----------------------------------------------------------------------------------

tells_bare : (start next : Start) (past : Past) (p : Pid) (o : Option LifeState) → at_start next p ≡ reasonless (life start past p) → TableTells start past p o → TableTells next [] p (option_map bare o)
tells_bare start next past p None same h = (same ∙ ap reasonless h.0, refl)
tells_bare start next past p (Some l) same h = (
  ap bare h.0 ∙ ap (λ (f : Phase). record { pid = p; phase = f; taken = 0 }) (sym same),
  ap is_unborn same ∙ reasonless_unborn (life start past p) ∙ h.1,
)

pub begins_bare : (t : DeskTable) → BeginsBare t (all_bare t)
begins_bare t start next desk past h same = (
  h.0,
  all_told next desk (map (λ lives. map bare lives) t.slots) []
      (λ p s. subst (TableTells next [] p) (sym (at_map bare t.slots p.slot p.version)) (tells_bare start next past p (life_at t.slots p.slot p.version) (same p s) (told_at start desk t.slots past p h.1 s))),
)

waits_bare : (f : Phase) → length (state_of (reasonless f)).waiting ≤ length (state_of f).waiting
waits_bare unborn = omega arith
waits_bare (living s) = omega arith
waits_bare (ended r s) = omega arith

pub counted_bare : (n : ℕ) (slots : Slots) → SlotsAreCounted n slots → SlotsAreCounted n (map (λ lives. map bare lives) slots)
counted_bare n slots c s v = subst (λ o. IfSome o (IsCounted n)) (sym (at_map bare slots s v)) (go (life_at slots s v) (c s v))
  where
    go : (o : Option LifeState) → IfSome o (IsCounted n) → IfSome (option_map bare o) (IsCounted n)
    go None k = tt
    go (Some l) k = let w = waits_bare l.phase in omega (arith, k)

latest_bare : (lives : List LifeState) → latest_end (map bare lives) ≡ latest_end lives
latest_bare [] = refl
latest_bare (l ∷ lives) = rw (latest_bare lives, reasonless_ended l.phase) refl

pub latest_bares : (slots : Slots) → filter_map latest_end (map (λ lives. map bare lives) slots) ≡ filter_map latest_end slots
latest_bares [] = refl
latest_bares (lives ∷ slots) = go (latest_end lives) refl (latest_bares slots)
  where
    go : (o : Option Pid) → latest_end lives ≡ o → filter_map latest_end (map (λ lives. map bare lives) slots) ≡ filter_map latest_end slots
        → filter_map latest_end (map bare lives ∷ map (λ lives. map bare lives) slots) ≡ filter_map latest_end (lives ∷ slots)
    go None h rest = rw (latest_bare lives, h) rest
    go (Some p) h rest = rw (latest_bare lives, h) (ap (λ z. p ∷ z) rest)

-- slot after slot ----------------------------------------------------------------------------------

module _ (g : LifeState → LifeState) where
  pub forget_step : (ys : Slots) (i : ℕ) (x y : List LifeState) → i < length ys → x ≡ get_or (map (λ l. map g l) (take i ys) ++ drop i ys) i x → y ≡ map g x
      → set (map (λ l. map g l) (take i ys) ++ drop i ys) i y ≡ map (λ l. map g l) (take (i + 1) ys) ++ drop (i + 1) ys
  forget_step [] i x y h e f = absurd (omega arith)
  forget_step (z ∷ ys) zero x y h e f = ap (λ l. l ∷ ys) (f ∙ ap (map g) e)
  forget_step (z ∷ ys) (suc i) x y h e f =
      let n : suc i + 1 ≡ suc (i + 1) = omega arith in
      ap (λ l. map g z ∷ l) (forget_step ys i x y (omega arith) e f) ∙ ap (λ n. map (λ l. map g l) (take n (z ∷ ys)) ++ drop n (z ∷ ys)) (sym n)

-- the latest ends, slot after slot -----------------------------------------------------------------

pub ends_more : (slots : Slots) (k : ℕ) (x : List LifeState) → k < length slots → x ≡ get_or slots k x → filter_map latest_end (take (k + 1) slots) ≡ filter_map latest_end (take k slots) ++ option_to_list (latest_end x)
ends_more slots k x h e =
    ap (filter_map latest_end) (take_more slots k x h ∙ ap (λ z. take k slots ++ z ∷ []) (sym e)) ∙ filter_map-append latest_end (take k slots) (x ∷ [])
    ∙ ap (λ z. filter_map latest_end (take k slots) ++ z) (one (latest_end x) refl)
  where
    one : (o : Option Pid) → latest_end x ≡ o → filter_map latest_end (x ∷ []) ≡ option_to_list (latest_end x)
    one None h = rw h refl
    one (Some p) h = rw h refl
