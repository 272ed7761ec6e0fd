-- Crews that begin again, one after the other.
use Rattle.std.proofs.Common.{◌≡◌, ◌≢◌, ◌+◌, ℕ, ◌<◌, ◌≤◌, ⊎_elim, List, [], length, get_or, set, Result, Ok, Err, OnErr, refl, sym, ap, ◌∙◌, subst, append-nil, arith}
use Rattle.std.proofs.lemmas.Bool.{cases_eq, cases_lt}
use Rattle.std.proofs.lemmas.List.{get_or-set_other, get_or-set_same, get_or_default, length-set}
use Rattle.pt_crew.specs.declared.crew.Crew.{Crew}
use Rattle.pt_crew.specs.Crews.{queue}
use Rattle.pt_epochs.specs.Epochs.{CrewBegins, CrewMayBegin, EachCrew}

pub on_err : {A E : Type 0} (r : Result A E) (P : Type 0) → P → OnErr r P
on_err (Ok a) P p = tt
on_err (Err e) P p = p

module _ {B : Type 0} where
  -- the crews below a place have begun again, and the others are as they were
  pub record Begun (place : ℕ) (old new : List (Crew B)) : Type 0 where
    pub count : length new ≡ length old
    pub begun : (d : ℕ) (c : Crew B) → d < place → CrewBegins (get_or old d c) (get_or new d c)
    pub rest : (d : ℕ) (c : Crew B) → place ≤ d → get_or new d c ≡ get_or old d c

  may : (old new : Crew B) → CrewBegins old new → CrewMayBegin old new
  may old new b = record { roles = b.roles; longer = b.longer; rest = b.rest }

  stays : (c : Crew B) → CrewMayBegin c c
  stays c = record { roles = λ p. refl; longer = ([], sym (append-nil (queue c))); rest = record { waiting = refl; left = refl; refused = refl; rounds = refl; time = refl } }

  module _ (place : ℕ) (old now : List (Crew B)) (crew later : Crew B) (within : place < length now) (is : crew ≡ get_or now place crew) (b : Begun place old now) where
    was : (d : ℕ) (c : Crew B) → d ≡ place → crew ≡ get_or old d c
    was d c same = is ∙ get_or_default now place crew c within ∙ b.rest place c (omega arith) ∙ ap (λ k. get_or old k c) (sym same)

    here : (d : ℕ) (c : Crew B) → d ≡ place → later ≡ get_or (set now place later) d c
    here d c same = sym (get_or-set_same now place later c within) ∙ ap (λ k. get_or (set now place later) k c) (sym same)

    both : (Does : Crew B → Crew B → Type 0) (d : ℕ) (c : Crew B) → d ≡ place → Does crew later → Does (get_or old d c) (get_or (set now place later) d c)
    both Does d c same does = subst (λ (x : Crew B). Does x (get_or (set now place later) d c)) (was d c same) (subst (λ (y : Crew B). Does crew y) (here d c same) does)

    other : (Does : Crew B → Crew B → Type 0) (d : ℕ) (c : Crew B) → d ≢ place → Does (get_or old d c) (get_or now d c) → Does (get_or old d c) (get_or (set now place later) d c)
    other Does d c apart does = subst (λ (y : Crew B). Does (get_or old d c) y) (sym (get_or-set_other now place d later c apart)) does

    pub begun_next : CrewBegins crew later → Begun (place + 1) old (set now place later)
    begun_next does = record {
      count = length-set now place later ∙ b.count;
      begun = λ d c l. ⊎_elim (λ same. both (λ x y. CrewBegins x y) d c same does) (λ apart. other (λ x y. CrewBegins x y) d c apart (b.begun d c (omega (arith, l, apart)))) (cases_eq d place);
      rest = λ d c l. get_or-set_other now place d later c (omega (arith, l)) ∙ b.rest d c (omega (arith, l));
    }

    pub begun_failed : CrewMayBegin crew later → EachCrew CrewMayBegin old (set now place later)
    begun_failed does = record {
      count = length-set now place later ∙ b.count;
      each = λ d c l. ⊎_elim (λ same. both (λ x y. CrewMayBegin x y) d c same does) (λ apart. other (λ x y. CrewMayBegin x y) d c apart (beside d c apart)) (cases_eq d place);
    }
      where
        beside : (d : ℕ) (c : Crew B) → d ≢ place → CrewMayBegin (get_or old d c) (get_or now d c)
        beside d c apart = ⊎_elim
            (λ (below : d < place). may (get_or old d c) (get_or now d c) (b.begun d c below))
            (λ (above : place ≤ d). subst (λ (y : Crew B). CrewMayBegin (get_or old d c) y) (sym (b.rest d c above)) (stays (get_or old d c)))
            (cases_lt d place)
