-- A script on one desk for each of its processes is sound.
use Rattle.std.proofs.Common.{◌≡◌, ℕ, zero, suc, ◌+◌, ◌<◌, ◌≤◌, List, [], ◌∷◌, ◌++◌, refl, ap, sym, ◌∙◌, get_or, set, take, drop, length, zero-add, add-one, subst, arith}
use Rattle.std.proofs.lemmas.Grind.{common_steps}
use Rattle.std.proofs.lemmas.List.Elements.{All-nil, All-cons, All-head, All-tail}
use Rattle.std.specs.List.{All}
use Rattle.std.specs.Prelude.{max}
use Rattle.pt_script.specs.Plans.{Whole}
use Rattle.pt_script.specs.Sound.{IsSoundScript, TopFits}
use Rattle.pt_script.specs.Spreading.{placed}
use Rattle.pt_script.specs.declared.limits.TheConstants.{MAX_DESKS}
use Rattle.pt_script.specs.declared.values.Top.{Top}

-- one more process is put on its desk
pub one_more : (first i desk : ℕ) (ts : List Top) (d : Top) → i < length ts → desk ≡ first + i → set (placed first (take i ts) ++ drop i ts) i (record { process = (get_or (placed first (take i ts) ++ drop i ts) i d).process; desk = desk }) ≡ placed first (take (suc i) ts) ++ drop (suc i) ts
one_more first i desk [] d h is = absurd (omega (arith, h))
one_more first zero desk (t ∷ ts) d h is =
    let same : desk ≡ first = omega (arith, is) in
    ap (λ desk. record t { desk = desk } ∷ ts) same
one_more first (suc i) desk (t ∷ ts) d h is =
    let later = one_more (first + 1) i desk ts d (omega (arith, h)) (omega (arith, is)) in
    ap (λ rest. record t { desk = first } ∷ rest) later

pub next_placed : (i : ℕ) (ts now : List Top) (d : Top) → i < length ts → now ≡ placed 0 (take i ts) ++ drop i ts → set now i (record { process = (get_or now i d).process; desk = i }) ≡ placed 0 (take (i + 1) ts) ++ drop (i + 1) ts
next_placed i ts now d h is =
    ap (λ them. set them i (record { process = (get_or them i d).process; desk = i })) is ∙ one_more 0 i i ts d h (sym (zero-add i))
    ∙ ap (λ n. placed 0 (take n ts) ++ drop n ts) (sym (add-one i))

pub length-placed : (first : ℕ) (ts : List Top) → length (placed first ts) ≡ length ts
length-placed first [] = refl
length-placed first (t ∷ ts) = ap suc (length-placed (first + 1) ts)

pub placed_fit : (n desks first most : ℕ) (ts : List Top) → All (TopFits n desks) ts → first + length ts ≤ most → All (TopFits n most) (placed first ts)
placed_fit n desks first most [] fit h = All-nil (TopFits n most)
placed_fit n desks first most (t ∷ ts) fit h =
    All-cons (TopFits n most) (record t { desk = first }) (placed (first + 1) ts) ((All-head (TopFits n desks) t ts fit).0, omega (arith, h))
    (placed_fit n desks (first + 1) most ts (All-tail (TopFits n desks) t ts fit) (omega (arith, h)))

-- what is written over a whole list is that list
pub written_over : (n : ℕ) (old new : List Top) → n ≡ length old → length new ≡ length old → take n (new ++ drop (length new) old) ≡ new
written_over n old new whole same = grind (arith, common_steps)

pub own_desks_sound : (w : Whole) (desks count : ℕ) (tops : List Top) → IsSoundScript w → count ≡ length w.tops → count ≤ MAX_DESKS → desks ≡ max count 1 → tops ≡ placed 0 w.tops → IsSoundScript (record { settings = record w.settings { desks = desks }; tops = tops; processes = w.processes })
own_desks_sound w desks count tops sound all few some are = record {
  settings = record {
    format = sound.settings.format;
    desks = (omega (arith, some), omega (arith, some, few));
    slots = sound.settings.slots;
    top_version = sound.settings.top_version;
    lane = sound.settings.lane;
    budget = sound.settings.budget;
  };
  tops = subst (All (TopFits (length w.processes) desks)) (sym are)
      (placed_fit (length w.processes) w.settings.desks 0 desks w.tops sound.tops (omega (arith, all, some)));
  lists = sound.lists;
  processes = sound.processes;
  operations = sound.operations;
}
