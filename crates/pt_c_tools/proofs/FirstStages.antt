-- What the stages that need no crew come to.
use Rattle.std.proofs.Common.{◌≡◌, ◌≢◌, ℕ, zero, suc, Bool, true, false, List, Some, None, refl, ◌∙◌, subst, arith}
use Rattle.std.specs.Prelude.{◌||◌, MatchBool}
use Rattle.pt_desk.specs.DeskState.{DeskState}
use Rattle.pt_gathered.specs.Gathered.{GatheredState}
use Rattle.pt_c_desks.specs.declared.quiet_node.QuietNode.{QuietNode}
use Rattle.pt_c_values.specs.Codes.{filled}
use Rattle.pt_c_values.specs.Places.{HandlePlace, values}
use Rattle.pt_c_tools.specs.Nodes.{GathersAs, SettlesAs}
use Rattle.pt_c_values.specs.Filling.{IfEmpty, IfNone}
use Rattle.pt_c_tools.specs.FirstStages.{GathersFirst, IfPassed, SettlesFirst, has}

pub refused : (n code : ℕ) (kept P : Type 0) → n ≢ 0 → code ≡ n → kept → IfPassed n code kept P
refused zero code kept P some is k = absurd (some refl)
refused (suc n) code kept P some is k = (is, k)

pub passed : (n code : ℕ) (kept P : Type 0) → n ≡ 0 → P → IfPassed n code kept P
passed zero code kept P none p = p
passed (suc n) code kept P none p = absurd (omega (arith, none))

match_true : (b : Bool) (P Q : Type 0) → b ≡ true → P → MatchBool b P Q
match_true true P Q is p = p
match_true false P Q is p = absurd (cc is)

match_false : (b : Bool) (P Q : Type 0) → b ≡ false → Q → MatchBool b P Q
match_false false P Q is q = q
match_false true P Q is q = absurd (cc is)

or_first : (a b : Bool) → a ≡ true → (a || b) ≡ true
or_first true b is = refl
or_first false b is = absurd (cc is)

or_second : (a b : Bool) → a ≡ false → (a || b) ≡ b
or_second false b is = refl
or_second true b is = absurd (cc is)

-- the first stage --------------------------------------------------------------------------------

module _ (code : ℕ) (old new : List (HandlePlace DeskState)) (before after : HandlePlace GatheredState) (settled : HandlePlace QuietNode) where
  pub was_gathered : has before ≡ true → new ≡ old → after ≡ before → IfNone (values old) (code ≡ 0) (code ≡ filled) → GathersFirst code old new before after settled
  was_gathered is same out how = match_true (has before || has settled) _ _ (or_first (has before) (has settled) is) (same, out, how)

  pub was_settled : has before ≡ false → has settled ≡ true → new ≡ old → after ≡ before → IfNone (values old) (code ≡ 0) (code ≡ filled) → GathersFirst code old new before after settled
  was_settled none is same out how = match_true (has before || has settled) _ _ (or_second (has before) (has settled) none ∙ is) (same, out, how)

  pub gathers_now : has before ≡ false → has settled ≡ false → (start : HandlePlace GatheredState) → start ≡ before → GathersAs code old new start after → GathersFirst code old new before after settled
  gathers_now none nor start is gathers =
      match_false (has before || has settled) _ _ (or_second (has before) (has settled) none ∙ nor)
      (subst (λ (p : HandlePlace GatheredState). GathersAs code old new p after) is gathers)

-- the second stage -------------------------------------------------------------------------------

module _ (code : ℕ) (old new : HandlePlace GatheredState) (before after : HandlePlace QuietNode) where
  pub settles_now : has before ≡ false → (start : HandlePlace QuietNode) → start ≡ before → SettlesAs false code old new start after → SettlesFirst code old new before after
  settles_now none start is settles =
      match_false (has before) _ _ none (subst (λ (p : HandlePlace QuietNode). SettlesAs false code old new p after) is settles)

if_full : (p : HandlePlace GatheredState) (P Q : Type 0) → has p ≡ true → Q → IfEmpty p P Q
if_full (Some (Some s)) P Q is q = q
if_full (Some None) P Q is q = absurd (cc is)
if_full None P Q is q = absurd (cc is)

if_empty : (p : HandlePlace GatheredState) (P Q : Type 0) → has p ≡ false → P → IfEmpty p P Q
if_empty (Some (Some s)) P Q is x = absurd (cc is)
if_empty (Some None) P Q is x = x
if_empty None P Q is x = x

module _ (old new : HandlePlace GatheredState) (before after : HandlePlace QuietNode) where
  pub both_full : has before ≡ true → has old ≡ true → new ≡ old → after ≡ before → SettlesFirst filled old new before after
  both_full is two same out = match_true (has before) _ _ is (same, out, if_full old _ _ two refl)

  pub settled_before : has before ≡ true → has old ≡ false → new ≡ old → after ≡ before → SettlesFirst 0 old new before after
  settled_before is one same out = match_true (has before) _ _ is (same, out, if_empty old _ _ one refl)
