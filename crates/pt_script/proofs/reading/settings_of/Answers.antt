-- `settings_of`: its clause `value`.
use Rattle.std.proofs.Common.{◌≡◌, ℕ, Ok, ◌∷◌, [], sym, refl}
use Rattle.std.specs.Prelude.{codes}
use Rattle.serde_json.specs.Data.{Data}
use Rattle.serde_json.specs.Find.{get}
use Rattle.serde_json.specs.View.{view}
use Rattle.pt_script.specs.Members.{known_members, whole_number, required, optional_member}
use Rattle.pt_script.specs.Scripts.{settings}
use Rattle.pt_script.specs.declared.limits.TheConstants.{DEFAULT_BUDGET, DEFAULT_LANE, DEFAULT_SLOTS, MAX_BUDGET, MAX_DESKS, MAX_FORMAT, MAX_LANE, MAX_SLOTS}
use Rattle.pt_script.proofs.reading.settings_of.Goals as goal

-- the settings that six members say
all_read : (d : Data) (format desks slots top lane budget : ℕ)
    → known_members (codes "format" ∷ codes "desks" ∷ codes "slots" ∷ codes "top" ∷ codes "lane" ∷ codes "budget" ∷ codes "processes" ∷ []) d ≡ Ok tt
    → required (whole_number 1 MAX_FORMAT) (get (codes "format") d) ≡ Ok format
    → required (whole_number 1 MAX_DESKS) (get (codes "desks") d) ≡ Ok desks
    → optional_member DEFAULT_SLOTS (whole_number 1 MAX_SLOTS) (get (codes "slots") d) ≡ Ok slots
    → optional_member 4294967295 (whole_number 1 4294967295) (get (codes "top") d) ≡ Ok top
    → optional_member DEFAULT_LANE (whole_number 1 MAX_LANE) (get (codes "lane") d) ≡ Ok lane
    → optional_member DEFAULT_BUDGET (whole_number 1 MAX_BUDGET) (get (codes "budget") d) ≡ Ok budget
    → settings d ≡ Ok (record { format = format; desks = desks; slots = slots; top_version = top; lane = lane; budget = budget })
unfolding settings
all_read d format desks slots top lane budget names f s l t n b = rw (names, f, s, l, t, n, b) refl

pub returns-clause-value : goal.returns-clause-value
returns-clause-value c =
    sym (all_read (view c.args.value.now) _ _ _ _ _ _ c.in_ok-known.ensures
    (sym (rw c.get.ensures at c.in_ok-format.ensures.value))
    (sym (rw c.get-2.ensures at c.in_ok-desks.ensures.value))
    (sym (rw c.get-3.ensures at c.in_ok-slots.ensures.value))
    (sym (rw c.get-4.ensures at c.in_ok-top_version.ensures.value))
    (sym (rw c.get-5.ensures at c.in_ok-lane.ensures.value))
    (sym (rw c.get-6.ensures at c.in_ok-budget.ensures.value)))
