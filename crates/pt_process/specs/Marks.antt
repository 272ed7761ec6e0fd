-- What a mailbox knows of the references that its items answer. No public clause cites this module.
use Rattle.std.specs.Prelude.{ℕ, zero, suc, ◌+◌, ◌-◌, ◌<◌, ⊤, cond, ltb, max, List, [], ◌∷◌, length, Option, Some, None, IfSome}
use Rattle.pt_signal.specs.declared.item.Item.{Item}

-- the number of the reference that an item answers, if it answers one
abbrev pub answer_number : Item → Option ℕ
answer_number (Item.Down m from r) = Some m.number
answer_number (Item.Alive m from x) = Some m.number
answer_number _ = None

-- it answers no reference with this number or a higher one
abbrev pub IsUnder : ℕ → Item → Type 0
IsUnder n item = IfSome (answer_number item) (λ number. number < n)

-- none of the first k does
abbrev pub AreUnder : ℕ → ℕ → List Item → Type 0
AreUnder n zero items = ⊤
AreUnder n (suc k) [] = ⊤
AreUnder n (suc k) (item ∷ items) = IsUnder n item × AreUnder n k items

-- no item that waits has a number above the top one, and each of those before the mark is under it
pub record IsMarked (top before : ℕ) (waiting : List Item) : Type 0 where
  pub highest : AreUnder (top + 1) (length waiting) waiting
  pub lower : AreUnder top before waiting

-- the top number, and the place of the mark, once an item with this number is put behind so many places
abbrev pub top_after : Option ℕ → ℕ → ℕ
top_after None top = top
top_after (Some number) top = max top number

abbrev pub mark_after : Option ℕ → ℕ → ℕ → ℕ → ℕ
mark_after None top places mark = mark
mark_after (Some number) top places mark = cond (ltb top number) places (cond (ltb number top) mark 0)

-- how many items are before the mark once the one at this place has gone
abbrev pub left_before : ℕ → ℕ → ℕ
left_before place before = cond (ltb place before) (before - 1) before
