-- What stands before the first line feed of a text, as far as it was looked through.
use Rattle.std.proofs.Common.{◌≡◌, ℕ, ◌+◌, ◌<◌, ◌≤◌, ◌==◌, List, [], ◌∷◌, ◌++◌, length, take, drop, get_or, ap, sym, ◌∙◌, append_assoc, append-nil, true, false, Bool}
use Rattle.std.proofs.lemmas.List.{at_drop_more, at_drop_all, take_more}
use Rattle.std.specs.Prelude.{if◌then◌else◌}
use Rattle.pt_shell.specs.Sessions.{line_in}

-- where the line feed stands, the line is what was looked through
pub ends : (text : List ℕ) (p : ℕ) → p < length text → (get_or text p 0 == 10) ≡ true → line_in text ≡ take p text ++ line_in (drop p text)
    → take p text ≡ line_in text
ends text p h e k =
    sym (k ∙ ap (λ (l : List ℕ). take p text ++ l)
    (at_drop_more line_in text p 0 h ∙ ap (λ (b : Bool). if b then [] else get_or text p 0 ∷ line_in (drop (p + 1) text)) e)
    ∙ append-nil (take p text))

-- any other byte is of the line
pub goes_on : (text : List ℕ) (p : ℕ) → p < length text → (get_or text p 0 == 10) ≡ false → line_in text ≡ take p text ++ line_in (drop p text)
    → line_in text ≡ take (p + 1) text ++ line_in (drop (p + 1) text)
goes_on text p h e k =
    k ∙ ap (λ (l : List ℕ). take p text ++ l)
    (at_drop_more line_in text p 0 h ∙ ap (λ (b : Bool). if b then [] else get_or text p 0 ∷ line_in (drop (p + 1) text)) e)
    ∙ sym (append_assoc (take p text) (get_or text p 0 ∷ []) (line_in (drop (p + 1) text)))
    ∙ ap (λ (l : List ℕ). l ++ line_in (drop (p + 1) text)) (sym (take_more text p 0 h))

pub at_end : (text : List ℕ) (p : ℕ) → length text ≤ p → line_in (drop p text) ≡ []
at_end text p h = at_drop_all line_in text p h
