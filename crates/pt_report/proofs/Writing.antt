-- What a writer holds after one write and another.
use Rattle.std.proofs.Common.{ℕ, List, [], ◌++◌, sym, Option, Some, None, Result, Ok, Err, append_assoc, ap, ◌∙◌}
use Rattle.std.specs.Prelude.{OnOk}
use Rattle.std.proofs.lemmas.List.{append-nil}
use Rattle.std.specs.Io.KnownBytes.{Appends, Keeps}

pub appends_then : (a b c : Option (List ℕ)) (x y : List ℕ) → Appends a b x → Appends b c y → Appends a c (x ++ y)
appends_then None b c x y h k = tt
appends_then (Some s) None c x y h k = absurd h
appends_then (Some s) (Some t) None x y h k = absurd k
appends_then (Some s) (Some t) (Some u) x y h k = k ∙ ap (λ z. z ++ y) h ∙ append_assoc s x y

pub appends_keeps : (a b c : Option (List ℕ)) (x : List ℕ) → Appends a b x → Keeps b c → Appends a c x
appends_keeps None b c x h k = tt
appends_keeps (Some s) None c x h k = absurd h
appends_keeps (Some s) (Some t) None x h k = absurd k
appends_keeps (Some s) (Some t) (Some u) x h k = k ∙ h

pub appends_nothing : (known : Option (List ℕ)) → Appends known known []
appends_nothing None = tt
appends_nothing (Some s) = sym (append-nil s)

-- what holds at all holds where a call went well
pub on_ok : {T E P : Type 0} (r : Result T E) → P → OnOk r P
on_ok (Ok x) p = p
on_ok (Err e) p = tt

pub on_ok_then : {T E P Q : Type 0} (r : Result T E) → OnOk r P → (P → Q) → OnOk r Q
on_ok_then (Ok x) p f = f p
on_ok_then (Err e) p f = tt
