-- Lanes that agree go on agreeing where more is posted, and where the oldest letter left over comes.
use Rattle.std.proofs.Common.{List, [], ◌∷◌, ◌++◌, refl, sym, ap, subst}
use Rattle.pt_signal.specs.declared.letter.Letter.{Letter}
use Rattle.pt_events.specs.Journal.{Agrees, IsReceiptOf}

pub Agrees-posted : (posted gots over more : List Letter) → Agrees posted gots over → Agrees (posted ++ more) gots (over ++ more)
Agrees-posted posted [] over more a = ap (λ z. z ++ more) a
Agrees-posted [] (g ∷ gots) over more a = absurd a
Agrees-posted (l ∷ posted) (g ∷ gots) over more a = (a.0, Agrees-posted posted gots over more a.1)

pub Agrees-got : (posted gots : List Letter) (l g : Letter) (over : List Letter) → IsReceiptOf g l → Agrees posted gots (l ∷ over) → Agrees posted (gots ++ g ∷ []) over
Agrees-got posted [] l g over r a = subst (λ z. Agrees z (g ∷ []) over) (sym a) (r, refl)
Agrees-got [] (h ∷ gots) l g over r a = absurd a
Agrees-got (p ∷ posted) (h ∷ gots) l g over r a = (a.0, Agrees-got posted gots l g over r a.1)
