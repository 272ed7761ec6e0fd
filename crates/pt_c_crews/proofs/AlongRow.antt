-- Rows of handles: whether each crew is that of its desk, and how the crews go on.
use Rattle.std.proofs.Common.{◌≡◌, ℕ, ◌+◌, ◌<◌, List, [], ◌∷◌, ◌++◌, length, map, set, get_or, refl, sym, ap, ◌∙◌}
use Rattle.std.proofs.lemmas.List.{append_assoc, length-append}
use Rattle.pt_events.specs.declared.event.Stamped.{Stamped}
use Rattle.pt_c_values.specs.Places.{HandlePlace}
use Rattle.pt_c_values.proofs.InRow.{changed}
use Rattle.pt_c_values.proofs.AlongRow.{Looked}
use Rattle.pt_scheduler.specs.declared.scheduler.Scheduler.{Scheduler}
use Rattle.pt_c_crews.specs.GoingOn.{AllCrewsGoOn, CrewGoesOn}
use Rattle.pt_c_crews.specs.Owning.{are_own}

-- the crews, each with its own desk
abbrev pub OwnSoFar : List (HandlePlace Scheduler) → ℕ → Type 0
OwnSoFar whole k = Looked are_own whole k

-- crews that go on -----------------------------------------------------------------------------

both_more : (past : List Stamped) (olds news : List (HandlePlace Scheduler)) (old new : HandlePlace Scheduler) → AllCrewsGoOn past olds news → CrewGoesOn past old new → AllCrewsGoOn past (olds ++ old ∷ []) (news ++ new ∷ [])
both_more past [] [] old new a one = (one, tt)
both_more past (x ∷ olds) (y ∷ news) old new a one = (a.0, both_more past olds news old new a.1 one)
both_more past [] (y ∷ news) old new a one = absurd a
both_more past (x ∷ olds) [] old new a one = absurd a

-- so many have gone on
pub record GoneOn (past : List Stamped) (whole now : List (HandlePlace Scheduler)) (k : ℕ) : Type 0 where
  pub olds : List (HandlePlace Scheduler)
  pub news : List (HandlePlace Scheduler)
  pub rest : List (HandlePlace Scheduler)
  pub whole_is : whole ≡ olds ++ rest
  pub now_is : now ≡ news ++ rest
  pub long : length news ≡ k
  pub as_long : length olds ≡ k
  pub all : AllCrewsGoOn past olds news

pub none_gone_on : (past : List Stamped) (whole : List (HandlePlace Scheduler)) → GoneOn past whole whole 0
none_gone_on past whole = record { olds = []; news = []; rest = whole; whole_is = refl; now_is = refl; long = refl; as_long = refl; all = tt }

module _ {H : Type 0} (st : H → HandlePlace Scheduler) where
  pub goes_on_one : (past : List Stamped) (whole : List (HandlePlace Scheduler)) (hs : List H) (k : ℕ) (h h' : H) → GoneOn past whole (map st hs) k → k < length hs → h ≡ get_or hs k h → CrewGoesOn past (st h) (st h')
      → GoneOn past whole (map st (set hs k h')) (k + 1)
  goes_on_one past whole hs k h h' g within is one =
      let f = changed st hs g.news g.rest k h g.now_is g.long within is in
      record {
        olds = g.olds ++ st h ∷ [];
        news = g.news ++ st h' ∷ [];
        rest = f.0;
        whole_is = g.whole_is ∙ ap (λ z. g.olds ++ z) f.1 ∙ sym (append_assoc g.olds (st h ∷ []) f.0);
        now_is = f.2 h' ∙ sym (append_assoc g.news (st h' ∷ []) f.0);
        long = length-append g.news (st h' ∷ []) ∙ ap (λ n. n + 1) g.long;
        as_long = length-append g.olds (st h ∷ []) ∙ ap (λ n. n + 1) g.as_long;
        all = both_more past g.olds g.news (st h) (st h') g.all one;
      }
