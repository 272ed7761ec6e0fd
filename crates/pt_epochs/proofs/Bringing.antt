-- One more message is sent on.
use Rattle.std.proofs.Common.{◌≡◌, inl, inr, ℕ, ◌+◌, ◌<◌, true, false, List, [], ◌∷◌, ◌++◌, length, Result, refl, sym, ap, subst, ◌∙◌, append-nil, append_assoc, length-append, arith}
use Rattle.std.specs.Prelude.{⊤}
use mathlib.Core.List.{IsPrefix}
use Rattle.rtrb.specs.Ring.{SameConsumer}
use Rattle.rtrb.specs.declared.consumer.Consumer.{Consumer}
use Rattle.pt_signal.specs.declared.pid.Pid.{Pid}
use Rattle.pt_behaviour.specs.declared.call_fault.CallFault.{CallFault}
use Rattle.pt_desk.specs.DeskState.{DeskState}
use Rattle.pt_epochs.specs.declared.door.Post.{Post}
use Rattle.pt_epochs.specs.Bringing.{PorterTells, IsDone, SendsOn, KeepsFront, BringsFirst, Brings}

pub ring_then : {T A P : Type 0} (a b c : Consumer T A P) → SameConsumer a b → SameConsumer b c → SameConsumer a c
ring_then a b c x y = ((y.0.0 ∙ x.0.0, y.0.1 ∙ x.0.1, y.0.2 ∙ x.0.2, y.0.3 ∙ x.0.3), y.1 ∙ x.1)

pub ring_stays : {T A P : Type 0} (a : Consumer T A P) → SameConsumer a a
ring_stays a = ((refl, refl, refl, refl), refl)

-- the first that waits is refused, and stays
pub keeps_first : (me : Pid) (post : Post) (waits : List Post) (d e : DeskState) (answer : Result ⊤ CallFault) → IsPrefix (post ∷ []) waits → PorterTells me post d answer e → (IsDone answer → ⊥) → KeepsFront me waits d e
keeps_first me post [] d e answer (rest, is) tells never = absurd (cc)
keeps_first me post (first ∷ waits) d e answer (rest, is) tells never =
    let same : post ≡ first = cc in (answer, subst (λ (p : Post). PorterTells me p d answer e) same tells, never)

pub keeps_none : (me : Pid) (waits : List Post) (d e : DeskState) → length waits ≡ 0 → e ≡ d → KeepsFront me waits d e
keeps_none me [] d e none same = same
keeps_none me (post ∷ waits) d e none same = absurd (omega (arith, none))

pub sends_then : (me : Pid) (first second : List Post) (d mid e : DeskState) → SendsOn me first d mid → SendsOn me second mid e → SendsOn me (first ++ second) d e
sends_then me [] second d mid e a b = subst (λ (x : DeskState). SendsOn me second x e) a b
sends_then me (post ∷ posts) second d mid e (next, answer, tells, done, rest) b =
    (next, answer, tells, done, sends_then me posts second next mid e rest b)

-- so many were sent on, and nothing of it was refused
pub record SoFar (me : Pid) (count : ℕ) (before : List Post) (d : DeskState) (after : List Post) (e : DeskState) : Type 0 where
  pub posts : List Post
  pub taken : after ≡ before ++ posts
  pub counted : length posts ≡ count
  pub sends : SendsOn me posts d e

pub none_yet : (me : Pid) (before : List Post) (d : DeskState) → SoFar me 0 before d before d
none_yet me before d = record { posts = []; taken = sym (append-nil before); counted = refl; sends = refl }

pub one_more : (me us : Pid) (count : ℕ) (before mid after waits : List Post) (d m e : DeskState) → me ≡ us → BringsFirst us mid m true after waits e → SoFar me count before d mid m → SoFar me (count + 1) before d after e
one_more me us count before mid after waits d m e same (post, taken, sends) s = record {
  posts = s.posts ++ post ∷ [];
  taken = taken ∙ ap (λ (ps : List Post). ps ++ post ∷ []) s.taken ∙ append_assoc before s.posts (post ∷ []);
  counted = let c = s.counted in let a = length-append s.posts (post ∷ []) in omega (arith, c, a);
  sends = sends_then me s.posts (post ∷ []) d m e s.sends (subst (λ (x : Pid). SendsOn x (post ∷ []) m e) (sym same) sends);
}

pub all_of : (me : Pid) (count most : ℕ) (before after now waits : List Post) (d e : DeskState) → count ≡ most → now ≡ after → SoFar me count before d after e → Brings me most before d now waits e
all_of me count most before after now waits d e all looked s = record {
  posts = s.posts;
  taken = looked ∙ s.taken;
  few = let c = s.counted in omega (arith, c, all);
  mid = e;
  sends = s.sends;
  keeps = inl (s.counted ∙ all, refl);
}

pub until : (me us : Pid) (count most : ℕ) (before mid after waits : List Post) (d m e : DeskState) → me ≡ us → count < most → BringsFirst us mid m false after waits e → SoFar me count before d mid m → Brings me most before d after waits e
until me us count most before mid after waits d m e same within (taken, keeps) s = record {
  posts = s.posts;
  taken = taken ∙ s.taken;
  few = let c = s.counted in omega (arith, c, within);
  mid = m;
  sends = s.sends;
  keeps = inr (subst (λ (x : Pid). KeepsFront x waits m e) (sym same) keeps);
}
