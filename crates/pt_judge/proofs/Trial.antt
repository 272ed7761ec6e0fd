-- The judgement of one event more.
use Rattle.std.proofs.Common.{◌≡◌, ℕ, ◌+◌, ◌<◌, Option, Some, None, Result, Ok, Err, List, [], ◌++◌, append-nil, take, reverse, length, get_or, sym, ap, ◌∙◌, subst}
use Rattle.std.proofs.lemmas.Option.{slice_get-get_or}
use Rattle.std.specs.List.{list_any}
use Rattle.pt_signal.specs.Values.{same_ref, same_link}
use Rattle.pt_judge.specs.declared.cause.Cause.{Cause}
use Rattle.pt_judge.specs.declared.cause.Cause.TheVariants.{BornTwice, NotAlive, NotFront, NotFirstMatch, Unlawful, Memory}
use Rattle.pt_events.specs.declared.event.Event.{Event}
use Rattle.pt_events.specs.declared.event.Event.TheVariants.{Born}
use Rattle.pt_events.specs.History.{Past, Start, May, IsLegal}
use Rattle.pt_judge.specs.Judge.{Refuses, IsCause, IsJudged, IsAfter, Judges, FailsAt, Replays, FailsAfter, ReplaysAfter}
use Rattle.pt_judge.specs.Judging.{JudgeState, now_is, known_state, known_after, cause}
use Rattle.pt_judge.proofs.Judge.{no_cause}
use Rattle.pt_judge.proofs.Judged.{judged}
use Rattle.pt_events.proofs.InOrder.{reverse_take}

-- before any event
pub begins : (s : JudgeState) → s ≡ record { links = []; refs = []; lives = []; flights = [] } → IsAfter [] [] s
begins s h = record { links_made = λ i. ap (λ z. list_any (same_link i) z.links) h; refs_made = λ m. ap (λ z. list_any (same_ref m) z.refs) h; alike = λ p. ap (λ z. now_is z p) h; flies = ap (λ z. z.flights) h }

module _ (start : Start) where
  pub same_known : (past : Past) (s : JudgeState) → IsAfter start past s → known_state s ≡ known_after start past
  same_known past s k = λ i. record { links = λ j. k.links_made j i; refs = λ m. k.refs_made m i; is = λ p. k.alike p i; flights = k.flies i }

  no_memory : (past : Past) (e : Event) → ¬ Refuses start past e Memory
  no_memory past (Born p parent link) h = h
  no_memory past _ h = h

  refused : (past : Past) (e : Event) (c : Cause) → IsCause start past e c → Judges start past e (Err c)
  refused past e Memory h = absurd (no_memory past e h.0)
  refused past e BornTwice h = h
  refused past e NotAlive h = h
  refused past e NotFront h = h
  refused past e NotFirstMatch h = h
  refused past e Unlawful h = h

  told : (past : Past) (s : JudgeState) (e : Event) → IsAfter start past s → IsJudged start past e (cause (known_state s) e)
  told past s e k = subst (λ v. IsJudged start past e (cause v e)) (sym (same_known past s k)) (judged start past e)

  -- so is what the judge finds for an event of that kind
  pub judged_by : (past : Past) (s : JudgeState) (e v : Event) (o : Option Cause) → IsAfter start past s → e ≡ v → o ≡ cause (known_state s) v → IsJudged start past e o
  judged_by past s e v o k h f = subst (λ z. IsJudged start past z o) (sym h) (subst (IsJudged start past v) (sym f) (told past s v k))

  pub judged_some : (past : Past) (s : JudgeState) (e : Event) (o : Option Cause) (c : Cause) → IsAfter start past s → o ≡ cause (known_state s) e → o ≡ Some c → Judges start past e (Err c)
  judged_some past s e o c k h f = refused past e c (subst (IsJudged start past e) (sym h ∙ f) (told past s e k))

  pub judged_none : (past : Past) (s : JudgeState) (e : Event) (o : Option Cause) → IsAfter start past s → o ≡ cause (known_state s) e → o ≡ None → May start past e
  judged_none past s e o k h f = subst (IsJudged start past e) (sym h ∙ f) (told past s e k)

  -- an event that is refused for a cause may not come
  fails_at : (past : Past) (e : Event) (c : Cause) → Judges start past e (Err c) → FailsAt start past e c
  fails_at past e Memory j = j
  fails_at past e BornTwice j = (λ m. no_cause start past e BornTwice m j.0, j)
  fails_at past e NotAlive j = (λ m. no_cause start past e NotAlive m j.0, j)
  fails_at past e NotFront j = (λ m. no_cause start past e NotFront m j.0, j)
  fails_at past e NotFirstMatch j = (λ m. no_cause start past e NotFirstMatch m j.0, j)
  fails_at past e Unlawful j = (λ m. no_cause start past e Unlawful m j.0, j)

  module _ (past : Past) where
    pub failed : (h : List Event) (n : ℕ) (o : Event) (c : Cause) → n < length h → Judges start (reverse (take n h) ++ past) (get_or h n o) (Err c) → FailsAfter start past h n c
    failed h n o c k j = (get_or h n o, slice_get-get_or h n o k, fails_at (reverse (take n h) ++ past) (get_or h n o) c j)

    -- the judge has come to the place
    pub record IsAtPlace (h : List Event) (n : ℕ) (s : JudgeState) : Type 0 where
      pub is_after : IsAfter start (reverse (take n h) ++ past) s
      pub legal : IsLegal start (reverse (take n h) ++ past)

    pub next_place : (h : List Event) (n : ℕ) (o : Event) (s now : JudgeState) → n < length h → IsAtPlace h n s → Judges start (reverse (take n h) ++ past) (get_or h n o) (Ok now) → IsAtPlace h (n + 1) now
    next_place h n o s now k a j =
        let here = ap (λ z. z ++ past) (reverse_take h n o k) in
        record {
          is_after = subst (λ z. IsAfter start z now) (sym here) j.1;
          legal = subst (IsLegal start) (sym here) (j.0, a.legal);
        }

  -- after no past
  pub from_nothing : (h : List Event) (r : Result JudgeState (ℕ × Cause)) → ReplaysAfter start [] h r → Replays start h r
  from_nothing h (Ok s) k = (subst (λ z. IsAfter start z s) (append-nil (reverse h)) k.0, subst (IsLegal start) (append-nil (reverse h)) k.1)
  from_nothing h (Err stop) k = (
    k.0,
    subst (IsLegal start) (append-nil (reverse (take stop.0 h))) k.1,
    (k.2.0, k.2.1, subst (λ z. FailsAt start z k.2.0 stop.1) (append-nil (reverse (take stop.0 h))) k.2.2),
  )
