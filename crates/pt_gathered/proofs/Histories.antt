-- The merge of the desks' journals.
use Rattle.std.proofs.Common.{◌≡◌, ℕ, zero, suc, ◌+◌, ◌<◌, List, [], ◌∷◌, length, map, get_or, refl, ap, ◌∙◌, arith}
use Rattle.std.proofs.lemmas.Bool.{eq-eqb, ne_eqb}
use denote.Ref.{Bor}
use Rattle.pt_events.specs.declared.event.Stamped.{Stamped}
use Rattle.pt_events.specs.JournalState.{JournalState}
use Rattle.pt_events.specs.Journal.{IsMerge}
use Rattle.pt_judge.specs.Merging.{journal_of, HasNone, AreApart}
use Rattle.pt_shard.specs.ShardState.{ShardState}
use Rattle.pt_gathered.specs.History.{AreJournalsOf}

-- the desks are numbered from n on
abbrev NumbersFrom : ℕ → List ShardState → Type 0
NumbersFrom n shards = (k : ℕ) (x : ShardState) → k < length shards → (get_or shards k x).number ≡ n + k

numbers_rest : (n : ℕ) (s : ShardState) (ss : List ShardState) → NumbersFrom n (s ∷ ss) → NumbersFrom (n + 1) ss
numbers_rest n s ss h k x l = let a = h (suc k) x (omega arith) in omega arith

head_is : (j : Bor JournalState) (js : List (Bor JournalState)) (s : ShardState) (ss : List ShardState) → AreJournalsOf (j ∷ js) (s ∷ ss) → (j.now.desk ≡ s.number) × (j.now.past ≡ s.journal)
head_is j js s ss h =
    let x : ℕ × List Stamped = (j.now.desk, j.now.past) in
    let y : ℕ × List Stamped = (s.number, s.journal) in
    let e : x ≡ y = cc in
    (ap (λ (z : ℕ × List Stamped). z.0) e, ap (λ (z : ℕ × List Stamped). z.1) e)

rest_is : (j : Bor JournalState) (js : List (Bor JournalState)) (s : ShardState) (ss : List ShardState) → AreJournalsOf (j ∷ js) (s ∷ ss) → AreJournalsOf js ss
rest_is j js s ss h = cc

has_none : (js : List (Bor JournalState)) (ss : List ShardState) (n d : ℕ) → d < n → AreJournalsOf js ss → NumbersFrom n ss → HasNone js d
has_none [] ss n d l a h = tt
has_none (j ∷ js) [] n d l a h = absurd cc
has_none (j ∷ js) (s ∷ ss) n d l a h =
    let first = h 0 s (omega arith) in
    let is = (head_is j js s ss a).0 in
    (λ q. absurd (omega arith), has_none js ss (n + 1) d (omega arith) (rest_is j js s ss a) (numbers_rest n s ss h))

apart : (js : List (Bor JournalState)) (ss : List ShardState) (n : ℕ) → AreJournalsOf js ss → NumbersFrom n ss → AreApart js
apart [] ss n a h = tt
apart (j ∷ js) [] n a h = absurd cc
apart (j ∷ js) (s ∷ ss) n a h =
    let first = h 0 s (omega arith) in
    let is = (head_is j js s ss a).0 in
    (has_none js ss (n + 1) j.now.desk (omega arith) (rest_is j js s ss a) (numbers_rest n s ss h), apart js ss (n + 1) (rest_is j js s ss a) (numbers_rest n s ss h))

journal_is : (js : List (Bor JournalState)) (ss : List ShardState) (n m : ℕ) → AreJournalsOf js ss → NumbersFrom n ss → journal_of js (n + m) ≡ get_or (map (λ (s : ShardState). s.journal) ss) m []
journal_is [] [] n m a h = refl
journal_is [] (s ∷ ss) n m a h = absurd cc
journal_is (j ∷ js) [] n m a h = absurd cc
journal_is (j ∷ js) (s ∷ ss) n zero a h =
    let first = h 0 s (omega arith) in
    let is = head_is j js s ss a in
    rw (eq-eqb j.now.desk (n + 0) (omega (arith, is.0, first))) is.1
journal_is (j ∷ js) (s ∷ ss) n (suc m) a h =
    let first = h 0 s (omega arith) in
    let is = head_is j js s ss a in
    let along : n + suc m ≡ (n + 1) + m = omega arith in
    rw (ne_eqb j.now.desk (n + suc m) (λ q. absurd (omega (arith, is.0, first, q))))
    (ap (journal_of js) along ∙ journal_is js ss (n + 1) m (rest_is j js s ss a) (numbers_rest n s ss h))

-- a merge of the journals is one of the desks' journals
pub merge_of_desks : (js : List (Bor JournalState)) (ss : List ShardState) (merged : List Stamped) → AreJournalsOf js ss → ((k : ℕ) (x : ShardState) → k < length ss → (get_or ss k x).number ≡ k)
    → (AreApart js → IsMerge (journal_of js) merged) → IsMerge (λ d. get_or (map (λ (s : ShardState). s.journal) ss) d []) merged
merge_of_desks js ss merged a h made =
    let from : NumbersFrom 0 ss = λ k x l. omega (arith, h k x l) in
    let m = made (apart js ss 0 a from) in
    (m.0, λ d. m.1 d ∙ ap (journal_of js) (omega arith) ∙ journal_is js ss 0 d a from)
