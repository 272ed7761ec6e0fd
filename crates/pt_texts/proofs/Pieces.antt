-- Readers of pieces, put together: what is read is what is printed, and what is printed is read again.
use Rattle.std.proofs.Common.{◌≡◌, ℕ, ◌==◌, Bool, true, false, cond, Option, Some, None, Result, Ok, Err, List, [], ◌∷◌, ◌++◌, refl, ap, sym, ◌∙◌, subst, append_assoc, append-nil, eqb-true, eq-eqb}
use Rattle.pt_texts.specs.Steps.{Reader, ◌>>=◌, behind, expected, word_at, choose, or_reader, none_of_these, given_value, before, closed, pair, mapped, optional, ended, whole}
use Rattle.pt_texts.specs.Fits.{FitsIfAny}

-- what is read is what such a value prints, and then the rest
abbrev pub Takes : {A : Type 0} → (A → Type 0) → (A → List ℕ) → Reader A → Type 0
Takes {A} Fit print reader = (t : List ℕ) (x : A × List ℕ) → reader t ≡ Ok x → (t ≡ print x.0 ++ x.1) × Fit x.0

-- the reader reads what such values print, where what follows it is no part of it
pub record Reads {A : Type 0} (Fit : A → Type 0) (Stop : List ℕ → Type 0) (print : A → List ℕ) (reader : Reader A) : Type 0 where
  pub takes : (t : List ℕ) (x : A × List ℕ) → reader t ≡ Ok x → (t ≡ print x.0 ++ x.1) × Fit x.0
  pub again : (v : A) (r : List ℕ) → Fit v → Stop r → reader (print v ++ r) ≡ Ok (v, r)

abbrev pub text_if_any : {A : Type 0} → (A → List ℕ) → List ℕ → Option A → List ℕ
text_if_any print word None = []
text_if_any print word (Some v) = word ++ print v

abbrev pub Anything : List ℕ → Type 0
Anything r = Unit {0}

pub ok_is : {A : Type 0} (x y : A) → ◌≡◌ {A = Result A ℕ} (Ok x) (Ok y) → x ≡ y
ok_is x y h = cc

pub bound : {A B : Type 0} (r : Result A ℕ) (f : A → Result B ℕ) (y : B) → (r >>= f) ≡ Ok y → (x : A) × (r ≡ Ok x) × (f x ≡ Ok y)
bound (Ok x) f y h = (x, refl, h)
bound (Err e) f y h = absurd (cc)

pub join : (t a r b s : List ℕ) → t ≡ a ++ r → r ≡ b ++ s → t ≡ (a ++ b) ++ s
join t a r b s h k = h ∙ ap (λ z. a ++ z) k ∙ sym (append_assoc a b s)

pub behind_is : (word t r : List ℕ) → behind word t ≡ Some r → t ≡ word ++ r
behind_is [] t r h = cc
behind_is (c ∷ word) [] r h = absurd (cc)
behind_is (c ∷ word) (d ∷ t) r h = go (c == d) refl h (behind_is word t r)
  where
    go : (b : Bool) → (c == d) ≡ b → cond b (behind word t) None ≡ Some r → (behind word t ≡ Some r → t ≡ word ++ r) → d ∷ t ≡ c ∷ word ++ r
    go true e k more = rw (eqb-true c d e) (ap (λ z. d ∷ z) (more k))
    go false e k more = absurd (cc)

pub behind_again : (word r : List ℕ) → behind word (word ++ r) ≡ Some r
behind_again [] r = refl
behind_again (c ∷ word) r = rw (eq-eqb c c refl) (behind_again word r)

pub word_is : (word t r : List ℕ) → word_at word t ≡ Ok r → t ≡ word ++ r
word_is word t r h = go (behind word t) refl h
  where
    go : (o : Option (List ℕ)) → behind word t ≡ o → expected t o ≡ Ok r → t ≡ word ++ r
    go None e k = absurd (cc)
    go (Some s) e k = behind_is word t r (e ∙ ap Some (ok_is s r k))

pub word_again : (word r : List ℕ) → word_at word (word ++ r) ≡ Ok r
word_again word r = ap (expected (word ++ r)) (behind_again word r)

pub mapped_again : {A B : Type 0} (f : A → B) (reader : Reader A) (v : A) (t r : List ℕ) → reader t ≡ Ok (v, r) → mapped f reader t ≡ Ok (f v, r)
mapped_again f reader v t r h = ap (λ z. z >>= λ x. Ok (f x.0, x.1)) h

module _ {A : Type 0} (Fit : A → Type 0) (Stop : List ℕ → Type 0) (print : A → List ℕ) (reader : Reader A) (reads : Reads Fit Stop print reader) where
  pub before_reads : (word : List ℕ) → Reads Fit Stop (λ v. word ++ print v) (before word reader)
  before_reads word = record {
    takes = λ t x h.
        let b = bound (word_at word t) reader x h in
        let k = reads.takes b.0 x b.2 in
        (join t word b.0 (print x.0) x.1 (word_is word t b.0 b.1) k.0, k.1);
    again = λ v r f s.
        ap (before word reader) (append_assoc word (print v) r)
        ∙ ap (λ z. z >>= reader) (word_again word (print v ++ r))
        ∙ reads.again v r f s;
  }

  pub closed_reads : (word : List ℕ) → ((r : List ℕ) → Stop (word ++ r)) → Reads Fit Anything (λ v. print v ++ word) (closed reader word)
  closed_reads word stop = record {
    takes = λ t x h.
        let b = bound (reader t) _ x h in
        let k = reads.takes t b.0 b.1 in
        let c = bound (word_at word b.0.1) (λ rest. Ok (b.0.0, rest)) x b.2 in
        let e = ok_is (b.0.0, c.0) x c.2 in
        subst (λ (y : A × List ℕ). (t ≡ (print y.0 ++ word) ++ y.1) × Fit y.0) e
        (join t (print b.0.0) b.0.1 word c.0 k.0 (word_is word b.0.1 c.0 c.1), k.1);
    again = λ v r f s.
        ap (closed reader word) (append_assoc (print v) word r)
        ∙ ap (λ z. z >>= λ x. word_at word x.1 >>= λ rest. Ok (x.0, rest)) (reads.again v (word ++ r) f (stop r))
        ∙ ap (λ z. z >>= λ rest. Ok (v, rest)) (word_again word r);
  }

  -- the same reader of values made of these
  pub mapped_reads : {B : Type 0} (Fit' : B → Type 0) (print' : B → List ℕ) (f : A → B) (g : B → A) → ((y : B) → f (g y) ≡ y)
      → ((x : A) → print x ≡ print' (f x)) → ((x : A) → Fit x → Fit' (f x)) → ((y : B) → Fit' y → Fit (g y))
      → Reads Fit' Stop print' (mapped f reader)
  mapped_reads {B} Fit' print' f g back says fits unfits = record {
    takes = λ t x h.
        let b = bound (reader t) _ x h in
        let k = reads.takes t b.0 b.1 in
        let e = ok_is (f b.0.0, b.0.1) x b.2 in
        subst (λ (y : B × List ℕ). (t ≡ print' y.0 ++ y.1) × Fit' y.0) e
        (k.0 ∙ ap (λ z. z ++ b.0.1) (says b.0.0), fits b.0.0 k.1);
    again = λ y r h s.
        ap (λ z. mapped f reader (z ++ r)) (sym (says (g y) ∙ ap print' (back y)))
        ∙ ap (λ z. z >>= λ x. Ok (f x.0, x.1)) (reads.again (g y) r (unfits y h) s)
        ∙ ap (λ z. Ok (z, r)) (back y);
  }

  pub fit_as : (Fit' : A → Type 0) → ((v : A) → Fit v → Fit' v) → ((v : A) → Fit' v → Fit v) → Reads Fit' Stop print reader
  fit_as Fit' to from = record {
    takes = λ t x h. let k = reads.takes t x h in (k.0, to x.0 k.1);
    again = λ v r f s. reads.again v r (from v f) s;
  }

  pub print_as : (print' : A → List ℕ) → ((v : A) → print v ≡ print' v) → Reads Fit Stop print' reader
  print_as print' same = record {
    takes = λ t x h. let k = reads.takes t x h in (k.0 ∙ ap (λ z. z ++ x.1) (same x.0), k.1);
    again = λ v r f s. ap (λ z. reader (z ++ r)) (sym (same v)) ∙ reads.again v r f s;
  }

  pub stop_as : (Stop' : List ℕ → Type 0) → ((r : List ℕ) → Stop' r → Stop r) → Reads Fit Stop' print reader
  stop_as Stop' from = record { takes = reads.takes; again = λ v r f s. reads.again v r f (from r s) }

  -- behind the word, or nothing
  pub optional_reads : (word : List ℕ) → Reads (FitsIfAny Fit) (λ r. Stop r × (behind word r ≡ None)) (text_if_any print word) (optional word reader)
  optional_reads word = record { takes = took; again = back }
    where
      took : (t : List ℕ) (x : Option A × List ℕ) → optional word reader t ≡ Ok x → (t ≡ text_if_any print word x.0 ++ x.1) × FitsIfAny Fit x.0
      took t x h = go (behind word t) refl h
        where
          go : (o : Option (List ℕ)) → behind word t ≡ o → choose o (mapped Some reader) (given_value None t) ≡ Ok x → (t ≡ text_if_any print word x.0 ++ x.1) × FitsIfAny Fit x.0
          go None e k = subst (λ (y : Option A × List ℕ). (t ≡ text_if_any print word y.0 ++ y.1) × FitsIfAny Fit y.0) (ok_is (None, t) x k) (refl, tt)
          go (Some r) e k =
              let b = bound (reader r) _ x k in
              let j = reads.takes r b.0 b.1 in
              subst (λ (y : Option A × List ℕ). (t ≡ text_if_any print word y.0 ++ y.1) × FitsIfAny Fit y.0) (ok_is (Some b.0.0, b.0.1) x b.2)
              (join t word r (print b.0.0) b.0.1 (behind_is word t r e) j.0, j.1)

      back : (v : Option A) (r : List ℕ) → FitsIfAny Fit v → Stop r × (behind word r ≡ None) → optional word reader (text_if_any print word v ++ r) ≡ Ok (v, r)
      back None r f s = ap (λ o. choose o (mapped Some reader) (given_value None r)) s.1
      back (Some v) r f s =
          let inner : mapped Some reader (print v ++ r) ≡ Ok (Some v, r) = ap (λ z. z >>= λ x. Ok (Some x.0, x.1)) (reads.again v r f s.0) in
          let outer : optional word reader (word ++ (print v ++ r)) ≡ Ok (Some v, r) =
          subst (λ o. choose o (mapped Some reader) (given_value None (word ++ (print v ++ r))) ≡ Ok (Some v, r)) (sym (behind_again word (print v ++ r))) inner
          in
          ap (optional word reader) (append_assoc word (print v) r) ∙ outer

  -- one of several that begin with words
  pub again_behind : {B : Type 0} (several : Reader B) (word : List ℕ) (f : A → B) (v : A) (r t : List ℕ) → t ≡ word ++ (print v ++ r)
      → several (word ++ (print v ++ r)) ≡ mapped f reader (print v ++ r) → Fit v → Stop r → several t ≡ Ok (f v, r)
  again_behind several word f v r t same chosen h s = ap several same ∙ chosen ∙ mapped_again f reader v (print v ++ r) r (reads.again v r h s)

  -- the whole text is one such value
  pub whole_is : (t : List ℕ) (v : A) → whole reader t ≡ Ok v → (t ≡ print v) × Fit v
  whole_is t v h =
      let b = bound (reader t) ended v h in
      let k = reads.takes t b.0 b.1 in
      go b.0 k b.2
    where
      go : (x : A × List ℕ) → (t ≡ print x.0 ++ x.1) × Fit x.0 → ended x ≡ Ok v → (t ≡ print v) × Fit v
      go (w, []) k e = subst (λ z. (t ≡ print z) × Fit z) (ok_is w v e) (k.0 ∙ append-nil (print w), k.1)
      go (w, c ∷ rest) k e = absurd (cc)

  pub whole_again : (t : List ℕ) (v : A) → Stop [] → Fit v → t ≡ print v → whole reader t ≡ Ok v
  whole_again t v s f h = ap (whole reader) (h ∙ sym (append-nil (print v))) ∙ ap (λ z. z >>= ended) (reads.again v [] f s)

module _ {A B : Type 0} (FitA : A → Type 0) (StopA : List ℕ → Type 0) (printA : A → List ℕ) (readerA : Reader A) (readsA : Reads FitA StopA printA readerA)
    (FitB : B → Type 0) (StopB : List ℕ → Type 0) (printB : B → List ℕ) (readerB : Reader B) (readsB : Reads FitB StopB printB readerB) where
  pub pair_reads : ((y : B) (r : List ℕ) → StopB r → StopA (printB y ++ r))
      → Reads (λ (x : A × B). FitA x.0 × FitB x.1) StopB (λ x. printA x.0 ++ printB x.1) (pair readerA readerB)
  pair_reads stop = record {
    takes = λ t x h.
        let b = bound (readerA t) _ x h in
        let k = readsA.takes t b.0 b.1 in
        let c = bound (readerB b.0.1) (λ y. Ok ((b.0.0, y.0), y.1)) x b.2 in
        let j = readsB.takes b.0.1 c.0 c.1 in
        subst (λ (y : (A × B) × List ℕ). (t ≡ (printA y.0.0 ++ printB y.0.1) ++ y.1) × (FitA y.0.0 × FitB y.0.1)) (ok_is ((b.0.0, c.0.0), c.0.1) x c.2)
        (join t (printA b.0.0) b.0.1 (printB c.0.0) c.0.1 k.0 j.0, (k.1, j.1));
    again = λ v r f s.
        ap (pair readerA readerB) (append_assoc (printA v.0) (printB v.1) r)
        ∙ ap (λ z. z >>= λ x. readerB x.1 >>= λ y. Ok ((x.0, y.0), y.1)) (readsA.again v.0 (printB v.1 ++ r) f.0 (stop v.1 r s))
        ∙ ap (λ z. z >>= λ y. Ok ((v.0, y.0), y.1)) (readsB.again v.1 r f.1 s);
  }

-- one of several
module _ {B : Type 0} (Fit' : B → Type 0) (print' : B → List ℕ) where
  pub none_takes : Takes Fit' print' none_of_these
  none_takes t x h = absurd (cc)

  pub given_takes : (word : List ℕ) (v : B) (other : Reader B) → print' v ≡ word → Fit' v → Takes Fit' print' other → Takes Fit' print' (or_reader word (given_value v) other)
  given_takes word v other says fits rest t x h = go (behind word t) refl h
    where
      go : (o : Option (List ℕ)) → behind word t ≡ o → choose o (given_value v) (other t) ≡ Ok x → (t ≡ print' x.0 ++ x.1) × Fit' x.0
      go None e k = rest t x k
      go (Some r) e k = subst (λ (y : B × List ℕ). (t ≡ print' y.0 ++ y.1) × Fit' y.0) (ok_is (v, r) x k) (behind_is word t r e ∙ ap (λ z. z ++ r) (sym says), fits)

  pub or_takes : {A : Type 0} (Fit : A → Type 0) (print : A → List ℕ) (reader : Reader A) → Takes Fit print reader → (word : List ℕ) (f : A → B) (other : Reader B)
      → ((x : A) → print' (f x) ≡ word ++ print x) → ((x : A) → Fit x → Fit' (f x)) → Takes Fit' print' other → Takes Fit' print' (or_reader word (mapped f reader) other)
  or_takes {A} Fit print reader takes word f other says fits rest t x h = go (behind word t) refl h
    where
      go : (o : Option (List ℕ)) → behind word t ≡ o → choose o (mapped f reader) (other t) ≡ Ok x → (t ≡ print' x.0 ++ x.1) × Fit' x.0
      go None e k = rest t x k
      go (Some r) e k =
          let b = bound (reader r) _ x k in
          let j = takes r b.0 b.1 in
          subst (λ (y : B × List ℕ). (t ≡ print' y.0 ++ y.1) × Fit' y.0) (ok_is (f b.0.0, b.0.1) x b.2)
          (join t word r (print b.0.0) b.0.1 (behind_is word t r e) j.0 ∙ ap (λ z. z ++ b.0.1) (sym (says b.0.0)), fits b.0.0 j.1)
