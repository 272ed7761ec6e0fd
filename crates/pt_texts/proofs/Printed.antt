-- Each kind of value is read as it is printed.
use Rattle.std.proofs.Common.{◌≡◌, ℕ, ℤ, ◌-◌, ◌^◌, ◌<◌, ◌==◌, Bool, true, false, ◌||◌, ◌⊎◌, inl, inr, Option, Some, None, Ok, List, [], ◌∷◌, ◌++◌, decimal, codes, refl, append_assoc, eqb-true, arith}
use Rattle.std.proofs.lemmas.Bool.{or_cases}
use Rattle.std.specs.Fmt.{signed_decimal}
use Rattle.pt_signal.specs.declared.pid.Pid.{Pid}
use Rattle.pt_signal.specs.declared.ids.Ref.{Ref}
use Rattle.pt_signal.specs.declared.ids.LinkId.{LinkId}
use Rattle.pt_signal.specs.declared.ids.Ids.{Ids}
use Rattle.pt_signal.specs.declared.item.Body.{Body}
use Rattle.pt_signal.specs.Text.{pid_text, ref_text, link_id_text, ids_text, body_text, reason_text, yes_or_no_text, item_text, pick_text, signal_text, route_text, letter_text}
use Rattle.pt_signal.specs.declared.reason.Reason.{Reason}
use Rattle.pt_signal.specs.declared.reason.Reason.TheVariants.{Normal, Kill, Killed, Noproc, Shutdown, Other}
use Rattle.pt_signal.specs.declared.item.Pick.{Pick}
use Rattle.pt_signal.specs.declared.item.Item.{Item}
use Rattle.pt_signal.specs.declared.item.Item.TheVariants.{User}
use Rattle.pt_signal.specs.declared.signal.Signal.{Signal}
use Rattle.pt_signal.specs.declared.signal.Signal.TheVariants.{Message, Link, Unlink, LinkExit, Monitor, Demonitor, AliveAsk, AliveSay}
use Rattle.pt_texts.specs.Steps.{Reader, behind, before, pair}
use Rattle.pt_texts.specs.Numbers.{u8_at, u16_at, u32_at, u64_at}
use Rattle.pt_texts.specs.Readers.{pid_at, ref_at, link_id_at, ids_at, body_at, reason_at, yes_or_no_at, item_at, pick_at, signal_at, route_at, letter_at}
use Rattle.pt_texts.specs.Fits.{FitsPid, FitsRef, FitsLinkId, FitsIds, FitsBody, FitsReason, FitsItem, FitsPick, FitsSignal, FitsLetter}
use Rattle.pt_texts.proofs.Pieces.{Reads, Takes, Anything, before_reads, closed_reads, mapped_reads, fit_as, print_as, stop_as, text_if_any, mapped_again, again_behind, optional_reads, pair_reads, none_takes, given_takes, or_takes}
use Rattle.pt_texts.proofs.Decimals.{NoDigit, number_reads}
use Rattle.pt_texts.proofs.Signed.{signed_reads}

pub u8_reads : Reads (λ n. n < 2 ^ 8) NoDigit decimal u8_at
u8_reads = fit_as _ _ _ _ (number_reads (2 ^ 8 - 1) (omega arith) (omega arith)) (λ n. n < 2 ^ 8) (λ n h. omega (arith, h)) (λ n h. omega (arith, h))

pub u16_reads : Reads (λ n. n < 2 ^ 16) NoDigit decimal u16_at
u16_reads = fit_as _ _ _ _ (number_reads (2 ^ 16 - 1) (omega arith) (omega arith)) (λ n. n < 2 ^ 16) (λ n h. omega (arith, h)) (λ n h. omega (arith, h))

pub u32_reads : Reads (λ n. n < 2 ^ 32) NoDigit decimal u32_at
u32_reads = fit_as _ _ _ _ (number_reads (2 ^ 32 - 1) (omega arith) (omega arith)) (λ n. n < 2 ^ 32) (λ n h. omega (arith, h)) (λ n h. omega (arith, h))

pub u64_reads : Reads (λ n. n < 2 ^ 64) NoDigit decimal u64_at
u64_reads = fit_as _ _ _ _ (number_reads (2 ^ 64 - 1) (omega arith) (omega arith)) (λ n. n < 2 ^ 64) (λ n h. omega (arith, h)) (λ n h. omega (arith, h))

pub pid_reads : Reads FitsPid Anything pid_text pid_at
unfolding pid_text pid_at
pid_reads =
    let versions = before_reads _ _ _ _ u32_reads (codes ".") in
    let slots = before_reads _ _ _ _ (pair_reads _ _ _ _ u32_reads _ _ _ _ versions (λ y r s. refl)) (codes ".") in
    let all = before_reads _ _ _ _ (closed_reads _ _ _ _ (pair_reads _ _ _ _ u8_reads _ _ _ _ slots (λ y r s. refl)) (codes ">") (λ r. refl)) (codes "<") in
    mapped_reads _ _ _ _ all FitsPid pid_text (λ x. record { shard = x.0; slot = x.1.0; version = x.1.1 }) (λ p. (p.shard, (p.slot, p.version))) (λ p. refl)
    (λ x. simp (append_assoc) refl) (λ x f. (f.0, f.1.0, f.1.1)) (λ p f. (f.0, (f.1, f.2)))

pub ref_reads : Reads FitsRef NoDigit ref_text ref_at
unfolding ref_text ref_at
ref_reads =
    let numbers = before_reads _ _ _ _ u64_reads (codes ".") in
    let all = before_reads _ _ _ _ (pair_reads _ _ _ _ u8_reads _ _ _ _ numbers (λ y r s. refl)) (codes "#") in
    mapped_reads _ _ _ _ all FitsRef ref_text (λ x. record { desk = x.0; number = x.1 }) (λ m. (m.desk, m.number)) (λ m. refl)
    (λ x. simp (append_assoc) refl) (λ x f. f) (λ m f. f)

pub link_id_reads : Reads FitsLinkId NoDigit link_id_text link_id_at
unfolding link_id_text link_id_at
link_id_reads =
    let numbers = before_reads _ _ _ _ u64_reads (codes ".") in
    let all = before_reads _ _ _ _ (pair_reads _ _ _ _ u8_reads _ _ _ _ numbers (λ y r s. refl)) (codes "~") in
    mapped_reads _ _ _ _ all FitsLinkId link_id_text (λ x. record { desk = x.0; number = x.1 }) (λ m. (m.desk, m.number)) (λ m. refl)
    (λ x. simp (append_assoc) refl) (λ x f. f) (λ m f. f)

-- a blank or a line feed follows, or nothing
abbrev pub Blank : List ℕ → Type 0
Blank [] = Unit {0}
Blank (c ∷ r) = (c == 32 || c == 10) ≡ true

blank_is : (c : ℕ) → (c == 32 || c == 10) ≡ true → (c ≡ 32) ⊎ (c ≡ 10)
blank_is c s = go (or_cases (c == 32) (c == 10) s)
  where
    go : ((c == 32) ≡ true) ⊎ ((c == 10) ≡ true) → (c ≡ 32) ⊎ (c ≡ 10)
    go (inl h) = inl (eqb-true c 32 h)
    go (inr h) = inr (eqb-true c 10 h)

pub no_digit : (r : List ℕ) → Blank r → NoDigit r
no_digit [] s = tt
no_digit (c ∷ r) s = go (blank_is c s)
  where
    go : (c ≡ 32) ⊎ (c ≡ 10) → NoDigit (c ∷ r)
    go (inl h) = rw h refl
    go (inr h) = rw h refl

pub no_plus : (r : List ℕ) → Blank r → behind (codes "+") r ≡ None
no_plus [] s = refl
no_plus (c ∷ r) s = go (blank_is c s)
  where
    go : (c ≡ 32) ⊎ (c ≡ 10) → behind (codes "+") (c ∷ r) ≡ None
    go (inl h) = rw h refl
    go (inr h) = rw h refl

-- and it is not of one more word of a message
abbrev pub Ends : List ℕ → Type 0
Ends r = Blank r × (behind (codes " who ") r ≡ None)

pub ids_reads : Reads FitsIds Blank ids_text ids_at
unfolding ids_text ids_at
ids_reads =
    let second = stop_as _ _ _ _ (optional_reads _ _ _ _ link_id_reads (codes "+")) Blank (λ r s. (no_digit r s, no_plus r s)) in
    mapped_reads _ _ _ _ (pair_reads _ _ _ _ link_id_reads _ _ _ _ second stop) FitsIds ids_text (λ x. record { one = x.0; two = x.1 }) (λ ids. (ids.one, ids.two)) (λ ids. refl)
    says (λ x f. f) (λ m f. f)
  where
    stop : (y : Option LinkId) (r : List ℕ) → Blank r → NoDigit (text_if_any link_id_text (codes "+") y ++ r)
    stop None r s = no_digit r s
    stop (Some i) r s = refl

    says : (x : LinkId × Option LinkId) → link_id_text x.0 ++ text_if_any link_id_text (codes "+") x.1 ≡ ids_text (record { one = x.0; two = x.1 })
    says (i, None) = refl
    says (i, Some j) = refl

pub body_reads : Reads FitsBody Ends body_text body_at
unfolding body_text body_at
body_reads =
    let who = stop_as _ _ _ _ (optional_reads _ _ _ _ pid_reads (codes " who ")) Ends (λ r s. (tt, s.1)) in
    let numbers = before_reads _ _ _ _ (pair_reads _ _ _ _ signed_reads _ _ _ _ who stop) (codes " ") in
    mapped_reads _ _ _ _ (pair_reads _ _ _ _ u32_reads _ _ _ _ numbers (λ y r s. refl)) FitsBody body_text (λ x. record { kind = x.0; num = x.1.0; who = x.1.1 }) (λ b. (b.kind, (b.num, b.who))) (λ b. refl)
    says (λ x f. (f.0, f.1.0, f.1.1)) (λ b f. (f.0, (f.1, f.2)))
  where
    stop : (y : Option Pid) (r : List ℕ) → Ends r → NoDigit (text_if_any pid_text (codes " who ") y ++ r)
    stop None r s = no_digit r s.0
    stop (Some p) r s = refl

    says : (x : ℕ × (ℤ × Option Pid)) → decimal x.0 ++ (codes " " ++ (signed_decimal x.1.0 ++ text_if_any pid_text (codes " who ") x.1.1)) ≡ body_text (record { kind = x.0; num = x.1.0; who = x.1.1 })
    says (k, (n, None)) = simp (append_assoc) refl
    says (k, (n, Some p)) = simp (append_assoc) refl

pub reason_reads : Reads FitsReason Blank reason_text reason_at
unfolding reason_text reason_at
reason_reads = record { takes = took; again = back }
  where
    took : Takes FitsReason reason_text reason_at
    took =
        given_takes _ _ (codes "normal") Normal _ refl tt
        (given_takes _ _ (codes "killed") Killed _ refl tt
        (given_takes _ _ (codes "kill") Kill _ refl tt
        (given_takes _ _ (codes "noproc") Noproc _ refl tt
        (given_takes _ _ (codes "shutdown") Shutdown _ refl tt
        (or_takes _ _ _ _ _ u32_reads.takes (codes "other:") Other _ (λ n. refl) (λ n f. f)
        (none_takes _ _))))))

    killed : (c : ℕ) (r : List ℕ) → (c ≡ 32) ⊎ (c ≡ 10) → reason_at (reason_text Kill ++ c ∷ r) ≡ Ok (Kill, c ∷ r)
    killed c r (inl h) = rw h refl
    killed c r (inr h) = rw h refl

    back : (v : Reason) (r : List ℕ) → FitsReason v → Blank r → reason_at (reason_text v ++ r) ≡ Ok (v, r)
    back Normal r f s = refl
    back Killed r f s = refl
    back Kill [] f s = refl
    back Kill (c ∷ r) f s = killed c r (blank_is c s)
    back Noproc r f s = refl
    back Shutdown r f s = refl
    back (Other n) r f s = mapped_again Other u32_at n (decimal n ++ r) r (u32_reads.again n r f (no_digit r s))

abbrev pub Fine : {A : Type 0} → A → Type 0
Fine x = Unit {0}

pub yes_or_no_reads : Reads Fine Anything yes_or_no_text yes_or_no_at
unfolding yes_or_no_text yes_or_no_at
yes_or_no_reads = record { takes = took; again = back }
  where
    took : Takes Fine yes_or_no_text yes_or_no_at
    took = given_takes _ _ (codes "yes") true _ refl tt (given_takes _ _ (codes "no") false _ refl tt (none_takes _ _))

    back : (v : Bool) (r : List ℕ) → Unit {0} → Unit {0} → yes_or_no_at (yes_or_no_text v ++ r) ≡ Ok (v, r)
    back true r f s = refl
    back false r f s = refl

-- a word, a blank and another word
pub spaced : {A B : Type 0} (FitA : A → Type 0) (StopA : List ℕ → Type 0) (printA : A → List ℕ) (readerA : Reader A) → Reads FitA StopA printA readerA
    → (FitB : B → Type 0) (StopB : List ℕ → Type 0) (printB : B → List ℕ) (readerB : Reader B) → Reads FitB StopB printB readerB
    → ((y : List ℕ) → StopA (32 ∷ y))
    → Reads (λ (x : A × B). FitA x.0 × FitB x.1) StopB (λ x. printA x.0 ++ (codes " " ++ printB x.1)) (pair readerA (before (codes " ") readerB))
spaced FitA StopA printA readerA a FitB StopB printB readerB b stop = pair_reads _ _ _ _ a _ _ _ _ (before_reads _ _ _ _ b (codes " ")) (λ y r s. stop (printB y ++ r))

pid_body : Reads (λ (x : Pid × Body). FitsPid x.0 × FitsBody x.1) Ends (λ x. pid_text x.0 ++ (codes " " ++ body_text x.1)) (pair pid_at (before (codes " ") body_at))
pid_body = spaced _ _ _ _ pid_reads _ _ _ _ body_reads (λ y. tt)

pub pid_reason : Reads (λ (x : Pid × Reason). FitsPid x.0 × FitsReason x.1) Blank (λ x. pid_text x.0 ++ (codes " " ++ reason_text x.1)) (pair pid_at (before (codes " ") reason_at))
pid_reason = spaced _ _ _ _ pid_reads _ _ _ _ reason_reads (λ y. tt)

pid_answer : Reads (λ (x : Pid × Bool). FitsPid x.0 × Fine x.1) Anything (λ x. pid_text x.0 ++ (codes " " ++ yes_or_no_text x.1)) (pair pid_at (before (codes " ") yes_or_no_at))
pid_answer = spaced _ _ _ _ pid_reads _ _ _ _ yes_or_no_reads (λ y. tt)

ref_pid_reason : Reads (λ (x : Ref × (Pid × Reason)). FitsRef x.0 × (FitsPid x.1.0 × FitsReason x.1.1)) Blank (λ x. ref_text x.0 ++ (codes " " ++ (pid_text x.1.0 ++ (codes " " ++ reason_text x.1.1)))) (pair ref_at (before (codes " ") (pair pid_at (before (codes " ") reason_at))))
ref_pid_reason = spaced _ _ _ _ ref_reads _ _ _ _ pid_reason (λ y. refl)

ref_pid_answer : Reads (λ (x : Ref × (Pid × Bool)). FitsRef x.0 × (FitsPid x.1.0 × Fine x.1.1)) Anything (λ x. ref_text x.0 ++ (codes " " ++ (pid_text x.1.0 ++ (codes " " ++ yes_or_no_text x.1.1)))) (pair ref_at (before (codes " ") (pair pid_at (before (codes " ") yes_or_no_at))))
ref_pid_answer = spaced _ _ _ _ ref_reads _ _ _ _ pid_answer (λ y. refl)

ref_reason : Reads (λ (x : Ref × Reason). FitsRef x.0 × FitsReason x.1) Blank (λ x. ref_text x.0 ++ (codes " " ++ reason_text x.1)) (pair ref_at (before (codes " ") reason_at))
ref_reason = spaced _ _ _ _ ref_reads _ _ _ _ reason_reads (λ y. refl)

ref_answer : Reads (λ (x : Ref × Bool). FitsRef x.0 × Fine x.1) Anything (λ x. ref_text x.0 ++ (codes " " ++ yes_or_no_text x.1)) (pair ref_at (before (codes " ") yes_or_no_at))
ref_answer = spaced _ _ _ _ ref_reads _ _ _ _ yes_or_no_reads (λ y. refl)

ids_reason : Reads (λ (x : Ids × Reason). FitsIds x.0 × FitsReason x.1) Blank (λ x. ids_text x.0 ++ (codes " " ++ reason_text x.1)) (pair ids_at (before (codes " ") reason_at))
ids_reason = spaced _ _ _ _ ids_reads _ _ _ _ reason_reads (λ y. refl)

pub item_reads : Reads FitsItem Ends item_text item_at
unfolding item_text item_at
item_reads = record { takes = took; again = back }
  where
    took : Takes FitsItem item_text item_at
    took =
        or_takes _ _ _ _ _ pid_body.takes (codes "user ") (λ x. User x.0 x.1) _ (λ x. simp (append_assoc) refl) (λ x f. f)
        (or_takes _ _ _ _ _ pid_reason.takes (codes "exit ") (λ x. Item.Exit x.0 x.1) _ (λ x. simp (append_assoc) refl) (λ x f. f)
        (or_takes _ _ _ _ _ ref_pid_reason.takes (codes "down ") (λ x. Item.Down x.0 x.1.0 x.1.1) _ (λ x. simp (append_assoc) refl) (λ x f. (f.0, f.1.0, f.1.1))
        (or_takes _ _ _ _ _ ref_pid_answer.takes (codes "alive ") (λ x. Item.Alive x.0 x.1.0 x.1.1) _ (λ x. simp (append_assoc) refl) (λ x f. (f.0, f.1.0))
        (none_takes _ _))))

    back : (v : Item) (r : List ℕ) → FitsItem v → Ends r → item_at (item_text v ++ r) ≡ Ok (v, r)
    back (User p b) r f s = again_behind _ _ _ _ pid_body item_at (codes "user ") (λ x. User x.0 x.1) (p, b) r (item_text (User p b) ++ r) (simp (append_assoc) refl) refl f s
    back (Item.Exit p why) r f s = again_behind _ _ _ _ pid_reason item_at (codes "exit ") (λ x. Item.Exit x.0 x.1) (p, why) r (item_text (Item.Exit p why) ++ r) (simp (append_assoc) refl) refl f s.0
    back (Item.Down m p why) r f s = again_behind _ _ _ _ ref_pid_reason item_at (codes "down ") (λ x. Item.Down x.0 x.1.0 x.1.1) (m, (p, why)) r (item_text (Item.Down m p why) ++ r) (simp (append_assoc) refl) refl (f.0, (f.1, f.2)) s.0
    back (Item.Alive m p x) r f s = again_behind _ _ _ _ ref_pid_answer item_at (codes "alive ") (λ x. Item.Alive x.0 x.1.0 x.1.1) (m, (p, x)) r (item_text (Item.Alive m p x) ++ r) (simp (append_assoc) refl) refl (f.0, (f.1, tt)) tt

pub pick_reads : Reads FitsPick Blank pick_text pick_at
unfolding pick_text pick_at
pick_reads = record { takes = took; again = back }
  where
    took : Takes FitsPick pick_text pick_at
    took =
        given_takes _ _ (codes "any") Pick.Any _ refl tt
        (or_takes _ _ _ _ _ u32_reads.takes (codes "kind ") Pick.Kind _ (λ x. refl) (λ x f. f)
        (or_takes _ _ _ _ _ pid_reads.takes (codes "from ") Pick.From _ (λ x. refl) (λ x f. f)
        (or_takes _ _ _ _ _ pid_reads.takes (codes "exit-of ") Pick.ExitOf _ (λ x. refl) (λ x f. f)
        (or_takes _ _ _ _ _ ref_reads.takes (codes "down-of ") Pick.DownOf _ (λ x. refl) (λ x f. f)
        (or_takes _ _ _ _ _ ref_reads.takes (codes "alive-of ") Pick.AliveOf _ (λ x. refl) (λ x f. f)
        (none_takes _ _))))))

    back : (v : Pick) (r : List ℕ) → FitsPick v → Blank r → pick_at (pick_text v ++ r) ≡ Ok (v, r)
    back Pick.Any r f s = refl
    back (Pick.Kind k) r f s = again_behind _ _ _ _ u32_reads pick_at (codes "kind ") Pick.Kind k r (pick_text (Pick.Kind k) ++ r) refl refl f (no_digit r s)
    back (Pick.From p) r f s = again_behind _ _ _ _ pid_reads pick_at (codes "from ") Pick.From p r (pick_text (Pick.From p) ++ r) refl refl f tt
    back (Pick.ExitOf p) r f s = again_behind _ _ _ _ pid_reads pick_at (codes "exit-of ") Pick.ExitOf p r (pick_text (Pick.ExitOf p) ++ r) refl refl f tt
    back (Pick.DownOf m) r f s = again_behind _ _ _ _ ref_reads pick_at (codes "down-of ") Pick.DownOf m r (pick_text (Pick.DownOf m) ++ r) refl refl f (no_digit r s)
    back (Pick.AliveOf m) r f s = again_behind _ _ _ _ ref_reads pick_at (codes "alive-of ") Pick.AliveOf m r (pick_text (Pick.AliveOf m) ++ r) refl refl f (no_digit r s)

pub signal_reads : Reads FitsSignal Ends signal_text signal_at
unfolding signal_text signal_at
signal_reads = record { takes = took; again = back }
  where
    took : Takes FitsSignal signal_text signal_at
    took =
        or_takes _ _ _ _ _ body_reads.takes (codes "message ") Message _ (λ x. refl) (λ x f. f)
        (or_takes _ _ _ _ _ link_id_reads.takes (codes "link ") Link _ (λ x. refl) (λ x f. f)
        (or_takes _ _ _ _ _ ids_reads.takes (codes "unlink ") Unlink _ (λ x. refl) (λ x f. f)
        (or_takes _ _ _ _ _ reason_reads.takes (codes "exit ") Signal.Exit _ (λ x. refl) (λ x f. f)
        (or_takes _ _ _ _ _ ids_reason.takes (codes "link-exit ") (λ x. LinkExit x.0 x.1) _ (λ x. simp (append_assoc) refl) (λ x f. f)
        (or_takes _ _ _ _ _ ref_reads.takes (codes "monitor ") Monitor _ (λ x. refl) (λ x f. f)
        (or_takes _ _ _ _ _ ref_reads.takes (codes "demonitor ") Demonitor _ (λ x. refl) (λ x f. f)
        (or_takes _ _ _ _ _ ref_reason.takes (codes "down ") (λ x. Signal.Down x.0 x.1) _ (λ x. simp (append_assoc) refl) (λ x f. f)
        (or_takes _ _ _ _ _ ref_reads.takes (codes "alive-ask ") AliveAsk _ (λ x. refl) (λ x f. f)
        (or_takes _ _ _ _ _ ref_answer.takes (codes "alive-say ") (λ x. AliveSay x.0 x.1) _ (λ x. simp (append_assoc) refl) (λ x f. f.0)
        (none_takes _ _))))))))))

    back : (v : Signal) (r : List ℕ) → FitsSignal v → Ends r → signal_at (signal_text v ++ r) ≡ Ok (v, r)
    back (Message b) r f s = again_behind _ _ _ _ body_reads signal_at (codes "message ") Message b r (signal_text (Message b) ++ r) refl refl f s
    back (Link i) r f s = again_behind _ _ _ _ link_id_reads signal_at (codes "link ") Link i r (signal_text (Link i) ++ r) refl refl f (no_digit r s.0)
    back (Unlink ids) r f s = again_behind _ _ _ _ ids_reads signal_at (codes "unlink ") Unlink ids r (signal_text (Unlink ids) ++ r) refl refl f s.0
    back (Signal.Exit why) r f s = again_behind _ _ _ _ reason_reads signal_at (codes "exit ") Signal.Exit why r (signal_text (Signal.Exit why) ++ r) refl refl f s.0
    back (LinkExit ids why) r f s = again_behind _ _ _ _ ids_reason signal_at (codes "link-exit ") (λ x. LinkExit x.0 x.1) (ids, why) r (signal_text (LinkExit ids why) ++ r) (simp (append_assoc) refl) refl f s.0
    back (Monitor m) r f s = again_behind _ _ _ _ ref_reads signal_at (codes "monitor ") Monitor m r (signal_text (Monitor m) ++ r) refl refl f (no_digit r s.0)
    back (Demonitor m) r f s = again_behind _ _ _ _ ref_reads signal_at (codes "demonitor ") Demonitor m r (signal_text (Demonitor m) ++ r) refl refl f (no_digit r s.0)
    back (Signal.Down m why) r f s = again_behind _ _ _ _ ref_reason signal_at (codes "down ") (λ x. Signal.Down x.0 x.1) (m, why) r (signal_text (Signal.Down m why) ++ r) (simp (append_assoc) refl) refl f s.0
    back (AliveAsk m) r f s = again_behind _ _ _ _ ref_reads signal_at (codes "alive-ask ") AliveAsk m r (signal_text (AliveAsk m) ++ r) refl refl f (no_digit r s.0)
    back (AliveSay m x) r f s = again_behind _ _ _ _ ref_answer signal_at (codes "alive-say ") (λ x. AliveSay x.0 x.1) (m, x) r (signal_text (AliveSay m x) ++ r) (simp (append_assoc) refl) refl (f, tt) tt

pub route_reads : Reads (λ (x : Pid × Pid). FitsPid x.0 × FitsPid x.1) Anything (λ x. route_text x.0 x.1) route_at
unfolding route_text route_at
route_reads =
    print_as _ _ _ _ (pair_reads _ _ _ _ pid_reads _ _ _ _ (before_reads _ _ _ _ pid_reads (codes " -> ")) (λ y r s. tt)) (λ x. route_text x.0 x.1) (λ x. simp (append_assoc) refl)

pub letter_reads : Reads FitsLetter NoDigit letter_text letter_at
unfolding letter_text letter_at
letter_reads =
    let stamps = before_reads _ _ _ _ u64_reads (codes " @") in
    let signals = before_reads _ _ _ _ (pair_reads _ _ _ _ signal_reads _ _ _ _ stamps (λ y r s. (refl, refl))) (codes " ") in
    mapped_reads _ _ _ _ (pair_reads _ _ _ _ route_reads _ _ _ _ signals (λ y r s. tt)) FitsLetter letter_text (λ x. record { from = x.0.0; to = x.0.1; signal = x.1.0; stamp = x.1.1 })
    (λ l. ((l.from, l.to), (l.signal, l.stamp))) (λ l. refl) (λ x. simp (append_assoc) refl) (λ x f. (f.0, f.1.0, f.1.1)) (λ l f. (f.0, (f.1, f.2)))
