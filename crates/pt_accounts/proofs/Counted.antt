-- What arrived was taken or waits, by number.
use Rattle.std.proofs.Common.{◌≡◌, ℕ, suc, ◌+◌, ◌^◌, ◌<◌, ◌≤◌, Bool, true, false, cond, Option, Some, None, List, [], ◌∷◌, length, refl, ap, sym, ◌∙◌, subst, arith, length-append}
use Rattle.std.specs.Prelude.{IfSome}
use Rattle.std.specs.List.{find}
use Rattle.std.proofs.lemmas.Bool.{false≢true}
use Rattle.pt_signal.specs.declared.pid.Pid.{Pid}
use Rattle.pt_signal.specs.declared.item.Item.{Item}
use Rattle.pt_signal.specs.declared.item.Pick.{Pick}
use Rattle.pt_signal.specs.declared.reason.Reason.{Reason}
use Rattle.pt_signal.specs.declared.ids.Ref.{Ref}
use Rattle.pt_signal.specs.declared.signal.Signal.{Signal}
use Rattle.pt_signal.specs.declared.signal.Signal.TheVariants.{LinkExit}
use Rattle.pt_signal.specs.Values.{same_pid, same_ref, fits, without_first}
use Rattle.std.specs.Map.{lookup}
use Rattle.pt_signal.specs.Process.{ProcessState, handle, say, held, holds_any, obey, Verdict, drops, queues, ends, verdict, link_exit, down}
use Rattle.pt_signal.proofs.Same.{same_pid_is}
use Rattle.pt_events.specs.declared.event.Event.{Event}
use Rattle.pt_events.specs.declared.event.Event.TheVariants.{Born, Said, Came, Took, Flag, Left}
use Rattle.pt_events.specs.declared.event.Stamped.{Stamped}
use Rattle.pt_events.specs.History.{Past, Start, at_start, Phase, unborn, living, ended, life, state, state_of, gets, items_of, arrives, arrived_since, alive, is_living, while_living}
use Rattle.pt_events.specs.Journal.{events, IsLocal, MayHere}
use Rattle.pt_events.specs.Takes.{taken, taken_by}
use Rattle.pt_events.proofs.Handling.{handle_queues}
use Rattle.pt_events.proofs.Phases.{each_branch}
use Rattle.pt_events.proofs.Fields.{end_keeps, while_keeps, leaves_keeps, born_keeps, say_keeps}
use Rattle.pt_accounts.specs.LifeState.{LifeState}
use Rattle.pt_accounts.specs.Table.{Slots, of_version, life_at, TableTells, AreTold}
use Rattle.pt_accounts.specs.SlotState.{SlotsAreCounted, IsCounted}
use Rattle.pt_accounts.specs.Steps.{AreAlike}
use Rattle.pt_accounts.proofs.Told.{told_at}
use Rattle.pt_accounts.proofs.MayObserve.{Few}

shorter : (k : Pick) (i : Item) (xs : List Item) → find (fits k) xs ≡ Some i → length (without_first (fits k) xs) + 1 ≡ length xs
shorter k i [] h = absurd (cc)
shorter k i (x ∷ xs) h = go (fits k x) refl (shorter k i xs)
  where
    go : (b : Bool) → fits k x ≡ b → (find (fits k) xs ≡ Some i → length (without_first (fits k) xs) + 1 ≡ length xs)
        → length (without_first (fits k) (x ∷ xs)) + 1 ≡ length (x ∷ xs)
    go true e ih = rw e (omega arith)
    go false e ih = let l = ih (rw e at h) in rw e (omega arith)

obeyed_one : (v : Verdict) (s : ProcessState) → length (obey v s).items ≤ 1
obeyed_one drops s = omega arith
obeyed_one (queues item) s = omega arith
obeyed_one (ends r) s = omega arith

exited_one : (b : Bool) (me : Pid) (s : ProcessState) (a : Pid) (r : Reason) → length (link_exit b me s a r).items ≤ 1
exited_one false me s a r = omega arith
exited_one true me s a r = obeyed_one (verdict true s.traps (same_pid a me) a r) _

downed_one : (o : Option Pid) (s : ProcessState) (a : Pid) (n : Ref) (r : Reason) → length (down o s a n r).items ≤ 1
downed_one None s a n r = omega arith
downed_one (Some t) s a n r = omega arith

handled_one : (me : Pid) (s : ProcessState) (a : Pid) (x : Signal) → length (handle me s a x).items ≤ 1
handled_one me s a (Signal.Exit r) = obeyed_one (verdict false s.traps (same_pid a me) a r) s
handled_one me s a (LinkExit ids r) = exited_one (holds_any (held s.links a) ids) me s a r
handled_one me s a (Signal.Down n r) = downed_one (lookup (same_ref n) s.watching) s a n r
handled_one me s a _ = omega arith

-- what one event does to the numbers
record Moves (waits waits' took came : ℕ) : Type 0 where
  pub sum : waits' + took ≡ waits + came
  pub one : came ≤ 1

module _ (p : Pid) where
  same_number : (f g : Phase) → (state_of g).waiting ≡ (state_of f).waiting → Moves (length (state_of f).waiting) (length (state_of g).waiting) 0 0
  same_number f g e = record { sum = ap (λ z. length z + 0) e; one = omega arith }

  received : (a : Pid) (x : Signal) (f : Phase) (b : Bool) → Moves (length (state_of f).waiting) (length (state_of (cond b (gets p a x f) f)).waiting) 0 (length (cond b (items_of f p a x) []))
  received a x f false = record { sum = refl; one = omega arith }
  received a x unborn true = record { sum = refl; one = omega arith }
  received a x (ended r s) true = record { sum = refl; one = omega arith }
  received a x (living s) true =
      let k = end_keeps (λ s. s.waiting) (handle p s a x).ending (handle p s a x).state ∙ handle_queues p s a x in
      record { sum = ap (λ z. length z + 0) k ∙ simp length-append (omega arith); one = handled_one p s a x }

  took : (q : Pid) (k : Pick) (i : Item) (f : Phase) (b : Bool) → (b ≡ true → (is_living f ≡ true) × (find (fits k) (state_of f).waiting ≡ Some i))
      → Moves (length (state_of f).waiting) (length (state_of (cond b (while_living (λ s. record s { waiting = without_first (fits k) s.waiting }) f) f)).waiting) (length (cond b (i ∷ []) [])) 0
  took q k i f false h = record { sum = refl; one = omega arith }
  took q k i unborn true h = absurd (false≢true (h refl).0)
  took q k i (ended r s) true h = absurd (false≢true (h refl).0)
  took q k i (living s) true h = record { sum = shorter k i s.waiting (h refl).1 ∙ sym (omega arith); one = omega arith }

  moves : (start : Start) (past : Past) (e : Event) → MayHere start past e → Moves (length (state start past p).waiting) (length (state start (e ∷ past) p).waiting) (length (taken_by p e)) (length (arrives start past p e))
  moves start past (Born q parent link) may = same_number (life start past p) (life start (Born q parent link ∷ past) p) (born_keeps (λ s. s.waiting) (λ l s. refl) p q parent link (life start past p))
  moves start past (Said a b x) may =
      same_number (life start past p) (life start (Said a b x ∷ past) p)
      (each_branch (λ g. (state_of g).waiting ≡ (state start past p).waiting) (same_pid p a) _ _ (while_keeps (λ s. s.waiting) (λ s. say s b x) (say_keeps (λ s. s.waiting) (λ l s. refl) (λ l s. refl) b x) (life start past p)) refl)
  moves start past (Came a b x) may = received a x (life start past p) (same_pid p b)
  moves start past (Took q k i) may = took q k i (life start past p) (same_pid p q) (λ e. subst (λ z. (alive start past z ≡ true) × (find (fits k) (state start past z).waiting ≡ Some i)) (sym (same_pid_is p q e)) may)
  moves start past (Flag q on) may =
      same_number (life start past p) (life start (Flag q on ∷ past) p)
      (each_branch (λ g. (state_of g).waiting ≡ (state start past p).waiting) (same_pid p q) _ _ (while_keeps (λ s. s.waiting) (λ s. record s { traps = on }) (λ s. refl) (life start past p)) refl)
  moves start past (Left q r) may =
      same_number (life start past p) (life start (Left q r ∷ past) p)
      (each_branch (λ g. (state_of g).waiting ≡ (state start past p).waiting) (same_pid p q) _ _ (leaves_keeps (λ s. s.waiting) r (life start past p)) refl)
  moves start past _ may = same_number (life start past p) (life start past p) refl

  -- over a local journal
  pub balance : (start : Start) (low top d : ℕ) (journal : List Stamped) → IsLocal start low top d journal
      → (length (taken (events journal) p) + length (state start (events journal) p).waiting ≡ length (state_of (at_start start p)).waiting + length (arrived_since start (events journal) p)) × (length (arrived_since start (events journal) p) ≤ length journal)
  balance start low top d [] h = (omega arith, omega arith)
  balance start low top d (s ∷ journal) h =
      let past = events journal in
      let ih = balance start low top d journal h.1 in
      let m = moves start past s.event h.0.may in
      let a : length (taken (s.event ∷ past) p) ≡ length (taken past p) + length (taken_by p s.event) = length-append (taken past p) (taken_by p s.event) in
      let b : length (arrived_since start (s.event ∷ past) p) ≡ length (arrived_since start past p) + length (arrives start past p s.event) = length-append (arrived_since start past p) (arrives start past p s.event) in
      (step _ _ _ _ _ _ _ _ _ a b m.sum ih.0, most _ _ _ _ b m.one ih.1)
    where
      step : (t t' y w w' n n' z v : ℕ) → t' ≡ t + y → n' ≡ n + z → w' + y ≡ w + z → t + w ≡ v + n → t' + w' ≡ v + n'
      step t t' y w w' n n' z v a b m h = omega arith

      most : (n n' z l : ℕ) → n' ≡ n + z → z ≤ 1 → n ≤ l → n' ≤ suc l
      most n n' z l b m h = omega arith

-- so no count passes the number of events ------------------------------------------------------------

pub few_counted : (n : ℕ) (slots : Slots) → n + 1 < 2 ^ 64 → SlotsAreCounted n slots → Few slots
few_counted n slots h c s v = go (life_at slots s v) (c s v)
  where
    go : (o : Option LifeState) → IfSome o (IsCounted n) → IfSome o (λ l. l.taken + 1 < 2 ^ 64)
    go None k = tt
    go (Some l) k = omega (arith, k)

pub counted_more : (n m : ℕ) (slots : Slots) → n ≤ m → SlotsAreCounted n slots → SlotsAreCounted m slots
counted_more n m slots h c s v = go (life_at slots s v) (c s v)
  where
    go : (o : Option LifeState) → IfSome o (IsCounted n) → IfSome o (IsCounted m)
    go None k = tt
    go (Some l) k = omega (arith, k)

pub counted_alike : (n : ℕ) (old new : Slots) → AreAlike old new → SlotsAreCounted n old → SlotsAreCounted n new
counted_alike n old new same c s v = subst (λ (l : List LifeState). IfSome (of_version l v) (IsCounted n)) (sym (same s)) (c s v)

module _ (start : Start) (desk : ℕ) (old new : Slots) (past : Past) (e : Event) (n : ℕ) where
  before : (p : Pid) (o : Option LifeState) → TableTells start past p o → IfSome o (IsCounted n) → length (taken past p) + length (state start past p).waiting ≤ n
  before p None h k = let a : length (taken past p) ≡ 0 = ap length h.1 in let b : length (state start past p).waiting ≡ 0 = ap (λ f. length (state_of f).waiting) h.0 in omega arith
  before p (Some l) h k = subst (IsCounted n) h.0 k

  pub counted_next : AreTold start desk old past → AreTold start desk new (e ∷ past) → MayHere start past e → SlotsAreCounted n old → SlotsAreCounted (n + 1) new
  counted_next told next may c s v = go (life_at new s v) (told_at start desk new (e ∷ past) one next refl)
    where
      one : Pid
      one = record { shard = desk; slot = s; version = v }

      go : (o : Option LifeState) → TableTells start (e ∷ past) one o → IfSome o (IsCounted (n + 1))
      go None h = tt
      go (Some l) h =
          let b = before one (life_at old s v) (told_at start desk old past one told refl) (c s v) in
          let m = moves one start past e may in
          let a : length (taken (e ∷ past) one) ≡ length (taken past one) + length (taken_by one e) = length-append (taken past one) (taken_by one e) in
          let k : length (taken (e ∷ past) one) + length (state start (e ∷ past) one).waiting ≤ n + 1 = omega (arith, m.sum, m.one) in
          subst (IsCounted (n + 1)) (sym h.0) k
