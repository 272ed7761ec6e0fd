-- The journal is read from its oldest event on.
use Rattle.std.proofs.Common.{◌≡◌, ℕ, zero, suc, ◌+◌, ◌-◌, ◌<◌, ◌≤◌, List, [], ◌∷◌, ◌++◌, length, take, drop, get_or, reverse, refl, ap, sym, ◌∙◌, subst, arith}
use Rattle.std.proofs.lemmas.List.{length-reverse, reverse-reverse}
use Rattle.pt_signal.specs.declared.pid.Pid.{Pid}
use Rattle.pt_signal.specs.declared.signal.Signal.{Signal}
use Rattle.pt_signal.specs.declared.signal.Signal.TheVariants.{Monitor}
use Rattle.pt_process.specs.Outcome.{IsAnew}
use Rattle.pt_events.specs.declared.event.Event.{Event}
use Rattle.pt_events.specs.declared.event.Event.TheVariants.{Said}
use Rattle.pt_events.specs.declared.event.Stamped.{Stamped}
use Rattle.pt_events.specs.History.{Start, state, MaySay}
use Rattle.pt_events.specs.Journal.{events, IsNext, IsLocal, IsNewAt, MayHere}
use Rattle.pt_events.proofs.InOrder.{reverse_take, reverse_split}
use Rattle.pt_events.specs.OldRefs.{HasOldRefs}
use Rattle.pt_events.proofs.Orders.{clock_above}
use Rattle.pt_accounts.specs.Table.{AreTold}
use Rattle.pt_accounts.specs.DeskLives.{DeskTable, oldest, IsJournalOver, IsReadUpTo}
use Rattle.pt_accounts.specs.Steps.{TableGoesOn, Observes, AreAlike, IsAnewAfter}
use Rattle.pt_accounts.proofs.Told.{told_alike}
use Rattle.pt_accounts.proofs.MayObserve.{unmade_closed, count_closed, told_next}

drop_front : {X : Type 0} (xs ys : List X) (n : ℕ) → n ≡ length xs → drop n (xs ++ ys) ≡ ys
drop_front [] ys n h = rw h refl
drop_front (x ∷ xs) ys zero h = absurd (omega arith)
drop_front (x ∷ xs) ys (suc n) h = drop_front xs ys n (omega arith)

length_rest : {X : Type 0} (xs : List X) (n : ℕ) → length (reverse (drop n xs)) ≡ length xs - n
length_rest xs n = length-reverse (drop n xs) ∙ gone xs n
  where
    gone : {X : Type 0} (xs : List X) (n : ℕ) → length (drop n xs) ≡ length xs - n
    gone [] zero = refl
    gone [] (suc n) = omega arith
    gone (x ∷ xs) zero = omega arith
    gone (x ∷ xs) (suc n) = let h = gone xs n in omega arith

-- the oldest n, where the events are given from the oldest on
module _ (past evs : List Stamped) (given : evs ≡ reverse past) where
  turned : past ≡ reverse evs
  turned = sym (ap reverse given ∙ reverse-reverse past)

  pub oldest_is : (n : ℕ) → oldest n past ≡ reverse (take n evs)
  oldest_is n =
      ap (λ (p : List Stamped). drop (length p - n) p) (turned ∙ reverse_split evs n)
      ∙ drop_front (reverse (drop n evs)) (reverse (take n evs)) _ (ap (λ m. m - n) (sym (ap length (reverse_split evs n)) ∙ length-reverse evs) ∙ sym (length_rest evs n))

  pub oldest_next : (n : ℕ) (o s : Stamped) → n < length evs → s ≡ get_or evs n o → oldest (n + 1) past ≡ s ∷ oldest n past
  oldest_next n o s h e = oldest_is (n + 1) ∙ reverse_take evs n o h ∙ ap (λ z. z ∷ reverse (take n evs)) (sym e) ∙ ap (λ z. s ∷ z) (sym (oldest_is n))

pub local_older : (start : Start) (low top d : ℕ) (newer older : List Stamped) → IsLocal start low top d (newer ++ older) → IsLocal start low top d older
local_older start low top d [] older h = h
local_older start low top d (s ∷ newer) older h = local_older start low top d newer older h.1

take_back : (n : ℕ) (past : List Stamped) → take n past ++ drop n past ≡ past
take_back zero past = refl
take_back (suc n) [] = refl
take_back (suc n) (s ∷ past) = ap (λ z. s ∷ z) (take_back n past)

local_oldest : (start : Start) (low top d n : ℕ) (past : List Stamped) → IsLocal start low top d past → IsLocal start low top d (oldest n past)
local_oldest start low top d n past h =
    local_older start low top d (take (length past - n) past) (oldest n past) (subst (IsLocal start low top d) (sym (take_back (length past - n) past)) h)

-- a monitor is made under a number above all those that are open
anew : (start : Start) (low top d : ℕ) (journal : List Stamped) (s : Stamped) → HasOldRefs low start → IsLocal start low top d journal → IsNext start low top d journal s → IsAnewAfter start (events journal) s.event
anew start low top d journal s refs local n = go s.event n.new_at n.may
  where
    said : (a b : Pid) (x : Signal) → IsNewAt d s.stamp (Said a b x) → MaySay start (events journal) (state start (events journal) a) a b x → IsAnew x (state start (events journal) a)
    said a b (Monitor m) new may =
        let c = clock_above start low top d journal local in
        let l = n.later in
        let e = new.1 in
        unmade_closed m start (events journal) a (count_closed m (state start [] a).watching ((refs a m).1 (omega arith))) may.0
    said a b _ new may = tt

    go : (e : Event) → IsNewAt d s.stamp e → MayHere start (events journal) e → IsAnewAfter start (events journal) e
    go (Said a b x) new may = said a b x new may.1
    go _ new may = tt

-- one event more -----------------------------------------------------------------------------------

module _ (start : Start) (past evs : List Stamped) (given : evs ≡ reverse past) (n : ℕ) (o s : Stamped) (within : n < length evs) (here : s ≡ get_or evs n o) (desk : ℕ) (over : IsJournalOver start desk past) where
  next : IsNext start over.low over.top desk (oldest n past) s
  next =
      let h : IsLocal start over.low over.top desk (s ∷ oldest n past) = subst (IsLocal start over.low over.top desk) (oldest_next past evs given n o s within here) (local_oldest start over.low over.top desk (n + 1) past over.local) in
      h.0

  pub goes_on : (t : DeskTable) → t.desk ≡ desk → t.read ≡ n → IsReadUpTo start past t → TableGoesOn t s.event
  goes_on t same read up = record {
    start = start;
    past = events (oldest n past);
    top = over.top;
    told = subst (λ m. AreTold start t.desk t.slots (events (oldest m past))) read up.told;
    home = subst (λ d. Rattle.pt_events.specs.Journal.IsHome d s.event) (sym same) next.home;
    may = next.may;
    known = subst (λ d. Rattle.pt_events.specs.Journal.IsKnown start d over.top (events (oldest n past)) s.event) (sym same) next.known;
    anew = anew start over.low over.top desk (oldest n past) s over.refs (local_oldest start over.low over.top desk n past over.local) next;
  }

  pub reads_one : (t u : DeskTable) → t.desk ≡ desk → u.desk ≡ t.desk → t.read ≡ n → u.read ≡ t.read + 1 → Observes s.event t.slots u.slots → length evs ≤ length past → IsReadUpTo start past t → IsReadUpTo start past u
  reads_one t u same desks read more obs few up = record {
    within = omega arith;
    told =
        subst (λ d. AreTold start d u.slots (events (oldest u.read past))) (sym (desks ∙ same))
        (subst (λ m. AreTold start desk u.slots (events (oldest m past))) (sym (more ∙ ap (λ m. m + 1) read))
        (subst (λ j. AreTold start desk u.slots (events j)) (sym (oldest_next past evs given n o s within here))
        (told_next start desk t.slots u.slots (events (oldest n past)) (subst (λ d. AreTold start d t.slots (events (oldest n past))) same (subst (λ m. AreTold start t.desk t.slots (events (oldest m past))) read up.told)) s.event next.home next.may obs)));
  }

pub reads_alike : (start : Start) (past : List Stamped) (t u : DeskTable) → u.desk ≡ t.desk → u.read ≡ t.read → AreAlike t.slots u.slots → IsReadUpTo start past t → IsReadUpTo start past u
reads_alike start past t u desks read same up = record {
  within = subst (λ n. n ≤ length past) (sym read) up.within;
  told =
      subst (λ d. AreTold start d u.slots (events (oldest u.read past))) (sym desks)
      (subst (λ m. AreTold start t.desk u.slots (events (oldest m past))) (sym read) (told_alike start t.desk t.slots u.slots (events (oldest t.read past)) same up.told));
}
