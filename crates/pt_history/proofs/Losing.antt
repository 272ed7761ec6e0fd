-- What a process loses is what came before its birth, what waits as it ends, and what comes after that.
use Rattle.std.proofs.Common.{◌≡◌, Bool, true, false, cond, ◌||◌, List, [], ◌∷◌, ◌++◌, Option, Some, None, map, refl, sym, ap, ◌∙◌, subst, append_assoc, append-nil, true≢false}
use Rattle.std.specs.Option.{option_map, option_to_list}
use Rattle.std.proofs.lemmas.Bool.{false≢true}
use Rattle.std.proofs.lemmas.List.Concat.{flat_map-append}
use Rattle.pt_signal.specs.declared.pid.Pid.{Pid}
use Rattle.pt_signal.specs.declared.item.Item.{Item}
use Rattle.pt_signal.specs.declared.item.Item.TheVariants.{User}
use Rattle.pt_signal.specs.declared.reason.Reason.{Reason}
use Rattle.pt_signal.specs.declared.signal.Signal.{Signal}
use Rattle.pt_signal.specs.declared.signal.Signal.TheVariants.{Message}
use Rattle.pt_events.specs.declared.event.Event.{Event}
use Rattle.pt_events.specs.declared.event.Event.TheVariants.{Born, Said, Came, Took, Flag, Left}
use Rattle.pt_signal.specs.Values.{same_pid, fits, without_first}
use Rattle.pt_signal.specs.Process.{ProcessState, handle, say}
use Rattle.pt_events.specs.History.{Past, Start, Phase, unborn, living, ended, at_start, life, after, change, is_unborn, is_ended, is_living, state_of, is_the, newborn, linked, while_living, live_or_end}
use Rattle.pt_events.specs.Takes.{taken}
use Rattle.pt_laws.specs.Acts.{ActsMayCome}
use Rattle.pt_laws.specs.Sender.{body_of}
use Rattle.pt_laws.proofs.living.Resumed.{begun_over}
use Rattle.pt_signal.proofs.Same.{same_pid_refl, same_pid_is}
use Rattle.pt_events.proofs.Phases.{each_branch, after_ended}
use Rattle.pt_shard.specs.declared.loss.Loss.{Loss}
use Rattle.pt_shard.specs.declared.loss.Loss.TheVariants.{Exited}
use Rattle.pt_shard.specs.Losses.{lost_in, lost_at, lost_by_exit, losses, stray}
use Rattle.pt_history.specs.Custody.{all_lost_to, lost_to}
use Rattle.pt_history.proofs.Coming.{strayed, strays}

none : {X : Type 0} (b : Bool) → ◌≡◌ {A = List X} (cond b [] []) []
none true = refl
none false = refl

-- the items of a loss that may be there
abbrev told_to : Pid → Option Loss → List Item
told_to p loss = all_lost_to p (option_to_list loss)

-- what the event loses of p, by p's phase
abbrev pub lost_of : Pid → Phase → Event → List Item
lost_of p f (Came c d x) = cond (same_pid p d) (told_to p (lost_at f p c x)) []
lost_of p f (Left q r) = cond (same_pid p q) (told_to p (lost_by_exit f p r)) []
lost_of p f _ = []

-- another's losses are not p's --------------------------------------------------------------------------

module _ (p d : Pid) (other : same_pid p d ≡ false) where
  not_by_end : (o : Option Reason) (waiting : List Item) → told_to p (option_map (λ r. Exited d r waiting) o) ≡ []
  not_by_end None waiting = refl
  not_by_end (Some r) waiting = rw other refl

  not_stray : (c : Pid) (x : Signal) → told_to p (stray d c x) ≡ []
  not_stray c (Message body) = rw other refl
  not_stray c x = refl

  not_at : (f : Phase) (c : Pid) (x : Signal) → told_to p (lost_at f d c x) ≡ []
  not_at unborn c x = not_stray c x
  not_at (living s) c x = not_by_end (handle d s c x).ending (handle d s c x).state.waiting
  not_at (ended r s) c x = not_stray c x

  not_by_exit : (f : Phase) (r : Reason) → told_to p (lost_by_exit f d r) ≡ []
  not_by_exit unborn r = refl
  not_by_exit (living s) r = rw other refl
  not_by_exit (ended q s) r = refl

pub lost_of_is : (start : Start) (past : Past) (p : Pid) (e : Event) → told_to p (lost_in start past e) ≡ lost_of p (life start past p) e
lost_of_is start past p (Came c d x) = go (same_pid p d) refl
  where
    go : (b : Bool) → same_pid p d ≡ b → told_to p (lost_at (life start past d) d c x) ≡ cond (same_pid p d) (told_to p (lost_at (life start past p) p c x)) []
    go true e = rw e (ap (λ (q : Pid). told_to p (lost_at (life start past q) q c x)) (sym (same_pid_is p d e)))
    go false e = rw e (not_at p d e (life start past d) c x)
lost_of_is start past p (Left q r) = go (same_pid p q) refl
  where
    go : (b : Bool) → same_pid p q ≡ b → told_to p (lost_by_exit (life start past q) q r) ≡ cond (same_pid p q) (told_to p (lost_by_exit (life start past p) p r)) []
    go true e = rw e (ap (λ (d : Pid). told_to p (lost_by_exit (life start past d) d r)) (sym (same_pid_is p q e)))
    go false e = rw e (not_by_exit p q e (life start past q) r)
lost_of_is start past p e = refl

pub lose_more : (start : Start) (past : Past) (p : Pid) (e : Event) → all_lost_to p (losses start (e ∷ past)) ≡ all_lost_to p (losses start past) ++ lost_of p (life start past p) e
lose_more start past p e =
    flat_map-append (lost_to p) (losses start past) (option_to_list (lost_in start past e))
    ∙ ap (λ z. all_lost_to p (losses start past) ++ z) (lost_of_is start past p e)

-- one event, by the phase ---------------------------------------------------------------------------------

-- what waits in the mailbox of one that has ended
abbrev pub at_end : Phase → List Item
at_end f = cond (is_ended f) (state_of f).waiting []

module _ (p : Pid) where
  own_loss : (is : List Item) → cond (same_pid p p) is [] ++ [] ≡ is
  own_loss is = rw same_pid_refl (append-nil is)

  by_end : (o : Option Reason) (s : ProcessState) → told_to p (option_map (λ r. Exited p r s.waiting) o) ≡ at_end (live_or_end o s)
  by_end None s = refl
  by_end (Some r) s = own_loss s.waiting

  -- while it lives, it loses by its end alone
  living_lost : (s : ProcessState) (e : Event) → lost_of p (living s) e ≡ at_end (after p e (living s))
  living_lost s (Came c d x) = go (same_pid p d)
    where
      go : (b : Bool) → cond b (told_to p (lost_at (living s) p c x)) [] ≡ at_end (cond b (change p (Came c d x) (living s)) (living s))
      go true = by_end (handle p s c x).ending (handle p s c x).state
      go false = refl
  living_lost s (Left q r) = go (same_pid p q)
    where
      go : (b : Bool) → cond b (told_to p (lost_by_exit (living s) p r)) [] ≡ at_end (cond b (ended r s) (living s))
      go true = own_loss s.waiting
      go false = refl
  living_lost s (Born q parent link) =
      each_branch (λ g. [] ≡ at_end g) (same_pid p q || is_the p parent) _ _
      (each_branch (λ g. [] ≡ at_end g) (same_pid p q) (newborn parent link (living s)) (while_living (linked (Some q) link) (living s)) refl refl) refl
  living_lost s (Said c d x) = each_branch (λ g. [] ≡ at_end g) (same_pid p c) (living (say s d x)) (living s) refl refl
  living_lost s (Took q k i) = each_branch (λ g. [] ≡ at_end g) (same_pid p q) (living (record s { waiting = without_first (fits k) s.waiting })) (living s) refl refl
  living_lost s (Flag q on) = each_branch (λ g. [] ≡ at_end g) (same_pid p q) (living (record s { traps = on })) (living s) refl refl
  living_lost s _ = refl

  -- and while it does not, each message that comes
  stray_is : (f : Phase) (c : Pid) (x : Signal) → told_to p (stray p c x) ≡ map (User c) (body_of x)
  stray_is f c (Message body) = own_loss (User c body ∷ [])
  stray_is f c x = refl

  unborn_lost : (e : Event) → lost_of p unborn e ≡ strayed is_unborn p unborn e
  unborn_lost (Came c d x) = ap (λ z. cond (same_pid p d) z []) (stray_is unborn c x)
  unborn_lost (Left q r) = none (same_pid p q)
  unborn_lost e = refl

  ended_lost : (r : Reason) (s : ProcessState) (e : Event) → lost_of p (ended r s) e ≡ strayed is_ended p (ended r s) e
  ended_lost r s (Came c d x) = ap (λ z. cond (same_pid p d) z []) (stray_is (ended r s) c x)
  ended_lost r s (Left q w) = none (same_pid p q)
  ended_lost r s e = refl

  not_unborn_living : (s : ProcessState) (e : Event) → strayed is_unborn p (living s) e ≡ []
  not_unborn_living s (Came c d x) = none (same_pid p d)
  not_unborn_living s e = refl

  not_unborn_ended : (r : Reason) (s : ProcessState) (e : Event) → strayed is_unborn p (ended r s) e ≡ []
  not_unborn_ended r s (Came c d x) = none (same_pid p d)
  not_unborn_ended r s e = refl

  not_ended_living : (s : ProcessState) (e : Event) → strayed is_ended p (living s) e ≡ []
  not_ended_living s (Came c d x) = none (same_pid p d)
  not_ended_living s e = refl

  not_ended_unborn : (e : Event) → strayed is_ended p unborn e ≡ []
  not_ended_unborn (Came c d x) = none (same_pid p d)
  not_ended_unborn e = refl

  -- one that was not born does not end
  unborn_stays : (e : Event) → at_end (after p e unborn) ≡ []
  unborn_stays (Came c d x) = each_branch (λ g. at_end g ≡ []) (same_pid p d) unborn unborn refl refl
  unborn_stays (Left q r) = each_branch (λ g. at_end g ≡ []) (same_pid p q) unborn unborn refl refl
  unborn_stays (Born q parent link) =
      each_branch (λ g. at_end g ≡ []) (same_pid p q || is_the p parent) _ _
      (each_branch (λ g. at_end g ≡ []) (same_pid p q) (newborn parent link unborn) (while_living (linked (Some q) link) unborn) refl refl) refl
  unborn_stays (Said c d x) = each_branch (λ g. at_end g ≡ []) (same_pid p c) unborn unborn refl refl
  unborn_stays (Took q k i) = each_branch (λ g. at_end g ≡ []) (same_pid p q) unborn unborn refl refl
  unborn_stays (Flag q on) = each_branch (λ g. at_end g ≡ []) (same_pid p q) unborn unborn refl refl
  unborn_stays _ = refl

  -- before the birth, at the end, behind it
  record LostParts (f : Phase) (total before behind : List Item) : Type 0 where
    joined : total ≡ before ++ (at_end f ++ behind)
    none_yet : is_ended f ≡ false → behind ≡ []

  still_ended : (e : Event) (r : Reason) (s : ProcessState) (b : Bool) → is_ended (after p e (ended r s)) ≡ b → b ≡ true
  still_ended e r s b h = sym h ∙ ap is_ended (after_ended p e r s)

  more_lost : (f : Phase) (e : Event) (total before behind : List Item) → LostParts f total before behind
      → LostParts (after p e f) (total ++ lost_of p f e) (before ++ strayed is_unborn p f e) (behind ++ strayed is_ended p f e)
  more_lost unborn e total before behind h =
      let yet = h.none_yet refl in record {
        joined = rw (unborn_lost e, unborn_stays e, not_ended_unborn e, h.joined, yet) (simp append-nil);
        none_yet = λ k. rw (not_ended_unborn e, yet) refl;
      }
  more_lost (living s) e total before behind h =
      let yet = h.none_yet refl in record {
        joined = rw (living_lost s e, not_unborn_living s e, h.joined, yet) (simp append-nil);
        none_yet = λ k. rw (not_ended_living s e, yet) refl;
      }
  more_lost (ended r s) e total before behind h = record {
    joined = rw (ended_lost r s e, not_unborn_ended r s e, after_ended p e r s, h.joined) (simp (append-nil, append_assoc));
    none_yet = λ k. absurd (true≢false (sym (ap is_ended (after_ended p e r s)) ∙ k));
  }

  module _ (start : Start) where
    none_at_start : (f : Phase) → is_ended f ≡ false → [] ≡ at_end f ++ []
    none_at_start f h = rw h refl

    all_parts : is_ended (at_start start p) ≡ false → (past : Past) → LostParts (life start past p) (all_lost_to p (losses start past)) (strays start is_unborn past p) (strays start is_ended past p)
    all_parts lives [] = record { joined = none_at_start (at_start start p) lives; none_yet = λ h. refl }
    all_parts lives (e ∷ past) =
        subst (λ z. LostParts (after p e (life start past p)) z (strays start is_unborn (e ∷ past) p) (strays start is_ended (e ∷ past) p)) (sym (lose_more start past p e))
        (more_lost (life start past p) e (all_lost_to p (losses start past)) (strays start is_unborn past p) (strays start is_ended past p) (all_parts lives past))

    pub lost_parts : is_ended (at_start start p) ≡ false → (past : Past) → all_lost_to p (losses start past) ≡ strays start is_unborn past p ++ (at_end (life start past p) ++ strays start is_ended past p)
    lost_parts lives past = (all_parts lives past).joined

    -- one that had ended before -----------------------------------------------------------------------

    module _ (r : Reason) (s : ProcessState) (over : at_start start p ≡ ended r s) where
      pub lost_late : (past : Past) → all_lost_to p (losses start past) ≡ strays start is_ended past p
      lost_late [] = refl
      lost_late (e ∷ past) =
          lose_more start past p e ∙ ap (λ z. z ++ lost_of p (life start past p) e) (lost_late past)
          ∙ ap (λ z. strays start is_ended past p ++ z) (subst (λ (f : Phase). lost_of p f e ≡ strayed is_ended p f e) (sym (begun_over start p r s over past)) (ended_lost r s e))

      -- and it takes nothing any more
      pub takes_nothing : (past : Past) → ActsMayCome start past → taken past p ≡ []
      takes_nothing [] h = refl
      takes_nothing (Took q k i ∷ past) h = go (same_pid p q) refl (takes_nothing past h.1)
        where
          go : (b : Bool) → same_pid p q ≡ b → taken past p ≡ [] → taken past p ++ cond (same_pid p q) (i ∷ []) [] ≡ []
          go true e ih =
              let lives : is_living (life start past p) ≡ true = subst (λ (z : Pid). is_living (life start past z) ≡ true) (sym (same_pid_is p q e)) h.0.0 in
              absurd (false≢true (sym (ap is_living (begun_over start p r s over past)) ∙ lives))
          go false e ih = rw (e, ih) refl
      takes_nothing (e ∷ past) h = rw (takes_nothing past h.1) refl
