-- The law of custody, over one legal history.
use Rattle.std.proofs.Common.{◌≡◌, true, false, [], ◌++◌, refl, sym, ap, ◌∙◌, subst}
use Rattle.std.specs.Prelude.{IsPermutation}
use Rattle.std.proofs.lemmas.List.Sorted.{IsPermutation-refl}
use Rattle.pt_signal.specs.declared.pid.Pid.{Pid}
use Rattle.pt_signal.specs.declared.reason.Reason.{Reason}
use Rattle.pt_signal.specs.Process.{ProcessState}
use Rattle.pt_events.specs.History.{Past, Start, Phase, unborn, living, ended, at_start, life, flight, is_ended, is_unborn, state_of, IsLegal}
use Rattle.pt_events.specs.Takes.{taken}
use Rattle.pt_laws.specs.Sender.{said_messages, users}
use Rattle.pt_laws.proofs.living.Acts.{legal_acts}
use Rattle.pt_laws.proofs.living.Resumed.{begun_over}
use Rattle.pt_laws.proofs.order.Taken.{arrivals, left_waiting, waits as all_wait}
use Rattle.pt_shard.specs.Losses.{losses}
use Rattle.pt_history.specs.Custody.{mailbox, all_lost_to, messages_in, HasEachOnce, CustodyHolds}
use Rattle.pt_history.proofs.Fates.{all_came, all_taken, ended_lost, ended_wait, items_came, living_lost, living_wait, taken_among, taken_are}
use Rattle.pt_history.proofs.Coming.{sent_late, sent_parts, strays}
use Rattle.pt_history.proofs.Losing.{at_end, lost_late, lost_parts, takes_nothing}

-- it has each item once, in this history
abbrev Holds : Start → Past → Pid → Type 0
Holds start past p =
    HasEachOnce p (λ a. users a p (mailbox (at_start start p)) ++ said_messages a p past) (taken past p)
    (mailbox (life start past p)) (all_lost_to p (losses start past)) (λ a. messages_in (flight start past a p))

module _ (start : Start) (past : Past) (p : Pid) (legal : IsLegal start past) where
  -- it had not ended before
  module _ (lives : is_ended (at_start start p) ≡ false) where
    here_taken : IsPermutation (taken_among (arrivals start past p)) (taken past p)
    here_taken = taken_are start p past (legal_acts start past legal)

    left : left_waiting (arrivals start past p) ≡ (state_of (life start past p)).waiting
    left = all_wait start p past (legal_acts start past legal)

    by_phase : (f : Phase) → life start past p ≡ f → Holds start past p
    by_phase (living s) is = record {
      came = all_came true (strays start is_unborn past p) (arrivals start past p) (strays start is_ended past p);
      sent_is = λ a. sent_parts a p start lives past legal ∙ ap (λ z. users a p z ++ messages_in (flight start past a p)) (sym (items_came true (strays start is_unborn past p) (arrivals start past p) (strays start is_ended past p)));
      taken_are = subst (λ z. IsPermutation z (taken past p)) (sym (all_taken (strays start is_unborn past p) (arrivals start past p) (strays start is_ended past p) true)) here_taken;
      waiting_are = living_wait (strays start is_unborn past p) (arrivals start past p) (strays start is_ended past p) ∙ left ∙ ap (λ (g : Phase). (state_of g).waiting) is ∙ ap mailbox (sym is);
      lost_are = living_lost (strays start is_unborn past p) (arrivals start past p) (strays start is_ended past p)
          ∙ ap (λ (g : Phase). strays start is_unborn past p ++ (at_end g ++ strays start is_ended past p)) (sym is)
          ∙ sym (lost_parts p start lives past);
    }
    by_phase f is = record {
      came = all_came false (strays start is_unborn past p) (arrivals start past p) (strays start is_ended past p);
      sent_is = λ a. sent_parts a p start lives past legal ∙ ap (λ z. users a p z ++ messages_in (flight start past a p)) (sym (items_came false (strays start is_unborn past p) (arrivals start past p) (strays start is_ended past p)));
      taken_are = subst (λ z. IsPermutation z (taken past p)) (sym (all_taken (strays start is_unborn past p) (arrivals start past p) (strays start is_ended past p) false)) here_taken;
      waiting_are = ended_wait (strays start is_unborn past p) (arrivals start past p) (strays start is_ended past p) ∙ ap mailbox (sym is);
      lost_are = ended_lost (strays start is_unborn past p) (arrivals start past p) (strays start is_ended past p)
          ∙ ap (λ z. strays start is_unborn past p ++ (z ++ strays start is_ended past p)) (left ∙ ap (λ (g : Phase). (state_of g).waiting) is ∙ ap at_end (sym is))
          ∙ sym (lost_parts p start lives past);
    }

  -- it had
  late : (r : Reason) (s : ProcessState) → at_start start p ≡ ended r s → Holds start past p
  late r s over = record {
    came = all_came false [] [] (strays start is_ended past p);
    sent_is = λ a.
        ap (λ (g : Phase). users a p (mailbox g) ++ said_messages a p past) over ∙ sent_late a p start r s over past legal
        ∙ ap (λ z. users a p z ++ messages_in (flight start past a p)) (sym (items_came false [] [] (strays start is_ended past p)));
    taken_are = subst (λ z. IsPermutation z (taken past p)) (sym (all_taken [] [] (strays start is_ended past p) false))
        (subst (IsPermutation []) (sym (takes_nothing p start r s over past (legal_acts start past legal))) (IsPermutation-refl []));
    waiting_are = ended_wait [] [] (strays start is_ended past p) ∙ ap mailbox (sym (begun_over start p r s over past));
    lost_are = ended_lost [] [] (strays start is_ended past p) ∙ sym (lost_late p start r s over past);
  }

  by_start : (f : Phase) → at_start start p ≡ f → Holds start past p
  by_start (ended r s) is = late r s is
  by_start unborn is = by_phase (ap is_ended is) (life start past p) refl
  by_start (living s) is = by_phase (ap is_ended is) (life start past p) refl

pub custody : CustodyHolds
custody start past p legal = by_start start past p legal (at_start start p) refl
