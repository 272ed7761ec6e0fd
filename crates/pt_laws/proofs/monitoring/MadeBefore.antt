-- Monitors of a history that goes on from another one: those that were open at its start count as made.
use Rattle.std.proofs.Common.{◌≡◌, ◌+◌, ◌≤◌, Bool, true, false, [], ◌∷◌, ◌++◌, refl, sym, ap, ◌∙◌, arith}
use Rattle.std.proofs.lemmas.Bool.{and_parts, both_ways}
use Rattle.pt_signal.specs.declared.pid.Pid.{Pid}
use Rattle.pt_signal.specs.declared.ids.Ref.{Ref}
use Rattle.pt_signal.specs.declared.signal.Signal.{Signal}
use Rattle.pt_signal.specs.Values.{same_pid, same_ref}
use Rattle.pt_events.specs.History.{Past, Start, Phase, unborn, living, ended, life, at_start, state, state_of, is_living, is_ended, alive, IsLegal}
use Rattle.pt_laws.specs.Load.{IsQuiet}
use Rattle.pt_laws.specs.Resumed.{reasonless, AllNewTo, IsLeftBy}
use Rattle.pt_laws.specs.Watch.{is_monitor, said_to, is_open, open_in, kept_in}
use Rattle.pt_laws.specs.MonitorLaws.{demonitors_and_downs, times_made, QuietMonitorOver}
use Rattle.pt_laws.proofs.living.Acts.{legal_acts}
use Rattle.pt_laws.proofs.living.Resumed.{known, life_over, over_life, over_legal, over_living, over_alive}
use Rattle.pt_laws.proofs.living.StartAfter.{said_times-append}
use Rattle.pt_laws.proofs.monitoring.Counts.{count_narrower}
use Rattle.pt_laws.proofs.monitoring.Downs.{opens, count_law}
use Rattle.pt_laws.proofs.monitoring.Monitors.{monitored, said_once, said_to_one}

said_to_both : (w t : Pid) (test : Signal → Bool) (past old : Past) → said_to w t test (past ++ old) ≡ said_to w t test past + said_to w t test old
said_to_both w t test [] old = omega arith
said_to_both w t test (e ∷ past) old = let ih = said_to_both w t test past old in omega arith

-- what is open for one target is open
open_in_less : (w t : Pid) (m : Ref) (f : Phase) → open_in w t m f ≤ opens m (state_of f).watching
open_in_less w t m unborn = omega arith
open_in_less w t m (living s) = count_narrower (is_open m t) (λ e. same_ref m e.0) (λ e h. (and_parts (same_pid t e.1) (same_ref m e.0) h).1) s.watching
open_in_less w t m (ended r s) = omega arith

open_reasonless : (w t : Pid) (m : Ref) (f : Phase) → open_in w t m (reasonless f) ≡ open_in w t m f
open_reasonless w t m unborn = refl
open_reasonless w t m (living s) = refl
open_reasonless w t m (ended r s) = refl

module _ (law : QuietMonitorOver) (start : Start) (old past : Past) (w t : Pid) (m : Ref) (left : IsLeftBy start old) (new : AllNewTo old past)
    (legal : IsLegal start past) (quiet : IsQuiet start past) (lives : alive start past w ≡ true) where
  all_legal : IsLegal [] (past ++ old)
  all_legal = over_legal [] start old left.legal left.quiet (known start old left) past new legal

  -- a live process holds at the start what it held
  same_start : opens m (state_of (at_start start w)).watching ≡ opens m (state [] old w).watching
  same_start = go (life [] old w) refl
    where
      go : (f : Phase) → life [] old w ≡ f → opens m (state_of (at_start start w)).watching ≡ opens m (state [] old w).watching
      go unborn e = ap (λ f. opens m (state_of f).watching) (over_life [] start old (known start old left) w (ap is_ended e) [])
      go (living s) e = ap (λ f. opens m (state_of f).watching) (over_life [] start old (known start old left) w (ap is_ended e) [])
      go (ended r s) e =
          let gone : alive start past w ≡ false = over_alive [] start old (known start old left) past w ∙ ap is_living (life_over [] old w r s e past) in
          absurd (both_ways (alive start past w) gone lives)

  same_now : opens m (state start past w).watching ≡ opens m (state [] (past ++ old) w).watching
  same_now = ap (λ f. opens m (state_of f).watching) (over_living [] start old (known start old left) past w lives)

  open_then : open_in w t m (at_start start w) ≡ open_in w t m (life [] old w)
  open_then = sym (open_reasonless w t m (at_start start w)) ∙ ap (open_in w t m) (known start old left w) ∙ open_reasonless w t m (life [] old w)

  pub since_start : times_made start past w t m ≡ 1
      → (demonitors_and_downs start past w m + kept_in w t m (life start past t) ≡ 1) × (open_in w t m (life start past w) ≡ kept_in w t m (life start past t))
  since_start made =
      let now = count_law start m w past (legal_acts start past legal) in
      let before = count_law [] m w old (legal_acts [] old left.legal) in
      let whole = count_law [] m w (past ++ old) (legal_acts [] (past ++ old) all_legal) in
      let once = said_once m w [] (past ++ old) (legal_acts [] (past ++ old) all_legal) in
      let one = said_to_one m w t past in
      let two = said_to_one m w t old in
      let times = said_times-append w (is_monitor m) past old in
      let to_it = said_to_both w t (is_monitor m) past old in
      let was = (monitored m old left.legal w t).counts.maker in
      let less = open_in_less w t m (at_start start w) in
      let said : said_to w t (is_monitor m) (past ++ old) ≡ 1 = omega (arith, made, open_then, was, to_it, times, once, one, two) in
      let r = law start old past w t m left new legal quiet lives said in
      (omega (arith, made, now, before, whole, once, one, two, times, less, same_start, same_now, r.0), r.1)
