-- Starts that agree on the processes of a desk say the same of its journal.
use Rattle.std.proofs.Common.{◌≡◌, ℕ, ◌==◌, List, [], ◌∷◌, ◌++◌, Option, Some, None, map, filter, refl, sym, ap, ◌∙◌, subst}
use Rattle.std.specs.Prelude.{true, pred}
use Rattle.std.specs.List.{find}
use Rattle.pt_signal.specs.declared.pid.Pid.{Pid}
use Rattle.pt_signal.specs.declared.ids.LinkId.{LinkId}
use Rattle.pt_signal.specs.declared.signal.Signal.{Signal}
use Rattle.pt_signal.specs.declared.signal.Signal.TheVariants.{Message, Link, Unlink, LinkExit, Monitor, Demonitor, AliveAsk, AliveSay}
use Rattle.pt_signal.specs.Values.{fits}
use Rattle.pt_signal.specs.Process.{ProcessState}
use Rattle.pt_events.specs.declared.event.Event.{Event}
use Rattle.pt_events.specs.declared.event.Event.TheVariants.{Born, Said, Came, Took, Flag, Left, Refused}
use Rattle.pt_events.specs.declared.event.Stamped.{Stamped}
use Rattle.pt_events.specs.History.{Past, Start, at_start, life, alive, state, state_of, after, is_living, is_unborn, is_ended, sent_by, got_sends, left_sends, MaySay, MayBear}
use Rattle.pt_events.specs.Journal.{events, letter, letters, posts, IsOf, IsHome, MayHere, IsKnown, IsNext, IsLocal}

module _ (one two : Start) (d : ℕ) (same : (p : Pid) → p.shard ≡ d → at_start one p ≡ at_start two p) where
  pub life_same : (past : Past) (p : Pid) → p.shard ≡ d → life one past p ≡ life two past p
  life_same [] p here = same p here
  life_same (e ∷ past) p here = ap (after p e) (life_same past p here)

  pub sent_same : (past : Past) (e : Event) → IsHome d e → sent_by one past e ≡ sent_by two past e
  sent_same past (Came a b x) home = ap (λ f. got_sends f b a x) (life_same past b home)
  sent_same past (Left p r) home = ap (λ f. left_sends f p r) (life_same past p home)
  sent_same past _ home = refl

  alive_same : (past : Past) (p : Pid) → p.shard ≡ d → alive one past p ≡ true → alive two past p ≡ true
  alive_same past p here h = sym (ap is_living (life_same past p here)) ∙ h

  -- what may be said is read from the sayer's state and the ids that were made
  say_same : (past : Past) (s : ProcessState) (a b : Pid) (x : Signal) → MaySay one past s a b x → MaySay two past s a b x
  say_same past s a b (Message body) h = h
  say_same past s a b (Signal.Exit r) h = h
  say_same past s a b (Link i) h = h
  say_same past s a b (Unlink ids) h = h
  say_same past s a b (LinkExit ids r) h = h
  say_same past s a b (Monitor m) h = h
  say_same past s a b (Demonitor m) h = h
  say_same past s a b (Signal.Down m r) h = h
  say_same past s a b (AliveAsk m) h = h
  say_same past s a b (AliveSay m y) h = h

  bear_same : (past : Past) (parent : Option Pid) (link : Option LinkId) → IsOf d parent → MayBear one past parent link → MayBear two past parent link
  bear_same past None None home h = h
  bear_same past None (Some i) home h = h
  bear_same past (Some q) None home h = alive_same past q home h
  bear_same past (Some q) (Some i) home h = (alive_same past q home h.0, h.1)

  may_same : (past : Past) (e : Event) → IsHome d e → MayHere one past e → MayHere two past e
  may_same past (Born p parent link) home h = (sym (life_same past p home.0) ∙ h.0, bear_same past parent link home.1 h.1)
  may_same past (Said a b x) home h =
      (alive_same past a home h.0, subst (λ f. MaySay two past (state_of f) a b x) (life_same past a home) (say_same past (state one past a) a b x h.1))
  may_same past (Came a b x) home h = tt
  may_same past (Took p k i) home h = (alive_same past p home h.0, ap (λ f. find (fits k) (state_of f).waiting) (sym (life_same past p home)) ∙ h.1)
  may_same past (Flag p on) home h = alive_same past p home h
  may_same past (Left p r) home h = alive_same past p home h
  may_same past (Refused a b) home h = alive_same past a home h

  known_same : (top : ℕ) (past : Past) (e : Event) → IsHome d e → IsKnown one d top past e → IsKnown two d top past e
  known_same top past (Born p parent link) home h =
      (h.0, h.1, λ some. sym (ap is_ended (life_same past (record p { version = pred p.version }) home.0)) ∙ h.2 some)
  known_same top past (Said a b x) home h = λ here. sym (ap is_unborn (life_same past b here)) ∙ h here
  known_same top past _ home h = tt

  next_same : (low top : ℕ) (journal : List Stamped) (s : Stamped) → IsNext one low top d journal s → IsNext two low top d journal s
  next_same low top journal s h = record {
    here = h.here;
    later = h.later;
    within = h.within;
    home = h.home;
    may = may_same (events journal) s.event h.home h.may;
    new_at = h.new_at;
    known = known_same top (events journal) s.event h.home h.known;
  }

  pub local_same : (low top : ℕ) (journal : List Stamped) → IsLocal one low top d journal → IsLocal two low top d journal
  local_same low top [] h = tt
  local_same low top (s ∷ journal) h = (next_same low top journal s h.0, local_same low top journal h.1)

  letters_same : (low top : ℕ) (journal : List Stamped) → IsLocal one low top d journal → letters one journal ≡ letters two journal
  letters_same low top [] h = refl
  letters_same low top (s ∷ journal) h =
      ap (λ z. z ++ map (letter s.stamp) (sent_by one (events journal) s.event)) (letters_same low top journal h.1)
      ∙ ap (λ z. letters two journal ++ map (letter s.stamp) z) (sent_same (events journal) s.event h.0.home)

  pub posts_same : (low top : ℕ) (journal : List Stamped) → IsLocal one low top d journal → (e : ℕ) → posts one journal e ≡ posts two journal e
  posts_same low top journal h e = ap (filter (λ l. l.to.shard == e)) (letters_same low top journal h)
