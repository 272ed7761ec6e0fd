-- What a turn does with the letters that it finds.
use Rattle.std.proofs.Common.{◌≡◌, ℕ, ◌^◌, ◌<◌, inl, inr, true, false, List, [], ◌∷◌, ◌++◌, length, max, Option, Some, None, Result, Err, refl, sym, ap, ◌∙◌, subst, append_assoc}
use Rattle.std.specs.Prelude.{is_some}
use Rattle.std.proofs.lemmas.Bool.{both_ways}
use Rattle.pt_signal.specs.declared.pid.Pid.{Pid}
use Rattle.pt_signal.specs.declared.letter.Letter.{Letter}
use Rattle.pt_carrier.specs.Ends.{OutEnds, InEnds, Collects, IsFirstFromCursor}
use Rattle.pt_shard.specs.declared.stop.Stop.{Stop}
use Rattle.pt_shard.specs.declared.stop.Stop.TheVariants.{Memory, Worn}
use Rattle.pt_shard.specs.ShardState.{ShardState, handled, Handles}
use Rattle.pt_shard.specs.Outbox.{holding}
use Rattle.pt_shard.specs.Extends.{Extends}
use Rattle.pt_desk.specs.Sight.{Sight, SeesOn}
use Rattle.pt_desk.specs.DeskState.{DeskState, GoesOn, IsAccounted, place}
use Rattle.pt_desk.specs.Posting.{Posts}
use Rattle.pt_desk.specs.Turns.{TakesFromLane, Fetches, FindsNone, HandlesNext, HandlesAll, Stays, EndsWith, handled_held, looking_first}
use Rattle.pt_desk.specs.InPlace.{HandlesFront}
use Rattle.pt_carrier.proofs.Collecting.{front_taken}
use Rattle.pt_desk.proofs.Accounts.{accounted_handled, accounted_taken}
use Rattle.pt_desk.proofs.Posted.{of_parts}

-- the letter in the hold is handled
pub held_accounted : (s s1 s2 : ShardState) (o : OutEnds) (i : InEnds) (l : Letter) → length s.outbox ≡ s.config.desks → IsAccounted s o i → s.hold ≡ Some l → s1 ≡ handled l s → s2 ≡ holding None s1 → IsAccounted s2 o i
held_accounted s s1 s2 o i l boxes acc holds handles frees =
    subst (λ z. IsAccounted z o i) (sym (frees ∙ ap (λ (z : ShardState). holding None z) handles)) (accounted_handled s o i boxes acc l holds)

pub refused : (l : Letter) (s s' : ShardState) (stop : Stop) → Handles l s (Err stop) s' → s' ≡ s
refused l s s' Memory h = h.1
refused l s s' Worn h = h.1

pub is_free : (hold : Option Letter) → is_some hold ≡ false → hold ≡ None
is_free None h = refl
is_free (Some l) h = absurd (both_ways true h refl)

-- what was done with the letter in front of a lane was done with the one that is then taken out of it
pub front_handled : (k : ℕ) (i i' : InEnds) (l : Letter) (s s' : ShardState) (r : Result (Option Pid) Stop) → HandlesFront k i s r s' → Collects i i' k l → Handles l s r s'
front_handled k i i' l s s' r h takes = subst (λ l. Handles l s r s') (front_taken i i' k h.0 l h.1 takes) h.2

pub front_refused : (k : ℕ) (i : InEnds) (s s' : ShardState) (stop : Stop) → HandlesFront k i s (Err stop) s' → s' ≡ s
front_refused k i s s' stop h = refused h.0 s s' stop h.2

-- a letter is collected while the hold is free
module _ (s : ShardState) (o : OutEnds) (i i' : InEnds) (v : Sight) (k : ℕ) (l : Letter) (free : s.hold ≡ None) (takes : Collects i i' k l) (place_is : i'.place ≡ i.place) where
  from_is : k ≡ l.from.shard
  from_is = sym takes.from_there

  unheld : s ≡ holding None s
  unheld = ap (λ h. holding h s) free

  module _ (first : IsFirstFromCursor i i' k) where
    pub taken_in : TakesFromLane l (of_parts s o i v) (of_parts (holding (Some l) s) o i' v)
    taken_in = record {
      free = free;
      shard = refl;
      outs = refl;
      sight = refl;
      place = place_is;
      collects = subst (λ k. Collects i i' k l) from_is takes;
      first = subst (IsFirstFromCursor i i') from_is first;
    }

    pub next_collected : (s1 : ShardState) → max s.clock l.stamp < 2 ^ 62 → s1 ≡ handled l s → HandlesNext l (of_parts s o i v) (of_parts s1 o i' v)
    next_collected s1 within handles = record {
      fetched = of_parts (holding (Some l) s) o i' v;
      fetches = inr taken_in;
      within = within;
      after = ap (λ (z : ShardState). of_parts z o i' v) (handles ∙ ap (handled l) unheld);
    }

    pub stays_collected : (s1 s2 : ShardState) (stop : Stop) → Handles l s (Err stop) s1 → s2 ≡ holding (Some l) s1 → Stays stop (of_parts s o i v) (of_parts s2 o i' v)
    stays_collected s1 s2 Worn refuses keeps =
        subst (λ z. Stays Worn (of_parts s o i v) (of_parts z o i' v)) (sym (keeps ∙ ap (holding (Some l)) (refused l s s1 Worn refuses))) (l, inr taken_in, refuses.0)
    stays_collected s1 s2 Memory refuses keeps =
        subst (λ z. Stays Memory (of_parts s o i v) (of_parts z o i' v)) (sym (keeps ∙ ap (holding (Some l)) (refused l s s1 Memory refuses))) (l, inr taken_in, refuses.0)

  taken_accounted : IsAccounted s o i → IsAccounted (holding (Some l) s) o i'
  taken_accounted acc = accounted_taken s o i acc i' l free (subst (λ k. Collects i i' k l) from_is takes) place_is

  pub refused_accounted : (s1 s2 : ShardState) (stop : Stop) → IsAccounted s o i → Handles l s (Err stop) s1 → s2 ≡ holding (Some l) s1 → IsAccounted s2 o i'
  refused_accounted s1 s2 stop acc refuses keeps = subst (λ z. IsAccounted z o i') (sym (keeps ∙ ap (holding (Some l)) (refused l s s1 stop refuses))) (taken_accounted acc)

  pub collected_accounted : (s1 : ShardState) → length s.outbox ≡ s.config.desks → IsAccounted s o i → s1 ≡ handled l s → IsAccounted s1 o i'
  collected_accounted s1 boxes acc handles =
      subst (λ z. IsAccounted z o i') (sym (handles ∙ ap (handled l) unheld))
      (accounted_handled (holding (Some l) s) o i' boxes (taken_accounted acc) l refl)

-- it is the same desk, later ------------------------------------------------------------------

pub extends : (s : ShardState) → Extends s s
extends s = record { start = refl; number = refl; config = refl; more = []; journal = refl; known = λ p h. h }

pub extends_then : (old mid new : ShardState) → Extends old mid → Extends mid new → Extends old new
extends_then old mid new a b = record {
  start = b.start ∙ a.start;
  number = b.number ∙ a.number;
  config = b.config ∙ a.config;
  more = b.more ++ a.more;
  journal = b.journal ∙ ap (λ z. b.more ++ z) a.journal ∙ sym (append_assoc b.more a.more old.journal);
  known = λ p h. b.known p (a.known p h);
}

sees_same : (v : Sight) → SeesOn v v
sees_same v = record { directory = refl; reads = λ k r h. h }

sees_then : (old mid new : Sight) → SeesOn old mid → SeesOn mid new → SeesOn old new
sees_then old mid new a b = record { directory = b.directory ∙ a.directory; reads = λ k r h. b.reads k r (a.reads k r h) }

-- a call of the shard leaves the ends and the sight
pub shard_goes_on : (s s' : ShardState) (o : OutEnds) (i : InEnds) (v : Sight) → Extends s s' → GoesOn (of_parts s o i v) (of_parts s' o i v)
shard_goes_on s s' o i v e = record { shard = e; place = refl; sight = sees_same v }

pub goes_on_then : (old mid new : DeskState) → GoesOn old mid → GoesOn mid new → GoesOn old new
goes_on_then old mid new a b = record { shard = extends_then old.shard mid.shard new.shard a.shard b.shard; place = b.place ∙ a.place; sight = sees_then old.sight mid.sight new.sight a.sight b.sight }

pub same_goes_on : (old new : DeskState) → new ≡ old → GoesOn old new
same_goes_on old new h = record { shard = subst (λ (d : DeskState). Extends old.shard d.shard) (sym h) (extends old.shard); place = ap place h; sight = subst (λ (d : DeskState). SeesOn old.sight d.sight) (sym h) (sees_same old.sight) }

pub looking_goes_on : (k : ℕ) (d : DeskState) → GoesOn d (looking_first k d)
looking_goes_on k d = record { shard = extends d.shard; place = refl; sight = sees_same d.sight }

posts_go_on : (old new : DeskState) → Posts old new → GoesOn old new
posts_go_on old new p = record {
  shard = subst (Extends old.shard) (sym p.only.shard) (record { start = refl; number = refl; config = refl; more = []; journal = refl; known = λ q h. h });
  place = λ j. (p.only.place j, ap (λ (i : InEnds). i.place) p.only.ins j);
  sight = subst (SeesOn old.sight) (sym p.only.sight) (sees_same old.sight);
}

fetches_go_on : (l : Letter) (old new : DeskState) → Fetches l old new → GoesOn old new
fetches_go_on l old new f =
    elim f [
      | inl same ↦ same_goes_on old new same.1
      | inr takes ↦ record {
        shard = subst (Extends old.shard) (sym takes.shard) (record { start = refl; number = refl; config = refl; more = []; journal = refl; known = λ q h. h });
        place = λ j. (ap (λ (o : OutEnds). o.place) takes.outs j, takes.place j);
        sight = subst (SeesOn old.sight) (sym takes.sight) (sees_same old.sight);
      }
    ]

none_goes_on : (old new : DeskState) → FindsNone old new → GoesOn old new
none_goes_on old new f = record {
  shard = subst (Extends old.shard) (sym f.shard) (extends old.shard);
  place = λ j. (ap (λ (o : OutEnds). o.place) f.outs j, f.place j);
  sight = subst (SeesOn old.sight) (sym f.sight) (sees_same old.sight);
}

held_goes_on : (l : Letter) (d : DeskState) → GoesOn d (handled_held l d)
held_goes_on l d = record {
  shard = record { start = refl; number = refl; config = refl; more = _ ∷ []; journal = refl; known = λ q h. h };
  place = refl;
  sight = sees_same d.sight;
}

next_goes_on : (l : Letter) (old new : DeskState) → HandlesNext l old new → GoesOn old new
next_goes_on l old new h =
    goes_on_then old h.fetched new (fetches_go_on l old h.fetched h.fetches) (subst (GoesOn h.fetched) (sym h.after) (held_goes_on l h.fetched))

all_go_on : (letters : List Letter) (old new : DeskState) → HandlesAll letters old new → GoesOn old new
all_go_on [] old new h = same_goes_on old new h
all_go_on (l ∷ letters) old new (before, all, next) = goes_on_then old before new (all_go_on letters old before all) (next_goes_on l before new next)

stays_go_on : (stop : Stop) (old new : DeskState) → Stays stop old new → GoesOn old new
stays_go_on Worn old new h = fetches_go_on h.0 old new h.1
stays_go_on Memory old new h = fetches_go_on h.0 old new h.1

ends_go_on : (stopped : Option Stop) (count budget : ℕ) (old new : DeskState) → EndsWith stopped count budget old new → GoesOn old new
ends_go_on None count budget old new h = elim h [ inl same ↦ same_goes_on old new same.1 | inr none ↦ none_goes_on old new none.1 ]
ends_go_on (Some stop) count budget old new h = stays_go_on stop old new h.1

pub turn_goes_on : (old mid last new : DeskState) (letters : List Letter) (stopped : Option Stop) (count budget : ℕ) → Posts old mid → HandlesAll letters mid last → EndsWith stopped count budget last new → GoesOn old new
turn_goes_on old mid last new letters stopped count budget posts all ends =
    goes_on_then old mid new (posts_go_on old mid posts) (goes_on_then mid last new (all_go_on letters mid last all) (ends_go_on stopped count budget last new ends))
