-- The headline, clause by clause.
use Rattle.std.proofs.Common.{◌≡◌, ℕ, ◌+◌, ◌≤◌, Bool, true, false, not, List, ap, ◌∙◌, arith}
use Rattle.pt_signal.specs.declared.pid.Pid.{Pid}
use Rattle.pt_signal.specs.declared.ids.Ref.{Ref}
use Rattle.pt_signal.specs.declared.letter.Letter.{Letter}
use Rattle.pt_events.specs.History.{Past, Start, life, arrived, is_unborn, at_start}
use Rattle.pt_events.specs.Journal.{Journals, LanesAgree, IsLocal, events}
use Rattle.pt_events.specs.Counting.{one_if}
use Rattle.pt_laws.specs.BirthsAndEnds.{births}
use Rattle.pt_laws.specs.Acts.{ActsMayCome}
use Rattle.pt_events.specs.OldRefs.{HasOldRefs}
use Rattle.pt_laws.specs.MonitorLaws.{demonitors_and_downs, IsMadeOnce}
use Rattle.pt_laws.specs.Headline.{IsHeadline}
use Rattle.pt_laws.proofs.living.Acts.{local_acts}
use Rattle.pt_laws.proofs.living.AfterEnd.{nothing_after_end}
use Rattle.pt_laws.proofs.living.BirthsAndEnds.{born_once}
use Rattle.pt_laws.proofs.monitoring.Downs.{count_law}
use Rattle.pt_laws.proofs.monitoring.MadeOnce.{made_once_local}
use Rattle.pt_laws.proofs.order.Positions.{placed}
use Rattle.pt_laws.proofs.order.Sender.{sender_front}

at_most : (n : ℕ) (b : Bool) → n ≡ one_if b → n ≤ 1
at_most n true h = omega arith
at_most n false h = omega arith

born : (start : Start) (past : Past) (p : Pid) → ActsMayCome start past → births past p + one_if (not (is_unborn (at_start start p))) ≤ 1
born start past p h = at_most _ (not (is_unborn (life start past p))) (born_once start past p h)

pub one_down : (start : Start) (past : Past) (w : Pid) (m : Ref) → ActsMayCome start past → IsMadeOnce start past w m → demonitors_and_downs start past w m ≤ 1
one_down start past w m h once = let law = count_law start m w past h in omega arith

pub headline : (start : Start) (low top : ℕ) (journal : Journals) (over : ℕ → ℕ → List Letter) → HasOldRefs low start
    → ((d : ℕ) → IsLocal start low top d (journal d)) → LanesAgree start journal over → IsHeadline start journal over
headline start low top journal over old local lanes = record {
  front = λ a p. sender_front a p start journal over lanes;
  born_once = λ p. born start (home p) p (own p);
  closed = λ p later past r s e h. ap (λ z. arrived start z p) e ∙ nothing_after_end start later past p r s h;
  took = λ p. (placed start p (home p) (own p)).took_there;
  took_arrivals = λ p. (placed start p (home p) (own p)).arrivals;
  took_once = λ p. (placed start p (home p) (own p)).distinct;
  waits = λ p. (placed start p (home p) (own p)).waits;
  one_down = λ w m. one_down start (home w) w m (own w) (made_once_local start low top w.shard (journal w.shard) w m old (local w.shard));
}
  where
    home : Pid → Past
    home p = events (journal p.shard)

    own : (p : Pid) → ActsMayCome start (home p)
    own p = local_acts start low top p.shard (journal p.shard) (local p.shard)
