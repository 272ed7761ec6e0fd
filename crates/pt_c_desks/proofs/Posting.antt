-- What a turn posts.
use Rattle.std.proofs.Common.{◌≡◌, ℕ, List, [], ◌∷◌, ◌++◌, inl, inr, ap, ◌∙◌, append-nil}
use Rattle.std.specs.Prelude.{Option, Some, None, take}
use Rattle.std.proofs.Math.Seq.{take-nil}
use Rattle.pt_signal.specs.declared.letter.Letter.{Letter}
use Rattle.pt_carrier.specs.Ends.{OutEnds}
use Rattle.pt_shard.specs.declared.stop.Stop.{Stop}
use Rattle.pt_shard.specs.declared.stop.Stop.TheVariants.{Memory, Worn}
use Rattle.pt_desk.specs.DeskState.{DeskState, posted_to}
use Rattle.pt_desk.specs.Posting.{PostsTo}
use Rattle.pt_desk.specs.Turns.{Fetches, HandlesAll, HandlesNext, EndsWith, Stays}
use Rattle.pt_c_desks.specs.Letters.{PostsWhereLettersWait}

-- after its posts a turn posts nothing
fetched_outs : (l : Letter) (old new : DeskState) → Fetches l old new → new.outs ≡ old.outs
fetched_outs l old new (inl h) = ap (λ (d : DeskState). d.outs) h.1
fetched_outs l old new (inr h) = h.outs

next_outs : (l : Letter) (old new : DeskState) → HandlesNext l old new → new.outs ≡ old.outs
next_outs l old new h = ap (λ (d : DeskState). d.outs) h.after ∙ fetched_outs l old h.fetched h.fetches

all_outs : (letters : List Letter) (old new : DeskState) → HandlesAll letters old new → new.outs ≡ old.outs
all_outs [] old new h = ap (λ (d : DeskState). d.outs) h
all_outs (l ∷ letters) old new h = next_outs l h.0 new h.2 ∙ all_outs letters old h.0 h.1

stayed_outs : (stop : Stop) (old new : DeskState) → Stays stop old new → new.outs ≡ old.outs
stayed_outs Worn old new h = fetched_outs h.0 old new h.1
stayed_outs Memory old new h = fetched_outs h.0 old new h.1

ended_outs : (stop : Option Stop) (count budget : ℕ) (last new : DeskState) → EndsWith stop count budget last new → new.outs ≡ last.outs
ended_outs None count budget last new (inl h) = ap (λ (d : DeskState). d.outs) h.1
ended_outs None count budget last new (inr h) = h.1.outs
ended_outs (Some stop) count budget last new h = stayed_outs stop last new h.1

pub posts_where_letters_wait : PostsWhereLettersWait
posts_where_letters_wait budget old new turned e turns within none =
    let to : PostsTo e old turns.posted_desk = turns.posts.each e within in
    let later : new.outs ≡ turns.posted_desk.outs =
    ended_outs turned.stopped turned.handled budget turns.last new turns.ends ∙ all_outs turns.letters turns.posted_desk turns.last turns.handles in
    ap (λ (o : OutEnds). posted_to (record new { outs = o }) e) later ∙ to.posted
    ∙ ap (λ (ls : List Letter). posted_to old e ++ ls) (ap (take to.count) none ∙ take-nil to.count) ∙ append-nil (posted_to old e)
