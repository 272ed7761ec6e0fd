-- What was before the journals of a node told of the exits that waited as they began.
use Rattle.std.proofs.Common.{◌≡◌, ◌<◌, inl, inr, true, [], length, get_or, append-nil, refl, subst}
use Rattle.std.specs.List.{list_any}
use Rattle.pt_signal.specs.declared.pid.Pid.{Pid}
use Rattle.pt_events.specs.History.{Past, Start, Phase, unborn, living, ended, at_start, state_of, life}
use Rattle.pt_events.specs.Leaving.{outcome}
use Rattle.pt_events.specs.Forgetting.{reasonless}
use Rattle.pt_laws.specs.Resumed.{IsKnownAs, IsLeftBy}
use Rattle.pt_shard.specs.ShardState.{ShardState}
use Rattle.pt_gathered.specs.Gathered.{GatheredState, IsGathered, begins}
use Rattle.pt_gathered.specs.Pasts.{GoesOnFrom}
use Rattle.pt_gathered.proofs.Starts.{start_same}
use Rattle.pt_children.specs.Families.{is_end_of, has_told, WereTold}
use Rattle.pt_children.proofs.Telling.{new_told, waits_told}

-- nothing waits for one that has ended before
outcome_waits : (q : Pid) (f : Phase) → list_any (is_end_of q) (state_of (outcome f)).waiting ≡ true → list_any (is_end_of q) (state_of f).waiting ≡ true
outcome_waits q unborn h = h
outcome_waits q (living s) h = h
outcome_waits q (ended r s) h = absurd (cc)

-- nor where why it ended is forgotten
reasonless_waits : (q : Pid) (f : Phase) → list_any (is_end_of q) (state_of (reasonless f)).waiting ≡ true → list_any (is_end_of q) (state_of f).waiting ≡ true
reasonless_waits q unborn h = h
reasonless_waits q (living s) h = h
reasonless_waits q (ended r s) h = absurd (cc)

known_waits : (q : Pid) (f left : Phase) → IsKnownAs f left → list_any (is_end_of q) (state_of f).waiting ≡ true → list_any (is_end_of q) (state_of left).waiting ≡ true
known_waits q f left (inl is) waits = outcome_waits q left (subst (λ (g : Phase). list_any (is_end_of q) (state_of g).waiting ≡ true) is waits)
known_waits q f left (inr is) waits = reasonless_waits q left (subst (λ (g : Phase). list_any (is_end_of q) (state_of g).waiting ≡ true) is waits)

pub left_told : (me : Pid) (start : Start) (past : Past) → IsLeftBy start past → WereTold past me start
left_told me start past left q waits =
    subst (λ (p : Past). has_told me q p ≡ true) (append-nil past)
    (waits_told me q [] [] (new_told [] me [] refl) past (known_waits q (at_start start me) (life [] past me) (left.alike me) waits))

-- so it is on each desk
pub desk_told : (past : Past) (g : GatheredState) → IsGathered g → GoesOnFrom past g → (me : Pid) (x : ShardState) → me.shard < length g.shards → WereTold past me (get_or g.shards me.shard x).start
desk_told past g whole from me x within q waits =
    subst (λ (p : Past). has_told me q p ≡ true) from.past_is
    (left_told me (begins g) from.begun.past from.begun.left q
    (subst (λ (f : Phase). list_any (is_end_of q) (state_of f).waiting ≡ true) (start_same g.config g.shards whole.shards me.shard x within me refl) waits))
