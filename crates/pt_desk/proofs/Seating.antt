-- The seat of a desk, over what the desk does.
use Rattle.std.proofs.Common.{◌≡◌, ℕ, ◌<◌, ◌≤◌, Bool, false, List, [], ◌∷◌, ◌++◌, inl, inr, Option, Some, None, refl, sym, ap, ◌∙◌, subst, append-nil}
use mathlib.Core.Option.{some}
use lib.ListN.{get_elem?}
use Rattle.pt_signal.specs.declared.pid.Pid.{Pid}
use Rattle.pt_events.specs.declared.event.Event.{Event}
use Rattle.pt_events.specs.declared.event.Event.TheVariants.{Refused}
use Rattle.pt_events.specs.declared.event.Stamped.{Stamped}
use Rattle.atomic_table.proofs.Lists.{at_longer}
use Rattle.pt_directory.proofs.Lists.{at_append, at_behind, at_single}
use Rattle.pt_directory.specs.declared.view.Read.{Read}
use Rattle.pt_directory.specs.declared.view.Death.{Death}
use Rattle.pt_accounts.specs.DeskLives.{DeskTable, IsTableOf}
use Rattle.pt_events.specs.History.{at_start, is_unborn}
use Rattle.pt_directory.specs.Views.{new_read}
use Rattle.pt_directory.specs.Seats.{DirectoryState, SeatState, add_death, death_of}
use Rattle.pt_carrier.specs.Ends.{OutEnds, InEnds, looking_from}
use Rattle.pt_carrier.specs.Meeting.{out_kept, in_kept}
use Rattle.pt_shard.specs.declared.loss.Loss.{Loss}
use Rattle.pt_shard.specs.ShardState.{ShardState, past, written, ended_in}
use Rattle.pt_desk.specs.Sight.{Sight, death_by, deaths_in, seat_of, AreToldBefore, WasInTurn, IsSeen, AllSeen, IsSeated, HasWordsAt, AllHaveWords}
use Rattle.pt_signal.specs.declared.config.Config.{Config}
use Rattle.pt_shard.specs.Outbox.{sent_on_some}
use Rattle.pt_shard.specs.Fit.{IsFit}
use Rattle.pt_desk.specs.DeskState.{IsDesk, IsAccounted}
use Rattle.pt_desk.proofs.Accounts.{accounted_by, accounted_looking, accounted_met}
use Rattle.pt_desk.proofs.Posted.{of_parts}

abbrev pub sight_of : DirectoryState → SeatState → DeskTable → Sight
sight_of directory seat before = record { directory = directory; reads = seat.reads; before = before; told = seat.marked }

-- the ends that a desk's seat told, all of them
abbrev pub deaths_of : ShardState → Sight → List Death
deaths_of s v = deaths_in v.told s.start s.journal

-- what holds of a desk's parts
abbrev pub IsWhole : ShardState → OutEnds → InEnds → Sight → SeatState → Type 0
IsWhole s o i v seat = IsDesk (of_parts s o i v) × (seat ≡ seat_of s v)

-- a desk after one more event --------------------------------------------------------

-- with any pid vacant
abbrev pub next_shard : ℕ → Event → Option Pid → ShardState → ShardState
next_shard n event vacant s = record (written n event s) { vacant = vacant }

pub seated_written : (s : ShardState) (v : Sight) (n : ℕ) (event : Event) (vacant : Option Pid) → IsSeated s v → IsSeen v.reads n event → HasWordsAt s.config.slots event → IsSeated (next_shard n event vacant s) v
seated_written s v n event vacant h seen words = record { desks = h.desks; slots = h.slots; near = h.near; seen = (seen, h.seen); words = (words, h.words); told = h.told; unread = h.unread; old = h.old; turns = h.turns }

pub seat_written : (s : ShardState) (v : Sight) (n : ℕ) (event : Event) (vacant : Option Pid) → ended_in s.start (past s) event ≡ None → seat_of (next_shard n event vacant s) v ≡ seat_of s v
seat_written s v n event vacant none =
    ap (λ ds. record { name = v.directory.name; homes = s.number ∷ []; reads = v.reads; deaths = ds; marked = v.told })
    (ap (λ o. deaths_of s v ++ death_by o n) none ∙ append-nil (deaths_of s v))

pub seat_ended : (s : ShardState) (v : Sight) (n : ℕ) (event : Event) (p : Pid) (vacant : Option Pid) → ended_in s.start (past s) event ≡ Some p
    → seat_of (next_shard n event vacant s) v ≡ add_death (death_of p n) (seat_of s v)
seat_ended s v n event p vacant ends =
    ap (λ o. record { name = v.directory.name; homes = s.number ∷ []; reads = v.reads; deaths = deaths_of s v ++ death_by o n; marked = v.told }) ends

-- a desk that posted, or took a letter into its hold or out of it -----------------------

-- neither the sight nor the seat is touched where number, settings and journal stay
pub record SameJournal (s s' : ShardState) : Type 0 where
  pub start : s'.start ≡ s.start
  pub number : s'.number ≡ s.number
  pub config : s'.config ≡ s.config
  pub journal : s'.journal ≡ s.journal

-- a desk that is one whose start, number, settings and journal are those of another
pub same_journal : (s x s' : ShardState) → x.start ≡ s.start → x.number ≡ s.number → x.config ≡ s.config → x.journal ≡ s.journal → s' ≡ x → SameJournal s s'
same_journal s x s' start number config journal is = record {
  start = ap (λ (z : ShardState). z.start) is ∙ start;
  number = ap (λ (z : ShardState). z.number) is ∙ number;
  config = ap (λ (z : ShardState). z.config) is ∙ config;
  journal = ap (λ (z : ShardState). z.journal) is ∙ journal;
}

pub same_seated : (s s' : ShardState) (v : Sight) → SameJournal s s' → IsSeated s v → IsSeated s' v
same_seated s s' v same h = record {
  desks = h.desks ∙ sym (ap (λ (c : Config). c.desks) same.config);
  slots = h.slots ∙ sym (ap (λ (c : Config). c.slots) same.config);
  near = λ k r at. subst (λ (c : Config). r.shard < c.desks) (sym same.config) (h.near k r at);
  seen = subst (AllSeen v.reads) (sym same.journal) h.seen;
  words = subst (λ j. AllHaveWords s'.config.slots j) (sym same.journal) (subst (λ (c : Config). AllHaveWords c.slots s.journal) (sym same.config) h.words);
  told = subst (λ n. IsTableOf s'.start n [] v.before) (sym same.number) (subst (λ b. IsTableOf b s.number [] v.before) (sym same.start) h.told);
  unread = h.unread;
  old = subst (λ (c : Config). AreToldBefore s'.start c.start s'.number v.told) (sym same.config) (subst (λ n. AreToldBefore s'.start s.config.start n v.told) (sym same.number) (subst (λ b. AreToldBefore b s.config.start s.number v.told) (sym same.start) h.old));
  turns =
      subst (λ (c : Config). (p : Pid) → is_unborn (at_start s'.start p) ≡ false → WasInTurn s'.start c.slots p) (sym same.config)
      (subst (λ b. (p : Pid) → is_unborn (at_start b p) ≡ false → WasInTurn b s.config.slots p) (sym same.start) h.turns);
}

pub same_seat : (s s' : ShardState) (v : Sight) → SameJournal s s' → seat_of s' v ≡ seat_of s v
same_seat s s' v same i = record { name = v.directory.name; homes = same.number i ∷ []; reads = v.reads; deaths = deaths_in v.told (same.start i) (same.journal i); marked = v.told }

pub same_whole : (s s' : ShardState) (o o' : OutEnds) (i i' : InEnds) (v : Sight) (seat : SeatState) → SameJournal s s' → IsFit s' → IsAccounted s' o' i' → IsWhole s o i v seat → IsWhole s' o' i' v seat
same_whole s s' o o' i i' v seat same fit accounts whole =
    (record { fit = fit; accounts = accounts; seated = same_seated s s' v same whole.0.seated }, whole.1 ∙ sym (same_seat s s' v same))

pub posted_whole : (s s' : ShardState) (o o' : OutEnds) (i : InEnds) (v : Sight) (seat : SeatState) (e count : ℕ) → s' ≡ sent_on_some e count s → IsFit s' → IsAccounted s' o' i → IsWhole s o i v seat → IsWhole s' o' i v seat
posted_whole s s' o o' i v seat e count after fit accounts whole =
    same_whole s s' o o' i i v seat
    (same_journal _ _ _ refl refl refl refl after)
    fit accounts whole

-- a desk that keeps what it loses or does not, or of which another loss was told
pub lost_whole : (s s' : ShardState) (o : OutEnds) (i : InEnds) (v : Sight) (seat : SeatState) (keeps : Bool) (lost : List Loss)
    → s' ≡ record s { keeps = keeps; lost = lost } → IsFit s' → IsWhole s o i v seat → IsWhole s' o i v seat
lost_whole s s' o i v seat keeps lost after fit whole =
    same_whole s s' o o i i v seat
    (same_journal _ _ _ refl refl refl refl after)
    fit
    (subst (λ z. IsAccounted z o i) (sym after) (accounted_by s _ o i whole.0.accounts refl refl whole.0.accounts.posted whole.0.accounts.collected))
    whole

-- a desk whose ends looked at each other
pub met_whole : (s : ShardState) (o o' : OutEnds) (i i' : InEnds) (v : Sight) (seat : SeatState) → out_kept o' ≡ out_kept o → in_kept i' ≡ in_kept i → IsWhole s o i v seat → IsWhole s o' i' v seat
met_whole s o o' i i' v seat outs ins whole =
    (record { fit = whole.0.fit; accounts = accounted_met s o o' i i' whole.0.accounts outs ins; seated = whole.0.seated }, whole.1)

-- a desk that looks at another lane first
pub looking_whole : (s : ShardState) (o : OutEnds) (i i' : InEnds) (v : Sight) (seat : SeatState) (k : ℕ) → i' ≡ looking_from k i → IsWhole s o i v seat → IsWhole s o i' v seat
looking_whole s o i i' v seat k is whole =
    (record { fit = whole.0.fit; accounts = subst (IsAccounted s o) (sym is) (accounted_looking s o i k whole.0.accounts); seated = whole.0.seated }, whole.1)

-- a desk after one more read ---------------------------------------------------------

abbrev pub with_read : Read → Sight → Sight
with_read r v = record { directory = v.directory; reads = v.reads ++ r ∷ []; before = v.before; told = v.told }

still_seen : (rs : List Read) (x : Read) (n : ℕ) (e : Event) → IsSeen rs n e → IsSeen (rs ++ x ∷ []) n e
still_seen rs x n (Refused a b) (k, r, t, at, end, stamp, later) = (k, r, t, at_longer rs (x ∷ []) k r at, end, stamp, later)
still_seen rs x n _ h = tt

all_still_seen : (rs : List Read) (x : Read) (journal : List Stamped) → AllSeen rs journal → AllSeen (rs ++ x ∷ []) journal
all_still_seen rs x [] h = tt
all_still_seen rs x (s ∷ journal) h = (still_seen rs x s.stamp s.event h.0, all_still_seen rs x journal h.1)

near_more : (desks : ℕ) (rs : List Read) (x : Read) → x.shard < desks → ((k : ℕ) (r : Read) → get_elem? rs k ≡ some r → r.shard < desks)
    → (k : ℕ) (r : Read) → get_elem? (rs ++ x ∷ []) k ≡ some r → r.shard < desks
near_more desks rs x here h k r at =
    elim (at_append rs (x ∷ []) k r at) [
      | inl before ↦ h k r before
      | inr now ↦ subst (λ (y : Read). y.shard < desks) (at_single x r now.0 now.1) here
    ]

pub seated_read : (s : ShardState) (v : Sight) (x : Read) → x.shard < s.config.desks → IsSeated s v → IsSeated s (with_read x v)
seated_read s v x here h = record {
  desks = h.desks;
  slots = h.slots;
  near = near_more s.config.desks v.reads x here h.near;
  seen = all_still_seen v.reads x s.journal h.seen;
  words = h.words;
  told = h.told;
  unread = h.unread;
  old = h.old;
  turns = h.turns;
}

-- the read by which a call was refused
pub seen_now : (rs : List Read) (p t : Pid) (found seen n : ℕ) → 0 < t.version → t.version ≤ found → seen < n → IsSeen (rs ++ new_read t.shard t.slot found (Some seen) ∷ []) n (Refused p t)
seen_now rs p t found seen n issued version later =
    let x = new_read t.shard t.slot found (Some seen) in
    let last = at_behind rs (x ∷ []) 0 x refl in
    (last.0, x, seen, last.1, record { shard = refl; slot = refl; issued = issued; version = version }, refl, later)
