-- A desk that handles a letter is whole afterwards, and is as the receipt makes it.
use Rattle.std.proofs.Common.{◌≡◌, ℕ, ◌+◌, ◌^◌, ◌<◌, ◌≤◌, max, Bool, true, false, cond, [], ◌∷◌, length, map, Option, Some, None, is_some, refl, sym, ap, ◌∙◌, subst, append-nil, arith}
use Rattle.std.specs.Prelude.{IsSome, count_by}
use Rattle.std.specs.Option.{option_to_list}
use Rattle.pt_signal.specs.declared.pid.Pid.{Pid}
use Rattle.pt_signal.specs.declared.letter.Letter.{Letter}
use Rattle.pt_signal.specs.declared.reason.Reason.{Reason}
use Rattle.pt_signal.specs.declared.signal.Signal.{Signal}
use Rattle.pt_signal.specs.Values.{same_pid}
use Rattle.pt_signal.specs.Process.{ProcessState, handle, sent, bounce}
use Rattle.pt_signal.proofs.Same.{same_pid_refl, same_pid_is}
use Rattle.pt_events.proofs.Handling.{living_answer, handle_answer}
use Rattle.pt_events.specs.History.{Phase, unborn, living, ended, life, gets, live_or_end, got_sends, sent_by}
use Rattle.pt_events.specs.Journal.{letter}
use Rattle.pt_process.specs.ProcessView.{Owing}
use Rattle.pt_shard.specs.ShardState as shards
use Rattle.pt_shard.specs.declared.loss.Loss.TheVariants.{Exited}
use Rattle.pt_shard.specs.Losses.{lost_at, stray}
use Rattle.pt_shard.specs.ShardState.{past, came_event, vacated, ended_by, lost_by}
use Rattle.pt_shard.specs.LedgerState.{Book, wrote, losing}
use Rattle.pt_shard.specs.Sound.{of_phase, live_process, Every}
use Rattle.pt_shard.specs.Processes.{Table, ProcessesState, process_at, in_place, changed, vacant_at, Changes, Ends, SameSettings}
use Rattle.pt_shard.specs.Deliveries.{Receiver, unless_ended, remains, is_ended_by, letter_replies, letter_loss}
use Rattle.pt_shard.specs.Whole.{Parts, parts_of, shard_of, IsWhole}
use Rattle.pt_shard.specs.Backs.{living_back}
use Rattle.pt_shard.proofs.Births.{issued_kept, issued_same}
use Rattle.pt_shard.proofs.Frames.{IsPut, put_one}
use Rattle.pt_signal.specs.declared.signal.Signal.TheVariants.{AliveAsk}
use Rattle.pt_shard.proofs.Endings.{fewer_owed, estate_peers}
use Rattle.pt_process.specs.Peers.{peers_held}
use Rattle.pt_shard.proofs.Keeps.{IsLawful, sent_near}
use Rattle.pt_slots.specs.Offers.{OffersTheFree}
use Rattle.pt_shard.proofs.Vacancy.{offers_changed}
use Rattle.pt_shard.proofs.Acting.{Outcome, outcome, Found, stands, both, put_by_pid, same_settings, vacant_next, option_pid, owes_is, put_there}

-- what the journal says a letter does, by what stands in the slot of its receiver ---------------

ended_or_not : (p : Pid) (o : Option Reason) (s : ProcessState) → of_phase p (live_or_end o s) ≡ unless_ended o p s
ended_or_not p None s = refl
ended_or_not p (Some r) s = refl

gets_is : (l : Letter) (f : Phase) → of_phase l.to (gets l.to l.from l.signal f) ≡ remains l (of_phase l.to f)
gets_is l unborn = refl
gets_is l (living s) = ended_or_not l.to (handle l.to s l.from l.signal).ending (handle l.to s l.from l.signal).state
gets_is l (ended r s) = refl

got_is : (l : Letter) (f : Phase) → got_sends f l.to l.from l.signal ≡ letter_replies l (of_phase l.to f)
got_is l (living s) = refl
got_is l f = refl

ends_is : (l : Letter) (f : Phase) → shards.is_ended_by f l.to l.from l.signal ≡ is_ended_by l (of_phase l.to f)
ends_is l (living s) = refl
ends_is l f = refl

lost_is : (l : Letter) (f : Phase) → lost_at f l.to l.from l.signal ≡ letter_loss l (of_phase l.to f)
lost_is l (living s) = refl
lost_is l f = refl

-- the receipt --------------------------------------------------------------------------------

abbrev pub receipt_stamp : Parts → Letter → ℕ
receipt_stamp a l = max a.book.clock l.stamp + 1

abbrev pub standing : Parts → Letter → Receiver
standing a l = process_at a.processes.desk a.processes.table l.to

-- what the receipt does to the slots
pub record Delivers (a : Parts) (l : Letter) (table : Table) : Type 0 where
  pub live : (q : Pid) → process_at a.processes.desk table q ≡ cond (same_pid q l.to) (remains l (standing a l)) (process_at a.processes.desk a.processes.table q)
  pub settings : SameSettings a.processes.table table
  pub offers : OffersTheFree table
  pub vacant : vacant_at a.processes.desk table ≡ vacated a.config.top_version (cond (is_ended_by l (standing a l)) (Some l.to) None) (vacant_at a.processes.desk a.processes.table)

module _ (a : Parts) (whole : IsWhole a) (l : Letter) (here : l.to.shard ≡ a.processes.desk) (near : l.from.shard < a.config.desks) (can : max a.book.clock l.stamp < 2 ^ 62) where
  there : standing a l ≡ of_phase l.to (life a.book.start (past (shard_of a)) l.to)
  there = whole.sound.processes l.to

  module _ (book : Book) (processes : ProcessesState) (desk : processes.desk ≡ a.processes.desk) where
    lawful : Delivers a l processes.table → IsLawful a whole (receipt_stamp a l) (came_event l) processes.table
    lawful delivers = record {
      later = omega arith;
      fits = omega (arith, can);
      home = here;
      may = tt;
      new_at = tt;
      known = tt;
      near = near;
      processes =
          let comes : live_process a.book.start (came_event l ∷ past (shard_of a)) l.to ≡ remains l (standing a l) = rw (same_pid_refl l.to, there) (gets_is l (life a.book.start (past (shard_of a)) l.to)) in
          put_one a.book.start (past (shard_of a)) (came_event l) l.to (λ q. refl) (process_at a.processes.desk a.processes.table) (process_at a.processes.desk processes.table) whole.sound.processes
          (subst (λ v. IsPut l.to v (process_at a.processes.desk a.processes.table) (process_at a.processes.desk processes.table)) (sym comes) delivers.live);
      issues = λ slot. delivers.settings.issues slot ∙ whole.sound.issues slot ∙ sym (issued_same a.book.start (past (shard_of a)) (came_event l) slot refl);
      born = issued_kept a.book.start a.processes.desk (past (shard_of a)) (came_event l) refl whole.sound.born;
      offers = delivers.offers;
      capacity = delivers.settings.capacity;
      top_version = delivers.settings.top_version;
    }

    ended_here : ended_by (shard_of a) (came_event l) ≡ cond (is_ended_by l (standing a l)) (Some l.to) None
    ended_here = ap (λ b. cond b (Some l.to) None) (ends_is l (life a.book.start (past (shard_of a)) l.to) ∙ sym (ap (is_ended_by l) there))

    delivered : Delivers a l processes.table → book ≡ losing (letter_loss l (standing a l)) (wrote (receipt_stamp a l) (came_event l) (map (letter (receipt_stamp a l)) (letter_replies l (standing a l))) a.book)
        → Outcome a (parts_of a.config book processes) (receipt_stamp a l) (came_event l)
    delivered delivers is =
        let replied : letter_replies l (standing a l) ≡ sent_by a.book.start (past (shard_of a)) (came_event l) = ap (letter_replies l) there ∙ sym (got_is l (life a.book.start (past (shard_of a)) l.to)) in
        let lost : letter_loss l (standing a l) ≡ lost_by (shard_of a) (came_event l) = ap (letter_loss l) there ∙ sym (lost_is l (life a.book.start (past (shard_of a)) l.to)) in
        outcome a whole (receipt_stamp a l) (came_event l) book processes desk (lawful delivers)
        (is
        ∙ ap (λ o. losing (letter_loss l (standing a l)) (wrote (receipt_stamp a l) (came_event l) (map (letter (receipt_stamp a l)) o) a.book)) replied
        ∙ ap (λ o. losing o (wrote (receipt_stamp a l) (came_event l) (map (letter (receipt_stamp a l)) (sent_by a.book.start (past (shard_of a)) (came_event l))) a.book)) lost)
        (delivers.vacant ∙ ap (λ o. vacated a.config.top_version o (vacant_at a.processes.desk a.processes.table)) (sym ended_here))

    -- a receiver that is not alive
    pub bounced : processes.table ≡ a.processes.table → standing a l ≡ None
        → book ≡ losing (stray l.to l.from l.signal) (wrote (receipt_stamp a l) (came_event l) (map (letter (receipt_stamp a l)) (bounce l.to l.from l.signal)) a.book)
        → Outcome a (parts_of a.config book processes) (receipt_stamp a l) (came_event l)
    bounced same none is =
        delivered
        (subst (Delivers a l) (sym same) (record {
          live = λ q. still q (same_pid q l.to) refl;
          settings = same_settings a.processes.table;
          offers = whole.offers;
          vacant = rw none refl;
        }))
        (is ∙ ap (λ o. losing (letter_loss l o) (wrote (receipt_stamp a l) (came_event l) (map (letter (receipt_stamp a l)) (letter_replies l o)) a.book)) (sym none))
      where
        still : (q : Pid) (b : Bool) → same_pid q l.to ≡ b → process_at a.processes.desk a.processes.table q ≡ cond (same_pid q l.to) (remains l (standing a l)) (process_at a.processes.desk a.processes.table q)
        still q true h = rw (h, none) (ap (process_at a.processes.desk a.processes.table) (same_pid_is q l.to h) ∙ none)
        still q false h = rw h refl

    module _ (f : Found a l.to) where
      stands_there : standing a l ≡ Some (l.to, f.s)
      stands_there = sym f.there ∙ ap (λ x. Some (x, f.s)) (both a whole l.to f).1

      place : in_place a.processes.table l.to ≡ Some (l.to, f.s)
      place = (stands a whole l.to f).1

      -- a live receiver that goes on
      pub taken_in : (handle f.me f.s l.from l.signal).ending ≡ None → Changes l.to (λ me s. (handle me s l.from l.signal).state) a.processes.table processes.table
          → book ≡ wrote (receipt_stamp a l) (came_event l) (map (letter (receipt_stamp a l)) (living_answer l.to l.from l.signal)) a.book
          → Outcome a (parts_of a.config book processes) (receipt_stamp a l) (came_event l)
      taken_in goes_on changes is =
          let none : (handle l.to f.s l.from l.signal).ending ≡ None = ap (λ m. (handle m f.s l.from l.signal).ending) (sym (both a whole l.to f).1) ∙ goes_on in
          let stays : remains l (standing a l) ≡ changed (λ me s. (handle me s l.from l.signal).state) (in_place a.processes.table l.to) = rw (stands_there, place, none) refl in
          let nothing : letter_loss l (standing a l) ≡ None = rw (stands_there, none) refl in
          let back : letter_replies l (standing a l) ≡ living_answer l.to l.from l.signal = rw (stands_there, none, handle_answer l.to f.s l.from l.signal) (append-nil (living_answer l.to l.from l.signal)) in
          delivered
          (record {
            live = subst (λ v. IsPut l.to v (process_at a.processes.desk a.processes.table) (process_at a.processes.desk processes.table)) (sym stays) (put_by_pid a.processes.desk l.to _ a.processes.table processes.table here changes.puts);
            settings = changes.puts.settings;
            offers = offers_changed l.to _ a.processes.table processes.table whole.offers changes;
            vacant = rw (stands_there, none) (ap (option_pid a.processes.desk) changes.next);
          })
          (is
          ∙ ap (λ o. wrote (receipt_stamp a l) (came_event l) (map (letter (receipt_stamp a l)) o) a.book) (sym back)
          ∙ ap (λ o. losing o (wrote (receipt_stamp a l) (came_event l) (map (letter (receipt_stamp a l)) (letter_replies l (standing a l))) a.book)) (sym nothing))

-- a signal that ends a process is not answered
ending_unanswered : (me : Pid) (s : ProcessState) (from : Pid) (x : Signal) (r : Reason) → (handle me s from x).ending ≡ Some r → living_answer me from x ≡ []
ending_unanswered me s from (AliveAsk m) r h = absurd (cc)
ending_unanswered me s from x r h = refl

-- a live receiver that ends
module _ (a : Parts) (whole : IsWhole a) (l : Letter) (here : l.to.shard ≡ a.processes.desk) (near : l.from.shard < a.config.desks) (can : max a.book.clock l.stamp < 2 ^ 62)
    (f : Found a l.to) (r : Reason) (ends_it : (handle f.me f.s l.from l.signal).ending ≡ Some r)
    (mid last : ProcessesState) (desk : mid.desk ≡ a.processes.desk) (desk' : last.desk ≡ mid.desk)
    (changes : Changes l.to (λ me s. (handle me s l.from l.signal).state) a.processes.table mid.table) (owing : Owing) (ends : Ends l.to r owing mid.table last.table) where
  stands_here : standing a l ≡ Some (l.to, f.s)
  stands_here = sym f.there ∙ ap (λ x. Some (x, f.s)) (both a whole l.to f).1

  abbrev after : ProcessState
  after = (handle l.to f.s l.from l.signal).state

  ending_is : (handle l.to f.s l.from l.signal).ending ≡ Some r
  ending_is = ap (λ m. (handle m f.s l.from l.signal).ending) (sym (both a whole l.to f).1) ∙ ends_it

  in_mid : in_place mid.table l.to ≡ Some (l.to, after)
  in_mid = put_there l.to _ a.processes.table mid.table changes.puts ∙ ap (changed (λ me s. (handle me s l.from l.signal).state)) (stands a whole l.to f).1

  owed_is : owing.owed ≡ letter_replies l (standing a l)
  owed_is =
      let silent : (handle l.to f.s l.from l.signal).answer ≡ [] = handle_answer l.to f.s l.from l.signal ∙ ending_unanswered l.to f.s l.from l.signal r ending_is in
      ap (λ o. o.owed) (owes_is l.to r owing mid.table last.table after in_mid ends) ∙ rw (stands_here, silent, ending_is) refl

  pub owed_near : Every (λ x. x.to.shard < length a.book.outbox) owing.owed
  owed_near =
      let sent_is : letter_replies l (standing a l) ≡ sent_by a.book.start (past (shard_of a)) (came_event l)
      = ap (letter_replies l) (whole.sound.processes l.to) ∙ sym (got_is l (life a.book.start (past (shard_of a)) l.to)) in
      subst (λ n. Every (λ x. x.to.shard < n) owing.owed) (sym whole.sound.fit.boxes)
      (subst (Every (λ x. x.to.shard < a.config.desks)) (sym (owed_is ∙ sent_is)) (sent_near a whole (came_event l) near))

  pub owed_counted : (P : Pid → Bool) → count_by P (map (λ x. x.to) owing.owed) ≤ count_by P (peers_held f.s)
  owed_counted P =
      let fewer = fewer_owed P l.to f.s l.from r l.signal ending_is in
      let now : map (λ x. x.to) owing.owed ≡ peers_held after
      = ap (λ o. map (λ x. x.to) o.owed) (owes_is l.to r owing mid.table last.table after in_mid ends) ∙ estate_peers l.to after r in
      rw now fewer

  pub owing_from : owing.from ≡ l.to
  owing_from = ap (λ o. o.from) (owes_is l.to r owing mid.table last.table after in_mid ends)

  lost_here : Some (Exited l.to r owing.waiting) ≡ letter_loss l (standing a l)
  lost_here = ap (λ o. Some (Exited l.to r o.waiting)) (owes_is l.to r owing mid.table last.table after in_mid ends) ∙ rw (stands_here, ending_is) refl

  pub ended_outcome : (book : Book) → book ≡ losing (Some (Exited l.to r owing.waiting)) (wrote (receipt_stamp a l) (came_event l) (map (letter (receipt_stamp a l)) owing.owed) a.book)
      → Outcome a (parts_of a.config book last) (receipt_stamp a l) (came_event l)
  ended_outcome book is =
      let gone : remains l (standing a l) ≡ None = rw (stands_here, ending_is) refl in
      delivered a whole l here near can book last (desk' ∙ desk)
      (record {
        live = λ q. go q (same_pid q l.to) refl gone;
        settings = record {
          issues = λ slot. ends.puts.settings.issues slot ∙ changes.puts.settings.issues slot;
          capacity = ends.puts.settings.capacity ∙ changes.puts.settings.capacity;
          top_version = ends.puts.settings.top_version ∙ changes.puts.settings.top_version;
        };
        offers = ends.offers;
        vacant =
            vacant_next a.processes.desk a.config.top_version l.to mid.table last.table here (changes.puts.settings.top_version ∙ whole.top_version) ends.next
            ∙ ap (vacated a.config.top_version (Some l.to)) (ap (option_pid a.processes.desk) changes.next)
            ∙ ap (λ b. vacated a.config.top_version (cond b (Some l.to) None) (vacant_at a.processes.desk a.processes.table)) (sym ends_now);
      })
      (is
      ∙ ap (λ o. losing (Some (Exited l.to r owing.waiting)) (wrote (receipt_stamp a l) (came_event l) (map (letter (receipt_stamp a l)) o) a.book)) owed_is
      ∙ ap (λ o. losing o (wrote (receipt_stamp a l) (came_event l) (map (letter (receipt_stamp a l)) (letter_replies l (standing a l))) a.book)) lost_here)
    where
      ends_now : is_ended_by l (standing a l) ≡ true
      ends_now = rw (stands_here, ending_is) refl

      go : (q : Pid) (b : Bool) → same_pid q l.to ≡ b → remains l (standing a l) ≡ None → process_at a.processes.desk last.table q ≡ cond (same_pid q l.to) (remains l (standing a l)) (process_at a.processes.desk a.processes.table q)
      go q true h gone = put_by_pid a.processes.desk l.to None mid.table last.table here ends.puts q ∙ rw (h, gone) refl
      go q false h gone = put_by_pid a.processes.desk l.to None mid.table last.table here ends.puts q ∙ rw h (put_by_pid a.processes.desk l.to _ a.processes.table mid.table here changes.puts q ∙ rw h refl)

-- who ended by it ------------------------------------------------------------------------------

module _ (a : Parts) (whole : IsWhole a) (l : Letter) where
  pub nobody_ends : process_at a.processes.desk a.processes.table l.to ≡ None → None ≡ ended_by (shard_of a) (came_event l)
  nobody_ends none =
      sym (ap (λ b. cond b (Some l.to) None) (ends_is l (life a.book.start (past (shard_of a)) l.to) ∙ sym (ap (is_ended_by l) (whole.sound.processes l.to)) ∙ ap (is_ended_by l) none))

  pub who_ends : (f : Found a l.to) (o : Option Reason) → (handle f.me f.s l.from l.signal).ending ≡ o → cond (is_some o) (Some l.to) None ≡ ended_by (shard_of a) (came_event l)
  who_ends f o is =
      sym (ap (λ b. cond b (Some l.to) None) (ends_is l (life a.book.start (past (shard_of a)) l.to) ∙ sym (ap (is_ended_by l) (whole.sound.processes l.to))
      ∙ ap (is_ended_by l) (sym f.there) ∙ ap is_some is))

-- what the ledger wrote -----------------------------------------------------------------------

pub receipt_book : (a : Parts) (l : Letter) (prepared book : Book) (back : Option Signal) → prepared ≡ a.book
    → book ≡ wrote (max prepared.clock l.stamp + 1) (came_event l) (map (letter (max prepared.clock l.stamp + 1)) (map (sent l.to l.from) (option_to_list back))) prepared
    → book ≡ wrote (receipt_stamp a l) (came_event l) (map (letter (receipt_stamp a l)) (map (sent l.to l.from) (option_to_list back))) a.book
receipt_book a l prepared book back same is =
    subst (λ (b : Book). book ≡ wrote (max b.clock l.stamp + 1) (came_event l) (map (letter (max b.clock l.stamp + 1)) (map (sent l.to l.from) (option_to_list back))) b) same is

pub living_back_is : (me from : Pid) (x : Signal) → map (sent me from) (option_to_list (living_back x)) ≡ living_answer me from x
living_back_is me from (AliveAsk m) = refl
living_back_is me from x = refl

pub still_in_mid : (a : Parts) (whole : IsWhole a) (l : Letter) (f : Found a l.to) (mid : ProcessesState) → Changes l.to (λ me s. (handle me s l.from l.signal).state) a.processes.table mid.table → IsSome (in_place mid.table l.to)
still_in_mid a whole l f mid changes =
    subst IsSome (sym (put_there l.to _ a.processes.table mid.table changes.puts ∙ ap (changed (λ me s. (handle me s l.from l.signal).state)) (stands a whole l.to f).1)) refl
