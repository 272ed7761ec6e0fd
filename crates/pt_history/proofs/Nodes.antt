-- The law of custody at a node that is gathered, settled or resumed.
use Rattle.std.proofs.Common.{◌≡◌, ⊎_elim, ℕ, ◌<◌, ◌≤◌, ◌==◌, ◌&&◌, Bool, true, false, List, [], ◌∷◌, ◌++◌, length, map, filter, get_or, refl, sym, ap, ◌∙◌, subst, append-nil, eq-eqb, arith}
use Rattle.std.proofs.lemmas.Bool.{and_parts, both_ways, cases_lt}
use Rattle.std.proofs.lemmas.List.{get_or-map, length-map}
use Rattle.std.proofs.lemmas.List.Concat.{flat_map-append}
use Rattle.pt_signal.specs.declared.pid.Pid.{Pid}
use Rattle.pt_signal.specs.declared.config.Config.{Config}
use Rattle.pt_signal.specs.declared.item.Body.{Body}
use Rattle.pt_signal.specs.declared.item.Item.{Item}
use Rattle.pt_signal.specs.declared.letter.Letter.{Letter}
use Rattle.pt_signal.specs.Values.{same_pid}
use Rattle.pt_signal.specs.Process.{Sent}
use Rattle.pt_signal.proofs.Same.{same_pid_is}
use Rattle.pt_events.specs.declared.event.Stamped.{Stamped}
use Rattle.pt_events.specs.History.{Past, at_start, life, flight, flying, is_between}
use Rattle.pt_events.specs.Journal.{IsLocal, IsMerge, content, events, in_lane}
use Rattle.pt_events.specs.Forgetting.{reasonless}
use Rattle.pt_events.specs.Leaving.{start_after}
use Rattle.pt_events.specs.Locality.{AllHome}
use Rattle.pt_events.specs.Takes.{taken}
use Rattle.pt_events.proofs.Forgetting.{forgets_each}
use Rattle.pt_events.proofs.Leaving.{leaves_each}
use Rattle.pt_events.proofs.Telling.{all_home, says}
use Rattle.pt_laws.specs.Laws.{LanesFly, MergeLegal}
use Rattle.pt_laws.specs.ResumedLaws.{StampsAreNew}
use Rattle.pt_laws.specs.Sender.{body_of, messages, said_messages, users}
use Rattle.pt_laws.proofs.living.Resumed.{known}
use Rattle.pt_laws.proofs.order.Flight.{between}
use Rattle.pt_beginning.specs.Beginning.{start_of}
use Rattle.pt_shard.specs.declared.loss.Loss.{Loss}
use Rattle.pt_shard.specs.Losses.{losses}
use Rattle.pt_shard.specs.Restart.{forgetful, restarted}
use Rattle.pt_shard.specs.ShardState.{ShardState, past, phase_of}
use Rattle.pt_gathered.specs.Gathered.{GatheredState, IsGathered, begins, journals, over}
use Rattle.pt_gathered.specs.Pasts.{GoesOnBut, IsOutlineOf}
use Rattle.pt_gathered.specs.Quiet.{latest_stamp}
use Rattle.pt_gathered.specs.Settling.{NothingLeft, Settles}
use Rattle.pt_gathered.proofs.Lawful.{locals}
use Rattle.pt_gathered.proofs.Overs.{over_both, over_left}
use Rattle.pt_gathered.proofs.Owned.{life_same}
use Rattle.pt_gathered.proofs.Pasts.{legal_outline, outline}
use Rattle.pt_gathered.proofs.Starts.{start_same}
use Rattle.pt_gathered.proofs.Told.{journal_of}
use Rattle.pt_desk.specs.DeskState.{DeskState}
use Rattle.pt_desk.specs.Forgetting.{forgetful_desk}
use Rattle.pt_workers.specs.Desks.{all_shards}
use Rattle.pt_node.specs.Gathering.{Gathers}
use Rattle.pt_node.specs.Pasts.{GoOnBut}
use Rattle.pt_node.specs.Resuming.{Resumes, ResumesForgetful}
use Rattle.pt_node.proofs.Pasts.{gathers_outline}
use Rattle.pt_history.specs.Custody.{mailbox, all_lost_to, lost_to, messages_in, CustodyHolds, HasEachOnce}
use Rattle.pt_history.specs.Nodes.{HasEachSince, NodePauses, PausesKeep, PausesTell, ForgotNothing, TellsAll, TellingStays}
use Rattle.pt_history.proofs.Standing.{losses_local, losses_over, losses_same, mailbox_but, mailbox_left, mailbox_over}

-- what is in flight is what is left over ------------------------------------------------------------------

module _ (a p : Pid) where
  -- a letter of the pair is in their lane
  its_lane : (l : Sent) → is_between a p l ≡ true → in_lane a.shard p.shard l ≡ true
  its_lane l h =
      let k = and_parts _ _ h in
      let from : (l.from.shard == a.shard) ≡ true = eq-eqb _ _ (ap (λ q. q.shard) (sym (same_pid_is a l.from k.0))) in
      let to : (l.to.shard == p.shard) ≡ true = eq-eqb _ _ (ap (λ q. q.shard) (sym (same_pid_is p l.to k.1))) in
      rw (from, to) refl

  of_lane : (ls : List Sent) → between a p (filter (in_lane a.shard p.shard) ls) ≡ between a p ls
  of_lane [] = refl
  of_lane (l ∷ ls) = go (is_between a p l) refl (in_lane a.shard p.shard l) refl (of_lane ls)
    where
      go : (b : Bool) → is_between a p l ≡ b → (c : Bool) → in_lane a.shard p.shard l ≡ c → between a p (filter (in_lane a.shard p.shard) ls) ≡ between a p ls
          → between a p (filter (in_lane a.shard p.shard) (l ∷ ls)) ≡ between a p (l ∷ ls)
      go true e true f ih = rw (f, e) (ap (λ z. l.signal ∷ z) ih)
      go false e true f ih = rw (f, e) ih
      go false e false f ih = rw (f, e) ih
      go true e false f ih = absurd (both_ways _ f (its_lane l e))

  of_letters : (ls : List Letter) → messages_in (between a p (map content ls)) ≡ messages a p ls
  of_letters [] = refl
  of_letters (l ∷ ls) = go (same_pid a l.from && same_pid p l.to) refl (of_letters ls)
    where
      go : (b : Bool) → (same_pid a l.from && same_pid p l.to) ≡ b → messages_in (between a p (map content ls)) ≡ messages a p ls
          → messages_in (between a p (map content (l ∷ ls))) ≡ messages a p (l ∷ ls)
      go true e ih = rw e (ap (λ z. body_of l.signal ++ z) ih)
      go false e ih = rw e ih

  pub left_over : (g : GatheredState) (whole : Past) → LanesFly [] whole (over g) → messages_in (flight [] whole a p) ≡ messages a p (over g a.shard p.shard)
  left_over g whole flies =
      ap messages_in (sym (of_lane (flying [] whole)) ∙ ap (between a p) (flies a.shard p.shard)) ∙ of_letters (over g a.shard p.shard)

-- the five lists may be told by others that are equal ------------------------------------------------------

told_by : (p : Pid) (sent one two : Pid → List Body) (took waiting other lost : List Item) → ((a : Pid) → one a ≡ two a) → waiting ≡ other
    → HasEachOnce p sent took waiting lost one → HasEachOnce p sent took other lost two
told_by p sent one two took waiting other lost ways waits h = record {
  came = h.came;
  sent_is = λ a. h.sent_is a ∙ ap (λ z. users a p (map (λ c. c.0) h.came) ++ z) (ways a);
  taken_are = h.taken_are;
  waiting_are = h.waiting_are ∙ waits;
  lost_are = h.lost_are;
}

-- a gathered node ------------------------------------------------------------------------------------------

module _ (g : GatheredState) (node : IsGathered g) (before : Past) (from : GoesOnBut before g) (merged : List Stamped) (merge : IsMerge (journals g) merged) where
  abbrev whole : Past
  whole = events merged ++ before

  known_so : (q : Pid) → reasonless (at_start (begins g) q) ≡ reasonless (life [] before q)
  known_so = subst (λ (b : Past). (q : Pid) → reasonless (at_start (begins g) q) ≡ reasonless (life [] b q)) from.past_is (known (begins g) from.begun.past from.begun.left)

  homes : AllHome merged
  homes = all_home (begins g) g.config.start g.config.top_version merged (λ d. subst (IsLocal (begins g) g.config.start g.config.top_version d) (sym (merge.1 d)) (locals g node d))

  module _ (p : Pid) (x : ShardState) (here : p.shard < length g.shards) where
    abbrev desk : ShardState
    desk = get_or g.shards p.shard x

    same_life : (earlier : Past) → life (begins g) earlier p ≡ life desk.start earlier p
    same_life earlier = sym (life_same desk.start (begins g) p.shard (start_same g.config g.shards node.shards p.shard x here) earlier p refl)

    own_journal : journals g p.shard ≡ desk.journal
    own_journal = journal_of g p.shard x here

    same_phase : life (begins g) (events merged) p ≡ phase_of desk p
    same_phase =
        sym (says (begins g) g.config.start g.config.top_version (journals g) merged p (locals g node) merge).0
        ∙ ap (λ j. life (begins g) (events j) p) own_journal ∙ same_life (past desk)

    its_mailbox : mailbox (life [] whole p) ≡ mailbox (phase_of desk p)
    its_mailbox = mailbox_over (begins g) before known_so p (events merged) ∙ ap mailbox same_phase

    its_losses : all_lost_to p (losses [] whole) ≡ all_lost_to p (losses [] before) ++ all_lost_to p (losses desk.start (past desk))
    its_losses =
        losses_over (begins g) before known_so p (events merged)
        ∙ ap (λ z. all_lost_to p (losses [] before) ++ z)
        (sym (losses_local (begins g) p merged homes) ∙ ap (λ j. all_lost_to p (losses (begins g) (events j))) (merge.1 p.shard ∙ own_journal)
        ∙ losses_same (begins g) desk.start p same_life (past desk))

    module _ (legal : MergeLegal) (new : StampsAreNew) (holds : CustodyHolds) where
      pub gathered_keep : HasEachSince p whole (mailbox (phase_of desk p)) (λ a. messages a p (over g a.shard p.shard))
      gathered_keep =
          let l = legal_outline g node legal new before merged from merge in
          told_by p (λ a. said_messages a p whole) (λ a. messages_in (flight [] whole a p)) (λ a. messages a p (over g a.shard p.shard)) (taken whole p)
          (mailbox (life [] whole p)) (mailbox (phase_of desk p)) (all_lost_to p (losses [] whole)) (λ a. left_over a p g whole l.1) its_mailbox (holds [] whole p l.0)

      none_left : NothingLeft g → (a : Pid) → messages a p (over g a.shard p.shard) ≡ []
      none_left nothing a = ap (messages a p) (⊎_elim there beyond (cases_lt a.shard (length g.shards)))
        where
          there : a.shard < length g.shards → over g a.shard p.shard ≡ []
          there h = over_both g a.shard p.shard h here ∙ nothing a.shard p.shard h here

          beyond : length g.shards ≤ a.shard → over g a.shard p.shard ≡ []
          beyond h = over_left g a.shard p.shard h

      pub settled_keep : NothingLeft g → HasEachSince p whole (mailbox (phase_of desk p)) (λ a. [])
      settled_keep nothing =
          told_by p (λ a. said_messages a p whole) (λ a. messages a p (over g a.shard p.shard)) (λ a. []) (taken whole p)
          (mailbox (phase_of desk p)) (mailbox (phase_of desk p)) (all_lost_to p (losses [] whole)) (none_left nothing) refl gathered_keep

    -- losses that are told ------------------------------------------------------------------------------

    pub are_told : (told : List Loss) → TellsAll p before told desk → all_lost_to p (told ++ desk.lost) ≡ all_lost_to p (losses [] whole)
    are_told told tells =
        ap (all_lost_to p) tells.told_are ∙ flat_map-append (lost_to p) tells.carried (losses desk.start (past desk))
        ∙ ap (λ z. z ++ all_lost_to p (losses desk.start (past desk))) tells.carried_are ∙ sym its_losses

    -- a desk that goes on from it with these losses and an empty journal
    pub tell_on : (told : List Loss) (later : ShardState) → later.lost ≡ desk.lost → later.journal ≡ [] → TellsAll p before told desk → TellsAll p whole told later
    tell_on told later lost journal tells = record {
      carried = told ++ desk.lost;
      carried_are = are_told told tells;
      told_are = rw (lost, journal) (sym (append-nil (told ++ desk.lost)));
    }

-- a pause --------------------------------------------------------------------------------------------------

settles_on : (old new : GatheredState) → Settles old new → (before : Past) → GoesOnBut before old → GoesOnBut before new
settles_on old new s before from =
    subst (λ (c : Config). IsOutlineOf before c.start (begins new)) (sym s.config) (subst (IsOutlineOf before old.config.start) (sym s.start) from)

shard_count : (g : GatheredState) (desks : List DeskState) → Resumes g desks → length desks ≡ length g.shards
shard_count g desks resumes =
    sym (length-map desks (λ (d : DeskState). d.shard)) ∙ ap length resumes.shards ∙ length-map g.shards (restarted (latest_stamp g))

-- a desk of the gathered node is the one handed in
gathered_is : (desks : List DeskState) (g : GatheredState) → Gathers desks g → (d : ℕ) (x : DeskState) → d < length desks → get_or g.shards d x.shard ≡ (get_or desks d x).shard
gathered_is desks g gathers d x h = ap (λ z. get_or z d x.shard) gathers.shards ∙ get_or-map (λ (d : DeskState). d.shard) desks d x x.shard h

shard_is : (g : GatheredState) (desks : List DeskState) → Resumes g desks → (d : ℕ) (x : DeskState) → d < length desks → (get_or desks d x).shard ≡ restarted (latest_stamp g) (get_or g.shards d x.shard)
shard_is g desks resumes d x h =
    sym (get_or-map (λ (d : DeskState). d.shard) desks d x x.shard h) ∙ ap (λ z. get_or z d x.shard) resumes.shards
    ∙ get_or-map (restarted (latest_stamp g)) g.shards d x.shard x.shard (omega (arith, h, shard_count g desks resumes))

-- a resumed desk has the mailboxes and the losses of the settled one, and an empty journal
record IsBehind (s : GatheredState) (new : List DeskState) (d : ℕ) (x : DeskState) : Type 0 where
  here : d < length s.shards
  boxes : (p : Pid) → mailbox (phase_of (get_or s.shards d x.shard) p) ≡ mailbox (phase_of (get_or new d x).shard p)
  keeps : (get_or new d x).shard.keeps ≡ (get_or s.shards d x.shard).keeps
  lost : (get_or new d x).shard.lost ≡ (get_or s.shards d x.shard).lost
  journal : (get_or new d x).shard.journal ≡ []

left_box : (n : ℕ) (z : ShardState) (p : Pid) → mailbox (phase_of (restarted n z) p) ≡ mailbox (phase_of z p)
left_box n z p = ap mailbox (leaves_each z.start (past z) p) ∙ mailbox_left (phase_of z p)

forgot_box : (n : ℕ) (z : ShardState) (p : Pid) → mailbox (phase_of (forgetful (restarted n z)) p) ≡ mailbox (phase_of z p)
forgot_box n z p = ap mailbox (forgets_each (start_after z.start (past z)) p) ∙ mailbox_but (at_start (start_after z.start (past z)) p) ∙ left_box n z p

behind_resumed : (s : GatheredState) (new : List DeskState) → Resumes s new → (d : ℕ) (x : DeskState) → d < length new → IsBehind s new d x
behind_resumed s new resumes d x h =
    let z : ShardState = get_or s.shards d x.shard in
    let is = shard_is s new resumes d x h in
    record {
      here = omega (arith, h, shard_count s new resumes);
      boxes = λ p. sym (ap (λ (y : ShardState). mailbox (phase_of y p)) is ∙ left_box (latest_stamp s) z p);
      keeps = ap (λ (y : ShardState). y.keeps) is;
      lost = ap (λ (y : ShardState). y.lost) is;
      journal = ap (λ (y : ShardState). y.journal) is;
    }

behind_forgetful : (s : GatheredState) (new : List DeskState) → ResumesForgetful s new → (d : ℕ) (x : DeskState) → d < length new → IsBehind s new d x
behind_forgetful s new resumes d x h =
    let old = resumes.before in
    let count : length new ≡ length old = ap length resumes.forgets ∙ length-map old forgetful_desk in
    let within : d < length old = omega (arith, h, count) in
    let z : ShardState = get_or s.shards d x.shard in
    let is : (get_or new d x).shard ≡ forgetful (restarted (latest_stamp s) z) =
    ap (λ (d : DeskState). d.shard) (ap (λ (ds : List DeskState). get_or ds d x) resumes.forgets ∙ get_or-map forgetful_desk old d x x within)
    ∙ ap forgetful (shard_is s old resumes.resumes d x within) in
    record {
      here = omega (arith, within, shard_count s old resumes.resumes);
      boxes = λ p. sym (ap (λ (y : ShardState). mailbox (phase_of y p)) is ∙ forgot_box (latest_stamp s) z p);
      keeps = ap (λ (y : ShardState). y.keeps) is;
      lost = ap (λ (y : ShardState). y.lost) is;
      journal = ap (λ (y : ShardState). y.journal) is;
    }

module _ (before : Past) (merged : List Stamped) (desks new : List DeskState) (pause : NodePauses merged desks new) (on : GoOnBut before desks) where
  from : GoesOnBut before pause.settled
  from = settles_on pause.gathered pause.settled pause.settles before (gathers_outline desks pause.gathered pause.gathers before on)

  behind : (d : ℕ) (x : DeskState) → d < length new → IsBehind pause.settled new d x
  behind d x h = ⊎_elim (λ (r : Resumes pause.settled new). behind_resumed pause.settled new r d x h) (λ (r : ResumesForgetful pause.settled new). behind_forgetful pause.settled new r d x h) pause.resumes

  module _ (legal : MergeLegal) (new_ids : StampsAreNew) (holds : CustodyHolds) where
    each : (p : Pid) (x : DeskState) → p.shard < length new → HasEachSince p (events merged ++ before) (mailbox (phase_of (get_or new p.shard x).shard p)) (λ a. [])
    each p x h =
        let later : IsBehind pause.settled new p.shard x = behind p.shard x h in
        let z : ShardState = get_or pause.settled.shards p.shard x.shard in
        let whole : Past = events merged ++ before in
        told_by p (λ a. said_messages a p whole) (λ a. []) (λ a. []) (taken whole p) (mailbox (phase_of z p)) (mailbox (phase_of (get_or new p.shard x).shard p)) (all_lost_to p (losses [] whole)) (λ a. refl) (later.boxes p)
        (settled_keep pause.settled pause.settled_node before from merged pause.merge p x.shard later.here legal new_ids holds pause.nothing_left)

  module _ (stays : TellingStays) (p : Pid) (x : DeskState) (told : List Loss) (within : p.shard < length new) (keeps : (get_or desks p.shard x).shard.keeps ≡ true)
      (tells : TellsAll p before told (get_or desks p.shard x).shard) where
    abbrev settled_desk : ShardState
    settled_desk = get_or pause.settled.shards p.shard x.shard

    abbrev new_desk : ShardState
    new_desk = (get_or new p.shard x).shard

    later : IsBehind pause.settled new p.shard x
    later = behind p.shard x within

    -- as the node is settled
    settled_tells : (settled_desk.keeps ≡ true) × TellsAll p before told settled_desk
    settled_tells =
        let g = pause.gathered in
        let in_g : p.shard < length g.shards = omega (arith, later.here, pause.settles.count) in
        let in_old : p.shard < length desks = omega (arith, in_g, ap length pause.gathers.shards, length-map desks (λ (d : DeskState). d.shard)) in
        let was : get_or g.shards p.shard x.shard ≡ (get_or desks p.shard x).shard = gathered_is desks g pause.gathers p.shard x in_old in
        stays.settles p before told g pause.settled x.shard pause.settles in_g (ap (λ (y : ShardState). y.keeps) was ∙ keeps) (subst (TellsAll p before told) (sym was) tells)

    tells_behind : TellsAll p (events merged ++ before) told new_desk
    tells_behind = tell_on pause.settled pause.settled_node before from merged pause.merge p x.shard later.here told new_desk later.lost later.journal settled_tells.1

    all_told : all_lost_to p (losses [] (events merged ++ before)) ≡ all_lost_to p (told ++ new_desk.lost)
    all_told =
        sym (are_told pause.settled pause.settled_node before from merged pause.merge p x.shard later.here told settled_tells.1)
        ∙ ap (λ z. all_lost_to p (told ++ z)) (sym later.lost)

    behind_tells : (new_desk.keeps ≡ true) × TellsAll p (events merged ++ before) told new_desk × (all_lost_to p (losses [] (events merged ++ before)) ≡ all_lost_to p (told ++ new_desk.lost))
    behind_tells = (later.keeps ∙ settled_tells.0, tells_behind, all_told)

pub pauses_keep : MergeLegal → StampsAreNew → CustodyHolds → PausesKeep
pauses_keep legal new_ids holds before merged desks new pause on =
    let begun = from before merged desks new pause on in (
      each before merged desks new pause on legal new_ids holds,
      ⊎_elim (λ (r : Resumes pause.settled new). r.outline before merged begun pause.merge) (λ (r : ResumesForgetful pause.settled new). r.outline before merged begun pause.merge) pause.resumes,
    )

pub pauses_tell : TellingStays → PausesTell
pauses_tell stays before merged desks new p x told pause on within keeps tells = behind_tells before merged desks new pause on stays p x told within keeps tells

pub forgot_nothing : ForgotNothing
forgot_nothing before desks on = record {
  config = on.config;
  node = on.node;
  begun = outline before on.config.start (start_of (all_shards desks)) on.begun;
}
