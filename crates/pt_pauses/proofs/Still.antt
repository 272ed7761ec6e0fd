-- Supervisors in a node that is still.
use Rattle.std.proofs.Common.{◌≡◌, ◌⊎◌, inl, inr, ℕ, zero, suc, ◌<◌, ◌≤◌, Bool, true, false, cond, ◌||◌, not, List, [], ◌∷◌, length, get_or, slice_get, Option, Some, None, is_some, refl, sym, ap, subst, ◌∙◌, arith}
use Rattle.std.specs.Prelude.{nat_le}
use Rattle.std.specs.List.{list_any, find}
use Rattle.std.specs.Option.{option_map}
use Rattle.std.proofs.lemmas.Option.{slice_get_within}
use Rattle.pt_signal.specs.declared.pid.Pid.{Pid}
use Rattle.pt_signal.specs.declared.ids.Ref.{Ref}
use Rattle.pt_signal.specs.declared.item.Item.TheVariants.{User}
use Rattle.pt_signal.specs.declared.reason.Reason.{Reason}
use Rattle.pt_signal.specs.declared.item.Item.{Item}
use Rattle.pt_signal.specs.declared.item.Pick.{Pick}
use Rattle.pt_signal.specs.Values.{same_pid, same_ref, fits}
use Rattle.pt_signal.specs.Process.{held}
use Rattle.pt_signal.proofs.Same.{same_pid_is}
use Rattle.pt_events.specs.declared.event.Stamped.{Stamped}
use Rattle.pt_events.specs.History.{Past, Phase, unborn, living, ended, at_start, is_unborn, is_ended, is_living, state_of, life, alive, IsLegal}
use Rattle.pt_events.specs.Counting.{count}
use Rattle.pt_events.specs.Journal.{IsMerge, events}
use Rattle.pt_laws.specs.Links.{IsKnownSaid}
use Rattle.pt_laws.specs.LinkLaws.{MergeLinksOver}
use Rattle.pt_laws.specs.LoadLaws.{EmptyIsQuiet}
use Rattle.pt_laws.specs.MonitorLaws.{QuietMonitorSince, QuietWatchOver, times_made}
use Rattle.pt_laws.specs.Watch.{is_down_item, is_open, open_in}
use Rattle.pt_laws.proofs.monitoring.Monitors.{said_to_one}
use Rattle.pt_shard.specs.ShardState.{ShardState, phase_of, state_in, lives}
use Rattle.pt_beginning.specs.Beginning.{IsBeginning}
use Rattle.pt_gathered.specs.Gathered.{GatheredState, IsGathered, begins, journals}
use Rattle.pt_gathered.specs.Pasts.{GoesOnFrom}
use Rattle.pt_gathered.specs.Settling.{NothingLeft}
use Rattle.pt_gathered.proofs.Lawful.{legal_node, links_stand, locals, made_new, quiet_node, watches_stand}
use Rattle.pt_gathered.proofs.Told.{journal_of}
use Rattle.pt_workers.specs.Waking.{need_not_wait}
use Rattle.pt_gathered.proofs.StartStates.{said_here}
use Rattle.pt_behaviour.specs.declared.behaviour.Next.{Next}
use Rattle.pt_behaviour.specs.declared.behaviour.Next.TheVariants.{Wait, WaitUntil, Proceed, Running, Stop}
use Rattle.pt_crew.specs.declared.crew.Crew.{Crew}
use Rattle.pt_crew.specs.Waking.{has_work}
use Rattle.pt_crew.specs.Crews.{roles, IsIdle}
use Rattle.pt_behaviour.proofs.Cases.{by_cases}
use Rattle.pt_children.specs.declared.asked.Stage.{Stage}
use Rattle.pt_children.specs.declared.asked.Stage.TheVariants.{Waiting, Until, Killed}
use Rattle.pt_children.specs.declared.children.Child.{Child}
use Rattle.pt_children.specs.declared.children.Shutdown.{Shutdown}
use Rattle.pt_children.specs.declared.children.Shutdown.TheVariants.{Infinity}
use Rattle.pt_children.specs.Children.{last_alive, leaving, leaving_in, or_before}
use Rattle.pt_children.specs.Ending.{monitor_of, told_in}
use Rattle.pt_supervisor.specs.Ending.{next_at_stage}
use Rattle.pt_children.specs.Hearing.{Standing}
use Rattle.pt_children.specs.Homes.{is_waiting}
use Rattle.pt_supervisor.proofs.Joining.{waits_settled}
use Rattle.pt_supervisor.specs.Supervising.{EndsLast}
use Rattle.pt_children.specs.Families.{pid_of_child, is_end_of, has_cut, all_events, IsHeld, IsPlaced, IsWatched, IsAsked, bids_to, has_bid_to}
use Rattle.pt_supervisor.specs.Keeping.{Holds, PartOf, HoldsAs}
use Rattle.pt_pauses.specs.Still.{HasTrapped, IsSpared, IsEnding, ChildLives, IsStillNode, StillLaws, QuietChildrenLive}
use Rattle.pt_pauses.proofs.Opened.{keeper_lives, open_among, open_made, some_counted}
use Rattle.pt_pauses.proofs.Stopping.{any_both, any_events, any_filter, ended_stays, known_ended, not_alive}
use Rattle.pt_pauses.proofs.Trapping.{quiet_killed, quiet_trapped, told_born}
use Rattle.pt_children.proofs.Wanting.{lives_when_wanted}

-- of one that has nothing to do no item waits
none_waits : (test : Item → Bool) (items : List Item) → is_some (find (fits Pick.Any) items) ≡ false → list_any test items ≡ true → ⊥
none_waits test [] idle any = absurd (cc)
none_waits test (x ∷ items) idle any = absurd (cc)

idle_empty : (f : Phase) (test : Item → Bool) → is_living f ≡ true → has_work (Wait Pick.Any) f ≡ false → list_any test (state_of f).waiting ≡ true → ⊥
idle_empty unborn test alive idle any = absurd (cc)
idle_empty (living s) test alive idle any = none_waits test s.waiting idle any
idle_empty (ended r s) test alive idle any = absurd (cc)

pid_of : (o : Option Pid) → is_some o ≡ true → (q : Pid) × (o ≡ Some q)
pid_of None h = absurd (cc)
pid_of (Some q) h = (q, refl)

holds_of : (past : Past) (o : Option Standing) (s : Standing) (next : Next) (p : Pid) (d : ShardState) → o ≡ Some s → lives d p ≡ true → HoldsAs past o next p d → Holds past s next p d
holds_of past o s next p d is alive h = (subst (λ (x : Option Standing). HoldsAs past x next p d) is h).0 alive

-- the DOWN that waits is taken by one that waits for it
down_waits : (m : Ref) (items : List Item) → list_any (is_down_item m) items ≡ true → is_some (find (fits (Pick.DownOf m)) items) ≡ true
down_waits m [] any = absurd (cc)
down_waits m (x ∷ items) any = by_cases (fits (Pick.DownOf m) x)
    (λ t. ap (λ (b : Bool). is_some (cond b (Some x) (find (fits (Pick.DownOf m)) items))) t)
    (λ f.
    ap (λ (b : Bool). is_some (cond b (Some x) (find (fits (Pick.DownOf m)) items))) f
    ∙ down_waits m items (sym (ap (λ (b : Bool). b || list_any (is_down_item m) items) (as_item x ∙ f)) ∙ any))
  where
    as_item : (y : Item) → is_down_item m y ≡ fits (Pick.DownOf m) y
    as_item (Item.Down n from r) = refl
    as_item (Item.Exit from r) = refl
    as_item (User from body) = refl
    as_item (Item.Alive n from y) = refl

none_down : {X : Type 0} (f : Phase) (m : Ref) → is_living f ≡ true → need_not_wait (Pick.DownOf m) f ≡ false → list_any (is_down_item m) (state_of f).waiting ≡ true → X
none_down unborn m alive idle any = absurd (cc)
none_down (living s) m alive idle any = absurd (let bad : false ≡ true = sym idle ∙ down_waits m s.waiting any in cc)
none_down (ended r s) m alive idle any = absurd (cc)

open_of : (p q : Pid) (m : Ref) (f : Phase) → is_living f ≡ true → list_any (is_open m q) (state_of f).watching ≡ true → 1 ≤ open_in p q m f
open_of p q m unborn alive any = absurd (cc)
open_of p q m (living s) alive any = some_counted (is_open m q) s.watching any
open_of p q m (ended r s) alive any = absurd (cc)

among_all : (p q : Pid) (m : Ref) (f : Phase) → open_in p q m f ≤ count (λ (e : Ref × Pid). same_ref m e.0) (state_of f).watching
among_all p q m unborn = omega arith
among_all p q m (living s) = open_among m q s.watching
among_all p q m (ended r s) = omega arith

-- the last one stands in a place
in_place : (all : Bool) (o : Option Child) (children : List Child) (n : ℕ) (before : Option (Pid × Shutdown)) (q : Pid) (shutdown : Shutdown) → slice_get children n ≡ o → (before ≡ Some (q, shutdown) → IsPlaced children q)
    → or_before (leaving_in all o) before ≡ Some (q, shutdown) → IsPlaced children q
in_place all None children n before q shutdown at go is = go is
in_place all (Some c) children n before q shutdown at go is = by_cases (all || not c.wanted)
    (λ ends. by_pid c.pid refl (subst (λ (b : Bool). or_before (cond b (leaving c) None) before ≡ Some (q, shutdown)) ends is))
    (λ stays. go (subst (λ (b : Bool). or_before (cond b (leaving c) None) before ≡ Some (q, shutdown)) stays is))
  where
    by_pid : (pid : Option Pid) → c.pid ≡ pid → or_before (option_map {U = Pid × Shutdown} (λ p. (p, c.shutdown)) pid) before ≡ Some (q, shutdown) → IsPlaced children q
    by_pid None none is = go is
    by_pid (Some p) some is =
        let pair : (p, c.shutdown) ≡ (q, shutdown) = cc in
        let same : p ≡ q = ap (λ (x : Pid × Shutdown). x.0) pair in
        (n, ap pid_of_child at ∙ (some ∙ ap (λ (x : Pid). Some x) same))

last_placed : (children : List Child) (first n : ℕ) (q : Pid) (shutdown : Shutdown) → last_alive children first n ≡ Some (q, shutdown) → IsPlaced children q
last_placed children first zero q shutdown is = absurd (cc)
last_placed children first (suc n) q shutdown is =
    in_place (nat_le first n) (slice_get children n) children n (last_alive children first n) q shutdown refl (last_placed children first n q shutdown) is

living_or : (f : Phase) → is_unborn f ≡ false → is_ended f ≡ false → is_living f ≡ true
living_or unborn born on = absurd (cc)
living_or (living s) born on = refl
living_or (ended r s) born on = absurd (cc)

module _ {B : Type 0} (part : PartOf B) (laws : StillLaws) (past : Past) (c : Crew B) (d : ShardState) (g : GatheredState) (node : IsGathered g) (still : IsStillNode g) (number : d.number < length g.shards) (at : d ≡ get_or g.shards d.number d)
    (idle : IsIdle c d) (merged : List Stamped) (m : IsMerge (journals g) merged) (p : Pid) (b : B) (s : Standing) (here : lives d p ≡ true) (home : p.shard ≡ d.number) where
  same_life : life (begins g) (events merged) p ≡ phase_of d p
  same_life = said_here g node laws.say laws.there merged m p d (subst (λ (n : ℕ). n < length g.shards) (sym home) number) (subst (λ (n : ℕ). d ≡ get_or g.shards n d) (sym home) at)

  lives_there : alive (begins g) (events merged) p ≡ true
  lives_there = ap is_living same_life ∙ here

  -- one that waits for any item ------------------------------------------------------------------------

  module _ (settled : is_waiting s.children ≡ false) (holds : Holds past s (Wait Pick.Any) p d) (is : roles c p ≡ Some (b, Wait Pick.Any)) (place : ℕ) (child : Child) (at_place : slice_get s.children place ≡ Some child) (wanted : child.wanted ≡ true) where
    q : (q : Pid) × (child.pid ≡ Some q)
    q = pid_of child.pid (lives_when_wanted child wanted ((waits_settled s holds.waits settled).0 place child (slice_get_within s.children place child at_place) at_place))

    linked : same_pid p q.0 ≡ false → is_some (held (state_in d p).links q.0) ≡ true → alive (begins g) (events merged) q.0 ≡ true
    linked other ties = by_cases (alive (begins g) (events merged) q.0)
        (λ alive_is. alive_is)
        (λ dead.
        let none = (still.links merged p q.0 m other lives_there).1 dead in
        let bad : true ≡ false = sym ties ∙ ap (λ (f : Phase). is_some (held (state_of f).links q.0)) (sym same_life) ∙ ap is_some none in absurd (cc))

    go : IsHeld past p q.0 d → same_pid p q.0 ≡ false → (alive (begins g) (events merged) q.0 ≡ true) ⊎ (has_cut p q.0 (all_events past d) ≡ true)
    go (inr cut) other = inr cut
    go (inl (inl ties)) other = inl (linked other ties)
    go (inl (inr waits)) other = absurd (idle_empty (phase_of d p) (is_end_of q.0) here (idle p (b, Wait Pick.Any) is) waits)

    child_lives : ChildLives past child p d g merged
    child_lives = (
      q.0,
      q.1,
      by_cases (same_pid p q.0)
          (λ same. inl (subst (λ (x : Pid). alive (begins g) (events merged) x ≡ true) (same_pid_is p q.0 same) lives_there))
          (λ other. go (holds.family.held (waits_settled s holds.waits settled).2 place q.0 (ap pid_of_child at_place ∙ q.1)) other),
    )

  -- one that ends a child ------------------------------------------------------------------------------

  module _ (next : Next) (holds : Holds past s next p d) (q : Pid) (shutdown : Shutdown) (stage : Stage) (ref : Ref) (last : EndsLast q shutdown stage s) (by : monitor_of stage ≡ Some ref) (idle_is : need_not_wait (Pick.DownOf ref) (phase_of d p) ≡ false) where
    placed : IsPlaced s.children q
    placed = last_placed s.children s.ending (length s.children) q shutdown last.0

    asked : IsAsked past (record { pid = q; stage = stage }) p d
    asked = holds.asks (record { pid = q; stage = stage }) last.1 placed

    opened : list_any (is_open ref q) (state_in d p).watching ≡ true
    opened = go (asked.watched ref by)
      where
        go : IsWatched (state_in d p) ref q → list_any (is_open ref q) (state_in d p).watching ≡ true
        go (inl made) = made
        go (inr waits) = none_down (phase_of d p) ref here idle_is waits

    open_there : 1 ≤ open_in p q ref (life (begins g) (events merged) p)
    open_there = subst (λ (f : Phase). 1 ≤ open_in p q ref f) (sym same_life) (open_of p q ref (phase_of d p) here opened)

    legal : IsLegal (begins g) (events merged)
    legal = (legal_node g node laws.legal merged m).0

    made_once : times_made (begins g) (events merged) p q ref ≡ 1
    made_once =
        let least = open_made p q ref (begins g) (events merged) legal in
        let most = laws.once (begins g) node.begun.past (events merged) p ref node.begun.left (made_new g node laws.stamps merged m) legal in
        let among = among_all p q ref (at_start (begins g) p) in
        let said = said_to_one ref p q (events merged) in
        omega (arith, least, most, among, said, open_there)

    q_lives : alive (begins g) (events merged) q ≡ true
    q_lives =
        let agree = ((still.watches merged p q ref m).0 lives_there made_once).1 in
        keeper_lives p q ref (life (begins g) (events merged) q) (omega (arith, agree, open_there))

    -- it was told to end since the node began, or before
    module _ {X : Type 0} (r : Reason) (told : told_in stage ≡ Some r) (since : has_bid_to p q r (events merged) ≡ true → X) (before : (b : IsBeginning g.config.start (begins g)) → b.past ≡ past → has_bid_to p q r b.past ≡ true → X) where
      since_then : has_bid_to p q r (events d.journal) ≡ true → X
      since_then any = since
          (any_events (bids_to p q r) merged ∙ any_filter (λ (t : Stamped). bids_to p q r t.event) _ merged
          (ap (list_any (λ (t : Stamped). bids_to p q r t.event)) (m.1 d.number ∙ (journal_of g d.number d number ∙ ap (λ (x : ShardState). x.journal) (sym at))) ∙ (sym (any_events (bids_to p q r) d.journal) ∙ any)))

      before_then : GoesOnFrom past g ⊎ (past ≡ []) → has_bid_to p q r past ≡ true → X
      before_then (inl from) any = before from.begun from.past_is (subst (λ (x : Past). has_bid_to p q r x ≡ true) (sym from.past_is) any)
      before_then (inr none) any = absurd (let bad : false ≡ true = sym (ap (has_bid_to p q r) none) ∙ any in cc)

      told_then : GoesOnFrom past g ⊎ (past ≡ []) → X
      told_then from = elim (any_both (bids_to p q r) (events d.journal) past (asked.told r told)) [
        | inl any ↦ since_then any
        | inr any ↦ before_then from any
      ]

    known : IsKnownSaid (begins g) (events merged)
    known = (laws.known (begins g) g.config.start g.config.top_version (journals g) merged (locals g node) m).0

    -- it lived before the node began
    lived : q.shard ≡ p.shard → (r : Reason) (b : IsBeginning g.config.start (begins g)) → has_bid_to p q r b.past ≡ true → alive [] b.past q ≡ true
    lived same_desk r b told = living_or (life [] b.past q) (told_born [] p q same_desk r b.past b.known told)
        (by_cases (is_ended (life [] b.past q))
        (λ over. absurd (let bad : false ≡ true = sym (not_alive (life (begins g) (events merged) q) (ended_stays (begins g) (events merged) q (known_ended (at_start (begins g) q) (life [] b.past q) (b.left.alike q) over))) ∙ q_lives in cc))
        (λ on. on))

    trapped_then : q.shard ≡ p.shard → told_in stage ≡ Some Reason.Shutdown → GoesOnFrom past g ⊎ (past ≡ []) → HasTrapped (begins g) (events merged) p q ⊎ HasTrapped [] past p q
    trapped_then same_desk told = told_then Reason.Shutdown told
        (λ any. inl (quiet_trapped (begins g) p q same_desk (events merged) (still.quiet merged m).0 known (still.quiet merged m).1 q_lives any))
        (λ b is any. inr (subst (λ (x : Past). HasTrapped [] x p q) is (quiet_trapped [] p q same_desk b.past b.left.legal b.known b.left.quiet (lived same_desk Reason.Shutdown b any) any)))

    killed_then : {X : Type 0} → q.shard ≡ p.shard → told_in stage ≡ Some Reason.Kill → GoesOnFrom past g ⊎ (past ≡ []) → X
    killed_then same_desk told = told_then Reason.Kill told
        (λ any. quiet_killed (begins g) p q same_desk (events merged) (still.quiet merged m).0 known (still.quiet merged m).1 q_lives any)
        (λ b is any. quiet_killed [] p q same_desk b.past b.left.legal b.known b.left.quiet (lived same_desk Reason.Kill b any) any)

    is_ending : next ≡ next_at_stage stage → (q.shard ≡ p.shard → GoesOnFrom past g ⊎ (past ≡ []) → IsSpared shutdown stage × (HasTrapped (begins g) (events merged) p q ⊎ HasTrapped [] past p q)) → IsEnding past s next p q g merged
    is_ending waits trapped = record { shutdown = shutdown; stage = stage; last = last; waits = waits; lives = q_lives; trapped = trapped }

  -- so it is of each -------------------------------------------------------------------------------------

  module _ (settled : is_waiting s.children ≡ false) (place : ℕ) (child : Child) (at_place : slice_get s.children place ≡ Some child) (wanted : child.wanted ≡ true) where
    abbrev Outcome : Next → Type 0
    Outcome next = ChildLives past child p d g merged ⊎ ((q : Pid) × IsEnding past s next p q g merged)

    by_down : (ref : Ref) → (q : Pid) → (shutdown : Shutdown) → ((shutdown ≡ Infinity) × EndsLast q shutdown (Waiting ref) s) ⊎ EndsLast q shutdown (Killed ref) s → Holds past s (Wait (Pick.DownOf ref)) p d
        → need_not_wait (Pick.DownOf ref) (phase_of d p) ≡ false → Outcome (Wait (Pick.DownOf ref))
    by_down ref q shutdown (inl h) holds idle_is = inr (q, is_ending (Wait (Pick.DownOf ref)) holds q shutdown (Waiting ref) ref h.1 refl idle_is refl (λ near from. (h.0, trapped_then (Wait (Pick.DownOf ref)) holds q shutdown (Waiting ref) ref h.1 refl idle_is near refl from)))
    by_down ref q shutdown (inr h) holds idle_is = inr (q, is_ending (Wait (Pick.DownOf ref)) holds q shutdown (Killed ref) ref h refl idle_is refl (λ near from. killed_then (Wait (Pick.DownOf ref)) holds q shutdown (Killed ref) ref h refl idle_is near refl from))

    outcome : (next : Next) → Holds past s next p d → roles c p ≡ Some (b, next) → Outcome next
    outcome (Wait Pick.Any) holds is = inl (child_lives settled holds is place child at_place wanted)
    outcome (Wait (Pick.DownOf ref)) holds is = by_down ref holds.waits.0 holds.waits.1 holds.waits.2 holds (idle p (b, Wait (Pick.DownOf ref)) is)
    outcome (Wait (Pick.Kind k)) holds is = absurd holds.waits
    outcome (Wait (Pick.From f)) holds is = absurd holds.waits
    outcome (Wait (Pick.ExitOf f)) holds is = absurd holds.waits
    outcome (Wait (Pick.AliveOf a)) holds is = absurd holds.waits
    outcome (WaitUntil (Pick.DownOf ref) t) holds is =
        let w = holds.waits in
        let none = idle p (b, WaitUntil (Pick.DownOf ref) t) is in
        inr (w.0, is_ending (WaitUntil (Pick.DownOf ref) t) holds w.0 w.1 (Until ref t) ref w.2 refl none refl (λ near from. (tt, trapped_then (WaitUntil (Pick.DownOf ref) t) holds w.0 w.1 (Until ref t) ref w.2 refl none near refl from)))
    outcome (WaitUntil Pick.Any t) holds is = absurd (let bad : true ≡ false = sym holds.ready ∙ idle p (b, WaitUntil Pick.Any t) is in cc)
    outcome (WaitUntil (Pick.Kind k) t) holds is = absurd holds.waits
    outcome (WaitUntil (Pick.From f) t) holds is = absurd holds.waits
    outcome (WaitUntil (Pick.ExitOf f) t) holds is = absurd holds.waits
    outcome (WaitUntil (Pick.AliveOf a) t) holds is = absurd holds.waits
    outcome Proceed holds is = absurd (let bad : true ≡ false = idle p (b, Proceed) is in cc)
    outcome Running holds is = absurd holds.waits
    outcome (Stop r) holds is = absurd (let bad : true ≡ false = idle p (b, Stop r) is in cc)

module _ {B : Type 0} (part : PartOf B) (laws : StillLaws) where
  pub children_live : QuietChildrenLive part
  children_live past c d g node still number at upholds idle merged m p b next s is part_is here home settled place child at_place wanted =
      outcome part laws past c d g node still number at idle merged m p b s here home settled place child at_place wanted next
      (holds_of past (part b) s next p d part_is here (upholds.members p (b, next) is).1) is

-- a node with no letter left over is still
pub still_node : StillLaws → EmptyIsQuiet → MergeLinksOver → QuietMonitorSince → QuietWatchOver → (g : GatheredState) → IsGathered g → NothingLeft g → IsStillNode g
still_node laws empty links monitors watches g node none =
    let quiet = quiet_node g node laws.legal empty none in
    record { quiet = quiet; links = links_stand g node quiet links; watches = watches_stand g node quiet laws.stamps monitors watches }
