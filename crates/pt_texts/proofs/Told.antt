-- Events and letters left over are read as they are printed.
use Rattle.std.proofs.Common.{◌≡◌, ℕ, Bool, true, false, Option, Some, None, Ok, List, [], ◌∷◌, ◌++◌, codes, refl, append_assoc}
use Rattle.pt_signal.specs.declared.pid.Pid.{Pid}
use Rattle.pt_signal.specs.declared.ids.LinkId.{LinkId}
use Rattle.pt_signal.specs.declared.item.Item.{Item}
use Rattle.pt_signal.specs.declared.item.Pick.{Pick}
use Rattle.pt_signal.specs.declared.signal.Signal.{Signal}
use Rattle.pt_events.specs.declared.event.Event.{Event}
use Rattle.pt_events.specs.declared.event.Event.TheVariants.{Born, Said, Came, Took, Flag, Left, Refused}
use Rattle.pt_signal.specs.Text.{pid_text, link_id_text, item_text, pick_text, signal_text, route_text, left_over_text}
use Rattle.pt_events.specs.Text.{parent_text, link_text, switch_text, event_text, stamped_text}
use Rattle.pt_texts.specs.Steps.{behind, before, pair}
use Rattle.pt_texts.specs.Readers.{pid_at, item_at, pick_at, signal_at, route_at, switch_at, parent_at, birth_link_at, birth_at, event_at, stamped_at, left_over_at}
use Rattle.pt_texts.specs.Fits.{FitsIfAny, FitsPid, FitsLinkId, FitsItem, FitsPick, FitsSignal, FitsEvent, FitsStamped, FitsLeftOver}
use Rattle.pt_texts.proofs.Pieces.{Reads, Takes, Anything, before_reads, mapped_reads, print_as, stop_as, text_if_any, again_behind, optional_reads, pair_reads, none_takes, given_takes, or_takes}
use Rattle.pt_texts.proofs.Decimals.{NoDigit}
use Rattle.pt_texts.proofs.Printed.{Fine, Blank, Ends, spaced, u8_reads, u64_reads, pid_reads, link_id_reads, pid_reason, item_reads, pick_reads, signal_reads, route_reads, letter_reads}

-- a line feed follows, or nothing
abbrev pub AtEnd : List ℕ → Type 0
AtEnd [] = Unit {0}
AtEnd (c ∷ r) = c ≡ 10

pub switch_reads : Reads Fine Anything switch_text switch_at
unfolding switch_text switch_at
switch_reads = record { takes = took; again = back }
  where
    took : Takes Fine switch_text switch_at
    took = given_takes _ _ (codes "on") true _ refl tt (given_takes _ _ (codes "off") false _ refl tt (none_takes _ _))

    back : (v : Bool) (r : List ℕ) → Unit {0} → Unit {0} → switch_at (switch_text v ++ r) ≡ Ok (v, r)
    back true r f s = refl
    back false r f s = refl

parent_reads : Reads (FitsIfAny FitsPid) (λ r. behind (codes " by ") r ≡ None) parent_text parent_at
unfolding parent_text
parent_reads = print_as _ _ _ _ (stop_as _ _ _ _ (optional_reads _ _ _ _ pid_reads (codes " by ")) (λ r. behind (codes " by ") r ≡ None) (λ r s. (tt, s))) parent_text same
  where
    same : (v : Option Pid) → text_if_any pid_text (codes " by ") v ≡ parent_text v
    same None = refl
    same (Some p) = refl

birth_link_reads : Reads (FitsIfAny FitsLinkId) AtEnd link_text birth_link_at
unfolding link_text
birth_link_reads = print_as _ _ _ _ (stop_as _ _ _ _ (optional_reads _ _ _ _ link_id_reads (codes " link ")) AtEnd stop) link_text same
  where
    stop : (r : List ℕ) → AtEnd r → NoDigit r × (behind (codes " link ") r ≡ None)
    stop [] s = (tt, refl)
    stop (c ∷ r) s = (rw s refl, rw s refl)

    same : (v : Option LinkId) → text_if_any link_id_text (codes " link ") v ≡ link_text v
    same None = refl
    same (Some p) = refl

abbrev pub birth_text : Event → List ℕ
birth_text (Born p parent link) = pid_text p ++ (parent_text parent ++ link_text link)
birth_text e = []

birth_parts : Reads (λ (x : Pid × (Option Pid × Option LinkId)). FitsPid x.0 × (FitsIfAny FitsPid x.1.0 × FitsIfAny FitsLinkId x.1.1)) AtEnd (λ x. pid_text x.0 ++ (parent_text x.1.0 ++ link_text x.1.1)) (pair pid_at (pair parent_at birth_link_at))
unfolding link_text
birth_parts = pair_reads _ _ _ _ pid_reads _ _ _ _ (pair_reads _ _ _ _ parent_reads _ _ _ _ birth_link_reads stop) (λ y r s. tt)
  where
    stop : (y : Option LinkId) (r : List ℕ) → AtEnd r → behind (codes " by ") (link_text y ++ r) ≡ None
    stop None [] s = refl
    stop None (c ∷ r) s = rw s refl
    stop (Some i) r s = refl

pub ends : (r : List ℕ) → AtEnd r → Ends r
ends [] s = (tt, refl)
ends (c ∷ r) s = (rw s refl, rw s refl)

pub blank : (r : List ℕ) → AtEnd r → Blank r
blank [] s = tt
blank (c ∷ r) s = rw s refl

route_signal : Reads (λ (x : (Pid × Pid) × Signal). (FitsPid x.0.0 × FitsPid x.0.1) × FitsSignal x.1) AtEnd (λ x. route_text x.0.0 x.0.1 ++ (codes " " ++ signal_text x.1)) (pair route_at (before (codes " ") signal_at))
route_signal = spaced _ _ _ _ route_reads _ _ _ _ (stop_as _ _ _ _ signal_reads AtEnd ends) (λ y. tt)

pick_item : Reads (λ (x : Pick × Item). FitsPick x.0 × FitsItem x.1) AtEnd (λ x. pick_text x.0 ++ (codes " = " ++ item_text x.1)) (pair pick_at (before (codes " = ") item_at))
pick_item = pair_reads _ _ _ _ pick_reads _ _ _ _ (before_reads _ _ _ _ (stop_as _ _ _ _ item_reads AtEnd ends) (codes " = ")) (λ y r s. refl)

pid_pick_item : Reads (λ (x : Pid × (Pick × Item)). FitsPid x.0 × (FitsPick x.1.0 × FitsItem x.1.1)) AtEnd (λ x. pid_text x.0 ++ (codes " " ++ (pick_text x.1.0 ++ (codes " = " ++ item_text x.1.1)))) (pair pid_at (before (codes " ") (pair pick_at (before (codes " = ") item_at))))
pid_pick_item = spaced _ _ _ _ pid_reads _ _ _ _ pick_item (λ y. tt)

pid_switch : Reads (λ (x : Pid × Bool). FitsPid x.0 × Fine x.1) Anything (λ x. pid_text x.0 ++ (codes " " ++ switch_text x.1)) (pair pid_at (before (codes " ") switch_at))
pid_switch = spaced _ _ _ _ pid_reads _ _ _ _ switch_reads (λ y. tt)

pub event_reads : Reads FitsEvent AtEnd event_text event_at
unfolding event_text event_at birth_at
event_reads = record { takes = took; again = back }
  where
    took : Takes FitsEvent event_text event_at
    took =
        or_takes _ _ _ _ _ route_signal.takes (codes "said ") (λ x. Said x.0.0 x.0.1 x.1) _ (λ x. simp (append_assoc) refl) (λ x f. f)
        (or_takes _ _ _ _ _ route_signal.takes (codes "came ") (λ x. Came x.0.0 x.0.1 x.1) _ (λ x. simp (append_assoc) refl) (λ x f. f)
        (or_takes _ _ _ _ _ pid_pick_item.takes (codes "took ") (λ x. Took x.0 x.1.0 x.1.1) _ (λ x. simp (append_assoc) refl) (λ x f. (f.0, f.1.0, f.1.1))
        (or_takes _ _ _ _ _ birth_parts.takes (codes "born ") (λ x. Born x.0 x.1.0 x.1.1) _ (λ x. simp (append_assoc) refl) (λ x f. (f.0, f.1.0, f.1.1))
        (or_takes _ _ _ _ _ pid_reason.takes (codes "left ") (λ x. Left x.0 x.1) _ (λ x. simp (append_assoc) refl) (λ x f. f)
        (or_takes _ _ _ _ _ pid_switch.takes (codes "flag ") (λ x. Flag x.0 x.1) _ (λ x. simp (append_assoc) refl) (λ x f. f.0)
        (or_takes _ _ _ _ _ route_reads.takes (codes "refused ") (λ x. Refused x.0 x.1) _ (λ x. refl) (λ x f. f)
        (none_takes _ _)))))))

    back : (v : Event) (r : List ℕ) → FitsEvent v → AtEnd r → event_at (event_text v ++ r) ≡ Ok (v, r)
    back (Said a b x) r f s = again_behind _ _ _ _ route_signal event_at (codes "said ") (λ x. Said x.0.0 x.0.1 x.1) ((a, b), x) r (event_text (Said a b x) ++ r) (simp (append_assoc) refl) refl f s
    back (Came a b x) r f s = again_behind _ _ _ _ route_signal event_at (codes "came ") (λ x. Came x.0.0 x.0.1 x.1) ((a, b), x) r (event_text (Came a b x) ++ r) (simp (append_assoc) refl) refl f s
    back (Took p k i) r f s = again_behind _ _ _ _ pid_pick_item event_at (codes "took ") (λ x. Took x.0 x.1.0 x.1.1) (p, (k, i)) r (event_text (Took p k i) ++ r) (simp (append_assoc) refl) refl (f.0, (f.1, f.2)) s
    back (Born p parent link) r f s = again_behind _ _ _ _ birth_parts event_at (codes "born ") (λ x. Born x.0 x.1.0 x.1.1) (p, (parent, link)) r (event_text (Born p parent link) ++ r) (simp (append_assoc) refl) refl (f.0, (f.1, f.2)) s
    back (Left p why) r f s = again_behind _ _ _ _ pid_reason event_at (codes "left ") (λ x. Left x.0 x.1) (p, why) r (event_text (Left p why) ++ r) (simp (append_assoc) refl) refl f (blank r s)
    back (Flag p on) r f s = again_behind _ _ _ _ pid_switch event_at (codes "flag ") (λ x. Flag x.0 x.1) (p, on) r (event_text (Flag p on) ++ r) (simp (append_assoc) refl) refl (f, tt) tt
    back (Refused a b) r f s = again_behind _ _ _ _ route_reads event_at (codes "refused ") (λ x. Refused x.0 x.1) (a, b) r (event_text (Refused a b) ++ r) refl refl f tt

pub stamped_reads : Reads FitsStamped AtEnd stamped_text stamped_at
unfolding stamped_text stamped_at
stamped_reads =
    let events = spaced _ _ _ _ u8_reads _ _ _ _ event_reads (λ y. refl) in
    let all = pair_reads _ _ _ _ u64_reads _ _ _ _ (before_reads _ _ _ _ events (codes "@")) (λ y r s. refl) in
    mapped_reads _ _ _ _ all FitsStamped stamped_text (λ x. record { stamp = x.0; desk = x.1.0; event = x.1.1 }) (λ v. (v.stamp, (v.desk, v.event))) (λ v. refl)
    (λ x. simp (append_assoc) refl) (λ x f. (f.0, f.1.0, f.1.1)) (λ v f. (f.0, (f.1, f.2)))

pub left_over_reads : Reads FitsLeftOver NoDigit left_over_text left_over_at
unfolding left_over_text left_over_at
left_over_reads =
    let letters = spaced _ _ _ _ u8_reads _ _ _ _ letter_reads (λ y. refl) in
    let desks = pair_reads _ _ _ _ u8_reads _ _ _ _ (before_reads _ _ _ _ letters (codes " -> ")) (λ y r s. refl) in
    mapped_reads _ _ _ _ (before_reads _ _ _ _ desks (codes "left-over ")) FitsLeftOver left_over_text (λ x. record { from_desk = x.0; to_desk = x.1.0; letter = x.1.1 })
    (λ l. (l.from_desk, (l.to_desk, l.letter))) (λ l. refl) (λ x. simp (append_assoc) refl) (λ x f. (f.0, f.1.0, f.1.1)) (λ l f. (f.0, (f.1, f.2)))
