-- Lists that are one longer.
use Rattle.std.proofs.Common.{◌≡◌, ℕ, ◌+◌, ◌<◌, false, cond, List, [], ◌∷◌, ◌++◌, map, length, take, get_or, Some, None, ap, sym, ◌∙◌, append_assoc, arith}
use Rattle.std.specs.Prelude.{is_some, slice_get, max, pos}
use Rattle.std.proofs.lemmas.List.{take_more, map-append}
use Rattle.std.proofs.lemmas.List.Sums.{fold_more}
use Rattle.std.proofs.lemmas.Option.{slice_get_within, get_or_from_slice_get}
use Rattle.pt_signal.specs.declared.pid.Pid.{Pid}
use Rattle.pt_signal.specs.Process.{Sent}
use Rattle.pt_events.specs.declared.event.Stamped.{Stamped}
use Rattle.pt_events.specs.History.{Past}
use Rattle.pt_events.specs.Counting.{capped}
use Rattle.pt_chart.specs.Rows.{count_of}
use Rattle.pt_chart.specs.Drawing.{in_flight, letter_beside, refused_beside, widest_beside, widest_refusal}
use Rattle.pt_signal.specs.declared.signal.Signal.TheVariants.{Message}
use Rattle.pt_chart.specs.declared.layout.Arrow.{Arrow}
use Rattle.pt_chart.specs.declared.layout.Column.{Column}
use Rattle.pt_chart.specs.declared.part.Letter.{Letter}
use Rattle.pt_chart.specs.declared.layout.Sending.{Sending}
use Rattle.pt_chart.specs.Chart.{past_of, sent_at}

-- what one more gives stands behind
pub one_more_given : {X Y : Type 0} (f : X → Y) (start before after : List Y) (xs : List X) (i : ℕ) (d : X) → i < length xs → before ≡ start ++ map f (take i xs) → after ≡ before ++ f (get_or xs i d) ∷ []
    → after ≡ start ++ map f (take (i + 1) xs)
one_more_given f start before after xs i d h b a =
    a ∙ ap (λ z. z ++ f (get_or xs i d) ∷ []) b ∙ append_assoc start (map f (take i xs)) (f (get_or xs i d) ∷ [])
    ∙ ap (λ z. start ++ z) (sym (ap (map f) (take_more xs i d h) ∙ map-append f (take i xs) (get_or xs i d ∷ [])))

-- one more is paid
pub paid : (row : ℕ) (start before after : List Sending) (owed : List Sent) (i : ℕ) (l : Sent) → before ≡ start ++ map (sent_at row) (take i owed) → slice_get owed i ≡ Some l
    → after ≡ before ++ sent_at row l ∷ [] → after ≡ start ++ map (sent_at row) (take (i + 1) owed)
paid row start before after owed i l b g a =
    let f : Sent → Sending = sent_at row in
    a ∙ ap (λ z. z ++ f l ∷ []) b ∙ append_assoc start (map f (take i owed)) (f l ∷ [])
    ∙ ap (λ z. start ++ z) (sym (ap (map f) (take_more owed i l (slice_get_within owed i l g))
    ∙ map-append f (take i owed) (get_or owed i l ∷ [])
    ∙ ap (λ y. map f (take i owed) ++ f y ∷ []) (get_or_from_slice_get owed i l l g)))

abbrev pub no_arrow : Arrow
no_arrow = record { to = 0; signal = Message (record { kind = 0; num = pos 0; who = None }); sent = 0; came = None }

abbrev pub no_letter : Letter
no_letter = record { column = 0; arrow = no_arrow; ends = false; tip = 0 }

-- the widest label of one more event, and of one more letter
pub widest_refusal_more : (events : List Stamped) (i n : ℕ) (d : Stamped) → i < length events → n ≡ widest_refusal 12 (take i events)
    → max (refused_beside (get_or events i d).event) n ≡ widest_refusal 12 (take (i + 1) events)
widest_refusal_more events i n d h is =
    ap (max (refused_beside (get_or events i d).event)) is
    ∙ sym (fold_more (λ (n : ℕ) (s : Stamped). max (refused_beside s.event) n) 12 events i d h)

pub widest_beside_more : (room : ℕ) (ls : List Letter) (i n : ℕ) (d : Letter) → i < length ls → n ≡ widest_beside room (take i ls)
    → max (letter_beside (get_or ls i d)) n ≡ widest_beside room (take (i + 1) ls)
widest_beside_more room ls i n d h is =
    ap (max (letter_beside (get_or ls i d))) is
    ∙ sym (fold_more (λ (n : ℕ) (l : Letter). max (letter_beside l) n) room ls i d h)

-- one more letter in flight, or not
pub flight_more : (ls : List Letter) (i n : ℕ) (d : Letter) → i < length ls → n ≡ in_flight (take i ls)
    → cond (is_some (get_or ls i d).arrow.came) n (capped (n + 1)) ≡ in_flight (take (i + 1) ls)
flight_more ls i n d h is =
    ap (λ k. cond (is_some (get_or ls i d).arrow.came) k (capped (k + 1))) is
    ∙ sym (fold_more (λ (n : ℕ) (l : Letter). cond (is_some l.arrow.came) n (capped (n + 1))) 0 ls i d h)

-- one more event, and how many rows there are then
pub count_of_more : (rows : List ℕ) (i n : ℕ) → i < length rows → n ≡ count_of (take i rows) → max (capped (get_or rows i 0 + 1)) n ≡ count_of (take (i + 1) rows)
count_of_more rows i n h is = ap (max (capped (get_or rows i 0 + 1))) is ∙ sym (fold_more (λ (n row : ℕ). max (capped (row + 1)) n) 0 rows i 0 h)

pub past_more : (events : List Stamped) (i : ℕ) (d : Stamped) → i < length events → past_of (take (i + 1) events) ≡ (get_or events i d).event ∷ past_of (take i events)
past_more events i d h = fold_more (λ (past : Past) s. s.event ∷ past) [] events i d h

pub past_rows : (events : List Stamped) (i : ℕ) (d : Stamped) → i < length events → length (past_of (take i events)) ≡ i → length (past_of (take (i + 1) events)) ≡ i + 1
past_rows events i d h rows = ap length (past_more events i d h) ∙ omega (arith, rows)

-- one more column stands
pub stands_next : (ps : List Pid) (k : ℕ) (d : Pid) (before after : List Column) (c : Column) → k < length ps → c.pid ≡ get_or ps k d → map (λ (x : Column). x.pid) before ≡ take k ps
    → after ≡ before ++ c ∷ [] → map (λ (x : Column). x.pid) after ≡ take (k + 1) ps
stands_next ps k d before after c h is made pushed =
    ap (map (λ (x : Column). x.pid)) pushed ∙ map-append (λ (x : Column). x.pid) before (c ∷ []) ∙ ap (λ z. z ++ c.pid ∷ []) made ∙ ap (λ z. take k ps ++ z ∷ []) is ∙ sym (take_more ps k d h)
