-- What a text is after a write, and the chart that it is.
use Rattle.std.proofs.Common.{◌≡◌, ℕ, ◌+◌, ◌<◌, List, ◌++◌, length, get_or, take, Result, Ok, Err, ap, sym, ◌∙◌, append_assoc}
use Rattle.std.proofs.lemmas.List.{flat_map_more, take_more}
use Rattle.std.specs.List.{flat_map}
use Rattle.std.specs.Prelude.{IfOk, OnOk, is_ok, if◌then◌else◌}
use Rattle.pt_signal.specs.declared.pid.Pid.{Pid}
use Rattle.pt_events.specs.declared.event.Stamped.{Stamped}
use Rattle.pt_chart.specs.declared.layout.Layout.{Layout}
use Rattle.pt_chart.specs.Chart.{IsLayout, IsLegalHistory, ShowsHistory}
use Rattle.pt_chart.specs.Drawing.{IsChart, drawing_text, drawn, column_names, page_of}

-- the same bytes, put together in another way
pub reads_as : {T E : Type 0} (r : Result T E) (new old a b : List ℕ) → OnOk r (new ≡ old ++ a) → a ≡ b → OnOk r (new ≡ old ++ b)
reads_as (Ok x) new old a b h e = h ∙ ap (λ z. old ++ z) e
reads_as (Err x) new old a b h e = tt

-- what one write adds, and then another
pub written_then : {T E : Type 0} (r : Result T E) (old mid new a b : List ℕ) → mid ≡ old ++ a → OnOk r (new ≡ mid ++ b) → OnOk r (new ≡ old ++ (a ++ b))
written_then (Ok x) old mid new a b h k = k ∙ ap (λ z. z ++ b) h ∙ append_assoc old a b
written_then (Err x) old mid new a b h k = tt

-- what one write adds, and then a text that is put behind it
pub pushed_then : {T E : Type 0} (r : Result T E) (old mid new a b : List ℕ) → mid ≡ old ++ a → new ≡ (if is_ok r then mid ++ b else mid) → OnOk r (new ≡ old ++ (a ++ b))
pushed_then (Ok x) old mid new a b h k = k ∙ ap (λ z. z ++ b) h ∙ append_assoc old a b
pushed_then (Err x) old mid new a b h k = tt

-- a text that is another one too
pub text_as : {T E X : Type 0} (bytes : T → List X) (r : Result T E) (a b : List X) → a ≡ b → IfOk r (λ t. bytes t ≡ a) → IfOk r (λ t. bytes t ≡ b)
text_as bytes (Ok t) a b e h = h ∙ e
text_as bytes (Err x) a b e h = tt

-- the next part of a text that is written part by part
pub written_next : {X : Type 0} (f : X → List ℕ) (xs : List X) (i : ℕ) (d : X) (old mid new : List ℕ) → i < length xs → mid ≡ old ++ flat_map f (take i xs) → new ≡ mid ++ f (get_or xs i d) → new ≡ old ++ flat_map f (take (i + 1) xs)
written_next f xs i d old mid new lt h k =
    k ∙ ap (λ z. z ++ f (get_or xs i d)) h ∙ flat_map_more f old (take i xs) (get_or xs i d)
    ∙ ap (λ z. old ++ flat_map f z) (sym (take_more xs i d lt))

-- a drawing of a layout of the history is a chart of it
pub charted : {T E : Type 0} (bytes : T → List ℕ) (events : List Stamped) (names : List (Pid × List ℕ)) (l : Layout) (r : Result T E) → IsLayout events l → (IsLegalHistory events → ShowsHistory events l)
    → IfOk r (λ text. bytes text ≡ drawing_text (page_of events l) (column_names names l.columns.items) (drawn events l)) → IfOk r (λ text. IsChart events names (bytes text))
charted bytes events names l (Ok text) laid legal drawing = record { layout = l; laid_out = laid; legal = legal; is = drawing }
charted bytes events names l (Err e) laid legal drawing = tt
