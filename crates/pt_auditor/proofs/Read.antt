-- A text read byte by byte.
use Rattle.std.proofs.Common.{◌≡◌, Option, ℕ, ◌+◌, ◌-◌, ◌^◌, ◌<◌, ◌==◌, min, Bool, true, false, inl, inr, List, [], ◌∷◌, ◌++◌, append-nil, append_assoc, add-one, length, take, drop, get_or, Ok, Err, Result, refl, ap, sym, ◌∙◌, subst, arith, cond, is_ok, is_err}
use Rattle.std.proofs.lemmas.Bool.{eqb-true}
use Rattle.std.proofs.lemmas.List.{take-append-drop}
use Rattle.std.proofs.Math.Seq.{take-suc, drop-cons}
use Rattle.pt_events.specs.declared.event.Stamped.{Stamped}
use Rattle.pt_events.specs.Text.{stamped_text}
use Rattle.pt_signal.specs.declared.letter.LeftOver.{LeftOver}
use Rattle.pt_signal.specs.Text.{left_over_text}
use Rattle.pt_texts.specs.Fits.{FitsStamped, FitsLeftOver}
use Rattle.pt_auditor.specs.declared.fault.Fault.{Fault}
use Rattle.pt_auditor.specs.declared.fault.Why.{Why}
use Rattle.pt_auditor.specs.declared.fault.Why.TheVariants.{Unread, Event, Letter, Over, Long, Memory}
use Rattle.pt_auditor.specs.declared.hearing.Hearing.{Hearing}
use Rattle.pt_auditor.specs.declared.hearing.Verdict.{Verdict}
use Rattle.pt_auditor.specs.declared.rest.Rest.{Rest}
use Rattle.pt_auditor.specs.declared.rest.Restless.{Restless}
use Rattle.pt_auditor.specs.declared.rest.Restless.TheVariants.{Line, Letters, OfNoNode}
use Rattle.pt_auditor.specs.declared.rest.Restless.TheVariants as restless
use Rattle.pt_auditor.specs.Rests.{IsTextOf, LeavesRest, RestsText}
use Rattle.pt_auditor.specs.Hearings.{Heard, IsHeard, MayHear, with_event, with_letter}
use Rattle.pt_events.specs.Counting.{capped}
use Rattle.pt_auditor.specs.Reading.{without_return, IsEventLine, EventLines, HistoryLines, IsPlain, joined_lines, OneMore, IsFault, IsRead, LineIsOver, LineGoesOn, IsWhy, IsFaulty, IsWholeText, Concludes, ClosesText, Grows}

-- the line tells an event, or a letter ----------------------------------------------------

pub heard_event : (t : Heard) (line : List ℕ) (s : Stamped) (h : Hearing) → line ≡ stamped_text s → FitsStamped s → MayHear t s × IsHeard (with_event s t) h
    → (u : Heard) × OneMore t line u × IsHeard u h
heard_event t line s h e f m = (with_event s t, inl (s, (e, f), m.0, refl), m.1)

pub heard_letter : (t : Heard) (line : List ℕ) (l : LeftOver) (h : Hearing) → line ≡ left_over_text l → FitsLeftOver l → IsHeard (with_letter l t) h
    → (u : Heard) × OneMore t line u × IsHeard u h
heard_letter t line l h e f m = (with_letter l t, inr (l, (e, f), refl), m)

event_line : (line : List ℕ) (lines : List (List ℕ)) (left : List LeftOver) (past : List Stamped) (s : Stamped) → left ≡ [] → IsEventLine (without_return line) s → HistoryLines lines left past
    → HistoryLines (line ∷ lines) left (s ∷ past)
event_line line lines [] past s e l h = (l, h)
event_line line lines (x ∷ left) past s e l h = absurd (cc)

one_line : (t u : Heard) (line : List ℕ) (lines : List (List ℕ)) → OneMore t (without_return line) u → HistoryLines lines t.left t.events → HistoryLines (line ∷ lines) u.left u.events
one_line t u line lines (inl (s, e, m, k)) h = subst (λ z. HistoryLines (line ∷ lines) z.left z.events) (sym k) (event_line line lines t.left t.events s m.0 e h)
one_line t u line lines (inr (l, e, k)) h = subst (λ z. HistoryLines (line ∷ lines) z.left z.events) (sym k) (e, h)

plain_push : (line : List ℕ) (b : ℕ) → IsPlain line → (b == 10) ≡ false → IsPlain (line ++ b ∷ [])
plain_push [] b p h = (h, tt)
plain_push (c ∷ line) b p h = (p.0, plain_push line b p.1 h)

pub plain_byte : (b : ℕ) → (b ≡ 10 → ⊥) → (b == 10) ≡ false
plain_byte b n = go (b == 10) refl
  where
    go : (c : Bool) → (b == 10) ≡ c → (b == 10) ≡ false
    go true e = absurd (n (eqb-true b 10 e))
    go false e = e

pub pushed_items : {X Y : Type 0} (r : Result X Y) (xs ys : List ℕ) → is_err r ≡ false → cond (is_ok r) xs ys ≡ xs
pushed_items (Ok x) xs ys h = refl
pushed_items (Err y) xs ys h = absurd (cc)

pub nothing : (xs : List ℕ) → length xs ≡ 0 → xs ≡ []
nothing [] h = refl
nothing (x ∷ xs) h = absurd (omega (arith, h))

-- one byte more ---------------------------------------------------------------------------

module _ (text : List ℕ) (t : Heard) (h : Hearing) (line : List ℕ) (count : ℕ) (r : IsRead text t h line count) where
  pub pushed : (b : ℕ) (new : List ℕ) → (b == 10) ≡ false → new ≡ line ++ b ∷ [] → IsRead (text ++ b ∷ []) t h new count
  pushed b new n e = record {
    lines = r.lines;
    splits = ap (λ z. z ++ b ∷ []) r.splits ∙ append_assoc (joined_lines r.lines) line (b ∷ []) ∙ ap (λ z. joined_lines r.lines ++ z) (sym e);
    plain = r.plain;
    open_plain = subst IsPlain (sym e) (plain_push line b r.open_plain n);
    count_is = r.count_is;
    tells = r.tells;
    heard = r.heard;
  }

  pub line_over : (u : Heard) (g : Hearing) (new : List ℕ) (more : ℕ) → OneMore t (without_return line) u → IsHeard u g → new ≡ [] → more ≡ min (count + 1) (2 ^ 64 - 1) → IsRead (text ++ 10 ∷ []) u g new more
  line_over u g new more one k e m = record {
    lines = line ∷ r.lines;
    splits = ap (λ z. z ++ 10 ∷ []) r.splits ∙ sym (append-nil (joined_lines (line ∷ r.lines))) ∙ ap (λ z. joined_lines (line ∷ r.lines) ++ z) (sym e);
    plain = (r.open_plain, r.plain);
    open_plain = subst IsPlain (sym e) tt;
    count_is = omega (arith, m, r.count_is);
    tells = one_line t u line r.lines one r.tells;
    heard = k;
  }

  -- the line is at fault
  pub faulty : (whole rest : List ℕ) (f : Fault) → whole ≡ text ++ rest → f.line ≡ min (count + 1) (2 ^ 64 - 1) → IsWhy t line rest f.why → IsFaulty whole f
  faulty whole rest f e n w = record {
    heard = t;
    lines = r.lines;
    line = line;
    rest = rest;
    splits = e ∙ ap (λ z. z ++ rest) r.splits;
    plain = r.plain;
    open_plain = r.open_plain;
    number = omega (arith, n, r.count_is);
    tells = r.tells;
    stands = r.heard.stands;
    why = w;
  }

  abbrev whole_is : line ≡ [] → IsWholeText text t
  whole_is e = record {
    lines = r.lines;
    are = inl (r.splits ∙ ap (λ z. joined_lines r.lines ++ z) e ∙ append-nil (joined_lines r.lines));
    plain = r.plain;
    tells = r.tells;
    stands = r.heard.stands;
  }

  pub concluded : (o : Result Verdict Fault) → line ≡ [] → ClosesText t count o → Concludes text o
  concluded (Ok v) e c = (t, whole_is e, c.0, c.1)
  concluded (Err f) e c = inr (t, whole_is e, (c.0, omega (arith, c.1, r.count_is)))

-- the same, where the last line was without its line feed
module _ (text : List ℕ) (t : Heard) (h : Hearing) (count : ℕ) (r : IsRead (text ++ 10 ∷ []) t h [] count) where
  abbrev open_is : IsWholeText text t
  open_is = record {
    lines = r.lines;
    are = inr (r.splits ∙ append-nil (joined_lines r.lines));
    plain = r.plain;
    tells = r.tells;
    stands = r.heard.stands;
  }

  pub concluded_open : (o : Result Verdict Fault) → ClosesText t count o → Concludes text o
  concluded_open (Ok v) c = (t, open_is, c.0, c.1)
  concluded_open (Err f) c = inr (t, open_is, (c.0, omega (arith, c.1, r.count_is)))

pub why_is : (t : Heard) (line rest : List ℕ) (why : Why) → LineIsOver rest → IsFault t (without_return line) why → IsWhy t line rest why
why_is t line rest (Unread n) o f = (o, f)
why_is t line rest (Event s x) o f = (o, f)
why_is t line rest (Letter l x) o f = (o, f)
why_is t line rest (Over x) o f = (o, f)
why_is t line rest Long o f = absurd f
why_is t line rest Memory o f = absurd f

-- the byte by which a line is too long
pub why_grown : (t : Heard) (line : List ℕ) (b : ℕ) (new rest : List ℕ) (why : Why) → Grows line b new (Err why) → LineGoesOn rest → IsWhy t line rest why
why_grown t line b new rest Long g o = (g, o)
why_grown t line b new rest Memory g o = tt
why_grown t line b new rest (Unread n) g o = absurd g
why_grown t line b new rest (Event s x) g o = absurd g
why_grown t line b new rest (Letter l x) g o = absurd g
why_grown t line b new rest (Over x) g o = absurd g

-- the bytes before and behind a place -----------------------------------------------------

module _ (text bytes : List ℕ) (n : ℕ) where
  pub seam : text ++ bytes ≡ (text ++ take n bytes) ++ drop n bytes
  seam = ap (λ z. text ++ z) (sym (take-append-drop n bytes)) ∙ sym (append_assoc text (take n bytes) (drop n bytes))

  pub next_byte : (b : ℕ) → n < length bytes → b ≡ get_or bytes n 0 → text ++ take (n + 1) bytes ≡ (text ++ take n bytes) ++ b ∷ []
  next_byte b h e =
      ap (λ z. text ++ z) (ap (λ m. take m bytes) (add-one n) ∙ take-suc bytes n 0 h ∙ ap (λ c. take n bytes ++ c ∷ []) (sym e))
      ∙ sym (append_assoc text (take n bytes) (b ∷ []))

  pub over_at : (b : ℕ) → n < length bytes → b ≡ get_or bytes n 0 → b ≡ 10 → LineIsOver (drop n bytes)
  over_at b h e k = subst LineIsOver (sym (drop-cons bytes n 0 h)) (sym e ∙ k)

  pub goes_on_at : (b : ℕ) → n < length bytes → b ≡ get_or bytes n 0 → (b == 10) ≡ false → LineGoesOn (drop n bytes)
  goes_on_at b h e k = subst LineGoesOn (sym (drop-cons bytes n 0 h)) (ap (λ c. c == 10) (sym e) ∙ k)

-- at rest -----------------------------------------------------------------------------------

event_lines : (lines : List (List ℕ)) (left : List LeftOver) (past : List Stamped) → left ≡ [] → HistoryLines lines left past → EventLines lines past
event_lines lines [] past e h = h
event_lines lines (l ∷ left) past e h = absurd (cc)

lines_length : (lines : List (List ℕ)) (past : List Stamped) → EventLines lines past → length lines ≡ length past
lines_length [] [] h = refl
lines_length [] (s ∷ past) h = absurd h
lines_length (l ∷ lines) [] h = absurd h
lines_length (l ∷ lines) (s ∷ past) h = omega (arith, lines_length lines past h.1)

pub text_of : (text : List ℕ) (t : Heard) (h : Hearing) (line : List ℕ) (count : ℕ) → IsRead text t h line count → line ≡ [] → t.left ≡ [] → IsTextOf text t.events
text_of text t h line count r e n = record {
  lines = r.lines;
  splits = r.splits ∙ ap (λ z. joined_lines r.lines ++ z) e ∙ append-nil (joined_lines r.lines);
  plain = r.plain;
  tells = event_lines r.lines t.left t.events n r.tells;
}

pub rests_text : (text : List ℕ) (t : Heard) (h : Hearing) (line : List ℕ) (count : ℕ) → IsRead text t h line count → line ≡ [] → (o : Result Rest Restless) → LeavesRest t o → RestsText text t line o
rests_text text t h line count r e (Ok rest) k = (text_of text t h line count r e k.0, k.1)
rests_text text t h line count r e (Err Line) k = absurd k
rests_text text t h line count r e (Err Letters) k = (e, k)
rests_text text t h line count r e (Err (OfNoNode f)) k = (e, k)
rests_text text t h line count r e (Err restless.Memory) k = (e, k)

pub read_over : (text : List ℕ) (past : List Stamped) (since : Option Stamped) (h : Hearing) (line : List ℕ) (count : ℕ) → IsTextOf text past → IsHeard (record { events = past; left = []; since = since }) h → line ≡ [] → count ≡ capped (length past)
    → IsRead text (record { events = past; left = []; since = since }) h line count
read_over text past since h line count t k e n = record {
  lines = t.lines;
  splits = t.splits ∙ sym (append-nil (joined_lines t.lines)) ∙ ap (λ z. joined_lines t.lines ++ z) (sym e);
  plain = t.plain;
  open_plain = subst IsPlain (sym e) tt;
  count_is = n ∙ ap capped (sym (lines_length t.lines past t.tells));
  tells = t.tells;
  heard = k;
}
