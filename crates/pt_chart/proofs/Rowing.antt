-- The rows of events, as they are counted, and as the history has them.
use Rattle.std.proofs.Common.{◌≡◌, ℕ, zero, suc, ◌+◌, ◌<◌, ◌≤◌, Bool, true, false, ◌||◌, List, [], ◌∷◌, ◌++◌, map, length, take, drop, get_or, Result, Ok, Err, refl, ap, sym, ◌∙◌, subst, arith, below_more, append-nil}
use Rattle.std.specs.Prelude.{All, IfOk, replicate}
use Rattle.std.specs.List.{list_any}
use Rattle.std.proofs.lemmas.List.{drop_all, take_all, get_or-replicate, get_or_append_left, length-append, length-replicate}
use Rattle.std.proofs.Math.Seq.{get_or-append_seam}
use Rattle.pt_signal.specs.declared.pid.Pid.{Pid}
use Rattle.pt_events.specs.declared.event.Stamped.{Stamped}
use Rattle.pt_chart.specs.declared.layout.Column.{Column}
use Rattle.pt_chart.specs.declared.layout.Layout.{Layout}
use Rattle.pt_chart.specs.Chart.{arrows, everyone, follows_in, past_of, sent_of, ShowsHistory, ShowsLife}
use Rattle.pt_chart.specs.Rows.{AreRows, comes_next, follows_sending, births_in_front}
use Rattle.pt_chart.specs.Standing.{AreNumbered, Notes}

-- what is noted ---------------------------------------------------------------------------------------

-- what a list holds behind a write of all of it
pub written : (count n : ℕ) (mid new items : List Bool) → items ≡ replicate count false → mid ≡ items → n ≡ count → length new ≡ length mid → take n (new ++ drop (length new) items) ≡ new
written count n mid new items made is all same =
    let long : length items ≡ count = ap length made ∙ length-replicate count false in
    let whole : length new ≡ count = same ∙ ap length is ∙ long in
    ap (λ rest. take n (new ++ rest)) (drop_all (length new) items (omega (arith, long, whole))) ∙ ap (take n) (append-nil new) ∙ take_all n new (omega (arith, all, whole))

pub notes_told : (count : ℕ) (says : ℕ → Bool) (mid new items : List Bool) → items ≡ replicate count false → mid ≡ items → Notes says mid new → (i : ℕ) → i < count → get_or new i false ≡ says i
notes_told count says mid new items made is notes i h =
    let inside : i < length mid = omega (arith, ap length is ∙ ap length made ∙ length-replicate count false) in
    notes.noted i inside ∙ ap (λ b. b || says i) (ap (λ xs. get_or xs i false) (is ∙ made) ∙ get_or-replicate count i false false h)

-- rows that are counted --------------------------------------------------------------------------------

-- the rows of the first n events, of which the last one stands in this row
pub record Numbers (births : ℕ) (follows : List Bool) (n row : ℕ) (rows : List ℕ) : Type 0 where
  pub each : length rows ≡ n
  pub low : row ≤ n
  pub begin : n ≡ 0 → row ≡ 0
  pub last : (i : ℕ) → n ≡ i + 1 → get_or rows i 0 ≡ row
  pub first : get_or rows 0 0 ≡ 0
  pub front : (i : ℕ) → i < n → i < births → get_or rows i 0 ≡ 0
  pub receipts : (i : ℕ) → i + 1 < n → get_or follows (i + 1) false ≡ true → get_or rows (i + 1) 0 ≡ get_or rows i 0
  pub others : (i : ℕ) → i + 1 < n → births ≤ i + 1 → get_or follows (i + 1) false ≡ false → get_or rows (i + 1) 0 ≡ get_or rows i 0 + 1

-- in which row the next one stands
pub record Behind (births : ℕ) (follows : Bool) (n row row' : ℕ) : Type 0 where
  pub first : n ≡ 0 → row' ≡ row
  pub front : n < births → row' ≡ row
  pub shared : follows ≡ true → row' ≡ row
  pub own : 0 < n → births ≤ n → follows ≡ false → row' ≡ row + 1
  pub most : row' ≤ row + 1

numbers_first : (births : ℕ) (follows : List Bool) (row row' : ℕ) (rows : List ℕ) → Numbers births follows 0 row rows → Behind births (get_or follows 0 false) 0 row row' → Numbers births follows 1 row' (rows ++ row' ∷ [])
numbers_first births follows row row' rows w b =
    let none : row' ≡ 0 = b.first refl ∙ w.begin refl in
    let there : get_or (rows ++ row' ∷ []) 0 0 ≡ row' = subst (λ k. get_or (rows ++ row' ∷ []) k 0 ≡ row') w.each (get_or-append_seam rows row' [] 0) in
    record {
      each = simp length-append (omega (arith, w.each));
      low = omega (arith, none);
      begin = λ h. absurd (omega (arith, h));
      last = λ i h. let e : 0 ≡ i = omega (arith, h) in subst (λ k. get_or (rows ++ row' ∷ []) k 0 ≡ row') e there;
      first = there ∙ none;
      front = λ i h f. let e : 0 ≡ i = omega (arith, h) in subst (λ k. get_or (rows ++ row' ∷ []) k 0 ≡ 0) e (there ∙ none);
      receipts = λ i h f. absurd (omega (arith, h));
      others = λ i h o f. absurd (omega (arith, h));
    }

numbers_more : (births : ℕ) (follows : List Bool) (m n row row' : ℕ) (rows : List ℕ) → n ≡ m + 1 → Numbers births follows n row rows → Behind births (get_or follows n false) n row row'
    → Numbers births follows (n + 1) row' (rows ++ row' ∷ [])
numbers_more births follows m n row row' rows e w b =
    let rows' : List ℕ = rows ++ row' ∷ [] in
    let there : get_or rows' n 0 ≡ row' = subst (λ k. get_or rows' k 0 ≡ row') w.each (get_or-append_seam rows row' [] 0) in
    let old : (k : ℕ) → k < n → get_or rows' k 0 ≡ get_or rows k 0 = λ k h. get_or_append_left rows (row' ∷ []) 0 k (omega (arith, w.each, h)) in
    let before : get_or rows' m 0 ≡ row = old m (omega (arith, e)) ∙ w.last m e in
    let next : get_or rows' (m + 1) 0 ≡ row' = subst (λ k. get_or rows' k 0 ≡ row') e there in
    let here : get_or follows (m + 1) false ≡ get_or follows n false = ap (λ k. get_or follows k false) (sym e) in
    record {
      each = simp length-append (omega (arith, w.each));
      low = omega (arith, w.low, b.most);
      begin = λ h. absurd (omega (arith, h));
      last = λ i h. let same : n ≡ i = omega (arith, h) in subst (λ k. get_or rows' k 0 ≡ row') same there;
      first = old 0 (omega (arith, e)) ∙ w.first;
      front = below_more (λ k. k < births → get_or rows' k 0 ≡ 0) n (λ k h f. old k h ∙ w.front k h f)
          (λ f. there ∙ b.front f ∙ sym (w.last m e) ∙ w.front m (omega (arith, e)) (omega (arith, e, f)));
      receipts = λ i h. below_more (λ k. get_or follows (k + 1) false ≡ true → get_or rows' (k + 1) 0 ≡ get_or rows' k 0) m
          (λ k g f. old (k + 1) (omega (arith, e, g)) ∙ w.receipts k (omega (arith, e, g)) f ∙ sym (old k (omega (arith, e, g))))
          (λ f. next ∙ b.shared (sym here ∙ f) ∙ sym before) i (omega (arith, e, h));
      others = λ i h. below_more (λ k. births ≤ k + 1 → get_or follows (k + 1) false ≡ false → get_or rows' (k + 1) 0 ≡ get_or rows' k 0 + 1) m
          (λ k g o f. old (k + 1) (omega (arith, e, g)) ∙ w.others k (omega (arith, e, g)) o f ∙ ap (λ r. r + 1) (sym (old k (omega (arith, e, g)))))
          (λ o f. next ∙ b.own (omega (arith, e)) (omega (arith, e, o)) (sym here ∙ f) ∙ ap (λ r. r + 1) (sym before)) i (omega (arith, e, h));
    }

-- one more
pub numbers_next : (births : ℕ) (follows : List Bool) (n row row' : ℕ) (rows rows' : List ℕ) → Numbers births follows n row rows → Behind births (get_or follows n false) n row row' → rows' ≡ rows ++ row' ∷ []
    → Numbers births follows (n + 1) row' rows'
numbers_next births follows n row row' rows rows' w b pushed = subst (Numbers births follows (n + 1) row') (sym pushed) (next n w b)
  where
    next : (k : ℕ) → Numbers births follows k row rows → Behind births (get_or follows k false) k row row' → Numbers births follows (k + 1) row' (rows ++ row' ∷ [])
    next zero w b = numbers_first births follows row row' rows w b
    next (suc m) w b = numbers_more births follows m (suc m) row row' rows (omega arith) w b

-- all of them
pub numbered : (births : ℕ) (follows : List Bool) (n row : ℕ) (rows : List ℕ) → n ≡ length follows → Numbers births follows n row rows → AreNumbered births follows rows
numbered births follows n row rows all w = record {
  each = w.each ∙ all;
  first = w.first;
  front = λ i h. w.front i (omega (arith, all, h));
  receipts = λ i h. w.receipts i (omega (arith, all, h));
  others = λ i h. w.others i (omega (arith, all, h));
}

-- the rows of the history --------------------------------------------------------------------------------

pub rows_are : (events : List Stamped) (says : ℕ → Bool) (follows : List Bool) (rows : List ℕ) → length follows ≡ length events → ((i : ℕ) → i < length events → get_or follows i false ≡ says i)
    → AreNumbered (births_in_front events) follows rows → AreRows events says rows
rows_are events says follows rows all is w = record {
  each = w.each ∙ all;
  first = w.first;
  births = λ i h. w.front i (omega (arith, all, h));
  receipts = λ i h f. w.receipts i (omega (arith, all, h)) (is (i + 1) h ∙ f);
  others = λ i h o f. w.others i (omega (arith, all, h)) o (is (i + 1) h ∙ f);
}

pub rows_told : {T E : Type 0} (items : T → List ℕ) (events : List Stamped) (says : ℕ → Bool) (follows : List Bool) (births : ℕ) (r : Result T E) → births ≡ births_in_front events → length follows ≡ length events
    → ((i : ℕ) → i < length events → get_or follows i false ≡ says i) → IfOk r (λ v. AreNumbered births follows (items v)) → IfOk r (λ v. AreRows events says (items v))
rows_told items events says follows births (Ok v) front all is w = rows_are events says follows (items v) all is (subst (λ n. AreNumbered n follows (items v)) front w)
rows_told items events says follows births (Err e) front all is w = tt

-- where each column has the arrows of the history, the receipts that follow their sendings are those of the history
same_follow : (events : List Stamped) (i : ℕ) (cs : List Column) → All (λ (c : Column). ShowsLife events c) cs
    → follows_sending events cs i ≡ list_any (λ (p : Pid). list_any (comes_next events i) (arrows events (everyone events) p [] (sent_of (past_of events) p))) (map (λ (c : Column). c.pid) cs)
same_follow events i [] shown = refl
same_follow events i (c ∷ cs) shown =
    ap (λ sent. list_any (comes_next events i) sent || follows_sending events cs i) (let first : ShowsLife events c = shown 0 c (omega arith) in first.arrows)
    ∙ ap (λ b. list_any (comes_next events i) (arrows events (everyone events) c.pid [] (sent_of (past_of events) c.pid)) || b) (same_follow events i cs (λ k d h. shown (suc k) d (omega arith)))

pub history_shown : (events : List Stamped) (l : Layout) → map (λ (c : Column). c.pid) l.columns.items ≡ everyone events → AreRows events (follows_sending events l.columns.items) l.rows.items
    → All (λ (c : Column). ShowsLife events c) l.columns.items → ShowsHistory events l
history_shown events l pids rows lives =
    let same : (i : ℕ) → follows_in events i ≡ follows_sending events l.columns.items i =
    λ i. sym (same_follow events i l.columns.items lives ∙ ap (list_any (λ (p : Pid). list_any (comes_next events i) (arrows events (everyone events) p [] (sent_of (past_of events) p)))) pids)
    in
    record {
      lives = lives;
      rows = record {
        each = rows.each;
        first = rows.first;
        births = rows.births;
        receipts = λ i h f. rows.receipts i h (sym (same (i + 1)) ∙ f);
        others = λ i h o f. rows.others i h o (sym (same (i + 1)) ∙ f);
      };
    }
