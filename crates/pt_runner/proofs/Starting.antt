-- Births one after the other.
use Rattle.std.proofs.Common.{◌≡◌, ◌≢◌, ⊎_elim, ℕ, zero, suc, ◌+◌, ◌<◌, List, [], ◌∷◌, ◌++◌, Bool, true, false, cond, length, length-append, map, get_or, set, take, Option, Some, None, Result, Ok, Err, refl, ap, sym, subst, ◌∙◌, append-nil, arith, lit<}
use Rattle.std.specs.Prelude.{◌==◌, ◌≤◌, filter, fold, reverse, IsSome, IsErrAnd, Vec}
use Rattle.pt_script.specs.Sound.{IsSoundScript, TopFits}
use Rattle.pt_script.specs.Plans.{Plan, Whole}
use Rattle.std.specs.List.{All}
use Rattle.std.proofs.lemmas.Bool.{cases_eq, eqb-true, eq-eqb}
use Rattle.std.proofs.lemmas.List.{take_more, take_all, map-append, reverse-append, get_or-set_same, get_or-set_other, length-set, get_or_default}
use Rattle.std.proofs.lemmas.List.Elements.{filter-append, All-head, All-tail}
use Rattle.std.proofs.lemmas.List.Sums.{fold-append}
use Rattle.std.proofs.lemmas.Slice.Zip.{length-zip, get_or-zip}
use Rattle.pt_signal.specs.declared.pid.Pid.{Pid}
use Rattle.pt_events.specs.declared.event.Event.{Event}
use Rattle.pt_signal.specs.declared.config.Config.{Config}
use Rattle.pt_shard.specs.declared.fault.Fault.{Fault}
use Rattle.pt_shard.specs.declared.fault.Fault.TheVariants.{Full, Memory, Worn, Gone, Myself, NoProc}
use Rattle.pt_shard.specs.ShardState.{ShardState, past}
use Rattle.pt_shard.specs.Calls.{Bears, CanWrite, IsWorn}
use Rattle.pt_shard.specs.Opening.{fresh_shard}
use Rattle.pt_desk.specs.DeskState.{DeskState, IsDesk, GoesOn}
use Rattle.pt_workers.specs.Desks.{AreDesksOf}
use Rattle.pt_workers.proofs.StillDesks.{still_node}
use Rattle.pt_script.specs.declared.values.Top.{Top}
use Rattle.pt_runner.specs.declared.runner.Actor.{Actor}
use Rattle.pt_runner.specs.declared.runner.Runner.{Runner}
use Rattle.pt_runner.specs.Acting.{Acting, acting, table, newborn_actor}
use Rattle.pt_runner.specs.Waiting.{IsFresh}
use Rattle.pt_runner.specs.Starting.{AreUnused, on, birth, StartBegins, IsRunnerOf, named_tops, put_pid, numbered_pids, starter, starters, is_on, AtNext, BirthsStop, BornUntil, BearsList, Starts}

-- the desks of a node -----------------------------------------------------------------

-- desks of one node are that node's where one of them goes on
pub node_set : (config : Config) (desks : List DeskState) (d : ℕ) (old y : DeskState) → AreDesksOf config desks → d < length desks → old ≡ get_or desks d old → GoesOn old y → AreDesksOf config (set desks d y)
node_set config desks d old y node l r s = still_node config desks d old y node l r (s.place, s.shard.config, s.sight.directory, s.shard.start)

-- those of one desk -----------------------------------------------------------------------

on_one : (e : ℕ) (p : Pid) (b : Bool) → (p.shard == e) ≡ b → on e (p ∷ []) ≡ cond b (p ∷ []) []
on_one e p true h = rw h refl
on_one e p false h = rw h refl

pub on_more : (e : ℕ) (born : List Pid) (p : Pid) (b : Bool) → (p.shard == e) ≡ b → on e (born ++ p ∷ []) ≡ on e born ++ cond b (p ∷ []) []
on_more e born p b h = filter-append (λ (q : Pid). q.shard == e) born (p ∷ []) ∙ ap (λ (ps : List Pid). on e born ++ ps) (on_one e p b h)

unequal : (m n : ℕ) → m ≢ n → (b : Bool) → (m == n) ≡ b → b ≡ false
unequal m n h true e = absurd (h (eqb-true m n e))
unequal m n h false e = refl

abbrev pub births : ℕ → List Pid → List Event
births e born = reverse (map birth (on e born))

births_here : (e : ℕ) (born : List Pid) (p : Pid) → p.shard ≡ e → births e (born ++ p ∷ []) ≡ birth p ∷ births e born
births_here e born p h =
    let more : on e (born ++ p ∷ []) ≡ on e born ++ p ∷ [] = on_more e born p true (eq-eqb p.shard e h) in
    ap (λ (ps : List Pid). reverse (map birth ps)) more ∙ ap reverse (map-append birth (on e born) (p ∷ [])) ∙ reverse-append (map birth (on e born)) (birth p ∷ [])

births_other : (e : ℕ) (born : List Pid) (p : Pid) → p.shard ≢ e → births e (born ++ p ∷ []) ≡ births e born
births_other e born p h =
    let none : on e (born ++ p ∷ []) ≡ on e born ++ [] = on_more e born p false (unequal p.shard e h (p.shard == e) refl) in
    ap (λ (ps : List Pid). reverse (map birth ps)) (none ∙ append-nil (on e born))

-- births on the desks ------------------------------------------------------------------------

pub record Begun (config : Config) (tops : List Top) (count : ℕ) (born : List Pid) (desks : List DeskState) : Type 0 where
  pub begins : StartBegins tops count born desks
  pub node : AreDesksOf config desks
  pub numbers : (d : ℕ) (x : DeskState) → d < length desks → (get_or desks d x).shard.number ≡ d

pub begun_none : (config : Config) (tops : List Top) (desks : List DeskState) → AreUnused config desks → Begun config tops 0 [] desks
begun_none config tops desks fresh = record {
  begins = record {
    counted = refl;
    within = omega arith;
    placed = refl;
    pasts = λ d x l. ap past (fresh.shards d x l);
  };
  node = fresh.node;
  numbers = λ d x l. ap (λ (s : ShardState). s.number) (fresh.shards d x l);
}

module _ (config : Config) (tops : List Top) (count : ℕ) (born : List Pid) (desks : List DeskState) (d : ℕ) (old y : DeskState) (begun : Begun config tops count born desks) (within : d < length desks) (is : old ≡ get_or desks d old) (went : GoesOn old y) where
  read : (x : DeskState) → get_or desks d x ≡ old
  read x = sym (is ∙ get_or_default desks d old x within)

  numbers_set : (e : ℕ) (x : DeskState) → e < length (set desks d y) → (get_or (set desks d y) e x).shard.number ≡ e
  numbers_set e x l = ⊎_elim (λ same. at same) (λ apart. beside apart) (cases_eq e d)
    where
      at : e ≡ d → (get_or (set desks d y) e x).shard.number ≡ e
      at same = rw (same, get_or-set_same desks d y x within) (went.shard.number ∙ ap (λ (z : DeskState). z.shard.number) (sym (read old)) ∙ begun.numbers d old within)

      beside : e ≢ d → (get_or (set desks d y) e x).shard.number ≡ e
      beside apart = rw (get_or-set_other desks d e y x apart) (begun.numbers e x (rw (sym (length-set desks d y)) l))

  pasts_set : (more : List Pid) → past y.shard ≡ births d more → ((e : ℕ) → e ≢ d → births e more ≡ births e born) → (e : ℕ) (x : DeskState) → e < length (set desks d y) → past (get_or (set desks d y) e x).shard ≡ births e more
  pasts_set more here others e x l = ⊎_elim (λ same. at same) (λ apart. beside apart) (cases_eq e d)
    where
      at : e ≡ d → past (get_or (set desks d y) e x).shard ≡ births e more
      at same = rw (same, get_or-set_same desks d y x within) here

      beside : e ≢ d → past (get_or (set desks d y) e x).shard ≡ births e more
      beside apart = rw (get_or-set_other desks d e y x apart, others e apart) (begun.begins.pasts e x (rw (sym (length-set desks d y)) l))

  before : past old.shard ≡ births d born
  before = ap (λ (z : DeskState). past z.shard) (sym (read old)) ∙ begun.begins.pasts d old within

  -- the desk is as before
  pub begun_same : y.shard ≡ old.shard → Begun config tops count born (set desks d y)
  begun_same same = record {
    begins = record {
      counted = begun.begins.counted;
      within = begun.begins.within;
      placed = begun.begins.placed;
      pasts = pasts_set born (ap past same ∙ before) (λ e apart. refl);
    };
    node = node_set config desks d old y begun.node within is went;
    numbers = numbers_set;
  }

  -- a process is born there
  pub begun_more : (t : Top) (p : Pid) → count < length tops → get_or tops count t ≡ t → t.desk ≡ d → p.shard ≡ y.shard.number → Bears None None old.shard (Ok p) y.shard → Begun config tops (count + 1) (born ++ p ∷ []) (set desks d y)
  begun_more t p some top_is desk_is numbered_pids bears =
      let mine : p.shard ≡ d = numbered_pids ∙ went.shard.number ∙ ap (λ (z : DeskState). z.shard.number) (sym (read old)) ∙ begun.numbers d old within in
      let first : past y.shard ≡ birth p ∷ past old.shard = ap past bears.2 in
      record {
        begins = record {
          counted = length-append born (p ∷ []) ∙ ap (λ n. n + 1) begun.begins.counted;
          within = omega arith;
          placed = placed_more mine;
          pasts = pasts_set (born ++ p ∷ []) (first ∙ ap (λ (es : List Event). birth p ∷ es) before ∙ sym (births_here d born p mine)) (λ e apart. births_other e born p (λ same. apart (sym same ∙ mine)));
        };
        node = node_set config desks d old y begun.node within is went;
        numbers = numbers_set;
      }
    where
      placed_more : p.shard ≡ d → map (λ (q : Pid). q.shard) (born ++ p ∷ []) ≡ map (λ (u : Top). u.desk) (take (count + 1) tops)
      placed_more mine =
          map-append (λ (q : Pid). q.shard) born (p ∷ [])
          ∙ ap (λ ns. ns ++ p.shard ∷ []) begun.begins.placed
          ∙ ap (λ n. map (λ (u : Top). u.desk) (take count tops) ++ n ∷ []) (mine ∙ sym desk_is)
          ∙ sym (map-append (λ (u : Top). u.desk) (take count tops) (t ∷ []))
          ∙ ap (map (λ (u : Top). u.desk)) (ap (λ (u : Top). take count tops ++ u ∷ []) (sym top_is) ∙ sym (take_more tops count t some))

-- a refused birth changes nothing
pub not_born : (old new : ShardState) (fault : Fault) → Bears None None old (Err fault) new → new ≡ old
not_born old new Worn b = b.1
not_born old new Full b = b.2
not_born old new Memory b = b.2
not_born old new Gone b = absurd b
not_born old new Myself b = absurd b
not_born old new NoProc b = absurd b

-- runners --------------------------------------------------------------------------------------

-- the top t and the pid p stand at this place of their lists
pub record AreAt (w : Whole) (born : List Pid) (i : ℕ) (t : Top) (p : Pid) : Type 0 where
  pub few : i < length w.tops
  pub within : i < length born
  pub top : t ≡ get_or w.tops i t
  pub pid : p ≡ get_or born i p

pub are_at : (w : Whole) (born : List Pid) (tops : List Top) (i : ℕ) (none : Top) (nobody : Pid) → tops ≡ w.tops → length born ≤ length w.tops → i < length born → AreAt w born i (get_or tops i none) (get_or born i nobody)
are_at w born tops i none nobody same enough within =
    let few : i < length w.tops = omega (arith, enough, within) in
    record {
      few = few;
      within = within;
      top = ap (λ (ts : List Top). get_or ts i none) same ∙ sym (get_or_default w.tops i (get_or tops i none) none few);
      pid = sym (get_or_default born i (get_or born i nobody) nobody within);
    }

-- one more of the list, with its pid
named_more : (w : Whole) (born : List Pid) (i : ℕ) (t : Top) (p : Pid) → AreAt w born i t p → take (i + 1) (named_tops w born) ≡ take i (named_tops w born) ++ (t, p) ∷ []
named_more w born i t p here =
    take_more (named_tops w born) i (t, p) (omega (arith, length-zip w.tops born, here.few, here.within))
    ∙ ap (λ (one : Top × Pid). take i (named_tops w born) ++ one ∷ [])
    (get_or-zip w.tops born i (t, p) here.few here.within ∙ ap (λ (u : Top). (u, get_or born i p)) (sym here.top) ∙ ap (λ (q : Pid). (t, q)) (sym here.pid))

pub named_all : (w : Whole) (born : List Pid) (i : ℕ) → length born ≤ i → take i (named_tops w born) ≡ named_tops w born
named_all w born i all = take_all i (named_tops w born) (omega (arith, length-zip w.tops born, all))

-- its number gets its pid
pub numbered_more : (w : Whole) (born : List Pid) (i : ℕ) (t : Top) (p : Pid) (start pids : List (Option Pid)) → AreAt w born i t p
    → pids ≡ fold put_pid start (take i (named_tops w born)) → set pids t.process (Some p) ≡ fold put_pid start (take (i + 1) (named_tops w born))
numbered_more w born i t p start pids here so_far =
    ap (λ (all : List (Option Pid)). set all t.process (Some p)) so_far
    ∙ sym (fold-append put_pid start (take i (named_tops w born)) ((t, p) ∷ []))
    ∙ ap (fold put_pid start) (sym (named_more w born i t p here))

-- where it is of the desk, it is a starter there
one_starter : (plans : List Plan) (d : ℕ) (one : Top × Pid) (b : Bool) → (one.1.shard == d) ≡ b → starters plans d (one ∷ []) ≡ cond b (starter plans one ∷ []) []
one_starter plans d one true h = rw h refl
one_starter plans d one false h = rw h refl

starters_more : (plans : List Plan) (d : ℕ) (ones : List (Top × Pid)) (one : Top × Pid) → starters plans d (ones ++ one ∷ []) ≡ starters plans d ones ++ starters plans d (one ∷ [])
starters_more plans d ones one = ap (map (starter plans)) (filter-append (is_on d) ones (one ∷ [])) ∙ map-append (starter plans) (filter (is_on d) ones) (filter (is_on d) (one ∷ []))

-- the actors are those of the first i of the list that are of desk d
abbrev pub Listed : Whole → List Pid → ℕ → ℕ → List Actor → Type 0
Listed w born d i actors = map acting actors ≡ starters w.processes d (take i (named_tops w born))

module _ (w : Whole) (born : List Pid) (d i : ℕ) (t : Top) (p : Pid) (actors : List Actor) (here : AreAt w born i t p) (listed : Listed w born d i actors) where
  lists : (b : Bool) → (p.shard == d) ≡ b → starters w.processes d (take (i + 1) (named_tops w born)) ≡ starters w.processes d (take i (named_tops w born)) ++ cond b (starter w.processes (t, p) ∷ []) []
  lists b h =
      ap (starters w.processes d) (named_more w born i t p here) ∙ starters_more w.processes d (take i (named_tops w born)) (t, p)
      ∙ ap (λ (xs : List Acting). starters w.processes d (take i (named_tops w born)) ++ xs) (one_starter w.processes d (t, p) b h)

  pub listed_here : (a : Actor) → p.shard ≡ d → acting a ≡ newborn_actor w.processes t.process p → Listed w born d (i + 1) (actors ++ a ∷ [])
  listed_here a same new =
      map-append acting actors (a ∷ []) ∙ ap (λ (xs : List Acting). xs ++ acting a ∷ []) listed
      ∙ ap (λ (x : Acting). starters w.processes d (take i (named_tops w born)) ++ x ∷ []) new ∙ sym (lists true (eq-eqb p.shard d same))

  pub listed_beside : p.shard ≢ d → Listed w born d (i + 1) actors
  listed_beside apart =
      let no : (p.shard == d) ≡ false = unequal p.shard d apart (p.shard == d) refl in
      listed ∙ sym (lists false no ∙ append-nil (starters w.processes d (take i (named_tops w born))))

-- the runner that has all that were listed
pub runner_made : (w : Whole) (born : List Pid) (d i : ℕ) (actors : List Actor) (pids : List (Option Pid)) (r : Runner) → length born ≤ i → Listed w born d i actors → pids ≡ numbered_pids w born
    → r.script.now ≡ w → IsFresh r → table r ≡ record { plans = w.processes; pids = pids; actors = map acting actors } → IsRunnerOf w born d r
runner_made w born d i actors pids r all listed numbers script fresh made = record {
  script = script;
  fresh = fresh;
  table =
      made ∙ ap (λ (ps : List (Option Pid)). record { plans = w.processes; pids = ps; actors = map acting actors }) numbers
      ∙ ap (λ (xs : List Acting). record { plans = w.processes; pids = numbered_pids w born; actors = xs }) (listed ∙ ap (starters w.processes d) (named_all w born i all));
}

all_at : {X : Type 0} (P : X → Type 0) (xs : List X) (i : ℕ) (d : X) → All P xs → i < length xs → P (get_or xs i d)
all_at P [] i d all lt = absurd (omega (arith, lt))
all_at P (x ∷ xs) zero d all lt = All-head P x xs all
all_at P (x ∷ xs) (suc i) d all lt = all_at P xs i d (All-tail P x xs all) (omega (arith, lt))

-- the desk of a process of the script's list is one of the node
pub desk_within : (w : Whole) (config : Config) (desks : List DeskState) (i : ℕ) (d : Top) → IsSoundScript w → config.desks ≡ w.settings.desks → AreDesksOf config desks → i < length w.tops → (get_or w.tops i d).desk < length desks
desk_within w config desks i d sound many node lt =
    let fits = all_at (TopFits (length w.processes) w.settings.desks) w.tops i d sound.tops lt in
    omega (arith, fits.1, many, node.count)

-- refusals ---------------------------------------------------------------------------------------

-- the desk of the next process, which was written back
at_next : (tops : List Top) (count : ℕ) (desks : List DeskState) (t : Top) (y : DeskState) (Holds : DeskState → Type 0) → count < length tops → (get_or tops count t).desk < length desks → Holds y
    → AtNext tops count (set desks (get_or tops count t).desk y) Holds
at_next tops count desks t y Holds few within holds u x =
    let same : (get_or tops count u).desk ≡ (get_or tops count t).desk = ap (λ (z : Top). z.desk) (get_or_default tops count u t few) in
    let there : get_or (set desks (get_or tops count t).desk y) (get_or tops count u).desk x ≡ y = ap (λ n. get_or (set desks (get_or tops count t).desk y) n x) same ∙ get_or-set_same desks (get_or tops count t).desk y x within in
    subst Holds (sym there) holds

-- what its refusal says of it
pub births_stop : (tops : List Top) (count : ℕ) (desks : List DeskState) (t : Top) (old : ShardState) (y : DeskState) (fault : Fault) → count < length tops → (get_or tops count t).desk < length desks
    → IsDesk y → Bears None None old (Err fault) y.shard → BirthsStop tops count (set desks (get_or tops count t).desk y) fault
births_stop tops count desks t old y Full few within whole b =
    let H : ShardState → Type 0 = λ s. CanWrite s × (s.vacant ≡ None) in
    let h : H y.shard = subst H (sym b.2) (b.0, b.1) in
    (few, at_next tops count desks t y (λ d. IsDesk d × CanWrite d.shard × (d.shard.vacant ≡ None)) few within (whole, h.0, h.1))
births_stop tops count desks t old y Worn few within whole b =
    (few, at_next tops count desks t y (λ d. IsDesk d × IsWorn d.shard) few within (whole, subst IsWorn (sym b.1) b.0))
births_stop tops count desks t old y Memory few within whole b = λ less.
    let H : ShardState → Type 0 = λ s. CanWrite s × IsSome s.vacant in
    at_next tops count desks t y (λ d. CanWrite d.shard × IsSome d.shard.vacant) few within (subst H (sym b.2) (b.0, b.1))
births_stop tops count desks t old y Gone few within whole b = absurd b
births_stop tops count desks t old y Myself few within whole b = absurd b
births_stop tops count desks t old y NoProc few within whole b = absurd b

-- there was no memory for the list of pids: nothing has happened on the desks
pub none_born : (w : Whole) (config : Config) (desks : List DeskState) → IsSoundScript w → config.desks ≡ w.settings.desks → config.start ≡ 0 → AreUnused config desks → BirthsStop w.tops 0 desks Memory
none_born w config desks sound many zeroed are few t x =
    let within : (get_or w.tops 0 t).desk < length desks = desk_within w config desks 0 t sound many are.node few in
    let H : ShardState → Type 0 = λ s. CanWrite s × IsSome s.vacant in
    let can : CanWrite (fresh_shard config (get_or w.tops 0 t).desk) = subst (λ n. n < 4611686018427387904) (sym zeroed) (lit< tt) in
    subst H (sym (are.shards (get_or w.tops 0 t).desk x within)) (can, refl)

-- nor for the runners: all are born
all_born : (tops : List Top) (desks : List DeskState) → BirthsStop tops (length tops) desks Memory
all_born tops desks less = absurd (omega (arith, less))

-- a refusal leaves those that were born before
pub left_as_is : {A : Type 0} (config : Config) (tops : List Top) (count : ℕ) (born : List Pid) (desks : List DeskState) (r : Result (Vec Pid A) Fault) (fault : Fault) → r ≡ Err fault → Begun config tops count born desks → BirthsStop tops count desks fault → BearsList tops desks r
left_as_is config tops count born desks r fault e begun stop = subst (BearsList tops desks) (sym e) (count, born, begun.begins, stop)

-- what is answered where a birth is refused, and where there is no memory for the runners
pub refused_as : {A : Type 0} (w : Whole) (desks : List DeskState) (fault : Fault) (r : Result (Vec Runner A) Fault) → BornUntil w.tops desks fault → IsErrAnd r (λ f. f ≡ fault) → Starts w desks r
refused_as w desks fault (Ok x) b h = absurd h
refused_as w desks fault (Err f) b h = subst (BornUntil w.tops desks) (sym h) b

pub no_runners : {A : Type 0} (w : Whole) (desks : List DeskState) (born : List Pid) (r : Result (Vec Runner A) Fault) → StartBegins w.tops (length w.tops) born desks → IsErrAnd r (λ f. f ≡ Memory) → Starts w desks r
no_runners w desks born r b h = refused_as w desks Memory r (length w.tops, born, b, all_born w.tops desks) h
