-- The command at words that are written out.
use Rattle.std.proofs.Common.{◌≡◌, ◌∙◌, ℕ, List, [], ◌∷◌, ◌++◌, Bool, true, false, map, Option, Some, None, refl, ap, ap₂, sym, subst, ◌^◌, arith}
use Rattle.std.proofs.lemmas.Slice.Eq.{bytes_eq-Decides}
use Rattle.std.specs.Str.{bytes_eq}
use Rattle.std.specs.Prelude.{codes, ◌≢◌}
use Rattle.std.specs.Borrow.{Bor}
use Rattle.std.specs.List.{list_any}
use Rattle.std.specs.Str.Parse.{digits_value, without_leading_plus}
use Rattle.clap.specs.Words.{App, Text, fault_of, is_simple, is_simple_and_free, matches_of}
use Rattle.clap.specs.Lexer.{strip_byte}
use Rattle.clap.specs.Faults.{check_fault, defaults_fault, level_fault, settle_fault, step_fault, walk_fault, word_fault}
use Rattle.clap.specs.Kinds.{Kinds, or_else}
use Rattle.clap.specs.Simple.{Shape, built}
use Rattle.clap.specs.Walk.{finished, settled, walk, Held, Rule, Step, Walk, after_step, idle, nothing_held, value, walk_from, walked, word_met}
use Rattle.clap.specs.ValueTests.{is_unsigned_in}
use Rattle.clap.specs.Values.{same_text}
use Rattle.clap.specs.declared.builder.value_parser.ValueParser.TheVariants.{Unsigned}
use Rattle.clap.specs.declared.error.kind.ErrorKind.{ErrorKind}
use Rattle.clap.specs.declared.error.kind.ErrorKind.TheVariants.{DisplayHelp, DisplayVersion, InvalidValue, TooManyValues, ValueValidation}
use Rattle.clap.proofs.OnLiterals.{clap_on_literals}
use Rattle.clap.proofs.FaultLemmas.{leaf_fault}
use Rattle.clap.proofs.ValueTestLemmas.{accepts-Accepts, Accepts-accepts}
use Rattle.pt_options.specs.Choosing.{Words, IsCommand, chosen_of, command_with, epochs_of, file_of, number_written, turns_of}
use Rattle.pt_options.specs.Laws.{AskFor, DefaultsStand, FilesAreNamed, TurnsAreTold, WrongTurnsAreRefused, EpochsAreTold, WrongEpochsAreRefused, ModesAreTold, WrongModesAreRefused, UntilsAreTold, WrongUntilsAreRefused, PrintsAreTold, WrongPrintsAreRefused, HelpIsAsked, VersionIsAsked, ExplainingIsTold, ExplainingTakesNoValue, defaults}
use Rattle.pt_options.proofs.Reading.{false_unless}
use Rattle.pt_render.specs.declared.choices.Mode.TheVariants.{Many}
use Rattle.pt_render.specs.declared.choices.Until.TheVariants.{Quiet}
use Rattle.pt_render.specs.declared.choices.Show.TheVariants.{Summary, Chart, Mermaid, Json, Steps, Page}
use Rattle.pt_render.specs.declared.choices.Options.{Options}
use Rattle.pt_render.specs.declared.choices.TheConstants.{MOST_EPOCHS, MOST_TURNS}

-- a text at a place in memory
abbrev at : ℕ × ℕ → Text → Bor Text
at place text = record { ref_ptr = place; now = text }

abbrev modes_at : ℕ × ℕ → ℕ × ℕ → ℕ × ℕ → Words
modes_at a b c = record { ref_ptr = a; now = at b (codes "single") ∷ at c (codes "many") ∷ [] }

abbrev untils_at : ℕ × ℕ → ℕ × ℕ → ℕ × ℕ → Words
untils_at a b c = record { ref_ptr = a; now = at b (codes "turns") ∷ at c (codes "quiet") ∷ [] }

abbrev shows_at : ℕ × ℕ → ℕ × ℕ → ℕ × ℕ → ℕ × ℕ → ℕ × ℕ → ℕ × ℕ → ℕ × ℕ → ℕ × ℕ → Words
shows_at a b c d e f g h = record { ref_ptr = a; now = at b (codes "summary") ∷ at c (codes "history") ∷ at d (codes "chart") ∷ at e (codes "mermaid") ∷ at f (codes "json") ∷ at g (codes "steps") ∷ at h (codes "page") ∷ [] }

abbrev head_of : Text → List Text → Text
head_of none [] = none
head_of none (t ∷ ts) = t

abbrev tail_of : List Text → List Text
tail_of [] = []
tail_of (t ∷ ts) = ts

-- a list of texts, text by text
two : (P : List (Bor Text) → Type 0) (xs : List (Bor Text)) (t u : Text) → map (λ s. s.now) xs ≡ t ∷ u ∷ [] → ((b c : ℕ × ℕ) → P (at b t ∷ at c u ∷ [])) → P xs
two P [] t u e each = cc
two P (x ∷ []) t u e each = cc
two P (x ∷ y ∷ []) t u e each =
    subst (λ (v : Text). P (at x.ref_ptr v ∷ y ∷ [])) (sym (ap (head_of []) e))
    (subst (λ (v : Text). P (at x.ref_ptr t ∷ at y.ref_ptr v ∷ [])) (sym (ap (λ vs. head_of [] (tail_of vs)) e)) (each x.ref_ptr y.ref_ptr))
two P (x ∷ y ∷ z ∷ zs) t u e each = cc

three : (P : List (Bor Text) → Type 0) (xs : List (Bor Text)) (t u w : Text) → map (λ s. s.now) xs ≡ t ∷ u ∷ w ∷ [] → ((b c d : ℕ × ℕ) → P (at b t ∷ at c u ∷ at d w ∷ [])) → P xs
three P [] t u w e each = cc
three P (x ∷ xs) t u w e each =
    subst (λ (v : Text). P (at x.ref_ptr v ∷ xs)) (sym (ap (head_of []) e))
    (two (λ ys. P (at x.ref_ptr t ∷ ys)) xs u w (ap tail_of e) (each x.ref_ptr))

five : (P : List (Bor Text) → Type 0) (xs : List (Bor Text)) (t u v w x : Text) → map (λ s. s.now) xs ≡ t ∷ u ∷ v ∷ w ∷ x ∷ [] → ((b c d e f : ℕ × ℕ) → P (at b t ∷ at c u ∷ at d v ∷ at e w ∷ at f x ∷ [])) → P xs
five P [] t u v w x e each = cc
five P (y ∷ []) t u v w x e each = cc
five P (y ∷ z ∷ ys) t u v w x e each =
    subst (λ (o : Text). P (at y.ref_ptr o ∷ z ∷ ys)) (sym (ap (head_of []) e))
    (subst (λ (o : Text). P (at y.ref_ptr t ∷ at z.ref_ptr o ∷ ys)) (sym (ap (λ vs. head_of [] (tail_of vs)) e))
    (three (λ rest. P (at y.ref_ptr t ∷ at z.ref_ptr u ∷ rest)) ys v w x (ap (λ vs. tail_of (tail_of vs)) e) (each y.ref_ptr z.ref_ptr)))

seven : (P : List (Bor Text) → Type 0) (xs : List (Bor Text)) (r s t u v w x : Text) → map (λ b. b.now) xs ≡ r ∷ s ∷ t ∷ u ∷ v ∷ w ∷ x ∷ [] → ((b c d e f g h : ℕ × ℕ) → P (at b r ∷ at c s ∷ at d t ∷ at e u ∷ at f v ∷ at g w ∷ at h x ∷ [])) → P xs
seven P [] r s t u v w x e each = cc
seven P (a ∷ []) r s t u v w x e each = cc
seven P (a ∷ y ∷ xs) r s t u v w x e each =
    subst (λ (o : Text). P (at a.ref_ptr o ∷ y ∷ xs)) (sym (ap (head_of []) e))
    (subst (λ (o : Text). P (at a.ref_ptr r ∷ at y.ref_ptr o ∷ xs)) (sym (ap (λ vs. head_of [] (tail_of vs)) e))
    (five (λ rest. P (at a.ref_ptr r ∷ at y.ref_ptr s ∷ rest)) xs t u v w x (ap (λ vs. tail_of (tail_of vs)) e) (each a.ref_ptr y.ref_ptr)))

-- what holds of the command wherever its words stand holds of it
of_command : (P : App → Type 0) → ((a b c k l m d e f g i j n o : ℕ × ℕ) → P (command_with (modes_at a b c) (untils_at k l m) (shows_at d e f g i j n o))) → (a : App) → IsCommand a → P a
of_command P each a is =
    subst P (sym is.6)
    (two (λ xs. P (command_with (record { ref_ptr = is.0.ref_ptr; now = xs }) is.1 is.2)) is.0.now (codes "single") (codes "many") is.3 (λ b c.
    two (λ xs. P (command_with (modes_at is.0.ref_ptr b c) (record { ref_ptr = is.1.ref_ptr; now = xs }) is.2)) is.1.now (codes "turns") (codes "quiet") is.4 (λ l m.
    seven (λ xs. P (command_with (modes_at is.0.ref_ptr b c) (untils_at is.1.ref_ptr l m) (record { ref_ptr = is.2.ref_ptr; now = xs }))) is.2.now (codes "summary") (codes "history") (codes "chart") (codes "mermaid") (codes "json") (codes "steps") (codes "page") is.5 (λ e f g i j n o. each is.0.ref_ptr b c is.1.ref_ptr l m is.2.ref_ptr e f g i j n o))))

-- the three facts of words that are no fault
abbrev Asks : List Text → Option Text → Options → App → Type 0
Asks words file options a = (name : Text) → (fault_of a (name ∷ words) ≡ []) × (file_of (matches_of a (name ∷ words)) ≡ file) × (chosen_of (matches_of a (name ∷ words)) ≡ options)

pub no_words : DefaultsStand
unfolding clap_on_literals
no_words = of_command (Asks [] None defaults) (λ a b c k l m d e f g i j n o name. (refl, refl, refl))

hyphen_named : AskFor (codes "-" ∷ []) (Some (codes "-")) defaults
unfolding clap_on_literals
hyphen_named = of_command (Asks (codes "-" ∷ []) (Some (codes "-")) defaults) (λ a b c k l m d e f g i j n o name. (refl, refl, refl))

not_dashes : (file : Text) → strip_byte 45 file ≡ None → bytes_eq file (45 ∷ 45 ∷ []) ≡ false
not_dashes file plain = false_unless _ (λ e. let is : file ≡ 45 ∷ 45 ∷ [] = (bytes_eq-Decides file (45 ∷ 45 ∷ [])).0 e in let bad : Some (45 ∷ []) ≡ None = sym (ap (strip_byte 45) is) ∙ plain in cc)

-- a word that no hyphen begins is neither a flag nor a fault
plain_met : (c : List Rule) (h : Held) (file : Text) → strip_byte 45 file ≡ None → word_met c [] false idle 1 file h ≡ (h, value)
plain_met c h file plain = rw (not_dashes file plain, plain) (rw plain refl)

plain_passes : (s : Shape) (h : Held) (file : Text) → strip_byte 45 file ≡ None → word_fault s [] false idle file h ≡ []
plain_passes s h file plain = rw (not_dashes file plain, plain) (rw plain refl)

-- the walk behind the file
abbrev behind : Text → Walk
behind file = record { held = record { rows = []; pending = Some (codes "FILE", file ∷ []); skip = 0 }; waiting = idle; position = 2; is_trailing = false; stopped = None }

file_walked : (modes untils shows : Words) (file : Text) → strip_byte 45 file ≡ None → walked (built (command_with modes untils shows)).top.rules [] (walk_from nothing_held) file ≡ behind file
unfolding walked
file_walked modes untils shows file plain = ap (λ (m : Held × Step). after_step (built (command_with modes untils shows)).top.rules file (walk_from nothing_held) m.0 m.1) (plain_met (built (command_with modes untils shows)).top.rules nothing_held file plain)

file_passes : (modes untils shows : Words) (file : Text) → strip_byte 45 file ≡ None → walk_fault (built (command_with modes untils shows)).top [] (walk_from nothing_held) (file ∷ []) ≡ []
unfolding walk_fault
file_passes modes untils shows file plain =
    let top = (built (command_with modes untils shows)).top in
    ap₂ (λ (f : Kinds) (m : Held × Step). or_else (or_else f (step_fault top 1 m.0 m.1)) []) (plain_passes top nothing_held file plain) (plain_met top.rules nothing_held file plain)

pub file_named : FilesAreNamed
unfolding defaults_fault
file_named = (
  hyphen_named,
  λ file plain. of_command (Asks (file ∷ []) (Some file) defaults) (λ a b c k l m d e f g i j n o name. (
    rw (file_passes (modes_at a b c) (untils_at k l m) (shows_at d e f g i j n o) file plain, file_walked (modes_at a b c) (untils_at k l m) (shows_at d e f g i j n o) file plain) refl,
    rw (file_walked (modes_at a b c) (untils_at k l m) (shows_at d e f g i j n o) file plain) refl,
    rw (file_walked (modes_at a b c) (untils_at k l m) (shows_at d e f g i j n o) file plain) refl,
  )),
)

-- A fault of the words themselves is the first one, whatever comes of the defaults. Where a word is refused for not being
-- among those of its argument, those are variables, so that little is computed where the test is put in.
level_by_walk : (k : ErrorKind) (s : Shape) (names : List (Text × List Text)) (h : Held) (words : List Text) (entered : Bool) (below : Kinds) → walk_fault s names (walk_from h) words ≡ k ∷ [] → level_fault s names h words entered below ≡ k ∷ []
level_by_walk k s names h words entered below e = rw e refl

-- what is looked at behind the words themselves, and where neither has a fault there is none
abbrev behind_words : Shape → List (Text × List Text) → Held → List Text → Bool → Kinds → Kinds
behind_words s names h words entered below =
    let end = (walk s.rules names h words).held in
    or_else below (or_else (settle_fault s.rules s.args_override_self end) (or_else (defaults_fault (settled s.rules end).rows s.rules) (check_fault s (finished s.rules end) entered)))

level_passes : (s : Shape) (names : List (Text × List Text)) (h : Held) (words : List Text) (entered : Bool) (below : Kinds) → walk_fault s names (walk_from h) words ≡ [] → behind_words s names h words entered below ≡ [] → level_fault s names h words entered below ≡ []
level_passes s names h words entered below words_pass rest = ap (λ (k : Kinds). or_else k (behind_words s names h words entered below)) words_pass ∙ rest

refused_by_walk : (k : ErrorKind) (modes untils shows : Words) (word name : Text) → walk_fault (built (command_with modes untils shows)).top [] (walk_from nothing_held) (word ∷ []) ≡ k ∷ [] → fault_of (command_with modes untils shows) (name ∷ word ∷ []) ≡ k ∷ []
refused_by_walk k modes untils shows word name e = level_by_walk k (built (command_with modes untils shows)).top [] nothing_held (word ∷ []) _ _ e

-- a command fails at nothing where the walk passes, and nothing behind it
passes_by_walk : (modes untils shows : Words) (word name : Text) → walk_fault (built (command_with modes untils shows)).top [] (walk_from nothing_held) (word ∷ []) ≡ [] → behind_words (built (command_with modes untils shows)).top [] nothing_held (word ∷ []) false [] ≡ [] → fault_of (command_with modes untils shows) (name ∷ word ∷ []) ≡ []
passes_by_walk modes untils shows word name words_pass rest =
    let a = built (command_with modes untils shows) in
    leaf_fault a nothing_held (word ∷ []) refl ∙ level_passes a.top [] nothing_held (word ∷ []) false [] words_pass rest

-- whether a text is among the words of an argument, as the command tests it
abbrev is_word : Words → Text → Bool
is_word words t = list_any (λ (name : Bor Text). same_text false name.now t) words.now

-- a number in its range is the number that is taken
taken : (t : Text) → is_unsigned_in 0 MOST_TURNS t ≡ true → turns_of (number_written t) ≡ digits_value 10 (without_leading_plus t)
taken t ok =
    let h = accepts-Accepts false (Unsigned 0 MOST_TURNS) t ok in
    let is : is_unsigned_in 0 (2 ^ 64) t ≡ true = Accepts-accepts false (Unsigned 0 (2 ^ 64)) t (h.0, h.1, omega arith, omega (arith, h.1)) in
    rw is (omega (arith, h.3))

turns_walk : (modes untils shows : Words) (t : Text) → is_unsigned_in 0 MOST_TURNS t ≡ true → walk_fault (built (command_with modes untils shows)).top [] (walk_from nothing_held) ((codes "--turns=" ++ t) ∷ []) ≡ []
unfolding clap_on_literals
turns_walk modes untils shows t ok = rw ok refl

pub turns_told : TurnsAreTold
unfolding clap_on_literals
turns_told t ok = of_command (Asks ((codes "--turns=" ++ t) ∷ []) None (record defaults { turns = digits_value 10 (without_leading_plus t) })) (λ a b c k l m d e f g i j n o name. (passes_by_walk (modes_at a b c) (untils_at k l m) (shows_at d e f g i j n o) (codes "--turns=" ++ t) name (turns_walk (modes_at a b c) (untils_at k l m) (shows_at d e f g i j n o) t ok) refl, refl, ap (λ (n : ℕ). record defaults { turns = n }) (taken t ok)))

turns_wrong : (modes untils shows : Words) (t : Text) → is_unsigned_in 0 MOST_TURNS t ≡ false → walk_fault (built (command_with modes untils shows)).top [] (walk_from nothing_held) ((codes "--turns=" ++ t) ∷ []) ≡ ValueValidation ∷ []
unfolding clap_on_literals
turns_wrong modes untils shows t bad = rw bad refl

pub turns_refused : WrongTurnsAreRefused
turns_refused t bad = of_command (λ x. (name : Text) → fault_of x (name ∷ (codes "--turns=" ++ t) ∷ []) ≡ ValueValidation ∷ []) (λ a b c k l m d e f g i j n o name. refused_by_walk ValueValidation (modes_at a b c) (untils_at k l m) (shows_at d e f g i j n o) (codes "--turns=" ++ t) name (turns_wrong (modes_at a b c) (untils_at k l m) (shows_at d e f g i j n o) t bad))

-- and so is one of epochs
taken_epochs : (t : Text) → is_unsigned_in 1 MOST_EPOCHS t ≡ true → epochs_of (number_written t) ≡ digits_value 10 (without_leading_plus t)
taken_epochs t ok =
    let h = accepts-Accepts false (Unsigned 1 MOST_EPOCHS) t ok in
    let is : is_unsigned_in 0 (2 ^ 64) t ≡ true = Accepts-accepts false (Unsigned 0 (2 ^ 64)) t (h.0, h.1, omega arith, omega (arith, h.1)) in
    rw is (omega (arith, h.2, h.3))

epochs_walk : (modes untils shows : Words) (t : Text) → is_unsigned_in 1 MOST_EPOCHS t ≡ true → walk_fault (built (command_with modes untils shows)).top [] (walk_from nothing_held) ((codes "--epochs=" ++ t) ∷ []) ≡ []
unfolding clap_on_literals
epochs_walk modes untils shows t ok = rw ok refl

pub epochs_told : EpochsAreTold
unfolding clap_on_literals
epochs_told t ok = of_command (Asks ((codes "--epochs=" ++ t) ∷ []) None (record defaults { epochs = digits_value 10 (without_leading_plus t) })) (λ a b c k l m d e f g i j n o name. (passes_by_walk (modes_at a b c) (untils_at k l m) (shows_at d e f g i j n o) (codes "--epochs=" ++ t) name (epochs_walk (modes_at a b c) (untils_at k l m) (shows_at d e f g i j n o) t ok) refl, refl, ap (λ (n : ℕ). record defaults { epochs = n }) (taken_epochs t ok)))

epochs_wrong : (modes untils shows : Words) (t : Text) → is_unsigned_in 1 MOST_EPOCHS t ≡ false → walk_fault (built (command_with modes untils shows)).top [] (walk_from nothing_held) ((codes "--epochs=" ++ t) ∷ []) ≡ ValueValidation ∷ []
unfolding clap_on_literals
epochs_wrong modes untils shows t bad = rw bad refl

pub epochs_refused : WrongEpochsAreRefused
epochs_refused t bad = of_command (λ x. (name : Text) → fault_of x (name ∷ (codes "--epochs=" ++ t) ∷ []) ≡ ValueValidation ∷ []) (λ a b c k l m d e f g i j n o name. refused_by_walk ValueValidation (modes_at a b c) (untils_at k l m) (shows_at d e f g i j n o) (codes "--epochs=" ++ t) name (epochs_wrong (modes_at a b c) (untils_at k l m) (shows_at d e f g i j n o) t bad))

pub modes_told : ModesAreTold
unfolding clap_on_literals
modes_told = (
  of_command (Asks (codes "--threads=single" ∷ []) None defaults) (λ a b c k l m d e f g i j n o name. (refl, refl, refl)),
  of_command (Asks (codes "--threads=many" ∷ []) None (record defaults { threads = Many })) (λ a b c k l m d e f g i j n o name. (refl, refl, refl)),
)

another : (w t : Text) → t ≢ w → bytes_eq w t ≡ false
another w t other = false_unless _ (λ e. other (sym ((bytes_eq-Decides w t).0 e)))

no_mode : (a b c : ℕ × ℕ) (t : Text) → t ≢ codes "single" → t ≢ codes "many" → is_word (modes_at a b c) t ≡ false
no_mode a b c t single many = rw (another (codes "single") t single, another (codes "many") t many) refl

mode_refused : (modes untils shows : Words) (t : Text) → is_word modes t ≡ false → walk_fault (built (command_with modes untils shows)).top [] (walk_from nothing_held) ((codes "--threads=" ++ t) ∷ []) ≡ InvalidValue ∷ []
unfolding clap_on_literals
mode_refused modes untils shows t other = rw other refl

pub modes_refused : WrongModesAreRefused
modes_refused t single many = of_command (λ x. (name : Text) → fault_of x (name ∷ (codes "--threads=" ++ t) ∷ []) ≡ InvalidValue ∷ []) (λ a b c k l m d e f g i j n o name. refused_by_walk InvalidValue (modes_at a b c) (untils_at k l m) (shows_at d e f g i j n o) (codes "--threads=" ++ t) name (mode_refused (modes_at a b c) (untils_at k l m) (shows_at d e f g i j n o) t (no_mode a b c t single many)))

no_until : (k l m : ℕ × ℕ) (t : Text) → t ≢ codes "turns" → t ≢ codes "quiet" → is_word (untils_at k l m) t ≡ false
no_until k l m t turns quiet = rw (another (codes "turns") t turns, another (codes "quiet") t quiet) refl

until_refused : (modes untils shows : Words) (t : Text) → is_word untils t ≡ false → walk_fault (built (command_with modes untils shows)).top [] (walk_from nothing_held) ((codes "--until=" ++ t) ∷ []) ≡ InvalidValue ∷ []
unfolding clap_on_literals
until_refused modes untils shows t other = rw other refl

pub untils_refused : WrongUntilsAreRefused
untils_refused t turns quiet = of_command (λ x. (name : Text) → fault_of x (name ∷ (codes "--until=" ++ t) ∷ []) ≡ InvalidValue ∷ []) (λ a b c k l m d e f g i j n o name. refused_by_walk InvalidValue (modes_at a b c) (untils_at k l m) (shows_at d e f g i j n o) (codes "--until=" ++ t) name (until_refused (modes_at a b c) (untils_at k l m) (shows_at d e f g i j n o) t (no_until k l m t turns quiet)))

pub untils_told : UntilsAreTold
unfolding clap_on_literals
untils_told = (
  of_command (Asks (codes "--until=turns" ∷ []) None defaults) (λ a b c k l m d e f g i j n o name. (refl, refl, refl)),
  of_command (Asks (codes "--until=quiet" ∷ []) None (record defaults { until = Quiet })) (λ a b c k l m d e f g i j n o name. (refl, refl, refl)),
)

pub prints_told : PrintsAreTold
unfolding clap_on_literals
prints_told = (
  of_command (Asks (codes "--print=summary" ∷ []) None (record defaults { print = Summary })) (λ a b c k l m d e f g i j n o name. (refl, refl, refl)),
  of_command (Asks (codes "--print=history" ∷ []) None defaults) (λ a b c k l m d e f g i j n o name. (refl, refl, refl)),
  of_command (Asks (codes "--print=chart" ∷ []) None (record defaults { print = Chart })) (λ a b c k l m d e f g i j n o name. (refl, refl, refl)),
  of_command (Asks (codes "--print=mermaid" ∷ []) None (record defaults { print = Mermaid })) (λ a b c k l m d e f g i j n o name. (refl, refl, refl)),
  of_command (Asks (codes "--print=json" ∷ []) None (record defaults { print = Json })) (λ a b c k l m d e f g i j n o name. (refl, refl, refl)),
  of_command (Asks (codes "--print=steps" ∷ []) None (record defaults { print = Steps })) (λ a b c k l m d e f g i j n o name. (refl, refl, refl)),
  of_command (Asks (codes "--print=page" ∷ []) None (record defaults { print = Page })) (λ a b c k l m d e f g i j n o name. (refl, refl, refl)),
)

no_show : (a b c d e f g h : ℕ × ℕ) (t : Text) → t ≢ codes "summary" → t ≢ codes "history" → t ≢ codes "chart" → t ≢ codes "mermaid" → t ≢ codes "json" → t ≢ codes "steps" → t ≢ codes "page" → is_word (shows_at a b c d e f g h) t ≡ false
no_show a b c d e f g h t summary history chart mermaid json steps page =
    rw (another (codes "summary") t summary, another (codes "history") t history, another (codes "chart") t chart, another (codes "mermaid") t mermaid, another (codes "json") t json, another (codes "steps") t steps, another (codes "page") t page) refl

show_refused : (modes untils shows : Words) (t : Text) → is_word shows t ≡ false → walk_fault (built (command_with modes untils shows)).top [] (walk_from nothing_held) ((codes "--print=" ++ t) ∷ []) ≡ InvalidValue ∷ []
unfolding clap_on_literals
show_refused modes untils shows t other = rw other refl

pub prints_refused : WrongPrintsAreRefused
prints_refused t summary history chart mermaid json steps page = of_command (λ x. (name : Text) → fault_of x (name ∷ (codes "--print=" ++ t) ∷ []) ≡ InvalidValue ∷ []) (λ a b c k l m d e f g i j n o name. refused_by_walk InvalidValue (modes_at a b c) (untils_at k l m) (shows_at d e f g i j n o) (codes "--print=" ++ t) name (show_refused (modes_at a b c) (untils_at k l m) (shows_at d e f g i j n o) t (no_show d e f g i j n o t summary history chart mermaid json steps page)))

pub explaining_told : ExplainingIsTold
unfolding clap_on_literals
explaining_told = of_command (Asks (codes "--explain" ∷ []) None (record defaults { explain = true })) (λ a b c k l m d e f g i j n o name. (refl, refl, refl))

pub explaining_alone : ExplainingTakesNoValue
unfolding clap_on_literals
explaining_alone t = of_command (λ x. (name : Text) → fault_of x (name ∷ (codes "--explain=" ++ t) ∷ []) ≡ TooManyValues ∷ []) (λ a b c k l m d e f g i j n o name. refl)

pub help_asked : HelpIsAsked
unfolding clap_on_literals
help_asked = (
  of_command (λ x. (name : Text) → fault_of x (name ∷ codes "--help" ∷ []) ≡ DisplayHelp ∷ []) (λ a b c k l m d e f g i j n o name. refl),
  of_command (λ x. (name : Text) → fault_of x (name ∷ codes "-h" ∷ []) ≡ DisplayHelp ∷ []) (λ a b c k l m d e f g i j n o name. refl),
)

pub version_asked : VersionIsAsked
unfolding clap_on_literals
version_asked = (
  of_command (λ x. (name : Text) → fault_of x (name ∷ codes "--version" ∷ []) ≡ DisplayVersion ∷ []) (λ a b c k l m d e f g i j n o name. refl),
  of_command (λ x. (name : Text) → fault_of x (name ∷ codes "-V" ∷ []) ≡ DisplayVersion ∷ []) (λ a b c k l m d e f g i j n o name. refl),
)

pub simple_and_free : (a : App) → IsCommand a → is_simple_and_free a ≡ true
simple_and_free = of_command (λ a. is_simple_and_free a ≡ true) (λ a b c k l m d e f g i j n o. refl)

pub simple : (a : App) → IsCommand a → is_simple a ≡ true
simple = of_command (λ a. is_simple a ≡ true) (λ a b c k l m d e f g i j n o. refl)
