-- The words of a line.
use Rattle.std.specs.Prelude.{ℕ, ◌+◌, Bool, ◌||◌, ◌==◌, List, [], ◌∷◌, ◌++◌, length, if◌then◌else◌}
use Rattle.pt_shell.specs.declared.lines.word.Word.{Word}

-- a word, as its column and its bytes
abbrev pub Told : Type 0
Told = ℕ × List ℕ

abbrev pub told_word : Word → Told
told_word w = (w.column, w.text.now)

-- a tab, a carriage return or a space
abbrev pub is_blank : ℕ → Bool
is_blank c = c == 32 || c == 9 || c == 13

-- a word, if it has a byte
abbrev pub one_word : ℕ → List ℕ → List Told
one_word column [] = []
one_word column (c ∷ text) = (column, c ∷ text) ∷ []

-- the words of a text, where the front stands before it, behind the last blank, from that column on
abbrev pub words_behind : ℕ → List ℕ → List ℕ → List Told
words_behind column front [] = one_word column front
words_behind column front (c ∷ text) =
    if is_blank c
    then one_word column front ++ words_behind (column + length front + 1) [] text
    else words_behind column (front ++ c ∷ []) text

-- what stands between blanks
abbrev pub words_in : List ℕ → List Told
words_in line = words_behind 1 [] line

-- each word behind a space
abbrev pub spaced : List Told → List ℕ
spaced [] = []
spaced (w ∷ words) = 32 ∷ (w.1 ++ spaced words)

-- the words with one space between each two
abbrev pub joined_words : List Told → List ℕ
joined_words [] = []
joined_words (w ∷ words) = w.1 ++ spaced words
