-- What parsing promises: a text is read as a value exactly where it is what the value prints.
use Rattle.std.specs.Prelude.{◌≡◌, ℕ, ◌+◌, ◌-◌, List, ◌++◌, length, Result, Ok, Err, IfOk}
use Rattle.pt_texts.specs.declared.parse.Refused.{Refused}
use Rattle.pt_texts.specs.declared.records.Record.{Record}
use Rattle.pt_texts.specs.Fits.{FitsRecord}
use Rattle.pt_texts.specs.Readers.{line_at}
use Rattle.pt_texts.specs.Text.{record_line}
use Rattle.pt_texts.specs.Steps.{Read, Reader, ◌>>=◌, ended}

-- the column, from 1 on, behind all that was read
abbrev pub told_column : {A : Type 0} → List ℕ → Result A ℕ → Result A Refused
told_column text (Ok v) = Ok v
told_column text (Err left) = Err (record { column = length text - left + 1 })

-- nothing may stand behind what a reader read
abbrev pub finished : {A : Type 0} → List ℕ → Read A → Result A Refused
finished text read = told_column text (read >>= ended)

pub record Parses
    {A : Type 0} (Fits : A → Type 0) (print : A → List ℕ) (reader : Reader A) (text : List ℕ)
    (result : Result A Refused)
    : Type 0 where
  -- the text is what the value prints that was found
  pub found : IfOk result (λ v. (text ≡ print v) × Fits v)
  -- no value that prints so is refused, or taken for another
  pub only : (v : A) → Fits v → text ≡ print v → result ≡ Ok v
  -- a refusal tells the column up to which the text was read
  pub column : result ≡ finished text (reader text)

-- what is read, with the text behind it as it stands
abbrev pub viewed : {X Y : Type 0} → (X → Y) → Result X Refused → Result Y Refused
viewed view (Ok x) = Ok (view x)
viewed view (Err r) = Err r

-- the first line of the text, read as a line of a state, and the text behind it
pub record ReadsRecord (text : List ℕ) (result : Result (Record × List ℕ) Refused) : Type 0 where
  -- the text is what the line prints that was found, and then what is behind it
  pub found : IfOk result (λ x. (text ≡ record_line x.0 ++ x.1) × FitsRecord x.0)
  -- no text that begins so is refused, or taken for another
  pub only : (r : Record) (rest : List ℕ) → FitsRecord r → text ≡ record_line r ++ rest → result ≡ Ok (r, rest)
  -- a refusal tells the column up to which the text was read
  pub column : result ≡ told_column text (line_at text)
