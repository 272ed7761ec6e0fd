-- The letters for one desk. No public clause cites this module.
use Rattle.std.specs.Prelude.{ℕ, List}
use Rattle.pt_signal.specs.declared.letter.Letter.{Letter}

pub record LettersState : Type 0 where
  -- oldest first
  pub letters : List Letter
  -- how many more are sure to find room
  pub room : ℕ
