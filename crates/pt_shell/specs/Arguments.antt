-- The words behind the name of a call, as values.
use Rattle.std.specs.Prelude.{ℕ, List, [], ◌∷◌, Option, Some, None, Result, Ok, slice_get, codes}
use Rattle.std.specs.Prelude.{if◌then◌else◌}
use Rattle.std.specs.Str.{bytes_eq}
use Rattle.pt_signal.specs.declared.pid.Pid.{Pid}
use Rattle.pt_signal.specs.declared.item.Body.{Body}
use Rattle.pt_signal.specs.declared.item.Pick.{Pick}
use Rattle.pt_shell.specs.declared.lines.mistake.Mistake.{Mistake}
use Rattle.pt_shell.specs.declared.lines.mistake.Why.TheVariants.{TooMany, Missing, NoPick}
use Rattle.pt_shell.specs.Words.{Told}
use Rattle.pt_shell.specs.Names.{Named}
use Rattle.pt_shell.specs.Values.{◌>>=◌, mistake, pid_read, ref_of, u32_of, i64_of}

-- the first word behind those that are wanted is too many; where there is none, one is missing behind the line
abbrev pub too_many_or_few : {A : Type 0} → ℕ → Option Told → Result A Mistake
too_many_or_few end (Some w) = mistake w.0 TooMany
too_many_or_few end None = mistake end Missing

abbrev pub miscount : {A : Type 0} → ℕ → List Told → ℕ → Result A Mistake
miscount wanted words end = too_many_or_few end (slice_get words wanted)

-- so many words, of which a value is made
abbrev pub of_none : {A : Type 0} → List Told → ℕ → Result A Mistake → Result A Mistake
of_none [] end value = value
of_none words end value = miscount 0 words end

abbrev pub of_one : {A : Type 0} → List Told → ℕ → (Told → Result A Mistake) → Result A Mistake
of_one (w ∷ []) end f = f w
of_one words end f = miscount 1 words end

abbrev pub of_two : {A B : Type 0} → List Told → ℕ → (Told → Result A Mistake) → (Told → Result B Mistake)
    → Result (A × B) Mistake
of_two (v ∷ w ∷ []) end f g = f v >>= λ x. g w >>= λ y. Ok (x, y)
of_two words end f g = miscount 2 words end

abbrev pub of_three : {A B C : Type 0} → List Told → ℕ → (Told → Result A Mistake) → (Told → Result B Mistake)
    → (Told → Result C Mistake) → Result (A × B × C) Mistake
of_three (u ∷ v ∷ w ∷ []) end f g h = f u >>= λ x. g v >>= λ y. h w >>= λ z. Ok (x, y, z)
of_three words end f g h = miscount 3 words end

-- `KIND NUM`, and who is spoken of
abbrev pub body_read : Told → Told → Option Pid → Result Body Mistake
body_read kind num who = u32_of kind >>= λ k. i64_of num >>= λ n. Ok (record { kind = k; num = n; who = who })

-- `FROM TO KIND NUM`, and `who PID` where the message speaks of a process
abbrev pub message_read : Named → List Told → ℕ → Result (Pid × Pid × Body) Mistake
message_read names (f ∷ t ∷ k ∷ n ∷ []) end =
    pid_read names f >>= λ from. pid_read names t >>= λ to. body_read k n None >>= λ body. Ok (from, to, body)
message_read names (f ∷ t ∷ k ∷ n ∷ w ∷ p ∷ []) end =
    pid_read names f >>= λ from. pid_read names t >>= λ to.
    (if bytes_eq w.1 (codes "who")
    then (pid_read names p >>= λ who. body_read k n (Some who) >>= λ body. Ok (from, to, body))
    else mistake w.0 TooMany)
message_read names words end = miscount 6 words end

-- a pick, by its first word and the one behind it
abbrev pub pick_read : Named → Told → Told → Result Pick Mistake
pick_read names w what =
    if bytes_eq w.1 (codes "kind")
    then (u32_of what >>= λ k. Ok (Pick.Kind k))
    else (if bytes_eq w.1 (codes "from")
    then (pid_read names what >>= λ p. Ok (Pick.From p))
    else (if bytes_eq w.1 (codes "exit-of")
    then (pid_read names what >>= λ p. Ok (Pick.ExitOf p))
    else (if bytes_eq w.1 (codes "down-of")
    then (ref_of names what >>= λ m. Ok (Pick.DownOf m))
    else (if bytes_eq w.1 (codes "alive-of")
    then (ref_of names what >>= λ m. Ok (Pick.AliveOf m))
    else mistake w.0 NoPick))))

-- `PID`, and what it is to take: anything, where nothing else is said
abbrev pub pid_and_pick : Named → List Told → ℕ → Result (Pid × Pick) Mistake
pid_and_pick names (p ∷ []) end = pid_read names p >>= λ pid. Ok (pid, Pick.Any)
pid_and_pick names (p ∷ w ∷ []) end =
    pid_read names p >>= λ pid. (if bytes_eq w.1 (codes "any") then Ok (pid, Pick.Any) else mistake end Missing)
pid_and_pick names (p ∷ w ∷ what ∷ []) end = pid_read names p >>= λ pid. pick_read names w what >>= λ pick. Ok (pid, pick)
pid_and_pick names words end = miscount 3 words end
