-- Entries in order of entry, some of which have gone and left a gap.
use Rattle.std.specs.Prelude.{◌≡◌, ℕ, ◌*◌, ◌≤◌, ◌^◌, Bool, List, [], ◌∷◌, ◌++◌, length, Option, Some, None}
use Rattle.std.specs.Option.{option_map, option_flatten}
use Rattle.std.specs.List.{IsDistinct, filter_map}
use Rattle.std.specs.Map.{lookup, set_value, keys_of}

-- the entries as a caller sees them, and how many more there is surely room for
pub record Listed (K V : Type 0) : Type 0 where
  pub entries : List (K × V)
  pub room : ℕ

-- the same, and how many gaps stand between them
pub record Gapped (K V : Type 0) : Type 0 where
  pub entries : List (K × V)
  pub gaps : ℕ
  pub room : ℕ

module _ {K V : Type 0} where
  -- what stands at a place, where a gap is no entry
  abbrev pub standing : K × Option V → Option (K × V)
  standing place = option_map (λ v. (place.0, v)) place.1

  abbrev pub present : List (K × Option V) → List (K × V)
  present places = filter_map standing places

  -- what stands at the place of a key, if the key has one
  abbrev pub value_at : (K → Bool) → List (K × Option V) → Option V
  value_at test places = option_flatten (lookup test places)

  abbrev pub put_at : Option V → (K → Bool) → K → V → List (K × V) → List (K × V)
  put_at None test k v es = es ++ (k, v) ∷ []
  put_at (Some old) test k v es = set_value test es v

  -- a key that is there keeps its place and takes the value, and a new key goes last
  abbrev pub put : (K → K → Bool) → List (K × V) → K → V → List (K × V)
  put eq es k v = put_at (lookup (eq k) es) (eq k) k v es

-- what holds between two calls: no key stands twice, the entries are counted and not too many, and the gaps are no more
-- than they
pub record AreCounted {K V : Type 0} (eq : K → K → Bool) (places : List (K × Option V)) (count : ℕ) : Type 0 where
  pub distinct : IsDistinct eq (keys_of places)
  pub counted : count ≡ length (present places)
  pub bounded : length places ≤ 2 * count
  pub limited : count ≤ 2 ^ 62
