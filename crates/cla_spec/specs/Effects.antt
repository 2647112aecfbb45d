-- What a command does to files and to its output, in part or whole.
use Rattle.std.specs.Prelude.{◌≡◌, ℕ, Option, Some, None, List, [], ◌∷◌, ◌++◌, take, ◌⊎◌}
use Rattle.std.specs.FinMap as fin
use Rattle.cla_spec.specs.Files.{Told}

-- a text is appended to the output, or a file is replaced
pub data Effect : Type 0 where
  Out : List ℕ → Effect
  File : List ℕ → List ℕ → Effect

-- what the files hold, and what was put out, where that is told
pub record World : Type 0 where
  pub told : Told
  pub out : Option (List ℕ)

-- an output that grew by a text
abbrev pub grown : Option (List ℕ) → List ℕ → Option (List ℕ)
grown None text = None
grown (Some out) text = Some (out ++ text)

abbrev pub applied_one : Effect → World → World
applied_one (Out text) w = record w { out = grown w.out text }
applied_one (File name bytes) w = record w { told = fin.insert w.told name bytes }

-- the world after these effects, one after the other
abbrev pub applied : List Effect → World → World
applied [] w = w
applied (e ∷ es) w = applied es (applied_one e w)

-- an effect in part: a prefix of its text, or a file that has a prefix of its bytes
abbrev pub IsInPart : Effect → World → World → Type 0
IsInPart (Out text) w v = (n : ℕ) × (v ≡ record w { out = grown w.out (take n text) })
IsInPart (File name bytes) w v = (n : ℕ) × (v ≡ record w { told = fin.insert w.told name (take n bytes) })

-- some whole effects from the start, and possibly the next one in part
abbrev pub IsFront : List Effect → World → World → Type 0
IsFront [] w v = v ≡ w
IsFront (e ∷ es) w v = (v ≡ w) ⊎ (IsInPart e w v ⊎ IsFront es (applied_one e w) v)

-- some whole effects from the start, before this next one, which may stand in part
abbrev pub IsFrontBefore : List Effect → Effect → World → World → Type 0
IsFrontBefore [] next w v = ⊥
IsFrontBefore (e ∷ es) next w v = ((e ≡ next) × ((v ≡ w) ⊎ IsInPart e w v)) ⊎ IsFrontBefore es next (applied_one e w) v
