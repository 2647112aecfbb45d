-- The codes and tuples of a group as they are kept.
use Rattle.std.specs.Prelude.{◌≡◌, ℕ, ℤ, ◌*◌, ◌/◌, List, length, map}
use Rattle.cla_layout.specs.Tuples.{tuples_of}
use Rattle.cla_packed.specs.Bodies.{Body}

-- codes, and values that stand tuple after tuple
abbrev pub body_seen : {N : Type 0} → (N → ℤ) → ℕ → List ℕ → List N → Body
body_seen value width codes values = record {
  codes = codes;
  tuples = tuples_of width (length values / width) (map value values);
}

-- values are whole tuples of this width
abbrev pub AreWholeTuples : {N : Type 0} → ℕ → List N → Type 0
AreWholeTuples width values = length values ≡ (length values / width) * width
