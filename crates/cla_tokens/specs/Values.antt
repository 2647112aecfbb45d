-- The value of digits.
use Rattle.std.specs.Prelude.{ℕ, ◌+◌, ◌-◌, ◌*◌, List, [], ◌∷◌}

abbrev pub value_from : ℕ → List ℕ → ℕ
value_from held [] = held
value_from held (b ∷ bs) = value_from (10 * held + (b - 48)) bs

abbrev pub value : List ℕ → ℕ
value digits = value_from 0 digits
