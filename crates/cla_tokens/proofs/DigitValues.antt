-- The value of more digits is no less.
use Rattle.std.proofs.Common.{ℕ, ◌+◌, ◌*◌, ◌-◌, ◌≤◌, List, [], ◌∷◌, arith}
use Rattle.cla_tokens.specs.Values.{value_from}

pub value_grows : (held : ℕ) (bs : List ℕ) → held ≤ value_from held bs
value_grows held [] = omega arith
value_grows held (b ∷ bs) = omega (arith, value_grows (10 * held + (b - 48)) bs)
