-- How many bits a number may have.
use Rattle.std.specs.Prelude.{ℕ, ◌≤◌, ◌^◌}
use Rattle.cla_num.specs.declared.number.TheConstants.{GREATEST_BITS}

-- numbers of this many bits are supported
pub record IsSupported (bits : ℕ) : Type 0 where
  pub least : 1 ≤ bits
  pub most : bits ≤ GREATEST_BITS

-- the size of a number is below this
abbrev pub value_bound : ℕ
value_bound = 2 ^ GREATEST_BITS
