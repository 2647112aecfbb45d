-- Counts of operations.
use Rattle.std.specs.Prelude.{ℕ, ◌+◌, ◌-◌, ◌^◌, ◌<◌}

-- multiplications and map evaluations
pub record Counts : Type 0 where
  pub mults : ℕ
  pub maps : ℕ

abbrev pub zero_counts : Counts
zero_counts = record { mults = 0; maps = 0 }

-- both counts are below a bound
pub record AreBelow (bound : ℕ) (counts : Counts) : Type 0 where
  pub mults : counts.mults < bound
  pub maps : counts.maps < bound

-- The counts with which calls may begin: a run, a call over whole tables or groups, and a single counted operation. A
-- run
-- raises them by less than 2^125, and any call below it by less than 2^100, so each call meets the conditions of those
-- that it makes.
abbrev pub run_bound : ℕ
run_bound = 2 ^ 127

abbrev pub kernel_bound : ℕ
kernel_bound = 2 ^ 127 + 2 ^ 126

-- within a kernel, between its operations
abbrev pub step_bound : ℕ
step_bound = 2 ^ 127 + 2 ^ 126 + 2 ^ 27

abbrev pub operation_bound : ℕ
operation_bound = 2 ^ 128 - 1
