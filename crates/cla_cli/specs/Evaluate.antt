-- What is known of the values of expressions and of their counts.
use Rattle.std.specs.Prelude.{◌≡◌, ℕ, ℤ, ◌+◌, ◌^◌, ◌≤◌, Option, Some, None, Result, Ok, Err}
use Rattle.cla_num.specs.Counts.{Counts, run_bound}
use Rattle.cla_print.specs.Texts.{Scalar}
use Rattle.cla_cli.specs.declared.evaluate.Failed.{Failed}
use Rattle.cla_cli.specs.declared.evaluate.Failed.TheVariants.{Operator, Memory}
use Rattle.cla_cli.specs.Statements.{Valued}
use Rattle.cla_cli.specs.Run.{RiseBy, RiseByAtMost}

-- the counts with which a statement may begin
abbrev pub statement_bound : ℕ
statement_bound = run_bound + 2 ^ 60

-- counts rose by at most so many
pub record FewMore (most : ℕ) (before now : Counts) : Type 0 where
  pub mults : now.mults ≤ before.mults + most
  pub maps : now.maps ≤ before.maps + most

-- the most that one operator counts, and the most that a statement does
abbrev pub operator_most : ℕ
operator_most = 2 ^ 26

abbrev pub statement_most : ℕ
statement_most = 2 ^ 27

-- a number, if there is a value, or the operator that fails; of want of memory nothing is said
abbrev pub MayComeTo : {N : Type 0} → (N → ℤ) → Option Valued → Result (Option N) Failed → Type 0
MayComeTo value v (Ok None) = v ≡ None
MayComeTo value v (Ok (Some n)) = v ≡ Some (Ok (Scalar (value n)))
MayComeTo value v (Err (Operator place fault)) = v ≡ Some (Err (place, fault))
MayComeTo value v (Err Memory) = Unit {0}

-- the counts of an evaluation: all of these, or at most these where it failed
abbrev pub CountsTo : {T E : Type 0} → Counts → Counts → Counts → Result T E → Type 0
CountsTo counts before now (Ok n) = RiseBy counts before now
CountsTo counts before now (Err e) = RiseByAtMost counts before now
