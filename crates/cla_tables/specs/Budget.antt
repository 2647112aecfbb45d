-- Tables within a budget.
use Rattle.std.specs.Prelude.{◌≡◌, ℕ, ◌<◌, ◌≤◌, Result, Ok, Err}
use Rattle.cla_tables.specs.declared.budget.BudgetFault.{BudgetFault}
use Rattle.cla_tables.specs.declared.budget.BudgetFault.TheVariants.{Over, Memory}

-- a table of so many bytes is within a budget, or it is refused with both numbers; memory may be wanting
abbrev pub Fits : {U : Type 0} → ℕ → ℕ → Result U BudgetFault → Type 0
Fits budget size (Ok u) = size ≤ budget
Fits budget size (Err (Over over)) = (budget < size) × (over ≡ record { needed = size; budget = budget })
Fits budget size (Err Memory) = Unit {0}
