-- The exit status of each status.
use Rattle.std.specs.Prelude.{ℕ}
use Rattle.cla_cli.specs.declared.status.Status.{Status}
use Rattle.cla_cli.specs.declared.status.Status.TheVariants.{Done, Memory, Usage, Missing, ReadFault, WriteFault}
use Rattle.cla_cli.specs.declared.status.Status.TheVariants.{BadScript, BadFile, Limit, Operator, OverBudget}

abbrev pub code_of : Status → ℕ
code_of Done = 0
code_of Memory = 1
code_of Usage = 2
code_of Missing = 3
code_of ReadFault = 4
code_of WriteFault = 5
code_of (BadScript place kind) = 6
code_of (BadFile f) = 7
code_of Limit = 8
code_of (Operator place fault) = 9
code_of (OverBudget needed budget) = 10
