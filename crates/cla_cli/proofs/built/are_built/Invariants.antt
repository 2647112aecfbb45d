use Rattle.std.proofs.Common.{◌≡◌, drop}
use Rattle.cla_script.specs.Reads.{statements_of}
use Rattle.cla_cli.specs.Statements.{are_built}
use Rattle.cla_cli.proofs.built.are_built.Given as goal

-- what is left decides
abbrev pub invariant-loop-statement : goal.invariant-loop-statement
invariant-loop-statement g l = are_built (statements_of g.N.Number.value (drop l.statement-index l.statements))
    ≡ are_built (statements_of g.N.Number.value l.statements)
