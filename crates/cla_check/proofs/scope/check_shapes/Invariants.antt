use Rattle.std.proofs.Common.{◌≡◌, drop}
use Rattle.cla_script.specs.Reads.{statements_of}
use Rattle.cla_check.specs.Scripts.{first_shape_fault, shape_fault_after}
use Rattle.cla_check.specs.Scopes.{scope_of}
use Rattle.cla_check.proofs.scope.check_shapes.Given as goal

-- what is left decides
abbrev pub invariant-loop-statement : goal.invariant-loop-statement
invariant-loop-statement g l =
    shape_fault_after (scope_of l.scope) (statements_of g.N.Number.value (drop l.statement-index l.statements))
    ≡ first_shape_fault (statements_of g.N.Number.value l.statements) l.fn.inputs
