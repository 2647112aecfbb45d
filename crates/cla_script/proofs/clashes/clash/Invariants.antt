use Rattle.std.proofs.Common.{◌≡◌, drop}
use Rattle.cla_script.specs.Reads.{statements_of}
use Rattle.cla_script.specs.Clashes.{clash_from}
use Rattle.cla_script.proofs.clashes.clash.Given as goal

abbrev pub invariant-loop-statement : goal.invariant-loop-statement
invariant-loop-statement g l = clash_from (statements_of g.N.Number.value l.s.statements.items)
    (statements_of g.N.Number.value (drop l.statement-index l.s.statements.items)) ≡ clash_from
    (statements_of g.N.Number.value l.s.statements.items) (statements_of g.N.Number.value l.s.statements.items)
