use Rattle.std.proofs.Common.{◌≡◌, drop}
use Rattle.cla_script.specs.Reads.{statements_of}
use Rattle.cla_script.specs.Clashes.{reads_file}
use Rattle.cla_script.proofs.clashes.reads_file.Given as goal

-- what is left decides
abbrev pub invariant-loop-statement : goal.invariant-loop-statement
invariant-loop-statement g l =
    reads_file (statements_of g.N.Number.value (drop l.statement-index l.statements)) l.file ≡ reads_file
    (statements_of g.N.Number.value l.statements) l.file
