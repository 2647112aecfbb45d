use Rattle.std.proofs.Common.{◌≡◌, ◌+◌, drop, length, List, Some}
use Rattle.cla_spec.specs.Files.{Told}
use Rattle.cla_spec.specs.Matrix.{Matrix}
use Rattle.cla_io.specs.Reads.{OnlyReads}
use Rattle.cla_script.specs.Reads.{statements_of}
use Rattle.cla_check.specs.Scripts.{reads_in}
use Rattle.cla_cli.specs.Statements.{files_read}
use Rattle.cla_cli.specs.Outcome.{Outcome, with_tables}
use Rattle.cla_cli.specs.Run.{ReadsOnly}
use Rattle.cla_cli.proofs.ReadLaws.{ReachesRest}
use Rattle.cla_cli.proofs.inputs.read_tables.Given as goal

-- the tables before this statement were read, and those of the rest decide
abbrev pub invariant-loop-statement : goal.invariant-loop-statement
invariant-loop-statement g l = record {
  frame : OnlyReads (g.F.Files.state l.fn.files) (g.F.Files.state l.files);
  no_fault : (g.F.Files.state l.files).read_faults ≡ (g.F.Files.state l.fn.files).read_faults;
  no_miss : (g.F.Files.state l.files).misses ≡ (g.F.Files.state l.fn.files).misses;
  one_each : length l.tables.items + reads_in (statements_of g.N.Number.value (drop l.statement-index l.statements))
      ≡ reads_in (statements_of g.N.Number.value l.statements);
  needed : (told : Told) (next : List Matrix → Outcome) → (g.F.Files.state l.fn.files).told ≡ Some told →
      ReadsOnly (with_tables g.N.Number.BITS l.budget told (files_read (statements_of g.N.Number.value l.statements))
      next).needed
      (g.F.Files.state l.fn.files).reading (g.F.Files.state l.files).reading;
  reached : (told : Told) (next : List Matrix → Outcome) → (g.F.Files.state l.fn.files).told ≡ Some told →
      ReachesRest g.N.Number.BITS l.budget told (files_read (statements_of g.N.Number.value l.statements))
      (files_read (statements_of g.N.Number.value (drop l.statement-index l.statements))) l.tables.items next;
}
