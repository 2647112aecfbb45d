use Rattle.std.proofs.Common.{◌≡◌, ◌*◌, ℕ, List, [], drop, Option, Result}
use Rattle.cla_spec.specs.Files.{Told}
use Rattle.cla_num.specs.Counts.{Counts}
use Rattle.cla_script.specs.Reads.{statements_of}
use Rattle.cla_cli.specs.declared.statements.Halted.{Halted}
use Rattle.cla_cli.specs.Statements.{trace_of, script_work}
use Rattle.cla_cli.specs.Evaluate.{CountsTo, FewMore, statement_most}
use Rattle.cla_cli.specs.Runs.{Runs}
use Rattle.cla_cli.proofs.statements.run_statements.Given as goal

-- what is left decides
abbrev pub invariant-loop-statement : goal.invariant-loop-statement
invariant-loop-statement g l = record {
  runs : (told : Told) (end : Option (List ℕ)) (result : Result (Unit {0}) Halted) →
      Runs told
      (trace_of g.N.Number.BITS l.names.items (statements_of g.N.Number.value (drop l.statement-index l.statements))
      l.tables)
      (g.O.Sink.told l.out) end result →
      Runs told (trace_of g.N.Number.BITS [] (statements_of g.N.Number.value l.statements) l.fn.tables)
      (g.O.Sink.told l.fn.out) end result;
  counts : (now : Counts) (result : Result (Unit {0}) Halted) →
      CountsTo (script_work l.names.items (statements_of g.N.Number.value (drop l.statement-index l.statements))
      l.tables)
      l.meter now result →
      CountsTo (script_work [] (statements_of g.N.Number.value l.statements) l.fn.tables) l.fn.meter now result;
  few : FewMore (l.statement-index * statement_most) l.fn.meter l.meter;
  no_fault : g.O.Sink.faults l.out ≡ g.O.Sink.faults l.fn.out;
  steady : g.O.Sink.steady l.out ≡ g.O.Sink.steady l.fn.out;
  kept : g.O.Sink.kept l.fn.out l.out;
}
