use Rattle.std.proofs.Common.{◌≡◌, take, map}
use Rattle.std.specs.Prelude.{All}
use Rattle.cla_check.specs.Scripts.{IsInLimits}
use Rattle.cla_cli.specs.Outcome.{shape_of_table}
use Rattle.cla_cli.proofs.inputs.shapes_of.Given as goal

-- the shapes of the tables so far
abbrev pub invariant-loop-table : goal.invariant-loop-table
invariant-loop-table g l = record {
  shapes : l.shapes.items ≡ map shape_of_table (take l.table-index l.tables);
  limits : All IsInLimits l.shapes.items;
}
