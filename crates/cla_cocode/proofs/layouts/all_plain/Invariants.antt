use Rattle.std.proofs.Common.{◌≡◌}
use Rattle.std.specs.List.{range_with_len}
use Rattle.cla_cocode.proofs.layouts.all_plain.Given as goal

abbrev pub invariant-loop-column : goal.invariant-loop-column
invariant-loop-column l = record { columns : l.columns.items ≡ range_with_len 0 l.column }
