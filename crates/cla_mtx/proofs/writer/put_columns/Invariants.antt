use Rattle.std.proofs.Common.{◌≡◌, ◌≤◌, ◌++◌}
use Rattle.cla_print.specs.Parting.{IsParted}
use Rattle.cla_print.specs.Pieces.{pieces}
use Rattle.cla_mtx.specs.Texts.{column_text}
use Rattle.cla_mtx.proofs.writer.put_columns.Given as goal

-- the columns before column j
abbrev pub invariant-loop-j : goal.invariant-loop-j
invariant-loop-j g l = record {
  parted : IsParted (l.fn.buffer ++ pieces (column_text l.m) l.j) (g.O.Sink.told l.fn.out)
      (g.O.Sink.told l.out) l.buffer;
  later : g.O.Sink.faults l.fn.out ≤ g.O.Sink.faults l.out;
  steady : g.O.Sink.steady l.out ≡ g.O.Sink.steady l.fn.out;
  kept : g.O.Sink.kept l.fn.out l.out;
  no_fault : g.O.Sink.faults l.out ≡ g.O.Sink.faults l.fn.out;
}
