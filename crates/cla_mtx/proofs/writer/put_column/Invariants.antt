use Rattle.std.proofs.Common.{◌≡◌, ◌≤◌, ◌++◌}
use Rattle.cla_print.specs.Parting.{IsParted}
use Rattle.cla_print.specs.Pieces.{pieces}
use Rattle.cla_mtx.specs.Texts.{cell_text}
use Rattle.cla_mtx.proofs.writer.put_column.Given as goal

-- the entries before row i
abbrev pub invariant-loop-i : goal.invariant-loop-i
invariant-loop-i g l = record {
  parted : IsParted (l.fn.buffer ++ pieces (cell_text l.m l.j) l.i) (g.O.Sink.told l.fn.out)
      (g.O.Sink.told l.out) l.buffer;
  later : g.O.Sink.faults l.fn.out ≤ g.O.Sink.faults l.out;
  steady : g.O.Sink.steady l.out ≡ g.O.Sink.steady l.fn.out;
  kept : g.O.Sink.kept l.fn.out l.out;
  no_fault : g.O.Sink.faults l.out ≡ g.O.Sink.faults l.fn.out;
}
