use Rattle.std.proofs.Common.{◌≡◌, ◌≤◌, ◌++◌}
use Rattle.cla_layout.specs.Groups.{value_of}
use Rattle.cla_print.specs.Parting.{IsParted}
use Rattle.cla_print.specs.Pieces.{pieces, entry_piece}
use Rattle.cla_print.proofs.print.put_row.Given as goal

-- the entries before column c
abbrev pub invariant-loop-c : goal.invariant-loop-c
invariant-loop-c g l = record {
  parted : IsParted (l.fn.buffer ++ pieces (entry_piece l.cols (value_of (g.G.Group.dictionary l.g) l.k)) l.c)
      (g.O.Sink.told l.fn.out) (g.O.Sink.told l.out) l.buffer;
  later : g.O.Sink.faults l.fn.out ≤ g.O.Sink.faults l.out;
  steady : g.O.Sink.steady l.out ≡ g.O.Sink.steady l.fn.out;
  kept : g.O.Sink.kept l.fn.out l.out;
  no_fault : g.O.Sink.faults l.out ≡ g.O.Sink.faults l.fn.out;
}
