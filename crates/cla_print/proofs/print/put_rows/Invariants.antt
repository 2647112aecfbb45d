use Rattle.std.proofs.Common.{◌≡◌, ◌≤◌, ◌++◌}
use Rattle.cla_layout.specs.Groups.{cell_of}
use Rattle.cla_print.specs.Parting.{IsParted}
use Rattle.cla_print.specs.Texts.{rows_text}
use Rattle.cla_print.proofs.print.put_rows.Given as goal

-- the rows before row i
abbrev pub invariant-loop-i : goal.invariant-loop-i
invariant-loop-i g l =
    let cells = cell_of (g.G.Group.codes l.g) (g.G.Group.dictionary l.g) in
    record {
      parted : IsParted (l.fn.buffer ++ rows_text l.i (g.G.Group.columns l.g) cells)
          (g.O.Sink.told l.fn.out) (g.O.Sink.told l.out) l.buffer;
      later : g.O.Sink.faults l.fn.out ≤ g.O.Sink.faults l.out;
      steady : g.O.Sink.steady l.out ≡ g.O.Sink.steady l.fn.out;
      kept : g.O.Sink.kept l.fn.out l.out;
      no_fault : g.O.Sink.faults l.out ≡ g.O.Sink.faults l.fn.out;
    }
