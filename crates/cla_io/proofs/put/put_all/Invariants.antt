use Rattle.std.proofs.Common.{◌≡◌, ◌≤◌, ◌-◌, length, take}
use Rattle.cla_io.specs.Sinks.{Grows}
use Rattle.cla_io.proofs.put.put_all.Given as goal

-- this many bytes were written
abbrev pub invariant-loop-done : goal.invariant-loop-done
invariant-loop-done g l = record {
  within : l.done ≤ length l.piece;
  so_far : Grows (g.O.Sink.told l.fn.out) (g.O.Sink.told l.out) (take l.done l.piece);
  later : g.O.Sink.faults l.fn.out ≤ g.O.Sink.faults l.out;
  steady : g.O.Sink.steady l.out ≡ g.O.Sink.steady l.fn.out;
  kept : g.O.Sink.kept l.fn.out l.out;
  no_fault : g.O.Sink.faults l.out ≡ g.O.Sink.faults l.fn.out;
  empty : length l.piece ≡ 0 → l.out ≡ l.fn.out;
}

abbrev pub decreases-loop-done : goal.decreases-loop-done
decreases-loop-done g l = length l.piece - l.done
