use Rattle.std.proofs.Common.{◌≡◌, ◌-◌, ◌+◌, ◌≤◌, length}
use Rattle.cla_io.specs.State.{left}
use Rattle.cla_io.specs.InputFrame.{ReadsOn}
use Rattle.cla_io.specs.Lines.{SameBytes}
use Rattle.cla_io.specs.Window.{items, size_of}
use Rattle.cla_io.proofs.numbers.hold.Given as goal

abbrev pub invariant-loop-window : goal.invariant-loop-window
invariant-loop-window g l = record {
  frame : ReadsOn (g.F.Files.state l.fn.files) (g.F.Files.state l.files);
  no_fault : (g.F.Files.state l.files).read_faults ≡ (g.F.Files.state l.fn.files).read_faults;
  roomy : 8 ≤ size_of l.window;
  content : SameBytes (items l.fn.window) (left (g.F.Files.state l.fn.files)) (items l.window)
      (left (g.F.Files.state l.files));
}

-- how many bytes are wanting
abbrev pub decreases-loop-window : goal.decreases-loop-window
decreases-loop-window g l = l.n - length (items l.window)
