use Rattle.std.proofs.Common.{◌≡◌, ◌-◌, ◌+◌, [], length}
use Rattle.cla_io.specs.State.{left}
use Rattle.cla_io.specs.InputFrame.{ReadsOn}
use Rattle.cla_io.specs.Lines.{SameBytes}
use Rattle.cla_io.specs.Window.{items}
use Rattle.cla_io.proofs.gather.read_all.Given as goal

-- all that is held stands in `all`
abbrev pub invariant-loop-window : goal.invariant-loop-window
invariant-loop-window g l = record {
  frame : ReadsOn (g.F.Files.state l.fn.files) (g.F.Files.state l.files);
  no_fault : (g.F.Files.state l.files).read_faults ≡ (g.F.Files.state l.fn.files).read_faults;
  empty : items l.window ≡ [];
  content : SameBytes (items l.fn.window) (left (g.F.Files.state l.fn.files)) l.all.items
      (left (g.F.Files.state l.files));
}

-- how many bytes may still come
abbrev pub decreases-loop-window : goal.decreases-loop-window
decreases-loop-window g l = l.limit + 1 - length l.all.items
