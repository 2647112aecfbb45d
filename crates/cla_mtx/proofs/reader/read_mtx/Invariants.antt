use Rattle.std.proofs.Common.{◌≡◌, ◌≤◌, ◌+◌, ◌-◌, ◌^◌}
use Rattle.cla_io.specs.State.{left}
use Rattle.cla_io.specs.InputFrame.{ReadsOn}
use Rattle.cla_io.specs.Lines.{ahead_of}
use Rattle.cla_mtx.specs.Phases.{IsReadyPhase, LeftDecides}
use Rattle.cla_mtx.proofs.reader.read_mtx.Given as goal

-- what is left decides (an input has taken at least as many bytes as lines, as `next_line` says)
abbrev pub invariant-lines : goal.invariant-lines
invariant-lines g l =
    let start = g.F.Files.state l.fn.input.files.now in
    let here = g.F.Files.state l.input.files.now in
    record {
      same_reference : l.input.files.ghost_name ≡ l.fn.input.files.ghost_name;
      frame : ReadsOn start here;
      no_fault : here.read_faults ≡ start.read_faults;
      same_limit : l.input.taken.limit ≡ l.fn.input.taken.limit;
      ready : IsReadyPhase g.N.Number.BITS l.phase;
      so_far : l.input.taken.lines ≤ l.input.taken.at → LeftDecides g.N.Number.BITS l.fn.input.taken.limit
          l.input.taken.at (l.input.taken.lines + 1) l.phase
          (ahead_of l.input.taken (left here)) (ahead_of l.fn.input.taken (left start));
    }

-- how many lines may still come: the number of a line fits 64 bits
abbrev pub decreases-lines : goal.decreases-lines
decreases-lines g l = 2 ^ 64 - l.input.taken.lines
