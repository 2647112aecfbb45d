use Rattle.std.proofs.Common.{◌≡◌, ◌≤◌, ◌+◌, ◌-◌, ◌^◌}
use Rattle.cla_io.specs.State.{left}
use Rattle.cla_io.specs.Lines.{ahead_of}
use Rattle.cla_mtx.specs.Phases.{IsReady, EntriesDecide}
use Rattle.cla_mtx.proofs.plain.take_plain.Given as goal

-- what is left decides, if it did before
abbrev pub invariant-plain : goal.invariant-plain
invariant-plain g l =
    let bits = g.N.Number.BITS in
    let p = l.fn.input.taken in
    let q = l.input.taken in
    let before = ahead_of p (left (g.F.Files.state l.fn.input.files.now)) in
    let after = ahead_of q (left (g.F.Files.state l.input.files.now)) in
    record {
      same_reference : l.input.files.ghost_name ≡ l.fn.input.files.ghost_name;
      same_files : l.input.files.now ≡ l.fn.input.files.now;
      same_limit : q.limit ≡ p.limit;
      ready : IsReady bits l.entries;
      later : p.lines ≤ q.lines;
      so_far : (whole : _) → EntriesDecide bits p.limit p.at (p.lines + 1) l.fn.entries before whole
          → EntriesDecide bits p.limit q.at (q.lines + 1) l.entries after whole;
    }

-- how many lines may still come: the number of a line fits 64 bits
abbrev pub decreases-plain : goal.decreases-plain
decreases-plain g l = 2 ^ 64 - l.input.taken.lines
