use Rattle.std.proofs.Common.{◌≡◌, ℕ, List, [], length}
use Rattle.cla_io.specs.InputFrame.{ReadsOn}
use Rattle.cla_packed.specs.Offsets.{segment_at, segments, joined}
use Rattle.cla_pack_reader.specs.Segments.{IsOffsetState}
use Rattle.cla_pack_reader.specs.Walks.{at_start}
use Rattle.cla_pack_reader.specs.Places.{places_of}
use Rattle.cla_pack_reader.proofs.Steps.{Decides}
use Rattle.cla_pack_reader.proofs.list.list_of.Given as goal

-- what is left decides
abbrev pub invariant-loop-s : goal.invariant-loop-s
invariant-loop-s g l =
    let start = g.F.Files.state l.fn.input.files.now in
    let here = g.F.Files.state l.input.files.now in
    let rows = length l.fn.marks in
    record {
      same_reference : l.input.files.ghost_name ≡ l.fn.input.files.ghost_name;
      frame : ReadsOn start here;
      no_fault : here.read_faults ≡ start.read_faults;
      size : length l.marks ≡ rows;
      so_far : (earlier : List (List ℕ)) → IsOffsetState earlier [] l.fn.marks l.fn.places.items at_start l.floor
          → (segs : List (List ℕ)) × (length segs ≡ l.s)
          × IsOffsetState earlier (joined segs) l.marks l.places.items l.walk l.floor
          × Decides (places_of l.fn.input.taken start) (places_of l.input.taken here)
          (segment_at 32768 rows l.group earlier) (segments 32768 rows) l.s segs;
    }
