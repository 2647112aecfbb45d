use Rattle.std.proofs.Common.{◌≡◌, ℕ, ◌*◌, ◌++◌, List, length}
use Rattle.cla_io.specs.InputFrame.{ReadsOn}
use Rattle.cla_packed.specs.Offsets.{row_at, joined, segment_rows}
use Rattle.cla_pack_reader.specs.Segments.{IsOffsetState}
use Rattle.cla_pack_reader.specs.Places.{places_of}
use Rattle.cla_pack_reader.proofs.Steps.{Decides}
use Rattle.cla_pack_reader.proofs.segment.offsets_of.Given as goal

-- what is left decides
abbrev pub invariant-loop-j : goal.invariant-loop-j
invariant-loop-j g l =
    let start = g.F.Files.state l.fn.input.files.now in
    let here = g.F.Files.state l.input.files.now in
    let all = length l.fn.marks in
    record {
      same_reference : l.input.files.ghost_name ≡ l.fn.input.files.ghost_name;
      frame : ReadsOn start here;
      no_fault : here.read_faults ≡ start.read_faults;
      size : length l.marks ≡ all;
      so_far : (size : ℕ) (earlier before : List (List ℕ)) → l.base ≡ length before * size
          → l.rows ≡ segment_rows size all (length before)
          → IsOffsetState earlier (joined before) l.fn.marks l.fn.places.items l.fn.walk l.floor
          → (list : List ℕ) × IsOffsetState earlier (joined before ++ list) l.marks l.places.items l.walk l.floor
          × Decides (places_of l.fn.input.taken start) (places_of l.input.taken here)
          (λ left so_far. row_at size all l.group earlier before so_far) l.n l._j list;
    }
