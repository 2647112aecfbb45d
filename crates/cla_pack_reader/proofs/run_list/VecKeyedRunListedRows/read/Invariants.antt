use Rattle.std.proofs.Common.{◌≡◌, List, length, ℕ}
use Rattle.cla_io.specs.InputFrame.{ReadsOn}
use Rattle.cla_packed.specs.Runs.{runs_at}
use Rattle.cla_pack_reader.specs.Places.{places_of}
use Rattle.cla_pack_reader.specs.Runs.{AreRunsSoFar}
use Rattle.cla_pack_reader.proofs.Steps.{Decides}
use Rattle.cla_pack_reader.proofs.run_list.VecKeyedRunListedRows.read.Given as goal

-- what is left decides
abbrev pub invariant-loop-t : goal.invariant-loop-t
invariant-loop-t g l =
    let start = g.F.Files.state l.fn.input.files.now in
    let here = g.F.Files.state l.input.files.now in
    record {
      same_reference : l.input.files.ghost_name ≡ l.fn.input.files.ghost_name;
      frame : ReadsOn start here;
      no_fault : here.read_faults ≡ start.read_faults;
      size : length l.marks ≡ l.rows;
      so_far : (lists : List (List ℕ)) × AreRunsSoFar l.rows lists l.marks l.listed.items l.floor
          × (length lists ≡ l.t) × Decides (places_of l.fn.input.taken start) (places_of l.input.taken here)
          (λ left earlier. runs_at l.rows l.group earlier) l.d l.t lists;
    }
