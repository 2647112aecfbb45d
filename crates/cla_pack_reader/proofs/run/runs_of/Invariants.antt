use Rattle.std.proofs.Common.{◌≡◌, ℕ, ◌++◌, ◌∷◌, List, [], length}
use Rattle.cla_io.specs.InputFrame.{ReadsOn}
use Rattle.cla_packed.specs.Runs.{Run, run_at, rows_of_runs}
use Rattle.cla_pack_reader.specs.ListedRows.{AreRunsOf}
use Rattle.cla_pack_reader.specs.Places.{places_of}
use Rattle.cla_pack_reader.specs.Runs.{AreRunsSoFar, IsRunState}
use Rattle.cla_pack_reader.proofs.Steps.{Decides}
use Rattle.cla_pack_reader.proofs.run.runs_of.Given as goal

-- what is left decides
abbrev pub invariant-loop-r : goal.invariant-loop-r
invariant-loop-r g l =
    let start = g.F.Files.state l.fn.input.files.now in
    let here = g.F.Files.state l.input.files.now in
    let rows = length l.fn.marks in
    record {
      same_reference : l.input.files.ghost_name ≡ l.fn.input.files.ghost_name;
      frame : ReadsOn start here;
      no_fault : here.read_faults ≡ start.read_faults;
      size : length l.marks ≡ rows;
      so_far : (earlier : List (List ℕ)) → AreRunsSoFar rows earlier l.fn.marks l.fn.runs.items l.floor
          → length earlier ≡ l.t
          → (runs : List Run) × IsRunState earlier runs l.marks l.walk l.floor
          × AreRunsOf rows (earlier ++ rows_of_runs 0 runs ∷ []) l.runs.items
          × Decides (places_of l.fn.input.taken start) (places_of l.input.taken here)
          (λ left so_far. run_at rows l.group earlier so_far) l.n l._r runs;
    }
