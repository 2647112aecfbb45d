use Rattle.std.proofs.Common.{◌≡◌, ◌<◌, ℕ, List, length}
use Rattle.cla_io.specs.InputFrame.{ReadsOn}
use Rattle.cla_layout.specs.Groups.{code_of}
use Rattle.cla_packed.specs.declared.fault.FieldName.TheVariants.{Column}
use Rattle.cla_packed.specs.Fields.{field_at}
use Rattle.cla_packed.specs.Files.{fits_column}
use Rattle.cla_pack_reader.specs.Marks.{AreMarks, IsLeast, IsNext}
use Rattle.cla_pack_reader.specs.Places.{places_of}
use Rattle.cla_pack_reader.proofs.Steps.{Decides}
use Rattle.cla_pack_reader.proofs.columns.columns_of.Given as goal

-- what is left decides
abbrev pub invariant-loop-j : goal.invariant-loop-j
invariant-loop-j g l =
    let start = g.F.Files.state l.fn.input.files.now in
    let here = g.F.Files.state l.input.files.now in
    let cols = length l.marks in
    record {
      same_reference : l.input.files.ghost_name ≡ l.fn.input.files.ghost_name;
      frame : ReadsOn start here;
      no_fault : here.read_faults ≡ start.read_faults;
      count : length l.columns.items ≡ l.j;
      below : (k : ℕ) → k < length l.columns.items → code_of l.columns.items k < cols;
      so_far : (taken : List ℕ) → AreMarks cols taken l.marks → IsLeast taken l.least
          → IsNext taken l.columns.items l.next
          × Decides (places_of l.fn.input.taken start) (places_of l.input.taken here)
          (λ left so_far. field_at 4 (fits_column cols taken so_far) l.group Column) l.width l.j l.columns.items;
    }
