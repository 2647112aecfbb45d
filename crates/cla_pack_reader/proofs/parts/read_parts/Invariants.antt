use Rattle.std.proofs.Common.{◌≡◌, ◌+◌, ◌-◌, ◌≤◌, length, map}
use Rattle.cla_io.specs.InputFrame.{ReadsOn}
use Rattle.cla_packed.specs.Files.{columns_of, group_at}
use Rattle.cla_pack_reader.specs.Kept.{group_kept, HaveTheirForms}
use Rattle.cla_pack_reader.specs.Places.{places_of}
use Rattle.cla_pack_reader.specs.Taken.{HasTaken}
use Rattle.cla_pack_reader.proofs.Steps.{Decides}
use Rattle.cla_pack_reader.proofs.parts.read_parts.Given as goal

-- what is left decides
abbrev pub invariant-loop-g : goal.invariant-loop-g
invariant-loop-g g l =
    let start = g.F.Files.state l.fn.input.files.now in
    let here = g.F.Files.state l.input.files.now in
    let groups = map group_kept l.parts.items in
    record {
      same_reference : l.input.files.ghost_name ≡ l.fn.input.files.ghost_name;
      frame : ReadsOn start here;
      no_fault : here.read_faults ≡ start.read_faults;
      forms : HaveTheirForms l.parts.items;
      count : length l.parts.items ≡ l.g;
      room : l.taken.count + (l.header.groups - l.g) ≤ l.header.cols;
      taken : HasTaken l.header.cols (columns_of groups) l.taken;
      so_far : Decides (places_of l.fn.input.taken start) (places_of l.input.taken here)
          (group_at 8 g.N.Number.BITS l.header.rows l.header.cols) l.header.groups l.g groups;
    }
