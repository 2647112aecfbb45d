use Rattle.std.proofs.Common.{◌≡◌, length, map}
use Rattle.cla_io.specs.InputFrame.{ReadsOn}
use Rattle.cla_layout.specs.Tuples.{tuples_of}
use Rattle.cla_packed.specs.Values.{tuple_at}
use Rattle.cla_pack_reader.specs.Hashes.{AreHashed}
use Rattle.cla_pack_reader.specs.Places.{places_of}
use Rattle.cla_pack_reader.specs.Tuples.{fits_tuple}
use Rattle.cla_pack_reader.proofs.Steps.{Decides}
use Rattle.cla_pack_reader.proofs.tuples.tuples.Given as goal

-- what is left decides
abbrev pub invariant-loop-k : goal.invariant-loop-k
invariant-loop-k g l =
    let start = g.F.Files.state l.fn.input.files.now in
    let here = g.F.Files.state l.input.files.now in
    let value = g.N.Number.value in
    let bits = g.N.Number.BITS in
    let tuples = tuples_of l.width l._k (map value l.values.items) in
    record {
      same_reference : l.input.files.ghost_name ≡ l.fn.input.files.ghost_name;
      frame : ReadsOn start here;
      no_fault : here.read_faults ≡ start.read_faults;
      many : length l.seen ≡ l._k;
      hashed : AreHashed g.N.Hash.hash_input l.width l.values.items l.seen;
      so_far : Decides (places_of l.fn.input.taken start) (places_of l.input.taken here)
          (λ left before. tuple_at 8 bits l.group l.width (fits_tuple l.listed before)) l.n l._k tuples;
    }
