use Rattle.std.proofs.Common.{◌≡◌, ℤ, ◌+◌, List, ◌++◌, length, map, Bool}
use Rattle.cla_io.specs.InputFrame.{ReadsOn}
use Rattle.cla_packed.specs.Values.{value_at, fits_value}
use Rattle.cla_pack_reader.specs.Places.{places_of}
use Rattle.cla_pack_reader.proofs.Steps.{Decides}
use Rattle.cla_pack_reader.proofs.values.tuple.Given as goal

-- what is left decides
abbrev pub invariant-loop-j : goal.invariant-loop-j
invariant-loop-j g l =
    let start = g.F.Files.state l.fn.input.files.now in
    let here = g.F.Files.state l.input.files.now in
    let value = g.N.Number.value in
    let bits = g.N.Number.BITS in
    record {
      same_reference : l.input.files.ghost_name ≡ l.fn.input.files.ghost_name;
      frame : ReadsOn start here;
      no_fault : here.read_faults ≡ start.read_faults;
      count : length l.values.items ≡ length l.fn.values.items + l._j;
      so_far : (whole : List ℤ → Bool) → (so_far : List ℤ)
          × (map value l.values.items ≡ map value l.fn.values.items ++ so_far) × (length so_far ≡ l._j)
          × Decides (places_of l.fn.input.taken start) (places_of l.input.taken here)
          (λ left so_far. value_at 8 (fits_value bits whole left so_far) l.group) l.width l._j so_far;
    }
