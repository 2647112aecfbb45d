use Rattle.std.proofs.Common.{◌≡◌}
use Rattle.cla_io.specs.InputFrame.{ReadsOn}
use Rattle.cla_packed.specs.declared.fault.FieldName.TheVariants.{Code}
use Rattle.cla_packed.specs.Codes.{different, fits_code}
use Rattle.cla_packed.specs.Fields.{field_at}
use Rattle.cla_packed_laws.proofs.Codes.{AreThoseBelow}
use Rattle.cla_pack_reader.specs.Places.{places_of}
use Rattle.cla_pack_reader.proofs.Steps.{Decides}
use Rattle.cla_pack_reader.proofs.codes.codes_of.Given as goal

-- what is left decides
abbrev pub invariant-loop-i : goal.invariant-loop-i
invariant-loop-i g l =
    let start = g.F.Files.state l.fn.input.files.now in
    let here = g.F.Files.state l.input.files.now in
    record {
      same_reference : l.input.files.ghost_name ≡ l.fn.input.files.ghost_name;
      frame : ReadsOn start here;
      width : l.codes.width ≡ l.k;
      no_fault : here.read_faults ≡ start.read_faults;
      seen : l.seen ≡ different l.codes.codes;
      below : AreThoseBelow (different l.codes.codes) l.codes.codes;
      so_far : Decides (places_of l.fn.input.taken start) (places_of l.input.taken here)
          (λ left so_far. field_at l.k (fits_code l.d left so_far) l.group Code) l.rows l.i l.codes.codes;
    }
