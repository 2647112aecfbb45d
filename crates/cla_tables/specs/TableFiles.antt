-- What the file of a table holds: a packed file exactly where it begins with the magic, and else Matrix Market text.
use Rattle.std.specs.Prelude.{ℕ, List, length, map, Bool, Result, Ok, Err, nat_eq, if◌then◌else◌}
use Rattle.std.specs.List.{starts_with}
use Rattle.cla_spec.specs.Bytes as numbers
use Rattle.cla_spec.specs.Matrix.{Matrix}
use Rattle.cla_layout.specs.Layouts.{matrix_in}
use Rattle.cla_market.specs.declared.fault.MtxFault.{MtxFault}
use Rattle.cla_market.specs.Texts as market
use Rattle.cla_packed.specs.declared.fault.PackFault.{PackFault}
use Rattle.cla_packed.specs.Fields.{whole_at}
use Rattle.cla_packed.specs.Files.{PackedGroup, PackedLayout, magic, file_at}
use Rattle.cla_packed.specs.Layouts.{layout_in}
use Rattle.cla_grouping.specs.Tuples.{tuples_in}
use Rattle.cla_grouping.specs.Sizes.{figures_of, bytes_of}
use Rattle.cla_grouping.specs.Grouping.{GroupOf, grouping_of, packed_size}
use Rattle.cla_tables.specs.declared.fault.FileFault.{FileFault}
use Rattle.cla_tables.specs.declared.fault.FileFault.TheVariants.{Mtx, Pack}

pub record TableFile : Type 0 where
  -- the matrix that it is
  pub matrix : Matrix
  -- its groups: as the file keeps them, or as the rule cuts the matrix of a text
  pub groups : List GroupOf
  -- its packed size: the bytes of the file, or those that a packed file of the matrix of a text has
  pub bytes : ℕ

-- a text of this matrix
abbrev pub of_matrix : Matrix → TableFile
of_matrix m = record { matrix = m; groups = (grouping_of m).groups; bytes = packed_size (grouping_of m) }

-- a group of a packed file, with the bytes that its columns take in its kind
abbrev pub group_of : Matrix → PackedGroup → GroupOf
group_of m g = record {
  columns = g.columns;
  kind = g.kind;
  bytes =
      bytes_of g.kind (figures_of (tuples_in m g.columns));
}

-- a packed file of so many bytes with this layout
abbrev pub of_layout : ℕ → PackedLayout → TableFile
of_layout n l =
    let m = matrix_in (layout_in l) in
    record { matrix = m; groups = map (group_of m) l.groups; bytes = n }

-- a packed file begins with the 8 bytes of the magic
abbrev pub begins_packed : List ℕ → Bool
begins_packed bytes = starts_with nat_eq bytes (numbers.bytes_of 8 magic)

abbrev pub text_or_fault : Result Matrix MtxFault → Result TableFile FileFault
text_or_fault (Ok m) = Ok (of_matrix m)
text_or_fault (Err fault) = Err (Mtx fault)

abbrev pub packed_or_fault : ℕ → Result PackedLayout PackFault → Result TableFile FileFault
packed_or_fault n (Ok l) = Ok (of_layout n l)
packed_or_fault n (Err fault) = Err (Pack fault)

-- what these bytes hold as a table, with values in range of so many bits and no more bytes than a limit; or the first
-- fault
abbrev pub table_in : ℕ → ℕ → List ℕ → Result TableFile FileFault
table_in bits limit bytes = if begins_packed bytes
    then packed_or_fault (length bytes) (whole_at (file_at 8 bits) limit bytes)
    else text_or_fault (market.matrix_in bits limit bytes)
