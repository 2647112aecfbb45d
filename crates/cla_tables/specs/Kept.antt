-- Tables that were read, as they are kept.
use Rattle.std.specs.Prelude.{◌≡◌, false}
use Rattle.std.specs.declared.cmp.Ord as ord
use Rattle.std.specs.declared.cmp.PartialEq as partial_eq
use Rattle.std.specs.declared.cmp.PartialOrd as partial_ord
use Rattle.std.specs.declared.hash.Hash as hash
use Rattle.cla_num.specs.declared.number.Number as number
use Rattle.cla_layout.specs.Canonical.{IsCanonical}
use Rattle.cla_coded.specs.AnyGroups.{any_codes, any_dictionary}
use Rattle.cla_coded.specs.Forms.{kinds_of}
use Rattle.cla_coded.specs.Tables.{layout_of}
use Rattle.cla_pack_reader.specs.Kept.{layout_kept, HaveTheirForms}
use Rattle.cla_tables.specs.declared.kept.Kept.{Kept}
use Rattle.cla_tables.specs.declared.kept.Kept.TheVariants.{Text, Packed}
use Rattle.cla_tables.specs.TableFiles.{TableFile, of_matrix, of_layout}

module _ {N : Type 0} {n : number.Ghosts N} {o : ord.Ghosts N} {e : partial_eq.Ghosts N} {p : partial_ord.Ghosts N}
    {h : hash.Ghosts N} where
  abbrev pub file_kept : Kept N n o e p h → TableFile
  file_kept (Text m) = of_matrix m
  file_kept (Packed packed) = of_layout packed.bytes (layout_kept packed.table)

  -- the table of a packed file isn't a transpose, its groups are kept in the forms of their kinds, and it is in the one
  -- form
  abbrev pub IsKept : Kept N n o e p h → Type 0
  IsKept (Text m) = Unit {0}
  IsKept (Packed packed) = (packed.table.flipped ≡ false) × HaveTheirForms packed.table.parts
      × IsCanonical n.BITS (layout_of any_codes any_dictionary packed.table) (kinds_of packed.table)
