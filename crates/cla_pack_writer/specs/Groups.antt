-- Groups of a table as packed files have them.
use Rattle.std.specs.Prelude.{◌≡◌}
use Rattle.std.specs.List.{AllByRecursion}
use Rattle.std.specs.declared.cmp.Ord as ord
use Rattle.std.specs.declared.cmp.PartialEq as partial_eq
use Rattle.std.specs.declared.cmp.PartialOrd as partial_ord
use Rattle.std.specs.declared.hash.Hash as hash
use Rattle.cla_num.specs.declared.number.Number as number
use Rattle.cla_packed.specs.Files.{PackedGroup}
use Rattle.cla_coded.specs.declared.any_group.AnyGroup.{AnyGroup}
use Rattle.cla_coded.specs.declared.part.Part.{Part}
use Rattle.cla_coded.specs.AnyGroups.{any_codes, any_dictionary, any_form, form_of}
use Rattle.cla_coded.specs.Tables.{TableOf}
use Rattle.cla_pack_writer.specs.Listed.{body_with}

module _ {N : Type 0} {n : number.Ghosts N} {o : ord.Ghosts N} {e : partial_eq.Ghosts N} {p : partial_ord.Ghosts N}
    {h : hash.Ghosts N} where
  -- a part of a table as a group of a packed file
  abbrev pub packed_part : Part (AnyGroup N n o e p h) → PackedGroup
  packed_part part = record {
    kind = (any_form part.group).kind;
    columns = part.columns.items;
    body = body_with (any_codes part.group) (any_dictionary part.group);
  }

  -- a group is kept with the rest that its codes and tuples have by the rule
  abbrev pub HasItsRest : AnyGroup N n o e p h → Type 0
  HasItsRest group =
      (any_form group).rest ≡ (form_of (any_form group).kind (any_codes group) (any_dictionary group)).rest

  -- each group of a table is kept so
  abbrev pub HaveTheirRests : TableOf (AnyGroup N n o e p h) → Type 0
  HaveTheirRests table = AllByRecursion (λ part. HasItsRest part.group) table.parts
