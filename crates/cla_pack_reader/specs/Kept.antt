-- The groups that are read, as they are kept.
use Rattle.std.specs.Prelude.{◌≡◌, List, map}
use Rattle.std.specs.List.{AllByRecursion}
use Rattle.std.specs.declared.cmp.Ord as ord
use Rattle.std.specs.declared.cmp.PartialEq as partial_eq
use Rattle.std.specs.declared.cmp.PartialOrd as partial_ord
use Rattle.std.specs.declared.hash.Hash as hash
use Rattle.cla_num.specs.declared.number.Number as number
use Rattle.cla_layout.specs.declared.kind.Kind.{Kind}
use Rattle.cla_coded.specs.declared.any_group.AnyGroup.{AnyGroup}
use Rattle.cla_coded.specs.declared.part.Part.{Part}
use Rattle.cla_coded.specs.Tables.{TableOf}
use Rattle.cla_coded.specs.AnyGroups.{any_codes, any_dictionary, any_form, form_of}
use Rattle.cla_packed.specs.Bodies.{Body}
use Rattle.cla_packed.specs.Files.{PackedGroup, PackedLayout}

module _ {N : Type 0} {n : number.Ghosts N} {o : ord.Ghosts N} {e : partial_eq.Ghosts N} {p : partial_ord.Ghosts N}
    {h : hash.Ghosts N} where
  abbrev pub body_kept : AnyGroup N n o e p h → Body
  body_kept g = record { codes = any_codes g; tuples = any_dictionary g }

  abbrev pub group_kept : Part (AnyGroup N n o e p h) → PackedGroup
  group_kept part = record {
    kind = (any_form part.group).kind;
    columns = part.columns.items;
    body =
        body_kept part.group;
  }

  -- a group of this kind is kept as one that is made of its codes and tuples
  abbrev pub HasForm : Kind → AnyGroup N n o e p h → Type 0
  HasForm kind g = any_form g ≡ form_of kind (any_codes g) (any_dictionary g)

  abbrev pub HasItsForm : Part (AnyGroup N n o e p h) → Type 0
  HasItsForm part = HasForm (any_form part.group).kind part.group

  abbrev pub HaveTheirForms : List (Part (AnyGroup N n o e p h)) → Type 0
  HaveTheirForms parts = AllByRecursion HasItsForm parts

  abbrev pub layout_kept : TableOf (AnyGroup N n o e p h) → PackedLayout
  layout_kept table = record { rows = table.rows; cols = table.cols; groups = map group_kept table.parts }
