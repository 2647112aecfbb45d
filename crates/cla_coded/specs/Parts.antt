-- Parts of tables, as contracts see them.
use Rattle.std.specs.Prelude.{ℕ, ℤ, List, map}
use Rattle.cla_coded.specs.declared.part.Part.{Part}
use Rattle.cla_layout.specs.Layouts.{LayoutPart}

abbrev pub part_of : {G : Type 0} → (G → List ℕ) → (G → List (List ℤ)) → Part G → LayoutPart
part_of codes_of dictionary_of part = record {
  columns = part.columns.items;
  codes = codes_of part.group;
  tuples =
      dictionary_of part.group;
}

abbrev pub parts_of : {G : Type 0} → (G → List ℕ) → (G → List (List ℤ)) → List (Part G) → List LayoutPart
parts_of codes_of dictionary_of parts = map (part_of codes_of dictionary_of) parts
