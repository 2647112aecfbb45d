-- The outlines of parts: all but the values of their tuples.
use Rattle.std.specs.Prelude.{ℕ, List}
use Rattle.cla_coded.specs.declared.part.Part.{Part}

-- the columns of a part, how many its group has, and the code of each row
pub record OutlineOf : Type 0 where
  pub columns : List ℕ
  pub width : ℕ
  pub codes : List ℕ

abbrev pub outline : {G : Type 0} → (G → ℕ) → (G → List ℕ) → Part G → OutlineOf
outline width codes part = record { columns = part.columns.items; width = width part.group; codes = codes part.group }
