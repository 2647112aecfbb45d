-- Skeletons: the groups of a table without their values. What an operator costs depends on them alone.
use Rattle.std.specs.Prelude.{ℕ, List, map, Bool}
use Rattle.cla_coded.specs.declared.part.Part.{Part}
use Rattle.cla_coded.specs.declared.skeleton.SkeletonPart.{SkeletonPart}
use Rattle.cla_coded.specs.declared.skeleton.Skeleton.{Skeleton}
use Rattle.cla_coded.specs.Tables.{TableOf}

-- the columns of a group, and the code of each row
pub record PartSkeletonOf : Type 0 where
  pub columns : List ℕ
  pub codes : List ℕ

-- the rows and columns of the base, whether the table is its transpose, and the parts
pub record SkeletonOf : Type 0 where
  pub rows : ℕ
  pub cols : ℕ
  pub flipped : Bool
  pub parts : List PartSkeletonOf

abbrev pub part_skeleton_of : {G : Type 0} → (G → List ℕ) → Part G → PartSkeletonOf
part_skeleton_of codes part = record { columns = part.columns.items; codes = codes part.group }

abbrev pub skeleton_of : {G : Type 0} → (G → List ℕ) → TableOf G → SkeletonOf
skeleton_of codes table = record {
  rows = table.rows;
  cols = table.cols;
  flipped = table.flipped;
  parts = map (part_skeleton_of codes) table.parts;
}

-- skeletons of the program, with a list in place of each vector
abbrev pub view_of_part : SkeletonPart → PartSkeletonOf
view_of_part part = record { columns = part.columns.items; codes = part.codes.items }

abbrev pub view_of : Skeleton → SkeletonOf
view_of skeleton = record {
  rows = skeleton.rows;
  cols = skeleton.cols;
  flipped = skeleton.flipped;
  parts =
      map view_of_part skeleton.parts.items;
}
