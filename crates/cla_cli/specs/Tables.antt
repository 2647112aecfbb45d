-- Tables that are kept loose: as one group of all their columns.
use Rattle.std.specs.Prelude.{◌≡◌, ℕ, ℤ, ◌∷◌, [], false, Some, None, Result, Ok, Err}
use Rattle.std.specs.List.{range_with_len}
use Rattle.cla_spec.specs.Matrix.{Matrix, scaled}
use Rattle.cla_num.specs.Counts.{Counts}
use Rattle.cla_num.specs.declared.fault.Refused.{Refused}
use Rattle.cla_num.specs.declared.fault.Refused.TheVariants.{Op, Memory}
use Rattle.cla_coded.specs.Skeletons.{SkeletonOf}
use Rattle.cla_meaning.specs.Counts.{HasMaps, HasMapsUpTo}
use Rattle.cla_cli.specs.Statements.{product_fault}

-- the skeleton of a table that isn't flipped and is one group of all columns, with a code of its own for each row
abbrev pub loose_skeleton : ℕ → ℕ → SkeletonOf
loose_skeleton rows cols = record {
  rows = rows;
  cols = cols;
  flipped = false;
  parts = record { columns = range_with_len 0 cols; codes = range_with_len 0 rows } ∷ [];
}

abbrev pub IsLoose : SkeletonOf → Type 0
IsLoose skeleton = skeleton ≡ loose_skeleton skeleton.rows skeleton.cols

-- the product of a matrix and an integer, or its first fault; memory may be wanting
abbrev pub AnswersProduct : ℕ → Matrix → ℤ → Result Matrix Refused → Type 0
AnswersProduct bits m k (Ok t) = (t ≡ scaled m k) × (product_fault bits m k ≡ None)
AnswersProduct bits m k (Err (Op fault)) = product_fault bits m k ≡ Some fault
AnswersProduct bits m k (Err Memory) = Unit {0}

-- n map evaluations were made, or at most as many where the call was refused
abbrev pub MapsOrFewer : {T : Type 0} → ℕ → Counts → Counts → Result T Refused → Type 0
MapsOrFewer n before now (Ok x) = HasMaps n before now
MapsOrFewer n before now (Err refused) = HasMapsUpTo n before now
