-- The layout of a matrix by columns and their kinds.
use Rattle.std.specs.Prelude.{◌≡◌, ℕ, ℤ, List, [], ◌∷◌, map}
use Rattle.std.specs.List.{range_with_len}
use Rattle.cla_spec.specs.Matrix.{Matrix}
use Rattle.cla_layout.specs.declared.kind.Kind.{Kind}
use Rattle.cla_layout.specs.declared.kind.Kind.TheVariants as kind
use Rattle.cla_layout.specs.Canonical.{IsCanonical}
use Rattle.cla_layout.specs.Layouts.{LayoutPart, Layout, layout_with, matrix_in}
use Rattle.cla_grouping.specs.Tuples.{tuples_in, tuple_in_row, distinct_tuples}

-- the code of each row in these columns: a plain group has a tuple for each row, the others have each tuple once
abbrev pub codes_in_kind : Kind → Matrix → List ℕ → List ℕ
codes_in_kind kind.Plain m columns = range_with_len 0 m.rows
codes_in_kind kind.Codes m columns = (tuples_in m columns).codes
codes_in_kind kind.Offsets m columns = (tuples_in m columns).codes
codes_in_kind kind.Runs m columns = (tuples_in m columns).codes

-- and the tuples, by the first rows that have them
abbrev pub tuples_in_kind : Kind → Matrix → List ℕ → List (List ℤ)
tuples_in_kind kind.Plain m columns = map (tuple_in_row m columns) (range_with_len 0 m.rows)
tuples_in_kind kind.Codes m columns = distinct_tuples m columns
tuples_in_kind kind.Offsets m columns = distinct_tuples m columns
tuples_in_kind kind.Runs m columns = distinct_tuples m columns

-- these columns of a matrix as a group of this kind
abbrev pub part_by : Matrix → List ℕ → Kind → LayoutPart
part_by m columns k = record {
  columns = columns;
  codes = codes_in_kind k m columns;
  tuples =
      tuples_in_kind k m columns;
}

-- lists of columns, each in its kind
abbrev pub parts_by : Matrix → List (List ℕ) → List Kind → List LayoutPart
parts_by m [] kinds = []
parts_by m (columns ∷ more) [] = []
parts_by m (columns ∷ more) (k ∷ kinds) = part_by m columns k ∷ parts_by m more kinds

abbrev pub layout_by : Matrix → List (List ℕ) → List Kind → Layout
layout_by m columns kinds = layout_with m.rows m.cols (parts_by m columns kinds)

-- a canonical layout of a matrix by these columns and kinds
pub record IsLayoutBy (bits : ℕ) (m : Matrix) (columns : List (List ℕ)) (kinds : List Kind) (layout : Layout) : Type 0
  where
    pub canonical : IsCanonical bits layout kinds
    pub matrix : matrix_in layout ≡ m
    pub has_columns : map (λ part. part.columns) layout.parts ≡ columns
