-- What holds of the layouts of matrices by columns and kinds.
use Rattle.std.specs.Prelude.{◌≡◌, ℕ, ◌<◌, List, length, map}
use Rattle.cla_spec.specs.Matrix.{Matrix, IsWellMade}
use Rattle.cla_layout.specs.declared.kind.Kind.{Kind}
use Rattle.cla_layout.specs.Canonical.{IsCanonical, kind_at}
use Rattle.cla_layout.specs.Layouts.{Layout, matrix_in, part_at}
use Rattle.cla_grouping.specs.Partitions.{ArePartitioned}
use Rattle.cla_pack.specs.Layouts.{part_by, layout_by, IsLayoutBy}
use Rattle.cla_pack.specs.Packing.{layout_by_rule, IsLayoutByRule}

-- parted columns of a matrix, in any kinds, have a canonical layout
abbrev pub LayoutsByAreCanonical : Type 0
LayoutsByAreCanonical = (bits : ℕ) (m : Matrix) (columns : List (List ℕ)) (kinds : List Kind) → IsWellMade bits m →
    ArePartitioned m.cols columns → length kinds ≡ length columns →
    IsLayoutBy bits m columns kinds (layout_by m columns kinds)

-- and each canonical layout is that of its matrix by its columns and kinds
abbrev pub CanonicalLayoutsAreBy : Type 0
CanonicalLayoutsAreBy = (bits : ℕ) (layout : Layout) (kinds : List Kind) → IsCanonical bits layout kinds →
    layout ≡ layout_by (matrix_in layout) (map (λ part. part.columns) layout.parts) kinds

-- so is each of its parts
abbrev pub CanonicalPartsAreBy : Type 0
CanonicalPartsAreBy = (bits : ℕ) (layout : Layout) (kinds : List Kind) (q : ℕ) → IsCanonical bits layout kinds →
    q < length layout.parts →
    part_at layout.parts q ≡ part_by (matrix_in layout) (part_at layout.parts q).columns (kind_at kinds q)

-- its columns are parted
abbrev pub CanonicalColumnsArePartitioned : Type 0
CanonicalColumnsArePartitioned = (bits : ℕ) (layout : Layout) (kinds : List Kind) → IsCanonical bits layout kinds →
    ArePartitioned layout.cols (map (λ part. part.columns) layout.parts)

-- the one canonical layout of a matrix with the columns and kinds of its groups is the layout by the rule
abbrev pub OneLayoutByRule : Type 0
OneLayoutByRule = (bits : ℕ) (m : Matrix) → IsWellMade bits m → IsLayoutByRule bits m (layout_by_rule m)
    × ((layout : Layout) → IsLayoutByRule bits m layout → layout ≡ layout_by_rule m)
