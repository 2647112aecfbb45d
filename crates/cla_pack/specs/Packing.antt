-- The packed form of a matrix: its groups by the rule, encoded.
use Rattle.std.specs.Prelude.{ℕ, List, map}
use Rattle.cla_spec.specs.Matrix.{Matrix}
use Rattle.cla_layout.specs.declared.kind.Kind.{Kind}
use Rattle.cla_layout.specs.Layouts.{Layout}
use Rattle.cla_packed.specs.Layouts.{encoded}
use Rattle.cla_grouping.specs.Grouping.{grouping_of}
use Rattle.cla_grouping.specs.Partitions.{columns_in}
use Rattle.cla_pack.specs.Layouts.{layout_by, IsLayoutBy}

-- the kinds of the groups of a matrix
abbrev pub kinds_by_rule : Matrix → List Kind
kinds_by_rule m = map (λ g. g.kind) (grouping_of m).groups

-- the layout of a matrix by the rule that groups columns
abbrev pub layout_by_rule : Matrix → Layout
layout_by_rule m = layout_by m (columns_in (grouping_of m).groups) (kinds_by_rule m)

-- the bytes of the packed file of a matrix
abbrev pub packed_file_of : Matrix → List ℕ
packed_file_of m = encoded 8 (layout_by_rule m) (kinds_by_rule m)

-- a canonical layout of a matrix by the columns and kinds of its groups
abbrev pub IsLayoutByRule : ℕ → Matrix → Layout → Type 0
IsLayoutByRule bits m layout = IsLayoutBy bits m (columns_in (grouping_of m).groups) (kinds_by_rule m) layout
