-- Cuts of matrices, as contracts see them.
use Rattle.std.specs.Prelude.{◌≡◌, [], ◌∷◌, All, map}
use Rattle.cla_spec.specs.Matrix.{Matrix}
use Rattle.cla_grouping.specs.Tuples.{tuples_in}
use Rattle.cla_grouping.specs.Sizes.{IsLeast, figures_of}
use Rattle.cla_grouping.specs.Grouping.{GroupOf, CutOf, one_plain}
use Rattle.cla_cocode.specs.declared.cut.LayoutGroup.{LayoutGroup}
use Rattle.cla_cocode.specs.declared.cut.Cut.{Cut}

abbrev pub group_seen : LayoutGroup → GroupOf
group_seen g = record { columns = g.columns.items; kind = g.kind; bytes = g.bytes }

abbrev pub cut_seen : Cut → CutOf
cut_seen l = record { rows = l.rows; cols = l.cols; groups = map group_seen l.groups.items }

-- a group's kind is the one of least size for its columns, the lower on a tie, and its bytes are this size
abbrev pub IsLeastGroup : Matrix → GroupOf → Type 0
IsLeastGroup m g = IsLeast (figures_of (tuples_in m g.columns)) (record { kind = g.kind; bytes = g.bytes })

-- so it is of all groups, unless there is the one plain group
abbrev pub AreLeast : Matrix → CutOf → Type 0
AreLeast m cut = (cut.groups ≡ one_plain m.rows m.cols ∷ [] → ⊥) → All (IsLeastGroup m) cut.groups
